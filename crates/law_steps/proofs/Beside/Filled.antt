-- The values of a postlog, written over the cells as they were before the block, give the cells as they are after it.
use Rattle.std.proofs.Common.{◌⊎◌, ◌≡◌, ℕ, suc, ◌<◌, ◌≤◌, ℤ, pos, List, [], ◌∷◌, refl, ap, sym, ◌∙◌, inl, inr, arith, map, length, length-set, get_or-set_same, get_or-set_other}
use Rattle.std.specs.Prelude.{slice_set, get_or}
use Rattle.std.proofs.lemmas.Bool.{cases_eq, cases_lt}
use Rattle.std.proofs.lemmas.List.{get_or_past}
use Rattle.ppd_sem.specs.declared.proc.Frame.{Frame}
use Rattle.law_steps.proofs.Vocabulary.Relation.{IsSameIn}
use Rattle.law_steps.proofs.Vocabulary.Held.{Among, IsKeptBut}
use Rattle.ppd_sem.specs.Process.{with_values}

set_to : (cells others : List ℤ) (c d : ℕ) → length cells ≡ length others
    → ((d ≡ c → ⊥) → get_or cells d (pos 0) ≡ get_or others d (pos 0)) → (d ≡ c) ⊎ (d ≡ c → ⊥) → (c < length others)
    ⊎ (length others ≤ c)
    → get_or cells d (pos 0) ≡ get_or (slice_set others c (get_or cells c (pos 0))) d (pos 0)
set_to cells others c d n h (inl here) (inl within) =
    rw here (sym (get_or-set_same others c (get_or cells c (pos 0)) (pos 0) within))
set_to cells others c d n h (inl here) (inr past) =
    let first : length cells ≤ d = omega (arith, past, here, n) in
    let second : length (slice_set others c (get_or cells c (pos 0))) ≤ d =
    omega (arith, past, here, length-set others c (get_or cells c (pos 0))) in
    get_or_past cells d (pos 0) first ∙ sym (get_or_past (slice_set others c (get_or cells c (pos 0))) d (pos 0) second)
set_to cells others c d n h (inr there) w = h there ∙ sym (get_or-set_other others c d (get_or cells c (pos 0)) (pos 0) there)

pub filled_length : (cs : List ℕ) (cells others : List ℤ)
    → length (with_values cs (map (λ c. get_or cells c (pos 0)) cs) others) ≡ length others
filled_length [] cells others = refl
filled_length (c ∷ cs) cells others =
    filled_length cs cells (slice_set others c (get_or cells c (pos 0))) ∙ length-set others c (get_or cells c (pos 0))

pub filled : (cs : List ℕ) (cells others : List ℤ) (d : ℕ) → length cells ≡ length others
    → ((Among cs d → ⊥) → get_or cells d (pos 0) ≡ get_or others d (pos 0))
    → get_or cells d (pos 0) ≡ get_or (with_values cs (map (λ c. get_or cells c (pos 0)) cs) others) d (pos 0)
filled [] cells others d n h = h (λ x. x)
filled (c ∷ cs) cells others d n h =
    filled cs cells (slice_set others c (get_or cells c (pos 0))) d (n ∙ sym (length-set others c (get_or cells c (pos 0))))
    (λ no. set_to cells others c d n (λ e. h (λ x. elim x [ inl here ↦ e here | inr there ↦ no there ]))
    (cases_eq d c) (cases_lt c (length others)))

same_lists : (xs ys : List ℤ) → length xs ≡ length ys → ((d : ℕ) → get_or xs d (pos 0) ≡ get_or ys d (pos 0)) → xs ≡ ys
same_lists [] [] n h = refl
same_lists [] (y ∷ ys) n h = absurd (omega (arith, n))
same_lists (x ∷ xs) [] n h = absurd (omega (arith, n))
same_lists (x ∷ xs) (y ∷ ys) n h =
    ap (λ z. z ∷ xs) (h 0) ∙ ap (λ zs. y ∷ zs) (same_lists xs ys (omega (arith, n)) (λ d. h (suc d)))

-- where the block was entered in a frame that the interval called, the whole frame is the same again
pub filled_whole : (cs : List ℕ) (f g : Frame) → IsKeptBut (Among cs) f g
    → record f { cells = with_values cs (map (λ c. get_or g.cells c (pos 0)) cs) f.cells } ≡ g
filled_whole cs f g k =
    let cells : with_values cs (map (λ c. get_or g.cells c (pos 0)) cs) f.cells ≡ g.cells =
    same_lists (with_values cs (map (λ c. get_or g.cells c (pos 0)) cs) f.cells) g.cells
    (filled_length cs g.cells f.cells ∙ sym k.lengths)
    (λ d. sym (filled cs g.cells f.cells d k.lengths (k.values d))) in
    rw (k.body, k.call, cells) refl

-- where it was entered in the interval's own frame, the cells that the interval uses are the same again
pub filled_same : (used : ℕ → Type 0) (cs : List ℕ) (f g r : Frame) → IsKeptBut (Among cs) f g → IsSameIn used f r
    → IsSameIn used g (record r { cells = with_values cs (map (λ c. get_or g.cells c (pos 0)) cs) r.cells })
filled_same used cs f g r k s = record {
  body = k.body ∙ s.body;
  cells = record {
    lengths = k.lengths ∙ s.cells.lengths ∙ sym (filled_length cs g.cells r.cells);
    values = λ d u. filled cs g.cells r.cells d (k.lengths ∙ s.cells.lengths)
        (λ no. k.values d no ∙ s.cells.values d u);
  };
}
