-- What sets of cells gain, one after another.
use Rattle.std.proofs.Common.{◌≡◌, ℕ, zero, suc, ◌+◌, ◌<◌, List, [], ◌∷◌, ◌++◌, Bool, true, false, refl, sym, subst, ap, ◌∙◌, arith, ◌||◌, take, length, get_or}
use Rattle.std.specs.Prelude.{IsTrue, nat_eq}
use Rattle.std.specs.List.{flat_map, range_with_len}
use Rattle.std.proofs.lemmas.List.Folds.{list_any-append}
use Rattle.ppd_ast.proofs.Walks.{flat_more}
use Rattle.ppd_ast.specs.Members.{has}
use Rattle.ppd_ast.proofs.Members.{has_first as first_is, has_later}
use Rattle.ppd_sets.specs.declared.touched.Touched.{Touched}
use Rattle.ppd_sets.specs.Gained.{Gains, GainsBoth, HasCells}

or_none : (a : Bool) → a ≡ (a || false)
or_none true = refl
or_none false = refl

or_assoc : (a b d : Bool) → ((a || b) || d) ≡ (a || (b || d))
or_assoc true b d = refl
or_assoc false b d = refl

pub has_append : (xs ys : List ℕ) (c : ℕ) → has (xs ++ ys) c ≡ (has xs c || has ys c)
has_append xs ys c = list_any-append (λ y. nat_eq y c) xs ys

pub gains_none : (a : List ℕ) → Gains a a []
gains_none a = record { each = λ c h. or_none (has a c) }

pub gains_then : {a b d xs ys : List ℕ} → Gains a b xs → Gains b d ys → Gains a d (xs ++ ys)
gains_then {a} {b} {d} {xs} {ys} g k = record {
  each = λ c h. k.each c h ∙ ap (λ t. t || has ys c) (g.each c h) ∙ or_assoc (has a c) (has xs c) (has ys c) ∙ ap (λ t. has a c || t) (sym (has_append xs ys c));
}

pub gains_as : {a b : List ℕ} (xs ys : List ℕ) → xs ≡ ys → Gains a b xs → Gains a b ys
gains_as {a} {b} xs ys e g = subst (Gains a b) e g

pub gains_both_then : {a b d : Touched} {r s w v : List ℕ} → GainsBoth a b r w → GainsBoth b d s v → GainsBoth a d (r ++ s) (w ++ v)
gains_both_then g k = record { reads = gains_then g.reads k.reads; writes = gains_then g.writes k.writes }

pub gains_both_none : (a : Touched) → GainsBoth a a [] []
gains_both_none a = record { reads = gains_none a.reads; writes = gains_none a.writes }

pub gains_both_as : {a b : Touched} (r s w v : List ℕ) → r ≡ s → w ≡ v → GainsBoth a b r w → GainsBoth a b s v
gains_both_as {a} {b} r s w v e f g = record { reads = gains_as r s e g.reads; writes = gains_as w v f g.writes }

-- ---- cells

pub range_push : (a n : ℕ) → range_with_len a (n + 1) ≡ range_with_len a n ++ (a + n) ∷ []
range_push a zero = let e : a ≡ a + zero = omega arith in ap (λ x. x ∷ []) e
range_push a (suc n) =
    let e : (a + 1) + n ≡ a + suc n = omega arith in
    let on : suc n + 1 ≡ suc (n + 1) = omega arith in
    ap (range_with_len a) on ∙ ap (λ xs. a ∷ xs) (range_push (a + 1) n ∙ ap (λ x. range_with_len (a + 1) n ++ x ∷ []) e)

pub gains_range : {a b d : List ℕ} (base n cell : ℕ) → cell ≡ base + n → Gains a b (range_with_len base n) → Gains b d (cell ∷ []) → Gains a d (range_with_len base (n + 1))
gains_range {a} {b} {d} base n cell e g k =
    gains_as (range_with_len base n ++ cell ∷ []) (range_with_len base (n + 1)) (ap (λ x. range_with_len base n ++ x ∷ []) e ∙ sym (range_push base n)) (gains_then g k)

-- ---- one more of a list

pub gains_more : {X : Type 0} {a b d : List ℕ} (f : X → List ℕ) (xs : List X) (i : ℕ) (dflt : X) → i < length xs → Gains a b (flat_map f (take i xs)) → Gains b d (f (get_or xs i dflt)) → Gains a d (flat_map f (take (i + 1) xs))
gains_more f xs i dflt h g k =
    gains_as (flat_map f (take i xs) ++ f (get_or xs i dflt)) (flat_map f (take (i + 1) xs)) (sym (flat_more f xs i dflt h)) (gains_then g k)

-- ---- from nothing

pub has_first : {set cells : List ℕ} (old : List ℕ) → old ≡ [] → Gains old set cells → HasCells set cells
has_first {set} {cells} old e g = record { each = λ c h. g.each c h ∙ ap (λ xs. has xs c || has cells c) e }

-- ---- the same cells by two functions

pub flat_same : (f g : ℕ → List ℕ) (xs : List ℕ) (c : ℕ) → ((x : ℕ) → IsTrue (has xs x) → has (f x) c ≡ has (g x) c) → has (flat_map f xs) c ≡ has (flat_map g xs) c
flat_same f g [] c h = refl
flat_same f g (x ∷ xs) c h =
    has_append (f x) (flat_map f xs) c ∙ ap (λ b. b || has (flat_map f xs) c) (h x (first_is x xs))
    ∙ ap (λ b. has (g x) c || b) (flat_same f g xs c (λ y k. h y (has_later x y xs k))) ∙ sym (has_append (g x) (flat_map g xs) c)
