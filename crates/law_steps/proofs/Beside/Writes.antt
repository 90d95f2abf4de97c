-- What a statement writes to the top frame, and that other cells stay.
use Rattle.std.proofs.Common.{◌≡◌, ℕ, zero, suc, ◌+◌, ◌<◌, ℤ, pos, List, Some, None, Option, ap, sym, subst, ◌∙◌, arith, length-set, get_or-set_other, ◌≤◌}
use Rattle.std.specs.Prelude.{slice_set, ◌-◌, replicate}
use Rattle.std.specs.List.{range_with_len}
use Rattle.ppd_ast.specs.declared.program.Expr.{Expr}
use Rattle.ppd_ast.specs.declared.program.Kind.{Kind}
use Rattle.ppd_sem.specs.declared.proc.Frame.{Frame}
use Rattle.ppd_sem.specs.Deed.{Deed, ask_deed}
use Rattle.ppd_sem.proofs.OfKind.{IsDeedOf, asked_holds, clears, receives, sets, sets_element}
use Rattle.law_steps.proofs.Vocabulary.Relation.{Yields}
use Rattle.law_steps.proofs.Vocabulary.Held.{IsWriting, MayWrite, IsKeptBut}
use Rattle.ppd_sem.specs.Process.{with_values}

-- ---- what a statement writes

element_written : (written : ℕ → Type 0) (base len c : ℕ) → ((k : ℕ) → k < len → written (base + k)) → base ≤ c
    → c < base + len → written c
element_written written base len c w low high =
    let is : base + (c - base) ≡ c = omega (arith, low) in subst written is (w (c - base) (omega (arith, low, high)))

deed_writes : (written : ℕ → Type 0) (k : Kind) (d : Deed) → IsDeedOf k d → IsWriting written k → MayWrite written d
deed_writes written k d (sets v) w = w
deed_writes written k d (sets_element {base = base} {len = len} {c = c} v low high) w =
    element_written written base len c w low high
deed_writes written k d clears w = w
deed_writes written k d receives w = w
deed_writes written k d is w = tt

pub writes_at_most : (written : ℕ → Type 0) (es : List Expr) (k : Kind) (cells answers : List ℤ)
    → IsWriting written k → Yields (MayWrite written) (ask_deed es k cells answers)
writes_at_most written es k cells answers w =
    asked_holds es cells answers (MayWrite written) k (λ d is. deed_writes written k d is w)

-- ---- frames

pub kept_set : (written : ℕ → Type 0) (f g : Frame) (c : ℕ) (v : ℤ) → written c → IsKeptBut written f g
    → IsKeptBut written f (record g { cells = slice_set g.cells c v })
kept_set written f g c v w k = record {
  body = k.body;
  call = k.call;
  lengths = length-set g.cells c v ∙ k.lengths;
  values = λ d no. get_or-set_other g.cells c d v (pos 0) (λ e. no (subst written (sym e) w)) ∙ k.values d no;
}

pub kept_clear : (written : ℕ → Type 0) (f g : Frame) (base len : ℕ) → ((k : ℕ) → k < len → written (base + k))
    → IsKeptBut written f g → IsKeptBut written f (record g { cells = with_values (range_with_len base len) (replicate len (pos 0)) g.cells })
kept_clear written f g base zero w k = k
kept_clear written f g base (suc n) w k =
    let here : base + 0 ≡ base = omega arith in
    kept_clear written f (record g { cells = slice_set g.cells base (pos 0) }) (base + 1) n
    (λ i h. (let next : base + (i + 1) ≡ base + 1 + i = omega arith in subst written next (w (i + 1) (omega (arith, h)))))
    (kept_set written f g base (pos 0) (subst written here (w 0 (omega arith))) k)

abbrev or_first : {A : Type 0} (d : A) → Option A → A
or_first d None = d
or_first d (Some x) = x

pub some_same : (a b : ℕ) → Some a ≡ Some b → a ≡ b
some_same a b e = ap (λ o. or_first a o) e
