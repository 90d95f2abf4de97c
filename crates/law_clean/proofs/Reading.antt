-- The reads of an opening are answered by its unit and by own writes, whatever the process has spent.
use Rattle.std.proofs.Common.{◌≡◌, ℕ, zero, suc, ℤ, List, [], ◌∷◌, ◌++◌, Option, Some, None, refl, ap, ap₂, sym, subst, ◌∙◌, true≢false}
use Rattle.std.specs.Prelude.{is_some}
use Rattle.ppd_ast.specs.declared.plan.Plan.{Plan}
use Rattle.ppd_ast.specs.declared.program.Program.{Program}
use Rattle.ppd_model.specs.Pieces.{Piece, unit}
use Rattle.ppd_sem.specs.declared.proc.Need.{Need}
use Rattle.ppd_sem.specs.declared.proc.Need.TheVariants.{Write}
use Rattle.ppd_sem.specs.declared.proc.Proc.{Proc}
use Rattle.ppd_sem.specs.Process.{act}
use Rattle.ppd_model.specs.Marks.{Mark, opened}
use Rattle.ppd_model.specs.Story.{Moment, unit_started}
use Rattle.law_steps.specs.InForce.Values.{AreRead, in_force_after, in_force_by, with_unit}
use Rattle.law_steps.specs.Coming.Pieces.{unit_pieces}
use Rattle.law_steps.specs.Coming.Openings.{Opening, opening, opening_by}
use Rattle.law_steps.proofs.Theorem.Units.{IsReadFrom, unit_in_force}
use Rattle.law_clean.proofs.Stopped.{stop_moment}

abbrev number_in : List Piece → ℕ
number_in (unit u values ∷ ps) = u
number_in ps = 0

abbrev values_in : List Piece → List ℤ
values_in (unit u values ∷ ps) = values
values_in ps = []

abbrev is_there : List Piece → Option ℕ
is_there [] = None
is_there (p ∷ ps) = Some 0

pub same_unit : (plan : Plan) (u v : ℕ) (xs ys : List ℤ) → unit u xs ∷ [] ≡ unit v ys ∷ [] → unit_in_force plan u xs ≡ unit_in_force plan v ys
same_unit plan u v xs ys e = ap₂ (λ n zs. unit_in_force plan n zs) (ap number_in e) (ap values_in e)

started_in_force : (plan : Plan) (xs : List (ℕ × ℤ)) (values : List ℤ) (n : Need) (u : ℕ) → unit_started n ≡ Some u → in_force_by plan xs values n ≡ unit_in_force plan u values
started_in_force plan xs values (Write c v) u e = absurd (true≢false (sym (ap is_some e)))
started_in_force plan xs values n u e = ap (with_unit plan xs values) e

-- the stop reads nothing
pub read_on : (plan : Plan) (xs : List (ℕ × ℤ)) (ms : List Moment) → AreRead plan xs ms → AreRead plan xs (ms ++ stop_moment ∷ [])
read_on plan xs [] a = (tt, tt)
read_on plan xs (m ∷ ms) a = (a.0, read_on plan (in_force_after plan xs m) ms a.1)

module _ (program : Program) (plan : Plan) where
  by_unit : (xs : List (ℕ × ℤ)) (n : Need) (values : List ℤ) (ms : List Moment) → AreRead plan (in_force_by plan xs values n) ms → (o : Option ℕ) → unit_started n ≡ o
      → (u : ℕ) (ys : List ℤ) → unit_pieces o values ≡ unit u ys ∷ [] → AreRead plan (unit_in_force plan u ys) ms
  by_unit xs n values ms reads None is u ys e = absurd (true≢false (sym (ap (λ ps. is_some (is_there ps)) e)))
  by_unit xs n values ms reads (Some w) is u ys e = subst (λ zs. AreRead plan zs ms) (started_in_force plan xs values n w is ∙ same_unit plan w u values ys e) reads

  by_mark : (xs : List (ℕ × ℤ)) (m : Moment) (ms : List Moment) (after : Proc) (o : Option Mark) (n : ℕ) (further : ℕ → Option Opening) → AreRead plan (in_force_after plan xs m) ms
      → ((i : ℕ) (x : Opening) → further i ≡ Some x → IsReadFrom plan x)
      → (x : Opening) → opening_by o n (unit_pieces (unit_started m.taken.need) m.unit_values) after ms further ≡ Some x → IsReadFrom plan x
  by_mark xs m ms after None n further reads h x e = h n x e
  by_mark xs m ms after (Some k) (suc n) further reads h x e = h n x e
  by_mark xs m ms after (Some k) zero further reads h x e =
      let same : record {
        mark = k;
        units = unit_pieces (unit_started m.taken.need) m.unit_values;
        proc = after;
        rest = ms;
      } ≡ x = cc in
      subst (IsReadFrom plan) same (by_unit xs m.taken.need m.unit_values ms reads (unit_started m.taken.need) refl)

  pub opening_reads : (s : Proc) (ms : List Moment) (xs : List (ℕ × ℤ)) (n : ℕ) → AreRead plan xs ms → (x : Opening) → opening program plan s ms n ≡ Some x → IsReadFrom plan x
  opening_reads s [] xs n reads x e = absurd (true≢false (sym (ap is_some e)))
  opening_reads s (m ∷ ms) xs n reads x e =
      by_mark xs m ms (act program plan s m.taken.answer) (opened program plan s m.taken.need) n (opening program plan (act program plan s m.taken.answer) ms) reads.1
      (λ i y f. opening_reads (act program plan s m.taken.answer) ms (in_force_after plan xs m) i reads.1 y f) x e
