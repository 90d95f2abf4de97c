-- The unit with which an interval begins: the values that it sets answer the reads that follow.
use Rattle.ppd_model.specs.Setting.{setting_of}
use Rattle.std.specs.Option.{option_map_or}
use Rattle.std.proofs.Common.{◌≡◌, ℕ, zero, suc, ◌+◌, ℤ, List, [], ◌∷◌, Option, Some, None, refl, ap, ap₂, sym, subst, ◌∙◌, true≢false}
use Rattle.std.specs.Prelude.{is_some, slice_get, zip}
use Rattle.ppd_ast.specs.declared.plan.Plan.{Plan}
use Rattle.ppd_ast.specs.declared.plan.Start.TheVariants as start
use Rattle.ppd_ast.specs.declared.program.Program.{Program}
use Rattle.ppd_model.specs.Pieces.{Piece, unit}
use Rattle.ppd_sem.specs.declared.proc.Need.{Need}
use Rattle.ppd_sem.specs.declared.proc.Need.TheVariants.{Write}
use Rattle.ppd_sem.specs.declared.proc.Proc.{Proc}
use Rattle.ppd_sem.specs.Process.{act, started}
use Rattle.ppd_sem.specs.Tables.{unit_of}
use Rattle.ppd_model.specs.Marks.{Mark, opened}
use Rattle.ppd_model.specs.Story.{Moment, unit_started, values_of_unit}
use Rattle.law_steps.specs.InForce.Values.{AreRead, begun_in_force, in_force_after, in_force_by, with_unit}
use Rattle.law_steps.specs.Coming.Pieces.{unit_pieces}
use Rattle.law_steps.specs.Coming.Openings.{Opening, opening, opening_by, opening_of}

-- the values in force where a unit starts
abbrev pub unit_in_force : Plan → ℕ → List ℤ → List (ℕ × ℤ)
unit_in_force plan u values = zip (option_map_or (λ u. u.cells) (slice_get plan.units u) []) values

-- the reads of the opening are answered by its unit and by own writes
abbrev pub IsReadFrom : Plan → Opening → Type 0
IsReadFrom plan o = (u : ℕ) (values : List ℤ) → o.units ≡ unit u values ∷ []
    → AreRead plan (unit_in_force plan u values) o.rest

abbrev number_in : List Piece → ℕ
number_in (unit u values ∷ ps) = u
number_in ps = 0

abbrev values_in : List Piece → List ℤ
values_in (unit u values ∷ ps) = values
values_in ps = []

abbrev is_there : List Piece → Option ℕ
is_there [] = None
is_there (p ∷ ps) = Some 0

same_unit : (plan : Plan) (u v : ℕ) (xs ys : List ℤ) → unit u xs ∷ [] ≡ unit v ys ∷ []
    → unit_in_force plan u xs ≡ unit_in_force plan v ys
same_unit plan u v xs ys e = ap₂ (λ n zs. unit_in_force plan n zs) (ap number_in e) (ap values_in e)

-- where a step starts a unit, that unit's values are in force
started_in_force : (plan : Plan) (xs : List (ℕ × ℤ)) (values : List ℤ) (n : Need) (u : ℕ) → unit_started n ≡ Some u
    → in_force_by plan xs values n ≡ unit_in_force plan u values
started_in_force plan xs values (Write c v) u e = absurd (true≢false (sym (ap is_some e)))
started_in_force plan xs values n u e = ap (with_unit plan xs values) e

module _ (program : Program) (plan : Plan) where
  by_unit : (xs : List (ℕ × ℤ)) (n : Need) (values : List ℤ) (ms : List Moment)
      → AreRead plan (in_force_by plan xs values n) ms → (o : Option ℕ) → unit_started n ≡ o
      → (u : ℕ) (ys : List ℤ) → unit_pieces o values ≡ unit u ys ∷ [] → AreRead plan (unit_in_force plan u ys) ms
  by_unit xs n values ms reads None is u ys e = absurd (true≢false (sym (ap (λ ps. is_some (is_there ps)) e)))
  by_unit xs n values ms reads (Some w) is u ys e =
      subst (λ zs. AreRead plan zs ms) (started_in_force plan xs values n w is ∙ same_unit plan w u values ys e) reads

  by_mark : (xs : List (ℕ × ℤ)) (m : Moment) (ms : List Moment) (after : Proc) (o : Option Mark) (n : ℕ)
      (further : ℕ → Option Opening) → AreRead plan (in_force_after plan xs m) ms
      → ((i : ℕ) (x : Opening) → further i ≡ Some x → IsReadFrom plan x)
      → (x : Opening) → opening_by o n
      (unit_pieces (unit_started m.taken.need) m.unit_values) after ms further ≡ Some x → IsReadFrom plan x
  by_mark xs m ms after None n further reads h x e = h n x e
  by_mark xs m ms after (Some k) (suc n) further reads h x e = h n x e
  by_mark xs m ms after (Some k) zero further reads h x e =
      let same : record {
        mark = k;
        units = unit_pieces (unit_started m.taken.need) m.unit_values;
        proc = after;
        rest = ms;
      } ≡ x = cc in
      subst (IsReadFrom plan) same (by_unit xs m.taken.need m.unit_values ms reads (unit_started m.taken.need) refl)

  opening_reads : (s : Proc) (ms : List Moment) (xs : List (ℕ × ℤ)) (n : ℕ) → AreRead plan xs ms → (x : Opening)
      → opening program plan s ms n ≡ Some x → IsReadFrom plan x
  opening_reads s [] xs n reads x e = absurd (true≢false (sym (ap is_some e)))
  opening_reads s (m ∷ ms) xs n reads x e =
      by_mark xs m ms (act program plan s m.taken.answer) (opened program plan s m.taken.need) n
      (opening program plan (act program plan s m.taken.answer) ms) reads.1
      (λ i y f. opening_reads (act program plan s m.taken.answer) ms (in_force_after plan xs m) i reads.1 y f) x e

  -- so are those of each interval of a process
  pub interval_reads : (budget p k : ℕ) (ms : List Moment) → AreRead plan (begun_in_force program plan p) ms
      → (x : Opening) → opening_of (setting_of program plan budget) p ms k ≡ Some x → IsReadFrom plan x
  interval_reads budget p (suc k) ms reads x e =
      opening_reads (started program plan p budget) ms (begun_in_force program plan p) k reads x e
  interval_reads budget p zero ms reads x e = λ u values is.
      (let same : x.rest ≡ ms = sym (ap rest_in e) in
      let units : unit (unit_of plan (start.Entry (program.functions + p)))
      (values_of_unit plan program.starts (unit_of plan (start.Entry (program.functions + p)))) ∷ []
      ≡ x.units = ap units_in e in
      subst (AreRead plan (unit_in_force plan u values)) (sym same)
      (subst (λ zs. AreRead plan zs ms) (same_unit plan _ u _ values (units ∙ is)) reads))
    where
      rest_in : Option Opening → List Moment
      rest_in None = []
      rest_in (Some o) = o.rest

      units_in : Option Opening → List Piece
      units_in None = []
      units_in (Some o) = o.units
