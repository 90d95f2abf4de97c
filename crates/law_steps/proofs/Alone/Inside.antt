-- An interval inside.
use Rattle.law_steps.proofs.Alone.Goals.{AcrossGoal, IsAlong, IsOpening, OwnGoal}
use Rattle.law_steps.proofs.Alone.Turns.{fuel_on, given, map_drop, next_at, on_more}
use Rattle.law_steps.proofs.Beside.Turned.{piece_turn, unit_turn}
use Rattle.law_steps.proofs.Vocabulary.Alone.{HasLeft, IsCrossing, IsKept}
use Rattle.law_steps.proofs.Vocabulary.Relation.{HasEnds, IsBlock}
use Rattle.law_steps.specs.Coming.Pieces.{After, Coming, Inner, at_rest, before, coming, inner_opens, leaves, unit_pieces}
use Rattle.law_steps.specs.InForce.Values.{AreRead, in_force_after, in_force_by, with_unit}
use Rattle.law_steps.specs.OpenBlocks.Run.{IsRun}
use Rattle.ppd_ast.specs.declared.plan.Plan.{Plan}
use Rattle.ppd_ast.specs.declared.program.Program.{Program}
use Rattle.ppd_ast.specs.declared.status.Status.{Status}
use Rattle.ppd_model.specs.Fits.{fits, found_of}
use Rattle.ppd_model.specs.Replay.{Replaying, counted, end_here, finished, go_on, more, next_piece, past_piece, replay_from, step_with, take_unit, turn, with_item}
use Rattle.ppd_model.specs.declared.wanted.Wanted.TheVariants as wanted
use Rattle.ppd_model.specs.Pieces.{Piece, nested, unfinished, unit}
use Rattle.ppd_model.specs.Logs.{status_of}
use Rattle.ppd_model.specs.Marks.{Mark, closed, opened}
use Rattle.ppd_model.specs.Story.{Moment, unit_started}
use Rattle.ppd_model.specs.declared.flow.Item.{Item}
use Rattle.ppd_model.specs.declared.flow.Item.TheVariants as item
use Rattle.ppd_sem.specs.Blocks.{skipped, unit_past}
use Rattle.ppd_sem.specs.Process.{act, need_of}
use Rattle.ppd_sem.specs.declared.proc.Need.{Need}
use Rattle.ppd_sem.specs.declared.proc.Need.TheVariants.{Back, End, Leave}
use Rattle.ppd_sem.specs.declared.proc.Proc.{Proc}
use Rattle.ppd_sem.specs.declared.proc.Todo.{Todo}
use Rattle.std.proofs.Common.{List, None, Ok, Option, Some, [], ap, append_assoc, ap₂, arith, eq-eqb, false, map, refl, subst, suc, sym, true, true≢false, zero, ℕ, ℤ, ◌++◌, ◌+◌, ◌<◌, ◌∙◌, ◌∷◌, ◌≡◌, ◌≤◌}
use Rattle.std.specs.Option.{option_map_or}
use Rattle.std.specs.Prelude.{drop, is_some, slice_get, zip}

module _ (program : Program) (plan : Plan) (used inside : ℕ → Type 0) (calls : Type 0) (closer : Todo) (home : ℕ)
    (depth : ℕ) (ends : HasEnds program) (block : IsBlock program used inside calls) (outside : List Todo)
    (Kept : Proc → Proc → Type 0) (kept : IsKept program plan used inside calls closer home depth outside Kept)
    (Across : Proc → ℕ → Proc → Type 0)
    (crossing : IsCrossing program plan used inside calls closer home depth outside Kept Across) where
  abbrev OwnSteps : List Moment → Type 0
  OwnSteps ms = OwnGoal program plan used inside calls closer home depth outside Kept ms

  -- ---- an interval inside

  -- the replay stands before a piece of the interval inside
  inner_turn : (r : Replaying) (n : Need) (b : ℕ) (items : List Item) (p : Piece) (ps : List Piece)
      → IsOpening program plan r b n items → map (λ q. q.1) r.pieces ≡ p ∷ ps → end_here r.since p ≡ None
      → fits (wanted.Nested b) (found_of p) ≡ true
      → turn program plan r ≡ step_with program plan n p r
  inner_turn r n b items p ps o pieces late fit =
      let first : (next_piece r).1 ≡ p = next_at program plan r.pieces p ps pieces in
      piece_turn program plan r n (wanted.Nested b) o.need
      (ap (λ x. end_here r.since x) first ∙ late) o.payable o.wants
      (ap (λ x. fits (wanted.Nested b) (found_of x)) first ∙ fit)
      ∙ ap (λ x. step_with program plan n x r) first

  some_fuel : (r : Replaying) (fuel : ℕ) → r.proc.spent ≤ r.proc.budget → r.proc.budget < r.proc.spent + fuel
      → (n : ℕ) × (fuel ≡ suc n)
  some_fuel r zero paid h = absurd (omega (arith, paid, h))
  some_fuel r (suc n) paid h = (n, refl)

  -- the interval inside is never left
  pub stops_inside : (r : Replaying) (i : Inner) (n : Need) (items : List Item) (since fuel : ℕ)
      → IsOpening program plan r i.block n items → map (λ q. q.1) r.pieces ≡ (at_rest (Some i) since).pieces
      → r.proc.spent ≤ r.proc.budget → r.proc.budget < r.proc.spent + fuel
      → replay_from program plan fuel r ≡ given r (before [] items 1 (at_rest (Some i) since))
  stops_inside r i n items since fuel o pieces paid enough_fuel =
      let f = some_fuel r fuel paid enough_fuel in
      let it : Item = item.Nested i.interval i.block [] false in
      ap (λ x. replay_from program plan x r) f.1
      ∙ ap (λ t. go_on t (replay_from program plan f.0))
      (inner_turn r n i.block items (unfinished i.interval i.block) [] o pieces refl (eq-eqb i.block i.block refl)
      ∙ ap (λ q. finished (counted (with_item it q))) o.call)
      ∙ ap (λ (xs : List Item). record { steps = r.steps + 1; answer = Ok (record { items = xs }) })
      (append_assoc r.items items (it ∷ []))

  -- an interval is left: only a loop's end, a return and a process's end do so
  in_force_left : (n : Need) (s : Proc) (mark : Mark) (u : ℕ) (zs : List (ℕ × ℤ)) (vs : List ℤ)
      → closed program plan s n ≡ Some mark → unit_started n ≡ Some u
      → in_force_by plan zs vs n ≡ zip (option_map_or (λ u. u.cells) (slice_get plan.units u) []) vs
  in_force_left (Leave b v) s mark u zs vs c e = ap (λ o. with_unit plan zs vs o) e
  in_force_left (Back (Some b) v) s mark u zs vs c e = ap (λ o. with_unit plan zs vs o) e
  in_force_left (End b) s mark u zs vs c e = absurd (true≢false (ap is_some (sym e)))
  in_force_left n s mark u zs vs c e = absurd (true≢false (ap is_some (sym c)))

  left_inside : (m : Moment) (ms : List Moment) (x : Proc) (r : Replaying) (zs : List (ℕ × ℤ)) (i : Inner)
      (n : Need) (items : List Item) (mark : Mark) (u next fuel : ℕ) → OwnSteps ms
      → IsOpening program plan r i.block n items
      → HasLeft program plan used inside calls closer home depth outside Kept mark r.proc x m.taken.answer
      → u ≡ unit_past plan r.proc.todo n
      → AreRead plan (zip (option_map_or (λ u. u.cells) (slice_get plan.units u) []) m.unit_values) ms
      → IsRun program plan (act program plan x m.taken.answer) ms
      → map (λ q. q.1) r.pieces
      ≡ nested i.interval i.block mark.values ∷ unit u m.unit_values ∷ (coming program plan
      (act program plan x m.taken.answer) ms None next 0).pieces → r.proc.spent ≤ r.proc.budget
      → r.proc.budget < r.proc.spent + fuel
      → replay_from program plan fuel r ≡ given r
      (before [] items 1 (before (nested i.interval i.block mark.values ∷ unit u m.unit_values ∷ [])
      (item.Nested i.interval i.block mark.values true ∷ []) 0
      (coming program plan (act program plan x m.taken.answer) ms None next 0)))
  left_inside m ms x r zs i n items mark u next fuel ih o h unit_is reads run pieces paid enough_fuel =
      let f = some_fuel r fuel paid enough_fuel in
      let it : Item = item.Nested i.interval i.block mark.values true in
      let after : Proc = act program plan x m.taken.answer in
      let c : Coming = coming program plan after ms None next 0 in
      let r1 : Replaying = record {
        proc = skipped program plan mark.values r.proc;
        in_force = r.in_force;
        pieces = drop 1 r.pieces;
        since = 0;
        steps = r.steps + 1;
        items = (r.items ++ items) ++ it ∷ [];
      } in
      let r' : Replaying = record (past_piece r1)
      { in_force = zip (option_map_or (λ u. u.cells) (slice_get plan.units u) []) m.unit_values } in
      let rest : map (λ q. q.1) (drop 1 r.pieces) ≡ unit u m.unit_values ∷ c.pieces =
      map_drop program plan r.pieces _ _ pieces in
      let go : turn program plan r ≡ more r' =
      inner_turn r n i.block items (nested i.interval i.block mark.values) _ o pieces refl (eq-eqb i.block i.block refl)
      ∙ ap (λ q. take_unit plan (Some (unit_past plan r.proc.todo n))
      (past_piece (counted (record (with_item it q) { proc = skipped program plan mark.values r.proc })))) o.call
      ∙ ap (λ v. take_unit plan (Some v) r1) (sym unit_is)
      ∙ unit_turn program plan u r1 m.unit_values (next_at program plan (drop 1 r.pieces) _ _ rest) in
      let fuel' : r.proc.budget < r.proc.spent + suc f.0 =
      subst (λ y. r.proc.budget < r.proc.spent + y) f.1 enough_fuel in
      let al' : IsAlong program plan used inside calls closer home depth outside Kept after r' = record { beside = h.beside; kept_so = h.kept; running = h.running; paid = h.paid } in
      ap (λ y. replay_from program plan y r) f.1
      ∙ on_more program plan r r' f.0 [] (items ++ it ∷ []) c go
      (ih after r' next f.0 al' reads run (map_drop program plan (drop 1 r.pieces) _ _ rest)
      (fuel_on program plan r r' f.0 go fuel')) refl (append_assoc r.items items (it ∷ []))
      ∙ ap₂ (λ k (xs : List Item). record { steps = k; answer = Ok (record { items = r.items ++ xs }) })
      (let z : r.steps + (1 + c.steps) ≡ r.steps + (1 + (0 + c.steps)) = omega arith in z)
      (append_assoc items (it ∷ []) c.items)

  pub across_step : (m : Moment) (ms : List Moment) → OwnSteps ms → AcrossGoal program plan used inside calls closer home depth outside Kept Across ms → AcrossGoal program plan used inside calls closer home depth outside Kept Across (m ∷ ms)
  across_step m ms ih_own ih x r zs i n items next since fuel o across reads run pieces paid enough_fuel =
      by (opened program plan x m.taken.need) (closed program plan x m.taken.need)
      (status_of m.taken.need) refl refl refl pieces
    where
      after : Proc
      after = act program plan x m.taken.answer

      rest : After
      rest = coming program plan after ms

      here : {A : Type 0} (f : Need → A) → f (need_of program plan x) ≡ f m.taken.need
      here f = ap f (sym run.0)

      further : (level : ℕ) (k : ℕ) → Across r.proc level after
          → map (λ q. q.1) r.pieces ≡ (rest (Some (record i { level = level })) k since).pieces
          → replay_from program plan fuel r ≡ given r
          (before [] items 1 (rest (Some (record i { level = level })) k since))
      further level k a e = ih after r (in_force_after plan zs m)
          (record i { level = level }) n items k since fuel o a reads.1 run.3 e paid enough_fuel

      leave : (level : ℕ) (mark : Mark) → i.level ≡ level → opened program plan x m.taken.need ≡ None
          → closed program plan x m.taken.need ≡ Some mark
          → map (λ q. q.1) r.pieces
          ≡ (leaves i level mark.values
          (unit_pieces (unit_started m.taken.need) m.unit_values) next since rest).pieces
          → replay_from program plan fuel r ≡ given r
          (before [] items 1 (leaves i level mark.values
          (unit_pieces (unit_started m.taken.need) m.unit_values) next since rest))
      leave zero mark l eo ec e =
          let h = crossing.leaves r.proc x m.taken.answer mark (subst (λ k. Across r.proc k x) l across)
          (here (opened program plan x) ∙ eo) (here (closed program plan x) ∙ ec) in
          let u : ℕ = unit_past plan r.proc.todo (need_of program plan r.proc) in
          let started : unit_started m.taken.need ≡ Some u = ap unit_started run.0 ∙ h.unit_is in
          let reads' : AreRead plan (zip (option_map_or (λ u. u.cells) (slice_get plan.units u) []) m.unit_values) ms =
          subst (λ ys. AreRead plan ys ms)
          (in_force_left m.taken.need x mark u zs m.unit_values ec started) reads.1 in
          subst (λ v. map (λ q. q.1) r.pieces
          ≡ (leaves i zero mark.values (unit_pieces v m.unit_values) next since rest).pieces
          → replay_from program plan fuel r ≡ given r
          (before [] items 1 (leaves i zero mark.values (unit_pieces v m.unit_values) next since rest)))
          (sym started)
          (λ p. left_inside m ms x r zs i n items mark u next fuel ih_own o h
          (ap (λ y. unit_past plan r.proc.todo y) o.need) reads' run.3 p paid enough_fuel) e
      leave (suc level) mark l eo ec e =
          further level next (crossing.closes r.proc x m.taken.answer level mark
          (subst (λ k. Across r.proc k x) l across) (here (opened program plan x) ∙ eo)
          (here (closed program plan x) ∙ ec)) e

      by : (op cl : Option Mark) (st : Option Status) → opened program plan x m.taken.need ≡ op
          → closed program plan x m.taken.need ≡ cl → status_of m.taken.need ≡ st
          → map (λ q. q.1) r.pieces ≡ (inner_opens i m next since op cl st rest).pieces
          → replay_from program plan fuel r ≡ given r
          (before [] items 1 (inner_opens i m next since op cl st rest))
      by (Some mark) cl st eo ec es e =
          further (i.level + 1) (next + 1)
          (crossing.opens r.proc x m.taken.answer i.level mark across (here (opened program plan x) ∙ eo)) e
      by None (Some mark) st eo ec es e = leave i.level mark refl eo ec e
      by None None (Some st) eo ec es e = stops_inside r i n items since fuel o e paid enough_fuel
      by None None None eo ec es e =
          further i.level next (crossing.goes_on r.proc x m.taken.answer i.level across
          (record {
            opens = here (opened program plan x) ∙ eo;
            closes = here (closed program plan x) ∙ ec;
            goes_on = here status_of ∙ es;
          })) e
