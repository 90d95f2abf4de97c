-- Parts of a turn of a replay.
use Rattle.std.proofs.Common.{◌≡◌, ℕ, suc, ◌+◌, ◌<◌, ℤ, List, [], ◌∷◌, ◌++◌, map, get_or, Option, Some, None, Bool, true, false, Ok, refl, ap, ap₂, subst, ◌∙◌, arith, append_assoc, eq-eqb, true≢false}
use Rattle.std.proofs.lemmas.Bool.{cond-true}
use Rattle.std.specs.Prelude.{drop, nat_eq}
use Rattle.ppd_ast.specs.declared.plan.Plan.{Plan}
use Rattle.ppd_ast.specs.declared.program.Program.{Program}
use Rattle.ppd_ast.specs.declared.status.Status.{Status}
use Rattle.ppd_ast.specs.declared.status.Status.TheVariants as status
use Rattle.ppd_model.specs.Pieces.{Piece, finish}
use Rattle.ppd_sem.specs.declared.proc.Answer.{Answer}
use Rattle.ppd_sem.specs.declared.proc.Need.{Need}
use Rattle.ppd_sem.specs.declared.proc.Need.TheVariants.{Stopped}
use Rattle.ppd_sem.specs.declared.proc.Proc.{Proc}
use Rattle.ppd_sem.specs.declared.proc.Todo.{Todo}
use Rattle.ppd_sem.specs.Described.{described}
use Rattle.ppd_model.specs.declared.flow.Item.{Item}
use Rattle.ppd_model.specs.declared.flow.Item.TheVariants as item
use Rattle.ppd_model.specs.declared.trace.EventId.{EventId}
use Rattle.ppd_model.specs.Story.{Moment}
use Rattle.ppd_model.specs.ReplayLaws.{IsOneStep, TakesOneStep}
use Rattle.ppd_model.proofs.Turns.{turns_are_steps}
use Rattle.ppd_model.specs.Replay.{Replaying, Replayed, more, done, end_here, go_on, next_piece, replay_from, turn, with_event}
use Rattle.ppd_model.proofs.ReplayWords.{with_event_of}
use Rattle.law_steps.specs.Coming.Pieces.{Coming, before}
use Rattle.law_steps.proofs.Coming.Late.{IsLate, first_piece, next_is, not_here}

-- what replay gives from here on
abbrev pub given : Replaying → Coming → Replayed
given r c = record { steps = r.steps + c.steps; answer = Ok (record { items = r.items ++ c.items }) }

abbrev pub is_stopped : Need → Bool
is_stopped Stopped = true
is_stopped n = false

abbrev pub moment : Need → Answer → Option EventId → Option ℕ → List ℤ → Moment
moment n a w k vs = record { taken = record { need = n; answer = a; writer = w; number = k }; unit_values = vs }

module _ (program : Program) (plan : Plan) where
  -- ---- turns that go on

  pub fuel_on : (r r' : Replaying) (n : ℕ) → turn program plan r ≡ more r' → r.proc.budget < r.proc.spent + suc n
      → r'.proc.budget < r'.proc.spent + n
  fuel_on r r' n e h =
      let st : IsOneStep r r' = subst (λ t. TakesOneStep r t) e (turns_are_steps program plan r) in
      omega (arith, h, st.paid, st.budget)

  pub on_more : (r r' : Replaying) (n : ℕ) (pieces : List Piece) (items : List Item) (c : Coming)
      → turn program plan r ≡ more r' → replay_from program plan n r' ≡ given r' c → r'.steps ≡ r.steps + 1
      → r'.items ≡ r.items ++ items
      → replay_from program plan (suc n) r ≡ given r (before pieces items 1 c)
  on_more r r' n pieces items c e ih steps is =
      ap (λ t. go_on t (replay_from program plan n)) e ∙ ih
      ∙ ap₂ (λ k (xs : List Item). record { steps = k; answer = Ok (record { items = xs }) })
      (let z : r'.steps + c.steps ≡ r.steps + (1 + c.steps) = omega (arith, steps) in z)
      (ap (λ xs. xs ++ c.items) is ∙ append_assoc r.items items c.items)

  -- ---- parts of a turn

  pub late_at : (r : Replaying) (ps : List Piece) → map (λ q. q.1) r.pieces ≡ ps → IsLate (r.since + 1) ps
      → end_here r.since (next_piece r).1 ≡ None
  late_at r ps e h = ap (λ p. end_here r.since p) (next_is r.pieces ∙ ap first_piece e) ∙ not_here r.since ps h

  pub map_drop : (xs : List (ℕ × Piece)) (p : Piece) (ps : List Piece) → map (λ q. q.1) xs ≡ p ∷ ps
      → map (λ q. q.1) (drop 1 xs) ≡ ps
  map_drop [] p ps e = absurd (true≢false (ap (λ ys. elim ys [ [] ↦ true | z ∷ zs ↦ false ]) e))
  map_drop (x ∷ xs) p ps e = ap (λ ys. drop 1 ys) e

  pub next_at : (xs : List (ℕ × Piece)) (p : Piece) (ps : List Piece) → map (λ q. q.1) xs ≡ p ∷ ps
      → (get_or xs 0 (0, finish status.Ended 0)).1 ≡ p
  next_at xs p ps e = next_is xs ∙ ap first_piece e

  -- the event of the head, as the replay has it
  abbrev pub event_at_head : Proc → Todo → Answer → Option ℕ → Item
  event_at_head r t a k = item.Own (record (described program plan r t a) { number = k })

  pub with_event_is : (r : Replaying) (t : Todo) (ts : List Todo) (a : Answer) (k : Option ℕ)
      → r.proc.todo ≡ t ∷ ts → with_event program plan a k r ≡ record r
      { items = r.items ++ event_at_head r.proc t a k ∷ [] }
  with_event_is r t ts a k e = ap (λ todo. with_event_of program plan a k todo r) e

  -- ---- the last turn

  pub self_end : (since : ℕ) (st : Status) → end_here since (finish st since) ≡ Some st
  self_end since st = cond-true (nat_eq since since) (Some st) None (eq-eqb since since refl)

  pub end_at : (r : Replaying) (st : Status) (ps : List Piece) → map (λ q. q.1) r.pieces ≡ finish st r.since ∷ ps
      → end_here r.since (next_piece r).1 ≡ Some st
  end_at r st ps e = ap (λ p. end_here r.since p) (next_at r.pieces (finish st r.since) ps e) ∙ self_end r.since st

  pub ends_so : (r : Replaying) (fuel n k : ℕ) (p : Piece) (items : List Item) → fuel ≡ suc n
      → turn program plan r ≡ done
      (record { steps = r.steps + k; answer = Ok (record { items = r.items ++ items }) })
      → replay_from program plan fuel r ≡ given r (record { pieces = p ∷ []; items = items; steps = k })
  ends_so r fuel n k p items f e =
      ap (λ x. replay_from program plan x r) f ∙ ap (λ t. go_on t (replay_from program plan n)) e
