-- One turn of the replay, by its need, and the event that it has.
use Rattle.law_steps.proofs.Beside.Needs.{is_done, is_enter}
use Rattle.ppd_ast.specs.declared.plan.Plan.{Plan}
use Rattle.ppd_ast.specs.declared.program.Program.{Program}
use Rattle.ppd_model.specs.Fits.{fits, found_of, wanted_of}
use Rattle.ppd_model.specs.Replay.{Replaying, end_here, is_budget, more, next_piece, past_piece, step_with, step_without, take_unit, turn, turn_by_end, turn_by_wanted, unit_taken}
use Rattle.ppd_model.specs.declared.wanted.Wanted.{Wanted}
use Rattle.ppd_model.specs.declared.wanted.Wanted.TheVariants as wanted
use Rattle.ppd_model.specs.Pieces.{unit}
use Rattle.ppd_model.specs.Logs.{status_of}
use Rattle.ppd_sem.proofs.NeedWords.{act_at, need_by_entry, need_by_offer}
use Rattle.ppd_sem.proofs.Progress.{need_at_todo}
use Rattle.ppd_sem.specs.Asked.{Asked}
use Rattle.ppd_sem.specs.Deed.{Deed, finish as finishes}
use Rattle.ppd_sem.specs.Process.{act, act_by_asked, act_by_deed, act_by_need, cost, entry_of, head_deed, need_of, need_of_asked, need_of_deed, need_of_head, offer_of}
use Rattle.ppd_sem.specs.declared.asking.Pause.TheVariants.{Traps, Wants}
use Rattle.ppd_sem.specs.declared.proc.Answer.{Answer}
use Rattle.ppd_sem.specs.declared.proc.Need.{Need}
use Rattle.ppd_sem.specs.declared.proc.Need.TheVariants.{Budget, Done, End, Enter, Offer, Stopped, Trap}
use Rattle.ppd_sem.specs.declared.proc.Proc.{Proc}
use Rattle.ppd_sem.specs.declared.proc.Todo.{Todo}
use Rattle.std.proofs.Common.{Bool, Err, List, None, Ok, Option, Some, [], ap, cond, eq-eqb, false, refl, sym, true, true≢false, ℕ, ℤ, ◌+◌, ◌∙◌, ◌∷◌, ◌≡◌}
use Rattle.std.proofs.lemmas.Bool.{cond-true}
use Rattle.std.specs.Option.{option_map_or}
use Rattle.std.specs.Prelude.{is_some, nat_lt, slice_get, zip}

module _ (program : Program) (plan : Plan) where
  -- a turn of a process that did not end here, and that can pay for its step
  going_turn : (r : Replaying) (n : Need) → is_budget n ≡ false
      → turn_by_end program plan None n r ≡ turn_by_wanted program plan n (wanted_of program plan r.proc n) r
  going_turn r Budget payable = absurd (true≢false payable)
  going_turn r n payable = refl

  -- a turn whose step needs no piece
  pub plain_turn : (r : Replaying) (n : Need) → need_of program plan r.proc ≡ n
      → end_here r.since (next_piece r).1 ≡ None → is_budget n ≡ false → wanted_of program plan r.proc n ≡ None
      → turn program plan r ≡ step_without program plan n r
  plain_turn r n e late payable free =
      ap (λ o. turn_by_end program plan o (need_of program plan r.proc) r) late
      ∙ ap (λ x. turn_by_end program plan None x r) e
      ∙ going_turn r n payable
      ∙ ap (λ o. turn_by_wanted program plan n o r) free

  -- a turn whose step needs a piece, which is there
  pub piece_turn : (r : Replaying) (n : Need) (w : Wanted) → need_of program plan r.proc ≡ n
      → end_here r.since (next_piece r).1 ≡ None → is_budget n ≡ false → wanted_of program plan r.proc n ≡ Some w
      → fits w (found_of (next_piece r).1) ≡ true
      → turn program plan r ≡ step_with program plan n (next_piece r).1 r
  piece_turn r n w e late payable wants fit =
      ap (λ o. turn_by_end program plan o (need_of program plan r.proc) r) late
      ∙ ap (λ x. turn_by_end program plan None x r) e
      ∙ going_turn r n payable
      ∙ ap (λ o. turn_by_wanted program plan n o r) wants
      ∙ cond-true (fits w (found_of (next_piece r).1)) _ _ fit

  -- the unit that starts is there
  pub unit_turn : (u : ℕ) (r : Replaying) (values : List ℤ) → (next_piece r).1 ≡ unit u values
      → take_unit plan (Some u) r ≡ more
      (record (past_piece r) { in_force = zip (option_map_or (λ u. u.cells) (slice_get plan.units u) []) values })
  unit_turn u r values e =
      cond-true (fits (wanted.Unit u) (found_of (next_piece r).1)) (more (unit_taken plan u (next_piece r).1 r)) _
      (ap (λ q. fits (wanted.Unit u) (found_of q)) e ∙ eq-eqb u u refl)
      ∙ ap (λ q. more (unit_taken plan u q r)) e

  -- ---- the status

  deed_status : (a : Answer) (t : Todo) (ts : List Todo) (d : Deed) (s x : Proc)
      → status_of (need_of_deed program plan t.stmt s d) ≡ None → (act_by_deed program a t ts d x).status ≡ x.status
  deed_status a t ts finishes s x e = absurd (true≢false (ap is_some e))
  deed_status a t ts d s x e = refl

  asked_status : (a : Answer) (t : Todo) (ts : List Todo) (q : Asked Deed) (s : Proc)
      → status_of (need_of_asked program plan t.stmt s q) ≡ None → (act_by_asked program a t ts q s).status ≡ s.status
  asked_status a t ts (Ok p) s e = deed_status a t ts p.0 s (record s { answers = [] }) e
  asked_status a t ts (Err (Wants c)) s e = refl
  asked_status a t ts (Err (Traps x)) s e = absurd (true≢false (ap is_some e))

  pub within_is : (b : Bool) (x n : Need) → cond b Budget x ≡ n → is_budget n ≡ false → x ≡ n
  within_is true x n e payable = absurd (true≢false (ap is_budget e ∙ payable))
  within_is false x n e payable = e

  entry_is : (t : ℕ) (s : Proc) (o : Option ℕ) (q : Asked Deed) (n : Need) → need_by_entry program plan t s o q ≡ n
      → is_enter n ≡ false → need_of_asked program plan t s q ≡ n
  entry_is t s (Some b) q n e inside = absurd (true≢false (ap is_enter e ∙ inside))
  entry_is t s None q n e inside = e

  pub offer_is : (t : ℕ) (o : Option ℕ) (x n : Need) → need_by_offer plan t o x ≡ n → is_done n ≡ false → x ≡ n
  offer_is t (Some c) x n e undone = absurd (true≢false (ap is_done e ∙ undone))
  offer_is t None x n e undone = e

  pub unoffered : (t : ℕ) (o : Option ℕ) (x n : Need) → need_by_offer plan t o x ≡ n → is_done n ≡ false → o ≡ None
  unoffered t (Some c) x n e undone = absurd (true≢false (ap is_done e ∙ undone))
  unoffered t None x n e undone = refl

  -- what the head asks for, where it is no completion
  pub asks_is : (s : Proc) (t : Todo) (n : Need) → need_of_head program plan t s ≡ n → is_done n ≡ false
      → need_by_entry program plan t.stmt s (entry_of program plan t) (head_deed program t s) ≡ n
  asks_is s t n e undone = offer_is t.stmt (offer_of program t)
      (need_by_entry program plan t.stmt s (entry_of program plan t) (head_deed program t s)) n e undone

  -- the head's need
  pub head_is : (s : Proc) (t : Todo) (ts : List Todo) (n : Need) → s.status ≡ None → s.todo ≡ t ∷ ts
      → need_of program plan s ≡ n → is_budget n ≡ false → need_of_head program plan t s ≡ n
  head_is s t ts n running is e payable =
      within_is (nat_lt s.budget (s.spent + cost plan (need_of_head program plan t s)))
      (need_of_head program plan t s) n (sym (need_at_todo program plan s (t ∷ ts) running is) ∙ e) payable

  by_need : (a : Answer) (t : Todo) (ts : List Todo) (n : Need) (s : Proc) → need_of_head program plan t s ≡ n
      → status_of n ≡ None → (act_by_need program plan a t ts n s).status ≡ s.status
  by_need a t ts Stopped s e ok = refl
  by_need a t ts Budget s e ok = absurd (true≢false (ap is_some ok))
  by_need a t ts (Enter b u) s e ok = refl
  by_need a t ts (Trap x) s e ok = absurd (true≢false (ap is_some ok))
  by_need a t ts (End b) s e ok = absurd (true≢false (ap is_some ok))
  by_need a t ts (Offer c v) s e ok = refl
  by_need a t ts (Done c u) s e ok = refl
  by_need a t ts n s e ok =
      asked_status a t ts (head_deed program t s) s
      (ap status_of (entry_is t.stmt s (entry_of program plan t) (head_deed program t s) n
      (asks_is s t n e refl) refl) ∙ ok)

  by_todo : (s : Proc) (a : Answer) (todo : List Todo) (n : Need) → s.todo ≡ todo → need_of program plan s ≡ n
      → status_of n ≡ None → is_budget n ≡ false → s.status ≡ None → (act_at program plan a todo s).status ≡ s.status
  by_todo s a [] n is e ok payable running = refl
  by_todo s a (t ∷ ts) n is e ok payable running =
      ap (λ x. (act_by_need program plan a t ts x s).status) e ∙ by_need a t ts n s
      (head_is s t ts n running is e payable) ok

  -- a step that does not end the process leaves it running
  pub still_running : (s : Proc) (a : Answer) (n : Need) → need_of program plan s ≡ n → status_of n ≡ None
      → is_budget n ≡ false → s.status ≡ None → (act program plan s a).status ≡ None
  still_running s a n e ok payable running = by_todo s a s.todo n refl e ok payable running ∙ running
