-- What the next step of a process needs, by its rules.
use Rattle.std.proofs.Common.{◌≡◌, ℕ, zero, suc, ◌+◌, ◌<◌, ◌≤◌, ℤ, Bool, true, false, List, [], ◌∷◌, length, Option, Some, None, Ok, Err, refl, ap, sym, ◌∙◌, subst, arith, inl, inr, if◌then◌else◌}
use Rattle.std.specs.Prelude.{nat_lt}
use Rattle.std.proofs.lemmas.Bool.{cases_lt, lt-ltb, ltb-true}
use Rattle.ppd_ast.specs.declared.limits.TheConstants.{MOST_CALLS}
use Rattle.ppd_ast.specs.declared.plan.BlockKind.TheVariants as block
use Rattle.ppd_ast.specs.declared.plan.Plan.{Plan}
use Rattle.ppd_ast.specs.declared.plan.Start.TheVariants as start
use Rattle.ppd_ast.specs.declared.program.Program.{Program}
use Rattle.ppd_ast.specs.declared.status.Status.{Status}
use Rattle.ppd_ast.specs.declared.status.Trap.TheVariants as trap
use Rattle.ppd_sem.specs.declared.asking.Pause.TheVariants.{Wants, Traps}
use Rattle.ppd_sem.specs.declared.proc.Need.{Need}
use Rattle.ppd_sem.specs.declared.proc.Need.TheVariants.{Plain, Invoke, Trap, Budget}
use Rattle.ppd_sem.specs.declared.proc.Proc.{Proc}
use Rattle.ppd_sem.specs.declared.proc.Todo.{Todo}
use Rattle.ppd_sem.specs.Asked.{Asked}
use Rattle.ppd_sem.specs.Deed.{Deed, set_local, set_shared, clear, branch, turn, leave, invoke, back, take, give, send, receive, print, pass, finish}
use Rattle.ppd_sem.specs.Process.{cost, entry_of, head_deed, need_of, need_of_asked, need_of_deed, need_of_head, need_of_leaving, need_of_send, offer_of, within_budget}
use Rattle.ppd_sem.proofs.NeedWords.{need_by_entry, need_by_offer, need_by_status, need_of_running}
use Rattle.ppd_sem.specs.Tables.{block_of, capacity_of, unit_of}
use Rattle.law_rules.specs.Needs.{Does, HeadNeeds, IsEvaluated, IsOwn, Needs, NeedsFollowTheRules, calls, calls_too_deep, completes, ends_loop, ends_process, enters, gives, goes_on, has_done_all, has_ended, leaves, needs, offers, reads, receives, returns, sends, takes, too_dear, traps, writes}

not_less : (a b : ℕ) → b ≤ a → nat_lt a b ≡ false
not_less a b le = by (nat_lt a b) refl
  where
    by : (x : Bool) → nat_lt a b ≡ x → x ≡ false
    by true e = let lt : a < b = ltb-true a b e in absurd (omega (arith, le, lt))
    by false e = refl

less_not : (a b : ℕ) → nat_lt a b ≡ false → b ≤ a
less_not a b e =
    elim (cases_lt a b) [ inl lt ↦ let clash : true ≡ false = sym (lt-ltb a b lt) ∙ e in cc | inr le ↦ le ]

module _ (program : Program) (plan : Plan) (s : Proc) (t : Todo) where
  abbrev Rule : Need → Type 0
  Rule = HeadNeeds program plan s t

  -- ---- what a statement needs has its rule

  by_leaving : Does program plan s t leave → (o : Option ℕ) → block_of plan (block.Loop t.stmt) ≡ o → Rule (need_of_leaving plan t.stmt o)
  by_leaving does None e = ends_loop does e
  by_leaving does (Some b) e = leaves b does e

  by_depth : (f : ℕ) (values : List ℤ) (into : Option ℕ) → Does program plan s t (invoke f values into) → (b : Bool) → nat_lt MOST_CALLS (s.below + length s.frames) ≡ b
      → Rule (if b then Trap trap.Depth else Invoke (block_of plan (block.Function f)) (unit_of plan (start.Entry f)))
  by_depth f values into does true e = calls_too_deep f values into does (ltb-true MOST_CALLS (s.below + length s.frames) e)
  by_depth f values into does false e = calls f values into does (less_not MOST_CALLS (s.below + length s.frames) e)

  by_capacity : (chan : ℕ) (v : ℤ) → Does program plan s t (send chan v) → (n : ℕ) → capacity_of program chan ≡ n → Rule (need_of_send plan t.stmt n chan v)
  by_capacity chan v does zero e = offers chan v does e
  by_capacity chan v does (suc n) e = sends chan n v does e

  by_deed : (deed : Deed) → Does program plan s t deed → Rule (need_of_deed program plan t.stmt s deed)
  by_deed (set_shared c v) does = writes c v does
  by_deed leave does = by_leaving does (block_of plan (block.Loop t.stmt)) refl
  by_deed (invoke f values into) does = by_depth f values into does (nat_lt MOST_CALLS (s.below + length s.frames)) refl
  by_deed (back value) does = returns value does
  by_deed (take sem) does = takes sem does
  by_deed (give sem) does = gives sem does
  by_deed (send chan v) does = by_capacity chan v does (capacity_of program chan) refl
  by_deed (receive chan into) does = receives chan into does
  by_deed finish does = ends_process does
  by_deed (set_local c v) does = goes_on (set_local c v) does tt
  by_deed (clear base len) does = goes_on (clear base len) does tt
  by_deed (branch stmts) does = goes_on (branch stmts) does tt
  by_deed (turn stmts) does = goes_on (turn stmts) does tt
  by_deed (print v) does = goes_on (print v) does tt
  by_deed pass does = goes_on pass does tt

  by_asked : IsEvaluated program plan s t → (asked : Asked Deed) → head_deed program t s ≡ asked → Rule (need_of_asked program plan t.stmt s asked)
  by_asked evaluated (Ok (deed, left)) e = by_deed deed (record { evaluated = evaluated; left = left; is = e })
  by_asked evaluated (Err (Wants cell)) e = reads cell evaluated e
  by_asked evaluated (Err (Traps x)) e = traps x evaluated e

  by_entry : offer_of program t ≡ None → (o : Option ℕ) → entry_of program plan t ≡ o
      → Rule (need_by_entry program plan t.stmt s o (head_deed program t s))
  by_entry offer None e = by_asked (record { offer = offer; entry = e }) (head_deed program t s) refl
  by_entry offer (Some b) e = enters b offer e

  by_offer : (o : Option ℕ) → offer_of program t ≡ o
      → Rule (need_by_offer plan t.stmt o (need_by_entry program plan t.stmt s (entry_of program plan t) (head_deed program t s)))
  by_offer None e = by_entry e (entry_of program plan t) refl
  by_offer (Some chan) e = completes chan e

  head_by_rule : Rule (need_of_head program plan t s)
  head_by_rule = by_offer (offer_of program t) refl

  -- ---- and what a rule says is what it needs

  at_entry : offer_of program t ≡ None → need_of_head program plan t s ≡ need_by_entry program plan t.stmt s (entry_of program plan t) (head_deed program t s)
  at_entry e =
      ap (λ o. need_by_offer plan t.stmt o (need_by_entry program plan t.stmt s (entry_of program plan t) (head_deed program t s))) e

  at_asked : IsEvaluated program plan s t → need_of_head program plan t s ≡ need_of_asked program plan t.stmt s (head_deed program t s)
  at_asked evaluated =
      at_entry evaluated.offer ∙ ap (λ o. need_by_entry program plan t.stmt s o (head_deed program t s)) evaluated.entry

  at_deed : (deed : Deed) → Does program plan s t deed → need_of_head program plan t s ≡ need_of_deed program plan t.stmt s deed
  at_deed deed does = at_asked does.evaluated ∙ ap (need_of_asked program plan t.stmt s) does.is

  own_is_plain : (deed : Deed) → IsOwn deed → need_of_deed program plan t.stmt s deed ≡ Plain
  own_is_plain (set_local c v) own = refl
  own_is_plain (clear base len) own = refl
  own_is_plain (branch stmts) own = refl
  own_is_plain (turn stmts) own = refl
  own_is_plain (print v) own = refl
  own_is_plain pass own = refl
  own_is_plain (set_shared c v) own = absurd own
  own_is_plain leave own = absurd own
  own_is_plain (invoke f values into) own = absurd own
  own_is_plain (back value) own = absurd own
  own_is_plain (take sem) own = absurd own
  own_is_plain (give sem) own = absurd own
  own_is_plain (send chan v) own = absurd own
  own_is_plain (receive chan into) own = absurd own
  own_is_plain finish own = absurd own

  head_is : (need : Need) → Rule need → need_of_head program plan t s ≡ need
  head_is need (completes chan e) =
      ap (λ o. need_by_offer plan t.stmt o (need_by_entry program plan t.stmt s (entry_of program plan t) (head_deed program t s))) e
  head_is need (enters b offer e) = at_entry offer ∙ ap (λ o. need_by_entry program plan t.stmt s o (head_deed program t s)) e
  head_is need (reads cell evaluated e) = at_asked evaluated ∙ ap (need_of_asked program plan t.stmt s) e
  head_is need (traps x evaluated e) = at_asked evaluated ∙ ap (need_of_asked program plan t.stmt s) e
  head_is need (writes c v does) = at_deed (set_shared c v) does
  head_is need (leaves b does e) = at_deed leave does ∙ ap (need_of_leaving plan t.stmt) e
  head_is need (ends_loop does e) = at_deed leave does ∙ ap (need_of_leaving plan t.stmt) e
  head_is need (calls_too_deep f values into does deep) =
      at_deed (invoke f values into) does
      ∙ ap (λ b. if b then Trap trap.Depth else Invoke (block_of plan (block.Function f)) (unit_of plan (start.Entry f))) (lt-ltb MOST_CALLS (s.below + length s.frames) deep)
  head_is need (calls f values into does few) =
      at_deed (invoke f values into) does
      ∙ ap (λ b. if b then Trap trap.Depth else Invoke (block_of plan (block.Function f)) (unit_of plan (start.Entry f))) (not_less MOST_CALLS (s.below + length s.frames) few)
  head_is need (returns value does) = at_deed (back value) does
  head_is need (takes sem does) = at_deed (take sem) does
  head_is need (gives sem does) = at_deed (give sem) does
  head_is need (offers chan v does e) = at_deed (send chan v) does ∙ ap (λ n. need_of_send plan t.stmt n chan v) e
  head_is need (sends chan n v does e) = at_deed (send chan v) does ∙ ap (λ m. need_of_send plan t.stmt m chan v) e
  head_is need (receives chan into does) = at_deed (receive chan into) does
  head_is need (ends_process does) = at_deed finish does
  head_is need (goes_on deed does own) = at_deed deed does ∙ own_is_plain deed own

module _ (program : Program) (plan : Plan) (s : Proc) where
  by_budget : (t : Todo) (ts : List Todo) → s.status ≡ None → s.todo ≡ t ∷ ts → (b : Bool)
      → nat_lt s.budget (s.spent + cost plan (need_of_head program plan t s)) ≡ b
      → Needs program plan s (if b then Budget else need_of_head program plan t s)
  by_budget t ts running is true e =
      too_dear t ts (need_of_head program plan t s) running is (head_by_rule program plan s t)
      (ltb-true s.budget (s.spent + cost plan (need_of_head program plan t s)) e)
  by_budget t ts running is false e =
      needs t ts (need_of_head program plan t s) running is (head_by_rule program plan s t)
      (less_not s.budget (s.spent + cost plan (need_of_head program plan t s)) e)

  by_todo : s.status ≡ None → (todo : List Todo) → s.todo ≡ todo → Needs program plan s (need_of_running program plan todo s)
  by_todo running [] is = has_done_all running is
  by_todo running (t ∷ ts) is =
      by_budget t ts running is (nat_lt s.budget (s.spent + cost plan (need_of_head program plan t s))) refl

  by_status : (o : Option Status) → s.status ≡ o → Needs program plan s (need_by_status program plan o s)
  by_status None e = by_todo e s.todo refl
  by_status (Some how) e = has_ended how e

  -- with a statement at the head
  at_head : (t : Todo) (ts : List Todo) → s.status ≡ None → s.todo ≡ t ∷ ts → need_of program plan s ≡ within_budget plan s (need_of_head program plan t s)
  at_head t ts running is =
      ap (λ o. need_by_status program plan o s) running ∙ ap (λ todo. need_of_running program plan todo s) is

  need_is : (need : Need) → Needs program plan s need → need_of program plan s ≡ need
  need_is need (has_ended how e) = ap (λ o. need_by_status program plan o s) e
  need_is need (has_done_all running is) =
      ap (λ o. need_by_status program plan o s) running ∙ ap (λ todo. need_of_running program plan todo s) is
  need_is need (too_dear t ts n running is head dear) =
      at_head t ts running is
      ∙ ap (within_budget plan s) (head_is program plan s t n head)
      ∙ ap (λ b. if b then Budget else n) (lt-ltb s.budget (s.spent + cost plan n) dear)
  need_is need (needs t ts n running is head paid) =
      at_head t ts running is
      ∙ ap (within_budget plan s) (head_is program plan s t need head)
      ∙ ap (λ b. if b then Budget else need) (not_less s.budget (s.spent + cost plan need) paid)

pub needs_follow : NeedsFollowTheRules
needs_follow program plan s need = (
  need_is program plan s need,
  λ is. subst (Needs program plan s) is (by_status program plan s s.status refl),
)
