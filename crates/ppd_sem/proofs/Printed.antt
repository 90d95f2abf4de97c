-- What was printed before changes no need and no step.
use Rattle.std.proofs.Common.{◌≡◌, ℕ, ℤ, List, [], ◌∷◌, Option, Some, None, Ok, Err, refl, ap, sym, ◌∙◌, Bool, int_eq, ◌&&◌}
use Rattle.std.specs.Bool.{Decides}
use Rattle.std.specs.Cmp.Lexicographic.{pointwise}
use Rattle.std.proofs.lemmas.Bool.Decides.{Decides-and, Decides-like, Decides-int_eq}
use Rattle.std.proofs.lemmas.List.{append_assoc, append-nil}
use Rattle.std.proofs.lemmas.Slice.Eq.{slice_eq-Decides}
use Rattle.ppd_ast.specs.declared.plan.Plan.{Plan}
use Rattle.ppd_ast.specs.declared.program.Program.{Program}
use Rattle.ppd_ast.specs.declared.status.Status.{Status}
use Rattle.ppd_sem.specs.declared.asking.Pause.TheVariants.{Wants, Traps}
use Rattle.ppd_sem.specs.declared.proc.Answer.{Answer}
use Rattle.ppd_sem.specs.declared.proc.Need.{Need}
use Rattle.ppd_sem.specs.declared.proc.Need.TheVariants.{Read, Write, Plain, Enter, Leave, Invoke, Back, P, V, Send, Offer, Done, Recv, End, Trap, Budget, Stopped}
use Rattle.ppd_sem.specs.declared.proc.Proc.{Proc}
use Rattle.ppd_sem.specs.declared.proc.Todo.{Todo}
use Rattle.ppd_sem.specs.Asked.{Asked}
use Rattle.ppd_sem.specs.Deed.{Deed, set_local, set_shared, clear, branch, turn, leave, invoke, back, take, give, send, receive, print, pass, finish}
use Rattle.ppd_sem.specs.Printed.{PrintsAreNotRead, printed_before, unprinted}
use Rattle.ppd_sem.specs.Process.{act, act_by_asked, act_by_deed, act_by_need, charged, entry_of, head_deed, need_of, need_of_asked, need_of_deed, need_of_head, offer_of, within_budget}
use Rattle.ppd_sem.proofs.NeedWords.{act_at, need_by_entry, need_by_offer, need_by_status, need_of_running}

-- ---- the need

module _ (program : Program) (plan : Plan) (ps : List ℤ) where
  deed_needs : (t : ℕ) (s : Proc) (d : Deed) → need_of_deed program plan t (printed_before ps s) d ≡ need_of_deed program plan t s d
  deed_needs t s (set_local c v) = refl
  deed_needs t s (set_shared c v) = refl
  deed_needs t s (clear base len) = refl
  deed_needs t s (branch stmts) = refl
  deed_needs t s (turn stmts) = refl
  deed_needs t s leave = refl
  deed_needs t s (invoke f values into) = refl
  deed_needs t s (back value) = refl
  deed_needs t s (take sem) = refl
  deed_needs t s (give sem) = refl
  deed_needs t s (send chan value) = refl
  deed_needs t s (receive chan into) = refl
  deed_needs t s (print v) = refl
  deed_needs t s pass = refl
  deed_needs t s finish = refl

  asked_needs : (t : ℕ) (s : Proc) (asked : Asked Deed) → need_of_asked program plan t (printed_before ps s) asked ≡ need_of_asked program plan t s asked
  asked_needs t s (Ok p) = deed_needs t s p.0
  asked_needs t s (Err pause) = refl

  entry_needs : (t : ℕ) (s : Proc) (entry : Option ℕ) (asked : Asked Deed) → need_by_entry program plan t (printed_before ps s) entry asked ≡ need_by_entry program plan t s entry asked
  entry_needs t s (Some b) asked = refl
  entry_needs t s None asked = asked_needs t s asked

  head_needs : (t : Todo) (s : Proc) → need_of_head program plan t (printed_before ps s) ≡ need_of_head program plan t s
  head_needs t s = ap (λ (n : Need). need_by_offer plan t.stmt (offer_of program t) n) (entry_needs t.stmt s (entry_of program plan t) (head_deed program t s))

  running_needs : (todo : List Todo) (s : Proc) → need_of_running program plan todo (printed_before ps s) ≡ need_of_running program plan todo s
  running_needs [] s = refl
  running_needs (t ∷ ts) s = ap (λ (n : Need). within_budget plan s n) (head_needs t s)

  status_needs : (status : Option Status) (s : Proc) → need_by_status program plan status (printed_before ps s) ≡ need_by_status program plan status s
  status_needs (Some x) s = refl
  status_needs None s = running_needs s.todo s

  pub same_need : (s : Proc) → need_of program plan (printed_before ps s) ≡ need_of program plan s
  same_need s = status_needs s.status s

-- ---- the step

module _ (program : Program) (plan : Plan) (ps : List ℤ) (a : Answer) (t : Todo) (ts : List Todo) where
  deed_steps : (d : Deed) (s : Proc) → act_by_deed program a t ts d (printed_before ps s) ≡ printed_before ps (act_by_deed program a t ts d s)
  deed_steps (set_local c v) s = refl
  deed_steps (set_shared c v) s = refl
  deed_steps (clear base len) s = refl
  deed_steps (branch stmts) s = refl
  deed_steps (turn stmts) s = refl
  deed_steps leave s = refl
  deed_steps (invoke f values into) s = refl
  deed_steps (back value) s = refl
  deed_steps (take sem) s = refl
  deed_steps (give sem) s = refl
  deed_steps (send chan value) s = refl
  deed_steps (receive chan into) s = refl
  deed_steps (print v) s = ap (λ (xs : List ℤ). record s { todo = ts; prints = xs }) (append_assoc ps s.prints (v ∷ []))
  deed_steps pass s = refl
  deed_steps finish s = refl

  asked_steps : (asked : Asked Deed) (s : Proc) → act_by_asked program a t ts asked (printed_before ps s) ≡ printed_before ps (act_by_asked program a t ts asked s)
  asked_steps (Ok p) s = deed_steps p.0 (record s { answers = [] })
  asked_steps (Err (Wants cell)) s = refl
  asked_steps (Err (Traps trap)) s = refl

  charged_steps : (n : Need) (s : Proc) → charged plan n (act_by_asked program a t ts (head_deed program t s) (printed_before ps s)) ≡ printed_before ps (charged plan n (act_by_asked program a t ts (head_deed program t s) s))
  charged_steps n s = ap (λ (x : Proc). charged plan n x) (asked_steps (head_deed program t s) s)

  need_steps : (n : Need) (s : Proc) → act_by_need program plan a t ts n (printed_before ps s) ≡ printed_before ps (act_by_need program plan a t ts n s)
  need_steps (Read c) s = charged_steps (Read c) s
  need_steps (Write c v) s = charged_steps (Write c v) s
  need_steps Plain s = charged_steps Plain s
  need_steps (Enter b u) s = refl
  need_steps (Leave b u) s = charged_steps (Leave b u) s
  need_steps (Invoke b u) s = charged_steps (Invoke b u) s
  need_steps (Back b u) s = charged_steps (Back b u) s
  need_steps (P sem u) s = charged_steps (P sem u) s
  need_steps (V sem u) s = charged_steps (V sem u) s
  need_steps (Send c v u) s = charged_steps (Send c v u) s
  need_steps (Offer c v) s = refl
  need_steps (Done c u) s = refl
  need_steps (Recv c u) s = charged_steps (Recv c u) s
  need_steps (End b) s = charged_steps (End b) s
  need_steps (Trap trap) s = refl
  need_steps Budget s = refl
  need_steps Stopped s = refl

module _ (program : Program) (plan : Plan) (ps : List ℤ) (a : Answer) where
  steps_at : (todo : List Todo) (s : Proc) → act_at program plan a todo (printed_before ps s) ≡ printed_before ps (act_at program plan a todo s)
  steps_at [] s = refl
  steps_at (t ∷ ts) s =
      ap (λ (n : Need). act_by_need program plan a t ts n (printed_before ps s)) (same_need program plan ps s)
      ∙ need_steps program plan ps a t ts (need_of program plan s) s

  pub same_step : (s : Proc) → act program plan (printed_before ps s) a ≡ printed_before ps (act program plan s a)
  same_step s = steps_at s.todo s

pub with_own : (s : Proc) → printed_before s.prints (unprinted s) ≡ s
with_own s = ap (λ (ps : List ℤ). record s { prints = ps }) (append-nil s.prints)

pub need_unprinted : (program : Program) (plan : Plan) (s : Proc) → need_of program plan (unprinted s) ≡ need_of program plan s
need_unprinted program plan s = sym (same_need program plan s.prints (unprinted s)) ∙ ap (λ (x : Proc). need_of program plan x) (with_own s)

pub not_read : PrintsAreNotRead
not_read = record {
  needs = λ program plan ps s. same_need program plan ps s;
  steps = λ program plan ps s a. same_step program plan ps a s;
}

-- ---- two states with their prints

pub printed_decide : (a b : Proc) (r u : Bool) → Decides r (unprinted a ≡ unprinted b) → u ≡ pointwise int_eq a.prints b.prints → Decides (r && u) (a ≡ b)
printed_decide a b r u h k =
    Decides-like _ (λ p. joined p.0 p.1) (λ p. (ap (λ x. unprinted x) p, ap (λ x. x.prints) p))
    (Decides-and _ _ h (slice_eq-Decides Decides-int_eq a.prints b.prints u k)) where
      joined : unprinted a ≡ unprinted b → a.prints ≡ b.prints → a ≡ b
      joined e f =
          ap (λ (x : Proc). record x { prints = a.prints }) e ∙ ap (λ (ps : List ℤ). record b { prints = ps }) f
