-- A step that ends the process is of an `End`.
use Rattle.std.proofs.Common.{◌≡◌, ℕ, zero, suc, ◌+◌, ℤ, Bool, true, false, nat_lt, List, ◌∷◌, length, Option, Some, None, Ok, Err, refl, sym, subst, ◌∙◌, if◌then◌else◌}
use Rattle.std.specs.Prelude.{⊤}
use Rattle.ppd_ast.specs.declared.plan.Plan.{Plan}
use Rattle.ppd_ast.specs.declared.program.Program.{Program}
use Rattle.ppd_ast.specs.declared.status.Status.{Status}
use Rattle.ppd_ast.specs.declared.status.Trap.TheVariants as trap
use Rattle.ppd_ast.specs.Lookups.{kind_of}
use Rattle.ppd_ast.specs.declared.limits.TheConstants.{MOST_CALLS}
use Rattle.ppd_sem.specs.declared.asking.Pause.TheVariants.{Wants, Traps}
use Rattle.ppd_sem.specs.declared.proc.Need.{Need}
use Rattle.ppd_sem.specs.declared.proc.Need.TheVariants as need
use Rattle.ppd_sem.specs.declared.proc.Proc.{Proc}
use Rattle.ppd_sem.specs.declared.proc.Todo.{Todo}
use Rattle.ppd_sem.specs.Asked.{Asked}
use Rattle.ppd_sem.specs.Deed.{Deed, leave, invoke, send, finish}
use Rattle.ppd_sem.specs.Process.{cost, entry_of, head_deed, need_of, need_of_asked, need_of_deed, need_of_head, need_of_leaving, need_of_send, offer_of, top_frame}
use Rattle.ppd_sem.proofs.NeedWords.{need_by_entry, need_by_offer, need_of_running}
use Rattle.ppd_sem.specs.Tables.{capacity_of}
use Rattle.ppd_sem.proofs.Progress.{need_at_status, need_at_todo}
use Rattle.law_steps.proofs.Vocabulary.Relation.{IsEnd, Suits, Yields}
use Rattle.law_steps.proofs.Beside.Deeds.{suits}

-- where a need is that of an end, this holds
abbrev EndSuch : Type 0 → Need → Type 0
EndSuch W (need.End b) = W
EndSuch W n = ⊤

if_end : (W : Type 0) (b : Bool) (x y : Need) → EndSuch W x → EndSuch W y → EndSuch W (if b then x else y)
if_end W true x y h g = h
if_end W false x y h g = g

leaving_end : (W : Type 0) (plan : Plan) (t : ℕ) (o : Option ℕ) → EndSuch W (need_of_leaving plan t o)
leaving_end W plan t None = tt
leaving_end W plan t (Some b) = tt

send_end : (W : Type 0) (plan : Plan) (t n c : ℕ) (v : ℤ) → EndSuch W (need_of_send plan t n c v)
send_end W plan t zero c v = tt
send_end W plan t (suc n) c v = tt

module _ (program : Program) (plan : Plan) (s : Proc) (t : Todo) where
  deed_end : (d : Deed) → Suits (kind_of program t.stmt) d
      → EndSuch (IsEnd (kind_of program t.stmt)) (need_of_deed program plan t.stmt s d)
  deed_end finish h = h
  deed_end leave h = leaving_end _ plan t.stmt _
  deed_end (invoke f values into) h =
      if_end _ (nat_lt MOST_CALLS (s.below + length s.frames)) (need.Trap trap.Depth) (need.Invoke _ _) tt tt
  deed_end (send c v) h = send_end _ plan t.stmt (capacity_of program c) c v
  deed_end d h = tt

  asked_end : (q : Asked Deed) → Yields (Suits (kind_of program t.stmt)) q
      → EndSuch (IsEnd (kind_of program t.stmt)) (need_of_asked program plan t.stmt s q)
  asked_end (Ok p) h = deed_end p.0 h
  asked_end (Err (Wants c)) h = tt
  asked_end (Err (Traps x)) h = tt

  entry_end : (o : Option ℕ)
      → EndSuch (IsEnd (kind_of program t.stmt)) (need_by_entry program plan t.stmt s o (head_deed program t s))
  entry_end (Some b) = tt
  entry_end None = asked_end (head_deed program t s)
      (suits program.exprs (kind_of program t.stmt) (top_frame s.frames).cells s.answers)

  offer_end : (o : Option ℕ)
      → EndSuch (IsEnd (kind_of program t.stmt))
      (need_by_offer plan t.stmt o
      (need_by_entry program plan t.stmt s (entry_of program plan t) (head_deed program t s)))
  offer_end (Some c) = tt
  offer_end None = entry_end (entry_of program plan t)

  running_end : (ts : List Todo) → EndSuch (IsEnd (kind_of program t.stmt)) (need_of_running program plan (t ∷ ts) s)
  running_end ts = if_end _ (nat_lt s.budget (s.spent + cost plan (need_of_head program plan t s))) need.Budget
      (need_of_head program plan t s) tt (offer_end (offer_of program t))

  -- a step that ends the process is of an end
  pub end_is : (ts : List Todo) (b : ℕ) → s.todo ≡ t ∷ ts → need_of program plan s ≡ need.End b
      → IsEnd (kind_of program t.stmt)
  end_is ts b is e = by s.status refl
    where
      by : (o : Option Status) → s.status ≡ o → IsEnd (kind_of program t.stmt)
      by (Some x) r = absurd (let no : need.Stopped ≡ need.End b = sym (need_at_status program plan s (Some x) r)
          ∙ e in cc)
      by None r = subst (EndSuch (IsEnd (kind_of program t.stmt)))
          (sym (need_at_todo program plan s (t ∷ ts) r is) ∙ e) (running_end ts)
