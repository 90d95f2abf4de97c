-- A step that enters a block enters that of its loop, or of the function that it calls.
use Rattle.std.proofs.Common.{◌≡◌, ℕ, zero, suc, ◌+◌, ℤ, Bool, true, false, nat_lt, List, ◌∷◌, length, Option, Some, None, Ok, Err, refl, ap, sym, subst, ◌∙◌, if◌then◌else◌}
use Rattle.std.specs.Prelude.{⊤}
use Rattle.std.proofs.lemmas.Option.{none-some}
use Rattle.ppd_ast.specs.declared.plan.BlockKind.TheVariants as block
use Rattle.ppd_ast.specs.declared.plan.Plan.{Plan}
use Rattle.ppd_ast.specs.declared.program.Kind.{Kind}
use Rattle.ppd_ast.specs.declared.program.Kind.TheVariants as kind
use Rattle.ppd_ast.specs.declared.program.Program.{Program}
use Rattle.ppd_ast.specs.declared.status.Status.{Status}
use Rattle.ppd_ast.specs.Lookups.{kind_of}
use Rattle.ppd_ast.specs.declared.limits.TheConstants.{MOST_CALLS}
use Rattle.ppd_sem.specs.declared.asking.Pause.TheVariants.{Wants, Traps}
use Rattle.ppd_sem.specs.declared.proc.Need.{Need}
use Rattle.ppd_sem.specs.declared.proc.Need.TheVariants as need
use Rattle.ppd_sem.specs.declared.proc.Proc.{Proc}
use Rattle.ppd_sem.specs.declared.proc.Todo.{Todo}
use Rattle.ppd_sem.specs.Asked.{Asked}
use Rattle.ppd_sem.specs.Deed.{Deed, invoke, leave, send}
use Rattle.ppd_sem.specs.Process.{cost, entry_of, head_deed, loop_of, need_of, need_of_asked, need_of_deed, need_of_head, need_of_leaving, need_of_send, offer_of}
use Rattle.ppd_sem.proofs.NeedWords.{need_by_entry, need_by_offer, need_by_status, need_of_running}
use Rattle.ppd_sem.specs.Tables.{block_of, capacity_of}

abbrev pub OpensAt : Plan → ℕ → Need → Type 0
OpensAt plan t (need.Enter b u) = block_of plan (block.Loop t) ≡ Some b
OpensAt plan t (need.Invoke o u) = (f : ℕ) × (o ≡ block_of plan (block.Function f))
OpensAt plan t n = ⊤

module _ (program : Program) (plan : Plan) (t : Todo) (s : Proc) where
  abbrev Opens : Need → Type 0
  Opens n = OpensAt plan t.stmt n

  by_call : (b : Bool) (f u : ℕ) (x : Need) → Opens x
      → Opens (if b then x else need.Invoke (block_of plan (block.Function f)) u)
  by_call true f u x h = h
  by_call false f u x h = (f, refl)

  by_leaving : (o : Option ℕ) → Opens (need_of_leaving plan t.stmt o)
  by_leaving None = tt
  by_leaving (Some b) = tt

  by_send : (n c : ℕ) (v : ℤ) → Opens (need_of_send plan t.stmt n c v)
  by_send zero c v = tt
  by_send (suc n) c v = tt

  by_deed : (d : Deed) → Opens (need_of_deed program plan t.stmt s d)
  by_deed leave = by_leaving (block_of plan (block.Loop t.stmt))
  by_deed (invoke f values into) = by_call (nat_lt MOST_CALLS (s.below + length s.frames)) f _ _ tt
  by_deed (send c v) = by_send (capacity_of program c) c v
  by_deed d = tt

  by_asked : (x : Asked Deed) → Opens (need_of_asked program plan t.stmt s x)
  by_asked (Ok q) = by_deed q.0
  by_asked (Err (Wants c)) = tt
  by_asked (Err (Traps x)) = tt

  loop_block : (k : Kind) (b : ℕ) → loop_of plan t.stmt k ≡ Some b → block_of plan (block.Loop t.stmt) ≡ Some b
  loop_block (kind.While e body) b h = h
  loop_block k b h = absurd (none-some b h)

  by_entry : (o : Option ℕ) → entry_of program plan t ≡ o
      → Opens (need_by_entry program plan t.stmt s o (head_deed program t s))
  by_entry None e = by_asked (head_deed program t s)
  by_entry (Some b) e = by t.entered refl
    where
      by : (x : Bool) → t.entered ≡ x → block_of plan (block.Loop t.stmt) ≡ Some b
      by true f = absurd (none-some b
          (sym (ap (λ x. if x then None else loop_of plan t.stmt (kind_of program t.stmt)) f) ∙ e))
      by false f = loop_block (kind_of program t.stmt) b
          (sym (ap (λ x. if x then None else loop_of plan t.stmt (kind_of program t.stmt)) f) ∙ e)

  by_offer : (o : Option ℕ) → Opens
      (need_by_offer plan t.stmt o (need_by_entry program plan t.stmt s (entry_of program plan t)
      (head_deed program t s)))
  by_offer (Some c) = tt
  by_offer None = by_entry (entry_of program plan t) refl

  by_budget : (x : Bool) → Opens (if x then need.Budget else need_of_head program plan t s)
  by_budget true = tt
  by_budget false = by_offer (offer_of program t)

  by_status : (o : Option Status) (ts : List Todo) → s.todo ≡ t ∷ ts → Opens (need_by_status program plan o s)
  by_status (Some st) ts is = tt
  by_status None ts is = subst (λ todo. Opens (need_of_running program plan todo s)) (sym is)
      (by_budget (nat_lt s.budget (s.spent + cost plan (need_of_head program plan t s))))

  -- the need of a process whose head is t
  pub opens_at : (ts : List Todo) → s.todo ≡ t ∷ ts → Opens (need_of program plan s)
  opens_at ts is = by_status s.status ts is
