-- What is open and what was called at the levels after each step.
use Rattle.std.proofs.Common.{◌≡◌, ℕ, Bool, true, false, not, ◌&&◌, List, ◌∷◌, Option, Some, None, refl, ap, ap₂, sym, ◌∙◌, if◌then◌else◌, true≢false}
use Rattle.std.specs.Prelude.{is_some}
use Rattle.ppd_ast.specs.declared.plan.BlockKind.TheVariants as block
use Rattle.ppd_ast.specs.declared.plan.Plan.{Plan}
use Rattle.ppd_ast.specs.declared.program.Kind.{Kind}
use Rattle.ppd_ast.specs.declared.program.Kind.TheVariants as kind
use Rattle.ppd_ast.specs.declared.program.Program.{Program}
use Rattle.ppd_ast.specs.Lookups.{kind_of}
use Rattle.law_steps.specs.Beside.Relation.{IsCallOf}
use Rattle.ppd_sem.specs.Described.{trap_of}
use Rattle.ppd_sem.specs.Process.{need_of}
use Rattle.ppd_sem.specs.Runs.{returns}
use Rattle.ppd_sem.specs.Tables.{block_of}
use Rattle.ppd_sem.specs.declared.event.Event.{Event}
use Rattle.ppd_sem.specs.declared.proc.Todo.{Todo}
use Rattle.ppd_model.specs.FullTrace.{event_of, traced_by}
use Rattle.ppd_model.specs.declared.trace.TracedEvent.{TracedEvent}
use Rattle.ppd_model.specs.declared.tracing.Story.{Story}
use Rattle.ppd_model.specs.declared.tracing.Taken.{Taken}
use Rattle.ppd_model.specs.declared.tracing.Tracing.{Tracing}
use Rattle.ppd_graph.specs.declared.leaf_call.LeafCall.{LeafCall}
use Rattle.ppd_graph.specs.Locals.{begins_leaf, is_leaf_call, leaf_after}

-- ---- the call that goes on after a call and a return

pub leaf_call_is : (plan : Plan) (k : Kind) (f : ℕ) → IsCallOf k f → (o : Option ℕ)
    → o ≡ block_of plan (block.Function f) → is_leaf_call plan k ≡ not (is_some o)
leaf_call_is plan (kind.Call f args into) g h o e =
    ap (λ x. not (is_some x)) (ap (λ n. block_of plan (block.Function n)) (sym h) ∙ sym e)
leaf_call_is plan k g h o e = absurd h

pub call_stays : (k : Kind) (f : ℕ) → IsCallOf k f → returns k ≡ false
call_stays (kind.Call f args into) g h = refl
call_stays k g h = absurd h

return_no_leaf : (plan : Plan) (k : Kind) → returns k ≡ true → is_leaf_call plan k ≡ false
return_no_leaf plan (kind.Call f args into) h = absurd (true≢false (sym h))
return_no_leaf plan k h = refl

module _ (program : Program) (plan : Plan) (i : ℕ) (e : Event) (leaf : Option LeafCall) where
  abbrev after_if : Bool → Bool → Option LeafCall
  after_if begins goes = if begins then Some (record { item = i; stmt = e.stmt }) else if goes then None else leaf

  pub leaf_begins : e.trap ≡ None → is_leaf_call plan (kind_of program e.stmt) ≡ true
      → leaf_after program plan i e leaf ≡ Some (record { item = i; stmt = e.stmt })
  leaf_begins no_trap call =
      ap (λ b. after_if b (returns (kind_of program e.stmt))) (ap₂ (λ a b. not (is_some a) && b) no_trap call)

  no_begin : is_leaf_call plan (kind_of program e.stmt) ≡ false → begins_leaf program plan e ≡ false
  no_begin h = ap (λ b. not (is_some e.trap) && b) h ∙ by (not (is_some e.trap))
    where
      by : (a : Bool) → (a && false) ≡ false
      by true = refl
      by false = refl

  pub leaf_ends : returns (kind_of program e.stmt) ≡ true → leaf_after program plan i e leaf ≡ None
  leaf_ends goes = ap₂ after_if (no_begin (return_no_leaf plan (kind_of program e.stmt) goes)) goes

  pub leaf_over : is_leaf_call plan (kind_of program e.stmt) ≡ false → returns (kind_of program e.stmt) ≡ false
      → leaf_after program plan i e leaf ≡ leaf
  leaf_over call goes = ap₂ after_if (no_begin call) goes

-- ---- the event of a step

module _ (program : Program) (plan : Plan) (story : Story) (x : Taken) (t : Tracing) (h : Todo) (hs : List Todo)
    (is : t.proc.todo ≡ h ∷ hs) where
  abbrev pub event_now : TracedEvent
  event_now = traced_by program story x t (event_of program plan t.proc x t.proc.todo)

  pub stmt_now : event_now.event.stmt ≡ h.stmt
  stmt_now = ap (λ todo. (event_of program plan t.proc x todo).stmt) is

  pub trap_now : event_now.event.trap ≡ trap_of (need_of program plan t.proc)
  trap_now = ap (λ todo. (event_of program plan t.proc x todo).trap) is
