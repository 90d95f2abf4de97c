-- An event at a level: which it may be, and the level with it.
use Rattle.std.proofs.Common.{◌≡◌, ℕ, Bool, true, false, ◌&&◌, List, [], ◌∷◌, ◌++◌, Some, None, refl, true≢false}
use Rattle.std.specs.Prelude.{is_some, not}
use Rattle.ppd_ast.specs.Numbered.{is_call}
use Rattle.ppd_ast.specs.declared.plan.Plan.{Plan}
use Rattle.ppd_ast.specs.declared.plan.Policy.{Policy}
use Rattle.ppd_ast.specs.declared.program.Kind.{Kind}
use Rattle.ppd_ast.specs.declared.program.Kind.TheVariants as kind
use Rattle.ppd_ast.specs.declared.program.Program.{Program}
use Rattle.ppd_ast.specs.Lookups.{kind_of, body_of}
use Rattle.ppd_blocks.specs.Blocks.{plan_of}
use Rattle.ppd_sem.specs.declared.event.Event.{Event}
use Rattle.ppd_sem.specs.declared.proc.Todo.{Todo}
use Rattle.ppd_sem.specs.Runs.{returns}
use Rattle.ppd_blocks.specs.Walk.{stands_in}
use Rattle.ppd_model.specs.declared.trace.EventId.{EventId}
use Rattle.ppd_graph.specs.Locals.{begins_leaf, is_leaf_call}
use Rattle.law_flow.proofs.Control.Sights.{Sign}
use Rattle.law_flow.proofs.Control.Statics.{Free}
use Rattle.law_flow.proofs.Control.Levels.{Level, Sort, loop, process}
use Rattle.law_flow.proofs.Control.Goes.{view_after}

-- where a statement of the level at which an event is may stand
abbrev pub MayTest : Program → Policy → Sort → ℕ → Type 0
MayTest program policy (loop l) t = stands_in program t l ≡ true
MayTest program policy s t = Free program policy t

pub no_leaf_kind : (plan : Plan) (k : Kind) → is_call k ≡ false → is_leaf_call plan k ≡ false
no_leaf_kind plan (kind.Call f arguments into) h = absurd (true≢false h)
no_leaf_kind plan k h = refl

and_no : (a b : Bool) → b ≡ false → (a && b) ≡ false
and_no true b e = e
and_no false b e = refl

-- an event that is no call begins no activation
pub begins_no : (program : Program) (plan : Plan) (e : Event) → is_call (kind_of program e.stmt) ≡ false
    → begins_leaf program plan e ≡ false
begins_no program plan e h = and_no (not (is_some e.trap)) (is_leaf_call plan (kind_of program e.stmt))
    (no_leaf_kind plan (kind_of program e.stmt) h)

module _ (program : Program) (policy : Policy) (p : ℕ) where
  -- the event of statement t at a level
  pub record AtLevel (x : Level) (t n : ℕ) (e : Event) : Type 0 where
    pub is : e.stmt ≡ t
    pub fine : e.trap ≡ None
    pub home : body_of program t ≡ x.body
    pub stands : MayTest program policy x.sort t
    pub no_leaf : begins_leaf program (plan_of program policy) e ≡ false
    pub stays : returns (kind_of program t) ≡ false

  abbrev pub me_of : ℕ → EventId
  me_of n = record { process = p; number = n }

  abbrev pub sight_after : List Sign → ℕ → Event → List Sign
  sight_after xs n e = xs ++ Some (n, e) ∷ []

  -- the level with the event, and then these to do
  abbrev pub with_event : Level → ℕ → Event → List Todo → Level
  with_event x n e todo = record x {
    run = record x.run { sight = sight_after x.run.sight n e };
    view = view_after program
        (me_of n) e x.view;
    todo = todo;
  }
