-- Small facts of one step: what an event begins and receives, and what the first activation was begun by.
use Rattle.std.proofs.Common.{◌≡◌, ℕ, ℤ, Bool, true, false, not, ◌&&◌, List, [], ◌∷◌, Option, Some, None, refl, ap, ap₂, ◌∙◌, true≢false}
use Rattle.std.specs.List.{range_with_len}
use Rattle.std.specs.Prelude.{is_some, nat_eq, option_to_list}
use Rattle.std.proofs.Math.Bool.{and-false}
use Rattle.ppd_ast.specs.declared.plan.Plan.{Plan}
use Rattle.ppd_ast.specs.declared.program.Body.{Body}
use Rattle.ppd_ast.specs.declared.program.Program.{Program}
use Rattle.ppd_ast.specs.Lookups.{kind_of}
use Rattle.ppd_ast.proofs.Vocabulary.{params_of_body}
use Rattle.ppd_blocks.proofs.Vocabulary.{params_of}
use Rattle.ppd_sem.specs.Process.{into_of, top_frame}
use Rattle.ppd_sem.specs.Runs.{returns}
use Rattle.ppd_sem.specs.declared.event.Event.{Event}
use Rattle.ppd_sem.specs.declared.proc.Frame.{Frame}
use Rattle.ppd_model.specs.Synchronizations.{is_number}
use Rattle.ppd_model.specs.declared.tracing.Activation.{Activation}
use Rattle.ppd_graph.specs.declared.leaf_call.LeafCall.{LeafCall}
use Rattle.ppd_graph.specs.Locals.{begins_leaf, is_leaf_call, receives}
use Rattle.law_flow.specs.Places.Leaves.{Begun, First, begun_by}
use Rattle.law_flow.proofs.Locals.Cells.Intervals.{returned_to}

pub begins_none : (program : Program) (plan : Plan) (e : Event) → is_leaf_call plan (kind_of program e.stmt) ≡ false
    → begins_leaf program plan e ≡ false
begins_none program plan e h = ap (λ b. not (is_some e.trap) && b) h ∙ and-false (not (is_some e.trap))

pub begins_one : (program : Program) (plan : Plan) (e : Event) → e.trap ≡ None
    → is_leaf_call plan (kind_of program e.stmt) ≡ true → begins_leaf program plan e ≡ true
begins_one program plan e no_trap h = ap₂ (λ t b. not (is_some t) && b) no_trap h

pub receives_none : (program : Program) (f c : ℕ) (e : Event) (o : Option LeafCall)
    → returns (kind_of program e.stmt) ≡ false → receives program f c e o ≡ false
receives_none program f c e None h = refl
receives_none program f c e (Some call) h = by (nat_eq f 0) (not (is_some e.trap)) (returns (kind_of program e.stmt))
    (is_some e.value) (is_number (into_of (kind_of program call.stmt)) c) h
  where
    by : (a b r d g : Bool) → r ≡ false → (a && b && r && d && g) ≡ false
    by true true true d g h = absurd (true≢false h)
    by true true false d g h = refl
    by true false r d g h = refl
    by false b r d g h = refl

-- the first activation was begun by the top frame's call
pub first_begun : (frames : List Frame) (xs : List Activation) (P : Begun → Type 0) (Q : List Begun → Type 0)
    → First P Q (begun_by frames xs) → (c : Begun) × P c × ((top_frame frames).call ≡ c.stmt)
first_begun [] xs P Q g = absurd g
first_begun (f ∷ fs) [] P Q g = absurd g
first_begun (f ∷ fs) (x ∷ xs) P Q g = (record { stmt = f.call; event = x.call }, g.0, refl)

pub params_are : (o : Option Body) → params_of o ≡ range_with_len 0 (params_of_body o)
params_are None = refl
params_are (Some b) = refl

-- what a value returns to
pub returned_is : (program : Program) (c call : ℕ) (value : Option ℤ)
    → returned_to program 0 c call (option_to_list value)
    ≡ (is_some value && is_number (into_of (kind_of program call)) c)
returned_is program c call None = refl
returned_is program c call (Some v) = refl

-- what is begun after the first
