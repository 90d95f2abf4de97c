-- The control parent by its parts.
use Rattle.ppd_ast.specs.Lookups.{kind_of}
use Rattle.ppd_ast.specs.declared.plan.Plan.{Plan}
use Rattle.ppd_ast.specs.declared.program.Program.{Program}
use Rattle.ppd_graph.specs.Control.{control_among, control_in, last_test, leaf_call_at, test_of_run, test_round}
use Rattle.ppd_graph.specs.Locals.{frame_in, leaf_at}
use Rattle.ppd_graph.specs.Seen.{Seen}
use Rattle.ppd_graph.specs.declared.leaf_call.LeafCall.{LeafCall}
use Rattle.ppd_model.specs.declared.flow.Item.{Item}
use Rattle.ppd_model.specs.declared.flow.Origin.{Origin}
use Rattle.std.proofs.Common.{List, Option, ap, subst, sym, take, ℕ, ◌∙◌, ◌≡◌}
use Rattle.std.specs.Option.{option_or}
use Rattle.std.specs.Prelude.{[], get_or, option_and_then, slice_get}

pub control_is : (program : Program) (plan : Plan) (x : Seen) (p k j s frame : ℕ) (items : List Item) (leaf : Option LeafCall) (run' round call both all : Option Origin)
    → items ≡ get_or x.items k [] → leaf ≡ leaf_at program plan (take j items) → frame ≡ frame_in leaf
    → run' ≡ test_of_run p k (kind_of program s) (last_test program plan frame s (take j items))
    → round ≡ test_round program plan p k frame (take j items) (option_and_then (λ x. x.parent) (slice_get program.stmts s))
    → call ≡ leaf_call_at p k leaf → both ≡ option_or round call → all ≡ option_or run' both
    → all ≡ control_in program plan x p k j s
control_is program plan x p k j s frame items leaf run' round call both all i l f a b c d e =
    let frames : frame_in leaf ≡ frame = sym f in
    let runs : run' ≡ test_of_run p k (kind_of program s) (last_test program plan (frame_in leaf) s (take j items)) =
    subst (λ z. run' ≡ test_of_run p k (kind_of program s) (last_test program plan z s (take j items))) f a in
    let rounds : round ≡ test_round program plan p k (frame_in leaf) (take j items) (option_and_then (λ x. x.parent) (slice_get program.stmts s)) =
    subst (λ z. round ≡ test_round program plan p k z (take j items) (option_and_then (λ x. x.parent) (slice_get program.stmts s))) f b in
    let among : all ≡ control_among program plan p k s (take j items) leaf =
    e ∙ (ap (λ z. option_or run' z) d ∙ (ap (λ z. option_or z (option_or round call)) runs
    ∙ (ap (λ z. option_or (test_of_run p k (kind_of program s) (last_test program plan (frame_in leaf) s (take j items))) (option_or z call)) rounds
    ∙ ap (λ z. option_or (test_of_run p k (kind_of program s) (last_test program plan (frame_in leaf) s (take j items))) (option_or (test_round program plan p k (frame_in leaf) (take j items) (option_and_then (λ x. x.parent) (slice_get program.stmts s))) z)) c))) in
    among ∙ (ap (λ z. control_among program plan p k s (take j items) z) l
    ∙ ap (λ (z : List Item). control_among program plan p k s (take j z) (leaf_at program plan (take j z))) i)
