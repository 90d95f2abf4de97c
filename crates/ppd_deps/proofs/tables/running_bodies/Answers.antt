use Rattle.std.proofs.Common.{◌≡◌, ◌∙◌, ℕ, List, sym, ap, subst, arith, length}
use Rattle.ppd_ast.specs.Members.{those, AreBelow}
use Rattle.ppd_sets.specs.Reach.{closure, leads}
use Rattle.ppd_sets.specs.WorkList.{AreRowsBelow}
use Rattle.ppd_sets.proofs.Calling.{call_rows_below, call_rows_long}
use Rattle.ppd_sets.proofs.Meeting.{bodies_fit}
use Rattle.ppd_sets.specs.Used.{call_rows}
use Rattle.ppd_deps.proofs.Tabled.{processes_below}
use Rattle.ppd_deps.proofs.Vocabulary.{processes}
use Rattle.ppd_deps.proofs.tables.running_bodies.Goals as goal

pub reached-requires-clause-rows : goal.reached-requires-clause-rows
reached-requires-clause-rows c = subst AreRowsBelow (sym (c.as_slice.ensures ∙ c.in_ok-rows.ensures)) (call_rows_below c.args.program.now c.requires)

pub reached-requires-clause-starts : goal.reached-requires-clause-starts
reached-requires-clause-starts c =
    let long : length c.as_slice.result.now ≡ length c.args.program.now.bodies = ap length (c.as_slice.ensures ∙ c.in_ok-rows.ensures) ∙ call_rows_long c.args.program.now in
    subst (AreBelow (length c.as_slice.result.now)) (sym (c.as_slice-2.ensures ∙ c.in_ok-starts.ensures)) (subst (λ n. AreBelow n (processes c.args.program.now)) (sym long) (processes_below c.args.program.now))

pub reached-requires-clause-count : goal.reached-requires-clause-count
reached-requires-clause-count c =
    let long : length c.as_slice.result.now ≡ length c.args.program.now.bodies = ap length (c.as_slice.ensures ∙ c.in_ok-rows.ensures) ∙ call_rows_long c.args.program.now in
    omega (arith, long, bodies_fit c.args.program.now c.requires)

pub returns : goal.returns
returns c =
    let p = c.args.program.now in
    c.in_ok-ids.ensures ∙ ap (λ (rows : List (List ℕ)). those (length rows) (leads (closure rows) c.as_slice-2.result.now)) (c.as_slice.ensures ∙ c.in_ok-rows.ensures)
    ∙ ap (λ starts. those (length (call_rows p)) (leads (closure (call_rows p)) starts)) (c.as_slice-2.ensures ∙ c.in_ok-starts.ensures)
    ∙ ap (λ n. those n (leads (closure (call_rows p)) (processes p))) (call_rows_long p)
