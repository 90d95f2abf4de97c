use Rattle.std.proofs.Common.{◌≡◌, ◌∙◌, sym, ap, subst, arith, List, ℕ, length}
use Rattle.std.specs.List.{flat_map}
use Rattle.ppd_sets.specs.WorkList.{AreRowsBelow}
use Rattle.ppd_sets.specs.declared.touched.Touched.{Touched}
use Rattle.ppd_sets.specs.Gained.{HasBoth, reads_of, writes_of}
use Rattle.ppd_sets.proofs.Calling.{call_rows_below, call_rows_long, one_below}
use Rattle.ppd_sets.proofs.Gathering.{called_is, of_called}
use Rattle.ppd_sets.proofs.Meeting.{bodies_fit}
use Rattle.ppd_sets.proofs.bodies.touched_from.Goals as goal

pub reached-requires-clause-rows : goal.reached-requires-clause-rows
reached-requires-clause-rows c = subst AreRowsBelow (sym (c.as_slice.ensures ∙ c.requires.rows)) (call_rows_below c.args.program.now c.requires.valid)

pub reached-requires-clause-starts : goal.reached-requires-clause-starts
reached-requires-clause-starts c =
    let long : length c.as_slice.result.now ≡ length c.args.program.now.bodies = ap length (c.as_slice.ensures ∙ c.requires.rows) ∙ call_rows_long c.args.program.now in
    one_below (length c.as_slice.result.now) c.args.body (omega (arith, c.requires.body, long))

pub reached-requires-clause-count : goal.reached-requires-clause-count
reached-requires-clause-count c =
    let long : length c.as_slice.result.now ≡ length c.args.program.now.bodies = ap length (c.as_slice.ensures ∙ c.requires.rows) ∙ call_rows_long c.args.program.now in
    omega (arith, long, bodies_fit c.args.program.now c.requires.valid)

pub returns : goal.returns
returns c =
    let t = c.touched_by.result in
    let numbers = c.in_ok-numbers.numbers in
    let found : HasBoth t (flat_map (reads_of c.args.list.now) numbers) (flat_map (writes_of c.args.list.now) numbers) =
    subst (λ (l : List Touched). HasBoth t (flat_map (reads_of l) numbers) (flat_map (writes_of l) numbers)) c.as_slice-2.ensures
    (subst (λ (ns : List ℕ). HasBoth t (flat_map (reads_of c.as_slice-2.result.now) ns) (flat_map (writes_of c.as_slice-2.result.now) ns)) c.as_slice-3.ensures c.touched_by.ensures) in
    of_called c.args.program.now c.args.list.now c.requires.long c.requires.each c.args.body numbers t
    (called_is c.args.program.now c.args.body c.as_slice.result.now numbers (c.as_slice.ensures ∙ c.requires.rows) c.in_ok-numbers.ensures) found
