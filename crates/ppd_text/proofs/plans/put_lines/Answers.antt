use Rattle.std.proofs.Common.{◌∙◌, ◌<◌, ◌++◌, [], sym, ap, arith, length}
use Rattle.std.specs.Prelude.{slice_get}
use Rattle.ppd_ast.proofs.Walks.{got_some}
use Rattle.std.specs.Option.{option_map_or}
use Rattle.ppd_text.proofs.Joined.{first_joined}
use Rattle.ppd_text.proofs.plans.put_lines.Goals as goal

pub loop-number-preserved : goal.loop-number-preserved
loop-number-preserved g c =
    let p = c.args.program.now in
    let k = c.loop-number.number in
    let inside : k < length c.args.items.now = omega arith in
    first_joined (λ k. option_map_or (g.T.Line.line p k) (slice_get c.args.items.now k) []) k c.args.text.now.items c.loop-number.text.items c.put_line.new.text.items c.loop-number.invariant
    (c.in_ok-put_line.ensures ∙ ap (λ o. c.loop-number.text.items ++ option_map_or (g.T.Line.line p k) o []) (sym (got_some _ _ _ inside c.index-items-number.is)))
