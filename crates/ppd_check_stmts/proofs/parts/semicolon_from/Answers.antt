use Rattle.std.proofs.Common.{◌∙◌, sym, ◌<◌, length, arith}
use Rattle.ppd_check_names.specs.Nodes.{phrases_below}
use Rattle.ppd_check_stmts.proofs.Rows.Semicolons.{searched_start, searched_more, found_here, found_none}
use Rattle.ppd_check_stmts.proofs.parts.semicolon_from.Goals as goal

pub loop-at-init : goal.loop-at-init
loop-at-init g c = record {
  searched = searched_start (phrases_below c.args.source.nodes.now c.args.id) c.args.from;
  few = omega arith;
  cost = omega arith;
}

pub loop-at-preserved : goal.loop-at-preserved
loop-at-preserved g c =
    let inside : c.loop-at.at < length (phrases_below c.args.source.nodes.now c.args.id) = omega (arith, c.loop-at-test.true, c.count_of-count.ensures) in
    record {
      searched = searched_more (phrases_below c.args.source.nodes.now c.args.id) c.args.from c.loop-at.at inside (sym c.is_semicolon.ensures ∙ c.if-is_semicolon.false) c.loop-at.invariant.searched;
      few = omega (arith, inside);
      cost = omega (arith, c.loop-at.invariant.cost, c.tick.ensures);
    }

pub returns-then-is_semicolon-clause-before : goal.returns-then-is_semicolon-clause-before
returns-then-is_semicolon-clause-before g c =
    let ps = phrases_below c.args.source.nodes.now c.args.id in
    (found_here ps c.args.from c.loop-at.at (omega (arith, c.loop-at-test.true, c.count_of-count.ensures)) (sym c.is_semicolon.ensures ∙ c.if-is_semicolon.true) c.loop-at.invariant.searched).before

pub returns-then-is_semicolon-clause-beyond : goal.returns-then-is_semicolon-clause-beyond
returns-then-is_semicolon-clause-beyond g c =
    let ps = phrases_below c.args.source.nodes.now c.args.id in
    (found_here ps c.args.from c.loop-at.at (omega (arith, c.loop-at-test.true, c.count_of-count.ensures)) (sym c.is_semicolon.ensures ∙ c.if-is_semicolon.true) c.loop-at.invariant.searched).beyond

pub returns-clause-before : goal.returns-clause-before
returns-clause-before g c =
    let ps = phrases_below c.args.source.nodes.now c.args.id in
    (found_none ps c.args.from c.loop-at.at (omega (arith, c.loop-at-test.false, c.count_of-count.ensures)) c.loop-at.invariant.searched).before

pub returns-clause-beyond : goal.returns-clause-beyond
returns-clause-beyond g c =
    let ps = phrases_below c.args.source.nodes.now c.args.id in
    (found_none ps c.args.from c.loop-at.at (omega (arith, c.loop-at-test.false, c.count_of-count.ensures)) c.loop-at.invariant.searched).beyond
