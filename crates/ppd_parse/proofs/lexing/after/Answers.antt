use Rattle.std.proofs.Common.{◌≤◌, ◌∙◌, ap, sym, subst, get_or, drop, ◌+◌, arith}
use Rattle.ppd_ast.specs.declared.program.Place.{Place}
use Rattle.ppd_parse.proofs.Words.{after_bytes}
use Rattle.ppd_parse.proofs.Places.{after_more, after_byte_bound}
use Rattle.ppd_parse.proofs.lexing.after.Goals as goal

pub loop-b-preserved : goal.loop-b-preserved
loop-b-preserved c =
    let bs = c.args.bytes.now in
    let i = c.loop-b.b-index in
    let inv = c.loop-b.invariant in
    let e = c.after_byte-place.ensures in
    let b = after_byte_bound c.loop-b.place (get_or bs i 0) inv.column in
    let d : (c.after_byte-place.result.line + c.after_byte-place.result.column ≤ (c.loop-b.place.line + c.loop-b.place.column) + 1) × (1 ≤ c.after_byte-place.result.column) = subst (λ (q : Place). (q.line + q.column ≤ (c.loop-b.place.line + c.loop-b.place.column) + 1) × (1 ≤ q.column)) (sym e) b in
    record {
      place = ap (λ p. after_bytes p (drop (i + 1) bs)) e ∙ (sym (after_more c.loop-b.place bs i c.loop-b-test.true) ∙ inv.place);
      bound = omega (arith, d.0);
      column = d.1;
    }
