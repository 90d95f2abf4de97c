use Rattle.std.proofs.Common.{◌+◌, ap, arith, get_or, length, ◌∙◌}
use Rattle.std.proofs.lemmas.List.{length_push}
use Rattle.ppd_graph.proofs.Searched.{zero_more}
use Rattle.ppd_graph.proofs.greatest.no_numbers.Goals as goal

pub loop-object-init : goal.loop-object-init
loop-object-init g c = record {
  long = ap length c.new-numbers.ensures;
  none = λ o. ap (λ numbers. get_or numbers o 0) c.new-numbers.ensures;
  spent = omega arith;
}

pub loop-object-preserved : goal.loop-object-preserved
loop-object-preserved g c = record {
  long = ap length c.in_ok-push.ensures.ok ∙ length_push c.loop-object.numbers 0 ∙ ap (λ n. n + 1) c.loop-object.invariant.long;
  none = λ o. ap (λ numbers. get_or numbers o 0) c.in_ok-push.ensures.ok ∙ zero_more c.loop-object.numbers o c.loop-object.invariant.none;
  spent = omega (arith, c.tick.ensures, c.loop-object.invariant.spent);
}
