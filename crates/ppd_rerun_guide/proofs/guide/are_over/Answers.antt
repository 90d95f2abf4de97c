use Rattle.std.proofs.Common.{◌≡◌, [], below_more, get_or, map, sym, ◌∙◌}
use Rattle.std.proofs.lemmas.Bool.{false≢true}
use Rattle.ppd_rerun_guide.specs.Guides.{left_of}
use Rattle.ppd_rerun_guide.proofs.Guides.{empty_from, left_at, not_empty}
use Rattle.ppd_rerun_guide.proofs.guide.are_over.Goals as goal

pub returns-then-not-is_over : goal.returns-then-not-is_over
returns-then-not-is_over c = (
  λ f. absurd (false≢true f),
  λ all. absurd (not_empty (left_of c.due-item.result) (sym c.is_over.ensures ∙ c.if-not-is_over.true)
      (sym (left_at c.args.dues.now c.loop-due.due-index c.due-item.result c.loop-due-test.true c.due-item.is) ∙ all c.loop-due.due-index)),
)

pub loop-due-preserved : goal.loop-due-preserved
loop-due-preserved c =
    below_more (λ q. get_or (map left_of c.args.dues.now) q [] ≡ []) c.loop-due.due-index c.loop-due.invariant
    (left_at c.args.dues.now c.loop-due.due-index c.due-item.result c.loop-due-test.true c.due-item.is
    ∙ empty_from (left_of c.due-item.result) (sym c.is_over.ensures ∙ c.if-not-is_over.false))
