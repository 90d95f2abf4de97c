use Rattle.std.proofs.Common.{◌≡◌, List, [], ◌∷◌, reverse, ◌∙◌, ap, subst, rules, arith}
use Rattle.std.proofs.lemmas.Grind.{common_steps}
use Rattle.ppd_parse.specs.declared.symbol.Want.{Want}
use Rattle.ppd_parse.specs.declared.symbol.Want.TheVariants.{Close}
use Rattle.ppd_parse.specs.Machine.{state_of}
use Rattle.ppd_parse.specs.Rank.{rank}
use Rattle.ppd_parse.specs.Stack.{HasEndsAlone}
use Rattle.ppd_parse.specs.Table.{shapes_of}
use Rattle.ppd_parse.proofs.Ends.{Ends, ends_close, ends_as, popped}
use Rattle.ppd_parse.proofs.reading.finish.Goals as goal

pub loop-want-preserved-in-Continue-1 : goal.loop-want-preserved-in-Continue-1
loop-want-preserved-in-Continue-1 g c =
    let w = c.loop-want.grove in
    let new = c.close.new.self in
    let ws = reverse c.pop.new.self.items in
    let a = state_of c.args.wants.now.items c.args.grove.now in
    let stack : reverse c.loop-want.wants.items ≡ Close c.in-Close.rule c.in-Close.base ∷ ws = popped c.pop.new.self.items c.in-Some.want c.in-Some.ensures.items ∙ ap (λ w. w ∷ ws) c.in-Close.is in
    record {
      over = subst HasEndsAlone stack c.loop-want.invariant.over;
      ends = ends_close a c.in-Close.rule c.in-Close.base ws (shapes_of w.nodes.items w.roots.items) (shapes_of new.nodes.items new.roots.items) c.in_ok-close-in-Close.ensures
          (subst (λ (v : List Want). Ends a (record { wants = v; shapes = shapes_of w.nodes.items w.roots.items })) stack c.loop-want.invariant.ends);
      spent = omega (arith, ap rank stack, c.loop-want.invariant.spent, c.tick.ensures);
    }

pub loop-want-preserved : goal.loop-want-preserved
loop-want-preserved g c =
    let ws = reverse c.pop.new.self.items in
    let stack : reverse c.loop-want.wants.items ≡ c.in-Some.want ∷ ws = popped c.pop.new.self.items c.in-Some.want c.in-Some.ensures.items in
    absurd (subst (λ (w : Want). HasEndsAlone (w ∷ ws)) c.in-Get.is (subst HasEndsAlone stack c.loop-want.invariant.over))

pub returns-clause-ends : goal.returns-clause-ends
returns-clause-ends g c =
    let w = c.loop-want.grove in
    let none : c.loop-want.wants.items ≡ [] = first_of (search rules, grind (arith, common_steps)) in
    ends_as (state_of c.args.wants.now.items c.args.grove.now) (state_of c.loop-want.wants.items w) (ap reverse none) c.loop-want.invariant.ends

pub branch-close-requires : goal.branch-close-requires
branch-close-requires g c = search rules depth 1 fits 30

pub close-requires : goal.close-requires
close-requires g c = search rules depth 1 fits 30

pub from_residual-requires : goal.from_residual-requires
from_residual-requires g c = search rules depth 1 fits 30

pub loop-want-init : goal.loop-want-init
loop-want-init g c = search rules depth 1 fits 30

pub loop-want-smaller : goal.loop-want-smaller
loop-want-smaller g c = search rules depth 1 fits 30

pub loop-want-smaller-in-Continue-1 : goal.loop-want-smaller-in-Continue-1
loop-want-smaller-in-Continue-1 g c = search rules depth 1 fits 30

pub pop-requires : goal.pop-requires
pop-requires g c = search rules depth 1 fits 30

pub returns-clause-cost : goal.returns-clause-cost
returns-clause-cost g c = search rules depth 1 fits 30

pub returns-in_err-close-in-Close-clause-cost : goal.returns-in_err-close-in-Close-clause-cost
returns-in_err-close-in-Close-clause-cost g c = grind (arith, common_steps) steps 250000

pub returns-in_err-close-in-Close-clause-ends : goal.returns-in_err-close-in-Close-clause-ends
returns-in_err-close-in-Close-clause-ends g c = grind (arith, common_steps) steps 250000

pub tick-requires : goal.tick-requires
tick-requires g c = search rules depth 1 fits 30
