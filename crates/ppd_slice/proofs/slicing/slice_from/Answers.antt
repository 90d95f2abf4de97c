use Rattle.std.proofs.lemmas.Grind.{common_steps}
use Rattle.std.proofs.Common.{◌∙◌, sym, arith, rules}
use Rattle.ppd_slice.proofs.Among.{among_first, among_sorted, got_process}
use Rattle.ppd_slice.proofs.Kept.{rose_none, rose_then}
use Rattle.ppd_slice.proofs.Sliced.{answers_more, begins, goes_on, is_slice, why_not}
use Rattle.ppd_slice.proofs.slicing.slice_from.Goals as goal

pub loop-number-init : goal.loop-number-init
loop-number-init g c = record {
  searched = begins c.args.past.now c.args.start c.new-search.result c.find.new.self c.new-search.ensures c.in_ok-find.ensures;
  answered = λ i r lt e. absurd (omega (arith, lt));
  kept = c.requires.kept;
  among = among_first c.args.start c.new-search.result c.find.new.self c.args.kept.now.replays c.requires.own c.new-search.ensures c.in_ok-find.ensures;
  cost = rose_none c.args.past.now c.args.kept.now.replays c.args.steps.now c.args.steps.now (omega arith);
}

pub returns-in_default-clause-is : goal.returns-in_default-clause-is
returns-in_default-clause-is g c =
    is_slice c.args.past.now c.args.start c.loop-number.number c.loop-number.search c.loop-number.invariant.searched c.loop-number.invariant.answered c.sorted.result
    (sym c.get.ensures ∙ c.in_default.is) c.sorted.ensures

pub returns-in_default-clause-among : goal.returns-in_default-clause-among
returns-in_default-clause-among g c =
    among_sorted c.loop-number.search c.sorted.result c.loop-number.kept.replays c.sorted.ensures c.loop-number.invariant.among

pub returns-in-Err-clause-is : goal.returns-in-Err-clause-is
returns-in-Err-clause-is g c =
    why_not c.args.past.now c.args.start c.loop-number.number c.loop-number.search c.loop-number.invariant.searched c.loop-number.invariant.answered c.in-Some.from c.in-Err.error
    c.requires.there (sym c.get.ensures ∙ c.in-Some.is) c.in-Err.ensures.error

pub loop-number-preserved : goal.loop-number-preserved
loop-number-preserved g c = record {
  searched = goes_on c.args.past.now c.args.start c.loop-number.number c.loop-number.search c.loop-number.invariant.searched c.loop-number.invariant.answered c.in-Some.from c.expand.new.search
      (sym c.get.ensures ∙ c.in-Some.is) c.in_default-expand.ensures.found;
  answered = answers_more c.args.past.now c.args.start c.loop-number.number c.loop-number.search c.loop-number.invariant.searched c.loop-number.invariant.answered c.in-Some.from c.expand.new.search
      (sym c.get.ensures ∙ c.in-Some.is) c.in_default-expand.ensures.found c.in_default-expand.ensures.answered;
  kept = c.expand.ensures.kept;
  among = c.in_default-expand.ensures.among
      (got_process c.loop-number.search c.loop-number.number c.in-Some.from (sym c.get.ensures ∙ c.in-Some.is))
      c.loop-number.invariant.among;
  cost = rose_then c.args.past.now c.args.kept.now.replays c.loop-number.kept.replays c.expand.new.kept.replays c.args.steps.now c.loop-number.steps c.expand.new.steps
      c.loop-number.invariant.cost c.in_default-expand.ensures.cost;
}

pub expand-requires-clause-kept : goal.expand-requires-clause-kept
expand-requires-clause-kept c = search rules depth 1 fits 30

pub find-requires : goal.find-requires
find-requires c = search rules depth 1 fits 30

pub get-requires : goal.get-requires
get-requires c = search rules depth 1 fits 30

pub loop-number-smaller : goal.loop-number-smaller
loop-number-smaller c = grind (arith, common_steps) steps 250000

pub new-search-requires : goal.new-search-requires
new-search-requires c = search rules depth 1 fits 30

pub returns : goal.returns
returns c = grind (arith, common_steps) steps 250000

pub returns-in-Err-clause-among : goal.returns-in-Err-clause-among
returns-in-Err-clause-among c = grind (arith, common_steps) steps 250000

pub returns-in-Err-clause-cost : goal.returns-in-Err-clause-cost
returns-in-Err-clause-cost c = grind (arith, common_steps) steps 250000

pub returns-in_default-clause-cost : goal.returns-in_default-clause-cost
returns-in_default-clause-cost c = search rules depth 1 fits 30

pub same-search-in-loop-number : goal.same-search-in-loop-number
same-search-in-loop-number c = search rules depth 1 fits 30

pub sorted-requires : goal.sorted-requires
sorted-requires c = search rules depth 1 fits 30
