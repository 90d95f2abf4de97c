use Rattle.ppd_rerun_ran.specs.Seeing.{seen}
use Rattle.ppd_rerun_ran.proofs.Items.{IsAlikeFrom}
use Rattle.ppd_rerun_ran.proofs.alike.are_items.Given as goal

abbrev pub invariant-loop-index : goal.invariant-loop-index
invariant-loop-index l = IsAlikeFrom (seen l.held) l.items l.parts l.index
