use Rattle.std.proofs.Common.{sym, ◌∙◌, arith, Some, None}
use Rattle.ppd_check_names.proofs.Found.Lookup.{meaning_at}
use Rattle.ppd_check_names.proofs.scopes.find_in.Goals as goal

pub returns-in-Some : goal.returns-in-Some
returns-in-Some c =
    sym (meaning_at c.args.maps.now c.args.name.now c.loop-left.left c.index-maps-left.result (Some c.in-Some.found.now) (omega arith) (omega arith) c.index-maps-left.is c.in-Some.ensures.value) ∙ c.loop-left.invariant

pub loop-left-preserved : goal.loop-left-preserved
loop-left-preserved c =
    sym (meaning_at c.args.maps.now c.args.name.now c.loop-left.left c.index-maps-left.result None (omega arith) (omega arith) c.index-maps-left.is c.in_default.ensures.value) ∙ c.loop-left.invariant
