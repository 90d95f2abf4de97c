use Rattle.std.specs.Prelude.{get_or, []}
use Rattle.ppd_flow_shared.specs.Items.{out_of, seen_for}
use Rattle.ppd_flow_shared.proofs.Leads.{Leads}
use Rattle.ppd_flow_shared.proofs.outward.outward.Given as goal

-- the intervals round this one are left
abbrev pub invariant-loop-outer : goal.invariant-loop-outer
invariant-loop-outer g l =
    Leads l.search.past.now l.search.process
    (out_of (seen_for l.search) l.search.cell l.fn.interval (get_or (seen_for l.search).rounds l.fn.interval [])) l.fn.steps
    (out_of (seen_for l.search) l.search.cell l.inner (get_or (seen_for l.search).rounds l.inner [])) l.steps

abbrev pub decreases-loop-outer : goal.decreases-loop-outer
decreases-loop-outer g l = l.inner
