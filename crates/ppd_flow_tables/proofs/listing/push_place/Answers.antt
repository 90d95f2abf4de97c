use Rattle.ppd_flow_tables.proofs.Sought.{pushed}
use Rattle.ppd_flow_tables.proofs.listing.push_place.Goals as goal

pub returns : goal.returns
returns c =
    pushed c.args.keys.now c.push.new.self c.key.result c.args.number c.args.place c.ranges.place.fits c.key.ensures
    c.in_ok-push.ensures.ok
