use Rattle.std.proofs.Common.{◌≤◌, length, subst, sym}
use Rattle.ppd_flow_local.proofs.Places.{place_within}
use Rattle.ppd_flow_local.proofs.search.Search.place_of.Goals as goal

pub returns-clause-place : goal.returns-clause-place
returns-clause-place c = c.place_of.ensures c.args.self.now.past.now c.requires.past.tables_are c.requires.items

pub returns-clause-within : goal.returns-clause-within
returns-clause-within c =
    subst (λ n. n ≤ length c.args.items.now)
    (sym (c.place_of.ensures c.args.self.now.past.now c.requires.past.tables_are c.requires.items))
    (place_within c.args.interval c.args.items.now)
