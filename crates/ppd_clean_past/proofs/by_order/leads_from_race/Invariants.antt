use Rattle.std.proofs.Common.{◌≡◌, drop}
use Rattle.std.specs.List.{list_any}
use Rattle.ppd_clean_past.specs.ByOrder.{ends_before}
use Rattle.ppd_clean_past.proofs.by_order.leads_from_race.Given as goal

abbrev pub invariant-loop-first : goal.invariant-loop-first
invariant-loop-first l =
    list_any (ends_before l.graph l.edge) (drop l.first-index l.firsts) ≡ list_any (ends_before l.graph l.edge) l.firsts
