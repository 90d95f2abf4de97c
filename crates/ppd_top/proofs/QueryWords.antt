-- The words of proofs for refusals and slices.
use Rattle.std.specs.Prelude.{ℕ, List, Option, Some}
use Rattle.std.specs.Option.{option_map_or}
use Rattle.ppd_slice_search.specs.declared.reached.ItemAt.{ItemAt}
use Rattle.ppd_session.specs.Known.{Known}
use Rattle.ppd_session.specs.Texts.{flow_at, no_process, told_at}
use Rattle.ppd_top.specs.Queries.{origins_told}

-- there is no such process
abbrev pub process_refusal : Option ℕ → (ℕ → Option (List ℕ)) → Option (List ℕ)
process_refusal o rest = option_map_or rest o (Some no_process)

-- the items that an item comes from
abbrev pub origins_of : Known → ItemAt → List ItemAt
origins_of x a = origins_told (told_at x a.process a.interval) a.item (flow_at x a.process a.interval a.item)
