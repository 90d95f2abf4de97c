use Rattle.std.proofs.Common.{◌≡◌, length, map, subst}
use Rattle.std.specs.List.{flat_map, range_with_len}
use Rattle.std.proofs.lemmas.Result.{IfOk-weaker}
use Rattle.ppd_race.specs.Busy.{races_from}
use Rattle.ppd_race.specs.Races.{AreRacesOf}
use Rattle.ppd_race_found.specs.Search.{IsRising}
use Rattle.ppd_race.proofs.Whole.{found_all}
use Rattle.ppd_race.proofs.search.races_from_blank.Goals as goal

pub returns : goal.returns
returns g c =
    let graph = c.args.graph.now in
    let parts = c.in_ok-parts.parts.items in
    IfOk-weaker c.joined.result (λ races. races ≡ flat_map (λ part. part) parts) (AreRacesOf graph)
    (λ races joined. found_all graph c.in_ok-rows.rows parts races c.in_ok-rows.ensures.busy
    (subst (λ rows. IsRising graph → parts ≡ map (races_from graph rows) (range_with_len 0 (length rows))) c.as_slice.ensures c.in_ok-parts.ensures) joined) c.joined.ensures.races
