use Rattle.std.proofs.Common.{◌∙◌, ◌+◌, ◌∷◌, [], List, ℕ, ap, get_or, length, length-append}
use Rattle.ppd_flow_tables.proofs.Growing.{room_more}
use Rattle.ppd_flow_tables.proofs.by_cell.make_room.Goals as goal

pub loop-place-preserved : goal.loop-place-preserved
loop-place-preserved c =
    let lists = c.loop-place.lists.items in
    let pushed = c.in_ok-push_none.ensures in
    record {
      long = ap length pushed ∙ length-append lists ([] ∷ []) ∙ ap (λ n. n + 1) c.loop-place.invariant.long;
      same = λ n. ap (λ (xs : List (List ℕ)). get_or xs n []) pushed ∙ room_more lists n
          ∙ c.loop-place.invariant.same n;
    }
