use Rattle.std.proofs.Common.{◌≡◌, ◌++◌, take}
use Rattle.std.specs.Prelude.{codes, zip}
use Rattle.std.specs.List.{flat_map}
use Rattle.std.specs.Fmt.{signed_decimal}
use Rattle.ppd_text.specs.CellNames.{cell_text}
use Rattle.ppd_text.proofs.items.put_left_cells.Given as goal

abbrev pub invariant-loop-n : goal.invariant-loop-n
invariant-loop-n l =
    l.text.items ≡ l.initial.text.items ++ flat_map (λ x. codes " " ++ cell_text l.locals x.0 ++ codes "=" ++ signed_decimal x.1) (take l.n (zip l.cells l.values))
