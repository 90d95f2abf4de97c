-- What an interval of the last split is, grown from what it was by what is to come.
use Rattle.std.specs.Prelude.{◌≡◌, ℕ, ◌+◌, List, ◌++◌, Option, Some}
use Rattle.std.specs.List.{flat_map}
use Rattle.ppd_model.specs.Intervals.{Part, Span, Split, item_of, items_of}
use Rattle.law_steps.specs.Coming.Pieces.{Coming}

-- the span in the last split, grown from these parts and steps by what is to come
pub record IsGrown (last : Split) (parts : List Part) (steps block : ℕ) (c : Coming) (o : Option Span) : Type 0 where
  pub now : Span
  pub there : o ≡ Some now
  pub same_block : now.block ≡ block
  pub items : items_of last now ≡ flat_map (item_of last) parts ++ c.items
  pub all_steps : now.steps ≡ steps + c.steps
