-- The tables of the block in which last values are looked for.
use Rattle.std.specs.Prelude.{◌≡◌, nat_eq, ◌&&◌, Option, Some, None, if◌then◌else◌}
use Rattle.ppd_flow_past.specs.declared.past.Past.{Past}
use Rattle.ppd_flow.specs.Answers.{BlockTables}
use Rattle.ppd_flow.specs.Tabled.{IsOfInterval}
use Rattle.ppd_session.specs.declared.last_tables.LastTables.{LastTables}
use Rattle.ppd_session.specs.declared.place.Place.{Place}

-- what is there are tables of the block that was asked for last
abbrev pub AreOfLast : Past → LastTables → Type 0
AreOfLast past t = (last : Place) (b : BlockTables) → t.place ≡ Some last → t.tables ≡ Some b
    → IsOfInterval past last.process last.interval b

-- these tables of the one block, where the other is the same
abbrev pub same_tables : (last place : Place) → Option BlockTables → Option BlockTables
same_tables last place tables =
    if nat_eq place.process last.process && nat_eq place.interval last.interval then tables else None
