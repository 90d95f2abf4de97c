use Rattle.std.specs.Prelude.{option_copied}
use Rattle.ppd_flow_tables.proofs.Tabled.{block_if}
use Rattle.ppd_flow_local.proofs.search.Search.tables_of.Goals as goal

pub returns : goal.returns
returns c =
    block_if c.args.self.now.past.now c.args.self.now.tables c.args.self.now.process c.args.interval
    (option_copied c.block.result) c.requires.tables_are c.block.ensures
