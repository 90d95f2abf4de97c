use Rattle.std.specs.List.{list_any}
use Rattle.ppd_graph.specs.declared.writer.Writer.TheVariants.{At}
use Rattle.ppd_graph.specs.Locals.{is_local}
use Rattle.ppd_flow_local_tables.specs.Kept.{row_of}
use Rattle.ppd_flow_local_tables.proofs.Noted.{before_now}
use Rattle.ppd_flow_local_tables.proofs.build.Building.event.Goals as goal

pub note_return-requires : goal.note_return-requires
note_return-requires c = λ f k.
    before_now (list_any (λ a. is_local f k a.spot) c.as_slice.result.now) c.args.self.now.next
    (At c.args.self.now.next) _
    (row_of c.args.self.now.table.writes f k) (c.in_ok-note_writes.ensures f k) (c.requires.writes f k)
