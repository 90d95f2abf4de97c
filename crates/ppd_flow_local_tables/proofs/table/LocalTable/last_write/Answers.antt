use Rattle.std.proofs.Common.{◌∙◌, ap, ap₂, map, reverse}
use Rattle.ppd_flow_local_tables.specs.Kept.{row_of}
use Rattle.ppd_flow_local_tables.specs.Rows.{entries_between, last_of}
use Rattle.ppd_flow_local_tables.specs.Tables.{begun_in, from_of, point_at, since, writer_of}
use Rattle.ppd_flow_local_tables.proofs.table.LocalTable.last_write.Goals as goal

pub returns : goal.returns
returns c = λ program plan items h l.
    let writes = row_of c.args.self.now.writes c.args.frame c.args.cell in
    let loops = row_of c.args.self.now.loops c.args.frame c.args.cell in
    let begun = begun_in c.args.frame (point_at c.args.self.now c.args.place) in
    let begun_is = c.begun_in-begun.ensures ∙ ap (begun_in c.args.frame) c.point_at.ensures in
    let from_is = c.from_of.ensures ∙ ap from_of begun_is in
    let write_is = c.last_between-write.ensures ∙ ap (λ b. last_of (entries_between b c.args.place writes)) from_is in
    let since_is = c.since.ensures ∙ ap₂ since write_is begun_is in
    let whole = h.writes c.args.frame c.args.cell c.args.place l in
    record {
      writer = c.writer_of.ensures ∙ (ap₂ writer_of write_is begun_is ∙ ap (λ o. o.writer) whole);
      loops = ap reverse (c.values_between.ensures
          ∙ ap (λ b. map (λ x. x.1) (entries_between b c.args.place loops)) since_is)
          ∙ ap (λ o. o.loops) whole;
    }
