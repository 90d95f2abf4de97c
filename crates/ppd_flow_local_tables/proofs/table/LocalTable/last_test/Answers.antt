use Rattle.std.proofs.Common.{◌∙◌, ap, sym}
use Rattle.std.specs.Prelude.{option_map}
use Rattle.ppd_flow_local_tables.specs.Kept.{row_of}
use Rattle.ppd_flow_local_tables.specs.Rows.{entries_between, last_of}
use Rattle.ppd_flow_local_tables.specs.Tables.{after_of, begun_in}
use Rattle.ppd_flow_local_tables.proofs.table.LocalTable.last_test.Goals as goal

pub returns-in-Some : goal.returns-in-Some
returns-in-Some c = λ program plan items h l.
    let row = row_of c.args.self.now.tests 0 c.args.stmt in
    let from = c.after_of-from.ensures
    ∙ ap after_of (c.begun_in.ensures ∙ ap (begun_in c.args.frame) c.point_at.ensures) in
    let found = c.last_between.ensures ∙ ap (λ b. last_of (entries_between b c.args.place row)) from in
    ap (λ o. option_map (λ x. record { item = x.0; passed = x.1 }) o) (sym c.in-Some.is ∙ found)
    ∙ h.tests c.args.frame c.args.stmt c.args.place l

pub returns-in-None : goal.returns-in-None
returns-in-None c = λ program plan items h l.
    let row = row_of c.args.self.now.tests 0 c.args.stmt in
    let from = c.after_of-from.ensures
    ∙ ap after_of (c.begun_in.ensures ∙ ap (begun_in c.args.frame) c.point_at.ensures) in
    let found = c.last_between.ensures ∙ ap (λ b. last_of (entries_between b c.args.place row)) from in
    ap (λ o. option_map (λ x. record { item = x.0; passed = x.1 }) o) (sym c.in-None.is ∙ found)
    ∙ h.tests c.args.frame c.args.stmt c.args.place l
