use Rattle.std.proofs.Common.{◌≡◌, ◌<◌, List, length, ap, subst, sym, ◌∙◌}
use Rattle.ppd_index.specs.declared.row.Row.{Row}
use Rattle.ppd_index.specs.Indexes.{rows_at}
use Rattle.ppd_index.proofs.Lent.{lent_by}
use Rattle.ppd_index.proofs.log_index.LogIndex.log.Goals as goal

pub returns : goal.returns
returns c =
    let rows : c.rows_at.result.now ≡ rows_at c.args.self.now.tables c.args.p = c.rows_at.ensures ∙ ap (λ (ts : List (List Row)). rows_at ts c.args.p) c.as_slice.ensures in
    let there : c.args.k < length c.rows_at.result.now = subst (λ (rs : List Row). c.args.k < length rs) (sym rows) c.requires in
    lent_by c.args.logs.now c.args.self.now.tables c.args.p c.args.k c.entries_at.result.now c.rows_at.result.now c.index-rows_at-k.result c.entries_at.ensures rows there c.index-rows_at-k.is
