use Rattle.std.proofs.Common.{◌&&◌, eqb, [], ap, unwrap_or}
use Rattle.std.specs.HashMap.{get}
use Rattle.ppd_flow_local_tables.proofs.RowLemmas.{emptied}
use Rattle.ppd_flow_local_tables.proofs.rows.Rows.take_row.Goals as goal

pub returns-in-Some-clause-left : goal.returns-in-Some-clause-left
returns-in-Some-clause-left g c = λ f k.
    emptied (eqb c.args.key.0 f && eqb c.args.key.1 k) _
    (get (λ x y. eqb x.0 y.0 && eqb x.1 y.1) c.args.self.now.kept (f, k)) (c.remove.ensures.updates.0 (f, k))

pub returns-in-Some-clause-taken : goal.returns-in-Some-clause-taken
returns-in-Some-clause-taken g c = ap (λ o. unwrap_or o []) c.in-Some.ensures.value
