use Rattle.std.proofs.Common.{nat_eq}
use Rattle.std.proofs.lemmas.Bool.Decides.{Decides-eqb, Decides-int_eq}
use Rattle.std.proofs.lemmas.Slice.Eq.{slice_eq-Decides}
use Rattle.ppd_rerun_ran.proofs.Items.{bool_same, four_and}
use Rattle.ppd_rerun_ran.proofs.alike.same_nested.Goals as goal

pub returns : goal.returns
returns c =
    four_and (nat_eq c.args.number c.args.interval) (nat_eq c.args.kept.now.block c.args.block) c.eq.result _
    (Decides-eqb c.args.number c.args.interval) (Decides-eqb c.args.kept.now.block c.args.block)
    (slice_eq-Decides Decides-int_eq c.args.kept.now.values c.args.values.now c.eq.result c.eq.ensures)
    (bool_same c.args.kept.now.closed c.args.closed)
