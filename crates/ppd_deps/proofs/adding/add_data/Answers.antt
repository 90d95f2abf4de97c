use Rattle.std.proofs.Common.{◌∙◌, ◌++◌, ap, map}
use Rattle.std.specs.List.{filter}
use Rattle.ppd_ast.specs.Members.{has}
use Rattle.ppd_deps.proofs.Added.{adds_as, adds_then}
use Rattle.ppd_deps.proofs.Graphs.{data_more}
use Rattle.ppd_deps.specs.Edges.{locals_from}
use Rattle.ppd_deps.proofs.Vocabulary.{data_from, local_edge, shared_edge}
use Rattle.ppd_deps.specs.Named.{shared_reads}
use Rattle.ppd_deps.specs.Rows.{Adds}
use Rattle.ppd_deps.proofs.adding.add_data.Goals as goal

pub loop-number-preserved : goal.loop-number-preserved
loop-number-preserved c =
    let p = c.args.program.now in
    let s = c.loop-number.number in
    let added : Adds c.loop-number.rows c.add_locals_from.new.rows (data_from p s) =
    adds_as _ _ _ _ (λ t lt. ap (λ vs. map (shared_edge s) (filter (has (shared_reads p t)) vs) ++ map (local_edge s) (locals_from p s t)) (c.as_slice.ensures ∙ c.in_ok-vars.ensures))
    (adds_then _ _ _ _ _ c.in_ok-add_shared_edges.ensures c.in_ok-add_locals_from.ensures) in
    adds_as _ _ _ _ (λ t lt. data_more p s t) (adds_then _ _ _ _ _ c.loop-number.invariant added)
