use Rattle.std.proofs.Common.{◌∙◌, ◌∷◌, [], sym, ap, subst, length}
use Rattle.std.specs.Prelude.{slice_get, ◌&&◌, if◌then◌else◌}
use Rattle.std.proofs.lemmas.Result.{on_ok_weaker}
use Rattle.ppd_ast.specs.Members.{AreBelow}
use Rattle.ppd_sets.specs.Reach.{closure, leads}
use Rattle.ppd_sets.specs.WorkList.{is_marked}
use Rattle.ppd_deps.proofs.Added.{adds_as, adds_none}
use Rattle.ppd_deps.proofs.Arriving.{none_begin}
use Rattle.ppd_deps.proofs.Graphs.{empty_is}
use Rattle.ppd_deps.proofs.Reaching.{begins_below}
use Rattle.ppd_deps.specs.Edges.{kept_rows}
use Rattle.ppd_deps.proofs.Vocabulary.{local_edge}
use Rattle.ppd_deps.specs.Rows.{is_reader}
use Rattle.ppd_deps.proofs.adding.add_local_edges.Goals as goal
use Rattle.ppd_ast.specs.Lookups.{body_numbered}

pub arrivals-requires-clause-starts : goal.arrivals-requires-clause-starts
arrivals-requires-clause-starts c =
    subst (AreBelow (length c.args.program.now.stmts)) (sym (c.as_slice.ensures ∙ c.in_ok-starts.ensures)) (begins_below c.args.program.now c.args.local.body c.args.writer.now.stmt c.args.local.var c.requires.valid)

pub returns-then-len-eq0 : goal.returns-then-len-eq0
returns-then-len-eq0 c =
    adds_as _ _ _ _ (λ t lt. none_begin c.args.program.now c.args.local.body c.args.writer.now.stmt c.args.local.var (sym c.in_ok-starts.ensures ∙ empty_is c.in_ok-starts.starts (sym c.len.ensures ∙ c.if-len-eq0.true)) t) (adds_none c.args.rows.now)

pub returns : goal.returns
returns c =
    let p = c.args.program.now in
    let b = c.args.local.body in
    let s = c.args.writer.now.stmt in
    let v = c.args.local.var in
    on_ok_weaker c.add_local_edge.result (λ added. adds_as _ _ _ _
    (λ t lt. ap (λ m. if is_reader p b v t && m then local_edge s v ∷ [] else [])
    (ap (λ ms. is_marked ms t) c.as_slice-2.ensures.value ∙ c.in_ok-marks.ensures.reached t ∙ ap (λ starts. leads (closure (kept_rows p b (slice_get (body_numbered p b).locals v))) starts t) (c.as_slice.ensures ∙ c.in_ok-starts.ensures)))
    added) c.add_local_edge.ensures
