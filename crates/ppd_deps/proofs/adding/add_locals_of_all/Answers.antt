use Rattle.std.proofs.Common.{◌≡◌, arith, length, map}
use Rattle.ppd_deps.proofs.Added.{adds_as, adds_then}
use Rattle.ppd_deps.proofs.Arriving.{all_bodies, next_body}
use Rattle.ppd_deps.specs.Edges.{locals_from}
use Rattle.ppd_deps.proofs.Vocabulary.{local_edge}
use Rattle.ppd_deps.proofs.adding.add_locals_of_all.Goals as goal

pub loop-body-preserved : goal.loop-body-preserved
loop-body-preserved c =
    let p = c.args.program.now in
    let s = c.args.stmt in
    adds_as _ _ _ _ (λ t lt. next_body p c.loop-body.body t (map (local_edge s) (locals_from p s t))) (adds_then _ _ _ _ _ c.loop-body.invariant c.in_ok-add_locals.ensures)

pub returns : goal.returns
returns c =
    let p = c.args.program.now in
    let s = c.args.stmt in
    let all : c.loop-body.body ≡ length p.bodies = omega arith in
    adds_as _ _ _ _ (λ t lt. all_bodies p c.loop-body.body t (map (local_edge s) (locals_from p s t)) c.requires.valid all (omega (arith, lt, c.requires.long))) c.loop-body.invariant
