use Rattle.std.proofs.Common.{refl}
use Rattle.std.proofs.lemmas.Result.{err_from_is_err_and}
use Rattle.ppd_flow.proofs.ReadEdges.{all_read, fails_read, next_read}
use Rattle.ppd_flow.proofs.reads.read_edges.Goals as goal

pub returns-in_err-from : goal.returns-in_err-from
returns-in_err-from g c =
    let e = err_from_is_err_and c.from_residual.result c.from_residual.ensures.1 in
    rw (e.1, e.2) (fails_read c.args.search.now c.args.place.now c.args.reads.now c.loop-read.read-index c.args.steps.now c.loop-read.steps c.loop-read.edges c.loop-read.invariant
    _ _ c.in_err-from.field-0.0 c.read_origin.new.steps c.loop-read-test.true refl c.in_err-from.ensures)

pub loop-read-preserved : goal.loop-read-preserved
loop-read-preserved g c = λ o r f.
    next_read c.args.search.now c.args.place.now c.args.reads.now c.loop-read.read-index c.args.steps.now c.loop-read.steps c.loop-read.edges c.loop-read.invariant
    _ _ _ c.in_ok-from.from c.push_read.new.edges c.read_origin.new.steps c.loop-read-test.true refl c.in_ok-push_read.ensures refl c.in_ok-from.ensures o r f

pub returns : goal.returns
returns g c =
    all_read c.args.search.now c.args.place.now c.args.reads.now c.loop-read.read-index c.args.steps.now c.loop-read.steps c.loop-read.edges c.loop-read.invariant c.loop-read-test.false
