use Rattle.ppd_top_requests.proofs.Fit.{more_texts}
use Rattle.ppd_top_requests.proofs.read.texts_law.Goals as goal

pub loop-word-preserved : goal.loop-word-preserved
loop-word-preserved c = more_texts c.args.words.now c.loop-word.word-index _ c.loop-word-test.true c.loop-word.invariant c.text_law.ensures
