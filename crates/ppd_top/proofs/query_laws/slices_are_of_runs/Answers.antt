use Rattle.ppd_top.proofs.SlicesOfRuns.{slice_texts_of_runs, slices_of_runs}
use Rattle.ppd_top.proofs.query_laws.slices_are_of_runs.Goals as goal

pub returns-clause-texts : goal.returns-clause-texts
returns-clause-texts c = slice_texts_of_runs c.items_are_whole.ensures c.reaches_are_slices.ensures c.slices_are_one.ensures

pub returns-clause-answers : goal.returns-clause-answers
returns-clause-answers c = slices_of_runs c.items_are_whole.ensures
