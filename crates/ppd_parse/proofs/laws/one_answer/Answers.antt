use Rattle.ppd_parse.proofs.Excluded.{tree_unique, tree_or_memory}
use Rattle.ppd_parse.proofs.OneRefusal.{one_refusal}
use Rattle.ppd_parse.proofs.Total.{an_answer}
use Rattle.ppd_parse.proofs.laws.one_answer.Goals as goal

pub returns-clause-tree : goal.returns-clause-tree
returns-clause-tree c = tree_unique

pub returns-clause-refused : goal.returns-clause-refused
returns-clause-refused c = λ ts f e h r. tree_or_memory ts f h e r

pub returns-clause-some : goal.returns-clause-some
returns-clause-some c = an_answer

pub returns-clause-refusal : goal.returns-clause-refusal
returns-clause-refusal c = one_refusal
