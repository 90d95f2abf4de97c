use Rattle.std.proofs.Common.{rules}
use Rattle.ppd_sem.proofs.eval.result_of.Goals as goal

pub difference-requires : goal.difference-requires
difference-requires c = search rules depth 1 fits 30

pub from-requires : goal.from-requires
from-requires c = search rules depth 1 fits 30

pub from-requires-in-Eq : goal.from-requires-in-Eq
from-requires-in-Eq c = search rules depth 1 fits 30

pub from-requires-in-Ge : goal.from-requires-in-Ge
from-requires-in-Ge c = search rules depth 1 fits 30

pub from-requires-in-Gt : goal.from-requires-in-Gt
from-requires-in-Gt c = search rules depth 1 fits 30

pub from-requires-in-Le : goal.from-requires-in-Le
from-requires-in-Le c = search rules depth 1 fits 30

pub from-requires-in-Ne : goal.from-requires-in-Ne
from-requires-in-Ne c = search rules depth 1 fits 30

pub ok_or-requires : goal.ok_or-requires
ok_or-requires c = search rules depth 1 fits 30

pub ok_or-requires-in-Rem-2 : goal.ok_or-requires-in-Rem-2
ok_or-requires-in-Rem-2 c = search rules depth 1 fits 30

pub product-requires : goal.product-requires
product-requires c = search rules depth 1 fits 30

pub returns-in-Eq : goal.returns-in-Eq
returns-in-Eq c = search rules depth 1 fits 30

pub returns-in-Ge : goal.returns-in-Ge
returns-in-Ge c = search rules depth 1 fits 30

pub returns-in-Gt : goal.returns-in-Gt
returns-in-Gt c = search rules depth 1 fits 30

pub returns-in-Le : goal.returns-in-Le
returns-in-Le c = search rules depth 1 fits 30

pub returns-in-Lt : goal.returns-in-Lt
returns-in-Lt c = search rules depth 1 fits 30

pub returns-in-Ne : goal.returns-in-Ne
returns-in-Ne c = search rules depth 1 fits 30

pub returns-in-Rem : goal.returns-in-Rem
returns-in-Rem c = search rules depth 1 fits 30

pub sum-requires : goal.sum-requires
sum-requires c = search rules depth 1 fits 30
