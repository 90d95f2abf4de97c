use Rattle.ppd_graph.proofs.by_number.put.Goals as goal

pub returns : goal.returns
returns c = λ o n. c.in_ok-insert.ensures.updates.0 (o, n)
