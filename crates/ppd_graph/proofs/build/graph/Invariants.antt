use Rattle.ppd_graph.proofs.build.graph.Given as goal

abbrev pub ghosts-graph_from : goal.ghosts-graph_from
ghosts-graph_from a = record { name = a.blank.name; parts = a.blank.parts }
