use Rattle.ppd_trace.proofs.whole.full_trace.Given as goal

abbrev pub ghosts-full_trace_from : goal.ghosts-full_trace_from
ghosts-full_trace_from a = record { name = a.blank.name; parts = a.blank.parts }
