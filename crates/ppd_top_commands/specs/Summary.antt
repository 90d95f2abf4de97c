-- What is written of a run: how each process ended and what it printed, and the races.
use Rattle.ppd_ast.specs.Lookups.{body_numbered}
use Rattle.ppd_ast.specs.declared.program.Program.{Program}
use Rattle.ppd_codec_runs.specs.Texts.{races_text}
use Rattle.ppd_model.specs.declared.closed.ProcEnd.{ProcEnd}
use Rattle.ppd_model.specs.declared.graph.Race.{Race}
use Rattle.ppd_top_runs.specs.Ends.{end_text}
use Rattle.std.specs.List.{enumerate_from, flat_map}
use Rattle.std.specs.Prelude.{List, ℕ, ◌++◌}

-- how the processes ended, in order, whose bodies stand behind those of the functions; then the race list
abbrev pub summary_of : Program → List ProcEnd → List Race → List ℕ
summary_of program ends races =
    flat_map (λ e. end_text program (body_numbered program e.0).name e.1)
    (enumerate_from program.functions ends)
    ++ races_text program races
