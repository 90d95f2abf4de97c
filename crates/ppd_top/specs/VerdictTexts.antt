-- The line of a verdict.
use Rattle.std.specs.Prelude.{ℕ, List, ◌++◌, codes, decimal, length}
use Rattle.ppd_ast.specs.declared.program.Program.{Program}
use Rattle.ppd_rerun_guide.specs.declared.verdict.No.TheVariants.{Record, Interval}
use Rattle.ppd_rerun_guide.specs.declared.verdict.Verdict.{Verdict}
use Rattle.ppd_rerun_guide.specs.declared.verdict.Verdict.TheVariants as verdict
use Rattle.ppd_text.specs.CellNames.{process_name}

-- the line of a verdict: a yes has the length of its schedule; a no says why not, by the steps taken, or the interval
-- by its process's name and its number
abbrev pub verdict_text : Program → Verdict → List ℕ
verdict_text program (verdict.Yes schedule) = codes "rerun yes " ++ decimal (length schedule) ++ codes "\n"
verdict_text program (verdict.No (Record taken)) = codes "rerun no 1 Record " ++ decimal taken ++ codes "\n"
verdict_text program (verdict.No (Interval p k)) =
    codes "rerun no 2 Interval " ++ process_name program p ++ codes " " ++ decimal k ++ codes "\n"
