-- How the processes end is found from the story alone.
use Rattle.std.proofs.Common.{◌≡◌, ℕ, ◌+◌, List, [], ◌∷◌, ap, refl, ◌∙◌, map}
use Rattle.std.specs.Prelude.{slice_get}
use Rattle.ppd_ast.specs.declared.program.Program.{Program}
use Rattle.ppd_model.specs.declared.closed.ProcEnd.{ProcEnd}
use Rattle.ppd_model.specs.declared.state.Logging.{Logging}
use Rattle.ppd_model.specs.Ends.{StoriesTellEnds, ends_by}
use Rattle.ppd_model.specs.Logs.{end_of, ends_from, loggings}
use Rattle.ppd_model.proofs.States.{follow}

by_procs : (program : Program) (b : ℕ) (ls : List Logging) → ends_from program b ls ≡ ends_by program b (map (λ l. l.proc) ls)
by_procs program b [] = refl
by_procs program b (l ∷ ls) = ap (λ (es : List ProcEnd). end_of (slice_get program.bodies b) l.proc ∷ es) (by_procs program (b + 1) ls)

pub ends_told : StoriesTellEnds
ends_told setting h =
    by_procs setting.program setting.program.functions (loggings setting h) ∙ ap (ends_by setting.program setting.program.functions) (follow setting h).logged
