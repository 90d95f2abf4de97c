-- What turns of a replay come to.
use Rattle.ppd_ast.specs.declared.plan.Plan.{Plan}
use Rattle.ppd_ast.specs.declared.program.Program.{Program}
use Rattle.ppd_model.specs.Fits.{fits, found_of, wanted_of}
use Rattle.ppd_model.specs.Replay.{Replayed, Replaying, Turn, stepped, take_unit, with_event, with_write}
use Rattle.ppd_model.specs.declared.block_trace.EmulError.{EmulError}
use Rattle.ppd_emul_values.specs.declared.replayer.Code.{Code}
use Rattle.ppd_emul_values.specs.declared.replayer.Replayer.{Replayer}
use Rattle.ppd_model.specs.Pieces.{Piece}
use Rattle.ppd_model.specs.Story.{unit_started}
use Rattle.ppd_sem.specs.declared.proc.Answer.TheVariants.{Go}
use Rattle.ppd_sem.specs.declared.proc.Need.{Need}
use Rattle.std.specs.Prelude.{Err, IsSomeAnd, None, Ok, Result, true, ◌≡◌}

-- the step needs a piece, and this is the one
abbrev pub Meets : Code → Replayer → Need → Piece → Type 0
Meets code x n piece =
    IsSomeAnd (wanted_of code.program.now code.plan.now x.proc n) (λ w. fits w (found_of piece) ≡ true)

-- what comes of turns with this answer
abbrev pub ended : Result (Unit {0}) EmulError → Replayer → Replayed
ended (Ok _) x = record { steps = x.steps; answer = Ok (record { items = x.items }) }
ended (Err e) x = record { steps = x.steps; answer = Err e }

-- ---- parts of a turn

-- a step that is an event and needs no piece
abbrev pub alone : Program → Plan → Need → Replaying → Turn
alone program plan need r =
    take_unit plan (unit_started need)
    (stepped program plan Go (with_write need (with_event program plan Go None r)))
