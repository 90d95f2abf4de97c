-- Interval logs that fit the plan: what a replay may rest on.
use Rattle.std.specs.Prelude.{◌≡◌, ℕ, ◌≤◌, Bool, true, List, [], ◌∷◌, Some, ⊤, get_or}
use Rattle.ppd_ast.specs.declared.limits.TheConstants.{MOST_CALLS}
use Rattle.ppd_ast.specs.declared.plan.Plan.{Plan}
use Rattle.ppd_model.specs.declared.entry.Logs.{Logs}
use Rattle.ppd_model.specs.IntervalLogs.{IntervalLog, interval_log}
use Rattle.ppd_model.specs.Pieces.{Piece, unit, sync, nested, unfinished, postlog, finish}
use Rattle.ppd_model.specs.declared.entry.Entry.TheVariants as entry
use Rattle.ppd_index.specs.Refusals.{is_fitting}

-- a unit has as many values as the plan's, and a postlog, the interval's own or one inside
abbrev pub fits_piece : Plan → ℕ → Piece → Bool
fits_piece plan b (unit u values) = is_fitting plan (entry.Unit u values)
fits_piece plan b (sync kind object number value) = true
fits_piece plan b (nested k c values) = is_fitting plan (entry.Postlog c values)
fits_piece plan b (unfinished k c) = true
fits_piece plan b (postlog values) = is_fitting plan (entry.Postlog b values)
fits_piece plan b (finish status rest) = true

-- so it is with each of these
abbrev pub AreFittingPieces : Plan → ℕ → List (ℕ × Piece) → Type 0
AreFittingPieces plan b [] = ⊤
AreFittingPieces plan b (x ∷ xs) = (fits_piece plan b x.1 ≡ true) × AreFittingPieces plan b xs

-- the block is there with as many values as its prelog, the depth is one that a run can have, and the
-- pieces fit
pub record IsFittingLog (plan : Plan) (log : IntervalLog) : Type 0 where
  pub values : is_fitting plan (entry.Prelog log.block log.values) ≡ true
  pub depth : log.depth ≤ MOST_CALLS
  pub pieces : AreFittingPieces plan log.block log.pieces

-- so it is with each interval of these logs
abbrev pub AreFittingLogs : Plan → Logs → Type 0
AreFittingLogs plan logs =
    (p k : ℕ) (log : IntervalLog) → interval_log plan (get_or logs.lists p []) k ≡ Some log → IsFittingLog plan log
