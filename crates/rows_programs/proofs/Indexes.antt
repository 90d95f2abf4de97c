-- The intervals of logs that need be no run's.
use Rattle.std.proofs.Common.{◌≡◌, refl}
use Rattle.std.specs.Prelude.{ℕ, ℤ, pos, true, false, List, [], ◌∷◌, None, Some, map}
use Rattle.ppd_ast.specs.declared.plan.BlockKind.TheVariants as block
use Rattle.ppd_ast.specs.declared.plan.Plan.{Plan}
use Rattle.ppd_ast.specs.declared.plan.Start.TheVariants as start
use Rattle.ppd_ast.specs.declared.status.Status.TheVariants as status
use Rattle.ppd_model.specs.declared.entry.Entry.{Entry}
use Rattle.ppd_model.specs.declared.entry.Entry.TheVariants as entry
use Rattle.ppd_model.specs.IntervalLogs.{IntervalLog, indexed, log_by}
use Rattle.ppd_model.specs.Pieces.{Piece, unit, nested, unfinished, postlog, finish}
use Rattle.ppd_model.specs.Extents.{extents}
use Rattle.rows_programs.proofs.Runs.Tables.{block_of, unit_of}

-- void f() { return; } process a { int i = 3; while (i < 3) { i = i + 1; } print(i); } with loops as blocks: block 0 is
-- the function, 1 the process, 2 the loop with one local cell
abbrev plan : Plan
plan = record {
  policy = record { leaf = 0; loops = 1 };
  blocks = block_of (block.Function 0) [] [] false ∷ block_of (block.Process 1) [] [] false ∷ block_of (block.Loop 2) (0 ∷ []) (0 ∷ []) false ∷ [];
  units = unit_of (start.Entry 0) [] ∷ unit_of (start.Entry 1) [] ∷ unit_of (start.Enter 2) [] ∷ unit_of (start.Exit 2) [] ∷ [];
}

-- an interval whose prelog is this entry
abbrev interval : ℕ → ℕ → ℕ → List ℤ → List (ℕ × Piece) → ℕ × IntervalLog
interval first block depth values pieces = (first, record { block = block; values = values; depth = depth; pieces = pieces })

-- the number of each interval's prelog, and its log
abbrev logs : List Entry → List (ℕ × IntervalLog)
logs entries = map (λ i. (i.extent.prelog, log_by plan i)) (indexed entries)

abbrev never_entered : List Entry
never_entered =
    entry.Prelog 1 [] ∷ entry.Unit 0 [] ∷ entry.Prelog 2 (pos 3 ∷ []) ∷ entry.Unit 0 [] ∷ entry.Postlog 2 (pos 4 ∷ [])
    ∷ entry.Unit 0 [] ∷ entry.Postlog 1 [] ∷ entry.End status.Ended 5 [] [] ∷ []

-- a loop that was never entered has an interval, and is a piece of the process's, by number, block and postlog
pub never_entered_logs : logs never_entered ≡
    interval 0 1 0 [] ((1, unit 0 []) ∷ (2, nested 1 2 (pos 4 ∷ [])) ∷ (5, unit 0 []) ∷ (6, postlog []) ∷ [])
    ∷ interval 2 2 0 (pos 3 ∷ []) ((3, unit 0 []) ∷ (4, postlog (pos 4 ∷ [])) ∷ []) ∷ []
never_entered_logs = refl

pub never_entered_extents : extents never_entered ≡
    record { block = 1; parent = None; prelog = 0; last = Some 6; closed = true }
    ∷ record { block = 2; parent = Some 0; prelog = 2; last = Some 4; closed = true } ∷ []
never_entered_extents = refl

abbrev unfinished_call : List Entry
unfinished_call = entry.Prelog 1 [] ∷ entry.Unit 0 [] ∷ entry.Prelog 0 [] ∷ entry.Unit 0 [] ∷ entry.End status.Budget 5 [] [] ∷ []

-- inside a call that was not left the End is the last piece, and the call is unfinished for its caller
pub unfinished_logs : logs unfinished_call ≡
    interval 0 1 0 [] ((1, unit 0 []) ∷ (2, unfinished 1 0) ∷ [])
    ∷ interval 2 0 1 [] ((3, unit 0 []) ∷ (4, finish status.Budget 5) ∷ []) ∷ []
unfinished_logs = refl

pub unfinished_extents : extents unfinished_call ≡
    record { block = 1; parent = None; prelog = 0; last = Some 4; closed = false }
    ∷ record { block = 0; parent = Some 0; prelog = 2; last = Some 4; closed = false } ∷ []
unfinished_extents = refl
