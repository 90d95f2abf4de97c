-- What the proofs speak of: the parts of the definitions, each by a name of its own.
use Rattle.std.specs.Prelude.{ℕ, ℤ, List, [], ◌∷◌, ◌++◌, Option, Some, None, true, false, option_map, slice_get}
use Rattle.ppd_model.specs.IntervalLogs.{Indexing, IntervalLog, LoggedInterval, blocks_of, log_by}
use Rattle.ppd_model.specs.Pieces.{Piece, postlog}
use Rattle.ppd_sem.specs.Plan.{Plan}

-- an interval that is not there
abbrev pub no_interval : LoggedInterval
no_interval = record {
  extent = record { block = 0; parent = None; prelog = 0; last = None; closed = false };
  blocks = [];
  values = [];
  pieces = [];
}

-- an interval with one more piece, of the entry of this number
abbrev pub with_piece : ℕ → Piece → LoggedInterval → LoggedInterval
with_piece n piece i = record i { pieces = i.pieces ++ (n, piece) ∷ [] }

-- an interval that begins inside the running ones
abbrev pub new_interval : Indexing → ℕ → List ℤ → LoggedInterval
new_interval x b values = record {
  extent = record { block = b; parent = slice_get x.running 0; prelog = x.entry; last = None; closed = false };
  blocks = b ∷ blocks_of x.running x.intervals;
  values = values;
  pieces = [];
}

-- an interval that is left by entry n
abbrev pub with_postlog : ℕ → List ℤ → LoggedInterval → LoggedInterval
with_postlog n values i = record i {
  extent = record i.extent { last = Some n; closed = true };
  pieces = i.pieces ++ (n, postlog values) ∷ [];
}

-- an interval in which entry n is an end
abbrev pub with_end : ℕ → LoggedInterval → LoggedInterval
with_end n i = record i { extent = record i.extent { last = Some n } }

-- the log of the interval, if it is there
abbrev pub log_in : Plan → Option LoggedInterval → Option IntervalLog
log_in plan o = option_map (log_by plan) o
