-- The words of proofs for what replays give.
use Rattle.ppd_flow_past.specs.SeenBy.{told_by}
use Rattle.std.specs.Result.{result_err}
use Rattle.std.specs.Prelude.{ℕ, List, [], ◌∷◌, get_or, option_and_then, Option}
use Rattle.std.specs.Option.{option_map_or}
use Rattle.ppd_emul.specs.Replay.{Replayed}

-- the entry at which a replay fails, if it is there and does
abbrev pub failure_of : Option Replayed → Option ℕ
failure_of o = option_and_then (λ r. result_err (told_by r.answer)) o

-- the intervals round one, the innermost first, from the one directly round it and from those round each before
abbrev pub round_by : List (List ℕ) → Option ℕ → List ℕ
round_by rounds o = option_map_or (λ k. k ∷ get_or rounds k []) o []
