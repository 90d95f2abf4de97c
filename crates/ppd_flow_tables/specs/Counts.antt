-- How many synchronizations stand before each entry of a process.
use Rattle.std.specs.Prelude.{◌≡◌, ℕ, ◌+◌, ◌≤◌, List, get_or, length}
use Rattle.ppd_model.specs.declared.entry.Entry.{Entry}
use Rattle.ppd_graph.specs.Ends.{syncs_before}

-- these are the counts before each of these entries, and of all of them
pub record AreCounts (entries : List Entry) (counts : List ℕ) : Type 0 where
  pub long : length counts ≡ length entries + 1
  pub are : (n : ℕ) → n ≤ length entries → get_or counts n 0 ≡ syncs_before entries n
