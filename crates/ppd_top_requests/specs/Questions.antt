-- What can be asked of a recording without an input.
use Rattle.ppd_top_requests.specs.declared.query.AskedItem.{AskedItem as GivenItem}
use Rattle.ppd_top_requests.specs.declared.query.Query.{Query as GivenQuery}
use Rattle.ppd_top_requests.specs.declared.query.Query.TheVariants as given
use Rattle.std.specs.Prelude.{List, ℕ}

-- an item: the name of its process, its interval there, and its number in that
pub record ItemAsked : Type 0 where
  pub process : List ℕ
  pub interval : ℕ
  pub item : ℕ

pub data Query : Type 0 where
  -- every item that an item came from
  Slice : ItemAsked → Query
  -- the whole trace, by so many workers
  Whole : (workers : ℕ) → Query
  -- whether a run under the recorded synchronization is the recorded one
  Rerun : Query
  -- an item with its edges, where no race touches its past
  Clean : ItemAsked → Query

abbrev pub asked_of : GivenItem → ItemAsked
asked_of a = record { process = a.process.now; interval = a.interval; item = a.item }

abbrev pub query_of : GivenQuery → Query
query_of (given.Slice a) = Slice (asked_of a)
query_of (given.Whole workers) = Whole workers
query_of given.Rerun = Rerun
query_of (given.Clean a) = Clean (asked_of a)
