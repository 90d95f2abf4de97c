-- What the synchronizations of logs lack, one constructor for each rule.
use Rattle.std.specs.Prelude.{◌≡◌, ◌↔◌, ℕ, suc, ◌+◌, ◌<◌, ◌≤◌, max, Bool, true, false, length, Some}
use Rattle.ppd_ast.specs.declared.program.Program.{Program}
use Rattle.ppd_ast.specs.declared.status.SyncKind.{SyncKind}
use Rattle.ppd_ast.specs.declared.status.SyncKind.TheVariants.{P, V, Send, Recv, Done}
use Rattle.ppd_sem.specs.Tables.{capacity_of}
use Rattle.ppd_graph.specs.Refusals.{Numbered, missing_by, start_of}

-- ---- numbers

-- n is the least number above `first`, and is at most `last`, that is not there
pub record IsGap (is_there : ℕ → Bool) (first last n : ℕ) : Type 0 where
  pub above : first < n
  pub through : n ≤ last
  pub absent : is_there n ≡ false
  pub least : (m : ℕ) → first < m → m < n → is_there m ≡ true

-- all numbers above `first` through `last` are there
abbrev pub AreThere : (ℕ → Bool) → (first last : ℕ) → Type 0
AreThere is_there first last = (n : ℕ) → first < n → n ≤ last → is_there n ≡ true

-- ---- a semaphore

-- what a semaphore lacks of which these numbers were taken, and these given beside those that it has from the start
pub data SemLacks (start : ℕ) (taken given : Numbered) : SyncKind → ℕ → Type 0 where
  -- a `P` before the greatest
  take : (n : ℕ) → IsGap taken.is_there 0 taken.greatest n → SemLacks start taken given P n
  -- a `V` before the greatest
  give : (n : ℕ) → AreThere taken.is_there 0 taken.greatest
      → IsGap given.is_there start (max start given.greatest) n → SemLacks start taken given V n
  -- the next `V`, which a later `P` waited for
  next_give : AreThere taken.is_there 0 taken.greatest → AreThere given.is_there start (max start given.greatest)
      → max start given.greatest < taken.greatest → SemLacks start taken given V (max start given.greatest + 1)

-- ---- a channel

-- as far as they go, sends and receives are whole, and nothing was received that was not sent
pub record AreWhole (sent received : Numbered) : Type 0 where
  pub sent_all : AreThere sent.is_there 0 sent.greatest
  pub sent_first : received.greatest ≤ sent.greatest
  pub received_all : AreThere received.is_there 0 received.greatest

-- what a channel of this capacity lacks, of which these were sent, received and completed
pub data ChanLacks (capacity : ℕ) (sent received completed : Numbered) : SyncKind → ℕ → Type 0 where
  -- a send before the greatest
  send : (n : ℕ) → IsGap sent.is_there 0 sent.greatest n → ChanLacks capacity sent received completed Send n
  -- the next send, whose value was received
  next_send : AreThere sent.is_there 0 sent.greatest → sent.greatest < received.greatest
      → ChanLacks capacity sent received completed Send (sent.greatest + 1)
  -- a receive before the greatest
  receive : (n : ℕ) → AreThere sent.is_there 0 sent.greatest → received.greatest ≤ sent.greatest
      → IsGap received.is_there 0 received.greatest n → ChanLacks capacity sent received completed Recv n
  -- with places: the next receive, whose place a later send took
  next_receive : (places : ℕ) → AreWhole sent received → capacity ≡ suc places
      → received.greatest + suc places < sent.greatest
      → ChanLacks capacity sent received completed Recv (received.greatest + 1)
  -- without one: the next receive, whose send was completed
  completed_receive : AreWhole sent received → capacity ≡ 0 → received.greatest < completed.greatest
      → ChanLacks capacity sent received completed Recv (received.greatest + 1)
  -- a completion before the greatest
  completion : (n : ℕ) → AreWhole sent received → capacity ≡ 0 → completed.greatest ≤ received.greatest
      → IsGap completed.is_there 0 completed.greatest n → ChanLacks capacity sent received completed Done n
  -- the next completion, after which alone a later send could be offered
  next_completion : AreWhole sent received → capacity ≡ 0 → completed.greatest ≤ received.greatest
      → AreThere completed.is_there 0 completed.greatest → completed.greatest + 1 < sent.greatest
      → ChanLacks capacity sent received completed Done (completed.greatest + 1)

-- ---- all objects

module _ (program : Program) (numbered : SyncKind → ℕ → Numbered) where
  -- what semaphore o lacks, and what channel o
  abbrev pub Semaphore : ℕ → SyncKind → ℕ → Type 0
  Semaphore o = SemLacks (start_of program o) (numbered P o) (numbered V o)

  abbrev pub Channel : ℕ → SyncKind → ℕ → Type 0
  Channel o = ChanLacks (capacity_of program o) (numbered Send o) (numbered Recv o) (numbered Done o)

-- it lacks nothing
abbrev pub LacksNothing : (SyncKind → ℕ → Type 0) → Type 0
LacksNothing Lacks = (kind : SyncKind) (n : ℕ) → Lacks kind n → ⊥

-- the first object that lacks something, semaphores before channels, lacks this
pub data IsMissing (program : Program)
    (numbered : SyncKind → ℕ → Numbered) : SyncKind → (object number : ℕ) → Type 0 where
  of_semaphore : (kind : SyncKind) (o n : ℕ) → o < length program.sems
      → ((m : ℕ) → m < o → LacksNothing (Semaphore program numbered m)) → Semaphore program numbered o kind n
      → IsMissing program numbered kind o n
  of_channel : (kind : SyncKind) (o n : ℕ)
      → ((m : ℕ) → m < length program.sems → LacksNothing (Semaphore program numbered m))
      → o < length program.chans → ((m : ℕ) → m < o → LacksNothing (Channel program numbered m))
      → Channel program numbered o kind n → IsMissing program numbered kind o n

-- ---- the law

-- what is missing is so by these rules
abbrev pub MissingFollowsTheRules : Type 0
MissingFollowsTheRules = (program : Program) (numbered : SyncKind → ℕ → Numbered) (kind : SyncKind) (o n : ℕ)
    → IsMissing program numbered kind o n ↔ (missing_by program numbered ≡ Some (kind, o, n))
