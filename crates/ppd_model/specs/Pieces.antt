-- A piece of an interval's log, with the lists that it lends.
use Rattle.std.specs.Prelude.{ℕ, ℤ, List}
use Rattle.ppd_sem.specs.Status.{Status}
use Rattle.ppd_sem.specs.SyncKind.{SyncKind}
use Rattle.ppd_model.specs.declared.piece.Piece.{Piece as Lent}
use Rattle.ppd_model.specs.declared.piece.Piece.TheVariants.{Unit, Sync, Nested, Unfinished, Postlog, End}

-- an entry that the interval's own step wrote, or an interval directly inside it by number and block
pub data Piece : Type 0 where
  unit : ℕ → List ℤ → Piece
  sync : SyncKind → (object number : ℕ) → ℤ → Piece
  nested : (interval block : ℕ) → List ℤ → Piece
  unfinished : (interval block : ℕ) → Piece
  postlog : List ℤ → Piece
  finish : Status → ℕ → Piece

-- the piece that is lent
abbrev pub piece_of : Lent → Piece
piece_of (Unit u values) = unit u values.now
piece_of (Sync kind object number value) = sync kind object number value
piece_of (Nested k b values) = nested k b values.now
piece_of (Unfinished k b) = unfinished k b
piece_of (Postlog values) = postlog values.now
piece_of (End status rest) = finish status rest
