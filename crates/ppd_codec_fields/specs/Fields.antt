-- What the fields of a recording may hold.
use Rattle.std.specs.Prelude.{ℕ, nat_eq, nat_le, nat_lt, ℤ, pos, Bool, true, ◌&&◌, List, [], ◌∷◌, if◌then◌else◌}
use Rattle.std.specs.Ordering.{int_eq}
use Rattle.ppd_ast.specs.declared.status.Status.{Status}
use Rattle.ppd_ast.specs.declared.status.Status.TheVariants as status
use Rattle.ppd_ast.specs.declared.status.SyncKind.{SyncKind}
use Rattle.ppd_ast.specs.declared.status.SyncKind.TheVariants as kind
use Rattle.ppd_ast.specs.declared.status.Trap.TheVariants as trap
use Rattle.ppd_codec_fields.specs.declared.tag.Tag.{Tag}
use Rattle.ppd_codec_fields.specs.declared.tag.Tag.TheVariants as T

-- ---- codes

abbrev pub tag_code : Tag → ℕ
tag_code T.Prelog = 1
tag_code T.Unit = 2
tag_code T.Sync = 3
tag_code T.Postlog = 4
tag_code T.End = 5

abbrev pub tags : List Tag
tags = T.Prelog ∷ T.Unit ∷ T.Sync ∷ T.Postlog ∷ T.End ∷ []

abbrev pub kind_code : SyncKind → ℕ
kind_code kind.P = 1
kind_code kind.V = 2
kind_code kind.Send = 3
kind_code kind.Recv = 4
kind_code kind.Done = 5

-- the kinds of version 1, and of version 2
abbrev pub kinds : ℕ → List SyncKind
kinds v = if nat_eq v 2 then kind.P ∷ kind.V ∷ kind.Send ∷ kind.Recv ∷ kind.Done ∷ []
    else kind.P ∷ kind.V ∷ kind.Send ∷ kind.Recv ∷ []

abbrev pub status_code : Status → ℕ
status_code status.Ended = 0
status_code (status.Trap trap.Overflow) = 1
status_code (status.Trap trap.Zero) = 2
status_code (status.Trap trap.Index) = 3
status_code (status.Trap trap.Assert) = 4
status_code (status.Trap trap.Depth) = 5
status_code status.Budget = 6
status_code status.Blocked = 7

abbrev pub statuses : List Status
statuses = status.Ended ∷ status.Trap trap.Overflow ∷ status.Trap trap.Zero ∷ status.Trap trap.Index
    ∷ status.Trap trap.Assert ∷ status.Trap trap.Depth ∷ status.Budget ∷ status.Blocked ∷ []

-- ---- values and cells

-- 0 but for what is sent and received
abbrev pub fits_kind : SyncKind → ℤ → Bool
fits_kind kind.P v = int_eq v (pos 0)
fits_kind kind.V v = int_eq v (pos 0)
fits_kind kind.Send v = true
fits_kind kind.Recv v = true
fits_kind kind.Done v = int_eq v (pos 0)

-- a cell is at least `low` and below the count of shared cells
abbrev pub is_next : ℕ → ℕ → ℕ → Bool
is_next shared low c = nat_le low c && nat_lt c shared
