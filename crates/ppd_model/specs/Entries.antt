-- Words on entries and on the logs of a program.
use Rattle.std.specs.Prelude.{Bool, true, false}
use Rattle.ppd_sem.specs.SyncKind.{SyncKind}
use Rattle.ppd_sem.specs.SyncKind.TheVariants.{P, V, Send, Recv, Done}
use Rattle.ppd_model.specs.declared.entry.Entry.{Entry}
use Rattle.ppd_model.specs.declared.entry.Entry.TheVariants as entry

-- the kinds are one
abbrev pub same_kind : SyncKind → SyncKind → Bool
same_kind P P = true
same_kind V V = true
same_kind Send Send = true
same_kind Recv Recv = true
same_kind Done Done = true
same_kind a b = false

-- the entry is the end of a process
abbrev pub is_end : Entry → Bool
is_end (entry.End status rest reads writes) = true
is_end e = false
