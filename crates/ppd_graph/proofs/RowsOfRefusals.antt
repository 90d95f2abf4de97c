-- Worked logs: their refusals, computed.
use Rattle.std.proofs.Common.{◌≡◌, ℕ, List, [], ◌∷◌, pos, Some, None, refl, map}
use Rattle.ppd_ast.specs.declared.program.Program.{Program}
use Rattle.ppd_ast.specs.declared.program.Chan.{Chan}
use Rattle.ppd_ast.specs.declared.program.Sem.{Sem}
use Rattle.ppd_ast.specs.declared.status.SyncKind.{SyncKind}
use Rattle.ppd_ast.specs.declared.status.SyncKind.TheVariants.{P, V, Send, Recv, Done}
use Rattle.ppd_model.specs.declared.entry.Entry.{Entry}
use Rattle.ppd_model.specs.declared.entry.Entry.TheVariants as entry
use Rattle.ppd_model.specs.declared.entry.Logs.{Logs}
use Rattle.ppd_graph.specs.Refusals.{missing, placed, sync_placed, twice_after, without_object}

objects : List Sem → List Chan → Program
objects sems chans = record { exprs = []; stmts = []; bodies = []; functions = 0; shared = []; starts = []; sems = sems; chans = chans }

starting : ℕ → Sem
starting n = record { name = []; start = n }

holding : ℕ → Chan
holding n = record { name = []; capacity = n }

done : SyncKind → ℕ → ℕ → Entry
done kind object number = entry.Sync kind object number (pos 0) [] []

unit : Entry
unit = entry.Unit 0 []

logs_of : List (List Entry) → Logs
logs_of lists = record { lists = lists }

twice : twice_after (objects (starting 0 ∷ []) []) [] (placed (logs_of ((unit ∷ done V 0 1 ∷ []) ∷ (unit ∷ unit ∷ done V 0 1 ∷ []) ∷ []))) ≡ Some (record { process = 1; entry = 2 })
unfolding objects starting done unit logs_of
twice = refl

from_start : twice_after (objects (starting 2 ∷ []) []) [] (placed (logs_of ((done V 0 3 ∷ done V 0 2 ∷ []) ∷ []))) ≡ Some (record { process = 0; entry = 1 })
unfolding objects starting done logs_of
from_start = refl

no_object : without_object (objects (starting 2 ∷ []) []) (placed (logs_of ((done V 0 3 ∷ done Send 0 1 ∷ []) ∷ []))) ≡ Some (record { process = 0; entry = 1 })
unfolding objects starting done logs_of
no_object = refl

missing_give : missing (objects (starting 1 ∷ []) []) (map sync_placed (placed (logs_of ((done P 0 1 ∷ done P 0 2 ∷ []) ∷ [])))) ≡ Some (V, 0, 2)
unfolding objects starting done logs_of
missing_give = refl

missing_take : missing (objects (starting 1 ∷ []) []) (map sync_placed (placed (logs_of ((done P 0 2 ∷ done V 0 2 ∷ []) ∷ [])))) ≡ Some (P, 0, 1)
unfolding objects starting done logs_of
missing_take = refl

missing_receive : missing (objects [] (holding 1 ∷ [])) (map sync_placed (placed (logs_of ((done Send 0 1 ∷ done Send 0 2 ∷ []) ∷ [])))) ≡ Some (Recv, 0, 1)
unfolding objects holding done logs_of
missing_receive = refl

none_missing : missing (objects [] (holding 1 ∷ [])) (map sync_placed (placed (logs_of ((done Send 0 1 ∷ done Send 0 2 ∷ []) ∷ (done Recv 0 1 ∷ []) ∷ [])))) ≡ None
unfolding objects holding done logs_of
none_missing = refl

missing_send : missing (objects [] (holding 1 ∷ [])) (map sync_placed (placed (logs_of ((done Send 0 2 ∷ []) ∷ [])))) ≡ Some (Send, 0, 1)
unfolding objects holding done logs_of
missing_send = refl

missing_sent : missing (objects [] (holding 1 ∷ [])) (map sync_placed (placed (logs_of ((done Send 0 1 ∷ done Recv 0 1 ∷ done Recv 0 2 ∷ []) ∷ [])))) ≡ Some (Send, 0, 2)
unfolding objects holding done logs_of
missing_sent = refl

missing_received : missing (objects [] (holding 1 ∷ [])) (map sync_placed (placed (logs_of ((done Send 0 1 ∷ done Send 0 2 ∷ done Recv 0 2 ∷ []) ∷ [])))) ≡ Some (Recv, 0, 1)
unfolding objects holding done logs_of
missing_received = refl

missing_given : missing (objects (starting 1 ∷ []) []) (map sync_placed (placed (logs_of ((done V 0 3 ∷ []) ∷ [])))) ≡ Some (V, 0, 2)
unfolding objects starting done logs_of
missing_given = refl

offer_missing : missing (objects [] (holding 0 ∷ [])) (map sync_placed (placed (logs_of ((done Send 0 2 ∷ []) ∷ [])))) ≡ Some (Send, 0, 1)
unfolding objects holding done logs_of
offer_missing = refl

offer_missing_last : missing (objects [] (holding 0 ∷ [])) (map sync_placed (placed (logs_of ((done Send 0 1 ∷ done Recv 0 2 ∷ done Recv 0 1 ∷ []) ∷ [])))) ≡ Some (Send, 0, 2)
unfolding objects holding done logs_of
offer_missing_last = refl

offer_not_received : missing (objects [] (holding 0 ∷ [])) (map sync_placed (placed (logs_of ((done Send 0 1 ∷ done Send 0 2 ∷ done Recv 0 2 ∷ []) ∷ [])))) ≡ Some (Recv, 0, 1)
unfolding objects holding done logs_of
offer_not_received = refl

completed_not_received : missing (objects [] (holding 0 ∷ [])) (map sync_placed (placed (logs_of ((done Send 0 1 ∷ done Done 0 1 ∷ []) ∷ [])))) ≡ Some (Recv, 0, 1)
unfolding objects holding done logs_of
completed_not_received = refl

completion_missing : missing (objects [] (holding 0 ∷ [])) (map sync_placed (placed (logs_of ((done Send 0 1 ∷ done Send 0 2 ∷ done Recv 0 1 ∷ done Recv 0 2 ∷ done Done 0 2 ∷ []) ∷ [])))) ≡ Some (Done, 0, 1)
unfolding objects holding done logs_of
completion_missing = refl

completion_missing_last : missing (objects [] (holding 0 ∷ [])) (map sync_placed (placed (logs_of ((done Send 0 1 ∷ done Recv 0 1 ∷ done Send 0 2 ∷ []) ∷ [])))) ≡ Some (Done, 0, 1)
unfolding objects holding done logs_of
completion_missing_last = refl

none_missing_of_offers : missing (objects [] (holding 0 ∷ [])) (map sync_placed (placed (logs_of ((done Send 0 1 ∷ done Recv 0 1 ∷ done Done 0 1 ∷ done Send 0 2 ∷ []) ∷ [])))) ≡ None
unfolding objects holding done logs_of
none_missing_of_offers = refl

completion_of_places : without_object (objects [] (holding 1 ∷ [])) (placed (logs_of ((done Send 0 1 ∷ done Done 0 1 ∷ []) ∷ []))) ≡ Some (record { process = 0; entry = 1 })
unfolding objects holding done logs_of
completion_of_places = refl
