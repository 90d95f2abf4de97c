-- The synchronization that leads to one by their numbers, and where it stands.
use Rattle.std.specs.Prelude.{◌≡◌, ℕ, ◌+◌, List, [], ◌∷◌, map, Option, Some, None, if◌then◌else◌}
use Rattle.ppd_ast.specs.declared.program.Program.{Program}
use Rattle.ppd_ast.specs.declared.status.SyncKind.{SyncKind}
use Rattle.ppd_ast.specs.declared.status.SyncKind.TheVariants.{P}
use Rattle.ppd_model.specs.declared.entry.Logs.{Logs}
use Rattle.ppd_model.specs.declared.graph.NodeId.{NodeId}
use Rattle.std.specs.Option.{option_or as or_else}
use Rattle.ppd_model.specs.HappenedBefore.{node, sync_at}
use Rattle.ppd_model.specs.Synchronizations.{Sync}
use Rattle.ppd_model.specs.Tables.{capacity_of}
use Rattle.ppd_graph_partners.specs.Wanted.{wanted_by}
use Rattle.ppd_graph.specs.declared.paired.Paired.{Paired}
use Rattle.ppd_graph.specs.declared.paired.Paired.TheVariants.{Nothing, Initial, Node}
use Rattle.ppd_model.specs.RecordedSets.{record_in}
use Rattle.ppd_graph.specs.Refusals.{placed, twice_after}
use Rattle.ppd_model.specs.SameSyncs.{same_sync}
use Rattle.ppd_graph.specs.Times.{ArePartners}

-- the synchronization that leads to this one, if one does
abbrev pub wanted : Program → Sync → Option Sync
wanted program s = wanted_by (capacity_of program s.object) s.kind s.object s.number

abbrev pub listed : Option Sync → List Sync
listed None = []
listed (Some s) = s ∷ []

-- where it stands among those of process p from number i on
abbrev pub found_in_row : Sync → ℕ → ℕ → List Sync → Option NodeId
found_in_row s p i [] = None
found_in_row s p i (x ∷ xs) = if same_sync x s then Some (node p i) else found_in_row s p (i + 1) xs

abbrev pub found_from : Sync → ℕ → List (List Sync) → Option NodeId
found_from s p [] = None
found_from s p (row ∷ rows) = or_else (found_in_row s p 0 row) (found_from s (p + 1) rows)

-- where one that is wanted stands, if it is there
abbrev pub found : List (List Sync) → Option Sync → Option NodeId
found syncs None = None
found syncs (Some s) = found_from s 0 syncs

abbrev pub paired_by : SyncKind → Option NodeId → Paired
paired_by kind (Some a) = Node a
paired_by P None = Initial
paired_by kind None = Nothing

-- the partner of a synchronization
abbrev pub partner_of : Program → List (List Sync) → Sync → Paired
partner_of program syncs s = paired_by s.kind (found syncs (wanted program s))

-- the partners of all
abbrev pub pairs_of : Program → List (List Sync) → List (List Paired)
pairs_of program syncs = map (map (partner_of program syncs)) syncs

-- each synchronization stands once
abbrev pub IsOnce : List (List Sync) → Type 0
IsOnce syncs = (a b : NodeId) (s : Sync) → sync_at syncs a ≡ Some s → sync_at syncs b ≡ Some s → a ≡ b

-- ---- law

-- where each stands once, the partners found by numbers are those that lead to each
abbrev pub PartnersAreFound : Type 0
PartnersAreFound =
    (program : Program) (syncs : List (List Sync)) → IsOnce syncs → ArePartners program syncs (pairs_of program syncs)

-- where no number stands twice, each synchronization stands once
abbrev pub NoneTwiceMeansOnce : Type 0
NoneTwiceMeansOnce =
    (program : Program) (logs : Logs) → twice_after program [] (placed logs) ≡ None → IsOnce (record_in logs)
