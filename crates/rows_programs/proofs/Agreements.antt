-- The law on rows: two schedules that agree with no race, two on a channel of capacity 0, two that race and differ,
-- and two that do not agree.
use Rattle.ppd_model.specs.Setting.{setting_of}
use Rattle.std.proofs.Common.{◌≡◌, refl, ap, sym, ◌∙◌}
use Rattle.std.specs.Prelude.{ℕ, zero, suc, false, List, [], ◌∷◌}
use Rattle.ppd_ast.specs.Term.{terms}
use Rattle.ppd_ast.specs.declared.status.SyncKind.TheVariants as sync
use Rattle.ppd_model.specs.declared.flow.Origin.{Origin}
use Rattle.ppd_model.specs.declared.flow.Origin.TheVariants.{Initial, Entry, Item as ItemAt}
use Rattle.ppd_model.specs.declared.tracing.Story.{Story}
use Rattle.ppd_model.specs.Agreement.{Agree}
use Rattle.ppd_model.specs.FlowbackEdges.{last}
use Rattle.ppd_model.specs.Record.{sync_record}
use Rattle.ppd_model.specs.Schedule.{IsWhole}
use Rattle.ppd_model.specs.Story.{story, told}
use Rattle.ppd_model.specs.World.{enabled}
use Rattle.rows_programs.proofs.Runs.LockOrder as locks
use Rattle.rows_programs.proofs.Runs.RendezvousOrder as rendezvous
use Rattle.rows_programs.proofs.Runs.Showing.{synced}
use Rattle.rows_programs.proofs.Runs.UnguardedIncrement as racy
use Rattle.rows_programs.proofs.Runs.UnreadSnapshot as snapshot
use Rattle.law_steps.proofs.Agreeing.{agreeing_stories}

-- ---- two schedules that agree

-- they have one story, though the first unit of p finds another x
pub applies : story (setting_of snapshot.program snapshot.plan 100000) snapshot.first ≡ story (setting_of snapshot.program snapshot.plan 100000) snapshot.second
applies = agreeing_stories (setting_of snapshot.program snapshot.plan 100000) snapshot.first snapshot.second snapshot.agree snapshot.races_first

-- ---- a channel of capacity 0

-- b reads and prints before a offers
abbrev pub late : List ℕ
late = 1 ∷ 1 ∷ 1 ∷ 0 ∷ 1 ∷ 1 ∷ 0 ∷ 0 ∷ 0 ∷ []

nobody : (p : ℕ) → enabled rendezvous.program rendezvous.plan (told (setting_of rendezvous.program rendezvous.plan 100000) late).world p ≡ false
unfolding terms
nobody zero = refl
nobody (suc zero) = refl
nobody (suc (suc p)) = refl

whole_late : IsWhole (setting_of rendezvous.program rendezvous.plan 100000) late
unfolding terms
whole_late = record { last = (told (setting_of rendezvous.program rendezvous.plan 100000) late).world; runs = refl; over = record { nobody = nobody } }

synchronizations_late : sync_record (setting_of rendezvous.program rendezvous.plan 100000) late ≡ (synced sync.Send 0 1 ∷ synced sync.Done 0 1 ∷ []) ∷ (synced sync.Recv 0 1 ∷ []) ∷ []
unfolding terms
synchronizations_late = refl

pub offers_agree : Agree (setting_of rendezvous.program rendezvous.plan 100000) rendezvous.schedule late
offers_agree = record { first = rendezvous.whole; second = whole_late; records = rendezvous.synchronizations ∙ sym synchronizations_late }

-- the offer and its completion keep the read before the write
pub offered : story (setting_of rendezvous.program rendezvous.plan 100000) rendezvous.schedule ≡ story (setting_of rendezvous.program rendezvous.plan 100000) late
offered = agreeing_stories (setting_of rendezvous.program rendezvous.plan 100000) rendezvous.schedule late offers_agree rendezvous.race_list

-- ---- with races

abbrev process_of : Origin → ℕ
process_of Initial = 2
process_of Entry = 2
process_of (ItemAt p k j) = p

-- both whole, with one record
pub racy_agree : Agree (setting_of racy.program racy.plan 100000) racy.first_a racy.first_b
racy_agree = record { first = racy.whole_first_a; second = racy.whole_first_b; records = racy.synchronizations_first_a ∙ sym racy.synchronizations_first_b }

-- the stories differ: the last write is the other process's
pub racy_differ : story (setting_of racy.program racy.plan 100000) racy.first_a ≡ story (setting_of racy.program racy.plan 100000) racy.first_b → ⊥
racy_differ e =
    let same : 1 ≡ 0 = ap (λ x. process_of x.1) (sym racy.final_x_first_a ∙ ap (λ (s : Story). last (setting_of racy.program racy.plan 100000) s 0) e ∙ racy.final_x_first_b) in
    absurd (cc same)

-- ---- with another order at a lock

-- neither races, and they are of two records, so nothing is said of them
pub locks_apart : Agree (setting_of locks.program locks.plan 100000) locks.first locks.second → ⊥
locks_apart = locks.apart
