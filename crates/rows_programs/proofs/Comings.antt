-- On worked runs what is to come in an interval, by the steps of its process, is what its trace and its log have.
use Rattle.ppd_model.specs.Setting.{Setting, setting_of}
use Rattle.std.proofs.Common.{◌≡◌, refl}
use Rattle.std.specs.Prelude.{pos, true, false, ℕ, List, [], ◌∷◌, map, get_or, Option, Some, None}
use Rattle.ppd_ast.specs.declared.plan.Plan.{Plan}
use Rattle.ppd_ast.specs.declared.program.Program.{Program}
use Rattle.ppd_ast.specs.Term.{terms}
use Rattle.ppd_model.specs.Pieces.{Piece}
use Rattle.ppd_model.specs.IntervalLogs.{interval_log, IntervalLog}
use Rattle.ppd_sem.specs.declared.event.Spot.TheVariants.{Local, Shared}
use Rattle.ppd_model.specs.declared.flow.Item.{Item}
use Rattle.ppd_model.specs.declared.flow.Item.TheVariants.{Own, Nested}
use Rattle.ppd_model.specs.Logs.{closed_logs}
use Rattle.ppd_model.specs.Story.{told}
use Rattle.law_steps.specs.Coming.Pieces.{Coming}
use Rattle.law_steps.specs.Coming.Openings.{Opening, coming_in, opening_of}
use Rattle.rows_programs.proofs.Runs.LeafLoops as leaf
use Rattle.rows_programs.proofs.Runs.Recursion as recursion
use Rattle.rows_programs.proofs.Runs.BoundedChannel as channel
use Rattle.rows_programs.proofs.Runs.RendezvousOrder as rendezvous
use Rattle.rows_programs.proofs.Runs.BudgetStop as stop
use Rattle.rows_programs.proofs.Runs.Deadlock as dead
use Rattle.rows_programs.proofs.Runs.UnfinishedLoop as unfinished
use Rattle.rows_programs.proofs.Runs.Tables.{access, event, quiet}

-- interval k of process p begins here, if it is there
abbrev begun : Setting → List ℕ → ℕ → ℕ → Option Opening
begun setting h p k = opening_of setting p (get_or (told setting h).moments p []) k

abbrev coming_by : Program → Plan → ℕ → Option Opening → Coming
coming_by program plan k None = record { pieces = []; items = []; steps = 0 }
coming_by program plan k (Some o) = coming_in program plan k o

-- what is to come in it
abbrev pub coming_at : Setting → List ℕ → ℕ → ℕ → Coming
coming_at setting h p k = coming_by setting.program setting.plan k (begun setting h p k)

abbrev pieces_by : Option IntervalLog → List Piece
pieces_by None = []
pieces_by (Some l) = map (λ q. q.1) l.pieces

-- the pieces of its log
abbrev pub pieces_at : Setting → List ℕ → ℕ → ℕ → List Piece
pieces_at setting h p k = pieces_by
    (interval_log setting.plan (get_or (closed_logs setting h).lists p []) k)

-- so many steps and these items are to come
pub record IsComing (setting : Setting) (h : List ℕ) (p k count : ℕ)
    (shown : List Item) : Type 0 where
  pub steps : (coming_at setting h p k).steps ≡ count
  pub items : (coming_at setting h p k).items ≡ shown

pub leaf_0 : IsComing (setting_of leaf.program leaf.plan 100000) leaf.schedule 0 0 14
    (Own (event 5 [] (access (Local 1 0) (pos 1) ∷ []) None None None)
    ∷ Own (event 0 [] (access (Local 1 1) (pos 0) ∷ []) None None None)
    ∷ Nested 1 0 (pos 1 ∷ []) true
    ∷ Own (event 3 (access (Local 1 1) (pos 1) ∷ []) (access (Shared 0) (pos 1) ∷ []) None None None)
    ∷ Own (quiet 4)
    ∷ Own (event 6 [] [] None (Some 1) None)
    ∷ Own (event 7 [] (access (Local 1 0) (pos 0) ∷ []) None None None)
    ∷ Own (event 0 [] (access (Local 1 1) (pos 0) ∷ []) None None None)
    ∷ Nested 2 0 (pos 0 ∷ []) true
    ∷ Own (event 3 (access (Local 1 1) (pos 0) ∷ []) (access (Shared 0) (pos 0) ∷ []) None None None)
    ∷ Own (quiet 4)
    ∷ Own (event 8 (access (Shared 0) (pos 0) ∷ []) [] (Some (pos 0)) None None)
    ∷ Own (quiet 9) ∷ [])
unfolding terms
leaf_0 = record { steps = refl; items = refl }

pub recursion_0 : IsComing (setting_of recursion.program recursion.plan 100000) recursion.schedule 0 0 3
    (Own (event 4 [] (access (Local 1 0) (pos 2) ∷ []) None None None)
    ∷ Nested 1 0 (pos 3 ∷ []) true
    ∷ Own (event 5 (access (Local 0 0) (pos 3) ∷ []) [] (Some (pos 3)) None None)
    ∷ Own (event 6 [] [] None None None) ∷ [])
unfolding terms
recursion_0 = record { steps = refl; items = refl }

pub channel_a_0 : IsComing (setting_of channel.program channel.plan 100000) channel.schedule 0 0 4
    (Own (event 0 [] [] (Some (pos 7)) (Some 1) None)
    ∷ Own (event 1 [] [] (Some (pos 8)) (Some 2) None)
    ∷ Own (event 2 [] (access (Shared 0) (pos 2) ∷ []) None None None)
    ∷ Own (event 3 [] [] None None None) ∷ [])
unfolding terms
channel_a_0 = record { steps = refl; items = refl }

pub channel_b_0 : IsComing (setting_of channel.program channel.plan 100000) channel.schedule 1 0 6
    (Own (event 4 [] (access (Local 0 0) (pos 0) ∷ []) None None None)
    ∷ Own (event 5 (access (Shared 0) (pos 0) ∷ []) [] (Some (pos 0)) None None)
    ∷ Own (event 6 [] (access (Local 0 0) (pos 7) ∷ []) None (Some 1) None)
    ∷ Own (event 7 [] (access (Local 0 0) (pos 8) ∷ []) None (Some 2) None)
    ∷ Own (event 8 [] [] None None None) ∷ [])
unfolding terms
channel_b_0 = record { steps = refl; items = refl }

pub rendezvous_a_0 : IsComing (setting_of rendezvous.program rendezvous.plan 100000) rendezvous.schedule 0 0 4
    (Own (event 0 [] [] (Some (pos 7)) (Some 1) None)
    ∷ Own (event 0 [] [] None (Some 1) None)
    ∷ Own (event 1 [] (access (Shared 0) (pos 2) ∷ []) None None None)
    ∷ Own (quiet 2) ∷ [])
unfolding terms
rendezvous_a_0 = record { steps = refl; items = refl }

pub stop_0 : IsComing (setting_of stop.program stop.plan 5) stop.schedule 0 0 5
    (Own (event 0 [] (access (Local 0 0) (pos 0) ∷ []) None None None)
    ∷ Own (event 1 [] [] (Some (pos 1)) None None)
    ∷ Own (event 2 (access (Local 0 0) (pos 0) ∷ []) (access (Local 0 0) (pos 1) ∷ []) None None None)
    ∷ Own (event 1 [] [] (Some (pos 1)) None None)
    ∷ Own (event 2 (access (Local 0 0) (pos 1) ∷ []) (access (Local 0 0) (pos 2) ∷ []) None None None) ∷ [])
unfolding terms
stop_0 = record { steps = refl; items = refl }

pub dead_a_0 : IsComing (setting_of dead.program dead.plan 100000) dead.schedule 0 0 1
    (Own (event 0 [] [] None (Some 1) None) ∷ [])
unfolding terms
dead_a_0 = record { steps = refl; items = refl }

pub dead_b_0 : IsComing (setting_of dead.program dead.plan 100000) dead.schedule 1 0 1
    (Own (event 3 [] [] None (Some 1) None) ∷ [])
unfolding terms
dead_b_0 = record { steps = refl; items = refl }

pub unfinished_0 : IsComing (setting_of unfinished.program unfinished.plan 100000) unfinished.schedule 0 0 1
    (Own (event 5 [] (access (Local 1 0) (pos 3) ∷ []) None None None)
    ∷ Nested 1 0 [] false ∷ [])
unfolding terms
unfinished_0 = record { steps = refl; items = refl }

-- ---- inner intervals

pub leaf_1_steps : (coming_at (setting_of leaf.program leaf.plan 100000) leaf.schedule 0 1).steps ≡ 3
unfolding terms
leaf_1_steps = refl

pub leaf_3 : begun (setting_of leaf.program leaf.plan 100000) leaf.schedule 0 3 ≡ None
unfolding terms
leaf_3 = refl

-- two intervals deep in a run that never ends them
pub unfinished_2_steps : (coming_at (setting_of unfinished.program unfinished.plan 100000) unfinished.schedule 0 2).steps ≡ 6
unfolding terms
unfinished_2_steps = refl

-- ---- pieces

pub stop_0_pieces : (coming_at (setting_of stop.program stop.plan 5) stop.schedule 0 0).pieces ≡ pieces_at (setting_of stop.program stop.plan 5) stop.schedule 0 0
unfolding terms
stop_0_pieces = refl

pub dead_a_0_pieces : (coming_at (setting_of dead.program dead.plan 100000) dead.schedule 0 0).pieces ≡ pieces_at (setting_of dead.program dead.plan 100000) dead.schedule 0 0
unfolding terms
dead_a_0_pieces = refl

pub unfinished_0_pieces : (coming_at (setting_of unfinished.program unfinished.plan 100000) unfinished.schedule 0 0).pieces ≡ pieces_at (setting_of unfinished.program unfinished.plan 100000) unfinished.schedule 0 0
unfolding terms
unfinished_0_pieces = refl

pub unfinished_1_pieces : (coming_at (setting_of unfinished.program unfinished.plan 100000) unfinished.schedule 0 1).pieces ≡ pieces_at (setting_of unfinished.program unfinished.plan 100000) unfinished.schedule 0 1
unfolding terms
unfinished_1_pieces = refl

pub rendezvous_a_0_pieces : (coming_at (setting_of rendezvous.program rendezvous.plan 100000) rendezvous.schedule 0 0).pieces ≡ pieces_at (setting_of rendezvous.program rendezvous.plan 100000) rendezvous.schedule 0 0
unfolding terms
rendezvous_a_0_pieces = refl
