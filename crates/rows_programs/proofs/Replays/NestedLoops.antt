-- process a { int i; int j; while (i < 2) { j = 0; while (j < 1) { j = j + 1; } i = i + 1; } } with loops as blocks
use Rattle.ppd_model.specs.Setting.{setting_of}
use Rattle.std.proofs.Common.{refl}
use Rattle.std.specs.Prelude.{pos, true, [], ◌∷◌, Some, None}
use Rattle.ppd_ast.specs.Term.{terms}
use Rattle.ppd_sem.specs.declared.event.Spot.TheVariants.{Local}
use Rattle.ppd_model.specs.declared.flow.Item.TheVariants.{Own, Nested}
use Rattle.rows_programs.proofs.Runs.NestedLoops.{program, plan, schedule}
use Rattle.rows_programs.proofs.Runs.Tables.{access, event, quiet}
use Rattle.rows_programs.proofs.Replays.Showing.{IsReplayed, IsNoInterval}

pub a_0 : IsReplayed (setting_of program plan 100000) schedule 0 0 4 (Own (event 0 [] (access (Local 0 0) (pos 0) ∷ []) None None None) ∷ Own (event 1 [] (access (Local 0 1) (pos 0) ∷ []) None None None) ∷ Nested 1 1 (pos 2 ∷ pos 1 ∷ []) true ∷ Own (quiet 7) ∷ [])
unfolding terms
a_0 = record { replayed = refl; modelled = refl }

pub a_1 : IsReplayed (setting_of program plan 100000) schedule 0 1 13 (Own (event 2 (access (Local 0 0) (pos 0) ∷ []) [] (Some (pos 1)) None None) ∷ Own (event 3 [] (access (Local 0 1) (pos 0) ∷ []) None None None) ∷ Own (event 4 (access (Local 0 1) (pos 0) ∷ []) [] (Some (pos 1)) None None) ∷ Own (event 5 (access (Local 0 1) (pos 0) ∷ []) (access (Local 0 1) (pos 1) ∷ []) None None None) ∷ Own (event 4 (access (Local 0 1) (pos 1) ∷ []) [] (Some (pos 0)) None None) ∷ Own (event 6 (access (Local 0 0) (pos 0) ∷ []) (access (Local 0 0) (pos 1) ∷ []) None None None) ∷ Own (event 2 (access (Local 0 0) (pos 1) ∷ []) [] (Some (pos 1)) None None) ∷ Own (event 3 [] (access (Local 0 1) (pos 0) ∷ []) None None None) ∷ Own (event 4 (access (Local 0 1) (pos 0) ∷ []) [] (Some (pos 1)) None None) ∷ Own (event 5 (access (Local 0 1) (pos 0) ∷ []) (access (Local 0 1) (pos 1) ∷ []) None None None) ∷ Own (event 4 (access (Local 0 1) (pos 1) ∷ []) [] (Some (pos 0)) None None) ∷ Own (event 6 (access (Local 0 0) (pos 1) ∷ []) (access (Local 0 0) (pos 2) ∷ []) None None None) ∷ Own (event 2 (access (Local 0 0) (pos 2) ∷ []) [] (Some (pos 0)) None None) ∷ [])
unfolding terms
a_1 = record { replayed = refl; modelled = refl }

pub no_a_2 : IsNoInterval (setting_of program plan 100000) schedule 0 2
unfolding terms
no_a_2 = record { replayed = refl; modelled = refl }
