-- process a { int i = 3; while (i < 3) { i = i + 1; } print(i); } with loops as blocks
use Rattle.ppd_model.specs.Setting.{setting_of}
use Rattle.std.proofs.Common.{refl}
use Rattle.std.specs.Prelude.{pos, true, [], ◌∷◌, Some, None}
use Rattle.ppd_ast.specs.Term.{terms}
use Rattle.ppd_sem.specs.declared.event.Spot.TheVariants.{Local}
use Rattle.ppd_model.specs.declared.flow.Item.TheVariants.{Own, Nested}
use Rattle.rows_programs.proofs.Runs.LoopNeverEntered.{program, plan, schedule}
use Rattle.rows_programs.proofs.Runs.Tables.{access, event}
use Rattle.rows_programs.proofs.Replays.Showing.{IsReplayed, IsNoInterval}

pub a_0 : IsReplayed (setting_of program plan 100000) schedule 0 0 4 (Own (event 0 [] (access (Local 0 0) (pos 3) ∷ []) None None None) ∷ Nested 1 1 (pos 3 ∷ []) true ∷ Own (event 3 (access (Local 0 0) (pos 3) ∷ []) [] (Some (pos 3)) None None) ∷ Own (event 4 [] [] None None None) ∷ [])
unfolding terms
a_0 = record { replayed = refl; modelled = refl }

pub a_1 : IsReplayed (setting_of program plan 100000) schedule 0 1 1 (Own (event 1 (access (Local 0 0) (pos 3) ∷ []) [] (Some (pos 0)) None None) ∷ [])
unfolding terms
a_1 = record { replayed = refl; modelled = refl }

pub no_a_2 : IsNoInterval (setting_of program plan 100000) schedule 0 2
unfolding terms
no_a_2 = record { replayed = refl; modelled = refl }
