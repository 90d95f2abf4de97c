-- shared int a[2]; process p { int i; a[0] = 5; a[1] = 6; while (i < 2 && a[i] != 0) { i = i + 1; } print(i); }
use Rattle.ppd_model.specs.Setting.{setting_of}
use Rattle.std.proofs.Common.{refl}
use Rattle.std.specs.Prelude.{pos, [], ◌∷◌, Some, None}
use Rattle.ppd_ast.specs.Term.{terms}
use Rattle.ppd_sem.specs.declared.event.Spot.TheVariants.{Local, Shared}
use Rattle.ppd_model.specs.declared.flow.Item.TheVariants.{Own}
use Rattle.rows_programs.proofs.Runs.ShortCircuit.{program, plan, schedule}
use Rattle.rows_programs.proofs.Runs.Tables.{access, event}
use Rattle.rows_programs.proofs.Replays.Showing.{IsReplayed, IsNoInterval}

pub p_0 : IsReplayed (setting_of program plan 100000) schedule 0 0 12 (Own (event 0 [] (access (Local 0 0) (pos 0) ∷ []) None None None) ∷ Own (event 1 [] (access (Shared 0) (pos 5) ∷ []) None None None) ∷ Own (event 2 [] (access (Shared 1) (pos 6) ∷ []) None None None) ∷ Own (event 3 (access (Local 0 0) (pos 0) ∷ access (Local 0 0) (pos 0) ∷ access (Shared 0) (pos 5) ∷ []) [] (Some (pos 1)) None None) ∷ Own (event 4 (access (Local 0 0) (pos 0) ∷ []) (access (Local 0 0) (pos 1) ∷ []) None None None) ∷ Own (event 3 (access (Local 0 0) (pos 1) ∷ access (Local 0 0) (pos 1) ∷ access (Shared 1) (pos 6) ∷ []) [] (Some (pos 1)) None None) ∷ Own (event 4 (access (Local 0 0) (pos 1) ∷ []) (access (Local 0 0) (pos 2) ∷ []) None None None) ∷ Own (event 3 (access (Local 0 0) (pos 2) ∷ []) [] (Some (pos 0)) None None) ∷ Own (event 5 (access (Local 0 0) (pos 2) ∷ []) [] (Some (pos 2)) None None) ∷ Own (event 6 [] [] None None None) ∷ [])
unfolding terms
p_0 = record { replayed = refl; modelled = refl }

pub no_p_1 : IsNoInterval (setting_of program plan 100000) schedule 0 1
unfolding terms
no_p_1 = record { replayed = refl; modelled = refl }
