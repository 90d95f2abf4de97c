-- int f(int n) { int r; if (n > 0) { r = f(n - 1); } return r + 1; } process a { int v = f(2); print(v); }
use Rattle.ppd_model.specs.Setting.{setting_of}
use Rattle.std.proofs.Common.{refl}
use Rattle.std.specs.Prelude.{pos, true, [], ◌∷◌, Some, None}
use Rattle.ppd_ast.specs.Term.{terms}
use Rattle.ppd_sem.specs.declared.event.Spot.TheVariants.{Local}
use Rattle.ppd_model.specs.declared.flow.Item.TheVariants.{Own, Nested}
use Rattle.rows_programs.proofs.Runs.Recursion.{program, plan, schedule}
use Rattle.rows_programs.proofs.Runs.Tables.{access, event}
use Rattle.rows_programs.proofs.Replays.Showing.{IsReplayed, IsNoInterval}

pub a_0 : IsReplayed (setting_of program plan 100000) schedule 0 0 3 (Own (event 4 [] (access (Local 1 0) (pos 2) ∷ []) None None None) ∷ Nested 1 0 (pos 3 ∷ []) true ∷ Own (event 5 (access (Local 0 0) (pos 3) ∷ []) [] (Some (pos 3)) None None) ∷ Own (event 6 [] [] None None None) ∷ [])
unfolding terms
a_0 = record { replayed = refl; modelled = refl }

pub a_1 : IsReplayed (setting_of program plan 100000) schedule 0 1 4 (Own (event 0 [] (access (Local 0 1) (pos 0) ∷ []) None None None) ∷ Own (event 1 (access (Local 0 0) (pos 2) ∷ []) [] (Some (pos 1)) None None) ∷ Own (event 2 (access (Local 0 0) (pos 2) ∷ []) (access (Local 1 0) (pos 1) ∷ []) None None None) ∷ Nested 2 0 (pos 2 ∷ []) true ∷ Own (event 3 (access (Local 0 1) (pos 2) ∷ []) [] (Some (pos 3)) None None) ∷ [])
unfolding terms
a_1 = record { replayed = refl; modelled = refl }

pub a_2 : IsReplayed (setting_of program plan 100000) schedule 0 2 4 (Own (event 0 [] (access (Local 0 1) (pos 0) ∷ []) None None None) ∷ Own (event 1 (access (Local 0 0) (pos 1) ∷ []) [] (Some (pos 1)) None None) ∷ Own (event 2 (access (Local 0 0) (pos 1) ∷ []) (access (Local 1 0) (pos 0) ∷ []) None None None) ∷ Nested 3 0 (pos 1 ∷ []) true ∷ Own (event 3 (access (Local 0 1) (pos 1) ∷ []) [] (Some (pos 2)) None None) ∷ [])
unfolding terms
a_2 = record { replayed = refl; modelled = refl }

pub a_3 : IsReplayed (setting_of program plan 100000) schedule 0 3 3 (Own (event 0 [] (access (Local 0 1) (pos 0) ∷ []) None None None) ∷ Own (event 1 (access (Local 0 0) (pos 0) ∷ []) [] (Some (pos 0)) None None) ∷ Own (event 3 (access (Local 0 1) (pos 0) ∷ []) [] (Some (pos 1)) None None) ∷ [])
unfolding terms
a_3 = record { replayed = refl; modelled = refl }

pub no_a_4 : IsNoInterval (setting_of program plan 100000) schedule 0 4
unfolding terms
no_a_4 = record { replayed = refl; modelled = refl }
