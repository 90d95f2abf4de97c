-- shared int x; sem s; void f(int k) { int i; while (i < k) { i = i + 1; } x = i; } process a { f(1); V(s); f(0); print(x); }
use Rattle.ppd_model.specs.Setting.{setting_of}
use Rattle.std.proofs.Common.{refl}
use Rattle.std.specs.Prelude.{pos, true, [], ◌∷◌, Some, None}
use Rattle.ppd_ast.specs.Term.{terms}
use Rattle.ppd_sem.specs.declared.event.Spot.TheVariants.{Local, Shared}
use Rattle.ppd_model.specs.declared.flow.Item.TheVariants.{Own, Nested}
use Rattle.rows_programs.proofs.Runs.LeafLoops.{program, plan, schedule}
use Rattle.rows_programs.proofs.Runs.Tables.{access, event, quiet}
use Rattle.rows_programs.proofs.Replays.Showing.{IsReplayed, IsNoInterval}

pub a_0 : IsReplayed (setting_of program plan 100000) schedule 0 0 14 (Own (event 5 [] (access (Local 1 0) (pos 1) ∷ []) None None None) ∷ Own (event 0 [] (access (Local 1 1) (pos 0) ∷ []) None None None) ∷ Nested 1 0 (pos 1 ∷ []) true ∷ Own (event 3 (access (Local 1 1) (pos 1) ∷ []) (access (Shared 0) (pos 1) ∷ []) None None None) ∷ Own (quiet 4) ∷ Own (event 6 [] [] None (Some 1) None) ∷ Own (event 7 [] (access (Local 1 0) (pos 0) ∷ []) None None None) ∷ Own (event 0 [] (access (Local 1 1) (pos 0) ∷ []) None None None) ∷ Nested 2 0 (pos 0 ∷ []) true ∷ Own (event 3 (access (Local 1 1) (pos 0) ∷ []) (access (Shared 0) (pos 0) ∷ []) None None None) ∷ Own (quiet 4) ∷ Own (event 8 (access (Shared 0) (pos 0) ∷ []) [] (Some (pos 0)) None None) ∷ Own (quiet 9) ∷ [])
unfolding terms
a_0 = record { replayed = refl; modelled = refl }

pub a_1 : IsReplayed (setting_of program plan 100000) schedule 0 1 3 (Own (event 1 (access (Local 0 1) (pos 0) ∷ access (Local 0 0) (pos 1) ∷ []) [] (Some (pos 1)) None None) ∷ Own (event 2 (access (Local 0 1) (pos 0) ∷ []) (access (Local 0 1) (pos 1) ∷ []) None None None) ∷ Own (event 1 (access (Local 0 1) (pos 1) ∷ access (Local 0 0) (pos 1) ∷ []) [] (Some (pos 0)) None None) ∷ [])
unfolding terms
a_1 = record { replayed = refl; modelled = refl }

pub a_2 : IsReplayed (setting_of program plan 100000) schedule 0 2 1 (Own (event 1 (access (Local 0 1) (pos 0) ∷ access (Local 0 0) (pos 0) ∷ []) [] (Some (pos 0)) None None) ∷ [])
unfolding terms
a_2 = record { replayed = refl; modelled = refl }

pub no_a_3 : IsNoInterval (setting_of program plan 100000) schedule 0 3
unfolding terms
no_a_3 = record { replayed = refl; modelled = refl }
