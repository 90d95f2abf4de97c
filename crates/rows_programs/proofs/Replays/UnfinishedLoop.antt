-- shared int x; int f(int n) { int i; while (i < n) { i = i + 1; x = 1 / (2 - i); } return i; } process a { int v = f(3); print(v); }
use Rattle.ppd_model.specs.Setting.{setting_of}
use Rattle.std.proofs.Common.{refl}
use Rattle.std.specs.Prelude.{pos, false, [], ◌∷◌, Some, None}
use Rattle.ppd_ast.specs.Term.{terms}
use Rattle.ppd_ast.specs.declared.status.Trap.TheVariants as trap
use Rattle.ppd_sem.specs.declared.event.Spot.TheVariants.{Local, Shared}
use Rattle.ppd_model.specs.declared.flow.Item.TheVariants.{Own, Nested}
use Rattle.rows_programs.proofs.Runs.UnfinishedLoop.{program, plan, schedule}
use Rattle.rows_programs.proofs.Runs.Tables.{access, event}
use Rattle.rows_programs.proofs.Replays.Showing.{IsReplayed, IsNoInterval}

pub a_0 : IsReplayed (setting_of program plan 100000) schedule 0 0 1 (Own (event 5 [] (access (Local 1 0) (pos 3) ∷ []) None None None) ∷ Nested 1 0 [] false ∷ [])
unfolding terms
a_0 = record { replayed = refl; modelled = refl }

pub a_1 : IsReplayed (setting_of program plan 100000) schedule 0 1 2 (Own (event 0 [] (access (Local 0 1) (pos 0) ∷ []) None None None) ∷ Nested 2 1 [] false ∷ [])
unfolding terms
a_1 = record { replayed = refl; modelled = refl }

pub a_2 : IsReplayed (setting_of program plan 100000) schedule 0 2 6 (Own (event 1 (access (Local 0 1) (pos 0) ∷ access (Local 0 0) (pos 3) ∷ []) [] (Some (pos 1)) None None) ∷ Own (event 2 (access (Local 0 1) (pos 0) ∷ []) (access (Local 0 1) (pos 1) ∷ []) None None None) ∷ Own (event 3 (access (Local 0 1) (pos 1) ∷ []) (access (Shared 0) (pos 1) ∷ []) None None None) ∷ Own (event 1 (access (Local 0 1) (pos 1) ∷ access (Local 0 0) (pos 3) ∷ []) [] (Some (pos 1)) None None) ∷ Own (event 2 (access (Local 0 1) (pos 1) ∷ []) (access (Local 0 1) (pos 2) ∷ []) None None None) ∷ Own (event 3 (access (Local 0 1) (pos 2) ∷ []) [] None None (Some trap.Zero)) ∷ [])
unfolding terms
a_2 = record { replayed = refl; modelled = refl }

pub no_a_3 : IsNoInterval (setting_of program plan 100000) schedule 0 3
unfolding terms
no_a_3 = record { replayed = refl; modelled = refl }
