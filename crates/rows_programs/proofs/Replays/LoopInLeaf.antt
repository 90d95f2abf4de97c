-- shared int x; void f(int k) { while (x < k) { x = x + 1; } } process a { f(2); print(x); }
use Rattle.ppd_model.specs.Setting.{setting_of}
use Rattle.std.proofs.Common.{refl}
use Rattle.std.specs.Prelude.{pos, true, [], ◌∷◌, Some, None}
use Rattle.ppd_ast.specs.Term.{terms}
use Rattle.ppd_sem.specs.declared.event.Spot.TheVariants.{Local, Shared}
use Rattle.ppd_model.specs.declared.flow.Item.TheVariants.{Own, Nested}
use Rattle.rows_programs.proofs.Runs.LoopInLeaf.{program, plan, schedule}
use Rattle.rows_programs.proofs.Runs.Tables.{access, event}
use Rattle.rows_programs.proofs.Replays.Showing.{IsReplayed, IsNoInterval}

pub a_0 : IsReplayed (setting_of program plan 100000) schedule 0 0 6 (Own (event 3 [] (access (Local 1 0) (pos 2) ∷ []) None None None) ∷ Nested 1 0 [] true ∷ Own (event 2 [] [] None None None) ∷ Own (event 4 (access (Shared 0) (pos 2) ∷ []) [] (Some (pos 2)) None None) ∷ Own (event 5 [] [] None None None) ∷ [])
unfolding terms
a_0 = record { replayed = refl; modelled = refl }

pub a_1 : IsReplayed (setting_of program plan 100000) schedule 0 1 10 (Own (event 0 (access (Shared 0) (pos 0) ∷ access (Local 0 0) (pos 2) ∷ []) [] (Some (pos 1)) None None) ∷ Own (event 1 (access (Shared 0) (pos 0) ∷ []) (access (Shared 0) (pos 1) ∷ []) None None None) ∷ Own (event 0 (access (Shared 0) (pos 1) ∷ access (Local 0 0) (pos 2) ∷ []) [] (Some (pos 1)) None None) ∷ Own (event 1 (access (Shared 0) (pos 1) ∷ []) (access (Shared 0) (pos 2) ∷ []) None None None) ∷ Own (event 0 (access (Shared 0) (pos 2) ∷ access (Local 0 0) (pos 2) ∷ []) [] (Some (pos 0)) None None) ∷ [])
unfolding terms
a_1 = record { replayed = refl; modelled = refl }

pub no_a_2 : IsNoInterval (setting_of program plan 100000) schedule 0 2
unfolding terms
no_a_2 = record { replayed = refl; modelled = refl }
