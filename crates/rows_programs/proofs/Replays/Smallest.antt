-- shared int x; process a { x = 2; print(x + 3); }
use Rattle.ppd_model.specs.Setting.{setting_of}
use Rattle.std.proofs.Common.{refl}
use Rattle.std.specs.Prelude.{pos, [], ◌∷◌, Some, None}
use Rattle.ppd_ast.specs.Term.{terms}
use Rattle.ppd_sem.specs.declared.event.Spot.TheVariants.{Shared}
use Rattle.ppd_model.specs.declared.flow.Item.TheVariants.{Own}
use Rattle.rows_programs.proofs.Runs.Smallest.{program, plan, schedule}
use Rattle.rows_programs.proofs.Runs.Tables.{access, event}
use Rattle.rows_programs.proofs.Replays.Showing.{IsReplayed, IsNoInterval}

pub a_0 : IsReplayed (setting_of program plan 100000) schedule 0 0 4 (Own (event 0 [] (access (Shared 0) (pos 2) ∷ []) None None None) ∷ Own (event 1 (access (Shared 0) (pos 2) ∷ []) [] (Some (pos 5)) None None) ∷ Own (event 2 [] [] None None None) ∷ [])
unfolding terms
a_0 = record { replayed = refl; modelled = refl }

pub no_a_1 : IsNoInterval (setting_of program plan 100000) schedule 0 1
unfolding terms
no_a_1 = record { replayed = refl; modelled = refl }
