-- shared int a[2]; process p { a[0] = 1; } process q { a[1] = 2; }
use Rattle.ppd_model.specs.Setting.{setting_of}
use Rattle.std.proofs.Common.{refl}
use Rattle.std.specs.Prelude.{pos, [], ◌∷◌, None}
use Rattle.ppd_ast.specs.Term.{terms}
use Rattle.ppd_sem.specs.declared.event.Spot.TheVariants.{Shared}
use Rattle.ppd_model.specs.declared.flow.Item.TheVariants.{Own}
use Rattle.rows_programs.proofs.Runs.ArrayCells.{program, plan, schedule}
use Rattle.rows_programs.proofs.Runs.Tables.{access, event}
use Rattle.rows_programs.proofs.Replays.Showing.{IsReplayed, IsNoInterval}

pub p_0 : IsReplayed (setting_of program plan 100000) schedule 0 0 2 (Own (event 0 [] (access (Shared 0) (pos 1) ∷ []) None None None) ∷ Own (event 1 [] [] None None None) ∷ [])
unfolding terms
p_0 = record { replayed = refl; modelled = refl }

pub no_p_1 : IsNoInterval (setting_of program plan 100000) schedule 0 1
unfolding terms
no_p_1 = record { replayed = refl; modelled = refl }

pub q_0 : IsReplayed (setting_of program plan 100000) schedule 1 0 2 (Own (event 2 [] (access (Shared 1) (pos 2) ∷ []) None None None) ∷ Own (event 3 [] [] None None None) ∷ [])
unfolding terms
q_0 = record { replayed = refl; modelled = refl }

pub no_q_1 : IsNoInterval (setting_of program plan 100000) schedule 1 1
unfolding terms
no_q_1 = record { replayed = refl; modelled = refl }
