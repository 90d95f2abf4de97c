-- shared int x, y; sem s = 1; process p { P(s); if (y) { print(x); } } process q { x = 5; }
use Rattle.ppd_model.specs.Setting.{setting_of}
use Rattle.std.proofs.Common.{refl}
use Rattle.std.specs.Prelude.{pos, [], ◌∷◌, Some, None}
use Rattle.ppd_ast.specs.Term.{terms}
use Rattle.ppd_sem.specs.declared.event.Spot.TheVariants.{Shared}
use Rattle.ppd_model.specs.declared.flow.Item.TheVariants.{Own}
use Rattle.rows_programs.proofs.Runs.UnreadSnapshot.{program, plan, first, second}
use Rattle.rows_programs.proofs.Runs.Tables.{access, event}
use Rattle.rows_programs.proofs.Replays.Showing.{IsReplayed, IsNoInterval}

pub p_0_first : IsReplayed (setting_of program plan 100000) first 0 0 4 (Own (event 0 [] [] None (Some 1) None) ∷ Own (event 1 (access (Shared 1) (pos 0) ∷ []) [] (Some (pos 0)) None None) ∷ Own (event 3 [] [] None None None) ∷ [])
unfolding terms
p_0_first = record { replayed = refl; modelled = refl }

pub no_p_1_first : IsNoInterval (setting_of program plan 100000) first 0 1
unfolding terms
no_p_1_first = record { replayed = refl; modelled = refl }

pub q_0_first : IsReplayed (setting_of program plan 100000) first 1 0 2 (Own (event 4 [] (access (Shared 0) (pos 5) ∷ []) None None None) ∷ Own (event 5 [] [] None None None) ∷ [])
unfolding terms
q_0_first = record { replayed = refl; modelled = refl }

pub no_q_1_first : IsNoInterval (setting_of program plan 100000) first 1 1
unfolding terms
no_q_1_first = record { replayed = refl; modelled = refl }

pub p_0_second : IsReplayed (setting_of program plan 100000) second 0 0 4 (Own (event 0 [] [] None (Some 1) None) ∷ Own (event 1 (access (Shared 1) (pos 0) ∷ []) [] (Some (pos 0)) None None) ∷ Own (event 3 [] [] None None None) ∷ [])
unfolding terms
p_0_second = record { replayed = refl; modelled = refl }

pub no_p_1_second : IsNoInterval (setting_of program plan 100000) second 0 1
unfolding terms
no_p_1_second = record { replayed = refl; modelled = refl }

pub q_0_second : IsReplayed (setting_of program plan 100000) second 1 0 2 (Own (event 4 [] (access (Shared 0) (pos 5) ∷ []) None None None) ∷ Own (event 5 [] [] None None None) ∷ [])
unfolding terms
q_0_second = record { replayed = refl; modelled = refl }

pub no_q_1_second : IsNoInterval (setting_of program plan 100000) second 1 1
unfolding terms
no_q_1_second = record { replayed = refl; modelled = refl }
