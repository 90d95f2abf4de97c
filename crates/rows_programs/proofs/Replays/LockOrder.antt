-- shared int x; sem m = 1; process a { P(m); x = x + 1; V(m); } process b { P(m); x = x + 1; V(m); }
use Rattle.ppd_model.specs.Setting.{setting_of}
use Rattle.std.proofs.Common.{refl}
use Rattle.std.specs.Prelude.{pos, [], ◌∷◌, Some, None}
use Rattle.ppd_ast.specs.Term.{terms}
use Rattle.ppd_sem.specs.declared.event.Spot.TheVariants.{Shared}
use Rattle.ppd_model.specs.declared.flow.Item.TheVariants.{Own}
use Rattle.rows_programs.proofs.Runs.LockOrder.{program, plan, first, second}
use Rattle.rows_programs.proofs.Runs.Tables.{access, event}
use Rattle.rows_programs.proofs.Replays.Showing.{IsReplayed, IsNoInterval}

pub a_0_first : IsReplayed (setting_of program plan 100000) first 0 0 5 (Own (event 0 [] [] None (Some 1) None) ∷ Own (event 1 (access (Shared 0) (pos 0) ∷ []) (access (Shared 0) (pos 1) ∷ []) None None None) ∷ Own (event 2 [] [] None (Some 2) None) ∷ Own (event 3 [] [] None None None) ∷ [])
unfolding terms
a_0_first = record { replayed = refl; modelled = refl }

pub no_a_1_first : IsNoInterval (setting_of program plan 100000) first 0 1
unfolding terms
no_a_1_first = record { replayed = refl; modelled = refl }

pub b_0_first : IsReplayed (setting_of program plan 100000) first 1 0 5 (Own (event 4 [] [] None (Some 2) None) ∷ Own (event 5 (access (Shared 0) (pos 1) ∷ []) (access (Shared 0) (pos 2) ∷ []) None None None) ∷ Own (event 6 [] [] None (Some 3) None) ∷ Own (event 7 [] [] None None None) ∷ [])
unfolding terms
b_0_first = record { replayed = refl; modelled = refl }

pub no_b_1_first : IsNoInterval (setting_of program plan 100000) first 1 1
unfolding terms
no_b_1_first = record { replayed = refl; modelled = refl }

pub a_0_second : IsReplayed (setting_of program plan 100000) second 0 0 5 (Own (event 0 [] [] None (Some 2) None) ∷ Own (event 1 (access (Shared 0) (pos 1) ∷ []) (access (Shared 0) (pos 2) ∷ []) None None None) ∷ Own (event 2 [] [] None (Some 3) None) ∷ Own (event 3 [] [] None None None) ∷ [])
unfolding terms
a_0_second = record { replayed = refl; modelled = refl }

pub no_a_1_second : IsNoInterval (setting_of program plan 100000) second 0 1
unfolding terms
no_a_1_second = record { replayed = refl; modelled = refl }

pub b_0_second : IsReplayed (setting_of program plan 100000) second 1 0 5 (Own (event 4 [] [] None (Some 1) None) ∷ Own (event 5 (access (Shared 0) (pos 0) ∷ []) (access (Shared 0) (pos 1) ∷ []) None None None) ∷ Own (event 6 [] [] None (Some 2) None) ∷ Own (event 7 [] [] None None None) ∷ [])
unfolding terms
b_0_second = record { replayed = refl; modelled = refl }

pub no_b_1_second : IsNoInterval (setting_of program plan 100000) second 1 1
unfolding terms
no_b_1_second = record { replayed = refl; modelled = refl }
