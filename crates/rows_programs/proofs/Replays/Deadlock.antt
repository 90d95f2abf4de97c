-- sem s = 1, t = 1; process a { P(s); P(t); } process b { P(t); P(s); }
use Rattle.ppd_model.specs.Setting.{setting_of}
use Rattle.std.proofs.Common.{refl}
use Rattle.std.specs.Prelude.{[], ◌∷◌, Some, None}
use Rattle.ppd_ast.specs.Term.{terms}
use Rattle.ppd_model.specs.declared.flow.Item.TheVariants.{Own}
use Rattle.rows_programs.proofs.Runs.Deadlock.{program, plan, schedule}
use Rattle.rows_programs.proofs.Runs.Tables.{event}
use Rattle.rows_programs.proofs.Replays.Showing.{IsReplayed, IsNoInterval}

pub a_0 : IsReplayed (setting_of program plan 100000) schedule 0 0 1 (Own (event 0 [] [] None (Some 1) None) ∷ [])
unfolding terms
a_0 = record { replayed = refl; modelled = refl }

pub no_a_1 : IsNoInterval (setting_of program plan 100000) schedule 0 1
unfolding terms
no_a_1 = record { replayed = refl; modelled = refl }

pub b_0 : IsReplayed (setting_of program plan 100000) schedule 1 0 1 (Own (event 3 [] [] None (Some 1) None) ∷ [])
unfolding terms
b_0 = record { replayed = refl; modelled = refl }

pub no_b_1 : IsNoInterval (setting_of program plan 100000) schedule 1 1
unfolding terms
no_b_1 = record { replayed = refl; modelled = refl }
