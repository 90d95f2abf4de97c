-- shared int x, y; sem s; void f() { x = 4; } process a { f(); V(s); y = 1; print(x); }
use Rattle.ppd_model.specs.Setting.{setting_of}
use Rattle.std.proofs.Common.{refl}
use Rattle.std.specs.Prelude.{pos, true, [], ◌∷◌, Some, None}
use Rattle.ppd_ast.specs.Term.{terms}
use Rattle.ppd_sem.specs.declared.event.Spot.TheVariants.{Shared}
use Rattle.ppd_model.specs.declared.flow.Item.TheVariants.{Own, Nested}
use Rattle.rows_programs.proofs.Runs.NearByEdge.{program, plan, schedule}
use Rattle.rows_programs.proofs.Runs.Tables.{access, event, quiet}
use Rattle.rows_programs.proofs.Replays.Showing.{IsReplayed, IsNoInterval}

pub a_0 : IsReplayed (setting_of program plan 100000) schedule 0 0 6 (Own (quiet 2) ∷ Nested 1 0 [] true ∷ Own (event 3 [] [] None (Some 1) None) ∷ Own (event 4 [] (access (Shared 1) (pos 1) ∷ []) None None None) ∷ Own (event 5 (access (Shared 0) (pos 4) ∷ []) [] (Some (pos 4)) None None) ∷ Own (quiet 6) ∷ [])
unfolding terms
a_0 = record { replayed = refl; modelled = refl }

pub a_1 : IsReplayed (setting_of program plan 100000) schedule 0 1 2 (Own (event 0 [] (access (Shared 0) (pos 4) ∷ []) None None None) ∷ Own (quiet 1) ∷ [])
unfolding terms
a_1 = record { replayed = refl; modelled = refl }

pub no_a_2 : IsNoInterval (setting_of program plan 100000) schedule 0 2
unfolding terms
no_a_2 = record { replayed = refl; modelled = refl }
