-- shared int x; chan c[0]; process a { send(c, 7); x = 2; } process b { int v; print(x); v = recv(c); }
use Rattle.ppd_model.specs.Setting.{setting_of}
use Rattle.std.proofs.Common.{refl}
use Rattle.std.specs.Prelude.{pos, [], ◌∷◌, Some, None}
use Rattle.ppd_ast.specs.Term.{terms}
use Rattle.ppd_sem.specs.declared.event.Spot.TheVariants.{Local, Shared}
use Rattle.ppd_model.specs.declared.flow.Item.TheVariants.{Own}
use Rattle.rows_programs.proofs.Runs.RendezvousOrder.{program, plan, schedule}
use Rattle.rows_programs.proofs.Runs.Tables.{access, event, quiet}
use Rattle.rows_programs.proofs.Replays.Showing.{IsReplayed, IsNoInterval}

-- offer and completion are two steps
pub a_0 : IsReplayed (setting_of program plan 100000) schedule 0 0 4
    (Own (event 0 [] [] (Some (pos 7)) (Some 1) None)
    ∷ Own (event 0 [] [] None (Some 1) None)
    ∷ Own (event 1 [] (access (Shared 0) (pos 2) ∷ []) None None None)
    ∷ Own (quiet 2) ∷ [])
unfolding terms
a_0 = record { replayed = refl; modelled = refl }

pub no_a_1 : IsNoInterval (setting_of program plan 100000) schedule 0 1
unfolding terms
no_a_1 = record { replayed = refl; modelled = refl }

pub b_0 : IsReplayed (setting_of program plan 100000) schedule 1 0 5
    (Own (event 3 [] (access (Local 0 0) (pos 0) ∷ []) None None None)
    ∷ Own (event 4 (access (Shared 0) (pos 0) ∷ []) [] (Some (pos 0)) None None)
    ∷ Own (event 5 [] (access (Local 0 0) (pos 7) ∷ []) None (Some 1) None)
    ∷ Own (quiet 6) ∷ [])
unfolding terms
b_0 = record { replayed = refl; modelled = refl }

pub no_b_1 : IsNoInterval (setting_of program plan 100000) schedule 1 1
unfolding terms
no_b_1 = record { replayed = refl; modelled = refl }
