-- int f(int n) { int r; if (n > 0) { r = f(n - 1); } return r + 1; } process a { int v = f(64); print(v); }
use Rattle.ppd_model.specs.Setting.{setting_of}
use Rattle.std.proofs.Common.{refl}
use Rattle.std.specs.Prelude.{ℕ, pos, false, List, [], ◌∷◌, Some, None, replicate}
use Rattle.ppd_ast.specs.Term.{terms}
use Rattle.ppd_ast.specs.declared.status.Trap.TheVariants as trap
use Rattle.ppd_sem.specs.declared.event.Spot.TheVariants.{Local}
use Rattle.ppd_model.specs.declared.flow.Item.TheVariants.{Own, Nested}
use Rattle.rows_programs.proofs.Runs.Recursion.{deeper, plan}
use Rattle.rows_programs.proofs.Runs.Tables.{access, event}
use Rattle.rows_programs.proofs.Replays.Showing.{IsReplayed}

abbrev pub schedule : List ℕ
schedule = replicate 193 0

-- the interval of f(2), in which f(1) did not return
pub a_63 : IsReplayed (setting_of (deeper 64) plan 100000) schedule 0 63 3 (Own (event 0 [] (access (Local 0 1) (pos 0) ∷ []) None None None) ∷ Own (event 1 (access (Local 0 0) (pos 2) ∷ []) [] (Some (pos 1)) None None) ∷ Own (event 2 (access (Local 0 0) (pos 2) ∷ []) (access (Local 1 0) (pos 1) ∷ []) None None None) ∷ Nested 64 0 [] false ∷ [])
unfolding terms
a_63 = record { replayed = refl; modelled = refl }

-- the interval of f(1), whose call would be the 65th that is open: the depth comes from its log alone
pub a_64 : IsReplayed (setting_of (deeper 64) plan 100000) schedule 0 64 3 (Own (event 0 [] (access (Local 0 1) (pos 0) ∷ []) None None None) ∷ Own (event 1 (access (Local 0 0) (pos 1) ∷ []) [] (Some (pos 1)) None None) ∷ Own (event 2 (access (Local 0 0) (pos 1) ∷ []) [] None None (Some trap.Depth)) ∷ [])
unfolding terms
a_64 = record { replayed = refl; modelled = refl }
