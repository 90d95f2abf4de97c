-- The intervals of logs, as their index has them.
use Rattle.std.proofs.Common.{◌≡◌, ℕ, zero, suc, List, [], ◌∷◌, length, map, get_or, refl, ap, sym, ◌∙◌}
use Rattle.std.proofs.lemmas.List.{length-map}
use Rattle.ppd_ast.specs.declared.plan.Plan.{Plan}
use Rattle.ppd_model.specs.declared.entry.Entry.{Entry}
use Rattle.ppd_model.specs.declared.entry.Logs.{Logs}
use Rattle.ppd_index.specs.declared.row.Row.{Row}
use Rattle.ppd_index.specs.Indexes.{AreIntervals, IsIndexOf, rows_at}
use Rattle.ppd_index.specs.Tables.{extent_of}
use Rattle.ppd_model.specs.Bounds.{AreEach}
use Rattle.ppd_model.specs.Extents.{extents}
use Rattle.ppd_session.specs.Known.{Interval, of_extent}
use Rattle.ppd_session.specs.Rows.{of_row}

abbrev shown : List Entry → List Interval
shown entries = map of_extent (extents entries)

row_shown : (rows : List Row) → map of_row rows ≡ map of_extent (map extent_of rows)
row_shown [] = refl
row_shown (r ∷ rows) = ap (λ w. of_row r ∷ w) (row_shown rows)

each_shown : (plan : Plan) (tables : List (List Row)) (lists : List (List Entry)) (q : ℕ) → AreEach (AreIntervals plan) tables lists → map of_row (get_or tables q []) ≡ get_or (map shown lists) q []
each_shown plan [] [] q h = refl
each_shown plan [] (es ∷ lists) q h = absurd h
each_shown plan (r ∷ tables) [] q h = absurd h
each_shown plan (r ∷ tables) (es ∷ lists) zero h = row_shown r ∙ ap (map of_extent) h.0.extents_are
each_shown plan (r ∷ tables) (es ∷ lists) (suc q) h = each_shown plan tables lists q h.1

module _ (plan : Plan) (logs : Logs) (tables : List (List Row)) (q : ℕ) (h : IsIndexOf plan logs tables) where
  pub intervals_are : map of_row (rows_at tables q) ≡ get_or (map (λ (entries : List Entry). map of_extent (extents entries)) logs.lists) q []
  intervals_are = each_shown plan tables logs.lists q h

  pub count_is : length (rows_at tables q) ≡ length (get_or (map (λ (entries : List Entry). map of_extent (extents entries)) logs.lists) q [])
  count_is = sym (length-map (rows_at tables q) of_row) ∙ ap length intervals_are
