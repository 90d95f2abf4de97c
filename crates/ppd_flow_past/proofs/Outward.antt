-- The block of an interval and the one round it, as the index of a past has them.
use Rattle.std.specs.Result.{result_unwrap_or}
use Rattle.std.proofs.Common.{◌≡◌, ℕ, zero, suc, List, [], ◌∷◌, Option, Some, None, refl, ap, sym, ◌∙◌, map, get_or, length}
use Rattle.std.specs.Prelude.{option_map, slice_get, unwrap_or}
use Rattle.std.proofs.lemmas.List.{length-map}
use Rattle.std.proofs.lemmas.Option.{slice_get-map, unwrap_or-slice_get}
use Rattle.ppd_ast.specs.declared.plan.Plan.{Plan}
use Rattle.ppd_model.specs.declared.entry.Entry.{Entry}
use Rattle.ppd_model.specs.IntervalLogs.{LoggedInterval, indexed, log_by}
use Rattle.ppd_model.specs.declared.entry.Logs.{Logs}
use Rattle.ppd_emul.specs.Replay.{replay}
use Rattle.ppd_emul.specs.Interval.{Interval}
use Rattle.ppd_emul.specs.Row.{Row}
use Rattle.ppd_emul.specs.Indexes.{AreIntervals, IsIndexOf, interval_of, rows_at}
use Rattle.ppd_emul.specs.Tables.{extent_of, log_of}
use Rattle.ppd_model.specs.Bounds.{AreEach}
use Rattle.ppd_model.specs.Extents.{Extent, extents}
use Rattle.ppd_flow_past.specs.declared.past.Past.{Past}
use Rattle.ppd_flow_past.specs.SeenBy.{seen_in, told_by}
use Rattle.ppd_flow_past.proofs.Parents.{first_round}

pub rows_are : (plan : Plan) (tables : List (List Row)) (lists : List (List Entry)) (p : ℕ)
    → AreEach (AreIntervals plan) tables lists
    → map extent_of (get_or tables p []) ≡ extents (get_or lists p [])
rows_are plan [] [] p h = refl
rows_are plan [] (es ∷ lists) p h = absurd h
rows_are plan (rows ∷ tables) [] p h = absurd h
rows_are plan (rows ∷ tables) (es ∷ lists) zero h = h.0.extents_are
rows_are plan (rows ∷ tables) (es ∷ lists) (suc p) h = rows_are plan tables lists p h.1

abbrev block_or : Option Interval → ℕ
block_or None = 0
block_or (Some i) = i.block

abbrev parent_or : Option Interval → Option ℕ
parent_or None = None
parent_or (Some i) = i.parent

block_by : (o : Option Row) → unwrap_or (option_map (λ (z : Extent). z.block) (option_map extent_of o)) 0
    ≡ block_or (option_map interval_of o)
block_by None = refl
block_by (Some r) = refl

parent_by : (o : Option Row) → unwrap_or (option_map (λ (z : Extent). z.parent) (option_map extent_of o)) None
    ≡ parent_or (option_map interval_of o)
parent_by None = refl
parent_by (Some r) = refl

-- the extents of an index's logs
module _ (plan : Plan) (logs : Logs) (tables : List (List Row)) (p k : ℕ) (h : IsIndexOf plan logs tables) where
  pub extent_at : slice_get (extents (get_or logs.lists p [])) k ≡ option_map extent_of (slice_get (rows_at tables p) k)
  extent_at =
      ap (λ (xs : List Extent). slice_get xs k) (sym (rows_are plan tables logs.lists p h))
      ∙ slice_get-map extent_of (rows_at tables p) k

module _ (past : Past) (p k : ℕ) (h : IsIndexOf past.plan.now past.cut.now past.cut_index.now.tables) where
  abbrev rows : List Row
  rows = rows_at past.cut_index.now.tables p

  abbrev all : List Extent
  all = extents (get_or past.cut.now.lists p [])

  pub block_is : (o : Option Interval) → o ≡ option_map interval_of (slice_get rows k)
      → block_or o ≡ get_or (seen_in past p).blocks k 0
  block_is o e =
      ap block_or e ∙ sym (block_by (slice_get rows k))
      ∙ ap (λ x. unwrap_or (option_map (λ (z : Extent). z.block) x) 0) (sym (extent_at past.plan.now past.cut.now past.cut_index.now.tables p k h))
      ∙ ap (λ x. unwrap_or x 0) (sym (slice_get-map (λ (z : Extent). z.block) all k))
      ∙ unwrap_or-slice_get (map (λ (z : Extent). z.block) all) k 0

  pub outer_is : (o : Option Interval) → o ≡ option_map interval_of (slice_get rows k)
      → parent_or o ≡ slice_get (get_or (seen_in past p).rounds k []) 0
  outer_is o e =
      ap parent_or e ∙ sym (parent_by (slice_get rows k))
      ∙ ap (λ x. unwrap_or (option_map (λ (z : Extent). z.parent) x) None) (sym (extent_at past.plan.now past.cut.now past.cut_index.now.tables p k h))
      ∙ ap (λ x. unwrap_or x None) (sym (slice_get-map (λ (z : Extent). z.parent) all k))
      ∙ sym (first_round (get_or past.cut.now.lists p []) k)

  -- as many as have items
  pub count_is : length rows ≡ length (seen_in past p).items
  count_is = sym (as_many past.plan.now past.cut_index.now.tables past.cut.now.lists p h)
      ∙ sym (length-map (indexed (get_or past.cut.now.lists p [])) (λ (i : LoggedInterval). result_unwrap_or (told_by (replay past.program.now past.plan.now (log_by past.plan.now i) past.budget).answer) []))
    where
      as_many : (plan : Plan) (tables : List (List Row)) (lists : List (List Entry)) (q : ℕ)
          → AreEach (AreIntervals plan) tables lists
          → length (indexed (get_or lists q [])) ≡ length (get_or tables q [])
      as_many plan [] [] q g = refl
      as_many plan [] (es ∷ lists) q g = absurd g
      as_many plan (rs ∷ tables) [] q g = absurd g
      as_many plan (rs ∷ tables) (es ∷ lists) zero g =
          sym (length-map (indexed es) (log_by plan)) ∙ sym (ap length g.0.logs_are) ∙ length-map rs (log_of es)
      as_many plan (rs ∷ tables) (es ∷ lists) (suc q) g = as_many plan tables lists q g.1
