-- The edge in which an interval is left, as the index of a past has it.
use Rattle.std.proofs.Common.{◌≡◌, ℕ, zero, suc, List, [], ◌∷◌, Option, Some, None, refl, ap, sym, ◌∙◌, get_or, length, map, if◌then◌else◌}
use Rattle.std.specs.Prelude.{filter_map, option_map, slice_get, unwrap_or}
use Rattle.law_clean.specs.Pasts.{left_edge}
use Rattle.ppd_clean.specs.ByOrder.{left_at}
use Rattle.ppd_model.specs.declared.entry.Entry.{Entry}
use Rattle.ppd_model.specs.declared.entry.Logs.{Logs}
use Rattle.ppd_graph.specs.Ends.{syncs_before}
use Rattle.ppd_flow_past.specs.declared.past.Past.{Past}
use Rattle.ppd_flow_past.proofs.Outward.{extent_at}
use Rattle.ppd_index.specs.declared.interval.Interval.{Interval}
use Rattle.ppd_index.specs.declared.row.Row.{Row}
use Rattle.ppd_index.specs.Indexes.{IsIndexOf, interval_of, rows_at}
use Rattle.ppd_index.specs.Tables.{extent_of}
use Rattle.ppd_model.specs.RecordedSets.{sync_in}
use Rattle.law_clean.proofs.PastWords.{left_in}

syncs_at : (lists : List (List Entry)) (p : ℕ) → length (get_or (map (filter_map sync_in) lists) p []) ≡ length (filter_map sync_in (get_or lists p []))
syncs_at [] p = refl
syncs_at (es ∷ lists) zero = refl
syncs_at (es ∷ lists) (suc p) = syncs_at lists p

abbrev left_or : Logs → ℕ → Option Interval → ℕ
left_or logs p None = 0
left_or logs p (Some i) = left_at logs p i

left_by : (logs : Logs) (p : ℕ) (o : Option Row) → left_in (get_or logs.lists p []) (option_map extent_of o) ≡ left_or logs p (option_map interval_of o)
left_by logs p None = refl
left_by logs p (Some r) = ap (λ n. if r.closed then syncs_before (get_or logs.lists p []) (unwrap_or r.last 0) else n) (sym (syncs_at logs.lists p))

module _ (past : Past) (p k : ℕ) (h : IsIndexOf past.plan.now past.logs.now past.index.now.tables) where
  pub left_is : (o : Option Interval) → o ≡ option_map interval_of (slice_get (rows_at past.index.now.tables p) k)
      → left_or past.logs.now p o ≡ left_edge (get_or past.logs.now.lists p []) k
  left_is o e =
      ap (left_or past.logs.now p) e ∙ sym (left_by past.logs.now p (slice_get (rows_at past.index.now.tables p) k))
      ∙ ap (left_in (get_or past.logs.now.lists p [])) (sym (extent_at past.plan.now past.logs.now past.index.now.tables p k h))
