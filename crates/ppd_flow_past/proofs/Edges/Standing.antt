-- Where intervals begin and end, as the index of a past has them.
use Rattle.std.proofs.Common.{◌≡◌, ℕ, ◌+◌, ◌-◌, ◌<◌, Bool, false, ◌&&◌, List, Option, Some, None, refl, ap, sym, ◌∙◌, drop, length}
use Rattle.std.specs.Prelude.{nat_le, nat_lt, option_map, slice_get, if◌then◌else◌, get_or, []}
use Rattle.std.proofs.lemmas.List.{length-map}
use Rattle.ppd_model.specs.declared.entry.Entry.{Entry}
use Rattle.ppd_emul.specs.Interval.{Interval}
use Rattle.ppd_emul.specs.Row.{Row}
use Rattle.ppd_emul.specs.Indexes.{IsIndexOf, interval_of, rows_at}
use Rattle.ppd_emul.specs.Tables.{extent_of}
use Rattle.ppd_model.specs.Extents.{Extent, extents}
use Rattle.ppd_model.proofs.Lists.{left_from}
use Rattle.ppd_flow_past.specs.declared.past.Past.{Past}
use Rattle.ppd_flow_past.proofs.Outward.{extent_at, rows_are}
use Rattle.ppd_flow_past.specs.Edges.Found.{stands_there}
use Rattle.ppd_graph.specs.Ends.{first_edge, innermost_from, syncs_before, syncs_inside}
use Rattle.ppd_graph.proofs.FlowWords.{begins_in}
use Rattle.ppd_ast.proofs.ValidLaws.{slice_get_there}

abbrev first_or : List Entry → Option Interval → ℕ
first_or entries None = 0
first_or entries (Some i) = syncs_before entries i.first

abbrev inside_or : List Entry → Option Interval → ℕ
inside_or entries None = 0
inside_or entries (Some i) = syncs_before entries i.last - syncs_before entries i.first

abbrev stands_or : ℕ → Option Interval → Bool
stands_or n None = false
stands_or n (Some i) = nat_lt i.first n && nat_le n i.last

first_by : (entries : List Entry) (o : Option Row)
    → begins_in entries (option_map extent_of o) ≡ first_or entries (option_map interval_of o)
first_by entries None = refl
first_by entries (Some r) = refl

inside_by : (entries : List Entry) (o : Option Row)
    → syncs_inside entries (option_map extent_of o) ≡ inside_or entries (option_map interval_of o)
inside_by entries None = refl
inside_by entries (Some r) = refl

stands_by : (n : ℕ) (o : Option Row) → stands_there n (option_map extent_of o) ≡ stands_or n (option_map interval_of o)
stands_by n None = refl
stands_by n (Some r) = refl

module _ (past : Past) (p k : ℕ) (h : IsIndexOf past.plan.now past.logs.now past.index.now.tables) where
  abbrev entries : List Entry
  entries = get_or past.logs.now.lists p []

  pub first_is : (o : Option Interval) → o ≡ option_map interval_of (slice_get (rows_at past.index.now.tables p) k)
      → first_or entries o ≡ first_edge entries k
  first_is o e =
      ap (first_or entries) e ∙ sym (first_by entries (slice_get (rows_at past.index.now.tables p) k))
      ∙ ap (begins_in entries) (sym (extent_at past.plan.now past.logs.now past.index.now.tables p k h))

  pub inside_is : (o : Option Interval) → o ≡ option_map interval_of (slice_get (rows_at past.index.now.tables p) k)
      → inside_or entries o ≡ syncs_inside entries (slice_get (extents entries) k)
  inside_is o e =
      ap (inside_or entries) e ∙ sym (inside_by entries (slice_get (rows_at past.index.now.tables p) k))
      ∙ ap (syncs_inside entries) (sym (extent_at past.plan.now past.logs.now past.index.now.tables p k h))

  pub stands_is : (n : ℕ) (o : Option Interval)
      → o ≡ option_map interval_of (slice_get (rows_at past.index.now.tables p) k)
      → stands_or n o ≡ stands_there n (slice_get (extents entries) k)
  stands_is n o e =
      ap (stands_or n) e ∙ sym (stands_by n (slice_get (rows_at past.index.now.tables p) k))
      ∙ ap (stands_there n) (sym (extent_at past.plan.now past.logs.now past.index.now.tables p k h))

-- ---- loops over lists

pub innermost_next : (n m k : ℕ) (xs : List Extent) (b : Bool) → k < length xs → b ≡ stands_there n (slice_get xs k)
    → innermost_from n m k (drop k xs) ≡ innermost_from n (if b then k else m) (k + 1) (drop (k + 1) xs)
innermost_next n m k xs b lt h =
    let there = slice_get_there xs k lt in
    ap (innermost_from n m k) (left_from xs k there.0 there.1)
    ∙ ap (λ c. innermost_from n (if c then k else m) (k + 1) (drop (k + 1) xs)) (sym (h ∙ ap (stands_there n) there.1))

pub extents_count : (past : Past) (p : ℕ) → IsIndexOf past.plan.now past.logs.now past.index.now.tables
    → length (extents (get_or past.logs.now.lists p [])) ≡ length (rows_at past.index.now.tables p)
extents_count past p h =
    ap length (sym (rows_are past.plan.now past.index.now.tables past.logs.now.lists p h))
    ∙ length-map (rows_at past.index.now.tables p) extent_of
