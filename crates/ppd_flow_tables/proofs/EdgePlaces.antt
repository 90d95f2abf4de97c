-- What is looked up in the tables.
use Rattle.std.proofs.Common.{◌≡◌, ℕ, ◌+◌, ◌<◌, ◌≤◌, Bool, false, ◌&&◌, List, [], ◌∷◌, ◌++◌, Option, ap, ap₂, subst, sym, inl, inr, ◌∙◌, arith, get_or, length, take}
use Rattle.ppd_model.specs.Extents.{extents}
use Rattle.std.specs.Prelude.{nat_eq, slice_get, sum_by, unwrap_or}
use Rattle.std.proofs.lemmas.Bool.{cases_lt}
use Rattle.std.proofs.lemmas.List.{get_or_append_left, get_or_push, take_all, take_more}
use Rattle.std.proofs.lemmas.List.Sums.{sum_by_more, sum_by_push}
use Rattle.ppd_model.specs.declared.entry.Entry.{Entry}
use Rattle.ppd_model.specs.declared.flow.Item.{Item}
use Rattle.ppd_graph.specs.Ends.{ending, ends_edge, first_edge, is_sync_item, sync_item, syncs_before, syncs_of_item, innermost_from}
use Rattle.ppd_graph.specs.Seen.{place_of}
use Rattle.ppd_flow_tables.specs.declared.edge_table.EdgeTable.{EdgeTable}
use Rattle.ppd_flow_tables.specs.declared.marks.Mark.{Mark}
use Rattle.ppd_flow_tables.specs.declared.marks.Mark.TheVariants as mark
use Rattle.ppd_flow_tables.specs.declared.place_table.PlaceTable.{PlaceTable}
use Rattle.ppd_model.proofs.Lists.{get_or_any}
use Rattle.ppd_flow_tables.specs.Counts.{AreCounts}
use Rattle.ppd_flow_tables.specs.Listed.{IsFirstUnder}
use Rattle.ppd_flow_tables.specs.Tables.{IsEdgeTable, IsPlaceTable, edge_of, ends_there, is_marked, is_under, passes}
use Rattle.ppd_flow_tables.proofs.First.{ending_is, ending_within, first_same, first_where, first_within, place_is, sync_item_is, syncs_there}
use Rattle.ppd_flow_tables.proofs.Marked.{none_passes, one_passes}

-- ---- edges

module _ (entries : List Entry) (t : EdgeTable) (h : IsEdgeTable entries t) where
  none_ends : (i j : ℕ) → length entries ≤ j → ends_there entries i j ≡ false
  none_ends i j le = none_passes (λ e. ends_edge e && nat_eq i (syncs_before entries j)) entries j le

  pub ending_found : (i : ℕ) (o : Option ℕ) → IsFirstUnder t.ends.keys i o → unwrap_or o t.count ≡ ending i entries
  ending_found i o found =
      ap (unwrap_or o) h.count
      ∙ sym (ending_is entries i (unwrap_or o (length entries))
      (first_where (ends_there entries) t.ends.keys (length entries) i h.ends h.few (none_ends i) o found))

  pub innermost_found : (i n : ℕ) → n ≡ ending i entries
      → get_or t.innermost n 0 ≡ innermost_from (ending i entries) 0 0 (extents entries)
  innermost_found i n e =
      ap (λ m. get_or t.innermost m 0) e ∙ h.innermost (ending i entries) (ending_within i entries)

-- ---- places

module _ (entries : List Entry) (k : ℕ) (items : List Item) (t : PlaceTable) (h : IsPlaceTable entries k items t) where
  pub edge_found : (j : ℕ) → j < t.count → get_or t.edges j 0 ≡ edge_of entries k items j
  edge_found j lt = let count = h.count in h.edges.are j (omega (arith, lt, count))

  pub edge_past : (j : ℕ) → t.count ≤ j → get_or t.edges t.count 0 ≡ edge_of entries k items j
  edge_past j le =
      let count = h.count in
      h.edges.are t.count (omega (arith, count))
      ∙ ap (λ (ts : List Item). first_edge entries k + sum_by (syncs_of_item entries) ts)
      (take_all t.count items (omega (arith, count)) ∙ sym (take_all j items (omega (arith, le, count))))

  pub none_marked : (m : Mark) (n j : ℕ) → length items ≤ j → is_marked m t.edges items n j ≡ false
  none_marked m n j le = none_passes (is_under m (get_or t.edges j 0) n) items j le

  pub sync_found : (i : ℕ) (o : Option ℕ) → IsFirstUnder t.syncs.keys i o
      → unwrap_or o t.count ≡ sync_item entries i (first_edge entries k) items
  sync_found i o found =
      ap (unwrap_or o) h.count
      ∙ sym (sync_item_is entries i items (first_edge entries k) (unwrap_or o (length items))
      (first_same (is_marked mark.Sync t.edges items i) (syncs_there entries i (first_edge entries k) items)
      (length items)
      (unwrap_or o (length items))
      (λ j lt. ap (λ e. passes (λ x. is_sync_item x && nat_eq i e) (slice_get items j))
      (sym (h.edges.are j (omega (arith, lt)))))
      (first_where (is_marked mark.Sync t.edges items) t.syncs.keys (length items) i h.syncs h.few
      (none_marked mark.Sync i) o found)))

  pub place_found : (m : ℕ) (o : Option ℕ) → IsFirstUnder t.inner.keys m o → unwrap_or o 0 ≡ place_of m items
  place_found m o found =
      place_is m items o
      (first_where (is_marked mark.Inner t.edges items) t.inner.keys (length items) m h.inner h.few
      (none_marked mark.Inner m) o found)
      (first_within (is_marked mark.Inner t.edges items) t.inner.keys (length items) m h.inner
      (none_marked mark.Inner m) o found)

-- ---- the edges of places

edge_suc : (entries : List Entry) (k : ℕ) (items : List Item) (j : ℕ) (d t : Item) → j < length items
    → t ≡ get_or items j d → edge_of entries k items (j + 1) ≡ edge_of entries k items j + syncs_of_item entries t
edge_suc entries k items j d t lt is =
    let f = syncs_of_item entries in
    let more : sum_by f (take (j + 1) items) ≡ sum_by f (take j items) + f t =
    ap (sum_by f) (take_more items j d lt ∙ ap (λ x. take j items ++ x ∷ []) (sym is))
    ∙ sum_by_push f (take j items) t in
    omega (arith, more)

pub edge_more : (entries : List Entry) (k : ℕ) (items : List Item) (j : ℕ) (d t : Item) (edge edge' syncs : ℕ)
    → j < length items → t ≡ get_or items j d → edge ≡ edge_of entries k items j → syncs ≡ syncs_of_item entries t
    → edge' ≡ edge + syncs → edge' ≡ edge_of entries k items (j + 1)
edge_more entries k items j d t edge edge' syncs lt is now counted sum =
    sum ∙ ap₂ (λ a b. a + b) now counted ∙ sym (edge_suc entries k items j d t lt is)

pub edge_none : (entries : List Entry) (k : ℕ) (items : List Item) (edge : ℕ) → edge ≡ first_edge entries k
    → edge ≡ edge_of entries k items 0
edge_none entries k items edge e = omega (arith, e)

-- ---- what is listed

pub mark_more : (m : Mark) (edges : List ℕ) (items : List Item) (place n d e : ℕ) (d' t : Item) → place < length items
    → place < length edges → e ≡ get_or edges place d → t ≡ get_or items place d'
    → is_under m e n t ≡ is_marked m edges items n place
mark_more m edges items place n d e d' t lt lt' is is' =
    ap (λ x. is_under m x n t) (is ∙ get_or_any edges place d 0 lt')
    ∙ one_passes (is_under m (get_or edges place 0) n) items place d' t lt is'

pub end_more : (entries : List Entry) (counts : List ℕ) (place n d c : ℕ) (d' e : Entry) (b : Bool) → AreCounts entries
    counts
    → place < length entries → c ≡ get_or counts place d → e ≡ get_or entries place d' → b ≡ ends_edge e
    → (b && nat_eq n c) ≡ ends_there entries n place
end_more entries counts place n d c d' e b are lt is is' ends =
    let long = are.long in
    ap₂ (λ x y. x && nat_eq n y) ends (is ∙ get_or_any counts place d 0 (omega (arith, lt, long)) ∙ are.are place
    (omega (arith, lt)))
    ∙ one_passes (λ x. ends_edge x && nat_eq n (syncs_before entries place)) entries place d' e lt is'

-- ---- the edges of an interval's places, one after another

sums_more : (first before now edge next syncs : ℕ) → edge ≡ first + before → next ≡ edge + syncs → now ≡ before + syncs
    → next ≡ first + now
sums_more first before now edge next syncs last sum more = omega (arith, last, sum, more)

module _ (entries : List Entry) (k : ℕ) (items : List Item) where
  -- the edge of the next place
  pub edge_next : (i edge next : ℕ) (x : Item) → i < length items → x ≡ get_or items i x
      → edge ≡ edge_of entries k items i → next ≡ edge + syncs_of_item entries x
      → next ≡ edge_of entries k items (i + 1)
  edge_next i edge next x lt is last sum =
      sums_more (first_edge entries k) (sum_by (syncs_of_item entries) (take i items))
      (sum_by (syncs_of_item entries) (take (i + 1) items)) edge next (syncs_of_item entries x) last sum
      (sum_by_more (syncs_of_item entries) items i x lt
      ∙ ap (λ (y : Item). sum_by (syncs_of_item entries) (take i items) + syncs_of_item entries y) (sym is))

  -- with it those of one more place
  pub edges_more : (i next : ℕ) (numbers : List ℕ) → length numbers ≡ i + 1
      → ((j : ℕ) → j < i + 1 → get_or numbers j 0 ≡ edge_of entries k items j)
      → next ≡ edge_of entries k items (i + 1)
      → (j : ℕ) → j < i + 1 + 1 → get_or (numbers ++ next ∷ []) j 0 ≡ edge_of entries k items j
  edges_more i next numbers long are is j lt = elim (cases_lt j (i + 1)) [
    | inl low ↦ get_or_append_left numbers (next ∷ []) 0 j (omega (arith, low, long)) ∙ are j low
    | inr up ↦
        let same : i + 1 ≡ j = omega (arith, up, lt) in
        subst (λ n. get_or (numbers ++ next ∷ []) n 0 ≡ edge_of entries k items n) same
        (get_or_push numbers next 0 (i + 1) long ∙ is)
  ]
