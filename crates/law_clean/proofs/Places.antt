-- The edges in which intervals begin and are left, and those of the items in them.
use Rattle.law_clean.proofs.PastWords.{left_in}
use Rattle.law_clean.specs.Pasts.{left_edge}
use Rattle.law_flow.proofs.Edges.Back.Walks.{map_at}
use Rattle.law_flow.proofs.Edges.LogPlaces.EdgePlaces.{first_edge_is}
use Rattle.law_flow.proofs.Edges.PartItems.{item_at, item_if}
use Rattle.law_flow.proofs.Edges.Spans.Facts.{OpensAt, at, count_to}
use Rattle.ppd_model.specs.declared.entry.Entry.{Entry}
use Rattle.ppd_model.specs.declared.entry.Entry.TheVariants as entry
use Rattle.ppd_graph.proofs.FlowWords.{begins_in}
use Rattle.ppd_graph.specs.Ends.{first_edge, syncs_before}
use Rattle.ppd_graph.specs.Seen.{seen_of}
use Rattle.ppd_model.proofs.Changes.{length-change, some}
use Rattle.ppd_model.proofs.EdgeWords.{part_in}
use Rattle.ppd_model.proofs.ExtentWords.{Extending, extend, begun_extents, ended_by, left_by}
use Rattle.ppd_model.proofs.Extents.{extents_match}
use Rattle.ppd_model.specs.Extents.{Extent, extents}
use Rattle.ppd_model.specs.FlowbackEdges.{part_at}
use Rattle.ppd_model.specs.Intervals.{Part, Span, Split, items_of}
use Rattle.ppd_model.specs.Items.{HasWholeItems}
use Rattle.ppd_model.specs.RecordedSets.{sync_in}
use Rattle.ppd_model.specs.Synchronizations.{Sync}
use Rattle.ppd_model.specs.World.{change}
use Rattle.ppd_model.specs.declared.flow.Item.{Item}
use Rattle.ppd_model.specs.declared.trace.TracedEvent.{TracedEvent}
use Rattle.std.proofs.Common.{Bool, List, None, Option, Some, [], ap, arith, false, get_or, if◌then◌else◌, inl, inr, length, length-append, map, refl, subst, suc, sym, true, true≢false, zero, ℕ, ◌++◌, ◌+◌, ◌<◌, ◌∙◌, ◌∷◌, ◌≡◌, ◌≤◌}
use Rattle.std.proofs.lemmas.Bool.{cases_lt}
use Rattle.std.proofs.lemmas.List.Sums.{fold-append}
use Rattle.std.proofs.lemmas.Option.{none-some}
use Rattle.std.specs.List.{cons_option}
use Rattle.std.specs.Prelude.{filter_map, fold, slice_get, take, unwrap_or}

-- ---- synchronizations before entries

pub syncs_more : (es : List Entry) (n m : ℕ) → n ≤ m → syncs_before es n ≤ syncs_before es m
syncs_more [] zero m le = omega arith
syncs_more [] (suc n) m le = omega arith
syncs_more (e ∷ es) zero m le = omega arith
syncs_more (e ∷ es) (suc n) zero le = absurd (omega (arith, le))
syncs_more (e ∷ es) (suc n) (suc m) le = by (sync_in e) (syncs_more es n m (omega (arith, le)))
  where
    by : (o : Option Sync) → syncs_before es n ≤ syncs_before es m → length (cons_option o (filter_map sync_in (take n es))) ≤ length (cons_option o (filter_map sync_in (take m es)))
    by None r = r
    by (Some s) r = omega (arith, r)

pub syncs_all : (es : List Entry) (n : ℕ) → syncs_before es n ≤ length (filter_map sync_in es)
syncs_all [] zero = omega arith
syncs_all [] (suc n) = omega arith
syncs_all (e ∷ es) zero = omega arith
syncs_all (e ∷ es) (suc n) = by (sync_in e) (syncs_all es n)
  where
    by : (o : Option Sync) → syncs_before es n ≤ length (filter_map sync_in es) → length (cons_option o (filter_map sync_in (take n es))) ≤ length (cons_option o (filter_map sync_in es))
    by None r = r
    by (Some s) r = omega (arith, r)

-- ---- intervals

-- an interval is not left before it begins
pub begun_left : (es : List Entry) (m : ℕ) → first_edge es m ≤ left_edge es m
begun_left es m = by (slice_get (extents es) m) refl
  where
    by_closed : (x : Extent) → slice_get (extents es) m ≡ Some x → (b : Bool) → x.closed ≡ b → syncs_before es x.prelog ≤ (if b then syncs_before es (unwrap_or x.last 0) else length (filter_map sync_in es))
    by_closed x is false c = syncs_all es x.prelog
    by_closed x is true c =
        let l = (extents_match es m x is).left c in
        let first = l.2.first in
        let last = l.2.last in
        subst (λ o. syncs_before es x.prelog ≤ syncs_before es (unwrap_or o 0)) (sym l.1) (syncs_more es x.prelog l.0 (omega (arith, first, last)))

    by : (o : Option Extent) → slice_get (extents es) m ≡ o → begins_in es (slice_get (extents es) m) ≤ left_in es (slice_get (extents es) m)
    by None is = subst (λ o. begins_in es o ≤ left_in es o) (sym is) (omega arith)
    by (Some x) is = subst (λ o. begins_in es o ≤ left_in es o) (sym is) (by_closed x is x.closed refl)

-- nor after the last edge
pub left_all : (es : List Entry) (m : ℕ) → left_edge es m ≤ length (filter_map sync_in es)
left_all es m = by (slice_get (extents es) m)
  where
    one : (x : Extent) (b : Bool) → (if b then syncs_before es (unwrap_or x.last 0) else length (filter_map sync_in es)) ≤ length (filter_map sync_in es)
    one x true = syncs_all es (unwrap_or x.last 0)
    one x false = omega arith

    by : (o : Option Extent) → left_in es o ≤ length (filter_map sync_in es)
    by None = omega arith
    by (Some x) = one x x.closed

-- as many intervals, or more
many_ended : (n : ℕ) (ks : List ℕ) (xs : List Extent) → length (ended_by n ks xs) ≡ length xs
many_ended n [] xs = refl
many_ended n (k ∷ ks) xs = many_ended n ks (change (λ x. record x { last = Some n }) k xs) ∙ length-change (λ x. record x { last = Some n }) k xs

many_left : (n : ℕ) (ks : List ℕ) (xs : List Extent) → length (left_by n ks xs) ≡ length xs
many_left n [] xs = refl
many_left n (k ∷ ks) xs = length-change (λ x. record x { last = Some n; closed = true }) k xs

many_step : (x : Extending) (e : Entry) → length x.intervals ≤ length (extend x e).intervals
many_step x (entry.Prelog b vs) =
    let sum = length-append x.intervals ((record { block = b; parent = slice_get x.running 0; prelog = x.entry; last = None; closed = false }) ∷ []) in
    omega (arith, sum)
many_step x (entry.Postlog b vs) = let e = many_left x.entry x.running x.intervals in omega (arith, e)
many_step x (entry.End s n rs ws) = let e = many_ended x.entry x.running x.intervals in omega (arith, e)
many_step x (entry.Unit u vs) = omega arith
many_step x (entry.Sync k o n v rs ws) = omega arith

many_more : (es : List Entry) (x : Extending) → length x.intervals ≤ length (fold extend x es).intervals
many_more [] x = omega arith
many_more (e ∷ es) x = let a = many_step x e in let b = many_more es (extend x e) in omega (arith, a, b)

front_of : (a b c d : List Entry) → a ++ b ≡ c ++ d → length c ≤ length a → (e : List Entry) × (a ≡ c ++ e)
front_of a b [] d e le = (a, refl)
front_of [] b (x ∷ c) d e le = absurd (omega (arith, le))
front_of (y ∷ a) b (x ∷ c) d e le =
    let head : y ≡ x = some (ap (λ (l : List Entry). slice_get l 0) e) in
    let r = front_of a b c d (ap (λ (l : List Entry). elim l [ [] ↦ [] | z ∷ zs ↦ zs ]) e) (omega (arith, le)) in
    (r.0, ap (λ z. z ∷ a) head ∙ ap (λ l. x ∷ l) r.1)

-- an interval with a greater number begins later
pub begun_later : (es : List Entry) (events : List TracedEvent) (k m f g : ℕ) → OpensAt es events k f → OpensAt es events m g → k < m → first_edge es k ≤ first_edge es m
begun_later es events k m f g a b lt =
    let one : first_edge es k ≡ length (filter_map sync_in a.before) = first_edge_is es events k f a ∙ sym a.count in
    let two : first_edge es m ≡ length (filter_map sync_in b.before) = first_edge_is es events m g b ∙ sym b.count in
    elim (cases_lt (length a.before) (length b.before)) [
      | inl less ↦
          let r = front_of b.before (entry.Prelog b.block b.values ∷ b.after) a.before (entry.Prelog a.block a.values ∷ a.after) (sym b.entries_are ∙ a.entries_are) (omega (arith, less)) in
          let up = front_syncs a.before r.0 in
          let same : length (filter_map sync_in b.before) ≡ length (filter_map sync_in (a.before ++ r.0)) = ap (λ l. length (filter_map sync_in l)) r.1 in
          omega (arith, one, two, up, same)
      | inr more ↦
          let r = front_of a.before (entry.Prelog a.block a.values ∷ a.after) b.before (entry.Prelog b.block b.values ∷ b.after) (sym a.entries_are ∙ b.entries_are) (omega (arith, more)) in
          let up : length (at b.before).intervals ≤ length (fold extend (at b.before) r.0).intervals = many_more r.0 (at b.before) in
          let same : length (at a.before).intervals ≡ length (fold extend (at b.before) r.0).intervals = ap (λ l. length (at l).intervals) r.1 ∙ ap (λ (x : Extending). length x.intervals) (fold-append extend begun_extents b.before r.0) in
          let k_is = a.number in
          let m_is = b.number in
          absurd (omega (arith, up, same, k_is, m_is, lt))
    ]
  where
    front_syncs : (a c : List Entry) → length (filter_map sync_in a) ≤ length (filter_map sync_in (a ++ c))
    front_syncs [] c = omega arith
    front_syncs (x ∷ a) c = by (sync_in x) (front_syncs a c)
      where
        by : (o : Option Sync) → length (filter_map sync_in a) ≤ length (filter_map sync_in (a ++ c)) → length (cons_option o (filter_map sync_in a)) ≤ length (cons_option o (filter_map sync_in (a ++ c)))
        by None r = r
        by (Some s) r = omega (arith, r)

-- ---- events

pub count_all : (es : List TracedEvent) (n : ℕ) → count_to es n ≤ count_to es (length es)
count_all [] n = omega arith
count_all (e ∷ es) zero = omega arith
count_all (e ∷ es) (suc n) = let r = count_all es n in omega (arith, r)

-- ---- items

-- the item of a part that is there
pub item_there : (z : Split) (xs : List Split) (p k j : ℕ) (q : Part) → HasWholeItems xs z p → part_at z k j ≡ Some q
    → (t : Item) × (slice_get (get_or (seen_of z).items k []) j ≡ Some t) × (item_if z (Some q) ≡ Some t)
item_there z xs p k j q w place = by (slice_get z.spans k) refl place
  where
    by : (o : Option Span) → slice_get z.spans k ≡ o → part_in o j ≡ Some q → (t : Item) × (slice_get (get_or (seen_of z).items k []) j ≡ Some t) × (item_if z (Some q) ≡ Some t)
    by None is f = absurd (none-some q f)
    by (Some i) is f =
        let all : get_or (seen_of z).items k [] ≡ items_of z i = map_at (items_of z) z.spans k i [] is in
        let at_j : slice_get (items_of z i) j ≡ item_if z (slice_get i.parts j) = item_at z i.parts j (w.whole k i is) in
        let many : length (items_of z i) ≡ length i.parts = w.whole k i is in
        let lt : j < length i.parts = below i.parts j q f in
        let t = there (items_of z i) j (omega (arith, lt, many)) in
        (t.0, ap (λ l. slice_get l j) all ∙ t.1, sym (ap (item_if z) f) ∙ sym at_j ∙ t.1)
      where
        below : {A : Type 0} (l : List A) (n : ℕ) (x : A) → slice_get l n ≡ Some x → n < length l
        below [] n x e = absurd (none-some x e)
        below (y ∷ ys) zero x e = omega arith
        below (y ∷ ys) (suc n) x e = let r = below ys n x e in omega (arith, r)

        there : (l : List Item) (n : ℕ) → n < length l → (t : Item) × (slice_get l n ≡ Some t)
        there [] n lt = absurd (omega (arith, lt))
        there (y ∷ ys) zero lt = (y, refl)
        there (y ∷ ys) (suc n) lt = there ys n (omega (arith, lt))

pub no_item_there : (z : Split) (xs : List Split) (p k j : ℕ) → HasWholeItems xs z p → part_at z k j ≡ None → slice_get (get_or (seen_of z).items k []) j ≡ None
no_item_there z xs p k j w place = by (slice_get z.spans k) refl place
  where
    by : (o : Option Span) → slice_get z.spans k ≡ o → part_in o j ≡ None → slice_get (get_or (seen_of z).items k []) j ≡ None
    by None is f = ap (λ l. slice_get l j) (past z.spans k is)
      where
        past : (ss : List Span) (m : ℕ) → slice_get ss m ≡ None → get_or (map (items_of z) ss) m [] ≡ []
        past [] m e = refl
        past (s ∷ ss) zero e = absurd (none-some s (sym e))
        past (s ∷ ss) (suc m) e = past ss m e
    by (Some i) is f =
        ap (λ l. slice_get l j) (map_at (items_of z) z.spans k i [] is) ∙ item_at z i.parts j (w.whole k i is) ∙ ap (item_if z) f
