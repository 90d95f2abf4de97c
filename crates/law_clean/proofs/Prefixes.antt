-- What a process has in its intervals after a beginning of a schedule is a beginning of what it has at the end: by the
-- whole log, the edges of its places, the places where its edges end, and the walks from its places are the same.
use Rattle.law_steps.specs.Policies.{setting_by}
use Rattle.ppd_model.specs.Setting.{setting_of}
use Rattle.law_clean.proofs.Items.{event_kept, part_kept, span_kept}
use Rattle.law_clean.proofs.Walks.{walk_equal}
use Rattle.law_flow.proofs.Edges.Back.Walks.{map_at}
use Rattle.law_flow.proofs.Edges.LogPlaces.EdgeEnds.{IsAt, at_place}
use Rattle.law_flow.proofs.Edges.PartItems.{first_of, item_at, item_if}
use Rattle.law_flow.proofs.Edges.StepEvents.Processes.{Facts, facts}
use Rattle.ppd_ast.proofs.ValidLaws.{slice_get_below, slice_get_there}
use Rattle.ppd_ast.specs.Valid.{IsValid}
use Rattle.ppd_ast.specs.declared.plan.Plan.{Plan}
use Rattle.ppd_ast.specs.declared.plan.Policy.{Policy}
use Rattle.ppd_ast.specs.declared.program.Program.{Program}
use Rattle.ppd_blocks.specs.Blocks.{plan_of}
use Rattle.ppd_model.specs.declared.entry.Entry.{Entry}
use Rattle.ppd_graph.specs.Ends.{edge_at, end_interval, end_item, first_edge, is_sync_item, sync_item, syncs_of_item}
use Rattle.ppd_graph.specs.Seen.{seen_of}
use Rattle.ppd_graph.specs.Walk.{walk}
use Rattle.ppd_model.proofs.Changes.{some}
use Rattle.ppd_model.proofs.EdgeWords.{part_in}
use Rattle.ppd_model.proofs.IntervalWords.{item_of_event, item_of_span}
use Rattle.ppd_model.proofs.Items.{items_whole}
use Rattle.ppd_model.specs.FlowbackEdges.{part_at}
use Rattle.ppd_model.specs.Intervals.{Part, Span, Split, items_of, nested, own, splits}
use Rattle.ppd_model.specs.Items.{HasWholeItems, IsReferred}
use Rattle.ppd_model.specs.Logs.{closed_logs}
use Rattle.ppd_model.specs.Story.{story}
use Rattle.ppd_model.specs.declared.flow.Item.{Item}
use Rattle.ppd_model.specs.declared.flow.Item.TheVariants as item
use Rattle.ppd_model.specs.declared.trace.TracedEvent.{TracedEvent}
use Rattle.std.proofs.Common.{Bool, List, None, Option, Some, [], ap, ap₂, arith, false, if◌then◌else◌, length, refl, subst, suc, sym, true, zero, ℕ, ◌&&◌, ◌++◌, ◌+◌, ◌<◌, ◌∙◌, ◌∷◌, ◌≡◌, ◌≤◌}
use Rattle.std.proofs.lemmas.Option.{none-some}
use Rattle.std.specs.Prelude.{fold, get_or, is_some, nat_eq, slice_get, sum_by, take, ⊤}

-- ---- items that look alike to the search for edges

module _ (entries : List Entry) where
  record IsLike (t u : Item) : Type 0 where
    pub syncs : syncs_of_item entries t ≡ syncs_of_item entries u
    pub is_sync : is_sync_item t ≡ is_sync_item u

  -- these items are, one by one, like the first of those
  abbrev Begins : List Item → List Item → Type 0
  Begins [] us = ⊤
  Begins (t ∷ ts) [] = ⊥
  Begins (t ∷ ts) (u ∷ us) = IsLike t u × Begins ts us

  begins_by : (ts us : List Item) → ((j : ℕ) (t : Item) → slice_get ts j ≡ Some t → (u : Item) × (slice_get us j ≡ Some u) × IsLike t u) → Begins ts us
  begins_by [] us f = tt
  begins_by (t ∷ ts) [] f = let r = f 0 t refl in none-some r.0 r.1
  begins_by (t ∷ ts) (u ∷ us) f =
      let r = f 0 t refl in
      (subst (IsLike t) (sym (some r.1)) r.2, begins_by ts us (λ j z e. f (suc j) z e))

  begins_fold : (j m n : ℕ) (ts us : List Item) → m ≡ n → Begins ts us → j ≤ length ts → fold (λ a t. a + syncs_of_item entries t) m (take j ts) ≡ fold (λ a t. a + syncs_of_item entries t) n (take j us)
  begins_fold zero m n ts us e b le = e
  begins_fold (suc j) m n [] us e b le = absurd (omega (arith, le))
  begins_fold (suc j) m n (t ∷ ts) [] e b le = absurd b
  begins_fold (suc j) m n (t ∷ ts) (u ∷ us) e b le = begins_fold j (m + syncs_of_item entries t) (n + syncs_of_item entries u) ts us (ap₂ (λ a c. a + c) e b.0.syncs) b.1 (omega (arith, le))

  begins_sum : (j : ℕ) (ts us : List Item) → Begins ts us → j ≤ length ts → sum_by (syncs_of_item entries) (take j ts) ≡ sum_by (syncs_of_item entries) (take j us)
  begins_sum j ts us b le = begins_fold j 0 0 ts us refl b le

  begins_sync : (i n : ℕ) (ts us : List Item) → Begins ts us → sync_item entries i n us < length ts → sync_item entries i n ts ≡ sync_item entries i n us
  begins_sync i n [] us b lt = absurd (omega (arith, lt))
  begins_sync i n (t ∷ ts) [] b lt = absurd b
  begins_sync i n (t ∷ ts) (u ∷ us) b lt = by (is_sync_item u && nat_eq n i) refl (begins_sync i (n + syncs_of_item entries u) ts us b.1)
    where
      by : (x : Bool) → (is_sync_item u && nat_eq n i) ≡ x → (sync_item entries i (n + syncs_of_item entries u) us < length ts → sync_item entries i (n + syncs_of_item entries u) ts ≡ sync_item entries i (n + syncs_of_item entries u) us)
          → sync_item entries i n (t ∷ ts) ≡ sync_item entries i n (u ∷ us)
      by true e later =
          ap (λ z. if z && nat_eq n i then 0 else suc (sync_item entries i (n + syncs_of_item entries t) ts)) b.0.is_sync
          ∙ ap (λ z. if z then 0 else suc (sync_item entries i (n + syncs_of_item entries t) ts)) e
          ∙ sym (ap (λ z. if z then 0 else suc (sync_item entries i (n + syncs_of_item entries u) us)) e)
      by false e later =
          let less : suc (sync_item entries i (n + syncs_of_item entries u) us) < length (t ∷ ts) =
          subst (λ z. (if z then 0 else suc (sync_item entries i (n + syncs_of_item entries u) us)) < length (t ∷ ts)) e lt in
          ap (λ z. if z && nat_eq n i then 0 else suc (sync_item entries i (n + syncs_of_item entries t) ts)) b.0.is_sync
          ∙ ap (λ z. if z then 0 else suc (sync_item entries i (n + syncs_of_item entries t) ts)) e
          ∙ ap (λ m. suc (sync_item entries i (n + m) ts)) b.0.syncs
          ∙ ap (λ m. suc m) (later (omega (arith, less)))
          ∙ sym (ap (λ z. if z then 0 else suc (sync_item entries i (n + syncs_of_item entries u) us)) e)

-- ---- a process

module _ (program : Program) (policy : Policy) (budget : ℕ) (g rest : List ℕ) (p : ℕ) (v : IsValid program) (x y : Split)
    (at_g : slice_get (splits (setting_by program policy budget) (story (setting_by program policy budget) g)) p ≡ Some x)
    (at : slice_get (splits (setting_by program policy budget) (story (setting_by program policy budget) (g ++ rest))) p ≡ Some y) where
  abbrev plan : Plan
  plan = plan_of program policy

  x_whole : HasWholeItems (splits (setting_of program plan budget) (story (setting_of program plan budget) g)) x p
  x_whole = items_whole (setting_of program plan budget) g p x v at_g

  y_whole : HasWholeItems (splits (setting_of program plan budget) (story (setting_of program plan budget) (g ++ rest))) y p
  y_whole = items_whole (setting_of program plan budget) (g ++ rest) p y v at

  module _ (entries : List Entry) where
    own_like : (n : ℕ) (t : Item) (o : Option TracedEvent) → slice_get x.trace.events n ≡ o → first_of (item_of_event o) ≡ Some t
        → (u : Item) × (first_of (item_of_event (slice_get y.trace.events n)) ≡ Some u) × IsLike entries t u
    own_like n t None is h = absurd (none-some t h)
    own_like n t (Some e) is h =
        let f = event_kept program policy budget g rest p v x y at_g at n e is in (
          item.Own f.0.event,
          ap (λ o. first_of (item_of_event o)) f.1,
          subst (λ z. IsLike entries z (item.Own f.0.event)) (some h) (record {
            syncs = ap (λ (z : TracedEvent). syncs_of_item entries (item.Own z.event)) (sym f.2);
            is_sync = ap (λ (z : TracedEvent). is_sync_item (item.Own z.event)) (sym f.2);
          }),
        )

    nested_like : (m : ℕ) (t : Item) (o : Option Span) → slice_get x.spans m ≡ o → first_of (item_of_span m o) ≡ Some t
        → (u : Item) × (first_of (item_of_span m (slice_get y.spans m)) ≡ Some u) × IsLike entries t u
    nested_like m t None is h = absurd (none-some t h)
    nested_like m t (Some s) is h =
        let f = span_kept program policy budget g rest p v x y at_g at m s is in (
          item.Nested m f.0.block f.0.values (is_some f.0.closed),
          ap (λ o. first_of (item_of_span m o)) f.1,
          subst (λ z. IsLike entries z (item.Nested m f.0.block f.0.values (is_some f.0.closed))) (some h) (record { syncs = refl; is_sync = refl }),
        )

    part_like : (q : Part) (t : Item) → item_if x (Some q) ≡ Some t → (u : Item) × (item_if y (Some q) ≡ Some u) × IsLike entries t u
    part_like (own n) t h = own_like n t (slice_get x.trace.events n) refl h
    part_like (nested m) t h = nested_like m t (slice_get x.spans m) refl h

    module _ (k : ℕ) (i : Span) (there : slice_get x.spans k ≡ Some i) where
      abbrev i' : Span
      i' = (span_kept program policy budget g rest p v x y at_g at k i there).0

      there' : slice_get y.spans k ≡ Some i'
      there' = (span_kept program policy budget g rest p v x y at_g at k i there).1

      x_items : (j : ℕ) → slice_get (get_or (seen_of x).items k []) j ≡ item_if x (slice_get i.parts j)
      x_items j = ap (λ l. slice_get l j) (map_at (items_of x) x.spans k i [] there) ∙ item_at x i.parts j (x_whole.whole k i there)

      y_items : (j : ℕ) → slice_get (get_or (seen_of y).items k []) j ≡ item_if y (slice_get i'.parts j)
      y_items j = ap (λ l. slice_get l j) (map_at (items_of y) y.spans k i' [] there') ∙ item_at y i'.parts j (y_whole.whole k i' there')

      many : length (get_or (seen_of x).items k []) ≡ length i.parts
      many = ap length (map_at (items_of x) x.spans k i [] there) ∙ x_whole.whole k i there

      begins : Begins entries (get_or (seen_of x).items k []) (get_or (seen_of y).items k [])
      begins = begins_by entries (get_or (seen_of x).items k []) (get_or (seen_of y).items k []) (λ j t f. by j t (slice_get i.parts j) refl (sym (x_items j) ∙ f))
        where
          by : (j : ℕ) (t : Item) (o : Option Part) → slice_get i.parts j ≡ o → item_if x o ≡ Some t → (u : Item) × (slice_get (get_or (seen_of y).items k []) j ≡ Some u) × IsLike entries t u
          by j t None e h = absurd (none-some t h)
          by j t (Some q) e h =
              let r = part_like q t h in
              let here : slice_get i'.parts j ≡ Some q = sym (ap (λ o. part_in o j) there') ∙ part_kept program policy budget g rest p v x y at_g at k j q (ap (λ o. part_in o j) there ∙ e) in
              (r.0, y_items j ∙ ap (item_if y) here ∙ r.1, r.2)

    -- the edge of a place
    pub edge_same : (k j : ℕ) (q : Part) → part_at x k j ≡ Some q → edge_at entries (seen_of x) k j ≡ edge_at entries (seen_of y) k j
    edge_same k j q e = by (slice_get x.spans k) refl e
      where
        by : (o : Option Span) → slice_get x.spans k ≡ o → part_in o j ≡ Some q → edge_at entries (seen_of x) k j ≡ edge_at entries (seen_of y) k j
        by None there f = absurd (none-some q f)
        by (Some i) there f =
            let lt : j < length i.parts = slice_get_below i.parts j q f in
            let all : length (get_or (seen_of x).items k []) ≡ length i.parts = many k i there in
            ap (λ m. first_edge entries k + m) (begins_sum entries j (get_or (seen_of x).items k []) (get_or (seen_of y).items k []) (begins k i there) (omega (arith, lt, all)))

    -- an event that is there by then is at the same place
    pub place_back : (k j n : ℕ) → part_at y k j ≡ Some (own n) → n < length x.trace.events → part_at x k j ≡ Some (own n)
    place_back k j n e lt =
        let first : IsReferred (splits (setting_of program plan budget) (story (setting_of program plan budget) g)) x p n = x_whole.events n lt in
        let f = slice_get_there x.trace.events n lt in
        let kept = event_kept program policy budget g rest p v x y at_g at n f.0 f.1 in
        let second : IsReferred (splits (setting_of program plan budget) (story (setting_of program plan budget) (g ++ rest))) y p n = y_whole.events n (slice_get_below y.trace.events n kept.0 kept.1) in
        let a = second.placed.once k j e in
        let b = second.placed.once first.interval first.item (part_kept program policy budget g rest p v x y at_g at first.interval first.item (own n) first.placed.there) in
        ap (λ z. part_at x z j) (a.0 ∙ sym b.0) ∙ ap (part_at x first.interval) (a.1 ∙ sym b.1) ∙ first.placed.there

    -- the place where an edge ends
    pub end_same : (i n : ℕ) → part_at y (end_interval entries i) (end_item entries (seen_of y) i) ≡ Some (own n) → n < length x.trace.events
        → (end_item entries (seen_of x) i ≡ end_item entries (seen_of y) i) × (part_at x (end_interval entries i) (end_item entries (seen_of y) i) ≡ Some (own n))
    end_same i n e lt =
        let here : part_at x (end_interval entries i) (end_item entries (seen_of y) i) ≡ Some (own n) = place_back (end_interval entries i) (end_item entries (seen_of y) i) n e lt in
        (by (slice_get x.spans (end_interval entries i)) refl here, here)
      where
        by : (o : Option Span) → slice_get x.spans (end_interval entries i) ≡ o → part_in o (end_item entries (seen_of y) i) ≡ Some (own n) → end_item entries (seen_of x) i ≡ end_item entries (seen_of y) i
        by None there f = absurd (none-some (own n) f)
        by (Some s) there f =
            let less : end_item entries (seen_of y) i < length s.parts = slice_get_below s.parts (end_item entries (seen_of y) i) (own n) f in
            let all : length (get_or (seen_of x).items (end_interval entries i) []) ≡ length s.parts = many (end_interval entries i) s there in
            begins_sync entries i (first_edge entries (end_interval entries i)) (get_or (seen_of x).items (end_interval entries i) []) (get_or (seen_of y).items (end_interval entries i) []) (begins (end_interval entries i) s there) (omega (arith, less, all))

  -- the walk from a place
  pub walk_same : (c k j n : ℕ) → part_at x k j ≡ Some (own n) → n < length x.trace.events → (walk (seen_of y) c k j).found ≡ (walk (seen_of x) c k j).found
  walk_same c k j n e lt =
      let fx : Facts (setting_of program plan budget) g v p x = facts (setting_of program plan budget) g v p x at_g in
      let fy : Facts (setting_of program plan budget) (g ++ rest) v p y = facts (setting_of program plan budget) (g ++ rest) v p y at in
      let f = slice_get_there x.trace.events n lt in
      let kept = event_kept program policy budget g rest p v x y at_g at n f.0 f.1 in
      let ax : IsAt x (get_or (closed_logs (setting_of program plan budget) g).lists p []) n k j = at_place x (get_or (closed_logs (setting_of program plan budget) g).lists p []) fx.told_by k j n e lt in
      let ay : IsAt y (get_or (closed_logs (setting_of program plan budget) (g ++ rest)).lists p []) n k j =
      at_place y (get_or (closed_logs (setting_of program plan budget) (g ++ rest)).lists p []) fy.told_by k j n (part_kept program policy budget g rest p v x y at_g at k j (own n) e) (slice_get_below y.trace.events n kept.0 kept.1) in
      walk_equal program policy budget g rest p v x y at_g at c n (omega (arith, lt)) (walk (seen_of x) c k j).found (walk (seen_of y) c k j).found (ax.walks c) (ay.walks c)
