-- What a scan of items tells, whatever the cell: how many there were, and the call whose activation goes on.
use Rattle.std.proofs.Common.{◌≡◌, ℕ, suc, ◌+◌, ℤ, Bool, true, false, not, ◌&&◌, List, [], ◌∷◌, ◌++◌, Option, Some, None, refl, ap, ap₂, sym, ◌∙◌, arith, length, if◌then◌else◌, append-nil, true≢false}
use Rattle.std.specs.Prelude.{fold, nat_eq, is_some, slice_get}
use Rattle.std.specs.List.{flat_map}
use Rattle.std.proofs.lemmas.List.Concat.{flat_map-append}
use Rattle.std.proofs.lemmas.List.Sums.{fold-append}
use Rattle.ppd_ast.specs.Numbered.{is_call}
use Rattle.ppd_ast.specs.declared.plan.BlockKind.{BlockKind}
use Rattle.ppd_ast.specs.declared.plan.BlockKind.TheVariants as block
use Rattle.ppd_ast.specs.declared.plan.Plan.{Plan}
use Rattle.ppd_ast.specs.declared.program.Kind.{Kind}
use Rattle.ppd_ast.specs.declared.program.Kind.TheVariants as kind
use Rattle.ppd_ast.specs.declared.program.Program.{Program}
use Rattle.ppd_ast.specs.Lookups.{kind_of}
use Rattle.ppd_sem.specs.Blocks.{block_kind, postlog_cells}
use Rattle.ppd_sem.specs.Process.{into_of}
use Rattle.ppd_sem.specs.Runs.{returns}
use Rattle.ppd_sem.specs.declared.event.Event.{Event}
use Rattle.ppd_model.specs.declared.flow.Item.{Item}
use Rattle.ppd_model.specs.declared.flow.Item.TheVariants as item
use Rattle.ppd_model.specs.declared.trace.TracedEvent.{TracedEvent}
use Rattle.ppd_model.specs.Intervals.{Part, own, nested, Span, Split, item_of}
use Rattle.ppd_model.proofs.IntervalWords.{item_of_event, item_of_span}
use Rattle.ppd_model.specs.NearIntervals.{is_in}
use Rattle.ppd_model.specs.Synchronizations.{is_number}
use Rattle.ppd_graph.specs.declared.leaf_call.LeafCall.{LeafCall}
use Rattle.ppd_graph.specs.Locals.{Scan, begun_scan, frame_in, is_leaf_call, leaf_after, leaf_at, scan, scan_interval, scan_item, written_by}
use Rattle.ppd_graph.specs.declared.writer.Writer.TheVariants.{Of}

-- ---- one item more

pub items_more : (y : Split) (ps : List Part) (q : Part) (x : Item) → item_of y q ≡ x ∷ []
    → flat_map (item_of y) (ps ++ q ∷ []) ≡ flat_map (item_of y) ps ++ x ∷ []
items_more y ps q x e = flat_map-append (item_of y) ps (q ∷ [])
    ∙ ap (λ xs. flat_map (item_of y) ps ++ xs) (append-nil (item_of y q) ∙ e)

pub own_item : (y : Split) (n : ℕ) (e : TracedEvent) → slice_get y.trace.events n ≡ Some e
    → item_of y (own n) ≡ item.Own e.event ∷ []
own_item y n e at = ap item_of_event at

pub nested_item : (y : Split) (m : ℕ) (i : Span) → slice_get y.spans m ≡ Some i
    → item_of y (nested m) ≡ item.Nested m i.block i.values (is_some i.closed) ∷ []
nested_item y m i at = ap (item_of_span m) at

module _ (program : Program) (plan : Plan) where
  pub scan_more : (frame c : ℕ) (xs : List Item) (x : Item)
      → scan program plan frame c (xs ++ x ∷ []) ≡ scan_item program plan frame c (scan program plan frame c xs) x
  scan_more frame c xs x = fold-append (scan_item program plan frame c) begun_scan xs (x ∷ [])

  -- ---- an interval changes neither

  interval_keeps : (frame c m : ℕ) (k : BlockKind) (cells : List ℕ) (values : List ℤ) (s : Scan)
      → ((scan_interval program plan frame c m k cells values s).leaf ≡ s.leaf)
      × ((scan_interval program plan frame c m k cells values s).next ≡ s.next)
      × ((scan_interval program plan frame c m k cells values s).call ≡ s.call)
  interval_keeps frame c m (block.Loop l) cells values s = by (nat_eq frame (frame_in s.leaf) && is_in c cells)
    where
      by : (b : Bool) → ((if b then record s { loops = m ∷ s.loops } else s).leaf ≡ s.leaf)
          × ((if b then record s { loops = m ∷ s.loops } else s).next ≡ s.next)
          × ((if b then record s { loops = m ∷ s.loops } else s).call ≡ s.call)
      by true = (refl, refl, refl)
      by false = (refl, refl, refl)
  interval_keeps frame c m (block.Function f) cells [] s = (refl, refl, refl)
  interval_keeps frame c m (block.Process f) cells [] s = (refl, refl, refl)
  interval_keeps frame c m (block.Function f) cells (v ∷ vs) s =
      by (nat_eq frame 0 && is_number (into_of (kind_of program s.call)) c)
    where
      by : (b : Bool) → ((if b then written_by (Of m) s else s).leaf ≡ s.leaf)
          × ((if b then written_by (Of m) s else s).next ≡ s.next) × ((if b then written_by (Of m) s else s).call
          ≡ s.call)
      by true = (refl, refl, refl)
      by false = (refl, refl, refl)
  interval_keeps frame c m (block.Process f) cells (v ∷ vs) s =
      by (nat_eq frame 0 && is_number (into_of (kind_of program s.call)) c)
    where
      by : (b : Bool) → ((if b then written_by (Of m) s else s).leaf ≡ s.leaf)
          × ((if b then written_by (Of m) s else s).next ≡ s.next) × ((if b then written_by (Of m) s else s).call
          ≡ s.call)
      by true = (refl, refl, refl)
      by false = (refl, refl, refl)

  -- two scans that are at the same place
  pub record SamePlace (s r : Scan) : Type 0 where
    pub next : s.next ≡ r.next
    pub leaf : s.leaf ≡ r.leaf
    pub call : s.call ≡ r.call

  item_place : (frame c frame' c' : ℕ) (s r : Scan) (x : Item) → SamePlace s r
      → SamePlace (scan_item program plan frame c s x) (scan_item program plan frame' c' r x)
  item_place frame c frame' c' s r (item.Own e) h = record {
    next = ap (λ n. n + 1) h.next;
    leaf =
        ap₂ (λ n o. leaf_after program plan n e o) h.next h.leaf;
    call = refl;
  }
  item_place frame c frame' c' s r (item.Nested m b values false) h = record {
    next = ap (λ n. n + 1) h.next;
    leaf =
        h.leaf;
    call = h.call;
  }
  item_place frame c frame' c' s r (item.Nested m b values true) h =
      let k = interval_keeps frame c m (block_kind plan b) (postlog_cells plan b) values s in
      let l = interval_keeps frame' c' m (block_kind plan b) (postlog_cells plan b) values r in
      record { next = ap (λ n. n + 1) h.next; leaf = k.0 ∙ h.leaf ∙ sym l.0; call = k.2 ∙ h.call ∙ sym l.2 }

  fold_place : (frame c frame' c' : ℕ) (s r : Scan) (xs : List Item) → SamePlace s r
      → SamePlace (fold (scan_item program plan frame c) s xs) (fold (scan_item program plan frame' c') r xs)
  fold_place frame c frame' c' s r [] h = h
  fold_place frame c frame' c' s r (x ∷ xs) h = fold_place frame c frame' c' (scan_item program plan frame c s x)
      (scan_item program plan frame' c' r x) xs (item_place frame c frame' c' s r x h)

  -- the place does not depend on the cell
  pub same_place : (frame c frame' c' : ℕ) (xs : List Item)
      → SamePlace (scan program plan frame c xs) (scan program plan frame' c' xs)
  same_place frame c frame' c' xs =
      fold_place frame c frame' c' begun_scan begun_scan xs (record { next = refl; leaf = refl; call = refl })

  item_next : (frame c : ℕ) (s : Scan) (x : Item) → (scan_item program plan frame c s x).next ≡ suc s.next
  item_next frame c s (item.Own e) = omega arith
  item_next frame c s (item.Nested m b values false) = omega arith
  item_next frame c s (item.Nested m b values true) = omega arith

  fold_next : (frame c : ℕ) (s : Scan) (xs : List Item)
      → (fold (scan_item program plan frame c) s xs).next ≡ s.next + length xs
  fold_next frame c s [] = omega arith
  fold_next frame c s (x ∷ xs) =
      let rest : (fold (scan_item program plan frame c) (scan_item program plan frame c s x) xs).next
      ≡ (scan_item program plan frame c s x).next + length xs =
      fold_next frame c (scan_item program plan frame c s x) xs in
      let one : (scan_item program plan frame c s x).next ≡ suc s.next = item_next frame c s x in
      omega (arith, rest, one)

  -- the next item has the number of those so far
  pub next_is : (frame c : ℕ) (xs : List Item) → (scan program plan frame c xs).next ≡ length xs
  next_is frame c xs = let rest : (fold (scan_item program plan frame c) begun_scan xs).next ≡ 0 + length xs =
      fold_next frame c begun_scan xs in omega (arith, rest)

  -- ---- the call that goes on

  pub leaf_own : (xs : List Item) (e : Event)
      → leaf_at program plan (xs ++ item.Own e ∷ []) ≡ leaf_after program plan (length xs) e (leaf_at program plan xs)
  leaf_own xs e = ap (λ (s : Scan). s.leaf) (scan_more 0 0 xs (item.Own e))
      ∙ ap (λ n. leaf_after program plan n e (leaf_at program plan xs)) (next_is 0 0 xs)

  pub leaf_nested : (xs : List Item) (m b : ℕ) (values : List ℤ) (is_left : Bool)
      → leaf_at program plan (xs ++ item.Nested m b values is_left ∷ []) ≡ leaf_at program plan xs
  leaf_nested xs m b values false = ap (λ (s : Scan). s.leaf) (scan_more 0 0 xs (item.Nested m b values false))
  leaf_nested xs m b values true =
      ap (λ (s : Scan). s.leaf) (scan_more 0 0 xs (item.Nested m b values true))
      ∙ (interval_keeps 0 0 m (block_kind plan b) (postlog_cells plan b) values (scan program plan 0 0 xs)).0

  no_leaf_call : (k : Kind) → is_call k ≡ false → is_leaf_call plan k ≡ false
  no_leaf_call (kind.Call f args into) e = absurd (true≢false e)
  no_leaf_call k e = refl

  -- an event of a statement that neither calls nor returns
  pub leaf_stays : (i : ℕ) (e : Event) (leaf : Option LeafCall) → is_call (kind_of program e.stmt) ≡ false
      → returns (kind_of program e.stmt) ≡ false → leaf_after program plan i e leaf ≡ leaf
  leaf_stays i e leaf no_call stays =
      ap (λ b. if b then Some (record { item = i; stmt = e.stmt }) else if returns
      (kind_of program e.stmt) then None else leaf) (begins_none (not (is_some e.trap))
      (is_leaf_call plan (kind_of program e.stmt)) (no_leaf_call (kind_of program e.stmt) no_call))
      ∙ ap (λ b. if b then None else leaf) stays
    where
      begins_none : (a b : Bool) → b ≡ false → (a && b) ≡ false
      begins_none true b h = h
      begins_none false b h = refl
