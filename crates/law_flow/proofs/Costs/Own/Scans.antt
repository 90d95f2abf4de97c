-- What the scan of the items of an interval names: loops directly inside it, each once, and another interval inside it.
use Rattle.std.proofs.Common.{◌≡◌, ℕ, ◌+◌, ◌<◌, ℤ, Bool, true, false, List, [], ◌∷◌, Option, Some, None, refl, ap, sym, ◌∙◌, subst, true≢false, inl, inr, if◌then◌else◌}
use Rattle.std.specs.Prelude.{fold, nat_eq, slice_get, take, ◌&&◌, get_or}
use Rattle.std.specs.List.{list_any}
use Rattle.ppd_ast.specs.declared.plan.BlockKind.{BlockKind}
use Rattle.ppd_ast.specs.declared.plan.BlockKind.TheVariants as block
use Rattle.ppd_ast.specs.declared.plan.Plan.{Plan}
use Rattle.ppd_ast.specs.declared.program.Program.{Program}
use Rattle.ppd_sem.specs.Blocks.{block_kind, postlog_cells}
use Rattle.ppd_sem.specs.declared.event.Event.{Event}
use Rattle.ppd_model.specs.declared.flow.Item.{Item}
use Rattle.ppd_model.specs.declared.flow.Item.TheVariants as item
use Rattle.ppd_model.specs.Intervals.{Span, Split, items_of}
use Rattle.ppd_model.specs.NearIntervals.{is_in, is_loop}
use Rattle.ppd_model.proofs.Tested.{In, here as first_in, there as later_in}
use Rattle.ppd_graph.specs.declared.writer.Writer.{Writer}
use Rattle.ppd_graph.specs.declared.writer.Writer.TheVariants.{Before, Fresh, At, Of}
use Rattle.ppd_graph.specs.Locals.{Scan, begins_leaf, begun_scan, frame_in, is_local, receives, scan, scan_event, scan_interval, scan_item, written_by}
use Rattle.ppd_graph.specs.Seen.{seen_of}
use Rattle.law_flow.specs.Edges.Within.{AreDistinct}
use Rattle.law_flow.proofs.Edges.Back.Walks.{map_at}
use Rattle.law_flow.proofs.Edges.Near.Distinct.{not_in_list, out_of_list}
use Rattle.law_flow.proofs.Edges.Near.Tree.{HasTree}
use Rattle.law_flow.proofs.Edges.Sources.Members.{in_cases, no_member}
use Rattle.law_flow.proofs.Costs.Own.Items.{distinct_numbers, distinct_taken, in_taken, nested_in, numbers}

-- ---- the scan

-- the writer is no interval
abbrev is_none : Writer → Bool
is_none (Of z) = false
is_none w = true

abbrev of_or : ℕ → Writer → ℕ
of_or m (Of z) = z
of_or m w = m

module _ (program : Program) (plan : Plan) (frame c : ℕ) (L O : ℕ → Type 0) where
  -- the loops since the writer, and an interval that is the writer
  pub record IsScanned (s : Scan) : Type 0 where
    pub loops : (z : ℕ) → In z s.loops → L z
    pub once : AreDistinct s.loops
    pub writer : (z : ℕ) → s.writer ≡ Of z → O z

  -- and the loops are none of what is to come
  record IsGoing (s : Scan) (rest : List Item) : Type 0 where
    so_far : IsScanned s
    apart : (z : ℕ) → In z s.loops → In z (numbers rest) → ⊥

  -- the intervals among the items are of these kinds
  abbrev pub Fits : List Item → Type 0
  Fits items = (m b : ℕ) (vs : List ℤ) (k : Bool) → In (item.Nested m b vs k) items → (is_loop (block_kind plan b) ≡ true → L m) × (is_loop (block_kind plan b) ≡ false → O m)

  wrote : (w : Writer) (s : Scan) (rest : List Item) → ((z : ℕ) → w ≡ Of z → O z) → IsGoing (written_by w s) rest
  wrote w s rest of = record {
    so_far = record { loops = λ z i. absurd (no_member i); once = tt; writer = of };
    apart = λ z i j. no_member i;
  }

  no_of : (w : Writer) → is_none w ≡ true → (z : ℕ) → w ≡ Of z → O z
  no_of w e z f = absurd (true≢false (sym e ∙ ap is_none f))

  event_goes : (e : Event) (s : Scan) (rest : List Item) → IsGoing s rest → IsGoing (scan_event program plan frame c e s) rest
  event_goes e s rest h = by (list_any (λ a. is_local frame c a.spot) e.writes) (begins_leaf program plan e && nat_eq frame 1) (receives program frame c e s.leaf)
    where
      by : (a b d : Bool) → IsGoing (if a then written_by (At s.next) s else if b then written_by Fresh s else if d then written_by (At s.next) s else s) rest
      by true b d = wrote (At s.next) s rest (no_of (At s.next) refl)
      by false true d = wrote Fresh s rest (no_of Fresh refl)
      by false false true = wrote (At s.next) s rest (no_of (At s.next) refl)
      by false false false = h

  -- an interval that is passed over
  passed : (m b : ℕ) (vs : List ℤ) (k : Bool) (s : Scan) (rest : List Item) → IsGoing s (item.Nested m b vs k ∷ rest) → IsGoing (record s { next = s.next + 1 }) rest
  passed m b vs k s rest h = record {
    so_far = record { loops = h.so_far.loops; once = h.so_far.once; writer = h.so_far.writer };
    apart = λ z i j. h.apart z i (later_in j);
  }

  interval_goes : (m b : ℕ) (vs : List ℤ) (s : Scan) (rest : List Item) → Fits (item.Nested m b vs true ∷ rest) → AreDistinct (m ∷ numbers rest) → IsGoing s (item.Nested m b vs true ∷ rest)
      → IsGoing (record (scan_interval program plan frame c m (block_kind plan b) (postlog_cells plan b) vs s) { next = s.next + 1 }) rest
  interval_goes m b vs s rest fits once h = by (block_kind plan b) refl vs
    where
      kinds : (is_loop (block_kind plan b) ≡ true → L m) × (is_loop (block_kind plan b) ≡ false → O m)
      kinds = fits m b vs true first_in

      looped : (t : Bool) → L m → IsGoing (record (if t then record s { loops = m ∷ s.loops } else s) { next = s.next + 1 }) rest
      looped false l = passed m b vs true s rest h
      looped true l = record {
        so_far = record {
          loops = λ z i. elim (in_cases z m s.loops i) [ inl e ↦ subst L (sym e) l | inr j ↦ h.so_far.loops z j ];
          once = (not_in_list m s.loops (λ i. h.apart m i first_in), h.so_far.once);
          writer = h.so_far.writer;
        };
        apart = λ z i j. elim (in_cases z m s.loops i) [
          | inl e ↦ out_of_list m (numbers rest) once.0 (subst (λ y. In y (numbers rest)) e j)
          | inr k ↦ h.apart z k (later_in j)
        ];
      }

      returned : (t : Bool) → O m → IsGoing (record (if t then written_by (Of m) s else s) { next = s.next + 1 }) rest
      returned false o = passed m b vs true s rest h
      returned true o = record {
        so_far = record { loops = λ z i. absurd (no_member i); once = tt; writer = λ z e. subst O (ap (of_or m) e) o };
        apart = λ z i j. no_member i;
      }

      by : (kind : BlockKind) → block_kind plan b ≡ kind → (us : List ℤ) → IsGoing (record (scan_interval program plan frame c m kind (postlog_cells plan b) us s) { next = s.next + 1 }) rest
      by (block.Loop l) e us = looped (nat_eq frame (frame_in s.leaf) && is_in c (postlog_cells plan b)) (kinds.0 (ap is_loop e))
      by (block.Function f) e [] = passed m b vs true s rest h
      by (block.Function f) e (u ∷ us) = returned _ (kinds.1 (ap is_loop e))
      by (block.Process f) e [] = passed m b vs true s rest h
      by (block.Process f) e (u ∷ us) = returned _ (kinds.1 (ap is_loop e))

  item_goes : (t : Item) (rest : List Item) (s : Scan) → Fits (t ∷ rest) → AreDistinct (numbers (t ∷ rest)) → IsGoing s (t ∷ rest) → IsGoing (scan_item program plan frame c s t) rest
  item_goes (item.Own e) rest s fits once h =
      let g = event_goes e s rest (record { so_far = h.so_far; apart = h.apart }) in
      record { so_far = record { loops = g.so_far.loops; once = g.so_far.once; writer = g.so_far.writer }; apart = g.apart }
  item_goes (item.Nested m b vs false) rest s fits once h = passed m b vs false s rest h
  item_goes (item.Nested m b vs true) rest s fits once h = interval_goes m b vs s rest fits once h

  rest_distinct : (t : Item) (rest : List Item) → AreDistinct (numbers (t ∷ rest)) → AreDistinct (numbers rest)
  rest_distinct (item.Own e) rest h = h
  rest_distinct (item.Nested m b vs k) rest h = h.1

  all_go : (items : List Item) (s : Scan) → Fits items → AreDistinct (numbers items) → IsGoing s items → IsScanned (fold (scan_item program plan frame c) s items)
  all_go [] s fits once h = h.so_far
  all_go (t ∷ rest) s fits once h =
      all_go rest (scan_item program plan frame c s t) (λ m b vs k i. fits m b vs k (later_in i)) (rest_distinct t rest once) (item_goes t rest s fits once h)

  pub all_scanned : (items : List Item) → Fits items → AreDistinct (numbers items) → IsScanned (scan program plan frame c items)
  all_scanned items fits once =
      all_go items begun_scan fits once (record {
        so_far = record { loops = λ z i. absurd (no_member i); once = tt; writer = no_of Before refl };
        apart = λ z i j. no_member i;
      })

-- ---- of an interval

-- a loop directly inside interval k
pub record IsLoopIn (plan : Plan) (x : Split) (k z : ℕ) : Type 0 where
  pub span : Span
  pub there : slice_get x.spans z ≡ Some span
  pub is_one : is_loop (block_kind plan span.block) ≡ true
  pub rest : List ℕ
  pub round : span.round ≡ k ∷ rest
  pub below : k < z

-- an interval inside interval k that is no loop
pub record IsOtherIn (plan : Plan) (x : Split) (k z : ℕ) : Type 0 where
  pub span : Span
  pub there : slice_get x.spans z ≡ Some span
  pub no_loop : is_loop (block_kind plan span.block) ≡ false
  pub below : k < z

module _ (program : Program) (plan : Plan) (x : Split) (tree : HasTree x) (frame c : ℕ) where
  fitting : (k : ℕ) (i : Span) → slice_get x.spans k ≡ Some i → Fits program plan frame c (IsLoopIn plan x k) (IsOtherIn plan x k) (items_of x i)
  fitting k i at m b vs t q =
      let r = nested_in x i.parts m b vs t q in
      let p = tree.parent k r.3 m i at r.4 in (
        (λ e. record { span = r.0; there = r.1; is_one = ap (λ z. is_loop (block_kind plan z)) (sym r.2) ∙ e; rest = i.round; round = same_round r.0 r.1 p.span p.is_there p.round_is; below = p.below }),
        (λ e. record { span = r.0; there = r.1; no_loop = ap (λ z. is_loop (block_kind plan z)) (sym r.2) ∙ e; below = p.below }),
      )
    where
      same_round : (s : Span) → slice_get x.spans m ≡ Some s → (s' : Span) → slice_get x.spans m ≡ Some s' → s'.round ≡ k ∷ i.round → s.round ≡ k ∷ i.round
      same_round s e s' e' g = ap (λ (o : Option Span). elim o [ None ↦ s.round | Some w ↦ w.round ]) (sym e ∙ e') ∙ g

  -- the first items of an interval
  pub scanned_at : (k : ℕ) (i : Span) (j : ℕ) → slice_get x.spans k ≡ Some i → IsScanned program plan frame c (IsLoopIn plan x k) (IsOtherIn plan x k) (scan program plan frame c (take j (get_or (seen_of x).items k [])))
  scanned_at k i j at =
      subst (λ items. IsScanned program plan frame c (IsLoopIn plan x k) (IsOtherIn plan x k) (scan program plan frame c (take j items))) (sym (map_at (items_of x) x.spans k i [] at))
      (all_scanned program plan frame c (IsLoopIn plan x k) (IsOtherIn plan x k) (take j (items_of x i))
      (λ m b vs t q. fitting k i at m b vs t (in_taken (item.Nested m b vs t) j (items_of x i) q))
      (distinct_taken j (items_of x i) (distinct_numbers x i.parts (λ a b m e f. tree.once k a b m i at e f))))

  -- all items of an interval
  pub scanned_whole : (k : ℕ) (i : Span) → slice_get x.spans k ≡ Some i → IsScanned program plan frame c (IsLoopIn plan x k) (IsOtherIn plan x k) (scan program plan frame c (get_or (seen_of x).items k []))
  scanned_whole k i at =
      subst (λ items. IsScanned program plan frame c (IsLoopIn plan x k) (IsOtherIn plan x k) (scan program plan frame c items)) (sym (map_at (items_of x) x.spans k i [] at))
      (all_scanned program plan frame c (IsLoopIn plan x k) (IsOtherIn plan x k) (items_of x i) (fitting k i at)
      (distinct_numbers x i.parts (λ a b m e f. tree.once k a b m i at e f)))
