-- All edges of an item, put together.
use Rattle.ppd_model.specs.Setting.{Setting}
use Rattle.std.proofs.Common.{◌≡◌, ℕ, zero, suc, ◌+◌, List, [], ◌∷◌, ◌++◌, Option, Some, None, Ok, refl, ap, ap₂, sym, subst, ◌∙◌, arith, length, map, get_or}
use Rattle.ppd_graph.specs.Seen.{Seen}
use Rattle.ppd_model.specs.declared.flow.Origin.TheVariants as origin
use Rattle.std.specs.Option.{option_map_or}
use Rattle.std.specs.Prelude.{option_map, slice_get, zip}
use Rattle.std.proofs.lemmas.List.{append_assoc}
use Rattle.std.proofs.lemmas.Option.{none-some}
use Rattle.ppd_ast.specs.Valid.{IsValid}
use Rattle.ppd_ast.specs.Lookups.{kind_of}
use Rattle.ppd_sem.specs.Blocks.{block_kind}
use Rattle.ppd_sem.specs.declared.event.Access.{Access}
use Rattle.ppd_sem.specs.declared.event.Spot.{Spot}
use Rattle.ppd_sem.specs.declared.event.Spot.TheVariants.{Local, Shared}
use Rattle.law_flow.proofs.Edges.PartItems.{first_of, item_at, item_if}
use Rattle.ppd_model.specs.declared.flow.EdgeKind.TheVariants.{Control}
use Rattle.ppd_model.specs.declared.trace.TracedEvent.{TracedEvent}
use Rattle.ppd_model.specs.Earlier.{AreEarlier, EachNamesEarlier}
use Rattle.ppd_model.specs.FlowbackEdges.{bare_edge, edges, edges_of_event, edges_of_nested as model_edges_of_nested, edges_of_part, part_at, sync_edges as model_sync_edges}
use Rattle.ppd_model.proofs.EdgeWords.{edges_if as model_edges_if, edges_in, part_in, read_edge as model_read_edge}
use Rattle.ppd_model.specs.FullTrace.{Tag, tracing_of}
use Rattle.ppd_model.specs.Intervals.{Part, own, nested, Span, Split, items_of, splits, item_of, ref}
use Rattle.ppd_model.proofs.IntervalWords.{item_of_event, item_of_span}
use Rattle.ppd_model.specs.Logs.{closed_logs}
use Rattle.ppd_model.specs.Story.{story, told}
use Rattle.ppd_model.proofs.Changes.{some}
use Rattle.ppd_model.proofs.Earlier.{name_earlier}
use Rattle.ppd_model.proofs.Items.{items_whole}
use Rattle.ppd_graph.specs.Control.{control_origin}
use Rattle.ppd_graph.specs.Found.{and_more, before_others, edges_if, event_edges, found_edges, last_edges, read_edge, read_edges, read_if, with_edge}
use Rattle.ppd_graph.specs.Locals.{local_origin}
use Rattle.ppd_graph.specs.Own.{edges_of_nested, read_from}
use Rattle.ppd_graph.specs.Shared.{seen_at, shared_origin}
use Rattle.law_flow.specs.Edges.Assembled.{EdgesAreFound, HasOwnParts}
use Rattle.law_flow.specs.Edges.SharedEdges.{IsSharedRead, all_seen}
use Rattle.law_flow.proofs.Edges.Back.Walks.{map_at}
use Rattle.law_flow.proofs.Edges.StepEvents.Processes.{Facts, facts}
use Rattle.law_flow.proofs.Edges.StepEvents.Timeline.{did}
use Rattle.law_flow.proofs.Edges.Sources.ReadOrigins.{shared_origins}
use Rattle.law_flow.proofs.Edges.PairPlaces.Pairs.{pairs_found}

-- ---- items and parts

-- ---- reads

-- as many writers as reads
same_many : (p k : ℕ) (as' : List Access) (ws : List Tag) → AreEarlier p k as' ws → length as' ≡ length ws
same_many p k [] [] h = refl
same_many p k [] (w ∷ ws) h = absurd h
same_many p k (a ∷ as') [] h = absurd h
same_many p k (a ∷ as') (w ∷ ws) h = ap suc (same_many p k as' ws h.1)

each_at : (p k : ℕ) (es : List TracedEvent) (n : ℕ) (e : TracedEvent) → EachNamesEarlier p k es → slice_get es n ≡ Some e → length e.event.reads ≡ length e.writers
each_at p k [] n e h f = absurd (none-some e f)
each_at p k (y ∷ es) zero e h f = subst (λ (z : TracedEvent). length z.event.reads ≡ length z.writers) (some f) (same_many p k y.event.reads y.writers h.0.writers)
each_at p k (y ∷ es) (suc n) e h f = each_at p (k + 1) es n e h.1 f

zip_at : (as' : List Access) (ws : List Tag) (i : ℕ) (a : Access) (w : Tag) → slice_get (zip as' ws) i ≡ Some (a, w) → (slice_get as' i ≡ Some a) × (slice_get ws i ≡ Some w)
zip_at [] ws i a w e = absurd (none-some (a, w) e)
zip_at (x ∷ xs) [] i a w e = absurd (none-some (a, w) e)
zip_at (x ∷ xs) (y ∷ ys) zero a w e = (ap (λ (o : Option (Access × Tag)). elim o [ None ↦ Some x | Some z ↦ Some z.0 ]) e, ap (λ (o : Option (Access × Tag)). elim o [ None ↦ Some y | Some z ↦ Some z.1 ]) e)
zip_at (x ∷ xs) (y ∷ ys) (suc i) a w e = zip_at xs ys i a w e

module _ (setting : Setting) (h : List ℕ) (v : IsValid setting.program) (p k j : ℕ) (x : Split) (there : slice_get (splits setting (story setting h)) p ≡ Some x) (parts : HasOwnParts setting.program setting.plan (splits setting (story setting h)) x p k j)
    (shared : (c : ℕ) (tag : Tag) → IsSharedRead setting h p k j c tag → (shared_origin setting.program (closed_logs setting h) (all_seen setting h) p k j c).found ≡ Ok (option_map_or (ref (splits setting (story setting h))) tag origin.Initial)) where
  abbrev xs : List Split
  xs = splits setting (story setting h)

  f : Facts setting h v p x
  f = facts setting h v p x there

  -- one read
  one_read : (n i : ℕ) (e : TracedEvent) (a : Access) (t : Tag) → part_at x k j ≡ Some (own n) → slice_get x.trace.events n ≡ Some e → slice_get (zip e.event.reads e.writers) i ≡ Some (a, t) → (s : Spot) → a.spot ≡ s
      → (read_edge setting.program setting.plan (closed_logs setting h) (all_seen setting h) p k j a s).found ≡ Ok (model_read_edge xs (a, t))
  one_read n i e a t place at z (Local frame c) spot =
      ap (λ q. Ok (read_from a (local_origin setting.program setting.plan q p k j frame c).found)) f.seen_is ∙ ap (λ o. Ok (read_from a o)) (parts.locals n i frame c e a t place at z spot)
  one_read n i e a t place at z (Shared c) spot =
      let both = zip_at e.event.reads e.writers i a t z in
      ap (read_if a) (shared c t (record {
        split = x;
        there = there;
        number = n;
        placed = place;
        event = e;
        event_is = at;
        read = i;
        access = a;
        access_is = both.0;
        spot = spot;
        tagged = both.1;
      }))

  -- all reads
  all_reads : (n : ℕ) (e : TracedEvent) → part_at x k j ≡ Some (own n) → slice_get x.trace.events n ≡ Some e → (as' : List Access) (ws : List Tag) → length as' ≡ length ws → ((i : ℕ) (a : Access) (t : Tag) → slice_get (zip as' ws) i ≡ Some (a, t) → (m : ℕ) × (slice_get (zip e.event.reads e.writers) m ≡ Some (a, t)))
      → (read_edges setting.program setting.plan (closed_logs setting h) (all_seen setting h) p k j as').found ≡ Ok (map (model_read_edge xs) (zip as' ws))
  all_reads n e place at [] ws same all = refl
  all_reads n e place at (a ∷ as') [] same all = absurd (let z : suc (length as') ≡ 0 = same in omega (arith, z))
  all_reads n e place at (a ∷ as') (t ∷ ws) same all =
      let m = all 0 a t refl in
      ap (λ q. (before_others q (read_edges setting.program setting.plan (closed_logs setting h) (all_seen setting h) p k j as')).found) (one_read n m.0 e a t place at m.1 a.spot refl)
      ∙ ap (with_edge (model_read_edge xs (a, t))) (all_reads n e place at as' ws (let z : suc (length as') ≡ suc (length ws) = same in omega (arith, z)) (λ i b u g. all (suc i) b u g))

  event_is : (n : ℕ) (e : TracedEvent) → part_at x k j ≡ Some (own n) → slice_get x.trace.events n ≡ Some e
      → (event_edges setting.program setting.plan (closed_logs setting h) (all_seen setting h) p k j e.event).found ≡ Ok (edges_of_event setting.program xs e)
  event_is n e place at =
      let same : length e.event.reads ≡ length e.writers =
      each_at p 0 (tracing_of setting (story setting h) p (did (told setting h) p)).events n e (name_earlier setting (story setting h) p (did (told setting h) p)) (ap (λ es. slice_get es n) (sym f.events_are) ∙ at) in
      ap (λ q. (and_more q (last_edges setting.program setting.plan (closed_logs setting h) (all_seen setting h) p k j e.event)).found) (all_reads n e place at e.event.reads e.writers same (λ i a t g. (i, g)))
      ∙ ap (λ es. Ok (map (model_read_edge xs) (zip e.event.reads e.writers) ++ es)) (ap₂ (λ a b. a ++ bare_edge Control b ∷ []) (pairs_found setting h v p k j x n e there place at)
      (ap (λ q. (control_origin setting.program setting.plan q p k j e.event.stmt).found) f.seen_is ∙ parts.control n e place at))
      ∙ ap (λ es. Ok es) (sym (append_assoc (map (model_read_edge xs) (zip e.event.reads e.writers)) (model_sync_edges xs (kind_of setting.program e.event.stmt) e.paired) (bare_edge Control (option_map_or (ref xs) e.parent origin.Entry) ∷ [])))

  -- a part that is there
  part_is : (q : Part) → part_at x k j ≡ Some q
      → (edges_if setting.program setting.plan (closed_logs setting h) (all_seen setting h) p k j (first_of (item_of x q))).found ≡ option_map (λ es. Ok es) (edges_of_part setting.program setting.plan xs x q)
  part_is (own n) place = by (slice_get x.trace.events n) refl
    where
      by : (o : Option TracedEvent) → slice_get x.trace.events n ≡ o → (edges_if setting.program setting.plan (closed_logs setting h) (all_seen setting h) p k j (first_of (item_of_event o))).found ≡ option_map (λ es. Ok es) (option_map (edges_of_event setting.program xs) o)
      by None g = refl
      by (Some e) g = ap (λ z. Some z) (event_is n e place g)
  part_is (nested m) place = by (slice_get x.spans m) refl
    where
      by : (o : Option Span) → slice_get x.spans m ≡ o → (edges_if setting.program setting.plan (closed_logs setting h) (all_seen setting h) p k j (first_of (item_of_span m o))).found ≡ option_map (λ es. Ok es) (option_map (model_edges_of_nested setting.plan xs) o)
      by None g = refl
      by (Some i) g = ap (λ q. Some (Ok (edges_of_nested setting.program setting.plan q p k j m i.block i.values (block_kind setting.plan i.block)).found)) f.seen_is ∙ ap (λ es. Some (Ok es)) (parts.inside m i place g)

  items_is : (i : Span) → slice_get x.spans k ≡ Some i → slice_get (get_or (seen_at (all_seen setting h) p).items k []) j ≡ item_if x (slice_get i.parts j)
  items_is i g =
      ap (λ (q : Seen). slice_get (get_or q.items k []) j) f.seen_is ∙ ap (λ l. slice_get l j) (map_at (items_of x) x.spans k i [] g)
      ∙ item_at x i.parts j ((items_whole setting h p x v there).whole k i g)

  none_there : slice_get x.spans k ≡ None → slice_get (get_or (seen_at (all_seen setting h) p).items k []) j ≡ None
  none_there g = ap (λ (q : Seen). slice_get (get_or q.items k []) j) f.seen_is ∙ ap (λ l. slice_get l j) (past x.spans k g)
    where
      past : (ss : List Span) (m : ℕ) → slice_get ss m ≡ None → get_or (map (items_of x) ss) m [] ≡ []
      past [] m e = refl
      past (s ∷ ss) zero e = absurd (none-some s (sym e))
      past (s ∷ ss) (suc m) e = past ss m e

  pub all_edges : (found_edges setting.program setting.plan (closed_logs setting h) (all_seen setting h) p k j).found ≡ option_map (λ es. Ok es) (edges setting (story setting h) p k j)
  all_edges = by (slice_get x.spans k) refl ∙ sym (ap (λ o. option_map (λ es. Ok es) (edges_in setting.program setting.plan xs k j o)) there)
    where
      by_part : (i : Span) → slice_get x.spans k ≡ Some i → (o : Option Part) → slice_get i.parts j ≡ o
          → (edges_if setting.program setting.plan (closed_logs setting h) (all_seen setting h) p k j (item_if x o)).found ≡ option_map (λ es. Ok es) (model_edges_if setting.program setting.plan xs x o)
      by_part i g None e = refl
      by_part i g (Some q) e = part_is q (ap (λ s. part_in s j) g ∙ e)

      by : (o : Option Span) → slice_get x.spans k ≡ o → (found_edges setting.program setting.plan (closed_logs setting h) (all_seen setting h) p k j).found ≡ option_map (λ es. Ok es) (model_edges_if setting.program setting.plan xs x (part_at x k j))
      by None g = ap (λ o. (edges_if setting.program setting.plan (closed_logs setting h) (all_seen setting h) p k j o).found) (none_there g) ∙ sym (ap (λ s. option_map (λ es. Ok es) (model_edges_if setting.program setting.plan xs x (part_in s j))) g)
      by (Some i) g =
          ap (λ o. (edges_if setting.program setting.plan (closed_logs setting h) (all_seen setting h) p k j o).found) (items_is i g) ∙ by_part i g (slice_get i.parts j) refl
          ∙ sym (ap (λ s. option_map (λ es. Ok es) (model_edges_if setting.program setting.plan xs x (part_in s j))) g)

pub assembled : EdgesAreFound
assembled setting h w v r free p k j x there parts = all_edges setting h v p k j x there parts (λ c tag s. shared_origins setting h w v r free p k j c tag s)
