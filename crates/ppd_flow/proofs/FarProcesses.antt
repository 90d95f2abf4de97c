-- The processes of which intervals are replayed for the edges of an item: where those of them are kept, nothing is
-- replayed.
use Rattle.ppd_ast.specs.declared.plan.Plan.{Plan}
use Rattle.ppd_ast.specs.declared.program.Program.{Program}
use Rattle.ppd_flow.specs.Far.{RoseWithin, far_in, far_of_item, far_of_pair, far_of_reads, far_of_reads_at, far_of_spot, far_of_sync, process_of}
use Rattle.ppd_flow_local.specs.declared.search.Place.{Place}
use Rattle.ppd_flow_local.specs.declared.search.Search.{Search}
use Rattle.ppd_graph.specs.Ends.{end_interval, end_item}
use Rattle.ppd_graph.specs.Found.{and_more, before_others, edges_if, found_edges, last_edges, read_edge, read_edges, sync_edges}
use Rattle.ppd_graph.specs.Looked.{Looked, look_map}
use Rattle.ppd_graph.specs.Seen.{Seen}
use Rattle.ppd_graph.specs.Shared.{Missing, edge_of_place, greatest_before, in_process, of_process, origin_in, own_or, pair_of, pair_place, seen_at, written_or_start}
use Rattle.ppd_graph.specs.Walk.{walk}
use Rattle.ppd_graph.specs.declared.walked.Walked.{Walked}
use Rattle.ppd_graph.specs.declared.walked.Walked.TheVariants.{Found, Passed, Stopped}
use Rattle.ppd_flow_past.proofs.Found.{costs}
use Rattle.ppd_flow_past.proofs.Keeping.{AreFree}
use Rattle.ppd_flow_past.specs.ByReplays.{cost, steps_to_replay}
use Rattle.ppd_model.specs.declared.flow_error.FlowError.{FlowError}
use Rattle.ppd_flow_past.specs.declared.past.Past.{Past}
use Rattle.ppd_flow_shared.proofs.SharedFound.{seen_there}
use Rattle.ppd_flow_shared.specs.SharedCells.{IsSought, edge_unless_found, seens_in}
use Rattle.ppd_graph.specs.declared.paired.Paired.{Paired}
use Rattle.ppd_graph.specs.declared.paired.Paired.TheVariants.{Initial, Node, Nothing}
use Rattle.ppd_model.specs.declared.flow.FlowEdge.{FlowEdge}
use Rattle.ppd_model.specs.declared.flow.Item.{Item}
use Rattle.ppd_model.specs.declared.flow.Item.TheVariants as item
use Rattle.ppd_model.specs.declared.graph.EdgeId.{EdgeId}
use Rattle.ppd_sem.specs.declared.event.Access.{Access}
use Rattle.ppd_sem.specs.declared.event.Event.{Event}
use Rattle.ppd_sem.specs.declared.event.Spot.{Spot}
use Rattle.ppd_sem.specs.declared.event.Spot.TheVariants.{Local, Shared}
use Rattle.std.proofs.Common.{Err, List, None, Ok, Option, Result, Some, [], add-one, ap, arith, drop, drop-cons, get_or, length, refl, subst, suc, sym, ℕ, ◌++◌, ◌+◌, ◌<◌, ◌∙◌, ◌∷◌, ◌≡◌, ◌≤◌}
use Rattle.std.proofs.lemmas.List.{append-nil, append_assoc, drop_all, map-append}
use Rattle.std.proofs.lemmas.Option.{slice_get_past}
use Rattle.std.specs.Prelude.{option_to_list, slice_get, ⊤}

-- ---- the counter

pub rose_none : (past : Past) (p n : ℕ) → RoseWithin past p n n
rose_none past p n = ([], omega arith)

pub rose_then : (past : Past) (p n m o : ℕ) → RoseWithin past p n m → RoseWithin past p m o → RoseWithin past p n o
rose_then past p n m o f g =
    let ks : List ℕ = f.0 in
    let ls : List ℕ = g.0 in
    let both : cost past (of_process p (ks ++ ls)) ≡ cost past (of_process p ks ++ of_process p ls) =
    ap (cost past) (map-append (λ k. (p, k)) ks ls) in
    let parts = costs past (of_process p ks) (of_process p ls) in
    let first = f.1 in
    let second = g.1 in
    (ks ++ ls, omega (arith, both, parts, first, second))

-- ---- a read

abbrev edge_in : Option EdgeId → Result (Option EdgeId) FlowError → Option EdgeId
edge_in d (Ok o) = o
edge_in d (Err e) = d

module _ (past : Past) (p k j c : ℕ) where
  abbrev best : Option EdgeId
  best = greatest_before past.program.now past.logs.now (edge_of_place past.logs.now (seens_in past) p k j) c

  abbrev Edge : Seen → Option EdgeId → Type 0
  Edge x o = process_of (edge_unless_found (walk x c k j).found best) ≡ process_of o

  pub far_read : (x : Seen) (o : Option EdgeId) (n m : ℕ) → x ≡ seen_at (seens_in past) p
      → IsSought past (look_map (λ w. edge_unless_found w best) (in_process p (walk x c k j))) n m (Ok o)
      → process_of o ≡ far_of_spot past.program.now past.logs.now (seens_in past) p k j (Shared c)
  far_read x o n m is f =
      sym (subst (λ y. Edge y o) is (ap (λ r. process_of (edge_in o r)) f.1))

-- ---- reads, from number i on

dropped : (xs : List Access) (i : ℕ) (d x : Access) → i < length xs → x ≡ get_or xs i d → drop i xs ≡ x ∷ drop (i + 1) xs
dropped xs i d x h e = drop-cons xs i d h ∙ (ap (λ y. y ∷ drop (suc i) xs) (sym e) ∙ ap (λ n. x ∷ drop n xs) (sym (add-one i)))

module _ (s : Search) (place : Place) (reads : List Access) (i : ℕ) (found : List ℕ)
    (so : found ++ far_of_reads_at s place (drop i reads) ≡ far_of_reads_at s place reads) where
  pub far_more : (a d : Access) (o : Option ℕ) (now : List ℕ) → i < length reads → a ≡ get_or reads i d
      → now ≡ found ++ option_to_list o
      → option_to_list o ≡ far_of_spot s.past.now.program.now s.past.now.logs.now (seens_in s.past.now) s.process place.interval place.item a.spot
      → now ++ far_of_reads_at s place (drop (i + 1) reads) ≡ far_of_reads_at s place reads
  far_more a d o now lt at push is =
      let rest : List ℕ = far_of_reads_at s place (drop (i + 1) reads) in
      ap (λ (xs : List ℕ). xs ++ rest) push ∙ append_assoc found (option_to_list o) rest
      ∙ ap (λ (xs : List ℕ). found ++ (xs ++ rest)) is
      ∙ ap (λ (xs : List Access). found ++ far_of_reads_at s place xs) (sym (dropped reads i d a lt at)) ∙ so

  pub far_all : length reads ≤ i → found ≡ far_of_reads_at s place reads
  far_all over =
      sym (append-nil found) ∙ ap (λ (xs : List Access). found ++ far_of_reads_at s place xs) (sym (drop_all i reads over)) ∙ so

-- ---- an item, where the items of its interval are these

module _ (past : Past) (p k j : ℕ) (items : List Item) (are : get_or (seen_at (seens_in past) p).items k [] ≡ items) where
  pub far_there : (o : Option Item) → slice_get items j ≡ o
      → far_in past p k j ≡ far_of_item past.program.now past.logs.now (seens_in past) p k j o
  far_there o e =
      ap (far_of_item past.program.now past.logs.now (seens_in past) p k j) (ap (λ (ts : List Item). slice_get ts j) are ∙ e)

  pub far_absent : (found : List ℕ) → found ≡ [] → length items ≤ j → found ≡ far_in past p k j
  far_absent found none over = none ∙ sym (far_there None (slice_get_past items j over))

-- ---- what is free

-- no interval of the process is replayed
abbrev pub IsFree : Past → ℕ → Type 0
IsFree past q = (k : ℕ) → steps_to_replay past q k ≡ 0

-- of none of these processes
abbrev pub AreFreeOf : Past → List ℕ → Type 0
AreFreeOf past [] = ⊤
AreFreeOf past (q ∷ qs) = IsFree past q × AreFreeOf past qs

module _ (past : Past) where
  front : (ps qs : List ℕ) → AreFreeOf past (ps ++ qs) → AreFreeOf past ps
  front [] qs h = tt
  front (p ∷ ps) qs h = (h.0, front ps qs h.1)

  behind : (ps qs : List ℕ) → AreFreeOf past (ps ++ qs) → AreFreeOf past qs
  behind [] qs h = h
  behind (p ∷ ps) qs h = behind ps qs h.1

  both : (ms ns : List (ℕ × ℕ)) → AreFree past ms → AreFree past ns → AreFree past (ms ++ ns)
  both [] ns f g = g
  both (m ∷ ms) ns f g = (f.0, both ms ns f.1 g)

  of_free : (q : ℕ) (ks : List ℕ) → IsFree past q → AreFree past (of_process q ks)
  of_free q [] h = tt
  of_free q (k ∷ ks) h = (h k, of_free q ks h)

  others_free : (r : Result FlowEdge Missing) (others : Looked (ℕ × ℕ) (Result (List FlowEdge) Missing))
      → AreFree past others.replays → AreFree past (before_others r others).replays
  others_free (Ok e) others h = h
  others_free (Err m) others h = tt

  more_free : (r : Result (List FlowEdge) Missing) (more : Looked (ℕ × ℕ) (List FlowEdge))
      → AreFree past more.replays → AreFree past (and_more r more).replays
  more_free (Ok es) more h = h
  more_free (Err m) more h = tt

  module _ (p k j : ℕ) (own : IsFree past p) where
    abbrev xs : List Seen
    xs = seens_in past

    -- the intervals that are replayed for where a cell was written in this edge
    abbrev replayed_for : ℕ → EdgeId → List ℕ
    replayed_for c a =
        end_interval (get_or past.logs.now.lists a.process []) a.edge
        ∷ (walk (seen_at xs a.process) c (end_interval (get_or past.logs.now.lists a.process []) a.edge) (end_item (get_or past.logs.now.lists a.process []) (seen_at xs a.process) a.edge)).replays

    edge_free : (c : ℕ) (w : Walked) (o : Option EdgeId) → AreFreeOf past (process_of (edge_unless_found w o))
        → AreFree past (own_or p w (look_map origin_in (written_or_start past.program.now past.logs.now xs c o))).replays
    edge_free c (Found m i v) o h = tt
    edge_free c Stopped None h = tt
    edge_free c Stopped (Some a) h = of_free a.process (replayed_for c a) h.0
    edge_free c Passed None h = tt
    edge_free c Passed (Some a) h = of_free a.process (replayed_for c a) h.0

    read_free : (a : Access) (spot : Spot) → AreFreeOf past (far_of_spot past.program.now past.logs.now xs p k j spot)
        → AreFree past (read_edge past.program.now past.plan.now past.logs.now xs p k j a spot).replays
    read_free a (Local frame c) h = of_free p _ own
    read_free a (Shared c) h = both (of_process p (walk (seen_at xs p) c k j).replays) _ (of_free p _ own) (edge_free c (walk (seen_at xs p) c k j).found (greatest_before past.program.now past.logs.now (edge_of_place past.logs.now xs p k j) c) h)

    reads_free : (reads : List Access) → AreFreeOf past (far_of_reads past.program.now past.logs.now xs p k j reads)
        → AreFree past (read_edges past.program.now past.plan.now past.logs.now xs p k j reads).replays
    reads_free [] h = tt
    reads_free (a ∷ as') h =
        let first : List ℕ = far_of_spot past.program.now past.logs.now xs p k j a.spot in
        let others : List ℕ = far_of_reads past.program.now past.logs.now xs p k j as' in
        both (read_edge past.program.now past.plan.now past.logs.now xs p k j a a.spot).replays _ (read_free a a.spot (front first others h))
        (others_free (read_edge past.program.now past.plan.now past.logs.now xs p k j a a.spot).found (read_edges past.program.now past.plan.now past.logs.now xs p k j as') (reads_free as' (behind first others h)))

    pair_free : (pair : Paired) → AreFreeOf past (far_of_pair pair) → AreFree past (pair_place past.logs.now xs pair).replays
    pair_free Nothing h = tt
    pair_free Initial h = tt
    pair_free (Node a) h = (h.0 _, tt)

    sync_free : (number : Option ℕ) → AreFreeOf past (far_of_sync past.program.now past.logs.now xs p k j number)
        → AreFree past (sync_edges past.program.now past.logs.now xs p k j number).replays
    sync_free None h = tt
    sync_free (Some number) h = pair_free (pair_of past.program.now past.logs.now xs p k j) h

    item_free : (t : Option Item) → AreFreeOf past (far_of_item past.program.now past.logs.now xs p k j t)
        → AreFree past (edges_if past.program.now past.plan.now past.logs.now xs p k j t).replays
    item_free None h = tt
    item_free (Some (item.Nested m b values closed)) h = of_free p _ own
    item_free (Some (item.Own e)) h =
        let reads : List ℕ = far_of_reads past.program.now past.logs.now xs p k j e.reads in
        let sync : List ℕ = far_of_sync past.program.now past.logs.now xs p k j e.number in
        both (read_edges past.program.now past.plan.now past.logs.now xs p k j e.reads).replays _ (reads_free e.reads (front reads sync h))
        (more_free (read_edges past.program.now past.plan.now past.logs.now xs p k j e.reads).found (last_edges past.program.now past.plan.now past.logs.now xs p k j e)
        (both (sync_edges past.program.now past.logs.now xs p k j e.number).replays _ (sync_free e.number (behind reads sync h)) (of_free p _ own)))

    -- so nothing is replayed for the edges of an item
    pub edges_free : AreFreeOf past (far_in past p k j)
        → AreFree past (found_edges past.program.now past.plan.now past.logs.now xs p k j).replays
    edges_free h = (own k, item_free (slice_get (get_or (seen_at xs p).items k []) j) h)
