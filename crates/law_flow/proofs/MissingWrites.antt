-- Each write that a search misses is missing.
use Rattle.law_flow.proofs.EdgeEvents.{any_write, events_before, is_found, none_written, walk_tells}
use Rattle.law_flow.proofs.RecordedWrites.{all_end_last, entry_records, sets_of_process}
use Rattle.law_flow.specs.Missing.{IsMissingWrite, MissingWritesAreTold, events_of}
use Rattle.ppd_ast.specs.Members.{has}
use Rattle.ppd_ast.specs.declared.plan.Plan.{Plan}
use Rattle.ppd_ast.specs.declared.program.Program.{Program}
use Rattle.ppd_model.specs.declared.entry.Logs.{Logs}
use Rattle.ppd_graph.specs.Ends.{end_interval, end_item}
use Rattle.ppd_graph.specs.Found.{and_more, before_others, edges_if, item_edges, last_edges, read_edge, read_edges, read_if, with_edge}
use Rattle.ppd_graph.specs.Looked.{Looked, look_map}
use Rattle.ppd_graph.specs.Seen.{Seen}
use Rattle.ppd_graph.specs.Shared.{Missing, edge_of_place, greater, greatest_before, greatest_writing, is_before_in, missing, origin_in, own_or, seen_at, shared_origin, walk_in, writing, writing_from, writing_in, written_at, written_or_start}
use Rattle.ppd_graph.specs.Walk.{walk}
use Rattle.ppd_graph.specs.declared.walked.Walked.{Walked}
use Rattle.ppd_graph.specs.declared.walked.Walked.TheVariants.{Found, Passed, Stopped}
use Rattle.ppd_graph.specs.Graphs.{sets_at}
use Rattle.ppd_graph.specs.LogRecord.{edge_sets_in, no_sets}
use Rattle.ppd_graph.specs.declared.sets.EdgeSets.{EdgeSets}
use Rattle.ppd_index.specs.Refusals.{first_in_lists}
use Rattle.ppd_model.specs.HappenedBefore.{edge}
use Rattle.ppd_model.specs.declared.flow.FlowEdge.{FlowEdge}
use Rattle.ppd_model.specs.declared.flow.Item.{Item}
use Rattle.ppd_model.specs.declared.flow.Item.TheVariants as item
use Rattle.ppd_model.specs.declared.flow.Origin.{Origin}
use Rattle.ppd_model.specs.declared.graph.EdgeId.{EdgeId}
use Rattle.ppd_sem.specs.declared.event.Access.{Access}
use Rattle.ppd_sem.specs.declared.event.Spot.{Spot}
use Rattle.ppd_sem.specs.declared.event.Spot.TheVariants.{Local, Shared}
use Rattle.std.proofs.Common.{Bool, Err, List, None, Ok, Option, Result, Some, [], ap, arith, cond, false, get_or, if◌then◌else◌, refl, subst, suc, sym, true, ℕ, ℤ, ◌++◌, ◌+◌, ◌∙◌, ◌∷◌, ◌≡◌}
use Rattle.std.specs.Prelude.{filter, fold, slice_get, ⊤}

-- each of these edges has the property
abbrev Each : (EdgeId → Type 0) → List EdgeId → Type 0
Each P [] = ⊤
Each P (a ∷ es) = P a × Each P es

abbrev If : (EdgeId → Type 0) → Option EdgeId → Type 0
If P None = ⊤
If P (Some a) = P a

each_both : (P : EdgeId → Type 0) (xs ys : List EdgeId) → Each P xs → Each P ys → Each P (xs ++ ys)
each_both P [] ys f g = g
each_both P (x ∷ xs) ys f g = (f.0, each_both P xs ys f.1 g)

each_kept : (P : EdgeId → Type 0) (test : EdgeId → Bool) (xs : List EdgeId) → Each P xs → Each P (filter test xs)
each_kept P test [] f = tt
each_kept P test (x ∷ xs) f = by (test x) (each_kept P test xs f.1)
  where
    by : (b : Bool) → Each P (filter test xs) → Each P (cond b (x ∷ filter test xs) (filter test xs))
    by true rest = (f.0, rest)
    by false rest = rest

module _ (P : EdgeId → Type 0) (before : EdgeId → EdgeId → Bool) where
  greater_has : (best : Option EdgeId) (a : EdgeId) → If P best → P a → If P (greater before best a)
  greater_has None a h f = f
  greater_has (Some b) a h f = by (before b a)
    where
      by : (t : Bool) → If P (if t then Some a else Some b)
      by true = f
      by false = h

  greatest_has : (best : Option EdgeId) (es : List EdgeId) → If P best → Each P es
      → If P (fold (greater before) best es)
  greatest_has best [] h f = h
  greatest_has best (a ∷ es) h f = greatest_has (greater before best a) es (greater_has best a h f.0) f.1

-- ---- edges that write a cell

module _ (c : ℕ) (sets : List (List EdgeSets)) where
  abbrev Writes : EdgeId → Type 0
  Writes a = has (sets_at sets a).writes c ≡ true

  of_process : (p i : ℕ) (ss : List EdgeSets)
      → ((t : ℕ) → get_or (get_or sets p []) (i + t) no_sets ≡ get_or ss t no_sets) → Each Writes (writing_in c p i ss)
  of_process p i [] at = tt
  of_process p i (s ∷ ss) at =
      by (has s.writes c) refl
      (of_process p (i + 1) ss (λ t. (let e : (i + 1) + t ≡ i + suc t = omega arith in
      ap (λ n. get_or (get_or sets p []) n no_sets) e) ∙ at (suc t)))
    where
      here : get_or (get_or sets p []) i no_sets ≡ s
      here = (let e : i ≡ i + 0 = omega arith in ap (λ n. get_or (get_or sets p []) n no_sets) e) ∙ at 0

      by : (b : Bool) → has s.writes c ≡ b → Each Writes (writing_in c p (i + 1) ss)
          → Each Writes (if b then edge p i ∷ writing_in c p (i + 1) ss else writing_in c p (i + 1) ss)
      by true e rest = (ap (λ (u : EdgeSets). has u.writes c) here ∙ e, rest)
      by false e rest = rest

  of_all : (p : ℕ) (rest : List (List EdgeSets)) → ((t : ℕ) → get_or sets (p + t) [] ≡ get_or rest t [])
      → Each Writes (writing_from c p rest)
  of_all p [] at = tt
  of_all p (ss ∷ rest) at =
      each_both Writes (writing_in c p 0 ss) (writing_from c (p + 1) rest)
      (of_process p 0 ss (λ t. (let e : 0 + t ≡ t = omega arith in ap (λ n. get_or (get_or sets p []) n no_sets) e)
      ∙ ap (λ (us : List EdgeSets). get_or us t no_sets) ((let z : p ≡ p + 0 =
      omega arith in ap (λ n. get_or sets n []) z) ∙ at 0)))
      (of_all (p + 1) rest (λ t. (let e : (p + 1) + t ≡ p + suc t = omega arith in ap (λ n. get_or sets n []) e)
      ∙ at (suc t)))

  pub all_write : Each Writes (writing_from c 0 sets)
  all_write = of_all 0 sets (λ t. let e : 0 + t ≡ t = omega arith in ap (λ n. get_or sets n []) e)

-- ---- what a search misses

module _ (program : Program) (plan : Plan) (logs : Logs) (xs : List Seen)
    (accepted : first_in_lists program plan 0 logs.lists ≡ None) where
  abbrev sets : List (List EdgeSets)
  sets = edge_sets_in logs

  -- the walk over the edge found no write
  of_edge : (c : ℕ) (a : EdgeId) → Writes c sets a → is_found c (walk_in logs xs c a).found ≡ false
      → IsMissingWrite logs xs (missing logs c a)
  of_edge c a h f =
      let x = seen_at xs a.process in
      let es = get_or logs.lists a.process [] in
      let e = entry_records c es a.edge (all_end_last program plan 0 logs.lists a.process accepted)
      (ap (λ (u : EdgeSets). has u.writes c) (sym (sets_of_process logs.lists a.process a.edge)) ∙ h) in
      record {
        entry = e.entry;
        there = e.there;
        ends = e.ends;
        recorded = e.writes;
        unwritten = subst (λ i. any_write c (events_of xs es (edge a.process i)) ≡ false) (sym e.before)
            (none_written c (events_before x (end_interval es a.edge) (end_item es x a.edge)) (walk_in logs xs c a).found f
            (walk_tells c x (end_interval es a.edge) (end_item es x a.edge)));
      }

  at_walk : (c : ℕ) (a : EdgeId) (w : Walked) (m : Missing) → Writes c sets a → (walk_in logs xs c a).found ≡ w
      → written_at logs c a w ≡ Err m → IsMissingWrite logs xs m
  at_walk c a (Found k i v) m h w e = absurd (cc e)
  at_walk c a Stopped m h w e =
      let is : missing logs c a ≡ m = cc e in subst (IsMissingWrite logs xs) is (of_edge c a h (ap (is_found c) w))
  at_walk c a Passed m h w e =
      let is : missing logs c a ≡ m = cc e in subst (IsMissingWrite logs xs) is (of_edge c a h (ap (is_found c) w))

  at_best : (c : ℕ) (best : Option EdgeId) (m : Missing) → If (Writes c sets) best
      → (written_or_start program logs xs c best).found ≡ Err m → IsMissingWrite logs xs m
  at_best c None m h e = absurd (cc e)
  at_best c (Some a) m h e = at_walk c a (walk_in logs xs c a).found m h refl e

  last_missing : (c : ℕ) (m : Missing) → (written_or_start program logs xs c (greatest_writing program logs c)).found
      ≡ Err m → IsMissingWrite logs xs m
  last_missing c m e =
      at_best c (greatest_writing program logs c) m
      (greatest_has (Writes c sets) (is_before_in program logs) None (writing logs c) tt (all_write c sets)) e

  without_value : (r : Result (ℤ × Origin) Missing) (m : Missing) → origin_in r ≡ Err m → r ≡ Err m
  without_value (Ok w) m e = absurd (cc e)
  without_value (Err n) m e = let is : n ≡ m = cc e in ap (λ u. Err u) is

  not_own : (p : ℕ) (w : Walked) (r : Looked (ℕ × ℕ) (Result Origin Missing)) (m : Missing)
      → (own_or p w r).found ≡ Err m → r.found ≡ Err m
  not_own p (Found k i v) r m e = absurd (cc e)
  not_own p Stopped r m e = e
  not_own p Passed r m e = e

  origin_missing : (p k j c : ℕ) (m : Missing) → (shared_origin program logs xs p k j c).found ≡ Err m → IsMissingWrite logs xs m
  origin_missing p k j c m e =
      let best = greatest_before program logs (edge_of_place logs xs p k j) c in
      at_best c best m
      (greatest_has (Writes c sets) (is_before_in program logs) None
      (filter (λ a. is_before_in program logs a (edge_of_place logs xs p k j)) (writing logs c)) tt
      (each_kept (Writes c sets) (λ a. is_before_in program logs a (edge_of_place logs xs p k j)) (writing logs c)
      (all_write c sets)))
      (without_value (written_or_start program logs xs c best).found m
      (not_own p (walk (seen_at xs p) c k j).found (look_map origin_in (written_or_start program logs xs c best)) m e))

  -- ---- the edges of an item

  module _ (p k j : ℕ) where
    of_read : (a : Access) (s : Spot) (m : Missing) → (read_edge program plan logs xs p k j a s).found ≡ Err m
        → IsMissingWrite logs xs m
    of_read a (Local frame c) m e = absurd (cc e)
    of_read a (Shared c) m e = origin_missing p k j c m (by (shared_origin program logs xs p k j c).found e)
      where
        by : (r : Result Origin Missing) → read_if a r ≡ Err m → r ≡ Err m
        by (Ok from) f = absurd (cc f)
        by (Err n) f = let is : n ≡ m = cc f in ap (λ u. Err u) is

    of_reads : (reads : List Access) (m : Missing) → (read_edges program plan logs xs p k j reads).found ≡ Err m
        → IsMissingWrite logs xs m
    of_reads [] m e = absurd (cc e)
    of_reads (a ∷ reads) m e =
        by (read_edge program plan logs xs p k j a a.spot).found (read_edges program plan logs xs p k j reads)
        (of_read a a.spot m) (of_reads reads m) e
      where
        others : (x : FlowEdge) (rs : Result (List FlowEdge) Missing) → with_edge x rs ≡ Err m → rs ≡ Err m
        others x (Ok ys) h = absurd (cc h)
        others x (Err n) h = let is : n ≡ m = cc h in ap (λ u. Err u) is

        by : (r : Result FlowEdge Missing) (rs : Looked (ℕ × ℕ) (Result (List FlowEdge) Missing))
            → (r ≡ Err m → IsMissingWrite logs xs m) → (rs.found ≡ Err m → IsMissingWrite logs xs m)
            → (before_others r rs).found ≡ Err m → IsMissingWrite logs xs m
        by (Ok x) rs f g h = g (others x rs.found h)
        by (Err n) rs f g h = let is : n ≡ m = cc h in f (ap (λ u. Err u) is)

    with_more : (r : Result (List FlowEdge) Missing) (more : Looked (ℕ × ℕ) (List FlowEdge)) (m : Missing)
        → (and_more r more).found ≡ Err m → r ≡ Err m
    with_more (Ok es) more m e = absurd (cc e)
    with_more (Err n) more m e = let is : n ≡ m = cc e in ap (λ u. Err u) is

    of_item : (t : Item) (m : Missing) → (item_edges program plan logs xs p k j t).found ≡ Err m → IsMissingWrite logs xs m
    of_item (item.Own ev) m e = of_reads ev.reads m (with_more (read_edges program plan logs xs p k j ev.reads).found (last_edges program plan logs xs p k j ev) m e)
    of_item (item.Nested n b values closed) m e = absurd (cc e)

    of_there : (t : Option Item) (m : Missing) → (edges_if program plan logs xs p k j t).found ≡ Some (Err m)
        → IsMissingWrite logs xs m
    of_there None m e = absurd (cc e)
    of_there (Some t) m e = let is : (item_edges program plan logs xs p k j t).found ≡ Err m = cc e in of_item t m is

pub missing_writes_are_told : MissingWritesAreTold
missing_writes_are_told program plan logs xs accepted = record {
  origins = λ p k j c m e. origin_missing program plan logs xs accepted p k j c m e;
  last = λ c m e. last_missing program plan logs xs accepted c m e;
  edges = λ p k j m e. of_there program plan logs xs accepted p k j (slice_get (get_or (seen_at xs p).items k []) j) m e;
}
