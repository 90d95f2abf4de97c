-- Pasts with races by the order of a past's graph are those by happened-before.
use Rattle.law_clean.proofs.PastClear.{some_there}
use Rattle.law_clean.proofs.PastRaces.{both, edge_of_race, either}
use Rattle.law_clean.proofs.PastsGrow.{before_back, next_before}
use Rattle.law_clean.specs.Pasts.{any_raced, is_past, is_raced, is_same_edge}
use Rattle.law_clean.specs.Search as sought
use Rattle.ppd_ast.proofs.Those.{both as same_tests}
use Rattle.ppd_ast.proofs.ValidLaws.{slice_get_there}
use Rattle.ppd_ast.specs.declared.program.Program.{Program}
use Rattle.ppd_clean.proofs.FirstEdges.{first_raced, same_any}
use Rattle.ppd_clean.proofs.Ranges.{any_same, find_same}
use Rattle.ppd_clean.proofs.There.{raced_there}
use Rattle.ppd_clean.specs.ByOrder.{first_unclean, has_race}
use Rattle.ppd_clean.specs.Firsts.{firsts_of}
use Rattle.ppd_clean_past.proofs.LastEdges.{counted}
use Rattle.ppd_clean_past.specs.ByOrder.{ends_before, is_in_past, last_edge, leads_from_race}
use Rattle.ppd_model.specs.declared.entry.Logs.{Logs}
use Rattle.ppd_flow_past.proofs.Edges.Before.{before_is}
use Rattle.ppd_graph.specs.Graphs.{IsEdge, IsGraphOf, edge_count, is_before_by}
use Rattle.ppd_graph.specs.declared.sync_graph.SyncGraph.{SyncGraph}
use Rattle.ppd_model.proofs.LastEdges.{before_from}
use Rattle.ppd_model.proofs.Tested.{In, before_there, tests_before, tests_edges}
use Rattle.ppd_model.specs.HappenedBefore.{Before, EdgeBefore, across, earlier, edge, is_before, is_edge_before, node, sync_at, through}
use Rattle.ppd_model.specs.RecordedSets.{record_in}
use Rattle.ppd_model.specs.Synchronizations.{Sync}
use Rattle.ppd_model.specs.declared.graph.EdgeId.{EdgeId}
use Rattle.ppd_model.specs.declared.graph.NodeId.{NodeId}
use Rattle.ppd_model.specs.declared.graph.Race.{Race}
use Rattle.ppd_race.specs.Races.{IsThere, edges_of_logs, races_among}
use Rattle.std.proofs.Common.{Bool, List, [], ap, arith, eq-eqb, eqb-true, false, get_or, if◌then◌else◌, inl, inr, length, refl, subst, suc, sym, true, zero, ℕ, ◌+◌, ◌-◌, ◌<◌, ◌||◌, ◌∙◌, ◌≡◌, ◌≤◌, ◌⊎◌}
use Rattle.std.proofs.lemmas.Bool.{and_from, cases_eq, cases_lt, false_from_ne_true, le-ltb, leb-false, leb-true, lt-ltb, ltb-true, or_left, or_right}
use Rattle.std.specs.List.{list_any, range_with_len}
use Rattle.std.specs.Prelude.{IsTrue, find, is_some, nat_eq, nat_le, nat_lt}

-- ---- happened-before along a process

module _ (program : Program) (rec : List (List Sync)) where
  pub node_back : (q i d : ℕ) (b : NodeId) → Before program rec (node q i) b → d ≤ i → Before program rec (node q d) b
  node_back q i d b h le =
      let z : d + (i - d) ≡ i = omega (arith, le) in
      before_back program rec (i - d) q d b (subst (λ x. Before program rec (node q x) b) (sym z) h)

  edge_back : (a e : EdgeId) (i : ℕ) → EdgeBefore program rec a e → i ≤ a.edge → EdgeBefore program rec (edge a.process i) e
  edge_back a e i (earlier same lt) le = let less : a.edge < e.edge = lt in earlier same (omega (arith, less, le))
  edge_back a e i (across apart j is b) le = across apart j is (node_back a.process a.edge i (node e.process j) b le)

  -- the past of an edge has the edges before those that it has
  pub past_back : (races : List Race) (e a : EdgeId) (i : ℕ) → i ≤ a.edge → is_past program rec e a ≡ true
      → is_past program rec e (edge a.process i) ≡ true
  past_back races e a i le h = elim (either (is_same_edge a e) (is_edge_before program rec a e) h) [
    | inr before ↦
        or_right (is_same_edge (edge a.process i) e) (is_edge_before program rec (edge a.process i) e)
        ((tests_edges program rec (edge a.process i) e).1 (edge_back a e i ((tests_edges program rec a e).0 before) le))
    | inl same ↦
        let b = both (nat_eq a.process e.process) (nat_eq a.edge e.edge) same in
        let is : a.edge ≡ e.edge = eqb-true a.edge e.edge b.1 in
        elim (cases_eq i e.edge) [
          | inl here ↦
              or_left (is_same_edge (edge a.process i) e) (is_edge_before program rec (edge a.process i) e)
              (and_from (nat_eq a.process e.process) (nat_eq i e.edge) b.0 (eq-eqb i e.edge here))
          | inr other ↦
              or_right (is_same_edge (edge a.process i) e) (is_edge_before program rec (edge a.process i) e)
              ((tests_edges program rec (edge a.process i) e).1 (earlier (eqb-true a.process e.process b.0) (omega (arith, le, is, other))))
        ]
  ]

  pub leads_back : (p e : ℕ) (a : EdgeId) (i : ℕ) → i ≤ a.edge → is_before program rec (node a.process a.edge) (node p e) ≡ true
      → is_before program rec (node a.process i) (node p e) ≡ true
  leads_back p e a i le h =
      (tests_before program rec (node a.process i) (node p e)).1
      (node_back a.process a.edge i (node p e) ((tests_before program rec (node a.process a.edge) (node p e)).0 h) le)

  there_is : (p e : ℕ) → e < length (get_or rec p []) → IsTrue (is_some (sync_at rec (node p e)))
  there_is p e lt = ap is_some (slice_get_there (get_or rec p []) e lt).1

  earlier_before : (p a e : ℕ) → a < e → e < length (get_or rec p []) → Before program rec (node p a) (node p e)
  earlier_before p a e lt there =
      let z : (e - 1) + 1 ≡ e = omega (arith, lt) in
      let last : Before program rec (node p (e - 1)) (node p ((e - 1) + 1)) = next_before program rec p (e - 1) (subst (λ i. IsTrue (is_some (sync_at rec (node p i)))) (sym z) (there_is p e there)) in
      node_back p (e - 1) a (node p e) (subst (λ i. Before program rec (node p (e - 1)) (node p i)) z last) (omega (arith, lt))

  -- where nothing happens before itself, the synchronizations of a process are in their order
  module _ (ordered : (a : NodeId) → Before program rec a a → ⊥) where
    pub own_order : (p a e : ℕ) → e < length (get_or rec p []) → is_before program rec (node p a) (node p e) ≡ nat_lt a e
    own_order p a e there =
        same_tests (is_before program rec (node p a) (node p e)) (nat_lt a e) (λ h. lt-ltb a e (forth ((tests_before program rec (node p a) (node p e)).0 h)))
        (λ h. (tests_before program rec (node p a) (node p e)).1 (earlier_before p a e (ltb-true a e h) there))
      where
        forth : Before program rec (node p a) (node p e) → a < e
        forth b = elim (cases_lt a e) [
          | inl lt ↦ lt
          | inr ge ↦ absurd (elim (cases_eq a e) [
            | inl same ↦ ordered (node p e) (subst (λ i. Before program rec (node p i) (node p e)) same b)
            | inr other ↦ ordered (node p a) (through b (earlier_before p e a (omega (arith, ge, other)) (some_there (get_or rec p []) a (before_from program rec (node p a) (node p e) b))))
          ])
        ]

-- ---- edges of a graph

module _ (program : Program) (logs : Logs) (g : SyncGraph) (is : IsGraphOf program logs g) where
  abbrev rec : List (List Sync)
  rec = record_in logs

  -- it has the edge, or the edge is the first of its process
  abbrev pub IsIn : EdgeId → Type 0
  IsIn e = IsEdge g e ⊎ (e.edge ≡ 0)

  pub inside : (q i : ℕ) → i ≤ last_edge logs q → IsIn (edge q i)
  inside q i le = elim (counted program logs g is q) [
    | inl c ↦ (let r : i < edge_count g q = omega (arith, le, c) in inl r)
    | inr n ↦ (let z = n.1 in let r : i ≡ 0 = omega (arith, le, z) in inr r)
  ]

  pub ended : (q i : ℕ) → i < last_edge logs q → IsEdge g (edge q i) × IsEdge g (edge q (i + 1))
  ended q i lt = elim (counted program logs g is q) [
    | inl c ↦ (let r : i < edge_count g q = omega (arith, lt, c) in let s : i + 1 < edge_count g q = omega (arith, lt, c) in (r, s))
    | inr n ↦ absurd (let z = n.1 in omega (arith, lt, z))
  ]

  pub before_same : (a b : EdgeId) → IsEdge g a → IsIn b → is_before_by g a b ≡ is_edge_before program (record_in logs) a b
  before_same a b x (inl y) = before_is program logs g is a b x y
  before_same a b x (inr e) = by b.edge e
    where
      by : (j : ℕ) → j ≡ 0 → is_before_by g a (record b { edge = j }) ≡ is_edge_before program (record_in logs) a (record b { edge = j })
      by zero e = ap (λ z. if nat_eq a.process b.process then nat_lt a.edge 0 else z) (le-ltb a.edge 0 (omega arith))
      by (suc j) e = absurd (omega (arith, e))

  -- ---- by the first edges in races

  module _ (races : List Race) (races_are : races ≡ races_among (edges_of_logs program logs)) where
    abbrev firsts : List EdgeId
    firsts = firsts_of races (length logs.lists)

    raced_is : (a : EdgeId) → is_raced races a ≡ true → (a.process < length logs.lists) × IsEdge g a
    raced_is a h =
        let t : IsThere (edges_of_logs program logs) a = raced_there (edges_of_logs program logs) a (subst (λ rs. is_raced rs a ≡ true) races_are h) in
        (t.0, subst (λ sets. a.edge < length (get_or sets a.process [])) (sym is.sets) t.1)

    pub first_is_edge : (a : EdgeId) → In a (firsts_of races (length logs.lists)) → IsEdge g a
    first_is_edge a m = (raced_is a (first_raced races (length logs.lists) a m)).1

    pub any_first : (t : EdgeId → Bool) → ((a : EdgeId) (i : ℕ) → i ≤ a.edge → t a ≡ true → t (edge a.process i) ≡ true)
        → list_any t (firsts_of races (length logs.lists)) ≡ list_any (λ (r : Race). t (edge r.p r.i) || t (edge r.q r.j)) races
    any_first t down = same_any races (length logs.lists) (λ a h. (raced_is a h).0) t down

    pub has_race_is : (e : EdgeId) → IsIn e → has_race g (firsts_of races (length logs.lists)) e ≡ any_raced (is_past program (record_in logs) e) races
    has_race_is e x =
        any_same (is_in_past g e) (is_past program (record_in logs) e) firsts (λ a m. ap (λ b. is_same_edge a e || b) (before_same a e (first_is_edge a m) x))
        ∙ any_first (is_past program (record_in logs) e) (past_back program (record_in logs) races e)

    -- ---- the first edge whose past has a race

    pub first_is : (p from : ℕ) → first_unclean g (firsts_of races (length logs.lists)) p from (last_edge logs p)
        ≡ find (λ i. any_raced (is_past program (record_in logs) (edge p i)) races) (range_with_len from (last_edge logs p + 1 - from))
    first_is p from =
        find_same (λ i. has_race g firsts (edge p i)) (λ i. any_raced (is_past program (record_in logs) (edge p i)) races) from (last_edge logs p + 1 - from)
        (λ i low high. has_race_is (edge p i) (inside p i (omega (arith, low, high))))

    -- ---- a race that leads to a synchronization

    module _ (ordered : (a : NodeId) → Before program (record_in logs) a a → ⊥) (p e : ℕ) where
      abbrev leads : EdgeId → Bool
      leads a = is_before program (record_in logs) (node a.process a.edge) (node p e)

      none_leads : last_edge logs p ≤ e → false ≡ sought.leads_from_race program (record_in logs) races (edge p e)
      none_leads past = sym (false_from_ne_true (sought.leads_from_race program (record_in logs) races (edge p e)) (λ h.
          let f = edge_of_race leads races h in
          let there : e < length (get_or (record_in logs) p []) = some_there (get_or (record_in logs) p []) e (before_there program (record_in logs) (node f.0.process f.0.edge) (node p e) ((tests_before program (record_in logs) (node f.0.process f.0.edge) (node p e)).0 f.2)) in
          omega (arith, there, past)))

      one_leads : e < last_edge logs p → (a : EdgeId) → In a (firsts_of races (length logs.lists)) → ends_before g (edge p e) a ≡ is_before program (record_in logs) (node a.process a.edge) (node p e)
      one_leads lt a m = by (nat_eq a.process p) refl
        where
          next : suc e ≡ e + 1
          next = omega arith

          across_is : (t : Bool) → nat_eq a.process p ≡ t → t ≡ false → is_before_by g a (edge p (e + 1)) ≡ is_before program (record_in logs) (node a.process a.edge) (node p e)
          across_is t is apart =
              before_same a (edge p (e + 1)) (first_is_edge a m) (inl (ended p e lt).1)
              ∙ ap (λ n. is_edge_before program (record_in logs) a (edge p n)) (sym next)
              ∙ ap (λ b. if b then nat_lt a.edge (suc e) else is_before program (record_in logs) (node a.process a.edge) (node p e)) (is ∙ apart)

          by : (t : Bool) → nat_eq a.process p ≡ t → (if t then nat_lt a.edge e else is_before_by g a (edge p (e + 1))) ≡ is_before program (record_in logs) (node a.process a.edge) (node p e)
          by true is =
              sym (own_order program (record_in logs) ordered p a.edge e lt)
              ∙ ap (λ q. is_before program (record_in logs) (node q a.edge) (node p e)) (sym (eqb-true a.process p is))
          by false is = across_is false is refl

      pub leads_is : leads_from_race g (firsts_of races (length logs.lists)) (last_edge logs p) (edge p e) ≡ sought.leads_from_race program (record_in logs) races (edge p e)
      leads_is = by (nat_le (last_edge logs p) e) refl
        where
          by : (t : Bool) → nat_le (last_edge logs p) e ≡ t → (if t then false else list_any (ends_before g (edge p e)) firsts) ≡ sought.leads_from_race program (record_in logs) races (edge p e)
          by true is = none_leads (leb-true (last_edge logs p) e is)
          by false is =
              any_same (ends_before g (edge p e)) leads firsts (one_leads (leb-false (last_edge logs p) e is))
              ∙ any_first leads (leads_back program (record_in logs) p e)
