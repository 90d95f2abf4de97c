-- What is put together is the graph of the logs.
use Rattle.ppd_ast.specs.declared.program.Program.{Program}
use Rattle.ppd_model.specs.declared.entry.Entry.{Entry}
use Rattle.ppd_model.specs.declared.entry.Entry.TheVariants as entry
use Rattle.ppd_model.specs.declared.entry.Logs.{Logs}
use Rattle.ppd_graph.proofs.Closing.{rounds_are_cycles}
use Rattle.ppd_graph.proofs.Counted.{kept_few}
use Rattle.ppd_graph.proofs.Leads.{length_mapped, partners_found, row_mapped}
use Rattle.ppd_graph.proofs.Once.{once}
use Rattle.ppd_graph.proofs.Order.{counts_rise, none_before_itself, order}
use Rattle.ppd_graph.proofs.Timed.{own_below}
use Rattle.ppd_graph.specs.Cycles.{AllWait, IsCycle, IsRoundsCycle}
use Rattle.ppd_graph.specs.Graphs.{IsGraphOf}
use Rattle.ppd_graph.specs.LogRecord.{AreFew, edge_sets, edge_sets_in, sets_from}
use Rattle.ppd_graph.specs.Partners.{pairs_of, partner_of}
use Rattle.ppd_graph.specs.Refusals.{AreNumbered, AreOrdered, IsRefused, placed}
use Rattle.ppd_graph.specs.Times.{ArePartners, AreTimed, HasAll, IsReady, own_pairs, own_times}
use Rattle.ppd_graph.specs.declared.paired.Paired.{Paired}
use Rattle.ppd_model.specs.declared.bad_sync.BadSync.TheVariants.{Cycle}
use Rattle.ppd_graph.specs.declared.sets.EdgeSets.{EdgeSets}
use Rattle.ppd_model.proofs.Lists.{get_or_map}
use Rattle.ppd_model.proofs.Tested.{none_is_before_itself}
use Rattle.ppd_model.specs.RecordedSets.{record_in, sync_in}
use Rattle.ppd_model.specs.declared.graph.NodeId.{NodeId}
use Rattle.std.proofs.Common.{Bool, List, None, Option, [], ap, arith, filter_map, get_or, length, map, refl, subst, suc, sym, true, zero, ℕ, ◌+◌, ◌<◌, ◌^◌, ◌∙◌, ◌∷◌, ◌≡◌, ◌≤◌}
use Rattle.std.specs.Prelude.{IsTrue, Some, unwrap_or}

-- ---- lengths

pub at_there : {A B : Type 0} (f : List A → List B) (rows : List (List A)) (q : ℕ) → q < length rows → get_or (map f rows) q [] ≡ f (get_or rows q [])
at_there f [] q lt = absurd (omega (arith, lt))
at_there f (row ∷ rows) zero lt = refl
at_there f (row ∷ rows) (suc q) lt = at_there f rows q (omega (arith, lt))

pub sets_count : (found : Option EdgeSets) (es : List Entry) → length (sets_from found es) ≡ length (filter_map sync_in es) + 1
sets_count found [] = refl
sets_count found (entry.Sync kind object number value reads writes ∷ es) = let h = sets_count None es in omega (arith, h)
sets_count found (entry.Prelog block values ∷ es) = sets_count found es
sets_count found (entry.Unit unit values ∷ es) = sets_count found es
sets_count found (entry.Postlog block values ∷ es) = sets_count found es
sets_count found (entry.End status rest reads writes ∷ es) = sets_count (Some (unwrap_or found (edge_sets reads writes))) es

module _ (logs : Logs) where
  own_syncs_are : (q : ℕ) → get_or (record_in logs) q [] ≡ filter_map sync_in (get_or logs.lists q [])
  own_syncs_are q = get_or_map (filter_map sync_in) logs.lists q refl

  pub syncs_few : AreFew logs.lists → (q : ℕ) → length (get_or (record_in logs) q []) + 1 < 2 ^ 32
  syncs_few few q =
      let same = ap length (own_syncs_are q) in
      let less = kept_few sync_in (get_or logs.lists q []) in
      let small = few q in
      omega (arith, same, less, small)

  edges_there : (q j : ℕ) → j < length (get_or (edge_sets_in logs) q []) → (q < length logs.lists) × (j ≤ length (get_or (record_in logs) q []))
  edges_there q j lt =
      let inside : q < length logs.lists = subst (λ n. q < n) (length_mapped (sets_from None) logs.lists) (own_below (edge_sets_in logs) q j lt) in
      let count = ap length (at_there (sets_from None) logs.lists q inside) ∙ sets_count None (get_or logs.lists q []) in
      let same = ap length (own_syncs_are q) in
      (inside, omega (arith, lt, count, same))

  pub edges_few : AreFew logs.lists → (q : ℕ) → length (get_or (edge_sets_in logs) q []) < 2 ^ 32
  edges_few few q = by (length (get_or (edge_sets_in logs) q [])) refl
    where
      by : (n : ℕ) → length (get_or (edge_sets_in logs) q []) ≡ n → n < 2 ^ 32
      by zero e = omega arith
      by (suc n) e =
          let last : n < length (get_or (edge_sets_in logs) q []) = omega (arith, e) in
          let there = edges_there q n last in
          let small = syncs_few few q in
          let le : n ≤ length (get_or (record_in logs) q []) = there.1 in
          omega (arith, le, small)

module _ (program : Program) (logs : Logs) (pairs : List (List Paired)) (are : pairs ≡ pairs_of program (record_in logs)) where
  own_same : (q : ℕ) → length (own_pairs pairs q) ≡ length (get_or (record_in logs) q [])
  own_same q =
      ap (λ rows. length (own_pairs rows q)) are ∙ ap length (row_mapped (partner_of program (record_in logs)) (record_in logs) q)
      ∙ length_mapped (partner_of program (record_in logs)) (get_or (record_in logs) q [])

  pub pairs_few : AreFew logs.lists → (q : ℕ) → length (own_pairs pairs q) + 1 < 2 ^ 32
  pairs_few few q = let small = syncs_few logs few q in let same = own_same q in omega (arith, small, same)

  module _ (numbered : AreNumbered program (placed logs)) where
    pub partners : ArePartners program (record_in logs) pairs
    partners = subst (ArePartners program (record_in logs)) (sym are) (partners_found program (record_in logs) (once program logs numbered.once))

    module _ (times : List (List (List ℕ))) (timed : AreTimed pairs times) where
      pub times_few : AreFew logs.lists → (q : ℕ) → length (own_times times q) < 2 ^ 32
      times_few few q =
          let within = (timed program (record_in logs) partners).within q in
          let small = syncs_few logs few q in
          omega (arith, within, small)

      pub waiting : ((q : ℕ) → IsReady pairs times q → ⊥) → AllWait pairs times
      waiting stopped = (rounds_are_cycles program (record_in logs) pairs times partners stopped).0

      pub cycle_refused : ((q : ℕ) → IsReady pairs times q → ⊥) → (nodes : List NodeId) → IsRoundsCycle pairs times nodes → IsRefused program logs (Cycle nodes)
      cycle_refused stopped nodes r =
          (numbered, subst (IsCycle program (record_in logs)) (sym r.is) ((rounds_are_cycles program (record_in logs) pairs times partners stopped).1 r.list r.least))

      pub ordered : ((q : ℕ) → HasAll pairs times q) → AreOrdered program logs
      ordered all = record {
        numbered = numbered;
        acyclic = none_is_before_itself program (record_in logs)
            (none_before_itself program (record_in logs) pairs partners times (timed program (record_in logs) partners) all);
      }

      pub graph_is : ((q : ℕ) → HasAll pairs times q) → AreFew logs.lists → (edges : List (List EdgeSets)) → edges ≡ edge_sets_in logs → IsGraphOf program logs (record { edges = edges; times = times; pairs = pairs })
      graph_is all few edges sets = record {
        sets = sets;
        few = λ p. subst (λ rows. length (get_or rows p []) < 2 ^ 32) (sym sets) (edges_few logs few p);
        order = λ a b x y.
            let here = edges_there logs a.process a.edge (subst (λ rows. a.edge < length (get_or rows a.process [])) sets x) in
            let there = edges_there logs b.process b.edge (subst (λ rows. b.edge < length (get_or rows b.process [])) sets y) in
            order program (record_in logs) pairs partners times (timed program (record_in logs) partners) all a b
            (subst (λ n. a.process < n) (sym (length_mapped (filter_map sync_in) logs.lists)) here.0) there.1;
        rising = λ p q j k lt le x.
            let there = edges_there logs q k (subst (λ rows. k < length (get_or rows q [])) sets x) in
            counts_rise program (record_in logs) pairs partners times (timed program (record_in logs) partners) all p q j k
            (subst (λ n. p < n) (ap length sets ∙ length_mapped (sets_from None) logs.lists ∙ sym (length_mapped (filter_map sync_in) logs.lists)) lt) le there.1;
        pairs = are;
        partners = partners;
      }

-- ---- as the code sees them

pub few_of : (b : Bool) (seen lists : List (List Entry)) → seen ≡ lists → (IsTrue b → AreFew seen) → b ≡ true → AreFew lists
few_of b seen lists e h yes_it = subst AreFew e (h yes_it)

pub seen_both : (Holds : List (List Paired) → List (List (List ℕ)) → Type 0) (p p' : List (List Paired)) (t t' : List (List (List ℕ))) → p ≡ p' → t ≡ t' → Holds p t → Holds p' t'
seen_both Holds p p' t t' e f h = subst (λ q. Holds q t') e (subst (Holds p) f h)
