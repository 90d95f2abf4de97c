-- Where every synchronization has its time, the times order the internal edges, and nothing happens before itself.
use Rattle.ppd_ast.specs.declared.program.Program.{Program}
use Rattle.ppd_graph.proofs.Timed.{below_there, last_step, own_order}
use Rattle.ppd_graph.specs.Graphs.{before_by, count_at}
use Rattle.ppd_graph.specs.Times.{ArePartners, HasAll, IsDone, IsTimed, UpTo, time_at}
use Rattle.ppd_graph.specs.declared.paired.Paired.{Paired}
use Rattle.ppd_model.proofs.OrderWords.{is_next}
use Rattle.ppd_model.proofs.Tested.{leads_there}
use Rattle.ppd_model.specs.HappenedBefore.{Before, EdgeBefore, across, earlier, is_direct, node, sync_at, through}
use Rattle.ppd_model.specs.Synchronizations.{Sync, leads_at}
use Rattle.ppd_model.specs.declared.graph.EdgeId.{EdgeId}
use Rattle.ppd_model.specs.declared.graph.NodeId.{NodeId}
use Rattle.std.proofs.Common.{List, ap, arith, eq-eqb, inl, inr, length, lt-ltb, ltb-true, ne_eqb, refl, subst, suc, sym, zero, ℕ, ◌+◌, ◌<◌, ◌↔◌, ◌∙◌, ◌≡◌, ◌≤◌}
use Rattle.std.proofs.lemmas.Bool.{and_parts, cases_eq, cond-false, cond-true, or_cases}
use Rattle.std.specs.Prelude.{IsTrue, [], get_or, is_some, nat_eq, nat_lt, ◌&&◌}

-- all below the first are below the second
no_more : (m n : ℕ) → ((i : ℕ) → i < m → i < n) → m ≤ n
no_more zero n h = omega arith
no_more (suc m) n h = let last : m < n = h m (omega arith) in omega (arith, last)

module _ (program : Program) (syncs : List (List Sync)) where
  pub direct_there : (a b : NodeId) → IsTrue (is_direct program syncs a b) → IsTrue (is_some (sync_at syncs b))
  direct_there a b h = elim (or_cases (is_next syncs a b) (leads_at program (sync_at syncs a) (sync_at syncs b)) h) [
    | inl next ↦ (and_parts (nat_eq a.process b.process && nat_eq (a.sync + 1) b.sync) (is_some (sync_at syncs b)) next).1
    | inr leads ↦ leads_there program (sync_at syncs a) (sync_at syncs b) leads
  ]

  module _ (pairs : List (List Paired)) (partners : ArePartners program syncs pairs) (times : List (List (List ℕ))) (o : IsTimed program syncs times) (all : (q : ℕ) → HasAll pairs times q) where
    done_below : (q j : ℕ) → j < length (get_or syncs q []) → IsDone times (node q j)
    done_below q j h = let e = partners.counts q in let enough = all q in omega (arith, h, e, enough)

    pub none_before_itself : (a : NodeId) → Before program syncs a a → ⊥
    none_before_itself a h =
        let s = last_step program syncs a a h in
        o.acyclic a (done_below a.process a.sync (below_there (get_or syncs a.process []) a.sync (direct_there s.0 a s.2))) h

    counted : (p i q j : ℕ) → p < length syncs → (p ≡ q → ⊥) → j < length (get_or syncs q []) → IsTrue (nat_lt i (count_at times q (suc j) p)) ↔ Before program syncs (node p i) (node q j)
    counted p i q j lt d h = (to, from)
      where
        to : IsTrue (nat_lt i (count_at times q (suc j) p)) → Before program syncs (node p i) (node q j)
        to t = elim ((o.counts (node q j) (done_below q j h) p i lt).0 (ltb-true i (count_at times q (suc j) p) t)) [
          | inl e ↦ absurd (d (ap (λ (a : NodeId). a.process) e))
          | inr b ↦ b
        ]

        from : Before program syncs (node p i) (node q j) → IsTrue (nat_lt i (count_at times q (suc j) p))
        from b = lt-ltb i (count_at times q (suc j) p) ((o.counts (node q j) (done_below q j h) p i lt).1 (inr b))

    to_across : (a b : EdgeId) (k : ℕ) → b.edge ≡ k → a.process < length syncs → (a.process ≡ b.process → ⊥) → k ≤ length (get_or syncs b.process []) → IsTrue (nat_lt a.edge (count_at times b.process k a.process)) → EdgeBefore program syncs a b
    to_across a b zero e lt d le t = absurd (let none : a.edge < 0 = ltb-true a.edge 0 t in omega (arith, none))
    to_across a b (suc k) e lt d le t =
        let next : b.edge ≡ k + 1 = omega (arith, e) in
        across d k next ((counted a.process a.edge b.process k lt d (omega (arith, le))).0 t)

    pub order : (a b : EdgeId) → a.process < length syncs → b.edge ≤ length (get_or syncs b.process []) → IsTrue (before_by times a b) ↔ EdgeBefore program syncs a b
    order a b lt le = (to, from)
      where
        to : IsTrue (before_by times a b) → EdgeBefore program syncs a b
        to h = elim (cases_eq a.process b.process) [
          | inl e ↦ earlier e (ltb-true a.edge b.edge (sym (cond-true (nat_eq a.process b.process) (nat_lt a.edge b.edge) (nat_lt a.edge (count_at times b.process b.edge a.process)) (eq-eqb a.process b.process e)) ∙ h))
          | inr d ↦ to_across a b b.edge refl lt d le (sym (cond-false (nat_eq a.process b.process) (nat_lt a.edge b.edge) (nat_lt a.edge (count_at times b.process b.edge a.process)) (ne_eqb a.process b.process d)) ∙ h)
        ]

        from : EdgeBefore program syncs a b → IsTrue (before_by times a b)
        from (earlier e less) = cond-true (nat_eq a.process b.process) (nat_lt a.edge b.edge) (nat_lt a.edge (count_at times b.process b.edge a.process)) (eq-eqb a.process b.process e) ∙ lt-ltb a.edge b.edge less
        from (across d j e h) =
            let next : b.edge ≡ suc j = omega (arith, e) in
            cond-false (nat_eq a.process b.process) (nat_lt a.edge b.edge) (nat_lt a.edge (count_at times b.process b.edge a.process)) (ne_eqb a.process b.process d)
            ∙ ap (λ n. nat_lt a.edge (count_at times b.process n a.process)) next
            ∙ (counted a.process a.edge b.process j lt d (omega (arith, le, next))).1 h

    later_up_to : (a m b : NodeId) → UpTo program syncs a m → Before program syncs m b → UpTo program syncs a b
    later_up_to a m b (inl e) h = inr (subst (λ x. Before program syncs x b) (sym e) h)
    later_up_to a m b (inr k) h = inr (through k h)

    times_rise : (p q j k : ℕ) → p < length syncs → j < k → k < length (get_or syncs q []) → time_at times (node q j) p ≤ time_at times (node q k) p
    times_rise p q j k lt less there = no_more (time_at times (node q j) p) (time_at times (node q k) p) (λ i h.
        (o.counts (node q k) (done_below q k there) p i lt).1
        (later_up_to (node p i) (node q j) (node q k) ((o.counts (node q j) (done_below q j (omega (arith, less, there))) p i lt).0 h) (own_order program syncs q j k less there)))

    -- the counts of a process's edges rise
    pub counts_rise : (p q j k : ℕ) → p < length syncs → j ≤ k → k ≤ length (get_or syncs q []) → count_at times q j p ≤ count_at times q k p
    counts_rise p q zero k lt le there = omega arith
    counts_rise p q (suc j) zero lt le there = absurd (omega (arith, le))
    counts_rise p q (suc j) (suc k) lt le there = elim (cases_eq j k) [
      | inl e ↦ (let same : time_at times (node q j) p ≡ time_at times (node q k) p = ap (λ x. time_at times (node q x) p) e in omega (arith, same))
      | inr d ↦ times_rise p q j k lt (omega (arith, le, d)) (omega (arith, there))
    ]
