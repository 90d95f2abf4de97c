-- One more vector time keeps the times right.
use Rattle.std.proofs.Common.{◌≡◌, ℕ, zero, suc, ◌+◌, ◌<◌, ◌≤◌, max, List, [], ◌∷◌, ◌++◌, Option, Some, None, refl, ap, sym, subst, arith, eq-eqb, ne_eqb, eqb-true, length, map, get_or, replicate, inl, inr, ◌⊎◌, ◌↔◌, true≢false, ◌∙◌, ◌&&◌}
use Rattle.std.specs.Prelude.{IsTrue, is_some, nat_eq, slice_get}
use Rattle.std.specs.List.{range_with_len}
use Rattle.std.proofs.lemmas.Bool.{and_from, and_parts, cases_eq, cases_lt, cond-false, cond-true, or_cases, or_left, or_right}
use Rattle.ppd_ast.specs.declared.program.Program.{Program}
use Rattle.ppd_model.specs.declared.graph.NodeId.{NodeId}
use Rattle.ppd_model.specs.Synchronizations.{Sync, leads_at}
use Rattle.ppd_model.specs.HappenedBefore.{Before, direct, is_direct, node, sync_at, through}
use Rattle.ppd_model.proofs.OrderWords.{is_next}
use Rattle.ppd_model.specs.World.{change}
use Rattle.ppd_model.proofs.Changes.{length-change}
use Rattle.ppd_graph.specs.declared.paired.Paired.{Paired}
use Rattle.ppd_graph.specs.Times.{ArePartners, AreTimed, IsDone, IsReady, IsTimed, UpTo, next_count, next_of, next_time, node_of, own_times, pair_at, time_at, time_before, time_of, time_paired, with_time}
use Rattle.ppd_graph.proofs.Vocabulary.{untimed}
use Rattle.ppd_graph.proofs.Rows.{left_less, length_replicated, no_items, none_at}

-- ---- lists

pub at_changed : {A : Type 0} (f : List A → List A) (q : ℕ) (xs : List (List A)) → q < length xs → get_or (change f q xs) q [] ≡ f (get_or xs q [])
at_changed f q [] h = absurd (omega arith)
at_changed f zero (x ∷ xs) h = refl
at_changed f (suc q) (x ∷ xs) h = at_changed f q xs (omega arith)

pub at_other : {A : Type 0} (f : List A → List A) (q r : ℕ) (xs : List (List A)) → (r ≡ q → ⊥) → get_or (change f q xs) r [] ≡ get_or xs r []
at_other f q r [] d = refl
at_other f zero zero (x ∷ xs) d = absurd (d refl)
at_other f zero (suc r) (x ∷ xs) d = refl
at_other f (suc q) zero (x ∷ xs) d = refl
at_other f (suc q) (suc r) (x ∷ xs) d = at_other f q r xs (λ e. d (ap suc e))

pub length_more : {A : Type 0} (xs : List A) (x : A) → length (xs ++ x ∷ []) ≡ length xs + 1
length_more [] x = refl
length_more (y ∷ xs) x = let e = length_more xs x in omega (arith, e)

pub at_front : {A : Type 0} (xs : List A) (x d : A) (i : ℕ) → i < length xs → get_or (xs ++ x ∷ []) i d ≡ get_or xs i d
at_front [] x d i h = absurd (omega arith)
at_front (y ∷ xs) x d zero h = refl
at_front (y ∷ xs) x d (suc i) h = at_front xs x d i (omega arith)

pub at_end : {A : Type 0} (xs : List A) (x d : A) → get_or (xs ++ x ∷ []) (length xs) d ≡ x
at_end [] x d = refl
at_end (y ∷ xs) x d = at_end xs x d

at_range_from : (f : ℕ → ℕ) (a n p : ℕ) → p < n → get_or (map f (range_with_len a n)) p 0 ≡ f (a + p)
at_range_from f a zero p h = absurd (omega arith)
at_range_from f a (suc n) zero h = ap f (omega arith)
at_range_from f a (suc n) (suc p) h =
    let e : (a + 1) + p ≡ a + suc p = omega arith in
    at_range_from f (a + 1) n p (omega arith) ∙ ap f e

pub at_range : (f : ℕ → ℕ) (n p : ℕ) → p < n → get_or (map f (range_with_len 0 n)) p 0 ≡ f p
at_range f n p h = let e : 0 + p ≡ p = omega arith in at_range_from f 0 n p h ∙ ap f e

pub there_at : {A : Type 0} (xs : List A) (i : ℕ) → i < length xs → IsTrue (is_some (slice_get xs i))
there_at [] i h = absurd (omega arith)
there_at (x ∷ xs) zero h = refl
there_at (x ∷ xs) (suc i) h = there_at xs i (omega arith)

pub below_there : {A : Type 0} (xs : List A) (i : ℕ) → IsTrue (is_some (slice_get xs i)) → i < length xs
below_there [] i h = absurd (true≢false (sym h))
below_there (x ∷ xs) zero h = omega arith
below_there (x ∷ xs) (suc i) h = let less : i < length xs = below_there xs i h in omega (arith, less)

pub own_below : {A : Type 0} (xs : List (List A)) (q j : ℕ) → j < length (get_or xs q []) → q < length xs
own_below [] q j h = absurd (omega arith)
own_below (x ∷ xs) zero j h = omega arith
own_below (x ∷ xs) (suc q) j h = let less : q < length xs = own_below xs q j h in omega (arith, less)

pub below_max : (i a b : ℕ) → i < max a b → (i < a) ⊎ (i < b)
below_max i a b h = elim (cases_lt i a) [ inl l ↦ inl l | inr g ↦ elim (cases_lt i b) [ inl l ↦ inr l | inr k ↦ absurd (omega (arith, h, g, k)) ] ]

pub max_left : (i a b : ℕ) → i < a → i < max a b
max_left i a b h = omega (arith, h)

pub max_right : (i a b : ℕ) → i < b → i < max a b
max_right i a b h = omega (arith, h)

-- ---- happened before

module _ (program : Program) (syncs : List (List Sync)) where
  further : (a m b : NodeId) → Before program syncs a m → UpTo program syncs m b → Before program syncs a b
  further a m b h (inl e) = subst (Before program syncs a) e h
  further a m b h (inr k) = through h k

  pub and_then : (a m b : NodeId) → UpTo program syncs a m → IsTrue (is_direct program syncs m b) → Before program syncs a b
  and_then a m b (inl e) d = subst (λ x. Before program syncs x b) (sym e) (direct d)
  and_then a m b (inr h) d = through h (direct d)

  -- the last step of what happens before
  pub last_step : (a b : NodeId) → Before program syncs a b → (m : NodeId) × UpTo program syncs a m × IsTrue (is_direct program syncs m b)
  last_step a b (direct d) = (a, inl refl, d)
  last_step a b (through {b = m} h k) =
      let r = last_step m b k in
      (r.0, inr (further a m r.0 h r.1), r.2)

  pub next_direct : (q j : ℕ) → suc j < length (get_or syncs q []) → IsTrue (is_direct program syncs (node q j) (node q (suc j)))
  next_direct q j h =
      or_left (is_next syncs (node q j) (node q (suc j))) (leads_at program (sync_at syncs (node q j)) (sync_at syncs (node q (suc j))))
      (and_from (nat_eq q q && nat_eq (j + 1) (suc j)) (is_some (slice_get (get_or syncs q []) (suc j)))
      (and_from (nat_eq q q) (nat_eq (j + 1) (suc j)) (eq-eqb q q refl) (eq-eqb (j + 1) (suc j) (omega arith)))
      (there_at (get_or syncs q []) (suc j) h))

  -- the synchronizations of one process in their order
  pub own_order : (q i j : ℕ) → i < j → j < length (get_or syncs q []) → Before program syncs (node q i) (node q j)
  own_order q i zero lt h = absurd (omega arith)
  own_order q i (suc j) lt h = elim (cases_lt i j) [
    | inl less ↦ through (own_order q i j less (omega (arith, h))) (direct (next_direct q j h))
    | inr ge ↦
        let e : i ≡ j = omega (arith, ge, lt) in
        subst (λ x. Before program syncs (node q x) (node q (suc j))) (sym e) (direct (next_direct q j h))
  ]

  module _ (times : List (List (List ℕ))) (o : IsTimed program syncs times) where
    -- what happens before one that is done is done
    done_before : (a b : NodeId) → Before program syncs a b → IsDone times b → IsDone times a
    done_before a b (direct d) h = o.closed a b d h
    done_before a b (through {b = m} l r) h = done_before a m l (done_before m b r h)

    pub done_up_to : (a b : NodeId) → UpTo program syncs a b → IsDone times b → IsDone times a
    done_up_to a b (inl e) h = subst (IsDone times) (sym e) h
    done_up_to a b (inr k) h = done_before a b k h

    module _ (pairs : List (List Paired)) (partners : ArePartners program syncs pairs) (q : ℕ) (r : IsReady pairs times q) where
      j : ℕ
      j = length (own_times times q)

      in_syncs : length (own_times times q) < length (get_or syncs q [])
      in_syncs = subst (λ n. length (own_times times q) < n) (partners.counts q) r.there

      there : q < length times
      there = subst (λ n. q < n) (sym o.processes) (own_below syncs q (length (own_times times q)) in_syncs)

      -- what leads directly to the next: the one before it, or its partner
      to_next : (m : NodeId) → IsTrue (is_direct program syncs m (next_of times q)) → ((m.process ≡ q) × (m.sync + 1 ≡ length (own_times times q))) ⊎ (node_of (pair_at pairs (next_of times q)) ≡ Some m)
      to_next m h = elim (or_cases (is_next syncs m (next_of times q)) (leads_at program (sync_at syncs m) (sync_at syncs (next_of times q))) h) [
        | inl n ↦
            let both = and_parts (nat_eq m.process q && nat_eq (m.sync + 1) (length (own_times times q))) (is_some (sync_at syncs (next_of times q))) n in
            let parts = and_parts (nat_eq m.process q) (nat_eq (m.sync + 1) (length (own_times times q))) both.0 in
            inl (eqb-true m.process q parts.0, eqb-true (m.sync + 1) (length (own_times times q)) parts.1)
        | inr l ↦ inr ((partners.leads m (next_of times q)).0 l)
      ]

      before_next : (m : NodeId) → IsTrue (is_direct program syncs m (next_of times q)) → IsDone times m
      before_next m h = elim (to_next m h) [
        | inl e ↦
            let same : length (own_times times m.process) ≡ length (own_times times q) = ap (λ x. length (own_times times x)) e.0 in
            let next = e.1 in
            omega (arith, same, next)
        | inr e ↦ r.paired m e
      ]

      up_to_next : (a : NodeId) → Before program syncs a (next_of times q) → IsDone times a
      up_to_next a h = let s = last_step a (next_of times q) h in done_up_to a s.0 s.1 (before_next s.0 s.2)

      not_done : IsDone times (next_of times q) → ⊥
      not_done h = omega (arith, h)

      no_cycle : Before program syncs (next_of times q) (next_of times q) → ⊥
      no_cycle h = not_done (up_to_next (next_of times q) h)

      -- ---- with the time of the next

      time : List ℕ
      time = next_time pairs times q

      after : List (List (List ℕ))
      after = with_time q (next_time pairs times q) times

      own_after : own_times after q ≡ own_times times q ++ time ∷ []
      unfolding time after
      own_after = at_changed (λ row. row ++ next_time pairs times q ∷ []) q times there

      own_other : (p : ℕ) → (p ≡ q → ⊥) → own_times after p ≡ own_times times p
      unfolding after
      own_other p d = at_other (λ row. row ++ next_time pairs times q ∷ []) q p times d

      count_after : length (own_times after q) ≡ length (own_times times q) + 1
      count_after = ap length own_after ∙ length_more (own_times times q) time

      done_still : (a : NodeId) → IsDone times a → IsDone after a
      done_still a h = elim (cases_eq a.process q) [
        | inl e ↦
            let same : length (own_times times a.process) ≡ length (own_times times q) = ap (λ x. length (own_times times x)) e in
            let now : length (own_times after a.process) ≡ length (own_times after q) = ap (λ x. length (own_times after x)) e in
            let more = count_after in
            omega (arith, h, same, now, more)
        | inr d ↦ subst (λ row. a.sync < length row) (sym (own_other a.process d)) h
      ]

      done_cases : (a : NodeId) → IsDone after a → IsDone times a ⊎ (a ≡ next_of times q)
      done_cases a h = elim (cases_eq a.process q) [
        | inl e ↦
            let same : length (own_times times a.process) ≡ length (own_times times q) = ap (λ x. length (own_times times x)) e in
            let now : length (own_times after a.process) ≡ length (own_times after q) = ap (λ x. length (own_times after x)) e in
            let more = count_after in
            elim (cases_lt a.sync (length (own_times times q))) [
              | inl lt ↦ inl (omega (arith, lt, same))
              | inr ge ↦
                  let is : a.sync ≡ length (own_times times q) = omega (arith, ge, h, now, more) in
                  inr (ap (λ x. node x a.sync) e ∙ ap (node q) is)
            ]
        | inr d ↦ inl (subst (λ row. a.sync < length row) (own_other a.process d) h)
      ]

      row_still : (p i : ℕ) → i < length (own_times times p) → get_or (own_times after p) i [] ≡ get_or (own_times times p) i []
      row_still p i h = elim (cases_eq p q) [
        | inl e ↦
            let same : length (own_times times p) ≡ length (own_times times q) = ap (λ x. length (own_times times x)) e in
            ap (λ x. get_or (own_times after x) i []) e ∙ ap (λ row. get_or row i []) own_after
            ∙ at_front (own_times times q) time [] i (omega (arith, h, same)) ∙ ap (λ x. get_or (own_times times x) i []) (sym e)
        | inr d ↦ ap (λ row. get_or row i []) (own_other p d)
      ]

      time_still : (a : NodeId) → IsDone times a → time_of after a ≡ time_of times a
      time_still a h = row_still a.process a.sync h

      time_here : time_of after (next_of times q) ≡ time
      time_here = ap (λ row. get_or row (length (own_times times q)) []) own_after ∙ at_end (own_times times q) time []

      before_it : List ℕ
      before_it = time_before times q (length (own_times times q))

      paired_it : List ℕ
      paired_it = time_paired times (node_of (pair_at pairs (next_of times q)))

      count_here : (p : ℕ) → p < length syncs → time_at after (next_of times q) p ≡ next_count q (length (own_times times q)) before_it paired_it p
      unfolding time before_it paired_it
      count_here p lt = ap (λ t. get_or t p 0) time_here ∙ at_range (next_count q (length (own_times times q)) before_it paired_it) (length pairs) p (subst (λ n. p < n) (sym partners.processes) lt)

      -- ---- what the new counts say

      from_own : (p i k : ℕ) → k ≡ length (own_times times q) → p < length syncs → i < get_or (time_before times q k) p 0 → Before program syncs (node p i) (next_of times q)
      from_own p i zero e lt h = absurd (omega (arith, h))
      from_own p i (suc k) e lt h =
          let done : IsDone times (node q k) = omega (arith, e) in
          subst (λ x. Before program syncs (node p i) (node q x)) e
          (and_then (node p i) (node q k) (node q (suc k)) ((o.counts (node q k) done p i lt).0 h) (next_direct q k (omega (arith, e, in_syncs))))

      to_own : (p i k : ℕ) → k ≡ length (own_times times q) → p < length syncs → (m : NodeId) → m.process ≡ q → m.sync + 1 ≡ k → UpTo program syncs (node p i) m → i < get_or (time_before times q k) p 0
      to_own p i zero e lt m same next u = absurd (omega (arith, next))
      to_own p i (suc k) e lt m same next u =
          let is : m.sync ≡ k = omega (arith, next) in
          let at : m ≡ node q k = ap (λ x. node x m.sync) same ∙ ap (node q) is in
          let done : IsDone times (node q k) = omega (arith, e) in
          (o.counts (node q k) done p i lt).1 (subst (UpTo program syncs (node p i)) at u)

      from_pair : (p i : ℕ) (k : Option NodeId) → node_of (pair_at pairs (next_of times q)) ≡ k → p < length syncs → i < get_or (time_paired times k) p 0 → Before program syncs (node p i) (next_of times q)
      from_pair p i None e lt h = absurd (omega (arith, h))
      from_pair p i (Some m) e lt h =
          and_then (node p i) m (next_of times q) ((o.counts m (r.paired m e) p i lt).0 h)
          (or_right (is_next syncs m (next_of times q)) (leads_at program (sync_at syncs m) (sync_at syncs (next_of times q))) ((partners.leads m (next_of times q)).1 e))

      to_pair : (p i : ℕ) (m : NodeId) → node_of (pair_at pairs (next_of times q)) ≡ Some m → p < length syncs → UpTo program syncs (node p i) m → i < get_or paired_it p 0
      unfolding paired_it
      to_pair p i m e lt u =
          subst (λ k. i < get_or (time_paired times k) p 0) (sym e) ((o.counts m (r.paired m e) p i lt).1 u)

      counts_self : (i : ℕ) → (i < length (own_times times q) + 1) ↔ UpTo program syncs (node q i) (next_of times q)
      counts_self i = (to, from)
        where
          to : i < length (own_times times q) + 1 → UpTo program syncs (node q i) (next_of times q)
          to h = elim (cases_lt i (length (own_times times q))) [
            | inl lt ↦ inr (own_order q i (length (own_times times q)) lt in_syncs)
            | inr ge ↦ let is : i ≡ length (own_times times q) = omega (arith, ge, h) in inl (ap (node q) is)
          ]

          from : UpTo program syncs (node q i) (next_of times q) → i < length (own_times times q) + 1
          from (inl e) = let is : i ≡ length (own_times times q) = ap (λ (a : NodeId). a.sync) e in omega (arith, is)
          from (inr h) = let done = up_to_next (node q i) h in omega (arith, done)

      counts_other : (p i : ℕ) → (p ≡ q → ⊥) → p < length syncs → (i < max (get_or before_it p 0) (get_or paired_it p 0)) ↔ UpTo program syncs (node p i) (next_of times q)
      unfolding before_it paired_it
      counts_other p i d lt = (to, from)
        where
          to : i < max (get_or before_it p 0) (get_or paired_it p 0) → UpTo program syncs (node p i) (next_of times q)
          to h = elim (below_max i (get_or before_it p 0) (get_or paired_it p 0) h) [
            | inl l ↦ inr (from_own p i (length (own_times times q)) refl lt l)
            | inr l ↦ inr (from_pair p i (node_of (pair_at pairs (next_of times q))) refl lt l)
          ]

          from : UpTo program syncs (node p i) (next_of times q) → i < max (get_or before_it p 0) (get_or paired_it p 0)
          from (inl e) = absurd (d (ap (λ (a : NodeId). a.process) e))
          from (inr h) =
              let s = last_step (node p i) (next_of times q) h in
              elim (to_next s.0 s.2) [
                | inl own ↦ max_left i (get_or before_it p 0) (get_or paired_it p 0) (to_own p i (length (own_times times q)) refl lt s.0 own.0 own.1 s.1)
                | inr e ↦ max_right i (get_or before_it p 0) (get_or paired_it p 0) (to_pair p i s.0 e lt s.1)
              ]

      counts_next : (p i : ℕ) → p < length syncs → (i < next_count q (length (own_times times q)) before_it paired_it p) ↔ UpTo program syncs (node p i) (next_of times q)
      counts_next p i lt = elim (cases_eq p q) [
        | inl e ↦
            subst (λ n. (i < n) ↔ UpTo program syncs (node p i) (next_of times q)) (sym (cond-true (nat_eq p q) (length (own_times times q) + 1) (max (get_or before_it p 0) (get_or paired_it p 0)) (eq-eqb p q e)))
            (subst (λ x. (i < length (own_times times q) + 1) ↔ UpTo program syncs (node x i) (next_of times q)) (sym e) (counts_self i))
        | inr d ↦
            subst (λ n. (i < n) ↔ UpTo program syncs (node p i) (next_of times q)) (sym (cond-false (nat_eq p q) (length (own_times times q) + 1) (max (get_or before_it p 0) (get_or paired_it p 0)) (ne_eqb p q d)))
            (counts_other p i d lt)
      ]

      within_after : (p : ℕ) → length (own_times after p) ≤ length (get_or syncs p [])
      within_after p = elim (cases_eq p q) [
        | inl e ↦
            let now : length (own_times after p) ≡ length (own_times after q) = ap (λ x. length (own_times after x)) e in
            let long : length (get_or syncs p []) ≡ length (get_or syncs q []) = ap (λ x. length (get_or syncs x [])) e in
            let more = count_after in
            let left = in_syncs in
            omega (arith, now, long, more, left)
        | inr d ↦ subst (λ row. length row ≤ length (get_or syncs p [])) (sym (own_other p d)) (o.within p)
      ]

      pub timed_more : IsTimed program syncs (with_time q (next_time pairs times q) times)
      unfolding after
      timed_more = record {
        processes = length-change (λ row. row ++ next_time pairs times q ∷ []) q times ∙ o.processes;
        within = within_after;
        closed = λ a b h done. elim (done_cases b done) [
          | inl old ↦ done_still a (o.closed a b h old)
          | inr e ↦ done_still a (before_next a (subst (λ x. IsTrue (is_direct program syncs a x)) e h))
        ];
        acyclic = λ a done h. elim (done_cases a done) [
          | inl old ↦ o.acyclic a old h
          | inr e ↦ no_cycle (subst (λ x. Before program syncs x x) e h)
        ];
        counts = λ a done p i lt. elim (done_cases a done) [
          | inl old ↦ subst (λ t. (i < get_or t p 0) ↔ UpTo program syncs (node p i) a) (sym (time_still a old)) (o.counts a old p i lt)
          | inr e ↦
              subst (λ x. (i < time_at after x p) ↔ UpTo program syncs (node p i) x) (sym e)
              (subst (λ n. (i < n) ↔ UpTo program syncs (node p i) (next_of times q)) (sym (count_here p lt)) (counts_next p i lt))
        ];
      }

-- ---- the whole pass

pub timed_none : (pairs : List (List Paired)) → AreTimed pairs (replicate (length pairs) (no_items (List ℕ)))
timed_none pairs program syncs partners = record {
  processes = length_replicated (length pairs) (no_items (List ℕ)) ∙ partners.processes;
  within = λ q. subst (λ row. length row ≤ length (get_or syncs q [])) (sym (none_at {A = List ℕ} (length pairs) q)) (omega arith);
  closed = λ a b h done. absurd (no_one b done);
  acyclic = λ a done h. no_one a done;
  counts = λ a done p i lt. absurd (no_one a done);
}
  where
    no_one : (a : NodeId) → IsDone (replicate (length pairs) (no_items (List ℕ))) a → ⊥
    no_one a h = let e : length (get_or (replicate (length pairs) (no_items (List ℕ))) a.process []) ≡ 0 = ap length (none_at {A = List ℕ} (length pairs) a.process) in omega (arith, h, e)

pub timed_one_more : (pairs : List (List Paired)) (times : List (List (List ℕ))) (q : ℕ) → IsReady pairs times q → AreTimed pairs times → AreTimed pairs (with_time q (next_time pairs times q) times)
timed_one_more pairs times q r o program syncs partners = timed_more program syncs times (o program syncs partners) pairs partners q r

-- as the code takes one more: it sees the times twice as slices
pub went_on : (pairs : List (List Paired)) (times seen again later : List (List (List ℕ))) (added : List ℕ) (q : ℕ) → seen ≡ times → again ≡ times → length times ≡ length pairs → AreTimed pairs times → IsReady pairs seen q → added ≡ next_time pairs again q → later ≡ with_time q added times
    → (length later ≡ length pairs) × AreTimed pairs later
went_on pairs times seen again later added q e e' long o r is now =
    let is' : later ≡ with_time q (next_time pairs times q) times = now ∙ ap (λ t. with_time q t times) (is ∙ ap (λ ts. next_time pairs ts q) e') in (
      ap length is' ∙ length-change (λ row. row ++ next_time pairs times q ∷ []) q times ∙ long,
      subst (AreTimed pairs) (sym is') (timed_one_more pairs times q (subst (λ ts. IsReady pairs ts q) e r) o),
    )

pub went_less : (pairs : List (List Paired)) (times seen later : List (List (List ℕ))) (added : List ℕ) (q : ℕ) → seen ≡ times → length times ≡ length pairs → IsReady pairs seen q → later ≡ with_time q added times → untimed pairs later < untimed pairs times
went_less pairs times seen later added q e long r now =
    let r' : IsReady pairs times q = subst (λ ts. IsReady pairs ts q) e r in
    subst (λ ts. untimed pairs ts < untimed pairs times) (sym now)
    (left_less q added pairs times (subst (λ n. q < n) (sym long) (own_below pairs q (length (own_times times q)) r'.there)) r'.there)
