-- Lists of intervals that are near to an item, each once, and their own steps.
use Rattle.ppd_model.specs.Setting.{Setting}
use Rattle.std.proofs.Common.{◌≡◌, ℕ, zero, suc, ◌+◌, ◌≤◌, Bool, true, false, cond, List, [], ◌∷◌, ◌++◌, Some, None, refl, ap, ap₂, sym, ◌∙◌, subst, arith, true≢false, inl, inr, eq-eqb, ne_eqb}
use Rattle.std.specs.Prelude.{nat_eq, slice_get, ◌&&◌, ◌||◌}
use Rattle.std.specs.List.{list_any}
use Rattle.std.proofs.lemmas.List.Sums.{sum_by-append, sum_by-cons}
use Rattle.ppd_sem.specs.Blocks.{block_kind}
use Rattle.ppd_model.specs.declared.flow.FlowEdge.{FlowEdge}
use Rattle.ppd_model.specs.FlowbackEdges.{edges, part_at}
use Rattle.ppd_model.specs.Intervals.{Span, Split, splits}
use Rattle.ppd_model.specs.NearIntervals.{edges_or_none, is_in, is_inside, is_loop, is_near, is_near_origin, is_open_at, is_round, near_steps, surroundings}
use Rattle.ppd_model.specs.Story.{story}
use Rattle.ppd_model.proofs.Changes.{some}
use Rattle.ppd_model.proofs.Tested.{In}
use Rattle.ppd_graph.specs.Shared.{of_process}
use Rattle.ppd_graph.specs.Spans.{steps_of_span}
use Rattle.law_flow.specs.Edges.Within.{AreDistinct, cost, steps_from}
use Rattle.law_flow.proofs.Edges.Near.Distinct.{not_in_list}
use Rattle.law_flow.proofs.Edges.Near.Nearby.{member_is}
use Rattle.law_flow.proofs.Edges.Sources.Members.{in_cases, no_member}
use Rattle.law_flow.proofs.Edges.Within.{replays_within}
use Rattle.law_flow.proofs.Edges.Near.Cheap.{or_right, or_left}
use Rattle.law_flow.specs.Costs.Bounds.{steps_in, steps_of_all}
use Rattle.law_flow.proofs.Costs.Own.Scans.{IsLoopIn}

-- ---- own steps

steps_from_is : (k : ℕ) (spans : List Span) (m : ℕ) → steps_from k spans (k + m) ≡ steps_of_span (slice_get spans m)
steps_from_is k [] m = refl
steps_from_is k (i ∷ is) zero = ap (λ b. cond b i.steps (steps_from (k + 1) is (k + 0))) (eq-eqb (k + 0) k (omega arith))
steps_from_is k (i ∷ is) (suc m) =
    let far : k + suc m ≡ (k + 1) + m = omega arith in
    ap (λ b. cond b i.steps (steps_from (k + 1) is (k + suc m))) (ne_eqb (k + suc m) k (λ e. omega (arith, e)))
    ∙ ap (steps_from (k + 1) is) far ∙ steps_from_is (k + 1) is m

pub all_steps_of : (xs : List Split) (q : ℕ) (y : Split) (ms : List ℕ) → slice_get xs q ≡ Some y → steps_of_all xs (of_process q ms) ≡ cost y.spans ms
all_steps_of xs q y [] at = refl
all_steps_of xs q y (m ∷ ms) at =
    let one : steps_in (slice_get xs q) m ≡ steps_from 0 y.spans m =
    ap (λ o. steps_in o m) at ∙ sym (steps_from_is 0 y.spans m) ∙ ap (steps_from 0 y.spans) (let z : 0 + m ≡ m = omega arith in z) in
    let rest : steps_of_all xs (of_process q ms) ≡ cost y.spans ms = all_steps_of xs q y ms at in
    sum_by-cons (λ (r : ℕ × ℕ). steps_in (slice_get xs r.0) r.1) (q, m) (of_process q ms) ∙ ap₂ (λ a b. a + b) one rest ∙ sym (sum_by-cons (steps_from 0 y.spans) m ms)

-- of a process that is not there
pub no_steps_of : (xs : List Split) (q : ℕ) (ms : List ℕ) → slice_get xs q ≡ None → steps_of_all xs (of_process q ms) ≡ 0
no_steps_of xs q [] at = refl
no_steps_of xs q (m ∷ ms) at =
    let one : steps_in (slice_get xs q) m ≡ 0 = ap (λ o. steps_in o m) at in
    let rest : steps_of_all xs (of_process q ms) ≡ 0 = no_steps_of xs q ms at in
    sum_by-cons (λ (r : ℕ × ℕ). steps_in (slice_get xs r.0) r.1) (q, m) (of_process q ms) ∙ ap₂ (λ a b. a + b) one rest

pub both_steps : (xs : List Split) (ms ns : List (ℕ × ℕ)) → steps_of_all xs (ms ++ ns) ≡ steps_of_all xs ms + steps_of_all xs ns
both_steps xs ms ns = sum_by-append (λ (r : ℕ × ℕ). steps_in (slice_get xs r.0) r.1) ms ns

pub process_both : (q : ℕ) (ms ns : List ℕ) → of_process q (ms ++ ns) ≡ of_process q ms ++ of_process q ns
process_both q [] ns = refl
process_both q (m ∷ ms) ns = ap (λ l. (q, m) ∷ l) (process_both q ms ns)

-- of two lists of one process
pub parts_steps : (xs : List Split) (q : ℕ) (ms ns : List ℕ) → steps_of_all xs (of_process q (ms ++ ns)) ≡ steps_of_all xs (of_process q ms) + steps_of_all xs (of_process q ns)
parts_steps xs q ms ns = ap (steps_of_all xs) (process_both q ms ns) ∙ both_steps xs (of_process q ms) (of_process q ns)

-- ---- tests

any_in : (f : FlowEdge → Bool) (es : List FlowEdge) (e : FlowEdge) → In e es → f e ≡ true → list_any f es ≡ true
any_in f [] e i g = absurd (no_member i)
any_in f (d ∷ es) e i g = elim (in_cases e d es i) [
  | inl same ↦ or_left (f d) (list_any f es) (ap f (sym same) ∙ g)
  | inr later ↦ or_right (f d) (list_any f es) (any_in f es e later g)
]

-- ---- near to an item

module _ (setting : Setting) (h : List ℕ) (p k j : ℕ) (x : Split) (there : slice_get (splits setting (story setting h)) p ≡ Some x) (es : List FlowEdge)
    (edges_are : edges setting (story setting h) p k j ≡ Some es) where
  abbrev xs : List Split
  xs = splits setting (story setting h)

  abbrev pub IsNear : ℕ → Split → ℕ → Span → Type 0
  IsNear q y m i = is_near setting (story setting h) p k j q y m i ≡ true

  near_beside : (m : ℕ) (i : Span) → (is_round setting.plan (surroundings x k) m i || is_open_at x (part_at x k j) i) ≡ true → IsNear p x m i
  near_beside m i f =
      or_left (nat_eq p p && (is_round setting.plan (surroundings x k) m i || is_open_at x (part_at x k j) i)) (list_any (λ d. is_near_origin p x m i d.from) (edges_or_none (edges setting (story setting h) p k j)))
      (ap (λ b. b && (is_round setting.plan (surroundings x k) m i || is_open_at x (part_at x k j) i)) (eq-eqb p p refl) ∙ f)

  -- one of those round it
  pub near_in : (m : ℕ) (i : Span) → In m (surroundings x k) → IsNear p x m i
  near_in m i f =
      near_beside m i (or_left (is_round setting.plan (surroundings x k) m i) (is_open_at x (part_at x k j) i)
      (or_left (is_in m (surroundings x k)) (is_loop (block_kind setting.plan i.block) && is_inside i.round (surroundings x k)) (member_is m (surroundings x k) f)))

  -- a loop directly inside one of these
  pub near_loop : (b m : ℕ) (i : Span) → In b (surroundings x k) → IsLoopIn setting.plan x b m → slice_get x.spans m ≡ Some i → IsNear p x m i
  near_loop b m i f l at =
      let same : l.span ≡ i = some (sym l.there ∙ at) in
      let loop : is_loop (block_kind setting.plan i.block) ≡ true = ap (λ (s : Span). is_loop (block_kind setting.plan s.block)) (sym same) ∙ l.is_one in
      let inside : is_inside i.round (surroundings x k) ≡ true =
      ap (λ r. is_inside r (surroundings x k)) (ap (λ (s : Span). s.round) (sym same) ∙ l.round) ∙ member_is b (surroundings x k) f in
      near_beside m i (or_left (is_round setting.plan (surroundings x k) m i) (is_open_at x (part_at x k j) i)
      (or_right (is_in m (surroundings x k)) (is_loop (block_kind setting.plan i.block) && is_inside i.round (surroundings x k))
      (ap₂ (λ a c. a && c) loop inside)))

  -- by an edge's origin
  pub near_edge : (e : FlowEdge) → In e es → (q : ℕ) (y : Split) (m : ℕ) (i : Span) → is_near_origin q y m i e.from ≡ true → IsNear q y m i
  near_edge e f q y m i g =
      or_right (nat_eq p q && (is_round setting.plan (surroundings y k) m i || is_open_at y (part_at y k j) i)) (list_any (λ d. is_near_origin q y m i d.from) (edges_or_none (edges setting (story setting h) p k j)))
      (ap (λ o. list_any (λ d. is_near_origin q y m i d.from) (edges_or_none o)) edges_are ∙ any_in (λ d. is_near_origin q y m i d.from) es e f g)

  -- these are near, each is listed once
  pub record AreNear (q : ℕ) (y : Split) (ms : List ℕ) : Type 0 where
    pub once : AreDistinct ms
    pub close : (z : ℕ) (i : Span) → In z ms → slice_get y.spans z ≡ Some i → IsNear q y z i

  -- so they have no more own steps than all that are near
  pub near_little : (q : ℕ) (y : Split) (ms : List ℕ) → slice_get (splits setting (story setting h)) q ≡ Some y → AreNear q y ms
      → steps_of_all (splits setting (story setting h)) (of_process q ms) ≤ near_steps setting (story setting h) p k j
  near_little q y ms at h' =
      let is = all_steps_of xs q y ms at in
      let le : cost y.spans ms ≤ near_steps setting (story setting h) p k j =
      replays_within (is_near setting (story setting h) p k j) xs q y ms at h'.once
      (λ m i g far. not_in_list m ms (λ f. true≢false (sym (h'.close m i f g) ∙ far))) in
      omega (arith, is, le)

  -- one of those round the item
  pub one_little : (m : ℕ) → In m (surroundings x k) → steps_of_all (splits setting (story setting h)) (of_process p (m ∷ [])) ≤ near_steps setting (story setting h) p k j
  one_little m f = near_little p x (m ∷ []) there (record {
    once = (tt, tt);
    close = λ z i g at. near_in z i (elim (in_cases z m [] g) [ inl e ↦ subst (λ y. In y (surroundings x k)) (sym e) f | inr l ↦ absurd (no_member l) ]);
  })
