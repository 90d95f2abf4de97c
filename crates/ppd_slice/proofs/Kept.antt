-- What is kept while the edges of items are asked, and what it costs.
use Rattle.std.specs.Borrow.{Bor}
use Rattle.std.specs.Prelude.{slice_get, nat_eq, nat_lt, if◌then◌else◌}
use Rattle.std.proofs.Common.{◌≡◌, ℕ, zero, suc, ◌+◌, ◌<◌, ◌≤◌, ◌⊎◌, inl, inr, Bool, true, false, true≢false, List, [], ◌∷◌, ◌++◌, Option, Some, None, Result, Ok, Err, refl, ap, sym, ◌∙◌, subst, arith, get_or, length}
use Rattle.std.proofs.lemmas.Bool.{cases_eq, cases_lt, eqb-true, le-ltb, lt-ltb}
use Rattle.std.proofs.lemmas.Option.{none-some, same_Some, slice_get_past}
use Rattle.ppd_model.specs.declared.entry.At.{At}
use Rattle.ppd_flow.specs.Answers.{IsEdges}
use Rattle.ppd_flow.specs.Far.{RoseWithin, far_in}
use Rattle.ppd_flow.proofs.FarProcesses.{AreFreeOf, IsFree, edges_free}
use Rattle.ppd_graph.specs.Found.{found_edges}
use Rattle.ppd_model.specs.declared.flow_error.FlowError.{FlowError}
use Rattle.ppd_model.specs.declared.flow_error.FlowError.TheVariants.{Diverged, NoEvent, Sets, Memory}
use Rattle.ppd_flow_past.specs.declared.past.Past.{Past}
use Rattle.ppd_flow_past.specs.ByReplays.{IsFoundBy, IsReplayed, failure_or}
use Rattle.ppd_flow_past.specs.Keeping.{AreKeptOf, AreOthersKept, IsAllKept, RoseByKept, count_in, process_steps, steps_kept, steps_kept_of, sum_below}
use Rattle.ppd_flow_past.specs.Pasts.{AreKept, IsPast}
use Rattle.ppd_flow_past.specs.PastSetting.{past_setting}
use Rattle.ppd_flow_past.specs.SeenBy.{failed_in, items_in, steps_in}
use Rattle.ppd_graph.specs.Shared.{of_process}
use Rattle.ppd_flow_past.proofs.Keeping.{AreFree, costs_nothing, kept_free}
use Rattle.ppd_flow.specs.SharedCells.{seens_in}
use Rattle.ppd_model.specs.declared.flow.FlowEdge.{FlowEdge}
use Rattle.ppd_model.specs.declared.flow.Item.{Item}
use Rattle.ppd_slice_search.specs.declared.reached.ItemAt.{ItemAt}
use Rattle.ppd_slice_search.specs.declared.reached.Reached.{Reached}
use Rattle.ppd_slice_search.specs.Reach.{IsIn}
use Rattle.ppd_slice.specs.Asked.{AreAllKept, AreKeptAmong, AreKeptFor, AreStillKept, IsAsked, IsThere}
use Rattle.ppd_slice.specs.Slices.{CostsSlice, IsNoItem, flow_of, has_process, steps_of_processes}
use Rattle.ppd_slice.proofs.Origins.{in_behind, in_front}
use Rattle.ppd_slice.proofs.Flows.{flow_diverges, flow_none, found_err, found_ok, head_none}

abbrev Kept : Type 0
Kept = List (List (List Item))

-- ---- lists

nothing : {X : Type 0} (xs : List X) (k : ℕ) → slice_get xs k ≡ None → length xs ≤ k
nothing [] k e = omega arith
nothing (x ∷ xs) zero e = absurd (none-some x (sym e))
nothing (x ∷ xs) (suc k) e =
    let rest : length xs ≤ k = nothing xs k e in omega arith

-- ---- of which processes

pub kept_only : (p : ℕ) (old new : Kept) → AreOthersKept p old new → AreKeptFor (p ∷ []) old new
kept_only p old new others q some = elim (cases_eq q p) [
  | inl same ↦ inr (inl same)
  | inr other ↦ inl (subst (λ (rows : List (List Item)). 0 < length rows) (others q other) some)
]

pub kept_none : (ps : List ℕ) (kept : Kept) → AreKeptFor ps kept kept
kept_none ps kept q some = inl some

pub kept_both : (ps qs : List ℕ) (a b c : Kept) → AreKeptFor ps a b → AreKeptFor qs b c → AreKeptFor (ps ++ qs) a c
kept_both ps qs a b c f g q some = elim (g q some) [
  | inr m ↦ inr (in_behind ps qs q m)
  | inl was ↦ elim (f q was) [ inl old ↦ inl old | inr m ↦ inr (in_front ps qs q m) ]
]

-- one of these more
pub kept_next : (ps : List ℕ) (p : ℕ) (a b c : Kept) → IsIn p ps → AreKeptFor ps a b → AreKeptFor (p ∷ []) b c → AreKeptFor ps a c
kept_next ps p a b c at f g q some = elim (g q some) [
  | inl was ↦ f q was
  | inr (inl e) ↦ inr (subst (λ i. IsIn i ps) (sym e) at)
  | inr (inr m) ↦ absurd m
]

pub got_in : (ps : List ℕ) (i d : ℕ) → i < length ps → IsIn (get_or ps i d) ps
got_in [] i d lt = absurd (omega (arith, lt))
got_in (p ∷ ps) zero d lt = inl refl
got_in (p ∷ ps) (suc i) d lt = inr (got_in ps i d (omega (arith, lt)))

module _ (past : Past) where
  pub still_kept : (p : ℕ) (old new : Kept) → AreOthersKept p old new → IsAllKept past new p → AreStillKept past old new
  still_kept p old new others all q was = elim (cases_eq q p) [
    | inl same ↦ subst (IsAllKept past new) (sym same) all
    | inr other ↦ ap length (others q other) ∙ was
  ]

  pub still_all : (ps : List ℕ) (old new : Kept) → AreStillKept past old new → AreAllKept past old ps → AreAllKept past new ps
  still_all [] old new still h = tt
  still_all (p ∷ ps) old new still h = (still p h.0, still_all ps old new still h.1)

  pub all_more : (ps : List ℕ) (p : ℕ) (kept : Kept) → AreAllKept past kept ps → IsAllKept past kept p → AreAllKept past kept (ps ++ p ∷ [])
  all_more [] p kept h one = (one, tt)
  all_more (q ∷ ps) p kept h one = (h.0, all_more ps p kept h.1 one)

  pub rose_then : (a b c : Kept) (n m o : ℕ) → RoseByKept past a b n m → RoseByKept past b c m o → RoseByKept past a c n o
  rose_then a b c n m o f g = omega (arith, f, g)

  pub rose_none : (a : Kept) (n m : ℕ) → m ≡ n → RoseByKept past a a n m
  rose_none a n m e = omega (arith, e)

  -- with what is kept it is a past
  pub known_past : (r : Bor Kept) (kept : Kept) → r.now ≡ kept → IsPast past → AreKeptOf past kept → IsPast (record past { kept = r })
  known_past r kept e h k = record {
    program_ok = h.program_ok;
    plan_ok = h.plan_ok;
    cells = h.cells;
    index_is = h.index_is;
    graph_is = h.graph_is;
    cut_index_is = h.cut_index_is;
    fitting = h.fitting;
    kept_are = subst (AreKept (past_setting past) past.cut.now) (sym e) k.items;
  }

  -- it is not there
  pub no_item : (a : ItemAt) → IsThere past a false → IsNoItem past a
  no_item a h = (h.0, slice_get_past (items_in past a.process a.interval) a.item (over h.1))
    where
      over : false ≡ nat_lt a.item (length (items_in past a.process a.interval)) → length (items_in past a.process a.interval) ≤ a.item
      over e = elim (cases_lt a.item (length (items_in past a.process a.interval))) [
        | inl lt ↦ absurd (true≢false (sym (lt-ltb a.item (length (items_in past a.process a.interval)) lt) ∙ sym e))
        | inr le ↦ le
      ]

  -- it is there
  pub an_item : (a : ItemAt) → IsThere past a true → IsNoItem past a → ⊥
  an_item a t none =
      let over : length (items_in past a.process a.interval) ≤ a.item = nothing (items_in past a.process a.interval) a.item none.1 in
      true≢false (t.1 ∙ le-ltb a.item (length (items_in past a.process a.interval)) over)

  -- ---- what is known of an item

  module _ (r : Bor Kept) (kept : Kept) (e : r.now ≡ kept) where
    abbrev known : Past
    known = record past { kept = r }

    free : (p : ℕ) → IsAllKept past kept p → IsFree known p
    free p all k = kept_free known p k (ap (λ (xs : Kept). length (get_or xs p [])) e ∙ all)

    free_of : (ps : List ℕ) → AreAllKept past kept ps → AreFreeOf known ps
    free_of [] h = tt
    free_of (p ∷ ps) h = (free p h.0, free_of ps h.1)

    within_free : (p : ℕ) (ks : List ℕ) → IsFree known p → AreFree known (of_process p ks)
    within_free p [] h = tt
    within_free p (k ∷ ks) h = (h k, within_free p ks h)

    pub far_free : (p : ℕ) (n m : ℕ) → IsAllKept past kept p → RoseWithin known p n m → m ≡ n
    far_free p n m all rose =
        let none = costs_nothing known (of_process p rose.0) (within_free p rose.0 (free p all)) in
        let more = rose.1 in
        omega (arith, none, more)

    module _ (a : ItemAt) (n m : ℕ) where
      abbrev IsTold : Result Bool FlowError → Type 0
      IsTold res =
          IsFoundBy known ((a.process, a.interval) ∷ []) (Ok (nat_lt a.item (length (items_in known a.process a.interval)))) n m res

      same_told : (x y : Bool) → ◌≡◌ {A = Result Bool FlowError} (Ok x) (Ok y) → x ≡ y
      same_told x y f = cc

      pub is_there : (there : Bool) → IsTold (Ok there) → IsThere past a there
      is_there there f = (head_none known a.process a.interval [] f.0, sym (same_told _ _ f.1))

      pub costs_none : (there : Bool) → IsTold (Ok there) → IsAllKept past kept a.process → m ≡ n
      costs_none there f all =
          let one = free a.process all a.interval in
          let rose = f.2 in
          omega (arith, one, rose)

      pub why_none : (error : FlowError) → IsTold (Err error) → IsReplayed past a.process a.interval (Err error)
      why_none (Diverged q j) f = by (failed_in known a.process a.interval) refl f
        where
          by : (o : Option ℕ) → failed_in known a.process a.interval ≡ o
              → failure_or a.process o None ≡ Some (record { process = q; entry = j })
              → (q ≡ a.process) × (failed_in past a.process a.interval ≡ Some j)
          by None g h = absurd (cc)
          by (Some i) g h =
              let same : record { process = a.process; entry = i } ≡ record { process = q; entry = j } = same_Some _ _ h in
              (sym (ap (λ (x : At). x.process) same), g ∙ ap (λ (x : At). Some x.entry) same)
      why_none NoEvent f = absurd (cc f.1)
      why_none (Sets q j c) f = absurd (cc f.1)
      why_none Memory f = tt

    module _ (a : ItemAt) (n m : ℕ) (own : IsAllKept past kept a.process)
        (far : AreAllKept past kept (far_in past a.process a.interval a.item)) where
      pub asked_ok : (es : List FlowEdge) → IsEdges known a.process a.interval a.item n m (Ok es) → IsAsked past a (Ok (Some es))
      asked_ok es f = found_ok known a n m es f

      pub asked_free : (es : List FlowEdge) → IsEdges known a.process a.interval a.item n m (Ok es) → m ≡ n
      asked_free es f =
          let none = costs_nothing known (found_edges past.program.now past.plan.now past.logs.now (seens_in past) a.process a.interval a.item).replays
          (edges_free known a.process a.interval a.item (free a.process own) (free_of (far_in past a.process a.interval a.item) far)) in
          let rose = f.2 in
          omega (arith, none, rose)

      pub asked_err : (error : FlowError) → IsThere past a true → IsEdges known a.process a.interval a.item n m (Err error)
          → IsAsked past a (Err error)
      asked_err error there f = by error (found_err known a n m error f)
        where
          by : (x : FlowError) → (x ≡ Memory) ⊎ (flow_of past a ≡ Err x) → IsAsked past a (Err x)
          by (Diverged q j) (inl g) = absurd (cc)
          by (Diverged q j) (inr g) = flow_diverges past a q j g
          by NoEvent (inl g) = absurd (cc)
          by NoEvent (inr g) = an_item a there (flow_none past a g)
          by (Sets q j c) (inl g) = absurd (cc)
          by (Sets q j c) (inr g) = g
          by Memory g = tt

  -- ---- the sum

  sums_within : (f g : ℕ → ℕ) (n : ℕ) → ((p : ℕ) → f p ≤ g p) → sum_below f n ≤ sum_below g n
  sums_within f g zero le = omega arith
  sums_within f g (suc n) le =
      let rest = sums_within f g n le in
      let last = le n in
      omega (arith, rest, last)

  pub costs_slice : (kept : Kept) (rs : List Reached) (old : Kept) (n m : ℕ) → AreKeptAmong rs kept → RoseByKept past old kept n m
      → CostsSlice past n m (Ok rs)
  costs_slice kept rs old n m among rose =
      let within : steps_kept past kept ≤ steps_of_processes past rs =
      sums_within (steps_kept_of past kept) (λ p. if has_process rs p then process_steps past p else 0) (length past.cut.now.lists) each in
      omega (arith, within, rose)
    where
      each : (p : ℕ) → steps_kept_of past kept p ≤ (if has_process rs p then process_steps past p else 0)
      each p = by (nat_eq (length (get_or kept p [])) (count_in past p)) refl
        where
          some : (k : ℕ) → count_in past p ≡ k → length (get_or kept p []) ≡ k → process_steps past p ≤ (if has_process rs p then process_steps past p else 0)
          some zero e f =
              let none : process_steps past p ≡ 0 = ap (sum_below (steps_in past p)) e in
              omega (arith, none)
          some (suc k) e f =
              let there : has_process rs p ≡ true = among p (omega (arith, f)) in
              let whole : (if has_process rs p then process_steps past p else 0) ≡ process_steps past p = ap (λ b. if b then process_steps past p else 0) there in
              omega (arith, whole)

          by : (b : Bool) → nat_eq (length (get_or kept p [])) (count_in past p) ≡ b
              → (if b then process_steps past p else 0) ≤ (if has_process rs p then process_steps past p else 0)
          by false e = omega arith
          by true e = some (count_in past p) refl (eqb-true (length (get_or kept p [])) (count_in past p) e)
