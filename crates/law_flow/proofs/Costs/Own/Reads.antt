-- The replays for one local cell have at most twice the own steps of the near intervals, those for control too.
use Rattle.ppd_model.specs.Setting.{Setting}
use Rattle.std.proofs.Common.{◌≡◌, ℕ, ◌+◌, ◌<◌, ◌≤◌, Bool, true, false, get_or, List, [], ◌∷◌, ◌++◌, Option, Some, None, refl, ap, ap₂, sym, ◌∙◌, subst, arith, inl, inr, ◌⊎◌, eq-eqb, if◌then◌else◌}
use Rattle.std.specs.Prelude.{length, slice_get, unwrap_or, ◌-◌, ◌&&◌, ◌||◌}
use Rattle.std.proofs.lemmas.Option.{none-some}
use Rattle.ppd_ast.specs.declared.plan.BlockKind.{BlockKind}
use Rattle.ppd_ast.specs.declared.plan.BlockKind.TheVariants as block
use Rattle.ppd_sem.specs.Blocks.{prelog_cells}
use Rattle.ppd_model.specs.declared.flow.FlowEdge.{FlowEdge}
use Rattle.ppd_model.specs.declared.flow.Origin.{Origin}
use Rattle.ppd_model.specs.declared.flow.Origin.TheVariants as origin
use Rattle.ppd_model.specs.FlowbackEdges.{edges, part_at}
use Rattle.ppd_model.specs.Intervals.{Span, Split, splits}
use Rattle.ppd_model.specs.NearIntervals.{is_in, is_near_origin, is_open_at, near_steps, round_of, surroundings}
use Rattle.ppd_model.specs.Story.{story}
use Rattle.ppd_model.proofs.Changes.{some}
use Rattle.ppd_model.proofs.Tested.{In, here as first_in}
use Rattle.ppd_graph.specs.Control.{call_or_entry, control_above, control_in, control_origin}
use Rattle.ppd_graph.specs.Locals.{local_above, local_in, local_origin, outer_frame, parameter}
use Rattle.ppd_graph.specs.Looked.{Looked, known, unless}
use Rattle.ppd_graph.specs.Seen.{Seen, call_of, kind_at, last_item, outer_of, outer_place, seen_of}
use Rattle.ppd_graph.specs.Shared.{of_process}
use Rattle.law_flow.proofs.Edges.Near.Tree.{HasTree}
use Rattle.law_flow.proofs.Edges.Sources.Members.{in_either}
use Rattle.law_flow.proofs.Edges.Near.Distinct.{distinct_both}
use Rattle.law_flow.specs.Costs.Bounds.{steps_of_all}
use Rattle.law_flow.proofs.Costs.Own.Lists.{distinct_one, in_one}
use Rattle.law_flow.proofs.Costs.Own.Locals.{AreGood, IsGood, good_above, local_good}
use Rattle.law_flow.proofs.Costs.Own.Near.{IsNear, near_edge, near_in, near_little, near_loop, one_little, parts_steps}
use Rattle.law_flow.proofs.Costs.Own.Outer.{AllStand, IsOuter, outer_is}

module _ (setting : Setting) (h : List ℕ) (p k j : ℕ) (x : Split) (there : slice_get (splits setting (story setting h)) p ≡ Some x) (es : List FlowEdge)
    (edges_are : edges setting (story setting h) p k j ≡ Some es) (tree : HasTree x) (F : ℕ → ℕ → ℕ → Type 0) (stands : AllStand F x) (i : Span) (at : slice_get x.spans k ≡ Some i) where
  abbrev xs : List Split
  xs = splits setting (story setting h)

  abbrev N : ℕ
  N = near_steps setting (story setting h) p k j

  abbrev seen : Seen
  seen = seen_of x

  o : IsOuter x k i
  o = outer_is F x stands k i at

  oo : IsOuter x (outer_of (seen_of x) k) o.span
  oo = outer_is F x stands (outer_of (seen_of x) k) o.span o.there

  around : (z : ℕ) → In z (k ∷ i.round) → In z (surroundings x k)
  around z f = subst (λ l. In z (k ∷ round_of l)) (sym at) f

  outer_around : In (outer_of (seen_of x) k) (surroundings x k)
  outer_around = around (outer_of (seen_of x) k) o.near

  farther_around : In (outer_of (seen_of x) (outer_of (seen_of x) k)) (surroundings x k)
  farther_around = around (outer_of (seen_of x) (outer_of (seen_of x) k)) (o.round (outer_of (seen_of x) (outer_of (seen_of x) k)) oo.near)

  -- the intervals found in one of those round the item are near, where another one is the origin of an edge
  good_near : (c b : ℕ) (found : Option Origin) (from : Origin) → In b (surroundings x k) → (found ≡ None) ⊎ (found ≡ Some from) → (e : FlowEdge) → In e es → e.from ≡ from
      → (z : ℕ) (s : Span) → IsGood setting.program setting.plan x tree p c b found z → slice_get x.spans z ≡ Some s → IsNear setting h p k j x there es edges_are p x z s
  good_near c b found from near f e g is z s (inl l) at' = near_loop setting h p k j x there es edges_are b z s near l at'
  good_near c b found from near (inl none) e g is z s (inr r) at' = absurd (none-some (last_item seen p z).found (sym none ∙ r.1))
  good_near c b found from near (inr same) e g is z s (inr r) at' =
      let item : e.from ≡ (last_item seen p z).found = is ∙ some (sym same ∙ r.1) in
      near_edge setting h p k j x there es edges_are e g p x z s
      (ap (is_near_origin p x z s) item ∙ ap₂ (λ a b'. a && (b' || is_open_at x (part_at x z (length (get_or seen.items z []) - 1)) s)) (eq-eqb p p refl) (eq-eqb z z refl))

  -- lists of intervals in k or round k, and one more that is round it with a smaller number
  with_one : (c b m : ℕ) (found : Option Origin) (from : Origin) (rs : List ℕ) → In b (surroundings x k) → In m (surroundings x k) → m ≤ b → (found ≡ None) ⊎ (found ≡ Some from) → (e : FlowEdge) → In e es → e.from ≡ from
      → AreGood setting.program setting.plan x tree p c b found rs → steps_of_all xs (of_process p rs) + steps_of_all xs (of_process p (m ∷ [])) ≤ N
  with_one c b m found from rs near near' le f e g is good =
      let sum = parts_steps xs p rs (m ∷ []) in
      let little : steps_of_all xs (of_process p (rs ++ m ∷ [])) ≤ N = near_little setting h p k j x there es edges_are p x (rs ++ m ∷ []) there (record {
        once = distinct_both rs (m ∷ []) good.once (distinct_one m) (λ z a b'.
            let lt : b < z = good_above setting.program setting.plan x tree p c b found z (good.each z a) in
            let same : z ≡ m = in_one z m b' in
            omega (arith, lt, same, le));
        close = λ z s q at'. elim (in_either z rs (m ∷ []) q) [
          | inl a ↦ good_near c b found from near f e g is z s (good.each z a) at'
          | inr b' ↦ near_in setting h p k j x there es edges_are z s (subst (λ y. In y (surroundings x k)) (sym (in_one z m b')) near')
        ];
      }) in
      omega (arith, sum, little)

  -- without one more
  alone : (c b : ℕ) (found : Option Origin) (from : Origin) (rs : List ℕ) → In b (surroundings x k) → (found ≡ None) ⊎ (found ≡ Some from) → (e : FlowEdge) → In e es → e.from ≡ from
      → AreGood setting.program setting.plan x tree p c b found rs → steps_of_all xs (of_process p rs) ≤ N
  alone c b found from rs near f e g is good = let r = with_one c b b found from rs near near (omega arith) f e g is good in omega (arith, r)

  -- with the interval that they are in
  and_itself : (c b : ℕ) (found : Option Origin) (from : Origin) (rs : List ℕ) → In b (surroundings x k) → (found ≡ None) ⊎ (found ≡ Some from) → (e : FlowEdge) → In e es → e.from ≡ from
      → AreGood setting.program setting.plan x tree p c b found rs → steps_of_all xs (of_process p (b ∷ rs)) ≤ N
  and_itself c b found from rs near f e g is good =
      let one = with_one c b b found from rs near near (omega arith) f e g is good in
      let sum = parts_steps xs p (b ∷ []) rs in
      omega (arith, one, sum)

  -- ---- a local cell

  module _ (c at_place frame : ℕ) (e : FlowEdge) (g : In e es) (is : e.from ≡ (local_origin setting.program setting.plan (seen_of x) p k at_place frame c).found) where
    abbrev rs : List ℕ
    rs = (local_in setting.program setting.plan (seen_of x) p k at_place frame c).replays

    abbrev outer : ℕ
    outer = outer_of (seen_of x) k

    good : AreGood setting.program setting.plan x tree p c k (local_in setting.program setting.plan (seen_of x) p k at_place frame c).found (local_in setting.program setting.plan (seen_of x) p k at_place frame c).replays
    good = local_good setting.program setting.plan x tree p c k at_place frame i at

    abbrev rs' : List ℕ
    rs' = (local_in setting.program setting.plan (seen_of x) p (outer_of (seen_of x) k) (outer_place (seen_of x) k) (outer_frame setting.program setting.plan (seen_of x) k) c).replays

    abbrev found' : Option Origin
    found' = (local_in setting.program setting.plan (seen_of x) p (outer_of (seen_of x) k) (outer_place (seen_of x) k) (outer_frame setting.program setting.plan (seen_of x) k) c).found

    good' : AreGood setting.program setting.plan x tree p c outer found' rs'
    good' = local_good setting.program setting.plan x tree p c outer (outer_place (seen_of x) k) (outer_frame setting.program setting.plan (seen_of x) k) o.span o.there

    here : In k (surroundings x k)
    here = around k first_in

    -- the call, for a parameter of interval m; else the start value
    abbrev of_call : ℕ → Bool → Looked ℕ Origin
    of_call m b = if b then call_of (seen_of x) p m else known origin.Initial

    -- a parameter of an interval: the one round it, or none
    parameter_cases : (m : ℕ) (kind : BlockKind) → ((parameter setting.plan (seen_of x) p m c kind).replays ≡ []) ⊎ ((parameter setting.plan (seen_of x) p m c kind).replays ≡ outer_of (seen_of x) m ∷ [])
    parameter_cases m (block.Function f) = by (is_in c (prelog_cells setting.plan (get_or (seen_of x).blocks m 0)))
      where
        by : (b : Bool) → ((of_call m b).replays ≡ []) ⊎ ((of_call m b).replays ≡ outer_of (seen_of x) m ∷ [])
        by true = inr refl
        by false = inl refl
    parameter_cases m (block.Process q) = inl refl
    parameter_cases m (block.Loop l) = inl refl

    -- with a parameter of k or of the one round it
    with_parameter : (m : ℕ) (kind : BlockKind) (from : Origin) → In (outer_of (seen_of x) m) (surroundings x k) → outer_of (seen_of x) m ≤ k
        → ((local_in setting.program setting.plan (seen_of x) p k at_place frame c).found ≡ None) ⊎ ((local_in setting.program setting.plan (seen_of x) p k at_place frame c).found ≡ Some from) → e.from ≡ from
        → steps_of_all xs (of_process p rs) + steps_of_all xs (of_process p (parameter setting.plan (seen_of x) p m c kind).replays) ≤ N
    with_parameter m kind from near le f same = elim (parameter_cases m kind) [
      | inl none ↦
          let r = alone c k (local_in setting.program setting.plan (seen_of x) p k at_place frame c).found from rs here f e g same good in
          let z : steps_of_all xs (of_process p (parameter setting.plan (seen_of x) p m c kind).replays) ≡ 0 = ap (λ l. steps_of_all xs (of_process p l)) none in
          omega (arith, r, z)
      | inr one ↦
          let r = with_one c k (outer_of (seen_of x) m) (local_in setting.program setting.plan (seen_of x) p k at_place frame c).found from rs here near le f e g same good in
          let z : steps_of_all xs (of_process p (parameter setting.plan (seen_of x) p m c kind).replays) ≡ steps_of_all xs (of_process p (outer_of (seen_of x) m ∷ [])) = ap (λ l. steps_of_all xs (of_process p l)) one in
          omega (arith, r, z)
    ]

    abbrev Bounded : List ℕ → Type 0
    Bounded l = steps_of_all xs (of_process p (rs ++ l)) ≤ N + N

    plain : (kind : BlockKind) → (local_in setting.program setting.plan (seen_of x) p k at_place frame c).found ≡ None → Bounded (parameter setting.plan (seen_of x) p k c kind).replays
    plain kind none =
        let a = with_parameter k kind e.from outer_around o.below (inl none) refl in
        let sum = parts_steps xs p rs (parameter setting.plan (seen_of x) p k c kind).replays in
        omega (arith, a, sum)

    -- nothing is found in k
    by_kind : (kind : BlockKind) → (local_in setting.program setting.plan (seen_of x) p k at_place frame c).found ≡ None → e.from ≡ (local_above setting.program setting.plan (seen_of x) p k c kind).found → Bounded (local_above setting.program setting.plan (seen_of x) p k c kind).replays
    by_kind (block.Loop l) none same = by found' refl
      where
        first : (w : List ℕ) → steps_of_all xs (of_process p (rs ++ outer ∷ (rs' ++ w))) ≡ steps_of_all xs (of_process p rs) + (steps_of_all xs (of_process p (outer ∷ rs')) + steps_of_all xs (of_process p w))
        first w = parts_steps xs p rs (outer ∷ (rs' ++ w)) ∙ ap (λ z. steps_of_all xs (of_process p rs) + z) (parts_steps xs p (outer ∷ rs') w)

        by : (f : Option Origin) → found' ≡ f
            → Bounded (outer ∷ (rs' ++ unless found' (parameter setting.plan (seen_of x) p outer c (kind_at setting.plan (seen_of x) outer)).replays))
        by (Some from) q =
            let from_is : e.from ≡ from = same ∙ ap (λ (w : Option Origin). unwrap_or w (parameter setting.plan (seen_of x) p outer c (kind_at setting.plan (seen_of x) outer)).found) q in
            let a = alone c k (local_in setting.program setting.plan (seen_of x) p k at_place frame c).found from rs here (inl none) e g from_is good in
            let b = and_itself c outer found' from rs' outer_around (inr q) e g from_is good' in
            let sum = first [] in
            subst (λ (w : Option Origin). Bounded (outer ∷ (rs' ++ unless w (parameter setting.plan (seen_of x) p outer c (kind_at setting.plan (seen_of x) outer)).replays))) (sym q)
            (let z : steps_of_all xs (of_process p []) ≡ 0 = refl in omega (arith, a, b, sum, z))
        by None q =
            let a = with_parameter outer (kind_at setting.plan (seen_of x) outer) e.from farther_around (let l1 = o.below in let l2 = oo.below in omega (arith, l1, l2)) (inl none) refl in
            let b = and_itself c outer found' e.from rs' outer_around (inl q) e g refl good' in
            let sum = first (parameter setting.plan (seen_of x) p outer c (kind_at setting.plan (seen_of x) outer)).replays in
            subst (λ (w : Option Origin). Bounded (outer ∷ (rs' ++ unless w (parameter setting.plan (seen_of x) p outer c (kind_at setting.plan (seen_of x) outer)).replays))) (sym q)
            (omega (arith, a, b, sum))
    by_kind (block.Function f) none same = plain (block.Function f) none
    by_kind (block.Process f) none same = plain (block.Process f) none

    -- all
    pub local_little : steps_of_all (splits setting (story setting h)) (of_process p (local_origin setting.program setting.plan (seen_of x) p k at_place frame c).replays)
        ≤ near_steps setting (story setting h) p k j + near_steps setting (story setting h) p k j
    local_little = by (local_in setting.program setting.plan (seen_of x) p k at_place frame c).found refl
      where
        by : (f : Option Origin) → (local_in setting.program setting.plan (seen_of x) p k at_place frame c).found ≡ f
            → Bounded (unless (local_in setting.program setting.plan (seen_of x) p k at_place frame c).found (local_above setting.program setting.plan (seen_of x) p k c (kind_at setting.plan (seen_of x) k)).replays)
        by (Some from) q =
            let from_is : e.from ≡ from = is ∙ ap (λ (w : Option Origin). unwrap_or w (local_above setting.program setting.plan (seen_of x) p k c (kind_at setting.plan (seen_of x) k)).found) q in
            let a = alone c k (local_in setting.program setting.plan (seen_of x) p k at_place frame c).found from rs here (inr q) e g from_is good in
            let sum = parts_steps xs p rs [] in
            subst (λ (w : Option Origin). Bounded (unless w (local_above setting.program setting.plan (seen_of x) p k c (kind_at setting.plan (seen_of x) k)).replays)) (sym q)
            (let z : steps_of_all xs (of_process p []) ≡ 0 = refl in omega (arith, a, sum, z))
        by None q =
            subst (λ (w : Option Origin). Bounded (unless w (local_above setting.program setting.plan (seen_of x) p k c (kind_at setting.plan (seen_of x) k)).replays)) (sym q)
            (by_kind (kind_at setting.plan (seen_of x) k) q (is ∙ ap (λ (w : Option Origin). unwrap_or w (local_above setting.program setting.plan (seen_of x) p k c (kind_at setting.plan (seen_of x) k)).found) q))

  -- ---- control

  call_little : (m : ℕ) (kind : BlockKind) → In (outer_of (seen_of x) m) (surroundings x k) → steps_of_all xs (of_process p (call_or_entry (seen_of x) p m kind).replays) ≤ N
  call_little m (block.Function f) near = one_little setting h p k j x there es edges_are (outer_of (seen_of x) m) near
  call_little m (block.Process f) near = omega arith
  call_little m (block.Loop l) near = omega arith

  unless_little : (f : Option Origin) (ms : List ℕ) (n : ℕ) → steps_of_all xs (of_process p ms) ≤ n → steps_of_all xs (of_process p (unless f ms)) ≤ n
  unless_little None ms n le = le
  unless_little (Some from) ms n le = omega arith

  above_little : (kind : BlockKind) → steps_of_all xs (of_process p (control_above setting.program setting.plan (seen_of x) p k kind).replays) ≤ N + N
  above_little (block.Loop l) =
      let outer : ℕ = outer_of (seen_of x) k in
      let rest : List ℕ = unless (control_in setting.program setting.plan (seen_of x) p outer (outer_place (seen_of x) k) l) (call_or_entry (seen_of x) p outer (kind_at setting.plan (seen_of x) outer)).replays in
      let a = one_little setting h p k j x there es edges_are outer outer_around in
      let b = unless_little (control_in setting.program setting.plan (seen_of x) p outer (outer_place (seen_of x) k) l) (call_or_entry (seen_of x) p outer (kind_at setting.plan (seen_of x) outer)).replays N
      (call_little outer (kind_at setting.plan (seen_of x) outer) farther_around) in
      let sum = parts_steps xs p (outer ∷ []) rest in
      omega (arith, a, b, sum)
  above_little (block.Function f) = let a = call_little k (block.Function f) outer_around in omega (arith, a)
  above_little (block.Process f) = let a = call_little k (block.Process f) outer_around in omega (arith, a)

  pub control_little : (place s : ℕ) → steps_of_all (splits setting (story setting h)) (of_process p (control_origin setting.program setting.plan (seen_of x) p k place s).replays)
      ≤ near_steps setting (story setting h) p k j + near_steps setting (story setting h) p k j
  control_little place s = unless_little (control_in setting.program setting.plan (seen_of x) p k place s) (control_above setting.program setting.plan (seen_of x) p k (kind_at setting.plan (seen_of x) k)).replays (N + N) (above_little (kind_at setting.plan (seen_of x) k))
