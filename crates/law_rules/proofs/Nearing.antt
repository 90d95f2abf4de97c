-- The intervals near to an item, by their rules.
use Rattle.ppd_model.specs.Setting.{Setting}
use Rattle.std.proofs.Common.{◌≡◌, ℕ, nat_eq, Bool, true, false, List, [], ◌∷◌, inl, inr, refl, ap, ◌∙◌}
use Rattle.std.specs.Prelude.{◌&&◌, ◌||◌}
use Rattle.std.specs.List.{Any, list_any}
use Rattle.std.proofs.lemmas.Bool.{eq-eqb, eqb-true, or_cases, or_left, or_right}
use Rattle.std.proofs.lemmas.List.Folds.{Any-from_list_any, list_any-from_Any}
use Rattle.ppd_sem.specs.Blocks.{block_kind}
use Rattle.ppd_model.specs.declared.flow.FlowEdge.{FlowEdge}
use Rattle.ppd_model.specs.declared.flow.Origin.{Origin}
use Rattle.ppd_model.specs.declared.flow.Origin.TheVariants as origin
use Rattle.ppd_model.specs.declared.tracing.Story.{Story}
use Rattle.ppd_model.specs.FlowbackEdges.{edges, part_at}
use Rattle.ppd_model.specs.Intervals.{Span, Split}
use Rattle.ppd_model.specs.NearIntervals.{edges_or_none, is_in, is_inside, is_loop, is_near, is_near_origin, is_open_at, is_round, surroundings}
use Rattle.law_rules.specs.Near.{ComesFrom, IsNear, NearIntervalsFollowTheRules, is_loop_inside, is_open_at_origin, is_open_there, is_origin, is_round as is_round_by}

-- ---- tests of two parts

both : (a b : Bool) → a ≡ true → b ≡ true → (a && b) ≡ true
both true b x y = y
both false b x y = x

first_of_two : (a b : Bool) → (a && b) ≡ true → a ≡ true
first_of_two true b e = refl
first_of_two false b e = e

second_of_two : (a b : Bool) → (a && b) ≡ true → b ≡ true
second_of_two true b e = e
second_of_two false b e = cc

-- ---- numbers of a list

among : (m : ℕ) (ms : List ℕ) → is_in m ms ≡ true → Any (λ n. m ≡ n) ms
among m ms e = let a = Any-from_list_any (nat_eq m) ms e in (a.0, a.1, a.2, a.3, eqb-true m a.1 a.4)

is_among : (m : ℕ) (ms : List ℕ) → Any (λ n. m ≡ n) ms → is_in m ms ≡ true
is_among m ms a = list_any-from_Any (nat_eq m) ms (a.0, a.1, a.2, a.3, eq-eqb m a.1 a.4)

module _ (setting : Setting) (story : Story) (p k j q : ℕ) (x : Split) (m : ℕ) (i : Span) where
  abbrev Near : Type 0
  Near = IsNear setting story p k j q x m i

  abbrev into : List FlowEdge
  into = edges_or_none (edges setting story p k j)

  abbrev comes : FlowEdge → Bool
  comes e = is_near_origin q x m i e.from

  -- ---- what is near has its rule

  loop_inside : (round : List ℕ) → i.round ≡ round → p ≡ q → is_loop (block_kind setting.plan i.block) ≡ true → is_inside round (surroundings x k) ≡ true → Near
  loop_inside [] is same loop e = cc
  loop_inside (n ∷ round) is same loop e = is_loop_inside n round same loop is (among n (surroundings x k) e)

  own_round : p ≡ q → is_round setting.plan (surroundings x k) m i ≡ true → Near
  own_round same e =
      elim (or_cases (is_in m (surroundings x k)) (is_loop (block_kind setting.plan i.block) && is_inside i.round (surroundings x k)) e) [
        | inl own ↦ is_round_by same (among m (surroundings x k) own)
        | inr loop ↦
            loop_inside i.round refl same (first_of_two (is_loop (block_kind setting.plan i.block)) (is_inside i.round (surroundings x k)) loop)
            (second_of_two (is_loop (block_kind setting.plan i.block)) (is_inside i.round (surroundings x k)) loop)
      ]

  own_process : p ≡ q → (is_round setting.plan (surroundings x k) m i || is_open_at x (part_at x k j) i) ≡ true → Near
  own_process same e =
      elim (or_cases (is_round setting.plan (surroundings x k) m i) (is_open_at x (part_at x k j) i) e) [
        | inl round ↦ own_round same round
        | inr there ↦ is_open_there same there
      ]

  -- of an edge that comes from an item of the process
  from_item : (a : Any (λ e. comes e ≡ true) into) (n o : ℕ) → (a.1).from ≡ origin.Item q n o → (nat_eq n m || is_open_at x (part_at x n o) i) ≡ true → Near
  from_item a n o is e =
      elim (or_cases (nat_eq n m) (is_open_at x (part_at x n o) i) e) [
        | inl same ↦
            is_origin o (a.0, a.1, a.2, a.3, is ∙ ap (λ z. origin.Item q z o) (eqb-true n m same))
        | inr there ↦ is_open_at_origin n o (a.0, a.1, a.2, a.3, is) there
      ]

  from_origin : (a : Any (λ e. comes e ≡ true) into) (from : Origin) → (a.1).from ≡ from → is_near_origin q x m i from ≡ true → Near
  from_origin a origin.Initial is e = cc
  from_origin a origin.Entry is e = cc
  from_origin a (origin.Item b n o) is e =
      from_item a n o (is ∙ ap (λ z. origin.Item z n o) (eqb-true b q (first_of_two (nat_eq b q) (nat_eq n m || is_open_at x (part_at x n o) i) e)))
      (second_of_two (nat_eq b q) (nat_eq n m || is_open_at x (part_at x n o) i) e)

  from_edge : Any (λ e. comes e ≡ true) into → Near
  from_edge a = from_origin a (a.1).from refl a.4

  by_rule : is_near setting story p k j q x m i ≡ true → Near
  by_rule e =
      elim (or_cases (nat_eq p q && (is_round setting.plan (surroundings x k) m i || is_open_at x (part_at x k j) i)) (list_any comes into) e) [
        | inl own ↦
            own_process (eqb-true p q (first_of_two (nat_eq p q) (is_round setting.plan (surroundings x k) m i || is_open_at x (part_at x k j) i) own))
            (second_of_two (nat_eq p q) (is_round setting.plan (surroundings x k) m i || is_open_at x (part_at x k j) i) own)
        | inr edge ↦ from_edge (Any-from_list_any comes into edge)
      ]

  -- ---- and what a rule says is near

  of_own : p ≡ q → (is_round setting.plan (surroundings x k) m i || is_open_at x (part_at x k j) i) ≡ true → is_near setting story p k j q x m i ≡ true
  of_own same e =
      or_left (nat_eq p q && (is_round setting.plan (surroundings x k) m i || is_open_at x (part_at x k j) i)) (list_any comes into)
      (both (nat_eq p q) (is_round setting.plan (surroundings x k) m i || is_open_at x (part_at x k j) i) (eq-eqb p q same) e)

  of_round : p ≡ q → is_round setting.plan (surroundings x k) m i ≡ true → is_near setting story p k j q x m i ≡ true
  of_round same e = of_own same (or_left (is_round setting.plan (surroundings x k) m i) (is_open_at x (part_at x k j) i) e)

  of_item : (n o : ℕ) → ComesFrom into q n o → (nat_eq n m || is_open_at x (part_at x n o) i) ≡ true → is_near setting story p k j q x m i ≡ true
  of_item n o a e =
      or_right (nat_eq p q && (is_round setting.plan (surroundings x k) m i || is_open_at x (part_at x k j) i)) (list_any comes into)
      (list_any-from_Any comes into (
        a.0,
        a.1,
        a.2,
        a.3,
        ap (is_near_origin q x m i) a.4
            ∙ both (nat_eq q q) (nat_eq n m || is_open_at x (part_at x n o) i) (eq-eqb q q refl) e,
      ))

  is_near_by : Near → is_near setting story p k j q x m i ≡ true
  is_near_by (is_round_by same own) =
      of_round same
      (or_left (is_in m (surroundings x k)) (is_loop (block_kind setting.plan i.block) && is_inside i.round (surroundings x k)) (is_among m (surroundings x k) own))
  is_near_by (is_loop_inside n round same loop is own) =
      of_round same
      (or_right (is_in m (surroundings x k)) (is_loop (block_kind setting.plan i.block) && is_inside i.round (surroundings x k))
      (both (is_loop (block_kind setting.plan i.block)) (is_inside i.round (surroundings x k)) loop
      (ap (λ r. is_inside r (surroundings x k)) is ∙ is_among n (surroundings x k) own)))
  is_near_by (is_open_there same there) =
      of_own same (or_right (is_round setting.plan (surroundings x k) m i) (is_open_at x (part_at x k j) i) there)
  is_near_by (is_origin o from) = of_item m o from (or_left (nat_eq m m) (is_open_at x (part_at x m o) i) (eq-eqb m m refl))
  is_near_by (is_open_at_origin n o from there) = of_item n o from (or_right (nat_eq n m) (is_open_at x (part_at x n o) i) there)

pub near_by_rules : NearIntervalsFollowTheRules
near_by_rules setting story p k j q x m i =
    (is_near_by setting story p k j q x m i, by_rule setting story p k j q x m i)
