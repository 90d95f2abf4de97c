-- In the record of a schedule nothing happens before itself: what happens before a synchronization was done at a
-- step at which that one was not.
use Rattle.ppd_model.specs.Setting.{Setting}
use Rattle.std.proofs.Common.{◌≡◌, ℕ, zero, suc, ◌+◌, ◌<◌, ◌≤◌, List, [], ◌∷◌, ◌++◌, length, map, get_or, take, drop, Option, Some, refl, ap, sym, ◌∙◌, subst, arith, inl, inr, take-append-drop}
use Rattle.std.proofs.lemmas.Bool.{cases_eq, cases_lt}
use Rattle.std.specs.Prelude.{IsTrue, option_to_list, filter_map}
use Rattle.ppd_model.specs.declared.graph.NodeId.{NodeId}
use Rattle.ppd_model.specs.HappenedBefore.{Before, direct, through, is_direct, node}
use Rattle.ppd_model.specs.Prefixes.{told_to}
use Rattle.ppd_model.specs.Record.{sync_record}
use Rattle.ppd_model.specs.Schedule.{run, started_world}
use Rattle.ppd_model.specs.Story.{Moment, moment_of, steps_of}
use Rattle.ppd_model.specs.Synchronizations.{Sync, sync_of}
use Rattle.ppd_model.specs.World.{World, change}
use Rattle.ppd_model.proofs.Forward.{records_closed}
use Rattle.ppd_model.proofs.Numbers.{record-change}
use Rattle.ppd_model.proofs.Prefixes.{go_by_prefixes}
use Rattle.ppd_model.proofs.Stories.{steps-change}
use Rattle.law_logs.proofs.Graph.Direct.{direct_there, none_begun, not_itself, one_more, others}

module _ (setting : Setting) (h : List ℕ) (w : World) (runs : run setting h ≡ Some w) where
  abbrev all : List (List Sync)
  all = sync_record setting h

  -- how many synchronizations process q did in the first i steps
  abbrev done : ℕ → ℕ → ℕ
  done i q = length (get_or (sync_record setting (take i h)) q [])

  abbrev next_sync : ℕ → Option Sync
  next_sync i = sync_of (moment_of setting.program setting.plan (told_to setting h i) (get_or h i 0)).taken

  record_next : (i : ℕ) → i < length h → sync_record setting (take (suc i) h) ≡ change (λ ss. ss ++ option_to_list (next_sync i)) (get_or h i 0) (sync_record setting (take i h))
  record_next i lt =
      let m : Moment = moment_of setting.program setting.plan (told_to setting h i) (get_or h i 0) in
      ap (λ t. map (filter_map sync_of) (map steps_of t.moments)) (go_by_prefixes setting h w runs i lt).tells
      ∙ ap (λ xs. map (filter_map sync_of) xs) (steps-change m (get_or h i 0) (told_to setting h i).moments)
      ∙ record-change m.taken (get_or h i 0) (map steps_of (told_to setting h i).moments)

  grows : (i q : ℕ) → i < length h → (done i q ≤ done (suc i) q) × (done (suc i) q ≤ done i q + 1)
  grows i q lt =
      let r = one_more (next_sync i) (get_or h i 0) q (sync_record setting (take i h)) in
      let same : done (suc i) q ≡ length (get_or (change (λ ss. ss ++ option_to_list (next_sync i)) (get_or h i 0) (sync_record setting (take i h))) q []) =
      ap (λ rows. length (get_or rows q [])) (record_next i lt) in
      let a = r.0 in
      let b = r.1 in
      (omega (arith, a, same), omega (arith, b, same))

  stands : (i q : ℕ) → i < length h → (q ≡ get_or h i 0 → ⊥) → done (suc i) q ≡ done i q
  stands i q lt d = ap (λ rows. length (get_or rows q [])) (record_next i lt) ∙ others (next_sync i) (get_or h i 0) q (sync_record setting (take i h)) d

  begins : (q : ℕ) → done 0 q ≡ 0
  begins q = none_begun (started_world setting).procs q

  rises : (i m q : ℕ) → i ≤ m → m ≤ length h → done i q ≤ done m q
  rises i zero q le lt = let e : i ≡ 0 = omega (arith, le) in subst (λ n. done i q ≤ done n q) e (omega arith)
  rises i (suc m) q le lt = elim (cases_eq i (suc m)) [
    | inl e ↦ subst (λ n. done i q ≤ done n q) e (omega arith)
    | inr d ↦
        let rest : done i q ≤ done m q = rises i m q (omega (arith, le, d)) (omega (arith, lt)) in
        let here : done m q ≤ done (suc m) q = (grows m q (omega (arith, lt))).0 in
        omega (arith, rest, here)
  ]

  whole_is : sync_record setting (take (length h) h) ≡ all
  whole_is = ap (λ g. sync_record setting g) (taken_all h)
    where
      taken_all : (g : List ℕ) → take (length g) g ≡ g
      taken_all [] = refl
      taken_all (x ∷ xs) = ap (λ ys. x ∷ ys) (taken_all xs)

  closed_at : (i : ℕ) (a b : NodeId) → Before setting.program all a b → b.sync < done i b.process → a.sync < done i a.process
  closed_at i a b before lt =
      let e : take i h ++ drop i h ≡ h = take-append-drop i h in
      records_closed setting (take i h) (drop i h) w (ap (λ g. run setting g) e ∙ runs) a b
      (subst (λ g. Before setting.program (sync_record setting g) a b) (sym e) before) lt

  -- the step by which a synchronization is done
  record Step (b : NodeId) : Type 0 where
    index : ℕ
    within : index < length h
    not_yet : done index b.process ≤ b.sync
    then_done : b.sync < done (suc index) b.process

  step_of : (n : ℕ) (b : NodeId) → n ≤ length h → b.sync < done n b.process → Step b
  step_of zero b le lt = let z = begins b.process in absurd (omega (arith, z, lt))
  step_of (suc n) b le lt = elim (cases_lt b.sync (done n b.process)) [
    | inl early ↦ step_of n b (omega (arith, le)) early
    | inr late ↦ record { index = n; within = omega (arith, le); not_yet = late; then_done = lt }
  ]

  -- the first is done in the first steps, and the second is not
  record Apart (a b : NodeId) : Type 0 where
    count : ℕ
    within : count ≤ length h
    first : a.sync < done count a.process
    second : done count b.process ≤ b.sync

  same_node : (a b : NodeId) → a.process ≡ b.process → a.sync ≡ b.sync → a ≡ b
  same_node a b e f = ap (λ p. node p a.sync) e ∙ ap (λ i. node b.process i) f

  apart_direct : (a b : NodeId) → IsTrue (is_direct setting.program all a b) → Apart a b
  apart_direct a b d =
      let there : b.sync < done (length h) b.process = subst (λ rows. b.sync < length (get_or rows b.process [])) (sym whole_is) (direct_there setting.program all a b d) in
      let s : Step b = step_of (length h) b (omega arith) there in
      let i : ℕ = s.index in
      let lt : i < length h = s.within in
      let too : a.sync < done (suc i) a.process = closed_at (suc i) a b (direct d) s.then_done in
      let bs = s.not_yet in
      let bt = s.then_done in
      record {
        count = i;
        within = omega (arith, lt);
        second = bs;
        first = elim (cases_eq a.process b.process) [
          | inl e ↦
              let g = (grows i b.process lt).1 in
              let ti : a.sync < done (suc i) b.process = subst (λ p. a.sync < done (suc i) p) e too in
              let other : a.sync ≡ b.sync → ⊥ = λ f. not_itself setting.program all b (subst (λ x. IsTrue (is_direct setting.program all x b)) (same_node a b e f) d) in
              subst (λ p. a.sync < done i p) (sym e) (less a.sync b.sync (done i b.process) (done (suc i) b.process) other g bs bt ti)
          | inr ne ↦ elim (cases_eq a.process (get_or h i 0)) [
            | inr still ↦ let same = stands i a.process lt still in omega (arith, same, too)
            | inl here ↦ let same = stands i b.process lt (λ e. ne (here ∙ sym e)) in absurd (omega (arith, same, bs, bt))
          ]
        ];
      }
    where
      less : (x y n m : ℕ) → (x ≡ y → ⊥) → m ≤ n + 1 → n ≤ y → y < m → x < m → x < n
      less x y n m d g s t l = elim (cases_eq x y) [ inl e ↦ absurd (d e) | inr ne ↦ omega (arith, ne, g, s, t, l) ]

  between : (a b c : NodeId) → Apart a b → Apart b c → Apart a c
  between a b c x y = elim (cases_lt x.count y.count) [
    | inl less ↦
        let le : done x.count a.process ≤ done y.count a.process = rises x.count y.count a.process (omega (arith, less)) y.within in
        let f = x.first in
        record { count = y.count; within = y.within; first = omega (arith, f, le); second = y.second }
    | inr most ↦
        let le : done y.count b.process ≤ done x.count b.process = rises y.count x.count b.process most x.within in
        let f = y.first in
        let s = x.second in
        absurd (omega (arith, f, s, le))
  ]

  apart : (a b : NodeId) → Before setting.program all a b → Apart a b
  apart a b (direct d) = apart_direct a b d
  apart a b (through {b = m} f g) = between a m b (apart a m f) (apart m b g)

  pub never_before_itself : (a : NodeId) → Before setting.program all a a → ⊥
  never_before_itself a before = let x = apart a a before in let f = x.first in let s = x.second in omega (arith, f, s)
