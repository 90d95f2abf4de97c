-- Where no race is listed, steps of a run that touch one cell are ordered.
use Rattle.ppd_model.specs.Setting.{Setting}
use Rattle.ppd_model.specs.Races.{races_among, edges_of_story}
use Rattle.std.proofs.Common.{◌≡◌, ℕ, zero, suc, ◌+◌, ◌<◌, ◌≤◌, ◌⊎◌, ◌≢◌, ◌&&◌, nat_eq, List, [], ◌∷◌, Option, Some, refl, ap, sym, subst, ◌∙◌, arith, length, map, get_or, eqb-true, inl, inr, ⊎_elim}
use Rattle.std.specs.Prelude.{IsTrue, is_some, slice_get, filter_map}
use Rattle.std.proofs.lemmas.Bool.{and_parts, cases_eq, cases_lt, or_cases, or_left}
use Rattle.ppd_ast.specs.declared.program.Program.{Program}
use Rattle.ppd_model.specs.declared.graph.NodeId.{NodeId}
use Rattle.ppd_model.specs.declared.tracing.Story.{Story}
use Rattle.ppd_model.specs.declared.tracing.Taken.{Taken}
use Rattle.ppd_model.specs.HappenedBefore as hb
use Rattle.ppd_model.specs.HappenedBefore.{Before, EdgeBefore, direct, edge, is_direct, node, sync_at, through}
use Rattle.ppd_model.proofs.OrderWords.{is_next}
use Rattle.ppd_model.specs.Laws.{DoConflict}
use Rattle.ppd_model.specs.Numbers.{sync}
use Rattle.ppd_model.specs.Record.{accesses_from, record_of}
use Rattle.ppd_model.specs.Synchronizations as s
use Rattle.ppd_model.specs.Synchronizations.{leads_at, sync_of}
use Rattle.ppd_model.proofs.RaceFree.{no_race}
use Rattle.ppd_model.proofs.LastEdges.{before_from}
use Rattle.ppd_model.proofs.Tested.{before_there, below_length}
use Rattle.law_steps.proofs.Machine.Model.{Want, Stop, Local, Read, Write, Sync, Scene, Run, Hb, Own, Pair, Then, IsOrdered, Touches, tick, want_at}
use Rattle.law_steps.proofs.Machine.Runs.{hist_other, syncs_grow, syncs_own}
use Rattle.law_steps.proofs.Machine.Meeting.{writes_touches}
use Rattle.law_steps.proofs.Instance.Wants.{History, Line, Tagged, machine, synced_in}
use Rattle.law_steps.proofs.Schedules.Records.{IsAccess, access, accesses_in, entry_at, is_access, synced_is, syncs_in}

-- ---- what a record calls before is there

pub syncs_at : (steps : List (List Taken)) (p : ℕ) → get_or (map (filter_map sync_of) steps) p [] ≡ syncs_in (slice_get steps p)
syncs_at [] p = refl
syncs_at (xs ∷ rest) zero = refl
syncs_at (xs ∷ rest) (suc p) = syncs_at rest p

accesses_at : (steps : List (List Taken)) (p : ℕ) → accesses_from 0 (get_or steps p []) ≡ accesses_in (slice_get steps p)
accesses_at [] p = refl
accesses_at (xs ∷ rest) zero = refl
accesses_at (xs ∷ rest) (suc p) = accesses_at rest p

module _ (program : Program) (syncs : List (List s.Sync)) where
  abbrev IsThere : NodeId → Type 0
  IsThere a = a.sync < length (get_or syncs a.process [])

  some_there : (a : NodeId) → IsTrue (is_some (sync_at syncs a)) → IsThere a
  some_there a h = below_length is_some (get_or syncs a.process []) a.sync h refl

  -- the next of its process
  record IsNext (a b : NodeId) : Type 0 where
    process : a.process ≡ b.process
    sync : a.sync + 1 ≡ b.sync
    there : IsThere b

  next_is : (a b : NodeId) → IsTrue (is_next syncs a b) → IsNext a b
  next_is a b h =
      let both = and_parts (nat_eq a.process b.process && nat_eq (a.sync + 1) b.sync) (is_some (sync_at syncs b)) h in
      let two = and_parts (nat_eq a.process b.process) (nat_eq (a.sync + 1) b.sync) both.0 in
      record { process = eqb-true a.process b.process two.0; sync = eqb-true (a.sync + 1) b.sync two.1; there = some_there b both.1 }

  direct_cases : (a b : NodeId) → IsTrue (is_direct program syncs a b) → IsNext a b ⊎ IsTrue (leads_at program (sync_at syncs a) (sync_at syncs b))
  direct_cases a b h = elim (or_cases (is_next syncs a b) (leads_at program (sync_at syncs a) (sync_at syncs b)) h) [ inl next ↦ inl (next_is a b next) | inr l ↦ inr l ]

  pub first_there : (a b : NodeId) → Before program syncs a b → IsThere a
  first_there a b h = some_there a (before_from program syncs a b h)

  pub second_there : (a b : NodeId) → Before program syncs a b → IsThere b
  second_there a b h = some_there b (before_there program syncs a b h)

-- ---- the times of synchronizations

module _ (setting : Setting) {first : Scene History Line Tagged} (R : Run (machine setting) first) (fresh : (q : ℕ) → synced_in (first.hist q) ≡ 0) where
  -- the time of synchronization i of process q
  record SyncAt (q i : ℕ) : Type 0 where
    time : ℕ
    in_run : time < R.ends
    own : R.who time ≡ q
    line : Line
    value : Tagged
    is : want_at R time ≡ Sync line value
    index : synced_in ((R.at time).hist q) ≡ i

  sync_now : (m : ℕ) → m < R.ends → (w : Want Line Tagged) → want_at R m ≡ w → (i : ℕ) → synced_in ((R.at m).hist (R.who m)) ≤ i → i < tick w (synced_in ((R.at m).hist (R.who m))) → SyncAt (R.who m) i
  sync_now m h Stop e i lo hi = absurd (omega (arith, lo, hi))
  sync_now m h Local e i lo hi = absurd (omega (arith, lo, hi))
  sync_now m h (Read x) e i lo hi = absurd (omega (arith, lo, hi))
  sync_now m h (Write x v) e i lo hi = absurd (omega (arith, lo, hi))
  sync_now m h (Sync l v) e i lo hi = record { time = m; in_run = h; own = refl; line = l; value = v; is = e; index = omega (arith, lo, hi) }

  sync_time : (q i m : ℕ) → m ≤ R.ends → i < synced_in ((R.at m).hist q) → SyncAt q i
  sync_time q i zero top lt =
      let none : synced_in ((R.at 0).hist q) ≡ 0 = ap synced_in (R.starts.hist q) ∙ fresh q in
      absurd (omega (arith, none, lt))
  sync_time q i (suc m) top lt =
      ⊎_elim
      (λ (old : i < synced_in ((R.at m).hist q)). sync_time q i m (omega (arith, top)) old)
      (λ (ge : synced_in ((R.at m).hist q) ≤ i).
      ⊎_elim
      (λ (e : q ≡ R.who m).
      let ge2 : synced_in ((R.at m).hist (R.who m)) ≤ i = subst (λ (p : ℕ). synced_in ((R.at m).hist p) ≤ i) e ge in
      let lt2 : i < synced_in ((R.at (suc m)).hist (R.who m)) = subst (λ (p : ℕ). i < synced_in ((R.at (suc m)).hist p)) e lt in
      let lt3 : i < tick (want_at R m) (synced_in ((R.at m).hist (R.who m))) = subst (λ (k : ℕ). i < k) (syncs_own R m top) lt2 in
      subst (λ (p : ℕ). SyncAt p i) (sym e) (sync_now m top (want_at R m) refl i ge2 lt3))
      (λ (ne : q ≡ R.who m → ⊥).
      let same : synced_in ((R.at (suc m)).hist q) ≡ synced_in ((R.at m).hist q) = ap synced_in (hist_other R m q top ne) in
      absurd (omega (arith, same, lt, ge)))
      (cases_eq q (R.who m)))
      (cases_lt i (synced_in ((R.at m).hist q)))

  module _ (syncs : List (List s.Sync)) (same : (p : ℕ) → get_or syncs p [] ≡ syncs_in ((R.at R.ends).hist p)) where
    time_of : (q i : ℕ) → i < length (get_or syncs q []) → SyncAt q i
    time_of q i lt =
        let count : synced_in ((R.at R.ends).hist q) ≡ length (get_or syncs q []) = synced_is ((R.at R.ends).hist q) ∙ ap length (sym (same q)) in
        sync_time q i R.ends (omega arith) (omega (arith, lt, count))

    entry_is : (q i : ℕ) (a : SyncAt q i) → sync_at syncs (node q i) ≡ Some (sync a.line.0 a.line.1 (suc ((R.at a.time).count a.line)))
    entry_is q i a =
        let made : s.Sync = sync a.line.0 a.line.1 (suc ((R.at a.time).count a.line)) in
        let e : slice_get (syncs_in ((R.at R.ends).hist (R.who a.time))) (synced_in ((R.at a.time).hist (R.who a.time))) ≡ Some made = entry_at setting R a.time a.line a.value a.in_run a.is in
        let at_q : slice_get (syncs_in ((R.at R.ends).hist q)) (synced_in ((R.at a.time).hist q)) ≡ Some made = subst (λ (p : ℕ). slice_get (syncs_in ((R.at R.ends).hist p)) (synced_in ((R.at a.time).hist p)) ≡ Some made) a.own e in
        ap (λ (ss : List s.Sync). slice_get ss i) (same q) ∙ ap (λ (k : ℕ). slice_get (syncs_in ((R.at R.ends).hist q)) k) (sym a.index) ∙ at_q

    -- what the record calls before happened before
    times : (a b : NodeId) → Before setting.program syncs a b → (x : SyncAt a.process a.sync) (y : SyncAt b.process b.sync) → Hb R x.time y.time
    times a b (direct d) x y = elim (direct_cases setting.program syncs a b d) [
      | inl next ↦
          let of_b : synced_in ((R.at y.time).hist a.process) ≡ b.sync = ap (λ (p : ℕ). synced_in ((R.at y.time).hist p)) next.process ∙ y.index in
          ⊎_elim
          (λ (before : x.time < y.time). Own x.time y.time before (x.own ∙ next.process ∙ sym y.own))
          (λ (ge : y.time ≤ x.time).
          let top : x.time < R.ends = x.in_run in
          let grown : synced_in ((R.at y.time).hist a.process) ≤ synced_in ((R.at x.time).hist a.process) = syncs_grow R a.process y.time x.time ge (omega (arith, top)) in
          absurd (omega (arith, grown, of_b, x.index, next.sync)))
          (cases_lt x.time y.time)
      | inr l ↦
          let la : IsTrue (leads_at setting.program (Some (sync x.line.0 x.line.1 (suc ((R.at x.time).count x.line)))) (Some (sync y.line.0 y.line.1 (suc ((R.at y.time).count y.line))))) =
          subst (λ (o : Option s.Sync). IsTrue (leads_at setting.program (Some (sync x.line.0 x.line.1 (suc ((R.at x.time).count x.line)))) o)) (entry_is b.process b.sync y)
          (subst (λ (o : Option s.Sync). IsTrue (leads_at setting.program o (sync_at syncs b))) (entry_is a.process a.sync x) l) in
          Pair x.time y.time y.line x.line y.value x.value x.in_run y.in_run x.is y.is la
    ]
    times a b (through {b = m} h k) x y =
        let z : SyncAt m.process m.sync = time_of m.process m.sync (second_there setting.program syncs a m h) in
        Then x.time z.time y.time (times a m h x z) (times m b k z y)

    -- a step that is no synchronization
    no_sync : (x : ℕ) (w : Want Line Tagged) → Touches x w → (l : Line) (v : Tagged) → w ≡ Sync l v → ⊥
    no_sync x w t l v e = subst (λ (y : Want Line Tagged). Touches x y) e t

    -- steps in edges of which the first is before the second
    edges : (i j x : ℕ) → i < R.ends → j < R.ends → R.who i ≢ R.who j → Touches x (want_at R i) → Touches x (want_at R j)
        → EdgeBefore setting.program syncs (edge (R.who i) (synced_in ((R.at i).hist (R.who i)))) (edge (R.who j) (synced_in ((R.at j).hist (R.who j)))) → Hb R i j
    edges i j x hi hj ne ti tj (hb.earlier same lt) = absurd (ne same)
    edges i j x hi hj ne ti tj (hb.across d k next h) =
        let p : ℕ = R.who i in
        let q : ℕ = R.who j in
        let e : ℕ = synced_in ((R.at i).hist p) in
        let one : SyncAt p e = time_of p e (first_there setting.program syncs (node p e) (node q k) h) in
        let two : SyncAt q k = time_of q k (second_there setting.program syncs (node p e) (node q k) h) in
        let middle : Hb R one.time two.time = times (node p e) (node q k) h one two in
        let first_part : i < one.time =
        ⊎_elim
        (λ (lt : i < one.time). lt)
        (λ (ge : one.time ≤ i).
        ⊎_elim
        (λ (same : one.time ≡ i). absurd (no_sync x (want_at R i) ti one.line one.value (subst (λ (m : ℕ). want_at R m ≡ Sync one.line one.value) same one.is)))
        (λ (other : one.time ≡ i → ⊥).
        let made : synced_in ((R.at (suc one.time)).hist (R.who one.time)) ≡ suc (synced_in ((R.at one.time).hist (R.who one.time))) =
        syncs_own R one.time one.in_run ∙ ap (λ (w : Want Line Tagged). tick w (synced_in ((R.at one.time).hist (R.who one.time)))) one.is in
        let made2 : synced_in ((R.at (suc one.time)).hist p) ≡ suc (synced_in ((R.at one.time).hist p)) = subst (λ (o : ℕ). synced_in ((R.at (suc one.time)).hist o) ≡ suc (synced_in ((R.at one.time).hist o))) one.own made in
        let after : suc one.time ≤ i = omega (arith, ge, other) in
        let grown : synced_in ((R.at (suc one.time)).hist p) ≤ synced_in ((R.at i).hist p) = syncs_grow R p (suc one.time) i after (omega (arith, hi)) in
        absurd (omega (arith, grown, made2, one.index)))
        (cases_eq one.time i))
        (cases_lt i one.time) in
        let last_part : two.time < j =
        ⊎_elim
        (λ (lt : two.time < j). lt)
        (λ (ge : j ≤ two.time).
        let top : two.time < R.ends = two.in_run in
        let grown : synced_in ((R.at j).hist q) ≤ synced_in ((R.at two.time).hist q) = syncs_grow R q j two.time ge (omega (arith, top)) in
        absurd (omega (arith, grown, two.index, next)))
        (cases_lt two.time j) in
        Then i one.time j (Own i one.time first_part (sym one.own))
        (Then one.time two.time j middle (Own two.time j last_part two.own))

  -- a story with the steps of the run that lists no race
  pub ordered : (story : Story) → ((p : ℕ) → slice_get story.steps p ≡ (R.at R.ends).hist p) → length story.cells ≡ length setting.program.starts → races_among (edges_of_story setting.program story) ≡ [] → IsOrdered R
  ordered story steps cells none i j x hi hj ne w t no_ij no_ji =
      let syncs : List (List s.Sync) = record_of story in
      let same : (p : ℕ) → get_or syncs p [] ≡ syncs_in ((R.at R.ends).hist p) = λ p. syncs_at story.steps p ∙ ap syncs_in (steps p) in
      let ti : Touches x (want_at R i) = writes_touches x (want_at R i) w in
      let a : IsAccess setting R i x = is_access setting R i x hi ti in
      let b : IsAccess setting R j x = is_access setting R j x hj t in
      let one = access (synced_in ((R.at i).hist (R.who i))) x a.writes in
      let two = access (synced_in ((R.at j).hist (R.who j))) x b.writes in
      let conflict : DoConflict story (R.who i) (R.who j) one two = record {
        apart = ne;
        first = (a.found.0, ap (λ as'. slice_get as' a.found.0) (accesses_at story.steps (R.who i) ∙ ap accesses_in (steps (R.who i))) ∙ a.found.1);
        second = (b.found.0, ap (λ as'. slice_get as' b.found.0) (accesses_at story.steps (R.who j) ∙ ap accesses_in (steps (R.who j))) ∙ b.found.1);
        cell = refl;
        there = omega (arith, a.there, cells);
        writes = or_left a.writes b.writes (a.writing w);
      } in
      elim (no_race setting.program story none (R.who i) (R.who j) one two conflict) [
        | inl before ↦ no_ij (edges syncs same i j x hi hj ne ti t before)
        | inr before ↦ no_ji (edges syncs same j i x hj hi (λ e. ne (sym e)) t ti before)
      ]
