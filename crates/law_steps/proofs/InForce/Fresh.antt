-- The value in force of a cell of the unit in force is the cell's value, or another process wrote it since, and so after each step.
use Rattle.ppd_model.specs.Setting.{Setting}
use Rattle.std.proofs.Common.{◌≡◌, ℕ, ◌+◌, ◌<◌, ℤ, pos, List, [], ◌∷◌, ◌++◌, Some, None, refl, ap, sym, subst, ◌∙◌, arith, length, get_or, inl, inr, ◌⊎◌, append_assoc, get_or-set_same, get_or-set_other}
use Rattle.std.proofs.lemmas.Bool.{cases_eq}
use Rattle.std.proofs.lemmas.List.{append-nil}
use Rattle.std.proofs.lemmas.List.Sums.{fold-append}
use Rattle.std.specs.Prelude.{option_to_list, slice_set, unwrap_or, filter_map}
use Rattle.ppd_ast.specs.declared.plan.Start.TheVariants as start
use Rattle.ppd_sem.specs.declared.proc.Need.{Need}
use Rattle.ppd_sem.specs.declared.proc.Need.TheVariants.{Read, Write, Plain, Enter, Leave, Invoke, Back, P, V, Send, Offer, Done, Recv, End, Trap, Budget, Stopped}
use Rattle.ppd_sem.specs.Tables.{unit_of}
use Rattle.ppd_model.specs.Forward.{edge_in}
use Rattle.ppd_model.specs.Schedule.{started_world}
use Rattle.ppd_model.specs.SharedReads.{need_after}
use Rattle.ppd_model.specs.Story.{Moment, Telling, moment_of, steps_of, told, unit_started}
use Rattle.ppd_model.proofs.WorldWords.{values_at_start}
use Rattle.ppd_model.specs.Synchronizations.{kind_of_sync, numbered, sync_of}
use Rattle.ppd_model.specs.World.{effect, need}
use Rattle.ppd_model.proofs.Numbers.{syncs-append}
use Rattle.ppd_model.proofs.Prefixes.{objects_stay}
use Rattle.ppd_model.proofs.Stories.{told-append, steps_append}
use Rattle.law_steps.specs.Units.{IsCellOf, unit_after, unit_in_force}
use Rattle.ppd_model.specs.Replay.{value_in_force}
use Rattle.law_steps.specs.InForce.Values.{begun_in_force, in_force, in_force_after, in_force_by, with_unit}
use Rattle.law_steps.proofs.OpenBlocks.Told.{none_own, own_same, own_syncs_are}
use Rattle.law_steps.proofs.InForce.Values.{unit_value, written_here, written_there}

module _ (setting : Setting) where
  -- another process wrote the cell since the process's last synchronization
  pub record IsWrittenSince (h : List ℕ) (p c : ℕ) : Type 0 where
    pub before : List ℕ
    pub writer : ℕ
    pub between : List ℕ
    pub value : ℤ
    pub schedule_is : h ≡ before ++ writer ∷ between
    pub other : writer ≡ p → ⊥
    pub writes : need_after setting before writer ≡ Write c value
    pub same_edge : edge_in setting before p ≡ edge_in setting h p

  -- the value in force is the cell's, or another process wrote it since
  abbrev pub IsFresh : List ℕ → ℕ → ℕ → Type 0
  IsFresh h p c =
      (value_in_force (in_force setting.program setting.plan p (get_or (told setting h).moments p [])) c ≡ get_or (told setting h).world.shared c (pos 0))
      ⊎ IsWrittenSince h p c

  abbrev pub unit_at : List ℕ → ℕ → ℕ
  unit_at h p = unit_in_force setting.program setting.plan p (steps_of (get_or (told setting h).moments p []))

  -- so it is with each cell of the unit in force
  abbrev pub AreFresh : List ℕ → ℕ → Type 0
  AreFresh h p = (c : ℕ) → c < length setting.program.starts → IsCellOf setting.plan (unit_at h p) c → IsFresh h p c

  -- ---- the start

  pub begun_fresh : (p : ℕ) → AreFresh [] p
  begun_fresh p c lt k =
      let nil : get_or (told setting []).moments p [] ≡ [] = none_own (started_world setting).procs p in
      let u : ℕ = unit_of setting.plan (start.Entry (setting.program.functions + p)) in
      let k' : IsCellOf setting.plan u c = subst (λ ms. IsCellOf setting.plan (unit_in_force setting.program setting.plan p (steps_of ms)) c) nil k in
      inl (ap (λ ms. value_in_force (in_force setting.program setting.plan p ms) c) nil ∙ unit_value setting.plan setting.program.starts u c k')

  -- ---- one step

  module _ (h : List ℕ) (r : ℕ) where
    abbrev now : Telling
    now = told setting h

    abbrev n : Need
    n = need setting.program setting.plan now.world r

    abbrev next : List ℕ
    next = h ++ r ∷ []

    shared_next : (told setting next).world.shared ≡ (effect now.world n).shared
    shared_next = ap (λ (t : Telling). t.world.shared) (told-append setting h r)

    -- what was written since stays so
    later : (p c : ℕ) → edge_in setting next p ≡ edge_in setting h p → IsWrittenSince h p c → IsWrittenSince next p c
    later p c same w = record {
      before = w.before;
      writer = w.writer;
      between = w.between ++ r ∷ [];
      value = w.value;
      schedule_is = ap (λ x. x ++ r ∷ []) w.schedule_is ∙ append_assoc w.before (w.writer ∷ w.between) (r ∷ []);
      other = w.other;
      writes = w.writes;
      same_edge = w.same_edge ∙ sym same;
    }

    edge_same : (p : ℕ) → get_or (told setting next).moments p [] ≡ get_or now.moments p [] → edge_in setting next p ≡ edge_in setting h p
    edge_same p same = ap length (own_syncs_are setting next p ∙ ap (λ ms. filter_map sync_of (steps_of ms)) same ∙ sym (own_syncs_are setting h p))

    -- the step of another process that leaves the cell alone
    quiet : (p c : ℕ) → get_or (told setting next).moments p [] ≡ get_or now.moments p [] → get_or (effect now.world n).shared c (pos 0) ≡ get_or now.world.shared c (pos 0) → IsFresh h p c → IsFresh next p c
    quiet p c same value f = elim f [
      | inl e ↦ inl (ap (λ ms. value_in_force (in_force setting.program setting.plan p ms) c) same ∙ e ∙ sym value ∙ ap (λ (x : List ℤ). get_or x c (pos 0)) (sym shared_next))
      | inr w ↦ inr (later p c (edge_same p same) w)
    ]

    written_by : (p c : ℕ) (v : ℤ) → (r ≡ p → ⊥) → n ≡ Write c v → get_or (told setting next).moments p [] ≡ get_or now.moments p [] → IsWrittenSince next p c
    written_by p c v other writes same = record {
      before = h;
      writer = r;
      between = [];
      value = v;
      schedule_is = refl;
      other = other;
      writes = writes;
      same_edge = sym (edge_same p same);
    }

    by_other : (p c : ℕ) (m : Need) → n ≡ m → (r ≡ p → ⊥) → get_or (told setting next).moments p [] ≡ get_or now.moments p [] → IsFresh h p c → IsFresh next p c
    by_other p c (Write d v) e other same f = elim (cases_eq c d) [
      | inl is ↦ inr (written_by p c v other (e ∙ ap (λ x. Write x v) (sym is)) same)
      | inr isnt ↦ quiet p c same (ap (λ x. get_or (effect now.world x).shared c (pos 0)) e ∙ get_or-set_other now.world.shared d c v (pos 0) isnt) f
    ]
    by_other p c (P s u) e other same f = quiet p c same (ap (λ x. get_or (effect now.world x).shared c (pos 0)) e) f
    by_other p c (V s u) e other same f = quiet p c same (ap (λ x. get_or (effect now.world x).shared c (pos 0)) e) f
    by_other p c (Send s v u) e other same f = quiet p c same (ap (λ x. get_or (effect now.world x).shared c (pos 0)) e) f
    by_other p c (Offer s v) e other same f = quiet p c same (ap (λ x. get_or (effect now.world x).shared c (pos 0)) e) f
    by_other p c (Done s u) e other same f = quiet p c same (ap (λ x. get_or (effect now.world x).shared c (pos 0)) e) f
    by_other p c (Recv s u) e other same f = quiet p c same (ap (λ x. get_or (effect now.world x).shared c (pos 0)) e) f
    by_other p c m e other same f = quiet p c same (ap (λ x. get_or (effect now.world x).shared c (pos 0)) e) f

    -- another process steps
    pub other_fresh : (p : ℕ) → (r ≡ p → ⊥) → AreFresh h p → AreFresh next p
    other_fresh p other f c lt k =
        let same : get_or (told setting next).moments p [] ≡ get_or now.moments p [] = own_same setting h r p other in
        by_other p c n refl other same (f c lt (subst (λ ms. IsCellOf setting.plan (unit_in_force setting.program setting.plan p (steps_of ms)) c) same k))

    -- ---- the process's own step

    abbrev m : Moment
    m = moment_of setting.program setting.plan now r

    abbrev xs : List (ℕ × ℤ)
    xs = in_force setting.program setting.plan r (get_or now.moments r [])

    -- no write of a cell
    abbrev IsNoWrite : Need → Type 0
    IsNoWrite x = in_force_by setting.plan xs m.unit_values x ≡ with_unit setting.plan xs m.unit_values (unit_started x)

    module _ (more : get_or (told setting next).moments r [] ≡ get_or now.moments r [] ++ m ∷ []) where
      force_next : in_force setting.program setting.plan r (get_or (told setting next).moments r []) ≡ in_force_by setting.plan xs m.unit_values n
      force_next = ap (λ ms. in_force setting.program setting.plan r ms) more ∙ fold-append (in_force_after setting.plan) (begun_in_force setting.program setting.plan r) (get_or now.moments r []) (m ∷ [])

      unit_next : unit_at next r ≡ unwrap_or (unit_started n) (unit_at h r)
      unit_next =
          ap (λ ms. unit_in_force setting.program setting.plan r (steps_of ms)) more ∙ ap (unit_in_force setting.program setting.plan r) (steps_append (get_or now.moments r []) (m ∷ []))
          ∙ fold-append unit_after (unit_of setting.plan (start.Entry (setting.program.functions + r))) (steps_of (get_or now.moments r [])) (m.taken ∷ [])

      edge_next : sync_of m.taken ≡ None → edge_in setting next r ≡ edge_in setting h r
      edge_next e =
          ap length (own_syncs_are setting next r ∙ ap (λ ms. filter_map sync_of (steps_of ms)) more ∙ ap (filter_map sync_of) (steps_append (get_or now.moments r []) (m ∷ []))
          ∙ syncs-append (steps_of (get_or now.moments r [])) m.taken ∙ ap (λ o. filter_map sync_of (steps_of (get_or now.moments r [])) ++ option_to_list o) e
          ∙ append-nil (filter_map sync_of (steps_of (get_or now.moments r []))) ∙ sym (own_syncs_are setting h r))

      starts_unit : (c u : ℕ) → unit_started n ≡ Some u → IsNoWrite n → IsCellOf setting.plan (unit_at next r) c → IsFresh next r c
      starts_unit c u e by k =
          let shared : List ℤ = (effect now.world n).shared in
          let k' : IsCellOf setting.plan u c = subst (λ w. IsCellOf setting.plan w c) (unit_next ∙ ap (λ o. unwrap_or o (unit_at h r)) e) k in
          inl (ap (λ ys. value_in_force ys c) (force_next ∙ by ∙ ap (λ o. with_unit setting.plan xs (values_at_start setting.plan shared o) o) e)
          ∙ unit_value setting.plan shared u c k' ∙ ap (λ (x : List ℤ). get_or x c (pos 0)) (sym shared_next))

      -- where a unit starts all its cells are fresh
      pub unit_fresh : (x : Need) (u : ℕ) → n ≡ x → unit_started x ≡ Some u → IsNoWrite x → AreFresh next r
      unit_fresh x u e is by c lt k = starts_unit c u (ap unit_started e ∙ is) (subst (λ z. IsNoWrite z) (sym e) by) k

      -- the value stays where no unit starts, nothing is written and no synchronization is done
      goes_on : (c : ℕ) (x : Need) → n ≡ x → unit_started x ≡ None → IsNoWrite x → kind_of_sync x ≡ None → get_or (effect now.world x).shared c (pos 0) ≡ get_or now.world.shared c (pos 0)
          → AreFresh h r → c < length setting.program.starts → IsCellOf setting.plan (unit_at next r) c → IsFresh next r c
      goes_on c x e is by none same f lt k =
          let k' : IsCellOf setting.plan (unit_at h r) c = subst (λ w. IsCellOf setting.plan w c) (unit_next ∙ ap (λ z. unwrap_or (unit_started z) (unit_at h r)) e ∙ ap (λ o. unwrap_or o (unit_at h r)) is) k in
          elim (f c lt k') [
            | inl fresh ↦ inl (ap (λ ys. value_in_force ys c) (force_next ∙ ap (λ z. in_force_by setting.plan xs m.unit_values z) e ∙ by ∙ ap (λ o. with_unit setting.plan xs m.unit_values o) is) ∙ fresh
                ∙ sym (ap (λ z. get_or (effect now.world z).shared c (pos 0)) e ∙ same) ∙ ap (λ (x : List ℤ). get_or x c (pos 0)) (sym shared_next))
            | inr w ↦ inr (later r c (edge_next (ap (λ z. numbered (kind_of_sync z) m.taken.number) e ∙ ap (λ o. numbered o m.taken.number) none)) w)
          ]

      by_write : (c d : ℕ) (v : ℤ) → n ≡ Write d v → AreFresh h r → c < length setting.program.starts → IsCellOf setting.plan (unit_at next r) c → IsFresh next r c
      by_write c d v e f lt k =
          let k' : IsCellOf setting.plan (unit_at h r) c = subst (λ w. IsCellOf setting.plan w c) (unit_next ∙ ap (λ x. unwrap_or (unit_started x) (unit_at h r)) e) k in
          let ys : in_force setting.program setting.plan r (get_or (told setting next).moments r []) ≡ (d, v) ∷ xs = force_next ∙ ap (λ x. in_force_by setting.plan xs m.unit_values x) e in
          let cells : (told setting next).world.shared ≡ slice_set now.world.shared d v = shared_next ∙ ap (λ x. (effect now.world x).shared) e in
          elim (cases_eq c d) [
            | inl is ↦ inl (ap (λ zs. value_in_force zs c) ys ∙ ap (λ x. value_in_force ((x, v) ∷ xs) c) (sym is) ∙ written_here c v xs
                ∙ sym (ap (λ (x : List ℤ). get_or x c (pos 0)) (cells ∙ ap (λ x. slice_set now.world.shared x v) (sym is))
                ∙ get_or-set_same now.world.shared c v (pos 0) (omega (arith, lt, (objects_stay setting h).cells))))
            | inr isnt ↦ elim (f c lt k') [
              | inl is ↦ inl (ap (λ zs. value_in_force zs c) ys ∙ written_there d c v xs isnt ∙ is
                  ∙ sym (ap (λ (x : List ℤ). get_or x c (pos 0)) cells ∙ get_or-set_other now.world.shared d c v (pos 0) isnt))
              | inr w ↦ inr (later r c (edge_next (ap (λ x. numbered (kind_of_sync x) m.taken.number) e)) w)
            ]
          ]

      -- the process's own step that is no offer
      pub own_fresh : (x : Need) → n ≡ x → ((c : ℕ) (v : ℤ) → n ≡ Offer c v → ⊥) → AreFresh h r → AreFresh next r
      own_fresh (Write d v) e never f c lt k = by_write c d v e f lt k
      own_fresh (Enter b u) e never f c lt k = unit_fresh (Enter b u) u e refl refl c lt k
      own_fresh (Leave b u) e never f c lt k = unit_fresh (Leave b u) u e refl refl c lt k
      own_fresh (Invoke b u) e never f c lt k = unit_fresh (Invoke b u) u e refl refl c lt k
      own_fresh (Back b (Some u)) e never f c lt k = unit_fresh (Back b (Some u)) u e refl refl c lt k
      own_fresh (P s u) e never f c lt k = unit_fresh (P s u) u e refl refl c lt k
      own_fresh (V s u) e never f c lt k = unit_fresh (V s u) u e refl refl c lt k
      own_fresh (Send s v u) e never f c lt k = unit_fresh (Send s v u) u e refl refl c lt k
      own_fresh (Done s u) e never f c lt k = unit_fresh (Done s u) u e refl refl c lt k
      own_fresh (Recv s u) e never f c lt k = unit_fresh (Recv s u) u e refl refl c lt k
      own_fresh (Offer s v) e never f c lt k = absurd (never s v e)
      own_fresh (Back b None) e never f c lt k = goes_on c (Back b None) e refl refl refl refl f lt k
      own_fresh (Read d) e never f c lt k = goes_on c (Read d) e refl refl refl refl f lt k
      own_fresh Plain e never f c lt k = goes_on c Plain e refl refl refl refl f lt k
      own_fresh (End b) e never f c lt k = goes_on c (End b) e refl refl refl refl f lt k
      own_fresh (Trap t) e never f c lt k = goes_on c (Trap t) e refl refl refl refl f lt k
      own_fresh Budget e never f c lt k = goes_on c Budget e refl refl refl refl f lt k
      own_fresh Stopped e never f c lt k = goes_on c Stopped e refl refl refl refl f lt k
