-- The beginning of a schedule through the synchronization that ends an edge of a process.
use Rattle.ppd_model.specs.Setting.{Setting}
use Rattle.std.proofs.Common.{◌≡◌, ℕ, ◌+◌, ◌<◌, ◌≤◌, true, List, [], ◌∷◌, ◌++◌, Option, Some, None, refl, ap, sym, subst, ◌∙◌, arith, length, inl, inr, append_assoc, append-nil, length-append, true≢false}
use Rattle.std.proofs.lemmas.Bool.{cases_eq, cases_lt}
use Rattle.std.specs.Prelude.{is_some, option_to_list, get_or, filter_map}
use Rattle.ppd_ast.specs.declared.status.Status.{Status}
use Rattle.ppd_sem.specs.declared.proc.Answer.{Answer}
use Rattle.ppd_sem.specs.declared.proc.Need.{Need}
use Rattle.ppd_sem.specs.declared.proc.Need.TheVariants.{P, V, Send, Offer, Done, Recv}
use Rattle.ppd_sem.specs.declared.proc.Proc.{Proc}
use Rattle.ppd_sem.specs.Process.{act, need_of}
use Rattle.ppd_sem.proofs.NeedWords.{need_by_status}
use Rattle.ppd_model.specs.declared.state.Logging.{Logging}
use Rattle.ppd_model.specs.declared.tracing.Taken.{Taken}
use Rattle.ppd_model.specs.Forward.{edge_in}
use Rattle.ppd_model.specs.Logs.{log_step, status_of}
use Rattle.ppd_model.specs.Story.{Moment, moment_of, steps_of, told}
use Rattle.ppd_model.specs.Synchronizations.{Sync, kind_of_sync, numbered, sync_of}
use Rattle.ppd_model.proofs.Numbers.{syncs-append}
use Rattle.ppd_model.proofs.Statuses.{status_after}
use Rattle.ppd_model.proofs.Stories.{steps_append}
use Rattle.law_steps.proofs.OpenBlocks.Told.{own_more, own_past, own_same, own_syncs_are}

-- a synchronization, by its need
pub sync_need : (x : Taken) → is_some (sync_of x) ≡ true → is_some (kind_of_sync x.need) ≡ true
sync_need x e = by (kind_of_sync x.need) e
  where
    by : (o : Option _) → is_some (numbered o x.number) ≡ true → is_some o ≡ true
    by None f = f
    by (Some k) f = refl

module _ (setting : Setting) where
  -- the step of process p after these is its synchronization i
  pub record EndsEdge (h : List ℕ) (p i : ℕ) : Type 0 where
    pub before : List ℕ
    pub rest : List ℕ
    pub schedule_is : h ≡ (before ++ p ∷ []) ++ rest
    pub edge_is : edge_in setting before p ≡ i
    pub is_sync : is_some (sync_of (moment_of setting.program setting.plan (told setting before) p).taken) ≡ true
    pub there : p < length (told setting before).world.procs

  module _ (g : List ℕ) (p : ℕ) where
    abbrev step : Taken
    step = (moment_of setting.program setting.plan (told setting g) p).taken

    pub edge_own : p < length (told setting g).world.procs → edge_in setting (g ++ p ∷ []) p ≡ edge_in setting g p + length (option_to_list (sync_of step))
    edge_own lt =
        let ms : List Moment = get_or (told setting g).moments p [] in
        ap length (own_syncs_are setting (g ++ p ∷ []) p ∙ ap (λ xs. filter_map sync_of (steps_of xs)) (own_more setting g p lt)
        ∙ ap (filter_map sync_of) (steps_append ms (moment_of setting.program setting.plan (told setting g) p ∷ [])) ∙ syncs-append (steps_of ms) step)
        ∙ length-append (filter_map sync_of (steps_of ms)) (option_to_list (sync_of step))
        ∙ ap (λ k. k + length (option_to_list (sync_of step))) (sym (ap length (own_syncs_are setting g p)))

    edge_past : length (told setting g).world.procs ≤ p → edge_in setting (g ++ p ∷ []) p ≡ edge_in setting g p
    edge_past past =
        ap length (own_syncs_are setting (g ++ p ∷ []) p ∙ ap (λ xs. filter_map sync_of (steps_of xs)) (own_past setting g p past) ∙ sym (own_syncs_are setting g p))

    edge_other : (r : ℕ) → (r ≡ p → ⊥) → edge_in setting (g ++ r ∷ []) p ≡ edge_in setting g p
    edge_other r other =
        ap length (own_syncs_are setting (g ++ r ∷ []) p ∙ ap (λ xs. filter_map sync_of (steps_of xs)) (own_same setting g r p other) ∙ sym (own_syncs_are setting g p))

    -- where the count rises, it is by a synchronization of the process
    rises : (r : ℕ) → edge_in setting g p < edge_in setting (g ++ r ∷ []) p
        → (r ≡ p) × ((p < length (told setting g).world.procs) × (is_some (sync_of step) ≡ true)) × (edge_in setting (g ++ r ∷ []) p ≡ edge_in setting g p + 1)
    rises r lt = elim (cases_eq r p) [
      | inr other ↦ absurd (omega (arith, lt, edge_other r other))
      | inl same ↦ elim (cases_lt p (length (told setting g).world.procs)) [
        | inr past ↦ absurd (let e : edge_in setting (g ++ r ∷ []) p ≡ edge_in setting g p = ap (λ k. edge_in setting (g ++ k ∷ []) p) same ∙ edge_past past in omega (arith, lt, e))
        | inl below ↦
            let e : edge_in setting (g ++ r ∷ []) p ≡ edge_in setting g p + length (option_to_list (sync_of step)) = ap (λ k. edge_in setting (g ++ k ∷ []) p) same ∙ edge_own below in
            by (sync_of step) refl same below e
      ]
    ]
      where
        by : (o : Option Sync) → sync_of step ≡ o → r ≡ p → p < length (told setting g).world.procs → edge_in setting (g ++ r ∷ []) p ≡ edge_in setting g p + length (option_to_list (sync_of step))
            → (r ≡ p) × ((p < length (told setting g).world.procs) × (is_some (sync_of step) ≡ true)) × (edge_in setting (g ++ r ∷ []) p ≡ edge_in setting g p + 1)
        by None is same below e = absurd (let f : edge_in setting (g ++ r ∷ []) p ≡ edge_in setting g p + 0 = e ∙ ap (λ o. edge_in setting g p + length (option_to_list o)) is in omega (arith, lt, f))
        by (Some s) is same below e = (same, (below, ap is_some is), e ∙ ap (λ o. edge_in setting g p + length (option_to_list o)) is)

  find : (rest g : List ℕ) (p i : ℕ) → edge_in setting g p ≤ i → i < edge_in setting (g ++ rest) p → EndsEdge (g ++ rest) p i
  find [] g p i le lt =
      absurd (let e : edge_in setting (g ++ []) p ≡ edge_in setting g p = ap (λ h. edge_in setting h p) (append-nil g) in omega (arith, le, lt, e))
  find (r ∷ rest) g p i le lt = elim (cases_lt i (edge_in setting (g ++ r ∷ []) p)) [
    | inr not_yet ↦
        subst (λ h. EndsEdge h p i) (append_assoc g (r ∷ []) rest)
        (find rest (g ++ r ∷ []) p i not_yet (subst (λ h. i < edge_in setting h p) (sym (append_assoc g (r ∷ []) rest)) lt))
    | inl now ↦
        let up = rises g p r (omega (arith, le, now)) in
        let next : edge_in setting (g ++ r ∷ []) p ≡ edge_in setting g p + 1 = up.2 in
        record {
          before = g;
          rest = rest;
          schedule_is = ap (λ k. g ++ k ∷ rest) up.0 ∙ sym (append_assoc g (p ∷ []) rest);
          edge_is = omega (arith, next, now, le);
          is_sync = up.1.1;
          there = up.1.0;
        }
  ]

  -- an edge that a synchronization ends
  pub edge_ends : (h : List ℕ) (p i : ℕ) → i < edge_in setting h p → edge_in setting [] p ≡ 0 → EndsEdge h p i
  edge_ends h p i lt none = find h [] p i (omega (arith, none)) lt

  -- ---- the log after a synchronization

  -- nothing was accessed, and no step was taken since the last entry
  pub record IsFresh (l : Logging) : Type 0 where
    pub rest : l.rest ≡ 0
    pub reads : l.reads ≡ []
    pub writes : l.writes ≡ []

  pub synced_fresh : (l : Logging) (m : Moment) → is_some (sync_of m.taken) ≡ true → IsFresh (log_step setting.program setting.plan l m)
  synced_fresh l m e = by m.taken.need m.taken.answer m.taken.number (sync_need m.taken e) e
    where
      by : (n : Need) (a : Answer) (k : Option ℕ) → is_some (kind_of_sync n) ≡ true → is_some (sync_of (record { need = n; answer = a; writer = m.taken.writer; number = k })) ≡ true
          → IsFresh (log_step setting.program setting.plan l (record { taken = record { need = n; answer = a; writer = m.taken.writer; number = k }; unit_values = m.unit_values }))
      by (P s u) a (Some k) f g = record { rest = refl; reads = refl; writes = refl }
      by (V s u) a (Some k) f g = record { rest = refl; reads = refl; writes = refl }
      by (Send c v u) a (Some k) f g = record { rest = refl; reads = refl; writes = refl }
      by (Offer c v) a (Some k) f g = record { rest = refl; reads = refl; writes = refl }
      by (Done c u) a (Some k) f g = record { rest = refl; reads = refl; writes = refl }
      by (Recv c u) a (Some k) f g = record { rest = refl; reads = refl; writes = refl }
      by (P s u) a None f g = absurd (true≢false (sym g))
      by (V s u) a None f g = absurd (true≢false (sym g))
      by (Send c v u) a None f g = absurd (true≢false (sym g))
      by (Offer c v) a None f g = absurd (true≢false (sym g))
      by (Done c u) a None f g = absurd (true≢false (sym g))
      by (Recv c u) a None f g = absurd (true≢false (sym g))
      by n a k f g = absurd (true≢false (sym f))

  -- a process that synchronizes runs on
  pub synced_runs : (s : Proc) (a : Answer) → is_some (kind_of_sync (need_of setting.program setting.plan s)) ≡ true → (act setting.program setting.plan s a).status ≡ None
  synced_runs s a e = by s.status refl
    where
      no_status : (n : Need) → is_some (kind_of_sync n) ≡ true → status_of n ≡ None
      no_status (P o u) f = refl
      no_status (V o u) f = refl
      no_status (Send o v u) f = refl
      no_status (Offer o v) f = refl
      no_status (Done o u) f = refl
      no_status (Recv o u) f = refl
      no_status n f = absurd (true≢false (sym f))

      by : (o : Option Status) → s.status ≡ o → (act setting.program setting.plan s a).status ≡ None
      by None is = status_after setting.program setting.plan a s is ∙ no_status (need_of setting.program setting.plan s) e
      by (Some x) is = absurd (true≢false (sym e ∙ ap (λ n. is_some (kind_of_sync n)) (ap (λ o. need_by_status setting.program setting.plan o s) is)))
