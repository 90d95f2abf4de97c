-- The moments of a process of a whole schedule are its steps, and at their end it has stopped or waits.
use Rattle.ppd_model.specs.Setting.{setting_of}
use Rattle.std.proofs.Common.{◌≡◌, ℕ, zero, suc, ◌+◌, ◌<◌, true, false, List, [], ◌∷◌, ◌++◌, length, map, get_or, Option, Some, None, refl, ap, sym, ◌∙◌, subst, arith, true≢false}
use Rattle.std.proofs.lemmas.List.{length-map}
use Rattle.std.proofs.lemmas.Option.{none-some}
use Rattle.std.specs.Prelude.{◌-◌, fold, is_some, slice_get, ⊤}
use Rattle.ppd_ast.specs.Valid.{IsValid}
use Rattle.ppd_ast.specs.declared.plan.Plan.{Plan}
use Rattle.ppd_ast.specs.declared.program.Program.{Program}
use Rattle.ppd_ast.specs.declared.status.SyncKind.{SyncKind}
use Rattle.law_steps.specs.Course.{GoesUntilEnd}
use Rattle.law_steps.proofs.Course.Ending.{never_runs_out}
use Rattle.ppd_sem.specs.declared.proc.Need.{Need}
use Rattle.ppd_sem.specs.declared.proc.Need.TheVariants as n
use Rattle.ppd_sem.specs.declared.proc.Proc.{Proc}
use Rattle.ppd_sem.specs.Process.{act, need_of, started}
use Rattle.ppd_model.specs.Laws.{begins}
use Rattle.ppd_model.specs.LocalTags.{AreOwn}
use Rattle.ppd_model.specs.Prefixes.{Good}
use Rattle.ppd_model.specs.Schedule.{IsWhole, run_from, started_world}
use Rattle.ppd_model.specs.States.{act_on, state_of, states_from}
use Rattle.ppd_model.specs.Story.{Moment, Telling, moment_of, number_of, steps_of, tell, told}
use Rattle.ppd_model.specs.Synchronizations.{kind_of_sync, numbered}
use Rattle.ppd_model.specs.declared.tracing.Taken.{Taken}
use Rattle.ppd_model.specs.World.{World, answer, can, change, enabled, need}
use Rattle.ppd_model.proofs.WorldWords.{need_at}
use Rattle.ppd_model.proofs.Bounded.{goes}
use Rattle.ppd_model.proofs.LocalTags.{own_steps_told}
use Rattle.ppd_model.proofs.Numbered.{next_numbered}
use Rattle.ppd_model.proofs.Prefixes.{good_next, good_start, objects_stay}
use Rattle.ppd_model.proofs.States.{states_told}
use Rattle.ppd_model.proofs.Stories.{stories_are_of_runs}
use Rattle.law_steps.specs.OpenBlocks.Run.{IsGiven, IsNumbered, IsRun, SchedulesAreRuns}
use Rattle.law_steps.proofs.OpenBlocks.Told.{moments_length, own_steps_are}

-- ---- one moment

-- it was given what it needed, and is numbered where it is a synchronization
abbrev IsTaken : Moment → Type 0
IsTaken m = IsGiven m.taken.need m.taken.answer × IsNumbered (is_some (kind_of_sync m.taken.need)) m.taken.number

given : (w : World) (x : Need) → can w x ≡ true → IsGiven x (answer w x)
given w (n.Read c) e = tt
given w n.Stopped e = absurd (true≢false (sym e))
given w (n.Recv c u) e = (_, refl)
given w (n.Write c v) e = refl
given w n.Plain e = refl
given w (n.Enter b u) e = refl
given w (n.Leave b u) e = refl
given w (n.Invoke b u) e = refl
given w (n.Back b u) e = refl
given w (n.P s u) e = refl
given w (n.V s u) e = refl
given w (n.Send c v u) e = refl
given w (n.Offer c v) e = refl
given w (n.Done c u) e = refl
given w (n.End b) e = refl
given w (n.Trap t) e = refl
given w n.Budget e = refl

unnumbered : (w : World) (x : Need) → kind_of_sync x ≡ None → number_of w x ≡ None
unnumbered w (n.P s u) e = absurd (none-some _ (sym e))
unnumbered w (n.V s u) e = absurd (none-some _ (sym e))
unnumbered w (n.Send c v u) e = absurd (none-some _ (sym e))
unnumbered w (n.Offer c v) e = absurd (none-some _ (sym e))
unnumbered w (n.Done c u) e = absurd (none-some _ (sym e))
unnumbered w (n.Recv c u) e = absurd (none-some _ (sym e))
unnumbered w x e = refl

counted : (k : Option (SyncKind × ℕ)) (number : Option ℕ) → (numbered k number ≡ None → k ≡ None) → (k ≡ None → number ≡ None) → IsNumbered (is_some k) number
counted None number some none = none refl
counted (Some k) (Some i) some none = (i, refl)
counted (Some k) None some none = absurd (none-some k (sym (some refl)))

-- a process that cannot step waits at a synchronization, unless it has stopped
waits : (w : World) (x : Need) → can w x ≡ false → (x ≡ n.Stopped → ⊥) → is_some (kind_of_sync x) ≡ true
waits w n.Stopped e goes = absurd (goes refl)
waits w (n.P s u) e goes = refl
waits w (n.V s u) e goes = refl
waits w (n.Send c v u) e goes = refl
waits w (n.Offer c v) e goes = refl
waits w (n.Done c u) e goes = refl
waits w (n.Recv c u) e goes = refl
waits w x e goes = absurd (true≢false e)

-- ---- all moments of a schedule

abbrev AreTaken : List Moment → Type 0
AreTaken [] = ⊤
AreTaken (m ∷ ms) = IsTaken m × AreTaken ms

abbrev AllTaken : List (List Moment) → Type 0
AllTaken [] = ⊤
AllTaken (ms ∷ rest) = AreTaken ms × AllTaken rest

taken-append : (ms : List Moment) (m : Moment) → AreTaken ms → IsTaken m → AreTaken (ms ++ m ∷ [])
taken-append [] m all one = (one, tt)
taken-append (x ∷ xs) m all one = (all.0, taken-append xs m all.1 one)

taken-change : (m : Moment) (p : ℕ) (moments : List (List Moment)) → AllTaken moments → IsTaken m → AllTaken (change (λ ms. ms ++ m ∷ []) p moments)
taken-change m p [] all one = tt
taken-change m zero (ms ∷ rest) all one = (taken-append ms m all.0 one, all.1)
taken-change m (suc p) (ms ∷ rest) all one = (all.0, taken-change m p rest all.1 one)

taken_at : (moments : List (List Moment)) (p : ℕ) → AllTaken moments → AreTaken (get_or moments p [])
taken_at [] p all = tt
taken_at (ms ∷ rest) zero all = all.0
taken_at (ms ∷ rest) (suc p) all = taken_at rest p all.1

none_taken : (procs : List Proc) → AllTaken (map (λ _. []) procs)
none_taken [] = tt
none_taken (s ∷ ss) = (tt, none_taken ss)

module _ (program : Program) (plan : Plan) (v : IsValid program) (budget : ℕ) where
  next_taken : (t : Telling) (p : ℕ) → Good (setting_of program plan budget) t → enabled program plan t.world p ≡ true → IsTaken (moment_of program plan t p)
  next_taken t p good e = (
    given t.world (need program plan t.world p) e,
    counted (kind_of_sync (need program plan t.world p)) (number_of t.world (need program plan t.world p)) (next_numbered program plan v t p good.sizes) (unnumbered t.world (need program plan t.world p)),
  )

  all_taken : (t : Telling) (h : List ℕ) (last : World) → run_from program plan t.world h ≡ Some last → Good (setting_of program plan budget) t → AllTaken t.moments → AllTaken (fold (tell program plan) t h).moments
  all_taken t [] last runs good all = all
  all_taken t (p ∷ h) last runs good all =
      let g = goes program plan t.world last p h runs in
      all_taken (tell program plan t p) h last g.rest (good_next (setting_of program plan budget) t p good)
      (taken-change (moment_of program plan t p) p t.moments all (next_taken t p good g.enables))

-- ---- the process at their end

module _ (program : Program) (plan : Plan) where
  -- it has stopped, or waits
  abbrev Rests : Proc → Type 0
  Rests s = s.status ≡ None → is_some (kind_of_sync (need_of program plan s)) ≡ true

  is_run : (ms : List Moment) (s : Proc) → AreOwn program plan s (steps_of ms) → AreTaken ms → Rests (fold (act_on program plan) s (steps_of ms)) → IsRun program plan s ms
  is_run [] s own all rests = rests
  is_run (m ∷ ms) s own all rests = (own.0, all.0.0, all.0.1, is_run ms (act program plan s m.taken.answer) own.1 all.1 rests)

  until_end : (xs : List Taken) (s : Proc) → GoesUntilEnd program s → GoesUntilEnd program (fold (act_on program plan) s xs)
  until_end [] s h = h
  until_end (x ∷ xs) s h = until_end xs (act program plan s x.answer) (never_runs_out.stays program plan s x.answer h)

  module _ (budget : ℕ) where
    state_at : (q : ℕ) (steps : List (List Taken)) (p : ℕ) → p < length steps → slice_get (states_from (setting_of program plan budget) q steps) p ≡ Some (state_of (setting_of program plan budget) (q + p) (get_or steps p []))
    state_at q [] p lt = absurd (omega (arith, lt))
    state_at q (xs ∷ rest) zero lt = let e : q ≡ q + 0 = omega arith in ap (λ z. Some (state_of (setting_of program plan budget) z xs)) e
    state_at q (xs ∷ rest) (suc p) lt =
        let e : q + 1 + p ≡ q + suc p = omega arith in
        state_at (q + 1) rest p (omega (arith, lt)) ∙ ap (λ z. Some (state_of (setting_of program plan budget) z (get_or rest p []))) e

    -- process p after its moments
    abbrev last_of : List ℕ → ℕ → Proc
    last_of h p = fold (act_on program plan) (started program plan p budget) (steps_of (get_or (told (setting_of program plan budget) h).moments p []))

    pub process_is : (h : List ℕ) (p : ℕ) → program.functions + p < length program.bodies → slice_get (told (setting_of program plan budget) h).world.procs p ≡ Some (last_of h p)
    process_is h p there =
        let t : Telling = told (setting_of program plan budget) h in
        let many : length t.world.procs ≡ length program.bodies - program.functions = (objects_stay (setting_of program plan budget) h).processes in
        let each : length (map steps_of t.moments) ≡ length t.world.procs = length-map t.moments steps_of ∙ moments_length (setting_of program plan budget) h in
        let zero_is : 0 + p ≡ p = omega arith in
        ap (λ ss. slice_get ss p) (states_told (setting_of program plan budget) h)
        ∙ state_at 0 (map steps_of t.moments) p (omega (arith, each, many, there))
        ∙ ap (λ z. Some (state_of (setting_of program plan budget) z (get_or (map steps_of t.moments) p []))) zero_is
        ∙ ap (λ xs. Some (state_of (setting_of program plan budget) p xs)) (own_steps_are (setting_of program plan budget) h p)

    rests : (h : List ℕ) (p : ℕ) → IsValid program → IsWhole (setting_of program plan budget) h → program.functions + p < length program.bodies → Rests (last_of h p)
    rests h p v whole there running =
        let s : Proc = last_of h p in
        let w : World = (told (setting_of program plan budget) h).world in
        let same : w ≡ whole.last = stories_are_of_runs (setting_of program plan budget) h whole.last whole.runs in
        let needs : need program plan w p ≡ need_of program plan s = ap (need_at program plan) (process_is h p there) in
        let stuck : can w (need_of program plan s) ≡ false = ap (can w) (sym needs) ∙ subst (λ x. enabled program plan x p ≡ false) (sym same) (whole.over.nobody p) in
        waits w (need_of program plan s) stuck
        (never_runs_out.needs program plan s (until_end (steps_of (get_or (told (setting_of program plan budget) h).moments p [])) (started program plan p budget) (never_runs_out.starts program plan p budget v there)) running)

pub schedules_run : SchedulesAreRuns
schedules_run setting h p v whole there =
    let ms : List Moment = get_or (told setting h).moments p [] in
    is_run setting.program setting.plan ms (started setting.program setting.plan p setting.budget)
    (subst (AreOwn setting.program setting.plan (started setting.program setting.plan p setting.budget)) (own_steps_are setting h p) (own_steps_told setting h p))
    (taken_at (told setting h).moments p
    (all_taken setting.program setting.plan v setting.budget (begins setting) h whole.last whole.runs (good_start setting) (none_taken (started_world setting).procs)))
    (rests setting.program setting.plan setting.budget h p v whole there)
