-- A schedule goes on by the step that a world takes, and what the code may ask of a world that is reached.
use Rattle.ppd_model.specs.Setting.{Setting, setting_of}
use Rattle.std.proofs.Common.{◌≡◌, ℕ, ◌+◌, ◌-◌, ◌<◌, ◌≤◌, ℤ, Bool, true, false, cond, List, [], ◌∷◌, ◌++◌, length, map, take, get_or, Option, Some, None, Result, Ok, Err, OnOk, OnErr, refl, ap, sym, ◌∙◌, subst, arith}
use Rattle.std.specs.Prelude.{slice_get, IsSomeAnd}
use Rattle.std.proofs.lemmas.List.{append_assoc, append-nil, take_all, take_more}
use Rattle.std.proofs.lemmas.Option.{slice_get-get_or}
use Rattle.ppd_ast.specs.declared.plan.Plan.{Plan}
use Rattle.ppd_ast.specs.declared.program.Program.{Program}
use Rattle.ppd_sem.specs.declared.proc.Proc.{Proc}
use Rattle.ppd_sem.specs.Measure.{measure}
use Rattle.ppd_sem.specs.Runs.{IsNumbered, IsRunnable}
use Rattle.ppd_sem.proofs.Validity.{valid-numbered, valid-runnable}
use Rattle.ppd_ast.specs.Valid.{IsValid}
use Rattle.ppd_ast.specs.ValidPlan.{IsValidPlan}
use Rattle.ppd_ast.specs.declared.limits.TheConstants.{MOST_BUDGET}
use Rattle.ppd_model.specs.declared.trace.DriveError.{DriveError}
use Rattle.ppd_model.specs.declared.trace.DriveError.TheVariants.{NotEnabled, Memory}
use Rattle.ppd_model.specs.declared.state.Channel.{Channel}
use Rattle.ppd_model.specs.declared.state.Counts.{Counts}
use Rattle.ppd_model.specs.declared.state.Logging.{Logging}
use Rattle.ppd_model.specs.Bounds.{steps_left}
use Rattle.ppd_model.specs.Laws.{logged_moment}
use Rattle.ppd_model.specs.Logs.{log_step, loggings}
use Rattle.ppd_model.specs.Schedule.{run_from, started_world}
use Rattle.ppd_model.proofs.WorldWords.{started_procs}
use Rattle.ppd_model.specs.Story.{told}
use Rattle.ppd_model.specs.World.{World, change, enabled, step}
use Rattle.ppd_model.proofs.Bounded.{Goes, goes}
use Rattle.ppd_model.proofs.Changes.{some}
use Rattle.ppd_model.proofs.States.{logs_grow}
use Rattle.ppd_model.proofs.Stories.{stories_are_of_runs}
use Rattle.ppd_model.proofs.Earlier.{each_more}
use Rattle.ppd_world.specs.Parts.{IsReady, IsSmallLogging, world_of}
use Rattle.ppd_world_steps.specs.Objects.{IsSmallChan, IsSmallSem, store}
use Rattle.ppd_world.specs.Running.{IsCause, IsDriven, IsFollowed, IsOf, IsReached, Running, Takes, begun, can_step, stepped}
use Rattle.ppd_world.specs.Starts.{begun_chans, begun_logs, begun_sems}
use Rattle.ppd_world.proofs.Begun.{logs_begun, procs_begun}
use Rattle.ppd_world.proofs.Lists.{every_all}
use Rattle.ppd_world.proofs.Sound.{IsSound, IsSoundChan, IsSoundLogging, IsSoundSem, left_less, most, reached_sound}

-- ---- schedules

run_more : (program : Program) (plan : Plan) (first last : World) (h : List ℕ) (p : ℕ) → run_from program plan first h ≡ Some last → enabled program plan last p ≡ true → run_from program plan first (h ++ p ∷ []) ≡ Some (step program plan last p)
run_more program plan first last [] p e can =
    let is : first ≡ last = some e in
    subst (λ (w : World). run_from program plan w (p ∷ []) ≡ Some (step program plan last p)) (sym is) (ap (λ (b : Bool). cond b (Some (step program plan last p)) None) can)
run_more program plan first last (q ∷ h) p e can =
    let g : Goes program plan first last q h = goes program plan first last q h e in
    let rest : run_from program plan (step program plan first q) (h ++ p ∷ []) ≡ Some (step program plan last p) = run_more program plan (step program plan first q) last h p g.rest can in
    ap (λ (b : Bool). cond b (run_from program plan (step program plan first q) (h ++ p ∷ [])) None) g.enables ∙ rest

pub of_step : (h : List ℕ) (r : Running) (p : ℕ) → can_step r p ≡ true → IsOf h r → IsOf (h ++ p ∷ []) (stepped r p)
of_step h r p can o =
    let told_is : (told r.setting h).world ≡ r.world = stories_are_of_runs r.setting h r.world o.runs in
    record {
      runs = run_more r.setting.program r.setting.plan (started_world r.setting) r.world h p o.runs can;
      logs = ap (λ (ls : List Logging). change (λ l. log_step r.setting.program r.setting.plan l (logged_moment r.setting.program r.setting.plan r.world p)) p ls) o.logs
          ∙ ap (λ (w : World). change (λ l. log_step r.setting.program r.setting.plan l (logged_moment r.setting.program r.setting.plan w p)) p (loggings r.setting h)) (sym told_is)
          ∙ sym (logs_grow r.setting h p);
    }

pub reached_step : (r : Running) (p : ℕ) → can_step r p ≡ true → IsReached r → IsReached (stepped r p)
reached_step r p can h = record {
  program = h.program;
  plan = h.plan;
  budget = h.budget;
  schedule = h.schedule ++ p ∷ [];
  comes = of_step h.schedule r p can h.comes;
}

-- ---- the world from its parts

abbrev running : Setting → World → List Logging → Running
running setting w ls = record { setting = setting; world = w; loggings = ls }

same_running : (setting : Setting) (w v : World) (ls ks : List Logging) → w ≡ v → ls ≡ ks → running setting w ls ≡ running setting v ks
same_running setting w v ls ks e f = ap (λ (x : World). running setting x ls) e ∙ ap (λ (l : List Logging). running setting v l) f

pub took : {E : Type 0} (r : Result (Unit {0}) E) (program : Program) (plan : Plan) (budget : ℕ) (w now : World) (ls new : List Logging) (p : ℕ)
    → OnOk r (now ≡ step program plan w p) → OnOk r (new ≡ change (λ l. log_step program plan l (logged_moment program plan w p)) p ls)
    → OnOk r (running (setting_of program plan budget) now new ≡ stepped (running (setting_of program plan budget) w ls) p)
took (Ok u) program plan budget w now ls new p e f = same_running (setting_of program plan budget) now (step program plan w p) new (change (λ l. log_step program plan l (logged_moment program plan w p)) p ls) e f
took (Err x) program plan budget w now ls new p e f = tt

pub left_it : {E : Type 0} (r : Result (Unit {0}) E) (program : Program) (plan : Plan) (budget : ℕ) (s t : World) (ls ks : List Logging) → OnErr r (t ≡ s) → OnErr r (ks ≡ ls)
    → OnErr r (running (setting_of program plan budget) (world_of t ks) ks ≡ running (setting_of program plan budget) (world_of s ls) ls)
left_it (Ok u) program plan budget s t ls ks e f = tt
left_it (Err x) program plan budget s t ls ks e f =
    ap (λ (x : World). running (setting_of program plan budget) (world_of x ks) ks) e ∙ ap (λ (x : List Logging). running (setting_of program plan budget) (world_of s x) x) f

-- ---- answers of a step

takes_step : (old now : Running) (p : ℕ) → can_step old p ≡ true → now ≡ stepped old p → Takes old (p ∷ []) now
takes_step old now p can e = record {
  setting = ap (λ (x : Running). x.setting) e;
  comes = λ g o. subst (λ (x : Running). IsOf (g ++ p ∷ []) x) (sym e) (of_step g old p can o);
}

pub comes_by : {E : Type 0} (r : Result (Unit {0}) E) (old now : Running) (p : ℕ) → can_step old p ≡ true → OnOk r (now ≡ stepped old p) → OnOk r (Takes old (p ∷ []) now)
comes_by (Ok u) old now p can e = takes_step old now p can e
comes_by (Err x) old now p can e = tt

pub kept_by : {E : Type 0} (r : Result (Unit {0}) E) (old now : Running) (p : ℕ) → can_step old p ≡ true → OnOk r (now ≡ stepped old p) → OnErr r (now ≡ old) → IsReached old → IsReached now
kept_by (Ok u) old now p can e f h = subst (λ (x : Running). IsReached x) (sym e) (reached_step old p can h)
kept_by (Err x) old now p can e f h = subst (λ (x : Running). IsReached x) (sym f) h

-- ---- driving

pub takes_none : (r : Running) (h : List ℕ) → Takes r (take 0 h) r
takes_none r h = record { setting = refl; comes = λ g o. subst (λ (l : List ℕ). IsOf l r) (sym (append-nil g)) o }

pub takes_more : (old now next : Running) (h : List ℕ) (i p : ℕ) → i < length h → p ≡ get_or h i p → Takes old (take i h) now → Takes now (p ∷ []) next → Takes old (take (i + 1) h) next
takes_more old now next h i p lt is before after = record {
  setting = after.setting ∙ before.setting;
  comes = λ g o.
      let one : IsOf ((g ++ take i h) ++ p ∷ []) next = after.comes (g ++ take i h) (before.comes g o) in
      let more : take (i + 1) h ≡ take i h ++ p ∷ [] = take_more h i p lt ∙ ap (λ (x : ℕ). take i h ++ x ∷ []) (sym is) in
      subst (λ (l : List ℕ). IsOf l next) (append_assoc g (take i h) (p ∷ []) ∙ ap (λ (l : List ℕ). g ++ l) (sym more)) one;
}

pub fewer_left : (r now : Running) (p : ℕ) → IsReached r → can_step r p ≡ true → now ≡ stepped r p → steps_left now.world.procs + 1 ≤ steps_left r.world.procs
fewer_left r now p h can e = subst (λ (x : Running). steps_left x.world.procs + 1 ≤ steps_left r.world.procs) (sym e) (left_less r p can (reached_sound r h))

pub few_left : (r : Running) → IsReached r → steps_left r.world.procs ≤ most
few_left r h = (reached_sound r h).few

pub at_place : (h : List ℕ) (i p : ℕ) (P : ℕ → Type 0) → i < length h → p ≡ get_or h i p → P p → IsSomeAnd (slice_get h i) P
at_place h i p P lt is here = by (slice_get h i) (slice_get-get_or h i p lt)
  where
    by : (o : Option ℕ) → o ≡ Some (get_or h i p) → IsSomeAnd o P
    by None e = absurd (cc e)
    by (Some x) e = let same : p ≡ x = is ∙ sym (some e) in subst P same here

pub driven_part : (old now : Running) (h : List ℕ) (i p : ℕ) (e : DriveError) → i < length h → p ≡ get_or h i p → Takes old (take i h) now → IsCause now p i e → IsDriven old h now (Err e)
driven_part old now h i p (NotEnabled k) lt is t c =
    (subst (λ (n : ℕ). Takes old (take n h) now) (sym c.0) t, subst (λ (n : ℕ). IsSomeAnd (slice_get h n) (λ q. can_step now q ≡ false)) (sym c.0) (at_place h i p (λ q. can_step now q ≡ false) lt is c.1))
driven_part old now h i p Memory lt is t c = (i, t, at_place h i p (λ q. can_step now q ≡ true) lt is c)

pub driven_whole : (old now : Running) (h : List ℕ) (i : ℕ) → length h ≤ i → Takes old (take i h) now → Takes old h now
driven_whole old now h i lt t = subst (λ (l : List ℕ). Takes old l now) (take_all i h lt) t

pub takes_followed : (r now : Running) (p : ℕ) → IsFollowed r p now → Takes r (p ∷ []) now
takes_followed r now p f = takes_step r now p f.enabled f.stepped_to

-- ---- what the code asks

small_sem : (left : ℕ) (x : Counts) → IsSoundSem left x → IsSmallSem x
small_sem left x s =
    let given : x.given + left ≤ most = s.given in
    let taken : x.taken ≤ x.given = s.taken in
    record { given = omega arith; taken = omega arith }

small_chan : (left : ℕ) (x : Channel) → IsSoundChan left x → IsSmallChan x
small_chan left x s =
    let sent : length x.sent + left ≤ most = s.sent in
    let received : x.received ≤ length x.sent = s.received in
    let completed : x.completed ≤ x.received = s.completed in
    record { sent = omega arith; received = omega arith; completed = omega arith }

small_logging : (program : Program) (l : Logging) → IsSoundLogging program l → IsSmallLogging program l
small_logging program l s = let rest : l.rest + measure l.proc ≤ MOST_BUDGET + 1 = s.rest in record { proc = s.proc; rest = omega arith }

pub runnable : (r : Running) → IsReached r → IsRunnable r.setting.program
runnable r h = valid-runnable r.setting.program h.program

pub numbered : (r : Running) → IsReached r → IsNumbered r.setting.plan
numbered r h = valid-numbered r.setting.program r.setting.plan h.program h.plan

-- what a step asks of the parts that a world which is reached is made of, with these loggings
pub parts_ready : (setting : Setting) (s : World) (ls ks : List Logging) (r : Running)
    → running setting (world_of s ls) ls ≡ r → ks ≡ ls → IsReached r → IsReady setting.program setting.plan s ks
parts_ready setting s ls ks r view same h =
    let reached : IsReached (running setting (world_of s ls) ls) = subst (λ (x : Running). IsReached x) (sym view) h in
    let sound : IsSound (running setting (world_of s ls) ls) = reached_sound _ reached in
    let left : ℕ = steps_left (map (λ l. l.proc) ls) in
    let ready : IsReady setting.program setting.plan s ls = record {
      runnable = runnable _ reached;
      numbered = numbered _ reached;
      sems = every_all IsSmallSem s.sems (each_more (IsSoundSem left) IsSmallSem s.sems (small_sem left) sound.sems);
      chans = every_all IsSmallChan s.chans (each_more (IsSoundChan left) IsSmallChan s.chans (small_chan left) sound.chans);
      small = every_all (IsSmallLogging setting.program) ls (each_more (IsSoundLogging setting.program) (IsSmallLogging setting.program) ls (small_logging setting.program) sound.logs);
    } in
    subst (λ (x : List Logging). IsReady setting.program setting.plan s x) (sym same) ready

-- ---- the start

pub begun_is : (setting : Setting) (n : ℕ) (shared : List ℤ) (sems : List Counts) (chans : List Channel) (ls : List Logging) → n ≡ length setting.program.bodies - setting.program.functions → shared ≡ setting.program.starts → sems ≡ begun_sems setting.program → chans ≡ begun_chans setting.program → ls ≡ begun_logs setting n
    → running setting (world_of (store shared sems chans) ls) ls ≡ begun setting
begun_is setting n shared sems chans ls count s_is m_is c_is l_is =
    let k : ℕ = length setting.program.bodies - setting.program.functions in
    let logs : ls ≡ loggings setting [] = l_is ∙ ap (λ (i : ℕ). begun_logs setting i) count ∙ sym (logs_begun setting 0 k) in
    let procs : map (λ l. l.proc) ls ≡ started_procs setting k = ap (λ (x : List Logging). map (λ l. l.proc) x) (l_is ∙ ap (λ (i : ℕ). begun_logs setting i) count) ∙ procs_begun setting 0 k in
    same_running setting (world_of (store shared sems chans) ls) (started_world setting) ls (loggings setting [])
    (ap (λ (x : List ℤ). world_of (store x sems chans) ls) s_is ∙ ap (λ (x : List Counts). world_of (store setting.program.starts x chans) ls) m_is
    ∙ ap (λ (x : List Channel). world_of (store setting.program.starts (begun_sems setting.program) x) ls) c_is
    ∙ ap (λ (x : List Proc). record { shared = setting.program.starts; sems = begun_sems setting.program; chans = begun_chans setting.program; procs = x }) procs)
    logs

pub begun_of : (setting : Setting) (r : Running) → r ≡ begun setting → IsOf [] r
begun_of setting r e = subst (λ (x : Running). IsOf [] x) (sym e) record { runs = refl; logs = refl }

pub begun_reached : (setting : Setting) (r : Running) → IsValid setting.program → IsValidPlan setting.program setting.plan → setting.budget ≤ MOST_BUDGET → r ≡ begun setting → IsReached r
begun_reached setting r v w b e = subst (λ (x : Running). IsReached x) (sym e) record {
  program = v;
  plan = w;
  budget = b;
  schedule = [];
  comes = record { runs = refl; logs = refl };
}
