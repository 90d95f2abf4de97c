-- The steps of a guided run: what was taken of the record, and what is held of the processes.
use Rattle.ppd_model.specs.Setting.{Setting}
use Rattle.std.specs.Option.{option_map_or}
use Rattle.std.proofs.Common.{◌≡◌, ℕ, zero, suc, ◌+◌, ◌-◌, ◌<◌, true, List, [], ◌∷◌, ◌++◌, Option, Some, None, Result, Ok, Err, OnOk, refl, ap, ap₂, sym, subst, ◌∙◌, arith, length, map, drop, get_or, inl, inr, length-append}
use Rattle.std.specs.List.{range_with_len}
use Rattle.std.specs.Prelude.{fold, option_map, option_to_list, slice_get, unwrap_or, filter_map}
use Rattle.std.proofs.lemmas.Bool.{cases_eq, false≢true}
use Rattle.std.proofs.lemmas.List.{append_assoc, append-nil, length-map, map-append}
use Rattle.std.proofs.lemmas.List.FromFn.{map-range_with_len_more}
use Rattle.std.proofs.lemmas.List.Sums.{fold-append}
use Rattle.std.proofs.lemmas.Option.{none-some, slice_get-get_or, slice_get-map, slice_get_within}
use Rattle.ppd_ast.specs.declared.plan.Plan.{Plan}
use Rattle.ppd_ast.specs.declared.program.Program.{Program}
use Rattle.ppd_model.specs.declared.entry.Logs.{Logs}
use Rattle.ppd_sem.specs.declared.event.Event.{Event}
use Rattle.ppd_sem.specs.declared.proc.Proc.{Proc}
use Rattle.ppd_sem.specs.declared.proc.Todo.{Todo}
use Rattle.ppd_sem.specs.Described.{is_event}
use Rattle.ppd_sem.specs.Process.{started}
use Rattle.ppd_sem.specs.Runs.{IsRunning}
use Rattle.ppd_sem.proofs.TableWords.{or_zero}
use Rattle.ppd_model.specs.declared.tracing.Taken.{Taken}
use Rattle.ppd_model.specs.declared.state.Logging.{Logging}
use Rattle.ppd_model.specs.FullTrace.{event_of}
use Rattle.ppd_model.specs.Laws.{logged_moment}
use Rattle.ppd_model.specs.Marks.{closed}
use Rattle.ppd_model.specs.Record.{sync_record}
use Rattle.ppd_model.specs.RecordedSets.{record_in}
use Rattle.ppd_model.specs.Schedule.{IsOver, run, started_world}
use Rattle.ppd_model.specs.States.{act_on, states_from}
use Rattle.ppd_model.specs.Story.{Telling, moment_of, steps_of, story, told}
use Rattle.ppd_model.specs.Synchronizations.{Sync, sync_of}
use Rattle.ppd_model.specs.World.{World, can, change, enabled}
use Rattle.ppd_model.proofs.WorldWords.{need_at}
use Rattle.ppd_model.proofs.Changes.{length-change, own-at, own-else, some}
use Rattle.ppd_model.proofs.Lists.{every_at, map_change}
use Rattle.ppd_model.proofs.Numbers.{syncs-append}
use Rattle.ppd_model.proofs.States.{states_told}
use Rattle.ppd_model.proofs.Stories.{stories_are_of_runs, stories_grow}
use Rattle.ppd_world.specs.Running.{IsHeld, IsReached, Running, Takes}
use Rattle.ppd_world.proofs.Sound.{IsSoundLogging, reached_sound}
use Rattle.ppd_rerun_guide.specs.Guided.{Guiding, chosen, guide, guided_from, is_let, sync_of_next}
use Rattle.ppd_rerun_guide.specs.Verdicts.{HasRecordOf}
use Rattle.ppd_rerun_guide.proofs.Ending.{chosen_can, chosen_let}
use Rattle.ppd_rerun_guide.proofs.Lines.{let_is}
use Rattle.ppd_rerun_guide.proofs.Taking.{one_off}
use Rattle.ppd_rerun_ran.specs.declared.held.Held.{Held}
use Rattle.ppd_rerun_guide.specs.Guides.{AreUsedUp}
use Rattle.ppd_rerun_ran.specs.Holding.{Course, Holding, begun_course, begun_held, course, courses, courses_from, entered_by, held_on, hold_entered, hold_event, hold_left, hold_step}
use Rattle.ppd_rerun_ran.specs.Runs.{HasCome, HoldsStep, begun_helds, helds}
use Rattle.ppd_rerun_ran.specs.Seeing.{seen}

-- ---- lists

-- lists of lists with equal lists at each place
alike : {A : Type 0} (xs ys : List (List A)) → length xs ≡ length ys → ((q : ℕ) → get_or xs q [] ≡ get_or ys q []) → xs ≡ ys
alike [] [] n e = refl
alike [] (y ∷ ys) n e = absurd (omega arith)
alike (x ∷ xs) [] n e = absurd (omega arith)
alike (x ∷ xs) (y ∷ ys) n e = ap₂ (λ z zs. z ∷ zs) (e 0) (alike xs ys (omega arith) (λ q. e (suc q)))

nothing_more : {A : Type 0} (xs ys zs : List A) → xs ++ ys ≡ zs → xs ≡ zs → ys ≡ []
nothing_more xs [] zs e f = refl
nothing_more xs (y ∷ ys) zs e f =
    let a : length (xs ++ (y ∷ ys)) ≡ length zs = ap (λ l. length l) e in
    let b : length xs ≡ length zs = ap (λ l. length l) f in
    let c : length (xs ++ (y ∷ ys)) ≡ length xs + length (y ∷ ys) = length-append xs (y ∷ ys) in
    absurd (omega arith)

map_twice : {A B C : Type 0} (f : B → C) (g : A → B) (xs : List A) → map f (map g xs) ≡ map (λ x. f (g x)) xs
map_twice f g [] = refl
map_twice f g (x ∷ xs) = ap (λ ys. f (g x) ∷ ys) (map_twice f g xs)

first_of_list : {A : Type 0} (xs : List A) (x : A) → slice_get xs 0 ≡ Some x → xs ≡ x ∷ drop 1 xs
first_of_list [] x e = absurd (none-some x e)
first_of_list (y ∷ ys) x e = ap (λ z. z ∷ ys) (some e)

pub zero_is : (o : Option ℕ) → unwrap_or o 0 ≡ or_zero o
zero_is None = refl
zero_is (Some n) = refl

-- what holds holds where a step came out well
pub ok_of : {E : Type 0} (r : Result (Unit {0}) E) {P : Type 0} → P → OnOk r P
ok_of (Ok u) p = p
ok_of (Err e) p = tt

-- ---- who can take a step is there

there_by : (program : Program) (plan : Plan) (w : World) (p : ℕ) → (o : Option Proc) → slice_get w.procs p ≡ o → can w (need_at program plan o) ≡ true → p < length w.procs
there_by program plan w p None is e = absurd (false≢true e)
there_by program plan w p (Some s) is e = slice_get_within w.procs p s is

pub is_there : (program : Program) (plan : Plan) (w : World) (p : ℕ) → enabled program plan w p ≡ true → p < length w.procs
is_there program plan w p e = there_by program plan w p (slice_get w.procs p) refl e

logging_of : (ls : List Logging) (procs : List Proc) (p : ℕ) (s : Proc) → map (λ l. l.proc) ls ≡ procs → slice_get procs p ≡ Some s → (l : Logging) × (slice_get ls p ≡ Some l) × (l.proc ≡ s)
logging_of ls procs p s e at = by (slice_get ls p) refl (sym (slice_get-map (λ l. l.proc) ls p) ∙ ap (λ (xs : List Proc). slice_get xs p) e ∙ at)
  where
    by : (o : Option Logging) → slice_get ls p ≡ o → option_map (λ l. l.proc) o ≡ Some s → (l : Logging) × (slice_get ls p ≡ Some l) × (l.proc ≡ s)
    by None is f = absurd (none-some s f)
    by (Some l) is f = (l, is, some f)

-- a process of a world that is reached can run
pub runs_at : (r : Running) (p : ℕ) (s : Proc) → IsReached r → slice_get r.world.procs p ≡ Some s → IsRunning r.setting.program s
runs_at r p s h at =
    let x : (l : Logging) × (slice_get r.loggings p ≡ Some l) × (l.proc ≡ s) = logging_of r.loggings r.world.procs p s (reached_sound r h).same at in
    let sound : IsSoundLogging r.setting.program x.0 = every_at (IsSoundLogging r.setting.program) r.loggings p x.0 (reached_sound r h).logs x.1 in
    subst (λ (y : Proc). IsRunning r.setting.program y) x.2 sound.proc

-- ---- what is held

module _ (setting : Setting) where
  course_proc : (g : Course) (steps : List Taken) → (fold (held_on setting.program setting.plan) g steps).proc ≡ fold (act_on setting.program setting.plan) g.proc steps
  course_proc g [] = refl
  course_proc g (x ∷ xs) = course_proc (held_on setting.program setting.plan g x) xs

  courses_procs : (p : ℕ) (lists : List (List Taken)) → map (λ g. g.proc) (courses_from setting p lists) ≡ states_from setting p lists
  courses_procs p [] = refl
  courses_procs p (steps ∷ rest) = ap₂ (λ (s : Proc) (ss : List Proc). s ∷ ss) (course_proc (begun_course setting p) steps) (courses_procs (p + 1) rest)

  courses-change : (x : Taken) (q p : ℕ) (lists : List (List Taken)) → courses_from setting p (change (λ xs. xs ++ x ∷ []) q lists) ≡ change (λ g. held_on setting.program setting.plan g x) q (courses_from setting p lists)
  courses-change x q p [] = refl
  courses-change x zero p (xs ∷ rest) = ap (λ (g : Course). g ∷ courses_from setting (p + 1) rest) (fold-append (held_on setting.program setting.plan) (begun_course setting p) xs (x ∷ []))
  courses-change x (suc q) p (xs ∷ rest) = ap (λ (gs : List Course). course setting p xs ∷ gs) (courses-change x q (p + 1) rest)

  courses_begun : (p n : ℕ) → courses_from setting p (map steps_of (map (λ _. []) (map (λ q. started setting.program setting.plan q setting.budget) (range_with_len p n)))) ≡ map (begun_course setting) (range_with_len p n)
  courses_begun p zero = refl
  courses_begun p (suc n) = ap (λ (gs : List Course). begun_course setting p ∷ gs) (courses_begun (p + 1) n)

  -- before the first step
  pub helds_begun : begun_helds setting.program setting.plan (length setting.program.bodies - setting.program.functions) ≡ helds setting []
  helds_begun =
      sym (ap (λ (gs : List Course). map (λ g. g.held) gs) (courses_begun 0 (length setting.program.bodies - setting.program.functions))
      ∙ map_twice (λ g. g.held) (begun_course setting) (range_with_len 0 (length setting.program.bodies - setting.program.functions)))

  -- the writer of a step is not held
  event_same : (s : Proc) (x y : Taken) (todo : List Todo) → x.answer ≡ y.answer → x.number ≡ y.number → event_of setting.program setting.plan s x todo ≡ event_of setting.program setting.plan s y todo
  event_same s x y [] a b = refl
  event_same s x y (t ∷ ts) a b = ap₂ (λ a' n'. event_of setting.program setting.plan s (record { need = x.need; answer = a'; writer = None; number = n' }) (t ∷ ts)) a b

  hold_same : (s : Proc) (h : Holding) (t : Telling) (p : ℕ) → hold_step setting.program setting.plan s h (moment_of setting.program setting.plan t p).taken ≡ hold_step setting.program setting.plan s h (logged_moment setting.program setting.plan t.world p).taken
  hold_same s h t p =
      let x : Taken = (moment_of setting.program setting.plan t p).taken in
      let y : Taken = (logged_moment setting.program setting.plan t.world p).taken in
      ap (λ (e : Event). hold_entered (entered_by x.need) (hold_left (closed setting.program setting.plan s x.need) (hold_event (is_event x.need) e h))) (event_same s x y s.todo refl refl)

  held_change : (t : Telling) (p : ℕ) (s : Proc) (q : ℕ) (gs : List Course) → slice_get (map (λ g. g.proc) gs) q ≡ Some s
      → map (λ g. g.held) (change (λ g. held_on setting.program setting.plan g (moment_of setting.program setting.plan t p).taken) q gs)
      ≡ change (λ x. hold_step setting.program setting.plan s x (logged_moment setting.program setting.plan t.world p).taken) q (map (λ g. g.held) gs)
  held_change t p s q [] e = refl
  held_change t p s zero (g ∷ gs) e =
      ap (λ (x : Holding). x ∷ map (λ y. y.held) gs)
      (hold_same g.proc g.held t p ∙ ap (λ (y : Proc). hold_step setting.program setting.plan y g.held (logged_moment setting.program setting.plan t.world p).taken) (some e))
  held_change t p s (suc q) (g ∷ gs) e = ap (λ (xs : List Holding). g.held ∷ xs) (held_change t p s q gs e)

  -- a step of p after a schedule
  held_more : (h : List ℕ) (p : ℕ) (s : Proc) → slice_get (told setting h).world.procs p ≡ Some s
      → helds setting (h ++ p ∷ []) ≡ change (λ x. hold_step setting.program setting.plan s x (logged_moment setting.program setting.plan (told setting h).world p).taken) p (helds setting h)
  held_more h p s at =
      ap (λ lists. map (λ g. g.held) (courses_from setting 0 lists)) (stories_grow setting h p).steps_are
      ∙ ap (λ (gs : List Course). map (λ g. g.held) gs) (courses-change (moment_of setting.program setting.plan (told setting h) p).taken p 0 (story setting h).steps)
      ∙ held_change (told setting h) p s p (courses setting (story setting h))
      (ap (λ (xs : List Proc). slice_get xs p) (courses_procs 0 (story setting h).steps ∙ sym (states_told setting h)) ∙ at)

  pub helds_more : (n : ℕ) (xs ys : List Held) (one : Held) → ys ≡ xs ++ one ∷ [] → seen one ≡ begun_held setting.program setting.plan n → map seen xs ≡ begun_helds setting.program setting.plan n
      → map seen ys ≡ begun_helds setting.program setting.plan (n + 1)
  helds_more n xs ys one e f g =
      ap (λ (zs : List Held). map seen zs) e
      ∙ map-append seen xs (one ∷ [])
      ∙ ap₂ (λ (zs : List Holding) (z : Holding). zs ++ z ∷ []) g f
      ∙ sym (map-range_with_len_more (begun_held setting.program setting.plan) 0 n n (omega arith))

  -- ---- what is taken

  states_count : (p : ℕ) (lists : List (List Taken)) → length (states_from setting p lists) ≡ length lists
  states_count p [] = refl
  states_count p (steps ∷ rest) = ap (λ (n : ℕ). suc n) (states_count (p + 1) rest)

  -- there are records of just the processes
  pub record_count : (h : List ℕ) → length (sync_record setting h) ≡ length (told setting h).world.procs
  record_count h =
      length-map (story setting h).steps (filter_map sync_of)
      ∙ sym (ap (λ (xs : List Proc). length xs) (states_told setting h) ∙ states_count 0 (story setting h).steps)

  pub held_count : (h : List ℕ) → length (helds setting h) ≡ length (told setting h).world.procs
  held_count h =
      length-map (courses setting (story setting h)) (λ g. g.held)
      ∙ sym (length-map (courses setting (story setting h)) (λ g. g.proc))
      ∙ ap (λ (xs : List Proc). length xs) (courses_procs 0 (story setting h).steps ∙ sym (states_told setting h))

  record_more : (h : List ℕ) (p : ℕ) → sync_record setting (h ++ p ∷ [])
      ≡ change (λ ss. ss ++ option_to_list (sync_of_next setting.program setting.plan (told setting h).world p)) p (sync_record setting h)
  record_more h p =
      let x : Taken = (moment_of setting.program setting.plan (told setting h) p).taken in
      ap (λ lists. map (filter_map sync_of) lists) (stories_grow setting h p).steps_are
      ∙ map_change (filter_map sync_of) (λ xs. xs ++ x ∷ []) (λ ss. ss ++ option_to_list (sync_of x)) p (story setting h).steps (λ xs. syncs-append xs x)

  taken_own : (record' left : List (List Sync)) (p : ℕ) (o : Option Sync) → p < length record' → is_let o (slice_get (get_or left p []) 0) ≡ true
      → get_or (change (λ ss. ss ++ option_to_list o) p record') p [] ++ get_or (option_map_or (λ taken. change (drop 1) p left) o left) p [] ≡ get_or record' p [] ++ get_or left p []
  taken_own record' left p None lt e =
      ap (λ (xs : List Sync). xs ++ get_or left p []) (own-at (λ ss. ss ++ []) p [] record' lt ∙ append-nil (get_or record' p []))
  taken_own record' left p (Some s) lt e =
      ap₂ (λ (xs ys : List Sync). xs ++ ys) (own-at (λ ss. ss ++ s ∷ []) p [] record' lt) (one_off p left)
      ∙ append_assoc (get_or record' p []) (s ∷ []) (drop 1 (get_or left p []))
      ∙ ap (λ (xs : List Sync). get_or record' p [] ++ xs) (sym (first_of_list (get_or left p []) s (let_is s (slice_get (get_or left p []) 0) e)))

  left_else : (o : Option Sync) (p q : ℕ) (left : List (List Sync)) → (q ≡ p → ⊥) → get_or (option_map_or (λ taken. change (drop 1) p left) o left) q [] ≡ get_or left q []
  left_else None p q left d = refl
  left_else (Some s) p q left d = own-else (drop 1) p q [] left d

  left_count : (o : Option Sync) (p : ℕ) (left : List (List Sync)) → length (option_map_or (λ taken. change (drop 1) p left) o left) ≡ length left
  left_count None p left = refl
  left_count (Some s) p left = length-change (drop 1) p left

  taken_more : (h : List ℕ) (p : ℕ) (left : List (List Sync)) (q : ℕ) → p < length (told setting h).world.procs
      → is_let (sync_of_next setting.program setting.plan (told setting h).world p) (slice_get (get_or left p []) 0) ≡ true
      → get_or (sync_record setting (h ++ p ∷ [])) q [] ++ get_or (option_map_or (λ taken. change (drop 1) p left) (sync_of_next setting.program setting.plan (told setting h).world p) left) q []
      ≡ get_or (sync_record setting h) q [] ++ get_or left q []
  taken_more h p left q lt e =
      let o : Option Sync = sync_of_next setting.program setting.plan (told setting h).world p in
      let old : List (List Sync) = sync_record setting h in
      let there : p < length old = let n : length old ≡ length (told setting h).world.procs = record_count h in omega arith in
      ap (λ (xs : List (List Sync)). get_or xs q [] ++ get_or (option_map_or (λ taken. change (drop 1) p left) o left) q []) (record_more h p)
      ∙ elim (cases_eq q p) [
        | inl is ↦
            subst (λ (x : ℕ). get_or (change (λ ss. ss ++ option_to_list o) p old) x [] ++ get_or (option_map_or (λ taken. change (drop 1) p left) o left) x [] ≡ get_or old x [] ++ get_or left x []) (sym is)
            (taken_own old left p o there e)
        | inr d ↦ ap₂ (λ (xs ys : List Sync). xs ++ ys) (own-else (λ ss. ss ++ option_to_list o) p q [] old d) (left_else o p q left d)
      ]

  -- ---- one more step of a guided run

  runs_in : (r : Running) (h : List ℕ) → IsHeld setting r h → run setting h ≡ Some r.world
  runs_in r h x = ap (λ (s : Setting). run s h) (sym x.is_setting) ∙ x.comes.runs

  abbrev state : Running → List (List Sync) → Guiding
  state r left = record { world = r.world; left = left }

  pub come_on : (syncs : List (List Sync)) (h : List ℕ) (p : ℕ) (r now : Running) (left left' : List (List Sync)) (held held' : List Holding)
      → HasCome setting syncs h r left held → chosen r.setting.program r.setting.plan (state r left) ≡ Some p
      → state now left' ≡ guide r.setting.program r.setting.plan (state r left) p → Takes r (p ∷ []) now → IsReached now → HoldsStep r p held held'
      → HasCome setting syncs (h ++ p ∷ []) now left' held'
  come_on syncs h p r now left left' held held' come may goes takes reached holds = record {
    run = record {
      is_setting = takes.setting ∙ come.run.is_setting;
      comes = takes.comes h come.run.comes;
      reached = reached;
    };
    lists = ap (λ (g : Guiding). length g.left) goes ∙ left_count (sync_of_next r.setting.program r.setting.plan r.world p) p left ∙ come.lists;
    taken = λ q.
        ap (λ (g : Guiding). get_or (sync_record setting (h ++ p ∷ [])) q [] ++ get_or g.left q []) goes
        ∙ ap (λ (o : Option Sync). get_or (sync_record setting (h ++ p ∷ [])) q [] ++ get_or (option_map_or (λ taken. change (drop 1) p left) o left) q []) next_is
        ∙ taken_more h p left q there lets
        ∙ come.taken q;
    held_is =
        holds s at
        ∙ ap (λ (x : Setting). change (λ y. hold_step x.program x.plan s y (logged_moment x.program x.plan r.world p).taken) p held) come.run.is_setting
        ∙ ap₂ (λ (w : World) (xs : List Holding). change (λ y. hold_step setting.program setting.plan s y (logged_moment setting.program setting.plan w p).taken) p xs) (sym told_is) come.held_is
        ∙ sym (held_more h p s (ap (λ (w : World). slice_get w.procs p) told_is ∙ at));
  }
    where
      told_is : (told setting h).world ≡ r.world
      told_is = stories_are_of_runs setting h r.world (runs_in r h come.run)

      can_now : enabled r.setting.program r.setting.plan r.world p ≡ true
      can_now = chosen_can r.setting.program r.setting.plan (state r left) p may

      inside : p < length r.world.procs
      inside = is_there r.setting.program r.setting.plan r.world p can_now

      there : p < length (told setting h).world.procs
      there = subst (λ (w : World). p < length w.procs) (sym told_is) inside

      s : Proc
      s = get_or r.world.procs p (started setting.program setting.plan p setting.budget)

      at : slice_get r.world.procs p ≡ Some s
      at = slice_get-get_or r.world.procs p (started setting.program setting.plan p setting.budget) inside

      next_is : sync_of_next r.setting.program r.setting.plan r.world p ≡ sync_of_next setting.program setting.plan (told setting h).world p
      next_is = ap (λ (x : Setting). sync_of_next x.program x.plan r.world p) come.run.is_setting ∙ ap (λ (w : World). sync_of_next setting.program setting.plan w p) (sym told_is)

      lets : is_let (sync_of_next setting.program setting.plan (told setting h).world p) (slice_get (get_or left p []) 0) ≡ true
      lets = ap (λ (o : Option Sync). is_let o (slice_get (get_or left p []) 0)) (sym next_is) ∙ chosen_let r.setting.program r.setting.plan (state r left) p may

  none_taken : (procs : List Proc) (q : ℕ) → get_or (map (filter_map sync_of) (map steps_of (map (λ _. []) procs))) q [] ≡ []
  none_taken [] q = refl
  none_taken (s ∷ procs) zero = refl
  none_taken (s ∷ procs) (suc q) = none_taken procs q

  pub come_begun : (r : Running) (left : List (List Sync)) (held : List Holding) → IsHeld setting r [] → held ≡ helds setting []
      → HasCome setting left [] r left held
  come_begun r left held is e = record {
    run = is;
    lists = refl;
    taken = λ q. ap (λ (xs : List Sync). xs ++ get_or left q []) (none_taken (started_world setting).procs q);
    held_is = e;
  }

  -- ---- the end of a guided run

  module _ (logs : Logs) (h : List ℕ) (r : Running) (left : List (List Sync)) (held : List Holding) (come : HasCome setting (record_in logs) h r left held) where
    count : length (sync_record setting h) ≡ length r.world.procs
    count = record_count h ∙ ap (λ (w : World). length w.procs) (stories_are_of_runs setting h r.world (runs_in r h come.run))

    over_is : IsOver r.setting.program r.setting.plan r.world → IsOver setting.program setting.plan r.world
    over_is o = subst (λ (x : Setting). IsOver x.program x.plan r.world) come.run.is_setting o

    over_back : IsOver setting.program setting.plan r.world → IsOver r.setting.program r.setting.plan r.world
    over_back o = subst (λ (x : Setting). IsOver x.program x.plan r.world) (sym come.run.is_setting) o

    pub follows : IsOver r.setting.program r.setting.plan r.world × AreUsedUp (length r.world.procs) left → HasRecordOf setting logs h
    follows (o, u) = record {
      whole = record { last = r.world; runs = runs_in r h come.run; over = over_is o };
      record_is = alike (sync_record setting h) (record_in logs) (count ∙ sym u.count_is ∙ come.lists)
          (λ q. sym (append-nil (get_or (sync_record setting h) q []))
          ∙ ap (λ (xs : List Sync). get_or (sync_record setting h) q [] ++ xs) (sym (u.empty q))
          ∙ come.taken q);
    }

    pub followed : HasRecordOf setting logs h → IsOver r.setting.program r.setting.plan r.world × AreUsedUp (length r.world.procs) left
    followed f = (
      over_back (subst (λ (w : World). IsOver setting.program setting.plan w) (some (sym f.whole.runs ∙ runs_in r h come.run)) f.whole.over),
      record {
        count_is = come.lists ∙ sym (ap (λ (xs : List (List Sync)). length xs) f.record_is) ∙ count;
        empty = λ q. nothing_more (get_or (sync_record setting h) q []) (get_or left q []) (get_or (record_in logs) q []) (come.taken q)
            (ap (λ (xs : List (List Sync)). get_or xs q []) f.record_is);
      },
    )

-- ---- what is still to come

module _ (program : Program) (plan : Plan) where
  pub holds_by : (r : Running) (p : ℕ) (x : Taken) (s : Proc) (before after : List Holding) → r.setting.program ≡ program → r.setting.plan ≡ plan
      → slice_get r.world.procs p ≡ Some s → x ≡ (logged_moment r.setting.program r.setting.plan r.world p).taken
      → after ≡ change (λ y. hold_step program plan s y x) p before → HoldsStep r p before after
  holds_by r p x s before after a b at is e s' at' =
      e
      ∙ ap₂ (λ (y : Taken) (z : Proc). change (λ h. hold_step program plan z h y) p before) is (some (sym at ∙ at'))
      ∙ ap₂ (λ (a' : Program) (b' : Plan). change (λ h. hold_step a' b' s' h (logged_moment r.setting.program r.setting.plan r.world p).taken) p before) (sym a) (sym b)

  pub rest_on : (n m : ℕ) (g g' : Guiding) (p : ℕ) (h h' all : List ℕ) → n ≡ suc m → chosen program plan g ≡ Some p → g' ≡ guide program plan g p → h' ≡ h ++ p ∷ []
      → h ++ guided_from program plan n g ≡ all → h' ++ guided_from program plan m g' ≡ all
  rest_on n m g g' p h h' all count may goes more rest =
      ap₂ (λ (xs : List ℕ) (y : Guiding). xs ++ guided_from program plan m y) more goes
      ∙ append_assoc h (p ∷ []) (guided_from program plan m (guide program plan g p))
      ∙ sym (ap (λ (k : ℕ). h ++ guided_from program plan k g) count
      ∙ ap (λ (o : Option ℕ). h ++ option_map_or (λ q. q ∷ guided_from program plan m (guide program plan g q)) o []) may)
      ∙ rest

  pub rest_none : (n : ℕ) (g : Guiding) → chosen program plan g ≡ None → guided_from program plan n g ≡ []
  rest_none zero g e = refl
  rest_none (suc n) g e = ap (λ (o : Option ℕ). option_map_or (λ q. q ∷ guided_from program plan n (guide program plan g q)) o []) e
