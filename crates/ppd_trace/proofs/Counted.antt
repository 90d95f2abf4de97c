-- How many events and steps there are in what is told, and how few.
use Rattle.ppd_model.specs.Setting.{Setting}
use Rattle.std.proofs.Common.{◌≡◌, ℕ, zero, suc, ◌+◌, ◌-◌, ◌*◌, ◌≤◌, Bool, true, false, cond, List, [], ◌∷◌, ◌++◌, length, map, get_or, slice_set, Some, refl, ap, sym, ◌∙◌, arith, length-append}
use Rattle.std.specs.Prelude.{fold, replicate}
use Rattle.std.proofs.lemmas.List.Sums.{count_by-le-length, sum_by-append}
use Rattle.std.proofs.lemmas.Nat.{mul-le}
use Rattle.std.specs.List.{AllByRecursion as Each}
use Rattle.ppd_ast.specs.Valid.{IsValid}
use Rattle.ppd_ast.specs.declared.plan.Plan.{Plan}
use Rattle.ppd_ast.specs.declared.program.Program.{Program}
use Rattle.ppd_ast.specs.declared.limits.TheConstants.{MOST_BUDGET, MOST_PROCESSES}
use Rattle.ppd_sem.specs.declared.proc.Proc.{Proc}
use Rattle.ppd_sem.specs.Described.{is_event}
use Rattle.ppd_model.specs.declared.tracing.Taken.{Taken}
use Rattle.ppd_model.specs.Bounds.{steps_left}
use Rattle.ppd_model.specs.Schedule.{run, started_world}
use Rattle.ppd_model.proofs.WorldWords.{count_events, started_procs}
use Rattle.ppd_model.specs.Story.{Moment, Telling, begun, moment_of, steps_of, tell, told}
use Rattle.ppd_model.specs.World.{World, change}
use Rattle.ppd_model.proofs.Bounded.{ArePaid, in_all, started_all, started_count, started_paid}
use Rattle.ppd_model.proofs.Changes.{length-change}
use Rattle.ppd_model.proofs.Earlier.{each_more}
use Rattle.ppd_trace.specs.Telling.{counts_after}
use Rattle.ppd_world.proofs.Lists.{every_change}

-- ---- one more moment

one_event : (m : Moment) (ms : List Moment) → is_event m.taken.need ≡ true → count_events (ms ++ m ∷ []) ≡ count_events ms + 1
one_event m ms e =
    let all : count_events (ms ++ m ∷ []) ≡ count_events ms + (0 + cond (is_event m.taken.need) 1 0) = sum_by-append (λ (x : Moment). cond (is_event x.taken.need) 1 0) ms (m ∷ []) in
    let one : cond {A = ℕ} (is_event m.taken.need) 1 0 ≡ 1 = ap (λ (b : Bool). cond {A = ℕ} b 1 0) e in
    omega arith

no_event : (m : Moment) (ms : List Moment) → is_event m.taken.need ≡ false → count_events (ms ++ m ∷ []) ≡ count_events ms
no_event m ms e =
    let all : count_events (ms ++ m ∷ []) ≡ count_events ms + (0 + cond (is_event m.taken.need) 1 0) = sum_by-append (λ (x : Moment). cond (is_event x.taken.need) 1 0) ms (m ∷ []) in
    let none : cond {A = ℕ} (is_event m.taken.need) 1 0 ≡ 0 = ap (λ (b : Bool). cond {A = ℕ} b 1 0) e in
    omega arith

more : (m : Moment) → is_event m.taken.need ≡ true → (p : ℕ) (moments : List (List Moment))
    → map count_events (change (λ ms. ms ++ m ∷ []) p moments) ≡ slice_set (map count_events moments) p (get_or (map count_events moments) p 0 + 1)
more m e zero [] = refl
more m e (suc p) [] = refl
more m e zero (ms ∷ rest) = ap (λ (k : ℕ). k ∷ map count_events rest) (one_event m ms e)
more m e (suc p) (ms ∷ rest) = ap (λ (ks : List ℕ). count_events ms ∷ ks) (more m e p rest)

same : (m : Moment) → is_event m.taken.need ≡ false → (p : ℕ) (moments : List (List Moment)) → map count_events (change (λ ms. ms ++ m ∷ []) p moments) ≡ map count_events moments
same m e p [] = refl
same m e zero (ms ∷ rest) = ap (λ (k : ℕ). k ∷ map count_events rest) (no_event m ms e)
same m e (suc p) (ms ∷ rest) = ap (λ (ks : List ℕ). count_events ms ∷ ks) (same m e p rest)

pub counts_change : (m : Moment) (p : ℕ) (moments : List (List Moment)) → counts_after (map count_events moments) p m.taken.need ≡ map count_events (change (λ ms. ms ++ m ∷ []) p moments)
counts_change m p moments = by (is_event m.taken.need) refl
  where
    by : (b : Bool) → is_event m.taken.need ≡ b → counts_after (map count_events moments) p m.taken.need ≡ map count_events (change (λ ms. ms ++ m ∷ []) p moments)
    by true e = ap (λ (c : Bool). cond c (slice_set (map count_events moments) p (get_or (map count_events moments) p 0 + 1)) (map count_events moments)) e ∙ sym (more m e p moments)
    by false e = ap (λ (c : Bool). cond c (slice_set (map count_events moments) p (get_or (map count_events moments) p 0 + 1)) (map count_events moments)) e ∙ sym (same m e p moments)

pub count_at : (p : ℕ) (moments : List (List Moment)) → get_or (map count_events moments) p 0 ≡ count_events (get_or moments p [])
count_at p [] = refl
count_at zero (ms ∷ rest) = refl
count_at (suc p) (ms ∷ rest) = count_at p rest

-- ---- how few they are

module _ (program : Program) (plan : Plan) where
  told_within : (t : Telling) (n : ℕ) (h : List ℕ) → Each (λ (ms : List Moment). length ms ≤ n) t.moments → Each (λ (ms : List Moment). length ms ≤ n + length h) (fold (tell program plan) t h).moments
  told_within t n [] e = each_more (λ (ms : List Moment). length ms ≤ n) (λ (ms : List Moment). length ms ≤ n + 0) t.moments (λ ms lt. omega arith) e
  told_within t n (p ∷ h) e =
      let m : Moment = moment_of program plan t p in
      let next : Each (λ (ms : List Moment). length ms ≤ n + 1) (tell program plan t p).moments =
      every_change (λ (ms : List Moment). length ms ≤ n) (λ (ms : List Moment). length ms ≤ n + 1) (λ ms. ms ++ m ∷ []) p t.moments (λ ms lt. omega arith)
      (λ ms is lt. let one : length (ms ++ m ∷ []) ≡ length ms + 1 = length-append ms (m ∷ []) in omega arith) e in
      let all : Each (λ (ms : List Moment). length ms ≤ n + 1 + length h) (fold (tell program plan) (tell program plan t p) h).moments = told_within (tell program plan t p) (n + 1) h next in
      each_more (λ (ms : List Moment). length ms ≤ n + 1 + length h) (λ (ms : List Moment). length ms ≤ n + length (p ∷ h)) (fold (tell program plan) (tell program plan t p) h).moments (λ ms lt. omega arith) all

  same_length : (t : Telling) (h : List ℕ) → length (fold (tell program plan) t h).moments ≡ length t.moments
  same_length t [] = refl
  same_length t (p ∷ h) = same_length (tell program plan t p) h ∙ length-change (λ ms. ms ++ moment_of program plan t p ∷ []) p t.moments

none_yet : (n : ℕ) (ps : List Proc) → Each (λ (ms : List Moment). length ms ≤ n) (map (λ _. []) ps)
none_yet n [] = tt
none_yet n (s ∷ ss) = (omega arith, none_yet n ss)

pub moments_within : (setting : Setting) (h : List ℕ) → Each (λ (ms : List Moment). length ms ≤ length h) (told setting h).moments
moments_within setting h =
    each_more (λ (ms : List Moment). length ms ≤ 0 + length h) (λ (ms : List Moment). length ms ≤ length h) (told setting h).moments (λ ms lt. omega arith)
    (told_within setting.program setting.plan (begun (started_world setting)) 0 h (none_yet 0 (started_world setting).procs))

length_none : (ps : List Proc) → length {A = List Moment} (map (λ _. []) ps) ≡ length ps
length_none [] = refl
length_none (s ∷ ss) = ap suc (length_none ss)

pub how_many : (setting : Setting) (h : List ℕ) → length (told setting h).moments ≡ length setting.program.bodies - setting.program.functions
how_many setting h =
    same_length setting.program setting.plan (begun (started_world setting)) h ∙ length_none (started_world setting).procs
    ∙ started_count setting 0 (length setting.program.bodies - setting.program.functions)

count_within : (k p : ℕ) (moments : List (List Moment)) → Each (λ (ms : List Moment). length ms ≤ k) moments → get_or (map count_events moments) p 0 ≤ k
count_within k p [] e = omega arith
count_within k zero (ms ∷ rest) e =
    let within : count_events ms ≤ length ms = count_by-le-length (λ m. is_event m.taken.need) ms in
    let few : length ms ≤ k = e.0 in
    omega arith
count_within k (suc p) (ms ∷ rest) e = count_within k p rest e.1

-- the steps of 16 processes with the greatest budget
pub few_taken : (setting : Setting) (h : List ℕ) (w : World) → IsValid setting.program → setting.budget ≤ MOST_BUDGET → run setting h ≡ Some w → length h ≤ MOST_PROCESSES * (MOST_BUDGET + 1)
few_taken setting h w v few e =
    let n : ℕ = length setting.program.bodies - setting.program.functions in
    let processes : length setting.program.bodies ≤ setting.program.functions + MOST_PROCESSES = v.limits.processes in
    let paid : ArePaid (started_procs setting n) = started_paid setting 0 n in
    let all : length h + steps_left w.procs ≤ steps_left (started_procs setting n) = in_all setting.program setting.plan (started_world setting) w h paid e in
    let left : steps_left (started_procs setting n) ≡ n * (setting.budget + 1) = started_all setting 0 n in
    let most : n * (setting.budget + 1) ≤ MOST_PROCESSES * (MOST_BUDGET + 1) = mul-le n (setting.budget + 1) MOST_PROCESSES (MOST_BUDGET + 1) (omega arith) (omega arith) in
    omega arith

pub few_events_at : (setting : Setting) (p : ℕ) (h : List ℕ) (w : World) → IsValid setting.program → setting.budget ≤ MOST_BUDGET → run setting h ≡ Some w
    → get_or (map count_events (told setting h).moments) p 0 ≤ MOST_PROCESSES * (MOST_BUDGET + 1)
few_events_at setting p h w v few e =
    let taken : length h ≤ MOST_PROCESSES * (MOST_BUDGET + 1) = few_taken setting h w v few e in
    let within : get_or (map count_events (told setting h).moments) p 0 ≤ length h = count_within (length h) p (told setting h).moments (moments_within setting h) in
    omega arith

-- ---- before the first step

pub zero_counts : (ps : List Proc) → ◌≡◌ {A = List ℕ} (replicate (length ps) 0) (map count_events (map (λ _. []) ps))
zero_counts [] = refl
zero_counts (s ∷ ss) = ap (λ (l : List ℕ). 0 ∷ l) (zero_counts ss)

pub empty_steps : (ps : List Proc) → ◌≡◌ {A = List (List Taken)} (replicate (length ps) []) (map steps_of (map (λ _. []) ps))
empty_steps [] = refl
empty_steps (s ∷ ss) = ap (λ (l : List (List Taken)). [] ∷ l) (empty_steps ss)
