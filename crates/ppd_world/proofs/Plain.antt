-- Plain steps of one process change its state and its log's count of steps, and nothing else.
use Rattle.std.specs.Prelude.{replicate, slice_get}
use Rattle.std.specs.List.{All}
use Rattle.std.proofs.Common.{◌≡◌, ℕ, ℤ, zero, suc, ◌+◌, ◌<◌, ◌≤◌, ◌^◌, true, List, [], ◌∷◌, ◌++◌, map, Some, None, refl, ap, sym, ◌∙◌, subst, arith}
use Rattle.std.proofs.lemmas.List.{append_assoc, append-nil}
use Rattle.ppd_ast.specs.declared.plan.Plan.{Plan}
use Rattle.ppd_ast.specs.declared.program.Program.{Program}
use Rattle.ppd_ast.specs.declared.limits.TheConstants.{MOST_BUDGET}
use Rattle.ppd_model.specs.declared.entry.Entry.{Entry}
use Rattle.ppd_sem.specs.declared.proc.Answer.TheVariants.{Go}
use Rattle.ppd_sem.specs.declared.proc.Need.{Need}
use Rattle.ppd_sem.specs.declared.proc.Need.TheVariants.{Plain}
use Rattle.ppd_sem.specs.declared.proc.Proc.{Proc}
use Rattle.ppd_sem.specs.Measure.{measure}
use Rattle.ppd_sem.specs.Printed.{printed_before, unprinted}
use Rattle.ppd_sem.specs.Process.{act, need_of}
use Rattle.ppd_sem.proofs.Printed.{same_need, same_step, with_own}
use Rattle.ppd_sem.proofs.Progress.{act-falls, act-within}
use Rattle.ppd_model.specs.declared.state.Logging.{Logging}
use Rattle.ppd_model.specs.Logs.{log_step}
use Rattle.ppd_model.specs.Story.{Moment, number_of, unit_started}
use Rattle.ppd_model.proofs.WorldWords.{need_at, step_by, values_at_start}
use Rattle.ppd_model.specs.World.{World, answer, change, can, need}
use Rattle.ppd_model.proofs.Changes.{some}
use Rattle.ppd_model.proofs.Earlier.{each_more}
use Rattle.ppd_model.proofs.Lists.{map_change, map_get, every_at}
use Rattle.ppd_world.specs.Plain.{ComesPlainly, ComesPrinting, GoesPlainly, gone_on, gone_on_printing, stepped_times}
use Rattle.ppd_world.specs.Running.{IsOf, IsReached, Running, Takes, can_step, stepped}
use Rattle.ppd_world.proofs.Lists.{every_all}
use Rattle.ppd_world.proofs.Reached.{of_step, reached_step}
use Rattle.ppd_world.proofs.Sound.{IsSoundLogging, reached_sound}

-- ---- one element changed

change_at : {A : Type 0} (f g : A → A) (i : ℕ) (xs : List A) → ((x : A) → slice_get xs i ≡ Some x → f x ≡ g x) → change f i xs ≡ change g i xs
change_at f g i [] h = refl
change_at f g zero (x ∷ xs) h = ap (λ y. y ∷ xs) (h x refl)
change_at f g (suc i) (x ∷ xs) h = ap (λ ys. x ∷ ys) (change_at f g i xs h)

change_none : {A : Type 0} (f : A → A) (i : ℕ) (xs : List A) → ((x : A) → slice_get xs i ≡ Some x → f x ≡ x) → change f i xs ≡ xs
change_none f i [] h = refl
change_none f zero (x ∷ xs) h = ap (λ y. y ∷ xs) (h x refl)
change_none f (suc i) (x ∷ xs) h = ap (λ ys. x ∷ ys) (change_none f i xs h)

change_twice : {A : Type 0} (f g : A → A) (i : ℕ) (xs : List A) → change g i (change f i xs) ≡ change (λ x. g (f x)) i xs
change_twice f g i [] = refl
change_twice f g zero (x ∷ xs) = refl
change_twice f g (suc i) (x ∷ xs) = ap (λ ys. x ∷ ys) (change_twice f g i xs)

get_change : {A : Type 0} (f : A → A) (i : ℕ) (xs : List A) (x : A) → slice_get xs i ≡ Some x → slice_get (change f i xs) i ≡ Some (f x)
get_change f i [] x e = absurd (cc e)
get_change f zero (y ∷ ys) x e = ap (λ z. Some (f z)) (some e)
get_change f (suc i) (y ∷ ys) x e = get_change f i ys x e

-- what a change leaves was changed
got_change : {A : Type 0} (f : A → A) (i : ℕ) (xs : List A) (y : A) → slice_get (change f i xs) i ≡ Some y → (x : A) × (slice_get xs i ≡ Some x) × (f x ≡ y)
got_change f i [] y e = absurd (cc e)
got_change f zero (x ∷ xs) y e = (x, refl, some e)
got_change f (suc i) (x ∷ xs) y e = got_change f i xs y e

pub got_map : {A B : Type 0} (f : A → B) (i : ℕ) (xs : List A) (y : B) → slice_get (map f xs) i ≡ Some y → (x : A) × (slice_get xs i ≡ Some x) × (f x ≡ y)
got_map f i [] y e = absurd (cc e)
got_map f zero (x ∷ xs) y e = (x, refl, some e)
got_map f (suc i) (x ∷ xs) y e = got_map f i xs y e

-- ---- one step

-- a moment with this need
abbrev moment_by : Plan → World → List ℤ → Need → Moment
moment_by plan w shared n = record {
  taken = record { need = n; answer = answer w n; writer = None; number = number_of w n };
  unit_values = values_at_start plan shared (unit_started n);
}

plain_log : (program : Program) (plan : Plan) (w : World) (shared : List ℤ) (l : Logging) (n : Need) → n ≡ Plain → log_step program plan l (moment_by plan w shared n) ≡ gone_on (act program plan l.proc Go) 1 l
plain_log program plan w shared l n e =
    ap (λ (x : Need). log_step program plan l (moment_by plan w shared x)) e
    ∙ ap (λ (es : List Entry). record l { proc = act program plan l.proc Go; rest = l.rest + 1; entries = es }) (append-nil l.entries)

plain_world : (program : Program) (plan : Plan) (w : World) (p : ℕ) (n : Need) → n ≡ Plain → step_by program plan w p n ≡ record w { procs = change (λ s. act program plan s Go) p w.procs }
plain_world program plan w p n e = ap (λ (x : Need). step_by program plan w p x) e

-- process p is there, with this state
pub record IsAt (r : Running) (p : ℕ) (s : Proc) : Type 0 where
  pub procs : slice_get r.world.procs p ≡ Some s
  pub logs : (l : Logging) → slice_get r.loggings p ≡ Some l → l.proc ≡ s

pub is_at : (r : Running) (p : ℕ) (s : Proc) → IsReached r → slice_get r.world.procs p ≡ Some s → IsAt r p s
is_at r p s h e = record {
  procs = e;
  logs = λ l g. some (sym (map_get (λ (y : Logging). y.proc) r.loggings p l g) ∙ ap (λ (ps : List Proc). slice_get ps p) (reached_sound r h).same ∙ e);
}

-- process p has another state, and n more steps without an entry
abbrev pub moved : Running → ℕ → Proc → ℕ → Running
moved r p t n = record r {
  world = record r.world { procs = change (λ (_ : Proc). t) p r.world.procs };
  loggings = change (gone_on t n) p r.loggings;
}

moved_at : (r : Running) (p : ℕ) (s t : Proc) (n : ℕ) → IsAt r p s → IsAt (moved r p t n) p t
moved_at r p s t n at = record {
  procs = get_change (λ (_ : Proc). t) p r.world.procs s at.procs;
  logs = λ l g. let was = got_change (gone_on t n) p r.loggings l g in ap (λ (x : Logging). x.proc) (sym was.2);
}

plain_need : (r : Running) (p : ℕ) (s : Proc) → IsAt r p s → need_of r.setting.program r.setting.plan s ≡ Plain → need r.setting.program r.setting.plan r.world p ≡ Plain
plain_need r p s at e = ap (λ o. need_at r.setting.program r.setting.plan o) at.procs ∙ e

pub plain_can : (r : Running) (p : ℕ) (s : Proc) → IsAt r p s → need_of r.setting.program r.setting.plan s ≡ Plain → can_step r p ≡ true
plain_can r p s at e = ap (λ (n : Need). can r.world n) (plain_need r p s at e)

parts : (r : Running) (w v : World) (ls ks : List Logging) → w ≡ v → ls ≡ ks → record r { world = w; loggings = ls } ≡ record r { world = v; loggings = ks }
parts r w v ls ks e f = ap (λ (x : World). record r { world = x; loggings = ls }) e ∙ ap (λ (x : List Logging). record r { world = v; loggings = x }) f

one_moved : (r : Running) (p : ℕ) (s : Proc) → IsAt r p s → need_of r.setting.program r.setting.plan s ≡ Plain → stepped r p ≡ moved r p (act r.setting.program r.setting.plan s Go) 1
one_moved r p s at e =
    let n : need r.setting.program r.setting.plan r.world p ≡ Plain = plain_need r p s at e in
    let t : Proc = act r.setting.program r.setting.plan s Go in
    let w : World = step_by r.setting.program r.setting.plan r.world p (need r.setting.program r.setting.plan r.world p) in
    let m : Moment = moment_by r.setting.plan r.world w.shared (need r.setting.program r.setting.plan r.world p) in
    parts r w (record r.world { procs = change (λ (_ : Proc). t) p r.world.procs }) (change (λ l. log_step r.setting.program r.setting.plan l m) p r.loggings) (change (gone_on t 1) p r.loggings)
    (plain_world r.setting.program r.setting.plan r.world p (need r.setting.program r.setting.plan r.world p) n
    ∙ ap (λ (ps : List Proc). record r.world { procs = ps }) (change_at (λ (x : Proc). act r.setting.program r.setting.plan x Go) (λ (_ : Proc). t) p r.world.procs (λ x g. ap (λ (y : Proc). act r.setting.program r.setting.plan y Go) (some (sym g ∙ at.procs)))))
    (change_at (λ l. log_step r.setting.program r.setting.plan l m) (gone_on t 1) p r.loggings
    (λ l g. plain_log r.setting.program r.setting.plan r.world w.shared l (need r.setting.program r.setting.plan r.world p) n ∙ ap (λ (y : Proc). gone_on (act r.setting.program r.setting.plan y Go) 1 l) (at.logs l g)))

-- ---- many steps

moved_on : (r : Running) (p : ℕ) (t u : Proc) (n m k : ℕ) → n + m ≡ k → moved (moved r p t n) p u m ≡ moved r p u k
moved_on r p t u n m k e =
    parts r (record r.world { procs = change (λ (_ : Proc). u) p (change (λ (_ : Proc). t) p r.world.procs) }) (record r.world { procs = change (λ (_ : Proc). u) p r.world.procs })
    (change (gone_on u m) p (change (gone_on t n) p r.loggings)) (change (gone_on u k) p r.loggings)
    (ap (λ (ps : List Proc). record r.world { procs = ps }) (change_twice (λ (_ : Proc). t) (λ (_ : Proc). u) p r.world.procs))
    (change_twice (gone_on t n) (gone_on u m) p r.loggings
    ∙ change_at (λ l. gone_on u m (gone_on t n l)) (gone_on u k) p r.loggings (λ l g. let sum : (l.rest + n) + m ≡ l.rest + k = omega (arith, e) in ap (λ (i : ℕ). record l { proc = u; rest = i }) sum))

not_moved : (r : Running) (p : ℕ) (s t : Proc) → IsAt r p s → s ≡ t → r ≡ moved r p t 0
not_moved r p s t at e =
    sym (parts r (record r.world { procs = change (λ (_ : Proc). t) p r.world.procs }) r.world (change (gone_on t 0) p r.loggings) r.loggings
    (ap (λ (ps : List Proc). record r.world { procs = ps }) (change_none (λ (_ : Proc). t) p r.world.procs (λ x g. sym e ∙ some (sym at.procs ∙ g))))
    (change_none (gone_on t 0) p r.loggings (λ l g. let none : l.rest + 0 ≡ l.rest = omega arith in ap (λ (i : ℕ). record l { proc = t; rest = i }) none ∙ ap (λ (y : Proc). record l { proc = y }) (sym e ∙ sym (at.logs l g)))))

pub all_moved : (n : ℕ) (r : Running) (p : ℕ) (s t : Proc) → IsAt r p s → GoesPlainly r.setting.program r.setting.plan s n t → stepped_times r p n ≡ moved r p t n
all_moved zero r p s t at g = not_moved r p s t at g
all_moved (suc n) r p s t at g =
    let a : Proc = act r.setting.program r.setting.plan s Go in
    ap (λ (x : Running). stepped_times x p n) (one_moved r p s at g.0)
    ∙ all_moved n (moved r p a 1) p a t (moved_at r p s a 1 at) g.1
    ∙ moved_on r p a t 1 n (suc n) (omega arith)

after_one : (r : Running) (p : ℕ) (s : Proc) → IsAt r p s → need_of r.setting.program r.setting.plan s ≡ Plain → IsAt (stepped r p) p (act r.setting.program r.setting.plan s Go)
after_one r p s at e = subst (λ (x : Running). IsAt x p (act r.setting.program r.setting.plan s Go)) (sym (one_moved r p s at e)) (moved_at r p s (act r.setting.program r.setting.plan s Go) 1 at)

times_of : (n : ℕ) (r : Running) (p : ℕ) (s t : Proc) (h : List ℕ) → IsAt r p s → GoesPlainly r.setting.program r.setting.plan s n t → IsOf h r → IsOf (h ++ replicate n p) (stepped_times r p n)
times_of zero r p s t h at g o = subst (λ (l : List ℕ). IsOf l r) (sym (append-nil h)) o
times_of (suc n) r p s t h at g o =
    subst (λ (l : List ℕ). IsOf l (stepped_times (stepped r p) p n)) (append_assoc h (p ∷ []) (replicate n p))
    (times_of n (stepped r p) p (act r.setting.program r.setting.plan s Go) t (h ++ p ∷ []) (after_one r p s at g.0) g.1 (of_step h r p (plain_can r p s at g.0) o))

pub times_reached : (n : ℕ) (r : Running) (p : ℕ) (s t : Proc) → IsAt r p s → GoesPlainly r.setting.program r.setting.plan s n t → IsReached r → IsReached (stepped_times r p n)
times_reached zero r p s t at g h = h
times_reached (suc n) r p s t at g h =
    times_reached n (stepped r p) p (act r.setting.program r.setting.plan s Go) t (after_one r p s at g.0) g.1 (reached_step r p (plain_can r p s at g.0) h)

pub times_taken : (n : ℕ) (r : Running) (p : ℕ) (s t : Proc) → IsAt r p s → GoesPlainly r.setting.program r.setting.plan s n t → Takes r (replicate n p) (stepped_times r p n)
times_taken n r p s t at g =
    let e : stepped_times r p n ≡ moved r p t n = all_moved n r p s t at g in
    record {
      setting = ap (λ (x : Running). x.setting) e;
      comes = λ h o. times_of n r p s t h at g o;
    }

-- ---- how many

pub goes_few : (program : Program) (plan : Plan) (n : ℕ) (s t : Proc) → s.spent ≤ s.budget → GoesPlainly program plan s n t → n ≤ measure s
goes_few program plan zero s t w g = omega arith
goes_few program plan (suc n) s t w g =
    let falls : measure (act program plan s Go) < measure s = act-falls program plan s Go (λ e. absurd (let plain = g.0 in cc)) w in
    let rest : n ≤ measure (act program plan s Go) = goes_few program plan n (act program plan s Go) t (act-within program plan s Go w).spent g.1 in
    omega arith

-- each count of steps without an entry can rise by that many
pub rests_fit : (r : Running) (p n : ℕ) (t : Proc) → IsReached r → ComesPlainly r p n t → All (λ (l : Logging). l.rest + n < 2 ^ 32) r.loggings
rests_fit r p n t h c =
    let s = reached_sound r h in
    let got = got_map (λ (l : Logging). l.proc) p r.loggings c.before (ap (λ (ps : List Proc). slice_get ps p) s.same ∙ c.there) in
    let own : IsSoundLogging r.setting.program got.0 = every_at (IsSoundLogging r.setting.program) r.loggings p got.0 s.logs got.1 in
    let few : n ≤ measure got.0.proc = goes_few r.setting.program r.setting.plan n got.0.proc t own.proc.spent (subst (λ (x : Proc). GoesPlainly r.setting.program r.setting.plan x n t) (sym got.2) c.goes) in
    let most : got.0.rest + measure got.0.proc ≤ MOST_BUDGET + 1 = own.rest in
    every_all (λ (l : Logging). l.rest + n < 2 ^ 32) r.loggings
    (each_more (IsSoundLogging r.setting.program) (λ (l : Logging). l.rest + n < 2 ^ 32) r.loggings (λ l q. let rest : l.rest + measure l.proc ≤ MOST_BUDGET + 1 = q.rest in omega arith) s.logs)

-- ---- the world from its parts

pub now_moved : (r : Running) (ls : List Logging) (p n : ℕ) (t : Proc) → map (λ l. l.proc) r.loggings ≡ r.world.procs → ls ≡ change (gone_on t n) p r.loggings
    → record r { world = record r.world { procs = map (λ l. l.proc) ls }; loggings = ls } ≡ moved r p t n
now_moved r ls p n t same e =
    ap (λ (x : List Logging). record r { world = record r.world { procs = map (λ l. l.proc) x }; loggings = x }) e
    ∙ ap (λ (ps : List Proc). record r { world = record r.world { procs = ps }; loggings = change (gone_on t n) p r.loggings })
    (map_change (λ l. l.proc) (gone_on t n) (λ (_ : Proc). t) p r.loggings (λ l. refl) ∙ ap (λ (ps : List Proc). change (λ (_ : Proc). t) p ps) same)

module _ (r now : Running) (p n : ℕ) (t : Proc) (h : IsReached r) (c : ComesPlainly r p n t) (e : now ≡ moved r p t n) where
  pub went : now ≡ stepped_times r p n
  went = e ∙ sym (all_moved n r p c.before t (is_at r p c.before h c.there) c.goes)

  pub went_taken : Takes r (replicate n p) now
  went_taken = subst (λ (x : Running). Takes r (replicate n p) x) (sym went) (times_taken n r p c.before t (is_at r p c.before h c.there) c.goes)

  pub went_reached : IsReached now
  went_reached = subst (λ (x : Running). IsReached x) (sym went) (times_reached n r p c.before t (is_at r p c.before h c.there) c.goes h)

-- ---- what was printed before

goes_printed : (program : Program) (plan : Plan) (ps : List ℤ) (n : ℕ) (s t : Proc) → GoesPlainly program plan s n t → GoesPlainly program plan (printed_before ps s) n (printed_before ps t)
goes_printed program plan ps zero s t g = ap (λ (x : Proc). printed_before ps x) g
goes_printed program plan ps (suc n) s t g = (
  same_need program plan ps s ∙ g.0,
  subst (λ (x : Proc). GoesPlainly program plan x n (printed_before ps t)) (sym (same_step program plan ps Go s)) (goes_printed program plan ps n (act program plan s Go) t g.1),
)

-- from the state with what was printed before, by the same steps
pub comes_printed : (r : Running) (p n : ℕ) (after : Proc) → (c : ComesPrinting r p n after) → ComesPlainly r p n (printed_before c.before.prints after)
comes_printed r p n after c = record {
  before = c.before;
  there = c.there;
  goes = subst (λ (x : Proc). GoesPlainly r.setting.program r.setting.plan x n (printed_before c.before.prints after)) (with_own c.before)
      (goes_printed r.setting.program r.setting.plan c.before.prints n (unprinted c.before) after c.goes);
}

-- the process at the changed place is the one that is there
pub own_printed : (r : Running) (p n : ℕ) (after : Proc) → IsReached r → (c : ComesPrinting r p n after)
    → change (gone_on_printing after n) p r.loggings ≡ change (gone_on (printed_before c.before.prints after) n) p r.loggings
own_printed r p n after h c =
    change_at (gone_on_printing after n) (gone_on (printed_before c.before.prints after) n) p r.loggings
    (λ l g. ap (λ (s : Proc). gone_on (printed_before s.prints after) n l) ((is_at r p c.before h c.there).logs l g))
