-- A schedule that can be taken has at most budget + 1 numbers of each process.
use Rattle.ppd_model.specs.Setting.{Setting}
use Rattle.std.proofs.Common.{◌≡◌, ◌≢◌, ℕ, zero, suc, ◌+◌, ◌-◌, ◌*◌, ◌<◌, ◌≤◌, Bool, true, false, nat_eq, cond, List, [], ◌∷◌, length, map, Option, Some, None, refl, ap, sym, subst, ◌∙◌, arith, inl, inr}
use Rattle.std.specs.Prelude.{count_by, slice_get, ⊤}
use Rattle.std.specs.List.{range_with_len}
use Rattle.std.proofs.lemmas.Bool.{cases_eq}
use Rattle.std.proofs.lemmas.Bool.Decides.{nat_tests}
use Rattle.std.proofs.lemmas.List.Sums.{sum_by-append}
use Rattle.std.proofs.lemmas.Option.{none-some}
use Rattle.ppd_ast.specs.declared.plan.Plan.{Plan}
use Rattle.ppd_ast.specs.declared.program.Program.{Program}
use Rattle.ppd_sem.specs.declared.proc.Answer.{Answer}
use Rattle.ppd_sem.specs.declared.proc.Need.{Need}
use Rattle.ppd_sem.specs.declared.proc.Need.TheVariants.{Stopped}
use Rattle.ppd_sem.specs.declared.proc.Proc.{Proc}
use Rattle.ppd_sem.specs.Measure.{measure}
use Rattle.ppd_sem.specs.Process.{act, need_of, started}
use Rattle.ppd_sem.proofs.Progress.{act-falls, act-within, IsWithinBudget}
use Rattle.ppd_model.specs.Bounds.{SchedulesAreBounded, steps_left}
use Rattle.ppd_model.specs.Schedule.{run_from, started_world}
use Rattle.ppd_model.proofs.WorldWords.{need_at, started_procs}
use Rattle.ppd_model.specs.World.{World, answer, can, change, enabled, need, step}
use Rattle.ppd_model.proofs.Changes.{change-else, length-change, some}

-- no process has overspent its budget
abbrev pub ArePaid : List Proc → Type 0
ArePaid [] = ⊤
ArePaid (s ∷ ss) = (s.spent ≤ s.budget) × ArePaid ss

-- how many steps this process can still take at most
abbrev pub left_at : Option Proc → ℕ
left_at None = 0
left_at (Some s) = measure s

pub not_stopped : (w : World) (n : Need) → can w n ≡ true → n ≢ Stopped
not_stopped w n h e = let stops : can w Stopped ≡ true = subst (λ (m : Need). can w m ≡ true) e h in cc

pub paid_change : (program : Program) (plan : Plan) (a : Answer) (p : ℕ) (ss : List Proc) → ArePaid ss → ArePaid (change (λ s. act program plan s a) p ss)
paid_change program plan a p [] h = h
paid_change program plan a zero (s ∷ ss) h =
    let kept : IsWithinBudget s (act program plan s a) = act-within program plan s a h.0 in
    (kept.spent, h.1)
paid_change program plan a (suc p) (s ∷ ss) h = (h.0, paid_change program plan a p ss h.1)

pub left_falls : (program : Program) (plan : Plan) (w : World) (a : Answer) (p : ℕ) (ss : List Proc) → ArePaid ss → can w (need_at program plan (slice_get ss p)) ≡ true
    → left_at (slice_get (change (λ s. act program plan s a) p ss) p) + 1 ≤ left_at (slice_get ss p)
left_falls program plan w a p [] h e = absurd (cc e)
left_falls program plan w a zero (s ∷ ss) h e =
    let falls : measure (act program plan s a) < measure s = act-falls program plan s a (not_stopped w (need_of program plan s) e) h.0 in
    omega arith
left_falls program plan w a (suc p) (s ∷ ss) h e = left_falls program plan w a p ss h.1 e

pub all_falls : (program : Program) (plan : Plan) (w : World) (a : Answer) (p : ℕ) (ss : List Proc) → ArePaid ss → can w (need_at program plan (slice_get ss p)) ≡ true
    → steps_left (change (λ s. act program plan s a) p ss) + 1 ≤ steps_left ss
all_falls program plan w a p [] h e = absurd (cc e)
all_falls program plan w a zero (s ∷ ss) h e =
    let falls : measure (act program plan s a) < measure s = act-falls program plan s a (not_stopped w (need_of program plan s) e) h.0 in
    omega arith
all_falls program plan w a (suc p) (s ∷ ss) h e =
    let rest : steps_left (change (λ s. act program plan s a) p ss) + 1 ≤ steps_left ss = all_falls program plan w a p ss h.1 e in
    omega arith

many-cons : (x y : ℕ) (ys : List ℕ) → count_by (nat_eq x) (y ∷ ys) ≡ cond (nat_eq x y) 1 0 + count_by (nat_eq x) ys
many-cons x y ys =
    let e : count_by (nat_eq x) (y ∷ ys) ≡ (0 + cond (nat_eq x y) 1 0) + count_by (nat_eq x) ys = sum_by-append (λ z. cond (nat_eq x z) 1 0) (y ∷ []) ys in
    omega arith

-- a schedule that can be taken begins with an enabled process
pub record Goes (program : Program) (plan : Plan) (w last : World) (p : ℕ) (h : List ℕ) : Type 0 where
  pub enables : enabled program plan w p ≡ true
  pub rest : run_from program plan (step program plan w p) h ≡ Some last

pub goes : (program : Program) (plan : Plan) (w last : World) (p : ℕ) (h : List ℕ) → run_from program plan w (p ∷ h) ≡ Some last → Goes program plan w last p h
goes program plan w last p h e = by (enabled program plan w p) refl e
  where
    by : (b : Bool) → enabled program plan w p ≡ b → cond b (run_from program plan (step program plan w p) h) None ≡ Some last → Goes program plan w last p h
    by true is e = record { enables = is; rest = e }
    by false is e = absurd (none-some last e)

module _ (program : Program) (plan : Plan) where
  each : (w last : World) (h : List ℕ) (p : ℕ) → ArePaid w.procs → run_from program plan w h ≡ Some last → count_by (nat_eq p) h + left_at (slice_get last.procs p) ≤ left_at (slice_get w.procs p)
  each w last [] p paid e =
      let is : w ≡ last = some e in
      let same : left_at (slice_get w.procs p) ≡ left_at (slice_get last.procs p) = ap (λ (x : World). left_at (slice_get x.procs p)) is in
      omega arith
  each w last (q ∷ h) p paid e =
      let g : Goes program plan w last q h = goes program plan w last q h e in
      let a : Answer = answer w (need program plan w q) in
      let rest : count_by (nat_eq p) h + left_at (slice_get last.procs p) ≤ left_at (slice_get (change (λ s. act program plan s a) q w.procs) p) =
      each (step program plan w q) last h p (paid_change program plan a q w.procs paid) g.rest in
      let one : count_by (nat_eq p) (q ∷ h) ≡ cond (nat_eq p q) 1 0 + count_by (nat_eq p) h = many-cons p q h in
      elim (cases_eq p q) [
        | inl is ↦
            let test : nat_eq p q ≡ true = grind (arith, nat_tests) in
            let counted : cond {A = ℕ} (nat_eq p q) 1 0 ≡ 1 = ap (λ (b : Bool). cond {A = ℕ} b 1 0) test in
            let falls : left_at (slice_get (change (λ s. act program plan s a) q w.procs) q) + 1 ≤ left_at (slice_get w.procs q) = left_falls program plan w a q w.procs paid g.enables in
            let at : left_at (slice_get (change (λ s. act program plan s a) q w.procs) p) + 1 ≤ left_at (slice_get w.procs p) =
            subst (λ (x : ℕ). left_at (slice_get (change (λ s. act program plan s a) q w.procs) x) + 1 ≤ left_at (slice_get w.procs x)) (sym is) falls in
            omega arith
        | inr d ↦
            let test : nat_eq p q ≡ false = grind (arith, nat_tests) in
            let counted : cond {A = ℕ} (nat_eq p q) 1 0 ≡ 0 = ap (λ (b : Bool). cond {A = ℕ} b 1 0) test in
            let same : left_at (slice_get (change (λ s. act program plan s a) q w.procs) p) ≡ left_at (slice_get w.procs p) =
            ap left_at (change-else (λ s. act program plan s a) q p w.procs d) in
            omega arith
      ]

  pub in_all : (w last : World) (h : List ℕ) → ArePaid w.procs → run_from program plan w h ≡ Some last → length h + steps_left last.procs ≤ steps_left w.procs
  in_all w last [] paid e =
      let is : w ≡ last = some e in
      let same : steps_left w.procs ≡ steps_left last.procs = ap (λ (x : World). steps_left x.procs) is in
      omega arith
  in_all w last (q ∷ h) paid e =
      let g : Goes program plan w last q h = goes program plan w last q h e in
      let a : Answer = answer w (need program plan w q) in
      let rest : length h + steps_left last.procs ≤ steps_left (change (λ s. act program plan s a) q w.procs) =
      in_all (step program plan w q) last h (paid_change program plan a q w.procs paid) g.rest in
      let falls : steps_left (change (λ s. act program plan s a) q w.procs) + 1 ≤ steps_left w.procs = all_falls program plan w a q w.procs paid g.enables in
      omega arith

  same_count : (w last : World) (h : List ℕ) → run_from program plan w h ≡ Some last → length last.procs ≡ length w.procs
  same_count w last [] e = ap (λ (x : World). length x.procs) (sym (some e))
  same_count w last (q ∷ h) e =
      let g : Goes program plan w last q h = goes program plan w last q h e in
      same_count (step program plan w q) last h g.rest ∙ length-change (λ s. act program plan s (answer w (need program plan w q))) q w.procs

-- ---- the start

pub started_left : (setting : Setting) (p : ℕ) → measure (started setting.program setting.plan p setting.budget) ≡ setting.budget + 1
started_left setting p = omega arith

pub started_paid : (setting : Setting) (p n : ℕ) → ArePaid (map (λ q. started setting.program setting.plan q setting.budget) (range_with_len p n))
started_paid setting p zero = tt
started_paid setting p (suc n) = (omega arith, started_paid setting (p + 1) n)

started_each : (setting : Setting) (p n i : ℕ) → left_at (slice_get (map (λ q. started setting.program setting.plan q setting.budget) (range_with_len p n)) i) ≤ setting.budget + 1
started_each setting p zero i = omega arith
started_each setting p (suc n) zero = omega (arith, started_left setting p)
started_each setting p (suc n) (suc i) = started_each setting (p + 1) n i

pub started_all : (setting : Setting) (p n : ℕ) → steps_left (map (λ q. started setting.program setting.plan q setting.budget) (range_with_len p n)) ≡ n * (setting.budget + 1)
started_all setting p zero = omega arith
started_all setting p (suc n) =
    let rest : steps_left (map (λ q. started setting.program setting.plan q setting.budget) (range_with_len (p + 1) n)) ≡ n * (setting.budget + 1) = started_all setting (p + 1) n in
    let first : measure (started setting.program setting.plan p setting.budget) ≡ setting.budget + 1 = started_left setting p in
    omega arith

pub started_count : (setting : Setting) (p n : ℕ) → length (map (λ q. started setting.program setting.plan q setting.budget) (range_with_len p n)) ≡ n
started_count setting p zero = refl
started_count setting p (suc n) = ap suc (started_count setting (p + 1) n)

pub bounded : SchedulesAreBounded
bounded setting h w e =
    let n : ℕ = length setting.program.bodies - setting.program.functions in
    let paid : ArePaid (started_procs setting n) = started_paid setting 0 n in
    let few : length h + steps_left w.procs ≤ steps_left (started_procs setting n) = in_all setting.program setting.plan (started_world setting) w h paid e in
    let all : steps_left (started_procs setting n) ≡ n * (setting.budget + 1) = started_all setting 0 n in
    let count : length w.procs ≡ n = same_count setting.program setting.plan (started_world setting) w h e ∙ started_count setting 0 n in
    record {
      each = λ p.
          let at : count_by (nat_eq p) h + left_at (slice_get w.procs p) ≤ left_at (slice_get (started_procs setting n) p) = each setting.program setting.plan (started_world setting) w h p paid e in
          let most : left_at (slice_get (started_procs setting n) p) ≤ setting.budget + 1 = started_each setting 0 n p in
          omega arith;
      all = let within : length h ≤ n * (setting.budget + 1) = omega arith in subst (λ (m : ℕ). length h ≤ m * (setting.budget + 1)) (sym count) within;
    }
