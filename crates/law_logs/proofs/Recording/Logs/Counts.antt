-- The counts of synchronizations stay far below 32 bits.
use Rattle.ppd_model.specs.Setting.{Setting}
use Rattle.std.proofs.Common.{◌≡◌, ℕ, zero, suc, ◌+◌, ◌<◌, ◌≤◌, ◌^◌, List, [], ◌∷◌, ◌++◌, Option, Some, None, refl, length, map, arith, length-append}
use Rattle.std.specs.Prelude.{option_map, slice_get}
use Rattle.std.specs.List as L
use Rattle.ppd_ast.specs.Valid.{IsName, IsValid}
use Rattle.ppd_ast.specs.declared.limits.TheConstants.{MOST_START}
use Rattle.ppd_ast.specs.declared.plan.Plan.{Plan}
use Rattle.ppd_ast.specs.declared.program.Chan.{Chan}
use Rattle.ppd_ast.specs.declared.program.Program.{Program}
use Rattle.ppd_ast.specs.declared.program.Sem.{Sem}
use Rattle.ppd_sem.specs.declared.proc.Need.{Need}
use Rattle.ppd_sem.specs.declared.proc.Need.TheVariants as n
use Rattle.ppd_model.specs.declared.state.Channel.{Channel}
use Rattle.ppd_model.specs.declared.state.Counts.{Counts}
use Rattle.ppd_model.specs.Schedule.{started_world}
use Rattle.ppd_model.specs.Story.{number_of}
use Rattle.ppd_model.specs.World.{World, change, effect, need, step}
use Rattle.law_logs.proofs.Recording.Fit.{All, SomeFits, all_at, all_more}

-- no count is more than m
abbrev SemBelow : ℕ → Counts → Type 0
SemBelow m x = (x.given ≤ m) × (x.taken ≤ m)

abbrev ChanBelow : ℕ → Channel → Type 0
ChanBelow m x = (length x.sent ≤ m) × (x.received ≤ m) × (x.completed ≤ m)

pub record AreBelow (m : ℕ) (w : World) : Type 0 where
  pub sems : All (SemBelow m) w.sems
  pub chans : All (ChanBelow m) w.chans

sem_more : (m : ℕ) (x : Counts) → SemBelow m x → SemBelow (m + 1) x
sem_more m x h = (omega (arith, h.0), omega (arith, h.1))

chan_more : (m : ℕ) (x : Channel) → ChanBelow m x → ChanBelow (m + 1) x
chan_more m x h = (omega (arith, h.0), omega (arith, h.1), omega (arith, h.2))

-- one more is sent
one_sent : (m : ℕ) (v : _) (x : Channel) → ChanBelow m x → ChanBelow (m + 1) (record x { sent = x.sent ++ v ∷ [] })
one_sent m v x h = let e : length (x.sent ++ v ∷ []) ≡ length x.sent + 1 = length-append x.sent (v ∷ []) in (omega (arith, e, h.0), omega (arith, h.1), omega (arith, h.2))

-- one changes by one more, and the others are as they were
changed : {A : Type 0} (P Q : A → Type 0) (f : A → A) (k : ℕ) (xs : List A) → ((x : A) → P x → Q x) → ((x : A) → P x → Q (f x)) → All P xs → All Q (change f k xs)
changed P Q f k [] more one h = tt
changed P Q f zero (x ∷ xs) more one h = (one x h.0, all_more P Q xs more h.1)
changed P Q f (suc k) (x ∷ xs) more one h = (more x h.0, changed P Q f k xs more one h.1)

module _ (m : ℕ) (w : World) (h : AreBelow m w) where
  all_sems : All (SemBelow (m + 1)) w.sems
  all_sems = all_more (SemBelow m) (SemBelow (m + 1)) w.sems (sem_more m) h.sems

  all_chans : All (ChanBelow (m + 1)) w.chans
  all_chans = all_more (ChanBelow m) (ChanBelow (m + 1)) w.chans (chan_more m) h.chans

  effect_below : (need : Need) → AreBelow (m + 1) (effect w need)
  effect_below (n.P o u) = record { sems = changed (SemBelow m) (SemBelow (m + 1)) _ o w.sems (sem_more m) (λ x k. (omega (arith, k.0), omega (arith, k.1))) h.sems; chans = all_chans }
  effect_below (n.V o u) = record { sems = changed (SemBelow m) (SemBelow (m + 1)) _ o w.sems (sem_more m) (λ x k. (omega (arith, k.0), omega (arith, k.1))) h.sems; chans = all_chans }
  effect_below (n.Send c v u) = record { sems = all_sems; chans = changed (ChanBelow m) (ChanBelow (m + 1)) _ c w.chans (chan_more m) (one_sent m v) h.chans }
  effect_below (n.Offer c v) = record { sems = all_sems; chans = changed (ChanBelow m) (ChanBelow (m + 1)) _ c w.chans (chan_more m) (one_sent m v) h.chans }
  effect_below (n.Done c u) = record { sems = all_sems; chans = changed (ChanBelow m) (ChanBelow (m + 1)) _ c w.chans (chan_more m) (λ x k. (omega (arith, k.0), omega (arith, k.1), omega (arith, k.2))) h.chans }
  effect_below (n.Recv c u) = record { sems = all_sems; chans = changed (ChanBelow m) (ChanBelow (m + 1)) _ c w.chans (chan_more m) (λ x k. (omega (arith, k.0), omega (arith, k.1), omega (arith, k.2))) h.chans }
  effect_below (n.Write c v) = record { sems = all_sems; chans = all_chans }
  effect_below need = record { sems = all_sems; chans = all_chans }

  pub step_below : (program : Program) (plan : Plan) (p : ℕ) → AreBelow (m + 1) (step program plan w p)
  step_below program plan p = let e : AreBelow (m + 1) (effect w (need program plan w p)) = effect_below (need program plan w p) in record { sems = e.sems; chans = e.chans }

  -- ---- the number of a step

  abbrev IsNumber : ℕ → Type 0
  IsNumber j = (1 ≤ j) × (j < 2 ^ 32)

  numbered : {A : Type 0} (P : A → Type 0) (count : A → ℕ) (xs : List A) (k : ℕ) → m < 2 ^ 31 → ((x : A) → P x → count x ≤ m) → All P xs → SomeFits IsNumber (option_map (λ y. count y + 1) (slice_get xs k))
  numbered P count xs k small le all = by (slice_get xs k) refl
    where
      by : (o : Option _) → slice_get xs k ≡ o → SomeFits IsNumber (option_map (λ y. count y + 1) o)
      by None e = tt
      by (Some x) e = let l : count x ≤ m = le x (all_at P xs k x all e) in (omega arith, omega (arith, l, small))

  pub number_below : (need : Need) → m < 2 ^ 31 → SomeFits IsNumber (number_of w need)
  number_below (n.P o u) s = numbered (SemBelow m) (λ x. x.taken) w.sems o s (λ x k. k.1) h.sems
  number_below (n.V o u) s = numbered (SemBelow m) (λ x. x.given) w.sems o s (λ x k. k.0) h.sems
  number_below (n.Send c v u) s = numbered (ChanBelow m) (λ x. length x.sent) w.chans c s (λ x k. k.0) h.chans
  number_below (n.Offer c v) s = numbered (ChanBelow m) (λ x. length x.sent) w.chans c s (λ x k. k.0) h.chans
  number_below (n.Done c u) s = numbered (ChanBelow m) (λ x. x.completed) w.chans c s (λ x k. k.2) h.chans
  number_below (n.Recv c u) s = numbered (ChanBelow m) (λ x. x.received) w.chans c s (λ x k. k.1) h.chans
  number_below need s = tt

-- ---- the start

sems_below : (ss : List Sem) → L.All (λ s. IsName s.name × (s.start ≤ MOST_START)) ss → All (SemBelow MOST_START) (map (λ s. record { given = s.start; taken = 0 }) ss)
sems_below [] h = tt
sems_below (s ∷ ss) h = (((h 0 s (omega arith)).1, omega arith), sems_below ss (λ k d lt. h (suc k) d (omega (arith, lt))))

chans_below : (cs : List Chan) → All (ChanBelow MOST_START) (map (λ c. record { capacity = c.capacity; sent = []; received = 0; completed = 0 }) cs)
chans_below [] = tt
chans_below (c ∷ cs) = ((omega arith, omega arith, omega arith), chans_below cs)

pub started_below : (setting : Setting) → IsValid setting.program → AreBelow MOST_START (started_world setting)
started_below setting v = record { sems = sems_below setting.program.sems v.limits.sems; chans = chans_below setting.program.chans }
