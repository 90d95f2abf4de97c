-- The parts of a step make the step of the world.
use Rattle.std.proofs.Common.{◌≡◌, ℕ, zero, suc, ℤ, List, [], ◌∷◌, map, length, take, ◌+◌, ◌-◌, ◌<◌, ◌≤◌, ◌++◌, true, false, Option, None, Result, Ok, Err, OnErr, refl, ap, sym, ◌∙◌, subst, arith, inl, inr, length-append}
use Rattle.std.specs.Prelude.{slice_get}
use Rattle.std.specs.List.{AllByRecursion as Each, All}
use Rattle.std.proofs.Math.Seq.{take-append_seam}
use Rattle.std.proofs.lemmas.Bool.{cases_lt, false≢true}
use Rattle.ppd_ast.specs.declared.plan.Plan.{Plan}
use Rattle.ppd_ast.specs.declared.program.Program.{Program}
use Rattle.ppd_sem.specs.declared.proc.Answer.{Answer}
use Rattle.ppd_sem.specs.declared.proc.Need.{Need}
use Rattle.ppd_sem.specs.declared.proc.Need.TheVariants.{Read, Write, P, V, Send, Offer, Done, Recv}
use Rattle.ppd_sem.specs.declared.proc.Proc.{Proc}
use Rattle.ppd_sem.specs.Process.{act}
use Rattle.ppd_model.specs.declared.state.Channel.{Channel}
use Rattle.ppd_model.specs.declared.state.Logging.{Logging}
use Rattle.ppd_model.specs.declared.tracing.Taken.{Taken}
use Rattle.ppd_model.specs.Laws.{logged_moment}
use Rattle.ppd_model.specs.Logs.{log_step}
use Rattle.ppd_model.specs.Schedule.{IsOver}
use Rattle.ppd_model.specs.Story.{Moment, number_of, unit_started}
use Rattle.ppd_model.proofs.WorldWords.{need_at, values_at_start}
use Rattle.ppd_model.specs.World.{World, answer, can, change, effect, enabled, need, step}
use Rattle.ppd_world.specs.Parts.{with_value, finished, need_of_logging, sent, sent_after, unsent, unsent_after, world_of, IsReceivable, without_last}
use Rattle.ppd_model.proofs.Earlier.{each_more}
use Rattle.ppd_model.proofs.Lists.{map_change}
use Rattle.ppd_world_steps.specs.Entries.{moment_with}
use Rattle.ppd_world_steps.specs.Objects.{IsSmallChan}
use Rattle.ppd_world.proofs.Lists.{all_every, change_back, every_all, every_change}

-- the shared state after a step, in its parts
pub effect_is : (w : World) (n : Need) → effect w n ≡ finished (sent w n) n
effect_is w (Write c v) = refl
effect_is w (P s u) = refl
effect_is w (V s u) = refl
effect_is w (Send c v u) = refl
effect_is w (Offer c v) = refl
effect_is w (Done c u) = refl
effect_is w (Recv c u) = refl
effect_is w n = refl

pub answer_is : (s : World) (ls : List Logging) (n : Need) → answer s n ≡ answer (world_of s ls) n
answer_is s ls (Read c) = refl
answer_is s ls (Recv c u) = refl
answer_is s ls n = refl

pub number_is : (s : World) (ls : List Logging) (n : Need) → number_of s n ≡ number_of (world_of s ls) n
number_is w ls (P s u) = refl
number_is w ls (V s u) = refl
number_is w ls (Send c v u) = refl
number_is w ls (Offer c v) = refl
number_is w ls (Done c u) = refl
number_is w ls (Recv c u) = refl
number_is w ls n = refl

pub can_is : (s : World) (ls : List Logging) (n : Need) → can s n ≡ can (world_of s ls) n
can_is w ls (P s u) = refl
can_is w ls (Send c v u) = refl
can_is w ls (Offer c v) = refl
can_is w ls (Done c u) = refl
can_is w ls (Recv c u) = refl
can_is w ls n = refl

pub need_is : (program : Program) (plan : Plan) (ls : List Logging) (i : ℕ) → need_of_logging program plan (slice_get ls i) ≡ need_at program plan (slice_get (map (λ l. l.proc) ls) i)
need_is program plan [] i = refl
need_is program plan (l ∷ ls) zero = refl
need_is program plan (l ∷ ls) (suc i) = need_is program plan ls i

-- a step that writes a shared cell starts no unit
pub unit_is : (plan : Plan) (w : World) (n : Need) → values_at_start plan (effect w n).shared (unit_started n) ≡ values_at_start plan w.shared (unit_started n)
unit_is plan w (Write c v) = refl
unit_is plan w (P s u) = refl
unit_is plan w (V s u) = refl
unit_is plan w (Send c v u) = refl
unit_is plan w (Offer c v) = refl
unit_is plan w (Done c u) = refl
unit_is plan w (Recv c u) = refl
unit_is plan w n = refl

abbrev taken_with : Need → Answer → Option ℕ → Taken
taken_with n a k = record { need = n; answer = a; writer = None; number = k }

same_taken : (n m : Need) (a b : Answer) (k j : Option ℕ) → n ≡ m → a ≡ b → k ≡ j → taken_with n a k ≡ taken_with m b j
same_taken n m a b k j e f g = rw (e, f, g) refl

-- what the parts come to
pub record IsStep (program : Program) (plan : Plan) (w now : World) (ls new : List Logging) (p : ℕ) : Type 0 where
  pub world : now ≡ step program plan w p
  pub logs : new ≡ change (λ l. log_step program plan l (logged_moment program plan w p)) p ls

module _ (program : Program) (plan : Plan) (s : World) (ls : List Logging) (p : ℕ) where
  abbrev w : World
  w = world_of s ls

  abbrev m : Need
  m = need program plan w p

  abbrev stepping : Taken
  stepping = taken_with m (answer w m) (number_of w m)

  moment_is : moment_with plan s.shared stepping ≡ logged_moment program plan w p
  moment_is = ap (λ vs. record { taken = stepping; unit_values = vs }) (sym (unit_is plan w m))

  procs_are : (x : Moment) → map (λ l. l.proc) (change (λ l. log_step program plan l x) p ls) ≡ change (λ q. act program plan q x.taken.answer) p (map (λ l. l.proc) ls)
  procs_are x = map_change (λ l. l.proc) (λ l. log_step program plan l x) (λ q. act program plan q x.taken.answer) p ls (λ l. refl)

  parted_step : step program plan w p ≡ record (finished (sent w m) m) { procs = change (λ q. act program plan q (answer w m)) p w.procs }
  parted_step = ap (λ (x : World). record x { procs = change (λ q. act program plan q (answer w m)) p w.procs }) (effect_is w m)

  pub step_is : (t : Taken) (after now : World) (new : List Logging)
      → t ≡ (logged_moment program plan w p).taken → after ≡ sent s t.need → now ≡ finished after t.need
      → new ≡ change (λ l. log_step program plan l (moment_with plan s.shared t)) p ls
      → IsStep program plan w (world_of now new) ls new p
  step_is t after now new t_is after_is now_is new_is =
      let nm : t.need ≡ m = ap (λ (x : Taken). x.need) t_is in
      let x_is : moment_with plan s.shared t ≡ logged_moment program plan w p = ap (λ (x : Taken). moment_with plan s.shared x) t_is ∙ moment_is in
      let logs : new ≡ change (λ l. log_step program plan l (logged_moment program plan w p)) p ls =
      new_is ∙ ap (λ (x : Moment). change (λ l. log_step program plan l x) p ls) x_is in
      let procs : map (λ l. l.proc) new ≡ change (λ q. act program plan q (answer w m)) p (map (λ l. l.proc) ls) =
      ap (λ (l : List Logging). map (λ x. x.proc) l) logs ∙ procs_are (logged_moment program plan w p) in
      let state : now ≡ finished (sent s m) m =
      now_is ∙ ap (λ (x : World). finished x t.need) after_is ∙ ap (λ (n : Need). finished (sent s n) n) nm in
      record {
        world = ap (λ (x : World). world_of x new) state ∙ ap (λ (ps : List Proc). record (finished (sent s m) m) { procs = ps }) procs ∙ sym parted_step;
        logs = logs;
      }

-- the next step in the parts of the world
pub next_is : (program : Program) (plan : Plan) (s : World) (ls : List Logging) (p : ℕ) (n : Need) (a : Answer) (k : Option ℕ)
    → n ≡ need_of_logging program plan (slice_get ls p) → a ≡ answer s n → k ≡ number_of s n
    → taken_with n a k ≡ (logged_moment program plan (world_of s ls) p).taken
next_is program plan s ls p n a k n_is a_is k_is =
    let w : World = world_of s ls in
    let m : Need = need program plan w p in
    let nm : n ≡ m = n_is ∙ need_is program plan ls p in
    let am : a ≡ answer w m = a_is ∙ answer_is s ls n ∙ ap (λ (x : Need). answer w x) nm in
    let km : k ≡ number_of w m = k_is ∙ number_is s ls n ∙ ap (λ (x : Need). number_of w x) nm in
    same_taken n m a (answer w m) k (number_of w m) nm am km

-- an enabled process, in the parts of the world
pub enabled_is : (program : Program) (plan : Plan) (s : World) (ls : List Logging) (p : ℕ) (n : Need) → n ≡ need_of_logging program plan (slice_get ls p)
    → can s n ≡ enabled program plan (world_of s ls) p
enabled_is program plan s ls p n e = can_is s ls n ∙ ap (λ (x : Need). can (world_of s ls) x) (e ∙ need_is program plan ls p)

-- what was sent is taken back
without_with : (v : ℤ) (x : Channel) → without_last (with_value v x) ≡ x
without_with v x =
    let count : length (x.sent ++ v ∷ []) - 1 ≡ length x.sent = omega (arith, length-append x.sent (v ∷ [])) in
    let same : take (length (x.sent ++ v ∷ []) - 1) (x.sent ++ v ∷ []) ≡ x.sent = ap (λ n. take n (x.sent ++ v ∷ [])) count ∙ take-append_seam x.sent (v ∷ []) in
    ap (λ vs. record x { sent = vs }) same

pub unsent_is : (chans : List Channel) (n : Need) → unsent_after (sent_after chans n) n ≡ chans
unsent_is chans (Send c v u) = change_back (with_value v) without_last c chans (λ x. without_with v x)
unsent_is chans (Offer c v) = change_back (with_value v) without_last c chans (λ x. without_with v x)
unsent_is chans n = refl

pub taken_back : (s : World) (n : Need) → unsent (sent s n) n ≡ s
taken_back s n = ap (λ (cs : List Channel). record s { chans = cs }) (unsent_is s.chans n)

pub if_refused : {T E Held : Type 0} (r : Result T E) → Held → OnErr r Held
if_refused (Ok x) p = tt
if_refused (Err e) p = p

-- ---- nobody is enabled

past : (program : Program) (plan : Plan) (w : World) (ls : List Logging) (q : ℕ) → length ls ≤ q → can w (need_at program plan (slice_get (map (λ l. l.proc) ls) q)) ≡ false
past program plan w [] q h = refl
past program plan w (l ∷ ls) zero h = absurd (omega arith)
past program plan w (l ∷ ls) (suc q) h = past program plan w ls q (omega arith)

pub all_over : (program : Program) (plan : Plan) (s : World) (ls : List Logging) → ((q : ℕ) → q < length ls → enabled program plan (world_of s ls) q ≡ false) → IsOver program plan (world_of s ls)
all_over program plan s ls h = record {
  nobody = λ q. elim (cases_lt q (length ls)) [ inl lt ↦ h q lt | inr le ↦ past program plan (world_of s ls) ls q le ];
}

pub not_over : (program : Program) (plan : Plan) (w : World) (q : ℕ) → enabled program plan w q ≡ true → IsOver program plan w → ⊥
not_over program plan w q e o = false≢true (sym (o.nobody q) ∙ e)

pub still_none : (Held : ℕ → Type 0) (i : ℕ) → ((q : ℕ) → q < i → Held q) → Held i → (q : ℕ) → q < i + 1 → Held q
still_none Held i below here q lt = elim (cases_lt q i) [
  | inl less ↦ below q less
  | inr le ↦ let same : i ≡ q = omega arith in subst Held same here
]

-- what is sent changes no count of receives
receivable : (x : Channel) → IsSmallChan x → IsReceivable x
receivable x h = record { received = h.received; completed = h.completed }

pub receivable_after : (before now : World) (n : Need) → All IsSmallChan before.chans → now ≡ sent before n → All IsReceivable now.chans
receivable_after w now n h e = subst (λ (x : World). All IsReceivable x.chans) (sym e) (every_all IsReceivable (sent_after w.chans n) (by n))
  where
    before : Each IsSmallChan w.chans
    before = all_every IsSmallChan w.chans h

    by : (n : Need) → Each IsReceivable (sent_after w.chans n)
    by (Send c v u) = every_change IsSmallChan IsReceivable (with_value v) c w.chans receivable (λ x is s. record { received = s.received; completed = s.completed }) before
    by (Offer c v) = every_change IsSmallChan IsReceivable (with_value v) c w.chans receivable (λ x is s. record { received = s.received; completed = s.completed }) before
    by n = each_more IsSmallChan IsReceivable w.chans receivable before
