-- In a schedule of a valid program each synchronization has a number.
use Rattle.ppd_model.specs.Setting.{setting_of}
use Rattle.std.proofs.Common.{◌≡◌, ℕ, zero, suc, ◌+◌, ◌<◌, List, [], ◌∷◌, ◌++◌, Option, Some, None, refl, sym, subst, arith, length, map, get_or}
use Rattle.std.specs.Prelude.{fold, slice_get, ⊤}
use Rattle.std.proofs.lemmas.Option.{none-some}
use Rattle.ppd_ast.specs.Valid.{IsValid}
use Rattle.ppd_ast.specs.declared.plan.Plan.{Plan}
use Rattle.ppd_ast.specs.declared.program.Program.{Program}
use Rattle.ppd_ast.specs.declared.status.SyncKind.{SyncKind}
use Rattle.ppd_ast.specs.declared.status.SyncKind.TheVariants.{P, V, Send, Recv, Done}
use Rattle.ppd_sem.specs.declared.proc.Need.{Need}
use Rattle.ppd_sem.specs.declared.proc.Need.TheVariants as n
use Rattle.ppd_sem.specs.declared.proc.Proc.{Proc}
use Rattle.ppd_sem.specs.Laws.{NamesThere}
use Rattle.ppd_sem.proofs.Lawful.{named}
use Rattle.ppd_model.specs.Laws.{begins}
use Rattle.ppd_model.specs.Prefixes.{Good, Sizes}
use Rattle.ppd_model.specs.Schedule.{started_world}
use Rattle.ppd_model.specs.Story.{Taken, Telling, moment_of, number_of, steps_of, story, tell}
use Rattle.ppd_model.proofs.WorldWords.{need_at, number_after, taken_of}
use Rattle.ppd_model.specs.Synchronizations.{kind_of_sync, numbered, sync_of}
use Rattle.ppd_model.specs.World.{Channel, Counts, change, need}
use Rattle.ppd_model.proofs.Prefixes.{good_next, good_start}
use Rattle.ppd_model.proofs.Stories.{steps-change}

-- what is no synchronization by its number is none by its need
abbrev pub IsNumbered : Taken → Type 0
IsNumbered x = sync_of x ≡ None → kind_of_sync x.need ≡ None

abbrev pub AreNumbered : List Taken → Type 0
AreNumbered [] = ⊤
AreNumbered (x ∷ xs) = IsNumbered x × AreNumbered xs

-- the next number of an object that is there
next_there : {A : Type 0} (count : A → ℕ) (xs : List A) (o : ℕ) → o < length xs → number_after count (slice_get xs o) ≡ None → ⊥
next_there count [] o lt e = omega (arith, lt)
next_there count (x ∷ xs) zero lt e = none-some (count x + 1) (sym e)
next_there count (x ∷ xs) (suc o) lt e = next_there count xs o (omega (arith, lt)) e

-- a kind and a number make a synchronization
made : (k : SyncKind × ℕ) (number : Option ℕ) → (number ≡ None → ⊥) → numbered (Some k) number ≡ None → ⊥
made k None some e = some refl
made k (Some number) some e = none-some (record { kind = k.0; object = k.1; number = number }) (sym e)

module _ (program : Program) (plan : Plan) (v : IsValid program) where
  by_need : (t : Telling) → Sizes program t → (need : Need) → NamesThere program need → IsNumbered (taken_of t need)
  by_need t sizes (n.P s u) there e = absurd (made (P, s) (number_of t.world (n.P s u)) (next_there (λ (x : Counts). x.taken) t.world.sems s (omega (arith, there, sizes.sems))) e)
  by_need t sizes (n.V s u) there e = absurd (made (V, s) (number_of t.world (n.V s u)) (next_there (λ (x : Counts). x.given) t.world.sems s (omega (arith, there, sizes.sems))) e)
  by_need t sizes (n.Send c x u) there e = absurd (made (Send, c) (number_of t.world (n.Send c x u)) (next_there (λ (x : Channel). length x.sent) t.world.chans c (omega (arith, there, sizes.chans))) e)
  by_need t sizes (n.Offer c x) there e = absurd (made (Send, c) (number_of t.world (n.Offer c x)) (next_there (λ (x : Channel). length x.sent) t.world.chans c (omega (arith, there, sizes.chans))) e)
  by_need t sizes (n.Done c u) there e = absurd (made (Done, c) (number_of t.world (n.Done c u)) (next_there (λ (x : Channel). x.completed) t.world.chans c (omega (arith, there, sizes.chans))) e)
  by_need t sizes (n.Recv c u) there e = absurd (made (Recv, c) (number_of t.world (n.Recv c u)) (next_there (λ (x : Channel). x.received) t.world.chans c (omega (arith, there, sizes.chans))) e)
  by_need t sizes need there e = refl

  there_at : (o : Option Proc) → NamesThere program (need_at program plan o)
  there_at None = tt
  there_at (Some s) = named program plan s v

  -- the next step of each process is numbered
  pub next_numbered : (t : Telling) (p : ℕ) → Sizes program t → IsNumbered (moment_of program plan t p).taken
  next_numbered t p sizes = by_need t sizes (need program plan t.world p) (there_at (slice_get t.world.procs p))

  numbered-append : (xs : List Taken) (x : Taken) → AreNumbered xs → IsNumbered x → AreNumbered (xs ++ x ∷ [])
  numbered-append [] x all one = (one, tt)
  numbered-append (y ∷ ys) x all one = (all.0, numbered-append ys x all.1 one)

  AllNumbered : List (List Taken) → Type 0
  AllNumbered [] = ⊤
  AllNumbered (xs ∷ rest) = AreNumbered xs × AllNumbered rest

  all-change : (x : Taken) (p : ℕ) (steps : List (List Taken)) → AllNumbered steps → IsNumbered x → AllNumbered (change (λ xs. xs ++ x ∷ []) p steps)
  unfolding AllNumbered
  all-change x p [] all one = tt
  all-change x zero (xs ∷ rest) all one = (numbered-append xs x all.0 one, all.1)
  all-change x (suc p) (xs ∷ rest) all one = (all.0, all-change x p rest all.1 one)

  all_begun : (procs : List Proc) → AllNumbered (map steps_of (map (λ _. []) procs))
  unfolding AllNumbered
  all_begun [] = tt
  all_begun (s ∷ ss) = (tt, all_begun ss)

  all_fold : (budget : ℕ) (t : Telling) (h : List ℕ) → Good (setting_of program plan budget) t → AllNumbered (map steps_of t.moments) → AllNumbered (map steps_of (fold (tell program plan) t h).moments)
  all_fold budget t [] good all = all
  all_fold budget t (p ∷ h) good all =
      all_fold budget (tell program plan t p) h (good_next (setting_of program plan budget) t p good)
      (subst (λ xs. AllNumbered xs) (sym (steps-change (moment_of program plan t p) p t.moments))
      (all-change (moment_of program plan t p).taken p (map steps_of t.moments) all (next_numbered t p good.sizes)))

  at : (p : ℕ) (steps : List (List Taken)) → AllNumbered steps → AreNumbered (get_or steps p [])
  unfolding AllNumbered
  at p [] all = tt
  at zero (xs ∷ rest) all = all.0
  at (suc p) (xs ∷ rest) all = at p rest all.1

  pub steps_numbered : (budget : ℕ) (h : List ℕ) (p : ℕ) → AreNumbered (get_or (story (setting_of program plan budget) h).steps p [])
  steps_numbered budget h p =
      at p (story (setting_of program plan budget) h).steps
      (all_fold budget (begins (setting_of program plan budget)) h (good_start (setting_of program plan budget)) (all_begun (started_world (setting_of program plan budget)).procs))
