-- An offer is to a channel of capacity 0, and so is each completion of a schedule.
use Rattle.ppd_model.specs.Setting.{Setting}
use Rattle.std.proofs.Common.{◌≡◌, ℕ, zero, suc, ◌+◌, ℤ, Bool, true, false, nat_lt, List, [], ◌∷◌, ◌++◌, length, Option, Some, None, Ok, Err, refl, ap, sym, ◌∙◌, subst, if◌then◌else◌}
use Rattle.std.specs.List.{cons_option}
use Rattle.std.specs.Prelude.{slice_get, ⊤, get_or, filter_map}
use Rattle.std.proofs.lemmas.List.{append_assoc}
use Rattle.std.proofs.lemmas.Option.{none-some}
use Rattle.ppd_ast.specs.declared.plan.BlockKind.TheVariants as block
use Rattle.ppd_ast.specs.declared.plan.Plan.{Plan}
use Rattle.ppd_ast.specs.declared.program.Program.{Program}
use Rattle.ppd_ast.specs.declared.status.Status.{Status}
use Rattle.ppd_ast.specs.declared.status.SyncKind.{SyncKind}
use Rattle.ppd_ast.specs.declared.status.SyncKind.TheVariants.{P, V, Send, Recv, Done}
use Rattle.ppd_ast.specs.declared.limits.TheConstants.{MOST_CALLS}
use Rattle.ppd_sem.specs.declared.asking.Pause.TheVariants.{Wants, Traps}
use Rattle.ppd_sem.specs.declared.proc.Need.{Need}
use Rattle.ppd_sem.specs.declared.proc.Need.TheVariants as need
use Rattle.ppd_sem.specs.declared.proc.Proc.{Proc}
use Rattle.ppd_sem.specs.declared.proc.Todo.{Todo}
use Rattle.ppd_sem.specs.Asked.{Asked}
use Rattle.ppd_sem.specs.Deed.{Deed, set_local, set_shared, clear, branch, turn, leave, invoke, back, take, give, send, receive, print, pass, finish}
use Rattle.ppd_sem.specs.Process.{act, entry_of, head_deed, need_of, need_of_asked, need_of_deed, need_of_leaving, need_of_send, offer_of, started}
use Rattle.ppd_sem.proofs.NeedWords.{need_by_entry, need_by_offer, need_of_running}
use Rattle.ppd_sem.specs.Tables.{block_of, capacity_of}
use Rattle.ppd_sem.proofs.Progress.{need_at_status}
use Rattle.ppd_model.specs.declared.graph.NodeId.{NodeId}
use Rattle.ppd_model.specs.HappenedBefore.{sync_at}
use Rattle.ppd_model.specs.LocalTags.{AreOwn}
use Rattle.ppd_model.specs.Numbers.{sync}
use Rattle.ppd_model.specs.Record.{sync_record}
use Rattle.ppd_model.specs.declared.tracing.Taken.{Taken}
use Rattle.ppd_model.specs.Story.{story}
use Rattle.ppd_model.specs.Synchronizations.{Sync, kind_of_sync, numbered, sync_of}
use Rattle.ppd_model.proofs.LocalTags.{own_steps_told}
use Rattle.ppd_model.proofs.Rendezvous.{completions_offered}
use Rattle.ppd_model.proofs.Accesses.{record_at}

-- ---- an offer

module _ (program : Program) (plan : Plan) where
  abbrev OffersAtNone : Need → Type 0
  OffersAtNone (need.Offer c v) = capacity_of program c ≡ 0
  OffersAtNone n = ⊤

  either : (b : Bool) (x y : Need) → OffersAtNone x → OffersAtNone y → OffersAtNone (if b then x else y)
  either true x y h k = h
  either false x y h k = k

  leaving : (t : ℕ) (o : Option ℕ) → OffersAtNone (need_of_leaving plan t o)
  leaving t None = tt
  leaving t (Some b) = tt

  sending : (t capacity c : ℕ) (x : ℤ) → capacity_of program c ≡ capacity → OffersAtNone (need_of_send plan t capacity c x)
  sending t zero c x e = e
  sending t (suc k) c x e = tt

  of_deed : (t : ℕ) (s : Proc) (d : Deed) → OffersAtNone (need_of_deed program plan t s d)
  of_deed t s (set_local c x) = tt
  of_deed t s (set_shared c x) = tt
  of_deed t s (clear base len) = tt
  of_deed t s (branch ss) = tt
  of_deed t s (turn ss) = tt
  of_deed t s leave = leaving t (block_of plan (block.Loop t))
  of_deed t s (invoke f vs into) = either (nat_lt MOST_CALLS (s.below + length s.frames)) _ _ tt tt
  of_deed t s (back x) = tt
  of_deed t s (take o) = tt
  of_deed t s (give o) = tt
  of_deed t s (send c x) = sending t (capacity_of program c) c x refl
  of_deed t s (receive c into) = tt
  of_deed t s (print x) = tt
  of_deed t s pass = tt
  of_deed t s finish = tt

  of_asked : (t : ℕ) (s : Proc) (r : Asked Deed) → OffersAtNone (need_of_asked program plan t s r)
  of_asked t s (Ok p) = of_deed t s p.0
  of_asked t s (Err (Wants c)) = tt
  of_asked t s (Err (Traps x)) = tt

  of_entry : (t : ℕ) (s : Proc) (o : Option ℕ) (r : Asked Deed) → OffersAtNone (need_by_entry program plan t s o r)
  of_entry t s (Some b) r = tt
  of_entry t s None r = of_asked t s r

  of_offer : (t : ℕ) (o : Option ℕ) (n : Need) → OffersAtNone n → OffersAtNone (need_by_offer plan t o n)
  of_offer t (Some c) n h = tt
  of_offer t None n h = h

  of_running : (ts : List Todo) (s : Proc) → OffersAtNone (need_of_running program plan ts s)
  of_running [] s = tt
  of_running (t ∷ ts) s =
      either (nat_lt s.budget _) need.Budget _ tt (of_offer t.stmt (offer_of program t) _ (of_entry t.stmt s (entry_of program plan t) (head_deed program t s)))

  need_offers : (s : Proc) → OffersAtNone (need_of program plan s)
  need_offers s = by s.status refl
    where
      by : (o : Option Status) → s.status ≡ o → OffersAtNone (need_of program plan s)
      by (Some x) e = subst OffersAtNone (sym (need_at_status program plan s (Some x) e)) tt
      by None e = subst OffersAtNone (sym (need_at_status program plan s None e)) (of_running s.todo s)

  -- each offer among the steps of a process
  own_offer : (s : Proc) (xs : List Taken) (x : Taken) (ys : List Taken) (c : ℕ) (v : ℤ) → AreOwn program plan s (xs ++ x ∷ ys) → x.need ≡ need.Offer c v → capacity_of program c ≡ 0
  own_offer s [] x ys c v own is = subst OffersAtNone (sym own.0 ∙ is) (need_offers s)
  own_offer s (y ∷ xs) x ys c v own is = own_offer (act program plan s y.answer) xs x ys c v own.1 is

-- ---- a completion

-- the step of which this is the synchronization
pub record IsStepOf (steps : List Taken) (s : Sync) : Type 0 where
  pub before : List Taken
  pub step : Taken
  pub after : List Taken
  pub steps_are : steps ≡ before ++ step ∷ after
  pub is : sync_of step ≡ Some s

step_of : (steps : List Taken) (i : ℕ) (s : Sync) → slice_get (filter_map sync_of steps) i ≡ Some s → IsStepOf steps s
step_of [] i s e = absurd (none-some s e)
step_of (x ∷ xs) i s e = by (sync_of x) refl i e (λ j f. step_of xs j s f)
  where
    later : IsStepOf xs s → IsStepOf (x ∷ xs) s
    later r = record { before = x ∷ r.before; step = r.step; after = r.after; steps_are = ap (λ ys. x ∷ ys) r.steps_are; is = r.is }

    by : (o : Option Sync) → sync_of x ≡ o → (i : ℕ) → slice_get (cons_option o (filter_map sync_of xs)) i ≡ Some s
        → ((j : ℕ) → slice_get (filter_map sync_of xs) j ≡ Some s → IsStepOf xs s) → IsStepOf (x ∷ xs) s
    by None is i e rest = later (rest i e)
    by (Some t) is zero e rest = record { before = []; step = x; after = xs; steps_are = refl; is = is ∙ e }
    by (Some t) is (suc i) e rest = later (rest i e)

kind_in : SyncKind → Option Sync → SyncKind
kind_in k None = k
kind_in k (Some s) = s.kind

object_in : Option Sync → ℕ
object_in None = 0
object_in (Some s) = s.object

-- only a completion's step has a completion as its synchronization
completes : (n : Need) (number : Option ℕ) (o k : ℕ) → numbered (kind_of_sync n) number ≡ Some (sync Done o k) → (c u : ℕ) × (n ≡ need.Done c u) × (c ≡ o)
unfolding kind_in object_in
completes (need.Done c u) None o k e = absurd (none-some (sync Done o k) e)
completes (need.Done c u) (Some m) o k e = (c, u, refl, ap object_in e)
completes (need.P c u) None o k e = absurd (none-some (sync Done o k) e)
completes (need.P c u) (Some m) o k e = let no : P ≡ Done = ap (kind_in P) e in absurd (cc)
completes (need.V c u) None o k e = absurd (none-some (sync Done o k) e)
completes (need.V c u) (Some m) o k e = let no : V ≡ Done = ap (kind_in V) e in absurd (cc)
completes (need.Send c v u) None o k e = absurd (none-some (sync Done o k) e)
completes (need.Send c v u) (Some m) o k e = let no : Send ≡ Done = ap (kind_in Send) e in absurd (cc)
completes (need.Offer c v) None o k e = absurd (none-some (sync Done o k) e)
completes (need.Offer c v) (Some m) o k e = let no : Send ≡ Done = ap (kind_in Send) e in absurd (cc)
completes (need.Recv c u) None o k e = absurd (none-some (sync Done o k) e)
completes (need.Recv c u) (Some m) o k e = let no : Recv ≡ Done = ap (kind_in Recv) e in absurd (cc)
completes n number o k e = absurd (none-some (sync Done o k) e)

-- the channel of the offer just before a step
offer_before : (program : Program) (plan : Plan) (s : Proc) (steps before earlier : List Taken) (x y : Taken) (after : List Taken) (c : ℕ) (v : ℤ)
    → AreOwn program plan s steps → steps ≡ before ++ y ∷ after → before ≡ earlier ++ x ∷ [] → x.need ≡ need.Offer c v → capacity_of program c ≡ 0
offer_before program plan s steps before earlier x y after c v own are is offer =
    let all : steps ≡ earlier ++ x ∷ y ∷ after = are ∙ ap (λ ys. ys ++ y ∷ after) is ∙ append_assoc earlier (x ∷ []) (y ∷ after) in
    own_offer program plan s earlier x (y ∷ after) c v (subst (λ ys. AreOwn program plan s ys) all own) offer

module _ (setting : Setting) (h : List ℕ) where
  completes_at_none : (p o k : ℕ) → IsStepOf (get_or (story setting h).steps p []) (sync Done o k) → capacity_of setting.program o ≡ 0
  completes_at_none p o k r =
      let d = completes r.step.need r.step.number o k r.is in
      let offered = completions_offered setting h p r.before r.step r.after d.0 d.1 r.steps_are d.2 in
      subst (λ c. capacity_of setting.program c ≡ 0) d.3
      (offer_before setting.program setting.plan (started setting.program setting.plan p setting.budget) (get_or (story setting h).steps p []) r.before offered.0 offered.1 r.step r.after d.0 offered.3.value
      (own_steps_told setting h p) r.steps_are offered.2 offered.3.offer)

  -- a completion in the record of a schedule is on a channel of capacity 0
  pub completed_at_none : (a : NodeId) (o k : ℕ) → sync_at (sync_record setting h) a ≡ Some (sync Done o k) → capacity_of setting.program o ≡ 0
  completed_at_none a o k e =
      completes_at_none a.process o k
      (step_of (get_or (story setting h).steps a.process []) a.sync (sync Done o k) (ap (λ ss. slice_get ss a.sync) (sym (record_at (story setting h).steps a.process)) ∙ e))
