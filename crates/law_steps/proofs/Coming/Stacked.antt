-- The steps of a process are nested, as its blocks are a stack.
use Rattle.std.proofs.Common.{◌≡◌, ℕ, zero, suc, List, [], ◌∷◌, length, Option, Some, None, false, refl, ap, sym, ◌∙◌, subst, arith, true≢false}
use Rattle.std.specs.Prelude.{is_none}
use Rattle.ppd_ast.specs.declared.plan.Plan.{Plan}
use Rattle.ppd_ast.specs.declared.program.Program.{Program}
use Rattle.ppd_ast.specs.declared.status.Status.{Status}
use Rattle.ppd_ast.specs.Valid.{IsValid}
use Rattle.ppd_sem.specs.declared.proc.Need.TheVariants.{Stopped}
use Rattle.ppd_sem.specs.declared.proc.Proc.{Proc}
use Rattle.ppd_sem.specs.Process.{act, need_of}
use Rattle.ppd_sem.proofs.NeedWords.{need_by_status}
use Rattle.ppd_model.specs.Logs.{status_of}
use Rattle.ppd_model.specs.Marks.{Mark, opened, closed}
use Rattle.ppd_model.specs.Story.{Moment, unit_started}
use Rattle.ppd_model.specs.Synchronizations.{Sync, sync_of}
use Rattle.ppd_model.proofs.Statuses.{status_after}
use Rattle.law_steps.specs.OpenBlocks.Run.{IsGiven, IsRun}
use Rattle.law_steps.specs.OpenBlocks.Stack.{IsInOrder, Moves, stack}
use Rattle.law_steps.proofs.OpenBlocks.Stacks.{steps_move}
use Rattle.law_steps.proofs.Vocabulary.Nested.{Goes, HasStopped, IsNested}
use Rattle.law_steps.proofs.Coming.Shapes.{Shape, closes, ends, opens, passes, shape, stops}

-- a process that has stopped needs nothing
pub stopped_needs : (program : Program) (plan : Plan) (s : Proc) → is_none s.status ≡ false
    → need_of program plan s ≡ Stopped
stopped_needs program plan s e = by s.status refl e
  where
    by : (o : Option Status) → s.status ≡ o → is_none o ≡ false → need_of program plan s ≡ Stopped
    by None is e = absurd (true≢false e)
    by (Some x) is e = ap (λ o. need_by_status program plan o s) is

-- so no step of it is told
pub stopped_run : (program : Program) (plan : Plan) (s : Proc) (ms : List Moment) → is_none s.status ≡ false
    → IsRun program plan s ms → HasStopped s ms
stopped_run program plan s [] e run = e
stopped_run program plan s (m ∷ ms) e run =
    subst (λ n. IsGiven n m.taken.answer) (run.0 ∙ stopped_needs program plan s e) run.1

-- what a step does to the blocks says how many run after it
goes_by : (A : ℕ → Type 0) (B : Type 0) (sy : Option Sync) (u : Option ℕ) (o c : Option Mark) (s : Option Status)
    (before after : List ℕ) (n : ℕ) → Shape sy u o c s → Moves o c s before after → length before ≡ n
    → ((x : Status) → s ≡ Some x → B) → (s ≡ None → A (length after)) → Goes n o c s A B
goes_by A B sy u (Some m) None None before after n (opens _ e) move count over goes =
    subst A (ap length move ∙ ap suc count) (goes refl)
goes_by A B sy u None (Some m) None before after zero (closes _ e) move count over goes =
    absurd (let no : ⊥ = omega (arith, count, ap length move) in no)
goes_by A B sy u None (Some m) None before after (suc n) (closes _ e) move count over goes =
    let same : length after ≡ n = omega (arith, count, ap length move) in subst A same (goes refl)
goes_by A B sy u None (Some m) (Some x) before after n (ends _ _ e eu) move count over goes =
    (sym count ∙ ap length move, over x refl)
goes_by A B sy u None None (Some x) before after n (stops _ e eu) move count over goes = over x refl
goes_by A B sy u None None None before after n passes move count over goes =
    subst A (sym (ap length move) ∙ count) (goes refl)
goes_by A B sy u (Some a) None (Some s) before after n z move count over goes = elim z [ ]
goes_by A B sy u (Some a) (Some c) s before after n z move count over goes = elim z [ ]

module _ (program : Program) (plan : Plan) (v : IsValid program) (p : ℕ) where
  -- the steps of a running process are nested
  pub nested : (ms : List Moment) (s : Proc) (n : ℕ) → IsInOrder program plan p s → s.status ≡ None
      → IsRun program plan s ms → length (stack program plan p s) ≡ n → IsNested program plan s ms n
  nested [] s n order running run count = ap is_none running
  nested (m ∷ ms) s n order running run count =
      let after : Proc = act program plan s m.taken.answer in
      let status : after.status ≡ status_of m.taken.need =
      status_after program plan m.taken.answer s running ∙ ap status_of (sym run.0) in
      let move : Moves (opened program plan s m.taken.need) (closed program plan s m.taken.need)
      (status_of m.taken.need) (stack program plan p s) (stack program plan p after) =
      subst (λ k. Moves (opened program plan s k) (closed program plan s k) (status_of k) (stack program plan p s)
      (stack program plan p after)) (sym run.0)
      (steps_move.moves program plan p s m.taken.answer v order running) in
      goes_by (IsNested program plan after ms) (HasStopped after ms) (sync_of m.taken) (unit_started m.taken.need)
      (opened program plan s m.taken.need) (closed program plan s m.taken.need) (status_of m.taken.need)
      (stack program plan p s) (stack program plan p after) n
      (shape program plan s m.taken m.taken.need refl) move count
      (λ x e. stopped_run program plan after ms (ap is_none (status ∙ e)) run.3)
      (λ e. nested ms after (length (stack program plan p after))
      (steps_move.stays program plan p s m.taken.answer v order) (status ∙ e) run.3 refl)
