-- What is seen by replays of a whole run without a race is what its processes are in their intervals.
use Rattle.ppd_flow_past.specs.PastSetting.{past_setting}
use Rattle.ppd_model.specs.Setting.{Setting, setting_of}
use Rattle.std.proofs.Common.{◌≡◌, ℕ, zero, suc, ◌+◌, List, [], ◌∷◌, Option, Some, None, Result, Ok, Err, refl, ap, sym, ◌∙◌, subst, get_or, map}
use Rattle.std.specs.Prelude.{ℤ, option_map, slice_get, ok_or}
use Rattle.ppd_ast.specs.Valid.{IsValid}
use Rattle.ppd_ast.specs.declared.plan.Plan.{Plan}
use Rattle.ppd_ast.specs.declared.plan.Policy.{Policy}
use Rattle.ppd_ast.specs.declared.program.Program.{Program}
use Rattle.ppd_model.specs.declared.entry.At.{At}
use Rattle.ppd_model.specs.declared.entry.Entry.{Entry}
use Rattle.ppd_model.specs.declared.entry.Logs.{Logs}
use Rattle.ppd_model.specs.declared.flow.FlowEdge.{FlowEdge}
use Rattle.ppd_model.specs.declared.flow.Origin.{Origin}
use Rattle.ppd_model.specs.declared.tracing.Story.{Story}
use Rattle.ppd_model.specs.FlowbackEdges.{edges, last}
use Rattle.ppd_model.specs.Intervals.{Split, split_of, splits}
use Rattle.ppd_model.proofs.IntervalWords.{splits_from}
use Rattle.ppd_model.specs.Logs.{closed_log, closed_logs}
use Rattle.ppd_model.proofs.LogWords.{logs_from}
use Rattle.ppd_model.specs.Races.{races}
use Rattle.ppd_model.specs.Schedule.{IsWhole}
use Rattle.ppd_model.specs.Story.{Moment, steps_of, story, told}
use Rattle.law_flow.specs.Loops.AllOwnParts.{AllOwnPartsAreFound}
use Rattle.ppd_model.specs.declared.flow_error.FlowError.{FlowError}
use Rattle.ppd_model.specs.declared.flow_error.FlowError.TheVariants.{Diverged, NoEvent, Sets, Memory}
use Rattle.ppd_flow_past.specs.declared.past.Past.{Past}
use Rattle.ppd_flow_past.specs.ByReplays.{IsFoundBy, failure_or, first_failed_in}
use Rattle.ppd_flow_past.specs.Honest.{IsSeen, ReplaysAreSeen}
use Rattle.ppd_flow_past.specs.SeenBy.{failed_at, failed_in, seen_by}
use Rattle.ppd_graph.specs.Found.{found_edges}
use Rattle.ppd_graph.specs.Seen.{Seen, seen_of}
use Rattle.ppd_graph.specs.Shared.{Missing, found_last}
use Rattle.law_flow.specs.Edges.Assembled.{EdgesAreFound, HasOwnParts}
use Rattle.law_flow.specs.Edges.SharedEdges.{LastWritesAreFound, all_seen}
use Rattle.ppd_flow_shared.specs.SharedCells.{IsMemoryOr, answer_of, seens_in}
use Rattle.ppd_flow.specs.Answers.{IsEdges, answer_if}
use Rattle.ppd_flow.specs.Runs.{AnswersAreOfRuns, GivesEdges, GivesLast, IsOfRun, splits_in, story_in}

-- ---- processes one after another

module _ (setting : Setting) (s : Story) where
  abbrev pub rows : ℕ → List (List Moment) → List (List Entry)
  rows k ms = map closed_log (logs_from setting k ms)

  abbrev pub parts : ℕ → List (List Moment) → List Split
  parts k ms = splits_from setting s k (map (λ m. steps_of m) ms)

  all_from : (f : List Entry → Seen) (k : ℕ) (ms : List (List Moment))
      → ((p : ℕ) (x : Split) → slice_get (parts k ms) p ≡ Some x → f (get_or (rows k ms) p []) ≡ seen_of x)
      → map f (rows k ms) ≡ map (λ x. seen_of x) (parts k ms)
  all_from f k [] h = refl
  all_from f k (m ∷ ms) h =
      let rest : map f (rows (k + 1) ms) ≡ map (λ x. seen_of x) (parts (k + 1) ms) = all_from f (k + 1) ms (λ p x e. h (suc p) x e) in
      ap (λ (y : Seen). y ∷ map f (rows (k + 1) ms)) (h 0 (split_of setting s k (steps_of m)) refl)
      ∙ ap (λ (ys : List Seen). seen_of (split_of setting s k (steps_of m)) ∷ ys) rest

  -- what holds of no log and no process, and of the log of each process, holds of the log at each number
  pub at_each_log : (P : List Entry → Option Split → Type 0) → P [] None → (k : ℕ) (ms : List (List Moment))
      → ((p : ℕ) (x : Split) → slice_get (parts k ms) p ≡ Some x → P (get_or (rows k ms) p []) (Some x))
      → (p : ℕ) → P (get_or (rows k ms) p []) (slice_get (parts k ms) p)
  at_each_log P none k [] h p = none
  at_each_log P none k (m ∷ ms) h zero = h 0 (split_of setting s k (steps_of m)) refl
  at_each_log P none k (m ∷ ms) h (suc p) = at_each_log P none (k + 1) ms (λ q x e. h (suc q) x e) p

-- ---- a past of a run

module _ (law : ReplaysAreSeen) (past : Past) (policy : Policy) (h : List ℕ) (v : IsValid past.program.now) (r : IsOfRun past policy h) where
  abbrev program : Program
  program = past.program.now

  abbrev plan : Plan
  plan = past.plan.now

  abbrev budget : ℕ
  budget = past.budget

  abbrev Gives : Plan → Type 0
  Gives pl = IsWhole (setting_of program pl budget) h → races (setting_of program pl budget) h ≡ []
      → (p : ℕ) (x : Split) → slice_get (splits (setting_of program pl budget) (story (setting_of program pl budget) h)) p ≡ Some x
      → IsSeen (setting_of program pl budget) (get_or (closed_logs (setting_of program pl budget) h).lists p []) x

  pub is_seen : (p : ℕ) (x : Split) → slice_get (splits_in past h) p ≡ Some x → IsSeen (setting_of program plan budget) (get_or (closed_logs (setting_of program plan budget) h).lists p []) x
  is_seen = subst (λ pl. Gives pl) (sym r.plan_is) (λ whole free p x e. law program policy budget h p x v whole free e) r.whole r.no_race

  pub seens_are : seens_in past ≡ all_seen (setting_of program plan budget) h
  seens_are =
      ap (λ (logs : Logs). map (λ entries. seen_by (setting_of program plan budget) entries) logs.lists) r.cut_are
      ∙ all_from (setting_of program plan budget) (story_in past h) (λ entries. seen_by (setting_of program plan budget) entries) 0 (told (setting_of program plan budget) h).moments (λ p x e. (is_seen p x e).seen)

  never : (p k : ℕ) → failed_in past p k ≡ None
  never p k =
      ap (λ (logs : Logs). failed_at (setting_of program plan budget) (get_or logs.lists p []) k) r.cut_are
      ∙ at_each_log (setting_of program plan budget) (story_in past h) (λ es x. failed_at (setting_of program plan budget) es k ≡ None) refl 0
      (told (setting_of program plan budget) h).moments (λ q x e. (is_seen q x e).never_fails k) p

  no_failure : (ms : List (ℕ × ℕ)) → first_failed_in past ms ≡ None
  no_failure [] = refl
  no_failure (m ∷ ms) = ap (λ o. failure_or m.0 o (first_failed_in past ms)) (never m.0 m.1) ∙ no_failure ms

  -- the answer is the one that is found, or want of memory
  pub answered : {A : Type 0} (ms : List (ℕ × ℕ)) (a b : Result A FlowError) (n m : ℕ) (res : Result A FlowError) → a ≡ b
      → IsFoundBy past ms a n m res → IsMemoryOr b res
  answered ms a b n m (Ok x) e f = sym f.1 ∙ e
  answered ms a b n m (Err NoEvent) e f = sym f.1 ∙ e
  answered ms a b n m (Err (Sets p k c)) e f = sym f.1 ∙ e
  answered ms a b n m (Err (Diverged p k)) e f = absurd (clash (no_failure ms) f)
    where
      clash : {o : Option At} {t : At} → o ≡ None → o ≡ Some t → ⊥
      clash a b = cc (a, b)
  answered ms a b n m (Err Memory) e f = tt

if_there : (o : Option (List FlowEdge)) → answer_if (option_map (λ es. Ok es) o) ≡ ok_or o NoEvent
if_there None = refl
if_there (Some es) = refl

pub gives_last : ReplaysAreSeen → LastWritesAreFound → (past : Past) (c n m : ℕ) (ms : List (ℕ × ℕ)) (res : Result (ℤ × Origin) FlowError) → IsValid past.program.now
    → IsFoundBy past ms (answer_of (found_last past.program.now past.logs.now (seens_in past) c).found) n m res → GivesLast past c res
gives_last law found past c n m ms res v f policy h r lt =
    let logs : (found_last past.program.now past.logs.now (seens_in past) c).found ≡ (found_last past.program.now (closed_logs (past_setting past) h) (all_seen (past_setting past) h) c).found =
    ap (λ (l : Logs). (found_last past.program.now l (seens_in past) c).found) r.logs_are
    ∙ ap (λ (xs : List Seen). (found_last past.program.now (closed_logs (past_setting past) h) xs c).found) (seens_are law past policy h v r) in
    let is = found (past_setting past) h r.whole.last v r.whole.runs r.no_race c lt in
    answered law past policy h v r ms (answer_of (found_last past.program.now past.logs.now (seens_in past) c).found)
    (Ok (last (past_setting past) (story_in past h) c)) n m res
    (ap (λ (z : Result (ℤ × Origin) Missing). answer_of z) (logs ∙ is)) f

pub answers_of_runs : ReplaysAreSeen → EdgesAreFound → AnswersAreOfRuns
answers_of_runs law found past policy h p k j before after x res v r f at own =
    let logs : (found_edges past.program.now past.plan.now past.logs.now (seens_in past) p k j).found ≡ (found_edges past.program.now past.plan.now (closed_logs (past_setting past) h) (all_seen (past_setting past) h) p k j).found =
    ap (λ (l : Logs). (found_edges past.program.now past.plan.now l (seens_in past) p k j).found) r.logs_are
    ∙ ap (λ (xs : List Seen). (found_edges past.program.now past.plan.now (closed_logs (past_setting past) h) xs p k j).found) (seens_are law past policy h v r) in
    let is = found (past_setting past) h r.whole.last v r.whole.runs r.no_race p k j x at own in
    answered law past policy h v r (found_edges past.program.now past.plan.now past.logs.now (seens_in past) p k j).replays (answer_if (found_edges past.program.now past.plan.now past.logs.now (seens_in past) p k j).found)
    (ok_or (edges (past_setting past) (story_in past h) p k j) NoEvent) before after res
    (ap (λ (z : Option (Result (List FlowEdge) Missing)). answer_if z) (logs ∙ is) ∙ if_there (edges (past_setting past) (story_in past h) p k j)) f

-- under the plan of any policy
pub gives_edges : ReplaysAreSeen → EdgesAreFound → AllOwnPartsAreFound → (past : Past) (p k j before after : ℕ)
    (res : Result (List FlowEdge) FlowError) → IsValid past.program.now → IsEdges past p k j before after res → GivesEdges past p k j res
gives_edges law found own past p k j before after res v f policy h x r at =
    answers_of_runs law found past policy h p k j before after x res v r f at
    (subst (λ (pl : Plan). slice_get (splits (setting_of past.program.now pl past.budget) (story (setting_of past.program.now pl past.budget) h)) p ≡ Some x
    → HasOwnParts past.program.now pl (splits (setting_of past.program.now pl past.budget) (story (setting_of past.program.now pl past.budget) h)) x p k j)
    (sym r.plan_is) (λ there. own past.program.now policy past.budget h p k j x v there) at)
