-- Verdicts on logs are one, and on the logs of a whole schedule without a race they are yes.
use Rattle.law_steps.specs.Policies.{setting_by}
use Rattle.ppd_model.specs.Setting.{Setting, setting_of}
use Rattle.std.proofs.Common.{◌≡◌, ℕ, ◌<◌, ◌≤◌, List, [], Option, Some, None, Ok, refl, ap, ap₂, sym, subst, ◌∙◌, arith, length, get_or, ⊎_elim}
use Rattle.std.specs.Prelude.{slice_get}
use Rattle.std.proofs.lemmas.Bool.{cases_eq, cases_lt}
use Rattle.ppd_ast.specs.Valid.{IsValid}
use Rattle.ppd_ast.specs.declared.plan.Plan.{Plan}
use Rattle.ppd_ast.specs.declared.plan.Policy.{Policy}
use Rattle.ppd_ast.specs.declared.program.Program.{Program}
use Rattle.ppd_blocks.specs.Blocks.{plan_of}
use Rattle.ppd_model.specs.declared.entry.Logs.{Logs}
use Rattle.ppd_model.specs.Replay.{Replayed}
use Rattle.ppd_model.specs.declared.tracing.Story.{Story}
use Rattle.ppd_model.specs.Intervals.{Span, Split, items, splits}
use Rattle.ppd_model.proofs.IntervalWords.{items_at, items_in}
use Rattle.ppd_model.specs.Logs.{closed_logs}
use Rattle.ppd_model.specs.Races.{races}
use Rattle.ppd_model.specs.Record.{record_of, sync_record}
use Rattle.ppd_model.specs.RecordedSets.{record_in}
use Rattle.ppd_model.specs.Schedule.{IsWhole}
use Rattle.ppd_model.specs.Story.{story}
use Rattle.ppd_model.specs.Synchronizations as s
use Rattle.ppd_model.proofs.RecordedSyncs.{record_syncs}
use Rattle.law_steps.specs.Theorem.Laws.{model_at, modelled_in, modelled_of, replay_at}
use Rattle.law_steps.proofs.Theorem.Replays.{replays_give_intervals}
use Rattle.ppd_rerun_guide.specs.declared.verdict.No.TheVariants.{Record, Interval}
use Rattle.ppd_rerun_guide.specs.declared.verdict.Verdict.{Verdict}
use Rattle.ppd_rerun_guide.specs.declared.verdict.Verdict.TheVariants as verdict
use Rattle.ppd_rerun_guide.specs.Guided.{guided}
use Rattle.ppd_rerun_guide.specs.Laws.{IsGuidedAlike, RerunsSayYes, VerdictsAreOne}
use Rattle.ppd_rerun_guide.specs.Verdicts.{HasRecordOf, IsSame, IsVerdict, Matches}
use Rattle.ppd_rerun_guide.proofs.Guided.{schedules_agree}

-- ---- one verdict

module _ (setting : Setting) (logs : Logs) where
  abbrev g : List ℕ
  g = guided setting (record_in logs)

  -- of two first ones neither comes before the other
  first_once : (p k q m : ℕ) → IsVerdict setting logs (verdict.No (Interval p k)) → IsVerdict setting logs (verdict.No (Interval q m)) → verdict.No (Interval p k) ≡ verdict.No (Interval q m)
  first_once p k q m a b =
      ⊎_elim
      (λ (lt : p < q). absurd (a.1 (b.2 p k lt)))
      (λ (ge : q ≤ p).
      ⊎_elim
      (λ (lt : q < p). absurd (b.1 (a.2 q m lt)))
      (λ (ge2 : p ≤ q).
      let same : p ≡ q = omega arith in
      ⊎_elim
      (λ (lt : k < m). absurd (a.1 (subst (λ (x : ℕ). IsSame setting logs g x k) (sym same) (b.3 k lt))))
      (λ (ge3 : m ≤ k).
      ⊎_elim
      (λ (lt : m < k). absurd (b.1 (subst (λ (x : ℕ). IsSame setting logs g x m) same (a.3 m lt))))
      (λ (ge4 : k ≤ m).
      let same2 : k ≡ m = omega arith in
      ap₂ (λ (x y : ℕ). verdict.No (Interval x y)) same same2)
      (cases_lt m k))
      (cases_lt k m))
      (cases_lt q p))
      (cases_lt p q)

  -- a yes follows the record with every interval the same
  follows : (h : List ℕ) → IsVerdict setting logs (verdict.Yes h) → HasRecordOf setting logs g
  follows h y = subst (λ (x : List ℕ). HasRecordOf setting logs x) y.0 y.1

  same_in : (h : List ℕ) → IsVerdict setting logs (verdict.Yes h) → (p k : ℕ) → IsSame setting logs g p k
  same_in h y p k = subst (λ (x : List ℕ). IsSame setting logs x p k) y.0 (y.2 p k)

  pub one : (a b : Verdict) → IsVerdict setting logs a → IsVerdict setting logs b → a ≡ b
  one (verdict.Yes h) (verdict.Yes h2) a b = ap (λ (x : List ℕ). verdict.Yes x) (a.0 ∙ sym b.0)
  one (verdict.Yes h) (verdict.No (Record n)) a b = absurd (b.1 (follows h a))
  one (verdict.Yes h) (verdict.No (Interval q m)) a b = absurd (b.1 (same_in h a q m))
  one (verdict.No (Record n)) (verdict.Yes h) a b = absurd (a.1 (follows h b))
  one (verdict.No (Record n)) (verdict.No (Record n2)) a b = ap (λ (x : ℕ). verdict.No (Record x)) (a.0 ∙ sym b.0)
  one (verdict.No (Record n)) (verdict.No (Interval q m)) a b = absurd (a.1 b.0)
  one (verdict.No (Interval p k)) (verdict.Yes h) a b = absurd (a.1 (same_in h b p k))
  one (verdict.No (Interval p k)) (verdict.No (Record n)) a b = absurd (b.1 a.0)
  one (verdict.No (Interval p k)) (verdict.No (Interval q m)) a b = first_once p k q m a b

pub verdicts_are_one : VerdictsAreOne
verdicts_are_one setting logs a b x y = one setting logs a b x y

-- ---- yes

-- an interval of a story matches its own items
matches_span : (x : Split) (o : Option Span) → Matches (modelled_of x o) (items_at x o)
matches_span x None = tt
matches_span x (Some i) = refl

matches_in : (k : ℕ) (o : Option Split) → Matches (modelled_in k o) (items_in k o)
matches_in k None = tt
matches_in k (Some x) = matches_span x (slice_get x.spans k)

module _ (program : Program) (policy : Policy) (budget : ℕ) (h : List ℕ) (v : IsValid program)
    (w : IsWhole (setting_by program policy budget) h) (none : races (setting_by program policy budget) h ≡ []) where
  abbrev plan : Plan
  plan = plan_of program policy

  abbrev kept : Logs
  kept = closed_logs (setting_of program plan budget) h

  abbrev again : List ℕ
  again = guided (setting_of program plan budget) (record_in kept)

  -- the record in the logs is the schedule's
  recorded : record_in kept ≡ sync_record (setting_of program plan budget) h
  recorded = (record_syncs (setting_of program plan budget) h).closed

  alike : IsGuidedAlike (setting_of program plan budget) h
  alike = schedules_agree (setting_of program plan budget) h w none

  guided_is : again ≡ guided (setting_of program plan budget) (sync_record (setting_of program plan budget) h)
  guided_is = ap (λ (syncs : List (List s.Sync)). guided (setting_of program plan budget) syncs) recorded

  story_is : story (setting_of program plan budget) again ≡ story (setting_of program plan budget) h
  story_is = ap (λ (x : List ℕ). story (setting_of program plan budget) x) guided_is ∙ alike.story_is

  same : (p k : ℕ) → IsSame (setting_of program plan budget) kept again p k
  same p k =
      subst (λ (x : Story). Matches (replay_at (setting_of program plan budget) h p k) (items (setting_of program plan budget) x p k)) (sym story_is)
      (subst (λ (r : Option Replayed). Matches r (items (setting_of program plan budget) (story (setting_of program plan budget) h) p k)) (sym (replays_give_intervals program policy budget h p k v w none))
      (matches_in k (slice_get (splits (setting_of program plan budget) (story (setting_of program plan budget) h)) p)))

  pub yes_is : IsVerdict (setting_of program plan budget) kept (verdict.Yes again)
  yes_is = (
    refl,
    record {
      whole = subst (λ (x : List ℕ). IsWhole (setting_of program plan budget) x) (sym guided_is) alike.agree.second;
      record_is = ap record_of story_is ∙ sym recorded;
    },
    same,
  )

pub reruns_say_yes : RerunsSayYes
reruns_say_yes program policy budget h v w none = yes_is program policy budget h v w none
