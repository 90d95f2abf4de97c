-- What is answered of the recording of a whole run without a race is that of the run.
use Rattle.law_steps.specs.Policies.{setting_by}
use Rattle.ppd_model.specs.Setting.{Setting, setting_of}
use Rattle.law_steps.proofs.Agreeing.{agreeing_stories}
use Rattle.law_clean.proofs.Whole.{answers_of_runs as cleans_of_runs}
use Rattle.law_flow.proofs.WholeTrace.{joined_trace_full}
use Rattle.law_flow.specs.Linked.{joined_trace}
use Rattle.ppd_ast.specs.Valid.{IsValid}
use Rattle.ppd_ast.specs.declared.plan.Plan.{Plan}
use Rattle.ppd_ast.specs.declared.program.Program.{Program}
use Rattle.ppd_blocks.specs.Blocks.{plan_of}
use Rattle.ppd_check.proofs.AcceptedValid.{read_valid}
use Rattle.ppd_codec.specs.declared.recording.Header.{Header}
use Rattle.ppd_codec.specs.declared.recording.Recording.{Recording}
use Rattle.ppd_codec_runs.proofs.Runs.{runs_are_recalled}
use Rattle.ppd_codec_runs.proofs.Same.{IsOfThree, of_three}
use Rattle.ppd_codec_runs.specs.Recordings.{IsAccepted, IsRunRecorded, known_of, recorded_setting}
use Rattle.ppd_model.specs.declared.entry.At.{At}
use Rattle.ppd_model.specs.declared.entry.Logs.{Logs}
use Rattle.ppd_graph.specs.Seen.{Seen}
use Rattle.ppd_flow_past.specs.ByReplays.{first_failed}
use Rattle.ppd_model.proofs.RecordedSyncs.{record_syncs}
use Rattle.ppd_model.specs.Agreement.{Agree}
use Rattle.ppd_model.specs.FullTrace.{full_trace}
use Rattle.ppd_model.specs.Items.{ItemsAreWhole}
use Rattle.ppd_model.specs.Logs.{closed_logs}
use Rattle.ppd_model.specs.Races.{races}
use Rattle.ppd_model.specs.RecordedSets.{record_in}
use Rattle.ppd_model.specs.Story.{story}
use Rattle.ppd_model.specs.declared.graph.Race.{Race}
use Rattle.ppd_model.specs.declared.trace.Trace.{Trace}
use Rattle.ppd_model.specs.declared.tracing.Story.{Story}
use Rattle.ppd_rerun_guide.proofs.Verdicts.{reruns_say_yes, verdicts_are_one}
use Rattle.ppd_rerun_guide.specs.Guided.{guided}
use Rattle.ppd_rerun_guide.specs.Verdicts.{IsVerdict}
use Rattle.ppd_rerun_guide.specs.declared.verdict.Verdict.{Verdict}
use Rattle.ppd_rerun_guide.specs.declared.verdict.Verdict.TheVariants as verdict
use Rattle.ppd_session.proofs.Honest.{all_there, never}
use Rattle.ppd_session.specs.Known.{Known, known_of_run, seens}
use Rattle.ppd_session.specs.Texts.{races_refusal}
use Rattle.ppd_session.specs.declared.reply.SessionError.{SessionError}
use Rattle.ppd_top.proofs.CleanOfRuns.{clean_told, never_fails}
use Rattle.ppd_top.proofs.SlicesOfRuns.{slices_of_runs}
use Rattle.ppd_top.specs.OfRuns.{AnswersAreOfRuns, IsOfRun}
use Rattle.ppd_top.specs.Queries.{Gives, IsCleanFailure, IsRerunAnswer, IsSliceAnswer, first_failure, refusal, schedule_of}
use Rattle.ppd_top_requests.specs.Questions.{ItemAsked}
use Rattle.ppd_top.specs.Queries.IsWritten.{answers, refuses}
use Rattle.ppd_top_requests.specs.Questions.Query.{Clean, Rerun, Slice, Whole}
use Rattle.ppd_top.specs.VerdictTexts.{verdict_text}
use Rattle.ppd_whole.specs.Intervals.{intervals_from}
use Rattle.ppd_whole.specs.WholeText.{whole_text}
use Rattle.std.proofs.Common.{List, None, Option, Some, [], ap, refl, subst, sym, ℕ, ◌∙◌, ◌∷◌, ◌≡◌}

no_failure : {o : Option At} {t : At} → o ≡ None → o ≡ Some t → ⊥
no_failure a b = cc (a, b)

pub no_races : (rs : List Race) → races_refusal rs ≡ None → rs ≡ []
no_races [] e = refl
no_races (x ∷ xs) e = absurd (cc)

module _ (bytes : List ℕ) (r : Recording) (accepted : IsAccepted bytes r) (source : List ℕ) (header : Header) (program : Program) (h : List ℕ) (run : IsRunRecorded source header program h bytes) where
  plan : Plan
  plan = plan_of program header.policy

  logs : Logs
  logs = closed_logs (setting_by program header.policy header.budget) h

  valid : IsValid program
  valid = read_valid source program run.accepted

  three : IsOfThree source header program (closed_logs (setting_by program header.policy header.budget) h) r
  three = of_three source header program (closed_logs (setting_by program header.policy header.budget) h) bytes r run.accepted run.is accepted.decoded

  known : known_of r ≡ known_of_run (setting_by program header.policy header.budget) h
  known = (runs_are_recalled bytes r accepted source header program h run).0

  pub races_are : (known_of r).races ≡ races (setting_by program header.policy header.budget) h
  races_are = ap (λ (x : Known). x.races) known

  seens_are : seens (recorded_setting r) r.logs ≡ seens (setting_by program header.policy header.budget) (closed_logs (setting_by program header.policy header.budget) h)
  seens_are =
      ap (λ (p : Program). seens (setting_of p r.plan r.header.budget) r.logs) three.program_is
      ∙ (ap (λ (p : Plan). seens (setting_of program p r.header.budget) r.logs) three.plan_is
      ∙ (ap (λ (k : Header). seens (setting_of program (plan_of program header.policy) k.budget) r.logs) three.header_is
      ∙ ap (λ (l : Logs). seens (setting_by program header.policy header.budget) l) three.logs_are))

  failed : (ms : List (ℕ × ℕ)) → first_failed (recorded_setting r) r.logs ms ≡ first_failed (setting_by program header.policy header.budget) (closed_logs (setting_by program header.policy header.budget) h) ms
  failed ms =
      ap (λ (p : Program). first_failed (setting_of p r.plan r.header.budget) r.logs ms) three.program_is
      ∙ (ap (λ (p : Plan). first_failed (setting_of program p r.header.budget) r.logs ms) three.plan_is
      ∙ (ap (λ (k : Header). first_failed (setting_of program (plan_of program header.policy) k.budget) r.logs ms) three.header_is
      ∙ ap (λ (l : Logs). first_failed (setting_by program header.policy header.budget) l ms) three.logs_are))

  -- no replay fails where there is no race
  pub never_diverges : races_refusal (known_of r).races ≡ None → (failure : At) → first_failure r ≡ Some failure → ⊥
  never_diverges none failure f =
      let free : races (setting_by program header.policy header.budget) h ≡ [] = sym races_are ∙ no_races (known_of r).races none in
      no_failure (failed (intervals_from 0 (seens (recorded_setting r) r.logs)) ∙ never program header.policy header.budget h valid run.whole free (intervals_from 0 (seens (recorded_setting r) r.logs))) f

  module _ (free : races (setting_by program header.policy header.budget) h ≡ []) where
    -- the items of all replays make the full trace
    trace_is : whole_text r.program (joined_trace r.program r.logs (seens (recorded_setting r) r.logs)) ≡ whole_text program (full_trace (setting_by program header.policy header.budget) (story (setting_by program header.policy header.budget) h))
    trace_is =
        ap (λ (p : Program). whole_text p (joined_trace p r.logs (seens (recorded_setting r) r.logs))) three.program_is
        ∙ (ap (λ (l : Logs). whole_text program (joined_trace program l (seens (recorded_setting r) r.logs))) three.logs_are
        ∙ (ap (λ (xs : List Seen). whole_text program (joined_trace program (closed_logs (setting_by program header.policy header.budget) h) xs)) (seens_are ∙ sym (all_there program header.policy header.budget h valid run.whole free))
        ∙ ap (λ (t : Trace). whole_text program t) (joined_trace_full (setting_by program header.policy header.budget) h run.whole.last valid run.whole.runs free)))

    -- the verdict on its logs is yes
    verdict_is : (v : Verdict) → IsVerdict (recorded_setting r) r.logs v
        → v ≡ verdict.Yes (guided (setting_by program header.policy header.budget) (record_in (closed_logs (setting_by program header.policy header.budget) h)))
    verdict_is v is =
        let a : IsVerdict (setting_of program r.plan r.header.budget) r.logs v = subst (λ (p : Program). IsVerdict (setting_of p r.plan r.header.budget) r.logs v) three.program_is is in
        let b : IsVerdict (setting_of program (plan_of program header.policy) r.header.budget) r.logs v = subst (λ (p : Plan). IsVerdict (setting_of program p r.header.budget) r.logs v) three.plan_is a in
        let c : IsVerdict (setting_by program header.policy header.budget) r.logs v = subst (λ (k : Header). IsVerdict (setting_of program (plan_of program header.policy) k.budget) r.logs v) three.header_is b in
        let d : IsVerdict (setting_by program header.policy header.budget) (closed_logs (setting_by program header.policy header.budget) h) v = subst (λ (l : Logs). IsVerdict (setting_by program header.policy header.budget) l v) three.logs_are c in
        verdicts_are_one (setting_by program header.policy header.budget) (closed_logs (setting_by program header.policy header.budget) h) v
        (verdict.Yes (guided (setting_by program header.policy header.budget) (record_in (closed_logs (setting_by program header.policy header.budget) h)))) d
        (reruns_say_yes program header.policy header.budget h valid run.whole free)

    -- by a schedule that agrees with the run
    guided_agrees : Agree (setting_by program header.policy header.budget) h (guided (setting_by program header.policy header.budget) (record_in (closed_logs (setting_by program header.policy header.budget) h)))
    guided_agrees =
        let yes : IsVerdict (setting_by program header.policy header.budget) (closed_logs (setting_by program header.policy header.budget) h) (verdict.Yes (guided (setting_by program header.policy header.budget) (record_in (closed_logs (setting_by program header.policy header.budget) h)))) =
        reruns_say_yes program header.policy header.budget h valid run.whole free in
        record {
          first = run.whole;
          second = yes.1.whole;
          records = sym (yes.1.record_is ∙ (record_syncs (setting_by program header.policy header.budget) h).closed);
        }

    rerun_is : (schedule text : List ℕ) → IsRerunAnswer r schedule text
        → Agree (setting_by program header.policy header.budget) h schedule × (text ≡ verdict_text program (verdict.Yes schedule))
    rerun_is schedule text (v, is, taken, written) =
        let yes = verdict_is v is in
        let taken_so : schedule ≡ guided (setting_by program header.policy header.budget) (record_in (closed_logs (setting_by program header.policy header.budget) h)) = taken ∙ ap schedule_of yes in (
          subst (λ (g : List ℕ). Agree (setting_by program header.policy header.budget) h g) (sym taken_so) guided_agrees,
          written ∙ (ap (λ (p : Program). verdict_text p v) three.program_is ∙ (ap (λ (w : Verdict). verdict_text program w) yes
              ∙ ap (λ (g : List ℕ). verdict_text program (verdict.Yes g)) (sym taken_so))),
        )

-- two schedules that agree with one agree
agree_both : {program : Program} {plan : Plan} {budget : ℕ} {h h' s : List ℕ} → Agree (setting_of program plan budget) h h' → Agree (setting_of program plan budget) h s → Agree (setting_of program plan budget) h' s
agree_both a b = record { first = a.second; second = b.second; records = sym a.records ∙ b.records }

races_none : {x : Race} {xs : List Race} {A : Type 0} → x ∷ xs ≡ [] → A
races_none e = absurd (cc)

-- the slice of a run
module _ (whole : ItemsAreWhole) (r : Recording) (a : ItemAsked) (setting : Setting) (h : List ℕ) (valid : IsValid setting.program) (known : known_of r ≡ known_of_run setting h) where
  slice_is : (schedule text : List ℕ) → Gives r (Slice a) schedule 0 text → IsOfRun setting h (Slice a) schedule text
  slice_is schedule text (refuses line said) = λ m. absurd (clash (ap (λ (x : Known). refusal x (Slice a)) known ∙ m) said)
    where
      clash : {o : Option (List ℕ)} {t : List ℕ} → o ≡ None → o ≡ Some t → ⊥
      clash a b = cc (a, b)
  slice_is schedule text (answers s t none is) = slices_of_runs whole setting h a schedule text valid (subst (λ (x : Known). IsSliceAnswer x a schedule text) known is)

-- the parts of a recording of a run
three_parts : (bytes : List ℕ) (r : Recording) → IsAccepted bytes r → (source : List ℕ) (header : Header) (program : Program) (h : List ℕ) → IsRunRecorded source header program h bytes
    → (of : Logs) → of ≡ closed_logs (setting_by program header.policy header.budget) h → (r.program ≡ program) × (r.plan ≡ plan_of program header.policy) × (r.header ≡ header) × (r.logs ≡ of)
three_parts bytes r accepted source header program h run of is =
    let s : IsOfThree source header program (closed_logs (setting_by program header.policy header.budget) h) r = of_three source header program (closed_logs (setting_by program header.policy header.budget) h) bytes r run.accepted run.is accepted.decoded in
    (s.program_is, s.plan_is, s.header_is, s.logs_are ∙ sym is)

-- of a run an item is answered, with races or without
pub clean_never_fails : (bytes : List ℕ) (r : Recording) → IsAccepted bytes r → (source : List ℕ) (header : Header) (program : Program) (h : List ℕ) → IsRunRecorded source header program h bytes
    → (a : ItemAsked) (error : SessionError) → refusal (known_of r) (Clean a) ≡ None → IsCleanFailure r a error → ⊥
clean_never_fails bytes r accepted source header program h run a error none f =
    never_fails r header program h (three_parts bytes r accepted source header program h run) (runs_are_recalled bytes r accepted source header program h run).0 (read_valid source program run.accepted) run.whole cleans_of_runs a error none f

pub answers_of_runs : ItemsAreWhole → AnswersAreOfRuns
answers_of_runs whole bytes r (Slice a) schedule text accepted g = λ source header program h h' run free agree.
    slice_is whole r a (setting_by program header.policy header.budget) h' (read_valid source program run.accepted)
    ((runs_are_recalled bytes r accepted source header program h run).1 free h' agree) schedule text g
answers_of_runs whole bytes r (Whole workers) schedule text accepted (refuses line said) = λ source header program h h' run free agree.
    let none : (known_of r).races ≡ [] = races_are bytes r accepted source header program h run ∙ free in
    absurd (by none said)
  where
    by : (known_of r).races ≡ [] → races_refusal (known_of r).races ≡ Some line → ⊥
    by e f = clash (ap races_refusal e) f
      where
        clash : {o : Option (List ℕ)} {t : List ℕ} → o ≡ None → o ≡ Some t → ⊥
        clash a b = cc (a, b)
answers_of_runs whole bytes r (Whole workers) schedule text accepted (answers s t none is) = λ source header program h h' run free agree.
    is.2 ∙ (trace_is bytes r accepted source header program h run free
    ∙ ap (λ (s : Story). whole_text program (full_trace (setting_by program header.policy header.budget) s)) (agreeing_stories (setting_by program header.policy header.budget) h h' agree free))
answers_of_runs whole bytes r Rerun schedule text accepted (refuses line said) = absurd (cc)
answers_of_runs whole bytes r Rerun schedule text accepted (answers s t none is) = λ source header program h h' run free agree.
    let it = rerun_is bytes r accepted source header program h run free schedule text is in
    (agree_both agree it.0, it.1)
answers_of_runs whole bytes r (Clean a) schedule text accepted g = λ source header program h run.
    clean_told r header program h (three_parts bytes r accepted source header program h run) (runs_are_recalled bytes r accepted source header program h run).0 (read_valid source program run.accepted) run.whole cleans_of_runs a schedule text g
