-- With which status a query ends, and what is answered of a run.
use Rattle.law_steps.specs.Policies.{setting_by}
use Rattle.ppd_model.specs.Setting.{Setting}
use Rattle.std.specs.Prelude.{Some, None}
use Rattle.std.proofs.Common.{◌≡◌, ℕ, List, Option, refl, ap, subst, inl, inr}
use Rattle.ppd_ast.specs.declared.program.Program.{Program}
use Rattle.ppd_codec.specs.declared.recording.Header.{Header}
use Rattle.ppd_codec.specs.declared.recording.Recording.{Recording}
use Rattle.ppd_model.specs.declared.entry.At.{At}
use Rattle.ppd_model.specs.declared.flow_error.FlowError.{FlowError}
use Rattle.ppd_model.specs.declared.flow_error.FlowError.TheVariants as flow_error
use Rattle.ppd_top.specs.QueryLaws.{QueriesEnd, RunsAreTold}
use Rattle.ppd_top.specs.Queries.{IsFailure, IsSliceFailure, refusal}
use Rattle.ppd_top_requests.specs.Questions.{Query}
use Rattle.ppd_top.specs.Queries.IsWritten.{refuses, answers, fails}
use Rattle.ppd_top_requests.specs.Questions.Query.{Slice, Whole, Rerun, Clean}
use Rattle.ppd_session.specs.Known.{Known, known_of_run}
use Rattle.ppd_session.specs.Texts.{failure_in, flow_at, told_at, unfound_flow}
use Rattle.ppd_session.specs.declared.reply.SessionError.{SessionError}
use Rattle.ppd_session.specs.declared.reply.SessionError.TheVariants.{Diverged, Sets, Memory}
use Rattle.ppd_session.proofs.Answered.{of_name, of_table}
use Rattle.ppd_codec_runs.proofs.Runs.{runs_are_recalled}
use Rattle.ppd_codec_runs.specs.Recordings.{IsAccepted, IsRunRecorded, known_of}
use Rattle.ppd_top.proofs.OfRuns.{clean_never_fails, never_diverges}

no_failure : {o : Option At} {t : At} → o ≡ None → o ≡ Some t → ⊥
no_failure a b = cc (a, b)

-- of a run no slice fails
slice_fails : (setting : Setting) (h : List ℕ) (error : SessionError) → IsSliceFailure (known_of_run setting h) error → ⊥
slice_fails setting h (Diverged failure) f =
    let x : Known = known_of_run setting h in
    let some : failure_in failure.process (told_at x failure.process f.0) ≡ Some (record { process = failure.process; entry = failure.entry }) = ap (failure_in failure.process) f.1 in
    let none : failure_in failure.process (told_at x failure.process f.0) ≡ None = of_name setting h (Some failure.process) f.0 in
    no_failure none some
slice_fails setting h (Sets failure) f =
    let x : Known = known_of_run setting h in
    let some : unfound_flow (flow_at x f.0.process f.0.interval f.0.item) ≡ Some (flow_error.Sets failure.process failure.entry f.1) = ap unfound_flow f.2 in
    let none : unfound_flow (flow_at x f.0.process f.0.interval f.0.item) ≡ None = of_table setting h f.0.process 0 f.0.interval f.0.item x.items in
    clash none some
  where
    clash : {o : Option FlowError} {t : FlowError} → o ≡ None → o ≡ Some t → ⊥
    clash a b = cc (a, b)
slice_fails setting h Memory f = f

pub queries_end : QueriesEnd
queries_end r query schedule status text (refuses line said) = inl refl
queries_end r query schedule status text (answers h t none is) = inl refl
queries_end r query schedule status text (fails error none f) = inr refl

module _ (bytes : List ℕ) (r : Recording) (accepted : IsAccepted bytes r) (source : List ℕ) (header : Header) (program : Program) (h : List ℕ) (run : IsRunRecorded source header program h bytes) where
  run_fails : (query : Query) (error : SessionError) → refusal (known_of r) query ≡ None → IsFailure r query error → ⊥
  run_fails (Slice a) error none f =
      let known = (runs_are_recalled bytes r accepted source header program h run).0 in
      slice_fails (setting_by program header.policy header.budget) h error (subst (λ (x : Known). IsSliceFailure x error) known f)
  run_fails (Whole workers) (Diverged failure) none f = never_diverges bytes r accepted source header program h run none failure f
  run_fails (Whole workers) (Sets failure) none f = f
  run_fails (Whole workers) Memory none f = f
  run_fails Rerun error none f = f
  run_fails (Clean a) error none f = clean_never_fails bytes r accepted source header program h run a error none f

pub runs_are_told : RunsAreTold
runs_are_told bytes r query schedule status text accepted source header program h run (refuses line said) = refl
runs_are_told bytes r query schedule status text accepted source header program h run (answers s t none is) = refl
runs_are_told bytes r query schedule status text accepted source header program h run (fails error none f) = absurd (run_fails bytes r accepted source header program h run query error none f)
