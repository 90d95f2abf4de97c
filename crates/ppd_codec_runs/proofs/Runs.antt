-- The recording of a whole run is accepted, and what is known of it is what is known of the run.
use Rattle.law_steps.specs.Policies.{setting_by}
use Rattle.ppd_model.specs.Setting.{setting_of}
use Rattle.std.proofs.Common.{◌≡◌, ℕ, List, None, sym, subst, ◌∙◌, ap}
use Rattle.law_steps.proofs.Agreeing.{agreeing_stories}
use Rattle.ppd_ast.specs.Valid.{IsValid}
use Rattle.ppd_ast.specs.declared.plan.Plan.{Plan}
use Rattle.ppd_ast.specs.declared.program.Program.{Program}
use Rattle.ppd_blocks.specs.Blocks.{plan_of}
use Rattle.ppd_check.proofs.AcceptedValid.{read_valid}
use Rattle.ppd_codec.specs.Recordings.{AreLawful, IsDecoded}
use Rattle.ppd_codec.specs.declared.recording.Header.{Header}
use Rattle.ppd_codec.specs.declared.recording.Recording.{Recording}
use Rattle.ppd_codec.proofs.Spelling.{no_recording_is_bad}
use Rattle.ppd_model.specs.declared.entry.Logs.{Logs}
use Rattle.ppd_graph.specs.Refusals.{IsRefused as IsNoGraph}
use Rattle.law_logs.proofs.Graph.Ordered.{refused}
use Rattle.ppd_index.specs.Refusals.{first_in_lists}
use Rattle.law_logs.proofs.Index.Found.{logs_indexed}
use Rattle.law_logs.proofs.Recording.Whole.{logs_lawful}
use Rattle.ppd_model.specs.Logs.{closed_logs}
use Rattle.ppd_session.specs.Known.{known_of_logs, known_of_run, known_of_story}
use Rattle.ppd_session.proofs.Honest.{known_as}
use Rattle.ppd_codec_runs.specs.Laws.{NoRunIsRefused, RunsAreRecalled}
use Rattle.ppd_codec_runs.specs.Recordings.{AreOfSomeRun, IsRefusedBy, IsRunRecorded, known_of}
use Rattle.ppd_codec_runs.specs.Recordings.IsRefusedBy.{by_bytes, by_log, by_sync}
use Rattle.ppd_codec_runs.proofs.Same.{IsOfThree, indexed_not, of_three}

-- the logs of a run have a recording
pub run_lawful : (source : List ℕ) (header : Header) (logs : Logs) → AreOfSomeRun source header logs → AreLawful source header logs
run_lawful source header logs r =
    subst (AreLawful source header) (sym r.of_run.are) (logs_lawful source r.program header r.schedule r.of_run.accepted r.of_run.range r.of_run.whole)

module _ (source : List ℕ) (header : Header) (program : Program) (h bytes : List ℕ) (run : IsRunRecorded source header program h bytes) where
  plan : Plan
  plan = plan_of program header.policy

  three : (r : Recording) → IsDecoded bytes r → IsOfThree source header program (closed_logs (setting_by program header.policy header.budget) h) r
  three r d = of_three source header program (closed_logs (setting_by program header.policy header.budget) h) bytes r run.accepted run.is d

  valid : IsValid program
  valid = read_valid source program run.accepted

  -- what is known of it
  recalled : (r : Recording) → IsDecoded bytes r → known_of r ≡ known_of_run (setting_by program header.policy header.budget) h
  recalled r d =
      let s = three r d in
      ap (λ (p : Program). known_of_logs (setting_of p r.plan r.header.budget) r.logs) s.program_is
      ∙ (ap (λ (q : Plan). known_of_logs (setting_of program q r.header.budget) r.logs) s.plan_is
      ∙ (ap (λ (k : Header). known_of_logs (setting_of program (plan_of program header.policy) k.budget) r.logs) s.header_is
      ∙ (ap (λ (l : Logs). known_of_logs (setting_by program header.policy header.budget) l) s.logs_are
      ∙ known_as program header.policy header.budget h valid run.whole)))

  indexed : (r : Recording) → IsDecoded bytes r → first_in_lists r.program r.plan 0 r.logs.lists ≡ None
  indexed r d =
      let s = three r d in
      ap (λ (p : Program). first_in_lists p r.plan 0 r.logs.lists) s.program_is
      ∙ (ap (λ (q : Plan). first_in_lists program q 0 r.logs.lists) s.plan_is
      ∙ (ap (λ (l : Logs). first_in_lists program (plan_of program header.policy) 0 l.lists) s.logs_are
      ∙ logs_indexed program header.policy header.budget h valid run.whole))

  accepted : (line : List ℕ) → IsRefusedBy bytes line → ⊥
  accepted line (by_bytes e other bad) = no_recording_is_bad source header (closed_logs (setting_by program header.policy header.budget) h) bytes e run.is bad
  accepted line (by_log r d e other bad) = indexed_not (first_in_lists r.program r.plan 0 r.logs.lists) e (indexed r d) other bad
  accepted line (by_sync r d none e other bad) =
      let s = three r d in
      let one : IsNoGraph program r.logs e = subst (λ (p : Program). IsNoGraph p r.logs e) s.program_is bad in
      refused (setting_by program header.policy header.budget) h run.whole.last run.whole.runs e other (subst (λ (l : Logs). IsNoGraph program l e) s.logs_are one)

pub runs_are_recalled : RunsAreRecalled
runs_are_recalled bytes r a = λ source header program h run.
    let known = recalled source header program h bytes run r a.decoded in
    (known, λ none h' agree. known ∙ ap (known_of_story (setting_by program header.policy header.budget)) (agreeing_stories (setting_by program header.policy header.budget) h h' agree none))

pub no_run_is_refused : NoRunIsRefused
no_run_is_refused source header program h bytes line run why = accepted source header program h bytes run line why
