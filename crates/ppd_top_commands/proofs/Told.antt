-- What is told of a run by its logs is what belongs to its schedule.
use Rattle.law_steps.specs.Policies.{setting_by}
use Rattle.ppd_model.specs.Setting.{setting_of}
use Rattle.ppd_blocks.specs.Blocks.{plan_of}
use Rattle.ppd_race.specs.Races.{races_among, edges_of_logs}
use Rattle.std.proofs.Common.{◌≡◌, ℕ, List, subst, ◌∙◌, ap}
use Rattle.ppd_ast.specs.Valid.{IsValid}
use Rattle.ppd_ast.specs.declared.plan.Plan.{Plan}
use Rattle.ppd_ast.specs.declared.program.Program.{Program}
use Rattle.ppd_model.specs.declared.closed.Closed.{Closed}
use Rattle.ppd_model.specs.Logs.{close}
use Rattle.ppd_race.proofs.OfRuns.{of_runs}
use Rattle.ppd_codec_runs.specs.Known.{Known, known_of_logs}
use Rattle.ppd_codec_runs.proofs.Honest.{known_as}
use Rattle.ppd_top_requests.specs.declared.options.Options.{Options}
use Rattle.ppd_top_commands.specs.Output.{Standing, Talks}
use Rattle.ppd_top_commands.specs.Summary.{summary_of}
use Rattle.ppd_top_commands.specs.Commands.{IsWholeRun, known_of, summary_of_run, WasTold}
use Rattle.ppd_model.specs.Schedule.{IsWhole}
use Rattle.ppd_top_runs.specs.declared.run.ClosedRun.{ClosedRun}
use Rattle.ppd_top_runs.specs.Runs.{IsRunOf, run_setting}

-- ---- of a run, by its logs

pub races_as : (program : Program) (options : Options) (closed : Closed) (h : List ℕ) → IsValid program → closed ≡ close (setting_by program options.policy options.budget) h → races_among (edges_of_logs program closed.logs) ≡ (known_of program options h).races
races_as program options closed h valid is = ap (λ (c : Closed). races_among (edges_of_logs program c.logs)) is ∙ (of_runs (setting_by program options.policy options.budget) h valid).0

pub known_from : (program : Program) (options : Options) (plan : Plan) (closed : Closed) (h : List ℕ) → IsValid program → plan ≡ plan_of program options.policy → IsWholeRun program options h → closed ≡ close (setting_by program options.policy options.budget) h
    → known_of_logs (setting_of program plan options.budget) closed.logs ≡ known_of program options h
known_from program options plan closed h valid p w is =
    ap (λ (q : Plan). known_of_logs (setting_of program q options.budget) closed.logs) p
    ∙ (ap (λ (c : Closed). known_of_logs (setting_by program options.policy options.budget) c.logs) is ∙ known_as program options.policy options.budget h valid w)

pub summary_from : (program : Program) (options : Options) (closed : Closed) (h : List ℕ) → IsValid program → closed ≡ close (setting_by program options.policy options.budget) h
    → summary_of program closed.ends (races_among (edges_of_logs program closed.logs)) ≡ summary_of_run program options h
summary_from program options closed h valid is =
    ap (summary_of program closed.ends) (races_as program options closed h valid is)
    ∙ ap (λ (c : Closed). summary_of program c.ends (known_of program options h).races) is

pub talks_of_run : (program : Program) (options : Options) (plan : Plan) (closed : Closed) (h : List ℕ) (a b : Standing) (status : ℕ) → IsValid program → plan ≡ plan_of program options.policy → IsWholeRun program options h → closed ≡ close (setting_by program options.policy options.budget) h
    → Talks (known_of_logs (setting_of program plan options.budget) closed.logs) (summary_of program closed.ends (races_among (edges_of_logs program closed.logs))) a b status → Talks (known_of program options h) (summary_of_run program options h) a b status
talks_of_run program options plan closed h a b status valid p w is t =
    subst (λ head. Talks (known_of program options h) head a b status) (summary_from program options closed h valid is)
    (subst (λ (x : Known). Talks x (summary_of program closed.ends (races_among (edges_of_logs program closed.logs))) a b status) (known_from program options plan closed h valid p w is) t)

-- ---- by threads

pub was_told : (program : Program) (options : Options) (plan : Plan) (closed : Closed) (h : List ℕ) (a b : Standing) (status : ℕ) → IsValid program → plan ≡ plan_of program options.policy → IsWhole (setting_of program plan options.budget) h → closed ≡ close (setting_of program plan options.budget) h
    → Talks (known_of_logs (setting_of program plan options.budget) closed.logs) (summary_of program closed.ends (races_among (edges_of_logs program closed.logs))) a b status → WasTold program options h a b status
was_told program options plan closed h a b status valid p all is t =
    let c : closed ≡ close (setting_by program options.policy options.budget) h = is ∙ ap (λ (q : Plan). close (setting_of program q options.budget) h) p in
    let w : IsWholeRun program options h = subst (λ (q : Plan). IsWhole (setting_of program q options.budget) h) p all in
    record {
      whole = w;
      talks = talks_of_run program options plan closed h a b status valid p w c t;
    }

-- the same by what the run of a task ensures
pub was_told_by : (program : Program) (options : Options) (h : List ℕ) (run : ClosedRun) (a b : Standing) (status : ℕ) → IsValid program → IsRunOf program options h run
    → Talks (known_of_logs (run_setting run) run.closed.logs) (summary_of run.program.now run.closed.ends (races_among (edges_of_logs run.program.now run.closed.logs))) a b status → WasTold program options h a b status
was_told_by program options h run a b status valid r t =
    was_told program options run.plan run.closed h a b status valid r.plan_is r.whole r.closed_is
    (subst (λ n. Talks (known_of_logs (setting_of program run.plan n) run.closed.logs) (summary_of program run.closed.ends (races_among (edges_of_logs program run.closed.logs))) a b status) r.budget_is
    (subst (λ (p : Program). Talks (known_of_logs (setting_of p run.plan run.budget) run.closed.logs) (summary_of p run.closed.ends (races_among (edges_of_logs p run.closed.logs))) a b status) r.program_is t))
