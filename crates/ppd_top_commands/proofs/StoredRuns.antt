-- A run whose recording is stored, by the schedule that was taken.
use Rattle.law_steps.specs.Policies.{setting_by}
use Rattle.ppd_model.specs.Setting.{setting_of}
use Rattle.ppd_blocks.specs.Blocks.{plan_of}
use Rattle.ppd_race.specs.Races.{races_among, edges_of_logs}
use Rattle.std.specs.Prelude.{Option}
use Rattle.std.proofs.Common.{◌≡◌, ℕ, List, inl, inr, subst, ◌∙◌, ap}
use Rattle.ppd_io.specs.Causes.{Rose}
use Rattle.ppd_io.specs.Content.{StoreFails, Stores}
use Rattle.ppd_ast.specs.Valid.{IsValid}
use Rattle.ppd_ast.specs.declared.plan.Plan.{Plan}
use Rattle.ppd_ast.specs.declared.program.Program.{Program}
use Rattle.ppd_check.specs.Read.{IsRead}
use Rattle.ppd_codec.specs.Recordings.{IsRecordingOf}
use Rattle.ppd_model.specs.declared.closed.Closed.{Closed}
use Rattle.ppd_model.specs.Logs.{close, closed_logs}
use Rattle.ppd_model.specs.Schedule.{IsWhole}
use Rattle.ppd_model.specs.declared.entry.Logs.{Logs}
use Rattle.ppd_codec_runs.specs.Recordings.{AreOfSomeRun}
use Rattle.ppd_top_requests.specs.declared.options.Options.{Options}
use Rattle.ppd_top_runs.specs.declared.run.ClosedRun.{ClosedRun}
use Rattle.ppd_top_commands.specs.Commands.{Keeping, Keeps, Records, WasRecorded, keeping, header_of}
use Rattle.ppd_top_requests.specs.Words.{AreInRange}
use Rattle.ppd_top_commands.specs.Commands.Keeps.{not_kept, store_failed, kept}
use Rattle.ppd_top_runs.specs.Runs.{IsRunOf}
use Rattle.ppd_top_commands.specs.Summary.{summary_of}
use Rattle.ppd_top_commands.proofs.Told.{summary_from}

keeps_as : (P Q : List ℕ → Type 0) (name summary : List ℕ) (x y : Keeping) (status : ℕ) → ((b : List ℕ) → P b → Q b) → Keeps P name summary x y status → Keeps Q name summary x y status
keeps_as P Q name summary x y status f (not_kept is unstored written) = not_kept is unstored written
keeps_as P Q name summary x y status f (store_failed is rose others written) = store_failed is rose others written
keeps_as P Q name summary x y status f (kept b p s others end) = kept b (f b p) s others end

module _ (source : List ℕ) (program : Program) (options : Options) (plan : Plan) (closed : Closed) (h : List ℕ) (accepted : IsRead source program) (p : plan ≡ plan_of program options.policy) (whole : IsWhole (setting_of program plan options.budget) h) (is : closed ≡ close (setting_of program plan options.budget) h) where
  as_close : closed ≡ close (setting_by program options.policy options.budget) h
  as_close = is ∙ ap (λ (q : Plan). close (setting_of program q options.budget) h) p

  as_whole : IsWhole (setting_by program options.policy options.budget) h
  as_whole = subst (λ (q : Plan). IsWhole (setting_of program q options.budget) h) p whole

  as_logs : closed.logs ≡ closed_logs (setting_by program options.policy options.budget) h
  as_logs = ap (λ (c : Closed). c.logs) as_close

  -- its logs are those of a run
  pub of_some_run : AreInRange options → AreOfSomeRun source (header_of options) closed.logs
  of_some_run range = record {
    program = program;
    schedule = h;
    of_run = record {
      accepted = accepted;
      range = record { policy = range.policy; least = range.least; most = range.most };
      whole = as_whole;
      are = as_logs;
    };
  }

  pub was_recorded : (name : List ℕ) (x y : Keeping) (status : ℕ) → IsValid program
      → Keeps (IsRecordingOf source (header_of options) closed.logs) name (summary_of program closed.ends (races_among (edges_of_logs program closed.logs))) x y status → WasRecorded source program options name h x y status
  was_recorded name x y status valid k = record {
    whole = as_whole;
    keeps =
        let s = summary_from program options closed h valid as_close in
        keeps_as _ _ name _ x y status (λ b r. record { accepted = accepted; whole = as_whole; is = subst (λ (l : Logs). IsRecordingOf source (header_of options) l b) as_logs r })
        (subst (λ text. Keeps (IsRecordingOf source (header_of options) closed.logs) name text x y status) s k);
  }

-- the same by what the run of a task ensures
module _ (source : List ℕ) (program : Program) (options : Options) (h : List ℕ) (run : ClosedRun) (accepted : IsRead source program) (r : IsRunOf program options h run) where
  pub of_some_run_by : AreInRange options → AreOfSomeRun source (header_of options) run.closed.logs
  of_some_run_by range = of_some_run source program options run.plan run.closed h accepted r.plan_is r.whole r.closed_is range

  pub was_recorded_by : (name : List ℕ) (x y : Keeping) (status : ℕ) → IsValid program
      → Keeps (IsRecordingOf source (header_of options) run.closed.logs) name (summary_of run.program.now run.closed.ends (races_among (edges_of_logs run.program.now run.closed.logs))) x y status → WasRecorded source program options name h x y status
  was_recorded_by name x y status valid k =
      was_recorded source program options run.plan run.closed h accepted r.plan_is r.whole r.closed_is name x y status valid
      (subst (λ (p : Program). Keeps (IsRecordingOf source (header_of options) run.closed.logs) name (summary_of p run.closed.ends (races_among (edges_of_logs p run.closed.logs))) x y status) r.program_is k)

-- ---- after a load, which stored nothing

module _ (held before : Option (List ℕ → Option (List ℕ))) (stores once : List ℕ → ℕ) (written : Option (List ℕ)) (writes : ℕ) (y : Keeping) (status : ℕ) (same : before ≡ held) (counts : (n : List ℕ) → once n ≡ stores n) where
  keeps_from : (P : List ℕ → Type 0) (name summary : List ℕ) → Keeps P name summary (keeping before once written writes) y status → Keeps P name summary (keeping held stores written writes) y status
  keeps_from P name summary (not_kept is unstored w) = not_kept is (unstored ∙ same) w
  keeps_from P name summary (store_failed is rose others w) = store_failed is (subst (λ n. Rose n (y.stores name)) (counts name) rose) (subst (λ h. StoreFails h y.held name) same others) w
  keeps_from P name summary (kept b p s others end) = kept b p (subst (λ h. Stores h y.held name b) same s) (subst (λ h. StoreFails h y.held name) same others) end

  pub records_from : (source : List ℕ) (program : Program) (options : Options) (name schedule : List ℕ) → Records source program options name schedule (keeping before once written writes) y status → Records source program options name schedule (keeping held stores written writes) y status
  records_from source program options name schedule (inl h) = inl (h.0, record { no_run = h.1.no_run; held = h.1.held ∙ same; stores = λ n. h.1.stores n ∙ counts n; written = h.1.written })
  records_from source program options name schedule (inr r) = inr (record { whole = r.whole; keeps = keeps_from _ name _ r.keeps })
