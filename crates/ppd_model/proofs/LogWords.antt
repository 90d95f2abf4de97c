-- Words of the proofs for the logs of processes.
use Rattle.ppd_model.specs.Setting.{Setting}
use Rattle.std.specs.List.{enumerate_from}
use Rattle.std.specs.Prelude.{ℕ, List, map}
use Rattle.ppd_model.specs.Logs.{log_of}
use Rattle.ppd_model.specs.Story.{Moment}
use Rattle.ppd_model.specs.declared.state.Logging.{Logging}

-- the processes from number p on, with their logs
abbrev pub logs_from : Setting → ℕ → List (List Moment) → List Logging
logs_from setting p all = map (λ e. log_of setting e.0 e.1) (enumerate_from p all)
