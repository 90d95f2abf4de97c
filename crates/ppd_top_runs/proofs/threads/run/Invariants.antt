use Rattle.ppd_top_runs.proofs.threads.run.Given as goal

abbrev pub ghosts-run_as : goal.ghosts-run_as
ghosts-run_as g a = record { setting = a.world.setting }
