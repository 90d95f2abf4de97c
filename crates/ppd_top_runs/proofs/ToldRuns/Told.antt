-- A run that came to its end has an index and a graph, and is what a session is about.
use Rattle.ppd_model.specs.Setting.{Setting, setting_of}
use Rattle.std.proofs.Common.{◌≡◌, ℕ, ◌+◌, ◌-◌, ◌<◌, ◌≤◌, ◌^◌, None, suc, List, [], ◌∷◌, length, ap, sym, subst, ◌∙◌, refl, arith}
use Rattle.std.proofs.lemmas.List.{length-map}
use Rattle.std.proofs.lemmas.Option.{none-some}
use Rattle.ppd_ast.specs.declared.plan.Plan.{Plan}
use Rattle.ppd_ast.specs.declared.program.Program.{Program}
use Rattle.ppd_ast.specs.declared.limits.TheConstants.{MOST_PROCESSES, MOST_NAMED}
use Rattle.ppd_blocks.specs.Blocks.{plan_of as plan_by_policy}
use Rattle.ppd_model.specs.declared.closed.Closed.{Closed}
use Rattle.ppd_model.specs.declared.state.Logging.{Logging}
use Rattle.ppd_model.specs.Logs.{closed_log, closed_logs, ends_from, loggings}
use Rattle.ppd_model.specs.Schedule.{IsWhole}
use Rattle.ppd_model.proofs.Prefixes.{objects_stay}
use Rattle.ppd_model.proofs.States.{follow}
use Rattle.ppd_model.specs.declared.bad_sync.BadSync.{BadSync}
use Rattle.ppd_model.specs.declared.bad_sync.BadSync.TheVariants as no_graph
use Rattle.ppd_graph.specs.Refusals.{IsRefused as IsNoGraph}
use Rattle.law_logs.proofs.Graph.Ordered.{refused}
use Rattle.ppd_model.specs.declared.bad_log.BadLog.{BadLog}
use Rattle.ppd_model.specs.declared.bad_log.BadLog.TheVariants as no_index
use Rattle.ppd_index.specs.Refusals.{IsRefused as IsNoIndex, first_in_lists}
use Rattle.law_logs.proofs.Index.Found.{logs_indexed}
use Rattle.ppd_race.specs.Races.{AreCellsThere}
use Rattle.ppd_race.proofs.OfRuns.{of_runs}
use Rattle.ppd_top_runs.specs.Runs.{CanBeTold}

-- ---- how many processes

length-ends : (program : Program) (b : ℕ) (ls : List Logging) → length (ends_from program b ls) ≡ length ls
length-ends program b [] = refl
length-ends program b (l ∷ ls) = ap suc (length-ends program (b + 1) ls)

module _ (setting : Setting) (h : List ℕ) where
  pub how_many : length (loggings setting h) ≡ length setting.program.bodies - setting.program.functions
  how_many =
      let s = follow setting h in
      sym (length-map (loggings setting h) (λ (l : Logging). l.proc))
      ∙ (ap length (s.logged ∙ sym s.worlds) ∙ (objects_stay setting h).processes)

module _ (setting : Setting) (closed : Closed) (t : CanBeTold setting closed) where
  few : length setting.program.bodies - setting.program.functions ≤ MOST_PROCESSES
  few = omega (arith, t.program_ok.limits.processes)

  pub told_lists : length closed.logs.lists ≤ MOST_NAMED
  told_lists =
      let e : length closed.logs.lists ≡ length setting.program.bodies - setting.program.functions =
      ap (λ (c : Closed). length c.logs.lists) t.is ∙ (length-map (loggings setting t.schedule) closed_log ∙ how_many setting t.schedule) in
      omega (arith, few)

  pub told_ends : length closed.ends < 2 ^ 62
  told_ends =
      let e : length closed.ends ≡ length setting.program.bodies - setting.program.functions =
      ap (λ (c : Closed). length c.ends) t.is ∙ (length-ends setting.program setting.program.functions (loggings setting t.schedule) ∙ how_many setting t.schedule) in
      omega (arith, few)

  pub told_cells : AreCellsThere setting.program closed.logs
  told_cells = subst (λ (c : Closed). AreCellsThere setting.program c.logs) (sym t.is) (of_runs setting t.schedule t.program_ok).1

  -- its logs are never refused
  indexed : first_in_lists setting.program setting.plan 0 closed.logs.lists ≡ None
  indexed =
      let s : setting.plan ≡ plan_by_policy setting.program t.policy = t.plan_is in
      let whole : IsWhole (setting_of setting.program (plan_by_policy setting.program t.policy) setting.budget) t.schedule = subst (λ (q : Plan). IsWhole (setting_of setting.program q setting.budget) t.schedule) s t.whole in
      let n = logs_indexed setting.program t.policy setting.budget t.schedule t.program_ok whole in
      let m : first_in_lists setting.program setting.plan 0 (closed_logs setting t.schedule).lists ≡ None =
      subst (λ (q : Plan). first_in_lists setting.program q 0 (closed_logs (setting_of setting.program q setting.budget) t.schedule).lists ≡ None) (sym s) n in
      subst (λ (c : Closed). first_in_lists setting.program setting.plan 0 c.logs.lists ≡ None) (sym t.is) m

  pub never_unindexed : (e : BadLog) → IsNoIndex (first_in_lists setting.program setting.plan 0 closed.logs.lists) e → (e ≡ no_index.Memory → ⊥) → ⊥
  never_unindexed (no_index.Unpaired at) r other = none-some (no_index.Unpaired at) (sym indexed ∙ r)
  never_unindexed (no_index.NoEnd at) r other = none-some (no_index.NoEnd at) (sym indexed ∙ r)
  never_unindexed (no_index.AfterEnd at) r other = none-some (no_index.AfterEnd at) (sym indexed ∙ r)
  never_unindexed (no_index.WrongValues at) r other = none-some (no_index.WrongValues at) (sym indexed ∙ r)
  never_unindexed no_index.Memory r other = other refl

  pub never_without_graph : (e : BadSync) → IsNoGraph setting.program closed.logs e → (e ≡ no_graph.Memory → ⊥) → ⊥
  never_without_graph e r other =
      let r' : IsNoGraph setting.program (closed_logs setting t.schedule) e = subst (λ (c : Closed). IsNoGraph setting.program c.logs e) t.is r in
      refused setting t.schedule t.whole.last t.whole.runs e other r'
