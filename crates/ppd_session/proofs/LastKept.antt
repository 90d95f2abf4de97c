-- A last value where the replay fails of the interval in which the writer's edge ends.
use Rattle.ppd_flow_past.specs.PastSetting.{past_setting}
use Rattle.std.specs.Prelude.{option_map}
use Rattle.std.proofs.Common.{◌≡◌, ℕ, [], ◌∷◌, Option, Some, None, sym, subst, ◌∙◌}
use Rattle.std.proofs.lemmas.Option.{none-some, same_Some}
use Rattle.ppd_model.specs.declared.entry.At.{At}
use Rattle.ppd_model.specs.declared.graph.EdgeId.{EdgeId}
use Rattle.ppd_model.specs.declared.flow_error.FlowError.TheVariants as flow_error
use Rattle.ppd_flow_past.specs.declared.past.Past.{Past}
use Rattle.ppd_flow_past.specs.ByReplays.{failure_or, first_failed_in}
use Rattle.ppd_flow_past.specs.SeenBy.{failed_in}
use Rattle.ppd_graph.specs.Shared.{greatest_writing, written_or_start}
use Rattle.ppd_session.specs.Known.{last_by}
use Rattle.ppd_session.specs.Sessions.{IsCause, IsWhy, known_by, unfound}
use Rattle.ppd_session.specs.Texts.{failure_at}
use Rattle.ppd_session.specs.declared.reply.SessionError.{SessionError}
use Rattle.ppd_session.specs.declared.reply.SessionError.TheVariants.{Diverged, Sets, Memory}
use Rattle.ppd_session.proofs.LastValues.{last_fails}
use Rattle.ppd_session.proofs.Replayed.{same_failure}
use Rattle.ppd_flow.specs.Answers.{LastEdge}
use Rattle.ppd_flow.specs.SharedCells.{last_edge, seens_in, with_end}

first_fails : (p : ℕ) (f : Option ℕ) (rest : Option At) (at : At) → failure_or p f None ≡ Some at → failure_or p f rest ≡ Some at
first_fails p None rest at e = absurd (cc)
first_fails p (Some n) rest at e = e

module _ (past : Past) (uncut : past.cut.now ≡ past.logs.now) (c : ℕ) (l : LastEdge) where
  replays_fail : (at : At) (o : Option EdgeId) → option_map (with_end past) o ≡ Some l
      → first_failed_in past ((l.edge.process, l.interval) ∷ []) ≡ Some at
      → first_failed_in past (written_or_start past.program.now past.logs.now (seens_in past) c o).replays ≡ Some at
  replays_fail at None e f = absurd (none-some l e)
  replays_fail at (Some a) e f =
      let is : with_end past a ≡ l = same_Some (with_end past a) l e in
      first_fails a.process (failed_in past a.process (with_end past a).interval) _ at
      (subst (λ (m : LastEdge). first_failed_in past ((m.edge.process, m.interval) ∷ []) ≡ Some at) (sym is) f)

  pub last_replay_fails : (e : SessionError) → last_edge past c ≡ Some l
      → IsCause (failure_at (known_by past []) (Some l.edge.process) l.interval) e
      → IsWhy (unfound (last_by (past_setting past) past.logs.now c)) e
  last_replay_fails (Diverged at) is h =
      last_fails past uncut c 0 0 (flow_error.Diverged at.process at.entry)
      (replays_fail at (greatest_writing past.program.now past.logs.now c) is
      (same_failure past uncut l.edge.process l.interval ∙ h))
  last_replay_fails (Sets at) is h = absurd h
  last_replay_fails Memory is h = tt
