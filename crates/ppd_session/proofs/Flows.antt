-- The edges of an item as replays give them.
use Rattle.ppd_flow_past.specs.PastSetting.{past_setting}
use Rattle.std.specs.Prelude.{Some, None, length, ◌<◌}
use Rattle.std.proofs.Common.{◌≡◌, ℕ, List, [], map, Option, Result, Ok, Err, ap, sym, ◌∙◌}
use Rattle.ppd_model.specs.declared.entry.At.{At}
use Rattle.ppd_model.specs.declared.entry.Logs.{Logs}
use Rattle.ppd_flow.specs.Answers.{answer_if}
use Rattle.ppd_model.specs.declared.flow.FlowEdge.{FlowEdge}
use Rattle.ppd_model.specs.declared.flow.Item.{Item}
use Rattle.ppd_model.specs.declared.flow_error.FlowError.{FlowError}
use Rattle.ppd_model.specs.declared.flow_error.FlowError.TheVariants as flow_error
use Rattle.ppd_flow_past.specs.declared.past.Past.{Past}
use Rattle.ppd_flow_past.specs.ByReplays.{IsFoundBy, first_failed, first_failed_in}
use Rattle.ppd_flow_past.specs.SeenBy.{seen_by}
use Rattle.ppd_graph.specs.Found.{found_edges}
use Rattle.ppd_session.specs.Known.{Flow, flow_by, unless_failed}
use Rattle.ppd_session.specs.Sessions.{known_by}
use Rattle.ppd_session.specs.Texts.{flow_at, told_at}
use Rattle.ppd_flow.specs.SharedCells.{IsMemoryOr, seens_in}
use Rattle.ppd_session.proofs.Tables.{flow_inside}

module _ (past : Past) (uncut : past.cut.now ≡ past.logs.now) (q k j : ℕ) where
  abbrev replays : List (ℕ × ℕ)
  replays = (found_edges past.program.now past.plan.now past.logs.now (seens_in past) q k j).replays

  abbrev answer : Flow
  answer = answer_if (found_edges past.program.now past.plan.now past.logs.now (seens_in past) q k j).found

  abbrev known : Flow
  known = flow_by (past_setting past) past.logs.now q k j

  -- by the logs that are replayed, and by the logs
  pub same : unless_failed (first_failed_in past replays) answer ≡ known
  same =
      ap (λ (l : Logs). unless_failed
      (first_failed (past_setting past) l (found_edges past.program.now past.plan.now past.logs.now (map (λ entries. seen_by (past_setting past) entries) l.lists) q k j).replays)
      (answer_if (found_edges past.program.now past.plan.now past.logs.now (map (λ entries. seen_by (past_setting past) entries) l.lists) q k j).found)) uncut

  by_failure : (o : Option At) → first_failed_in past replays ≡ o → known ≡ unless_failed o answer
  by_failure o e = sym same ∙ ap (λ (f : Option At). unless_failed f answer) e

  pub flow_found : (b e : ℕ) (r : Result (List FlowEdge) FlowError) → IsFoundBy past replays answer b e r → IsMemoryOr known r
  flow_found b e (Ok x) f = sym (by_failure None f.0 ∙ f.1)
  flow_found b e (Err (flow_error.Diverged p n)) f = sym (by_failure (Some (record { process = p; entry = n })) f)
  flow_found b e (Err flow_error.NoEvent) f = sym (by_failure None f.0 ∙ f.1)
  flow_found b e (Err (flow_error.Sets p n c)) f = sym (by_failure None f.0 ∙ f.1)
  flow_found b e (Err flow_error.Memory) f = tt

-- of an item that is told the edges are those that are found by replays
pub flow_there : (past : Past) (q k j : ℕ) (items : List Item) → told_at (known_by past []) q k ≡ Some (Ok items) → j < length items
    → flow_at (known_by past []) q k j ≡ flow_by (past_setting past) past.logs.now q k j
flow_there past q k j items told lt =
    flow_inside (flow_by (past_setting past) past.logs.now) (known_by past []).items q k j items told lt
