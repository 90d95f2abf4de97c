-- What the counter rose by, in the own steps of the run's intervals.
use Rattle.ppd_flow_past.specs.PastSetting.{past_setting}
use Rattle.ppd_model.specs.Setting.{setting_of}
use Rattle.std.proofs.Common.{◌≡◌, ℕ, ◌+◌, ◌≤◌, ℤ, List, [], ◌∷◌, Option, Some, None, Result, Ok, refl, ap, sym, ◌∙◌, subst, arith, get_or}
use Rattle.ppd_model.specs.declared.flow_error.FlowError.TheVariants.{NoEvent}
use Rattle.std.specs.Prelude.{slice_get, ok_or}
use Rattle.std.proofs.lemmas.List.Sums.{sum_by-cons}
use Rattle.ppd_ast.specs.Valid.{IsValid}
use Rattle.ppd_ast.specs.declared.plan.Plan.{Plan}
use Rattle.ppd_ast.specs.declared.plan.Policy.{Policy}
use Rattle.ppd_model.specs.declared.entry.Logs.{Logs}
use Rattle.ppd_model.specs.declared.flow.FlowEdge.{FlowEdge}
use Rattle.ppd_model.specs.declared.flow.Origin.{Origin}
use Rattle.ppd_model.specs.FlowbackEdges.{edges}
use Rattle.ppd_model.specs.Intervals.{splits}
use Rattle.ppd_model.specs.Logs.{closed_logs}
use Rattle.ppd_model.specs.Story.{story, told}
use Rattle.law_flow.specs.Costs.Bounds.{EdgesCostLittle, LastCostsLittle, steps_in, steps_of_all}
use Rattle.law_flow.specs.Loops.AllOwnParts.{AllOwnPartsAreFound}
use Rattle.ppd_model.specs.declared.flow_error.FlowError.{FlowError}
use Rattle.ppd_flow_past.specs.declared.past.Past.{Past}
use Rattle.ppd_flow_past.specs.ByReplays.{cost, steps_to_replay}
use Rattle.ppd_flow_past.specs.Honest.{ReplaysAreSeen}
use Rattle.ppd_flow_past.specs.SeenBy.{own_steps_of, steps_in as replayed_steps}
use Rattle.ppd_graph.specs.Found.{found_edges}
use Rattle.ppd_graph.specs.Seen.{Seen}
use Rattle.ppd_graph.specs.Shared.{found_last}
use Rattle.law_flow.specs.Edges.Assembled.{EdgesAreFound, HasOwnParts}
use Rattle.law_flow.specs.Edges.SharedEdges.{all_seen}
use Rattle.ppd_flow_shared.specs.SharedCells.{IsLastFound, seens_in}
use Rattle.ppd_flow.specs.Answers.{IsEdges}
use Rattle.ppd_flow.specs.Runs.{CostsEdges, CostsLast, IsOfRun, splits_in, story_in}
use Rattle.ppd_flow.proofs.OfRuns.{at_each_log, gives_edges, is_seen, seens_are}
use Rattle.ppd_flow_past.proofs.Found.{at_most_own}

-- ---- a past of a run

module _ (law : ReplaysAreSeen) (past : Past) (policy : Policy) (h : List ℕ) (v : IsValid past.program.now) (r : IsOfRun past policy h) where
  own_steps : (p i : ℕ) → replayed_steps past p i ≡ steps_in (slice_get (splits_in past h) p) i
  own_steps p i =
      ap (λ (logs : Logs). own_steps_of (past_setting past) (get_or logs.lists p []) i) r.cut_are
      ∙ at_each_log (past_setting past) (story_in past h)
      (λ es x. own_steps_of (past_setting past) es i ≡ steps_in x i) refl 0
      (told (past_setting past) h).moments
      (λ q x e. (is_seen law past policy h v r q x e).steps i) p

  -- at most these: what is kept is not replayed
  pub cost_within : (ms : List (ℕ × ℕ)) → cost past ms ≤ steps_of_all (splits_in past h) ms
  cost_within [] = omega arith
  cost_within (m ∷ ms) =
      let all = sum_by-cons (λ (n : ℕ × ℕ). steps_to_replay past n.0 n.1) m ms in
      let own = own_steps m.0 m.1 in
      let first = at_most_own past m.0 m.1 in
      let rest = cost_within ms in
      let each = sum_by-cons (λ (n : ℕ × ℕ). steps_in (slice_get (splits_in past h) n.0) n.1) m ms in
      omega (arith, all, own, first, rest, each)

pub costs_last : ReplaysAreSeen → LastCostsLittle → (past : Past) (c n m : ℕ) (res : Result (ℤ × Origin) FlowError) → IsValid past.program.now
    → IsLastFound past c n m res → CostsLast past c n m res
costs_last law little past c n m res v f policy h answer r lt is =
    let g : IsLastFound past c n m (Ok answer) = subst (λ (z : Result (ℤ × Origin) FlowError). IsLastFound past c n m z) is f in
    let same : (found_last past.program.now past.logs.now (seens_in past) c).replays ≡ (found_last past.program.now (closed_logs (past_setting past) h) (all_seen (past_setting past) h) c).replays =
    ap (λ (l : Logs). (found_last past.program.now l (seens_in past) c).replays) r.logs_are
    ∙ ap (λ (xs : List Seen). (found_last past.program.now (closed_logs (past_setting past) h) xs c).replays) (seens_are law past policy h v r) in
    let total : cost past (found_last past.program.now past.logs.now (seens_in past) c).replays
    ≤ steps_of_all (splits_in past h) (found_last past.program.now (closed_logs (past_setting past) h) (all_seen (past_setting past) h) c).replays =
    subst (λ (ms : List (ℕ × ℕ)). cost past (found_last past.program.now past.logs.now (seens_in past) c).replays ≤ steps_of_all (splits_in past h) ms) same
    (cost_within law past policy h v r (found_last past.program.now past.logs.now (seens_in past) c).replays) in
    let le = little (past_setting past) h r.whole.last c v r.whole.runs r.no_race lt in
    let rose = g.2 in
    omega (arith, total, le, rose)

edges_there : (o : Option (List FlowEdge)) (es : List FlowEdge) → Ok es ≡ ok_or o NoEvent → o ≡ Some es
edges_there None es e = cc
edges_there (Some ds) es e = cc

pub costs_edges : ReplaysAreSeen → EdgesAreFound → AllOwnPartsAreFound → EdgesCostLittle → (past : Past) (p k j n m : ℕ)
    (res : Result (List FlowEdge) FlowError) → IsValid past.program.now → IsEdges past p k j n m res → CostsEdges past p k j n m res
costs_edges law found own little past p k j n m res v f policy h x es r at is =
    let g : IsEdges past p k j n m (Ok es) = subst (λ (z : Result (List FlowEdge) FlowError). IsEdges past p k j n m z) is f in
    let there : edges (past_setting past) (story_in past h) p k j ≡ Some es =
    edges_there (edges (past_setting past) (story_in past h) p k j) es (gives_edges law found own past p k j n m (Ok es) v g policy h x r at) in
    let parts' : HasOwnParts past.program.now past.plan.now (splits_in past h) x p k j =
    subst (λ (pl : Plan). slice_get (splits (setting_of past.program.now pl past.budget) (story (setting_of past.program.now pl past.budget) h)) p ≡ Some x
    → HasOwnParts past.program.now pl (splits (setting_of past.program.now pl past.budget) (story (setting_of past.program.now pl past.budget) h)) x p k j)
    (sym r.plan_is) (λ e. own past.program.now policy past.budget h p k j x v e) at in
    let same : (found_edges past.program.now past.plan.now past.logs.now (seens_in past) p k j).replays ≡ (found_edges past.program.now past.plan.now (closed_logs (past_setting past) h) (all_seen (past_setting past) h) p k j).replays =
    ap (λ (l : Logs). (found_edges past.program.now past.plan.now l (seens_in past) p k j).replays) r.logs_are
    ∙ ap (λ (xs : List Seen). (found_edges past.program.now past.plan.now (closed_logs (past_setting past) h) xs p k j).replays) (seens_are law past policy h v r) in
    let total : cost past (found_edges past.program.now past.plan.now past.logs.now (seens_in past) p k j).replays
    ≤ steps_of_all (splits_in past h) (found_edges past.program.now past.plan.now (closed_logs (past_setting past) h) (all_seen (past_setting past) h) p k j).replays =
    subst (λ (ms : List (ℕ × ℕ)). cost past (found_edges past.program.now past.plan.now past.logs.now (seens_in past) p k j).replays ≤ steps_of_all (splits_in past h) ms) same
    (cost_within law past policy h v r (found_edges past.program.now past.plan.now past.logs.now (seens_in past) p k j).replays) in
    rise n m _ _ _ g.2 total (little (past_setting past) h r.whole.last p k j x es v r.whole.runs r.no_race at parts' there)
  where
    rise : (a b c d z : ℕ) → b ≡ a + c → c ≤ d → d ≤ z → b ≤ a + z
    rise a b c d z e1 e2 l = omega (arith, e1, e2, l)
