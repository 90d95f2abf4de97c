-- What is replayed for the edges of an item and for a last value of a run without a race.
use Rattle.std.specs.Prelude.{◌*◌, None, Some, length, option_map, slice_get, sum_by, get_or}
use Rattle.std.proofs.Common.{◌≡◌, ℕ, ◌+◌, ◌<◌, ◌≤◌, ℤ, List, [], ◌∷◌, Option, Result, Ok, arith, refl, ap, ap₂, sym, subst, ◌∙◌}
use Rattle.std.proofs.lemmas.List.Sums.{sum_by-cons}
use Rattle.std.proofs.lemmas.Option.{none-some}
use Rattle.ppd_ast.specs.Valid.{IsValid}
use Rattle.law_steps.specs.Theorem.Laws.{ReplaysGiveIntervals, modelled_in, modelled_of}
use Rattle.law_flow.specs.Loops.AllOwnParts.{AllOwnPartsAreFound}
use Rattle.law_flow.specs.Costs.Bounds.{EdgesCostLittle, LastCostsLittle, steps_in, steps_of_all}
use Rattle.law_flow.specs.Edges.Assembled.{EdgesAreFound}
use Rattle.law_flow.specs.Edges.SharedEdges.{LastWritesAreFound, all_seen}
use Rattle.ppd_session.specs.Answers.{answer_if}
use Rattle.ppd_graph.specs.Found.{found_edges}
use Rattle.ppd_graph.specs.Seen.{Seen}
use Rattle.ppd_graph.specs.Spans.{steps_of_span}
use Rattle.ppd_graph.specs.Shared.{found_last}
use Rattle.ppd_model.specs.declared.flow_error.FlowError.{FlowError}
use Rattle.ppd_flow_past.specs.ByReplays.{first_failed, unless_kept}
use Rattle.ppd_flow_past.specs.Pasts.{items_kept}
use Rattle.ppd_flow_past.specs.SeenBy.{failed_at, own_steps_of, steps_of}
use Rattle.ppd_flow_shared.specs.SharedCells.{answer_of}
use Rattle.ppd_model.specs.declared.flow.FlowEdge.{FlowEdge}
use Rattle.ppd_model.specs.declared.flow.Origin.{Origin}
use Rattle.ppd_model.specs.FlowbackEdges.{last}
use Rattle.ppd_model.proofs.EdgeWords.{edges_in}
use Rattle.ppd_model.specs.Intervals.{Span, Split}
use Rattle.ppd_model.specs.NearIntervals.{last_steps, near_steps}
use Rattle.ppd_model.specs.Races.{races}
use Rattle.ppd_model.specs.Schedule.{IsWhole}
use Rattle.ppd_session.specs.Known.{seens}
use Rattle.ppd_session.proofs.Honest.{all_there}
use Rattle.law_headline.specs.Answered.{HasEdges}
use Rattle.law_headline.specs.Replayed.{Kept, ReplaysAreFew, kept_of}
use Rattle.law_headline.specs.Runs.{Run, logs_in, plan_in, splits_in, story_in, setting_in}
use Rattle.ppd_flow_past.proofs.SeenWords.{failure_of}

-- ---- an interval that is there, or not

fails_nowhere : (k : ℕ) (o : Option Split) → failure_of (modelled_in k o) ≡ None
fails_nowhere k None = refl
fails_nowhere k (Some y) = by (slice_get y.spans k)
  where
    by : (i : Option Span) → failure_of (modelled_of y i) ≡ None
    by None = refl
    by (Some i) = refl

steps_there : (k : ℕ) (o : Option Split) → steps_of (modelled_in k o) ≡ steps_in o k
steps_there k None = refl
steps_there k (Some y) = by (slice_get y.spans k)
  where
    by : (i : Option Span) → steps_of (modelled_of y i) ≡ steps_of_span i
    by None = refl
    by (Some i) = refl

-- ---- what is answered of what is kept

same_found : {A : Type 0} (a b : A) → ◌≡◌ {A = Result A FlowError} (Ok a) (Ok b) → a ≡ b
same_found a b e = cc

rise : (before after c d z : ℕ) → after ≡ before + c → c ≡ d → d ≤ z → after ≤ before + z
rise before after c d z e f le = omega (arith, e, f, le)

abbrev seens_of : Kept → List Seen
seens_of x = seens x.setting x.cut

-- what replays of these intervals give, and what they add to the counter
abbrev IsBy : {A : Type 0} → Kept → List (ℕ × ℕ) → Result A FlowError → (before after : ℕ) → A → Type 0
IsBy x ms answer before after found =
    (first_failed x.setting x.cut ms ≡ None) × (answer ≡ Ok found)
    × (after
    ≡ before
    + sum_by
    (λ (m : ℕ × ℕ). unless_kept (items_kept x.kept m.0 m.1) (own_steps_of x.setting (get_or x.cut.lists m.0 []) m.1))
    ms)

abbrev HasAnswered : (p k j before after : ℕ) → List FlowEdge → Kept → Type 0
HasAnswered p k j before after found x =
    IsBy x (found_edges x.setting.program x.setting.plan x.logs (seens_of x) p k j).replays (answer_if (found_edges x.setting.program x.setting.plan x.logs (seens_of x) p k j).found) before after found

abbrev HasAnsweredLast : (c before after : ℕ) → ℤ × Origin → Kept → Type 0
HasAnsweredLast c before after found x =
    IsBy x (found_last x.setting.program x.logs (seens_of x) c).replays (answer_of (found_last x.setting.program x.logs (seens_of x) c).found) before after found

module _ (r : Run) (valid : IsValid r.program) (whole : IsWhole (setting_in r) r.schedule) (free : races (setting_in r) r.schedule ≡ []) where
  abbrev xs : List Split
  xs = splits_in r r.schedule

  seen_there : seens (setting_in r) (logs_in r) ≡ all_seen (setting_in r) r.schedule
  seen_there = sym (all_there r.program r.policy r.budget r.schedule valid whole free)

  module _ (gives : ReplaysGiveIntervals) where
    never : (p k : ℕ) → failed_at (setting_in r) (get_or (logs_in r).lists p []) k ≡ None
    never p k = ap failure_of (gives r.program r.policy r.budget r.schedule p k valid whole free) ∙ fails_nowhere k (slice_get xs p)

    own_steps : (p k : ℕ) → own_steps_of (setting_in r) (get_or (logs_in r).lists p []) k ≡ steps_in (slice_get xs p) k
    own_steps p k = ap steps_of (gives r.program r.policy r.budget r.schedule p k valid whole free) ∙ steps_there k (slice_get xs p)

    cost : (ms : List (ℕ × ℕ)) → sum_by (λ (m : ℕ × ℕ). own_steps_of (setting_in r) (get_or (logs_in r).lists m.0 []) m.1) ms ≡ steps_of_all xs ms
    cost [] = refl
    cost (m ∷ ms) =
        sum_by-cons (λ (n : ℕ × ℕ). own_steps_of (setting_in r) (get_or (logs_in r).lists n.0 []) n.1) m ms
        ∙ ap₂ (λ a b. a + b) (own_steps m.0 m.1) (cost ms)
        ∙ sym (sum_by-cons (λ (n : ℕ × ℕ). steps_in (slice_get xs n.0) n.1) m ms)

    -- ---- edges

    module _ (found_law : EdgesAreFound) (own : AllOwnPartsAreFound) (little : EdgesCostLittle) (p k j before after : ℕ) (es found : List FlowEdge) (has : HasEdges r r.schedule p k j es) where
      at_split : HasAnswered p k j before after found (kept_of r) → (y : Split) → slice_get xs p ≡ Some y
          → (found ≡ es) × (after ≤ before + 2 * (length es + 1) * near_steps (setting_in r) (story_in r r.schedule) p k j)
      at_split g y e =
          let parts = own r.program r.policy r.budget r.schedule p k j y valid e in
          let is : (found_edges r.program (plan_in r) (logs_in r) (all_seen (setting_in r) r.schedule) p k j).found ≡ Some (Ok es) =
          found_law (setting_in r) r.schedule whole.last valid whole.runs free p k j y e parts ∙ ap (option_map (λ ds. Ok ds)) has in
          let same : (found_edges r.program (plan_in r) (logs_in r) (seens (setting_in r) (logs_in r)) p k j).replays ≡ (found_edges r.program (plan_in r) (logs_in r) (all_seen (setting_in r) r.schedule) p k j).replays =
          ap (λ s. (found_edges r.program (plan_in r) (logs_in r) s p k j).replays) seen_there in (
            same_found found es (sym g.1 ∙ (ap (λ s. answer_if (found_edges r.program (plan_in r) (logs_in r) s p k j).found) seen_there ∙ ap answer_if is)),
            rise before after _ _ _ g.2 (cost (found_edges r.program (plan_in r) (logs_in r) (seens (setting_in r) (logs_in r)) p k j).replays ∙ ap (steps_of_all xs) same)
                (little (setting_in r) r.schedule whole.last p k j y es valid whole.runs free e parts has),
          )

      few : HasAnswered p k j before after found (kept_of r)
          → (found ≡ es) × (after ≤ before + 2 * (length es + 1) * near_steps (setting_in r) (story_in r r.schedule) p k j)
      few g = by (slice_get xs p) refl
        where
          by : (o : Option Split) → slice_get xs p ≡ o
              → (found ≡ es) × (after ≤ before + 2 * (length es + 1) * near_steps (setting_in r) (story_in r r.schedule) p k j)
          by (Some y) e = at_split g y e
          by None e = absurd (none-some es (sym (ap (edges_in r.program (plan_in r) xs k j) e) ∙ has))

    -- ---- last values

    few_for_last : LastWritesAreFound → LastCostsLittle → (c before after : ℕ) (found : ℤ × Origin) → c < length r.program.starts → HasAnsweredLast c before after found (kept_of r)
        → (found ≡ last (setting_in r) (story_in r r.schedule) c) × (after ≤ before + last_steps (setting_in r) (story_in r r.schedule) c)
    few_for_last found_law little c before after found lt g =
        let is = found_law (setting_in r) r.schedule whole.last valid whole.runs free c lt in
        let same : (found_last r.program (logs_in r) (seens (setting_in r) (logs_in r)) c).replays ≡ (found_last r.program (logs_in r) (all_seen (setting_in r) r.schedule) c).replays =
        ap (λ s. (found_last r.program (logs_in r) s c).replays) seen_there in (
          same_found found (last (setting_in r) (story_in r r.schedule) c) (sym g.1 ∙ (ap (λ s. answer_of (found_last r.program (logs_in r) s c).found) seen_there ∙ ap answer_of is)),
          rise before after _ _ _ g.2 (cost (found_last r.program (logs_in r) (seens (setting_in r) (logs_in r)) c).replays ∙ ap (steps_of_all xs) same)
              (little (setting_in r) r.schedule whole.last c valid whole.runs free lt),
        )

pub replays_few : ReplaysGiveIntervals → EdgesAreFound → AllOwnPartsAreFound → EdgesCostLittle → LastWritesAreFound → LastCostsLittle
    → (r : Run) → IsValid r.program → IsWhole (setting_in r) r.schedule → races (setting_in r) r.schedule ≡ [] → ReplaysAreFew r
replays_few gives found own little lasts last_little r valid whole free = record {
  none_fails = never r valid whole free gives;
  own_steps = own_steps r valid whole free gives;
  edges = λ past p k j before after es answer kept has is.
      few r valid whole free gives found own little p k j before after es answer has (subst (λ x. HasAnswered p k j before after answer x) kept is);
  lasts = λ past c before after answer kept lt is.
      few_for_last r valid whole free gives lasts last_little c before after answer lt (subst (λ x. HasAnsweredLast c before after answer x) kept is);
}
