-- The replays for the last value of a cell are of intervals that are open where it was written.
use Rattle.ppd_model.specs.Setting.{Setting}
use Rattle.std.proofs.Common.{◌≡◌, ℕ, ◌≤◌, ℤ, Bool, List, [], ◌∷◌, ◌++◌, Option, Some, None, Ok, refl, ap, sym, ◌∙◌, subst, arith, true≢false}
use Rattle.std.specs.Prelude.{sum_by}
use Rattle.std.proofs.lemmas.List.{append-nil}
use Rattle.ppd_ast.specs.Valid.{IsValid}
use Rattle.ppd_model.specs.declared.entry.Logs.{Logs}
use Rattle.ppd_model.specs.declared.flow.Origin.{Origin}
use Rattle.ppd_model.specs.declared.graph.EdgeId.{EdgeId}
use Rattle.ppd_model.specs.FlowbackEdges.{last, part_at}
use Rattle.ppd_model.specs.Intervals.{Span, Split, splits}
use Rattle.ppd_model.specs.Logs.{closed_logs}
use Rattle.ppd_model.specs.NearIntervals.{edge_of_event, is_open_at, is_open_in, open_at_origin, open_beside, passing}
use Rattle.ppd_model.specs.Story.{story}
use Rattle.ppd_model.proofs.Changes.{some}
use Rattle.ppd_graph.specs.Seen.{Seen}
use Rattle.ppd_graph.specs.Shared.{greatest_writing, is_before_in, of_process, writing, written_in, written_or_start}
use Rattle.law_flow.specs.Edges.SharedEdges.{all_seen}
use Rattle.law_flow.specs.Edges.Within.{cost}
use Rattle.law_flow.proofs.Edges.Near.Distinct.{not_in_list}
use Rattle.law_flow.proofs.Edges.Sources.LastOrigins.{last_found}
use Rattle.law_flow.proofs.Edges.Within.{replays_within}
use Rattle.law_flow.specs.Costs.Bounds.{LastCostsLittle, steps_of_all}
use Rattle.law_flow.proofs.Costs.Own.Near.{all_steps_of}
use Rattle.law_flow.proofs.Costs.Walks.Counts.{greatest_in}
use Rattle.law_flow.proofs.Costs.Walks.Written.{IsNearWrite, near_write}

module _ (setting : Setting) (h : List ℕ) (v : IsValid setting.program) where
  abbrev xs : List Split
  xs = splits setting (story setting h)

  abbrev logs : Logs
  logs = closed_logs setting h

  abbrev seens : List Seen
  seens = all_seen setting h

  write_little : (c : ℕ) (a : EdgeId) (from : Origin) → IsNearWrite setting h v c a from
      → steps_of_all xs (written_in logs seens c a).replays ≤ sum_by (λ (i : Span). i.steps) (open_at_origin xs from)
  write_little c a from nw =
      let near : ℕ → Split → ℕ → Span → Bool = λ q y m i. is_open_at y (part_at y nw.interval nw.item) i in
      let little : cost nw.split.spans nw.replays ≤ sum_by (λ (i : Span). i.steps) (passing (λ m i. is_open_at nw.split (part_at nw.split nw.interval nw.item) i) 0 nw.split.spans ++ []) =
      replays_within near (nw.split ∷ []) 0 nw.split nw.replays refl nw.once
      (λ m i g far. not_in_list m nw.replays (λ f.
      let o = nw.opens m f in
      let same : o.span ≡ i = some (sym o.is_there ∙ g) in
      true≢false (sym o.is_open ∙ ap (is_open_in nw.split (edge_of_event nw.split nw.event)) same ∙ sym (ap (λ q. is_open_at nw.split q i) nw.part) ∙ far))) in
      let is : steps_of_all xs (of_process a.process nw.replays) ≡ cost nw.split.spans nw.replays = all_steps_of xs a.process nw.split nw.replays nw.there in
      let opens : open_at_origin xs from ≡ passing (λ m i. is_open_at nw.split (part_at nw.split nw.interval nw.item) i) 0 nw.split.spans =
      ap (open_at_origin xs) nw.from_is ∙ ap (λ o. open_beside o nw.interval nw.item) nw.there in
      subst (λ l. steps_of_all xs l ≤ sum_by (λ (i : Span). i.steps) (open_at_origin xs from)) (ap (of_process a.process) nw.replays_are)
      (subst (λ l. steps_of_all xs (of_process a.process nw.replays) ≤ sum_by (λ (i : Span). i.steps) l) (sym (opens ∙ sym (append-nil _)))
      (omega (arith, is, little)))

  start_little : (c : ℕ) (o : Option EdgeId) (u : ℤ × Origin) → ((a : EdgeId) → o ≡ Some a → greatest_writing setting.program logs c ≡ Some a) → (written_or_start setting.program logs seens c o).found ≡ Ok u
      → steps_of_all xs (written_or_start setting.program logs seens c o).replays ≤ sum_by (λ (i : Span). i.steps) (open_at_origin xs u.1)
  start_little c None u g e = omega arith
  start_little c (Some a) u g e = write_little c a u.1 (near_write setting h v c a u.0 u.1 (greatest_in (is_before_in setting.program logs) a (writing logs c) (g a refl)) e)

pub last_cheap : LastCostsLittle
last_cheap setting h w c v r free lt =
    start_little setting h v c (greatest_writing setting.program (closed_logs setting h) c) (last setting (story setting h) c) (λ a e. e)
    (last_found setting h w v r free c lt)
