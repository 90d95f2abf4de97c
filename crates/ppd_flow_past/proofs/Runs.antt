-- Of the logs of a run without a race the replays give the intervals of each process.
use Rattle.law_steps.specs.Policies.{setting_by}
use Rattle.ppd_model.specs.Setting.{Setting, setting_of}
use Rattle.std.specs.Result.{result_unwrap_or}
use Rattle.std.proofs.Common.{◌≡◌, ℕ, zero, suc, ◌+◌, List, [], ◌∷◌, Option, Some, None, refl, ap, ap₂, sym, subst, ◌∙◌, arith, map, get_or}
use Rattle.std.specs.Prelude.{option_map, slice_get}
use Rattle.std.proofs.lemmas.Option.{get_or_from_slice_get, none-some, slice_get-map}
use Rattle.ppd_ast.specs.Valid.{IsValid}
use Rattle.ppd_ast.specs.declared.plan.Plan.{Plan}
use Rattle.ppd_ast.specs.declared.plan.Policy.{Policy}
use Rattle.ppd_ast.specs.declared.program.Program.{Program}
use Rattle.ppd_blocks.specs.Blocks.{plan_of}
use Rattle.ppd_emul.specs.Replay.{Replayed, replay}
use Rattle.ppd_model.specs.declared.entry.Entry.{Entry}
use Rattle.ppd_model.specs.IntervalLogs.{LoggedInterval, indexed, log_by}
use Rattle.ppd_model.proofs.EntryWords.{log_in}
use Rattle.ppd_model.specs.declared.flow.Item.{Item}
use Rattle.ppd_model.specs.declared.state.Logging.{Logging}
use Rattle.ppd_model.specs.declared.tracing.Story.{Story}
use Rattle.ppd_model.specs.Bounds.{AreEach}
use Rattle.ppd_model.specs.Extents.{Extent, IsSameInterval, extents}
use Rattle.ppd_model.specs.Intervals.{Span, Split, items_of, split_of, splits}
use Rattle.ppd_model.proofs.IntervalWords.{splits_from}
use Rattle.ppd_model.specs.Logs.{closed_log, closed_logs}
use Rattle.ppd_model.proofs.LogWords.{logs_from}
use Rattle.ppd_model.specs.Races.{races}
use Rattle.ppd_model.specs.Schedule.{IsWhole}
use Rattle.ppd_model.specs.Story.{Moment, steps_of as steps_of_moments, story, told}
use Rattle.ppd_model.proofs.Items.{split_found}
use Rattle.ppd_model.proofs.LoggedSpans.{intervals_of_logs}
use Rattle.ppd_model.proofs.OneHistory.{map-map}
use Rattle.ppd_flow_past.specs.Honest.{IsSeen, ReplaysAreSeen}
use Rattle.ppd_flow_past.specs.SeenBy.{rounds_by, steps_of, told_by}
use Rattle.ppd_flow_past.proofs.Lists.{same_lists}
use Rattle.ppd_flow_past.proofs.Rounds.{rounds_of_split}
use Rattle.ppd_emul.specs.Laws.{modelled_in, modelled_of, replay_of}
use Rattle.ppd_emul.proofs.Replays.{replays_give_intervals}
use Rattle.ppd_emul.proofs.Emulated.{replayed}
use Rattle.ppd_graph.specs.Seen.{Seen}
use Rattle.ppd_graph.specs.Spans.{steps_of_span}
use Rattle.ppd_flow_past.proofs.SeenWords.{failure_of}

-- ---- items

as_replayed : (setting : Setting) (o : Option LoggedInterval)
    → replay_of setting (log_in setting.plan o) ≡ option_map (λ i. replay setting.program setting.plan (log_by setting.plan i) setting.budget) o
as_replayed setting None = refl
as_replayed setting (Some i) = refl

as_modelled : (x : Split) (o : Option Span) → modelled_of x o ≡ option_map (replayed x) o
as_modelled x None = refl
as_modelled x (Some i) = refl

module _ (setting : Setting) (is : List LoggedInterval) (x : Split)
    (same : (k : ℕ) → replay_of setting (log_in setting.plan (slice_get is k))
    ≡ modelled_of x (slice_get x.spans k)) where
  abbrev by_log : LoggedInterval → Replayed
  by_log i = replay setting.program setting.plan (log_by setting.plan i) setting.budget

  replays_same : map by_log is ≡ map (replayed x) x.spans
  replays_same = same_lists (map by_log is) (map (replayed x) x.spans) (λ k.
      slice_get-map by_log is k ∙ sym (as_replayed setting (slice_get is k))
      ∙ same k ∙ as_modelled x (slice_get x.spans k) ∙ sym (slice_get-map (replayed x) x.spans k))

  items_same : map (λ i. result_unwrap_or (told_by (by_log i).answer) []) is ≡ map (items_of x) x.spans
  items_same =
      sym (map-map (λ (r : Replayed). result_unwrap_or (told_by r.answer) []) by_log is)
      ∙ ap (map (λ (r : Replayed). result_unwrap_or (told_by r.answer) [])) replays_same
      ∙ map-map (λ (r : Replayed). result_unwrap_or (told_by r.answer) []) (replayed x) x.spans

no_failure : (x : Split) (o : Option Span) → failure_of (modelled_of x o) ≡ None
no_failure x None = refl
no_failure x (Some i) = refl

own_steps_are : (x : Split) (o : Option Span) → steps_of (modelled_of x o) ≡ steps_of_span o
own_steps_are x None = refl
own_steps_are x (Some i) = refl

-- ---- blocks and rounds

same_blocks : (ss : List Span) (xs : List Extent) → AreEach IsSameInterval ss xs
    → map (λ (z : Extent). z.block) xs ≡ map (λ (i : Span). i.block) ss
same_blocks [] [] h = refl
same_blocks [] (z ∷ xs) h = absurd h
same_blocks (i ∷ ss) [] h = absurd h
same_blocks (i ∷ ss) (z ∷ xs) h = ap₂ (λ b bs. b ∷ bs) (sym h.0.block) (same_blocks ss xs h.1)

same_parents : (ss : List Span) (xs : List Extent) → AreEach IsSameInterval ss xs
    → map (λ (z : Extent). z.parent) xs ≡ map (λ (i : Span). slice_get i.round 0) ss
same_parents [] [] h = refl
same_parents [] (z ∷ xs) h = absurd h
same_parents (i ∷ ss) [] h = absurd h
same_parents (i ∷ ss) (z ∷ xs) h = ap₂ (λ b bs. b ∷ bs) (sym h.0.round) (same_parents ss xs h.1)

-- ---- the log of a process

module _ (setting : Setting) (s : Story) where
  log_there : (q : ℕ) (ms : List (List Moment)) (p : ℕ) (x : Split)
      → slice_get (splits_from setting s q (map steps_of_moments ms)) p ≡ Some x
      → (l : Logging) × (slice_get (logs_from setting q ms) p ≡ Some l)
  log_there q [] p x e = absurd (none-some x e)
  log_there q (m ∷ ms) zero x e = (_, refl)
  log_there q (m ∷ ms) (suc p) x e = log_there (q + 1) ms p x e

rounds_same : (setting : Setting) (h : List ℕ) (p : ℕ) (x : Split)
    → slice_get (splits setting (story setting h)) p ≡ Some x
    → rounds_by (map (λ (i : Span). slice_get i.round 0) x.spans) ≡ map (λ (i : Span). i.round) x.spans
rounds_same setting h p x e =
    let s : Story = story setting h in
    let z : 0 + p ≡ p = omega arith in
    let is : split_of setting s p (get_or s.steps p []) ≡ x =
    ap (λ k. split_of setting s k (get_or s.steps p [])) (sym z)
    ∙ split_found setting s 0 s.steps p x e in
    subst (λ (y : Split). rounds_by (map (λ (i : Span). slice_get i.round 0) y.spans)
    ≡ map (λ (i : Span). i.round) y.spans) is
    (rounds_of_split setting.program setting.plan s p setting.budget (get_or s.steps p []))

abbrev seen : List (List Item) → List ℕ → List (List ℕ) → Seen
seen items blocks rounds = record { items = items; blocks = blocks; rounds = rounds }

module _ (program : Program) (policy : Policy) (budget : ℕ) (h : List ℕ) (p : ℕ) (x : Split) (v : IsValid program)
    (whole : IsWhole (setting_by program policy budget) h)
    (free : races (setting_by program policy budget) h ≡ [])
    (e : slice_get (splits (setting_by program policy budget) (story (setting_by program policy budget) h)) p ≡ Some x) where
  abbrev plan : Plan
  plan = plan_of program policy

  abbrev entries : List Entry
  entries = get_or (closed_logs (setting_of program plan budget) h).lists p []

  same : (k : ℕ) → replay_of (setting_of program plan budget) (log_in plan (slice_get (indexed entries) k))
      ≡ modelled_of x (slice_get x.spans k)
  same k = replays_give_intervals program policy budget h p k v whole free ∙ ap (modelled_in k) e

  each : AreEach IsSameInterval x.spans (extents entries)
  each =
      let found = log_there (setting_of program plan budget) (story (setting_of program plan budget) h) 0
      (told (setting_of program plan budget) h).moments p x e in
      let ls : List Logging = logs_from (setting_of program plan budget) 0 (told (setting_of program plan budget) h).moments in
      let is : entries ≡ closed_log found.0 =
      get_or_from_slice_get (map closed_log ls) p (closed_log found.0) [] (slice_get-map closed_log ls p
      ∙ ap (option_map closed_log) found.1) in
      subst (λ es. AreEach IsSameInterval x.spans (extents es)) (sym is)
      (intervals_of_logs (setting_of program plan budget) h p x found.0 e found.1).closed_are

  all_seen : IsSeen (setting_of program plan budget) entries x
  all_seen = record {
    seen =
        ap₂ (λ a b. seen a b (rounds_by (map (λ (z : Extent). z.parent) (extents entries))))
        (items_same (setting_of program plan budget) (indexed entries) x same) (same_blocks x.spans (extents entries) each)
        ∙ ap (seen (map (items_of x) x.spans) (map (λ (i : Span). i.block) x.spans))
        (ap rounds_by (same_parents x.spans (extents entries) each) ∙ rounds_same (setting_of program plan budget) h p x e);
    never_fails = λ k. ap failure_of (same k) ∙ no_failure x (slice_get x.spans k);
    steps = λ k. ap steps_of (same k) ∙ own_steps_are x (slice_get x.spans k);
  }

pub replays_are_seen : ReplaysAreSeen
replays_are_seen program policy budget h p x v whole free e = all_seen program policy budget h p x v whole free e
