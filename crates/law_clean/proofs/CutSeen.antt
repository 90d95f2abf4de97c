-- What replays of a cut log give of its process: what the process has in its intervals by then.
use Rattle.law_steps.specs.Policies.{setting_by}
use Rattle.ppd_model.specs.Setting.{Setting, setting_of}
use Rattle.std.specs.Result.{result_unwrap_or}
use Rattle.std.proofs.Common.{◌≡◌, ℕ, zero, suc, ◌+◌, ◌≤◌, List, [], ◌∷◌, ◌++◌, map, get_or, Option, Some, None, refl, ap, ap₂, sym, subst, ◌∙◌, arith}
use Rattle.std.proofs.lemmas.List.Sums.{fold-append}
use Rattle.std.proofs.lemmas.Option.{none-some, slice_get-map}
use Rattle.std.specs.Prelude.{is_none, option_map, slice_get, if◌then◌else◌}
use Rattle.ppd_ast.specs.declared.plan.Plan.{Plan}
use Rattle.ppd_ast.specs.declared.plan.Policy.{Policy}
use Rattle.ppd_ast.specs.declared.program.Program.{Program}
use Rattle.ppd_ast.specs.declared.status.Status.TheVariants as status
use Rattle.ppd_ast.specs.Valid.{IsValid}
use Rattle.ppd_blocks.specs.Blocks.{plan_of}
use Rattle.ppd_model.specs.Replay.{Replayed, replay}
use Rattle.ppd_model.specs.declared.entry.Entry.{Entry}
use Rattle.ppd_model.specs.declared.entry.Entry.TheVariants as entry
use Rattle.ppd_model.specs.IntervalLogs.{LoggedInterval, indexed, log_by}
use Rattle.ppd_model.proofs.EntryWords.{log_in}
use Rattle.ppd_model.specs.declared.flow.Item.{Item}
use Rattle.ppd_model.specs.declared.state.Logging.{Logging}
use Rattle.ppd_model.specs.declared.tracing.Story.{Story}
use Rattle.ppd_model.specs.Bounds.{AreEach}
use Rattle.ppd_model.specs.Extents.{Extent, IsSameInterval, extents}
use Rattle.ppd_model.proofs.ExtentWords.{Extending, begun_extents, extend, extents_are}
use Rattle.ppd_model.specs.Intervals.{Span, Split, items_of, split_of, splits}
use Rattle.ppd_model.proofs.IntervalWords.{splits_from}
use Rattle.ppd_model.specs.Logs.{closed_log, log_of, loggings}
use Rattle.ppd_model.proofs.LogWords.{logs_from}
use Rattle.ppd_model.specs.Schedule.{IsWhole}
use Rattle.ppd_model.specs.Story.{Moment, steps_of as steps_of_moments, story, told}
use Rattle.ppd_model.proofs.Items.{split_found}
use Rattle.ppd_model.proofs.LoggedSpans.{intervals_of_logs}
use Rattle.ppd_flow_past.specs.SeenBy.{rounds_by, seen_by, told_by}
use Rattle.ppd_flow_past.proofs.Lists.{same_lists}
use Rattle.ppd_flow_past.proofs.Rounds.{rounds_of_split}
use Rattle.law_steps.specs.Theorem.Laws.{modelled_of, replay_of}
use Rattle.ppd_graph.specs.Seen.{Seen, seen_of}
use Rattle.law_clean.specs.Cuts.{stop}
use Rattle.law_clean.specs.Ordered.{IsUnracedIn}
use Rattle.law_clean.proofs.CutEdges.{cut_log, g, kept, replays_of_cut, runs_on}
use Rattle.law_clean.proofs.EdgeEnds.{EndsEdge}

-- ---- items

module _ (setting : Setting) (is : List LoggedInterval) (x : Split)
    (same : (k : ℕ) → replay_of setting (log_in setting.plan (slice_get is k)) ≡ modelled_of x (slice_get x.spans k)) where
  abbrev by_log : LoggedInterval → List Item
  by_log i = result_unwrap_or (told_by (replay setting.program setting.plan (log_by setting.plan i) setting.budget).answer) []

  logged : (o : Option LoggedInterval) → option_map by_log o ≡ option_map (λ (r : Replayed). result_unwrap_or (told_by r.answer) []) (replay_of setting (log_in setting.plan o))
  logged None = refl
  logged (Some i) = refl

  modelled : (o : Option Span) → option_map (λ (r : Replayed). result_unwrap_or (told_by r.answer) []) (modelled_of x o) ≡ option_map (items_of x) o
  modelled None = refl
  modelled (Some i) = refl

  pub items_same : map by_log is ≡ map (items_of x) x.spans
  items_same = same_lists (map by_log is) (map (items_of x) x.spans) (λ k.
      slice_get-map by_log is k ∙ logged (slice_get is k) ∙ ap (option_map (λ (r : Replayed). result_unwrap_or (told_by r.answer) [])) (same k)
      ∙ modelled (slice_get x.spans k) ∙ sym (slice_get-map (items_of x) x.spans k))

-- ---- blocks and rounds

pub same_blocks : (ss : List Span) (xs : List Extent) → AreEach IsSameInterval ss xs → map (λ (z : Extent). z.block) xs ≡ map (λ (i : Span). i.block) ss
same_blocks [] [] h = refl
same_blocks [] (z ∷ xs) h = absurd h
same_blocks (i ∷ ss) [] h = absurd h
same_blocks (i ∷ ss) (z ∷ xs) h = ap₂ (λ b bs. b ∷ bs) (sym h.0.block) (same_blocks ss xs h.1)

pub same_parents : (ss : List Span) (xs : List Extent) → AreEach IsSameInterval ss xs → map (λ (z : Extent). z.parent) xs ≡ map (λ (i : Span). slice_get i.round 0) ss
same_parents [] [] h = refl
same_parents [] (z ∷ xs) h = absurd h
same_parents (i ∷ ss) [] h = absurd h
same_parents (i ∷ ss) (z ∷ xs) h = ap₂ (λ b bs. b ∷ bs) (sym h.0.round) (same_parents ss xs h.1)

pub rounds_same : (setting : Setting) (h : List ℕ) (p : ℕ) (x : Split) → slice_get (splits setting (story setting h)) p ≡ Some x
    → rounds_by (map (λ (i : Span). slice_get i.round 0) x.spans) ≡ map (λ (i : Span). i.round) x.spans
rounds_same setting h p x e =
    let s : Story = story setting h in
    let z : 0 + p ≡ p = omega arith in
    let is : split_of setting s p (get_or s.steps p []) ≡ x = ap (λ k. split_of setting s k (get_or s.steps p [])) (sym z) ∙ split_found setting s 0 s.steps p x e in
    subst (λ (y : Split). rounds_by (map (λ (i : Span). slice_get i.round 0) y.spans) ≡ map (λ (i : Span). i.round) y.spans) is (rounds_of_split setting.program setting.plan s p setting.budget (get_or s.steps p []))

-- the log of a process that has intervals
module _ (setting : Setting) where
  pub logging_at : (s : Story) (q : ℕ) (ms : List (List Moment)) (p : ℕ) (x : Split) → slice_get (splits_from setting s q (map steps_of_moments ms)) p ≡ Some x
      → slice_get (logs_from setting q ms) p ≡ Some (log_of setting (q + p) (get_or ms p []))
  logging_at s q [] p x e = absurd (none-some x e)
  logging_at s q (m ∷ ms) zero x e = let z : q ≡ q + 0 = omega arith in ap (λ k. Some (log_of setting k m)) z
  logging_at s q (m ∷ ms) (suc p) x e = let z : (q + 1) + p ≡ q + suc p = omega arith in logging_at s (q + 1) ms p x e ∙ ap (λ k. Some (log_of setting k (get_or ms p []))) z

-- the intervals of a log that ends with a stop are those of one that ends blocked
stopped_extents : (l : Logging) → l.proc.status ≡ None → extents (closed_log l) ≡ extents (l.entries ++ stop ∷ [])
stopped_extents l runs =
    ap (λ o. extents (l.entries ++ (if is_none o then entry.End status.Blocked l.rest l.reads l.writes ∷ [] else []))) runs
    ∙ extents_are (l.entries ++ entry.End status.Blocked l.rest l.reads l.writes ∷ [])
    ∙ ap (λ (e : Extending). e.intervals) (fold-append extend begun_extents l.entries (entry.End status.Blocked l.rest l.reads l.writes ∷ []))
    ∙ sym (extents_are (l.entries ++ stop ∷ []) ∙ ap (λ (e : Extending). e.intervals) (fold-append extend begun_extents l.entries (stop ∷ [])))

module _ (program : Program) (policy : Policy) (budget : ℕ) (h : List ℕ) (p i : ℕ) (v : IsValid program) (whole : IsWhole (setting_by program policy budget) h)
    (ends : EndsEdge (setting_by program policy budget) h p i) (clear : (e : ℕ) → e ≤ i → IsUnracedIn (setting_by program policy budget) h p e) where
  abbrev plan : Plan
  plan = plan_of program policy

  abbrev begun : List ℕ
  begun = g program policy budget h p i v whole ends clear

  abbrev entries : List Entry
  entries = cut_log program policy budget h p i v whole ends clear

  abbrev seen : List (List Item) → List ℕ → List (List ℕ) → Seen
  seen items blocks rounds = record { items = items; blocks = blocks; rounds = rounds }

  pub cut_seen : (x : Split) → slice_get (splits (setting_of program plan budget) (story (setting_of program plan budget) begun)) p ≡ Some x → seen_by (setting_of program plan budget) entries ≡ seen_of x
  cut_seen x at =
      let l : Logging = kept program policy budget h p i v whole ends clear in
      let z : 0 + p ≡ p = omega arith in
      let there : slice_get (loggings (setting_of program plan budget) begun) p ≡ Some l =
      logging_at (setting_of program plan budget) (story (setting_of program plan budget) begun) 0 (told (setting_of program plan budget) begun).moments p x at
      ∙ ap (λ k. Some (log_of (setting_of program plan budget) k (get_or (told (setting_of program plan budget) begun).moments p []))) z in
      let each : AreEach IsSameInterval x.spans (extents entries) =
      subst (AreEach IsSameInterval x.spans) (stopped_extents l (runs_on program policy budget h p i v whole ends clear)) (intervals_of_logs (setting_of program plan budget) begun p x l at there).closed_are in
      ap₂ (λ a b. seen a b (rounds_by (map (λ (z : Extent). z.parent) (extents entries))))
      (items_same (setting_of program plan budget) (indexed entries) x (replays_of_cut program policy budget h p i v whole ends clear x at)) (same_blocks x.spans (extents entries) each)
      ∙ ap (seen (map (items_of x) x.spans) (map (λ (i : Span). i.block) x.spans))
      (ap rounds_by (same_parents x.spans (extents entries) each) ∙ rounds_same (setting_of program plan budget) begun p x at)
