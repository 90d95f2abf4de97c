-- What a process had by then: an interval that was left in an edge that had ended, at its place.
use Rattle.law_steps.specs.Policies.{setting_by}
use Rattle.ppd_model.specs.Setting.{Setting, setting_of}
use Rattle.law_clean.proofs.CutIs.{log_tail, syncs_are, tail}
use Rattle.law_clean.proofs.CutRuns.{moments_grow}
use Rattle.law_clean.proofs.CutSeen.{logging_at}
use Rattle.law_clean.proofs.Items.{closed_stays, part_kept, span_kept}
use Rattle.law_clean.proofs.LeftBy.{left_before}
use Rattle.law_clean.proofs.PastWords.{left_in}
use Rattle.law_clean.specs.Pasts.{left_edge}
use Rattle.law_flow.proofs.Places.LeafTells.{split_is}
use Rattle.law_flow.proofs.Costs.Steps.Entries.{entries_are}
use Rattle.law_flow.proofs.Edges.Near.Tree.{IsParent, IsTree, has_tree}
use Rattle.law_flow.proofs.Edges.Spans.Facts.{Logged}
use Rattle.law_flow.proofs.Edges.Spans.Tiles.{Stands, outermost, within}
use Rattle.law_flow.proofs.Edges.Spans.Told.{IsPlaced}
use Rattle.law_flow.proofs.Edges.StepEvents.Processes.{Facts, facts}
use Rattle.law_steps.proofs.OpenBlocks.Told.{own_syncs_are}
use Rattle.ppd_ast.specs.Valid.{IsValid}
use Rattle.ppd_ast.specs.declared.plan.Plan.{Plan}
use Rattle.ppd_ast.specs.declared.plan.Policy.{Policy}
use Rattle.ppd_ast.specs.declared.program.Program.{Program}
use Rattle.ppd_ast.specs.declared.status.Status.TheVariants as status
use Rattle.ppd_blocks.specs.Blocks.{plan_of}
use Rattle.ppd_model.specs.declared.entry.Entry.{Entry}
use Rattle.ppd_model.specs.declared.entry.Entry.TheVariants as entry
use Rattle.ppd_graph.specs.Ends.{syncs_before}
use Rattle.ppd_model.proofs.Changes.{some}
use Rattle.ppd_model.proofs.EdgeWords.{part_in}
use Rattle.ppd_model.proofs.Extents.{extents_match}
use Rattle.ppd_model.proofs.LoggedSpans.{intervals_of_logs}
use Rattle.ppd_model.specs.Bounds.{AreEach}
use Rattle.ppd_model.specs.Extents.{Extent, IsSameInterval, extents}
use Rattle.ppd_model.specs.FlowbackEdges.{part_at}
use Rattle.ppd_model.specs.Forward.{edge_in}
use Rattle.ppd_model.specs.Intervals.{Part, Span, Split, nested, split_of, splits}
use Rattle.ppd_model.specs.Laws.{begins}
use Rattle.ppd_model.specs.Logs.{begun_log, closed_log, closed_logs, log_of, log_step, loggings}
use Rattle.ppd_model.specs.RecordedSets.{sync_in}
use Rattle.ppd_model.specs.Story.{Moment, Telling, steps_of, story, tell, told}
use Rattle.ppd_model.specs.declared.state.Logging.{Logging}
use Rattle.ppd_model.specs.declared.tracing.Story.{Story}
use Rattle.ppd_model.specs.declared.tracing.Taken.{Taken}
use Rattle.std.proofs.Common.{Bool, List, None, Option, Some, [], ap, arith, false, if◌then◌else◌, length, length-append, refl, subst, suc, sym, true, zero, ℕ, ◌++◌, ◌+◌, ◌<◌, ◌∙◌, ◌∷◌, ◌≡◌, ◌≤◌}
use Rattle.std.proofs.lemmas.List.{append-nil}
use Rattle.std.proofs.lemmas.List.Elements.{filter_map-append}
use Rattle.std.proofs.lemmas.List.Sums.{fold-append}
use Rattle.std.proofs.lemmas.Option.{none-some}
use Rattle.std.specs.Prelude.{filter_map, fold, get_or, is_none, is_some, slice_get, unwrap_or}

first_at : {A B : Type 0} (R : A → B → Type 0) (xs : List A) (ys : List B) (m : ℕ) (x : A) → AreEach R xs ys → slice_get xs m ≡ Some x → (y : B) × (slice_get ys m ≡ Some y) × R x y
first_at R [] ys m x h e = absurd (none-some x e)
first_at R (a ∷ xs) [] m x h e = absurd h
first_at R (a ∷ xs) (b ∷ ys) zero x h e = (b, refl, subst (λ z. R z b) (some e) h.0)
first_at R (a ∷ xs) (b ∷ ys) (suc m) x h e = first_at R xs ys m x h.1 e

second_at : {A B : Type 0} (R : A → B → Type 0) (xs : List A) (ys : List B) (m : ℕ) (y : B) → AreEach R xs ys → slice_get ys m ≡ Some y → (x : A) × (slice_get xs m ≡ Some x) × R x y
second_at R xs [] m y h e = absurd (none-some y e)
second_at R [] (b ∷ ys) m y h e = absurd h
second_at R (a ∷ xs) (b ∷ ys) zero y h e = (a, refl, subst (R a) (some e) h.0)
second_at R (a ∷ xs) (b ∷ ys) (suc m) y h e = second_at R xs ys m y h.1 e

-- the log of a process in a schedule
pub log_there : (setting : Setting) (h : List ℕ) (p : ℕ) (y : Split) → slice_get (splits setting (story setting h)) p ≡ Some y
    → slice_get (loggings setting h) p ≡ Some (log_of setting p (get_or (told setting h).moments p []))
log_there setting h p y at =
    let z : 0 + p ≡ p = omega arith in
    logging_at setting (story setting h) 0 (told setting h).moments p y at
    ∙ ap (λ k. Some (log_of setting k (get_or (told setting h).moments p []))) z

-- a process did so many synchronizations as its log has
pub syncs_in_log : (setting : Setting) (h : List ℕ) (p : ℕ) → edge_in setting h p ≡ length (filter_map sync_in (log_of setting p (get_or (told setting h).moments p [])).entries)
syncs_in_log setting h p =
    ap length (own_syncs_are setting h p)
    ∙ sym (ap length (syncs_are setting.program setting.plan (get_or (told setting h).moments p []) (begun_log setting p)))

-- the end of a process is no synchronization
pub closed_syncs : (l : Logging) → length (filter_map sync_in (closed_log l)) ≡ length (filter_map sync_in l.entries)
closed_syncs l = by (is_none l.proc.status)
  where
    by : (b : Bool) → length (filter_map sync_in (l.entries ++ (if b then entry.End status.Blocked l.rest l.reads l.writes ∷ [] else []))) ≡ length (filter_map sync_in l.entries)
    by true = ap length (filter_map-append sync_in l.entries (entry.End status.Blocked l.rest l.reads l.writes ∷ []) ∙ append-nil (filter_map sync_in l.entries))
    by false = ap (λ es. length (filter_map sync_in es)) (append-nil l.entries)

pub total_syncs : (setting : Setting) (h : List ℕ) (p : ℕ) (y : Split) → slice_get (splits setting (story setting h)) p ≡ Some y
    → length (filter_map sync_in (get_or (closed_logs setting h).lists p [])) ≡ edge_in setting h p
total_syncs setting h p y at =
    ap (λ es. length (filter_map sync_in es)) (entries_are setting h p y at)
    ∙ closed_syncs (log_of setting p (get_or (told setting h).moments p [])) ∙ sym (syncs_in_log setting h p)

module _ (program : Program) (policy : Policy) (budget : ℕ) (g rest : List ℕ) (p : ℕ) (v : IsValid program) (x y : Split)
    (at_g : slice_get (splits (setting_by program policy budget) (story (setting_by program policy budget) g)) p ≡ Some x)
    (at : slice_get (splits (setting_by program policy budget) (story (setting_by program policy budget) (g ++ rest))) p ≡ Some y) where
  abbrev plan : Plan
  plan = plan_of program policy

  abbrev entries : List Entry
  entries = get_or (closed_logs (setting_of program plan budget) (g ++ rest)).lists p []

  abbrev kept : Logging
  kept = log_of (setting_of program plan budget) p (get_or (told (setting_of program plan budget) g).moments p [])

  pub more : (more : List Moment) × (get_or (told (setting_of program plan budget) (g ++ rest)).moments p [] ≡ get_or (told (setting_of program plan budget) g).moments p [] ++ more)
  more = moments_grow (setting_of program plan budget) rest g p

  -- the log begins with what it was by then
  pub entries_begin : entries ≡ kept.entries ++ tail program plan kept more.0
  entries_begin =
      entries_are (setting_of program plan budget) (g ++ rest) p y at
      ∙ ap (λ ms. closed_log (log_of (setting_of program plan budget) p ms)) more.1
      ∙ ap closed_log (fold-append (log_step program plan) (begun_log (setting_of program plan budget) p) (get_or (told (setting_of program plan budget) g).moments p []) more.0)
      ∙ log_tail program plan more.0 kept

  abbrev Each : List Span → List Entry → Type 0
  Each spans es = AreEach IsSameInterval spans (extents es)

  y_each : AreEach IsSameInterval y.spans (extents entries)
  y_each =
      subst (Each y.spans) (sym (entries_are (setting_of program plan budget) (g ++ rest) p y at))
      (intervals_of_logs (setting_of program plan budget) (g ++ rest) p y (log_of (setting_of program plan budget) p (get_or (told (setting_of program plan budget) (g ++ rest)).moments p [])) at (log_there (setting_of program plan budget) (g ++ rest) p y at)).closed_are

  x_each : AreEach IsSameInterval x.spans (extents kept.entries)
  x_each = (intervals_of_logs (setting_of program plan budget) g p x kept at_g (log_there (setting_of program plan budget) g p x at_g)).kept_are

  -- an interval that was left in an edge that had ended
  module _ (m : ℕ) (j : Span) (is : slice_get y.spans m ≡ Some j) (few : edge_in (setting_of program plan budget) g p ≤ length (filter_map sync_in (get_or (closed_logs (setting_of program plan budget) (g ++ rest)).lists p [])))
      (lt : left_edge (get_or (closed_logs (setting_of program plan budget) (g ++ rest)).lists p []) m < edge_in (setting_of program plan budget) g p) where
    z : (z : Extent) × (slice_get (extents entries) m ≡ Some z) × IsSameInterval j z
    z = first_at IsSameInterval y.spans (extents entries) m j y_each is

    under : left_in entries (Some z.0) < edge_in (setting_of program plan budget) g p
    under = subst (λ o. left_in entries o < edge_in (setting_of program plan budget) g p) z.1 lt

    by_closed : (b : Bool) → z.0.closed ≡ b → (i : Span) × (slice_get x.spans m ≡ Some i) × (is_some i.closed ≡ true)
    by_closed false c =
        let all : length (filter_map sync_in entries) < edge_in (setting_of program plan budget) g p =
        subst (λ b. (if b then syncs_before entries (unwrap_or z.0.last 0) else length (filter_map sync_in entries)) < edge_in (setting_of program plan budget) g p) c under in
        absurd (omega (arith, all, few))
    by_closed true c =
        let l = (extents_match entries m z.0 z.1).left c in
        let less : syncs_before entries (unwrap_or z.0.last 0) < edge_in (setting_of program plan budget) g p =
        subst (λ b. (if b then syncs_before entries (unwrap_or z.0.last 0) else length (filter_map sync_in entries)) < edge_in (setting_of program plan budget) g p) c under in
        let here : syncs_before entries l.0 < edge_in (setting_of program plan budget) g p = subst (λ o. syncs_before entries (unwrap_or o 0) < edge_in (setting_of program plan budget) g p) l.1 less in
        let there : syncs_before (kept.entries ++ tail program plan kept more.0) l.0 < length (filter_map sync_in kept.entries) =
        subst (λ es. syncs_before es l.0 < length (filter_map sync_in kept.entries)) entries_begin (subst (λ n. syncs_before entries l.0 < n) (syncs_in_log (setting_of program plan budget) g p) here) in
        let old = left_before kept.entries (tail program plan kept more.0) m z.0 l.0 (ap (λ es. slice_get (extents es) m) (sym entries_begin) ∙ z.1) c l.1 there in
        let i = second_at IsSameInterval x.spans (extents kept.entries) m old.0 x_each old.1 in
        let same : IsSameInterval i.0 old.0 = i.2 in
        (i.0, i.1, same.closed ∙ old.2)

    pub left_then : (i : Span) × (slice_get x.spans m ≡ Some i) × (is_some i.closed ≡ true)
    left_then = by_closed z.0.closed refl

  -- ---- its place

  fx : Facts (setting_of program plan budget) g v p x
  fx = facts (setting_of program plan budget) g v p x at_g

  tree : IsTree y.spans y.running
  tree =
      subst (λ (w : Split). IsTree w.spans w.running) (split_is (setting_of program plan budget) (g ++ rest) p y at)
      (has_tree program plan (story (setting_of program plan budget) (g ++ rest)) p budget (get_or (story (setting_of program plan budget) (g ++ rest)).steps p []))

  span_of : (o : Option Span) (j : ℕ) (q : Part) → part_in o j ≡ Some q → (i : Span) × (o ≡ Some i) × (slice_get i.parts j ≡ Some q)
  span_of None j q e = absurd (none-some q e)
  span_of (Some i) j q e = (i, refl, e)

  at_end : (ps : List Part) (q : Part) (qs : List Part) → slice_get (ps ++ q ∷ qs) (length ps) ≡ Some q
  at_end [] q qs = refl
  at_end (a ∷ ps) q qs = at_end ps q qs

  abbrev head_of : List ℕ → Option ℕ
  head_of [] = None
  head_of (k ∷ ks) = Some k

  pub nested_back : (k j m : ℕ) (i : Span) → slice_get x.spans m ≡ Some i → is_some i.closed ≡ true → part_at y k j ≡ Some (nested m) → part_at x k j ≡ Some (nested m)
  nested_back k j m i is closed place =
      let span = span_of (slice_get y.spans k) j (nested m) place in
      let parent : IsParent y.spans k m span.0.round = tree.parent k j m span.0 span.1 span.2 in
      let stays : slice_get y.spans m ≡ Some i = closed_stays program policy budget g rest p v x y at_g at m i is closed in
      let round : i.round ≡ k ∷ span.0.round = ap (λ (w : Span). w.round) (some (sym stays ∙ parent.is_there)) ∙ parent.round_is in
      let placed : IsPlaced (get_or (closed_logs (setting_of program plan budget) g).lists p []) x.trace.events x.spans m i = fx.told_by.placed m i is in
      by (i.round) round placed.first placed.stands
    where
      by : (round : List ℕ) → round ≡ k ∷ (span_of (slice_get y.spans k) j (nested m) place).0.round → (first : ℕ)
          → Stands (Logged (get_or (closed_logs (setting_of program plan budget) g).lists p []) x.trace.events) x.spans m round first → part_at x k j ≡ Some (nested m)
      by [] e first s = absurd (none-some k (ap head_of e))
      by (l ∷ ls) e first (within o ps qs low there same_round less parts_are nowhere outer tiles) =
          let l_is : l ≡ k = some (ap head_of e) in
          let here : part_at x k (length ps) ≡ Some (nested m) =
          subst (λ n. part_at x n (length ps) ≡ Some (nested m)) l_is (ap (λ w. part_in w (length ps)) there ∙ ap (λ (zs : List Part). slice_get zs (length ps)) parts_are ∙ at_end ps (nested m) qs) in
          let then' : part_at y k (length ps) ≡ Some (nested m) = part_kept program policy budget g rest p v x y at_g at k (length ps) (nested m) here in
          let one = span_of (slice_get y.spans k) j (nested m) place in
          let two = span_of (slice_get y.spans k) (length ps) (nested m) then' in
          let same : two.0 ≡ one.0 = some (sym two.1 ∙ one.1) in
          let j_is : j ≡ length ps = tree.once k j (length ps) m one.0 one.1 one.2 (ap (λ (w : Span). slice_get w.parts (length ps)) (sym same) ∙ two.2) in
          subst (λ n. part_at x k n ≡ Some (nested m)) (sym j_is) here
