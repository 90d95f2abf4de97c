-- What is known of the logs of a run is what is known of the run.
use Rattle.law_steps.specs.Policies.{setting_by}
use Rattle.ppd_model.specs.Setting.{Setting, setting_of}
use Rattle.ppd_ast.specs.Valid.{IsValid}
use Rattle.ppd_ast.specs.declared.plan.Plan.{Plan}
use Rattle.ppd_ast.specs.declared.plan.Policy.{Policy}
use Rattle.ppd_ast.specs.declared.program.Program.{Program}
use Rattle.ppd_blocks.specs.Blocks.{plan_of}
use Rattle.ppd_model.specs.Replay.{Replayed, replay}
use Rattle.ppd_model.proofs.EntryWords.{log_in}
use Rattle.ppd_model.specs.IntervalLogs.{LoggedInterval, indexed, interval_log, log_by}
use Rattle.ppd_model.specs.declared.entry.Entry.{Entry}
use Rattle.ppd_model.specs.declared.entry.Logs.{Logs}
use Rattle.ppd_flow.proofs.Assembled.{assembled}
use Rattle.ppd_flow.proofs.LastOrigins.{last_found}
use Rattle.ppd_flow.proofs.OwnParts.{own_parts}
use Rattle.ppd_flow.specs.Answers.{answer_if}
use Rattle.ppd_flow.specs.SharedCells.{answer_of}
use Rattle.ppd_flow.specs.SharedEdges.{all_seen}
use Rattle.ppd_graph.specs.Found.{edges_if, found_edges}
use Rattle.ppd_graph.specs.Seen.{Seen, seen_of}
use Rattle.ppd_graph.specs.Shared.{found_last, seen_at}
use Rattle.ppd_flow_past.proofs.Replays.{replays_give_intervals}
use Rattle.ppd_flow_past.proofs.Runs.{replays_are_seen}
use Rattle.ppd_flow_past.proofs.SeenWords.{failure_of}
use Rattle.ppd_flow_past.specs.ByReplays.{failure_or, first_failed}
use Rattle.ppd_flow_past.specs.Laws.{modelled_in, modelled_of, replay_of}
use Rattle.ppd_flow_past.specs.SeenBy.{failed_at, seen_by}
use Rattle.ppd_model.specs.declared.flow_error.FlowError.TheVariants.{NoEvent}
use Rattle.ppd_model.proofs.EdgeWords.{edges_in}
use Rattle.ppd_model.proofs.Items.{splits_length}
use Rattle.ppd_model.proofs.LogWords.{logs_from}
use Rattle.ppd_model.proofs.LoggedSpans.{intervals_of_logs}
use Rattle.ppd_model.specs.Bounds.{AreEach}
use Rattle.ppd_model.specs.Extents.{Extent, IsSameInterval, extents}
use Rattle.ppd_model.specs.FlowbackEdges.{edges}
use Rattle.ppd_model.specs.Intervals.{Span, Split, items_of, splits}
use Rattle.ppd_model.specs.Logs.{closed_log, closed_logs, loggings}
use Rattle.ppd_model.specs.Races.{races}
use Rattle.ppd_model.specs.Schedule.{IsWhole}
use Rattle.ppd_model.specs.Story.{Moment, steps_of, story, told}
use Rattle.ppd_model.specs.declared.flow.FlowEdge.{FlowEdge}
use Rattle.ppd_model.specs.declared.graph.Race.{Race}
use Rattle.ppd_model.specs.declared.state.Logging.{Logging}
use Rattle.ppd_race.proofs.OfRuns.{of_runs}
use Rattle.ppd_race.specs.Races.{edges_of_logs, races_among}
use Rattle.ppd_session.proofs.KnownWords.{flow_told, last_told, of_cells, of_span, of_split}
use Rattle.ppd_session.specs.Known.{Flow, Interval, Known, Last, Told, flow_by, known_of_logs, known_of_run, last_by, of_extent, of_processes, seens, told_by, told_of_entries, told_of_split, unless_failed, unless_raced}
use Rattle.std.proofs.Common.{List, Ok, Option, [], ap, arith, get_or, length, map, refl, suc, sym, zero, ℕ, ◌+◌, ◌<◌, ◌∙◌, ◌∷◌, ◌≡◌, ◌≤◌}
use Rattle.std.proofs.lemmas.List.{length-map}
use Rattle.std.specs.Prelude.{None, Some, ok_or, option_map, slice_get}

same_interval : (i : Span) (x : Extent) → IsSameInterval i x → of_span i ≡ of_extent x
same_interval i x h = rw (h.block, h.round, h.closed)

same_intervals : (ss : List Span) (xs : List Extent) → AreEach IsSameInterval ss xs → map of_span ss ≡ map of_extent xs
same_intervals [] [] h = refl
same_intervals [] (x ∷ xs) h = absurd h
same_intervals (i ∷ ss) [] h = absurd h
same_intervals (i ∷ ss) (x ∷ xs) h =
    let head = same_interval i x h.0 in
    let tail = same_intervals ss xs h.1 in cc

-- two lists of one length whose items show alike
same_shown : {A B C : Type 0} (f : A → C) (g : B → C) (xs : List A) (ys : List B) → length xs ≡ length ys → ((p : ℕ) (x : A) (y : B) → slice_get xs p ≡ Some x → slice_get ys p ≡ Some y → f x ≡ g y) → map f xs ≡ map g ys
same_shown f g [] [] e h = refl
same_shown f g [] (y ∷ ys) e h = absurd (cc)
same_shown f g (x ∷ xs) [] e h = absurd (cc)
same_shown f g (x ∷ xs) (y ∷ ys) e h =
    let n : length xs ≡ length ys = cc in
    let head : f x ≡ g y = h 0 x y refl refl in
    let tail = same_shown f g xs ys n (λ p z w k l. h (suc p) z w k l) in cc

length-logs : (setting : Setting) (q : ℕ) (moments : List (List Moment)) → length (logs_from setting q moments) ≡ length moments
length-logs setting q [] = refl
length-logs setting q (x ∷ xs) = ap suc (length-logs setting (q + 1) xs)

abbrev shown_log : Logging → List Interval
shown_log l = map of_extent (extents (closed_log l))

shown_logs : {B : Type 0} (f : List Entry → B) (ls : List Logging) → map f (map closed_log ls) ≡ map (λ l. f (closed_log l)) ls
shown_logs f [] = refl
shown_logs f (l ∷ ls) = ap (λ w. f (closed_log l) ∷ w) (shown_logs f ls)

-- ---- items

-- two lists that show alike place by place
all_shown : {A B C : Type 0} (f : A → C) (g : B → C) (xs : List A) (ys : List B) → ((k : ℕ) → option_map f (slice_get xs k) ≡ option_map g (slice_get ys k)) → map f xs ≡ map g ys
all_shown f g [] [] h = refl
all_shown f g [] (y ∷ ys) h = let e : None ≡ Some (g y) = h 0 in absurd (cc)
all_shown f g (x ∷ xs) [] h = let e : Some (f x) ≡ None = h 0 in absurd (cc)
all_shown f g (x ∷ xs) (y ∷ ys) h =
    let head : Some (f x) ≡ Some (g y) = h 0 in
    let tail = all_shown f g xs ys (λ k. h (suc k)) in cc

-- the entries of a process by its place
entries_there : (ls : List Logging) (p : ℕ) (l : Logging) → slice_get ls p ≡ Some l → get_or (map closed_log ls) p [] ≡ closed_log l
entries_there [] p l e = absurd (cc)
entries_there (m ∷ ls) zero l e = let same : m ≡ l = cc in ap closed_log same
entries_there (m ∷ ls) (suc p) l e = entries_there ls p l e

abbrev told_replayed : Replayed → Told
told_replayed r = told_by r.answer

replay_told : (setting : Setting) (o : Option LoggedInterval)
    → option_map (λ (i : LoggedInterval). told_by (replay setting.program setting.plan (log_by setting.plan i) setting.budget).answer) o ≡ option_map told_replayed (replay_of setting (log_in setting.plan o))
replay_told setting None = refl
replay_told setting (Some i) = refl

span_told : (x : Split) (o : Option Span) → option_map told_replayed (modelled_of x o) ≡ option_map (λ (i : Span). Ok (items_of x i)) o
span_told x None = refl
span_told x (Some i) = refl

abbrev Flows : Type 0
Flows = ℕ → ℕ → ℕ → Flow

same_function : (f g : Flows) → ((p k j : ℕ) → f p k j ≡ g p k j) → f ≡ g
same_function f g h = λ i p k j. h p k j i

module _ (program : Program) (policy : Policy) (budget : ℕ) (h : List ℕ) (valid : IsValid program) where
  abbrev plan : Plan
  plan = plan_of program policy

  same_count : length (splits (setting_of program plan budget) (story (setting_of program plan budget) h)) ≡ length (loggings (setting_of program plan budget) h)
  same_count =
      splits_length (setting_of program plan budget) (story (setting_of program plan budget) h) 0 (story (setting_of program plan budget) h).steps
      ∙ (length-map (told (setting_of program plan budget) h).moments steps_of ∙ sym (length-logs (setting_of program plan budget) 0 (told (setting_of program plan budget) h).moments))

  same_intervals_all : map of_split (splits (setting_of program plan budget) (story (setting_of program plan budget) h)) ≡ map shown_log (loggings (setting_of program plan budget) h)
  same_intervals_all = same_shown of_split shown_log (splits (setting_of program plan budget) (story (setting_of program plan budget) h)) (loggings (setting_of program plan budget) h) same_count (λ p x l e f.
      same_intervals x.spans (extents (closed_log l)) (intervals_of_logs (setting_of program plan budget) h p x l e f).closed_are)

  module _ (whole : IsWhole (setting_of program plan budget) h) (free : races (setting_of program plan budget) h ≡ []) where
    -- each replay gives the items of its interval
    same_told : (p : ℕ) (x : Split) (l : Logging) → slice_get (splits (setting_of program plan budget) (story (setting_of program plan budget) h)) p ≡ Some x → slice_get (loggings (setting_of program plan budget) h) p ≡ Some l
        → told_of_split x ≡ told_of_entries (setting_of program plan budget) (closed_log l)
    same_told p x l e f =
        let entries = entries_there (loggings (setting_of program plan budget) h) p l f in
        let at : (k : ℕ) → replay_of (setting_of program plan budget) (interval_log plan (closed_log l) k) ≡ modelled_of x (slice_get x.spans k) =
        λ k. ap (λ (es : List Entry). replay_of (setting_of program plan budget) (interval_log plan es k)) (sym entries)
        ∙ (replays_give_intervals program policy budget h p k valid whole free ∙ ap (modelled_in k) e) in
        sym (all_shown _ _ (indexed (closed_log l)) x.spans (λ k.
        replay_told (setting_of program plan budget) (slice_get (indexed (closed_log l)) k)
        ∙ (ap (option_map told_replayed) (at k) ∙ span_told x (slice_get x.spans k))))

    same_told_all : map told_of_split (splits (setting_of program plan budget) (story (setting_of program plan budget) h)) ≡ map (told_of_entries (setting_of program plan budget)) (closed_logs (setting_of program plan budget) h).lists
    same_told_all =
        same_shown told_of_split (λ (l : Logging). told_of_entries (setting_of program plan budget) (closed_log l)) (splits (setting_of program plan budget) (story (setting_of program plan budget) h)) (loggings (setting_of program plan budget) h) same_count same_told
        ∙ sym (shown_logs (told_of_entries (setting_of program plan budget)) (loggings (setting_of program plan budget) h))

  -- and where there is a race, nothing is told of items
  same_items : IsWhole (setting_of program plan budget) h → (rs : List Race) → rs ≡ races (setting_of program plan budget) h
      → unless_raced rs (map (told_of_entries (setting_of program plan budget)) (closed_logs (setting_of program plan budget) h).lists) ≡ unless_raced rs (map told_of_split (splits (setting_of program plan budget) (story (setting_of program plan budget) h)))
  same_items whole [] e = sym (same_told_all whole (sym e))
  same_items whole (r ∷ rs) e = refl

  module _ (whole : IsWhole (setting_of program plan budget) h) (free : races (setting_of program plan budget) h ≡ []) where
    abbrev logs : Logs
    logs = closed_logs (setting_of program plan budget) h

    fails_nowhere : (k : ℕ) (o : Option Split) → failure_of (modelled_in k o) ≡ None
    fails_nowhere k None = refl
    fails_nowhere k (Some x) = by (slice_get x.spans k)
      where
        by : (i : Option Span) → failure_of (modelled_of x i) ≡ None
        by None = refl
        by (Some i) = refl

    -- no replay fails
    pub never : (ms : List (ℕ × ℕ)) → first_failed (setting_of program plan budget) logs ms ≡ None
    never [] = refl
    never (m ∷ ms) =
        let none : failed_at (setting_of program plan budget) (get_or logs.lists m.0 []) m.1 ≡ None =
        ap failure_of (replays_give_intervals program policy budget h m.0 m.1 valid whole free)
        ∙ fails_nowhere m.1 (slice_get (splits (setting_of program plan budget) (story (setting_of program plan budget) h)) m.0) in
        ap (λ o. failure_or m.0 o (first_failed (setting_of program plan budget) logs ms)) none ∙ never ms

    seen_there : (p : ℕ) (x : Split) (l : Logging) → slice_get (splits (setting_of program plan budget) (story (setting_of program plan budget) h)) p ≡ Some x → slice_get (loggings (setting_of program plan budget) h) p ≡ Some l
        → seen_of x ≡ seen_by (setting_of program plan budget) (closed_log l)
    seen_there p x l e f =
        sym (replays_are_seen program policy budget h p x valid whole free e).seen
        ∙ ap (seen_by (setting_of program plan budget)) (entries_there (loggings (setting_of program plan budget) h) p l f)

    -- replays see what is there to be seen
    pub all_there : all_seen (setting_of program plan budget) h ≡ seens (setting_of program plan budget) logs
    all_there =
        same_shown seen_of (λ (l : Logging). seen_by (setting_of program plan budget) (closed_log l)) (splits (setting_of program plan budget) (story (setting_of program plan budget) h)) (loggings (setting_of program plan budget) h) same_count seen_there
        ∙ sym (shown_logs (seen_by (setting_of program plan budget)) (loggings (setting_of program plan budget) h))

    same_last : (c : ℕ) → c < length program.starts → last_by (setting_of program plan budget) logs c ≡ last_told (setting_of program plan budget) (story (setting_of program plan budget) h) c
    same_last c lt =
        ap (λ o. unless_failed o (answer_of (found_last program logs (seens (setting_of program plan budget) logs) c).found)) (never (found_last program logs (seens (setting_of program plan budget) logs) c).replays)
        ∙ (ap (λ xs. answer_of (found_last program logs xs c).found) (sym all_there)
        ∙ ap answer_of (last_found (setting_of program plan budget) h whole.last valid whole.runs free c lt))

    -- the edges that are found are those of the run
    no_split : (xs : List Split) (p : ℕ) → slice_get xs p ≡ None → seen_at (map (λ x. seen_of x) xs) p ≡ record { items = []; blocks = []; rounds = [] }
    no_split [] zero e = refl
    no_split [] (suc p) e = refl
    no_split (x ∷ xs) zero e = absurd (cc)
    no_split (x ∷ xs) (suc p) e = no_split xs p e

    no_item : (xs : List Seen) (p k j : ℕ) → seen_at xs p ≡ record { items = []; blocks = []; rounds = [] } → slice_get (get_or (seen_at xs p).items k []) j ≡ None
    no_item xs p k zero e = ap (λ (s : Seen). slice_get (get_or s.items k []) zero) e
    no_item xs p k (suc j) e = ap (λ (s : Seen). slice_get (get_or s.items k []) (suc j)) e

    answered : (o : Option (List FlowEdge)) → answer_if (option_map (λ es. Ok es) o) ≡ ok_or o NoEvent
    answered None = refl
    answered (Some es) = refl

    found_there : (p k j : ℕ) (o : Option Split) → slice_get (splits (setting_of program plan budget) (story (setting_of program plan budget) h)) p ≡ o
        → answer_if (found_edges program plan logs (all_seen (setting_of program plan budget) h) p k j).found ≡ flow_told (setting_of program plan budget) (story (setting_of program plan budget) h) p k j
    found_there p k j (Some x) e =
        ap answer_if (assembled (setting_of program plan budget) h whole.last valid whole.runs free p k j x e (own_parts program policy budget h p k j x valid e))
        ∙ answered (edges (setting_of program plan budget) (story (setting_of program plan budget) h) p k j)
    found_there p k j None e =
        ap (λ i. answer_if (edges_if program plan logs (all_seen (setting_of program plan budget) h) p k j i).found) (no_item (all_seen (setting_of program plan budget) h) p k j (no_split (splits (setting_of program plan budget) (story (setting_of program plan budget) h)) p e))
        ∙ ap (λ s. ok_or (edges_in program plan (splits (setting_of program plan budget) (story (setting_of program plan budget) h)) k j s) NoEvent) (sym e)

    same_flow : (p k j : ℕ) → flow_by (setting_of program plan budget) logs p k j ≡ flow_told (setting_of program plan budget) (story (setting_of program plan budget) h) p k j
    same_flow p k j =
        ap (λ o. unless_failed o (answer_if (found_edges program plan logs (seens (setting_of program plan budget) logs) p k j).found)) (never (found_edges program plan logs (seens (setting_of program plan budget) logs) p k j).replays)
        ∙ (ap (λ xs. answer_if (found_edges program plan logs xs p k j).found) (sym all_there)
        ∙ found_there p k j (slice_get (splits (setting_of program plan budget) (story (setting_of program plan budget) h)) p) refl)

  same_flows : IsWhole (setting_of program plan budget) h → (rs : List Race) → rs ≡ races (setting_of program plan budget) h
      → of_processes (flow_by (setting_of program plan budget) (closed_logs (setting_of program plan budget) h)) 0 (unless_raced rs (map (told_of_entries (setting_of program plan budget)) (closed_logs (setting_of program plan budget) h).lists))
      ≡ of_processes (flow_told (setting_of program plan budget) (story (setting_of program plan budget) h)) 0 (unless_raced rs (map told_of_split (splits (setting_of program plan budget) (story (setting_of program plan budget) h))))
  same_flows whole [] e =
      ap (λ f. of_processes f 0 (map (told_of_entries (setting_of program plan budget)) (closed_logs (setting_of program plan budget) h).lists)) (same_function (flow_by (setting_of program plan budget) (closed_logs (setting_of program plan budget) h)) (flow_told (setting_of program plan budget) (story (setting_of program plan budget) h)) (same_flow whole (sym e)))
      ∙ ap (of_processes (flow_told (setting_of program plan budget) (story (setting_of program plan budget) h)) 0) (sym (same_told_all whole (sym e)))
  same_flows whole (r ∷ rs) e = refl

  same_cells : (f g : ℕ → Last) (c n m : ℕ) → ((i : ℕ) → i < m → f i ≡ g i) → c + n ≤ m → of_cells f c n ≡ of_cells g c n
  same_cells f g c zero m h le = refl
  same_cells f g c (suc n) m h le =
      let head = h c (omega arith) in
      let tail = same_cells f g (c + 1) n m h (omega arith) in cc

  same_lasts : IsWhole (setting_of program plan budget) h → (rs : List Race) → rs ≡ races (setting_of program plan budget) h
      → unless_raced rs (of_cells (last_by (setting_of program plan budget) (closed_logs (setting_of program plan budget) h)) 0 (length program.starts))
      ≡ unless_raced rs (of_cells (last_told (setting_of program plan budget) (story (setting_of program plan budget) h)) 0 (length program.starts))
  same_lasts whole [] e =
      same_cells (last_by (setting_of program plan budget) (closed_logs (setting_of program plan budget) h)) (last_told (setting_of program plan budget) (story (setting_of program plan budget) h))
      0 (length program.starts) (length program.starts) (same_last whole (sym e)) (omega arith)
  same_lasts whole (r ∷ rs) e = refl

as_known : Program → Plan → List Race → List (List Interval) → List (List Told) → List Last → List (List (List Flow)) → Known
as_known program plan races intervals items lasts flow = record { program = program; plan = plan; races = races; intervals = intervals; items = items; lasts = lasts; flow = flow }

same_known : (program : Program) (plan : Plan) (a b : List Race) (i j : List (List Interval)) (s t : List Race → List (List Told)) (k l : List Race → List Last) (m n : List Race → List (List (List Flow))) → a ≡ b → i ≡ j → s a ≡ t a → k a ≡ l a → m a ≡ n a
    → as_known program plan a i (s a) (k a) (m a) ≡ as_known program plan b j (t b) (l b) (n b)
same_known program plan a b i j s t k l m n e f g o u =
    ap (λ w. as_known program plan a i w (k a) (m a)) g
    ∙ (ap (λ w. as_known program plan a i (t a) w (m a)) o
    ∙ (ap (as_known program plan a i (t a) (l a)) u
    ∙ (ap (λ r. as_known program plan r i (t r) (l r) (n r)) e ∙ ap (λ w. as_known program plan b w (t b) (l b) (n b)) f)))

pub known_as : (program : Program) (policy : Policy) (budget : ℕ) (h : List ℕ) → IsValid program → IsWhole (setting_by program policy budget) h
    → known_of_logs (setting_by program policy budget) (closed_logs (setting_by program policy budget) h) ≡ known_of_run (setting_by program policy budget) h
unfolding as_known
known_as program policy budget h valid whole =
    let plan = plan_of program policy in
    let rs : races_among (edges_of_logs program (closed_logs (setting_of program plan budget) h)) ≡ races (setting_of program plan budget) h = (of_runs (setting_of program plan budget) h valid).0 in
    let spans = shown_logs (λ (entries : List Entry). map of_extent (extents entries)) (loggings (setting_of program plan budget) h) ∙ sym (same_intervals_all program policy budget h valid) in
    let items = same_items program policy budget h valid whole (races_among (edges_of_logs program (closed_logs (setting_of program plan budget) h))) rs in
    let lasts = same_lasts program policy budget h valid whole (races_among (edges_of_logs program (closed_logs (setting_of program plan budget) h))) rs in
    let flows = same_flows program policy budget h valid whole (races_among (edges_of_logs program (closed_logs (setting_of program plan budget) h))) rs in
    same_known program plan (races_among (edges_of_logs program (closed_logs (setting_of program plan budget) h))) (races (setting_of program plan budget) h) _ _
    (λ rs. unless_raced rs (map (told_of_entries (setting_of program plan budget)) (closed_logs (setting_of program plan budget) h).lists))
    (λ rs. unless_raced rs (map told_of_split (splits (setting_of program plan budget) (story (setting_of program plan budget) h))))
    (λ rs. unless_raced rs (of_cells (last_by (setting_of program plan budget) (closed_logs (setting_of program plan budget) h)) 0 (length program.starts)))
    (λ rs. unless_raced rs (of_cells (last_told (setting_of program plan budget) (story (setting_of program plan budget) h)) 0 (length program.starts)))
    (λ rs. of_processes (flow_by (setting_of program plan budget) (closed_logs (setting_of program plan budget) h)) 0 (unless_raced rs (map (told_of_entries (setting_of program plan budget)) (closed_logs (setting_of program plan budget) h).lists)))
    (λ rs. of_processes (flow_told (setting_of program plan budget) (story (setting_of program plan budget) h)) 0 (unless_raced rs (map told_of_split (splits (setting_of program plan budget) (story (setting_of program plan budget) h))))) rs spans items lasts flows
