-- The intervals of a process's own steps are those of its log.
use Rattle.ppd_model.specs.Setting.{Setting, setting_of}
use Rattle.ppd_ast.specs.declared.plan.Plan.{Plan}
use Rattle.ppd_ast.specs.declared.program.Program.{Program}
use Rattle.ppd_ast.specs.declared.status.Status.{Status}
use Rattle.ppd_ast.specs.declared.status.Status.TheVariants as status
use Rattle.ppd_model.specs.declared.entry.Entry.{Entry}
use Rattle.ppd_model.specs.declared.entry.Entry.TheVariants as entry
use Rattle.ppd_model.proofs.Changes.{some}
use Rattle.ppd_model.proofs.ExtentWords.{Extending, begun_extents, ended_by, extend, extents_are, left_by as extents_left}
use Rattle.ppd_model.proofs.IntervalWords.{begin_if, end_if}
use Rattle.ppd_model.proofs.Items.{own_keeps, split_found, step_keeps}
use Rattle.ppd_model.proofs.LogWords.{logs_from}
use Rattle.ppd_model.proofs.RecordedSets.{steps_found}
use Rattle.ppd_model.specs.Bounds.{AreEach}
use Rattle.ppd_model.specs.Extents.{Extent, IntervalsAreOfLogs, IsSameInterval, extents}
use Rattle.ppd_model.specs.FullTrace.{Tag, Tracing, me_in, top_tags}
use Rattle.ppd_model.specs.Intervals.{Span, Split, begun_split, change_first, control_by, innermost, left_by, own, split_of, split_step, with_marks, with_own, with_part, with_step}
use Rattle.ppd_model.specs.Logs.{Logging, begun_log, block_entries, closed_log, ends, entries_of, log_of, log_step, status_of, syncs, units}
use Rattle.ppd_model.specs.Marks.{Mark, closed, opened}
use Rattle.ppd_model.specs.Story.{Moment, Story, Taken, steps_of, story, told, unit_started}
use Rattle.ppd_model.specs.Synchronizations.{Sync, sync_of}
use Rattle.ppd_model.specs.World.{change}
use Rattle.ppd_model.specs.declared.trace.EventId.{EventId}
use Rattle.ppd_sem.specs.Described.{frame_of, is_event}
use Rattle.ppd_sem.specs.Process.{act, started}
use Rattle.ppd_sem.specs.declared.proc.Need.{Need}
use Rattle.ppd_sem.specs.declared.proc.Need.TheVariants as n
use Rattle.ppd_sem.specs.declared.proc.Proc.{Proc}
use Rattle.std.proofs.Common.{Bool, List, None, Option, Some, [], ap, ap₂, arith, false, get_or, if◌then◌else◌, length, map, refl, subst, suc, sym, true, zero, ℕ, ℤ, ◌++◌, ◌+◌, ◌∙◌, ◌∷◌, ◌≡◌}
use Rattle.std.proofs.lemmas.List.{append-nil, length-map, map-append}
use Rattle.std.proofs.lemmas.List.Sums.{fold-append}
use Rattle.std.proofs.lemmas.Option.{none-some}
use Rattle.std.specs.Prelude.{drop, fold, is_none, is_some, slice_get}

-- ---- what both have of an interval

pub record Shape : Type 0 where
  block : ℕ
  parent : Option ℕ
  closed : Bool

abbrev of_span : Span → Shape
of_span i = record { block = i.block; parent = slice_get i.round 0; closed = is_some i.closed }

abbrev of_extent : Extent → Shape
of_extent x = record { block = x.block; parent = x.parent; closed = x.closed }

abbrev spans_of : List Span → List Shape
spans_of spans = map of_span spans

abbrev shapes_of : List Extent → List Shape
shapes_of xs = map of_extent xs

abbrev shut : Shape → Shape
shut s = record s { closed = true }

map-change : {A B : Type 0} (g : A → B) (f : A → A) (f' : B → B) → ((x : A) → g (f x) ≡ f' (g x)) → (k : ℕ) (xs : List A) → map g (change f k xs) ≡ change f' k (map g xs)
map-change g f f' same k [] = refl
map-change g f f' same zero (x ∷ xs) = ap (λ y. y ∷ map g xs) (same x)
map-change g f f' same (suc k) (x ∷ xs) = ap (λ ys. g x ∷ ys) (map-change g f f' same k xs)

change-same : {A B : Type 0} (g : A → B) (f : A → A) → ((x : A) → g (f x) ≡ g x) → (k : ℕ) (xs : List A) → map g (change f k xs) ≡ map g xs
change-same g f same k [] = refl
change-same g f same zero (x ∷ xs) = ap (λ y. y ∷ map g xs) (same x)
change-same g f same (suc k) (x ∷ xs) = ap (λ ys. g x ∷ ys) (change-same g f same k xs)

first_same : (f : Span → Span) → ((i : Span) → of_span (f i) ≡ of_span i) → (ks : List ℕ) (spans : List Span) → spans_of (change_first f ks spans) ≡ spans_of spans
first_same f same [] spans = refl
first_same f same (k ∷ ks) spans = change-same of_span f same k spans

-- the intervals of the steps and of the entries so far
record AreSame (x : Split) (y : Extending) : Type 0 where
  running : x.running ≡ y.running
  shapes : spans_of x.spans ≡ shapes_of y.intervals

-- ---- what a step adds to both

quiet_step : (need : Need) (x : Split) (y : Extending) → AreSame x y → AreSame (with_step need x) y
quiet_step n.Budget x y h = h
quiet_step n.Stopped x y h = h
quiet_step need x y h = record { running = h.running; shapes = first_same (λ i. record i { steps = i.steps + 1 }) (λ i. refl) x.running x.spans ∙ h.shapes }

quiet_own : (need : Need) (x : Split) (y : Extending) → AreSame x y → AreSame (with_own need x) y
quiet_own need x y h = by (is_event need)
  where
    by : (b : Bool) → AreSame (if b then innermost (with_part (own (length x.trace.events))) x else x) y
    by true = record { running = h.running; shapes = first_same (with_part (own (length x.trace.events))) (λ i. refl) x.running x.spans ∙ h.shapes }
    by false = h

same_length : (x : Split) (y : Extending) → AreSame x y → length x.spans ≡ length y.intervals
same_length x y h = sym (length-map x.spans of_span) ∙ ap length h.shapes ∙ length-map y.intervals of_extent

begins : (o : Option Mark) (frame : ℕ) (control : Option EventId) (x : Split) (y : Extending) → AreSame x y → AreSame (begin_if o frame control x) (fold extend y (block_entries entry.Prelog o))
begins None frame control x y h = h
begins (Some m) frame control x y h = record {
  running = ap₂ (λ k ks. k ∷ ks) (same_length x y h) h.running;
  shapes = map-append of_span (change_first (with_part _) x.running x.spans) _
      ∙ ap₂ (λ a b. a ++ b) (first_same (with_part _) (λ i. refl) x.running x.spans ∙ h.shapes) (ap (λ ks. (record { block = m.block; parent = slice_get ks 0; closed = false }) ∷ []) h.running)
      ∙ sym (map-append of_extent y.intervals _);
}

ends_one : (o : Option Mark) (tags : List Tag) (x : Split) (y : Extending) → AreSame x y → AreSame (end_if o tags x) (fold extend y (block_entries entry.Postlog o))
ends_one None tags x y h = h
ends_one (Some m) tags x y h = record {
  running = ap (λ ks. drop 1 ks) h.running;
  shapes = by x.running h.running;
}
  where
    by : (ks : List ℕ) → ks ≡ y.running → spans_of (change_first (λ i. record i { closed = Some (length x.edges); values = m.values; left = tags }) ks x.spans) ≡ shapes_of (extents_left y.entry y.running y.intervals)
    by [] e = h.shapes ∙ ap (λ rs. shapes_of (extents_left y.entry rs y.intervals)) e
    by (k ∷ ks) e =
        map-change of_span (λ i. record i { closed = Some (length x.edges); values = m.values; left = tags }) shut (λ i. refl) k x.spans
        ∙ ap (change shut k) h.shapes
        ∙ sym (map-change of_extent (λ z. record z { last = Some y.entry; closed = true }) shut (λ z. refl) k y.intervals)
        ∙ ap (λ rs. shapes_of (extents_left y.entry rs y.intervals)) e

-- entries that no interval begins or ends by
quiet_syncs : (l : Logging) (t : Taken) (o : Option Sync) (x : Split) (y : Extending) → AreSame x y → AreSame x (fold extend y (syncs l t o))
quiet_syncs l t None x y h = h
quiet_syncs l t (Some s) x y h = record { running = h.running; shapes = h.shapes }

quiet_units : (u : Option ℕ) (values : List ℤ) (x : Split) (y : Extending) → AreSame x y → AreSame x (fold extend y (units u values))
quiet_units None values x y h = h
quiet_units (Some u) values x y h = record { running = h.running; shapes = h.shapes }

ended_same : (j : ℕ) (ks : List ℕ) (xs : List Extent) → shapes_of (ended_by j ks xs) ≡ shapes_of xs
ended_same j [] xs = refl
ended_same j (k ∷ ks) xs = ended_same j ks (change (λ z. record z { last = Some j }) k xs) ∙ change-same of_extent (λ z. record z { last = Some j }) (λ z. refl) k xs

quiet_end : (st : Status) (rest : ℕ) (reads writes : List ℕ) (x : Split) (y : Extending) → AreSame x y → AreSame x (extend y (entry.End st rest reads writes))
quiet_end st rest reads writes x y h = record { running = h.running; shapes = h.shapes ∙ sym (ended_same y.entry y.running y.intervals) }

quiet_ends : (l : Logging) (o : Option Status) (x : Split) (y : Extending) → AreSame x y → AreSame x (fold extend y (ends l o))
quiet_ends l None x y h = h
quiet_ends l (Some st) x y h = quiet_end st l.rest l.reads l.writes x y h

-- a step does not both enter and leave a block
one_mark : (program : Program) (plan : Plan) (s : Proc) (need : Need) (frame : ℕ) (control : Option EventId) (tags : List Tag) (t : Taken) (l : Logging) (x : Split) (y : Extending) → AreSame x y
    → AreSame (begin_if (opened program plan s need) frame control (end_if (closed program plan s need) tags x))
    (fold extend (fold extend (fold extend y (block_entries entry.Prelog (opened program plan s need))) (syncs l t (sync_of t))) (block_entries entry.Postlog (closed program plan s need)))
one_mark program plan s (n.Enter b u) frame control tags t l x y h = quiet_syncs l t (sync_of t) _ _ (begins (opened program plan s (n.Enter b u)) frame control x y h)
one_mark program plan s (n.Invoke None u) frame control tags t l x y h = quiet_syncs l t (sync_of t) x y h
one_mark program plan s (n.Invoke (Some b) u) frame control tags t l x y h = quiet_syncs l t (sync_of t) _ _ (begins (opened program plan s (n.Invoke (Some b) u)) frame control x y h)
one_mark program plan s (n.Leave b u) frame control tags t l x y h = ends_one (closed program plan s (n.Leave b u)) tags x _ (quiet_syncs l t (sync_of t) x y h)
one_mark program plan s (n.Back None u) frame control tags t l x y h = quiet_syncs l t (sync_of t) x y h
one_mark program plan s (n.Back (Some b) u) frame control tags t l x y h = ends_one (closed program plan s (n.Back (Some b) u)) tags x _ (quiet_syncs l t (sync_of t) x y h)
one_mark program plan s (n.End b) frame control tags t l x y h = ends_one (closed program plan s (n.End b)) tags x _ (quiet_syncs l t (sync_of t) x y h)
one_mark program plan s need frame control tags t l x y h = quiet_syncs l t (sync_of t) x y h

-- ---- all steps

module _ (program : Program) (plan : Plan) (story' : Story) (p : ℕ) where
  fold_entries : (y : Extending) (l : Logging) (m : Moment)
      → fold extend y (entries_of program plan l m)
      ≡ fold extend (fold extend (fold extend (fold extend (fold extend y (block_entries entry.Prelog (opened program plan l.proc m.taken.need))) (syncs l m.taken (sync_of m.taken))) (block_entries entry.Postlog (closed program plan l.proc m.taken.need))) (units (unit_started m.taken.need) m.unit_values)) (ends l (status_of m.taken.need))
  fold_entries y l m =
      let a : List Entry = block_entries entry.Prelog (opened program plan l.proc m.taken.need) in
      let b : List Entry = syncs l m.taken (sync_of m.taken) in
      let c : List Entry = block_entries entry.Postlog (closed program plan l.proc m.taken.need) in
      let d : List Entry = units (unit_started m.taken.need) m.unit_values in
      let e : List Entry = ends l (status_of m.taken.need) in
      fold-append extend y (a ++ b ++ c ++ d) e
      ∙ ap (λ z. fold extend z e) (fold-append extend y (a ++ b ++ c) d ∙ ap (λ z. fold extend z d) (fold-append extend y (a ++ b) c ∙ ap (λ z. fold extend z c) (fold-append extend y a b)))

  same_step : (x : Split) (y : Extending) (l : Logging) (m : Moment) → x.trace.proc ≡ l.proc → AreSame x y → AreSame (split_step program plan story' p x m.taken) (fold extend y (entries_of program plan l m))
  same_step x y l m proc h =
      let need : Need = m.taken.need in
      let a : Split = with_own need (with_step need x) in
      let trace_is : a.trace ≡ x.trace = (own_keeps need (with_step need x)).1 ∙ (step_keeps need x).1 in
      let proc_is : a.trace.proc ≡ l.proc = ap (λ (t : Tracing). t.proc) trace_is ∙ proc in
      let quiet : AreSame a y = quiet_own need (with_step need x) y (quiet_step need x y h) in
      let marked = one_mark program plan a.trace.proc need (frame_of program plan a.trace.proc) (control_by program p a.trace need) (left_by plan (me_in p a.trace) (top_tags a.trace.activations) need) m.taken l a y quiet in
      let here : AreSame (with_marks program plan p need a)
      (fold extend (fold extend (fold extend y (block_entries entry.Prelog (opened program plan l.proc need))) (syncs l m.taken (sync_of m.taken))) (block_entries entry.Postlog (closed program plan l.proc need))) =
      subst (λ (s : Proc). AreSame (with_marks program plan p need a) (fold extend (fold extend (fold extend y (block_entries entry.Prelog (opened program plan s need))) (syncs l m.taken (sync_of m.taken))) (block_entries entry.Postlog (closed program plan s need)))) proc_is marked in
      let all = quiet_ends l (status_of need) (with_marks program plan p need a) _ (quiet_units (unit_started need) m.unit_values (with_marks program plan p need a) _ here) in
      let whole : AreSame (with_marks program plan p need a) (fold extend y (entries_of program plan l m)) = subst (λ z. AreSame (with_marks program plan p need a) z) (sym (fold_entries y l m)) all in
      record { running = whole.running; shapes = whole.shapes }

  same_fold : (x : Split) (l : Logging) (ms : List Moment) → x.trace.proc ≡ l.proc → AreSame x (fold extend begun_extents l.entries)
      → AreSame (fold (split_step program plan story' p) x (steps_of ms)) (fold extend begun_extents (fold (log_step program plan) l ms).entries)
  same_fold x l [] proc h = h
  same_fold x l (m ∷ ms) proc h =
      same_fold (split_step program plan story' p x m.taken) (log_step program plan l m) ms (ap (λ s. act program plan s m.taken.answer) proc)
      (subst (λ z. AreSame (split_step program plan story' p x m.taken) z) (sym (fold-append extend begun_extents l.entries (entries_of program plan l m)))
      (same_step x (fold extend begun_extents l.entries) l m proc h))

  same_all : (budget : ℕ) (ms : List Moment) → AreSame (split_of (setting_of program plan budget) story' p (steps_of ms)) (fold extend begun_extents (log_of (setting_of program plan budget) p ms).entries)
  same_all budget ms = same_fold (begun_split program plan p (started program plan p budget)) (begun_log (setting_of program plan budget) p) ms refl (record { running = refl; shapes = refl })

-- ---- each interval

each_same : (is : List Span) (xs : List Extent) → spans_of is ≡ shapes_of xs → AreEach IsSameInterval is xs
each_same [] [] e = tt
each_same [] (x ∷ xs) e = cc
each_same (i ∷ is) [] e = cc
each_same (i ∷ is) (x ∷ xs) e =
    let head : of_span i ≡ of_extent x = ap (λ (l : List Shape). elim l [ [] ↦ of_span i | s ∷ ss ↦ s ]) e in (
      record { block = ap (λ (s : Shape). s.block) head; round = ap (λ (s : Shape). s.parent) head; closed = ap (λ (s : Shape). s.closed) head },
      each_same is xs (ap (λ (l : List Shape). elim l [ [] ↦ spans_of is | s ∷ ss ↦ ss ]) e),
    )

module _ (setting : Setting) where
  logging_found : (q : ℕ) (moments : List (List Moment)) (p : ℕ) (l : Logging) → slice_get (logs_from setting q moments) p ≡ Some l → (ms : List Moment) × (slice_get moments p ≡ Some ms) × (log_of setting (q + p) ms ≡ l)
  logging_found q [] p l e = absurd (none-some l e)
  logging_found q (ms ∷ rest) zero l e = (ms, refl, (let z : q + 0 ≡ q = omega arith in ap (λ k. log_of setting k ms) z) ∙ some e)
  logging_found q (ms ∷ rest) (suc p) l e =
      let r = logging_found (q + 1) rest p l e in
      (r.0, r.1, (let z : q + suc p ≡ (q + 1) + p = omega arith in ap (λ k. log_of setting k r.0) z) ∙ r.2)

closing : (x : Split) (l : Logging) → AreSame x (fold extend begun_extents l.entries) → AreSame x (fold extend begun_extents (closed_log l))
closing x l h = by (is_none l.proc.status)
  where
    by : (b : Bool) → AreSame x (fold extend begun_extents (l.entries ++ (if b then entry.End status.Blocked l.rest l.reads l.writes ∷ [] else [])))
    by true =
        subst (λ z. AreSame x z) (sym (fold-append extend begun_extents l.entries (entry.End status.Blocked l.rest l.reads l.writes ∷ [])))
        (quiet_end status.Blocked l.rest l.reads l.writes x (fold extend begun_extents l.entries) h)
    by false = subst (λ es. AreSame x (fold extend begun_extents es)) (sym (append-nil l.entries)) h

pub intervals_of_logs : IntervalsAreOfLogs
intervals_of_logs setting h p x l e f =
    let s : Story = story setting h in
    let moments : List (List Moment) = (told setting h).moments in
    let found = logging_found setting 0 moments p l f in
    let ms : List Moment = found.0 in
    let z : 0 + p ≡ p = omega arith in
    let steps : get_or s.steps p [] ≡ steps_of ms = steps_found setting moments p ms found.1 in
    let split_is : split_of setting s p (steps_of ms) ≡ x =
    ap₂ (λ k xs. split_of setting s k xs) (sym z) (sym steps) ∙ split_found setting s 0 s.steps p x e in
    let log_is : log_of setting p ms ≡ l = ap (λ k. log_of setting k ms) (sym z) ∙ found.2 in
    let same : AreSame x (fold extend begun_extents l.entries) =
    subst (λ (y : Split). AreSame y (fold extend begun_extents l.entries)) split_is
    (subst (λ (k : Logging). AreSame (split_of setting s p (steps_of ms)) (fold extend begun_extents k.entries)) log_is (same_all setting.program setting.plan s p setting.budget ms)) in
    record {
      kept_are = each_same x.spans (extents l.entries) (same.shapes ∙ ap shapes_of (sym (extents_are l.entries)));
      closed_are = each_same x.spans (extents (closed_log l)) ((closing x l same).shapes ∙ ap shapes_of (sym (extents_are (closed_log l))));
    }
