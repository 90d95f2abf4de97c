-- Items are whole.
use Rattle.ppd_model.specs.Setting.{Setting, setting_of}
use Rattle.std.proofs.Common.{◌≡◌, ℕ, zero, suc, ◌+◌, ◌<◌, ◌≤◌, Bool, true, false, cond, List, [], ◌∷◌, ◌++◌, Option, Some, None, refl, ap, ap₂, sym, subst, ◌∙◌, arith, length, map, get_or, length-append, true≢false, eq-eqb, eqb-true, if◌then◌else◌}
use Rattle.std.specs.Prelude.{◌-◌, drop, fold, position, slice_get, ⊤}
use Rattle.std.specs.List.{flat_map, position_from}
use Rattle.std.proofs.lemmas.Iterator.Adapters.{position_from-zero}
use Rattle.std.proofs.lemmas.List.{map-append}
use Rattle.std.proofs.lemmas.Option.{none-some}
use Rattle.ppd_ast.specs.Valid.{IsValid}
use Rattle.ppd_ast.specs.declared.plan.BlockKind.TheVariants as block
use Rattle.ppd_ast.specs.declared.plan.Plan.{Plan}
use Rattle.ppd_ast.specs.declared.program.Program.{Program}
use Rattle.ppd_sem.specs.Described.{frame_of, is_event}
use Rattle.ppd_sem.specs.Process.{act, need_of, started}
use Rattle.ppd_sem.specs.Tables.{block_of}
use Rattle.ppd_sem.proofs.TableWords.{or_zero}
use Rattle.ppd_sem.specs.declared.proc.Need.{Need}
use Rattle.ppd_sem.specs.declared.proc.Need.TheVariants as n
use Rattle.ppd_sem.specs.declared.proc.Proc.{Proc}
use Rattle.ppd_sem.proofs.Progress.{need_at_status}
use Rattle.ppd_ast.specs.declared.status.Status.{Status}
use Rattle.ppd_ast.proofs.ValidLaws.{slice_get_there}
use Rattle.ppd_model.specs.declared.trace.EventId.{EventId}
use Rattle.ppd_model.proofs.EdgeWords.{part_in}
use Rattle.ppd_model.specs.FullTrace.{Tag, Tracing, begun_tracing, me_in, top_tags, trace_by}
use Rattle.ppd_model.specs.Intervals.{Part, own, nested, Span, Split, begin_span, begun_split, change_first, control_by, innermost, is_own, item_of, left_by, new_span, place_in, split_of, split_step, with_marks, with_own, with_part, with_step}
use Rattle.ppd_model.proofs.IntervalWords.{begin_if, end_if, item_at, item_of_event, item_of_span, place_or, ref_in, splits_from}
use Rattle.ppd_model.specs.Items.{ItemsAreWhole}
use Rattle.ppd_model.specs.LocalTags.{AreOwn}
use Rattle.ppd_model.specs.Marks.{Mark, closed, opened}
use Rattle.ppd_model.specs.Story.{Story, Taken, story}
use Rattle.ppd_model.specs.World.{change}
use Rattle.ppd_model.proofs.Changes.{length-change, some}
use Rattle.ppd_model.proofs.Inside.{IsInside, begins_by, ends_by, inside_begun, inside_step, running_after}
use Rattle.ppd_model.proofs.LocalTags.{own_steps_told}
use Rattle.ppd_model.proofs.Parts.{AreParts, IsOnce, Parts, at, put, with_event, with_list, with_nested}

-- ---- the parts of intervals

abbrev parts_of : List Span → Parts
parts_of spans = map (λ (i : Span). i.parts) spans

parts_quiet : (f : Span → Span) → ((i : Span) → (f i).parts ≡ i.parts) → (k : ℕ) (spans : List Span) → parts_of (change f k spans) ≡ parts_of spans
parts_quiet f same k [] = refl
parts_quiet f same zero (i ∷ is) = ap (λ ps. ps ∷ parts_of is) (same i)
parts_quiet f same (suc k) (i ∷ is) = ap (λ ps. i.parts ∷ ps) (parts_quiet f same k is)

first_quiet : (f : Span → Span) → ((i : Span) → (f i).parts ≡ i.parts) → (ks : List ℕ) (spans : List Span) → parts_of (change_first f ks spans) ≡ parts_of spans
first_quiet f same [] spans = refl
first_quiet f same (k ∷ ks) spans = parts_quiet f same k spans

parts_put : (q : Part) (k : ℕ) (spans : List Span) → parts_of (change (with_part q) k spans) ≡ put q k (parts_of spans)
parts_put q k [] = refl
parts_put q zero (i ∷ is) = refl
parts_put q (suc k) (i ∷ is) = ap (λ ps. i.parts ∷ ps) (parts_put q k is)

pub first_length : (f : Span → Span) (ks : List ℕ) (spans : List Span) → length (change_first f ks spans) ≡ length spans
first_length f [] spans = refl
first_length f (k ∷ ks) spans = length-change f k spans

parts_length : (spans : List Span) → length (parts_of spans) ≡ length spans
parts_length [] = refl
parts_length (i ∷ is) = ap suc (parts_length is)

-- each of these numbers is below n
abbrev pub AreBelow : ℕ → List ℕ → Type 0
AreBelow n [] = ⊤
AreBelow n (k ∷ ks) = (k < n) × AreBelow n ks

more_below : (m n : ℕ) (ks : List ℕ) → m ≤ n → AreBelow m ks → AreBelow n ks
more_below m n [] le h = tt
more_below m n (k ∷ ks) le h = (omega (arith, le, h.0), more_below m n ks le h.1)

pub rest_below : (n : ℕ) (ks : List ℕ) → AreBelow n ks → AreBelow n (drop 1 ks)
rest_below n [] h = tt
rest_below n (k ∷ ks) h = h.1

-- the intervals have the events below n, and the running ones are there
record IsSound (n : ℕ) (x : Split) : Type 0 where
  parts : AreParts (parts_of x.spans) n
  running : AreBelow (length x.spans) x.running

sound_quiet : (m : ℕ) (f : Span → Span) (x : Split) → ((i : Span) → (f i).parts ≡ i.parts) → IsSound m x → IsSound m (innermost f x)
sound_quiet m f x same h = record {
  parts = subst (λ ps. AreParts ps m) (sym (first_quiet f same x.running x.spans)) h.parts;
  running = subst (λ k. AreBelow k x.running) (sym (first_length f x.running x.spans)) h.running;
}

-- ---- one step

sound_step : (m : ℕ) (need : Need) (x : Split) → IsSound m x → IsSound m (with_step need x)
sound_step m n.Budget x h = h
sound_step m n.Stopped x h = h
sound_step m need x h = sound_quiet m (λ i. record i { steps = i.steps + 1 }) x (λ i. refl) h

pub step_keeps : (need : Need) (x : Split) → ((with_step need x).running ≡ x.running) × ((with_step need x).trace ≡ x.trace)
step_keeps n.Budget x = (refl, refl)
step_keeps n.Stopped x = (refl, refl)
step_keeps need x = (refl, refl)

sound_put : (m : ℕ) (x : Split) → 0 < length x.running → IsSound m x → IsSound (m + 1) (innermost (with_part (own m)) x)
sound_put m x some_running h = by x.running refl
  where
    by : (ks : List ℕ) → x.running ≡ ks → IsSound (m + 1) (innermost (with_part (own m)) x)
    by [] is = let none : length x.running ≡ 0 = ap length is in absurd (omega (arith, none, some_running))
    by (k ∷ ks) is =
        let below : AreBelow (length x.spans) (k ∷ ks) = subst (AreBelow (length x.spans)) is h.running in
        let in_range : k < length (parts_of x.spans) = subst (λ l. k < l) (sym (parts_length x.spans)) below.0 in
        let now : parts_of (change_first (with_part (own m)) x.running x.spans) ≡ put (own m) k (parts_of x.spans) =
        ap (λ ks. parts_of (change_first (with_part (own m)) ks x.spans)) is ∙ parts_put (own m) k x.spans in
        record {
          parts = subst (λ ps. AreParts ps (m + 1)) (sym now) (with_event (parts_of x.spans) m k in_range h.parts);
          running = subst (λ l. AreBelow l x.running) (sym (first_length (with_part (own m)) x.running x.spans)) h.running;
        }

abbrev one_more_if : Bool → ℕ → ℕ
one_more_if b m = if b then m + 1 else m

sound_own : (need : Need) (x : Split) → (is_event need ≡ true → 0 < length x.running) → IsSound (length x.trace.events) x → IsSound (one_more_if (is_event need) (length x.trace.events)) (with_own need x)
sound_own need x inside h = by (is_event need) refl
  where
    by : (b : Bool) → is_event need ≡ b → IsSound (one_more_if b (length x.trace.events)) (if b then innermost (with_part (own (length x.trace.events))) x else x)
    by true e = sound_put (length x.trace.events) x (inside e) h
    by false e = h

pub own_keeps : (need : Need) (x : Split) → ((with_own need x).running ≡ x.running) × ((with_own need x).trace ≡ x.trace)
own_keeps need x = by (is_event need)
  where
    by : (b : Bool) → ((if b then innermost (with_part (own (length x.trace.events))) x else x).running ≡ x.running) × ((if b then innermost (with_part (own (length x.trace.events))) x else x).trace ≡ x.trace)
    by true = (refl, refl)
    by false = (refl, refl)

sound_end : (m : ℕ) (o : Option Mark) (tags : List Tag) (x : Split) → IsSound m x → IsSound m (end_if o tags x)
sound_end m None tags x h = h
sound_end m (Some mark) tags x h =
    let ended : IsSound m (innermost (λ i. record i { closed = Some (length x.edges); values = mark.values; left = tags }) x) = sound_quiet m (λ i. record i { closed = Some (length x.edges); values = mark.values; left = tags }) x (λ i. refl) h in
    record { parts = ended.parts; running = rest_below _ x.running ended.running }

module _ (m b frame : ℕ) (control : Option EventId) (x : Split) where
  abbrev q : Part
  q = nested (length x.spans)

  abbrev outer : List ℕ → List Span
  outer ks = change_first (with_part q) ks x.spans

  abbrev begun : List ℕ → List Span
  begun ks = outer ks ++ new_span (innermost (with_part q) x) b frame control ∷ []

  begun_parts : (ks : List ℕ) → parts_of (begun ks) ≡ parts_of (outer ks) ++ [] ∷ []
  begun_parts ks = map-append (λ (i : Span). i.parts) (outer ks) (new_span (innermost (with_part q) x) b frame control ∷ [])

  begun_length : (ks : List ℕ) → length (begun ks) ≡ length x.spans + 1
  begun_length ks = length-append (outer ks) (new_span (innermost (with_part q) x) b frame control ∷ []) ∙ ap (λ k. k + 1) (first_length (with_part q) ks x.spans)

  begun_are : (ks : List ℕ) → AreParts (parts_of x.spans) m → AreParts (parts_of (begun ks)) m
  begun_are [] h = subst (λ ps. AreParts ps m) (sym (begun_parts [])) (with_list (parts_of x.spans) m h)
  begun_are (k ∷ ks) h =
      let same : nested (length (parts_of x.spans)) ≡ q = ap nested (parts_length x.spans) in
      subst (λ ps. AreParts ps m) (sym (begun_parts (k ∷ ks)))
      (subst (λ ps. AreParts (ps ++ [] ∷ []) m) (sym (parts_put q k x.spans))
      (subst (λ r. AreParts (put r k (parts_of x.spans) ++ [] ∷ []) m) same (with_nested (parts_of x.spans) m k h)))

  sound_span : IsSound m x → IsSound m (begin_span b frame control x)
  sound_span h = record {
    parts = begun_are x.running h.parts;
    running = subst (λ l. AreBelow l (length x.spans ∷ x.running)) (sym (begun_length x.running)) (omega arith, more_below (length x.spans) (length x.spans + 1) x.running (omega arith) h.running);
  }

sound_begin : (m : ℕ) (o : Option Mark) (frame : ℕ) (control : Option EventId) (x : Split) → IsSound m x → IsSound m (begin_if o frame control x)
sound_begin m None frame control x h = h
sound_begin m (Some mark) frame control x h = sound_span m mark.block frame control x h

-- ---- how many intervals run

drop_one : (ks : List ℕ) → length (drop 1 ks) ≡ length ks - 1
drop_one [] = refl
drop_one (k ∷ ks) = omega arith

abbrev pub one_mark : Option Mark → ℕ
one_mark None = 0
one_mark (Some m) = 1

pub end_count : (o : Option Mark) (tags : List Tag) (x : Split) → length (end_if o tags x).running ≡ length x.running - one_mark o
end_count None tags x = omega arith
end_count (Some m) tags x = drop_one x.running

pub begin_count : (o : Option Mark) (frame : ℕ) (control : Option EventId) (x : Split) → length (begin_if o frame control x).running ≡ one_mark o + length x.running
begin_count None frame control x = omega arith
begin_count (Some m) frame control x = omega arith

pub begins_is : (program : Program) (plan : Plan) (s : Proc) (need : Need) → one_mark (opened program plan s need) ≡ begins_by need
begins_is program plan s (n.Enter b u) = refl
begins_is program plan s (n.Invoke None u) = refl
begins_is program plan s (n.Invoke (Some b) u) = refl
begins_is program plan s need = refl

pub ends_is : (program : Program) (plan : Plan) (s : Proc) (need : Need) → one_mark (closed program plan s need) ≡ ends_by need
ends_is program plan s (n.Leave b u) = refl
ends_is program plan s (n.Back None u) = refl
ends_is program plan s (n.Back (Some b) u) = refl
ends_is program plan s (n.End b) = refl
ends_is program plan s need = refl

event_stopped : (need : Need) → is_event need ≡ true → need ≡ n.Stopped → ⊥
event_stopped need e f = true≢false (sym e ∙ ap is_event f)

events_count : (program : Program) (plan : Plan) (story : Story) (p : ℕ) (t : Tracing) (x : Taken) (need : Need) → length (trace_by program plan story p x need t).events ≡ one_more_if (is_event need) (length t.events)
events_count program plan story p t x (n.Read c) = refl
events_count program plan story p t x (n.Enter b u) = refl
events_count program plan story p t x n.Budget = refl
events_count program plan story p t x n.Stopped = refl
events_count program plan story p t x need = length-append t.events _

-- ---- all steps

module _ (program : Program) (plan : Plan) (v : IsValid program) (story' : Story) (p : ℕ) where
  -- the intervals of process p after some of its steps
  record IsKept (x : Split) : Type 0 where
    sound : IsSound (length x.trace.events) x
    inside : IsInside program plan p x.trace.proc (length x.running)

  some_runs : (x : Split) (need : Need) → IsKept x → need ≡ need_of program plan x.trace.proc → is_event need ≡ true → 0 < length x.running
  some_runs x need h mine e = by x.trace.proc.status refl
    where
      by : (o : Option Status) → x.trace.proc.status ≡ o → 0 < length x.running
      by None is = let enough = h.inside.enough is in omega (arith, enough)
      by (Some st) is = absurd (event_stopped need e (mine ∙ need_at_status program plan x.trace.proc (Some st) is))

  kept_step : (x : Split) (t : Taken) → t.need ≡ need_of program plan x.trace.proc → IsKept x → IsKept (split_step program plan story' p x t)
  kept_step x t mine h =
      let a : Split = with_step t.need x in
      let b : Split = with_own t.need a in
      let same_a = step_keeps t.need x in
      let same_b = own_keeps t.need a in
      let sound_a : IsSound (length x.trace.events) a = sound_step (length x.trace.events) t.need x h.sound in
      let sound_a' : IsSound (length a.trace.events) a = subst (λ (r : Tracing). IsSound (length r.events) a) (sym same_a.1) sound_a in
      let inside_a : is_event t.need ≡ true → 0 < length a.running = λ e. subst (λ ks. 0 < length ks) (sym same_a.0) (some_runs x t.need h mine e) in
      let sound_b : IsSound (one_more_if (is_event t.need) (length a.trace.events)) b = sound_own t.need a inside_a sound_a' in
      let proc_b : b.trace ≡ x.trace = same_b.1 ∙ same_a.1 in
      let running_b : b.running ≡ x.running = same_b.0 ∙ same_a.0 in
      let ended : Split = end_if (closed program plan b.trace.proc t.need) (left_by plan (me_in p b.trace) (top_tags b.trace.activations) t.need) b in
      let m : ℕ = one_more_if (is_event t.need) (length a.trace.events) in
      let sound_c : IsSound m ended = sound_end m (closed program plan b.trace.proc t.need) (left_by plan (me_in p b.trace) (top_tags b.trace.activations) t.need) b sound_b in
      let sound_d : IsSound m (with_marks program plan p t.need b) =
      sound_begin m (opened program plan b.trace.proc t.need) (frame_of program plan b.trace.proc) (control_by program p b.trace t.need) ended sound_c in
      let events : length (split_step program plan story' p x t).trace.events ≡ m =
      events_count program plan story' p x.trace t t.need ∙ ap (λ (r : Tracing). one_more_if (is_event t.need) (length r.events)) (sym same_a.1) in
      let counts : length (with_marks program plan p t.need b).running ≡ running_after t.need (length x.running) =
      begin_count (opened program plan b.trace.proc t.need) (frame_of program plan b.trace.proc) (control_by program p b.trace t.need) ended
      ∙ ap₂ (λ i j. i + j) (begins_is program plan b.trace.proc t.need)
      (end_count (closed program plan b.trace.proc t.need) (left_by plan (me_in p b.trace) (top_tags b.trace.activations) t.need) b
      ∙ ap₂ (λ i j. i - j) (ap length running_b) (ends_is program plan b.trace.proc t.need)) in
      record {
        sound = subst (λ k. IsSound k (split_step program plan story' p x t)) (sym events) (record { parts = sound_d.parts; running = sound_d.running });
        inside = subst (λ k. IsInside program plan p (act program plan x.trace.proc t.answer) k) (ap (λ need. running_after need (length x.running)) (sym mine) ∙ sym counts)
            (inside_step program plan p t.answer x.trace.proc (length x.running) v h.inside);
      }

  kept_fold : (x : Split) (steps : List Taken) → AreOwn program plan x.trace.proc steps → IsKept x → IsKept (fold (split_step program plan story' p) x steps)
  kept_fold x [] mine h = h
  kept_fold x (t ∷ ts) mine h = kept_fold (split_step program plan story' p x t) ts mine.1 (kept_step x t mine.0 h)

  abbrev nothing_begun : ℕ → Split
  nothing_begun budget = record { trace = begun_tracing (started program plan p budget); edges = []; edge = 0; spans = []; running = [] }

  kept_begun : (budget : ℕ) → IsKept (begun_split program plan p (started program plan p budget))
  kept_begun budget = record {
    sound = sound_span 0 (or_zero (block_of plan (block.Process (program.functions + p)))) 0 None (nothing_begun budget) (record { parts = record { events = λ k lt. absurd (omega (arith, lt)); own_below = λ k j i e. absurd (none-some (own i) e); nested_below = λ k j i e. absurd (none-some (nested i) e) }; running = tt });
    inside = inside_begun program plan p budget v;
  }

  kept : (budget : ℕ) (steps : List Taken) → AreOwn program plan (started program plan p budget) steps → IsKept (split_of (setting_of program plan budget) story' p steps)
  kept budget steps mine = kept_fold (begun_split program plan p (started program plan p budget)) steps mine (kept_begun budget)

-- ---- places

part_is : (spans : List Span) (k j : ℕ) → part_in (slice_get spans k) j ≡ at (parts_of spans) k j
part_is [] k j = refl
part_is (i ∷ is) zero j = refl
part_is (i ∷ is) (suc k) j = part_is is k j

own_only : (m : ℕ) (q : Part) → is_own m q ≡ true → q ≡ own m
own_only m (own k) e = ap own (sym (eqb-true m k e))
own_only m (nested k) e = absurd (true≢false (sym e))

found_from : (m i : ℕ) (ps : List Part) (j : ℕ) → slice_get ps j ≡ Some (own m) → (k : ℕ) × (position_from (is_own m) i ps ≡ Some (i + k)) × (slice_get ps k ≡ Some (own m))
found_from m i [] j e = absurd (none-some (own m) e)
found_from m i (q ∷ ps) j e = by (is_own m q) refl j e (λ k f. found_from m (i + 1) ps k f)
  where
    by : (b : Bool) → is_own m q ≡ b → (j : ℕ) → slice_get (q ∷ ps) j ≡ Some (own m) → ((k : ℕ) → slice_get ps k ≡ Some (own m) → (l : ℕ) × (position_from (is_own m) (i + 1) ps ≡ Some (i + 1 + l)) × (slice_get ps l ≡ Some (own m)))
        → (k : ℕ) × (cond b (Some i) (position_from (is_own m) (i + 1) ps) ≡ Some (i + k)) × (slice_get (q ∷ ps) k ≡ Some (own m))
    by true is j e rest = (0, (let z : i ≡ i + 0 = omega arith in ap (λ k. Some k) z), ap (λ (x : Part). Some x) (own_only m q is))
    by false is zero e rest = absurd (true≢false (sym (ap (is_own m) (some e) ∙ eq-eqb m m refl) ∙ is))
    by false is (suc j) e rest =
        let r = rest j e in
        (suc r.0, r.1 ∙ (let z : i + 1 + r.0 ≡ i + suc r.0 = omega arith in ap (λ k. Some k) z), r.2)

none_from : (m i : ℕ) (ps : List Part) → ((j : ℕ) → slice_get ps j ≡ Some (own m) → ⊥) → position_from (is_own m) i ps ≡ None
none_from m i [] h = refl
none_from m i (q ∷ ps) h = by (is_own m q) refl (none_from m (i + 1) ps (λ j e. h (suc j) e))
  where
    by : (b : Bool) → is_own m q ≡ b → position_from (is_own m) (i + 1) ps ≡ None → cond b (Some i) (position_from (is_own m) (i + 1) ps) ≡ None
    by true is rest = absurd (h 0 (ap (λ (x : Part). Some x) (own_only m q is)))
    by false is rest = rest

-- the place that is found is the only one
placed : (m c : ℕ) (spans : List Span) (k j : ℕ) → at (parts_of spans) k j ≡ Some (own m) → ((k' j' : ℕ) → at (parts_of spans) k' j' ≡ Some (own m) → (k' ≡ k) × (j' ≡ j)) → place_in m c spans ≡ Some (c + k, j)
placed m c [] k j e once = absurd (none-some (own m) e)
placed m c (i ∷ is) zero j e once =
    let found = found_from m 0 i.parts j e in
    let same : found.0 ≡ j = (once 0 found.0 found.2).1 in
    let zero_more : 0 + found.0 ≡ j = omega (arith, same) in
    let at_j : position (is_own m) i.parts ≡ Some j = position_from-zero (is_own m) i.parts ∙ found.1 ∙ ap (λ l. Some l) zero_more in
    let z : c ≡ c + 0 = omega arith in
    ap (λ o. place_or c o (place_in m (c + 1) is)) at_j ∙ ap (λ l. Some (l, j)) z
placed m c (i ∷ is) (suc k) j e once =
    let nowhere : position (is_own m) i.parts ≡ None = position_from-zero (is_own m) i.parts ∙ none_from m 0 i.parts (λ l f. let z : 0 ≡ suc k = (once 0 l f).0 in absurd (omega (arith, z))) in
    let rest : place_in m (c + 1) is ≡ Some (c + 1 + k, j) = placed m (c + 1) is k j e (λ k' j' f. let both = once (suc k') j' f in (let z : suc k' ≡ suc k = both.0 in omega (arith, z), both.1)) in
    let z : c + 1 + k ≡ c + suc k = omega arith in
    ap (λ o. place_or c o (place_in m (c + 1) is)) nowhere ∙ rest ∙ ap (λ l. Some (l, j)) z

-- ---- items

one_item : (x : Split) (q : Part) → ((m : ℕ) → q ≡ own m → m < length x.trace.events) → ((m : ℕ) → q ≡ nested m → m < length x.spans) → length (item_of x q) ≡ 1
one_item x (own m) events spans = let there = slice_get_there x.trace.events m (events m refl) in ap (λ o. length (item_of_event o)) there.1
one_item x (nested m) events spans = let there = slice_get_there x.spans m (spans m refl) in ap (λ o. length (item_of_span m o)) there.1

all_items : (x : Split) (ps : List Part) → ((j m : ℕ) → slice_get ps j ≡ Some (own m) → m < length x.trace.events) → ((j m : ℕ) → slice_get ps j ≡ Some (nested m) → m < length x.spans) → length (flat_map (item_of x) ps) ≡ length ps
all_items x [] events spans = refl
all_items x (q ∷ ps) events spans =
    length-append (item_of x q) (flat_map (item_of x) ps)
    ∙ ap₂ (λ i j. i + j) (one_item x q (λ m e. events 0 m (ap (λ (z : Part). Some z) e)) (λ m e. spans 0 m (ap (λ (z : Part). Some z) e))) (all_items x ps (λ j m e. events (suc j) m e) (λ j m e. spans (suc j) m e))
    ∙ omega arith

parts_at : (spans : List Span) (k : ℕ) (i : Span) → slice_get spans k ≡ Some i → get_or (parts_of spans) k [] ≡ i.parts
parts_at [] k i e = absurd (none-some i e)
parts_at (x ∷ xs) zero i e = ap (λ (s : Span). s.parts) (some e)
parts_at (x ∷ xs) (suc k) i e = parts_at xs k i e

module _ (setting : Setting) where
  pub split_found : (story' : Story) (q : ℕ) (steps : List (List Taken)) (p : ℕ) (x : Split) → slice_get (splits_from setting story' q steps) p ≡ Some x
      → split_of setting story' (q + p) (get_or steps p []) ≡ x
  split_found story' q [] p x e = absurd (none-some x e)
  split_found story' q (xs ∷ rest) zero x e = (let z : q + 0 ≡ q = omega arith in ap (λ k. split_of setting story' k xs) z) ∙ some e
  split_found story' q (xs ∷ rest) (suc p) x e =
      (let z : q + suc p ≡ (q + 1) + p = omega arith in ap (λ k. split_of setting story' k (get_or rest p [])) z) ∙ split_found story' (q + 1) rest p x e

pub items_whole : ItemsAreWhole
items_whole setting h p x v e =
    let s : Story = story setting h in
    let z : 0 + p ≡ p = omega arith in
    let is : split_of setting s p (get_or s.steps p []) ≡ x = ap (λ k. split_of setting s k (get_or s.steps p [])) (sym z) ∙ split_found setting s 0 s.steps p x e in
    let now : IsKept setting.program setting.plan v s p x = subst (λ (y : Split). IsKept setting.program setting.plan v s p y) is (kept setting.program setting.plan v s p setting.budget (get_or s.steps p []) (own_steps_told setting h p)) in
    record {
      whole = λ k i at_k.
          all_items x i.parts
          (λ j m f. now.sound.parts.own_below k j m (ap (λ ps. slice_get ps j) (parts_at x.spans k i at_k) ∙ f))
          (λ j m f. subst (λ l. m < l) (parts_length x.spans) (now.sound.parts.nested_below k j m (ap (λ ps. slice_get ps j) (parts_at x.spans k i at_k) ∙ f)));
      events = λ m lt.
          let o : IsOnce (parts_of x.spans) m = now.sound.parts.events m lt in
          record {
            interval = o.list;
            item = o.place;
            placed = record { there = part_is x.spans o.list o.place ∙ o.there; once = λ k j f. o.once k j (sym (part_is x.spans k j) ∙ f) };
            ref_is = ap (λ y. ref_in (record { process = p; number = m }) y) e ∙ ap (item_at p) (placed m 0 x.spans o.list o.place o.there o.once ∙ (let y : 0 + o.list ≡ o.list = omega arith in ap (λ k. Some (k, o.place)) y));
          };
    }

-- as many processes as lists of steps
pub splits_length : (setting : Setting) (s : Story) (q : ℕ) (steps : List (List Taken))
    → length (splits_from setting s q steps) ≡ length steps
splits_length setting s q [] = refl
splits_length setting s q (xs ∷ rest) = ap suc (splits_length setting s (q + 1) rest)
