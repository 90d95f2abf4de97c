-- The entries of a process's intervals are of the steps that opened and left them.
use Rattle.ppd_model.specs.Setting.{Setting}
use Rattle.ppd_ast.specs.declared.plan.Plan.{Plan}
use Rattle.ppd_ast.specs.declared.program.Program.{Program}
use Rattle.ppd_ast.specs.declared.status.Status.{Status}
use Rattle.ppd_ast.specs.declared.status.Status.TheVariants as status
use Rattle.ppd_model.specs.declared.entry.Entry.{Entry}
use Rattle.ppd_model.specs.declared.entry.Entry.TheVariants as entry
use Rattle.ppd_model.proofs.Balanced.{each_change}
use Rattle.ppd_model.proofs.Changes.{some}
use Rattle.ppd_model.proofs.CountedOn.{kept_at, last_at}
use Rattle.ppd_model.proofs.ExtentWords.{Extending, begun_extents, ended_by, extend, extents_are, extents_by, left_by as extents_left}
use Rattle.ppd_model.proofs.Extents.{IsIn, WasBefore, ended_before, entry_number, last_by, running_going}
use Rattle.ppd_model.proofs.IntervalWords.{begin_if, end_if}
use Rattle.ppd_model.proofs.Items.{own_keeps, split_found, step_keeps}
use Rattle.ppd_model.proofs.RecordedSets.{steps_found}
use Rattle.ppd_model.specs.Bounds.{AreEach}
use Rattle.ppd_model.specs.Extents.{Extent, extents}
use Rattle.ppd_model.specs.FullTrace.{Tag, me_in, top_tags}
use Rattle.ppd_model.specs.Intervals.{Span, Split, begun_split, change_first, control_by, innermost, left_by, nested, own, split_of, split_step, with_marks, with_own, with_part, with_step}
use Rattle.ppd_model.specs.Logs.{Logging, begun_log, block_entries, closed_log, ends, entries_of, log_of, log_step, status_of, syncs, units}
use Rattle.ppd_model.specs.Marks.{Mark, closed, opened}
use Rattle.ppd_model.specs.Story.{Moment, Story, Taken, steps_of, story, told, unit_started}
use Rattle.ppd_model.specs.Synchronizations.{Sync, sync_of}
use Rattle.ppd_model.specs.World.{change}
use Rattle.ppd_model.specs.Written.{IntervalsAreOfSteps, IsEndAt, IsOfSteps, WroteEntry}
use Rattle.ppd_model.specs.declared.trace.EventId.{EventId}
use Rattle.ppd_sem.specs.Described.{frame_of, is_event}
use Rattle.ppd_sem.specs.Process.{act, started}
use Rattle.ppd_sem.specs.declared.proc.Need.{Need}
use Rattle.ppd_sem.specs.declared.proc.Need.TheVariants as n
use Rattle.ppd_sem.specs.declared.proc.Proc.{Proc}
use Rattle.std.proofs.Common.{Bool, List, None, Option, Some, [], ap, ap₂, arith, false, if◌then◌else◌, inl, inr, length, length-append, refl, subst, suc, sym, true, true≢false, zero, ℕ, ◌++◌, ◌+◌, ◌<◌, ◌∙◌, ◌∷◌, ◌≡◌, ◌≤◌, ◌⊎◌}
use Rattle.std.proofs.lemmas.List.{append-nil, append_assoc}
use Rattle.std.proofs.lemmas.List.Sums.{fold-append}
use Rattle.std.proofs.lemmas.Option.{none-some}
use Rattle.std.specs.Prelude.{drop, fold, get_or, is_none, is_some, slice_get}

-- ---- two lists with each pair related

each_more : {A B : Type 0} (R S : A → B → Type 0) → ((x : A) (y : B) → R x y → S x y) → (xs : List A) (ys : List B) → AreEach R xs ys → AreEach S xs ys
each_more R S f [] [] h = tt
each_more R S f [] (y ∷ ys) h = absurd h
each_more R S f (x ∷ xs) [] h = absurd h
each_more R S f (x ∷ xs) (y ∷ ys) h = (f x y h.0, each_more R S f xs ys h.1)

pub each_end : {A B : Type 0} (R : A → B → Type 0) (xs : List A) (ys : List B) (x : A) (y : B) → AreEach R xs ys → R x y → AreEach R (xs ++ x ∷ []) (ys ++ y ∷ [])
each_end R [] [] x y h r = (r, tt)
each_end R [] (b ∷ ys) x y h r = absurd h
each_end R (a ∷ xs) [] x y h r = absurd h
each_end R (a ∷ xs) (b ∷ ys) x y h r = (h.0, each_end R xs ys x y h.1 r)

pub each_length : {A B : Type 0} (R : A → B → Type 0) (xs : List A) (ys : List B) → AreEach R xs ys → length xs ≡ length ys
each_length R [] [] h = refl
each_length R [] (y ∷ ys) h = absurd h
each_length R (x ∷ xs) [] h = absurd h
each_length R (x ∷ xs) (y ∷ ys) h = ap suc (each_length R xs ys h.1)

each_left : {A B : Type 0} (R : A → B → Type 0) (f : A → A) → ((x : A) (y : B) → R x y → R (f x) y) → (k : ℕ) (xs : List A) (ys : List B) → AreEach R xs ys → AreEach R (change f k xs) ys
each_left R f go k [] ys h = h
each_left R f go k (x ∷ xs) [] h = absurd h
each_left R f go zero (x ∷ xs) (y ∷ ys) h = (go x y h.0, h.1)
each_left R f go (suc k) (x ∷ xs) (y ∷ ys) h = (h.0, each_left R f go k xs ys h.1)

pub each_both : {A B : Type 0} (R : A → B → Type 0) (f : A → A) (g : B → B) → ((x : A) (y : B) → R x y → R (f x) (g y)) → (k : ℕ) (xs : List A) (ys : List B) → AreEach R xs ys → AreEach R (change f k xs) (change g k ys)
each_both R f g go k [] [] h = tt
each_both R f g go k [] (y ∷ ys) h = absurd h
each_both R f g go k (x ∷ xs) [] h = absurd h
each_both R f g go zero (x ∷ xs) (y ∷ ys) h = (go x y h.0, h.1)
each_both R f g go (suc k) (x ∷ xs) (y ∷ ys) h = (h.0, each_both R f g go k xs ys h.1)

-- ---- the intervals of the steps and of the entries so far

module _ (IsOf : ℕ → ℕ → Type 0) (IsEnd : ℕ → Type 0) where
  abbrev IsBoth : Span → Extent → Type 0
  IsBoth i x = (is_some i.closed ≡ x.closed) × IsOfSteps IsOf IsEnd i x

  record AreTied (now : ℕ) (x : Split) (y : Extending) : Type 0 where
    running : x.running ≡ y.running
    edges : length x.edges ≡ now
    each : AreEach IsBoth x.spans y.intervals

  first_tied : (f : Span → Span) → ((i : Span) (z : Extent) → IsBoth i z → IsBoth (f i) z) → (ks : List ℕ) (spans : List Span) (xs : List Extent) → AreEach IsBoth spans xs → AreEach IsBoth (change_first f ks spans) xs
  first_tied f go [] spans xs h = h
  first_tied f go (k ∷ ks) spans xs h = each_left IsBoth f go k spans xs h

  more_steps : (i : Span) (z : Extent) → IsBoth i z → IsBoth (record i { steps = i.steps + 1 }) z
  more_steps i z r = (r.0, record { opened = r.1.opened; closed = r.1.closed; going = r.1.going })

  step_tied : (now : ℕ) (need : Need) (x : Split) (y : Extending) → AreTied now x y → AreTied now (with_step need x) y
  step_tied now n.Budget x y h = h
  step_tied now n.Stopped x y h = h
  step_tied now need x y h = record { running = h.running; edges = h.edges; each = first_tied (λ i. record i { steps = i.steps + 1 }) more_steps x.running x.spans y.intervals h.each }

  own_tied : (now : ℕ) (need : Need) (x : Split) (y : Extending) → AreTied now x y → AreTied now (with_own need x) y
  own_tied now need x y h = by (is_event need)
    where
      by : (b : Bool) → AreTied now (if b then innermost (with_part (own (length x.trace.events))) x else x) y
      by true = record {
        running = h.running;
        edges = h.edges;
        each = first_tied (with_part (own (length x.trace.events))) (λ i z r. (r.0, record { opened = r.1.opened; closed = r.1.closed; going = r.1.going })) x.running x.spans y.intervals h.each;
      }
      by false = h

  begin_tied : (now : ℕ) (o : Option Mark) (frame : ℕ) (control : Option EventId) (x : Split) (y : Extending) → ((m : Mark) → o ≡ Some m → IsOf now y.entry) → AreTied now x y → AreTied now (begin_if o frame control x) (fold extend y (block_entries entry.Prelog o))
  begin_tied now None frame control x y of h = h
  begin_tied now (Some m) frame control x y of h =
      let outer : AreEach IsBoth (change_first (with_part (nested (length x.spans))) x.running x.spans) y.intervals =
      first_tied (with_part (nested (length x.spans))) (λ i z r. (r.0, record { opened = r.1.opened; closed = r.1.closed; going = r.1.going })) x.running x.spans y.intervals h.each in
      record {
        running = ap₂ (λ k ks. k ∷ ks) (each_length IsBoth x.spans y.intervals h.each) h.running;
        edges = h.edges;
        each = each_end IsBoth (change_first (with_part (nested (length x.spans))) x.running x.spans) y.intervals _ _ outer (
          refl,
          record { opened = inr (subst (λ k. IsOf k y.entry) (sym h.edges) (of m refl)); closed = λ k e. absurd (none-some k e); going = λ e j f. absurd (none-some j f) },
        );
      }

  end_tied : (now : ℕ) (o : Option Mark) (tags : List Tag) (x : Split) (y : Extending) → ((m : Mark) → o ≡ Some m → IsOf now y.entry) → AreTied now x y → AreTied now (end_if o tags x) (fold extend y (block_entries entry.Postlog o))
  end_tied now None tags x y of h = h
  end_tied now (Some m) tags x y of h = record {
    running = ap (λ ks. drop 1 ks) h.running;
    edges = h.edges;
    each = by x.running h.running;
  }
    where
      by : (ks : List ℕ) → ks ≡ y.running → AreEach IsBoth (change_first (λ i. record i { closed = Some (length x.edges); values = m.values; left = tags }) ks x.spans) (extents_left y.entry y.running y.intervals)
      by [] e = subst (λ rs. AreEach IsBoth x.spans (extents_left y.entry rs y.intervals)) e h.each
      by (k ∷ ks) e =
          subst (λ rs. AreEach IsBoth (change (λ i. record i { closed = Some (length x.edges); values = m.values; left = tags }) k x.spans) (extents_left y.entry rs y.intervals)) e
          (each_both IsBoth (λ i. record i { closed = Some (length x.edges); values = m.values; left = tags }) (λ z. record z { last = Some y.entry; closed = true })
          (λ i z r. (
            refl,
            record { opened = r.1.opened; closed = λ c f. (y.entry, refl, subst (λ j. IsOf j y.entry) (sym h.edges ∙ some f) (of m refl)); going = λ f. absurd (none-some (length x.edges) (sym f)) },
          ))
          k x.spans y.intervals h.each)

  sync_tied : (now : ℕ) (l : Logging) (t : Taken) (o : Option Sync) (x : Split) (y : Extending) → AreTied now x y → AreTied now x (fold extend y (syncs l t o))
  sync_tied now l t None x y h = h
  sync_tied now l t (Some s) x y h = record { running = h.running; edges = h.edges; each = h.each }

  unit_tied : (now : ℕ) (u : Option ℕ) (values : List _) (x : Split) (y : Extending) → AreTied now x y → AreTied now x (fold extend y (units u values))
  unit_tied now None values x y h = h
  unit_tied now (Some u) values x y h = record { running = h.running; edges = h.edges; each = h.each }

  -- running intervals are not left, so an end is their last entry
  ended_tied : (j : ℕ) (ks : List ℕ) (spans : List Span) (xs : List Extent) → ((k : ℕ) (e : Extent) → IsIn k ks → slice_get xs k ≡ Some e → e.closed ≡ false) → IsEnd j → AreEach IsBoth spans xs → AreEach IsBoth spans (ended_by j ks xs)
  ended_tied j [] spans xs going end h = h
  ended_tied j (k ∷ ks) spans xs going end h =
      ended_tied j ks spans (change (last_by j) k xs)
      (λ m f i at. let w : WasBefore j (k ∷ []) xs m f = ended_before j (k ∷ []) xs m f at in w.like.closed ∙ going m w.extent (inr i) w.there) end
      (each_change IsBoth (last_by j) k spans xs
      (λ i z at r. (
        r.0,
        record {
          opened = r.1.opened;
          closed = λ c e. absurd (true≢false (sym (ap (λ (o : Option ℕ). is_some (record i { closed = o }).closed) e) ∙ r.0 ∙ going k z (inl refl) at));
          going = λ e m f. subst IsEnd (some f) end;
        },
      ))
      h)

  stop_tied : (now : ℕ) (l : Logging) (o : Option Status) (x : Split) (y : Extending) → ((k : ℕ) (e : Extent) → IsIn k y.running → slice_get y.intervals k ≡ Some e → e.closed ≡ false) → ((s : Status) → o ≡ Some s → IsEnd y.entry) → AreTied now x y → AreTied now x (fold extend y (ends l o))
  stop_tied now l None x y going end h = h
  stop_tied now l (Some s) x y going end h = record { running = h.running; edges = h.edges; each = ended_tied y.entry y.running x.spans y.intervals going (end s refl) h.each }

  -- ---- one step

  abbrev at : List Entry → Extending
  at es = fold extend begun_extents es

  onto : (now : ℕ) (x : Split) (es more : List Entry) → AreTied now x (fold extend (at es) more) → AreTied now x (at (es ++ more))
  onto now x es more h = subst (λ y. AreTied now x y) (sym (fold-append extend begun_extents es more)) h

  -- a step does not both enter and leave a block
  two_marks : (now : ℕ) (es : List Entry) (l : Logging) (t : Taken) (a b : Option Mark) (frame : ℕ) (control : Option EventId) (tags : List Tag) (x : Split)
      → (a ≡ None) ⊎ (b ≡ None) → ((m : Mark) → a ≡ Some m → IsOf now (length es)) → ((m : Mark) → b ≡ Some m → IsOf now (length ((es ++ block_entries entry.Prelog a) ++ syncs l t (sync_of t))))
      → AreTied now x (at es) → AreTied now (begin_if a frame control (end_if b tags x)) (at (((es ++ block_entries entry.Prelog a) ++ syncs l t (sync_of t)) ++ block_entries entry.Postlog b))
  two_marks now es l t None b frame control tags x e o c h =
      let one : AreTied now x (at (es ++ [])) = onto now x es [] h in
      let two : AreTied now x (at ((es ++ []) ++ syncs l t (sync_of t))) = onto now x (es ++ []) (syncs l t (sync_of t)) (sync_tied now l t (sync_of t) x (at (es ++ [])) one) in
      onto now (end_if b tags x) ((es ++ []) ++ syncs l t (sync_of t)) (block_entries entry.Postlog b)
      (end_tied now b tags x (at ((es ++ []) ++ syncs l t (sync_of t))) (λ m f. subst (λ j. IsOf now j) (sym (entry_number ((es ++ []) ++ syncs l t (sync_of t)))) (c m f)) two)
  two_marks now es l t (Some k) None frame control tags x e o c h =
      let y : Split = begin_if (Some k) frame control x in
      let one : AreTied now y (at (es ++ block_entries entry.Prelog (Some k))) =
      onto now y es (block_entries entry.Prelog (Some k)) (begin_tied now (Some k) frame control x (at es) (λ m f. subst (λ j. IsOf now j) (sym (entry_number es)) (o m f)) h) in
      let two : AreTied now y (at ((es ++ block_entries entry.Prelog (Some k)) ++ syncs l t (sync_of t))) =
      onto now y (es ++ block_entries entry.Prelog (Some k)) (syncs l t (sync_of t)) (sync_tied now l t (sync_of t) y (at (es ++ block_entries entry.Prelog (Some k))) one) in
      onto now y ((es ++ block_entries entry.Prelog (Some k)) ++ syncs l t (sync_of t)) [] two
  two_marks now es l t (Some k) (Some m) frame control tags x e o c h = elim e [ inl f ↦ absurd (none-some k (sym f)) | inr f ↦ absurd (none-some m (sym f)) ]

one_mark : (program : Program) (plan : Plan) (s : Proc) (need : Need) → (opened program plan s need ≡ None) ⊎ (closed program plan s need ≡ None)
one_mark program plan s (n.Enter b u) = inr refl
one_mark program plan s (n.Invoke b u) = inr refl
one_mark program plan s need = inl refl

pub in_order : (es a b c d e : List Entry) → es ++ (a ++ b ++ c ++ d ++ e) ≡ es ++ a ++ b ++ c ++ d ++ e
in_order es a b c d e =
    sym (append_assoc es (a ++ b ++ c ++ d) e)
    ∙ ap (λ z. z ++ e) (sym (append_assoc es (a ++ b ++ c) d) ∙ ap (λ z. z ++ d) (sym (append_assoc es (a ++ b) c) ∙ ap (λ z. z ++ c) (sym (append_assoc es a b))))

one_at_least : (o : Option Mark) (m : Mark) → o ≡ Some m → length (block_entries entry.Postlog o) ≡ 1
one_at_least None m e = absurd (none-some m e)
one_at_least (Some k) m e = refl

one_prelog : (o : Option Mark) (m : Mark) → o ≡ Some m → length (block_entries entry.Prelog o) ≡ 1
one_prelog None m e = absurd (none-some m e)
one_prelog (Some k) m e = refl

one_end : (l : Logging) (o : Option Status) (s : Status) → o ≡ Some s → ends l o ≡ entry.End s l.rest l.reads l.writes ∷ []
one_end l None s e = absurd (none-some s e)
one_end l (Some k) s e = ap (λ z. entry.End z l.rest l.reads l.writes ∷ []) (some e)

end_there : (xs es more : List Entry) (e : Entry) → es ≡ e ∷ [] → slice_get ((xs ++ es) ++ more) (length xs) ≡ Some e
end_there xs es more e is = subst (λ l. slice_get ((xs ++ l) ++ more) (length xs) ≡ Some e) (sym is) (kept_at (xs ++ e ∷ []) more (length xs) e (last_at xs e))

-- ---- all steps of a process

module _ (setting : Setting) (p : ℕ) (story' : Story) (all : List Moment) where
  abbrev entries : List Entry
  entries = (log_of setting p all).entries

  abbrev IsOf : ℕ → ℕ → Type 0
  IsOf now j = WroteEntry setting p all now j

  abbrev IsKeptEnd : ℕ → Type 0
  IsKeptEnd j = IsEndAt entries j × ((now : ℕ) × IsOf now j)

  log_grows : (l : Logging) (ms : List Moment) → (more : List Entry) × ((fold (log_step setting.program setting.plan) l ms).entries ≡ l.entries ++ more)
  log_grows l [] = ([], sym (append-nil l.entries))
  log_grows l (m ∷ ms) =
      let r = log_grows (log_step setting.program setting.plan l m) ms in
      (entries_of setting.program setting.plan l m ++ r.0, r.1 ∙ append_assoc l.entries (entries_of setting.program setting.plan l m) r.0)

  log_next : (done : List Moment) (m : Moment) → log_of setting p (done ++ m ∷ []) ≡ log_step setting.program setting.plan (log_of setting p done) m
  log_next done m = fold-append (log_step setting.program setting.plan) (begun_log setting p) done (m ∷ [])

  log_through : (done rest : List Moment) (m : Moment) → all ≡ done ++ m ∷ rest
      → (more : List Entry) × (entries ≡ ((log_of setting p done).entries ++ entries_of setting.program setting.plan (log_of setting p done) m) ++ more)
  log_through done rest m e =
      let r = log_grows (log_step setting.program setting.plan (log_of setting p done) m) rest in
      (r.0, ap (λ ms. (log_of setting p ms).entries) e ∙ ap (λ (l : Logging). l.entries) (fold-append (log_step setting.program setting.plan) (begun_log setting p) done (m ∷ rest)) ∙ r.1)

  -- an entry that a step adds is of that step
  inside : (done rest : List Moment) (m : Moment) → all ≡ done ++ m ∷ rest → (j : ℕ) → length (log_of setting p done).entries ≤ j
      → j < length ((log_of setting p done).entries ++ entries_of setting.program setting.plan (log_of setting p done) m) → IsOf (length done) j
  inside done rest m e j lo hi = record {
    before = done;
    moment = m;
    after = rest;
    moments_are = e;
    step = refl;
    new = lo;
    there = subst (λ (l : Logging). j < length l.entries) (sym (log_next done m)) hi;
  }

  one_step : (done rest : List Moment) (m : Moment) (x : Split) → all ≡ done ++ m ∷ rest → x.trace.proc ≡ (log_of setting p done).proc
      → AreTied IsOf IsKeptEnd (length done) x (at IsOf IsKeptEnd (log_of setting p done).entries)
      → AreTied IsOf IsKeptEnd (length (done ++ m ∷ [])) (split_step setting.program setting.plan story' p x m.taken) (at IsOf IsKeptEnd (log_of setting p (done ++ m ∷ [])).entries)
  one_step done rest m x e proc h =
      let l : Logging = log_of setting p done in
      let need : Need = m.taken.need in
      let es : List Entry = l.entries in
      let a : List Entry = block_entries entry.Prelog (opened setting.program setting.plan l.proc need) in
      let b : List Entry = syncs l m.taken (sync_of m.taken) in
      let c : List Entry = block_entries entry.Postlog (closed setting.program setting.plan l.proc need) in
      let d : List Entry = units (unit_started need) m.unit_values in
      let ending : List Entry = ends l (status_of need) in
      let whole : es ++ entries_of setting.program setting.plan l m ≡ ((((es ++ a) ++ b) ++ c) ++ d) ++ ending = in_order es a b c d ending in
      let total : length (es ++ entries_of setting.program setting.plan l m) ≡ length ((((es ++ a) ++ b) ++ c) ++ d) + length ending = ap length whole ∙ length-append ((((es ++ a) ++ b) ++ c) ++ d) ending in
      let to_d : length ((((es ++ a) ++ b) ++ c) ++ d) ≡ length (((es ++ a) ++ b) ++ c) + length d = length-append (((es ++ a) ++ b) ++ c) d in
      let to_c : length (((es ++ a) ++ b) ++ c) ≡ length ((es ++ a) ++ b) + length c = length-append ((es ++ a) ++ b) c in
      let to_b : length ((es ++ a) ++ b) ≡ length (es ++ a) + length b = length-append (es ++ a) b in
      let to_a : length (es ++ a) ≡ length es + length a = length-append es a in
      let x1 : Split = with_own need (with_step need x) in
      let trace_is : x1.trace ≡ x.trace = (own_keeps need (with_step need x)).1 ∙ (step_keeps need x).1 in
      let proc_is : x1.trace.proc ≡ l.proc = ap (λ t. t.proc) trace_is ∙ proc in
      let quiet : AreTied IsOf IsKeptEnd (length done) x1 (at IsOf IsKeptEnd es) =
      own_tied IsOf IsKeptEnd (length done) need (with_step need x) (at IsOf IsKeptEnd es) (step_tied IsOf IsKeptEnd (length done) need x (at IsOf IsKeptEnd es) h) in
      let frame : ℕ = frame_of setting.program setting.plan x1.trace.proc in
      let control : Option EventId = control_by setting.program p x1.trace need in
      let tags : List Tag = left_by setting.plan (me_in p x1.trace) (top_tags x1.trace.activations) need in
      let by_marks : AreTied IsOf IsKeptEnd (length done) (begin_if (opened setting.program setting.plan l.proc need) frame control (end_if (closed setting.program setting.plan l.proc need) tags x1)) (at IsOf IsKeptEnd (((es ++ a) ++ b) ++ c)) =
      two_marks IsOf IsKeptEnd (length done) es l m.taken (opened setting.program setting.plan l.proc need) (closed setting.program setting.plan l.proc need) frame control tags x1 (one_mark setting.program setting.plan l.proc need)
      (λ k f. let one : length a ≡ 1 = one_prelog (opened setting.program setting.plan l.proc need) k f in inside done rest m e (length es) (omega arith) (omega (arith, one, total, to_d, to_c, to_b, to_a)))
      (λ k f. let one : length c ≡ 1 = one_at_least (closed setting.program setting.plan l.proc need) k f in inside done rest m e (length ((es ++ a) ++ b)) (omega (arith, to_b, to_a)) (omega (arith, one, total, to_d, to_c)))
      quiet in
      let x2 : Split = with_marks setting.program setting.plan p need x1 in
      let here : AreTied IsOf IsKeptEnd (length done) x2 (at IsOf IsKeptEnd (((es ++ a) ++ b) ++ c)) =
      subst (λ s. AreTied IsOf IsKeptEnd (length done) (begin_if (opened setting.program setting.plan s need) frame control (end_if (closed setting.program setting.plan s need) tags x1)) (at IsOf IsKeptEnd (((es ++ a) ++ b) ++ c))) (sym proc_is) by_marks in
      let there : AreTied IsOf IsKeptEnd (length done) x2 (at IsOf IsKeptEnd ((((es ++ a) ++ b) ++ c) ++ d)) =
      onto IsOf IsKeptEnd (length done) x2 (((es ++ a) ++ b) ++ c) d (unit_tied IsOf IsKeptEnd (length done) (unit_started need) m.unit_values x2 (at IsOf IsKeptEnd (((es ++ a) ++ b) ++ c)) here) in
      let before : List Entry = (((es ++ a) ++ b) ++ c) ++ d in
      let after = log_through done rest m e in
      let stops : (s : Status) → status_of need ≡ Some s → IsKeptEnd (at IsOf IsKeptEnd before).entry = λ s f.
      let one : ending ≡ entry.End s l.rest l.reads l.writes ∷ [] = one_end l (status_of need) s f in
      let count : length ending ≡ 1 = ap length one in
      let found : slice_get entries (length before) ≡ Some (entry.End s l.rest l.reads l.writes) =
      subst (λ es'. slice_get es' (length before) ≡ Some (entry.End s l.rest l.reads l.writes)) (sym (after.1 ∙ ap (λ es'. es' ++ after.0) whole)) (end_there before ending after.0 (entry.End s l.rest l.reads l.writes) one) in
      subst IsKeptEnd (sym (entry_number before))
      (record { status = s; rest = l.rest; reads = l.reads; writes = l.writes; at = found }, (length done, inside done rest m e (length before) (omega (arith, to_d, to_c, to_b, to_a)) (omega (arith, count, total)))) in
      let ended : AreTied IsOf IsKeptEnd (length done) x2 (at IsOf IsKeptEnd (before ++ ending)) =
      onto IsOf IsKeptEnd (length done) x2 before ending
      (stop_tied IsOf IsKeptEnd (length done) l (status_of need) x2 (at IsOf IsKeptEnd before) (running_going before) stops there) in
      let last : AreTied IsOf IsKeptEnd (length done) x2 (at IsOf IsKeptEnd (log_of setting p (done ++ m ∷ [])).entries) =
      subst (λ es'. AreTied IsOf IsKeptEnd (length done) x2 (at IsOf IsKeptEnd es')) (sym (ap (λ (k : Logging). k.entries) (log_next done m) ∙ whole)) ended in
      record {
        running = last.running;
        edges = length-append x.edges (x.edge ∷ []) ∙ ap (λ k. k + 1) h.edges ∙ sym (length-append done (m ∷ []));
        each = last.each;
      }

  all_steps : (done rest : List Moment) (x : Split) → all ≡ done ++ rest → x.trace.proc ≡ (log_of setting p done).proc
      → AreTied IsOf IsKeptEnd (length done) x (at IsOf IsKeptEnd (log_of setting p done).entries)
      → AreTied IsOf IsKeptEnd (length all) (fold (split_step setting.program setting.plan story' p) x (steps_of rest)) (at IsOf IsKeptEnd entries)
  all_steps done [] x e proc h = subst (λ ms. AreTied IsOf IsKeptEnd (length ms) x (at IsOf IsKeptEnd (log_of setting p ms).entries)) (sym (e ∙ append-nil done)) h
  all_steps done (m ∷ rest) x e proc h =
      all_steps (done ++ m ∷ []) rest (split_step setting.program setting.plan story' p x m.taken) (e ∙ sym (append_assoc done (m ∷ []) rest))
      (ap (λ s. act setting.program setting.plan s m.taken.answer) proc ∙ sym (ap (λ (l : Logging). l.proc) (log_next done m)))
      (one_step done rest m x e proc h)

  all_tied : AreTied IsOf IsKeptEnd (length all) (split_of setting story' p (steps_of all)) (at IsOf IsKeptEnd entries)
  all_tied = all_steps [] all (begun_split setting.program setting.plan p (started setting.program setting.plan p setting.budget)) refl refl (record {
    running = refl;
    edges = refl;
    each = ((refl, record { opened = inl (refl, refl); closed = λ k e. absurd (none-some k e); going = λ e j f. absurd (none-some j f) }), tt);
  })

  -- ---- the closed log

  abbrev log : Logging
  log = log_of setting p all

  abbrev IsAnyEnd : ℕ → Type 0
  IsAnyEnd j = IsEndAt (closed_log log) j × ((j ≡ length log.entries) ⊎ ((now : ℕ) × IsOf now j))

  wider : (more : List Entry) → closed_log log ≡ log.entries ++ more → (i : Span) (z : Extent) → IsBoth IsOf IsKeptEnd i z → IsBoth IsOf IsAnyEnd i z
  wider more is i z r = (
    r.0,
    record {
      opened = r.1.opened;
      closed = r.1.closed;
      going = λ e j f.
          let k = r.1.going e j f in (
            record {
              status = k.0.status;
              rest = k.0.rest;
              reads = k.0.reads;
              writes = k.0.writes;
              at = subst (λ es. slice_get es j ≡ Some (entry.End k.0.status k.0.rest k.0.reads k.0.writes)) (sym is) (kept_at log.entries more j (entry.End k.0.status k.0.rest k.0.reads k.0.writes) k.0.at);
            },
            inr k.1,
          );
    },
  )

  of_closed : (spans : List Span) → AreEach (IsBoth IsOf IsKeptEnd) spans (extents_by log.entries) → AreEach (IsBoth IsOf IsAnyEnd) spans (extents_by (closed_log log))
  of_closed spans h = by (is_none log.proc.status) refl
    where
      by : (b : Bool) → is_none log.proc.status ≡ b → AreEach (IsBoth IsOf IsAnyEnd) spans (extents_by (closed_log log))
      by true e =
          let blocked : Entry = entry.End status.Blocked log.rest log.reads log.writes in
          let is : closed_log log ≡ log.entries ++ blocked ∷ [] = ap (λ c. log.entries ++ (if c then blocked ∷ [] else [])) e in
          let y : Extending = fold extend begun_extents log.entries in
          let number : y.entry ≡ length log.entries = entry_number log.entries in
          let old : AreEach (IsBoth IsOf IsAnyEnd) spans y.intervals = each_more (IsBoth IsOf IsKeptEnd) (IsBoth IsOf IsAnyEnd) (wider (blocked ∷ []) is) spans y.intervals h in
          let end : IsAnyEnd y.entry = subst IsAnyEnd (sym number) (
            record {
              status = status.Blocked;
              rest = log.rest;
              reads = log.reads;
              writes = log.writes;
              at = subst (λ es. slice_get es (length log.entries) ≡ Some blocked) (sym is) (last_at log.entries blocked);
            },
            inl refl,
          ) in
          subst (λ es. AreEach (IsBoth IsOf IsAnyEnd) spans (extents_by es)) (sym is)
          (subst (λ z. AreEach (IsBoth IsOf IsAnyEnd) spans z.intervals) (sym (fold-append extend begun_extents log.entries (blocked ∷ [])))
          (ended_tied IsOf IsAnyEnd y.entry y.running spans y.intervals (running_going log.entries) end old))
      by false e =
          let is : closed_log log ≡ log.entries ++ [] = ap (λ c. log.entries ++ (if c then entry.End status.Blocked log.rest log.reads log.writes ∷ [] else [])) e in
          subst (λ es. AreEach (IsBoth IsOf IsAnyEnd) spans (extents_by es)) (sym (is ∙ append-nil log.entries))
          (each_more (IsBoth IsOf IsKeptEnd) (IsBoth IsOf IsAnyEnd) (wider [] is) spans (extents_by log.entries) h)

pub intervals_of_steps : IntervalsAreOfSteps
intervals_of_steps setting h p x ms e f =
    let s : Story = story setting h in
    let steps : get_or s.steps p [] ≡ steps_of ms = steps_found setting (told setting h).moments p ms f in
    let z : 0 + p ≡ p = omega arith in
    let split_is : split_of setting s p (steps_of ms) ≡ x =
    ap₂ (λ k xs. split_of setting s k xs) (sym z) (sym steps) ∙ split_found setting s 0 s.steps p x e in
    let tied : AreEach (IsBoth (IsOf setting p s ms) (IsKeptEnd setting p s ms)) x.spans (extents_by (log_of setting p ms).entries) =
    subst (λ (y : Split). AreEach (IsBoth (IsOf setting p s ms) (IsKeptEnd setting p s ms)) y.spans (extents_by (log_of setting p ms).entries)) split_is (all_tied setting p s ms).each in
    record {
      kept_are = each_more (IsBoth (IsOf setting p s ms) (IsKeptEnd setting p s ms)) (IsOfSteps (IsOf setting p s ms) (IsKeptEnd setting p s ms)) (λ i z r. r.1) x.spans (extents (log_of setting p ms).entries) (subst (λ xs. AreEach (IsBoth (IsOf setting p s ms) (IsKeptEnd setting p s ms)) x.spans xs) (sym (extents_are (log_of setting p ms).entries)) tied);
      closed_are = each_more (IsBoth (IsOf setting p s ms) (IsAnyEnd setting p s ms)) (IsOfSteps (IsOf setting p s ms) (IsAnyEnd setting p s ms)) (λ i z r. r.1) x.spans (extents (closed_log (log_of setting p ms))) (subst (λ xs. AreEach (IsBoth (IsOf setting p s ms) (IsAnyEnd setting p s ms)) x.spans xs) (sym (extents_are (closed_log (log_of setting p ms)))) (of_closed setting p s ms x.spans tied));
    }
