-- The activations that follow from a process's events are those of its trace.
use Rattle.ppd_model.specs.Setting.{Setting}
use Rattle.std.proofs.Common.{◌≡◌, ℕ, zero, suc, ◌+◌, ◌-◌, ℤ, pos, Bool, true, false, List, [], ◌∷◌, ◌++◌, Option, Some, None, Ok, Err, refl, ap, ap₂, sym, subst, ◌∙◌, arith, cond, length, length-append, map, replicate, true≢false}
use Rattle.std.specs.Prelude.{⊤, fold, is_some, slice_get, if◌then◌else◌, unwrap_or}
use Rattle.std.proofs.lemmas.List.{append-nil, append_assoc}
use Rattle.ppd_ast.specs.declared.plan.Plan.{Plan}
use Rattle.ppd_ast.specs.declared.program.Body.{Body}
use Rattle.ppd_ast.specs.declared.program.Kind.{Kind}
use Rattle.ppd_ast.specs.declared.program.Kind.TheVariants as kind
use Rattle.ppd_ast.specs.declared.program.Program.{Program}
use Rattle.ppd_ast.specs.Lookups.{kind_of, no_body}
use Rattle.ppd_sem.specs.declared.asking.Pause.TheVariants.{Wants, Traps}
use Rattle.ppd_sem.specs.declared.event.Event.{Event}
use Rattle.ppd_sem.specs.declared.proc.Answer.{Answer}
use Rattle.ppd_sem.specs.declared.proc.Frame.{Frame}
use Rattle.ppd_sem.specs.declared.proc.Need.{Need}
use Rattle.ppd_sem.specs.declared.proc.Need.TheVariants.{Read, Enter, Offer, Done, Trap, Budget, Stopped}
use Rattle.ppd_sem.specs.declared.proc.Proc.{Proc}
use Rattle.ppd_sem.specs.declared.proc.Todo.{Todo}
use Rattle.ppd_sem.specs.Asked.{Asked}
use Rattle.ppd_sem.specs.Deed.{Deed, send, ask_deed}
use Rattle.ppd_sem.specs.Described.{evaluates, frame_of, is_event, trap_of, value_at, valued, writes_by}
use Rattle.ppd_sem.proofs.EventWords.{writes_of_asked}
use Rattle.ppd_sem.specs.Process.{act, act_by_asked, act_by_need, head_deed, need_of, started, top_frame}
use Rattle.ppd_sem.proofs.NeedWords.{act_at, cells_for}
use Rattle.ppd_sem.proofs.OfKind.{IsDeedOf, OfAsked, backs, backs_value, deed_of, invokes}
use Rattle.ppd_model.specs.declared.trace.EventId.{EventId}
use Rattle.ppd_model.specs.declared.trace.TracedEvent.{TracedEvent}
use Rattle.ppd_model.specs.declared.tracing.Story.{Story}
use Rattle.ppd_model.specs.declared.tracing.Taken.{Taken}
use Rattle.ppd_model.specs.declared.tracing.Tracing.{Tracing}
use Rattle.ppd_model.specs.declared.tracing.Activation.{Activation}
use Rattle.ppd_model.specs.FullTrace.{Tag, begun_tracing, event_of, me_in, parent_at, tagged_after, tagged_by, tags_of, top_tags, trace_by, tracing_of, trace_step, with_event, with_test}
use Rattle.ppd_model.proofs.TraceWords.{tagged_at}
use Rattle.ppd_model.specs.LocalTags.{AreOwn}
use Rattle.law_flow.proofs.Edges.Spans.Facts.{count_last, count_to}
use Rattle.law_flow.proofs.Edges.Spans.Steps.{headed, new_event, events_are, told_events}
use Rattle.law_flow.specs.Following.{AreFollowed, Followed, IsTracedAt, begun, calls_by_kind, calls_unless, edge_past, follow, me_in as my_id, parent_of, tagged_by_kind, tagged_unless, top_of}
use Rattle.law_flow.proofs.Deeds.{calls_of, deed_calls, deed_tags, has_value, HasValue, is_frame, no_return, no_value, none_called, none_tagged}
use Rattle.law_flow.proofs.Fitting.{Fits, FitsHead, IsErr, IsOk, IsSent, fits}

-- what was followed is what was traced
pub record IsFollowed (f : Followed) (u : Tracing) : Type 0 where
  pub activations : f.activations ≡ u.activations
  pub calls : f.calls ≡ calls_of u.proc.frames
  pub number : f.number ≡ length u.events
  pub edge : f.edge ≡ count_to u.events (length u.events)

tops_are : (s : Proc) → top_of (calls_of s.frames) ≡ (top_frame s.frames).call
tops_are s = by s.frames
  where
    by : (fs : List Frame) → top_of (calls_of fs) ≡ (top_frame fs).call
    by [] = refl
    by (f ∷ fs) = refl

-- ---- one event, by its need

module _ (program : Program) (plan : Plan) (x : Taken) (t : Todo) (ts : List Todo) (s : Proc) where
  abbrev k : Kind
  k = kind_of program t.stmt

  abbrev asked : Asked Deed
  asked = head_deed program t s

  abbrev val : Option ℤ
  val = value_at program.exprs (top_frame s.frames).cells s.answers (valued (kind_of program t.stmt))

  is_of : OfAsked (IsDeedOf k) asked
  is_of = deed_of program.exprs (top_frame s.frames).cells s.answers (kind_of program t.stmt)

  gives : OfAsked (HasValue val) asked
  gives = has_value program.exprs (top_frame s.frames).cells s.answers (kind_of program t.stmt)

  -- the event by its need
  abbrev event_by : Need → Event
  event_by n = record {
    stmt = t.stmt;
    reads = (event_of program plan s x (t ∷ ts)).reads;
    writes = writes_by (trap_of n) (frame_of program plan s) x.answer (head_deed program t s);
    value = if evaluates n then val else None;
    number = x.number;
    trap = trap_of n;
  }

  module _ (me : Tag) (xs : List Activation) (e : Event) where
    abbrev IsTagged : Asked Deed → Type 0
    IsTagged r = tagged_by program s me r xs ≡ tagged_by_kind program (calls_of s.frames) me e k xs

    by_deed : (r : Asked Deed) → OfAsked (IsDeedOf k) r → OfAsked (HasValue val) r → IsOk r → e.writes ≡ writes_of_asked (frame_of program plan s) x.answer r → e.value ≡ val → IsTagged r
    by_deed (Ok q) is hv ok w v =
        deed_tags program me s (frame_of program plan s) x.answer q.1 (calls_of s.frames) (tops_are s) e xs k q.0 is w (subst (λ o. HasValue o q.0) (sym v) hv)
    by_deed (Err y) is hv ok w v = absurd ok

    by_done : (r : Asked Deed) → OfAsked (IsDeedOf k) r → is_frame k ≡ false → e.writes ≡ writes_of_asked (frame_of program plan s) x.answer r → IsTagged r
    by_done (Ok q) is f w =
        deed_tags program me s (frame_of program plan s) x.answer q.1 (calls_of s.frames) (tops_are s) e xs k q.0 is w (no_value e.value q.0 (no_return k q.0 f is))
    by_done (Err y) is f w = sym (none_tagged program me (calls_of s.frames) e xs k f w)

  sent_ok : (r : Asked Deed) → IsSent r → IsOk r
  sent_ok (Ok q) h = tt
  sent_ok (Err y) h = absurd h

  -- with this to do
  abbrev after_todo : Tag → List Activation → Need → List Todo → List Activation
  after_todo me xs (Trap y) todo = xs
  after_todo me xs n todo = tagged_at program s me todo xs

  same_after : (me : Tag) (xs : List Activation) (n : Need) → tagged_after program s me n xs ≡ after_todo me xs n s.todo
  same_after me xs (Trap y) = refl
  same_after me xs n = refl

  event_tags : (me : Tag) (xs : List Activation) (n : Need) → is_event n ≡ true → Fits n k asked
      → after_todo me xs n (t ∷ ts) ≡ tagged_unless (trap_of n) program (calls_of s.frames) me (event_by n) xs
  event_tags me xs (Read c) e h = absurd (true≢false (sym e))
  event_tags me xs (Enter b u) e h = absurd (true≢false (sym e))
  event_tags me xs Budget e h = absurd (true≢false (sym e))
  event_tags me xs Stopped e h = absurd (true≢false (sym e))
  event_tags me xs (Trap y) e h = refl
  event_tags me xs (Done c u) e h = by_done me xs (event_by (Done c u)) asked is_of h refl
  event_tags me xs (Offer c v) e h = by_deed me xs (event_by (Offer c v)) asked is_of gives (sent_ok asked h) refl refl
  event_tags me xs n e h = by_deed me xs (event_by n) asked is_of gives h refl refl

  -- ---- calls

  sent_frame : (l : Kind) (r : Asked Deed) → OfAsked (IsDeedOf l) r → IsSent r → is_frame l ≡ false
  sent_frame (kind.Call f arguments into) (Ok q) is h = absurd (by q.0 is h)
    where
      by : (d : Deed) → IsDeedOf (kind.Call f arguments into) d → IsSent (Ok (d, q.1)) → ⊥
      by d (invokes values n) h = h
  sent_frame (kind.Return v) (Ok q) is h = absurd (by v q.0 is h)
    where
      by : (v : Option ℕ) (d : Deed) → IsDeedOf (kind.Return v) d → IsSent (Ok (d, q.1)) → ⊥
      by v d backs h = h
      by v d (backs_value w) h = h
  sent_frame l (Err y) is h = absurd h
  sent_frame l r is h = refl

  calls_ok : (r : Asked Deed) → OfAsked (IsDeedOf k) r → IsOk r → calls_of (act_by_asked program x.answer t ts r s).frames ≡ calls_by_kind t.stmt k (calls_of s.frames)
  calls_ok (Ok q) is ok = deed_calls program x.answer t ts (record s { answers = [] }) k q.0 is
  calls_ok (Err y) is ok = absurd ok

  calls_err : (r : Asked Deed) → IsErr r → calls_of (act_by_asked program x.answer t ts r s).frames ≡ calls_of s.frames
  calls_err (Ok q) h = absurd h
  calls_err (Err (Wants c)) h = refl
  calls_err (Err (Traps y)) h = refl

  event_calls : (n : Need) → is_event n ≡ true → Fits n k asked → calls_of (act_by_need program plan x.answer t ts n s).frames ≡ calls_unless (trap_of n) t.stmt k (calls_of s.frames)
  event_calls (Read c) e h = absurd (true≢false (sym e))
  event_calls (Enter b u) e h = absurd (true≢false (sym e))
  event_calls Budget e h = absurd (true≢false (sym e))
  event_calls Stopped e h = absurd (true≢false (sym e))
  event_calls (Trap y) e h = refl
  event_calls (Done c u) e h = sym (none_called t.stmt k (calls_of s.frames) h)
  event_calls (Offer c v) e h = sym (none_called t.stmt k (calls_of s.frames) (sent_frame k asked is_of h))
  event_calls n e h = calls_ok asked is_of h

  other_calls : (n : Need) → is_event n ≡ false → Fits n k asked → calls_of (act_by_need program plan x.answer t ts n s).frames ≡ calls_of s.frames
  other_calls (Read c) e h = calls_err asked h
  other_calls (Enter b u) e h = refl
  other_calls Budget e h = refl
  other_calls Stopped e h = refl
  other_calls n e h = absurd (true≢false e)

-- ---- one step

edge_by : (edge : ℕ) (o : Option ℕ) → edge_past edge o ≡ edge + cond (is_some o) 1 0
edge_by edge None = omega arith
edge_by edge (Some n) = refl

module _ (program : Program) (plan : Plan) (story' : Story) (p : ℕ) where
  abbrev next : Tracing → Taken → Tracing
  next u x = trace_step program plan story' p u x

  event_trace : (x : Taken) (u : Tracing) (n : Need) → is_event n ≡ true → trace_by program plan story' p x n u ≡ with_event program plan story' p x u
  event_trace x u (Read c) e = absurd (true≢false (sym e))
  event_trace x u (Enter b w) e = absurd (true≢false (sym e))
  event_trace x u Budget e = absurd (true≢false (sym e))
  event_trace x u Stopped e = absurd (true≢false (sym e))
  event_trace x u n e = refl

  other_trace : (x : Taken) (u : Tracing) (n : Need) → is_event n ≡ false → (trace_by program plan story' p x n u).activations ≡ u.activations
  other_trace x u (Read c) e = refl
  other_trace x u (Enter b w) e = refl
  other_trace x u Budget e = refl
  other_trace x u Stopped e = refl
  other_trace x u n e = absurd (true≢false e)

  parent_is : (acts : List Activation) (t : Todo) (ts : List Todo) → parent_at program acts (t ∷ ts) ≡ parent_of program acts t.stmt
  parent_is [] t ts = refl
  parent_is (y ∷ ys) t ts = refl

  module _ (u : Tracing) (x : Taken) (f : Followed) (own : x.need ≡ need_of program plan u.proc) (h : IsFollowed f u) where
    abbrev mine : Event
    mine = event_of program plan u.proc x u.proc.todo

    module _ (e : is_event x.need ≡ true) where
      head : (t : Todo) × (ts : List Todo) × (u.proc.todo ≡ t ∷ ts)
      head = headed program plan u.proc (ap is_event (sym own) ∙ e)

      fit : Fits x.need (kind_of program head.0.stmt) (head_deed program head.0 u.proc)
      fit =
          subst (λ n. Fits n (kind_of program head.0.stmt) (head_deed program head.0 u.proc)) (sym own)
          (subst (λ todo. FitsHead program u.proc (need_of program plan u.proc) todo) head.2 (fits program plan u.proc))

      -- the event, by its need
      event_is : mine ≡ event_by program plan x head.0 head.1 u.proc x.need
      event_is = ap (λ todo. event_of program plan u.proc x todo) head.2 ∙ ap (event_by program plan x head.0 head.1 u.proc) (sym own)

      id_is : my_id p f ≡ me_in p u
      id_is = ap (λ n. record { process = p; number = n }) h.number

      stmt_is : mine.stmt ≡ head.0.stmt
      stmt_is = ap (λ (z : Event). z.stmt) event_is

      tags_are : (xs : List Activation) → tagged_after program u.proc (Some (me_in p u)) x.need xs ≡ tagged_unless mine.trap program f.calls (Some (my_id p f)) mine xs
      tags_are xs =
          same_after program plan x head.0 head.1 u.proc (Some (me_in p u)) xs x.need
          ∙ ap (λ todo. after_todo program plan x head.0 head.1 u.proc (Some (me_in p u)) xs x.need todo) head.2
          ∙ event_tags program plan x head.0 head.1 u.proc (Some (me_in p u)) xs x.need e fit
          ∙ ap (λ z. tagged_unless z.trap program (calls_of u.proc.frames) (Some (me_in p u)) z xs) (sym event_is)
          ∙ ap₂ (λ cs i. tagged_unless mine.trap program cs (Some i) mine xs) (sym h.calls) (sym id_is)

      activations_are : (follow program p f mine).activations ≡ (next u x).activations
      activations_are =
          ap₂ (λ i acts. tagged_unless mine.trap program f.calls (Some (my_id p f)) mine (with_test program i mine acts)) id_is h.activations
          ∙ sym (tags_are (with_test program (me_in p u) mine u.activations))
          ∙ ap (λ (z : Tracing). z.activations) (sym (event_trace x u x.need e))

      acts : act program plan u.proc x.answer ≡ act_by_need program plan x.answer head.0 head.1 x.need u.proc
      acts = ap (λ todo. act_at program plan x.answer todo u.proc) head.2 ∙ ap (λ n. act_by_need program plan x.answer head.0 head.1 n u.proc) (sym own)

      calls_are : (follow program p f mine).calls ≡ calls_of (next u x).proc.frames
      calls_are =
          ap (λ cs. calls_unless mine.trap mine.stmt (kind_of program mine.stmt) cs) h.calls
          ∙ ap (λ (z : Event). calls_unless z.trap z.stmt (kind_of program z.stmt) (calls_of u.proc.frames)) event_is
          ∙ sym (event_calls program plan x head.0 head.1 u.proc x.need e fit)
          ∙ ap (λ (z : Proc). calls_of z.frames) (sym acts)

      fresh : (next u x).events ≡ u.events ++ new_event program plan story' p x u ∷ []
      fresh = events_are program plan story' p x u x.need ∙ ap (λ b. told_events program plan story' p b x u) e

      pub event_followed : IsFollowed (follow program p f mine) (next u x)
      event_followed = record {
        activations = activations_are;
        calls = calls_are;
        number =
            let long : length (u.events ++ new_event program plan story' p x u ∷ []) ≡ length u.events + 1 = length-append u.events (new_event program plan story' p x u ∷ []) in
            ap (λ n. n + 1) h.number ∙ sym long ∙ ap length (sym fresh);
        edge =
            let long : length (u.events ++ new_event program plan story' p x u ∷ []) ≡ length u.events + 1 = length-append u.events (new_event program plan story' p x u ∷ []) in
            edge_by f.edge mine.number
            ∙ ap (λ n. n + cond (is_some mine.number) 1 0) h.edge
            ∙ sym (count_last u.events (new_event program plan story' p x u))
            ∙ ap (λ n. count_to (u.events ++ new_event program plan story' p x u ∷ []) n) (sym long)
            ∙ ap (λ es. count_to es (length es)) (sym fresh);
      }

      pub event_traced : IsTracedAt program f (new_event program plan story' p x u)
      event_traced = record {
        parent =
            ap (λ todo. parent_at program u.activations todo) head.2
            ∙ parent_is u.activations head.0 head.1
            ∙ ap₂ (λ a i. parent_of program a i) (sym h.activations) (sym stmt_is);
        answers = u.answers;
        writers = ap (λ a. tags_of (top_tags a) u.answers mine.reads) (sym h.activations);
      }

    pub other_followed : is_event x.need ≡ false → IsFollowed f (next u x)
    other_followed e = record {
      activations = h.activations ∙ sym (other_trace x u x.need e);
      calls = h.calls ∙ sym (by u.proc.todo refl (fits program plan u.proc));
      number = h.number ∙ ap length (sym same);
      edge = h.edge ∙ ap (λ es. count_to es (length es)) (sym same);
    }
      where
        same : (next u x).events ≡ u.events
        same = events_are program plan story' p x u x.need ∙ ap (λ b. told_events program plan story' p b x u) e

        by : (todo : List Todo) → u.proc.todo ≡ todo → FitsHead program u.proc (need_of program plan u.proc) todo → calls_of (next u x).proc.frames ≡ calls_of u.proc.frames
        by [] is h = ap (λ todo. calls_of (act_at program plan x.answer todo u.proc).frames) is
        by (t ∷ ts) is h =
            ap (λ todo. calls_of (act_at program plan x.answer todo u.proc).frames) is
            ∙ ap (λ n. calls_of (act_by_need program plan x.answer t ts n u.proc).frames) (sym own)
            ∙ other_calls program plan x t ts u.proc x.need e (subst (λ n. Fits n (kind_of program t.stmt) (head_deed program t u.proc)) (sym own) h)

  -- ---- all steps

  pub record Follows (u : Tracing) (f : Followed) (xs : List Taken) : Type 0 where
    pub fresh : List TracedEvent
    pub events : (fold next u xs).events ≡ u.events ++ fresh
    pub followed : AreFollowed program p f fresh

  pub follow_all : (u : Tracing) (f : Followed) (xs : List Taken) → AreOwn program plan u.proc xs → IsFollowed f u → Follows u f xs
  follow_all u f [] own h = record { fresh = []; events = sym (append-nil u.events); followed = tt }
  follow_all u f (x ∷ xs) own h = by (is_event x.need) refl (λ g k. follow_all (next u x) g xs own.1 k)
    where
      by : (b : Bool) → is_event x.need ≡ b → ((g : Followed) → IsFollowed g (next u x) → Follows (next u x) g xs) → Follows u f (x ∷ xs)
      by true e go =
          let rest : Follows (next u x) (follow program p f (event_of program plan u.proc x u.proc.todo)) xs =
          go (follow program p f (event_of program plan u.proc x u.proc.todo)) (event_followed u x f own.0 h e) in
          let made : (next u x).events ≡ u.events ++ new_event program plan story' p x u ∷ [] = events_are program plan story' p x u x.need ∙ ap (λ b. told_events program plan story' p b x u) e in
          record {
            fresh = new_event program plan story' p x u ∷ rest.fresh;
            events = rest.events ∙ ap (λ es. es ++ rest.fresh) made ∙ append_assoc u.events (new_event program plan story' p x u ∷ []) rest.fresh;
            followed = (event_traced u x f own.0 h e, rest.followed);
          }
      by false e go =
          let rest : Follows (next u x) f xs = go f (other_followed u x f own.0 h e) in
          let made : (next u x).events ≡ u.events = events_are program plan story' p x u x.need ∙ ap (λ b. told_events program plan story' p b x u) e in
          record { fresh = rest.fresh; events = rest.events ∙ ap (λ es. es ++ rest.fresh) made; followed = rest.followed }

-- ---- the start

abbrev none_tag : Tag
none_tag = None

map_const : (n : ℕ) → map (λ (v : ℤ). none_tag) (replicate n (pos 0)) ≡ replicate n none_tag
map_const zero = refl
map_const (suc n) = ap (λ l. none_tag ∷ l) (map_const n)

tags_start : (o : Option Body) → replicate (unwrap_or o no_body).cells none_tag ≡ map (λ (v : ℤ). none_tag) (cells_for o [])
tags_start None = refl
tags_start (Some b) =
    let z : b.cells ≡ b.cells - 0 = omega arith in
    ap (λ n. replicate n none_tag) z ∙ sym (map_const (b.cells - 0))

pub begun_followed : (program : Program) (plan : Plan) (p budget : ℕ) → IsFollowed (begun program p) (begun_tracing (started program plan p budget))
begun_followed program plan p budget = record {
  activations = ap (λ ts. record { call = None; tags = ts; tests = [] } ∷ []) (tags_start (slice_get program.bodies (program.functions + p)));
  calls = refl;
  number = refl;
  edge = refl;
}

-- the events of a process's own steps
pub events_followed : (setting : Setting) (story' : Story) (p : ℕ) (steps : List Taken) → AreOwn setting.program setting.plan (started setting.program setting.plan p setting.budget) steps
    → AreFollowed setting.program p (begun setting.program p) (tracing_of setting story' p steps).events
events_followed setting story' p steps own =
    let r = follow_all setting.program setting.plan story' p (begun_tracing (started setting.program setting.plan p setting.budget)) (begun setting.program p) steps own (begun_followed setting.program setting.plan p setting.budget) in
    subst (λ es. AreFollowed setting.program p (begun setting.program p) es) (sym r.events) r.followed
