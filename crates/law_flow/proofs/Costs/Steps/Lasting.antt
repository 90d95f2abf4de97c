-- What holds of an interval and lasts while steps are taken.
use Rattle.ppd_model.specs.Setting.{setting_of}
use Rattle.std.proofs.Common.{◌≡◌, ℕ, zero, suc, ◌+◌, ◌<◌, ◌≤◌, ℤ, Bool, true, false, List, [], ◌∷◌, ◌++◌, Option, Some, None, refl, ap, sym, ◌∙◌, subst, arith, length, length-append, inl, inr, ◌⊎◌, if◌then◌else◌}
use Rattle.std.specs.Prelude.{fold, option_map, slice_get}
use Rattle.std.proofs.lemmas.Bool.{cases_eq}
use Rattle.std.proofs.lemmas.Option.{none-some}
use Rattle.ppd_ast.specs.declared.plan.Plan.{Plan}
use Rattle.ppd_ast.specs.declared.program.Program.{Program}
use Rattle.ppd_sem.specs.Described.{frame_of, is_event}
use Rattle.ppd_sem.specs.Process.{started}
use Rattle.ppd_sem.specs.declared.proc.Need.{Need}
use Rattle.ppd_sem.specs.declared.proc.Need.TheVariants as n
use Rattle.ppd_model.specs.FullTrace.{Tag, me_in, top_tags}
use Rattle.ppd_model.specs.Intervals.{Part, own, nested, Span, Split, begun_split, change_first, control_by, innermost, left_by, new_span, split_of, split_step, with_own, with_part, with_step}
use Rattle.ppd_model.proofs.IntervalWords.{begin_if, end_if}
use Rattle.ppd_model.specs.Marks.{Mark, closed, opened}
use Rattle.ppd_model.specs.World.{change}
use Rattle.ppd_model.specs.declared.trace.EventId.{EventId}
use Rattle.ppd_model.specs.declared.tracing.Story.{Story}
use Rattle.ppd_model.specs.declared.tracing.Taken.{Taken}
use Rattle.ppd_model.proofs.Changes.{change-at, change-else, some}
use Rattle.ppd_model.proofs.CountedOn.{kept_at}

-- ---- the edges of steps are kept

pub own_edges : (need : Need) (x : Split) → (with_own need x).edges ≡ x.edges
own_edges need x = by (is_event need)
  where
    by : (b : Bool) → (if b then innermost (with_part (own (length x.trace.events))) x else x).edges ≡ x.edges
    by true = refl
    by false = refl

pub step_edges : (need : Need) (x : Split) → (with_step need x).edges ≡ x.edges
step_edges n.Budget x = refl
step_edges n.Stopped x = refl
step_edges need x = refl

-- the interval is there, and this holds of it
abbrev pub Holds : (Span → Type 0) → List Span → ℕ → Type 0
Holds P spans m = (i : Span) × (slice_get spans m ≡ Some i) × P i

pub change_holds : (P : Span → Type 0) (f : Span → Span) → ((i : Span) → P i → P (f i)) → (ks : List ℕ) (spans : List Span) (m : ℕ) → Holds P spans m → Holds P (change_first f ks spans) m
change_holds P f g [] spans m h = h
change_holds P f g (k ∷ ks) spans m h = elim (cases_eq m k) [
  | inl same ↦ (f h.0, ap (λ z. slice_get (change f k spans) z) same ∙ change-at f k spans ∙ ap (option_map f) (ap (λ z. slice_get spans z) (sym same) ∙ h.1), g h.0 h.2)
  | inr other ↦ (h.0, change-else f k m spans other ∙ h.1, h.2)
]

-- what lasts: it says nothing of steps, is kept by more parts, and by an end not before step number low
pub record Lasts (P : Span → Type 0) (low : ℕ) : Type 0 where
  pub steps : (i : Span) (k : ℕ) → P i → P (record i { steps = k })
  pub parts : (i : Span) (q : Part) → P i → P (with_part q i)
  pub ends : (i : Span) (t : ℕ) (vs : List ℤ) (ws : List Tag) → low ≤ t → P i → P (record i { closed = Some t; values = vs; left = ws })

module _ (P : Span → Type 0) (low : ℕ) (l : Lasts P low) where
  begin_holds : (o : Option Mark) (frame : ℕ) (control : Option EventId) (x : Split) (m : ℕ) → Holds P x.spans m → Holds P (begin_if o frame control x).spans m
  begin_holds None frame control x m h = h
  begin_holds (Some k) frame control x m h =
      let g = change_holds P (with_part (nested (length x.spans))) (λ i. l.parts i (nested (length x.spans))) x.running x.spans m h in
      (g.0, kept_at (change_first (with_part (nested (length x.spans))) x.running x.spans) (new_span x k.block frame control ∷ []) m g.0 g.1, g.2)

  end_holds : (o : Option Mark) (tags : List Tag) (x : Split) (m : ℕ) → low ≤ length x.edges → Holds P x.spans m → Holds P (end_if o tags x).spans m
  end_holds None tags x m le h = h
  end_holds (Some k) tags x m le h =
      change_holds P (λ i. record i { closed = Some (length x.edges); values = k.values; left = tags }) (λ i. l.ends i (length x.edges) k.values tags le) x.running x.spans m h

  pub own_holds : (need : Need) (x : Split) (m : ℕ) → Holds P x.spans m → Holds P (with_own need x).spans m
  own_holds need x m h = by (is_event need)
    where
      by : (b : Bool) → Holds P (if b then innermost (with_part (own (length x.trace.events))) x else x).spans m
      by true = change_holds P (with_part (own (length x.trace.events))) (λ i. l.parts i (own (length x.trace.events))) x.running x.spans m h
      by false = h

  pub step_holds : (need : Need) (x : Split) (m : ℕ) → Holds P x.spans m → Holds P (with_step need x).spans m
  step_holds n.Budget x m h = h
  step_holds n.Stopped x m h = h
  step_holds need x m h = change_holds P (λ i. record i { steps = i.steps + 1 }) (λ i. l.steps i (i.steps + 1)) x.running x.spans m h

  module _ (program : Program) (plan : Plan) (story' : Story) (p : ℕ) where
    -- on from when the step's event is a part
    pub marks_hold : (x : Split) (t : Taken) (m : ℕ) → low ≤ length x.edges → Holds P (with_own t.need (with_step t.need x)).spans m → Holds P (split_step program plan story' p x t).spans m
    marks_hold x t m le h =
        let y : Split = with_own t.need (with_step t.need x) in
        let edges : y.edges ≡ x.edges = own_edges t.need (with_step t.need x) ∙ step_edges t.need x in
        begin_holds (opened program plan y.trace.proc t.need) (frame_of program plan y.trace.proc) (control_by program p y.trace t.need)
        (end_if (closed program plan y.trace.proc t.need) (left_by plan (me_in p y.trace) (top_tags y.trace.activations) t.need) y) m
        (end_holds (closed program plan y.trace.proc t.need) (left_by plan (me_in p y.trace) (top_tags y.trace.activations) t.need) y m
        (subst (λ es. low ≤ length es) (sym edges) le) h)

    one_step : (x : Split) (t : Taken) (m : ℕ) → low ≤ length x.edges → Holds P x.spans m → Holds P (split_step program plan story' p x t).spans m
    one_step x t m le h = marks_hold x t m le (own_holds t.need (with_step t.need x) m (step_holds t.need x m h))

    pub all_steps : (x : Split) (ts : List Taken) (m : ℕ) → low ≤ length x.edges → Holds P x.spans m → Holds P (fold (split_step program plan story' p) x ts).spans m
    all_steps x [] m le h = h
    all_steps x (t ∷ ts) m le h =
        let more : length (x.edges ++ x.edge ∷ []) ≡ length x.edges + 1 = length-append x.edges (x.edge ∷ []) in
        all_steps (split_step program plan story' p x t) ts m (omega (arith, more, le)) (one_step x t m le h)

-- ---- the steps at which intervals were opened

-- before this number of steps, or at the start
abbrev pub IsBegun : ℕ → Span → Type 0
IsBegun bound i = (i.opened ≡ 0) ⊎ (i.opened < bound)

abbrev pub AreBegun : ℕ → List Span → Type 0
AreBegun bound spans = (m : ℕ) (i : Span) → slice_get spans m ≡ Some i → IsBegun bound i

longer : (bound more : ℕ) (i : Span) → bound ≤ more → IsBegun bound i → IsBegun more i
longer bound more i le (inl e) = inl e
longer bound more i le (inr lt) = inr (omega (arith, lt, le))

change_begun : (bound : ℕ) (f : Span → Span) → ((i : Span) → (f i).opened ≡ i.opened) → (ks : List ℕ) (spans : List Span) → AreBegun bound spans → AreBegun bound (change_first f ks spans)
change_begun bound f same [] spans h = h
change_begun bound f same (k ∷ ks) spans h = λ m i e. elim (cases_eq m k) [
  | inl is ↦ by (slice_get spans k) refl i (sym (change-at f k spans) ∙ ap (λ z. slice_get (change f k spans) z) (sym is) ∙ e)
  | inr other ↦ h m i (sym (change-else f k m spans other) ∙ e)
]
  where
    by : (o : Option Span) → slice_get spans k ≡ o → (i : Span) → option_map f (slice_get spans k) ≡ Some i → IsBegun bound i
    by None g i e = absurd (none-some i (sym (ap (option_map f) g) ∙ e))
    by (Some s) g i e =
        let is : f s ≡ i = some (sym (ap (option_map f) g) ∙ e) in
        subst (λ z. (z ≡ 0) ⊎ (z < bound)) (sym (same s) ∙ ap (λ (z : Span). z.opened) is) (h k s g)

one_more : (bound : ℕ) (spans : List Span) (new : Span) → AreBegun bound spans → IsBegun bound new → AreBegun bound (spans ++ new ∷ [])
one_more bound [] new h e zero i at = subst (IsBegun bound) (some at) e
one_more bound [] new h e (suc m) i at = absurd (none-some i at)
one_more bound (s ∷ ss) new h e zero i at = h 0 i at
one_more bound (s ∷ ss) new h e (suc m) i at = one_more bound ss new (λ j x a. h (suc j) x a) e m i at

begin_begun : (o : Option Mark) (frame : ℕ) (control : Option EventId) (x : Split) (bound : ℕ) → length x.edges < bound → AreBegun bound x.spans → AreBegun bound (begin_if o frame control x).spans
begin_begun None frame control x bound lt h = h
begin_begun (Some k) frame control x bound lt h =
    one_more bound (change_first (with_part (nested (length x.spans))) x.running x.spans) (new_span x k.block frame control)
    (change_begun bound (with_part (nested (length x.spans))) (λ i. refl) x.running x.spans h) (inr lt)

end_begun : (o : Option Mark) (tags : List Tag) (x : Split) (bound : ℕ) → AreBegun bound x.spans → AreBegun bound (end_if o tags x).spans
end_begun None tags x bound h = h
end_begun (Some k) tags x bound h = change_begun bound (λ i. record i { closed = Some (length x.edges); values = k.values; left = tags }) (λ i. refl) x.running x.spans h

end_edges : (o : Option Mark) (tags : List Tag) (x : Split) → (end_if o tags x).edges ≡ x.edges
end_edges None tags x = refl
end_edges (Some k) tags x = refl

own_begun : (need : Need) (x : Split) (bound : ℕ) → AreBegun bound x.spans → AreBegun bound (with_own need x).spans
own_begun need x bound h = by (is_event need)
  where
    by : (b : Bool) → AreBegun bound (if b then innermost (with_part (own (length x.trace.events))) x else x).spans
    by true = change_begun bound (with_part (own (length x.trace.events))) (λ i. refl) x.running x.spans h
    by false = h

step_begun : (need : Need) (x : Split) (bound : ℕ) → AreBegun bound x.spans → AreBegun bound (with_step need x).spans
step_begun n.Budget x bound h = h
step_begun n.Stopped x bound h = h
step_begun need x bound h = change_begun bound (λ i. record i { steps = i.steps + 1 }) (λ i. refl) x.running x.spans h

module _ (program : Program) (plan : Plan) (story' : Story) (p : ℕ) where
  one_begun : (x : Split) (t : Taken) → AreBegun (length x.edges) x.spans → AreBegun (length (split_step program plan story' p x t).edges) (split_step program plan story' p x t).spans
  one_begun x t h =
      let y : Split = with_own t.need (with_step t.need x) in
      let ended : Split = end_if (closed program plan y.trace.proc t.need) (left_by plan (me_in p y.trace) (top_tags y.trace.activations) t.need) y in
      let edges : ended.edges ≡ x.edges =
      end_edges (closed program plan y.trace.proc t.need) (left_by plan (me_in p y.trace) (top_tags y.trace.activations) t.need) y
      ∙ own_edges t.need (with_step t.need x) ∙ step_edges t.need x in
      let more : length (x.edges ++ x.edge ∷ []) ≡ length x.edges + 1 = length-append x.edges (x.edge ∷ []) in
      let same : length ended.edges ≡ length x.edges = ap length edges in
      let up : AreBegun (length (x.edges ++ x.edge ∷ [])) x.spans = λ m i e. longer (length x.edges) (length (x.edges ++ x.edge ∷ [])) i (omega (arith, more)) (h m i e) in
      begin_begun (opened program plan y.trace.proc t.need) (frame_of program plan y.trace.proc) (control_by program p y.trace t.need) ended (length (x.edges ++ x.edge ∷ [])) (omega (arith, more, same))
      (end_begun (closed program plan y.trace.proc t.need) (left_by plan (me_in p y.trace) (top_tags y.trace.activations) t.need) y (length (x.edges ++ x.edge ∷ []))
      (own_begun t.need (with_step t.need x) (length (x.edges ++ x.edge ∷ [])) (step_begun t.need x (length (x.edges ++ x.edge ∷ [])) up)))

  all_begun : (x : Split) (ts : List Taken) → AreBegun (length x.edges) x.spans → AreBegun (length (fold (split_step program plan story' p) x ts).edges) (fold (split_step program plan story' p) x ts).spans
  all_begun x [] h = h
  all_begun x (t ∷ ts) h = all_begun (split_step program plan story' p x t) ts (one_begun x t h)

  pub are_begun : (budget : ℕ) (ts : List Taken) → AreBegun (length (split_of (setting_of program plan budget) story' p ts).edges) (split_of (setting_of program plan budget) story' p ts).spans
  are_begun budget ts = all_begun (begun_split program plan p (started program plan p budget)) ts first
    where
      first : AreBegun 0 (begun_split program plan p (started program plan p budget)).spans
      first zero i e = inl (sym (ap (λ (z : Span). z.opened) (some e)))
      first (suc m) i e = absurd (none-some i e)
