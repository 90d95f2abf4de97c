-- What a step adds to the parts of intervals: its event, and the interval that it begins.
use Rattle.std.proofs.Common.{◌≡◌, ℕ, ◌+◌, Bool, true, false, ◌⊎◌, List, [], ◌∷◌, ◌++◌, Option, Some, None, refl, ap, sym, ◌∙◌, length, inl, inr, if◌then◌else◌}
use Rattle.std.specs.Prelude.{slice_get}
use Rattle.std.proofs.lemmas.Option.{none-some}
use Rattle.ppd_ast.specs.declared.plan.Plan.{Plan}
use Rattle.ppd_ast.specs.declared.program.Program.{Program}
use Rattle.ppd_sem.specs.Described.{frame_of, is_event}
use Rattle.ppd_sem.specs.declared.proc.Need.{Need}
use Rattle.ppd_sem.specs.declared.proc.Need.TheVariants as need
use Rattle.ppd_sem.specs.declared.proc.Proc.{Proc}
use Rattle.ppd_model.specs.declared.trace.EventId.{EventId}
use Rattle.ppd_model.specs.declared.tracing.Story.{Story}
use Rattle.ppd_model.specs.declared.tracing.Taken.{Taken}
use Rattle.ppd_model.specs.FlowbackEdges.{part_at}
use Rattle.ppd_model.specs.FullTrace.{Tag, me_in, top_tags}
use Rattle.ppd_model.specs.Intervals.{Part, own, nested, Span, Split, change_first, control_by, innermost, left_by, new_span, split_step, with_own, with_part, with_step}
use Rattle.ppd_model.proofs.IntervalWords.{begin_if, end_if}
use Rattle.ppd_model.specs.Marks.{Mark, closed, opened}
use Rattle.ppd_model.proofs.Changes.{length-change, some}
use Rattle.ppd_model.proofs.Items.{own_keeps, step_keeps}
use Rattle.law_flow.proofs.Control.IntervalParts.{parts_in, PartAt, part_from, part_to, quiet_parts, put_first, IsPut, more_of, put_cases, fresh_parts}

-- ---- a step

step_parts : (n : Need) (x : Split) (k : ℕ) → parts_in (with_step n x).spans k ≡ parts_in x.spans k
step_parts need.Budget x k = refl
step_parts need.Stopped x k = refl
step_parts n x k = quiet_parts (λ i. record i { steps = i.steps + 1 }) (λ i. refl) x.running x.spans k

end_parts : (o : Option Mark) (left : List Tag) (x : Split) (k : ℕ)
    → parts_in (end_if o left x).spans k ≡ parts_in x.spans k
end_parts None left x k = refl
end_parts (Some m) left x k = quiet_parts
    (λ i. record i { closed = Some (length x.edges); values = m.values; left = left }) (λ i. refl) x.running x.spans k

end_length : (o : Option Mark) (left : List Tag) (x : Split) → length (end_if o left x).spans ≡ length x.spans
end_length None left x = refl
end_length (Some m) left x = first_length
    (λ i. record i { closed = Some (length x.edges); values = m.values; left = left }) x.running x.spans
  where
    first_length : (f : Span → Span) (ks : List ℕ) (spans : List Span)
        → length (change_first f ks spans) ≡ length spans
    first_length f [] spans = refl
    first_length f (m ∷ ms) spans = length-change f m spans

step_length : (n : Need) (x : Split) → length (with_step n x).spans ≡ length x.spans
step_length need.Budget x = refl
step_length need.Stopped x = refl
step_length n x = first_length (λ i. record i { steps = i.steps + 1 }) x.running x.spans
  where
    first_length : (f : Span → Span) (ks : List ℕ) (spans : List Span)
        → length (change_first f ks spans) ≡ length spans
    first_length f [] spans = refl
    first_length f (m ∷ ms) spans = length-change f m spans

-- where the event is
own_cases : (b : Bool) (x : Split) (k j : ℕ) (q : Part)
    → PartAt (if b then innermost (with_part (own (length x.trace.events))) x else x).spans k j q
    → PartAt x.spans k j q ⊎ ((b ≡ true) × IsPut (own (length x.trace.events)) x.running x.spans k j q)
own_cases false x k j q h = inl h
own_cases true x k j q h = elim (put_cases (own (length x.trace.events)) x.running x.spans k j q h)
    [ inl old ↦ inl old | inr new ↦ inr (refl, new) ]

-- where the new interval is
begin_cases : (o : Option Mark) (frame : ℕ) (control : Option EventId) (x : Split) (k j : ℕ) (q : Part)
    → PartAt (begin_if o frame control x).spans k j q
    → PartAt x.spans k j q ⊎ ((m : Mark) × (o ≡ Some m) × IsPut (nested (length x.spans)) x.running x.spans k j q)
begin_cases None frame control x k j q h = inl h
begin_cases (Some m) frame control x k j q h =
    elim (put_cases (nested (length x.spans)) x.running x.spans k j q (fresh_parts _ _ k j q refl h))
    [ inl old ↦ inl old | inr new ↦ inr (m, refl, new) ]

apart : (program : Program) (plan : Plan) (s : Proc) (n : Need) (m : Mark) → opened program plan s n ≡ Some m
    → closed program plan s n ≡ None
apart program plan s (need.Enter b u) m h = refl
apart program plan s (need.Invoke b u) m h = refl
apart program plan s (need.Back (Some b) u) m h = absurd (none-some m h)
apart program plan s (need.Back None u) m h = refl
apart program plan s n m h = absurd (none-some m h)

module _ (program : Program) (plan : Plan) (story : Story) (p : ℕ) (x : Split) (t : Taken) where
  abbrev stepped : Split
  stepped = with_step t.need x

  abbrev owned : Split
  owned = with_own t.need stepped

  abbrev tags : List Tag
  tags = left_by plan (me_in p owned.trace) (top_tags owned.trace.activations) t.need

  abbrev closing : Option Mark
  closing = closed program plan owned.trace.proc t.need

  abbrev opening : Option Mark
  opening = opened program plan owned.trace.proc t.need

  abbrev left : Split
  left = end_if closing tags owned

  same_trace : owned.trace ≡ x.trace
  same_trace = (own_keeps t.need stepped).1 ∙ (step_keeps t.need x).1

  same_running : owned.running ≡ x.running
  same_running = (own_keeps t.need stepped).0 ∙ (step_keeps t.need x).0

  own_length : (b : Bool) (z : Split)
      → length (if b then innermost (with_part (own (length z.trace.events))) z else z).spans ≡ length z.spans
  own_length false z = refl
  own_length true z = first_length (with_part (own (length z.trace.events))) z.running z.spans
    where
      first_length : (f : Span → Span) (ks : List ℕ) (spans : List Span)
          → length (change_first f ks spans) ≡ length spans
      first_length f [] spans = refl
      first_length f (m ∷ ms) spans = length-change f m spans

  pub spans_count : length left.spans ≡ length x.spans
  spans_count = end_length closing tags owned ∙ own_length (is_event t.need) stepped ∙ step_length t.need x

  -- in the first running interval, after its parts
  pub data IsNew (k j : ℕ) (q : Part) : Type 0 where
    new_event : (rest : List ℕ) (parts : List Part) → is_event t.need ≡ true → x.running ≡ k ∷ rest
        → parts_in x.spans k ≡ Some parts → j ≡ length parts → q ≡ own (length x.trace.events) → IsNew k j q
    new_inner : (m : Mark) (rest : List ℕ) (parts : List Part) → opened program plan x.trace.proc t.need ≡ Some m
        → x.running ≡ k ∷ rest
        → parts_in x.spans k ≡ Some parts
        → j ≡ length (if is_event t.need then parts ++ own (length x.trace.events) ∷ [] else parts)
        → q ≡ nested (length x.spans) → IsNew k j q

  -- the parts of the first running interval with the event
  own_parts : (b : Bool) (k : ℕ) (rest : List ℕ) (ps : List Part) → stepped.running ≡ k ∷ rest
      → parts_in (if b then innermost (with_part (own (length stepped.trace.events))) stepped else stepped).spans
      k ≡ Some ps
      → (was : List Part) × (parts_in stepped.spans k ≡ Some was)
      × (ps ≡ (if b then was ++ own (length stepped.trace.events) ∷ [] else was))
  own_parts false k rest ps e h = (ps, h, refl)
  own_parts true k rest ps e h =
      let was = more_of (own (length stepped.trace.events)) (parts_in stepped.spans k) ps
      (sym (put_first (own (length stepped.trace.events)) k rest stepped.spans)
      ∙ ap (λ ks. parts_in (change_first (with_part (own (length stepped.trace.events))) ks stepped.spans) k)
      (sym e) ∙ h) in
      (was.0, was.1, was.2)

  pub new_parts : (k j : ℕ) (q : Part) → part_at (split_step program plan story p x t) k j ≡ Some q
      → (part_at x k j ≡ Some q) ⊎ IsNew k j q
  new_parts k j q h =
      let at = part_from (slice_get (split_step program plan story p x t).spans k) j q h in
      elim (begin_cases opening (frame_of program plan owned.trace.proc)
      (control_by program p owned.trace t.need) left k j q
      (record { parts = at.0; parts_are = at.1; there = at.2 })) [
        | inl old ↦ by_own (elim (own_cases (is_event t.need) stepped k j q
            (record {
              parts = old.parts;
              parts_are = sym (end_parts closing tags owned k)
                  ∙ old.parts_are;
              there = old.there;
            })) [ inl o ↦ inl o | inr n ↦ inr n ])
        | inr new ↦ inr (by_inner new.0 new.1 new.2)
      ]
    where
      by_own : PartAt stepped.spans k j q
          ⊎ ((is_event t.need ≡ true) × IsPut (own (length stepped.trace.events)) stepped.running stepped.spans k j q)
          → (part_at x k j ≡ Some q) ⊎ IsNew k j q
      by_own (inl o) = inl (part_to (slice_get x.spans k) j q o.parts
          (sym (step_parts t.need x k) ∙ o.parts_are) o.there)
      by_own (inr n) =
          inr (new_event n.1.rest n.1.parts n.0 (sym (step_keeps t.need x).0 ∙ n.1.first)
          (sym (step_parts t.need x k) ∙ n.1.parts_are) n.1.place
          (n.1.is ∙ ap (λ (z : _). own (length z.events)) (step_keeps t.need x).1))

      by_inner : (m : Mark) → opening ≡ Some m → IsPut (nested (length left.spans)) left.running left.spans k j q
          → IsNew k j q
      by_inner m e n =
          let open_is : opened program plan x.trace.proc t.need ≡ Some m = ap
          (λ (z : _). opened program plan z.proc t.need) (sym same_trace) ∙ e in
          let none : closing ≡ None = apart program plan owned.trace.proc t.need m e in
          let run : left.running ≡ owned.running = ap (λ o. (end_if o tags owned).running) none in
          let first : x.running ≡ k ∷ n.rest = sym same_running ∙ sym run ∙ n.first in
          let parts : parts_in owned.spans k ≡ Some n.parts = sym (end_parts closing tags owned k) ∙ n.parts_are in
          let was = own_parts (is_event t.need) k n.rest n.parts ((step_keeps t.need x).0 ∙ first) parts in
          new_inner m n.rest was.0 open_is first (sym (step_parts t.need x k) ∙ was.1)
          (n.place ∙ ap length was.2 ∙ ap
          (λ (z : _). length (if is_event t.need then was.0 ++ own (length z.events) ∷ [] else was.0))
          (step_keeps t.need x).1)
          (n.is ∙ ap nested spans_count)

  -- ---- the new interval

  begun_at : (o : Option Mark) (frame : ℕ) (control : Option EventId) (z : Split) (m : Mark) → o ≡ Some m
      → (i : Span) × (slice_get (begin_if o frame control z).spans (length z.spans) ≡ Some i) × (i.block ≡ m.block)
      × (i.control ≡ control)
  begun_at None frame control z m e = absurd (none-some m e)
  begun_at (Some m') frame control z m e = (
    new_span (innermost (with_part (nested (length z.spans))) z) m'.block frame control,
    ap (λ k. slice_get (change_first (with_part (nested (length z.spans))) z.running z.spans ++ new_span
        (innermost (with_part (nested (length z.spans))) z) m'.block frame control ∷ []) k)
        (sym (first_length (with_part (nested (length z.spans))) z.running z.spans))
        ∙ at_end (change_first (with_part (nested (length z.spans))) z.running z.spans)
        (new_span (innermost (with_part (nested (length z.spans))) z) m'.block frame control),
    ap (λ (a : Mark). a.block) (some e),
    refl,
  )
    where
      first_length : (f : Span → Span) (ks : List ℕ) (spans : List Span)
          → length (change_first f ks spans) ≡ length spans
      first_length f [] spans = refl
      first_length f (m ∷ ms) spans = length-change f m spans

      at_end : (xs : List Span) (y : Span) → slice_get (xs ++ y ∷ []) (length xs) ≡ Some y
      at_end [] y = refl
      at_end (z ∷ zs) y = at_end zs y

  pub new_interval : (m : Mark) → opened program plan x.trace.proc t.need ≡ Some m
      → (i : Span) × (slice_get (split_step program plan story p x t).spans (length x.spans) ≡ Some i)
      × (i.block ≡ m.block) × (i.control ≡ control_by program p x.trace t.need)
  new_interval m e =
      let open_is : opening ≡ Some m = ap (λ (z : _). opened program plan z.proc t.need) same_trace ∙ e in
      let b = begun_at opening (frame_of program plan owned.trace.proc)
      (control_by program p owned.trace t.need) left m open_is in (
        b.0,
        ap (slice_get (split_step program plan story p x t).spans) (sym spans_count) ∙ b.1,
        b.2,
        b.3
            ∙ ap (λ (z : _). control_by program p z t.need) same_trace,
      )
