-- An interval that runs has no values, and one that begins has the frame of its step.
use Rattle.ppd_model.specs.Setting.{setting_of}
use Rattle.std.proofs.Common.{◌≡◌, ℕ, zero, suc, ◌+◌, Bool, true, false, List, [], ◌∷◌, ◌++◌, Option, Some, None, refl, ap, sym, subst, ◌∙◌, length, inl, inr, true≢false, if◌then◌else◌}
use Rattle.std.specs.Prelude.{fold, option_map, slice_get, is_some}
use Rattle.std.proofs.lemmas.Bool.{cases_eq}
use Rattle.std.proofs.lemmas.Option.{none-some}
use Rattle.ppd_ast.specs.declared.plan.Plan.{Plan}
use Rattle.ppd_ast.specs.declared.program.Program.{Program}
use Rattle.ppd_sem.specs.Described.{frame_of, is_event}
use Rattle.ppd_sem.specs.Process.{started}
use Rattle.ppd_sem.specs.declared.proc.Need.{Need}
use Rattle.ppd_sem.specs.declared.proc.Need.TheVariants as need
use Rattle.ppd_model.specs.FullTrace.{Tag, me_in, top_tags}
use Rattle.ppd_model.specs.Intervals.{nested, own, Span, Split, begun_split, change_first, control_by, innermost, left_by, new_span, split_of, split_step, with_own, with_part, with_step}
use Rattle.ppd_model.proofs.IntervalWords.{begin_if, end_if}
use Rattle.ppd_model.specs.Marks.{Mark, closed, opened}
use Rattle.ppd_model.specs.World.{change}
use Rattle.ppd_model.specs.declared.trace.EventId.{EventId}
use Rattle.ppd_model.specs.declared.tracing.Story.{Story}
use Rattle.ppd_model.specs.declared.tracing.Taken.{Taken}
use Rattle.ppd_model.proofs.Changes.{change-at, change-else, some}

abbrev entered_block : Need → ℕ
entered_block (need.Enter d w) = d
entered_block k = 0

-- while it is not left
abbrev pub IsEmpty : Span → Type 0
IsEmpty i = is_some i.closed ≡ false → i.values ≡ []

abbrev pub AreEmpty : List Span → Type 0
AreEmpty spans = (k : ℕ) (i : Span) → slice_get spans k ≡ Some i → IsEmpty i

mapped : (f : Span → Span) (o : Option Span) (i : Span) → option_map f o ≡ Some i
    → (j : Span) × (o ≡ Some j) × (f j ≡ i)
mapped f None i e = absurd (none-some i e)
mapped f (Some j) i e = (j, refl, some e)

change_empty : (f : Span → Span) → ((i : Span) → IsEmpty i → IsEmpty (f i)) → (ms : List ℕ) (spans : List Span)
    → AreEmpty spans → AreEmpty (change_first f ms spans)
change_empty f g [] spans h = h
change_empty f g (m ∷ ms) spans h = λ k i at. elim (cases_eq k m) [
  | inl e ↦
      let was = mapped f (slice_get spans m) i (sym (change-at f m spans) ∙ ap (slice_get (change f m spans)) (sym e) ∙ at) in
      subst IsEmpty was.2 (g was.0 (h m was.0 was.1))
  | inr other ↦ h k i (sym (change-else f m k spans other) ∙ at)
]

one_more : (spans : List Span) (new : Span) → AreEmpty spans → IsEmpty new → AreEmpty (spans ++ new ∷ [])
one_more [] new h e zero i at = subst IsEmpty (some at) e
one_more [] new h e (suc k) i at = absurd (none-some i at)
one_more (s ∷ ss) new h e zero i at = h zero i at
one_more (s ∷ ss) new h e (suc k) i at = one_more ss new (λ j x a. h (suc j) x a) e k i at

begin_empty : (o : Option Mark) (frame : ℕ) (control : Option EventId) (x : Split) → AreEmpty x.spans
    → AreEmpty (begin_if o frame control x).spans
begin_empty None frame control x h = h
begin_empty (Some m) frame control x h =
    one_more (change_first (with_part (nested (length x.spans))) x.running x.spans) (new_span x m.block frame control)
    (change_empty (with_part (nested (length x.spans))) (λ i e. e) x.running x.spans h) (λ e. refl)

end_empty : (o : Option Mark) (left : List Tag) (x : Split) → AreEmpty x.spans → AreEmpty (end_if o left x).spans
end_empty None left x h = h
end_empty (Some m) left x h =
    change_empty (λ i. record i { closed = Some (length x.edges); values = m.values; left = left })
    (λ i e z. absurd (true≢false z)) x.running x.spans h

own_empty : (n : Need) (x : Split) → AreEmpty x.spans → AreEmpty (with_own n x).spans
own_empty n x h = by (is_event n)
  where
    by : (b : Bool) → AreEmpty (if b then innermost (with_part (own (length x.trace.events))) x else x).spans
    by true = change_empty (with_part (own (length x.trace.events))) (λ i e. e) x.running x.spans h
    by false = h

step_empty : (n : Need) (x : Split) → AreEmpty x.spans → AreEmpty (with_step n x).spans
step_empty need.Budget x h = h
step_empty need.Stopped x h = h
step_empty n x h = change_empty (λ i. record i { steps = i.steps + 1 }) (λ i e. e) x.running x.spans h

module _ (program : Program) (plan : Plan) (story : Story) (p : ℕ) where
  one_step : (x : Split) (t : Taken) → AreEmpty x.spans → AreEmpty (split_step program plan story p x t).spans
  one_step x t h =
      let y : Split = with_own t.need (with_step t.need x) in
      begin_empty (opened program plan y.trace.proc t.need) (frame_of program plan y.trace.proc)
      (control_by program p y.trace t.need)
      (end_if (closed program plan y.trace.proc t.need)
      (left_by plan (me_in p y.trace) (top_tags y.trace.activations) t.need) y)
      (end_empty (closed program plan y.trace.proc t.need)
      (left_by plan (me_in p y.trace) (top_tags y.trace.activations) t.need) y
      (own_empty t.need (with_step t.need x) (step_empty t.need x h)))

  all_steps : (x : Split) (ts : List Taken) → AreEmpty x.spans → AreEmpty (fold (split_step program plan story p) x ts).spans
  all_steps x [] h = h
  all_steps x (t ∷ ts) h = all_steps (split_step program plan story p x t) ts (one_step x t h)

  pub are_empty : (budget : ℕ) (ts : List Taken) → AreEmpty (split_of (setting_of program plan budget) story p ts).spans
  are_empty budget ts = all_steps (begun_split program plan p (started program plan p budget)) ts none
    where
      none : AreEmpty (begun_split program plan p (started program plan p budget)).spans
      none zero i at = subst IsEmpty (some at) (λ e. refl)
      none (suc k) i at = absurd (none-some i at)

  -- ---- the interval of a loop that is entered

  same_length : (f : Span → Span) (m : ℕ) (xs : List Span) → length (change f m xs) ≡ length xs
  same_length f m [] = refl
  same_length f zero (x ∷ xs) = refl
  same_length f (suc m) (x ∷ xs) = ap suc (same_length f m xs)

  first_length : (f : Span → Span) (ms : List ℕ) (xs : List Span) → length (change_first f ms xs) ≡ length xs
  first_length f [] xs = refl
  first_length f (m ∷ ms) xs = same_length f m xs

  last_span : (xs : List Span) (x : Span) → slice_get (xs ++ x ∷ []) (length xs) ≡ Some x
  last_span [] x = refl
  last_span (z ∷ zs) x = last_span zs x

  pub new_framed : (x : Split) (t : Taken) (b u : ℕ) → t.need ≡ need.Enter b u
      → (i : Span) × (slice_get (split_step program plan story p x t).spans (length x.spans) ≡ Some i)
      × (i.frame ≡ frame_of program plan x.trace.proc)
  new_framed x t b u e =
      let spans : List Span = change_first (λ j. record j { steps = j.steps + 1 }) x.running x.spans in
      let z : Split = record x { spans = spans } in
      let outer : List Span = change_first (with_part (nested (length spans))) x.running spans in
      let count : length outer ≡ length x.spans =
      first_length (with_part (nested (length spans))) x.running spans
      ∙ first_length (λ j. record j { steps = j.steps + 1 }) x.running x.spans in
      let new : Span = new_span z b (frame_of program plan x.trace.proc) (control_by program p x.trace t.need) in (
        new,
        ap (λ ss. slice_get ss (length x.spans)) (spans_at t.need e)
            ∙ ap (slice_get (outer ++ new ∷ [])) (sym count) ∙ last_span outer new,
        refl,
      )
    where
      spans_at : (n : Need) → n ≡ need.Enter b u
          → (begin_if (opened program plan (with_own n (with_step n x)).trace.proc n)
          (frame_of program plan (with_own n (with_step n x)).trace.proc)
          (control_by program p (with_own n (with_step n x)).trace n)
          (end_if (closed program plan (with_own n (with_step n x)).trace.proc n)
          (left_by plan (me_in p (with_own n (with_step n x)).trace)
          (top_tags (with_own n (with_step n x)).trace.activations) n) (with_own n (with_step n x)))).spans
          ≡ change_first (with_part (nested (length (change_first (λ (j : Span). record j { steps = j.steps + 1 })
          x.running x.spans)))) x.running (change_first (λ (j : Span). record j { steps = j.steps + 1 }) x.running
          x.spans)
          ++ new_span (record x {
            spans = change_first (λ (j : Span). record j { steps = j.steps + 1 }) x.running
                x.spans;
          }) b (frame_of program plan x.trace.proc) (control_by program p x.trace n) ∷ []
      spans_at (need.Enter c w) q =
          ap (λ d. change_first (with_part (nested (length (change_first (λ (j : Span). record j {
            steps = j.steps + 1;
          }) x.running x.spans)))) x.running (change_first (λ (j : Span). record j { steps = j.steps + 1 }) x.running
          x.spans)
          ++ new_span (record x {
            spans = change_first (λ (j : Span). record j { steps = j.steps + 1 }) x.running
                x.spans;
          }) d (frame_of program plan x.trace.proc) (control_by program p x.trace (need.Enter c w)) ∷ [])
          (ap entered_block q)
      spans_at (need.Read c) q = absurd (cc)
      spans_at (need.Write c v) q = absurd (cc)
      spans_at need.Plain q = absurd (cc)
      spans_at (need.Leave c w) q = absurd (cc)
      spans_at (need.Invoke c w) q = absurd (cc)
      spans_at (need.Back c w) q = absurd (cc)
      spans_at (need.P c w) q = absurd (cc)
      spans_at (need.V c w) q = absurd (cc)
      spans_at (need.Send c v w) q = absurd (cc)
      spans_at (need.Offer c v) q = absurd (cc)
      spans_at (need.Done c w) q = absurd (cc)
      spans_at (need.Recv c w) q = absurd (cc)
      spans_at (need.End c) q = absurd (cc)
      spans_at (need.Trap c) q = absurd (cc)
      spans_at need.Budget q = absurd (cc)
      spans_at need.Stopped q = absurd (cc)
