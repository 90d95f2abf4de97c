-- What the end of an interval leaves of it.
use Rattle.std.proofs.Common.{◌≡◌, ℕ, zero, suc, ◌+◌, ℤ, Bool, true, false, cond, List, [], ◌∷◌, ◌++◌, Option, Some, None, refl, ap, sym, subst, ◌∙◌, length, append-nil, true≢false, inl, inr}
use Rattle.std.proofs.lemmas.Bool.{cases_eq}
use Rattle.std.specs.Prelude.{option_map, slice_get, is_some}
use Rattle.ppd_sem.specs.declared.proc.Need.{Need}
use Rattle.ppd_sem.specs.declared.proc.Need.TheVariants as need
use Rattle.ppd_sem.specs.Described.{is_event}
use Rattle.ppd_model.specs.FullTrace.{Tag}
use Rattle.ppd_model.specs.Intervals.{own, nested, Span, Split, change_first, end_span, innermost, new_span, with_own, with_part, with_step}
use Rattle.ppd_model.proofs.IntervalWords.{begin_if}
use Rattle.ppd_model.specs.Marks.{Mark}
use Rattle.ppd_model.specs.World.{change}
use Rattle.ppd_model.specs.declared.trace.EventId.{EventId}
use Rattle.ppd_model.proofs.Changes.{change-at, change-else, some}
use Rattle.law_flow.specs.Places.Levels.{Level, StandsIn, numbers}

abbrev pub closed_in : Option Span → Bool
closed_in None = false
closed_in (Some i) = is_some i.closed

abbrev pub closed_at : ℕ → List Span → Bool
closed_at m spans = closed_in (slice_get spans m)

quiet_option : (f : Span → Span) → ((i : Span) → is_some (f i).closed ≡ is_some i.closed) → (o : Option Span)
    → closed_in (option_map f o) ≡ closed_in o
quiet_option f same None = refl
quiet_option f same (Some i) = same i

quiet_closed : (f : Span → Span) → ((i : Span) → is_some (f i).closed ≡ is_some i.closed) → (m k : ℕ) (spans : List Span)
    → closed_at m (change f k spans) ≡ closed_at m spans
quiet_closed f same m k spans = elim (cases_eq m k) [
  | inl is ↦ subst (λ z. closed_at z (change f k spans) ≡ closed_at z spans) (sym is)
      (ap closed_in (change-at f k spans) ∙ quiet_option f same (slice_get spans k))
  | inr other ↦ ap closed_in (change-else f k m spans other)
]

first_closed : (f : Span → Span) → ((i : Span) → is_some (f i).closed ≡ is_some i.closed)
    → (m : ℕ) (ks : List ℕ) (spans : List Span) → closed_at m (change_first f ks spans) ≡ closed_at m spans
first_closed f same m [] spans = refl
first_closed f same m (k ∷ ks) spans = quiet_closed f same m k spans

pub step_closed : (m : ℕ) (n : Need) (x : Split) → closed_at m (with_step n x).spans ≡ closed_at m x.spans
step_closed m need.Budget x = refl
step_closed m need.Stopped x = refl
step_closed m n x = first_closed (λ i. record i { steps = i.steps + 1 }) (λ i. refl) m x.running x.spans

pub own_closed : (m : ℕ) (n : Need) (x : Split) → closed_at m (with_own n x).spans ≡ closed_at m x.spans
own_closed m n x = by (is_event n)
  where
    by : (b : Bool) → closed_at m (cond b (innermost (with_part (own (length x.trace.events))) x) x).spans
        ≡ closed_at m x.spans
    by true = first_closed (with_part (own (length x.trace.events))) (λ i. refl) m x.running x.spans
    by false = refl

more_closed : (m : ℕ) (spans : List Span) (i : Span) → is_some i.closed ≡ false
    → closed_at m (spans ++ i ∷ []) ≡ closed_at m spans
more_closed zero [] i runs = runs
more_closed (suc m) [] i runs = refl
more_closed zero (j ∷ js) i runs = refl
more_closed (suc m) (j ∷ js) i runs = more_closed m js i runs

pub begin_closed : (m : ℕ) (o : Option Mark) (frame : ℕ) (control : Option EventId) (x : Split)
    → closed_at m (begin_if o frame control x).spans ≡ closed_at m x.spans
begin_closed m None frame control x = refl
begin_closed m (Some k) frame control x =
    more_closed m (change_first (with_part (nested (length x.spans))) x.running x.spans)
    (new_span (innermost (with_part (nested (length x.spans))) x) k.block frame control) refl
    ∙ first_closed (with_part (nested (length x.spans))) (λ i. refl) m x.running x.spans

-- the first level is left as interval m, with these values and tags
pub record IsLeftAs (x : Split) (ls : List Level) (m : ℕ) (values : List ℤ) (left : List Tag) (i : Span) : Type 0 where
  pub level : Level
  pub others : List Level
  pub levels_are : ls ≡ level ∷ others
  pub number : m ≡ level.interval
  pub parts_are : i.parts ≡ level.parts
  pub block_is : i.block ≡ level.block
  pub values_are : i.values ≡ values
  pub left_are : i.left ≡ left

pub end_closes : (m : ℕ) (values : List ℤ) (left : List Tag) (x : Split) (ls : List Level) → StandsIn x ls
    → closed_at m x.spans ≡ false → (i : Span) → slice_get (end_span values left x).spans m ≡ Some i
    → is_some i.closed ≡ true → IsLeftAs x ls m values left i
end_closes m values left x ls s unso i at is_so =
    by ls s (subst (λ ks. slice_get (change_first (λ (j : Span). record j {
      closed = Some (length x.edges);
      values =
          values;
      left = left;
    }) ks x.spans) m ≡ Some i) s.running at)
  where
    by : (ls : List Level) → StandsIn x ls
        → slice_get (change_first (λ (j : Span). record j {
          closed = Some (length x.edges);
          values = values;
          left =
              left;
        }) (numbers ls) x.spans) m ≡ Some i → IsLeftAs x ls m values left i
    by [] s at = absurd (true≢false (sym is_so ∙ ap closed_in (sym at) ∙ unso))
    by (l ∷ ls) s at = elim (cases_eq m l.interval) [
      | inl is ↦
          let here : slice_get (change (λ (j : Span). record j {
            closed = Some (length x.edges);
            values =
                values;
            left = left;
          }) l.interval x.spans) l.interval ≡ Some i =
          subst (λ z. slice_get (change (λ (j : Span). record j {
            closed = Some (length x.edges);
            values =
                values;
            left = left;
          }) l.interval x.spans) z ≡ Some i) is at in
          let now : record s.levels.0.span { closed = Some (length x.edges); values = values; left = left } ≡ i =
          some (sym (change-at (λ (j : Span). record j {
            closed = Some (length x.edges);
            values = values;
            left =
                left;
          }) l.interval x.spans
          ∙ ap (option_map (λ (j : Span). record j {
            closed = Some (length x.edges);
            values = values;
            left =
                left;
          })) s.levels.0.there) ∙ here) in
          record {
            level = l;
            others = ls;
            levels_are = refl;
            number = is;
            parts_are = sym (ap (λ (j : Span). j.parts) now) ∙ s.levels.0.parts_are ∙ append-nil l.parts;
            block_is = sym (ap (λ (j : Span). j.block) now) ∙ s.levels.0.block_is;
            values_are = sym (ap (λ (j : Span). j.values) now);
            left_are = sym (ap (λ (j : Span). j.left) now);
          }
      | inr other ↦ absurd (true≢false (sym is_so
          ∙ ap closed_in (sym at
          ∙ change-else (λ (j : Span). record j {
            closed = Some (length x.edges);
            values = values;
            left =
                left;
          }) l.interval m x.spans other) ∙ unso))
    ]
