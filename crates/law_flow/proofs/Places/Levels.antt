-- The levels of a process's intervals as its steps change them.
use Rattle.std.proofs.Common.{◌≡◌, ℕ, zero, suc, ◌<◌, ◌≤◌, ℤ, List, [], ◌∷◌, ◌++◌, Option, Some, None, refl, ap, sym, subst, ◌∙◌, arith, length, append-nil}
use Rattle.std.specs.Prelude.{drop, option_map, slice_get, is_some}
use Rattle.ppd_model.specs.Intervals.{Part, own, nested, Span, Split, begin_span, change_first, end_span, innermost, new_span, with_part}
use Rattle.ppd_model.proofs.IntervalWords.{begin_if, end_if}
use Rattle.ppd_model.specs.FullTrace.{Tag}
use Rattle.ppd_model.specs.Marks.{Mark}
use Rattle.ppd_model.specs.World.{change}
use Rattle.ppd_model.specs.declared.trace.EventId.{EventId}
use Rattle.ppd_model.proofs.Changes.{change-at, change-else}
use Rattle.ppd_model.proofs.CountedOn.{last_at}
use Rattle.ppd_model.proofs.Items.{first_length}
use Rattle.law_flow.specs.Places.Levels.{AreBelow, AreLevels, Level, StandsIn, numbers}
use Rattle.law_flow.proofs.Vocabulary.Levels.{begin_level, end_level, with_event, without_first}

-- ---- lists

pub at_before : {A : Type 0} (xs ys : List A) (i : ℕ) → i < length xs → slice_get (xs ++ ys) i ≡ slice_get xs i
at_before [] ys i lt = absurd (omega (arith, lt))
at_before (z ∷ xs) ys zero lt = refl
at_before (z ∷ xs) ys (suc i) lt = at_before xs ys i (omega (arith, lt))

below_more : (n m : ℕ) (ps : List Part) → n ≤ m → AreBelow n ps → AreBelow m ps
below_more n m [] le h = tt
below_more n m (own k ∷ ps) le h = below_more n m ps le h
below_more n m (nested k ∷ ps) le h = (omega (arith, le, h.0), below_more n m ps le h.1)

below_put : (n : ℕ) (ps : List Part) (q : Part) → AreBelow n ps → AreBelow n (q ∷ []) → AreBelow n (ps ++ q ∷ [])
below_put n [] q h g = g
below_put n (own k ∷ ps) q h g = below_put n ps q h g
below_put n (nested k ∷ ps) q h g = (h.0, below_put n ps q h.1 g)

pub pushed : {A : Type 0} (xs : List A) (y : A) → length (xs ++ y ∷ []) ≡ suc (length xs)
pushed [] y = refl
pushed (z ∷ zs) y = ap suc (pushed zs y)

-- ---- levels that stay

levels_same : (spans after : List Span) (n m : ℕ) (inner : List Part) (ls : List Level) → n ≤ m
    → ((k : ℕ) → k < n → slice_get after k ≡ slice_get spans k) → AreLevels spans n inner ls
    → AreLevels after m inner ls
levels_same spans after n m inner [] le same h = tt
levels_same spans after n m inner (l ∷ ls) le same h = (
  record {
    span = h.0.span;
    there = same l.interval h.0.number ∙ h.0.there;
    runs = h.0.runs;
    block_is = h.0.block_is;
    round_is = h.0.round_is;
    parts_are = h.0.parts_are;
    number = (let lt = h.0.number in omega (arith, lt, le));
    earlier = below_more n m l.parts le h.0.earlier;
  },
  levels_same spans after l.interval l.interval (nested l.interval ∷ []) ls (omega arith) (λ k lt. same k (let less =
      h.0.number in omega (arith, lt, less))) h.1,
)

changed_below : (f : Span → Span) (spans : List Span) (m k : ℕ) → k < m
    → slice_get (change f m spans) k ≡ slice_get spans k
changed_below f spans m k lt = change-else f m k spans (λ e. omega (arith, lt, e))

-- a change that keeps the interval running, in its block and round
pub record IsQuiet (f : Span → Span) : Type 0 where
  pub same_closed : (i : Span) → is_some (f i).closed ≡ is_some i.closed
  pub same_block : (i : Span) → (f i).block ≡ i.block
  pub same_round : (i : Span) → (f i).round ≡ i.round

-- the innermost interval is changed, and has these parts
head_changed : (f : Span → Span) → IsQuiet f
    → (spans : List Span) (n m : ℕ) (inner after ps : List Part) (l : Level) (ls : List Level)
    → ((i : Span) → i.parts ≡ l.parts ++ inner → (f i).parts ≡ ps ++ after) → n ≤ m → AreBelow m ps
    → AreLevels spans n inner (l ∷ ls) → AreLevels (change f l.interval spans) m after (record l { parts = ps } ∷ ls)
head_changed f quiet spans n m inner after ps l ls parts le below h = (
  record {
    span = f h.0.span;
    there = change-at f l.interval spans ∙ ap (option_map f) h.0.there;
    runs = quiet.same_closed h.0.span ∙ h.0.runs;
    block_is = quiet.same_block h.0.span ∙ h.0.block_is;
    round_is = quiet.same_round h.0.span ∙ h.0.round_is;
    parts_are = parts h.0.span h.0.parts_are;
    number = (let lt = h.0.number in omega (arith, lt, le));
    earlier = below;
  },
  levels_same spans (change f l.interval spans) l.interval l.interval (nested l.interval ∷ []) ls (omega arith)
      (changed_below f spans l.interval) h.1,
)

-- ---- each change

-- the innermost interval of these is changed
first_of_levels : (f : Span → Span) (x : Split) (ls : List Level) → x.running ≡ numbers ls
    → change_first f x.running x.spans ≡ change_first f (numbers ls) x.spans
first_of_levels f x ls e = ap (λ ks. change_first f ks x.spans) e

-- one that keeps the parts
pub quiet_stands : (f : Span → Span) → IsQuiet f → ((i : Span) → (f i).parts ≡ i.parts)
    → (x : Split) (ls : List Level) → StandsIn x ls → StandsIn (innermost f x) ls
quiet_stands f quiet same x ls h = record {
  running = h.running;
  levels =
      subst (λ n. AreLevels (change_first f x.running x.spans) n [] ls) (sym (first_length f x.running x.spans))
      (subst (λ ss. AreLevels ss (length x.spans) [] ls) (sym (first_of_levels f x ls h.running)) (by ls h.levels));
}
  where
    by : (ls : List Level) → AreLevels x.spans (length x.spans) [] ls
        → AreLevels (change_first f (numbers ls) x.spans) (length x.spans) [] ls
    by [] g = tt
    by (l ∷ ls) g = head_changed f quiet x.spans (length x.spans) (length x.spans) [] [] l.parts l ls (λ i e. same i
        ∙ e) (omega arith) g.0.earlier g

part_quiet : (q : Part) → IsQuiet (with_part q)
part_quiet q = record { same_closed = λ i. refl; same_block = λ i. refl; same_round = λ i. refl }

one_more : (ps qs : List Part) (q : Part) → qs ≡ ps ++ [] → qs ++ q ∷ [] ≡ (ps ++ q ∷ []) ++ []
one_more ps qs q e = ap (λ rs. rs ++ q ∷ []) (e ∙ append-nil ps) ∙ sym (append-nil (ps ++ q ∷ []))

-- an event
pub event_stands : (n : ℕ) (x : Split) (ls : List Level) → StandsIn x ls
    → StandsIn (innermost (with_part (own n)) x) (with_event n ls)
event_stands n x ls h = record {
  running = h.running ∙ same_numbers ls;
  levels =
      subst (λ m. AreLevels (change_first (with_part (own n)) x.running x.spans) m [] (with_event n ls))
      (sym (first_length (with_part (own n)) x.running x.spans))
      (subst (λ ss. AreLevels ss (length x.spans) [] (with_event n ls))
      (sym (first_of_levels (with_part (own n)) x ls h.running)) (by ls h.levels));
}
  where
    same_numbers : (ls : List Level) → numbers ls ≡ numbers (with_event n ls)
    same_numbers [] = refl
    same_numbers (l ∷ ls) = refl

    by : (ls : List Level) → AreLevels x.spans (length x.spans) [] ls
        → AreLevels (change_first (with_part (own n)) (numbers ls) x.spans) (length x.spans) [] (with_event n ls)
    by [] g = tt
    by (l ∷ ls) g = head_changed (with_part (own n)) (part_quiet (own n)) x.spans (length x.spans)
        (length x.spans) [] [] (l.parts ++ own n ∷ []) l ls (λ i e. one_more l.parts i.parts (own n) e) (omega arith)
        (below_put (length x.spans) l.parts (own n) g.0.earlier tt) g

-- ---- an interval begins

pub begin_stands : (b frame : ℕ) (control : Option EventId) (x : Split) (ls : List Level) → StandsIn x ls
    → StandsIn (begin_span b frame control x) (record { interval = length x.spans; block = b; parts = [] } ∷ ls)
begin_stands b frame control x ls h = record {
  running = ap (λ ks. length x.spans ∷ ks) h.running;
  levels = (
    record {
      span = new_span (innermost (with_part (nested (length x.spans))) x) b frame control;
      there = subst (λ k. slice_get
          (outer x.running ++ new_span (innermost (with_part (nested (length x.spans))) x) b frame control ∷ []) k
          ≡ Some (new_span (innermost (with_part (nested (length x.spans))) x) b frame control)) (first_length
          (with_part (nested (length x.spans))) x.running x.spans)
          (last_at (outer x.running) (new_span (innermost (with_part (nested (length x.spans))) x) b frame control));
      runs = refl;
      block_is = refl;
      round_is = h.running;
      parts_are = refl;
      number = (let size : length
          (outer x.running ++ new_span (innermost (with_part (nested (length x.spans))) x) b frame control ∷ [])
          ≡ suc (length x.spans) = more_length in omega (arith, size));
      earlier = tt;
    },
    levels_same (outer x.running)
        (outer x.running ++ new_span (innermost (with_part (nested (length x.spans))) x) b frame control ∷ [])
        (length x.spans) (length x.spans) (nested (length x.spans) ∷ []) ls (omega arith)
        (λ k lt. at_before (outer x.running)
        (new_span (innermost (with_part (nested (length x.spans))) x) b frame control ∷ []) k
        (let size : length (outer x.running) ≡ length x.spans =
        first_length (with_part (nested (length x.spans))) x.running x.spans in omega (arith, size, lt)))
        (subst (λ ss. AreLevels ss (length x.spans) (nested (length x.spans) ∷ []) ls)
        (sym (first_of_levels (with_part (nested (length x.spans))) x ls h.running)) (by ls h.levels)),
  );
}
  where
    outer : List ℕ → List Span
    outer ks = change_first (with_part (nested (length x.spans))) ks x.spans

    more_length : length (outer x.running ++ new_span (innermost (with_part (nested (length x.spans))) x) b frame
        control ∷ []) ≡ suc (length x.spans)
    more_length = pushed (outer x.running)
        (new_span (innermost (with_part (nested (length x.spans))) x) b frame control)
        ∙ ap suc (first_length (with_part (nested (length x.spans))) x.running x.spans)

    by : (ls : List Level) → AreLevels x.spans (length x.spans) [] ls
        → AreLevels (outer (numbers ls)) (length x.spans) (nested (length x.spans) ∷ []) ls
    by [] g = tt
    by (l ∷ ls) g = head_changed (with_part (nested (length x.spans))) (part_quiet (nested (length x.spans))) x.spans
        (length x.spans) (length x.spans) [] (nested (length x.spans) ∷ []) l.parts l ls
        (λ i e. ap (λ ps. ps ++ nested (length x.spans) ∷ []) (e ∙ append-nil l.parts)) (omega arith) g.0.earlier g

-- ---- an interval is left

left_with : ℕ → List ℤ → List Tag → Span → Span
left_with c values left i = record i { closed = Some c; values = values; left = left }

pub end_stands : (values : List ℤ) (left : List Tag) (x : Split) (ls : List Level) → StandsIn x ls
    → StandsIn (end_span values left x) (without_first ls)
unfolding left_with
end_stands values left x ls h = record {
  running = ap (drop 1) h.running ∙ rest_numbers ls;
  levels =
      subst (λ m. AreLevels (change_first closing_one x.running x.spans) m [] (without_first ls))
      (sym (first_length closing_one x.running x.spans))
      (subst (λ ss. AreLevels ss (length x.spans) [] (without_first ls))
      (sym (first_of_levels closing_one x ls h.running)) (by ls h.levels));
}
  where
    closing_one : Span → Span
    closing_one i = record i { closed = Some (length x.edges); values = values; left = left }

    rest_numbers : (ls : List Level) → drop 1 (numbers ls) ≡ numbers (without_first ls)
    rest_numbers [] = refl
    rest_numbers (l ∷ []) = refl
    rest_numbers (l ∷ o ∷ ls) = refl

    by : (ls : List Level) → AreLevels x.spans (length x.spans) [] ls
        → AreLevels (change_first closing_one (numbers ls) x.spans) (length x.spans) [] (without_first ls)
    by [] g = tt
    by (l ∷ []) g = tt
    by (l ∷ o ∷ ls) g = (
      record {
        span = g.1.0.span;
        there = changed_below closing_one x.spans l.interval o.interval g.1.0.number ∙ g.1.0.there;
        runs = g.1.0.runs;
        block_is = g.1.0.block_is;
        round_is = g.1.0.round_is;
        parts_are = g.1.0.parts_are ∙ sym (append-nil (o.parts ++ nested l.interval ∷ []));
        number = (let lt = g.1.0.number in let less = g.0.number in omega (arith, lt, less));
        earlier = below_put (length x.spans) o.parts (nested l.interval)
            (below_more l.interval (length x.spans) o.parts (let lt = g.0.number in omega (arith, lt)) g.1.0.earlier)
            (g.0.number, tt);
      },
      levels_same x.spans (change closing_one l.interval x.spans) o.interval o.interval (nested o.interval ∷ []) ls
          (omega arith)
          (λ k lt. changed_below closing_one x.spans l.interval k (let less =
          g.1.0.number in omega (arith, lt, less))) g.1.1,
    )

-- ---- by marks

pub end_if_stands : (m : Option Mark) (left : List Tag) (x : Split) (ls : List Level) → StandsIn x ls
    → StandsIn (end_if m left x) (end_level m ls)
end_if_stands None left x ls h = h
end_if_stands (Some m) left x ls h = end_stands m.values left x ls h

pub begin_if_stands : (m : Option Mark) (frame : ℕ) (control : Option EventId) (x : Split) (ls : List Level)
    → StandsIn x ls
    → StandsIn (begin_if m frame control x) (begin_level m (length x.spans) ls)
begin_if_stands None frame control x ls h = h
begin_if_stands (Some m) frame control x ls h = begin_stands m.block frame control x ls h
