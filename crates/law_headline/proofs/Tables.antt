-- What is told of the intervals of a run, place by place.
use Rattle.std.specs.Prelude.{None, Some, option_map, slice_get}
use Rattle.std.proofs.Common.{◌≡◌, ℕ, zero, suc, List, [], ◌∷◌, Option, Ok, get_or, length, map, refl, ap, sym, ◌∙◌}
use Rattle.std.proofs.lemmas.Option.{slice_get-map}
use Rattle.ppd_model.specs.Intervals.{Span, Split, items_of}
use Rattle.ppd_session.specs.Known.{Told, told_of_split}
use Rattle.ppd_session.proofs.Tables.{no_element, no_place}
use Rattle.ppd_session.proofs.KnownWords.{of_split, of_span}

abbrev pub told_in_span : Split → Option Span → Option Told
told_in_span y None = None
told_in_span y (Some i) = Some (Ok (items_of y i))

abbrev pub told_in : ℕ → Option Split → Option Told
told_in k None = None
told_in k (Some y) = told_in_span y (slice_get y.spans k)

pub told_row : (ys : List Split) (p k : ℕ) → slice_get (get_or (map told_of_split ys) p []) k ≡ told_in k (slice_get ys p)
told_row [] p k = ap (λ r. slice_get r k) (no_element p []) ∙ no_place k ∙ sym (ap (told_in k) (no_place p))
told_row (y ∷ ys) zero k = slice_get-map (λ (i : Span). Ok (items_of y i)) y.spans k ∙ by (slice_get y.spans k)
  where
    by : (o : Option Span) → option_map (λ i. Ok (items_of y i)) o ≡ told_in_span y o
    by None = refl
    by (Some i) = refl
told_row (y ∷ ys) (suc p) k = told_row ys p k

abbrev pub count_in : Option Split → ℕ
count_in None = 0
count_in (Some y) = length y.spans

count_spans : (is : List Span) → length (map of_span is) ≡ length is
count_spans [] = refl
count_spans (i ∷ is) = ap suc (count_spans is)

pub count_row : (ys : List Split) (p : ℕ) → length (get_or (map of_split ys) p []) ≡ count_in (slice_get ys p)
count_row [] zero = refl
count_row [] (suc p) = refl
count_row (y ∷ ys) zero = count_spans y.spans
count_row (y ∷ ys) (suc p) = count_row ys p
