-- What is seen of the intervals of a process, as each step changes them.
use Rattle.std.proofs.Common.{◌≡◌, ℕ, zero, suc, ◌+◌, Bool, true, false, List, [], ◌∷◌, ◌++◌, length, Option, Some, refl, ap, ◌∙◌, inl, inr, ◌⊎◌}
use Rattle.std.specs.Prelude.{ℤ, option_map, slice_get, if◌then◌else◌}
use Rattle.std.proofs.lemmas.Option.{none-some}
use Rattle.ppd_sem.specs.Described.{is_event}
use Rattle.ppd_sem.specs.declared.proc.Need.{Need}
use Rattle.ppd_sem.specs.declared.proc.Need.TheVariants.{Budget, Stopped}
use Rattle.ppd_model.specs.Intervals.{Span, Split, change_first, innermost, own, with_own, with_part, with_step}
use Rattle.ppd_model.specs.World.{change}

-- what is seen of interval k, if it is there
abbrev pub seen : {B : Type 0} → (Span → B) → List Span → ℕ → Option B
seen view spans k = option_map view (slice_get spans k)

-- its block, and the number of the step that began it
abbrev pub begun : Span → ℕ × ℕ
begun i = (i.block, i.opened)

-- how it ended, too
pub record Marks : Type 0 where
  pub block : ℕ
  pub opened : ℕ
  pub closed : Option ℕ
  pub values : List ℤ

abbrev pub marks : Span → Marks
marks i = record { block = i.block; opened = i.opened; closed = i.closed; values = i.values }

-- ---- the innermost is changed

module _ {B : Type 0} (view : Span → B) where
  changed : (f : Span → Span) → ((i : Span) → view (f i) ≡ view i) → (j : ℕ) (spans : List Span) (k : ℕ)
      → seen view (change f j spans) k ≡ seen view spans k
  changed f same j [] k = refl
  changed f same zero (i ∷ is) zero = ap Some (same i)
  changed f same zero (i ∷ is) (suc k) = refl
  changed f same (suc j) (i ∷ is) zero = refl
  changed f same (suc j) (i ∷ is) (suc k) = changed f same j is k

  pub first_changed : (f : Span → Span) → ((i : Span) → view (f i) ≡ view i) → (js : List ℕ) (spans : List Span)
      (k : ℕ) → seen view (change_first f js spans) k ≡ seen view spans k
  first_changed f same [] spans k = refl
  first_changed f same (j ∷ js) spans k = changed f same j spans k

  step_seen : ((i : Span) → view (record i { steps = i.steps + 1 }) ≡ view i) → (n : Need) (x : Split) (k : ℕ)
      → seen view (with_step n x).spans k ≡ seen view x.spans k
  step_seen same Budget x k = refl
  step_seen same Stopped x k = refl
  step_seen same n x k = first_changed (λ i. record i { steps = i.steps + 1 }) same x.running x.spans k

  own_seen : ((i : Span) (m : ℕ) → view (with_part (own m) i) ≡ view i) → (n : Need) (x : Split) (k : ℕ)
      → seen view (with_own n x).spans k ≡ seen view x.spans k
  own_seen same n x k = by (is_event n)
    where
      by : (b : Bool) → seen view (if b then innermost (with_part (own (length x.trace.events))) x else x).spans k
          ≡ seen view x.spans k
      by true = first_changed (with_part (own (length x.trace.events))) (λ i. same i (length x.trace.events)) x.running
          x.spans k
      by false = refl

  -- the step itself changes nothing that is seen
  pub body_seen : ((i : Span) → view (record i { steps = i.steps + 1 }) ≡ view i)
      → ((i : Span) (m : ℕ) → view (with_part (own m) i) ≡ view i) → (n : Need) (x : Split) (k : ℕ)
      → seen view (with_own n (with_step n x)).spans k ≡ seen view x.spans k
  body_seen steps parts n x k = own_seen parts n (with_step n x) k ∙ step_seen steps n x k

  -- ---- one more

  pub kept_seen : (spans : List Span) (y : Span) (k : ℕ) (b : B) → seen view spans k ≡ Some b
      → seen view (spans ++ y ∷ []) k ≡ Some b
  kept_seen [] y k b e = absurd (none-some b e)
  kept_seen (i ∷ is) y zero b e = e
  kept_seen (i ∷ is) y (suc k) b e = kept_seen is y k b e

  pub new_seen : (spans : List Span) (y : Span) → seen view (spans ++ y ∷ []) (length spans) ≡ Some (view y)
  new_seen [] y = refl
  new_seen (i ∷ is) y = new_seen is y

  pub either_seen : (spans : List Span) (y : Span) (k : ℕ) (b : B) → seen view (spans ++ y ∷ []) k ≡ Some b
      → (seen view spans k ≡ Some b) ⊎ (Some (view y) ≡ Some b)
  either_seen [] y zero b e = inr e
  either_seen [] y (suc k) b e = absurd (none-some b e)
  either_seen (i ∷ is) y zero b e = inl e
  either_seen (i ∷ is) y (suc k) b e = either_seen is y k b e

-- the step itself leaves the numbers of its steps
pub body_edges : (n : Need) (x : Split) → (with_own n (with_step n x)).edges ≡ x.edges
body_edges n x = own_edges (is_event n) (with_step n x) ∙ step_edges n x
  where
    own_edges : (b : Bool) (y : Split)
        → (if b then innermost (with_part (own (length y.trace.events))) y else y).edges ≡ y.edges
    own_edges true y = refl
    own_edges false y = refl

    step_edges : (n : Need) (y : Split) → (with_step n y).edges ≡ y.edges
    step_edges Budget y = refl
    step_edges Stopped y = refl
    step_edges n y = refl
