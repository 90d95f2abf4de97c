-- The parts of intervals, and one part more.
use Rattle.std.proofs.Common.{◌≡◌, ℕ, zero, suc, ◌⊎◌, List, [], ◌∷◌, ◌++◌, Option, Some, None, refl, ap, sym, subst, ◌∙◌, length, inl, inr}
use Rattle.std.specs.Prelude.{option_map, slice_get}
use Rattle.std.proofs.lemmas.Bool.{cases_eq}
use Rattle.std.proofs.lemmas.Option.{none-some}
use Rattle.ppd_model.proofs.EdgeWords.{part_in}
use Rattle.ppd_model.specs.Intervals.{Part, Span, change_first, with_part}
use Rattle.ppd_model.specs.World.{change}
use Rattle.ppd_model.proofs.Changes.{change-at, change-else, some}

-- ---- the parts of an interval

abbrev pub parts_in : List Span → ℕ → Option (List Part)
parts_in spans k = option_map (λ (i : Span). i.parts) (slice_get spans k)

pub record PartAt (spans : List Span) (k j : ℕ) (q : Part) : Type 0 where
  pub parts : List Part
  pub parts_are : parts_in spans k ≡ Some parts
  pub there : slice_get parts j ≡ Some q

pub part_from : (o : Option Span) (j : ℕ) (q : Part) → part_in o j ≡ Some q → (ps : List Part)
    × (option_map (λ (i : Span). i.parts) o ≡ Some ps) × (slice_get ps j ≡ Some q)
part_from None j q e = absurd (none-some q e)
part_from (Some i) j q e = (i.parts, refl, e)

pub part_to : (o : Option Span) (j : ℕ) (q : Part) (ps : List Part) → option_map (λ (i : Span). i.parts) o ≡ Some ps
    → slice_get ps j ≡ Some q → part_in o j ≡ Some q
part_to None j q ps e at = absurd (none-some ps e)
part_to (Some i) j q ps e at = ap (λ xs. slice_get xs j) (some e) ∙ at

pub last_cases : (xs : List Part) (q : Part) (j : ℕ) (r : Part) → slice_get (xs ++ q ∷ []) j ≡ Some r
    → (slice_get xs j ≡ Some r) ⊎ ((j ≡ length xs) × (r ≡ q))
last_cases [] q zero r e = inr (refl, sym (some e))
last_cases [] q (suc j) r e = absurd (none-some r e)
last_cases (x ∷ xs) q zero r e = inl e
last_cases (x ∷ xs) q (suc j) r e = elim (last_cases xs q j r e)
    [ inl old ↦ inl old | inr new ↦ inr (ap suc new.0, new.1) ]

pub mapped : (f : Span → Span) (g : List Part → List Part) → ((i : Span) → (f i).parts ≡ g i.parts) → (o : Option Span)
    → option_map (λ (i : Span). i.parts) (option_map f o) ≡ option_map g (option_map (λ (i : Span). i.parts) o)
mapped f g same None = refl
mapped f g same (Some i) = ap (λ ps. Some ps) (same i)

pub same_map : (o : Option (List Part)) → option_map (λ ps. ps) o ≡ o
same_map None = refl
same_map (Some ps) = refl

pub quiet_parts : (f : Span → Span) → ((i : Span) → (f i).parts ≡ i.parts) → (ks : List ℕ) (spans : List Span) (k : ℕ)
    → parts_in (change_first f ks spans) k ≡ parts_in spans k
quiet_parts f same [] spans k = refl
quiet_parts f same (m ∷ ms) spans k = elim (cases_eq k m) [
  | inl e ↦ subst (λ i. parts_in (change f m spans) i ≡ parts_in spans i) (sym e)
      (ap (option_map (λ (i : Span). i.parts)) (change-at f m spans) ∙ mapped f (λ ps. ps) same (slice_get spans m)
      ∙ same_map (parts_in spans m))
  | inr other ↦ ap (option_map (λ (i : Span). i.parts)) (change-else f m k spans other)
]

-- one part more at the first of these
pub put_first : (q : Part) (m : ℕ) (ms : List ℕ) (spans : List Span)
    → parts_in (change_first (with_part q) (m ∷ ms) spans) m ≡ option_map (λ ps. ps ++ q ∷ []) (parts_in spans m)
put_first q m ms spans = ap (option_map (λ (i : Span). i.parts)) (change-at (with_part q) m spans)
    ∙ mapped (with_part q) (λ ps. ps ++ q ∷ []) (λ i. refl) (slice_get spans m)

pub put_else : (q : Part) (m : ℕ) (ms : List ℕ) (spans : List Span) (k : ℕ) → (k ≡ m → ⊥)
    → parts_in (change_first (with_part q) (m ∷ ms) spans) k ≡ parts_in spans k
put_else q m ms spans k other = ap (option_map (λ (i : Span). i.parts)) (change-else (with_part q) m k spans other)

-- the new part: in the first of these, after its parts
pub record IsPut (q : Part) (ks : List ℕ) (spans : List Span) (k j : ℕ) (r : Part) : Type 0 where
  pub rest : List ℕ
  pub first : ks ≡ k ∷ rest
  pub parts : List Part
  pub parts_are : parts_in spans k ≡ Some parts
  pub place : j ≡ length parts
  pub is : r ≡ q

pub more_of : (q : Part) (o : Option (List Part)) (ps : List Part) → option_map (λ xs. xs ++ q ∷ []) o ≡ Some ps
    → (xs : List Part) × (o ≡ Some xs) × (ps ≡ xs ++ q ∷ [])
more_of q None ps e = absurd (none-some ps e)
more_of q (Some xs) ps e = (xs, refl, sym (some e))

pub put_cases : (q : Part) (ks : List ℕ) (spans : List Span) (k j : ℕ) (r : Part)
    → PartAt (change_first (with_part q) ks spans) k j r → PartAt spans k j r ⊎ IsPut q ks spans k j r
put_cases q [] spans k j r h = inl h
put_cases q (m ∷ ms) spans k j r h = elim (cases_eq k m) [
  | inr other ↦ inl (record {
    parts = h.parts;
    parts_are = sym (put_else q m ms spans k other)
        ∙ h.parts_are;
    there = h.there;
  })
  | inl same ↦
      let was = more_of q (parts_in spans m) h.parts
      (sym (put_first q m ms spans) ∙ ap (parts_in (change_first (with_part q) (m ∷ ms) spans)) (sym same)
      ∙ h.parts_are) in
      elim (last_cases was.0 q j r (ap (λ ps. slice_get ps j) (sym was.2) ∙ h.there)) [
        | inl old ↦ inl (record { parts = was.0; parts_are = ap (parts_in spans) same ∙ was.1; there = old })
        | inr new ↦ inr (record {
          rest = ms;
          first = ap (λ i. i ∷ ms) (sym same);
          parts = was.0;
          parts_are = ap
              (parts_in spans) same ∙ was.1;
          place = new.0;
          is = new.1;
        })
      ]
]

-- a new interval has no parts yet
pub fresh_parts : (spans : List Span) (new : Span) (k j : ℕ) (q : Part) → new.parts ≡ []
    → PartAt (spans ++ new ∷ []) k j q
    → PartAt spans k j q
fresh_parts spans new k j q none h =
    let at = by spans k h.parts_are in
    at
  where
    by : (spans' : List Span) (k' : ℕ) → parts_in (spans' ++ new ∷ []) k' ≡ Some h.parts → PartAt spans' k' j q
    by [] zero e = absurd (none-some q (ap (λ ps. slice_get ps j) (sym none ∙ some e) ∙ h.there))
    by [] (suc k') e = absurd (none-some h.parts e)
    by (i ∷ is) zero e = record { parts = h.parts; parts_are = e; there = h.there }
    by (i ∷ is) (suc k') e = (let r : PartAt is k' j q = by is k' e in
        record { parts = r.parts; parts_are = r.parts_are; there = r.there })
