-- The tags of local cells after each deed.
use Rattle.std.proofs.Common.{◌≡◌, ◌≢◌, ℕ, zero, suc, ◌+◌, ◌<◌, ◌≤◌, List, [], ◌∷◌, ◌++◌, None, get_or, refl, ap, ◌∙◌, arith, inl, inr, ◌⊎◌}
use Rattle.ppd_model.specs.declared.tracing.Activation.{Activation}
use Rattle.std.specs.Prelude.{replicate, slice_set}
use Rattle.std.proofs.lemmas.Bool.{cases_eq}
use Rattle.ppd_model.specs.FullTrace.{Tag, all_tagged, tagged}
use Rattle.ppd_model.specs.LocalTags.{locals}
use Rattle.ppd_model.proofs.LocalDeeds.{replicate_none}

-- ---- one cell

pub set_other : (xs : List Tag) (c d : ℕ) (me : Tag) → d ≢ c → get_or (slice_set xs c me) d None ≡ get_or xs d None
set_other [] zero d me n = refl
set_other [] (suc c) d me n = refl
set_other (x ∷ xs) zero zero me n = absurd (n refl)
set_other (x ∷ xs) zero (suc d) me n = refl
set_other (x ∷ xs) (suc c) zero me n = refl
set_other (x ∷ xs) (suc c) (suc d) me n = set_other xs c d me (λ e. n (ap suc e))

pub set_same : (xs : List Tag) (c : ℕ) (me : Tag) → (get_or (slice_set xs c me) c None ≡ None) ⊎ (get_or (slice_set xs c me) c None ≡ me)
set_same [] zero me = inl refl
set_same [] (suc c) me = inl refl
set_same (x ∷ xs) zero me = inr refl
set_same (x ∷ xs) (suc c) me = set_same xs c me

-- ---- the cells of an array

abbrev pub set_all : ℕ → ℕ → Tag → List Tag → List Tag
set_all base zero me xs = xs
set_all base (suc n) me xs = slice_set (set_all base n me xs) (base + n) me

pub all_others : (base n d : ℕ) (me : Tag) (xs : List Tag) → (d < base) ⊎ (base + n ≤ d) → get_or (set_all base n me xs) d None ≡ get_or xs d None
all_others base zero d me xs out = refl
all_others base (suc n) d me xs out = elim out [
  | inl low ↦ set_other (set_all base n me xs) (base + n) d me (λ e. omega arith) ∙ all_others base n d me xs (inl low)
  | inr high ↦ set_other (set_all base n me xs) (base + n) d me (λ e. omega arith) ∙ all_others base n d me xs (inr (omega arith))
]

pub all_same : (base n d : ℕ) (me : Tag) (xs : List Tag) → base ≤ d → d < base + n → (get_or (set_all base n me xs) d None ≡ None) ⊎ (get_or (set_all base n me xs) d None ≡ me)
all_same base zero d me xs low high = absurd (omega arith)
all_same base (suc n) d me xs low high = elim (cases_eq d (base + n)) [
  | inl is ↦ last (base + n) is
  | inr isnt ↦ elim (all_same base n d me xs low (omega arith)) [
    | inl e ↦ inl (set_other (set_all base n me xs) (base + n) d me isnt ∙ e)
    | inr e ↦ inr (set_other (set_all base n me xs) (base + n) d me isnt ∙ e)
  ]
]
  where
    last : (c : ℕ) → d ≡ c → (get_or (slice_set (set_all base n me xs) c me) d None ≡ None) ⊎ (get_or (slice_set (set_all base n me xs) c me) d None ≡ me)
    last c e = elim (set_same (set_all base n me xs) c me) [
      | inl none ↦ inl (ap (λ i. get_or (slice_set (set_all base n me xs) c me) i None) e ∙ none)
      | inr mine ↦ inr (ap (λ i. get_or (slice_set (set_all base n me xs) c me) i None) e ∙ mine)
    ]

-- ---- the top activation

-- the tags of the top activation, changed
abbrev pub top_changed : (List Tag → List Tag) → List (List Tag) → List (List Tag)
top_changed f [] = []
top_changed f (x ∷ xs) = f x ∷ xs

pub tagged_locals : (c : ℕ) (me : Tag) (xs : List Activation) → locals (tagged c me xs) ≡ top_changed (λ ts. slice_set ts c me) (locals xs)
tagged_locals c me [] = refl
tagged_locals c me (x ∷ xs) = refl

pub all_locals : (base n : ℕ) (me : Tag) (xs : List Activation) → locals (all_tagged base n me xs) ≡ top_changed (set_all base n me) (locals xs)
all_locals base n me [] = none n
  where
    none : (n : ℕ) → locals (all_tagged base n me []) ≡ []
    none zero = refl
    none (suc n) = tagged_locals (base + n) me (all_tagged base n me []) ∙ ap (top_changed (λ ts. slice_set ts (base + n) me)) (none n)
all_locals base n me (x ∷ xs) = more n
  where
    more : (n : ℕ) → locals (all_tagged base n me (x ∷ xs)) ≡ set_all base n me x.tags ∷ locals xs
    more zero = refl
    more (suc n) = tagged_locals (base + n) me (all_tagged base n me (x ∷ xs)) ∙ ap (top_changed (λ ts. slice_set ts (base + n) me)) (more n)

-- ---- the parameters of a new activation

pub copied : (n k c : ℕ) (me : Tag) → c < n → get_or (replicate n me ++ replicate k None) c None ≡ me
copied zero k c me lt = absurd (omega arith)
copied (suc n) k zero me lt = refl
copied (suc n) k (suc c) me lt = copied n k c me (omega arith)

pub uncopied : (n k c : ℕ) (me : Tag) → n ≤ c → get_or (replicate n me ++ replicate k None) c None ≡ None
uncopied zero k c me le = replicate_none k c
uncopied (suc n) k zero me le = absurd (omega arith)
uncopied (suc n) k (suc c) me le = uncopied n k c me (omega arith)
