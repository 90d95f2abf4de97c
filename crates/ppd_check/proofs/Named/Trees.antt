-- Statements of a program's tree hold no declared variable: those stand in declarations.
use Rattle.std.proofs.Common.{◌≡◌, refl, Bool, true, false, not, ◌&&◌, List, [], ◌∷◌, ◌++◌}
use Rattle.std.specs.Prelude.{⊤}
use Rattle.ppd_parse.specs.declared.symbol.Level.TheVariants as L
use Rattle.ppd_parse.specs.declared.symbol.Rule.{Rule}
use Rattle.ppd_parse.specs.declared.symbol.Rule.TheVariants as R
use Rattle.ppd_parse.specs.declared.symbol.At.{At}
use Rattle.ppd_parse.specs.Grammar.{Shape, Shapes, leaf, node, no_shapes, shape_then, forest, Marked}
use Rattle.ppd_parse.specs.Language.{Side, source_side, local_item_side, tier, Phrase, phrase, Is, IsProgram}
use Rattle.ppd_check.proofs.Phrases.{and_left, and_right, not_so, passes, all_pass}

-- Trees.

-- the rule of a declared variable
abbrev pub is_item : Rule → Bool
is_item R.Litem = true
is_item r = false

-- no tree is a declared variable
abbrev pub NoItem : Shape → Type 0
NoItem (leaf x) = ⊤
NoItem (node r ts) = is_item r ≡ false

abbrev pub NoItems : Shapes → Type 0
NoItems no_shapes = ⊤
NoItems (shape_then t ts) = NoItem t × NoItems ts

abbrev pub OwnPlain : Rule → Shapes → Type 0
OwnPlain R.Stmt ts = NoItems ts
OwnPlain r ts = ⊤

-- no statement has a declared variable as a part
abbrev mutual
  pub IsPlain : Shape → Type 0
  IsPlain (leaf x) = ⊤
  IsPlain (node r ts) = OwnPlain r ts × ArePlain ts

  pub ArePlain : Shapes → Type 0
  ArePlain no_shapes = ⊤
  ArePlain (shape_then t ts) = IsPlain t × ArePlain ts

abbrev NoneOf : List Shape → Type 0
NoneOf [] = ⊤
NoneOf (t ∷ ts) = NoItem t × NoneOf ts

abbrev pub AllPlain : List Shape → Type 0
AllPlain [] = ⊤
AllPlain (t ∷ ts) = IsPlain t × AllPlain ts

none_append : (ts us : List Shape) → NoneOf ts → NoneOf us → NoneOf (ts ++ us)
none_append [] us h i = i
none_append (t ∷ ts) us h i = (h.0, none_append ts us h.1 i)

plain_append : (ts us : List Shape) → AllPlain ts → AllPlain us → AllPlain (ts ++ us)
plain_append [] us h i = i
plain_append (t ∷ ts) us h i = (h.0, plain_append ts us h.1 i)

none_forest : (ts : List Shape) → NoneOf ts → NoItems (forest ts)
none_forest [] h = tt
none_forest (t ∷ ts) h = (h.0, none_forest ts h.1)

plain_forest : (ts : List Shape) → AllPlain ts → ArePlain (forest ts)
plain_forest [] h = tt
plain_forest (t ∷ ts) h = (h.0, plain_forest ts h.1)

-- Phrases of the grammar.

-- none of its trees is a declared variable
abbrev no_variable : Side → Bool
no_variable local_item_side = false
no_variable y = true

abbrev itemless : Phrase → Bool
itemless = passes no_variable (λ r f b. not (is_item r))

side_itemless : (y : Side) → no_variable y ≡ true → itemless (phrase y) ≡ true
side_itemless local_item_side e = absurd cc
side_itemless (tier L.Product) e = refl
side_itemless y e = refl

no_items : {f : Phrase} {a : At} {t : List Shape} {ts rest : List Marked} → Is f a ts t rest → itemless f ≡ true → NoneOf t
no_items =
    all_pass no_variable (λ r f b. not (is_item r)) side_itemless NoneOf tt (λ x. (tt, tt)) none_append
    (λ r f a t ts rest d h k. (not_so (is_item r) h, tt))

abbrev own_settled : Rule → Phrase → Bool
own_settled R.Stmt f = itemless f
own_settled r f = true

-- no statement in it has a declared variable as a part
abbrev settled : Phrase → Bool
settled = passes (λ y. true) (λ r f b. own_settled r f && b)

side_settled : (y : Side) → true ≡ true → settled (phrase y) ≡ true
side_settled source_side e = refl
side_settled y e = refl

own_plain : (r : Rule) {f : Phrase} {a : At} {t : List Shape} {ts rest : List Marked} → own_settled r f ≡ true → Is f a ts t rest → OwnPlain r (forest t)
own_plain R.Stmt {t = t} h d = none_forest t (no_items d h)
own_plain r h d = tt

pub program_plain : {ts : List Marked} {f : List Shape} → IsProgram ts f → AllPlain f
program_plain p =
    all_pass (λ y. true) (λ r f b. own_settled r f && b) side_settled AllPlain tt (λ x. (tt, tt)) plain_append
    (λ r f a t ts rest d h k. ((own_plain r (and_left (own_settled r f) (settled f) h) d, plain_forest t (k (and_right (own_settled r f) (settled f) h))), tt))
    p refl
