-- Tests of the grammar's phrases, and what they say of the trees that are read.
use Rattle.std.proofs.Common.{◌≡◌, refl, Bool, true, false, not, ◌&&◌, ◌||◌, List, [], ◌∷◌, ◌++◌}
use Rattle.ppd_parse.specs.declared.token.Token.{Token}
use Rattle.ppd_parse.specs.declared.symbol.Rule.{Rule}
use Rattle.ppd_parse.specs.declared.symbol.At.{At}
use Rattle.ppd_parse.specs.Grammar.{Shape, leaf, node, forest, Marked}
use Rattle.ppd_parse.specs.Language.{Side, source_side, Phrase, word, binary, the, ◌·◌, ◌∣◌, many, maybe, unless, opened, measured, made, phrase, Is, token, sign, side, both, left, right, done, more, absent, present, ended, within, counted, grouped}

-- Truth.

pub and_left : (a b : Bool) → (a && b) ≡ true → a ≡ true
and_left true b e = refl
and_left false b e = e

pub and_right : (a b : Bool) → (a && b) ≡ true → b ≡ true
and_right true b e = e
and_right false b e = absurd cc

pub not_so : (b : Bool) → not b ≡ true → b ≡ false
not_so true e = absurd cc
not_so false e = refl

-- A test of the parts of a phrase, by one of the sides of the language and one of the phrases that are made a node.

abbrev pub passes : (Side → Bool) → (Rule → Phrase → Bool → Bool) → Phrase → Bool
passes sides own (the y) = sides y
passes sides own (f · g) = passes sides own f && passes sides own g
passes sides own (f ∣ g) = passes sides own f && passes sides own g
passes sides own (many f) = passes sides own f
passes sides own (maybe f) = passes sides own f
passes sides own (opened f) = passes sides own f
passes sides own (measured f) = passes sides own f
passes sides own (made r f) = own r f (passes sides own f)
passes sides own _ = true

-- what holds of a node where its phrase passes holds of all trees that are read
module _ (sides : Side → Bool) (own : Rule → Phrase → Bool → Bool) (meets : (y : Side) → sides y ≡ true → passes sides own (phrase y) ≡ true)
    (Holds : List Shape → Type 0) (none : Holds []) (one : (x : Token) → Holds (leaf x ∷ [])) (append : (t u : List Shape) → Holds t → Holds u → Holds (t ++ u))
    (group : (r : Rule) (f : Phrase) (a : At) (t : List Shape) (ts rest : List Marked) → Is f a ts t rest → own r f (passes sides own f) ≡ true
    → (passes sides own f ≡ true → Holds t) → Holds (node r (forest t) ∷ [])) where
  pub all_pass : {f : Phrase} {a : At} {t : List Shape} {ts rest : List Marked} → Is f a ts t rest → passes sides own f ≡ true → Holds t
  all_pass (token {x = x} e m) h = one x.token
  all_pass (sign {x = x} e m) h = one x.token
  all_pass (side {y} d) h = all_pass d (meets y h)
  all_pass (both {f} {g} {t = t} {u = u} d e) h =
      append t u (all_pass d (and_left (passes sides own f) (passes sides own g) h)) (all_pass e (and_right (passes sides own f) (passes sides own g) h))
  all_pass (left {f} {g} d) h = all_pass d (and_left (passes sides own f) (passes sides own g) h)
  all_pass (right {f} {g} d) h = all_pass d (and_right (passes sides own f) (passes sides own g) h)
  all_pass done h = none
  all_pass (more {t = t} {u = u} d e) h = append t u (all_pass d h) (all_pass e h)
  all_pass absent h = none
  all_pass (present d) h = all_pass d h
  all_pass (ended x) h = none
  all_pass (within d) h = all_pass d h
  all_pass (counted d) h = all_pass d h
  all_pass (grouped {r} {f} {a} {t} {ts = ts} {rest = rest} d) h = group r f a t ts rest d h (all_pass d)

-- the phrase reads a token
abbrev pub reads : Phrase → Bool
reads (word k) = true
reads (binary l) = true
reads (the y) = true
reads (f · g) = reads f || reads g
reads (f ∣ g) = reads f && reads g
reads (many f) = false
reads (maybe f) = false
reads (unless k) = false
reads (opened f) = reads f
reads (measured f) = reads f
reads (made r f) = reads f

pub side_reads : (y : Side) → reads (phrase y) ≡ true
side_reads source_side = refl
side_reads y = refl
