-- What is read within the limits keeps the count of operators: the trees of a program fit.
use Rattle.std.proofs.Common.{◌≡◌, refl, sym, ap, ◌∙◌, subst, ℕ, ◌+◌, ◌≤◌, Bool, true, false, cond, not, ◌&&◌, ◌||◌, if◌then◌else◌, List, [], ◌∷◌, ◌++◌, arith}
use Rattle.std.specs.Prelude.{⊤}
use Rattle.ppd_ast.specs.declared.limits.TheConstants.{MOST_SOURCE_OPERATORS}
use Rattle.ppd_parse.specs.declared.token.Token.{Token}
use Rattle.ppd_parse.specs.declared.token.Kind.{Kind}
use Rattle.ppd_parse.specs.declared.symbol.Level.{Level}
use Rattle.ppd_parse.specs.declared.symbol.Level.TheVariants as L
use Rattle.ppd_parse.specs.declared.symbol.Rule.{Rule}
use Rattle.ppd_parse.specs.declared.symbol.Rule.TheVariants as R
use Rattle.ppd_parse.specs.declared.symbol.At.{At}
use Rattle.ppd_parse.specs.Grammar.{Shape, leaf, node, forest, Marked, kind_at, kind_of, is_operator}
use Rattle.ppd_parse.specs.Language.{Side, block_side, place_side, change_side, stmt_side, tier, unary_side, Phrase, word, binary, the, ◌·◌, ◌∣◌, many, maybe, unless, opened, measured, made, phrase, Is, token, sign, side, both, left, right, done, more, absent, present, ended, within, counted, grouped, IsProgram}
use Rattle.ppd_parse.specs.Limits.{is_sign, count_with, KeepLimits}
use Rattle.ppd_parse.specs.Stack.{is_binary}
use Rattle.ppd_check.proofs.Phrases.{and_left, and_right, not_so, reads}
use Rattle.ppd_check.proofs.Limits.Trees.{signs_of, levels_of, statement_in, IsJoined, is_for, starts_for, OwnFits, FitsAll, signs_append, signs_forest, levels_append, levels_forest, fits_append, fits_forest}

-- an operand of the language, a binary operator, and more
abbrev joins : Phrase → Bool
joins (the (tier l) · (binary m · g)) = true
joins _ = false

-- the first tree is no token `for`
abbrev mild : Phrase → Bool
mild (word k) = not (is_for k)
mild (the block_side) = true
mild (the change_side) = true
mild (the place_side) = true
mild (f · g) = mild f
mild (f ∣ g) = mild f && mild g
mild (opened f) = mild f
mild (measured f) = mild f
mild (made r f) = true
mild _ = false

-- a statement stands inside
abbrev heavy : Phrase → Bool
heavy (the stmt_side) = true
heavy (f · g) = heavy f || heavy g
heavy (f ∣ g) = heavy f && heavy g
heavy (opened f) = heavy f
heavy (measured f) = heavy f
heavy (made r f) = heavy f
heavy _ = false

-- in each alternative the first tree is no token `for`, or a statement stands inside
abbrev stated : Phrase → Bool
stated (f ∣ g) = stated f && stated g
stated f = mild f || heavy f

abbrev own_sound : Bool → Rule → Phrase → Bool
own_sound i R.Stmt f = stated f
own_sound i R.Unary f = i
own_sound i R.Binary f = i && joins f
own_sound i r f = true

-- expressions stand where operators are counted, if i or in a measured phrase, and each node reads a token
abbrev sound : Bool → Phrase → Bool
sound i (word k) = true
sound i (binary l) = true
sound i (the (tier l)) = i
sound i (the unary_side) = i
sound i (the y) = true
sound i (f · g) = sound i f && sound i g
sound i (f ∣ g) = sound i f && sound i g
sound i (many f) = sound i f
sound i (maybe f) = sound i f
sound i (unless k) = true
sound i (opened f) = sound i f
sound i (measured f) = sound true f
sound i (made r f) = reads f && (own_sound i r f && sound i f)

side_sound : (i : Bool) (y : Side) → sound i (the y) ≡ true → sound i (phrase y) ≡ true
side_sound true (tier L.Product) e = refl
side_sound false (tier l) e = absurd cc
side_sound false unary_side e = absurd cc
side_sound i y e = refl

-- One tree of an operand, and its operator.

one_unary : {a : At} {t : List Shape} {ts rest : List Marked} → Is (the unary_side) a ts t rest → (s : Shape) × (t ≡ s ∷ [])
one_unary (side (grouped {r} {t = t} d)) = (node r (forest t), refl)

one_tier : (l : Level) {a : At} {t : List Shape} {ts rest : List Marked} → Is (the (tier l)) a ts t rest → (s : Shape) × (t ≡ s ∷ [])
one_tier L.Product (side (left d)) = one_unary d
one_tier L.Sum (side (left d)) = one_tier L.Product d
one_tier L.Compare (side (left d)) = one_tier L.Sum d
one_tier L.Equal (side (left d)) = one_tier L.Compare d
one_tier L.And (side (left d)) = one_tier L.Equal d
one_tier L.Or (side (left d)) = one_tier L.And d
one_tier l (side (right (grouped {r} {t = t} d))) = (node r (forest t), refl)

pub or_true : (a b : Bool) → b ≡ true → (a || b) ≡ true
or_true true b e = refl
or_true false b e = e

binary_of : (l : Level) (k : Kind) → is_operator l k ≡ true → is_binary k ≡ true
binary_of L.Product k e = rw e refl
binary_of L.Sum k e = or_true (is_operator L.Product k) _ (rw e refl)
binary_of L.Compare k e = or_true (is_operator L.Product k) _ (or_true (is_operator L.Sum k) _ (rw e refl))
binary_of L.Equal k e = or_true (is_operator L.Product k) _ (or_true (is_operator L.Sum k) _ (or_true (is_operator L.Compare k) _ (rw e refl)))
binary_of L.And k e = or_true (is_operator L.Product k) _ (or_true (is_operator L.Sum k) _ (or_true (is_operator L.Compare k) _ (or_true (is_operator L.Equal k) _ (rw e refl))))
binary_of L.Or k e = or_true (is_operator L.Product k) _ (or_true (is_operator L.Sum k) _ (or_true (is_operator L.Compare k) _ (or_true (is_operator L.Equal k) _ (or_true (is_operator L.And k) _ e))))

joined_by : (s : Shape) (t u : List Shape) (x : Token) → t ≡ s ∷ [] → is_binary (kind_of x.kind) ≡ true → IsJoined (forest (t ++ (leaf x ∷ u)))
joined_by s t u x e h = subst (λ (v : List Shape). IsJoined (forest (v ++ (leaf x ∷ u)))) (sym e) h

joined_of : {f : Phrase} {a : At} {t : List Shape} {ts rest : List Marked} → joins f ≡ true → Is f a ts t rest → IsJoined (forest t)
joined_of {f = the (tier l) · (binary m · g)} e (both {t = t} d (both {u = u} (sign {x = x} o p) r)) =
    let one = one_tier l d in
    joined_by one.0 t u x.token one.1 (binary_of m (kind_at x) o)
joined_of e d = absurd cc

-- A `for` has a statement inside it.

abbrev IsMild : List Shape → Type 0
IsMild [] = ⊥
IsMild (leaf x ∷ ts) = is_for (kind_of x.kind) ≡ false
IsMild (node r f ∷ ts) = ⊤

mild_append : (t u : List Shape) → IsMild t → IsMild (t ++ u)
mild_append [] u h = absurd h
mild_append (leaf x ∷ ts) u h = h
mild_append (node r f ∷ ts) u h = tt

mild_first : {f : Phrase} {a : At} {t : List Shape} {ts rest : List Marked} → Is f a ts t rest → mild f ≡ true → IsMild t
mild_first (token {k} e m) h = ap is_for e ∙ not_so (is_for k) h
mild_first (sign e m) h = absurd cc
mild_first (side {y = block_side} (grouped d)) h = tt
mild_first (side {y = change_side} (grouped d)) h = tt
mild_first (side {y = place_side} (grouped d)) h = tt
mild_first (side {y} d) h = absurd cc
mild_first (both {t = t} {u = u} d e) h = mild_append t u (mild_first d h)
mild_first (left {f} {g} d) h = mild_first d (and_left (mild f) (mild g) h)
mild_first (right {f} {g} d) h = mild_first d (and_right (mild f) (mild g) h)
mild_first done h = absurd cc
mild_first (more d e) h = absurd cc
mild_first absent h = absurd cc
mild_first (present d) h = absurd cc
mild_first (ended x) h = absurd cc
mild_first (within d) h = mild_first d h
mild_first (counted d) h = mild_first d h
mild_first (grouped d) h = tt

either_one : (c : Rule → ℕ) (a b : Bool) (t u : List Shape) → (a ≡ true → 1 ≤ levels_of c t) → (b ≡ true → 1 ≤ levels_of c u) → (a || b) ≡ true → 1 ≤ levels_of c (t ++ u)
either_one c true b t u h i e = omega (arith, h refl, levels_append c t u)
either_one c false b t u h i e = omega (arith, i e, levels_append c t u)

heavy_levels : {f : Phrase} {a : At} {t : List Shape} {ts rest : List Marked} → Is f a ts t rest → heavy f ≡ true → 1 ≤ levels_of statement_in t
heavy_levels (token e m) h = absurd cc
heavy_levels (sign e m) h = absurd cc
heavy_levels (side {y = stmt_side} (grouped d)) h = omega arith
heavy_levels (side {y} d) h = absurd cc
heavy_levels (both {f} {g} {t = t} {u = u} d e) h = either_one statement_in (heavy f) (heavy g) t u (heavy_levels d) (heavy_levels e) h
heavy_levels (left {f} {g} d) h = heavy_levels d (and_left (heavy f) (heavy g) h)
heavy_levels (right {f} {g} d) h = heavy_levels d (and_right (heavy f) (heavy g) h)
heavy_levels done h = absurd cc
heavy_levels (more d e) h = absurd cc
heavy_levels absent h = absurd cc
heavy_levels (present d) h = absurd cc
heavy_levels (ended x) h = absurd cc
heavy_levels (within d) h = heavy_levels d h
heavy_levels (counted d) h = heavy_levels d h
heavy_levels (grouped {r} {t = t} d) h = omega (arith, heavy_levels d h, levels_forest statement_in t)

mild_starts : (t : List Shape) → IsMild t → starts_for (forest t) ≡ true → 1 ≤ levels_of statement_in t
mild_starts [] h e = absurd h
mild_starts (leaf x ∷ ts) h e = absurd (differ (sym h ∙ e))
  where
    differ : false ≡ true → ⊥
    differ x = cc
mild_starts (node r f ∷ ts) h e = absurd cc

one_of : (a b : Bool) (t : List Shape) → (a ≡ true → IsMild t) → (b ≡ true → 1 ≤ levels_of statement_in t) → (a || b) ≡ true → starts_for (forest t) ≡ true → 1 ≤ levels_of statement_in t
one_of true b t h i e s = mild_starts t (h refl) s
one_of false b t h i e s = i e

stated_levels : {f : Phrase} {a : At} {t : List Shape} {ts rest : List Marked} → stated f ≡ true → Is f a ts t rest → starts_for (forest t) ≡ true → 1 ≤ levels_of statement_in t
stated_levels {f = f ∣ g} h (left d) s = stated_levels (and_left (stated f) (stated g) h) d s
stated_levels {f = f ∣ g} h (right d) s = stated_levels (and_right (stated f) (stated g) h) d s
stated_levels {f} {t = t} h d s = one_of (mild f) (heavy f) t (mild_first d) (heavy_levels d) h s

-- What is read keeps the count of operators.

record Kept (n : ℕ) (a : At) (t : List Shape) (rest : List Marked) : Type 0 where
  m : ℕ
  few : m ≤ MOST_SOURCE_OPERATORS
  keeps : KeepLimits m rest
  count : a.inside ≡ true → m ≡ n + signs_of t
  fits : FitsAll t

own_fits : (i : Bool) (r : Rule) {f : Phrase} {a : At} {t : List Shape} {ts rest : List Marked} → own_sound i r f ≡ true → (i ≡ true → signs_of t ≤ MOST_SOURCE_OPERATORS) → Is f a ts t rest → OwnFits r (forest t)
own_fits i R.Unary {t = t} e few d = omega (arith, signs_forest t, few e)
own_fits i R.Binary {f} {t = t} e few d = (omega (arith, signs_forest t, few (and_left i (joins f) e)), joined_of (and_right i (joins f) e) d)
own_fits i R.Stmt {t = t} e few d = λ s. omega (arith, stated_levels e d s, levels_forest statement_in t)
own_fits i r e few d = tt

counted_if : (n : ℕ) (b c : Bool) → b ≡ true → (if b then (if c then n + 1 else n) else 0) ≡ n + (cond c 1 0 + 0)
counted_if n true true e = omega arith
counted_if n true false e = omega arith
counted_if n false c e = absurd cc

kept_token : (n : ℕ) (a : At) (x : Marked) (rest : List Marked) → x.at ≡ a → KeepLimits n (x ∷ rest) → Kept n a (leaf x.token ∷ []) rest
kept_token n a x rest e h = record {
  m = count_with n x;
  few = h.1;
  keeps = h.2;
  count = λ i. counted_if n x.at.inside (is_sign (kind_at x)) (ap (λ (b : At). b.inside) e ∙ i);
  fits = (tt, tt);
}

kept_none : (n : ℕ) (a : At) (rest : List Marked) → n ≤ MOST_SOURCE_OPERATORS → KeepLimits n rest → Kept n a [] rest
kept_none n a rest le h = record { m = n; few = le; keeps = h; count = λ i. omega arith; fits = tt }

kept_both : (n : ℕ) (a : At) (t u : List Shape) (mid rest : List Marked) → (k : Kept n a t mid) → Kept k.m a u rest → Kept n a (t ++ u) rest
kept_both n a t u mid rest k j = record {
  m = j.m;
  few = j.few;
  keeps = j.keeps;
  count = λ i. omega (arith, k.count i, j.count i, signs_append t u);
  fits = fits_append t u k.fits j.fits;
}

kept : {f : Phrase} {a : At} {t : List Shape} {ts rest : List Marked} → Is f a ts t rest → (n : ℕ) → sound a.inside f ≡ true → n ≤ MOST_SOURCE_OPERATORS → KeepLimits n ts → Kept n a t rest
kept (token {a = a} {x = x} {rest = rest} e m) n s le h = kept_token n a x rest m h
kept (sign {a = a} {x = x} {rest = rest} e m) n s le h = kept_token n a x rest m h
kept (side {y} {a} d) n s le h = kept d n (side_sound a.inside y s) le h
kept (both {f} {g} {a} {t} {u} {mid = mid} {rest = rest} d e) n s le h =
    let k = kept d n (and_left (sound a.inside f) (sound a.inside g) s) le h in
    kept_both n a t u mid rest k (kept e k.m (and_right (sound a.inside f) (sound a.inside g) s) k.few k.keeps)
kept (left {f} {g} {a} d) n s le h = kept d n (and_left (sound a.inside f) (sound a.inside g) s) le h
kept (right {f} {g} {a} d) n s le h = kept d n (and_right (sound a.inside f) (sound a.inside g) s) le h
kept (done {a = a} {ts = ts}) n s le h = kept_none n a ts le h
kept (more {f} {a} {t} {u} {mid = mid} {rest = rest} d e) n s le h =
    let k = kept d n s le h in
    kept_both n a t u mid rest k (kept e k.m s k.few k.keeps)
kept (absent {a = a} {ts = ts}) n s le h = kept_none n a ts le h
kept (present d) n s le h = kept d n s le h
kept (ended {a = a} {ts = ts} x) n s le h = kept_none n a ts le h
kept (within {a = a} d) n s le h =
    let k = kept d n s le h in
    record { m = k.m; few = k.few; keeps = k.keeps; count = k.count; fits = k.fits }
kept (counted {a = a} d) n s le h =
    let k = kept d n s le h in
    record { m = k.m; few = k.few; keeps = k.keeps; count = λ i. k.count refl; fits = k.fits }
kept (grouped {r} {f} {a} {t} d) n s le h =
    let body : (own_sound a.inside r f && sound a.inside f) ≡ true = and_right (reads f) _ s in
    let k = kept d n (and_right (own_sound a.inside r f) (sound a.inside f) body) le h in
    let own : own_sound a.inside r f ≡ true = and_left (own_sound a.inside r f) (sound a.inside f) body in
    record {
      m = k.m;
      few = k.few;
      keeps = k.keeps;
      count = λ i. omega (arith, k.count i, signs_forest t);
      fits = ((own_fits a.inside r own (λ i. omega (arith, k.count i, k.few)) d, fits_forest t k.fits), tt);
    }

pub fits_program : {ts : List Marked} {f : List Shape} → IsProgram ts f → KeepLimits 0 ts → FitsAll f
fits_program p h = (kept p 0 refl (omega arith) h).fits
