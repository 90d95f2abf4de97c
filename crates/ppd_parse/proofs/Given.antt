-- Parts of the parser's grammar that read tokens, whatever trees stand before.
use Rattle.std.proofs.Common.{◌≡◌, ◌≢◌, ℕ, Bool, true, false, ◌||◌, List, [], ◌∷◌, ◌++◌, length, refl, sym, ◌∙◌, ap, subst, append_assoc, append-nil}
use Rattle.std.proofs.lemmas.List.{map-append}
use Rattle.ppd_parse.specs.declared.token.Kind.{Kind}
use Rattle.ppd_parse.specs.declared.token.Kind.TheVariants as K
use Rattle.ppd_parse.specs.declared.symbol.Level.{Level}
use Rattle.ppd_parse.specs.declared.symbol.Level.TheVariants as L
use Rattle.ppd_parse.specs.declared.symbol.Rule.{Rule}
use Rattle.ppd_parse.specs.declared.symbol.Symbol.{Symbol}
use Rattle.ppd_parse.specs.declared.symbol.Symbol.TheVariants as S
use Rattle.ppd_parse.specs.declared.symbol.At.{At}
use Rattle.ppd_parse.specs.declared.symbol.Part.{Part}
use Rattle.ppd_parse.specs.declared.symbol.Part.TheVariants as P
use Rattle.ppd_parse.specs.declared.symbol.Want.TheVariants.{Get, Close}
use Rattle.ppd_parse.specs.Grammar.{Shape, leaf, node, forest, close, Marked, kind_at, is_operator, deeper, Production, parts, Stands, MayStand, want_in, wants_in, base_in, Reads, ReadsAll, exact, wrap, by, nothing, next}
use Rattle.ppd_parse.proofs.Usual.{close_front}
use Rattle.ppd_parse.proofs.Unfolded.{join}

abbrev pub Gives : Symbol → At → List Marked → List Shape → List Marked → Type 0
Gives y a ts t rest = (s : List Shape) (b : ℕ) → Reads (Get y a b) s ts (s ++ t) rest

pub data Given (a : At) (p : Part) (ts : List Marked) (t : List Shape) (rest : List Marked) : Type 0 where
  given : ((s : List Shape) (b : ℕ) → Reads (want_in a b p) s ts (s ++ t) rest) → Given a p ts t rest

pub data Rows (a : At) (ps : List Part) (ts : List Marked) (t : List Shape) (rest : List Marked) : Type 0 where
  rows : ((s : List Shape) (b : ℕ) → ReadsAll (wants_in a b ps) s ts (s ++ t) rest) → Rows a ps ts t rest

pub here : {y : Symbol} {a : At} {ts rest : List Marked} {t : List Shape} → Gives y a ts t rest → Given a (P.Here y) ts t rest
here g = given g

pub below : {y : Symbol} {a : At} {ts rest : List Marked} {t : List Shape} → Gives y (deeper a) ts t rest → Given a (P.Deeper y) ts t rest
below g = given g

pub token_here : {k : Kind} {a : At} {x : Marked} {rest : List Marked} → kind_at x ≡ k → x.at ≡ a → Given a (P.Here (S.Exact k)) (x ∷ rest) (leaf x.token ∷ []) rest
token_here e m = given (λ s b. exact e m)

pub token_below : {k : Kind} {a : At} {x : Marked} {rest : List Marked} → kind_at x ≡ k → x.at ≡ deeper a → Given a (P.Deeper (S.Exact k)) (x ∷ rest) (leaf x.token ∷ []) rest
token_below e m = given (λ s b. exact e m)

pub one : {a : At} {p : Part} {ts rest : List Marked} {t : List Shape} → Given a p ts t rest → Rows a (p ∷ []) ts t rest
one (given g) = rows (λ s b. next (g s b) nothing)

pub cons : {a : At} {p : Part} {ps : List Part} {ts mid rest : List Marked} {t u : List Shape} → Given a p ts t mid → Rows a ps mid u rest → Rows a (p ∷ ps) ts (t ++ u) rest
cons {a} {p} {ps} {ts} {rest = rest} {t = t} {u = u} (given g) (rows h) = rows (λ s b. subst (λ z. ReadsAll (wants_in a b (p ∷ ps)) s ts z rest) (append_assoc s t u) (next (g s b) (h (s ++ t) b)))

pub rows_as : {a : At} {ps : List Part} {ts rest : List Marked} {t u : List Shape} → t ≡ u → Rows a ps ts t rest → Rows a ps ts u rest
rows_as {a} {ps} {ts} {rest} e h = subst (λ z. Rows a ps ts z rest) e h

-- parts after parts
pub join_rows : {a : At} {ps qs : List Part} {ts mid rest : List Marked} {t u : List Shape} → Rows a ps ts t mid → Rows a qs mid u rest → Rows a (ps ++ qs) ts (t ++ u) rest
join_rows {a} {ps} {qs} {ts} {rest = rest} {t = t} {u = u} (rows g) (rows h) =
    rows (λ s b. subst (λ ws. ReadsAll ws s ts (s ++ (t ++ u)) rest) (sym (map-append (want_in a b) ps qs)) (subst (λ z. ReadsAll (wants_in a b ps ++ wants_in a b qs) s ts z rest) (append_assoc s t u) (join (g s b) (h (s ++ t) b))))

-- the first two belong together
pub cons_two : {a : At} {p q : Part} {ps : List Part} {ts mid more rest : List Marked} {t u v : List Shape} → Given a p ts t mid → Given a q mid u more → Rows a ps more v rest → Rows a (p ∷ q ∷ ps) ts ((t ++ u) ++ v) rest
cons_two g h r = join_rows (cons g (one h)) r

-- the first three belong together
pub cons_three : {a : At} {p q r : Part} {ps : List Part} {ts low high more rest : List Marked} {t u v w : List Shape} → Given a p ts t low → Given a q low u high → Given a r high v more → Rows a ps more w rest → Rows a (p ∷ q ∷ r ∷ ps) ts ((t ++ (u ++ v)) ++ w) rest
cons_three g h i r = join_rows (cons g (cons h (one i))) r

pub free : {y : Symbol} (p : Production y) → ((k : Kind) → Stands p k) → (ts : List Marked) → MayStand p ts
free p h [] = tt
free p h (x ∷ ts) = h (kind_at x)

-- a symbol without a node of its own
pub plain_by : {y : Symbol} (p : Production y) {a : At} {ts rest : List Marked} {t : List Shape} → MayStand p ts → Rows a (parts p) ts t rest → Gives y a ts t rest
plain_by {y} p m (rows h) s b = by p m (h s (base_in y b (length s)))

pub nothing_by : {y : Symbol} (p : Production y) {a : At} {ts : List Marked} → parts p ≡ [] → MayStand p ts → Gives y a ts [] ts
nothing_by {y} p {a} {ts} e m s b = subst (λ z. Reads (Get y a b) s ts z ts) (sym (append-nil s)) (by p m (subst (λ ps. ReadsAll (wants_in a (base_in y b (length s)) ps) s ts s ts) (sym e) nothing))

-- parts that end with their node, from trees of the construct on
pub close_rows : (r : Rule) {a : At} {ps : List Part} {ts rest : List Marked} {t : List Shape} → Rows a ps ts t rest → (s got : List Shape) → ReadsAll (wants_in a (length s) (ps ++ P.Wrap r ∷ [])) (s ++ got) ts (s ++ node r (forest (got ++ t)) ∷ []) rest
close_rows r {a} {ps} {ts} {rest} {t} (rows h) s got =
    let whole : close r (length s) ((s ++ got) ++ t) ≡ s ++ node r (forest (got ++ t)) ∷ [] = ap (close r (length s)) (append_assoc s got t) ∙ close_front r s (got ++ t) in
    subst (λ ws. ReadsAll ws (s ++ got) ts (s ++ node r (forest (got ++ t)) ∷ []) rest) (sym (map-append (want_in a (length s)) ps (P.Wrap r ∷ [])))
    (subst (λ z. ReadsAll (wants_in a (length s) ps ++ Close r (length s) ∷ []) (s ++ got) ts z rest) whole (join (h (s ++ got) (length s)) (next wrap nothing)))

pub close_own : (r : Rule) {a : At} {ps : List Part} {ts rest : List Marked} {t : List Shape} → Rows a ps ts t rest → (s : List Shape) → ReadsAll (wants_in a (length s) (ps ++ P.Wrap r ∷ [])) s ts (s ++ node r (forest t) ∷ []) rest
close_own r {a} {ps} {ts} {rest} {t} h s = subst (λ u. ReadsAll (wants_in a (length s) (ps ++ P.Wrap r ∷ [])) u ts (s ++ node r (forest t) ∷ []) rest) (append-nil s) (close_rows r h s [])

-- a symbol with a node of its own
pub node_by : {y : Symbol} (p : Production y) (r : Rule) (ps : List Part) {a : At} {ts rest : List Marked} {t : List Shape} → parts p ≡ ps ++ P.Wrap r ∷ [] → ((b n : ℕ) → base_in y b n ≡ n) → MayStand p ts → Rows a ps ts t rest → Gives y a ts (node r (forest t) ∷ []) rest
node_by {y} p r ps {a} {ts} {rest} {t} e own m h s b =
    by p m (subst (λ n. ReadsAll (wants_in a n (parts p)) s ts (s ++ node r (forest t) ∷ []) rest) (sym (own b (length s))) (subst (λ qs. ReadsAll (wants_in a (length s) qs) s ts (s ++ node r (forest t) ∷ []) rest) (sym e) (close_own r h s)))

-- ---- what is next

-- the next token, if there is one, is none of these
abbrev pub Next : (Kind → Bool) → List Marked → Type 0
Next p [] = Unit {0}
Next p (x ∷ ts) = p (kind_at x) ≡ false

pub next_kind : (p : Kind → Bool) {k j : Kind} → k ≡ j → p j ≡ false → p k ≡ false
next_kind p e f = ap p e ∙ f

pub is_not : (p : Kind → Bool) (k j : Kind) → p j ≡ true → p k ≡ false → k ≢ j
is_not p k j t f = λ e. absurd (different (sym f ∙ (ap p e ∙ t)))
  where
    different : false ≡ true → ⊥
    different e = cc

pub other_kind : {k j i : Kind} → k ≡ j → j ≢ i → k ≢ i
other_kind e n = λ d. n (sym e ∙ d)

abbrev pub is_opening : Kind → Bool
is_opening K.LeftBracket = true
is_opening K.LeftParen = true
is_opening _ = false

abbrev pub binds_sum : Kind → Bool
binds_sum k = is_operator L.Product k || is_opening k

abbrev pub binds_compare : Kind → Bool
binds_compare k = is_operator L.Sum k || binds_sum k

abbrev pub binds_equal : Kind → Bool
binds_equal k = is_operator L.Compare k || binds_compare k

abbrev pub binds_and : Kind → Bool
binds_and k = is_operator L.Equal k || binds_equal k

abbrev pub binds_or : Kind → Bool
binds_or k = is_operator L.And k || binds_and k

-- what an operand of the level goes on with
abbrev pub binds : Level → Kind → Bool
binds L.Product k = is_opening k
binds L.Sum k = binds_sum k
binds L.Compare k = binds_compare k
binds L.Equal k = binds_equal k
binds L.And k = binds_and k
binds L.Or k = binds_or k

-- what an expression goes on with
abbrev pub goes : Kind → Bool
goes k = is_operator L.Or k || binds L.Or k

abbrev pub Calm : List Marked → Type 0
Calm ts = Next goes ts

left_false : (b c : Bool) → (b || c) ≡ false → b ≡ false
left_false true c e = e
left_false false c e = refl

right_false : (b c : Bool) → (b || c) ≡ false → c ≡ false
right_false true c e = cc
right_false false c e = e

pub next_left : (p q : Kind → Bool) (ts : List Marked) → Next (λ k. p k || q k) ts → Next p ts
next_left p q [] h = tt
next_left p q (x ∷ ts) h = left_false (p (kind_at x)) (q (kind_at x)) h

pub next_right : (p q : Kind → Bool) (ts : List Marked) → Next (λ k. p k || q k) ts → Next q ts
next_right p q [] h = tt
next_right p q (x ∷ ts) h = right_false (p (kind_at x)) (q (kind_at x)) h

pub binds_operator : (l : Level) (k : Kind) → is_operator l k ≡ true → binds l k ≡ false
binds_operator L.Product K.StarMark e = refl
binds_operator L.Product K.SlashMark e = refl
binds_operator L.Product K.PercentMark e = refl
binds_operator L.Sum K.PlusMark e = refl
binds_operator L.Sum K.MinusMark e = refl
binds_operator L.Compare K.LessMark e = refl
binds_operator L.Compare K.AtMostMark e = refl
binds_operator L.Compare K.MoreMark e = refl
binds_operator L.Compare K.AtLeastMark e = refl
binds_operator L.Equal K.EqualMark e = refl
binds_operator L.Equal K.UnequalMark e = refl
binds_operator L.And K.AndMark e = refl
binds_operator L.Or K.OrMark e = refl
binds_operator _ _ e = cc
