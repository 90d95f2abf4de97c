-- What parts of the parser's grammar make of the trees of their construct.
use Rattle.std.proofs.Common.{◌≡◌, ◌+◌, ◌-◌, ℕ, Bool, true, false, cond, List, [], ◌∷◌, ◌++◌, length, refl, sym, ◌∙◌, ap, subst, append_assoc, append-nil, arith}
use Rattle.std.proofs.lemmas.List.{length-append}
use Rattle.ppd_parse.specs.declared.token.Kind.TheVariants as K
use Rattle.ppd_parse.specs.declared.symbol.Rule.{Rule}
use Rattle.ppd_parse.specs.declared.symbol.Rule.TheVariants as R
use Rattle.ppd_parse.specs.declared.symbol.Symbol.{Symbol}
use Rattle.ppd_parse.specs.declared.symbol.Symbol.TheVariants as S
use Rattle.ppd_parse.specs.declared.symbol.At.{At}
use Rattle.ppd_parse.specs.declared.symbol.Part.{Part}
use Rattle.ppd_parse.specs.declared.symbol.Part.TheVariants as P
use Rattle.ppd_parse.specs.declared.symbol.Want.TheVariants.{Get, Close}
use Rattle.ppd_parse.specs.Grammar.{Shape, node, forest, close, Marked, deeper, inside, want_in, wants_in}
use Rattle.ppd_parse.specs.Language.{Phrase, word, Is}
use Rattle.ppd_parse.proofs.Usual.{Manner, plain, later, manner, Rest, Out, out, Closed, closed, Goes, MeansBy, Means, MeansAll, last, then, close_front, first_plain, others_plain}

pub data Grown (f : Phrase) (a : At) (got : List Shape) (ts : List Marked) : List Shape → List Marked → Type 0 where
  grown : {new : List Shape} {rest : List Marked} → Is f a ts new rest → Grown f a got ts (got ++ new) rest

pub data Wrapped (r : Rule) (got : List Shape) (ts : List Marked) : List Shape → List Marked → Type 0 where
  wrapped : Wrapped r got ts (node r (forest got) ∷ []) ts

abbrev pub RunBy : Manner → Symbol → At → List Shape → List Marked → List Shape → List Marked → Type 0
RunBy (plain f) y a got ts new rest = Grown f a got ts new rest
RunBy later y a got ts new rest = Rest y a got ts new rest

abbrev pub RunPart : At → Part → List Shape → List Marked → List Shape → List Marked → Type 0
RunPart a (P.Here y) got ts new rest = RunBy (manner y) y a got ts new rest
RunPart a (P.Deeper y) got ts new rest = RunBy (manner y) y (deeper a) got ts new rest
RunPart a (P.Inside y) got ts new rest = RunBy (manner y) y (inside a) got ts new rest
RunPart a (P.Wrap r) got ts new rest = Wrapped r got ts new rest
RunPart a (P.WrapBack r) got ts new rest = ⊥

-- the trees of a construct, as parts of its production are read
pub data Run (a : At) : List Part → List Shape → List Marked → List Shape → List Marked → Type 0 where
  stop : {got : List Shape} {ts : List Marked} → Run a [] got ts got ts
  part : {p : Part} {ps : List Part} {got new all : List Shape} {ts mid rest : List Marked} → RunPart a p got ts new mid → Run a ps new mid all rest → Run a (p ∷ ps) got ts all rest

abbrev pub is_rest : Symbol → Bool
is_rest (S.Chain l) = true
is_rest S.ExprRest = true
is_rest S.NamedRest = true
is_rest S.StmtRest = true
is_rest _ = false

abbrev pub runs_by : Manner → Symbol → Bool
runs_by (plain f) y = true
runs_by later y = is_rest y

abbrev pub runs_part : Part → Bool
runs_part (P.Here y) = runs_by (manner y) y
runs_part (P.Deeper y) = runs_by (manner y) y
runs_part (P.Inside y) = runs_by (manner y) y
runs_part (P.Wrap r) = true
runs_part (P.WrapBack r) = false

abbrev pub runs : List Part → Bool
runs [] = true
runs (p ∷ ps) = cond (runs_part p) (runs ps) false

goes_on : (y : Symbol) (a : At) {b : ℕ} {s t : List Shape} (ts rest : List Marked) → is_rest y ≡ true → Goes y a b s ts t rest → (front got : List Shape) → s ≡ front ++ got → b ≡ length front → Out front (λ new. Rest y a got ts new rest) t
goes_on (S.Chain l) a ts rest e h = h
goes_on S.ExprRest a ts rest e h = h
goes_on S.NamedRest a ts rest e h = h
goes_on S.StmtRest a ts rest e h = h
goes_on _ a ts rest e h = cc

grown_out : {f : Phrase} {a : At} {s t : List Shape} {ts rest : List Marked} (front got : List Shape) → s ≡ front ++ got → Out s (λ new. Is f a ts new rest) t → Out front (λ new. Grown f a got ts new rest) t
grown_out {f} {a} {ts = ts} {rest = rest} front got e (out {new = new} d) = subst (Out front (λ z. Grown f a got ts z rest)) (sym (ap (λ u. u ++ new) e ∙ append_assoc front got new)) (out (grown d))

run_by : (m : Manner) (y : Symbol) (a : At) {b : ℕ} {s t : List Shape} (ts rest : List Marked) (front got : List Shape) → runs_by m y ≡ true → s ≡ front ++ got → b ≡ length front → MeansBy m y a b s ts t rest → Out front (λ new. RunBy m y a got ts new rest) t
run_by (plain f) y a ts rest front got c e eb h = grown_out front got e h
run_by later y a ts rest front got c e eb h = goes_on y a ts rest c h front got e eb

run_part : (p : Part) (a : At) (b : ℕ) {s t : List Shape} (ts rest : List Marked) (front got : List Shape) → runs_part p ≡ true → s ≡ front ++ got → b ≡ length front → Means (want_in a b p) s ts t rest → Out front (λ new. RunPart a p got ts new rest) t
run_part (P.Here y) a b ts rest front got c e eb h = run_by (manner y) y a ts rest front got c e eb h
run_part (P.Deeper y) a b ts rest front got c e eb h = run_by (manner y) y (deeper a) ts rest front got c e eb h
run_part (P.Inside y) a b ts rest front got c e eb h = run_by (manner y) y (inside a) ts rest front got c e eb h
run_part (P.Wrap r) a b {s} ts rest front got c e eb h = closing h
  where
    closing : {t : List Shape} {rest : List Marked} → Closed r b s ts t rest → Out front (λ new. Wrapped r got ts new rest) t
    closing closed = subst (Out front (λ z. Wrapped r got ts z ts)) (sym (ap (λ n. close r n s) eb ∙ (ap (close r (length front)) e ∙ close_front r front got))) (out wrapped)
run_part (P.WrapBack r) a b ts rest front got c e eb h = cc

joined : {a : At} {p : Part} {ps : List Part} {front got new u : List Shape} {ts mid rest : List Marked} → RunPart a p got ts new mid → Out front (λ all. Run a ps new mid all rest) u → Out front (λ all. Run a (p ∷ ps) got ts all rest) u
joined r (out rs) = out (part r rs)

led : {a : At} {p : Part} {ps : List Part} {front got t u : List Shape} {ts mid rest : List Marked} → Out front (λ new. RunPart a p got ts new mid) t → ((new : List Shape) → t ≡ front ++ new → Out front (λ all. Run a ps new mid all rest) u) → Out front (λ all. Run a (p ∷ ps) got ts all rest) u
led (out {new = new} r) k = joined r (k new refl)

-- from the trees of a construct on
pub walk : (a : At) (b : ℕ) (ps : List Part) (front got : List Shape) {s t : List Shape} {ts rest : List Marked} → runs ps ≡ true → s ≡ front ++ got → b ≡ length front → MeansAll (wants_in a b ps) s ts t rest → Out front (λ all. Run a ps got ts all rest) t
walk a b [] front got {ts = ts} c e eb last = subst (Out front (λ all. Run a [] got ts all ts)) (sym e) (out stop)
walk a b (p ∷ ps) front got {ts = ts} c e eb (then {mid = mid} h hs) =
    led (run_part p a b ts mid front got (first_plain (runs_part p) (runs ps) c) e eb h) (λ new d. walk a b ps front new (others_plain (runs_part p) (runs ps) c) d eb hs)

pub mapped : {s t : List Shape} {F G : List Shape → Type 0} → ((new : List Shape) → F new → G new) → Out s F t → Out s G t
mapped h (out d) = out (h _ d)

-- a construct of its own
pub walk_own : (a : At) (ps : List Part) {s t : List Shape} {ts rest : List Marked} → runs ps ≡ true → MeansAll (wants_in a (length s) ps) s ts t rest → Out s (λ all. Run a ps [] ts all rest) t
walk_own a ps {s} c h = walk a (length s) ps s [] c (sym (append-nil s)) refl h

-- ---- back to the place of an assignment, and its mark

pub data EndedAnswer (F : List Shape → Type 0) (held : List Shape) (a : At) (mid rest : List Marked) : List Shape → Type 0 where
  ended_answer : {n z : List Shape} → F n → Is (word K.Semicolon) a mid z rest → EndedAnswer F held a mid rest (node R.Stmt (forest (held ++ (n ++ z))) ∷ [])

pub data EndedChange (F : List Shape → Type 0) (held : List Shape) (a : At) (mid rest : List Marked) : List Shape → Type 0 where
  ended_change : {n z : List Shape} → F n → Is (word K.Semicolon) a mid z rest → EndedChange F held a mid rest (node R.Stmt (forest (node R.Change (forest (held ++ n)) ∷ z)) ∷ [])

back_to : (front held : List Shape) (b : ℕ) → b ≡ length (front ++ held) → length held ≡ 2 → b - 2 ≡ length front
back_to front held b e two = let l : length (front ++ held) ≡ length front + length held = length-append front held in omega (arith, e, two, l)

close_back : (r : Rule) (front held new : List Shape) (b : ℕ) → b ≡ length (front ++ held) → length held ≡ 2 → close r (b - 2) ((front ++ held) ++ new) ≡ front ++ node r (forest (held ++ new)) ∷ []
close_back r front held new b e two = ap (λ n. close r n ((front ++ held) ++ new)) (back_to front held b e two) ∙ (ap (close r (length front)) (append_assoc front held new) ∙ close_front r front (held ++ new))

pub closed_answer : (front held n z : List Shape) (b : ℕ) → b ≡ length (front ++ held) → length held ≡ 2 → close R.Stmt (b - 2) (((front ++ held) ++ n) ++ z) ≡ front ++ node R.Stmt (forest (held ++ (n ++ z))) ∷ []
closed_answer front held n z b e two = ap (close R.Stmt (b - 2)) (append_assoc (front ++ held) n z) ∙ close_back R.Stmt front held (n ++ z) b e two

pub closed_change : (front held n z : List Shape) (b : ℕ) → b ≡ length (front ++ held) → length held ≡ 2 → close R.Stmt (b - 2) (close R.Change (b - 2) ((front ++ held) ++ n) ++ z) ≡ front ++ node R.Stmt (forest (node R.Change (forest (held ++ n)) ∷ z)) ∷ []
closed_change front held n z b e two =
    let c1 : Shape = node R.Change (forest (held ++ n)) in
    let change : close R.Change (b - 2) ((front ++ held) ++ n) ≡ front ++ c1 ∷ [] = close_back R.Change front held n b e two in
    let all : close R.Change (b - 2) ((front ++ held) ++ n) ++ z ≡ front ++ (c1 ∷ z) = ap (λ u. u ++ z) change ∙ append_assoc front (c1 ∷ []) z in
    let stmt : close R.Stmt (length front) (front ++ (c1 ∷ z)) ≡ front ++ node R.Stmt (forest (c1 ∷ z)) ∷ [] = close_front R.Stmt front (c1 ∷ z) in
    ap (λ k. close R.Stmt k (close R.Change (b - 2) ((front ++ held) ++ n) ++ z)) (back_to front held b e two) ∙ (ap (close R.Stmt (length front)) all ∙ stmt)

closing_last : (G : List Marked → List Shape → Type 0) {r : Rule} {b : ℕ} {front t u : List Shape} {mid rest : List Marked} (all : List Shape) → close r b t ≡ front ++ all → G mid all → MeansAll (Close r b ∷ []) t mid u rest → Out front (G rest) u
closing_last G {front = front} {mid = mid} all e g (then closed last) = subst (Out front (G mid)) (sym e) (out g)

pub back_answer : {F : List Shape → Type 0} {a : At} {b : ℕ} {t u : List Shape} {mid rest : List Marked} (front held : List Shape) → b ≡ length (front ++ held) → length held ≡ 2 → Out (front ++ held) F t → MeansAll (Get (S.Exact K.Semicolon) a b ∷ Close R.Stmt (b - 2) ∷ []) t mid u rest → Out front (EndedAnswer F held a mid rest) u
back_answer {F} {a} {b} {mid = mid} front held e two (out {new = n} d) (then (out {new = z} x) hs) =
    closing_last (λ rest. EndedAnswer F held a mid rest) (node R.Stmt (forest (held ++ (n ++ z))) ∷ []) (closed_answer front held n z b e two) (ended_answer d x) hs

pub back_change : {F : List Shape → Type 0} {a : At} {b : ℕ} {t u : List Shape} {mid rest : List Marked} (front held : List Shape) → b ≡ length (front ++ held) → length held ≡ 2 → Out (front ++ held) F t → MeansAll (Close R.Change (b - 2) ∷ Get (S.Exact K.Semicolon) a b ∷ Close R.Stmt (b - 2) ∷ []) t mid u rest → Out front (EndedChange F held a mid rest) u
back_change {F} {a} {b} {mid = mid} front held e two (out {new = n} d) (then closed (then (out {new = z} x) hs)) =
    closing_last (λ rest. EndedChange F held a mid rest) (node R.Stmt (forest (node R.Change (forest (held ++ n)) ∷ z)) ∷ []) (closed_change front held n z b e two) (ended_change d x) hs
