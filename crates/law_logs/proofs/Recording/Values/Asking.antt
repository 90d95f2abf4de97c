-- What an expression comes to has 64 bits, where its constants, cells and answers have.
use Rattle.std.proofs.Common.{◌≡◌, ℕ, zero, suc, ◌<◌, ◌≤◌, ◌^◌, ℤ, pos, negsuc, neg_ℤ, true, false, Bool, List, [], ◌∷◌, ◌++◌, Ok, Err, refl, get_or, arith, w64, true≢false, if◌then◌else◌}
use Rattle.std.specs.Prelude.{◌+ℤ◌, ◌-ℤ◌, ◌*ℤ◌, int_div, int_rem, int_lt, int_le, unsigned_abs, not as negated, Result, ⊤}
use Rattle.std.specs.Ordering.{int_eq}
use Rattle.std.proofs.lemmas.Bool.Decides.{nat_tests}
use Rattle.std.proofs.lemmas.Int.{fits_signed_from_abs, rem_below}
use Rattle.ppd_ast.specs.declared.program.Expr.{Expr}
use Rattle.ppd_ast.specs.declared.program.Expr.TheVariants.{Const, Local, LocalAt, Shared, SharedAt, Neg, Not, Two, And, Or}
use Rattle.ppd_ast.specs.declared.program.Op.{Op}
use Rattle.ppd_ast.specs.declared.program.Op.TheVariants as op
use Rattle.ppd_ast.specs.declared.status.Trap.{Trap}
use Rattle.ppd_ast.specs.declared.status.Trap.TheVariants as trap
use Rattle.ppd_ast.specs.Term.{Term, node, term, term_at, terms}
use Rattle.ppd_ast.specs.Term as T
use Rattle.ppd_ast.proofs.Vocabulary.{terms_after}
use Rattle.ppd_sem.specs.Ask.{ask, calc, checked, element, is_in_64_bits, truth}
use Rattle.ppd_sem.specs.Asked.{Asked, and_then, gives, lift, read_shared}
use Rattle.ppd_sem.proofs.Arithmetic.{fits-true}
use Rattle.law_logs.specs.Recording.Values.{IsConstantOf64Bits}
use Rattle.law_logs.proofs.Recording.Fit.{All, Fit}
use Rattle.law_logs.proofs.Recording.Terms.{TermFits}
use Rattle.ppd_sem.proofs.EventWords.{divided}

-- ---- the terms of a table

pub AreFit : List Term → Type 0
AreFit ts = (i : ℕ) → TermFits (term_at ts i)

pub fit_end : AreFit []
unfolding AreFit
fit_end i = refl

pub fit_cons : (t : Term) (ts : List Term) → TermFits t → AreFit ts → AreFit (t ∷ ts)
unfolding AreFit
fit_cons t ts h hs zero = h
fit_cons t ts h hs (suc i) = hs i

pub fit_snoc : (ts : List Term) (t : Term) → AreFit ts → TermFits t → AreFit (ts ++ t ∷ [])
unfolding AreFit
fit_snoc [] t hs h = fit_cons t [] h fit_end
fit_snoc (x ∷ ts) t hs h = fit_cons x (ts ++ t ∷ []) (hs 0) (fit_snoc ts t (λ i. hs (suc i)) h)

pub fit_node : (ts : List Term) (e : Expr) → AreFit ts → IsConstantOf64Bits e → TermFits (node ts e)
unfolding AreFit
fit_node ts (Const v) hs h = fits-true v h
fit_node ts (Local c) hs h = tt
fit_node ts (LocalAt base len i) hs h = hs i
fit_node ts (Shared c) hs h = tt
fit_node ts (SharedAt base len i) hs h = hs i
fit_node ts (Neg a) hs h = hs a
fit_node ts (Not a) hs h = hs a
fit_node ts (Two o a b) hs h = (hs a, hs b)
fit_node ts (And a b) hs h = (hs a, hs b)
fit_node ts (Or a b) hs h = (hs a, hs b)

pub fit_after : (before : List Term) (es : List Expr) → AreFit before → All IsConstantOf64Bits es → AreFit (terms_after before es)
fit_after before [] hs h = hs
fit_after before (e ∷ es) hs h = fit_after (before ++ node before e ∷ []) es (fit_snoc before (node before e) hs (fit_node before e hs h.0)) h.1

pub table_fits : (es : List Expr) (i : ℕ) → All IsConstantOf64Bits es → TermFits (term es i)
unfolding terms AreFit
table_fits es i h = fit_after [] es fit_end h i

-- ---- what is asked

abbrev pub AskedFits : {A : Type 0} → (A → Type 0) → Asked A → Type 0
AskedFits P (Ok p) = P p.0 × All Fit p.1
AskedFits P (Err e) = ⊤

abbrev pub GivenFits : {A : Type 0} → (A → Type 0) → Result A Trap → Type 0
GivenFits P (Ok x) = P x
GivenFits P (Err e) = ⊤

pub then_fits : {A B : Type 0} (P : A → Type 0) (Q : B → Type 0) (r : Asked A) (next : A → List ℤ → Asked B) → AskedFits P r
    → ((x : A) (left : List ℤ) → P x → All Fit left → AskedFits Q (next x left)) → AskedFits Q (and_then r next)
then_fits P Q (Ok p) next h go = go p.0 p.1 h.0 h.1
then_fits P Q (Err e) next h go = tt

pub lift_fits : {A : Type 0} (P : A → Type 0) (left : List ℤ) (r : Result A Trap) → All Fit left → GivenFits P r → AskedFits P (lift left r)
lift_fits P left (Ok x) h g = (g, h)
lift_fits P left (Err e) h g = tt

pub get_fits : (vs : List ℤ) (i : ℕ) → All Fit vs → Fit (get_or vs i (pos 0))
get_fits [] i h = refl
get_fits (v ∷ vs) zero h = h.0
get_fits (v ∷ vs) (suc i) h = get_fits vs i h.1

pub read_fits : (answers : List ℤ) (c : ℕ) → All Fit answers → AskedFits Fit (read_shared answers c)
read_fits [] c h = tt
read_fits (v ∷ left) c h = (h.0, h.1)

pub truth_fits : (b : Bool) → Fit (truth b)
truth_fits true = refl
truth_fits false = refl

pub checked_fits : (x : ℤ) → GivenFits Fit (checked x)
checked_fits x = by (is_in_64_bits x) refl
  where
    by : (b : Bool) → is_in_64_bits x ≡ b → GivenFits Fit (if b then Ok x else Err trap.Overflow)
    by true e = e
    by false e = tt

pub divided_fits : (x y z : ℤ) → (int_eq y (pos 0) ≡ false → is_in_64_bits (int_div x y) ≡ true → Fit z) → GivenFits Fit (divided x y z)
divided_fits x y z h = by (int_eq y (pos 0)) (is_in_64_bits (int_div x y)) refl refl
  where
    by : (a b : Bool) → int_eq y (pos 0) ≡ a → is_in_64_bits (int_div x y) ≡ b → GivenFits Fit (if a then Err trap.Zero else if b then Ok z else Err trap.Overflow)
    by true b e f = tt
    by false true e f = h e f
    by false false e f = tt

pub abs_most : (y : ℤ) → Fit y → unsigned_abs y ≤ 2 ^ 63
abs_most (pos n) h = grind (arith, nat_tests)
abs_most (negsuc n) h = grind (arith, nat_tests)

pub abs_some : (y : ℤ) → int_eq y (pos 0) ≡ false → 0 < unsigned_abs y
abs_some (pos zero) e = absurd (true≢false e)
abs_some (pos (suc n)) e = omega arith
abs_some (negsuc n) e = omega arith

pub rest_fits : (x y : ℤ) → Fit y → int_eq y (pos 0) ≡ false → Fit (int_rem x y)
rest_fits x y h e =
    let less : unsigned_abs (int_rem x y) < unsigned_abs y = rem_below x y (abs_some y e) in
    let most : unsigned_abs y ≤ 2 ^ 63 = abs_most y h in
    let below : unsigned_abs (int_rem x y) < 2 ^ 63 = omega (arith, less, most) in
    fits-true (int_rem x y) (fits_signed_from_abs w64 (int_rem x y) below)

pub calc_fits : (o : Op) (x y : ℤ) → Fit x → Fit y → GivenFits Fit (calc o x y)
calc_fits op.Mul x y h k = checked_fits (x *ℤ y)
calc_fits op.Div x y h k = divided_fits x y (int_div x y) (λ e f. f)
calc_fits op.Rem x y h k = divided_fits x y (int_rem x y) (λ e f. rest_fits x y k e)
calc_fits op.Add x y h k = checked_fits (x +ℤ y)
calc_fits op.Sub x y h k = checked_fits (x -ℤ y)
calc_fits op.Lt x y h k = truth_fits (int_lt x y)
calc_fits op.Le x y h k = truth_fits (int_le x y)
calc_fits op.Gt x y h k = truth_fits (int_lt y x)
calc_fits op.Ge x y h k = truth_fits (int_le y x)
calc_fits op.Eq x y h k = truth_fits (int_eq x y)
calc_fits op.Ne x y h k = truth_fits (negated (int_eq x y))

pub any_given : {A : Type 0} (r : Result A Trap) → GivenFits (λ (x : A). ⊤) r
any_given (Ok x) = tt
any_given (Err e) = tt

pub either_fits : {A : Type 0} (P : A → Type 0) (b : Bool) (r s : Asked A) → AskedFits P r → AskedFits P s → AskedFits P (if b then r else s)
either_fits P true r s h k = h
either_fits P false r s h k = k

pub ask_fits : (t : Term) (cells answers : List ℤ) → TermFits t → All Fit cells → All Fit answers → AskedFits Fit (ask t cells answers)
ask_fits (T.const v) cells answers h c a = (h, a)
ask_fits (T.local i) cells answers h c a = (get_fits cells i c, a)
ask_fits (T.local_at base len i) cells answers h c a =
    then_fits Fit Fit (ask i cells answers) _ (ask_fits i cells answers h c a) (λ at left f l.
    then_fits (λ (n : ℕ). ⊤) Fit (lift left (element base len at)) _ (lift_fits (λ (n : ℕ). ⊤) left (element base len at) l (any_given (element base len at))) (λ n left' g l'. (get_fits cells n c, l')))
ask_fits (T.shared i) cells answers h c a = read_fits answers i a
ask_fits (T.shared_at base len i) cells answers h c a =
    then_fits Fit Fit (ask i cells answers) _ (ask_fits i cells answers h c a) (λ at left f l.
    then_fits (λ (n : ℕ). ⊤) Fit (lift left (element base len at)) _ (lift_fits (λ (n : ℕ). ⊤) left (element base len at) l (any_given (element base len at))) (λ n left' g l'. read_fits left' n l'))
ask_fits (T.neg x) cells answers h c a =
    then_fits Fit Fit (ask x cells answers) _ (ask_fits x cells answers h c a) (λ v left f l. lift_fits Fit left (checked (neg_ℤ v)) l (checked_fits (neg_ℤ v)))
ask_fits (T.not x) cells answers h c a = then_fits Fit Fit (ask x cells answers) _ (ask_fits x cells answers h c a) (λ v left f l. (truth_fits (int_eq v (pos 0)), l))
ask_fits (T.two o x y) cells answers h c a =
    then_fits Fit Fit (ask x cells answers) _ (ask_fits x cells answers h.0 c a) (λ v left f l.
    then_fits Fit Fit (ask y cells left) _ (ask_fits y cells left h.1 c l) (λ u left' g l'. lift_fits Fit left' (calc o v u) l' (calc_fits o v u f g)))
ask_fits (T.and x y) cells answers h c a =
    then_fits Fit Fit (ask x cells answers) _ (ask_fits x cells answers h.0 c a) (λ v left f l.
    either_fits Fit (int_eq v (pos 0)) (gives left (pos 0)) _ (refl, l) (then_fits Fit Fit (ask y cells left) _ (ask_fits y cells left h.1 c l) (λ u left' g l'. (truth_fits (negated (int_eq u (pos 0))), l'))))
ask_fits (T.or x y) cells answers h c a =
    then_fits Fit Fit (ask x cells answers) _ (ask_fits x cells answers h.0 c a) (λ v left f l.
    either_fits Fit (int_eq v (pos 0)) _ (gives left (pos 1)) (then_fits Fit Fit (ask y cells left) _ (ask_fits y cells left h.1 c l) (λ u left' g l'. (truth_fits (negated (int_eq u (pos 0))), l'))) (refl, l))
