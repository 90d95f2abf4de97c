-- In a valid program what follows a statement is a statement.
use Rattle.ppd_ast.proofs.Members.{all_has, has_cons, has_first, has_later, has_left, has_right}
use Rattle.ppd_ast.proofs.ValidLaws.{inner_below, slice_get_below, top_below}
use Rattle.ppd_ast.proofs.Vocabulary.{kind_of_stmt}
use Rattle.ppd_ast.specs.Lookups.{body_numbered, no_body}
use Rattle.ppd_ast.specs.Members.{AreBelow, has}
use Rattle.ppd_ast.specs.Order.{inner}
use Rattle.ppd_ast.specs.Valid.{IsValid}
use Rattle.ppd_ast.specs.declared.limits.TheConstants.{MOST_NESTING}
use Rattle.ppd_ast.specs.declared.program.Body.{Body}
use Rattle.ppd_ast.specs.declared.program.Kind.{Kind}
use Rattle.ppd_ast.specs.declared.program.Kind.TheVariants as K
use Rattle.ppd_ast.specs.declared.program.Program.{Program}
use Rattle.ppd_ast.specs.declared.program.Stmt.{Stmt}
use Rattle.ppd_sets.proofs.FlowWords.{follow_of, rising_pair}
use Rattle.ppd_sets.specs.Flow.{follow, follow_at, follow_under, follow_within, next_in, next_of, successors}
use Rattle.ppd_sets.specs.Lists.{rising}
use Rattle.ppd_sets.proofs.Calling.{one_below}
use Rattle.std.proofs.Common.{Bool, List, None, Option, Some, [], inl, inr, length, refl, subst, suc, sym, true≢false, zero, ℕ, ◌<◌, ◌∷◌, ◌≡◌}
use Rattle.std.proofs.lemmas.Bool.{cases_Bool, cond-false, cond-true}
use Rattle.std.specs.Option.{option_or}
use Rattle.std.specs.Prelude.{if◌then◌else◌, nat_eq, nat_lt, option_to_list, slice_get, unwrap_or, ⊤}

-- the number, if there is one, is below n
abbrev pub Fits : ℕ → Option ℕ → Type 0
Fits n None = ⊤
Fits n (Some x) = x < n

pub none_below : (n : ℕ) → AreBelow n []
none_below n x h = absurd (true≢false (sym h))

pub listed_below : (n : ℕ) (o : Option ℕ) → Fits n o → AreBelow n (option_to_list o)
listed_below n None f = none_below n
listed_below n (Some x) f = one_below n x f

first_fits : (n : ℕ) (xs : List ℕ) (after : Option ℕ) → AreBelow n xs → Fits n after → Fits n (option_or (slice_get xs 0) after)
first_fits n [] after h f = f
first_fits n (x ∷ xs) after h f = h x (has_first x xs)

head_fits : (n : ℕ) (xs : List ℕ) → AreBelow n xs → Fits n (slice_get xs 0)
head_fits n [] h = tt
head_fits n (x ∷ xs) h = h x (has_first x xs)

next_fits : (n : ℕ) (xs : List ℕ) (s : ℕ) (after : Option ℕ) → AreBelow n xs → Fits n after → Fits n (next_in xs s after)
next_fits n [] s after h f = tt
next_fits n (x ∷ xs) s after h f = elim (cases_Bool (nat_eq x s)) [
  | inl e ↦ subst (Fits n) (sym (cond-true (nat_eq x s) (option_or (slice_get xs 0) after) (next_in xs s after) e)) (first_fits n xs after (λ y l. h y (has_later x y xs l)) f)
  | inr e ↦ subst (Fits n) (sym (cond-false (nat_eq x s) (option_or (slice_get xs 0) after) (next_in xs s after) e)) (next_fits n xs s after (λ y l. h y (has_later x y xs l)) f)
]

one_of : (n : ℕ) (b : Bool) (xs ys : List ℕ) → AreBelow n xs → AreBelow n ys → AreBelow n (if b then xs else ys)
one_of n b xs ys h k = elim (cases_Bool b) [
  | inl e ↦ subst (AreBelow n) (sym (cond-true b xs ys e)) h
  | inr e ↦ subst (AreBelow n) (sym (cond-false b xs ys e)) k
]

kinds_fit : (n q : ℕ) (k : Kind) (s : ℕ) (after : Option ℕ) → q < n → AreBelow n (inner k) → Fits n after → Fits n (follow_within q k s after)
kinds_fit n q (K.If e first second) s after l h f =
    next_fits n (if has first s then first else second) s after
    (one_of n (has first s) first second (λ x i. h x (has_left first second x i)) (λ x i. h x (has_right first second x i))) f
kinds_fit n q (K.While e body) s after l h f = next_fits n body s (Some q) h l
kinds_fit n q k s after l h f = tt

pub inner_are_below : (p : Program) (q : ℕ) (x : Stmt) → IsValid p → slice_get p.stmts q ≡ Some x → AreBelow (length p.stmts) (inner x.kind)
inner_are_below p q x v at y h = all_has (λ i. i < length p.stmts) (inner x.kind) y (inner_below p q x v at) h

within_fits : (p : Program) (q s : ℕ) (o : Option Stmt) (after : Option ℕ) → IsValid p → slice_get p.stmts q ≡ o → Fits (length p.stmts) after → Fits (length p.stmts) (follow_within q (kind_of_stmt o) s after)
within_fits p q s None after v at f = tt
within_fits p q s (Some x) after v at f = kinds_fit (length p.stmts) q x.kind s after (slice_get_below p.stmts q x at) (inner_are_below p q x v at) f

tops_are_below : (p : Program) (b : ℕ) (o : Option Body) → IsValid p → slice_get p.bodies b ≡ o → AreBelow (length p.stmts) (unwrap_or o no_body).top
tops_are_below p b None v at = none_below (length p.stmts)
tops_are_below p b (Some body) v at = λ y h. all_has (λ i. i < length p.stmts) body.top y (top_below p b body v at) h

under_fits : (p : Program) (outer : ℕ → Option ℕ) (body s : ℕ) (parent : Option ℕ) → IsValid p → ((q : ℕ) → Fits (length p.stmts) (outer q)) → Fits (length p.stmts) (follow_under p outer body s parent)
under_fits p outer body s None v f = next_fits (length p.stmts) (body_numbered p body).top s None (tops_are_below p body (slice_get p.bodies body) v refl) tt
under_fits p outer body s (Some q) v f = within_fits p q s (slice_get p.stmts q) (outer q) v refl (f q)

of_fits : (p : Program) (outer : ℕ → Option ℕ) (s : ℕ) (o : Option Stmt) → IsValid p → ((q : ℕ) → Fits (length p.stmts) (outer q)) → Fits (length p.stmts) (follow_of p outer s o)
of_fits p outer s None v f = tt
of_fits p outer s (Some x) v f = under_fits p outer x.body s x.parent v f

at_fits : (d : ℕ) (p : Program) (s : ℕ) → IsValid p → Fits (length p.stmts) (follow_at d p s)
unfolding follow_at
at_fits zero p s v = tt
at_fits (suc d) p s v = of_fits p (follow_at d p) s (slice_get p.stmts s) v (λ q. at_fits d p q v)

pub follow_fits : (p : Program) (s : ℕ) → IsValid p → Fits (length p.stmts) (follow p s)
follow_fits p s v = at_fits MOST_NESTING p s v

pub first_of_body_fits : (p : Program) (b : ℕ) → IsValid p → Fits (length p.stmts) (slice_get (body_numbered p b).top 0)
first_of_body_fits p b v = head_fits (length p.stmts) (body_numbered p b).top (tops_are_below p b (slice_get p.bodies b) v refl)

-- ---- so are its successors

pair_below : (n x y : ℕ) → x < n → y < n → AreBelow n (rising_pair x y)
pair_below n x y l m =
    one_of n (nat_lt x y) (x ∷ y ∷ []) (if nat_eq x y then x ∷ [] else y ∷ x ∷ []) (two x y l m)
    (one_of n (nat_eq x y) (x ∷ []) (y ∷ x ∷ []) (one_below n x l) (two y x m l))
  where
    two : (a b : ℕ) → a < n → b < n → AreBelow n (a ∷ b ∷ [])
    two a b i j z h = elim (has_cons a z (b ∷ []) h) [ inl e ↦ subst (λ w. w < n) e i | inr t ↦ one_below n b j z t ]

rising_below : (n : ℕ) (a b : Option ℕ) → Fits n a → Fits n b → AreBelow n (rising a b)
rising_below n None b f g = listed_below n b g
rising_below n (Some x) None f g = one_below n x f
rising_below n (Some x) (Some y) f g = pair_below n x y f g

successors_below : (n s : ℕ) (k : Kind) (after : Option ℕ) → s < n → AreBelow n (inner k) → Fits n after → AreBelow n (successors s k after)
successors_below n s (K.If e first second) after l h f =
    rising_below n (option_or (slice_get first 0) after) (option_or (slice_get second 0) after) (first_fits n first after (λ x i. h x (has_left first second x i)) f) (first_fits n second after (λ x i. h x (has_right first second x i)) f)
successors_below n s (K.While e body) after l h f = rising_below n (option_or (slice_get body 0) (Some s)) after (first_fits n body (Some s) h l) f
successors_below n s (K.Return e) after l h f = none_below n
successors_below n s K.End after l h f = none_below n
successors_below n s k after l h f = listed_below n after f

next_at : (p : Program) (s : ℕ) (o : Option Stmt) → IsValid p → slice_get p.stmts s ≡ o → AreBelow (length p.stmts) (successors s (kind_of_stmt o) (follow p s))
next_at p s None v at = none_below (length p.stmts)
next_at p s (Some x) v at = successors_below (length p.stmts) s x.kind (follow p s) (slice_get_below p.stmts s x at) (inner_are_below p s x v at) (follow_fits p s v)

pub next_below : (p : Program) (s : ℕ) → IsValid p → AreBelow (length p.stmts) (next_of p s)
next_below p s v = next_at p s (slice_get p.stmts s) v refl
