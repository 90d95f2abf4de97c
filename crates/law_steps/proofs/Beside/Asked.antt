-- Evaluation depends on the local cells that the statement names, and on no others.
use Rattle.std.proofs.Common.{◌≡◌, ℕ, ◌+◌, ◌<◌, ℤ, pos, negsuc, List, [], ◌∷◌, Bool, true, false, Ok, Err, Some, None, refl, ap, ◌∙◌, cond}
use Rattle.std.proofs.lemmas.Bool.{ltb-true}
use Rattle.std.specs.Prelude.{nat_lt, if◌then◌else◌, get_or}
use Rattle.std.specs.Ordering.{int_eq}
use Rattle.ppd_ast.specs.declared.program.Expr.{Expr}
use Rattle.ppd_ast.specs.declared.program.Kind.{Kind}
use Rattle.ppd_ast.specs.declared.program.Kind.TheVariants.{Set, Zero, If, While, Call, Return, P, V, Send, Recv, Print, Assert, End}
use Rattle.ppd_ast.specs.declared.program.Target.TheVariants as target
use Rattle.ppd_ast.specs.Term.{Term, const, local, local_at, shared, shared_at, neg, not, two, and, or, term}
use Rattle.ppd_ast.specs.declared.status.Trap.TheVariants.{Index}
use Rattle.ppd_sem.specs.Asked.{Asked, gives, and_then, lift, read_shared}
use Rattle.ppd_sem.specs.Ask.{ask, element}
use Rattle.ppd_sem.specs.Deed.{Deed, ask_deed, ask_all, ask_stored, set_local, set_shared}
use Rattle.law_steps.proofs.Vocabulary.Over.{IsOverCells, AreOverCells, IsKindOver, SameIn}

after_same : {A B : Type 0} (q : Asked A) (next next' : A → List ℤ → Asked B)
    → ((x : A) (left : List ℤ) → next x left ≡ next' x left) → and_then q next ≡ and_then q next'
after_same (Ok p) next next' h = h p.0 p.1
after_same (Err pause) next next' h = refl

-- what goes on with equal values comes to the same
same_after : {A B : Type 0} (r r' : Asked A) (next next' : A → List ℤ → Asked B) → r ≡ r'
    → ((x : A) (left : List ℤ) → next x left ≡ next' x left) → and_then r next ≡ and_then r' next'
same_after r r' next next' e h = ap (λ q. and_then q next) e ∙ after_same r' next next' h

module _ (used : ℕ → Type 0) (cells others : List ℤ) (same : SameIn used cells others) where
  picked : (b : Bool) (c : ℕ) (left : List ℤ) → (b ≡ true → get_or cells c (pos 0) ≡ get_or others c (pos 0))
      → and_then (lift left (if b then Ok c else Err Index)) (λ c left. gives left (get_or cells c (pos 0))) ≡ and_then
      (lift left (if b then Ok c else Err Index)) (λ c left. gives left (get_or others c (pos 0)))
  picked true c left h = ap (λ v. gives left v) (h refl)
  picked false c left h = refl

  element_same : (base len : ℕ) → ((k : ℕ) → k < len → used (base + k)) → (at : ℤ) (left : List ℤ)
      → and_then (lift left (element base len at)) (λ c left. gives left (get_or cells c (pos 0))) ≡ and_then
      (lift left (element base len at)) (λ c left. gives left (get_or others c (pos 0)))
  element_same base len h (pos i) left =
      picked (nat_lt i len) (base + i) left (λ e. same.values (base + i) (h i (ltb-true i len e)))
  element_same base len h (negsuc i) left = refl

  pub ask_same : (t : Term) → IsOverCells used t → (answers : List ℤ) → ask t cells answers ≡ ask t others answers
  ask_same (const v) o answers = refl
  ask_same (local c) o answers = ap (λ v. gives answers v) (same.values c o)
  ask_same (local_at base len i) o answers =
      same_after _ _ _ _ (ask_same i o.1 answers) (λ at left. element_same base len o.0 at left)
  ask_same (shared c) o answers = refl
  ask_same (shared_at base len i) o answers =
      ap (λ q. and_then q (λ at left. and_then (lift left (element base len at)) (λ c left. read_shared left c)))
      (ask_same i o answers)
  ask_same (neg a) o answers = same_after _ _ _ _ (ask_same a o answers) (λ x left. refl)
  ask_same (not a) o answers = same_after _ _ _ _ (ask_same a o answers) (λ x left. refl)
  ask_same (two op a b) o answers =
      same_after _ _ _ _ (ask_same a o.0 answers)
      (λ x left. same_after _ _ _ _ (ask_same b o.1 left) (λ y left. refl))
  ask_same (and a b) o answers =
      same_after _ _ _ _ (ask_same a o.0 answers)
      (λ x left. ap (λ q. cond (int_eq x (pos 0)) (gives left (pos 0)) q)
      (same_after _ _ _ _ (ask_same b o.1 left) (λ y left. refl)))
  ask_same (or a b) o answers =
      same_after _ _ _ _ (ask_same a o.0 answers)
      (λ x left. ap (λ q. cond (int_eq x (pos 0)) q (gives left (pos 1)))
      (same_after _ _ _ _ (ask_same b o.1 left) (λ y left. refl)))

  all_same : (es : List Expr) (as' : List ℕ) → AreOverCells used es as' → (answers : List ℤ)
      → ask_all es as' cells answers ≡ ask_all es as' others answers
  all_same es [] o answers = refl
  all_same es (a ∷ as') o answers =
      same_after _ _ _ _ (ask_same (term es a) o.0 answers)
      (λ v left. same_after _ _ _ _ (all_same es as' o.1 left) (λ vs left. refl))

  stored_same : (i e : Term) (base len : ℕ) (store : ℕ → ℤ → Deed) (answers : List ℤ) → IsOverCells used i
      → IsOverCells used e → ask_stored i e base len store cells answers ≡ ask_stored i e base len store others answers
  stored_same i e base len store answers oi oe =
      same_after _ _ _ _ (ask_same i oi answers)
      (λ at left. after_same (lift left (element base len at)) _ _
      (λ c left. same_after _ _ _ _ (ask_same e oe left) (λ v left. refl)))

  -- a statement does the same where the cells that it reads are the same
  pub deed_same : (es : List Expr) (k : Kind) → IsKindOver used es k → (answers : List ℤ)
      → ask_deed es k cells answers ≡ ask_deed es k others answers
  deed_same es (Set (target.Local c) e) o answers = same_after _ _ _ _ (ask_same (term es e) o answers) (λ v left. refl)
  deed_same es (Set (target.LocalAt base len i) e) o answers =
      stored_same (term es i) (term es e) base len set_local answers o.0 o.1
  deed_same es (Set (target.Shared c) e) o answers =
      same_after _ _ _ _ (ask_same (term es e) o answers) (λ v left. refl)
  deed_same es (Set (target.SharedAt base len i) e) o answers =
      stored_same (term es i) (term es e) base len set_shared answers o.0 o.1
  deed_same es (If e first second) o answers = same_after _ _ _ _ (ask_same (term es e) o answers) (λ v left. refl)
  deed_same es (While e body) o answers = same_after _ _ _ _ (ask_same (term es e) o answers) (λ v left. refl)
  deed_same es (Call f arguments into) o answers =
      same_after _ _ _ _ (all_same es arguments o answers) (λ vs left. refl)
  deed_same es (Return (Some e)) o answers = same_after _ _ _ _ (ask_same (term es e) o answers) (λ v left. refl)
  deed_same es (Send c e) o answers = same_after _ _ _ _ (ask_same (term es e) o answers) (λ v left. refl)
  deed_same es (Print e) o answers = same_after _ _ _ _ (ask_same (term es e) o answers) (λ v left. refl)
  deed_same es (Assert e) o answers = same_after _ _ _ _ (ask_same (term es e) o answers) (λ v left. refl)
  deed_same es (Zero base len) o answers = refl
  deed_same es (Return None) o answers = refl
  deed_same es (P s) o answers = refl
  deed_same es (V s) o answers = refl
  deed_same es (Recv c into) o answers = refl
  deed_same es End o answers = refl
