-- In a valid program: where the statements of a list stand, and that a body ends in its last statement and nowhere before.
use Rattle.std.proofs.Common.{◌≡◌, ℕ, suc, ◌-◌, ◌<◌, Bool, true, false, List, [], ◌∷◌, ◌++◌, length, Option, Some, None, refl, ap, sym, subst, ◌∙◌, arith, inl, inr, true≢false}
use Rattle.std.specs.Prelude.{IsTrue, IsSomeAnd, is_some, slice_get, unwrap_or}
use Rattle.std.proofs.lemmas.Bool.{cond-true, cond-false}
use Rattle.std.specs.List.{AllByRecursion as Each}
use Rattle.std.specs.Option.{option_map_or}
use Rattle.ppd_ast.specs.declared.program.Body.{Body}
use Rattle.ppd_ast.specs.declared.program.Kind.{Kind}
use Rattle.ppd_ast.specs.declared.program.Kind.TheVariants as kind
use Rattle.ppd_ast.specs.declared.program.Program.{Program}
use Rattle.ppd_ast.specs.declared.program.Stmt.{Stmt}
use Rattle.ppd_ast.specs.Order.{StandIn, inner}
use Rattle.ppd_ast.specs.Valid.{CallsRightly, EndsBody, IsEnding, IsValid, last_of}
use Rattle.ppd_ast.proofs.Standing.{All-append_parts}
use Rattle.ppd_ast.proofs.ValidLaws.{some_and, stmt_in_body, valid_body, valid_stmt}
use Rattle.ppd_ast.specs.Lookups.{kind_of, body_of, body_numbered, no_body}
use Rattle.ppd_ast.proofs.Vocabulary.{kind_of_stmt}
use Rattle.ppd_sets.specs.Flow.{follow}
use Rattle.law_steps.proofs.Course.Chains.{IsChain, top_chain}
use Rattle.law_steps.proofs.Course.Last.{ends_are_last}
use Rattle.law_steps.proofs.Course.Rising.{top_stands}
use Rattle.law_steps.proofs.Course.Ending.{slice_has}
use Rattle.ppd_sem.specs.declared.proc.Todo.{Todo}
use Rattle.ppd_sem.specs.Described.{ends_body}
use Rattle.ppd_sem.specs.Process.{todos}
use Rattle.ppd_sem.proofs.Validity.{last_cons}
use Rattle.law_steps.specs.Beside.Relation.{IsCallOf, IsListOf}
use Rattle.law_steps.proofs.Vocabulary.Relation.{HasEnd, HasEnds, past_body}
use Rattle.ppd_model.proofs.Changes.{some}
use Rattle.ppd_model.proofs.Parents.{none_some}

-- statement i is there, with this parent and in this body
pub record IsAt (program : Program) (outer : Option ℕ) (number i : ℕ) : Type 0 where
  pub stmt : Stmt
  pub there : slice_get program.stmts i ≡ Some stmt
  pub parent : stmt.parent ≡ outer
  pub body : stmt.body ≡ number

pub all_at : (program : Program) (outer : Option ℕ) (number : ℕ) (stmts : List ℕ)
    → StandIn program.stmts outer number stmts → Each (IsAt program outer number) stmts
all_at program outer number [] h = tt
all_at program outer number (i ∷ is) h =
    let y = some_and (λ (s : Stmt). (s.parent ≡ outer) × (s.body ≡ number)) (slice_get program.stmts i)
    (h 0 i (omega arith)) in (
      record { stmt = y.0; there = y.1; parent = y.2.0; body = y.2.1 },
      all_at program outer number is
          (λ k d lt. h (suc k) d (omega arith)),
    )

list_stands : (program : Program) (outer : Option ℕ) (number : ℕ) (k : Kind) (stmts : List ℕ) → IsListOf k stmts
    → StandIn program.stmts outer number (inner k) → StandIn program.stmts outer number stmts
list_stands program outer number (kind.If e first second) stmts is h =
    let both = All-append_parts
    (λ i. IsSomeAnd (slice_get program.stmts i) (λ s. (s.parent ≡ outer) × (s.body ≡ number))) first second h in
    elim is [
      | inl e ↦ subst (StandIn program.stmts outer number) (sym e) both.0
      | inr e ↦ subst (StandIn program.stmts outer number) (sym e) both.1
    ]
list_stands program outer number (kind.While e body) stmts is h = subst (StandIn program.stmts outer number) (sym is) h
list_stands program outer number k stmts is h = absurd is

-- the statements of a list in statement s stand in s, in its body
pub listed : (program : Program) (s : ℕ) (stmts : List ℕ) → IsValid program → IsListOf (kind_of program s) stmts
    → Each (IsAt program (Some s) (body_of program s)) stmts
listed program s stmts v is = by (slice_get program.stmts s) refl is
  where
    by : (o : Option Stmt) → slice_get program.stmts s ≡ o → IsListOf (kind_of_stmt o) stmts
        → Each (IsAt program (Some s) (option_map_or (λ (x : Stmt). x.body) o 0)) stmts
    by None at h = absurd h
    by (Some x) at h = all_at program (Some s) x.body stmts
        (list_stands program (Some s) x.body x.kind stmts h (valid_stmt program s x v at).inside)

-- ---- what ends a body

ends_top : (b : Body) (k : ℕ) (x : Kind) → ends_body x ≡ true → EndsBody b k x → last_of b.top ≡ Some k
ends_top b k (kind.Return v) e h = h.2
ends_top b k kind.End e h = h.1
ends_top b k x e h = absurd (true≢false (sym e))

is_ending : (k : Kind) → ends_body k ≡ true → IsEnding k
is_ending (kind.Return v) e = tt
is_ending kind.End e = tt
is_ending k e = absurd (true≢false (sym e))

ending_is : (k : Kind) → IsEnding k → ends_body k ≡ true
ending_is (kind.Return v) e = refl
ending_is kind.End e = refl
ending_is (kind.Set t e) h = absurd h
ending_is (kind.Zero base len) h = absurd h
ending_is (kind.If e first second) h = absurd h
ending_is (kind.While e body) h = absurd h
ending_is (kind.Call f args into) h = absurd h
ending_is (kind.P s) h = absurd h
ending_is (kind.V s) h = absurd h
ending_is (kind.Send c e) h = absurd h
ending_is (kind.Recv c into) h = absurd h
ending_is (kind.Print e) h = absurd h
ending_is (kind.Assert e) h = absurd h

-- a statement that ends its body has no parent
ends_outermost : (program : Program) (i : ℕ) (x : Stmt) → IsValid program → slice_get program.stmts i ≡ Some x
    → ends_body x.kind ≡ true → x.parent ≡ None
ends_outermost program i x v at e =
    let own = stmt_in_body program i x v at in
    let last : last_of own.0.top ≡ Some i = ends_top own.0 i x.kind e own.2.ending in
    let y = top_stands program x.body i own.0 v own.1 (slice_has own.0.top (length own.0.top - 1) i last) in
    let same : y.0 ≡ x = some (sym y.1 ∙ at) in
    ap (λ (z : Stmt). z.parent) (sym same) ∙ y.2

-- so one that stands in another goes on
pub inside_goes_on : (program : Program) (s number i : ℕ) → IsValid program → IsAt program (Some s) number i
    → ends_body (kind_of program i) ≡ false
inside_goes_on program s number i v at = ap (λ o. ends_body (kind_of_stmt o)) at.there ∙ by (ends_body at.stmt.kind) refl
  where
    by : (b : Bool) → ends_body at.stmt.kind ≡ b → ends_body at.stmt.kind ≡ false
    by true e = absurd (none_some (sym (ends_outermost program i at.stmt v at.there e) ∙ at.parent))
    by false e = e

-- the last one ends the body, and no other
abbrev pub EndsOnce : Program → List ℕ → Type 0
EndsOnce program [] = ⊥
EndsOnce program (i ∷ []) = ends_body (kind_of program i) ≡ true
EndsOnce program (i ∷ j ∷ is) = (ends_body (kind_of program i) ≡ false) × EndsOnce program (j ∷ is)

followed_goes_on : (program : Program) (i j : ℕ) → IsValid program → follow program i ≡ Some j
    → ends_body (kind_of program i) ≡ false
followed_goes_on program i j v f = by (ends_body (kind_of program i)) refl
  where
    by : (b : Bool) → ends_body (kind_of program i) ≡ b → ends_body (kind_of program i) ≡ false
    by true e = absurd (none_some
        (sym (ends_are_last program i v (is_ending (kind_of program i) e))
        ∙ f))
    by false e = e

abbrev IsLastEnding : Program → Option ℕ → Type 0
IsLastEnding program o = IsSomeAnd o (λ i. IsSomeAnd (slice_get program.stmts i) (λ s. IsEnding s.kind))

ending_kind : (program : Program) (i : ℕ) (o : Option Stmt) → slice_get program.stmts i ≡ o
    → IsSomeAnd o (λ s. IsEnding s.kind) → ends_body (kind_of_stmt o) ≡ true
ending_kind program i None at h = absurd h
ending_kind program i (Some x) at h = ending_is x.kind h

ends_once : (program : Program) (stmts : List ℕ) → IsValid program → IsChain program None stmts
    → IsLastEnding program (last_of stmts) → EndsOnce program stmts
ends_once program [] v chain last = last
ends_once program (i ∷ []) v chain last = ending_kind program i (slice_get program.stmts i) refl last
ends_once program (i ∷ j ∷ is) v chain last = (
  followed_goes_on program i j v chain.0,
  ends_once program (j ∷ is) v chain.2
      (subst (IsLastEnding program) (last_cons i j is) last),
)

pub body_ends_once : (program : Program) (f : ℕ) (b : Body) → IsValid program → slice_get program.bodies f ≡ Some b
    → EndsOnce program b.top
body_ends_once program f b v at =
    ends_once program b.top v (top_chain program f b v at) (valid_body program f b v at).ending

-- ---- lists and what is to do

goes_past : (program : Program) (s number : ℕ) (stmts : List ℕ) (ts : List Todo) → IsValid program
    → Each (IsAt program (Some s) number) stmts → past_body program (todos stmts ++ ts) ≡ past_body program ts
goes_past program s number [] ts v h = refl
goes_past program s number (i ∷ is) ts v h =
    cond-false (ends_body (kind_of program i)) (todos is ++ ts) (past_body program (todos is ++ ts))
    (inside_goes_on program s number i v h.0)
    ∙ goes_past program s number is ts v h.1

top_has_end : (program : Program) (stmts : List ℕ) (ts : List Todo) → EndsOnce program stmts
    → HasEnd program (todos stmts ++ ts)
top_has_end program [] ts h = absurd h
top_has_end program (i ∷ []) ts h = inl h
top_has_end program (i ∷ j ∷ is) ts h = inr (top_has_end program (j ∷ is) ts h.1)

top_past : (program : Program) (stmts : List ℕ) (ts : List Todo) → EndsOnce program stmts
    → past_body program (todos stmts ++ ts) ≡ ts
top_past program [] ts h = absurd h
top_past program (i ∷ []) ts h = cond-true (ends_body (kind_of program i)) ts (past_body program ts) h
top_past program (i ∷ j ∷ is) ts h =
    cond-false (ends_body (kind_of program i)) (todos (j ∷ is) ++ ts) (past_body program (todos (j ∷ is) ++ ts)) h.0
    ∙ top_past program (j ∷ is) ts h.1

-- the function that a statement calls is there
pub record IsCallee (program : Program) (f : ℕ) : Type 0 where
  pub body : Body
  pub there : slice_get program.bodies f ≡ Some body
  pub function : f < program.functions

callee_of : (program : Program) (k : Kind) (f : ℕ) → IsCallOf k f → CallsRightly program k → IsCallee program f
callee_of program (kind.Call g arguments into) f is h =
    let b = some_and (λ (x : Body). (length arguments ≡ x.params) × (is_some into ≡ true → IsTrue x.value))
    (slice_get program.bodies g) h.1 in
    subst (IsCallee program) (sym is) (record { body = b.0; there = b.1; function = h.0 })
callee_of program k f is h = absurd is

pub callee : (program : Program) (s f : ℕ) → IsValid program → IsCallOf (kind_of program s) f → IsCallee program f
callee program s f v is = by (slice_get program.stmts s) refl is
  where
    by : (o : Option Stmt) → slice_get program.stmts s ≡ o → IsCallOf (kind_of_stmt o) f → IsCallee program f
    by None at h = absurd h
    by (Some x) at h = callee_of program x.kind f h (stmt_in_body program s x v at).2.call

called_ends_once : (program : Program) (s f : ℕ) → IsValid program → IsCallOf (kind_of program s) f
    → EndsOnce program (body_numbered program f).top
called_ends_once program s f v is =
    let c : IsCallee program f = callee program s f v is in
    subst (λ o. EndsOnce program (unwrap_or o no_body).top) (sym c.there) (body_ends_once program f c.body v c.there)

-- a body ends in its last statement, and nowhere before
pub has_ends : (program : Program) → IsValid program → HasEnds program
has_ends program v = record {
  nested = λ s stmts is ts. goes_past program s (body_of program s) stmts ts v
      (listed program s stmts v is);
  ended = λ s f is ts. top_has_end program (body_numbered program f).top ts (called_ends_once program s f v is);
  whole = λ s f is ts. top_past program (body_numbered program f).top ts (called_ends_once program s f v is);
}
