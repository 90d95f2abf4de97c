-- What a statement's deed is, by the kind of the statement.
use Rattle.std.proofs.Common.{◌≡◌, ℕ, suc, ◌+◌, ◌<◌, ◌≤◌, ℤ, pos, negsuc, Bool, true, false, nat_lt, List, [], ◌∷◌, length, Option, Some, None, Ok, Err, refl, ap, arith, if◌then◌else◌}
use Rattle.std.specs.Prelude.{⊤}
use Rattle.std.proofs.lemmas.Bool.{ltb-true}
use Rattle.std.specs.Ordering.{int_eq}
use Rattle.ppd_ast.specs.Term.{Term, term}
use Rattle.ppd_ast.specs.declared.program.Expr.{Expr}
use Rattle.ppd_ast.specs.declared.program.Kind.{Kind}
use Rattle.ppd_ast.specs.declared.program.Kind.TheVariants as kind
use Rattle.ppd_ast.specs.declared.program.Target.TheVariants as target
use Rattle.ppd_ast.specs.declared.status.Trap.TheVariants as trap
use Rattle.ppd_sem.specs.declared.asking.Pause.TheVariants.{Traps}
use Rattle.ppd_sem.specs.Ask.{ask, element}
use Rattle.ppd_sem.specs.Asked.{Asked, and_then, gives, lift}
use Rattle.ppd_sem.specs.Deed.{Deed, set_local, set_shared, clear, branch, turn, leave, invoke, back, take, give, send, receive, print, pass, finish, ask_all, ask_deed, ask_stored}

-- the deeds of a statement of this kind
pub data IsDeedOf : Kind → Deed → Type 0 where
  sets : {c e : ℕ} (v : ℤ) → IsDeedOf (kind.Set (target.Local c) e) (set_local c v)
  sets_element : {base len i e c : ℕ} (v : ℤ) → base ≤ c → c < base + len
      → IsDeedOf (kind.Set (target.LocalAt base len i) e) (set_local c v)
  shares : {c e : ℕ} (v : ℤ) → IsDeedOf (kind.Set (target.Shared c) e) (set_shared c v)
  shares_element : {base len i e c : ℕ} (v : ℤ) → base ≤ c → c < base + len
      → IsDeedOf (kind.Set (target.SharedAt base len i) e) (set_shared c v)
  clears : {base len : ℕ} → IsDeedOf (kind.Zero base len) (clear base len)
  goes_first : {e : ℕ} {first second : List ℕ} → IsDeedOf (kind.If e first second) (branch first)
  goes_second : {e : ℕ} {first second : List ℕ} → IsDeedOf (kind.If e first second) (branch second)
  goes_round : {e : ℕ} {body : List ℕ} → IsDeedOf (kind.While e body) (turn body)
  leaves : {e : ℕ} {body : List ℕ} → IsDeedOf (kind.While e body) leave
  invokes : {f : ℕ} {arguments : List ℕ} {into : Option ℕ} (values : List ℤ) → length values ≡ length arguments
      → IsDeedOf (kind.Call f arguments into) (invoke f values into)
  backs : IsDeedOf (kind.Return None) (back None)
  backs_value : {e : ℕ} (v : ℤ) → IsDeedOf (kind.Return (Some e)) (back (Some v))
  takes : {sem : ℕ} → IsDeedOf (kind.P sem) (take sem)
  releases : {sem : ℕ} → IsDeedOf (kind.V sem) (give sem)
  sends : {c e : ℕ} (v : ℤ) → IsDeedOf (kind.Send c e) (send c v)
  receives : {c into : ℕ} → IsDeedOf (kind.Recv c into) (receive c into)
  prints : {e : ℕ} (v : ℤ) → IsDeedOf (kind.Print e) (print v)
  passes : {e : ℕ} → IsDeedOf (kind.Assert e) pass
  finishes : IsDeedOf kind.End finish

-- what holds of the value, if it is there
abbrev pub OfAsked : {A : Type 0} → (A → Type 0) → Asked A → Type 0
OfAsked D (Ok q) = D q.0
OfAsked D (Err pause) = ⊤

pub and_so : {A : Type 0} (D E : A → Type 0) (r : Asked A) → ((x : A) → D x → E x) → OfAsked D r → OfAsked E r
and_so D E (Ok q) so h = so q.0 h
and_so D E (Err pause) so h = tt

then_so : {A B : Type 0} (D : A → Type 0) (E : B → Type 0) (r : Asked A) (next : A → List ℤ → Asked B) → OfAsked D r
    → ((x : A) (left : List ℤ) → D x → OfAsked E (next x left)) → OfAsked E (and_then r next)
then_so D E (Ok q) next h so = so q.0 q.1 h
then_so D E (Err pause) next h so = tt

-- whatever the value is
then_any : {A B : Type 0} (E : B → Type 0) (r : Asked A) (next : A → List ℤ → Asked B)
    → ((x : A) (left : List ℤ) → OfAsked E (next x left)) → OfAsked E (and_then r next)
then_any E (Ok q) next so = so q.0 q.1
then_any E (Err pause) next so = tt

-- a cell of the array
abbrev IsElement : ℕ → ℕ → ℕ → Type 0
IsElement base len c = (base ≤ c) × (c < base + len)

element_in : (base len : ℕ) (at : ℤ) (left : List ℤ) → OfAsked (IsElement base len) (lift left (element base len at))
element_in base len (pos i) left = by (nat_lt i len) refl
  where
    by : (b : Bool) → nat_lt i len ≡ b → OfAsked (IsElement base len) (lift left (if b then Ok (base + i) else Err trap.Index))
    by true e = let lt : i < len = ltb-true i len e in (omega arith, omega arith)
    by false e = tt
element_in base len (negsuc i) left = tt

-- so many values
abbrev Counted : ℕ → List ℤ → Type 0
Counted n values = length values ≡ n

-- as many values as arguments
all_counted : (es : List Expr) (arguments : List ℕ) (cells answers : List ℤ)
    → OfAsked (Counted (length arguments)) (ask_all es arguments cells answers)
all_counted es [] cells answers = refl
all_counted es (a ∷ as') cells answers =
    then_any (Counted (length (a ∷ as'))) (ask (term es a) cells answers)
    (λ v left. and_then (ask_all es as' cells left) (λ vs left. gives left (v ∷ vs)))
    (λ v left. then_so (Counted (length as')) (Counted (length (a ∷ as'))) (ask_all es as' cells left)
    (λ vs left. gives left (v ∷ vs)) (all_counted es as' cells left) (λ vs left is. ap suc is))

module _ (k : Kind) where
  valued : (e : Term) (cells answers : List ℤ) (deed : ℤ → Deed) → ((v : ℤ) → IsDeedOf k (deed v))
      → OfAsked (IsDeedOf k) (and_then (ask e cells answers) (λ v left. gives left (deed v)))
  valued e cells answers deed is = then_any (IsDeedOf k) (ask e cells answers) (λ v left. gives left (deed v)) (λ v left. is v)

  stored : (i e : Term) (base len : ℕ) (store : ℕ → ℤ → Deed) (cells answers : List ℤ)
      → ((c : ℕ) (v : ℤ) → IsElement base len c → IsDeedOf k (store c v))
      → OfAsked (IsDeedOf k) (ask_stored i e base len store cells answers)
  stored i e base len store cells answers is =
      then_any (IsDeedOf k) (ask i cells answers)
      (λ at left. and_then (lift left (element base len at)) (λ c left. and_then (ask e cells left) (λ v left. gives left (store c v))))
      (λ at left. then_so (IsElement base len) (IsDeedOf k) (lift left (element base len at))
      (λ c left. and_then (ask e cells left) (λ v left. gives left (store c v))) (element_in base len at left)
      (λ c left there. valued e cells left (store c) (λ v. is c v there)))

chosen : (e : ℕ) (first second : List ℕ) (b : Bool) → IsDeedOf (kind.If e first second) (branch (if b then second else first))
chosen e first second true = goes_second
chosen e first second false = goes_first

turned : (e : ℕ) (body : List ℕ) (b : Bool) → IsDeedOf (kind.While e body) (if b then leave else turn body)
turned e body true = leaves
turned e body false = goes_round

asserted : (e : ℕ) (b : Bool) (left : List ℤ)
    → OfAsked (IsDeedOf (kind.Assert e)) (if b then Err (Traps trap.Assert) else gives left pass)
asserted e true left = tt
asserted e false left = passes

module _ (es : List Expr) (cells answers : List ℤ) where
  -- the deed of a statement is one of its kind
  pub deed_of : (k : Kind) → OfAsked (IsDeedOf k) (ask_deed es k cells answers)
  deed_of (kind.Set (target.Local c) e) =
      valued (kind.Set (target.Local c) e) (term es e) cells answers (λ v. set_local c v) (λ v. sets v)
  deed_of (kind.Set (target.LocalAt base len i) e) =
      stored (kind.Set (target.LocalAt base len i) e) (term es i) (term es e) base len set_local cells answers
      (λ c v there. sets_element v there.0 there.1)
  deed_of (kind.Set (target.Shared c) e) =
      valued (kind.Set (target.Shared c) e) (term es e) cells answers (λ v. set_shared c v) (λ v. shares v)
  deed_of (kind.Set (target.SharedAt base len i) e) =
      stored (kind.Set (target.SharedAt base len i) e) (term es i) (term es e) base len set_shared cells answers
      (λ c v there. shares_element v there.0 there.1)
  deed_of (kind.Zero base len) = clears
  deed_of (kind.If e first second) =
      valued (kind.If e first second) (term es e) cells answers (λ v. branch (if int_eq v (pos 0) then second else first))
      (λ v. chosen e first second (int_eq v (pos 0)))
  deed_of (kind.While e body) =
      valued (kind.While e body) (term es e) cells answers (λ v. if int_eq v (pos 0) then leave else turn body)
      (λ v. turned e body (int_eq v (pos 0)))
  deed_of (kind.Call f arguments into) =
      then_so (Counted (length arguments)) (IsDeedOf (kind.Call f arguments into))
      (ask_all es arguments cells answers) (λ vs left. gives left (invoke f vs into))
      (all_counted es arguments cells answers) (λ vs left count. invokes vs count)
  deed_of (kind.Return None) = backs
  deed_of (kind.Return (Some e)) =
      valued (kind.Return (Some e)) (term es e) cells answers (λ v. back (Some v)) (λ v. backs_value v)
  deed_of (kind.P sem) = takes
  deed_of (kind.V sem) = releases
  deed_of (kind.Send c e) = valued (kind.Send c e) (term es e) cells answers (λ v. send c v) (λ v. sends v)
  deed_of (kind.Recv c into) = receives
  deed_of (kind.Print e) = valued (kind.Print e) (term es e) cells answers (λ v. print v) (λ v. prints v)
  deed_of (kind.Assert e) =
      then_any (IsDeedOf (kind.Assert e)) (ask (term es e) cells answers)
      (λ v left. if int_eq v (pos 0) then Err (Traps trap.Assert) else gives left pass)
      (λ v left. asserted e (int_eq v (pos 0)) left)
  deed_of kind.End = finishes

  -- what holds of each deed of its kind holds of it
  pub asked_holds : (D : Deed → Type 0) (k : Kind) → ((d : Deed) → IsDeedOf k d → D d)
      → OfAsked D (ask_deed es k cells answers)
  asked_holds D k so = and_so (IsDeedOf k) D (ask_deed es k cells answers) so (deed_of k)
