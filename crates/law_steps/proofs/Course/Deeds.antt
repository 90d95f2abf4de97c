-- What each kind of statement does once its values are there.
use Rattle.std.proofs.Common.{◌≡◌, ℕ, ℤ, Bool, true, false, List, Option, Ok, Err, refl, inl, inr, ◌⊎◌, if◌then◌else◌}
use Rattle.std.specs.Prelude.{⊤, option_to_list, pos}
use Rattle.std.specs.Ordering.{int_eq}
use Rattle.ppd_ast.specs.declared.program.Expr.{Expr}
use Rattle.ppd_ast.specs.declared.program.Kind.{Kind}
use Rattle.ppd_ast.specs.declared.program.Kind.TheVariants as K
use Rattle.ppd_ast.specs.Numbered.{is_left, is_while}
use Rattle.ppd_ast.specs.Term.{term}
use Rattle.ppd_sets.specs.Flow.{successors}
use Rattle.ppd_sem.specs.Ask.{ask}
use Rattle.ppd_sem.specs.Asked.{Asked, and_then, gives}
use Rattle.ppd_sem.specs.Deed.{Deed, set_local, set_shared, clear, branch, turn, leave, invoke, back, take, give, send, receive, print, pass, finish, ask_deed}
use Rattle.ppd_sem.specs.Runs.{returns}
use Rattle.ppd_sem.proofs.OfKind.{IsDeedOf, OfAsked, asked_holds, backs, backs_value, finishes, goes_first, goes_round, goes_second, invokes, leaves, receives, releases, sends, takes}

-- a statement after which the process goes on with what follows it, in the same unit
pub record IsLocal (k : Kind) : Type 0 where
  pub stays : returns k ≡ false
  pub goes : (s : ℕ) (after : Option ℕ) → successors s k after ≡ option_to_list after
  pub same_unit : is_left k ≡ false
  pub no_loop : is_while k ≡ false

pub record IsBranch (k : Kind) (stmts : List ℕ) : Type 0 where
  pub test : ℕ
  pub first : List ℕ
  pub second : List ℕ
  pub kind_is : k ≡ K.If test first second
  pub choice : (stmts ≡ first) ⊎ (stmts ≡ second)

pub record IsTurn (k : Kind) (stmts : List ℕ) : Type 0 where
  pub test : ℕ
  pub kind_is : k ≡ K.While test stmts

pub record IsLeaving (k : Kind) : Type 0 where
  pub test : ℕ
  pub body : List ℕ
  pub kind_is : k ≡ K.While test body

pub record IsInvoke (k : Kind) (f : ℕ) : Type 0 where
  pub arguments : List ℕ
  pub into : Option ℕ
  pub kind_is : k ≡ K.Call f arguments into

-- a statement of this kind does this
abbrev pub DeedFits : Kind → Deed → Type 0
DeedFits k (set_local c v) = IsLocal k
DeedFits k (set_shared c v) = IsLocal k
DeedFits k (clear base len) = IsLocal k
DeedFits k (branch stmts) = IsBranch k stmts
DeedFits k (turn stmts) = IsTurn k stmts
DeedFits k leave = IsLeaving k
DeedFits k (invoke f values into) = IsInvoke k f
DeedFits k (back value) = returns k ≡ true
DeedFits k (take sem) = returns k ≡ false
DeedFits k (give sem) = returns k ≡ false
DeedFits k (send chan value) = returns k ≡ false
DeedFits k (receive chan into) = returns k ≡ false
DeedFits k (print v) = IsLocal k
DeedFits k pass = IsLocal k
DeedFits k finish = returns k ≡ false

abbrev pub Fits : Kind → Asked Deed → Type 0
Fits k = OfAsked (DeedFits k)

does : (k : Kind) (d : Deed) → IsDeedOf k d → DeedFits k d
does k d (goes_first {e = e} {first = first} {second = second}) =
    record { test = e; first = first; second = second; kind_is = refl; choice = inl refl }
does k d (goes_second {e = e} {first = first} {second = second}) =
    record { test = e; first = first; second = second; kind_is = refl; choice = inr refl }
does k d (goes_round {e = e}) = record { test = e; kind_is = refl }
does k d (leaves {e = e} {body = body}) = record { test = e; body = body; kind_is = refl }
does k d (invokes {arguments = arguments} {into = into} values count) =
    record { arguments = arguments; into = into; kind_is = refl }
does k d backs = refl
does k d (backs_value v) = refl
does k d takes = refl
does k d releases = refl
does k d (sends v) = refl
does k d receives = refl
does k d finishes = refl
does k d is = record { stays = refl; goes = λ s after. refl; same_unit = refl; no_loop = refl }

pub deed_fits : (es : List Expr) (cells answers : List ℤ) (k : Kind) → Fits k (ask_deed es k cells answers)
deed_fits es cells answers k = asked_holds es cells answers (DeedFits k) k (does k)

-- ---- a loop's test leaves it or begins a turn

abbrev pub IsLoopDeed : List ℕ → Deed → Type 0
IsLoopDeed body leave = ⊤
IsLoopDeed body (turn stmts) = stmts ≡ body
IsLoopDeed body d = ⊥

abbrev pub DoesLoop : List ℕ → Asked Deed → Type 0
DoesLoop body (Ok q) = IsLoopDeed body q.0
DoesLoop body (Err pause) = ⊤

tested : (body : List ℕ) (b : Bool) → IsLoopDeed body (if b then leave else turn body)
tested body true = tt
tested body false = refl

tests_loop : (body : List ℕ) (r : Asked ℤ) → DoesLoop body (and_then r (λ v left. gives left (if int_eq v (pos 0) then leave else turn body)))
tests_loop body (Ok q) = tested body (int_eq q.0 (pos 0))
tests_loop body (Err pause) = tt

pub loop_deed : (es : List Expr) (e : ℕ) (body : List ℕ) (cells answers : List ℤ) → DoesLoop body (ask_deed es (K.While e body) cells answers)
loop_deed es e body cells answers = tests_loop body (ask (term es e) cells answers)
