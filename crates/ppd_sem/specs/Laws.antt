-- Laws of evaluation, of needs and of steps.
use Rattle.std.specs.Prelude.{◌≡◌, ◌≢◌, ◌≤ℤ◌, ◌<◌, ◌≤◌, ◌+◌, ℕ, ℤ, pos, negsuc, ◌+ℤ◌, ◌-ℤ◌, ◌*ℤ◌, neg_ℤ, unsigned_abs, List, drop, length, Result, Ok, Err, Option, Some, ⊤}
use Rattle.ppd_ast.specs.declared.limits.TheConstants.{MOST_CALLS}
use Rattle.ppd_ast.specs.declared.plan.Plan.{Plan}
use Rattle.ppd_ast.specs.declared.plan.Start.TheVariants as start
use Rattle.ppd_ast.specs.declared.program.Expr.{Expr}
use Rattle.ppd_ast.specs.declared.program.Kind.{Kind}
use Rattle.ppd_ast.specs.declared.program.Kind.TheVariants as kind
use Rattle.ppd_ast.specs.declared.program.Op.TheVariants.{Mul, Div, Rem, Add, Sub}
use Rattle.ppd_ast.specs.declared.program.Program.{Program}
use Rattle.ppd_ast.specs.declared.program.Target.TheVariants as target
use Rattle.ppd_ast.specs.declared.status.Trap.{Trap}
use Rattle.ppd_ast.specs.declared.status.Trap.TheVariants.{Overflow, Zero, Index, Depth}
use Rattle.ppd_ast.specs.Term.{Term, and, or, term}
use Rattle.ppd_ast.specs.Valid.{IsValid}
use Rattle.ppd_ast.specs.ValidPlan.{IsValidPlan}
use Rattle.ppd_ast.specs.Lookups.{kind_of}
use Rattle.ppd_sem.specs.declared.asking.Pause.{Pause}
use Rattle.ppd_sem.specs.declared.asking.Pause.TheVariants.{Traps}
use Rattle.ppd_sem.specs.declared.proc.Answer.{Answer}
use Rattle.ppd_sem.specs.declared.proc.Need.{Need}
use Rattle.ppd_sem.specs.declared.proc.Need.TheVariants as need
use Rattle.ppd_sem.specs.declared.proc.Proc.{Proc}
use Rattle.ppd_sem.specs.declared.proc.Todo.{Todo}
use Rattle.ppd_sem.specs.Ask.{ask, calc, checked, element}
use Rattle.ppd_sem.specs.Deed.{ask_all, ask_deed}
use Rattle.ppd_sem.specs.Consumed.{Takes, shared_of}
use Rattle.ppd_sem.specs.Measure.{measure}
use Rattle.ppd_sem.specs.Offers.{Completes, HasNoOffer, IsAtOneStatement, Offers, OffersAtHead}
use Rattle.ppd_sem.specs.Process.{act, need_of, need_of_asked, need_of_head, started, top_frame}
use Rattle.ppd_sem.specs.Reads.{reads_of, reads_of_kind}
use Rattle.ppd_sem.specs.Passed.{next_stmt_of}
use Rattle.ppd_sem.specs.Runs.{IsNumbered, IsRunnable}
use Rattle.ppd_sem.specs.Tables.{unit_of}

-- ---- arithmetic

-- the ends of 64 bits
abbrev pub least : ℤ
least = negsuc 9223372036854775807

abbrev pub greatest : ℤ
greatest = pos 9223372036854775807

pub record Has64Bits (z : ℤ) : Type 0 where
  pub above : least ≤ℤ z
  pub below : z ≤ℤ greatest

-- the exact value where it has 64 bits, else overflow
pub record IsExactOrOverflow (result : Result ℤ Trap) (exact : ℤ) : Type 0 where
  pub fits : Has64Bits exact → result ≡ Ok exact
  pub overflows : (Has64Bits exact → ⊥) → result ≡ Err Overflow

-- sums, differences, products and opposites are exact, or overflow
pub record ArithmeticIsExact : Type 0 where
  pub sum : (x y : ℤ) → IsExactOrOverflow (calc Add x y) (x +ℤ y)
  pub difference : (x y : ℤ) → IsExactOrOverflow (calc Sub x y) (x -ℤ y)
  pub product : (x y : ℤ) → IsExactOrOverflow (calc Mul x y) (x *ℤ y)
  pub opposite : (x : ℤ) → IsExactOrOverflow (checked (neg_ℤ x)) (neg_ℤ x)

-- (x/y)*y + x%y is x, and x%y is nearer to 0 than y and has no other sign than x
pub record IsTruncated (x y : ℤ) (divided remaining : Result ℤ Trap) : Type 0 where
  pub quotient : ℤ
  pub remainder : ℤ
  pub div : divided ≡ Ok quotient
  pub rem : remaining ≡ Ok remainder
  pub whole : quotient *ℤ y +ℤ remainder ≡ x
  pub nearer : unsigned_abs remainder < unsigned_abs y
  pub positive : pos 0 ≤ℤ x → pos 0 ≤ℤ remainder
  pub negative : x ≤ℤ pos 0 → remainder ≤ℤ pos 0

-- `/` and `%` trap at a zero divisor, and at the least number by -1; else they divide toward zero
pub record DividesTowardZero : Type 0 where
  pub zero : (x : ℤ) → (calc Div x (pos 0) ≡ Err Zero) × (calc Rem x (pos 0) ≡ Err Zero)
  pub overflow : (calc Div least (negsuc 0) ≡ Err Overflow) × (calc Rem least (negsuc 0) ≡ Err Overflow)
  pub others : (x y : ℤ) → Has64Bits x → y ≢ pos 0 → ((x ≡ least) × (y ≡ negsuc 0) → ⊥)
      → IsTruncated x y (calc Div x y) (calc Rem x y)

-- ---- order of evaluation

-- once an index is tested and is none of the array, the stored value is not evaluated
pub record IndexComesFirst : Type 0 where
  pub local : (es : List Expr) (base len i e : ℕ) (cells answers left : List ℤ) (at : ℤ)
      → ask (term es i) cells answers ≡ Ok (at, left) → element base len at ≡ Err Index
      → ask_deed es (kind.Set (target.LocalAt base len i) e) cells answers ≡ Err (Traps Index)
  pub shared : (es : List Expr) (base len i e : ℕ) (cells answers left : List ℤ) (at : ℤ)
      → ask (term es i) cells answers ≡ Ok (at, left) → element base len at ≡ Err Index
      → ask_deed es (kind.Set (target.SharedAt base len i) e) cells answers ≡ Err (Traps Index)
  -- nor is anything read for it
  pub local_reads : (frame : ℕ) (es : List Expr) (base len i e : ℕ) (cells answers left : List ℤ) (at : ℤ)
      → ask (term es i) cells answers ≡ Ok (at, left) → element base len at ≡ Err Index
      → reads_of_kind frame es (kind.Set (target.LocalAt base len i) e) cells answers
      ≡ reads_of frame (term es i) cells answers
  pub shared_reads : (frame : ℕ) (es : List Expr) (base len i e : ℕ) (cells answers left : List ℤ) (at : ℤ)
      → ask (term es i) cells answers ≡ Ok (at, left) → element base len at ≡ Err Index
      → reads_of_kind frame es (kind.Set (target.SharedAt base len i) e) cells answers
      ≡ reads_of frame (term es i) cells answers

-- `&&` at 0 and `||` at any other value take no further answer and read nothing more
pub record StopsEarly : Type 0 where
  pub and_value : (a b : Term) (cells answers left : List ℤ) → ask a cells answers ≡ Ok (pos 0, left)
      → ask (and a b) cells answers ≡ Ok (pos 0, left)
  pub and_reads : (frame : ℕ) (a b : Term) (cells answers left : List ℤ) → ask a cells answers ≡ Ok (pos 0, left)
      → reads_of frame (and a b) cells answers ≡ reads_of frame a cells answers
  pub or_value : (a b : Term) (cells answers left : List ℤ) (x : ℤ) → x ≢ pos 0 → ask a cells answers ≡ Ok (x, left)
      → ask (or a b) cells answers ≡ Ok (pos 1, left)
  pub or_reads : (frame : ℕ) (a b : Term) (cells answers left : List ℤ) (x : ℤ) → x ≢ pos 0
      → ask a cells answers ≡ Ok (x, left) → reads_of frame (or a b) cells answers ≡ reads_of frame a cells answers

-- ---- shared reads

-- the shared reads of an expression or of a statement are exactly the answers that its evaluation takes, in order
pub record ReadsAreAnswers : Type 0 where
  pub expression : (frame : ℕ) (t : Term) (cells answers : List ℤ)
      → Takes (ask t cells) answers (shared_of (reads_of frame t cells answers))
  pub statement : (frame : ℕ) (es : List Expr) (k : Kind) (cells answers : List ℤ)
      → Takes (ask_deed es k cells) answers (shared_of (reads_of_kind frame es k cells answers))

-- ---- calls

-- a call asks for what its arguments lack; only with all of them there is its depth tested
pub record ArgumentsComeFirst : Type 0 where
  pub lacking : (program : Program) (plan : Plan) (t : Todo) (s : Proc) (f : ℕ) (arguments : List ℕ)
      (into : Option ℕ) (p : Pause) → kind_of program t.stmt ≡ kind.Call f arguments into
      → ask_all program.exprs arguments (top_frame s.frames).cells s.answers ≡ Err p
      → need_of_head program plan t s ≡ need_of_asked program plan t.stmt s (Err p)
  pub too_deep : (program : Program) (plan : Plan) (t : Todo) (s : Proc) (f : ℕ) (arguments : List ℕ)
      (into : Option ℕ) (values left : List ℤ) → kind_of program t.stmt ≡ kind.Call f arguments into
      → ask_all program.exprs arguments (top_frame s.frames).cells s.answers ≡ Ok (values, left)
      → MOST_CALLS < s.below + length s.frames → need_of_head program plan t s ≡ need.Trap Depth

-- ---- programs and steps

-- the processes of a valid program can run
abbrev pub ValidCanRun : Type 0
ValidCanRun = (program : Program) → IsValid program → IsRunnable program

-- each step keeps the budget, overspends nothing, and leaves fewer steps to take, so that a process comes to its end
pub record StepsEnd : Type 0 where
  pub falls : (program : Program) (plan : Plan) (s : Proc) (a : Answer) → need_of program plan s ≢ need.Stopped
      → s.spent ≤ s.budget → measure (act program plan s a) < measure s
  pub stays : (program : Program) (plan : Plan) (s : Proc) (a : Answer) → need_of program plan s ≡ need.Stopped
      → act program plan s a ≡ s
  pub budget : (program : Program) (plan : Plan) (s : Proc) (a : Answer) → s.spent ≤ s.budget
      → (act program plan s a).budget ≡ s.budget
  pub within : (program : Program) (plan : Plan) (s : Proc) (a : Answer) → s.spent ≤ s.budget
      → (act program plan s a).spent ≤ s.budget

-- the blocks and units of a plan that is valid for a valid program have numbers of 16 bits
abbrev pub ValidIsNumbered : Type 0
ValidIsNumbered = (program : Program) (plan : Plan) → IsValid program → IsValidPlan program plan → IsNumbered plan

-- the shared cell, semaphore or channel that the need names is there
abbrev pub NamesThere : Program → Need → Type 0
NamesThere program (need.Read c) = c < length program.starts
NamesThere program (need.Write c v) = c < length program.starts
NamesThere program (need.P s u) = s < length program.sems
NamesThere program (need.V s u) = s < length program.sems
NamesThere program (need.Send c v u) = c < length program.chans
NamesThere program (need.Offer c v) = c < length program.chans
NamesThere program (need.Done c u) = c < length program.chans
NamesThere program (need.Recv c u) = c < length program.chans
NamesThere program n = ⊤

-- in every state of a valid program a need names only what is there
abbrev pub NeedsAreThere : Type 0
NeedsAreThere =
    (program : Program) (plan : Plan) (s : Proc) → IsValid program → NamesThere program (need_of program plan s)

-- ---- sends on channels of capacity 0

-- an offer and its completion are two steps of one statement, with no step of its process between them
pub record OffersAreCompleted : Type 0 where
  -- a process begins with no offer taken, and only the statement that is next can be one whose offer was
  pub starts : (program : Program) (plan : Plan) (p budget : ℕ) → HasNoOffer (started program plan p budget).todo
  pub stays : (program : Program) (plan : Plan) (s : Proc) (a : Answer) → OffersAtHead program s.todo
      → OffersAtHead program (act program plan s a).todo
  -- an offer leaves its statement, whose completion is the next step, or it stops for its budget
  pub completed : (program : Program) (plan : Plan) (s : Proc) (a : Answer) (t c : ℕ) (v : ℤ)
      → next_stmt_of s.todo ≡ Some t → need_of program plan s ≡ need.Offer c v
      → IsAtOneStatement s (act program plan s a)
      × Completes c (unit_of plan (start.After t)) (need_of program plan (act program plan s a))
  -- the step before a completion is the offer of the same statement
  pub offered : (program : Program) (plan : Plan) (s : Proc) (a : Answer) (c u : ℕ) → OffersAtHead program s.todo
      → need_of program plan (act program plan s a) ≡ need.Done c u
      → IsAtOneStatement s (act program plan s a) × Offers c (need_of program plan s)
  -- a completion removes its statement
  pub removed : (program : Program) (plan : Plan) (s : Proc) (a : Answer) (c u : ℕ)
      → need_of program plan s ≡ need.Done c u → (act program plan s a).todo ≡ drop 1 s.todo
