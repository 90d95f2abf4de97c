-- The cell or object that a need of a valid program names is there.
use Rattle.std.proofs.Common.{◌≡◌, ℕ, zero, suc, ◌+◌, ◌<◌, ◌≤◌, ℤ, pos, negsuc, neg_ℤ, Bool, true, false, nat_lt, List, [], ◌∷◌, length, Option, Some, None, Result, Ok, Err, refl, subst, arith, if◌then◌else◌}
use Rattle.std.specs.Prelude.{not as negated, slice_get, ⊤, get_or}
use Rattle.std.specs.List.{All}
use Rattle.std.proofs.lemmas.Bool.Decides.{nat_tests}
use Rattle.std.proofs.lemmas.Option.{none-some, slice_get_within}
use Rattle.std.specs.Ordering.{int_eq}
use Rattle.ppd_ast.specs.declared.plan.Plan.{Plan}
use Rattle.ppd_ast.specs.declared.program.Body.{Body}
use Rattle.ppd_ast.specs.declared.program.Expr.{Expr}
use Rattle.ppd_ast.specs.declared.program.Kind.{Kind}
use Rattle.ppd_ast.specs.declared.program.Kind.TheVariants as kind
use Rattle.ppd_ast.specs.declared.program.Program.{Program}
use Rattle.ppd_ast.specs.declared.program.Stmt.{Stmt}
use Rattle.ppd_ast.specs.declared.program.Target.TheVariants as target
use Rattle.ppd_ast.specs.declared.program.Var.{Var}
use Rattle.ppd_ast.specs.declared.status.Status.{Status}
use Rattle.ppd_ast.specs.declared.status.Trap.{Trap}
use Rattle.ppd_ast.specs.declared.status.Trap.TheVariants.{Index}
use Rattle.ppd_ast.specs.declared.status.Trap.TheVariants as trap
use Rattle.ppd_ast.specs.Cells.{CoverCells, NamesWhole, WritesWhole}
use Rattle.ppd_ast.specs.Term.{Term, const, local, local_at, shared, shared_at, neg, not, two, and, or, term}
use Rattle.ppd_ast.specs.Uses.{kind_uses}
use Rattle.ppd_ast.specs.Valid.{HasObject, IsValid, IsValidKind, IsValidStmt, IsValidUse}
use Rattle.ppd_ast.specs.Lookups.{kind_of}
use Rattle.ppd_ast.proofs.Vocabulary.{kind_of_stmt}
use Rattle.ppd_ast.proofs.ValidLaws.{some_and, array_below, scalar_below}
use Rattle.ppd_ast.specs.declared.limits.TheConstants.{MOST_CALLS}
use Rattle.ppd_sem.specs.declared.asking.Pause.TheVariants.{Wants, Traps}
use Rattle.ppd_sem.specs.declared.proc.Need.{Need}
use Rattle.ppd_sem.specs.declared.proc.Need.TheVariants as need
use Rattle.ppd_sem.specs.declared.proc.Proc.{Proc}
use Rattle.ppd_sem.specs.declared.proc.Todo.{Todo}
use Rattle.ppd_sem.specs.Ask.{ask, calc, checked, element, truth}
use Rattle.ppd_sem.specs.Asked.{Asked, and_then, gives, lift, read_shared}
use Rattle.ppd_sem.specs.Deed.{Deed, set_local, set_shared, clear, branch, turn, leave, invoke, back, take, give, send, receive, print, pass, finish, ask_all, ask_deed, ask_stored}
use Rattle.ppd_sem.specs.Laws.{NamesThere}
use Rattle.ppd_sem.specs.Process.{chan_of, cost, entry_of, head_deed, need_of, need_of_asked, need_of_deed, need_of_head, need_of_leaving, need_of_send, offer_of, top_frame}
use Rattle.ppd_sem.proofs.NeedWords.{need_by_entry, need_by_offer, need_by_status, need_of_running}
use Rattle.ppd_sem.specs.Tables.{capacity_of}
use Rattle.ppd_sem.proofs.Offers.{offer_there}
use Rattle.ppd_sem.proofs.Kept.{There, there_at}
use Rattle.ppd_sem.proofs.Validity.{each_of}

-- ---- expressions

-- the shared cells that the expression names are below n
abbrev SharedBelow : ℕ → Term → Type 0
SharedBelow n (const v) = ⊤
SharedBelow n (local c) = ⊤
SharedBelow n (local_at base len i) = SharedBelow n i
SharedBelow n (shared c) = c < n
SharedBelow n (shared_at base len i) = (base + len ≤ n) × SharedBelow n i
SharedBelow n (neg a) = SharedBelow n a
SharedBelow n (not a) = SharedBelow n a
SharedBelow n (two op a b) = SharedBelow n a × SharedBelow n b
SharedBelow n (and a b) = SharedBelow n a × SharedBelow n b
SharedBelow n (or a b) = SharedBelow n a × SharedBelow n b

shared_below : (ss ls : List Var) (n : ℕ) (t : Term) → CoverCells ss n → NamesWhole ss ls t → SharedBelow n t
shared_below ss ls n (const v) cover h = tt
shared_below ss ls n (local c) cover h = tt
shared_below ss ls n (local_at base len i) cover h = shared_below ss ls n i cover h.1
shared_below ss ls n (shared c) cover h = scalar_below ss n c cover h
shared_below ss ls n (shared_at base len i) cover h = (array_below ss n base len cover h.0, shared_below ss ls n i cover h.1)
shared_below ss ls n (neg a) cover h = shared_below ss ls n a cover h
shared_below ss ls n (not a) cover h = shared_below ss ls n a cover h
shared_below ss ls n (two op a b) cover h = (shared_below ss ls n a cover h.0, shared_below ss ls n b cover h.1)
shared_below ss ls n (and a b) cover h = (shared_below ss ls n a cover h.0, shared_below ss ls n b cover h.1)
shared_below ss ls n (or a b) cover h = (shared_below ss ls n a cover h.0, shared_below ss ls n b cover h.1)

-- the value is such, or what is wanted is below n
abbrev Gives : {A : Type 0} → ℕ → (A → Type 0) → Asked A → Type 0
Gives n Q (Ok p) = Q p.0
Gives n Q (Err (Wants c)) = c < n
Gives n Q (Err (Traps t)) = ⊤

abbrev pub free : {A : Type 0} → A → Type 0
free x = ⊤

then_gives : {A B : Type 0} (n : ℕ) (Q : A → Type 0) (R : B → Type 0) (a : Asked A) (next : A → List ℤ → Asked B) → Gives n Q a → ((x : A) (left : List ℤ) → Q x → Gives n R (next x left)) → Gives n R (and_then a next)
then_gives n Q R (Ok p) next h f = f p.0 p.1 h
then_gives n Q R (Err (Wants c)) next h f = h
then_gives n Q R (Err (Traps t)) next h f = tt

lift_gives : {A : Type 0} (n : ℕ) (left : List ℤ) (r : Result A Trap) → Gives n free (lift left r)
lift_gives n left (Ok x) = tt
lift_gives n left (Err t) = tt

if_gives : {A : Type 0} (n : ℕ) (Q : A → Type 0) (b : Bool) (x y : Asked A) → Gives n Q x → Gives n Q y → Gives n Q (if b then x else y)
if_gives n Q true x y h g = h
if_gives n Q false x y h g = g

element_gives : (n base len : ℕ) (at : ℤ) (left : List ℤ) → base + len ≤ n → Gives n (λ c. c < n) (lift left (element base len at))
element_gives n base len (pos i) left le = by (nat_lt i len) refl
  where
    by : (b : Bool) → nat_lt i len ≡ b → Gives n (λ c. c < n) (lift left (if b then Ok (base + i) else Err Index))
    by true e = let lt : i < len = grind (arith, nat_tests) in omega arith
    by false e = tt
element_gives n base len (negsuc i) left le = tt

read_gives : (n c : ℕ) (left : List ℤ) → c < n → Gives n free (read_shared left c)
read_gives n c [] lt = lt
read_gives n c (v ∷ left) lt = tt

asks : (n : ℕ) (t : Term) (cells answers : List ℤ) → SharedBelow n t → Gives n free (ask t cells answers)
asks n (const v) cells answers h = tt
asks n (local c) cells answers h = tt
asks n (local_at base len i) cells answers h =
    then_gives n free free (ask i cells answers) (λ at left. and_then (lift left (element base len at)) (λ c left. gives left (get_or cells c (pos 0)))) (asks n i cells answers h)
    (λ at left u. then_gives n free free (lift left (element base len at)) (λ c left. gives left (get_or cells c (pos 0))) (lift_gives n left (element base len at)) (λ c left u. tt))
asks n (shared c) cells answers h = read_gives n c answers h
asks n (shared_at base len i) cells answers h =
    then_gives n free free (ask i cells answers) (λ at left. and_then (lift left (element base len at)) (λ c left. read_shared left c)) (asks n i cells answers h.1)
    (λ at left u. then_gives n (λ c. c < n) free (lift left (element base len at)) (λ c left. read_shared left c) (element_gives n base len at left h.0) (λ c left lt. read_gives n c left lt))
asks n (neg a) cells answers h =
    then_gives n free free (ask a cells answers) (λ x left. lift left (checked (neg_ℤ x))) (asks n a cells answers h) (λ x left u. lift_gives n left (checked (neg_ℤ x)))
asks n (not a) cells answers h =
    then_gives n free free (ask a cells answers) (λ x left. gives left (truth (int_eq x (pos 0)))) (asks n a cells answers h) (λ x left u. tt)
asks n (two op a b) cells answers h =
    then_gives n free free (ask a cells answers) (λ x left. and_then (ask b cells left) (λ y left. lift left (calc op x y))) (asks n a cells answers h.0)
    (λ x left u. then_gives n free free (ask b cells left) (λ y left. lift left (calc op x y)) (asks n b cells left h.1) (λ y left u. lift_gives n left (calc op x y)))
asks n (and a b) cells answers h =
    then_gives n free free (ask a cells answers) (λ x left. if int_eq x (pos 0) then gives left (pos 0) else and_then (ask b cells left) (λ y left. gives left (truth (negated (int_eq y (pos 0)))))) (asks n a cells answers h.0)
    (λ x left u. if_gives n free (int_eq x (pos 0)) (gives left (pos 0)) (and_then (ask b cells left) (λ y left. gives left (truth (negated (int_eq y (pos 0)))))) tt
    (then_gives n free free (ask b cells left) (λ y left. gives left (truth (negated (int_eq y (pos 0))))) (asks n b cells left h.1) (λ y left u. tt)))
asks n (or a b) cells answers h =
    then_gives n free free (ask a cells answers) (λ x left. if int_eq x (pos 0) then and_then (ask b cells left) (λ y left. gives left (truth (negated (int_eq y (pos 0))))) else gives left (pos 1)) (asks n a cells answers h.0)
    (λ x left u. if_gives n free (int_eq x (pos 0)) (and_then (ask b cells left) (λ y left. gives left (truth (negated (int_eq y (pos 0)))))) (gives left (pos 1))
    (then_gives n free free (ask b cells left) (λ y left. gives left (truth (negated (int_eq y (pos 0))))) (asks n b cells left h.1) (λ y left u. tt)) tt)

asks_all : (n : ℕ) (es : List Expr) (as' : List ℕ) (cells answers : List ℤ) → All (λ e. SharedBelow n (term es e)) as' → Gives n free (ask_all es as' cells answers)
asks_all n es [] cells answers h = tt
asks_all n es (a ∷ as') cells answers h =
    then_gives n free free (ask (term es a) cells answers) (λ v left. and_then (ask_all es as' cells left) (λ vs left. gives left (v ∷ vs))) (asks n (term es a) cells answers (h 0 0 (omega arith)))
    (λ v left u. then_gives n free free (ask_all es as' cells left) (λ vs left. gives left (v ∷ vs)) (asks_all n es as' cells left (λ k d lt. h (suc k) d (omega arith))) (λ vs left u. tt))

-- ---- statements

abbrev WritesBelow : ℕ → Kind → Type 0
WritesBelow n (kind.Set (target.Shared c) e) = c < n
WritesBelow n (kind.Set (target.SharedAt base len i) e) = base + len ≤ n
WritesBelow n k = ⊤

writes_below : (ss ls : List Var) (n : ℕ) (k : Kind) → CoverCells ss n → WritesWhole ss ls k → WritesBelow n k
writes_below ss ls n (kind.Set (target.Local c) e) cover h = tt
writes_below ss ls n (kind.Set (target.LocalAt base len i) e) cover h = tt
writes_below ss ls n (kind.Set (target.Shared c) e) cover h = scalar_below ss n c cover h
writes_below ss ls n (kind.Set (target.SharedAt base len i) e) cover h = array_below ss n base len cover h
writes_below ss ls n (kind.Zero base len) cover h = tt
writes_below ss ls n (kind.If e first second) cover h = tt
writes_below ss ls n (kind.While e body) cover h = tt
writes_below ss ls n (kind.Call f args into) cover h = tt
writes_below ss ls n (kind.Return v) cover h = tt
writes_below ss ls n (kind.P s) cover h = tt
writes_below ss ls n (kind.V s) cover h = tt
writes_below ss ls n (kind.Send c e) cover h = tt
writes_below ss ls n (kind.Recv c into) cover h = tt
writes_below ss ls n (kind.Print e) cover h = tt
writes_below ss ls n (kind.Assert e) cover h = tt
writes_below ss ls n kind.End cover h = tt

-- what a statement names of the shared cells and objects is there
record KindThere (p : Program) (k : Kind) : Type 0 where
  uses : All (λ e. SharedBelow (length p.starts) (term p.exprs e)) (kind_uses k)
  writes : WritesBelow (length p.starts) k
  object : HasObject p k

kind_valid : (p : Program) (b : Body) (i : ℕ) (k : Kind) → CoverCells p.shared (length p.starts) → IsValidKind p b i k → KindThere p k
kind_valid p b i k cover h = record {
  uses = each_of (IsValidUse p b) (λ e. SharedBelow (length p.starts) (term p.exprs e)) (kind_uses k) (λ e u. shared_below p.shared b.locals (length p.starts) (term p.exprs e) cover u.names) h.uses;
  writes = writes_below p.shared b.locals (length p.starts) k cover h.writes;
  object = h.object;
}

kind_at : (p : Program) (i : ℕ) (o : Option Stmt) → IsValid p → slice_get p.stmts i ≡ o → KindThere p (kind_of_stmt o)
kind_at p i None v e = record { uses = λ k d lt. absurd (omega arith); writes = tt; object = tt }
kind_at p i (Some s) v e =
    let stmt : There (IsValidStmt p) p.stmts i = there_at (IsValidStmt p) p.stmts i v.stmts (slice_get_within p.stmts i s e) in
    let same : stmt.0 ≡ s = cc (stmt.1) in
    let valid : IsValidStmt p i s = subst (IsValidStmt p i) same stmt.2 in
    let at = some_and (λ (b : Body). IsValidKind p b i s.kind) (slice_get p.bodies s.body) valid.kind in
    kind_valid p at.0 i s.kind v.cells at.2

-- ---- what is done

abbrev DeedThere : Program → Deed → Type 0
DeedThere p (set_shared c v) = c < length p.starts
DeedThere p (take s) = s < length p.sems
DeedThere p (give s) = s < length p.sems
DeedThere p (send c v) = c < length p.chans
DeedThere p (receive c into) = c < length p.chans
DeedThere p d = ⊤

turned : (p : Program) (b : Bool) (body : List ℕ) → DeedThere p (if b then leave else turn body)
turned p true body = tt
turned p false body = tt

stored : (p : Program) (n : ℕ) (Q : ℕ → Type 0) (i e : Term) (base len : ℕ) (store : ℕ → ℤ → Deed) (cells answers : List ℤ) → SharedBelow n i → SharedBelow n e
    → ((at : ℤ) (left : List ℤ) → Gives n Q (lift left (element base len at))) → ((c : ℕ) (v : ℤ) → Q c → DeedThere p (store c v)) → Gives n (DeedThere p) (ask_stored i e base len store cells answers)
stored p n Q i e base len store cells answers hi he elements does =
    then_gives n free (DeedThere p) (ask i cells answers) (λ at left. and_then (lift left (element base len at)) (λ c left. and_then (ask e cells left) (λ v left. gives left (store c v)))) (asks n i cells answers hi)
    (λ at left u. then_gives n Q (DeedThere p) (lift left (element base len at)) (λ c left. and_then (ask e cells left) (λ v left. gives left (store c v))) (elements at left)
    (λ c left q. then_gives n free (DeedThere p) (ask e cells left) (λ v left. gives left (store c v)) (asks n e cells left he) (λ v left u. does c v q)))

module _ (p : Program) (cells answers : List ℤ) where
  -- one value, and then the deed
  valued : (e : ℕ) (next : ℤ → List ℤ → Asked Deed) → All (λ e. SharedBelow (length p.starts) (term p.exprs e)) (e ∷ []) → ((v : ℤ) (left : List ℤ) → Gives (length p.starts) (DeedThere p) (next v left)) → Gives (length p.starts) (DeedThere p) (and_then (ask (term p.exprs e) cells answers) next)
  valued e next u f = then_gives (length p.starts) free (DeedThere p) (ask (term p.exprs e) cells answers) next (asks (length p.starts) (term p.exprs e) cells answers (u 0 0 (omega arith))) (λ v left w. f v left)

  deeds : (k : Kind) → KindThere p k → Gives (length p.starts) (DeedThere p) (ask_deed p.exprs k cells answers)
  deeds (kind.Set (target.Local c) e) h = valued e (λ v left. gives left (set_local c v)) h.uses (λ v left. tt)
  deeds (kind.Set (target.LocalAt base len i) e) h = stored p (length p.starts) free (term p.exprs i) (term p.exprs e) base len set_local cells answers (h.uses 0 0 (omega arith)) (h.uses 1 0 (omega arith)) (λ at left. lift_gives (length p.starts) left (element base len at)) (λ c v q. tt)
  deeds (kind.Set (target.Shared c) e) h = valued e (λ v left. gives left (set_shared c v)) h.uses (λ v left. h.writes)
  deeds (kind.Set (target.SharedAt base len i) e) h = stored p (length p.starts) (λ c. c < length p.starts) (term p.exprs i) (term p.exprs e) base len set_shared cells answers (h.uses 0 0 (omega arith)) (h.uses 1 0 (omega arith)) (λ at left. element_gives (length p.starts) base len at left h.writes) (λ c v q. q)
  deeds (kind.Zero base len) h = tt
  deeds (kind.If e first second) h = valued e (λ v left. gives left (branch (if int_eq v (pos 0) then second else first))) h.uses (λ v left. tt)
  deeds (kind.While e body) h = valued e (λ v left. gives left (if int_eq v (pos 0) then leave else turn body)) h.uses (λ v left. turned p (int_eq v (pos 0)) body)
  deeds (kind.Call f args into) h = then_gives (length p.starts) free (DeedThere p) (ask_all p.exprs args cells answers) (λ vs left. gives left (invoke f vs into)) (asks_all (length p.starts) p.exprs args cells answers h.uses) (λ vs left u. tt)
  deeds (kind.Return None) h = tt
  deeds (kind.Return (Some e)) h = valued e (λ v left. gives left (back (Some v))) h.uses (λ v left. tt)
  deeds (kind.P s) h = h.object
  deeds (kind.V s) h = h.object
  deeds (kind.Send c e) h = valued e (λ v left. gives left (send c v)) h.uses (λ v left. h.object)
  deeds (kind.Recv c into) h = h.object
  deeds (kind.Print e) h = valued e (λ v left. gives left (print v)) h.uses (λ v left. tt)
  deeds (kind.Assert e) h = valued e (λ v left. if int_eq v (pos 0) then Err (Traps trap.Assert) else gives left pass) h.uses (λ v left. if_gives (length p.starts) (DeedThere p) (int_eq v (pos 0)) (Err (Traps trap.Assert)) (gives left pass) tt tt)
  deeds kind.End h = tt

-- ---- needs

if_there : (p : Program) (b : Bool) (x y : Need) → NamesThere p x → NamesThere p y → NamesThere p (if b then x else y)
if_there p true x y h g = h
if_there p false x y h g = g

leaving : (p : Program) (plan : Plan) (t : ℕ) (o : Option ℕ) → NamesThere p (need_of_leaving plan t o)
leaving p plan t None = tt
leaving p plan t (Some b) = tt

sending : (p : Program) (plan : Plan) (t n c : ℕ) (v : ℤ) → c < length p.chans → NamesThere p (need_of_send plan t n c v)
sending p plan t zero c v h = h
sending p plan t (suc n) c v h = h

deed_need : (p : Program) (plan : Plan) (t : ℕ) (s : Proc) (d : Deed) → DeedThere p d → NamesThere p (need_of_deed p plan t s d)
deed_need p plan t s (set_local c v) h = tt
deed_need p plan t s (set_shared c v) h = h
deed_need p plan t s (clear base len) h = tt
deed_need p plan t s (branch stmts) h = tt
deed_need p plan t s (turn stmts) h = tt
deed_need p plan t s leave h = leaving p plan t _
deed_need p plan t s (invoke f values into) h = if_there p (nat_lt MOST_CALLS (s.below + length s.frames)) (need.Trap trap.Depth) (need.Invoke _ _) tt tt
deed_need p plan t s (back value) h = tt
deed_need p plan t s (take sem) h = h
deed_need p plan t s (give sem) h = h
deed_need p plan t s (send chan value) h = sending p plan t (capacity_of p chan) chan value h
deed_need p plan t s (receive chan into) h = h
deed_need p plan t s (print v) h = tt
deed_need p plan t s pass h = tt
deed_need p plan t s finish h = tt

asked_need : (p : Program) (plan : Plan) (t : ℕ) (s : Proc) (asked : Asked Deed) → Gives (length p.starts) (DeedThere p) asked → NamesThere p (need_of_asked p plan t s asked)
asked_need p plan t s (Ok q) h = deed_need p plan t s q.0 h
asked_need p plan t s (Err (Wants c)) h = h
asked_need p plan t s (Err (Traps x)) h = tt

entered_need : (p : Program) (plan : Plan) (t : ℕ) (s : Proc) (o : Option ℕ) (asked : Asked Deed) → Gives (length p.starts) (DeedThere p) asked → NamesThere p (need_by_entry p plan t s o asked)
entered_need p plan t s (Some b) asked h = tt
entered_need p plan t s None asked h = asked_need p plan t s asked h

some : {x y : ℕ} → Some x ≡ Some y → x ≡ y
some e = cc

offered_need : (p : Program) (plan : Plan) (t : ℕ) (o : Option ℕ) (n : Need) → ((c : ℕ) → o ≡ Some c → c < length p.chans) → NamesThere p n → NamesThere p (need_by_offer plan t o n)
offered_need p plan t (Some c) n h g = h c refl
offered_need p plan t None n h g = g

send_there : (p : Program) (k : Kind) (c : ℕ) → chan_of k ≡ Some c → HasObject p k → c < length p.chans
send_there p (kind.Send d e) c is h = subst (λ (x : ℕ). x < length p.chans) (some is) h
send_there p k c is h = absurd (none-some c is)

head_need : (p : Program) (plan : Plan) (t : Todo) (s : Proc) → IsValid p → NamesThere p (need_of_head p plan t s)
head_need p plan t s v =
    offered_need p plan t.stmt (offer_of p t) _ (λ c e. send_there p (kind_of p t.stmt) c (offer_there t.offered (chan_of (kind_of p t.stmt)) c e) (kind_at p t.stmt (slice_get p.stmts t.stmt) v refl).object)
    (entered_need p plan t.stmt s (entry_of p plan t) (head_deed p t s) (deeds p (top_frame s.frames).cells s.answers (kind_of p t.stmt) (kind_at p t.stmt (slice_get p.stmts t.stmt) v refl)))

running_need : (p : Program) (plan : Plan) (ts : List Todo) (s : Proc) → IsValid p → NamesThere p (need_of_running p plan ts s)
running_need p plan [] s v = tt
running_need p plan (t ∷ ts) s v = if_there p (nat_lt s.budget (s.spent + cost plan (need_of_head p plan t s))) need.Budget (need_of_head p plan t s) tt (head_need p plan t s v)

status_need : (p : Program) (plan : Plan) (o : Option Status) (s : Proc) → IsValid p → NamesThere p (need_by_status p plan o s)
status_need p plan (Some x) s v = tt
status_need p plan None s v = running_need p plan s.todo s v

pub needs-there : (program : Program) (plan : Plan) (s : Proc) → IsValid program → NamesThere program (need_of program plan s)
needs-there p plan s v = status_need p plan s.status s v
