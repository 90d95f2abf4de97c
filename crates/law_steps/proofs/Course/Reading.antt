-- A shared cell that a statement wants is one that its expressions may read.
use Rattle.std.proofs.Common.{◌≡◌, ℕ, ◌+◌, ◌<◌, ◌≤◌, ℤ, pos, negsuc, neg_ℤ, Bool, true, false, nat_lt, List, [], ◌∷◌, Option, Some, None, Result, Ok, Err, refl, subst, arith, if◌then◌else◌}
use Rattle.std.specs.Prelude.{IsTrue, not as negated, ⊤, get_or}
use Rattle.std.specs.List.{range_with_len}
use Rattle.std.proofs.lemmas.Bool.Decides.{nat_tests}
use Rattle.std.specs.Ordering.{int_eq}
use Rattle.ppd_ast.specs.declared.plan.Plan.{Plan}
use Rattle.ppd_ast.specs.declared.program.Expr.{Expr}
use Rattle.ppd_ast.specs.declared.program.Kind.{Kind}
use Rattle.ppd_ast.specs.declared.program.Kind.TheVariants as K
use Rattle.ppd_ast.specs.declared.program.Program.{Program}
use Rattle.ppd_ast.specs.declared.program.Target.TheVariants as T
use Rattle.ppd_ast.specs.declared.status.Status.{Status}
use Rattle.ppd_ast.specs.declared.status.Trap.{Trap}
use Rattle.ppd_ast.specs.declared.status.Trap.TheVariants.{Index}
use Rattle.ppd_ast.specs.declared.status.Trap.TheVariants as trap
use Rattle.ppd_ast.specs.Term.{Term, const, local, local_at, shared, shared_at, neg, not, two, and, or, term}
use Rattle.ppd_ast.specs.Uses.{kind_uses}
use Rattle.ppd_ast.specs.Members.{has}
use Rattle.ppd_ast.specs.Lookups.{kind_of}
use Rattle.ppd_ast.proofs.Members.{has_first, has_later, has_left, has_right, in_bounds_has, flat_from}
use Rattle.ppd_sem.specs.declared.asking.Pause.TheVariants.{Wants, Traps}
use Rattle.ppd_sem.specs.declared.proc.Need.{Need}
use Rattle.ppd_sem.specs.declared.proc.Need.TheVariants as need
use Rattle.ppd_sem.specs.declared.proc.Proc.{Proc}
use Rattle.ppd_sem.specs.declared.proc.Todo.{Todo}
use Rattle.ppd_sem.specs.Ask.{ask, calc, checked, element, truth}
use Rattle.ppd_sem.specs.Asked.{Asked, and_then, gives, lift, read_shared}
use Rattle.ppd_sem.specs.Deed.{Deed, set_local, set_shared, branch, turn, leave, invoke, back, send, print, pass, ask_all, ask_deed, ask_stored}
use Rattle.ppd_sem.specs.Process.{offer_of, cost, entry_of, head_deed, need_of_deed, need_of_head, top_frame}
use Rattle.ppd_sem.proofs.NeedWords.{need_by_entry, need_by_offer, need_by_status, need_of_running}
use Rattle.ppd_sem.specs.Passed.{next_stmt_of}
use Rattle.ppd_sem.proofs.Offers.{IsDeedNeed, deed_need}
use Rattle.ppd_sem.proofs.Needs.{free}
use Rattle.ppd_blocks.specs.Named.{cells_in, reads}
use Rattle.law_steps.specs.Steps.{ReadsItsCells}
use Rattle.ppd_model.proofs.Changes.{some}
use Rattle.ppd_model.proofs.Parents.{none_some}

-- the value is such, or what is wanted is such a cell
abbrev Gives : {A : Type 0} → (ℕ → Type 0) → (A → Type 0) → Asked A → Type 0
Gives W Q (Ok p) = Q p.0
Gives W Q (Err (Wants c)) = W c
Gives W Q (Err (Traps t)) = ⊤

then_gives : {A B : Type 0} (W : ℕ → Type 0) (Q : A → Type 0) (a : Asked A) (next : A → List ℤ → Asked B) → Gives W Q a → ((x : A) (left : List ℤ) → Q x → Gives W free (next x left)) → Gives W free (and_then a next)
then_gives W Q (Ok p) next h f = f p.0 p.1 h
then_gives W Q (Err (Wants c)) next h f = h
then_gives W Q (Err (Traps t)) next h f = tt

lift_gives : {A : Type 0} (W : ℕ → Type 0) (left : List ℤ) (r : Result A Trap) → Gives W free (lift left r)
lift_gives W left (Ok x) = tt
lift_gives W left (Err t) = tt

if_gives : {A : Type 0} (W : ℕ → Type 0) (b : Bool) (x y : Asked A) → Gives W free x → Gives W free y → Gives W free (if b then x else y)
if_gives W true x y h g = h
if_gives W false x y h g = g

element_gives : (W : ℕ → Type 0) (base len : ℕ) (at : ℤ) (left : List ℤ) → ((c : ℕ) → base ≤ c → c < base + len → W c) → Gives W W (lift left (element base len at))
element_gives W base len (pos i) left all = by (nat_lt i len) refl
  where
    by : (b : Bool) → nat_lt i len ≡ b → Gives W W (lift left (if b then Ok (base + i) else Err Index))
    by true e = let lt : i < len = grind (arith, nat_tests) in all (base + i) (omega arith) (omega arith)
    by false e = tt
element_gives W base len (negsuc i) left all = tt

read_gives : (W : ℕ → Type 0) (c : ℕ) (left : List ℤ) → W c → Gives W free (read_shared left c)
read_gives W c [] w = w
read_gives W c (v ∷ left) w = tt

-- each shared cell that the expression may read is such
abbrev AllIn : (ℕ → Type 0) → Term → Type 0
AllIn W t = (c : ℕ) → IsTrue (has (cells_in true t) c) → W c

asks : (W : ℕ → Type 0) (t : Term) (cells answers : List ℤ) → AllIn W t → Gives W free (ask t cells answers)
asks W (const v) cells answers h = tt
asks W (local c) cells answers h = tt
asks W (local_at base len i) cells answers h =
    then_gives W free (ask i cells answers) (λ at left. and_then (lift left (element base len at)) (λ c left. gives left (get_or cells c (pos 0)))) (asks W i cells answers h)
    (λ at left u. then_gives W free (lift left (element base len at)) (λ c left. gives left (get_or cells c (pos 0))) (lift_gives W left (element base len at)) (λ c left u. tt))
asks W (shared c) cells answers h = read_gives W c answers (h c (has_first c []))
asks W (shared_at base len i) cells answers h =
    then_gives W free (ask i cells answers) (λ at left. and_then (lift left (element base len at)) (λ c left. read_shared left c))
    (asks W i cells answers (λ c k. h c (has_right (range_with_len base len) (cells_in true i) c k)))
    (λ at left u. then_gives W W (lift left (element base len at)) (λ c left. read_shared left c)
    (element_gives W base len at left (λ c low high. h c (has_left (range_with_len base len) (cells_in true i) c (in_bounds_has base len c low high))))
    (λ c left w. read_gives W c left w))
asks W (neg a) cells answers h =
    then_gives W free (ask a cells answers) (λ x left. lift left (checked (neg_ℤ x))) (asks W a cells answers h) (λ x left u. lift_gives W left (checked (neg_ℤ x)))
asks W (not a) cells answers h = then_gives W free (ask a cells answers) (λ x left. gives left (truth (int_eq x (pos 0)))) (asks W a cells answers h) (λ x left u. tt)
asks W (two op a b) cells answers h =
    then_gives W free (ask a cells answers) (λ x left. and_then (ask b cells left) (λ y left. lift left (calc op x y))) (asks W a cells answers (λ c k. h c (has_left (cells_in true a) (cells_in true b) c k)))
    (λ x left u. then_gives W free (ask b cells left) (λ y left. lift left (calc op x y)) (asks W b cells left (λ c k. h c (has_right (cells_in true a) (cells_in true b) c k))) (λ y left u. lift_gives W left (calc op x y)))
asks W (and a b) cells answers h =
    then_gives W free (ask a cells answers) (λ x left. if int_eq x (pos 0) then gives left (pos 0) else and_then (ask b cells left) (λ y left. gives left (truth (negated (int_eq y (pos 0))))))
    (asks W a cells answers (λ c k. h c (has_left (cells_in true a) (cells_in true b) c k)))
    (λ x left u. if_gives W (int_eq x (pos 0)) (gives left (pos 0)) (and_then (ask b cells left) (λ y left. gives left (truth (negated (int_eq y (pos 0)))))) tt
    (then_gives W free (ask b cells left) (λ y left. gives left (truth (negated (int_eq y (pos 0))))) (asks W b cells left (λ c k. h c (has_right (cells_in true a) (cells_in true b) c k))) (λ y left u. tt)))
asks W (or a b) cells answers h =
    then_gives W free (ask a cells answers) (λ x left. if int_eq x (pos 0) then and_then (ask b cells left) (λ y left. gives left (truth (negated (int_eq y (pos 0))))) else gives left (pos 1))
    (asks W a cells answers (λ c k. h c (has_left (cells_in true a) (cells_in true b) c k)))
    (λ x left u. if_gives W (int_eq x (pos 0)) (and_then (ask b cells left) (λ y left. gives left (truth (negated (int_eq y (pos 0)))))) (gives left (pos 1))
    (then_gives W free (ask b cells left) (λ y left. gives left (truth (negated (int_eq y (pos 0))))) (asks W b cells left (λ c k. h c (has_right (cells_in true a) (cells_in true b) c k))) (λ y left u. tt)) tt)

asks_all : (W : ℕ → Type 0) (es : List Expr) (uses : List ℕ) (cells answers : List ℤ) → ((e : ℕ) → IsTrue (has uses e) → AllIn W (term es e)) → Gives W free (ask_all es uses cells answers)
asks_all W es [] cells answers h = tt
asks_all W es (a ∷ rest) cells answers h =
    then_gives W free (ask (term es a) cells answers) (λ v left. and_then (ask_all es rest cells left) (λ vs left. gives left (v ∷ vs))) (asks W (term es a) cells answers (h a (has_first a rest)))
    (λ v left u. then_gives W free (ask_all es rest cells left) (λ vs left. gives left (v ∷ vs)) (asks_all W es rest cells left (λ e k. h e (has_later a e rest k))) (λ vs left u. tt))

-- ---- statements

module _ (W : ℕ → Type 0) (es : List Expr) (cells answers : List ℤ) where
  stored : (i e : Term) (base len : ℕ) (store : ℕ → ℤ → Deed) → AllIn W i → AllIn W e → Gives W free (ask_stored i e base len store cells answers)
  stored i e base len store hi he =
      then_gives W free (ask i cells answers) (λ at left. and_then (lift left (element base len at)) (λ c left. and_then (ask e cells left) (λ v left. gives left (store c v)))) (asks W i cells answers hi)
      (λ at left u. then_gives W free (lift left (element base len at)) (λ c left. and_then (ask e cells left) (λ v left. gives left (store c v))) (lift_gives W left (element base len at))
      (λ c left q. then_gives W free (ask e cells left) (λ v left. gives left (store c v)) (asks W e cells left he) (λ v left u. tt)))

  -- one value, and then the deed
  valued : (e : ℕ) (next : ℤ → List ℤ → Asked Deed) → ((i : ℕ) → IsTrue (has (e ∷ []) i) → AllIn W (term es i)) → ((v : ℤ) (left : List ℤ) → Gives W free (next v left)) → Gives W free (and_then (ask (term es e) cells answers) next)
  valued e next u f = then_gives W free (ask (term es e) cells answers) next (asks W (term es e) cells answers (u e (has_first e []))) (λ v left w. f v left)

  deeds : (k : Kind) → ((e : ℕ) → IsTrue (has (kind_uses k) e) → AllIn W (term es e)) → Gives W free (ask_deed es k cells answers)
  deeds (K.Set (T.Local c) e) h = valued e (λ v left. gives left (set_local c v)) h (λ v left. tt)
  deeds (K.Set (T.LocalAt base len i) e) h = stored (term es i) (term es e) base len set_local (h i (has_first i (e ∷ []))) (h e (has_later i e (e ∷ []) (has_first e [])))
  deeds (K.Set (T.Shared c) e) h = valued e (λ v left. gives left (set_shared c v)) h (λ v left. tt)
  deeds (K.Set (T.SharedAt base len i) e) h = stored (term es i) (term es e) base len set_shared (h i (has_first i (e ∷ []))) (h e (has_later i e (e ∷ []) (has_first e [])))
  deeds (K.Zero base len) h = tt
  deeds (K.If e first second) h = valued e (λ v left. gives left (branch (if int_eq v (pos 0) then second else first))) h (λ v left. tt)
  deeds (K.While e body) h = valued e (λ v left. gives left (if int_eq v (pos 0) then leave else turn body)) h (λ v left. tt)
  deeds (K.Call f args into) h = then_gives W free (ask_all es args cells answers) (λ vs left. gives left (invoke f vs into)) (asks_all W es args cells answers h) (λ vs left u. tt)
  deeds (K.Return None) h = tt
  deeds (K.Return (Some e)) h = valued e (λ v left. gives left (back (Some v))) h (λ v left. tt)
  deeds (K.P s) h = tt
  deeds (K.V s) h = tt
  deeds (K.Send c e) h = valued e (λ v left. gives left (send c v)) h (λ v left. tt)
  deeds (K.Recv c into) h = tt
  deeds (K.Print e) h = valued e (λ v left. gives left (print v)) h (λ v left. tt)
  deeds (K.Assert e) h = valued e (λ v left. if int_eq v (pos 0) then Err (Traps trap.Assert) else gives left pass) h (λ v left. if_gives W (int_eq v (pos 0)) (Err (Traps trap.Assert)) (gives left pass) tt tt)
  deeds K.End h = tt

-- ---- needs

-- a read is of such a cell
abbrev ReadsSuch : (ℕ → Type 0) → Need → Type 0
ReadsSuch W (need.Read c) = W c
ReadsSuch W n = ⊤

if_reads : (W : ℕ → Type 0) (b : Bool) (x y : Need) → ReadsSuch W x → ReadsSuch W y → ReadsSuch W (if b then x else y)
if_reads W true x y h g = h
if_reads W false x y h g = g

no_read : (W : ℕ → Type 0) (n : Need) → IsDeedNeed n → ReadsSuch W n
no_read W (need.Read c) h = absurd h
no_read W n h = tt

offered_need : (W : ℕ → Type 0) (plan : Plan) (t : ℕ) (o : Option ℕ) (n : Need) → ReadsSuch W n → ReadsSuch W (need_by_offer plan t o n)
offered_need W plan t (Some c) n h = tt
offered_need W plan t None n h = h

entered_need : (W : ℕ → Type 0) (p : Program) (plan : Plan) (t : ℕ) (s : Proc) (o : Option ℕ) (asked : Asked Deed) → Gives W free asked → ReadsSuch W (need_by_entry p plan t s o asked)
entered_need W p plan t s (Some b) asked h = tt
entered_need W p plan t s None (Ok q) h = no_read W (need_of_deed p plan t s q.0) (deed_need p plan t s q.0)
entered_need W p plan t s None (Err (Wants c)) h = h
entered_need W p plan t s None (Err (Traps x)) h = tt

head_need : (p : Program) (plan : Plan) (t : Todo) (s : Proc) → ReadsSuch (λ c. IsTrue (has (reads true p.exprs (kind_of p t.stmt)) c)) (need_of_head p plan t s)
head_need p plan t s =
    let k : Kind = kind_of p t.stmt in
    offered_need (λ c. IsTrue (has (reads true p.exprs k) c)) plan t.stmt (offer_of p t) (need_by_entry p plan t.stmt s (entry_of p plan t) (head_deed p t s))
    (entered_need (λ c. IsTrue (has (reads true p.exprs k) c)) p plan t.stmt s (entry_of p plan t) (head_deed p t s)
    (deeds (λ c. IsTrue (has (reads true p.exprs k) c)) p.exprs (top_frame s.frames).cells s.answers k
    (λ e u c h. flat_from (λ e. cells_in true (term p.exprs e)) (kind_uses k) e c u h)))

running_need : (p : Program) (plan : Plan) (ts : List Todo) (s : Proc) (h : ℕ) → next_stmt_of ts ≡ Some h → ReadsSuch (λ c. IsTrue (has (reads true p.exprs (kind_of p h)) c)) (need_of_running p plan ts s)
running_need p plan [] s h e = absurd (none_some e)
running_need p plan (t ∷ ts) s h e =
    subst (λ i. ReadsSuch (λ c. IsTrue (has (reads true p.exprs (kind_of p i)) c)) (need_of_running p plan (t ∷ ts) s)) (some e)
    (if_reads (λ c. IsTrue (has (reads true p.exprs (kind_of p t.stmt)) c)) (nat_lt s.budget (s.spent + cost plan (need_of_head p plan t s))) need.Budget (need_of_head p plan t s) tt (head_need p plan t s))

status_need : (p : Program) (plan : Plan) (o : Option Status) (s : Proc) (h : ℕ) → next_stmt_of s.todo ≡ Some h → ReadsSuch (λ c. IsTrue (has (reads true p.exprs (kind_of p h)) c)) (need_by_status p plan o s)
status_need p plan (Some x) s h e = tt
status_need p plan None s h e = running_need p plan s.todo s h e

pub reads_its_cells : ReadsItsCells
reads_its_cells p plan s h c head is =
    subst (λ n. ReadsSuch (λ c. IsTrue (has (reads true p.exprs (kind_of p h)) c)) n) is (status_need p plan s.status s h head)
