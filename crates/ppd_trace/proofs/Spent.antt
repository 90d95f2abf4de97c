-- The cells of a step are those of its statement at most, and the steps of a story those of its schedule.
use Rattle.ppd_model.specs.Setting.{Setting}
use Rattle.std.proofs.Common.{◌≡◌, ℕ, zero, suc, ◌+◌, ◌≤◌, ℤ, Bool, true, false, cond, List, [], ◌∷◌, ◌++◌, length, map, Option, Some, None, Ok, Err, refl, ap, sym, ◌∙◌, subst, arith, length-append}
use Rattle.std.specs.Prelude.{fold, slice_get, get_or, pos}
use Rattle.std.specs.List.{sum_by}
use Rattle.std.proofs.lemmas.List.{length-map, length-set}
use Rattle.std.proofs.lemmas.List.Sums.{sum_by-cons}
use Rattle.std.specs.Ordering.{int_eq}
use Rattle.ppd_ast.specs.declared.plan.Plan.{Plan}
use Rattle.ppd_ast.specs.declared.program.Expr.{Expr}
use Rattle.ppd_ast.specs.declared.program.Kind.{Kind}
use Rattle.ppd_ast.specs.declared.program.Kind.TheVariants.{Set, Zero, If, While, Call, Return, P, V, Send, Recv, Print, Assert, End}
use Rattle.ppd_ast.specs.declared.program.Program.{Program}
use Rattle.ppd_ast.specs.declared.program.Stmt.{Stmt}
use Rattle.ppd_ast.specs.declared.program.Target.TheVariants as target
use Rattle.ppd_ast.specs.declared.status.Trap.TheVariants as trap
use Rattle.ppd_ast.specs.Term.{Term, const, local, local_at, shared, shared_at, neg, not, two, and, or, term}
use Rattle.ppd_ast.specs.Uses.{kind_uses}
use Rattle.ppd_ast.specs.Lookups.{kind_of, body_numbered}
use Rattle.ppd_ast.proofs.Vocabulary.{kind_of_stmt}
use Rattle.ppd_sem.specs.declared.asking.Pause.TheVariants.{Traps}
use Rattle.ppd_sem.specs.declared.proc.Need.{Need}
use Rattle.ppd_sem.specs.declared.proc.Need.TheVariants.{Write}
use Rattle.ppd_sem.specs.declared.proc.Proc.{Proc}
use Rattle.ppd_sem.specs.declared.proc.Todo.{Todo}
use Rattle.ppd_sem.specs.Ask.{ask, element}
use Rattle.ppd_sem.specs.Asked.{Asked, and_then, gives, lift, once, outcome}
use Rattle.ppd_sem.specs.Deed.{Deed, ask_all, ask_deed, clear, invoke, leave, pass, turn}
use Rattle.ppd_sem.specs.Passed.{arguments_at, arguments_by, deed_at, deed_by, deed_of_head, kind_if}
use Rattle.ppd_sem.proofs.EventWords.{arguments_of_head}
use Rattle.ppd_sem.specs.Process.{head_deed, need_of, top_frame}
use Rattle.ppd_sem.specs.Described.{evaluates}
use Rattle.ppd_sem.specs.declared.event.Access.{Access}
use Rattle.ppd_sem.specs.Reads.{ask_place, reads_of, reads_of_all, reads_of_kind, reads_of_stored, shared_read, local_accesses}
use Rattle.ppd_model.specs.declared.tracing.Taken.{Taken}
use Rattle.ppd_model.specs.FullTrace.{Tag, event_of}
use Rattle.ppd_model.specs.Schedule.{started_world}
use Rattle.ppd_model.specs.Story.{Moment, Telling, begun, moment_of, steps_of, story, tell, told}
use Rattle.ppd_model.specs.World.{World, change, effect, need}
use Rattle.ppd_world.specs.Running.{Running}
use Rattle.ppd_trace.specs.Telling.{Tells}
use Rattle.ppd_trace.specs.Spending.{cells_in, cells_of_step, most, most_statement_cells, reads_in, reads_in_all, steps_in, writes_in, written_by}

zero_le : (n : ℕ) → 0 ≤ n
zero_le n = omega arith

-- ---- reads

brought : {A B : Type 0} (r : Asked A) (bring : A → List ℤ → List B) (n : ℕ) → ((x : A) (left : List ℤ) → length (bring x left) ≤ n) → length (once r bring) ≤ n
brought (Ok p) bring n h = h p.0 p.1
brought (Err pause) bring n h = zero_le n

both : {B : Type 0} (xs ys : List B) (m n : ℕ) → length xs ≤ m → length ys ≤ n → length (xs ++ ys) ≤ m + n
both xs ys m n h k = let all : length (xs ++ ys) ≡ length xs + length ys = length-append xs ys in omega arith

one_shared : (c : ℕ) (answers : List ℤ) → length (shared_read c answers) ≤ 1
one_shared c [] = zero_le 1
one_shared c (v ∷ left) = omega arith

few_if : {B : Type 0} (b : Bool) (xs : List B) (n : ℕ) → length xs ≤ n → length (cond b [] xs) ≤ n
few_if true xs n h = zero_le n
few_if false xs n h = h

few_unless : {B : Type 0} (b : Bool) (xs : List B) (n : ℕ) → length xs ≤ n → length (cond b xs []) ≤ n
few_unless true xs n h = h
few_unless false xs n h = zero_le n

module _ (frame : ℕ) (cells : List ℤ) where
  few_reads : (t : Term) (answers : List ℤ) → length (reads_of frame t cells answers) ≤ reads_in t
  few_reads (const v) answers = zero_le 0
  few_reads (local c) answers = omega arith
  few_reads (local_at base len i) answers =
      both (reads_of frame i cells answers) (once (ask_place i base len cells answers) (λ c left. local_accesses frame c (get_or cells c (pos 0) ∷ []))) (reads_in i) 1 (few_reads i answers)
      (brought (ask_place i base len cells answers) (λ c left. local_accesses frame c (get_or cells c (pos 0) ∷ [])) 1 (λ c left. omega arith))
  few_reads (shared c) answers = one_shared c answers
  few_reads (shared_at base len i) answers =
      both (reads_of frame i cells answers) (once (ask_place i base len cells answers) (λ c left. shared_read c left)) (reads_in i) 1 (few_reads i answers)
      (brought (ask_place i base len cells answers) (λ c left. shared_read c left) 1 one_shared)
  few_reads (neg a) answers = few_reads a answers
  few_reads (not a) answers = few_reads a answers
  few_reads (two op a b) answers =
      both (reads_of frame a cells answers) (once (ask a cells answers) (λ x left. reads_of frame b cells left)) (reads_in a) (reads_in b) (few_reads a answers)
      (brought (ask a cells answers) (λ x left. reads_of frame b cells left) (reads_in b) (λ x left. few_reads b left))
  few_reads (and a b) answers =
      both (reads_of frame a cells answers) (once (ask a cells answers) (λ x left. cond (int_eq x (pos 0)) [] (reads_of frame b cells left))) (reads_in a) (reads_in b) (few_reads a answers)
      (brought (ask a cells answers) (λ x left. cond (int_eq x (pos 0)) [] (reads_of frame b cells left)) (reads_in b) (λ x left. few_if (int_eq x (pos 0)) (reads_of frame b cells left) (reads_in b) (few_reads b left)))
  few_reads (or a b) answers =
      both (reads_of frame a cells answers) (once (ask a cells answers) (λ x left. cond (int_eq x (pos 0)) (reads_of frame b cells left) [])) (reads_in a) (reads_in b) (few_reads a answers)
      (brought (ask a cells answers) (λ x left. cond (int_eq x (pos 0)) (reads_of frame b cells left) []) (reads_in b) (λ x left. few_unless (int_eq x (pos 0)) (reads_of frame b cells left) (reads_in b) (few_reads b left)))

  module _ (es : List Expr) where
    few_of_all : (as' : List ℕ) (answers : List ℤ) → length (reads_of_all frame es as' cells answers) ≤ reads_in_all es as'
    few_of_all [] answers = zero_le 0
    few_of_all (a ∷ as') answers =
        both (reads_of frame (term es a) cells answers) (once (ask (term es a) cells answers) (λ v left. reads_of_all frame es as' cells left)) (reads_in (term es a)) (reads_in_all es as') (few_reads (term es a) answers)
        (brought (ask (term es a) cells answers) (λ v left. reads_of_all frame es as' cells left) (reads_in_all es as') (λ v left. few_of_all as' left))

    alone : (e : ℕ) (answers : List ℤ) → length (reads_of frame (term es e) cells answers) ≤ reads_in (term es e) + 0
    alone e answers = let few : length (reads_of frame (term es e) cells answers) ≤ reads_in (term es e) = few_reads (term es e) answers in omega arith

    stored : (i e base len : ℕ) (answers : List ℤ) → length (reads_of_stored frame (term es i) (term es e) base len cells answers) ≤ reads_in (term es i) + (reads_in (term es e) + 0)
    stored i e base len answers =
        both (reads_of frame (term es i) cells answers) (once (ask_place (term es i) base len cells answers) (λ c left. reads_of frame (term es e) cells left)) (reads_in (term es i)) (reads_in (term es e) + 0) (few_reads (term es i) answers)
        (brought (ask_place (term es i) base len cells answers) (λ c left. reads_of frame (term es e) cells left) (reads_in (term es e) + 0) (λ c left. alone e left))

    few_of_kind : (k : Kind) (answers : List ℤ) → length (reads_of_kind frame es k cells answers) ≤ reads_in_all es (kind_uses k)
    few_of_kind (Set (target.Local c) e) answers = alone e answers
    few_of_kind (Set (target.LocalAt base len i) e) answers = stored i e base len answers
    few_of_kind (Set (target.Shared c) e) answers = alone e answers
    few_of_kind (Set (target.SharedAt base len i) e) answers = stored i e base len answers
    few_of_kind (Zero base len) answers = zero_le 0
    few_of_kind (If e first second) answers = alone e answers
    few_of_kind (While e body) answers = alone e answers
    few_of_kind (Call f arguments into) answers = few_of_all arguments answers
    few_of_kind (Return None) answers = zero_le 0
    few_of_kind (Return (Some e)) answers = alone e answers
    few_of_kind (P s) answers = zero_le 0
    few_of_kind (V s) answers = zero_le 0
    few_of_kind (Send c e) answers = alone e answers
    few_of_kind (Recv c into) answers = zero_le 0
    few_of_kind (Print e) answers = alone e answers
    few_of_kind (Assert e) answers = alone e answers
    few_of_kind End answers = zero_le 0

-- ---- writes

-- the arguments that are there
abbrev count : Asked (List ℤ) → ℕ
count (Ok q) = length q.0
count (Err pause) = 0

counted : (r : Asked ℤ) (next : ℤ → List ℤ → Asked (List ℤ)) (n : ℕ) → ((x : ℤ) (left : List ℤ) → count (next x left) ≤ n) → count (and_then r next) ≤ n
counted (Ok p) next n h = h p.0 p.1
counted (Err pause) next n h = zero_le n

with_first : (v : ℤ) (r : Asked (List ℤ)) (n : ℕ) → count r ≤ n → count (and_then r (λ vs left. gives left (v ∷ vs))) ≤ suc n
with_first v (Ok q) n h = omega arith
with_first v (Err pause) n h = zero_le (suc n)

few_values : (es : List Expr) (as' : List ℕ) (cells answers : List ℤ) → count (ask_all es as' cells answers) ≤ length as'
few_values es [] cells answers = zero_le 0
few_values es (a ∷ as') cells answers =
    counted (ask (term es a) cells answers) (λ v left. and_then (ask_all es as' cells left) (λ vs last. gives last (v ∷ vs))) (suc (length as')) (λ v left.
    with_first v (ask_all es as' cells left) (length as') (few_values es as' cells left))

-- the cells that a deed with these arguments clears or begins a call with
abbrev written_with : Program → List ℤ → Option Deed → ℕ
written_with program values (Some (clear base len)) = len
written_with program values (Some (invoke f vs into)) = length values + (body_numbered program f).cells
written_with program values deed = 0

module _ (program : Program) where
  abbrev written : Asked Deed → ℕ
  written asked = written_with program (arguments_by asked) (deed_by (outcome asked))

  after : {A : Type 0} (r : Asked A) (next : A → List ℤ → Asked Deed) (n : ℕ) → ((x : A) (left : List ℤ) → written (next x left) ≤ n) → written (and_then r next) ≤ n
  after (Ok p) next n h = h p.0 p.1
  after (Err pause) next n h = zero_le n

  turns : (b : Bool) (body : List ℕ) (left : List ℤ) → written (gives left (cond b leave (turn body))) ≤ 0
  turns true body left = zero_le 0
  turns false body left = zero_le 0

  module _ (es : List Expr) (cells : List ℤ) where
    plain : (e : ℕ) (next : ℤ → List ℤ → Asked Deed) (answers : List ℤ) → ((x : ℤ) (left : List ℤ) → written (next x left) ≤ 0) → written (and_then (ask (term es e) cells answers) next) ≤ 0
    plain e next answers h = after (ask (term es e) cells answers) next 0 h

    few_of_deed : (k : Kind) (answers : List ℤ) → written (ask_deed es k cells answers) ≤ writes_in program k
    few_of_deed (Set (target.Local c) e) answers = plain e _ answers (λ v left. zero_le 0)
    few_of_deed (Set (target.LocalAt base len i) e) answers =
        plain i _ answers (λ at left. after (lift left (element base len at)) _ 0 (λ c mid. plain e _ mid (λ v last. zero_le 0)))
    few_of_deed (Set (target.Shared c) e) answers = plain e _ answers (λ v left. zero_le 0)
    few_of_deed (Set (target.SharedAt base len i) e) answers =
        plain i _ answers (λ at left. after (lift left (element base len at)) _ 0 (λ c mid. plain e _ mid (λ v last. zero_le 0)))
    few_of_deed (Zero base len) answers = omega arith
    few_of_deed (If e first second) answers = plain e _ answers (λ v left. zero_le 0)
    few_of_deed (While e body) answers = plain e _ answers (λ v left. turns (int_eq v (pos 0)) body left)
    few_of_deed (Call f arguments into) answers = by (ask_all es arguments cells answers) (few_values es arguments cells answers)
      where
        by : (r : Asked (List ℤ)) → count r ≤ length arguments → written (and_then r (λ vs left. gives left (invoke f vs into))) ≤ length arguments + (body_numbered program f).cells
        by (Ok q) few = omega arith
        by (Err pause) few = zero_le (length arguments + (body_numbered program f).cells)
    few_of_deed (Return None) answers = zero_le 0
    few_of_deed (Return (Some e)) answers = plain e _ answers (λ v left. zero_le 0)
    few_of_deed (P s) answers = zero_le 0
    few_of_deed (V s) answers = zero_le 0
    few_of_deed (Send c e) answers = plain e _ answers (λ v left. zero_le 0)
    few_of_deed (Recv c into) answers = zero_le 0
    few_of_deed (Print e) answers = plain e _ answers (λ v left. zero_le 0)
    few_of_deed (Assert e) answers = plain e _ answers (λ v left. asserts (int_eq v (pos 0)) left)
      where
        asserts : (b : Bool) (left : List ℤ) → written (cond b (Err (Traps trap.Assert)) (gives left pass)) ≤ 0
        asserts true left = zero_le 0
        asserts false left = zero_le 0
    few_of_deed End answers = zero_le 0

-- ---- a step

same_written : (program : Program) (s : Proc) (d : Option Deed) → written_by program s d ≡ written_with program (arguments_at program s) d
same_written program s (Some (clear base len)) = refl
same_written program s (Some (invoke f vs into)) = refl
same_written program s d = refl

few_of_head : (program : Program) (s : Proc) (todo : List Todo) → s.todo ≡ todo → written_by program s (deed_at program s) ≤ writes_in program (kind_if program (slice_get todo 0))
few_of_head program s [] e =
    let none : written_by program s (deed_at program s) ≡ 0 = ap (λ (l : List Todo). written_by program s (deed_of_head program s (slice_get l 0))) e in
    subst (λ (n : ℕ). n ≤ writes_in program End) (sym none) (zero_le 0)
few_of_head program s (t ∷ ts) e =
    let same : written_by program s (deed_at program s) ≡ written program (head_deed program t s) =
    same_written program s (deed_at program s)
    ∙ ap (λ (l : List Todo). written_with program (arguments_of_head program s (slice_get l 0)) (deed_of_head program s (slice_get l 0))) e in
    subst (λ (n : ℕ). n ≤ writes_in program (kind_of program t.stmt)) (sym same) (few_of_deed program program.exprs (top_frame s.frames).cells (kind_of program t.stmt) s.answers)

few_evaluated : (b : Bool) (xs : List Access) (n : ℕ) → length xs ≤ n → length (cond b xs []) ≤ n
few_evaluated true xs n h = h
few_evaluated false xs n h = zero_le n

few_of_event : (program : Program) (plan : Plan) (s : Proc) (x : Taken) (todo : List Todo) → length (event_of program plan s x todo).reads ≤ reads_in_all program.exprs (kind_uses (kind_if program (slice_get todo 0)))
few_of_event program plan s x [] = zero_le 0
few_of_event program plan s x (t ∷ ts) =
    few_evaluated (evaluates (need_of program plan s)) _ _ (few_of_kind _ (top_frame s.frames).cells program.exprs (kind_of program t.stmt) s.answers)

most_at : (program : Program) (ss : List Stmt) (i : ℕ) → cells_in program (kind_of_stmt (slice_get ss i)) ≤ most (map (λ s. cells_in program s.kind) ss)
most_at program [] i = zero_le 0
most_at program (s ∷ ss) zero = omega arith
most_at program (s ∷ ss) (suc i) = let rest : cells_in program (kind_of_stmt (slice_get ss i)) ≤ most (map (λ s. cells_in program s.kind) ss) = most_at program ss i in omega arith

most_at_head : (program : Program) (todo : List Todo) → cells_in program (kind_if program (slice_get todo 0)) ≤ most_statement_cells program
most_at_head program [] = zero_le (most_statement_cells program)
most_at_head program (t ∷ ts) = most_at program program.stmts t.stmt

-- a step reads and writes no more cells than its statement
pub cells_within : (program : Program) (plan : Plan) (s : Proc) (x : Taken) → cells_of_step program plan s x ≤ most_statement_cells program
cells_within program plan s x =
    let reads : length (event_of program plan s x s.todo).reads ≤ reads_in_all program.exprs (kind_uses (kind_if program (slice_get s.todo 0))) = few_of_event program plan s x s.todo in
    let writes : written_by program s (deed_at program s) ≤ writes_in program (kind_if program (slice_get s.todo 0)) = few_of_head program s s.todo refl in
    let all : cells_in program (kind_if program (slice_get s.todo 0)) ≤ most_statement_cells program = most_at_head program s.todo in
    omega arith

-- ---- a story

one_more : (m : Moment) (p : ℕ) (moments : List (List Moment)) → sum_by length (change (λ ms. ms ++ m ∷ []) p moments) ≤ sum_by length moments + 1
one_more m p [] = omega arith
one_more m zero (ms ∷ rest) =
    let before : sum_by length (ms ∷ rest) ≡ length ms + sum_by length rest = sum_by-cons length ms rest in
    let now : sum_by length ((ms ++ m ∷ []) ∷ rest) ≡ length (ms ++ m ∷ []) + sum_by length rest = sum_by-cons length (ms ++ m ∷ []) rest in
    let one : length (ms ++ m ∷ []) ≡ length ms + 1 = length-append ms (m ∷ []) in
    omega arith
one_more m (suc p) (ms ∷ rest) =
    let next : List (List Moment) = change (λ ms. ms ++ m ∷ []) p rest in
    let before : sum_by length (ms ∷ rest) ≡ length ms + sum_by length rest = sum_by-cons length ms rest in
    let now : sum_by length (ms ∷ next) ≡ length ms + sum_by length next = sum_by-cons length ms next in
    let less : sum_by length next ≤ sum_by length rest + 1 = one_more m p rest in
    omega arith

told_more : (program : Program) (plan : Plan) (t : Telling) (h : List ℕ) → sum_by length (fold (tell program plan) t h).moments ≤ sum_by length t.moments + length h
told_more program plan t [] = omega arith
told_more program plan t (p ∷ h) =
    let next : Telling = tell program plan t p in
    let one : sum_by length next.moments ≤ sum_by length t.moments + 1 = one_more (moment_of program plan t p) p t.moments in
    let rest : sum_by length (fold (tell program plan) next h).moments ≤ sum_by length next.moments + length h = told_more program plan next h in
    omega arith

none_yet : {A : Type 0} (ps : List A) → sum_by {X = List Moment} length (map (λ _. []) ps) ≡ 0
none_yet [] = refl
none_yet (p ∷ ps) =
    let one : sum_by {X = List Moment} length ([] ∷ map (λ _. []) ps) ≡ 0 + sum_by {X = List Moment} length (map (λ _. []) ps) = sum_by-cons {X = List Moment} length [] (map (λ _. []) ps) in
    let none : sum_by {X = List Moment} length (map (λ _. []) ps) ≡ 0 = none_yet ps in
    omega arith

same_steps : (moments : List (List Moment)) → sum_by length (map steps_of moments) ≡ sum_by length moments
same_steps [] = refl
same_steps (ms ∷ rest) =
    let steps : sum_by length (steps_of ms ∷ map steps_of rest) ≡ length (steps_of ms) + sum_by length (map steps_of rest) = sum_by-cons length (steps_of ms) (map steps_of rest) in
    let own : sum_by length (ms ∷ rest) ≡ length ms + sum_by length rest = sum_by-cons length ms rest in
    let one : length (steps_of ms) ≡ length ms = length-map ms (λ m. m.taken) in
    let all : sum_by length (map steps_of rest) ≡ sum_by length rest = same_steps rest in
    omega arith

pub steps_within : (setting : Setting) (h : List ℕ) → steps_in (story setting h) ≤ length h
steps_within setting h =
    let all : sum_by length (map steps_of (told setting h).moments) ≡ sum_by length (told setting h).moments = same_steps (told setting h).moments in
    let within : sum_by length (told setting h).moments ≤ sum_by length (begun (started_world setting)).moments + length h = told_more setting.program setting.plan (begun (started_world setting)) h in
    let none : sum_by length (begun (started_world setting)).moments ≡ 0 = none_yet (started_world setting).procs in
    omega arith

-- ---- the shared cells are as many as at the start

cells_stay : (w : World) (n : Need) → length (effect w n).shared ≡ length w.shared
cells_stay w (Write c v) = length-set w.shared c v
cells_stay w n = refl

cells_after : (program : Program) (plan : Plan) (t : Telling) (h : List ℕ) → length (fold (tell program plan) t h).world.shared ≡ length t.world.shared
cells_after program plan t [] = refl
cells_after program plan t (p ∷ h) = cells_after program plan (tell program plan t p) h ∙ cells_stay t.world (need program plan t.world p)

pub cells_told : (setting : Setting) (h : List ℕ) (r : Running) (counts : List ℕ) (writers : List Tag) (steps : List (List Taken)) → Tells setting h r counts writers steps
    → length r.world.shared ≡ length setting.program.starts
cells_told setting h r counts writers steps b =
    ap (λ (x : Running). length x.world.shared) b.world ∙ cells_after setting.program setting.plan (begun (started_world setting)) h
