-- What an event writes in the activation in which it is, by the statement's kind.
use Rattle.std.proofs.Common.{◌≡◌, ℕ, zero, suc, ◌+◌, ◌<◌, ℤ, Bool, true, false, ◌||◌, ◌⊎◌, List, [], ◌∷◌, ◌++◌, Option, Some, None, Ok, Err, refl, ap, sym, subst, ◌∙◌, inl, inr, arith, true≢false, eq-eqb, eqb-true}
use Rattle.std.specs.List.{list_any}
use Rattle.std.specs.Prelude.{nat_eq, replicate, pos}
use Rattle.std.proofs.lemmas.Bool.{or_cases, or_left, or_right}
use Rattle.ppd_ast.specs.declared.plan.Plan.{Plan}
use Rattle.ppd_ast.specs.declared.program.Program.{Program}
use Rattle.law_steps.proofs.Vocabulary.Relation.{Yields}
use Rattle.law_steps.proofs.Vocabulary.Held.{Among, IsWriting, MayWrite}
use Rattle.law_steps.proofs.Beside.Writes.{writes_at_most}
use Rattle.ppd_sem.specs.Asked.{Asked}
use Rattle.ppd_sem.specs.Deed.{Deed, set_local, set_shared, clear, branch, turn, leave, invoke, back, take, give, send, receive, print, pass, finish}
use Rattle.ppd_sem.specs.Described.{frame_of, trap_of, writes_by, writes_of_deed}
use Rattle.ppd_sem.proofs.EventWords.{writes_of_asked}
use Rattle.ppd_sem.specs.Process.{head_deed, need_of, top_frame}
use Rattle.ppd_ast.specs.declared.status.Trap.{Trap as TrapOf}
use Rattle.ppd_ast.specs.Lookups.{kind_of}
use Rattle.ppd_sem.specs.declared.event.Access.{Access}
use Rattle.ppd_sem.specs.declared.proc.Answer.{Answer}
use Rattle.ppd_sem.specs.declared.proc.Proc.{Proc}
use Rattle.ppd_sem.specs.declared.proc.Todo.{Todo}
use Rattle.ppd_model.specs.FullTrace.{event_of}
use Rattle.ppd_model.specs.NearIntervals.{is_in}
use Rattle.ppd_model.specs.declared.tracing.Taken.{Taken}
use Rattle.ppd_graph.specs.Locals.{is_local}
use Rattle.ppd_sem.specs.Reads.{local_accesses}
use Rattle.ppd_sem.proofs.Zeros.{zeros_accessed}

abbrev pub any_own : ℕ → List Access → Bool
any_own c xs = list_any (λ (a : Access). is_local 0 c a.spot) xs

any_split : (c : ℕ) (xs ys : List Access) → any_own c (xs ++ ys) ≡ true → (any_own c xs ≡ true) ⊎ (any_own c ys ≡ true)
any_split c [] ys h = inr h
any_split c (x ∷ xs) ys h = elim (or_cases (is_local 0 c x.spot) (any_own c (xs ++ ys)) h) [
  | inl one ↦ inl (or_left (is_local 0 c x.spot) (any_own c xs) one)
  | inr more ↦ elim (any_split c xs ys more) [
    | inl first ↦ inl (or_right (is_local 0 c x.spot) (any_own c xs) first)
    | inr rest ↦ inr rest
  ]
]

pub among_in : (cs : List ℕ) (c : ℕ) → Among cs c → is_in c cs ≡ true
among_in [] c h = absurd h
among_in (d ∷ ds) c h = elim h [
  | inl e ↦ or_left (nat_eq c d) (is_in c ds) (eq-eqb c d e)
  | inr more ↦ or_right (nat_eq c d) (is_in c ds) (among_in ds c more)
]

or_none : (b : Bool) → (b || false) ≡ true → b ≡ true
or_none true h = refl
or_none false h = h

module _ (written : ℕ → Type 0) (c : ℕ) where
  one_cell : (d : ℕ) → (nat_eq c d || false) ≡ true → written d → written c
  one_cell d h w = subst written (sym (eqb-true c d (or_none (nat_eq c d) h))) w

  cleared_cell : (base n : ℕ) → ((k : ℕ) → k < n → written (base + k)) → any_own c (local_accesses 0 base (replicate n (pos 0))) ≡ true → written c
  cleared_cell base zero w h = absurd (true≢false (sym h))
  cleared_cell base (suc n) w h = elim (any_split c (local_accesses 0 base (replicate n (pos 0))) _
      (subst (λ ws. any_own c ws ≡ true) (zeros_accessed 0 base n) h)) [
        | inl first ↦ cleared_cell base n (λ k lt. w k (omega (arith, lt))) first
        | inr last ↦ one_cell (base + n) last (w n (omega arith))
      ]

  passed_cell : (b : ℕ) (values : List ℤ) → any_own c (local_accesses 1 b values) ≡ false
  passed_cell b [] = refl
  passed_cell b (v ∷ vs) = passed_cell (b + 1) vs

  deed_cell : (a : Answer) (d : Deed) → MayWrite written d → any_own c (writes_of_deed 0 a d) ≡ true → written c
  deed_cell a (set_local d v) w h = one_cell d h w
  deed_cell a (set_shared d v) w h = absurd (true≢false (sym h))
  deed_cell a (clear base n) w h = cleared_cell base n w h
  deed_cell a (branch stmts) w h = absurd (true≢false (sym h))
  deed_cell a (turn stmts) w h = absurd (true≢false (sym h))
  deed_cell a leave w h = absurd (true≢false (sym h))
  deed_cell a (invoke f values into) w h = absurd (true≢false (sym h ∙ passed_cell 0 values))
  deed_cell a (back value) w h = absurd (true≢false (sym h))
  deed_cell a (take x) w h = absurd (true≢false (sym h))
  deed_cell a (give x) w h = absurd (true≢false (sym h))
  deed_cell a (send d x) w h = absurd (true≢false (sym h))
  deed_cell a (receive d into) w h = one_cell into h w
  deed_cell a (print x) w h = absurd (true≢false (sym h))
  deed_cell a pass w h = absurd (true≢false (sym h))
  deed_cell a finish w h = absurd (true≢false (sym h))

  asked_cell : (a : Answer) (x : Asked Deed) → Yields (MayWrite written) x → any_own c (writes_of_asked 0 a x) ≡ true
      → written c
  asked_cell a (Ok q) w h = deed_cell a q.0 w h
  asked_cell a (Err pause) w h = absurd (true≢false (sym h))

  by_cell : (o : Option TrapOf) (a : Answer) (x : Asked Deed) → Yields (MayWrite written) x
      → any_own c (writes_by o 0 a x) ≡ true → written c
  by_cell None a x w h = asked_cell a x w h
  by_cell (Some trap) a x w h = absurd (true≢false (sym h))

  -- what an event of the interval's own activation writes
  pub event_cell : (program : Program) (plan : Plan) (s : Proc) (taken : Taken) (h : Todo) (hs : List Todo)
      → s.todo ≡ h ∷ hs → frame_of program plan s ≡ 0 → IsWriting written (kind_of program h.stmt)
      → any_own c (event_of program plan s taken s.todo).writes ≡ true → written c
  event_cell program plan s taken h hs is frame w any =
      by_cell (trap_of (need_of program plan s)) taken.answer (head_deed program h s)
      (writes_at_most written program.exprs (kind_of program h.stmt) (top_frame s.frames).cells s.answers w)
      (ap (λ f. any_own c (writes_by (trap_of (need_of program plan s)) f taken.answer (head_deed program h s)))
      (sym frame)
      ∙ ap (λ todo. any_own c (event_of program plan s taken todo).writes) (sym is) ∙ any)

-- ---- an event of another activation writes none of the interval's own

cleared_other : (c base n : ℕ) → any_own c (local_accesses 1 base (replicate n (pos 0))) ≡ false
cleared_other c base zero = refl
cleared_other c base (suc n) = cleared_other c (base + 1) n

passed_other : (c b : ℕ) (values : List ℤ) → any_own c (local_accesses 2 b values) ≡ false
passed_other c b [] = refl
passed_other c b (v ∷ vs) = passed_other c (b + 1) vs

deed_other : (c : ℕ) (a : Answer) (d : Deed) → any_own c (writes_of_deed 1 a d) ≡ false
deed_other c a (set_local d v) = refl
deed_other c a (set_shared d v) = refl
deed_other c a (clear base n) = cleared_other c base n
deed_other c a (branch stmts) = refl
deed_other c a (turn stmts) = refl
deed_other c a leave = refl
deed_other c a (invoke f values into) = passed_other c 0 values
deed_other c a (back value) = refl
deed_other c a (take x) = refl
deed_other c a (give x) = refl
deed_other c a (send d x) = refl
deed_other c a (receive d into) = refl
deed_other c a (print x) = refl
deed_other c a pass = refl
deed_other c a finish = refl

by_other : (c : ℕ) (o : Option TrapOf) (a : Answer) (x : Asked Deed) → any_own c (writes_by o 1 a x) ≡ false
by_other c None a (Ok q) = deed_other c a q.0
by_other c None a (Err pause) = refl
by_other c (Some trap) a x = refl

pub event_other : (program : Program) (plan : Plan) (s : Proc) (taken : Taken) (h : Todo) (hs : List Todo) (c : ℕ)
    → s.todo ≡ h ∷ hs → frame_of program plan s ≡ 1
    → any_own c (event_of program plan s taken s.todo).writes ≡ false
event_other program plan s taken h hs c is frame =
    ap (λ todo. any_own c (event_of program plan s taken todo).writes) is
    ∙ ap (λ f. any_own c (writes_by (trap_of (need_of program plan s)) f taken.answer (head_deed program h s))) frame
    ∙ by_other c (trap_of (need_of program plan s)) taken.answer (head_deed program h s)
