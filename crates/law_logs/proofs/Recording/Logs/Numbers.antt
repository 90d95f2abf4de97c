-- The blocks, units and lists of values of what a step needs have numbers and lengths of 16 bits.
use Rattle.law_logs.proofs.Recording.Fit.{SomeFits}
use Rattle.law_logs.proofs.Recording.Values.Asked.{CallIs}
use Rattle.ppd_ast.proofs.ValidLaws.{slice_get_below as is_below, some_and}
use Rattle.ppd_ast.proofs.Vocabulary.{kind_of_stmt}
use Rattle.ppd_ast.specs.Lookups.{kind_of, no_body}
use Rattle.ppd_ast.specs.Valid.{IsValid}
use Rattle.ppd_ast.specs.ValidPlan.{AreCells, IsBlockOf, IsLoopBlock, IsValidPlan}
use Rattle.ppd_ast.specs.declared.limits.TheConstants.{MOST_CALLS, MOST_SHARED_CELLS}
use Rattle.ppd_ast.specs.declared.plan.Block.{Block}
use Rattle.ppd_ast.specs.declared.plan.BlockKind.{BlockKind}
use Rattle.ppd_ast.specs.declared.plan.BlockKind.TheVariants as block
use Rattle.ppd_ast.specs.declared.plan.Plan.{Plan}
use Rattle.ppd_ast.specs.declared.plan.Start.{Start}
use Rattle.ppd_ast.specs.declared.plan.Start.TheVariants as start
use Rattle.ppd_ast.specs.declared.plan.Unit.{Unit as UnitOf}
use Rattle.ppd_ast.specs.declared.program.Body.{Body}
use Rattle.ppd_ast.specs.declared.program.Kind.{Kind}
use Rattle.ppd_ast.specs.declared.program.Kind.TheVariants as kind
use Rattle.ppd_ast.specs.declared.program.Program.{Program}
use Rattle.ppd_ast.specs.declared.program.Stmt.{Stmt}
use Rattle.ppd_ast.specs.declared.status.Status.{Status}
use Rattle.ppd_model.proofs.Changes.{some}
use Rattle.ppd_sem.proofs.Kept.{There, size_small, there_at}
use Rattle.ppd_sem.proofs.NeedWords.{need_by_entry, need_by_offer, need_of_running}
use Rattle.ppd_sem.proofs.Progress.{need_at_status}
use Rattle.ppd_sem.proofs.TableWords.{or_zero, postlog_in, prelog_in}
use Rattle.ppd_sem.proofs.Validity.{valid-numbered, valid-runnable}
use Rattle.ppd_sem.specs.Asked.{Asked}
use Rattle.ppd_sem.specs.Blocks.{postlog_cells, prelog_cells}
use Rattle.ppd_sem.specs.Deed.{Deed, back, branch, clear, finish, give, invoke, leave, pass, print, receive, send, set_local, set_shared, take, turn}
use Rattle.ppd_sem.specs.Process.{call_unit, entry_of, head_deed, loop_of, need_of, need_of_asked, need_of_deed, need_of_leaving, need_of_send, offer_of, top_frame}
use Rattle.ppd_sem.specs.Runs.{IsNumbered, IsRunnable, IsRunnableStmt, LeadsOn, size_of}
use Rattle.ppd_sem.specs.Tables.{block_of, capacity_of, same_block, same_start, unit_of}
use Rattle.ppd_sem.specs.declared.asking.Pause.TheVariants.{Traps, Wants}
use Rattle.ppd_sem.specs.declared.proc.Need.{Need}
use Rattle.ppd_sem.specs.declared.proc.Need.TheVariants as n
use Rattle.ppd_sem.specs.declared.proc.Proc.{Proc}
use Rattle.ppd_sem.specs.declared.proc.Todo.{Todo}
use Rattle.std.proofs.Common.{Bool, Err, List, None, Ok, Option, Some, [], arith, false, get_or, if◌then◌else◌, length, refl, subst, suc, sym, true, true≢false, zero, ℕ, ℤ, ◌+◌, ◌<◌, ◌^◌, ◌∙◌, ◌∷◌, ◌≡◌, ◌≤◌}
use Rattle.std.proofs.lemmas.List.Quantifiers.{position-Some}
use Rattle.std.proofs.lemmas.Option.{none-some, slice_get-get_or}
use Rattle.std.specs.List as L
use Rattle.std.specs.List.{position}
use Rattle.std.specs.List.Sorted.{IsStrictlyIncreasing}
use Rattle.std.specs.Option.{option_map_or}
use Rattle.std.specs.Prelude.{IsSomeAnd, nat_lt, slice_get, unwrap_or, ⊤}

abbrev pub Small : ℕ → Type 0
Small k = k < 2 ^ 16

-- ---- lists

-- what is found stands there, passes, and has what all have
record IsFound {A : Type 0} (test : A → Bool) (P : A → Type 0) (xs : List A) (i : ℕ) : Type 0 where
  element : A
  below : i < length xs
  there : slice_get xs i ≡ Some element
  passes : test element ≡ true
  has : P element

found : {A : Type 0} (test : A → Bool) (P : A → Type 0) (xs : List A) (i : ℕ) → L.All P xs → position test xs ≡ Some i → IsFound test P xs i
found test P [] i all e = absurd (none-some i e)
found test P (x ∷ xs) i all e =
    let p = position-Some test (x ∷ xs) i x e in
    record { element = get_or (x ∷ xs) i x; below = p.0; there = slice_get-get_or (x ∷ xs) i x p.0; passes = p.1; has = all i x p.0 }

below_at : {A : Type 0} (test : A → Bool) (xs : List A) (i : ℕ) → position test xs ≡ Some i → i < length xs
below_at test xs i e = (found test (λ x. ⊤) xs i (λ k d lt. tt) e).below

-- element k of a rising list is k or more
rises : (xs : List ℕ) (k : ℕ) → IsStrictlyIncreasing xs → k < length xs → k ≤ get_or xs k 0
rises xs zero h lt = omega arith
rises xs (suc k) h lt =
    let before : k ≤ get_or xs k 0 = rises xs k h (omega (arith, lt)) in
    let up : get_or xs k 0 < get_or xs (k + 1) 0 = h k (omega (arith, lt)) in
    let same : k + 1 ≡ suc k = omega arith in
    subst (λ i. suc k ≤ get_or xs i 0) same (omega (arith, before, up))

few_cells : (m : ℕ) (cells : List ℕ) → AreCells m cells → length cells ≤ m
few_cells m cells h = by (length cells) refl
  where
    by : (k : ℕ) → length cells ≡ k → length cells ≤ m
    by zero e = omega (arith, e)
    by (suc k) e =
        let last : k ≤ get_or cells k 0 = rises cells k h.rising (omega (arith, e)) in
        let below : get_or cells k 0 < m = h.below k 0 (omega (arith, e)) in
        omega (arith, e, last, below)

-- ---- a valid program with a valid plan

module _ (program : Program) (plan : Plan) (v : IsValid program) (w : IsValidPlan program plan) where
  runs : IsRunnable program
  runs = valid-runnable program v

  numbered : IsNumbered plan
  numbered = valid-numbered program plan v w

  unit_by : (o : Option ℕ) → ((k : ℕ) → o ≡ Some k → k < length plan.units) → or_zero o < 2 ^ 16
  unit_by None h = omega arith
  unit_by (Some k) h = omega (arith, h k refl, numbered.units)

  pub unit_small : (s : Start) → Small (unit_of plan s)
  unit_small s = unit_by (position (λ u. same_start u.start s) plan.units) (λ k e. below_at (λ u. same_start u.start s) plan.units k e)

  pub block_small : (k : BlockKind) (b : ℕ) → block_of plan k ≡ Some b → Small b
  block_small k b e = let lt : b < length plan.blocks = below_at (λ x. same_block x.kind k) plan.blocks b e in omega (arith, lt, numbered.blocks)

  some_block : (k : BlockKind) (o : Option ℕ) → block_of plan k ≡ o → SomeFits Small o
  some_block k None e = tt
  some_block k (Some b) e = block_small k b e

  zero_block : (k : BlockKind) (o : Option ℕ) → block_of plan k ≡ o → Small (or_zero o)
  zero_block k None e = omega arith
  zero_block k (Some b) e = block_small k b e

  pub process_block : (body : ℕ) → Small (or_zero (block_of plan (block.Process body)))
  process_block body = zero_block (block.Process body) (block_of plan (block.Process body)) refl

  -- ---- lengths

  record IsShort (x : Block) : Type 0 where
    prelog : length x.prelog < 2 ^ 16
    postlog : length x.postlog < 2 ^ 16

  loop_block : (t : ℕ) (k : BlockKind) (x : Block) → IsBlockOf program k x → same_block k (block.Loop t) ≡ true → IsShort x
  loop_block t (block.Function f) x h e = absurd (true≢false (sym e))
  loop_block t (block.Process f) x h e = absurd (true≢false (sym e))
  loop_block t (block.Loop q) x h e =
      let s = some_and (λ (s : Stmt). IsSomeAnd (slice_get program.bodies s.body) (λ b. IsLoopBlock b.cells x)) (slice_get program.stmts q) h in
      let b = some_and (λ (b : Body). IsLoopBlock b.cells x) (slice_get program.bodies s.0.body) s.2 in
      let small : b.0.cells < 2 ^ 16 = subst (λ o. (unwrap_or o no_body).cells < 2 ^ 16) b.1 (size_small program s.0.body runs) in
      record { prelog = omega (arith, small, few_cells b.0.cells x.prelog b.2.prelog); postlog = omega (arith, small, few_cells b.0.cells x.postlog b.2.postlog) }

  pub loop_prelog : (t b : ℕ) → block_of plan (block.Loop t) ≡ Some b → length (prelog_cells plan b) < 2 ^ 16
  loop_prelog t b e =
      let f = found (λ (x : Block). same_block x.kind (block.Loop t)) (λ x. IsBlockOf program x.kind x) plan.blocks b w.blocks e in
      subst (λ o. length (prelog_in o) < 2 ^ 16) (sym f.there) (loop_block t f.element.kind f.element f.has f.passes).prelog

  pub loop_postlog : (t b : ℕ) → block_of plan (block.Loop t) ≡ Some b → length (postlog_cells plan b) < 2 ^ 16
  loop_postlog t b e =
      let f = found (λ (x : Block). same_block x.kind (block.Loop t)) (λ x. IsBlockOf program x.kind x) plan.blocks b w.blocks e in
      subst (λ o. length (postlog_in o) < 2 ^ 16) (sym f.there) (loop_block t f.element.kind f.element f.has f.passes).postlog

  pub few_of_unit : (u : ℕ) → length (option_map_or (λ u. u.cells) (slice_get plan.units u) []) ≤ MOST_SHARED_CELLS
  few_of_unit u = by (slice_get plan.units u) refl
    where
      by : (o : Option UnitOf) → slice_get plan.units u ≡ o → length (option_map_or (λ u. u.cells) o []) ≤ MOST_SHARED_CELLS
      by None e = omega arith
      by (Some x) e =
          let lt : u < length plan.units = is_below plan.units u x e in
          let is : x ≡ get_or plan.units u x = some (sym e ∙ slice_get-get_or plan.units u x lt) in
          let cells : AreCells (length program.starts) x.cells = subst (λ (y : UnitOf). AreCells (length program.starts) y.cells) (sym is) (w.units u x lt) in
          omega (arith, few_cells (length program.starts) x.cells cells, v.limits.starts)

  call_short : (k : Kind) (m : ℕ) → LeadsOn program m k → CallIs Small k
  call_short (kind.Call f arguments into) m h = omega (arith, h.arguments, size_small program f runs)
  call_short k m h = tt

  -- a call has few arguments
  pub calls : (t : ℕ) → CallIs Small (kind_of program t)
  calls t = by (slice_get program.stmts t) refl
    where
      by : (o : Option Stmt) → slice_get program.stmts t ≡ o → CallIs Small (kind_of_stmt o)
      by None e = tt
      by (Some s) e =
          let f : There (λ _ x. IsRunnableStmt program x) program.stmts t = there_at (λ _ x. IsRunnableStmt program x) program.stmts t runs.stmts (is_below program.stmts t s e) in
          let is : f.0 ≡ s = some (sym f.1 ∙ e) in
          subst (λ (x : Stmt). CallIs Small x.kind) is (call_short f.0.kind (size_of program f.0.body) f.2.leads)

  -- ---- what a step needs

  abbrev pub IsOfLoop : ℕ → Type 0
  IsOfLoop b = (t : ℕ) × (block_of plan (block.Loop t) ≡ Some b)

  abbrev pub NeedNumbered : Need → Type 0
  NeedNumbered (n.Enter b u) = IsOfLoop b × Small u
  NeedNumbered (n.Leave b u) = IsOfLoop b × Small u
  NeedNumbered (n.Invoke b u) = SomeFits Small b × Small u
  NeedNumbered (n.Back b u) = SomeFits Small b × SomeFits Small u
  NeedNumbered (n.P o u) = Small u
  NeedNumbered (n.V o u) = Small u
  NeedNumbered (n.Send c x u) = Small u
  NeedNumbered (n.Offer c x) = capacity_of program c ≡ 0
  NeedNumbered (n.Done c u) = Small u
  NeedNumbered (n.Recv c u) = Small u
  NeedNumbered (n.End b) = Small b
  NeedNumbered need = ⊤

  either : (b : Bool) (x y : Need) → NeedNumbered x → NeedNumbered y → NeedNumbered (if b then x else y)
  either true x y h k = h
  either false x y h k = k

  leaving : (t : ℕ) (o : Option ℕ) → block_of plan (block.Loop t) ≡ o → NeedNumbered (need_of_leaving plan t o)
  leaving t None e = tt
  leaving t (Some b) e = ((t, e), unit_small (start.Exit t))

  sending : (t capacity c : ℕ) (x : ℤ) → capacity_of program c ≡ capacity → NeedNumbered (need_of_send plan t capacity c x)
  sending t zero c x e = e
  sending t (suc k) c x e = unit_small (start.After t)

  unit_after : (o : Option ℕ) → SomeFits Small (call_unit plan o)
  unit_after None = tt
  unit_after (Some c) = unit_small (start.After c)

  of_deed : (t : ℕ) (s : Proc) (d : Deed) → NeedNumbered (need_of_deed program plan t s d)
  of_deed t s (set_local c x) = tt
  of_deed t s (set_shared c x) = tt
  of_deed t s (clear base len) = tt
  of_deed t s (branch ss) = tt
  of_deed t s (turn ss) = tt
  of_deed t s leave = leaving t (block_of plan (block.Loop t)) refl
  of_deed t s (invoke f vs into) =
      either (nat_lt MOST_CALLS (s.below + length s.frames)) _ _ tt (some_block (block.Function f) (block_of plan (block.Function f)) refl, unit_small (start.Entry f))
  of_deed t s (back x) = (some_block (block.Function (top_frame s.frames).body) (block_of plan (block.Function (top_frame s.frames).body)) refl, unit_after (top_frame s.frames).call)
  of_deed t s (take o) = unit_small (start.After t)
  of_deed t s (give o) = unit_small (start.After t)
  of_deed t s (send c x) = sending t (capacity_of program c) c x refl
  of_deed t s (receive c into) = unit_small (start.After t)
  of_deed t s (print x) = tt
  of_deed t s pass = tt
  of_deed t s finish = zero_block (block.Process (top_frame s.frames).body) (block_of plan (block.Process (top_frame s.frames).body)) refl

  of_asked : (t : ℕ) (s : Proc) (r : Asked Deed) → NeedNumbered (need_of_asked program plan t s r)
  of_asked t s (Ok p) = of_deed t s p.0
  of_asked t s (Err (Wants c)) = tt
  of_asked t s (Err (Traps x)) = tt

  loop_found : (t : Todo) (k : Kind) (o : Option ℕ) → loop_of plan t.stmt k ≡ o → (b : ℕ) → o ≡ Some b → IsOfLoop b
  loop_found t (kind.While e body) o is b f = (t.stmt, is ∙ f)
  loop_found t k o is b f = absurd (none-some b (is ∙ f))

  entry_found : (t : Todo) (entered : Bool) (o : Option ℕ) → (if entered then None else loop_of plan t.stmt (kind_of program t.stmt)) ≡ o → (b : ℕ) → o ≡ Some b → IsOfLoop b
  entry_found t true o is b f = absurd (none-some b (is ∙ f))
  entry_found t false o is b f = loop_found t (kind_of program t.stmt) o is b f

  of_entry : (t : Todo) (s : Proc) (o : Option ℕ) (r : Asked Deed) → entry_of program plan t ≡ o → NeedNumbered (need_by_entry program plan t.stmt s o r)
  of_entry t s (Some b) r e = (entry_found t t.entered (Some b) e b refl, unit_small (start.Enter t.stmt))
  of_entry t s None r e = of_asked t.stmt s r

  of_offer : (t : ℕ) (o : Option ℕ) (need : Need) → NeedNumbered need → NeedNumbered (need_by_offer plan t o need)
  of_offer t (Some c) need h = unit_small (start.After t)
  of_offer t None need h = h

  of_running : (ts : List Todo) (s : Proc) → NeedNumbered (need_of_running program plan ts s)
  of_running [] s = tt
  of_running (t ∷ ts) s =
      either (nat_lt s.budget _) n.Budget _ tt (of_offer t.stmt (offer_of program t) _ (of_entry t s (entry_of program plan t) (head_deed program t s) refl))

  pub need_numbered : (s : Proc) → NeedNumbered (need_of program plan s)
  need_numbered s = by s.status refl
    where
      by : (o : Option Status) → s.status ≡ o → NeedNumbered (need_of program plan s)
      by (Some x) e = subst NeedNumbered (sym (need_at_status program plan s (Some x) e)) tt
      by None e = subst NeedNumbered (sym (need_at_status program plan s None e)) (of_running s.todo s)
