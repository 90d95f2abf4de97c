-- Of every state of a run: each frame has the cells of its body.
use Rattle.std.proofs.Common.{◌≡◌, ℕ, ◌+◌, ◌-◌, ◌<◌, ◌≤◌, ℤ, pos, List, [], ◌∷◌, Option, Some, None, Ok, refl, ap, sym, subst, ◌∙◌, arith, length}
use Rattle.std.specs.Prelude.{⊤, IsSome, IsSomeAnd, IsTrue, replicate, slice_get, slice_set, unwrap_or}
use Rattle.std.proofs.lemmas.List.{length-set, length-append, length-replicate}
use Rattle.std.proofs.lemmas.Option.{slice_get_within}
use Rattle.std.specs.List.{AllByRecursion as Each, range_with_len}
use Rattle.ppd_ast.specs.declared.plan.Plan.{Plan}
use Rattle.ppd_ast.specs.declared.program.Body.{Body}
use Rattle.ppd_ast.specs.declared.program.Kind.{Kind}
use Rattle.ppd_ast.specs.declared.program.Kind.TheVariants as kind
use Rattle.ppd_ast.specs.declared.program.Program.{Program}
use Rattle.ppd_ast.specs.declared.program.Stmt.{Stmt}
use Rattle.ppd_ast.specs.Valid.{CallsRightly, IsValid}
use Rattle.ppd_ast.proofs.ValidLaws.{slice_get_there, stmt_in_body}
use Rattle.ppd_ast.specs.Lookups.{kind_of, body_of, no_body}
use Rattle.ppd_ast.proofs.Vocabulary.{kind_of_stmt, params_of_body}
use Rattle.ppd_sem.specs.declared.proc.Answer.{Answer}
use Rattle.ppd_sem.specs.declared.proc.Frame.{Frame}
use Rattle.ppd_sem.specs.declared.proc.Proc.{Proc}
use Rattle.ppd_sem.specs.declared.proc.Todo.{Todo}
use Rattle.ppd_sem.specs.Deed.{Deed, set_local, clear, invoke, back, receive}
use Rattle.ppd_sem.specs.Process.{act, act_by_deed, into_of, new_frame, receive_at, returned, started, on_top, top_frame, into_at, with_values}
use Rattle.ppd_sem.proofs.NeedWords.{cells_for}
use Rattle.ppd_sem.specs.Runs.{LeadsOn, size_of, stmt_size}
use Rattle.ppd_sem.proofs.Kept.{leads_at, length-clear}
use Rattle.ppd_sem.proofs.Validity.{valid-runnable}
use Rattle.ppd_model.proofs.Homes.{AskedOf, head_of}
use Rattle.law_steps.specs.Beside.Relation.{IsCallOf}
use Rattle.law_steps.proofs.Vocabulary.Relation.{Suits, Yields}
use Rattle.law_steps.proofs.Beside.Deeds.{suits}
use Rattle.law_steps.proofs.Facts.Keeping.{keeps}
use Rattle.law_steps.proofs.Facts.Placed.{IsCallee, callee}

abbrev pub IsSized : Program → Frame → Type 0
IsSized program f = length f.cells ≡ size_of program f.body

abbrev pub AreSized : Program → List Frame → Type 0
AreSized program frames = Each (IsSized program) frames

module _ (program : Program) where
  write_sized : (c : ℕ) (v : ℤ) (frames : List Frame) → AreSized program frames
      → AreSized program (on_top (λ cells. slice_set cells c v) frames)
  write_sized c v [] h = h
  write_sized c v (f ∷ fs) h = (length-set f.cells c v ∙ h.0, h.1)

  clear_sized : (base len : ℕ) (frames : List Frame) → AreSized program frames
      → AreSized program (on_top (with_values (range_with_len base len) (replicate len (pos 0))) frames)
  clear_sized base len [] h = h
  clear_sized base len (f ∷ fs) h = (length-clear base len f.cells ∙ h.0, h.1)

  receive_sized : (into : Option ℕ) (value : Option ℤ) (frames : List Frame) → AreSized program frames
      → AreSized program (receive_at into value frames)
  receive_sized (Some c) (Some v) frames h = write_sized c v frames h
  receive_sized (Some c) None frames h = h
  receive_sized None value frames h = h

  from_sized : (call : Option ℕ) (value : Option ℤ) (frames : List Frame) → AreSized program frames
      → AreSized program (receive_at (into_at program call) value frames)
  from_sized None value frames h = h
  from_sized (Some s) value frames h = receive_sized (into_of (kind_of program s)) value frames h

  returned_sized : (value : Option ℤ) (frames : List Frame) → AreSized program frames
      → AreSized program (returned program value frames)
  returned_sized value [] h = h
  returned_sized value (f ∷ fs) h = from_sized f.call value fs h.1

  cells_length : (o : Option Body) (values : List ℤ) (b : Body) → o ≡ Some b → length values ≤ b.cells
      → length (cells_for o values) ≡ (unwrap_or o no_body).cells
  cells_length o values b e le =
      ap (λ x. length (cells_for x values)) e
      ∙ omega (
        arith,
        le,
        length-append values (replicate (b.cells - length values) (pos 0)),
        length-replicate
            (b.cells - length values) (pos 0),
      ) ∙ ap (λ o. (unwrap_or o no_body).cells) (sym e)

  -- ---- a call passes no more values than the function has cells

  params_count : (o : Option Body) (n : ℕ) (into : Option ℕ)
      → IsSomeAnd o (λ g. (n ≡ g.params) × (IsSome into → IsTrue g.value)) → n ≡ params_of_body o
  params_count None n into h = absurd h
  params_count (Some b) n into h = h.0

  params_fit : (n : ℕ) (k : Kind) (f : ℕ) → IsCallOf k f → LeadsOn program n k → CallsRightly program k
      → params_of_body (slice_get program.bodies f) ≤ size_of program f
  params_fit n (kind.Call g arguments into) f e on calls =
      let few : length arguments ≤ size_of program g = on.arguments in
      let same : length arguments ≡ params_of_body (slice_get program.bodies g) =
      params_count (slice_get program.bodies g) (length arguments) into calls.1 in
      subst (λ x. params_of_body (slice_get program.bodies x) ≤ size_of program x) (sym e) (omega (arith, few, same))
  params_fit n k f e on calls = absurd e

  call_fits : (v : IsValid program) (s f : ℕ) → IsCallOf (kind_of program s) f
      → params_of_body (slice_get program.bodies f) ≤ size_of program f
  call_fits v s f e = by (slice_get program.stmts s) refl
    where
      by : (o : Option Stmt) → slice_get program.stmts s ≡ o
          → params_of_body (slice_get program.bodies f) ≤ size_of program f
      by None at = absurd (subst (λ x. IsCallOf (kind_of_stmt x) f) at e)
      by (Some x) at =
          params_fit (stmt_size program (slice_get program.stmts s)) (kind_of program s) f e
          (leads_at program (stmt_size program (slice_get program.stmts s)) s (valid-runnable program v)
          (record { there = slice_get_within program.stmts s x at; size = refl }))
          (subst (λ k. CallsRightly program k) (sym (ap kind_of_stmt at)) (stmt_in_body program s x v at).2.call)

  new_sized : (v : IsValid program) (s f : ℕ) (values : List ℤ) → IsCallOf (kind_of program s) f
      → length values ≡ params_of_body (slice_get program.bodies f) → IsSized program (new_frame program f values (Some s))
  new_sized v s f values e count =
      let c : IsCallee program f = callee program s f v e in
      let fit : params_of_body (slice_get program.bodies f) ≤ size_of program f = call_fits v s f e in
      let cells : size_of program f ≡ c.body.cells = ap (λ o. (unwrap_or o no_body).cells) c.there in
      cells_length (slice_get program.bodies f) values c.body c.there (omega (arith, fit, cells, count))

  abbrev IsPassing : Deed → Type 0
  IsPassing (invoke f values into) = length values ≡ params_of_body (slice_get program.bodies f)
  IsPassing d = ⊤

  passing : (body : ℕ) (k : Kind) (d : Deed) (left : List ℤ) → AskedOf program body k (Ok (d, left)) → IsPassing d
  passing body k (invoke f values into) left h = h.1.1
  passing body k d left h = tt

  after_deed : (v : IsValid program) (a : Answer) (t : Todo) (ts : List Todo) (d : Deed) (x : Proc)
      → Suits (kind_of program t.stmt) d → IsPassing d → AreSized program x.frames
      → AreSized program (act_by_deed program a t ts d x).frames
  after_deed v a t ts (set_local c y) x s k h = write_sized c y x.frames h
  after_deed v a t ts (clear base len) x s k h = clear_sized base len x.frames h
  after_deed v a t ts (receive chan into) x s k h = write_sized into _ x.frames h
  after_deed v a t ts (back value) x s k h = returned_sized value x.frames h
  after_deed v a t ts (invoke g values into) x s k h = (new_sized v t.stmt g values s k, h)
  after_deed v a t ts d x s k h = h

  -- each step keeps it
  pub act_sized : (plan : Plan) (s : Proc) (a : Answer) → IsValid program → AreSized program s.frames
      → AreSized program (act program plan s a).frames
  act_sized plan s a v h = keeps program plan (λ frames todo answers. AreSized program frames) s a h
      (λ t ts b is e. h)
      (λ t ts y is e. h)
      (λ t ts d left is e f. after_deed v a t ts d (record s { answers = [] })
      (subst (Yields (Suits (kind_of program t.stmt))) f
      (suits program.exprs (kind_of program t.stmt) (top_frame s.frames).cells s.answers))
      (passing (body_of program t.stmt) (kind_of program t.stmt) d left
      (subst (AskedOf program (body_of program t.stmt) (kind_of program t.stmt)) f (head_of program t s v))) h)
      (λ t ts c is e. h)
      (λ t ts c is e. h)

  pub started_sized : (plan : Plan) (p budget : ℕ) → program.functions + p < length program.bodies
      → AreSized program (started program plan p budget).frames
  started_sized plan p budget lt =
      let b = slice_get_there program.bodies (program.functions + p) lt in
      (cells_length (slice_get program.bodies (program.functions + p)) [] b.0 b.1 (omega arith), tt)
