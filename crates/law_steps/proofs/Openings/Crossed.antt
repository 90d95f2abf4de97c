-- The statements of each nested block, by its number: of a loop what stands in it, of a function its body.
use Rattle.std.proofs.Common.{◌≡◌, ℕ, ◌<◌, ◌≤◌, List, [], ◌∷◌, true, Some, refl, ap, sym, subst, ◌∙◌, arith, inl, inr, ◌⊎◌}
use Rattle.std.specs.Prelude.{is_some, slice_get, unwrap_or}
use Rattle.std.specs.List.{AllByRecursion as Each}
use Rattle.std.specs.Option.{option_map_or}
use Rattle.ppd_ast.specs.declared.plan.BlockKind.{BlockKind}
use Rattle.ppd_ast.specs.declared.plan.BlockKind.TheVariants as block
use Rattle.ppd_ast.specs.declared.plan.Plan.{Plan}
use Rattle.ppd_ast.specs.declared.plan.Policy.{Policy}
use Rattle.ppd_ast.specs.declared.program.Body.{Body}
use Rattle.ppd_ast.specs.declared.program.Program.{Program}
use Rattle.ppd_ast.specs.Valid.{IsValid}
use Rattle.ppd_ast.specs.Lookups.{kind_of, body_of, no_body}
use Rattle.ppd_ast.proofs.Vocabulary.{kind_of_stmt}
use Rattle.ppd_ast.specs.Counting.{one_if}
use Rattle.ppd_blocks.specs.Blocks.{plan_of}
use Rattle.law_steps.proofs.Course.Standing.{in_itself}
use Rattle.ppd_sem.specs.declared.proc.Todo.{Todo}
use Rattle.ppd_sem.specs.Described.{ends_body}
use Rattle.ppd_sem.specs.Process.{todos}
use Rattle.ppd_sem.specs.Tables.{block_of}
use Rattle.law_steps.proofs.Vocabulary.Relation.{IsLast, IsOwnTodo, IsReturn}
use Rattle.law_steps.proofs.Vocabulary.Calls.{IsCallBlock, IsCallBody}
use Rattle.law_steps.proofs.Vocabulary.Fine.{IsLoopBlock}
use Rattle.law_steps.specs.Beside.Opens.{ends_block, open_at}
use Rattle.law_steps.proofs.Openings.Blocks.{IsBodyThere, closer_in}
use Rattle.law_steps.proofs.Facts.Bodies.{IsOf, body_begins, body_closer, body_writing, each_of, ender, last_stmt}
use Rattle.law_steps.proofs.Facts.BodyBlocks.{body_there, function_below}
use Rattle.law_steps.proofs.Facts.Loops.{IsWithin, loop_goes_on, loop_writing}
use Rattle.law_steps.proofs.Facts.BlockOpens.{function_returns, return_opens}
use Rattle.law_steps.proofs.Facts.State.{no_end_in_function}
use Rattle.ppd_ast.specs.declared.program.Stmt.{Stmt}

-- a statement of the loop that is block b
pub record IsOfLoop (program : Program) (plan : Plan) (b s : ℕ) : Type 0 where
  pub loop : ℕ
  pub block_is : block_of plan (block.Loop loop) ≡ Some b
  pub inside : IsWithin program loop s

-- a statement of the function that is block b
pub record IsOfFunction (program : Program) (plan : Plan) (b s : ℕ) : Type 0 where
  pub function : ℕ
  pub block_is : block_of plan (block.Function function) ≡ Some b
  pub inside : IsOf program function s

last_each : (P : Todo → Type 0) (closer : Todo) (todo : List Todo) → Each P todo → IsLast closer todo → P closer
last_each P closer [] h l = absurd l
last_each P closer (t ∷ []) h l = subst P l h.0
last_each P closer (t ∷ u ∷ us) h l = last_each P closer (u ∷ us) h.1 l

module _ (program : Program) (policy : Policy) (v : IsValid program) where
  abbrev plan : Plan
  plan = plan_of program policy

  pub loop_blocks : (b : ℕ) → IsLoopBlock program plan b (IsOfLoop program plan b)
  loop_blocks b = record {
    writing = record {
      writes = λ s h. (loop_writing program policy v h.loop b h.block_is).writes s h.inside;
      within = λ s h stmts is. each_of (IsWithin program h.loop) (IsOfLoop program plan b) stmts
          (λ i k. record { loop = h.loop; block_is = h.block_is; inside = k })
          ((loop_writing program policy v h.loop b h.block_is).within s h.inside stmts is);
    };
    goes_on = λ s h. loop_goes_on program policy v h.loop b h.block_is s h.inside;
    loop = λ s w e. record { loop = s; block_is = e; inside = in_itself program s };
  }

  pub call_blocks : (b : ℕ) → IsCallBlock program (IsOfFunction program plan b)
  call_blocks b = record {
    writing = record {
      writes = λ s h. (body_writing program v h.function).writes s h.inside;
      within = λ s h stmts is. each_of (IsOf program h.function) (IsOfFunction program plan b) stmts
          (λ i k. record { function = h.function; block_is = h.block_is; inside = k })
          ((body_writing program v h.function).within s h.inside stmts is);
    };
    no_end = λ s h. no_end_in_function program v h.function
        (function_below program policy v h.function b h.block_is) s h.inside;
  }

  body_todo : (b f : ℕ) → block_of plan (block.Function f) ≡ Some b → (todo : List Todo)
      → Each (λ t. IsOf program f t.stmt) todo → Each (λ t. IsOfFunction program plan b t.stmt) todo
  body_todo b f e [] h = tt
  body_todo b f e (t ∷ ts) h = (record { function = f; block_is = e; inside = h.0 }, body_todo b f e ts h.1)

  -- the last statement of a function that is a block closes it
  closes_block : (b f : ℕ) (x : Body) → block_of plan (block.Function f) ≡ Some b
      → slice_get program.bodies f ≡ Some x → 1 ≤ open_at program plan (ender x.top)
  closes_block b f x e at =
      let begins = body_begins program v f x at in
      let last : IsOf program f (last_stmt 0 x.top) =
      last_each (λ t. IsOf program f t.stmt) (ender x.top) (todos x.top) begins.0 begins.1 in
      let ends : ends_body (kind_of program (last_stmt 0 x.top)) ≡ true = (body_closer program v f x at).ends in
      let kind_is : kind_of program (last_stmt 0 x.top) ≡ last.stmt.kind = ap kind_of_stmt last.there in
      let below : last.stmt.body < program.functions =
      subst (λ n. n < program.functions) (sym last.body) (function_below program policy v f b e) in
      let returns : IsReturn (kind_of program (last_stmt 0 x.top)) =
      subst IsReturn (sym kind_is)
      (function_returns program (last_stmt 0 x.top) last.stmt v last.there below
      (sym (ap ends_body kind_is) ∙ ends)) in
      let own : body_of program (last_stmt 0 x.top) ≡ f = ap (λ o. option_map_or (λ (x : Stmt). x.body) o 0) last.there ∙ last.body in
      let one : ends_block plan (body_of program (last_stmt 0 x.top))
      (kind_of program (last_stmt 0 x.top)) ≡ 1 =
      return_opens plan (body_of program (last_stmt 0 x.top))
      (kind_of program (last_stmt 0 x.top)) returns
      ∙ ap (λ n. one_if (is_some (block_of plan (block.Function n)))) own ∙ ap (λ o. one_if (is_some o)) e in
      omega (arith, one)

  pub call_bodies : (b f : ℕ) → block_of plan (block.Function f) ≡ Some b
      → IsCallBody program plan (IsOfFunction program plan b) f
  call_bodies b f e =
      let there = body_there program policy (block.Function f) b e in
      let x : Body = there.0 in
      let begins = body_begins program v f x there.1 in
      record {
        last = ender x.top;
        own = subst (λ o. IsOwnTodo (IsOfFunction program plan b) (ender x.top) (todos (unwrap_or o no_body).top)) (sym there.1)
            (body_todo b f e (todos x.top) begins.0, begins.1);
        ends = (body_closer program v f x there.1).ends;
        last_is = refl;
        counts = closes_block b f x e there.1;
      }

  -- what closes a block is an entered loop, or ends a body
  pub closer_closes : (kind : BlockKind) → IsBodyThere program kind → ((closer_in program kind).entered ≡ true)
      ⊎ (ends_body (kind_of program (closer_in program kind).stmt) ≡ true)
  closer_closes (block.Loop q) there = inl refl
  closer_closes (block.Function f) there =
      inr (subst (λ o. ends_body (kind_of program (ender (unwrap_or o no_body).top).stmt) ≡ true) (sym there.1)
      (body_closer program v f there.0 there.1).ends)
  closer_closes (block.Process f) there =
      inr (subst (λ o. ends_body (kind_of program (ender (unwrap_or o no_body).top).stmt) ≡ true) (sym there.1)
      (body_closer program v f there.0 there.1).ends)
