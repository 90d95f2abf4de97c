-- The blocks that lists of statements open.
use Rattle.std.proofs.Common.{◌≡◌, ℕ, Bool, true, false, List, [], ◌∷◌, ◌++◌, None, refl, ap, sym, ◌∙◌, if◌then◌else◌}
use Rattle.std.specs.Prelude.{option_to_list}
use Rattle.ppd_ast.specs.declared.plan.BlockKind.TheVariants as block
use Rattle.ppd_ast.specs.declared.plan.Plan.{Plan}
use Rattle.ppd_ast.specs.declared.program.Program.{Program}
use Rattle.ppd_ast.specs.Lookups.{kind_of, body_of}
use Rattle.ppd_sem.specs.declared.proc.Todo.{Todo}
use Rattle.ppd_sem.specs.Process.{loop_of, todos}
use Rattle.ppd_sem.specs.Runs.{returns}
use Rattle.ppd_sem.specs.Tables.{block_of}
use Rattle.ppd_model.proofs.Homes.{AllBeside, AreTop}
use Rattle.law_steps.specs.OpenBlocks.Stack.{entered_block, open_blocks, returned_block}
use Rattle.law_steps.proofs.OpenBlocks.Framed.{body_is}

module _ (program : Program) (plan : Plan) where
  abbrev pub O : List Todo → List ℕ
  O todo = open_blocks program plan todo

  -- a head that is no loop and does not return opens nothing
  pub no_entered : (t : Todo) → loop_of plan t.stmt (kind_of program t.stmt) ≡ None → entered_block program plan t ≡ []
  no_entered t none = by t.entered
    where
      by : (b : Bool) → (if b then option_to_list (loop_of plan t.stmt (kind_of program t.stmt)) else []) ≡ []
      by true = ap option_to_list none
      by false = refl

  pub no_returned : (t : Todo) → returns (kind_of program t.stmt) ≡ false → returned_block program plan t ≡ []
  no_returned t stays = ap (λ b. if b then option_to_list (block_of plan (block.Function (body_of program t.stmt))) else []) stays

  pub head_plain : (t : Todo) (ts : List Todo) → loop_of plan t.stmt (kind_of program t.stmt) ≡ None → returns (kind_of program t.stmt) ≡ false → O (t ∷ ts) ≡ O ts
  head_plain t ts none stays = ap (λ xs. (xs ++ returned_block program plan t) ++ O ts) (no_entered t none) ∙ ap (λ xs. xs ++ O ts) (no_returned t stays)

  pub new_plain : (i : ℕ) (ts : List Todo) → returns (kind_of program i) ≡ false → O (record { stmt = i; entered = false; offered = false } ∷ ts) ≡ O ts
  new_plain i ts stays = ap (λ xs. xs ++ O ts) (no_returned (record { stmt = i; entered = false; offered = false }) stays)

  pub inner_plain : (body : ℕ) (stmts : List ℕ) (ts : List Todo) → AllBeside program body stmts → O (todos stmts ++ ts) ≡ O ts
  inner_plain body [] ts h = refl
  inner_plain body (i ∷ is) ts h = new_plain i (todos is ++ ts) h.0.stays ∙ inner_plain body is ts h.1

  pub top_opens : (f : ℕ) (stmts : List ℕ) (ts : List Todo) → AreTop program f stmts → O (todos stmts ++ ts) ≡ option_to_list (block_of plan (block.Function f)) ++ O ts
  top_opens f [] ts h = absurd h
  top_opens f (i ∷ []) ts h =
      ap (λ b. (if b then option_to_list (block_of plan (block.Function (body_of program i))) else []) ++ O ts) h.1
      ∙ ap (λ n. option_to_list (block_of plan (block.Function n)) ++ O ts) (sym (body_is program i) ∙ h.0)
  top_opens f (i ∷ j ∷ is) ts h = new_plain i (todos (j ∷ is) ++ ts) h.0.stays ∙ top_opens f (j ∷ is) ts h.1
