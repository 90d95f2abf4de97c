-- What lists of statements close.
use Rattle.std.proofs.Common.{◌≡◌, ℕ, Bool, true, false, List, [], ◌∷◌, ◌++◌, Option, None, refl, ap, sym, ◌∙◌, if◌then◌else◌}
use Rattle.ppd_ast.specs.declared.plan.BlockKind.TheVariants as block
use Rattle.ppd_ast.specs.declared.plan.Plan.{Plan}
use Rattle.ppd_ast.specs.declared.program.Program.{Program}
use Rattle.ppd_ast.specs.Lookups.{kind_of, body_of}
use Rattle.ppd_sem.specs.declared.proc.Todo.{Todo}
use Rattle.ppd_sem.specs.Process.{loop_of, todos}
use Rattle.ppd_sem.specs.Runs.{returns}
use Rattle.ppd_sem.specs.Tables.{block_of}
use Rattle.ppd_model.proofs.Homes.{AllBeside, AreTop}
use Rattle.law_steps.proofs.OpenBlocks.Framed.{body_is}
use Rattle.law_flow.specs.Places.Closing.{closing, if_there, of_loop, of_return}

module _ (program : Program) (plan : Plan) where
  abbrev pub C : List Todo → List (Option ℕ)
  C todo = closing program plan todo

  -- a head that is no loop and does not return closes nothing
  pub no_loop_mark : (t : Todo) → loop_of plan t.stmt (kind_of program t.stmt) ≡ None → of_loop program plan t ≡ []
  no_loop_mark t none = by t.entered
    where
      by : (b : Bool) → (if b then if_there (loop_of plan t.stmt (kind_of program t.stmt)) else []) ≡ []
      by true = ap if_there none
      by false = refl

  pub no_return_mark : (t : Todo) → returns (kind_of program t.stmt) ≡ false → of_return program plan t ≡ []
  no_return_mark t stays =
      ap (λ b. if b then block_of plan (block.Function (body_of program t.stmt)) ∷ [] else []) stays

  pub return_mark : (t : Todo) → returns (kind_of program t.stmt) ≡ true
      → of_return program plan t ≡ block_of plan (block.Function (body_of program t.stmt)) ∷ []
  return_mark t goes = ap (λ b. if b then block_of plan (block.Function (body_of program t.stmt)) ∷ [] else []) goes

  pub head_plain : (t : Todo) (ts : List Todo) → loop_of plan t.stmt (kind_of program t.stmt) ≡ None
      → returns (kind_of program t.stmt) ≡ false → C (t ∷ ts) ≡ C ts
  head_plain t ts none stays = ap (λ xs. (xs ++ of_return program plan t) ++ C ts) (no_loop_mark t none)
      ∙ ap (λ xs. xs ++ C ts) (no_return_mark t stays)

  pub new_plain : (i : ℕ) (ts : List Todo) → returns (kind_of program i) ≡ false
      → C (record { stmt = i; entered = false; offered = false } ∷ ts) ≡ C ts
  new_plain i ts stays =
      ap (λ xs. xs ++ C ts) (no_return_mark (record { stmt = i; entered = false; offered = false }) stays)

  pub inner_plain : (body : ℕ) (stmts : List ℕ) (ts : List Todo) → AllBeside program body stmts
      → C (todos stmts ++ ts) ≡ C ts
  inner_plain body [] ts h = refl
  inner_plain body (i ∷ is) ts h = new_plain i (todos is ++ ts) h.0.stays ∙ inner_plain body is ts h.1

  pub top_opens : (f : ℕ) (stmts : List ℕ) (ts : List Todo) → AreTop program f stmts
      → C (todos stmts ++ ts) ≡ block_of plan (block.Function f) ∷ C ts
  top_opens f [] ts h = absurd h
  top_opens f (i ∷ []) ts h =
      ap (λ b. (if b then block_of plan (block.Function (body_of program i)) ∷ [] else []) ++ C ts) h.1
      ∙ ap (λ n. block_of plan (block.Function n) ∷ C ts) (sym (body_is program i) ∙ h.0)
  top_opens f (i ∷ j ∷ is) ts h = new_plain i (todos (j ∷ is) ++ ts) h.0.stays ∙ top_opens f (j ∷ is) ts h.1
