-- In a valid program: which statements open a block, as what is to do.
use Rattle.std.proofs.Common.{◌≡◌, ℕ, ◌<◌, ◌≤◌, Bool, true, false, List, [], ◌∷◌, Some, None, refl, ap, sym, subst, ◌∙◌, arith, true≢false}
use Rattle.std.specs.Prelude.{is_some, nat_le, slice_get, unwrap_or}
use Rattle.std.proofs.lemmas.Bool.{leb-true}
use Rattle.std.specs.List.{AllByRecursion as Each}
use Rattle.std.specs.Option.{option_map_or}
use Rattle.ppd_ast.specs.declared.plan.BlockKind.TheVariants as block
use Rattle.ppd_ast.specs.declared.plan.Plan.{Plan}
use Rattle.ppd_ast.specs.declared.program.Body.{Body}
use Rattle.ppd_ast.specs.declared.program.Kind.{Kind}
use Rattle.ppd_ast.specs.declared.program.Kind.TheVariants as kind
use Rattle.ppd_ast.specs.declared.program.Program.{Program}
use Rattle.ppd_ast.specs.declared.program.Stmt.{Stmt}
use Rattle.ppd_ast.specs.Valid.{EndsBody, IsValid}
use Rattle.ppd_ast.proofs.ValidLaws.{stmt_in_body, valid_body}
use Rattle.ppd_ast.specs.Lookups.{kind_of, body_of, body_numbered, no_body}
use Rattle.ppd_ast.proofs.Vocabulary.{kind_of_stmt}
use Rattle.ppd_ast.specs.Counting.{one_if}
use Rattle.ppd_sem.specs.Described.{ends_body}
use Rattle.ppd_sem.specs.Process.{todos}
use Rattle.ppd_sem.specs.Tables.{block_of}
use Rattle.law_steps.specs.Beside.Relation.{IsCallOf}
use Rattle.law_steps.proofs.Vocabulary.Relation.{IsReturn}
use Rattle.law_steps.specs.Beside.Opens.{IsCountable, ends_block, opens}
use Rattle.law_steps.proofs.Facts.Placed.{EndsOnce, IsAt, IsCallee, all_at, body_ends_once, callee, inside_goes_on, listed}

goes_open : (plan : Plan) (body : ℕ) (k : Kind) → ends_body k ≡ false → ends_block plan body k ≡ 0
goes_open plan body (kind.Return e) h = absurd (true≢false h)
goes_open plan body kind.End h = absurd (true≢false h)
goes_open plan body k h = refl

list_opens : (program : Program) (plan : Plan) (s number : ℕ) (stmts : List ℕ) → IsValid program
    → Each (IsAt program (Some s) number) stmts → opens program plan (todos stmts) ≡ 0
list_opens program plan s number [] v h = refl
list_opens program plan s number (i ∷ is) v h =
    let one : ends_block plan (body_of program i) (kind_of program i) ≡ 0 =
    goes_open plan (body_of program i) (kind_of program i)
    (inside_goes_on program s number i v h.0) in
    omega (arith, one, list_opens program plan s number is v h.1)

-- a function's last statement returns
not_end : (b : Body) (k : ℕ) (x : Kind) → b.process ≡ false → EndsBody b k x → ends_body x ≡ true → IsReturn x
not_end b k (kind.Return v) f h e = tt
not_end b k kind.End f h e = absurd (true≢false (sym h.0 ∙ f))
not_end b k x f h e = absurd (true≢false (sym e))

pub return_opens : (plan : Plan) (body : ℕ) (k : Kind) → IsReturn k
    → ends_block plan body k ≡ one_if (is_some (block_of plan (block.Function body)))
return_opens plan body (kind.Return e) h = refl
return_opens plan body k h = absurd h

pub is_function_body : (program : Program) (f : ℕ) (b : Body) → IsValid program
    → slice_get program.bodies f ≡ Some b → f < program.functions → b.process ≡ false
is_function_body program f b v at lt = (valid_body program f b v at).process ∙ by (nat_le program.functions f) refl
  where
    by : (x : Bool) → nat_le program.functions f ≡ x → nat_le program.functions f ≡ false
    by true e =
        absurd (let l : program.functions ≤ f = leb-true program.functions f e in let no : ⊥ = omega (arith, l, lt) in no)
    by false e = e

-- a statement of a function that ends it returns
pub function_returns : (program : Program) (i : ℕ) (x : Stmt) → IsValid program
    → slice_get program.stmts i ≡ Some x → x.body < program.functions → ends_body x.kind ≡ true → IsReturn x.kind
function_returns program i x v at lt e =
    let own = stmt_in_body program i x v at in
    not_end own.0 i x.kind (is_function_body program x.body own.0 v own.1 lt) own.2.ending e

top_opens : (program : Program) (plan : Plan) (f : ℕ) (stmts : List ℕ) → IsValid program → f < program.functions
    → Each (IsAt program None f) stmts → EndsOnce program stmts
    → opens program plan (todos stmts) ≡ one_if (is_some (block_of plan (block.Function f)))
top_opens program plan f [] v lt at h = absurd h
top_opens program plan f (i ∷ []) v lt at h =
    let own : body_of program i ≡ f = ap (λ o. option_map_or (λ (x : Stmt). x.body) o 0) at.0.there ∙ at.0.body in
    let is : kind_of program i ≡ at.0.stmt.kind = ap kind_of_stmt at.0.there in
    let below : at.0.stmt.body < program.functions = subst (λ n. n < program.functions) (sym at.0.body) lt in
    let returns : IsReturn (kind_of program i) =
    subst IsReturn (sym is) (function_returns program i at.0.stmt v at.0.there below
    (sym (ap ends_body is) ∙ h)) in
    let one : ends_block plan (body_of program i)
    (kind_of program i) ≡ one_if (is_some (block_of plan (block.Function f))) =
    return_opens plan (body_of program i) (kind_of program i) returns
    ∙ ap (λ n. one_if (is_some (block_of plan (block.Function n)))) own in
    omega (arith, one)
top_opens program plan f (i ∷ j ∷ is) v lt at h =
    let none : ends_block plan (body_of program i) (kind_of program i) ≡ 0 =
    goes_open plan (body_of program i) (kind_of program i) h.0 in
    omega (arith, none, top_opens program plan f (j ∷ is) v lt at.1 h.1)

-- what validity gives of the blocks that are open
pub is_countable : (program : Program) (plan : Plan) → IsValid program → IsCountable program plan
is_countable program plan v = record {
  lists = λ s stmts is. list_opens program plan s (body_of program s) stmts v
      (listed program s stmts v is);
  bodies = λ s f is. by s f is (callee program s f v is);
}
  where
    by : (s f : ℕ) → IsCallOf (kind_of program s) f → IsCallee program f
        → opens program plan (todos (body_numbered program f).top)
        ≡ one_if (is_some (block_of plan (block.Function f)))
    by s f is c =
        ap (λ o. opens program plan (todos (unwrap_or o no_body).top)) c.there
        ∙ top_opens program plan f c.body.top v c.function
        (all_at program None f c.body.top (valid_body program f c.body v c.there).top)
        (body_ends_once program f c.body v c.there)
