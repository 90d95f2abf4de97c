-- What the proofs speak of: the parts of the definitions, each by a name of its own.
use Rattle.std.specs.Prelude.{ℕ, Option, List, [], Bool, false, slice_get, ◌∷◌, ◌++◌, fold, ◌||◌, length, if◌then◌else◌, unwrap_or}
use Rattle.std.specs.Option.{option_map_or}
use Rattle.std.specs.List.{flat_map}
use Rattle.ppd_ast.specs.declared.program.Body.{Body}
use Rattle.ppd_ast.specs.declared.program.Kind.{Kind}
use Rattle.ppd_ast.specs.declared.program.Stmt.{Stmt}
use Rattle.ppd_ast.specs.declared.program.Kind.TheVariants as kind
use Rattle.ppd_ast.specs.declared.program.Var.{Var}
use Rattle.ppd_ast.specs.Order.{inner, preorder}
use Rattle.ppd_ast.specs.declared.program.Expr.{Expr}
use Rattle.ppd_ast.specs.Term.{Term, node}
use Rattle.ppd_ast.specs.declared.plan.BlockKind.{BlockKind}
use Rattle.ppd_ast.specs.declared.plan.BlockKind.TheVariants.{Loop, Function, Process}
use Rattle.ppd_ast.specs.declared.plan.Policy.{Policy}
use Rattle.ppd_ast.specs.declared.limits.TheConstants.{MOST_NESTING}
use Rattle.ppd_ast.specs.Numbered.{is_block_loop, is_call, is_while}
use Rattle.ppd_ast.specs.Lookups.{no_body}

-- the kind of a statement, and `End` where there is none
abbrev pub kind_of_stmt : Option Stmt → Kind
kind_of_stmt o = option_map_or (λ x. x.kind) o kind.End

-- how many parameters a body has, and 0 where there is none
abbrev pub params_of_body : Option Body → ℕ
params_of_body o = (unwrap_or o no_body).params

-- the local variables of a body, and none where there is no body
abbrev pub locals_of_body : Option Body → List Var
locals_of_body o = (unwrap_or o no_body).locals

-- whether a body gives a value
abbrev pub gives : Option Body → Bool
gives o = option_map_or (λ b. b.value) o false

abbrev pub inner_of : Option Stmt → List ℕ
inner_of o = option_map_or (λ s. inner s.kind) o []

-- the statements that stand directly in statement i
abbrev pub inner_at : List Stmt → ℕ → List ℕ
inner_at stmts i = option_map_or (λ s. inner s.kind) (slice_get stmts i) []

-- the trees of the expressions, after those that are done: a child has a smaller number
abbrev pub terms_after : List Term → List Expr → List Term
terms_after done es = fold (λ done e. done ++ node done e ∷ []) done es

-- whether a statement is a `while` or the test is true of its parent
abbrev pub while_or : (Option ℕ → Bool) → Option Stmt → Bool
while_or further o = option_map_or (λ s. is_while s.kind || further s.parent) o false

-- how many statements stand in one of this kind, directly or not
abbrev pub inside_count : List Stmt → Kind → ℕ
inside_count stmts kind = length (flat_map (preorder MOST_NESTING stmts) (inner kind))

-- whether a statement is a call
abbrev pub is_call_of : Option Stmt → Bool
is_call_of o = option_map_or (λ s. is_call s.kind) o false

-- the block that a statement of this number is, if it is one
abbrev pub loops_of : List Stmt → Policy → ℕ → Option Stmt → List BlockKind
loops_of stmts policy k o = option_map_or (λ s. if is_block_loop stmts policy s then Loop k ∷ [] else []) o []

-- the kind of block that body j is
abbrev pub body_kind : ℕ → Body → BlockKind
body_kind j b = if b.process then Process j else Function j
