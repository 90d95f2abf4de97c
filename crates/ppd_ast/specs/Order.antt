-- The statements that stand in one another, and their order.
use Rattle.std.specs.Prelude.{◌≡◌, ℕ, zero, suc, List, [], ◌∷◌, ◌++◌, Option, IsSomeAnd, slice_get}
use Rattle.std.specs.List.{All, flat_map}
use Rattle.std.specs.Option.{option_map_or}
use Rattle.ppd_ast.specs.declared.program.Kind.{Kind}
use Rattle.ppd_ast.specs.declared.program.Kind.TheVariants as K
use Rattle.ppd_ast.specs.declared.program.Stmt.{Stmt}

-- the statements that stand directly in one of this kind
abbrev pub inner : Kind → List ℕ
inner (K.If e first second) = first ++ second
inner (K.While e body) = body
inner _ = []

-- a statement and those inside it, each before what stands in it: those that stand at most `depth` deep, itself the
-- first
unfoldable pub preorder : (depth : ℕ) → List Stmt → ℕ → List ℕ
preorder zero stmts i = []
preorder (suc depth) stmts i =
    i ∷ flat_map (preorder depth stmts) (option_map_or (λ s. inner s.kind) (slice_get stmts i) [])

-- each statement of the list stands directly in `parent`, in this body
abbrev pub StandIn : List Stmt → Option ℕ → (body : ℕ) → List ℕ → Type 0
StandIn stmts parent body list =
    All (λ i. IsSomeAnd (slice_get stmts i) (λ s. (s.parent ≡ parent) × (s.body ≡ body))) list
