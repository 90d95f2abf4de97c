-- How blocks and units are numbered for a policy.
use Rattle.std.specs.Prelude.{ℕ, zero, suc, ◌-◌, min, nat_lt, nat_le, Bool, true, false, not, ◌&&◌, ◌||◌, List, [], ◌∷◌, ◌++◌, length, Option, Some, None, slice_get, if◌then◌else◌}
use Rattle.std.specs.List.{enumerate_from, flat_map, range_with_len, list_any}
use Rattle.std.specs.Option.{option_map_or}
use Rattle.ppd_ast.specs.declared.program.Kind.{Kind}
use Rattle.ppd_ast.specs.declared.program.Kind.TheVariants as K
use Rattle.ppd_ast.specs.declared.program.Stmt.{Stmt}
use Rattle.ppd_ast.specs.declared.program.Body.{Body}
use Rattle.ppd_ast.specs.declared.plan.BlockKind.{BlockKind}
use Rattle.ppd_ast.specs.declared.plan.BlockKind.TheVariants.{Function, Process, Loop}
use Rattle.ppd_ast.specs.declared.plan.Start.{Start}
use Rattle.ppd_ast.specs.declared.plan.Start.TheVariants.{Entry, After, Enter, Exit}
use Rattle.ppd_ast.specs.declared.plan.Policy.{Policy}
use Rattle.ppd_ast.specs.declared.limits.TheConstants.{MOST_NESTING}
use Rattle.ppd_ast.specs.Order.{inner, preorder}

abbrev pub is_while : Kind → Bool
is_while (K.While e body) = true
is_while _ = false

abbrev pub is_call : Kind → Bool
is_call (K.Call f args into) = true
is_call _ = false

-- whether a unit starts after a statement of this kind: a call or a synchronization
abbrev pub is_left : Kind → Bool
is_left (K.Call f args into) = true
is_left (K.P s) = true
is_left (K.V s) = true
is_left (K.Send c e) = true
is_left (K.Recv c into) = true
is_left _ = false

-- the numbers of a body's statements
abbrev pub numbers_of : List Stmt → Body → List ℕ
numbers_of stmts b = range_with_len b.first (min b.end (length stmts) - b.first)

-- whether a `while` is among this parent and those that it stands in, so many of them
unfoldable pub in_while : (depth : ℕ) → List Stmt → Option ℕ → Bool
in_while zero stmts parent = false
in_while (suc depth) stmts None = false
in_while (suc depth) stmts (Some n) =
    option_map_or (λ s. is_while s.kind || in_while depth stmts s.parent) (slice_get stmts n) false

-- a `while` that lies in no other `while` of its body and has at least `loops` statements inside, where
-- `loops` is not 0
abbrev pub is_block_loop : List Stmt → Policy → Stmt → Bool
is_block_loop stmts policy s =
    is_while s.kind && nat_lt 0 policy.loops && not (in_while MOST_NESTING stmts s.parent)
    && nat_le policy.loops (length (flat_map (preorder MOST_NESTING stmts) (inner s.kind)))

abbrev pub has_call : List Stmt → Body → Bool
has_call stmts b = list_any (λ k. option_map_or (λ s. is_call s.kind) (slice_get stmts k) false) (numbers_of stmts b)

-- a process; or a function but one that has no call and fewer than `leaf` statements
abbrev pub is_block_body : List Stmt → Policy → Body → Bool
is_block_body stmts policy b = b.process || has_call stmts b || nat_le policy.leaf (b.end - b.first)

-- the block that statement k is, if it is one
abbrev pub loops_at : List Stmt → Policy → ℕ → List BlockKind
loops_at stmts policy k =
    option_map_or (λ s. if is_block_loop stmts policy s then Loop k ∷ [] else []) (slice_get stmts k) []

-- the blocks of body j: itself where it is one, then its block loops
abbrev pub blocks_of : List Stmt → Policy → ℕ → Body → List BlockKind
blocks_of stmts policy j b =
    (if is_block_body stmts policy b then (if b.process then Process j else Function j) ∷ [] else [])
    ++ flat_map (loops_at stmts policy) (numbers_of stmts b)

abbrev pub starts_of : List Stmt → Policy → ℕ → Option Stmt → List Start
starts_of stmts policy k None = []
starts_of stmts policy k (Some s) =
    if is_left s.kind then After k ∷ []
    else if is_block_loop stmts policy s then Enter k ∷ Exit k ∷ []
    else []

-- the starts of units at statement k
abbrev pub starts_at : List Stmt → Policy → ℕ → List Start
starts_at stmts policy k = starts_of stmts policy k (slice_get stmts k)

-- the starts of units of body j: its entry, then those at its statements
abbrev pub body_starts : List Stmt → Policy → ℕ → Body → List Start
body_starts stmts policy j b = Entry j ∷ flat_map (starts_at stmts policy) (numbers_of stmts b)

-- a body's own, then what there is at each of its statements
abbrev pub of_body : {X : Type 0} → (List Stmt → Policy → ℕ → Body → List X) → (List Stmt → Policy → ℕ → List X)
    → List Stmt → Policy → ℕ → Body → List X
of_body own at stmts policy j b = own stmts policy j b ++ flat_map (at stmts policy) (numbers_of stmts b)

abbrev pub blocks_by : List Stmt → Policy → List Body → List BlockKind
blocks_by stmts policy bodies = flat_map (λ e. blocks_of stmts policy e.0 e.1) (enumerate_from 0 bodies)

abbrev pub starts_by : List Stmt → Policy → List Body → List Start
starts_by stmts policy bodies = flat_map (λ e. body_starts stmts policy e.0 e.1) (enumerate_from 0 bodies)
