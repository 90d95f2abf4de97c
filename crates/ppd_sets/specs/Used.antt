-- USED and DEFINED of bodies, by chains of calls, and of loops.
use Rattle.std.specs.Prelude.{◌<◌, ◌≤◌, ℕ, min, Bool, true, false, IsTrue, List, [], ◌∷◌, map, length, Option, Some, None, slice_get, if◌then◌else◌}
use Rattle.std.specs.List.{All, flat_map, range_with_len, list_any}
use Rattle.std.specs.Option.{option_map_or}
use Rattle.ppd_ast.specs.declared.program.Kind.{Kind}
use Rattle.ppd_ast.specs.declared.program.Kind.TheVariants as K
use Rattle.ppd_ast.specs.declared.program.Var.{Var}
use Rattle.ppd_ast.specs.declared.program.Program.{Program}
use Rattle.ppd_ast.specs.declared.limits.TheConstants.{MOST_NESTING, MOST_SHARED_CELLS}
use Rattle.ppd_ast.specs.Cells.{after, holds}
use Rattle.ppd_ast.specs.Numbered.{numbers_of, is_while}
use Rattle.ppd_ast.specs.Order.{preorder}
use Rattle.ppd_ast.specs.Members.{has, those}
use Rattle.ppd_ast.specs.Lookups.{kind_of}
use Rattle.ppd_sets.specs.Reach.{Reached, closure, leads}
use Rattle.ppd_sets.specs.Named.{reads, writes}

-- ---- calls

-- the function that a statement calls
abbrev pub callee : Kind → List ℕ
callee (K.Set t e) = []
callee (K.Zero base len) = []
callee (K.If e first second) = []
callee (K.While e body) = []
callee (K.Call f args into) = f ∷ []
callee (K.Return v) = []
callee (K.P s) = []
callee (K.V s) = []
callee (K.Send c e) = []
callee (K.Recv c into) = []
callee (K.Print e) = []
callee (K.Assert e) = []
callee K.End = []

-- the statements of body b
abbrev pub stmts_at : Program → ℕ → List ℕ
stmts_at p b = option_map_or (numbers_of p.stmts) (slice_get p.bodies b) []

-- the functions that each body calls
abbrev pub call_rows : Program → List (List ℕ)
call_rows p =
    map (λ b. flat_map (λ s. callee (kind_of p s)) (stmts_at p b)) (range_with_len 0 (length p.bodies))

-- the bodies that a chain of calls reaches from body b, itself included
abbrev pub called_from : Program → ℕ → List ℕ
called_from p b = those (length p.bodies) (leads (closure (call_rows p)) (b ∷ []))

-- ---- shared variables of bodies

abbrev pub reads_at : (wants_shared : Bool) → Program → ℕ → List ℕ
reads_at w p s = reads w p.exprs (kind_of p s)

abbrev pub writes_at : (wants_shared : Bool) → Program → ℕ → List ℕ
writes_at w p s = writes w (kind_of p s)

-- whether a cell of the variable is among these
abbrev pub is_met : List ℕ → Option Var → Bool
is_met cells None = false
is_met cells (Some x) = list_any (λ c. holds c x) cells

-- the cells of each of these variables are cells that a program may have
abbrev pub AreSmall : List Var → Type 0
AreSmall vars = All (λ x. after x ≤ MOST_SHARED_CELLS) vars

-- the variables of which a cell is among these, by number; numbers have 16 bits
abbrev pub vars_met : List Var → List ℕ → List ℕ
vars_met vars cells = those (min (length vars) 65536) (λ v. is_met cells (slice_get vars v))

-- the shared variables that some body reads, or writes, as `cells` gives the cells of its statements: a chain of calls
-- reaches it from b, which is one of them
abbrev pub shared_through : Program → (cells : ℕ → List ℕ) → ℕ → List ℕ
shared_through p cells b = vars_met p.shared (flat_map (λ c. flat_map cells (stmts_at p c)) (called_from p b))

-- ---- local cells of loops

-- the numbers of the list that a program's cells may have, rising, each once: a valid program names no others
unfoldable pub sorted : List ℕ → List ℕ
sorted cells = those MOST_SHARED_CELLS (has cells)

-- the local cells that a loop's test and the statements inside read, or write, as `cells` gives those of a statement
abbrev pub local_in : Program → (cells : ℕ → List ℕ) → ℕ → List ℕ
local_in p cells q =
    if is_while (kind_of p q) then sorted (flat_map cells (preorder MOST_NESTING p.stmts q)) else []

-- ---- the same as relations

-- a statement of a body that a chain of calls reaches from b may read a cell of the variable
pub record IsUsed (p : Program) (b : ℕ) (x : Var) : Type 0 where
  pub body : ℕ
  pub is_body : body < length p.bodies
  pub chain : Reached (call_rows p) (b ∷ []) body
  pub stmt : ℕ
  pub stands : IsTrue (has (stmts_at p body) stmt)
  pub cell : ℕ
  pub read : IsTrue (has (reads_at true p stmt) cell)
  pub held : IsTrue (holds cell x)

-- a statement of a body that a chain of calls reaches from b writes a cell of the variable
pub record IsDefined (p : Program) (b : ℕ) (x : Var) : Type 0 where
  pub body : ℕ
  pub is_body : body < length p.bodies
  pub chain : Reached (call_rows p) (b ∷ []) body
  pub stmt : ℕ
  pub stands : IsTrue (has (stmts_at p body) stmt)
  pub cell : ℕ
  pub written : IsTrue (has (writes_at true p stmt) cell)
  pub held : IsTrue (holds cell x)

-- the loop's test or a statement inside it may read the local cell
pub record IsLoopUsed (p : Program) (q c : ℕ) : Type 0 where
  pub stmt : ℕ
  pub inside : IsTrue (has (preorder MOST_NESTING p.stmts q) stmt)
  pub read : IsTrue (has (reads_at false p stmt) c)

-- a statement inside the loop writes the local cell; the loop itself writes none
pub record IsLoopDefined (p : Program) (q c : ℕ) : Type 0 where
  pub stmt : ℕ
  pub inside : IsTrue (has (preorder MOST_NESTING p.stmts q) stmt)
  pub written : IsTrue (has (writes_at false p stmt) c)
