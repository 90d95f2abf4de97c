-- Rows of edges, and what is added to them.
use Rattle.ppd_sets.specs.Used.{reads_at}
use Rattle.ppd_deps.specs.Named.{own_vars}
use Rattle.std.specs.Prelude.{◌≡◌, ◌<◌, ℕ, nat_eq, Bool, ◌&&◌, List, [], ◌++◌, length, get_or, if◌then◌else◌, false}
use Rattle.ppd_ast.specs.declared.program.Program.{Program}
use Rattle.ppd_ast.specs.Members.{has}
use Rattle.ppd_ast.specs.Lookups.{body_of}
use Rattle.ppd_deps.specs.declared.edges.StaticEdge.{StaticEdge}

-- the row with this number, and none past the end
abbrev pub row_at : List (List StaticEdge) → ℕ → List StaticEdge
row_at rows t = get_or rows t []

-- each row has, after what it had, what there is for its number
pub record Adds (old new : List (List StaticEdge)) (more : ℕ → List StaticEdge) : Type 0 where
  pub long : length new ≡ length old
  pub each : (t : ℕ) → t < length old → row_at new t ≡ row_at old t ++ more t

-- whether statement t of body b may read the local variable v
abbrev pub is_reader : Program → (b v t : ℕ) → Bool
is_reader p b v t = nat_eq (body_of p t) b && has (own_vars p (reads_at false p) t) v

-- these edges, where t is of body b
abbrev pub at_body : Program → (b t : ℕ) → List StaticEdge → List StaticEdge
at_body p b t edges = if nat_eq (body_of p t) b then edges else []
