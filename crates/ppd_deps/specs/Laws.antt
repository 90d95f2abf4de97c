-- Laws of static edges.
use Rattle.ppd_ast.specs.Lookups.{body_numbered, body_of, kind_of}
use Rattle.ppd_ast.specs.Members.{has}
use Rattle.ppd_ast.specs.declared.program.Program.{Program}
use Rattle.ppd_ast.specs.declared.program.Var.{Var}
use Rattle.ppd_sets.specs.Flow.{next_of}
use Rattle.ppd_deps.specs.Edges.{begins, edges_of, ends_paths}
use Rattle.ppd_deps.specs.Named.{own_vars, shared_reads, shared_writes}
use Rattle.ppd_deps.specs.declared.edges.StaticEdge.TheVariants.{Data}
use Rattle.ppd_sets.specs.Used.{reads_at}
use Rattle.std.specs.List.{Contains}
use Rattle.std.specs.Prelude.{IsTrue, List, Option, [], false, slice_get, true, ℕ, ◌∷◌, ◌≡◌}

-- statement u and then this list are a flow path of body b that ends with t, and no statement before t ends the paths
-- of the variable
abbrev pub IsKeptPath : Program → (b : ℕ) → Option Var → ℕ → List ℕ → ℕ → Type 0
IsKeptPath p b x u [] t = u ≡ t
IsKeptPath p b x u (w ∷ rest) t =
    IsTrue (has (next_of p u) w)
    × ((body_of p u ≡ b) × ((ends_paths x (kind_of p u) ≡ false) × IsKeptPath p b x w rest t))

-- t reads the local variable v of its body, and such a path leads to t from where the paths of what s writes to v begin
pub record HasPath (p : Program) (s v t : ℕ) : Type 0 where
  pub reads : IsTrue (has (own_vars p (reads_at false p) t) v)
  pub first : ℕ
  pub start : IsTrue (has (begins p (body_of p t) s v) first)
  pub rest : List ℕ
  pub path : IsKeptPath p (body_of p t) (slice_get (body_numbered p (body_of p t)).locals v) first rest t

-- s writes the shared variable v, in a body that runs, and t reads it
pub record IsShared (p : Program) (s v t : ℕ) : Type 0 where
  pub written : IsTrue (has (shared_writes p s) v)
  pub reads : IsTrue (has (shared_reads p t) v)

-- no data edge is invented
pub record NoEdgeIsInvented : Type 0 where
  pub local : (p : Program) (s v t : ℕ) → Contains (edges_of p t) (Data s false v) → HasPath p s v t
  pub shared : (p : Program) (s v t : ℕ) → Contains (edges_of p t) (Data s true v) → IsShared p s v t
