-- What the proofs speak of: the parts of the definitions, each by a name of its own.
use Rattle.std.specs.Prelude.{ℕ, nat_eq, Bool, true, false, not, ◌&&◌, List, [], ◌∷◌, ◌++◌, map, Option, Some, if◌then◌else◌, ◌-◌, nat_lt, length}
use Rattle.std.specs.List.{filter, range_with_len}
use Rattle.std.specs.Option.{option_map_or, option_eq}
use Rattle.ppd_ast.specs.Numbered.{is_while}
use Rattle.ppd_ast.specs.declared.program.Program.{Program}
use Rattle.ppd_ast.specs.declared.program.Stmt.{Stmt}
use Rattle.ppd_ast.specs.declared.program.Var.{Var}
use Rattle.ppd_ast.specs.Members.{has}
use Rattle.ppd_ast.specs.Lookups.{kind_of, body_of, body_numbered}
use Rattle.ppd_sets.specs.Flow.{next_of}
use Rattle.ppd_deps.specs.declared.edges.StaticEdge.{StaticEdge}
use Rattle.ppd_deps.specs.declared.edges.StaticEdge.TheVariants.{Data, ControlEntry, Control}
use Rattle.ppd_deps.specs.Named.{shared_reads, shared_writes, calls}
use Rattle.ppd_deps.specs.Edges.{ends_paths, locals_from}

-- whether this is the cell
abbrev pub is_cell : ℕ → Option ℕ → Bool
is_cell c o = option_eq nat_eq o (Some c)

-- the successors of statement u of body b along which a value of the variable is still there
abbrev pub kept_next : Program → (b : ℕ) → Option Var → ℕ → List ℕ
kept_next p b x u = if nat_eq (body_of p u) b && not (ends_paths x (kind_of p u)) then next_of p u else []

abbrev pub shared_edge : ℕ → ℕ → StaticEdge
shared_edge s v = Data s true v

abbrev pub local_edge : ℕ → ℕ → StaticEdge
local_edge s v = Data s false v

-- the shared variables of which a value may come from s to t
abbrev pub shared_from : Program → (s t : ℕ) → List ℕ
shared_from p s t = filter (has (shared_reads p t)) (shared_writes p s)

abbrev pub data_from : Program → (s t : ℕ) → List StaticEdge
data_from p s t = map (shared_edge s) (shared_from p s t) ++ map (local_edge s) (locals_from p s t)

-- the edge from the statement round it, else from the entry
abbrev pub outer_edge : Option ℕ → StaticEdge
outer_edge o = option_map_or Control o ControlEntry

-- the control edges into statement t, where it is this one
abbrev pub control_of : ℕ → Option Stmt → List StaticEdge
control_of t o =
    option_map_or (λ x. outer_edge x.parent ∷ (if is_while x.kind then Control t ∷ [] else [])) o []

abbrev pub processes : Program → List ℕ
processes p = range_with_len p.functions (length p.bodies - p.functions)

-- whether statement s calls body b, of which variable v is a parameter
abbrev pub passes : Program → (b s v : ℕ) → Bool
passes p b s v = calls p s b && nat_lt v (body_numbered p b).params
