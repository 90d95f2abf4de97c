-- The static edges into a statement.
use Rattle.ppd_ast.specs.Lookups.{body_numbered, body_of, kind_of}
use Rattle.ppd_ast.specs.Members.{has}
use Rattle.ppd_ast.specs.Numbered.{is_while}
use Rattle.ppd_ast.specs.declared.program.Kind.{Kind}
use Rattle.ppd_ast.specs.declared.program.Kind.TheVariants as K
use Rattle.ppd_ast.specs.declared.program.Program.{Program}
use Rattle.ppd_ast.specs.declared.program.Target.TheVariants as T
use Rattle.ppd_ast.specs.declared.program.Var.{Var}
use Rattle.ppd_sets.specs.Flow.{next_of}
use Rattle.ppd_sets.specs.Reach.{closure, leads}
use Rattle.ppd_deps.specs.Named.{calls, own_vars, places, shared_reads, shared_writes}
use Rattle.ppd_deps.specs.declared.edges.StaticEdge.{StaticEdge}
use Rattle.ppd_deps.specs.declared.edges.StaticEdge.TheVariants.{Control, ControlEntry, Data}
use Rattle.ppd_sets.specs.Used.{reads_at, writes_at}
use Rattle.std.specs.List.{filter, flat_map, range_with_len}
use Rattle.std.specs.Option.{option_eq, option_map_or}
use Rattle.std.specs.Prelude.{Bool, List, None, Option, Some, [], false, if◌then◌else◌, is_some, length, map, nat_eq, nat_lt, not, option_to_list, slice_get, true, ℕ, ◌&&◌, ◌++◌, ◌∷◌}

-- ---- paths of a local variable

-- the local scalar's cell that a statement of this kind writes
abbrev pub scalar_written : Kind → Option ℕ
scalar_written (K.Set (T.Local c) e) = Some c
scalar_written (K.Set (T.LocalAt base len i) e) = None
scalar_written (K.Set (T.Shared c) e) = None
scalar_written (K.Set (T.SharedAt base len i) e) = None
scalar_written (K.Zero base len) = None
scalar_written (K.If e first second) = None
scalar_written (K.While e body) = None
scalar_written (K.Call f args into) = into
scalar_written (K.Return v) = None
scalar_written (K.P s) = None
scalar_written (K.V s) = None
scalar_written (K.Send c e) = None
scalar_written (K.Recv c into) = Some into
scalar_written (K.Print e) = None
scalar_written (K.Assert e) = None
scalar_written K.End = None

-- whether a statement of this kind ends the paths of a variable: that is a scalar, and is written; the write of an
-- array's element ends none
abbrev pub ends_paths : Option Var → Kind → Bool
ends_paths None k = false
ends_paths (Some x) k = not (is_some x.len) && option_eq nat_eq (scalar_written k) (Some x.base)

-- the successors of each statement along which a value of the variable of body b is still there
abbrev pub kept_rows : Program → (b : ℕ) → Option Var → List (List ℕ)
kept_rows p b x =
    map (λ u. if nat_eq (body_of p u) b && not (ends_paths x (kind_of p u)) then next_of p u else [])
    (range_with_len 0 (length p.stmts))

-- where the paths of what statement s writes to variable v of body b begin: behind each place where it writes v, and
-- at the entry of b, where s calls b and v is a parameter
abbrev pub begins : Program → (b s v : ℕ) → List ℕ
begins p b s v =
    flat_map (next_of p) (filter (λ c. has (own_vars p (writes_at false p) c) v) (places p b s))
    ++ (if calls p s b && nat_lt v (body_numbered p b).params
    then option_to_list (slice_get (body_numbered p b).top 0) else [])

-- whether what s writes to variable v of body b may come to statement t
abbrev pub comes_to : Program → (b s v t : ℕ) → Bool
comes_to p b s v t = leads (closure (kept_rows p b (slice_get (body_numbered p b).locals v))) (begins p b s v) t

-- ---- data

-- the local variables of which a value may come from s to t
abbrev pub locals_from : Program → (s t : ℕ) → List ℕ
locals_from p s t = filter (λ v. comes_to p (body_of p t) s v t) (own_vars p (reads_at false p) t)

-- the data edges into t, by source statement, shared before local, number
abbrev pub data_into : Program → ℕ → List StaticEdge
data_into p t =
    flat_map
    (λ s.
    map (Data s true) (filter (has (shared_reads p t)) (shared_writes p s))
    ++ map (Data s false) (locals_from p s t))
    (range_with_len 0 (length p.stmts))

-- ---- control

-- the control edges into t: from the `If` or `While` in which it directly stands, else from the entry; a `While` also
-- from itself
abbrev pub control_into : Program → ℕ → List StaticEdge
control_into p t =
    option_map_or
    (λ x. option_map_or Control x.parent ControlEntry ∷ (if is_while x.kind then Control t ∷ [] else []))
    (slice_get p.stmts t) []

-- ---- all

-- the static edges into statement t
abbrev pub edges_of : Program → ℕ → List StaticEdge
edges_of p t = data_into p t ++ control_into p t
