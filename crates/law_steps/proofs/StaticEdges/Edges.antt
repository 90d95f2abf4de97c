-- The data edges that lead to a statement.
use Rattle.law_steps.proofs.StaticEdges.Lists.{here, in_left, in_right, there}
use Rattle.ppd_ast.proofs.Members.{filter_has, from_zero, has_cons}
use Rattle.ppd_ast.specs.Lookups.{body_numbered, body_of}
use Rattle.ppd_ast.specs.Members.{has}
use Rattle.ppd_ast.specs.declared.program.Program.{Program}
use Rattle.ppd_sets.proofs.Leading.{leads-tests}
use Rattle.ppd_sets.specs.Reach.{Reached}
use Rattle.ppd_deps.proofs.Vocabulary.{data_from, local_edge, shared_edge, shared_from}
use Rattle.ppd_deps.specs.Edges.{begins, comes_to, control_into, data_into, edges_of, kept_rows, locals_from}
use Rattle.ppd_deps.specs.Named.{own_vars, shared_reads, shared_writes}
use Rattle.ppd_deps.specs.declared.edges.StaticEdge.{StaticEdge}
use Rattle.ppd_deps.specs.declared.edges.StaticEdge.TheVariants.{Data}
use Rattle.ppd_sets.specs.Used.{reads_at}
use Rattle.std.proofs.Common.{List, [], false, inl, inr, length, map, subst, sym, true, ℕ, ◌<◌, ◌∷◌}
use Rattle.std.specs.List.{Contains, flat_map, range_with_len}
use Rattle.std.specs.Prelude.{IsTrue, slice_get}

mapped : {X : Type 0} (f : ℕ → X) (xs : List ℕ) (v : ℕ) → IsTrue (has xs v) → Contains (map f xs) (f v)
mapped f [] v h = absurd (cc)
mapped f (x ∷ xs) v h = elim (has_cons x v xs h) [
  | inl e ↦ subst (λ w. Contains (f x ∷ map f xs) (f w)) e (here (f x) (map f xs))
  | inr t ↦ there (f v) (f x) (map f xs) (mapped f xs v t)
]

gathered : {X : Type 0} (f : ℕ → List X) (xs : List ℕ) (s : ℕ) (e : X) → IsTrue (has xs s) → Contains (f s) e → Contains (flat_map f xs) e
gathered f [] s e h c = absurd (cc)
gathered f (x ∷ xs) s e h c = elim (has_cons x s xs h) [
  | inl same ↦ in_left e (f x) (flat_map f xs) (subst (λ w. Contains (f w) e) (sym same) c)
  | inr t ↦ in_right e (f x) (flat_map f xs) (gathered f xs s e t c)
]

-- an edge from a statement that is there
data_edge : (p : Program) (s t : ℕ) (e : StaticEdge) → s < length p.stmts → Contains (data_from p s t) e → Contains (edges_of p t) e
data_edge p s t e lt c = in_left e (data_into p t) (control_into p t) (gathered (λ s. data_from p s t) (range_with_len 0 (length p.stmts)) s e (from_zero s (length p.stmts) lt) c)

-- of a local variable that the statement reads, and to which what is written comes
pub local_data : (p : Program) (s t v : ℕ) → s < length p.stmts → IsTrue (has (own_vars p (reads_at false p) t) v) → Reached (kept_rows p (body_of p t) (slice_get (body_numbered p (body_of p t)).locals v)) (begins p (body_of p t) s v) t → Contains (edges_of p t) (Data s false v)
local_data p s t v lt reads way =
    let comes : IsTrue (comes_to p (body_of p t) s v t) = (leads-tests (kept_rows p (body_of p t) (slice_get (body_numbered p (body_of p t)).locals v)) (begins p (body_of p t) s v) t).1 way in
    data_edge p s t (Data s false v) lt (in_right (Data s false v) (map (shared_edge s) (shared_from p s t)) (map (local_edge s) (locals_from p s t))
    (mapped (local_edge s) (locals_from p s t) v (filter_has (λ w. comes_to p (body_of p t) s w t) (own_vars p (reads_at false p) t) v reads comes)))

-- of a shared variable that the one writes and the other reads
pub shared_data : (p : Program) (s t v : ℕ) → s < length p.stmts → IsTrue (has (shared_writes p s) v) → IsTrue (has (shared_reads p t) v) → Contains (edges_of p t) (Data s true v)
shared_data p s t v lt writes reads =
    data_edge p s t (Data s true v) lt (in_left (Data s true v) (map (shared_edge s) (shared_from p s t)) (map (local_edge s) (locals_from p s t))
    (mapped (shared_edge s) (shared_from p s t) v (filter_has (has (shared_reads p t)) (shared_writes p s) v writes reads)))
