-- The variables that a statement reads and writes, by their numbers.
use Rattle.ppd_ast.specs.Lookups.{body_numbered, body_of, kind_of}
use Rattle.ppd_ast.specs.Members.{has, those}
use Rattle.ppd_ast.specs.declared.program.Kind.{Kind}
use Rattle.ppd_ast.specs.declared.program.Kind.TheVariants as K
use Rattle.ppd_ast.specs.declared.program.Program.{Program}
use Rattle.ppd_sets.specs.Reach.{closure, leads}
use Rattle.ppd_sets.specs.Used.{call_rows, callee, reads_at, stmts_at, vars_met, writes_at}
use Rattle.std.specs.List.{filter, range_with_len}
use Rattle.std.specs.Prelude.{Bool, List, [], if◌then◌else◌, length, nat_eq, true, ℕ, ◌-◌, ◌∷◌}

-- ---- bodies

-- the bodies that run: a chain of calls reaches them from a process
abbrev pub running : Program → List ℕ
running p =
    those (length p.bodies)
    (leads (closure (call_rows p)) (range_with_len p.functions (length p.bodies - p.functions)))

-- ---- variables

-- the shared variables that statement t may read
abbrev pub shared_reads : Program → ℕ → List ℕ
shared_reads p t = vars_met p.shared (reads_at true p t)

-- the local variables of its body of which statement s reads, or writes, a cell, as `cells` gives its cells; a call
-- writes its receiving local
abbrev pub own_vars : Program → (cells : ℕ → List ℕ) → ℕ → List ℕ
own_vars p cells s = vars_met (body_numbered p (body_of p s)).locals (cells s)

-- the shared variables that statement s writes, where its body runs
abbrev pub shared_writes : Program → ℕ → List ℕ
shared_writes p s = if has (running p) (body_of p s) then vars_met p.shared (writes_at true p s) else []

-- whether statement s calls body b
abbrev pub calls : Program → (s b : ℕ) → Bool
calls p s b = has (callee (kind_of p s)) b

-- the statements of body b at which statement s of this kind writes local variables: a `Return` at the calls of its
-- function, another one at itself; what a call passes is written at no statement
abbrev pub places_by : Program → (b s : ℕ) → Kind → List ℕ
places_by p b s (K.Call f args into) = []
places_by p b s (K.Return e) = filter (λ c. calls p c (body_of p s)) (stmts_at p b)
places_by p b s k = if nat_eq (body_of p s) b then s ∷ [] else []

abbrev pub places : Program → (b s : ℕ) → List ℕ
places p b s = places_by p b s (kind_of p s)
