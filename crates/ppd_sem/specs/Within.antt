-- Expressions within a frame.
use Rattle.std.specs.Prelude.{ℕ, ◌+◌, ◌<◌, ◌≤◌, ◌^◌, ⊤}
use Rattle.ppd_ast.specs.Term.{Term, const, local, local_at, shared, shared_at, neg, not, two, and, or}

-- the local cells that the expression names are below n, and the shared ones have 16 bits
abbrev pub IsWithin : ℕ → Term → Type 0
IsWithin n (const v) = ⊤
IsWithin n (local c) = c < n
IsWithin n (local_at base len i) = (base + len ≤ n) × IsWithin n i
IsWithin n (shared c) = ⊤
IsWithin n (shared_at base len i) = (base + len < 2 ^ 16) × IsWithin n i
IsWithin n (neg a) = IsWithin n a
IsWithin n (not a) = IsWithin n a
IsWithin n (two op a b) = IsWithin n a × IsWithin n b
IsWithin n (and a b) = IsWithin n a × IsWithin n b
IsWithin n (or a b) = IsWithin n a × IsWithin n b
