-- The cells that a statement may read and those that it writes, arrays whole.
use Rattle.std.specs.Prelude.{ℕ, Bool, List, [], ◌++◌, if◌then◌else◌, not as opposite}
use Rattle.std.specs.List.{flat_map, range_with_len}
use Rattle.std.specs.Option.{option_map_or}
use Rattle.ppd_ast.specs.declared.program.Expr.{Expr}
use Rattle.ppd_ast.specs.declared.program.Kind.{Kind}
use Rattle.ppd_ast.specs.declared.program.Kind.TheVariants as K
use Rattle.ppd_ast.specs.declared.program.Target.TheVariants as T
use Rattle.ppd_ast.specs.Term.{Term, const, local, local_at, shared, shared_at, neg, not, two, and, or, term}
use Rattle.ppd_ast.specs.Uses.{kind_uses}

-- so many cells from this one on, where such cells are wanted
abbrev pub cells_if : (wanted : Bool) → (base len : ℕ) → List ℕ
cells_if wanted base len = if wanted then range_with_len base len else []

-- the shared or, where those are not wanted, the local cells that an expression may read
abbrev pub cells_in : (wants_shared : Bool) → Term → List ℕ
cells_in w (const v) = []
cells_in w (local c) = cells_if (opposite w) c 1
cells_in w (local_at base len i) = cells_if (opposite w) base len ++ cells_in w i
cells_in w (shared c) = cells_if w c 1
cells_in w (shared_at base len i) = cells_if w base len ++ cells_in w i
cells_in w (neg a) = cells_in w a
cells_in w (not a) = cells_in w a
cells_in w (two op a b) = cells_in w a ++ cells_in w b
cells_in w (and a b) = cells_in w a ++ cells_in w b
cells_in w (or a b) = cells_in w a ++ cells_in w b

-- the cells that a statement's expressions may read
abbrev pub reads : (wants_shared : Bool) → List Expr → Kind → List ℕ
reads w es k = flat_map (λ e. cells_in w (term es e)) (kind_uses k)

-- the cells that a statement writes; a call counts as writing its receiving local
abbrev pub writes : (wants_shared : Bool) → Kind → List ℕ
writes w (K.Set (T.Local c) e) = cells_if (opposite w) c 1
writes w (K.Set (T.LocalAt base len i) e) = cells_if (opposite w) base len
writes w (K.Set (T.Shared c) e) = cells_if w c 1
writes w (K.Set (T.SharedAt base len i) e) = cells_if w base len
writes w (K.Zero base len) = cells_if (opposite w) base len
writes w (K.If e first second) = []
writes w (K.While e body) = []
writes w (K.Call f args into) = option_map_or (λ c. cells_if (opposite w) c 1) into []
writes w (K.Return v) = []
writes w (K.P s) = []
writes w (K.V s) = []
writes w (K.Send c e) = []
writes w (K.Recv c into) = cells_if (opposite w) into 1
writes w (K.Print e) = []
writes w (K.Assert e) = []
writes w K.End = []
