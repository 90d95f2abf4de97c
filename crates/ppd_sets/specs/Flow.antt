-- The successors of a statement, and flow paths.
use Rattle.ppd_ast.specs.Lookups.{body_numbered, kind_of}
use Rattle.ppd_ast.specs.Members.{has}
use Rattle.ppd_ast.specs.declared.limits.TheConstants.{MOST_NESTING}
use Rattle.ppd_ast.specs.declared.program.Kind.{Kind}
use Rattle.ppd_ast.specs.declared.program.Kind.TheVariants as K
use Rattle.ppd_ast.specs.declared.program.Program.{Program}
use Rattle.ppd_sets.specs.Lists.{rising}
use Rattle.std.specs.List.{range_with_len}
use Rattle.std.specs.Option.{option_or}
use Rattle.std.specs.Prelude.{IsTrue, List, None, Option, Some, [], if◌then◌else◌, length, map, nat_eq, option_and_then, option_to_list, slice_get, suc, zero, ℕ, ◌∷◌, ◌≡◌}

-- the statement after s in the list, or what follows the list
abbrev pub next_in : List ℕ → ℕ → Option ℕ → Option ℕ
next_in [] s after = None
next_in (x ∷ xs) s after = if nat_eq x s then option_or (slice_get xs 0) after else next_in xs s after

-- what follows s, which stands directly in q, of this kind: after the last of a branch what follows the `If`,
-- after the last of a loop's body the loop
abbrev pub follow_within : ℕ → Kind → ℕ → Option ℕ → Option ℕ
follow_within q (K.If e first second) s after = next_in (if has first s then first else second) s after
follow_within q (K.While e body) s after = next_in body s (Some q)
follow_within q k s after = None

abbrev pub follow_under : Program → (ℕ → Option ℕ) → ℕ → ℕ → Option ℕ → Option ℕ
follow_under p outer body s None = next_in (body_numbered p body).top s None
follow_under p outer body s (Some q) = follow_within q (kind_of p q) s (outer q)

-- what follows statement s, which stands in at most so many lists
unfoldable pub follow_at : (depth : ℕ) → Program → ℕ → Option ℕ
follow_at zero p s = None
follow_at (suc depth) p s =
    option_and_then (λ x. follow_under p (follow_at depth p) x.body s x.parent) (slice_get p.stmts s)

-- what follows statement s, if anything does
abbrev pub follow : Program → ℕ → Option ℕ
follow p s = follow_at MOST_NESTING p s

-- the successors of statement s of this kind, which `after` follows
abbrev pub successors : ℕ → Kind → Option ℕ → List ℕ
successors s (K.If e first second) after =
    rising (option_or (slice_get first 0) after) (option_or (slice_get second 0) after)
successors s (K.While e body) after = rising (option_or (slice_get body 0) (Some s)) after
successors s (K.Return e) after = []
successors s K.End after = []
successors s k after = option_to_list after

-- the successors of statement s
abbrev pub next_of : Program → ℕ → List ℕ
next_of p s = successors s (kind_of p s) (follow p s)

-- the successors of each statement
abbrev pub flow_rows : Program → List (List ℕ)
flow_rows p = map (next_of p) (range_with_len 0 (length p.stmts))

-- ---- flow paths

-- statement s and then this list are a flow path that ends with t: each is a successor of the one before
abbrev pub IsPath : Program → ℕ → List ℕ → ℕ → Type 0
IsPath p s [] t = s ≡ t
IsPath p s (u ∷ rest) t = IsTrue (has (next_of p s) u) × IsPath p u rest t

-- a flow path leads from s to t: it has at least two statements, also where s is t
pub record FlowsTo (p : Program) (s t : ℕ) : Type 0 where
  pub second : ℕ
  pub rest : List ℕ
  pub first_step : IsTrue (has (next_of p s) second)
  pub path : IsPath p second rest t
