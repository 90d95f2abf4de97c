-- The cells of the statements of a body, one after another.
use Rattle.std.proofs.Common.{◌≡◌, ℕ, ◌+◌, ◌-◌, ◌≤◌, List, ◌++◌, Some, sym, ap, ◌∙◌}
use Rattle.std.specs.Prelude.{slice_get}
use Rattle.std.specs.List.{flat_map, range_with_len}
use Rattle.ppd_ast.specs.declared.program.Stmt.{Stmt}
use Rattle.ppd_ast.specs.declared.program.Program.{Program}
use Rattle.ppd_ast.proofs.Ranges.{range_more, flat_one}
use Rattle.ppd_ast.specs.Lookups.{kind_of}
use Rattle.ppd_ast.proofs.Vocabulary.{kind_of_stmt}
use Rattle.ppd_sets.specs.declared.touched.Touched.{Touched}
use Rattle.ppd_sets.specs.Gained.{GainsBoth}
use Rattle.ppd_sets.proofs.Gaining.{gains_both_then, gains_both_as}

pub kind_is : (p : Program) (s : ℕ) (x : Stmt) → slice_get p.stmts s ≡ Some x → kind_of p s ≡ x.kind
kind_is p s x at = ap kind_of_stmt at

-- one more statement of a range
pub flat_range : (f : ℕ → List ℕ) (a k : ℕ) → a ≤ k → flat_map f (range_with_len a (k - a)) ++ f k ≡ flat_map f (range_with_len a (k + 1 - a))
flat_range f a k h = sym (ap (flat_map f) (range_more a k h) ∙ flat_one f (range_with_len a (k - a)) k)

pub body_more : {a b d : Touched} (f g : ℕ → List ℕ) (r w : List ℕ) (first k : ℕ) → first ≤ k → r ≡ f k → w ≡ g k → GainsBoth a b (flat_map f (range_with_len first (k - first))) (flat_map g (range_with_len first (k - first))) → GainsBoth b d r w →
    GainsBoth a d (flat_map f (range_with_len first (k + 1 - first))) (flat_map g (range_with_len first (k + 1 - first)))
body_more f g r w first k h e e' before now =
    gains_both_as (flat_map f (range_with_len first (k - first)) ++ r) (flat_map f (range_with_len first (k + 1 - first))) (flat_map g (range_with_len first (k - first)) ++ w) (flat_map g (range_with_len first (k + 1 - first)))
    (ap (λ l. flat_map f (range_with_len first (k - first)) ++ l) e ∙ flat_range f first k h) (ap (λ l. flat_map g (range_with_len first (k - first)) ++ l) e' ∙ flat_range g first k h)
    (gains_both_then before now)
