-- The cells of a new frame, and the lengths of cells.
use Rattle.std.proofs.Common.{◌≡◌, ℕ, ◌-◌, ℤ, pos, List, ◌++◌, length, Option, Some, None, refl, ap, sym, ◌∙◌, arith}
use Rattle.std.specs.Prelude.{replicate, slice_get, unwrap_or}
use Rattle.std.proofs.lemmas.List.{append-nil}
use Rattle.ppd_ast.specs.declared.program.Body.{Body}
use Rattle.ppd_ast.specs.declared.program.Program.{Program}
use Rattle.ppd_sem.proofs.NeedWords.{cells_for}
use Rattle.ppd_sem.specs.Runs.{size_of}
use Rattle.ppd_ast.specs.Lookups.{no_body}

padded_if : (o : Option Body) (values : List ℤ) → values ++ replicate ((unwrap_or o no_body).cells - length values) (pos 0) ≡ cells_for o values
padded_if None values =
    let none : 0 - length values ≡ 0 = omega arith in
    ap (λ n. values ++ replicate n (pos 0)) none ∙ append-nil values
padded_if (Some b) values = refl

pub padded : (program : Program) (body : ℕ) (values : List ℤ) → cells_for (slice_get program.bodies body) values ≡ values ++ replicate (size_of program body - length values) (pos 0)
padded program body values = sym (padded_if (slice_get program.bodies body) values)
