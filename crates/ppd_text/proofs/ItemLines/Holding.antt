-- The variable that holds a cell, as a loop over the variables finds it.
use Rattle.std.specs.Prelude.{codes, decimal, is_none}
use Rattle.std.proofs.Common.{◌≡◌, ℕ, ◌+◌, ◌-◌, ◌<◌, ◌≤◌, List, [], ◌∷◌, ◌++◌, length, drop, get_or, ap, sym, ◌∙◌, suc, add-one, drop-cons, true, false, if◌then◌else◌}
use Rattle.std.proofs.lemmas.List.{drop_all}
use Rattle.ppd_ast.specs.Cells.{holds}
use Rattle.ppd_ast.specs.declared.program.Var.{Var}
use Rattle.ppd_text.specs.CellNames.{cell_text}

here : (vars : List Var) (i : ℕ) (v : Var) → i < length vars → v ≡ get_or vars i v → drop i vars ≡ v ∷ drop (i + 1) vars
here vars i v lt is = drop-cons vars i v lt ∙ (ap (λ w. w ∷ drop (suc i) vars) (sym is) ∙ ap (λ n. v ∷ drop n vars) (sym (add-one i)))

pub cell_found : (vars : List Var) (i : ℕ) (v : Var) (c : ℕ) → i < length vars → v ≡ get_or vars i v → holds c v ≡ true → cell_text (drop i vars) c ≡ v.name ++ (if is_none v.len then [] else codes "[" ++ decimal (c - v.base) ++ codes "]")
cell_found vars i v c lt is t = ap (λ vs. cell_text vs c) (here vars i v lt is) ∙ rw t

pub cell_passes : (vars : List Var) (i : ℕ) (v : Var) (c : ℕ) → i < length vars → v ≡ get_or vars i v → holds c v ≡ false → cell_text (drop i vars) c ≡ cell_text (drop (i + 1) vars) c
cell_passes vars i v c lt is t = ap (λ vs. cell_text vs c) (here vars i v lt is) ∙ rw t

pub cell_end : (vars : List Var) (i c : ℕ) → length vars ≤ i → cell_text (drop i vars) c ≡ []
cell_end vars i c le = ap (λ vs. cell_text vs c) (drop_all i vars le)
