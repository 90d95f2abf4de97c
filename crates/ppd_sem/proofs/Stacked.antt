-- Statements that are stacked from the last one on.
use Rattle.std.proofs.Common.{◌≡◌, ℕ, false, List, [], ◌∷◌, ◌++◌, reverse, refl, ap, sym, ◌∙◌}
use Rattle.std.proofs.lemmas.List.{map-append, reverse-append, reverse-reverse}
use Rattle.ppd_sem.specs.declared.proc.Todo.{Todo}
use Rattle.ppd_sem.specs.Process.{todos}

todos-reverse : (stmts : List ℕ) → todos (reverse stmts) ≡ reverse (todos stmts)
todos-reverse [] = refl
todos-reverse (x ∷ xs) =
    let head : ℕ → Todo = λ s. record { stmt = s; entered = false; offered = false } in
    ap todos (reverse-append (x ∷ []) xs) ∙ map-append head (reverse xs) (x ∷ []) ∙
    ap (λ ts. ts ++ head x ∷ []) (todos-reverse xs) ∙ sym (reverse-append (head x ∷ []) (todos xs))

pub stacked : (stmts : List ℕ) → reverse (todos (reverse stmts)) ≡ todos stmts
stacked stmts = ap reverse (todos-reverse stmts) ∙ reverse-reverse (todos stmts)
