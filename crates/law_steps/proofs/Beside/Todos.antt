-- What is to do in a body: its last statement, and the end that is still to come.
use Rattle.std.proofs.Common.{◌≡◌, ℕ, List, [], ◌∷◌, ◌++◌, false, sym, ◌∙◌, inl, inr, true≢false}
use Rattle.std.proofs.lemmas.Bool.{cond-false}
use Rattle.std.specs.List.{AllByRecursion as Each}
use Rattle.ppd_ast.specs.declared.program.Program.{Program}
use Rattle.ppd_ast.specs.Lookups.{kind_of}
use Rattle.ppd_sem.specs.declared.proc.Todo.{Todo}
use Rattle.ppd_sem.specs.Described.{ends_body}
use Rattle.ppd_sem.specs.Process.{todos}
use Rattle.law_steps.proofs.Vocabulary.Relation.{HasEnd, IsLast, IsLong, past_body}

pub all_todos : (inside : ℕ → Type 0) (stmts : List ℕ) (ts : List Todo) → Each inside stmts
    → Each (λ t. inside t.stmt) ts → Each (λ t. inside t.stmt) (todos stmts ++ ts)
all_todos inside [] ts h k = k
all_todos inside (s ∷ ss) ts h k = (h.0, all_todos inside ss ts h.1 k)

-- ---- the last

pub last_past : (closer t : Todo) (ts : List Todo) → IsLong (t ∷ ts) → IsLast closer (t ∷ ts) → IsLast closer ts
last_past closer t [] long h = absurd long
last_past closer t (u ∷ us) long h = h

-- another head, where it is not the last
pub last_headed : (closer t u : Todo) (ts : List Todo) → IsLong (t ∷ ts) → IsLast closer (t ∷ ts)
    → IsLast closer (u ∷ ts)
last_headed closer t u [] long h = absurd long
last_headed closer t u (v ∷ vs) long h = h

pub last_more : (closer : Todo) (xs ts : List Todo) → IsLast closer ts → IsLast closer (xs ++ ts)
last_more closer [] ts h = h
last_more closer (x ∷ []) [] h = absurd h
last_more closer (x ∷ []) (t ∷ ts) h = h
last_more closer (x ∷ y ∷ xs) ts h = last_more closer (y ∷ xs) ts h

-- ---- the end of the body

module _ (program : Program) where
  -- a head that goes on ends no body
  pub past_on : (t : Todo) (ts : List Todo) → ends_body (kind_of program t.stmt) ≡ false
      → past_body program (t ∷ ts) ≡ past_body program ts
  past_on t ts e = cond-false (ends_body (kind_of program t.stmt)) ts (past_body program ts) e

  pub end_past : (t : Todo) (ts : List Todo) → ends_body (kind_of program t.stmt) ≡ false → HasEnd program (t ∷ ts)
      → HasEnd program ts
  end_past t ts e (inl is) = absurd (true≢false (sym is ∙ e))
  end_past t ts e (inr h) = h

  pub end_more : (xs ts : List Todo) → HasEnd program ts → HasEnd program (xs ++ ts)
  end_more [] ts h = h
  end_more (x ∷ xs) ts h = inr (end_more xs ts h)
