-- A list of statements that is put before what is to do is on the way.
use Rattle.std.specs.Option.{option_or}
use Rattle.std.proofs.Common.{◌≡◌, ℕ, List, [], ◌∷◌, ◌++◌, Bool, true, false, Option, Some, None, refl, sym, subst, ◌∙◌}
use Rattle.std.specs.Prelude.{IsTrue, slice_get}
use Rattle.ppd_ast.specs.declared.plan.Plan.{Plan}
use Rattle.ppd_ast.specs.declared.program.Program.{Program}
use Rattle.ppd_ast.specs.Members.{has}
use Rattle.ppd_ast.specs.Lookups.{kind_of}
use Rattle.ppd_ast.proofs.Members.{has_first, has_later}
use Rattle.ppd_sets.specs.Flow.{follow}
use Rattle.ppd_sem.specs.declared.proc.Todo.{Todo}
use Rattle.ppd_sem.specs.Process.{todos}
use Rattle.ppd_sem.specs.Runs.{AreOfFunction, returns}
use Rattle.ppd_sem.specs.Passed.{next_stmt_of}
use Rattle.law_steps.specs.Course.{IsBehind, IsMarkedBehind, IsWay, behind, calls_left}
use Rattle.law_steps.proofs.Course.Chains.{IsApart, IsChain}

pub head_todos : (xs : List ℕ) (ts : List Todo) → next_stmt_of (todos xs ++ ts) ≡ option_or (slice_get xs 0) (next_stmt_of ts)
head_todos [] ts = refl
head_todos (x ∷ xs) ts = refl

module _ (p : Program) (plan : Plan) where
  -- a statement, and those of its list behind it
  behind_next : (x : ℕ) (xs : List ℕ) (ts : List Todo) (after : Option ℕ) → next_stmt_of ts ≡ after → follow p x ≡ option_or (slice_get xs 0) after → IsApart p x xs → IsMarkedBehind p plan (Some x) ts → IsBehind p plan (Some x) (todos xs ++ ts)
  behind_next x [] ts after head f apart marks = record { follows = head ∙ sym f; marks = marks }
  behind_next x (y ∷ ys) ts after head f apart marks = record { follows = sym f; marks = λ b is. sym apart }

  stays_way : (calls : List (Option ℕ)) (x : ℕ) (e o : Bool) (rest : List Todo) → returns (kind_of p x) ≡ false → IsBehind p plan (Some x) rest → IsWay p plan calls rest → IsWay p plan calls ((record { stmt = x; entered = e; offered = o }) ∷ rest)
  stays_way calls x e o rest is h way = (
    subst (λ r. IsBehind p plan (behind r x calls) rest) (sym is) h,
    subst (λ r. IsWay p plan (calls_left r calls) rest) (sym is) way,
  )

  -- a list in which no statement returns
  pub list_way : (calls : List (Option ℕ)) (xs : List ℕ) (ts : List Todo) (after : Option ℕ) → IsChain p after xs → ((x : ℕ) → IsTrue (has xs x) → returns (kind_of p x) ≡ false)
      → next_stmt_of ts ≡ after → ((x : ℕ) → IsTrue (has xs x) → IsMarkedBehind p plan (Some x) ts) → IsWay p plan calls ts → IsWay p plan calls (todos xs ++ ts)
  list_way calls [] ts after chain stays head marks way = way
  list_way calls (x ∷ xs) ts after chain stays head marks way =
      stays_way calls x false false (todos xs ++ ts) (stays x (has_first x xs)) (behind_next x xs ts after head chain.0 chain.1 (marks x (has_first x xs)))
      (list_way calls xs ts after chain.2 (λ y h. stays y (has_later x y xs h)) head (λ y h. marks y (has_later x y xs h)) way)

  -- a function's outermost statements, in a new frame
  pub function_way : (c : Option ℕ) (calls : List (Option ℕ)) (n : ℕ) (xs : List ℕ) (ts : List Todo) → IsChain p None xs → AreOfFunction p n xs → IsBehind p plan c ts → IsWay p plan calls ts → IsWay p plan (c ∷ calls) (todos xs ++ ts)
  function_way c calls n [] ts chain ends h way = absurd ends
  function_way c calls n (x ∷ []) ts chain ends h way =
      let is : returns (kind_of p x) ≡ true = ends.1 in
      (subst (λ r. IsBehind p plan (behind r x (c ∷ calls)) ts) (sym is) h, subst (λ r. IsWay p plan (calls_left r (c ∷ calls)) ts) (sym is) way)
  function_way c calls n (x ∷ y ∷ xs) ts chain ends h way =
      stays_way (c ∷ calls) x false false (todos (y ∷ xs) ++ ts) ends.0.stays
      record { follows = sym chain.0; marks = λ b is. sym chain.1 }
      (function_way c calls n (y ∷ xs) ts chain.2 ends.1 h way)
