-- How a process ends: in its own block, or inside one.
use Rattle.std.proofs.Common.{◌≡◌, ℕ, ℤ, List, [], ◌∷◌, ◌++◌, Option, Some, None, refl, ap, sym, subst}
use Rattle.std.proofs.lemmas.Option.{none-some}
use Rattle.ppd_ast.specs.declared.plan.Plan.{Plan}
use Rattle.ppd_ast.specs.declared.program.Program.{Program}
use Rattle.ppd_ast.specs.declared.status.Status.{Status}
use Rattle.ppd_ast.specs.declared.status.Status.TheVariants as status
use Rattle.ppd_sem.specs.declared.proc.Need.{Need}
use Rattle.ppd_sem.specs.declared.proc.Need.TheVariants.{End, Trap, Budget}
use Rattle.ppd_sem.specs.declared.proc.Proc.{Proc}
use Rattle.ppd_model.specs.Logs.{status_of}
use Rattle.ppd_model.specs.Marks.{Mark, closed}
use Rattle.law_logs.proofs.Index.Tested.{IsInsideEnd}

-- an end that leaves no block is inside one
pub inside_end : (program : Program) (plan : Plan) (s : Proc) (n : Need) (how : Status) → closed program plan s n ≡ None → status_of n ≡ Some how → IsInsideEnd how
inside_end program plan s (Trap t) how none e = subst IsInsideEnd (some_is e) (λ plan body at rest reads writes h. h)
  where
    some_is : {x y : Status} → Some x ≡ Some y → x ≡ y
    some_is {x = x} e = ap (λ o. elim o [ None ↦ x | Some z ↦ z ]) e
inside_end program plan s Budget how none e = subst IsInsideEnd (some_is e) (λ plan body at rest reads writes h. h)
  where
    some_is : {x y : Status} → Some x ≡ Some y → x ≡ y
    some_is {x = x} e = ap (λ o. elim o [ None ↦ x | Some z ↦ z ]) e
inside_end program plan s (End b) how none e = absurd (none-some _ (sym none))
inside_end program plan s n how none e = absurd (none-some how e)

-- the end of the process leaves its own block, without values
pub record IsEnding (m : Mark) (how : Status) : Type 0 where
  pub values : m.values ≡ []
  pub ended : how ≡ status.Ended

pub ending : (program : Program) (plan : Plan) (s : Proc) (n : Need) (m : Mark) (how : Status) → closed program plan s n ≡ Some m → status_of n ≡ Some how → IsEnding m how
ending program plan s (End b) m how c e = record { values = ap values_of (sym c); ended = ap ended_of (sym e) }
  where
    values_of : Option Mark → List ℤ
    values_of None = []
    values_of (Some k) = k.values

    ended_of : Option Status → Status
    ended_of None = status.Ended
    ended_of (Some k) = k
ending program plan s (Trap t) m how c e = absurd (none-some m c)
ending program plan s Budget m how c e = absurd (none-some m c)
ending program plan s n m how c e = absurd (none-some how e)

-- some block is always open
pub inside_some : (xs : List ℕ) (y : ℕ) → (b : ℕ) × (bs : List ℕ) × (xs ++ y ∷ [] ≡ b ∷ bs)
inside_some [] y = (y, [], refl)
inside_some (x ∷ xs) y = (x, xs ++ y ∷ [], refl)
