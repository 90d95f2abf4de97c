-- What the tables say of a statement.
use Rattle.std.proofs.Common.{◌≡◌, ℕ, suc, ◌<◌, ◌≤◌, ◌^◌, ℤ, List, [], ◌∷◌, length, Some, None, Ok, Err, subst, arith}
use Rattle.std.specs.List.{All}
use Rattle.ppd_ast.specs.Term.{term}
use Rattle.ppd_ast.specs.declared.program.Expr.{Expr}
use Rattle.ppd_ast.specs.declared.program.Kind.{Kind}
use Rattle.ppd_ast.specs.declared.program.Kind.TheVariants as kind
use Rattle.ppd_ast.specs.declared.program.Program.{Program}
use Rattle.ppd_ast.specs.Lookups.{kind_of}
use Rattle.ppd_sem.specs.Ask.{ask}
use Rattle.ppd_sem.specs.Asked.{Asked, once}
use Rattle.ppd_sem.specs.Described.{valued}
use Rattle.ppd_sem.specs.Effects.{arguments_of, given}
use Rattle.ppd_sem.specs.Runs.{AreUses, RunsOver, IsRunnable, IsUse, LeadsOn, size_of}
use Rattle.ppd_sem.proofs.Kept.{leads_at, size_small}

pub arguments_used : (es : List Expr) (n : ℕ) (k : Kind) → AreUses es n k → All (IsUse es n) (arguments_of k)
arguments_used es n (kind.Call f arguments into) h = h
arguments_used es n k h = λ i d b. absurd (omega arith)

pub valued_used : (es : List Expr) (n : ℕ) (k : Kind) (e : ℕ) → AreUses es n k → valued k ≡ Some e → IsUse es n e
valued_used es n (kind.If x first second) e h is = subst (λ (i : ℕ). IsUse es n i) (cc is) h
valued_used es n (kind.While x body) e h is = subst (λ (i : ℕ). IsUse es n i) (cc is) h
valued_used es n (kind.Return None) e h is = absurd (cc is)
valued_used es n (kind.Return (Some x)) e h is = subst (λ (i : ℕ). IsUse es n i) (cc is) h
valued_used es n (kind.Send c x) e h is = subst (λ (i : ℕ). IsUse es n i) (cc is) h
valued_used es n (kind.Print x) e h is = subst (λ (i : ℕ). IsUse es n i) (cc is) h
valued_used es n (kind.Assert x) e h is = subst (λ (i : ℕ). IsUse es n i) (cc is) h
valued_used es n k e h is = absurd (cc is)

given_few : (es : List Expr) (arguments : List ℕ) (cells answers : List ℤ) → length (given es arguments cells answers) ≤ length arguments
given_few es [] cells answers = omega arith
given_few es (a ∷ as') cells answers = first (ask (term es a) cells answers) (λ left. given es as' cells left) (λ left. given_few es as' cells left)
  where
    first : (r : Asked ℤ) (rest : List ℤ → List ℤ) → ((left : List ℤ) → length (rest left) ≤ length as') → length (once r (λ v left. v ∷ rest left)) ≤ suc (length as')
    first (Ok p) rest h = let few : length (rest p.1) ≤ length as' = h p.1 in omega arith
    first (Err pause) rest h = omega arith

-- a call's arguments are fewer than 2 ^ 16
pub arguments_few : (p : Program) (n s : ℕ) (cells answers : List ℤ) → IsRunnable p → RunsOver p n s → length (given p.exprs (arguments_of (kind_of p s)) cells answers) < 2 ^ 16
arguments_few p n s cells answers h over = by (kind_of p s) (leads_at p n s h over)
  where
    by : (k : Kind) → LeadsOn p n k → length (given p.exprs (arguments_of k) cells answers) < 2 ^ 16
    by (kind.Call f arguments into) c =
        let few : length (given p.exprs arguments cells answers) ≤ length arguments = given_few p.exprs arguments cells answers in
        let fit : length arguments ≤ size_of p f = c.arguments in
        let small : size_of p f < 2 ^ 16 = size_small p f h in
        omega arith
    by k c = omega arith
