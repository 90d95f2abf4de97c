-- A block of a function or of a process is of one that is there.
use Rattle.std.proofs.Common.{◌≡◌, ℕ, ◌<◌, ◌≤◌, Bool, true, false, Option, Some, None, refl, sym, ◌∙◌, inl, inr, arith, true≢false}
use Rattle.std.specs.Prelude.{⊤, slice_get, if◌then◌else◌}
use Rattle.std.proofs.lemmas.Bool.{cases_lt, le-leb, leb-true}
use Rattle.ppd_ast.specs.declared.plan.BlockKind.{BlockKind}
use Rattle.ppd_ast.specs.declared.plan.BlockKind.TheVariants.{Function, Process}
use Rattle.ppd_ast.specs.declared.plan.Policy.{Policy}
use Rattle.ppd_ast.specs.declared.program.Body.{Body}
use Rattle.ppd_ast.specs.declared.program.Program.{Program}
use Rattle.ppd_ast.specs.Valid.{IsValid}
use Rattle.ppd_ast.proofs.ValidLaws.{valid_body}
use Rattle.ppd_blocks.specs.Blocks.{plan_of}
use Rattle.ppd_sem.specs.Tables.{block_of}
use Rattle.law_steps.proofs.Facts.BlockKinds.{kind_holds}

-- a body with this number, of a process or not
abbrev pub HasBody : Program → ℕ → Bool → Type 0
HasBody p f process = (b : Body) × (slice_get p.bodies f ≡ Some b) × (b.process ≡ process)

-- the function or the process of a block is there
abbrev pub IsThere : Program → BlockKind → Type 0
IsThere p (Function f) = HasBody p f false
IsThere p (Process f) = HasBody p f true
IsThere p k = ⊤

module _ (p : Program) (policy : Policy) where
  -- so it is with each block
  pub body_there : (k : BlockKind) (n : ℕ) → block_of (plan_of p policy) k ≡ Some n → IsThere p k
  body_there k n e = kind_holds p policy (IsThere p) (λ n. tt) (λ j b at. by j b at b.process refl) k n e
    where
      by : (j : ℕ) (b : Body) → slice_get p.bodies j ≡ Some b → (process : Bool) → b.process ≡ process
          → IsThere p (if process then Process j else Function j)
      by j b at true is = (b, at, is)
      by j b at false is = (b, at, is)

  -- the function of a block is a function
  pub function_below : IsValid p → (f n : ℕ) → block_of (plan_of p policy) (Function f) ≡ Some n → f < p.functions
  function_below v f n e = elim (cases_lt f p.functions) [
    | inl low ↦ low
    | inr high ↦
        let b = body_there (Function f) n e in
        absurd (true≢false (sym (le-leb p.functions f high) ∙ sym (valid_body p f b.0 v b.1).process ∙ b.2))
  ]

  -- and a function is no process's block
  pub no_process : IsValid p → (f : ℕ) → f < p.functions → block_of (plan_of p policy) (Process f) ≡ None
  no_process v f lt = by (block_of (plan_of p policy) (Process f)) refl
    where
      by : (o : Option ℕ) → block_of (plan_of p policy) (Process f) ≡ o → o ≡ None
      by None e = refl
      by (Some n) e =
          let b = body_there (Process f) n e in
          let high : p.functions ≤ f = leb-true p.functions f (sym (valid_body p f b.0 v b.1).process ∙ b.2) in
          absurd (omega (arith, high, lt))
