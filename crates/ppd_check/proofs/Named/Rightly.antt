-- Names that mean what is there, and statements that name only what is there.
use Rattle.std.proofs.Common.{◌≡◌, ℕ, ◌<◌, List, [], ◌∷◌, length, Some, None, IsSomeAnd, slice_get}
use Rattle.std.specs.Prelude.{⊤}
use Rattle.std.specs.List.{All}
use Rattle.ppd_ast.specs.declared.program.Var.{Var}
use Rattle.ppd_ast.specs.declared.program.Program.{Program}
use Rattle.ppd_ast.specs.Cells.{IsScalarOf, IsArrayOf, NamesWhole, WritesWhole}
use Rattle.ppd_ast.specs.Valid.{HasObject, CallsRightly}
use Rattle.ppd_check_names.specs.Names.{Scope}
use Rattle.ppd_check_names.specs.declared.meaning.Meaning.{Meaning}
use Rattle.ppd_check_names.specs.declared.meaning.Meaning.TheVariants as M
use Rattle.ppd_check_stmts.specs.Code.{Act, Code, done, act, choice, loop}
use Rattle.ppd_check_stmts.specs.Table.{act_terms, kind}

-- what a name means is there: a whole variable, a semaphore, a channel, or a function with the parameters and the value of its body
abbrev pub IsThere : Program → (locals : List Var) → Meaning → Type 0
IsThere p locals (M.Shared base None) = IsScalarOf p.shared base
IsThere p locals (M.Shared base (Some n)) = IsArrayOf p.shared base n
IsThere p locals (M.Local base None) = IsScalarOf locals base
IsThere p locals (M.Local base (Some n)) = IsArrayOf locals base n
IsThere p locals (M.Semaphore k) = k < length p.sems
IsThere p locals (M.Channel k) = k < length p.chans
IsThere p locals (M.Function k params gives) = (k < p.functions) × IsSomeAnd (slice_get p.bodies k) (λ g. (params ≡ g.params) × (gives ≡ g.value))
IsThere p locals M.Process = ⊤

-- so of each name of a scope, and of some scopes
abbrev pub AreThere : Program → (locals : List Var) → Scope → Type 0
AreThere p locals [] = ⊤
AreThere p locals (e ∷ scope) = IsThere p locals e.1 × AreThere p locals scope

abbrev pub AreAllThere : Program → (locals : List Var) → List Scope → Type 0
AreAllThere p locals [] = ⊤
AreAllThere p locals (scope ∷ scopes) = AreThere p locals scope × AreAllThere p locals scopes

-- a statement without statements inside it, in a body with these variables: its terms and what it writes are whole variables, its
-- object and its function are there, wherever its expressions stand in the table
pub record IsNamedRightly (p : Program) (locals : List Var) (a : Act) : Type 0 where
  pub terms : All (NamesWhole p.shared locals) (act_terms a)
  pub writes : (m : ℕ) → WritesWhole p.shared locals (kind m a)
  pub object : (m : ℕ) → HasObject p (kind m a)
  pub call : (m : ℕ) → CallsRightly p (kind m a)

-- so of each statement of a row, with those inside them
abbrev pub AreNamedRightly : Program → (locals : List Var) → Code → Type 0
AreNamedRightly p locals done = ⊤
AreNamedRightly p locals (act q a c) = IsNamedRightly p locals a × AreNamedRightly p locals c
AreNamedRightly p locals (choice q e a b c) = NamesWhole p.shared locals e × AreNamedRightly p locals a × AreNamedRightly p locals b × AreNamedRightly p locals c
AreNamedRightly p locals (loop q e inside c) = NamesWhole p.shared locals e × AreNamedRightly p locals inside × AreNamedRightly p locals c
