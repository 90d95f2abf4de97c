-- What the names of an accepted source give for its program.
use Rattle.std.proofs.Common.{◌≡◌, List, [], ◌∷◌, length}
use Rattle.std.specs.List.{All, flat_map}
use Rattle.std.proofs.lemmas.List.Elements.{All-nil, All-cons, All-head, All-tail}
use Rattle.ppd_ast.specs.declared.program.Var.{Var}
use Rattle.ppd_ast.specs.declared.program.Program.{Program}
use Rattle.ppd_ast.specs.Cells.{CoverCells}
use Rattle.ppd_parse.specs.declared.token.Token.{Token}
use Rattle.ppd_parse.specs.Grammar.{Shape}
use Rattle.ppd_parse.specs.Limits.{IsTree}
use Rattle.ppd_check_names.specs.Names.{Scope}
use Rattle.ppd_check_names.specs.Reading.{source_of}
use Rattle.ppd_check_names.specs.Syntax.{Source}
use Rattle.ppd_check.specs.Sources.{heads, head_faults, head_code, head_frame, vars, core_of, faults_in}
use Rattle.ppd_check_names.specs.Globals.{Head, globals}
use Rattle.ppd_check.proofs.Named.Rightly.{AreThere, AreNamedRightly}
use Rattle.ppd_check.proofs.Named.Terms.{nil_left, nil_right}
use Rattle.ppd_check.proofs.Named.Rows.{HasSteps}
use Rattle.ppd_check.proofs.Named.Steps.{tree_steps}
use Rattle.ppd_check.proofs.Named.Limits.{BreaksNone, breaks_none, AreFew, are_few, counted, shared_cells}
use Rattle.ppd_check.proofs.Named.Sources.{IsAllowed, names_there, head_rightly, HasFrame, head_has_frame}
use Rattle.ppd_check.proofs.Valid.Facts.{AreCounted}

-- a function or a process: its frame, and what its statements name
pub record IsNamedHead (p : Program) (scope : Scope) (h : Head) : Type 0 where
  pub frame : HasFrame scope h
  pub code : AreNamedRightly p (vars 0 (head_frame scope h).variables) (head_code scope h)

each_named : (p : Program) (scope : Scope) (hs : List Head) → ((locals : List Var) → AreThere p locals scope) → All (λ h. HasSteps h.block.row) hs → flat_map (head_faults scope) hs ≡ []
    → All (IsNamedHead p scope) hs
each_named p scope [] there steps e = All-nil (IsNamedHead p scope)
each_named p scope (h ∷ hs) there steps e =
    let one : head_faults scope h ≡ [] = nil_left (head_faults scope h) (flat_map (head_faults scope) hs) e in
    let rest : flat_map (head_faults scope) hs ≡ [] = nil_right (head_faults scope h) (flat_map (head_faults scope) hs) e in
    All-cons (IsNamedHead p scope) h hs
    (record {
      frame = head_has_frame p scope h (there (vars 0 (head_frame scope h).variables)) one;
      code = head_rightly p scope h (there (vars 0 (head_frame scope h).variables)) (All-head (λ h. HasSteps h.block.row) h hs steps) one;
    })
    (each_named p scope hs there (All-tail (λ h. HasSteps h.block.row) h hs steps) rest)

source_allowed : (s : Source) → BreaksNone s → IsAllowed (globals s)
source_allowed s none = let few : AreFew (globals s) = are_few (globals s) none.counts in record { functions = few.functions; bodies = none.bodies }

-- the statements of each body of an accepted program name whole variables of its frame and of the shared ones, objects that are there,
-- and functions with their parameters and values
pub accepted_heads : (ts : List Token) (t : Shape) → IsTree ts (t ∷ []) → (faults_in (source_of t) ≡ []) → All (IsNamedHead (core_of (source_of t)) (globals (source_of t)).scope) (heads (globals (source_of t)))
accepted_heads ts t tree a =
    let s : Source = source_of t in
    let none : BreaksNone s = breaks_none s a in
    each_named (core_of (source_of t)) (globals s).scope (heads (globals s)) (λ locals. names_there s.items locals (source_allowed s none)) (tree_steps ts t tree) none.bodies

pub accepted_counted : (t : Shape) → (faults_in (source_of t) ≡ []) → AreCounted (core_of (source_of t))
accepted_counted t a = counted (source_of t) (breaks_none (source_of t) a)

pub accepted_cells : (t : Shape) → (faults_in (source_of t) ≡ []) → CoverCells (core_of (source_of t)).shared (length (core_of (source_of t)).starts)
accepted_cells t a = shared_cells (source_of t) (are_few (globals (source_of t)) (breaks_none (source_of t) a).counts)
