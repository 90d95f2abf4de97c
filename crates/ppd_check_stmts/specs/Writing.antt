-- What a walk of statements adds to the table.
use Rattle.std.specs.Prelude.{◌≡◌, ℕ, List, [], ◌++◌, ◌∷◌, map, length, Option, Some, None}
use Rattle.std.specs.List.{flat_map}
use Rattle.ppd_ast.specs.declared.program.Expr.{Expr}
use Rattle.ppd_ast.specs.declared.program.Kind.TheVariants.{End}
use Rattle.ppd_ast.specs.Term.{Term}
use Rattle.ppd_check_names.specs.declared.fault.Fault.{Fault}
use Rattle.ppd_check_names.specs.declared.writer.Writer.{Writer}
use Rattle.ppd_check_names.specs.Faults.{first, first_of_both}
use Rattle.ppd_check_stmts.specs.Forms.{Added}
use Rattle.ppd_parse.specs.declared.node.Node.{Node}
use Rattle.ppd_check_names.specs.Names.{Scope}
use Rattle.ppd_check_names.specs.Reading.{formulas, token, nowhere, as_block}
use Rattle.ppd_check_stmts.specs.Expressions.{term_of, formula_faults}
use Rattle.ppd_check_names.specs.Nodes.{phrase_of, phrases_of}
use Rattle.ppd_ast.specs.declared.program.Place.{Place}
use Rattle.ppd_check_names.specs.declared.frame.Frame.{Frame}
use Rattle.ppd_check_names.specs.declared.writer.Site.{Site}
use Rattle.ppd_check_names.specs.Syntax.{Simple, Row, stop, simple, Block}
use Rattle.ppd_check_stmts.specs.Statements.{code_of, faults_of, row_code, row_faults, after_row}
use Rattle.ppd_check_stmts.specs.Code.{Code, Act, done, act}
use Rattle.ppd_check_stmts.specs.Table.{flats, roots, terms, numbers, stmts}

-- the block at a node, and an empty one where there is none
abbrev pub block_at : List Node → Option ℕ → Block
block_at ns None = as_block (token nowhere)
block_at ns (Some i) = as_block (phrase_of ns i)

-- Statements of a body that stand directly in `parent` were added with their expressions, and their numbers to a row;
-- the rules that they break were noted.
pub record Wrote (body : ℕ) (parent : Option ℕ) (code : Code) (faults : List Fault) (old new : Writer)
    (ids ids' : List ℕ) : Type 0 where
  pub exprs : new.exprs ≡ old.exprs ++ flats (length old.exprs) (terms code)
  pub stmts : new.stmts ≡ old.stmts ++ stmts body parent (length old.stmts) (length old.exprs) code
  pub row : ids' ≡ ids ++ numbers (length old.stmts) code
  pub found : new.found ≡ first_of_both old.found (first faults)

-- a statement without statements inside it was added, in a frame
abbrev pub WroteSimple : Site → Simple → Frame → (old new : Writer) (ids ids' : List ℕ) → Type 0
WroteSimple site s f old new ids ids' = Wrote site.body site.parent (code_of s f) (faults_of s f) old new ids ids'

-- a row was added, where a row of one statement is that statement
abbrev pub WroteRow : Site → Row → Frame → (old new : Writer) (ids ids' : List ℕ) → Type 0
WroteRow site (simple s stop) f old new ids ids' = WroteSimple site s f old new ids ids'
WroteRow site r f old new ids ids' = Wrote site.body site.parent (row_code r f) (row_faults r f) old new ids ids'

-- a row was added, with the frame before it and the one after it
pub record Walked (site : Site) (r : Row) (f g : Frame) (old new : Writer) (ids ids' : List ℕ) : Type 0 where
  pub wrote : Wrote site.body site.parent (row_code r f) (row_faults r f) old new ids ids'
  pub frame : g ≡ after_row r f

-- inside the statement of this number
abbrev pub inside : Site → ℕ → Site
inside site n = record { body = site.body; parent = Some n }

-- the test of a statement was added, then the statement, whose place is held
pub record Began (site : Site) (place : Place) (t : Term) (faults : List Fault) (old new : Writer) (n number : ℕ)
    (ids ids' : List ℕ) : Type 0 where
  pub test : Added old.exprs t new.exprs number
  pub found : new.found ≡ first_of_both old.found (first faults)
  pub stmts : new.stmts ≡ old.stmts ++ record { place = place; body = site.body; parent = site.parent; kind = End } ∷ []
  pub which : n ≡ length old.stmts
  pub row : ids' ≡ ids ++ length old.stmts ∷ []

-- one core statement was added
abbrev pub WroteAct : Site → Place → Act → List Fault → (old new : Writer) (ids ids' : List ℕ) → Type 0
WroteAct site p a faults old new ids ids' = Wrote site.body site.parent (act p a done) faults old new ids ids'

-- the expressions of terms were added, and their numbers to a list
pub record AddedAll (old : List Expr) (ts : List Term) (new : List Expr) (ids ids' : List ℕ) : Type 0 where
  pub table : new ≡ old ++ flats (length old) ts
  pub numbers : ids' ≡ ids ++ roots (length old) ts

-- those of some nodes that are expressions were added as arguments, and the rules that they break were noted
pub record Argued (ns : List Node) (scopes : List Scope) (nodes : List ℕ) (old new : List Expr) (ids ids' : List ℕ)
    (found found' : Option Fault) : Type 0 where
  pub added : AddedAll old (map (term_of scopes) (formulas (phrases_of ns nodes))) new ids ids'
  pub noted : found' ≡ first_of_both found (first (flat_map (formula_faults scopes) (formulas (phrases_of ns nodes))))
