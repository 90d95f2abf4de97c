-- Functions and processes, as the code writes them.
use Rattle.ppd_ast.specs.declared.program.Body.{Body}
use Rattle.ppd_check.specs.Sources.{all_stmts, bodies, close_code, head_code, head_faults, params_faults, return_faults}
use Rattle.ppd_check_names.specs.Faults.{first, first_of_both}
use Rattle.ppd_check_names.specs.Frames.{declared}
use Rattle.ppd_check_names.specs.Globals.{Head}
use Rattle.ppd_check_names.specs.Names.{Scope}
use Rattle.ppd_check_names.specs.Syntax.{Name}
use Rattle.ppd_check_names.specs.declared.fault.Fault.{Fault}
use Rattle.ppd_check_names.specs.declared.frame.Frame.{Frame}
use Rattle.ppd_check_names.specs.declared.writer.Output.{Output}
use Rattle.ppd_check_names.specs.declared.writer.Site.{Site}
use Rattle.ppd_check_names.specs.declared.writer.Writer.{Writer}
use Rattle.ppd_check_stmts.specs.Code.{join}
use Rattle.ppd_check_stmts.specs.Statements.{after_row, row_code, row_faults}
use Rattle.ppd_check_stmts.specs.Table.{flats, terms}
use Rattle.ppd_check_stmts.specs.Writing.{Wrote}
use Rattle.std.specs.List.{flat_map}
use Rattle.std.specs.Prelude.{List, None, Option, fold, length, map, ℕ, ◌++◌, ◌∷◌, ◌≡◌}

-- parameters were declared, and those that stand twice were noted
pub record Parametered (xs : List Name) (f g : Frame) (found found' : Option Fault) : Type 0 where
  pub frame : g ≡ fold (declared None) f xs
  pub notes : found' ≡ first_of_both found (first (params_faults xs f))

-- a body's statements were written through its closing brace, with the rules that they and its returns break
pub record Filled (site : Site) (h : Head) (f g : Frame) (old new : Writer) (ids ids' : List ℕ) : Type 0 where
  pub wrote : Wrote site.body site.parent (join (row_code h.block.row f) (close_code h))
      (row_faults h.block.row f ++ return_faults h) old new ids ids'
  pub frame : g ≡ after_row h.block.row f

abbrev pub Fills : Site → Head → (f g : Frame) (old new : Output) → Type 0
Fills site h f g old new = Filled site h f g old.table new.table old.row new.row

-- functions and processes were written, and the rules that they break were noted
pub record WroteHeads (scope : Scope) (hs : List Head) (old new : Writer) (bs bs' : List Body) : Type 0 where
  pub exprs : new.exprs ≡ old.exprs ++ flats (length old.exprs) (flat_map terms (map (head_code scope) hs))
  pub stmts : new.stmts ≡ old.stmts
      ++ all_stmts (length bs) (length old.stmts) (length old.exprs) (map (head_code scope) hs)
  pub bodies : bs' ≡ bs ++ bodies scope (length old.stmts) hs
  pub found : new.found ≡ first_of_both old.found (first (flat_map (head_faults scope) hs))
