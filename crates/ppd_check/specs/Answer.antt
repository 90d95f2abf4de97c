-- What is answered for the table of a tree.
use Rattle.std.specs.Prelude.{◌≡◌, ◌≤◌, ◌*◌, ℕ, List, [], length, Result, IfOk, IfErr}
use Rattle.ppd_ast.specs.declared.program.Program.{Program}
use Rattle.ppd_ast.specs.Valid.{IsValid}
use Rattle.ppd_parse.specs.declared.node.Node.{Node}
use Rattle.ppd_parse.specs.Tree.{tree_of}
use Rattle.ppd_check_stmts.specs.Elements.{elements_of}
use Rattle.ppd_check.specs.Sources.{core_of, faults_in}
use Rattle.ppd_check_names.specs.Reading.{source_of}
use Rattle.ppd_check.specs.declared.error.CheckError.{CheckError}
use Rattle.ppd_check.specs.Read.{IsTreeOf}
use Rattle.ppd_check.specs.Refused.{IsTreeRefused}

-- the answer is the table of the tree that the nodes stand for, or the first rule that it breaks
pub record IsCheckOf (nodes : List Node) (answer : Result Program CheckError) : Type 0 where
  -- the tree breaks no rule, and this is its core form
  pub core : IfOk answer (λ p. (faults_in (source_of (tree_of nodes)) ≡ []) × (p ≡ core_of (source_of (tree_of nodes))))
  -- it is a valid program where the tree is that of a source
  pub valid : IfOk answer (λ p. (bytes : List ℕ) → IsTreeOf bytes (tree_of nodes) → IsValid p)
  -- its lists have at most nine elements for each node
  pub few : IfOk answer (λ p. elements_of p ≤ 9 * length nodes)
  -- an error is the first rule that the tree breaks
  pub refused : IfErr answer (λ e. IsTreeRefused (tree_of nodes) e)
