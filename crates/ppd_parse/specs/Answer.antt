-- What is answered for the tokens of a source.
use Rattle.std.specs.Prelude.{◌≤◌, ◌*◌, List, [], ◌∷◌, length, Result, IfOk, IfErr}
use Rattle.ppd_parse.specs.declared.token.Token.{Token}
use Rattle.ppd_parse.specs.declared.error.SyntaxError.{SyntaxError}
use Rattle.ppd_parse.specs.declared.node.Tree.{Tree}
use Rattle.ppd_parse.specs.Limits.{IsRefused, IsTree}
use Rattle.ppd_parse.specs.Tree.{tree_of, IsTable}

-- the answer is the tree of the tokens, as a table of nodes, or why they have none
pub record IsParseOf (ts : List Token) (answer : Result Tree SyntaxError) : Type 0 where
  -- the tree that the table stands for is theirs
  pub tree : IfOk answer (λ t. IsTree ts (tree_of t.nodes ∷ []))
  -- its nodes are numbered with the root first
  pub table : IfOk answer (λ t. IsTable t.nodes)
  -- it has at most three nodes for each token
  pub few : IfOk answer (λ t. length t.nodes ≤ 3 * length ts)
  -- an error says why no tree is theirs
  pub refused : IfErr answer (λ e. IsRefused ts e)
