-- Nodes and statements of rows, in short.
use Rattle.std.proofs.Common.{ℕ, List, [], Option, Some, None}
use Rattle.ppd_ast.specs.declared.program.Place.{Place}
use Rattle.ppd_ast.specs.declared.program.Kind.{Kind}
use Rattle.ppd_ast.specs.declared.program.Stmt.{Stmt}
use Rattle.ppd_parse.specs.declared.token.TokenKind.{TokenKind}
use Rattle.ppd_parse.specs.declared.symbol.Rule.{Rule}
use Rattle.ppd_parse.specs.declared.symbol.Rule.TheVariants as R
use Rattle.ppd_parse.specs.declared.node.Node.{Node}

abbrev pub place : ℕ → ℕ → Place
place l c = record { line = l; column = c }

abbrev pub node : Rule → List ℕ → Node
node r cs = record { rule = r; token = None; children = cs }

-- a leaf with a token's kind, offsets and place
abbrev pub tok : TokenKind → ℕ → ℕ → ℕ → ℕ → Node
tok k from to l c = record { rule = R.Leaf; token = Some (record { kind = k; from = from; to = to; place = place l c }); children = [] }

abbrev pub stmt : Place → ℕ → Option ℕ → Kind → Stmt
stmt p b parent k = record { place = p; body = b; parent = parent; kind = k }
