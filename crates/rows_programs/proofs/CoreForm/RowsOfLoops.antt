-- The tables of small sources with loops and calls, evaluated.
use Rattle.std.proofs.Common.{◌≡◌, refl, List, [], ◌∷◌, Some, None, pos, true, false}
use Rattle.ppd_ast.specs.declared.program.Op.TheVariants as O
use Rattle.ppd_ast.specs.declared.program.Expr.TheVariants as E
use Rattle.ppd_ast.specs.declared.program.Target.TheVariants as G
use Rattle.ppd_ast.specs.declared.program.Kind.TheVariants as K
use Rattle.ppd_parse.specs.declared.token.Kind.TheVariants as W
use Rattle.ppd_parse.specs.declared.token.TokenKind.TheVariants as T
use Rattle.ppd_parse.specs.declared.symbol.Rule.TheVariants as R
use Rattle.ppd_parse.specs.declared.node.Node.{Node}
use Rattle.ppd_parse.specs.Tree.{tree_of}
use Rattle.ppd_check.specs.Sources.{core_of, faults_in}
use Rattle.ppd_check_names.specs.Reading.{source_of}
use Rattle.rows_programs.proofs.CoreForm.RowTables.{place, node, tok, stmt}

-- process a { int i = 3; while (i < 3) { i = i + 1; } print(i); }
abbrev loop_never_entered : List Node
loop_never_entered =
    node R.Source (1 ∷ 52 ∷ []) ∷
    node R.Process (2 ∷ 3 ∷ 4 ∷ []) ∷
    tok (T.Word W.ProcessWord) 0 7 1 1 ∷
    tok (T.Name (97 ∷ [])) 8 9 1 9 ∷
    node R.Block (5 ∷ 6 ∷ 15 ∷ 43 ∷ 51 ∷ []) ∷
    tok (T.Mark W.LeftBrace) 10 11 1 11 ∷
    node R.Local (7 ∷ 8 ∷ 14 ∷ []) ∷
    tok (T.Word W.IntWord) 12 15 1 13 ∷
    node R.Litem (9 ∷ 10 ∷ 11 ∷ []) ∷
    tok (T.Name (105 ∷ [])) 16 17 1 17 ∷
    tok (T.Mark W.AssignMark) 18 19 1 19 ∷
    node R.Value (12 ∷ []) ∷
    node R.Unary (13 ∷ []) ∷
    tok (T.Number (pos 3)) 20 21 1 21 ∷
    tok (T.Mark W.Semicolon) 21 22 1 22 ∷
    node R.Stmt (16 ∷ 17 ∷ 18 ∷ 25 ∷ 26 ∷ []) ∷
    tok (T.Word W.WhileWord) 23 28 1 24 ∷
    tok (T.Mark W.LeftParen) 29 30 1 30 ∷
    node R.Binary (19 ∷ 22 ∷ 23 ∷ []) ∷
    node R.Unary (20 ∷ []) ∷
    node R.Place (21 ∷ []) ∷
    tok (T.Name (105 ∷ [])) 30 31 1 31 ∷
    tok (T.Mark W.LessMark) 32 33 1 33 ∷
    node R.Unary (24 ∷ []) ∷
    tok (T.Number (pos 3)) 34 35 1 35 ∷
    tok (T.Mark W.RightParen) 35 36 1 36 ∷
    node R.Stmt (27 ∷ []) ∷
    node R.Block (28 ∷ 29 ∷ 42 ∷ []) ∷
    tok (T.Mark W.LeftBrace) 37 38 1 38 ∷
    node R.Stmt (30 ∷ 41 ∷ []) ∷
    node R.Change (31 ∷ 33 ∷ 34 ∷ []) ∷
    node R.Place (32 ∷ []) ∷
    tok (T.Name (105 ∷ [])) 39 40 1 40 ∷
    tok (T.Mark W.AssignMark) 41 42 1 42 ∷
    node R.Binary (35 ∷ 38 ∷ 39 ∷ []) ∷
    node R.Unary (36 ∷ []) ∷
    node R.Place (37 ∷ []) ∷
    tok (T.Name (105 ∷ [])) 43 44 1 44 ∷
    tok (T.Mark W.PlusMark) 45 46 1 46 ∷
    node R.Unary (40 ∷ []) ∷
    tok (T.Number (pos 1)) 47 48 1 48 ∷
    tok (T.Mark W.Semicolon) 48 49 1 49 ∷
    tok (T.Mark W.RightBrace) 50 51 1 51 ∷
    node R.Stmt (44 ∷ 45 ∷ 46 ∷ 49 ∷ 50 ∷ []) ∷
    tok (T.Word W.PrintWord) 52 57 1 53 ∷
    tok (T.Mark W.LeftParen) 57 58 1 58 ∷
    node R.Unary (47 ∷ []) ∷
    node R.Place (48 ∷ []) ∷
    tok (T.Name (105 ∷ [])) 58 59 1 59 ∷
    tok (T.Mark W.RightParen) 59 60 1 60 ∷
    tok (T.Mark W.Semicolon) 60 61 1 61 ∷
    tok (T.Mark W.RightBrace) 62 63 1 63 ∷
    tok T.End 63 63 1 64 ∷ []

loop_never_entered_accepted : faults_in (source_of (tree_of loop_never_entered)) ≡ []
loop_never_entered_accepted = refl

loop_never_entered_core : core_of (source_of (tree_of loop_never_entered)) ≡ record {
  exprs = E.Const (pos 3) ∷
      E.Local 0 ∷
      E.Const (pos 3) ∷
      E.Two O.Lt 1 2 ∷
      E.Local 0 ∷
      E.Const (pos 1) ∷
      E.Two O.Add 4 5 ∷
      E.Local 0 ∷ [];
  stmts = stmt (place 1 17) 0 None (K.Set (G.Local 0) 0) ∷
      stmt (place 1 24) 0 None (K.While 3 (2 ∷ [])) ∷
      stmt (place 1 40) 0 (Some 1) (K.Set (G.Local 0) 6) ∷
      stmt (place 1 53) 0 None (K.Print 7) ∷
      stmt (place 1 63) 0 None (K.End) ∷ [];
  bodies = record { name = (97 ∷ []); process = true; params = 0; value = false; cells = 1; locals = (record { name = (105 ∷ []); base = 0; len = None } ∷ []); top = (0 ∷ 1 ∷ 3 ∷ 4 ∷ []); first = 0; end = 5 } ∷ [];
  functions = 0;
  shared = [];
  starts = [];
  sems = [];
  chans = [];
}
loop_never_entered_core = refl

-- int f(int n) {
--   int r;
--   if (n > 0) {
--     r = f(n - 1);
--   }
--   return r + 1;
-- }
-- process a {
--   int v = f(2);
--   print(v);
-- }
abbrev recursion : List Node
recursion =
    node R.Source (1 ∷ 59 ∷ 86 ∷ []) ∷
    node R.Function (2 ∷ 3 ∷ 4 ∷ 5 ∷ 8 ∷ 9 ∷ []) ∷
    tok (T.Word W.IntWord) 0 3 1 1 ∷
    tok (T.Name (102 ∷ [])) 4 5 1 5 ∷
    tok (T.Mark W.LeftParen) 5 6 1 6 ∷
    node R.Params (6 ∷ 7 ∷ []) ∷
    tok (T.Word W.IntWord) 6 9 1 7 ∷
    tok (T.Name (110 ∷ [])) 10 11 1 11 ∷
    tok (T.Mark W.RightParen) 11 12 1 12 ∷
    node R.Block (10 ∷ 11 ∷ 16 ∷ 48 ∷ 58 ∷ []) ∷
    tok (T.Mark W.LeftBrace) 13 14 1 14 ∷
    node R.Local (12 ∷ 13 ∷ 15 ∷ []) ∷
    tok (T.Word W.IntWord) 17 20 2 3 ∷
    node R.Litem (14 ∷ []) ∷
    tok (T.Name (114 ∷ [])) 21 22 2 7 ∷
    tok (T.Mark W.Semicolon) 22 23 2 8 ∷
    node R.Stmt (17 ∷ 18 ∷ 19 ∷ 26 ∷ 27 ∷ []) ∷
    tok (T.Word W.IfWord) 26 28 3 3 ∷
    tok (T.Mark W.LeftParen) 29 30 3 6 ∷
    node R.Binary (20 ∷ 23 ∷ 24 ∷ []) ∷
    node R.Unary (21 ∷ []) ∷
    node R.Place (22 ∷ []) ∷
    tok (T.Name (110 ∷ [])) 30 31 3 7 ∷
    tok (T.Mark W.MoreMark) 32 33 3 9 ∷
    node R.Unary (25 ∷ []) ∷
    tok (T.Number (pos 0)) 34 35 3 11 ∷
    tok (T.Mark W.RightParen) 35 36 3 12 ∷
    node R.Stmt (28 ∷ []) ∷
    node R.Block (29 ∷ 30 ∷ 47 ∷ []) ∷
    tok (T.Mark W.LeftBrace) 37 38 3 14 ∷
    node R.Stmt (31 ∷ 33 ∷ 34 ∷ 46 ∷ []) ∷
    node R.Place (32 ∷ []) ∷
    tok (T.Name (114 ∷ [])) 43 44 4 5 ∷
    tok (T.Mark W.AssignMark) 45 46 4 7 ∷
    node R.Value (35 ∷ []) ∷
    node R.Call (36 ∷ 37 ∷ 38 ∷ 45 ∷ []) ∷
    tok (T.Name (102 ∷ [])) 47 48 4 9 ∷
    tok (T.Mark W.LeftParen) 48 49 4 10 ∷
    node R.Binary (39 ∷ 42 ∷ 43 ∷ []) ∷
    node R.Unary (40 ∷ []) ∷
    node R.Place (41 ∷ []) ∷
    tok (T.Name (110 ∷ [])) 49 50 4 11 ∷
    tok (T.Mark W.MinusMark) 51 52 4 13 ∷
    node R.Unary (44 ∷ []) ∷
    tok (T.Number (pos 1)) 53 54 4 15 ∷
    tok (T.Mark W.RightParen) 54 55 4 16 ∷
    tok (T.Mark W.Semicolon) 55 56 4 17 ∷
    tok (T.Mark W.RightBrace) 59 60 5 3 ∷
    node R.Stmt (49 ∷ 50 ∷ 57 ∷ []) ∷
    tok (T.Word W.ReturnWord) 63 69 6 3 ∷
    node R.Binary (51 ∷ 54 ∷ 55 ∷ []) ∷
    node R.Unary (52 ∷ []) ∷
    node R.Place (53 ∷ []) ∷
    tok (T.Name (114 ∷ [])) 70 71 6 10 ∷
    tok (T.Mark W.PlusMark) 72 73 6 12 ∷
    node R.Unary (56 ∷ []) ∷
    tok (T.Number (pos 1)) 74 75 6 14 ∷
    tok (T.Mark W.Semicolon) 75 76 6 15 ∷
    tok (T.Mark W.RightBrace) 77 78 7 1 ∷
    node R.Process (60 ∷ 61 ∷ 62 ∷ []) ∷
    tok (T.Word W.ProcessWord) 79 86 8 1 ∷
    tok (T.Name (97 ∷ [])) 87 88 8 9 ∷
    node R.Block (63 ∷ 64 ∷ 77 ∷ 85 ∷ []) ∷
    tok (T.Mark W.LeftBrace) 89 90 8 11 ∷
    node R.Local (65 ∷ 66 ∷ 76 ∷ []) ∷
    tok (T.Word W.IntWord) 93 96 9 3 ∷
    node R.Litem (67 ∷ 68 ∷ 69 ∷ []) ∷
    tok (T.Name (118 ∷ [])) 97 98 9 7 ∷
    tok (T.Mark W.AssignMark) 99 100 9 9 ∷
    node R.Value (70 ∷ []) ∷
    node R.Call (71 ∷ 72 ∷ 73 ∷ 75 ∷ []) ∷
    tok (T.Name (102 ∷ [])) 101 102 9 11 ∷
    tok (T.Mark W.LeftParen) 102 103 9 12 ∷
    node R.Unary (74 ∷ []) ∷
    tok (T.Number (pos 2)) 103 104 9 13 ∷
    tok (T.Mark W.RightParen) 104 105 9 14 ∷
    tok (T.Mark W.Semicolon) 105 106 9 15 ∷
    node R.Stmt (78 ∷ 79 ∷ 80 ∷ 83 ∷ 84 ∷ []) ∷
    tok (T.Word W.PrintWord) 109 114 10 3 ∷
    tok (T.Mark W.LeftParen) 114 115 10 8 ∷
    node R.Unary (81 ∷ []) ∷
    node R.Place (82 ∷ []) ∷
    tok (T.Name (118 ∷ [])) 115 116 10 9 ∷
    tok (T.Mark W.RightParen) 116 117 10 10 ∷
    tok (T.Mark W.Semicolon) 117 118 10 11 ∷
    tok (T.Mark W.RightBrace) 119 120 11 1 ∷
    tok T.End 120 120 11 2 ∷ []

recursion_accepted : faults_in (source_of (tree_of recursion)) ≡ []
recursion_accepted = refl

recursion_core : core_of (source_of (tree_of recursion)) ≡ record {
  exprs = E.Const (pos 0) ∷
      E.Local 0 ∷
      E.Const (pos 0) ∷
      E.Two O.Gt 1 2 ∷
      E.Local 0 ∷
      E.Const (pos 1) ∷
      E.Two O.Sub 4 5 ∷
      E.Local 1 ∷
      E.Const (pos 1) ∷
      E.Two O.Add 7 8 ∷
      E.Const (pos 2) ∷
      E.Local 0 ∷ [];
  stmts = stmt (place 2 7) 0 None (K.Set (G.Local 1) 0) ∷
      stmt (place 3 3) 0 None (K.If 3 (2 ∷ []) []) ∷
      stmt (place 4 5) 0 (Some 1) (K.Call 0 (6 ∷ []) (Some 1)) ∷
      stmt (place 6 3) 0 None (K.Return (Some 9)) ∷
      stmt (place 9 7) 1 None (K.Call 0 (10 ∷ []) (Some 0)) ∷
      stmt (place 10 3) 1 None (K.Print 11) ∷
      stmt (place 11 1) 1 None (K.End) ∷ [];
  bodies = record { name = (102 ∷ []); process = false; params = 1; value = true; cells = 2; locals = (record { name = (110 ∷ []); base = 0; len = None } ∷ record { name = (114 ∷ []); base = 1; len = None } ∷ []); top = (0 ∷ 1 ∷ 3 ∷ []); first = 0; end = 4 } ∷
      record { name = (97 ∷ []); process = true; params = 0; value = false; cells = 1; locals = (record { name = (118 ∷ []); base = 0; len = None } ∷ []); top = (4 ∷ 5 ∷ 6 ∷ []); first = 4; end = 7 } ∷ [];
  functions = 1;
  shared = [];
  starts = [];
  sems = [];
  chans = [];
}
recursion_core = refl

-- shared int a[2];
-- process p {
--   int i;
--   a[0] = 5;
--   a[1] = 6;
--   while (i < 2 && a[i] != 0) { i = i + 1; }
--   print(i);
-- }
abbrev short_circuit : List Node
short_circuit =
    node R.Source (1 ∷ 10 ∷ 95 ∷ []) ∷
    node R.Shared (2 ∷ 3 ∷ 4 ∷ 9 ∷ []) ∷
    tok (T.Word W.SharedWord) 0 6 1 1 ∷
    tok (T.Word W.IntWord) 7 10 1 8 ∷
    node R.Sitem (5 ∷ 6 ∷ 7 ∷ 8 ∷ []) ∷
    tok (T.Name (97 ∷ [])) 11 12 1 12 ∷
    tok (T.Mark W.LeftBracket) 12 13 1 13 ∷
    tok (T.Number (pos 2)) 13 14 1 14 ∷
    tok (T.Mark W.RightBracket) 14 15 1 15 ∷
    tok (T.Mark W.Semicolon) 15 16 1 16 ∷
    node R.Process (11 ∷ 12 ∷ 13 ∷ []) ∷
    tok (T.Word W.ProcessWord) 17 24 2 1 ∷
    tok (T.Name (112 ∷ [])) 25 26 2 9 ∷
    node R.Block (14 ∷ 15 ∷ 20 ∷ 32 ∷ 44 ∷ 86 ∷ 94 ∷ []) ∷
    tok (T.Mark W.LeftBrace) 27 28 2 11 ∷
    node R.Local (16 ∷ 17 ∷ 19 ∷ []) ∷
    tok (T.Word W.IntWord) 31 34 3 3 ∷
    node R.Litem (18 ∷ []) ∷
    tok (T.Name (105 ∷ [])) 35 36 3 7 ∷
    tok (T.Mark W.Semicolon) 36 37 3 8 ∷
    node R.Stmt (21 ∷ 31 ∷ []) ∷
    node R.Change (22 ∷ 28 ∷ 29 ∷ []) ∷
    node R.Place (23 ∷ 24 ∷ 25 ∷ 27 ∷ []) ∷
    tok (T.Name (97 ∷ [])) 40 41 4 3 ∷
    tok (T.Mark W.LeftBracket) 41 42 4 4 ∷
    node R.Unary (26 ∷ []) ∷
    tok (T.Number (pos 0)) 42 43 4 5 ∷
    tok (T.Mark W.RightBracket) 43 44 4 6 ∷
    tok (T.Mark W.AssignMark) 45 46 4 8 ∷
    node R.Unary (30 ∷ []) ∷
    tok (T.Number (pos 5)) 47 48 4 10 ∷
    tok (T.Mark W.Semicolon) 48 49 4 11 ∷
    node R.Stmt (33 ∷ 43 ∷ []) ∷
    node R.Change (34 ∷ 40 ∷ 41 ∷ []) ∷
    node R.Place (35 ∷ 36 ∷ 37 ∷ 39 ∷ []) ∷
    tok (T.Name (97 ∷ [])) 52 53 5 3 ∷
    tok (T.Mark W.LeftBracket) 53 54 5 4 ∷
    node R.Unary (38 ∷ []) ∷
    tok (T.Number (pos 1)) 54 55 5 5 ∷
    tok (T.Mark W.RightBracket) 55 56 5 6 ∷
    tok (T.Mark W.AssignMark) 57 58 5 8 ∷
    node R.Unary (42 ∷ []) ∷
    tok (T.Number (pos 6)) 59 60 5 10 ∷
    tok (T.Mark W.Semicolon) 60 61 5 11 ∷
    node R.Stmt (45 ∷ 46 ∷ 47 ∷ 68 ∷ 69 ∷ []) ∷
    tok (T.Word W.WhileWord) 64 69 6 3 ∷
    tok (T.Mark W.LeftParen) 70 71 6 9 ∷
    node R.Binary (48 ∷ 55 ∷ 56 ∷ []) ∷
    node R.Binary (49 ∷ 52 ∷ 53 ∷ []) ∷
    node R.Unary (50 ∷ []) ∷
    node R.Place (51 ∷ []) ∷
    tok (T.Name (105 ∷ [])) 71 72 6 10 ∷
    tok (T.Mark W.LessMark) 73 74 6 12 ∷
    node R.Unary (54 ∷ []) ∷
    tok (T.Number (pos 2)) 75 76 6 14 ∷
    tok (T.Mark W.AndMark) 77 79 6 16 ∷
    node R.Binary (57 ∷ 65 ∷ 66 ∷ []) ∷
    node R.Unary (58 ∷ []) ∷
    node R.Place (59 ∷ 60 ∷ 61 ∷ 64 ∷ []) ∷
    tok (T.Name (97 ∷ [])) 80 81 6 19 ∷
    tok (T.Mark W.LeftBracket) 81 82 6 20 ∷
    node R.Unary (62 ∷ []) ∷
    node R.Place (63 ∷ []) ∷
    tok (T.Name (105 ∷ [])) 82 83 6 21 ∷
    tok (T.Mark W.RightBracket) 83 84 6 22 ∷
    tok (T.Mark W.UnequalMark) 85 87 6 24 ∷
    node R.Unary (67 ∷ []) ∷
    tok (T.Number (pos 0)) 88 89 6 27 ∷
    tok (T.Mark W.RightParen) 89 90 6 28 ∷
    node R.Stmt (70 ∷ []) ∷
    node R.Block (71 ∷ 72 ∷ 85 ∷ []) ∷
    tok (T.Mark W.LeftBrace) 91 92 6 30 ∷
    node R.Stmt (73 ∷ 84 ∷ []) ∷
    node R.Change (74 ∷ 76 ∷ 77 ∷ []) ∷
    node R.Place (75 ∷ []) ∷
    tok (T.Name (105 ∷ [])) 93 94 6 32 ∷
    tok (T.Mark W.AssignMark) 95 96 6 34 ∷
    node R.Binary (78 ∷ 81 ∷ 82 ∷ []) ∷
    node R.Unary (79 ∷ []) ∷
    node R.Place (80 ∷ []) ∷
    tok (T.Name (105 ∷ [])) 97 98 6 36 ∷
    tok (T.Mark W.PlusMark) 99 100 6 38 ∷
    node R.Unary (83 ∷ []) ∷
    tok (T.Number (pos 1)) 101 102 6 40 ∷
    tok (T.Mark W.Semicolon) 102 103 6 41 ∷
    tok (T.Mark W.RightBrace) 104 105 6 43 ∷
    node R.Stmt (87 ∷ 88 ∷ 89 ∷ 92 ∷ 93 ∷ []) ∷
    tok (T.Word W.PrintWord) 108 113 7 3 ∷
    tok (T.Mark W.LeftParen) 113 114 7 8 ∷
    node R.Unary (90 ∷ []) ∷
    node R.Place (91 ∷ []) ∷
    tok (T.Name (105 ∷ [])) 114 115 7 9 ∷
    tok (T.Mark W.RightParen) 115 116 7 10 ∷
    tok (T.Mark W.Semicolon) 116 117 7 11 ∷
    tok (T.Mark W.RightBrace) 118 119 8 1 ∷
    tok T.End 119 119 8 2 ∷ []

short_circuit_accepted : faults_in (source_of (tree_of short_circuit)) ≡ []
short_circuit_accepted = refl

short_circuit_core : core_of (source_of (tree_of short_circuit)) ≡ record {
  exprs = E.Const (pos 0) ∷
      E.Const (pos 0) ∷
      E.Const (pos 5) ∷
      E.Const (pos 1) ∷
      E.Const (pos 6) ∷
      E.Local 0 ∷
      E.Const (pos 2) ∷
      E.Two O.Lt 5 6 ∷
      E.Local 0 ∷
      E.SharedAt 0 2 8 ∷
      E.Const (pos 0) ∷
      E.Two O.Ne 9 10 ∷
      E.And 7 11 ∷
      E.Local 0 ∷
      E.Const (pos 1) ∷
      E.Two O.Add 13 14 ∷
      E.Local 0 ∷ [];
  stmts = stmt (place 3 7) 0 None (K.Set (G.Local 0) 0) ∷
      stmt (place 4 3) 0 None (K.Set (G.SharedAt 0 2 1) 2) ∷
      stmt (place 5 3) 0 None (K.Set (G.SharedAt 0 2 3) 4) ∷
      stmt (place 6 3) 0 None (K.While 12 (4 ∷ [])) ∷
      stmt (place 6 32) 0 (Some 3) (K.Set (G.Local 0) 15) ∷
      stmt (place 7 3) 0 None (K.Print 16) ∷
      stmt (place 8 1) 0 None (K.End) ∷ [];
  bodies = record { name = (112 ∷ []); process = true; params = 0; value = false; cells = 1; locals = (record { name = (105 ∷ []); base = 0; len = None } ∷ []); top = (0 ∷ 1 ∷ 2 ∷ 3 ∷ 5 ∷ 6 ∷ []); first = 0; end = 7 } ∷ [];
  functions = 0;
  shared = (record { name = (97 ∷ []); base = 0; len = (Some 2) } ∷ []);
  starts = ((pos 0) ∷ (pos 0) ∷ []);
  sems = [];
  chans = [];
}
short_circuit_core = refl
