-- The tables of small sources, evaluated.
use Rattle.std.proofs.Common.{◌≡◌, refl, List, [], ◌∷◌, Some, None, pos, true, false}
use Rattle.ppd_ast.specs.declared.program.Op.TheVariants as O
use Rattle.ppd_ast.specs.declared.program.Expr.TheVariants as E
use Rattle.ppd_ast.specs.declared.program.Target.TheVariants as G
use Rattle.ppd_ast.specs.declared.program.Kind.TheVariants as K
use Rattle.ppd_parse.specs.declared.token.Kind.TheVariants as W
use Rattle.ppd_parse.specs.declared.token.TokenKind.TheVariants as T
use Rattle.ppd_parse.specs.declared.symbol.Rule.TheVariants as R
use Rattle.ppd_parse.specs.declared.node.Node.{Node}
use Rattle.ppd_parse.specs.Tree.{tree_of}
use Rattle.ppd_check.specs.Sources.{core_of, faults_in}
use Rattle.ppd_check_names.specs.Reading.{source_of}
use Rattle.rows_programs.proofs.CoreForm.RowTables.{place, node, tok, stmt}

-- shared int x; process a { x = 2; print(x + 3); }
abbrev smallest : List Node
smallest =
    node R.Source (1 ∷ 7 ∷ 33 ∷ []) ∷
    node R.Shared (2 ∷ 3 ∷ 4 ∷ 6 ∷ []) ∷
    tok (T.Word W.SharedWord) 0 6 1 1 ∷
    tok (T.Word W.IntWord) 7 10 1 8 ∷
    node R.Sitem (5 ∷ []) ∷
    tok (T.Name (120 ∷ [])) 11 12 1 12 ∷
    tok (T.Mark W.Semicolon) 12 13 1 13 ∷
    node R.Process (8 ∷ 9 ∷ 10 ∷ []) ∷
    tok (T.Word W.ProcessWord) 14 21 1 15 ∷
    tok (T.Name (97 ∷ [])) 22 23 1 23 ∷
    node R.Block (11 ∷ 12 ∷ 20 ∷ 32 ∷ []) ∷
    tok (T.Mark W.LeftBrace) 24 25 1 25 ∷
    node R.Stmt (13 ∷ 19 ∷ []) ∷
    node R.Change (14 ∷ 16 ∷ 17 ∷ []) ∷
    node R.Place (15 ∷ []) ∷
    tok (T.Name (120 ∷ [])) 26 27 1 27 ∷
    tok (T.Mark W.AssignMark) 28 29 1 29 ∷
    node R.Unary (18 ∷ []) ∷
    tok (T.Number (pos 2)) 30 31 1 31 ∷
    tok (T.Mark W.Semicolon) 31 32 1 32 ∷
    node R.Stmt (21 ∷ 22 ∷ 23 ∷ 30 ∷ 31 ∷ []) ∷
    tok (T.Word W.PrintWord) 33 38 1 34 ∷
    tok (T.Mark W.LeftParen) 38 39 1 39 ∷
    node R.Binary (24 ∷ 27 ∷ 28 ∷ []) ∷
    node R.Unary (25 ∷ []) ∷
    node R.Place (26 ∷ []) ∷
    tok (T.Name (120 ∷ [])) 39 40 1 40 ∷
    tok (T.Mark W.PlusMark) 41 42 1 42 ∷
    node R.Unary (29 ∷ []) ∷
    tok (T.Number (pos 3)) 43 44 1 44 ∷
    tok (T.Mark W.RightParen) 44 45 1 45 ∷
    tok (T.Mark W.Semicolon) 45 46 1 46 ∷
    tok (T.Mark W.RightBrace) 47 48 1 48 ∷
    tok T.End 48 48 1 49 ∷ []

smallest_accepted : faults_in (source_of (tree_of smallest)) ≡ []
smallest_accepted = refl

smallest_core : core_of (source_of (tree_of smallest)) ≡ record {
  exprs = E.Const (pos 2) ∷
      E.Shared 0 ∷
      E.Const (pos 3) ∷
      E.Two O.Add 1 2 ∷ [];
  stmts = stmt (place 1 27) 0 None (K.Set (G.Shared 0) 0) ∷
      stmt (place 1 34) 0 None (K.Print 3) ∷
      stmt (place 1 48) 0 None (K.End) ∷ [];
  bodies = record { name = (97 ∷ []); process = true; params = 0; value = false; cells = 0; locals = []; top = (0 ∷ 1 ∷ 2 ∷ []); first = 0; end = 3 } ∷ [];
  functions = 0;
  shared = (record { name = (120 ∷ []); base = 0; len = None } ∷ []);
  starts = ((pos 0) ∷ []);
  sems = [];
  chans = [];
}
smallest_core = refl

-- shared int x; sem m = 1; process a { P(m); x = x + 1; V(m); } process b { P(m); x = x + 1; V(m); }
abbrev lock_order : List Node
lock_order =
    node R.Source (1 ∷ 7 ∷ 13 ∷ 44 ∷ 75 ∷ []) ∷
    node R.Shared (2 ∷ 3 ∷ 4 ∷ 6 ∷ []) ∷
    tok (T.Word W.SharedWord) 0 6 1 1 ∷
    tok (T.Word W.IntWord) 7 10 1 8 ∷
    node R.Sitem (5 ∷ []) ∷
    tok (T.Name (120 ∷ [])) 11 12 1 12 ∷
    tok (T.Mark W.Semicolon) 12 13 1 13 ∷
    node R.Sems (8 ∷ 9 ∷ 10 ∷ 11 ∷ 12 ∷ []) ∷
    tok (T.Word W.SemWord) 14 17 1 15 ∷
    tok (T.Name (109 ∷ [])) 18 19 1 19 ∷
    tok (T.Mark W.AssignMark) 20 21 1 21 ∷
    tok (T.Number (pos 1)) 22 23 1 23 ∷
    tok (T.Mark W.Semicolon) 23 24 1 24 ∷
    node R.Process (14 ∷ 15 ∷ 16 ∷ []) ∷
    tok (T.Word W.ProcessWord) 25 32 1 26 ∷
    tok (T.Name (97 ∷ [])) 33 34 1 34 ∷
    node R.Block (17 ∷ 18 ∷ 24 ∷ 37 ∷ 43 ∷ []) ∷
    tok (T.Mark W.LeftBrace) 35 36 1 36 ∷
    node R.Stmt (19 ∷ 20 ∷ 21 ∷ 22 ∷ 23 ∷ []) ∷
    tok (T.Word W.TakeWord) 37 38 1 38 ∷
    tok (T.Mark W.LeftParen) 38 39 1 39 ∷
    tok (T.Name (109 ∷ [])) 39 40 1 40 ∷
    tok (T.Mark W.RightParen) 40 41 1 41 ∷
    tok (T.Mark W.Semicolon) 41 42 1 42 ∷
    node R.Stmt (25 ∷ 36 ∷ []) ∷
    node R.Change (26 ∷ 28 ∷ 29 ∷ []) ∷
    node R.Place (27 ∷ []) ∷
    tok (T.Name (120 ∷ [])) 43 44 1 44 ∷
    tok (T.Mark W.AssignMark) 45 46 1 46 ∷
    node R.Binary (30 ∷ 33 ∷ 34 ∷ []) ∷
    node R.Unary (31 ∷ []) ∷
    node R.Place (32 ∷ []) ∷
    tok (T.Name (120 ∷ [])) 47 48 1 48 ∷
    tok (T.Mark W.PlusMark) 49 50 1 50 ∷
    node R.Unary (35 ∷ []) ∷
    tok (T.Number (pos 1)) 51 52 1 52 ∷
    tok (T.Mark W.Semicolon) 52 53 1 53 ∷
    node R.Stmt (38 ∷ 39 ∷ 40 ∷ 41 ∷ 42 ∷ []) ∷
    tok (T.Word W.GiveWord) 54 55 1 55 ∷
    tok (T.Mark W.LeftParen) 55 56 1 56 ∷
    tok (T.Name (109 ∷ [])) 56 57 1 57 ∷
    tok (T.Mark W.RightParen) 57 58 1 58 ∷
    tok (T.Mark W.Semicolon) 58 59 1 59 ∷
    tok (T.Mark W.RightBrace) 60 61 1 61 ∷
    node R.Process (45 ∷ 46 ∷ 47 ∷ []) ∷
    tok (T.Word W.ProcessWord) 62 69 1 63 ∷
    tok (T.Name (98 ∷ [])) 70 71 1 71 ∷
    node R.Block (48 ∷ 49 ∷ 55 ∷ 68 ∷ 74 ∷ []) ∷
    tok (T.Mark W.LeftBrace) 72 73 1 73 ∷
    node R.Stmt (50 ∷ 51 ∷ 52 ∷ 53 ∷ 54 ∷ []) ∷
    tok (T.Word W.TakeWord) 74 75 1 75 ∷
    tok (T.Mark W.LeftParen) 75 76 1 76 ∷
    tok (T.Name (109 ∷ [])) 76 77 1 77 ∷
    tok (T.Mark W.RightParen) 77 78 1 78 ∷
    tok (T.Mark W.Semicolon) 78 79 1 79 ∷
    node R.Stmt (56 ∷ 67 ∷ []) ∷
    node R.Change (57 ∷ 59 ∷ 60 ∷ []) ∷
    node R.Place (58 ∷ []) ∷
    tok (T.Name (120 ∷ [])) 80 81 1 81 ∷
    tok (T.Mark W.AssignMark) 82 83 1 83 ∷
    node R.Binary (61 ∷ 64 ∷ 65 ∷ []) ∷
    node R.Unary (62 ∷ []) ∷
    node R.Place (63 ∷ []) ∷
    tok (T.Name (120 ∷ [])) 84 85 1 85 ∷
    tok (T.Mark W.PlusMark) 86 87 1 87 ∷
    node R.Unary (66 ∷ []) ∷
    tok (T.Number (pos 1)) 88 89 1 89 ∷
    tok (T.Mark W.Semicolon) 89 90 1 90 ∷
    node R.Stmt (69 ∷ 70 ∷ 71 ∷ 72 ∷ 73 ∷ []) ∷
    tok (T.Word W.GiveWord) 91 92 1 92 ∷
    tok (T.Mark W.LeftParen) 92 93 1 93 ∷
    tok (T.Name (109 ∷ [])) 93 94 1 94 ∷
    tok (T.Mark W.RightParen) 94 95 1 95 ∷
    tok (T.Mark W.Semicolon) 95 96 1 96 ∷
    tok (T.Mark W.RightBrace) 97 98 1 98 ∷
    tok T.End 98 98 1 99 ∷ []

lock_order_accepted : faults_in (source_of (tree_of lock_order)) ≡ []
lock_order_accepted = refl

lock_order_core : core_of (source_of (tree_of lock_order)) ≡ record {
  exprs = E.Shared 0 ∷
      E.Const (pos 1) ∷
      E.Two O.Add 0 1 ∷
      E.Shared 0 ∷
      E.Const (pos 1) ∷
      E.Two O.Add 3 4 ∷ [];
  stmts = stmt (place 1 38) 0 None (K.P 0) ∷
      stmt (place 1 44) 0 None (K.Set (G.Shared 0) 2) ∷
      stmt (place 1 55) 0 None (K.V 0) ∷
      stmt (place 1 61) 0 None (K.End) ∷
      stmt (place 1 75) 1 None (K.P 0) ∷
      stmt (place 1 81) 1 None (K.Set (G.Shared 0) 5) ∷
      stmt (place 1 92) 1 None (K.V 0) ∷
      stmt (place 1 98) 1 None (K.End) ∷ [];
  bodies = record { name = (97 ∷ []); process = true; params = 0; value = false; cells = 0; locals = []; top = (0 ∷ 1 ∷ 2 ∷ 3 ∷ []); first = 0; end = 4 } ∷
      record { name = (98 ∷ []); process = true; params = 0; value = false; cells = 0; locals = []; top = (4 ∷ 5 ∷ 6 ∷ 7 ∷ []); first = 4; end = 8 } ∷ [];
  functions = 0;
  shared = (record { name = (120 ∷ []); base = 0; len = None } ∷ []);
  starts = ((pos 0) ∷ []);
  sems = (record { name = (109 ∷ []); start = 1 } ∷ []);
  chans = [];
}
lock_order_core = refl

-- shared int x; chan c[1]; process a { send(c, 7); send(c, 8); x = 2; } process b { int v; print(x); v = recv(c); v = recv(c); }
abbrev bounded_channel : List Node
bounded_channel =
    node R.Source (1 ∷ 7 ∷ 14 ∷ 46 ∷ 85 ∷ []) ∷
    node R.Shared (2 ∷ 3 ∷ 4 ∷ 6 ∷ []) ∷
    tok (T.Word W.SharedWord) 0 6 1 1 ∷
    tok (T.Word W.IntWord) 7 10 1 8 ∷
    node R.Sitem (5 ∷ []) ∷
    tok (T.Name (120 ∷ [])) 11 12 1 12 ∷
    tok (T.Mark W.Semicolon) 12 13 1 13 ∷
    node R.Chans (8 ∷ 9 ∷ 10 ∷ 11 ∷ 12 ∷ 13 ∷ []) ∷
    tok (T.Word W.ChanWord) 14 18 1 15 ∷
    tok (T.Name (99 ∷ [])) 19 20 1 20 ∷
    tok (T.Mark W.LeftBracket) 20 21 1 21 ∷
    tok (T.Number (pos 1)) 21 22 1 22 ∷
    tok (T.Mark W.RightBracket) 22 23 1 23 ∷
    tok (T.Mark W.Semicolon) 23 24 1 24 ∷
    node R.Process (15 ∷ 16 ∷ 17 ∷ []) ∷
    tok (T.Word W.ProcessWord) 25 32 1 26 ∷
    tok (T.Name (97 ∷ [])) 33 34 1 34 ∷
    node R.Block (18 ∷ 19 ∷ 28 ∷ 37 ∷ 45 ∷ []) ∷
    tok (T.Mark W.LeftBrace) 35 36 1 36 ∷
    node R.Stmt (20 ∷ 21 ∷ 22 ∷ 23 ∷ 24 ∷ 26 ∷ 27 ∷ []) ∷
    tok (T.Word W.SendWord) 37 41 1 38 ∷
    tok (T.Mark W.LeftParen) 41 42 1 42 ∷
    tok (T.Name (99 ∷ [])) 42 43 1 43 ∷
    tok (T.Mark W.Comma) 43 44 1 44 ∷
    node R.Unary (25 ∷ []) ∷
    tok (T.Number (pos 7)) 45 46 1 46 ∷
    tok (T.Mark W.RightParen) 46 47 1 47 ∷
    tok (T.Mark W.Semicolon) 47 48 1 48 ∷
    node R.Stmt (29 ∷ 30 ∷ 31 ∷ 32 ∷ 33 ∷ 35 ∷ 36 ∷ []) ∷
    tok (T.Word W.SendWord) 49 53 1 50 ∷
    tok (T.Mark W.LeftParen) 53 54 1 54 ∷
    tok (T.Name (99 ∷ [])) 54 55 1 55 ∷
    tok (T.Mark W.Comma) 55 56 1 56 ∷
    node R.Unary (34 ∷ []) ∷
    tok (T.Number (pos 8)) 57 58 1 58 ∷
    tok (T.Mark W.RightParen) 58 59 1 59 ∷
    tok (T.Mark W.Semicolon) 59 60 1 60 ∷
    node R.Stmt (38 ∷ 44 ∷ []) ∷
    node R.Change (39 ∷ 41 ∷ 42 ∷ []) ∷
    node R.Place (40 ∷ []) ∷
    tok (T.Name (120 ∷ [])) 61 62 1 62 ∷
    tok (T.Mark W.AssignMark) 63 64 1 64 ∷
    node R.Unary (43 ∷ []) ∷
    tok (T.Number (pos 2)) 65 66 1 66 ∷
    tok (T.Mark W.Semicolon) 66 67 1 67 ∷
    tok (T.Mark W.RightBrace) 68 69 1 69 ∷
    node R.Process (47 ∷ 48 ∷ 49 ∷ []) ∷
    tok (T.Word W.ProcessWord) 70 77 1 71 ∷
    tok (T.Name (98 ∷ [])) 78 79 1 79 ∷
    node R.Block (50 ∷ 51 ∷ 56 ∷ 64 ∷ 74 ∷ 84 ∷ []) ∷
    tok (T.Mark W.LeftBrace) 80 81 1 81 ∷
    node R.Local (52 ∷ 53 ∷ 55 ∷ []) ∷
    tok (T.Word W.IntWord) 82 85 1 83 ∷
    node R.Litem (54 ∷ []) ∷
    tok (T.Name (118 ∷ [])) 86 87 1 87 ∷
    tok (T.Mark W.Semicolon) 87 88 1 88 ∷
    node R.Stmt (57 ∷ 58 ∷ 59 ∷ 62 ∷ 63 ∷ []) ∷
    tok (T.Word W.PrintWord) 89 94 1 90 ∷
    tok (T.Mark W.LeftParen) 94 95 1 95 ∷
    node R.Unary (60 ∷ []) ∷
    node R.Place (61 ∷ []) ∷
    tok (T.Name (120 ∷ [])) 95 96 1 96 ∷
    tok (T.Mark W.RightParen) 96 97 1 97 ∷
    tok (T.Mark W.Semicolon) 97 98 1 98 ∷
    node R.Stmt (65 ∷ 67 ∷ 68 ∷ 73 ∷ []) ∷
    node R.Place (66 ∷ []) ∷
    tok (T.Name (118 ∷ [])) 99 100 1 100 ∷
    tok (T.Mark W.AssignMark) 101 102 1 102 ∷
    node R.Value (69 ∷ 70 ∷ 71 ∷ 72 ∷ []) ∷
    tok (T.Word W.RecvWord) 103 107 1 104 ∷
    tok (T.Mark W.LeftParen) 107 108 1 108 ∷
    tok (T.Name (99 ∷ [])) 108 109 1 109 ∷
    tok (T.Mark W.RightParen) 109 110 1 110 ∷
    tok (T.Mark W.Semicolon) 110 111 1 111 ∷
    node R.Stmt (75 ∷ 77 ∷ 78 ∷ 83 ∷ []) ∷
    node R.Place (76 ∷ []) ∷
    tok (T.Name (118 ∷ [])) 112 113 1 113 ∷
    tok (T.Mark W.AssignMark) 114 115 1 115 ∷
    node R.Value (79 ∷ 80 ∷ 81 ∷ 82 ∷ []) ∷
    tok (T.Word W.RecvWord) 116 120 1 117 ∷
    tok (T.Mark W.LeftParen) 120 121 1 121 ∷
    tok (T.Name (99 ∷ [])) 121 122 1 122 ∷
    tok (T.Mark W.RightParen) 122 123 1 123 ∷
    tok (T.Mark W.Semicolon) 123 124 1 124 ∷
    tok (T.Mark W.RightBrace) 125 126 1 126 ∷
    tok T.End 126 126 1 127 ∷ []

bounded_channel_accepted : faults_in (source_of (tree_of bounded_channel)) ≡ []
bounded_channel_accepted = refl

bounded_channel_core : core_of (source_of (tree_of bounded_channel)) ≡ record {
  exprs = E.Const (pos 7) ∷
      E.Const (pos 8) ∷
      E.Const (pos 2) ∷
      E.Const (pos 0) ∷
      E.Shared 0 ∷ [];
  stmts = stmt (place 1 38) 0 None (K.Send 0 0) ∷
      stmt (place 1 50) 0 None (K.Send 0 1) ∷
      stmt (place 1 62) 0 None (K.Set (G.Shared 0) 2) ∷
      stmt (place 1 69) 0 None (K.End) ∷
      stmt (place 1 87) 1 None (K.Set (G.Local 0) 3) ∷
      stmt (place 1 90) 1 None (K.Print 4) ∷
      stmt (place 1 100) 1 None (K.Recv 0 0) ∷
      stmt (place 1 113) 1 None (K.Recv 0 0) ∷
      stmt (place 1 126) 1 None (K.End) ∷ [];
  bodies = record { name = (97 ∷ []); process = true; params = 0; value = false; cells = 0; locals = []; top = (0 ∷ 1 ∷ 2 ∷ 3 ∷ []); first = 0; end = 4 } ∷
      record { name = (98 ∷ []); process = true; params = 0; value = false; cells = 1; locals = (record { name = (118 ∷ []); base = 0; len = None } ∷ []); top = (4 ∷ 5 ∷ 6 ∷ 7 ∷ 8 ∷ []); first = 4; end = 9 } ∷ [];
  functions = 0;
  shared = (record { name = (120 ∷ []); base = 0; len = None } ∷ []);
  starts = ((pos 0) ∷ []);
  sems = [];
  chans = (record { name = (99 ∷ []); capacity = 1 } ∷ []);
}
bounded_channel_core = refl

-- shared int a[2]; process p { a[0] = 1; } process q { a[1] = 2; }
abbrev array_cells : List Node
array_cells =
    node R.Source (1 ∷ 10 ∷ 28 ∷ 46 ∷ []) ∷
    node R.Shared (2 ∷ 3 ∷ 4 ∷ 9 ∷ []) ∷
    tok (T.Word W.SharedWord) 0 6 1 1 ∷
    tok (T.Word W.IntWord) 7 10 1 8 ∷
    node R.Sitem (5 ∷ 6 ∷ 7 ∷ 8 ∷ []) ∷
    tok (T.Name (97 ∷ [])) 11 12 1 12 ∷
    tok (T.Mark W.LeftBracket) 12 13 1 13 ∷
    tok (T.Number (pos 2)) 13 14 1 14 ∷
    tok (T.Mark W.RightBracket) 14 15 1 15 ∷
    tok (T.Mark W.Semicolon) 15 16 1 16 ∷
    node R.Process (11 ∷ 12 ∷ 13 ∷ []) ∷
    tok (T.Word W.ProcessWord) 17 24 1 18 ∷
    tok (T.Name (112 ∷ [])) 25 26 1 26 ∷
    node R.Block (14 ∷ 15 ∷ 27 ∷ []) ∷
    tok (T.Mark W.LeftBrace) 27 28 1 28 ∷
    node R.Stmt (16 ∷ 26 ∷ []) ∷
    node R.Change (17 ∷ 23 ∷ 24 ∷ []) ∷
    node R.Place (18 ∷ 19 ∷ 20 ∷ 22 ∷ []) ∷
    tok (T.Name (97 ∷ [])) 29 30 1 30 ∷
    tok (T.Mark W.LeftBracket) 30 31 1 31 ∷
    node R.Unary (21 ∷ []) ∷
    tok (T.Number (pos 0)) 31 32 1 32 ∷
    tok (T.Mark W.RightBracket) 32 33 1 33 ∷
    tok (T.Mark W.AssignMark) 34 35 1 35 ∷
    node R.Unary (25 ∷ []) ∷
    tok (T.Number (pos 1)) 36 37 1 37 ∷
    tok (T.Mark W.Semicolon) 37 38 1 38 ∷
    tok (T.Mark W.RightBrace) 39 40 1 40 ∷
    node R.Process (29 ∷ 30 ∷ 31 ∷ []) ∷
    tok (T.Word W.ProcessWord) 41 48 1 42 ∷
    tok (T.Name (113 ∷ [])) 49 50 1 50 ∷
    node R.Block (32 ∷ 33 ∷ 45 ∷ []) ∷
    tok (T.Mark W.LeftBrace) 51 52 1 52 ∷
    node R.Stmt (34 ∷ 44 ∷ []) ∷
    node R.Change (35 ∷ 41 ∷ 42 ∷ []) ∷
    node R.Place (36 ∷ 37 ∷ 38 ∷ 40 ∷ []) ∷
    tok (T.Name (97 ∷ [])) 53 54 1 54 ∷
    tok (T.Mark W.LeftBracket) 54 55 1 55 ∷
    node R.Unary (39 ∷ []) ∷
    tok (T.Number (pos 1)) 55 56 1 56 ∷
    tok (T.Mark W.RightBracket) 56 57 1 57 ∷
    tok (T.Mark W.AssignMark) 58 59 1 59 ∷
    node R.Unary (43 ∷ []) ∷
    tok (T.Number (pos 2)) 60 61 1 61 ∷
    tok (T.Mark W.Semicolon) 61 62 1 62 ∷
    tok (T.Mark W.RightBrace) 63 64 1 64 ∷
    tok T.End 64 64 1 65 ∷ []

array_cells_accepted : faults_in (source_of (tree_of array_cells)) ≡ []
array_cells_accepted = refl

array_cells_core : core_of (source_of (tree_of array_cells)) ≡ record {
  exprs = E.Const (pos 0) ∷
      E.Const (pos 1) ∷
      E.Const (pos 1) ∷
      E.Const (pos 2) ∷ [];
  stmts = stmt (place 1 30) 0 None (K.Set (G.SharedAt 0 2 0) 1) ∷
      stmt (place 1 40) 0 None (K.End) ∷
      stmt (place 1 54) 1 None (K.Set (G.SharedAt 0 2 2) 3) ∷
      stmt (place 1 64) 1 None (K.End) ∷ [];
  bodies = record { name = (112 ∷ []); process = true; params = 0; value = false; cells = 0; locals = []; top = (0 ∷ 1 ∷ []); first = 0; end = 2 } ∷
      record { name = (113 ∷ []); process = true; params = 0; value = false; cells = 0; locals = []; top = (2 ∷ 3 ∷ []); first = 2; end = 4 } ∷ [];
  functions = 0;
  shared = (record { name = (97 ∷ []); base = 0; len = (Some 2) } ∷ []);
  starts = ((pos 0) ∷ (pos 0) ∷ []);
  sems = [];
  chans = [];
}
array_cells_core = refl

-- shared int x, y; sem s = 1; process p { P(s); if (y) { print(x); } } process q { x = 5; }
abbrev unread_snapshot : List Node
unread_snapshot =
    node R.Source (1 ∷ 10 ∷ 16 ∷ 47 ∷ 61 ∷ []) ∷
    node R.Shared (2 ∷ 3 ∷ 4 ∷ 6 ∷ 7 ∷ 9 ∷ []) ∷
    tok (T.Word W.SharedWord) 0 6 1 1 ∷
    tok (T.Word W.IntWord) 7 10 1 8 ∷
    node R.Sitem (5 ∷ []) ∷
    tok (T.Name (120 ∷ [])) 11 12 1 12 ∷
    tok (T.Mark W.Comma) 12 13 1 13 ∷
    node R.Sitem (8 ∷ []) ∷
    tok (T.Name (121 ∷ [])) 14 15 1 15 ∷
    tok (T.Mark W.Semicolon) 15 16 1 16 ∷
    node R.Sems (11 ∷ 12 ∷ 13 ∷ 14 ∷ 15 ∷ []) ∷
    tok (T.Word W.SemWord) 17 20 1 18 ∷
    tok (T.Name (115 ∷ [])) 21 22 1 22 ∷
    tok (T.Mark W.AssignMark) 23 24 1 24 ∷
    tok (T.Number (pos 1)) 25 26 1 26 ∷
    tok (T.Mark W.Semicolon) 26 27 1 27 ∷
    node R.Process (17 ∷ 18 ∷ 19 ∷ []) ∷
    tok (T.Word W.ProcessWord) 28 35 1 29 ∷
    tok (T.Name (112 ∷ [])) 36 37 1 37 ∷
    node R.Block (20 ∷ 21 ∷ 27 ∷ 46 ∷ []) ∷
    tok (T.Mark W.LeftBrace) 38 39 1 39 ∷
    node R.Stmt (22 ∷ 23 ∷ 24 ∷ 25 ∷ 26 ∷ []) ∷
    tok (T.Word W.TakeWord) 40 41 1 41 ∷
    tok (T.Mark W.LeftParen) 41 42 1 42 ∷
    tok (T.Name (115 ∷ [])) 42 43 1 43 ∷
    tok (T.Mark W.RightParen) 43 44 1 44 ∷
    tok (T.Mark W.Semicolon) 44 45 1 45 ∷
    node R.Stmt (28 ∷ 29 ∷ 30 ∷ 33 ∷ 34 ∷ []) ∷
    tok (T.Word W.IfWord) 46 48 1 47 ∷
    tok (T.Mark W.LeftParen) 49 50 1 50 ∷
    node R.Unary (31 ∷ []) ∷
    node R.Place (32 ∷ []) ∷
    tok (T.Name (121 ∷ [])) 50 51 1 51 ∷
    tok (T.Mark W.RightParen) 51 52 1 52 ∷
    node R.Stmt (35 ∷ []) ∷
    node R.Block (36 ∷ 37 ∷ 45 ∷ []) ∷
    tok (T.Mark W.LeftBrace) 53 54 1 54 ∷
    node R.Stmt (38 ∷ 39 ∷ 40 ∷ 43 ∷ 44 ∷ []) ∷
    tok (T.Word W.PrintWord) 55 60 1 56 ∷
    tok (T.Mark W.LeftParen) 60 61 1 61 ∷
    node R.Unary (41 ∷ []) ∷
    node R.Place (42 ∷ []) ∷
    tok (T.Name (120 ∷ [])) 61 62 1 62 ∷
    tok (T.Mark W.RightParen) 62 63 1 63 ∷
    tok (T.Mark W.Semicolon) 63 64 1 64 ∷
    tok (T.Mark W.RightBrace) 65 66 1 66 ∷
    tok (T.Mark W.RightBrace) 67 68 1 68 ∷
    node R.Process (48 ∷ 49 ∷ 50 ∷ []) ∷
    tok (T.Word W.ProcessWord) 69 76 1 70 ∷
    tok (T.Name (113 ∷ [])) 77 78 1 78 ∷
    node R.Block (51 ∷ 52 ∷ 60 ∷ []) ∷
    tok (T.Mark W.LeftBrace) 79 80 1 80 ∷
    node R.Stmt (53 ∷ 59 ∷ []) ∷
    node R.Change (54 ∷ 56 ∷ 57 ∷ []) ∷
    node R.Place (55 ∷ []) ∷
    tok (T.Name (120 ∷ [])) 81 82 1 82 ∷
    tok (T.Mark W.AssignMark) 83 84 1 84 ∷
    node R.Unary (58 ∷ []) ∷
    tok (T.Number (pos 5)) 85 86 1 86 ∷
    tok (T.Mark W.Semicolon) 86 87 1 87 ∷
    tok (T.Mark W.RightBrace) 88 89 1 89 ∷
    tok T.End 89 89 1 90 ∷ []

unread_snapshot_accepted : faults_in (source_of (tree_of unread_snapshot)) ≡ []
unread_snapshot_accepted = refl

unread_snapshot_core : core_of (source_of (tree_of unread_snapshot)) ≡ record {
  exprs = E.Shared 1 ∷
      E.Shared 0 ∷
      E.Const (pos 5) ∷ [];
  stmts = stmt (place 1 41) 0 None (K.P 0) ∷
      stmt (place 1 47) 0 None (K.If 0 (2 ∷ []) []) ∷
      stmt (place 1 56) 0 (Some 1) (K.Print 1) ∷
      stmt (place 1 68) 0 None (K.End) ∷
      stmt (place 1 82) 1 None (K.Set (G.Shared 0) 2) ∷
      stmt (place 1 89) 1 None (K.End) ∷ [];
  bodies = record { name = (112 ∷ []); process = true; params = 0; value = false; cells = 0; locals = []; top = (0 ∷ 1 ∷ 3 ∷ []); first = 0; end = 4 } ∷
      record { name = (113 ∷ []); process = true; params = 0; value = false; cells = 0; locals = []; top = (4 ∷ 5 ∷ []); first = 4; end = 6 } ∷ [];
  functions = 0;
  shared = (record { name = (120 ∷ []); base = 0; len = None } ∷ record { name = (121 ∷ []); base = 1; len = None } ∷ []);
  starts = ((pos 0) ∷ (pos 0) ∷ []);
  sems = (record { name = (115 ∷ []); start = 1 } ∷ []);
  chans = [];
}
unread_snapshot_core = refl

-- shared int x; void f() { x = 4; } process a { x = 1; f(); print(x); }
abbrev callee_write : List Node
callee_write =
    node R.Source (1 ∷ 7 ∷ 23 ∷ 51 ∷ []) ∷
    node R.Shared (2 ∷ 3 ∷ 4 ∷ 6 ∷ []) ∷
    tok (T.Word W.SharedWord) 0 6 1 1 ∷
    tok (T.Word W.IntWord) 7 10 1 8 ∷
    node R.Sitem (5 ∷ []) ∷
    tok (T.Name (120 ∷ [])) 11 12 1 12 ∷
    tok (T.Mark W.Semicolon) 12 13 1 13 ∷
    node R.Function (8 ∷ 9 ∷ 10 ∷ 11 ∷ 12 ∷ []) ∷
    tok (T.Word W.VoidWord) 14 18 1 15 ∷
    tok (T.Name (102 ∷ [])) 19 20 1 20 ∷
    tok (T.Mark W.LeftParen) 20 21 1 21 ∷
    tok (T.Mark W.RightParen) 21 22 1 22 ∷
    node R.Block (13 ∷ 14 ∷ 22 ∷ []) ∷
    tok (T.Mark W.LeftBrace) 23 24 1 24 ∷
    node R.Stmt (15 ∷ 21 ∷ []) ∷
    node R.Change (16 ∷ 18 ∷ 19 ∷ []) ∷
    node R.Place (17 ∷ []) ∷
    tok (T.Name (120 ∷ [])) 25 26 1 26 ∷
    tok (T.Mark W.AssignMark) 27 28 1 28 ∷
    node R.Unary (20 ∷ []) ∷
    tok (T.Number (pos 4)) 29 30 1 30 ∷
    tok (T.Mark W.Semicolon) 30 31 1 31 ∷
    tok (T.Mark W.RightBrace) 32 33 1 33 ∷
    node R.Process (24 ∷ 25 ∷ 26 ∷ []) ∷
    tok (T.Word W.ProcessWord) 34 41 1 35 ∷
    tok (T.Name (97 ∷ [])) 42 43 1 43 ∷
    node R.Block (27 ∷ 28 ∷ 36 ∷ 42 ∷ 50 ∷ []) ∷
    tok (T.Mark W.LeftBrace) 44 45 1 45 ∷
    node R.Stmt (29 ∷ 35 ∷ []) ∷
    node R.Change (30 ∷ 32 ∷ 33 ∷ []) ∷
    node R.Place (31 ∷ []) ∷
    tok (T.Name (120 ∷ [])) 46 47 1 47 ∷
    tok (T.Mark W.AssignMark) 48 49 1 49 ∷
    node R.Unary (34 ∷ []) ∷
    tok (T.Number (pos 1)) 50 51 1 51 ∷
    tok (T.Mark W.Semicolon) 51 52 1 52 ∷
    node R.Stmt (37 ∷ 41 ∷ []) ∷
    node R.Call (38 ∷ 39 ∷ 40 ∷ []) ∷
    tok (T.Name (102 ∷ [])) 53 54 1 54 ∷
    tok (T.Mark W.LeftParen) 54 55 1 55 ∷
    tok (T.Mark W.RightParen) 55 56 1 56 ∷
    tok (T.Mark W.Semicolon) 56 57 1 57 ∷
    node R.Stmt (43 ∷ 44 ∷ 45 ∷ 48 ∷ 49 ∷ []) ∷
    tok (T.Word W.PrintWord) 58 63 1 59 ∷
    tok (T.Mark W.LeftParen) 63 64 1 64 ∷
    node R.Unary (46 ∷ []) ∷
    node R.Place (47 ∷ []) ∷
    tok (T.Name (120 ∷ [])) 64 65 1 65 ∷
    tok (T.Mark W.RightParen) 65 66 1 66 ∷
    tok (T.Mark W.Semicolon) 66 67 1 67 ∷
    tok (T.Mark W.RightBrace) 68 69 1 69 ∷
    tok T.End 69 69 1 70 ∷ []

callee_write_accepted : faults_in (source_of (tree_of callee_write)) ≡ []
callee_write_accepted = refl

callee_write_core : core_of (source_of (tree_of callee_write)) ≡ record {
  exprs = E.Const (pos 4) ∷
      E.Const (pos 1) ∷
      E.Shared 0 ∷ [];
  stmts = stmt (place 1 26) 0 None (K.Set (G.Shared 0) 0) ∷
      stmt (place 1 33) 0 None (K.Return None) ∷
      stmt (place 1 47) 1 None (K.Set (G.Shared 0) 1) ∷
      stmt (place 1 54) 1 None (K.Call 0 [] None) ∷
      stmt (place 1 59) 1 None (K.Print 2) ∷
      stmt (place 1 69) 1 None (K.End) ∷ [];
  bodies = record { name = (102 ∷ []); process = false; params = 0; value = false; cells = 0; locals = []; top = (0 ∷ 1 ∷ []); first = 0; end = 2 } ∷
      record { name = (97 ∷ []); process = true; params = 0; value = false; cells = 0; locals = []; top = (2 ∷ 3 ∷ 4 ∷ 5 ∷ []); first = 2; end = 6 } ∷ [];
  functions = 1;
  shared = (record { name = (120 ∷ []); base = 0; len = None } ∷ []);
  starts = ((pos 0) ∷ []);
  sems = [];
  chans = [];
}
callee_write_core = refl
