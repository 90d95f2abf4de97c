-- The tables of each form of the language, evaluated.
use Rattle.std.proofs.Common.{◌≡◌, refl, List, [], ◌∷◌, Some, None, pos, negsuc, true, false, decimal}
use Rattle.ppd_ast.specs.declared.program.Op.TheVariants as O
use Rattle.ppd_ast.specs.declared.program.Expr.TheVariants as E
use Rattle.ppd_ast.specs.declared.program.Target.TheVariants as G
use Rattle.ppd_ast.specs.declared.program.Kind.TheVariants as K
use Rattle.ppd_parse.specs.declared.token.Kind.TheVariants as W
use Rattle.ppd_parse.specs.declared.token.TokenKind.TheVariants as T
use Rattle.ppd_parse.specs.declared.symbol.Rule.TheVariants as R
use Rattle.ppd_parse.specs.declared.node.Node.{Node}
use Rattle.ppd_parse.specs.Tree.{tree_of}
use Rattle.ppd_check.specs.Sources.{core_of, faults_in}
use Rattle.ppd_check_names.specs.Reading.{source_of}
use Rattle.rows_programs.proofs.CoreForm.RowTables.{place, node, tok, stmt}

-- chan c[4]; shared int g[3], h = -7; int f(int a) { return f(a); } process p { int b[2]; g[1] += 2; b[0]--; b[b[1]] -= h; g[0] = f(1); h = recv(c); b[1] = recv(c); int k = f(2); k = f(3); f(4); ; { } }
abbrev forms : List Node
forms =
    node R.Source (1 ∷ 8 ∷ 23 ∷ 44 ∷ 177 ∷ []) ∷
    node R.Chans (2 ∷ 3 ∷ 4 ∷ 5 ∷ 6 ∷ 7 ∷ []) ∷
    tok (T.Word W.ChanWord) 0 4 1 1 ∷
    tok (T.Name (99 ∷ [])) 5 6 1 6 ∷
    tok (T.Mark W.LeftBracket) 6 7 1 7 ∷
    tok (T.Number (pos 4)) 7 8 1 8 ∷
    tok (T.Mark W.RightBracket) 8 9 1 9 ∷
    tok (T.Mark W.Semicolon) 9 10 1 10 ∷
    node R.Shared (9 ∷ 10 ∷ 11 ∷ 16 ∷ 17 ∷ 22 ∷ []) ∷
    tok (T.Word W.SharedWord) 11 17 1 12 ∷
    tok (T.Word W.IntWord) 18 21 1 19 ∷
    node R.Sitem (12 ∷ 13 ∷ 14 ∷ 15 ∷ []) ∷
    tok (T.Name (103 ∷ [])) 22 23 1 23 ∷
    tok (T.Mark W.LeftBracket) 23 24 1 24 ∷
    tok (T.Number (pos 3)) 24 25 1 25 ∷
    tok (T.Mark W.RightBracket) 25 26 1 26 ∷
    tok (T.Mark W.Comma) 26 27 1 27 ∷
    node R.Sitem (18 ∷ 19 ∷ 20 ∷ 21 ∷ []) ∷
    tok (T.Name (104 ∷ [])) 28 29 1 29 ∷
    tok (T.Mark W.AssignMark) 30 31 1 31 ∷
    tok (T.Mark W.MinusMark) 32 33 1 33 ∷
    tok (T.Number (pos 7)) 33 34 1 34 ∷
    tok (T.Mark W.Semicolon) 34 35 1 35 ∷
    node R.Function (24 ∷ 25 ∷ 26 ∷ 27 ∷ 30 ∷ 31 ∷ []) ∷
    tok (T.Word W.IntWord) 36 39 1 37 ∷
    tok (T.Name (102 ∷ [])) 40 41 1 41 ∷
    tok (T.Mark W.LeftParen) 41 42 1 42 ∷
    node R.Params (28 ∷ 29 ∷ []) ∷
    tok (T.Word W.IntWord) 42 45 1 43 ∷
    tok (T.Name (97 ∷ [])) 46 47 1 47 ∷
    tok (T.Mark W.RightParen) 47 48 1 48 ∷
    node R.Block (32 ∷ 33 ∷ 43 ∷ []) ∷
    tok (T.Mark W.LeftBrace) 49 50 1 50 ∷
    node R.Stmt (34 ∷ 35 ∷ 42 ∷ []) ∷
    tok (T.Word W.ReturnWord) 51 57 1 52 ∷
    node R.Call (36 ∷ 37 ∷ 38 ∷ 41 ∷ []) ∷
    tok (T.Name (102 ∷ [])) 58 59 1 59 ∷
    tok (T.Mark W.LeftParen) 59 60 1 60 ∷
    node R.Unary (39 ∷ []) ∷
    node R.Place (40 ∷ []) ∷
    tok (T.Name (97 ∷ [])) 60 61 1 61 ∷
    tok (T.Mark W.RightParen) 61 62 1 62 ∷
    tok (T.Mark W.Semicolon) 62 63 1 63 ∷
    tok (T.Mark W.RightBrace) 64 65 1 65 ∷
    node R.Process (45 ∷ 46 ∷ 47 ∷ []) ∷
    tok (T.Word W.ProcessWord) 66 73 1 67 ∷
    tok (T.Name (112 ∷ [])) 74 75 1 75 ∷
    node R.Block (48 ∷ 49 ∷ 57 ∷ 69 ∷ 79 ∷ 97 ∷ 113 ∷ 123 ∷ 137 ∷ 150 ∷ 162 ∷ 170 ∷ 172 ∷ 176 ∷ []) ∷
    tok (T.Mark W.LeftBrace) 76 77 1 77 ∷
    node R.Local (50 ∷ 51 ∷ 56 ∷ []) ∷
    tok (T.Word W.IntWord) 78 81 1 79 ∷
    node R.Litem (52 ∷ 53 ∷ 54 ∷ 55 ∷ []) ∷
    tok (T.Name (98 ∷ [])) 82 83 1 83 ∷
    tok (T.Mark W.LeftBracket) 83 84 1 84 ∷
    tok (T.Number (pos 2)) 84 85 1 85 ∷
    tok (T.Mark W.RightBracket) 85 86 1 86 ∷
    tok (T.Mark W.Semicolon) 86 87 1 87 ∷
    node R.Stmt (58 ∷ 68 ∷ []) ∷
    node R.Change (59 ∷ 65 ∷ 66 ∷ []) ∷
    node R.Place (60 ∷ 61 ∷ 62 ∷ 64 ∷ []) ∷
    tok (T.Name (103 ∷ [])) 88 89 1 89 ∷
    tok (T.Mark W.LeftBracket) 89 90 1 90 ∷
    node R.Unary (63 ∷ []) ∷
    tok (T.Number (pos 1)) 90 91 1 91 ∷
    tok (T.Mark W.RightBracket) 91 92 1 92 ∷
    tok (T.Mark W.AddMark) 93 95 1 94 ∷
    node R.Unary (67 ∷ []) ∷
    tok (T.Number (pos 2)) 96 97 1 97 ∷
    tok (T.Mark W.Semicolon) 97 98 1 98 ∷
    node R.Stmt (70 ∷ 78 ∷ []) ∷
    node R.Change (71 ∷ 77 ∷ []) ∷
    node R.Place (72 ∷ 73 ∷ 74 ∷ 76 ∷ []) ∷
    tok (T.Name (98 ∷ [])) 99 100 1 100 ∷
    tok (T.Mark W.LeftBracket) 100 101 1 101 ∷
    node R.Unary (75 ∷ []) ∷
    tok (T.Number (pos 0)) 101 102 1 102 ∷
    tok (T.Mark W.RightBracket) 102 103 1 103 ∷
    tok (T.Mark W.DecreaseMark) 103 105 1 104 ∷
    tok (T.Mark W.Semicolon) 105 106 1 106 ∷
    node R.Stmt (80 ∷ 96 ∷ []) ∷
    node R.Change (81 ∷ 92 ∷ 93 ∷ []) ∷
    node R.Place (82 ∷ 83 ∷ 84 ∷ 91 ∷ []) ∷
    tok (T.Name (98 ∷ [])) 107 108 1 108 ∷
    tok (T.Mark W.LeftBracket) 108 109 1 109 ∷
    node R.Unary (85 ∷ []) ∷
    node R.Place (86 ∷ 87 ∷ 88 ∷ 90 ∷ []) ∷
    tok (T.Name (98 ∷ [])) 109 110 1 110 ∷
    tok (T.Mark W.LeftBracket) 110 111 1 111 ∷
    node R.Unary (89 ∷ []) ∷
    tok (T.Number (pos 1)) 111 112 1 112 ∷
    tok (T.Mark W.RightBracket) 112 113 1 113 ∷
    tok (T.Mark W.RightBracket) 113 114 1 114 ∷
    tok (T.Mark W.SubtractMark) 115 117 1 116 ∷
    node R.Unary (94 ∷ []) ∷
    node R.Place (95 ∷ []) ∷
    tok (T.Name (104 ∷ [])) 118 119 1 119 ∷
    tok (T.Mark W.Semicolon) 119 120 1 120 ∷
    node R.Stmt (98 ∷ 104 ∷ 105 ∷ 112 ∷ []) ∷
    node R.Place (99 ∷ 100 ∷ 101 ∷ 103 ∷ []) ∷
    tok (T.Name (103 ∷ [])) 121 122 1 122 ∷
    tok (T.Mark W.LeftBracket) 122 123 1 123 ∷
    node R.Unary (102 ∷ []) ∷
    tok (T.Number (pos 0)) 123 124 1 124 ∷
    tok (T.Mark W.RightBracket) 124 125 1 125 ∷
    tok (T.Mark W.AssignMark) 126 127 1 127 ∷
    node R.Value (106 ∷ []) ∷
    node R.Call (107 ∷ 108 ∷ 109 ∷ 111 ∷ []) ∷
    tok (T.Name (102 ∷ [])) 128 129 1 129 ∷
    tok (T.Mark W.LeftParen) 129 130 1 130 ∷
    node R.Unary (110 ∷ []) ∷
    tok (T.Number (pos 1)) 130 131 1 131 ∷
    tok (T.Mark W.RightParen) 131 132 1 132 ∷
    tok (T.Mark W.Semicolon) 132 133 1 133 ∷
    node R.Stmt (114 ∷ 116 ∷ 117 ∷ 122 ∷ []) ∷
    node R.Place (115 ∷ []) ∷
    tok (T.Name (104 ∷ [])) 134 135 1 135 ∷
    tok (T.Mark W.AssignMark) 136 137 1 137 ∷
    node R.Value (118 ∷ 119 ∷ 120 ∷ 121 ∷ []) ∷
    tok (T.Word W.RecvWord) 138 142 1 139 ∷
    tok (T.Mark W.LeftParen) 142 143 1 143 ∷
    tok (T.Name (99 ∷ [])) 143 144 1 144 ∷
    tok (T.Mark W.RightParen) 144 145 1 145 ∷
    tok (T.Mark W.Semicolon) 145 146 1 146 ∷
    node R.Stmt (124 ∷ 130 ∷ 131 ∷ 136 ∷ []) ∷
    node R.Place (125 ∷ 126 ∷ 127 ∷ 129 ∷ []) ∷
    tok (T.Name (98 ∷ [])) 147 148 1 148 ∷
    tok (T.Mark W.LeftBracket) 148 149 1 149 ∷
    node R.Unary (128 ∷ []) ∷
    tok (T.Number (pos 1)) 149 150 1 150 ∷
    tok (T.Mark W.RightBracket) 150 151 1 151 ∷
    tok (T.Mark W.AssignMark) 152 153 1 153 ∷
    node R.Value (132 ∷ 133 ∷ 134 ∷ 135 ∷ []) ∷
    tok (T.Word W.RecvWord) 154 158 1 155 ∷
    tok (T.Mark W.LeftParen) 158 159 1 159 ∷
    tok (T.Name (99 ∷ [])) 159 160 1 160 ∷
    tok (T.Mark W.RightParen) 160 161 1 161 ∷
    tok (T.Mark W.Semicolon) 161 162 1 162 ∷
    node R.Local (138 ∷ 139 ∷ 149 ∷ []) ∷
    tok (T.Word W.IntWord) 163 166 1 164 ∷
    node R.Litem (140 ∷ 141 ∷ 142 ∷ []) ∷
    tok (T.Name (107 ∷ [])) 167 168 1 168 ∷
    tok (T.Mark W.AssignMark) 169 170 1 170 ∷
    node R.Value (143 ∷ []) ∷
    node R.Call (144 ∷ 145 ∷ 146 ∷ 148 ∷ []) ∷
    tok (T.Name (102 ∷ [])) 171 172 1 172 ∷
    tok (T.Mark W.LeftParen) 172 173 1 173 ∷
    node R.Unary (147 ∷ []) ∷
    tok (T.Number (pos 2)) 173 174 1 174 ∷
    tok (T.Mark W.RightParen) 174 175 1 175 ∷
    tok (T.Mark W.Semicolon) 175 176 1 176 ∷
    node R.Stmt (151 ∷ 153 ∷ 154 ∷ 161 ∷ []) ∷
    node R.Place (152 ∷ []) ∷
    tok (T.Name (107 ∷ [])) 177 178 1 178 ∷
    tok (T.Mark W.AssignMark) 179 180 1 180 ∷
    node R.Value (155 ∷ []) ∷
    node R.Call (156 ∷ 157 ∷ 158 ∷ 160 ∷ []) ∷
    tok (T.Name (102 ∷ [])) 181 182 1 182 ∷
    tok (T.Mark W.LeftParen) 182 183 1 183 ∷
    node R.Unary (159 ∷ []) ∷
    tok (T.Number (pos 3)) 183 184 1 184 ∷
    tok (T.Mark W.RightParen) 184 185 1 185 ∷
    tok (T.Mark W.Semicolon) 185 186 1 186 ∷
    node R.Stmt (163 ∷ 169 ∷ []) ∷
    node R.Call (164 ∷ 165 ∷ 166 ∷ 168 ∷ []) ∷
    tok (T.Name (102 ∷ [])) 187 188 1 188 ∷
    tok (T.Mark W.LeftParen) 188 189 1 189 ∷
    node R.Unary (167 ∷ []) ∷
    tok (T.Number (pos 4)) 189 190 1 190 ∷
    tok (T.Mark W.RightParen) 190 191 1 191 ∷
    tok (T.Mark W.Semicolon) 191 192 1 192 ∷
    node R.Stmt (171 ∷ []) ∷
    tok (T.Mark W.Semicolon) 193 194 1 194 ∷
    node R.Stmt (173 ∷ []) ∷
    node R.Block (174 ∷ 175 ∷ []) ∷
    tok (T.Mark W.LeftBrace) 195 196 1 196 ∷
    tok (T.Mark W.RightBrace) 197 198 1 198 ∷
    tok (T.Mark W.RightBrace) 199 200 1 200 ∷
    tok T.End 200 200 1 201 ∷ []

forms_accepted : faults_in (source_of (tree_of forms)) ≡ []
forms_accepted = refl

forms_core : core_of (source_of (tree_of forms)) ≡ record {
  exprs = E.Local 0 ∷
      E.Local 1 ∷
      E.Const (pos 1) ∷
      E.Const (pos 1) ∷
      E.SharedAt 0 3 3 ∷
      E.Const (pos 2) ∷
      E.Two O.Add 4 5 ∷
      E.Const (pos 0) ∷
      E.Const (pos 0) ∷
      E.LocalAt 0 2 8 ∷
      E.Const (pos 1) ∷
      E.Two O.Sub 9 10 ∷
      E.Const (pos 1) ∷
      E.LocalAt 0 2 12 ∷
      E.Const (pos 1) ∷
      E.LocalAt 0 2 14 ∷
      E.LocalAt 0 2 15 ∷
      E.Shared 3 ∷
      E.Two O.Sub 16 17 ∷
      E.Const (pos 1) ∷
      E.Const (pos 0) ∷
      E.Local 2 ∷
      E.Local 3 ∷
      E.Const (pos 1) ∷
      E.Local 4 ∷
      E.Const (pos 2) ∷
      E.Const (pos 3) ∷
      E.Const (pos 4) ∷ [];
  stmts = stmt (place 1 52) 0 None (K.Call 0 (0 ∷ []) (Some 1)) ∷
      stmt (place 1 52) 0 None (K.Return (Some 1)) ∷
      stmt (place 1 83) 1 None (K.Zero 0 2) ∷
      stmt (place 1 89) 1 None (K.Set (G.SharedAt 0 3 2) 6) ∷
      stmt (place 1 100) 1 None (K.Set (G.LocalAt 0 2 7) 11) ∷
      stmt (place 1 108) 1 None (K.Set (G.LocalAt 0 2 13) 18) ∷
      stmt (place 1 122) 1 None (K.Call 0 (19 ∷ []) (Some 2)) ∷
      stmt (place 1 122) 1 None (K.Set (G.SharedAt 0 3 20) 21) ∷
      stmt (place 1 135) 1 None (K.Recv 0 3) ∷
      stmt (place 1 135) 1 None (K.Set (G.Shared 3) 22) ∷
      stmt (place 1 148) 1 None (K.Recv 0 4) ∷
      stmt (place 1 148) 1 None (K.Set (G.LocalAt 0 2 23) 24) ∷
      stmt (place 1 168) 1 None (K.Call 0 (25 ∷ []) (Some 5)) ∷
      stmt (place 1 178) 1 None (K.Call 0 (26 ∷ []) (Some 5)) ∷
      stmt (place 1 188) 1 None (K.Call 0 (27 ∷ []) None) ∷
      stmt (place 1 200) 1 None (K.End) ∷ [];
  bodies = record { name = (102 ∷ []); process = false; params = 1; value = true; cells = 2; locals = (record { name = (97 ∷ []); base = 0; len = None } ∷ record { name = 37 ∷ decimal 1; base = 1; len = None } ∷ []); top = (0 ∷ 1 ∷ []); first = 0; end = 2 } ∷
      record { name = (112 ∷ []); process = true; params = 0; value = false; cells = 6; locals = (record { name = (98 ∷ []); base = 0; len = (Some 2) } ∷ record { name = 37 ∷ decimal 1; base = 2; len = None } ∷ record { name = 37 ∷ decimal 2; base = 3; len = None } ∷ record { name = 37 ∷ decimal 3; base = 4; len = None } ∷ record { name = (107 ∷ []); base = 5; len = None } ∷ []); top = (2 ∷ 3 ∷ 4 ∷ 5 ∷ 6 ∷ 7 ∷ 8 ∷ 9 ∷ 10 ∷ 11 ∷ 12 ∷ 13 ∷ 14 ∷ 15 ∷ []); first = 2; end = 16 } ∷ [];
  functions = 1;
  shared = (record { name = (103 ∷ []); base = 0; len = (Some 3) } ∷ record { name = (104 ∷ []); base = 3; len = None } ∷ []);
  starts = ((pos 0) ∷ (pos 0) ∷ (pos 0) ∷ (negsuc 6) ∷ []);
  sems = [];
  chans = (record { name = (99 ∷ []); capacity = 4 } ∷ []);
}
forms_core = refl

-- process p { int i = 9; for (int i = i; i < 2; i++) { int i = i; assert(!i || -i); } for (; ; ) ; for (i = 1; i; ) if (i) i = 2; else { int j; } }
abbrev turns : List Node
turns =
    node R.Source (1 ∷ 118 ∷ []) ∷
    node R.Process (2 ∷ 3 ∷ 4 ∷ []) ∷
    tok (T.Word W.ProcessWord) 0 7 1 1 ∷
    tok (T.Name (112 ∷ [])) 8 9 1 9 ∷
    node R.Block (5 ∷ 6 ∷ 15 ∷ 69 ∷ 77 ∷ 117 ∷ []) ∷
    tok (T.Mark W.LeftBrace) 10 11 1 11 ∷
    node R.Local (7 ∷ 8 ∷ 14 ∷ []) ∷
    tok (T.Word W.IntWord) 12 15 1 13 ∷
    node R.Litem (9 ∷ 10 ∷ 11 ∷ []) ∷
    tok (T.Name (105 ∷ [])) 16 17 1 17 ∷
    tok (T.Mark W.AssignMark) 18 19 1 19 ∷
    node R.Value (12 ∷ []) ∷
    node R.Unary (13 ∷ []) ∷
    tok (T.Number (pos 9)) 20 21 1 21 ∷
    tok (T.Mark W.Semicolon) 21 22 1 22 ∷
    node R.Stmt (16 ∷ 17 ∷ 18 ∷ 19 ∷ 20 ∷ 21 ∷ 24 ∷ 25 ∷ 32 ∷ 33 ∷ 37 ∷ 38 ∷ []) ∷
    tok (T.Word W.ForWord) 23 26 1 24 ∷
    tok (T.Mark W.LeftParen) 27 28 1 28 ∷
    tok (T.Word W.IntWord) 28 31 1 29 ∷
    tok (T.Name (105 ∷ [])) 32 33 1 33 ∷
    tok (T.Mark W.AssignMark) 34 35 1 35 ∷
    node R.Unary (22 ∷ []) ∷
    node R.Place (23 ∷ []) ∷
    tok (T.Name (105 ∷ [])) 36 37 1 37 ∷
    tok (T.Mark W.Semicolon) 37 38 1 38 ∷
    node R.Binary (26 ∷ 29 ∷ 30 ∷ []) ∷
    node R.Unary (27 ∷ []) ∷
    node R.Place (28 ∷ []) ∷
    tok (T.Name (105 ∷ [])) 39 40 1 40 ∷
    tok (T.Mark W.LessMark) 41 42 1 42 ∷
    node R.Unary (31 ∷ []) ∷
    tok (T.Number (pos 2)) 43 44 1 44 ∷
    tok (T.Mark W.Semicolon) 44 45 1 45 ∷
    node R.Change (34 ∷ 36 ∷ []) ∷
    node R.Place (35 ∷ []) ∷
    tok (T.Name (105 ∷ [])) 46 47 1 47 ∷
    tok (T.Mark W.IncreaseMark) 47 49 1 48 ∷
    tok (T.Mark W.RightParen) 49 50 1 50 ∷
    node R.Stmt (39 ∷ []) ∷
    node R.Block (40 ∷ 41 ∷ 51 ∷ 68 ∷ []) ∷
    tok (T.Mark W.LeftBrace) 51 52 1 52 ∷
    node R.Local (42 ∷ 43 ∷ 50 ∷ []) ∷
    tok (T.Word W.IntWord) 53 56 1 54 ∷
    node R.Litem (44 ∷ 45 ∷ 46 ∷ []) ∷
    tok (T.Name (105 ∷ [])) 57 58 1 58 ∷
    tok (T.Mark W.AssignMark) 59 60 1 60 ∷
    node R.Value (47 ∷ []) ∷
    node R.Unary (48 ∷ []) ∷
    node R.Place (49 ∷ []) ∷
    tok (T.Name (105 ∷ [])) 61 62 1 62 ∷
    tok (T.Mark W.Semicolon) 62 63 1 63 ∷
    node R.Stmt (52 ∷ 53 ∷ 54 ∷ 66 ∷ 67 ∷ []) ∷
    tok (T.Word W.AssertWord) 64 70 1 65 ∷
    tok (T.Mark W.LeftParen) 70 71 1 71 ∷
    node R.Binary (55 ∷ 60 ∷ 61 ∷ []) ∷
    node R.Unary (56 ∷ 57 ∷ []) ∷
    tok (T.Mark W.NotMark) 71 72 1 72 ∷
    node R.Unary (58 ∷ []) ∷
    node R.Place (59 ∷ []) ∷
    tok (T.Name (105 ∷ [])) 72 73 1 73 ∷
    tok (T.Mark W.OrMark) 74 76 1 75 ∷
    node R.Unary (62 ∷ 63 ∷ []) ∷
    tok (T.Mark W.MinusMark) 77 78 1 78 ∷
    node R.Unary (64 ∷ []) ∷
    node R.Place (65 ∷ []) ∷
    tok (T.Name (105 ∷ [])) 78 79 1 79 ∷
    tok (T.Mark W.RightParen) 79 80 1 80 ∷
    tok (T.Mark W.Semicolon) 80 81 1 81 ∷
    tok (T.Mark W.RightBrace) 82 83 1 83 ∷
    node R.Stmt (70 ∷ 71 ∷ 72 ∷ 73 ∷ 74 ∷ 75 ∷ []) ∷
    tok (T.Word W.ForWord) 84 87 1 85 ∷
    tok (T.Mark W.LeftParen) 88 89 1 89 ∷
    tok (T.Mark W.Semicolon) 89 90 1 90 ∷
    tok (T.Mark W.Semicolon) 91 92 1 92 ∷
    tok (T.Mark W.RightParen) 93 94 1 94 ∷
    node R.Stmt (76 ∷ []) ∷
    tok (T.Mark W.Semicolon) 95 96 1 96 ∷
    node R.Stmt (78 ∷ 79 ∷ 80 ∷ 86 ∷ 87 ∷ 90 ∷ 91 ∷ 92 ∷ []) ∷
    tok (T.Word W.ForWord) 97 100 1 98 ∷
    tok (T.Mark W.LeftParen) 101 102 1 102 ∷
    node R.Change (81 ∷ 83 ∷ 84 ∷ []) ∷
    node R.Place (82 ∷ []) ∷
    tok (T.Name (105 ∷ [])) 102 103 1 103 ∷
    tok (T.Mark W.AssignMark) 104 105 1 105 ∷
    node R.Unary (85 ∷ []) ∷
    tok (T.Number (pos 1)) 106 107 1 107 ∷
    tok (T.Mark W.Semicolon) 107 108 1 108 ∷
    node R.Unary (88 ∷ []) ∷
    node R.Place (89 ∷ []) ∷
    tok (T.Name (105 ∷ [])) 109 110 1 110 ∷
    tok (T.Mark W.Semicolon) 110 111 1 111 ∷
    tok (T.Mark W.RightParen) 112 113 1 113 ∷
    node R.Stmt (93 ∷ 94 ∷ 95 ∷ 98 ∷ 99 ∷ 107 ∷ 108 ∷ []) ∷
    tok (T.Word W.IfWord) 114 116 1 115 ∷
    tok (T.Mark W.LeftParen) 117 118 1 118 ∷
    node R.Unary (96 ∷ []) ∷
    node R.Place (97 ∷ []) ∷
    tok (T.Name (105 ∷ [])) 118 119 1 119 ∷
    tok (T.Mark W.RightParen) 119 120 1 120 ∷
    node R.Stmt (100 ∷ 106 ∷ []) ∷
    node R.Change (101 ∷ 103 ∷ 104 ∷ []) ∷
    node R.Place (102 ∷ []) ∷
    tok (T.Name (105 ∷ [])) 121 122 1 122 ∷
    tok (T.Mark W.AssignMark) 123 124 1 124 ∷
    node R.Unary (105 ∷ []) ∷
    tok (T.Number (pos 2)) 125 126 1 126 ∷
    tok (T.Mark W.Semicolon) 126 127 1 127 ∷
    tok (T.Word W.ElseWord) 128 132 1 129 ∷
    node R.Stmt (109 ∷ []) ∷
    node R.Block (110 ∷ 111 ∷ 116 ∷ []) ∷
    tok (T.Mark W.LeftBrace) 133 134 1 134 ∷
    node R.Local (112 ∷ 113 ∷ 115 ∷ []) ∷
    tok (T.Word W.IntWord) 135 138 1 136 ∷
    node R.Litem (114 ∷ []) ∷
    tok (T.Name (106 ∷ [])) 139 140 1 140 ∷
    tok (T.Mark W.Semicolon) 140 141 1 141 ∷
    tok (T.Mark W.RightBrace) 142 143 1 143 ∷
    tok (T.Mark W.RightBrace) 144 145 1 145 ∷
    tok T.End 145 145 1 146 ∷ []

turns_accepted : faults_in (source_of (tree_of turns)) ≡ []
turns_accepted = refl

turns_core : core_of (source_of (tree_of turns)) ≡ record {
  exprs = E.Const (pos 9) ∷
      E.Local 1 ∷
      E.Local 1 ∷
      E.Const (pos 2) ∷
      E.Two O.Lt 2 3 ∷
      E.Local 2 ∷
      E.Local 2 ∷
      E.Not 6 ∷
      E.Local 2 ∷
      E.Neg 8 ∷
      E.Or 7 9 ∷
      E.Local 1 ∷
      E.Const (pos 1) ∷
      E.Two O.Add 11 12 ∷
      E.Const (pos 1) ∷
      E.Const (pos 1) ∷
      E.Local 0 ∷
      E.Local 0 ∷
      E.Const (pos 2) ∷
      E.Const (pos 0) ∷ [];
  stmts = stmt (place 1 17) 0 None (K.Set (G.Local 0) 0) ∷
      stmt (place 1 33) 0 None (K.Set (G.Local 1) 1) ∷
      stmt (place 1 24) 0 None (K.While 4 (3 ∷ 4 ∷ 5 ∷ [])) ∷
      stmt (place 1 58) 0 (Some 2) (K.Set (G.Local 2) 5) ∷
      stmt (place 1 65) 0 (Some 2) (K.Assert 10) ∷
      stmt (place 1 47) 0 (Some 2) (K.Set (G.Local 1) 13) ∷
      stmt (place 1 85) 0 None (K.While 14 []) ∷
      stmt (place 1 103) 0 None (K.Set (G.Local 0) 15) ∷
      stmt (place 1 98) 0 None (K.While 16 (9 ∷ [])) ∷
      stmt (place 1 115) 0 (Some 8) (K.If 17 (10 ∷ []) (11 ∷ [])) ∷
      stmt (place 1 122) 0 (Some 9) (K.Set (G.Local 0) 18) ∷
      stmt (place 1 140) 0 (Some 9) (K.Set (G.Local 3) 19) ∷
      stmt (place 1 145) 0 None (K.End) ∷ [];
  bodies = record { name = (112 ∷ []); process = true; params = 0; value = false; cells = 4; locals = (record { name = (105 ∷ []); base = 0; len = None } ∷ record { name = (105 ∷ []); base = 1; len = None } ∷ record { name = (105 ∷ []); base = 2; len = None } ∷ record { name = (106 ∷ []); base = 3; len = None } ∷ []); top = (0 ∷ 1 ∷ 2 ∷ 6 ∷ 7 ∷ 8 ∷ 12 ∷ []); first = 0; end = 13 } ∷ [];
  functions = 0;
  shared = [];
  starts = [];
  sems = [];
  chans = [];
}
turns_core = refl

-- shared int x = 1; void f(int x) { { int x = x; print(x); } print(x); return; } process p { print(x); { int x = 2; f(x); } { int x; } print(x); }
abbrev scopes : List Node
scopes =
    node R.Source (1 ∷ 9 ∷ 53 ∷ 106 ∷ []) ∷
    node R.Shared (2 ∷ 3 ∷ 4 ∷ 8 ∷ []) ∷
    tok (T.Word W.SharedWord) 0 6 1 1 ∷
    tok (T.Word W.IntWord) 7 10 1 8 ∷
    node R.Sitem (5 ∷ 6 ∷ 7 ∷ []) ∷
    tok (T.Name (120 ∷ [])) 11 12 1 12 ∷
    tok (T.Mark W.AssignMark) 13 14 1 14 ∷
    tok (T.Number (pos 1)) 15 16 1 16 ∷
    tok (T.Mark W.Semicolon) 16 17 1 17 ∷
    node R.Function (10 ∷ 11 ∷ 12 ∷ 13 ∷ 16 ∷ 17 ∷ []) ∷
    tok (T.Word W.VoidWord) 18 22 1 19 ∷
    tok (T.Name (102 ∷ [])) 23 24 1 24 ∷
    tok (T.Mark W.LeftParen) 24 25 1 25 ∷
    node R.Params (14 ∷ 15 ∷ []) ∷
    tok (T.Word W.IntWord) 25 28 1 26 ∷
    tok (T.Name (120 ∷ [])) 29 30 1 30 ∷
    tok (T.Mark W.RightParen) 30 31 1 31 ∷
    node R.Block (18 ∷ 19 ∷ 41 ∷ 49 ∷ 52 ∷ []) ∷
    tok (T.Mark W.LeftBrace) 32 33 1 33 ∷
    node R.Stmt (20 ∷ []) ∷
    node R.Block (21 ∷ 22 ∷ 32 ∷ 40 ∷ []) ∷
    tok (T.Mark W.LeftBrace) 34 35 1 35 ∷
    node R.Local (23 ∷ 24 ∷ 31 ∷ []) ∷
    tok (T.Word W.IntWord) 36 39 1 37 ∷
    node R.Litem (25 ∷ 26 ∷ 27 ∷ []) ∷
    tok (T.Name (120 ∷ [])) 40 41 1 41 ∷
    tok (T.Mark W.AssignMark) 42 43 1 43 ∷
    node R.Value (28 ∷ []) ∷
    node R.Unary (29 ∷ []) ∷
    node R.Place (30 ∷ []) ∷
    tok (T.Name (120 ∷ [])) 44 45 1 45 ∷
    tok (T.Mark W.Semicolon) 45 46 1 46 ∷
    node R.Stmt (33 ∷ 34 ∷ 35 ∷ 38 ∷ 39 ∷ []) ∷
    tok (T.Word W.PrintWord) 47 52 1 48 ∷
    tok (T.Mark W.LeftParen) 52 53 1 53 ∷
    node R.Unary (36 ∷ []) ∷
    node R.Place (37 ∷ []) ∷
    tok (T.Name (120 ∷ [])) 53 54 1 54 ∷
    tok (T.Mark W.RightParen) 54 55 1 55 ∷
    tok (T.Mark W.Semicolon) 55 56 1 56 ∷
    tok (T.Mark W.RightBrace) 57 58 1 58 ∷
    node R.Stmt (42 ∷ 43 ∷ 44 ∷ 47 ∷ 48 ∷ []) ∷
    tok (T.Word W.PrintWord) 59 64 1 60 ∷
    tok (T.Mark W.LeftParen) 64 65 1 65 ∷
    node R.Unary (45 ∷ []) ∷
    node R.Place (46 ∷ []) ∷
    tok (T.Name (120 ∷ [])) 65 66 1 66 ∷
    tok (T.Mark W.RightParen) 66 67 1 67 ∷
    tok (T.Mark W.Semicolon) 67 68 1 68 ∷
    node R.Stmt (50 ∷ 51 ∷ []) ∷
    tok (T.Word W.ReturnWord) 69 75 1 70 ∷
    tok (T.Mark W.Semicolon) 75 76 1 76 ∷
    tok (T.Mark W.RightBrace) 77 78 1 78 ∷
    node R.Process (54 ∷ 55 ∷ 56 ∷ []) ∷
    tok (T.Word W.ProcessWord) 79 86 1 80 ∷
    tok (T.Name (112 ∷ [])) 87 88 1 88 ∷
    node R.Block (57 ∷ 58 ∷ 66 ∷ 88 ∷ 97 ∷ 105 ∷ []) ∷
    tok (T.Mark W.LeftBrace) 89 90 1 90 ∷
    node R.Stmt (59 ∷ 60 ∷ 61 ∷ 64 ∷ 65 ∷ []) ∷
    tok (T.Word W.PrintWord) 91 96 1 92 ∷
    tok (T.Mark W.LeftParen) 96 97 1 97 ∷
    node R.Unary (62 ∷ []) ∷
    node R.Place (63 ∷ []) ∷
    tok (T.Name (120 ∷ [])) 97 98 1 98 ∷
    tok (T.Mark W.RightParen) 98 99 1 99 ∷
    tok (T.Mark W.Semicolon) 99 100 1 100 ∷
    node R.Stmt (67 ∷ []) ∷
    node R.Block (68 ∷ 69 ∷ 78 ∷ 87 ∷ []) ∷
    tok (T.Mark W.LeftBrace) 101 102 1 102 ∷
    node R.Local (70 ∷ 71 ∷ 77 ∷ []) ∷
    tok (T.Word W.IntWord) 103 106 1 104 ∷
    node R.Litem (72 ∷ 73 ∷ 74 ∷ []) ∷
    tok (T.Name (120 ∷ [])) 107 108 1 108 ∷
    tok (T.Mark W.AssignMark) 109 110 1 110 ∷
    node R.Value (75 ∷ []) ∷
    node R.Unary (76 ∷ []) ∷
    tok (T.Number (pos 2)) 111 112 1 112 ∷
    tok (T.Mark W.Semicolon) 112 113 1 113 ∷
    node R.Stmt (79 ∷ 86 ∷ []) ∷
    node R.Call (80 ∷ 81 ∷ 82 ∷ 85 ∷ []) ∷
    tok (T.Name (102 ∷ [])) 114 115 1 115 ∷
    tok (T.Mark W.LeftParen) 115 116 1 116 ∷
    node R.Unary (83 ∷ []) ∷
    node R.Place (84 ∷ []) ∷
    tok (T.Name (120 ∷ [])) 116 117 1 117 ∷
    tok (T.Mark W.RightParen) 117 118 1 118 ∷
    tok (T.Mark W.Semicolon) 118 119 1 119 ∷
    tok (T.Mark W.RightBrace) 120 121 1 121 ∷
    node R.Stmt (89 ∷ []) ∷
    node R.Block (90 ∷ 91 ∷ 96 ∷ []) ∷
    tok (T.Mark W.LeftBrace) 122 123 1 123 ∷
    node R.Local (92 ∷ 93 ∷ 95 ∷ []) ∷
    tok (T.Word W.IntWord) 124 127 1 125 ∷
    node R.Litem (94 ∷ []) ∷
    tok (T.Name (120 ∷ [])) 128 129 1 129 ∷
    tok (T.Mark W.Semicolon) 129 130 1 130 ∷
    tok (T.Mark W.RightBrace) 131 132 1 132 ∷
    node R.Stmt (98 ∷ 99 ∷ 100 ∷ 103 ∷ 104 ∷ []) ∷
    tok (T.Word W.PrintWord) 133 138 1 134 ∷
    tok (T.Mark W.LeftParen) 138 139 1 139 ∷
    node R.Unary (101 ∷ []) ∷
    node R.Place (102 ∷ []) ∷
    tok (T.Name (120 ∷ [])) 139 140 1 140 ∷
    tok (T.Mark W.RightParen) 140 141 1 141 ∷
    tok (T.Mark W.Semicolon) 141 142 1 142 ∷
    tok (T.Mark W.RightBrace) 143 144 1 144 ∷
    tok T.End 144 144 1 145 ∷ []

scopes_accepted : faults_in (source_of (tree_of scopes)) ≡ []
scopes_accepted = refl

scopes_core : core_of (source_of (tree_of scopes)) ≡ record {
  exprs = E.Local 1 ∷
      E.Local 1 ∷
      E.Local 0 ∷
      E.Shared 0 ∷
      E.Const (pos 2) ∷
      E.Local 0 ∷
      E.Const (pos 0) ∷
      E.Shared 0 ∷ [];
  stmts = stmt (place 1 41) 0 None (K.Set (G.Local 1) 0) ∷
      stmt (place 1 48) 0 None (K.Print 1) ∷
      stmt (place 1 60) 0 None (K.Print 2) ∷
      stmt (place 1 70) 0 None (K.Return None) ∷
      stmt (place 1 92) 1 None (K.Print 3) ∷
      stmt (place 1 108) 1 None (K.Set (G.Local 0) 4) ∷
      stmt (place 1 115) 1 None (K.Call 0 (5 ∷ []) None) ∷
      stmt (place 1 129) 1 None (K.Set (G.Local 1) 6) ∷
      stmt (place 1 134) 1 None (K.Print 7) ∷
      stmt (place 1 144) 1 None (K.End) ∷ [];
  bodies = record { name = (102 ∷ []); process = false; params = 1; value = false; cells = 2; locals = (record { name = (120 ∷ []); base = 0; len = None } ∷ record { name = (120 ∷ []); base = 1; len = None } ∷ []); top = (0 ∷ 1 ∷ 2 ∷ 3 ∷ []); first = 0; end = 4 } ∷
      record { name = (112 ∷ []); process = true; params = 0; value = false; cells = 2; locals = (record { name = (120 ∷ []); base = 0; len = None } ∷ record { name = (120 ∷ []); base = 1; len = None } ∷ []); top = (4 ∷ 5 ∷ 6 ∷ 7 ∷ 8 ∷ 9 ∷ []); first = 4; end = 10 } ∷ [];
  functions = 1;
  shared = (record { name = (120 ∷ []); base = 0; len = None } ∷ []);
  starts = ((pos 1) ∷ []);
  sems = [];
  chans = [];
}
scopes_core = refl

-- process a { f(); } void f() { } process b { } void g() { f(); }
abbrev order : List Node
order =
    node R.Source (1 ∷ 13 ∷ 21 ∷ 27 ∷ 41 ∷ []) ∷
    node R.Process (2 ∷ 3 ∷ 4 ∷ []) ∷
    tok (T.Word W.ProcessWord) 0 7 1 1 ∷
    tok (T.Name (97 ∷ [])) 8 9 1 9 ∷
    node R.Block (5 ∷ 6 ∷ 12 ∷ []) ∷
    tok (T.Mark W.LeftBrace) 10 11 1 11 ∷
    node R.Stmt (7 ∷ 11 ∷ []) ∷
    node R.Call (8 ∷ 9 ∷ 10 ∷ []) ∷
    tok (T.Name (102 ∷ [])) 12 13 1 13 ∷
    tok (T.Mark W.LeftParen) 13 14 1 14 ∷
    tok (T.Mark W.RightParen) 14 15 1 15 ∷
    tok (T.Mark W.Semicolon) 15 16 1 16 ∷
    tok (T.Mark W.RightBrace) 17 18 1 18 ∷
    node R.Function (14 ∷ 15 ∷ 16 ∷ 17 ∷ 18 ∷ []) ∷
    tok (T.Word W.VoidWord) 19 23 1 20 ∷
    tok (T.Name (102 ∷ [])) 24 25 1 25 ∷
    tok (T.Mark W.LeftParen) 25 26 1 26 ∷
    tok (T.Mark W.RightParen) 26 27 1 27 ∷
    node R.Block (19 ∷ 20 ∷ []) ∷
    tok (T.Mark W.LeftBrace) 28 29 1 29 ∷
    tok (T.Mark W.RightBrace) 30 31 1 31 ∷
    node R.Process (22 ∷ 23 ∷ 24 ∷ []) ∷
    tok (T.Word W.ProcessWord) 32 39 1 33 ∷
    tok (T.Name (98 ∷ [])) 40 41 1 41 ∷
    node R.Block (25 ∷ 26 ∷ []) ∷
    tok (T.Mark W.LeftBrace) 42 43 1 43 ∷
    tok (T.Mark W.RightBrace) 44 45 1 45 ∷
    node R.Function (28 ∷ 29 ∷ 30 ∷ 31 ∷ 32 ∷ []) ∷
    tok (T.Word W.VoidWord) 46 50 1 47 ∷
    tok (T.Name (103 ∷ [])) 51 52 1 52 ∷
    tok (T.Mark W.LeftParen) 52 53 1 53 ∷
    tok (T.Mark W.RightParen) 53 54 1 54 ∷
    node R.Block (33 ∷ 34 ∷ 40 ∷ []) ∷
    tok (T.Mark W.LeftBrace) 55 56 1 56 ∷
    node R.Stmt (35 ∷ 39 ∷ []) ∷
    node R.Call (36 ∷ 37 ∷ 38 ∷ []) ∷
    tok (T.Name (102 ∷ [])) 57 58 1 58 ∷
    tok (T.Mark W.LeftParen) 58 59 1 59 ∷
    tok (T.Mark W.RightParen) 59 60 1 60 ∷
    tok (T.Mark W.Semicolon) 60 61 1 61 ∷
    tok (T.Mark W.RightBrace) 62 63 1 63 ∷
    tok T.End 63 63 1 64 ∷ []

order_accepted : faults_in (source_of (tree_of order)) ≡ []
order_accepted = refl

order_core : core_of (source_of (tree_of order)) ≡ record {
  exprs = [];
  stmts = stmt (place 1 31) 0 None (K.Return None) ∷
      stmt (place 1 58) 1 None (K.Call 0 [] None) ∷
      stmt (place 1 63) 1 None (K.Return None) ∷
      stmt (place 1 13) 2 None (K.Call 0 [] None) ∷
      stmt (place 1 18) 2 None (K.End) ∷
      stmt (place 1 45) 3 None (K.End) ∷ [];
  bodies = record { name = (102 ∷ []); process = false; params = 0; value = false; cells = 0; locals = []; top = (0 ∷ []); first = 0; end = 1 } ∷
      record { name = (103 ∷ []); process = false; params = 0; value = false; cells = 0; locals = []; top = (1 ∷ 2 ∷ []); first = 1; end = 3 } ∷
      record { name = (97 ∷ []); process = true; params = 0; value = false; cells = 0; locals = []; top = (3 ∷ 4 ∷ []); first = 3; end = 5 } ∷
      record { name = (98 ∷ []); process = true; params = 0; value = false; cells = 0; locals = []; top = (5 ∷ []); first = 5; end = 6 } ∷ [];
  functions = 2;
  shared = [];
  starts = [];
  sems = [];
  chans = [];
}
order_core = refl

-- process a { print((1 + 2) * 3 - 4 / 5 % 6); print(1 == 2 != 3 <= 4 >= 5 < 6 > 7 || 8 && 9); }
abbrev arithmetic : List Node
arithmetic =
    node R.Source (1 ∷ 76 ∷ []) ∷
    node R.Process (2 ∷ 3 ∷ 4 ∷ []) ∷
    tok (T.Word W.ProcessWord) 0 7 1 1 ∷
    tok (T.Name (97 ∷ [])) 8 9 1 9 ∷
    node R.Block (5 ∷ 6 ∷ 36 ∷ 75 ∷ []) ∷
    tok (T.Mark W.LeftBrace) 10 11 1 11 ∷
    node R.Stmt (7 ∷ 8 ∷ 9 ∷ 34 ∷ 35 ∷ []) ∷
    tok (T.Word W.PrintWord) 12 17 1 13 ∷
    tok (T.Mark W.LeftParen) 17 18 1 18 ∷
    node R.Binary (10 ∷ 23 ∷ 24 ∷ []) ∷
    node R.Binary (11 ∷ 20 ∷ 21 ∷ []) ∷
    node R.Unary (12 ∷ 13 ∷ 19 ∷ []) ∷
    tok (T.Mark W.LeftParen) 18 19 1 19 ∷
    node R.Binary (14 ∷ 16 ∷ 17 ∷ []) ∷
    node R.Unary (15 ∷ []) ∷
    tok (T.Number (pos 1)) 19 20 1 20 ∷
    tok (T.Mark W.PlusMark) 21 22 1 22 ∷
    node R.Unary (18 ∷ []) ∷
    tok (T.Number (pos 2)) 23 24 1 24 ∷
    tok (T.Mark W.RightParen) 24 25 1 25 ∷
    tok (T.Mark W.StarMark) 26 27 1 27 ∷
    node R.Unary (22 ∷ []) ∷
    tok (T.Number (pos 3)) 28 29 1 29 ∷
    tok (T.Mark W.MinusMark) 30 31 1 31 ∷
    node R.Binary (25 ∷ 31 ∷ 32 ∷ []) ∷
    node R.Binary (26 ∷ 28 ∷ 29 ∷ []) ∷
    node R.Unary (27 ∷ []) ∷
    tok (T.Number (pos 4)) 32 33 1 33 ∷
    tok (T.Mark W.SlashMark) 34 35 1 35 ∷
    node R.Unary (30 ∷ []) ∷
    tok (T.Number (pos 5)) 36 37 1 37 ∷
    tok (T.Mark W.PercentMark) 38 39 1 39 ∷
    node R.Unary (33 ∷ []) ∷
    tok (T.Number (pos 6)) 40 41 1 41 ∷
    tok (T.Mark W.RightParen) 41 42 1 42 ∷
    tok (T.Mark W.Semicolon) 42 43 1 43 ∷
    node R.Stmt (37 ∷ 38 ∷ 39 ∷ 73 ∷ 74 ∷ []) ∷
    tok (T.Word W.PrintWord) 44 49 1 45 ∷
    tok (T.Mark W.LeftParen) 49 50 1 50 ∷
    node R.Binary (40 ∷ 66 ∷ 67 ∷ []) ∷
    node R.Binary (41 ∷ 47 ∷ 48 ∷ []) ∷
    node R.Binary (42 ∷ 44 ∷ 45 ∷ []) ∷
    node R.Unary (43 ∷ []) ∷
    tok (T.Number (pos 1)) 50 51 1 51 ∷
    tok (T.Mark W.EqualMark) 52 54 1 53 ∷
    node R.Unary (46 ∷ []) ∷
    tok (T.Number (pos 2)) 55 56 1 56 ∷
    tok (T.Mark W.UnequalMark) 57 59 1 58 ∷
    node R.Binary (49 ∷ 63 ∷ 64 ∷ []) ∷
    node R.Binary (50 ∷ 60 ∷ 61 ∷ []) ∷
    node R.Binary (51 ∷ 57 ∷ 58 ∷ []) ∷
    node R.Binary (52 ∷ 54 ∷ 55 ∷ []) ∷
    node R.Unary (53 ∷ []) ∷
    tok (T.Number (pos 3)) 60 61 1 61 ∷
    tok (T.Mark W.AtMostMark) 62 64 1 63 ∷
    node R.Unary (56 ∷ []) ∷
    tok (T.Number (pos 4)) 65 66 1 66 ∷
    tok (T.Mark W.AtLeastMark) 67 69 1 68 ∷
    node R.Unary (59 ∷ []) ∷
    tok (T.Number (pos 5)) 70 71 1 71 ∷
    tok (T.Mark W.LessMark) 72 73 1 73 ∷
    node R.Unary (62 ∷ []) ∷
    tok (T.Number (pos 6)) 74 75 1 75 ∷
    tok (T.Mark W.MoreMark) 76 77 1 77 ∷
    node R.Unary (65 ∷ []) ∷
    tok (T.Number (pos 7)) 78 79 1 79 ∷
    tok (T.Mark W.OrMark) 80 82 1 81 ∷
    node R.Binary (68 ∷ 70 ∷ 71 ∷ []) ∷
    node R.Unary (69 ∷ []) ∷
    tok (T.Number (pos 8)) 83 84 1 84 ∷
    tok (T.Mark W.AndMark) 85 87 1 86 ∷
    node R.Unary (72 ∷ []) ∷
    tok (T.Number (pos 9)) 88 89 1 89 ∷
    tok (T.Mark W.RightParen) 89 90 1 90 ∷
    tok (T.Mark W.Semicolon) 90 91 1 91 ∷
    tok (T.Mark W.RightBrace) 92 93 1 93 ∷
    tok T.End 93 93 1 94 ∷ []

arithmetic_accepted : faults_in (source_of (tree_of arithmetic)) ≡ []
arithmetic_accepted = refl

arithmetic_core : core_of (source_of (tree_of arithmetic)) ≡ record {
  exprs = E.Const (pos 1) ∷
      E.Const (pos 2) ∷
      E.Two O.Add 0 1 ∷
      E.Const (pos 3) ∷
      E.Two O.Mul 2 3 ∷
      E.Const (pos 4) ∷
      E.Const (pos 5) ∷
      E.Two O.Div 5 6 ∷
      E.Const (pos 6) ∷
      E.Two O.Rem 7 8 ∷
      E.Two O.Sub 4 9 ∷
      E.Const (pos 1) ∷
      E.Const (pos 2) ∷
      E.Two O.Eq 11 12 ∷
      E.Const (pos 3) ∷
      E.Const (pos 4) ∷
      E.Two O.Le 14 15 ∷
      E.Const (pos 5) ∷
      E.Two O.Ge 16 17 ∷
      E.Const (pos 6) ∷
      E.Two O.Lt 18 19 ∷
      E.Const (pos 7) ∷
      E.Two O.Gt 20 21 ∷
      E.Two O.Ne 13 22 ∷
      E.Const (pos 8) ∷
      E.Const (pos 9) ∷
      E.And 24 25 ∷
      E.Or 23 26 ∷ [];
  stmts = stmt (place 1 13) 0 None (K.Print 10) ∷
      stmt (place 1 45) 0 None (K.Print 27) ∷
      stmt (place 1 93) 0 None (K.End) ∷ [];
  bodies = record { name = (97 ∷ []); process = true; params = 0; value = false; cells = 0; locals = []; top = (0 ∷ 1 ∷ 2 ∷ []); first = 0; end = 3 } ∷ [];
  functions = 0;
  shared = [];
  starts = [];
  sems = [];
  chans = [];
}
arithmetic_core = refl
