-- The first broken rules of small sources: names, and their uses.
use Rattle.std.proofs.Common.{◌≡◌, refl, List, [], ◌∷◌, Some, pos}
use Rattle.ppd_parse.specs.declared.token.Kind.TheVariants as W
use Rattle.ppd_parse.specs.declared.token.TokenKind.TheVariants as T
use Rattle.ppd_parse.specs.declared.symbol.Rule.TheVariants as R
use Rattle.ppd_parse.specs.declared.node.Node.{Node}
use Rattle.ppd_parse.specs.Tree.{tree_of}
use Rattle.ppd_check_names.specs.declared.fault.Cause.TheVariants.{Twice, Unknown, WrongKind, Arity, NoProcess, TooMany}
use Rattle.ppd_check_names.specs.declared.fault.Limit.TheVariants as L
use Rattle.ppd_check_names.specs.Faults.{at, first}
use Rattle.ppd_check.specs.Sources.{faults_in}
use Rattle.ppd_check_names.specs.Reading.{source_of}
use Rattle.rows_programs.proofs.CoreForm.RowTables.{place, node, tok}

--
abbrev nothing : List Node
nothing =
    node R.Source (1 ∷ []) ∷
    tok T.End 0 0 1 1 ∷ []

nothing_first : first (faults_in (source_of (tree_of nothing))) ≡ Some (at (place 1 1) NoProcess)
nothing_first = refl

-- process p1 { }
-- process p2 { }
-- process p3 { }
-- process p4 { }
-- process p5 { }
-- process p6 { }
-- process p7 { }
-- process p8 { }
-- process p9 { }
-- process p10 { }
-- process p11 { }
-- process p12 { }
-- process p13 { }
-- process p14 { }
-- process p15 { }
-- process p16 { }
-- process p17 { }
abbrev seventeen_processes : List Node
seventeen_processes =
    node R.Source (1 ∷ 7 ∷ 13 ∷ 19 ∷ 25 ∷ 31 ∷ 37 ∷ 43 ∷ 49 ∷ 55 ∷ 61 ∷ 67 ∷ 73 ∷ 79 ∷ 85 ∷ 91 ∷ 97 ∷ 103 ∷ []) ∷
    node R.Process (2 ∷ 3 ∷ 4 ∷ []) ∷
    tok (T.Word W.ProcessWord) 0 7 1 1 ∷
    tok (T.Name (112 ∷ 49 ∷ [])) 8 10 1 9 ∷
    node R.Block (5 ∷ 6 ∷ []) ∷
    tok (T.Mark W.LeftBrace) 11 12 1 12 ∷
    tok (T.Mark W.RightBrace) 13 14 1 14 ∷
    node R.Process (8 ∷ 9 ∷ 10 ∷ []) ∷
    tok (T.Word W.ProcessWord) 15 22 2 1 ∷
    tok (T.Name (112 ∷ 50 ∷ [])) 23 25 2 9 ∷
    node R.Block (11 ∷ 12 ∷ []) ∷
    tok (T.Mark W.LeftBrace) 26 27 2 12 ∷
    tok (T.Mark W.RightBrace) 28 29 2 14 ∷
    node R.Process (14 ∷ 15 ∷ 16 ∷ []) ∷
    tok (T.Word W.ProcessWord) 30 37 3 1 ∷
    tok (T.Name (112 ∷ 51 ∷ [])) 38 40 3 9 ∷
    node R.Block (17 ∷ 18 ∷ []) ∷
    tok (T.Mark W.LeftBrace) 41 42 3 12 ∷
    tok (T.Mark W.RightBrace) 43 44 3 14 ∷
    node R.Process (20 ∷ 21 ∷ 22 ∷ []) ∷
    tok (T.Word W.ProcessWord) 45 52 4 1 ∷
    tok (T.Name (112 ∷ 52 ∷ [])) 53 55 4 9 ∷
    node R.Block (23 ∷ 24 ∷ []) ∷
    tok (T.Mark W.LeftBrace) 56 57 4 12 ∷
    tok (T.Mark W.RightBrace) 58 59 4 14 ∷
    node R.Process (26 ∷ 27 ∷ 28 ∷ []) ∷
    tok (T.Word W.ProcessWord) 60 67 5 1 ∷
    tok (T.Name (112 ∷ 53 ∷ [])) 68 70 5 9 ∷
    node R.Block (29 ∷ 30 ∷ []) ∷
    tok (T.Mark W.LeftBrace) 71 72 5 12 ∷
    tok (T.Mark W.RightBrace) 73 74 5 14 ∷
    node R.Process (32 ∷ 33 ∷ 34 ∷ []) ∷
    tok (T.Word W.ProcessWord) 75 82 6 1 ∷
    tok (T.Name (112 ∷ 54 ∷ [])) 83 85 6 9 ∷
    node R.Block (35 ∷ 36 ∷ []) ∷
    tok (T.Mark W.LeftBrace) 86 87 6 12 ∷
    tok (T.Mark W.RightBrace) 88 89 6 14 ∷
    node R.Process (38 ∷ 39 ∷ 40 ∷ []) ∷
    tok (T.Word W.ProcessWord) 90 97 7 1 ∷
    tok (T.Name (112 ∷ 55 ∷ [])) 98 100 7 9 ∷
    node R.Block (41 ∷ 42 ∷ []) ∷
    tok (T.Mark W.LeftBrace) 101 102 7 12 ∷
    tok (T.Mark W.RightBrace) 103 104 7 14 ∷
    node R.Process (44 ∷ 45 ∷ 46 ∷ []) ∷
    tok (T.Word W.ProcessWord) 105 112 8 1 ∷
    tok (T.Name (112 ∷ 56 ∷ [])) 113 115 8 9 ∷
    node R.Block (47 ∷ 48 ∷ []) ∷
    tok (T.Mark W.LeftBrace) 116 117 8 12 ∷
    tok (T.Mark W.RightBrace) 118 119 8 14 ∷
    node R.Process (50 ∷ 51 ∷ 52 ∷ []) ∷
    tok (T.Word W.ProcessWord) 120 127 9 1 ∷
    tok (T.Name (112 ∷ 57 ∷ [])) 128 130 9 9 ∷
    node R.Block (53 ∷ 54 ∷ []) ∷
    tok (T.Mark W.LeftBrace) 131 132 9 12 ∷
    tok (T.Mark W.RightBrace) 133 134 9 14 ∷
    node R.Process (56 ∷ 57 ∷ 58 ∷ []) ∷
    tok (T.Word W.ProcessWord) 135 142 10 1 ∷
    tok (T.Name (112 ∷ 49 ∷ 48 ∷ [])) 143 146 10 9 ∷
    node R.Block (59 ∷ 60 ∷ []) ∷
    tok (T.Mark W.LeftBrace) 147 148 10 13 ∷
    tok (T.Mark W.RightBrace) 149 150 10 15 ∷
    node R.Process (62 ∷ 63 ∷ 64 ∷ []) ∷
    tok (T.Word W.ProcessWord) 151 158 11 1 ∷
    tok (T.Name (112 ∷ 49 ∷ 49 ∷ [])) 159 162 11 9 ∷
    node R.Block (65 ∷ 66 ∷ []) ∷
    tok (T.Mark W.LeftBrace) 163 164 11 13 ∷
    tok (T.Mark W.RightBrace) 165 166 11 15 ∷
    node R.Process (68 ∷ 69 ∷ 70 ∷ []) ∷
    tok (T.Word W.ProcessWord) 167 174 12 1 ∷
    tok (T.Name (112 ∷ 49 ∷ 50 ∷ [])) 175 178 12 9 ∷
    node R.Block (71 ∷ 72 ∷ []) ∷
    tok (T.Mark W.LeftBrace) 179 180 12 13 ∷
    tok (T.Mark W.RightBrace) 181 182 12 15 ∷
    node R.Process (74 ∷ 75 ∷ 76 ∷ []) ∷
    tok (T.Word W.ProcessWord) 183 190 13 1 ∷
    tok (T.Name (112 ∷ 49 ∷ 51 ∷ [])) 191 194 13 9 ∷
    node R.Block (77 ∷ 78 ∷ []) ∷
    tok (T.Mark W.LeftBrace) 195 196 13 13 ∷
    tok (T.Mark W.RightBrace) 197 198 13 15 ∷
    node R.Process (80 ∷ 81 ∷ 82 ∷ []) ∷
    tok (T.Word W.ProcessWord) 199 206 14 1 ∷
    tok (T.Name (112 ∷ 49 ∷ 52 ∷ [])) 207 210 14 9 ∷
    node R.Block (83 ∷ 84 ∷ []) ∷
    tok (T.Mark W.LeftBrace) 211 212 14 13 ∷
    tok (T.Mark W.RightBrace) 213 214 14 15 ∷
    node R.Process (86 ∷ 87 ∷ 88 ∷ []) ∷
    tok (T.Word W.ProcessWord) 215 222 15 1 ∷
    tok (T.Name (112 ∷ 49 ∷ 53 ∷ [])) 223 226 15 9 ∷
    node R.Block (89 ∷ 90 ∷ []) ∷
    tok (T.Mark W.LeftBrace) 227 228 15 13 ∷
    tok (T.Mark W.RightBrace) 229 230 15 15 ∷
    node R.Process (92 ∷ 93 ∷ 94 ∷ []) ∷
    tok (T.Word W.ProcessWord) 231 238 16 1 ∷
    tok (T.Name (112 ∷ 49 ∷ 54 ∷ [])) 239 242 16 9 ∷
    node R.Block (95 ∷ 96 ∷ []) ∷
    tok (T.Mark W.LeftBrace) 243 244 16 13 ∷
    tok (T.Mark W.RightBrace) 245 246 16 15 ∷
    node R.Process (98 ∷ 99 ∷ 100 ∷ []) ∷
    tok (T.Word W.ProcessWord) 247 254 17 1 ∷
    tok (T.Name (112 ∷ 49 ∷ 55 ∷ [])) 255 258 17 9 ∷
    node R.Block (101 ∷ 102 ∷ []) ∷
    tok (T.Mark W.LeftBrace) 259 260 17 13 ∷
    tok (T.Mark W.RightBrace) 261 262 17 15 ∷
    tok T.End 262 262 17 16 ∷ []

seventeen_processes_first : first (faults_in (source_of (tree_of seventeen_processes))) ≡ Some (at (place 17 9) (TooMany L.Processes))
seventeen_processes_first = refl

-- process a { y = 1; }
abbrev unknown_name : List Node
unknown_name =
    node R.Source (1 ∷ 15 ∷ []) ∷
    node R.Process (2 ∷ 3 ∷ 4 ∷ []) ∷
    tok (T.Word W.ProcessWord) 0 7 1 1 ∷
    tok (T.Name (97 ∷ [])) 8 9 1 9 ∷
    node R.Block (5 ∷ 6 ∷ 14 ∷ []) ∷
    tok (T.Mark W.LeftBrace) 10 11 1 11 ∷
    node R.Stmt (7 ∷ 13 ∷ []) ∷
    node R.Change (8 ∷ 10 ∷ 11 ∷ []) ∷
    node R.Place (9 ∷ []) ∷
    tok (T.Name (121 ∷ [])) 12 13 1 13 ∷
    tok (T.Mark W.AssignMark) 14 15 1 15 ∷
    node R.Unary (12 ∷ []) ∷
    tok (T.Number (pos 1)) 16 17 1 17 ∷
    tok (T.Mark W.Semicolon) 17 18 1 18 ∷
    tok (T.Mark W.RightBrace) 19 20 1 20 ∷
    tok T.End 20 20 1 21 ∷ []

unknown_name_first : first (faults_in (source_of (tree_of unknown_name))) ≡ Some (at (place 1 13) Unknown)
unknown_name_first = refl

-- process a { int x; int x; }
abbrev twice_in_one_scope : List Node
twice_in_one_scope =
    node R.Source (1 ∷ 17 ∷ []) ∷
    node R.Process (2 ∷ 3 ∷ 4 ∷ []) ∷
    tok (T.Word W.ProcessWord) 0 7 1 1 ∷
    tok (T.Name (97 ∷ [])) 8 9 1 9 ∷
    node R.Block (5 ∷ 6 ∷ 11 ∷ 16 ∷ []) ∷
    tok (T.Mark W.LeftBrace) 10 11 1 11 ∷
    node R.Local (7 ∷ 8 ∷ 10 ∷ []) ∷
    tok (T.Word W.IntWord) 12 15 1 13 ∷
    node R.Litem (9 ∷ []) ∷
    tok (T.Name (120 ∷ [])) 16 17 1 17 ∷
    tok (T.Mark W.Semicolon) 17 18 1 18 ∷
    node R.Local (12 ∷ 13 ∷ 15 ∷ []) ∷
    tok (T.Word W.IntWord) 19 22 1 20 ∷
    node R.Litem (14 ∷ []) ∷
    tok (T.Name (120 ∷ [])) 23 24 1 24 ∷
    tok (T.Mark W.Semicolon) 24 25 1 25 ∷
    tok (T.Mark W.RightBrace) 26 27 1 27 ∷
    tok T.End 27 27 1 28 ∷ []

twice_in_one_scope_first : first (faults_in (source_of (tree_of twice_in_one_scope))) ≡ Some (at (place 1 24) Twice)
twice_in_one_scope_first = refl

-- shared int a; process a { }
abbrev twice_as_process : List Node
twice_as_process =
    node R.Source (1 ∷ 7 ∷ 13 ∷ []) ∷
    node R.Shared (2 ∷ 3 ∷ 4 ∷ 6 ∷ []) ∷
    tok (T.Word W.SharedWord) 0 6 1 1 ∷
    tok (T.Word W.IntWord) 7 10 1 8 ∷
    node R.Sitem (5 ∷ []) ∷
    tok (T.Name (97 ∷ [])) 11 12 1 12 ∷
    tok (T.Mark W.Semicolon) 12 13 1 13 ∷
    node R.Process (8 ∷ 9 ∷ 10 ∷ []) ∷
    tok (T.Word W.ProcessWord) 14 21 1 15 ∷
    tok (T.Name (97 ∷ [])) 22 23 1 23 ∷
    node R.Block (11 ∷ 12 ∷ []) ∷
    tok (T.Mark W.LeftBrace) 24 25 1 25 ∷
    tok (T.Mark W.RightBrace) 26 27 1 27 ∷
    tok T.End 27 27 1 28 ∷ []

twice_as_process_first : first (faults_in (source_of (tree_of twice_as_process))) ≡ Some (at (place 1 23) Twice)
twice_as_process_first = refl

-- void f(int a, int a) { } process p { }
abbrev twice_in_parameters : List Node
twice_in_parameters =
    node R.Source (1 ∷ 15 ∷ 21 ∷ []) ∷
    node R.Function (2 ∷ 3 ∷ 4 ∷ 5 ∷ 11 ∷ 12 ∷ []) ∷
    tok (T.Word W.VoidWord) 0 4 1 1 ∷
    tok (T.Name (102 ∷ [])) 5 6 1 6 ∷
    tok (T.Mark W.LeftParen) 6 7 1 7 ∷
    node R.Params (6 ∷ 7 ∷ 8 ∷ 9 ∷ 10 ∷ []) ∷
    tok (T.Word W.IntWord) 7 10 1 8 ∷
    tok (T.Name (97 ∷ [])) 11 12 1 12 ∷
    tok (T.Mark W.Comma) 12 13 1 13 ∷
    tok (T.Word W.IntWord) 14 17 1 15 ∷
    tok (T.Name (97 ∷ [])) 18 19 1 19 ∷
    tok (T.Mark W.RightParen) 19 20 1 20 ∷
    node R.Block (13 ∷ 14 ∷ []) ∷
    tok (T.Mark W.LeftBrace) 21 22 1 22 ∷
    tok (T.Mark W.RightBrace) 23 24 1 24 ∷
    node R.Process (16 ∷ 17 ∷ 18 ∷ []) ∷
    tok (T.Word W.ProcessWord) 25 32 1 26 ∷
    tok (T.Name (112 ∷ [])) 33 34 1 34 ∷
    node R.Block (19 ∷ 20 ∷ []) ∷
    tok (T.Mark W.LeftBrace) 35 36 1 36 ∷
    tok (T.Mark W.RightBrace) 37 38 1 38 ∷
    tok T.End 38 38 1 39 ∷ []

twice_in_parameters_first : first (faults_in (source_of (tree_of twice_in_parameters))) ≡ Some (at (place 1 19) Twice)
twice_in_parameters_first = refl

-- void f(int a) { int a; } process p { }
abbrev outer_name_twice : List Node
outer_name_twice =
    node R.Source (1 ∷ 17 ∷ 23 ∷ []) ∷
    node R.Function (2 ∷ 3 ∷ 4 ∷ 5 ∷ 8 ∷ 9 ∷ []) ∷
    tok (T.Word W.VoidWord) 0 4 1 1 ∷
    tok (T.Name (102 ∷ [])) 5 6 1 6 ∷
    tok (T.Mark W.LeftParen) 6 7 1 7 ∷
    node R.Params (6 ∷ 7 ∷ []) ∷
    tok (T.Word W.IntWord) 7 10 1 8 ∷
    tok (T.Name (97 ∷ [])) 11 12 1 12 ∷
    tok (T.Mark W.RightParen) 12 13 1 13 ∷
    node R.Block (10 ∷ 11 ∷ 16 ∷ []) ∷
    tok (T.Mark W.LeftBrace) 14 15 1 15 ∷
    node R.Local (12 ∷ 13 ∷ 15 ∷ []) ∷
    tok (T.Word W.IntWord) 16 19 1 17 ∷
    node R.Litem (14 ∷ []) ∷
    tok (T.Name (97 ∷ [])) 20 21 1 21 ∷
    tok (T.Mark W.Semicolon) 21 22 1 22 ∷
    tok (T.Mark W.RightBrace) 23 24 1 24 ∷
    node R.Process (18 ∷ 19 ∷ 20 ∷ []) ∷
    tok (T.Word W.ProcessWord) 25 32 1 26 ∷
    tok (T.Name (112 ∷ [])) 33 34 1 34 ∷
    node R.Block (21 ∷ 22 ∷ []) ∷
    tok (T.Mark W.LeftBrace) 35 36 1 36 ∷
    tok (T.Mark W.RightBrace) 37 38 1 38 ∷
    tok T.End 38 38 1 39 ∷ []

outer_name_twice_first : first (faults_in (source_of (tree_of outer_name_twice))) ≡ Some (at (place 1 21) Twice)
outer_name_twice_first = refl

-- process a { x = 1; int x; }
abbrev before_its_name : List Node
before_its_name =
    node R.Source (1 ∷ 20 ∷ []) ∷
    node R.Process (2 ∷ 3 ∷ 4 ∷ []) ∷
    tok (T.Word W.ProcessWord) 0 7 1 1 ∷
    tok (T.Name (97 ∷ [])) 8 9 1 9 ∷
    node R.Block (5 ∷ 6 ∷ 14 ∷ 19 ∷ []) ∷
    tok (T.Mark W.LeftBrace) 10 11 1 11 ∷
    node R.Stmt (7 ∷ 13 ∷ []) ∷
    node R.Change (8 ∷ 10 ∷ 11 ∷ []) ∷
    node R.Place (9 ∷ []) ∷
    tok (T.Name (120 ∷ [])) 12 13 1 13 ∷
    tok (T.Mark W.AssignMark) 14 15 1 15 ∷
    node R.Unary (12 ∷ []) ∷
    tok (T.Number (pos 1)) 16 17 1 17 ∷
    tok (T.Mark W.Semicolon) 17 18 1 18 ∷
    node R.Local (15 ∷ 16 ∷ 18 ∷ []) ∷
    tok (T.Word W.IntWord) 19 22 1 20 ∷
    node R.Litem (17 ∷ []) ∷
    tok (T.Name (120 ∷ [])) 23 24 1 24 ∷
    tok (T.Mark W.Semicolon) 24 25 1 25 ∷
    tok (T.Mark W.RightBrace) 26 27 1 27 ∷
    tok T.End 27 27 1 28 ∷ []

before_its_name_first : first (faults_in (source_of (tree_of before_its_name))) ≡ Some (at (place 1 13) Unknown)
before_its_name_first = refl

-- shared int a[2]; process p { print(a); }
abbrev array_without_index : List Node
array_without_index =
    node R.Source (1 ∷ 10 ∷ 24 ∷ []) ∷
    node R.Shared (2 ∷ 3 ∷ 4 ∷ 9 ∷ []) ∷
    tok (T.Word W.SharedWord) 0 6 1 1 ∷
    tok (T.Word W.IntWord) 7 10 1 8 ∷
    node R.Sitem (5 ∷ 6 ∷ 7 ∷ 8 ∷ []) ∷
    tok (T.Name (97 ∷ [])) 11 12 1 12 ∷
    tok (T.Mark W.LeftBracket) 12 13 1 13 ∷
    tok (T.Number (pos 2)) 13 14 1 14 ∷
    tok (T.Mark W.RightBracket) 14 15 1 15 ∷
    tok (T.Mark W.Semicolon) 15 16 1 16 ∷
    node R.Process (11 ∷ 12 ∷ 13 ∷ []) ∷
    tok (T.Word W.ProcessWord) 17 24 1 18 ∷
    tok (T.Name (112 ∷ [])) 25 26 1 26 ∷
    node R.Block (14 ∷ 15 ∷ 23 ∷ []) ∷
    tok (T.Mark W.LeftBrace) 27 28 1 28 ∷
    node R.Stmt (16 ∷ 17 ∷ 18 ∷ 21 ∷ 22 ∷ []) ∷
    tok (T.Word W.PrintWord) 29 34 1 30 ∷
    tok (T.Mark W.LeftParen) 34 35 1 35 ∷
    node R.Unary (19 ∷ []) ∷
    node R.Place (20 ∷ []) ∷
    tok (T.Name (97 ∷ [])) 35 36 1 36 ∷
    tok (T.Mark W.RightParen) 36 37 1 37 ∷
    tok (T.Mark W.Semicolon) 37 38 1 38 ∷
    tok (T.Mark W.RightBrace) 39 40 1 40 ∷
    tok T.End 40 40 1 41 ∷ []

array_without_index_first : first (faults_in (source_of (tree_of array_without_index))) ≡ Some (at (place 1 36) WrongKind)
array_without_index_first = refl

-- shared int a; process p { a[0] = 1; }
abbrev scalar_with_index : List Node
scalar_with_index =
    node R.Source (1 ∷ 7 ∷ 25 ∷ []) ∷
    node R.Shared (2 ∷ 3 ∷ 4 ∷ 6 ∷ []) ∷
    tok (T.Word W.SharedWord) 0 6 1 1 ∷
    tok (T.Word W.IntWord) 7 10 1 8 ∷
    node R.Sitem (5 ∷ []) ∷
    tok (T.Name (97 ∷ [])) 11 12 1 12 ∷
    tok (T.Mark W.Semicolon) 12 13 1 13 ∷
    node R.Process (8 ∷ 9 ∷ 10 ∷ []) ∷
    tok (T.Word W.ProcessWord) 14 21 1 15 ∷
    tok (T.Name (112 ∷ [])) 22 23 1 23 ∷
    node R.Block (11 ∷ 12 ∷ 24 ∷ []) ∷
    tok (T.Mark W.LeftBrace) 24 25 1 25 ∷
    node R.Stmt (13 ∷ 23 ∷ []) ∷
    node R.Change (14 ∷ 20 ∷ 21 ∷ []) ∷
    node R.Place (15 ∷ 16 ∷ 17 ∷ 19 ∷ []) ∷
    tok (T.Name (97 ∷ [])) 26 27 1 27 ∷
    tok (T.Mark W.LeftBracket) 27 28 1 28 ∷
    node R.Unary (18 ∷ []) ∷
    tok (T.Number (pos 0)) 28 29 1 29 ∷
    tok (T.Mark W.RightBracket) 29 30 1 30 ∷
    tok (T.Mark W.AssignMark) 31 32 1 32 ∷
    node R.Unary (22 ∷ []) ∷
    tok (T.Number (pos 1)) 33 34 1 34 ∷
    tok (T.Mark W.Semicolon) 34 35 1 35 ∷
    tok (T.Mark W.RightBrace) 36 37 1 37 ∷
    tok T.End 37 37 1 38 ∷ []

scalar_with_index_first : first (faults_in (source_of (tree_of scalar_with_index))) ≡ Some (at (place 1 27) WrongKind)
scalar_with_index_first = refl

-- void f() { } process p { int f; f(); }
abbrev local_hides_a_function : List Node
local_hides_a_function =
    node R.Source (1 ∷ 9 ∷ 26 ∷ []) ∷
    node R.Function (2 ∷ 3 ∷ 4 ∷ 5 ∷ 6 ∷ []) ∷
    tok (T.Word W.VoidWord) 0 4 1 1 ∷
    tok (T.Name (102 ∷ [])) 5 6 1 6 ∷
    tok (T.Mark W.LeftParen) 6 7 1 7 ∷
    tok (T.Mark W.RightParen) 7 8 1 8 ∷
    node R.Block (7 ∷ 8 ∷ []) ∷
    tok (T.Mark W.LeftBrace) 9 10 1 10 ∷
    tok (T.Mark W.RightBrace) 11 12 1 12 ∷
    node R.Process (10 ∷ 11 ∷ 12 ∷ []) ∷
    tok (T.Word W.ProcessWord) 13 20 1 14 ∷
    tok (T.Name (112 ∷ [])) 21 22 1 22 ∷
    node R.Block (13 ∷ 14 ∷ 19 ∷ 25 ∷ []) ∷
    tok (T.Mark W.LeftBrace) 23 24 1 24 ∷
    node R.Local (15 ∷ 16 ∷ 18 ∷ []) ∷
    tok (T.Word W.IntWord) 25 28 1 26 ∷
    node R.Litem (17 ∷ []) ∷
    tok (T.Name (102 ∷ [])) 29 30 1 30 ∷
    tok (T.Mark W.Semicolon) 30 31 1 31 ∷
    node R.Stmt (20 ∷ 24 ∷ []) ∷
    node R.Call (21 ∷ 22 ∷ 23 ∷ []) ∷
    tok (T.Name (102 ∷ [])) 32 33 1 33 ∷
    tok (T.Mark W.LeftParen) 33 34 1 34 ∷
    tok (T.Mark W.RightParen) 34 35 1 35 ∷
    tok (T.Mark W.Semicolon) 35 36 1 36 ∷
    tok (T.Mark W.RightBrace) 37 38 1 38 ∷
    tok T.End 38 38 1 39 ∷ []

local_hides_a_function_first : first (faults_in (source_of (tree_of local_hides_a_function))) ≡ Some (at (place 1 33) WrongKind)
local_hides_a_function_first = refl

-- sem s; process p { send(s, 1); }
abbrev semaphore_as_channel : List Node
semaphore_as_channel =
    node R.Source (1 ∷ 5 ∷ 20 ∷ []) ∷
    node R.Sems (2 ∷ 3 ∷ 4 ∷ []) ∷
    tok (T.Word W.SemWord) 0 3 1 1 ∷
    tok (T.Name (115 ∷ [])) 4 5 1 5 ∷
    tok (T.Mark W.Semicolon) 5 6 1 6 ∷
    node R.Process (6 ∷ 7 ∷ 8 ∷ []) ∷
    tok (T.Word W.ProcessWord) 7 14 1 8 ∷
    tok (T.Name (112 ∷ [])) 15 16 1 16 ∷
    node R.Block (9 ∷ 10 ∷ 19 ∷ []) ∷
    tok (T.Mark W.LeftBrace) 17 18 1 18 ∷
    node R.Stmt (11 ∷ 12 ∷ 13 ∷ 14 ∷ 15 ∷ 17 ∷ 18 ∷ []) ∷
    tok (T.Word W.SendWord) 19 23 1 20 ∷
    tok (T.Mark W.LeftParen) 23 24 1 24 ∷
    tok (T.Name (115 ∷ [])) 24 25 1 25 ∷
    tok (T.Mark W.Comma) 25 26 1 26 ∷
    node R.Unary (16 ∷ []) ∷
    tok (T.Number (pos 1)) 27 28 1 28 ∷
    tok (T.Mark W.RightParen) 28 29 1 29 ∷
    tok (T.Mark W.Semicolon) 29 30 1 30 ∷
    tok (T.Mark W.RightBrace) 31 32 1 32 ∷
    tok T.End 32 32 1 33 ∷ []

semaphore_as_channel_first : first (faults_in (source_of (tree_of semaphore_as_channel))) ≡ Some (at (place 1 25) WrongKind)
semaphore_as_channel_first = refl

-- int f(int a) { return a; } process p { f(); }
abbrev missing_argument : List Node
missing_argument =
    node R.Source (1 ∷ 18 ∷ 30 ∷ []) ∷
    node R.Function (2 ∷ 3 ∷ 4 ∷ 5 ∷ 8 ∷ 9 ∷ []) ∷
    tok (T.Word W.IntWord) 0 3 1 1 ∷
    tok (T.Name (102 ∷ [])) 4 5 1 5 ∷
    tok (T.Mark W.LeftParen) 5 6 1 6 ∷
    node R.Params (6 ∷ 7 ∷ []) ∷
    tok (T.Word W.IntWord) 6 9 1 7 ∷
    tok (T.Name (97 ∷ [])) 10 11 1 11 ∷
    tok (T.Mark W.RightParen) 11 12 1 12 ∷
    node R.Block (10 ∷ 11 ∷ 17 ∷ []) ∷
    tok (T.Mark W.LeftBrace) 13 14 1 14 ∷
    node R.Stmt (12 ∷ 13 ∷ 16 ∷ []) ∷
    tok (T.Word W.ReturnWord) 15 21 1 16 ∷
    node R.Unary (14 ∷ []) ∷
    node R.Place (15 ∷ []) ∷
    tok (T.Name (97 ∷ [])) 22 23 1 23 ∷
    tok (T.Mark W.Semicolon) 23 24 1 24 ∷
    tok (T.Mark W.RightBrace) 25 26 1 26 ∷
    node R.Process (19 ∷ 20 ∷ 21 ∷ []) ∷
    tok (T.Word W.ProcessWord) 27 34 1 28 ∷
    tok (T.Name (112 ∷ [])) 35 36 1 36 ∷
    node R.Block (22 ∷ 23 ∷ 29 ∷ []) ∷
    tok (T.Mark W.LeftBrace) 37 38 1 38 ∷
    node R.Stmt (24 ∷ 28 ∷ []) ∷
    node R.Call (25 ∷ 26 ∷ 27 ∷ []) ∷
    tok (T.Name (102 ∷ [])) 39 40 1 40 ∷
    tok (T.Mark W.LeftParen) 40 41 1 41 ∷
    tok (T.Mark W.RightParen) 41 42 1 42 ∷
    tok (T.Mark W.Semicolon) 42 43 1 43 ∷
    tok (T.Mark W.RightBrace) 44 45 1 45 ∷
    tok T.End 45 45 1 46 ∷ []

missing_argument_first : first (faults_in (source_of (tree_of missing_argument))) ≡ Some (at (place 1 40) Arity)
missing_argument_first = refl
