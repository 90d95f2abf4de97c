-- The first broken rules of small sources: returns, calls, sizes and limits.
use Rattle.std.proofs.Common.{◌≡◌, refl, List, [], ◌∷◌, Some, pos}
use Rattle.ppd_parse.specs.declared.token.Kind.TheVariants as W
use Rattle.ppd_parse.specs.declared.token.TokenKind.TheVariants as T
use Rattle.ppd_parse.specs.declared.symbol.Rule.TheVariants as R
use Rattle.ppd_parse.specs.declared.node.Node.{Node}
use Rattle.ppd_parse.specs.Tree.{tree_of}
use Rattle.ppd_check_names.specs.declared.fault.Cause.TheVariants.{Unknown, Arity, ReturnPlace, VoidValue, TooMany, BadSize}
use Rattle.ppd_check_names.specs.declared.fault.Limit.TheVariants as L
use Rattle.ppd_check_names.specs.Faults.{at, first}
use Rattle.ppd_check.specs.Sources.{faults_in}
use Rattle.ppd_check_names.specs.Reading.{source_of}
use Rattle.rows_programs.proofs.CoreForm.RowTables.{place, node, tok}

-- process p { return; }
abbrev return_in_a_process : List Node
return_in_a_process =
    node R.Source (1 ∷ 10 ∷ []) ∷
    node R.Process (2 ∷ 3 ∷ 4 ∷ []) ∷
    tok (T.Word W.ProcessWord) 0 7 1 1 ∷
    tok (T.Name (112 ∷ [])) 8 9 1 9 ∷
    node R.Block (5 ∷ 6 ∷ 9 ∷ []) ∷
    tok (T.Mark W.LeftBrace) 10 11 1 11 ∷
    node R.Stmt (7 ∷ 8 ∷ []) ∷
    tok (T.Word W.ReturnWord) 12 18 1 13 ∷
    tok (T.Mark W.Semicolon) 18 19 1 19 ∷
    tok (T.Mark W.RightBrace) 20 21 1 21 ∷
    tok T.End 21 21 1 22 ∷ []

return_in_a_process_first : first (faults_in (source_of (tree_of return_in_a_process))) ≡ Some (at (place 1 13) ReturnPlace)
return_in_a_process_first = refl

-- int f() { return 1; ; } process p { }
abbrev return_not_last : List Node
return_not_last =
    node R.Source (1 ∷ 16 ∷ 22 ∷ []) ∷
    node R.Function (2 ∷ 3 ∷ 4 ∷ 5 ∷ 6 ∷ []) ∷
    tok (T.Word W.IntWord) 0 3 1 1 ∷
    tok (T.Name (102 ∷ [])) 4 5 1 5 ∷
    tok (T.Mark W.LeftParen) 5 6 1 6 ∷
    tok (T.Mark W.RightParen) 6 7 1 7 ∷
    node R.Block (7 ∷ 8 ∷ 13 ∷ 15 ∷ []) ∷
    tok (T.Mark W.LeftBrace) 8 9 1 9 ∷
    node R.Stmt (9 ∷ 10 ∷ 12 ∷ []) ∷
    tok (T.Word W.ReturnWord) 10 16 1 11 ∷
    node R.Unary (11 ∷ []) ∷
    tok (T.Number (pos 1)) 17 18 1 18 ∷
    tok (T.Mark W.Semicolon) 18 19 1 19 ∷
    node R.Stmt (14 ∷ []) ∷
    tok (T.Mark W.Semicolon) 20 21 1 21 ∷
    tok (T.Mark W.RightBrace) 22 23 1 23 ∷
    node R.Process (17 ∷ 18 ∷ 19 ∷ []) ∷
    tok (T.Word W.ProcessWord) 24 31 1 25 ∷
    tok (T.Name (112 ∷ [])) 32 33 1 33 ∷
    node R.Block (20 ∷ 21 ∷ []) ∷
    tok (T.Mark W.LeftBrace) 34 35 1 35 ∷
    tok (T.Mark W.RightBrace) 36 37 1 37 ∷
    tok T.End 37 37 1 38 ∷ []

return_not_last_first : first (faults_in (source_of (tree_of return_not_last))) ≡ Some (at (place 1 11) ReturnPlace)
return_not_last_first = refl

-- void f() { if (1) return; } process p { }
abbrev return_in_a_branch : List Node
return_in_a_branch =
    node R.Source (1 ∷ 18 ∷ 24 ∷ []) ∷
    node R.Function (2 ∷ 3 ∷ 4 ∷ 5 ∷ 6 ∷ []) ∷
    tok (T.Word W.VoidWord) 0 4 1 1 ∷
    tok (T.Name (102 ∷ [])) 5 6 1 6 ∷
    tok (T.Mark W.LeftParen) 6 7 1 7 ∷
    tok (T.Mark W.RightParen) 7 8 1 8 ∷
    node R.Block (7 ∷ 8 ∷ 17 ∷ []) ∷
    tok (T.Mark W.LeftBrace) 9 10 1 10 ∷
    node R.Stmt (9 ∷ 10 ∷ 11 ∷ 13 ∷ 14 ∷ []) ∷
    tok (T.Word W.IfWord) 11 13 1 12 ∷
    tok (T.Mark W.LeftParen) 14 15 1 15 ∷
    node R.Unary (12 ∷ []) ∷
    tok (T.Number (pos 1)) 15 16 1 16 ∷
    tok (T.Mark W.RightParen) 16 17 1 17 ∷
    node R.Stmt (15 ∷ 16 ∷ []) ∷
    tok (T.Word W.ReturnWord) 18 24 1 19 ∷
    tok (T.Mark W.Semicolon) 24 25 1 25 ∷
    tok (T.Mark W.RightBrace) 26 27 1 27 ∷
    node R.Process (19 ∷ 20 ∷ 21 ∷ []) ∷
    tok (T.Word W.ProcessWord) 28 35 1 29 ∷
    tok (T.Name (112 ∷ [])) 36 37 1 37 ∷
    node R.Block (22 ∷ 23 ∷ []) ∷
    tok (T.Mark W.LeftBrace) 38 39 1 39 ∷
    tok (T.Mark W.RightBrace) 40 41 1 41 ∷
    tok T.End 41 41 1 42 ∷ []

return_in_a_branch_first : first (faults_in (source_of (tree_of return_in_a_branch))) ≡ Some (at (place 1 19) ReturnPlace)
return_in_a_branch_first = refl

-- void f() { return 1; } process p { }
abbrev return_with_a_value : List Node
return_with_a_value =
    node R.Source (1 ∷ 14 ∷ 20 ∷ []) ∷
    node R.Function (2 ∷ 3 ∷ 4 ∷ 5 ∷ 6 ∷ []) ∷
    tok (T.Word W.VoidWord) 0 4 1 1 ∷
    tok (T.Name (102 ∷ [])) 5 6 1 6 ∷
    tok (T.Mark W.LeftParen) 6 7 1 7 ∷
    tok (T.Mark W.RightParen) 7 8 1 8 ∷
    node R.Block (7 ∷ 8 ∷ 13 ∷ []) ∷
    tok (T.Mark W.LeftBrace) 9 10 1 10 ∷
    node R.Stmt (9 ∷ 10 ∷ 12 ∷ []) ∷
    tok (T.Word W.ReturnWord) 11 17 1 12 ∷
    node R.Unary (11 ∷ []) ∷
    tok (T.Number (pos 1)) 18 19 1 19 ∷
    tok (T.Mark W.Semicolon) 19 20 1 20 ∷
    tok (T.Mark W.RightBrace) 21 22 1 22 ∷
    node R.Process (15 ∷ 16 ∷ 17 ∷ []) ∷
    tok (T.Word W.ProcessWord) 23 30 1 24 ∷
    tok (T.Name (112 ∷ [])) 31 32 1 32 ∷
    node R.Block (18 ∷ 19 ∷ []) ∷
    tok (T.Mark W.LeftBrace) 33 34 1 34 ∷
    tok (T.Mark W.RightBrace) 35 36 1 36 ∷
    tok T.End 36 36 1 37 ∷ []

return_with_a_value_first : first (faults_in (source_of (tree_of return_with_a_value))) ≡ Some (at (place 1 12) ReturnPlace)
return_with_a_value_first = refl

-- int f() { return; } process p { }
abbrev return_without_a_value : List Node
return_without_a_value =
    node R.Source (1 ∷ 12 ∷ 18 ∷ []) ∷
    node R.Function (2 ∷ 3 ∷ 4 ∷ 5 ∷ 6 ∷ []) ∷
    tok (T.Word W.IntWord) 0 3 1 1 ∷
    tok (T.Name (102 ∷ [])) 4 5 1 5 ∷
    tok (T.Mark W.LeftParen) 5 6 1 6 ∷
    tok (T.Mark W.RightParen) 6 7 1 7 ∷
    node R.Block (7 ∷ 8 ∷ 11 ∷ []) ∷
    tok (T.Mark W.LeftBrace) 8 9 1 9 ∷
    node R.Stmt (9 ∷ 10 ∷ []) ∷
    tok (T.Word W.ReturnWord) 10 16 1 11 ∷
    tok (T.Mark W.Semicolon) 16 17 1 17 ∷
    tok (T.Mark W.RightBrace) 18 19 1 19 ∷
    node R.Process (13 ∷ 14 ∷ 15 ∷ []) ∷
    tok (T.Word W.ProcessWord) 20 27 1 21 ∷
    tok (T.Name (112 ∷ [])) 28 29 1 29 ∷
    node R.Block (16 ∷ 17 ∷ []) ∷
    tok (T.Mark W.LeftBrace) 30 31 1 31 ∷
    tok (T.Mark W.RightBrace) 32 33 1 33 ∷
    tok T.End 33 33 1 34 ∷ []

return_without_a_value_first : first (faults_in (source_of (tree_of return_without_a_value))) ≡ Some (at (place 1 11) ReturnPlace)
return_without_a_value_first = refl

-- int f() { } process p { }
abbrev no_last_return : List Node
no_last_return =
    node R.Source (1 ∷ 9 ∷ 15 ∷ []) ∷
    node R.Function (2 ∷ 3 ∷ 4 ∷ 5 ∷ 6 ∷ []) ∷
    tok (T.Word W.IntWord) 0 3 1 1 ∷
    tok (T.Name (102 ∷ [])) 4 5 1 5 ∷
    tok (T.Mark W.LeftParen) 5 6 1 6 ∷
    tok (T.Mark W.RightParen) 6 7 1 7 ∷
    node R.Block (7 ∷ 8 ∷ []) ∷
    tok (T.Mark W.LeftBrace) 8 9 1 9 ∷
    tok (T.Mark W.RightBrace) 10 11 1 11 ∷
    node R.Process (10 ∷ 11 ∷ 12 ∷ []) ∷
    tok (T.Word W.ProcessWord) 12 19 1 13 ∷
    tok (T.Name (112 ∷ [])) 20 21 1 21 ∷
    node R.Block (13 ∷ 14 ∷ []) ∷
    tok (T.Mark W.LeftBrace) 22 23 1 23 ∷
    tok (T.Mark W.RightBrace) 24 25 1 25 ∷
    tok T.End 25 25 1 26 ∷ []

no_last_return_first : first (faults_in (source_of (tree_of no_last_return))) ≡ Some (at (place 1 11) ReturnPlace)
no_last_return_first = refl

-- void f() { } process p { int x = f(); }
abbrev void_value : List Node
void_value =
    node R.Source (1 ∷ 9 ∷ 26 ∷ []) ∷
    node R.Function (2 ∷ 3 ∷ 4 ∷ 5 ∷ 6 ∷ []) ∷
    tok (T.Word W.VoidWord) 0 4 1 1 ∷
    tok (T.Name (102 ∷ [])) 5 6 1 6 ∷
    tok (T.Mark W.LeftParen) 6 7 1 7 ∷
    tok (T.Mark W.RightParen) 7 8 1 8 ∷
    node R.Block (7 ∷ 8 ∷ []) ∷
    tok (T.Mark W.LeftBrace) 9 10 1 10 ∷
    tok (T.Mark W.RightBrace) 11 12 1 12 ∷
    node R.Process (10 ∷ 11 ∷ 12 ∷ []) ∷
    tok (T.Word W.ProcessWord) 13 20 1 14 ∷
    tok (T.Name (112 ∷ [])) 21 22 1 22 ∷
    node R.Block (13 ∷ 14 ∷ 25 ∷ []) ∷
    tok (T.Mark W.LeftBrace) 23 24 1 24 ∷
    node R.Local (15 ∷ 16 ∷ 24 ∷ []) ∷
    tok (T.Word W.IntWord) 25 28 1 26 ∷
    node R.Litem (17 ∷ 18 ∷ 19 ∷ []) ∷
    tok (T.Name (120 ∷ [])) 29 30 1 30 ∷
    tok (T.Mark W.AssignMark) 31 32 1 32 ∷
    node R.Value (20 ∷ []) ∷
    node R.Call (21 ∷ 22 ∷ 23 ∷ []) ∷
    tok (T.Name (102 ∷ [])) 33 34 1 34 ∷
    tok (T.Mark W.LeftParen) 34 35 1 35 ∷
    tok (T.Mark W.RightParen) 35 36 1 36 ∷
    tok (T.Mark W.Semicolon) 36 37 1 37 ∷
    tok (T.Mark W.RightBrace) 38 39 1 39 ∷
    tok T.End 39 39 1 40 ∷ []

void_value_first : first (faults_in (source_of (tree_of void_value))) ≡ Some (at (place 1 34) VoidValue)
void_value_first = refl

-- void f(int a) { } process p { int x = f(); }
abbrev arity_before_void_value : List Node
arity_before_void_value =
    node R.Source (1 ∷ 12 ∷ 29 ∷ []) ∷
    node R.Function (2 ∷ 3 ∷ 4 ∷ 5 ∷ 8 ∷ 9 ∷ []) ∷
    tok (T.Word W.VoidWord) 0 4 1 1 ∷
    tok (T.Name (102 ∷ [])) 5 6 1 6 ∷
    tok (T.Mark W.LeftParen) 6 7 1 7 ∷
    node R.Params (6 ∷ 7 ∷ []) ∷
    tok (T.Word W.IntWord) 7 10 1 8 ∷
    tok (T.Name (97 ∷ [])) 11 12 1 12 ∷
    tok (T.Mark W.RightParen) 12 13 1 13 ∷
    node R.Block (10 ∷ 11 ∷ []) ∷
    tok (T.Mark W.LeftBrace) 14 15 1 15 ∷
    tok (T.Mark W.RightBrace) 16 17 1 17 ∷
    node R.Process (13 ∷ 14 ∷ 15 ∷ []) ∷
    tok (T.Word W.ProcessWord) 18 25 1 19 ∷
    tok (T.Name (112 ∷ [])) 26 27 1 27 ∷
    node R.Block (16 ∷ 17 ∷ 28 ∷ []) ∷
    tok (T.Mark W.LeftBrace) 28 29 1 29 ∷
    node R.Local (18 ∷ 19 ∷ 27 ∷ []) ∷
    tok (T.Word W.IntWord) 30 33 1 31 ∷
    node R.Litem (20 ∷ 21 ∷ 22 ∷ []) ∷
    tok (T.Name (120 ∷ [])) 34 35 1 35 ∷
    tok (T.Mark W.AssignMark) 36 37 1 37 ∷
    node R.Value (23 ∷ []) ∷
    node R.Call (24 ∷ 25 ∷ 26 ∷ []) ∷
    tok (T.Name (102 ∷ [])) 38 39 1 39 ∷
    tok (T.Mark W.LeftParen) 39 40 1 40 ∷
    tok (T.Mark W.RightParen) 40 41 1 41 ∷
    tok (T.Mark W.Semicolon) 41 42 1 42 ∷
    tok (T.Mark W.RightBrace) 43 44 1 44 ∷
    tok T.End 44 44 1 45 ∷ []

arity_before_void_value_first : first (faults_in (source_of (tree_of arity_before_void_value))) ≡ Some (at (place 1 39) Arity)
arity_before_void_value_first = refl

-- process p { int b[300]; }
abbrev local_length : List Node
local_length =
    node R.Source (1 ∷ 15 ∷ []) ∷
    node R.Process (2 ∷ 3 ∷ 4 ∷ []) ∷
    tok (T.Word W.ProcessWord) 0 7 1 1 ∷
    tok (T.Name (112 ∷ [])) 8 9 1 9 ∷
    node R.Block (5 ∷ 6 ∷ 14 ∷ []) ∷
    tok (T.Mark W.LeftBrace) 10 11 1 11 ∷
    node R.Local (7 ∷ 8 ∷ 13 ∷ []) ∷
    tok (T.Word W.IntWord) 12 15 1 13 ∷
    node R.Litem (9 ∷ 10 ∷ 11 ∷ 12 ∷ []) ∷
    tok (T.Name (98 ∷ [])) 16 17 1 17 ∷
    tok (T.Mark W.LeftBracket) 17 18 1 18 ∷
    tok (T.Number (pos 300)) 18 21 1 19 ∷
    tok (T.Mark W.RightBracket) 21 22 1 22 ∷
    tok (T.Mark W.Semicolon) 22 23 1 23 ∷
    tok (T.Mark W.RightBrace) 24 25 1 25 ∷
    tok T.End 25 25 1 26 ∷ []

local_length_first : first (faults_in (source_of (tree_of local_length))) ≡ Some (at (place 1 17) (TooMany L.Locals))
local_length_first = refl

-- shared int a[2000]; process p { }
abbrev shared_length : List Node
shared_length =
    node R.Source (1 ∷ 10 ∷ 16 ∷ []) ∷
    node R.Shared (2 ∷ 3 ∷ 4 ∷ 9 ∷ []) ∷
    tok (T.Word W.SharedWord) 0 6 1 1 ∷
    tok (T.Word W.IntWord) 7 10 1 8 ∷
    node R.Sitem (5 ∷ 6 ∷ 7 ∷ 8 ∷ []) ∷
    tok (T.Name (97 ∷ [])) 11 12 1 12 ∷
    tok (T.Mark W.LeftBracket) 12 13 1 13 ∷
    tok (T.Number (pos 2000)) 13 17 1 14 ∷
    tok (T.Mark W.RightBracket) 17 18 1 18 ∷
    tok (T.Mark W.Semicolon) 18 19 1 19 ∷
    node R.Process (11 ∷ 12 ∷ 13 ∷ []) ∷
    tok (T.Word W.ProcessWord) 20 27 1 21 ∷
    tok (T.Name (112 ∷ [])) 28 29 1 29 ∷
    node R.Block (14 ∷ 15 ∷ []) ∷
    tok (T.Mark W.LeftBrace) 30 31 1 31 ∷
    tok (T.Mark W.RightBrace) 32 33 1 33 ∷
    tok T.End 33 33 1 34 ∷ []

shared_length_first : first (faults_in (source_of (tree_of shared_length))) ≡ Some (at (place 1 12) (TooMany L.Shared))
shared_length_first = refl

-- shared int a[0]; process p { }
abbrev length_zero : List Node
length_zero =
    node R.Source (1 ∷ 10 ∷ 16 ∷ []) ∷
    node R.Shared (2 ∷ 3 ∷ 4 ∷ 9 ∷ []) ∷
    tok (T.Word W.SharedWord) 0 6 1 1 ∷
    tok (T.Word W.IntWord) 7 10 1 8 ∷
    node R.Sitem (5 ∷ 6 ∷ 7 ∷ 8 ∷ []) ∷
    tok (T.Name (97 ∷ [])) 11 12 1 12 ∷
    tok (T.Mark W.LeftBracket) 12 13 1 13 ∷
    tok (T.Number (pos 0)) 13 14 1 14 ∷
    tok (T.Mark W.RightBracket) 14 15 1 15 ∷
    tok (T.Mark W.Semicolon) 15 16 1 16 ∷
    node R.Process (11 ∷ 12 ∷ 13 ∷ []) ∷
    tok (T.Word W.ProcessWord) 17 24 1 18 ∷
    tok (T.Name (112 ∷ [])) 25 26 1 26 ∷
    node R.Block (14 ∷ 15 ∷ []) ∷
    tok (T.Mark W.LeftBrace) 27 28 1 28 ∷
    tok (T.Mark W.RightBrace) 29 30 1 30 ∷
    tok T.End 30 30 1 31 ∷ []

length_zero_first : first (faults_in (source_of (tree_of length_zero))) ≡ Some (at (place 1 14) BadSize)
length_zero_first = refl

-- chan c[65]; process p { }
abbrev capacity : List Node
capacity =
    node R.Source (1 ∷ 8 ∷ 14 ∷ []) ∷
    node R.Chans (2 ∷ 3 ∷ 4 ∷ 5 ∷ 6 ∷ 7 ∷ []) ∷
    tok (T.Word W.ChanWord) 0 4 1 1 ∷
    tok (T.Name (99 ∷ [])) 5 6 1 6 ∷
    tok (T.Mark W.LeftBracket) 6 7 1 7 ∷
    tok (T.Number (pos 65)) 7 9 1 8 ∷
    tok (T.Mark W.RightBracket) 9 10 1 10 ∷
    tok (T.Mark W.Semicolon) 10 11 1 11 ∷
    node R.Process (9 ∷ 10 ∷ 11 ∷ []) ∷
    tok (T.Word W.ProcessWord) 12 19 1 13 ∷
    tok (T.Name (112 ∷ [])) 20 21 1 21 ∷
    node R.Block (12 ∷ 13 ∷ []) ∷
    tok (T.Mark W.LeftBrace) 22 23 1 23 ∷
    tok (T.Mark W.RightBrace) 24 25 1 25 ∷
    tok T.End 25 25 1 26 ∷ []

capacity_first : first (faults_in (source_of (tree_of capacity))) ≡ Some (at (place 1 8) BadSize)
capacity_first = refl

-- sem s = 65536; process p { }
abbrev start_value : List Node
start_value =
    node R.Source (1 ∷ 7 ∷ 13 ∷ []) ∷
    node R.Sems (2 ∷ 3 ∷ 4 ∷ 5 ∷ 6 ∷ []) ∷
    tok (T.Word W.SemWord) 0 3 1 1 ∷
    tok (T.Name (115 ∷ [])) 4 5 1 5 ∷
    tok (T.Mark W.AssignMark) 6 7 1 7 ∷
    tok (T.Number (pos 65536)) 8 13 1 9 ∷
    tok (T.Mark W.Semicolon) 13 14 1 14 ∷
    node R.Process (8 ∷ 9 ∷ 10 ∷ []) ∷
    tok (T.Word W.ProcessWord) 15 22 1 16 ∷
    tok (T.Name (112 ∷ [])) 23 24 1 24 ∷
    node R.Block (11 ∷ 12 ∷ []) ∷
    tok (T.Mark W.LeftBrace) 25 26 1 26 ∷
    tok (T.Mark W.RightBrace) 27 28 1 28 ∷
    tok T.End 28 28 1 29 ∷ []

start_value_first : first (faults_in (source_of (tree_of start_value))) ≡ Some (at (place 1 9) BadSize)
start_value_first = refl

-- shared int a[2]; int f() { return 1; } process p { int b[256]; a[0] = f(); }
abbrev hidden_local_past_the_limit : List Node
hidden_local_past_the_limit =
    node R.Source (1 ∷ 10 ∷ 23 ∷ 51 ∷ []) ∷
    node R.Shared (2 ∷ 3 ∷ 4 ∷ 9 ∷ []) ∷
    tok (T.Word W.SharedWord) 0 6 1 1 ∷
    tok (T.Word W.IntWord) 7 10 1 8 ∷
    node R.Sitem (5 ∷ 6 ∷ 7 ∷ 8 ∷ []) ∷
    tok (T.Name (97 ∷ [])) 11 12 1 12 ∷
    tok (T.Mark W.LeftBracket) 12 13 1 13 ∷
    tok (T.Number (pos 2)) 13 14 1 14 ∷
    tok (T.Mark W.RightBracket) 14 15 1 15 ∷
    tok (T.Mark W.Semicolon) 15 16 1 16 ∷
    node R.Function (11 ∷ 12 ∷ 13 ∷ 14 ∷ 15 ∷ []) ∷
    tok (T.Word W.IntWord) 17 20 1 18 ∷
    tok (T.Name (102 ∷ [])) 21 22 1 22 ∷
    tok (T.Mark W.LeftParen) 22 23 1 23 ∷
    tok (T.Mark W.RightParen) 23 24 1 24 ∷
    node R.Block (16 ∷ 17 ∷ 22 ∷ []) ∷
    tok (T.Mark W.LeftBrace) 25 26 1 26 ∷
    node R.Stmt (18 ∷ 19 ∷ 21 ∷ []) ∷
    tok (T.Word W.ReturnWord) 27 33 1 28 ∷
    node R.Unary (20 ∷ []) ∷
    tok (T.Number (pos 1)) 34 35 1 35 ∷
    tok (T.Mark W.Semicolon) 35 36 1 36 ∷
    tok (T.Mark W.RightBrace) 37 38 1 38 ∷
    node R.Process (24 ∷ 25 ∷ 26 ∷ []) ∷
    tok (T.Word W.ProcessWord) 39 46 1 40 ∷
    tok (T.Name (112 ∷ [])) 47 48 1 48 ∷
    node R.Block (27 ∷ 28 ∷ 36 ∷ 50 ∷ []) ∷
    tok (T.Mark W.LeftBrace) 49 50 1 50 ∷
    node R.Local (29 ∷ 30 ∷ 35 ∷ []) ∷
    tok (T.Word W.IntWord) 51 54 1 52 ∷
    node R.Litem (31 ∷ 32 ∷ 33 ∷ 34 ∷ []) ∷
    tok (T.Name (98 ∷ [])) 55 56 1 56 ∷
    tok (T.Mark W.LeftBracket) 56 57 1 57 ∷
    tok (T.Number (pos 256)) 57 60 1 58 ∷
    tok (T.Mark W.RightBracket) 60 61 1 61 ∷
    tok (T.Mark W.Semicolon) 61 62 1 62 ∷
    node R.Stmt (37 ∷ 43 ∷ 44 ∷ 49 ∷ []) ∷
    node R.Place (38 ∷ 39 ∷ 40 ∷ 42 ∷ []) ∷
    tok (T.Name (97 ∷ [])) 63 64 1 64 ∷
    tok (T.Mark W.LeftBracket) 64 65 1 65 ∷
    node R.Unary (41 ∷ []) ∷
    tok (T.Number (pos 0)) 65 66 1 66 ∷
    tok (T.Mark W.RightBracket) 66 67 1 67 ∷
    tok (T.Mark W.AssignMark) 68 69 1 69 ∷
    node R.Value (45 ∷ []) ∷
    node R.Call (46 ∷ 47 ∷ 48 ∷ []) ∷
    tok (T.Name (102 ∷ [])) 70 71 1 71 ∷
    tok (T.Mark W.LeftParen) 71 72 1 72 ∷
    tok (T.Mark W.RightParen) 72 73 1 73 ∷
    tok (T.Mark W.Semicolon) 73 74 1 74 ∷
    tok (T.Mark W.RightBrace) 75 76 1 76 ∷
    tok T.End 76 76 1 77 ∷ []

hidden_local_past_the_limit_first : first (faults_in (source_of (tree_of hidden_local_past_the_limit))) ≡ Some (at (place 1 64) (TooMany L.Locals))
hidden_local_past_the_limit_first = refl

-- process p { int b[255], c, d; }
abbrev last_cell : List Node
last_cell =
    node R.Source (1 ∷ 21 ∷ []) ∷
    node R.Process (2 ∷ 3 ∷ 4 ∷ []) ∷
    tok (T.Word W.ProcessWord) 0 7 1 1 ∷
    tok (T.Name (112 ∷ [])) 8 9 1 9 ∷
    node R.Block (5 ∷ 6 ∷ 20 ∷ []) ∷
    tok (T.Mark W.LeftBrace) 10 11 1 11 ∷
    node R.Local (7 ∷ 8 ∷ 13 ∷ 14 ∷ 16 ∷ 17 ∷ 19 ∷ []) ∷
    tok (T.Word W.IntWord) 12 15 1 13 ∷
    node R.Litem (9 ∷ 10 ∷ 11 ∷ 12 ∷ []) ∷
    tok (T.Name (98 ∷ [])) 16 17 1 17 ∷
    tok (T.Mark W.LeftBracket) 17 18 1 18 ∷
    tok (T.Number (pos 255)) 18 21 1 19 ∷
    tok (T.Mark W.RightBracket) 21 22 1 22 ∷
    tok (T.Mark W.Comma) 22 23 1 23 ∷
    node R.Litem (15 ∷ []) ∷
    tok (T.Name (99 ∷ [])) 24 25 1 25 ∷
    tok (T.Mark W.Comma) 25 26 1 26 ∷
    node R.Litem (18 ∷ []) ∷
    tok (T.Name (100 ∷ [])) 27 28 1 28 ∷
    tok (T.Mark W.Semicolon) 28 29 1 29 ∷
    tok (T.Mark W.RightBrace) 30 31 1 31 ∷
    tok T.End 31 31 1 32 ∷ []

last_cell_first : first (faults_in (source_of (tree_of last_cell))) ≡ Some (at (place 1 28) (TooMany L.Locals))
last_cell_first = refl

-- process p { print(1); q = z; } shared int p;
abbrev rules_at_later_places : List Node
rules_at_later_places =
    node R.Source (1 ∷ 23 ∷ 29 ∷ []) ∷
    node R.Process (2 ∷ 3 ∷ 4 ∷ []) ∷
    tok (T.Word W.ProcessWord) 0 7 1 1 ∷
    tok (T.Name (112 ∷ [])) 8 9 1 9 ∷
    node R.Block (5 ∷ 6 ∷ 13 ∷ 22 ∷ []) ∷
    tok (T.Mark W.LeftBrace) 10 11 1 11 ∷
    node R.Stmt (7 ∷ 8 ∷ 9 ∷ 11 ∷ 12 ∷ []) ∷
    tok (T.Word W.PrintWord) 12 17 1 13 ∷
    tok (T.Mark W.LeftParen) 17 18 1 18 ∷
    node R.Unary (10 ∷ []) ∷
    tok (T.Number (pos 1)) 18 19 1 19 ∷
    tok (T.Mark W.RightParen) 19 20 1 20 ∷
    tok (T.Mark W.Semicolon) 20 21 1 21 ∷
    node R.Stmt (14 ∷ 21 ∷ []) ∷
    node R.Change (15 ∷ 17 ∷ 18 ∷ []) ∷
    node R.Place (16 ∷ []) ∷
    tok (T.Name (113 ∷ [])) 22 23 1 23 ∷
    tok (T.Mark W.AssignMark) 24 25 1 25 ∷
    node R.Unary (19 ∷ []) ∷
    node R.Place (20 ∷ []) ∷
    tok (T.Name (122 ∷ [])) 26 27 1 27 ∷
    tok (T.Mark W.Semicolon) 27 28 1 28 ∷
    tok (T.Mark W.RightBrace) 29 30 1 30 ∷
    node R.Shared (24 ∷ 25 ∷ 26 ∷ 28 ∷ []) ∷
    tok (T.Word W.SharedWord) 31 37 1 32 ∷
    tok (T.Word W.IntWord) 38 41 1 39 ∷
    node R.Sitem (27 ∷ []) ∷
    tok (T.Name (112 ∷ [])) 42 43 1 43 ∷
    tok (T.Mark W.Semicolon) 43 44 1 44 ∷
    tok T.End 44 44 1 45 ∷ []

rules_at_later_places_first : first (faults_in (source_of (tree_of rules_at_later_places))) ≡ Some (at (place 1 23) Unknown)
rules_at_later_places_first = refl

-- process p { for (; ; x = 1) y = 2; }
abbrev step_before_body : List Node
step_before_body =
    node R.Source (1 ∷ 27 ∷ []) ∷
    node R.Process (2 ∷ 3 ∷ 4 ∷ []) ∷
    tok (T.Word W.ProcessWord) 0 7 1 1 ∷
    tok (T.Name (112 ∷ [])) 8 9 1 9 ∷
    node R.Block (5 ∷ 6 ∷ 26 ∷ []) ∷
    tok (T.Mark W.LeftBrace) 10 11 1 11 ∷
    node R.Stmt (7 ∷ 8 ∷ 9 ∷ 10 ∷ 11 ∷ 17 ∷ 18 ∷ []) ∷
    tok (T.Word W.ForWord) 12 15 1 13 ∷
    tok (T.Mark W.LeftParen) 16 17 1 17 ∷
    tok (T.Mark W.Semicolon) 17 18 1 18 ∷
    tok (T.Mark W.Semicolon) 19 20 1 20 ∷
    node R.Change (12 ∷ 14 ∷ 15 ∷ []) ∷
    node R.Place (13 ∷ []) ∷
    tok (T.Name (120 ∷ [])) 21 22 1 22 ∷
    tok (T.Mark W.AssignMark) 23 24 1 24 ∷
    node R.Unary (16 ∷ []) ∷
    tok (T.Number (pos 1)) 25 26 1 26 ∷
    tok (T.Mark W.RightParen) 26 27 1 27 ∷
    node R.Stmt (19 ∷ 25 ∷ []) ∷
    node R.Change (20 ∷ 22 ∷ 23 ∷ []) ∷
    node R.Place (21 ∷ []) ∷
    tok (T.Name (121 ∷ [])) 28 29 1 29 ∷
    tok (T.Mark W.AssignMark) 30 31 1 31 ∷
    node R.Unary (24 ∷ []) ∷
    tok (T.Number (pos 2)) 32 33 1 33 ∷
    tok (T.Mark W.Semicolon) 33 34 1 34 ∷
    tok (T.Mark W.RightBrace) 35 36 1 36 ∷
    tok T.End 36 36 1 37 ∷ []

step_before_body_first : first (faults_in (source_of (tree_of step_before_body))) ≡ Some (at (place 1 22) Unknown)
step_before_body_first = refl
