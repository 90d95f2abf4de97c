-- How a symbol is made up, where a token of some kind is next: the grammar's table, a row for each kind of token.
use Rattle.std.specs.Prelude.{ℕ, List, ◌++◌, reverse, Option, Some, None, cond}
use Rattle.ppd_parse.specs.declared.token.Kind.{Kind}
use Rattle.ppd_parse.specs.declared.token.Kind.TheVariants as K
use Rattle.ppd_parse.specs.declared.symbol.Symbol.{Symbol}
use Rattle.ppd_parse.specs.declared.symbol.Symbol.TheVariants as S
use Rattle.ppd_parse.specs.declared.symbol.At.{At}
use Rattle.ppd_parse.specs.declared.symbol.Part.{Part}
use Rattle.ppd_parse.specs.declared.symbol.Want.{Want}
use Rattle.ppd_parse.specs.Grammar.{Production, parts, is_operator, operand, wants_in, chain_end, chain_more, source, items_end, items_shared, items_sems, items_chans, items_function, items_process, shared, shared_end, shared_more, shared_item, no_start, start, shared_length, start_plain, start_minus, sems, no_sem_start, sem_start, sems_end, sems_more, chans, chans_end, chans_more, function_int, function_void, no_params, some_params, params_void, params_int, params_end, params_more, process, block, stmts_end, stmts_local, stmts_more, local, local_end, local_more, local_item, no_local_start, local_start, local_length, value_recv, value_plain, call_or_name, other_expr, named_call, named_expr, no_args, some_args, args_end, args_more, place, no_index, index, change, assign, add, subtract, increase, decrease, expr, expr_rest, unary_place, unary_other, minus, negation, parens, number, stmt_block, stmt_empty, stmt_name, stmt_if, stmt_while, stmt_for, stmt_return, stmt_take, stmt_give, stmt_send, stmt_print, stmt_assert, rest_call, rest_element, rest_scalar, rest_assign, rest_add, rest_subtract, rest_increase, rest_decrease, assigned_recv, assigned_name, assigned_other, assigned_call, assigned_expr, no_else, some_else, for_plain, for_local, for_change, for_ever, for_while, for_still, for_step, return_plain, return_value}

pub data Choice (y : Symbol) : Type 0 where
  chosen : Production y → Choice y
  refused : Choice y

-- the production of a symbol; an operator or one token has none
abbrev pub choose : (y : Symbol) → Kind → Choice y
choose (S.Operand l) k = chosen (operand l)
choose (S.Chain l) k = cond (is_operator l k) (chosen (chain_more l)) (chosen (chain_end l))
choose S.Source _ = chosen source
choose S.Items K.End = chosen items_end
choose S.Items K.SharedWord = chosen items_shared
choose S.Items K.SemWord = chosen items_sems
choose S.Items K.ChanWord = chosen items_chans
choose S.Items K.IntWord = chosen items_function
choose S.Items K.VoidWord = chosen items_function
choose S.Items K.ProcessWord = chosen items_process
choose S.Shared K.SharedWord = chosen shared
choose S.SharedItems K.Semicolon = chosen shared_end
choose S.SharedItems K.Comma = chosen shared_more
choose S.SharedItem _ = chosen shared_item
choose S.SharedStart K.AssignMark = chosen start
choose S.SharedStart K.LeftBracket = chosen shared_length
choose S.SharedStart _ = chosen no_start
choose S.StartValue K.Number = chosen start_plain
choose S.StartValue K.MinusMark = chosen start_minus
choose S.Sems K.SemWord = chosen sems
choose S.SemStart K.AssignMark = chosen sem_start
choose S.SemStart _ = chosen no_sem_start
choose S.SemItems K.Semicolon = chosen sems_end
choose S.SemItems K.Comma = chosen sems_more
choose S.Chans K.ChanWord = chosen chans
choose S.ChanItems K.Semicolon = chosen chans_end
choose S.ChanItems K.Comma = chosen chans_more
choose S.Function K.IntWord = chosen function_int
choose S.Function K.VoidWord = chosen function_void
choose S.ParamsEnd K.RightParen = chosen no_params
choose S.ParamsEnd K.IntWord = chosen some_params
choose S.ParamsEnd K.VoidWord = chosen some_params
choose S.Params K.VoidWord = chosen params_void
choose S.Params K.IntWord = chosen params_int
choose S.ParamItems K.Comma = chosen params_more
choose S.ParamItems _ = chosen params_end
choose S.Process K.ProcessWord = chosen process
choose S.Block K.LeftBrace = chosen block
choose S.Stmts K.RightBrace = chosen stmts_end
choose S.Stmts K.IntWord = chosen stmts_local
choose S.Stmts K.LeftBrace = chosen stmts_more
choose S.Stmts K.Semicolon = chosen stmts_more
choose S.Stmts K.Name = chosen stmts_more
choose S.Stmts K.IfWord = chosen stmts_more
choose S.Stmts K.WhileWord = chosen stmts_more
choose S.Stmts K.ForWord = chosen stmts_more
choose S.Stmts K.ReturnWord = chosen stmts_more
choose S.Stmts K.TakeWord = chosen stmts_more
choose S.Stmts K.GiveWord = chosen stmts_more
choose S.Stmts K.SendWord = chosen stmts_more
choose S.Stmts K.PrintWord = chosen stmts_more
choose S.Stmts K.AssertWord = chosen stmts_more
choose S.Local K.IntWord = chosen local
choose S.LocalItems K.Semicolon = chosen local_end
choose S.LocalItems K.Comma = chosen local_more
choose S.LocalItem _ = chosen local_item
choose S.LocalStart K.AssignMark = chosen local_start
choose S.LocalStart K.LeftBracket = chosen local_length
choose S.LocalStart _ = chosen no_local_start
choose S.Value K.RecvWord = chosen value_recv
choose S.Value K.MinusMark = chosen value_plain
choose S.Value K.NotMark = chosen value_plain
choose S.Value K.LeftParen = chosen value_plain
choose S.Value K.Number = chosen value_plain
choose S.Value K.Name = chosen value_plain
choose S.CallOrExpr K.Name = chosen call_or_name
choose S.CallOrExpr K.MinusMark = chosen other_expr
choose S.CallOrExpr K.NotMark = chosen other_expr
choose S.CallOrExpr K.LeftParen = chosen other_expr
choose S.CallOrExpr K.Number = chosen other_expr
choose S.NamedRest K.LeftParen = chosen named_call
choose S.NamedRest _ = chosen named_expr
choose S.Args K.RightParen = chosen no_args
choose S.Args K.MinusMark = chosen some_args
choose S.Args K.NotMark = chosen some_args
choose S.Args K.LeftParen = chosen some_args
choose S.Args K.Number = chosen some_args
choose S.Args K.Name = chosen some_args
choose S.ArgsMore K.RightParen = chosen args_end
choose S.ArgsMore K.Comma = chosen args_more
choose S.Place K.Name = chosen place
choose S.PlaceEnd K.LeftBracket = chosen index
choose S.PlaceEnd _ = chosen no_index
choose S.Change K.Name = chosen change
choose S.ChangeEnd K.AssignMark = chosen assign
choose S.ChangeEnd K.AddMark = chosen add
choose S.ChangeEnd K.SubtractMark = chosen subtract
choose S.ChangeEnd K.IncreaseMark = chosen increase
choose S.ChangeEnd K.DecreaseMark = chosen decrease
choose S.Expr K.MinusMark = chosen expr
choose S.Expr K.NotMark = chosen expr
choose S.Expr K.LeftParen = chosen expr
choose S.Expr K.Number = chosen expr
choose S.Expr K.Name = chosen expr
choose S.ExprRest _ = chosen expr_rest
choose S.Unary K.Name = chosen unary_place
choose S.Unary K.MinusMark = chosen unary_other
choose S.Unary K.NotMark = chosen unary_other
choose S.Unary K.LeftParen = chosen unary_other
choose S.Unary K.Number = chosen unary_other
choose S.OtherUnary K.MinusMark = chosen minus
choose S.OtherUnary K.NotMark = chosen negation
choose S.OtherUnary K.LeftParen = chosen parens
choose S.OtherUnary K.Number = chosen number
choose S.Stmt K.LeftBrace = chosen stmt_block
choose S.Stmt K.Semicolon = chosen stmt_empty
choose S.Stmt K.Name = chosen stmt_name
choose S.Stmt K.IfWord = chosen stmt_if
choose S.Stmt K.WhileWord = chosen stmt_while
choose S.Stmt K.ForWord = chosen stmt_for
choose S.Stmt K.ReturnWord = chosen stmt_return
choose S.Stmt K.TakeWord = chosen stmt_take
choose S.Stmt K.GiveWord = chosen stmt_give
choose S.Stmt K.SendWord = chosen stmt_send
choose S.Stmt K.PrintWord = chosen stmt_print
choose S.Stmt K.AssertWord = chosen stmt_assert
choose S.StmtRest K.LeftParen = chosen rest_call
choose S.StmtRest K.LeftBracket = chosen rest_element
choose S.StmtRest K.AssignMark = chosen rest_scalar
choose S.StmtRest K.AddMark = chosen rest_scalar
choose S.StmtRest K.SubtractMark = chosen rest_scalar
choose S.StmtRest K.IncreaseMark = chosen rest_scalar
choose S.StmtRest K.DecreaseMark = chosen rest_scalar
choose S.PlaceRest K.AssignMark = chosen rest_assign
choose S.PlaceRest K.AddMark = chosen rest_add
choose S.PlaceRest K.SubtractMark = chosen rest_subtract
choose S.PlaceRest K.IncreaseMark = chosen rest_increase
choose S.PlaceRest K.DecreaseMark = chosen rest_decrease
choose S.Assigned K.RecvWord = chosen assigned_recv
choose S.Assigned K.Name = chosen assigned_name
choose S.Assigned K.MinusMark = chosen assigned_other
choose S.Assigned K.NotMark = chosen assigned_other
choose S.Assigned K.LeftParen = chosen assigned_other
choose S.Assigned K.Number = chosen assigned_other
choose S.AssignedRest K.LeftParen = chosen assigned_call
choose S.AssignedRest _ = chosen assigned_expr
choose S.ElsePart K.ElseWord = chosen some_else
choose S.ElsePart _ = chosen no_else
choose S.ForStart K.Semicolon = chosen for_plain
choose S.ForStart K.IntWord = chosen for_local
choose S.ForStart K.Name = chosen for_change
choose S.ForTest K.Semicolon = chosen for_ever
choose S.ForTest K.MinusMark = chosen for_while
choose S.ForTest K.NotMark = chosen for_while
choose S.ForTest K.LeftParen = chosen for_while
choose S.ForTest K.Number = chosen for_while
choose S.ForTest K.Name = chosen for_while
choose S.ForStep K.RightParen = chosen for_still
choose S.ForStep K.Name = chosen for_step
choose S.ReturnEnd K.Semicolon = chosen return_plain
choose S.ReturnEnd K.MinusMark = chosen return_value
choose S.ReturnEnd K.NotMark = chosen return_value
choose S.ReturnEnd K.LeftParen = chosen return_value
choose S.ReturnEnd K.Number = chosen return_value
choose S.ReturnEnd K.Name = chosen return_value
choose _ _ = refused

abbrev pub parts_if : {y : Symbol} → Choice y → Option (List Part)
parts_if (chosen p) = Some (parts p)
parts_if refused = None

-- the parts that stand for a symbol there, if any do
abbrev pub expansion : Symbol → Kind → Option (List Part)
expansion (S.Chain l) k = cond (is_operator l k) (Some (parts (chain_more l))) (Some (parts (chain_end l)))
expansion y k = parts_if (choose y k)

-- a vector of wants, the last of them next, with the parts on top
unfoldable pub pushed : List Want → At → ℕ → List Part → List Want
pushed ws a b ps = ws ++ reverse (wants_in a b ps)
