-- What each production of the parser's grammar reads, as a right side of the language's grammar reads it.
use Rattle.std.proofs.Common.{◌≡◌, List, [], ◌∷◌, ◌++◌, sym, ◌∙◌, ap, subst, append_assoc}
use Rattle.ppd_parse.specs.declared.token.Kind.TheVariants as K
use Rattle.ppd_parse.specs.declared.symbol.Rule.TheVariants as R
use Rattle.ppd_parse.specs.declared.symbol.At.{At}
use Rattle.ppd_parse.specs.Grammar.{Shape, Marked, MayStand, no_else}
use Rattle.ppd_parse.specs.Language.{shared_side, shared_item_side, sems_side, chans_side, function_side, params_side, process_side, block_side, local_side, local_item_side, value_side, place_side, change_side, stmt_side, expr_side, unary_side, Phrase, word, the, ◌·◌, ◌∣◌, many, maybe, opened, made, parens, brackets, called, received, Is, side, both, left, right, done, more, absent, present, within, grouped}
use Rattle.ppd_parse.proofs.Vocabulary.{heading, else_part, NextIsNot}
use Rattle.ppd_parse.proofs.Usual.{declarations, expressions}

-- ---- one phrase after another

pub regroup : {f g k : Phrase} {a : At} {t : List Shape} {ts rest : List Marked} → Is (f · (g · k)) a ts t rest → Is ((f · g) · k) a ts t rest
regroup {f} {g} {k} {a} {ts = ts} {rest = rest} (both {t = t} d (both {t = u} {u = v} e r)) = subst (λ z. Is ((f · g) · k) a ts z rest) (append_assoc t u v) (both (both d e) r)

pub ungroup : {f g k : Phrase} {a : At} {t : List Shape} {ts rest : List Marked} → Is ((f · g) · k) a ts t rest → Is (f · (g · k)) a ts t rest
ungroup {f} {g} {k} {a} {ts = ts} {rest = rest} (both {u = v} (both {t = t} {u = u} d e) r) = subst (λ z. Is (f · (g · k)) a ts z rest) (sym (append_assoc t u v)) (both d (both e r))

pub again : {f k : Phrase} {a : At} {t : List Shape} {ts rest : List Marked} → Is (f · (many f · k)) a ts t rest → Is (many f · k) a ts t rest
again {f} {k} {a} {ts = ts} {rest = rest} (both {t = t} d (both {t = u} {u = v} ds r)) = subst (λ z. Is (many f · k) a ts z rest) (append_assoc t u v) (both (more d ds) r)

pub again_last : {f : Phrase} {a : At} {t : List Shape} {ts rest : List Marked} → Is (f · many f) a ts t rest → Is (many f) a ts t rest
again_last (both d ds) = more d ds

pub no_more : {f k : Phrase} {a : At} {t : List Shape} {ts rest : List Marked} → Is k a ts t rest → Is (many f · k) a ts t rest
no_more d = both done d

pub given : {f k : Phrase} {a : At} {t : List Shape} {ts rest : List Marked} → Is (f · k) a ts t rest → Is (maybe f · k) a ts t rest
given (both d r) = both (present d) r

pub not_given : {f k : Phrase} {a : At} {t : List Shape} {ts rest : List Marked} → Is k a ts t rest → Is (maybe f · k) a ts t rest
not_given d = both absent d

-- ---- in one more open construct

pub opened_two : {f g : Phrase} {a : At} {t : List Shape} {ts rest : List Marked} → Is (opened f · opened g) a ts t rest → Is (opened (f · g)) a ts t rest
opened_two (both (within d) (within e)) = within (both d e)

pub opened_three : {f g h : Phrase} {a : At} {t : List Shape} {ts rest : List Marked} → Is (opened f · (opened g · opened h)) a ts t rest → Is (opened (f · (g · h))) a ts t rest
opened_three (both (within d) (both (within e) (within i))) = within (both d (both e i))

pub opened_two_then : {f g k : Phrase} {a : At} {t : List Shape} {ts rest : List Marked} → Is (opened f · (opened g · k)) a ts t rest → Is (opened (f · g) · k) a ts t rest
opened_two_then {f} {g} {k} {a} {ts = ts} {rest = rest} (both {t = t} (within d) (both {t = u} {u = v} (within e) r)) = subst (λ z. Is (opened (f · g) · k) a ts z rest) (append_assoc t u v) (both (within (both d e)) r)

pub opened_three_then : {f g h k : Phrase} {a : At} {t : List Shape} {ts rest : List Marked} → Is (opened f · (opened g · (opened h · k))) a ts t rest → Is (opened (f · (g · h)) · k) a ts t rest
opened_three_then {f} {g} {h} {k} {a} {ts = ts} {rest = rest} (both {t = t} (within d) (both {t = u} (within e) (both {t = v} {u = w} (within i) r))) =
    subst (λ z. Is (opened (f · (g · h)) · k) a ts z rest) (append_assoc t (u ++ v) w ∙ ap (λ z. t ++ z) (append_assoc u v w)) (both (within (both d (both e i))) r)

-- ---- declarations

pub shared_declared : {a : At} {t : List Shape} {ts rest : List Marked} → Is (the shared_side · (declarations · word K.End)) a ts t rest → Is (declarations · word K.End) a ts t rest
shared_declared (both d r) = again (both (left d) r)

pub sems_declared : {a : At} {t : List Shape} {ts rest : List Marked} → Is (the sems_side · (declarations · word K.End)) a ts t rest → Is (declarations · word K.End) a ts t rest
sems_declared (both d r) = again (both (right (left d)) r)

pub chans_declared : {a : At} {t : List Shape} {ts rest : List Marked} → Is (the chans_side · (declarations · word K.End)) a ts t rest → Is (declarations · word K.End) a ts t rest
chans_declared (both d r) = again (both (right (right (left d))) r)

pub function_declared : {a : At} {t : List Shape} {ts rest : List Marked} → Is (the function_side · (declarations · word K.End)) a ts t rest → Is (declarations · word K.End) a ts t rest
function_declared (both d r) = again (both (right (right (right (left d)))) r)

pub process_declared : {a : At} {t : List Shape} {ts rest : List Marked} → Is (the process_side · (declarations · word K.End)) a ts t rest → Is (declarations · word K.End) a ts t rest
process_declared (both d r) = again (both (right (right (right (right d)))) r)

pub shared_item_made : {a : At} {t : List Shape} {ts rest : List Marked} → Is (made R.Sitem (word K.Name · (maybe (word K.AssignMark · maybe (word K.MinusMark) · word K.Number) ∣ brackets (word K.Number)))) a ts t rest → Is (the shared_item_side) a ts t rest
shared_item_made (grouped (both n (left d))) = side (grouped (left (both n d)))
shared_item_made (grouped (both n (right d))) = side (grouped (right (both n d)))

pub sems_next : {a : At} {t : List Shape} {ts rest : List Marked} → Is (word K.Comma · (word K.Name · (maybe (word K.AssignMark · word K.Number) · (many (word K.Comma · word K.Name · maybe (word K.AssignMark · word K.Number)) · word K.Semicolon)))) a ts t rest → Is (many (word K.Comma · word K.Name · maybe (word K.AssignMark · word K.Number)) · word K.Semicolon) a ts t rest
sems_next (both c x) = again (regroup (both c (regroup x)))

pub chans_made : {a : At} {t : List Shape} {ts rest : List Marked} → Is (made R.Chans (word K.ChanWord · (word K.Name · (opened (word K.LeftBracket) · (opened (word K.Number) · (opened (word K.RightBracket) · (many (word K.Comma · word K.Name · brackets (word K.Number)) · word K.Semicolon))))))) a ts t rest → Is (the chans_side) a ts t rest
chans_made (grouped (both c (both n x))) = side (grouped (both c (both n (opened_three_then x))))

pub chans_next : {a : At} {t : List Shape} {ts rest : List Marked} → Is (word K.Comma · (word K.Name · (opened (word K.LeftBracket) · (opened (word K.Number) · (opened (word K.RightBracket) · (many (word K.Comma · word K.Name · brackets (word K.Number)) · word K.Semicolon)))))) a ts t rest → Is (many (word K.Comma · word K.Name · brackets (word K.Number)) · word K.Semicolon) a ts t rest
chans_next (both c (both n x)) = again (regroup (both c (regroup (both n (opened_three_then x)))))

pub int_function_made : {a : At} {t : List Shape} {ts rest : List Marked} → Is (made R.Function (word K.IntWord · (word K.Name · (opened (word K.LeftParen) · (opened (maybe (the params_side) · word K.RightParen) · the block_side))))) a ts t rest → Is (the function_side) a ts t rest
int_function_made (grouped (both i (both n x))) = side (grouped (both (left i) (both n (opened_two_then x))))

pub void_function_made : {a : At} {t : List Shape} {ts rest : List Marked} → Is (made R.Function (word K.VoidWord · (word K.Name · (opened (word K.LeftParen) · (opened (maybe (the params_side) · word K.RightParen) · the block_side))))) a ts t rest → Is (the function_side) a ts t rest
void_function_made (grouped (both i (both n x))) = side (grouped (both (right i) (both n (opened_two_then x))))

pub void_params_made : {a : At} {t : List Shape} {ts rest : List Marked} → Is (made R.Params (word K.VoidWord)) a ts t rest → Is (the params_side) a ts t rest
void_params_made (grouped d) = side (grouped (left d))

pub int_params_made : {a : At} {t : List Shape} {ts rest : List Marked} → Is (made R.Params (word K.IntWord · (word K.Name · many (word K.Comma · word K.IntWord · word K.Name)))) a ts t rest → Is (the params_side) a ts t rest
int_params_made (grouped d) = side (grouped (right d))

pub params_next : {a : At} {t : List Shape} {ts rest : List Marked} → Is (word K.Comma · (word K.IntWord · (word K.Name · many (word K.Comma · word K.IntWord · word K.Name)))) a ts t rest → Is (many (word K.Comma · word K.IntWord · word K.Name)) a ts t rest
params_next (both c x) = again_last (regroup (both c (regroup x)))

pub block_made : {a : At} {t : List Shape} {ts rest : List Marked} → Is (made R.Block (opened (word K.LeftBrace) · opened (many (the local_side ∣ the stmt_side) · word K.RightBrace))) a ts t rest → Is (the block_side) a ts t rest
block_made (grouped d) = side (grouped (opened_two d))

pub local_stands : {a : At} {t : List Shape} {ts rest : List Marked} → Is (the local_side · (many (the local_side ∣ the stmt_side) · word K.RightBrace)) a ts t rest → Is (many (the local_side ∣ the stmt_side) · word K.RightBrace) a ts t rest
local_stands (both d r) = again (both (left d) r)

pub stmt_stands : {a : At} {t : List Shape} {ts rest : List Marked} → Is (the stmt_side · (many (the local_side ∣ the stmt_side) · word K.RightBrace)) a ts t rest → Is (many (the local_side ∣ the stmt_side) · word K.RightBrace) a ts t rest
stmt_stands (both d r) = again (both (right d) r)

pub local_item_made : {a : At} {t : List Shape} {ts rest : List Marked} → Is (made R.Litem (word K.Name · (maybe (word K.AssignMark · the value_side) ∣ brackets (word K.Number)))) a ts t rest → Is (the local_item_side) a ts t rest
local_item_made (grouped (both n (left d))) = side (grouped (left (both n d)))
local_item_made (grouped (both n (right d))) = side (grouped (right (both n d)))

-- ---- values and expressions

pub received_made : {a : At} {t : List Shape} {ts rest : List Marked} → Is (made R.Value (word K.RecvWord · (opened (word K.LeftParen) · (opened (word K.Name) · opened (word K.RightParen))))) a ts t rest → Is (made R.Value received) a ts t rest
received_made (grouped (both r x)) = grouped (both r (opened_three x))

pub received_value : {a : At} {t : List Shape} {ts rest : List Marked} → Is (made R.Value received) a ts t rest → Is (the value_side) a ts t rest
received_value (grouped d) = side (grouped (left d))

pub other_value : {a : At} {t : List Shape} {ts rest : List Marked} → Is (made R.Value (called ∣ the expr_side)) a ts t rest → Is (the value_side) a ts t rest
other_value (grouped d) = side (grouped (right d))

pub change_made : {a : At} {t : List Shape} {ts rest : List Marked} → Is (made R.Change (the place_side · ((word K.AssignMark ∣ word K.AddMark ∣ word K.SubtractMark) · the expr_side ∣ (word K.IncreaseMark ∣ word K.DecreaseMark)))) a ts t rest → Is (the change_side) a ts t rest
change_made (grouped (both p (left d))) = side (grouped (left (both p d)))
change_made (grouped (both p (right d))) = side (grouped (right (both p d)))

pub assigned : {a : At} {t : List Shape} {ts rest : List Marked} → Is (word K.AssignMark · the expr_side) a ts t rest → Is ((word K.AssignMark ∣ word K.AddMark ∣ word K.SubtractMark) · the expr_side) a ts t rest
assigned (both m e) = both (left m) e

pub added : {a : At} {t : List Shape} {ts rest : List Marked} → Is (word K.AddMark · the expr_side) a ts t rest → Is ((word K.AssignMark ∣ word K.AddMark ∣ word K.SubtractMark) · the expr_side) a ts t rest
added (both m e) = both (right (left m)) e

pub subtracted : {a : At} {t : List Shape} {ts rest : List Marked} → Is (word K.SubtractMark · the expr_side) a ts t rest → Is ((word K.AssignMark ∣ word K.AddMark ∣ word K.SubtractMark) · the expr_side) a ts t rest
subtracted (both m e) = both (right (right m)) e

pub place_unary : {a : At} {t : List Shape} {ts rest : List Marked} → Is (made R.Unary (the place_side)) a ts t rest → Is (the unary_side) a ts t rest
place_unary (grouped d) = side (grouped (right (right (right d))))

pub minus_unary : {a : At} {t : List Shape} {ts rest : List Marked} → Is (made R.Unary (opened (word K.MinusMark) · opened (the unary_side))) a ts t rest → Is (the unary_side) a ts t rest
minus_unary (grouped (both (within m) (within u))) = side (grouped (left (within (both (right m) u))))

pub not_unary : {a : At} {t : List Shape} {ts rest : List Marked} → Is (made R.Unary (opened (word K.NotMark) · opened (the unary_side))) a ts t rest → Is (the unary_side) a ts t rest
not_unary (grouped (both (within m) (within u))) = side (grouped (left (within (both (left m) u))))

pub parens_unary : {a : At} {t : List Shape} {ts rest : List Marked} → Is (made R.Unary (opened (word K.LeftParen) · (opened (the expr_side) · opened (word K.RightParen)))) a ts t rest → Is (the unary_side) a ts t rest
parens_unary (grouped d) = side (grouped (right (left (opened_three d))))

pub number_unary : {a : At} {t : List Shape} {ts rest : List Marked} → Is (made R.Unary (word K.Number)) a ts t rest → Is (the unary_side) a ts t rest
number_unary (grouped d) = side (grouped (right (right (left d))))

-- ---- statements

pub block_stmt : {a : At} {t : List Shape} {ts rest : List Marked} → Is (made R.Stmt (the block_side)) a ts t rest → Is (the stmt_side) a ts t rest
block_stmt (grouped d) = side (grouped (left d))

pub empty_stmt : {a : At} {t : List Shape} {ts rest : List Marked} → Is (made R.Stmt (word K.Semicolon)) a ts t rest → Is (the stmt_side) a ts t rest
empty_stmt (grouped d) = side (grouped (right (left d)))

pub change_stmt : {a : At} {t : List Shape} {ts rest : List Marked} → Is (made R.Stmt (the change_side · word K.Semicolon)) a ts t rest → Is (the stmt_side) a ts t rest
change_stmt (grouped d) = side (grouped (right (right (left d))))

pub assigned_change : {a : At} {t : List Shape} {ts rest : List Marked} → Is (made R.Change ((the place_side · word K.AssignMark) · the expr_side)) a ts t rest → Is (the change_side) a ts t rest
assigned_change (grouped d) = side (grouped (marked (ungroup d)))
  where
    marked : {a : At} {t : List Shape} {ts rest : List Marked} → Is (the place_side · (word K.AssignMark · the expr_side)) a ts t rest → Is ((the place_side · ((word K.AssignMark ∣ word K.AddMark ∣ word K.SubtractMark) · the expr_side)) ∣ (the place_side · (word K.IncreaseMark ∣ word K.DecreaseMark))) a ts t rest
    marked (both p (both m e)) = left (both p (both (left m) e))

pub answer_stmt : {a : At} {t : List Shape} {ts rest : List Marked} → Is (made R.Stmt (the place_side · (word K.AssignMark · (made R.Value (received ∣ called) · word K.Semicolon)))) a ts t rest → Is (the stmt_side) a ts t rest
answer_stmt (grouped d) = side (grouped (right (right (right (left d)))))

pub call_stmt : {a : At} {t : List Shape} {ts rest : List Marked} → Is (made R.Stmt (made R.Call (word K.Name · parens expressions) · word K.Semicolon)) a ts t rest → Is (the stmt_side) a ts t rest
call_stmt (grouped d) = side (grouped (right (right (right (right (left d))))))

pub if_stmt : {a : At} {t : List Shape} {ts rest : List Marked} → Is (made R.Stmt (word K.IfWord · (opened (word K.LeftParen) · (opened (the expr_side) · (opened (word K.RightParen) · (opened (the stmt_side) · else_part)))))) a ts t rest → Is (the stmt_side) a ts t rest
if_stmt (grouped (both i x)) = side (grouped (right (right (right (right (right (left (both i (opened_three_then x)))))))))

pub while_stmt : {a : At} {t : List Shape} {ts rest : List Marked} → Is (made R.Stmt (word K.WhileWord · (opened (word K.LeftParen) · (opened (the expr_side) · (opened (word K.RightParen) · opened (the stmt_side)))))) a ts t rest → Is (the stmt_side) a ts t rest
while_stmt (grouped (both i x)) = side (grouped (right (right (right (right (right (right (left (both i (opened_three_then x))))))))))

for_heading : {f g h k m : Phrase} {at : At} {t : List Shape} {ts rest : List Marked} → Is (f · ((g · word K.Semicolon) · ((h · word K.Semicolon) · (k · m)))) at ts t rest → Is (f · ((g · (word K.Semicolon · (h · (word K.Semicolon · k)))) · m)) at ts t rest
for_heading {f} {g} {h} {k} {m} {at} {ts = ts} {rest = rest} (both {t = t} d (both (both {t = u} {u = c} e x) (both (both {t = v} {u = o} i y) (both {t = w} {u = q} j r)))) =
    let e1 : (u ++ (c ++ (v ++ (o ++ w)))) ++ q ≡ (u ++ c) ++ ((v ++ o) ++ (w ++ q)) = simp append_assoc in
    subst (λ z. Is (f · ((g · (word K.Semicolon · (h · (word K.Semicolon · k)))) · m)) at ts (t ++ z) rest) e1 (both d (both (both e (both x (both i (both y j)))) r))

opened_for : {f g h k m : Phrase} {a : At} {t : List Shape} {ts rest : List Marked} → Is (opened f · (opened g · (opened h · (opened k · m)))) a ts t rest → Is (opened (f · (g · (h · k))) · m) a ts t rest
opened_for {f} {g} {h} {k} {m} {a} {ts = ts} {rest = rest} (both {t = t} (within d) (both {t = u} (within e) (both {t = v} (within i) (both {t = w} {u = q} (within j) r)))) =
    let e1 : (t ++ (u ++ (v ++ w))) ++ q ≡ t ++ (u ++ (v ++ (w ++ q))) = simp append_assoc in
    subst (λ z. Is (opened (f · (g · (h · k))) · m) a ts z rest) e1 (both (within (both d (both e (both i j)))) r)

pub for_stmt : {a : At} {t : List Shape} {ts rest : List Marked} → Is (made R.Stmt (word K.ForWord · (opened (word K.LeftParen) · (opened (maybe (word K.IntWord · word K.Name · word K.AssignMark · the expr_side ∣ the change_side) · word K.Semicolon) · (opened (maybe (the expr_side) · word K.Semicolon) · (opened (maybe (the change_side) · word K.RightParen) · opened (the stmt_side))))))) a ts t rest → Is (the stmt_side) a ts t rest
for_stmt (grouped (both i x)) = side (grouped (right (right (right (right (right (right (right (left (both i (headed (opened_for x))))))))))))
  where
    headed : {a : At} {t : List Shape} {ts rest : List Marked} → Is (opened (word K.LeftParen · ((maybe (word K.IntWord · word K.Name · word K.AssignMark · the expr_side ∣ the change_side) · word K.Semicolon) · ((maybe (the expr_side) · word K.Semicolon) · (maybe (the change_side) · word K.RightParen)))) · opened (the stmt_side)) a ts t rest → Is (parens heading · opened (the stmt_side)) a ts t rest
    headed (both (within d) r) = both (within (for_heading d)) r

pub return_stmt : {a : At} {t : List Shape} {ts rest : List Marked} → Is (made R.Stmt (word K.ReturnWord · (maybe (called ∣ the expr_side) · word K.Semicolon))) a ts t rest → Is (the stmt_side) a ts t rest
return_stmt (grouped d) = side (grouped (right (right (right (right (right (right (right (right (left d))))))))))

pub take_stmt : {a : At} {t : List Shape} {ts rest : List Marked} → Is (made R.Stmt (word K.TakeWord · (opened (word K.LeftParen) · (opened (word K.Name) · (opened (word K.RightParen) · word K.Semicolon))))) a ts t rest → Is (the stmt_side) a ts t rest
take_stmt (grouped (both i x)) = side (grouped (right (right (right (right (right (right (right (right (right (left (both i (opened_three_then x)))))))))))))

pub give_stmt : {a : At} {t : List Shape} {ts rest : List Marked} → Is (made R.Stmt (word K.GiveWord · (opened (word K.LeftParen) · (opened (word K.Name) · (opened (word K.RightParen) · word K.Semicolon))))) a ts t rest → Is (the stmt_side) a ts t rest
give_stmt (grouped (both i x)) = side (grouped (right (right (right (right (right (right (right (right (right (right (left (both i (opened_three_then x))))))))))))))

opened_send : {f g h i k m : Phrase} {a : At} {t : List Shape} {ts rest : List Marked} → Is (opened f · (opened g · (opened h · (opened i · (opened k · m))))) a ts t rest → Is (opened (f · ((g · (h · i)) · k)) · m) a ts t rest
opened_send {f} {g} {h} {i} {k} {m} {a} {ts = ts} {rest = rest} (both {t = t} (within d) (both {t = u} (within e) (both {t = v} (within c) (both {t = w} (within x) (both {t = o} {u = q} (within y) r))))) =
    let e1 : (t ++ ((u ++ (v ++ w)) ++ o)) ++ q ≡ t ++ (u ++ (v ++ (w ++ (o ++ q)))) = simp append_assoc in
    subst (λ z. Is (opened (f · ((g · (h · i)) · k)) · m) a ts z rest) e1 (both (within (both d (both (both e (both c x)) y))) r)

pub send_stmt : {a : At} {t : List Shape} {ts rest : List Marked} → Is (made R.Stmt (word K.SendWord · (opened (word K.LeftParen) · (opened (word K.Name) · (opened (word K.Comma) · (opened (the expr_side) · (opened (word K.RightParen) · word K.Semicolon))))))) a ts t rest → Is (the stmt_side) a ts t rest
send_stmt (grouped (both i x)) = side (grouped (right (right (right (right (right (right (right (right (right (right (right (left (both i (opened_send x)))))))))))))))

pub print_stmt : {a : At} {t : List Shape} {ts rest : List Marked} → Is (made R.Stmt (word K.PrintWord · (opened (word K.LeftParen) · (opened (the expr_side) · (opened (word K.RightParen) · word K.Semicolon))))) a ts t rest → Is (the stmt_side) a ts t rest
print_stmt (grouped (both i x)) = side (grouped (right (right (right (right (right (right (right (right (right (right (right (right (left (both i (opened_three_then x))))))))))))))))

pub assert_stmt : {a : At} {t : List Shape} {ts rest : List Marked} → Is (made R.Stmt (word K.AssertWord · (opened (word K.LeftParen) · (opened (the expr_side) · (opened (word K.RightParen) · word K.Semicolon))))) a ts t rest → Is (the stmt_side) a ts t rest
assert_stmt (grouped (both i x)) = side (grouped (right (right (right (right (right (right (right (right (right (right (right (right (right (both i (opened_three_then x))))))))))))))))

pub local_start : {a : At} {t : List Shape} {ts rest : List Marked} → Is (word K.IntWord · (word K.Name · (word K.AssignMark · (the expr_side · word K.Semicolon)))) a ts t rest → Is (maybe (word K.IntWord · word K.Name · word K.AssignMark · the expr_side ∣ the change_side) · word K.Semicolon) a ts t rest
local_start (both i (both n x)) = chosen (regroup (both i (regroup (both n (regroup x)))))
  where
    chosen : {a : At} {t : List Shape} {ts rest : List Marked} → Is ((word K.IntWord · word K.Name · word K.AssignMark · the expr_side) · word K.Semicolon) a ts t rest → Is (maybe (word K.IntWord · word K.Name · word K.AssignMark · the expr_side ∣ the change_side) · word K.Semicolon) a ts t rest
    chosen (both d r) = both (present (left d)) r

pub change_start : {a : At} {t : List Shape} {ts rest : List Marked} → Is (the change_side · word K.Semicolon) a ts t rest → Is (maybe (word K.IntWord · word K.Name · word K.AssignMark · the expr_side ∣ the change_side) · word K.Semicolon) a ts t rest
change_start (both d r) = both (present (right d)) r

pub no_else_next : (ts : List Marked) → MayStand no_else ts → NextIsNot K.ElseWord ts
no_else_next [] m = tt
no_else_next (x ∷ ts) m = m
