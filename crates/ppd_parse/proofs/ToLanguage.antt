-- What the parser's grammar reads, the language's grammar reads.
use Rattle.std.proofs.Common.{◌≡◌, ◌-◌, ℕ, true, List, [], ◌∷◌, ◌++◌, length, refl, sym, ◌∙◌, ap, subst, append_assoc, append-nil}
use Rattle.ppd_parse.specs.declared.token.Kind.TheVariants as K
use Rattle.ppd_parse.specs.declared.symbol.Level.{Level}
use Rattle.ppd_parse.specs.declared.symbol.Level.TheVariants as L
use Rattle.ppd_parse.specs.declared.symbol.Rule.TheVariants as R
use Rattle.ppd_parse.specs.declared.symbol.Symbol.{Symbol}
use Rattle.ppd_parse.specs.declared.symbol.Symbol.TheVariants as S
use Rattle.ppd_parse.specs.declared.symbol.At.{At}
use Rattle.ppd_parse.specs.declared.symbol.Part.TheVariants as P
use Rattle.ppd_parse.specs.declared.symbol.Want.{Want}
use Rattle.ppd_parse.specs.declared.symbol.Want.TheVariants.{Get, Close}
use Rattle.ppd_parse.specs.Grammar.{Shape, leaf, node, forest, Marked, inside, outside, close, Production, parts, operand_parts, MayStand, wants_in, base_in, Reads, ReadsAll, exact, operator, wrap, by, nothing, next, operand, chain_end, chain_more, source, items_end, items_shared, items_sems, items_chans, items_function, items_process, shared, shared_end, shared_more, shared_item, no_start, start, shared_length, start_plain, start_minus, sems, no_sem_start, sem_start, sems_end, sems_more, chans, chans_end, chans_more, function_int, function_void, no_params, some_params, params_void, params_int, params_end, params_more, process, block, stmts_end, stmts_local, stmts_more, local, local_end, local_more, local_item, no_local_start, local_start, local_length, value_recv, value_plain, call_or_name, other_expr, named_call, named_expr, no_args, some_args, args_end, args_more, place, no_index, index, change, assign, add, subtract, increase, decrease, expr, expr_rest, unary_place, unary_other, minus, negation, parens, number, stmt_block, stmt_empty, stmt_name, stmt_if, stmt_while, stmt_for, stmt_return, stmt_take, stmt_give, stmt_send, stmt_print, stmt_assert, rest_call, rest_element, rest_scalar, rest_assign, rest_add, rest_subtract, rest_increase, rest_decrease, assigned_recv, assigned_name, assigned_other, assigned_call, assigned_expr, no_else, some_else, for_plain, for_local, for_change, for_ever, for_while, for_still, for_step, return_plain, return_value}
use Rattle.ppd_parse.proofs.Vocabulary.{IsParsed}
use Rattle.ppd_parse.specs.Language.{tier, below, stmt_side, expr_side, place_side, word, the, ◌∣◌, made, called, received, Is, IsProgram, token, sign, side, both, left, right, done, absent, present, ended, within, counted, grouped}
use Rattle.ppd_parse.proofs.Usual.{manner, Rest, AfterPlace, Out, out, closed, Goes, MeansBy, Means, MeansAll, last, then, moved, nothing_new, plain_parts, node_parts, split_means, close_front}
use Rattle.ppd_parse.proofs.Sides as Q
use Rattle.ppd_parse.proofs.Walk.{grown, wrapped, Run, stop, part, runs, walk, walk_own, mapped, EndedAnswer, ended_answer, EndedChange, ended_change, back_answer, back_change}

-- ---- expressions

chain_more_on : (l : Level) (a : At) {got new : List Shape} {ts rest : List Marked} → Run a (parts (chain_more l)) got ts new rest → Rest (S.Chain l) a got ts new rest
chain_more_on l a {got} (part {mid = m1} (grown {new = o} x) (part {mid = m2} (grown {new = n} y) (part wrapped (part r stop)))) from d =
    r from (subst (λ u. Is (the (tier l)) a from (node R.Binary (forest u) ∷ []) m2) (sym (append_assoc got o n)) (side (right (grouped (both d (both x y))))))

expr_rest_on : (a : At) {got new : List Shape} {ts rest : List Marked} → Run a (parts expr_rest) got ts new rest → Rest S.ExprRest a got ts new rest
expr_rest_on a (part c1 (part c2 (part c3 (part c4 (part c5 (part c6 stop)))))) from d =
    c6 from (side (left (c5 from (side (left (c4 from (side (left (c3 from (side (left (c2 from (side (left (c1 from (side (left d)))))))))))))))))

operand_is : (l : Level) (a : At) {new : List Shape} {ts rest : List Marked} → Run a (operand_parts l) [] ts new rest → Is (the (below l)) a ts new rest
operand_is L.Product a (part (grown d) stop) = d
operand_is L.Sum a {ts = ts} (part (grown d) (part c1 stop)) = c1 ts (side (left d))
operand_is L.Compare a {ts = ts} (part (grown d) (part c1 (part c2 stop))) = c2 ts (side (left (c1 ts (side (left d)))))
operand_is L.Equal a {ts = ts} (part (grown d) (part c1 (part c2 (part c3 stop)))) = c3 ts (side (left (c2 ts (side (left (c1 ts (side (left d))))))))
operand_is L.And a {ts = ts} (part (grown d) (part c1 (part c2 (part c3 (part c4 stop))))) = c4 ts (side (left (c3 ts (side (left (c2 ts (side (left (c1 ts (side (left d)))))))))))
operand_is L.Or a {ts = ts} (part (grown d) (part c1 (part c2 (part c3 (part c4 (part c5 stop)))))) = c5 ts (side (left (c4 ts (side (left (c3 ts (side (left (c2 ts (side (left (c1 ts (side (left d))))))))))))))

expr_is : (a : At) {new : List Shape} {ts rest : List Marked} → Run a (parts expr) [] ts new rest → Is (the expr_side) a ts new rest
expr_is a {ts = ts} (part (grown d) (part r stop)) = side (counted (r ts d))

other_expr_is : (a : At) {new : List Shape} {ts rest : List Marked} → Run a (parts other_expr) [] ts new rest → Is (the expr_side) a ts new rest
other_expr_is a {ts = ts} (part (grown d) (part r stop)) = side (counted (r ts d))

call_or_name_is : (a : At) {new : List Shape} {ts rest : List Marked} → Run a (parts call_or_name) [] ts new rest → Is (called ∣ the expr_side) a ts new rest
call_or_name_is a {ts = ts} (part (grown d) (part r stop)) = r ts d

named_call_on : (a : At) {got new : List Shape} {ts rest : List Marked} → Run a (parts named_call) got ts new rest → Rest S.NamedRest a got ts new rest
named_call_on a {got} {rest = rest} (part (grown {new = n} x) (part (grown {new = m} y) (part wrapped stop))) from d =
    subst (λ u. Is (called ∣ the expr_side) a from (node R.Call (forest u) ∷ []) rest) (sym (append_assoc got n m)) (left (grouped (both (counted d) (within (both x y)))))

named_expr_on : (a : At) {got new : List Shape} {ts rest : List Marked} → Run a (parts named_expr) got ts new rest → Rest S.NamedRest a got ts new rest
named_expr_on a (part (grown x) (part wrapped (part wrapped (part r stop)))) from d = right (side (counted (r from (Q.place_unary (grouped (side (grouped (both d x))))))))

-- ---- statements

stmt_name_is : (a : At) {new : List Shape} {ts rest : List Marked} → Run a (parts stmt_name) [] ts new rest → Is (the stmt_side) a ts new rest
stmt_name_is a {ts = ts} (part (grown d) (part r stop)) = r ts d

rest_call_on : (a : At) {got new : List Shape} {ts rest : List Marked} → Run a (parts rest_call) got ts new rest → Rest S.StmtRest a got ts new rest
rest_call_on a {got} {rest = rest} (part (grown {new = n} x) (part (grown {new = m} y) (part wrapped (part (grown {new = o} z) (part wrapped stop))))) from d =
    subst (λ u. Is (the stmt_side) a from (node R.Stmt (forest (node R.Call (forest u) ∷ o)) ∷ []) rest) (sym (append_assoc got n m)) (Q.call_stmt (grouped (both (grouped (both d (within (both x y)))) z)))

rest_add_on : (a : At) {got new : List Shape} {ts rest : List Marked} → Run a (parts rest_add) got ts new rest → Rest S.PlaceRest a got ts new rest
rest_add_on a {got} {rest = rest} (part (grown {new = n} x) (part (grown {new = m} y) (part wrapped (part (grown {new = o} z) (part wrapped stop))))) from d =
    subst (λ u. Is (the stmt_side) a from (node R.Stmt (forest (node R.Change (forest u) ∷ o)) ∷ []) rest) (sym (append_assoc got n m)) (Q.change_stmt (grouped (both (side (grouped (left (both d (both (right (left x)) y))))) z)))

rest_subtract_on : (a : At) {got new : List Shape} {ts rest : List Marked} → Run a (parts rest_subtract) got ts new rest → Rest S.PlaceRest a got ts new rest
rest_subtract_on a {got} {rest = rest} (part (grown {new = n} x) (part (grown {new = m} y) (part wrapped (part (grown {new = o} z) (part wrapped stop))))) from d =
    subst (λ u. Is (the stmt_side) a from (node R.Stmt (forest (node R.Change (forest u) ∷ o)) ∷ []) rest) (sym (append_assoc got n m)) (Q.change_stmt (grouped (both (side (grouped (left (both d (both (right (right x)) y))))) z)))

rest_increase_on : (a : At) {got new : List Shape} {ts rest : List Marked} → Run a (parts rest_increase) got ts new rest → Rest S.PlaceRest a got ts new rest
rest_increase_on a (part (grown x) (part wrapped (part (grown z) (part wrapped stop)))) from d = Q.change_stmt (grouped (both (side (grouped (right (both d (left x))))) z))

rest_decrease_on : (a : At) {got new : List Shape} {ts rest : List Marked} → Run a (parts rest_decrease) got ts new rest → Rest S.PlaceRest a got ts new rest
rest_decrease_on a (part (grown x) (part wrapped (part (grown z) (part wrapped stop)))) from d = Q.change_stmt (grouped (both (side (grouped (right (both d (right x))))) z))

-- ---- a statement that begins with a place

rest_scalar_on : (a : At) (b : ℕ) {s t : List Shape} {ts rest : List Marked} → MeansAll (wants_in a b (parts rest_scalar)) s ts t rest → Goes S.StmtRest a b s ts t rest
rest_scalar_on a b {s} {ts = ts} (then closed (then h last)) front got e eb =
    mapped (λ new r from d. r from (subst (λ u. Is (the place_side) a from (node R.Place (forest u) ∷ []) ts) (append-nil got) (side (grouped (both d absent))))) (h front (node R.Place (forest got)) (ap (λ n. close R.Place n s) eb ∙ (ap (close R.Place (length front)) e ∙ close_front R.Place front got)) eb)

element_on : (a : At) (b : ℕ) {front got t u : List Shape} {ts mid rest : List Marked} → b ≡ length front → Out front (λ all. Run a (P.Deeper (S.Exact K.LeftBracket) ∷ P.Deeper S.Expr ∷ P.Deeper (S.Exact K.RightBracket) ∷ P.Wrap R.Place ∷ []) got ts all mid) t → MeansAll (Get S.PlaceRest a b ∷ []) t mid u rest → Out front (λ new. Rest S.StmtRest a got ts new rest) u
element_on a b {front} {got} {mid = mid} eb (out (part (grown {new = n} x) (part (grown {new = m} y) (part (grown {new = o} z) (part wrapped stop))))) (then h last) =
    mapped (λ new r from d. r from (subst (λ u. Is (the place_side) a from (node R.Place (forest u) ∷ []) mid) (sym (append_assoc (got ++ n) m o ∙ append_assoc got n (m ++ o))) (side (grouped (both d (present (within (both x (both y z)))))))))
    (h front (node R.Place (forest (((got ++ n) ++ m) ++ o))) refl eb)

rest_element_on : (a : At) (b : ℕ) {s t : List Shape} {ts rest : List Marked} → MeansAll (wants_in a b (parts rest_element)) s ts t rest → Goes S.StmtRest a b s ts t rest
rest_element_on a b h front got e eb =
    let d = split_means (wants_in a b (P.Deeper (S.Exact K.LeftBracket) ∷ P.Deeper S.Expr ∷ P.Deeper (S.Exact K.RightBracket) ∷ P.Wrap R.Place ∷ [])) (Get S.PlaceRest a b ∷ []) h in
    element_on a b eb (walk a b (P.Deeper (S.Exact K.LeftBracket) ∷ P.Deeper S.Expr ∷ P.Deeper (S.Exact K.RightBracket) ∷ P.Wrap R.Place ∷ []) front got refl e eb d.2) d.3

rest_assign_on : (a : At) (b : ℕ) {s t : List Shape} {ts rest : List Marked} → MeansAll (wants_in a b (parts rest_assign)) s ts t rest → Goes S.PlaceRest a b s ts t rest
rest_assign_on a b (then (out (token {x = x} k m)) (then h last)) front held e eb =
    mapped (λ new r from d. r from (both d (token k m))) (h front (held ∷ leaf x.token ∷ []) (ap (λ u. u ++ leaf x.token ∷ []) e ∙ append_assoc front (held ∷ []) (leaf x.token ∷ [])) refl)

-- ---- an assigned value

answered : {f : List Shape → Type 0} (a : At) {held new : List Shape} {ts mid rest : List Marked} → ((n : List Shape) → f n → Is (made R.Value (received ∣ called)) a ts n mid) → EndedAnswer f held a mid rest new → AfterPlace a held ts new rest
answered a h (ended_answer d z) from p = Q.answer_stmt (grouped (Q.ungroup (both p (both (h _ d) z))))

changed : {f : List Shape → Type 0} (a : At) {held new : List Shape} {ts mid rest : List Marked} → ((n : List Shape) → f n → Is (the expr_side) a ts n mid) → EndedChange f held a mid rest new → AfterPlace a held ts new rest
changed a h (ended_change d z) from p = Q.change_stmt (grouped (both (Q.assigned_change (grouped (both p (h _ d)))) z))

own_front : (front held : List Shape) {s : List Shape} (F : List Shape → Type 0) {t : List Shape} → s ≡ front ++ held → Out s F t → Out (front ++ held) F t
own_front front held F {t} e h = subst (λ u. Out u F t) e h

received_given : {a : At} {t : List Shape} {ts rest : List Marked} → Is (made R.Value received) a ts t rest → Is (made R.Value (received ∣ called)) a ts t rest
received_given (grouped d) = grouped (left d)

called_given : {a : At} {t : List Shape} {ts rest : List Marked} → Is (made R.Value called) a ts t rest → Is (made R.Value (received ∣ called)) a ts t rest
called_given (grouped d) = grouped (right d)

assigned_recv_on : (a : At) (b : ℕ) {s t : List Shape} {ts rest : List Marked} → MeansAll (wants_in a (length s) (parts assigned_recv)) s ts t rest → Goes S.Assigned a b s ts t rest
assigned_recv_on a b {s = s} {ts = ts} h front held e two =
    let value = P.Here (S.Exact K.RecvWord) ∷ P.Deeper (S.Exact K.LeftParen) ∷ P.Deeper (S.Exact K.Name) ∷ P.Deeper (S.Exact K.RightParen) ∷ P.Wrap R.Value ∷ [] in
    let d = split_means (wants_in a (length s) value) (Get (S.Exact K.Semicolon) a (length s) ∷ Close R.Stmt (length s - 2) ∷ []) h in
    let v = moved (λ n i. received_given (Q.received_made i)) (node_parts R.Value a (P.Here (S.Exact K.RecvWord)) (P.Deeper (S.Exact K.LeftParen) ∷ P.Deeper (S.Exact K.Name) ∷ P.Deeper (S.Exact K.RightParen) ∷ []) refl d.2) in
    mapped (λ new r. answered a (λ n i. i) r) (back_answer front held (ap length e) two (own_front front held (λ n. Is (made R.Value (received ∣ called)) a ts n d.1) e v) d.3)

assigned_other_on : (a : At) (b : ℕ) {s t : List Shape} {ts rest : List Marked} → MeansAll (wants_in a (length s) (parts assigned_other)) s ts t rest → Goes S.Assigned a b s ts t rest
assigned_other_on a b {s = s} {ts = ts} h front held e two =
    let d = split_means (wants_in a (length s) (parts other_expr)) (Close R.Change (length s - 2) ∷ Get (S.Exact K.Semicolon) a (length s) ∷ Close R.Stmt (length s - 2) ∷ []) h in
    let v = mapped (λ n i. other_expr_is a i) (walk_own a (parts other_expr) refl d.2) in
    mapped (λ new r. changed a (λ n i. i) r) (back_change front held (ap length e) two (own_front front held (λ n. Is (the expr_side) a ts n d.1) e v) d.3)

assigned_name_on : (a : At) (b : ℕ) {s t : List Shape} {ts rest : List Marked} → MeansAll (wants_in a (length s) (parts assigned_name)) s ts t rest → Goes S.Assigned a b s ts t rest
assigned_name_on a b {ts = ts} (then (out {new = n} d) (then h last)) front held e two =
    mapped (λ new r from p. r from ts p d) (h front held n (ap (λ u. u ++ n) e) (ap length e) two)

call_of : (a : At) {got new : List Shape} {ts rest : List Marked} → Run a (P.Deeper (S.Exact K.LeftParen) ∷ P.Deeper S.Args ∷ P.Wrap R.Call ∷ P.Wrap R.Value ∷ []) got ts new rest → (from : List Marked) → Is (word K.Name) (inside a) from got ts → Is (made R.Value (received ∣ called)) a from new rest
call_of a {got} {rest = rest} (part (grown {new = n} x) (part (grown {new = m} y) (part wrapped (part wrapped stop)))) from d =
    subst (λ u. Is (made R.Value (received ∣ called)) a from (node R.Value (forest (node R.Call (forest u) ∷ [])) ∷ []) rest) (sym (append_assoc got n m)) (called_given (grouped (grouped (both (counted d) (within (both x y))))))

assigned_call_on : (a : At) {b : ℕ} {s t : List Shape} {ts rest : List Marked} → MeansAll (wants_in a b (parts assigned_call)) s ts t rest → Goes S.AssignedRest a b s ts t rest
assigned_call_on a {b} {ts = ts} h front held got e eb two =
    let call = P.Deeper (S.Exact K.LeftParen) ∷ P.Deeper S.Args ∷ P.Wrap R.Call ∷ P.Wrap R.Value ∷ [] in
    let d = split_means (wants_in a b call) (Get (S.Exact K.Semicolon) a b ∷ Close R.Stmt (b - 2) ∷ []) h in
    let v = walk a b call (front ++ held) got refl e eb d.2 in
    mapped (λ new r from mid p i. answered a (λ n j. call_of a j mid i) r from p) (back_answer front held eb two v d.3)

expr_of : (a : At) {got new : List Shape} {ts rest : List Marked} → Run a (parts named_expr) got ts new rest → (from : List Marked) → Is (word K.Name) (inside a) from got ts → Is (the expr_side) a from new rest
expr_of a (part (grown x) (part wrapped (part wrapped (part r stop)))) from d = side (counted (r from (Q.place_unary (grouped (side (grouped (both d x)))))))

assigned_expr_on : (a : At) {b : ℕ} {s t : List Shape} {ts rest : List Marked} → MeansAll (wants_in a b (parts assigned_expr)) s ts t rest → Goes S.AssignedRest a b s ts t rest
assigned_expr_on a {b} {ts = ts} h front held got e eb two =
    let d = split_means (wants_in a b (parts named_expr)) (Close R.Change (b - 2) ∷ Get (S.Exact K.Semicolon) a b ∷ Close R.Stmt (b - 2) ∷ []) h in
    let v = walk a b (parts named_expr) (front ++ held) got refl e eb d.2 in
    mapped (λ new r from mid p i. changed a (λ n j. expr_of a j mid i) r from p) (back_change front held eb two v d.3)

-- ---- all productions

chain_end_on : (l : Level) (a : At) {got new : List Shape} {ts rest : List Marked} → Run a [] got ts new rest → Rest (S.Chain l) a got ts new rest
chain_end_on l a stop from d = d

runs_operand : (l : Level) → runs (operand_parts l) ≡ true
runs_operand L.Product = refl
runs_operand L.Sum = refl
runs_operand L.Compare = refl
runs_operand L.Equal = refl
runs_operand L.And = refl
runs_operand L.Or = refl

step : {y : Symbol} (p : Production y) (a : At) (b : ℕ) {s t : List Shape} {ts rest : List Marked} → MayStand p ts → MeansAll (wants_in a (base_in y b (length s)) (parts p)) s ts t rest → MeansBy (manner y) y a b s ts t rest
step source a b m h = moved (λ n d. side d) (node_parts R.Source a (P.Here S.Items) ([]) refl h)
step items_end a b {s} m h = moved (λ n d. Q.no_more d) (plain_parts a (length s) (P.Here (S.Exact K.End)) ([]) refl h)
step items_shared a b {s} m h = moved (λ n d. Q.shared_declared d) (plain_parts a (length s) (P.Here S.Shared) (P.Here S.Items ∷ []) refl h)
step items_sems a b {s} m h = moved (λ n d. Q.sems_declared d) (plain_parts a (length s) (P.Here S.Sems) (P.Here S.Items ∷ []) refl h)
step items_chans a b {s} m h = moved (λ n d. Q.chans_declared d) (plain_parts a (length s) (P.Here S.Chans) (P.Here S.Items ∷ []) refl h)
step items_function a b {s} m h = moved (λ n d. Q.function_declared d) (plain_parts a (length s) (P.Here S.Function) (P.Here S.Items ∷ []) refl h)
step items_process a b {s} m h = moved (λ n d. Q.process_declared d) (plain_parts a (length s) (P.Here S.Process) (P.Here S.Items ∷ []) refl h)
step shared a b m h = moved (λ n d. side d) (node_parts R.Shared a (P.Here (S.Exact K.SharedWord)) (P.Here (S.Exact K.IntWord) ∷ P.Here S.SharedItem ∷ P.Here S.SharedItems ∷ []) refl h)
step shared_end a b {s} m h = moved (λ n d. Q.no_more d) (plain_parts a (length s) (P.Here (S.Exact K.Semicolon)) ([]) refl h)
step shared_more a b {s} m h = moved (λ n d. Q.again (Q.regroup d)) (plain_parts a (length s) (P.Here (S.Exact K.Comma)) (P.Here S.SharedItem ∷ P.Here S.SharedItems ∷ []) refl h)
step shared_item a b m h = moved (λ n d. Q.shared_item_made d) (node_parts R.Sitem a (P.Here (S.Exact K.Name)) (P.Here S.SharedStart ∷ []) refl h)
step no_start a b m last = nothing_new (left absent)
step start a b {s} m h = moved (λ n d. left (present d)) (plain_parts a (length s) (P.Here (S.Exact K.AssignMark)) (P.Here S.StartValue ∷ []) refl h)
step shared_length a b {s} m h = moved (λ n d. right (Q.opened_three d)) (plain_parts a (length s) (P.Deeper (S.Exact K.LeftBracket)) (P.Deeper (S.Exact K.Number) ∷ P.Deeper (S.Exact K.RightBracket) ∷ []) refl h)
step start_plain a b {s} m h = moved (λ n d. Q.not_given d) (plain_parts a (length s) (P.Here (S.Exact K.Number)) ([]) refl h)
step start_minus a b {s} m h = moved (λ n d. Q.given d) (plain_parts a (length s) (P.Here (S.Exact K.MinusMark)) (P.Here (S.Exact K.Number) ∷ []) refl h)
step sems a b m h = moved (λ n d. side d) (node_parts R.Sems a (P.Here (S.Exact K.SemWord)) (P.Here (S.Exact K.Name) ∷ P.Here S.SemStart ∷ P.Here S.SemItems ∷ []) refl h)
step no_sem_start a b m last = nothing_new (absent)
step sem_start a b {s} m h = moved (λ n d. present d) (plain_parts a (length s) (P.Here (S.Exact K.AssignMark)) (P.Here (S.Exact K.Number) ∷ []) refl h)
step sems_end a b {s} m h = moved (λ n d. Q.no_more d) (plain_parts a (length s) (P.Here (S.Exact K.Semicolon)) ([]) refl h)
step sems_more a b {s} m h = moved (λ n d. Q.sems_next d) (plain_parts a (length s) (P.Here (S.Exact K.Comma)) (P.Here (S.Exact K.Name) ∷ P.Here S.SemStart ∷ P.Here S.SemItems ∷ []) refl h)
step chans a b m h = moved (λ n d. Q.chans_made d) (node_parts R.Chans a (P.Here (S.Exact K.ChanWord)) (P.Here (S.Exact K.Name) ∷ P.Deeper (S.Exact K.LeftBracket) ∷ P.Deeper (S.Exact K.Number) ∷ P.Deeper (S.Exact K.RightBracket) ∷ P.Here S.ChanItems ∷ []) refl h)
step chans_end a b {s} m h = moved (λ n d. Q.no_more d) (plain_parts a (length s) (P.Here (S.Exact K.Semicolon)) ([]) refl h)
step chans_more a b {s} m h = moved (λ n d. Q.chans_next d) (plain_parts a (length s) (P.Here (S.Exact K.Comma)) (P.Here (S.Exact K.Name) ∷ P.Deeper (S.Exact K.LeftBracket) ∷ P.Deeper (S.Exact K.Number) ∷ P.Deeper (S.Exact K.RightBracket) ∷ P.Here S.ChanItems ∷ []) refl h)
step function_int a b m h = moved (λ n d. Q.int_function_made d) (node_parts R.Function a (P.Here (S.Exact K.IntWord)) (P.Here (S.Exact K.Name) ∷ P.Deeper (S.Exact K.LeftParen) ∷ P.Deeper S.ParamsEnd ∷ P.Here S.Block ∷ []) refl h)
step function_void a b m h = moved (λ n d. Q.void_function_made d) (node_parts R.Function a (P.Here (S.Exact K.VoidWord)) (P.Here (S.Exact K.Name) ∷ P.Deeper (S.Exact K.LeftParen) ∷ P.Deeper S.ParamsEnd ∷ P.Here S.Block ∷ []) refl h)
step no_params a b {s} m h = moved (λ n d. Q.not_given d) (plain_parts a (length s) (P.Here (S.Exact K.RightParen)) ([]) refl h)
step some_params a b {s} m h = moved (λ n d. Q.given d) (plain_parts a (length s) (P.Here S.Params) (P.Here (S.Exact K.RightParen) ∷ []) refl h)
step params_void a b m h = moved (λ n d. Q.void_params_made d) (node_parts R.Params a (P.Here (S.Exact K.VoidWord)) ([]) refl h)
step params_int a b m h = moved (λ n d. Q.int_params_made d) (node_parts R.Params a (P.Here (S.Exact K.IntWord)) (P.Here (S.Exact K.Name) ∷ P.Here S.ParamItems ∷ []) refl h)
step params_end a b m last = nothing_new (done)
step params_more a b {s} m h = moved (λ n d. Q.params_next d) (plain_parts a (length s) (P.Here (S.Exact K.Comma)) (P.Here (S.Exact K.IntWord) ∷ P.Here (S.Exact K.Name) ∷ P.Here S.ParamItems ∷ []) refl h)
step process a b m h = moved (λ n d. side d) (node_parts R.Process a (P.Here (S.Exact K.ProcessWord)) (P.Here (S.Exact K.Name) ∷ P.Here S.Block ∷ []) refl h)
step block a b m h = moved (λ n d. Q.block_made d) (node_parts R.Block a (P.Deeper (S.Exact K.LeftBrace)) (P.Deeper S.Stmts ∷ []) refl h)
step stmts_end a b {s} m h = moved (λ n d. Q.no_more d) (plain_parts a (length s) (P.Here (S.Exact K.RightBrace)) ([]) refl h)
step stmts_local a b {s} m h = moved (λ n d. Q.local_stands d) (plain_parts a (length s) (P.Here S.Local) (P.Here S.Stmts ∷ []) refl h)
step stmts_more a b {s} m h = moved (λ n d. Q.stmt_stands d) (plain_parts a (length s) (P.Here S.Stmt) (P.Here S.Stmts ∷ []) refl h)
step local a b m h = moved (λ n d. side d) (node_parts R.Local a (P.Here (S.Exact K.IntWord)) (P.Here S.LocalItem ∷ P.Here S.LocalItems ∷ []) refl h)
step local_end a b {s} m h = moved (λ n d. Q.no_more d) (plain_parts a (length s) (P.Here (S.Exact K.Semicolon)) ([]) refl h)
step local_more a b {s} m h = moved (λ n d. Q.again (Q.regroup d)) (plain_parts a (length s) (P.Here (S.Exact K.Comma)) (P.Here S.LocalItem ∷ P.Here S.LocalItems ∷ []) refl h)
step local_item a b m h = moved (λ n d. Q.local_item_made d) (node_parts R.Litem a (P.Here (S.Exact K.Name)) (P.Here S.LocalStart ∷ []) refl h)
step no_local_start a b m last = nothing_new (left absent)
step local_start a b {s} m h = moved (λ n d. left (present d)) (plain_parts a (length s) (P.Here (S.Exact K.AssignMark)) (P.Here S.Value ∷ []) refl h)
step local_length a b {s} m h = moved (λ n d. right (Q.opened_three d)) (plain_parts a (length s) (P.Deeper (S.Exact K.LeftBracket)) (P.Deeper (S.Exact K.Number) ∷ P.Deeper (S.Exact K.RightBracket) ∷ []) refl h)
step value_recv a b m h = moved (λ n d. Q.received_value (Q.received_made d)) (node_parts R.Value a (P.Here (S.Exact K.RecvWord)) (P.Deeper (S.Exact K.LeftParen) ∷ P.Deeper (S.Exact K.Name) ∷ P.Deeper (S.Exact K.RightParen) ∷ []) refl h)
step value_plain a b m h = moved (λ n d. Q.other_value d) (node_parts R.Value a (P.Here S.CallOrExpr) ([]) refl h)
step call_or_name a b m h = mapped (λ n d. call_or_name_is a d) (walk_own a (parts call_or_name) refl h)
step other_expr a b m h = mapped (λ n d. right (other_expr_is a d)) (walk_own a (parts other_expr) refl h)
step named_call a b m h = λ front got e eb. mapped (λ n d. named_call_on a d) (walk a b (parts named_call) front got refl e eb h)
step named_expr a b m h = λ front got e eb. mapped (λ n d. named_expr_on a d) (walk a b (parts named_expr) front got refl e eb h)
step no_args a b {s} m h = moved (λ n d. Q.not_given d) (plain_parts a (length s) (P.Here (S.Exact K.RightParen)) ([]) refl h)
step some_args a b {s} m h = moved (λ n d. Q.given (Q.regroup d)) (plain_parts a (length s) (P.Here S.Expr) (P.Here S.ArgsMore ∷ []) refl h)
step args_end a b {s} m h = moved (λ n d. Q.no_more d) (plain_parts a (length s) (P.Here (S.Exact K.RightParen)) ([]) refl h)
step args_more a b {s} m h = moved (λ n d. Q.again (Q.regroup d)) (plain_parts a (length s) (P.Here (S.Exact K.Comma)) (P.Here S.Expr ∷ P.Here S.ArgsMore ∷ []) refl h)
step place a b m h = moved (λ n d. side d) (node_parts R.Place a (P.Here (S.Exact K.Name)) (P.Here S.PlaceEnd ∷ []) refl h)
step no_index a b m last = nothing_new (absent)
step index a b {s} m h = moved (λ n d. present (Q.opened_three d)) (plain_parts a (length s) (P.Deeper (S.Exact K.LeftBracket)) (P.Deeper S.Expr ∷ P.Deeper (S.Exact K.RightBracket) ∷ []) refl h)
step change a b m h = moved (λ n d. Q.change_made d) (node_parts R.Change a (P.Here S.Place) (P.Here S.ChangeEnd ∷ []) refl h)
step assign a b {s} m h = moved (λ n d. left (Q.assigned d)) (plain_parts a (length s) (P.Here (S.Exact K.AssignMark)) (P.Here S.Expr ∷ []) refl h)
step add a b {s} m h = moved (λ n d. left (Q.added d)) (plain_parts a (length s) (P.Here (S.Exact K.AddMark)) (P.Here S.Expr ∷ []) refl h)
step subtract a b {s} m h = moved (λ n d. left (Q.subtracted d)) (plain_parts a (length s) (P.Here (S.Exact K.SubtractMark)) (P.Here S.Expr ∷ []) refl h)
step increase a b {s} m h = moved (λ n d. right (left d)) (plain_parts a (length s) (P.Here (S.Exact K.IncreaseMark)) ([]) refl h)
step decrease a b {s} m h = moved (λ n d. right (right d)) (plain_parts a (length s) (P.Here (S.Exact K.DecreaseMark)) ([]) refl h)
step expr a b m h = mapped (λ n d. expr_is a d) (walk_own a (parts expr) refl h)
step expr_rest a b m h = λ front got e eb. mapped (λ n d. expr_rest_on a d) (walk a b (parts expr_rest) front got refl e eb h)
step unary_place a b m h = moved (λ n d. Q.place_unary d) (node_parts R.Unary a (P.Here S.Place) ([]) refl h)
step unary_other a b {s} m h = plain_parts a (length s) (P.Here S.OtherUnary) ([]) refl h
step minus a b m h = moved (λ n d. Q.minus_unary d) (node_parts R.Unary a (P.Deeper (S.Exact K.MinusMark)) (P.Deeper S.Unary ∷ []) refl h)
step negation a b m h = moved (λ n d. Q.not_unary d) (node_parts R.Unary a (P.Deeper (S.Exact K.NotMark)) (P.Deeper S.Unary ∷ []) refl h)
step parens a b m h = moved (λ n d. Q.parens_unary d) (node_parts R.Unary a (P.Deeper (S.Exact K.LeftParen)) (P.Deeper S.Expr ∷ P.Deeper (S.Exact K.RightParen) ∷ []) refl h)
step number a b m h = moved (λ n d. Q.number_unary d) (node_parts R.Unary a (P.Here (S.Exact K.Number)) ([]) refl h)
step stmt_block a b m h = moved (λ n d. Q.block_stmt d) (node_parts R.Stmt a (P.Here S.Block) ([]) refl h)
step stmt_empty a b m h = moved (λ n d. Q.empty_stmt d) (node_parts R.Stmt a (P.Here (S.Exact K.Semicolon)) ([]) refl h)
step stmt_name a b m h = mapped (λ n d. stmt_name_is a d) (walk_own a (parts stmt_name) refl h)
step stmt_if a b m h = moved (λ n d. Q.if_stmt d) (node_parts R.Stmt a (P.Here (S.Exact K.IfWord)) (P.Deeper (S.Exact K.LeftParen) ∷ P.Deeper S.Expr ∷ P.Deeper (S.Exact K.RightParen) ∷ P.Deeper S.Stmt ∷ P.Here S.ElsePart ∷ []) refl h)
step stmt_while a b m h = moved (λ n d. Q.while_stmt d) (node_parts R.Stmt a (P.Here (S.Exact K.WhileWord)) (P.Deeper (S.Exact K.LeftParen) ∷ P.Deeper S.Expr ∷ P.Deeper (S.Exact K.RightParen) ∷ P.Deeper S.Stmt ∷ []) refl h)
step stmt_for a b m h = moved (λ n d. Q.for_stmt d) (node_parts R.Stmt a (P.Here (S.Exact K.ForWord)) (P.Deeper (S.Exact K.LeftParen) ∷ P.Deeper S.ForStart ∷ P.Deeper S.ForTest ∷ P.Deeper S.ForStep ∷ P.Deeper S.Stmt ∷ []) refl h)
step stmt_return a b m h = moved (λ n d. Q.return_stmt d) (node_parts R.Stmt a (P.Here (S.Exact K.ReturnWord)) (P.Here S.ReturnEnd ∷ []) refl h)
step stmt_take a b m h = moved (λ n d. Q.take_stmt d) (node_parts R.Stmt a (P.Here (S.Exact K.TakeWord)) (P.Deeper (S.Exact K.LeftParen) ∷ P.Deeper (S.Exact K.Name) ∷ P.Deeper (S.Exact K.RightParen) ∷ P.Here (S.Exact K.Semicolon) ∷ []) refl h)
step stmt_give a b m h = moved (λ n d. Q.give_stmt d) (node_parts R.Stmt a (P.Here (S.Exact K.GiveWord)) (P.Deeper (S.Exact K.LeftParen) ∷ P.Deeper (S.Exact K.Name) ∷ P.Deeper (S.Exact K.RightParen) ∷ P.Here (S.Exact K.Semicolon) ∷ []) refl h)
step stmt_send a b m h = moved (λ n d. Q.send_stmt d) (node_parts R.Stmt a (P.Here (S.Exact K.SendWord)) (P.Deeper (S.Exact K.LeftParen) ∷ P.Deeper (S.Exact K.Name) ∷ P.Deeper (S.Exact K.Comma) ∷ P.Deeper S.Expr ∷ P.Deeper (S.Exact K.RightParen) ∷ P.Here (S.Exact K.Semicolon) ∷ []) refl h)
step stmt_print a b m h = moved (λ n d. Q.print_stmt d) (node_parts R.Stmt a (P.Here (S.Exact K.PrintWord)) (P.Deeper (S.Exact K.LeftParen) ∷ P.Deeper S.Expr ∷ P.Deeper (S.Exact K.RightParen) ∷ P.Here (S.Exact K.Semicolon) ∷ []) refl h)
step stmt_assert a b m h = moved (λ n d. Q.assert_stmt d) (node_parts R.Stmt a (P.Here (S.Exact K.AssertWord)) (P.Deeper (S.Exact K.LeftParen) ∷ P.Deeper S.Expr ∷ P.Deeper (S.Exact K.RightParen) ∷ P.Here (S.Exact K.Semicolon) ∷ []) refl h)
step rest_call a b m h = λ front got e eb. mapped (λ n d. rest_call_on a d) (walk a b (parts rest_call) front got refl e eb h)
step rest_element a b m h = rest_element_on a b h
step rest_scalar a b m h = rest_scalar_on a b h
step rest_assign a b m h = rest_assign_on a b h
step rest_add a b m h = λ front held e eb. mapped (λ n d. rest_add_on a d) (walk a b (parts rest_add) front (held ∷ []) refl e eb h)
step rest_subtract a b m h = λ front held e eb. mapped (λ n d. rest_subtract_on a d) (walk a b (parts rest_subtract) front (held ∷ []) refl e eb h)
step rest_increase a b m h = λ front held e eb. mapped (λ n d. rest_increase_on a d) (walk a b (parts rest_increase) front (held ∷ []) refl e eb h)
step rest_decrease a b m h = λ front held e eb. mapped (λ n d. rest_decrease_on a d) (walk a b (parts rest_decrease) front (held ∷ []) refl e eb h)
step assigned_recv a b m h = assigned_recv_on a b h
step assigned_name a b m h = assigned_name_on a b h
step assigned_other a b m h = assigned_other_on a b h
step assigned_call a b m h = assigned_call_on a h
step assigned_expr a b m h = assigned_expr_on a h
step no_else a b {ts = ts} m last = nothing_new (right (ended (Q.no_else_next ts m)))
step some_else a b {s} m h = moved (λ n d. left d) (plain_parts a (length s) (P.Here (S.Exact K.ElseWord)) (P.Deeper S.Stmt ∷ []) refl h)
step for_plain a b {s} m h = moved (λ n d. Q.not_given d) (plain_parts a (length s) (P.Here (S.Exact K.Semicolon)) ([]) refl h)
step for_local a b {s} m h = moved (λ n d. Q.local_start d) (plain_parts a (length s) (P.Here (S.Exact K.IntWord)) (P.Here (S.Exact K.Name) ∷ P.Here (S.Exact K.AssignMark) ∷ P.Here S.Expr ∷ P.Here (S.Exact K.Semicolon) ∷ []) refl h)
step for_change a b {s} m h = moved (λ n d. Q.change_start d) (plain_parts a (length s) (P.Here S.Change) (P.Here (S.Exact K.Semicolon) ∷ []) refl h)
step for_ever a b {s} m h = moved (λ n d. Q.not_given d) (plain_parts a (length s) (P.Here (S.Exact K.Semicolon)) ([]) refl h)
step for_while a b {s} m h = moved (λ n d. Q.given d) (plain_parts a (length s) (P.Here S.Expr) (P.Here (S.Exact K.Semicolon) ∷ []) refl h)
step for_still a b {s} m h = moved (λ n d. Q.not_given d) (plain_parts a (length s) (P.Here (S.Exact K.RightParen)) ([]) refl h)
step for_step a b {s} m h = moved (λ n d. Q.given d) (plain_parts a (length s) (P.Here S.Change) (P.Here (S.Exact K.RightParen) ∷ []) refl h)
step return_plain a b {s} m h = moved (λ n d. Q.not_given d) (plain_parts a (length s) (P.Here (S.Exact K.Semicolon)) ([]) refl h)
step return_value a b {s} m h = moved (λ n d. Q.given d) (plain_parts a (length s) (P.Here S.CallOrExpr) (P.Here (S.Exact K.Semicolon) ∷ []) refl h)
step (operand l) a b m h = mapped (λ n d. operand_is l a d) (walk_own a (operand_parts l) (runs_operand l) h)
step (chain_end l) a b m h = λ front got e eb. mapped (λ n d. chain_end_on l a d) (walk a b [] front got refl e eb h)
step (chain_more l) a b m h = λ front got e eb. mapped (λ n d. chain_more_on l a d) (walk a b (parts (chain_more l)) front got refl e eb h)

mutual
  pub means : {w : Want} {s t : List Shape} {ts rest : List Marked} → Reads w s ts t rest → Means w s ts t rest
  means (exact e m) = out (token e m)
  means (operator e m) = out (sign e m)
  means wrap = closed
  means (by {a = a} {b = b} p m rs) = step p a b m (means_all rs)

  pub means_all : {ws : List Want} {s t : List Shape} {ts rest : List Marked} → ReadsAll ws s ts t rest → MeansAll ws s ts t rest
  means_all nothing = last
  means_all (next r rs) = then (means r) (means_all rs)

-- What the parser reads is a program, with the same tree.
pub parsed_program : {ts : List Marked} {f : List Shape} → IsParsed ts f → IsProgram ts f
parsed_program p = only (means_all p)
  where
    only : {ts : List Marked} {f : List Shape} → MeansAll (Get S.Source outside 0 ∷ []) [] ts f [] → IsProgram ts f
    only (then h last) = whole h
      where
        whole : {ts : List Marked} {f : List Shape} → Out [] (λ new. IsProgram ts new) f → IsProgram ts f
        whole (out d) = d
