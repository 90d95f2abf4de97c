-- The first token of a symbol says how it is made up.
use Rattle.std.proofs.Common.{◌≡◌, ℕ, Bool, true, false, List, [], ◌∷◌, refl, sym, ◌∙◌, ap, cond}
use Rattle.ppd_parse.specs.declared.token.Kind.{Kind}
use Rattle.ppd_parse.specs.declared.token.Kind.TheVariants as K
use Rattle.ppd_parse.specs.declared.symbol.Level.{Level}
use Rattle.ppd_parse.specs.declared.symbol.Symbol.{Symbol}
use Rattle.ppd_parse.specs.declared.symbol.Symbol.TheVariants as S
use Rattle.ppd_parse.specs.declared.symbol.At.{At}
use Rattle.ppd_parse.specs.declared.symbol.Want.{Want}
use Rattle.ppd_parse.specs.declared.symbol.Want.TheVariants.{Get, Close}
use Rattle.ppd_parse.specs.Grammar.{Shape, Marked, kind_at, is_operator, Production, parts, Stands, wants_in, Reads, ReadsAll, exact, operator, wrap, by, next, operand, chain_end, chain_more, source, items_shared, items_sems, items_chans, items_function, items_process, no_start, no_sem_start, some_params, params_end, stmts_local, stmts_more, no_local_start, value_plain, other_expr, named_expr, some_args, no_index, change, expr, expr_rest, unary_place, unary_other, stmt_block, rest_scalar, assigned_other, assigned_expr, no_else, for_change, for_while, for_step, return_value}
use Rattle.ppd_parse.specs.Choice.{Choice, choose, chosen, refused}

-- a token of this kind may be the first of the symbol
abbrev IsFirst : Symbol → Kind → Type 0
IsFirst (S.Exact j) k = k ≡ j
IsFirst (S.Operator l) k = is_operator l k ≡ true
IsFirst y k = (q : Production y) × (choose y k ≡ chosen q)

-- the same of what is wanted, past ends of nodes
abbrev IsFirstOf : List Want → Kind → Type 0
IsFirstOf [] k = Unit {0}
IsFirstOf (Close r b ∷ ws) k = IsFirstOf ws k
IsFirstOf (Get y a b ∷ ws) k = IsFirst y k

by_operator : (l : Level) (k : Kind) (b : Bool) → is_operator l k ≡ b → choose (S.Chain l) k ≡ cond b (chosen (chain_more l)) (chosen (chain_end l))
by_operator l k b e = ap (λ c. cond c (chosen (chain_more l)) (chosen (chain_end l))) e

nothing_chosen : {y : Symbol} (p : Production y) → refused ≡ chosen p → ⊥
nothing_chosen p e = cc

-- What may begin with the token, and may stand before it, is what the token chooses. First what may be left out, then
-- what begins with a symbol; all else begins with a token of its own.
fits : {y : Symbol} (p : Production y) (k : Kind) (a : At) (b : ℕ) → Stands p k → IsFirstOf (wants_in a b (parts p)) k → choose y k ≡ chosen p
fits no_start K.AssignMark a b h f = absurd (h.0 refl)
fits no_start K.LeftBracket a b h f = absurd (h.1 refl)
fits no_start _ a b h f = refl
fits no_sem_start K.AssignMark a b h f = absurd (h refl)
fits no_sem_start _ a b h f = refl
fits params_end K.Comma a b h f = absurd (h refl)
fits params_end _ a b h f = refl
fits no_local_start K.AssignMark a b h f = absurd (h.0 refl)
fits no_local_start K.LeftBracket a b h f = absurd (h.1 refl)
fits no_local_start _ a b h f = refl
fits named_expr K.LeftParen a b h f = absurd (h refl)
fits named_expr _ a b h f = refl
fits no_index K.LeftBracket a b h f = absurd (h refl)
fits no_index _ a b h f = refl
fits assigned_expr K.LeftParen a b h f = absurd (h refl)
fits assigned_expr _ a b h f = refl
fits no_else K.ElseWord a b h f = absurd (h refl)
fits no_else _ a b h f = refl
fits (operand l) k a b h f = refl
fits (chain_end l) k a b h f = by_operator l k false h
fits (chain_more l) k a b h f = by_operator l k true f
fits source k a b h f = refl
fits expr_rest k a b h f = refl
fits items_shared K.SharedWord a b h f = refl
fits items_shared _ a b h (q, e) = absurd (nothing_chosen q e)
fits items_sems K.SemWord a b h f = refl
fits items_sems _ a b h (q, e) = absurd (nothing_chosen q e)
fits items_chans K.ChanWord a b h f = refl
fits items_chans _ a b h (q, e) = absurd (nothing_chosen q e)
fits items_function K.IntWord a b h f = refl
fits items_function K.VoidWord a b h f = refl
fits items_function _ a b h (q, e) = absurd (nothing_chosen q e)
fits items_process K.ProcessWord a b h f = refl
fits items_process _ a b h (q, e) = absurd (nothing_chosen q e)
fits some_params K.IntWord a b h f = refl
fits some_params K.VoidWord a b h f = refl
fits some_params _ a b h (q, e) = absurd (nothing_chosen q e)
fits stmts_local K.IntWord a b h f = refl
fits stmts_local _ a b h (q, e) = absurd (nothing_chosen q e)
fits stmts_more K.Name a b h f = refl
fits stmts_more K.LeftBrace a b h f = refl
fits stmts_more K.Semicolon a b h f = refl
fits stmts_more K.IfWord a b h f = refl
fits stmts_more K.WhileWord a b h f = refl
fits stmts_more K.ForWord a b h f = refl
fits stmts_more K.ReturnWord a b h f = refl
fits stmts_more K.TakeWord a b h f = refl
fits stmts_more K.GiveWord a b h f = refl
fits stmts_more K.SendWord a b h f = refl
fits stmts_more K.PrintWord a b h f = refl
fits stmts_more K.AssertWord a b h f = refl
fits stmts_more _ a b h (q, e) = absurd (nothing_chosen q e)
fits value_plain K.Name a b h f = refl
fits value_plain K.MinusMark a b h f = refl
fits value_plain K.NotMark a b h f = refl
fits value_plain K.LeftParen a b h f = refl
fits value_plain K.Number a b h f = refl
fits value_plain _ a b h (q, e) = absurd (nothing_chosen q e)
fits other_expr K.Number a b h f = refl
fits other_expr K.MinusMark a b h f = refl
fits other_expr K.NotMark a b h f = refl
fits other_expr K.LeftParen a b h f = refl
fits other_expr _ a b h (q, e) = absurd (nothing_chosen q e)
fits some_args K.Name a b h f = refl
fits some_args K.MinusMark a b h f = refl
fits some_args K.NotMark a b h f = refl
fits some_args K.LeftParen a b h f = refl
fits some_args K.Number a b h f = refl
fits some_args _ a b h (q, e) = absurd (nothing_chosen q e)
fits change K.Name a b h f = refl
fits change _ a b h (q, e) = absurd (nothing_chosen q e)
fits expr K.Name a b h f = refl
fits expr K.MinusMark a b h f = refl
fits expr K.NotMark a b h f = refl
fits expr K.LeftParen a b h f = refl
fits expr K.Number a b h f = refl
fits expr _ a b h (q, e) = absurd (nothing_chosen q e)
fits unary_place K.Name a b h f = refl
fits unary_place _ a b h (q, e) = absurd (nothing_chosen q e)
fits unary_other K.Number a b h f = refl
fits unary_other K.MinusMark a b h f = refl
fits unary_other K.NotMark a b h f = refl
fits unary_other K.LeftParen a b h f = refl
fits unary_other _ a b h (q, e) = absurd (nothing_chosen q e)
fits stmt_block K.LeftBrace a b h f = refl
fits stmt_block _ a b h (q, e) = absurd (nothing_chosen q e)
fits rest_scalar K.AssignMark a b h f = refl
fits rest_scalar K.AddMark a b h f = refl
fits rest_scalar K.SubtractMark a b h f = refl
fits rest_scalar K.IncreaseMark a b h f = refl
fits rest_scalar K.DecreaseMark a b h f = refl
fits rest_scalar _ a b h (q, e) = absurd (nothing_chosen q e)
fits assigned_other K.Number a b h f = refl
fits assigned_other K.MinusMark a b h f = refl
fits assigned_other K.NotMark a b h f = refl
fits assigned_other K.LeftParen a b h f = refl
fits assigned_other _ a b h (q, e) = absurd (nothing_chosen q e)
fits for_change K.Name a b h f = refl
fits for_change _ a b h (q, e) = absurd (nothing_chosen q e)
fits for_while K.Name a b h f = refl
fits for_while K.MinusMark a b h f = refl
fits for_while K.NotMark a b h f = refl
fits for_while K.LeftParen a b h f = refl
fits for_while K.Number a b h f = refl
fits for_while _ a b h (q, e) = absurd (nothing_chosen q e)
fits for_step K.Name a b h f = refl
fits for_step _ a b h (q, e) = absurd (nothing_chosen q e)
fits return_value K.Name a b h f = refl
fits return_value K.MinusMark a b h f = refl
fits return_value K.NotMark a b h f = refl
fits return_value K.LeftParen a b h f = refl
fits return_value K.Number a b h f = refl
fits return_value _ a b h (q, e) = absurd (nothing_chosen q e)
fits _ k a b h f = ap (choose _) f

mutual
  begins : (y : Symbol) {a : At} {b : ℕ} {s t : List Shape} {x : Marked} {ts rest : List Marked} → Reads (Get y a b) s (x ∷ ts) t rest → IsFirst y (kind_at x)
  begins (S.Exact k) (exact e m) = e
  begins (S.Exact k) (by p m r) = elim p [ ]
  begins (S.Operator l) (operator e m) = e
  begins (S.Operator l) (by p m r) = elim p [ ]
  begins y (by p m r) = (p, fits p _ _ _ m (all_begin _ r))

  all_begin : (ws : List Want) {s t : List Shape} {x : Marked} {ts rest : List Marked} → ReadsAll ws s (x ∷ ts) t rest → IsFirstOf ws (kind_at x)
  all_begin [] h = tt
  all_begin (Close r b ∷ ws) (next wrap rs) = all_begin ws rs
  all_begin (Get y a b ∷ ws) (next r rs) = begins y r

-- The token that is next says which production it is.
pub looked : (y : Symbol) (a : At) (b : ℕ) {s t : List Shape} {x : Marked} {ts rest : List Marked} (p : Production y) → Stands p (kind_at x) → ReadsAll (wants_in a b (parts p)) s (x ∷ ts) t rest → choose y (kind_at x) ≡ chosen p
looked y a b {x = x} p m rs = fits p (kind_at x) a b m (all_begin (wants_in a b (parts p)) rs)

chain_false : (l : Level) (b : Bool) → cond b (chosen (chain_more l)) (chosen (chain_end l)) ≡ chosen (chain_end l) → b ≡ false
chain_false l true e = cc
chain_false l false e = refl

-- What is chosen may stand before the token.
pub stands : {y : Symbol} (p : Production y) (k : Kind) → choose y k ≡ chosen p → Stands p k
stands no_start k e = ((λ d. let z = sym (ap (choose S.SharedStart) d) ∙ e in cc), (λ d. let z = sym (ap (choose S.SharedStart) d) ∙ e in cc))
stands no_sem_start k e = λ d. let z = sym (ap (choose S.SemStart) d) ∙ e in cc
stands params_end k e = λ d. let z = sym (ap (choose S.ParamItems) d) ∙ e in cc
stands no_local_start k e = ((λ d. let z = sym (ap (choose S.LocalStart) d) ∙ e in cc), (λ d. let z = sym (ap (choose S.LocalStart) d) ∙ e in cc))
stands named_expr k e = λ d. let z = sym (ap (choose S.NamedRest) d) ∙ e in cc
stands no_index k e = λ d. let z = sym (ap (choose S.PlaceEnd) d) ∙ e in cc
stands assigned_expr k e = λ d. let z = sym (ap (choose S.AssignedRest) d) ∙ e in cc
stands no_else k e = λ d. let z = sym (ap (choose S.ElsePart) d) ∙ e in cc
stands (chain_end l) k e = chain_false l (is_operator l k) e
stands _ k e = tt
