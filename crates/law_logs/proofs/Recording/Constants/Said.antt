-- The numbers of what a tree says have 64 bits, where those of its tokens have.
use Rattle.std.proofs.Common.{◌≡◌, zero, suc, ℤ, pos, negsuc, nat_abs, neg_ℤ, Bool, true, false, List, [], ◌∷◌, Some, None, refl, arith, if◌then◌else◌, slice_index_or}
use Rattle.std.specs.Prelude.{drop}
use Rattle.std.proofs.lemmas.Bool.Decides.{nat_tests}
use Rattle.ppd_parse.specs.declared.token.Token.{Token}
use Rattle.ppd_parse.specs.declared.token.Kind.{Kind}
use Rattle.ppd_parse.specs.declared.token.Kind.TheVariants as K
use Rattle.ppd_parse.specs.declared.symbol.Rule.{Rule}
use Rattle.ppd_parse.specs.declared.symbol.Rule.TheVariants as R
use Rattle.ppd_parse.specs.Grammar.{Shape, leaf, node, Shapes, no_shapes, shape_then}
use Rattle.ppd_parse.specs.Leaves.{leaves, leaves_in}
use Rattle.ppd_check_names.specs.Reading.{Phrase, token, goal, calling, changing, body, value_of, phrase, last, as_token, as_value, as_row, called, kind, name_at, name_of, number_behind, formula_at, number_at, beyond, before, joined, unary, formulas, local_item, changed, followed, rows, locals, for_start, for_row, some_change, returned, worded, statement, shared_item, numbered, made, said, all_said, same_kind, as_goal}
use Rattle.ppd_check_names.specs.Syntax.{Formula, number, scalar, item, plain, received, fresh, array, Row, stop, simple, block, choice, repeat, count, Item, shared, shared_array, semaphore, channel}
use Rattle.law_logs.proofs.Recording.Fit.{All, Fit, SomeFits, all_left, all_right, choose}
use Rattle.law_logs.proofs.Recording.Constants.Phrases.{FormulaFits, GoalFits, ValueFits, SimpleFits, RowFits, ItemFits, PhraseFits, token_fits, goal_fits, called_fits, value_fits, row_fits, block_fits, change_fits, AllFit, at_fits, last_fits, formula_at_fits, drop_fits, before_fits, beyond_fits, all_items_fit, formulas_fit}

-- ---- what a rule makes

joined_fits : (k : Kind) (a b : Formula) → FormulaFits a → FormulaFits b → FormulaFits (joined k a b)
joined_fits K.OrMark a b x y = (x, y)
joined_fits _ a b x y = (x, y)

unary_fits : (ps : List Phrase) (k : Kind) → kind (phrase ps 0) ≡ k → AllFit ps → FormulaFits (unary ps)
unary_fits ps K.LeftParen e h = rw (e) (formula_at_fits ps 1 h)
unary_fits ps K.MinusMark e h = rw (e) (formula_at_fits ps 1 h)
unary_fits ps K.NotMark e h = rw (e) (formula_at_fits ps 1 h)
unary_fits ps K.Number e h = rw (e) (token_fits (phrase ps 0) (at_fits ps 0 h))
unary_fits ps k e h = rw (e) (formula_at_fits ps 0 h)

goal_of_fits : (ps : List Phrase) → AllFit ps → GoalFits (as_goal (made R.Place ps))
goal_of_fits ps h = choose GoalFits (same_kind K.LeftBracket (kind (phrase ps 1))) (item (name_at ps 0) (formula_at ps 2)) (scalar (name_at ps 0)) (formula_at_fits ps 2 h) tt

value_said_fits : (ps : List Phrase) → AllFit ps → ValueFits (as_value (made R.Value ps))
value_said_fits ps h = choose ValueFits (same_kind K.RecvWord (kind (phrase ps 0))) (received (name_at ps 2)) (called (phrase ps 0)) tt (called_fits (phrase ps 0) (at_fits ps 0 h))

local_item_fits : (ps : List Phrase) → AllFit ps → SimpleFits (local_item ps)
local_item_fits ps h =
    choose SimpleFits (same_kind K.LeftBracket (kind (phrase ps 1))) (array (name_at ps 0) (number_at ps 2))
    (if same_kind K.AssignMark (kind (phrase ps 1)) then fresh (name_at ps 0) (as_value (phrase ps 2)) else fresh (name_at ps 0) (plain (number (pos 0)))) tt
    (choose SimpleFits (same_kind K.AssignMark (kind (phrase ps 1))) (fresh (name_at ps 0) (as_value (phrase ps 2))) (fresh (name_at ps 0) (plain (number (pos 0))))
    (value_fits (phrase ps 2) (at_fits ps 2 h)) refl)

changed_fits : (ps : List Phrase) (k : Kind) → kind (phrase ps 1) ≡ k → AllFit ps → SimpleFits (changed ps)
changed_fits ps K.AssignMark e h = rw (e) (goal_fits (phrase ps 0) (at_fits ps 0 h), formula_at_fits ps 2 h)
changed_fits ps K.AddMark e h = rw (e) (goal_fits (phrase ps 0) (at_fits ps 0 h), formula_at_fits ps 2 h)
changed_fits ps K.SubtractMark e h = rw (e) (goal_fits (phrase ps 0) (at_fits ps 0 h), formula_at_fits ps 2 h)
changed_fits ps K.IncreaseMark e h = rw (e) (goal_fits (phrase ps 0) (at_fits ps 0 h), refl)
changed_fits ps k e h = rw (e) (goal_fits (phrase ps 0) (at_fits ps 0 h), refl)

followed_fits : (q r : Row) → RowFits q → RowFits r → RowFits (followed q r)
followed_fits stop r h k = k
followed_fits (simple s q) r h k = (h.0, followed_fits q r h.1 k)
followed_fits (block b q) r h k = (h.0, followed_fits q r h.1 k)
followed_fits (choice p e x y q) r h k = (h.0, h.1, h.2, followed_fits q r h.3 k)
followed_fits (repeat p e x q) r h k = (h.0, h.1, followed_fits q r h.2 k)
followed_fits (count p s e t x q) r h k = (h.0, h.1, h.2, h.3, followed_fits q r h.4 k)

rows_fit : (ps : List Phrase) → AllFit ps → RowFits (rows ps)
rows_fit [] h = tt
rows_fit (p ∷ ps) h = followed_fits (as_row p) (rows ps) (row_fits p h.0) (rows_fit ps h.1)

locals_fit : (ps : List Phrase) → AllFit ps → RowFits (locals ps)
locals_fit [] h = tt
locals_fit (changing s ∷ ps) h = (h.0, locals_fit ps h.1)
locals_fit (p ∷ ps) h = locals_fit ps h.1

test_fits : (fs : List Formula) → All FormulaFits fs → FormulaFits (slice_index_or fs 0 (number (pos 1)))
test_fits [] h = refl
test_fits (f ∷ fs) h = h.0

start_fits : (ps : List Phrase) → AllFit ps → SomeFits SimpleFits (for_start ps)
start_fits ps h =
    choose (SomeFits SimpleFits) (same_kind K.IntWord (kind (phrase ps 0))) (Some (fresh (name_at ps 1) (plain (formula_at ps 3)))) (some_change (phrase ps 0)) (formula_at_fits ps 3 h)
    (change_fits (phrase ps 0) (at_fits ps 0 h))

for_fits : (ps : List Phrase) → AllFit ps → RowFits (for_row ps)
for_fits ps h =
    let inside : AllFit (drop 2 ps) = drop_fits 2 ps h in
    let later : AllFit (beyond (drop 2 ps)) = beyond_fits (drop 2 ps) inside in (
      start_fits (before (drop 2 ps)) (before_fits (drop 2 ps) inside),
      test_fits (formulas (before (beyond (drop 2 ps)))) (formulas_fit (before (beyond (drop 2 ps))) (before_fits (beyond (drop 2 ps)) later)),
      change_fits (phrase (beyond (beyond (drop 2 ps))) 0) (at_fits (beyond (beyond (drop 2 ps))) 0 (beyond_fits (beyond (drop 2 ps)) later)),
      row_fits (last ps) (last_fits ps h),
      tt,
    )

returned_fits : (p : Phrase) → PhraseFits p → SomeFits ValueFits (returned p)
returned_fits p h = by (same_kind K.Semicolon (kind p))
  where
    by : (b : Bool) → SomeFits ValueFits (if b then None else Some (as_value p))
    by true = tt
    by false = value_fits p h

worded_fits : (ps : List Phrase) (k : Kind) → kind (phrase ps 0) ≡ k → AllFit ps → RowFits (worded ps)
worded_fits ps K.IfWord e h = rw (e) (formula_at_fits ps 2 h, row_fits (phrase ps 4) (at_fits ps 4 h), row_fits (phrase ps 6) (at_fits ps 6 h), tt)
worded_fits ps K.WhileWord e h = rw (e) (formula_at_fits ps 2 h, row_fits (phrase ps 4) (at_fits ps 4 h), tt)
worded_fits ps K.ForWord e h = rw (e) (for_fits ps h)
worded_fits ps K.ReturnWord e h = rw (e) (returned_fits (phrase ps 1) (at_fits ps 1 h), tt)
worded_fits ps K.TakeWord e h = rw (e) (tt, tt)
worded_fits ps K.GiveWord e h = rw (e) (tt, tt)
worded_fits ps K.SendWord e h = rw (e) (formula_at_fits ps 4 h, tt)
worded_fits ps K.PrintWord e h = rw (e) (formula_at_fits ps 2 h, tt)
worded_fits ps K.AssertWord e h = rw (e) (formula_at_fits ps 2 h, tt)
worded_fits ps k e h = rw (e) (tt, tt)

statement_fits : (p : Phrase) (ps : List Phrase) → PhraseFits p → AllFit ps → RowFits (statement p ps)
statement_fits (body b) ps h hs = (h, tt)
statement_fits (changing s) ps h hs = (h, tt)
statement_fits (goal g) ps h hs = ((h, value_fits (phrase ps 2) (at_fits ps 2 hs)), tt)
statement_fits (calling f args) ps h hs = (h, tt)
statement_fits (token t) ps h hs = worded_fits ps (kind (phrase ps 0)) refl hs
statement_fits _ ps h hs = tt

-- the negative of a number's size
negative_fits : (v : ℤ) → Fit v → Fit (neg_ℤ (pos (nat_abs v)))
negative_fits (pos zero) h = refl
negative_fits (pos (suc n)) h = grind (arith, nat_tests)
negative_fits (negsuc n) h = h

shared_item_fits : (ps : List Phrase) → AllFit ps → ItemFits (shared_item ps)
shared_item_fits ps h =
    let minus : Item = shared (name_at ps 0) (neg_ℤ (pos (number_at ps 3).value)) in
    let plus : Item = shared (name_at ps 0) (value_of (as_token (phrase ps 2)).kind) in
    choose ItemFits (same_kind K.LeftBracket (kind (phrase ps 1))) (shared_array (name_at ps 0) (number_at ps 2)) (if same_kind K.MinusMark (kind (phrase ps 2)) then minus else plus) tt
    (choose ItemFits (same_kind K.MinusMark (kind (phrase ps 2))) minus plus (negative_fits (value_of (as_token (phrase ps 3)).kind) (token_fits (phrase ps 3) (at_fits ps 3 h)))
    (token_fits (phrase ps 2) (at_fits ps 2 h)))

sems_fit : (ps : List Phrase) → All ItemFits (numbered semaphore ps)
sems_fit [] = tt
sems_fit (p ∷ ps) =
    choose (All ItemFits) (same_kind K.Name (kind p)) (semaphore (name_of (as_token p)) (number_behind (name_of (as_token p)) ps) ∷ numbered semaphore ps) (numbered semaphore ps)
    (tt, sems_fit ps) (sems_fit ps)

chans_fit : (ps : List Phrase) → All ItemFits (numbered channel ps)
chans_fit [] = tt
chans_fit (p ∷ ps) =
    choose (All ItemFits) (same_kind K.Name (kind p)) (channel (name_of (as_token p)) (number_behind (name_of (as_token p)) ps) ∷ numbered channel ps) (numbered channel ps)
    (tt, chans_fit ps) (chans_fit ps)

made_fits : (r : Rule) (ps : List Phrase) → AllFit ps → PhraseFits (made r ps)
made_fits R.Leaf ps h = refl
made_fits R.Source ps h = all_items_fit ps h
made_fits R.Shared ps h = all_items_fit ps h
made_fits R.Sitem ps h = (shared_item_fits ps h, tt)
made_fits R.Sems ps h = sems_fit ps
made_fits R.Chans ps h = chans_fit ps
made_fits R.Function ps h = (block_fits (last ps) (last_fits ps h), tt)
made_fits R.Params ps h = tt
made_fits R.Process ps h = (block_fits (last ps) (last_fits ps h), tt)
made_fits R.Block ps h = rows_fit ps h
made_fits R.Local ps h = locals_fit ps h
made_fits R.Litem ps h = local_item_fits ps h
made_fits R.Value ps h = value_said_fits ps h
made_fits R.Call ps h = formulas_fit ps h
made_fits R.Place ps h = goal_of_fits ps h
made_fits R.Change ps h = changed_fits ps (kind (phrase ps 1)) refl h
made_fits R.Stmt ps h = statement_fits (phrase ps 0) ps (at_fits ps 0 h) h
made_fits R.Unary ps h = unary_fits ps (kind (phrase ps 0)) refl h
made_fits R.Binary ps h = joined_fits (kind (phrase ps 1)) (formula_at ps 0) (formula_at ps 2) (formula_at_fits ps 0 h) (formula_at_fits ps 2 h)

-- ---- trees

abbrev pub TokenFits : Token → Type 0
TokenFits t = Fit (value_of t.kind)

mutual
  pub said_fits : (t : Shape) → All TokenFits (leaves t) → PhraseFits (said t)
  said_fits (leaf t) h = h.0
  said_fits (node r ts) h = made_fits r (all_said ts) (all_said_fit ts h)

  all_said_fit : (ts : Shapes) → All TokenFits (leaves_in ts) → All PhraseFits (all_said ts)
  all_said_fit no_shapes h = tt
  all_said_fit (shape_then t ts) h = (said_fits t (all_left TokenFits (leaves t) (leaves_in ts) h), all_said_fit ts (all_right TokenFits (leaves t) (leaves_in ts) h))
