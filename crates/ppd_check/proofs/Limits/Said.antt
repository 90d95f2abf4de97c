-- What a tree within the limits says is small: its names, its expressions, and how deep its statements stand in one another.
use Rattle.std.proofs.Common.{◌≡◌, refl, sym, ap, ◌∙◌, ℕ, zero, suc, ◌+◌, ◌-◌, ◌≤◌, ℤ, pos, Bool, true, false, if◌then◌else◌, List, [], ◌∷◌, ◌++◌, drop, Some, None, arith, slice_index_or}
use Rattle.std.specs.Prelude.{⊤}
use Rattle.std.specs.List.{AllByRecursion, flat_map}
use Rattle.ppd_ast.specs.declared.limits.TheConstants.{MOST_OPEN, MOST_SOURCE_OPERATORS}
use Rattle.ppd_parse.specs.declared.token.Kind.{Kind}
use Rattle.ppd_parse.specs.declared.token.Kind.TheVariants as K
use Rattle.ppd_parse.specs.declared.symbol.Rule.{Rule}
use Rattle.ppd_parse.specs.declared.symbol.Rule.TheVariants as R
use Rattle.ppd_parse.specs.Grammar.{Shape, leaf, node, Shapes, no_shapes, shape_then}
use Rattle.ppd_check_names.specs.declared.nodes.Number.{Number}
use Rattle.ppd_check_names.specs.Syntax.{Name, Formula, number, variable, plain, received, fresh, array, Row, stop, simple, block, choice, repeat, count, Item, semaphore, channel}
use Rattle.ppd_check_names.specs.Reading.{Phrase, token, formula, goal, value, calling, changing, row, body, names, items, nowhere, name_of, phrase, last, as_token, goal_formula, as_formula, as_goal, called, as_value, as_row, as_block, as_names, as_items, kind, same_kind, is_formula, name_at, formula_at, before, beyond, formulas, local_item, changed, followed, rows, locals, some_change, for_start, for_row, returned, worded, statement, shared_item, number_behind, numbered, params, made, said, all_said, number_at}
use Rattle.ppd_check.proofs.Limits.Trees.{signs_in, levels, levels_in, OwnFits, is_for, starts_for, Fits, FitsIn, statement_in}
use Rattle.ppd_check.proofs.Limits.Depths.{place_in}
use Rattle.ppd_check.proofs.Limits.Small.{IsSmall, IsShort, IsSmallGoal, IsSmallValue, IsSmallIfAny, IsSmallSimple, IsSmallChange, IsSmallRow, IsSmallItem}
use Rattle.ppd_check.proofs.Limits.Formulas.{weight, depth, said_few, said_below}
use Rattle.ppd_check.proofs.Vocabulary.Sizes.{operators_in}

-- Small phrases, whose rows are at most n deep.

abbrev IsSmallPhrase : ℕ → Phrase → Type 0
IsSmallPhrase n (token t) = IsShort (name_of t)
IsSmallPhrase n (formula f) = IsSmall f
IsSmallPhrase n (goal g) = IsSmallGoal g
IsSmallPhrase n (value v) = IsSmallValue v
IsSmallPhrase n (calling f args) = AllByRecursion IsSmall args
IsSmallPhrase n (changing s) = IsSmallSimple s
IsSmallPhrase n (row r) = IsSmallRow n r
IsSmallPhrase n (body b) = IsSmallRow n b.row
IsSmallPhrase n (names xs) = AllByRecursion IsShort xs
IsSmallPhrase n (items is) = AllByRecursion IsSmallItem is

abbrev AreSmall : ℕ → List Phrase → Type 0
AreSmall n ps = AllByRecursion (IsSmallPhrase n) ps

row_more : (m n : ℕ) (r : Row) → m ≤ n → IsSmallRow m r → IsSmallRow n r
row_more m n stop le h = tt
row_more m n (simple s r) le h = (omega (arith, le, h.0), h.1, row_more m n r le h.2)
row_more m n (block b r) le h = (row_more m n b le h.0, row_more m n r le h.1)
row_more m n (choice p e a b r) le h = (omega (arith, le, h.0), h.1, row_more (m - 1) (n - 1) a (omega (arith, le)) h.2, row_more (m - 1) (n - 1) b (omega (arith, le)) h.3, row_more m n r le h.4)
row_more m n (repeat p e b r) le h = (omega (arith, le, h.0), h.1, row_more (m - 1) (n - 1) b (omega (arith, le)) h.2, row_more m n r le h.3)
row_more m n (count p s e t b r) le h = (omega (arith, le, h.0), h.1, h.2, h.3, row_more (m - 1) (n - 1) b (omega (arith, le)) h.4, row_more m n r le h.5)

small_number : (z : ℤ) → IsSmall (number z)
small_number z = record { few = omega arith; shallow = omega arith }

small_variable : (x : Name) → IsSmall (variable x)
small_variable x = record { few = omega arith; shallow = omega arith }

small_at : (n : ℕ) (ps : List Phrase) (k : ℕ) → AreSmall n ps → IsSmallPhrase n (phrase ps k)
small_at n [] k h = omega arith
small_at n (p ∷ ps) zero h = h.0
small_at n (p ∷ ps) (suc k) h = small_at n ps k h.1

small_formula : (n : ℕ) (p : Phrase) → IsSmallPhrase n p → IsSmall (as_formula p)
small_formula n (formula f) h = h
small_formula n (goal g) h = h
small_formula n p h = small_number (pos 0)

small_goal : (n : ℕ) (p : Phrase) → IsSmallPhrase n p → IsSmallGoal (as_goal p)
small_goal n (goal g) h = h
small_goal n p h = small_variable (name_of nowhere)

small_value : (n : ℕ) (p : Phrase) → IsSmallPhrase n p → IsSmallValue (as_value p)
small_value n (value v) h = h
small_value n (calling f args) h = h
small_value n (formula f) h = h
small_value n (goal g) h = h
small_value n p h = small_number (pos 0)

small_called : (n : ℕ) (p : Phrase) → IsSmallPhrase n p → IsSmallValue (called p)
small_called n (calling f args) h = h
small_called n (formula f) h = h
small_called n (goal g) h = h
small_called n p h = small_number (pos 0)

small_change : (n : ℕ) (p : Phrase) → IsSmallPhrase n p → IsSmallChange (some_change p)
small_change n (changing s) h = h
small_change n p h = tt

small_row : (n : ℕ) (p : Phrase) → IsSmallPhrase n p → IsSmallRow n (as_row p)
small_row n (row r) h = h
small_row n p h = tt

small_block : (n : ℕ) (p : Phrase) → IsSmallPhrase n p → IsSmallRow n (as_block p).row
small_block n (body b) h = h
small_block n p h = tt

short_names : (n : ℕ) (p : Phrase) → IsSmallPhrase n p → AllByRecursion IsShort (as_names p)
short_names n (names xs) h = h
short_names n p h = tt

small_items : (n : ℕ) (p : Phrase) → IsSmallPhrase n p → AllByRecursion IsSmallItem (as_items p)
small_items n (items is) h = h
small_items n p h = tt

short_name : (n : ℕ) (p : Phrase) → IsSmallPhrase n p → IsShort (name_of (as_token p))
short_name n (token t) h = h
short_name n p h = omega arith

-- Lists of phrases.

pub either_holds : {A : Type 0} (P : A → Type 0) (b : Bool) (x y : A) → P x → P y → P (if b then x else y)
either_holds P true x y h i = h
either_holds P false x y h i = i

before_small : (n : ℕ) (ps : List Phrase) → AreSmall n ps → AreSmall n (before ps)
before_small n [] h = tt
before_small n (p ∷ ps) h = either_holds (AreSmall n) (same_kind K.Semicolon (kind p)) [] (p ∷ before ps) tt (h.0, before_small n ps h.1)

beyond_small : (n : ℕ) (ps : List Phrase) → AreSmall n ps → AreSmall n (beyond ps)
beyond_small n [] h = tt
beyond_small n (p ∷ ps) h = either_holds (AreSmall n) (same_kind K.Semicolon (kind p)) ps (beyond ps) h.1 (beyond_small n ps h.1)

drop_small : (n k : ℕ) (ps : List Phrase) → AreSmall n ps → AreSmall n (drop k ps)
drop_small n zero ps h = h
drop_small n (suc k) [] h = tt
drop_small n (suc k) (p ∷ ps) h = drop_small n k ps h.1

small_formulas : (n : ℕ) (ps : List Phrase) → AreSmall n ps → AllByRecursion IsSmall (formulas ps)
small_formulas n [] h = tt
small_formulas n (p ∷ ps) h = either_holds (AllByRecursion IsSmall) (is_formula p) (as_formula p ∷ formulas ps) (formulas ps) (small_formula n p h.0, small_formulas n ps h.1) (small_formulas n ps h.1)

short_params : (n : ℕ) (ps : List Phrase) → AreSmall n ps → AllByRecursion IsShort (params ps)
short_params n [] h = tt
short_params n (p ∷ ps) h = either_holds (AllByRecursion IsShort) (same_kind K.Name (kind p)) (name_of (as_token p) ∷ params ps) (params ps) (short_name n p h.0, short_params n ps h.1) (short_params n ps h.1)

pub all_join : {X : Type 0} (P : X → Type 0) (xs ys : List X) → AllByRecursion P xs → AllByRecursion P ys → AllByRecursion P (xs ++ ys)
all_join P [] ys h i = i
all_join P (x ∷ xs) ys h i = (h.0, all_join P xs ys h.1 i)

all_names : (n : ℕ) (ps : List Phrase) → AreSmall n ps → AllByRecursion IsShort (flat_map as_names ps)
all_names n [] h = tt
all_names n (p ∷ ps) h = all_join IsShort (as_names p) (flat_map as_names ps) (short_names n p h.0) (all_names n ps h.1)

all_items : (n : ℕ) (ps : List Phrase) → AreSmall n ps → AllByRecursion IsSmallItem (flat_map as_items ps)
all_items n [] h = tt
all_items n (p ∷ ps) h = all_join IsSmallItem (as_items p) (flat_map as_items ps) (small_items n p h.0) (all_items n ps h.1)

-- Rows.

followed_small : (n : ℕ) (q r : Row) → IsSmallRow n q → IsSmallRow n r → IsSmallRow n (followed q r)
followed_small n stop r h i = i
followed_small n (simple s q) r h i = (h.0, h.1, followed_small n q r h.2 i)
followed_small n (block b q) r h i = (h.0, followed_small n q r h.1 i)
followed_small n (choice p e x y q) r h i = (h.0, h.1, h.2, h.3, followed_small n q r h.4 i)
followed_small n (repeat p e x q) r h i = (h.0, h.1, h.2, followed_small n q r h.3 i)
followed_small n (count p s e t x q) r h i = (h.0, h.1, h.2, h.3, h.4, followed_small n q r h.5 i)

small_rows : (n : ℕ) (ps : List Phrase) → AreSmall n ps → IsSmallRow n (rows ps)
small_rows n [] h = tt
small_rows n (p ∷ ps) h = followed_small n (as_row p) (rows ps) (small_row n p h.0) (small_rows n ps h.1)

small_locals : (m n : ℕ) (ps : List Phrase) → 1 ≤ n → AreSmall m ps → IsSmallRow n (locals ps)
small_locals m n [] le h = tt
small_locals m n (changing s ∷ ps) le h = (le, h.0, small_locals m n ps le h.1)
small_locals m n (p ∷ ps) le h = small_locals m n ps le h.1

-- Statements.

formula_small : (n : ℕ) (ps : List Phrase) (k : ℕ) → AreSmall n ps → IsSmall (formula_at ps k)
formula_small n ps k h = small_formula n (phrase ps k) (small_at n ps k h)

name_short : (n : ℕ) (ps : List Phrase) (k : ℕ) → AreSmall n ps → IsShort (name_at ps k)
name_short n ps k h = short_name n (phrase ps k) (small_at n ps k h)

value_small : (n : ℕ) (ps : List Phrase) (k : ℕ) → AreSmall n ps → IsSmallValue (as_value (phrase ps k))
value_small n ps k h = small_value n (phrase ps k) (small_at n ps k h)

start_small : (n : ℕ) (ps : List Phrase) → AreSmall n ps → IsSmallChange (for_start ps)
start_small n ps h = either_holds IsSmallChange (same_kind K.IntWord (kind (phrase ps 0))) (Some (fresh (name_at ps 1) (plain (formula_at ps 3)))) (some_change (phrase ps 0)) (name_short n ps 1 h, formula_small n ps 3 h) (small_change n (phrase ps 0) (small_at n ps 0 h))

test_small : (fs : List Formula) → AllByRecursion IsSmall fs → IsSmall (slice_index_or fs 0 (number (pos 1)))
test_small [] h = small_number (pos 1)
test_small (f ∷ fs) h = h.0

last_small : (n : ℕ) (ps : List Phrase) → AreSmall n ps → IsSmallPhrase n (last ps)
last_small n ps h = small_at n ps _ h

row_below : (m n : ℕ) (p : Phrase) → m + 1 ≤ n → IsSmallPhrase m p → IsSmallRow (n - 1) (as_row p)
row_below m n p le h = row_more m (n - 1) (as_row p) (omega (arith, le)) (small_row m p h)

for_small : (m n : ℕ) (ps : List Phrase) → m + 1 ≤ n → 2 ≤ n → AreSmall m ps → IsSmallRow n (for_row ps)
for_small m n ps le two_levels h =
    let inside : AreSmall m (drop 2 ps) = drop_small m 2 ps h in
    let later : AreSmall m (beyond (drop 2 ps)) = beyond_small m (drop 2 ps) inside in (
      two_levels,
      start_small m (before (drop 2 ps)) (before_small m (drop 2 ps) inside),
      test_small (formulas (before (beyond (drop 2 ps)))) (small_formulas m (before (beyond (drop 2 ps))) (before_small m (beyond (drop 2 ps)) later)),
      small_change m (phrase (beyond (beyond (drop 2 ps))) 0) (small_at m (beyond (beyond (drop 2 ps))) 0 (beyond_small m (beyond (drop 2 ps)) later)),
      row_below m n (last ps) le (last_small m ps h),
      tt,
    )

returned_small : (n : ℕ) (p : Phrase) → IsSmallPhrase n p → IsSmallIfAny (returned p)
returned_small n p h = either_holds IsSmallIfAny (same_kind K.Semicolon (kind p)) None (Some (as_value p)) tt (small_value n p h)

worded_small : (m n : ℕ) (ps : List Phrase) (k : Kind) → kind (phrase ps 0) ≡ k → m + 1 ≤ n → (k ≡ K.ForWord → 2 ≤ n) → AreSmall m ps → IsSmallRow n (worded ps)
worded_small m n ps K.IfWord e le f h = rw (e) ((omega (arith, le), formula_small m ps 2 h, row_below m n (phrase ps 4) le (small_at m ps 4 h), row_below m n (phrase ps 6) le (small_at m ps 6 h), tt))
worded_small m n ps K.WhileWord e le f h = rw (e) ((omega (arith, le), formula_small m ps 2 h, row_below m n (phrase ps 4) le (small_at m ps 4 h), tt))
worded_small m n ps K.ForWord e le f h = rw (e) (for_small m n ps le (f refl) h)
worded_small m n ps K.ReturnWord e le f h = rw (e) ((omega (arith, le), returned_small m (phrase ps 1) (small_at m ps 1 h), tt))
worded_small m n ps K.TakeWord e le f h = rw (e) ((omega (arith, le), tt, tt))
worded_small m n ps K.GiveWord e le f h = rw (e) ((omega (arith, le), tt, tt))
worded_small m n ps K.SendWord e le f h = rw (e) ((omega (arith, le), formula_small m ps 4 h, tt))
worded_small m n ps K.PrintWord e le f h = rw (e) ((omega (arith, le), formula_small m ps 2 h, tt))
worded_small m n ps K.AssertWord e le f h = rw (e) ((omega (arith, le), formula_small m ps 2 h, tt))
worded_small m n ps k e le f h = rw (e) ((tt, tt))

statement_small : (m n : ℕ) (p : Phrase) (ps : List Phrase) → m + 1 ≤ n → (kind (phrase ps 0) ≡ K.ForWord → 2 ≤ n) → IsSmallPhrase m p → AreSmall m ps → IsSmallRow n (statement p ps)
statement_small m n (body b) ps le f h i = (row_more m n b.row (omega (arith, le)) h, tt)
statement_small m n (changing s) ps le f h i = (omega (arith, le), h, tt)
statement_small m n (goal g) ps le f h i = (omega (arith, le), (h, value_small m ps 2 i), tt)
statement_small m n (calling g args) ps le f h i = (omega (arith, le), h, tt)
statement_small m n (token t) ps le f h i = worded_small m n ps (kind (phrase ps 0)) refl le f i
statement_small m n p ps le f h i = tt

local_small : (n : ℕ) (ps : List Phrase) → AreSmall n ps → IsSmallSimple (local_item ps)
local_small n ps h =
    either_holds IsSmallSimple (same_kind K.LeftBracket (kind (phrase ps 1))) (array (name_at ps 0) (number_at ps 2)) _ (name_short n ps 0 h)
    (either_holds IsSmallSimple (same_kind K.AssignMark (kind (phrase ps 1))) (fresh (name_at ps 0) (as_value (phrase ps 2))) (fresh (name_at ps 0) (plain (number (pos 0)))) (name_short n ps 0 h, value_small n ps 2 h) (name_short n ps 0 h, small_number (pos 0)))

goal_small_at : (n : ℕ) (ps : List Phrase) (k : ℕ) → AreSmall n ps → IsSmallGoal (as_goal (phrase ps k))
goal_small_at n ps k h = small_goal n (phrase ps k) (small_at n ps k h)

changed_small : (n : ℕ) (ps : List Phrase) (k : Kind) → kind (phrase ps 1) ≡ k → AreSmall n ps → IsSmallSimple (changed ps)
changed_small n ps K.AssignMark e h = rw (e) ((goal_small_at n ps 0 h, formula_small n ps 2 h))
changed_small n ps K.AddMark e h = rw (e) ((goal_small_at n ps 0 h, formula_small n ps 2 h))
changed_small n ps K.SubtractMark e h = rw (e) ((goal_small_at n ps 0 h, formula_small n ps 2 h))
changed_small n ps K.IncreaseMark e h = rw (e) ((goal_small_at n ps 0 h, small_number (pos 1)))
changed_small n ps k e h = rw (e) ((goal_small_at n ps 0 h, small_number (pos 1)))

said_value_small : (n : ℕ) (ps : List Phrase) → AreSmall n ps → IsSmallValue (as_value (made R.Value ps))
said_value_small n ps h = either_holds IsSmallValue (same_kind K.RecvWord (kind (phrase ps 0))) (received (name_at ps 2)) (called (phrase ps 0)) tt (small_called n (phrase ps 0) (small_at n ps 0 h))

-- Items.

shared_small : (n : ℕ) (ps : List Phrase) → AreSmall n ps → IsSmallItem (shared_item ps)
shared_small n ps h = either_holds IsSmallItem (same_kind K.LeftBracket (kind (phrase ps 1))) _ _ (name_short n ps 0 h) (either_holds IsSmallItem (same_kind K.MinusMark (kind (phrase ps 2))) _ _ (name_short n ps 0 h) (name_short n ps 0 h))

numbered_small : (n : ℕ) (make : Name → Number → Item) → ((x : Name) (k : Number) → IsShort x → IsSmallItem (make x k)) → (ps : List Phrase) → AreSmall n ps → AllByRecursion IsSmallItem (numbered make ps)
numbered_small n make f [] h = tt
numbered_small n make f (p ∷ ps) h =
    either_holds (AllByRecursion IsSmallItem) (same_kind K.Name (kind p)) (make (name_of (as_token p)) (number_behind (name_of (as_token p)) ps) ∷ numbered make ps) (numbered make ps) (f _ _ (short_name n p h.0), numbered_small n make f ps h.1) (numbered_small n make f ps h.1)

-- Trees.

ended_phrase : (r : Rule) (ps : List Phrase) → kind (made r ps) ≡ K.End
ended_phrase R.Leaf ps = refl
ended_phrase r ps = refl

for_first : (ts : Shapes) → kind (phrase (all_said ts) 0) ≡ K.ForWord → starts_for ts ≡ true
for_first no_shapes e = absurd cc
for_first (shape_then (leaf x) ts) e = ap is_for e
for_first (shape_then (node r f) ts) e = let d : K.End ≡ K.ForWord = sym (ended_phrase r (all_said f)) ∙ e in absurd cc

-- what is known of a node beside its children's phrases
record Known (n m : ℕ) (r : Rule) (ts : Shapes) : Type 0 where
  own : OwnFits r ts
  weight_few : weight (made r (all_said ts)) ≤ signs_in ts
  shallow : depth (made r (all_said ts)) ≤ MOST_OPEN
  inner : m ≡ levels_in statement_in ts
  levels_few : statement_in r + m ≤ n
  most : n ≤ MOST_OPEN

made_small : (n m : ℕ) (r : Rule) (ts : Shapes) → Known n m r ts → AreSmall m (all_said ts) → IsSmallPhrase n (made r (all_said ts))
made_small n m R.Unary ts k h = record { few = omega (arith, k.own, k.weight_few); shallow = k.shallow }
made_small n m R.Binary ts k h = record { few = omega (arith, k.own.0, k.weight_few); shallow = k.shallow }
made_small n m R.Place ts k h = record { few = goal_operators (same_kind K.LeftBracket (kind (phrase (all_said ts) 1))) refl; shallow = k.shallow }
  where
    goal_operators : (b : Bool) → same_kind K.LeftBracket (kind (phrase (all_said ts) 1)) ≡ b → operators_in (goal_formula (as_goal (made R.Place (all_said ts)))) ≤ MOST_SOURCE_OPERATORS
    goal_operators true e = rw (e) (formula_small m (all_said ts) 2 h).few
    goal_operators false e = rw (e) (omega arith)
made_small n m R.Leaf ts k h = omega arith
made_small n m R.Source ts k h = all_items m (all_said ts) h
made_small n m R.Shared ts k h = all_items m (all_said ts) h
made_small n m R.Sitem ts k h = (shared_small m (all_said ts) h, tt)
made_small n m R.Sems ts k h = numbered_small m semaphore (λ x i s. s) (all_said ts) h
made_small n m R.Chans ts k h = numbered_small m channel (λ x i s. s) (all_said ts) h
made_small n m R.Function ts k h = ((name_short m (all_said ts) 1 h, all_names m (all_said ts) h, row_more m MOST_OPEN (as_block (last (all_said ts))).row (omega (arith, k.levels_few, k.most)) (small_block m (last (all_said ts)) (last_small m (all_said ts) h))), tt)
made_small n m R.Params ts k h = short_params m (all_said ts) h
made_small n m R.Process ts k h = ((name_short m (all_said ts) 1 h, row_more m MOST_OPEN (as_block (last (all_said ts))).row (omega (arith, k.levels_few, k.most)) (small_block m (last (all_said ts)) (last_small m (all_said ts) h))), tt)
made_small n m R.Block ts k h = row_more m n (rows (all_said ts)) (omega (arith, k.levels_few)) (small_rows m (all_said ts) h)
made_small n m R.Local ts k h = small_locals m n (all_said ts) (omega (arith, k.levels_few)) h
made_small n m R.Litem ts k h = local_small m (all_said ts) h
made_small n m R.Value ts k h = said_value_small m (all_said ts) h
made_small n m R.Call ts k h = small_formulas m (all_said ts) h
made_small n m R.Change ts k h = changed_small m (all_said ts) (kind (phrase (all_said ts) 1)) refl h
made_small n m R.Stmt ts k h = statement_small m n (phrase (all_said ts) 0) (all_said ts) (omega (arith, k.levels_few)) (λ e. omega (arith, k.own (for_first ts e), k.inner, k.levels_few)) (small_at m (all_said ts) 0 h) h

-- tokens with short names
abbrev mutual
  pub AreShort : Shape → Type 0
  AreShort (leaf x) = IsShort (name_of x)
  AreShort (node r ts) = AreShortIn ts

  pub AreShortIn : Shapes → Type 0
  AreShortIn no_shapes = ⊤
  AreShortIn (shape_then t ts) = AreShort t × AreShortIn ts

mutual
  pub said_small : (n : ℕ) (t : Shape) → n ≤ MOST_OPEN → AreShort t → Fits t → levels place_in t ≤ MOST_OPEN → levels statement_in t ≤ n → IsSmallPhrase n (said t)
  said_small n (leaf t) le s f p l = s
  said_small n (node r ts) le s f p l =
      let m : ℕ = levels_in statement_in ts in
      let known : Known n (levels_in statement_in ts) r ts = record {
        own = f.0;
        weight_few = said_few (node r ts) f;
        shallow = said_below MOST_OPEN (node r ts) p;
        inner = refl;
        levels_few = l;
        most = le;
      } in
      made_small n (levels_in statement_in ts) r ts known (all_small (levels_in statement_in ts) ts (omega (arith, l, le)) s f.1 (omega (arith, p)) (omega arith))

  pub all_small : (n : ℕ) (ts : Shapes) → n ≤ MOST_OPEN → AreShortIn ts → FitsIn ts → levels_in place_in ts ≤ MOST_OPEN → levels_in statement_in ts ≤ n → AreSmall n (all_said ts)
  all_small n no_shapes le s f p l = tt
  all_small n (shape_then t ts) le s f p l = (said_small n t le s.0 f.0 (omega (arith, p)) (omega (arith, l)), all_small n ts le s.1 f.1 (omega (arith, p)) (omega (arith, l)))

-- the items of a tree within the limits
pub small_source : (t : Shape) → AreShort t → Fits t → levels place_in t ≤ MOST_OPEN → levels statement_in t ≤ MOST_OPEN → AllByRecursion IsSmallItem (as_items (said t))
small_source t s f p l = small_items MOST_OPEN (said t) (said_small MOST_OPEN t (omega arith) s f p l)
