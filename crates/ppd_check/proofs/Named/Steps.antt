-- What comes after each turn of a `for` of a program is a change of a variable, or nothing.
use Rattle.std.proofs.Common.{◌≡◌, refl, subst, ℕ, zero, suc, ◌-◌, Bool, true, false, List, [], ◌∷◌, ◌++◌, length, drop, Some}
use Rattle.std.specs.Prelude.{⊤}
use Rattle.std.specs.List.{All, AllByRecursion, flat_map}
use Rattle.std.proofs.lemmas.List.Elements.{All-nil, All-push, All-append}
use Rattle.ppd_parse.specs.declared.token.Token.{Token}
use Rattle.ppd_parse.specs.declared.token.Kind.{Kind}
use Rattle.ppd_parse.specs.declared.token.Kind.TheVariants as K
use Rattle.ppd_parse.specs.declared.symbol.Rule.{Rule}
use Rattle.ppd_parse.specs.declared.symbol.Rule.TheVariants as R
use Rattle.ppd_parse.specs.Grammar.{Shape, Shapes, leaf, node, no_shapes, shape_then}
use Rattle.ppd_parse.specs.Limits.{IsTree}
use Rattle.ppd_check_names.specs.declared.nodes.Number.{Number}
use Rattle.ppd_check_names.specs.Syntax.{Name, Row, stop, simple, block, choice, repeat, count, Item, shared, shared_array, semaphore, channel, function, process}
use Rattle.ppd_check_names.specs.Reading.{Phrase, token, formula, goal, value, calling, changing, row, body, names, items, phrase, last, as_row, as_block, as_items, kind, same_kind, beyond, changed, followed, rows, locals, some_change, for_row, worded, statement, shared_item, numbered, made, said, all_said, source_of}
use Rattle.ppd_check.specs.Sources.{heads}
use Rattle.ppd_check_names.specs.Globals.{Head, Globals, no_globals, with_item, globals}
use Rattle.ppd_check_names.specs.Holding.{with_items}
use Rattle.ppd_check.proofs.Named.Trees.{is_item, NoItem, NoItems, OwnPlain, IsPlain, ArePlain, program_plain}
use Rattle.ppd_check.proofs.Named.Rows.{IsStep, HasSteps}

-- Phrases.

-- if it is one, it is a change of a variable
abbrev IsChanged : Phrase → Type 0
IsChanged (changing s) = IsStep (Some s)
IsChanged p = ⊤

abbrev HasItemSteps : Item → Type 0
HasItemSteps (function gives x params b) = HasSteps b.row
HasItemSteps (process x b) = HasSteps b.row
HasItemSteps i = ⊤

-- each `for` in it is as the grammar has it
abbrev IsStepped : Phrase → Type 0
IsStepped (row r) = HasSteps r
IsStepped (body b) = HasSteps b.row
IsStepped (items is) = AllByRecursion HasItemSteps is
IsStepped p = ⊤

stepped_at : (ps : List Phrase) (k : ℕ) → AllByRecursion IsStepped ps → IsStepped (phrase ps k)
stepped_at [] k h = tt
stepped_at (p ∷ ps) zero h = h.0
stepped_at (p ∷ ps) (suc k) h = stepped_at ps k h.1

changed_at : (ps : List Phrase) (k : ℕ) → AllByRecursion IsChanged ps → IsChanged (phrase ps k)
changed_at [] k h = tt
changed_at (p ∷ ps) zero h = h.0
changed_at (p ∷ ps) (suc k) h = changed_at ps k h.1

step_of : (p : Phrase) → IsChanged p → IsStep (some_change p)
step_of (changing s) h = h
step_of p h = tt

row_of : (p : Phrase) → IsStepped p → HasSteps (as_row p)
row_of (row r) h = h
row_of p h = tt

block_row : (p : Phrase) → IsStepped p → HasSteps (as_block p).row
block_row (body b) h = h
block_row p h = tt

items_of : (p : Phrase) → IsStepped p → AllByRecursion HasItemSteps (as_items p)
items_of (items is) h = h
items_of p h = tt

changes_drop : (n : ℕ) (ps : List Phrase) → AllByRecursion IsChanged ps → AllByRecursion IsChanged (drop n ps)
changes_drop zero ps h = h
changes_drop (suc n) [] h = tt
changes_drop (suc n) (p ∷ ps) h = changes_drop n ps h.1

changes_beyond : (ps : List Phrase) → AllByRecursion IsChanged ps → AllByRecursion IsChanged (beyond ps)
changes_beyond [] h = tt
changes_beyond (p ∷ ps) h = go (same_kind K.Semicolon (kind p)) refl (changes_beyond ps h.1)
  where
    go : (b : Bool) → same_kind K.Semicolon (kind p) ≡ b → AllByRecursion IsChanged (beyond ps) → AllByRecursion IsChanged (beyond (p ∷ ps))
    go true e rest = rw e (h.1)
    go false e rest = rw e rest

-- Statements.

changed_step : (ps : List Phrase) (k : Kind) → kind (phrase ps 1) ≡ k → IsStep (Some (changed ps))
changed_step ps K.AssignMark e = rw e tt
changed_step ps K.AddMark e = rw e tt
changed_step ps K.SubtractMark e = rw e tt
changed_step ps K.IncreaseMark e = rw e tt
changed_step ps k e = rw e tt

followed_steps : (q r : Row) → HasSteps q → HasSteps r → HasSteps (followed q r)
followed_steps stop r h i = i
followed_steps (simple s q) r h i = followed_steps q r h i
followed_steps (block b q) r h i = (h.0, followed_steps q r h.1 i)
followed_steps (choice p e x y q) r h i = (h.0, h.1, followed_steps q r h.2 i)
followed_steps (repeat p e x q) r h i = (h.0, followed_steps q r h.1 i)
followed_steps (count p s e t x q) r h i = (h.0, h.1, followed_steps q r h.2 i)

rows_steps : (ps : List Phrase) → AllByRecursion IsStepped ps → HasSteps (rows ps)
rows_steps [] h = tt
rows_steps (p ∷ ps) h = followed_steps (as_row p) (rows ps) (row_of p h.0) (rows_steps ps h.1)

locals_steps : (ps : List Phrase) → HasSteps (locals ps)
locals_steps [] = tt
locals_steps (changing s ∷ ps) = locals_steps ps
locals_steps (token t ∷ ps) = locals_steps ps
locals_steps (formula f ∷ ps) = locals_steps ps
locals_steps (goal g ∷ ps) = locals_steps ps
locals_steps (value v ∷ ps) = locals_steps ps
locals_steps (calling f args ∷ ps) = locals_steps ps
locals_steps (row r ∷ ps) = locals_steps ps
locals_steps (body b ∷ ps) = locals_steps ps
locals_steps (names xs ∷ ps) = locals_steps ps
locals_steps (items is ∷ ps) = locals_steps ps

for_steps : (ps : List Phrase) → AllByRecursion IsStepped ps → AllByRecursion IsChanged ps → HasSteps (for_row ps)
for_steps ps h c =
    let later : List Phrase = beyond (beyond (drop 2 ps)) in (
      step_of (phrase later 0) (changed_at later 0 (changes_beyond (beyond (drop 2 ps)) (changes_beyond (drop 2 ps) (changes_drop 2 ps c)))),
      row_of (last ps) (stepped_at ps (length ps - 1) h),
      tt,
    )

worded_steps : (ps : List Phrase) (k : Kind) → kind (phrase ps 0) ≡ k → AllByRecursion IsStepped ps → AllByRecursion IsChanged ps → HasSteps (worded ps)
worded_steps ps K.IfWord e h c = rw e (row_of (phrase ps 4) (stepped_at ps 4 h), row_of (phrase ps 6) (stepped_at ps 6 h), tt)
worded_steps ps K.WhileWord e h c = rw e (row_of (phrase ps 4) (stepped_at ps 4 h), tt)
worded_steps ps K.ForWord e h c = rw e (for_steps ps h c)
worded_steps ps K.ReturnWord e h c = rw e tt
worded_steps ps K.TakeWord e h c = rw e tt
worded_steps ps K.GiveWord e h c = rw e tt
worded_steps ps K.SendWord e h c = rw e tt
worded_steps ps K.PrintWord e h c = rw e tt
worded_steps ps K.AssertWord e h c = rw e tt
worded_steps ps k e h c = rw e (tt, tt)

statement_steps : (p : Phrase) (ps : List Phrase) → IsStepped p → AllByRecursion IsStepped ps → AllByRecursion IsChanged ps → HasSteps (statement p ps)
statement_steps (body b) ps i h c = (i, tt)
statement_steps (changing s) ps i h c = tt
statement_steps (goal g) ps i h c = tt
statement_steps (calling f args) ps i h c = tt
statement_steps (token t) ps i h c = worded_steps ps (kind (phrase ps 0)) refl h c
statement_steps p ps i h c = tt

-- Items.

items_append : (is js : List Item) → AllByRecursion HasItemSteps is → AllByRecursion HasItemSteps js → AllByRecursion HasItemSteps (is ++ js)
items_append [] js h i = i
items_append (x ∷ is) js h i = (h.0, items_append is js h.1 i)

all_items : (ps : List Phrase) → AllByRecursion IsStepped ps → AllByRecursion HasItemSteps (flat_map as_items ps)
all_items [] h = tt
all_items (p ∷ ps) h = items_append (as_items p) (flat_map as_items ps) (items_of p h.0) (all_items ps h.1)

numbered_steps : (make : Name → Number → Item) → ((x : Name) (n : Number) → HasItemSteps (make x n)) → (ps : List Phrase) → AllByRecursion HasItemSteps (numbered make ps)
numbered_steps make of [] = tt
numbered_steps make of (p ∷ ps) = go (same_kind K.Name (kind p)) refl (numbered_steps make of ps)
  where
    go : (b : Bool) → same_kind K.Name (kind p) ≡ b → AllByRecursion HasItemSteps (numbered make ps) → AllByRecursion HasItemSteps (numbered make (p ∷ ps))
    go true e rest = rw e (of _ _, rest)
    go false e rest = rw e rest

shared_steps : (ps : List Phrase) (b c : Bool) → same_kind K.LeftBracket (kind (phrase ps 1)) ≡ b → same_kind K.MinusMark (kind (phrase ps 2)) ≡ c → HasItemSteps (shared_item ps)
shared_steps ps true c e i = rw e tt
shared_steps ps false true e i = rw e (rw i tt)
shared_steps ps false false e i = rw e (rw i tt)

-- Trees.

made_stepped : (r : Rule) (ps : List Phrase) → AllByRecursion IsStepped ps → (r ≡ R.Stmt → AllByRecursion IsChanged ps) → IsStepped (made r ps)
made_stepped R.Source ps h c = all_items ps h
made_stepped R.Shared ps h c = all_items ps h
made_stepped R.Sitem ps h c = (shared_steps ps (same_kind K.LeftBracket (kind (phrase ps 1))) (same_kind K.MinusMark (kind (phrase ps 2))) refl refl, tt)
made_stepped R.Sems ps h c = numbered_steps semaphore (λ x n. tt) ps
made_stepped R.Chans ps h c = numbered_steps channel (λ x n. tt) ps
made_stepped R.Function ps h c = (block_row (last ps) (stepped_at ps (length ps - 1) h), tt)
made_stepped R.Process ps h c = (block_row (last ps) (stepped_at ps (length ps - 1) h), tt)
made_stepped R.Block ps h c = rows_steps ps h
made_stepped R.Local ps h c = locals_steps ps
made_stepped R.Stmt ps h c = statement_steps (phrase ps 0) ps (stepped_at ps 0 h) h (c refl)
made_stepped r ps h c = tt

made_changed : (r : Rule) (ps : List Phrase) → is_item r ≡ false → IsChanged (made r ps)
made_changed R.Litem ps e = absurd cc
made_changed R.Change ps e = changed_step ps (kind (phrase ps 1)) refl
made_changed r ps e = tt

said_changed : (t : Shape) → NoItem t → IsChanged (said t)
said_changed (leaf x) h = tt
said_changed (node r ts) h = made_changed r (all_said ts) h

all_changed : (ts : Shapes) → NoItems ts → AllByRecursion IsChanged (all_said ts)
all_changed no_shapes h = tt
all_changed (shape_then t ts) h = (said_changed t h.0, all_changed ts h.1)

own_changed : (r : Rule) (ts : Shapes) → OwnPlain r ts → r ≡ R.Stmt → AllByRecursion IsChanged (all_said ts)
own_changed r ts h e = all_changed ts (subst (λ q. OwnPlain q ts) e h)

mutual
  said_stepped : (t : Shape) → IsPlain t → IsStepped (said t)
  said_stepped (leaf x) h = tt
  said_stepped (node r ts) h = made_stepped r (all_said ts) (all_stepped ts h.1) (own_changed r ts h.0)

  all_stepped : (ts : Shapes) → ArePlain ts → AllByRecursion IsStepped (all_said ts)
  all_stepped no_shapes h = tt
  all_stepped (shape_then t ts) h = (said_stepped t h.0, all_stepped ts h.1)

-- Sources.

abbrev HeadSteps : Head → Type 0
HeadSteps h = HasSteps h.block.row

-- functions and processes of what is declared
record HaveAll (g : Globals) : Type 0 where
  functions : All HeadSteps g.functions
  processes : All HeadSteps g.processes

item_heads : (i : Item) (g : Globals) → HasItemSteps i → HaveAll g → HaveAll (with_item i g)
item_heads (shared x v) g h a = record { functions = a.functions; processes = a.processes }
item_heads (shared_array x n) g h a = record { functions = a.functions; processes = a.processes }
item_heads (semaphore x n) g h a = record { functions = a.functions; processes = a.processes }
item_heads (channel x n) g h a = record { functions = a.functions; processes = a.processes }
item_heads (function gives x params b) g h a =
    record { functions = All-push HeadSteps g.functions (record { process = false; gives = gives; name = x; params = params; block = b }) a.functions h; processes = a.processes }
item_heads (process x b) g h a =
    record { functions = a.functions; processes = All-push HeadSteps g.processes (record { process = true; gives = false; name = x; params = []; block = b }) a.processes h }

items_heads : (is : List Item) (g : Globals) → AllByRecursion HasItemSteps is → HaveAll g → HaveAll (with_items is g)
items_heads [] g h a = a
items_heads (i ∷ is) g h a = items_heads is (with_item i g) h.1 (item_heads i g h.0 a)

-- the bodies of a program's tree
pub tree_steps : (ts : List Token) (t : Shape) → IsTree ts (t ∷ []) → All (λ h. HasSteps h.block.row) (heads (globals (source_of t)))
tree_steps ts t tree =
    let all : HaveAll (globals (source_of t)) =
    items_heads (as_items (said t)) no_globals (items_of (said t) (said_stepped t (program_plain tree.program).0)) (record { functions = All-nil HeadSteps; processes = All-nil HeadSteps }) in
    All-append HeadSteps (globals (source_of t)).functions (globals (source_of t)).processes all.functions all.processes
