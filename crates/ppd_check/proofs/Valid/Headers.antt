-- In what a tree says, the header of a `for` has no `return`.
use Rattle.std.proofs.Common.{◌≡◌, refl, ℕ, zero, suc, Bool, true, false, if◌then◌else◌, List, [], ◌∷◌, drop, Option, Some, None}
use Rattle.std.specs.Prelude.{⊤}
use Rattle.std.specs.List.{AllByRecursion, flat_map}
use Rattle.ppd_parse.specs.declared.token.Kind.{Kind}
use Rattle.ppd_parse.specs.declared.token.Kind.TheVariants as K
use Rattle.ppd_parse.specs.declared.symbol.Rule.{Rule}
use Rattle.ppd_parse.specs.declared.symbol.Rule.TheVariants as R
use Rattle.ppd_parse.specs.Grammar.{Shape, leaf, node, Shapes, no_shapes, shape_then}
use Rattle.ppd_check_names.specs.declared.nodes.Number.{Number}
use Rattle.ppd_check_names.specs.Syntax.{Simple, Row, stop, simple, block, choice, repeat, count, Item, shared, shared_array, semaphore, channel, function, process, Name}
use Rattle.ppd_check_names.specs.Reading.{Phrase, token, formula, goal, value, calling, changing, row, body, names, items, phrase, as_row, as_block, as_items, before, beyond, same_kind, kind, followed, rows, locals, some_change, for_start, for_row, worded, statement, local_item, changed, shared_item, numbered, number_behind, name_of, as_token, made, said, all_said, last}
use Rattle.ppd_check.specs.Sources.{simple_returns}
use Rattle.ppd_check.proofs.Limits.Said.{all_join}

-- a statement that is no `return`
abbrev pub Passes : Simple → Type 0
Passes s = simple_returns s ≡ []

abbrev pub PassesIfAny : Option Simple → Type 0
PassesIfAny None = ⊤
PassesIfAny (Some s) = Passes s

-- no `for` of a row has a `return` in its header
abbrev pub HeadersPass : Row → Type 0
HeadersPass stop = ⊤
HeadersPass (simple s r) = HeadersPass r
HeadersPass (block b r) = HeadersPass b × HeadersPass r
HeadersPass (choice p e a b r) = HeadersPass a × HeadersPass b × HeadersPass r
HeadersPass (repeat p e b r) = HeadersPass b × HeadersPass r
HeadersPass (count p start e step b r) = PassesIfAny start × PassesIfAny step × HeadersPass b × HeadersPass r

abbrev pub ItemPasses : Item → Type 0
ItemPasses (shared x v) = ⊤
ItemPasses (shared_array x n) = ⊤
ItemPasses (semaphore x n) = ⊤
ItemPasses (channel x n) = ⊤
ItemPasses (function gives x params b) = HeadersPass b.row
ItemPasses (process x b) = HeadersPass b.row

abbrev PhrasePasses : Phrase → Type 0
PhrasePasses (token t) = ⊤
PhrasePasses (formula f) = ⊤
PhrasePasses (goal g) = ⊤
PhrasePasses (value v) = ⊤
PhrasePasses (calling f args) = ⊤
PhrasePasses (changing s) = Passes s
PhrasePasses (row r) = HeadersPass r
PhrasePasses (body b) = HeadersPass b.row
PhrasePasses (names xs) = ⊤
PhrasePasses (items is) = AllByRecursion ItemPasses is

abbrev AllPass : List Phrase → Type 0
AllPass ps = AllByRecursion PhrasePasses ps

-- Parts of phrases.

phrase_passes : (ps : List Phrase) (k : ℕ) → AllPass ps → PhrasePasses (phrase ps k)
phrase_passes [] k h = tt
phrase_passes (p ∷ ps) zero h = h.0
phrase_passes (p ∷ ps) (suc k) h = phrase_passes ps k h.1

either_list : (b : Bool) (xs ys : List Phrase) → AllPass xs → AllPass ys → AllPass (if b then xs else ys)
either_list true xs ys h i = h
either_list false xs ys h i = i

before_passes : (ps : List Phrase) → AllPass ps → AllPass (before ps)
before_passes [] h = tt
before_passes (p ∷ ps) h = either_list (same_kind K.Semicolon (kind p)) [] (p ∷ before ps) tt (h.0, before_passes ps h.1)

beyond_passes : (ps : List Phrase) → AllPass ps → AllPass (beyond ps)
beyond_passes [] h = tt
beyond_passes (p ∷ ps) h = either_list (same_kind K.Semicolon (kind p)) ps (beyond ps) h.1 (beyond_passes ps h.1)

drop_passes : (k : ℕ) (ps : List Phrase) → AllPass ps → AllPass (drop k ps)
drop_passes zero ps h = h
drop_passes (suc k) [] h = tt
drop_passes (suc k) (p ∷ ps) h = drop_passes k ps h.1

row_passes : (p : Phrase) → PhrasePasses p → HeadersPass (as_row p)
row_passes (row r) h = h
row_passes p h = tt

block_passes : (p : Phrase) → PhrasePasses p → HeadersPass (as_block p).row
block_passes (body b) h = h
block_passes p h = tt

items_pass : (p : Phrase) → PhrasePasses p → AllByRecursion ItemPasses (as_items p)
items_pass (items is) h = h
items_pass p h = tt

change_passes : (p : Phrase) → PhrasePasses p → PassesIfAny (some_change p)
change_passes (changing s) h = h
change_passes p h = tt

-- Rows.

followed_passes : (q r : Row) → HeadersPass q → HeadersPass r → HeadersPass (followed q r)
followed_passes stop r h i = i
followed_passes (simple s q) r h i = followed_passes q r h i
followed_passes (block b q) r h i = (h.0, followed_passes q r h.1 i)
followed_passes (choice p e x y q) r h i = (h.0, h.1, followed_passes q r h.2 i)
followed_passes (repeat p e x q) r h i = (h.0, followed_passes q r h.1 i)
followed_passes (count p s e t x q) r h i = (h.0, h.1, h.2, followed_passes q r h.3 i)

rows_pass : (ps : List Phrase) → AllPass ps → HeadersPass (rows ps)
rows_pass [] h = tt
rows_pass (p ∷ ps) h = followed_passes (as_row p) (rows ps) (row_passes p h.0) (rows_pass ps h.1)

locals_pass : (ps : List Phrase) → HeadersPass (locals ps)
locals_pass [] = tt
locals_pass (changing s ∷ ps) = locals_pass ps
locals_pass (p ∷ ps) = locals_pass ps

-- Statements.

either_change : (b : Bool) (s t : Option Simple) → PassesIfAny s → PassesIfAny t → PassesIfAny (if b then s else t)
either_change true s t h i = h
either_change false s t h i = i

either_simple : (b : Bool) (s t : Simple) → Passes s → Passes t → Passes (if b then s else t)
either_simple true s t h i = h
either_simple false s t h i = i

start_passes : (ps : List Phrase) → AllPass ps → PassesIfAny (for_start ps)
start_passes ps h = either_change (same_kind K.IntWord (kind (phrase ps 0))) _ (some_change (phrase ps 0)) refl (change_passes (phrase ps 0) (phrase_passes ps 0 h))

last_passes : (ps : List Phrase) → AllPass ps → PhrasePasses (last ps)
last_passes ps h = phrase_passes ps _ h

for_passes : (ps : List Phrase) → AllPass ps → HeadersPass (for_row ps)
for_passes ps h =
    let inside : AllPass (drop 2 ps) = drop_passes 2 ps h in
    let later : AllPass (beyond (drop 2 ps)) = beyond_passes (drop 2 ps) inside in (
      start_passes (before (drop 2 ps)) (before_passes (drop 2 ps) inside),
      change_passes (phrase (beyond (beyond (drop 2 ps))) 0) (phrase_passes (beyond (beyond (drop 2 ps))) 0 (beyond_passes (beyond (drop 2 ps)) later)),
      row_passes (last ps) (last_passes ps h),
      tt,
    )

word_passes : (ps : List Phrase) (k : Kind) → kind (phrase ps 0) ≡ k → AllPass ps → HeadersPass (worded ps)
word_passes ps K.IfWord e h = rw (e) ((row_passes (phrase ps 4) (phrase_passes ps 4 h), row_passes (phrase ps 6) (phrase_passes ps 6 h), tt))
word_passes ps K.WhileWord e h = rw (e) ((row_passes (phrase ps 4) (phrase_passes ps 4 h), tt))
word_passes ps K.ForWord e h = rw (e) (for_passes ps h)
word_passes ps K.ReturnWord e h = rw (e) (tt)
word_passes ps K.TakeWord e h = rw (e) (tt)
word_passes ps K.GiveWord e h = rw (e) (tt)
word_passes ps K.SendWord e h = rw (e) (tt)
word_passes ps K.PrintWord e h = rw (e) (tt)
word_passes ps K.AssertWord e h = rw (e) (tt)
word_passes ps k e h = rw (e) ((tt, tt))

statement_passes : (p : Phrase) (ps : List Phrase) → PhrasePasses p → AllPass ps → HeadersPass (statement p ps)
statement_passes (body b) ps h i = (h, tt)
statement_passes (token t) ps h i = word_passes ps (kind (phrase ps 0)) refl i
statement_passes (changing s) ps h i = tt
statement_passes (goal g) ps h i = tt
statement_passes (calling f args) ps h i = tt
statement_passes p ps h i = tt

local_passes : (ps : List Phrase) → Passes (local_item ps)
local_passes ps = either_simple (same_kind K.LeftBracket (kind (phrase ps 1))) _ _ refl (either_simple (same_kind K.AssignMark (kind (phrase ps 1))) _ _ refl refl)

changed_passes : (ps : List Phrase) (k : Kind) → kind (phrase ps 1) ≡ k → Passes (changed ps)
changed_passes ps K.AssignMark e = rw (e) refl
changed_passes ps K.AddMark e = rw (e) refl
changed_passes ps K.SubtractMark e = rw (e) refl
changed_passes ps K.IncreaseMark e = rw (e) refl
changed_passes ps k e = rw (e) refl

-- Items.

either_item : (b : Bool) (s t : Item) → ItemPasses s → ItemPasses t → ItemPasses (if b then s else t)
either_item true s t h i = h
either_item false s t h i = i

shared_passes : (ps : List Phrase) → ItemPasses (shared_item ps)
shared_passes ps = either_item (same_kind K.LeftBracket (kind (phrase ps 1))) _ _ tt (either_item (same_kind K.MinusMark (kind (phrase ps 2))) _ _ tt tt)

either_items : (b : Bool) (xs ys : List Item) → AllByRecursion ItemPasses xs → AllByRecursion ItemPasses ys → AllByRecursion ItemPasses (if b then xs else ys)
either_items true xs ys h i = h
either_items false xs ys h i = i

numbered_pass : (make : Name → Number → Item) → ((x : Name) (n : Number) → ItemPasses (make x n)) → (ps : List Phrase) → AllByRecursion ItemPasses (numbered make ps)
numbered_pass make h [] = tt
numbered_pass make h (p ∷ ps) =
    either_items (same_kind K.Name (kind p)) (make (name_of (as_token p)) (number_behind (name_of (as_token p)) ps) ∷ numbered make ps) (numbered make ps) (h _ _, numbered_pass make h ps) (numbered_pass make h ps)

all_items_pass : (ps : List Phrase) → AllPass ps → AllByRecursion ItemPasses (flat_map as_items ps)
all_items_pass [] h = tt
all_items_pass (p ∷ ps) h = all_join ItemPasses (as_items p) (flat_map as_items ps) (items_pass p h.0) (all_items_pass ps h.1)

-- Trees.

made_passes : (r : Rule) (ps : List Phrase) → AllPass ps → PhrasePasses (made r ps)
made_passes R.Leaf ps h = tt
made_passes R.Source ps h = all_items_pass ps h
made_passes R.Shared ps h = all_items_pass ps h
made_passes R.Sitem ps h = (shared_passes ps, tt)
made_passes R.Sems ps h = numbered_pass semaphore (λ x n. tt) ps
made_passes R.Chans ps h = numbered_pass channel (λ x n. tt) ps
made_passes R.Function ps h = (block_passes (last ps) (last_passes ps h), tt)
made_passes R.Params ps h = tt
made_passes R.Process ps h = (block_passes (last ps) (last_passes ps h), tt)
made_passes R.Block ps h = rows_pass ps h
made_passes R.Local ps h = locals_pass ps
made_passes R.Litem ps h = local_passes ps
made_passes R.Value ps h = tt
made_passes R.Call ps h = tt
made_passes R.Place ps h = tt
made_passes R.Change ps h = changed_passes ps (kind (phrase ps 1)) refl
made_passes R.Stmt ps h = statement_passes (phrase ps 0) ps (phrase_passes ps 0 h) h
made_passes R.Unary ps h = tt
made_passes R.Binary ps h = tt

mutual
  said_passes : (t : Shape) → PhrasePasses (said t)
  said_passes (leaf t) = tt
  said_passes (node r ts) = made_passes r (all_said ts) (all_said_pass ts)

  all_said_pass : (ts : Shapes) → AllPass (all_said ts)
  all_said_pass no_shapes = tt
  all_said_pass (shape_then t ts) = (said_passes t, all_said_pass ts)

-- the items of a tree
pub tree_passes : (t : Shape) → AllByRecursion ItemPasses (as_items (said t))
tree_passes t = items_pass (said t) (said_passes t)
