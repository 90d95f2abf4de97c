-- How rows of statements end.
use Rattle.std.proofs.Common.{◌≡◌, refl, sym, ap, ◌∙◌, ℕ, ◌+◌, ◌<◌, ◌≤◌, Bool, true, false, if◌then◌else◌, is_some, List, [], ◌∷◌, take, length, get_or, None}
use Rattle.std.proofs.lemmas.List.{take_all}
use Rattle.ppd_ast.specs.declared.program.Place.{Place}
use Rattle.ppd_parse.specs.declared.node.Node.{Node}
use Rattle.ppd_check.specs.declared.endings.Ending.{Ending}
use Rattle.ppd_check.specs.declared.endings.Ending.TheVariants.{Empty, Return, Other}
use Rattle.ppd_check_stmts.specs.Code.{done, act}
use Rattle.ppd_check_stmts.specs.Code as C
use Rattle.ppd_check.specs.Endings.{with_rest, simple_ending, ending, close_by}
use Rattle.ppd_check_names.specs.Nodes.{phrase_of, phrases_of, phrases_below, children_of}
use Rattle.ppd_check_names.specs.Reading.{Phrase, as_row, rows, locals, followed}
use Rattle.ppd_check.specs.Sources.{ends_with_return, close_code}
use Rattle.ppd_check_names.specs.Globals.{Head}
use Rattle.ppd_check_names.specs.Syntax.{Simple, give_back, Row, stop, simple, block, choice, repeat, count}
use Rattle.ppd_check_stmts.proofs.Rows.Declaring.{locals_append, phrases_more}
use Rattle.ppd_check_stmts.proofs.Rows.Nested.{rows_append, followed_stop}

with_empty : (e : Ending) → with_rest Empty e ≡ e
with_empty Empty = refl
with_empty (Return p v) = refl
with_empty Other = refl

with_assoc : (a b e : Ending) → with_rest (with_rest a b) e ≡ with_rest a (with_rest b e)
with_assoc a b Empty = refl
with_assoc a b (Return p v) = refl
with_assoc a b Other = refl

ending_followed : (q r : Row) → ending (followed q r) ≡ with_rest (ending q) (ending r)
ending_followed stop r = sym (with_empty (ending r))
ending_followed (simple s q) r = ap (with_rest (simple_ending s)) (ending_followed q r) ∙ sym (with_assoc (simple_ending s) (ending q) (ending r))
ending_followed (block b q) r = ap (with_rest Other) (ending_followed q r) ∙ sym (with_assoc Other (ending q) (ending r))
ending_followed (choice p e a b q) r = ap (with_rest Other) (ending_followed q r) ∙ sym (with_assoc Other (ending q) (ending r))
ending_followed (repeat p e b q) r = ap (with_rest Other) (ending_followed q r) ∙ sym (with_assoc Other (ending q) (ending r))
ending_followed (count p i e t b q) r = ap (with_rest Other) (ending_followed q r) ∙ sym (with_assoc Other (ending q) (ending r))

-- Children one after another.

pub rows_ended : (ns : List Node) (cs : List ℕ) (i c : ℕ) (e f : Ending) → i < length cs → c ≡ get_or cs i c → e ≡ ending (rows (phrases_of ns (take i cs)))
    → f ≡ with_rest e (ending (as_row (phrase_of ns c))) → f ≡ ending (rows (phrases_of ns (take (i + 1) cs)))
rows_ended ns cs i c e f l is a b =
    let ps : List Phrase = phrases_of ns (take i cs) in
    let q : Row = as_row (phrase_of ns c) in
    b
    ∙ ap (λ x. with_rest x (ending q)) a
    ∙ ap (λ r. with_rest (ending (rows ps)) (ending r)) (sym (followed_stop q))
    ∙ sym (ending_followed (rows ps) (rows (phrase_of ns c ∷ [])))
    ∙ ap ending (sym (rows_append ps (phrase_of ns c ∷ [])) ∙ ap rows (phrases_more ns cs i c l is))

pub rows_all : (ns : List Node) (i k : ℕ) (cs : List ℕ) (e : Ending) → cs ≡ children_of ns i → length cs ≤ k → e ≡ ending (rows (phrases_of ns (take k cs))) → e ≡ ending (rows (phrases_below ns i))
unfolding phrases_below
rows_all ns i k cs e is h a = a ∙ ap (λ l. ending (rows (phrases_of ns l))) (take_all k cs h ∙ is)

pub locals_ended : (ns : List Node) (cs : List ℕ) (i c : ℕ) (e f : Ending) → i < length cs → c ≡ get_or cs i c → e ≡ ending (locals (phrases_of ns (take i cs)))
    → f ≡ with_rest e (ending (locals (phrase_of ns c ∷ []))) → f ≡ ending (locals (phrases_of ns (take (i + 1) cs)))
locals_ended ns cs i c e f l is a b =
    let ps : List Phrase = phrases_of ns (take i cs) in
    b
    ∙ ap (λ x. with_rest x (ending (locals (phrase_of ns c ∷ [])))) a
    ∙ sym (ending_followed (locals ps) (locals (phrase_of ns c ∷ [])))
    ∙ ap ending (sym (locals_append ps (phrase_of ns c ∷ [])) ∙ ap locals (phrases_more ns cs i c l is))

pub locals_all : (ns : List Node) (i k : ℕ) (cs : List ℕ) (e : Ending) → cs ≡ children_of ns i → length cs ≤ k → e ≡ ending (locals (phrases_of ns (take k cs))) → e ≡ ending (locals (phrases_below ns i))
unfolding phrases_below
locals_all ns i k cs e is h a = a ∙ ap (λ l. ending (locals (phrases_of ns l))) (take_all k cs h ∙ is)

-- What stands at the closing brace.

abbrev is_return : Ending → Bool
is_return (Return p v) = true
is_return e = false

other_rest : (e : Ending) → is_return e ≡ is_return (with_rest Other e)
other_rest Empty = refl
other_rest (Return p v) = refl
other_rest Other = refl

clash_other : Other ≡ Empty → ⊥
clash_other h = cc

clash_return : (p : Place) (v : Bool) → Return p v ≡ Empty → ⊥
clash_return p v h = cc

kept_rest : (a e : Ending) → (e ≡ Empty → ⊥) → is_return e ≡ is_return (with_rest a e)
kept_rest a Empty h = absurd (h refl)
kept_rest a (Return p v) h = refl
kept_rest a Other h = refl

pub full_other : (e : Ending) → with_rest Other e ≡ Empty → ⊥
full_other Empty h = clash_other h
full_other (Return p v) h = clash_return p v h
full_other Other h = clash_other h

full_return : (q : Place) (w : Bool) (e : Ending) → with_rest (Return q w) e ≡ Empty → ⊥
full_return q w Empty h = clash_return q w h
full_return q w (Return p v) h = clash_return p v h
full_return q w Other h = clash_other h

-- a row with a statement is not empty
pub full_simple : (s : Simple) (r : Row) → ending (simple s r) ≡ Empty → ⊥
full_simple (give_back p v) r h = full_return p (is_some v) (ending r) h
full_simple s r h = full_other (ending r) h

ends : (r : Row) → ends_with_return r ≡ is_return (ending r)
ends stop = refl
ends (simple (give_back p v) stop) = refl
ends (simple (give_back p v) (simple s r)) = ends (simple s r) ∙ kept_rest (Return p (is_some v)) (ending (simple s r)) (full_simple s r)
ends (simple (give_back p v) (block b r)) = ends (block b r) ∙ kept_rest (Return p (is_some v)) (ending (block b r)) (full_other (ending r))
ends (simple (give_back p v) (choice q e a b r)) = ends (choice q e a b r) ∙ kept_rest (Return p (is_some v)) (ending (choice q e a b r)) (full_other (ending r))
ends (simple (give_back p v) (repeat q e b r)) = ends (repeat q e b r) ∙ kept_rest (Return p (is_some v)) (ending (repeat q e b r)) (full_other (ending r))
ends (simple (give_back p v) (count q i e t b r)) = ends (count q i e t b r) ∙ kept_rest (Return p (is_some v)) (ending (count q i e t b r)) (full_other (ending r))
ends (simple s r) = ends r ∙ other_rest (ending r)
ends (block b r) = ends r ∙ other_rest (ending r)
ends (choice p e a b r) = ends r ∙ other_rest (ending r)
ends (repeat p e b r) = ends r ∙ other_rest (ending r)
ends (count p i e t b r) = ends r ∙ other_rest (ending r)

close_ended : (e : Ending) (close : Place) → (if is_return e then done else act close (C.give_back None) done) ≡ close_by false e close
close_ended Empty close = refl
close_ended (Return p v) close = refl
close_ended Other close = refl

pub closed_by : (h : Head) → close_code h ≡ close_by h.process (ending h.block.row) h.block.close
closed_by h = go h.process
  where
    go : (b : Bool) → (if b then act h.block.close C.finish done else if ends_with_return h.block.row then done else act h.block.close (C.give_back None) done) ≡ close_by b (ending h.block.row) h.block.close
    go true = refl
    go false = ap (λ b. if b then done else act h.block.close (C.give_back None) done) (ends h.block.row) ∙ close_ended (ending h.block.row) h.block.close
