-- The returns of rows are those of the core statements that are written for them.
use Rattle.std.proofs.Common.{◌≡◌, refl, sym, ap, subst, ◌∙◌, ℕ, pos, zero, suc, ◌+◌, ◌-◌, ◌<◌, arith, Bool, true, false, not, ◌&&◌, ◌||◌, if◌then◌else◌, is_some, List, [], ◌∷◌, ◌++◌, take, drop, length, get_or, Option, None, Some}
use Rattle.std.specs.List.{flat_map}
use Rattle.std.proofs.lemmas.List.{append_assoc, append-nil, length-append, take_at, take_more}
use Rattle.std.proofs.lemmas.List.Concat.{flat_map-append, flat_map-cons}
use Rattle.ppd_ast.specs.declared.program.Place.{Place}
use Rattle.ppd_ast.specs.declared.program.Kind.TheVariants.{If, While}
use Rattle.ppd_ast.specs.declared.program.Stmt.{Stmt}
use Rattle.ppd_ast.specs.Term as T
use Rattle.ppd_ast.specs.Term.{Term}
use Rattle.ppd_parse.specs.declared.node.Node.{Node}
use Rattle.ppd_parse.specs.declared.token.Kind.{Kind}
use Rattle.ppd_parse.specs.declared.token.Kind.TheVariants as K
use Rattle.ppd_parse.specs.declared.symbol.Rule.{Rule}
use Rattle.ppd_parse.specs.declared.symbol.Rule.TheVariants as R
use Rattle.ppd_parse.specs.Grammar.{Shape, leaf, node, Shapes, no_shapes, shape_then}
use Rattle.ppd_check_names.specs.declared.fault.Cause.TheVariants.{ReturnPlace}
use Rattle.ppd_check_names.specs.declared.fault.Fault.{Fault}
use Rattle.ppd_check_stmts.specs.Writing.{block_at}
use Rattle.ppd_check.specs.declared.endings.Ending.{Ending}
use Rattle.ppd_check.specs.declared.endings.Ending.TheVariants.{Empty, Return, Other}
use Rattle.ppd_check_names.specs.declared.frame.Frame.{Frame}
use Rattle.ppd_check_stmts.specs.Code.{Spot, Act, Code, done, act, choice, loop, join, acts, count}
use Rattle.ppd_check_stmts.specs.Code as C
use Rattle.ppd_check.specs.Endings.{with_rest, simple_ending, ending, kind_returned, returned, function_returns, body_returns}
use Rattle.ppd_check_stmts.specs.Expressions.{term_of}
use Rattle.ppd_check_names.specs.Faults.{at, if_so, first, first_of_both}
use Rattle.ppd_check_names.specs.Nodes.{tree_at, phrase_of}
use Rattle.ppd_check_names.specs.Reading.{Phrase, token, goal, calling, changing, row, body, phrase, last, kind, same_kind, as_row, as_block, as_value, name_at, number_at, formula_at, rows, locals, local_item, changed, statement, worded, followed, before, beyond, for_start, for_row, some_change, made, said, all_said}
use Rattle.ppd_check.specs.Sources.{simple_returns, returns, last_return, return_faults}
use Rattle.ppd_check_names.specs.Globals.{Head}
use Rattle.ppd_check_stmts.specs.Statements.{put, store_acts, spot_of, code_of, after, after_row, row_code, opened, with_scopes_of, code_of_any}
use Rattle.ppd_check_stmts.proofs.Vocabulary.{after_any}
use Rattle.ppd_check_names.specs.Syntax.{number, Value, plain, result, received, Simple, fresh, array, store, change, call, give_back, take as take_sem, give, send, print, assert, Row, stop, simple, block, repeat}
use Rattle.ppd_check_names.specs.Syntax as S
use Rattle.ppd_check_stmts.specs.Table.{weight, weights, root, terms, act_terms, numbers, stmts, kind as kind_of}
use Rattle.ppd_check.proofs.Ended.{full_simple, full_other}
use Rattle.ppd_check_names.proofs.Found.First.{found_in_both}
use Rattle.ppd_check_stmts.proofs.Table.Joined.{stmts_join}
use Rattle.ppd_check_stmts.proofs.Rows.Walking.{join_assoc}

-- What a `for` says before its first turn and after each is no return.

abbrev PlainAny : Option Simple → Type 0
PlainAny None = Unit {0}
PlainAny (Some s) = simple_returns s ≡ []

abbrev pub PlainRow : Row → Type 0
PlainRow stop = Unit {0}
PlainRow (simple s r) = PlainRow r
PlainRow (block b r) = PlainRow b × PlainRow r
PlainRow (S.choice p e a b r) = PlainRow a × PlainRow b × PlainRow r
PlainRow (repeat p e b r) = PlainRow b × PlainRow r
PlainRow (S.count p i e t b r) = PlainAny i × PlainAny t × PlainRow b × PlainRow r

abbrev PlainPhrase : Phrase → Type 0
PlainPhrase (changing s) = simple_returns s ≡ []
PlainPhrase (row r) = PlainRow r
PlainPhrase (body b) = PlainRow b.row
PlainPhrase _ = Unit {0}

abbrev ArePlain : List Phrase → Type 0
ArePlain [] = Unit {0}
ArePlain (p ∷ ps) = PlainPhrase p × ArePlain ps

plain_get : (ps : List Phrase) (k : ℕ) → ArePlain ps → PlainPhrase (phrase ps k)
plain_get [] k h = tt
plain_get (p ∷ ps) zero h = h.0
plain_get (p ∷ ps) (suc k) h = plain_get ps k h.1

plain_drop : (n : ℕ) (ps : List Phrase) → ArePlain ps → ArePlain (drop n ps)
plain_drop zero ps h = h
plain_drop (suc n) [] h = tt
plain_drop (suc n) (p ∷ ps) h = plain_drop n ps h.1

plain_before : (ps : List Phrase) → ArePlain ps → ArePlain (before ps)
plain_before [] h = tt
plain_before (p ∷ ps) h = go (same_kind K.Semicolon (kind p)) (plain_before ps h.1)
  where
    go : (b : Bool) → ArePlain (before ps) → ArePlain (if b then [] else p ∷ before ps)
    go true i = tt
    go false i = (h.0, i)

plain_beyond : (ps : List Phrase) → ArePlain ps → ArePlain (beyond ps)
plain_beyond [] h = tt
plain_beyond (p ∷ ps) h = go (same_kind K.Semicolon (kind p)) (plain_beyond ps h.1)
  where
    go : (b : Bool) → ArePlain (beyond ps) → ArePlain (if b then ps else beyond ps)
    go true i = h.1
    go false i = i

plain_change : (p : Phrase) → PlainPhrase p → PlainAny (some_change p)
plain_change (changing s) h = h
plain_change p h = tt

plain_start : (ps : List Phrase) → ArePlain ps → PlainAny (for_start ps)
plain_start ps h = go (same_kind K.IntWord (kind (phrase ps 0)))
  where
    go : (b : Bool) → PlainAny (if b then Some (fresh (name_at ps 1) (plain (formula_at ps 3))) else some_change (phrase ps 0))
    go true = refl
    go false = plain_change (phrase ps 0) (plain_get ps 0 h)

plain_as_row : (p : Phrase) → PlainPhrase p → PlainRow (as_row p)
plain_as_row (row r) h = h
plain_as_row p h = tt

plain_followed : (q r : Row) → PlainRow q → PlainRow r → PlainRow (followed q r)
plain_followed stop r h i = i
plain_followed (simple s q) r h i = plain_followed q r h i
plain_followed (block b q) r h i = (h.0, plain_followed q r h.1 i)
plain_followed (S.choice p e a b q) r h i = (h.0, h.1, plain_followed q r h.2 i)
plain_followed (repeat p e b q) r h i = (h.0, plain_followed q r h.1 i)
plain_followed (S.count p j e t b q) r h i = (h.0, h.1, h.2, plain_followed q r h.3 i)

plain_rows : (ps : List Phrase) → ArePlain ps → PlainRow (rows ps)
plain_rows [] h = tt
plain_rows (p ∷ ps) h = plain_followed (as_row p) (rows ps) (plain_as_row p h.0) (plain_rows ps h.1)

plain_locals : (ps : List Phrase) → PlainRow (locals ps)
plain_locals [] = tt
plain_locals (changing s ∷ ps) = plain_locals ps
plain_locals (p ∷ ps) = plain_locals ps

plain_for : (ps : List Phrase) → ArePlain ps → PlainRow (for_row ps)
plain_for ps h =
    let inside : ArePlain (drop 2 ps) = plain_drop 2 ps h in (
      plain_start (before (drop 2 ps)) (plain_before (drop 2 ps) inside),
      plain_change (phrase (beyond (beyond (drop 2 ps))) 0) (plain_get (beyond (beyond (drop 2 ps))) 0 (plain_beyond (beyond (drop 2 ps)) (plain_beyond (drop 2 ps) inside))),
      plain_as_row (last ps) (plain_get ps (length ps - 1) h),
      tt,
    )

plain_worded : (ps : List Phrase) (k : Kind) → kind (phrase ps 0) ≡ k → ArePlain ps → PlainRow (worded ps)
plain_worded ps K.IfWord e h = rw (e) (plain_as_row (phrase ps 4) (plain_get ps 4 h), plain_as_row (phrase ps 6) (plain_get ps 6 h), tt)
plain_worded ps K.WhileWord e h = rw (e) (plain_as_row (phrase ps 4) (plain_get ps 4 h), tt)
plain_worded ps K.ForWord e h = rw (e) (plain_for ps h)
plain_worded ps K.ReturnWord e h = rw (e) tt
plain_worded ps K.TakeWord e h = rw (e) tt
plain_worded ps K.GiveWord e h = rw (e) tt
plain_worded ps K.SendWord e h = rw (e) tt
plain_worded ps K.PrintWord e h = rw (e) tt
plain_worded ps K.AssertWord e h = rw (e) tt
plain_worded ps k e h = rw (e) (tt, tt)

plain_statement : (p : Phrase) (ps : List Phrase) → PlainPhrase p → ArePlain ps → PlainRow (statement p ps)
plain_statement (body b) ps h i = (h, tt)
plain_statement (changing s) ps h i = tt
plain_statement (goal g) ps h i = tt
plain_statement (calling f args) ps h i = tt
plain_statement (token t) ps h i = plain_worded ps (kind (phrase ps 0)) refl i
plain_statement p ps h i = tt

plain_item : (ps : List Phrase) → simple_returns (local_item ps) ≡ []
plain_item ps = go (same_kind K.LeftBracket (kind (phrase ps 1))) (same_kind K.AssignMark (kind (phrase ps 1)))
  where
    go : (b c : Bool) → simple_returns (if b then array (name_at ps 0) (number_at ps 2) else if c then fresh (name_at ps 0) (as_value (phrase ps 2)) else fresh (name_at ps 0) (plain (number (pos 0)))) ≡ []
    go true c = refl
    go false true = refl
    go false false = refl

plain_changed : (ps : List Phrase) (k : Kind) → kind (phrase ps 1) ≡ k → simple_returns (changed ps) ≡ []
plain_changed ps K.AssignMark h = rw (h)
plain_changed ps K.AddMark h = rw (h)
plain_changed ps K.SubtractMark h = rw (h)
plain_changed ps K.IncreaseMark h = rw (h)
plain_changed ps k h = rw (h)

plain_made : (r : Rule) (ps : List Phrase) → ArePlain ps → PlainPhrase (made r ps)
plain_made R.Block ps h = plain_rows ps h
plain_made R.Local ps h = plain_locals ps
plain_made R.Litem ps h = plain_item ps
plain_made R.Change ps h = plain_changed ps (kind (phrase ps 1)) refl
plain_made R.Stmt ps h = plain_statement (phrase ps 0) ps (plain_get ps 0 h) h
plain_made r ps h = tt

mutual
  plain_said : (t : Shape) → PlainPhrase (said t)
  plain_said (leaf t) = tt
  plain_said (node r ts) = plain_made r (all_said ts) (plain_all ts)

  plain_all : (ts : Shapes) → ArePlain (all_said ts)
  plain_all no_shapes = tt
  plain_all (shape_then t ts) = (plain_said t, plain_all ts)

plain_of : (ns : List Node) (i : ℕ) → PlainPhrase (phrase_of ns i)
unfolding phrase_of
plain_of ns i = plain_said (tree_at ns i)

plain_as_block : (p : Phrase) → PlainPhrase p → PlainRow (as_block p).row
plain_as_block (body b) h = h
plain_as_block p h = tt

pub plain_block : (ns : List Node) (o : Option ℕ) → PlainRow (block_at ns o).row
plain_block ns None = tt
plain_block ns (Some i) = plain_as_block (phrase_of ns i) (plain_of ns i)

-- The returns among core statements.

abbrev act_returned : Place → Act → List Fault
act_returned p (C.give_back v) = at p ReturnPlace ∷ []
act_returned p a = []

abbrev code_returned : Code → List Fault
code_returned done = []
code_returned (act p a c) = act_returned p a ++ code_returned c
code_returned (choice p e a b c) = code_returned a ++ (code_returned b ++ code_returned c)
code_returned (loop p e a c) = code_returned a ++ code_returned c

returned_join : (c d : Code) → code_returned (join c d) ≡ code_returned c ++ code_returned d
returned_join done d = refl
returned_join (act p a c) d = ap (λ l. act_returned p a ++ l) (returned_join c d) ∙ sym (append_assoc (act_returned p a) (code_returned c) (code_returned d))
returned_join (choice p e a b c) d =
    ap (λ l. code_returned a ++ (code_returned b ++ l)) (returned_join c d)
    ∙ ap (λ l. code_returned a ++ l) (sym (append_assoc (code_returned b) (code_returned c) (code_returned d)))
    ∙ sym (append_assoc (code_returned a) (code_returned b ++ code_returned c) (code_returned d))
returned_join (loop p e a c) d =
    ap (λ l. code_returned a ++ l) (returned_join c d) ∙ sym (append_assoc (code_returned a) (code_returned c) (code_returned d))

returned_kind : (p : Place) (m : ℕ) (a : Act) → kind_returned p (kind_of m a) ≡ act_returned p a
returned_kind p m (C.set t e) = refl
returned_kind p m (C.clear b n) = refl
returned_kind p m (C.call f args into) = refl
returned_kind p m (C.give_back v) = refl
returned_kind p m (C.take k) = refl
returned_kind p m (C.give k) = refl
returned_kind p m (C.send k e) = refl
returned_kind p m (C.receive k c) = refl
returned_kind p m (C.print e) = refl
returned_kind p m (C.assert e) = refl
returned_kind p m C.finish = refl

both : (xs ys : List Stmt) (fs gs : List Fault) → flat_map returned xs ≡ fs → flat_map returned ys ≡ gs → flat_map returned (xs ++ ys) ≡ fs ++ gs
both xs ys fs gs h i = flat_map-append returned xs ys ∙ ap (λ l. l ++ flat_map returned ys) h ∙ ap (λ l. fs ++ l) i

-- one statement more
pub returned_more : (ss : List Stmt) (k : ℕ) (s : Stmt) (o p q : Option Fault) → k < length ss → s ≡ get_or ss k s → p ≡ first_of_both o (first (flat_map returned (take k ss))) → q ≡ first_of_both p (first (returned s))
    → q ≡ first_of_both o (first (flat_map returned (take (k + 1) ss)))
returned_more ss k s o p q l is h i =
    found_in_both o p q (flat_map returned (take k ss)) (returned s) h i
    ∙ ap (λ x. first_of_both o (first x))
    (ap (λ x. flat_map returned (take k ss) ++ x) (sym (append-nil (returned s)) ∙ sym (flat_map-cons returned s []))
    ∙ sym (flat_map-append returned (take k ss) (s ∷ []))
    ∙ ap (flat_map returned) (ap (λ x. take k ss ++ x ∷ []) is ∙ sym (take_more ss k s l)))

returned_stmts : (b : ℕ) (q : Option ℕ) (n m : ℕ) (c : Code) → flat_map returned (stmts b q n m c) ≡ code_returned c
returned_stmts b q n m done = refl
returned_stmts b q n m (act p a c) =
    let s : Stmt = record { place = p; body = b; parent = q; kind = kind_of m a } in
    flat_map-cons returned s (stmts b q (n + 1) (m + weights (act_terms a)) c)
    ∙ ap (λ l. l ++ flat_map returned (stmts b q (n + 1) (m + weights (act_terms a)) c)) (returned_kind p m a)
    ∙ ap (λ l. act_returned p a ++ l) (returned_stmts b q (n + 1) (m + weights (act_terms a)) c)
returned_stmts b q n m (choice p e x y c) =
    let n1 : ℕ = n + 1 in
    let n2 : ℕ = n1 + count x in
    let m1 : ℕ = m + weight e in
    let m2 : ℕ = m1 + weights (terms x) in
    let xs : List Stmt = stmts b (Some n) n1 m1 x in
    let ys : List Stmt = stmts b (Some n) n2 m2 y in
    let zs : List Stmt = stmts b q (n2 + count y) (m2 + weights (terms y)) c in
    flat_map-cons returned (record { place = p; body = b; parent = q; kind = If (root m e) (numbers n1 x) (numbers n2 y) }) (xs ++ (ys ++ zs))
    ∙ both xs (ys ++ zs) (code_returned x) (code_returned y ++ code_returned c) (returned_stmts b (Some n) n1 m1 x)
    (both ys zs (code_returned y) (code_returned c) (returned_stmts b (Some n) n2 m2 y) (returned_stmts b q (n2 + count y) (m2 + weights (terms y)) c))
returned_stmts b q n m (loop p e x c) =
    let n1 : ℕ = n + 1 in
    let m1 : ℕ = m + weight e in
    let xs : List Stmt = stmts b (Some n) n1 m1 x in
    let zs : List Stmt = stmts b q (n1 + count x) (m1 + weights (terms x)) c in
    flat_map-cons returned (record { place = p; body = b; parent = q; kind = While (root m e) (numbers n1 x) }) (xs ++ zs)
    ∙ both xs zs (code_returned x) (code_returned c) (returned_stmts b (Some n) n1 m1 x) (returned_stmts b q (n1 + count x) (m1 + weights (terms x)) c)

store_none : (p : Place) (m : Spot) (v : Value) (f : Frame) → code_returned (acts p (store_acts m v f)) ≡ []
store_none p m (plain e) f = refl
store_none p (C.local c) (result g args) f = refl
store_none p (C.local_at b n i) (result g args) f = refl
store_none p (C.shared c) (result g args) f = refl
store_none p (C.shared_at b n i) (result g args) f = refl
store_none p (C.local c) (received x) f = refl
store_none p (C.local_at b n i) (received x) f = refl
store_none p (C.shared c) (received x) f = refl
store_none p (C.shared_at b n i) (received x) f = refl

returned_simple : (s : Simple) (f : Frame) → code_returned (code_of s f) ≡ simple_returns s
returned_simple (fresh x (plain e)) f = refl
returned_simple (fresh x (result g args)) f = refl
returned_simple (fresh x (received y)) f = refl
returned_simple (array x n) f = refl
returned_simple (store (S.scalar x) v) f = store_none _ (spot_of f.scopes (S.scalar x)) v f
returned_simple (store (S.item x i) v) f = store_none _ (spot_of f.scopes (S.item x i)) v f
returned_simple (change g op e) f = refl
returned_simple (call g args) f = refl
returned_simple (give_back p None) f = refl
returned_simple (give_back p (Some (plain e))) f = refl
returned_simple (give_back p (Some (result g args))) f = refl
returned_simple (give_back p (Some (received x))) f = refl
returned_simple (take_sem p x) f = refl
returned_simple (give p x) f = refl
returned_simple (send p x e) f = refl
returned_simple (print p e) f = refl
returned_simple (assert p e) f = refl

returned_any : (o : Option Simple) (f : Frame) → PlainAny o → code_returned (code_of_any o f) ≡ []
returned_any None f h = refl
returned_any (Some s) f h = returned_simple s f ∙ h

returned_row : (r : Row) (f : Frame) → PlainRow r → code_returned (row_code r f) ≡ returns r
returned_row stop f h = refl
returned_row (simple s r) f h =
    returned_join (code_of s f) (row_code r (after s f))
    ∙ ap (λ l. l ++ code_returned (row_code r (after s f))) (returned_simple s f)
    ∙ ap (λ l. simple_returns s ++ l) (returned_row r (after s f) h)
returned_row (block b r) f h =
    let g : Frame = with_scopes_of f (after_row b (opened f)) in
    returned_join (row_code b (opened f)) (row_code r g)
    ∙ ap (λ l. l ++ code_returned (row_code r g)) (returned_row b (opened f) h.0)
    ∙ ap (λ l. returns b ++ l) (returned_row r g h.1)
returned_row (S.choice p e a b r) f h =
    let g : Frame = after_row a f in
    let k : Frame = after_row b g in
    ap (λ l. l ++ (code_returned (row_code b g) ++ code_returned (row_code r k))) (returned_row a f h.0)
    ∙ ap (λ l. returns a ++ (l ++ code_returned (row_code r k))) (returned_row b g h.1)
    ∙ ap (λ l. returns a ++ (returns b ++ l)) (returned_row r k h.2)
returned_row (repeat p e b r) f h =
    let g : Frame = after_row b f in
    ap (λ l. l ++ code_returned (row_code r g)) (returned_row b f h.0)
    ∙ ap (λ l. returns b ++ l) (returned_row r g h.1)
returned_row (S.count p i e t b r) f h =
    let g : Frame = after_any i (opened f) in
    let k : Frame = after_row b g in
    let inside : Code = join (row_code b g) (code_of_any t k) in
    let rest : Code = row_code r (with_scopes_of f k) in
    returned_join (code_of_any i (opened f)) (loop p (term_of g.scopes e) inside rest)
    ∙ ap (λ l. l ++ (code_returned inside ++ code_returned rest)) (returned_any i (opened f) h.0)
    ∙ ap (λ l. l ++ code_returned rest) (returned_join (row_code b g) (code_of_any t k))
    ∙ ap (λ l. (code_returned (row_code b g) ++ l) ++ code_returned rest) (returned_any t k h.1)
    ∙ ap (λ l. l ++ code_returned rest) (append-nil (code_returned (row_code b g)) ∙ returned_row b g h.2)
    ∙ ap (λ l. returns b ++ l) (returned_row r (with_scopes_of f k) h.3)

-- A row that ends with a `return`.

abbrev fit : Bool → Bool → Place → List Fault
fit v gives p = if_so (not (v && gives || not v && not gives)) p ReturnPlace

record Ended (r : Row) (f : Frame) (p : Place) (v : Bool) : Type 0 where
  pub code : Code
  pub value : Option Term
  pub is : row_code r f ≡ join code (act p (C.give_back value) done)
  pub faults : (gives : Bool) (close : Place) → last_return gives close r ≡ code_returned code ++ fit v gives p

-- what stands before a row that ends so
before_ended : (q r : Row) (f g : Frame) (p : Place) (v : Bool) (c : Code) (fs : List Fault) → code_returned c ≡ fs → row_code q f ≡ join c (row_code r g)
    → ((gives : Bool) (close : Place) → last_return gives close q ≡ fs ++ last_return gives close r) → Ended r g p v → Ended q f p v
before_ended q r f g p v c fs h e l x =
    let last : Code = act p (C.give_back x.value) done in
    record {
      code = join c x.code;
      value = x.value;
      is = e ∙ ap (join c) x.is ∙ sym (join_assoc c x.code last);
      faults = λ gives close.
          l gives close
          ∙ ap (λ k. fs ++ k) (x.faults gives close)
          ∙ sym (append_assoc fs (code_returned x.code) (fit v gives p))
          ∙ ap (λ k. (k ++ code_returned x.code) ++ fit v gives p) (sym h)
          ∙ ap (λ k. k ++ fit v gives p) (sym (returned_join c x.code));
    }

clash_empty : (p : Place) (v : Bool) → Empty ≡ Return p v → ⊥
clash_empty p v h = cc

clash_other : (p : Place) (v : Bool) → Other ≡ Return p v → ⊥
clash_other p v h = cc

rest_other : (e : Ending) (p : Place) (v : Bool) → with_rest Other e ≡ Return p v → e ≡ Return p v
rest_other Empty p v h = absurd (clash_other p v h)
rest_other (Return q w) p v h = h
rest_other Other p v h = h

rest_full : (a e : Ending) (p : Place) (v : Bool) → (e ≡ Empty → ⊥) → with_rest a e ≡ Return p v → e ≡ Return p v
rest_full a Empty p v i h = absurd (i refl)
rest_full a (Return q w) p v i h = h
rest_full a Other p v i h = h

abbrev place_in : Place → Ending → Place
place_in d (Return p v) = p
place_in d e = d

abbrev value_in : Ending → Bool
value_in (Return p v) = v
value_in e = false

-- a last `return`
ended_last : (q : Place) (w : Option Value) (f : Frame) → Ended (simple (give_back q w) stop) f q (is_some w)
ended_last q None f = record { code = done; value = None; is = refl; faults = λ gives close. refl }
ended_last q (Some (plain e)) f = record { code = done; value = Some (term_of f.scopes e); is = refl; faults = λ gives close. refl }
ended_last q (Some (result g args)) f =
    record { code = act q (put f.scopes f.cells (result g args)) done; value = Some (T.local f.cells); is = refl; faults = λ gives close. refl }
ended_last q (Some (received x)) f =
    record { code = act q (put f.scopes f.cells (received x)) done; value = Some (T.local f.cells); is = refl; faults = λ gives close. refl }

same_ended : (r : Row) (f : Frame) (q p : Place) (w v : Bool) → Ended r f q w → Return q w ≡ Return p v → Ended r f p v
same_ended r f q p w v x h = subst (λ e. Ended r f (place_in q e) (value_in e)) h x

-- a `return` that is not last
ended_after : (q : Place) (w : Option Value) (r : Row) (f : Frame) (p : Place) (v : Bool) → (ending r ≡ Empty → ⊥)
    → ((gives : Bool) (close : Place) → last_return gives close (simple (give_back q w) r) ≡ simple_returns (give_back q w) ++ last_return gives close r)
    → with_rest (Return q (is_some w)) (ending r) ≡ Return p v → (ending r ≡ Return p v → Ended r (after (give_back q w) f) p v) → Ended (simple (give_back q w) r) f p v
ended_after q w r f p v full l h x =
    before_ended (simple (give_back q w) r) r f (after (give_back q w) f) p v (code_of (give_back q w) f) (simple_returns (give_back q w)) (returned_simple (give_back q w) f) refl l
    (x (rest_full (Return q (is_some w)) (ending r) p v full h))

ended_other : (s : Simple) (r : Row) (f : Frame) (p : Place) (v : Bool) → simple_ending s ≡ Other
    → ((gives : Bool) (close : Place) → last_return gives close (simple s r) ≡ simple_returns s ++ last_return gives close r)
    → ending (simple s r) ≡ Return p v → (ending r ≡ Return p v → Ended r (after s f) p v) → Ended (simple s r) f p v
ended_other s r f p v o l h x =
    before_ended (simple s r) r f (after s f) p v (code_of s f) (simple_returns s) (returned_simple s f) refl l
    (x (rest_other (ending r) p v (ap (λ e. with_rest e (ending r)) (sym o) ∙ h)))

ended : (r : Row) (f : Frame) (p : Place) (v : Bool) → PlainRow r → ending r ≡ Return p v → Ended r f p v
ended stop f p v n h = absurd (clash_empty p v h)
ended (simple (give_back q w) stop) f p v n h = same_ended (simple (give_back q w) stop) f q p (is_some w) v (ended_last q w f) h
ended (simple (give_back q w) (simple s r)) f p v n h =
    ended_after q w (simple s r) f p v (full_simple s r) (λ gives close. refl) h (λ k. ended (simple s r) (after (give_back q w) f) p v n k)
ended (simple (give_back q w) (block b r)) f p v n h =
    ended_after q w (block b r) f p v (full_other (ending r)) (λ gives close. refl) h (λ k. ended (block b r) (after (give_back q w) f) p v n k)
ended (simple (give_back q w) (S.choice o e a b r)) f p v n h =
    ended_after q w (S.choice o e a b r) f p v (full_other (ending r)) (λ gives close. refl) h (λ k. ended (S.choice o e a b r) (after (give_back q w) f) p v n k)
ended (simple (give_back q w) (repeat o e b r)) f p v n h =
    ended_after q w (repeat o e b r) f p v (full_other (ending r)) (λ gives close. refl) h (λ k. ended (repeat o e b r) (after (give_back q w) f) p v n k)
ended (simple (give_back q w) (S.count o i e t b r)) f p v n h =
    ended_after q w (S.count o i e t b r) f p v (full_other (ending r)) (λ gives close. refl) h (λ k. ended (S.count o i e t b r) (after (give_back q w) f) p v n k)
ended (simple s r) f p v n h = ended_other s r f p v refl (λ gives close. refl) h (λ k. ended r (after s f) p v n k)
ended (block b r) f p v n h =
    let g : Frame = with_scopes_of f (after_row b (opened f)) in
    before_ended (block b r) r f g p v (row_code b (opened f)) (returns b) (returned_row b (opened f) n.0) refl (λ gives close. refl)
    (ended r g p v n.1 (rest_other (ending r) p v h))
ended (S.choice o e a b r) f p v n h =
    let g : Frame = after_row a f in
    let k : Frame = after_row b g in
    before_ended (S.choice o e a b r) r f k p v (choice o (term_of f.scopes e) (row_code a f) (row_code b g) done) (returns a ++ returns b)
    (ap (λ l. code_returned (row_code a f) ++ l) (append-nil (code_returned (row_code b g)) ∙ returned_row b g n.1) ∙ ap (λ l. l ++ returns b) (returned_row a f n.0))
    refl
    (λ gives close. sym (append_assoc (returns a) (returns b) (last_return gives close r)))
    (ended r k p v n.2 (rest_other (ending r) p v h))
ended (repeat o e b r) f p v n h =
    let g : Frame = after_row b f in
    before_ended (repeat o e b r) r f g p v (loop o (term_of f.scopes e) (row_code b f) done) (returns b)
    (append-nil (code_returned (row_code b f)) ∙ returned_row b f n.0) refl (λ gives close. refl)
    (ended r g p v n.1 (rest_other (ending r) p v h))
ended (S.count o i e t b r) f p v n h =
    let g : Frame = after_any i (opened f) in
    let k : Frame = after_row b g in
    let inside : Code = join (row_code b g) (code_of_any t k) in
    let turning : Code = loop o (term_of g.scopes e) inside done in
    before_ended (S.count o i e t b r) r f (with_scopes_of f k) p v (join (code_of_any i (opened f)) turning) (returns b)
    (returned_join (code_of_any i (opened f)) turning
    ∙ ap (λ l. l ++ code_returned turning) (returned_any i (opened f) n.0)
    ∙ append-nil (code_returned inside)
    ∙ returned_join (row_code b g) (code_of_any t k)
    ∙ ap (λ l. code_returned (row_code b g) ++ l) (returned_any t k n.1)
    ∙ append-nil (code_returned (row_code b g))
    ∙ returned_row b g n.2)
    (sym (join_assoc (code_of_any i (opened f)) turning (row_code r (with_scopes_of f k))))
    (λ gives close. refl)
    (ended r (with_scopes_of f k) p v n.3 (rest_other (ending r) p v h))

-- A row that does not.

unended : (r : Row) → ((p : Place) (v : Bool) → ending r ≡ Return p v → ⊥) → (gives : Bool) (close : Place) → last_return gives close r ≡ returns r ++ if_so gives close ReturnPlace
unended stop n gives close = refl
unended (simple (give_back q w) stop) n gives close = absurd (n q (is_some w) refl)
unended (simple (give_back q w) (simple s r)) n gives close = ap (λ l. simple_returns (give_back q w) ++ l) (unended (simple s r) (λ p v e. n p v (ap (with_rest (Return q (is_some w))) e)) gives close)
unended (simple (give_back q w) (block b r)) n gives close = ap (λ l. simple_returns (give_back q w) ++ l) (unended (block b r) (λ p v e. n p v (ap (with_rest (Return q (is_some w))) e)) gives close)
unended (simple (give_back q w) (S.choice o e a b r)) n gives close =
    ap (λ l. simple_returns (give_back q w) ++ l) (unended (S.choice o e a b r) (λ p v e. n p v (ap (with_rest (Return q (is_some w))) e)) gives close)
unended (simple (give_back q w) (repeat o e b r)) n gives close = ap (λ l. simple_returns (give_back q w) ++ l) (unended (repeat o e b r) (λ p v e. n p v (ap (with_rest (Return q (is_some w))) e)) gives close)
unended (simple (give_back q w) (S.count o i e t b r)) n gives close =
    ap (λ l. simple_returns (give_back q w) ++ l) (unended (S.count o i e t b r) (λ p v e. n p v (ap (with_rest (Return q (is_some w))) e)) gives close)
unended (simple s r) n gives close = unended r (λ p v e. n p v (ap (with_rest Other) e)) gives close
unended (block b r) n gives close =
    ap (λ l. returns b ++ l) (unended r (λ p v e. n p v (ap (with_rest Other) e)) gives close) ∙ sym (append_assoc (returns b) (returns r) (if_so gives close ReturnPlace))
unended (S.choice o e a b r) n gives close =
    ap (λ l. returns a ++ (returns b ++ l)) (unended r (λ p v e. n p v (ap (with_rest Other) e)) gives close)
    ∙ ap (λ l. returns a ++ l) (sym (append_assoc (returns b) (returns r) (if_so gives close ReturnPlace)))
    ∙ sym (append_assoc (returns a) (returns b ++ returns r) (if_so gives close ReturnPlace))
unended (repeat o e b r) n gives close =
    ap (λ l. returns b ++ l) (unended r (λ p v e. n p v (ap (with_rest Other) e)) gives close) ∙ sym (append_assoc (returns b) (returns r) (if_so gives close ReturnPlace))
unended (S.count o i e t b r) n gives close =
    ap (λ l. returns b ++ l) (unended r (λ p v e. n p v (ap (with_rest Other) e)) gives close) ∙ sym (append_assoc (returns b) (returns r) (if_so gives close ReturnPlace))

-- The returns of a body, from the statements of its row.

but_last : (xs : List Stmt) (y : Stmt) → take (length (xs ++ y ∷ []) - 1) (xs ++ y ∷ []) ≡ xs
but_last xs y =
    let e : length (xs ++ y ∷ []) ≡ length xs + 1 = length-append xs (y ∷ []) in
    take_at xs (y ∷ []) (length (xs ++ y ∷ []) - 1) (omega (arith, e))

function_ended : (gives : Bool) (close : Place) (r : Row) (f : Frame) (p : Place) (v : Bool) (b : ℕ) (q : Option ℕ) (n m : ℕ) → Ended r f p v
    → function_returns gives close (Return p v) (stmts b q n m (row_code r f)) ≡ last_return gives close r
function_ended gives close r f p v b q n m x =
    let c : Code = x.code in
    let last : Code = act p (C.give_back x.value) done in
    let xs : List Stmt = stmts b q n m c in
    let split : stmts b q n m (row_code r f) ≡ xs ++ stmts b q (n + count c) (m + weights (terms c)) last = ap (stmts b q n m) x.is ∙ stmts_join b q n m c last in
    ap (λ l. flat_map returned (take (length l - 1) l) ++ fit v gives p) split
    ∙ ap (λ l. flat_map returned l ++ fit v gives p) (but_last xs _)
    ∙ ap (λ l. l ++ fit v gives p) (returned_stmts b q n m c)
    ∙ sym (x.faults gives close)

function_told : (gives : Bool) (close : Place) (r : Row) (f : Frame) (b : ℕ) (q : Option ℕ) (n m : ℕ) → PlainRow r
    → function_returns gives close (ending r) (stmts b q n m (row_code r f)) ≡ last_return gives close r
function_told gives close r f b q n m h = go (ending r) refl
  where
    all : flat_map returned (stmts b q n m (row_code r f)) ≡ returns r
    all = returned_stmts b q n m (row_code r f) ∙ returned_row r f h

    go : (e : Ending) → ending r ≡ e → function_returns gives close e (stmts b q n m (row_code r f)) ≡ last_return gives close r
    go Empty i = ap (λ l. l ++ if_so gives close ReturnPlace) all ∙ sym (unended r (λ p v e. clash_empty p v (sym i ∙ e)) gives close)
    go (Return p v) i = function_ended gives close r f p v b q n m (ended r f p v h i)
    go Other i = ap (λ l. l ++ if_so gives close ReturnPlace) all ∙ sym (unended r (λ p v e. clash_other p v (sym i ∙ e)) gives close)

pub returns_told : (h : Head) (f : Frame) (b : ℕ) (q : Option ℕ) (n m : ℕ) → PlainRow h.block.row
    → body_returns h.process h.gives h.block.close (ending h.block.row) (stmts b q n m (row_code h.block.row f)) ≡ return_faults h
returns_told h f b q n m plain_row = go h.process
  where
    go : (process : Bool) → body_returns process h.gives h.block.close (ending h.block.row) (stmts b q n m (row_code h.block.row f))
        ≡ (if process then returns h.block.row else last_return h.gives h.block.close h.block.row)
    go true = returned_stmts b q n m (row_code h.block.row f) ∙ returned_row h.block.row f plain_row
    go false = function_told h.gives h.block.close h.block.row f b q n m plain_row
