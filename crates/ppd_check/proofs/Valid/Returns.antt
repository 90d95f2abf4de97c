-- A body's core statements end with a `Return` or an `End`, and none of those before is one.
use Rattle.std.proofs.Common.{◌≡◌, refl, sym, ap, ◌∙◌, subst, ℕ, ◌+◌, ◌-◌, arith, Bool, true, false, not, ◌&&◌, ◌||◌, if◌then◌else◌, List, [], ◌∷◌, ◌++◌, length, Option, Some, None, is_some, option_map}
use Rattle.std.specs.Prelude.{slice_get, IsSomeAnd, ⊤}
use Rattle.std.specs.List.{AllByRecursion}
use Rattle.std.proofs.lemmas.List.{length-append, append_assoc}
use Rattle.ppd_ast.specs.declared.program.Place.{Place}
use Rattle.ppd_ast.specs.declared.program.Body.{Body}
use Rattle.ppd_ast.specs.declared.program.Stmt.{Stmt}
use Rattle.ppd_ast.specs.Term.{Term}
use Rattle.ppd_ast.specs.Valid.{EndsBody, IsEnding, last_of}
use Rattle.ppd_check_names.specs.declared.fault.Cause.TheVariants.{ReturnPlace}
use Rattle.ppd_check_names.specs.declared.frame.Frame.{Frame}
use Rattle.ppd_check_names.specs.Faults.{if_so}
use Rattle.ppd_check_names.specs.Names.{Scope}
use Rattle.ppd_check_stmts.specs.Code.{Code, Act, Spot, done, act, choice, loop, join, acts, count}
use Rattle.ppd_check_stmts.specs.Code as C
use Rattle.ppd_check_stmts.specs.Table.{weights, terms, kind, numbers, stmts, root}
use Rattle.ppd_check_stmts.specs.Statements.{spot_of, put, store_acts, acts_of, code_of, row_code, opened, with_scopes_of, after_row, after, place_of, code_of_any}
use Rattle.ppd_check_stmts.proofs.Vocabulary.{after_any}
use Rattle.ppd_check_names.specs.Frames.{declared}
use Rattle.ppd_check_names.specs.Syntax as S
use Rattle.ppd_check_names.specs.Syntax.{Simple, Row, Value}
use Rattle.ppd_check.specs.Sources.{simple_returns, returns, last_return, ends_with_return, head_code, entry, return_faults}
use Rattle.ppd_check_names.specs.Globals.{Head}
use Rattle.ppd_check_stmts.proofs.Table.Joined.{numbers_join, stmts_join}
use Rattle.ppd_check_stmts.proofs.Rows.Nested.{join_done}
use Rattle.ppd_check_stmts.proofs.Rows.Walking.{join_assoc}
use Rattle.ppd_check_stmts.proofs.Table.Writing.{length_stmts}
use Rattle.ppd_check.proofs.Valid.Facts.{acts_in}
use Rattle.ppd_check.proofs.Valid.Headers.{Passes, PassesIfAny, HeadersPass}
use Rattle.ppd_check.proofs.Valid.Lists.{Stands, all_parts, nil_parts, some_and, stands_append}
use Rattle.ppd_check.proofs.Limits.Said.{all_join}

-- Statements that end no body.

abbrev pub IsInner : Act → Type 0
IsInner (C.set t e) = ⊤
IsInner (C.clear base n) = ⊤
IsInner (C.call f args into) = ⊤
IsInner (C.give_back v) = ⊥
IsInner (C.take j) = ⊤
IsInner (C.give j) = ⊤
IsInner (C.send j e) = ⊤
IsInner (C.receive j d) = ⊤
IsInner (C.print e) = ⊤
IsInner (C.assert e) = ⊤
IsInner C.finish = ⊥

abbrev pub AreInner : List Act → Type 0
AreInner list = AllByRecursion IsInner list

acts_in_join : (c d : Code) → acts_in (join c d) ≡ acts_in c ++ acts_in d
acts_in_join done d = refl
acts_in_join (act p a c) d = ap (λ l. a ∷ l) (acts_in_join c d)
acts_in_join (choice p e x y c) d =
    ap (λ l. acts_in x ++ (acts_in y ++ l)) (acts_in_join c d)
    ∙ ap (λ l. acts_in x ++ l) (sym (append_assoc (acts_in y) (acts_in c) (acts_in d)))
    ∙ sym (append_assoc (acts_in x) (acts_in y ++ acts_in c) (acts_in d))
acts_in_join (loop p e x c) d =
    ap (λ l. acts_in x ++ l) (acts_in_join c d) ∙ sym (append_assoc (acts_in x) (acts_in c) (acts_in d))

acts_in_acts : (p : Place) (list : List Act) → acts_in (acts p list) ≡ list
acts_in_acts p [] = refl
acts_in_acts p (a ∷ list) = ap (λ l. a ∷ l) (acts_in_acts p list)

code_join : (c d : Code) → AreInner (acts_in c) → AreInner (acts_in d) → AreInner (acts_in (join c d))
code_join c d h i = subst AreInner (sym (acts_in_join c d)) (all_join IsInner (acts_in c) (acts_in d) h i)

put_inner : (s : List Scope) (c : ℕ) (v : Value) → IsInner (put s c v)
put_inner s c (S.plain e) = tt
put_inner s c (S.result f args) = tt
put_inner s c (S.received x) = tt

store_inner : (m : Spot) (v : Value) (f : Frame) → AreInner (store_acts m v f)
store_inner m (S.plain e) f = (tt, tt)
store_inner (C.local c) (S.result g args) f = (tt, tt)
store_inner (C.local c) (S.received x) f = (tt, tt)
store_inner m (S.result g args) f = (tt, (tt, tt))
store_inner m (S.received x) f = (tt, (tt, tt))

acts_inner : (s : Simple) (f : Frame) → Passes s → AreInner (acts_of s f)
acts_inner (S.fresh x v) f h = (put_inner (declared None f x).scopes f.cells v, tt)
acts_inner (S.array x n) f h = (tt, tt)
acts_inner (S.store g v) f h = store_inner (spot_of f.scopes g) v f
acts_inner (S.change g op e) f h = (tt, tt)
acts_inner (S.call g args) f h = (tt, tt)
acts_inner (S.give_back p v) f h = absurd (cc)
acts_inner (S.take p x) f h = (tt, tt)
acts_inner (S.give p x) f h = (tt, tt)
acts_inner (S.send p x e) f h = (tt, tt)
acts_inner (S.print p e) f h = (tt, tt)
acts_inner (S.assert p e) f h = (tt, tt)

code_inner : (s : Simple) (f : Frame) → Passes s → AreInner (acts_in (code_of s f))
code_inner s f h = subst AreInner (sym (acts_in_acts (place_of s) (acts_of s f))) (acts_inner s f h)

any_inner : (o : Option Simple) (f : Frame) → PassesIfAny o → AreInner (acts_in (code_of_any o f))
any_inner None f h = tt
any_inner (Some s) f h = code_inner s f h

-- a row without a `return`
row_inner : (r : Row) (f : Frame) → HeadersPass r → returns r ≡ [] → AreInner (acts_in (row_code r f))
row_inner S.stop f h e = tt
row_inner (S.simple s r) f h e =
    let n = nil_parts (simple_returns s) (returns r) e in
    code_join (code_of s f) (row_code r (after s f)) (code_inner s f n.0) (row_inner r (after s f) h n.1)
row_inner (S.block b r) f h e =
    let n = nil_parts (returns b) (returns r) e in
    code_join (row_code b (opened f)) (row_code r (with_scopes_of f (after_row b (opened f)))) (row_inner b (opened f) h.0 n.0) (row_inner r (with_scopes_of f (after_row b (opened f))) h.1 n.1)
row_inner (S.choice p t a b r) f h e =
    let n = nil_parts (returns a) (returns b ++ returns r) e in
    let m = nil_parts (returns b) (returns r) n.1 in
    all_join IsInner (acts_in (row_code a f)) _ (row_inner a f h.0 n.0)
    (all_join IsInner (acts_in (row_code b (after_row a f))) _ (row_inner b (after_row a f) h.1 m.0) (row_inner r (after_row b (after_row a f)) h.2 m.1))
row_inner (S.repeat p t b r) f h e =
    let n = nil_parts (returns b) (returns r) e in
    all_join IsInner (acts_in (row_code b f)) _ (row_inner b f h.0 n.0) (row_inner r (after_row b f) h.1 n.1)
row_inner (S.count p start t step b r) f h e =
    let n = nil_parts (returns b) (returns r) e in
    let g : Frame = after_any start (opened f) in
    code_join (code_of_any start (opened f)) _ (any_inner start (opened f) h.0)
    (all_join IsInner (acts_in (join (row_code b g) (code_of_any step (after_row b g)))) _
    (code_join (row_code b g) (code_of_any step (after_row b g)) (row_inner b g h.2 n.0) (any_inner step (after_row b g) h.1))
    (row_inner r (with_scopes_of f (after_row b g)) h.3 n.1))

-- The last statement.

-- what ends a body, which is a process or not and gives a value or none
abbrev pub Closes : (process gives : Bool) → Act → Type 0
Closes process gives (C.give_back v) = (process ≡ false) × (is_some v ≡ gives)
Closes process gives C.finish = process ≡ true
Closes process gives a = ⊥

pub record EndsBy (Ends : Act → Type 0) (c : Code) : Type 0 where
  pub front : Code
  pub place : Place
  pub last : Act
  pub whole : c ≡ join front (act place last done)
  pub inside : AreInner (acts_in front)
  pub ends : Ends last

ends_behind : (Ends : Act → Type 0) (c d : Code) → AreInner (acts_in c) → EndsBy Ends d → EndsBy Ends (join c d)
ends_behind Ends c d h i = record {
  front = join c i.front;
  place = i.place;
  last = i.last;
  whole = ap (join c) i.whole ∙ sym (join_assoc c i.front (act i.place i.last done));
  inside = code_join c i.front h i.inside;
  ends = i.ends;
}

-- a last `return` gives a value just where its function does
rightly : (gives : Bool) (v : Option Value) (p : Place) → if_so (not (is_some v && gives || not (is_some v) && not gives)) p ReturnPlace ≡ [] → is_some v ≡ gives
rightly true (Some v) p h = refl
rightly false None p h = refl
rightly true None p h = absurd (cc)
rightly false (Some v) p h = absurd (cc)

return_ends : (gives : Bool) (p : Place) (v : Option Value) (f : Frame) → is_some v ≡ gives → EndsBy (Closes false gives) (join (code_of (S.give_back p v) f) done)
return_ends gives p None f h = record { front = done; place = p; last = _; whole = refl; inside = tt; ends = (refl, h) }
return_ends gives p (Some (S.plain e)) f h = record { front = done; place = p; last = _; whole = refl; inside = tt; ends = (refl, h) }
return_ends gives p (Some (S.result g args)) f h = record { front = act p (put f.scopes f.cells (S.result g args)) done; place = p; last = _; whole = refl; inside = (tt, tt); ends = (refl, h) }
return_ends gives p (Some (S.received x)) f h = record { front = act p (put f.scopes f.cells (S.received x)) done; place = p; last = _; whole = refl; inside = (tt, tt); ends = (refl, h) }

-- the row of a function that ends with a `return`
row_ends : (gives : Bool) (close : Place) (r : Row) (f : Frame) → HeadersPass r → last_return gives close r ≡ [] → ends_with_return r ≡ true → EndsBy (Closes false gives) (row_code r f)
row_ends gives close S.stop f h e l = absurd (cc)
row_ends gives close (S.simple (S.give_back p v) S.stop) f h e l = return_ends gives p v f (rightly gives v p e)
row_ends gives close (S.simple s r) f h e l =
    let n = nil_parts (simple_returns s) (last_return gives close r) e in
    ends_behind (Closes false gives) (code_of s f) (row_code r (after s f)) (code_inner s f n.0) (row_ends gives close r (after s f) h n.1 l)
row_ends gives close (S.block b r) f h e l =
    let n = nil_parts (returns b) (last_return gives close r) e in
    ends_behind (Closes false gives) (row_code b (opened f)) _ (row_inner b (opened f) h.0 n.0) (row_ends gives close r (with_scopes_of f (after_row b (opened f))) h.1 n.1 l)
row_ends gives close (S.choice p t a b r) f h e l =
    let n = nil_parts (returns a) (returns b ++ last_return gives close r) e in
    let m = nil_parts (returns b) (last_return gives close r) n.1 in
    ends_behind (Closes false gives) (choice p _ (row_code a f) (row_code b (after_row a f)) done) _
    (all_join IsInner (acts_in (row_code a f)) _ (row_inner a f h.0 n.0) (all_join IsInner (acts_in (row_code b (after_row a f))) [] (row_inner b (after_row a f) h.1 m.0) tt))
    (row_ends gives close r (after_row b (after_row a f)) h.2 m.1 l)
row_ends gives close (S.repeat p t b r) f h e l =
    let n = nil_parts (returns b) (last_return gives close r) e in
    ends_behind (Closes false gives) (loop p _ (row_code b f) done) _ (all_join IsInner (acts_in (row_code b f)) [] (row_inner b f h.0 n.0) tt)
    (row_ends gives close r (after_row b f) h.1 n.1 l)
row_ends gives close (S.count p start t step b r) f h e l =
    let n = nil_parts (returns b) (last_return gives close r) e in
    let g : Frame = after_any start (opened f) in
    let turn : Code = join (row_code b g) (code_of_any step (after_row b g)) in
    ends_behind (Closes false gives) (code_of_any start (opened f)) _ (any_inner start (opened f) h.0)
    (ends_behind (Closes false gives) (loop p _ turn done) _
    (all_join IsInner (acts_in turn) [] (code_join (row_code b g) (code_of_any step (after_row b g)) (row_inner b g h.2 n.0) (any_inner step (after_row b g) h.1)) tt)
    (row_ends gives close r (with_scopes_of f (after_row b g)) h.3 n.1 l))

none_gives : (gives : Bool) (close : Place) → if_so gives close ReturnPlace ≡ [] → false ≡ gives
none_gives true close e = absurd (cc)
none_gives false close e = refl

-- the row of a function that ends with no `return`
row_open : (gives : Bool) (close : Place) (r : Row) (f : Frame) → HeadersPass r → last_return gives close r ≡ [] → ends_with_return r ≡ false → AreInner (acts_in (row_code r f)) × (false ≡ gives)
row_open gives close S.stop f h e l = (tt, none_gives gives close e)
row_open gives close (S.simple (S.give_back p v) S.stop) f h e l = absurd (cc)
row_open gives close (S.simple s r) f h e l =
    let n = nil_parts (simple_returns s) (last_return gives close r) e in
    let i = row_open gives close r (after s f) h n.1 l in
    (code_join (code_of s f) (row_code r (after s f)) (code_inner s f n.0) i.0, i.1)
row_open gives close (S.block b r) f h e l =
    let n = nil_parts (returns b) (last_return gives close r) e in
    let i = row_open gives close r (with_scopes_of f (after_row b (opened f))) h.1 n.1 l in
    (code_join (row_code b (opened f)) _ (row_inner b (opened f) h.0 n.0) i.0, i.1)
row_open gives close (S.choice p t a b r) f h e l =
    let n = nil_parts (returns a) (returns b ++ last_return gives close r) e in
    let m = nil_parts (returns b) (last_return gives close r) n.1 in
    let i = row_open gives close r (after_row b (after_row a f)) h.2 m.1 l in
    (all_join IsInner (acts_in (row_code a f)) _ (row_inner a f h.0 n.0) (all_join IsInner (acts_in (row_code b (after_row a f))) _ (row_inner b (after_row a f) h.1 m.0) i.0), i.1)
row_open gives close (S.repeat p t b r) f h e l =
    let n = nil_parts (returns b) (last_return gives close r) e in
    let i = row_open gives close r (after_row b f) h.1 n.1 l in
    (all_join IsInner (acts_in (row_code b f)) _ (row_inner b f h.0 n.0) i.0, i.1)
row_open gives close (S.count p start t step b r) f h e l =
    let n = nil_parts (returns b) (last_return gives close r) e in
    let g : Frame = after_any start (opened f) in
    let i = row_open gives close r (with_scopes_of f (after_row b g)) h.3 n.1 l in (
      code_join (code_of_any start (opened f)) _ (any_inner start (opened f) h.0)
          (all_join IsInner (acts_in (join (row_code b g) (code_of_any step (after_row b g)))) _
          (code_join (row_code b g) (code_of_any step (after_row b g)) (row_inner b g h.2 n.0) (any_inner step (after_row b g) h.1)) i.0),
      i.1,
    )

ends_by : (process gives ends : Bool) (r : Row) (f : Frame) (close : Place) → HeadersPass r → (if process then returns r else last_return gives close r) ≡ [] → ends_with_return r ≡ ends
    → EndsBy (Closes process gives) (join (row_code r f) (if process then act close C.finish done else if ends then done else act close (C.give_back None) done))
ends_by true gives ends r f close h e l = record { front = row_code r f; place = close; last = C.finish; whole = refl; inside = row_inner r f h e; ends = refl }
ends_by false gives true r f close h e l = subst (EndsBy (Closes false gives)) (sym (join_done (row_code r f))) (row_ends gives close r f h e l)
ends_by false gives false r f close h e l =
    let i = row_open gives close r f h e l in
    record { front = row_code r f; place = close; last = C.give_back None; whole = refl; inside = i.0; ends = (refl, i.1) }

-- the core statements of a function or a process that breaks no rule of its returns
pub head_ends : (scope : Scope) (h : Head) → HeadersPass h.block.row → return_faults h ≡ [] → EndsBy (Closes h.process h.gives) (head_code scope h)
head_ends scope h p e = ends_by h.process h.gives (ends_with_return h.block.row) h.block.row (entry scope h) h.block.close p e refl

-- In the table.

-- a `Return` or an `End` stands in a row only where it ends the body, when the row's first number is n
abbrev pub EndsRight : Body → (n : ℕ) → Code → Type 0
EndsRight b n done = ⊤
EndsRight b n (act p a c) = ((m : ℕ) → EndsBody b n (kind m a)) × EndsRight b (n + 1) c
EndsRight b n (choice p e x y c) = EndsRight b (n + 1) x × EndsRight b (n + 1 + count x) y × EndsRight b (n + 1 + count x + count y) c
EndsRight b n (loop p e x c) = EndsRight b (n + 1) x × EndsRight b (n + 1 + count x) c

inner_right : (b : Body) (k m : ℕ) (a : Act) → IsInner a → EndsBody b k (kind m a)
inner_right b k m (C.set t e) h = tt
inner_right b k m (C.clear base n) h = tt
inner_right b k m (C.call f args into) h = tt
inner_right b k m (C.give_back v) h = absurd h
inner_right b k m (C.take j) h = tt
inner_right b k m (C.give j) h = tt
inner_right b k m (C.send j e) h = tt
inner_right b k m (C.receive j d) h = tt
inner_right b k m (C.print e) h = tt
inner_right b k m (C.assert e) h = tt
inner_right b k m C.finish h = absurd h

front_right : (b : Body) (n : ℕ) (c : Code) → AreInner (acts_in c) → EndsRight b n c
front_right b n done h = tt
front_right b n (act p a c) h = (λ m. inner_right b n m a h.0, front_right b (n + 1) c h.1)
front_right b n (choice p e x y c) h =
    let i = all_parts IsInner (acts_in x) (acts_in y ++ acts_in c) h in
    let j = all_parts IsInner (acts_in y) (acts_in c) i.1 in
    (front_right b (n + 1) x i.0, front_right b (n + 1 + count x) y j.0, front_right b (n + 1 + count x + count y) c j.1)
front_right b n (loop p e x c) h =
    let i = all_parts IsInner (acts_in x) (acts_in c) h in
    (front_right b (n + 1) x i.0, front_right b (n + 1 + count x) c i.1)

right_join : (b : Body) (n k : ℕ) (c d : Code) → n + count c ≡ k → EndsRight b n c → EndsRight b k d → EndsRight b n (join c d)
right_join b n k done d e h i = let f : k ≡ n = omega (arith, e) in subst (λ j. EndsRight b j d) f i
right_join b n k (act p a c) d e h i = (h.0, right_join b (n + 1) k c d (omega (arith, e)) h.1 i)
right_join b n k (choice p t x y c) d e h i = (h.0, h.1, right_join b (n + 1 + count x + count y) k c d (omega (arith, e)) h.2 i)
right_join b n k (loop p t x c) d e h i = (h.0, right_join b (n + 1 + count x) k c d (omega (arith, e)) h.1 i)

seam : (xs : List ℕ) (x : ℕ) → slice_get (xs ++ x ∷ []) (length xs) ≡ Some x
seam [] x = refl
seam (y ∷ xs) x = seam xs x

last_is : (xs : List ℕ) (x : ℕ) → last_of (xs ++ x ∷ []) ≡ Some x
last_is xs x =
    let e : length (xs ++ x ∷ []) - 1 ≡ length xs = omega (arith, length-append xs (x ∷ [])) in
    ap (slice_get (xs ++ x ∷ [])) e ∙ seam xs x

same_some : (m : ℕ) (v : Option Term) → is_some (option_map (root m) v) ≡ is_some v
same_some m None = refl
same_some m (Some t) = refl

closing_right : (b : Body) (k m : ℕ) (a : Act) → Closes b.process b.value a → last_of b.top ≡ Some k → EndsBody b k (kind m a)
closing_right b k m (C.give_back v) h l = (h.0, same_some m v ∙ h.1, l)
closing_right b k m C.finish h l = (h, l)
closing_right b k m a h l = absurd h

closing_ends : (process gives : Bool) (m : ℕ) (a : Act) → Closes process gives a → IsEnding (kind m a)
closing_ends process gives m (C.give_back v) h = tt
closing_ends process gives m C.finish h = tt
closing_ends process gives m a h = absurd h

last_number : (n : ℕ) (front c : Code) (p : Place) (a : Act) → c ≡ join front (act p a done) → last_of (numbers n c) ≡ Some (n + count front)
last_number n front c p a e =
    ap (λ d. last_of (numbers n d)) e ∙ ap last_of (numbers_join n front (act p a done)) ∙ last_is (numbers n front) (n + count front)

-- a body's row, and the body's last statement
pub body_right : (b : Body) (n : ℕ) (c : Code) → b.top ≡ numbers n c → EndsBy (Closes b.process b.value) c → EndsRight b n c
body_right b n c t e =
    let l : last_of b.top ≡ Some (n + count e.front) = ap last_of t ∙ last_number n e.front c e.place e.last e.whole in
    subst (EndsRight b n) (sym e.whole)
    (right_join b n (n + count e.front) e.front (act e.place e.last done) refl (front_right b n e.front e.inside) (λ m. closing_right b (n + count e.front) m e.last e.ends l, tt))

pub body_ending : (all : List Stmt) (j n m : ℕ) (q : Option ℕ) (process gives : Bool) (c : Code) → Stands all n (stmts j q n m c) → EndsBy (Closes process gives) c
    → IsSomeAnd (last_of (numbers n c)) (λ i. IsSomeAnd (slice_get all i) (λ s. IsEnding s.kind))
body_ending all j n m q process gives c h e =
    let k : ℕ = n + count e.front in
    let w : ℕ = m + weights (terms e.front) in
    let tail : Code = act e.place e.last done in
    let split : stmts j q n m c ≡ stmts j q n m e.front ++ stmts j q k w tail = ap (stmts j q n m) e.whole ∙ stmts_join j q n m e.front tail in
    let parts = stands_append all (stmts j q n m e.front) (stmts j q k w tail) n (subst (Stands all n) split h) in
    let there : Stands all k (stmts j q k w tail) = subst (λ i. Stands all (n + i) (stmts j q k w tail)) (length_stmts j q n m e.front) parts.1 in
    some_and (last_of (numbers n c)) k (λ i. IsSomeAnd (slice_get all i) (λ s. IsEnding s.kind)) (last_number n e.front c e.place e.last e.whole)
    (some_and (slice_get all k) _ (λ s. IsEnding s.kind) there.0 (closing_ends process gives w e.last e.ends))
