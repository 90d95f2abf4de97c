-- Laws of a work list.
use Rattle.std.proofs.Common.{◌≡◌, ℕ, zero, suc, ◌+◌, ◌*◌, ◌<◌, ◌≤◌, List, [], ◌∷◌, ◌++◌, Bool, true, false, ◌↔◌, refl, sym, subst, ap, arith, inl, inr, ◌⊎◌, ◌∙◌, length, get_or, true≢false, set, take, replicate}
use Rattle.std.specs.Prelude.{IsTrue, if◌then◌else◌}
use Rattle.std.proofs.lemmas.Bool.{cases_Bool}
use Rattle.std.proofs.lemmas.List.{take_more}
use Rattle.ppd_ast.specs.Members.{has, AreBelow}
use Rattle.ppd_ast.proofs.Members.{has_first, has_later, has_cons}
use Rattle.ppd_sets.specs.Reach.{Reached, start, next}
use Rattle.ppd_sets.specs.WorkList.{WorkList, work, with_mark, with_marks, is_marked, AreRowsBelow}

-- ---- how much work is left

-- how many numbers have no mark
abbrev pub unmarked : List Bool → ℕ
unmarked [] = 0
unmarked (b ∷ bs) = (if b then 0 else 1) + unmarked bs

-- the work that is left
abbrev pub work_left : WorkList → ℕ
work_left w = 2 * unmarked w.marks + length w.todo

-- ---- marks

marked_set : (marks : List Bool) (x : ℕ) → x < length marks → IsTrue (is_marked (set marks x true) x)
marked_set [] x h = absurd (omega arith)
marked_set (b ∷ bs) zero h = refl
marked_set (b ∷ bs) (suc x) h = marked_set bs x (omega arith)

marked_still : (marks : List Bool) (x y : ℕ) → IsTrue (is_marked marks y) → IsTrue (is_marked (set marks x true) y)
marked_still [] x y h = absurd (true≢false (sym h))
marked_still (b ∷ bs) zero zero h = refl
marked_still (b ∷ bs) zero (suc y) h = h
marked_still (b ∷ bs) (suc x) zero h = h
marked_still (b ∷ bs) (suc x) (suc y) h = marked_still bs x y h

marked_by : (marks : List Bool) (x y : ℕ) → IsTrue (is_marked (set marks x true) y) → IsTrue (is_marked marks y) ⊎ (x ≡ y)
marked_by [] x y h = absurd (true≢false (sym h))
marked_by (b ∷ bs) zero zero h = inr refl
marked_by (b ∷ bs) zero (suc y) h = inl h
marked_by (b ∷ bs) (suc x) zero h = inl h
marked_by (b ∷ bs) (suc x) (suc y) h = elim (marked_by bs x y h) [ inl m ↦ inl m | inr e ↦ inr (ap suc e) ]

marked_there : (marks : List Bool) (x : ℕ) → IsTrue (is_marked marks x) → x < length marks
marked_there [] x h = absurd (true≢false (sym h))
marked_there (b ∷ bs) zero h = omega arith
marked_there (b ∷ bs) (suc x) h = let below : x < length bs = marked_there bs x h in omega arith

length_set : (marks : List Bool) (x : ℕ) → length (set marks x true) ≡ length marks
length_set [] x = refl
length_set (b ∷ bs) zero = refl
length_set (b ∷ bs) (suc x) = ap suc (length_set bs x)

unmarked_set : (marks : List Bool) (x : ℕ) → x < length marks → is_marked marks x ≡ false → unmarked (set marks x true) + 1 ≡ unmarked marks
unmarked_set [] x h m = absurd (omega arith)
unmarked_set (true ∷ bs) zero h m = absurd (true≢false m)
unmarked_set (false ∷ bs) zero h m = omega arith
unmarked_set (b ∷ bs) (suc x) h m = let less = unmarked_set bs x (omega arith) m in omega (arith, less)

-- ---- one mark

-- what one more number or more change: `xs` are the numbers that are marked
pub record Grows (xs : List ℕ) (w v : WorkList) : Type 0 where
  pub long : length v.marks ≡ length w.marks
  pub kept : (y : ℕ) → IsTrue (is_marked w.marks y) → IsTrue (is_marked v.marks y)
  pub done : (y : ℕ) → IsTrue (has xs y) → IsTrue (is_marked v.marks y)
  pub from : (y : ℕ) → IsTrue (is_marked v.marks y) → IsTrue (is_marked w.marks y) ⊎ IsTrue (has xs y)
  pub listed : (y : ℕ) → IsTrue (has w.todo y) → IsTrue (has v.todo y)
  pub new : (y : ℕ) → IsTrue (is_marked v.marks y) → IsTrue (is_marked w.marks y) ⊎ IsTrue (has v.todo y)
  pub old : (y : ℕ) → IsTrue (has v.todo y) → IsTrue (has w.todo y) ⊎ IsTrue (has xs y)
  pub less : work_left v ≤ work_left w

if_yes : {A : Type 0} (b : Bool) (x y : A) → b ≡ true → (if b then x else y) ≡ x
if_yes true x y e = refl
if_yes false x y e = absurd (true≢false (sym e))

if_no : {A : Type 0} (b : Bool) (x y : A) → b ≡ false → (if b then x else y) ≡ y
if_no true x y e = absurd (true≢false e)
if_no false x y e = refl

only : (x y : ℕ) → IsTrue (has (x ∷ []) y) → x ≡ y
only x y h = elim (has_cons x y [] h) [ inl e ↦ e | inr f ↦ absurd (true≢false (sym f)) ]

grows_same : (x : ℕ) (w : WorkList) → IsTrue (is_marked w.marks x) → Grows (x ∷ []) w w
grows_same x w m = record {
  long = refl;
  kept = λ y h. h;
  done = λ y h. subst (λ z. IsTrue (is_marked w.marks z)) (only x y h) m;
  from = λ y h. inl h;
  listed = λ y h. h;
  new = λ y h. inl h;
  old = λ y h. inl h;
  less = omega arith;
}

grows_new : (x : ℕ) (w : WorkList) → x < length w.marks → is_marked w.marks x ≡ false → Grows (x ∷ []) w (work (set w.marks x true) (x ∷ w.todo))
grows_new x w h m = record {
  long = length_set w.marks x;
  kept = λ y k. marked_still w.marks x y k;
  done = λ y k. subst (λ z. IsTrue (is_marked (set w.marks x true) z)) (only x y k) (marked_set w.marks x h);
  from = λ y k. elim (marked_by w.marks x y k) [ inl old ↦ inl old | inr e ↦ inr (subst (λ z. IsTrue (has (x ∷ []) z)) e (has_first x [])) ];
  listed = λ y k. has_later x y w.todo k;
  new = λ y k. elim (marked_by w.marks x y k) [ inl old ↦ inl old | inr e ↦ inr (subst (λ z. IsTrue (has (x ∷ w.todo) z)) e (has_first x w.todo)) ];
  old = λ y k. elim (has_cons x y w.todo k) [ inl e ↦ inr (subst (λ z. IsTrue (has (x ∷ []) z)) e (has_first x [])) | inr t ↦ inl t ];
  less = let one = unmarked_set w.marks x h m in omega (arith, one);
}

pub grows_mark : (x : ℕ) (w : WorkList) → x < length w.marks → Grows (x ∷ []) w (with_mark x w)
grows_mark x w h =
    elim (cases_Bool (is_marked w.marks x)) [
      | inl m ↦ subst (Grows (x ∷ []) w) (sym (if_yes (is_marked w.marks x) w (work (set w.marks x true) (x ∷ w.todo)) m)) (grows_same x w m)
      | inr m ↦ subst (Grows (x ∷ []) w) (sym (if_no (is_marked w.marks x) w (work (set w.marks x true) (x ∷ w.todo)) m)) (grows_new x w h m)
    ]

-- ---- more marks

grows_none : (w : WorkList) → Grows [] w w
grows_none w = record {
  long = refl;
  kept = λ y h. h;
  done = λ y h. absurd (true≢false (sym h));
  from = λ y h. inl h;
  listed = λ y h. h;
  new = λ y h. inl h;
  old = λ y h. inl h;
  less = omega arith;
}

grows_then : (x : ℕ) (xs : List ℕ) (w v u : WorkList) → Grows (x ∷ []) w v → Grows xs v u → Grows (x ∷ xs) w u
grows_then x xs w v u g k = record {
  long = k.long ∙ g.long;
  kept = λ y h. k.kept y (g.kept y h);
  done = λ y h. elim (has_cons x y xs h) [ inl e ↦ k.kept y (g.done y (subst (λ z. IsTrue (has (x ∷ []) z)) e (has_first x []))) | inr t ↦ k.done y t ];
  from = λ y h. elim (k.from y h) [ inl m ↦ elim (g.from y m) [ inl o ↦ inl o | inr t ↦ inr (at_first y t) ] | inr t ↦ inr (has_later x y xs t) ];
  listed = λ y h. k.listed y (g.listed y h);
  new = λ y h. elim (k.new y h) [ inl m ↦ elim (g.new y m) [ inl o ↦ inl o | inr t ↦ inr (k.listed y t) ] | inr t ↦ inr t ];
  old = λ y h. elim (k.old y h) [ inl m ↦ elim (g.old y m) [ inl o ↦ inl o | inr t ↦ inr (at_first y t) ] | inr t ↦ inr (has_later x y xs t) ];
  less = let a = g.less in let b = k.less in omega (arith, a, b);
} where
  at_first : (y : ℕ) → IsTrue (has (x ∷ []) y) → IsTrue (has (x ∷ xs) y)
  at_first y t = subst (λ z. IsTrue (has (x ∷ xs) z)) (only x y t) (has_first x xs)

pub grows_marks : (xs : List ℕ) (w : WorkList) → AreBelow (length w.marks) xs → Grows xs w (with_marks xs w)
grows_marks [] w h = grows_none w
grows_marks (x ∷ xs) w h =
    let one : Grows (x ∷ []) w (with_mark x w) = grows_mark x w (h x (has_first x xs)) in
    grows_then x xs w (with_mark x w) (with_marks xs (with_mark x w)) one
    (grows_marks xs (with_mark x w) (λ y k. subst (λ n. y < n) (sym one.long) (h y (has_later x y xs k))))

pub with_marks_push : (xs : List ℕ) (x : ℕ) (w : WorkList) → with_marks (xs ++ x ∷ []) w ≡ with_mark x (with_marks xs w)
with_marks_push [] x w = refl
with_marks_push (y ∷ xs) x w = with_marks_push xs x (with_mark y w)

-- ---- the walk

-- what holds of the marks while there is work to do
pub record Holds (rows : List (List ℕ)) (starts : List ℕ) (w : WorkList) : Type 0 where
  pub long : length w.marks ≡ length rows
  pub sound : (x : ℕ) → IsTrue (is_marked w.marks x) → Reached rows starts x
  pub started : (x : ℕ) → IsTrue (has starts x) → IsTrue (is_marked w.marks x)
  pub listed : (x : ℕ) → IsTrue (has w.todo x) → IsTrue (is_marked w.marks x)
  pub closed : (a b : ℕ) → IsTrue (is_marked w.marks a) → IsTrue (has (get_or rows a []) b) → IsTrue (is_marked w.marks b) ⊎ IsTrue (has w.todo a)

none_marked : (n x : ℕ) → IsTrue (is_marked (replicate n false) x) → ⊥
none_marked zero x h = true≢false (sym h)
none_marked (suc n) zero h = true≢false (sym h)
none_marked (suc n) (suc x) h = none_marked n x h

length_clear : (n : ℕ) → length (replicate n false) ≡ n
length_clear zero = refl
length_clear (suc n) = ap suc (length_clear n)

pub holds_first : (rows : List (List ℕ)) (starts : List ℕ) → AreBelow (length rows) starts → Holds rows starts (with_marks starts (work (replicate (length rows) false) []))
holds_first rows starts below =
    let clear : WorkList = work (replicate (length rows) false) [] in
    let fits : AreBelow (length (replicate (length rows) false)) starts = λ y h. subst (λ n. y < n) (sym (length_clear (length rows))) (below y h) in
    let g : Grows starts clear (with_marks starts clear) = grows_marks starts clear fits in
    record {
      long = g.long ∙ length_clear (length rows);
      sound = λ x h. elim (g.from x h) [ inl m ↦ absurd (none_marked (length rows) x m) | inr s ↦ start s ];
      started = g.done;
      listed = λ x h. elim (g.old x h) [ inl m ↦ absurd (true≢false (sym m)) | inr s ↦ g.done x s ];
      closed = λ a b h k. elim (g.new a h) [ inl m ↦ absurd (none_marked (length rows) a m) | inr t ↦ inr t ];
    }

pub holds_next : (rows : List (List ℕ)) (starts : List ℕ) (x : ℕ) (w : WorkList) → AreRowsBelow rows → Holds rows starts (work w.marks (x ∷ w.todo)) → Holds rows starts (with_marks (get_or rows x []) w)
holds_next rows starts x w below o =
    let fits : AreBelow (length w.marks) (get_or rows x []) = λ y h. subst (λ n. y < n) (sym o.long) (below x y h) in
    let g : Grows (get_or rows x []) w (with_marks (get_or rows x []) w) = grows_marks (get_or rows x []) w fits in
    let here : IsTrue (is_marked w.marks x) = o.listed x (has_first x w.todo) in
    record {
      long = g.long ∙ o.long;
      sound = λ y h. elim (g.from y h) [ inl m ↦ o.sound y m | inr s ↦ next (o.sound x here) s ];
      started = λ y h. g.kept y (o.started y h);
      listed = λ y h. elim (g.old y h) [ inl t ↦ g.kept y (o.listed y (has_later x y w.todo t)) | inr s ↦ g.done y s ];
      closed = λ a b h k. elim (g.new a h) [
        | inl m ↦ elim (o.closed a b m k) [
          | inl n ↦ inl (g.kept b n)
          | inr t ↦ elim (has_cons x a w.todo t) [
            | inl e ↦ inl (g.done b (subst (λ z. IsTrue (has (get_or rows z []) b)) (sym e) k))
            | inr t' ↦ inr (g.listed a t')
          ]
        ]
        | inr t ↦ inr t
      ];
    }

pub less_next : (rows : List (List ℕ)) (starts : List ℕ) (x : ℕ) (w : WorkList) → AreRowsBelow rows → Holds rows starts (work w.marks (x ∷ w.todo)) → work_left (with_marks (get_or rows x []) w) < work_left (work w.marks (x ∷ w.todo))
less_next rows starts x w below o =
    let fits : AreBelow (length w.marks) (get_or rows x []) = λ y h. subst (λ n. y < n) (sym o.long) (below x y h) in
    let g : Grows (get_or rows x []) w (with_marks (get_or rows x []) w) = grows_marks (get_or rows x []) w fits in
    let less = g.less in omega (arith, less)

complete : (rows : List (List ℕ)) (starts : List ℕ) (marks : List Bool) → Holds rows starts (work marks []) → (x : ℕ) → Reached rows starts x → IsTrue (is_marked marks x)
complete rows starts marks o x (start s) = o.started x s
complete rows starts marks o x (next {a = a} r h) =
    elim (o.closed a x (complete rows starts marks o a r) h) [ inl m ↦ m | inr t ↦ absurd (true≢false (sym t)) ]

pub holds_last : (rows : List (List ℕ)) (starts : List ℕ) (marks : List Bool) → Holds rows starts (work marks []) → (x : ℕ) → IsTrue (is_marked marks x) ↔ Reached rows starts x
holds_last rows starts marks o x = (o.sound x, complete rows starts marks o x)

-- ---- for the code

pub has_at : (xs : List ℕ) (i : ℕ) → i < length xs → IsTrue (has xs (get_or xs i 0))
has_at [] i h = absurd (omega arith)
has_at (x ∷ xs) zero h = has_first x xs
has_at (x ∷ xs) (suc i) h = has_later x (get_or xs i 0) xs (has_at xs i (omega arith))

long_if : (b : Bool) (w v : WorkList) → length v.marks ≡ length w.marks → length (if b then w else v).marks ≡ length w.marks
long_if true w v e = refl
long_if false w v e = e

pub with_mark_long : (x : ℕ) (w : WorkList) → length (with_mark x w).marks ≡ length w.marks
with_mark_long x w = long_if (is_marked w.marks x) w (work (set w.marks x true) (x ∷ w.todo)) (length_set w.marks x)

pub with_marks_more : (xs : List ℕ) (i : ℕ) (w v u : WorkList) → i < length xs → v ≡ with_marks (take i xs) w → u ≡ with_mark (get_or xs i 0) v → u ≡ with_marks (take (i + 1) xs) w
with_marks_more xs i w v u h before now =
    now ∙ ap (with_mark (get_or xs i 0)) before ∙ sym (with_marks_push (take i xs) (get_or xs i 0) w) ∙ ap (λ ys. with_marks ys w) (sym (take_more xs i 0 h))

pub row_is : (rows : List (List ℕ)) (a : ℕ) (xs d : List ℕ) → a < length rows → xs ≡ get_or rows a d → xs ≡ get_or rows a []
row_is [] a xs d h e = absurd (omega arith)
row_is (ys ∷ rows) zero xs d h e = e
row_is (ys ∷ rows) (suc a) xs d h e = row_is rows a xs d (omega arith) e

-- before the pop, as the pop leaves it
pub popped : (rows : List (List ℕ)) (starts : List ℕ) (x : ℕ) (before w : WorkList) → Holds rows starts before → before ≡ work w.marks (x ∷ w.todo) → Holds rows starts (work w.marks (x ∷ w.todo))
popped rows starts x before w o e = subst (Holds rows starts) e o

pub popped_below : (rows : List (List ℕ)) (starts : List ℕ) (x : ℕ) (before w : WorkList) → Holds rows starts before → before ≡ work w.marks (x ∷ w.todo) → x < length rows
popped_below rows starts x before w o e =
    let here : Holds rows starts (work w.marks (x ∷ w.todo)) = popped rows starts x before w o e in
    subst (λ n. x < n) here.long (marked_there w.marks x (here.listed x (has_first x w.todo)))

pub popped_fits : (rows : List (List ℕ)) (starts xs : List ℕ) (x : ℕ) (before w : WorkList) → AreRowsBelow rows → Holds rows starts before → before ≡ work w.marks (x ∷ w.todo) → xs ≡ get_or rows x [] → AreBelow (length w.marks) xs
popped_fits rows starts xs x before w below o e is =
    let here : Holds rows starts (work w.marks (x ∷ w.todo)) = popped rows starts x before w o e in
    λ y h. subst (λ n. y < n) (sym here.long) (below x y (subst (λ zs. IsTrue (has zs y)) is h))

pub went_on : (rows : List (List ℕ)) (starts xs : List ℕ) (x : ℕ) (before w after : WorkList) → AreRowsBelow rows → Holds rows starts before → before ≡ work w.marks (x ∷ w.todo) → xs ≡ get_or rows x [] → after ≡ with_marks xs w → Holds rows starts after
went_on rows starts xs x before w after below o e is now =
    subst (Holds rows starts) (sym (now ∙ ap (λ zs. with_marks zs w) is)) (holds_next rows starts x w below (popped rows starts x before w o e))

pub went_less : (rows : List (List ℕ)) (starts xs : List ℕ) (x : ℕ) (before w after : WorkList) → AreRowsBelow rows → Holds rows starts before → before ≡ work w.marks (x ∷ w.todo) → xs ≡ get_or rows x [] → after ≡ with_marks xs w → work_left after < work_left before
went_less rows starts xs x before w after below o e is now =
    let less : work_left (with_marks (get_or rows x []) w) < work_left (work w.marks (x ∷ w.todo)) = less_next rows starts x w below (popped rows starts x before w o e) in
    let a : work_left after ≡ work_left (with_marks (get_or rows x []) w) = ap work_left (now ∙ ap (λ zs. with_marks zs w) is) in
    let b : work_left before ≡ work_left (work w.marks (x ∷ w.todo)) = ap work_left e in
    subst (λ n. n < work_left before) (sym a) (subst (λ n. work_left (with_marks (get_or rows x []) w) < n) (sym b) less)

pub all_done : (rows : List (List ℕ)) (starts : List ℕ) (w : WorkList) → Holds rows starts w → w.todo ≡ [] → (x : ℕ) → IsTrue (is_marked w.marks x) ↔ Reached rows starts x
all_done rows starts w o e = holds_last rows starts w.marks (subst (λ t. Holds rows starts (work w.marks t)) e o)
