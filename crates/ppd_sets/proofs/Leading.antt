-- The closed rows lead exactly where steps lead.
use Rattle.std.proofs.Common.{◌≡◌, ◌<◌, ℕ, zero, suc, arith, List, [], ◌∷◌, ◌++◌, Bool, true, false, not, ◌↔◌, refl, sym, subst, inl, inr, ◌⊎◌, length, map, true≢false}
use Rattle.std.specs.Prelude.{IsTrue, if◌then◌else◌, get_or}
use Rattle.std.specs.List.{range_with_len, filter, list_any}
use Rattle.std.proofs.lemmas.Bool.{or_left, or_right, or_cases, cases_Bool, not_from_false}
use Rattle.ppd_ast.specs.Members.{has, those}
use Rattle.ppd_ast.proofs.Members.{has_cons, has_left, has_right, has_cases, has_filter, filter_has, any_from, any_gives, from_zero, filter_same_in}
use Rattle.ppd_ast.proofs.Those.{both}
use Rattle.ppd_sets.specs.Reach.{Reached, start, next, closure, leads}
use Rattle.ppd_sets.proofs.FlowWords.{through, closure_through}
use Rattle.ppd_sets.specs.WorkList.{is_marked}

-- only a row that is there has something
pub row_there : (rows : List (List ℕ)) (a b : ℕ) → IsTrue (has (get_or rows a []) b) → a < length rows
row_there [] a b h = absurd (true≢false (sym h))
row_there (xs ∷ rows) zero b h = omega arith
row_there (xs ∷ rows) (suc a) b h = let below : a < length rows = row_there rows a b h in omega arith

-- ---- one row

from_either : (c : Bool) (xs ys : List ℕ) (b : ℕ) → IsTrue (has (if c then xs else ys) b) → (IsTrue c × IsTrue (has xs b)) ⊎ IsTrue (has ys b)
from_either true xs ys b h = inl (refl, h)
from_either false xs ys b h = inr h

to_either : (c : Bool) (xs ys : List ℕ) (b : ℕ) → IsTrue (has xs b) → IsTrue (has ys b) → IsTrue (has (if c then xs else ys) b)
to_either true xs ys b h k = h
to_either false xs ys b h k = k

to_first : (c : Bool) (xs ys : List ℕ) (b : ℕ) → IsTrue c → IsTrue (has xs b) → IsTrue (has (if c then xs else ys) b)
to_first true xs ys b t h = h
to_first false xs ys b t h = absurd (true≢false (sym t))

new_in : List ℕ → List ℕ → List ℕ
new_in via xs = filter (λ x. not (has xs x)) via

through_cases : (n : ℕ) (via xs : List ℕ) (b : ℕ) → IsTrue (has (through n via xs) b) → IsTrue (has xs b) ⊎ (IsTrue (has xs n) × IsTrue (has via b))
unfolding new_in
through_cases n via xs b h =
    elim (from_either (has xs n) (xs ++ new_in via xs) xs b h) [
      | inl both ↦ elim (has_cases xs (new_in via xs) b both.1) [ inl old ↦ inl old | inr new ↦ inr (both.0, (has_filter (λ x. not (has xs x)) via b new).0) ]
      | inr old ↦ inl old
    ]

through_short : (n : ℕ) (via xs : List ℕ) (b : ℕ) → IsTrue (has xs b) → IsTrue (has (through n via xs) b)
unfolding new_in
through_short n via xs b h = to_either (has xs n) (xs ++ new_in via xs) xs b (has_left xs (new_in via xs) b h) h

through_long : (n : ℕ) (via xs : List ℕ) (b : ℕ) → IsTrue (has xs n) → IsTrue (has via b) → IsTrue (has (through n via xs) b)
unfolding new_in
through_long n via xs b h k =
    to_first (has xs n) (xs ++ new_in via xs) xs b h
    (elim (cases_Bool (has xs b)) [
      | inl old ↦ has_left xs (new_in via xs) b old
      | inr new ↦ has_right xs (new_in via xs) b (filter_has (λ x. not (has xs x)) via b k (not_from_false (has xs b) new))
    ])

-- ---- all rows, through one number

abbrev across : List (List ℕ) → ℕ → List (List ℕ)
across rows n = map (through n (get_or rows n [])) rows

row_map : (f : List ℕ → List ℕ) → f [] ≡ [] → (rows : List (List ℕ)) (a : ℕ) → get_or (map f rows) a [] ≡ f (get_or rows a [])
row_map f e [] a = sym e
row_map f e (xs ∷ rows) zero = refl
row_map f e (xs ∷ rows) (suc a) = row_map f e rows a

row_across : (rows : List (List ℕ)) (n a : ℕ) → get_or (across rows n) a [] ≡ through n (get_or rows n []) (get_or rows a [])
row_across rows n a = row_map (through n (get_or rows n [])) refl rows a

Steps : List (List ℕ) → ℕ → ℕ → Type 0
Steps rows a b = IsTrue (has (get_or rows a []) b)

cases : (rows : List (List ℕ)) (n a b : ℕ) → Steps (across rows n) a b → Steps rows a b ⊎ (Steps rows a n × Steps rows n b)
unfolding Steps
cases rows n a b h = through_cases n (get_or rows n []) (get_or rows a []) b (subst (λ xs. IsTrue (has xs b)) (row_across rows n a) h)

short : (rows : List (List ℕ)) (n a b : ℕ) → Steps rows a b → Steps (across rows n) a b
unfolding Steps
short rows n a b h = subst (λ xs. IsTrue (has xs b)) (sym (row_across rows n a)) (through_short n (get_or rows n []) (get_or rows a []) b h)

long : (rows : List (List ℕ)) (n a b : ℕ) → Steps rows a n → Steps rows n b → Steps (across rows n) a b
unfolding Steps
long rows n a b h k = subst (λ xs. IsTrue (has xs b)) (sym (row_across rows n a)) (through_long n (get_or rows n []) (get_or rows a []) b h k)

-- what leads to n and on from n leads across it
IsClosedAt : List (List ℕ) → ℕ → Type 0
IsClosedAt rows n = (a b : ℕ) → Steps rows a n → Steps rows n b → Steps rows a b

to_it : (rows : List (List ℕ)) (n a : ℕ) → Steps (across rows n) a n → Steps rows a n
to_it rows n a h = elim (cases rows n a n h) [ inl x ↦ x | inr y ↦ y.0 ]

from_it : (rows : List (List ℕ)) (n b : ℕ) → Steps (across rows n) n b → Steps rows n b
from_it rows n b h = elim (cases rows n n b h) [ inl x ↦ x | inr y ↦ y.1 ]

closed_at_it : (rows : List (List ℕ)) (n : ℕ) → IsClosedAt (across rows n) n
unfolding IsClosedAt
closed_at_it rows n a b h k = long rows n a b (to_it rows n a h) (from_it rows n b k)

still_closed : (rows : List (List ℕ)) (n s : ℕ) → IsClosedAt rows s → IsClosedAt (across rows n) s
unfolding IsClosedAt
still_closed rows n s c a b h k =
    elim (cases rows n a s h) [
      | inl as' ↦ elim (cases rows n s b k) [
        | inl sb ↦ short rows n a b (c a b as' sb)
        | inr snb ↦ long rows n a b (c a n as' snb.0) snb.1
      ]
      | inr ans ↦ elim (cases rows n s b k) [
        | inl sb ↦ long rows n a b ans.0 (c n b ans.1 sb)
        | inr snb ↦ long rows n a b ans.0 snb.1
      ]
    ]

-- ---- through a list of numbers

grows : (ns : List ℕ) (rows : List (List ℕ)) (a b : ℕ) → Steps rows a b → Steps (closure_through ns rows) a b
grows [] rows a b h = h
grows (n ∷ ns) rows a b h = grows ns (across rows n) a b (short rows n a b h)

stays_closed : (ns : List ℕ) (rows : List (List ℕ)) (s : ℕ) → IsClosedAt rows s → IsClosedAt (closure_through ns rows) s
stays_closed [] rows s c = c
stays_closed (n ∷ ns) rows s c = stays_closed ns (across rows n) s (still_closed rows n s c)

closed_in : (ns : List ℕ) (rows : List (List ℕ)) (s : ℕ) → IsTrue (has ns s) → IsClosedAt (closure_through ns rows) s
closed_in [] rows s h = absurd (true≢false (sym h))
closed_in (n ∷ ns) rows s h =
    elim (has_cons n s ns h) [
      | inl e ↦ stays_closed ns (across rows n) s (subst (IsClosedAt (across rows n)) e (closed_at_it rows n))
      | inr t ↦ closed_in ns (across rows n) s t
    ]

-- ---- both ways

IsSound : List (List ℕ) → List (List ℕ) → Type 0
IsSound rows done = (starts : List ℕ) (a b : ℕ) → Reached rows starts a → Steps done a b → Reached rows starts b

sound_across : (rows done : List (List ℕ)) (n : ℕ) → IsSound rows done → IsSound rows (across done n)
unfolding IsSound
sound_across rows done n sound starts a b r h =
    elim (cases done n a b h) [ inl x ↦ sound starts a b r x | inr y ↦ sound starts n b (sound starts a n r y.0) y.1 ]

sound_closed : (rows : List (List ℕ)) (ns : List ℕ) (done : List (List ℕ)) → IsSound rows done → IsSound rows (closure_through ns done)
sound_closed rows [] done sound = sound
sound_closed rows (n ∷ ns) done sound = sound_closed rows ns (across done n) (sound_across rows done n sound)

sound_itself : (rows : List (List ℕ)) → IsSound rows rows
unfolding IsSound Steps
sound_itself rows starts a b r h = next r h

led : (rows : List (List ℕ)) (starts : List ℕ) (x : ℕ) → IsTrue (leads (closure rows) starts x) → Reached rows starts x
unfolding IsSound Steps
led rows starts x h =
    elim (or_cases (has starts x) (list_any (λ a. has (get_or (closure rows) a []) x) starts) h) [
      | inl s ↦ start s
      | inr some ↦
          let from = any_gives (λ a. has (get_or (closure rows) a []) x) starts some in
          sound_closed rows (range_with_len 0 (length rows)) rows (sound_itself rows) starts from.0 x (start from.1) from.2
    ]

leads_to : (rows : List (List ℕ)) (starts : List ℕ) (x : ℕ) → Reached rows starts x → IsTrue (leads (closure rows) starts x)
unfolding IsClosedAt Steps
leads_to rows starts x (start s) = or_left (has starts x) (list_any (λ a. has (get_or (closure rows) a []) x) starts) s
leads_to rows starts x (next {a = a} r h) =
    let ns : List ℕ = range_with_len 0 (length rows) in
    let on : Steps (closure rows) a x = grows ns rows a x h in
    or_right (has starts x) (list_any (λ s. has (get_or (closure rows) s []) x) starts)
    (elim (or_cases (has starts a) (list_any (λ s. has (get_or (closure rows) s []) a) starts) (leads_to rows starts a r)) [
      | inl s ↦ any_from (λ s. has (get_or (closure rows) s []) x) starts a s on
      | inr some ↦
          let from = any_gives (λ s. has (get_or (closure rows) s []) a) starts some in
          any_from (λ s. has (get_or (closure rows) s []) x) starts from.0 from.1
          (closed_in ns rows a (from_zero a (length rows) (row_there rows a x h)) from.0 x from.2 on)
    ])

pub leads-tests : (rows : List (List ℕ)) (starts : List ℕ) (x : ℕ) → IsTrue (leads (closure rows) starts x) ↔ Reached rows starts x
leads-tests rows starts x = (led rows starts x, leads_to rows starts x)

-- marks that say what is reached are those that closed rows lead to
pub marked_is : (rows : List (List ℕ)) (starts : List ℕ) (marks : List Bool) (n : ℕ) → ((x : ℕ) → IsTrue (is_marked marks x) ↔ Reached rows starts x) → those n (is_marked marks) ≡ those n (leads (closure rows) starts)
marked_is rows starts marks n h =
    filter_same_in (is_marked marks) (leads (closure rows) starts) (range_with_len 0 n)
    (λ x _. let tests = leads-tests rows starts x in
    both (is_marked marks x) (leads (closure rows) starts x) (λ m. tests.1 ((h x).0 m)) (λ l. (h x).1 (tests.0 l)))
