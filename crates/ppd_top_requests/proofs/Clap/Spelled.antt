-- A word is spelled alike by its beginnings and by the parts into which clap cuts it.
use Rattle.std.proofs.Common.{◌≡◌, ◌∙◌, ◌&&◌, ◌||◌, ◌==◌, ℕ, zero, suc, Bool, cond, true, false, true≢false, refl, sym, ap, ap₂, subst, arith, List, [], ◌∷◌, ◌++◌, length, take, drop, Option, Some, None, append_assoc, inl, inr}
use Rattle.std.specs.Prelude.{◌⊎◌, if◌then◌else◌, nat_eq, option_and_then}
use Rattle.std.specs.List.{before_first, starts_with}
use Rattle.std.specs.Str.{bytes_eq}
use Rattle.std.proofs.lemmas.Bool.Decides.{nat_tests}
use Rattle.std.proofs.lemmas.List.{drop_at, take-append-drop, take_at}
use Rattle.std.proofs.Math.Bool.{and-false}
use Rattle.clap.specs.Lexer.{has_byte, long_of_rest, name_and_value, short_of, short_of_rest, strip_byte}
use Rattle.clap.proofs.CutLemmas.{Lacks, before_first-at, list_any-at}
use Rattle.clap.proofs.LexerLemmas.{name_and_value-at, name_and_value-without}
use Rattle.ppd_top_requests.proofs.Clap.Kinds.{clap_gives, clap_spelled, is_among, long_kind}
use Rattle.ppd_top_requests.proofs.Clap.Lookups.{same-equal, same-refl}
use Rattle.ppd_top_requests.specs.Spelling.{HaveNoEquals, by_beginning, is_dashed, spelled, words_give}
use Rattle.ppd_top_requests.specs.GivenWords.{Given, Kind, Text, after_word, ends, given_from, name, nothing_given, other, sets, waits, with_name, with_word}

is_false : (t : Bool) → (t ≡ true → ⊥) → t ≡ false
is_false true h = absurd (h refl)
is_false false h = refl

clash : (t : Bool) → t ≡ true → t ≡ false → ⊥
clash t a b = true≢false (sym a ∙ b)

-- ---- the first `=`

lacks_from : (xs : Text) → has_byte 61 xs ≡ false → Lacks 61 xs
lacks_from [] e i lt = absurd (omega arith)
lacks_from (x ∷ xs) e zero lt = λ is. clash (has_byte 61 (x ∷ xs)) (ap (λ (n : ℕ). (n == 61) || has_byte 61 xs) is) e
lacks_from (x ∷ xs) e (suc i) lt = lacks_from xs (later (x == 61) (has_byte 61 xs) e) i (omega arith)
  where
    later : (a b : Bool) → (a || b) ≡ false → b ≡ false
    later true b e = absurd (true≢false e)
    later false b e = e

record Around (r : Text) : Type 0 where
  before : Text
  after : Text
  is : r ≡ before ++ 61 ∷ after
  lacks : has_byte 61 before ≡ false

cut : (r : Text) → (has_byte 61 r ≡ false) ⊎ Around r
cut [] = inl refl
cut (x ∷ r) = go (x == 61) refl (cut r)
  where
    go : (t : Bool) → (x == 61) ≡ t → (has_byte 61 r ≡ false) ⊎ Around r → (has_byte 61 (x ∷ r) ≡ false) ⊎ Around (x ∷ r)
    go true e c =
        let same : x ≡ 61 = grind (arith, nat_tests) in
        inr (record { before = []; after = r; is = ap (λ (n : ℕ). n ∷ r) same; lacks = refl })
    go false e (inl h) = inl (ap (λ (t : Bool). t || has_byte 61 r) e ∙ h)
    go false e (inr s) =
        inr (record { before = x ∷ s.before; after = s.after; is = ap (λ (l : Text). x ∷ l) s.is; lacks = ap (λ (t : Bool). t || has_byte 61 s.before) e ∙ s.lacks })

-- ---- after two hyphens

abbrev search_in : List Text → Text → Kind
search_in [] r = other
search_in (l ∷ ls) r =
    if bytes_eq r l then waits l
    else if starts_with nat_eq r (l ++ 61 ∷ []) then sets l (drop (length (l ++ 61 ∷ [])) r)
    else search_in ls r

by_is : (ls : List Text) (r : Text) → by_beginning ls (45 ∷ 45 ∷ r) ≡ search_in ls r
by_is [] r = refl
by_is (l ∷ ls) r = ap (λ (k : Kind). if bytes_eq r l then waits l else if starts_with nat_eq r (l ++ 61 ∷ []) then sets l (drop (length (l ++ 61 ∷ [])) r) else k) (by_is ls r)

back : (n : ℕ) (r : Text) → take n r ++ drop n r ≡ r
back n r = take-append-drop n r

begins_not : (l r : Text) → has_byte 61 r ≡ false → starts_with nat_eq r (l ++ 61 ∷ []) ≡ false
begins_not l r none = is_false _ (λ hit.
    let n : ℕ = length (l ++ 61 ∷ []) in
    let front : take n r ≡ l ++ 61 ∷ [] = sym (same-equal _ _ hit) in
    let whole : r ≡ l ++ 61 ∷ drop n r = sym (back n r) ∙ ap (λ (f : Text). f ++ drop n r) front ∙ append_assoc l (61 ∷ []) (drop n r) in
    clash (has_byte 61 r) (ap (has_byte 61) whole ∙ list_any-at 61 l (drop n r)) none)

no_value : (ls : List Text) (r : Text) → has_byte 61 r ≡ false → cond (is_among ls r) (waits r) other ≡ search_in ls r
no_value [] r none = refl
no_value (l ∷ ls) r none = go (bytes_eq r l) refl (no_value ls r none)
  where
    go : (t : Bool) → bytes_eq r l ≡ t → cond (is_among ls r) (waits r) other ≡ search_in ls r
        → cond (is_among (l ∷ ls) r) (waits r) other ≡ (if t then waits l else if starts_with nat_eq r (l ++ 61 ∷ []) then sets l (drop (length (l ++ 61 ∷ [])) r) else search_in ls r)
    go true e rest =
        let same : r ≡ l = same-equal r l e in
        ap (λ (b : Bool). cond (b || is_among ls r) (waits r) other) (ap (λ (x : Text). bytes_eq l x) same ∙ same-refl l) ∙ ap waits same
    go false e rest =
        let other_way : bytes_eq l r ≡ false = is_false _ (λ hit. clash (bytes_eq r l) (ap (λ (x : Text). bytes_eq r x) (same-equal l r hit) ∙ same-refl r) e) in
        ap (λ (b : Bool). cond (b || is_among ls r) (waits r) other) other_way ∙ rest
        ∙ sym (ap (λ (b : Bool). if b then sets l (drop (length (l ++ 61 ∷ [])) r) else search_in ls r) (begins_not l r none))

whole_not : (l a b : Text) → has_byte 61 l ≡ false → bytes_eq (a ++ 61 ∷ b) l ≡ false
whole_not l a b none = is_false _ (λ hit. clash (has_byte 61 l) (ap (has_byte 61) (sym (same-equal (a ++ 61 ∷ b) l hit)) ∙ list_any-at 61 a b) none)

front_hit : (a b : Text) → starts_with nat_eq (a ++ 61 ∷ b) (a ++ 61 ∷ []) ≡ true
front_hit a b =
    ap (λ (t : Text). bytes_eq (a ++ 61 ∷ []) t) (ap (take (length (a ++ 61 ∷ []))) (sym (append_assoc a (61 ∷ []) b)) ∙ take_at (a ++ 61 ∷ []) b (length (a ++ 61 ∷ [])) refl) ∙ same-refl (a ++ 61 ∷ [])

rest_hit : (a b : Text) → drop (length (a ++ 61 ∷ [])) (a ++ 61 ∷ b) ≡ b
rest_hit a b = ap (drop (length (a ++ 61 ∷ []))) (sym (append_assoc a (61 ∷ []) b)) ∙ drop_at (a ++ 61 ∷ []) b (length (a ++ 61 ∷ [])) refl

front_miss : (l a b : Text) → has_byte 61 l ≡ false → has_byte 61 a ≡ false → bytes_eq l a ≡ false → starts_with nat_eq (a ++ 61 ∷ b) (l ++ 61 ∷ []) ≡ false
front_miss l a b l_lacks a_lacks e = is_false _ (λ hit.
    let n : ℕ = length (l ++ 61 ∷ []) in
    let r : Text = a ++ 61 ∷ b in
    let front : take n r ≡ l ++ 61 ∷ [] = sym (same-equal _ _ hit) in
    let whole : r ≡ l ++ 61 ∷ drop n r = sym (back n r) ∙ ap (λ (f : Text). f ++ drop n r) front ∙ append_assoc l (61 ∷ []) (drop n r) in
    let same : l ≡ a = sym (before_first-at 61 l (drop n r) (lacks_from l l_lacks)) ∙ ap (before_first (λ x. x == 61)) (sym whole) ∙ before_first-at 61 a b (lacks_from a a_lacks) in
    clash (bytes_eq l a) (ap (bytes_eq l) (sym same) ∙ same-refl l) e)

some_value : (ls : List Text) (a b : Text) → HaveNoEquals ls → has_byte 61 a ≡ false → cond (is_among ls a) (sets a b) other ≡ search_in ls (a ++ 61 ∷ b)
some_value [] a b all none = refl
some_value (l ∷ ls) a b all none =
    go (bytes_eq l a) refl (some_value ls a b all.1 none)
    ∙ sym (ap (λ (t : Bool). if t then waits l else if starts_with nat_eq (a ++ 61 ∷ b) (l ++ 61 ∷ []) then sets l (drop (length (l ++ 61 ∷ [])) (a ++ 61 ∷ b)) else search_in ls (a ++ 61 ∷ b)) (whole_not l a b all.0))
  where
    go : (t : Bool) → bytes_eq l a ≡ t → cond (is_among ls a) (sets a b) other ≡ search_in ls (a ++ 61 ∷ b)
        → cond (is_among (l ∷ ls) a) (sets a b) other ≡ (if starts_with nat_eq (a ++ 61 ∷ b) (l ++ 61 ∷ []) then sets l (drop (length (l ++ 61 ∷ [])) (a ++ 61 ∷ b)) else search_in ls (a ++ 61 ∷ b))
    go true e rest =
        let same : l ≡ a = same-equal l a e in
        ap (λ (t : Bool). cond (t || is_among ls a) (sets a b) other) e
        ∙ sym (ap (λ (x : Text). if starts_with nat_eq (a ++ 61 ∷ b) (x ++ 61 ∷ []) then sets x (drop (length (x ++ 61 ∷ [])) (a ++ 61 ∷ b)) else search_in ls (a ++ 61 ∷ b)) same
        ∙ ap (λ (t : Bool). if t then sets a (drop (length (a ++ 61 ∷ [])) (a ++ 61 ∷ b)) else search_in ls (a ++ 61 ∷ b)) (front_hit a b)
        ∙ ap (sets a) (rest_hit a b))
    go false e rest =
        ap (λ (t : Bool). cond (t || is_among ls a) (sets a b) other) e ∙ rest
        ∙ sym (ap (λ (t : Bool). if t then sets l (drop (length (l ++ 61 ∷ [])) (a ++ 61 ∷ b)) else search_in ls (a ++ 61 ∷ b)) (front_miss l a b all.0 none e))

after_hyphens : (ls : List Text) (r : Text) (f : Option Text) → HaveNoEquals ls → long_kind ls (Some (name_and_value r)) f ≡ search_in ls r
after_hyphens ls r f all = go (cut r)
  where
    go : (has_byte 61 r ≡ false) ⊎ Around r → long_kind ls (Some (name_and_value r)) f ≡ search_in ls r
    go (inl none) = ap (λ (p : Text × Option Text). long_kind ls (Some p) f) (name_and_value-without r (lacks_from r none)) ∙ no_value ls r none
    go (inr s) =
        ap (λ (x : Text). long_kind ls (Some (name_and_value x)) f) s.is
        ∙ ap (λ (p : Text × Option Text). long_kind ls (Some p) f) (name_and_value-at s.before s.after (lacks_from s.before s.lacks))
        ∙ some_value ls s.before s.after all s.lacks ∙ ap (search_in ls) (sym s.is)

-- ---- other words

turned : (c : ℕ) → (c == 45) ≡ false → (45 == c) ≡ false
turned c e = grind (arith, nat_tests)

not_long : (ls : List Text) (w : Text) → ((x : Text) → bytes_eq w (45 ∷ 45 ∷ x) ≡ false) → ((n : ℕ) (x : Text) → bytes_eq (45 ∷ 45 ∷ x) (take (suc (suc n)) w) ≡ false) → by_beginning ls w ≡ (if is_dashed w then other else name)
not_long [] w whole front = refl
not_long (l ∷ ls) w whole front =
    ap₂ (λ (a b : Bool). if a then waits l else if b then sets l (drop (length (45 ∷ 45 ∷ (l ++ 61 ∷ []))) w) else by_beginning ls w) (whole l) (front (length (l ++ 61 ∷ [])) (l ++ 61 ∷ []))
    ∙ not_long ls w whole front

two_hyphens : (longs : List Text) (r : Text) → HaveNoEquals longs → clap_spelled longs (45 ∷ 45 ∷ r) ≡ spelled longs (45 ∷ 45 ∷ r)
two_hyphens longs [] all = refl
two_hyphens longs (x ∷ xs) all = after_hyphens longs (x ∷ xs) (short_of (45 ∷ 45 ∷ x ∷ xs)) all ∙ sym (by_is longs (x ∷ xs))

one_hyphen : (longs : List Text) (c : ℕ) (bs : Text) → HaveNoEquals longs → clap_spelled longs (45 ∷ c ∷ bs) ≡ spelled longs (45 ∷ c ∷ bs)
one_hyphen longs c bs all = go (c == 45) refl
  where
    go : (t : Bool) → (c == 45) ≡ t → clap_spelled longs (45 ∷ c ∷ bs) ≡ spelled longs (45 ∷ c ∷ bs)
    go true e =
        let same : c ≡ 45 = grind (arith, nat_tests) in
        subst (λ (n : ℕ). clap_spelled longs (45 ∷ n ∷ bs) ≡ spelled longs (45 ∷ n ∷ bs)) (sym same) (two_hyphens longs bs all)
    go false e =
        let beginning : by_beginning longs (45 ∷ c ∷ bs) ≡ other = not_long longs (45 ∷ c ∷ bs) (λ x. ap (λ (t : Bool). t && bytes_eq bs x) e) (λ n x. ap (λ (t : Bool). t && bytes_eq x (take n bs)) (turned c e)) in
        rw (e, beginning) refl

pub spelled_alike : (longs : List Text) (w : Text) → HaveNoEquals longs → clap_spelled longs w ≡ spelled longs w
spelled_alike longs [] all = sym (not_long longs [] (λ x. refl) (λ n x. refl))
spelled_alike longs (b ∷ []) all = go (b == 45) (not_long longs (b ∷ []) (λ x. and-false (b == 45)) (λ n x. and-false (45 == b)))
  where
    go : (t : Bool) → by_beginning longs (b ∷ []) ≡ name
        → (if t && false then ends else long_kind longs (option_and_then long_of_rest (option_and_then (strip_byte 45) (if t then Some [] else None))) (option_and_then short_of_rest (if t then Some [] else None)))
        ≡ (if t && false then ends else by_beginning longs (b ∷ []))
    go true e = sym e
    go false e = sym e
spelled_alike longs (b ∷ c ∷ bs) all = go (b == 45) refl
  where
    go : (t : Bool) → (b == 45) ≡ t → clap_spelled longs (b ∷ c ∷ bs) ≡ spelled longs (b ∷ c ∷ bs)
    go true e =
        let same : b ≡ 45 = grind (arith, nat_tests) in
        subst (λ (n : ℕ). clap_spelled longs (n ∷ c ∷ bs) ≡ spelled longs (n ∷ c ∷ bs)) (sym same) (one_hyphen longs c bs all)
    go false e =
        let beginning : by_beginning longs (b ∷ c ∷ bs) ≡ (if is_dashed (b ∷ c ∷ bs) then other else name) = not_long longs (b ∷ c ∷ bs) (λ x. ap (λ (t : Bool). t && bytes_eq (c ∷ bs) (45 ∷ x)) e) (λ n x. ap (λ (t : Bool). t && bytes_eq (45 ∷ x) (take (suc n) (c ∷ bs))) (turned b e)) in
        rw (beginning, e) refl

given_alike_from : (longs ids : List Text) (g : Given) (words : List Text) → HaveNoEquals longs → given_from (clap_spelled longs) ids g words ≡ given_from (spelled longs) ids g words
given_alike_from longs ids g [] all = refl
given_alike_from longs ids g (w ∷ ws) all =
    ap (λ (k : Kind). option_and_then (λ h. given_from (clap_spelled longs) ids h ws) (if g.ended then with_name ids w g else with_word ids g.waiting k w g)) (spelled_alike longs w all)
    ∙ go (after_word (spelled longs) ids g w) (λ h. given_alike_from longs ids h ws all)
  where
    go : (o : Option Given) → ((h : Given) → given_from (clap_spelled longs) ids h ws ≡ given_from (spelled longs) ids h ws) → option_and_then (λ h. given_from (clap_spelled longs) ids h ws) o ≡ option_and_then (λ h. given_from (spelled longs) ids h ws) o
    go None next = refl
    go (Some h) next = next h

pub given_alike : (longs ids words : List Text) → HaveNoEquals longs → clap_gives longs ids words ≡ words_give longs ids words
given_alike longs ids words all = given_alike_from longs ids nothing_given words all
