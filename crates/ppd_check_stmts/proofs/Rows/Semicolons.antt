-- The first semicolon among phrases.
use Rattle.std.proofs.Common.{pos, ◌≡◌, refl, sym, ap, ◌∙◌, ℕ, zero, suc, ◌+◌, ◌-◌, ◌<◌, ◌≤◌, arith, Bool, true, false, if◌then◌else◌, List, [], ◌∷◌, ◌++◌, take, drop, length, get_or, slice_index_or}
use Rattle.ppd_parse.specs.declared.token.Kind.TheVariants as K
use Rattle.std.proofs.lemmas.List.{take_more, drop_more, drop_all, get_or_past, get_or-drop, length-drop, append_assoc, append-nil}
use Rattle.ppd_check_names.specs.Reading.{Phrase, token, nowhere, kind, phrase, before, beyond, same_kind, is_formula, as_formula, formulas}
use Rattle.ppd_check_names.specs.Syntax.{Formula, number}

-- no semicolon stands from one number up to another
pub record Searched (ps : List Phrase) (from at : ℕ) : Type 0 where
  pub past : from ≤ at
  pub before : before (drop from ps) ≡ take (at - from) (drop from ps) ++ before (drop at ps)
  pub beyond : beyond (drop from ps) ≡ beyond (drop at ps)

pub searched_start : (ps : List Phrase) (from : ℕ) → Searched ps from from
searched_start ps from =
    let none : from - from ≡ 0 = omega arith in
    record { past = omega arith; before = ap (λ n. take n (drop from ps) ++ before (drop from ps)) (sym none); beyond = refl }

before_other : (p : Phrase) (ps : List Phrase) (b : Bool) → b ≡ false → (if b then [] else p ∷ before ps) ≡ p ∷ before ps
before_other p ps true h = absurd (grind (arith, h))
before_other p ps false h = refl

beyond_other : (ps qs : List Phrase) (b : Bool) → b ≡ false → (if b then ps else qs) ≡ qs
beyond_other ps qs true h = absurd (grind (arith, h))
beyond_other ps qs false h = refl

pub searched_more : (ps : List Phrase) (from at : ℕ) → at < length ps → same_kind K.Semicolon (kind (phrase ps at)) ≡ false → Searched ps from at → Searched ps from (at + 1)
searched_more ps from at h other s =
    let p : Phrase = phrase ps at in
    let split : drop at ps ≡ p ∷ drop (at + 1) ps = drop_more ps at (token nowhere) h in
    let past : from ≤ at = s.past in
    let long : length (drop from ps) ≡ length ps - from = length-drop from ps in
    let inside : at - from < length (drop from ps) = omega (arith, past, long, h) in
    let where_at : from + (at - from) ≡ at = omega (arith, past) in
    let here : get_or (drop from ps) (at - from) (token nowhere) ≡ p = get_or-drop from ps (at - from) (token nowhere) ∙ ap (λ n. get_or ps n (token nowhere)) where_at in
    let one : (at - from) + 1 ≡ (at + 1) - from = omega (arith, past) in
    let taken : take (at - from) (drop from ps) ++ p ∷ [] ≡ take ((at + 1) - from) (drop from ps) =
    ap (λ q. take (at - from) (drop from ps) ++ q ∷ []) (sym here) ∙ sym (take_more (drop from ps) (at - from) (token nowhere) inside) ∙ ap (λ n. take n (drop from ps)) one in
    record {
      past = omega (arith, past);
      before =
          s.before
          ∙ ap (λ l. take (at - from) (drop from ps) ++ before l) split
          ∙ ap (λ l. take (at - from) (drop from ps) ++ l) (before_other p (drop (at + 1) ps) (same_kind K.Semicolon (kind p)) other)
          ∙ sym (append_assoc (take (at - from) (drop from ps)) (p ∷ []) (before (drop (at + 1) ps)))
          ∙ ap (λ l. l ++ before (drop (at + 1) ps)) taken;
      beyond = s.beyond ∙ ap beyond split ∙ beyond_other (drop (at + 1) ps) (beyond (drop (at + 1) ps)) (same_kind K.Semicolon (kind p)) other;
    }

-- what stands before it, and what behind it
pub record Found (ps : List Phrase) (from at : ℕ) : Type 0 where
  pub past : from ≤ at
  pub before : before (drop from ps) ≡ take (at - from) (drop from ps)
  pub beyond : beyond (drop from ps) ≡ drop (at + 1) ps

before_here : (p : Phrase) (ps : List Phrase) (b : Bool) → b ≡ true → (if b then [] else p ∷ ps) ≡ []
before_here p ps true h = refl
before_here p ps false h = absurd (grind (arith, h))

beyond_here : (ps qs : List Phrase) (b : Bool) → b ≡ true → (if b then ps else qs) ≡ ps
beyond_here ps qs true h = refl
beyond_here ps qs false h = absurd (grind (arith, h))

pub found_here : (ps : List Phrase) (from at : ℕ) → at < length ps → same_kind K.Semicolon (kind (phrase ps at)) ≡ true → Searched ps from at → Found ps from at
found_here ps from at h here s =
    let p : Phrase = phrase ps at in
    let split : drop at ps ≡ p ∷ drop (at + 1) ps = drop_more ps at (token nowhere) h in
    let part : List Phrase = take (at - from) (drop from ps) in
    record {
      past = s.past;
      before =
          s.before
          ∙ ap (λ l. part ++ before l) split
          ∙ ap (λ l. part ++ l) (before_here p (before (drop (at + 1) ps)) (same_kind K.Semicolon (kind p)) here)
          ∙ append-nil part;
      beyond = s.beyond ∙ ap beyond split ∙ beyond_here (drop (at + 1) ps) (beyond (drop (at + 1) ps)) (same_kind K.Semicolon (kind p)) here;
    }

pub found_none : (ps : List Phrase) (from at : ℕ) → length ps ≤ at → Searched ps from at → Found ps from at
found_none ps from at h s =
    let all : drop at ps ≡ [] = drop_all at ps h in
    let after : drop (at + 1) ps ≡ [] = drop_all (at + 1) ps (omega (arith, h)) in
    let part : List Phrase = take (at - from) (drop from ps) in
    record {
      past = s.past;
      before = s.before ∙ ap (λ l. part ++ before l) all ∙ append-nil part;
      beyond = s.beyond ∙ ap beyond all ∙ sym after;
    }

-- behind all, where no semicolon is found
pub behind_all : (ps : List Phrase) (from at : ℕ) → length ps ≤ at → beyond (drop from ps) ≡ drop (at + 1) ps → drop (length ps) ps ≡ beyond (drop from ps)
behind_all ps from at h e =
    let all : drop (length ps) ps ≡ [] = drop_all (length ps) ps (omega arith) in
    let after : drop (at + 1) ps ≡ [] = drop_all (at + 1) ps (omega (arith, h)) in
    all ∙ sym (e ∙ after)

-- a phrase of a part
in_part : (n k : ℕ) (qs : List Phrase) → k < n → phrase (take n qs) k ≡ phrase qs k
in_part zero k qs h = absurd (omega (arith, h))
in_part (suc n) k [] h = refl
in_part (suc n) zero (q ∷ qs) h = refl
in_part (suc n) (suc k) (q ∷ qs) h = in_part n k qs (omega (arith, h))

past_part : (n k : ℕ) (qs : List Phrase) → n ≤ k → phrase (take n qs) k ≡ token nowhere
past_part zero k qs h = refl
past_part (suc n) k [] h = refl
past_part (suc n) zero (q ∷ qs) h = absurd (omega (arith, h))
past_part (suc n) (suc k) (q ∷ qs) h = past_part n k qs (omega (arith, h))

pub part_there : (ps : List Phrase) (from n k : ℕ) → k < n → phrase ps (from + k) ≡ phrase (take n (drop from ps)) k
part_there ps from n k h = sym (in_part n k (drop from ps) h ∙ get_or-drop from ps k (token nowhere))

pub part_none : (ps : List Phrase) (from n k : ℕ) → n ≤ k → phrase ps (length ps) ≡ phrase (take n (drop from ps)) k
part_none ps from n k h = get_or_past ps (length ps) (token nowhere) (omega arith) ∙ sym (past_part n k (drop from ps) h)

-- the first expression of a part
test_here : (n : ℕ) (qs : List Phrase) → 0 < n → is_formula (phrase qs 0) ≡ true → slice_index_or (formulas (take n qs)) 0 (number (pos 1)) ≡ as_formula (phrase qs 0)
test_here zero qs h e = absurd (omega (arith, h))
test_here (suc n) [] h e = absurd (grind (arith, e))
test_here (suc n) (q ∷ qs) h e = ap (λ fs. slice_index_or fs 0 (number (pos 1))) (chosen (is_formula q) (as_formula q ∷ formulas (take n qs)) (formulas (take n qs)) e)
  where
    chosen : (b : Bool) (xs ys : List Formula) → b ≡ true → (if b then xs else ys) ≡ xs
    chosen true xs ys e = refl
    chosen false xs ys e = absurd (grind (arith, e))

test_later : (n : ℕ) (qs : List Phrase) → is_formula (phrase qs 0) ≡ false → slice_index_or (formulas (take (suc n) qs)) 0 (number (pos 1)) ≡ slice_index_or (formulas (take n (drop 1 qs))) 0 (number (pos 1))
test_later zero [] e = refl
test_later (suc n) [] e = refl
test_later n (q ∷ qs) e = ap (λ fs. slice_index_or fs 0 (number (pos 1))) (chosen (is_formula q) (as_formula q ∷ formulas (take n qs)) (formulas (take n qs)) e)
  where
    chosen : (b : Bool) (xs ys : List Formula) → b ≡ false → (if b then xs else ys) ≡ ys
    chosen true xs ys e = absurd (grind (arith, e))
    chosen false xs ys e = refl

drop_one : (at : ℕ) (ps : List Phrase) → drop 1 (drop at ps) ≡ drop (suc at) ps
drop_one zero ps = refl
drop_one (suc at) [] = refl
drop_one (suc at) (p ∷ ps) = drop_one at ps

phrase_first : (ps : List Phrase) (at : ℕ) → phrase (drop at ps) 0 ≡ phrase ps at
phrase_first ps at =
    let whole : at + 0 ≡ at = omega arith in
    get_or-drop at ps 0 (token nowhere) ∙ ap (phrase ps) whole

-- no expression stands from one number up to another
pub record Sought (ps : List Phrase) (from end at : ℕ) : Type 0 where
  pub upto : at ≤ end
  pub test : slice_index_or (formulas (take (end - from) (drop from ps))) 0 (number (pos 1)) ≡ slice_index_or (formulas (take (end - at) (drop at ps))) 0 (number (pos 1))

pub sought_start : (ps : List Phrase) (from end : ℕ) → from ≤ end → Sought ps from end from
sought_start ps from end h = record { upto = h; test = refl }

pub sought_more : (ps : List Phrase) (from end at : ℕ) → at < end → is_formula (phrase ps at) ≡ false → Sought ps from end at → Sought ps from end (at + 1)
sought_more ps from end at h e s =
    let one : end - at ≡ suc (end - (at + 1)) = omega (arith, h) in
    let next : suc at ≡ at + 1 = omega arith in
    record {
      upto = omega (arith, h);
      test =
          s.test
          ∙ ap (λ n. slice_index_or (formulas (take n (drop at ps))) 0 (number (pos 1))) one
          ∙ test_later (end - (at + 1)) (drop at ps) (ap is_formula (phrase_first ps at) ∙ e)
          ∙ ap (λ l. slice_index_or (formulas (take (end - (at + 1)) l)) 0 (number (pos 1))) (drop_one at ps ∙ ap (λ n. drop n ps) next);
    }

pub sought_found : (ps : List Phrase) (from end at : ℕ) → at < end → is_formula (phrase ps at) ≡ true → Sought ps from end at
    → as_formula (phrase ps at) ≡ slice_index_or (formulas (take (end - from) (drop from ps))) 0 (number (pos 1))
sought_found ps from end at h e s =
    sym (s.test ∙ test_here (end - at) (drop at ps) (omega (arith, h)) (ap is_formula (phrase_first ps at) ∙ e) ∙ ap as_formula (phrase_first ps at))

pub sought_none : (ps : List Phrase) (from end at : ℕ) → end ≤ at → Sought ps from end at → number (pos 1) ≡ slice_index_or (formulas (take (end - from) (drop from ps))) 0 (number (pos 1))
sought_none ps from end at h s =
    let none : end - at ≡ 0 = omega (arith, h) in
    sym (s.test ∙ ap (λ n. slice_index_or (formulas (take n (drop at ps))) 0 (number (pos 1))) none)
