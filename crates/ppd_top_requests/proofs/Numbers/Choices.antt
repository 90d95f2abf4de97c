-- The options of `flow` by name, and which words they can be.
use Rattle.std.proofs.Common.{◌≡◌, ◌∙◌, ◌&&◌, ◌||◌, ◌==◌, ℕ, Bool, true, false, true≢false, refl, sym, ap, subst, arith, [], ◌∷◌, length, Option, Some, None, codes}
use Rattle.std.specs.Prelude.{if◌then◌else◌, is_none, is_some, nat_le, not}
use Rattle.std.specs.Borrow.{Bor}
use Rattle.std.specs.Str.{bytes_eq}
use Rattle.std.proofs.lemmas.Bool.Decides.{nat_tests}
use Rattle.ppd_ast.specs.Digits.{number_in, value_from}
use Rattle.ppd_top_requests.proofs.Clap.Kinds.{clap_spelled, is_among, kind_by, option_kind}
use Rattle.ppd_top_requests.proofs.Clap.Lookups.{same-equal}
use Rattle.ppd_top_requests.proofs.Numbers.Words.{flow_longs}
use Rattle.ppd_top_requests.specs.Numbers.{Choice, NumbersGiven, budget, choice_of, given_in, leaf, loops, with_option}
use Rattle.ppd_top_requests.specs.GivenWords.{Text, name, other, sets, waits}

abbrev pub source_id : Text
source_id = codes "source"

abbrev pub id_of : Choice → Text
id_of budget = codes "budget"
id_of leaf = codes "leaf"
id_of loops = codes "loops"

abbrev pub is_same : Choice → Choice → Bool
is_same budget budget = true
is_same budget leaf = false
is_same budget loops = false
is_same leaf budget = false
is_same leaf leaf = true
is_same leaf loops = false
is_same loops budget = false
is_same loops leaf = false
is_same loops loops = true

pub ids_same : (a b : Choice) → bytes_eq (id_of a) (id_of b) ≡ is_same a b
ids_same budget budget = refl
ids_same budget leaf = refl
ids_same budget loops = refl
ids_same leaf budget = refl
ids_same leaf leaf = refl
ids_same leaf loops = refl
ids_same loops budget = refl
ids_same loops leaf = refl
ids_same loops loops = refl

pub given_after : (a b : Choice) (n : ℕ) (l : NumbersGiven) → given_in b (with_option a n l) ≡ (if is_same a b then Some n else given_in b l)
given_after budget budget n l = refl
given_after budget leaf n l = refl
given_after budget loops n l = refl
given_after leaf budget n l = refl
given_after leaf leaf n l = refl
given_after leaf loops n l = refl
given_after loops budget n l = refl
given_after loops leaf n l = refl
given_after loops loops n l = refl

pub asks_after : (c : Choice) (n : ℕ) (l : NumbersGiven) → (with_option c n l).asks ≡ None
asks_after budget n l = refl
asks_after leaf n l = refl
asks_after loops n l = refl

pub ended_after : (c : Choice) (n : ℕ) (l : NumbersGiven) → (with_option c n l).ended ≡ l.ended
ended_after budget n l = refl
ended_after leaf n l = refl
ended_after loops n l = refl

pub source_after : (c : Choice) (n : ℕ) (l : NumbersGiven) → (with_option c n l).source ≡ l.source
source_after budget n l = refl
source_after leaf n l = refl
source_after loops n l = refl

pub not_source : (c : Choice) → bytes_eq (id_of c) source_id ≡ false
not_source budget = refl
not_source leaf = refl
not_source loops = refl

pub source_not : (c : Choice) → bytes_eq source_id (id_of c) ≡ false
source_not budget = refl
source_not leaf = refl
source_not loops = refl

pub given_source : (c : Choice) (w : Bor Text) (l : NumbersGiven) → given_in c (record l { source = Some w }) ≡ given_in c l
given_source budget w l = refl
given_source leaf w l = refl
given_source loops w l = refl

pub given_ended : (c : Choice) (l : NumbersGiven) → given_in c (record l { ended = true }) ≡ given_in c l
given_ended budget l = refl
given_ended leaf l = refl
given_ended loops l = refl

pub given_asks : (c : Choice) (o : Option Choice) (l : NumbersGiven) → given_in c (record l { asks = o }) ≡ given_in c l
given_asks budget o l = refl
given_asks leaf o l = refl
given_asks loops o l = refl

pub none_is : {X : Type 0} (o : Option X) → is_none o ≡ not (is_some o)
none_is None = refl
none_is (Some x) = refl

-- ---- what a word may be

pub among_back : (id : Text) → is_among flow_longs id ≡ true → id_of (choice_of id) ≡ id
among_back id e = go (bytes_eq (codes "budget") id) refl (bytes_eq (codes "leaf") id) refl (bytes_eq (codes "loops") id) refl e
  where
    at : (l : Text) → bytes_eq l id ≡ true → id_of (choice_of l) ≡ l → id_of (choice_of id) ≡ id
    at l e h = subst (λ (i : Text). id_of (choice_of i) ≡ i) (same-equal l id e) h

    go : (a : Bool) → bytes_eq (codes "budget") id ≡ a → (b : Bool) → bytes_eq (codes "leaf") id ≡ b → (c : Bool) → bytes_eq (codes "loops") id ≡ c → (a || (b || (c || false))) ≡ true → id_of (choice_of id) ≡ id
    go true x b y c z e = at (codes "budget") x refl
    go false x true y c z e = at (codes "leaf") y refl
    go false x false y true z e = at (codes "loops") z refl
    go false x false y false z e = absurd (true≢false (sym e))

pub waits_known : (b : Bool) (o : Option (Text × Option Text)) (f : Option Text) (id : Text) → kind_by flow_longs b o f ≡ waits id → is_among flow_longs id ≡ true
waits_known true o f id e = cc
waits_known false None None id e = cc
waits_known false None (Some flags) id e = cc
waits_known false (Some p) f id e = go (is_among flow_longs p.0) refl p.1 e
  where
    go : (t : Bool) → is_among flow_longs p.0 ≡ t → (v : Option Text) → (if t then option_kind p.0 v else other) ≡ waits id → is_among flow_longs id ≡ true
    go false h v e = cc
    go true h None e =
        let same : p.0 ≡ id = cc in
        ap (is_among flow_longs) (sym same) ∙ h
    go true h (Some v) e = cc

pub sets_known : (b : Bool) (o : Option (Text × Option Text)) (f : Option Text) (id value : Text) → kind_by flow_longs b o f ≡ sets id value → is_among flow_longs id ≡ true
sets_known true o f id value e = cc
sets_known false None None id value e = cc
sets_known false None (Some flags) id value e = cc
sets_known false (Some p) f id value e = go (is_among flow_longs p.0) refl p.1 e
  where
    go : (t : Bool) → is_among flow_longs p.0 ≡ t → (v : Option Text) → (if t then option_kind p.0 v else other) ≡ sets id value → is_among flow_longs id ≡ true
    go false h v e = cc
    go true h None e = cc
    go true h (Some v) e =
        let same : p.0 ≡ id = cc in
        ap (is_among flow_longs) (sym same) ∙ h

pub and_two : (x y : Bool) → (x && (y && false)) ≡ false
and_two true true = refl
and_two true false = refl
and_two false y = refl

-- a word that is no name is no number
pub no_number : (w : Text) → (clap_spelled flow_longs w ≡ name → ⊥) → number_in w ≡ None
no_number [] h = refl
no_number (b ∷ bs) h = go (b == 45) refl
  where
    go : (t : Bool) → (b == 45) ≡ t → number_in (b ∷ bs) ≡ None
    go true e =
        let same : b ≡ 45 = grind (arith, nat_tests) in
        subst (λ (n : ℕ). number_in (n ∷ bs) ≡ None) (sym same)
        (ap (λ (t : Bool). if t then Some (value_from 0 (45 ∷ bs)) else None) (and_two (nat_le 1 (length (45 ∷ bs))) (nat_le (length (45 ∷ bs)) 9)))
    go false e =
        let is : clap_spelled flow_longs (b ∷ bs) ≡ name = rw e refl in
        absurd (h is)
