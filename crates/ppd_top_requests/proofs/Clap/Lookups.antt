-- The rules of a built command, and the rule that a long name, an id or a place finds.
use Rattle.std.proofs.Common.{◌≡◌, ◌∙◌, ◌<◌, ◌≤◌, ◌+◌, ◌||◌, ◌==◌, ℕ, zero, suc, Bool, cond, true, false, refl, sym, ap, arith, List, [], ◌∷◌, ◌++◌, map, length, Option, Some, None, min, true≢false}
use Rattle.std.specs.Prelude.{slice_get}
use Rattle.std.specs.List.{list_any}
use Rattle.std.specs.Str.{bytes_eq}
use Rattle.std.proofs.Math.Nat.{min-eq_left}
use Rattle.std.proofs.lemmas.Bool.Decides.{nat_tests}
use Rattle.std.proofs.lemmas.Slice.Eq.{bytes_eq-Decides}
use Rattle.clap.specs.Lexer.{usize_max}
use Rattle.clap.specs.Walk.{Rule, Text, arg_by_id, arg_by_index, arg_by_long, arg_by_short}
use Rattle.clap.specs.Simple.{filled_from}
use Rattle.clap.specs.declared.builder.action.ArgAction.TheVariants.{Set}
use Rattle.clap.specs.declared.builder.value_parser.ValueParser.TheVariants as vp
use Rattle.ppd_top_requests.proofs.Clap.Kinds.{is_among}
use Rattle.ppd_top_requests.specs.Shape.{name_rule, option_rule}

-- ---- texts

pub same-refl : (a : Text) → bytes_eq a a ≡ true
same-refl a = (bytes_eq-Decides a a).1 refl

pub same-equal : (a b : Text) → bytes_eq a b ≡ true → a ≡ b
same-equal a b e = (bytes_eq-Decides a b).0 e

-- ---- the rules

abbrev pub plain_rule : Option Text → Option ℕ → Bool → Text → Rule
plain_rule long index is_required id = record {
  id = id;
  long = long;
  aliases = [];
  short = None;
  short_aliases = [];
  index = index;
  action = Some Set;
  range = Some (record { start_inclusive = 1; end_inclusive = 1 });
  value_names = 0;
  defaults = [];
  missing = [];
  trailing_var_arg = false;
  parser = Some vp.String;
  ignore_case = false;
  required = is_required;
  is_simple = true;
  is_free = true;
}

abbrev pub option_at : Text → Rule
option_at id = plain_rule (Some id) None false id

abbrev pub name_at : ℕ → Text → Rule
name_at i id = plain_rule None (Some i) true id

abbrev pub names_from : ℕ → List Text → List Rule
names_from i [] = []
names_from i (id ∷ ids) = name_at i id ∷ names_from (min (i + 1) usize_max) ids

abbrev pub rules_from : ℕ → List Text → List Text → List Rule
rules_from i longs ids = map option_at longs ++ names_from i ids

filled_names : (i : ℕ) (ids : List Text) → filled_from i (map name_rule ids) ≡ names_from i ids
filled_names i [] = refl
filled_names i (id ∷ ids) = ap (λ rs. name_at i id ∷ rs) (filled_names (min (i + 1) usize_max) ids)

pub filled_rules : (i : ℕ) (longs ids : List Text) → filled_from i (map option_rule longs ++ map name_rule ids) ≡ rules_from i longs ids
filled_rules i [] ids = filled_names i ids
filled_rules i (l ∷ longs) ids = ap (λ rs. option_at l ∷ rs) (filled_rules i longs ids)

-- ---- by long name

long_of_names : (i : ℕ) (ids : List Text) (name : Text) → arg_by_long (names_from i ids) name ≡ None
long_of_names i [] name = refl
long_of_names i (id ∷ ids) name = long_of_names (min (i + 1) usize_max) ids name

pub by_long : (i : ℕ) (longs ids : List Text) (name : Text) → arg_by_long (rules_from i longs ids) name ≡ cond (is_among longs name) (Some (option_at name)) None
by_long i [] ids name = long_of_names i ids name
by_long i (l ∷ longs) ids name = go (bytes_eq l name) (same-equal l name) (by_long i longs ids name)
  where
    go : (b : Bool) → (b ≡ true → l ≡ name) → arg_by_long (rules_from i longs ids) name ≡ cond (is_among longs name) (Some (option_at name)) None
        → cond (b || false) (Some (option_at l)) (arg_by_long (rules_from i longs ids) name) ≡ cond (b || is_among longs name) (Some (option_at name)) None
    go true e rest = ap (λ (t : Text). Some (option_at t)) (e refl)
    go false e rest = rest

short_of_names : (i : ℕ) (ids : List Text) (x : ℕ) → arg_by_short (names_from i ids) x ≡ None
short_of_names i [] x = refl
short_of_names i (id ∷ ids) x = short_of_names (min (i + 1) usize_max) ids x

pub by_short : (i : ℕ) (longs ids : List Text) (x : ℕ) → arg_by_short (rules_from i longs ids) x ≡ None
by_short i [] ids x = short_of_names i ids x
by_short i (l ∷ longs) ids x = by_short i longs ids x

-- ---- by id

-- the rule of an id is one of these
pub record IsPlain (rules : List Rule) (id : Text) : Type 0 where
  pub long : Option Text
  pub index : Option ℕ
  pub is_required : Bool
  pub found : arg_by_id rules id ≡ Some (plain_rule long index is_required id)

pub here : (long : Option Text) (index : Option ℕ) (is_required : Bool) (x : Text) (rules : List Rule) (id : Text) → bytes_eq x id ≡ true → IsPlain (plain_rule long index is_required x ∷ rules) id
here long index is_required x rules id e = record {
  long = long;
  index = index;
  is_required = is_required;
  found = ap (λ (b : Bool). cond b (Some (plain_rule long index is_required x)) (arg_by_id rules id)) e ∙ ap (λ (t : Text). Some (plain_rule long index is_required t)) (same-equal x id e);
}

pub there : (long : Option Text) (index : Option ℕ) (is_required : Bool) (x : Text) (rules : List Rule) (id : Text) → bytes_eq x id ≡ false → IsPlain rules id → IsPlain (plain_rule long index is_required x ∷ rules) id
there long index is_required x rules id e p = record {
  long = p.long;
  index = p.index;
  is_required = p.is_required;
  found = ap (λ (b : Bool). cond b (Some (plain_rule long index is_required x)) (arg_by_id rules id)) e ∙ p.found;
}

step : (long : Option Text) (index : Option ℕ) (is_required : Bool) (x : Text) (rules : List Rule) (id : Text) → (bytes_eq x id ≡ false → IsPlain rules id) → IsPlain (plain_rule long index is_required x ∷ rules) id
step long index is_required x rules id next = go (bytes_eq x id) refl
  where
    go : (b : Bool) → bytes_eq x id ≡ b → IsPlain (plain_rule long index is_required x ∷ rules) id
    go true e = here long index is_required x rules id e
    go false e = there long index is_required x rules id e (next e)

absurd_any : (b t : Bool) → (b || t) ≡ true → b ≡ false → t ≡ true
absurd_any true t e f = absurd (true≢false f)
absurd_any false t e f = e

pub id_of_name : (i : ℕ) (ids : List Text) (id : Text) → list_any (λ x. bytes_eq x id) ids ≡ true → IsPlain (names_from i ids) id
id_of_name i [] id e = absurd (true≢false (sym e))
id_of_name i (x ∷ ids) id e = step None (Some i) true x (names_from (min (i + 1) usize_max) ids) id (λ f. id_of_name (min (i + 1) usize_max) ids id (absurd_any (bytes_eq x id) _ e f))

pub id_of_name_after : (i : ℕ) (longs ids : List Text) (id : Text) → list_any (λ x. bytes_eq x id) ids ≡ true → IsPlain (rules_from i longs ids) id
id_of_name_after i [] ids id e = id_of_name i ids id e
id_of_name_after i (l ∷ longs) ids id e = step (Some l) None false l (rules_from i longs ids) id (λ f. id_of_name_after i longs ids id e)

pub id_of_option : (i : ℕ) (longs ids : List Text) (id : Text) → is_among longs id ≡ true → IsPlain (rules_from i longs ids) id
id_of_option i [] ids id e = absurd (true≢false (sym e))
id_of_option i (l ∷ longs) ids id e = step (Some l) None false l (rules_from i longs ids) id (λ f. id_of_option i longs ids id (absurd_any (bytes_eq l id) _ e f))

-- ---- by place

abbrev pub name_found : ℕ → Option Text → Option Rule
name_found i None = None
name_found i (Some id) = Some (name_at i id)

place_of_names : (i k j : ℕ) (ids : List Text) → j ≡ i + k → i + length ids ≤ usize_max → arg_by_index (names_from i ids) j ≡ name_found j (slice_get ids k)
place_of_names i k j [] is fits = refl
place_of_names i zero j (id ∷ ids) is fits =
    let here : (i == j) ≡ true = grind (arith, nat_tests) in
    let same : i ≡ j = omega arith in
    ap (λ (b : Bool). cond b (Some (name_at i id)) (arg_by_index (names_from (min (i + 1) usize_max) ids) j)) here ∙ ap (λ (n : ℕ). Some (name_at n id)) same
place_of_names i (suc k) j (id ∷ ids) is fits =
    let miss : (i == j) ≡ false = grind (arith, nat_tests) in
    let at : min (i + 1) usize_max ≡ i + 1 = min-eq_left (omega arith) in
    ap (λ (b : Bool). cond b (Some (name_at i id)) (arg_by_index (names_from (min (i + 1) usize_max) ids) j)) miss
    ∙ ap (λ (n : ℕ). arg_by_index (names_from n ids) j) at ∙ place_of_names (i + 1) k j ids (omega arith) (omega arith)

place_of_rules : (j : ℕ) (longs : List Text) (rules : List Rule) → arg_by_index (map option_at longs ++ rules) j ≡ arg_by_index rules j
place_of_rules j [] rules = refl
place_of_rules j (l ∷ longs) rules = place_of_rules j longs rules

pub by_place : (longs ids : List Text) (k : ℕ) → length ids < usize_max → arg_by_index (rules_from 1 longs ids) (k + 1) ≡ name_found (k + 1) (slice_get ids k)
by_place longs ids k few = place_of_rules (k + 1) longs (names_from 1 ids) ∙ place_of_names 1 k (k + 1) ids (omega arith) (omega arith)

pub got_is_among : (ids : List Text) (k : ℕ) (id : Text) → slice_get ids k ≡ Some id → list_any (λ x. bytes_eq x id) ids ≡ true
got_is_among [] k id e = cc
got_is_among (x ∷ ids) zero id e =
    let same : x ≡ id = cc in
    ap (λ (t : Text). bytes_eq t id || list_any (λ y. bytes_eq y id) ids) same ∙ ap (λ (b : Bool). b || list_any (λ y. bytes_eq y id) ids) (same-refl id)
got_is_among (x ∷ ids) (suc k) id e = go (bytes_eq x id) (got_is_among ids k id e)
  where
    go : (b : Bool) → list_any (λ y. bytes_eq y id) ids ≡ true → (b || list_any (λ y. bytes_eq y id) ids) ≡ true
    go true t = refl
    go false t = t

pub got_below : (ids : List Text) (k : ℕ) (id : Text) → slice_get ids k ≡ Some id → k < length ids
got_below [] k id e = cc
got_below (x ∷ ids) zero id e = omega arith
got_below (x ∷ ids) (suc k) id e = let below = got_below ids k id e in omega arith
