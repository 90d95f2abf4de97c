-- The command is one of those of which clap's clauses speak, and what they say of it.
use Rattle.std.proofs.Common.{◌≡◌, ◌∙◌, ◌<◌, ◌≤◌, ◌+◌, ◌&&◌, ℕ, zero, suc, Bool, cond, true, false, refl, sym, subst, ap, ap₂, arith, List, [], ◌∷◌, ◌++◌, map, length, take, Option, Some, None, option_map, min, inl, inr, append-nil, append_assoc}
use Rattle.std.specs.Prelude.{not, find, slice_get, option_and_then}
use Rattle.std.specs.Borrow.{Bor}
use Rattle.std.specs.Prelude.{count_by, is_some}
use Rattle.std.proofs.lemmas.Bool.{cases_lt}
use Rattle.std.proofs.lemmas.List.{map-append, take_more}
use Rattle.std.specs.List.{All, list_all, list_any, slice_index_or}
use Rattle.std.specs.Str.{IsUtf8, bytes_eq}
use Rattle.clap.specs.Lexer.{usize_max}
use Rattle.clap.specs.Faults.{fault_of, is_free_app, is_simple_and_free}
use Rattle.clap.specs.Kinds.{HasKind, Kinds}
use Rattle.clap.specs.Matches.{found_of}
use Rattle.clap.specs.Simple.{App, built, is_ready, is_ready_leaf, is_simple, matches_of, new_app, on_top, with_rule}
use Rattle.clap.specs.Values.{kind_of}
use Rattle.clap.specs.Walk.{Row, Rule, Text, first_of, is_early_multiple, rows_of}
use Rattle.clap.specs.declared.error.Error.{Error}
use Rattle.clap.specs.declared.error.kind.ErrorKind.TheVariants as kind
use Rattle.clap.specs.declared.parser.matches.ArgMatches.{ArgMatches}
use Rattle.clap.proofs.WalkLemmas.{first_value-rows}
use Rattle.ppd_top_requests.proofs.Clap.Lookups.{filled_rules, names_from, rules_from}
use Rattle.ppd_top_requests.proofs.Clap.Spelled.{given_alike}
use Rattle.ppd_top_requests.proofs.Clap.Taken.{clap_rows, row, rows_for, unless}
use Rattle.ppd_top_requests.proofs.Clap.Walking.{AllRead}
use Rattle.ppd_top_requests.proofs.Clap.Whole.{can_read, clap_is_given, made}
use Rattle.ppd_top_requests.specs.Reads.{Reads}
use Rattle.ppd_top_requests.specs.GivenWords.{Uses, texts, value_of}
use Rattle.ppd_top_requests.specs.Shape.{app_with, bare, name_rule, option_rule}
use Rattle.ppd_top_requests.specs.Spelling.{HaveNoEquals, words_give}

-- ---- it is simple

raw_names : (ids : List Text) → list_all (λ a. a.is_simple) (map name_rule ids) ≡ true
raw_names [] = refl
raw_names (id ∷ ids) = raw_names ids

raw_rules : (longs ids : List Text) → list_all (λ a. a.is_simple) (map option_rule longs ++ map name_rule ids) ≡ true
raw_rules [] ids = raw_names ids
raw_rules (l ∷ longs) ids = raw_rules longs ids

simple_names : (i : ℕ) (ids : List Text) → list_all (λ a. a.is_simple) (names_from i ids) ≡ true
simple_names i [] = refl
simple_names i (id ∷ ids) = simple_names (min (i + 1) usize_max) ids

simple_rules : (i : ℕ) (longs ids : List Text) → list_all (λ a. a.is_simple) (rules_from i longs ids) ≡ true
simple_rules i [] ids = simple_names i ids
simple_rules i (l ∷ longs) ids = simple_rules i longs ids

free_names : (i : ℕ) (ids : List Text) → list_all (λ a. a.is_free) (names_from i ids) ≡ true
free_names i [] = refl
free_names i (id ∷ ids) = free_names (min (i + 1) usize_max) ids

free_rules : (i : ℕ) (longs ids : List Text) → list_all (λ a. a.is_free) (rules_from i longs ids) ≡ true
free_rules i [] ids = free_names i ids
free_rules i (l ∷ longs) ids = free_rules i longs ids

early_names : (n i : ℕ) (ids : List Text) → list_any (is_early_multiple n) (names_from i ids) ≡ false
early_names n i [] = refl
early_names n i (id ∷ ids) = early_names n (min (i + 1) usize_max) ids

early_rules : (n i : ℕ) (longs ids : List Text) → list_any (is_early_multiple n) (rules_from i longs ids) ≡ false
early_rules n i [] ids = early_names n i ids
early_rules n i (l ∷ longs) ids = early_rules n i longs ids

abbrev built_with : Text → List Text → List Text → App
built_with title longs ids = made title (rules_from 1 longs ids)

built_is : (title : Text) (longs ids : List Text) → built (app_with title longs ids) ≡ built_with title longs ids
built_is title longs ids = ap (λ (rs : List Rule). made title rs) (filled_rules 1 longs ids)

pub is_plain : (title : Text) (longs ids : List Text) → is_simple (app_with title longs ids) ≡ true
is_plain title longs ids =
    ap₂ (λ (b : Bool) (a : App). (b && true) && (is_ready a.top && list_all is_ready_leaf a.subs)) (raw_rules longs ids) (built_is title longs ids)
    ∙ ap₂ (λ (x y : Bool). (x && not y) && true) (simple_rules 1 longs ids) (early_rules (count_by (λ (a : Rule). is_some a.index) (rules_from 1 longs ids)) 1 longs ids)

pub is_free : (title : Text) (longs ids : List Text) → is_simple_and_free (app_with title longs ids) ≡ true
is_free title longs ids =
    ap₂ (λ (b : Bool) (a : App). b && is_free_app a) (is_plain title longs ids) (built_is title longs ids) ∙ ap (λ (b : Bool). b && true) (free_rules 1 longs ids)

-- ---- what clap's clauses say

first_for : (id : Text) (u : Uses) → first_of id (rows_for u) ≡ value_of id u
first_for id [] = refl
first_for id (x ∷ u) = go (bytes_eq x.0 id) (first_for id u)
  where
    go : (b : Bool) → first_of id (rows_for u) ≡ value_of id u
        → option_and_then (λ (r : Row). slice_get r.values 0) (cond b (Some (row x)) (find (λ r. bytes_eq r.id id) (rows_for u))) ≡ option_map (λ (y : Text × Text). y.1) (cond b (Some x) (find (λ (y : Text × Text). bytes_eq y.0 id) u))
    go true e = refl
    go false e = e

pub all_read : (words : List (Bor Text)) → All (λ (s : Bor Text). IsUtf8 s.now) words → AllRead (texts words)
all_read [] h = tt
all_read (w ∷ ws) h = (can_read w.now (h 0 w (omega arith)), all_read ws (λ k d lt. h (suc k) d (omega arith)))

module _ (title : Text) (longs ids : List Text) (lack : HaveNoEquals longs) (words : List (Bor Text)) (few : length ids < usize_max) (utf8 : All (λ (s : Bor Text). IsUtf8 s.now) words) where
  pub reads : (app : App) (m : ArgMatches) → app ≡ app_with title longs ids → (is_simple_and_free app ≡ true → fault_of app (texts words) ≡ []) → (is_simple app ≡ true → rows_of (found_of m) ≡ matches_of app (texts words))
      → Reads longs ids (texts words) m
  reads app m is faults rows =
      let a : App = app_with title longs ids in
      let none : fault_of a (texts words) ≡ [] = ap (λ (x : App). fault_of x (texts words)) (sym is) ∙ faults (ap is_simple_and_free is ∙ is_free title longs ids) in
      let same : rows_of (found_of m) ≡ matches_of a (texts words) = rows (ap is_simple is ∙ is_plain title longs ids) ∙ ap (λ (x : App). matches_of x (texts words)) is in
      let law : clap_rows a (texts words) ≡ option_map rows_for (words_give longs ids (texts words)) = clap_is_given title longs ids (texts words) few (all_read words utf8) ∙ ap (option_map rows_for) (given_alike longs ids (texts words) lack) in
      let taken : Some (rows_of (found_of m)) ≡ option_map rows_for (words_give longs ids (texts words)) = ap Some same ∙ ap (λ (k : Kinds). unless k (Some (matches_of a (texts words)))) (sym none) ∙ law in
      go (words_give longs ids (texts words)) refl taken
    where
      go : (g : Option Uses) → words_give longs ids (texts words) ≡ g → Some (rows_of (found_of m)) ≡ option_map rows_for g → Reads longs ids (texts words) m
      go None e t = cc
      go (Some u) e t =
          let here : rows_of (found_of m) ≡ rows_for u = cc in
          record { uses = u; is = e; value = λ id. first_value-rows (found_of m) id ∙ ap (first_of id) here ∙ first_for id u }

  pub reads_none : (app : App) (e : Error) → app ≡ app_with title longs ids → (is_simple_and_free app ≡ true → HasKind (fault_of app (texts words)) e) → (kind_of e ≡ kind.OutOfMemory → ⊥) → words_give longs ids (texts words) ≡ None
  reads_none app e is faults other = by (fault_of app (texts words)) refl (faults (ap is_simple_and_free is ∙ is_free title longs ids))
    where
      none : (g : Option Uses) → None ≡ option_map rows_for g → g ≡ None
      none None e = refl
      none (Some u) e = cc

      by : (k : Kinds) → fault_of app (texts words) ≡ k → HasKind k e → words_give longs ids (texts words) ≡ None
      by k k_is (inl m) = absurd (other m)
      by [] k_is (inr i) = absurd i
      by (x ∷ xs) k_is (inr i) =
          let a : App = app_with title longs ids in
          none (words_give longs ids (texts words)) (ap (λ (ks : Kinds). unless ks (Some (matches_of a (texts words)))) (sym (ap (λ (x : App). fault_of x (texts words)) (sym is) ∙ k_is)) ∙ clap_is_given title longs ids (texts words) few (all_read words utf8) ∙ ap (option_map rows_for) (given_alike longs ids (texts words) lack))

-- ---- one more rule

abbrev with_rules : Text → List Rule → App
with_rules title rules = on_top (λ s. record s { rules = rules }) (bare (new_app title))

more_options : (title : Text) (longs : List Text) (l : Text) → with_rule (app_with title longs []) (option_rule l) ≡ app_with title (longs ++ l ∷ []) []
more_options title longs l =
    ap (with_rules title) (ap (λ (rs : List Rule). rs ++ option_rule l ∷ []) (append-nil (map option_rule longs)) ∙ sym (map-append option_rule longs (l ∷ [])) ∙ sym (append-nil (map option_rule (longs ++ l ∷ []))))

more_names : (title : Text) (longs ids : List Text) (id : Text) → with_rule (app_with title longs ids) (name_rule id) ≡ app_with title longs (ids ++ id ∷ [])
more_names title longs ids id =
    ap (with_rules title) (append_assoc (map option_rule longs) (map name_rule ids) (name_rule id ∷ []) ∙ ap (λ (rs : List Rule). map option_rule longs ++ rs) (sym (map-append name_rule ids (id ∷ []))))

taken_text : (xs : List (Bor Text)) (i : ℕ) (d : Bor Text) → i < length xs → texts (take (i + 1) xs) ≡ texts (take i xs) ++ (slice_index_or xs i d).now ∷ []
taken_text xs i d lt = ap texts (take_more xs i d lt) ∙ map-append (λ (s : Bor Text). s.now) (take i xs) (slice_index_or xs i d ∷ [])

pub step_options : (title : Text) (xs : List (Bor Text)) (i : ℕ) (d : Bor Text) (a b : App) → i < length xs → a ≡ app_with title (texts (take i xs)) [] → b ≡ with_rule a (option_rule (slice_index_or xs i d).now)
    → b ≡ app_with title (texts (take (i + 1) xs)) []
step_options title xs i d a b lt before is =
    is ∙ ap (λ (x : App). with_rule x (option_rule (slice_index_or xs i d).now)) before ∙ more_options title (texts (take i xs)) (slice_index_or xs i d).now
    ∙ ap (λ (ls : List Text). app_with title ls []) (sym (taken_text xs i d lt))

pub step_names : (title : Text) (longs : List Text) (xs : List (Bor Text)) (i : ℕ) (d : Bor Text) (a b : App) → i < length xs → a ≡ app_with title longs (texts (take i xs)) → b ≡ with_rule a (name_rule (slice_index_or xs i d).now)
    → b ≡ app_with title longs (texts (take (i + 1) xs))
step_names title longs xs i d a b lt before is =
    is ∙ ap (λ (x : App). with_rule x (name_rule (slice_index_or xs i d).now)) before ∙ more_names title longs (texts (take i xs)) (slice_index_or xs i d).now
    ∙ ap (λ (ls : List Text). app_with title longs ls) (sym (taken_text xs i d lt))

-- ---- each is text

any_default : (xs : List (Bor Text)) (i : ℕ) (d e : Bor Text) → i < length xs → slice_index_or xs i d ≡ slice_index_or xs i e
any_default [] i d e lt = absurd (omega arith)
any_default (x ∷ xs) zero d e lt = refl
any_default (x ∷ xs) (suc i) d e lt = any_default xs i d e (omega arith)

pub more_texts : (xs : List (Bor Text)) (i : ℕ) (e : Bor Text) → i < length xs → ((k : ℕ) (d : Bor Text) → k < i → IsUtf8 (slice_index_or xs k d).now) → IsUtf8 (slice_index_or xs i e).now
    → (k : ℕ) (d : Bor Text) → k < i + 1 → IsUtf8 (slice_index_or xs k d).now
more_texts xs i e lt before here k d below = elim (cases_lt k i) [
  | inl less ↦ before k d less
  | inr more ↦ subst (λ (s : Bor Text). IsUtf8 s.now) (ap (λ (n : ℕ). slice_index_or xs n e) (same more) ∙ any_default xs k e d (omega (arith, same more))) here
]
  where
    same : i ≤ k → i ≡ k
    same more = omega arith
