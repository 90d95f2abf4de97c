-- What clap answers is what the words give.
use Rattle.std.proofs.Common.{◌≡◌, ◌∙◌, ◌<◌, ◌==◌, subst, arith, ℕ, Bool, true, false, refl, sym, ap, ap₂, List, [], ◌∷◌, length, Option, Some, None, option_map}
use Rattle.std.specs.Prelude.{fold, if◌then◌else◌, is_some, option_and_then, slice_get}
use Rattle.std.specs.Char.{encode_utf8}
use lib.Utf8.{encodes}
use Rattle.std.proofs.lemmas.Bool.Decides.{nat_tests}
use Rattle.std.specs.Str.{chars, IsUtf8}
use Rattle.std.proofs.lemmas.Str.{chars_past_char, encodes-chars}
use Rattle.clap.specs.Lexer.{short_of, short_of_rest, usize_max}
use Rattle.clap.specs.Faults.{built_fault, check_fault, defaults_fault, entered_fault, level_fault, settle_fault, turn_fault, walk_fault}
use Rattle.clap.specs.Kinds.{Kinds, or_else}
use Rattle.clap.specs.Simple.{App, built, entered, names_of}
use Rattle.clap.specs.Walk.{Held, Row, Rule, Text, Walk, finished, nothing_held, rows_after, settled, walk, walk_from, walked}
use Rattle.ppd_top_requests.proofs.Clap.Kinds.{clap_gives}
use Rattle.ppd_top_requests.proofs.Clap.Lookups.{by_long, by_place, by_short, filled_rules, id_of_name_after, id_of_option, rules_from}
use Rattle.ppd_top_requests.proofs.Clap.Rows.{rules_default, rules_unfaulted, wanted_rules}
use Rattle.ppd_top_requests.proofs.Clap.Taken.{clap_rows, rows_for, unless}
use Rattle.ppd_top_requests.proofs.Clap.Walking.{AllRead, CanRead, HasFirst, Serves, both_unless, gives, shape_with, total}
use Rattle.ppd_top_requests.specs.Shape.{app_with}

or_assoc : (a b c : Kinds) → or_else (or_else a b) c ≡ or_else a (or_else b c)
or_assoc [] b c = refl
or_assoc (x ∷ a) b c = refl

pub serves_rules : (longs ids : List Text) → length ids < usize_max → Serves (rules_from 1 longs ids) longs ids
serves_rules longs ids few = record {
  few = few;
  long = by_long 1 longs ids;
  short = by_short 1 longs ids;
  option_id = id_of_option 1 longs ids;
  name_id = id_of_name_after 1 longs ids;
  place = λ k. by_place longs ids k few;
  unfaulted = rules_unfaulted 1 longs ids;
  kept = rules_default 1 longs ids;
  wanted = wanted_rules 1 longs ids;
}

module _ (title : Text) (c : List Rule) where
  abbrev last_faults : Held → Kinds
  last_faults h = or_else (settle_fault c false h) (or_else (defaults_fault (settled c h).rows c) (check_fault (shape_with title c) (finished c h) false))

  abbrev walked_to : Walk → List Text → Walk
  walked_to w ws = fold (walked c []) w ws

  total_is : (w : Walk) (ws : List Text) → total title c w ws ≡ unless (or_else (walk_fault (shape_with title c) [] w ws) (last_faults (walked_to w ws).held)) (Some (finished c (walked_to w ws).held))
  unfolding walk_fault
  total_is w [] = refl
  total_is w (x ∷ xs) =
      let turn : Kinds = turn_fault (shape_with title c) [] w x in
      let after : Walk = walked c [] w x in
      let rest : Kinds = walk_fault (shape_with title c) [] after xs in
      let last : Kinds = last_faults (walked_to after xs).held in
      let z : Option (List Row) = Some (finished c (walked_to after xs).held) in
      ap (unless turn) (total_is after xs) ∙ sym (both_unless turn (or_else rest last) z) ∙ ap (λ (k : Kinds). unless k z) (sym (or_assoc turn rest last))

  abbrev pub made : App
  made = record { top = shape_with title c; subs = [] }

  none_entered : (stop : Option (Text × List Text)) → is_some (entered made stop) ≡ false
  none_entered None = refl
  none_entered (Some p) = refl

  none_below : (stop : Option (Text × List Text)) → entered_fault made stop ≡ []
  none_below None = refl
  none_below (Some p) = refl

  level_is : (ws : List Text) (stop : Option (Text × List Text))
      → unless (level_fault (shape_with title c) [] nothing_held ws (is_some (entered made stop)) (entered_fault made stop)) (Some (finished c (walk c [] nothing_held ws).held)) ≡ total title c (walk_from nothing_held) ws
  level_is ws stop =
      ap₂ (λ (b : Bool) (k : Kinds). unless (level_fault (shape_with title c) [] nothing_held ws b k) (Some (finished c (walk c [] nothing_held ws).held))) (none_entered stop) (none_below stop)
      ∙ sym (total_is (walk_from nothing_held) ws)

short_parts : (w flags : Text) → short_of w ≡ Some flags → (w ≡ 45 ∷ flags) × 0 < length flags
short_parts [] flags e = cc
short_parts (b ∷ []) flags e = none (b == 45) e
  where
    none : (t : Bool) → option_and_then short_of_rest (if t then Some [] else None) ≡ Some flags → (b ∷ [] ≡ 45 ∷ flags) × 0 < length flags
    none true e = cc
    none false e = cc
short_parts (b ∷ x ∷ xs) flags e = outer (b == 45) refl e
  where
    inner : (s : Bool) → (b == 45) ≡ true → (if s then None else Some (x ∷ xs)) ≡ Some flags → (b ∷ x ∷ xs ≡ 45 ∷ flags) × 0 < length flags
    inner true is e = cc
    inner false is e =
        let first : b ≡ 45 = grind (arith, nat_tests) in
        let rest : x ∷ xs ≡ flags = cc in
        (ap₂ (λ (n : ℕ) (l : List ℕ). n ∷ l) first rest, subst (λ (l : List ℕ). 0 < length l) rest (omega arith))

    outer : (t : Bool) → (b == 45) ≡ t → option_and_then short_of_rest (if t then Some (x ∷ xs) else None) ≡ Some flags → (b ∷ x ∷ xs ≡ 45 ∷ flags) × 0 < length flags
    outer true is e = inner (x == 45) is e
    outer false is e = cc

first_of_flags : (flags : Text) → IsUtf8 (45 ∷ flags) → 0 < length flags → HasFirst flags
unfolding encode_utf8
first_of_flags flags is long = go (chars flags) refl
  where
    go : (cs : List ℕ) → chars flags ≡ cs → HasFirst flags
    go (x ∷ cs) e = (x, ap (λ (l : List ℕ). slice_get l 0) e)
    go [] e =
        let all : chars (45 ∷ flags) ≡ 45 ∷ chars flags = chars_past_char (45 ∷ flags) flags 45 is refl in
        let back : encodes (45 ∷ []) ≡ 45 ∷ flags = ap encodes (sym (all ∙ ap (λ l. 45 ∷ l) e)) ∙ encodes-chars (45 ∷ flags) is in
        let none : [] ≡ flags = cc in
        absurd (omega (arith, ap length none))

-- a text that begins with a hyphen has a character after it, where there is more
pub can_read : (w : Text) → IsUtf8 w → CanRead w
can_read w is flags short =
    let parts = short_parts w flags short in
    first_of_flags flags (subst IsUtf8 parts.0 is) parts.1

pub clap_is_given : (title : Text) (longs ids words : List Text) → length ids < usize_max → AllRead words → clap_rows (app_with title longs ids) words ≡ option_map rows_for (clap_gives longs ids words)
clap_is_given title longs ids words few read =
    let c : List Rule = rules_from 1 longs ids in
    let built_is : built (app_with title longs ids) ≡ made title c = ap (λ (rs : List Rule). made title rs) (filled_rules 1 longs ids) in
    ap (λ (a : App). unless (built_fault a nothing_held words) (Some (rows_after a.top.rules (names_of a) words))) built_is
    ∙ level_is title c words (walk c [] nothing_held words).stopped
    ∙ (gives title c longs ids (serves_rules longs ids few) words read).on_idle [] 0 false [] None refl refl
