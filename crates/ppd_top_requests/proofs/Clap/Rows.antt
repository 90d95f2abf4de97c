-- The rows of uses, and what the end of a walk makes of the rules.
use Rattle.std.proofs.Common.{◌≡◌, ◌∙◌, ◌+◌, ◌&&◌, ◌||◌, ℕ, Bool, cond, true, false, refl, ap, ap₂, List, [], ◌∷◌, ◌++◌, Option, Some, None, min}
use Rattle.std.specs.Prelude.{not, fold}
use Rattle.std.specs.List.{list_any, list_all}
use Rattle.std.specs.Str.{bytes_eq}
use Rattle.std.proofs.Math.Bool.{or-true}
use Rattle.clap.specs.Lexer.{usize_max}
use Rattle.clap.specs.Faults.{defaults_fault}
use Rattle.clap.specs.Takes.{is_given}
use Rattle.clap.specs.Values.{reading_of}
use Rattle.clap.specs.Walk.{Row, Rule, Text, has_row, with_default, with_values, without}
use Rattle.clap.specs.declared.builder.value_parser.ValueParser.TheVariants as vp
use Rattle.clap.specs.declared.parser.matches.ValueSource.TheVariants.{CommandLine}
use Rattle.ppd_top_requests.proofs.Clap.Lookups.{names_from, plain_rule, rules_from}
use Rattle.ppd_top_requests.proofs.Clap.Taken.{row, rows_for}
use Rattle.ppd_top_requests.specs.GivenWords.{Uses, was_used}

pub has_row-for : (id : Text) (u : Uses) → has_row id (rows_for u) ≡ was_used id u
has_row-for id [] = refl
has_row-for id (x ∷ u) = ap (λ (b : Bool). bytes_eq x.0 id || b) (has_row-for id u)

pub is_given-for : (id : Text) (u : Uses) → is_given id (rows_for u) ≡ was_used id u
is_given-for id [] = refl
is_given-for id (x ∷ u) = go (bytes_eq x.0 id) refl (is_given-for id u)
  where
    go : (b : Bool) → bytes_eq x.0 id ≡ b → is_given id (rows_for u) ≡ was_used id u → is_given id (rows_for (x ∷ u)) ≡ (bytes_eq x.0 id || was_used id u)
    go true e rest = rw e refl
    go false e rest = rw e rest

or_parts : (a b : Bool) → (a || b) ≡ false → (a ≡ false) × (b ≡ false)
or_parts true b e = absurd (Rattle.std.proofs.Common.true≢false e)
or_parts false b e = (refl, e)

kept : (id : Text) (u : Uses) → was_used id u ≡ false → without id (rows_for u) ≡ rows_for u
kept id [] e = refl
kept id (x ∷ u) e =
    let parts = or_parts (bytes_eq x.0 id) (was_used id u) e in
    let miss : bytes_eq x.0 id ≡ false = parts.0 in
    rw miss (ap (λ rs. row x ∷ rs) (kept id u parts.1))

added : (id value : Text) (u : Uses) → was_used id u ≡ false → with_values id (reading_of vp.String) CommandLine (value ∷ []) (rows_for u) ≡ rows_for (u ++ (id, value) ∷ [])
added id value [] e = refl
added id value (x ∷ u) e =
    let parts = or_parts (bytes_eq x.0 id) (was_used id u) e in
    let miss : bytes_eq x.0 id ≡ false = parts.0 in
    rw miss (ap (λ rs. row x ∷ rs) (added id value u parts.1))

-- a first use is one more row
pub fresh : (id value : Text) (u : Uses) → was_used id u ≡ false → with_values id (reading_of vp.String) CommandLine (value ∷ []) (without id (rows_for u)) ≡ rows_for (u ++ (id, value) ∷ [])
fresh id value u e = ap (with_values id (reading_of vp.String) CommandLine (value ∷ [])) (kept id u e) ∙ added id value u e

-- ---- no rule has a default

if_same : {X : Type 0} (b : Bool) (x : X) → cond b x x ≡ x
if_same true x = refl
if_same false x = refl

pub none_by_default : (rows : List Row) (long : Option Text) (index : Option ℕ) (is_required : Bool) (id : Text) → with_default rows (plain_rule long index is_required id) ≡ rows
none_by_default rows long index is_required id = if_same (has_row id rows) rows

names_default : (i : ℕ) (ids : List Text) (rows : List Row) → fold with_default rows (names_from i ids) ≡ rows
names_default i [] rows = refl
names_default i (id ∷ ids) rows = ap (λ rs. fold with_default rs (names_from (min (i + 1) usize_max) ids)) (none_by_default rows None (Some i) true id) ∙ names_default (min (i + 1) usize_max) ids rows

pub rules_default : (i : ℕ) (longs ids : List Text) (rows : List Row) → fold with_default rows (rules_from i longs ids) ≡ rows
rules_default i [] ids rows = names_default i ids rows
rules_default i (l ∷ longs) ids rows = ap (λ rs. fold with_default rs (rules_from i longs ids)) (none_by_default rows (Some l) None false l) ∙ rules_default i longs ids rows

default_step : (rows : List Row) (long : Option Text) (index : Option ℕ) (is_required : Bool) (id : Text) (rest : List Rule) → defaults_fault rows rest ≡ [] → defaults_fault rows (plain_rule long index is_required id ∷ rest) ≡ []
unfolding defaults_fault
default_step rows long index is_required id rest e = rw (or-true (has_row id rows), none_by_default rows long index is_required id) e

names_unfaulted : (i : ℕ) (ids : List Text) (rows : List Row) → defaults_fault rows (names_from i ids) ≡ []
unfolding defaults_fault
names_unfaulted i [] rows = refl
names_unfaulted i (id ∷ ids) rows = default_step rows None (Some i) true id (names_from (min (i + 1) usize_max) ids) (names_unfaulted (min (i + 1) usize_max) ids rows)

pub rules_unfaulted : (i : ℕ) (longs ids : List Text) (rows : List Row) → defaults_fault rows (rules_from i longs ids) ≡ []
rules_unfaulted i [] ids rows = names_unfaulted i ids rows
rules_unfaulted i (l ∷ longs) ids rows = default_step rows (Some l) None false l (rules_from i longs ids) (rules_unfaulted i longs ids rows)

-- ---- what is required

wanted_names : (i : ℕ) (ids : List Text) (u : Uses) → list_any (λ a. a.required && not (is_given a.id (rows_for u))) (names_from i ids) ≡ not (list_all (λ id. was_used id u) ids)
wanted_names i [] u = refl
wanted_names i (id ∷ ids) u = ap₂ (λ (a b : Bool). not a || b) (is_given-for id u) (wanted_names (min (i + 1) usize_max) ids u) ∙ both (was_used id u) (list_all (λ x. was_used x u) ids)
  where
    both : (a b : Bool) → (not a || not b) ≡ not (a && b)
    both true b = refl
    both false b = refl

pub wanted_rules : (i : ℕ) (longs ids : List Text) (u : Uses) → list_any (λ a. a.required && not (is_given a.id (rows_for u))) (rules_from i longs ids) ≡ not (list_all (λ id. was_used id u) ids)
wanted_rules i [] ids u = wanted_names i ids u
wanted_rules i (l ∷ longs) ids u = wanted_rules i longs ids u
