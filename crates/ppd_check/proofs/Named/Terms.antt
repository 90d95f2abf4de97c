-- Expressions and statements that break no rule name what is there.
use Rattle.std.proofs.Common.{◌≡◌, refl, ℕ, Bool, true, false, if◌then◌else◌, List, [], ◌∷◌, ◌++◌, map, Option, Some, None, is_some, IfSome, not}
use Rattle.std.specs.List.{All, flat_map}
use Rattle.std.specs.Prelude.{bytes_eq}
use Rattle.std.proofs.lemmas.List.Elements.{All-nil, All-cons}
use Rattle.ppd_ast.specs.declared.program.Place.{Place}
use Rattle.ppd_ast.specs.declared.program.Var.{Var}
use Rattle.ppd_ast.specs.declared.program.Program.{Program}
use Rattle.ppd_ast.specs.Term.{Term}
use Rattle.ppd_ast.specs.Cells.{NamesWhole}
use Rattle.ppd_check_names.specs.declared.meaning.Use.TheVariants as U
use Rattle.ppd_check_names.specs.declared.fault.Cause.{Cause}
use Rattle.ppd_check_names.specs.Names.{Scope, meaning, declare, in_innermost}
use Rattle.ppd_parse.specs.Front.{looked_up}
use Rattle.std.specs.Option.{option_or}
use Rattle.ppd_check_names.specs.declared.meaning.Meaning.{Meaning}
use Rattle.ppd_check_names.specs.declared.meaning.Meaning.TheVariants as M
use Rattle.ppd_check_names.specs.Faults.{if_so}
use Rattle.ppd_check_names.specs.Syntax.{Formula, number, variable, element, negated, inverted, two, both, either}
use Rattle.ppd_check_stmts.specs.Expressions.{read, term_of, name_faults, formula_faults}
use Rattle.ppd_check_stmts.proofs.Vocabulary.{wrong_use}
use Rattle.ppd_check.proofs.Named.Rightly.{IsThere, AreThere, AreAllThere}

-- Lists of no faults.

pub nil_left : {X : Type 0} (xs ys : List X) → xs ++ ys ≡ [] → xs ≡ []
nil_left [] ys h = refl
nil_left (x ∷ xs) ys h = cc

pub nil_right : {X : Type 0} (xs ys : List X) → xs ++ ys ≡ [] → ys ≡ []
nil_right [] ys h = h
nil_right (x ∷ xs) ys h = cc

pub not_nil : {X : Type 0} (x : X) (xs : List X) → x ∷ xs ≡ [] → ⊥
not_nil x xs h = cc

pub unless_true : (b : Bool) (q : Place) (c : Cause) → if_so (not b) q c ≡ [] → b ≡ true
unless_true true q c h = refl
unless_true false q c h = absurd (not_nil _ _ h)

pub if_so_false : (b : Bool) (q : Place) (c : Cause) → if_so b q c ≡ [] → b ≡ false
if_so_false true q c h = absurd (not_nil _ _ h)
if_so_false false q c h = refl

-- A name that may stand without an index is a scalar variable, and one with an index an array.

pub scalar_used : (P : Option Meaning → Type 0) → ((base : ℕ) → P (Some (M.Shared base None))) → ((base : ℕ) → P (Some (M.Local base None)))
    → (o : Option Meaning) (q : Place) → wrong_use U.Scalar o q ≡ [] → P o
scalar_used P s l (Some (M.Shared base None)) q h = s base
scalar_used P s l (Some (M.Local base None)) q h = l base
scalar_used P s l o q h = absurd (not_nil _ _ h)

pub array_used : (P : Option Meaning → Type 0) → ((base n : ℕ) → P (Some (M.Shared base (Some n)))) → ((base n : ℕ) → P (Some (M.Local base (Some n))))
    → (o : Option Meaning) (q : Place) → wrong_use U.Element o q ≡ [] → P o
array_used P s l (Some (M.Shared base (Some n))) q h = s base n
array_used P s l (Some (M.Local base (Some n))) q h = l base n
array_used P s l o q h = absurd (not_nil _ _ h)

module _ (p : Program) (locals : List Var) where
  -- What a name means is there.

  found_there : (scope : Scope) (x : List ℕ) → AreThere p locals scope → IfSome (looked_up scope x) (IsThere p locals)
  found_there [] x h = tt
  found_there (e ∷ scope) x h = go (bytes_eq x e.0) (found_there scope x h.1)
    where
      go : (b : Bool) → IfSome (looked_up scope x) (IsThere p locals) → IfSome (if b then Some e.1 else looked_up scope x) (IsThere p locals)
      go true r = h.0
      go false r = r

  pub meaning_there : (scopes : List Scope) (x : List ℕ) → AreAllThere p locals scopes → IfSome (meaning scopes x) (IsThere p locals)
  meaning_there [] x h = tt
  meaning_there (scope ∷ scopes) x h = go (looked_up scope x) (found_there scope x h.0) (meaning_there scopes x h.1)
    where
      go : (o : Option Meaning) → IfSome o (IsThere p locals) → IfSome (meaning scopes x) (IsThere p locals) → IfSome (option_or o (meaning scopes x)) (IsThere p locals)
      go None a b = b
      go (Some m) a b = a

  there_last : (scope : Scope) (x : List ℕ) (m : Meaning) → IsThere p locals m → AreThere p locals scope → AreThere p locals (scope ++ (x, m) ∷ [])
  there_last [] x m a h = (a, tt)
  there_last (e ∷ scope) x m a h = (h.0, there_last scope x m a h.1)

  pub declare_there : (scope : Scope) (x : List ℕ) (m : Meaning) → IsThere p locals m → AreThere p locals scope → AreThere p locals (declare x m scope)
  declare_there scope x m a h = go (is_some (looked_up scope x))
    where
      go : (b : Bool) → AreThere p locals (if b then scope else scope ++ (x, m) ∷ [])
      go true = h
      go false = there_last scope x m a h

  pub innermost_there : (scopes : List Scope) (x : List ℕ) (m : Meaning) → IsThere p locals m → AreAllThere p locals scopes → AreAllThere p locals (in_innermost (declare x m) scopes)
  innermost_there [] x m a h = h
  innermost_there (scope ∷ scopes) x m a h = (declare_there scope x m a h.0, h.1)

  -- Expressions.

  scalar_whole : (o : Option Meaning) (q : Place) → IfSome o (IsThere p locals) → wrong_use U.Scalar o q ≡ [] → NamesWhole p.shared locals (read o None)
  scalar_whole o q a h =
      scalar_used (λ m. IfSome m (IsThere p locals) → NamesWhole p.shared locals (read m None)) (λ base b. b) (λ base b. b) o q h a

  element_whole : (o : Option Meaning) (q : Place) (i : Term) → IfSome o (IsThere p locals) → wrong_use U.Element o q ≡ [] → NamesWhole p.shared locals i
      → NamesWhole p.shared locals (read o (Some i))
  element_whole o q i a h w =
      array_used (λ m. IfSome m (IsThere p locals) → NamesWhole p.shared locals (read m (Some i))) (λ base n b. (b, w)) (λ base n b. (b, w)) o q h a

  pub formula_whole : (s : List Scope) (f : Formula) → AreAllThere p locals s → formula_faults s f ≡ [] → NamesWhole p.shared locals (term_of s f)
  formula_whole s (number n) there h = tt
  formula_whole s (variable x) there h = scalar_whole (meaning s x.text) x.place (meaning_there s x.text there) h
  formula_whole s (element x i) there h =
      element_whole (meaning s x.text) x.place (term_of s i) (meaning_there s x.text there) (nil_left (name_faults U.Element s x) (formula_faults s i) h)
      (formula_whole s i there (nil_right (name_faults U.Element s x) (formula_faults s i) h))
  formula_whole s (negated e) there h = formula_whole s e there h
  formula_whole s (inverted e) there h = formula_whole s e there h
  formula_whole s (two op a b) there h =
      (formula_whole s a there (nil_left (formula_faults s a) (formula_faults s b) h), formula_whole s b there (nil_right (formula_faults s a) (formula_faults s b) h))
  formula_whole s (both a b) there h =
      (formula_whole s a there (nil_left (formula_faults s a) (formula_faults s b) h), formula_whole s b there (nil_right (formula_faults s a) (formula_faults s b) h))
  formula_whole s (either a b) there h =
      (formula_whole s a there (nil_left (formula_faults s a) (formula_faults s b) h), formula_whole s b there (nil_right (formula_faults s a) (formula_faults s b) h))

  pub formulas_whole : (s : List Scope) (fs : List Formula) → AreAllThere p locals s → flat_map (formula_faults s) fs ≡ [] → All (NamesWhole p.shared locals) (map (term_of s) fs)
  formulas_whole s [] there h = All-nil (NamesWhole p.shared locals)
  formulas_whole s (f ∷ fs) there h =
      All-cons (NamesWhole p.shared locals) (term_of s f) (map (term_of s) fs)
      (formula_whole s f there (nil_left (formula_faults s f) (flat_map (formula_faults s) fs) h))
      (formulas_whole s fs there (nil_right (formula_faults s f) (flat_map (formula_faults s) fs) h))
