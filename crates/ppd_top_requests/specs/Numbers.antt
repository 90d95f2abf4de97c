-- The words of `flow` and of `show` as they are read by hand, an option of a number after the other: numbers are
-- tested as they come. The top call has the same definition of its own; here it is the other side of a law.
use Rattle.std.specs.Prelude.{ℕ, Bool, true, false, not, ◌&&◌, ◌||◌, nat_eq, nat_le, List, [], ◌∷◌, drop}
use Rattle.std.specs.Prelude.{length, Option, Some, None, is_none, is_some, if◌then◌else◌, codes, option_and_then}
use Rattle.std.specs.Borrow.{Bor}
use Rattle.std.specs.List.{starts_with}
use Rattle.std.specs.Str.{bytes_eq}
use Rattle.ppd_ast.specs.Digits.{number_in}
use Rattle.ppd_top_requests.specs.GivenWords.{Text, Uses, value_of}
use Rattle.ppd_top_requests.specs.Spelling.{is_dashed}

pub data Choice : Type 0 where
  budget : Choice
  leaf : Choice
  loops : Choice

pub data Word : Type 0 where
  Ends : Word
  Waits : Choice → Word
  Sets : Choice → Option ℕ → Word
  Other : Word
  Name : Word

abbrev pub spelled_word : Text → Word
spelled_word w =
    if bytes_eq w (codes "--") then Ends
    else if bytes_eq w (codes "--budget") then Waits budget
    else if bytes_eq w (codes "--leaf") then Waits leaf
    else if bytes_eq w (codes "--loops") then Waits loops
    else if starts_with nat_eq w (codes "--budget=") then Sets budget (number_in (drop 9 w))
    else if starts_with nat_eq w (codes "--leaf=") then Sets leaf (number_in (drop 7 w))
    else if starts_with nat_eq w (codes "--loops=") then Sets loops (number_in (drop 8 w))
    else if is_dashed w then Other else Name

pub record NumbersGiven : Type 0 where
  pub asks : Option Choice
  pub ended : Bool
  pub budget_is : Option ℕ
  pub leaf_is : Option ℕ
  pub loops_is : Option ℕ
  pub source : Option (Bor Text)

abbrev pub no_numbers : NumbersGiven
no_numbers =
    record { asks = None; ended = false; budget_is = None; leaf_is = None; loops_is = None; source = None }

abbrev pub given_in : Choice → NumbersGiven → Option ℕ
given_in budget g = g.budget_is
given_in leaf g = g.leaf_is
given_in loops g = g.loops_is

abbrev pub with_option : Choice → ℕ → NumbersGiven → NumbersGiven
with_option budget n g = record g { asks = None; budget_is = Some n }
with_option leaf n g = record g { asks = None; leaf_is = Some n }
with_option loops n g = record g { asks = None; loops_is = Some n }

-- the name, which is not empty and was not given before
abbrev pub with_source : Bor Text → NumbersGiven → Option NumbersGiven
with_source w g = if is_none g.source && nat_le 1 (length w.now) then Some (record g { source = Some w }) else None

-- what is asked for: the numbers that were given, and the name
pub record Asked : Type 0 where
  pub budget_is : Option ℕ
  pub leaf_is : Option ℕ
  pub loops_is : Option ℕ
  pub source : Text

abbrev pub asked_for : NumbersGiven → Option (Bor Text) → Option Asked
asked_for g None = None
asked_for g (Some w) =
    Some (record { budget_is = g.budget_is; leaf_is = g.leaf_is; loops_is = g.loops_is; source = w.now })

-- no option waits for its number, and there is a name
abbrev pub all_given : NumbersGiven → Option Asked
all_given g = if is_some g.asks then None else asked_for g g.source

-- `show` has no budget
abbrev pub all_shown : NumbersGiven → Option Asked
all_shown g = if is_some g.asks || not (is_none g.budget_is) then None else asked_for g g.source

abbrev pub and_more : Option NumbersGiven → (NumbersGiven → Option Asked) → Option Asked
and_more None next = None
and_more (Some g) next = next g

-- `allowed` says which numbers an option may have
module _ (allowed : Choice → ℕ → Bool) where
  -- an option's number, which is allowed and was not given before
  abbrev pub with_number : Choice → Option ℕ → NumbersGiven → Option NumbersGiven
  with_number c None g = None
  with_number c (Some n) g = if is_none (given_in c g) && allowed c n then Some (with_option c n g) else None

  abbrev pub with_spelled : Word → Bor Text → NumbersGiven → Option NumbersGiven
  with_spelled Ends w g = Some (record g { ended = true })
  with_spelled (Waits c) w g = Some (record g { asks = Some c })
  with_spelled (Sets c n) w g = with_number c n g
  with_spelled Other w g = None
  with_spelled Name w g = with_source w g

  abbrev pub after_wait : Option Choice → Bor Text → NumbersGiven → Option NumbersGiven
  after_wait (Some c) w g = with_number c (number_in w.now) g
  after_wait None w g = with_spelled (spelled_word w.now) w g

  -- one more word: after the end of the options it is the name
  abbrev pub after_one : NumbersGiven → Bor Text → Option NumbersGiven
  after_one g w = if g.ended then with_source w g else after_wait g.asks w g

  -- all words of `flow`
  abbrev pub numbers_from : NumbersGiven → List (Bor Text) → Option Asked
  numbers_from g [] = all_given g
  numbers_from g (w ∷ ws) = and_more (after_one g w) (λ h. numbers_from h ws)

  -- all words of `show`
  abbrev pub shown_from : NumbersGiven → List (Bor Text) → Option Asked
  shown_from g [] = all_shown g
  shown_from g (w ∷ ws) = and_more (after_one g w) (λ h. shown_from h ws)

-- ---- the same by a test at the end

abbrev pub choice_of : Text → Choice
choice_of id = if bytes_eq id (codes "budget") then budget else if bytes_eq id (codes "leaf") then leaf else loops

module _ (allowed : Choice → ℕ → Bool) where
  abbrev pub allows : Choice → Option ℕ → Bool
  allows c None = false
  allows c (Some n) = allowed c n

  -- a number that the option may have, or a name that is not empty
  abbrev pub good : Text → Text → Bool
  good id value =
      if bytes_eq id (codes "source") then nat_le 1 (length value) else allows (choice_of id) (number_in value)

-- the numbers and the name of what was given
abbrev pub named_of : Uses → Option Text → Option Asked
named_of u None = None
named_of u (Some w) = Some (record {
  budget_is = option_and_then number_in (value_of (codes "budget") u);
  leaf_is = option_and_then number_in (value_of (codes "leaf") u);
  loops_is = option_and_then number_in (value_of (codes "loops") u);
  source = w;
})

abbrev pub asked_of : Option Uses → Option Asked
asked_of None = None
asked_of (Some u) = named_of u (value_of (codes "source") u)
