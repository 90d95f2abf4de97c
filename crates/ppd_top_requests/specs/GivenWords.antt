-- What words give to options that take a value each and to names, where it is known how a word is spelled.
pub use Rattle.clap.specs.Walk.{Text, texts}
use Rattle.std.specs.Prelude.{ℕ, ◌+◌, Bool, true, false, ◌&&◌, List, [], ◌∷◌, ◌++◌, Option, Some, None, is_none}
use Rattle.std.specs.Prelude.{if◌then◌else◌, option_and_then, option_map, slice_get}
use Rattle.std.specs.List.{find, list_any, list_all}
use Rattle.std.specs.Str.{bytes_eq}

-- the options and the names that were used, each with its word
abbrev pub Uses : Type 0
Uses = List (Text × Text)

abbrev pub was_used : Text → Uses → Bool
was_used id uses = list_any (λ u. bytes_eq u.0 id) uses

-- the word of an option or of a name
abbrev pub value_of : Text → Uses → Option Text
value_of id uses = option_map (λ u. u.1) (find (λ u. bytes_eq u.0 id) uses)

-- what a word is where options may stand: the end of the options, an option that waits for its value or that
-- has it, another word that is no name, or a name
pub data Kind : Type 0 where
  ends : Kind
  waits : Text → Kind
  sets : Text → Text → Kind
  other : Kind
  name : Kind

-- what the words gave so far: the option that waits, whether the options are over, how many names there are,
-- and all that was used
pub record Given : Type 0 where
  pub waiting : Option Text
  pub ended : Bool
  pub count : ℕ
  pub uses : Uses

abbrev pub nothing_given : Given
nothing_given = record { waiting = None; ended = false; count = 0; uses = [] }

-- each at most once
abbrev pub with_use : Text → Text → Given → Option Given
with_use id value g = if was_used id g.uses then None else Some (record g { uses = g.uses ++ (id, value) ∷ [] })

-- the next of the names
abbrev pub with_name : List Text → Text → Given → Option Given
with_name names w g =
    option_and_then (λ id. with_use id w (record g { count = g.count + 1 })) (slice_get names g.count)

-- a word of this kind: the value of the option that waits, which is a word that could be a name; where none waits, what
-- its kind says
abbrev pub with_word : List Text → Option Text → Kind → Text → Given → Option Given
with_word names (Some id) name w g = with_use id w (record g { waiting = None })
with_word names (Some id) _ w g = None
with_word names None ends w g = Some (record g { ended = true })
with_word names None (waits id) w g = Some (record g { waiting = Some id })
with_word names None (sets id value) w g = with_use id value g
with_word names None other w g = None
with_word names None name w g = with_name names w g

-- one more word: after the end of the options it is a name
abbrev pub after_word : (Text → Kind) → List Text → Given → Text → Option Given
after_word spell names g w = if g.ended then with_name names w g else with_word names g.waiting (spell w) w g

-- all words: after the last no option waits, and each name is there
abbrev pub given_from : (Text → Kind) → List Text → Given → List Text → Option Uses
given_from spell names g [] =
    if is_none g.waiting && list_all (λ id. was_used id g.uses) names then Some g.uses else None
given_from spell names g (w ∷ ws) = option_and_then (λ h. given_from spell names h ws) (after_word spell names g w)
