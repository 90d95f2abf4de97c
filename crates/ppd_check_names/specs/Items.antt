-- The items that the children of a node say, child by child.
use Rattle.std.specs.Prelude.{ℕ, ◌+◌, ◌||◌, if◌then◌else◌, List, [], ◌∷◌, Option, Some, None}
use Rattle.ppd_parse.specs.declared.token.Kind.TheVariants as K
use Rattle.ppd_ast.specs.declared.limits.TheConstants.{MOST_SHARED_CELLS, MOST_START, LEAST_CAPACITY, MOST_CAPACITY}
use Rattle.ppd_ast.specs.declared.program.Place.{Place}
use Rattle.ppd_check_names.specs.declared.objects.Numbered.{Numbered}
use Rattle.ppd_check_names.specs.declared.globals.Sort.{Sort}
use Rattle.ppd_check_names.specs.declared.globals.Sort.TheVariants.{Array, Semaphore, Channel}
use Rattle.ppd_check_names.specs.Nodes.{label_name}
use Rattle.ppd_check_names.specs.declared.nodes.Number.{Number}
use Rattle.ppd_check_names.specs.Syntax.{Name, Item, shared_array, semaphore, channel}
use Rattle.ppd_check_names.specs.Reading.{Phrase, phrase, kind, same_kind, name_at, number_at}

-- the number behind the name at child k, and 0 at the name's place where there is none
abbrev pub number_after : Place → List Phrase → ℕ → Number
number_after p ps k =
    if same_kind K.AssignMark (kind (phrase ps (k + 1))) || same_kind K.LeftBracket (kind (phrase ps (k + 1)))
    then number_at ps (k + 2)
    else record { value = 0; place = p }

-- the item that child k names, if it is a name
abbrev pub numbered_at : (Name → Number → Item) → List Phrase → ℕ → List Item
numbered_at make ps k =
    if same_kind K.Name (kind (phrase ps k)) then make (name_at ps k) (number_after (name_at ps k).place ps k) ∷ []
    else []

-- What is declared with a number: the item that it is, and the least and the most number that it may have.

abbrev pub numbered_item : Sort → Name → Number → Item
numbered_item Array = shared_array
numbered_item Semaphore = semaphore
numbered_item Channel = channel

abbrev pub least_number : Sort → ℕ
least_number Array = 1
least_number Semaphore = 0
least_number Channel = LEAST_CAPACITY

abbrev pub most_number : Sort → ℕ
most_number Array = MOST_SHARED_CELLS
most_number Semaphore = MOST_START
most_number Channel = MOST_CAPACITY

-- the item of a name with its number, where there is one
abbrev pub said_item : (Name → Number → Item) → Option Numbered → List Item
said_item make None = []
said_item make (Some n) = make (label_name n.label) n.size ∷ []
