-- The two steps of a send on a channel of capacity 0.
use Rattle.std.specs.Prelude.{◌≡◌, ◌⊎◌, ℕ, ℤ, false, IsTrue, IsSome, List, [], ◌∷◌, drop, ⊤}
use Rattle.std.specs.List.{All}
use Rattle.ppd_ast.specs.declared.program.Program.{Program}
use Rattle.ppd_ast.specs.Lookups.{kind_of}
use Rattle.ppd_sem.specs.declared.proc.Need.{Need}
use Rattle.ppd_sem.specs.declared.proc.Need.TheVariants.{Offer, Done, Budget}
use Rattle.ppd_sem.specs.declared.proc.Proc.{Proc}
use Rattle.ppd_sem.specs.declared.proc.Todo.{Todo}
use Rattle.ppd_sem.specs.Passed.{next_stmt_of}
use Rattle.ppd_sem.specs.Process.{chan_of}

-- none of these is a send whose offer was taken
abbrev pub HasNoOffer : List Todo → Type 0
HasNoOffer todo = All (λ t. t.offered ≡ false) todo

-- the head alone may be a send whose offer was taken
abbrev pub OffersAtHead : Program → List Todo → Type 0
OffersAtHead program [] = ⊤
OffersAtHead program (t ∷ ts) = (IsTrue t.offered → IsSome (chan_of (kind_of program t.stmt))) × HasNoOffer ts

-- the next statement is the same, and so is what is to do after it
pub record IsAtOneStatement (before after : Proc) : Type 0 where
  pub next : next_stmt_of after.todo ≡ next_stmt_of before.todo
  pub later : drop 1 after.todo ≡ drop 1 before.todo

-- the completion on this channel, with the unit that it starts; or the budget does not allow it
abbrev pub Completes : (chan unit : ℕ) → Need → Type 0
Completes chan unit need = (need ≡ Done chan unit) ⊎ (need ≡ Budget)

-- the offer of a value on this channel
abbrev pub Offers : (chan : ℕ) → Need → Type 0
Offers chan need = (value : ℤ) × (need ≡ Offer chan value)
