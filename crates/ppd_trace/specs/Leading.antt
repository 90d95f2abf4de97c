-- The synchronizations to which steps lead, by object and number, and maps from these to the first events that lead
-- to them.
use Rattle.std.specs.Prelude.{◌≡◌, ℕ, nat_eq, Bool, false, ◌&&◌, Option, Some, None, if◌then◌else◌}
use Rattle.std.specs.HashMap.{HashMap, get}
use Rattle.ppd_ast.specs.declared.program.Program.{Program}
use Rattle.ppd_ast.specs.declared.status.SyncKind.{SyncKind}
use Rattle.ppd_ast.specs.declared.status.SyncKind.TheVariants.{P, Send, Recv, Done}
use Rattle.ppd_sem.specs.declared.proc.Need.{Need}
use Rattle.ppd_sem.specs.declared.proc.Need.TheVariants as need
use Rattle.ppd_model.specs.declared.trace.EventId.{EventId}
use Rattle.ppd_model.specs.declared.tracing.Story.{Story}
use Rattle.std.specs.Option.{option_or}
use Rattle.ppd_model.specs.Numbers.{sync}
use Rattle.ppd_sem.specs.Tables.{capacity_of}
use Rattle.ppd_model.specs.Synchronizations.{Sync, leading_from, led_to}

-- an object with a number that is there
abbrev pub with_number : ℕ → Option ℕ → Option (ℕ × ℕ)
with_number object None = None
with_number object (Some number) = Some (object, number)

-- the object and the number of the synchronization of this kind to which one leads
abbrev pub target : Program → SyncKind → Option Sync → Option (ℕ × ℕ)
target program kind None = None
target program kind (Some a) = with_number a.object (led_to (capacity_of program a.object) a.kind kind a.number)

-- there is a target, and it is this object and this number
abbrev pub is_target : Option (ℕ × ℕ) → ℕ → ℕ → Bool
is_target None object number = false
is_target (Some t) object number = nat_eq t.0 object && nat_eq t.1 number

module _ {S : Type 0} where
  -- the event that a map has for an object and a number
  abbrev pub found_in : HashMap (ℕ × ℕ) EventId S → ℕ → ℕ → Option EventId
  found_in leads object number = get (λ x y. nat_eq x.0 y.0 && nat_eq x.1 y.1) leads (object, number)

  -- the event is put into a map for this target, if there is one, where the map has none for it
  abbrev pub KeepsFirst : HashMap (ℕ × ℕ) EventId S → HashMap (ℕ × ℕ) EventId S → Option (ℕ × ℕ) → EventId → Type 0
  KeepsFirst old new t event =
      (object number : ℕ)
      → found_in new object number
      ≡ option_or (found_in old object number) (if is_target t object number then Some event else None)

  -- a map has the first event that leads to each synchronization of this kind
  abbrev pub LeadTo : Program → SyncKind → Story → HashMap (ℕ × ℕ) EventId S → Type 0
  LeadTo program kind story leads =
      (object number : ℕ)
      → found_in leads object number ≡ leading_from program (Some (sync kind object number)) 0 story.steps

  -- four maps have the first events that lead to each `P`, each receive, each send and each completion
  pub record HavePairs (program : Program) (story : Story)
      (takes receives sends completes : HashMap (ℕ × ℕ) EventId S) : Type 0 where
    pub of_takes : LeadTo program P story takes
    pub of_receives : LeadTo program Recv story receives
    pub of_sends : LeadTo program Send story sends
    pub of_completes : LeadTo program Done story completes

  -- the event that the maps have for a synchronization of this number
  abbrev pub looked_up : HashMap (ℕ × ℕ) EventId S → HashMap (ℕ × ℕ) EventId S → HashMap (ℕ × ℕ) EventId S
      → HashMap (ℕ × ℕ) EventId S → Need → ℕ → Option EventId
  looked_up takes receives sends completes (need.P s u) number = found_in takes s number
  looked_up takes receives sends completes (need.Recv c u) number = found_in receives c number
  looked_up takes receives sends completes (need.Send c v u) number = found_in sends c number
  looked_up takes receives sends completes (need.Offer c v) number = found_in sends c number
  looked_up takes receives sends completes (need.Done c u) number = found_in completes c number
  looked_up takes receives sends completes n number = None
