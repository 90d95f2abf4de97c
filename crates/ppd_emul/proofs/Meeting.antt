-- A step whose piece is the one that it needs, and one that needs none.
use Rattle.std.proofs.Common.{◌≡◌, ℕ, ℤ, List, true, false, None, Some, refl}
use Rattle.std.specs.Prelude.{IsSomeAnd}
use Rattle.ppd_ast.specs.declared.plan.Plan.{Plan}
use Rattle.ppd_ast.specs.declared.program.Program.{Program}
use Rattle.ppd_ast.specs.declared.status.SyncKind.{SyncKind}
use Rattle.ppd_ast.specs.declared.status.SyncKind.TheVariants as sync_kind
use Rattle.ppd_emul.specs.Turns.{alone}
use Rattle.ppd_model.specs.Fits.{fits, found_of, wanted_of}
use Rattle.ppd_model.specs.Replay.{Replaying, is_budget, step_without, turn_by_end, turn_by_wanted}
use Rattle.ppd_model.specs.declared.wanted.Found.{Found}
use Rattle.ppd_model.specs.declared.wanted.Wanted.TheVariants as wanted
use Rattle.ppd_model.specs.Pieces.{nested, sync}
use Rattle.ppd_sem.specs.Described.{is_event}
use Rattle.ppd_sem.specs.Entries.{Begins}
use Rattle.ppd_sem.specs.declared.proc.Need.{Need}
use Rattle.ppd_sem.specs.declared.proc.Need.TheVariants.{Read, Write, Plain, Enter, Leave, Invoke, Back, P, V, Send, Offer, Done, Recv, End, Trap, Budget, Stopped}
use Rattle.ppd_sem.specs.declared.proc.Proc.{Proc}

module _ (program : Program) (plan : Plan) (s : Proc) where
  -- it is an event, unless the piece is a nested interval
  pub meets_event : (need : Need) (f : Found) → ((b : ℕ) → fits (wanted.Nested b) f ≡ true → ⊥) → IsSomeAnd (wanted_of program plan s need) (λ w. fits w f ≡ true) → is_event need ≡ true
  meets_event (Read c) f apart h = absurd h
  meets_event (Write c v) f apart h = refl
  meets_event Plain f apart h = refl
  meets_event (Enter b u) f apart h = absurd (apart b h)
  meets_event (Leave b u) f apart h = refl
  meets_event (Invoke b u) f apart h = refl
  meets_event (Back b u) f apart h = refl
  meets_event (P o u) f apart h = refl
  meets_event (V o u) f apart h = refl
  meets_event (Send o v u) f apart h = refl
  meets_event (Offer o v) f apart h = refl
  meets_event (Done o u) f apart h = refl
  meets_event (Recv o u) f apart h = refl
  meets_event (End b) f apart h = refl
  meets_event (Trap t) f apart h = refl
  meets_event Budget f apart h = absurd h
  meets_event Stopped f apart h = absurd h

  -- a synchronization is one
  pub sync_event : (need : Need) (kind : SyncKind) (object number : ℕ) (value : ℤ) → IsSomeAnd (wanted_of program plan s need) (λ w. fits w (found_of (sync kind object number value)) ≡ true) → is_event need ≡ true
  sync_event need kind object number value h = meets_event need (found_of (sync kind object number value)) (other kind) h
    where
      other : (kind : SyncKind) (b : ℕ) → fits (wanted.Nested b) (found_of (sync kind object number value)) ≡ true → ⊥
      other sync_kind.P b e = cc
      other sync_kind.V b e = cc
      other sync_kind.Send b e = cc
      other sync_kind.Recv b e = cc
      other sync_kind.Done b e = cc

  -- a nested interval begins with it
  pub nested_begins : (need : Need) (k n : ℕ) (values : List ℤ) → IsSomeAnd (wanted_of program plan s need) (λ w. fits w (found_of (nested k n values)) ≡ true) → Begins need
  nested_begins (Read c) k n values h = h
  nested_begins (Write c v) k n values h = h
  nested_begins Plain k n values h = h
  nested_begins (Enter b u) k n values h = tt
  nested_begins (Leave b u) k n values h = cc
  nested_begins (Invoke b u) k n values h = tt
  nested_begins (Back None u) k n values h = h
  nested_begins (Back (Some b) u) k n values h = cc
  nested_begins (P o u) k n values h = cc
  nested_begins (V o u) k n values h = cc
  nested_begins (Send o v u) k n values h = cc
  nested_begins (Offer o v) k n values h = cc
  nested_begins (Done o u) k n values h = cc
  nested_begins (Recv o u) k n values h = cc
  nested_begins (End b) k n values h = cc
  nested_begins (Trap t) k n values h = cc
  nested_begins Budget k n values h = h
  nested_begins Stopped k n values h = h

  -- one that needs no piece, is no read and goes on
  pub free_event : (need : Need) → ((k : ℕ) → need ≡ Read k → ⊥) → (need ≡ Stopped → ⊥) → wanted_of program plan s need ≡ None → is_budget need ≡ false → is_event need ≡ true
  free_event (Read c) read stopped free paid = absurd (read c refl)
  free_event (Write c v) read stopped free paid = refl
  free_event Plain read stopped free paid = refl
  free_event (Enter b u) read stopped free paid = absurd (cc free)
  free_event (Leave b u) read stopped free paid = refl
  free_event (Invoke b u) read stopped free paid = refl
  free_event (Back b u) read stopped free paid = refl
  free_event (P o u) read stopped free paid = refl
  free_event (V o u) read stopped free paid = refl
  free_event (Send o v u) read stopped free paid = refl
  free_event (Offer o v) read stopped free paid = refl
  free_event (Done o u) read stopped free paid = refl
  free_event (Recv o u) read stopped free paid = refl
  free_event (End b) read stopped free paid = refl
  free_event (Trap t) read stopped free paid = refl
  free_event Budget read stopped free paid = absurd (cc paid)
  free_event Stopped read stopped free paid = absurd (stopped refl)

module _ (program : Program) (plan : Plan) (r : Replaying) where
  pub alone_without : (need : Need) → ((k : ℕ) → need ≡ Read k → ⊥) → (need ≡ Stopped → ⊥) → alone program plan need r ≡ step_without program plan need r
  alone_without (Read c) read stopped = absurd (read c refl)
  alone_without (Write c v) read stopped = refl
  alone_without Plain read stopped = refl
  alone_without (Enter b u) read stopped = refl
  alone_without (Leave b u) read stopped = refl
  alone_without (Invoke b u) read stopped = refl
  alone_without (Back b u) read stopped = refl
  alone_without (P o u) read stopped = refl
  alone_without (V o u) read stopped = refl
  alone_without (Send o v u) read stopped = refl
  alone_without (Offer o v) read stopped = refl
  alone_without (Done o u) read stopped = refl
  alone_without (Recv o u) read stopped = refl
  alone_without (End b) read stopped = refl
  alone_without (Trap t) read stopped = refl
  alone_without Budget read stopped = refl
  alone_without Stopped read stopped = absurd (stopped refl)

  -- the turn of a process that does not end here
  pub wanted_turn : (need : Need) → (need ≡ Budget → ⊥) → turn_by_wanted program plan need (wanted_of program plan r.proc need) r ≡ turn_by_end program plan None need r
  wanted_turn (Read c) budget = refl
  wanted_turn (Write c v) budget = refl
  wanted_turn Plain budget = refl
  wanted_turn (Enter b u) budget = refl
  wanted_turn (Leave b u) budget = refl
  wanted_turn (Invoke b u) budget = refl
  wanted_turn (Back b u) budget = refl
  wanted_turn (P o u) budget = refl
  wanted_turn (V o u) budget = refl
  wanted_turn (Send o v u) budget = refl
  wanted_turn (Offer o v) budget = refl
  wanted_turn (Done o u) budget = refl
  wanted_turn (Recv o u) budget = refl
  wanted_turn (End b) budget = refl
  wanted_turn (Trap t) budget = refl
  wanted_turn Budget budget = absurd (budget refl)
  wanted_turn Stopped budget = refl

-- the budget is enough for a step that does not say that it is not
pub within_budget : (need : Need) → (need ≡ Budget → ⊥) → is_budget need ≡ false
within_budget (Read c) budget = refl
within_budget (Write c v) budget = refl
within_budget Plain budget = refl
within_budget (Enter b u) budget = refl
within_budget (Leave b u) budget = refl
within_budget (Invoke b u) budget = refl
within_budget (Back b u) budget = refl
within_budget (P o u) budget = refl
within_budget (V o u) budget = refl
within_budget (Send o v u) budget = refl
within_budget (Offer o v) budget = refl
within_budget (Done o u) budget = refl
within_budget (Recv o u) budget = refl
within_budget (End b) budget = refl
within_budget (Trap t) budget = refl
within_budget Budget budget = absurd (budget refl)
within_budget Stopped budget = refl
