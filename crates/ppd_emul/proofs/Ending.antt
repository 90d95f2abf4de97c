-- A turn of a process that ends here: what its status asks of the next step.
use Rattle.std.proofs.Common.{◌≡◌, Bool, true, false, None, Some, Ok, Err, Option, refl, sym, ap, ◌∙◌, arith}
use Rattle.std.specs.Prelude.{ℕ, if◌then◌else◌, is_some}
use Rattle.ppd_ast.specs.declared.plan.Plan.{Plan}
use Rattle.ppd_ast.specs.declared.program.Program.{Program}
use Rattle.ppd_ast.specs.declared.status.Status.TheVariants as status
use Rattle.ppd_ast.specs.declared.status.Trap.{Trap as TrapOf}
use Rattle.ppd_model.specs.Fits.{same_trap}
use Rattle.ppd_model.specs.Replay.{Replaying, Turn, counted, fail, finished, goes_on, is_budget, turn_by_end, with_event}
use Rattle.ppd_model.specs.declared.block_trace.EmulError.{EmulError}
use Rattle.ppd_model.specs.declared.wanted.Wanted.TheVariants as wanted
use Rattle.ppd_emul_values.specs.Emulated.{IfFailed, IsTurn, turned}
use Rattle.ppd_emul_values.specs.declared.replayer.Code.{Code}
use Rattle.ppd_emul_values.specs.declared.replayer.Replayer.{Replayer}
use Rattle.ppd_emul_values.specs.declared.replayer.Turned.TheVariants.{Done as DoneNow}
use Rattle.ppd_model.specs.Synchronizations.{kind_of_sync}
use Rattle.ppd_sem.specs.declared.proc.Answer.TheVariants.{Go}
use Rattle.ppd_sem.specs.declared.proc.Need.{Need}
use Rattle.ppd_sem.specs.declared.proc.Need.TheVariants.{Read, Write, Plain, Enter, Leave, Invoke, Back, P, V, Send, Offer, Done, Recv, End, Trap, Budget, Stopped}
use Rattle.ppd_emul.proofs.Followed.{failed_so}

-- ---- turns of no step

pub stays : (code : Code) (x : Replayer) (steps : ℕ) (e : EmulError) (t u : Turn) → t ≡ u → IfFailed e (turned (Err e) x ≡ t) → IsTurn code x x steps steps (Err e) u
stays code x steps e t u same h = record {
  told = failed_so e (turned (Err e) x ≡ t) (turned (Err e) x ≡ u) (λ k. k ∙ same) h;
  going = tt;
  one = omega arith;
  ticks = refl;
}

pub ends : (code : Code) (x : Replayer) (steps : ℕ) (u : Turn) → turned (Ok DoneNow) x ≡ u → IsTurn code x x steps steps (Ok DoneNow) u
ends code x steps u same = record { told = same; going = tt; one = omega arith; ticks = refl }

-- ---- what it comes to

module _ (program : Program) (plan : Plan) (r : Replaying) where
  pub trap_ends : (t u : TrapOf) → same_trap t u ≡ true → finished (counted (with_event program plan Go None r)) ≡ turn_by_end program plan (Some (status.Trap t)) (Trap u) r
  trap_ends t u e = ap (λ (b : Bool). if b then finished (counted (with_event program plan Go None r)) else fail r (wanted.End (status.Trap u))) (sym e)

  pub no_trap : (t : TrapOf) (need : Need) → ((u : TrapOf) → need ≡ Trap u → ⊥) → is_budget need ≡ false → goes_on program plan need r ≡ turn_by_end program plan (Some (status.Trap t)) need r
  no_trap t (Read c) other paid = refl
  no_trap t (Write c v) other paid = refl
  no_trap t Plain other paid = refl
  no_trap t (Enter b u) other paid = refl
  no_trap t (Leave b u) other paid = refl
  no_trap t (Invoke b u) other paid = refl
  no_trap t (Back b u) other paid = refl
  no_trap t (P o u) other paid = refl
  no_trap t (V o u) other paid = refl
  no_trap t (Send o v u) other paid = refl
  no_trap t (Offer o v) other paid = refl
  no_trap t (Done o u) other paid = refl
  no_trap t (Recv o u) other paid = refl
  no_trap t (End b) other paid = refl
  no_trap t (Trap u) other paid = absurd (other u refl)
  no_trap t Budget other paid = absurd (cc paid)
  no_trap t Stopped other paid = refl

  -- blocked: the next step is a synchronization
  pub blocked : (need : Need) → is_budget need ≡ false → (if is_some (kind_of_sync need) then finished r else goes_on program plan need r) ≡ turn_by_end program plan (Some status.Blocked) need r
  blocked (Read c) paid = refl
  blocked (Write c v) paid = refl
  blocked Plain paid = refl
  blocked (Enter b u) paid = refl
  blocked (Leave b u) paid = refl
  blocked (Invoke b u) paid = refl
  blocked (Back b u) paid = refl
  blocked (P o u) paid = refl
  blocked (V o u) paid = refl
  blocked (Send o v u) paid = refl
  blocked (Offer o v) paid = refl
  blocked (Done o u) paid = refl
  blocked (Recv o u) paid = refl
  blocked (End b) paid = refl
  blocked (Trap t) paid = refl
  blocked Budget paid = absurd (cc paid)
  blocked Stopped paid = refl
