-- By its need a step stays in the interval where its head does.
use Rattle.std.proofs.Common.{◌≡◌, ℕ, ◌+◌, ℤ, List, Bool, true, false, Some, None, Option, Ok, Err, refl, length, zero, suc}
use Rattle.std.specs.Prelude.{nat_lt, if◌then◌else◌}
use Rattle.ppd_ast.specs.declared.program.Program.{Program}
use Rattle.ppd_ast.specs.declared.plan.Plan.{Plan}
use Rattle.ppd_sem.specs.declared.proc.Frame.{Frame}
use Rattle.ppd_sem.specs.declared.proc.Todo.{Todo}
use Rattle.ppd_sem.specs.declared.proc.Proc.{Proc}
use Rattle.ppd_sem.specs.Deed.{Deed, invoke, leave, send}
use Rattle.ppd_sem.specs.Asked.{Asked}
use Rattle.ppd_sem.specs.Tables.{block_of, capacity_of, unit_of}
use Rattle.ppd_ast.specs.declared.plan.BlockKind.TheVariants as block_kind
use Rattle.ppd_ast.specs.declared.plan.Start.TheVariants as start
use Rattle.ppd_ast.specs.declared.status.Trap.TheVariants as trap
use Rattle.ppd_ast.specs.Lookups.{kind_of}
use Rattle.ppd_ast.specs.declared.limits.TheConstants.{MOST_CALLS}
use Rattle.ppd_sem.specs.declared.asking.Pause.TheVariants.{Wants, Traps}
use Rattle.ppd_sem.specs.declared.proc.Need.{Need}
use Rattle.ppd_sem.specs.declared.proc.Need.TheVariants.{Invoke, Offer, Done, Trap}
use Rattle.ppd_sem.specs.Process.{need_of_deed, need_of_asked, need_of_head, need_of_leaving, need_of_send, offer_of, head_deed, entry_of}
use Rattle.ppd_sem.proofs.NeedWords.{need_by_entry, need_by_offer}
use Rattle.ppd_sem.specs.Described.{ends_body}
use Rattle.law_steps.proofs.Vocabulary.Relation.{Rests, Stacked, Stays, StaysAt, Yields}
use Rattle.law_steps.proofs.Beside.Sends.{offered_goes_on}

module _ (program : Program) (used inside : ℕ → Type 0) (calls : Type 0) (closer : Todo) (home : ℕ) where
  -- the step of this need stays in the interval
  abbrev pub StaysBy : (t : Todo) (fs gs : List Frame) (todo : List Todo) → Need → Asked Deed
      → Stacked program used inside calls closer home fs gs todo → Type 0
  StaysBy t fs gs todo (Offer c v) q x = Rests x
  StaysBy t fs gs todo (Done c u) q x = (ends_body (kind_of program t.stmt) ≡ false) × Rests x
  StaysBy t fs gs todo n q x = Yields (λ d. Stays d x) q

  deed_stays : (plan : Plan) (t : Todo) (s : Proc) (fs gs : List Frame) (todo : List Todo) (d : Deed)
      (left : List ℤ) (x : Stacked program used inside calls closer home fs gs todo) → Stays d x
      → StaysBy t fs gs todo (need_of_deed program plan t.stmt s d) (Ok (d, left)) x
  deed_stays plan t s fs gs todo (send c v) left x k = sending (capacity_of program c)
    where
      sending : (n : ℕ) → StaysBy t fs gs todo (need_of_send plan t.stmt n c v) (Ok (send c v, left)) x
      sending zero = k
      sending (suc n) = k
  deed_stays plan t s fs gs todo leave left x k = leaving (block_of plan (block_kind.Loop t.stmt))
    where
      leaving : (o : Option ℕ) → StaysBy t fs gs todo (need_of_leaving plan t.stmt o) (Ok (leave, left)) x
      leaving None = k
      leaving (Some b) = k
  deed_stays plan t s fs gs todo (invoke f values into) left x k = calling_by (nat_lt MOST_CALLS (s.below + length s.frames))
    where
      calling_by : (deep : Bool)
          → StaysBy t fs gs todo (if deep then Trap trap.Depth else Invoke (block_of plan (block_kind.Function f))
          (unit_of plan (start.Entry f))) (Ok (invoke f values into, left)) x
      calling_by true = k
      calling_by false = k
  deed_stays plan t s fs gs todo d left x k = k

  asked_stays : (plan : Plan) (t : Todo) (s : Proc) (fs gs : List Frame) (todo : List Todo) (q : Asked Deed)
      (x : Stacked program used inside calls closer home fs gs todo) → Yields (λ d. Stays d x) q
      → StaysBy t fs gs todo (need_of_asked program plan t.stmt s q) q x
  asked_stays plan t s fs gs todo (Ok p) x k = deed_stays plan t s fs gs todo p.0 p.1 x k
  asked_stays plan t s fs gs todo (Err (Wants c)) x k = tt
  asked_stays plan t s fs gs todo (Err (Traps y)) x k = tt

  entry_stays : (plan : Plan) (t : Todo) (s : Proc) (fs gs : List Frame) (todo : List Todo) (o : Option ℕ)
      (q : Asked Deed) (x : Stacked program used inside calls closer home fs gs todo) → Yields (λ d. Stays d x) q
      → StaysBy t fs gs todo (need_by_entry program plan t.stmt s o q) q x
  entry_stays plan t s fs gs todo (Some b) q x k = k
  entry_stays plan t s fs gs todo None q x k = asked_stays plan t s fs gs todo q x k

  pub head_stays : (plan : Plan) (t : Todo) (s : Proc) (fs gs : List Frame) (todo : List Todo)
      (x : Stacked program used inside calls closer home fs gs todo)
      → StaysAt (offer_of program t) (head_deed program t s) x
      → StaysBy t fs gs todo (need_of_head program plan t s) (head_deed program t s) x
  head_stays plan t s fs gs todo x k = by (offer_of program t) refl k
    where
      by : (o : Option ℕ) → offer_of program t ≡ o → StaysAt o (head_deed program t s) x
          → StaysBy t fs gs todo (need_by_offer plan t.stmt o
          (need_by_entry program plan t.stmt s (entry_of program plan t) (head_deed program t s)))
          (head_deed program t s) x
      by (Some c) e k = (offered_goes_on program t c e, k)
      by None e k = entry_stays plan t s fs gs todo (entry_of program plan t) (head_deed program t s) x k
