-- The head asks for the same, and needs the same, in the process and in its replay.
use Rattle.std.proofs.Common.{◌≡◌, ℕ, ◌+◌, ℤ, List, ◌∷◌, Some, None, Option, Ok, Err, refl, ap, subst, ◌∙◌, arith, length}
use Rattle.std.specs.Prelude.{nat_lt, if◌then◌else◌}
use Rattle.ppd_ast.specs.declared.program.Program.{Program}
use Rattle.ppd_ast.specs.declared.plan.Plan.{Plan}
use Rattle.ppd_sem.specs.declared.proc.Frame.{Frame}
use Rattle.ppd_sem.specs.declared.proc.Todo.{Todo}
use Rattle.ppd_sem.specs.declared.proc.Proc.{Proc}
use Rattle.ppd_sem.specs.Deed.{Deed, ask_deed, invoke, back, finish}
use Rattle.ppd_sem.specs.Asked.{Asked}
use Rattle.ppd_sem.specs.Tables.{block_of, unit_of}
use Rattle.ppd_ast.specs.declared.plan.BlockKind.TheVariants as block_kind
use Rattle.ppd_ast.specs.declared.plan.Start.TheVariants as start
use Rattle.ppd_ast.specs.declared.status.Trap.TheVariants as trap
use Rattle.ppd_ast.specs.Lookups.{kind_of}
use Rattle.ppd_ast.specs.declared.limits.TheConstants.{MOST_CALLS}
use Rattle.ppd_sem.specs.declared.proc.Need.{Need}
use Rattle.ppd_sem.specs.declared.proc.Need.TheVariants.{Invoke, Back, Trap}
use Rattle.ppd_sem.specs.Process.{need_of_deed, need_of_asked, need_of_head, offer_of, call_unit, head_deed, entry_of, top_frame}
use Rattle.ppd_sem.proofs.NeedWords.{need_by_entry, need_by_offer}
use Rattle.law_steps.proofs.Vocabulary.Relation.{Stacked, at_base, called, HasEnds, IsBlock, IsBeside, Suits, Stays, StaysAt, Yields, IsCalled}
use Rattle.law_steps.proofs.Beside.Asked.{deed_same}
use Rattle.law_steps.proofs.Beside.Deeds.{suits}
use Rattle.law_steps.proofs.Beside.Framed.{Framed, calling}

module _ (program : Program) (used inside : ℕ → Type 0) (calls : Type 0) (closer : Todo) (home : ℕ) (depth : ℕ)
    (ends : HasEnds program) (block : IsBlock program used inside calls) (outside : List Todo) where
  -- what the head asks for, or does
  head_same : (t : Todo) (fs gs : List Frame) (ts : List Todo) (answers : List ℤ)
      → Stacked program used inside calls closer home fs gs (t ∷ ts)
      → ask_deed program.exprs (kind_of program t.stmt) (top_frame fs).cells answers ≡ ask_deed program.exprs
      (kind_of program t.stmt) (top_frame gs).cells answers
  head_same t fs gs ts answers (at_base f g fs' gs' todo same body first within) =
      deed_same used f.cells g.cells same.cells program.exprs (kind_of program t.stmt)
      (block.reads t.stmt within.0.0) answers
  head_same t fs gs ts answers (called f fs' gs' todo k has below) = refl

  abbrev back_need : Plan → List Frame → Need
  back_need plan fs = Back (block_of plan (block_kind.Function (top_frame fs).body)) (call_unit plan (top_frame fs).call)

  back_same : (plan : Plan) (fs gs : List Frame) (todo : List Todo)
      (x : Stacked program used inside calls closer home fs gs todo) → IsCalled x
      → back_need plan fs ≡ back_need plan gs
  back_same plan fs gs todo (at_base f g fs' gs' todo' same body first within) k = absurd k
  back_same plan fs gs todo (called f fs' gs' todo' c has below) k = refl

  -- as many calls are open
  pub record IsOpenAlike (s r : Proc) : Type 0 where
    pub whole : s.below ≡ 0
    pub below : r.below ≡ depth

  open_alike : (s r : Proc) → IsOpenAlike s r → length s.frames ≡ depth + length r.frames
      → s.below + length s.frames ≡ r.below + length r.frames
  open_alike s r o e = omega (arith, o.whole, o.below, e)

  call_same : (plan : Plan) (t f : ℕ) (values : List ℤ) (into : Option ℕ) (s r : Proc) → s.below + length s.frames ≡ r.below + length r.frames
      → need_of_deed program plan t s (invoke f values into) ≡ need_of_deed program plan t r (invoke f values into)
  call_same plan t f values into s r e = ap (λ n. if nat_lt MOST_CALLS n then Trap trap.Depth else Invoke
      (block_of plan (block_kind.Function f)) (unit_of plan (start.Entry f))) e

  deed_need : (plan : Plan) (t : Todo) (s r : Proc) (ts : List Todo) (d : Deed) → IsOpenAlike s r
      → (h : Framed program used inside calls closer home depth ends block outside s.frames r.frames (t ∷ ts))
      → Suits (kind_of program t.stmt) d → Stays d h.stacked
      → need_of_deed program plan t.stmt s d ≡ need_of_deed program plan t.stmt r d
  deed_need plan t s r ts (invoke f values into) o h e k =
      call_same plan t.stmt f values into s r (open_alike s r o
      (h.count
      (calling program used inside calls closer home depth ends block outside t s.frames r.frames ts f e h.stacked)))
  deed_need plan t s r ts (back value) o h e k = back_same plan s.frames r.frames (t ∷ ts) h.stacked k
  deed_need plan t s r ts finish o h e k = absurd k
  deed_need plan t s r ts d o h e k = refl

  asked_need : (plan : Plan) (t : Todo) (s r : Proc) (ts : List Todo) (q : Asked Deed) → IsOpenAlike s r
      → (h : Framed program used inside calls closer home depth ends block outside s.frames r.frames (t ∷ ts))
      → Yields (Suits (kind_of program t.stmt)) q → Yields (λ d. Stays d h.stacked) q
      → need_of_asked program plan t.stmt s q ≡ need_of_asked program plan t.stmt r q
  asked_need plan t s r ts (Ok p) o h e k = deed_need plan t s r ts p.0 o h e k
  asked_need plan t s r ts (Err pause) o h e k = refl

  entry_need : (plan : Plan) (t : ℕ) (s r : Proc) (o : Option ℕ) (q : Asked Deed)
      → need_of_asked program plan t s q ≡ need_of_asked program plan t r q
      → need_by_entry program plan t s o q ≡ need_by_entry program plan t r o q
  entry_need plan t s r (Some b) q e = refl
  entry_need plan t s r None q e = e

  pub deed_is : (s r : Proc) (t : Todo) (ts : List Todo)
      → IsBeside program used inside calls closer home depth outside s r
      → Framed program used inside calls closer home depth ends block outside s.frames r.frames (t ∷ ts)
      → head_deed program t s ≡ head_deed program t r
  deed_is s r t ts b h = head_same t s.frames r.frames ts s.answers h.stacked
      ∙ ap (λ as'. ask_deed program.exprs (kind_of program t.stmt) (top_frame r.frames).cells as') b.answers

  offer_need : (plan : Plan) (t : ℕ) (o : Option ℕ) (n m : Need) → (o ≡ None → n ≡ m)
      → need_by_offer plan t o n ≡ need_by_offer plan t o m
  offer_need plan t (Some c) n m e = refl
  offer_need plan t None n m e = e refl

  -- the head's need, where the step stays in the interval
  pub head_need : (plan : Plan) (s r : Proc) (t : Todo) (ts : List Todo)
      → IsBeside program used inside calls closer home depth outside s r
      → (h : Framed program used inside calls closer home depth ends block outside s.frames r.frames (t ∷ ts))
      → StaysAt (offer_of program t) (head_deed program t s) h.stacked
      → need_of_head program plan t s ≡ need_of_head program plan t r
  head_need plan s r t ts b h k =
      offer_need plan t.stmt (offer_of program t)
      (need_by_entry program plan t.stmt s (entry_of program plan t) (head_deed program t s))
      (need_by_entry program plan t.stmt r (entry_of program plan t) (head_deed program t r))
      (λ e. entry_need plan t.stmt s r (entry_of program plan t) (head_deed program t s)
      (asked_need plan t s r ts (head_deed program t s) (record { whole = b.whole; below = b.below }) h
      (suits program.exprs (kind_of program t.stmt) (top_frame s.frames).cells s.answers)
      (subst (λ o. StaysAt o (head_deed program t s) h.stacked) e k))
      ∙ ap (λ q. need_by_entry program plan t.stmt r (entry_of program plan t) q) (deed_is s r t ts b h))
