-- A step inside a nested block stays in it, with as many blocks open as it says.
use Rattle.std.proofs.Common.{◌≡◌, ℕ, suc, ◌+◌, ◌≤◌, ℤ, List, [], ◌∷◌, ◌++◌, Bool, true, false, Option, None, Ok, refl, ap, sym, subst, ◌∙◌, arith, length}
use Rattle.std.specs.Prelude.{is_some}
use Rattle.ppd_ast.specs.declared.plan.BlockKind.TheVariants as block
use Rattle.ppd_ast.specs.declared.plan.Plan.{Plan}
use Rattle.ppd_ast.specs.declared.program.Kind.{Kind}
use Rattle.ppd_ast.specs.declared.program.Kind.TheVariants as kind
use Rattle.ppd_ast.specs.declared.program.Program.{Program}
use Rattle.ppd_ast.specs.Lookups.{kind_of, body_of}
use Rattle.ppd_ast.specs.Counting.{one_if}
use Rattle.ppd_sem.specs.declared.proc.Answer.{Answer}
use Rattle.ppd_sem.specs.declared.proc.Frame.{Frame}
use Rattle.ppd_sem.specs.declared.proc.Need.TheVariants.{End}
use Rattle.ppd_sem.specs.declared.proc.Proc.{Proc}
use Rattle.ppd_sem.specs.declared.proc.Todo.{Todo}
use Rattle.ppd_sem.specs.Deed.{back}
use Rattle.ppd_sem.specs.Described.{ends_body}
use Rattle.ppd_sem.specs.Process.{act, entry_of, head_deed, need_of, need_of_asked, need_of_head, offer_of}
use Rattle.ppd_sem.proofs.NeedWords.{need_by_entry, need_by_offer}
use Rattle.ppd_sem.specs.Tables.{block_of}
use Rattle.ppd_model.specs.Logs.{status_of}
use Rattle.ppd_model.specs.Marks.{opened, closed}
use Rattle.ppd_model.specs.Replay.{is_budget}
use Rattle.law_steps.proofs.Vocabulary.Relation.{HasEnds, IsEnd, IsReturn}
use Rattle.law_steps.proofs.Vocabulary.Fine.{IsFine}
use Rattle.law_steps.proofs.Vocabulary.Held.{Held, IsIn, IsWritingBlock, own, called}
use Rattle.law_steps.specs.Beside.Opens.{IsCountable, IsCountedStep, IsHome, IsWhile, ends_block, open_at, opens}
use Rattle.law_steps.proofs.Crossing.InBlock.{entry_long, in_block, offer_long}
use Rattle.law_steps.proofs.Beside.Opens.{counted_step, opens_append}
use Rattle.law_steps.proofs.Beside.Entries.{entry_loops}
use Rattle.law_steps.proofs.Beside.LoopKinds.{while_ends_none, while_goes}
use Rattle.law_steps.proofs.Beside.Turned.{head_is}
use Rattle.law_steps.proofs.Crossing.Within.{stays_in}
use Rattle.law_steps.proofs.Beside.Needs.{payable}

module _ (program : Program) (plan : Plan) where
  -- a statement opens at most one block
  block_once : (body : ℕ) (k : Kind) → ends_block plan body k ≤ 1
  block_once body (kind.Return e) = by (is_some (block_of plan (block.Function body)))
    where
      by : (b : Bool) → one_if b ≤ 1
      by true = omega arith
      by false = omega arith
  block_once body kind.End = omega arith
  block_once body k = omega arith

  pub open_once : (x : Proc) (t : Todo) → IsHome program plan x t → open_at program plan t ≤ 1
  open_once x t home = by t.entered refl
    where
      by : (b : Bool) → t.entered ≡ b → open_at program plan t ≤ 1
      by true e = omega (
        arith,
        ap one_if e,
        while_ends_none plan (body_of program t.stmt)
            (kind_of program t.stmt) (home.loops e),
      )
      by false e = omega (
        arith,
        ap one_if e,
        block_once (body_of program t.stmt)
            (kind_of program t.stmt),
      )

  module _ (counting : IsCountable program plan) (Fine : Proc → Type 0) (fine : IsFine program plan Fine)
      (written inside : ℕ → Type 0) (ends : HasEnds program) (block_is : IsWritingBlock program written inside)
      (closer : Todo) (base : Frame) (below : List Frame) (outside : List Todo)
      (loop : closer.entered ≡ true → IsWhile (kind_of program closer.stmt)
      × (is_some (block_of plan (block.Loop closer.stmt)) ≡ true))
      (body : closer.entered ≡ false → ends_body (kind_of program closer.stmt) ≡ true)
      (no_end : (s : ℕ) → inside s → IsEnd (kind_of program s) → ⊥) where
    abbrev In : Proc → Type 0
    In x = IsIn program written inside closer base below outside x

    pub has_head : (b : Bool) (fs : List Frame) (todo : List Todo)
        → Held program written inside closer base below b fs todo → (t : Todo) × (ts : List Todo) × (todo ≡ t ∷ ts)
    has_head b fs [] (own f todo kept within) = absurd within.1
    has_head b fs [] (called b' f fs' todo to has h) = absurd has
    has_head b fs (t ∷ ts) h = (t, ts, refl)

    frames_more : (b : Bool) (fs : List Frame) (todo : List Todo)
        → Held program written inside closer base below b fs todo → 1 ≤ length fs
    frames_more b fs todo (own f todo' kept within) = omega arith
    frames_more b fs todo (called b' f fs' todo' to has h) = omega arith

    not_end : (b : Bool) (fs : List Frame) (t : Todo) (ts : List Todo)
        → Held program written inside closer base below b fs (t ∷ ts) → IsEnd (kind_of program t.stmt)
        → length fs ≡ 1 → ⊥
    not_end b fs t ts (own f todo kept within) e n = no_end t.stmt within.0.0 e
    not_end b fs t ts (called b' f fs' todo to has h) e n = let more : 1 ≤ length fs' =
        frames_more b' fs' _ h in omega (arith, more, n)

    pub never_ends : (x : Proc) (w : In x) (b : ℕ) → Fine x → need_of program plan x ≡ End b → ⊥
    never_ends x w b ok e =
        let h = has_head w.has_called x.frames w.todo w.frames in
        let held : Held program written inside closer base below w.has_called x.frames (h.0 ∷ h.1) =
        subst (λ ys. Held program written inside closer base below w.has_called x.frames ys) h.2 w.frames in
        let k = fine.ends x h.0 (h.1 ++ outside) b ok (w.todo_is ∙ ap (λ ys. ys ++ outside) h.2) e in
        not_end w.has_called x.frames h.0 h.1 held k.0 k.1

    pub record HasAdvanced (x : Proc) (level : ℕ) : Type 0 where
      pub within : In x
      pub counted : opens program plan within.todo ≡ suc level

    pub advances : (x : Proc) (a : Answer) (w : In x) (level after : ℕ) → opens program plan w.todo ≡ suc level
        → Fine x → x.status ≡ None → status_of (need_of program plan x) ≡ None
        → suc after + one_if (is_some (closed program plan x (need_of program plan x)))
        ≡ suc level + one_if (is_some (opened program plan x (need_of program plan x)))
        → (level ≡ 0 → closed program plan x (need_of program plan x) ≡ None)
        → ((t : Todo) (ts : List Todo) → w.todo ≡ t ∷ ts → w.has_called ≡ false → (v : Option ℤ) (left : List ℤ)
        → head_deed program t x ≡ Ok (back v, left) → IsReturn (kind_of program t.stmt) → ⊥)
        → HasAdvanced (act program plan x a) after
    advances x a w level after count ok running goes sum first no_return =
        let h = has_head w.has_called x.frames w.todo w.frames in
        let t : Todo = h.0 in
        let ts : List Todo = h.1 in
        let held : Held program written inside closer base below w.has_called x.frames (t ∷ ts) =
        subst (λ ys. Held program written inside closer base below w.has_called x.frames ys) h.2 w.frames in
        let is : x.todo ≡ t ∷ (ts ++ outside) = w.todo_is ∙ ap (λ ys. ys ++ outside) h.2 in
        let home : IsHome program plan x t = fine.home x t (ts ++ outside) ok running is in
        let free : is_budget (need_of program plan x) ≡ false = payable (need_of program plan x) goes in
        let head : need_of_head program plan t x ≡ need_of program plan x =
        head_is program plan x t (ts ++ outside) (need_of program plan x) running is refl free in
        let asked : offer_of program t ≡ None → entry_of program plan t ≡ None
        → need_of_asked program plan t.stmt x (head_deed program t x) ≡ need_of program plan x =
        λ o e. ap (λ z. need_by_entry program plan t.stmt x z (head_deed program t x)) (sym e)
        ∙ ap (λ z. need_by_offer plan t.stmt z
        (need_by_entry program plan t.stmt x (entry_of program plan t) (head_deed program t x))) (sym o) ∙ head in
        let lone : ts ≡ [] → level ≡ 0 =
        λ e. (let one : opens program plan (t ∷ ts) ≡ suc level = sym (ap (opens program plan) h.2) ∙ count in
        let none : opens program plan ts ≡ 0 =
        ap (opens program plan) e in omega (arith, one, none, open_once x t home)) in
        let y : In (act program plan x a) =
        stays_in program plan written inside ends block_is closer base below outside a x w.has_called t ts is held running goes
        (λ c e. offer_long program plan written inside closer base below loop body x w.has_called t ts held c e)
        (λ c e. entry_long program plan written inside closer base below loop body x w.has_called t ts held c e
        (while_goes (kind_of program t.stmt) (entry_loops program plan t c e).1))
        (λ o e. in_block program plan written inside closer base below loop body x w.has_called t ts held
        (no_return t ts h.2) (ap status_of (asked o e) ∙ goes)
        (λ empty. ap (closed program plan x) (asked o e) ∙ first (lone empty))) in
        let step : IsCountedStep program plan x (need_of program plan x) (act program plan x a) =
        counted_step program plan counting x a t (ts ++ outside) is home running in
        let before : opens program plan x.todo ≡ opens program plan w.todo + opens program plan outside =
        ap (opens program plan) w.todo_is ∙ opens_append program plan counting w.todo outside in
        let now : opens program plan
        (act program plan x a).todo ≡ opens program plan y.todo + opens program plan outside =
        ap (opens program plan) y.todo_is ∙ opens_append program plan counting y.todo outside in
        record { within = y; counted = omega (arith, step, before, now, count, sum) }
