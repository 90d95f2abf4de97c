-- The step that leaves a loop brings the process beside its replay past the loop.
use Rattle.ppd_model.specs.Marks.{values_at}
use Rattle.law_steps.proofs.Beside.Closing.{IsAlone, alone}
use Rattle.law_steps.proofs.Beside.Skipped.{loop_past, skipped_by, skipped_is}
use Rattle.law_steps.proofs.Beside.Turned.{asks_is, head_is}
use Rattle.law_steps.proofs.Vocabulary.Across.{IsInLoop}
use Rattle.law_steps.proofs.Vocabulary.Held.{Among, Held}
use Rattle.law_steps.proofs.Vocabulary.Relation.{HasEnds, IsBeside, IsBlock, Rests, Stacked, at_base, called}
use Rattle.law_steps.specs.Beside.Opens.{open_at, opens}
use Rattle.ppd_ast.specs.Lookups.{kind_of}
use Rattle.ppd_ast.specs.declared.limits.TheConstants.{MOST_CALLS}
use Rattle.ppd_ast.specs.declared.plan.BlockKind.TheVariants as block
use Rattle.ppd_ast.specs.declared.plan.Plan.{Plan}
use Rattle.ppd_ast.specs.declared.plan.Start.TheVariants as start
use Rattle.ppd_ast.specs.declared.program.Program.{Program}
use Rattle.ppd_ast.specs.declared.status.Trap.TheVariants as trap
use Rattle.ppd_sem.proofs.NeedWords.{act_at, need_by_entry}
use Rattle.ppd_sem.specs.Asked.{Asked}
use Rattle.ppd_sem.specs.Blocks.{postlog_cells, skipped}
use Rattle.ppd_sem.specs.Deed.{Deed, invoke, leave, send}
use Rattle.ppd_sem.specs.Described.{ends_body}
use Rattle.ppd_sem.specs.Process.{act, act_by_asked, act_by_need, charged, cost, entry_of, head_deed, need_of, need_of_asked, need_of_deed, need_of_send, top_frame}
use Rattle.ppd_sem.specs.Tables.{block_of, capacity_of, unit_of}
use Rattle.ppd_sem.specs.declared.asking.Pause.TheVariants.{Traps, Wants}
use Rattle.ppd_sem.specs.declared.proc.Answer.{Answer}
use Rattle.ppd_sem.specs.declared.proc.Frame.{Frame}
use Rattle.ppd_sem.specs.declared.proc.Need.{Need}
use Rattle.ppd_sem.specs.declared.proc.Need.TheVariants.{Enter, Invoke, Leave, Trap}
use Rattle.ppd_sem.specs.declared.proc.Proc.{Proc}
use Rattle.ppd_sem.specs.declared.proc.Todo.{Todo}
use Rattle.std.proofs.Common.{Bool, Err, List, None, Ok, Option, Some, [], ap, arith, false, inl, inr, length, map, refl, subst, suc, sym, true, true≢false, zero, ℕ, ◌++◌, ◌+◌, ◌∙◌, ◌∷◌, ◌≡◌, ◌≤◌, ◌⊎◌}
use Rattle.std.specs.Prelude.{get_or, if◌then◌else◌, nat_lt, pos}

module _ (program : Program) (plan : Plan) where
  -- a step that leaves a loop takes the head off, and nothing else
  pub record HasLeftLoop (x after : Proc) (b u : ℕ) (ts : List Todo) : Type 0 where
    pub todo : after.todo ≡ ts
    pub frames : after.frames ≡ x.frames
    pub answers : after.answers ≡ []
    pub status : after.status ≡ x.status
    pub budget : after.budget ≡ x.budget
    pub below : after.below ≡ x.below
    pub spent : after.spent ≡ x.spent + cost plan (Leave b u)

  leave_need : Need → Bool
  leave_need (Leave b u) = true
  leave_need n = false

  -- only a loop's end needs to leave a loop
  deed_is : (t : ℕ) (s : Proc) (d : Deed) → leave_need (need_of_deed program plan t s d) ≡ true → d ≡ leave
  unfolding leave_need
  deed_is t s leave e = refl
  deed_is t s (invoke f vs into) e = absurd (true≢false (sym e ∙ by (nat_lt MOST_CALLS (s.below + length s.frames))))
    where
      by : (x : Bool) → leave_need
          (if x then Trap trap.Depth else Invoke (block_of plan (block.Function f)) (unit_of plan (start.Entry f)))
          ≡ false
      by true = refl
      by false = refl
  deed_is t s (send c v) e = absurd (true≢false (sym e ∙ by (capacity_of program c)))
    where
      by : (n : ℕ) → leave_need (need_of_send plan t n c v) ≡ false
      by zero = refl
      by (suc n) = refl
  deed_is t s d e = absurd (true≢false (sym e))

  left_by : (a : Answer) (t : Todo) (ts : List Todo) (x : Proc) (b u : ℕ) (q : Asked Deed)
      → head_deed program t x ≡ q → need_of_asked program plan t.stmt x q ≡ Leave b u
      → HasLeftLoop x (act_by_need program plan a t ts (Leave b u) x) b u ts
  unfolding leave_need
  left_by a t ts x b u (Ok p) e n =
      let d : p.0 ≡ leave = deed_is t.stmt x p.0 (ap leave_need n) in
      let asked : head_deed program t x ≡ Ok (leave, p.1) = e ∙ ap (λ y. Ok (y, p.1)) d in
      let is : act_by_need program plan a t ts (Leave b u) x ≡ charged plan (Leave b u)
      (record x { answers = []; todo = ts }) =
      ap (λ y. charged plan (Leave b u) (act_by_asked program a t ts y x)) asked in
      subst (λ (z : Proc). HasLeftLoop x z b u ts) (sym is)
      (record {
        todo = refl;
        frames = refl;
        answers = refl;
        status = refl;
        budget = refl;
        below = refl;
        spent = refl;
      })
  left_by a t ts x b u (Err (Wants c)) e n = absurd (true≢false (sym (ap leave_need n)))
  left_by a t ts x b u (Err (Traps y)) e n = absurd (true≢false (sym (ap leave_need n)))

  left_at : (a : Answer) (t : Todo) (ts : List Todo) (x : Proc) (b u : ℕ) (o : Option ℕ)
      → need_by_entry program plan t.stmt x o (head_deed program t x) ≡ Leave b u
      → HasLeftLoop x (act_by_need program plan a t ts (Leave b u) x) b u ts
  unfolding leave_need
  left_at a t ts x b u (Some c) n = absurd (true≢false (sym (ap leave_need n)))
  left_at a t ts x b u None n = left_by a t ts x b u (head_deed program t x) refl n

  pub left_loop : (x : Proc) (a : Answer) (t : Todo) (ts : List Todo) (b u : ℕ) → x.status ≡ None → x.todo ≡ t ∷ ts
      → need_of program plan x ≡ Leave b u → HasLeftLoop x (act program plan x a) b u ts
  left_loop x a t ts b u running is n =
      subst (λ (z : Proc). HasLeftLoop x z b u ts)
      (sym (ap (λ todo. act_at program plan a todo x) is ∙ ap (λ m. act_by_need program plan a t ts m x) n))
      (left_at a t ts x b u (entry_of program plan t)
      (asks_is program plan x t (Leave b u) (head_is program plan x t ts (Leave b u) running is n refl) refl))

  module _ (used inside : ℕ → Type 0) (calls : Type 0) (closer : Todo) (home : ℕ) (depth : ℕ)
      (ends : HasEnds program) (block_is : IsBlock program used inside calls) (outside : List Todo) (b u : ℕ)
      (statements : ℕ → Type 0)
      -- the interval's own closing statement is an entered loop, or ends a body
      (closes : (closer.entered ≡ true) ⊎ (ends_body (kind_of program closer.stmt) ≡ true)) where
    pub rests : (fs gs : List Frame) (t : Todo) (ts : List Todo) → t.entered ≡ false
        → ends_body (kind_of program t.stmt) ≡ false
        → (y : Stacked program used inside calls closer home fs gs (t ∷ ts)) → Rests y
    rests fs gs t [] en go (at_base f g fs' gs' todo same body first within) = elim closes [
      | inl e ↦ absurd (true≢false (sym (ap (λ (z : Todo). z.entered) within.1 ∙ e) ∙ en))
      | inr e ↦ absurd (true≢false (sym (ap (λ (z : Todo). ends_body (kind_of program z.stmt)) within.1 ∙ e) ∙ go))
    ]
    rests fs gs t (v ∷ vs) en go (at_base f g fs' gs' todo same body first within) = tt
    rests fs gs t ts en go (called f fs' gs' todo k has below) = tt

    -- the loop is left at level 0, where no other block is open: the two are beside each other past it
    pub loop_left : (r x : Proc) (a : Answer) (v : ℕ) (t : Todo) (ts : List Todo)
        → (h : IsInLoop program plan used inside calls closer home depth outside b u statements r 0 x)
        → x.status ≡ None → h.within.todo ≡ t ∷ ts → opens program plan ts ≡ 0 → need_of program plan x ≡ Leave b v
        → IsBeside program used inside calls closer home depth outside (act program plan x a)
        (skipped program plan (values_at x (postlog_cells plan b)) r)
    loop_left r x a v t ts h running todo none n =
        let mark : Todo = record h.came.head { entered = true } in
        let counts : 1 ≤ open_at program plan mark = omega arith in
        let held : Held program (Among
        (postlog_cells plan b)) statements mark h.base h.below h.within.has_called x.frames
        (t ∷ ts) = subst (λ ys. Held program (Among
        (postlog_cells plan b)) statements mark h.base h.below h.within.has_called x.frames ys) todo h.within.frames in
        let one : IsAlone program plan
        (Among (postlog_cells plan b)) statements mark h.base h.below counts x.frames t ts =
        alone program plan (Among
        (postlog_cells plan b)) statements mark h.base h.below counts h.within.has_called x.frames t ts held none in
        let is : x.todo ≡ t ∷ (h.came.later ++ outside) =
        h.within.todo_is ∙ ap (λ ys. ys ++ (h.came.later ++ outside)) (todo ∙ ap (λ ys. t ∷ ys) one.rest) in
        let l : HasLeftLoop x (act program plan x a) b v (h.came.later ++ outside) =
        left_loop x a t (h.came.later ++ outside) b v running is n in
        let values : values_at x (postlog_cells plan b) ≡ map (λ c. get_or one.frame.cells c (pos 0)) (postlog_cells plan b) =
        ap (λ fs. map (λ c. get_or (top_frame fs).cells c (pos 0)) (postlog_cells plan b)) one.frames in
        let past : IsBeside program used inside calls closer home depth outside (act program plan x a)
        (skipped_by program plan (map (λ c. get_or one.frame.cells c (pos 0)) (postlog_cells plan b)) (Enter b u) r) =
        loop_past program used inside calls closer home depth ends block_is outside plan b u h.came.head h.came.later h.base one.frame h.below h.came.before r (act program plan x a)
        h.came.beside h.top h.came.head_is h.came.goes_on
        (λ y. rests (h.base ∷ h.below) r.frames h.came.head h.came.later h.came.unentered h.came.goes_on y)
        one.kept (l.frames ∙ one.frames) l.todo l.answers (l.status ∙ running ∙ sym h.came.running)
        (l.budget ∙ h.budget) (l.below ∙ h.whole) (omega (arith, l.spent, h.spent)) in
        subst (λ y. IsBeside program used inside calls closer home depth outside (act program plan x a) y)
        (sym (ap (λ vs. skipped program plan vs r) values ∙ skipped_is program plan
        (map (λ c. get_or one.frame.cells c (pos 0)) (postlog_cells plan b)) (Enter b u) r h.came.need_is)) past
