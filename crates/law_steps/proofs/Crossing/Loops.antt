-- A process in a loop that its replay stands at: each step goes on in the loop, or leaves it beside the replay.
use Rattle.std.proofs.Common.{◌≡◌, ℕ, suc, ◌+◌, List, ◌∷◌, ◌++◌, Bool, true, false, Option, Some, None, refl, ap, sym, subst, ◌∙◌, arith, true≢false}
use Rattle.std.specs.Prelude.{is_some}
use Rattle.ppd_ast.specs.declared.plan.BlockKind.TheVariants as block
use Rattle.ppd_ast.specs.declared.plan.Plan.{Plan}
use Rattle.ppd_ast.specs.declared.program.Program.{Program}
use Rattle.ppd_ast.specs.declared.status.Status.{Status}
use Rattle.ppd_ast.specs.Lookups.{kind_of}
use Rattle.ppd_ast.specs.Counting.{one_if}
use Rattle.ppd_sem.specs.Blocks.{postlog_cells}
use Rattle.ppd_sem.specs.declared.proc.Answer.{Answer}
use Rattle.ppd_sem.specs.declared.proc.Frame.{Frame}
use Rattle.ppd_sem.specs.declared.proc.Need.{Need}
use Rattle.ppd_sem.specs.declared.proc.Need.TheVariants.{Enter, Leave, Invoke, Back, End, Stopped}
use Rattle.ppd_sem.specs.declared.proc.Proc.{Proc}
use Rattle.ppd_sem.specs.declared.proc.Todo.{Todo}
use Rattle.ppd_sem.specs.Asked.{Asked}
use Rattle.ppd_sem.specs.Deed.{Deed}
use Rattle.ppd_sem.specs.Process.{act, entry_of, head_deed, need_of}
use Rattle.ppd_sem.proofs.NeedWords.{need_by_entry}
use Rattle.ppd_sem.specs.Tables.{block_of}
use Rattle.ppd_sem.proofs.Progress.{act-stopped, need_at_status}
use Rattle.ppd_model.specs.Logs.{status_of}
use Rattle.ppd_model.specs.Marks.{Mark, opened, closed}
use Rattle.law_steps.proofs.Vocabulary.Across.{IsInLoop}
use Rattle.law_steps.proofs.Vocabulary.Alone.{IsInside}
use Rattle.law_steps.proofs.Vocabulary.Relation.{HasEnds, IsEnd, IsReturn}
use Rattle.law_steps.proofs.Vocabulary.Fine.{IsFine, IsLoopBlock}
use Rattle.law_steps.proofs.Vocabulary.Held.{Among, Held, own, called}
use Rattle.law_steps.specs.Beside.Opens.{IsCountable, IsWhile}
use Rattle.law_steps.proofs.Crossing.Advance.{advances, never_ends}
use Rattle.law_steps.proofs.Beside.Deeds.{end_ends, return_ends}
use Rattle.law_steps.proofs.Beside.Entries.{entry_loops, loop_block}
use Rattle.law_steps.proofs.Beside.Needs.{is_enter}
use Rattle.law_steps.proofs.Beside.Turned.{asks_is, head_is}
use Rattle.law_steps.proofs.Crossing.Within.{IsSpent, asked_no_enter, spent_act}

module _ (program : Program) (plan : Plan) where
  -- ---- needs that open or close

  -- a process that opens or closes a block runs
  pub running_by : (x : Proc) (P : Need → Bool) → P Stopped ≡ false → P (need_of program plan x) ≡ true
      → x.status ≡ None
  running_by x P never is = by x.status refl
    where
      by : (o : Option Status) → x.status ≡ o → o ≡ None
      by None e = refl
      by (Some s) e = absurd (true≢false (sym is ∙ ap P (need_at_status program plan x (Some s) e) ∙ never))

  pub closed_goes : (x : Proc) (n : Need) → is_some (closed program plan x n) ≡ true → ((b : ℕ) → n ≡ End b → ⊥)
      → status_of n ≡ None
  closed_goes x (Leave b u) e h = refl
  closed_goes x (Back o u) e h = refl
  closed_goes x (End b) e h = absurd (h b refl)
  closed_goes x n e h = absurd (true≢false (sym e))

  pub opened_goes : (x : Proc) (n : Need) → is_some (opened program plan x n) ≡ true → status_of n ≡ None
  opened_goes x (Enter b u) e = refl
  opened_goes x (Invoke o u) e = refl
  opened_goes x n e = absurd (true≢false (sym e))

  pub opened_closes : (x : Proc) (n : Need) → is_some (opened program plan x n) ≡ true → closed program plan x n ≡ None
  opened_closes x (Enter b u) e = refl
  opened_closes x (Invoke o u) e = refl
  opened_closes x n e = absurd (true≢false (sym e))

  -- ---- a loop that the replay comes to

  block_or : Need → ℕ
  block_or (Enter b u) = b
  block_or n = 0

  pub entered_by : (t : ℕ) (s : Proc) (o : Option ℕ) (q : Asked Deed) (b u : ℕ)
      → need_by_entry program plan t s o q ≡ Enter b u → o ≡ Some b
  unfolding block_or
  entered_by t s (Some c) q b u e = ap (λ n. Some (block_or n)) e
  entered_by t s None q b u e = absurd (true≢false (sym (ap is_enter e) ∙ asked_no_enter program plan t s q))

  module _ (counting : IsCountable program plan) (Fine : Proc → Type 0) (fine : IsFine program plan Fine)
      (used inside : ℕ → Type 0) (calls : Type 0) (closer : Todo) (home : ℕ) (depth : ℕ) (ends : HasEnds program)
      (outside : List Todo)
      (b u : ℕ) (statements : ℕ → Type 0) (static : IsLoopBlock program plan b statements) where
    abbrev pub Loop : Proc → ℕ → Proc → Type 0
    Loop r level x = IsInLoop program plan used inside calls closer home depth outside b u statements r level x

    pub entry_is : (r x : Proc) (level : ℕ) (h : Loop r level x) → entry_of program plan h.came.head ≡ Some b
    entry_is r x level h =
        entered_by h.came.head.stmt r (entry_of program plan h.came.head) (head_deed program h.came.head r) b u
        (asks_is program plan r h.came.head (Enter b u)
        (head_is program plan r h.came.head h.came.later (Enter b u)
        (sym h.came.beside.status ∙ h.came.running) h.came.head_is h.came.need_is refl) refl)

    pub is_loop : (r x : Proc) (level : ℕ) (h : Loop r level x) → IsWhile (kind_of program h.came.head.stmt)
        × (is_some (block_of plan (block.Loop h.came.head.stmt)) ≡ true)
    is_loop r x level h = (
      (entry_loops program plan h.came.head b (entry_is r x level h)).1,
      ap is_some (loop_block program plan h.came.head b
          (entry_is r x level h)),
    )

    pub no_end : (s : ℕ) → statements s → IsEnd (kind_of program s) → ⊥
    no_end s h e = true≢false (sym (end_ends (kind_of program s) e) ∙ static.goes_on s h)

    no_return : (base : Frame) (below : List Frame) (mark : Todo) (c : Bool) (fs : List Frame) (t : Todo)
        (ts : List Todo) → Held program (Among (postlog_cells plan b)) statements mark base below c fs (t ∷ ts)
        → c ≡ false → IsReturn (kind_of program t.stmt) → ⊥
    no_return base below mark c fs t ts (own f todo kept within) e r =
        true≢false (sym (return_ends (kind_of program t.stmt) r) ∙ static.goes_on t.stmt within.0.0)
    no_return base below mark c fs t ts (called b' f fs' todo to has h) e r = true≢false e

    -- a step that stays in the loop
    pub loop_on : (r x : Proc) (a : Answer) (level after : ℕ) → Loop r level x → Fine x → x.status ≡ None
        → status_of (need_of program plan x) ≡ None
        → suc after + one_if (is_some (closed program plan x (need_of program plan x)))
        ≡ suc level + one_if (is_some (opened program plan x (need_of program plan x)))
        → (level ≡ 0 → closed program plan x (need_of program plan x) ≡ None) → Loop r after (act program plan x a)
    loop_on r x a level after h ok running goes sum first =
        let y = advances program plan counting Fine fine
        (Among (postlog_cells plan b)) statements ends static.writing
        (record h.came.head { entered = true }) h.base h.below (h.came.later ++ outside)
        (λ e. is_loop r x level h)
        (λ e. absurd (true≢false e)) no_end x a h.within level after h.counted ok running goes sum first
        (λ t ts is none v left q r. no_return h.base h.below
        (record h.came.head { entered = true }) h.within.has_called x.frames t ts
        (subst (λ ys. Held program (Among (postlog_cells plan b)) statements
        (record h.came.head
        { entered = true }) h.base h.below h.within.has_called x.frames ys) is h.within.frames) none r) in
        let spent : IsSpent program plan x (act program plan x a) = spent_act program plan a x in
        record {
          came = h.came;
          base = h.base;
          below = h.below;
          top = h.top;
          within = y.within;
          counted = y.counted;
          whole = spent.below ∙ h.whole;
          budget = spent.budget ∙ h.budget;
          spent = omega (arith, spent.spent, h.spent);
        }

    pub not_over : (r x : Proc) (level : ℕ) → Loop r level x → Fine x → (c : ℕ) → need_of program plan x ≡ End c → ⊥
    not_over r x level h ok c e =
        never_ends program plan counting Fine fine (Among (postlog_cells plan b)) statements ends static.writing
        (record h.came.head { entered = true }) h.base h.below (h.came.later ++ outside)
        (λ e. is_loop r x level h) (λ e. absurd (true≢false e)) no_end x h.within c ok e

    pub loop_opens : (r x : Proc) (a : Answer) (level : ℕ) (mark : Mark) → Loop r level x → Fine x
        → opened program plan x (need_of program plan x) ≡ Some mark → Loop r (level + 1) (act program plan x a)
    loop_opens r x a level mark h ok e =
        let none : closed program plan x (need_of program plan x) ≡ None =
        opened_closes x (need_of program plan x) (ap is_some e) in
        loop_on r x a level (level + 1) h ok
        (running_by x (λ n. is_some (opened program plan x n)) refl (ap is_some e))
        (opened_goes x (need_of program plan x) (ap is_some e))
        (omega (arith, ap (λ o. one_if (is_some o)) e, ap (λ o. one_if (is_some o)) none)) (λ z. none)

    pub loop_closes : (r x : Proc) (a : Answer) (level : ℕ) (mark : Mark) → Loop r (suc level) x → Fine x
        → opened program plan x (need_of program plan x) ≡ None
        → closed program plan x (need_of program plan x) ≡ Some mark → Loop r level (act program plan x a)
    loop_closes r x a level mark h ok none e =
        loop_on r x a (suc level) level h ok
        (running_by x (λ n. is_some (closed program plan x n)) refl (ap is_some e))
        (closed_goes x (need_of program plan x) (ap is_some e) (not_over r x (suc level) h ok))
        (omega (arith, ap (λ o. one_if (is_some o)) e, ap (λ o. one_if (is_some o)) none))
        (λ z. absurd (omega (arith, z)))

    pub loop_goes_on : (r x : Proc) (a : Answer) (level : ℕ) → Loop r level x → Fine x
        → IsInside program plan x (need_of program plan x) → Loop r level (act program plan x a)
    loop_goes_on r x a level h ok i = by x.status refl
      where
        by : (o : Option Status) → x.status ≡ o → Loop r level (act program plan x a)
        by None e = loop_on r x a level level h ok e i.goes_on
            (omega (arith, ap (λ o. one_if (is_some o)) i.closes, ap (λ o. one_if (is_some o)) i.opens))
            (λ z. i.closes)
        by (Some s) e = subst (λ (y : Proc). Loop r level y)
            (sym (act-stopped program plan x a (need_at_status program plan x (Some s) e))) h
