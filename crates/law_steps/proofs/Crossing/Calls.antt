-- A process in a function that is a block, which it called beside its replay: each step goes on in it.
use Rattle.std.proofs.Common.{◌≡◌, ℕ, zero, suc, ◌+◌, ◌≤◌, ℤ, List, [], ◌∷◌, ◌++◌, Bool, true, false, Option, Some, None, Ok, Err, refl, ap, sym, subst, ◌∙◌, arith, true≢false, length}
use Rattle.std.proofs.lemmas.Bool.{cond-true}
use Rattle.std.specs.Prelude.{⊤, is_some}
use Rattle.ppd_ast.specs.declared.plan.BlockKind.TheVariants as block
use Rattle.ppd_ast.specs.declared.plan.Plan.{Plan}
use Rattle.ppd_ast.specs.declared.program.Program.{Program}
use Rattle.ppd_ast.specs.declared.status.Status.{Status}
use Rattle.ppd_ast.specs.Lookups.{kind_of}
use Rattle.ppd_ast.specs.Counting.{one_if}
use Rattle.ppd_sem.specs.declared.asking.Pause.TheVariants.{Wants, Traps}
use Rattle.ppd_sem.specs.declared.proc.Answer.{Answer}
use Rattle.ppd_sem.specs.declared.proc.Frame.{Frame}
use Rattle.ppd_sem.specs.declared.proc.Need.TheVariants.{Back, End}
use Rattle.ppd_sem.specs.declared.proc.Proc.{Proc}
use Rattle.ppd_sem.specs.declared.proc.Todo.{Todo}
use Rattle.ppd_sem.specs.Asked.{Asked}
use Rattle.ppd_sem.specs.Deed.{Deed, back, finish}
use Rattle.ppd_sem.specs.Described.{ends_body}
use Rattle.ppd_sem.specs.Process.{act, call_unit, entry_of, head_deed, need_of, need_of_asked, need_of_head, top_frame}
use Rattle.ppd_sem.proofs.NeedWords.{need_by_entry, need_by_offer}
use Rattle.ppd_sem.specs.Tables.{block_of}
use Rattle.ppd_sem.proofs.Progress.{act-stopped, need_at_status}
use Rattle.ppd_model.specs.Logs.{status_of}
use Rattle.ppd_model.specs.Marks.{Mark, opened, closed}
use Rattle.law_steps.proofs.Vocabulary.Alone.{IsInside}
use Rattle.law_steps.proofs.Vocabulary.Relation.{HasEnds, IsEnd, IsReturn, Suits, Yields, past_body}
use Rattle.law_steps.proofs.Vocabulary.Calls.{IsCallBlock, IsInCall, past_all}
use Rattle.law_steps.proofs.Vocabulary.Fine.{IsFine}
use Rattle.law_steps.proofs.Vocabulary.Held.{Held, own, called}
use Rattle.law_steps.specs.Beside.Opens.{IsCountable, opens}
use Rattle.law_steps.proofs.Crossing.Advance.{advances, has_head, never_ends, open_once}
use Rattle.law_steps.proofs.Beside.Deeds.{end_ends, return_ends, suits}
use Rattle.law_steps.proofs.Crossing.Loops.{closed_goes, opened_closes, opened_goes, running_by}
use Rattle.law_steps.proofs.Crossing.Overs.{IsAbove, act_over}
use Rattle.law_steps.proofs.Beside.Sends.{unoffered_end}
use Rattle.law_steps.proofs.Beside.LoopKinds.{end_no_loop, return_no_loop}
use Rattle.law_steps.proofs.Beside.Entries.{entry_loops}
use Rattle.law_steps.proofs.Beside.Turned.{head_is}
use Rattle.law_steps.proofs.Crossing.Within.{IsSpent, spent_act}
use Rattle.law_steps.proofs.Beside.Needs.{payable}

module _ (program : Program) (plan : Plan) (counting : IsCountable program plan) (Fine : Proc → Type 0)
    (fine : IsFine program plan Fine) (used inside : ℕ → Type 0) (calls : Type 0) (closer : Todo) (home : ℕ)
    (depth : ℕ) (ends : HasEnds program) (outside : List Todo)
    (b u : ℕ) (statements : ℕ → Type 0) (static : IsCallBlock program statements) where
  abbrev pub Call : Proc → ℕ → Proc → Type 0
  Call r level x = IsInCall program plan used inside calls closer home depth outside b u statements r level x

  -- nothing stands before a list that is the same without it
  nothing_before : (ts us : List Todo) → ts ++ us ≡ us → ts ≡ []
  nothing_before [] us e = refl
  nothing_before (t ∷ ts) us e = absurd (omega (arith, ap length e, append_length ts us))
    where
      append_length : (xs ys : List Todo) → length (xs ++ ys) ≡ length xs + length ys
      append_length [] ys = let z : length ys ≡ 0 + length ys = omega arith in z
      append_length (x ∷ xs) ys = omega (arith, append_length xs ys)

  -- a return in the function's own frame is its last statement
  lone : (more : ℕ) (t : Todo) (ts rest : List Todo) → more ≡ 0
      → past_all program more (past_body program (t ∷ (ts ++ rest))) ≡ rest
      → ends_body (kind_of program t.stmt) ≡ true → ts ≡ []
  lone zero t ts rest none past e =
      nothing_before ts rest (sym (cond-true (ends_body (kind_of program t.stmt)) (ts ++ rest)
      (past_body program (ts ++ rest)) e) ∙ past)
  lone (suc n) t ts rest none past e = absurd (omega (arith, none))

  own_frame : (last : Todo) (base : Frame) (below : List Frame) (c : Bool) (fs : List Frame) (todo : List Todo)
      → Held program (λ c. ⊤) statements last base below c fs todo → c ≡ false → (length fs ≡ 1 + length below)
      × ((top_frame fs).body ≡ base.body)
  own_frame last base below c fs todo (own f todo' kept within) e =
      (let z : suc (length below) ≡ 1 + length below = omega arith in z, kept.body)
  own_frame last base below c fs todo (called b' f fs' todo' to has h) e = absurd (true≢false e)

  more_frames : (last : Todo) (base : Frame) (below : List Frame) (c : Bool) (fs : List Frame) (todo : List Todo)
      → Held program (λ c. ⊤) statements last base below c fs todo → 1 + length below ≤ length fs
  more_frames last base below c fs todo (own f todo' kept within) = omega arith
  more_frames last base below c fs todo (called b' f fs' todo' to has h) = let n : 1 + length below ≤ length fs' =
      more_frames last base below b' fs' _ h in omega (arith, n)

  called_frame : (last : Todo) (base : Frame) (below : List Frame) (c : Bool) (fs : List Frame) (todo : List Todo)
      → Held program (λ c. ⊤) statements last base below c fs todo → c ≡ true → 2 + length below ≤ length fs
  called_frame last base below c fs todo (own f todo' kept within) e = absurd (true≢false (sym e))
  called_frame last base below c fs todo (called b' f fs' todo' to has h) e =
      let n : 1 + length below ≤ length fs' = more_frames last base below b' fs' _ h in omega (arith, n)

  closes_some : (x : Proc) (o w : Option ℕ) → is_some o ≡ true → closed program plan x (Back o w) ≡ None → ⊥
  closes_some x None w h e = true≢false (sym h)
  closes_some x (Some c) w h e = true≢false (ap is_some e)

  pub call_on : (r x : Proc) (a : Answer) (level after : ℕ) → Call r level x → Fine x → x.status ≡ None
      → status_of (need_of program plan x) ≡ None
      → suc after + one_if (is_some (closed program plan x (need_of program plan x)))
      ≡ suc level + one_if (is_some (opened program plan x (need_of program plan x)))
      → (level ≡ 0 → closed program plan x (need_of program plan x) ≡ None) → Call r after (act program plan x a)
  call_on r x a level after h ok running goes sum first =
      let rest : List Todo = h.came.later ++ outside in
      let p = has_head program plan counting Fine fine
      (λ c. ⊤) statements ends static.writing h.last h.base h.came.before.frames rest
      (λ e. absurd (true≢false (sym e ∙ h.last_is)))
      (λ e. h.ends) static.no_end h.within.has_called x.frames h.within.todo h.within.frames in
      let is : x.todo ≡ p.0 ∷ (p.1 ++ rest) = h.within.todo_is ∙ ap (λ ys. ys ++ rest) p.2 in
      let y = advances program plan counting Fine fine
      (λ c. ⊤) statements ends static.writing h.last h.base h.came.before.frames rest
      (λ e. absurd (true≢false (sym e ∙ h.last_is)))
      (λ e. h.ends) static.no_end x a h.within level after h.counted ok running goes sum first
      (λ t ts todo none v left q r. no_return t ts todo none v left q r) in
      let spent : IsSpent program plan x (act program plan x a) = spent_act program plan a x in
      record {
        came = h.came;
        base = h.base;
        call = h.call;
        block_is = h.block_is;
        last = h.last;
        ends = h.ends;
        last_is = h.last_is;
        counts = h.counts;
        within = y.within;
        over = act_over program plan ends (length h.came.before.frames) rest a p.0 (p.1 ++ rest) x is h.over
            (above p.0 p.1 p.2 (head_deed program p.0 x) refl);
        counted = y.counted;
        whole = spent.below ∙ h.whole;
        budget = spent.budget ∙ h.budget;
        spent = omega (arith, spent.spent, h.spent);
      }
    where
      head_need : (t : Todo) (ts : List Todo) → h.within.todo ≡ t ∷ ts
          → need_of_head program plan t x ≡ need_of program plan x
      head_need t ts todo = head_is program plan x t (ts ++ (h.came.later ++ outside)) (need_of program plan x) running
          (h.within.todo_is ∙ ap (λ ys. ys ++ (h.came.later ++ outside)) todo) refl (payable (need_of program plan x) goes)

      -- a statement that ends a body asks for what it needs
      asks_need : (t : Todo) (ts : List Todo) → h.within.todo ≡ t ∷ ts → ends_body (kind_of program t.stmt) ≡ true
          → need_by_entry program plan t.stmt x (entry_of program plan t)
          (head_deed program t x) ≡ need_of program plan x
      asks_need t ts todo e =
          ap (λ o. need_by_offer plan t.stmt o
          (need_by_entry program plan t.stmt x (entry_of program plan t) (head_deed program t x)))
          (sym (unoffered_end program t e)) ∙ head_need t ts todo

      by_entry : (t : Todo) (ts : List Todo) (o : Option ℕ) → entry_of program plan t ≡ o → h.within.todo ≡ t ∷ ts
          → (v : Option ℤ) (left : List ℤ) → head_deed program t x ≡ Ok (back v, left)
          → IsReturn (kind_of program t.stmt)
          → need_of program plan x ≡ Back (block_of plan (block.Function (top_frame x.frames).body))
          (call_unit plan (top_frame x.frames).call)
      by_entry t ts (Some c) eo todo v left q r =
          absurd (return_no_loop (kind_of program t.stmt) r (entry_loops program plan t c eo).1)
      by_entry t ts None eo todo v left q r =
          sym (asks_need t ts todo (return_ends (kind_of program t.stmt) r))
          ∙ ap (λ o. need_by_entry program plan t.stmt x o (head_deed program t x)) eo
          ∙ ap (need_of_asked program plan t.stmt x) q

      no_return : (t : Todo) (ts : List Todo) → h.within.todo ≡ t ∷ ts → h.within.has_called ≡ false
          → (v : Option ℤ) (left : List ℤ) → head_deed program t x ≡ Ok (back v, left)
          → IsReturn (kind_of program t.stmt) → ⊥
      no_return t ts todo none v left q r =
          let f = own_frame h.last h.base h.came.before.frames h.within.has_called x.frames h.within.todo h.within.frames none in
          let is : x.todo ≡ t ∷ (ts ++ (h.came.later ++ outside)) =
          h.within.todo_is ∙ ap (λ ys. ys ++ (h.came.later ++ outside)) todo in
          let empty : ts ≡ [] = lone h.over.more t ts (h.came.later ++ outside) (omega (arith, f.0, h.over.frames))
          (ap (λ ys. past_all program h.over.more (past_body program ys)) (sym is) ∙ h.over.past)
          (return_ends (kind_of program t.stmt) r) in
          let bottom : level ≡ 0 =
          omega (arith, h.counted, ap (opens program plan) todo, ap (opens program plan) empty, open_once program plan x t (fine.home x t (ts ++ (h.came.later ++ outside)) ok running is)) in
          closes_some x (block_of plan (block.Function (top_frame x.frames).body)) (call_unit plan (top_frame x.frames).call)
          (ap (λ z. is_some (block_of plan (block.Function z))) f.1 ∙ ap is_some h.block_is)
          (ap (closed program plan x) (sym (by_entry t ts (entry_of program plan t) refl todo v left q r))
          ∙ first bottom)

      above : (t : Todo) (ts : List Todo) → h.within.todo ≡ t ∷ ts → (q : Asked Deed) → head_deed program t x ≡ q
          → Yields (IsAbove h.over.more) q
      above t ts todo (Ok p) q =
          by p.0 p.1 q (subst (Yields (Suits (kind_of program t.stmt))) q
          (suits program.exprs (kind_of program t.stmt) (top_frame x.frames).cells x.answers))
        where
          over_own : (c : Bool) → h.within.has_called ≡ c → (v : Option ℤ) (left : List ℤ)
              → head_deed program t x ≡ Ok (back v, left) → IsReturn (kind_of program t.stmt) → 1 ≤ h.over.more
          over_own false e v left q r = absurd (no_return t ts todo e v left q r)
          over_own true e v left q r = let n : 2 + length h.came.before.frames ≤ length x.frames =
              called_frame h.last h.base h.came.before.frames h.within.has_called x.frames h.within.todo h.within.frames e in omega (arith, n, h.over.frames)

          ending : (o : Option ℕ) → entry_of program plan t ≡ o → (left : List ℤ)
              → head_deed program t x ≡ Ok (finish, left) → IsEnd (kind_of program t.stmt) → ⊥
          ending (Some c) eo left q e = end_no_loop (kind_of program t.stmt) e (entry_loops program plan t c eo).1
          ending None eo left q e =
              true≢false (ap is_some (ap status_of
              (sym (sym (asks_need t ts todo (end_ends (kind_of program t.stmt) e))
              ∙ ap (λ o. need_by_entry program plan t.stmt x o (head_deed program t x)) eo
              ∙ ap (need_of_asked program plan t.stmt x) q)) ∙ goes))

          by : (d : Deed) (left : List ℤ) → head_deed program t x ≡ Ok (d, left) → Suits (kind_of program t.stmt) d
              → IsAbove h.over.more d
          by (back v) left q r = over_own h.within.has_called refl v left q r
          by finish left q e = ending (entry_of program plan t) refl left q e
          by d left q e = tt
      above t ts todo (Err (Wants c)) q = tt
      above t ts todo (Err (Traps c)) q = tt

  pub not_over : (r x : Proc) (level : ℕ) → Call r level x → Fine x → (c : ℕ) → need_of program plan x ≡ End c → ⊥
  not_over r x level h ok c e =
      never_ends program plan counting Fine fine
      (λ c. ⊤) statements ends static.writing h.last h.base h.came.before.frames (h.came.later ++ outside)
      (λ e. absurd (true≢false (sym e ∙ h.last_is))) (λ e. h.ends) static.no_end x h.within c ok e

  pub call_opens : (r x : Proc) (a : Answer) (level : ℕ) (mark : Mark) → Call r level x → Fine x
      → opened program plan x (need_of program plan x) ≡ Some mark → Call r (level + 1) (act program plan x a)
  call_opens r x a level mark h ok e =
      let none : closed program plan x (need_of program plan x) ≡ None =
      opened_closes program plan x (need_of program plan x) (ap is_some e) in
      call_on r x a level (level + 1) h ok
      (running_by program plan x (λ n. is_some (opened program plan x n)) refl (ap is_some e))
      (opened_goes program plan x (need_of program plan x) (ap is_some e))
      (omega (arith, ap (λ o. one_if (is_some o)) e, ap (λ o. one_if (is_some o)) none)) (λ z. none)

  pub call_closes : (r x : Proc) (a : Answer) (level : ℕ) (mark : Mark) → Call r (suc level) x → Fine x
      → opened program plan x (need_of program plan x) ≡ None
      → closed program plan x (need_of program plan x) ≡ Some mark → Call r level (act program plan x a)
  call_closes r x a level mark h ok none e =
      call_on r x a (suc level) level h ok
      (running_by program plan x (λ n. is_some (closed program plan x n)) refl (ap is_some e))
      (closed_goes program plan x (need_of program plan x) (ap is_some e) (not_over r x (suc level) h ok))
      (omega (arith, ap (λ o. one_if (is_some o)) e, ap (λ o. one_if (is_some o)) none))
      (λ z. absurd (omega (arith, z)))

  pub call_goes_on : (r x : Proc) (a : Answer) (level : ℕ) → Call r level x → Fine x
      → IsInside program plan x (need_of program plan x) → Call r level (act program plan x a)
  call_goes_on r x a level h ok i = by x.status refl
    where
      by : (o : Option Status) → x.status ≡ o → Call r level (act program plan x a)
      by None e = call_on r x a level level h ok e i.goes_on
          (omega (arith, ap (λ o. one_if (is_some o)) i.closes, ap (λ o. one_if (is_some o)) i.opens)) (λ z. i.closes)
      by (Some s) e = subst (λ (y : Proc). Call r level y)
          (sym (act-stopped program plan x a (need_at_status program plan x (Some s) e))) h
