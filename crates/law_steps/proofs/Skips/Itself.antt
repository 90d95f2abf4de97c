-- A process beside itself: what holds of its replay past a block holds of the process.
use Rattle.std.proofs.Common.{◌≡◌, ℕ, ◌+◌, ◌<◌, ◌≤◌, ℤ, true, false, List, [], ◌∷◌, ◌++◌, length, Option, Some, None, refl, ap, ap₂, sym, subst, ◌∙◌, arith, append-nil, true≢false, inl, inr}
use Rattle.std.proofs.lemmas.Bool.{le-leb, le-ltb}
use Rattle.std.proofs.lemmas.Option.{none-some}
use Rattle.std.specs.Prelude.{⊤, is_some, nat_lt, slice_get}
use Rattle.ppd_ast.specs.declared.plan.BlockKind.{BlockKind}
use Rattle.ppd_ast.specs.declared.plan.BlockKind.TheVariants as block
use Rattle.ppd_ast.specs.declared.plan.Plan.{Plan}
use Rattle.ppd_ast.specs.declared.plan.Policy.{Policy}
use Rattle.ppd_ast.specs.declared.program.Body.{Body}
use Rattle.ppd_ast.specs.declared.program.Program.{Program}
use Rattle.ppd_ast.specs.Lookups.{kind_of}
use Rattle.ppd_ast.specs.Valid.{IsValid}
use Rattle.ppd_ast.proofs.ValidLaws.{slice_get_there, valid_body}
use Rattle.ppd_blocks.specs.Blocks.{plan_of}
use Rattle.ppd_sem.specs.declared.proc.Answer.{Answer}
use Rattle.ppd_sem.specs.declared.proc.Frame.{Frame}
use Rattle.ppd_sem.specs.declared.proc.Need.{Need}
use Rattle.ppd_sem.specs.declared.proc.Need.TheVariants.{Enter, Invoke}
use Rattle.ppd_sem.specs.declared.proc.Proc.{Proc}
use Rattle.ppd_sem.specs.declared.proc.Todo.{Todo}
use Rattle.ppd_sem.specs.Blocks.{block_body, frames_past, skipped}
use Rattle.ppd_sem.specs.Described.{ends_body}
use Rattle.ppd_sem.specs.Process.{act, act_by_need, cost, need_of, need_of_head, new_frame, receive_at, started, on_top, with_values}
use Rattle.ppd_sem.proofs.NeedWords.{act_at}
use Rattle.ppd_sem.specs.Tables.{block_of}
use Rattle.ppd_sem.proofs.TableWords.{or_zero}
use Rattle.ppd_sem.proofs.Paid.{need-paid}
use Rattle.ppd_model.proofs.Changes.{some}
use Rattle.ppd_model.specs.Marks.{Mark, opened, closed}
use Rattle.ppd_model.specs.Replay.{is_budget}
use Rattle.law_steps.specs.Course.{calls_of}
use Rattle.law_steps.proofs.Course.Ending.{never_runs_out}
use Rattle.law_steps.proofs.OpenBlocks.Planned.{process_found}
use Rattle.law_steps.proofs.Vocabulary.Alone.{IsCrossing, IsKept}
use Rattle.law_steps.proofs.Vocabulary.Relation.{IsBeside, IsLast, IsSameIn, Stacked, at_base, called}
use Rattle.law_steps.proofs.Beside.Filled.{filled_whole}
use Rattle.law_steps.proofs.Beside.Framed.{framed}
use Rattle.law_steps.proofs.Beside.KeptFine.{kept_fine}
use Rattle.law_steps.proofs.Beside.Needs.{is_enter}
use Rattle.law_steps.proofs.Beside.Steps.{step_beside}
use Rattle.law_steps.proofs.Beside.Turned.{head_is}
use Rattle.law_steps.proofs.Crossing.LoopBegins.{loop_begins}
use Rattle.law_steps.proofs.Crossing.Whole.{Across, whole_crossing}
use Rattle.law_steps.proofs.Facts.BlockOpens.{is_countable}
use Rattle.law_steps.proofs.Facts.Bodies.{body_block}
use Rattle.law_steps.proofs.Facts.Called.{AreCalled}
use Rattle.law_steps.proofs.Facts.Fine.{states_fine}
use Rattle.law_steps.proofs.Facts.Placed.{callee, has_ends}
use Rattle.law_steps.proofs.Facts.State.{IsState}
use Rattle.law_steps.proofs.Openings.Blocks.{IsBodyThere, begins_own, block_kept, calls_in, closer_in, inside_in, used_in}
use Rattle.law_steps.proofs.Openings.Crossed.{IsOfFunction, IsOfLoop, call_blocks, call_bodies, closer_closes, loop_blocks}
use Rattle.law_steps.specs.Skips.{BeginsBlock, IsGonePast}

-- ---- the calls that began the frames

-- only the lowest frame was called by nothing
abbrev IsRooted : List (Option ℕ) → Type 0
IsRooted [] = ⊤
IsRooted (c ∷ []) = ⊤
IsRooted (c ∷ d ∷ ds) = (c ≡ None → ⊥) × IsRooted (d ∷ ds)

rooted : (program : Program) (fs : List Frame) → AreCalled program fs → IsRooted (calls_of fs)
rooted program [] h = tt
rooted program (f ∷ []) h = tt
rooted program (f ∷ g ∷ gs) h =
    ((λ none. none-some h.0.stmt (sym none ∙ h.0.stmt_is)), rooted program (g ∷ gs) h.1)

root_is : (c : Option ℕ) (fs : List Frame) → c ≡ None → IsRooted (c ∷ calls_of fs) → fs ≡ []
root_is c [] none h = refl
root_is c (f ∷ fs) none h = absurd (h.0 none)

below_rooted : (c : Option ℕ) (cs : List (Option ℕ)) → IsRooted (c ∷ cs) → IsRooted cs
below_rooted c [] h = tt
below_rooted c (d ∷ ds) h = h.1

write_calls : (cs : List ℕ) (values : List ℤ) (fs : List Frame) → calls_of (on_top (with_values cs values) fs) ≡ calls_of fs
write_calls cs values [] = refl
write_calls cs values (f ∷ fs) = refl

receive_calls : (into : Option ℕ) (value : Option ℤ) (fs : List Frame)
    → calls_of (receive_at into value fs) ≡ calls_of fs
receive_calls (Some c) (Some v) [] = refl
receive_calls (Some c) (Some v) (f ∷ fs) = refl
receive_calls (Some c) None fs = refl
receive_calls None value fs = refl

-- going past a block leaves them
past_calls : (program : Program) (plan : Plan) (values : List ℤ) (s : Proc) (n : Need)
    → calls_of (frames_past program plan values n s) ≡ calls_of s.frames
past_calls program plan values s (Enter b u) = write_calls _ values s.frames
past_calls program plan values s n = receive_calls _ _ s.frames

-- ---- the need

-- the block that a step opens comes next before it
pub begins_block : (program : Program) (plan : Plan) (s : Proc) (m : Mark) (n : Need) → opened program plan s n ≡ Some m
    → BeginsBlock m.block n
begins_block program plan s m (Enter b u) e = ap (λ (k : Mark). k.block) (some e)
begins_block program plan s m (Invoke (Some b) u) e = ap (λ (k : Mark). k.block) (some e)
begins_block program plan s m n e = absurd (none-some m e)

block_there : (o : Option ℕ) → is_some o ≡ true → o ≡ Some (or_zero o)
block_there None e = absurd (true≢false (sym e))
block_there (Some b) e = refl

module _ (program : Program) (policy : Policy) (v : IsValid program) (p : ℕ)
    (there : program.functions + p < length program.bodies) where
  abbrev pub plan : Plan
  plan = plan_of program policy

  abbrev pub kind : BlockKind
  kind = block.Process (program.functions + p)

  body : (b : Body) × (slice_get program.bodies (program.functions + p) ≡ Some b)
  body = slice_get_there program.bodies (program.functions + p) there

  pub at : IsBodyThere program kind
  at = (body.0, body.1, omega arith)

  found : block_of plan kind ≡ Some (or_zero (block_of plan kind))
  found =
      block_there (block_of plan kind)
      (process_found program policy (program.functions + p) body.0 body.1
      ((valid_body program (program.functions + p) body.0 v body.1).process
      ∙ le-leb program.functions (program.functions + p) (omega arith)))

  -- beside each other in the process's whole body
  abbrev pub Beside : Proc → Proc → Type 0
  Beside s r =
      IsBeside program (used_in program kind) (inside_in program kind) (calls_in program kind)
      (closer_in program kind) (block_body program kind) 0 [] s r

  abbrev AreStacked : List Frame → List Frame → List Todo → Type 0
  AreStacked fs gs todo =
      Stacked program (used_in program kind) (inside_in program kind) (calls_in program kind)
      (closer_in program kind) (block_body program kind) fs gs todo

  kept : IsKept program plan (used_in program kind) (inside_in program kind) (calls_in program kind)
      (closer_in program kind) (block_body program kind) 0 [] (λ s r. IsState program plan s)
  kept =
      kept_fine program plan (used_in program kind) (inside_in program kind) (calls_in program kind)
      (closer_in program kind) (block_body program kind) 0 [] (IsState program plan) (states_fine program plan v)
      (block_kept program policy v kind (or_zero (block_of plan kind)) found at 0 [])

  -- in a block that began in this state, with so many more inside it
  abbrev pub Inside : Proc → ℕ → Proc → Type 0
  Inside =
      Across program plan (is_countable program plan v) (IsState program plan) (states_fine program plan v)
      (used_in program kind) (inside_in program kind) (calls_in program kind) (closer_in program kind)
      (block_body program kind) 0 (has_ends program v) (body_block program v (program.functions + p)) []
      (IsOfLoop program plan) (IsOfFunction program plan) (loop_blocks program policy v)
      (call_blocks program policy v) (closer_closes program policy v kind at)

  pub crossing : IsCrossing program plan (used_in program kind) (inside_in program kind) (calls_in program kind)
      (closer_in program kind) (block_body program kind) 0 [] (λ s r. IsState program plan s) Inside
  crossing =
      whole_crossing program plan (is_countable program plan v) (IsState program plan) (states_fine program plan v)
      (used_in program kind) (inside_in program kind) (calls_in program kind) (closer_in program kind)
      (block_body program kind) 0 (has_ends program v) (body_block program v (program.functions + p)) []
      (IsOfLoop program plan) (IsOfFunction program plan) (loop_blocks program policy v)
      (call_blocks program policy v) (closer_closes program policy v kind at) kept (call_bodies program policy v)

  -- ---- beside itself

  itself : (x : Proc) → x.below ≡ 0 → AreStacked x.frames x.frames x.todo → Beside x x
  itself x whole stacked = record {
    todo = sym (append-nil x.todo);
    frames = stacked;
    whole = whole;
    below = whole;
    count = λ c. omega arith;
    answers = refl;
    status = refl;
    budget = refl;
    spent = omega arith;
  }

  -- before its first step
  pub starts : (budget : ℕ) → Beside (started program plan p budget) (started program plan p budget)
  starts budget =
      let f : Frame = new_frame program (program.functions + p) [] None in
      itself (started program plan p budget) refl
      (at_base f f [] [] (started program plan p budget).todo
      (record { body = refl; cells = record { lengths = refl; values = λ c u. refl } }) refl refl
      (begins_own program policy v kind at))

  -- after a step that enters no loop and closes no block
  pub goes : (s : Proc) (a : Answer) (n : Need) → Beside s s → IsState program plan s → s.status ≡ None
      → need_of program plan s ≡ n → is_budget n ≡ false → is_enter n ≡ false → closed program plan s n ≡ None
      → Beside (act program plan s a) (act program plan s a)
  goes s a n b ok running e payable entering unclosed =
      let h = kept.head s s b ok running in
      let t : Todo = h.0 in
      let ts : List Todo = h.1 in
      let own : s.todo ≡ t ∷ (ts ++ []) = b.todo ∙ ap (λ ys. ys ++ []) h.2 in
      let same : need_of_head program plan t s ≡ n = head_is program plan s t (ts ++ []) n running own e payable in
      let cheap : s.spent + cost plan n ≤ s.budget =
      need-paid program plan s n e
      (λ x. never_runs_out.needs program plan s ok.until_end running (e ∙ x))
      (λ x. true≢false (sym (ap is_budget x) ∙ payable)) in
      let has =
      step_beside program (used_in program kind) (inside_in program kind) (calls_in program kind)
      (closer_in program kind) (block_body program kind) 0 (has_ends program v)
      (body_block program v (program.functions + p)) [] plan a s s t ts b (record {
        todo = h.2;
        running = running;
        affordable = ap (λ x. nat_lt s.budget (s.spent + cost plan x)) same
            ∙ le-ltb s.budget (s.spent + cost plan n) cheap;
        no_entry = ap is_enter same ∙ entering;
        stays = kept.stays s s t ts b ok running h.2 (ap is_budget e ∙ payable) (ap (closed program plan s) e ∙ unclosed)
            (framed program (used_in program kind) (inside_in program kind) (calls_in program kind)
            (closer_in program kind) (block_body program kind) 0 (has_ends program v)
            (body_block program v (program.functions + p)) [] s s t ts h.2 b).stacked;
      }) in
      has.after

  marked_last : (t : Todo) (ts : List Todo) → ends_body (kind_of program t.stmt) ≡ false
      → IsLast (closer_in program kind) (t ∷ ts) → IsLast (closer_in program kind) (record t { entered = true } ∷ ts)
  marked_last t [] on e = absurd (elim (closer_closes program policy v kind at) [
    | inl entered ↦ true≢false (sym entered)
    | inr ends ↦ true≢false (sym ends ∙ ap (λ (y : Todo). ends_body (kind_of program y.stmt)) (sym e) ∙ on)
  ])
  marked_last t (y ∷ ys) on e = e

  -- the head is a loop that is marked as entered
  marked_stacked : (t : Todo) (ts : List Todo) (fs gs : List Frame) → ends_body (kind_of program t.stmt) ≡ false
      → AreStacked fs gs (t ∷ ts) → AreStacked fs gs (record t { entered = true } ∷ ts)
  marked_stacked t ts fs gs on (at_base f g fs' gs' todo same body first within) =
      at_base f g fs' gs' (record t { entered = true } ∷ ts) same body first
      (within.0, marked_last t ts on within.1)
  marked_stacked t ts fs gs on (called f fs' gs' todo c has below) =
      called f fs' gs' (record t { entered = true } ∷ ts) c has below

  enters : (s : Proc) (a : Answer) (b u : ℕ) → Beside s s → s.status ≡ None → need_of program plan s ≡ Enter b u
      → Beside (act program plan s a) (act program plan s a)
  enters s a b u beside running need =
      let z =
      loop_begins program plan (used_in program kind) (inside_in program kind) (calls_in program kind)
      (closer_in program kind) (block_body program kind) 0 [] b u (IsOfLoop program plan b)
      (loop_blocks program policy v b) s s a beside running need in
      let t : Todo = z.1.came.head in
      let ts : List Todo = z.1.came.later in
      let head : s.todo ≡ t ∷ ts = z.1.came.head_is in
      let after : act program plan s a ≡ act_by_need program plan a t ts (Enter b u) s =
      ap (λ todo. act_at program plan a todo s) head ∙ ap (λ n. act_by_need program plan a t ts n s) need in
      subst (λ x. Beside x x) (sym after)
      (itself (act_by_need program plan a t ts (Enter b u) s) beside.whole
      (marked_stacked t ts s.frames s.frames z.1.came.goes_on
      (subst (λ ys. AreStacked s.frames s.frames ys) head beside.frames)))

  -- after a step that opens a block
  pub opens : (s : Proc) (a : Answer) (m : Mark) (n : Need) → Beside s s → IsState program plan s → s.status ≡ None
      → need_of program plan s ≡ n → opened program plan s n ≡ Some m
      → Beside (act program plan s a) (act program plan s a)
  opens s a m (Enter b u) beside ok running e o = enters s a b u beside running e
  opens s a m (Invoke (Some b) u) beside ok running e o = goes s a (Invoke (Some b) u) beside ok running e refl refl refl
  opens s a m n beside ok running e o = absurd (none-some m o)

  -- ---- past a block

  lowest : (f : Frame) (fs : List Frame) → f.body ≡ program.functions + p → AreCalled program (f ∷ fs)
      → (f.call ≡ None) × (fs ≡ [])
  lowest f [] home h = (h.0, refl)
  lowest f (g ∷ gs) home h =
      let c = callee program h.0.stmt f.body v h.0.calls in
      absurd (omega (arith, c.function, home))

  same_frame : (f g : Frame) → IsSameIn (used_in program kind) f g → f.call ≡ None → g.call ≡ None → f ≡ g
  same_frame f g same first second =
      filled_whole [] f g (record {
        body = sym same.body;
        call = second ∙ sym first;
        lengths = sym same.cells.lengths;
        values = λ c no. sym (same.cells.values c tt);
      })

  same_frames : (fs gs : List Frame) (todo : List Todo) → AreStacked fs gs todo → AreCalled program fs
      → IsRooted (calls_of gs) → fs ≡ gs
  same_frames fs gs todo (at_base f g fs' gs' todo' same body first within) h root =
      let low = lowest f fs' body h in
      ap₂ (λ (x : Frame) xs. x ∷ xs) (same_frame f g same low.0 first) (low.1 ∙ sym (root_is g.call gs' first root))
  same_frames fs gs todo (called f fs' gs' todo' c has below) h root =
      ap (λ xs. f ∷ xs)
      (same_frames fs' gs' _ below (below_called f fs' h) (below_rooted f.call (calls_of gs') root))
    where
      below_called : (f : Frame) (fs : List Frame) → AreCalled program (f ∷ fs) → AreCalled program fs
      below_called f [] h = tt
      below_called f (g ∷ gs) h = h.1

  -- a process beside its state past the block is that state
  pub gone_past : (s x : Proc) (b : ℕ) (values : List ℤ) → BeginsBlock b (need_of program plan s)
      → IsState program plan s → IsState program plan x → Beside x (skipped program plan values s)
      → IsGonePast program plan b values s x
  gone_past s x b values begins ok now h = record {
    begins = begins;
    frames = sym (same_frames x.frames (skipped program plan values s).frames (skipped program plan values s).todo
        h.frames now.called
        (subst IsRooted (sym (past_calls program plan values s (need_of program plan s)))
        (rooted program s.frames ok.called)));
    todo = sym (h.todo ∙ append-nil (skipped program plan values s).todo);
    answers = sym h.answers;
    below = h.below ∙ sym h.whole;
    budget = sym h.budget;
    status = sym h.status;
  }

  -- so it is beside itself again
  pub past_itself : (s x : Proc) (b : ℕ) (values : List ℤ) → Beside x (skipped program plan values s)
      → IsGonePast program plan b values s x → Beside x x
  past_itself s x b values h gone =
      itself x h.whole
      (subst (λ gs. AreStacked x.frames gs x.todo) gone.frames
      (subst (λ ys. AreStacked x.frames (skipped program plan values s).frames ys) gone.todo h.frames))
