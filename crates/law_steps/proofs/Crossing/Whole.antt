-- A process in a nested block, a loop or a function, beside its replay: the whole of what an interval owes there.
-- From static facts of the blocks, and what is known of every state of a process.
use Rattle.std.proofs.Common.{◌≡◌, ℕ, suc, ◌+◌, List, true, Some, None, refl, ap, sym, true≢false, ◌⊎◌}
use Rattle.std.specs.Prelude.{is_some}
use Rattle.ppd_ast.specs.declared.plan.BlockKind.TheVariants as block
use Rattle.ppd_ast.specs.declared.plan.Plan.{Plan}
use Rattle.ppd_sem.specs.Tables.{block_of}
use Rattle.ppd_ast.specs.declared.program.Program.{Program}
use Rattle.ppd_ast.specs.Lookups.{kind_of}
use Rattle.ppd_sem.specs.declared.proc.Answer.{Answer}
use Rattle.ppd_sem.specs.declared.proc.Need.{Need}
use Rattle.ppd_sem.specs.declared.proc.Need.TheVariants.{Enter, Invoke}
use Rattle.ppd_sem.specs.declared.proc.Proc.{Proc}
use Rattle.ppd_sem.specs.declared.proc.Todo.{Todo}
use Rattle.ppd_sem.specs.Described.{ends_body}
use Rattle.ppd_sem.specs.Process.{act, need_of}
use Rattle.ppd_model.specs.Marks.{Mark, opened, closed}
use Rattle.law_steps.proofs.Vocabulary.Across.{IsInLoop}
use Rattle.law_steps.proofs.Vocabulary.Alone.{HasLeft, IsCrossing, IsInside, IsKept}
use Rattle.law_steps.proofs.Vocabulary.Relation.{HasEnds, IsBeside, IsBlock}
use Rattle.law_steps.proofs.Vocabulary.Calls.{IsCallBlock, IsCallBody, IsInCall}
use Rattle.law_steps.proofs.Vocabulary.Fine.{IsFine, IsLoopBlock}
use Rattle.law_steps.specs.Beside.Opens.{IsCountable}
use Rattle.law_steps.proofs.Crossing.CallBegins.{call_begins}
use Rattle.law_steps.proofs.Crossing.CallLeft.{call_leaves}
use Rattle.law_steps.proofs.Crossing.Calls.{call_closes, call_goes_on, call_opens}
use Rattle.law_steps.proofs.Crossing.LoopBegins.{loop_begins}
use Rattle.law_steps.proofs.Crossing.LoopLeft.{loop_leaves}
use Rattle.law_steps.proofs.Crossing.Loops.{loop_closes, loop_goes_on, loop_opens}

module _ (program : Program) (plan : Plan) (counting : IsCountable program plan) (Fine : Proc → Type 0)
    (fine : IsFine program plan Fine) (used inside : ℕ → Type 0) (calls : Type 0) (closer : Todo) (home : ℕ)
    (depth : ℕ) (ends : HasEnds program) (block_so : IsBlock program used inside calls) (outside : List Todo)
    (loops bodies : ℕ → ℕ → Type 0) (loop_blocks : (b : ℕ) → IsLoopBlock program plan b (loops b))
    (call_blocks : (b : ℕ) → IsCallBlock program (bodies b))
    (closes : (closer.entered ≡ true) ⊎ (ends_body (kind_of program closer.stmt) ≡ true)) where
  pub data Across (r : Proc) (level : ℕ) (x : Proc) : Type 0 where
    in_loop : (b u : ℕ) → IsInLoop program plan used inside calls closer home depth outside b u (loops b) r level x
        → Fine x → Across r level x
    in_call : (b u : ℕ) → IsInCall program plan used inside calls closer home depth outside b u
        (bodies b) r level x → Fine x → Across r level x

  -- the step that calls a block begins to run in it, beside the replay that stands at it
  abbrev pub CallsBegin : Type 0
  CallsBegin = (s r : Proc) (a : Answer) (b u : ℕ)
      → IsBeside program used inside calls closer home depth outside s r → Fine s → s.status ≡ None
      → need_of program plan s ≡ Invoke (Some b) u
      → (need_of program plan r ≡ Invoke (Some b) u)
      × IsInCall program plan used inside calls closer home depth outside b u (bodies b) r 0
      (act program plan s a)

  begins_by : CallsBegin → (s r : Proc) (a : Answer) (mark : Mark) (n : Need) → need_of program plan s ≡ n
      → IsBeside program used inside calls closer home depth outside s r → Fine s → s.status ≡ None
      → opened program plan s n ≡ Some mark
      → (need_of program plan r ≡ n) × Across r 0 (act program plan s a)
  begins_by calling s r a mark (Enter b u) n beside ok running e =
      let z = loop_begins program plan used inside calls closer home depth outside b u (loops b)
      (loop_blocks b) s r a beside running n in
      (z.0, in_loop b u z.1 (fine.on s a ok))
  begins_by calling s r a mark (Invoke (Some b) u) n beside ok running e =
      let z = calling s r a b u beside ok running n in
      (z.0, in_call b u z.1 (fine.on s a ok))
  begins_by calling s r a mark n m beside ok running e = absurd (true≢false (sym (ap is_some e)))

  opens_so : (r x : Proc) (a : Answer) (level : ℕ) (mark : Mark) → Across r level x
      → opened program plan x (need_of program plan x) ≡ Some mark → Across r (level + 1) (act program plan x a)
  opens_so r x a level mark (in_loop b u h ok) e =
      in_loop b u (loop_opens program plan counting Fine fine used inside calls closer home depth ends outside b u
      (loops b) (loop_blocks b) r x a level mark h ok e) (fine.on x a ok)
  opens_so r x a level mark (in_call b u h ok) e =
      in_call b u (call_opens program plan counting Fine fine used inside calls closer home depth ends outside b u
      (bodies b) (call_blocks b) r x a level mark h ok e) (fine.on x a ok)

  goes_so : (r x : Proc) (a : Answer) (level : ℕ) → Across r level x
      → IsInside program plan x (need_of program plan x) → Across r level (act program plan x a)
  goes_so r x a level (in_loop b u h ok) e =
      in_loop b u
      (loop_goes_on program plan counting Fine fine used inside calls closer home depth ends outside b u (loops b)
      (loop_blocks b) r x a level h ok e) (fine.on x a ok)
  goes_so r x a level (in_call b u h ok) e =
      in_call b u
      (call_goes_on program plan counting Fine fine used inside calls closer home depth ends outside b u (bodies b)
      (call_blocks b) r x a level h ok e) (fine.on x a ok)

  closes_so : (r x : Proc) (a : Answer) (level : ℕ) (mark : Mark) → Across r (suc level) x
      → opened program plan x (need_of program plan x) ≡ None
      → closed program plan x (need_of program plan x) ≡ Some mark → Across r level (act program plan x a)
  closes_so r x a level mark (in_loop b u h ok) none e =
      in_loop b u (loop_closes program plan counting Fine fine used inside calls closer home depth ends outside b u
      (loops b) (loop_blocks b) r x a level mark h ok none e) (fine.on x a ok)
  closes_so r x a level mark (in_call b u h ok) none e =
      in_call b u (call_closes program plan counting Fine fine used inside calls closer home depth ends outside b u
      (bodies b) (call_blocks b) r x a level mark h ok none e) (fine.on x a ok)

  leaves_so : (r x : Proc) (a : Answer) (mark : Mark) → Across r 0 x
      → opened program plan x (need_of program plan x) ≡ None
      → closed program plan x (need_of program plan x) ≡ Some mark
      → HasLeft program plan used inside calls closer home depth outside (λ s r. Fine s) mark r x a
  leaves_so r x a mark (in_loop b u h ok) none e =
      loop_leaves program plan counting Fine fine used inside calls closer home depth ends block_so outside b u
      (loops b) (loop_blocks b) closes r x a mark h ok none e
  leaves_so r x a mark (in_call b u h ok) none e =
      call_leaves program plan counting Fine fine used inside calls closer home depth ends block_so outside b u
      (bodies b) (call_blocks b) closes r x a mark h h.counts ok none e

  pub crossing : CallsBegin → IsCrossing program plan used inside calls closer home depth outside (λ s r. Fine s) Across
  crossing calling = record {
    begins = λ s r a mark beside ok running e.
        (let z = begins_by calling s r a mark (need_of program plan s) refl beside ok running e in z);
    opens = opens_so;
    goes_on = goes_so;
    closes = closes_so;
    leaves = leaves_so;
  }

  -- all of it, from static facts and what is known of every state
  pub whole_crossing : IsKept program plan used inside calls closer home depth outside (λ s r. Fine s)
      → ((b f : ℕ) → block_of plan (block.Function f) ≡ Some b → IsCallBody program plan (bodies b) f)
      → IsCrossing program plan used inside calls closer home depth outside (λ s r. Fine s) Across
  whole_crossing kept call_bodies = crossing (λ s r a b u beside ok running need.
      call_begins program plan counting used inside calls closer home depth ends block_so outside
      (λ s r. Fine s) kept b u (bodies b) (call_bodies b) s r a beside ok
      (λ t ts is. fine.home s t ts ok running is) running need)
