-- Each opening of a run is at a block of the plan, in a state of the run.
use Rattle.law_steps.specs.Policies.{setting_by}
use Rattle.std.proofs.Common.{◌≡◌, ℕ, zero, suc, ◌+◌, ◌<◌, ℤ, true, List, [], ◌∷◌, Option, Some, None, refl, ap, sym, subst, ◌∙◌, arith, length, true≢false, append-nil}
use Rattle.std.specs.Prelude.{is_some}
use Rattle.std.proofs.lemmas.Bool.{le-leb}
use Rattle.ppd_ast.specs.declared.plan.BlockKind.TheVariants as block
use Rattle.ppd_ast.specs.declared.plan.Plan.{Plan}
use Rattle.ppd_ast.specs.declared.plan.Policy.{Policy}
use Rattle.ppd_ast.specs.declared.plan.Start.TheVariants as start
use Rattle.ppd_ast.specs.declared.program.Program.{Program}
use Rattle.ppd_ast.specs.declared.status.Status.{Status}
use Rattle.ppd_ast.specs.Valid.{IsValid}
use Rattle.ppd_ast.proofs.ValidLaws.{slice_get_there, valid_body}
use Rattle.ppd_blocks.specs.Blocks.{plan_of}
use Rattle.law_steps.specs.Course.{EndsWithEnd}
use Rattle.ppd_model.specs.Pieces.{unit}
use Rattle.ppd_sem.specs.Blocks.{block_todo, block_unit}
use Rattle.ppd_sem.specs.declared.proc.Proc.{Proc}
use Rattle.ppd_sem.specs.declared.proc.Todo.{Todo}
use Rattle.ppd_sem.specs.Process.{act, need_of, new_frame, started}
use Rattle.ppd_sem.proofs.NeedWords.{need_by_status}
use Rattle.ppd_sem.specs.Tables.{block_of, unit_of}
use Rattle.ppd_sem.proofs.TableWords.{or_zero}
use Rattle.ppd_model.specs.Marks.{Mark, opened}
use Rattle.ppd_model.specs.Story.{Moment, unit_started, values_of_unit}
use Rattle.law_steps.specs.Coming.Pieces.{unit_pieces}
use Rattle.law_steps.specs.OpenBlocks.Run.{IsRun}
use Rattle.law_steps.specs.Coming.Openings.{Opening, opening, opening_by, opening_of}
use Rattle.law_steps.proofs.Openings.Opened.{IsOpenedAt, opened_step}
use Rattle.law_steps.proofs.OpenBlocks.Planned.{process_found}
use Rattle.law_steps.proofs.Facts.State.{IsState, act_state, started_state}

-- the opening is at a block, in a state of a run
pub record IsAtBlock (program : Program) (plan : Plan) (o : Opening) : Type 0 where
  pub state : IsState program plan o.proc
  pub unit_at : Option ℕ
  pub at : IsOpenedAt program plan o.mark unit_at o.proc
  pub values : List ℤ
  pub units_are : o.units ≡ unit (block_unit plan at.kind) values ∷ []
  pub run : IsRun program plan o.proc o.rest

abbrev AreAtBlock : Program → Plan → Option Opening → Type 0
AreAtBlock program plan o = (x : Opening) → o ≡ Some x → IsAtBlock program plan x

module _ (program : Program) (plan : Plan) (v : IsValid program) where
  -- a step that opens is of a process that runs and has something to do
  running_of : (s : Proc) (m : Mark) (o : Option Status) → s.status ≡ o
      → opened program plan s (need_of program plan s) ≡ Some m → s.status ≡ None
  running_of s m None is e = is
  running_of s m (Some x) is e =
      absurd (true≢false (sym (ap is_some (sym (ap (λ o. opened program plan s
      (need_by_status program plan o s)) is) ∙ e))))

  step_at : (s : Proc) (m : Moment) (k : Mark) → IsState program plan s → s.status ≡ None
      → opened program plan s (need_of program plan s) ≡ Some k → (todo : List Todo) → s.todo ≡ todo
      → EndsWithEnd program todo
      → IsOpenedAt program plan k (unit_started (need_of program plan s)) (act program plan s m.taken.answer)
  step_at s m k h running e [] is ends = absurd ends
  step_at s m k h running e (t ∷ ts) is ends = opened_step program plan v s m.taken.answer h t ts is k running e

  here : (o : Opening) → IsAtBlock program plan o → AreAtBlock program plan (Some o)
  here o h x e = let same : o ≡ x = cc in subst (IsAtBlock program plan) same h

  by_mark : (s : Proc) (m : Moment) (ms : List Moment) (o : Option Mark) (n : ℕ)
      → opened program plan s m.taken.need ≡ o → m.taken.need ≡ need_of program plan s → IsState program plan s
      → IsRun program plan (act program plan s m.taken.answer) ms
      → ((i : ℕ) → AreAtBlock program plan (opening program plan (act program plan s m.taken.answer) ms i))
      → AreAtBlock program plan
      (opening_by o n (unit_pieces (unit_started m.taken.need) m.unit_values)
      (act program plan s m.taken.answer) ms (opening program plan (act program plan s m.taken.answer) ms))
  by_mark s m ms None n e need h run further = further n
  by_mark s m ms (Some k) (suc n) e need h run further = further n
  by_mark s m ms (Some k) zero e need h run further =
      let marked : opened program plan s (need_of program plan s) ≡ Some k =
      ap (opened program plan s) (sym need) ∙ e in
      let running : s.status ≡ None = running_of s k s.status refl marked in
      let at = step_at s m k h running marked s.todo refl (h.until_end running) in
      here (record {
        mark = k;
        units = unit_pieces (unit_started m.taken.need) m.unit_values;
        proc = act program plan s m.taken.answer;
        rest = ms;
      })
      (record {
        state = act_state program plan v s m.taken.answer h;
        unit_at = unit_started (need_of program plan s);
        at = at;
        values = m.unit_values;
        units_are = ap (λ u. unit_pieces u m.unit_values) (ap unit_started need ∙ at.unit_is);
        run = run;
      })

  pub openings_at : (s : Proc) (ms : List Moment) (n : ℕ) → IsState program plan s → IsRun program plan s ms
      → AreAtBlock program plan (opening program plan s ms n)
  openings_at s [] n h run = λ x e. absurd cc
  openings_at s (m ∷ ms) n h run =
      by_mark s m ms (opened program plan s m.taken.need) n refl run.0 h run.3
      (λ i. openings_at (act program plan s m.taken.answer) ms i
      (act_state program plan v s m.taken.answer h) run.3)

zero_of : (o : Option ℕ) → is_some o ≡ true → o ≡ Some (or_zero o)
zero_of None e = absurd (true≢false (sym e))
zero_of (Some b) e = refl

-- each interval of a process begins at a block
pub opening_at : (program : Program) (policy : Policy) (budget p : ℕ) (ms : List Moment) (k : ℕ) → IsValid program
    → program.functions + p < length program.bodies
    → IsRun program (plan_of program policy) (started program (plan_of program policy) p budget) ms
    → AreAtBlock program (plan_of program policy) (opening_of (setting_by program policy budget) p ms k)
opening_at program policy budget p ms zero v lt run =
    let f : ℕ = program.functions + p in
    let b = slice_get_there program.bodies f lt in
    let process : b.0.process ≡ true =
    (valid_body program f b.0 v b.1).process ∙ le-leb program.functions f (omega arith) in
    let found : is_some (block_of (plan_of program policy) (block.Process f)) ≡ true =
    process_found program policy f b.0 b.1 process in
    here program (plan_of program policy) v _
    (record {
      state = started_state program (plan_of program policy) v p budget lt;
      unit_at = Some (unit_of (plan_of program policy) (start.Entry f));
      values = values_of_unit (plan_of program policy) program.starts
          (unit_of (plan_of program policy) (start.Entry f));
      units_are = refl;
      at = record {
        kind = block.Process f;
        unit_is = refl;
        block_is = zero_of (block_of (plan_of program policy) (block.Process f)) found;
        there = (b.0, b.1, omega arith);
        frame = new_frame program f [] None;
        below = [];
        top = refl;
        home = refl;
        later = [];
        todo = sym (append-nil (block_todo program (block.Process f)));
        answers = refl;
        running = refl;
        marked = (refl, refl);
      };
      run = run;
    })
opening_at program policy budget p ms (suc k) v lt run =
    openings_at program (plan_of program policy) v (started program (plan_of program policy) p budget) ms k
    (started_state program (plan_of program policy) v p budget lt) run
