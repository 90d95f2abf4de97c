-- Before its first step a process is at the one level of its body; and its level is always the outermost one.
use Rattle.std.proofs.Common.{◌≡◌, ℕ, suc, ◌+◌, true, List, [], ◌∷◌, Option, Some, None, refl, ap, sym, subst, ◌∙◌, arith, append-nil, inl}
use Rattle.std.specs.Prelude.{drop, is_some, slice_get, option_and_then, unwrap_or}
use Rattle.std.specs.List.{All}
use Rattle.std.proofs.lemmas.Option.{none-some}
use Rattle.std.specs.Option.{option_map_or}
use Rattle.ppd_ast.specs.Order.{StandIn}
use Rattle.ppd_ast.specs.Valid.{IsValid}
use Rattle.ppd_ast.specs.declared.plan.BlockKind.TheVariants as block
use Rattle.ppd_ast.specs.declared.plan.Policy.{Policy}
use Rattle.ppd_ast.specs.declared.program.Body.{Body}
use Rattle.ppd_ast.specs.declared.program.Program.{Program}
use Rattle.ppd_ast.specs.declared.program.Stmt.{Stmt}
use Rattle.ppd_ast.proofs.ValidLaws.{some_and}
use Rattle.ppd_blocks.specs.Blocks.{plan_of}
use Rattle.law_steps.proofs.OpenBlocks.Planned.{kind_is}
use Rattle.law_steps.specs.OpenBlocks.Stack.{process_block}
use Rattle.law_steps.proofs.OpenBlocks.Framed.{process_stays}
use Rattle.ppd_sem.specs.Blocks.{block_kind}
use Rattle.ppd_sem.specs.declared.proc.Todo.{Todo}
use Rattle.ppd_sem.specs.Process.{started, todos}
use Rattle.ppd_sem.specs.Runs.{IsInner}
use Rattle.ppd_sem.specs.Tables.{block_of}
use Rattle.ppd_sem.proofs.TableWords.{or_zero}
use Rattle.ppd_model.specs.declared.tracing.Story.{Story}
use Rattle.ppd_model.specs.Intervals.{begun_split}
use Rattle.ppd_model.proofs.Moves.{body_top}
use Rattle.ppd_model.proofs.TestSteps.{View}
use Rattle.law_flow.proofs.Control.Levels.{AllHold, Facts, Level, OverNext, Run, Sort, frame_of, function, leaf, loop, process, runs_of, runs_with}
use Rattle.law_flow.proofs.Control.Located.{EndsInProcess}
use Rattle.law_flow.proofs.Control.Moments.{Moment}
use Rattle.law_flow.proofs.Control.Statics.{top_calm}
use Rattle.law_flow.proofs.Places.Frames.{is_there}
use Rattle.ppd_ast.specs.Lookups.{no_body}

module _ (program : Program) (policy : Policy) (p : ℕ) where
  -- ---- the outermost level

  more_ends : (r : Run) (rs : List Run) → (q : Run) × (qs : List Run) × (rs ≡ q ∷ qs) → EndsInProcess rs
      → EndsInProcess (r ∷ rs)
  more_ends r rs is h = subst (λ xs. EndsInProcess (r ∷ xs)) (sym is.2) (subst EndsInProcess is.2 h)

  some_runs : (sort : Sort) (r : Run) (rs : List Run) → (q : Run) × (qs : List Run) × (runs_with sort r rs ≡ q ∷ qs)
  some_runs process r rs = (r, rs, refl)
  some_runs function r rs = (r, rs, refl)
  some_runs leaf r rs = (r, drop 1 rs, refl)
  some_runs (loop l) r rs = (r, rs, refl)

  same_end : (r q : Run) (rs : List Run) → r.kind ≡ q.kind → EndsInProcess (q ∷ rs) → EndsInProcess (r ∷ rs)
  same_end r q [] e h = (h.0, e ∙ h.1)
  same_end r q (z ∷ zs) e h = h

  leaf_ends : (sort : Sort) (r q : Run) (rs : List Run) → frame_of sort ≡ 0 → r.kind ≡ q.kind
      → EndsInProcess (runs_with sort q rs) → EndsInProcess (r ∷ drop 1 (runs_with sort q rs))
  leaf_ends process r q rs f e h = same_end r q rs e h
  leaf_ends function r q rs f e h = same_end r q rs e h
  leaf_ends leaf r q rs f e h = absurd (omega (arith, f))
  leaf_ends (loop l) r q rs f e h = same_end r q rs e h

  by_sort : (x : Level) (ys : List Level) (sort : Sort) → OverNext program policy p sort x ys
      → EndsInProcess (runs_of ys) → EndsInProcess (runs_with sort x.run (runs_of ys))
  by_sort x ys process o h = subst (λ zs. EndsInProcess (x.run ∷ runs_of zs)) (sym o.0) (program.functions + p, o.1)
  by_sort x [] function o h = absurd o
  by_sort x (y ∷ ys) function o h = more_ends x.run (runs_of (y ∷ ys)) (some_runs y.sort y.run (runs_of ys)) h
  by_sort x [] leaf o h = absurd o
  by_sort x (y ∷ ys) leaf o h = leaf_ends y.sort x.run y.run (runs_of ys) o.frame_is o.kind_is h
  by_sort x [] (loop l) o h = absurd o
  by_sort x (y ∷ ys) (loop l) o h = more_ends x.run (runs_of (y ∷ ys)) (some_runs y.sort y.run (runs_of ys)) h

  pub ends_in_process : (levels : List Level) → AllHold program policy p levels → EndsInProcess (runs_of levels)
  ends_in_process [] h = tt
  ends_in_process (x ∷ xs) h = by_sort x xs x.sort h.0.over (ends_in_process xs h.1)

  -- ---- the start

  stands : (o : Option Stmt) (body : ℕ) → (s : Stmt) × (o ≡ Some s) × ((s.parent ≡ None) × (s.body ≡ body))
      → (option_map_or (λ (x : Stmt). x.body) o 0 ≡ body) × (option_and_then (λ (x : Stmt). x.parent) o ≡ None)
  stands o body h = (ap (λ o. option_map_or (λ (x : Stmt). x.body) o 0) h.1 ∙ h.2.1, ap (option_and_then (λ (x : Stmt). x.parent)) h.1 ∙ h.2.0)

  top_facts : (n body : ℕ) (v : View) (stmts : List ℕ) → All (IsInner program n) stmts
      → StandIn program.stmts None body stmts → Facts program policy p process body [] v (todos stmts)
  top_facts n body v [] over stand = tt
  top_facts n body v (i ∷ is) over stand =
      let at = stands (slice_get program.stmts i) body
      (some_and (λ (s : Stmt). (s.parent ≡ None) × (s.body ≡ body)) (slice_get program.stmts i)
      (stand 0 i (omega arith))) in (
        (
          record {
            home = at.0;
            stands = top_calm program policy i at.1;
            outer = λ o e. absurd
                (none-some o (sym at.1 ∙ e));
          },
          ((over 0 i (omega arith)).stays, refl),
        ),
        top_facts n body v is (λ k d lt. over (suc k) d (omega (arith, lt)))
            (λ k d lt. stand (suc k) d (omega (arith, lt))),
      )

  body_facts : (v : View) → IsValid program → (o : Option Body) → slice_get program.bodies (program.functions + p) ≡ o
      → Facts program policy p process (program.functions + p) [] v (todos (unwrap_or o no_body).top)
  body_facts v valid None e = tt
  body_facts v valid (Some b) e =
      let inner = process_stays program (program.functions + p) valid (omega arith) in
      top_facts inner.0 (program.functions + p) v b.top
      (subst (λ o. All (IsInner program inner.0) (unwrap_or o no_body).top) e inner.1)
      (body_top program (program.functions + p) b valid e)

  pub start_moment : (v : IsValid program) (story : Story) (budget : ℕ)
      → is_some (block_of (plan_of program policy) (block.Process (program.functions + p))) ≡ true
      → Moment program policy v story p
      (begun_split program (plan_of program policy) p (started program (plan_of program policy) p budget))
      (record { interval = 0; block = process_block program (plan_of program policy) p; parts = [] } ∷ [])
  start_moment v story budget is =
      let b = is_there (block_of (plan_of program policy) (block.Process (program.functions + p))) is in
      let kind : block_kind (plan_of program policy) (process_block program (plan_of program policy) p) ≡ block.Process
      (program.functions + p) =
      ap (λ o. block_kind (plan_of program policy) (or_zero o)) b.1
      ∙ kind_is program policy (block.Process (program.functions + p)) b.0 b.1 in
      let run : Run = record {
        number = 0;
        kind = block_kind (plan_of program policy)
            (process_block program (plan_of program policy) p);
        place = 0;
        sight = [];
      } in
      let todo : List Todo = (started program (plan_of program policy) p budget).todo in
      record {
        levels = record {
          sort = process;
          body = program.functions + p;
          run = run;
          view =
              (None, []);
          todo = todo;
          last = [];
        } ∷ [];
        hold = (
          record {
            knows = record {
              free = λ s home choice free. inl
                  (refl, refl);
              unfound = λ l home is_loop. refl;
              quiet = λ s l w is_loop inside. refl;
            };
            facts = body_facts (None, []) v (slice_get program.bodies (program.functions + p)) refl;
            ends = refl;
            over = (refl, kind, refl);
          },
          tt,
        );
        leaf = λ zero_is. refl;
        todo_is = sym (append-nil todo);
        views_are = refl;
        seen = (record { sight = []; is = tt; sight_is = refl; number_is = refl; kind_is = refl; place_is = tt }, tt);
      }
