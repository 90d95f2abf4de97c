-- At each beginning of a process's steps the tags are told.
use Rattle.std.proofs.Common.{◌≡◌, ℕ, zero, suc, ◌+◌, ◌<◌, ℤ, List, [], ◌∷◌, Option, Some, None, refl, ap, sym, subst, ◌∙◌, length, map, get_or, true≢false, arith, ◌-◌}
use Rattle.std.specs.Prelude.{fold}
use Rattle.std.proofs.lemmas.Option.{none-some}
use Rattle.ppd_ast.specs.Valid.{IsValid}
use Rattle.ppd_ast.specs.declared.plan.Plan.{Plan}
use Rattle.ppd_ast.specs.declared.plan.Policy.{Policy}
use Rattle.ppd_ast.specs.declared.program.Program.{Program}
use Rattle.ppd_ast.specs.declared.status.Status.{Status}
use Rattle.ppd_blocks.specs.Blocks.{plan_of}
use Rattle.law_steps.specs.OpenBlocks.Stack.{process_block}
use Rattle.ppd_sem.specs.Process.{act, need_of, new_frame, started}
use Rattle.ppd_sem.specs.declared.proc.Proc.{Proc}
use Rattle.ppd_sem.proofs.Progress.{act-stopped, need_at_status}
use Rattle.ppd_model.specs.FullTrace.{Tag, begun_tracing}
use Rattle.ppd_model.specs.Intervals.{Split, begun_split, split_step}
use Rattle.ppd_model.specs.LocalTags.{AreOwn, HasTags, cells_in, local_tag}
use Rattle.ppd_model.specs.declared.tracing.Story.{Story}
use Rattle.ppd_model.specs.declared.tracing.Taken.{Taken}
use Rattle.ppd_model.proofs.LocalSteps.{tags_its_writes}
use Rattle.law_flow.specs.Places.Levels.{IsLater, Level, StandsIn}
use Rattle.law_flow.proofs.Vocabulary.Levels.{levels_after}
use Rattle.law_flow.proofs.Places.Following.{IsFollowed, followed_step, process_kind, process_there}
use Rattle.law_flow.proofs.Places.Later.{later_then, levels_to, step_stands, steps_later}
use Rattle.law_flow.proofs.Places.Whole.{AreWhole}
use Rattle.law_flow.proofs.Vocabulary.Says.{with_own}
use Rattle.ppd_model.specs.NearIntervals.{is_loop}
use Rattle.ppd_model.proofs.Homes.{IsHome, act-home}
use Rattle.law_flow.proofs.Control.Moments.{Moment, step_moment}
use Rattle.law_flow.proofs.Control.Start.{start_moment}
use Rattle.law_flow.proofs.Vocabulary.LoopTells.{IsBefore, IsCalledIn}
use Rattle.law_flow.proofs.Locals.Stepping.Going.{tells_step}
use Rattle.law_flow.proofs.Locals.Tells.Tags.{TellsOf}

-- before the first step no cell has a tag
no_tag : (xs : List ℤ) (c : ℕ) → ◌≡◌ {A = Tag} (get_or (map (λ _. None) xs) c None) None
no_tag [] c = refl
no_tag (x ∷ xs) zero = refl
no_tag (x ∷ xs) (suc c) = no_tag xs c

module _ (program : Program) (policy : Policy) (v : IsValid program) (story : Story) (p : ℕ) (y : Split)
    (whole : AreWhole y)
    (there_is : program.functions + p < length program.bodies) where
  abbrev plan : Plan
  plan = plan_of program policy

  -- the levels of a process that goes on, and the tags told there
  pub record AtMoment (x : Split) (ls : List Level) : Type 0 where
    pub moment : Moment program policy v story p x ls
    pub tells : TellsOf program (plan_of program policy) p y x.trace ls

  tells_next : (x : Split) (ls : List Level) (t : Taken) → t.need ≡ need_of program plan x.trace.proc
      → IsLater (split_step program plan story p x t) y → IsFollowed program policy v story p y whole x ls
      → HasTags x.trace → IsHome program x.trace.proc
      → (x.trace.proc.status ≡ None → AtMoment x ls) → (act program plan x.trace.proc t.answer).status ≡ None
      → AtMoment (split_step program plan story p x t) (levels_after program plan t.need x ls)
  tells_next x ls t mine later f tagged home h goes = by x.trace.proc.status refl
    where
      by : (o : Option Status) → x.trace.proc.status ≡ o
          → AtMoment (split_step program plan story p x t) (levels_after program plan t.need x ls)
      by None runs =
          let step = step_stands program plan story p x t ls f.stands in
          record {
            moment = step_moment program policy v story p x ls t mine home (λ r. (h r).moment) step.1.events goes;
            tells = tells_step program policy v story p y whole there_is x t ls f mine later runs goes tagged
                (later_then x (split_step program plan story p x t) y step.1 later) (h runs).moment (h runs).tells;
          }
      by (Some st) stopped =
          absurd (none-some st (sym goes
          ∙ ap (λ (q : Proc). q.status) (act-stopped program plan x.trace.proc t.answer
          (need_at_status program plan x.trace.proc (Some st) stopped)) ∙ stopped))

  pub tells_all : (x : Split) (ls : List Level) (steps : List Taken) → AreOwn program plan x.trace.proc steps
      → IsLater (fold (split_step program plan story p) x steps) y → IsFollowed program policy v story p y whole x ls
      → HasTags x.trace → IsHome program x.trace.proc
      → (x.trace.proc.status ≡ None → AtMoment x ls)
      → (fold (split_step program plan story p) x steps).trace.proc.status ≡ None
      → AtMoment (fold (split_step program plan story p) x steps) (levels_to program plan story p x steps ls)
  tells_all x ls [] mine later f tagged home h runs = h runs
  tells_all x ls (t ∷ ts) mine later f tagged home h runs =
      let now : Split = split_step program plan story p x t in
      let stands : StandsIn now (levels_after program plan t.need x ls) =
      (step_stands program plan story p x t ls f.stands).0 in
      let from : IsLater now y = later_then now (fold (split_step program plan story p) now ts) y
      (steps_later program plan story p now (levels_after program plan t.need x ls) ts stands) later in
      tells_all now (levels_after program plan t.need x ls) ts mine.1 later
      (followed_step program policy v story p y whole x t ls mine.0 from f)
      (tags_its_writes program plan story p x.trace t tagged mine.0).has_tags
      (act-home program plan x.trace.proc t.answer v home)
      (λ goes. tells_next x ls t mine.0 from f tagged home h goes) runs

  -- at the start no cell is written
  pub tells_start : (budget : ℕ)
      → AtMoment (begun_split program plan p (started program plan p budget)) (record {
        interval = 0;
        block = process_block program plan p;
        parts = [];
      } ∷ [])
  tells_start budget =
      let kind = process_kind program policy v story p y whole there_is in
      record {
        moment = start_moment program policy p v story budget
            (process_there program policy v story p y whole there_is);
        tells = (
          record {
            own_cells = λ free.
                subst (λ k. (c : ℕ)
                → c < cells_in (started program plan p budget).frames (with_own k 0 - 1)
                → IsBefore program plan p y (process_block program plan p) k [] c
                (local_tag (begun_tracing (started program plan p budget)).activations (with_own k 0 - 1) c)) (sym kind)
                (λ c lt. no_tag (new_frame program (program.functions + p) [] None).cells c);
            leaf_cells = λ told call e. absurd (none-some call e);
            loop = λ is. absurd (true≢false (sym is ∙ ap is_loop kind));
            called = subst (λ k. IsCalledIn program plan y k []) (sym kind) tt;
            counted = subst (λ k. 0 < with_own k 0) (sym kind) (omega arith);
          },
          tt,
        );
      }
