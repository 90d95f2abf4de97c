-- Each interval of a process that has ended is gone past by its postlog.
use Rattle.law_steps.specs.Policies.{setting_by}
use Rattle.ppd_model.specs.Setting.{setting_of}
use Rattle.std.proofs.Common.{◌≡◌, ℕ, suc, ◌+◌, ◌<◌, List, [], ◌∷◌, ◌++◌, length, Option, Some, None, refl, ap, sym, subst, ◌∙◌, arith, append_assoc}
use Rattle.std.specs.Prelude.{⊤, fold, option_map, slice_get, take, get_or}
use Rattle.std.proofs.lemmas.List.{length-append}
use Rattle.std.proofs.lemmas.List.Sums.{fold-append}
use Rattle.std.proofs.lemmas.Option.{none-some}
use Rattle.std.proofs.Math.Seq.{take-append_seam}
use Rattle.ppd_ast.specs.declared.plan.Plan.{Plan}
use Rattle.ppd_ast.specs.declared.plan.Policy.{Policy}
use Rattle.ppd_ast.specs.declared.program.Program.{Program}
use Rattle.ppd_ast.specs.Valid.{IsValid}
use Rattle.ppd_blocks.specs.Blocks.{plan_of}
use Rattle.ppd_sem.specs.declared.proc.Proc.{Proc}
use Rattle.ppd_sem.specs.Process.{act, started}
use Rattle.ppd_model.specs.declared.tracing.Story.{Story}
use Rattle.ppd_model.specs.declared.tracing.Taken.{Taken}
use Rattle.ppd_model.specs.Intervals.{Split, begun_split, spans_in, split_of, split_step, splits}
use Rattle.ppd_model.specs.LocalTags.{AreOwn}
use Rattle.ppd_model.specs.States.{act_on}
use Rattle.ppd_model.specs.Story.{story}
use Rattle.ppd_model.proofs.Items.{split_found}
use Rattle.ppd_model.proofs.LocalTags.{own_steps_told}
use Rattle.law_steps.proofs.Facts.State.{started_state}
use Rattle.law_steps.proofs.Theorem.Processes.{process_there}
use Rattle.law_steps.proofs.OpenBlocks.Stacks.{steps_move}
use Rattle.law_steps.specs.Skips.{IsGonePast, SkipsGoPast, state_after}
use Rattle.law_steps.proofs.Skips.Itself.{starts}
use Rattle.law_steps.proofs.Skips.Running.{AreGonePast, IsRight}
use Rattle.law_steps.proofs.Skips.Seen.{marks}
use Rattle.law_steps.proofs.Skips.Steps.{step}

module _ (program : Program) (policy : Policy) (v : IsValid program) (budget : ℕ) (h : List ℕ) (p : ℕ)
    (there : program.functions + p < length program.bodies) where
  abbrev plan : Plan
  plan = plan_of program policy

  abbrev whole : Story
  whole = story (setting_of program plan budget) h

  -- the state before each step
  abbrev at : ℕ → Proc
  at n = state_after (setting_of program plan budget) whole p n

  abbrev Right : ℕ → Split → Type 0
  Right n x = IsRight program policy v p there at n x.spans x.running x.trace.proc

  -- from step n on the steps lead from one state to the next
  abbrev Follow : ℕ → Proc → List Taken → Type 0
  Follow n s [] = ⊤
  Follow n s (t ∷ ts) =
      (at (n + 1) ≡ act program plan s t.answer) × Follow (n + 1) (act program plan s t.answer) ts

  follow : (done ts : List Taken) (n : ℕ) → get_or whole.steps p [] ≡ done ++ ts → length done ≡ n
      → Follow n (fold (act_on program plan) (started program plan p budget) done) ts
  follow done [] n e count = tt
  follow done (t ∷ ts) n e count =
      let one : length (done ++ t ∷ []) ≡ n + 1 = length-append done (t ∷ []) ∙ ap (λ m. m + 1) count in
      let all : get_or whole.steps p [] ≡ (done ++ t ∷ []) ++ ts = e ∙ sym (append_assoc done (t ∷ []) ts) in
      let last : fold (act_on program plan) (started program plan p budget) (done ++ t ∷ [])
      ≡ act program plan (fold (act_on program plan) (started program plan p budget) done) t.answer =
      fold-append (act_on program plan) (started program plan p budget) done (t ∷ []) in
      let taken : take (n + 1) (get_or whole.steps p []) ≡ done ++ t ∷ [] =
      ap (take (n + 1)) all ∙ ap (λ m. take m ((done ++ t ∷ []) ++ ts)) (sym one)
      ∙ take-append_seam (done ++ t ∷ []) ts in (
        ap (fold (act_on program plan) (started program plan p budget)) taken ∙ last,
        subst (λ s. Follow (n + 1) s ts) last (follow (done ++ t ∷ []) ts (n + 1) all one),
      )

  all_steps : (ts : List Taken) (x : Split) (n : ℕ) → Right n x → length x.edges ≡ n
      → AreOwn program plan x.trace.proc ts → Follow n x.trace.proc ts
      → AreGonePast program policy v p there at (fold (split_step program plan whole p) x ts).spans
  all_steps [] x n r count own next = r.past
  all_steps (t ∷ ts) x n r count own next =
      all_steps ts (split_step program plan whole p x t) (n + 1)
      (step program policy v p there at whole n x t count own.0 next.0 r)
      (length-append x.edges (x.edge ∷ []) ∙ ap (λ m. m + 1) count) own.1 next.1

  -- before the first step the process's own interval runs
  begins : Right 0 (begun_split program plan p (started program plan p budget))
  begins = record {
    here = refl;
    state = started_state program plan v p budget there;
    past = λ k n m e c. absurd (none-some m e);
    live = λ on. record {
      beside = starts program policy v p there budget;
      order = steps_move.starts program plan p budget v there;
      count = ap length (steps_move.alone program plan p budget v);
      runs = refl;
    };
  }

  pub gone_past_all : AreGonePast program policy v p there at
      (split_of (setting_of program plan budget) whole p (get_or whole.steps p [])).spans
  gone_past_all =
      all_steps (get_or whole.steps p []) (begun_split program plan p (started program plan p budget)) 0 begins refl
      (own_steps_told (setting_of program plan budget) h p) (follow [] (get_or whole.steps p []) 0 refl refl)

pub skips_go_past : SkipsGoPast
skips_go_past program policy budget h p k n i v e c =
    by (slice_get (splits (setting_by program policy budget)
    (story (setting_by program policy budget) h)) p) refl e
  where
    by : (o : Option Split)
        → slice_get (splits (setting_by program policy budget)
        (story (setting_by program policy budget) h)) p ≡ o
        → slice_get (spans_in o) (suc k) ≡ Some i
        → IsGonePast program (plan_of program policy) i.block i.values
        (state_after (setting_by program policy budget) (story (setting_by program policy budget) h) p
        i.opened)
        (state_after (setting_by program policy budget) (story (setting_by program policy budget) h) p
        (n + 1))
    by None at e = absurd (none-some i e)
    by (Some x) at e =
        let s : Story = story (setting_by program policy budget) h in
        let there : program.functions + p < length program.bodies =
        process_there (setting_by program policy budget) h p x at in
        let zero_is : 0 + p ≡ p = omega arith in
        let is : split_of (setting_by program policy budget) s p (get_or s.steps p []) ≡ x =
        ap (λ q. split_of (setting_by program policy budget) s q (get_or s.steps p [])) (sym zero_is)
        ∙ split_found (setting_by program policy budget) s 0 s.steps p x at in
        gone_past_all program policy v budget h p there k n (marks i)
        (ap (λ (y : Split). option_map marks (slice_get y.spans (suc k))) is ∙ ap (option_map marks) e) c
