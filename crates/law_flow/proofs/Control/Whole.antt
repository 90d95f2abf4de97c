-- The search finds the control edge of each item of a process.
use Rattle.law_steps.specs.Policies.{setting_by}
use Rattle.ppd_model.specs.Setting.{setting_of}
use Rattle.std.proofs.Common.{◌≡◌, ℕ, zero, suc, List, [], ◌∷◌, Some, None, subst}
use Rattle.std.specs.Prelude.{fold, slice_get, get_or}
use Rattle.std.proofs.lemmas.Option.{none-some}
use Rattle.ppd_ast.specs.Valid.{IsValid}
use Rattle.ppd_ast.specs.declared.plan.Plan.{Plan}
use Rattle.ppd_ast.specs.declared.plan.Policy.{Policy}
use Rattle.ppd_ast.specs.declared.program.Program.{Program}
use Rattle.ppd_blocks.specs.Blocks.{plan_of}
use Rattle.ppd_sem.specs.Process.{started}
use Rattle.ppd_model.specs.declared.tracing.Story.{Story}
use Rattle.ppd_model.specs.declared.tracing.Taken.{Taken}
use Rattle.ppd_model.specs.Intervals.{own, nested, Split, begun_split, split_step, splits}
use Rattle.ppd_model.specs.LocalTags.{AreOwn}
use Rattle.ppd_model.specs.Story.{story}
use Rattle.ppd_model.proofs.Homes.{IsHome, act-home, started-home}
use Rattle.ppd_model.proofs.LocalTags.{own_steps_told}
use Rattle.law_steps.specs.OpenBlocks.Stack.{process_block}
use Rattle.law_flow.specs.Places.Levels.{IsLater, StandsIn, Level as Place}
use Rattle.law_flow.proofs.Vocabulary.Levels.{levels_after}
use Rattle.law_flow.proofs.Places.Following.{process_there}
use Rattle.law_flow.proofs.Places.Later.{step_stands, steps_later}
use Rattle.law_flow.proofs.Places.LeafTells.{begins, process_below, split_is}
use Rattle.law_flow.specs.Control.Found.{ControlsAreFound}
use Rattle.law_flow.proofs.Control.Moments.{Moment, step_moment}
use Rattle.law_flow.proofs.Control.Start.{start_moment}
use Rattle.law_flow.proofs.Control.Referred.{all_items}
use Rattle.law_flow.proofs.Control.Claimed.{Claims}
use Rattle.law_flow.proofs.Control.Claims.{step_claims}

module _ (program : Program) (policy : Policy) (budget : ℕ) (h : List ℕ) (p : ℕ) (y : Split) (v : IsValid program)
    (at : slice_get (splits (setting_by program policy budget) (story (setting_by program policy budget) h))
    p ≡ Some y) where
  abbrev plan : Plan
  plan = plan_of program policy

  abbrev s : Story
  s = story (setting_of program plan budget) h

  -- ---- all steps

  all_claims : (x : Split) (ls : List Place) (ts : List Taken) → AreOwn program plan x.trace.proc ts → StandsIn x ls
      → IsHome program x.trace.proc → (x.trace.proc.status ≡ None → Moment program policy v s p x ls)
      → fold (split_step program plan s p) x ts ≡ y → Claims program policy budget h p y v at x
      → Claims program policy budget h p y v at y
  all_claims x ls [] own' st home m is claims = subst (Claims program policy budget h p y v at) is claims
  all_claims x ls (t ∷ ts) own' st home m is claims =
      let x1 : Split = split_step program plan s p x t in
      let stands = step_stands program plan s p x t ls st in
      let later : IsLater x1 y = subst (IsLater x1) is
      (steps_later program plan s p x1 (levels_after program plan t.need x ls) ts stands.0) in
      all_claims x1 (levels_after program plan t.need x ls) ts own'.1 stands.0
      (act-home program plan x.trace.proc t.answer v home)
      (λ goes. step_moment program policy v s p x ls t own'.0 home m stands.1.events goes) is
      (step_claims program policy budget h p y v at x ls t own'.0 st m later claims)

  none_yet : Claims program policy budget h p y v at (begun_split program plan p (started program plan p budget))
  none_yet zero j q e = absurd (none-some q e)
  none_yet (suc k) j q e = absurd (none-some q e)

  pub claims_hold : Claims program policy budget h p y v at y
  claims_hold =
      let there = process_below (setting_of program plan budget) h p y at in
      let f = begins program policy budget h p y v at in
      all_claims (begun_split program plan p (started program plan p budget))
      (record { interval = 0; block = process_block program plan p; parts = [] } ∷ []) (get_or s.steps p [])
      (own_steps_told (setting_of program plan budget) h p) f.stands
      (started-home program plan p budget v)
      (λ runs. start_moment program policy p v s budget
      (process_there program policy v s p y (all_items program policy budget h p y v at).whole there))
      (split_is (setting_of program plan budget) h p y at) none_yet

pub controls_found : ControlsAreFound
controls_found program policy budget h p y v at k j = record {
  event = λ n e part there. claims_hold program policy budget h p y v at k j (own n) part e there;
  loop = λ m l i part there kind. (claims_hold program policy budget h p y v at k j (nested m) part i there).0 l kind;
  function = λ m i part there isnt. (claims_hold program policy budget h p y v at k j (nested m) part i there).1 isnt;
}
