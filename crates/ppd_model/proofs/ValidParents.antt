-- In a valid program the parent of an event is a test, unless its statement is of a top list.
use Rattle.ppd_ast.specs.declared.plan.Plan.{Plan}
use Rattle.ppd_ast.specs.declared.program.Program.{Program}
use Rattle.ppd_model.proofs.OuterTests.{outers_tested}
use Rattle.ppd_model.proofs.ParentEvents.{parents_found}
use Rattle.ppd_model.specs.FullTrace.{Tracing, begun_tracing, trace_step}
use Rattle.ppd_model.specs.Parents.{GoesOn, HasParent, HasTestedOuter, IsOfTopList, IsOutermost, IsTested, StandsIn, ValidParents}
use Rattle.ppd_model.specs.Story.{Story, Taken, story}
use Rattle.ppd_model.specs.declared.trace.EventId.{EventId}
use Rattle.ppd_sem.specs.Process.{started}
use Rattle.std.proofs.Common.{List, None, Option, Some, ap, arith, inl, inr, length, refl, sym, ℕ, ◌+◌, ◌<◌, ◌∙◌, ◌≡◌, ◌⊎◌}
use Rattle.std.specs.Prelude.{[], fold, get_or, option_and_then, slice_get, ◌-◌}

module _ (program : Program) (plan : Plan) (story : Story) (p k s : ℕ) (t : Tracing) (xs : List Taken) (parent : Option EventId) (tested : (outer : ℕ) → option_and_then (λ x. x.parent) (slice_get program.stmts s) ≡ Some outer → IsTested program plan story p k outer t xs) where
  -- a statement whose parent was not tested has none
  no_outer : (o : Option ℕ) → option_and_then (λ x. x.parent) (slice_get program.stmts s) ≡ o → IsOutermost program plan story p k s t xs parent → option_and_then (λ x. x.parent) (slice_get program.stmts s) ≡ None
  no_outer None e i = e
  no_outer (Some outer) e i =
      let is : IsTested program plan story p k outer t xs = tested outer e in
      absurd (i.untested outer e is.event is.passed is.latest)

  by_case : GoesOn program plan story p k s t xs parent ⊎ (StandsIn program plan story p k s t xs parent ⊎ IsOutermost program plan story p k s t xs parent)
      → GoesOn program plan story p k s t xs parent ⊎ (StandsIn program plan story p k s t xs parent ⊎ IsOfTopList program plan story p k s t xs parent)
  by_case h = elim h [
    | inl g ↦ inl g
    | inr r ↦ elim r [
      | inl i ↦ inr (inl i)
      | inr o ↦ inr (inr (record { first = o.first; top = no_outer (option_and_then (λ x. x.parent) (slice_get program.stmts s)) refl o; call = o.call }))
    ]
  ]

pub valid_parents : ValidParents
valid_parents setting h p n e valid is =
    let st : Story = story setting h in
    let t : Tracing = begun_tracing (started setting.program setting.plan p setting.budget) in
    let w : HasParent setting.program setting.plan st p t (get_or st.steps p []) n e = parents_found setting h p n e is in
    let u : Tracing = fold (trace_step setting.program setting.plan st p) t w.before in
    let o : HasTestedOuter setting.program setting.plan st p t w.before w.taken = outers_tested setting h p w.before w.taken w.after valid w.steps_are w.finishes in
    let there : 0 < length u.proc.frames = o.activation in
    let k : ℕ = length u.proc.frames - 1 in
    let top : length u.proc.frames - 1 + 1 ≡ length u.proc.frames = omega arith in
    record {
      event = w;
      activation = k;
      is_top = top;
      parent = by_case setting.program setting.plan st p k e.event.stmt t w.before e.parent
          (λ outer parent. o.tested k outer top (sym (ap (λ x. option_and_then (λ x. x.parent) (slice_get setting.program.stmts x.stmt)) w.event_is) ∙ parent)) (w.parent k top);
    }
