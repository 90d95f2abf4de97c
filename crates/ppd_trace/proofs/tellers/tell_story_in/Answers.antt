use Rattle.ppd_model.specs.Setting.{Setting}
use Rattle.std.proofs.Common.{ℕ, ◌+◌, ◌<◌, ◌≤◌, length, get_or, take, subst, arith}
use Rattle.std.proofs.lemmas.Result.{err_from_is_err_and}
use Rattle.ppd_trace.specs.Settings.{IsValidSetting}
use Rattle.ppd_trace.specs.Telling.{Tells}
use Rattle.ppd_trace.proofs.Spent.{cells_told}
use Rattle.ppd_trace.proofs.Told.{few_more, reached}
use Rattle.ppd_trace.proofs.Traced.{few_numbers, refused_at, story_is, tells_next, traceable}
use Rattle.ppd_trace.proofs.tellers.tell_story_in.Goals as goal
use Rattle.ppd_model.proofs.Lists.{get_or_any}

pub follow-requires-clause-reached : goal.follow-requires-clause-reached
follow-requires-clause-reached g c =
    let valid : IsValidSetting c.args.setting.now = subst (λ (v : Setting). IsValidSetting v) c.setting.view_is c.setting.invariant in
    let t = c.loop-index.teller in
    reached c.args.setting.now (take c.loop-index.index c.args.schedule.now) t.world t.counts t.writers t.steps.items valid.program valid.plan valid.budget c.loop-index.invariant.tells

pub follow-requires-clause-few : goal.follow-requires-clause-few
follow-requires-clause-few g c =
    let valid : IsValidSetting c.args.setting.now = subst (λ (v : Setting). IsValidSetting v) c.setting.view_is c.setting.invariant in
    let t = c.loop-index.teller in
    few_more c.args.setting.now (take c.loop-index.index c.args.schedule.now) t.world t.counts t.writers t.steps.items (get_or c.args.schedule.now c.loop-index.index 0) valid.program valid.budget c.loop-index.invariant.tells

pub loop-index-preserved : goal.loop-index-preserved
loop-index-preserved g c =
    let valid : IsValidSetting c.args.setting.now = subst (λ (v : Setting). IsValidSetting v) c.setting.view_is c.setting.invariant in
    let t = c.loop-index.teller in
    let u = c.follow.new.self in
    let h = c.args.schedule.now in
    let i = c.loop-index.index in
    let p : ℕ = get_or h i 0 in
    let inside : i < length h = omega arith in
    let next : Tells c.args.setting.now (take (i + 1) h) u.world u.counts u.writers u.steps.items =
    tells_next c.args.setting.now h i p t.world t.counts t.writers t.steps.items u.world u.counts u.writers u.steps.items inside (get_or_any h i 0 p inside) c.loop-index.invariant.tells c.in_ok-follow.ensures.enabled c.in_ok-follow.ensures.told in
    record {
      tells = next;
      few = few_numbers c.args.setting.now h (i + 1) u.world u.counts u.writers u.steps.items (omega arith) valid.program valid.budget next;
      spent = omega (arith, c.loop-index.invariant.spent, c.tick.ensures, c.in_ok-follow.ensures.cost);
    }

pub returns-in_err-follow-clause-story : goal.returns-in_err-follow-clause-story
returns-in_err-follow-clause-story g c =
    let t = c.loop-index.teller in
    let h = c.args.schedule.now in
    let i = c.loop-index.index in
    let p : ℕ = get_or h i 0 in
    let inside : i < length h = omega arith in
    let e = err_from_is_err_and c.from_residual-in_err-follow.result c.from_residual-in_err-follow.ensures.1 in
    rw (e.1, e.2) (refused_at c.args.setting.now h i p t.world t.counts t.writers t.steps.items c.in_err-follow.field-0.0 inside (get_or_any h i 0 p inside) c.loop-index.invariant.tells c.in_err-follow.ensures.cause)

pub returns-clause-story : goal.returns-clause-story
returns-clause-story g c =
    let t = c.loop-index.teller in
    story_is c.args.setting.now c.args.schedule.now c.loop-index.index t.world t.counts t.writers t.steps.items c.in_ok-close.field-0 (omega arith) c.loop-index.invariant.tells c.in_ok-close.ensures.value

pub returns-clause-traceable : goal.returns-clause-traceable
returns-clause-traceable g c =
    let valid : IsValidSetting c.args.setting.now = subst (λ (v : Setting). IsValidSetting v) c.setting.view_is c.setting.invariant in
    traceable c.args.setting.now c.args.schedule.now c.in_ok-close.field-0 valid.program valid.budget (returns-clause-story g c)

pub returns-clause-cost : goal.returns-clause-cost
returns-clause-cost g c =
    let t = c.loop-index.teller in
    let within : c.loop-index.index ≤ length c.args.schedule.now = omega arith in
    omega (
      arith,
      c.loop-index.invariant.spent,
      c.in_ok-close.ensures.cost,
      cells_told c.args.setting.now (take c.loop-index.index c.args.schedule.now) t.world t.counts t.writers t.steps.items c.loop-index.invariant.tells,
    )

pub returns-in_err-close-clause-cost : goal.returns-in_err-close-clause-cost
returns-in_err-close-clause-cost g c =
    let t = c.loop-index.teller in
    let within : c.loop-index.index ≤ length c.args.schedule.now = omega arith in
    omega (
      arith,
      c.loop-index.invariant.spent,
      c.in_err-close.ensures.cost,
      cells_told c.args.setting.now (take c.loop-index.index c.args.schedule.now) t.world t.counts t.writers t.steps.items c.loop-index.invariant.tells,
    )
