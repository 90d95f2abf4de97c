use Rattle.std.proofs.Common.{ℕ, ◌+◌, ◌<◌, ◌≤◌, length, get_or, take, sym, subst, arith}
use Rattle.std.proofs.lemmas.Result.{err_from_is_err_and}
use Rattle.ppd_model.specs.Bounds.{steps_left}
use Rattle.ppd_model.proofs.Lists.{get_or_any}
use Rattle.ppd_world.specs.Running.{IsFollowed, Running, Takes}
use Rattle.ppd_world.proofs.Reached.{driven_part, driven_whole, few_left, fewer_left, takes_followed, takes_more, takes_none}
use Rattle.ppd_world.proofs.Sound.{most}
use Rattle.ppd_world.proofs.world.World.drive.Goals as goal

pub loop-index-init : goal.loop-index-init
loop-index-init c =
    let few : steps_left c.args.self.now.world.procs ≤ most = few_left c.args.self.now c.requires in
    record { kept = c.requires; taken = takes_none c.args.self.now c.args.schedule.now; few = omega arith }

pub loop-index-preserved : goal.loop-index-preserved
loop-index-preserved c =
    let before = c.loop-index.self in
    let now = c.follow.new.self in
    let h = c.args.schedule.now in
    let i = c.loop-index.index in
    let p : ℕ = get_or h i 0 in
    let f : IsFollowed before p now = c.in_ok-follow.ensures.ok in
    let fewer : steps_left now.world.procs + 1 ≤ steps_left before.world.procs = fewer_left before now p c.loop-index.invariant.kept f.enabled f.stepped_to in
    let few : i + steps_left before.world.procs ≤ most = c.loop-index.invariant.few in
    let inside : i < length h = omega arith in
    record {
      kept = c.follow.ensures.kept;
      taken = takes_more c.args.self.now before now h i p inside (get_or_any h i 0 p inside) c.loop-index.invariant.taken (takes_followed before now p f);
      few = omega arith;
    }

pub returns-in_err-follow-clause-driven : goal.returns-in_err-follow-clause-driven
returns-in_err-follow-clause-driven c =
    let h = c.args.schedule.now in
    let i = c.loop-index.index in
    let p : ℕ = get_or h i 0 in
    let inside : i < length h = omega arith in
    let taken : Takes c.args.self.now (take i h) c.follow.new.self = subst (λ (r : Running). Takes c.args.self.now (take i h) r) (sym c.in_err-follow.ensures.err) c.loop-index.invariant.taken in
    let e = err_from_is_err_and c.from_residual.result c.from_residual.ensures.1 in
    rw (e.1, e.2) (driven_part c.args.self.now c.follow.new.self h i p c.in_err-follow.field-0.0 inside (get_or_any h i 0 p inside) taken c.in_err-follow.ensures.cause)

pub returns-clause-driven : goal.returns-clause-driven
returns-clause-driven c = driven_whole c.args.self.now c.loop-index.self c.args.schedule.now c.loop-index.index (omega arith) c.loop-index.invariant.taken
