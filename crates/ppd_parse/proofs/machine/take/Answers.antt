use Rattle.std.proofs.lemmas.Grind.{common_steps}
use Rattle.std.proofs.Common.{◌≡◌, ◌≤◌, ◌<◌, ◌+◌, ℕ, List, ◌∷◌, sym, ◌∙◌, subst, reverse, length, arith, rules}
use Rattle.ppd_parse.specs.declared.growth.Step.{Step}
use Rattle.ppd_parse.specs.declared.growth.Step.TheVariants as M
use Rattle.ppd_parse.specs.declared.symbol.Want.{Want}
use Rattle.ppd_parse.specs.Machine.{Advanced, state_of, wanting}
use Rattle.ppd_parse.specs.Rank.{rank}
use Rattle.ppd_parse.specs.Stack.{IsGood}
use Rattle.ppd_parse.specs.Table.{shapes_of}
use Rattle.ppd_parse.proofs.Ends.{popped}
use Rattle.ppd_parse.proofs.Taking.{same_none, same_next, shifts_next, dead_next, less_left, one_taken, paid_left, room_next, room_same, height_near, height_same}
use Rattle.ppd_parse.proofs.Ranked.{ranked_some}
use Rattle.ppd_parse.proofs.machine.take.Goals as goal

pub loop-want-init : goal.loop-want-init
loop-want-init g c = record {
  same = same_none c.args.token.now (state_of c.args.wants.now.items c.args.grove.now);
  good = c.requires.good;
  spent = omega arith;
  held = c.requires.held;
  room = omega arith;
  later = omega arith;
}

pub advance-requires : goal.advance-requires
advance-requires g c = subst IsGood (popped c.pop.new.self.items c.in-Some.want c.in-Some.ensures.items) c.loop-want.invariant.good

pub raise-requires : goal.raise-requires
raise-requires g c =
    let w = c.loop-want.grove in
    let moved : Advanced c.args.token.now M.Moved (wanting c.in-Some.want (state_of c.pop.new.self.items w)) (state_of c.advance.new.wants.items c.advance.new.grove) = subst (λ (s : Step). Advanced c.args.token.now s (wanting c.in-Some.want (state_of c.pop.new.self.items w)) (state_of c.advance.new.wants.items c.advance.new.grove)) c.in-Moved.is c.in_ok-advance.ensures in
    let stack : reverse c.loop-want.wants.items ≡ c.in-Some.want ∷ reverse c.pop.new.self.items = popped c.pop.new.self.items c.in-Some.want c.in-Some.ensures.items in
    record { near = height_near c.advance.new.wants.items c.loop-want.wants.items _ _ _ (c.len.ensures ∙ c.advance.new.wants.ok.0) (subst (λ (ws : List Want). length (reverse c.advance.new.wants.items) ≤ length ws + 7) (sym stack) moved.3) c.loop-want.invariant.held }

pub loop-want-preserved : goal.loop-want-preserved
loop-want-preserved g c =
    let w = c.loop-want.grove in
    let inv = c.loop-want.invariant in
    let moved : Advanced c.args.token.now M.Moved (wanting c.in-Some.want (state_of c.pop.new.self.items w)) (state_of c.advance.new.wants.items c.advance.new.grove) = subst (λ (s : Step). Advanced c.args.token.now s (wanting c.in-Some.want (state_of c.pop.new.self.items w)) (state_of c.advance.new.wants.items c.advance.new.grove)) c.in-Moved.is c.in_ok-advance.ensures in
    let stack : reverse c.loop-want.wants.items ≡ c.in-Some.want ∷ reverse c.pop.new.self.items = popped c.pop.new.self.items c.in-Some.want c.in-Some.ensures.items in
    record {
      same = same_next c.args.token.now _ (state_of c.advance.new.wants.items c.advance.new.grove) (reverse c.loop-want.wants.items) (c.in-Some.want ∷ reverse c.pop.new.self.items) (shapes_of w.nodes.items w.roots.items) stack inv.same moved.0;
      good = moved.1;
      spent = less_left c.loop-want.steps c.tick.new.self (rank (reverse c.loop-want.wants.items)) (rank (reverse c.advance.new.wants.items)) _ c.tick.ensures (subst (λ (ws : List Want). rank (reverse c.advance.new.wants.items) < rank ws) (sym stack) moved.2) inv.spent;
      held = subst (λ (n : ℕ). n ≤ c.raise.new.peak) (c.len.ensures ∙ c.advance.new.wants.ok.0) c.raise.ensures.held;
      room = room_next c.loop-want.peak c.raise.new.peak c.args.peak.now c.loop-want.steps c.tick.new.self c.args.steps.now c.tick.ensures c.raise.ensures.near inv.room;
      later = omega (arith, c.raise.ensures.later, inv.later);
    }

pub loop-want-smaller : goal.loop-want-smaller
loop-want-smaller g c =
    let w = c.loop-want.grove in
    let moved : Advanced c.args.token.now M.Moved (wanting c.in-Some.want (state_of c.pop.new.self.items w)) (state_of c.advance.new.wants.items c.advance.new.grove) = subst (λ (s : Step). Advanced c.args.token.now s (wanting c.in-Some.want (state_of c.pop.new.self.items w)) (state_of c.advance.new.wants.items c.advance.new.grove)) c.in-Moved.is c.in_ok-advance.ensures in
    subst (λ (ws : List Want). rank (reverse c.advance.new.wants.items) < rank ws) (sym (popped c.pop.new.self.items c.in-Some.want c.in-Some.ensures.items)) moved.2

pub returns-in-Read : goal.returns-in-Read
returns-in-Read g c =
    let w = c.loop-want.grove in
    let inv = c.loop-want.invariant in
    let read : Advanced c.args.token.now (M.Read c.in-Read.at) (wanting c.in-Some.want (state_of c.pop.new.self.items w)) (state_of c.advance.new.wants.items c.advance.new.grove) = subst (λ (s : Step). Advanced c.args.token.now s (wanting c.in-Some.want (state_of c.pop.new.self.items w)) (state_of c.advance.new.wants.items c.advance.new.grove)) c.in-Read.is c.in_ok-advance.ensures in
    let stack : reverse c.loop-want.wants.items ≡ c.in-Some.want ∷ reverse c.pop.new.self.items = popped c.pop.new.self.items c.in-Some.want c.in-Some.ensures.items in
    record {
      taken = (shifts_next c.args.token.now c.in-Read.at _ (state_of c.advance.new.wants.items c.advance.new.grove) (reverse c.loop-want.wants.items) (c.in-Some.want ∷ reverse c.pop.new.self.items) (shapes_of w.nodes.items w.roots.items) stack inv.same read.0, read.1, read.2);
      cost = one_taken c.loop-want.steps c.tick.new.self (rank (reverse c.loop-want.wants.items)) _ c.tick.ensures (subst (λ (ws : List Want). 1 ≤ rank ws) (sym stack) (ranked_some c.in-Some.want (reverse c.pop.new.self.items))) inv.spent;
      paid = paid_left c.loop-want.steps c.tick.new.self (rank (reverse c.loop-want.wants.items)) (rank (reverse c.advance.new.wants.items)) _ c.tick.ensures (subst (λ (ws : List Want). rank (reverse c.advance.new.wants.items) + 1 ≤ rank ws + 15) (sym stack) read.3) inv.spent;
      held = height_same c.advance.new.wants.items c.loop-want.wants.items _ (subst (λ (ws : List Want). length (reverse c.advance.new.wants.items) ≤ length ws) (sym stack) read.4) inv.held;
      room = room_same c.loop-want.peak c.args.peak.now c.loop-want.steps c.tick.new.self c.args.steps.now c.tick.ensures inv.room;
      later = inv.later;
    }

pub returns-in-Refused : goal.returns-in-Refused
returns-in-Refused g c =
    let w = c.loop-want.grove in
    let inv = c.loop-want.invariant in
    let dead : Advanced c.args.token.now M.Refused (wanting c.in-Some.want (state_of c.pop.new.self.items w)) (state_of c.advance.new.wants.items c.advance.new.grove) = subst (λ (s : Step). Advanced c.args.token.now s (wanting c.in-Some.want (state_of c.pop.new.self.items w)) (state_of c.advance.new.wants.items c.advance.new.grove)) c.in-Refused.is c.in_ok-advance.ensures in
    let stack : reverse c.loop-want.wants.items ≡ c.in-Some.want ∷ reverse c.pop.new.self.items = popped c.pop.new.self.items c.in-Some.want c.in-Some.ensures.items in
    record {
      taken = dead_next c.args.token.now _ (reverse c.loop-want.wants.items) (c.in-Some.want ∷ reverse c.pop.new.self.items) (shapes_of w.nodes.items w.roots.items) stack inv.same dead;
      cost = one_taken c.loop-want.steps c.tick.new.self (rank (reverse c.loop-want.wants.items)) _ c.tick.ensures (subst (λ (ws : List Want). 1 ≤ rank ws) (sym stack) (ranked_some c.in-Some.want (reverse c.pop.new.self.items))) inv.spent;
      paid = tt;
      held = tt;
      room = room_same c.loop-want.peak c.args.peak.now c.loop-want.steps c.tick.new.self c.args.steps.now c.tick.ensures inv.room;
      later = inv.later;
    }

pub from_residual-requires : goal.from_residual-requires
from_residual-requires g c = search rules depth 1 fits 30

pub len-requires : goal.len-requires
len-requires g c = search rules depth 1 fits 30

pub pop-requires : goal.pop-requires
pop-requires g c = search rules depth 1 fits 30

pub returns-clause-cost : goal.returns-clause-cost
returns-clause-cost g c = search rules depth 1 fits 30

pub returns-clause-held : goal.returns-clause-held
returns-clause-held g c = search rules depth 1 fits 30

pub returns-clause-later : goal.returns-clause-later
returns-clause-later g c = search rules depth 1 fits 30

pub returns-clause-paid : goal.returns-clause-paid
returns-clause-paid g c = search rules depth 1 fits 30

pub returns-clause-room : goal.returns-clause-room
returns-clause-room g c = search rules depth 1 fits 30

pub returns-in_err-advance-clause-held : goal.returns-in_err-advance-clause-held
returns-in_err-advance-clause-held g c = grind (arith, common_steps) steps 250000

pub returns-in_err-advance-clause-later : goal.returns-in_err-advance-clause-later
returns-in_err-advance-clause-later g c = search rules depth 1 fits 30

pub returns-in_err-advance-clause-paid : goal.returns-in_err-advance-clause-paid
returns-in_err-advance-clause-paid g c = grind (arith, common_steps) steps 250000

pub returns-in_err-advance-clause-room : goal.returns-in_err-advance-clause-room
returns-in_err-advance-clause-room g c = search rules depth 1 fits 30

pub returns-in_err-advance-clause-taken : goal.returns-in_err-advance-clause-taken
returns-in_err-advance-clause-taken g c = grind (arith, common_steps) steps 250000

pub tick-requires : goal.tick-requires
tick-requires g c = search rules depth 1 fits 30
