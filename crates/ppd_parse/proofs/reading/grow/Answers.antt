use Rattle.std.specs.Prelude.{IsErrAnd}
use Rattle.std.proofs.Common.{◌≡◌, ◌≤◌, List, sym, ap, subst, reverse, length, rules, ◌∷◌, [], Result, Ok, Err, IfErr, arith}
use Rattle.ppd_parse.specs.declared.token.Token.{Token}
use Rattle.ppd_parse.specs.declared.error.SyntaxError.{SyntaxError}
use Rattle.ppd_parse.specs.declared.growth.Grove.{Grove}
use Rattle.ppd_parse.specs.declared.symbol.Symbol.TheVariants as S
use Rattle.ppd_parse.specs.declared.symbol.Want.{Want}
use Rattle.ppd_parse.specs.declared.symbol.Want.TheVariants.{Get}
use Rattle.ppd_parse.specs.Grammar.{outside}
use Rattle.ppd_parse.specs.Limits.{IsRefused, Stepped, token_at}
use Rattle.ppd_parse.specs.Machine.{state_of}
use Rattle.ppd_parse.specs.Rank.{rank}
use Rattle.ppd_parse.specs.Table.{shapes_of}
use Rattle.ppd_parse.proofs.Whole.{start_read, read_next, read_refused, whole, told}
use Rattle.ppd_parse.proofs.reading.grow.Goals as goal

source : Want
source = Get S.Source outside 0

handed_on : (ts : List Token) (r : Result Grove SyntaxError) (e : SyntaxError) → IsErrAnd r (λ x. x ≡ e) → IsRefused ts e → IfErr r (λ x. IsRefused ts x)
handed_on ts (Ok g) e h d = tt
handed_on ts (Err x) e h d = subst (IsRefused ts) (sym h) d

pub loop-token-init : goal.loop-token-init
unfolding source
loop-token-init g c =
    let stack : reverse c.in_ok-wants.wants.items ≡ source ∷ [] = ap reverse c.in_ok-wants.ensures in
    record {
      read = start_read c.args.tokens.now c.requires.ends (state_of c.in_ok-wants.wants.items c.new-grove.result) stack c.new-grove.ensures;
      spent = omega (arith, ap rank stack);
      held = subst (λ (ws : List Want). length ws ≤ c.raise.new.peak) (sym c.in_ok-wants.ensures) c.raise.ensures.held;
      room = omega (arith, c.raise.ensures.near);
      later = c.raise.ensures.later;
    }

pub loop-token-preserved : goal.loop-token-preserved
loop-token-preserved g c =
    let ts = c.args.tokens.now in
    let i = c.loop-token.token-index in
    let a = state_of c.loop-token.wants.items c.loop-token.grove in
    let b = state_of c.step.new.wants.items c.step.new.grove in
    let t : c.token-item.result ≡ token_at ts i = told ts i c.token-item.result c.loop-token-test.true c.token-item.is in
    record {
      read = read_next ts i c.loop-token.count a b c.loop-token-test.true c.loop-token.invariant.read c.in_ok-count.count c.requires.ends (subst (λ (x : Token). Stepped c.loop-token.count x (Ok c.in_ok-count.count) a b) t c.in_ok-count.ensures.stepped);
      spent = omega (arith, c.loop-token.invariant.spent, c.in_ok-count.ensures.paid);
      held = c.in_ok-count.ensures.held;
      room = omega (arith, c.loop-token.invariant.room, c.in_ok-count.ensures.room);
      later = omega (arith, c.loop-token.invariant.later, c.in_ok-count.ensures.later);
    }

pub returns-in_err-count-clause-refused : goal.returns-in_err-count-clause-refused
returns-in_err-count-clause-refused g c =
    let ts = c.args.tokens.now in
    let i = c.loop-token.token-index in
    let a = state_of c.loop-token.wants.items c.loop-token.grove in
    let b = state_of c.step.new.wants.items c.step.new.grove in
    let t : c.token-item.result ≡ token_at ts i = told ts i c.token-item.result c.loop-token-test.true c.token-item.is in
    handed_on ts c.from_residual-in_err-count.result c.in_err-count.field-0.0 c.from_residual-in_err-count.ensures.1
    (read_refused ts i c.loop-token.count a b c.loop-token-test.true c.loop-token.invariant.read c.in_err-count.field-0.0 (subst (λ (x : Token). Stepped c.loop-token.count x (Err c.in_err-count.field-0.0) a b) t c.in_err-count.ensures.stepped))

pub returns-clause-tree : goal.returns-clause-tree
returns-clause-tree g c =
    let ts = c.args.tokens.now in
    let i = c.loop-token.token-index in
    let a = state_of c.loop-token.wants.items c.loop-token.grove in
    let end : i ≡ length ts = search rules in
    whole ts i c.loop-token.count a (shapes_of c.finish.new.grove.nodes.items c.finish.new.grove.roots.items) end c.loop-token.invariant.read c.in_ok-finish.ensures.ends

pub returns-in_err-wants-clause-cost : goal.returns-in_err-wants-clause-cost
returns-in_err-wants-clause-cost g c = omega arith

pub returns-in_err-wants-clause-room : goal.returns-in_err-wants-clause-room
returns-in_err-wants-clause-room g c = omega arith

pub returns-in_err-wants-clause-later : goal.returns-in_err-wants-clause-later
returns-in_err-wants-clause-later g c = omega arith

pub returns-in_err-count-clause-cost : goal.returns-in_err-count-clause-cost
returns-in_err-count-clause-cost g c = omega (arith, c.in_err-count.ensures.cost, c.loop-token.invariant.spent, c.loop-token-test.true)

pub returns-in_err-count-clause-room : goal.returns-in_err-count-clause-room
returns-in_err-count-clause-room g c =
    omega (arith, c.in_err-count.ensures.room, c.in_err-count.ensures.cost, c.loop-token.invariant.room, c.loop-token.invariant.spent, c.loop-token-test.true)

pub returns-in_err-count-clause-later : goal.returns-in_err-count-clause-later
returns-in_err-count-clause-later g c = omega (arith, c.in_err-count.ensures.later, c.loop-token.invariant.later)
