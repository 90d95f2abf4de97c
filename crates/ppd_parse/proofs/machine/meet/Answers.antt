use Rattle.std.proofs.Common.{◌≡◌, ◌∷◌, sym, ◌∙◌, ap, subst, reverse, length, Some, None, rules}
use denote.Enum.Bare.{same_true, same_false}
use Rattle.ppd_parse.specs.contracts.token.Kind.{the_type}
use Rattle.ppd_parse.specs.declared.symbol.Symbol.{Symbol}
use Rattle.ppd_parse.specs.declared.symbol.Want.TheVariants.{Get}
use Rattle.ppd_parse.specs.declared.growth.Step.TheVariants as M
use Rattle.ppd_parse.specs.Grammar.{kind_of, base_in, is_operator}
use Rattle.ppd_parse.specs.Choice.{expansion}
use Rattle.ppd_parse.specs.Machine.{Advanced, IsDead, state_of, wanting}
use Rattle.ppd_parse.specs.Stack.{IsGood}
use Rattle.ppd_parse.specs.Table.{shapes_of}
use Rattle.ppd_parse.proofs.Moves.{exact_moves, exact_refused, operator_moves, operator_refused, unfold_moves, unfold_refused, inner_symbol}
use Rattle.ppd_parse.proofs.Table.{length-shapes}
use Rattle.ppd_parse.proofs.machine.meet.Goals as goal

pub returns-in_ok-leaf-in-Exact : goal.returns-in_ok-leaf-in-Exact
returns-in_ok-leaf-in-Exact c =
    let ws = c.args.wants.now.items in
    let g = c.args.grove.now in
    let new = c.leaf.new.self in
    let k = c.in-Exact.wanted in
    subst (λ (y : Symbol). Advanced c.args.token.now (M.Read c.args.at) (wanting (Get y c.args.at c.args.base) (state_of ws g)) (state_of ws new)) (sym c.in-Exact.is)
    (exact_moves c.args.token.now k c.args.at c.args.base (reverse ws) (shapes_of g.nodes.items g.roots.items) (shapes_of new.nodes.items new.roots.items)
    (same_true the_type (search rules) k c.kind_of-kind.result (sym c.if-eq.ensures) ∙ c.kind_of-kind.ensures)
    c.in_ok-leaf-in-Exact.ensures
    (subst (λ (y : Symbol). IsGood (Get y c.args.at c.args.base ∷ reverse ws)) c.in-Exact.is c.requires))

pub returns-else-eq : goal.returns-else-eq
returns-else-eq c =
    let ws = c.args.wants.now.items in
    let g = c.args.grove.now in
    let k = c.in-Exact.wanted in
    subst (λ (y : Symbol). IsDead (kind_of c.args.token.now.kind) (wanting (Get y c.args.at c.args.base) (state_of ws g))) (sym c.in-Exact.is)
    (exact_refused c.args.token.now k c.args.at c.args.base (reverse ws) (shapes_of g.nodes.items g.roots.items)
    (λ e. same_false the_type k c.kind_of-kind.result (sym c.if-eq.ensures) (e ∙ sym c.kind_of-kind.ensures)))

pub returns-in_ok-leaf-in-Operator : goal.returns-in_ok-leaf-in-Operator
returns-in_ok-leaf-in-Operator c =
    let ws = c.args.wants.now.items in
    let g = c.args.grove.now in
    let new = c.leaf-then-is_operator.new.self in
    subst (λ (y : Symbol). Advanced c.args.token.now (M.Read c.args.at) (wanting (Get y c.args.at c.args.base) (state_of ws g)) (state_of ws new)) (sym c.in-Operator.is)
    (operator_moves c.args.token.now c.in-Operator.level c.args.at c.args.base (reverse ws) (shapes_of g.nodes.items g.roots.items) (shapes_of new.nodes.items new.roots.items)
    (sym (c.if-is_operator.ensures ∙ ap (is_operator c.in-Operator.level) c.kind_of-kind.ensures))
    c.in_ok-leaf-in-Operator.ensures
    (subst (λ (y : Symbol). IsGood (Get y c.args.at c.args.base ∷ reverse ws)) c.in-Operator.is c.requires))

pub returns-else-is_operator : goal.returns-else-is_operator
returns-else-is_operator c =
    let ws = c.args.wants.now.items in
    let g = c.args.grove.now in
    subst (λ (y : Symbol). IsDead (kind_of c.args.token.now.kind) (wanting (Get y c.args.at c.args.base) (state_of ws g))) (sym c.in-Operator.is)
    (operator_refused c.args.token.now c.in-Operator.level c.args.at c.args.base (reverse ws) (shapes_of g.nodes.items g.roots.items)
    (sym (c.if-is_operator.ensures ∙ ap (is_operator c.in-Operator.level) c.kind_of-kind.ensures)))

pub returns-in_ok-want-in-Some : goal.returns-in_ok-want-in-Some
returns-in_ok-want-in-Some c =
    let ws = c.args.wants.now.items in
    let g = c.args.grove.now in
    let s = shapes_of g.nodes.items g.roots.items in
    let ps = c.in-Some.parts.now in
    let base : c.base_in-base.result ≡ base_in c.args.symbol c.args.base (length s) = c.base_in-base.ensures ∙ ap (base_in c.args.symbol c.args.base) (c.len.ensures ∙ (g.roots.ok.0 ∙ sym (length-shapes g.nodes.items g.roots.items))) in
    let e : expansion c.args.symbol (kind_of c.args.token.now.kind) ≡ Some ps = ap (expansion c.args.symbol) (sym c.kind_of-kind.ensures) ∙ c.in-Some.ensures in
    unfold_moves c.args.token.now c.args.symbol c.args.at c.args.base c.base_in-base.result ws s (inner_symbol c.args.symbol c.in_default.not-Exact c.in_default.not-Operator) base ps c.want.new.wants.items e c.in_ok-want-in-Some.ensures c.requires

pub returns-in-None : goal.returns-in-None
returns-in-None c =
    let ws = c.args.wants.now.items in
    let g = c.args.grove.now in
    let s = shapes_of g.nodes.items g.roots.items in
    let base : c.base_in-base.result ≡ base_in c.args.symbol c.args.base (length s) = c.base_in-base.ensures ∙ ap (base_in c.args.symbol c.args.base) (c.len.ensures ∙ (g.roots.ok.0 ∙ sym (length-shapes g.nodes.items g.roots.items))) in
    let e : expansion c.args.symbol (kind_of c.args.token.now.kind) ≡ None = ap (expansion c.args.symbol) (sym c.kind_of-kind.ensures) ∙ c.in-None.ensures in
    unfold_refused c.args.token.now c.args.symbol c.args.at c.args.base c.base_in-base.result ws s (inner_symbol c.args.symbol c.in_default.not-Exact c.in_default.not-Operator) base e
