use Rattle.std.proofs.lemmas.Grind.{elements}
use Rattle.std.proofs.Common.{◌≡◌, ◌++◌, ◌∷◌, [], ap, sym, ◌∙◌, map, true, false, rules, arith}
use Rattle.std.proofs.lemmas.List.{append-nil, append_assoc}
use Rattle.ppd_ast.specs.declared.plan.Start.TheVariants.{Enter, Exit}
use Rattle.ppd_ast.specs.Bare.{bare_unit}
use Rattle.ppd_ast.specs.Numbered.{is_block_loop}
use Rattle.ppd_ast.proofs.Growing.{starts_none, starts_loop, on_ok}
use Rattle.ppd_blocks.proofs.bare.UnitBare.add_stmt.Goals as goal

pub returns-then-not-is_block_loop : goal.returns-then-not-is_block_loop
returns-then-not-is_block_loop c =
    let same : c.as_slice-stmts.result.now ≡ c.args.program.now.stmts = c.as_slice-stmts.ensures in
    let no : is_block_loop c.args.program.now.stmts c.args.policy c.index-stmts-number.result ≡ false = ap (λ ss. is_block_loop ss c.args.policy c.index-stmts-number.result) (sym same) ∙ sym c.is_block_loop.ensures ∙ c.if-not-is_block_loop.true in
    sym (append-nil c.args.list.now) ∙ ap (λ l. c.args.list.now ++ map bare_unit l)
    (sym (starts_none c.args.program.now.stmts c.args.policy c.args.number c.index-stmts-number.result c.requires (cc (c.index-stmts-number.is, c.as_slice-stmts.ensures)) (sym c.is_left.ensures ∙ c.if-is_left.false) no))

pub returns : goal.returns
returns c =
    let same : c.as_slice-stmts.result.now ≡ c.args.program.now.stmts = c.as_slice-stmts.ensures in
    let is : is_block_loop c.args.program.now.stmts c.args.policy c.index-stmts-number.result ≡ true = ap (λ ss. is_block_loop ss c.args.policy c.index-stmts-number.result) (sym same) ∙ sym c.is_block_loop.ensures ∙ c.if-not-is_block_loop.false in
    on_ok c.add_unit-3.result (λ (e : c.add_unit-3.new.units ≡ c.add_unit-2.new.units ++ bare_unit (Exit c.args.number) ∷ []).
    e ∙ ap (λ l. l ++ bare_unit (Exit c.args.number) ∷ []) c.in_ok-add_unit.ensures
    ∙ append_assoc c.args.list.now (bare_unit (Enter c.args.number) ∷ []) (bare_unit (Exit c.args.number) ∷ [])
    ∙ ap (λ l. c.args.list.now ++ map bare_unit l) (sym (starts_loop c.args.program.now.stmts c.args.policy c.args.number c.index-stmts-number.result c.requires (cc (c.index-stmts-number.is, c.as_slice-stmts.ensures)) (sym c.is_left.ensures ∙ c.if-is_left.false) is)))
    c.add_unit-3.ensures

pub add_unit-requires : goal.add_unit-requires
add_unit-requires c = search rules depth 1 fits 30

pub add_unit-requires-2 : goal.add_unit-requires-2
add_unit-requires-2 c = search rules depth 1 fits 30

pub add_unit-requires-3 : goal.add_unit-requires-3
add_unit-requires-3 c = search rules depth 1 fits 30

pub branch-add_unit-requires : goal.branch-add_unit-requires
branch-add_unit-requires c = search rules depth 1 fits 30

pub from_residual-requires : goal.from_residual-requires
from_residual-requires c = search rules depth 1 fits 30

pub is_block_loop-requires : goal.is_block_loop-requires
is_block_loop-requires c = search rules depth 1 fits 30

pub is_left-requires : goal.is_left-requires
is_left-requires c = search rules depth 1 fits 30

pub returns-in_err-add_unit : goal.returns-in_err-add_unit
returns-in_err-add_unit c = search rules depth 1 fits 30

pub returns-then-is_left : goal.returns-then-is_left
returns-then-is_left c = grind (arith, elements) steps 250000
