use Rattle.std.proofs.lemmas.Grind.{elements}
use Rattle.std.proofs.Common.{◌≡◌, ◌++◌, ap, sym, ◌∙◌, map, false, rules, arith}
use Rattle.std.proofs.lemmas.List.{append-nil}
use Rattle.ppd_ast.specs.Bare.{bare_block}
use Rattle.ppd_ast.specs.Numbered.{is_block_loop}
use Rattle.ppd_ast.proofs.Growing.{loops_none}
use Rattle.ppd_blocks.proofs.bare.BlockBare.add_stmt.Goals as goal

pub returns-then-not-is_block_loop : goal.returns-then-not-is_block_loop
returns-then-not-is_block_loop c =
    let same : c.as_slice-stmts.result.now ≡ c.args.program.now.stmts = c.as_slice-stmts.ensures in
    let no : is_block_loop c.args.program.now.stmts c.args.policy c.index-stmts-number.result ≡ false = ap (λ ss. is_block_loop ss c.args.policy c.index-stmts-number.result) (sym same) ∙ sym c.is_block_loop.ensures ∙ c.if-not-is_block_loop.true in
    sym (append-nil c.args.list.now) ∙ ap (λ l. c.args.list.now ++ map (bare_block c.args.program.now.bodies) l)
    (sym (loops_none c.args.program.now.stmts c.args.policy c.args.number c.index-stmts-number.result c.requires (cc (c.index-stmts-number.is, c.as_slice-stmts.ensures)) no))

pub add_block-requires : goal.add_block-requires
add_block-requires c = search rules depth 1 fits 30

pub as_slice-requires : goal.as_slice-requires
as_slice-requires c = search rules depth 1 fits 30

pub as_slice-stmts-requires : goal.as_slice-stmts-requires
as_slice-stmts-requires c = search rules depth 1 fits 30

pub is_block_loop-requires : goal.is_block_loop-requires
is_block_loop-requires c = search rules depth 1 fits 30

pub returns : goal.returns
returns c = grind (arith, elements) steps 250000
