use Rattle.std.proofs.Common.{◌≡◌, List, [], ◌∷◌, ◌++◌, ap, ◌∙◌, append_assoc}
use Rattle.ppd_ast.proofs.Growing.{bodies_grown}
use Rattle.ppd_blocks.specs.Starts.{unit_of}
use Rattle.ppd_blocks.proofs.Vocabulary.{starts_in}
use Rattle.ppd_blocks.proofs.Staying.{entry_below}
use Rattle.ppd_blocks.proofs.numbering.units.Goals as goal

pub add_unit-requires-clause-begin : goal.add_unit-requires-clause-begin
add_unit-requires-clause-begin c = entry_below c.args.program.now c.args.loops.now c.loop-number.number c.requires

-- one more, and then the others
grown : {A : Type 0} (xs ys zs rest : List A) (x : A) → ys ≡ xs ++ x ∷ [] → zs ≡ ys ++ rest → zs ≡ xs ++ x ∷ rest
grown xs ys zs rest x one more = more ∙ ap (λ l. l ++ rest) one ∙ append_assoc xs (x ∷ []) rest

pub loop-number-preserved : goal.loop-number-preserved
loop-number-preserved c =
    bodies_grown (unit_of c.args.program.now c.args.loops.now) (starts_in c.args.program.now c.args.loops.now) c.loop-number.units c.add_at_stmts.new.units c.as_slice-bodies.result.now c.loop-number.number c.index-bodies-number.result c.loop-number-test.true c.index-bodies-number.is c.loop-number.invariant
    (grown _ _ _ _ _ c.in_ok-add_unit.ensures c.in_ok-add_at_stmts.ensures)
