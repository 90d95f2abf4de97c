use Rattle.std.proofs.Common.{◌↔◌, IsTrue, true, refl}
use Rattle.ppd_ast.specs.Cells.{NamesWhole}
use Rattle.ppd_ast.specs.Term.{term}
use Rattle.ppd_ast.proofs.Deciding.{second_test, first_test, at_node, at_single, at_pair}
use Rattle.test_valid.proofs.cells.+does_name_whole.Goals as goal

pub returns-in-Const : goal.returns-in-Const
returns-in-Const t c =
    at_node (λ u. IsTrue true ↔ NamesWhole c.args.shareds.now c.args.locals.now u) c.args.exprs.now c.args.number _ _ c.requires.ordered c.requires.there c.in-Const.is
    (λ h. tt, λ h. refl)

pub returns-in-Local : goal.returns-in-Local
returns-in-Local t c =
    at_node (λ u. IsTrue c.has_scalar.result ↔ NamesWhole c.args.shareds.now c.args.locals.now u) c.args.exprs.now c.args.number _ _ c.requires.ordered c.requires.there c.in-Local.is
    (c.has_scalar.ensures)

pub returns-then-has_array : goal.returns-then-has_array
returns-then-has_array t c =
    at_node (λ u. IsTrue c.does_name_whole.result ↔ NamesWhole c.args.shareds.now c.args.locals.now u) c.args.exprs.now c.args.number _ _ c.requires.ordered c.requires.there c.in-LocalAt.is
    (second_test c.has_array.result _ c.if-has_array.true c.has_array.ensures c.does_name_whole.ensures)

pub returns-else-has_array : goal.returns-else-has_array
returns-else-has_array t c =
    at_node (λ u. IsTrue c.has_array.result ↔ NamesWhole c.args.shareds.now c.args.locals.now u) c.args.exprs.now c.args.number _ _ c.requires.ordered c.requires.there c.in-LocalAt.is
    (first_test _ c.if-has_array.false c.has_array.ensures)

pub returns-in-Shared : goal.returns-in-Shared
returns-in-Shared t c =
    at_node (λ u. IsTrue c.has_scalar-in-Shared.result ↔ NamesWhole c.args.shareds.now c.args.locals.now u) c.args.exprs.now c.args.number _ _ c.requires.ordered c.requires.there c.in-Shared.is
    (c.has_scalar-in-Shared.ensures)

pub returns-then-has_array-2 : goal.returns-then-has_array-2
returns-then-has_array-2 t c =
    at_node (λ u. IsTrue c.does_name_whole-then-has_array-2.result ↔ NamesWhole c.args.shareds.now c.args.locals.now u) c.args.exprs.now c.args.number _ _ c.requires.ordered c.requires.there c.in-SharedAt.is
    (second_test c.has_array-in-SharedAt.result _ c.if-has_array-2.true c.has_array-in-SharedAt.ensures c.does_name_whole-then-has_array-2.ensures)

pub returns-else-has_array-2 : goal.returns-else-has_array-2
returns-else-has_array-2 t c =
    at_node (λ u. IsTrue c.has_array-in-SharedAt.result ↔ NamesWhole c.args.shareds.now c.args.locals.now u) c.args.exprs.now c.args.number _ _ c.requires.ordered c.requires.there c.in-SharedAt.is
    (first_test _ c.if-has_array-2.false c.has_array-in-SharedAt.ensures)

pub returns-then-does_name_whole : goal.returns-then-does_name_whole
returns-then-does_name_whole t c =
    let both = second_test c.does_name_whole-in-Two.result _ c.if-does_name_whole.true c.does_name_whole-in-Two.ensures c.does_name_whole-then-does_name_whole.ensures in
    at_pair (λ u. IsTrue c.does_name_whole-then-does_name_whole.result ↔ NamesWhole c.args.shareds.now c.args.locals.now u) c.args.exprs.now c.args.number _ _ _ c.requires.ordered c.requires.there c.in-Two.is (λ op. both) both both

pub returns-else-does_name_whole : goal.returns-else-does_name_whole
returns-else-does_name_whole t c =
    let both = first_test {B = NamesWhole c.args.shareds.now c.args.locals.now (term c.args.exprs.now c.in-Two.b)} _ c.if-does_name_whole.false c.does_name_whole-in-Two.ensures in
    at_pair (λ u. IsTrue c.does_name_whole-in-Two.result ↔ NamesWhole c.args.shareds.now c.args.locals.now u) c.args.exprs.now c.args.number _ _ _ c.requires.ordered c.requires.there c.in-Two.is (λ op. both) both both

pub returns-in-Neg : goal.returns-in-Neg
returns-in-Neg t c =
    at_single (λ u. IsTrue c.does_name_whole-in-Neg.result ↔ NamesWhole c.args.shareds.now c.args.locals.now u) c.args.exprs.now c.args.number _ _ c.requires.ordered c.requires.there c.in-Neg.is c.does_name_whole-in-Neg.ensures c.does_name_whole-in-Neg.ensures
