use Rattle.std.proofs.Common.{◌≡◌, ◌+◌, min, arith}
use Rattle.ppd_ast.specs.Uses.{operators_of}
use Rattle.ppd_ast.specs.Term.{term}
use Rattle.ppd_ast.proofs.Deciding.{at_leaf, at_element, at_single, at_pair}
use Rattle.test_valid.proofs.uses.+operators.Goals as goal
use Rattle.test_valid.proofs.uses.+operators.Goals.{in-Const, in-Two2, in-Neg2, in-LocalAt2}

pub returns : goal.returns
returns t c = elim c.match-expr.branch [
  | in-Const w ↦
      let l : c.min.result ≡ min 514 0 = omega (arith, c.min.ensures, w.count-is) in
      at_leaf (λ u. c.min.result ≡ min 514 (operators_of u)) c.args.exprs.now c.args.number _ c.requires.ordered c.requires.there w.in-Const.is (λ v. l) (λ n. l) (λ n. l)
  | in-Two2 w ↦
      let l : c.min.result ≡ min 514 (1 + operators_of (term c.args.exprs.now w.in-Two.a) + operators_of (term c.args.exprs.now w.in-Two.b)) = omega (arith, c.min.ensures, w.count-is, w.operators.ensures, w.operators-in-Two.ensures) in
      at_pair (λ u. c.min.result ≡ min 514 (operators_of u)) c.args.exprs.now c.args.number _ _ _ c.requires.ordered c.requires.there w.in-Two.is (λ op. l) l l
  | in-Neg2 w ↦
      let l : c.min.result ≡ min 514 (1 + operators_of (term c.args.exprs.now w.in-Neg.a)) = omega (arith, c.min.ensures, w.count-is, w.operators-in-Neg.ensures) in
      at_single (λ u. c.min.result ≡ min 514 (operators_of u)) c.args.exprs.now c.args.number _ _ c.requires.ordered c.requires.there w.in-Neg.is l l
  | in-LocalAt2 w ↦
      let l : c.min.result ≡ min 514 (operators_of (term c.args.exprs.now w.in-LocalAt.at)) = omega (arith, c.min.ensures, w.count-is, w.operators-count.ensures) in
      at_element (λ u. c.min.result ≡ min 514 (operators_of u)) c.args.exprs.now c.args.number _ _ c.requires.ordered c.requires.there w.in-LocalAt.is (λ b n. l) (λ b n. l)
]
