use Rattle.std.proofs.Common.{◌≡◌, ◌↔◌, IsTrue, ℕ, subst, sym, IsSomeAnd, ◌++◌}
use Rattle.std.specs.Prelude.{slice_get}
use Rattle.std.specs.List.{All}
use Rattle.ppd_ast.specs.Order.{inner}
use Rattle.ppd_ast.specs.declared.program.Kind.{Kind}
use Rattle.ppd_ast.proofs.Deciding.{second_test, first_test}
use Rattle.ppd_ast.proofs.Standing.{both_lists}
use Rattle.test_valid.proofs.order.does_stand_inside.Goals as goal

pub returns-then-do_stand_in : goal.returns-then-do_stand_in
returns-then-do_stand_in c =
    let P : ℕ → Type 0 = λ i. IsSomeAnd (slice_get c.args.stmts.now i) (λ s. (s.parent ≡ c.args.parent) × (s.body ≡ c.args.body)) in
    let f : IsTrue c.do_stand_in.result ↔ All P c.in-If.first = subst (λ l. IsTrue c.do_stand_in.result ↔ All P l) c.as_slice.ensures c.do_stand_in.ensures in
    let g : IsTrue c.do_stand_in-then-do_stand_in.result ↔ All P c.in-If.second = subst (λ l. IsTrue c.do_stand_in-then-do_stand_in.result ↔ All P l) c.as_slice-then-do_stand_in.ensures c.do_stand_in-then-do_stand_in.ensures in
    let b : IsTrue c.do_stand_in-then-do_stand_in.result ↔ All P (c.in-If.first ++ c.in-If.second) = both_lists P c.in-If.first c.in-If.second _ (second_test c.do_stand_in.result _ c.if-do_stand_in.true f g) in
    subst (λ (k : Kind). IsTrue c.do_stand_in-then-do_stand_in.result ↔ All P (inner k)) (sym c.in-If.is) b

pub returns-else-do_stand_in : goal.returns-else-do_stand_in
returns-else-do_stand_in c =
    let P : ℕ → Type 0 = λ i. IsSomeAnd (slice_get c.args.stmts.now i) (λ s. (s.parent ≡ c.args.parent) × (s.body ≡ c.args.body)) in
    let f : IsTrue c.do_stand_in.result ↔ All P c.in-If.first = subst (λ l. IsTrue c.do_stand_in.result ↔ All P l) c.as_slice.ensures c.do_stand_in.ensures in
    let b : IsTrue c.do_stand_in.result ↔ All P (c.in-If.first ++ c.in-If.second) = both_lists P c.in-If.first c.in-If.second _ (first_test _ c.if-do_stand_in.false f) in
    subst (λ (k : Kind). IsTrue c.do_stand_in.result ↔ All P (inner k)) (sym c.in-If.is) b
