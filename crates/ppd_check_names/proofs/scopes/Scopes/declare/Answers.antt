use Rattle.std.proofs.Common.{◌-◌, ◌∙◌, ap, arith}
use Rattle.ppd_check_names.specs.Names.{declare, scope_of, in_innermost}
use Rattle.ppd_check_names.proofs.Found.Lookup.{last_set}
use Rattle.ppd_check_names.proofs.Found.Outcomes.{ok_map}
use Rattle.ppd_check_names.proofs.scopes.Scopes.declare.Goals as goal
use Rattle.std.proofs.lemmas.Grind.{common_steps}

pub returns-clause-ok : goal.returns-clause-ok
returns-clause-ok g c =
    ok_map c.declare_in.result _ _
    (λ e. last_set (declare c.args.name.now c.args.meaning) c.self.inside.maps.items (c.len-count.result - 1) c.declare_in.new.scope c.index_mut.result.now (omega (arith, c.len-count.ensures, c.if-count-eq0.false))
    (e ∙ ap (λ m. declare c.args.name.now c.args.meaning (scope_of m)) c.index_mut.ensures.value)
    ∙ ap (in_innermost (declare c.args.name.now c.args.meaning)) c.self.view_is)
    c.declare_in.ensures.ok

pub index_mut-requires : goal.index_mut-requires
index_mut-requires c = omega arith

pub overflow_sub-count : goal.overflow_sub-count
overflow_sub-count c = omega arith

pub returns-then-count-eq0 : goal.returns-then-count-eq0
returns-then-count-eq0 c = grind (arith, common_steps) steps 250000
