use Rattle.std.proofs.Common.{◌∙◌, ap, arith}
use Rattle.ppd_parse.specs.declared.token.Kind.TheVariants as K
use Rattle.ppd_check_names.specs.Nodes.{label_name}
use Rattle.ppd_check_names.specs.Reading.{same_kind}
use Rattle.ppd_check_names.proofs.Declared.Parameters.{declares_function_at}
use Rattle.ppd_check_names.proofs.Found.Outcomes.{both_ok, ok_map}
use Rattle.ppd_check_names.specs.declared.globals.Globals.{Globals}
use Rattle.ppd_check_names.proofs.signatures.declare_function.Goals as goal
use Rattle.std.proofs.lemmas.Grind.{common_steps}

pub returns-clause-declares : goal.returns-clause-declares
returns-clause-declares g c =
    both_ok c.add_function.result _ _ _ c.add_function.ensures.globals c.add_function.ensures.faults
    (λ e w. declares_function_at c.args.source.nodes.now c.args.id c.is_int-gives.result (label_name c.label_at-label.result) c.in_ok-params.params
    c.args.globals.now c.add_function.new.globals c.args.found.now c.add_function.new.found c.requires.within c.requires.says
    (c.is_int-gives.ensures ∙ ap (same_kind K.IntWord) c.kind_at.ensures) c.label_at-label.ensures c.in_ok-params.ensures.value e w)

pub returns-clause-heads : goal.returns-clause-heads
returns-clause-heads g c = ok_map c.add_function.result _ _ (λ e. (ap (λ (h : Globals). h.functions) e, ap (λ (h : Globals). h.processes) e)) c.add_function.ensures.globals

pub count_params-requires : goal.count_params-requires
count_params-requires c = omega arith

pub is_int-gives-requires : goal.is_int-gives-requires
is_int-gives-requires c = omega arith

pub kind_at-requires : goal.kind_at-requires
kind_at-requires c = omega arith

pub label_at-label-requires : goal.label_at-label-requires
label_at-label-requires c = omega arith

pub returns-in_err-params : goal.returns-in_err-params
returns-in_err-params c = grind (arith, common_steps) steps 250000
