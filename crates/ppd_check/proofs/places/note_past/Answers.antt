use Rattle.std.proofs.Common.{rules, ◌∙◌, sym, ap, get_or}
use Rattle.ppd_ast.specs.declared.limits.TheConstants.{MOST_STATEMENTS}
use Rattle.ppd_ast.specs.declared.program.Place.{Place}
use Rattle.std.proofs.lemmas.List.Sorted.{answers_always}
use Rattle.ppd_check_names.specs.Faults.{first_of_both}
use Rattle.ppd_check_names.proofs.Found.First.{first_of_both_none}
use Rattle.ppd_check.proofs.PastMost.{none_past, first_past, from_key}
use Rattle.ppd_check.proofs.places.note_past.Goals as goal

pub returns-then-places-le-MOST_STATEMENTS-clause-faults : goal.returns-then-places-le-MOST_STATEMENTS-clause-faults
returns-then-places-le-MOST_STATEMENTS-clause-faults g c =
    sym (ap (first_of_both c.args.found.now) (none_past MOST_STATEMENTS c.args.places.now c.if-places-le-MOST_STATEMENTS.true) ∙ first_of_both_none c.args.found.now)

pub returns-clause-faults : goal.returns-clause-faults
returns-clause-faults g c =
    let split = c.select_nth_unstable_by_key-past.result in
    let parts = c.select_nth_unstable_by_key-past.ensures.partitioned (λ (p : Place). (p.line, p.column)) (answers_always _ _ _ (λ f a r g h. search rules)) in
    c.note.ensures
    ∙ ap (first_of_both c.args.found.now)
    (sym (first_past MOST_STATEMENTS c.args.places.now split.0.now split.1.now split.2.now c.select_nth_unstable_by_key-past.ensures.permutation c.select_nth_unstable_by_key-past.ensures.front_len
    (λ k d l. from_key (get_or split.0.now k d) split.1.now (parts.0 k d l)) (λ k d l. from_key split.1.now (get_or split.2.now k d) (parts.1 k d l))))
