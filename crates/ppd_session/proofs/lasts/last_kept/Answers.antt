use Rattle.std.specs.Prelude.{Some}
use Rattle.std.proofs.Common.{List, Ok, [], ap, inl, sym, ◌∙◌, rules, arith}
use Rattle.std.proofs.lemmas.Result.{err_from_is_err_and}
use Rattle.ppd_model.specs.declared.flow.Item.{Item}
use Rattle.ppd_session.specs.Sessions.{known_by, place_of}
use Rattle.ppd_session.proofs.Keeping.{kept_now, not_found, told_found}
use Rattle.ppd_session.proofs.LastKept.{last_replay_fails}
use Rattle.ppd_session.proofs.Replayed.{are_replayed}
use Rattle.ppd_session.proofs.lasts.last_kept.Goals as goal
use Rattle.std.proofs.lemmas.Grind.{common_steps}

pub ask-requires-clause-items : goal.ask-requires-clause-items
ask-requires-clause-items c =
    (are_replayed c.args.past.now c.requires.uncut c.args.last.edge.process c.args.last.interval c.as_slice-items.result.now
    (told_found (known_by c.args.past.now []) c.args.kept.now c.touch.new.self (place_of c.args.last) c.find.result
    c.in-Some.items c.requires.kept c.touch.ensures c.find.ensures c.in-Some.is
    ∙ ap (λ (is : List Item). Some (Ok is)) (sym c.as_slice-items.ensures))).1

pub last_looked_up-requires-clause-told : goal.last_looked_up-requires-clause-told
last_looked_up-requires-clause-told c =
    told_found (known_by c.args.past.now []) c.args.kept.now c.touch.new.self (place_of c.args.last) c.find.result c.in-Some.items
    c.requires.kept c.touch.ensures c.find.ensures c.in-Some.is
    ∙ ap (λ (is : List Item). Some (Ok is)) (sym c.as_slice-items.ensures)

pub returns-in-Some-clause-kept : goal.returns-in-Some-clause-kept
returns-in-Some-clause-kept c = inl c.touch.ensures

pub returns-in_err-items-clause-error : goal.returns-in_err-items-clause-error
returns-in_err-items-clause-error c =
    let e = err_from_is_err_and c.from_residual.result c.from_residual.ensures.1 in
    rw (e.1, e.2) (last_replay_fails c.args.past.now c.requires.uncut c.args.cell c.args.last c.in_err-items.field-0.0 c.requires.last
    c.in_err-items.ensures.error)

pub returns-in_err-items-clause-kept : goal.returns-in_err-items-clause-kept
returns-in_err-items-clause-kept c = inl c.touch.ensures

pub returns-in_err-found-clause-kept : goal.returns-in_err-found-clause-kept
returns-in_err-found-clause-kept c = inl c.touch.ensures

pub returns-clause-kept : goal.returns-clause-kept
returns-clause-kept c =
    kept_now (known_by c.args.past.now []) c.args.kept.now c.touch.new.self c.keep.new.self (place_of c.args.last) c.in_ok-items.items
    c.touch.ensures
    (not_found (known_by c.args.past.now []) c.touch.new.self (place_of c.args.last) c.find.result c.find.ensures c.in_default.is) c.in_ok-items.ensures.items c.keep.ensures

pub as_slice-items-requires : goal.as_slice-items-requires
as_slice-items-requires c = search rules depth 1 fits 30

pub as_slice-requires : goal.as_slice-requires
as_slice-requires c = search rules depth 1 fits 30

pub find-requires : goal.find-requires
find-requires c = search rules depth 1 fits 30

pub find-requires-in-Some : goal.find-requires-in-Some
find-requires-in-Some c = search rules depth 1 fits 30

pub keep-requires : goal.keep-requires
keep-requires c = search rules depth 1 fits 30

pub replay-requires : goal.replay-requires
replay-requires c = search rules depth 1 fits 30

pub touch-requires : goal.touch-requires
touch-requires c = search rules depth 1 fits 30

pub ask-requires-clause-past : goal.ask-requires-clause-past
ask-requires-clause-past c = search rules depth 1 fits 30

pub ask-requires-clause-tables : goal.ask-requires-clause-tables
ask-requires-clause-tables c = search rules depth 1 fits 30

pub returns-clause-error : goal.returns-clause-error
returns-clause-error c = search rules depth 1 fits 30

pub returns-clause-tables : goal.returns-clause-tables
returns-clause-tables c = search rules depth 1 fits 30

pub returns-clause-value : goal.returns-clause-value
returns-clause-value c = grind (arith, common_steps) steps 250000

pub returns-in-Some-clause-error : goal.returns-in-Some-clause-error
returns-in-Some-clause-error c = search rules depth 1 fits 30

pub returns-in-Some-clause-tables : goal.returns-in-Some-clause-tables
returns-in-Some-clause-tables c = search rules depth 1 fits 30

pub returns-in-Some-clause-value : goal.returns-in-Some-clause-value
returns-in-Some-clause-value c = search rules depth 1 fits 30

pub returns-in_err-items-clause-tables : goal.returns-in_err-items-clause-tables
returns-in_err-items-clause-tables c = search rules depth 1 fits 30

pub returns-in_err-items-clause-value : goal.returns-in_err-items-clause-value
returns-in_err-items-clause-value c = search rules depth 1 fits 30

pub last_looked_up-requires-clause-last : goal.last_looked_up-requires-clause-last
last_looked_up-requires-clause-last c = c.requires.last

pub last_looked_up-requires-clause-past : goal.last_looked_up-requires-clause-past
last_looked_up-requires-clause-past c = c.requires.past

pub last_looked_up-requires-clause-uncut : goal.last_looked_up-requires-clause-uncut
last_looked_up-requires-clause-uncut c = c.requires.uncut

pub last_looked_up-requires-clause-tables : goal.last_looked_up-requires-clause-tables
last_looked_up-requires-clause-tables c = c.find-in-Some.ensures c.args.past.now c.ask.ensures

pub last_told-requires : goal.last_told-requires
last_told-requires c = record {
  past = c.requires.past;
  uncut = c.requires.uncut;
  last = c.requires.last;
  told = c.in_ok-items.ensures.items ∙ ap (λ (is : List Item). Some (Ok is)) (sym c.as_slice.ensures);
  tables = tt;
}

pub returns-in_err-found-clause-tables : goal.returns-in_err-found-clause-tables
returns-in_err-found-clause-tables c = c.requires.tables
