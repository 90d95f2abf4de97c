use Rattle.std.specs.List.{filter_map}
use Rattle.std.specs.Option.{unwrap_or}
use Rattle.std.specs.Prelude.{IfErr, OnErr, OnOk, slice_get}
use Rattle.std.specs.Result.{result_err}
use Rattle.std.proofs.Common.{◌≡◌, ◌++◌, List, None, subst, sym}
use Rattle.ppd_model.specs.declared.graph.Race.{Race}
use Rattle.ppd_session.specs.Keeping.{AreAsked, AreAskedInPart}
use Rattle.ppd_session.specs.Known.{unless_raced}
use Rattle.ppd_session.specs.Sessions.{AreTold, IsWhy, known_by, last_blocks}
use Rattle.ppd_session.specs.Texts.{lasts_text, races_refusal}
use Rattle.ppd_session.proofs.Replayed.{none_there}
use Rattle.ppd_session.proofs.lasts.put_final.Goals as goal

pub put_lines-requires-clause-kept : goal.put_lines-requires-clause-kept
put_lines-requires-clause-kept c =
    subst (λ (rs : List Race). AreTold (known_by c.args.past.now rs) c.args.kept.now.blocks)
    (none_there c.args.races.now c.if-not-is_empty.ensures) c.requires.told

pub returns-clause-kept : goal.returns-clause-kept
returns-clause-kept c =
    subst
    (λ (rs : List Race). OnOk c.put_lines.result
    (AreAsked (known_by c.args.past.now rs) (unless_raced rs (last_blocks c.args.past.now)) c.args.kept.now c.put_lines.new.kept))
    (sym (none_there c.args.races.now c.if-not-is_empty.ensures)) c.put_lines.ensures.kept

pub returns-clause-part : goal.returns-clause-part
returns-clause-part c =
    subst
    (λ (rs : List Race). OnErr c.put_lines.result
    (AreAskedInPart (known_by c.args.past.now rs) (unless_raced rs (last_blocks c.args.past.now)) c.args.kept.now c.put_lines.new.kept))
    (sym (none_there c.args.races.now c.if-not-is_empty.ensures)) c.put_lines.ensures.part

pub returns-clause-text : goal.returns-clause-text
returns-clause-text c =
    subst
    (λ (rs : List Race). OnOk c.put_lines.result
    (c.put_lines.new.text.items
    ≡ c.args.text.now.items
    ++ unwrap_or (races_refusal rs) (lasts_text c.args.past.now.program.now 0 (known_by c.args.past.now rs).lasts)))
    (sym (none_there c.args.races.now c.if-not-is_empty.ensures)) c.put_lines.ensures.text

pub returns-clause-told : goal.returns-clause-told
returns-clause-told c =
    subst
    (λ (rs : List Race). OnOk c.put_lines.result
    (slice_get (filter_map result_err (known_by c.args.past.now rs).lasts) 0 ≡ None))
    (sym (none_there c.args.races.now c.if-not-is_empty.ensures)) c.put_lines.ensures.told

pub returns-clause-error : goal.returns-clause-error
returns-clause-error c =
    subst
    (λ (rs : List Race). IfErr c.put_lines.result
    (IsWhy (slice_get (filter_map result_err (known_by c.args.past.now rs).lasts) 0)))
    (sym (none_there c.args.races.now c.if-not-is_empty.ensures)) c.put_lines.ensures.error
