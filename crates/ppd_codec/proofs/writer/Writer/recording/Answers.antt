use Rattle.std.specs.List.{All}
use Rattle.std.proofs.Common.{◌++◌, ◌∙◌, ◌<◌, ◌^◌, List, ℕ, length, ap, subst, sym}
use Rattle.std.proofs.lemmas.Result.{on_ok_weaker}
use Rattle.ppd_model.specs.declared.entry.Entry.{Entry}
use Rattle.ppd_codec.specs.Counted.{IsCountedLog}
use Rattle.ppd_codec.specs.Format.{logs}
use Rattle.ppd_codec.specs.Recordings.{facts_of}
use Rattle.ppd_codec.proofs.Counting.{counted_logs}
use Rattle.ppd_codec.proofs.writer.Writer.recording.Goals as goal

pub returns-clause-ok : goal.returns-clause-ok
returns-clause-ok g c =
    let first = c.front.new.self.out.items in
    let ls = c.args.logs.now.lists in
    on_ok_weaker c.logs.result
    (λ e f. e f ∙ ap (λ (xs : _). first ++ (logs f).bytes xs) c.as_slice.ensures ∙ ap (λ (bs : List ℕ). bs ++ (logs f).bytes ls) c.in_ok-front.ensures.ok)
    c.logs.ensures.ok

pub logs-requires-clause-few : goal.logs-requires-clause-few
logs-requires-clause-few g c = subst (λ (ls : List (List Entry)). length ls < 2 ^ 8) (sym c.as_slice.ensures) c.requires.lawful.1.fields.1.0.0

pub logs-requires-clause-each : goal.logs-requires-clause-each
logs-requires-clause-each g c =
    subst (λ (ls : List (List Entry)). All IsCountedLog ls) (sym c.as_slice.ensures)
    (counted_logs (facts_of c.requires.lawful.0) c.args.logs.now.lists c.requires.lawful.1.fields.1.1)
