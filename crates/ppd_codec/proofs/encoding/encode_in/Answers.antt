use Rattle.std.proofs.Common.{◌∙◌, ◌++◌, refl, sym, subst, Result, Ok, Err, OnOk, IfOk}
use Rattle.std.specs.Result.{result_and}
use Rattle.std.proofs.lemmas.Result.{on_ok_weaker}
use Rattle.ppd_ast.specs.declared.program.Program.{Program}
use Rattle.ppd_codec.specs.Format.{front}
use Rattle.ppd_codec.specs.Recordings.{IsRecordingOf, facts_of, front_of}
use Rattle.ppd_codec.proofs.Spelled.{recorded}
use Rattle.ppd_codec.proofs.encoding.encode_in.Goals as goal

-- what holds of a value where the first is done
done_and : {T U E : Type 0} (done : Result T E) (value : U) (P : U → Type 0) → OnOk done (P value) → IfOk (result_and done (Ok value)) P
done_and (Ok x) value P h = h
done_and (Err e) value P h = tt

pub returns-clause-rec : goal.returns-clause-rec
returns-clause-rec g c =
    let s = c.args.source.now in
    let h = c.args.header.now in
    let ls = c.args.logs.now in
    let q : Program = c.in_ok-version.ensures.0 in
    let v = c.in_ok-version.version in
    let begun = c.new-writer.result.out.items in
    subst (λ r. IfOk r (IsRecordingOf s h ls)) (sym c.and.ensures)
    (done_and c.recording-done.result c.from_vec.result (IsRecordingOf s h ls)
    (on_ok_weaker c.recording-done.result
    (λ e. recorded c.requires.lawful.0 s h ls c.requires.lawful.1 q v begun (begun ++ front.bytes (front_of v h s)) c.from_vec.result
    c.in_ok-version.ensures.1 c.in_ok-version.ensures.2 c.new-writer.ensures refl (c.from_vec.ensures ∙ e (facts_of q)))
    c.recording-done.ensures.ok))
