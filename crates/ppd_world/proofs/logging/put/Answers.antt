use Rattle.std.proofs.Common.{◌≡◌, ℕ, List, ◌++◌, refl, ap, sym, ◌∙◌}
use Rattle.ppd_ast.specs.declared.plan.Plan.{Plan}
use Rattle.ppd_ast.specs.declared.program.Program.{Program}
use Rattle.ppd_model.specs.declared.entry.Entry.{Entry}
use Rattle.ppd_sem.specs.declared.proc.Answer.{Answer}
use Rattle.ppd_sem.specs.declared.proc.Proc.{Proc}
use Rattle.ppd_sem.specs.Process.{act, need_of}
use Rattle.ppd_model.specs.declared.state.Logging.{Logging}
use Rattle.ppd_model.specs.Logs.{rest_after}
use Rattle.ppd_world_steps.specs.declared.note.Note.{Note}
use Rattle.ppd_world_steps.specs.declared.note.Note.TheVariants.{Nothing, Reads, Writes, Anew}
use Rattle.ppd_world_steps.specs.Entries.{noted}
use Rattle.ppd_world.specs.Parts.{logged}
use Rattle.ppd_world.proofs.Steps.{if_refused}
use Rattle.ppd_world.proofs.logging.put.Goals as goal

-- a note says nothing of the state and of the entries
noted_with : (note : Note) (l : Logging) (p : Proc) (es : List Entry) → noted note (record l { proc = p; entries = es }) ≡ record (noted note l) { proc = p; entries = es }
noted_with Nothing l p es = refl
noted_with (Reads cells) l p es = refl
noted_with (Writes cells) l p es = refl
noted_with Anew l p es = refl

noted_proc : (note : Note) (l : Logging) → (noted note l).proc ≡ l.proc
noted_proc Nothing l = refl
noted_proc (Reads cells) l = refl
noted_proc (Writes cells) l = refl
noted_proc Anew l = refl

put_logged : (program : Program) (plan : Plan) (l after : Logging) (answer : Answer) (note : Note) (new es : List Entry) (p : Proc) (rest : ℕ)
    → after ≡ noted note (record l { proc = p; entries = es }) → p ≡ act program plan l.proc answer → rest ≡ rest_after l.rest new → es ≡ l.entries ++ new
    → record after { rest = rest } ≡ logged program plan l answer note new
put_logged program plan l after answer note new es p rest after_is p_is rest_is es_is =
    ap (λ (x : Logging). record x { rest = rest }) (after_is ∙ noted_with note l p es)
    ∙ ap (λ (s : Proc). record (noted note l) { proc = s; rest = rest; entries = es }) p_is
    ∙ ap (λ (n : ℕ). record (noted note l) { proc = act program plan l.proc answer; rest = n; entries = es }) rest_is
    ∙ ap (λ (xs : List Entry). record (noted note l) { proc = act program plan l.proc answer; rest = rest_after l.rest new; entries = xs }) es_is

left_as_is : (l : Logging) (p : Proc) (es : List Entry) → p ≡ l.proc → es ≡ l.entries → record l { proc = p; entries = es } ≡ l
left_as_is l p es p_is es_is = ap (λ (s : Proc). record l { proc = s; entries = es }) p_is ∙ ap (λ (xs : List Entry). record l { entries = xs }) es_is

pub rest_of-rest-requires : goal.rest_of-rest-requires
rest_of-rest-requires c = c.requires.logging.rest

pub append_and_feed-requires-clause-proc : goal.append_and_feed-requires-clause-proc
append_and_feed-requires-clause-proc c = c.requires.logging.proc

pub returns-clause-ok : goal.returns-clause-ok
returns-clause-ok c =
    put_logged c.args.code.now.program.now c.args.code.now.plan.now c.args.logging.now c.apply.new.logging c.args.taken.answer c.args.note c.args.new.items c.append_and_feed.new.entries c.append_and_feed.new.proc c.rest_of-rest.result
    c.apply.ensures c.in_ok-need.ensures.proc (c.rest_of-rest.ensures ∙ ap (rest_after c.args.logging.now.rest) c.as_slice.ensures.value) c.in_ok-need.ensures.entries

pub returns-clause-need : goal.returns-clause-need
returns-clause-need c =
    c.in_ok-need.ensures.need
    ∙ ap (need_of c.args.code.now.program.now c.args.code.now.plan.now) (sym (ap (λ (x : Logging). x.proc) c.apply.ensures ∙ noted_proc c.args.note _))

pub returns-in_err-need-clause-err : goal.returns-in_err-need-clause-err
returns-in_err-need-clause-err c = if_refused _ (left_as_is c.args.logging.now c.append_and_feed.new.proc c.append_and_feed.new.entries c.in_err-need.ensures.same_proc c.in_err-need.ensures.same_entries)
