-- What is known of a past with the parts of a recording is what is known of the recording.
use Rattle.ppd_model.specs.Setting.{setting_of}
use Rattle.std.specs.Prelude.{Vec}
use Rattle.std.proofs.Common.{◌≡◌, ℕ, List, [], Result, Ok, Err, ap, ◌∙◌, subst}
use Rattle.ppd_ast.specs.declared.plan.Plan.{Plan}
use Rattle.ppd_ast.specs.declared.program.Program.{Program}
use Rattle.ppd_codec.specs.declared.recording.Recording.{Recording}
use Rattle.ppd_codec_runs.specs.Recordings.{known_of, recorded_setting}
use Rattle.ppd_model.specs.declared.entry.Logs.{Logs}
use Rattle.ppd_flow_past.specs.declared.past.Past.{Past}
use Rattle.ppd_model.specs.declared.graph.Race.{Race}
use Rattle.ppd_session.specs.Known.{Known, known_with}
use Rattle.ppd_session.specs.Sessions.{known_by}
use Rattle.ppd_session.specs.declared.reply.SessionError.{SessionError}
use Rattle.ppd_top_requests.specs.Questions.{ItemAsked}
use Rattle.ppd_top_requests.specs.Questions.Query.{Slice}
use Rattle.ppd_top.specs.Replies.{IsError, IsSliceReply, IsTextReply, WritesSlice}

pub known_is : (r : Recording) (past : Past) (races : List Race) → past.program.now ≡ r.program → past.plan.now ≡ r.plan → past.logs.now ≡ r.logs → past.budget ≡ r.header.budget → races ≡ (known_of r).races
    → known_by past races ≡ known_of r
known_is r past races program plan logs budget all =
    ap (λ (p : Program). known_with (setting_of p past.plan.now past.budget) past.logs.now races) program
    ∙ (ap (λ (p : Plan). known_with (setting_of r.program p past.budget) past.logs.now races) plan
    ∙ (ap (λ (n : ℕ). known_with (setting_of r.program r.plan n) past.logs.now races) budget
    ∙ (ap (λ (l : Logs). known_with (recorded_setting r) l races) logs
    ∙ ap (λ (rs : List Race). known_with (recorded_setting r) r.logs rs) all)))

-- what is answered of a slice, by what is known
pub slice_told : {A : Type 0} (r : Recording) (a : ItemAsked) (x : Known) → x ≡ known_of r → (res : Result (Vec ℕ A) SessionError) → IsSliceReply x a res → IsTextReply r (Slice a) res
slice_told r a x known (Ok text) h = subst (λ (y : Known). WritesSlice y a [] 0 text.items) known h
slice_told r a x known (Err e) h = subst (λ (y : Known). IsError (WritesSlice y a) y.program e) known h
