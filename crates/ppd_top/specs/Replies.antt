-- What may be asked, and what the code answers. Want of memory is free.
use Rattle.ppd_top_requests.specs.Questions.Query.{Slice}
use Rattle.std.specs.Prelude.{◌≡◌, ◌≤◌, ◌⊎◌, ℕ, List, [], Some, None, Result, Ok, Err, ⊤, Vec}
use Rattle.ppd_ast.specs.declared.limits.TheConstants.{MOST_BUDGET}
use Rattle.ppd_ast.specs.declared.program.Program.{Program}
use Rattle.ppd_codec.specs.declared.recording.Recording.{Recording}
use Rattle.ppd_codec_runs.specs.Recordings.{IsRecalled}
use Rattle.ppd_codec_runs.specs.declared.recalling.Recalled.{Recalled}
use Rattle.ppd_graph.specs.Refusals.{AreOrdered}
use Rattle.ppd_session.specs.Known.{Known}
use Rattle.ppd_session.specs.Texts.{refused_replay, told_at}
use Rattle.ppd_session.specs.declared.reply.SessionError.{SessionError}
use Rattle.ppd_session.specs.declared.reply.SessionError.TheVariants.{Diverged, Sets, Memory}
use Rattle.ppd_top.specs.declared.answers.Answer.{Answer}
use Rattle.law_clean.specs.Answers.{unwritten}
use Rattle.ppd_clean.specs.Answers.{IsFound}
use Rattle.ppd_clean.specs.declared.clean_error.CleanError.{CleanError}
use Rattle.ppd_clean.specs.declared.clean.Clean.{Clean as GivenClean}
use Rattle.ppd_top.specs.Queries.{Diverges, Gives, clean_of, clean_text, IsSliceAnswer, IsSliceFailure, IsSliceText, IsWholeAnswer, IsWholeFailure, IsWritten, event_refusal, refusal}
use Rattle.ppd_top_requests.specs.Questions.{ItemAsked, Query}

-- a recording that was accepted, with the index and the graph of its logs, so that nothing in it happens before itself
pub record IsAskable (r : Recalled) : Type 0 where
  pub recalled : IsRecalled r
  pub budget : r.recording.header.budget ≤ MOST_BUDGET
  pub ordered : AreOrdered r.recording.program r.recording.logs

-- an error is a replay that fails, and the line of it is what is written
abbrev pub IsError : ((schedule : List ℕ) → (status : ℕ) → (text : List ℕ) → Type 0) → Program → SessionError → Type 0
IsError Writes program Memory = ⊤
IsError Writes program error = Writes [] 6 (refused_replay program error)

-- to a query of a recording
abbrev pub IsReply : Recording → Query → Result Answer SessionError → Type 0
IsReply r query (Ok answer) = Gives r query answer.schedule 0 answer.text.items
IsReply r query (Err error) = IsError (Gives r query) r.program error

-- by a text, without a run
abbrev pub IsTextReply : {A : Type 0} → Recording → Query → Result (Vec ℕ A) SessionError → Type 0
IsTextReply r query (Ok text) = Gives r query [] 0 text.items
IsTextReply r query (Err error) = IsError (Gives r query) r.program error

-- ---- the whole trace

-- of a recording, whether it has races or not
abbrev pub IsWholeReply : {A : Type 0} → Recording → Result (Vec ℕ A) SessionError → Type 0
IsWholeReply r (Ok text) = IsWholeAnswer r [] text.items
IsWholeReply r (Err Memory) = ⊤
IsWholeReply r (Err error) = IsWholeFailure r error

-- ---- an item in a run with races

-- what is found of item j of interval k of process q
abbrev pub IsFoundClean : Recording → (q k j : ℕ) → Result GivenClean CleanError → Type 0
IsFoundClean r q k j result = IsFound (Diverges r q k j) (clean_of r q k j) result

-- of an interval that is there
abbrev pub IsCleanItem : {A : Type 0} → Recording → (q k j : ℕ) → Result (Vec ℕ A) SessionError → Type 0
IsCleanItem r q k j (Ok text) = clean_text r.program r.plan j (clean_of r q k j) ≡ Some text.items
IsCleanItem r q k j (Err (Diverged failure)) = Diverges r q k j failure.process failure.entry
IsCleanItem r q k j (Err (Sets failure)) = (c : ℕ)
    × (clean_of r q k j ≡ unwritten (record { process = failure.process; entry = failure.entry; cell = c }))
IsCleanItem r q k j (Err Memory) = ⊤

-- ---- slices

-- what is written of a slice, by what is known
abbrev pub WritesSlice : Known → ItemAsked → (schedule : List ℕ) → (status : ℕ) → (text : List ℕ) → Type 0
WritesSlice x a = IsWritten (refusal x (Slice a)) (IsSliceAnswer x a) (IsSliceFailure x) x.program

abbrev pub IsSliceReply : {A : Type 0} → Known → ItemAsked → Result (Vec ℕ A) SessionError → Type 0
IsSliceReply x a (Ok text) = WritesSlice x a [] 0 text.items
IsSliceReply x a (Err error) = IsError (WritesSlice x a) x.program error

-- why there is none about an interval that is there
abbrev pub IsItemFailed : Known → (q k j : ℕ) → SessionError → Type 0
IsItemFailed x q k j Memory = ⊤
IsItemFailed x q k j error = (event_refusal (told_at x q k) j ≡ None) × IsSliceFailure x error

-- about an interval that is there
abbrev pub IsItemReply : {A : Type 0} → Known → (q k j : ℕ) → Result (Vec ℕ A) SessionError → Type 0
IsItemReply x q k j (Ok text) = (event_refusal (told_at x q k) j ≡ Some text.items)
    ⊎ ((event_refusal (told_at x q k) j ≡ None) × IsSliceText x q k j text.items)
IsItemReply x q k j (Err error) = IsItemFailed x q k j error
