-- What a query comes to, by its status.
use Rattle.ppd_codec_runs.specs.Recordings.{recorded_setting}
use Rattle.ppd_top.specs.declared.loads.TheConstants.{MOST_RECORDING}
use Rattle.ppd_ast.specs.declared.limits.TheConstants.{MOST_BUDGET}
use Rattle.ppd_ast.specs.declared.program.Program.{Program}
use Rattle.ppd_codec.specs.declared.recording.Header.{Header}
use Rattle.ppd_codec.specs.declared.recording.Recording.{Recording}
use Rattle.ppd_io.specs.Content.{Loads}
use Rattle.ppd_rerun_guide.specs.Verdicts.{IsVerdict}
use Rattle.ppd_rerun_guide.specs.declared.verdict.Verdict.TheVariants.{No, Yes}
use Rattle.ppd_session.proofs.Knowing.{logs_are_known}
use Rattle.ppd_session.specs.Texts.{refused_replay}
use Rattle.ppd_session.specs.declared.reply.SessionError.{SessionError}
use Rattle.ppd_session.specs.declared.reply.SessionError.TheVariants.{Diverged, Memory, Sets}
use Rattle.ppd_top.proofs.DrillEnds.{not_recording}
use Rattle.ppd_top.proofs.Outcomes.{debug_nothing, loaded, not_both, one_recording_name, one_request, write_failed}
use Rattle.ppd_top.proofs.Statuses.{IsIn, right_true}
use Rattle.ppd_top.specs.Call.{Call, Wrote}
use Rattle.ppd_top.specs.Clauses.{IsPromisedAnswers, IsTaken, MemoryRanOut, RecordingRefused, WasQueried, WriteFailed}
use Rattle.ppd_top.specs.Clauses.IsTaken.{by_rerun}
use Rattle.ppd_top.specs.Clauses.MemoryRanOut.{early}
use Rattle.ppd_top.specs.Clauses.RecordingRefused.{bytes_refused, query_failed}
use Rattle.ppd_top.specs.Ran.{IsTold, Queries}
use Rattle.ppd_top.specs.Ran.Queries.{no_query, queried, query_refused}
use Rattle.ppd_top.specs.Top.{IsRecalledFrom}
use Rattle.ppd_top.specs.Top.Writes.{for_query, refused_recording}
use Rattle.ppd_top_requests.specs.Words.{Asks, AsksRecording, Command, asked}
use Rattle.ppd_top_requests.specs.Words.Request.{on_number, on_query, on_recording, on_source}
use Rattle.ppd_top.proofs.Determined.{answers_are_determined, failed_are_missing}
use Rattle.ppd_top.proofs.Ends.{queries_end, runs_are_told}
use Rattle.ppd_codec_runs.proofs.Runs.{no_run_is_refused, runs_are_recalled}
use Rattle.ppd_codec_runs.proofs.Same.{refused_or_accepted}
use Rattle.ppd_top.specs.Determined.{GivesBy}
use Rattle.ppd_top.specs.OfRuns.{AnswersAreOfRuns}
use Rattle.ppd_top.specs.Queries.{Gives, IsAnswer}
use Rattle.ppd_top_requests.specs.Questions.{Query}
use Rattle.ppd_top.specs.Queries.IsWritten.{answers, fails, refuses}
use Rattle.ppd_top_requests.specs.Questions.Query.{Clean, Rerun, Slice, Whole}
use Rattle.ppd_codec_runs.specs.declared.recalling.Recalled.{Recalled}
use Rattle.ppd_codec_runs.specs.Recordings.{IsAccepted, IsRecalled, IsRunRecorded, known_of}
use Rattle.ppd_top.specs.Replies.{IsAskable, IsError}
use Rattle.ppd_top_commands.proofs.Conversing.{same_input}
use Rattle.ppd_top_commands.specs.Asking.{IsFailed}
use Rattle.ppd_top_commands.specs.Output.{Finished, IsUnread}
use Rattle.ppd_top_requests.specs.declared.options.Options.{Options}
use Rattle.std.proofs.Common.{List, [], arith, inl, inr, leb-true, refl, subst, sym, ℕ, ◌∙◌, ◌∷◌, ◌≡◌}
use Rattle.std.proofs.lemmas.Option.{none-some}
use Rattle.std.specs.Borrow.{Bor}
use Rattle.std.specs.Prelude.{None, Option, nat_le, ◌≤◌, ◌⊎◌}

-- ---- what the words ask for

pub source_no_query : (words : List (Bor (List ℕ))) (command : Command) (name other : List ℕ) (options : Options) (query : Query) → Asks words (on_source command name options) → Asks words (on_query other query) → ⊥
source_no_query words command name other options query a b =
    let s : on_source command name options ≡ on_query other query = one_request _ _ (asked words) a b in cc

pub debug_no_query : (words : List (Bor (List ℕ))) (name other : List ℕ) (query : Query) → Asks words (on_recording name) → Asks words (on_query other query) → ⊥
debug_no_query words name other query a b =
    let s : on_recording name ≡ on_query other query = one_request _ _ (asked words) a b in cc

pub drill_no_query : (words : List (Bor (List ℕ))) (number : ℕ) (other : List ℕ) (query : Query) → Asks words (on_number number) → Asks words (on_query other query) → ⊥
drill_no_query words number other query a b =
    let s : on_number number ≡ on_query other query = one_request _ _ (asked words) a b in cc

one_query_name : (words : List (Bor (List ℕ))) (name other : List ℕ) (query than : Query) → Asks words (on_query name query) → Asks words (on_query other than) → name ≡ other
one_query_name words name other query than a b =
    let s : on_query name query ≡ on_query other than = one_request _ _ (asked words) a b in cc

-- a recording is asked for, and no source and no number
pub source_no_recording : (words : List (Bor (List ℕ))) (command : Command) (name other : List ℕ) (options : Options) → Asks words (on_source command name options) → AsksRecording words other → ⊥
source_no_recording words command name other options a (inl b) = not_both words command name other options a b
source_no_recording words command name other options a (inr b) = source_no_query words command name other options b.0 a b.1

pub recording_no_drill : (words : List (Bor (List ℕ))) (name : List ℕ) (number : ℕ) → AsksRecording words name → Asks words (on_number number) → ⊥
recording_no_drill words name number (inl a) b = not_recording words name number a b
recording_no_drill words name number (inr a) b = drill_no_query words number name a.0 b a.1

pub recording_nothing : (words : List (Bor (List ℕ))) (name : List ℕ) → asked words ≡ None → AsksRecording words name → ⊥
recording_nothing words name none (inl a) = debug_nothing words name none a
recording_nothing words name none (inr a) = none-some (on_query name a.0) (sym none ∙ a.1)

pub one_asked_name : (words : List (Bor (List ℕ))) (name other : List ℕ) → AsksRecording words name → AsksRecording words other → name ≡ other
one_asked_name words name other (inl a) (inl b) = one_recording_name words name other a b
one_asked_name words name other (inl a) (inr b) = absurd (debug_no_query words name other b.0 a b.1)
one_asked_name words name other (inr a) (inl b) = absurd (debug_no_query words other name a.0 b a.1)
one_asked_name words name other (inr a) (inr b) = one_query_name words name other a.0 b.0 a.1 b.1

-- ---- by its status

module _ (c : Call) (name : List ℕ) (query : Query) (bytes : List ℕ) (asks : Asks c.words (on_query name query)) (loads : Loads c.before.held name MOST_RECORDING bytes) where
  given_not : (r : Recording) (n : ℕ) (text : List ℕ) → Gives r query c.schedule n text → (m : ℕ) → n ≡ m → (m ≡ 0 → ⊥) → (m ≡ 6 → ⊥) → ⊥
  given_not r n text g m is other than = elim (queries_end r query c.schedule n text g) [ inl z ↦ other (sym is ∙ z) | inr s ↦ than (sym is ∙ s) ]

  pub query_any : Queries bytes query c.schedule c.before.io.written c.after.io.written c.before.io.writes c.after.io.writes c.status → IsIn c.status (0 ∷ 4 ∷ 5 ∷ 6 ∷ [])
  query_any (no_query is empty same) = inr (inr (inl is))
  query_any (query_refused line why empty (inl h)) = inr (inr (inr (inl h.0)))
  query_any (query_refused line why empty (inr h)) = inr (inl h.0)
  query_any (queried r accepted n text g (inl h)) = elim (queries_end r query c.schedule n text g) [ inl z ↦ inl (h.0 ∙ z) | inr s ↦ inr (inr (inr (inl (h.0 ∙ s)))) ]
  query_any (queried r accepted n text g (inr h)) = inr (inl h.0)

  abbrev from : (r : Recording) → IsAccepted bytes r → IsRecalledFrom c (λ n. on_query n query) r (known_of r)
  from r accepted = record {
    name = name;
    bytes = bytes;
    asked = asks;
    loaded = loads;
    accepted = accepted;
    knows = logs_are_known (recorded_setting r) r.logs accepted.indexed;
    of_runs = runs_are_recalled bytes r accepted;
  }

  abbrev was_queried : AnswersAreOfRuns → (r : Recording) → IsAccepted bytes r → (n : ℕ) (text : List ℕ) → Gives r query c.schedule n text → c.status ≡ n → Wrote c text → WasQueried c
  was_queried of_runs r accepted n text g is w = record {
    query = query;
    recording = r;
    known = known_of r;
    text = text;
    recalled = from r accepted;
    gives = subst (λ k. GivesBy r (known_of r) query c.schedule k text) (sym is) (answers_are_determined bytes r query c.schedule n text accepted g);
    answers_runs = λ zero. of_runs bytes r query c.schedule text accepted (subst (λ k. Gives r query c.schedule k text) (sym is ∙ zero) g);
    written = w;
  }

  pub query_whole : AnswersAreOfRuns → Queries bytes query c.schedule c.before.io.written c.after.io.written c.before.io.writes c.after.io.writes c.status → c.status ≡ 0 → WasQueried c
  query_whole of_runs (no_query is empty same) e = absurd (omega arith)
  query_whole of_runs (query_refused line why empty (inl h)) e = absurd (omega (arith, h.0))
  query_whole of_runs (query_refused line why empty (inr h)) e = absurd (omega (arith, h.0))
  query_whole of_runs (queried r accepted n text g (inl h)) e = was_queried of_runs r accepted n text g h.0 h.1
  query_whole of_runs (queried r accepted n text g (inr h)) e = absurd (omega (arith, h.0))

  pub query_unwritten : AnswersAreOfRuns → IsUnread c.before.io c.after.io → Queries bytes query c.schedule c.before.io.written c.after.io.written c.before.io.writes c.after.io.writes c.status → c.status ≡ 4 → WriteFailed c
  query_unwritten of_runs same (no_query is empty none) e = absurd (omega arith)
  query_unwritten of_runs same (query_refused line why empty f) e =
      let t = same_input c.before.io.left c.after.io.left same.left in
      write_failed c t.0 6 line t.1 (refused_recording name bytes line (inr (query, asks)) loads why empty) (λ k. omega arith) f e
  query_unwritten of_runs same (queried r accepted n text g f) e =
      let t = same_input c.before.io.left c.after.io.left same.left in
      write_failed c t.0 n text t.1
      (for_query query r (known_of r) n text (from r accepted) (answers_are_determined bytes r query c.schedule n text accepted g)
      (λ zero. of_runs bytes r query c.schedule text accepted (subst (λ k. Gives r query c.schedule k text) zero g)))
      (λ k. given_not r n text g 4 k (λ z. omega arith) (λ z. omega arith)) f e

  pub query_out : c.after.held ≡ c.before.held → Queries bytes query c.schedule c.before.io.written c.after.io.written c.before.io.writes c.after.io.writes c.status → c.status ≡ 5 → MemoryRanOut c
  query_out kept (no_query is empty same) e = early kept empty same
  query_out kept (query_refused line why empty (inl h)) e = absurd (omega (arith, h.0))
  query_out kept (query_refused line why empty (inr h)) e = absurd (omega (arith, h.0))
  query_out kept (queried r accepted n text g (inl h)) e = absurd (given_not r n text g 5 (sym h.0 ∙ e) (λ z. omega arith) (λ z. omega arith))
  query_out kept (queried r accepted n text g (inr h)) e = absurd (omega (arith, h.0))

  -- of the recording of a run no replay fails
  of_no_run : (r : Recording) → IsAccepted bytes r → (n : ℕ) (text : List ℕ) → Gives r query c.schedule n text → n ≡ 6
      → (source : List ℕ) (header : Header) (program : Program) (h : List ℕ) → IsRunRecorded source header program h bytes → ⊥
  of_no_run r accepted n text g six source header program h run =
      let zero : n ≡ 0 = runs_are_told bytes r query c.schedule n text accepted source header program h run g in
      omega (arith, six, zero)

  pub query_not_told : AnswersAreOfRuns → IsUnread c.before.io c.after.io → Queries bytes query c.schedule c.before.io.written c.after.io.written c.before.io.writes c.after.io.writes c.status → c.status ≡ 6 → (b : List ℕ) × RecordingRefused c b
      × ((source : List ℕ) (header : Header) (program : Program) (h : List ℕ) → IsRunRecorded source header program h b → ⊥)
  query_not_told of_runs same (no_query is empty none) e = absurd (omega arith)
  query_not_told of_runs same (query_refused line why empty (inl h)) e = (
    bytes,
    bytes_refused name bytes line (inr (query, asks)) loads why (λ r accepted. refused_or_accepted bytes line r accepted why) empty same h.1,
    λ source header program h run. no_run_is_refused source header program h bytes line run why,
  )
  query_not_told of_runs same (query_refused line why empty (inr h)) e = absurd (omega (arith, h.0))
  query_not_told of_runs same (queried r accepted n text g (inl h)) e = (
    bytes,
    query_failed (was_queried of_runs r accepted n text g h.0 h.1) (λ at f. failed_are_missing bytes r query at accepted f),
    of_no_run r accepted n text g (sym h.0 ∙ e),
  )
  query_not_told of_runs same (queried r accepted n text g (inr h)) e = absurd (omega (arith, h.0))

  -- the bytes that are promised are those that were loaded
  promised : (p : IsPromisedAnswers c) → IsRunRecorded p.source p.header p.program p.schedule bytes
  promised p =
      let names = one_asked_name c.words name p.name (inr (query, asks)) p.asked in
      let P : List ℕ → Type 0 = λ n. Loads c.before.held n MOST_RECORDING bytes in
      let is = loaded c.before.held p.at MOST_RECORDING p.name p.all bytes p.told p.there (subst P names loads) in
      let Q : List ℕ → Type 0 = λ s. IsRunRecorded p.source p.header p.program p.schedule s in
      subst Q (sym is) p.of_run

  pub query_complete : Queries bytes query c.schedule c.before.io.written c.after.io.written c.before.io.writes c.after.io.writes c.status → IsPromisedAnswers c → (c.status ≡ 0) ⊎ (c.status ≡ 5)
  query_complete (no_query is empty same) p = inr is
  query_complete (query_refused line why empty f) p = absurd (no_run_is_refused p.source p.header p.program p.schedule bytes line (promised p) why)
  query_complete (queried r accepted n text g (inl h)) p = inl (h.0 ∙ runs_are_told bytes r query c.schedule n text accepted p.source p.header p.program p.schedule (promised p) g)
  query_complete (queried r accepted n text g (inr h)) p = absurd (p.no_write_fault h.1)

-- where a schedule was taken
confirms : (r : Recording) (query : Query) (schedule : List ℕ) (status : ℕ) (text : List ℕ) → Gives r query schedule status text → (schedule ≡ []) ⊎ ((query ≡ Rerun) × IsVerdict (recorded_setting r) r.logs (Yes schedule))
confirms r query schedule status text (refuses line why) = inl refl
confirms r query schedule status text (fails error none why) = inl refl
confirms r query schedule status text (answers h t none a) = by query a
  where
    by : (q : Query) → IsAnswer r q h t → (h ≡ []) ⊎ ((q ≡ Rerun) × IsVerdict (recorded_setting r) r.logs (Yes h))
    by (Slice a) b = inl b.0
    by (Whole workers) b = inl b.0
    by (Clean a) b = inl b.0
    by Rerun (Yes g, is, same, line) = inr (refl, subst (λ (k : List ℕ). IsVerdict (recorded_setting r) r.logs (Yes k)) (sym same) is)
    by Rerun (No why, is, same, line) = inl same

pub query_taken : (c : Call) (name : List ℕ) (query : Query) (bytes : List ℕ) → Asks c.words (on_query name query) → Loads c.before.held name MOST_RECORDING bytes
    → Queries bytes query c.schedule c.before.io.written c.after.io.written c.before.io.writes c.after.io.writes c.status → (c.schedule ≡ []) ⊎ IsTaken c
query_taken c name query bytes asks loads (no_query is empty same) = inl empty
query_taken c name query bytes asks loads (query_refused line why empty f) = inl empty
query_taken c name query bytes asks loads (queried r accepted n text g f) = by (confirms r query c.schedule n text g)
  where
    by : (c.schedule ≡ []) ⊎ ((query ≡ Rerun) × IsVerdict (recorded_setting r) r.logs (Yes c.schedule)) → (c.schedule ≡ []) ⊎ IsTaken c
    by (inl empty) = inl empty
    by (inr (same, is)) = inr (by_rerun name bytes r (subst (λ (than : Query). Asks c.words (on_query name than)) same asks) loads accepted is)

-- of an accepted recording
pub told_by : (bytes : List ℕ) (query : Query) (schedule : List ℕ) (old new : Option (List ℕ)) (before now status : ℕ) (r : Recording) → IsAccepted bytes r → IsTold r query schedule old new before now status → Queries bytes query schedule old new before now status
told_by bytes query schedule old new before now status r accepted (inl h) = no_query h.0 h.1 h.2
told_by bytes query schedule old new before now status r accepted (inr h) = queried r accepted h.0 h.1 h.2 h.3

-- its budget is within the limit
budget_in_range : (bytes : List ℕ) (r : Recording) → IsAccepted bytes r → r.header.budget ≤ MOST_BUDGET
budget_in_range bytes r accepted =
    let within = accepted.decoded.lawful.fields.0.0.1.1.0.1 in
    leb-true r.header.budget MOST_BUDGET (right_true (nat_le 1 r.header.budget) (nat_le r.header.budget MOST_BUDGET) within)

pub askable : (bytes : List ℕ) (r : Recalled) → IsAccepted bytes r.recording → IsRecalled r → IsAskable r
askable bytes r accepted together = record { recalled = together; budget = budget_in_range bytes r.recording accepted; ordered = accepted.ordered }

module _ (r : Recording) (query : Query) (schedule : List ℕ) (old new : Option (List ℕ)) (before now status : ℕ) where
  pub tells_text : (text shown : List ℕ) → Gives r query schedule 0 text → shown ≡ text → Finished old new before now status 0 shown → IsTold r query schedule old new before now status
  tells_text text shown g e f = inr (0, text, g, subst (Finished old new before now status 0) e f)

  -- a replay that fails takes no schedule
  fails_so : (error : SessionError) → schedule ≡ [] → Gives r query [] 6 (refused_replay r.program error) → Finished old new before now status 6 (refused_replay r.program error) → IsTold r query schedule old new before now status
  fails_so error empty g f = inr (6, refused_replay r.program error, subst (λ h. Gives r query h 6 (refused_replay r.program error)) (sym empty) g, f)

  pub tells_failure : schedule ≡ [] → (error : SessionError) → IsError (Gives r query) r.program error → IsFailed r.program error old new before now status → IsTold r query schedule old new before now status
  tells_failure empty error g (inl h) = inl (h.0, empty, h.1)
  tells_failure empty (Diverged failure) g (inr h) = fails_so (Diverged failure) empty g h.1
  tells_failure empty (Sets failure) g (inr h) = fails_so (Sets failure) empty g h.1
  tells_failure empty Memory g (inr h) = absurd (h.0 refl)
