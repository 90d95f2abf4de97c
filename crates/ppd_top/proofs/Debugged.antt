-- What `debug` comes to, by its status.
use Rattle.law_steps.specs.Policies.{setting_by}
use Rattle.ppd_codec_runs.specs.Recordings.{recorded_setting}
use Rattle.ppd_top.specs.declared.loads.TheConstants.{MOST_RECORDING}
use Rattle.ppd_ast.specs.declared.program.Program.{Program}
use Rattle.ppd_codec.specs.declared.recording.Header.{Header}
use Rattle.ppd_codec.specs.declared.recording.Recording.{Recording}
use Rattle.ppd_model.specs.declared.entry.At.{At}
use Rattle.ppd_io.specs.Content.{Loads}
use Rattle.ppd_io.specs.Lines.{lines_of}
use Rattle.ppd_race.specs.Races.{edges_of_logs, races_among}
use Rattle.ppd_session.proofs.Answered.{run_answered}
use Rattle.ppd_session.proofs.Knowing.{logs_are_known}
use Rattle.ppd_session.proofs.Missing.{missing_writes_told}
use Rattle.ppd_session.specs.Known.{Known, known_of_run, seens}
use Rattle.ppd_session.specs.Missing.{IsMissingAt}
use Rattle.ppd_session.specs.Sessions.{IsWhy}
use Rattle.ppd_session.specs.Texts.{failure_of}
use Rattle.ppd_session.specs.declared.reply.SessionError.TheVariants.{Sets}
use Rattle.ppd_top.proofs.Outcomes.{loaded, write_failed}
use Rattle.ppd_top.proofs.Queried.{one_asked_name}
use Rattle.ppd_top.proofs.Statuses.{IsIn, any_in, other_than}
use Rattle.ppd_top.proofs.Talked.{IsEnd, IsLast, answers_whole, talks_any, talks_broken, talks_cut_off, talks_fine, talks_unwritten, talks_whole}
use Rattle.ppd_top.specs.Call.{Call}
use Rattle.ppd_top.specs.Clauses.{IsPromisedAnswers, MemoryRanOut, ReadFailed, RecordingRefused, WasAnswered, WriteFailed}
use Rattle.ppd_top.specs.Clauses.MemoryRanOut.{early, in_debug}
use Rattle.ppd_top.specs.Clauses.ReadFailed.{lines_failed}
use Rattle.ppd_top.specs.Clauses.RecordingRefused.{bytes_refused, line_failed}
use Rattle.ppd_top.specs.Clauses.WriteFailed.{output_failed}
use Rattle.ppd_top.specs.Top.{IsRecalledFrom}
use Rattle.ppd_top.specs.Top.Writes.{for_recording, refused_recording}
use Rattle.ppd_top_requests.specs.Words.{Asks}
use Rattle.ppd_top_requests.specs.Words.Request.{on_recording}
use Rattle.ppd_codec_runs.proofs.Runs.{no_run_is_refused, runs_are_recalled}
use Rattle.ppd_codec_runs.proofs.Same.{refused_or_accepted}
use Rattle.ppd_codec_runs.specs.Recordings.{IsAccepted, IsRunRecorded, known_of as known_of_recording}
use Rattle.ppd_top_commands.proofs.Conversing.{same_input}
use Rattle.ppd_top_commands.specs.Debugging.{Debugs}
use Rattle.ppd_top_commands.specs.Debugging.Debugs.{no_recall, recalled, recording_refused}
use Rattle.ppd_top_commands.specs.Output.{Standing, Talks, answers}
use Rattle.std.proofs.Common.{List, [], arith, inl, inr, refl, subst, sym, ℕ, ◌∙◌, ◌∷◌, ◌≡◌}
use Rattle.std.specs.Prelude.{None, ◌⊎◌}

-- by what is known of a run no replay fails
no_failure : (x : Known) (program : Program) (header : Header) (h : List ℕ) → x ≡ known_of_run (setting_by program header.policy header.budget) h → (line : List ℕ) → failure_of x line ≡ None
no_failure x program header h known line =
    subst (λ (y : Known). failure_of y line ≡ None) (sym known) (run_answered (setting_by program header.policy header.budget) h line)

-- what `debug` comes to has one of these
debugs_in : (bytes : List ℕ) (a b : Standing) (status : ℕ) → Debugs bytes a b status → IsIn status (0 ∷ 7 ∷ 8 ∷ 3 ∷ 4 ∷ 5 ∷ 6 ∷ [])
debugs_in bytes a b status (no_recall is written) = inr (inr (inr (inr (inr (inl is)))))
debugs_in bytes a b status (recording_refused line why same (inl h)) = inr (inr (inr (inr (inr (inr (inl h.0))))))
debugs_in bytes a b status (recording_refused line why same (inr h)) = inr (inr (inr (inr (inl h.0))))
debugs_in bytes a b status (recalled r accepted t) = any_in (known_of_recording r) [] a b status (talks_any (known_of_recording r) [] a b status t)

end_not_6 : (n : ℕ) → IsEnd n → n ≡ 6 → ⊥
end_not_6 n (inl h) e = omega arith
end_not_6 n (inr (inl h)) e = omega arith
end_not_6 n (inr (inr h)) e = omega arith

-- it is neither status 1 nor status 2
pub debug_not_early : (bytes : List ℕ) (a b : Standing) (status : ℕ) → Debugs bytes a b status → (status ≡ 1) ⊎ (status ≡ 2) → ⊥
debug_not_early bytes a b status d (inl e) = other_than 1 status (0 ∷ 7 ∷ 8 ∷ 3 ∷ 4 ∷ 5 ∷ 6 ∷ []) refl e (debugs_in bytes a b status d)
debug_not_early bytes a b status d (inr e) = other_than 2 status (0 ∷ 7 ∷ 8 ∷ 3 ∷ 4 ∷ 5 ∷ 6 ∷ []) refl e (debugs_in bytes a b status d)

module _ (c : Call) (name bytes : List ℕ) (asks : Asks c.words (on_recording name)) (loads : Loads c.before.held name MOST_RECORDING bytes) (no_run : c.schedule ≡ []) where
  abbrev from : (r : Recording) → IsAccepted bytes r → IsRecalledFrom c on_recording r (known_of_recording r)
  from r accepted = record {
    name = name;
    bytes = bytes;
    asked = asks;
    loaded = loads;
    accepted = accepted;
    knows = logs_are_known (recorded_setting r) r.logs accepted.indexed;
    of_runs = runs_are_recalled bytes r accepted;
  }

  pub debug_any : Debugs bytes c.before.io c.after.io c.status → IsIn c.status (0 ∷ 7 ∷ 8 ∷ 3 ∷ 4 ∷ 5 ∷ 6 ∷ [])
  debug_any d = debugs_in bytes c.before.io c.after.io c.status d

  not_end : IsEnd c.status → (n : ℕ) → c.status ≡ n → (n ≡ 4) ⊎ ((n ≡ 5) ⊎ (n ≡ 6)) → ⊥
  not_end (inl e) n is (inl k) = omega arith
  not_end (inl e) n is (inr (inl k)) = omega arith
  not_end (inl e) n is (inr (inr k)) = omega arith
  not_end (inr (inl e)) n is (inl k) = omega arith
  not_end (inr (inl e)) n is (inr (inl k)) = omega arith
  not_end (inr (inl e)) n is (inr (inr k)) = omega arith
  not_end (inr (inr e)) n is (inl k) = omega arith
  not_end (inr (inr e)) n is (inr (inl k)) = omega arith
  not_end (inr (inr e)) n is (inr (inr k)) = omega arith

  abbrev answered_so : (r : Recording) → IsAccepted bytes r → Talks (known_of_recording r) [] c.before.io c.after.io c.status → IsLast c.status → WasAnswered c
  answered_so r accepted t e =
      let w = talks_whole (known_of_recording r) [] c.before.io c.after.io c.status t e in
      record {
        recording = r;
        known = known_of_recording r;
        commands = w.commands;
        recalled = from r accepted;
        no_run = no_run;
        told = w.told;
        unread = w.unread;
        status_is = w.status_is;
        written = w.written;
      }

  pub debug_whole : Debugs bytes c.before.io c.after.io c.status → IsEnd c.status → WasAnswered c
  debug_whole (no_recall is written) e = absurd (not_end e 5 is (inr (inl refl)))
  debug_whole (recording_refused line why same (inl h)) e = absurd (not_end e 6 h.0 (inr (inr refl)))
  debug_whole (recording_refused line why same (inr h)) e = absurd (not_end e 4 h.0 (inl refl))
  debug_whole (recalled r accepted t) e = answered_so r accepted t (inl e)

  pub debug_broken : Debugs bytes c.before.io c.after.io c.status → c.status ≡ 3 → ReadFailed c
  debug_broken (no_recall is written) e = absurd (omega arith)
  debug_broken (recording_refused line why same (inl h)) e = absurd (omega (arith, h.0))
  debug_broken (recording_refused line why same (inr h)) e = absurd (omega (arith, h.0))
  debug_broken (recalled r accepted t) e = lines_failed r (known_of_recording r) (from r accepted) no_run (talks_broken (known_of_recording r) [] c.before.io c.after.io c.status t e)

  pub debug_unwritten : Debugs bytes c.before.io c.after.io c.status → c.status ≡ 4 → WriteFailed c
  debug_unwritten (no_recall is written) e = absurd (omega arith)
  debug_unwritten (recording_refused line why same f) e =
      let t = same_input c.before.io.left c.after.io.left same.left in
      write_failed c t.0 6 line t.1
      (refused_recording name bytes line (inl asks) loads why no_run) (λ k. omega arith) f e
  debug_unwritten (recalled r accepted t) e =
      let u = talks_unwritten (known_of_recording r) [] c.before.io c.after.io c.status t e in
      output_failed u.commands (answers (known_of_recording r) u.commands) u.rose u.told
      (for_recording r (known_of_recording r) (from r accepted) no_run) u.written

  pub debug_out : c.after.held ≡ c.before.held → Debugs bytes c.before.io c.after.io c.status → c.status ≡ 5 → MemoryRanOut c
  debug_out kept (no_recall is written) e = early kept no_run written
  debug_out kept (recording_refused line why same (inl h)) e = absurd (omega (arith, h.0))
  debug_out kept (recording_refused line why same (inr h)) e = absurd (omega (arith, h.0))
  debug_out kept (recalled r accepted t) e =
      let cut = talks_cut_off (known_of_recording r) [] c.before.io c.after.io c.status t e in
      in_debug r (known_of_recording r) cut.commands (from r accepted) no_run cut.told cut.written

  -- the recording of a run has no replay that fails
  of_no_run : (w : WasAnswered c) → c.status ≡ 6 → (source : List ℕ) (header : Header) (program : Program) (h : List ℕ) → IsRunRecorded source header program h w.recalled.bytes → ⊥
  of_no_run w six source header program h run =
      end_not_6 _ (answers_whole w.known (no_failure w.known program header h (w.recalled.of_runs source header program h run).0) 0 (lines_of w.commands)) (sym w.status_is ∙ six)

  -- a write that a line asks for is missing
  is_missing : (r : Recording) → IsAccepted bytes r → (line : List ℕ) (at : At)
      → IsWhy (failure_of (known_of_recording r) line) (Sets at) → IsMissingAt r.logs (seens (recorded_setting r) r.logs) at
  is_missing r accepted line at f =
      (missing_writes_told (recorded_setting r) r.logs (races_among (edges_of_logs r.program r.logs)) accepted.indexed).lines line at f

  pub debug_refused : Debugs bytes c.before.io c.after.io c.status → c.status ≡ 6 → (b : List ℕ) × RecordingRefused c b
      × ((source : List ℕ) (header : Header) (program : Program) (h : List ℕ) → IsRunRecorded source header program h b → ⊥)
  debug_refused (no_recall is written) e = absurd (omega arith)
  debug_refused (recording_refused line why same (inl h)) e = (
    bytes,
    bytes_refused name bytes line (inl asks) loads why (λ r accepted. refused_or_accepted bytes line r accepted why) no_run same h.1,
    λ source header program h run. no_run_is_refused source header program h bytes line run why,
  )
  debug_refused (recording_refused line why same (inr h)) e = absurd (omega (arith, h.0))
  debug_refused (recalled r accepted t) e =
      (bytes, line_failed (answered_so r accepted t (inr e)) (is_missing r accepted), of_no_run (answered_so r accepted t (inr e)) e)

  pub debug_complete : Debugs bytes c.before.io c.after.io c.status → IsPromisedAnswers c → (c.status ≡ 0) ⊎ (c.status ≡ 5)
  debug_complete (no_recall is written) p = inr is
  debug_complete (recording_refused line why same f) p =
      let names = one_asked_name c.words name p.name (inl asks) p.asked in
      let P : List ℕ → Type 0 = λ n. Loads c.before.held n MOST_RECORDING bytes in
      let is = loaded c.before.held p.at MOST_RECORDING p.name p.all bytes p.told p.there (subst P names loads) in
      let Q : List ℕ → Type 0 = λ s. IsRunRecorded p.source p.header p.program p.schedule s in
      absurd (no_run_is_refused p.source p.header p.program p.schedule bytes line (subst Q (sym is) p.of_run) why)
  debug_complete (recalled r accepted t) p =
      let names = one_asked_name c.words name p.name (inl asks) p.asked in
      let f = p.fine (subst (λ (n : List ℕ). Asks c.words (on_recording n)) names asks) in
      let P : List ℕ → Type 0 = λ n. Loads c.before.held n MOST_RECORDING bytes in
      let is = loaded c.before.held p.at MOST_RECORDING p.name p.all bytes p.told p.there (subst P names loads) in
      let Q : List ℕ → Type 0 = λ s. IsRunRecorded p.source p.header p.program p.schedule s in
      talks_fine (known_of_recording r) [] c.before.io c.after.io c.status f.commands f.rest t f.told f.told_still (f.fine (known_of_recording r) (no_failure (known_of_recording r) p.program p.header p.schedule (runs_are_recalled bytes r accepted p.source p.header p.program p.schedule (subst Q (sym is) p.of_run)).0)) f.no_read_fault p.no_write_fault
