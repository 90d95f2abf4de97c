-- From how far a call came to the clauses of the top call.
use Rattle.std.specs.Prelude.{◌⊎◌, None}
use Rattle.std.proofs.Common.{◌≡◌, ℕ, ◌<◌, List, [], ◌∷◌, false, arith, inl, inr, refl, subst}
use Rattle.ppd_io.specs.Content.{StoreFails}
use Rattle.ppd_ast.specs.declared.program.Program.{Program}
use Rattle.ppd_codec.specs.declared.recording.Header.{Header}
use Rattle.ppd_top.specs.OfRuns.{AnswersAreOfRuns}
use Rattle.ppd_codec_runs.specs.Recordings.{IsRunRecorded}
use Rattle.ppd_top_requests.specs.declared.options.Options.{Options}
use Rattle.ppd_top.specs.Call.{Call, HasFailedLoad, HasFailedWrite, LeftShelf, Wrote}
use Rattle.ppd_top.specs.Clauses.{IsOutcome, IsPromised, IsPromisedAnswers, IsTaken, MemoryRanOut, RanWhole, ReadFailed, RecordingRefused, WasAnswered, WasDone, WasRefused, WriteFailed}
use Rattle.ppd_top.specs.Clauses.IsTaken.{by_drill, by_run}
use Rattle.ppd_top.specs.Clauses.MemoryRanOut.{early}
use Rattle.ppd_top.specs.Clauses.ReadFailed.{load_failed}
use Rattle.ppd_top.specs.Clauses.WasDone.{answered as done_answered, queried as done_queried, ran as done_ran}
use Rattle.ppd_top.specs.Ran.{Comes}
use Rattle.ppd_top.specs.Ran.Comes.{not_asked, no_memory, not_loaded, refusal, flow_done, show_done, run_done, recording_not_loaded, debug_done, drill_done, query_done}
use Rattle.ppd_top.specs.Ran.Drilled.{no_program, drilled}
use Rattle.ppd_top.specs.Top.{usage}
use Rattle.ppd_top_commands.specs.Output.{Finished}
use Rattle.ppd_top.specs.Top.Writes.{for_words}
use Rattle.ppd_top_requests.specs.Words.{Asks, Command, asked}
use Rattle.ppd_top_requests.specs.Words.Request.{on_number, on_source}
use Rattle.ppd_top_requests.specs.Words.Command.{Flow, Run, Show}
use Rattle.ppd_top_commands.proofs.Conversing.{same_input}
use Rattle.ppd_top.proofs.Debugged.{debug_any, debug_broken, debug_complete, debug_out, debug_refused, debug_unwritten, debug_whole}
use Rattle.ppd_top.proofs.DrillEnds.{drill_any, drill_complete, drill_cut_off, drill_no_run, drill_not_refused, drill_unwritten, drill_whole, not_nothing, not_recording, not_source}
use Rattle.ppd_top.proofs.Outcomes.{ask_nothing, one_run, flow_any, flow_broken, flow_complete, flow_out, flow_unwritten, flow_whole, one_name, refused_complete, refused_out, refused_so, refused_unwritten, refused_any, show_any, show_complete, show_done as shown, show_out, show_unwritten, was_read, write_failed}
use Rattle.ppd_top.proofs.Queried.{drill_no_query, one_asked_name, query_any, query_complete, query_not_told, query_out, query_taken, query_unwritten, query_whole, recording_no_drill, recording_nothing, source_no_query, source_no_recording}
use Rattle.ppd_top.proofs.Recorded.{others_same, run_any, run_complete, run_others, run_out, run_stored, run_unwritten}
use Rattle.ppd_top.proofs.Statuses.{IsIn, all_below, finished_in, is_among, other_than}

module _ (of_runs : AnswersAreOfRuns) (c : Call) where
  in_range : Comes c → c.status < 9
  in_range (not_asked none left empty same f) = all_below c.status (2 ∷ 4 ∷ []) refl (finished_in c.before.io.written c.after.io.written c.before.io.writes c.after.io.writes c.status 2 usage f)
  in_range (no_memory is left none) = all_below c.status (5 ∷ []) refl (inl is)
  in_range (not_loaded command name options asks left is rose none) = all_below c.status (3 ∷ []) refl (inl is)
  in_range (refusal command name options bytes error asks loads cause left empty same r) = all_below c.status (1 ∷ 4 ∷ 5 ∷ []) refl (refused_any error c.before.io c.after.io c.status r)
  in_range (flow_done name options bytes program asks loads read left d) = all_below c.status (0 ∷ 7 ∷ 8 ∷ 3 ∷ 4 ∷ 5 ∷ []) refl (flow_any c name options bytes loads asks program read d)
  in_range (show_done name options bytes program asks loads read left same d) = all_below c.status (0 ∷ 4 ∷ 5 ∷ []) refl (show_any c name options bytes loads asks program read d)
  in_range (run_done name recording options bytes program asks loads read same d) = all_below c.status (0 ∷ 4 ∷ 5 ∷ []) refl (run_any c name recording options bytes program asks loads read d)
  in_range (recording_not_loaded name asks left is rose none) = all_below c.status (3 ∷ []) refl (inl is)
  in_range (debug_done name bytes asks loads left empty d) = all_below c.status (0 ∷ 7 ∷ 8 ∷ 3 ∷ 4 ∷ 5 ∷ 6 ∷ []) refl (debug_any c name bytes asks loads empty d)
  in_range (drill_done number asks left same d) = all_below c.status (0 ∷ 4 ∷ 5 ∷ []) refl (drill_any c number asks d)
  in_range (query_done name query bytes asks loads left same d) = all_below c.status (0 ∷ 4 ∷ 5 ∷ 6 ∷ []) refl (query_any c name query bytes asks loads d)

  was_done : Comes c → c.status ≡ 0 → WasDone c
  was_done (not_asked none left empty same f) e = absurd (other_than 0 c.status (2 ∷ 4 ∷ []) refl e (finished_in c.before.io.written c.after.io.written c.before.io.writes c.after.io.writes c.status 2 usage f))
  was_done (no_memory is left none) e = absurd (other_than 0 c.status (5 ∷ []) refl e (inl is))
  was_done (not_loaded command name options asks left is rose none) e = absurd (other_than 0 c.status (3 ∷ []) refl e (inl is))
  was_done (refusal command name options bytes error asks loads cause left empty same r) e = absurd (other_than 0 c.status (1 ∷ 4 ∷ 5 ∷ []) refl e (refused_any error c.before.io c.after.io c.status r))
  was_done (flow_done name options bytes program asks loads read left d) e = done_ran (flow_whole c name options bytes loads asks program read d (inl e))
  was_done (show_done name options bytes program asks loads read left same d) e = shown c name options bytes loads asks program read d e
  was_done (run_done name recording options bytes program asks loads read same d) e = run_stored c name recording options bytes program asks loads read d e
  was_done (recording_not_loaded name asks left is rose none) e = absurd (other_than 0 c.status (3 ∷ []) refl e (inl is))
  was_done (debug_done name bytes asks loads left empty d) e = done_answered (debug_whole c name bytes asks loads empty d (inl e))
  was_done (drill_done number asks left same d) e = drill_whole c number asks d e
  was_done (query_done name query bytes asks loads left same d) e = done_queried (query_whole c name query bytes asks loads of_runs d e)

  not_lines : (ms : List ℕ) → is_among 7 ms ≡ false → is_among 8 ms ≡ false → (c.status ≡ 7) ⊎ (c.status ≡ 8) → IsIn c.status ms → ⊥
  not_lines ms a b (inl e) h = other_than 7 c.status ms a e h
  not_lines ms a b (inr e) h = other_than 8 c.status ms b e h

  was_ended : Comes c → (c.status ≡ 7) ⊎ (c.status ≡ 8) → RanWhole c ⊎ WasAnswered c
  was_ended (not_asked none left empty same f) e = absurd (not_lines (2 ∷ 4 ∷ []) refl refl e (finished_in c.before.io.written c.after.io.written c.before.io.writes c.after.io.writes c.status 2 usage f))
  was_ended (no_memory is left none) e = absurd (not_lines (5 ∷ []) refl refl e (inl is))
  was_ended (not_loaded command name options asks left is rose none) e = absurd (not_lines (3 ∷ []) refl refl e (inl is))
  was_ended (refusal command name options bytes error asks loads cause left empty same r) e = absurd (not_lines (1 ∷ 4 ∷ 5 ∷ []) refl refl e (refused_any error c.before.io c.after.io c.status r))
  was_ended (flow_done name options bytes program asks loads read left d) e = inl (flow_whole c name options bytes loads asks program read d (inr e))
  was_ended (show_done name options bytes program asks loads read left same d) e = absurd (not_lines (0 ∷ 4 ∷ 5 ∷ []) refl refl e (show_any c name options bytes loads asks program read d))
  was_ended (run_done name recording options bytes program asks loads read same d) e = absurd (not_lines (0 ∷ 4 ∷ 5 ∷ []) refl refl e (run_any c name recording options bytes program asks loads read d))
  was_ended (recording_not_loaded name asks left is rose none) e = absurd (not_lines (3 ∷ []) refl refl e (inl is))
  was_ended (debug_done name bytes asks loads left empty d) e = inr (debug_whole c name bytes asks loads empty d (inr e))
  was_ended (drill_done number asks left same d) e = absurd (not_lines (0 ∷ 4 ∷ 5 ∷ []) refl refl e (drill_any c number asks d))
  was_ended (query_done name query bytes asks loads left same d) e = absurd (not_lines (0 ∷ 4 ∷ 5 ∷ 6 ∷ []) refl refl e (query_any c name query bytes asks loads d))

  was_refused : Comes c → c.status ≡ 1 → WasRefused c
  was_refused (not_asked none left empty same f) e = absurd (other_than 1 c.status (2 ∷ 4 ∷ []) refl e (finished_in c.before.io.written c.after.io.written c.before.io.writes c.after.io.writes c.status 2 usage f))
  was_refused (no_memory is left none) e = absurd (other_than 1 c.status (5 ∷ []) refl e (inl is))
  was_refused (not_loaded command name options asks left is rose none) e = absurd (other_than 1 c.status (3 ∷ []) refl e (inl is))
  was_refused (refusal command name options bytes error asks loads cause left empty same r) e = refused_so c name options bytes loads command error asks cause empty r e
  was_refused (flow_done name options bytes program asks loads read left d) e = absurd (other_than 1 c.status (0 ∷ 7 ∷ 8 ∷ 3 ∷ 4 ∷ 5 ∷ []) refl e (flow_any c name options bytes loads asks program read d))
  was_refused (show_done name options bytes program asks loads read left same d) e = absurd (other_than 1 c.status (0 ∷ 4 ∷ 5 ∷ []) refl e (show_any c name options bytes loads asks program read d))
  was_refused (run_done name recording options bytes program asks loads read same d) e = absurd (other_than 1 c.status (0 ∷ 4 ∷ 5 ∷ []) refl e (run_any c name recording options bytes program asks loads read d))
  was_refused (recording_not_loaded name asks left is rose none) e = absurd (other_than 1 c.status (3 ∷ []) refl e (inl is))
  was_refused (debug_done name bytes asks loads left empty d) e = absurd (other_than 1 c.status (0 ∷ 7 ∷ 8 ∷ 3 ∷ 4 ∷ 5 ∷ 6 ∷ []) refl e (debug_any c name bytes asks loads empty d))
  was_refused (drill_done number asks left same d) e = absurd (drill_not_refused c number asks d e)
  was_refused (query_done name query bytes asks loads left same d) e = absurd (other_than 1 c.status (0 ∷ 4 ∷ 5 ∷ 6 ∷ []) refl e (query_any c name query bytes asks loads d))

  asked_nothing : Finished c.before.io.written c.after.io.written c.before.io.writes c.after.io.writes c.status 2 usage → c.status ≡ 2 → Wrote c usage
  asked_nothing (inl h) e = h.1
  asked_nothing (inr h) e = absurd (omega (arith, h.0))

  was_not_asked : Comes c → c.status ≡ 2 → (asked c.words ≡ None) × Wrote c usage
  was_not_asked (not_asked none left empty same f) e = (none, asked_nothing f e)
  was_not_asked (no_memory is left none) e = absurd (other_than 2 c.status (5 ∷ []) refl e (inl is))
  was_not_asked (not_loaded command name options asks left is rose none) e = absurd (other_than 2 c.status (3 ∷ []) refl e (inl is))
  was_not_asked (refusal command name options bytes error asks loads cause left empty same r) e = absurd (other_than 2 c.status (1 ∷ 4 ∷ 5 ∷ []) refl e (refused_any error c.before.io c.after.io c.status r))
  was_not_asked (flow_done name options bytes program asks loads read left d) e = absurd (other_than 2 c.status (0 ∷ 7 ∷ 8 ∷ 3 ∷ 4 ∷ 5 ∷ []) refl e (flow_any c name options bytes loads asks program read d))
  was_not_asked (show_done name options bytes program asks loads read left same d) e = absurd (other_than 2 c.status (0 ∷ 4 ∷ 5 ∷ []) refl e (show_any c name options bytes loads asks program read d))
  was_not_asked (run_done name recording options bytes program asks loads read same d) e = absurd (other_than 2 c.status (0 ∷ 4 ∷ 5 ∷ []) refl e (run_any c name recording options bytes program asks loads read d))
  was_not_asked (recording_not_loaded name asks left is rose none) e = absurd (other_than 2 c.status (3 ∷ []) refl e (inl is))
  was_not_asked (debug_done name bytes asks loads left empty d) e = absurd (other_than 2 c.status (0 ∷ 7 ∷ 8 ∷ 3 ∷ 4 ∷ 5 ∷ 6 ∷ []) refl e (debug_any c name bytes asks loads empty d))
  was_not_asked (drill_done number asks left same d) e = absurd (other_than 2 c.status (0 ∷ 4 ∷ 5 ∷ []) refl e (drill_any c number asks d))
  was_not_asked (query_done name query bytes asks loads left same d) e = absurd (other_than 2 c.status (0 ∷ 4 ∷ 5 ∷ 6 ∷ []) refl e (query_any c name query bytes asks loads d))

  was_unread : Comes c → c.status ≡ 3 → ReadFailed c
  was_unread (not_asked none left empty same f) e = absurd (other_than 3 c.status (2 ∷ 4 ∷ []) refl e (finished_in c.before.io.written c.after.io.written c.before.io.writes c.after.io.writes c.status 2 usage f))
  was_unread (no_memory is left none) e = absurd (other_than 3 c.status (5 ∷ []) refl e (inl is))
  was_unread (not_loaded command name options asks left is rose none) e = load_failed name (inl (command, options, asks)) rose none.no_run none.unread none.written
  was_unread (refusal command name options bytes error asks loads cause left empty same r) e = absurd (other_than 3 c.status (1 ∷ 4 ∷ 5 ∷ []) refl e (refused_any error c.before.io c.after.io c.status r))
  was_unread (flow_done name options bytes program asks loads read left d) e = flow_broken c name options bytes loads asks program read d e
  was_unread (show_done name options bytes program asks loads read left same d) e = absurd (other_than 3 c.status (0 ∷ 4 ∷ 5 ∷ []) refl e (show_any c name options bytes loads asks program read d))
  was_unread (run_done name recording options bytes program asks loads read same d) e = absurd (other_than 3 c.status (0 ∷ 4 ∷ 5 ∷ []) refl e (run_any c name recording options bytes program asks loads read d))
  was_unread (recording_not_loaded name asks left is rose none) e = load_failed name (inr asks) rose none.no_run none.unread none.written
  was_unread (debug_done name bytes asks loads left empty d) e = debug_broken c name bytes asks loads empty d e
  was_unread (drill_done number asks left same d) e = absurd (other_than 3 c.status (0 ∷ 4 ∷ 5 ∷ []) refl e (drill_any c number asks d))
  was_unread (query_done name query bytes asks loads left same d) e = absurd (other_than 3 c.status (0 ∷ 4 ∷ 5 ∷ 6 ∷ []) refl e (query_any c name query bytes asks loads d))

  was_unwritten : Comes c → c.status ≡ 4 → WriteFailed c
  was_unwritten (not_asked none left empty same f) e = let t = same_input c.before.io.left c.after.io.left same.left in write_failed c t.0 2 usage t.1 (for_words none empty) (λ k. omega arith) f e
  was_unwritten (no_memory is left none) e = absurd (other_than 4 c.status (5 ∷ []) refl e (inl is))
  was_unwritten (not_loaded command name options asks left is rose none) e = absurd (other_than 4 c.status (3 ∷ []) refl e (inl is))
  was_unwritten (refusal command name options bytes error asks loads cause left empty same r) e = refused_unwritten c name options bytes loads command error asks cause empty same r e
  was_unwritten (flow_done name options bytes program asks loads read left d) e = flow_unwritten c name options bytes loads asks program read d e
  was_unwritten (show_done name options bytes program asks loads read left same d) e = show_unwritten c name options bytes loads asks program read same d e
  was_unwritten (run_done name recording options bytes program asks loads read same d) e = run_unwritten c name recording options bytes program asks loads read same d e
  was_unwritten (recording_not_loaded name asks left is rose none) e = absurd (other_than 4 c.status (3 ∷ []) refl e (inl is))
  was_unwritten (debug_done name bytes asks loads left empty d) e = debug_unwritten c name bytes asks loads empty d e
  was_unwritten (drill_done number asks left same d) e = drill_unwritten c number asks same d e
  was_unwritten (query_done name query bytes asks loads left same d) e = query_unwritten c name query bytes asks loads of_runs same d e

  was_out : Comes c → c.status ≡ 5 → MemoryRanOut c
  was_out (not_asked none left empty same f) e = absurd (other_than 5 c.status (2 ∷ 4 ∷ []) refl e (finished_in c.before.io.written c.after.io.written c.before.io.writes c.after.io.writes c.status 2 usage f))
  was_out (no_memory is left none) e = early left.held none.no_run none.written
  was_out (not_loaded command name options asks left is rose none) e = absurd (other_than 5 c.status (3 ∷ []) refl e (inl is))
  was_out (refusal command name options bytes error asks loads cause left empty same r) e = refused_out c name options bytes loads command error asks cause empty left.held r e
  was_out (flow_done name options bytes program asks loads read left d) e = flow_out c name options bytes loads asks program read left.held d e
  was_out (show_done name options bytes program asks loads read left same d) e = show_out c name options bytes loads asks program read left.held d e
  was_out (run_done name recording options bytes program asks loads read same d) e = run_out c name recording options bytes program asks loads read d e
  was_out (recording_not_loaded name asks left is rose none) e = absurd (other_than 5 c.status (3 ∷ []) refl e (inl is))
  was_out (debug_done name bytes asks loads left empty d) e = debug_out c name bytes asks loads empty left.held d e
  was_out (drill_done number asks left same d) e = drill_cut_off c number asks left.held d e
  was_out (query_done name query bytes asks loads left same d) e = query_out c name query bytes asks loads left.held d e

  was_not_recalled : Comes c → c.status ≡ 6 → (b : List ℕ) × RecordingRefused c b
      × ((source : List ℕ) (header : Header) (program : Program) (h : List ℕ) → IsRunRecorded source header program h b → ⊥)
  was_not_recalled (not_asked none left empty same f) e = absurd (other_than 6 c.status (2 ∷ 4 ∷ []) refl e (finished_in c.before.io.written c.after.io.written c.before.io.writes c.after.io.writes c.status 2 usage f))
  was_not_recalled (no_memory is left none) e = absurd (other_than 6 c.status (5 ∷ []) refl e (inl is))
  was_not_recalled (not_loaded command name options asks left is rose none) e = absurd (other_than 6 c.status (3 ∷ []) refl e (inl is))
  was_not_recalled (refusal command name options bytes error asks loads cause left empty same r) e = absurd (other_than 6 c.status (1 ∷ 4 ∷ 5 ∷ []) refl e (refused_any error c.before.io c.after.io c.status r))
  was_not_recalled (flow_done name options bytes program asks loads read left d) e = absurd (other_than 6 c.status (0 ∷ 7 ∷ 8 ∷ 3 ∷ 4 ∷ 5 ∷ []) refl e (flow_any c name options bytes loads asks program read d))
  was_not_recalled (show_done name options bytes program asks loads read left same d) e = absurd (other_than 6 c.status (0 ∷ 4 ∷ 5 ∷ []) refl e (show_any c name options bytes loads asks program read d))
  was_not_recalled (run_done name recording options bytes program asks loads read same d) e = absurd (other_than 6 c.status (0 ∷ 4 ∷ 5 ∷ []) refl e (run_any c name recording options bytes program asks loads read d))
  was_not_recalled (recording_not_loaded name asks left is rose none) e = absurd (other_than 6 c.status (3 ∷ []) refl e (inl is))
  was_not_recalled (debug_done name bytes asks loads left empty d) e = debug_refused c name bytes asks loads empty d e
  was_not_recalled (drill_done number asks left same d) e = absurd (other_than 6 c.status (0 ∷ 4 ∷ 5 ∷ []) refl e (drill_any c number asks d))
  was_not_recalled (query_done name query bytes asks loads left same d) e = query_not_told c name query bytes asks loads of_runs same d e

  -- a promise speaks of the name that was loaded
  same_load : (command : Command) (name : List ℕ) (options : Options) → Asks c.words (on_source command name options) → HasFailedLoad c name → (p : IsPromised c) → HasFailedLoad c p.name
  same_load command name options asks rose p = subst (HasFailedLoad c) (one_name c.words command p.command name p.name options p.options asks p.asked) rose

  is_complete : Comes c → IsPromised c → (c.status ≡ 0) ⊎ (c.status ≡ 5)
  is_complete (not_asked none left empty same f) p = absurd (ask_nothing c.words p.command p.name p.options none p.asked)
  is_complete (no_memory is left none) p = inr is
  is_complete (not_loaded command name options asks left is rose none) p = absurd (p.no_load_fault (same_load command name options asks rose p))
  is_complete (refusal command name options bytes error asks loads cause left empty same r) p = refused_complete c name options bytes loads command error asks cause empty r p
  is_complete (flow_done name options bytes program asks loads read left d) p = flow_complete c name options bytes loads asks program read d p
  is_complete (show_done name options bytes program asks loads read left same d) p = show_complete c name options bytes loads asks program read d p
  is_complete (run_done name recording options bytes program asks loads read same d) p = run_complete c name recording options bytes program asks loads read d p
  is_complete (recording_not_loaded name asks left is rose none) p = absurd (source_no_recording c.words p.command p.name name p.options p.asked asks)
  is_complete (debug_done name bytes asks loads left empty d) p = absurd (source_no_recording c.words p.command p.name name p.options p.asked (inl asks))
  is_complete (drill_done number asks left same d) p = absurd (not_source c.words p.command p.name p.options number p.asked asks)
  is_complete (query_done name query bytes asks loads left same d) p = absurd (source_no_query c.words p.command p.name name p.options query p.asked asks)

  is_answered : Comes c → IsPromisedAnswers c → (c.status ≡ 0) ⊎ (c.status ≡ 5)
  is_answered (not_asked none left empty same f) p = absurd (recording_nothing c.words p.name none p.asked)
  is_answered (no_memory is left none) p = inr is
  is_answered (not_loaded command name options asks left is rose none) p = absurd (source_no_recording c.words command name p.name options asks p.asked)
  is_answered (refusal command name options bytes error asks loads cause left empty same r) p = absurd (source_no_recording c.words command name p.name options asks p.asked)
  is_answered (flow_done name options bytes program asks loads read left d) p = absurd (source_no_recording c.words Flow name p.name options asks p.asked)
  is_answered (show_done name options bytes program asks loads read left same d) p = absurd (source_no_recording c.words Show name p.name options asks p.asked)
  is_answered (run_done name recording options bytes program asks loads read same d) p = absurd (source_no_recording c.words (Run recording) name p.name options asks p.asked)
  is_answered (recording_not_loaded name asks left is rose none) p = absurd (p.no_load_fault (subst (HasFailedLoad c) (one_asked_name c.words name p.name asks p.asked) rose))
  is_answered (debug_done name bytes asks loads left empty d) p = debug_complete c name bytes asks loads empty d p
  is_answered (drill_done number asks left same d) p = absurd (recording_no_drill c.words p.name number p.asked asks)
  is_answered (query_done name query bytes asks loads left same d) p = query_complete c name query bytes asks loads d p

  is_drilled : Comes c → (n : ℕ) → Asks c.words (on_number n) → (HasFailedWrite c → ⊥) → (c.status ≡ 0) ⊎ (c.status ≡ 5)
  is_drilled (not_asked none left empty same f) n a p = absurd (not_nothing c.words n none a)
  is_drilled (no_memory is left none) n a p = inr is
  is_drilled (not_loaded command name options asks left is rose none) n a p = absurd (not_source c.words command name options n asks a)
  is_drilled (refusal command name options bytes error asks loads cause left empty same r) n a p = absurd (not_source c.words command name options n asks a)
  is_drilled (flow_done name options bytes program asks loads read left d) n a p = absurd (not_source c.words Flow name options n asks a)
  is_drilled (show_done name options bytes program asks loads read left same d) n a p = absurd (not_source c.words Show name options n asks a)
  is_drilled (run_done name recording options bytes program asks loads read same d) n a p = absurd (not_source c.words (Run recording) name options n asks a)
  is_drilled (recording_not_loaded name asks left is rose none) n a p = absurd (recording_no_drill c.words name n asks a)
  is_drilled (debug_done name bytes asks loads left empty d) n a p = absurd (not_recording c.words name n asks a)
  is_drilled (drill_done number asks left same d) n a p = drill_complete c number asks d p
  is_drilled (query_done name query bytes asks loads left same d) n a p = absurd (drill_no_query c.words n name query a asks)

  not_early : (ms : List ℕ) → is_among 1 ms ≡ false → is_among 2 ms ≡ false → (c.status ≡ 1) ⊎ (c.status ≡ 2) → IsIn c.status ms → ⊥
  not_early ms a b (inl e) h = other_than 1 c.status ms a e h
  not_early ms a b (inr e) h = other_than 2 c.status ms b e h

  has_no_run : Comes c → (c.status ≡ 1) ⊎ (c.status ≡ 2) → c.schedule ≡ []
  has_no_run (not_asked none left empty same f) e = empty
  has_no_run (no_memory is left none) e = none.no_run
  has_no_run (not_loaded command name options asks left is rose none) e = none.no_run
  has_no_run (refusal command name options bytes error asks loads cause left empty same r) e = empty
  has_no_run (flow_done name options bytes program asks loads read left d) e = absurd (not_early (0 ∷ 7 ∷ 8 ∷ 3 ∷ 4 ∷ 5 ∷ []) refl refl e (flow_any c name options bytes loads asks program read d))
  has_no_run (show_done name options bytes program asks loads read left same d) e = absurd (not_early (0 ∷ 4 ∷ 5 ∷ []) refl refl e (show_any c name options bytes loads asks program read d))
  has_no_run (run_done name recording options bytes program asks loads read same d) e = absurd (not_early (0 ∷ 4 ∷ 5 ∷ []) refl refl e (run_any c name recording options bytes program asks loads read d))
  has_no_run (recording_not_loaded name asks left is rose none) e = none.no_run
  has_no_run (debug_done name bytes asks loads left empty d) e = empty
  has_no_run (drill_done number asks left same d) e = drill_no_run c number asks d e
  has_no_run (query_done name query bytes asks loads left same d) e = absurd (not_early (0 ∷ 4 ∷ 5 ∷ 6 ∷ []) refl refl e (query_any c name query bytes asks loads d))

  taken : Comes c → (c.schedule ≡ []) ⊎ IsTaken c
  taken (not_asked none left empty same f) = inl empty
  taken (no_memory is left none) = inl none.no_run
  taken (not_loaded command name options asks left is rose none) = inl none.no_run
  taken (refusal command name options bytes error asks loads cause left empty same r) = inl empty
  taken (flow_done name options bytes program asks loads read left (inl h)) = inl h.1.no_run
  taken (flow_done name options bytes program asks loads read left (inr t)) = inr (by_run Flow (was_read c name options bytes loads Flow asks program read) t.whole)
  taken (show_done name options bytes program asks loads read left same (inl h)) = inl h.1.no_run
  taken (show_done name options bytes program asks loads read left same (inr h)) = inl h.0
  taken (run_done name recording options bytes program asks loads read same (inl h)) = inl h.1.no_run
  taken (run_done name recording options bytes program asks loads read same (inr r)) = inr (by_run (Run recording) (was_read c name options bytes loads (Run recording) asks program read) r.whole)
  taken (recording_not_loaded name asks left is rose none) = inl none.no_run
  taken (debug_done name bytes asks loads left empty d) = inl empty
  taken (drill_done number asks left same (no_program is empty nothing)) = inl empty
  taken (drill_done number asks left same (drilled program read (inl h))) = inl h.1
  taken (drill_done number asks left same (drilled program read (inr w))) = inr (by_drill number program asks read w.whole)
  taken (query_done name query bytes asks loads left same d) = query_taken c name query bytes asks loads d

  -- `run` has none of these statuses
  not_kept : {N : Type 0} → (c.status ≡ 1) ⊎ ((c.status ≡ 2) ⊎ ((c.status ≡ 3) ⊎ N)) → (N → ⊥) → IsIn c.status (0 ∷ 4 ∷ 5 ∷ []) → ⊥
  not_kept (inl e) none h = other_than 1 c.status (0 ∷ 4 ∷ 5 ∷ []) refl e h
  not_kept (inr (inl e)) none h = other_than 2 c.status (0 ∷ 4 ∷ 5 ∷ []) refl e h
  not_kept (inr (inr (inl e))) none h = other_than 3 c.status (0 ∷ 4 ∷ 5 ∷ []) refl e h
  not_kept (inr (inr (inr n))) none h = none n

  -- so what does none of what `run` does stores nothing
  leaves_shelf : Comes c → ((name recording : List ℕ) (options : Options) → Asks c.words (on_source (Run recording) name options) → IsIn c.status (0 ∷ 4 ∷ 5 ∷ []) → ⊥) → LeftShelf c
  leaves_shelf (not_asked none left empty same f) e = left
  leaves_shelf (no_memory is left none) e = left
  leaves_shelf (not_loaded command name options asks left is rose none) e = left
  leaves_shelf (refusal command name options bytes error asks loads cause left empty same r) e = left
  leaves_shelf (flow_done name options bytes program asks loads read left d) e = left
  leaves_shelf (show_done name options bytes program asks loads read left same d) e = left
  leaves_shelf (run_done name recording options bytes program asks loads read same d) e = absurd (e name recording options asks (run_any c name recording options bytes program asks loads read d))
  leaves_shelf (recording_not_loaded name asks left is rose none) e = left
  leaves_shelf (debug_done name bytes asks loads left empty d) e = left
  leaves_shelf (drill_done number asks left same d) e = left
  leaves_shelf (query_done name query bytes asks loads left same d) e = left

  keeps_others : Comes c → (name recording : List ℕ) (options : Options) → Asks c.words (on_source (Run recording) name options) → StoreFails c.before.held c.after.held recording
  keeps_others (not_asked none left empty same f) = λ n r o asked. others_same c.before.held c.after.held r left.held
  keeps_others (no_memory is left none) = λ n r o asked. others_same c.before.held c.after.held r left.held
  keeps_others (not_loaded command name options asks left is rose none) = λ n r o asked. others_same c.before.held c.after.held r left.held
  keeps_others (refusal command name options bytes error asks loads cause left empty same r) = λ n r o asked. others_same c.before.held c.after.held r left.held
  keeps_others (flow_done name options bytes program asks loads read left d) = λ n r o asked. others_same c.before.held c.after.held r left.held
  keeps_others (show_done name options bytes program asks loads read left same d) = λ n r o asked. others_same c.before.held c.after.held r left.held
  keeps_others (run_done name recording options bytes program asks loads read same d) = λ n r o asked. subst (StoreFails c.before.held c.after.held) (one_run c.words recording r name n options o asks asked) (run_others c name recording options bytes program asks loads read d)
  keeps_others (recording_not_loaded name asks left is rose none) = λ n r o asked. others_same c.before.held c.after.held r left.held
  keeps_others (debug_done name bytes asks loads left empty d) = λ n r o asked. others_same c.before.held c.after.held r left.held
  keeps_others (drill_done number asks left same d) = λ n r o asked. others_same c.before.held c.after.held r left.held
  keeps_others (query_done name query bytes asks loads left same d) = λ n r o asked. others_same c.before.held c.after.held r left.held

  pub is_outcome : Comes c → IsOutcome c
  is_outcome how = record {
    range = in_range how;
    done = was_done how;
    refused = was_refused how;
    usage = was_not_asked how;
    read = was_unread how;
    write = was_unwritten how;
    memory = was_out how;
    recording = was_not_recalled how;
    lines = was_ended how;
    complete = is_complete how;
    answers = is_answered how;
    drills = is_drilled how;
    schedule = taken how;
    no_run = has_no_run how;
    shelf = λ e.
        let left = leaves_shelf how (λ name recording options asks. not_kept e (λ none. none name recording options asks)) in
        (left.held, left.stores);
    others = keeps_others how;
  }
