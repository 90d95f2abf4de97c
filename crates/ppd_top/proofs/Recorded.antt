-- What `run` comes to, by its status.
use Rattle.ppd_top.specs.declared.loads.TheConstants.{MOST_BYTES}
use Rattle.ppd_codec_runs.specs.Recordings.{IsRunRecorded}
use Rattle.std.specs.Prelude.{Option, Some, None, ◌⊎◌}
use Rattle.std.proofs.Common.{◌≡◌, ℕ, List, [], ◌∷◌, arith, inl, inr, refl, subst, sym}
use Rattle.ppd_ast.specs.declared.program.Program.{Program}
use Rattle.ppd_check.specs.Read.{IsRead}
use Rattle.ppd_io.specs.Content.{Loads, StoreFails}
use Rattle.ppd_top_commands.specs.Commands.{Keeps, header_of, Records, summary_of_run}
use Rattle.ppd_top_requests.specs.declared.options.Options.{Options}
use Rattle.ppd_top_commands.specs.Output.{IsUnread}
use Rattle.ppd_top.specs.Ran.{kept_in}
use Rattle.ppd_top_commands.specs.Commands.Keeps.{not_kept, store_failed, kept}
use Rattle.ppd_top.specs.Call.{Call}
use Rattle.ppd_top.specs.Clauses.{IsPromised, MemoryRanOut, WasDone, WriteFailed}
use Rattle.ppd_top.specs.Clauses.MemoryRanOut.{early, in_run}
use Rattle.ppd_top.specs.Clauses.WasDone.{stored as done_stored}
use Rattle.ppd_top.specs.Clauses.WriteFailed.{shelf_failed}
use Rattle.ppd_top.specs.Top.{WasRead}
use Rattle.ppd_top.specs.Top.Writes.{for_run}
use Rattle.ppd_top_requests.specs.Words.{Asks}
use Rattle.ppd_top_requests.specs.Words.Request.{on_source}
use Rattle.ppd_top_requests.specs.Words.Command.{Run}
use Rattle.ppd_top_commands.proofs.Conversing.{same_input}
use Rattle.ppd_top.proofs.Outcomes.{one_command, was_read, write_failed}
use Rattle.ppd_top.proofs.Statuses.{IsIn}

-- a shelf that is left as it was holds the other names as before
same_others : (held : Option (List ℕ → Option (List ℕ))) (name : List ℕ) → StoreFails held held name
same_others None name = tt
same_others (Some at) name = λ n other. refl

pub others_same : (held now : Option (List ℕ → Option (List ℕ))) (name : List ℕ) → now ≡ held → StoreFails held now name
others_same held now name e = subst (λ h. StoreFails held h name) (sym e) (same_others held name)

module _ (c : Call) (name recording : List ℕ) (options : Options) (bytes : List ℕ) (program : Program) (asks : Asks c.words (on_source (Run recording) name options)) (loads : Loads c.before.held name MOST_BYTES bytes) (accepted : IsRead bytes program) where
  abbrev read : WasRead c (Run recording)
  read = was_read c name options bytes loads (Run recording) asks program accepted

  keeps_any : Keeps (IsRunRecorded bytes (header_of options) program c.schedule) recording (summary_of_run program options c.schedule) (kept_in c.before) (kept_in c.after) c.status → IsIn c.status (0 ∷ 4 ∷ 5 ∷ [])
  keeps_any (not_kept is unstored written) = inr (inr (inl is))
  keeps_any (store_failed is rose others written) = inr (inl is)
  keeps_any (kept b of s others (inl h)) = inl h.0
  keeps_any (kept b of s others (inr h)) = inr (inl h.0)

  pub run_any : Records bytes program options recording c.schedule (kept_in c.before) (kept_in c.after) c.status → IsIn c.status (0 ∷ 4 ∷ 5 ∷ [])
  run_any (inl h) = inr (inr (inl h.0))
  run_any (inr r) = keeps_any r.keeps

  pub run_others : Records bytes program options recording c.schedule (kept_in c.before) (kept_in c.after) c.status → StoreFails c.before.held c.after.held recording
  run_others (inl h) = others_same c.before.held c.after.held recording h.1.held
  run_others (inr r) = by r.keeps
    where
      by : Keeps (IsRunRecorded bytes (header_of options) program c.schedule) recording (summary_of_run program options c.schedule) (kept_in c.before) (kept_in c.after) c.status → StoreFails c.before.held c.after.held recording
      by (not_kept is unstored written) = others_same c.before.held c.after.held recording unstored
      by (store_failed is rose others written) = others
      by (kept b of s others f) = others

  pub run_stored : Records bytes program options recording c.schedule (kept_in c.before) (kept_in c.after) c.status → c.status ≡ 0 → WasDone c
  run_stored (inl h) e = absurd (omega (arith, h.0))
  run_stored (inr r) e = by r.keeps
    where
      by : Keeps (IsRunRecorded bytes (header_of options) program c.schedule) recording (summary_of_run program options c.schedule) (kept_in c.before) (kept_in c.after) c.status → WasDone c
      by (not_kept is unstored written) = absurd (omega arith)
      by (store_failed is rose others written) = absurd (omega arith)
      by (kept b of s others (inl h)) = done_stored recording read b r.whole of s others h.1
      by (kept b of s others (inr h)) = absurd (omega (arith, h.0))

  pub run_unwritten : IsUnread c.before.io c.after.io → Records bytes program options recording c.schedule (kept_in c.before) (kept_in c.after) c.status → c.status ≡ 4 → WriteFailed c
  run_unwritten same (inl h) e = absurd (omega (arith, h.0))
  run_unwritten same (inr r) e = by r.keeps
    where
      by : Keeps (IsRunRecorded bytes (header_of options) program c.schedule) recording (summary_of_run program options c.schedule) (kept_in c.before) (kept_in c.after) c.status
          → WriteFailed c
      by (not_kept is unstored written) = absurd (omega arith)
      by (store_failed is rose others written) = shelf_failed recording read r.whole rose others written
      by (kept b of s others f) =
          let t = same_input c.before.io.left c.after.io.left same.left in
          let text = summary_of_run program options c.schedule in
          write_failed c t.0 0 text t.1 (for_run recording read r.whole) (λ k. omega arith) f e

  pub run_out : Records bytes program options recording c.schedule (kept_in c.before) (kept_in c.after) c.status → c.status ≡ 5 → MemoryRanOut c
  run_out (inl h) e = early h.1.held h.1.no_run h.1.written
  run_out (inr r) e = by r.keeps
    where
      by : Keeps (IsRunRecorded bytes (header_of options) program c.schedule) recording (summary_of_run program options c.schedule) (kept_in c.before) (kept_in c.after) c.status
          → MemoryRanOut c
      by (not_kept is unstored written) = in_run recording read r.whole unstored written
      by (store_failed is rose others written) = absurd (omega arith)
      by (kept b of s others (inl h)) = absurd (omega (arith, h.0))
      by (kept b of s others (inr h)) = absurd (omega (arith, h.0))

  pub run_complete : Records bytes program options recording c.schedule (kept_in c.before) (kept_in c.after) c.status → IsPromised c → (c.status ≡ 0) ⊎ (c.status ≡ 5)
  run_complete (inl h) p = inr h.0
  run_complete (inr r) p = by r.keeps
    where
      by : Keeps (IsRunRecorded bytes (header_of options) program c.schedule) recording (summary_of_run program options c.schedule) (kept_in c.before) (kept_in c.after) c.status → (c.status ≡ 0) ⊎ (c.status ≡ 5)
      by (not_kept is unstored written) = inr is
      by (store_failed is rose others written) = absurd (p.no_store_fault recording (sym (one_command c.words (Run recording) p.command name p.name options p.options asks p.asked)) rose)
      by (kept b of s others (inl h)) = inl h.0
      by (kept b of s others (inr h)) = absurd (p.no_write_fault h.1)
