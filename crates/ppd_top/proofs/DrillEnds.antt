-- What `drill` comes to, by its status.
use Rattle.ppd_ast.specs.declared.limits.TheConstants.{MOST_INPUT_LINES, MOST_LINE_BYTES}
use Rattle.ppd_ast.specs.declared.program.Program.{Program}
use Rattle.ppd_check.proofs.Excluded.{read_or_refused}
use Rattle.ppd_check.specs.Read.{IsRead, IsRefused}
use Rattle.ppd_check.specs.declared.error.SourceError.{SourceError}
use Rattle.ppd_io.specs.Causes.{Rose}
use Rattle.ppd_io.specs.Content.{Appends, AppendsPart}
use Rattle.ppd_top.proofs.Agreeing.{of_agreeing}
use Rattle.ppd_top.proofs.Outcomes.{no_failure, one_request}
use Rattle.ppd_top.proofs.Statuses.{IsIn, other_than}
use Rattle.ppd_top.proofs.Talked.{one_fine, same_commands}
use Rattle.ppd_top.specs.Call.{Call, HasFailedWrite}
use Rattle.ppd_top.specs.Clauses.{MemoryRanOut, WasDone, WriteFailed}
use Rattle.ppd_top.specs.Clauses.MemoryRanOut.{early, in_drill}
use Rattle.ppd_top.specs.Clauses.WasDone.{drilled as done_drilled}
use Rattle.ppd_top.specs.Clauses.WriteFailed.{output_failed}
use Rattle.ppd_top.specs.Ran.{Drilled, Drills, Refuses}
use Rattle.ppd_top.specs.Ran.Drilled.{drilled, no_program}
use Rattle.ppd_top.specs.Top.{drill_options, out_of}
use Rattle.ppd_top.specs.Top.Writes.{for_number}
use Rattle.ppd_top_requests.specs.Words.{Asks, Command, asked}
use Rattle.ppd_top_requests.specs.Words.Request.{on_number, on_recording, on_source}
use Rattle.ppd_top_drill.specs.Drills.{generated}
use Rattle.ppd_top_commands.proofs.Conversing.{same_input}
use Rattle.ppd_top_commands.specs.Commands.{Flows, known_of, summary_of_run}
use Rattle.ppd_top_commands.specs.Output.{AppendsFront, Finished, IsUnread, Standing, Talks, answers}
use Rattle.ppd_top_commands.specs.Output.Talks.{unfinished, unread, unwritten, whole}
use Rattle.ppd_top_requests.specs.declared.options.Options.{Options}
use Rattle.std.proofs.Common.{List, Option, [], ap, arith, inl, inr, refl, subst, sym, ℕ, ◌++◌, ◌∙◌, ◌∷◌, ◌≡◌}
use Rattle.std.proofs.Math.Nat.{min-eq_left}
use Rattle.std.proofs.lemmas.Option.{none-some}
use Rattle.std.specs.Borrow.{Bor}
use Rattle.std.specs.Prelude.{None, Some, codes, min, ◌+◌, ◌-◌, ◌<◌, ◌^◌, ◌≤◌, ◌⊎◌}

-- ---- what the words ask for

pub not_source : (words : List (Bor (List ℕ))) (command : Command) (name : List ℕ) (options : Options) (number : ℕ) → Asks words (on_source command name options) → Asks words (on_number number) → ⊥
not_source words command name options number a b =
    let s : on_source command name options ≡ on_number number = one_request _ _ (asked words) a b in cc

pub not_recording : (words : List (Bor (List ℕ))) (name : List ℕ) (number : ℕ) → Asks words (on_recording name) → Asks words (on_number number) → ⊥
not_recording words name number a b =
    let s : on_recording name ≡ on_number number = one_request _ _ (asked words) a b in cc

pub not_nothing : (words : List (Bor (List ℕ))) (number : ℕ) → asked words ≡ None → Asks words (on_number number) → ⊥
not_nothing words number none a = none-some (on_number number) (sym none ∙ a)

-- ---- one line in place of an input that does not fail

-- a count that stays 0 did not rise
pub never_rose : Rose 0 0 → ⊥
never_rose r =
    let few : 0 + 1 ≤ 2 ^ 64 - 1 = omega arith in
    let m : min (0 + 1) (2 ^ 64 - 1) ≡ 0 + 1 = min-eq_left few in
    let n : 0 + 1 ≤ 0 = subst (λ k. k ≤ 0) m r in
    omega (arith, n)

module _ (program : Program) (schedule : List ℕ) where
  -- all answers end well
  drill_status : (out_of program drill_options schedule (codes "final\n")).status ≡ 0
  drill_status =
      let few : 0 < MOST_INPUT_LINES = omega arith in
      let short : 5 ≤ MOST_LINE_BYTES = omega arith in
      one_fine (known_of program drill_options schedule) 0 (codes "final") (no_failure program drill_options schedule (codes "final")) few short

  module _ (a b : Standing) (rest : List ℕ) (e : a.left ≡ Some (codes "final\n")) (f : b.left ≡ Some rest) (none : Rose a.reads b.reads → ⊥) where
    ends_of : (status : ℕ) → Talks (known_of program drill_options schedule) (summary_of_run program drill_options schedule) a b status
        → Finished a.written b.written a.writes b.writes status 0 (out_of program drill_options schedule (codes "final\n")).text
        ⊎ ((status ≡ 5) × AppendsFront a.written b.written (out_of program drill_options schedule (codes "final\n")).text)
    ends_of status (whole commands told further written) =
        let x = known_of program drill_options schedule in
        let first = summary_of_run program drill_options schedule in
        let s = same_commands a.left b.left (codes "final\n") rest commands e f told in
        inl (inl (ap (λ cs. (answers x cs).status) s ∙ drill_status, subst (λ cs. Appends a.written b.written (first ++ (answers x cs).text)) s written))
    ends_of status (unread broken) = absurd (none broken.rose)
    ends_of status (unwritten commands told rose part) =
        let x = known_of program drill_options schedule in
        let first = summary_of_run program drill_options schedule in
        let s = same_commands a.left b.left (codes "final\n") rest commands e f told in
        inl (inr (refl, rose, subst (λ cs. AppendsPart a.written b.written (first ++ (answers x cs).text)) s part))
    ends_of status (unfinished commands told part) =
        let x = known_of program drill_options schedule in
        let first = summary_of_run program drill_options schedule in
        let s = same_commands a.left b.left (codes "final\n") rest commands e f told in
        inr (refl, subst (λ cs. AppendsFront a.written b.written (first ++ (answers x cs).text)) s part)

pub drills_from : (program : Program) (schedule : List ℕ) (a b : Standing) (status : ℕ) (rest : List ℕ) → Flows program drill_options schedule a b status → a.left ≡ Some (codes "final\n") → b.left ≡ Some rest
    → (Rose a.reads b.reads → ⊥) → Drills program schedule a.written b.written a.writes b.writes status
drills_from program schedule a b status rest (inl h) e f none = inl (h.0, h.1.no_run, h.1.written)
drills_from program schedule a b status rest (inr t) e f none = inr (record { whole = t.whole; ends = ends_of program schedule a b rest e f none status t.talks })

-- ---- a source that has a program

-- it is refused for want of memory alone
pub never_refused : (number : ℕ) (error : SourceError) → (p : Program) × IsRead (generated number) p → IsRefused (generated number) error
    → (schedule : List ℕ) (old new : Option (List ℕ)) (before now status : ℕ) → schedule ≡ [] → Refuses error old new before now status → Drilled number schedule old new before now status
never_refused number error read cause schedule old new before now status empty (inl h) = no_program h.0 empty h.1
never_refused number error read cause schedule old new before now status empty (inr (real, f)) = absurd (real (read_or_refused (generated number) read.0 error read.1 cause))

-- ---- by its status

module _ (c : Call) (number : ℕ) (asks : Asks c.words (on_number number)) where
  -- what is written of a program
  abbrev Ends : Program → Type 0
  Ends program =
      Finished c.before.io.written c.after.io.written c.before.io.writes c.after.io.writes c.status 0 (out_of program drill_options c.schedule (codes "final\n")).text
      ⊎ ((c.status ≡ 5) × AppendsFront c.before.io.written c.after.io.written (out_of program drill_options c.schedule (codes "final\n")).text)

  ends_in : (program : Program) → Ends program → IsIn c.status (0 ∷ 4 ∷ 5 ∷ [])
  ends_in program (inl (inl h)) = inl h.0
  ends_in program (inl (inr h)) = inr (inl h.0)
  ends_in program (inr h) = inr (inr (inl h.0))

  pub drill_any : Drilled number c.schedule c.before.io.written c.after.io.written c.before.io.writes c.after.io.writes c.status → IsIn c.status (0 ∷ 4 ∷ 5 ∷ [])
  drill_any (no_program is empty same) = inr (inr (inl is))
  drill_any (drilled program read (inl h)) = inr (inr (inl h.0))
  drill_any (drilled program read (inr w)) = ends_in program w.ends

  pub drill_whole : Drilled number c.schedule c.before.io.written c.after.io.written c.before.io.writes c.after.io.writes c.status → c.status ≡ 0 → WasDone c
  drill_whole (no_program is empty same) e = absurd (omega arith)
  drill_whole (drilled program read (inl h)) e = absurd (omega (arith, h.0))
  drill_whole (drilled program read (inr w)) e = by w.ends
    where
      by : Ends program → WasDone c
      by (inl (inl h)) =
          done_drilled number program asks read w.whole (out_of program drill_options c.schedule (codes "final\n")) refl (drill_status program c.schedule) h.1
          (of_agreeing program drill_options c.schedule (codes "final\n"))
      by (inl (inr h)) = absurd (omega (arith, h.0))
      by (inr h) = absurd (omega (arith, h.0))

  pub drill_not_refused : Drilled number c.schedule c.before.io.written c.after.io.written c.before.io.writes c.after.io.writes c.status → c.status ≡ 1 → ⊥
  drill_not_refused d e = other_than 1 c.status (0 ∷ 4 ∷ 5 ∷ []) refl e (drill_any d)

  pub drill_unwritten : IsUnread c.before.io c.after.io → Drilled number c.schedule c.before.io.written c.after.io.written c.before.io.writes c.after.io.writes c.status → c.status ≡ 4 → WriteFailed c
  drill_unwritten same (no_program is empty kept) e = absurd (omega arith)
  drill_unwritten same (drilled program read (inl h)) e = absurd (omega (arith, h.0))
  drill_unwritten same (drilled program read (inr w)) e = by w.ends
    where
      by : Ends program → WriteFailed c
      by (inl (inl h)) = absurd (omega (arith, h.0))
      by (inl (inr h)) =
          let t = same_input c.before.io.left c.after.io.left same.left in
          output_failed t.0 (out_of program drill_options c.schedule (codes "final\n")) h.1 t.1
          (for_number number program asks read w.whole) h.2
      by (inr h) = absurd (omega (arith, h.0))

  pub drill_cut_off : c.after.held ≡ c.before.held → Drilled number c.schedule c.before.io.written c.after.io.written c.before.io.writes c.after.io.writes c.status → c.status ≡ 5 → MemoryRanOut c
  drill_cut_off kept (no_program is empty same) e = early kept empty same
  drill_cut_off kept (drilled program read (inl h)) e = early kept h.1 h.2
  drill_cut_off kept (drilled program read (inr w)) e = by w.ends
    where
      by : Ends program → MemoryRanOut c
      by (inl (inl h)) = absurd (omega (arith, h.0))
      by (inl (inr h)) = absurd (omega (arith, h.0))
      by (inr h) = in_drill number program asks read w.whole h.1

  pub drill_complete : Drilled number c.schedule c.before.io.written c.after.io.written c.before.io.writes c.after.io.writes c.status → (HasFailedWrite c → ⊥) → (c.status ≡ 0) ⊎ (c.status ≡ 5)
  drill_complete (no_program is empty same) p = inr is
  drill_complete (drilled program read (inl h)) p = inr h.0
  drill_complete (drilled program read (inr w)) p = by w.ends
    where
      by : Ends program → (c.status ≡ 0) ⊎ (c.status ≡ 5)
      by (inl (inl h)) = inl h.0
      by (inl (inr h)) = absurd (p h.1)
      by (inr h) = inr h.0

  pub drill_no_run : Drilled number c.schedule c.before.io.written c.after.io.written c.before.io.writes c.after.io.writes c.status → (c.status ≡ 1) ⊎ (c.status ≡ 2) → c.schedule ≡ []
  drill_no_run (no_program is empty same) e = empty
  drill_no_run (drilled program read (inl h)) e = h.1
  drill_no_run (drilled program read (inr w)) (inl e) = absurd (other_than 1 c.status (0 ∷ 4 ∷ 5 ∷ []) refl e (ends_in program w.ends))
  drill_no_run (drilled program read (inr w)) (inr e) = absurd (other_than 2 c.status (0 ∷ 4 ∷ 5 ∷ []) refl e (ends_in program w.ends))
