-- From what a command comes to to the clauses of the top call.
use Rattle.law_steps.specs.Policies.{setting_by}
use Rattle.ppd_top.specs.declared.loads.TheConstants.{MOST_BYTES}
use Rattle.ppd_blocks.specs.Blocks.{plan_of}
use Rattle.ppd_ast.specs.declared.program.Program.{Program}
use Rattle.ppd_check.proofs.Excluded.{read_or_refused}
use Rattle.ppd_check.specs.Read.{IsRead, IsRefused}
use Rattle.ppd_check.specs.declared.error.SourceError.{SourceError}
use Rattle.ppd_io.specs.Content.{Loads}
use Rattle.ppd_session.proofs.Answered.{run_answered}
use Rattle.ppd_session.specs.Texts.{failure_of}
use Rattle.ppd_text.specs.Table.{table_of}
use Rattle.ppd_text_refusals.specs.Sources.{refused}
use Rattle.ppd_top.proofs.Agreeing.{of_agreeing}
use Rattle.ppd_top.proofs.Statuses.{IsIn, any_in, but_six, other_than}
use Rattle.ppd_top.proofs.Talked.{IsEnd, talks_any, talks_broken, talks_cut_off, talks_fine, talks_not_refused, talks_unwritten, talks_whole}
use Rattle.ppd_top.specs.Call.{Call}
use Rattle.ppd_top.specs.Clauses.{IsPromised, MemoryRanOut, RanWhole, ReadFailed, WasDone, WasRefused, WriteFailed}
use Rattle.ppd_top.specs.Clauses.MemoryRanOut.{early, in_flow}
use Rattle.ppd_top.specs.Clauses.ReadFailed.{input_failed}
use Rattle.ppd_top.specs.Clauses.WasDone.{shown}
use Rattle.ppd_top.specs.Clauses.WriteFailed.{output_failed}
use Rattle.ppd_top.specs.Ran.{Refuses}
use Rattle.ppd_top.specs.Top.{WasRead, Writes, out_of}
use Rattle.ppd_top.specs.Top.Writes.{for_flow, for_show, refused_source}
use Rattle.ppd_top_requests.specs.Words.{Asks, Command, Request, asked}
use Rattle.ppd_top_requests.specs.Words.Command.{Flow, Run, Show}
use Rattle.ppd_top_requests.specs.Words.Request.{on_recording, on_source}
use Rattle.ppd_top_commands.proofs.Conversing.{same_input}
use Rattle.ppd_top_commands.specs.Commands.{Flows, Shows, WasTold, known_of, summary_of_run}
use Rattle.ppd_top_commands.specs.Output.{AreCommands, Finished, IsUnread, Standing, output}
use Rattle.ppd_top_requests.specs.declared.options.Options.{Options}
use Rattle.std.proofs.Common.{List, [], ap, arith, inl, inr, refl, subst, sym, ℕ, ◌∙◌, ◌∷◌, ◌≡◌}
use Rattle.std.proofs.lemmas.Option.{none-some}
use Rattle.std.specs.Borrow.{Bor}
use Rattle.std.specs.Prelude.{None, Option, Some, take, ◌⊎◌}

-- the words ask for one thing at most
pub one_request : (a b : Request) (o : Option Request) → o ≡ Some a → o ≡ Some b → a ≡ b
one_request a b o e f = let s : Some a ≡ Some b = sym e ∙ f in cc

pub one_name : (words : List (Bor (List ℕ))) (command than : Command) (name other : List ℕ) (options others : Options) → Asks words (on_source command name options) → Asks words (on_source than other others) → name ≡ other
one_name words command than name other options others a b =
    let s : on_source command name options ≡ on_source than other others = one_request _ _ (asked words) a b in cc

pub one_command : (words : List (Bor (List ℕ))) (command than : Command) (name other : List ℕ) (options others : Options) → Asks words (on_source command name options) → Asks words (on_source than other others) → command ≡ than
one_command words command than name other options others a b =
    let s : on_source command name options ≡ on_source than other others = one_request _ _ (asked words) a b in cc

-- and not for both a source and a recording
pub not_both : (words : List (Bor (List ℕ))) (command : Command) (name other : List ℕ) (options : Options) → Asks words (on_source command name options) → Asks words (on_recording other) → ⊥
not_both words command name other options a b =
    let s : on_source command name options ≡ on_recording other = one_request _ _ (asked words) a b in cc

pub one_recording_name : (words : List (Bor (List ℕ))) (name other : List ℕ) → Asks words (on_recording name) → Asks words (on_recording other) → name ≡ other
one_recording_name words name other a b =
    let s : on_recording name ≡ on_recording other = one_request _ _ (asked words) a b in cc

-- the recording of `run` is one
pub one_run : (words : List (Bor (List ℕ))) (recording than : List ℕ) (name other : List ℕ) (options others : Options) → Asks words (on_source (Run recording) name options) → Asks words (on_source (Run than) other others) → recording ≡ than
one_run words recording than name other options others a b =
    let s : on_source (Run recording) name options ≡ on_source (Run than) other others = one_request _ _ (asked words) a b in cc

-- words that ask for nothing do not ask for this
pub ask_nothing : (words : List (Bor (List ℕ))) (command : Command) (name : List ℕ) (options : Options) → asked words ≡ None → Asks words (on_source command name options) → ⊥
ask_nothing words command name options none a = none-some (on_source command name options) (sym none ∙ a)

pub debug_nothing : (words : List (Bor (List ℕ))) (name : List ℕ) → asked words ≡ None → Asks words (on_recording name) → ⊥
debug_nothing words name none a = none-some (on_recording name) (sym none ∙ a)

-- what was loaded where the shelf tells
pub loaded : (held : Option (List ℕ → Option (List ℕ))) (at : List ℕ → Option (List ℕ)) (most : ℕ) (name all bytes : List ℕ) → held ≡ Some at → at name ≡ Some all → Loads held name most bytes → bytes ≡ take most all
loaded None at most name all bytes e there l = cc
loaded (Some f) at most name all bytes e there l =
    let same : f ≡ at = cc in
    let found : Some l.0 ≡ Some all = sym l.1 ∙ (ap (λ (g : List ℕ → Option (List ℕ)). g name) same ∙ there) in
    let is : l.0 ≡ all = cc in
    l.2 ∙ ap (take most) is

end_not_5 : (n : ℕ) → n ≡ 5 → IsEnd n → ⊥
end_not_5 n e (inl h) = omega arith
end_not_5 n e (inr (inl h)) = omega arith
end_not_5 n e (inr (inr h)) = omega arith

-- a text that was not written whole
pub write_failed : (c : Call) (commands : List ℕ) (status : ℕ) (text : List ℕ)
    → AreCommands c.before.io.left c.after.io.left commands → Writes c commands (output status text) → (status ≡ 4 → ⊥)
    → Finished c.before.io.written c.after.io.written c.before.io.writes c.after.io.writes c.status status text → c.status ≡ 4 → WriteFailed c
write_failed c commands status text told w other (inl h) is = absurd (other (sym h.0 ∙ is))
write_failed c commands status text told w other (inr h) is = output_failed commands (output status text) h.1 told w h.2

-- of a run no replay fails
pub no_failure : (program : Program) (options : Options) (schedule line : List ℕ) → failure_of (known_of program options schedule) line ≡ None
no_failure program options schedule line = run_answered (setting_by program options.policy options.budget) schedule line

-- what `flow` comes to has one of these
pub flows_in : (program : Program) (options : Options) (schedule : List ℕ) (a b : Standing) (result : ℕ) → Flows program options schedule a b result → IsIn result (0 ∷ 7 ∷ 8 ∷ 3 ∷ 4 ∷ 5 ∷ [])
flows_in program options schedule a b result (inl h) = inr (inr (inr (inr (inr (inl h.0)))))
flows_in program options schedule a b result (inr t) =
    let x = known_of program options schedule in
    let head = summary_of_run program options schedule in
    but_six result (talks_not_refused x (no_failure program options schedule) head a b result t.talks) (any_in x head a b result (talks_any x head a b result t.talks))

-- it is no refusal
pub flow_not_early : (N : Type 0) (program : Program) (options : Options) (schedule : List ℕ) (a b : Standing) (result : ℕ) → Flows program options schedule a b result → (N → ⊥) → (result ≡ 1) ⊎ ((result ≡ 2) ⊎ N) → ⊥
flow_not_early N program options schedule a b result f none (inl e) = other_than 1 result (0 ∷ 7 ∷ 8 ∷ 3 ∷ 4 ∷ 5 ∷ []) refl e (flows_in program options schedule a b result f)
flow_not_early N program options schedule a b result f none (inr (inl e)) = other_than 2 result (0 ∷ 7 ∷ 8 ∷ 3 ∷ 4 ∷ 5 ∷ []) refl e (flows_in program options schedule a b result f)
flow_not_early N program options schedule a b result f none (inr (inr n)) = none n

-- a refusal has one of these
pub refused_any : (error : SourceError) (a b : Standing) (result : ℕ) → Refuses error a.written b.written a.writes b.writes result → IsIn result (1 ∷ 4 ∷ 5 ∷ [])
refused_any error a b result (inl h) = inr (inr (inl h.0))
refused_any error a b result (inr (real, inl h)) = inl h.0
refused_any error a b result (inr (real, inr h)) = inr (inl h.0)

-- a command on a loaded source
module _ (c : Call) (name : List ℕ) (options : Options) (bytes : List ℕ) (loads : Loads c.before.held name MOST_BYTES bytes) where
  abbrev pub was_read : (command : Command) → Asks c.words (on_source command name options) → (program : Program) → IsRead bytes program → WasRead c command
  was_read command asks program accepted = record { name = name; options = options; bytes = bytes; program = program; asked = asks; loaded = loads; accepted = accepted }

  -- a source that is promised is accepted
  accepted_as : (command : Command) → Asks c.words (on_source command name options) → (p : IsPromised c) → IsRead bytes p.program
  accepted_as command asked p =
      let same = one_name c.words command p.command name p.name options p.options asked p.asked in
      let P : List ℕ → Type 0 = λ n. Loads c.before.held n MOST_BYTES bytes in
      let is = loaded c.before.held p.at MOST_BYTES p.name p.all bytes p.told p.there (subst P same loads) in
      let Q : List ℕ → Type 0 = λ s. IsRead s p.program in
      subst Q (sym is) p.accepted

  -- ---- a refused source

  module _ (command : Command) (error : SourceError) (asked : Asks c.words (on_source command name options)) (cause : IsRefused bytes error) (no_run : c.schedule ≡ []) where
    pub refused_so : Refuses error c.before.io.written c.after.io.written c.before.io.writes c.after.io.writes c.status → c.status ≡ 1 → WasRefused c
    refused_so (inl h) is = absurd (omega (arith, h.0))
    refused_so (inr (real, inl h)) is = record { command = command; name = name; options = options; bytes = bytes; error = error; asked = asked; loaded = loads; fault = real; cause = cause; no_program = λ p r. absurd (real (read_or_refused bytes p error r cause)); written = h.1 }
    refused_so (inr (real, inr h)) is = absurd (omega (arith, h.0))

    pub refused_unwritten : IsUnread c.before.io c.after.io → Refuses error c.before.io.written c.after.io.written c.before.io.writes c.after.io.writes c.status → c.status ≡ 4 → WriteFailed c
    refused_unwritten same (inl h) is = absurd (omega (arith, h.0))
    refused_unwritten same (inr (real, f)) is =
        let t = same_input c.before.io.left c.after.io.left same.left in
        write_failed c t.0 1 (refused error) t.1 (refused_source command name options bytes error asked loads real cause no_run) (λ e. omega arith) f is

    pub refused_out : c.after.held ≡ c.before.held → Refuses error c.before.io.written c.after.io.written c.before.io.writes c.after.io.writes c.status → c.status ≡ 5 → MemoryRanOut c
    refused_out kept (inl h) is = early kept no_run h.1
    refused_out kept (inr (real, inl h)) is = absurd (omega (arith, h.0))
    refused_out kept (inr (real, inr h)) is = absurd (omega (arith, h.0))

    -- a source that is promised is not refused
    pub refused_complete : Refuses error c.before.io.written c.after.io.written c.before.io.writes c.after.io.writes c.status → IsPromised c → (c.status ≡ 0) ⊎ (c.status ≡ 5)
    refused_complete (inl h) p = inr h.0
    refused_complete (inr (real, f)) p =
        absurd (real (read_or_refused bytes p.program error (accepted_as command asked p) cause))

  -- ---- `flow`

  module _ (asked : Asks c.words (on_source Flow name options)) (program : Program) (accepted : IsRead bytes program) where
    whole_as : WasTold program options c.schedule c.before.io c.after.io c.status → IsEnd c.status → RanWhole c
    whole_as t e =
        let w = talks_whole (known_of program options c.schedule) (summary_of_run program options c.schedule) c.before.io c.after.io c.status t.talks (inl e) in
        record {
          read = was_read Flow asked program accepted;
          commands = w.commands;
          whole = t.whole;
          told = w.told;
          unread = w.unread;
          status_is = w.status_is;
          written = w.written;
          agreeing = of_agreeing program options c.schedule w.commands;
        }

    pub flow_whole : Flows program options c.schedule c.before.io c.after.io c.status → IsEnd c.status → RanWhole c
    flow_whole (inl h) is = absurd (end_not_5 c.status h.0 is)
    flow_whole (inr t) is = whole_as t is

    pub flow_broken : Flows program options c.schedule c.before.io c.after.io c.status → c.status ≡ 3 → ReadFailed c
    flow_broken (inl h) is = absurd (omega (arith, h.0))
    flow_broken (inr t) is = input_failed (was_read Flow asked program accepted) t.whole (talks_broken (known_of program options c.schedule) (summary_of_run program options c.schedule) c.before.io c.after.io c.status t.talks is)

    pub flow_unwritten : Flows program options c.schedule c.before.io c.after.io c.status → c.status ≡ 4 → WriteFailed c
    flow_unwritten (inl h) is = absurd (omega (arith, h.0))
    flow_unwritten (inr t) is =
        let u = talks_unwritten (known_of program options c.schedule) (summary_of_run program options c.schedule) c.before.io c.after.io c.status t.talks is in
        output_failed u.commands (out_of program options c.schedule u.commands) u.rose u.told
        (for_flow (was_read Flow asked program accepted) t.whole) u.written

    pub flow_out : c.after.held ≡ c.before.held → Flows program options c.schedule c.before.io c.after.io c.status → c.status ≡ 5 → MemoryRanOut c
    flow_out kept (inl h) is = early kept h.1.no_run h.1.written
    flow_out kept (inr t) is =
        let cut = talks_cut_off (known_of program options c.schedule) (summary_of_run program options c.schedule) c.before.io c.after.io c.status t.talks is in
        in_flow (was_read Flow asked program accepted) cut.commands t.whole cut.told cut.written

    pub flow_any : Flows program options c.schedule c.before.io c.after.io c.status → IsIn c.status (0 ∷ 7 ∷ 8 ∷ 3 ∷ 4 ∷ 5 ∷ [])
    flow_any f = flows_in program options c.schedule c.before.io c.after.io c.status f

    pub flow_complete : Flows program options c.schedule c.before.io c.after.io c.status → IsPromised c → (c.status ≡ 0) ⊎ (c.status ≡ 5)
    flow_complete (inl h) p = inr h.0
    flow_complete (inr u) p =
        let f = p.fine (sym (one_command c.words Flow p.command name p.name options p.options asked p.asked)) in
        talks_fine (known_of program options c.schedule) (summary_of_run program options c.schedule) c.before.io c.after.io c.status f.commands f.rest u.talks f.told f.told_still (f.fine (known_of program options c.schedule) (no_failure program options c.schedule)) f.no_read_fault p.no_write_fault

  -- ---- `show`

  module _ (asked : Asks c.words (on_source Show name options)) (program : Program) (accepted : IsRead bytes program) where
    pub show_done : Shows program options c.schedule c.before.io c.after.io c.status → c.status ≡ 0 → WasDone c
    show_done (inl h) is = absurd (omega (arith, h.0))
    show_done (inr (none, inl h)) is = shown (was_read Show asked program accepted) none h.1
    show_done (inr (none, inr h)) is = absurd (omega (arith, h.0))

    pub show_unwritten : IsUnread c.before.io c.after.io → Shows program options c.schedule c.before.io c.after.io c.status → c.status ≡ 4 → WriteFailed c
    show_unwritten same (inl h) is = absurd (omega (arith, h.0))
    show_unwritten same (inr (none, f)) is =
        let t = same_input c.before.io.left c.after.io.left same.left in
        let text = table_of program (plan_of program options.policy) in
        write_failed c t.0 0 text t.1 (for_show (was_read Show asked program accepted) none) (λ e. omega arith) f is

    pub show_out : c.after.held ≡ c.before.held → Shows program options c.schedule c.before.io c.after.io c.status → c.status ≡ 5 → MemoryRanOut c
    show_out kept (inl h) is = early kept h.1.no_run h.1.written
    show_out kept (inr (none, inl h)) is = absurd (omega (arith, h.0))
    show_out kept (inr (none, inr h)) is = absurd (omega (arith, h.0))

    pub show_any : Shows program options c.schedule c.before.io c.after.io c.status → IsIn c.status (0 ∷ 4 ∷ 5 ∷ [])
    show_any (inl h) = inr (inr (inl h.0))
    show_any (inr (none, inl h)) = inl h.0
    show_any (inr (none, inr h)) = inr (inl h.0)

    pub show_complete : Shows program options c.schedule c.before.io c.after.io c.status → IsPromised c → (c.status ≡ 0) ⊎ (c.status ≡ 5)
    show_complete (inl h) p = inr h.0
    show_complete (inr (none, inl h)) p = inl h.0
    show_complete (inr (none, inr h)) p = absurd (p.no_write_fault h.1)
