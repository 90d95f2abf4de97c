-- By the clauses of the top call the headline holds of each run that a call tells of.
use Rattle.ppd_top.specs.declared.loads.TheConstants.{MOST_BYTES, MOST_RECORDING}
use Rattle.std.proofs.Common.{◌≡◌, ◌⊎◌, ℕ, List, [], Option, Some, arith, inl, inr, refl, ap, sym, subst, take, ◌∙◌}
use Rattle.std.proofs.lemmas.Option.{same_Some}
use Rattle.ppd_ast.specs.declared.program.Program.{Program}
use Rattle.ppd_check.specs.Read.{HaveOneProgram, IsRead}
use Rattle.ppd_io.specs.Content.{Loads}
use Rattle.ppd_top_commands.specs.Commands.{known_of}
use Rattle.ppd_top.specs.Ran.{Options}
use Rattle.ppd_top.specs.Call.{Call}
use Rattle.ppd_top.specs.Clauses.{IsOutcome, IsPromised, RanWhole, WasAnswered, WasDone}
use Rattle.ppd_top.specs.Clauses.WasDone.{answered as done_answered, drilled as done_drilled, queried as done_queried, ran as done_ran, shown as done_shown, stored as done_stored}
use Rattle.ppd_top_requests.specs.Words.{Request, asked}
use Rattle.ppd_top_requests.specs.Words.Request.{on_source, on_recording, on_number, on_query}
use Rattle.ppd_top_requests.specs.Words.Command.{Flow, Run as RunTo, Show}
use Rattle.ppd_top.specs.Promises.{AcceptedProgramsAreTold, AsksFlow, AsksLines, AsksRun, DebugTells, DebugTellsOfRuns, FlowTells, FlowTellsOfRuns, HasAnswered, IsRecorded, RecordedRunsAreTold, RunTells, RunTellsOfRuns, SourcesAreRecorded, promised_run}
use Rattle.law_headline.specs.Headline.{Headline}
use Rattle.law_headline.specs.OfRuns.{RunsHaveTheHeadline}
use Rattle.law_headline.specs.Runs.{Run}
use Rattle.ppd_top.proofs.Queried.{one_asked_name}

-- ---- words ask for one thing

abbrev kind_of : Request → ℕ
kind_of (on_source Flow name options) = 0
kind_of (on_source (RunTo recording) name options) = 1
kind_of (on_source Show name options) = 2
kind_of (on_recording name) = 3
kind_of (on_number n) = 4
kind_of (on_query name query) = 5

abbrev name_of : Request → List ℕ
name_of (on_source command name options) = name
name_of (on_recording name) = name
name_of (on_number n) = []
name_of (on_query name query) = name

one_kind : {o : Option Request} {x y : Request} → o ≡ Some x → o ≡ Some y → kind_of x ≡ kind_of y
one_kind {o} {x} {y} a b = ap kind_of (same_Some x y (sym a ∙ b))

one_name : {o : Option Request} {x y : Request} → o ≡ Some x → o ≡ Some y → name_of x ≡ name_of y
one_name {o} {x} {y} a b = ap name_of (same_Some x y (sym a ∙ b))

-- ---- and a told shelf holds one thing under a name

loaded_as : (held : Option (List ℕ → Option (List ℕ))) (at : List ℕ → Option (List ℕ)) (name named all bytes : List ℕ) (most : ℕ)
    → held ≡ Some at → at name ≡ Some all → named ≡ name → Loads held named most bytes → bytes ≡ take most all
loaded_as held at name named all bytes most told there same l =
    let w = subst (λ h. Loads h named most bytes) told l in
    w.2 ∙ ap (take most) (same_Some w.0 all (sym w.1 ∙ (ap at same ∙ there)))

-- ---- `flow`

abbrev run_by : List ℕ → Program → Options → List ℕ → Run
run_by source program options schedule =
    record { source = source; program = program; policy = options.policy; budget = options.budget; schedule = schedule }

module _ (holds : RunsHaveTheHeadline) (c : Call) (o : IsOutcome c) where
  ran : RanWhole c → FlowTells c
  ran w = record {
    name = w.read.name;
    options = w.read.options;
    run = run_by w.read.bytes w.read.program w.read.options c.schedule;
    known = known_of w.read.program w.read.options c.schedule;
    commands = w.commands;
    asked = w.read.asked;
    loaded = w.read.loaded;
    policy_is = refl;
    budget_is = refl;
    taken = refl;
    headline = holds (run_by w.read.bytes w.read.program w.read.options c.schedule) w.read.accepted w.whole;
    told = w.told;
    written = w.written;
    status_is = w.status_is;
  }

  answered : WasAnswered c → DebugTells c
  answered w = record {
    name = w.recalled.name;
    bytes = w.recalled.bytes;
    known = w.known;
    commands = w.commands;
    asked = w.recalled.asked;
    loaded = w.recalled.loaded;
    headline = λ run is.
        subst (Headline run)
        (sym (w.recalled.of_runs run.source (record { policy = run.policy; budget = run.budget }) run.program run.schedule is).0)
        (holds run is.accepted is.whole);
    told = w.told;
    written = w.written;
    status_is = w.status_is;
  }

  flow : AsksFlow c → HasAnswered c → FlowTells c
  flow a (inl is) = by (o.done is)
    where
      by : WasDone c → FlowTells c
      by (done_ran w) = ran w
      by (done_shown read none written) = let e : 0 ≡ 2 = one_kind a.2 read.asked in absurd (omega (arith, e))
      by (done_stored recording read bytes whole is_run kept others written) = let e : 0 ≡ 1 = one_kind a.2 read.asked in absurd (omega (arith, e))
      by (done_answered w) = let e : 0 ≡ 3 = one_kind a.2 w.recalled.asked in absurd (omega (arith, e))
      by (done_drilled number program asks read whole out is_out status_is written agreeing) = let e : 0 ≡ 4 = one_kind a.2 asks in absurd (omega (arith, e))
      by (done_queried w) = let e : 0 ≡ 5 = one_kind a.2 w.recalled.asked in absurd (omega (arith, e))
  flow a (inr s) = by (o.lines s)
    where
      by : RanWhole c ⊎ WasAnswered c → FlowTells c
      by (inl w) = ran w
      by (inr w) = let e : 0 ≡ 3 = one_kind a.2 w.recalled.asked in absurd (omega (arith, e))

  run : AsksRun c → c.status ≡ 0 → RunTells c
  run a is = by (o.done is)
    where
      by : WasDone c → RunTells c
      by (done_ran w) = let e : 1 ≡ 0 = one_kind a.3 w.read.asked in absurd (omega (arith, e))
      by (done_shown read none written) = let e : 1 ≡ 2 = one_kind a.3 read.asked in absurd (omega (arith, e))
      by (done_stored recording read bytes whole is_run kept others written) = record {
        name = read.name;
        recording = recording;
        options = read.options;
        run = run_by read.bytes read.program read.options c.schedule;
        known = known_of read.program read.options c.schedule;
        stored = bytes;
        asked = read.asked;
        loaded = read.loaded;
        policy_is = refl;
        budget_is = refl;
        taken = refl;
        headline = holds (run_by read.bytes read.program read.options c.schedule) read.accepted whole;
        is = is_run;
        kept = kept;
        written = written;
      }
      by (done_answered w) = let e : 1 ≡ 3 = one_kind a.3 w.recalled.asked in absurd (omega (arith, e))
      by (done_drilled number program asks read whole out is_out status_is written agreeing) = let e : 1 ≡ 4 = one_kind a.3 asks in absurd (omega (arith, e))
      by (done_queried w) = let e : 1 ≡ 5 = one_kind a.3 w.recalled.asked in absurd (omega (arith, e))

  debug : AsksLines c → HasAnswered c → DebugTells c
  debug a (inl is) = by (o.done is)
    where
      by : WasDone c → DebugTells c
      by (done_ran w) = let e : 3 ≡ 0 = one_kind a.1 w.read.asked in absurd (omega (arith, e))
      by (done_shown read none written) = let e : 3 ≡ 2 = one_kind a.1 read.asked in absurd (omega (arith, e))
      by (done_stored recording read bytes whole is_run kept others written) = let e : 3 ≡ 1 = one_kind a.1 read.asked in absurd (omega (arith, e))
      by (done_answered w) = answered w
      by (done_drilled number program asks read whole out is_out status_is written agreeing) = let e : 3 ≡ 4 = one_kind a.1 asks in absurd (omega (arith, e))
      by (done_queried w) = let e : 3 ≡ 5 = one_kind a.1 w.recalled.asked in absurd (omega (arith, e))
  debug a (inr s) = by (o.lines s)
    where
      by : RanWhole c ⊎ WasAnswered c → DebugTells c
      by (inl w) = let e : 3 ≡ 0 = one_kind a.1 w.read.asked in absurd (omega (arith, e))
      by (inr w) = answered w

  -- ---- what is promised

  -- the loaded source's program is the promised one
  one_program : HaveOneProgram → (p : IsPromised c) (name bytes : List ℕ) (program : Program) → name ≡ p.name → Loads c.before.held name MOST_BYTES bytes → IsRead bytes program → program ≡ p.program
  one_program unique p name bytes program same loaded read =
      let as_told = loaded_as c.before.held p.at p.name name p.all bytes MOST_BYTES p.told p.there same loaded in
      unique (take MOST_BYTES p.all) program p.program (subst (λ b. IsRead b program) as_told read) p.accepted

  programs : HaveOneProgram → (p : IsPromised c) → AsksFlow c → (c.status ≡ 5) ⊎ ((t : FlowTells c) × (t.run.program ≡ p.program))
  programs unique p a = by (o.complete p)
    where
      by : (c.status ≡ 0) ⊎ (c.status ≡ 5) → (c.status ≡ 5) ⊎ ((t : FlowTells c) × (t.run.program ≡ p.program))
      by (inl is) =
          let t = flow a (inl is) in
          inr (t, one_program unique p t.name t.run.source t.run.program (one_name t.asked p.asked) t.loaded t.headline.every_accepted_program)
      by (inr five) = inl five

  sources : HaveOneProgram → (p : IsPromised c) → AsksRun c → (c.status ≡ 5) ⊎ ((t : RunTells c) × (t.run.program ≡ p.program))
  sources unique p a = by (o.complete p)
    where
      by : (c.status ≡ 0) ⊎ (c.status ≡ 5) → (c.status ≡ 5) ⊎ ((t : RunTells c) × (t.run.program ≡ p.program))
      by (inl is) =
          let t = run a is in
          inr (t, one_program unique p t.name t.run.source t.run.program (one_name t.asked p.asked) t.loaded t.headline.every_accepted_program)
      by (inr five) = inl five

pub flow_tells : RunsHaveTheHeadline → FlowTellsOfRuns
flow_tells holds c o a s = flow holds c o a s

pub run_tells : RunsHaveTheHeadline → RunTellsOfRuns
run_tells holds c o a s = run holds c o a s

pub debug_tells : RunsHaveTheHeadline → DebugTellsOfRuns
debug_tells holds c o a s = debug holds c o a s

pub programs_told : RunsHaveTheHeadline → HaveOneProgram → AcceptedProgramsAreTold
programs_told holds unique c o p a = programs holds c o unique p a

pub sources_recorded : RunsHaveTheHeadline → HaveOneProgram → SourcesAreRecorded
sources_recorded holds unique c o p a = sources holds c o unique p a

pub runs_told : RunsHaveTheHeadline → RecordedRunsAreTold
runs_told holds c o p a = by (o.answers p)
  where
    by : (c.status ≡ 0) ⊎ (c.status ≡ 5) → (c.status ≡ 5) ⊎ ((t : DebugTells c) × Headline (promised_run c p) t.known)
    by (inl is) =
        let t = debug_tells holds c o a (inl is) in
        let as_told = loaded_as c.before.held p.at p.name t.name p.all t.bytes MOST_RECORDING p.told p.there (one_asked_name c.words t.name p.name (inl t.asked) p.asked) t.loaded in
        inr (t, t.headline (promised_run c p) (subst (IsRecorded (promised_run c p)) (sym as_told) p.of_run))
    by (inr five) = inl five
