use Rattle.ppd_top.specs.declared.loads.TheConstants.{MOST_BYTES}
use Rattle.std.proofs.Common.{Err, refl, ap, subst, sym, ◌∙◌, ◌≡◌}
use Rattle.ppd_check.specs.Read.{IsRead}
use Rattle.ppd_io.specs.Content.{Loads}
use Rattle.ppd_top.specs.Call.{call_of, devices}
use Rattle.ppd_top_commands.specs.Output.{standing}
use Rattle.ppd_top.specs.Ran.Comes.{refusal, flow_done, show_done, run_done}
use Rattle.ppd_top_requests.specs.Words.{Asks, command_of}
use Rattle.ppd_top_requests.specs.Words.Request.{on_source}
use Rattle.ppd_top.proofs.Outcomes.{flow_not_early}
use Rattle.ppd_top_commands.proofs.StoredRuns.{records_from}
use Rattle.ppd_top.proofs.Unloaded.{source_unloaded}
use Rattle.ppd_top.proofs.call.on_source.Goals as goal

pub returns-in-Err-clause-comes : goal.returns-in-Err-clause-comes
returns-in-Err-clause-comes g c = λ words asks.
    source_unloaded (call_of words (devices (g.F.Shelf.held c.args.shelf.now) (g.F.Shelf.failed_loads c.args.shelf.now) (g.F.Shelf.failed_stores c.args.shelf.now) (standing (g.I.Source.left c.args.input.now) (g.I.Source.before_last c.args.input.now) (g.I.Source.faults c.args.input.now) (g.O.Sink.written c.args.output.now) (g.O.Sink.faults c.args.output.now))) (devices (g.F.Shelf.held c.load.new.self) (g.F.Shelf.failed_loads c.load.new.self) (g.F.Shelf.failed_stores c.load.new.self) (standing (g.I.Source.left c.args.input.now) (g.I.Source.before_last c.args.input.now) (g.I.Source.faults c.args.input.now) (g.O.Sink.written c.args.output.now) (g.O.Sink.faults c.args.output.now))) c.unloaded.result.schedule c.unloaded.result.status) c.args.request.now.name.now (record { held = c.load.ensures.same; stores = c.load.ensures.stores })
    (record { no_run = c.unloaded.ensures.schedule; unread = record { left = refl; last = refl; reads = refl }; written = refl }) (command_of c.args.request.now.command) c.args.request.now.options c.in-Err.error asks (λ e. c.load.ensures.failed (c.in-Err.is ∙ ap Err e)) c.unloaded.ensures.status

pub returns-in-Err-read_source-clause-comes : goal.returns-in-Err-read_source-clause-comes
returns-in-Err-read_source-clause-comes g c = λ words asks.
    let loads : Loads (g.F.Shelf.held c.args.shelf.now) c.args.request.now.name.now MOST_BYTES c.deref.result.now = rw c.deref.ensures.value c.in-Ok.ensures.bytes in
    refusal (command_of c.args.request.now.command) c.args.request.now.name.now c.args.request.now.options c.deref.result.now c.in-Err-read_source.error asks loads c.in-Err-read_source.ensures.refused (record { held = c.load.ensures.same; stores = c.load.ensures.stores }) c.refuse.ensures.schedule (record { left = refl; last = refl; reads = refl }) c.refuse.ensures.refused

pub returns-in-Flow-clause-comes : goal.returns-in-Flow-clause-comes
returns-in-Flow-clause-comes g c = λ words asks.
    let loads : Loads (g.F.Shelf.held c.args.shelf.now) c.args.request.now.name.now MOST_BYTES c.deref.result.now = rw c.deref.ensures.value c.in-Ok.ensures.bytes in
    flow_done c.args.request.now.name.now c.args.request.now.options c.deref.result.now c.in-Ok-read_source.program (subst (λ d. Asks words (on_source d c.args.request.now.name.now c.args.request.now.options)) (ap command_of c.in-Flow.is) asks) loads c.in-Ok-read_source.ensures.read (record { held = c.load.ensures.same; stores = c.load.ensures.stores }) c.flow-outcome.ensures

pub returns-in-Flow-clause-input : goal.returns-in-Flow-clause-input
returns-in-Flow-clause-input g c = λ e. absurd (flow_not_early _ c.in-Ok-read_source.program c.args.request.now.options c.flow-outcome.result.schedule _ _ c.flow-outcome.result.status c.flow-outcome.ensures (λ n. n (ap command_of c.in-Flow.is)) e)

pub returns-in-Show-clause-comes : goal.returns-in-Show-clause-comes
returns-in-Show-clause-comes g c = λ words asks.
    let loads : Loads (g.F.Shelf.held c.args.shelf.now) c.args.request.now.name.now MOST_BYTES c.deref.result.now = rw c.deref.ensures.value c.in-Ok.ensures.bytes in
    show_done c.args.request.now.name.now c.args.request.now.options c.deref.result.now c.in-Ok-read_source.program (subst (λ d. Asks words (on_source d c.args.request.now.name.now c.args.request.now.options)) (ap command_of c.in-Show.is) asks) loads c.in-Ok-read_source.ensures.read (record { held = c.load.ensures.same; stores = c.load.ensures.stores }) (record { left = refl; last = refl; reads = refl }) (c.show-outcome.ensures (g.I.Source.left c.args.input.now) (g.I.Source.before_last c.args.input.now) (g.I.Source.faults c.args.input.now))

pub returns-clause-comes : goal.returns-clause-comes
returns-clause-comes g c = λ words asks.
    let bytes = c.deref-in-Run.result.now in
    let loads : Loads (g.F.Shelf.held c.args.shelf.now) c.args.request.now.name.now MOST_BYTES c.deref-in-Run.result.now = rw c.deref-in-Run.ensures.value c.in-Ok.ensures.bytes in
    let same : c.deref.result.now ≡ c.deref-in-Run.result.now = c.deref.ensures.value ∙ sym c.deref-in-Run.ensures.value in
    let read : IsRead c.deref-in-Run.result.now c.in-Ok-read_source.program = subst (λ b. IsRead b c.in-Ok-read_source.program) same c.in-Ok-read_source.ensures.read in
    run_done c.args.request.now.name.now c.in-Run.recording.now c.args.request.now.options c.deref-in-Run.result.now c.in-Ok-read_source.program (subst (λ d. Asks words (on_source d c.args.request.now.name.now c.args.request.now.options)) (ap command_of c.in-Run.is) asks) loads read (record { left = refl; last = refl; reads = refl })
    (records_from (g.F.Shelf.held c.args.shelf.now) (g.F.Shelf.held c.load.new.self) (g.F.Shelf.failed_stores c.args.shelf.now) (g.F.Shelf.failed_stores c.load.new.self) (g.O.Sink.written c.args.output.now) (g.O.Sink.faults c.args.output.now) _ c.record_run-outcome.result.status c.load.ensures.same c.load.ensures.stores c.deref-in-Run.result.now c.in-Ok-read_source.program c.args.request.now.options c.in-Run.recording.now c.record_run-outcome.result.schedule c.record_run-outcome.ensures)
