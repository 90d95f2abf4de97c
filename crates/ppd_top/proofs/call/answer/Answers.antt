use Rattle.ppd_top_requests.proofs.Requested.{asks_drill, asks_query, asks_recording, asks_source}
use Rattle.ppd_top.proofs.Inputs.{recording_input, source_input}
use Rattle.ppd_top.proofs.call.answer.Goals as goal
use Rattle.ppd_top.specs.Ran.Comes.{drill_done}
use Rattle.ppd_top_requests.specs.Words.{command_of}
use Rattle.std.proofs.Common.{refl}

pub returns-in-Source-clause-comes : goal.returns-in-Source-clause-comes
returns-in-Source-clause-comes g c =
    c.on_source.ensures.comes c.args.words.now (asks_source c.args.words.now c.in-Ok.asked c.in-Ok.ensures.is c.in-Some.request c.in-Source.request (command_of c.in-Source.request.command) c.in-Some.is c.in-Source.is refl)

pub returns-in-Source-clause-input : goal.returns-in-Source-clause-input
returns-in-Source-clause-input g c = λ e.
    c.on_source.ensures.input (source_input c.args.words.now (command_of c.in-Source.request.command) c.in-Source.request.name.now c.in-Source.request.options c.on_source.result.status
    (asks_source c.args.words.now c.in-Ok.asked c.in-Ok.ensures.is c.in-Some.request c.in-Source.request (command_of c.in-Source.request.command) c.in-Some.is c.in-Source.is refl) e)

pub returns-in-Recording-clause-comes : goal.returns-in-Recording-clause-comes
returns-in-Recording-clause-comes g c =
    c.on_recording.ensures.comes c.args.words.now (asks_recording c.args.words.now c.in-Ok.asked c.in-Ok.ensures.is c.in-Some.request c.in-Recording.name c.in-Some.is c.in-Recording.is)

pub returns-in-Recording-clause-input : goal.returns-in-Recording-clause-input
returns-in-Recording-clause-input g c = λ e.
    absurd (recording_input c.args.words.now c.in-Recording.name.now c.on_recording.result.status
    (asks_recording c.args.words.now c.in-Ok.asked c.in-Ok.ensures.is c.in-Some.request c.in-Recording.name c.in-Some.is c.in-Recording.is) c.on_recording.ensures.status e)

pub returns-in-Drill-clause-comes : goal.returns-in-Drill-clause-comes
returns-in-Drill-clause-comes g c =
    drill_done c.in-Drill.number (asks_drill c.args.words.now c.in-Ok.asked c.in-Ok.ensures.is c.in-Some.request c.in-Drill.number c.in-Some.is c.in-Drill.is)
    (record { held = refl; stores = λ n. refl }) (record { left = refl; last = refl; reads = refl }) c.drill.ensures

pub returns-in-Query-clause-comes : goal.returns-in-Query-clause-comes
returns-in-Query-clause-comes g c =
    c.on_query.ensures c.args.words.now (g.I.Source.left c.args.input.now) (g.I.Source.before_last c.args.input.now) (g.I.Source.faults c.args.input.now)
    (asks_query c.args.words.now c.in-Ok.asked c.in-Ok.ensures.is c.in-Some.request c.in-Query.name c.in-Query.query c.in-Some.is c.in-Query.is)
