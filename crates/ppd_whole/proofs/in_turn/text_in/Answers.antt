use Rattle.std.proofs.Common.{◌≡◌, ◌≤◌, ◌+◌, ◌∙◌, List, map, ap, refl, subst}
use Rattle.std.proofs.lemmas.Result.{IfOk-weaker}
use Rattle.ppd_sem.specs.declared.event.Event.{Event}
use Rattle.ppd_flow_past.specs.declared.past.Past.{Past}
use Rattle.law_flow.specs.Linked.{joined_trace}
use Rattle.ppd_flow.specs.SharedCells.{seens_in}
use Rattle.ppd_whole.specs.Costs.{lines_cost}
use Rattle.ppd_whole_origins.specs.Origins.{all_events}
use Rattle.ppd_whole.specs.WholeText.{whole_text}
use Rattle.ppd_whole.proofs.Texts.{marked_by, told_of}
use Rattle.ppd_whole.proofs.in_turn.text_in.Goals as goal

pub lines_in-requires : goal.lines_in-requires
lines_in-requires g c = record {
  past = c.requires.past;
  marks = marked_by _ c.marks_are_writers.ensures c.in_ok-events.events.items c.deref.result.now c.deref-2.result.now c.in_ok-marks.marks.items c.deref-3.result.now _
      c.in_ok-events.ensures c.deref.ensures.value c.deref-2.ensures.value (c.if-not-are_few.ensures refl) c.in_ok-marks.ensures c.deref-3.ensures.value;
  writing = c.in_ok-writing.ensures;
}

pub returns-clause-text : goal.returns-clause-text
returns-clause-text g c =
    let past : Past = c.args.past.now in
    IfOk-weaker c.lines_in.result _ (λ text. text.items ≡ whole_text past.program.now (joined_trace past.program.now past.logs.now (seens_in past))) (λ text h.
    h ∙ told_of past c.requires.past c.linkers_are_linked.ensures _ (ap (map _) c.deref-4.ensures.value ∙ c.in_ok-events.ensures)) c.lines_in.ensures.text

pub returns-clause-cost : goal.returns-clause-cost
returns-clause-cost g c =
    let past : Past = c.args.past.now in
    let same = ap (map _) c.deref-4.ensures.value ∙ c.in_ok-events.ensures in
    subst (λ (all : List (List Event)). c.lines_in.new.steps ≤ c.args.steps.now + lines_cost past all) same c.lines_in.ensures.cost
