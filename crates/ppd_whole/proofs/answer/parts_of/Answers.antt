use Rattle.std.proofs.Common.{◌≡◌, ◌∙◌, ℕ, List, length, map, ap, refl, sym}
use Rattle.std.specs.List.{flat_map, range_with_len}
use Rattle.std.proofs.lemmas.List.{length-map}
use Rattle.std.proofs.lemmas.Result.{IfOk-weaker}
use Rattle.ppd_sem.specs.declared.event.Event.{Event}
use Rattle.ppd_flow_past.specs.declared.past.Past.{Past}
use Rattle.law_flow.specs.Linked.{joined_trace}
use Rattle.ppd_flow.specs.SharedCells.{seens_in}
use Rattle.ppd_whole_origins.specs.Origins.{all_events}
use Rattle.ppd_whole.specs.Told.{told_at}
use Rattle.ppd_whole.specs.WholeText.{whole_text}
use Rattle.ppd_whole.proofs.Parts.{told_parts}
use Rattle.ppd_whole.proofs.Texts.{marked_by, told_of}
use Rattle.ppd_whole.proofs.answer.parts_of.Goals as goal

pub lines_of_all-requires-clause-linked : goal.lines_of_all-requires-clause-linked
lines_of_all-requires-clause-linked g c κs within = record {
  past = c.requires.past;
  marks = marked_by _ c.marks_are_writers.ensures c.in_ok-events.events.items c.deref.result.now c.deref-2.result.now c.in_ok-marks.marks.items c.deref-3.result.now _
      c.in_ok-events.ensures c.deref.ensures.value c.deref-2.ensures.value (c.if-not-are_few.ensures refl) c.in_ok-marks.ensures c.deref-3.ensures.value;
  writing = c.in_ok-writing.ensures;
}

pub returns : goal.returns
returns g c =
    let past : Past = c.args.past.now in
    let all : List (List Event) = map (λ es. map (λ e. e.now) es.items) c.deref-4.result.now in
    let count : ℕ = length c.deref-4.result.now in
    let long : count ≡ length all = sym (length-map c.deref-4.result.now (λ es. map (λ e. e.now) es.items)) in
    let same : all ≡ all_events past = ap (map (λ es. map (λ e. e.now) es.items)) c.deref-4.ensures.value ∙ c.in_ok-events.ensures in
    IfOk-weaker c.lines_of_all.result
    (λ parts. parts.items ≡ map (told_at past all) (range_with_len 0 count))
    (λ parts. flat_map (λ part. part) parts.items ≡ whole_text past.program.now (joined_trace past.program.now past.logs.now (seens_in past)))
    (λ parts h. told_parts past all count parts.items long h ∙ told_of past c.requires.past c.linkers_are_linked.ensures all same)
    c.lines_of_all.ensures
