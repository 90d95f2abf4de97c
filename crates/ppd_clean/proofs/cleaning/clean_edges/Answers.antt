use Rattle.std.specs.Prelude.{get_or, []}
use Rattle.std.proofs.Common.{◌≡◌, ◌∙◌, ◌+◌, List, ap, sym, arith}
use Rattle.ppd_clean_past.specs.declared.asked.Asked.{Asked}
use Rattle.ppd_clean.specs.Answers.{IsCleanBy, IsOrdered}
use Rattle.ppd_clean.specs.ByOrder.{first_unclean}
use Rattle.ppd_clean_past.specs.ByOrder.{last_edge}
use Rattle.ppd_clean.specs.Firsts.{firsts_of}
use Rattle.ppd_clean.proofs.Answered.{answered_by}
use Rattle.ppd_clean.proofs.Missing.{sets_missed}
use Rattle.ppd_graph.specs.Ends.{first_edge}
use Rattle.ppd_flow_past.specs.declared.past.Past.{Past}
use Rattle.ppd_model.specs.declared.graph.EdgeId.{EdgeId}
use Rattle.ppd_clean.proofs.cleaning.clean_edges.Goals as goal

pub returns : goal.returns
returns g c =
    let past : Past = c.args.past.now in
    let asked : Asked = record { firsts = c.as_slice-2.result; process = c.args.process; interval = c.args.interval; item = c.args.item; first = c.first_unclean-first.result } in
    let sum : c.in_ok-begun.begun ≡ first_edge (get_or past.logs.now.lists c.args.process []) c.args.interval + 0 = c.in_ok-begun.ensures in
    let begun : c.in_ok-begun.begun ≡ first_edge (get_or past.logs.now.lists c.args.process []) c.args.interval = omega (arith, sum) in
    let found : IsOrdered past → IsCleanBy past c.args.races.now c.args.process c.args.interval c.args.item c.answered_from.result = λ ordered.
    answered_by past c.requires.past c.args.races.now c.requires.races ordered asked
    (c.as_slice-2.ensures ∙ c.in_ok-firsts.ensures ∙ ap (λ n. firsts_of c.args.races.now n) c.len.ensures)
    c.in_ok-begun.begun begun
    (c.first_unclean-first.ensures
    ∙ ap (λ (fs : List EdgeId). first_unclean past.graph.now fs c.args.process c.in_ok-begun.begun (last_edge past.logs.now c.args.process)) (c.as_slice.ensures ∙ sym c.as_slice-2.ensures))
    c.answered_from.result c.answered_from.ensures in
    record {
      found = found;
      run = c.cleans_are_of_runs.ensures past c.args.races.now c.args.process c.args.interval c.args.item c.answered_from.result c.requires.past.program_ok c.requires.races found;
      sets = λ ordered. sets_missed past c.args.races.now c.args.process c.args.interval c.args.item c.answered_from.result (found ordered);
    }
