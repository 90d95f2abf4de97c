use Rattle.ppd_model.specs.Setting.{setting_of}
use Rattle.std.proofs.Common.{ℕ, List, [], length, ap, sym, ◌∙◌, ◌++◌, None}
use Rattle.std.specs.Prelude.{replicate}
use Rattle.ppd_model.specs.declared.tracing.Taken.{Taken}
use Rattle.ppd_model.specs.FullTrace.{Tag}
use Rattle.ppd_world.specs.Running.{Running}
use Rattle.ppd_trace.proofs.Told.{tells_none}
use Rattle.ppd_trace.proofs.tellers.begin.Goals as goal

pub returns-in-Ok-clause-told : goal.returns-in-Ok-clause-told
returns-in-Ok-clause-told g c =
    let s = c.setting.inside in
    let n = c.process_count-count.result in
    let k = length c.cells-cells.result.now in
    let t = c.fill.new.self in
    let world = c.fill.ensures.world ∙ c.of_world-teller.ensures.world in
    rw (← c.setting.view_is)
    (tells_none (setting_of s.program.now s.plan.now s.budget) n k t.world t.counts t.writers t.steps.items
    (world ∙ c.in_ok-world.ensures.world) c.process_count-count.ensures
    (ap length c.cells-cells.ensures ∙ ap (λ (r : Running). length r.world.shared) (sym world))
    (c.in-Ok.ensures.counts ∙ ap (λ (l : List ℕ). l ++ replicate n 0) c.of_world-teller.ensures.counts)
    (c.in-Ok.ensures.writers ∙ ap (λ (l : List Tag). l ++ replicate k None) c.of_world-teller.ensures.writers)
    (c.in-Ok.ensures.steps ∙ ap (λ (l : List (List Taken)). l ++ replicate n []) c.of_world-teller.ensures.steps))
