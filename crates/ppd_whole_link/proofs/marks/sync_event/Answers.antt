use Rattle.std.proofs.Common.{◌≡◌, ◌∙◌, ℕ, List, [], ap, get_or}
use Rattle.std.specs.Prelude.{slice_get}
use Rattle.ppd_model.specs.declared.trace.EventId.{EventId}
use Rattle.ppd_whole_link.proofs.Marked.{syncs_are}
use Rattle.ppd_whole_link.proofs.marks.sync_event.Goals as goal

numbered : ℕ → ℕ → EventId
numbered p n = record { process = p; number = n }

pub returns : goal.returns
unfolding numbered
returns c = λ events are.
    let p : ℕ = c.args.node.process in
    ap (numbered p) (c.sync_number.ensures ∙ syncs_are (get_or events p []) (slice_get c.args.marks.now p) c.args.node.sync (are p))
