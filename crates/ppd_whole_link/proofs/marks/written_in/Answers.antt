use Rattle.std.proofs.Common.{◌≡◌, ◌∙◌, ◌<◌, ◌^◌, ℕ, List, [], Option, ap, get_or, arith}
use Rattle.std.specs.Prelude.{slice_get, unwrap_or}
use Rattle.ppd_model.specs.declared.trace.EventId.{EventId}
use Rattle.std.specs.FinMap.{get}
use Rattle.ppd_whole_link.specs.declared.marks.Marks.{Marks}
use Rattle.ppd_whole_link.specs.Marks.{written_if}
use Rattle.ppd_whole_link.proofs.Marked.{written_is}
use Rattle.ppd_whole_link.proofs.marks.written_in.Goals as goal

numbered : ℕ → ℕ → EventId
numbered p n = record { process = p; number = n }

pub returns : goal.returns
unfolding numbered
returns c = λ events are.
    let p : ℕ = c.args.process in
    let o : Option Marks = slice_get c.args.marks.now p in
    let less : c.args.edge < 2 ^ 32 = c.ranges.edge.fits in
    ap (numbered p) (c.number_or_none.ensures
    ∙ ap (λ (w : Option ℕ). unwrap_or w 0) (c.written_at-written.ensures ∙ ap (λ (k : ℕ). get (written_if o) k) c.key.ensures ∙ written_is (get_or events p []) o c.args.cell c.args.edge (are p) less))
