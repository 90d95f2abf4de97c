use Rattle.std.proofs.Common.{◌<◌, ◌∙◌, Some, ap, length, reverse, subst, sym, ℕ}
use Rattle.std.proofs.lemmas.List.{get_or-reverse, length-reverse}
use Rattle.std.proofs.lemmas.Option.{slice_get-get_or}
use Rattle.ppd_flow_local.proofs.local.loop_at.Goals as goal

pub returns : goal.returns
returns c =
    let loops = c.args.loops.now in
    slice_get-get_or (reverse loops) c.args.place 0
    (subst (λ n. c.args.place < n) (sym (length-reverse loops)) c.requires)
    ∙ ap (λ (m : ℕ). Some m) (get_or-reverse loops c.args.place 0 c.requires)
