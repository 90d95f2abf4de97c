use Rattle.std.proofs.Common.{◌≡◌, ◌∙◌, ◌∷◌, ◌++◌, [], ℕ, ℤ, List, length, reverse, Option, Some, ap, sym, arith}
use Rattle.std.specs.Prelude.{slice_set}
use Rattle.std.proofs.lemmas.Int.{to_z-of_z}
use Rattle.ppd_emul_values.specs.Held.{looked_up}
use Rattle.ppd_model.specs.Replay.{value_in_force}
use Rattle.ppd_emul_values.proofs.Held.{put_found}
use Rattle.ppd_emul_values.proofs.in_force.InForce.put.Goals as goal

pub invariant_of-self-2 : goal.invariant_of-self-2
invariant_of-self-2 c d =
    let held : List (ℕ × ℤ) = c.self.inside.held in
    let places : List (Option ℕ) = c.make_room.new.places in
    let pushed : c.push.new.self ≡ held ++ (c.args.cell, c.args.value) ∷ [] = grind (arith, to_z-of_z) in
    let set : c.set.new.self ≡ slice_set places c.args.cell (Some (length held)) =
    c.set.ensures ∙ ap (λ n. slice_set places c.args.cell (Some n)) c.len-place.ensures in
    ap (λ p. looked_up p c.push.new.self d) set ∙
    ap (λ h. looked_up (slice_set places c.args.cell (Some (length held))) h d) pushed ∙
    put_found places held c.args.cell c.args.value c.in_ok-make_room.ensures.room (λ e. c.make_room.ensures.same held e ∙ c.self.invariant e) d ∙
    ap (λ h. value_in_force (reverse h) d) (sym pushed)
