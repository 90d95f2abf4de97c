use Rattle.std.proofs.Common.{◌≡◌, ◌+◌, ◌-◌, ◌∷◌, length, drop, arith, ap, ◌∙◌}
use Rattle.std.proofs.lemmas.List.{length-reverse}
use Rattle.ppd_sem.proofs.Tops.{topped}
use Rattle.ppd_sem.proofs.stack.Stack.set_top.Goals as goal

pub returns : goal.returns
returns g c =
    let last : (c.len-top.result - 1) + 1 ≡ length c.self.inside.items.items = omega (arith, c.requires, ap length c.self.view_is, length-reverse c.self.inside.items.items) in
    topped c.self.inside.items.items (c.len-top.result - 1) c.args.item last ∙ ap (λ l. c.args.item ∷ drop 1 l) c.self.view_is
