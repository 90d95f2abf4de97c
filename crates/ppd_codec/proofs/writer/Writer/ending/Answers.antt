use Rattle.std.proofs.Common.{◌≡◌, ℕ, ◌++◌, ◌∷◌, [], ◌∙◌, ap}
use Rattle.ppd_codec_fields.specs.Fields.{status_code}
use Rattle.ppd_codec.proofs.Writing.{link, on_ok}
use Rattle.ppd_codec.proofs.writer.Writer.ending.Goals as goal

pub returns-clause-ok : goal.returns-clause-ok
returns-clause-ok g c =
    let s = status_code c.args.status in
    let n0 = c.args.self.now.out.items in
    let n1 = c.two_bytes.new.self.out.items in
    let n2 = c.number_4.new.self.out.items in
    let e1 : n1 ≡ n0 ++ 5 ∷ s ∷ [] = c.in_ok-two_bytes.ensures.ok ∙ ap (λ (b : ℕ). n0 ++ 5 ∷ b ∷ []) c.status_code.ensures in
    on_ok c.number_4.result (λ e2. link n0 (5 ∷ s ∷ []) n1 _ n2 e1 e2) c.number_4.ensures.ok
