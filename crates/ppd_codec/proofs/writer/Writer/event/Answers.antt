use Rattle.std.specs.Int.{w32}
use Rattle.std.proofs.Common.{◌≡◌, ℕ, ◌++◌, ◌∷◌, [], ◌∙◌, ap, rules, FitsSigned, w64}
use Rattle.std.proofs.lemmas.Int.{to_z-of_z}
use Rattle.ppd_codec.specs.Form.{value, number}
use Rattle.ppd_codec_fields.specs.Fields.{kind_code}
use Rattle.ppd_codec.proofs.Writing.{link, on_ok}
use Rattle.ppd_codec.proofs.writer.Writer.event.Goals as goal

pub returns-clause-ok : goal.returns-clause-ok
returns-clause-ok g c =
    let k = kind_code c.args.kind in
    let o = c.args.object in
    let n0 = c.args.self.now.out.items in
    let n1 = c.two_bytes.new.self.out.items in
    let n2 = c.byte.new.self.out.items in
    let n3 = c.number_4.new.self.out.items in
    let n4 = c.value.new.self.out.items in
    let e1 : n1 ≡ n0 ++ 3 ∷ k ∷ [] = c.in_ok-two_bytes.ensures.ok ∙ ap (λ (b : ℕ). n0 ++ 3 ∷ b ∷ []) c.kind_code.ensures in
    let e2 : n2 ≡ n1 ++ o ∷ [] = c.in_ok-byte.ensures.ok in
    let e3 : n3 ≡ n2 ++ (number w32).bytes c.args.number = c.in_ok-number_4.ensures.ok in
    let v = c.args.value in
    let fits : FitsSigned w64 v = search rules in
    on_ok c.value.result
    (λ e.
    let e4 : n4 ≡ n3 ++ value.bytes v = simp to_z-of_z at e in
    link n0 (3 ∷ k ∷ []) n1 _ n4 e1 (link n1 (o ∷ []) n2 _ n4 e2 (link n2 ((number w32).bytes c.args.number) n3 _ n4 e3 e4)))
    c.value.ensures.ok
