use Rattle.std.specs.Int.{w16, w32}
use Rattle.std.proofs.Common.{◌≡◌, ◌++◌, ◌∷◌, []}
use Rattle.ppd_codec.specs.Form.{number}
use Rattle.ppd_codec.proofs.Writing.{link, on_ok}
use Rattle.ppd_codec.proofs.writer.Writer.front.Goals as goal

pub returns-clause-ok : goal.returns-clause-ok
returns-clause-ok g c =
    let v = c.args.version in
    let h = c.args.header.now in
    let n0 = c.args.self.now.out.items in
    let n1 = c.number_4.new.self.out.items in
    let n2 = c.byte.new.self.out.items in
    let n3 = c.number_4-2.new.self.out.items in
    let n4 = c.number_2.new.self.out.items in
    let n5 = c.number_2-2.new.self.out.items in
    let n6 = c.source.new.self.out.items in
    let e1 : n1 ≡ n0 ++ (number w32).bytes 0x5050_4452 = c.in_ok-number_4.ensures.ok in
    let e2 : n2 ≡ n1 ++ v ∷ [] = c.in_ok-byte.ensures.ok in
    let e3 : n3 ≡ n2 ++ (number w32).bytes h.budget = c.in_ok-number_4-2.ensures.ok in
    let e4 : n4 ≡ n3 ++ (number w16).bytes h.policy.leaf = c.in_ok-number_2.ensures.ok in
    let e5 : n5 ≡ n4 ++ (number w16).bytes h.policy.loops = c.in_ok-number_2-2.ensures.ok in
    on_ok c.source.result
    (λ e6. link n0 ((number w32).bytes 0x5050_4452) n1 _ n6 e1 (link n1 (v ∷ []) n2 _ n6 e2 (link n2 ((number w32).bytes h.budget) n3 _ n6 e3 (link n3 ((number w16).bytes h.policy.leaf) n4 _ n6 e4 (link n4 ((number w16).bytes h.policy.loops) n5 _ n6 e5 e6)))))
    c.source.ensures.ok
