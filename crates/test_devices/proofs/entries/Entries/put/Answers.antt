use Rattle.std.proofs.Common.{◌≡◌, map, arith, ap, ◌∙◌}
use Rattle.std.specs.String.{string_bytes}
use Rattle.test_devices.proofs.EntryPlaces.{put_shown, put_new}
use Rattle.test_devices.proofs.entries.Entries.put.Goals as goal

pub returns-then-place-len-clause-ok : goal.returns-then-place-len-clause-ok
returns-then-place-len-clause-ok c =
    put_shown _ (λ e. (string_bytes e.name, e.bytes.items)) _ c.self.inside.all.items _ c.place-place.result c.index_mut.result.now _ c.args.bytes.now c.self.view_is c.place-place.ensures (omega (arith, c.self.inside.all.ok.0)) c.index_mut.ensures.value (ap (λ b. (string_bytes c.index_mut.result.now.name, b)) c.in-Ok.ensures.items)

pub returns-clause-ok : goal.returns-clause-ok
returns-clause-ok c =
    let n : string_bytes c.in-Ok-from_str.name ≡ c.args.name.now = c.in-Ok-from_str.ensures.ok in
    let b : c.in-Ok.bytes.items ≡ c.args.bytes.now = c.in-Ok.ensures.items in
    ap (λ es. map (λ e. (string_bytes e.name, e.bytes.items)) es) c.in-Ok-push.ensures.items ∙ put_new _ (λ e. (string_bytes e.name, e.bytes.items)) _ c.self.inside.all.items _ c.place-place.result _ c.args.bytes.now c.self.view_is c.place-place.ensures (omega (arith, c.self.inside.all.ok.0)) (cc)
