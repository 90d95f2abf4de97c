use Rattle.std.proofs.Common.{Some, arith, ap, sym, ◌∙◌}
use Rattle.std.specs.String.{string_bytes}
use Rattle.test_devices.proofs.EntryPlaces.{find_shown, find_missing}
use Rattle.test_devices.proofs.entries.Entries.find.Goals as goal

pub returns-then-place-len : goal.returns-then-place-len
returns-then-place-len c =
    sym (find_missing _ (λ e. (string_bytes e.name, e.bytes.items)) _ c.self.inside.all.items _ c.place-place.result c.self.view_is c.place-place.ensures (omega (arith, c.self.inside.all.ok.0)))

pub returns : goal.returns
returns c =
    let found = find_shown _ (λ e. (string_bytes e.name, e.bytes.items)) _ c.self.inside.all.items _ c.place-place.result c.index.result.now c.self.view_is c.place-place.ensures (omega (arith, c.self.inside.all.ok.0)) c.index.ensures in
    ap Some c.deref.ensures.value ∙ sym found
