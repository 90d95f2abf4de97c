use Rattle.std.proofs.Common.{◌≡◌, map, arith}
use Rattle.std.specs.Prelude.{true, false}
use Rattle.std.specs.Str.{bytes_eq}
use Rattle.std.specs.String.{string_bytes}
use Rattle.test_devices.specs.Entries.{place_of}
use Rattle.test_devices.proofs.EntryPlaces.{place_found, place_passes, place_end}
use Rattle.test_devices.proofs.entries.Entries.place.Goals as goal

pub returns-then-eq : goal.returns-then-eq
returns-then-eq c =
    let test : bytes_eq (string_bytes c.entry-item.result.name) c.args.name.now ≡ true = cc in
    let found = place_found _ (λ e. (string_bytes e.name, e.bytes.items)) c.args.name.now c.deref-entry-items.result.now c.loop-place.place c.entry-item.result (omega arith) c.entry-item.is test in
    let whole : c.loop-place.place ≡ place_of (map (λ e. (string_bytes e.name, e.bytes.items)) c.deref-entry-items.result.now) c.args.name.now = omega (arith, found, c.loop-place.invariant) in
    rw (← c.self.view_is) (rw (c.deref-entry-items.ensures.value) at whole)

pub returns : goal.returns
returns c =
    let end = place_end _ (λ e. (string_bytes e.name, e.bytes.items)) c.args.name.now c.deref-entry-items.result.now c.loop-place.place (omega arith) in
    let whole : c.len.result ≡ place_of (map (λ e. (string_bytes e.name, e.bytes.items)) c.deref-entry-items.result.now) c.args.name.now = omega (arith, end, c.loop-place.invariant) in
    rw (← c.self.view_is) (rw (c.deref-entry-items.ensures.value) at whole)

pub loop-place-preserved : goal.loop-place-preserved
loop-place-preserved c =
    let test : bytes_eq (string_bytes c.entry-item.result.name) c.args.name.now ≡ false = cc in
    let passes = place_passes _ (λ e. (string_bytes e.name, e.bytes.items)) c.args.name.now c.deref-entry-items.result.now c.loop-place.place c.entry-item.result (omega arith) c.entry-item.is test in
    omega (arith, passes, c.loop-place.invariant)
