use Rattle.std.proofs.Common.{◌≡◌, ◌+◌, map, drop}
use Rattle.std.specs.String.{string_bytes}
use Rattle.test_devices.specs.Entries.{place_of}
use Rattle.test_devices.proofs.entries.Entries.place.Given as goal

abbrev pub invariant-loop-place : goal.invariant-loop-place
invariant-loop-place l =
    place_of (map (λ e. (string_bytes e.name, e.bytes.items)) l.entry-items) l.name ≡ l.place + place_of (map (λ e. (string_bytes e.name, e.bytes.items)) (drop l.place l.entry-items)) l.name
