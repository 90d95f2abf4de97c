use Rattle.std.proofs.Common.{ap, ◌∙◌}
use Rattle.test_devices.specs.Entries.{find_entry}
use Rattle.test_devices.proofs.EntryPlaces.{find-put_same, find-put_other}
use Rattle.test_devices.proofs.memory.MemoryShelfShelf.store.Goals as goal

pub returns-clause-bytes : goal.returns-clause-bytes
returns-clause-bytes c =
    ap (λ es. find_entry es c.args.name.now) c.in_ok-put.ensures.ok ∙ find-put_same c.self.inside.entries c.args.name.now c.args.bytes.now

pub returns-clause-others : goal.returns-clause-others
returns-clause-others c = λ n ne.
    ap (λ es. find_entry es n) c.in_ok-put.ensures.ok ∙ (find-put_other c.self.inside.entries c.args.name.now c.args.bytes.now n ne ∙ ap (λ s. find_entry s.entries n) c.self.view_is)
