use Rattle.std.proofs.Common.{◌≡◌, ◌++◌, take}
use Rattle.std.specs.List.{flat_map}
use Rattle.ppd_text.specs.Items.{access_text}
use Rattle.ppd_text.proofs.items.put_each_access.Given as goal

abbrev pub invariant-loop-access : goal.invariant-loop-access
invariant-loop-access l =
    l.text.items
    ≡ l.initial.text.items ++ flat_map (access_text l.word l.program l.locals) (take l.access-index l.accesses)
