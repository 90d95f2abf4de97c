-- What is lawful has counts that fit the fields of its counts.
use Rattle.std.specs.Prelude.{zero, suc, List, [], ◌∷◌}
use Rattle.std.specs.List.{All, AllByRecursion}
use Rattle.std.proofs.Common.{arith}
use Rattle.ppd_model.specs.declared.entry.Entry.{Entry}
use Rattle.ppd_model.specs.declared.entry.Entry.TheVariants as entry
use Rattle.ppd_codec.specs.declared.facts.Facts.{Facts}
use Rattle.ppd_codec.specs.Counted.{IsCounted, IsCountedLog}
use Rattle.ppd_codec.specs.Format.{an_entry, log}

each_of : {A : Type 0} {P Q : A → Type 0} → ((x : A) → P x → Q x) → (xs : List A) → AllByRecursion P xs → All Q xs
each_of h [] a k d l = absurd (omega (arith, l))
each_of h (x ∷ xs) a zero d l = h x a.0
each_of h (x ∷ xs) a (suc k) d l = each_of h xs a.1 k d (omega (arith, l))

counted : (f : Facts) (e : Entry) → (an_entry f).Lawful e → IsCounted e
counted f (entry.Prelog b vs) l = l.1.1.0
counted f (entry.Unit u vs) l = l.1.1.0
counted f (entry.Sync k o n v r w) l = (l.1.1.1.1.1.0.0, l.1.1.1.1.1.1.0)
counted f (entry.Postlog b vs) l = l.1.1.0
counted f (entry.End s n r w) l = (l.1.1.1.0.0, l.1.1.1.1.0)

pub counted_logs : (f : Facts) (ls : List (List Entry)) → AllByRecursion (log f).Lawful ls → All IsCountedLog ls
counted_logs f ls a = each_of {Q = IsCountedLog} (λ es l. record { entries = l.0; each = each_of {Q = IsCounted} (counted f) es l.1 }) ls a
