use Rattle.std.proofs.Common.{sym, List, ℕ, Bor}
use Rattle.ppd_parse.specs.declared.token.Kind.{Kind}
use Rattle.ppd_parse.proofs.Entries.{found, missed}
use Rattle.ppd_parse.proofs.text.kind_in.Goals as goal

abbrev name_of : Bor (List ℕ) × Kind → List ℕ
name_of entry = entry.0.now

abbrev kind_of : Bor (List ℕ) × Kind → Kind
kind_of entry = entry.1

pub returns-in-Some : goal.returns-in-Some
returns-in-Some c = sym (found c.args.text.now name_of kind_of c.args.table.now c.in-Some.index _ (sym c.in-Some.ensures))

pub returns-in-None : goal.returns-in-None
returns-in-None c = sym (missed c.args.text.now name_of kind_of c.args.table.now (sym c.in-None.ensures))
