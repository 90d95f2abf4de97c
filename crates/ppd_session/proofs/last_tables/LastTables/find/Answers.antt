use Rattle.ppd_session.proofs.LastTables.{found}
use Rattle.ppd_session.proofs.last_tables.LastTables.find.Goals as goal

pub returns-in-Some : goal.returns-in-Some
returns-in-Some c = λ past all. found past c.args.self.now c.in-Some.last c.args.place _ all c.in-Some.is c.at.ensures
