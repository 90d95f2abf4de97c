use Rattle.std.proofs.Common.{Ok, Err, subst, sym, refl}
use Rattle.ppd_clean.specs.declared.clean_error.CleanError.{CleanError}
use Rattle.ppd_clean.specs.Answers.{AreItems}
use Rattle.ppd_clean.proofs.Found.{items_failed, items_found}
use Rattle.ppd_flow_past.proofs.Found.{found_alone, found_failed}
use Rattle.ppd_clean.proofs.cleaning.items_of.Goals as goal

pub returns-in-Ok : goal.returns-in-Ok
returns-in-Ok g c =
    items_found c.args.past.now c.args.asked.now (Ok c.in-Ok.items) _ _
    (found_alone c.args.past.now c.args.asked.now.process c.args.asked.now.interval (Ok c.in-Ok.items)
    c.in-Ok.ensures.is)
    c.in-Ok.items refl

pub returns-in-Err : goal.returns-in-Err
returns-in-Err g c =
    subst (λ (e : CleanError). AreItems c.args.past.now c.args.asked.now (Err e)) (sym c.of_flow.ensures)
    (items_failed c.args.past.now c.args.asked.now c.in-Err.error 0 0
    (found_failed c.args.past.now c.args.asked.now.process c.args.asked.now.interval 0 0 _ c.in-Err.error
    c.in-Err.ensures.is))
