use Rattle.std.proofs.Common.{◌≡◌, ◌+◌, None, refl, ap, subst, arith}
use Rattle.std.proofs.lemmas.Result.{err_from_is_err_and}
use Rattle.ppd_index.specs.Refusals.{IsRefused, refusal}
use Rattle.ppd_index.specs.Spending.{still_open}
use Rattle.ppd_index.specs.Tables.{standing_in, table_step, tabled}
use Rattle.ppd_index.proofs.Found.{found_end, found_next, refused_at, rows_next}
use Rattle.ppd_index.proofs.build.take_all.Goals as goal

pub returns-in_err-take_entry-clause-refused : goal.returns-in_err-take_entry-clause-refused
returns-in_err-take_entry-clause-refused g c =
    let e = err_from_is_err_and c.from_residual-in_err-take_entry.result c.from_residual-in_err-take_entry.ensures.1 in
    rw (e.1, e.2) (refused_at c.args.program.now c.args.plan.now c.args.process c.args.entries.now c.loop-i.i c.index-entries-i.result (tabled c.loop-i.i c.loop-i.table) c.loop-i.ended c.in_err-take_entry.field-0.0 c.loop-i-test.true c.index-entries-i.is c.loop-i.invariant.found
    (subst (λ n. IsRefused (refusal c.args.plan.now (c.args.program.now.functions + c.args.process) c.args.process (standing_in c.loop-i.ended (tabled n c.loop-i.table)) c.index-entries-i.result) c.in_err-take_entry.field-0.0) c.in_ok-n.ensures.value c.in_err-take_entry.ensures.refused))

pub loop-i-preserved : goal.loop-i-preserved
loop-i-preserved g c =
    let body = c.args.program.now.functions + c.args.process in
    let t = tabled c.loop-i.i c.loop-i.table in
    let now = tabled (c.loop-i.i + 1) c.take_entry.new.table in
    let e = c.index-entries-i.result in
    let step : now ≡ table_step c.args.plan.now t e =
    subst (λ n. tabled (n + 1) c.take_entry.new.table ≡ table_step c.args.plan.now (tabled n c.loop-i.table) e) c.in_ok-n.ensures.value c.in_ok-take_entry.ensures.table in
    let none : refusal c.args.plan.now body c.args.process (standing_in c.loop-i.ended t) e ≡ None =
    subst (λ n. refusal c.args.plan.now body c.args.process (standing_in c.loop-i.ended (tabled n c.loop-i.table)) e ≡ None) c.in_ok-n.ensures.value c.in_ok-take_entry.ensures.passed in
    let over = ap (λ b. still_open b now.running) c.is_over-ended.ensures in
    record {
      rows = rows_next c.args.plan.now c.args.entries.now c.loop-i.i e t now c.loop-i-test.true c.index-entries-i.is step c.loop-i.invariant.rows;
      found = found_next c.args.plan.now body c.args.process c.args.entries.now c.loop-i.i e t now c.loop-i.ended c.is_over-ended.result c.loop-i-test.true c.index-entries-i.is step c.is_over-ended.ensures none c.loop-i.invariant.found;
      least = omega (arith, c.tick.ensures, c.in_ok-take_entry.ensures.least, c.loop-i.invariant.least);
      spent = omega (arith, over, c.tick.ensures, c.in_ok-take_entry.ensures.cost, c.loop-i.invariant.spent);
    }

pub returns-clause-passed : goal.returns-clause-passed
returns-clause-passed g c = found_end c.args.program.now c.args.plan.now c.args.process c.args.entries.now c.loop-i.i (tabled c.loop-i.i c.loop-i.table) c.loop-i.ended refl c.loop-i-test.false c.loop-i.auto.i-end c.loop-i.invariant.found
