use Rattle.std.proofs.lemmas.Grind.{common_steps, elements}
use Rattle.std.proofs.Common.{◌∙◌, refl, arith, rules}
use Rattle.std.proofs.lemmas.Result.{err_from_is_err_and}
use Rattle.std.specs.Prelude.{⊤}
use Rattle.ppd_codec.specs.Reader.{several}
use Rattle.ppd_codec.specs.Format.{log, process_count}
use Rattle.ppd_codec.proofs.Several.{counted, no_more, one_more}
use Rattle.ppd_codec.proofs.cursor.Cursor.logs.Goals as goal

pub returns-in_err-item : goal.returns-in_err-item
returns-in_err-item g c =
    let e = err_from_is_err_and c.from_residual-in_err-item.result c.from_residual-in_err-item.ensures.1 in
    rw (e.1, e.2) (record {
      ok = search rules;
      err = λ m.
          counted ((process_count c.args.facts).read) (several (λ (t : ⊤). (log c.args.facts).read) (λ e. tt {0}) (tt {0})) _ _ _ _ _ c.in_ok-left.ensures.read.ok
          ∙ c.loop-left.invariant.reads
          ∙ no_more (λ (t : ⊤). (log c.args.facts).read) (λ e. tt {0}) (tt {0}) c.loop-left.left c.loop-left.self.at c.loop-left.self.rest.now c.loop-left.found c.in_err-item.field-0.0 (omega (arith, c.loop-left-test.true)) c.in_err-item.ensures.err m;
      within = omega (arith, c.loop-left.invariant.within, c.log.ensures.within);
      cost = omega (arith, c.loop-left.invariant.cost, c.log.ensures.cost);
    })

pub loop-left-preserved : goal.loop-left-preserved
loop-left-preserved g c = record {
  reads = c.loop-left.invariant.reads ∙ one_more (λ (t : ⊤). (log c.args.facts).read) (λ e. tt {0}) (tt {0}) _ c.loop-left.left c.loop-left.self.at _ c.loop-left.self.rest.now _ c.loop-left.found _ c.in_ok-item.item (omega (arith, c.loop-left-test.true)) c.in_ok-item.ensures.ok (refl) (c.in_ok-push.ensures.ok);
  within = omega (arith, c.loop-left.invariant.within, c.log.ensures.within);
  cost = omega (arith, c.loop-left.invariant.cost, c.log.ensures.cost);
}

pub branch-left-requires : goal.branch-left-requires
branch-left-requires c = search rules depth 1 fits 30

pub log-requires : goal.log-requires
log-requires c = search rules depth 1 fits 30

pub loop-left-init : goal.loop-left-init
loop-left-init c = grind (arith, elements) steps 250000

pub loop-left-smaller : goal.loop-left-smaller
loop-left-smaller c = grind (arith, common_steps) steps 250000

pub new-found-requires : goal.new-found-requires
new-found-requires c = search rules depth 1 fits 30

pub push-requires : goal.push-requires
push-requires c = search rules depth 1 fits 30

pub returns-in_err-left : goal.returns-in_err-left
returns-in_err-left c = grind (arith, elements) steps 250000

pub same-found-in-loop-left : goal.same-found-in-loop-left
same-found-in-loop-left c = search rules depth 1 fits 30
