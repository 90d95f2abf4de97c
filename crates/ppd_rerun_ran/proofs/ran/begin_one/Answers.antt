use Rattle.std.proofs.Common.{◌≡◌, ℕ, IfOk, ap, subst, ◌∙◌}
use Rattle.ppd_sem.proofs.TableWords.{or_zero}
use Rattle.ppd_rerun_ran.specs.Holding.{begun_in}
use Rattle.ppd_rerun_ran.specs.Seeing.{seen}
use Rattle.ppd_rerun_ran.proofs.Runs.{zero_is}
use Rattle.ppd_rerun_ran.proofs.ran.begin_one.Goals as goal

pub returns : goal.returns
returns c =
    subst (λ (b : ℕ). IfOk c.new.result (λ held. seen held ≡ begun_in b))
    (c.unwrap_or-block.ensures ∙ zero_is c.find_block.result ∙ ap or_zero c.find_block.ensures) c.new.ensures
