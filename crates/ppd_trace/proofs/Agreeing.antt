-- The trace of a schedule with no race is that of each schedule that agrees with it.
use Rattle.ppd_model.specs.Setting.{Setting}
use Rattle.std.proofs.Common.{ℕ, List, Ok, Err, ap, sym, ◌∙◌}
use Rattle.std.specs.Prelude.{Result}
use Rattle.ppd_model.specs.declared.trace.DriveError.{DriveError}
use Rattle.ppd_model.specs.declared.trace.Trace.{Trace}
use Rattle.ppd_model.specs.FullTrace.{full_trace}
use Rattle.law_steps.proofs.Agreeing.{agreeing_stories}
use Rattle.ppd_trace.specs.Traced.{IsTraceOf, IsTraceOfAgreeing}

pub of_agreeing : (setting : Setting) (h : List ℕ) (r : Result Trace DriveError) → IsTraceOf setting h r → IsTraceOfAgreeing setting h r
of_agreeing setting h (Ok t) is = λ h' a none.
    let same = agreeing_stories setting h h' a none in
    (sym same, is.1 ∙ ap (full_trace setting) same)
of_agreeing setting h (Err e) is = tt
