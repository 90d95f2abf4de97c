-- The output of a schedule with no race is that of each schedule that agrees with it.
use Rattle.law_steps.specs.Policies.{setting_by}
use Rattle.std.proofs.Common.{◌≡◌, ℕ, List, ap, ◌∙◌}
use Rattle.ppd_ast.specs.declared.program.Program.{Program}
use Rattle.law_steps.proofs.Agreeing.{agreeing_histories, agreeing_stories}
use Rattle.ppd_model.specs.Logs.{close}
use Rattle.ppd_session.specs.Known.{Known, known_of_story}
use Rattle.ppd_top_commands.specs.Commands.{known_of, summary_of_run}
use Rattle.ppd_top_requests.specs.declared.options.Options.{Options}
use Rattle.ppd_top_commands.specs.Output.{answers, before}
use Rattle.ppd_top_commands.specs.Summary.{summary_of}
use Rattle.ppd_top.specs.Top.{IsOfAgreeing, out_of}

pub of_agreeing : (program : Program) (options : Options) (schedule commands : List ℕ) → IsOfAgreeing program options schedule commands (out_of program options schedule commands)
of_agreeing program options schedule commands = λ none h' a.
    let one = agreeing_stories (setting_by program options.policy options.budget) schedule h' a none in
    let all = agreeing_histories (setting_by program options.policy options.budget) schedule h' a none in
    let known : known_of program options schedule ≡ known_of program options h' = ap (known_of_story (setting_by program options.policy options.budget)) one in
    let summary : summary_of_run program options schedule ≡ summary_of_run program options h' =
    ap (λ es. summary_of program es (known_of program options schedule).races) all.all_ends
    ∙ ap (λ (x : Known). summary_of program (close (setting_by program options.policy options.budget) h').ends x.races) known in
    ap (λ text. before text (answers (known_of program options schedule) commands)) summary
    ∙ ap (λ (x : Known). before (summary_of_run program options h') (answers x commands)) known
