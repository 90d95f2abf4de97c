-- A run that can be told: its logs have an index and a graph, and what is told of it is of its schedule.
use Rattle.ppd_model.specs.Setting.{setting_of}
use Rattle.ppd_blocks.specs.Blocks.{plan_of}
use Rattle.ppd_race.specs.Races.{races_among, edges_of_logs}
use Rattle.std.specs.Prelude.{IfOk, IfErr, Result}
use Rattle.std.proofs.Common.{◌≡◌, ℕ, Ok, Err, List, ap, sym, ◌∙◌}
use Rattle.ppd_ast.specs.Valid.{IsValid}
use Rattle.ppd_ast.specs.declared.plan.Plan.{Plan}
use Rattle.ppd_ast.specs.declared.program.Program.{Program}
use Rattle.ppd_check.specs.Read.{IsRead}
use Rattle.ppd_model.specs.declared.closed.Closed.{Closed}
use Rattle.ppd_session.specs.Known.{Known, known_of_logs}
use Rattle.ppd_top_following.specs.declared.following.FollowError.{FollowError}
use Rattle.ppd_top_following.specs.declared.following.FollowError.TheVariants.{Refused, NotEnabled, NotWhole, LongLine, ManyLines, Memory}
use Rattle.ppd_top_commands.specs.Commands.{summary_of_run}
use Rattle.ppd_top_requests.specs.declared.options.Options.{Options}
use Rattle.ppd_top_commands.specs.Output.{Output, answers, before, output}
use Rattle.ppd_top_following.specs.Following.{FailsBy, IsClosed, RanTo, ScheduleFails, StopsAt}
use Rattle.ppd_top_commands.specs.Summary.{summary_of}
use Rattle.ppd_top.specs.Top.{out_of}
use Rattle.ppd_top_following.specs.Following.{EndsWith, Follows}
use Rattle.ppd_top.proofs.Agreeing.{of_agreeing}
use Rattle.ppd_top_commands.proofs.Told.{known_from, summary_from}

-- ---- by a schedule that is handed in

module _ (program : Program) (options : Options) (commands h : List ℕ) (plan : Plan) (closed : Closed) (valid : IsValid program) (p : plan ≡ plan_of program options.policy) (r : IsClosed program options h closed) where
  out_is : before (summary_of program closed.ends (races_among (edges_of_logs program closed.logs))) (answers (known_of_logs (setting_of program plan options.budget) closed.logs) commands) ≡ out_of program options h commands
  out_is =
      ap (λ text. before text (answers (known_of_logs (setting_of program plan options.budget) closed.logs) commands)) (summary_from program options closed h valid r.is)
      ∙ ap (λ (x : Known). before (summary_of_run program options h) (answers x commands)) (known_from program options plan closed h valid p r.whole r.is)

  ran_to : (text : List ℕ) → before (summary_of program closed.ends (races_among (edges_of_logs program closed.logs))) (answers (known_of_logs (setting_of program plan options.budget) closed.logs) commands) ≡ output 0 text → RanTo program options commands h text
  ran_to text e = record { whole = r.whole; is = sym out_is ∙ e }

  pub ran_ok : {T E : Type 0} (result : Result T E) (items : T → List ℕ)
      → IfOk result (λ t. before (summary_of program closed.ends (races_among (edges_of_logs program closed.logs))) (answers (known_of_logs (setting_of program plan options.budget) closed.logs) commands) ≡ output 0 (items t))
      → IfOk result (λ t. RanTo program options commands h (items t))
  ran_ok (Ok t) items e = ran_to (items t) e
  ran_ok (Err e) items k = tt

  ends_with : (status : ℕ) → (answers (known_of_logs (setting_of program plan options.budget) closed.logs) commands).status ≡ status → EndsWith program options commands h status
  ends_with status f = record {
    whole = r.whole;
    is = ap (λ (o : Output). o.status) (sym out_is) ∙ f;
    agreeing = of_agreeing program options h commands;
  }

  fails_by : (e : FollowError) → FailsBy (answers (known_of_logs (setting_of program plan options.budget) closed.logs) commands).status e → ScheduleFails program options commands h e
  fails_by (Refused error) f = absurd f
  fails_by (NotEnabled n) f = absurd f
  fails_by NotWhole f = absurd f
  fails_by LongLine f = ends_with 7 f
  fails_by ManyLines f = ends_with 8 f
  fails_by Memory f = tt

  pub fails_err : {T : Type 0} (result : Result T FollowError) → IfErr result (λ e. FailsBy (answers (known_of_logs (setting_of program plan options.budget) closed.logs) commands).status e) → IfErr result (λ e. ScheduleFails program options commands h e)
  fails_err (Ok t) f = tt
  fails_err (Err e) f = fails_by e f

-- a schedule that stops gives no text
pub stops : (program : Program) (options : Options) (commands h : List ℕ) (e : FollowError) → StopsAt program options h e → ScheduleFails program options commands h e
stops program options commands h (Refused error) s = absurd s
stops program options commands h (NotEnabled n) s = s
stops program options commands h NotWhole s = s
stops program options commands h LongLine s = absurd s
stops program options commands h ManyLines s = absurd s
stops program options commands h Memory s = tt

follows : (bytes : List ℕ) (options : Options) (commands h text : List ℕ) (program : Program) → IsRead bytes program → RanTo program options commands h text → Follows bytes options commands h text
follows bytes options commands h text program accepted ran = record {
  program = program;
  accepted = accepted;
  whole = ran.whole;
  is = ran.is;
  agreeing = λ none h' a. sym ran.is ∙ of_agreeing program options h commands none h' a;
}

pub follows_ok : {T E : Type 0} (bytes : List ℕ) (options : Options) (commands h : List ℕ) (program : Program) (r : Result T E) (items : T → List ℕ) → IsRead bytes program → IfOk r (λ t. RanTo program options commands h (items t)) → IfOk r (λ t. Follows bytes options commands h (items t))
follows_ok bytes options commands h program (Ok t) items accepted ran = follows bytes options commands h (items t) program accepted ran
follows_ok bytes options commands h program (Err e) items accepted ran = tt
