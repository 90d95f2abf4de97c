-- What answers as the replay of an interval's log gives the interval.
use Rattle.law_steps.specs.Policies.{setting_by}
use Rattle.ppd_model.specs.Setting.{setting_of}
use Rattle.std.proofs.Common.{◌≡◌, ℕ, Bool, true, false, List, [], Option, Some, None, Result, Ok, Err, refl, ap, sym, ◌∙◌, subst, true≢false}
use Rattle.std.specs.Prelude.{slice_get}
use Rattle.std.proofs.lemmas.Option.{none-some, same_Some}
use Rattle.ppd_ast.specs.declared.plan.Plan.{Plan}
use Rattle.ppd_ast.specs.declared.plan.Policy.{Policy}
use Rattle.ppd_ast.specs.declared.program.Program.{Program}
use Rattle.ppd_blocks.specs.Blocks.{plan_of}
use Rattle.ppd_model.specs.IntervalLogs.{IntervalLog}
use Rattle.ppd_model.specs.declared.flow.Item.{Item}
use Rattle.ppd_model.specs.Intervals.{Span, Split, items_of, splits}
use Rattle.ppd_model.specs.Story.{story}
use Rattle.ppd_model.specs.declared.block_trace.BlockTrace.{BlockTrace}
use Rattle.ppd_model.specs.declared.block_trace.EmulError.{EmulError}
use Rattle.ppd_model.specs.declared.block_trace.EmulError.TheVariants.{Diverged, Memory}
use Rattle.ppd_model.specs.Replay.{Replayed, replay}
use Rattle.law_steps.specs.Theorem.Laws.{EmulationsGiveIntervals, GivesInterval, GivesIntervalAt, IsAnswerOf, ReplaysGiveIntervals, modelled_in, modelled_of, replay_of}

-- an interval's items in its own steps
abbrev pub replayed : Split → Span → Replayed
replayed x i = record { steps = i.steps; answer = Ok (record { items = items_of x i }) }

abbrev items_in : Result BlockTrace EmulError → List Item
items_in (Ok trace) = trace.items
items_in (Err e) = []

abbrev is_ok : Result BlockTrace EmulError → Bool
is_ok (Ok trace) = true
is_ok (Err e) = false

gives : (x : Split) (i : Span) (before after : ℕ) (answer : Result BlockTrace EmulError)
    → IsAnswerOf (replayed x i) before after answer → GivesInterval x i before after answer
gives x i before after (Ok trace) a = (ap items_in a.0, a.1)
gives x i before after (Err Memory) a = tt
gives x i before after (Err (Diverged n w f)) a = absurd (true≢false (sym (ap is_ok a.0)))

module _ (program : Program) (policy : Policy) (budget : ℕ) (h : List ℕ) (p k : ℕ) (log : IntervalLog)
    (before after : ℕ) (answer : Result BlockTrace EmulError) where
  abbrev plan : Plan
  plan = plan_of program policy

  module _ (a : IsAnswerOf (replay program plan log budget) before after answer) where
    by_interval : (x : Split) → slice_get (splits (setting_of program plan budget) (story (setting_of program plan budget) h)) p ≡ Some x
        → (o : Option Span) → slice_get x.spans k ≡ o
        → Some (replay program plan log budget) ≡ modelled_of x o
        → GivesIntervalAt (setting_of program plan budget) h p k before after answer
    by_interval x e None f s = absurd (none-some (replay program plan log budget) (sym s))
    by_interval x e (Some i) f s = record {
      process = x;
      process_is = e;
      interval = i;
      interval_is = f;
      gives = gives x i before after answer
          (subst (λ r. IsAnswerOf r before after answer)
          (same_Some (replay program plan log budget) (replayed x i) s) a);
    }

    by_process : (o : Option Split) → slice_get (splits (setting_of program plan budget) (story (setting_of program plan budget) h)) p ≡ o
        → Some (replay program plan log budget) ≡ modelled_in k o
        → GivesIntervalAt (setting_of program plan budget) h p k before after answer
    by_process None e s = absurd (none-some (replay program plan log budget) (sym s))
    by_process (Some x) e s = by_interval x e (slice_get x.spans k) refl s

-- whatever answers as the replay gives the interval
pub emulations_by : ReplaysGiveIntervals → EmulationsGiveIntervals
emulations_by theorem program policy budget h p k log before after answer v whole free is a =
    by_process program policy budget h p k log before after answer a
    (slice_get (splits (setting_by program policy budget)
    (story (setting_by program policy budget) h)) p) refl
    (sym (ap (replay_of (setting_by program policy budget)) is) ∙ theorem program policy budget h p k v whole free)
