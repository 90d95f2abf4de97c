-- What the last split has of each interval, by what it is at a step and by the steps to come.
use Rattle.std.proofs.Common.{◌≡◌, ℕ, ◌+◌, List, [], ◌∷◌, ◌++◌, length, Option, Some, None, refl, subst}
use Rattle.std.proofs.lemmas.Option.{none-some}
use Rattle.std.specs.Prelude.{fold, slice_get, ⊤}
use Rattle.ppd_ast.specs.declared.plan.Plan.{Plan}
use Rattle.ppd_ast.specs.declared.program.Program.{Program}
use Rattle.ppd_ast.specs.declared.status.Status.{Status}
use Rattle.ppd_sem.specs.declared.proc.Need.{Need}
use Rattle.ppd_sem.specs.declared.proc.Need.TheVariants.{Read, Write, Plain, Enter, Leave, Invoke, Back, P, V, Send, Offer, Done, Recv, End, Trap, Budget, Stopped}
use Rattle.ppd_sem.specs.declared.proc.Proc.{Proc}
use Rattle.ppd_model.specs.declared.flow.Item.{Item}
use Rattle.ppd_model.specs.declared.tracing.Story.{Story}
use Rattle.ppd_model.specs.FullTrace.{trace_step}
use Rattle.ppd_model.specs.Intervals.{Part, Span, Split, items_of, nested, split_step}
use Rattle.ppd_model.specs.Logs.{status_of}
use Rattle.ppd_model.specs.Story.{Moment, steps_of}
use Rattle.ppd_model.proofs.Extents.{Fall}
use Rattle.law_steps.specs.Coming.Pieces.{After, Coming, Inner, coming, own_ends}
use Rattle.law_steps.specs.Coming.Openings.{Opening, coming_in, opening}
use Rattle.law_steps.proofs.Spans.Grown.{IsGrown}
use Rattle.law_steps.proofs.Spans.SpanBody.{IsOwnStep}
use Rattle.law_steps.proofs.Spans.SpanSteps.{SpanAt, SpanPast}

-- ---- steps and stops

-- no step is one of a process that has stopped
abbrev pub IsLive : List Moment → Type 0
IsLive [] = ⊤
IsLive (m ∷ ms) = (m.taken.need ≡ Stopped → ⊥) × IsLive ms

-- a step is the interval's own, a stop for the budget, or none
pub data Sorts : Need → Type 0 where
  does : {n : Need} → IsOwnStep n → Sorts n
  stops : Sorts Budget
  rests : Sorts Stopped

pub sort : (n : Need) → Sorts n
sort (Read c) = does tt
sort (Write c v) = does tt
sort Plain = does tt
sort (Enter b u) = does tt
sort (Leave b u) = does tt
sort (Invoke b u) = does tt
sort (Back b u) = does tt
sort (P s u) = does tt
sort (V s u) = does tt
sort (Send c v u) = does tt
sort (Offer c v) = does tt
sort (Done c u) = does tt
sort (Recv c u) = does tt
sort (End b) = does tt
sort (Trap t) = does tt
sort Budget = stops
sort Stopped = rests

-- a step of its own that ends the process is an item as it says, and counts
pub record CountsAs (items : List Item) (c : Coming) : Type 0 where
  pub items_are : c.items ≡ items
  pub steps_are : c.steps ≡ 1

pub ends_counted : (n : Need) → IsOwnStep n → (s : Status) → status_of n ≡ Some s → (items : List Item) (m : Moment) (next since : ℕ) (after : After) → CountsAs items (own_ends items m next since (Some s) after)
ends_counted (Trap t) o s e items m next since after = subst (λ x. CountsAs items (own_ends items m next since x after)) e (record { items_are = refl; steps_are = refl })
ends_counted (End b) o s e items m next since after = subst (λ x. CountsAs items (own_ends items m next since x after)) e (record { items_are = refl; steps_are = refl })
ends_counted Budget o s e items m next since after = absurd o
ends_counted n o s e items m next since after = absurd (none-some s e)

-- ---- the goals

module _ (program : Program) (plan : Plan) (story : Story) (p : ℕ) where
  -- the split after these moments
  abbrev pub final : Split → List Moment → Split
  final x ms = fold (split_step program plan story p) x (steps_of ms)

  pub final_trace : (ms : List Moment) (x : Split) → (final x ms).trace ≡ fold (trace_step program plan story p) x.trace (steps_of ms)
  final_trace [] x = refl
  final_trace (m ∷ ms) x = final_trace ms (split_step program plan story p x m.taken)

  -- the interval that an opening began, in the last split
  pub record NewSpan (last : Split) (k : ℕ) (op : Opening) (o : Option Span) : Type 0 where
    pub now : Span
    pub there : o ≡ Some now
    pub block : now.block ≡ op.mark.block
    pub items : items_of last now ≡ (coming_in program plan k op).items
    pub all_steps : now.steps ≡ (coming_in program plan k op).steps

  abbrev pub Begins : Split → ℕ → Option Opening → Option Span → Type 0
  Begins last k None o = o ≡ None
  Begins last k (Some op) o = NewSpan last k op o

  -- what the last split has; n intervals run, in a split with these spans and running numbers
  pub record Comes (spans : List Span) (running : List ℕ) (s : Proc) (ms : List Moment) (last : Split) (n : ℕ) : Type 0 where
    pub own : (k : ℕ) (i : Span) (next since : ℕ) → length running ≡ n → length spans ≡ next → SpanAt spans running None k i
        → IsGrown last i.parts i.steps i.block (coming program plan s ms None next since) (slice_get last.spans k)
    pub inner : (j : Inner) (k : ℕ) (i : Span) (ps : List Part) (next since : ℕ) → length running ≡ n → length spans ≡ next → i.parts ≡ ps ++ nested j.interval ∷ [] → SpanAt spans running (Some j) k i
        → IsGrown last ps i.steps i.block (coming program plan s ms (Some j) next since) (slice_get last.spans k)
    pub past : (k : ℕ) (i : Span) → length running ≡ n → SpanPast spans running k i → slice_get last.spans k ≡ Some i
    pub begins : (q next : ℕ) → length running ≡ n → length spans ≡ next → Fall (length spans) running → Begins last (next + q) (opening program plan s ms q) (slice_get last.spans (next + q))

  -- nothing comes
  pub record Stops (y : Split) (s : Proc) (ms : List Moment) : Type 0 where
    pub still : final y ms ≡ y
    pub none : (q : ℕ) → opening program plan s ms q ≡ None
