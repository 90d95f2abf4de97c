-- What is to do at a loop's level stands in the loop.
use Rattle.std.proofs.Common.{◌≡◌, ℕ, ◌+◌, true, false, List, [], ◌∷◌, ◌++◌, None, refl, ap, sym, subst, ◌∙◌, append-nil, true≢false}
use Rattle.std.proofs.lemmas.Option.{none-some}
use Rattle.ppd_ast.specs.Valid.{IsValid}
use Rattle.ppd_ast.specs.declared.plan.BlockKind.{BlockKind}
use Rattle.ppd_ast.specs.declared.plan.BlockKind.TheVariants as block
use Rattle.ppd_ast.specs.declared.plan.Plan.{Plan}
use Rattle.ppd_ast.specs.declared.plan.Policy.{Policy}
use Rattle.ppd_ast.specs.declared.program.Program.{Program}
use Rattle.ppd_blocks.specs.Blocks.{plan_of}
use Rattle.ppd_sem.specs.Blocks.{block_kind}
use Rattle.ppd_sem.specs.declared.proc.Todo.{Todo}
use Rattle.ppd_blocks.specs.Walk.{stands_in}
use Rattle.ppd_model.specs.Intervals.{Split}
use Rattle.ppd_model.specs.declared.tracing.Story.{Story}
use Rattle.law_flow.specs.Places.Levels.{IsLater, Level as Place, StandsIn, numbers}
use Rattle.law_flow.specs.Places.Leaves.{leaf_of}
use Rattle.law_flow.proofs.Places.Opening.{first_is}
use Rattle.law_flow.proofs.Places.Whole.{AreWhole, LevelAt, first_level, level_whole}
use Rattle.law_flow.proofs.Control.Levels.{AllHold, EndsWith, Facts, Level, OverNext, Sort, function, leaf, loop, process, runs_of, runs_with, todo_of}
use Rattle.law_flow.proofs.Control.Moments.{Moment}
use Rattle.law_flow.proofs.Control.Searching.{leaf_match}
use Rattle.law_flow.proofs.Control.Seen.{AreSeen, RunSeen, seen_later}
use Rattle.law_flow.proofs.Control.Sights.{Sign, leaf_over}
use Rattle.law_flow.proofs.Control.Statics.{in_own_loop}

-- the next statement, at the level of a loop in whose own activation the process is: it stands in the loop, and only
-- where the loop was entered is it the loop itself
pub record IsInside (program : Program) (plan : Plan) (y : Split) (l : Place) (h : Todo) : Type 0 where
  pub stands : (q : ℕ) → leaf_of program plan y l ≡ None → block_kind plan l.block ≡ block.Loop q
      → stands_in program h.stmt q ≡ true
  pub other : (q : ℕ) → leaf_of program plan y l ≡ None → block_kind plan l.block ≡ block.Loop q → h.entered ≡ false
      → h.stmt ≡ q → ⊥

abbrev pub loop_number : BlockKind → ℕ
loop_number (block.Loop q) = q
loop_number k = 0

not_process : (b q : ℕ) → block.Process b ≡ block.Loop q → ⊥
not_process b q e = absurd (cc)

pub not_function : (f q : ℕ) → block.Function f ≡ block.Loop q → ⊥
not_function f q e = absurd (cc)

module _ (program : Program) (policy : Policy) (v : IsValid program) (story : Story) (p : ℕ) (y : Split)
    (whole : AreWhole y) where
  abbrev plan : Plan
  plan = plan_of program policy

  module _ (l : Place) (ls : List Place) (h : Todo) (hs : List Todo) (at : LevelAt y l (numbers ls)) where
    abbrev Stands : ℕ → Type 0
    Stands q = (stands_in program h.stmt q ≡ true) × (h.entered ≡ false → h.stmt ≡ q → ⊥)

    leaf_seen : (sight : List Sign) (inner : List Sign) (z : Level) (r : RunSeen plan y.trace.events inner l ls z.run)
        → leaf_of program plan y l ≡ leaf_over program plan r.sight
    leaf_seen sight inner z r =
        leaf_match program plan y whole [] (0, None) l.parts r.sight refl refl r.is
        (level_whole y l (numbers ls) whole at)

    by_todo : (q : ℕ) (z : Level) (zs : List Level) (todo last : List Todo)
        → Facts program policy p (loop q) z.body z.run.sight z.view todo
        → EndsWith program policy p (loop q) z.body z.run.sight z.view last
        → todo ++ (last ++ todo_of zs) ≡ h ∷ hs → Stands q
    by_todo q z zs [] last facts ends is =
        let same : ends.0 ≡ h = first_is ends.0 h (todo_of zs) hs (ap (λ ts. ts ++ todo_of zs) (sym ends.1) ∙ is) in
        let stmt : h.stmt ≡ q = ap (λ (t : Todo). t.stmt) (sym same) ∙ ends.2 in (
          subst (λ s. stands_in program s q ≡ true) (sym stmt) (in_own_loop program policy q),
          λ no e. true≢false (sym ends.3 ∙ ap (λ (t : Todo). t.entered) same ∙ no),
        )
    by_todo q z zs (t ∷ ts) last facts ends is =
        let same : t ≡ h = first_is t h (ts ++ (last ++ todo_of zs)) hs is in
        subst (λ (u : Todo). (stands_in program u.stmt q ≡ true) × (u.entered ≡ false → u.stmt ≡ q → ⊥)) same
        (facts.0.0.stands.0, λ no. facts.0.0.stands.1)

    by_sort : (z : Level) (zs : List Level) (sort : Sort)
        → Facts program policy p sort z.body z.run.sight z.view z.todo
        → EndsWith program policy p sort z.body z.run.sight z.view z.last → OverNext program policy p sort z zs
        → AreSeen plan y.trace.events [] (l ∷ ls) (runs_with sort z.run (runs_of zs))
        → z.todo ++ (z.last ++ todo_of zs) ≡ h ∷ hs → (q : ℕ) → leaf_of program plan y l ≡ None
        → block_kind plan l.block ≡ block.Loop q → Stands q
    by_sort z zs process facts ends over seen is q none kind =
        absurd (not_process (program.functions + p) q (sym over.1 ∙ seen.0.kind_is ∙ kind))
    by_sort z [] function facts ends over seen is q none kind = absurd over
    by_sort z (o ∷ os) function facts ends over seen is q none kind =
        absurd (not_function over.function q (sym over.kind_is ∙ seen.0.kind_is ∙ kind))
    by_sort z [] leaf facts ends over seen is q none kind = absurd over
    by_sort z (o ∷ os) leaf facts ends over seen is q none kind =
        absurd (none-some over.call (sym none ∙ leaf_seen [] [] z seen.0
        ∙ ap (leaf_over program plan) (sym (seen.0.sight_is ∙ append-nil seen.0.sight)) ∙ over.leaf_is))
    by_sort z [] (loop m) facts ends over seen is q none kind = absurd over
    by_sort z (o ∷ os) (loop m) facts ends over seen is q none kind =
        let same : m ≡ q = ap loop_number (sym over.kind_is ∙ seen.0.kind_is ∙ kind) in
        subst Stands same (by_todo m z (o ∷ os) z.todo z.last facts ends is)

    by_levels : (levels : List Level) → AllHold program policy p levels
        → AreSeen plan y.trace.events [] (l ∷ ls) (runs_of levels) → todo_of levels ≡ h ∷ hs → (q : ℕ)
        → leaf_of program plan y l ≡ None → block_kind plan l.block ≡ block.Loop q → Stands q
    by_levels [] hold seen is q none kind = absurd seen
    by_levels (z ∷ zs) hold seen is q none kind =
        by_sort z zs z.sort hold.0.facts hold.0.ends hold.0.over seen is q none kind

  pub inside_is : (x : Split) (l : Place) (ls : List Place) → StandsIn x (l ∷ ls) → IsLater x y
      → Moment program policy v story p x (l ∷ ls) → (h : Todo) (hs : List Todo) → x.trace.proc.todo ≡ h ∷ hs
      → IsInside program plan y l h
  inside_is x l ls stands later m h hs is =
      let at : LevelAt y l (numbers ls) = first_level x y l ls stands later in
      let seen : AreSeen plan y.trace.events [] (l ∷ ls) (runs_of m.levels) =
      seen_later plan x.trace.events y.trace.events [] (l ∷ ls) (runs_of m.levels) later.events m.seen in
      record {
        stands = λ q none kind. (by_levels l ls h hs at m.levels m.hold seen (sym m.todo_is ∙ is) q none kind).0;
        other = λ q none kind. (by_levels l ls h hs at m.levels m.hold seen (sym m.todo_is ∙ is) q none kind).1;
      }
