-- At each moment at which a process runs, the items tell which activation goes on.
use Rattle.law_steps.specs.Policies.{setting_by}
use Rattle.ppd_model.specs.Setting.{Setting, setting_of}
use Rattle.std.proofs.Common.{◌≡◌, ℕ, ◌+◌, ◌<◌, true, List, [], ◌∷◌, ◌++◌, Some, ap, sym, subst, ◌∙◌, arith, length}
use Rattle.std.specs.Prelude.{fold, is_some, slice_get, get_or}
use Rattle.std.proofs.lemmas.List.{length-map}
use Rattle.std.proofs.lemmas.List.Sums.{fold-append}
use Rattle.std.proofs.lemmas.Option.{slice_get_within}
use Rattle.ppd_ast.specs.Valid.{IsValid}
use Rattle.ppd_ast.specs.declared.plan.BlockKind.TheVariants as block
use Rattle.ppd_ast.specs.declared.plan.Plan.{Plan}
use Rattle.ppd_ast.specs.declared.plan.Policy.{Policy}
use Rattle.ppd_ast.specs.declared.program.Program.{Program}
use Rattle.ppd_blocks.specs.Blocks.{plan_of}
use Rattle.law_steps.proofs.Facts.State.{IsState}
use Rattle.law_steps.specs.OpenBlocks.Stack.{IsInOrder, process_block}
use Rattle.law_steps.proofs.OpenBlocks.Told.{moments_length}
use Rattle.ppd_sem.specs.Described.{frame_of}
use Rattle.ppd_sem.specs.Process.{started}
use Rattle.ppd_sem.specs.Tables.{block_of}
use Rattle.ppd_sem.specs.declared.proc.Proc.{Proc}
use Rattle.ppd_model.specs.Intervals.{Split, begun_split, split_of, split_step, splits}
use Rattle.ppd_model.specs.LocalTags.{AreOwn}
use Rattle.ppd_model.specs.Story.{Telling, steps_of, story, told}
use Rattle.ppd_model.specs.declared.tracing.Story.{Story}
use Rattle.ppd_model.specs.declared.tracing.Taken.{Taken}
use Rattle.ppd_model.proofs.Items.{items_whole, split_found, splits_length}
use Rattle.ppd_model.proofs.LocalTags.{own_steps_told, own-before}
use Rattle.ppd_model.proofs.Prefixes.{objects_stay}
use Rattle.law_flow.specs.Places.Closing.{closing}
use Rattle.law_flow.specs.Places.Levels.{IsLater, Level, StandsIn}
use Rattle.law_flow.specs.Places.Leaves.{LeafTells, frame_at, open_at}
use Rattle.law_flow.proofs.Places.Following.{IsFollowed, follow, followed_start, process_there}
use Rattle.law_flow.proofs.Places.Frames.{frame_tells}
use Rattle.law_flow.proofs.Places.Later.{levels_to, steps_later, steps_stand}
use Rattle.law_flow.proofs.Places.Opening.{not_nil}
use Rattle.law_flow.proofs.Places.Whole.{AreWhole}

-- a process with intervals is one of the program's
pub process_below : (setting : Setting) (h : List ℕ) (p : ℕ) (y : Split)
    → slice_get (splits setting (story setting h)) p ≡ Some y
    → setting.program.functions + p < length setting.program.bodies
process_below setting h p y at =
    let s : Story = story setting h in
    let t : Telling = told setting h in
    let below : p < length (splits setting s) = slice_get_within (splits setting s) p y at in
    let many : length (splits setting s) ≡ length t.moments =
    splits_length setting s 0 s.steps ∙ length-map t.moments steps_of in
    omega (arith, below, many, moments_length setting h, (objects_stay setting h).processes)

-- a process in its intervals is so by its own steps
pub split_is : (setting : Setting) (h : List ℕ) (p : ℕ) (y : Split)
    → slice_get (splits setting (story setting h)) p ≡ Some y
    → split_of setting (story setting h) p (get_or (story setting h).steps p []) ≡ y
split_is setting h p y at =
    let s : Story = story setting h in
    let z : 0 + p ≡ p = omega arith in
    ap (λ k. split_of setting s k (get_or s.steps p [])) (sym z)
    ∙ split_found setting s 0 s.steps p y at

frame_any : (program : Program) (policy : Policy) (p : ℕ) (y : Split) (s : Proc) (ls : List Level) → IsValid program
    → IsInOrder program (plan_of program policy) p s → IsState program (plan_of program policy) s
    → is_some (block_of (plan_of program policy) (block.Process (program.functions + p))) ≡ true
    → open_at program (plan_of program policy) y ls
    ≡ closing program (plan_of program policy) s.todo ++ Some
    (process_block program (plan_of program policy) p) ∷ []
    → frame_of program (plan_of program policy) s ≡ frame_at program (plan_of program policy) y ls
frame_any program policy p y s [] v order state is_process at =
    absurd (not_nil (closing program (plan_of program policy) s.todo)
    (Some (process_block program (plan_of program policy) p)) at)
frame_any program policy p y s (l ∷ ls) v order state is_process at =
    frame_tells program policy p y s l ls v order state is_process at

-- a process at a moment of a schedule: its levels, and that what comes of it is later
module _ (program : Program) (policy : Policy) (budget : ℕ) (h : List ℕ) (p : ℕ) (y : Split) (v : IsValid program)
    (at : slice_get (splits (setting_by program policy budget)
    (story (setting_by program policy budget) h)) p ≡ Some y) where
  abbrev plan : Plan
  plan = plan_of program policy

  abbrev s : Story
  s = story (setting_of program plan budget) h

  abbrev pub start : Split
  start = begun_split program plan p (started program plan p budget)

  abbrev pub levels_at : List Taken → List Level
  levels_at before = levels_to program plan s p start before (record {
    interval = 0;
    block =
        process_block program plan p;
    parts = [];
  } ∷ [])

  pub all_whole : AreWhole y
  all_whole = (items_whole (setting_of program plan budget) h p y v at).whole

  pub there : program.functions + p < length program.bodies
  there = process_below (setting_of program plan budget) h p y at

  pub begins : IsFollowed program policy v s p y all_whole start (record {
    interval = 0;
    block =
        process_block program plan p;
    parts = [];
  } ∷ [])
  begins = followed_start program policy v s p y all_whole budget there

  module _ (before after : List Taken) (steps : get_or s.steps p [] ≡ before ++ after) where
    pub comes_to : fold (split_step program plan s p) (split_of (setting_of program plan budget) s p before) after ≡ y
    comes_to = sym (fold-append (split_step program plan s p) start before after)
        ∙ ap (split_of (setting_of program plan budget) s p) (sym steps) ∙ split_is (setting_of program plan budget) h p y at

    pub stands_at : StandsIn (split_of (setting_of program plan budget) s p before) (levels_at before)
    stands_at = steps_stand program plan s p start (record {
      interval = 0;
      block =
          process_block program plan p;
      parts = [];
    } ∷ []) before begins.stands

    pub later_at : IsLater (split_of (setting_of program plan budget) s p before) y
    later_at = subst (IsLater (split_of (setting_of program plan budget) s p before)) comes_to
        (steps_later program plan s p (split_of (setting_of program plan budget) s p before) (levels_at before) after stands_at)

    pub own_before : AreOwn program plan (started program plan p budget) before
    own_before = own-before program plan (started program plan p budget) before after
        (subst (AreOwn program plan (started program plan p budget)) steps (own_steps_told (setting_of program plan budget) h p))

    pub followed_at : IsFollowed program policy v s p y all_whole (split_of (setting_of program plan budget) s p before)
        (levels_at before)
    followed_at = follow program policy v s p y all_whole start (record {
      interval = 0;
      block =
          process_block program plan p;
      parts = [];
    } ∷ []) before own_before later_at begins

pub leaf_tells : LeafTells
leaf_tells program policy budget h p y before after v at steps runs =
    let f = followed_at program policy budget h p y v at before after steps in
    let told = f.told runs in
    record {
      levels = levels_at program policy budget h p y v at before;
      stands = f.stands;
      later = later_at program policy budget h p y v at before after steps;
      open_is = told.open_is;
      begun = told.begun;
      frame_is = frame_any program policy p y (split_of (setting_by program policy budget)
          (story (setting_by program policy budget) h) p before).trace.proc
          (levels_at program policy budget h p y v at before) v f.order f.state
          (process_there program policy v (story (setting_by program policy budget) h) p y
          (all_whole program policy budget h p y v at) (there program policy budget h p y v at)) told.open_is;
    }
