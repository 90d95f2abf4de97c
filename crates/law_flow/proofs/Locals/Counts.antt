-- How many activations there are, by the levels.
use Rattle.std.proofs.Common.{◌≡◌, ℕ, suc, ◌+◌, ◌≤◌, List, [], ◌∷◌, Option, Some, None, refl, sym, ap, ◌∙◌, map, arith, length}
use Rattle.std.proofs.lemmas.List.{length-map}
use Rattle.law_flow.proofs.Vocabulary.Says.{activations, with_own}
use Rattle.ppd_ast.specs.declared.plan.BlockKind.{BlockKind}
use Rattle.ppd_ast.specs.declared.plan.BlockKind.TheVariants as block
use Rattle.ppd_ast.specs.declared.plan.Plan.{Plan}
use Rattle.ppd_ast.specs.declared.program.Program.{Program}
use Rattle.ppd_sem.specs.Blocks.{block_kind}
use Rattle.ppd_sem.specs.declared.proc.Frame.{Frame}
use Rattle.ppd_model.specs.Intervals.{Part, Split}
use Rattle.ppd_model.specs.LocalTags.{HasTags, locals}
use Rattle.ppd_model.specs.declared.trace.EventId.{EventId}
use Rattle.ppd_model.specs.declared.tracing.Activation.{Activation}
use Rattle.ppd_model.specs.declared.tracing.Tracing.{Tracing}
use Rattle.ppd_graph.specs.declared.leaf_call.LeafCall.{LeafCall}
use Rattle.ppd_graph.specs.Locals.{frame_in}
use Rattle.law_flow.specs.Places.Levels.{Level}
use Rattle.law_flow.specs.Places.Leaves.{AreBegun, AreBegunBy, Begun, begun_by, begun_from, leaf_of}
use Rattle.law_flow.proofs.Places.Opening.{Own}

by_count : (p : ℕ) (ps : List Part) (o : Option LeafCall) (P : List Begun → Type 0) (cs : List Begun) (n : ℕ)
    → ((ds : List Begun) → P ds → length ds ≡ n) → AreBegunBy p ps o P cs → length cs ≡ frame_in o + n
by_count p ps None P cs n h g = let r : length cs ≡ n = h cs g in omega (arith, r)
by_count p ps (Some call) P [] n h g = absurd g
by_count p ps (Some call) P (c ∷ cs) n h g = let r : length cs ≡ n = h cs g.1 in omega (arith, r)

-- what a level's own activation has
pub own_of : (p : ℕ) (ps : List Part) (o : Option LeafCall) (P : List Begun → Type 0) (cs : List Begun)
    → AreBegunBy p ps o P cs → (ds : List Begun) × P ds
own_of p ps None P cs g = (cs, g)
own_of p ps (Some call) P [] g = absurd g
own_of p ps (Some call) P (c ∷ cs) g = (cs, g.1)

pub with_more : (k : BlockKind) (n : ℕ) → n ≤ with_own k n
with_more (block.Loop q) n = omega arith
with_more (block.Function f) n = omega arith
with_more (block.Process b) n = omega arith

module _ (program : Program) (plan : Plan) (p : ℕ) (y : Split) where
  own_count : (k : BlockKind) (ls : List Level) (ds : List Begun)
      → ((es : List Begun) → AreBegun program plan p y ls es → length es ≡ activations program plan y ls)
      → Own program plan p y k ls ds → length ds ≡ with_own k (activations program plan y ls)
  own_count (block.Loop q) ls ds rest g = rest ds g
  own_count (block.Process b) ls ds rest g = ap length g.0 ∙ ap (λ xs. suc (activations program plan y xs)) (sym g.1)
  own_count (block.Function f) ls [] rest g = absurd g
  own_count (block.Function f) ls (c ∷ cs) rest g = ap suc (rest cs g.1)

  -- the activations are as many as were begun
  pub begun_count : (ls : List Level) (cs : List Begun) → AreBegun program plan p y ls cs
      → length cs ≡ activations program plan y ls
  begun_count [] cs h = absurd h
  begun_count (l ∷ ls) cs h =
      by_count p l.parts (leaf_of program plan y l) (Own program plan p y (block_kind plan l.block) ls) cs
      (with_own (block_kind plan l.block) (activations program plan y ls))
      (λ ds g. own_count (block_kind plan l.block) ls ds (λ es e. begun_count ls es e) g) h

  -- a level has an activation of its own, or one that goes on outside it
  pub some_begun : (k : BlockKind) (ls : List Level) (cs : List Begun) → Own program plan p y k ls cs
      → 1 ≤ with_own k (activations program plan y ls)
  some_begun (block.Function f) ls cs g = omega arith
  some_begun (block.Process b) ls cs g = omega arith
  some_begun (block.Loop q) [] cs g = absurd g
  some_begun (block.Loop q) (o ∷ os) cs g =
      let own : (ds : List Begun) × Own program plan p y (block_kind plan o.block) os ds =
      own_of p o.parts (leaf_of program plan y o) (Own program plan p y (block_kind plan o.block) os) cs g in
      let rest : 1 ≤ with_own (block_kind plan o.block) (activations program plan y os) =
      some_begun (block_kind plan o.block) os own.0 own.1 in
      omega (arith, rest)

-- ---- frames

begun_length : (cs : List (Option ℕ)) (es : List (Option EventId)) → length es ≡ length cs
    → length (begun_from cs es) ≡ length cs
begun_length [] es h = refl
begun_length (c ∷ cs) [] h = absurd (omega (arith, h))
begun_length (c ∷ cs) (e ∷ es) h = ap suc (begun_length cs es (omega (arith, h)))

pub frames_length : (t : Tracing) → HasTags t → length (begun_by t.proc.frames t.activations) ≡ length t.proc.frames
frames_length t tags =
    let acts : length (map (λ (x : Activation). x.call) t.activations) ≡ length t.activations =
    length-map t.activations (λ (x : Activation). x.call) in
    let frames : length (map (λ (f : Frame). f.call) t.proc.frames) ≡ length t.proc.frames =
    length-map t.proc.frames (λ (f : Frame). f.call) in
    let same : length t.activations ≡ length t.proc.frames =
    sym (length-map t.activations (λ (x : Activation). x.tags)) ∙ sym (length-map (locals t.activations) length)
    ∙ ap length tags ∙ length-map t.proc.frames (λ (f : Frame). length f.cells) in
    begun_length (map (λ (f : Frame). f.call) t.proc.frames) (map (λ (x : Activation). x.call) t.activations) (acts
    ∙ same ∙ sym frames) ∙ frames
