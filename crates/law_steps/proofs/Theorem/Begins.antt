-- The replay of an interval takes its first unit, and then goes along with the process.
use Rattle.std.proofs.Common.{◌≡◌, ℕ, ◌+◌, ℤ, List, [], ◌∷◌, ◌++◌, map, None, Ok, ap, ap₂, sym, ◌∙◌, arith, Some}
use Rattle.std.specs.Prelude.{drop}
use Rattle.ppd_ast.specs.declared.plan.BlockKind.{BlockKind}
use Rattle.ppd_ast.specs.declared.plan.Plan.{Plan}
use Rattle.ppd_ast.specs.declared.plan.Policy.{Policy}
use Rattle.ppd_ast.specs.declared.program.Program.{Program}
use Rattle.ppd_ast.specs.Valid.{IsValid}
use Rattle.ppd_blocks.specs.Blocks.{plan_of}
use Rattle.ppd_model.specs.IntervalLogs.{IntervalLog}
use Rattle.ppd_model.specs.Pieces.{Piece, unit}
use Rattle.ppd_sem.specs.Blocks.{at_block, block_body, block_kind, block_unit}
use Rattle.ppd_sem.specs.declared.proc.Proc.{Proc}
use Rattle.ppd_model.specs.Replay.{Replayed, Replaying, go_on, replay, replay_from, take_unit}
use Rattle.law_steps.proofs.Vocabulary.Alone.{IsCrossing, IsKept}
use Rattle.law_steps.proofs.Beside.KeptFine.{kept_fine}
use Rattle.law_steps.proofs.Beside.Turned.{unit_turn}
use Rattle.law_steps.specs.Coming.Pieces.{Coming, coming}
use Rattle.law_steps.specs.OpenBlocks.Stack.{block_frames}
use Rattle.law_steps.specs.Coming.Openings.{IsLogOf, Opening, coming_in}
use Rattle.law_steps.proofs.Crossing.Whole.{Across, whole_crossing}
use Rattle.law_steps.specs.InForce.Values.{AreRead}
use Rattle.law_steps.proofs.Openings.Begun.{begun_beside}
use Rattle.law_steps.proofs.Openings.Blocks.{calls_in, closer_in, inside_in, used_in}
use Rattle.law_steps.proofs.Openings.Crossed.{IsOfFunction, IsOfLoop, call_blocks, call_bodies, closer_closes, loop_blocks}
use Rattle.law_steps.proofs.Facts.Fine.{states_fine}
use Rattle.law_steps.proofs.Openings.AtBlocks.{IsAtBlock}
use Rattle.law_steps.proofs.Facts.State.{IsState}
use Rattle.law_steps.proofs.Openings.Statics.{HasStatics, statics}
use Rattle.law_steps.proofs.Alone.Both.{both}
use Rattle.law_steps.proofs.Alone.Turns.{given, map_drop, next_at}
use Rattle.law_steps.proofs.Theorem.Units.{unit_in_force}

-- what a replay gives of what is to come
abbrev pub gives : Coming → Replayed
gives c = record { steps = c.steps; answer = Ok (record { items = c.items }) }

module _ (program : Program) (policy : Policy) (v : IsValid program) (o : Opening)
    (h : IsAtBlock program (plan_of program policy) o) (budget depth : ℕ) where
  abbrev plan : Plan
  plan = plan_of program policy

  abbrev kind : BlockKind
  kind = h.at.kind

  facts : HasStatics program policy v o h
  facts = statics program policy v o h

  kept : IsKept program plan (used_in program kind) (inside_in program kind) (calls_in program kind)
      (closer_in program kind) (block_body program kind) depth h.at.later (λ s r. IsState program plan s)
  kept =
      kept_fine program plan (used_in program kind) (inside_in program kind) (calls_in program kind)
      (closer_in program kind) (block_body program kind) depth h.at.later
      (IsState program plan) (states_fine program plan v) (facts.kept depth)

  abbrev InNested : Proc → ℕ → Proc → Type 0
  InNested =
      Across program plan facts.countable (IsState program plan) (states_fine program plan v)
      (used_in program kind) (inside_in program kind) (calls_in program kind) (closer_in program kind)
      (block_body program kind) depth
      facts.ends facts.block h.at.later (IsOfLoop program plan) (IsOfFunction program plan)
      (loop_blocks program policy v) (call_blocks program policy v)
      (closer_closes program policy v kind h.at.there)

  crossing : IsCrossing program plan (used_in program kind) (inside_in program kind) (calls_in program kind)
      (closer_in program kind) (block_body program kind) depth h.at.later (λ s r. IsState program plan s) InNested
  crossing =
      whole_crossing program plan facts.countable (IsState program plan) (states_fine program plan v)
      (used_in program kind) (inside_in program kind) (calls_in program kind) (closer_in program kind)
      (block_body program kind) depth
      facts.ends facts.block h.at.later (IsOfLoop program plan) (IsOfFunction program plan)
      (loop_blocks program policy v) (call_blocks program policy v)
      (closer_closes program policy v kind h.at.there)
      kept (call_bodies program policy v)

  -- before the first piece
  abbrev begun : List (ℕ × Piece) → Replaying
  begun pieces = record {
    proc = at_block program plan o.mark.block o.mark.values depth budget;
    in_force = [];
    pieces = pieces;
    since = 0;
    steps = 0;
    items = [];
  }

  -- past the first unit
  abbrev unit_taken : List (ℕ × Piece) → Replaying
  unit_taken pieces = record (begun pieces)
      { pieces = drop 1 pieces; in_force = unit_in_force plan (block_unit plan kind) h.values }

  -- from there it gives what is to come
  goes_along : (k : ℕ) (pieces : List (ℕ × Piece)) → o.proc.budget ≡ budget
      → (calls_in program kind → block_frames plan o.proc.frames ≡ depth)
      → AreRead plan (unit_in_force plan (block_unit plan kind) h.values) o.rest
      → map (λ q. q.1) (drop 1 pieces) ≡ (coming program plan o.proc o.rest None (k + 1) 0).pieces
      → replay_from program plan (budget + 1) (unit_taken pieces) ≡ given (unit_taken pieces)
      (coming program plan o.proc o.rest None (k + 1) 0)
  goes_along k pieces purse deep reads is =
      (both program plan (used_in program kind) (inside_in program kind) (calls_in program kind)
      (closer_in program kind) (block_body program kind) depth facts.ends facts.block h.at.later
      (λ s r. IsState program plan s) kept InNested crossing o.rest).own o.proc (unit_taken pieces) (k + 1) (budget + 1)
      (record {
        beside = begun_beside program policy v o h depth budget (record { purse = purse; deep = deep });
        kept_so = h.state;
        running = h.at.running;
        paid = h.state.runs.spent;
      }) reads h.run is (omega arith)

  -- the replay of the interval's log gives what is to come in it
  pub replay_gives : (k : ℕ) (l : IntervalLog) → IsLogOf program plan k o l → l.depth ≡ depth
      → o.proc.budget ≡ budget → AreRead plan (unit_in_force plan (block_unit plan kind) h.values) o.rest
      → replay program plan l budget ≡ gives (coming_in program plan k o)
  replay_gives k l is same purse reads =
      ap₂ (λ b d. go_on (take_unit plan (Some (block_unit plan (block_kind plan b))) (start b l.values d))
      (replay_from program plan (budget + 1))) is.block same
      ∙ ap (λ vs. go_on (take_unit plan (Some (block_unit plan (block_kind plan o.mark.block)))
      (start o.mark.block vs depth)) (replay_from program plan (budget + 1))) is.values
      ∙ ap (λ x. go_on (take_unit plan (Some (block_unit plan x)) (begun l.pieces))
      (replay_from program plan (budget + 1))) facts.kind
      ∙ ap (λ t. go_on t (replay_from program plan (budget + 1)))
      (unit_turn program plan (block_unit plan kind) (begun l.pieces) h.values
      (next_at program plan l.pieces _ _ pieces))
      ∙ goes_along k l.pieces purse (λ c. sym is.depth ∙ same) reads (map_drop program plan l.pieces _ _ pieces)
    where
      start : ℕ → List ℤ → ℕ → Replaying
      start b values d = record {
        proc = at_block program plan b values d budget;
        in_force = [];
        pieces = l.pieces;
        since = 0;
        steps = 0;
        items = [];
      }

      pieces : map (λ q. q.1) l.pieces ≡ unit
          (block_unit plan kind) h.values ∷ (coming program plan o.proc o.rest None (k + 1) 0).pieces
      pieces = is.pieces ∙ ap (λ us. us ++ (coming program plan o.proc o.rest None (k + 1) 0).pieces) h.units_are
