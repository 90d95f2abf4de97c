-- What a step does to the tags: the cells that its event writes or receives have its tag, the others what they had.
use Rattle.std.proofs.Common.{◌≡◌, ℕ, suc, ◌+◌, ◌<◌, ◌≤◌, Bool, true, false, ◌&&◌, ◌||◌, List, Some, None, ap, ap₂, ◌∙◌, length}
use Rattle.std.specs.List.{list_any}
use Rattle.std.specs.Prelude.{slice_get}
use Rattle.std.proofs.Math.Bool.{and-false, or-true}
use Rattle.ppd_ast.specs.declared.plan.Plan.{Plan}
use Rattle.ppd_ast.specs.declared.program.Program.{Program}
use Rattle.ppd_sem.specs.Blocks.{block_kind}
use Rattle.ppd_sem.specs.Described.{frame_of, is_event}
use Rattle.ppd_sem.specs.declared.proc.Proc.{Proc}
use Rattle.ppd_model.specs.FlowbackEdges.{part_at}
use Rattle.ppd_model.specs.FullTrace.{Tag, event_of, me_in, trace_step}
use Rattle.ppd_model.specs.Intervals.{own, Split}
use Rattle.ppd_model.specs.LocalTags.{TagsItsWrites, cells_in, is_cell, is_in_writes, is_local_write, is_received, local_tag}
use Rattle.ppd_model.specs.declared.trace.TracedEvent.{TracedEvent}
use Rattle.ppd_model.specs.declared.tracing.Story.{Story}
use Rattle.ppd_model.specs.declared.tracing.Taken.{Taken}
use Rattle.ppd_model.specs.declared.tracing.Tracing.{Tracing}
use Rattle.ppd_graph.specs.Locals.{frame_in, is_local}
use Rattle.law_flow.specs.Places.Levels.{Level}
use Rattle.law_flow.specs.Places.Leaves.{items_so_far, leaf_of}
use Rattle.law_flow.proofs.Vocabulary.Says.{activations, with_own}
use Rattle.law_flow.proofs.Vocabulary.LoopTells.{LoopTells}
use Rattle.law_flow.proofs.Locals.Cells.Events.{writes}
use Rattle.law_flow.proofs.Locals.Cells.Spots.{any_none, any_same, cell_at, cell_below}

-- what is told of the tags of a process
abbrev pub TellsOf : Program → Plan → ℕ → Split → Tracing → List Level → Type 0
TellsOf program plan p y t ls = LoopTells program plan p y (cells_in t.proc.frames) (local_tag t.activations) true ls

-- before a step and after it: how many cells each activation has, their tags, which are written and received, and how
-- many activations there are
pub record Change : Type 0 where
  pub sizes : ℕ → ℕ
  pub sizes_then : ℕ → ℕ
  pub tags : ℕ → ℕ → Tag
  pub tags_then : ℕ → ℕ → Tag
  pub written : ℕ → ℕ → Bool
  pub received : ℕ → ℕ → Bool
  pub count : ℕ
  pub count_then : ℕ

abbrev pub change_of : Program → Plan → Story → ℕ → Split → Taken → Change
change_of program plan story p x taken = record {
  sizes = cells_in x.trace.proc.frames;
  sizes_then = cells_in (trace_step program plan story p x.trace taken).proc.frames;
  tags = local_tag x.trace.activations;
  tags_then = local_tag (trace_step program plan story p x.trace taken).activations;
  written = is_in_writes program plan x.trace.proc taken;
  received = λ k c. is_received program x.trace.proc k c x.trace.proc.todo;
  count = length x.trace.proc.frames;
  count_then = length (trace_step program plan story p x.trace taken).proc.frames;
}

-- with the event's tag
pub record AreTagged (k : Change) (me : Tag) : Type 0 where
  pub writes : (i c : ℕ) → k.written i c ≡ true → c < k.sizes_then i → k.tags_then i c ≡ me
  pub receives : (i c : ℕ) → k.received i c ≡ true → c < k.sizes_then i → k.tags_then i c ≡ me
  pub keeps : (i c : ℕ) → k.written i c ≡ false → k.received i c ≡ false → i < k.count → i < k.count_then
      → k.tags_then i c ≡ k.tags i c
  pub begins : (i c : ℕ) → k.written i c ≡ false → k.received i c ≡ false → k.count ≤ i → k.tags_then i c ≡ None
  pub sized : (i : ℕ) → i < k.count → i < k.count_then → k.sizes_then i ≡ k.sizes i

-- event n at the first level, in its activation number a or in one that it calls without an interval
pub record IsEventAt (program : Program) (plan : Plan) (p : ℕ) (y : Split) (l : Level) (ls : List Level) (n : ℕ)
    (e : TracedEvent) (k : Change) (a : ℕ) : Type 0 where
  pub there : slice_get y.trace.events n ≡ Some e
  pub whole : length (items_so_far y l) ≡ length l.parts
  pub placed : part_at y l.interval (length l.parts) ≡ Some (own n)
  pub base : with_own (block_kind plan l.block) (activations program plan y ls) ≡ suc a
  pub counted : k.count ≡ a + 1 + frame_in (leaf_of program plan y l)
  pub tagged : AreTagged k (Some (record { process = p; number = n }))
  pub own_writes : (c : ℕ) → k.written a c ≡ writes 0 c e.event
  pub leaf_writes : (c : ℕ) → k.written (suc a) c ≡ writes 1 c e.event
  pub low_writes : (i c : ℕ) → i < a → k.written i c ≡ false

module _ (program : Program) (plan : Plan) (story : Story) (p : ℕ) (x : Split) (taken : Taken)
    (tags : TagsItsWrites program plan p x.trace (trace_step program plan story p x.trace taken) taken) where
  abbrev k : Change
  k = change_of program plan story p x taken

  unwritten : (i c : ℕ) → k.written i c ≡ false → k.received i c ≡ false
      → is_local_write program plan i c x.trace.proc taken ≡ false
  unwritten i c w r = ap₂ (λ a b. is_event taken.need && (a || b)) w r ∙ and-false (is_event taken.need)

  pub are_tagged : is_event taken.need ≡ true → AreTagged (change_of program plan story p x taken) (Some (me_in p x.trace))
  are_tagged event = record {
    writes = λ i c w lt.
        tags.written i c (ap (λ b. b && (k.written i c || k.received i c)) event ∙ ap (λ b. b || k.received i c) w) lt;
    receives = λ i c r lt.
        tags.written i c (ap (λ b. b && (k.written i c || k.received i c)) event ∙ ap (λ b. k.written i c || b) r
        ∙ or-true (k.written i c)) lt;
    keeps = λ i c w r lt lt'. tags.kept i c (unwritten i c w r) lt lt';
    begins = λ i c w r le. tags.fresh i c (unwritten i c w r) le;
    sized = tags.same_cells;
  }

-- which activation an event writes in, where the one that goes on has this frame
module _ (program : Program) (plan : Plan) (s : Proc) (taken : Taken) (a fr : ℕ) (frame : frame_of program plan s ≡ fr)
    (count : length s.frames ≡ a + 1 + fr) where
  pub writes_at : (f c : ℕ) → is_in_writes program plan s taken (a + f) c
      ≡ writes f c (event_of program plan s taken s.todo)
  writes_at f c =
      ap₂ (λ i j. list_any (λ u. is_cell i j (a + f) c u.spot) (event_of program plan s taken s.todo).writes) frame count
      ∙ any_same (λ u. is_cell fr (a + 1 + fr) (a + f) c u.spot) (λ u. is_local f c u.spot)
      (event_of program plan s taken s.todo).writes (λ u. cell_at a fr f c u.spot)

  pub none_below : (i c : ℕ) → i < a → is_in_writes program plan s taken i c ≡ false
  none_below i c lt =
      ap₂ (λ f j. list_any (λ u. is_cell f j i c u.spot) (event_of program plan s taken s.todo).writes) frame count
      ∙ any_none (λ u. is_cell fr (a + 1 + fr) i c u.spot) (event_of program plan s taken s.todo).writes
      (λ u. cell_below a fr i c u.spot lt)
