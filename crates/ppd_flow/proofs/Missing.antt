-- The write that `Sets` names is one that the search misses.
use Rattle.std.proofs.Common.{◌≡◌, ℕ, ℤ, List, Option, Some, None, Result, Ok, Err, ap, ◌∙◌}
use Rattle.ppd_model.specs.declared.flow.FlowEdge.{FlowEdge}
use Rattle.ppd_model.specs.declared.flow.Origin.{Origin}
use Rattle.ppd_graph.specs.Found.{found_edges}
use Rattle.ppd_graph.specs.Shared.{Missing, found_last}
use Rattle.ppd_model.specs.declared.flow_error.FlowError.{FlowError}
use Rattle.ppd_model.specs.declared.flow_error.FlowError.TheVariants.{Diverged, NoEvent, Sets, Memory}
use Rattle.ppd_flow_past.specs.declared.past.Past.{Past}
use Rattle.ppd_flow_shared.specs.SharedCells.{IsLastFound, answer_of, seens_in}
use Rattle.ppd_flow.specs.Answers.{IsEdges, answer_if}
use Rattle.ppd_flow.specs.Missing.{IsCauseOfSets}
use Rattle.law_flow.specs.Missing.{write_at}
use Rattle.law_flow.proofs.MissingWrites.{missing_writes_are_told}

module _ (q n c : ℕ) where
  same_write : (m : Missing) → m.process ≡ q → m.entry ≡ n → m.cell ≡ c → m ≡ write_at q n c
  same_write m e f g =
      ap (λ i. write_at i m.entry m.cell) e ∙ ap (λ i. write_at q i m.cell) f ∙ ap (write_at q n) g

  -- of a search for one value, and of one for the edges of an item
  pub missed : {A : Type 0} (r : Result A Missing) → answer_of r ≡ Err (Sets q n c) → r ≡ Err (write_at q n c)
  missed (Ok x) e = absurd (cc e)
  missed (Err m) e =
      let process : m.process ≡ q = cc e in
      let entry : m.entry ≡ n = cc e in
      let cell : m.cell ≡ c = cc e in
      ap (λ m. Err m) (same_write m process entry cell)

  pub missed_edges : (o : Option (Result (List FlowEdge) Missing)) → answer_if o ≡ Err (Sets q n c)
      → o ≡ Some (Err (write_at q n c))
  missed_edges None e = absurd (cc e)
  missed_edges (Some r) e = ap Some (missed r e)

pub edges_missed : (past : Past) (p k j before after : ℕ) (r : Result (List FlowEdge) FlowError)
    → IsEdges past p k j before after r → IsCauseOfSets past r
edges_missed past p k j before after (Err (Sets q n c)) f = λ indexed.
    (missing_writes_are_told past.program.now past.plan.now past.logs.now (seens_in past) indexed).edges p k j (write_at q n c)
    (missed_edges q n c (found_edges past.program.now past.plan.now past.logs.now (seens_in past) p k j).found f.1)
edges_missed past p k j before after (Err (Diverged q n)) f = tt
edges_missed past p k j before after (Err NoEvent) f = tt
edges_missed past p k j before after (Err Memory) f = tt
edges_missed past p k j before after (Ok es) f = tt

pub last_missed : (past : Past) (cell before after : ℕ) (r : Result (ℤ × Origin) FlowError)
    → IsLastFound past cell before after r → IsCauseOfSets past r
last_missed past cell before after (Err (Sets q n c)) f = λ indexed.
    (missing_writes_are_told past.program.now past.plan.now past.logs.now (seens_in past) indexed).last cell (write_at q n c)
    (missed q n c (found_last past.program.now past.logs.now (seens_in past) cell).found f.1)
last_missed past cell before after (Err (Diverged q n)) f = tt
last_missed past cell before after (Err NoEvent) f = tt
last_missed past cell before after (Err Memory) f = tt
last_missed past cell before after (Ok x) f = tt
