-- A process's last edge: no synchronization ends it, so it is before no edge.
use Rattle.std.proofs.Common.{◌≡◌, ℕ, zero, suc, ◌+◌, ◌≤◌, List, [], ◌∷◌, Option, Some, None, refl, ap, sym, subst, arith, ◌∙◌, ◌&&◌, length, inl, inr, true≢false, eqb-true}
use Rattle.std.proofs.lemmas.Bool.{and_parts, or_cases}
use Rattle.std.specs.Prelude.{IsTrue, is_some, nat_eq, slice_get, get_or}
use Rattle.ppd_ast.specs.declared.program.Program.{Program}
use Rattle.ppd_model.specs.declared.graph.NodeId.{NodeId}
use Rattle.ppd_model.specs.Synchronizations.{Sync, leads_at}
use Rattle.ppd_model.specs.HappenedBefore.{Before, EdgeBefore, across, direct, earlier, edge, is_direct, node, sync_at, through}
use Rattle.ppd_model.proofs.OrderWords.{is_next}
use Rattle.ppd_model.specs.Laws.{LastEdgesAreOpen}

past_the_end : {A : Type 0} (xs : List A) → slice_get xs (length xs) ≡ None
past_the_end [] = refl
past_the_end (x ∷ xs) = past_the_end xs

there_below : {A : Type 0} (xs : List A) (i j : ℕ) → j ≤ i → IsTrue (is_some (slice_get xs i)) → IsTrue (is_some (slice_get xs j))
there_below [] i j le h = absurd (true≢false (sym h))
there_below (x ∷ xs) i zero le h = refl
there_below (x ∷ xs) zero (suc j) le h = absurd (omega (arith, le))
there_below (x ∷ xs) (suc i) (suc j) le h = there_below xs i j (omega (arith, le)) h

pub first_there : (program : Program) (a b : Option Sync) → IsTrue (leads_at program a b) → IsTrue (is_some a)
first_there program None b h = absurd (true≢false (sym h))
first_there program (Some a) b h = refl

next_there : (syncs : List (List Sync)) (a b : NodeId) → IsTrue (is_next syncs a b) → IsTrue (is_some (sync_at syncs a))
next_there syncs a b h =
    let both = and_parts (nat_eq a.process b.process && nat_eq (a.sync + 1) b.sync) (is_some (sync_at syncs b)) h in
    let parts = and_parts (nat_eq a.process b.process) (nat_eq (a.sync + 1) b.sync) both.0 in
    let same : a.process ≡ b.process = eqb-true a.process b.process parts.0 in
    let next : a.sync + 1 ≡ b.sync = eqb-true (a.sync + 1) b.sync parts.1 in
    there_below (get_or syncs a.process []) b.sync a.sync (omega (arith, next))
    (subst (λ p. IsTrue (is_some (slice_get (get_or syncs p []) b.sync))) (sym same) both.1)

direct_from : (program : Program) (syncs : List (List Sync)) (a b : NodeId) → IsTrue (is_direct program syncs a b) → IsTrue (is_some (sync_at syncs a))
direct_from program syncs a b h = elim (or_cases (is_next syncs a b) (leads_at program (sync_at syncs a) (sync_at syncs b)) h) [
  | inl next ↦ next_there syncs a b next
  | inr leads ↦ first_there program (sync_at syncs a) (sync_at syncs b) leads
]

pub before_from : (program : Program) (syncs : List (List Sync)) (a b : NodeId) → Before program syncs a b → IsTrue (is_some (sync_at syncs a))
before_from program syncs a b (direct d) = direct_from program syncs a b d
before_from program syncs a b (through {b = m} h k) = before_from program syncs a m h

before_none : (program : Program) (syncs : List (List Sync)) (p q j : ℕ) → j ≤ length (get_or syncs q []) → EdgeBefore program syncs (edge p (length (get_or syncs p []))) (edge q j) → ⊥
before_none program syncs p q j le (earlier e lt) =
    let same : length (get_or syncs p []) ≡ length (get_or syncs q []) = ap (λ n. length (get_or syncs n [])) e in
    omega (arith, le, lt, same)
before_none program syncs p q j le (across d i e h) =
    true≢false (sym (before_from program syncs (node p (length (get_or syncs p []))) (node q i) h) ∙ ap is_some (past_the_end (get_or syncs p [])))

pub last_edges : LastEdgesAreOpen
last_edges program syncs p = record { no_end = past_the_end (get_or syncs p []); before_none = before_none program syncs p }
