-- No race has an edge of a clean item's past.
use Rattle.law_clean.proofs.PastRaces.{race_of_edge}
use Rattle.law_clean.proofs.PastWords.{is_item_past}
use Rattle.law_clean.proofs.Vocabulary.{IsUnraced}
use Rattle.law_clean.specs.Pasts.{Lies, is_clean, is_past, is_raced, is_same_edge}
use Rattle.ppd_ast.specs.declared.program.Program.{Program}
use Rattle.ppd_model.proofs.Tested.{tests_before, tests_edges}
use Rattle.ppd_model.specs.HappenedBefore.{Before, EdgeBefore, edge, is_before, is_edge_before, node}
use Rattle.ppd_model.specs.Races.{edges_of_story, races_among}
use Rattle.ppd_model.specs.Record.{record_of}
use Rattle.ppd_model.specs.declared.graph.EdgeId.{EdgeId}
use Rattle.ppd_model.specs.declared.tracing.Story.{Story}
use Rattle.std.proofs.Common.{List, [], ap, arith, eq-eqb, length, not, refl, suc, sym, true, true≢false, zero, ℕ, ◌&&◌, ◌+◌, ◌<◌, ◌∙◌, ◌∷◌, ◌≡◌, ◌≤◌}
use Rattle.std.proofs.lemmas.Bool.{and_from, false_from_ne_true, or_left, or_right}
use Rattle.std.specs.Prelude.{is_some, nat_eq, slice_get}

pub some_there : {A : Type 0} (xs : List A) (i : ℕ) → is_some (slice_get xs i) ≡ true → i < length xs
some_there [] i e = absurd (true≢false (sym e))
some_there (x ∷ xs) zero e = omega arith
some_there (x ∷ xs) (suc i) e = let r : i < length xs = some_there xs i e in omega (arith, r)

module _ (program : Program) (s : Story) where
  module _ (p : ℕ) (l : Lies) (clean : is_clean program s p l ≡ true) where
    clear_past : (a : EdgeId) → is_item_past program s p l a ≡ true → IsUnraced program s a
    clear_past a past = false_from_ne_true (is_raced (races_among (edges_of_story program s)) a) (λ raced.
        true≢false (sym clean ∙ ap not (race_of_edge (is_item_past program s p l) (races_among (edges_of_story program s)) a raced past)))

    in_past : (a : EdgeId) → is_past program (record_of s) (edge p l.edge) a ≡ true → is_item_past program s p l a ≡ true
    in_past a e = or_left (is_past program (record_of s) (edge p l.edge) a) (l.ends && is_before program (record_of s) (node a.process a.edge) (node p l.edge)) e

    -- its own edge
    pub clear_own : IsUnraced program s (edge p l.edge)
    clear_own =
        clear_past (edge p l.edge)
        (in_past (edge p l.edge) (or_left (is_same_edge (edge p l.edge) (edge p l.edge)) (is_edge_before program (record_of s) (edge p l.edge) (edge p l.edge))
        (and_from (nat_eq p p) (nat_eq l.edge l.edge) (eq-eqb p p refl) (eq-eqb l.edge l.edge refl))))

    -- every edge before it
    pub clear_before : (q i : ℕ) → EdgeBefore program (record_of s) (edge q i) (edge p l.edge) → IsUnraced program s (edge q i)
    clear_before q i b =
        clear_past (edge q i)
        (in_past (edge q i) (or_right (is_same_edge (edge q i) (edge p l.edge)) (is_edge_before program (record_of s) (edge q i) (edge p l.edge)) ((tests_edges program (record_of s) (edge q i) (edge p l.edge)).1 b)))

    -- and where the item is a synchronization, every edge that ends before it
    pub clear_ending : l.ends ≡ true → (q i : ℕ) → Before program (record_of s) (node q i) (node p l.edge) → IsUnraced program s (edge q i)
    clear_ending ends q i b =
        clear_past (edge q i)
        (or_right (is_past program (record_of s) (edge p l.edge) (edge q i)) (l.ends && is_before program (record_of s) (node q i) (node p l.edge))
        (and_from l.ends (is_before program (record_of s) (node q i) (node p l.edge)) ends ((tests_before program (record_of s) (node q i) (node p l.edge)).1 b)))
