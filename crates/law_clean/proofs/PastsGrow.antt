-- The past of an edge has all of the past of the edge before it in its process.
use Rattle.law_clean.specs.Pasts.{is_past, is_same_edge}
use Rattle.ppd_ast.proofs.ValidLaws.{slice_get_there}
use Rattle.ppd_ast.specs.declared.program.Program.{Program}
use Rattle.ppd_model.proofs.LastEdges.{before_from}
use Rattle.ppd_model.proofs.OrderWords.{is_next}
use Rattle.ppd_model.proofs.Tested.{In, here, tests_edges}
use Rattle.ppd_model.specs.HappenedBefore.{Before, EdgeBefore, across, direct, earlier, edge, is_edge_before, node, sync_at, through}
use Rattle.ppd_model.specs.Record.{record_of}
use Rattle.ppd_model.specs.Synchronizations.{Sync, leads_at}
use Rattle.ppd_model.specs.declared.graph.EdgeId.{EdgeId}
use Rattle.ppd_model.specs.declared.graph.NodeId.{NodeId}
use Rattle.ppd_model.specs.declared.tracing.Story.{Story}
use Rattle.std.proofs.Common.{Bool, List, [], ap, arith, eq-eqb, eqb-true, false, inl, inr, length, refl, subst, suc, sym, true, true≢false, zero, ℕ, ◌&&◌, ◌+◌, ◌<◌, ◌||◌, ◌∙◌, ◌∷◌, ◌≡◌, ◌⊎◌}
use Rattle.std.proofs.lemmas.Bool.{and_from, or_left}
use Rattle.std.specs.List.{list_any}
use Rattle.std.specs.Prelude.{IsTrue, get_or, is_some, nat_eq}

pub any_found : {A : Type 0} (t : A → Bool) (xs : List A) → list_any t xs ≡ true → (x : A) × In x xs × (t x ≡ true)
any_found t [] e = absurd (true≢false (sym e))
any_found t (x ∷ xs) e = by (t x) refl e (any_found t xs)
  where
    by : (b : Bool) → t x ≡ b → (b || list_any t xs) ≡ true → (list_any t xs ≡ true → (y : _) × In y xs × (t y ≡ true)) → (y : _) × In y (x ∷ xs) × (t y ≡ true)
    by true is f later = (x, here, is)
    by false is f later = let r = later f in (r.0, In.there r.1, r.2)

-- ---- what is before a synchronization is also after those before it in its process

module _ (program : Program) (syncs : List (List Sync)) where
  pub next_before : (q i : ℕ) → IsTrue (is_some (sync_at syncs (node q (i + 1)))) → Before program syncs (node q i) (node q (i + 1))
  next_before q i there =
      direct (or_left (is_next syncs (node q i) (node q (i + 1))) (leads_at program (sync_at syncs (node q i)) (sync_at syncs (node q (i + 1))))
      (and_from (nat_eq q q && nat_eq (i + 1) (i + 1)) (is_some (sync_at syncs (node q (i + 1)))) (and_from (nat_eq q q) (nat_eq (i + 1) (i + 1)) (eq-eqb q q refl) (eq-eqb (i + 1) (i + 1) refl)) there))

  -- so many steps back in the process
  pub before_back : (k q i : ℕ) (b : NodeId) → Before program syncs (node q (i + k)) b → Before program syncs (node q i) b
  before_back zero q i b h = let e : i + zero ≡ i = omega arith in subst (λ z. Before program syncs (node q z) b) e h
  before_back (suc k) q i b h =
      let e : i + suc k ≡ (i + k) + 1 = omega arith in
      let last : Before program syncs (node q ((i + k) + 1)) b = subst (λ z. Before program syncs (node q z) b) e h in
      before_back k q i b (through (next_before q (i + k) (before_from program syncs (node q ((i + k) + 1)) b last)) last)

-- ---- pasts

module _ (program : Program) (s : Story) where
  abbrev Rec : List (List Sync)
  Rec = record_of s

  sync_there : (p i : ℕ) → i < length (get_or Rec p []) → IsTrue (is_some (sync_at Rec (node p i)))
  sync_there p i lt = ap is_some (slice_get_there (get_or Rec p []) i lt).1

  -- what is before an edge that a synchronization ends is before the next one
  pub before_next : (q e p i : ℕ) → EdgeBefore program Rec (edge q e) (edge p i) → i < length (get_or Rec p []) → EdgeBefore program Rec (edge q e) (edge p (i + 1))
  before_next q e p i (earlier same less) lt = earlier same (let z : e < i = less in omega (arith, z))
  before_next q e p i (across apart j is b) lt =
      let same : i ≡ j + 1 = is in
      across apart i refl
      (through b (subst (λ z. Before program Rec (node p j) (node p z)) (sym same) (next_before program Rec p j (subst (λ z. IsTrue (is_some (sync_at Rec (node p z)))) same (sync_there p i lt)))))

  -- what is in the past of an edge that a synchronization ends is before the next one
  pub past_next : (p i : ℕ) (a : EdgeId) → is_past program (record_of s) (edge p i) a ≡ true → i < length (get_or Rec p []) → EdgeBefore program Rec a (edge p (i + 1))
  past_next p i a e lt = by (is_same_edge a (edge p i)) refl e
    where
      by : (b : Bool) → is_same_edge a (edge p i) ≡ b → (b || is_edge_before program Rec a (edge p i)) ≡ true → EdgeBefore program Rec a (edge p (i + 1))
      by false is f = before_next a.process a.edge p i ((tests_edges program Rec a (edge p i)).0 f) lt
      by true is f = one (nat_eq a.process p) (nat_eq a.edge i) refl refl is
        where
          one : (x y : Bool) → nat_eq a.process p ≡ x → nat_eq a.edge i ≡ y → (x && y) ≡ true → EdgeBefore program Rec a (edge p (i + 1))
          one true true m n g = earlier (eqb-true a.process p m) (let z : a.edge ≡ i = eqb-true a.edge i n in omega (arith, z))
          one true false m n g = absurd (true≢false (sym g))
          one false y m n g = absurd (true≢false (sym g))
