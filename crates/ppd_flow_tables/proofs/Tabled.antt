-- The tables that are at hand: one more, and those of the same past with other replays kept.
use Rattle.std.proofs.Common.{◌≡◌, ℕ, zero, suc, ◌⊎◌, inl, inr, Bool, true, false, List, [], ◌∷◌, ◌++◌, Option, Some, None, ap, ◌∙◌, refl, subst, sym, get_or, length}
use Rattle.std.specs.Borrow.{Bor}
use Rattle.std.specs.Prelude.{IfSome, ◌&&◌, nat_eq, slice_get, slice_set, if◌then◌else◌}
use Rattle.std.proofs.lemmas.Bool.{eqb-true}
use Rattle.std.proofs.lemmas.Option.{none-some, same_Some}
use Rattle.ppd_flow_past.specs.declared.past.Past.{Past}
use Rattle.ppd_flow_tables.specs.declared.edge_table.EdgeTable.{EdgeTable}
use Rattle.ppd_flow_tables.specs.Tables.{IsEdgeTable, IsPlaceTable}
use Rattle.ppd_flow_past.specs.Keeping.{AreFirstItems, AreKeptOf}
use Rattle.ppd_flow_past.specs.SeenBy.{items_in}
use Rattle.ppd_model.specs.declared.flow.Item.{Item}
use Rattle.ppd_flow_tables.specs.declared.by_cell.WritingEdges.{WritingEdges}
use Rattle.ppd_flow_tables.specs.Writing.{AreWritingEdges}
use Rattle.ppd_flow_tables.specs.declared.block.BlockTables.{BlockTables}
use Rattle.ppd_flow_tables.specs.declared.process.ProcessTables.{ProcessTables}
use Rattle.ppd_flow_tables.specs.declared.tables.Tables.{Tables}
use Rattle.ppd_flow_tables.specs.declared.tables.Tables.TheVariants.{Nothing, Block, Kept}
use Rattle.ppd_flow_tables.specs.Tabled.{AreOfFirst, AreOfProcess, AreOfProcesses, AreTablesOf, IsOfInterval, block_in, blocks_of, edges_in, edges_of, writing_in}

-- ---- lists

last_or : {X : Type 0} (xs : List X) (y : X) (k : ℕ) (x : X) → slice_get (xs ++ y ∷ []) k ≡ Some x
    → (slice_get xs k ≡ Some x) ⊎ ((k ≡ length xs) × (y ≡ x))
last_or [] y zero x e = inr (refl, same_Some y x e)
last_or [] y (suc k) x e = absurd (none-some x e)
last_or (z ∷ xs) y zero x e = inl e
last_or (z ∷ xs) y (suc k) x e = elim (last_or xs y k x e) [
  | inl there ↦ inl there
  | inr last ↦ inr (ap suc last.0, last.1)
]

set_or : {X : Type 0} (xs : List X) (i : ℕ) (y d : X) (k : ℕ) (x : X) → get_or (slice_set xs i y) k d ≡ x
    → (get_or xs k d ≡ x) ⊎ ((k ≡ i) × (y ≡ x))
set_or [] i y d k x e = inl e
set_or (z ∷ xs) zero y d zero x e = inr (refl, e)
set_or (z ∷ xs) zero y d (suc k) x e = inl e
set_or (z ∷ xs) (suc i) y d zero x e = inl e
set_or (z ∷ xs) (suc i) y d (suc k) x e = elim (set_or xs i y d k x e) [
  | inl there ↦ inl there
  | inr here ↦ inr (ap suc here.0, here.1)
]

-- a default at the end changes nothing
end_default : {X : Type 0} (xs : List X) (d : X) (k : ℕ) → get_or (xs ++ d ∷ []) k d ≡ get_or xs k d
end_default [] d zero = refl
end_default [] d (suc k) = refl
end_default (z ∷ xs) d zero = refl
end_default (z ∷ xs) d (suc k) = end_default xs d k

-- ---- one more

pub first_none : (past : Past) (p : ℕ) → AreOfFirst past p []
first_none past p k t e = absurd (none-some t e)

pub first_more : (past : Past) (p k : ℕ) (ts : List BlockTables) (t : BlockTables) → length ts ≡ k
    → AreOfFirst past p ts → IsOfInterval past p k t → AreOfFirst past p (ts ++ t ∷ [])
first_more past p n ts t count all is k u e = elim (last_or ts t k u e) [
  | inl there ↦ all k u there
  | inr last ↦ subst (λ (v : BlockTables). IsOfInterval past p k v) last.1
      (subst (λ i. IsOfInterval past p i t) (sym (last.0 ∙ count)) is)
]

pub none_there : (past : Past) → AreOfProcesses past []
none_there past p t e = absurd (none-some t e)

pub nothing_more : (past : Past) (ts : List (Option ProcessTables)) → AreOfProcesses past ts
    → AreOfProcesses past (ts ++ None ∷ [])
nothing_more past ts all p t e = all p t (sym (end_default ts None p) ∙ e)

pub process_more : (past : Past) (p : ℕ) (ts : List (Option ProcessTables)) (t : ProcessTables) → AreOfProcesses past ts
    → AreOfProcess past p t → AreOfProcesses past (slice_set ts p (Some t))
process_more past p ts t all is q u e = elim (set_or ts p (Some t) None q (Some u) e) [
  | inl there ↦ all q u there
  | inr here ↦ subst (λ i. AreOfProcess past i u) (sym here.0)
      (subst (λ (v : ProcessTables). AreOfProcess past p v) (same_Some t u here.1) is)
]

-- ---- what is at hand

block_of_process : (past : Past) (p k : ℕ) (o : Option ProcessTables)
    → ((t : ProcessTables) → o ≡ Some t → AreOfProcess past p t)
    → (b : BlockTables) → slice_get (blocks_of o) k ≡ Some b → IsOfInterval past p k b
block_of_process past p k None all b e = absurd (none-some b e)
block_of_process past p k (Some t) all b e = (all t refl).1 k b e

one_block : (past : Past) (p k q m : ℕ) (c d : Bool) → nat_eq p q ≡ c → nat_eq k m ≡ d → (t b : BlockTables)
    → IsOfInterval past q m t → (if c && d then Some t else None) ≡ Some b → IsOfInterval past p k b
one_block past p k q m true true same at t b is e =
    subst (λ i. IsOfInterval past i k b) (sym (eqb-true p q same))
    (subst (λ j. IsOfInterval past q j b) (sym (eqb-true k m at))
    (subst (λ (u : BlockTables). IsOfInterval past q m u) (same_Some t b e) is))
one_block past p k q m true false same at t b is e = absurd (none-some b e)
one_block past p k q m false d same at t b is e = absurd (none-some b e)

pub block_is : (past : Past) (ts : Tables) (p k : ℕ) (b : BlockTables) → AreTablesOf past ts
    → block_in ts p k ≡ Some b → IsOfInterval past p k b
block_is past Nothing p k b all e = absurd (none-some b e)
block_is past (Block q m t) p k b all e = one_block past p k q m (nat_eq p q) (nat_eq k m) refl refl t.now b all e
block_is past (Kept ts w) p k b all e = block_of_process past p k (get_or ts.now p None) (all.0 p) b e

edges_of_process : (past : Past) (p : ℕ) (o : Option ProcessTables)
    → ((t : ProcessTables) → o ≡ Some t → AreOfProcess past p t)
    → (b : EdgeTable) → edges_of o ≡ Some b → IsEdgeTable (get_or past.logs.now.lists p []) b
edges_of_process past p None all b e = absurd (none-some b e)
edges_of_process past p (Some t) all b e =
    subst (λ (u : EdgeTable). IsEdgeTable (get_or past.logs.now.lists p []) u) (same_Some t.edges b e) (all t refl).0

pub edges_are : (past : Past) (ts : Tables) (p : ℕ) (b : EdgeTable) → AreTablesOf past ts → edges_in ts p ≡ Some b
    → IsEdgeTable (get_or past.logs.now.lists p []) b
edges_are past Nothing p b all e = absurd (none-some b e)
edges_are past (Block q m t) p b all e = absurd (none-some b e)
edges_are past (Kept ts w) p b all e = edges_of_process past p (get_or ts.now p None) (all.0 p) b e

pub writing_is : (past : Past) (ts : Tables) (w : WritingEdges) → AreTablesOf past ts → writing_in ts ≡ Some w
    → AreWritingEdges past.graph.now.edges w
writing_is past Nothing w all e = absurd (none-some w e)
writing_is past (Block q m t) w all e = absurd (none-some w e)
writing_is past (Kept ts v) w all e =
    subst (λ (u : WritingEdges). AreWritingEdges past.graph.now.edges u) (same_Some v.now w e) all.1

pub places_at : (past : Past) (ts : Tables) (p k : ℕ) (b : BlockTables) (items : List Item) → AreTablesOf past ts
    → Some b ≡ block_in ts p k → items ≡ items_in past p k
    → IsPlaceTable (get_or past.logs.now.lists p []) k items b.places
places_at past ts p k b items all e is =
    subst (λ (xs : List Item). IsPlaceTable (get_or past.logs.now.lists p []) k xs b.places) (sym is)
    (block_is past ts p k b all (sym e)).1

pub block_if : (past : Past) (ts : Tables) (p k : ℕ) (o : Option BlockTables) → AreTablesOf past ts
    → o ≡ block_in ts p k → IfSome o (IsOfInterval past p k)
block_if past ts p k None all e = tt
block_if past ts p k (Some b) all e = block_is past ts p k b all (sym e)

pub first_kept : (past : Past) (p : ℕ) (kept : List (List (List Item))) (rows : List (List Item))
    → rows ≡ get_or kept p [] → AreKeptOf past kept → AreFirstItems past p rows
first_kept past p kept rows e h =
    subst (λ (xs : List (List Item)). AreFirstItems past p xs) (sym e) (λ k items f. h.items p k items f)

-- ---- other replays

-- the tables of a past are those of the same past with other replays kept
pub tables_known : (past known : Past) (kept : Bor (List (List (List Item)))) (tables : Tables)
    → known ≡ record past { kept = kept } → AreTablesOf past tables → AreTablesOf known tables
tables_known past known kept tables e h = subst (λ (z : Past). AreTablesOf z tables) (sym e) h
