-- Items are read one after another, with the state so far.
use Rattle.std.proofs.Common.{◌≡◌, ℕ, suc, ◌+◌, ◌<◌, Bool, true, false, cond, List, [], ◌∷◌, length, get_or, drop, Option, refl, ap, sym, ◌∙◌, subst, add-one, drop-cons}
use Rattle.std.specs.Prelude.{ℤ, fold}
use Rattle.ppd_ast.specs.declared.plan.BlockKind.{BlockKind}
use Rattle.ppd_ast.specs.declared.plan.BlockKind.TheVariants as block
use Rattle.ppd_ast.specs.declared.plan.Plan.{Plan}
use Rattle.ppd_ast.specs.declared.program.Program.{Program}
use Rattle.ppd_model.specs.declared.flow.Item.{Item}
use Rattle.ppd_model.specs.declared.flow.Item.TheVariants as item
use Rattle.ppd_graph.specs.declared.leaf_call.LeafCall.{LeafCall}
use Rattle.ppd_graph.specs.Locals.{Scan, scan_interval, scan_item}
use Rattle.ppd_flow_local.specs.Scans.{leaf_past}

-- the next item, and those after it
pub at_next : {A : Type 0} (xs : List A) (i : ℕ) (x : A) → i < length xs → x ≡ get_or xs i x → drop i xs ≡ x ∷ drop (i + 1) xs
at_next xs i x h is = drop-cons xs i x h ∙ (ap (λ y. y ∷ drop (suc i) xs) (sym is) ∙ ap (λ n. x ∷ drop n xs) (sym (add-one i)))

module _ (program : Program) (plan : Plan) where
  -- ---- the call whose activation goes on

  abbrev pub leaf_from : ℕ → Option LeafCall → List Item → Option LeafCall
  leaf_from n leaf [] = leaf
  leaf_from n leaf (x ∷ xs) = leaf_from (n + 1) (leaf_past program plan n leaf x) xs

  leaf_by_if : (b : Bool) (s t : Scan) → s.leaf ≡ t.leaf → (cond b s t).leaf ≡ t.leaf
  leaf_by_if true s t e = e
  leaf_by_if false s t e = refl

  leaf_of_values : (frame c m : ℕ) (kind : BlockKind) (cells : List ℕ) (values : List ℤ) (s : Scan)
      → (scan_interval program plan frame c m kind cells values s).leaf ≡ s.leaf
  leaf_of_values frame c m (block.Loop l) cells values s = leaf_by_if _ _ s refl
  leaf_of_values frame c m (block.Function f) cells [] s = refl
  leaf_of_values frame c m (block.Function f) cells (v ∷ vs) s = leaf_by_if _ _ s refl
  leaf_of_values frame c m (block.Process p) cells [] s = refl
  leaf_of_values frame c m (block.Process p) cells (v ∷ vs) s = leaf_by_if _ _ s refl

  leaf_of_item : (frame c : ℕ) (s : Scan) (x : Item) → (scan_item program plan frame c s x).leaf ≡ leaf_past program plan s.next s.leaf x
  leaf_of_item frame c s (item.Own e) = refl
  leaf_of_item frame c s (item.Nested m b values false) = refl
  leaf_of_item frame c s (item.Nested m b values true) = leaf_of_values frame c m _ _ values s

  next_of_item : (frame c : ℕ) (s : Scan) (x : Item) → (scan_item program plan frame c s x).next ≡ s.next + 1
  next_of_item frame c s (item.Own e) = refl
  next_of_item frame c s (item.Nested m b values false) = refl
  next_of_item frame c s (item.Nested m b values true) = refl

  pub leaf_of_scan : (frame c : ℕ) (s : Scan) (xs : List Item)
      → (fold (scan_item program plan frame c) s xs).leaf ≡ leaf_from s.next s.leaf xs
  leaf_of_scan frame c s [] = refl
  leaf_of_scan frame c s (x ∷ xs) =
      leaf_of_scan frame c (scan_item program plan frame c s x) xs
      ∙ subst (λ n. leaf_from n (scan_item program plan frame c s x).leaf xs ≡ leaf_from (s.next + 1) (leaf_past program plan s.next s.leaf x) xs) (sym (next_of_item frame c s x))
      (ap (λ leaf. leaf_from (s.next + 1) leaf xs) (leaf_of_item frame c s x))

  -- the next item
  pub leaf_next : (leaf now : Option LeafCall) (xs : List Item) (i : ℕ) (x : Item) (whole : Option LeafCall) → i < length xs → x ≡ get_or xs i x
      → now ≡ leaf_past program plan i leaf x → leaf_from i leaf (drop i xs) ≡ whole → leaf_from (i + 1) now (drop (i + 1) xs) ≡ whole
  leaf_next leaf now xs i x whole h is step so =
      ap (λ o. leaf_from (i + 1) o (drop (i + 1) xs)) step ∙ (ap (λ ys. leaf_from i leaf ys) (sym (at_next xs i x h is)) ∙ so)
