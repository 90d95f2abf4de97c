-- The cells of a statement and of those inside it.
use Rattle.std.proofs.Common.{◌≡◌, ◌≢◌, ℕ, ◌+◌, ◌-◌, ◌<◌, List, [], ◌++◌, Bool, Option, Some, None, length, get_or, take, sym, ap, ◌∙◌}
use Rattle.std.specs.Prelude.{slice_get}
use Rattle.std.specs.List.{flat_map}
use Rattle.std.proofs.lemmas.Grind.{flat_map-append}
use Rattle.ppd_ast.specs.declared.program.Stmt.{Stmt}
use Rattle.ppd_ast.specs.declared.program.Kind.{Kind}
use Rattle.ppd_ast.specs.declared.program.Program.{Program}
use Rattle.ppd_ast.specs.Order.{preorder, inner}
use Rattle.ppd_ast.proofs.Vocabulary.{inner_of, inner_at}
use Rattle.ppd_ast.proofs.Countings.{preorder_some}
use Rattle.ppd_ast.proofs.Walks.{flat_more}
use Rattle.ppd_ast.specs.Lookups.{kind_of}
use Rattle.ppd_ast.proofs.Vocabulary.{kind_of_stmt}
use Rattle.ppd_sets.specs.declared.touched.Touched.{Touched}
use Rattle.ppd_sets.specs.Gained.{GainsBoth}
use Rattle.ppd_sets.specs.Named.{reads, writes}
use Rattle.ppd_sets.specs.Used.{reads_at, writes_at}
use Rattle.ppd_sets.proofs.Gaining.{gains_both_then, gains_both_as, gains_both_none}

-- a statement that may stand no deeper has none
pub none_deep : (f : ℕ → List ℕ) (depth : ℕ) (stmts : List Stmt) (i : ℕ) → depth ≡ 0 → flat_map f (preorder depth stmts i) ≡ []
unfolding preorder
none_deep f depth stmts i e = ap (λ d. flat_map f (preorder d stmts i)) e

-- one that is not there has none
pub none_there : (f : ℕ → List ℕ) (depth : ℕ) (stmts : List Stmt) (i : ℕ) → depth ≢ 0 → slice_get stmts i ≡ None → f i ≡ [] → flat_map f (preorder depth stmts i) ≡ []
none_there f depth stmts i h at e =
    ap (flat_map f) (preorder_some depth stmts i h) ∙ ap (λ l. l ++ flat_map f (flat_map (preorder (depth - 1) stmts) (inner_at stmts i))) e
    ∙ ap (λ (o : Option Stmt). flat_map f (flat_map (preorder (depth - 1) stmts) (inner_of o))) at

-- a statement and those inside it
pub some_there : (f : ℕ → List ℕ) (depth : ℕ) (stmts : List Stmt) (i : ℕ) (x : Stmt) → depth ≢ 0 → slice_get stmts i ≡ Some x → f i ++ flat_map f (flat_map (preorder (depth - 1) stmts) (inner x.kind)) ≡ flat_map f (preorder depth stmts i)
some_there f depth stmts i x h at =
    sym (ap (flat_map f) (preorder_some depth stmts i h) ∙ ap (λ (o : Option Stmt). f i ++ flat_map f (flat_map (preorder (depth - 1) stmts) (inner_of o))) at)

module _ (p : Program) where
  reads_past : (w : Bool) (i : ℕ) → slice_get p.stmts i ≡ None → reads_at w p i ≡ []
  reads_past w i at = ap (λ (o : Option Stmt). reads w p.exprs (kind_of_stmt o)) at

  writes_past : (w : Bool) (i : ℕ) → slice_get p.stmts i ≡ None → writes_at w p i ≡ []
  writes_past w i at = ap (λ (o : Option Stmt). writes w (kind_of_stmt o)) at

  pub nothing_deep : (a : Touched) (w : Bool) (depth i : ℕ) → depth ≡ 0 → GainsBoth a a (flat_map (reads_at w p) (preorder depth p.stmts i)) (flat_map (writes_at w p) (preorder depth p.stmts i))
  nothing_deep a w depth i e =
      gains_both_as [] (flat_map (reads_at w p) (preorder depth p.stmts i)) [] (flat_map (writes_at w p) (preorder depth p.stmts i))
      (sym (none_deep (reads_at w p) depth p.stmts i e)) (sym (none_deep (writes_at w p) depth p.stmts i e)) (gains_both_none a)

  pub nothing_there : (a : Touched) (w : Bool) (depth i : ℕ) → depth ≢ 0 → slice_get p.stmts i ≡ None → GainsBoth a a (flat_map (reads_at w p) (preorder depth p.stmts i)) (flat_map (writes_at w p) (preorder depth p.stmts i))
  nothing_there a w depth i h at =
      gains_both_as [] (flat_map (reads_at w p) (preorder depth p.stmts i)) [] (flat_map (writes_at w p) (preorder depth p.stmts i))
      (sym (none_there (reads_at w p) depth p.stmts i h at (reads_past w i at))) (sym (none_there (writes_at w p) depth p.stmts i h at (writes_past w i at))) (gains_both_none a)

  pub with_inside : {a b d : Touched} (w : Bool) (depth i : ℕ) (x : Stmt) → depth ≢ 0 → slice_get p.stmts i ≡ Some x → GainsBoth a b (reads w p.exprs x.kind) (writes w x.kind) →
      GainsBoth b d (flat_map (reads_at w p) (flat_map (preorder (depth - 1) p.stmts) (inner x.kind))) (flat_map (writes_at w p) (flat_map (preorder (depth - 1) p.stmts) (inner x.kind))) →
      GainsBoth a d (flat_map (reads_at w p) (preorder depth p.stmts i)) (flat_map (writes_at w p) (preorder depth p.stmts i))
  with_inside w depth i x h at own rest =
      let r : ℕ → List ℕ = reads_at w p in
      let v : ℕ → List ℕ = writes_at w p in
      let is : kind_of p i ≡ x.kind = ap kind_of_stmt at in
      let below : List ℕ = flat_map (preorder (depth - 1) p.stmts) (inner x.kind) in
      gains_both_as (reads w p.exprs x.kind ++ flat_map r below) (flat_map r (preorder depth p.stmts i)) (writes w x.kind ++ flat_map v below) (flat_map v (preorder depth p.stmts i))
      (ap (λ (k : Kind). reads w p.exprs k ++ flat_map r below) (sym is) ∙ some_there r depth p.stmts i x h at)
      (ap (λ (k : Kind). writes w k ++ flat_map v below) (sym is) ∙ some_there v depth p.stmts i x h at)
      (gains_both_then own rest)

  -- the statements of two lists
  two : (f g : ℕ → List ℕ) (xs ys : List ℕ) → flat_map f (flat_map g xs) ++ flat_map f (flat_map g ys) ≡ flat_map f (flat_map g (xs ++ ys))
  two f g xs ys = sym (ap (flat_map f) (flat_map-append g xs ys) ∙ flat_map-append f (flat_map g xs) (flat_map g ys))

  pub both_lists : {a b d : Touched} (w : Bool) (depth : ℕ) (xs ys : List ℕ) → GainsBoth a b (flat_map (reads_at w p) (flat_map (preorder depth p.stmts) xs)) (flat_map (writes_at w p) (flat_map (preorder depth p.stmts) xs)) →
      GainsBoth b d (flat_map (reads_at w p) (flat_map (preorder depth p.stmts) ys)) (flat_map (writes_at w p) (flat_map (preorder depth p.stmts) ys)) →
      GainsBoth a d (flat_map (reads_at w p) (flat_map (preorder depth p.stmts) (xs ++ ys))) (flat_map (writes_at w p) (flat_map (preorder depth p.stmts) (xs ++ ys)))
  both_lists w depth xs ys g k =
      let r : ℕ → List ℕ = reads_at w p in
      let v : ℕ → List ℕ = writes_at w p in
      let q : ℕ → List ℕ = preorder depth p.stmts in
      gains_both_as (flat_map r (flat_map q xs) ++ flat_map r (flat_map q ys)) (flat_map r (flat_map q (xs ++ ys))) (flat_map v (flat_map q xs) ++ flat_map v (flat_map q ys)) (flat_map v (flat_map q (xs ++ ys)))
      (two r q xs ys) (two v q xs ys) (gains_both_then g k)

  flat_flat_more : (f g : ℕ → List ℕ) (xs : List ℕ) (i : ℕ) → i < length xs → flat_map f (flat_map g (take i xs)) ++ flat_map f (g (get_or xs i 0)) ≡ flat_map f (flat_map g (take (i + 1) xs))
  flat_flat_more f g xs i h = sym (ap (flat_map f) (flat_more g xs i 0 h) ∙ flat_map-append f (flat_map g (take i xs)) (g (get_or xs i 0)))

  -- one more statement of a list
  pub list_more : {a b d : Touched} (w : Bool) (depth : ℕ) (xs : List ℕ) (i : ℕ) → i < length xs → GainsBoth a b (flat_map (reads_at w p) (flat_map (preorder depth p.stmts) (take i xs))) (flat_map (writes_at w p) (flat_map (preorder depth p.stmts) (take i xs))) →
      GainsBoth b d (flat_map (reads_at w p) (preorder depth p.stmts (get_or xs i 0))) (flat_map (writes_at w p) (preorder depth p.stmts (get_or xs i 0))) →
      GainsBoth a d (flat_map (reads_at w p) (flat_map (preorder depth p.stmts) (take (i + 1) xs))) (flat_map (writes_at w p) (flat_map (preorder depth p.stmts) (take (i + 1) xs)))
  list_more w depth xs i h g k =
      let r : ℕ → List ℕ = reads_at w p in
      let v : ℕ → List ℕ = writes_at w p in
      let q : ℕ → List ℕ = preorder depth p.stmts in
      gains_both_as (flat_map r (flat_map q (take i xs)) ++ flat_map r (q (get_or xs i 0))) (flat_map r (flat_map q (take (i + 1) xs))) (flat_map v (flat_map q (take i xs)) ++ flat_map v (q (get_or xs i 0))) (flat_map v (flat_map q (take (i + 1) xs)))
      (flat_flat_more r q xs i h) (flat_flat_more v q xs i h) (gains_both_then g k)
