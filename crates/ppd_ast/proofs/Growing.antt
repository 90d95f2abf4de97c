-- Lists that a walk over statements or bodies makes longer.
use Rattle.std.proofs.Common.{◌≡◌, ℕ, ◌+◌, ◌-◌, ◌<◌, ◌≤◌, true, false, List, [], ◌∷◌, ◌++◌, length, get_or, map, take, sym, ap, ◌∙◌, if◌then◌else◌}
use Rattle.std.specs.Prelude.{Result, Ok, Err, OnOk}
use Rattle.std.specs.List.{flat_map, range_with_len, enumerate_from}
use Rattle.std.proofs.lemmas.List.{append_assoc, map-append}
use Rattle.ppd_ast.specs.declared.program.Stmt.{Stmt}
use Rattle.ppd_ast.specs.declared.program.Body.{Body}
use Rattle.ppd_ast.specs.declared.plan.Policy.{Policy}
use Rattle.ppd_ast.specs.declared.plan.BlockKind.TheVariants.{Loop}
use Rattle.ppd_ast.specs.declared.plan.Start.TheVariants.{After, Enter, Exit}
use Rattle.ppd_ast.specs.Numbered.{is_left, is_block_loop, loops_at, starts_of, starts_at}
use Rattle.ppd_ast.proofs.Vocabulary.{loops_of}
use Rattle.ppd_ast.proofs.Ranges.{range_more, flat_one, each_more}
use Rattle.ppd_ast.proofs.Walks.{got_some}

-- what stands at a statement
module _ (stmts : List Stmt) (policy : Policy) (k : ℕ) (s : Stmt) (inside : k < length stmts) (is : s ≡ get_or stmts k s) where
  pub loops_none : is_block_loop stmts policy s ≡ false → loops_at stmts policy k ≡ []
  loops_none f = ap (loops_of stmts policy k) (got_some stmts k s inside is) ∙ ap (λ b. if b then Loop k ∷ [] else []) f

  pub starts_none : is_left s.kind ≡ false → is_block_loop stmts policy s ≡ false → starts_at stmts policy k ≡ []
  starts_none l f =
      ap (starts_of stmts policy k) (got_some stmts k s inside is)
      ∙ ap (λ b. if b then After k ∷ [] else if is_block_loop stmts policy s then Enter k ∷ Exit k ∷ [] else []) l
      ∙ ap (λ b. if b then Enter k ∷ Exit k ∷ [] else []) f

  pub starts_loop : is_left s.kind ≡ false → is_block_loop stmts policy s ≡ true → starts_at stmts policy k ≡ Enter k ∷ Exit k ∷ []
  starts_loop l f =
      ap (starts_of stmts policy k) (got_some stmts k s inside is)
      ∙ ap (λ b. if b then After k ∷ [] else if is_block_loop stmts policy s then Enter k ∷ Exit k ∷ [] else []) l
      ∙ ap (λ b. if b then Enter k ∷ Exit k ∷ [] else []) f

module _ {A X : Type 0} (h : A → X) where
  -- one more number
  pub numbers_more : (f : ℕ → List A) (start now next : List X) (a k : ℕ) → a ≤ k
      → now ≡ start ++ map h (flat_map f (range_with_len a (k - a))) → next ≡ now ++ map h (f k)
      → next ≡ start ++ map h (flat_map f (range_with_len a (k + 1 - a)))
  numbers_more f start now next a k low e g =
      g ∙ ap (λ l. l ++ map h (f k)) e ∙ append_assoc start (map h (flat_map f (range_with_len a (k - a)))) (map h (f k))
      ∙ ap (λ l. start ++ l) (sym (map-append h (flat_map f (range_with_len a (k - a))) (f k)) ∙ ap (map h) (sym (flat_one f (range_with_len a (k - a)) k) ∙ ap (flat_map f) (sym (range_more a k low))))

  -- one more body
  pub bodies_grown : (f : ℕ → Body → List A) (now next : List X) (bs : List Body) (k : ℕ) (b : Body) → k < length bs → b ≡ get_or bs k b
      → now ≡ map h (flat_map (λ e. f e.0 e.1) (enumerate_from 0 (take k bs))) → next ≡ now ++ map h (f k b)
      → next ≡ map h (flat_map (λ e. f e.0 e.1) (enumerate_from 0 (take (k + 1) bs)))
  bodies_grown f now next bs k b inside is e g =
      g ∙ ap (λ l. l ++ map h (f k b)) e ∙ sym (map-append h (flat_map (λ e. f e.0 e.1) (enumerate_from 0 (take k bs))) (f k b)) ∙ ap (map h) (sym (each_more f bs k b inside is))

-- what follows from what holds on success holds on success
pub on_ok : {T E A B : Type 0} (r : Result T E) → (A → B) → OnOk r A → OnOk r B
on_ok (Ok t) f h = f h
on_ok (Err e) f h = h
