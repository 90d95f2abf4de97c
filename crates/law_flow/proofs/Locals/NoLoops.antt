-- Under a policy without block loops no block is a loop.
use Rattle.std.proofs.Common.{◌≡◌, ℕ, zero, suc, ◌+◌, Bool, true, false, not, ◌&&◌, List, [], ◌∷◌, ◌++◌, Option, Some, None, refl, sym, ap, ◌∙◌, subst, if◌then◌else◌}
use Rattle.std.specs.Prelude.{nat_le, nat_lt, option_map, slice_get}
use Rattle.std.specs.List.{AllByRecursion as Each, flat_map, enumerate_from}
use Rattle.std.proofs.lemmas.Option.{none-some, slice_get-map}
use Rattle.ppd_ast.specs.Numbered.{blocks_by, blocks_of, in_while, is_block_body, is_block_loop, is_while, loops_at, numbers_of}
use Rattle.ppd_ast.proofs.Vocabulary.{body_kind}
use Rattle.ppd_ast.proofs.Vocabulary.{inside_count, loops_of}
use Rattle.ppd_ast.specs.declared.limits.TheConstants.{MOST_NESTING}
use Rattle.ppd_ast.specs.declared.plan.BlockKind.{BlockKind}
use Rattle.ppd_ast.specs.declared.plan.BlockKind.TheVariants.{Function, Process, Loop}
use Rattle.ppd_ast.specs.declared.plan.Policy.{Policy}
use Rattle.ppd_ast.specs.declared.program.Body.{Body}
use Rattle.ppd_ast.specs.declared.program.Program.{Program}
use Rattle.ppd_ast.specs.declared.program.Stmt.{Stmt}
use Rattle.ppd_blocks.specs.Blocks.{plan_of}
use Rattle.ppd_blocks.proofs.Vocabulary.{block_of as block_from}
use Rattle.ppd_model.specs.NearIntervals.{is_loop}
use Rattle.ppd_model.proofs.Changes.{some}
use Rattle.ppd_sem.specs.Blocks.{block_kind}
use Rattle.ppd_sem.proofs.TableWords.{kind_in}
use Rattle.law_flow.specs.Locals.LocalReads.{PoliciesWithoutLoops}

abbrev IsNoLoop : BlockKind → Type 0
IsNoLoop k = is_loop k ≡ false

both : (xs ys : List BlockKind) → Each IsNoLoop xs → Each IsNoLoop ys → Each IsNoLoop (xs ++ ys)
both [] ys h g = g
both (x ∷ xs) ys h g = (h.0, both xs ys h.1 g)

all_flat : (f : ℕ → List BlockKind) → ((n : ℕ) → Each IsNoLoop (f n)) → (ns : List ℕ) → Each IsNoLoop (flat_map f ns)
all_flat f h [] = tt
all_flat f h (n ∷ ns) = both (f n) (flat_map f ns) (h n) (all_flat f h ns)

here : (xs : List BlockKind) (i : ℕ) (x : BlockKind) → Each IsNoLoop xs → slice_get xs i ≡ Some x → IsNoLoop x
here [] i x h e = absurd (none-some x e)
here (k ∷ ks) zero x h e = subst IsNoLoop (some e) h.0
here (k ∷ ks) (suc i) x h e = here ks i x h.1 e

module _ (p : Program) (policy : Policy) (none : policy.loops ≡ 0) where
  no_test : (s : Stmt) → is_block_loop p.stmts policy s ≡ false
  no_test s =
      ap (λ n. is_while s.kind && nat_lt 0 n && not (in_while MOST_NESTING p.stmts s.parent) && nat_le policy.loops
      (inside_count p.stmts s.kind)) none
      ∙ by (is_while s.kind) (not (in_while MOST_NESTING p.stmts s.parent))
      (nat_le policy.loops (inside_count p.stmts s.kind))
    where
      by : (a b c : Bool) → (a && false && b && c) ≡ false
      by true b c = refl
      by false b c = refl

  no_loops : (n : ℕ) (o : Option Stmt) → Each IsNoLoop (loops_of p.stmts policy n o)
  no_loops n None = tt
  no_loops n (Some s) = subst (λ b. Each IsNoLoop (if b then Loop n ∷ [] else [])) (sym (no_test s)) tt

  own_kind : (j : ℕ) (block process : Bool)
      → Each IsNoLoop (if block then (if process then Process j else Function j) ∷ [] else [])
  own_kind j false process = tt
  own_kind j true true = (refl, tt)
  own_kind j true false = (refl, tt)

  all_kinds : (j : ℕ) (bs : List Body) → Each IsNoLoop (flat_map (λ e. blocks_of p.stmts policy e.0 e.1) (enumerate_from j bs))
  all_kinds j [] = tt
  all_kinds j (b ∷ bs) =
      both (blocks_of p.stmts policy j b) (flat_map (λ e. blocks_of p.stmts policy e.0 e.1) (enumerate_from (j + 1) bs))
      (both (if is_block_body p.stmts policy b then body_kind j b ∷ [] else [])
      (flat_map (loops_at p.stmts policy) (numbers_of p.stmts b))
      (own_kind j (is_block_body p.stmts policy b) b.process)
      (all_flat (loops_at p.stmts policy) (λ n. no_loops n (slice_get p.stmts n)) (numbers_of p.stmts b)))
      (all_kinds (j + 1) bs)

  pub no_loop_blocks : (b : ℕ) → is_loop (block_kind (plan_of p policy) b) ≡ false
  no_loop_blocks b = ap (λ o. is_loop (kind_in o))
      (slice_get-map (block_from p) (blocks_by p.stmts policy p.bodies) b)
      ∙ by (slice_get (blocks_by p.stmts policy p.bodies) b) refl
    where
      by : (o : Option BlockKind) → slice_get (blocks_by p.stmts policy p.bodies) b ≡ o
          → is_loop (kind_in (option_map (block_from p) o)) ≡ false
      by None e = refl
      by (Some k) e = here (blocks_by p.stmts policy p.bodies) b k (all_kinds 0 p.bodies) e

pub without_loops : PoliciesWithoutLoops
without_loops program policy y k j frame none = record {
  before = λ b m i lt at there. no_loop_blocks program policy none i.block;
  interval = λ zero_frame i there. no_loop_blocks program policy none i.block;
}
