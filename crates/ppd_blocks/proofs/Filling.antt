-- The lists of a block's cells.
use Rattle.ppd_ast.specs.declared.limits.TheConstants.{MOST_NESTING}
use Rattle.ppd_ast.specs.Order.{preorder}
use Rattle.std.proofs.Common.{◌≡◌, ◌↔◌, ℕ, ◌+◌, ◌<◌, List, [], ◌∷◌, ◌++◌, Bool, false, Option, None, length, get_or, map, take, true, refl, sym, ap, ◌∙◌, arith, inl, inr, true≢false, append-nil}
use Rattle.std.specs.Prelude.{IsTrue, slice_get, not, if◌then◌else◌}
use Rattle.std.specs.List.{filter, flat_map, range_with_len}
use Rattle.std.proofs.lemmas.Bool.{cases_lt}
use Rattle.std.proofs.lemmas.List.{take_more}
use Rattle.std.proofs.lemmas.List.Elements.{filter-append}
use Rattle.ppd_ast.specs.declared.program.Stmt.{Stmt}
use Rattle.ppd_ast.specs.Numbered.{is_while}
use Rattle.ppd_sets.proofs.Gaining.{range_push}
use Rattle.ppd_ast.specs.declared.program.Program.{Program}
use Rattle.ppd_ast.specs.declared.plan.Block.{Block}
use Rattle.ppd_ast.specs.declared.plan.BlockKind.{BlockKind}
use Rattle.ppd_ast.specs.Bare.{bare_block}
use Rattle.ppd_sets.proofs.FlowRows.{row_at, length_rows}
use Rattle.ppd_ast.proofs.Walks.{got_none}
use Rattle.ppd_ast.proofs.Vocabulary.{kind_of_stmt}
use Rattle.ppd_sets.specs.SetsOf.{AreSetsOf}
use Rattle.ppd_sets.specs.Used.{reads_at, writes_at, sorted, local_in}
use Rattle.ppd_sets.specs.declared.var_sets.VarSets.{VarSets}
use Rattle.ppd_blocks.specs.Blocks.{loop_in}

-- ---- the sets of a loop

loop_row : (p : Program) (f : ℕ → List ℕ) (rows : List (List ℕ)) (q : ℕ) → rows ≡ map f (range_with_len 0 (length p.stmts)) → q < length rows → get_or rows q [] ≡ f q
loop_row p f rows q is h =
    let long : length rows ≡ length p.stmts = ap length is ∙ length_rows f 0 (length p.stmts) in
    let e : 0 + q ≡ q = omega arith in
    ap (λ rs. get_or rs q []) is ∙ row_at f 0 (length p.stmts) q (omega (arith, h, long)) ∙ ap f e

pub used_row : (p : Program) (s : VarSets) (q : ℕ) → AreSetsOf p s → q < length s.loop_used → get_or s.loop_used q [] ≡ local_in p (reads_at false p) q
used_row p s q sets h = loop_row p (local_in p (reads_at false p)) s.loop_used q sets.loop_used h

pub defined_row : (p : Program) (s : VarSets) (q : ℕ) → AreSetsOf p s → q < length s.loop_defined → get_or s.loop_defined q [] ≡ local_in p (writes_at false p) q
defined_row p s q sets h = loop_row p (local_in p (writes_at false p)) s.loop_defined q sets.loop_defined h

-- a statement that is not there has none
past : (p : Program) (s : VarSets) (q : ℕ) (r : Bool) → AreSetsOf p s → IsTrue r ↔ ((q < length s.loop_used) × (q < length s.loop_defined)) → r ≡ false → slice_get p.stmts q ≡ None
past p s q r sets there none = elim (cases_lt q (length p.stmts)) [
  | inl below ↦
      let used : length s.loop_used ≡ length p.stmts = ap length sets.loop_used ∙ length_rows (local_in p (reads_at false p)) 0 (length p.stmts) in
      let defined : length s.loop_defined ≡ length p.stmts = ap length sets.loop_defined ∙ length_rows (local_in p (writes_at false p)) 0 (length p.stmts) in
      absurd (true≢false (sym (there.1 (omega (arith, below, used), omega (arith, below, defined))) ∙ none))
  | inr out ↦ got_none p.stmts q out
]

pub used_none : (p : Program) (s : VarSets) (q : ℕ) (r : Bool) → AreSetsOf p s → IsTrue r ↔ ((q < length s.loop_used) × (q < length s.loop_defined)) → r ≡ false → [] ≡ local_in p (reads_at false p) q
used_none p s q r sets there none =
    sym (ap (λ (o : Option Stmt). if is_while (kind_of_stmt o) then sorted (flat_map (reads_at false p) (preorder MOST_NESTING p.stmts q)) else []) (past p s q r sets there none))

pub defined_none : (p : Program) (s : VarSets) (q : ℕ) (r : Bool) → AreSetsOf p s → IsTrue r ↔ ((q < length s.loop_used) × (q < length s.loop_defined)) → r ≡ false → [] ≡ local_in p (writes_at false p) q
defined_none p s q r sets there none =
    sym (ap (λ (o : Option Stmt). if is_while (kind_of_stmt o) then sorted (flat_map (writes_at false p) (preorder MOST_NESTING p.stmts q)) else []) (past p s q r sets there none))

pub one_more : (k : ℕ) (old new : List ℕ) → old ≡ range_with_len 0 k → new ≡ old ++ k ∷ [] → new ≡ range_with_len 0 (k + 1)
one_more k old new before now =
    let e : 0 + k ≡ k = omega arith in
    now ∙ ap (λ l. l ++ k ∷ []) before ∙ sym (range_push 0 k ∙ ap (λ i. range_with_len 0 k ++ i ∷ []) e)

-- ---- the loops among the blocks

pub loops_of_kinds : (p : Program) (kinds : List BlockKind) → flat_map (λ (b : Block). loop_in b.kind) (map (bare_block p.bodies) kinds) ≡ flat_map loop_in kinds
loops_of_kinds p [] = refl
loops_of_kinds p (k ∷ ks) = ap (λ l. loop_in k ++ l) (loops_of_kinds p ks)

-- ---- what a test leaves of a list, one number after another

left_more : (test : ℕ → Bool) (ns : List ℕ) (i : ℕ) → i < length ns → filter (λ t. not (test t)) (take (i + 1) ns) ≡ filter (λ t. not (test t)) (take i ns) ++ (if not (test (get_or ns i 0)) then get_or ns i 0 ∷ [] else [])
left_more test ns i lt =
    ap (filter (λ t. not (test t))) (take_more ns i 0 lt) ∙ filter-append (λ t. not (test t)) (take i ns) (get_or ns i 0 ∷ [])

pub left_in : (test : ℕ → Bool) (ns ids : List ℕ) (i : ℕ) (b : Bool) → i < length ns → ids ≡ filter (λ t. not (test t)) (take i ns) → b ≡ test (get_or ns i 0) → b ≡ false →
    ids ++ get_or ns i 0 ∷ [] ≡ filter (λ t. not (test t)) (take (i + 1) ns)
left_in test ns ids i b lt e is off =
    ap (λ l. l ++ get_or ns i 0 ∷ []) e
    ∙ sym (left_more test ns i lt ∙ ap (λ c. filter (λ t. not (test t)) (take i ns) ++ (if not c then get_or ns i 0 ∷ [] else [])) (sym is ∙ off))

pub left_out : (test : ℕ → Bool) (ns ids : List ℕ) (i : ℕ) (b : Bool) → i < length ns → ids ≡ filter (λ t. not (test t)) (take i ns) → b ≡ test (get_or ns i 0) → b ≡ true →
    ids ≡ filter (λ t. not (test t)) (take (i + 1) ns)
left_out test ns ids i b lt e is on =
    e ∙ sym (left_more test ns i lt ∙ ap (λ c. filter (λ t. not (test t)) (take i ns) ++ (if not c then get_or ns i 0 ∷ [] else [])) (sym is ∙ on) ∙ append-nil (filter (λ t. not (test t)) (take i ns)))
