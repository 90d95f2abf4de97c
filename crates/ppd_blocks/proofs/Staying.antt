-- The ways that stay in a unit.
use Rattle.ppd_ast.proofs.Members.{filter_has, has_filter}
use Rattle.ppd_ast.specs.Members.{AreBelow, has}
use Rattle.ppd_ast.specs.Valid.{IsValid}
use Rattle.ppd_ast.specs.declared.plan.Start.TheVariants.{After, Entry, Exit}
use Rattle.ppd_ast.specs.declared.program.Program.{Program}
use Rattle.ppd_ast.specs.declared.program.Stmt.{Stmt}
use Rattle.ppd_blocks.proofs.Fitting.{Fits, first_of_body_fits, follow_fits, listed_below, next_below}
use Rattle.ppd_blocks.proofs.Vocabulary.{unit_next}
use Rattle.ppd_blocks.specs.Walk.{begin_of, enters, is_between, stands_at, unit_rows}
use Rattle.ppd_sets.proofs.Leading.{row_there}
use Rattle.ppd_sets.proofs.FlowRows.{length_rows, row_at, rows_are}
use Rattle.ppd_sets.specs.Flow.{flow_rows, next_of}
use Rattle.ppd_sets.specs.WorkList.{AreRowsBelow}
use Rattle.std.proofs.Common.{Bool, List, None, Option, Some, ap, arith, false, inl, inr, length, refl, subst, suc, sym, true, zero, ℕ, ◌+◌, ◌-◌, ◌<◌, ◌∙◌, ◌≡◌, ◌≢◌}
use Rattle.std.proofs.lemmas.Bool.{cases_Bool}
use Rattle.std.specs.List.{find}
use Rattle.std.specs.Prelude.{IsTrue, [], get_or, if◌then◌else◌, nat_eq, not, option_and_then, option_to_list, slice_get, ◌||◌}

-- ---- what a statement stands in

pub stands_deep : (depth : ℕ) (stmts : List Stmt) (q : ℕ) (o : Option ℕ) → depth ≡ 0 → stands_at depth stmts q o ≡ false
unfolding stands_at
stands_deep depth stmts q o e = ap (λ d. stands_at d stmts q o) e

pub stands_none : (depth : ℕ) (stmts : List Stmt) (q : ℕ) → stands_at depth stmts q None ≡ false
unfolding stands_at
stands_none zero stmts q = refl
stands_none (suc d) stmts q = refl

pub stands_some : (depth : ℕ) (stmts : List Stmt) (q s : ℕ) → depth ≢ 0 → stands_at depth stmts q (Some s) ≡ (nat_eq s q || stands_at (depth - 1) stmts q (option_and_then (λ x. x.parent) (slice_get stmts s)))
unfolding stands_at
stands_some zero stmts q s h = absurd (h refl)
stands_some (suc d) stmts q s h = let e : d ≡ suc d - 1 = omega arith in ap (λ k. nat_eq s q || stands_at k stmts q (option_and_then (λ x. x.parent) (slice_get stmts s))) e

-- ---- the rows

pub unit_rows_long : (p : Program) (loops : List ℕ) → length (unit_rows p loops) ≡ length p.stmts
unit_rows_long p loops = length_rows (unit_next p loops) 0 (length p.stmts)

pub unit_row_is : (p : Program) (loops : List ℕ) (a : ℕ) → a < length p.stmts → get_or (unit_rows p loops) a [] ≡ unit_next p loops a
unit_row_is p loops a h = let e : 0 + a ≡ a = omega arith in row_at (unit_next p loops) 0 (length p.stmts) a h ∙ ap (unit_next p loops) e

pub row_gives : (p : Program) (loops : List ℕ) (a b : ℕ) → IsTrue (has (get_or (unit_rows p loops) a []) b) → IsTrue (has (next_of p a) b) × IsTrue (not (is_between p loops a b))
row_gives p loops a b h =
    let there : a < length p.stmts = subst (λ n. a < n) (unit_rows_long p loops) (row_there (unit_rows p loops) a b h) in
    has_filter (λ t. not (is_between p loops a t)) (next_of p a) b (subst (λ xs. IsTrue (has xs b)) (unit_row_is p loops a there) h)

pub row_from : (p : Program) (loops : List ℕ) (a b : ℕ) → IsTrue (has (next_of p a) b) → IsTrue (not (is_between p loops a b)) → IsTrue (has (get_or (unit_rows p loops) a []) b)
row_from p loops a b h k =
    let flows : IsTrue (has (get_or (flow_rows p) a []) b) = subst (λ xs. IsTrue (has xs b)) (sym (rows_are p a)) h in
    let there : a < length p.stmts = subst (λ n. a < n) (length_rows (next_of p) 0 (length p.stmts)) (row_there (flow_rows p) a b flows) in
    subst (λ xs. IsTrue (has xs b)) (sym (unit_row_is p loops a there)) (filter_has (λ t. not (is_between p loops a t)) (next_of p a) b h k)

pub unit_rows_below : (p : Program) (loops : List ℕ) → IsValid p → AreRowsBelow (unit_rows p loops)
unit_rows_below p loops v a x h = subst (λ n. x < n) (sym (unit_rows_long p loops)) (next_below p a v x (row_gives p loops a x h).0)

-- ---- where a unit begins

pub unless_yes : (test : ℕ → Bool) (x : ℕ) → test x ≡ true → find (λ t. not (test t)) (option_to_list (Some x)) ≡ None
unless_yes test x e = ap (λ b. if not b then Some x else None) e

pub unless_no : (test : ℕ → Bool) (x : ℕ) → test x ≡ false → find (λ t. not (test t)) (option_to_list (Some x)) ≡ Some x
unless_no test x e = ap (λ b. if not b then Some x else None) e

unless_fits : (n : ℕ) (test : ℕ → Bool) (o : Option ℕ) → Fits n o → Fits n (find (λ t. not (test t)) (option_to_list o))
unless_fits n test None f = tt
unless_fits n test (Some x) f = elim (cases_Bool (test x)) [
  | inl e ↦ subst (Fits n) (sym (unless_yes test x e)) tt
  | inr e ↦ subst (Fits n) (sym (unless_no test x e)) f
]

pub entry_below : (p : Program) (loops : List ℕ) (b : ℕ) → IsValid p → AreBelow (length p.stmts) (option_to_list (begin_of p loops (Entry b)))
entry_below p loops b v = listed_below (length p.stmts) (begin_of p loops (Entry b)) (unless_fits (length p.stmts) (has loops) _ (first_of_body_fits p b v))

pub after_below : (p : Program) (loops : List ℕ) (s : ℕ) → IsValid p → AreBelow (length p.stmts) (option_to_list (begin_of p loops (After s)))
after_below p loops s v = listed_below (length p.stmts) (begin_of p loops (After s)) (unless_fits (length p.stmts) (enters p loops s) _ (follow_fits p s v))

pub exit_below : (p : Program) (loops : List ℕ) (s : ℕ) → IsValid p → AreBelow (length p.stmts) (option_to_list (begin_of p loops (Exit s)))
exit_below p loops s v = listed_below (length p.stmts) (begin_of p loops (Exit s)) (unless_fits (length p.stmts) (enters p loops s) _ (follow_fits p s v))
