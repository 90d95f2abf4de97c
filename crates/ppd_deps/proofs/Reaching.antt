-- The rows along which a local variable's values are kept, and where they come.
use Rattle.ppd_ast.proofs.Members.{flat_gives, has_cases}
use Rattle.ppd_ast.proofs.Those.{both}
use Rattle.ppd_ast.specs.Lookups.{body_numbered, body_of, kind_of}
use Rattle.ppd_ast.specs.Members.{AreBelow, has}
use Rattle.ppd_ast.specs.Valid.{IsValid}
use Rattle.ppd_ast.specs.declared.program.Program.{Program}
use Rattle.ppd_ast.specs.declared.program.Var.{Var}
use Rattle.ppd_blocks.proofs.Fitting.{first_of_body_fits, listed_below, next_below}
use Rattle.ppd_sets.proofs.Leading.{leads-tests, row_there}
use Rattle.ppd_sets.proofs.FlowRows.{length_rows, row_at}
use Rattle.ppd_sets.specs.Flow.{next_of}
use Rattle.ppd_sets.specs.Reach.{Reached, closure, leads}
use Rattle.ppd_sets.specs.WorkList.{AreRowsBelow, is_marked}
use Rattle.ppd_deps.proofs.Vocabulary.{kept_next, passes}
use Rattle.ppd_deps.specs.Edges.{begins, ends_paths, kept_rows}
use Rattle.ppd_deps.specs.Named.{own_vars, places}
use Rattle.ppd_sets.specs.Used.{writes_at}
use Rattle.std.proofs.Common.{Bool, List, Option, [], ap, arith, false, inl, inr, length, refl, subst, sym, true, true≢false, ℕ, ◌+◌, ◌<◌, ◌↔◌, ◌∙◌, ◌≡◌}
use Rattle.std.specs.List.{filter, flat_map}
use Rattle.std.specs.Prelude.{IsTrue, get_or, if◌then◌else◌, nat_eq, not, option_to_list, slice_get, ◌&&◌}

pub kept_long : (p : Program) (b : ℕ) (x : Option Var) → length (kept_rows p b x) ≡ length p.stmts
kept_long p b x = length_rows (kept_next p b x) 0 (length p.stmts)

pub kept_row_is : (p : Program) (b : ℕ) (x : Option Var) (u : ℕ) → u < length p.stmts → get_or (kept_rows p b x) u [] ≡ kept_next p b x u
kept_row_is p b x u h = let e : 0 + u ≡ u = omega arith in row_at (kept_next p b x) 0 (length p.stmts) u h ∙ ap (kept_next p b x) e

if_has : (c : Bool) (xs : List ℕ) (y : ℕ) → IsTrue (has (if c then xs else []) y) → IsTrue c × IsTrue (has xs y)
if_has true xs y h = (refl, h)
if_has false xs y h = absurd (true≢false (sym h))

pub row_gives : (p : Program) (b : ℕ) (x : Option Var) (u t : ℕ) → IsTrue (has (get_or (kept_rows p b x) u []) t) → IsTrue (nat_eq (body_of p u) b && not (ends_paths x (kind_of p u))) × IsTrue (has (next_of p u) t)
row_gives p b x u t h =
    let there : u < length p.stmts = subst (λ n. u < n) (kept_long p b x) (row_there (kept_rows p b x) u t h) in
    if_has (nat_eq (body_of p u) b && not (ends_paths x (kind_of p u))) (next_of p u) t (subst (λ xs. IsTrue (has xs t)) (kept_row_is p b x u there) h)

pub kept_below : (p : Program) (b : ℕ) (x : Option Var) → IsValid p → AreRowsBelow (kept_rows p b x)
kept_below p b x v u t h = subst (λ n. t < n) (sym (kept_long p b x)) (next_below p u v t (row_gives p b x u t h).1)

-- where the paths begin there are statements
pub begins_below : (p : Program) (b s v : ℕ) → IsValid p → AreBelow (length p.stmts) (begins p b s v)
begins_below p b s v valid t h =
    elim (has_cases (flat_map (next_of p) (filter (λ c. has (own_vars p (writes_at false p) c) v) (places p b s))) (if passes p b s v then option_to_list (slice_get (body_numbered p b).top 0) else []) t h) [
      | inl l ↦ (let from = flat_gives (next_of p) (filter (λ c. has (own_vars p (writes_at false p) c) v) (places p b s)) t l in next_below p from.0 valid t from.2)
      | inr r ↦ listed_below (length p.stmts) (slice_get (body_numbered p b).top 0) (first_of_body_fits p b valid) t (if_has (passes p b s v) (option_to_list (slice_get (body_numbered p b).top 0)) t r).1
    ]

-- the marks of a work list are what closed rows lead to
pub marks_lead : (rows : List (List ℕ)) (starts : List ℕ) (marks : List Bool) → ((x : ℕ) → IsTrue (is_marked marks x) ↔ Reached rows starts x) → (x : ℕ) → is_marked marks x ≡ leads (closure rows) starts x
marks_lead rows starts marks h x =
    let tests = leads-tests rows starts x in
    both (is_marked marks x) (leads (closure rows) starts x) (λ m. tests.1 ((h x).0 m)) (λ l. (h x).1 (tests.0 l))
