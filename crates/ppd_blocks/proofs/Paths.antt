-- The cells of a unit by flow paths, and that they are shared cells, rising.
use Rattle.std.proofs.Common.{◌≡◌, ℕ, zero, suc, ◌+◌, ◌<◌, ◌≤◌, List, [], ◌∷◌, ◌++◌, Bool, true, false, Option, Some, None, length, get_or, refl, sym, ap, subst, arith, inl, inr, true≢false}
use Rattle.std.specs.Prelude.{IsTrue, not, option_to_list}
use Rattle.std.specs.List.{All, flat_map, range_with_len}
use Rattle.std.specs.List.Sorted.{IsStrictlyIncreasing}
use Rattle.std.proofs.lemmas.List.Kept.{IsStrictlyIncreasing-filter}
use Rattle.std.proofs.lemmas.List.FromFn.{length-range_with_len, get_or-range_with_len}
use Rattle.ppd_ast.specs.declared.program.Program.{Program}
use Rattle.ppd_ast.specs.declared.plan.Start.{Start}
use Rattle.ppd_ast.specs.Members.{has, those}
use Rattle.ppd_ast.proofs.Members.{has_first, has_later, has_cons, has_filter, filter_has, from_zero, flat_gives, flat_from}
use Rattle.ppd_ast.specs.declared.limits.TheConstants.{MOST_SHARED_CELLS}
use Rattle.ppd_sets.specs.Reach.{Reached, start, next, closure, leads}
use Rattle.ppd_sets.specs.Flow.{next_of}
use Rattle.ppd_sets.proofs.Leading.{leads-tests}
use Rattle.ppd_sets.specs.Used.{reads_at, sorted}
use Rattle.ppd_blocks.specs.Walk.{is_between, unit_rows, begin_of}
use Rattle.ppd_blocks.specs.Laws.{IsUnitPath, MayRead, CellsByPaths, CellsAreShared}
use Rattle.ppd_blocks.proofs.Staying.{row_gives, row_from}
use Rattle.ppd_blocks.proofs.Reading.{reads_below, read_is_stmt}

at_place : (xs : List ℕ) (k d : ℕ) → k < length xs → IsTrue (has xs (get_or xs k d))
at_place [] k d h = absurd (omega arith)
at_place (x ∷ xs) zero d h = has_first x xs
at_place (x ∷ xs) (suc k) d h = has_later x (get_or xs k d) xs (at_place xs k d (omega arith))

pub not_true : (b : Bool) → IsTrue (not b) → b ≡ false
not_true true h = absurd (true≢false (sym h))
not_true false h = refl

true_not : (b : Bool) → b ≡ false → IsTrue (not b)
true_not b e = ap not e

along : (p : Program) (loops starts : List ℕ) (s : ℕ) (rest : List ℕ) (t : ℕ) → Reached (unit_rows p loops) starts s → IsUnitPath p loops s rest t → Reached (unit_rows p loops) starts t
along p loops starts s [] t r e = subst (Reached (unit_rows p loops) starts) e r
along p loops starts s (u ∷ rest) t r path =
    along p loops starts u rest t (next r (row_from p loops s u path.0 (true_not (is_between p loops s u) path.1))) path.2

longer : (p : Program) (loops : List ℕ) (s : ℕ) (rest : List ℕ) (t u : ℕ) → IsUnitPath p loops s rest t → IsTrue (has (next_of p t) u) → is_between p loops t u ≡ false → IsUnitPath p loops s (rest ++ u ∷ []) u
longer p loops s [] t u e h k = (subst (λ z. IsTrue (has (next_of p z) u)) (sym e) h, subst (λ z. is_between p loops z u ≡ false) (sym e) k, refl)
longer p loops s (w ∷ rest) t u path h k = (path.0, path.1, longer p loops w rest t u path.2 h k)

chain : (p : Program) (loops : List ℕ) (s t : ℕ) → Reached (unit_rows p loops) (s ∷ []) t → (rest : List ℕ) × IsUnitPath p loops s rest t
chain p loops s t (start h) = elim (has_cons s t [] h) [ inl e ↦ ([], e) | inr f ↦ absurd (true≢false (sym f)) ]
chain p loops s t (next {a = a} r h) =
    let before = chain p loops s a r in
    let step = row_gives p loops a t h in
    (before.0 ++ t ∷ [], longer p loops s before.0 a t before.1 step.0 (not_true (is_between p loops a t) step.1))

-- ---- sorted cells

pub sorted_gives : (cells : List ℕ) (c : ℕ) → IsTrue (has (sorted cells) c) → IsTrue (has cells c)
unfolding sorted
sorted_gives cells c h = (has_filter (has cells) (range_with_len 0 MOST_SHARED_CELLS) c h).1

pub sorted_from : (cells : List ℕ) (c : ℕ) → c < MOST_SHARED_CELLS → IsTrue (has cells c) → IsTrue (has (sorted cells) c)
unfolding sorted
sorted_from cells c l h = filter_has (has cells) (range_with_len 0 MOST_SHARED_CELLS) c (from_zero c MOST_SHARED_CELLS l) h

pub range_rises : (a n : ℕ) → IsStrictlyIncreasing (range_with_len a n)
range_rises a n k h =
    let long : length (range_with_len a n) ≡ n = length-range_with_len a n in
    let next : k + 1 < n = omega (arith, h, long) in
    let x : get_or (range_with_len a n) k 0 ≡ a + k = get_or-range_with_len a n k 0 (omega (arith, next)) in
    let y : get_or (range_with_len a n) (k + 1) 0 ≡ a + (k + 1) = get_or-range_with_len a n (k + 1) 0 next in
    omega (arith, x, y)

pub sorted_rises : (cells : List ℕ) → IsStrictlyIncreasing (sorted cells)
unfolding sorted
sorted_rises cells = IsStrictlyIncreasing-filter (has cells) (range_with_len 0 MOST_SHARED_CELLS) (range_rises 0 MOST_SHARED_CELLS)

-- what holds of each number that the list has holds of each of its elements
pub all_from : (P : ℕ → Type 0) (xs : List ℕ) → ((x : ℕ) → IsTrue (has xs x) → P x) → All P xs
all_from P xs f k d h = f (get_or xs k d) (at_place xs k d h)

-- ---- the laws

none_reached : (rows : List (List ℕ)) (t : ℕ) → Reached rows [] t → ⊥
none_reached rows t (start h) = absurd (true≢false (sym h))
none_reached rows t (next {a = a} r h) = none_reached rows a r

begun : (p : Program) (loops : List ℕ) (s : Start) (c t : ℕ) (o : Option ℕ) → begin_of p loops s ≡ o → Reached (unit_rows p loops) (option_to_list o) t → IsTrue (has (reads_at true p t) c) → MayRead p loops s c
begun p loops s c t None e r h = absurd (none_reached (unit_rows p loops) t r)
begun p loops s c t (Some first) e r h = let way = chain p loops first t r in record { first = first; begins = e; rest = way.0; stmt = t; path = way.1; read = h }

pub cells_by_paths : CellsByPaths
cells_by_paths p loops s c v =
    let n : ℕ = length p.stmts in
    let rows : List (List ℕ) = unit_rows p loops in
    let starts : List ℕ = option_to_list (begin_of p loops s) in
    let test : ℕ → Bool = leads (closure rows) starts in
    let cells : List ℕ = flat_map (reads_at true p) (those n test) in (
      (λ h.
          let t = flat_gives (reads_at true p) (those n test) c (sorted_gives cells c h) in
          let reached = (leads-tests rows starts t.0).0 (has_filter test (range_with_len 0 n) t.0 t.1).1 in
          begun p loops s c t.0 (begin_of p loops s) refl reached t.2),
      (λ (m : MayRead p loops s c).
          let first : Reached rows starts m.first = subst (λ (o : Option ℕ). Reached rows (option_to_list o) m.first) (sym m.begins) (start (has_first m.first [])) in
          let reached : Reached rows starts m.stmt = along p loops starts m.first m.rest m.stmt first m.path in
          let stands = filter_has test (range_with_len 0 n) m.stmt (from_zero m.stmt n (read_is_stmt p m.stmt c m.read)) ((leads-tests rows starts m.stmt).1 reached) in
          let few : length p.starts ≤ MOST_SHARED_CELLS = v.limits.starts in
          let below : c < length p.starts = reads_below p m.stmt c v m.read in
          sorted_from cells c (omega (arith, few, below)) (flat_from (reads_at true p) (those n test) m.stmt c stands m.read)),
    )

pub cells_are_shared : CellsAreShared
cells_are_shared p loops s v =
    let rows : List (List ℕ) = unit_rows p loops in
    let starts : List ℕ = option_to_list (begin_of p loops s) in
    let stmts : List ℕ = those (length p.stmts) (leads (closure rows) starts) in
    let cells : List ℕ = flat_map (reads_at true p) stmts in
    record {
      rising = sorted_rises cells;
      below = all_from (λ c. c < length p.starts) (sorted cells)
          (λ c h. let t = flat_gives (reads_at true p) stmts c (sorted_gives cells c h) in reads_below p t.0 c v t.2);
    }
