use Rattle.std.proofs.Common.{◌≡◌, ℕ, ◌+◌, ◌<◌, ◌≤◌, List, ◌∷◌, ◌&&◌, Bool, true, false, not, refl, ap, ap₂, sym, ◌∙◌, arith, drop, get_or, length, true≢false}
use Rattle.std.specs.Prelude.{nat_lt}
use Rattle.std.proofs.lemmas.Bool.{le-ltb, lt-ltb}
use Rattle.std.proofs.lemmas.List.{drop_all, drop_more}
use Rattle.ppd_ast.specs.declared.limits.TheConstants.{MOST_SHARED_CELLS}
use Rattle.ppd_race.specs.Union.{do_rise}
use Rattle.ppd_race.proofs.union.do_rise.Goals as goal
use Rattle.ppd_race.proofs.union.do_rise.Goals.{then-cell-next-via-then-cell-next, then-cell-next-via-else-cell-next+then-cell-ge-MOST_SHARED_CELLS}

both_hold : (n x : ℕ) (xs : List ℕ) → n ≤ x → x < MOST_SHARED_CELLS → do_rise (x + 1) xs ≡ do_rise n (x ∷ xs)
both_hold n x xs low high = sym (ap₂ (λ a b. not a && b && do_rise (x + 1) xs) (le-ltb x n low) (lt-ltb x MOST_SHARED_CELLS high))

too_low : (n x : ℕ) (xs : List ℕ) → x < n → do_rise n (x ∷ xs) ≡ false
too_low n x xs low = ap (λ a. not a && nat_lt x MOST_SHARED_CELLS && do_rise (x + 1) xs) (lt-ltb x n low)

too_high : (n x : ℕ) (xs : List ℕ) → MOST_SHARED_CELLS ≤ x → do_rise n (x ∷ xs) ≡ false
too_high n x xs high = ap (λ b. not (nat_lt x n) && b && do_rise (x + 1) xs) (le-ltb x MOST_SHARED_CELLS high) ∙ by (not (nat_lt x n))
  where
    by : (a : Bool) → (a && false && do_rise (x + 1) xs) ≡ false
    by true = refl
    by false = refl

here : (n i : ℕ) (cells : List ℕ) → i < length cells → do_rise n (get_or cells i 0 ∷ drop (i + 1) cells) ≡ do_rise n (drop i cells)
here n i cells lt = ap (do_rise n) (sym (drop_more cells i 0 lt))

pub returns-then-cell-next : goal.returns-then-cell-next
returns-then-cell-next g c =
    let cells = c.args.cells.now in
    let i = c.loop-cell.cell-index in
    let next = c.loop-cell.next in
    let x = get_or cells i 0 in
    let rest = drop (i + 1) cells in
    let no : do_rise next (x ∷ rest) ≡ false = elim c.then-cell-next.branch [
      | then-cell-next-via-then-cell-next w ↦ too_low next x rest w.if-cell-next.true
      | then-cell-next-via-else-cell-next+then-cell-ge-MOST_SHARED_CELLS w ↦ too_high next x rest w.if-cell-ge-MOST_SHARED_CELLS.true
    ] in
    record {
      value = sym no ∙ here next i cells c.loop-cell-test.true ∙ c.loop-cell.invariant.rest;
      cost = omega (arith, c.tick.ensures, c.loop-cell.invariant.spent, c.loop-cell-test.true);
      on = omega (arith, c.tick.ensures, c.loop-cell.invariant.spent);
      taken = λ t. absurd (true≢false (sym t));
    }

pub loop-cell-preserved : goal.loop-cell-preserved
loop-cell-preserved g c =
    let cells = c.args.cells.now in
    let i = c.loop-cell.cell-index in
    record {
      rest = both_hold c.loop-cell.next (get_or cells i 0) (drop (i + 1) cells) c.if-cell-next.false c.if-cell-ge-MOST_SHARED_CELLS.false ∙ here c.loop-cell.next i cells c.loop-cell-test.true ∙ c.loop-cell.invariant.rest;
      spent = omega (arith, c.tick.ensures, c.loop-cell.invariant.spent);
    }

pub returns : goal.returns
returns g c =
    let cells = c.args.cells.now in
    let i = c.loop-cell.cell-index in
    record {
      value = sym (ap (do_rise c.loop-cell.next) (drop_all i cells c.loop-cell-test.false)) ∙ c.loop-cell.invariant.rest;
      cost = omega (arith, c.loop-cell.invariant.spent, c.loop-cell.auto.cell-index-end);
      on = omega (arith, c.loop-cell.invariant.spent);
      taken = λ t. omega (arith, c.loop-cell.invariant.spent, c.loop-cell-test.false, c.loop-cell.auto.cell-index-end);
    }
