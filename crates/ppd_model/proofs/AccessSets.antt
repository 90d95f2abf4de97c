-- The cells of an edge's accesses, rising.
use Rattle.std.specs.Bool.{beq}
use Rattle.std.proofs.Common.{◌≡◌, ℕ, zero, suc, ◌+◌, ◌<◌, ◌≤◌, Bool, true, false, cond, ◌&&◌, ◌||◌, List, [], ◌∷◌, ◌++◌, Some, refl, ap, sym, subst, ◌∙◌, arith, length, map, get_or, nat_eq, nat_lt, eqb-true, ne_eqb, ltb-true}
use Rattle.std.specs.Prelude.{filter, fold, slice_get}
use Rattle.std.specs.List.{list_any}
use Rattle.std.specs.List.Sorted.{IsStrictlyIncreasing}
use Rattle.std.proofs.lemmas.Bool.Decides.{nat_tests}
use Rattle.std.proofs.lemmas.List.{map-append}
use Rattle.std.proofs.lemmas.List.Elements.{filter-append}
use Rattle.std.proofs.lemmas.List.Sums.{fold-append}
use Rattle.std.proofs.lemmas.Option.{none-some}
use Rattle.std.proofs.Math.Bool.{or-false}
use Rattle.ppd_ast.specs.Valid.{IsValid}
use Rattle.ppd_ast.specs.declared.plan.Plan.{Plan}
use Rattle.ppd_ast.specs.declared.program.Program.{Program}
use Rattle.ppd_ast.specs.Members.{RisesFrom, has, with_cell}
use Rattle.ppd_sem.specs.declared.proc.Need.{Need}
use Rattle.ppd_sem.specs.declared.proc.Need.TheVariants as n
use Rattle.ppd_sem.specs.declared.proc.Proc.{Proc}
use Rattle.ppd_sem.specs.Laws.{NamesThere}
use Rattle.ppd_sem.specs.Process.{act, started}
use Rattle.ppd_sem.proofs.Lawful.{named}
use Rattle.ppd_model.specs.LocalTags.{AreOwn}
use Rattle.ppd_model.specs.Record.{SharedAccess, access_at, accesses, accesses_from, edge_after}
use Rattle.ppd_model.specs.RecordedSets.{AccessesAreOfCells, CellsAreOfAccesses, cells_of, rising}
use Rattle.ppd_model.specs.Story.{Taken, story}
use Rattle.ppd_model.proofs.Changes.{some}
use Rattle.ppd_model.proofs.LocalTags.{own_steps_told}

-- ---- rising lists

increases : (xs : List ℕ) (n : ℕ) → RisesFrom n xs → IsStrictlyIncreasing xs
increases [] n h k lt = absurd (omega (arith, lt))
increases (x ∷ []) n h k lt = absurd (omega (arith, lt))
increases (x ∷ y ∷ ys) n h zero lt = let le : x + 1 ≤ y = h.1.0 in omega (arith, le)
increases (x ∷ y ∷ ys) n h (suc k) lt =
    let e : suc (k + 1) ≡ suc k + 1 = omega arith in
    subst (λ m. get_or (x ∷ y ∷ ys) (suc k) 0 < get_or (x ∷ y ∷ ys) m 0) e (increases (y ∷ ys) (x + 1) h.1 k (omega (arith, lt)))

above : (c d : ℕ) → nat_lt c d ≡ false → nat_eq c d ≡ false → d + 1 ≤ c
above c d lt eq = grind (arith, nat_tests)

one_more : (c m : ℕ) (xs : List ℕ) → m ≤ c → RisesFrom m xs → RisesFrom m (with_cell c xs)
one_more c m [] le h = (le, tt)
one_more c m (d ∷ ds) le h = by (nat_lt c d) (nat_eq c d) refl refl (λ up. one_more c (d + 1) ds up h.1)
  where
    by : (b e : Bool) → nat_lt c d ≡ b → nat_eq c d ≡ e → (d + 1 ≤ c → RisesFrom (d + 1) (with_cell c ds)) → RisesFrom m (cond b (c ∷ d ∷ ds) (cond e (d ∷ ds) (d ∷ with_cell c ds)))
    by true e lt eq more = (le, (let below : c < d = ltb-true c d lt in omega (arith, below), h.1))
    by false true lt eq more = h
    by false false lt eq more = (h.0, more (above c d lt eq))

rises : (set cells : List ℕ) → RisesFrom 0 set → RisesFrom 0 (fold (λ set c. with_cell c set) set cells)
rises set [] h = h
rises set (c ∷ cs) h = rises (with_cell c set) cs (one_more c 0 set (omega arith) h)

-- ---- what is in them

or-swap : (a b c : Bool) → (a || (b || c)) ≡ (b || (a || c))
or-swap true true c = refl
or-swap true false c = refl
or-swap false b c = refl

or-same : (a b : Bool) → (a || (a || b)) ≡ (a || b)
or-same true b = refl
or-same false b = refl

has_more : (e c : ℕ) (xs : List ℕ) → has (with_cell c xs) e ≡ (nat_eq c e || has xs e)
has_more e c [] = refl
has_more e c (d ∷ ds) = by (nat_lt c d) (nat_eq c d) refl (has_more e c ds)
  where
    by : (b f : Bool) → nat_eq c d ≡ f → has (with_cell c ds) e ≡ (nat_eq c e || has ds e) → has (cond b (c ∷ d ∷ ds) (cond f (d ∷ ds) (d ∷ with_cell c ds))) e ≡ (nat_eq c e || (nat_eq d e || has ds e))
    by true f eq more = refl
    by false true eq more = sym (or-same (nat_eq d e) (has ds e)) ∙ ap (λ k. nat_eq k e || (nat_eq d e || has ds e)) (sym (eqb-true c d eq))
    by false false eq more = ap (λ b. nat_eq d e || b) more ∙ or-swap (nat_eq d e) (nat_eq c e) (has ds e)

pub or-assoc : (a b c : Bool) → ((a || b) || c) ≡ (b || (a || c))
or-assoc true true c = refl
or-assoc true false c = refl
or-assoc false b c = refl

has_all : (e : ℕ) (set cells : List ℕ) → has (fold (λ set c. with_cell c set) set cells) e ≡ (has cells e || has set e)
has_all e set [] = refl
has_all e set (c ∷ cs) = has_all e (with_cell c set) cs ∙ ap (λ b. has cs e || b) (has_more e c set) ∙ sym (or-assoc (nat_eq c e) (has cs e) (has set e))

and-turn : (x y z : Bool) → ((x && z) && y) ≡ ((x && y) && z)
and-turn true true z = and-one z
  where
    and-one : (z : Bool) → (z && true) ≡ z
    and-one true = refl
    and-one false = refl
and-turn true false true = refl
and-turn true false false = refl
and-turn false y z = refl

-- the accesses of the edge and the kind
abbrev chosen : ℕ → Bool → List SharedAccess → List SharedAccess
chosen i w xs = filter (λ (a : SharedAccess). nat_eq a.edge i && beq a.writes w) xs

abbrev cells_at : List SharedAccess → List ℕ
cells_at xs = map (λ (a : SharedAccess). a.cell) xs

-- whether one of these is of the cell
abbrev is_any : ℕ → ℕ → Bool → List SharedAccess → Bool
is_any c i w xs = list_any (λ (a : SharedAccess). nat_eq a.edge i && nat_eq a.cell c && beq a.writes w) xs

has_cells : (c i : ℕ) (w : Bool) (xs : List SharedAccess) → has (cells_at (chosen i w xs)) c ≡ is_any c i w xs
has_cells c i w [] = refl
has_cells c i w (a ∷ as') =
    by (nat_eq a.edge i && beq a.writes w) (has_cells c i w as')
    ∙ ap (λ x. x || is_any c i w as') (and-turn (nat_eq a.edge i) (nat_eq a.cell c) (beq a.writes w))
  where
    by : (b : Bool) → has (cells_at (chosen i w as')) c ≡ is_any c i w as' → has (cells_at (cond b (a ∷ chosen i w as') (chosen i w as'))) c ≡ ((b && nat_eq a.cell c) || is_any c i w as')
    by true rest = ap (λ x. nat_eq a.cell c || x) rest
    by false rest = rest

pub cells_are : CellsAreOfAccesses
cells_are s p i w =
    let cells : List ℕ = cells_at (chosen i w (accesses s p)) in
    record {
      rises = increases (rising cells) 0 (rises [] cells tt);
      are = λ c. has_all c [] cells ∙ or-false (has cells c) ∙ has_cells c i w (accesses s p);
    }

-- ---- the sets with more accesses

-- the cells of these that are of the edge and the kind
abbrev pub picked : List SharedAccess → ℕ → Bool → List ℕ
picked xs i w = map (λ (a : SharedAccess). a.cell) (filter (λ (a : SharedAccess). nat_eq a.edge i && beq a.writes w) xs)

-- a set with these cells
abbrev pub with_cells : List ℕ → List ℕ → List ℕ
with_cells set cells = fold (λ set c. with_cell c set) set cells

pub cells-append : (xs ys : List SharedAccess) (i : ℕ) (w : Bool) → cells_of (xs ++ ys) i w ≡ with_cells (cells_of xs i w) (picked ys i w)
cells-append xs ys i w =
    ap (λ cells. with_cells [] cells)
    (ap cells_at (filter-append (λ (a : SharedAccess). nat_eq a.edge i && beq a.writes w) xs ys)
    ∙ map-append (λ (a : SharedAccess). a.cell) (chosen i w xs) (chosen i w ys))
    ∙ fold-append (λ set c. with_cell c set) [] (picked xs i w) (picked ys i w)

-- an access of another edge is not picked
not_picked : (a : SharedAccess) (rest : List SharedAccess) (i : ℕ) (w : Bool) → (a.edge ≡ i → ⊥) → picked (a ∷ rest) i w ≡ picked rest i w
not_picked a rest i w apart = ap (λ b. cells_at (cond (b && beq a.writes w) (a ∷ chosen i w rest) (chosen i w rest))) (ne_eqb a.edge i apart)

pub other_edge : (need : Need) (e i : ℕ) (w : Bool) → (e ≡ i → ⊥) → picked (access_at e need) i w ≡ []
other_edge (n.Read c) e i w apart = not_picked (record { edge = e; cell = c; writes = false }) [] i w apart
other_edge (n.Write c v) e i w apart = not_picked (record { edge = e; cell = c; writes = true }) [] i w apart
other_edge need e i w apart = refl

-- beyond the edges of all of them there is none
pub beyond : (xs : List SharedAccess) (i : ℕ) (w : Bool) → ((m : ℕ) (a : SharedAccess) → slice_get xs m ≡ Some a → a.edge < i) → picked xs i w ≡ []
beyond [] i w below = refl
beyond (a ∷ as') i w below =
    not_picked a as' i w (λ e. let lt : a.edge < i = below 0 a refl in omega (arith, e, lt))
    ∙ beyond as' i w (λ m x is. below (suc m) x is)

-- ---- the cells are there

in_cells : (program : Program) (plan : Plan) → IsValid program → (e : ℕ) (s : Proc) (xs : List Taken) (m : ℕ) (a : SharedAccess) → AreOwn program plan s xs → slice_get (accesses_from e xs) m ≡ Some a → a.cell < length program.starts
in_cells program plan v e s [] m a own is = absurd (none-some a is)
in_cells program plan v e s (x ∷ xs) m a own is =
    by x.need (subst (λ k. NamesThere program k) (sym own.0) (named program plan s v)) m is
    (λ k at. in_cells program plan v (edge_after e x) (act program plan s x.answer) xs k a own.1 at)
  where
    cell_is : (c : ℕ) (b : SharedAccess) → b.cell < length program.starts → Some b ≡ Some a → a.cell < length program.starts
    cell_is c b there at = subst (λ (z : SharedAccess). z.cell < length program.starts) (some at) there

    by : (need : Need) → NamesThere program need → (m : ℕ) → slice_get (access_at e need ++ accesses_from (edge_after e x) xs) m ≡ Some a → ((k : ℕ) → slice_get (accesses_from (edge_after e x) xs) k ≡ Some a → a.cell < length program.starts) → a.cell < length program.starts
    by (n.Read c) there zero at rest = cell_is c (record { edge = e; cell = c; writes = false }) there at
    by (n.Read c) there (suc m) at rest = rest m at
    by (n.Write c w) there zero at rest = cell_is c (record { edge = e; cell = c; writes = true }) there at
    by (n.Write c w) there (suc m) at rest = rest m at
    by need there m at rest = rest m at

pub accesses_there : AccessesAreOfCells
accesses_there setting h p m a v is =
    in_cells setting.program setting.plan v 0 (started setting.program setting.plan p setting.budget) (get_or (story setting h).steps p []) m a (own_steps_told setting h p) is
