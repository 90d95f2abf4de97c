-- The busy edges of a process as they are listed by their cells.
use Rattle.std.proofs.Common.{◌≡◌, ℕ, zero, suc, ◌+◌, ◌<◌, ◌≤◌, List, [], ◌∷◌, ◌++◌, Bool, true, false, refl, ap, sym, subst, ◌∙◌, arith, inl, inr, length, drop, get_or, map, eq-eqb, ne_eqb, ◌&&◌, ◌||◌}
use Rattle.std.specs.Prelude.{nat_eq, if◌then◌else◌, ⊤}
use Rattle.std.proofs.lemmas.Bool.{cases_eq}
use Rattle.std.proofs.lemmas.List.{drop_all, drop_more, append_assoc, append-nil}
use Rattle.ppd_ast.specs.Members.{has, RisesFrom}
use Rattle.ppd_ast.specs.declared.limits.TheConstants.{MOST_SHARED_CELLS}
use Rattle.ppd_race_found.specs.SyncGraph.{SyncGraph}
use Rattle.ppd_race_found.specs.Graphs.{edge_count}
use Rattle.ppd_race_found.specs.declared.busy.Accessor.{Accessor}
use Rattle.ppd_race_found.specs.declared.busy.Busy.{Busy}
use Rattle.ppd_race.specs.Busy.{EachBusyIn, IsBusyRow, numbers}
use Rattle.ppd_race.specs.ByCell.{IsByCell, accessor, accessors_from, listed_if, listed_in}
use Rattle.ppd_race_found.specs.declared.by_cell.ByCell.{ByCell}
use Rattle.ppd_race_found.specs.Lists.{GrowsBy}
use Rattle.ppd_race_found.specs.Search.{IsRising, AreInOrder, CanSearch}
use Rattle.ppd_race.proofs.Cells.{not_below}
use Rattle.ppd_race.proofs.BusyRows.{names_rise, weaker}

-- ---- the cells of one edge

past_rises : (n : ℕ) (xs : List ℕ) (i d : ℕ) → i < length xs → RisesFrom n xs → RisesFrom (get_or xs i d + 1) (drop (suc i) xs)
past_rises n [] i d lt h = absurd (omega (arith, lt))
past_rises n (x ∷ xs) zero d lt h = h.1
past_rises n (x ∷ xs) (suc i) d lt h = past_rises (x + 1) xs i d (omega (arith, lt)) h.1

rest_rises : (n : ℕ) (xs : List ℕ) (i d : ℕ) → i < length xs → RisesFrom n xs → RisesFrom (get_or xs i d + 1) (drop (i + 1) xs)
rest_rises n xs i d lt h = subst (λ k. RisesFrom (get_or xs i d + 1) (drop k xs)) (let e : suc i ≡ i + 1 = omega arith in e) (past_rises n xs i d lt h)

-- one more of the cells
pub cell_listed : (set cells : List ℕ) (one : Accessor) (i d m : ℕ) → i < length cells → RisesFrom 0 cells
    → listed_if (has set (get_or cells i d)) (get_or cells i d) one m ++ listed_in set (drop (i + 1) cells) one m ≡ listed_in set (drop i cells) one m
cell_listed set cells one i d m lt rises =
    elim (cases_eq (get_or cells i d) m) [
      | inl same ↦
          let left : has (drop (i + 1) cells) m ≡ false = not_below (get_or cells i d + 1) m (drop (i + 1) cells) (rest_rises 0 cells i d lt rises) (omega (arith, same)) in
          here (has set m) (nat_eq (get_or cells i d) m) (has (drop (i + 1) cells) m) (has set (get_or cells i d)) (eq-eqb (get_or cells i d) m same) left (ap (has set) same)
      | inr other ↦ elsewhere (has set m) (nat_eq (get_or cells i d) m) (has (drop (i + 1) cells) m) (has set (get_or cells i d)) (ne_eqb (get_or cells i d) m other)
    ]
    ∙ ap (λ ys. listed_in set ys one m) (sym (drop_more cells i d lt))
  where
    here : (s e r t : Bool) → e ≡ true → r ≡ false → t ≡ s → (if t then (if e then one ∷ [] else []) else []) ++ (if r && s then one ∷ [] else []) ≡ (if (e || r) && s then one ∷ [] else [])
    here true true false true x y z = refl
    here false true false false x y z = refl
    here s false r t x y z = absurd (cc x)
    here s e true t x y z = absurd (cc y)
    here true e r false x y z = absurd (cc z)
    here false e r true x y z = absurd (cc z)

    elsewhere : (s e r t : Bool) → e ≡ false → (if t then (if e then one ∷ [] else []) else []) ++ (if r && s then one ∷ [] else []) ≡ (if (e || r) && s then one ∷ [] else [])
    elsewhere s true r t x = absurd (cc x)
    elsewhere s false r true x = refl
    elsewhere s false r false x = refl

-- the lists of so many lists, as far as cell i
pub record ListedPast (set cells : List ℕ) (one : Accessor) (i : ℕ) (old now : List (List Accessor)) : Type 0 where
  pub long : length now ≡ length old
  pub at : (m : ℕ) → m < length old → get_or now m [] ++ listed_in set (drop i cells) one m ≡ get_or old m [] ++ listed_in set cells one m

pub listed_none : (set cells : List ℕ) (one : Accessor) (old : List (List Accessor)) → ListedPast set cells one 0 old old
listed_none set cells one old = record { long = refl; at = λ m lt. refl }

pub listed_more : (set cells : List ℕ) (one : Accessor) (i d : ℕ) (holds : Bool) (old now new : List (List Accessor)) → i < length cells → RisesFrom 0 cells → holds ≡ has set (get_or cells i d) → ListedPast set cells one i old now
    → GrowsBy (listed_if holds (get_or cells i d) one) now new → ListedPast set cells one (i + 1) old new
listed_more set cells one i d holds old now new lt rises is h k = record {
  long = k.long ∙ h.long;
  at = λ m there.
      ap (λ r. r ++ listed_in set (drop (i + 1) cells) one m) (k.at m (subst (λ n. m < n) (sym h.long) there) ∙ ap (λ b. get_or now m [] ++ listed_if b (get_or cells i d) one m) is)
      ∙ append_assoc (get_or now m []) (listed_if (has set (get_or cells i d)) (get_or cells i d) one m) (listed_in set (drop (i + 1) cells) one m)
      ∙ ap (λ r. get_or now m [] ++ r) (cell_listed set cells one i d m lt rises) ∙ h.at m there;
}

pub listed_all : (set cells : List ℕ) (one : Accessor) (i : ℕ) (old now : List (List Accessor)) → length cells ≤ i → ListedPast set cells one i old now → GrowsBy (listed_in set cells one) old now
listed_all set cells one i old now past h = record {
  long = h.long;
  at = λ m there. sym (append-nil (get_or now m [])) ∙ ap (λ ys. get_or now m [] ++ listed_in set ys one m) (sym (drop_all i cells past)) ∙ h.at m there;
}

-- ---- the edges of a process

both_left : (r w : Bool) → ((r || w) && r) ≡ r
both_left true w = refl
both_left false true = refl
both_left false false = refl

both_right : (r w : Bool) → ((r || w) && w) ≡ w
both_right true true = refl
both_right true false = refl
both_right false true = refl
both_right false false = refl

-- an edge's cells that it reads, or writes, are those of its set
pub reads_listed : (a : Busy) (one : Accessor) (c : ℕ) → has a.cells c ≡ (has a.reads c || has a.writes c) → listed_in a.reads a.cells one c ≡ (if has a.reads c then one ∷ [] else [])
reads_listed a one c e = ap (λ b. if b then one ∷ [] else []) (ap (λ b. b && has a.reads c) e ∙ both_left (has a.reads c) (has a.writes c))

pub writes_listed : (a : Busy) (one : Accessor) (c : ℕ) → has a.cells c ≡ (has a.reads c || has a.writes c) → listed_in a.writes a.cells one c ≡ (if has a.writes c then one ∷ [] else [])
writes_listed a one c e = ap (λ b. if b then one ∷ [] else []) (ap (λ b. b && has a.writes c) e ∙ both_right (has a.reads c) (has a.writes c))

-- one more edge at each cell
pub edge_listed : (test : ℕ → Busy → Bool) (own : List Busy) (i : ℕ) (a : Busy) (now new : List (List Accessor)) (part : ℕ → List Accessor) → i < length own → a ≡ get_or own i a → length now ≡ MOST_SHARED_CELLS → GrowsBy part now new
    → ((c : ℕ) → part c ≡ (if test c a then accessor i a ∷ [] else []))
    → ((c : ℕ) → c < MOST_SHARED_CELLS → get_or now c [] ++ accessors_from i (test c) (drop i own) ≡ accessors_from 0 (test c) own)
    → (c : ℕ) → c < MOST_SHARED_CELLS → get_or new c [] ++ accessors_from (i + 1) (test c) (drop (i + 1) own) ≡ accessors_from 0 (test c) own
edge_listed test own i a now new part lt is long grows parts h c less =
    ap (λ r. r ++ accessors_from (i + 1) (test c) (drop (i + 1) own)) (grows.at c (subst (λ n. c < n) (sym long) less) ∙ ap (λ r. get_or now c [] ++ r) (parts c))
    ∙ append_assoc (get_or now c []) (if test c a then accessor i a ∷ [] else []) (accessors_from (i + 1) (test c) (drop (i + 1) own))
    ∙ ap (λ ys. get_or now c [] ++ accessors_from i (test c) ys) (ap (λ x. x ∷ drop (i + 1) own) is ∙ sym (drop_more own i a lt)) ∙ h c less

pub edges_listed : (test : ℕ → Busy → Bool) (own : List Busy) (i : ℕ) (now : List (List Accessor)) → length own ≤ i → ((c : ℕ) → c < MOST_SHARED_CELLS → get_or now c [] ++ accessors_from i (test c) (drop i own) ≡ accessors_from 0 (test c) own)
    → (c : ℕ) → c < MOST_SHARED_CELLS → get_or now c [] ≡ accessors_from 0 (test c) own
edges_listed test own i now past h c less = sym (append-nil (get_or now c [])) ∙ ap (λ ys. get_or now c [] ++ accessors_from i (test c) ys) (sym (drop_all i own past)) ∙ h c less

-- ---- they are edges of the process, in order

EachThere : SyncGraph → ℕ → List Accessor → Type 0
EachThere g p [] = ⊤
EachThere g p (x ∷ xs) = ((x.edge.process ≡ p) × (x.edge.edge < edge_count g p)) × EachThere g p xs

abbrev listed_numbers : List Accessor → List ℕ
listed_numbers xs = map (λ x. x.edge.edge) xs

module _ (g : SyncGraph) (p : ℕ) (test : Busy → Bool) where
  each_there : (m : ℕ) (row : List Busy) → EachBusyIn p (get_or g.edges p []) row → EachThere g p (accessors_from m test row)
  unfolding EachThere
  each_there m [] h = tt
  each_there m (a ∷ rest) h = by (test a) (each_there (m + 1) rest h.1)
    where
      by : (t : Bool) → EachThere g p (accessors_from (m + 1) test rest) → EachThere g p ((if t then accessor m a ∷ [] else []) ++ accessors_from (m + 1) test rest)
      by true k = ((h.0.process, h.0.there), k)
      by false k = k

  each_rises : (n m : ℕ) (row : List Busy) → RisesFrom n (numbers row) → RisesFrom n (listed_numbers (accessors_from m test row))
  each_rises n m [] h = tt
  each_rises n m (a ∷ rest) h = by (test a) (each_rises (a.edge.edge + 1) (m + 1) rest h.1)
    where
      by : (t : Bool) → RisesFrom (a.edge.edge + 1) (listed_numbers (accessors_from (m + 1) test rest)) → RisesFrom n (listed_numbers ((if t then accessor m a ∷ [] else []) ++ accessors_from (m + 1) test rest))
      by true k = (h.0, k)
      by false k = weaker n (a.edge.edge + 1) (listed_numbers (accessors_from (m + 1) test rest)) (let low = h.0 in omega (arith, low)) k

there_at : (g : SyncGraph) (p : ℕ) (xs : List Accessor) → EachThere g p xs → (k : ℕ) (d : Accessor) → k < length xs → ((get_or xs k d).edge.process ≡ p) × ((get_or xs k d).edge.edge < edge_count g p)
unfolding EachThere
there_at g p [] h k d lt = absurd (omega (arith, lt))
there_at g p (x ∷ xs) h zero d lt = h.0
there_at g p (x ∷ xs) h (suc k) d lt = there_at g p xs h.1 k d (omega (arith, lt))

at_least : (n : ℕ) (xs : List Accessor) → RisesFrom n (listed_numbers xs) → (j : ℕ) (d : Accessor) → j < length xs → n ≤ (get_or xs j d).edge.edge
at_least n [] h j d lt = absurd (omega (arith, lt))
at_least n (x ∷ xs) h zero d lt = h.0
at_least n (x ∷ xs) h (suc j) d lt =
    let later = at_least (x.edge.edge + 1) xs h.1 j d (omega (arith, lt)) in
    let first = h.0 in
    omega (arith, later, first)

rise_at : (n : ℕ) (xs : List Accessor) → RisesFrom n (listed_numbers xs) → (i j : ℕ) (d : Accessor) → i ≤ j → j < length xs → (get_or xs i d).edge.edge ≤ (get_or xs j d).edge.edge
rise_at n [] h i j d le lt = absurd (omega (arith, lt))
rise_at n (x ∷ xs) h zero zero d le lt = omega arith
rise_at n (x ∷ xs) h zero (suc j) d le lt = let later = at_least (x.edge.edge + 1) xs h.1 j d (omega (arith, lt)) in omega (arith, later)
rise_at n (x ∷ xs) h (suc i) zero d le lt = absurd (omega (arith, le))
rise_at n (x ∷ xs) h (suc i) (suc j) d le lt = rise_at (x.edge.edge + 1) xs h.1 i j d (omega (arith, le)) (omega (arith, lt))

listed_in_order : (g : SyncGraph) (p : ℕ) (test : Busy → Bool) (own : List Busy) → IsBusyRow p (get_or g.edges p []) own → AreInOrder g p (accessors_from 0 test own)
listed_in_order g p test own busy =
    let there = each_there g p test 0 own busy.each in
    let rises = each_rises g p test 0 0 own (names_rise p (get_or g.edges p []) own busy) in
    record {
      process = λ k d lt. (there_at g p (accessors_from 0 test own) there k d lt).0;
      there = λ k d lt. (there_at g p (accessors_from 0 test own) there k d lt).1;
      rise = rise_at 0 (accessors_from 0 test own) rises;
    }

pub can_search : (g : SyncGraph) (p : ℕ) (own : List Busy) (t : ByCell) → IsRising g → IsBusyRow p (get_or g.edges p []) own → IsByCell own t → CanSearch g p t
can_search g p own t rising busy lists = record {
  rising = rising;
  readers = λ c lt. subst (AreInOrder g p) (sym (lists.readers c lt)) (listed_in_order g p (λ a. has a.reads c) own busy);
  writers = λ c lt. subst (AreInOrder g p) (sym (lists.writers c lt)) (listed_in_order g p (λ a. has a.writes c) own busy);
}
