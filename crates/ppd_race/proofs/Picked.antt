-- What is found at each edge of a process are its races with the edges of later processes.
use Rattle.std.proofs.Common.{◌≡◌, ℕ, zero, suc, ◌+◌, ◌-◌, ◌<◌, ◌≤◌, List, [], ◌∷◌, ◌++◌, Bool, true, false, cond, refl, ap, ap₂, sym, subst, ◌∙◌, arith, length, get_or, filter, eq-eqb, ne_eqb, ◌&&◌}
use Rattle.std.specs.Prelude.{nat_eq, if◌then◌else◌}
use Rattle.std.proofs.lemmas.Bool.{cond-true, cond-false}
use Rattle.std.specs.List.{flat_map, range_with_len}
use Rattle.ppd_ast.specs.Members.{has, AreBelow}
use Rattle.ppd_ast.proofs.Members.{has_first}
use Rattle.ppd_ast.specs.declared.limits.TheConstants.{MOST_SHARED_CELLS}
use Rattle.ppd_model.specs.declared.graph.Race.{Race}
use Rattle.ppd_model.specs.declared.graph.RaceKind.TheVariants.{ReadWrite, WriteRead, WriteWrite}
use Rattle.ppd_race_found.specs.EdgeSets.{EdgeSets}
use Rattle.ppd_race_found.specs.SyncGraph.{SyncGraph}
use Rattle.ppd_race_found.specs.declared.busy.Accessor.{Accessor}
use Rattle.ppd_race_found.specs.declared.busy.Against.{Against}
use Rattle.ppd_race_found.specs.declared.busy.Busy.{Busy}
use Rattle.ppd_race_found.specs.declared.by_cell.ByCell.{ByCell}
use Rattle.ppd_race.specs.Busy.{AreBusyRows, EachBusyIn, can_race, race_if, races_at, races_between, races_from, races_with_later}
use Rattle.ppd_race_found.specs.Search.{race_of, against, found_after, found_against, found_in, found_over, found_with, is_apart, picked}
use Rattle.ppd_race.specs.ByCell.{IsByCell, accessor, accessors_from}
use Rattle.ppd_race_found.specs.Lists.{GrowsBy}
use Rattle.ppd_race.proofs.Cells.{below_rest}

-- ---- one place of a list of accessors

module _ (test : Busy → Bool) (apart : Accessor → Bool) (x : Against) where
  -- what is picked of a first edge and of the others
  first_and : (m : ℕ) (a : Accessor) (u : Bool) (rest : List Accessor)
      → flat_map (picked m x) (filter apart ((if u then a ∷ [] else []) ++ rest)) ≡ (if u && apart a then picked m x a else []) ++ flat_map (picked m x) (filter apart rest)
  first_and m a false rest = refl
  first_and m a true rest = by (apart a)
    where
      by : (v : Bool) → flat_map (picked m x) (cond v (a ∷ filter apart rest) (filter apart rest)) ≡ (if v then picked m x a else []) ++ flat_map (picked m x) (filter apart rest)
      by true = refl
      by false = refl

  nothing_of : (v : Bool) (xs : List Race) → xs ≡ [] → (if v then xs else []) ≡ []
  nothing_of true xs e = e
  nothing_of false xs e = refl

  other_place : (m o : ℕ) (a : Busy) → (o ≡ m → ⊥) → picked m x (accessor o a) ≡ []
  other_place m o a d = cond-false (nat_eq o m) (race_of a.edge x.edge x.cell x.kind ∷ []) [] (ne_eqb o m d)

  none_before : (m o : ℕ) (row : List Busy) → m < o → flat_map (picked m x) (filter apart (accessors_from o test row)) ≡ []
  none_before m o [] lt = refl
  none_before m o (a ∷ rest) lt =
      first_and m (accessor o a) (test a) (accessors_from (o + 1) test rest)
      ∙ ap₂ (λ r s. r ++ s) (nothing_of (test a && apart (accessor o a)) (picked m x (accessor o a)) (other_place m o a (λ e. omega (arith, e, lt)))) (none_before m (o + 1) rest (omega (arith, lt)))

  append_none : (v : Bool) (r : Race) → (if v then r ∷ [] else []) ++ [] ≡ (if v then r ∷ [] else [])
  append_none true r = refl
  append_none false r = refl

  pub picked_is : (o k m : ℕ) (row : List Busy) (d : Busy) → m ≡ o + k → k < length row
      → flat_map (picked m x) (filter apart (accessors_from o test row)) ≡ (if test (get_or row k d) && apart (accessor m (get_or row k d)) then race_of (get_or row k d).edge x.edge x.cell x.kind ∷ [] else [])
  picked_is o k m [] d e lt = absurd (omega (arith, lt))
  picked_is o zero m (a ∷ rest) d e lt =
      let same : o ≡ m = omega (arith, e) in
      first_and m (accessor o a) (test a) (accessors_from (o + 1) test rest)
      ∙ ap₂ (λ r s. r ++ s) (ap (λ ys. if test a && apart (accessor o a) then ys else []) (cond-true (nat_eq o m) (race_of a.edge x.edge x.cell x.kind ∷ []) [] (eq-eqb o m same))) (none_before m (o + 1) rest (omega (arith, e)))
      ∙ append_none (test a && apart (accessor o a)) (race_of a.edge x.edge x.cell x.kind)
      ∙ ap (λ n. if test a && apart (accessor n a) then race_of a.edge x.edge x.cell x.kind ∷ [] else []) same
  picked_is o (suc k) m (a ∷ rest) d e lt =
      first_and m (accessor o a) (test a) (accessors_from (o + 1) test rest)
      ∙ ap₂ (λ r s. r ++ s) (nothing_of (test a && apart (accessor o a)) (picked m x (accessor o a)) (other_place m o a (λ f. omega (arith, e, f)))) (picked_is (o + 1) k m rest d (omega (arith, e)) (omega (arith, lt)))

-- ---- one cell, one edge, the edges of a process, those of all later processes

one_kind : (w u v : Bool) (r : Race) → (if w then (if u && v then r ∷ [] else []) else []) ≡ (if v then race_if (u && w) r else [])
one_kind true true true r = refl
one_kind true true false r = refl
one_kind true false true r = refl
one_kind true false false r = refl
one_kind false true true r = refl
one_kind false true false r = refl
one_kind false false true r = refl
one_kind false false false r = refl

three_kinds : (v : Bool) (xs ys zs : List Race) → (if v then xs else []) ++ ((if v then ys else []) ++ (if v then zs else [])) ≡ (if v then xs ++ (ys ++ zs) else [])
three_kinds true xs ys zs = refl
three_kinds false xs ys zs = refl

same_if : (w : Bool) (xs ys : List Race) → xs ≡ ys → (if w then xs else []) ≡ (if w then ys else [])
same_if w xs ys e = ap (λ zs. if w then zs else []) e

-- where each is only found under a condition, so are all
flat_if : (v : Bool) (f g : ℕ → List Race) (cells : List ℕ) (n : ℕ) → AreBelow n cells → ((c : ℕ) → c < n → f c ≡ (if v then g c else [])) → flat_map f cells ≡ (if v then flat_map g cells else [])
flat_if true f g [] n below h = refl
flat_if false f g [] n below h = refl
flat_if true f g (c ∷ cells) n below h = ap₂ (λ r s. r ++ s) (h c (below c (has_first c cells))) (flat_if true f g cells n (below_rest n c cells below) h)
flat_if false f g (c ∷ cells) n below h = ap₂ (λ r s. r ++ s) (h c (below c (has_first c cells))) (flat_if false f g cells n (below_rest n c cells below) h)

module _ (g : SyncGraph) (own : List Busy) (t : ByCell) (lists : IsByCell own t) (m : ℕ) (d : Busy) (there : m < length own) where
  against_is : (test : Busy → Bool) (list : List Accessor) (x : Against) → list ≡ accessors_from 0 test own
      → found_against g list x m ≡ (if test (get_or own m d) && is_apart g x.edge (accessor m (get_or own m d)) then race_of (get_or own m d).edge x.edge x.cell x.kind ∷ [] else [])
  against_is test list x is = ap (λ xs. flat_map (picked m x) (filter (is_apart g x.edge) xs)) is ∙ picked_is test (is_apart g x.edge) x 0 m m own d (omega arith) there

  over_is : (b : Busy) (c : ℕ) → c < MOST_SHARED_CELLS → found_over g t b c m ≡ (if can_race g (get_or own m d) b then races_at (get_or own m d) b c else [])
  over_is b c lt =
      let apart : Bool = can_race g (get_or own m d) b in
      let first = same_if (has b.writes c) _ _ (against_is (λ x. has x.reads c) (get_or t.readers.items c []) (against b.edge c ReadWrite) (lists.readers c lt))
      ∙ one_kind (has b.writes c) (has (get_or own m d).reads c) apart (race_of (get_or own m d).edge b.edge c ReadWrite) in
      let second = same_if (has b.reads c) _ _ (against_is (λ x. has x.writes c) (get_or t.writers.items c []) (against b.edge c WriteRead) (lists.writers c lt))
      ∙ one_kind (has b.reads c) (has (get_or own m d).writes c) apart (race_of (get_or own m d).edge b.edge c WriteRead) in
      let third = same_if (has b.writes c) _ _ (against_is (λ x. has x.writes c) (get_or t.writers.items c []) (against b.edge c WriteWrite) (lists.writers c lt))
      ∙ one_kind (has b.writes c) (has (get_or own m d).writes c) apart (race_of (get_or own m d).edge b.edge c WriteWrite) in
      ap₂ (λ r s. r ++ s) first (ap₂ (λ r s. r ++ s) second third)
      ∙ three_kinds apart (race_if (has (get_or own m d).reads c && has b.writes c) (race_of (get_or own m d).edge b.edge c ReadWrite)) (race_if (has (get_or own m d).writes c && has b.reads c) (race_of (get_or own m d).edge b.edge c WriteRead))
      (race_if (has (get_or own m d).writes c && has b.writes c) (race_of (get_or own m d).edge b.edge c WriteWrite))

  with_is : (b : Busy) → AreBelow MOST_SHARED_CELLS b.cells → found_with g t b m ≡ races_between g (get_or own m d) b
  with_is b below = flat_if (can_race g (get_or own m d) b) (λ c. found_over g t b c m) (races_at (get_or own m d) b) b.cells MOST_SHARED_CELLS below (λ c lt. over_is b c lt)

  in_is : (q : ℕ) (sets : List EdgeSets) (row : List Busy) → EachBusyIn q sets row → found_in g t row m ≡ flat_map (races_between g (get_or own m d)) row
  in_is q sets [] h = refl
  in_is q sets (b ∷ bs) h = ap₂ (λ r s. r ++ s) (with_is b h.0.busy.below) (in_is q sets bs h.1)

  after_range : (rows : List (List Busy)) → AreBusyRows g.edges rows → (q n : ℕ) → q + n ≤ length rows
      → flat_map (λ q. found_in g t (get_or rows q []) m) (range_with_len q n) ≡ flat_map (λ q. flat_map (races_between g (get_or own m d)) (get_or rows q [])) (range_with_len q n)
  after_range rows are q zero le = refl
  after_range rows are q (suc n) le =
      ap₂ (λ r s. r ++ s) (in_is q (get_or g.edges q []) (get_or rows q []) (are.row q (omega (arith, le))).each) (after_range rows are (q + 1) n (omega (arith, le)))

  pub after_is : (rows : List (List Busy)) (p : ℕ) → AreBusyRows g.edges rows → p < length rows → found_after g t rows p m ≡ races_with_later g rows p (get_or own m d)
  after_is rows p are lt = after_range rows are (p + 1) (length rows - (p + 1)) (omega (arith, lt))

-- ---- all edges of a process

flat_places : {A B : Type 0} (f : A → List B) (xs : List A) (ys : List (List B)) → length ys ≡ length xs → ((m : ℕ) (d : A) → m < length xs → get_or ys m [] ≡ f (get_or xs m d)) → flat_map (λ part. part) ys ≡ flat_map f xs
flat_places f [] [] long h = refl
flat_places f [] (y ∷ ys) long h = absurd (omega (arith, long))
flat_places f (x ∷ xs) [] long h = absurd (omega (arith, long))
flat_places f (x ∷ xs) (y ∷ ys) long h = ap₂ (λ r s. r ++ s) (h 0 x (omega arith)) (flat_places f xs ys (omega (arith, long)) (λ m d lt. h (suc m) d (omega (arith, lt))))

pub process_is : (g : SyncGraph) (own : List Busy) (t : ByCell) (rows : List (List Busy)) (p : ℕ) (old found : List (List Race)) → IsByCell own t → AreBusyRows g.edges rows → p < length rows → own ≡ get_or rows p []
    → length old ≡ length own → ((m : ℕ) → get_or old m [] ≡ []) → GrowsBy (found_after g t rows p) old found → flat_map (λ part. part) found ≡ races_from g rows p
process_is g own t rows p old found lists are lt is long none grows =
    flat_places (races_with_later g rows p) own found (grows.long ∙ long) (λ m d there.
    grows.at m (subst (λ n. m < n) (sym long) there) ∙ ap (λ r. r ++ found_after g t rows p m) (none m) ∙ after_is g own t lists m d there rows p are lt)
    ∙ ap (flat_map (races_with_later g rows p)) is
