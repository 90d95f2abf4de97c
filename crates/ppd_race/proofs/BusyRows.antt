-- The busy edges of processes.
use Rattle.std.proofs.Common.{◌≡◌, ℕ, zero, suc, ◌+◌, ◌<◌, ◌≤◌, List, [], ◌∷◌, ◌++◌, Bool, true, false, cond, not, refl, ap, sym, subst, ◌∙◌, arith, length, drop, get_or, inl, inr, ◌&&◌, ◌||◌, ne_eqb, true≢false}
use Rattle.std.specs.Prelude.{nat_eq, if◌then◌else◌}
use Rattle.std.specs.List.{filter, range_with_len}
use Rattle.std.proofs.lemmas.Bool.{cases_eq}
use Rattle.std.proofs.lemmas.List.{drop_more}
use Rattle.ppd_ast.specs.Members.{has, those, RisesFrom, AreBelow}
use Rattle.ppd_ast.proofs.Those.{rises_filter, nothing_more}
use Rattle.ppd_ast.specs.declared.limits.TheConstants.{MOST_SHARED_CELLS}
use Rattle.ppd_model.specs.declared.graph.EdgeId.{EdgeId}
use Rattle.ppd_model.specs.HappenedBefore.{edge}
use Rattle.ppd_model.proofs.AccessSets.{or-assoc}
use Rattle.ppd_model.proofs.Lists.{get_or_any}
use Rattle.ppd_race_found.specs.EdgeSets.{EdgeSets}
use Rattle.ppd_race_found.specs.LogRecord.{no_sets}
use Rattle.ppd_race_found.proofs.Timed.{at_end, at_front, length_more}
use Rattle.ppd_race_found.proofs.Counted.{range_more}
use Rattle.ppd_race_found.specs.declared.busy.Busy.{Busy}
use Rattle.ppd_race.specs.Busy.{EachBusyIn, IsBusyIn, IsBusyOf, IsBusyPart, IsBusyRow, Takes, is_busy, is_busy_in, is_none, numbers}

-- ---- one edge

pub none_len : (xs : List ℕ) → nat_eq (length xs) 0 ≡ is_none xs
none_len [] = refl
none_len (x ∷ xs) = ne_eqb (length (x ∷ xs)) 0 (λ e. absurd (omega (arith, e)))

pub takes_none : (sets : EdgeSets) (old : List Busy) (name : EdgeId) (t : Bool) → t ≡ (is_none sets.reads && is_none sets.writes) → t ≡ true → Takes (is_busy sets) old old name sets
takes_none sets old name t is idle = subst (λ b. Takes (not b) old old name sets) (sym (sym is ∙ idle)) refl

pub takes_one : (sets : EdgeSets) (old new : List Busy) (name : EdgeId) (t : Bool) → t ≡ (is_none sets.reads && is_none sets.writes) → t ≡ false → (b : Busy) → new ≡ old ++ b ∷ [] → IsBusyOf name sets b → Takes (is_busy sets) old new name sets
takes_one sets old new name t is busy b e h = subst (λ s. Takes (not s) old new name sets) (sym (sym is ∙ busy)) (b, e, h)

-- ---- one more edge of a process

filter_last : (t : ℕ → Bool) (xs : List ℕ) (x : ℕ) → filter t (xs ++ x ∷ []) ≡ filter t xs ++ (if t x then x ∷ [] else [])
filter_last t [] x = refl
filter_last t (y ∷ xs) x = by (t y) (filter_last t xs x)
  where
    by : (b : Bool) → filter t (xs ++ x ∷ []) ≡ filter t xs ++ (if t x then x ∷ [] else []) → cond b (y ∷ filter t (xs ++ x ∷ [])) (filter t (xs ++ x ∷ [])) ≡ cond b (y ∷ filter t xs) (filter t xs) ++ (if t x then x ∷ [] else [])
    by true h = ap (λ r. y ∷ r) h
    by false h = h

pub those_more : (t : ℕ → Bool) (n : ℕ) (b : Bool) → t n ≡ b → those (n + 1) t ≡ those n t ++ (if b then n ∷ [] else [])
those_more t n b e =
    let more : n + 1 ≡ suc n = omega arith in
    let z : 0 + n ≡ n = omega arith in
    ap (λ k. filter t (range_with_len 0 k)) more ∙ ap (filter t) (range_more 0 n ∙ ap (λ x. range_with_len 0 n ++ x ∷ []) z)
    ∙ filter_last t (range_with_len 0 n) n ∙ ap (λ k. those n t ++ (if k then n ∷ [] else [])) e

numbers_more : (row : List Busy) (b : Busy) → numbers (row ++ b ∷ []) ≡ numbers row ++ b.edge.edge ∷ []
numbers_more [] b = refl
numbers_more (x ∷ row) b = ap (λ r. x.edge.edge ∷ r) (numbers_more row b)

each_more : (q : ℕ) (own : List EdgeSets) (row : List Busy) (b : Busy) → EachBusyIn q own row → IsBusyIn q own b → EachBusyIn q own (row ++ b ∷ [])
each_more q own [] b h k = (k, tt)
each_more q own (x ∷ row) b h k = (h.0, each_more q own row b h.1 k)

busy_in : (q n : ℕ) (own : List EdgeSets) (b : Busy) → n < length own → IsBusyOf (edge q n) (get_or own n no_sets) b → IsBusyIn q own b
busy_in q n own b lt h =
    let number : n ≡ b.edge.edge = ap (λ (e : EdgeId). e.edge) (sym h.edge_is) in
    let sets = ap (λ k. get_or own k no_sets) number in
    record {
      process = ap (λ (e : EdgeId). e.process) h.edge_is;
      there = subst (λ k. k < length own) number lt;
      busy = subst (λ s. IsBusyOf b.edge s b) sets (record { edge_is = refl; reads = h.reads; writes = h.writes; rises = h.rises; below = h.below; all = h.all });
    }

pub part_more : (q n : ℕ) (own : List EdgeSets) (row after : List Busy) (x : EdgeSets) → n < length own → x ≡ get_or own n x → Takes (is_busy x) row after (edge q n) x → IsBusyPart q own n row → IsBusyPart q own (n + 1) after
part_more q n own row after x lt is takes part = by (is_busy x) refl takes
  where
    at : x ≡ get_or own n no_sets
    at = is ∙ get_or_any own n x no_sets lt

    by : (t : Bool) → is_busy x ≡ t → Takes t row after (edge q n) x → IsBusyPart q own (n + 1) after
    by true e t =
        let b = t.0 in
        let grows = t.1 in
        let busy = t.2 in
        let number : b.edge.edge ≡ n = ap (λ (k : EdgeId). k.edge) busy.edge_is in
        record {
          each = subst (EachBusyIn q own) (sym grows) (each_more q own row b part.each (busy_in q n own b lt (subst (λ s. IsBusyOf (edge q n) s b) at busy)));
          names = ap numbers grows ∙ numbers_more row b ∙ ap (λ k. numbers row ++ k ∷ []) number ∙ ap (λ ns. ns ++ n ∷ []) part.names ∙ sym (those_more (is_busy_in own) n true (ap is_busy (sym at) ∙ e));
        }
    by false e same = record {
      each = subst (EachBusyIn q own) (sym same) part.each;
      names = ap numbers same ∙ part.names ∙ sym (nothing_more (those n (is_busy_in own))) ∙ sym (those_more (is_busy_in own) n false (ap is_busy (sym at) ∙ e));
    }

-- ---- one more process

pub rows_more : (sets : List (List EdgeSets)) (n : ℕ) (rows after : List (List Busy)) (row : List Busy) (seen own : List EdgeSets) → n < length sets → length rows ≡ n → after ≡ rows ++ row ∷ [] → IsBusyRow n seen row → seen ≡ own → own ≡ get_or sets n own
    → ((q : ℕ) → q < n → IsBusyRow q (get_or sets q []) (get_or rows q [])) → (length after ≡ n + 1) × ((q : ℕ) → q < n + 1 → IsBusyRow q (get_or sets q []) (get_or after q []))
rows_more sets n rows after row seen own lt long grows busy is at before = (ap length grows ∙ length_more rows row ∙ ap (λ k. k + 1) long, each)
  where
    each : (q : ℕ) → q < n + 1 → IsBusyRow q (get_or sets q []) (get_or after q [])
    each q less = elim (cases_eq q n) [
      | inl e ↦
          let row_is : row ≡ get_or after q [] = sym (at_end rows row []) ∙ ap (λ k. get_or (rows ++ row ∷ []) k []) (long ∙ sym e) ∙ ap (λ rs. get_or rs q []) (sym grows) in
          let own_is : seen ≡ get_or sets q [] = is ∙ at ∙ get_or_any sets n own [] lt ∙ ap (λ k. get_or sets k []) (sym e) in
          let here : IsBusyRow n (get_or sets q []) row = subst (λ s. IsBusyRow n s row) own_is busy in
          let there : IsBusyRow q (get_or sets q []) row = subst (λ k. IsBusyRow k (get_or sets q []) row) (sym e) here in
          subst (IsBusyRow q (get_or sets q [])) row_is there
      | inr d ↦
          let inside : q < n = omega (arith, less, d) in
          let row_is : get_or rows q [] ≡ get_or after q [] = sym (at_front rows row [] q (subst (λ k. q < k) (sym long) inside)) ∙ ap (λ rs. get_or rs q []) (sym grows) in
          subst (IsBusyRow q (get_or sets q [])) row_is (before q inside)
    ]

-- ---- what stands in a row

pub not_here : (x c : ℕ) (b : Bool) → MOST_SHARED_CELLS ≤ x → c < MOST_SHARED_CELLS → b ≡ (nat_eq x c || b)
not_here x c b le lt = ap (λ e. e || b) (sym (ne_eqb x c (λ e. absurd (omega (arith, e, le, lt)))))

-- one more of the cells is in the set
pub set_more : (xs : List ℕ) (i d : ℕ) (s s' : List ℕ) → i < length xs → ((c : ℕ) → c < MOST_SHARED_CELLS → has s' c ≡ (nat_eq (get_or xs i d) c || has s c)) → ((c : ℕ) → c < MOST_SHARED_CELLS → (has s c || has (drop i xs) c) ≡ has xs c)
    → (c : ℕ) → c < MOST_SHARED_CELLS → (has s' c || has (drop (i + 1) xs) c) ≡ has xs c
set_more xs i d s s' lt puts inv c less =
    ap (λ b. b || has (drop (i + 1) xs) c) (puts c less) ∙ or-assoc (nat_eq (get_or xs i d) c) (has s c) (has (drop (i + 1) xs) c)
    ∙ ap (λ ys. has s c || has ys c) (sym (drop_more xs i d lt)) ∙ inv c less

pub each_at : (q : ℕ) (own : List EdgeSets) (row : List Busy) → EachBusyIn q own row → (k : ℕ) (d : Busy) → k < length row → IsBusyIn q own (get_or row k d)
each_at q own [] h k d lt = absurd (omega (arith, lt))
each_at q own (b ∷ bs) h zero d lt = h.0
each_at q own (b ∷ bs) h (suc k) d lt = each_at q own bs h.1 k d (omega (arith, lt))

-- ---- the numbers of a row rise

pub weaker : (m n : ℕ) (xs : List ℕ) → m ≤ n → RisesFrom n xs → RisesFrom m xs
weaker m n [] le h = tt
weaker m n (x ∷ xs) le h = (omega (arith, le, h.0), h.1)

pub names_rise : (q : ℕ) (own : List EdgeSets) (row : List Busy) → IsBusyRow q own row → RisesFrom 0 (numbers row)
names_rise q own row busy = subst (RisesFrom 0) (sym busy.names) (rises_filter (is_busy_in own) 0 (length own))

-- ---- sets below a number

pub none_below : AreBelow MOST_SHARED_CELLS []
none_below c t = absurd (true≢false (sym t))

pub one_below : (cell : ℕ) (old new : List ℕ) → cell < MOST_SHARED_CELLS → ((c : ℕ) → has new c ≡ (nat_eq cell c || has old c)) → AreBelow MOST_SHARED_CELLS old → AreBelow MOST_SHARED_CELLS new
one_below cell old new lt puts below c t = elim (cases_eq cell c) [
  | inl same ↦ omega (arith, same, lt)
  | inr other ↦ below c (ap (λ b. b || has old c) (sym (ne_eqb cell c other)) ∙ sym (puts c) ∙ t)
]
