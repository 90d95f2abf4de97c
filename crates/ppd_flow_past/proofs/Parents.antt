-- The intervals round each interval of a past, one after another outward.
use Rattle.std.proofs.Common.{◌≡◌, ℕ, zero, suc, ◌+◌, ◌<◌, ◌≤◌, true, List, [], ◌∷◌, ◌++◌, Option, Some, None, refl, ap, sym, subst, ◌∙◌, arith, length, map, get_or}
use Rattle.std.specs.Prelude.{drop, fold, slice_get, unwrap_or, ⊤}
use Rattle.std.proofs.lemmas.List.{get_or_append_left, get_or_at, length-append, length-map, map-append}
use Rattle.std.proofs.lemmas.Option.{none-some, same_Some, slice_get_past, unwrap_or-slice_get}
use Rattle.ppd_model.specs.declared.entry.Entry.{Entry}
use Rattle.ppd_model.specs.declared.entry.Entry.TheVariants as entry
use Rattle.ppd_model.specs.Extents.{Extent, extents}
use Rattle.ppd_model.proofs.ExtentWords.{Extending, begun_extents, ended_by, extend, extents_are, left_by}
use Rattle.ppd_model.specs.World.{change}
use Rattle.ppd_model.proofs.Items.{rest_below, AreBelow}
use Rattle.ppd_flow_past.specs.SeenBy.{rounds_by}
use Rattle.ppd_flow_past.proofs.SeenWords.{round_by}

abbrev pub Rounds : Type 0
Rounds = List (List ℕ)

abbrev next : Rounds → Option ℕ → Rounds
next rounds parent = rounds ++ round_by rounds parent ∷ []

-- the parent is an interval below n, if there is one
abbrev IsBelow : ℕ → Option ℕ → Type 0
IsBelow n None = ⊤
IsBelow n (Some m) = m < n

-- each of these, numbered from n on, has a parent before it
abbrev AreEarlier : ℕ → List (Option ℕ) → Type 0
AreEarlier n [] = ⊤
AreEarlier n (p ∷ ps) = IsBelow n p × AreEarlier (suc n) ps

kept : (rs : Rounds) (ps : List (Option ℕ)) (i : ℕ) → i < length rs → get_or (fold next rs ps) i [] ≡ get_or rs i []
kept rs [] i h = refl
kept rs (p ∷ ps) i h =
    let longer : i < length (next rs p) = omega (arith, length-append rs (round_by rs p ∷ [])) in
    kept (next rs p) ps i longer ∙ get_or_append_left rs (round_by rs p ∷ []) [] i h

same_round : (rs : Rounds) (ps : List (Option ℕ)) (p : Option ℕ) → IsBelow (length rs) p
    → round_by (fold next rs ps) p ≡ round_by rs p
same_round rs ps None h = refl
same_round rs ps (Some m) h = ap (λ r. m ∷ r) (kept rs ps m h)

rounds_at : (rs : Rounds) (n : ℕ) (ps : List (Option ℕ)) (k : ℕ) (p : Option ℕ) → length rs ≡ n → AreEarlier n ps
    → slice_get ps k ≡ Some p
    → get_or (fold next rs ps) (n + k) [] ≡ round_by (fold next rs ps) p
rounds_at rs n [] k p count h e = absurd (none-some p e)
rounds_at rs n (q ∷ ps) zero p count h e =
    let same : q ≡ p = same_Some q p e in
    let below : IsBelow (length rs) q = subst (λ l. IsBelow l q) (sym count) h.0 in
    let longer : length (next rs q) ≡ suc n = omega (arith, length-append rs (round_by rs q ∷ [])) in
    let at : n + 0 ≡ n = omega arith in
    let there : n < length (next rs q) = omega arith in
    ap (λ i. get_or (fold next (next rs q) ps) i []) at
    ∙ kept (next rs q) ps n there
    ∙ get_or_at rs (round_by rs q) [] [] n count
    ∙ sym (same_round rs (q ∷ ps) q below)
    ∙ ap (round_by (fold next rs (q ∷ ps))) same
rounds_at rs n (q ∷ ps) (suc k) p count h e =
    let longer : length (next rs q) ≡ suc n = omega (arith, length-append rs (round_by rs q ∷ [])) in
    let at : n + suc k ≡ suc n + k = omega arith in
    ap (λ i. get_or (fold next (next rs q) ps) i []) at ∙ rounds_at (next rs q) (suc n) ps k p longer h.1 e

-- ---- the intervals of a log

more_below : (n : ℕ) (ks : List ℕ) → AreBelow n ks → AreBelow (suc n) ks
more_below n [] h = tt
more_below n (k ∷ ks) h = let lt : k < n = h.0 in (omega arith, more_below n ks h.1)

first_below : (n : ℕ) (ks : List ℕ) → AreBelow n ks → IsBelow n (slice_get ks 0)
first_below n [] h = tt
first_below n (k ∷ ks) h = h.0

earlier_more : (n : ℕ) (ps : List (Option ℕ)) (p : Option ℕ) → AreEarlier n ps → IsBelow (n + length ps) p
    → AreEarlier n (ps ++ p ∷ [])
earlier_more n [] p h b = (subst (λ l. IsBelow l p) (omega arith) b, tt)
earlier_more n (q ∷ ps) p h b = (h.0, earlier_more (suc n) ps p h.1 (subst (λ l. IsBelow l p) (omega arith) b))

abbrev parents_in : List Extent → List (Option ℕ)
parents_in xs = map (λ (x : Extent). x.parent) xs

record IsSound (x : Extending) : Type 0 where
  running : AreBelow (length (parents_in x.intervals)) x.running
  earlier : AreEarlier 0 (parents_in x.intervals)

quiet : (f : Extent → Extent) → ((x : Extent) → (f x).parent ≡ x.parent) → (k : ℕ) (xs : List Extent)
    → parents_in (change f k xs) ≡ parents_in xs
quiet f same k [] = refl
quiet f same zero (x ∷ xs) = ap (λ p. p ∷ parents_in xs) (same x)
quiet f same (suc k) (x ∷ xs) = ap (λ ps. x.parent ∷ ps) (quiet f same k xs)

quiet_left : (j : ℕ) (ks : List ℕ) (xs : List Extent) → parents_in (left_by j ks xs) ≡ parents_in xs
quiet_left j [] xs = refl
quiet_left j (k ∷ ks) xs = quiet (λ x. record x { last = Some j; closed = true }) (λ x. refl) k xs

quiet_ended : (j : ℕ) (ks : List ℕ) (xs : List Extent) → parents_in (ended_by j ks xs) ≡ parents_in xs
quiet_ended j [] xs = refl
quiet_ended j (k ∷ ks) xs = quiet_ended j ks (change (λ x. record x { last = Some j }) k xs)
    ∙ quiet (λ x. record x { last = Some j }) (λ x. refl) k xs

sound_step : (x : Extending) (e : Entry) → IsSound x → IsSound (extend x e)
sound_step x (entry.Prelog b values) h =
    let ps = parents_in x.intervals in
    let whole : parents_in (extend x (entry.Prelog b values)).intervals
    ≡ ps ++ slice_get x.running 0 ∷ [] = map-append (λ (z : Extent). z.parent) x.intervals _ in
    let count : length (ps ++ slice_get x.running 0 ∷ [])
    ≡ suc (length ps) = omega (arith, length-append ps (slice_get x.running 0 ∷ [])) in
    let long : length x.intervals ≡ length ps = sym (length-map x.intervals (λ (z : Extent). z.parent)) in
    let own : length x.intervals < suc (length ps) = omega arith in
    let below : AreBelow (suc (length ps)) (length x.intervals ∷ x.running) = (
      own,
      more_below
          (length ps) x.running h.running,
    ) in
    let parent : IsBelow (0 + length ps) (slice_get x.running 0) = subst (λ l. IsBelow l (slice_get x.running 0))
    (omega arith) (first_below (length ps) x.running h.running) in
    record {
      running = subst (λ qs. AreBelow (length qs) (length x.intervals ∷ x.running)) (sym whole) (subst
          (λ l. AreBelow l (length x.intervals ∷ x.running)) (sym count) below);
      earlier = subst (AreEarlier 0) (sym whole) (earlier_more 0 ps (slice_get x.running 0) h.earlier parent);
    }
sound_step x (entry.Postlog b values) h =
    let same = quiet_left x.entry x.running x.intervals in
    record {
      running = subst (λ ps. AreBelow (length ps) (drop 1 x.running)) (sym same) (rest_below _ x.running h.running);
      earlier = subst (AreEarlier 0) (sym same) h.earlier;
    }
sound_step x (entry.End status rest reads writes) h =
    let same = quiet_ended x.entry x.running x.intervals in
    record {
      running = subst (λ ps. AreBelow (length ps) x.running) (sym same) h.running;
      earlier = subst (AreEarlier 0) (sym same) h.earlier;
    }
sound_step x (entry.Unit u values) h = record { running = h.running; earlier = h.earlier }
sound_step x (entry.Sync kind object number value reads writes) h = record { running = h.running; earlier = h.earlier }

sound_fold : (x : Extending) (es : List Entry) → IsSound x → IsSound (fold extend x es)
sound_fold x [] h = h
sound_fold x (e ∷ es) h = sound_fold (extend x e) es (sound_step x e h)

parents_earlier : (entries : List Entry) → AreEarlier 0 (parents_in (extents entries))
parents_earlier entries =
    subst (λ xs. AreEarlier 0 (parents_in xs)) (sym (extents_are entries))
    (sound_fold begun_extents entries (record { running = tt; earlier = tt })).earlier

-- round an interval are its parent and those round that one
round_at_parent : (entries : List Entry) (k : ℕ) (parent : Option ℕ)
    → slice_get (parents_in (extents entries)) k ≡ Some parent
    → get_or (rounds_by (parents_in (extents entries))) k []
    ≡ round_by (rounds_by (parents_in (extents entries))) parent
round_at_parent entries k parent e =
    let at : 0 + k ≡ k = omega arith in
    ap (λ i. get_or (rounds_by (parents_in (extents entries))) i []) (sym at)
    ∙ rounds_at [] 0 (parents_in (extents entries)) k parent refl (parents_earlier entries) e

rounds_length : (rs : Rounds) (ps : List (Option ℕ)) → length (fold next rs ps) ≡ length rs + length ps
rounds_length rs [] = omega arith
rounds_length rs (p ∷ ps) =
    let more : length (next rs p) ≡ suc (length rs) = omega (arith, length-append rs (round_by rs p ∷ [])) in
    let rest : length (fold next (next rs p) ps) ≡ length (next rs p) + length ps = rounds_length (next rs p) ps in
    omega arith

parent_below : (n : ℕ) (ps : List (Option ℕ)) (k m : ℕ) → AreEarlier n ps → slice_get ps k ≡ Some (Some m) → m < n + k
parent_below n [] k m h e = absurd (none-some (Some m) e)
parent_below n (p ∷ ps) zero m h e =
    let below : m < n = subst (IsBelow n) (same_Some p (Some m) e) h.0 in omega arith
parent_below n (p ∷ ps) (suc k) m h e = let below : m < suc n + k = parent_below (suc n) ps k m h.1 e in omega arith

first_by : (rounds : Rounds) (p : Option ℕ) → slice_get (round_by rounds p) 0 ≡ p
first_by rounds None = refl
first_by rounds (Some m) = refl

module _ (entries : List Entry) where
  abbrev rounds : Rounds
  rounds = rounds_by (parents_in (extents entries))

  -- an interval that is not there has none round it
  none_round : (k : ℕ) → slice_get (parents_in (extents entries)) k ≡ None → get_or rounds k [] ≡ []
  none_round k e =
      let count : length rounds ≡ 0 + length (parents_in (extents entries)) = rounds_length [] (parents_in
      (extents entries)) in
      let far : length (parents_in (extents entries)) ≤ k = past_end (parents_in (extents entries)) k e in
      let over : length rounds ≤ k = omega arith in
      sym (unwrap_or-slice_get rounds k []) ∙ ap (λ o. unwrap_or o []) (slice_get_past rounds k over)
    where
      past_end : {A : Type 0} (xs : List A) (i : ℕ) → slice_get xs i ≡ None → length xs ≤ i
      past_end [] i f = omega arith
      past_end (x ∷ xs) zero f = absurd (none-some x (sym f))
      past_end (x ∷ xs) (suc i) f = let le : length xs ≤ i = past_end xs i f in omega arith

  -- the parent of an interval is the first of those round it
  pub first_round : (k : ℕ) → slice_get (get_or rounds k []) 0
      ≡ unwrap_or (slice_get (parents_in (extents entries)) k) None
  first_round k = by (slice_get (parents_in (extents entries)) k) refl
    where
      by : (o : Option (Option ℕ)) → slice_get (parents_in (extents entries)) k ≡ o
          → slice_get (get_or rounds k []) 0 ≡ unwrap_or o None
      by None e = ap (λ ks. slice_get ks 0) (none_round k e)
      by (Some p) e = ap (λ ks. slice_get ks 0) (round_at_parent entries k p e) ∙ first_by rounds p

  -- round an interval are the one directly round it, and those round that one
  pub round_goes_on : (k : ℕ) → get_or rounds k [] ≡ round_by rounds (slice_get (get_or rounds k []) 0)
  round_goes_on k = by (slice_get (parents_in (extents entries)) k) refl
    where
      by : (o : Option (Option ℕ)) → slice_get (parents_in (extents entries)) k ≡ o
          → get_or rounds k [] ≡ round_by rounds (slice_get (get_or rounds k []) 0)
      by None e = none_round k e ∙ ap (λ r. round_by rounds (slice_get r 0)) (sym (none_round k e))
      by (Some p) e =
          round_at_parent entries k p e
          ∙ ap (round_by rounds) (sym (first_by rounds p) ∙ ap (λ ks. slice_get ks 0) (sym (round_at_parent entries k p e)))

  -- and that one has a smaller number
  pub round_is_before : (k m : ℕ) → slice_get (get_or rounds k []) 0 ≡ Some m → m < k
  round_is_before k m e = by (slice_get (parents_in (extents entries)) k) refl
    where
      by : (o : Option (Option ℕ)) → slice_get (parents_in (extents entries)) k ≡ o → m < k
      by None f = absurd (none-some m (ap (λ ks. slice_get ks 0) (sym (none_round k f)) ∙ e))
      by (Some p) f =
          let same : p ≡ Some m = sym (first_by rounds p) ∙ ap (λ ks. slice_get ks 0) (sym (round_at_parent entries k p f)) ∙ e in
          let below : m < 0 + k = parent_below 0 (parents_in (extents entries)) k m (parents_earlier entries) (f
          ∙ ap (λ o. Some o) same) in
          omega arith
