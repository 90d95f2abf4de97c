-- An interval that was left in an edge that had ended by then was left by then: by the entries of its process.
use Rattle.std.proofs.Common.{◌≡◌, ℕ, zero, suc, ◌+◌, ◌<◌, ◌≤◌, Bool, true, false, List, [], ◌∷◌, ◌++◌, length, Some, refl, ap, sym, subst, ◌∙◌, arith, inl, inr, ◌⊎◌, true≢false, length-append}
use Rattle.std.proofs.lemmas.List.Elements.{filter_map-append}
use Rattle.std.proofs.lemmas.List.Sums.{fold-append}
use Rattle.std.proofs.lemmas.Option.{none-some}
use Rattle.std.specs.Prelude.{filter_map, fold, slice_get, take, ⊤}
use Rattle.ppd_model.specs.declared.entry.Entry.{Entry}
use Rattle.ppd_model.specs.declared.entry.Entry.TheVariants as entry
use Rattle.ppd_model.specs.Extents.{Extent, extents}
use Rattle.ppd_model.proofs.ExtentWords.{Extending, begun_extents, ended_by, extend, extent_found, extents_are, left_by}
use Rattle.ppd_model.specs.RecordedSets.{sync_in}
use Rattle.ppd_model.specs.World.{change}
use Rattle.ppd_model.proofs.Changes.{some}
use Rattle.ppd_graph.specs.Ends.{syncs_before}

module _ (d : ℕ) where
  -- it is not left, or was left at entry d or later
  abbrev IsNew : Extent → Type 0
  IsNew z = (z.closed ≡ false) ⊎ ((j : ℕ) × (z.last ≡ Some j) × (d ≤ j))

  -- or was left before, as this one
  abbrev IsFrom : Extent → Extent → Type 0
  IsFrom x z = IsNew z ⊎ (x.closed ≡ true)

  abbrev AreFrom : List Extent → List Extent → Type 0
  AreFrom xs [] = ⊤
  AreFrom [] (z ∷ zs) = IsNew z × AreFrom [] zs
  AreFrom (x ∷ xs) (z ∷ zs) = IsFrom x z × AreFrom xs zs

  is_self : (x : Extent) → IsFrom x x
  is_self x = by x.closed refl
    where
      by : (b : Bool) → x.closed ≡ b → IsFrom x x
      by true e = inr e
      by false e = inl (inl e)

  are_self : (xs : List Extent) → AreFrom xs xs
  are_self [] = tt
  are_self (x ∷ xs) = (is_self x, are_self xs)

  from_change : (f : Extent → Extent) → ((z : Extent) → IsNew (f z)) → (i : ℕ) (xs zs : List Extent) → AreFrom xs zs → AreFrom xs (change f i zs)
  from_change f new i [] [] h = tt
  from_change f new i (x ∷ xs) [] h = tt
  from_change f new zero [] (z ∷ zs) h = (new z, h.1)
  from_change f new zero (x ∷ xs) (z ∷ zs) h = (inl (new z), h.1)
  from_change f new (suc i) [] (z ∷ zs) h = (h.0, from_change f new i [] zs h.1)
  from_change f new (suc i) (x ∷ xs) (z ∷ zs) h = (h.0, from_change f new i xs zs h.1)

  from_append : (xs zs : List Extent) (new : Extent) → AreFrom xs zs → IsNew new → AreFrom xs (zs ++ new ∷ [])
  from_append [] [] new h l = (l, tt)
  from_append (x ∷ xs) [] new h l = (inl l, tt)
  from_append [] (z ∷ zs) new h l = (h.0, from_append [] zs new h.1 l)
  from_append (x ∷ xs) (z ∷ zs) new h l = (h.0, from_append xs zs new h.1 l)

  from_left : (j : ℕ) → d ≤ j → (ks : List ℕ) (xs zs : List Extent) → AreFrom xs zs → AreFrom xs (left_by j ks zs)
  from_left j le [] xs zs h = h
  from_left j le (k ∷ ks) xs zs h = from_change (λ x. record x { last = Some j; closed = true }) (λ z. inr (j, refl, le)) k xs zs h

  from_ended : (j : ℕ) → d ≤ j → (ks : List ℕ) (xs zs : List Extent) → AreFrom xs zs → AreFrom xs (ended_by j ks zs)
  from_ended j le [] xs zs h = h
  from_ended j le (k ∷ ks) xs zs h =
      from_ended j le ks xs (change (λ x. record x { last = Some j }) k zs) (from_change (λ x. record x { last = Some j }) (λ z. inr (j, refl, le)) k xs zs h)

  from_step : (xs : List Extent) (z : Extending) (e : Entry) → d ≤ z.entry → AreFrom xs z.intervals → AreFrom xs (extend z e).intervals
  from_step xs z (entry.Prelog b values) le h = from_append xs z.intervals _ h (inl refl)
  from_step xs z (entry.Postlog b values) le h = from_left z.entry le z.running xs z.intervals h
  from_step xs z (entry.End st rest reads writes) le h = from_ended z.entry le z.running xs z.intervals h
  from_step xs z (entry.Unit u values) le h = h
  from_step xs z (entry.Sync kind object number value reads writes) le h = h

  from_all : (es : List Entry) (xs : List Extent) (z : Extending) → d ≤ z.entry → AreFrom xs z.intervals → AreFrom xs (fold extend z es).intervals
  from_all [] xs z le h = h
  from_all (e ∷ es) xs z le h = from_all es xs (extend z e) (next z e le) (from_step xs z e le h)
    where
      next : (z : Extending) (e : Entry) → d ≤ z.entry → d ≤ (extend z e).entry
      next z (entry.Prelog b values) le = omega (arith, le)
      next z (entry.Postlog b values) le = omega (arith, le)
      next z (entry.End st rest reads writes) le = omega (arith, le)
      next z (entry.Unit u values) le = omega (arith, le)
      next z (entry.Sync kind object number value reads writes) le = omega (arith, le)

  -- one of them
  from_at : (xs zs : List Extent) (m : ℕ) (z : Extent) → AreFrom xs zs → slice_get zs m ≡ Some z → IsNew z ⊎ ((x : Extent) × (slice_get xs m ≡ Some x) × (x.closed ≡ true))
  from_at [] [] m z h e = absurd (none-some z e)
  from_at (x ∷ xs) [] m z h e = absurd (none-some z e)
  from_at [] (y ∷ ys) zero z h e = inl (subst IsNew (some e) h.0)
  from_at (x ∷ xs) (y ∷ ys) zero z h e = elim h.0 [ inl l ↦ inl (subst IsNew (some e) l) | inr old ↦ inr (x, refl, old) ]
  from_at [] (y ∷ ys) (suc m) z h e = elim (from_at [] ys m z h.1 e) [ inl l ↦ inl l | inr r ↦ absurd (none-some r.0 r.1) ]
  from_at (x ∷ xs) (y ∷ ys) (suc m) z h e = elim (from_at xs ys m z h.1 e) [ inl l ↦ inl l | inr r ↦ inr (r.0, r.1, r.2) ]

entry_count : (es : List Entry) (z : Extending) → (fold extend z es).entry ≡ z.entry + length es
entry_count [] z = omega arith
entry_count (e ∷ es) z =
    let r : (fold extend (extend z e) es).entry ≡ (extend z e).entry + length es = entry_count es (extend z e) in
    let one : (extend z e).entry ≡ z.entry + 1 = next z e in
    omega (arith, r, one)
  where
    next : (z : Extending) (e : Entry) → (extend z e).entry ≡ z.entry + 1
    next z (entry.Prelog b values) = refl
    next z (entry.Postlog b values) = refl
    next z (entry.End st rest reads writes) = refl
    next z (entry.Unit u values) = refl
    next z (entry.Sync kind object number value reads writes) = refl

-- what stands before an entry that is not among the first ones has all their synchronizations
taken : (front more : List Entry) (n : ℕ) → length front ≤ n → (k : ℕ) × (take n (front ++ more) ≡ front ++ take k more)
taken [] more n le = (n, refl)
taken (e ∷ es) more zero le = absurd (omega (arith, le))
taken (e ∷ es) more (suc n) le = let r = taken es more n (omega (arith, le)) in (r.0, ap (λ l. e ∷ l) r.1)

pub syncs_past : (front more : List Entry) (n : ℕ) → length front ≤ n → length (filter_map sync_in front) ≤ syncs_before (front ++ more) n
syncs_past front more n le =
    let cut = taken front more n le in
    let sum : length (filter_map sync_in (front ++ take cut.0 more)) ≡ length (filter_map sync_in front) + length (filter_map sync_in (take cut.0 more)) =
    ap length (filter_map-append sync_in front (take cut.0 more)) ∙ length-append (filter_map sync_in front) (filter_map sync_in (take cut.0 more)) in
    let is : syncs_before (front ++ more) n ≡ length (filter_map sync_in (front ++ take cut.0 more)) = ap (λ es. length (filter_map sync_in es)) cut.1 in
    omega (arith, sum, is)

-- an interval that is left, by an entry with fewer synchronizations before it than the first entries have, is left by
-- one of these
pub left_before : (front more : List Entry) (m : ℕ) (z : Extent) (j : ℕ) → slice_get (extents (front ++ more)) m ≡ Some z → z.closed ≡ true → z.last ≡ Some j
    → syncs_before (front ++ more) j < length (filter_map sync_in front) → (x : Extent) × (slice_get (extents front) m ≡ Some x) × (x.closed ≡ true)
left_before front more m z j is closed last lt =
    let at : Extending = fold extend begun_extents front in
    let count : at.entry ≡ 0 + length front = entry_count front begun_extents in
    let all : extents (front ++ more) ≡ (fold extend at more).intervals = extents_are (front ++ more) ∙ ap (λ (x : Extending). x.intervals) (fold-append extend begun_extents front more) in
    elim (from_at (length front) at.intervals (fold extend at more).intervals m z
    (from_all (length front) more at.intervals at (omega (arith, count)) (are_self (length front) at.intervals)) (ap (λ xs. slice_get xs m) (sym all) ∙ is)) [
      | inr old ↦ (old.0, extent_found front m (Some old.0) old.1, old.2)
      | inl (inl open_yet) ↦ absurd (true≢false (sym closed ∙ open_yet))
      | inl (inr late) ↦
          let same : late.0 ≡ j = some (sym late.1 ∙ last) in
          let far : length front ≤ late.0 = late.2 in
          let up = syncs_past front more j (omega (arith, far, same)) in
          absurd (omega (arith, up, lt))
    ]
