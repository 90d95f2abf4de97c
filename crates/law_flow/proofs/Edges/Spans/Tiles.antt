-- The parts of intervals cover the events of a process in order, and the intervals stand in one another.
use Rattle.std.proofs.Common.{◌≡◌, ℕ, ◌+◌, ◌<◌, ◌≤◌, true, List, [], ◌∷◌, ◌++◌, Some, refl, ap, sym, subst, ◌∙◌, arith}
use Rattle.std.specs.Prelude.{⊤, slice_get, is_some}
use Rattle.std.proofs.lemmas.List.{append_assoc}
use Rattle.ppd_model.specs.Intervals.{Part, own, nested, Span}

-- the parts of interval k cover the events from number lo up to number hi, in order: an event covers itself, and
-- an interval that was left, with a larger number, covers what its own parts cover; F is what else holds of it
pub data Tiles (F : ℕ → ℕ → ℕ → Type 0) (spans : List Span) : ℕ → ℕ → List Part → ℕ → Type 0 where
  ends : {k lo hi : ℕ} → lo ≡ hi → Tiles F spans k lo [] hi
  event : {k lo hi n : ℕ} {ps : List Part} → n ≡ lo → Tiles F spans k (lo + 1) ps hi
      → Tiles F spans k lo (own n ∷ ps) hi
  inside : {k lo hi m : ℕ} {ps : List Part} (i : Span) (mid : ℕ) → k < m → slice_get spans m ≡ Some i
      → is_some i.closed ≡ true → F m lo mid → Tiles F spans m lo i.parts mid → Tiles F spans k mid ps hi
      → Tiles F spans k lo (nested m ∷ ps) hi

-- interval k is none of these parts
abbrev pub IsNowhere : ℕ → List Part → Type 0
IsNowhere k [] = ⊤
IsNowhere k (own n ∷ ps) = IsNowhere k ps
IsNowhere k (nested m ∷ ps) = (m ≡ k → ⊥) × IsNowhere k ps

-- interval k stands in the first of these intervals, that one in the next, and so on out to interval 0; the events
-- before it are those below number first
pub data Stands (F : ℕ → ℕ → ℕ → Type 0) (spans : List Span) : ℕ → List ℕ → ℕ → Type 0 where
  outermost : {k first : ℕ} → k ≡ 0 → first ≡ 0 → Stands F spans k [] first
  within : {k m first : ℕ} {rest : List ℕ} (i : Span) (ps qs : List Part) (low : ℕ) → slice_get spans m ≡ Some i
      → i.round ≡ rest → m < k → i.parts ≡ ps ++ nested k ∷ qs → IsNowhere k ps → Stands F spans m rest low
      → Tiles F spans m low ps first → Stands F spans k (m ∷ rest) first

-- the parts cover the events from number lo on up to each of their events; the last of them may be running
pub data Covers (F : ℕ → ℕ → ℕ → Type 0) (spans : List Span) : ℕ → ℕ → List Part → Type 0 where
  none : {k lo : ℕ} → Covers F spans k lo []
  event : {k lo n : ℕ} {ps : List Part} → n ≡ lo → Covers F spans k (lo + 1) ps → Covers F spans k lo (own n ∷ ps)
  inside : {k lo m : ℕ} {ps : List Part} (i : Span) (mid : ℕ) → k < m → slice_get spans m ≡ Some i
      → is_some i.closed ≡ true → F m lo mid → Tiles F spans m lo i.parts mid → Covers F spans k mid ps
      → Covers F spans k lo (nested m ∷ ps)
  runs : {k lo m : ℕ} → Covers F spans k lo (nested m ∷ [])

-- ---- more parts

-- interval i has become j: parts were added at its end, and none where it was left
pub record HasGrown (i j : Span) : Type 0 where
  pub round : j.round ≡ i.round
  pub more : List Part
  pub parts : j.parts ≡ i.parts ++ more
  pub left : is_some i.closed ≡ true → j ≡ i

-- so it is with each interval
abbrev pub HaveGrown : List Span → List Span → Type 0
HaveGrown spans after = (k : ℕ) (i : Span) → slice_get spans k ≡ Some i → (j : Span) × (slice_get after k ≡ Some j) × HasGrown i j

module _ (F G : ℕ → ℕ → ℕ → Type 0) (kept : (m lo mid : ℕ) → F m lo mid → G m lo mid) (spans after : List Span) (grown : HaveGrown spans after) where
  pub tiles_grow : (k lo : ℕ) (ps : List Part) (hi : ℕ) → Tiles F spans k lo ps hi → Tiles G after k lo ps hi
  tiles_grow k lo [] hi (ends e) = ends e
  tiles_grow k lo (own n ∷ ps) hi (event e t) = event e (tiles_grow k (lo + 1) ps hi t)
  tiles_grow k lo (nested m ∷ ps) hi (inside i mid lt at c f t u) =
      let g = grown m i at in
      inside i mid lt (g.1 ∙ ap (λ (j : Span). Some j) (g.2.left c)) c (kept m lo mid f) (tiles_grow m lo i.parts mid t) (tiles_grow k mid ps hi u)

  pub stands_grow : (k : ℕ) (rest : List ℕ) (first : ℕ) → Stands F spans k rest first → Stands G after k rest first
  stands_grow k [] first (outermost e z) = outermost e z
  stands_grow k (m ∷ rest) first (within i ps qs low at r lt parts apart s t) =
      let g = grown m i at in
      within g.0 ps (qs ++ g.2.more) low g.1 (g.2.round ∙ r) lt
      (g.2.parts ∙ ap (λ l. l ++ g.2.more) parts ∙ append_assoc ps (nested k ∷ qs) g.2.more) apart (stands_grow m rest low s) (tiles_grow m low ps first t)

  pub covers_grow : (k lo : ℕ) (ps : List Part) → Covers F spans k lo ps → Covers G after k lo ps
  covers_grow k lo [] none = none
  covers_grow k lo (own n ∷ ps) (event e t) = event e (covers_grow k (lo + 1) ps t)
  covers_grow k lo (nested m ∷ ps) (inside i mid lt at c f t u) =
      let g = grown m i at in
      inside i mid lt (g.1 ∙ ap (λ (j : Span). Some j) (g.2.left c)) c (kept m lo mid f) (tiles_grow m lo i.parts mid t) (covers_grow k mid ps u)
  covers_grow k lo (nested m ∷ []) runs = runs

-- ---- one more part, and beginnings

module _ (F : ℕ → ℕ → ℕ → Type 0) (spans : List Span) where
  pub one_event : (k lo : ℕ) (ps : List Part) (hi : ℕ) → Tiles F spans k lo ps hi → Tiles F spans k lo (ps ++ own hi ∷ []) (hi + 1)
  one_event k lo [] hi (ends e) = event (sym e) (ends (ap (λ k. k + 1) e))
  one_event k lo (own m ∷ ps) hi (event e t) = event e (one_event k (lo + 1) ps hi t)
  one_event k lo (nested m ∷ ps) hi (inside i mid lt at c f t u) = inside i mid lt at c f t (one_event k mid ps hi u)

  pub one_interval : (k lo : ℕ) (ps : List Part) (mid m : ℕ) (i : Span) (hi : ℕ) → Tiles F spans k lo ps mid → k < m → slice_get spans m ≡ Some i → is_some i.closed ≡ true → F m mid hi
      → Tiles F spans m mid i.parts hi → Tiles F spans k lo (ps ++ nested m ∷ []) hi
  one_interval k lo [] mid m i hi (ends e) lt at c f t =
      inside i hi lt at c (subst (λ l. F m l hi) (sym e) f) (subst (λ l. Tiles F spans m l i.parts hi) (sym e) t) (ends refl)
  one_interval k lo (own n ∷ ps) mid m i hi (event e u) lt at c f t = event e (one_interval k (lo + 1) ps mid m i hi u lt at c f t)
  one_interval k lo (nested n ∷ ps) mid m i hi (inside j half lt' at' c' f' u v) lt at c f t =
      inside j half lt' at' c' f' u (one_interval k half ps mid m i hi v lt at c f t)

  -- the parts that cover all
  pub all_covered : (k lo : ℕ) (ps : List Part) (hi : ℕ) → Tiles F spans k lo ps hi → Covers F spans k lo ps
  all_covered k lo [] hi (ends e) = none
  all_covered k lo (own n ∷ ps) hi (event e t) = event e (all_covered k (lo + 1) ps hi t)
  all_covered k lo (nested m ∷ ps) hi (inside i mid lt at c f t u) = inside i mid lt at c f t (all_covered k mid ps hi u)

  -- and an interval that runs
  pub then_runs : (k lo : ℕ) (ps : List Part) (hi m : ℕ) → Tiles F spans k lo ps hi → Covers F spans k lo (ps ++ nested m ∷ [])
  then_runs k lo [] hi m (ends e) = runs
  then_runs k lo (own n ∷ ps) hi m (event e t) = event e (then_runs k (lo + 1) ps hi m t)
  then_runs k lo (nested n ∷ ps) hi m (inside i mid lt at c f t u) = inside i mid lt at c f t (then_runs k mid ps hi m u)

  -- up to one of the events
  pub up_to : (k lo : ℕ) (ps qs : List Part) (n : ℕ) → Covers F spans k lo (ps ++ own n ∷ qs) → Tiles F spans k lo ps n
  up_to k lo [] qs n (event e t) = ends (sym e)
  up_to k lo (own m ∷ ps) qs n (event e t) = event e (up_to k (lo + 1) ps qs n t)
  up_to k lo (nested m ∷ []) qs n (inside i mid lt at c f t u) = inside i mid lt at c f t (up_to k mid [] qs n u)
  up_to k lo (nested m ∷ p ∷ ps) qs n (inside i mid lt at c f t u) = inside i mid lt at c f t (up_to k mid (p ∷ ps) qs n u)

  -- the numbers go up
  pub rises : (k lo : ℕ) (ps : List Part) (hi : ℕ) → Tiles F spans k lo ps hi → lo ≤ hi
  rises k lo [] hi (ends e) = omega (arith, e)
  rises k lo (own n ∷ ps) hi (event e t) = let r : lo + 1 ≤ hi = rises k (lo + 1) ps hi t in omega (arith, r)
  rises k lo (nested m ∷ ps) hi (inside i mid lt at c f t u) =
      let r : lo ≤ mid = rises m lo i.parts mid t in
      let s : mid ≤ hi = rises k mid ps hi u in
      omega (arith, r, s)

  -- an interval that is not there is none of the parts
  pub nowhere : (k lo : ℕ) (ps : List Part) (hi m : ℕ) → Tiles F spans k lo ps hi → ((i : Span) → slice_get spans m ≡ Some i → ⊥) → IsNowhere m ps
  nowhere k lo [] hi m (ends e) gone = tt
  nowhere k lo (own n ∷ ps) hi m (event e t) gone = nowhere k (lo + 1) ps hi m t gone
  nowhere k lo (nested l ∷ ps) hi m (inside i mid lt at c f t u) gone =
      ((λ e. gone i (sym (ap (λ z. slice_get spans z) e) ∙ at)), nowhere k mid ps hi m u gone)
