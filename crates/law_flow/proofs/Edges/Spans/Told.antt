-- The intervals of a process so far, with its entries and events, and what a part more, an interval that begins and
-- one that is left change of them.
use Rattle.law_flow.proofs.Edges.Spans.Facts.{Logged, More, MoreEvents, OpensAt, SyncsAt, at, count_to, logged_on, opens_on, syncs}
use Rattle.law_flow.proofs.Edges.Spans.Tiles.{Covers, HasGrown, HaveGrown, IsNowhere, Stands, Tiles, covers_grow, outermost, stands_grow, tiles_grow, within}
use Rattle.law_flow.proofs.Vocabulary.Events.{synchronizes}
use Rattle.ppd_model.specs.declared.entry.Entry.{Entry}
use Rattle.ppd_model.proofs.ExtentWords.{extend}
use Rattle.ppd_model.proofs.Changes.{change-at, change-else, some}
use Rattle.ppd_model.specs.Intervals.{Part, Span, nested}
use Rattle.ppd_model.specs.RecordedSets.{sync_in}
use Rattle.ppd_model.specs.World.{change}
use Rattle.ppd_model.specs.declared.trace.TracedEvent.{TracedEvent}
use Rattle.std.proofs.Common.{List, None, Option, Some, [], ap, arith, cond, false, inl, inr, length, length-append, refl, sym, true, true≢false, ℕ, ◌++◌, ◌+◌, ◌<◌, ◌∙◌, ◌∷◌, ◌≡◌, ◌⊎◌}
use Rattle.std.proofs.lemmas.Bool.{cases_eq}
use Rattle.std.proofs.lemmas.List.{append-nil}
use Rattle.std.proofs.lemmas.List.Elements.{filter_map-append}
use Rattle.std.proofs.lemmas.List.Sums.{fold-append}
use Rattle.std.specs.List.{cons_option}
use Rattle.std.specs.Prelude.{filter_map, is_some, option_map, slice_get}

module _ (entries : List Entry) (events : List TracedEvent) (spans : List Span) where
  abbrev F : ℕ → ℕ → ℕ → Type 0
  F = Logged entries events

  -- interval m stands last in the innermost of these, which is running, and so on outward
  pub data Around : ℕ → List ℕ → ℕ → Type 0 where
    outside : {m lo : ℕ} → m ≡ 0 → lo ≡ 0 → Around m [] lo
    last_of : {m k lo : ℕ} {rest : List ℕ} (i : Span) (ps : List Part) (first : ℕ) → slice_get spans k ≡ Some i
        → is_some i.closed ≡ false → i.round ≡ rest → k < m → i.parts ≡ ps ++ nested m ∷ [] → IsNowhere m ps
        → OpensAt entries events k first → Around k rest first → Tiles F spans k first ps lo → Around m (k ∷ rest) lo

  -- interval m is the innermost running one, and its parts cover the events up to number n
  pub record IsInnermost (m : ℕ) (rest : List ℕ) (n : ℕ) : Type 0 where
    pub first : ℕ
    pub around : Around m rest first
    pub span : Span
    pub there : slice_get spans m ≡ Some span
    pub runs : is_some span.closed ≡ false
    pub round : span.round ≡ rest
    pub opened : OpensAt entries events m first
    pub parts : Tiles F spans m first span.parts n

  -- interval 0 was left, and its parts cover all events
  pub record IsAllLeft (n : ℕ) : Type 0 where
    pub span : Span
    pub there : slice_get spans 0 ≡ Some span
    pub round : span.round ≡ []
    pub parts : Tiles F spans 0 0 span.parts n

  abbrev pub AreTiled : List ℕ → ℕ → Type 0
  AreTiled [] n = IsAllLeft n
  AreTiled (m ∷ rest) n = IsInnermost m rest n

  -- where an interval stands, and its events
  pub record IsPlaced (k : ℕ) (i : Span) : Type 0 where
    pub first : ℕ
    pub stands : Stands F spans k i.round first
    pub opened : OpensAt entries events k first
    pub covers : Covers F spans k first i.parts

  pub record IsTold (running : List ℕ) : Type 0 where
    pub same : (at entries).running ≡ running
    pub size : length (at entries).intervals ≡ length spans
    pub count : syncs entries ≡ count_to events (length events)
    pub tiled : AreTiled running (length events)
    pub placed : (k : ℕ) (i : Span) → slice_get spans k ≡ Some i → IsPlaced k i
    pub homes : (n : ℕ) → synchronizes (slice_get events n) ≡ true → SyncsAt entries events spans n

pub stands_of : (entries : List Entry) (events : List TracedEvent) (spans : List Span) (m : ℕ) (rest : List ℕ) (lo : ℕ) → Around entries events spans m rest lo → Stands (Logged entries events) spans m rest lo
stands_of entries events spans m [] lo (outside e z) = outermost e z
stands_of entries events spans m (k ∷ rest) lo (last_of i ps first there run round lt parts apart o a t) =
    within i ps [] first there round lt parts apart (stands_of entries events spans k rest first a) t

-- ---- more

module _ (entries later : List Entry) (grows : More entries later) (events told : List TracedEvent) (goes : MoreEvents events told) (spans after : List Span) (grown : HaveGrown spans after) where
  pub tiles_on : (k lo : ℕ) (ps : List Part) (hi : ℕ) → Tiles (Logged entries events) spans k lo ps hi → Tiles (Logged later told) after k lo ps hi
  tiles_on = tiles_grow (Logged entries events) (Logged later told) (logged_on entries later grows events told goes) spans after grown

  pub around_on : (m : ℕ) (rest : List ℕ) (lo : ℕ) → ((k : ℕ) → k < m → slice_get after k ≡ slice_get spans k) → Around entries events spans m rest lo → Around later told after m rest lo
  around_on m [] lo same (outside e z) = outside e z
  around_on m (k ∷ rest) lo same (last_of i ps first there run round lt parts apart o a t) =
      last_of i ps first (same k lt ∙ there) run round lt parts apart (opens_on entries later grows events told goes k first o)
      (around_on k rest first (λ j h. same j (omega (arith, h, lt))) a)
      (tiles_on k first ps lo t)

  pub placed_on : (k : ℕ) (i : Span) → IsPlaced entries events spans k i → IsPlaced later told after k i
  placed_on k i p = record {
    first = p.first;
    stands = stands_grow (Logged entries events) (Logged later told) (logged_on entries later grows events told goes) spans after grown k i.round p.first p.stands;
    opened = opens_on entries later grows events told goes k p.first p.opened;
    covers = covers_grow (Logged entries events) (Logged later told) (logged_on entries later grows events told goes) spans after grown k p.first i.parts p.covers;
  }

-- ---- changes of spans

grown_same : (i : Span) → HasGrown i i
grown_same i = record { round = refl; more = []; parts = sym (append-nil i.parts); left = λ e. refl }

pub grown_all : (spans : List Span) → HaveGrown spans spans
grown_all spans k i e = (i, e, grown_same i)

-- a change of a running interval that adds parts at the end
module _ (f : Span → Span) (q : List Part) (rounds : (i : Span) → (f i).round ≡ i.round) (parts : (i : Span) → (f i).parts ≡ i.parts ++ q) (spans : List Span) (m : ℕ) (i : Span) (there : slice_get spans m ≡ Some i) (runs : is_some i.closed ≡ false) where
  pub changed_at : slice_get (change f m spans) m ≡ Some (f i)
  changed_at = change-at f m spans ∙ ap (option_map f) there

  pub grown_by : HaveGrown spans (change f m spans)
  grown_by k j e = elim (cases_eq k m) [
    | inl same ↦
        let is : j ≡ i = some (sym e ∙ ap (λ z. slice_get spans z) same ∙ there) in
        (f j, ap (λ z. slice_get (change f m spans) z) same ∙ changed_at ∙ ap (λ (z : Span). Some (f z)) (sym is), record { round = rounds j; more = q; parts = parts j; left = λ c. absurd (true≢false (sym c ∙ ap (λ (z : Span). is_some z.closed) is ∙ runs)) })
    | inr other ↦ (j, change-else f m k spans other ∙ e, grown_same j)
  ]

  pub changed_below : (k : ℕ) → k < m → slice_get (change f m spans) k ≡ slice_get spans k
  changed_below k lt = change-else f m k spans (λ e. omega (arith, lt, e))

  -- which interval it is
  pub changed_cases : (k : ℕ) (j : Span) → slice_get (change f m spans) k ≡ Some j → ((k ≡ m) × (j ≡ f i)) ⊎ (slice_get spans k ≡ Some j)
  changed_cases k j e = elim (cases_eq k m) [
    | inl same ↦ inl (same, some (sym e ∙ ap (λ z. slice_get (change f m spans) z) same ∙ changed_at))
    | inr other ↦ inr (sym (change-else f m k spans other) ∙ e)
  ]

-- ---- the entries so far

pub none_more : (events : List TracedEvent) → MoreEvents events events
none_more events = ([], sym (append-nil events))

pub at_last : (entries : List Entry) (e : Entry) → at (entries ++ e ∷ []) ≡ extend (at entries) e
at_last entries e = fold-append extend (at []) entries (e ∷ [])

pub syncs_last : (entries : List Entry) (e : Entry) → syncs (entries ++ e ∷ []) ≡ syncs entries + cond (is_some (sync_in e)) 1 0
syncs_last entries e = ap length (filter_map-append sync_in entries (e ∷ [])) ∙ length-append (filter_map sync_in entries) (filter_map sync_in (e ∷ [])) ∙ ap (λ k. syncs entries + k) (one (sync_in e))
  where
    one : {A : Type 0} (o : Option A) → length (cons_option o []) ≡ cond (is_some o) 1 0
    one None = refl
    one (Some x) = refl
