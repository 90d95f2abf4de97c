-- An interval begins, and one is left.
use Rattle.law_flow.proofs.Edges.Spans.Facts.{Logged, More, OpensAt, at, opens_on, syncs, syncs_on}
use Rattle.law_flow.proofs.Edges.Spans.Tiles.{Covers, HaveGrown, Stands, Tiles, all_covered, ends, none, nowhere, one_interval, then_runs}
use Rattle.law_flow.proofs.Edges.Spans.Told.{AreTiled, Around, IsInnermost, IsPlaced, IsTold, around_on, at_last, changed_at, changed_below, changed_cases, grown_by, last_of, none_more, outside, placed_on, stands_of, syncs_last, tiles_on}
use Rattle.ppd_ast.proofs.ValidLaws.{slice_get_below}
use Rattle.ppd_model.specs.declared.entry.Entry.{Entry}
use Rattle.ppd_model.specs.declared.entry.Entry.TheVariants as entry
use Rattle.ppd_model.proofs.Changes.{length-change, some}
use Rattle.ppd_model.proofs.CountedOn.{kept_at, last_at}
use Rattle.ppd_model.proofs.ExtentWords.{Extending, left_by as extents_left}
use Rattle.ppd_model.specs.Extents.{Extent}
use Rattle.ppd_model.specs.FullTrace.{Tag}
use Rattle.ppd_model.specs.Intervals.{Span, nested, with_part}
use Rattle.ppd_model.specs.World.{change}
use Rattle.ppd_model.specs.declared.trace.TracedEvent.{TracedEvent}
use Rattle.std.proofs.Common.{List, Some, [], ap, ap₂, arith, false, inl, inr, length, length-append, refl, subst, suc, sym, true, zero, ℕ, ℤ, ◌++◌, ◌+◌, ◌<◌, ◌∙◌, ◌∷◌, ◌≡◌, ◌⊎◌}
use Rattle.std.proofs.lemmas.List.{append-nil}
use Rattle.std.proofs.lemmas.Option.{none-some}
use Rattle.std.specs.Prelude.{drop, is_some, slice_get}

-- ---- an interval begins

new_cases : (xs : List Span) (y : Span) (k : ℕ) (j : Span) → slice_get (xs ++ y ∷ []) k ≡ Some j → (slice_get xs k ≡ Some j) ⊎ ((k ≡ length xs) × (y ≡ j))
new_cases [] y zero j e = inr (refl, some e)
new_cases [] y (suc k) j e = absurd (none-some j e)
new_cases (x ∷ xs) y zero j e = inl e
new_cases (x ∷ xs) y (suc k) j e = elim (new_cases xs y k j e) [ inl a ↦ inl a | inr b ↦ inr (ap (λ n. suc n) b.0, b.1) ]

module _ (entries : List Entry) (events : List TracedEvent) (spans : List Span) (m : ℕ) (rest : List ℕ) (b : ℕ) (values : List ℤ) (new : Span) (h : IsTold entries events spans (m ∷ rest)) where
  later : List Entry
  later = entries ++ entry.Prelog b values ∷ []

  number : ℕ
  number = length spans

  changed : List Span
  changed = change (with_part (nested (length spans))) m spans

  after : List Span
  after = change (with_part (nested (length spans))) m spans ++ new ∷ []

  below : m < length spans
  below = slice_get_below spans m h.tiled.span h.tiled.there

  long : length changed ≡ length spans
  unfolding changed
  long = length-change (with_part (nested (length spans))) m spans

  in_changed : HaveGrown spans changed
  unfolding changed
  in_changed = grown_by (with_part (nested (length spans))) (nested (length spans) ∷ []) (λ i. refl) (λ i. refl) spans m h.tiled.span h.tiled.there h.tiled.runs

  grown : HaveGrown spans after
  unfolding after changed
  grown k i e = let g = in_changed k i e in (g.0, kept_at (change (with_part (nested (length spans))) m spans) (new ∷ []) k g.0 g.1, g.2)

  at_any : (xs ys : List Span) (i : ℕ) → i < length xs → slice_get (xs ++ ys) i ≡ slice_get xs i
  at_any [] ys i lt = absurd (omega (arith, lt))
  at_any (z ∷ xs) ys zero lt = refl
  at_any (z ∷ xs) ys (suc i) lt = at_any xs ys i (omega (arith, lt))

  same_below : (k : ℕ) → k < m → slice_get after k ≡ slice_get spans k
  unfolding after changed
  same_below k lt =
      let l = long in
      let d = below in
      at_any (change (with_part (nested (length spans))) m spans) (new ∷ []) k (omega (arith, lt, l, d))
      ∙ changed_below (with_part (nested (length spans))) (nested (length spans) ∷ []) (λ i. refl) (λ i. refl) spans m h.tiled.span h.tiled.there h.tiled.runs k lt

  grows : More entries later
  unfolding later
  grows = (entry.Prelog b values ∷ [], refl)

  around : Around later events after m rest h.tiled.first
  around = around_on entries later grows events events (none_more events) spans after grown m rest h.tiled.first same_below h.tiled.around

  opened : OpensAt later events m h.tiled.first
  opened = opens_on entries later grows events events (none_more events) m h.tiled.first h.tiled.opened

  tiles : Tiles (Logged later events) after m h.tiled.first h.tiled.span.parts (length events)
  tiles = tiles_on entries later grows events events (none_more events) spans after grown m h.tiled.first h.tiled.span.parts (length events) h.tiled.parts

  new_opened : OpensAt later events number (length events)
  unfolding later number
  new_opened = record {
    before = entries;
    block = b;
    values = values;
    after = [];
    entries_are = refl;
    number = sym h.size;
    count = h.count;
    within = omega arith;
  }

  outer_there : slice_get after m ≡ Some (with_part (nested (length spans)) h.tiled.span)
  unfolding after changed
  outer_there = kept_at (change (with_part (nested (length spans))) m spans) (new ∷ []) m (with_part (nested (length spans)) h.tiled.span)
      (changed_at (with_part (nested (length spans))) (nested (length spans) ∷ []) (λ i. refl) (λ i. refl) spans m h.tiled.span h.tiled.there h.tiled.runs)

  new_there : slice_get after number ≡ Some new
  unfolding after number changed
  new_there = subst (λ k. slice_get (change (with_part (nested (length spans))) m spans ++ new ∷ []) k ≡ Some new) long (last_at (change (with_part (nested (length spans))) m spans) new)

  new_around : Around later events after number (m ∷ rest) (length events)
  unfolding number
  new_around =
      last_of (with_part (nested (length spans)) h.tiled.span) h.tiled.span.parts h.tiled.first outer_there h.tiled.runs h.tiled.round below refl
      (nowhere (Logged entries events) spans m h.tiled.first h.tiled.span.parts (length events) (length spans) h.tiled.parts (λ i e. let lt : length spans < length spans = slice_get_below spans (length spans) i e in omega (arith, lt)))
      opened around tiles

  pub open_told : new.round ≡ m ∷ rest → new.parts ≡ [] → is_some new.closed ≡ false → IsTold (entries ++ entry.Prelog b values ∷ []) events (change (with_part (nested (length spans))) m spans ++ new ∷ []) (length spans ∷ m ∷ rest)
  unfolding later after number changed
  open_told round parts runs =
      record {
        same = ap (λ (y : Extending). y.running) (at_last entries (entry.Prelog b values)) ∙ ap₂ (λ k ks. k ∷ ks) h.size h.same;
        size = ap (λ (y : Extending). length y.intervals) (at_last entries (entry.Prelog b values)) ∙ length-append (at entries).intervals _ ∙ ap (λ k. k + 1) (h.size ∙ sym long) ∙ sym (length-append (change (with_part (nested (length spans))) m spans) (new ∷ []));
        count = syncs_last entries (entry.Prelog b values) ∙ (let z : syncs entries + 0 ≡ syncs entries = omega arith in z) ∙ h.count;
        tiled = record {
          first = length events;
          around = new_around;
          span = new;
          there = new_there;
          runs = runs;
          round = round;
          opened = new_opened;
          parts = subst (λ ps. Tiles (Logged later events) after number (length events) ps (length events)) (sym parts) (ends refl);
        };
        placed = λ k j e. elim (new_cases (change (with_part (nested (length spans))) m spans) new k j e) [
          | inl old ↦ elim (changed_cases (with_part (nested (length spans))) (nested (length spans) ∷ []) (λ i. refl) (λ i. refl) spans m h.tiled.span h.tiled.there h.tiled.runs k j old) [
            | inl outer ↦ subst (λ z. IsPlaced later events after z j) (sym outer.0) (subst (λ z. IsPlaced later events after m z) (sym outer.1) outer_placed)
            | inr kept ↦ placed_on entries later grows events events (none_more events) spans after grown k j (h.placed k j kept)
          ]
          | inr is ↦ subst (λ z. IsPlaced later events after z j) (sym (is.0 ∙ long)) (subst (λ z. IsPlaced later events after number z) is.1 (new_placed round parts))
        ];
        homes = λ n e. syncs_on entries later grows events events (none_more events) spans after grown n (h.homes n e);
      }
    where
      outer_placed : IsPlaced later events after m (with_part (nested (length spans)) h.tiled.span)
      outer_placed = record {
        first = h.tiled.first;
        stands = subst (λ r. Stands (Logged later events) after m r h.tiled.first) (sym h.tiled.round) (stands_of later events after m rest h.tiled.first around);
        opened = opened;
        covers = then_runs (Logged later events) after m h.tiled.first h.tiled.span.parts (length events) (length spans) tiles;
      }

      new_placed : new.round ≡ m ∷ rest → new.parts ≡ [] → IsPlaced later events after number new
      new_placed round' parts' = record {
        first = length events;
        stands = subst (λ r. Stands (Logged later events) after number r (length events)) (sym round') (stands_of later events after number (m ∷ rest) (length events) new_around);
        opened = new_opened;
        covers = subst (λ ps. Covers (Logged later events) after number (length events) ps) (sym parts') none;
      }

-- ---- an interval is left

module _ (entries : List Entry) (events : List TracedEvent) (spans : List Span) (m : ℕ) (rest : List ℕ) (b : ℕ) (values : List ℤ) (c : ℕ) (vs : List ℤ) (tags : List Tag) (h : IsTold entries events spans (m ∷ rest)) where
  abbrev f : Span → Span
  f i = record i { closed = Some c; values = vs; left = tags }

  abbrev done : List Entry
  done = entries ++ entry.Postlog b values ∷ []

  abbrev now : List Span
  now = change f m spans

  same_parts : (i : Span) → (f i).parts ≡ i.parts ++ []
  same_parts i = sym (append-nil i.parts)

  abbrev t : IsInnermost entries events spans m rest (length events)
  t = h.tiled

  grown' : HaveGrown spans now
  grown' = grown_by f [] (λ i. refl) same_parts spans m t.span t.there t.runs

  grows' : More entries done
  grows' = (entry.Postlog b values ∷ [], refl)

  here : slice_get now m ≡ Some (f t.span)
  here = changed_at f [] (λ i. refl) same_parts spans m t.span t.there t.runs

  tiles' : Tiles (Logged done events) now m t.first t.span.parts (length events)
  tiles' = tiles_on entries done grows' events events (none_more events) spans now grown' m t.first t.span.parts (length events) t.parts

  left : Logged done events m t.first (length events)
  left = (
    opens_on entries done grows' events events (none_more events) m t.first t.opened,
    record { before = entries; block = b; values = values; after = []; rest = rest; entries_are = refl; runs = h.same; count = h.count; within = omega arith },
  )

  after_it : (ks : List ℕ) → rest ≡ ks → Around entries events spans m ks t.first → AreTiled done events now ks (length events)
  after_it [] all (outside e z) = record {
    span = f t.span;
    there = subst (λ k. slice_get now k ≡ Some (f t.span)) e here;
    round = t.round ∙ all;
    parts = subst (λ k. Tiles (Logged done events) now k 0 t.span.parts (length events)) e (subst (λ k. Tiles (Logged done events) now m k t.span.parts (length events)) z tiles');
  }
  after_it (k ∷ ks) all (last_of i ps first there run round lt parts apart o a u) = record {
    first = first;
    around = around_on entries done grows' events events (none_more events) spans now grown' k ks first (λ j low. changed_below f [] (λ i. refl) same_parts spans m t.span t.there t.runs j (omega (arith, low, lt))) a;
    span = i;
    there = changed_below f [] (λ i. refl) same_parts spans m t.span t.there t.runs k lt ∙ there;
    runs = run;
    round = round;
    opened = opens_on entries done grows' events events (none_more events) k first o;
    parts = subst (λ l. Tiles (Logged done events) now k first l (length events)) (sym parts)
        (one_interval (Logged done events) now k first ps t.first m (f t.span) (length events) (tiles_on entries done grows' events events (none_more events) spans now grown' k first ps t.first u) lt here refl left tiles');
  }

  stands' : Stands (Logged done events) now m (f t.span).round t.first
  stands' = subst (λ r. Stands (Logged done events) now m r t.first) (sym t.round)
      (stands_of done events now m rest t.first (around_on entries done grows' events events (none_more events) spans now grown' m rest t.first (changed_below f [] (λ i. refl) same_parts spans m t.span t.there t.runs) t.around))

  drop_running : (at entries).running ≡ m ∷ rest → (at done).running ≡ rest
  drop_running e = ap (λ (y : Extending). y.running) (at_last entries (entry.Postlog b values)) ∙ ap (λ ks. drop 1 ks) e

  left_length : (j : ℕ) (ks : List ℕ) (xs : List Extent) → length (extents_left j ks xs) ≡ length xs
  left_length j [] xs = refl
  left_length j (k ∷ ks) xs = length-change (λ x. record x { last = Some j; closed = true }) k xs

  pub close_told : IsTold done events now rest
  close_told = record {
    same = drop_running h.same;
    size = ap (λ (y : Extending). length y.intervals) (at_last entries (entry.Postlog b values)) ∙ left_length (at entries).entry (at entries).running (at entries).intervals ∙ h.size ∙ sym (length-change f m spans);
    count = syncs_last entries (entry.Postlog b values) ∙ (let z : syncs entries + 0 ≡ syncs entries = omega arith in z) ∙ h.count;
    tiled = after_it rest refl t.around;
    placed = λ k j e. elim (changed_cases f [] (λ i. refl) same_parts spans m t.span t.there t.runs k j e) [
      | inl new ↦ subst (λ z. IsPlaced done events now z j) (sym new.0) (subst (λ z. IsPlaced done events now m z) (sym new.1) (record {
        first = t.first;
        stands = stands';
        opened = left.0;
        covers = all_covered (Logged done events) now m t.first t.span.parts (length events) tiles';
      }))
      | inr old ↦ placed_on entries done grows' events events (none_more events) spans now grown' k j (h.placed k j old)
    ];
    homes = λ n e. syncs_on entries done grows' events events (none_more events) spans now grown' n (h.homes n e);
  }
