-- An interval that was left was left by a step of the edge that goes on after its events.
use Rattle.ppd_model.specs.Setting.{Setting}
use Rattle.law_flow.proofs.Edges.LogPlaces.Extended.{is_log, still_one}
use Rattle.law_flow.proofs.Edges.LogPlaces.Innermost.{not_in}
use Rattle.law_flow.proofs.Edges.Near.Timed.{before_postlog, edge_at, edge_is, in_middle, size_both}
use Rattle.law_flow.proofs.Edges.Spans.Facts.{LeavesAt, Logged, at, count_to, syncs}
use Rattle.ppd_ast.proofs.ValidLaws.{slice_get_there}
use Rattle.ppd_model.specs.declared.entry.Entry.{Entry}
use Rattle.ppd_model.specs.declared.entry.Entry.TheVariants as entry
use Rattle.ppd_model.proofs.Changes.{change-at, some}
use Rattle.ppd_model.proofs.ExtentWords.{Extending, begun_extents, extend, extent_found, left_by as extents_left}
use Rattle.ppd_model.proofs.Extents.{Fall, IsIn, entry_number}
use Rattle.ppd_model.specs.Bounds.{AreEach}
use Rattle.ppd_model.specs.Extents.{Extent, extents}
use Rattle.ppd_model.specs.Intervals.{Span, Split, begun_split, split_of}
use Rattle.ppd_model.specs.Logs.{begun_log, closed_log, entries_of, log_of, log_step}
use Rattle.ppd_model.specs.RecordedSets.{sync_in}
use Rattle.ppd_model.specs.Story.{Moment, steps_of}
use Rattle.ppd_model.specs.Written.{AreOfSteps, IsOfSteps, WroteEntry}
use Rattle.ppd_model.specs.declared.state.Logging.{Logging}
use Rattle.ppd_model.specs.declared.trace.TracedEvent.{TracedEvent}
use Rattle.ppd_model.specs.declared.tracing.Story.{Story}
use Rattle.ppd_sem.specs.Process.{started}
use Rattle.std.proofs.Common.{Bool, List, None, Option, Some, [], ap, ap₂, arith, eq-eqb, false, inl, inr, length, length-append, refl, subst, suc, sym, true, true≢false, zero, ℕ, ◌++◌, ◌+◌, ◌<◌, ◌∙◌, ◌∷◌, ◌≡◌, ◌≤◌}
use Rattle.std.proofs.lemmas.Bool.{cases_lt}
use Rattle.std.proofs.lemmas.List.{append-nil, append_assoc}
use Rattle.std.proofs.lemmas.List.Sums.{fold-append}
use Rattle.std.proofs.lemmas.Option.{none-some}
use Rattle.std.specs.List.{list_any}
use Rattle.std.specs.Prelude.{drop, fold, is_some, nat_eq, option_map, slice_get, take, ◌||◌}

each_at : {A B : Type 0} (R : A → B → Type 0) (xs : List A) (ys : List B) → AreEach R xs ys → (m : ℕ) (x : A) (y : B) → slice_get xs m ≡ Some x → slice_get ys m ≡ Some y → R x y
each_at R [] ys h m x y e f = absurd (none-some x e)
each_at R (a ∷ xs) [] h m x y e f = absurd h
each_at R (a ∷ xs) (b ∷ ys) h zero x y e f = subst (λ z. R z y) (some e) (subst (λ z. R a z) (some f) h.0)
each_at R (a ∷ xs) (b ∷ ys) h (suc m) x y e f = each_at R xs ys h.1 m x y e f

-- a list that is no longer than another beginning of the same list begins it
begins : {A : Type 0} (xs ys us vs : List A) → xs ++ ys ≡ us ++ vs → length xs ≤ length us → (more : List A) × (us ≡ xs ++ more)
begins [] ys us vs e le = (us, refl)
begins (x ∷ xs) ys [] vs e le = absurd (omega (arith, le))
begins (x ∷ xs) ys (u ∷ us) vs e le =
    let r = begins xs ys us vs (ap (λ l. elim l [ [] ↦ [] | z ∷ zs ↦ zs ]) e) (omega (arith, le)) in
    let same : x ≡ u = ap (λ l. elim l [ [] ↦ x | z ∷ zs ↦ z ]) e in
    (r.0, ap₂ (λ z l. z ∷ l) (sym same) r.1)

-- what the log says of an interval that was left
record IsLeft (entries : List Entry) (m place : ℕ) : Type 0 where
  pub extent : Extent
  pub is_there : slice_get (extents entries) m ≡ Some extent
  pub last : extent.last ≡ Some place
  pub after : extent.prelog < place

left_at : (entries : List Entry) (events : List TracedEvent) (m mid : ℕ) (l : LeavesAt entries events m mid) → IsLeft entries m (length l.before)
left_at entries events m mid l =
    let y : Extending = at l.before in
    let falls : Fall (length y.intervals) (m ∷ l.rest) = subst (λ ks. Fall (length y.intervals) ks) l.runs (is_log l.before).falls in
    let there = slice_get_there y.intervals m falls.0 in
    let number : y.entry ≡ length l.before = entry_number l.before in
    let low : there.0.prelog < y.entry = (is_log l.before).prelogs m there.0 there.1 in
    let left : Extending = extend y (entry.Postlog l.block l.values) in
    let here : slice_get left.intervals m ≡ Some (record there.0 { last = Some y.entry; closed = true }) =
    ap (λ ks. slice_get (extents_left y.entry ks y.intervals) m) l.runs ∙ change-at (λ (z : Extent). record z { last = Some y.entry; closed = true }) m y.intervals ∙ ap (option_map (λ (z : Extent). record z { last = Some y.entry; closed = true })) there.1 in
    let out : IsIn m left.running → ⊥ = λ i. not_in m l.rest m falls.1 (omega arith) (subst (λ ks. IsIn m (drop 1 ks)) l.runs i) in
    let final : at entries ≡ fold extend left l.after = ap (λ es. at es) l.entries_are ∙ fold-append extend begun_extents l.before (entry.Postlog l.block l.values ∷ l.after) in
    record {
      extent = record there.0 { last = Some y.entry; closed = true };
      is_there = extent_found entries m (Some (record there.0 { last = Some y.entry; closed = true })) (ap (λ (z : Extending). slice_get z.intervals m) final ∙ still_one left l.after m _ here out);
      last = ap (λ k. Some k) number;
      after = omega (arith, low, number);
    }

-- a step from the one that opened the interval through the one that left it lies in the edge
pub open_at : (edges : List ℕ) (o s e : ℕ) → o ≤ s → slice_get edges s ≡ Some e → list_any (λ d. nat_eq d e) (drop o (take (suc s) edges)) ≡ true
open_at [] o s e le f = absurd (none-some e f)
open_at (d ∷ ds) zero zero e le f = ap (λ z. nat_eq z e || list_any (λ y. nat_eq y e) (take 0 ds)) (some f) ∙ ap (λ b. b || list_any (λ y. nat_eq y e) (take 0 ds)) (eq-eqb e e refl)
open_at (d ∷ ds) zero (suc s) e le f = or_right (nat_eq d e) (open_at ds zero s e (omega arith) f)
  where
    or_right : (b : Bool) {c : Bool} → c ≡ true → (b || c) ≡ true
    or_right true h = refl
    or_right false h = h
open_at (d ∷ ds) (suc o) zero e le f = absurd (omega (arith, le))
open_at (d ∷ ds) (suc o) (suc s) e le f = open_at ds o s e (omega (arith, le)) f

-- the step that left an interval: not before the one that opened it, and of this edge
pub record IsLeftBy (x : Split) (i : Span) (e : ℕ) : Type 0 where
  pub step : ℕ
  pub closed : i.closed ≡ Some step
  pub opened : i.opened ≤ step
  pub in_edge : slice_get x.edges step ≡ Some e

module _ (setting : Setting) (p : ℕ) (ms : List Moment) where
  abbrev log : List Moment → Logging
  log done = log_of setting p done

  abbrev entries : List Entry
  entries = closed_log (log_of setting p ms)

  log_grows : (l : Logging) (more : List Moment) → (es : List Entry) × ((fold (log_step setting.program setting.plan) l more).entries ≡ l.entries ++ es)
  log_grows l [] = ([], sym (append-nil l.entries))
  log_grows l (m ∷ more) =
      let r = log_grows (log_step setting.program setting.plan l m) more in
      (entries_of setting.program setting.plan l m ++ r.0, r.1 ∙ append_assoc l.entries (entries_of setting.program setting.plan l m) r.0)

  log_long : (done more : List Moment) → length (log done).entries ≤ length (log (done ++ more)).entries
  log_long done more =
      let r = log_grows (log done) more in
      let is : (log (done ++ more)).entries ≡ (log done).entries ++ r.0 = ap (λ (l : Logging). l.entries) (fold-append (log_step setting.program setting.plan) (begun_log setting p) done more) ∙ r.1 in
      let long : length (log (done ++ more)).entries ≡ length (log done).entries + length r.0 = ap length is ∙ length-append (log done).entries r.0 in
      omega (arith, long)

  abbrev IsOf : ℕ → ℕ → Type 0
  IsOf = WroteEntry setting p ms

  -- a later entry is of no earlier step
  in_order : (s j t i : ℕ) → IsOf s j → IsOf t i → i < j → t ≤ s
  in_order s j t i a b lt = elim (cases_lt s t) [
    | inr more ↦ more
    | inl less ↦
        let la : s ≡ length a.before = a.step in
        let lb : t ≡ length b.before = b.step in
        let through : List Moment = a.before ++ a.moment ∷ [] in
        let long : length through ≡ length a.before + 1 = length-append a.before (a.moment ∷ []) in
        let r = begins through a.after b.before (b.moment ∷ b.after) (append_assoc a.before (a.moment ∷ []) a.after ∙ sym a.moments_are ∙ b.moments_are) (omega (arith, long, la, lb, less)) in
        let up : length (log through).entries ≤ length (log b.before).entries = subst (λ l. length (log through).entries ≤ length (log l).entries) (sym r.1) (log_long through r.0) in
        let hi : j < length (log through).entries = a.there in
        let low : length (log b.before).entries ≤ i = b.new in
        absurd (omega (arith, up, hi, low, lt))
  ]

  closed_more : (l : Logging) → (es : List Entry) × (closed_log l ≡ l.entries ++ es)
  closed_more l = (_, refl)

  module _ (story' : Story) (x : Split) (split_is : split_of setting story' p (steps_of ms) ≡ x) (steps : AreOfSteps setting p x ms) where
    steps_both : (as' bs : List Moment) (m : Moment) → steps_of (as' ++ m ∷ bs) ≡ steps_of as' ++ m.taken ∷ steps_of bs
    steps_both [] bs m = refl
    steps_both (a ∷ as') bs m = ap (λ l. a.taken ∷ l) (steps_both as' bs m)

    steps_long : (as' : List Moment) → length (steps_of as') ≡ length as'
    steps_long [] = refl
    steps_long (a ∷ as') = ap (λ k. suc k) (steps_long as')

    -- the edge of a step that wrote a postlog
    edge_of : (s : ℕ) (events : List TracedEvent) (m mid : ℕ) (l : LeavesAt entries events m mid) → IsOf s (length l.before) → slice_get x.edges s ≡ Some (count_to events mid)
    edge_of s events m mid l w =
        let begun : Split = begun_split setting.program setting.plan p (started setting.program setting.plan p setting.budget) in
        let done : Logging = log w.before in
        let at_step : slice_get (split_of setting story' p (steps_of w.before ++ w.moment.taken ∷ steps_of w.after)).edges (0 + length (steps_of w.before)) ≡ Some (split_of setting story' p (steps_of w.before)).edge =
        edge_at setting.program setting.plan story' p begun (steps_of w.before) (steps_of w.after) w.moment.taken in
        let x_is : split_of setting story' p (steps_of w.before ++ w.moment.taken ∷ steps_of w.after) ≡ x =
        ap (split_of setting story' p) (sym (ap (λ l'. steps_of l') w.moments_are ∙ steps_both w.before w.after w.moment)) ∙ split_is in
        let place : 0 + length (steps_of w.before) ≡ s = (let z = steps_long w.before in let y : s ≡ length w.before = w.step in omega (arith, z, y)) in
        let edge : (split_of setting story' p (steps_of w.before)).edge ≡ syncs done.entries = edge_is setting.program setting.plan story' p (begun_log setting p) begun w.before refl in
        let next : log (w.before ++ w.moment ∷ []) ≡ log_step setting.program setting.plan done w.moment = fold-append (log_step setting.program setting.plan) (begun_log setting p) w.before (w.moment ∷ []) in
        let grown = log_grows (log_step setting.program setting.plan done w.moment) w.after in
        let kept : (log ms).entries ≡ (done.entries ++ entries_of setting.program setting.plan done w.moment) ++ grown.0 =
        ap (λ l'. (log l').entries) w.moments_are ∙ ap (λ (k : Logging). k.entries) (fold-append (log_step setting.program setting.plan) (begun_log setting p) w.before (w.moment ∷ w.after)) ∙ grown.1 in
        let more = closed_more (log ms) in
        let all : (done.entries ++ entries_of setting.program setting.plan done w.moment) ++ (grown.0 ++ more.0) ≡ l.before ++ entry.Postlog l.block l.values ∷ l.after =
        sym (append_assoc (done.entries ++ entries_of setting.program setting.plan done w.moment) grown.0 more.0) ∙ ap (λ es. es ++ more.0) (sym kept) ∙ sym more.1 ∙ l.entries_are in
        let hi : length l.before < length (done.entries ++ entries_of setting.program setting.plan done w.moment) = subst (λ (k : Logging). length l.before < length k.entries) next w.there in
        let mid' = in_middle done.entries (entries_of setting.program setting.plan done w.moment) (grown.0 ++ more.0) l.before l.after (entry.Postlog l.block l.values) all w.new hi in
        let none : syncs mid'.0 ≡ 0 = before_postlog setting.program setting.plan done w.moment mid'.0 l.block l.values mid'.1 mid'.3 in
        let total : syncs l.before ≡ syncs done.entries + syncs mid'.0 = ap syncs mid'.2 ∙ size_both sync_in done.entries mid'.0 in
        let number : (split_of setting story' p (steps_of w.before)).edge ≡ count_to events mid = (let c = l.count in omega (arith, edge, none, total, c)) in
        ap₂ (λ (z : Split) k. slice_get z.edges k) (sym x_is) (sym place) ∙ at_step ∙ ap (λ k. Some k) number

    pub left_by_step : (events : List TracedEvent) (m lo mid : ℕ) (i : Span) → slice_get x.spans m ≡ Some i → is_some i.closed ≡ true → Logged entries events m lo mid → IsLeftBy x i (count_to events mid)
    left_by_step events m lo mid i there is h = by i.closed refl
      where
        by : (o : Option ℕ) → i.closed ≡ o → IsLeftBy x i (count_to events mid)
        by None e = absurd (true≢false (sym is ∙ ap (λ o. is_some o) e))
        by (Some s) e =
            let l : LeavesAt entries events m mid = h.1 in
            let z : IsLeft entries m (length l.before) = left_at entries events m mid l in
            let of : IsOfSteps (IsOf) _ i z.extent = each_at _ x.spans (extents entries) steps.closed_are m i z.extent there z.is_there in
            let c = of.closed s e in
            let same : c.0 ≡ length l.before = some (sym c.1 ∙ z.last) in
            let w : IsOf s (length l.before) = subst (λ j. IsOf s j) same c.2 in
            let low = z.after in
            record {
              step = s;
              closed = e;
              opened = elim of.opened [ inl first ↦ (let f = first.0 in omega (arith, f)) | inr o ↦ in_order s (length l.before) i.opened z.extent.prelog w o low ];
              in_edge = edge_of s events m mid l w;
            }
