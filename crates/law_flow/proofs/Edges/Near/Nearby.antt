-- What the walk from an event replays is round it or open in its edge.
use Rattle.ppd_model.specs.Setting.{Setting}
use Rattle.std.proofs.Common.{◌≡◌, ℕ, zero, suc, ◌+◌, ◌<◌, ◌≤◌, Bool, true, false, cond, List, [], ◌∷◌, Option, Some, None, refl, ap, sym, subst, ◌∙◌, arith, length, true≢false, inl, inr, ◌⊎◌, eq-eqb, ne_eqb}
use Rattle.std.specs.Prelude.{count_by, drop, is_some, nat_eq, slice_get, take, ◌||◌, get_or}
use Rattle.std.specs.List.{list_any}
use Rattle.std.proofs.lemmas.Bool.{cases_eq}
use Rattle.std.proofs.lemmas.List.Sums.{sum_by-append}
use Rattle.std.proofs.lemmas.Option.{none-some}
use Rattle.ppd_ast.specs.Valid.{IsValid}
use Rattle.ppd_ast.proofs.ValidLaws.{slice_get_there, slice_get_below}
use Rattle.ppd_ast.specs.Counting.{one_if}
use Rattle.ppd_model.specs.declared.trace.TracedEvent.{TracedEvent}
use Rattle.ppd_model.specs.FlowbackEdges.{part_at}
use Rattle.ppd_model.proofs.EdgeWords.{part_in}
use Rattle.ppd_model.specs.Intervals.{own, Span, Split, splits}
use Rattle.ppd_model.specs.Logs.{closed_log, log_of}
use Rattle.ppd_model.specs.NearIntervals.{edge_of_event, is_in, round_of, surroundings, through_step}
use Rattle.ppd_model.specs.Story.{Moment, story, told}
use Rattle.ppd_model.proofs.Tested.{In, here as first_in, there as later_in}
use Rattle.ppd_graph.specs.Seen.{seen_of}
use Rattle.ppd_graph.specs.Walk.{walk}
use Rattle.law_flow.proofs.Vocabulary.Events.{synchronizes}
use Rattle.law_flow.specs.Edges.Near.{IsOpenAt, WalksStayNear}
use Rattle.law_flow.proofs.Edges.LogPlaces.EdgeEnds.{place_of_event}
use Rattle.law_flow.proofs.Edges.LogPlaces.EdgePlaces.{count_one}
use Rattle.law_flow.proofs.Edges.Near.Left.{IsLeftBy, left_by_step, open_at}
use Rattle.law_flow.proofs.Edges.Near.Touched.{ArePlain, IsTouched, all_walked}
use Rattle.law_flow.proofs.Edges.Spans.Facts.{Logged, count_to}
use Rattle.law_flow.proofs.Edges.Spans.Told.{IsTold}
use Rattle.law_flow.proofs.Edges.Sources.Members.{no_member}
use Rattle.law_flow.proofs.Edges.StepEvents.Processes.{closed_told}

-- ---- members

pub is_member : (m : ℕ) (ms : List ℕ) → is_in m ms ≡ true → In m ms
is_member m [] e = absurd (true≢false (sym e))
is_member m (x ∷ xs) e = elim (cases_eq m x) [
  | inl same ↦ subst (λ z. In z (x ∷ xs)) (sym same) first_in
  | inr other ↦ later_in (is_member m xs (ap (λ b. b || list_any (nat_eq m) xs) (sym (ne_eqb m x other)) ∙ e))
]

pub member_is : (m : ℕ) (ms : List ℕ) → In m ms → is_in m ms ≡ true
member_is m [] i = absurd (no_member i)
member_is m (x ∷ xs) first_in = ap (λ b. b || list_any (nat_eq m) xs) (eq-eqb m m refl)
member_is m (x ∷ xs) (later_in i) = by (nat_eq m x) (member_is m xs i)
  where
    by : (b : Bool) {c : Bool} → c ≡ true → (b || c) ≡ true
    by true h = refl
    by false h = h

-- ---- counts

count-cons : (e : TracedEvent) (es : List TracedEvent) → count_by (λ (y : TracedEvent). is_some y.event.number) (e ∷ es) ≡ cond (is_some e.event.number) 1 0 + count_by (λ (y : TracedEvent). is_some y.event.number) es
count-cons e es =
    let s : count_by (λ (y : TracedEvent). is_some y.event.number) (e ∷ es) ≡ (0 + cond (is_some e.event.number) 1 0) + count_by (λ (y : TracedEvent). is_some y.event.number) es =
    sum_by-append (λ (y : TracedEvent). cond (is_some y.event.number) 1 0) (e ∷ []) es in
    omega (arith, s)

pub counted : (es : List TracedEvent) (n : ℕ) → count_by (λ (y : TracedEvent). is_some y.event.number) (take n es) ≡ count_to es n
counted [] zero = refl
counted [] (suc n) = refl
counted (e ∷ es) zero = refl
counted (e ∷ es) (suc n) = count-cons e (take n es) ∙ ap (λ k. cond (is_some e.event.number) 1 0 + k) (counted es n)

-- without a synchronization between them events are of one edge
pub plain_count : (events : List TracedEvent) (lo hi : ℕ) → lo ≤ hi → hi ≤ length events → ArePlain events lo hi → count_to events lo ≡ count_to events hi
plain_count events lo zero le end' q = ap (count_to events) (let z : lo ≡ 0 = omega (arith, le) in z)
plain_count events lo (suc hi) le end' q = elim (cases_eq lo (suc hi)) [
  | inl same ↦ ap (count_to events) same
  | inr other ↦
      let rest : count_to events lo ≡ count_to events hi = plain_count events lo hi (omega (arith, le, other)) (omega (arith, end')) (λ n ge lt. q n ge (omega (arith, lt))) in
      let e = slice_get_there events hi (omega (arith, end')) in
      let plain : one_if (is_some e.0.event.number) ≡ 0 = ap one_if (sym (ap synchronizes e.1) ∙ q hi (omega (arith, le, other)) (omega arith)) in
      let one : count_to events (hi + 1) ≡ count_to events hi + one_if (is_some e.0.event.number) = count_one events hi e.0 e.1 in
      let z : hi + 1 ≡ suc hi = omega arith in
      let last : count_to events (suc hi) ≡ count_to events hi = sym (ap (count_to events) z) ∙ one ∙ (let y : count_to events hi + one_if (is_some e.0.event.number) ≡ count_to events hi = omega (arith, plain) in y) in
      rest ∙ sym last
]

-- ---- near

module _ (setting : Setting) (h : List ℕ) (v : IsValid setting.program) (p : ℕ) (x : Split) (there : slice_get (splits setting (story setting h)) p ≡ Some x) where
  abbrev ms : List Moment
  ms = get_or (told setting h).moments p []

  -- an interval that was left in the edge is open in it
  left_open : (n m : ℕ) → n ≤ length x.trace.events → IsTouched x (Logged (closed_log (log_of setting p (get_or (told setting h).moments p []))) x.trace.events) n m → IsOpenAt x (count_to x.trace.events n) m
  left_open n m le t =
      let k = closed_told setting h v p x there in
      let l : IsLeftBy x t.span (count_to x.trace.events t.mid) = left_by_step setting p ms (story setting h) x k.0 k.1 x.trace.events m t.lo t.mid t.span t.is_there t.closed t.logged in
      let same : count_to x.trace.events t.mid ≡ count_to x.trace.events n = plain_count x.trace.events t.mid n t.before le t.since in
      let z : l.step + 1 ≡ suc l.step = omega arith in
      record {
        span = t.span;
        is_there = t.is_there;
        is_open = ap (λ o. list_any (λ d. nat_eq d (count_to x.trace.events n)) (drop t.span.opened (through_step o x.edges))) l.closed
            ∙ ap (λ i. list_any (λ d. nat_eq d (count_to x.trace.events n)) (drop t.span.opened (take i x.edges))) z
            ∙ open_at x.edges t.span.opened l.step (count_to x.trace.events n) l.opened (l.in_edge ∙ ap (λ i. Some i) same);
      }

  pub near_walk : (k j n c : ℕ) (e : TracedEvent) → part_at x k j ≡ Some (own n) → slice_get x.trace.events n ≡ Some e → (m : ℕ) → is_in m (walk (seen_of x) c k j).replays ≡ true
      → (is_in m (surroundings x k) ≡ true) ⊎ IsOpenAt x (edge_of_event x n) m
  near_walk k j n c e place at m i = by (slice_get x.spans k) refl place
    where
      lt : n < length x.trace.events
      lt = slice_get_below x.trace.events n e at

      told_by : IsTold (closed_log (log_of setting p (get_or (told setting h).moments p []))) x.trace.events x.spans x.running
      told_by = (closed_told setting h v p x there).2

      by : (o : Option Span) → slice_get x.spans k ≡ o → part_in o j ≡ Some (own n) → (is_in m (surroundings x k) ≡ true) ⊎ IsOpenAt x (edge_of_event x n) m
      by None g f = absurd (none-some (own n) f)
      by (Some s) g f =
          let q = place_of_event x (closed_log (log_of setting p (get_or (told setting h).moments p []))) told_by k j n s g f lt in
          let le : n ≤ length x.trace.events = (let l = lt in omega (arith, l)) in
          elim (all_walked x c (Logged (closed_log (log_of setting p (get_or (told setting h).moments p []))) x.trace.events) k q.0.first q.1 (own n ∷ q.2) n s g q.3 q.5 le q.0.stands m
          (subst (λ z. In m (walk (seen_of x) c k z).replays) (sym q.4) (is_member m (walk (seen_of x) c k j).replays i))) [
            | inl t ↦ inr (subst (λ z. IsOpenAt x z m) (sym (counted x.trace.events n)) (left_open n m le t))
            | inr r ↦ inl (member_is m (surroundings x k) (later_in (subst (λ l. In m (round_of l)) (sym g) r)))
          ]

pub walks_near : WalksStayNear
walks_near setting h p k j n c x e v there place at m i = near_walk setting h v p x there k j n c e place at m i
