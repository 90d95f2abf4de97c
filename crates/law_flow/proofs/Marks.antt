-- The marks that a process's events leave, and the last writes among them.
use Rattle.std.proofs.Common.{◌≡◌, ℕ, zero, suc, ◌+◌, ◌<◌, ◌≤◌, ℤ, Bool, true, false, List, [], ◌∷◌, ◌++◌, Option, Some, None, refl, ap, ap₂, sym, subst, ◌∙◌, arith, cond, eq-eqb, ne_eqb, length, map, take, true≢false, inl, inr, ◌⊎◌}
use Rattle.std.specs.Prelude.{⊤, find, fold, is_none, is_some, nat_eq, option_map, slice_get, ◌&&◌, if◌then◌else◌}
use Rattle.std.proofs.lemmas.Bool.{cases_eq, cases_lt, eqb-true}
use Rattle.std.proofs.lemmas.List.{append-nil, take_all, length-map}
use Rattle.std.proofs.lemmas.List.Sums.{fold-append}
use Rattle.std.proofs.lemmas.Option.{none-some}
use Rattle.ppd_ast.proofs.ValidLaws.{slice_get_there}
use Rattle.ppd_sem.specs.declared.event.Event.{Event}
use Rattle.ppd_model.specs.declared.trace.TracedEvent.{TracedEvent}
use Rattle.ppd_model.proofs.Lists.{map_get}
use Rattle.ppd_graph.specs.Walk.{value_to}
use Rattle.law_flow.proofs.Vocabulary.Events.{AreQuiet, IsLastWriter, IsQuiet, synchronizes, written_by}
use Rattle.law_flow.proofs.Edges.LogPlaces.EdgePlaces.{count_one}
use Rattle.law_flow.proofs.Edges.Spans.Facts.{count_to}
use Rattle.law_flow.specs.Following.{edge_past}
use Rattle.law_flow.specs.JoinedLaws.{bare}
use Rattle.law_flow.proofs.Vocabulary.Whole.{edge_after}
use Rattle.law_flow.specs.Writers.{Mark, Marking, mark_event, mark_in, marked, marks_of, own_write, unmarked, writes}

-- ---- lists

pub take_one : {A : Type 0} (xs : List A) (n : ℕ) (x : A) → slice_get xs n ≡ Some x → take (suc n) xs ≡ take n xs ++ x ∷ []
take_one [] n x e = absurd (none-some x e)
take_one (y ∷ ys) zero x e = let same : y ≡ x = cc in ap (λ z. z ∷ []) same
take_one (y ∷ ys) (suc n) x e = ap (λ l. y ∷ l) (take_one ys n x e)

take_none : {A : Type 0} (xs : List A) → take zero xs ≡ []
take_none [] = refl
take_none (x ∷ xs) = refl

count_none : (es : List TracedEvent) → count_to es zero ≡ 0
count_none [] = refl
count_none (e ∷ es) = refl

pub edge_by : (edge : ℕ) (o : Option ℕ) → edge_past edge o ≡ edge + cond (is_some o) 1 0
edge_by edge None = omega arith
edge_by edge (Some n) = refl

-- ---- marks

skips : (i : ℕ) (new : Mark) (ms : List Mark) → nat_eq new.edge i ≡ false → mark_in i (marked new ms) ≡ mark_in i ms
skips i new [] other = ap (λ b. option_map (λ (m : Mark). m.number) (cond b (Some new) None)) other
skips i new (m ∷ ms) other = by (nat_eq m.edge new.edge) refl
  where
    over : (rest : List Mark) → mark_in i (new ∷ rest) ≡ mark_in i rest
    over rest = ap (λ b. option_map (λ (m : Mark). m.number) (cond b (Some new) (find (λ m. nat_eq m.edge i) rest))) other

    by : (b : Bool) → nat_eq m.edge new.edge ≡ b → mark_in i (if b then new ∷ ms else new ∷ m ∷ ms) ≡ mark_in i (m ∷ ms)
    by false e = over (m ∷ ms)
    by true e =
        let same : m.edge ≡ new.edge = eqb-true m.edge new.edge e in
        let passed : nat_eq m.edge i ≡ false = ap (λ k. nat_eq k i) same ∙ other in
        over ms ∙ sym (ap (λ b. option_map (λ (m : Mark). m.number) (cond b (Some m) (find (λ m. nat_eq m.edge i) ms))) passed)

newest : (i : ℕ) (new : Mark) (ms : List Mark) → nat_eq new.edge i ≡ true → own_write i (marked new ms) ≡ Some new.number
newest i new [] same = ap (λ b. if b then Some new.number else None) same
newest i new (m ∷ ms) same = by (nat_eq m.edge new.edge)
  where
    by : (b : Bool) → own_write i (if b then new ∷ ms else new ∷ m ∷ ms) ≡ Some new.number
    by true = ap (λ c. if c then Some new.number else None) same
    by false = ap (λ c. if c then Some new.number else None) same

-- the first mark is in no later edge than this
abbrev IsBelow : ℕ → List Mark → Type 0
IsBelow i [] = ⊤
IsBelow i (m ∷ ms) = m.edge ≤ i

below_next : (i : ℕ) (ms : List Mark) → IsBelow i ms → own_write (i + 1) ms ≡ None
below_next i [] h = refl
below_next i (m ∷ ms) h = ap (λ b. if b then Some m.number else None) (ne_eqb m.edge (i + 1) (λ e. omega (arith, e, h)))

below_marked : (i : ℕ) (new : Mark) (ms : List Mark) → new.edge ≤ i → IsBelow i (marked new ms)
below_marked i new [] le = le
below_marked i new (m ∷ ms) le = by (nat_eq m.edge new.edge)
  where
    by : (b : Bool) → IsBelow i (if b then new ∷ ms else new ∷ m ∷ ms)
    by true = le
    by false = le

below_more : (i j : ℕ) (ms : List Mark) → i ≤ j → IsBelow i ms → IsBelow j ms
below_more i j [] le h = tt
below_more i j (m ∷ ms) le h = omega (arith, le, h)

-- the first mark is found by its edge
own_in : (i : ℕ) (ms : List Mark) (n : ℕ) → own_write i ms ≡ Some n → mark_in i ms ≡ Some n
own_in i [] n e = absurd (none-some n e)
own_in i (m ∷ ms) n e = by (nat_eq m.edge i) refl e
  where
    by : (b : Bool) → nat_eq m.edge i ≡ b → (if b then Some m.number else None) ≡ Some n → mark_in i (m ∷ ms) ≡ Some n
    by true f g = ap (λ c. option_map (λ (m : Mark). m.number) (cond c (Some m) (find (λ m. nat_eq m.edge i) ms))) f ∙ g
    by false f g = absurd (none-some n g)

-- ---- the events of a process

module _ (events : List TracedEvent) (c : ℕ) where
  abbrev pub state : ℕ → Marking
  state n = fold (mark_event c) unmarked (take n (bare events))

  state_start : state zero ≡ unmarked
  state_start = ap (fold (mark_event c) unmarked) (take_none (bare events))

  state_more : (n : ℕ) (e : TracedEvent) → slice_get events n ≡ Some e → state (suc n) ≡ mark_event c (state n) e.event
  state_more n e at =
      ap (fold (mark_event c) unmarked) (take_one (bare events) n e.event (map_get (λ (z : TracedEvent). z.event) events n e at))
      ∙ fold-append (mark_event c) unmarked (take n (bare events)) (e.event ∷ [])

  count_more : (n : ℕ) (e : TracedEvent) → slice_get events n ≡ Some e → count_to events (suc n) ≡ count_to events n + cond (is_some e.event.number) 1 0
  count_more n e at = let z : suc n ≡ n + 1 = omega arith in ap (count_to events) z ∙ count_one events n e at

  record IsState (n : ℕ) : Type 0 where
    number : (state n).number ≡ n
    edge : (state n).edge ≡ count_to events n
    below : IsBelow (count_to events n) (state n).marks

  is_state : (n : ℕ) → n ≤ length events → IsState n
  is_state zero le = record {
    number = ap (λ (x : Marking). x.number) state_start;
    edge = ap (λ (x : Marking). x.edge) state_start ∙ sym (count_none events);
    below = subst (λ (x : Marking). IsBelow (count_to events zero) x.marks) (sym state_start) tt;
  }
  is_state (suc n) le =
      let e = slice_get_there events n (omega (arith, le)) in
      let h : IsState n = is_state n (omega (arith, le)) in
      let one = state_more n e.0 e.1 in
      let counted : count_to events (suc n) ≡ count_to events n + cond (is_some e.0.event.number) 1 0 = count_more n e.0 e.1 in
      let up : count_to events n ≤ count_to events (suc n) = omega (arith, counted) in
      record {
        number = ap (λ (x : Marking). x.number) one ∙ ap (λ k. k + 1) h.number ∙ (let z : n + 1 ≡ suc n = omega arith in z);
        edge = ap (λ (x : Marking). x.edge) one ∙ edge_by (state n).edge e.0.event.number ∙ ap (λ k. k + cond (is_some e.0.event.number) 1 0) h.edge ∙ sym counted;
        below = subst (λ (x : Marking). IsBelow (count_to events (suc n)) x.marks) (sym one) (by e.0.event up (writes c e.0.event) h);
      }
    where
      by : (e : Event) → count_to events n ≤ count_to events (suc n) → (b : Bool) → IsState n
          → IsBelow (count_to events (suc n)) (if b then marked (record { edge = (state n).edge; number = (state n).number }) (state n).marks else (state n).marks)
      by e up true h = below_marked (count_to events (suc n)) (record { edge = (state n).edge; number = (state n).number }) (state n).marks (let z : (state n).edge ≡ count_to events n = h.edge in omega (arith, z, up))
      by e up false h = below_more (count_to events n) (count_to events (suc n)) (state n).marks up h.below

  -- ---- the last write in the edge

  abbrev pub Writer : ℕ → ℕ → Type 0
  Writer n m = (v : ℤ) × IsLastWriter events c 0 n m v

  -- the own write is the last writer, if there is one
  abbrev pub IsOwn : ℕ → Option ℕ → Type 0
  IsOwn n None = (m : ℕ) → Writer n m → ⊥
  IsOwn n (Some m) = Writer n m

  quiet_none : (n : ℕ) → AreQuiet events c n n
  quiet_none n m ge lt = absurd (omega (arith, ge, lt))

  -- after a synchronization there is none
  over_sync : (n : ℕ) → synchronizes (slice_get events n) ≡ true → (m : ℕ) → Writer (suc n) m → ⊥
  over_sync n is m w = elim (cases_eq m n) [
    | inl same ↦ true≢false (sym is ∙ ap (λ k. synchronizes (slice_get events k)) (sym same) ∙ w.1.plain)
    | inr other ↦ let to : m < suc n = w.1.to in true≢false (sym is ∙ (w.1.since n (omega (arith, to, other)) (omega arith)).plain)
  ]

  -- an event that writes is the last
  at_write : (n : ℕ) (v : ℤ) → synchronizes (slice_get events n) ≡ false → written_by c (slice_get events n) ≡ Some v → Writer (suc n) n
  at_write n v plain wrote = (
    v,
    record {
      from = omega arith;
      to = omega arith;
      plain = plain;
      writes = wrote;
      since = (let z : n + 1 ≡ suc n = omega arith in subst (λ k. AreQuiet events c (n + 1) k) z (quiet_none (n + 1)));
    },
  )

  -- a quiet event changes nothing
  on_quiet : (n m : ℕ) → IsQuiet events c n → Writer n m → Writer (suc n) m
  on_quiet n m q w =
      let to : m < n = w.1.to in (
        w.0,
        record {
          from = w.1.from;
          to = omega (arith, to);
          plain = w.1.plain;
          writes = w.1.writes;
          since = λ k ge lt. elim (cases_eq k n) [ inl same ↦ subst (λ l. IsQuiet events c l) (sym same) q | inr other ↦ w.1.since k ge (omega (arith, lt, other)) ];
        },
      )

  from_quiet : (n m : ℕ) → IsQuiet events c n → Writer (suc n) m → Writer n m
  from_quiet n m q w = elim (cases_eq m n) [
    | inl same ↦ absurd (none-some w.0 (sym q.unwritten ∙ ap (λ k. written_by c (slice_get events k)) (sym same) ∙ w.1.writes))
    | inr other ↦
        let to : m < suc n = w.1.to in
        (w.0, record { from = w.1.from; to = omega (arith, to, other); plain = w.1.plain; writes = w.1.writes; since = λ k ge lt. w.1.since k ge (omega (arith, lt)) })
  ]

  stays : (n : ℕ) (o : Option ℕ) → IsQuiet events c n → IsOwn n o → IsOwn (suc n) o
  stays n None q h = λ m w. h m (from_quiet n m q w)
  stays n (Some m) q h = on_quiet n m q h

  pub own_is : (n : ℕ) → n ≤ length events → IsOwn n (own_write (count_to events n) (state n).marks)
  own_is zero le =
      subst (λ (x : Marking). IsOwn zero (own_write (count_to events zero) x.marks)) (sym state_start) (λ m w. let to : m < zero = w.1.to in omega (arith, to))
  own_is (suc n) le =
      let e = slice_get_there events n (omega (arith, le)) in
      subst (λ (x : Marking). IsOwn (suc n) (own_write (count_to events (suc n)) x.marks)) (sym (state_more n e.0 e.1)) (by e.0 e.1 e.0.event.number refl (value_to c e.0.event.writes) refl (own_is n (omega (arith, le))))
    where
      h : IsState n
      h = is_state n (omega (arith, le))

      by : (e : TracedEvent) → slice_get events n ≡ Some e → (o : Option ℕ) → e.event.number ≡ o → (w : Option ℤ) → value_to c e.event.writes ≡ w → IsOwn n (own_write (count_to events n) (state n).marks)
          → IsOwn (suc n) (own_write (count_to events (suc n)) (mark_event c (state n) e.event).marks)
      by e at (Some k) number w wrote before =
          let counted : count_to events (suc n) ≡ count_to events n + 1 = count_more n e at ∙ ap (λ o. count_to events n + cond (is_some o) 1 0) number in
          let none : own_write (count_to events (suc n)) (mark_event c (state n) e.event).marks ≡ None =
          ap₂ (λ i o. own_write i (if is_none o && is_some (value_to c e.event.writes) then marked (record { edge = (state n).edge; number = (state n).number }) (state n).marks else (state n).marks)) counted number
          ∙ below_next (count_to events n) (state n).marks h.below in
          subst (λ o. IsOwn (suc n) o) (sym none) (over_sync n (ap synchronizes at ∙ ap is_some number))
      by e at None number (Some v) wrote before =
          let counted : count_to events (suc n) ≡ count_to events n = count_more n e at ∙ ap (λ o. count_to events n + cond (is_some o) 1 0) number ∙ (let z : count_to events n + 0 ≡ count_to events n = omega arith in z) in
          let new : Mark = record { edge = (state n).edge; number = (state n).number } in
          let found : own_write (count_to events (suc n)) (mark_event c (state n) e.event).marks ≡ Some n =
          ap₂ (λ o w. own_write (count_to events (suc n)) (if is_none o && is_some w then marked new (state n).marks else (state n).marks)) number wrote
          ∙ newest (count_to events (suc n)) new (state n).marks (eq-eqb (state n).edge (count_to events (suc n)) (h.edge ∙ sym counted)) ∙ ap (λ k. Some k) h.number in
          subst (λ o. IsOwn (suc n) o) (sym found) (at_write n v (ap synchronizes at ∙ ap is_some number) (ap (written_by c) at ∙ wrote))
      by e at None number None wrote before =
          let counted : count_to events (suc n) ≡ count_to events n = count_more n e at ∙ ap (λ o. count_to events n + cond (is_some o) 1 0) number ∙ (let z : count_to events n + 0 ≡ count_to events n = omega arith in z) in
          let same : own_write (count_to events (suc n)) (mark_event c (state n) e.event).marks ≡ own_write (count_to events n) (state n).marks =
          ap₂ (λ o w. own_write (count_to events (suc n)) (if is_none o && is_some w then marked (record { edge = (state n).edge; number = (state n).number }) (state n).marks else (state n).marks)) number wrote
          ∙ ap (λ i. own_write i (state n).marks) counted in
          subst (λ o. IsOwn (suc n) o) (sym same)
          (stays n (own_write (count_to events n) (state n).marks) (record { plain = ap synchronizes at ∙ ap is_some number; unwritten = ap (written_by c) at ∙ wrote }) before)

  -- there is one last writer
  one_writer : (n m k : ℕ) → Writer n m → Writer n k → m ≡ k
  one_writer n m k a b = elim (cases_lt m k) [
    | inl less ↦ absurd (none-some b.0 (sym (a.1.since k (omega (arith, less)) b.1.to).unwritten ∙ b.1.writes))
    | inr more ↦ elim (cases_eq m k) [
      | inl same ↦ same
      | inr other ↦ absurd (none-some a.0 (sym (b.1.since m (omega (arith, more, other)) a.1.to).unwritten ∙ a.1.writes))
    ]
  ]

  pub own_found : (n m : ℕ) (v : ℤ) → n ≤ length events → IsLastWriter events c 0 n m v → own_write (count_to events n) (state n).marks ≡ Some m
  own_found n m v le l = by (own_write (count_to events n) (state n).marks) (own_is n le)
    where
      by : (o : Option ℕ) → IsOwn n o → o ≡ Some m
      by None h = absurd (h m (v, l))
      by (Some k) h = ap (λ z. Some z) (one_writer n k m h (v, l))

  pub own_none : (n : ℕ) → n ≤ length events → ((m : ℕ) (v : ℤ) → IsLastWriter events c 0 n m v → ⊥) → own_write (count_to events n) (state n).marks ≡ None
  own_none n le none = by (own_write (count_to events n) (state n).marks) (own_is n le)
    where
      by : (o : Option ℕ) → IsOwn n o → o ≡ None
      by None h = refl
      by (Some k) h = absurd (none k h.0 h.1)

  -- ---- the last write in an edge that ended

  later_edge : (n k : ℕ) → count_to events n < count_to events k → k < length events → mark_in (count_to events n) (state (suc k)).marks ≡ mark_in (count_to events n) (state k).marks
  later_edge n k less lt =
      let e = slice_get_there events k lt in
      ap (λ (x : Marking). mark_in (count_to events n) x.marks) (state_more k e.0 e.1) ∙ by (writes c e.0.event)
    where
      h : IsState k
      h = is_state k (omega (arith, lt))

      by : (b : Bool) → mark_in (count_to events n) (if b then marked (record { edge = (state k).edge; number = (state k).number }) (state k).marks else (state k).marks) ≡ mark_in (count_to events n) (state k).marks
      by false = refl
      by true =
          let z : (state k).edge ≡ count_to events k = h.edge in
          skips (count_to events n) (record { edge = (state k).edge; number = (state k).number }) (state k).marks (ne_eqb (state k).edge (count_to events n) (λ e. omega (arith, e, z, less)))

  record IsKept (n k m : ℕ) : Type 0 where
    less : count_to events n < count_to events k
    found : mark_in (count_to events n) (state k).marks ≡ Some m

  kept : (n m : ℕ) (v : ℤ) → IsLastWriter events c 0 n m v → synchronizes (slice_get events n) ≡ true → n < length events → (d : ℕ) → suc n + d ≤ length events → IsKept n (suc n + d) m
  kept n m v l is lt zero le =
      let e = slice_get_there events n lt in
      let z : suc n ≡ suc n + 0 = omega arith in
      let number : is_some e.0.event.number ≡ true = sym (ap synchronizes e.1) ∙ is in
      let counted : count_to events (suc n) ≡ count_to events n + 1 = count_more n e.0 e.1 ∙ ap (λ b. count_to events n + cond b 1 0) number in
      let same : (mark_event c (state n) e.0.event).marks ≡ (state n).marks =
      ap (λ b. if b && is_some (value_to c e.0.event.writes) then marked (record { edge = (state n).edge; number = (state n).number }) (state n).marks else (state n).marks) (none_is e.0.event.number number) in
      subst (λ k. IsKept n k m) z (record {
        less = omega (arith, counted);
        found = ap (λ (x : Marking). mark_in (count_to events n) x.marks) (state_more n e.0 e.1) ∙ ap (mark_in (count_to events n)) same
            ∙ own_in (count_to events n) (state n).marks m (own_found n m v (omega (arith, lt)) l);
      })
    where
      none_is : (o : Option ℕ) → is_some o ≡ true → is_none o ≡ false
      none_is None f = absurd (true≢false (sym f))
      none_is (Some k) f = refl
  kept n m v l is lt (suc d) le =
      let h : IsKept n (suc n + d) m = kept n m v l is lt d (omega (arith, le)) in
      let z : suc (suc n + d) ≡ suc n + suc d = omega arith in
      let e = slice_get_there events (suc n + d) (omega (arith, le)) in
      let counted : count_to events (suc (suc n + d)) ≡ count_to events (suc n + d) + cond (is_some e.0.event.number) 1 0 = count_more (suc n + d) e.0 e.1 in
      let less : count_to events n < count_to events (suc n + d) = h.less in
      subst (λ k. IsKept n k m) z (record {
        less = omega (arith, counted, less);
        found = later_edge n (suc n + d) less (omega (arith, le)) ∙ h.found;
      })

  -- the last write before a synchronization is found by its edge
  pub ended_found : (n m : ℕ) (v : ℤ) → IsLastWriter events c 0 n m v → synchronizes (slice_get events n) ≡ true → n < length events → mark_in (count_to events n) (marks_of c (bare events)) ≡ Some m
  ended_found n m v l is lt =
      let d = gap n (length events) lt in
      let h : IsKept n (suc n + d.0) m = kept n m v l is lt d.0 (let z : suc n + d.0 ≡ length events = d.1 in omega (arith, z)) in
      let size : length (bare events) ≡ length events = length-map events (λ (z : TracedEvent). z.event) in
      let all : take (suc n + d.0) (bare events) ≡ bare events = take_all (suc n + d.0) (bare events) (let z : suc n + d.0 ≡ length events = d.1 in omega (arith, z, size)) in
      sym (ap (λ l. mark_in (count_to events n) (marks_of c l)) all) ∙ h.found
    where
      gap : (a b : ℕ) → a < b → (d : ℕ) × (suc a + d ≡ b)
      gap a zero lt' = absurd (omega (arith, lt'))
      gap zero (suc b) lt' = (b, omega arith)
      gap (suc a) (suc b) lt' = let r = gap a b (omega (arith, lt')) in let y : suc a + r.0 ≡ b = r.1 in (r.0, omega (arith, y))

-- ---- the edge of the next event

pub edge_is : (events : List TracedEvent) (n : ℕ) → n ≤ length events → edge_after (take n (bare events)) ≡ count_to events n
edge_is events zero le = ap edge_after (take_none (bare events)) ∙ sym (count_none events)
edge_is events (suc n) le =
    let e = slice_get_there events n (omega (arith, le)) in
    let z : suc n ≡ n + 1 = omega arith in
    ap edge_after (take_one (bare events) n e.0.event (map_get (λ (y : TracedEvent). y.event) events n e.0 e.1))
    ∙ fold-append (λ i (y : Event). edge_past i y.number) 0 (take n (bare events)) (e.0.event ∷ [])
    ∙ edge_by (edge_after (take n (bare events))) e.0.event.number
    ∙ ap (λ k. k + cond (is_some e.0.event.number) 1 0) (edge_is events n (omega (arith, le)))
    ∙ sym (ap (count_to events) z ∙ count_one events n e.0 e.1)
