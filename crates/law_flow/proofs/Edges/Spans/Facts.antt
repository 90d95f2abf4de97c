-- What the entries of a process tell of its intervals and its events, as its steps write them.
use Rattle.std.proofs.Common.{◌≡◌, ℕ, zero, suc, ◌+◌, ◌<◌, ◌≤◌, ℤ, true, cond, List, [], ◌∷◌, ◌++◌, Some, refl, ap, sym, ◌∙◌, arith, length, length-append}
use Rattle.std.specs.Prelude.{filter_map, fold, is_some, slice_get}
use Rattle.std.proofs.lemmas.List.{append_assoc}
use Rattle.std.proofs.lemmas.Option.{none-some}
use Rattle.ppd_model.specs.declared.entry.Entry.{Entry}
use Rattle.ppd_model.specs.declared.entry.Entry.TheVariants as entry
use Rattle.ppd_model.specs.declared.trace.TracedEvent.{TracedEvent}
use Rattle.ppd_model.proofs.ExtentWords.{Extending, extend, begun_extents}
use Rattle.ppd_model.specs.Intervals.{Part, own, Span}
use Rattle.ppd_model.specs.RecordedSets.{sync_in}
use Rattle.law_flow.proofs.Edges.Spans.Tiles.{HaveGrown}

-- ---- synchronizations

-- how many of the first n events are synchronizations
abbrev pub count_to : List TracedEvent → ℕ → ℕ
count_to [] n = 0
count_to (e ∷ es) zero = 0
count_to (e ∷ es) (suc n) = cond (is_some e.event.number) 1 0 + count_to es n

-- how many of these entries are
abbrev pub syncs : List Entry → ℕ
syncs entries = length (filter_map sync_in entries)

-- the intervals after these entries
abbrev pub at : List Entry → Extending
at entries = fold extend begun_extents entries

pub count_front : (es fs : List TracedEvent) (n : ℕ) → n ≤ length es → count_to (es ++ fs) n ≡ count_to es n
count_front [] [] n le = refl
count_front [] (f ∷ fs) zero le = refl
count_front [] (f ∷ fs) (suc n) le = absurd (omega (arith, le))
count_front (e ∷ es) fs zero le = refl
count_front (e ∷ es) fs (suc n) le = ap (λ k. cond (is_some e.event.number) 1 0 + k) (count_front es fs n (omega (arith, le)))

pub count_last : (es : List TracedEvent) (e : TracedEvent) → count_to (es ++ e ∷ []) (length es + 1) ≡ count_to es (length es) + cond (is_some e.event.number) 1 0
count_last [] e = omega arith
count_last (f ∷ es) e =
    let rest : count_to (es ++ e ∷ []) (length es + 1) ≡ count_to es (length es) + cond (is_some e.event.number) 1 0 = count_last es e in
    let z : length (f ∷ es) + 1 ≡ suc (length es + 1) = omega arith in
    ap (λ k. count_to (f ∷ (es ++ e ∷ [])) k) z ∙ omega (arith, rest)

-- ---- what stands where in the entries

-- interval k was opened before event number first: its prelog is this entry
pub record OpensAt (entries : List Entry) (events : List TracedEvent) (k first : ℕ) : Type 0 where
  pub before : List Entry
  pub block : ℕ
  pub values : List ℤ
  pub after : List Entry
  pub entries_are : entries ≡ before ++ entry.Prelog block values ∷ after
  pub number : k ≡ length (at before).intervals
  pub count : syncs before ≡ count_to events first
  pub within : first ≤ length events

-- interval m was left after the events below number last
pub record LeavesAt (entries : List Entry) (events : List TracedEvent) (m last : ℕ) : Type 0 where
  pub before : List Entry
  pub block : ℕ
  pub values : List ℤ
  pub after : List Entry
  pub rest : List ℕ
  pub entries_are : entries ≡ before ++ entry.Postlog block values ∷ after
  pub runs : (at before).running ≡ m ∷ rest
  pub count : syncs before ≡ count_to events last
  pub within : last ≤ length events

-- so it is with an interval that was left
abbrev pub Logged : List Entry → List TracedEvent → ℕ → ℕ → ℕ → Type 0
Logged entries events m lo mid = OpensAt entries events m lo × LeavesAt entries events m mid

-- event n is a part of interval k
pub record IsPartOf (spans : List Span) (k n : ℕ) : Type 0 where
  pub span : Span
  pub there : slice_get spans k ≡ Some span
  pub place : ℕ
  pub at_place : slice_get span.parts place ≡ Some (own n)

-- event n is the synchronization of this entry, in the interval that is the innermost one then
pub record SyncsAt (entries : List Entry) (events : List TracedEvent) (spans : List Span) (n : ℕ) : Type 0 where
  pub before : List Entry
  pub sync : Entry
  pub after : List Entry
  pub interval : ℕ
  pub rest : List ℕ
  pub entries_are : entries ≡ before ++ sync ∷ after
  pub is_sync : is_some (sync_in sync) ≡ true
  pub runs : (at before).running ≡ interval ∷ rest
  pub count : syncs before ≡ count_to events n
  pub within : n < length events
  pub part : IsPartOf spans interval n

-- ---- more entries and events

abbrev pub More : List Entry → List Entry → Type 0
More entries later = (more : List Entry) × (later ≡ entries ++ more)

abbrev pub MoreEvents : List TracedEvent → List TracedEvent → Type 0
MoreEvents events told = (fresh : List TracedEvent) × (told ≡ events ++ fresh)

module _ (entries later : List Entry) (grows : More entries later) (events told : List TracedEvent) (goes : MoreEvents events told) where
  longer : (n : ℕ) → n ≤ length events → n ≤ length told
  longer n le =
      let sum : length told ≡ length events + length goes.0 = ap length goes.1 ∙ length-append events goes.0 in
      omega (arith, le, sum)

  counted : (n : ℕ) → n ≤ length events → count_to events n ≡ count_to told n
  counted n le = sym (ap (λ l. count_to l n) goes.1 ∙ count_front events goes.0 n le)

  onto : (before : List Entry) (e : Entry) (after : List Entry) → entries ≡ before ++ e ∷ after → later ≡ before ++ e ∷ (after ++ grows.0)
  onto before e after is = grows.1 ∙ ap (λ l. l ++ grows.0) is ∙ append_assoc before (e ∷ after) grows.0

  pub opens_on : (k first : ℕ) → OpensAt entries events k first → OpensAt later told k first
  opens_on k first o = record {
    before = o.before;
    block = o.block;
    values = o.values;
    after = o.after ++ grows.0;
    entries_are = onto o.before (entry.Prelog o.block o.values) o.after o.entries_are;
    number = o.number;
    count = o.count ∙ counted first o.within;
    within = longer first o.within;
  }

  pub leaves_on : (m last : ℕ) → LeavesAt entries events m last → LeavesAt later told m last
  leaves_on m last o = record {
    before = o.before;
    block = o.block;
    values = o.values;
    after = o.after ++ grows.0;
    rest = o.rest;
    entries_are = onto o.before (entry.Postlog o.block o.values) o.after o.entries_are;
    runs = o.runs;
    count = o.count ∙ counted last o.within;
    within = longer last o.within;
  }

  pub logged_on : (m lo mid : ℕ) → Logged entries events m lo mid → Logged later told m lo mid
  logged_on m lo mid o = (opens_on m lo o.0, leaves_on m mid o.1)

  front : (n : ℕ) (xs ys : List Part) (i : ℕ) → slice_get xs i ≡ Some (own n) → slice_get (xs ++ ys) i ≡ Some (own n)
  front n [] ys i e = absurd (none-some (own n) e)
  front n (z ∷ xs) ys zero e = e
  front n (z ∷ xs) ys (suc i) e = front n xs ys i e

  part_on : (spans after : List Span) → HaveGrown spans after → (k n : ℕ) → IsPartOf spans k n → IsPartOf after k n
  part_on spans after grown k n p =
      let g = grown k p.span p.there in
      record {
        span = g.0;
        there = g.1;
        place = p.place;
        at_place = ap (λ l. slice_get l p.place) g.2.parts ∙ front n p.span.parts g.2.more p.place p.at_place;
      }

  pub syncs_on : (spans after : List Span) → HaveGrown spans after → (n : ℕ) → SyncsAt entries events spans n → SyncsAt later told after n
  syncs_on spans after grown n s =
      let lt : n < length events = s.within in
      let le : n + 1 ≤ length told = longer (n + 1) (omega (arith, lt)) in
      record {
        before = s.before;
        sync = s.sync;
        after = s.after ++ grows.0;
        interval = s.interval;
        rest = s.rest;
        entries_are = onto s.before s.sync s.after s.entries_are;
        is_sync = s.is_sync;
        runs = s.runs;
        count = s.count ∙ counted n (omega (arith, lt));
        within = omega (arith, le);
        part = part_on spans after grown s.interval n s.part;
      }
