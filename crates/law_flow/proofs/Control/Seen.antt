-- The running intervals of a process as the search sees them: their sights are of their parts so far.
use Rattle.std.proofs.Common.{◌≡◌, ℕ, zero, suc, Bool, true, false, List, [], ◌∷◌, ◌++◌, Option, Some, None, refl, ap, sym, ◌∙◌, length, append-nil, if◌then◌else◌}
use Rattle.std.specs.Prelude.{⊤, slice_get}
use Rattle.ppd_ast.specs.declared.plan.Plan.{Plan}
use Rattle.ppd_sem.specs.Blocks.{block_kind}
use Rattle.ppd_sem.specs.declared.event.Event.{Event}
use Rattle.ppd_model.specs.declared.trace.TracedEvent.{TracedEvent}
use Rattle.ppd_model.specs.Intervals.{Part, own, nested}
use Rattle.ppd_model.specs.Marks.{Mark}
use Rattle.law_flow.specs.Places.Levels.{Level as Place}
use Rattle.law_flow.proofs.Vocabulary.Levels.{begin_level, end_level, with_event}
use Rattle.law_flow.proofs.Control.Sights.{Sign}
use Rattle.law_flow.proofs.Control.Levels.{Run}
use Rattle.law_flow.proofs.Control.Moved.{begun, ended, owned}

-- an event as it was traced
pub record IsTraced (events : List TracedEvent) (n : ℕ) (e : Event) : Type 0 where
  pub traced : TracedEvent
  pub there : slice_get events n ≡ Some traced
  pub event_is : traced.event ≡ e

-- these are the signs of these parts
abbrev pub SightIs : List TracedEvent → List Part → List Sign → Type 0
SightIs es [] [] = ⊤
SightIs es (own n ∷ ps) (Some q ∷ qs) = ((q.0 ≡ n) × IsTraced es n q.1) × SightIs es ps qs
SightIs es (nested m ∷ ps) (None ∷ qs) = SightIs es ps qs
SightIs es ps qs = ⊥

abbrev pub AreLater : List TracedEvent → List TracedEvent → Type 0
AreLater es fs = (n : ℕ) (e : TracedEvent) → slice_get es n ≡ Some e → slice_get fs n ≡ Some e

sight_later : (es fs : List TracedEvent) (ps : List Part) (qs : List Sign) → AreLater es fs → SightIs es ps qs
    → SightIs fs ps qs
sight_later es fs [] [] h s = s
sight_later es fs [] (q ∷ qs) h s = absurd s
sight_later es fs (own n ∷ ps) [] h s = absurd s
sight_later es fs (nested m ∷ ps) [] h s = absurd s
sight_later es fs (own n ∷ ps) (None ∷ qs) h s = absurd s
sight_later es fs (own n ∷ ps) (Some q ∷ qs) h s = (
  (s.0.0, record { traced = s.0.1.traced; there = h n s.0.1.traced s.0.1.there; event_is = s.0.1.event_is }),
  sight_later es fs ps qs h s.1,
)
sight_later es fs (nested m ∷ ps) (None ∷ qs) h s = sight_later es fs ps qs h s
sight_later es fs (nested m ∷ ps) (Some q ∷ qs) h s = absurd s

sight_own : (es : List TracedEvent) (ps : List Part) (qs : List Sign) (n : ℕ) (e : Event) → IsTraced es n e
    → SightIs es ps qs → SightIs es (ps ++ own n ∷ []) (qs ++ Some (n, e) ∷ [])
sight_own es [] [] n e t s = ((refl, t), tt)
sight_own es [] (q ∷ qs) n e t s = absurd s
sight_own es (own m ∷ ps) [] n e t s = absurd s
sight_own es (nested m ∷ ps) [] n e t s = absurd s
sight_own es (own m ∷ ps) (None ∷ qs) n e t s = absurd s
sight_own es (own m ∷ ps) (Some q ∷ qs) n e t s = (s.0, sight_own es ps qs n e t s.1)
sight_own es (nested m ∷ ps) (None ∷ qs) n e t s = sight_own es ps qs n e t s
sight_own es (nested m ∷ ps) (Some q ∷ qs) n e t s = absurd s

sight_nested : (es : List TracedEvent) (ps : List Part) (qs : List Sign) (k : ℕ) → SightIs es ps qs
    → SightIs es (ps ++ nested k ∷ []) (qs ++ None ∷ [])
sight_nested es [] [] k s = tt
sight_nested es [] (q ∷ qs) k s = absurd s
sight_nested es (own m ∷ ps) [] k s = absurd s
sight_nested es (nested m ∷ ps) [] k s = absurd s
sight_nested es (own m ∷ ps) (None ∷ qs) k s = absurd s
sight_nested es (own m ∷ ps) (Some q ∷ qs) k s = (s.0, sight_nested es ps qs k s.1)
sight_nested es (nested m ∷ ps) (None ∷ qs) k s = sight_nested es ps qs k s
sight_nested es (nested m ∷ ps) (Some q ∷ qs) k s = absurd s

pub sight_length : (es : List TracedEvent) (ps : List Part) (qs : List Sign) → SightIs es ps qs → length qs ≡ length ps
sight_length es [] [] s = refl
sight_length es [] (q ∷ qs) s = absurd s
sight_length es (own m ∷ ps) [] s = absurd s
sight_length es (nested m ∷ ps) [] s = absurd s
sight_length es (own m ∷ ps) (None ∷ qs) s = absurd s
sight_length es (own m ∷ ps) (Some q ∷ qs) s = ap suc (sight_length es ps qs s.1)
sight_length es (nested m ∷ ps) (None ∷ qs) s = ap suc (sight_length es ps qs s)
sight_length es (nested m ∷ ps) (Some q ∷ qs) s = absurd s

-- an event that is seen is a part
pub sight_at : (es : List TracedEvent) (ps : List Part) (qs : List Sign) (j n : ℕ) (e : Event) → SightIs es ps qs
    → slice_get qs j ≡ Some (Some (n, e)) → slice_get ps j ≡ Some (own n)
sight_at es [] [] j n e s at = absurd (cc)
sight_at es [] (q ∷ qs) j n e s at = absurd s
sight_at es (own m ∷ ps) [] j n e s at = absurd s
sight_at es (nested m ∷ ps) [] j n e s at = absurd s
sight_at es (own m ∷ ps) (None ∷ qs) j n e s at = absurd s
sight_at es (own m ∷ ps) (Some q ∷ qs) zero n e s at = ap (λ i. Some (own i))
    (sym s.0.0 ∙ first (Some (Some q)) (Some (Some (n, e))) at)
  where
    number : Option Sign → ℕ
    number (Some (Some q)) = q.0
    number o = 0

    first : (a b : Option Sign) → a ≡ b → number a ≡ number b
    first a b e = ap number e
sight_at es (own m ∷ ps) (Some q ∷ qs) (suc j) n e s at = sight_at es ps qs j n e s.1 at
sight_at es (nested m ∷ ps) (None ∷ qs) zero n e s at = absurd (cc)
sight_at es (nested m ∷ ps) (None ∷ qs) (suc j) n e s at = sight_at es ps qs j n e s at
sight_at es (nested m ∷ ps) (Some q ∷ qs) j n e s at = absurd s

-- ---- the running intervals

abbrev pub PlaceIs : ℕ → List Place → Type 0
PlaceIs n [] = ⊤
PlaceIs n (o ∷ ls) = n ≡ length o.parts

pub record RunSeen (plan : Plan) (es : List TracedEvent) (inner : List Sign) (l : Place) (ls : List Place)
    (r : Run) : Type 0 where
  pub sight : List Sign
  pub is : SightIs es l.parts sight
  pub sight_is : r.sight ≡ sight ++ inner
  pub number_is : r.number ≡ l.interval
  pub kind_is : r.kind ≡ block_kind plan l.block
  pub place_is : PlaceIs r.place ls

-- each with the one inside it as its last item
abbrev pub AreSeen : Plan → List TracedEvent → List Sign → List Place → List Run → Type 0
AreSeen plan es inner [] [] = ⊤
AreSeen plan es inner (l ∷ ls) (r ∷ rs) = RunSeen plan es inner l ls r × AreSeen plan es (None ∷ []) ls rs
AreSeen plan es inner ls rs = ⊥

module _ (plan : Plan) where
  pub seen_later : (es fs : List TracedEvent) (inner : List Sign) (ls : List Place) (rs : List Run) → AreLater es fs
      → AreSeen plan es inner ls rs → AreSeen plan fs inner ls rs
  seen_later es fs inner [] [] h s = s
  seen_later es fs inner [] (r ∷ rs) h s = absurd s
  seen_later es fs inner (l ∷ ls) [] h s = absurd s
  seen_later es fs inner (l ∷ ls) (r ∷ rs) h s = (
    record {
      sight = s.0.sight;
      is = sight_later es fs l.parts s.0.sight h s.0.is;
      sight_is = s.0.sight_is;
      number_is =
          s.0.number_is;
      kind_is = s.0.kind_is;
      place_is = s.0.place_is;
    },
    seen_later es fs (None ∷ []) ls rs h s.1,
  )

  -- an event
  seen_own : (es : List TracedEvent) (b : Bool) (n : ℕ) (e : Event) (ls : List Place) (rs : List Run)
      → (b ≡ true → IsTraced es n e) → AreSeen plan es [] ls rs
      → AreSeen plan es [] (if b then with_event n ls else ls) (owned b n e rs)
  seen_own es false n e ls rs t s = s
  seen_own es true n e [] [] t s = s
  seen_own es true n e [] (r ∷ rs) t s = absurd s
  seen_own es true n e (l ∷ ls) [] t s = absurd s
  seen_own es true n e (l ∷ ls) (r ∷ rs) t s = (
    record {
      sight = s.0.sight ++ Some (n, e) ∷ [];
      is = sight_own es l.parts s.0.sight n e (t refl) s.0.is;
      sight_is = ap (λ xs. xs ++ Some (n, e) ∷ []) (s.0.sight_is ∙ append-nil s.0.sight)
          ∙ sym (append-nil (s.0.sight ++ Some (n, e) ∷ []));
      number_is = s.0.number_is;
      kind_is = s.0.kind_is;
      place_is = s.0.place_is;
    },
    s.1,
  )

  -- an interval is left
  seen_end : (es : List TracedEvent) (o : Option Mark) (ls : List Place) (rs : List Run) → AreSeen plan es [] ls rs
      → AreSeen plan es [] (end_level o ls) (ended o rs)
  seen_end es None ls rs s = s
  seen_end es (Some m) [] [] s = s
  seen_end es (Some m) [] (r ∷ rs) s = absurd s
  seen_end es (Some m) (l ∷ ls) [] s = absurd s
  seen_end es (Some m) (l ∷ []) (r ∷ []) s = tt
  seen_end es (Some m) (l ∷ []) (r ∷ q ∷ rs) s = absurd s.1
  seen_end es (Some m) (l ∷ o ∷ ls) (r ∷ []) s = absurd s.1
  seen_end es (Some m) (l ∷ o ∷ ls) (r ∷ q ∷ rs) s = (
    record {
      sight = s.1.0.sight ++ None ∷ [];
      is = sight_nested es o.parts s.1.0.sight l.interval s.1.0.is;
      sight_is = s.1.0.sight_is ∙ sym (append-nil (s.1.0.sight ++ None ∷ []));
      number_is = s.1.0.number_is;
      kind_is = s.1.0.kind_is;
      place_is = s.1.0.place_is;
    },
    s.1.1,
  )

  -- an interval begins
  seen_begin : (es : List TracedEvent) (o : Option Mark) (k : ℕ) (ls : List Place) (rs : List Run)
      → AreSeen plan es [] ls rs → AreSeen plan es [] (begin_level o k ls) (begun plan k o rs)
  seen_begin es None k ls rs s = s
  seen_begin es (Some m) k [] [] s =
      (record { sight = []; is = tt; sight_is = refl; number_is = refl; kind_is = refl; place_is = tt }, tt)
  seen_begin es (Some m) k [] (r ∷ rs) s = absurd s
  seen_begin es (Some m) k (l ∷ ls) [] s = absurd s
  seen_begin es (Some m) k (l ∷ ls) (r ∷ rs) s = (
    record {
      sight = [];
      is = tt;
      sight_is = refl;
      number_is = refl;
      kind_is = refl;
      place_is = ap length
          (s.0.sight_is ∙ append-nil s.0.sight) ∙ sight_length es l.parts s.0.sight s.0.is;
    },
    (
      record {
        sight = s.0.sight;
        is = s.0.is;
        sight_is = ap (λ xs. xs ++ None ∷ []) (s.0.sight_is ∙ append-nil s.0.sight);
        number_is = s.0.number_is;
        kind_is = s.0.kind_is;
        place_is = s.0.place_is;
      },
      s.1,
    ),
  )

  pub seen_step : (es fs : List TracedEvent) (b : Bool) (opened closed : Option Mark) (n k : ℕ) (e : Event)
      (ls : List Place) (rs : List Run) → AreLater es fs → (b ≡ true → IsTraced fs n e) → AreSeen plan es [] ls rs
      → AreSeen plan fs [] (begin_level opened k (end_level closed (if b then with_event n ls else ls)))
      (begun plan k opened (ended closed (owned b n e rs)))
  seen_step es fs b opened closed n k e ls rs later traced s =
      seen_begin fs opened k (end_level closed (if b then with_event n ls else ls)) (ended closed (owned b n e rs))
      (seen_end fs closed (if b then with_event n ls else ls) (owned b n e rs)
      (seen_own fs b n e ls rs traced (seen_later es fs [] ls rs later s)))
