-- Which step leads to a synchronization, and where it stands among those of its process.
use Rattle.std.proofs.Common.{◌≡◌, ℕ, zero, suc, ◌+◌, Bool, true, false, List, [], ◌∷◌, ◌++◌, Option, Some, None, refl, ap, sym, ◌∙◌, arith, length, get_or, inl, inr, ◌⊎◌, if◌then◌else◌}
use Rattle.std.specs.Prelude.{slice_get, filter_map}
use Rattle.std.specs.List.{cons_option}
use Rattle.std.proofs.lemmas.Option.{none-some}
use Rattle.ppd_sem.specs.Described.{is_event}
use Rattle.ppd_ast.specs.declared.program.Program.{Program}
use Rattle.ppd_ast.specs.Counting.{one_if}
use Rattle.ppd_model.specs.declared.trace.EventId.{EventId}
use Rattle.ppd_model.specs.declared.tracing.Taken.{Taken}
use Rattle.ppd_model.specs.Synchronizations.{Sync, leading_from, leading_in, leads_at, sync_of}
use Rattle.ppd_model.proofs.OrderWords.{event_or}
use Rattle.ppd_model.proofs.Changes.{some}
use Rattle.law_steps.proofs.StaticEdges.SharedCells.Writers.{events_in}

-- ---- synchronizations among steps

-- the synchronization of a step, among all of its process
pub sync_there : (before : List Taken) (y : Taken) (after : List Taken) (s : Sync) → sync_of y ≡ Some s → slice_get (filter_map sync_of (before ++ y ∷ after)) (length (filter_map sync_of before)) ≡ Some s
sync_there [] y after s e = ap (λ o. slice_get (cons_option o (filter_map sync_of after)) 0) e
sync_there (x ∷ before) y after s e = by (sync_of x) (sync_there before y after s e)
  where
    by : (o : Option Sync) → slice_get (filter_map sync_of (before ++ y ∷ after)) (length (filter_map sync_of before)) ≡ Some s → slice_get (cons_option o (filter_map sync_of (before ++ y ∷ after))) (length (cons_option o (filter_map sync_of before))) ≡ Some s
    by None rest = rest
    by (Some z) rest = rest

-- one where there is one
abbrev one_more : Option Sync → ℕ
one_more None = 0
one_more (Some z) = 1

one_longer : (o : Option Sync) (ss : List Sync) → length (cons_option o ss) ≡ one_more o + length ss
one_longer None ss = let z : length ss ≡ 0 + length ss = omega arith in z
one_longer (Some z) ss = omega arith

-- each of them is of a step
pub record IsSyncStep (xs : List Taken) (i : ℕ) (s : Sync) : Type 0 where
  pub before : List Taken
  pub step : Taken
  pub after : List Taken
  pub are : xs ≡ before ++ step ∷ after
  pub is : sync_of step ≡ Some s
  pub place : length (filter_map sync_of before) ≡ i

pub sync_step : (xs : List Taken) (i : ℕ) (s : Sync) → slice_get (filter_map sync_of xs) i ≡ Some s → IsSyncStep xs i s
sync_step [] i s e = absurd (none-some s e)
sync_step (x ∷ xs) i s e = by (sync_of x) refl i e (sync_step xs)
  where
    more : (k m : ℕ) (o : Option Sync) → sync_of x ≡ o → one_more o + k ≡ m → IsSyncStep xs k s → IsSyncStep (x ∷ xs) m s
    more k m o f z t = record {
      before = x ∷ t.before;
      step = t.step;
      after = t.after;
      are = ap (λ l. x ∷ l) t.are;
      is = t.is;
      place = ap (λ q. length (cons_option q (filter_map sync_of t.before))) f ∙ one_longer o (filter_map sync_of t.before) ∙ ap (λ q. one_more o + q) t.place ∙ z;
    }

    by : (o : Option Sync) → sync_of x ≡ o → (m : ℕ) → slice_get (cons_option o (filter_map sync_of xs)) m ≡ Some s → ((k : ℕ) (z : Sync) → slice_get (filter_map sync_of xs) k ≡ Some z → IsSyncStep xs k z) → IsSyncStep (x ∷ xs) m s
    by None f m g rest = more m m None f (let z : 0 + m ≡ m = omega arith in z) (rest m s g)
    by (Some y) f zero g rest = record { before = []; step = x; after = xs; are = refl; is = f ∙ ap (λ z. Some z) (some g); place = refl }
    by (Some y) f (suc m) g rest = more m (suc m) (Some y) f (let z : 1 + m ≡ suc m = omega arith in z) (rest m s g)

-- ---- the event that leads to a synchronization

module _ (program : Program) (b : Option Sync) where
  -- a step of these leads to it
  pub record LeadsIn (n : ℕ) (xs : List Taken) (m : ℕ) : Type 0 where
    pub before : List Taken
    pub step : Taken
    pub after : List Taken
    pub are : xs ≡ before ++ step ∷ after
    pub leads : leads_at program (sync_of step) b ≡ true
    pub number : m ≡ n + events_in before

  abbrev pub NoneLeads : List Taken → Type 0
  NoneLeads xs = (before : List Taken) (y : Taken) (after : List Taken) → xs ≡ before ++ y ∷ after → leads_at program (sync_of y) b ≡ false

  leading : (n : ℕ) (xs : List Taken) → (o : Option ℕ) → leading_in program b n xs ≡ o → ((m : ℕ) × (o ≡ Some m) × LeadsIn n xs m) ⊎ ((o ≡ None) × NoneLeads xs)
  leading n [] o e = inr (sym e, (λ before y after f. absurd (empty before y after f)))
    where
      empty : (before : List Taken) (y : Taken) (after : List Taken) → [] ≡ before ++ y ∷ after → ⊥
      empty [] y after f = cc
      empty (z ∷ zs) y after f = cc
  leading n (x ∷ xs) o e = by (leads_at program (sync_of x) b) refl e (leading (if is_event x.need then n + 1 else n) xs o)
    where
      step_number : (t : Bool) → is_event x.need ≡ t → (m k : ℕ) → m ≡ (if t then n + 1 else n) + k → m ≡ n + (one_if (is_event x.need) + k)
      step_number true f m k g = let z : one_if (is_event x.need) ≡ 1 = ap one_if f in omega (arith, z, g)
      step_number false f m k g = let z : one_if (is_event x.need) ≡ 0 = ap one_if f in omega (arith, z, g)

      by : (t : Bool) → leads_at program (sync_of x) b ≡ t → (if t then Some n else leading_in program b (if is_event x.need then n + 1 else n) xs) ≡ o
          → (leading_in program b (if is_event x.need then n + 1 else n) xs ≡ o → ((m : ℕ) × (o ≡ Some m) × LeadsIn (if is_event x.need then n + 1 else n) xs m) ⊎ ((o ≡ None) × NoneLeads xs))
          → ((m : ℕ) × (o ≡ Some m) × LeadsIn n (x ∷ xs) m) ⊎ ((o ≡ None) × NoneLeads (x ∷ xs))
      by true f g rest = inl (n, sym g, record { before = []; step = x; after = xs; are = refl; leads = f; number = (let z : n ≡ n + 0 = omega arith in z) })
      by false f g rest = elim (rest g) [
        | inl l ↦ inl (l.0, l.1, record { before = x ∷ l.2.before; step = l.2.step; after = l.2.after; are = ap (λ z. x ∷ z) l.2.are; leads = l.2.leads; number = step_number (is_event x.need) refl l.0 (events_in l.2.before) l.2.number })
        | inr n' ↦ inr (n'.0, none f n'.1)
      ]
        where
          none : leads_at program (sync_of x) b ≡ false → NoneLeads xs → NoneLeads (x ∷ xs)
          none f' h [] y after g' = ap (λ z. leads_at program (sync_of z) b) (ap (λ l. elim l [ [] ↦ x | w ∷ ws ↦ w ]) (sym g')) ∙ f'
          none f' h (z ∷ before) y after g' = h before y after (ap (λ l. elim l [ [] ↦ xs | w ∷ ws ↦ ws ]) g')

  -- among all processes
  pub record LeadsFrom (p : ℕ) (rows : List (List Taken)) (id : EventId) : Type 0 where
    pub row : ℕ
    pub process_is : id.process ≡ p + row
    pub leads : LeadsIn 0 (get_or rows row []) id.number

  abbrev pub NoneFrom : List (List Taken) → Type 0
  NoneFrom rows = (q : ℕ) (before : List Taken) (y : Taken) (after : List Taken) → get_or rows q [] ≡ before ++ y ∷ after → leads_at program (sync_of y) b ≡ false

  pub leading_all : (p : ℕ) (rows : List (List Taken)) → ((id : EventId) × (leading_from program b p rows ≡ Some id) × LeadsFrom p rows id) ⊎ ((leading_from program b p rows ≡ None) × NoneFrom rows)
  leading_all p [] = inr (refl, (λ q before y after e. absurd (empty before y after e)))
    where
      empty : (before : List Taken) (y : Taken) (after : List Taken) → [] ≡ before ++ y ∷ after → ⊥
      empty [] y after f = cc
      empty (z ∷ zs) y after f = cc
  leading_all p (xs ∷ rows) = elim (leading 0 xs (leading_in program b 0 xs) refl) [
    | inl l ↦ inl (record { process = p; number = l.0 }, ap (λ o. event_or p o (leading_from program b (p + 1) rows)) l.1, record { row = 0; process_is = (let z : p ≡ p + 0 = omega arith in z); leads = l.2 })
    | inr n' ↦ elim (leading_all (p + 1) rows) [
      | inl l ↦ inl (l.0, ap (λ o. event_or p o (leading_from program b (p + 1) rows)) n'.0 ∙ l.1, record { row = suc l.2.row; process_is = l.2.process_is ∙ (let z : p + 1 + l.2.row ≡ p + suc l.2.row = omega arith in z); leads = l.2.leads })
      | inr m ↦ inr (ap (λ o. event_or p o (leading_from program b (p + 1) rows)) n'.0 ∙ m.0, all n'.1 m.1)
    ]
  ]
    where
      all : ((before : List Taken) (y : Taken) (after : List Taken) → xs ≡ before ++ y ∷ after → leads_at program (sync_of y) b ≡ false)
          → ((q : ℕ) (before : List Taken) (y : Taken) (after : List Taken) → get_or rows q [] ≡ before ++ y ∷ after → leads_at program (sync_of y) b ≡ false)
          → (q : ℕ) (before : List Taken) (y : Taken) (after : List Taken) → get_or (xs ∷ rows) q [] ≡ before ++ y ∷ after → leads_at program (sync_of y) b ≡ false
      all h k zero before y after e = h before y after e
      all h k (suc q) before y after e = k q before y after e
