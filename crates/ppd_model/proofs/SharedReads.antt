-- Where no race is listed, a shared read is answered by the greatest write before it.
use Rattle.ppd_model.specs.Setting.{Setting}
use Rattle.std.proofs.Common.{◌≡◌, ℕ, zero, suc, ◌+◌, ◌<◌, ◌≤◌, ℤ, pos, Bool, true, false, List, [], ◌∷◌, ◌++◌, length, map, get_or, Option, Some, None, refl, ap, sym, ◌∙◌, subst, arith, inl, inr, ◌⊎◌, true≢false, eq-eqb}
use Rattle.std.proofs.lemmas.Bool.{cases_eq, cases_lt}
use Rattle.std.proofs.lemmas.List.{append-nil, append_assoc}
use Rattle.std.proofs.lemmas.List.Sums.{fold-append}
use Rattle.std.proofs.lemmas.Option.{none-some}
use Rattle.std.specs.Prelude.{IsTrue, fold, slice_get, filter_map}
use Rattle.ppd_ast.specs.declared.plan.Plan.{Plan}
use Rattle.ppd_ast.specs.declared.program.Program.{Program}
use Rattle.ppd_sem.specs.declared.proc.Need.{Need}
use Rattle.ppd_sem.specs.declared.proc.Need.TheVariants.{Read, Write, Stopped}
use Rattle.ppd_sem.specs.declared.proc.Proc.{Proc}
use Rattle.ppd_model.specs.declared.trace.EventId.{EventId}
use Rattle.ppd_model.specs.declared.tracing.Taken.{Taken}
use Rattle.ppd_model.specs.World.{World, change, need, writes_cell}
use Rattle.ppd_model.proofs.WorldWords.{need_at}
use Rattle.ppd_model.specs.Schedule.{run, started_world}
use Rattle.ppd_model.specs.Story.{Telling, begun, moment_of, steps_of, story, tell, told}
use Rattle.ppd_model.specs.States.{states_from}
use Rattle.ppd_model.specs.Synchronizations.{Sync, sync_of}
use Rattle.ppd_model.specs.Record.{SharedAccess, access_at, accesses, accesses_from, sync_record}
use Rattle.ppd_model.specs.Races.{races}
use Rattle.ppd_model.specs.HappenedBefore.{EdgeBefore, earlier, edge}
use Rattle.ppd_model.specs.Laws.{DoConflict, IsAtStart, IsTagged, IsUnwritten, begins}
use Rattle.ppd_model.proofs.Accesses.{accesses-append, record_at}
use Rattle.ppd_model.proofs.CountedOn.{kept_at, last_at}
use Rattle.ppd_model.proofs.Prefixes.{objects_stay}
use Rattle.ppd_model.proofs.RaceFree.{no_race}
use Rattle.ppd_model.proofs.States.{states_told}
use Rattle.ppd_model.proofs.Stories.{stories_grow, told-append}
use Rattle.ppd_model.proofs.Tags.{tags}
use Rattle.ppd_model.specs.Forward.{edge_in}
use Rattle.ppd_model.specs.SharedReads.{ConflictsGoForward, IsAccess, IsAcross, IsFound, IsFromStart, IsWriteStep, IsWrittenBy, LastWritesAreGreatest, SharedReadsAreFound, StepsAreAccesses, WritesAreSteps, WritesIn, need_after}
use Rattle.ppd_model.proofs.Forward.{edges_forward, fewer, run_begins}
use Rattle.ppd_model.proofs.LocalDeeds.{tail_is, head_is}

-- ---- lists

old_or_new : {A : Type 0} (xs ys : List A) (i : ℕ) (x : A) → slice_get (xs ++ ys) i ≡ Some x → (slice_get xs i ≡ Some x) ⊎ ((k : ℕ) × (slice_get ys k ≡ Some x))
old_or_new [] ys i x e = inr (i, e)
old_or_new (z ∷ xs) ys zero x e = inl e
old_or_new (z ∷ xs) ys (suc i) x e = old_or_new xs ys i x e

-- ---- accesses with one more step

from_zero : (xs : List Taken) (x : Taken) → accesses_from 0 (xs ++ x ∷ []) ≡ accesses_from 0 xs ++ access_at (length (filter_map sync_of xs)) x.need
from_zero xs x = accesses-append 0 xs x ∙ ap (λ k. accesses_from 0 xs ++ access_at k x.need) (omega arith)

-- process q's own list after process p's step
by_change : (x : Taken) (p : ℕ) (steps : List (List Taken)) → p < length steps → get_or (change (λ xs. xs ++ x ∷ []) p steps) p [] ≡ get_or steps p [] ++ x ∷ []
by_change x p [] lt = absurd (omega (arith, lt))
by_change x zero (xs ∷ rest) lt = refl
by_change x (suc p) (xs ∷ rest) lt = by_change x p rest (omega (arith, lt))

grown_by : (x : Taken) (p q : ℕ) (steps : List (List Taken)) → (get_or (change (λ xs. xs ++ x ∷ []) p steps) q [] ≡ get_or steps q []) ⊎ ((q ≡ p) × (get_or (change (λ xs. xs ++ x ∷ []) p steps) q [] ≡ get_or steps q [] ++ x ∷ []))
grown_by x p q [] = inl refl
grown_by x zero zero (xs ∷ rest) = inr (refl, refl)
grown_by x zero (suc q) (xs ∷ rest) = inl refl
grown_by x (suc p) zero (xs ∷ rest) = inl refl
grown_by x (suc p) (suc q) (xs ∷ rest) = elim (grown_by x p q rest) [ inl e ↦ inl e | inr e ↦ inr (ap (λ k. suc k) e.0, e.1) ]

in_range : (program : Program) (plan : Plan) (procs : List Proc) (p c : ℕ) (writes : Bool) → IsAccess c writes (need_at program plan (slice_get procs p)) → p < length procs
in_range program plan [] p c false e = absurd (stops e)
  where
    stops : Stopped ≡ Read c → ⊥
    stops e = true≢false (ap (λ n. elim n [ Stopped ↦ true | _ ↦ false ]) e)
in_range program plan [] p c true e = absurd (stops e.1)
  where
    stops : Stopped ≡ Write c e.0 → ⊥
    stops h = true≢false (ap (λ n. elim n [ Stopped ↦ true | _ ↦ false ]) h)
in_range program plan (s ∷ rest) zero c writes e = omega arith
in_range program plan (s ∷ rest) (suc p) c writes e = let below : p < length rest = in_range program plan rest p c writes e in omega (arith, below)

access_is : (c e : ℕ) (writes : Bool) (n : Need) → IsAccess c writes n → access_at e n ≡ record { edge = e; cell = c; writes = writes } ∷ []
access_is c e false n h = ap (λ m. access_at e m) h
access_is c e true n h = ap (λ m. access_at e m) h.1

module _ (setting : Setting) where
  same_count : (n : ℕ) (steps : List (List Taken)) → length (states_from setting n steps) ≡ length steps
  same_count n [] = refl
  same_count n (xs ∷ rest) = ap (λ k. suc k) (same_count (n + 1) rest)

  edge_own : (g : List ℕ) (p : ℕ) → edge_in setting g p ≡ length (filter_map sync_of (get_or (story setting g).steps p []))
  edge_own g p = ap (λ (ss : List Sync). length ss) (record_at (story setting g).steps p)

  taken_at : List ℕ → ℕ → Taken
  taken_at g p = (moment_of setting.program setting.plan (told setting g) p).taken

  steps_grow : (g : List ℕ) (p : ℕ) → (story setting (g ++ p ∷ [])).steps ≡ change (λ xs. xs ++ taken_at g p ∷ []) p (story setting g).steps
  unfolding taken_at
  steps_grow g p = (stories_grow setting g p).steps_are

  there : (g : List ℕ) (p c : ℕ) (writes : Bool) → IsAccess c writes (need_after setting g p) → p < length (story setting g).steps
  there g p c writes h =
      let lt : p < length (told setting g).world.procs = in_range setting.program setting.plan (told setting g).world.procs p c writes h in
      let e : length (told setting g).world.procs ≡ length (story setting g).steps =
      ap (λ (l : List Proc). length l) (states_told setting g) ∙ same_count 0 (story setting g).steps in
      omega (arith, lt, e)

  -- the access of one step
  new_access : (g : List ℕ) (p c : ℕ) (writes : Bool) → IsAccess c writes (need_after setting g p)
      → accesses (story setting (g ++ p ∷ [])) p ≡ accesses (story setting g) p ++ record { edge = edge_in setting g p; cell = c; writes = writes } ∷ []
  unfolding taken_at
  new_access g p c writes h =
      let steps = (story setting g).steps in
      ap (λ (l : List (List Taken)). accesses_from 0 (get_or l p [])) (steps_grow g p)
      ∙ ap (λ (l : List Taken). accesses_from 0 l) (by_change (taken_at g p) p steps (there g p c writes h))
      ∙ from_zero (get_or steps p []) (taken_at g p)
      ∙ ap (λ (l : List SharedAccess). accesses_from 0 (get_or steps p []) ++ l)
      (ap (λ k. access_at k (need_after setting g p)) (sym (edge_own g p)) ∙ access_is c (edge_in setting g p) writes (need_after setting g p) h)

  -- accesses stay
  accesses_grow : (g : List ℕ) (p q m : ℕ) (a : SharedAccess) → slice_get (accesses (story setting g) q) m ≡ Some a → slice_get (accesses (story setting (g ++ p ∷ [])) q) m ≡ Some a
  accesses_grow g p q m a e =
      let steps = (story setting g).steps in
      ap (λ (l : List (List Taken)). slice_get (accesses_from 0 (get_or l q [])) m) (steps_grow g p)
      ∙ elim (grown_by (taken_at g p) p q steps) [
        | inl s ↦ ap (λ (l : List Taken). slice_get (accesses_from 0 l) m) s ∙ e
        | inr s ↦ ap (λ (l : List Taken). slice_get (accesses_from 0 l) m) s.1
            ∙ ap (λ (l : List SharedAccess). slice_get l m) (from_zero (get_or steps q []) (taken_at g p))
            ∙ kept_at (accesses_from 0 (get_or steps q [])) (access_at (length (filter_map sync_of (get_or steps q []))) (taken_at g p).need) m a e
      ]

  grow_all : (g rest : List ℕ) (q m : ℕ) (a : SharedAccess) → slice_get (accesses (story setting g) q) m ≡ Some a → slice_get (accesses (story setting (g ++ rest)) q) m ≡ Some a
  grow_all g [] q m a e = subst (λ (l : List ℕ). slice_get (accesses (story setting l) q) m ≡ Some a) (sym (append-nil g)) e
  grow_all g (p ∷ rest) q m a e =
      subst (λ (l : List ℕ). slice_get (accesses (story setting l) q) m ≡ Some a) (append_assoc g (p ∷ []) rest) (grow_all (g ++ p ∷ []) rest q m a (accesses_grow g p q m a e))

  step_access : (g : List ℕ) (p : ℕ) (rest : List ℕ) (c : ℕ) (writes : Bool) → IsAccess c writes (need_after setting g p)
      → (m : ℕ) × (slice_get (accesses (story setting (g ++ p ∷ rest)) p) m ≡ Some (record { edge = edge_in setting g p; cell = c; writes = writes }))
  step_access g p rest c writes h =
      let a : SharedAccess = record { edge = edge_in setting g p; cell = c; writes = writes } in
      let m : ℕ = length (accesses (story setting g) p) in (
        m,
        subst (λ (l : List ℕ). slice_get (accesses (story setting l) p) m ≡ Some a) (append_assoc g (p ∷ []) rest)
            (grow_all (g ++ p ∷ []) rest p m a (ap (λ (l : List SharedAccess). slice_get l m) (new_access g p c writes h) ∙ last_at (accesses (story setting g) p) a)),
      )

  -- ---- each write is a step

  AllSteps : List ℕ → Type 0
  AllSteps g = (q m : ℕ) (a : SharedAccess) → slice_get (accesses (story setting g) q) m ≡ Some a → IsTrue a.writes → IsWriteStep setting g q a

  lasting : (g : List ℕ) (p q : ℕ) (a : SharedAccess) → IsWriteStep setting g q a → IsWriteStep setting (g ++ p ∷ []) q a
  lasting g p q a s = record {
    before = s.before;
    after = s.after ++ p ∷ [];
    schedule_is = ap (λ (l : List ℕ). l ++ p ∷ []) s.schedule_is ∙ append_assoc s.before (q ∷ s.after) (p ∷ []);
    writes = s.writes;
    edge_is = s.edge_is;
  }

  written_at : (n : Need) (e k : ℕ) (a : SharedAccess) → slice_get (access_at e n) k ≡ Some a → IsTrue a.writes → IsAccess a.cell true n × (a.edge ≡ e)
  written_at (Read c) e zero a h w = absurd (true≢false (sym w ∙ ap (λ o. elim o [ None ↦ false | Some z ↦ z.writes ]) (sym h)))
  written_at (Read c) e (suc k) a h w = absurd (none-some a h)
  written_at (Write c v) e zero a h w = ((v, ap (λ d. Write d v) (ap (λ o. elim o [ None ↦ c | Some z ↦ z.cell ]) h)), ap (λ o. elim o [ None ↦ e | Some z ↦ z.edge ]) (sym h))
  written_at (Write c v) e (suc k) a h w = absurd (none-some a h)
  written_at n e k a h w = absurd (none-some a h)

  one_step_more : (g : List ℕ) (p : ℕ) → AllSteps g → AllSteps (g ++ p ∷ [])
  unfolding AllSteps taken_at
  one_step_more g p all q m a e w =
      let steps = (story setting g).steps in
      let now : slice_get (accesses_from 0 (get_or (change (λ xs. xs ++ taken_at g p ∷ []) p steps) q [])) m ≡ Some a =
      ap (λ (l : List (List Taken)). slice_get (accesses_from 0 (get_or l q [])) m) (sym (steps_grow g p)) ∙ e in
      elim (grown_by (taken_at g p) p q steps) [
        | inl s ↦ lasting g p q a (all q m a (ap (λ (l : List Taken). slice_get (accesses_from 0 l) m) (sym s) ∙ now) w)
        | inr s ↦ elim (old_or_new (accesses_from 0 (get_or steps q [])) (access_at (length (filter_map sync_of (get_or steps q []))) (taken_at g p).need) m a
            (ap (λ (l : List SharedAccess). slice_get l m) (sym (from_zero (get_or steps q []) (taken_at g p))) ∙ ap (λ (l : List Taken). slice_get (accesses_from 0 l) m) (sym s.1) ∙ now)) [
              | inl old ↦ lasting g p q a (all q m a old w)
              | inr new ↦ let x = written_at (taken_at g p).need (length (filter_map sync_of (get_or steps q []))) new.0 a new.1 w in record {
                before = g;
                after = [];
                schedule_is = ap (λ k. g ++ k ∷ []) (sym s.0);
                writes = subst (λ k. IsAccess a.cell true (need_after setting g k)) (sym s.0) x.0;
                edge_is = x.1 ∙ sym (edge_own g q);
              }
            ]
      ]

  all_steps : (g rest : List ℕ) → AllSteps g → AllSteps (g ++ rest)
  all_steps g [] all = subst AllSteps (sym (append-nil g)) all
  all_steps g (p ∷ rest) all = subst AllSteps (append_assoc g (p ∷ []) rest) (all_steps (g ++ p ∷ []) rest (one_step_more g p all))

pub steps_access : StepsAreAccesses
steps_access setting g p rest c writes h = step_access setting g p rest c writes h

pub writes_step : WritesAreSteps
unfolding AllSteps
writes_step setting h q m a e w =
    all_steps setting [] h (λ q' m' a' e' w'. absurd (nothing_at (started_world setting).procs q' m' a' e')) q m a e w
  where
    nothing_at : (xs : List Proc) (q m : ℕ) (a : SharedAccess) → slice_get (accesses_from 0 (get_or (map steps_of (map (λ _. []) xs)) q [])) m ≡ Some a → ⊥
    nothing_at [] q m a e = none-some a e
    nothing_at (x ∷ xs) zero m a e = none-some a e
    nothing_at (x ∷ xs) (suc q) m a e = nothing_at xs q m a e

pub conflicts_forward : ConflictsGoForward
conflicts_forward setting g q more p rest w runs free apart c lt first second some h k =
    let all : List ℕ = (g ++ q ∷ more) ++ p ∷ rest in
    let a : SharedAccess = record { edge = edge_in setting g q; cell = c; writes = first } in
    let b : SharedAccess = record { edge = edge_in setting (g ++ q ∷ more) p; cell = c; writes = second } in
    let x = step_access setting g q (more ++ p ∷ rest) c first h in
    let y = step_access setting (g ++ q ∷ more) p rest c second k in
    let size : length (story setting all).cells ≡ length setting.program.starts = (objects_stay setting all).cells in
    let d : DoConflict (story setting all) q p a b = record {
      apart = apart;
      first = (x.0, ap (λ (l : List ℕ). slice_get (accesses (story setting l) q) x.0) (append_assoc g (q ∷ more) (p ∷ rest)) ∙ x.1);
      second = y;
      cell = refl;
      there = omega (arith, size, lt);
      writes = some;
    } in
    elim (no_race setting.program (story setting all) free q p a b d) [
      | inl e ↦ e
      | inr e ↦ absurd (edges_forward setting g (q ∷ more) (p ∷ rest) w runs q p e)
    ]

-- ---- two places of one schedule

-- the second is the first, or later, or earlier
Compared : List ℕ → ℕ → List ℕ → List ℕ → ℕ → List ℕ → Type 0
Compared b q r b' q' r' =
    ((b' ≡ b) × (q' ≡ q)) ⊎ (((more : List ℕ) × (b' ≡ b ++ q ∷ more) × (r ≡ more ++ q' ∷ r')) ⊎ ((more : List ℕ) × (b ≡ b' ++ q' ∷ more) × (r' ≡ more ++ q ∷ r)))

compare : (b : List ℕ) (q : ℕ) (r : List ℕ) (b' : List ℕ) (q' : ℕ) (r' : List ℕ) → b ++ q ∷ r ≡ b' ++ q' ∷ r' → Compared b q r b' q' r'
unfolding Compared
compare [] q r [] q' r' e = inl (refl, sym (head_is e))
compare [] q r (x ∷ b') q' r' e = inr (inl (b', first, tail_is e))
  where
    first : x ∷ b' ≡ q ∷ b'
    first = ap (λ y. y ∷ b') (sym (head_is e))
compare (x ∷ b) q r [] q' r' e = inr (inr (b, ap (λ y. y ∷ b) (head_is e), sym (tail_is e)))
compare (x ∷ b) q r (y ∷ b') q' r' e = elim (compare b q r b' q' r' (tail_is e)) [
  | inl s ↦ inl (joined (sym (head_is e)) s.0, s.1)
  | inr (inl s) ↦ inr (inl (s.0, joined (sym (head_is e)) s.1, s.2))
  | inr (inr s) ↦ inr (inr (s.0, joined (head_is e) s.1, s.2))
]
  where
    joined : {v : ℕ} {z : ℕ} {vs : List ℕ} {zs : List ℕ} → v ≡ z → vs ≡ zs → v ∷ vs ≡ z ∷ zs
    joined {z = z} {vs = vs} a b = ap (λ k. k ∷ vs) a ∙ ap (λ l. z ∷ l) b

-- ---- the writer

writes_it : (c : ℕ) (n : Need) (v : ℤ) → n ≡ Write c v → writes_cell c n ≡ true
writes_it c n v e = ap (λ m. writes_cell c m) e ∙ eq-eqb c c refl

read_or_write : (c : ℕ) (n : Need) (v : ℤ) → n ≡ Read c → n ≡ Write c v → ⊥
read_or_write c n v e f = true≢false (sym (writes_it c n v f) ∙ ap (λ m. writes_cell c m) e)

abbrev none_yet : Option EventId
none_yet = None

no_tags : {A : Type 0} (xs : List A) (c : ℕ) → get_or (map (λ (x : A). none_yet) xs) c none_yet ≡ none_yet
no_tags [] c = refl
no_tags (x ∷ xs) zero = refl
no_tags (x ∷ xs) (suc c) = no_tags xs c

module _ (setting : Setting) (c : ℕ) where
  not_written : (t : Telling) (m : List ℕ) (q : ℕ) (r : List ℕ) (v : ℤ) → IsUnwritten setting.program setting.plan c t (m ++ q ∷ r) → need setting.program setting.plan (fold (tell setting.program setting.plan) t m).world q ≡ Write c v → ⊥
  not_written t [] q r v u e = true≢false (sym (writes_it c (need setting.program setting.plan t.world q) v e) ∙ u.0)
  not_written t (x ∷ m) q r v u e = not_written (tell setting.program setting.plan t x) m q r v u.1 e

  told_past : (b : List ℕ) (q : ℕ) (m : List ℕ) → told setting (b ++ q ∷ m) ≡ fold (tell setting.program setting.plan) (tell setting.program setting.plan (told setting b) q) m
  told_past b q m = fold-append (tell setting.program setting.plan) (begun (started_world setting)) b (q ∷ m)

  -- no write after the last one
  after_last : (b : List ℕ) (q : ℕ) (after : List ℕ) → IsUnwritten setting.program setting.plan c (tell setting.program setting.plan (told setting b) q) after
      → (m : List ℕ) (q' : ℕ) (r : List ℕ) → after ≡ m ++ q' ∷ r → IsAccess c true (need_after setting (b ++ q ∷ m) q') → ⊥
  after_last b q after u m q' r e w =
      not_written (tell setting.program setting.plan (told setting b) q) m q' r w.0
      (subst (λ (l : List ℕ). IsUnwritten setting.program setting.plan c (tell setting.program setting.plan (told setting b) q) l) e u)
      (ap (λ (t : Telling). need setting.program setting.plan t.world q') (sym (told_past b q m)) ∙ w.1)

module _ (setting : Setting) (c : ℕ) (small : c < length setting.program.starts) where
  -- a write after `before`, the steps after it, and a read after them
  module _ (before : List ℕ) (q : ℕ) (after : List ℕ) (p : ℕ) (rest : List ℕ) (w : World)
      (runs : run setting ((before ++ q ∷ after) ++ p ∷ rest) ≡ Some w) (free : races setting ((before ++ q ∷ after) ++ p ∷ rest) ≡ [])
      (write : IsAccess c true (need_after setting before q)) (unwritten : IsUnwritten setting.program setting.plan c (tell setting.program setting.plan (told setting before) q) after)
      (read : need_after setting (before ++ q ∷ after) p ≡ Read c) where
    abbrev g : List ℕ
    g = before ++ q ∷ after

    abbrev h : List ℕ
    h = g ++ p ∷ rest

    abbrev rec : List (List Sync)
    rec = sync_record setting h

    abbrev e : ℕ
    e = edge_in setting g p

    abbrev i : ℕ
    i = edge_in setting before q

    begun_g : (v : World) × (run setting g ≡ Some v)
    begun_g = run_begins setting.program setting.plan (started_world setting) g (p ∷ rest) w runs

    -- the edge of the same process is no later
    same_process : q ≡ p → i ≤ e
    same_process same =
        let le : edge_in setting before q ≤ edge_in setting g q = fewer setting before (q ∷ after) begun_g.0 begun_g.1 q in
        let s : edge_in setting g q ≡ e = ap (λ k. edge_in setting g k) same in
        omega (arith, le, s)

    write_before : (q ≡ p → i ≡ e → ⊥) → EdgeBefore setting.program rec (edge q i) (edge p e)
    write_before not_own = elim (cases_eq q p) [
      | inl same ↦ elim (cases_lt i e) [
        | inl lt ↦ earlier same lt
        | inr ge ↦ absurd (not_own same (let le = same_process same in omega (arith, le, ge)))
      ]
      | inr other ↦ conflicts_forward setting before q after p rest w runs free other c small true false refl write read
    ]

    -- a write of the cell that is earlier than the last one
    earlier_write : (b : List ℕ) (q' : ℕ) (m : List ℕ) → before ≡ b ++ q' ∷ m → IsAccess c true (need_after setting b q')
        → ((q' ≡ q) × (edge_in setting b q' ≡ i)) ⊎ EdgeBefore setting.program rec (edge q' (edge_in setting b q')) (edge q i)
    earlier_write b q' m same w' = elim (cases_eq q' q) [
      | inl s ↦ elim (cases_lt (edge_in setting b q') i) [
        | inl lt ↦ inr (earlier s lt)
        | inr ge ↦ inl (s, let le = no_later s in omega (arith, le, ge))
      ]
      | inr other ↦ inr (subst (λ (l : List ℕ). EdgeBefore setting.program (sync_record setting (l ++ p ∷ rest)) (edge q' (edge_in setting b q')) (edge q i)) (ap (λ (l : List ℕ). l ++ q ∷ after) (sym same)) (forward other))
    ]
      where
        no_later : q' ≡ q → edge_in setting b q' ≤ i
        no_later s =
            let first = run_begins setting.program setting.plan (started_world setting) before (q ∷ after) begun_g.0 begun_g.1 in
            let le : edge_in setting b q' ≤ edge_in setting (b ++ q' ∷ m) q' =
            fewer setting b (q' ∷ m) first.0 (subst (λ (l : List ℕ). run setting l ≡ Some first.0) same first.1) q' in
            let t : edge_in setting (b ++ q' ∷ m) q' ≡ i = ap (λ (l : List ℕ). edge_in setting l q') (sym same) ∙ ap (λ k. edge_in setting before k) s in
            omega (arith, le, t)

        whole : (((b ++ q' ∷ m) ++ q ∷ after) ++ p ∷ rest) ≡ ((b ++ q' ∷ m) ++ q ∷ (after ++ p ∷ rest))
        whole = append_assoc (b ++ q' ∷ m) (q ∷ after) (p ∷ rest)

        here : h ≡ (((b ++ q' ∷ m) ++ q ∷ after) ++ p ∷ rest)
        here = ap (λ (l : List ℕ). (l ++ q ∷ after) ++ p ∷ rest) same

        forward : (q' ≡ q → ⊥) → EdgeBefore setting.program (sync_record setting (((b ++ q' ∷ m) ++ q ∷ after) ++ p ∷ rest)) (edge q' (edge_in setting b q')) (edge q i)
        forward other =
            subst (λ (l : List ℕ). EdgeBefore setting.program (sync_record setting l) (edge q' (edge_in setting b q')) (edge q i)) (sym whole)
            (subst (λ (l : List ℕ). EdgeBefore setting.program (sync_record setting ((b ++ q' ∷ m) ++ q ∷ (after ++ p ∷ rest))) (edge q' (edge_in setting b q')) (edge q (edge_in setting l q))) (sym same)
            (conflicts_forward setting b q' m q (after ++ p ∷ rest) w
            (subst (λ (l : List ℕ). run setting l ≡ Some w) (here ∙ whole) runs) (subst (λ (l : List ℕ). races setting l ≡ []) (here ∙ whole) free)
            other c small true true refl w' (subst (λ (l : List ℕ). IsAccess c true (need_after setting l q)) same write)))

    -- a write in an edge before the read's is no later than the last write
    greatest : (q' i' : ℕ) → WritesIn setting h c q' i' → EdgeBefore setting.program rec (edge q' i') (edge p e) → ((q' ≡ q) × (i' ≡ i)) ⊎ EdgeBefore setting.program rec (edge q' i') (edge q i)
    unfolding Compared
    greatest q' i' x bf =
        let s = writes_step setting h q' x.number x.access x.there x.writes in
        let b : List ℕ = s.before in
        let w' : IsAccess c true (need_after setting b q') = subst (λ d. IsAccess d true (need_after setting b q')) x.cell s.writes in
        let edge_is : edge_in setting b q' ≡ i' = sym s.edge_is ∙ x.edge_is in
        elim (compare g p rest b q' s.after s.schedule_is) [
          | inl t ↦ absurd (read_or_write c (need_after setting g p) w'.0 read (ap (λ (l : List ℕ). need_after setting l p) (sym t.0) ∙ ap (λ k. need_after setting b k) (sym t.1) ∙ w'.1))
          | inr (inl t) ↦ absurd (late b q' i' edge_is t.0 t.1 s.after s.schedule_is bf)
          | inr (inr t) ↦ elim (compare before q after b q' t.0 t.1) [
            | inl u ↦ inl (u.1, sym edge_is ∙ ap (λ (l : List ℕ). edge_in setting l q') u.0 ∙ ap (λ k. edge_in setting before k) u.1)
            | inr (inl u) ↦ absurd (after_last setting c before q after unwritten u.0 q' t.0 u.2 (subst (λ (l : List ℕ). IsAccess c true (need_after setting l q')) u.1 w'))
            | inr (inr u) ↦ subst (λ k. ((q' ≡ q) × (k ≡ i)) ⊎ EdgeBefore setting.program rec (edge q' k) (edge q i)) edge_is (earlier_write b q' u.0 u.1 w')
          ]
        ]
      where
        late : (b : List ℕ) (q' i' : ℕ) → edge_in setting b q' ≡ i' → (more : List ℕ) → b ≡ g ++ p ∷ more → (r : List ℕ) → h ≡ b ++ q' ∷ r → EdgeBefore setting.program rec (edge q' i') (edge p e) → ⊥
        late b q' i' edge_is more at r all bf =
            let all' : h ≡ (g ++ p ∷ more) ++ q' ∷ r = all ∙ ap (λ (l : List ℕ). l ++ q' ∷ r) at in
            edges_forward setting g (p ∷ more) (q' ∷ r) w (subst (λ (l : List ℕ). run setting l ≡ Some w) all' runs) p q'
            (subst (λ (l : List ℕ). EdgeBefore setting.program (sync_record setting l) (edge q' (edge_in setting (g ++ p ∷ more) q')) (edge p e)) all'
            (subst (λ k. EdgeBefore setting.program rec (edge q' k) (edge p e)) (sym edge_is ∙ ap (λ (l : List ℕ). edge_in setting l q') at) bf))

    -- the read's own edge has no earlier write of its process
    none_own : (q ≡ p → i ≡ e → ⊥) → (b more : List ℕ) → g ≡ b ++ p ∷ more → IsAccess c true (need_after setting b p) → edge_in setting b p ≡ e → ⊥
    unfolding Compared
    none_own not_own b more at w' same_edge = elim (compare before q after b p more at) [
      | inl s ↦ not_own (sym s.1) (ap (λ (l : List ℕ). edge_in setting l q) (sym s.0) ∙ ap (λ k. edge_in setting b k) (sym s.1) ∙ same_edge)
      | inr (inl s) ↦ after_last setting c before q after unwritten s.0 p more s.2 (subst (λ (l : List ℕ). IsAccess c true (need_after setting l p)) s.1 w')
      | inr (inr s) ↦ edges_forward setting b (p ∷ s.0) (q ∷ (after ++ p ∷ rest)) w
          (subst (λ (l : List ℕ). run setting l ≡ Some w) (whole s.0 s.1) runs) p q
          (subst (λ (l : List ℕ). EdgeBefore setting.program (sync_record setting l) (edge q (edge_in setting (b ++ p ∷ s.0) q)) (edge p (edge_in setting b p))) (whole s.0 s.1)
          (subst (λ (l : List ℕ). EdgeBefore setting.program rec (edge q (edge_in setting l q)) (edge p (edge_in setting b p))) s.1
          (subst (λ k. EdgeBefore setting.program rec (edge q i) (edge p k)) (sym same_edge) (write_before not_own))))
    ]
      where
        whole : (m : List ℕ) → before ≡ b ++ p ∷ m → h ≡ (b ++ p ∷ m) ++ q ∷ (after ++ p ∷ rest)
        whole m eq = append_assoc before (q ∷ after) (p ∷ rest) ∙ ap (λ (l : List ℕ). l ++ q ∷ (after ++ p ∷ rest)) eq

  -- whether the write is in the read's own edge
  own_or_not : (a b m n : ℕ) → ((a ≡ b) × (m ≡ n)) ⊎ (a ≡ b → m ≡ n → ⊥)
  own_or_not a b m n = elim (cases_eq a b) [
    | inr d ↦ inr (λ s t. d s)
    | inl s ↦ elim (cases_eq m n) [ inl t ↦ inl (s, t) | inr d ↦ inr (λ u t. d t) ]
  ]

  -- the last write, by the law of tags
  written : (g : List ℕ) (x : IsTagged setting.program setting.plan c (begins setting) (told setting g) g) → IsWrittenBy setting g c
  written g x = record {
    before = x.last.before;
    process = x.last.process;
    after = x.last.after;
    schedule_is = x.last.schedule_is;
    writes = (get_or (told setting g).world.shared c (pos 0), x.last.writes);
    tag_is = x.tag_is ∙ ap (λ (k : EventId). Some k) x.last.event_is;
    unwritten = subst (λ (t : Telling). IsUnwritten setting.program setting.plan c t x.last.after) (sym (told-append setting x.last.before x.last.process)) x.last.unwritten;
  }

  module _ (p : ℕ) (rest : List ℕ) (w : World) where
    abbrev Answer : List ℕ → Type 0
    Answer g = IsFound setting g (g ++ p ∷ rest) p c

    found_written : (g : List ℕ) → run setting (g ++ p ∷ rest) ≡ Some w → races setting (g ++ p ∷ rest) ≡ [] → need_after setting g p ≡ Read c
        → (x : IsWrittenBy setting g c) → Answer g
    found_written g runs free read x =
        elim (own_or_not x.process p (edge_in setting x.before x.process) (edge_in setting g p)) [
          | inl own ↦ inr (x, inl own)
          | inr not_own ↦ inr (
            x,
            inr (subst (λ (l : List ℕ). IsAcross setting l (l ++ p ∷ rest) p c x.process (edge_in setting x.before x.process)) (sym x.schedule_is) (record {
              before = write_before x.before x.process x.after p rest w (runs_at runs) (free_at free) x.writes last (read_at read) (apart_at not_own);
              greatest = greatest x.before x.process x.after p rest w (runs_at runs) (free_at free) x.writes last (read_at read);
              none_own = none_own x.before x.process x.after p rest w (runs_at runs) (free_at free) x.writes last (read_at read) (apart_at not_own);
            })),
          )
        ]
      where
        runs_at : run setting (g ++ p ∷ rest) ≡ Some w → run setting ((x.before ++ x.process ∷ x.after) ++ p ∷ rest) ≡ Some w
        runs_at r = subst (λ (l : List ℕ). run setting (l ++ p ∷ rest) ≡ Some w) x.schedule_is r

        free_at : races setting (g ++ p ∷ rest) ≡ [] → races setting ((x.before ++ x.process ∷ x.after) ++ p ∷ rest) ≡ []
        free_at r = subst (λ (l : List ℕ). races setting (l ++ p ∷ rest) ≡ []) x.schedule_is r

        read_at : need_after setting g p ≡ Read c → need_after setting (x.before ++ x.process ∷ x.after) p ≡ Read c
        read_at r = subst (λ (l : List ℕ). need_after setting l p ≡ Read c) x.schedule_is r

        apart_at : (x.process ≡ p → edge_in setting x.before x.process ≡ edge_in setting g p → ⊥) → x.process ≡ p → edge_in setting x.before x.process ≡ edge_in setting (x.before ++ x.process ∷ x.after) p → ⊥
        apart_at d = subst (λ (l : List ℕ). x.process ≡ p → edge_in setting x.before x.process ≡ edge_in setting l p → ⊥) x.schedule_is d

        last : IsUnwritten setting.program setting.plan c (tell setting.program setting.plan (told setting x.before) x.process) x.after
        last = subst (λ (t : Telling). IsUnwritten setting.program setting.plan c t x.after) (told-append setting x.before x.process) x.unwritten

    from_start : (g : List ℕ) → run setting (g ++ p ∷ rest) ≡ Some w → need_after setting g p ≡ Read c
        → IsAtStart setting.program setting.plan c (begins setting) (told setting g) g → IsFromStart setting g (g ++ p ∷ rest) p c
    unfolding Compared
    from_start g runs read s = record {
      tag_is = s.tag_is ∙ no_tags (started_world setting).shared c;
      unwritten = s.unwritten;
      none = none;
    }
      where
        none : (q i : ℕ) → WritesIn setting (g ++ p ∷ rest) c q i → EdgeBefore setting.program (sync_record setting (g ++ p ∷ rest)) (edge q i) (edge p (edge_in setting g p)) → ⊥
        none q i x bf =
            let t = writes_step setting (g ++ p ∷ rest) q x.number x.access x.there x.writes in
            let w' : IsAccess c true (need_after setting t.before q) = subst (λ d. IsAccess d true (need_after setting t.before q)) x.cell t.writes in
            let edge_is : edge_in setting t.before q ≡ i = sym t.edge_is ∙ x.edge_is in
            elim (compare g p rest t.before q t.after t.schedule_is) [
              | inl u ↦ read_or_write c (need_after setting g p) w'.0 read (ap (λ (l : List ℕ). need_after setting l p) (sym u.0) ∙ ap (λ k. need_after setting t.before k) (sym u.1) ∙ w'.1)
              | inr (inl u) ↦
                  let all : g ++ p ∷ rest ≡ (g ++ p ∷ u.0) ++ q ∷ t.after = t.schedule_is ∙ ap (λ (l : List ℕ). l ++ q ∷ t.after) u.1 in
                  edges_forward setting g (p ∷ u.0) (q ∷ t.after) w (subst (λ (l : List ℕ). run setting l ≡ Some w) all runs) p q
                  (subst (λ (l : List ℕ). EdgeBefore setting.program (sync_record setting l) (edge q (edge_in setting (g ++ p ∷ u.0) q)) (edge p (edge_in setting g p))) all
                  (subst (λ k. EdgeBefore setting.program (sync_record setting (g ++ p ∷ rest)) (edge q k) (edge p (edge_in setting g p))) (sym edge_is ∙ ap (λ (l : List ℕ). edge_in setting l q) u.1) bf))
              | inr (inr u) ↦ not_written setting c (begins setting) t.before q u.0 w'.0
                  (subst (λ (l : List ℕ). IsUnwritten setting.program setting.plan c (begins setting) l) u.1 s.unwritten) w'.1
            ]

pub shared_found : SharedReadsAreFound
shared_found setting g p rest w runs free c small read = elim (tags setting g c small) [
  | inl s ↦ inl (from_start setting c small p rest w g runs read s)
  | inr x ↦ found_written setting c small p rest w g runs free read (written setting c small g x)
]

-- ---- the last write of all

module _ (setting : Setting) (h : List ℕ) (w : World) (runs : run setting h ≡ Some w) (free : races setting h ≡ [])
    (c : ℕ) (small : c < length setting.program.starts) (x : IsWrittenBy setting h c) where
  abbrev top : ℕ
  top = edge_in setting x.before x.process

  earlier_one : (b : List ℕ) (q' : ℕ) (m : List ℕ) → x.before ≡ b ++ q' ∷ m → IsAccess c true (need_after setting b q')
      → ((q' ≡ x.process) × (edge_in setting b q' ≡ top)) ⊎ EdgeBefore setting.program (sync_record setting h) (edge q' (edge_in setting b q')) (edge x.process top)
  earlier_one b q' m same w' = elim (cases_eq q' x.process) [
    | inl s ↦ elim (cases_lt (edge_in setting b q') top) [
      | inl lt ↦ inr (earlier s lt)
      | inr ge ↦ inl (s, let le = no_later s in omega (arith, le, ge))
    ]
    | inr other ↦ inr (forward other)
  ]
    where
      whole : h ≡ (b ++ q' ∷ m) ++ x.process ∷ x.after
      whole = x.schedule_is ∙ ap (λ (l : List ℕ). l ++ x.process ∷ x.after) same

      no_later : q' ≡ x.process → edge_in setting b q' ≤ top
      no_later s =
          let first = run_begins setting.program setting.plan (started_world setting) (b ++ q' ∷ m) (x.process ∷ x.after) w (subst (λ (l : List ℕ). run setting l ≡ Some w) whole runs) in
          let le : edge_in setting b q' ≤ edge_in setting (b ++ q' ∷ m) q' = fewer setting b (q' ∷ m) first.0 first.1 q' in
          let t : edge_in setting (b ++ q' ∷ m) q' ≡ top = ap (λ (l : List ℕ). edge_in setting l q') (sym same) ∙ ap (λ k. edge_in setting x.before k) s in
          omega (arith, le, t)

      forward : (q' ≡ x.process → ⊥) → EdgeBefore setting.program (sync_record setting h) (edge q' (edge_in setting b q')) (edge x.process top)
      forward other =
          subst (λ (l : List ℕ). EdgeBefore setting.program (sync_record setting l) (edge q' (edge_in setting b q')) (edge x.process top)) (sym whole)
          (subst (λ (l : List ℕ). EdgeBefore setting.program (sync_record setting ((b ++ q' ∷ m) ++ x.process ∷ x.after)) (edge q' (edge_in setting b q')) (edge x.process (edge_in setting l x.process))) (sym same)
          (conflicts_forward setting b q' m x.process x.after w
          (subst (λ (l : List ℕ). run setting l ≡ Some w) whole runs) (subst (λ (l : List ℕ). races setting l ≡ []) whole free)
          other c small true true refl w' (subst (λ (l : List ℕ). IsAccess c true (need_after setting l x.process)) same x.writes)))

  greatest_of_all : (q' i' : ℕ) → WritesIn setting h c q' i' → ((q' ≡ x.process) × (i' ≡ top)) ⊎ EdgeBefore setting.program (sync_record setting h) (edge q' i') (edge x.process top)
  unfolding Compared
  greatest_of_all q' i' y =
      let s = writes_step setting h q' y.number y.access y.there y.writes in
      let b : List ℕ = s.before in
      let w' : IsAccess c true (need_after setting b q') = subst (λ d. IsAccess d true (need_after setting b q')) y.cell s.writes in
      let edge_is : edge_in setting b q' ≡ i' = sym s.edge_is ∙ y.edge_is in
      elim (compare x.before x.process x.after b q' s.after (sym x.schedule_is ∙ s.schedule_is)) [
        | inl u ↦ inl (u.1, sym edge_is ∙ ap (λ (l : List ℕ). edge_in setting l q') u.0 ∙ ap (λ k. edge_in setting x.before k) u.1)
        | inr (inl u) ↦ absurd (after_last setting c x.before x.process x.after
            (subst (λ (t : Telling). IsUnwritten setting.program setting.plan c t x.after) (told-append setting x.before x.process) x.unwritten)
            u.0 q' s.after u.2 (subst (λ (l : List ℕ). IsAccess c true (need_after setting l q')) u.1 w'))
        | inr (inr u) ↦ subst (λ k. ((q' ≡ x.process) × (k ≡ top)) ⊎ EdgeBefore setting.program (sync_record setting h) (edge q' k) (edge x.process top)) edge_is (earlier_one b q' u.0 u.1 w')
      ]

pub last_greatest : LastWritesAreGreatest
last_greatest setting h w runs free c small x = record { greatest = greatest_of_all setting h w runs free c small x }
