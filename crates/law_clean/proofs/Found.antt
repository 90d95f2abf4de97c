-- In a run with races: a shared read whose edge and the edges before it no race has is answered by the greatest write
-- before it.
use Rattle.ppd_model.specs.Setting.{Setting}
use Rattle.std.proofs.Common.{◌≡◌, ℕ, zero, suc, ◌<◌, ◌≤◌, ℤ, pos, true, false, List, [], ◌∷◌, ◌++◌, length, map, get_or, Option, Some, None, refl, ap, sym, ◌∙◌, subst, arith, inl, inr, ◌⊎◌, true≢false, eq-eqb}
use Rattle.std.proofs.lemmas.Bool.{cases_eq, cases_lt}
use Rattle.std.proofs.lemmas.List.{append_assoc}
use Rattle.std.proofs.lemmas.List.Sums.{fold-append}
use Rattle.std.specs.Prelude.{fold}
use Rattle.ppd_sem.specs.declared.proc.Need.{Need}
use Rattle.ppd_sem.specs.declared.proc.Need.TheVariants.{Read, Write}
use Rattle.ppd_model.specs.declared.trace.EventId.{EventId}
use Rattle.ppd_model.specs.World.{World, need, writes_cell}
use Rattle.ppd_model.specs.Schedule.{run, started_world}
use Rattle.ppd_model.specs.Story.{Telling, begun, tell, told}
use Rattle.ppd_model.specs.Synchronizations.{Sync}
use Rattle.ppd_model.specs.Record.{sync_record}
use Rattle.ppd_model.specs.HappenedBefore.{EdgeBefore, earlier, edge}
use Rattle.ppd_model.specs.Laws.{IsAtStart, IsTagged, IsUnwritten, begins}
use Rattle.ppd_model.proofs.Stories.{told-append}
use Rattle.ppd_model.proofs.Tags.{tags}
use Rattle.ppd_model.specs.Forward.{edge_in}
use Rattle.ppd_model.specs.SharedReads.{IsAccess, IsAcross, IsFound, IsFromStart, IsWrittenBy, WritesIn, need_after}
use Rattle.ppd_model.proofs.Forward.{edges_forward, fewer, run_begins}
use Rattle.ppd_model.proofs.LocalDeeds.{tail_is, head_is}
use Rattle.ppd_model.proofs.SharedReads.{writes_step}
use Rattle.law_clean.specs.Ordered.{CleanReadsAreFound, IsCleanAt, IsUnracedIn}
use Rattle.law_clean.proofs.Forward.{unraced_forward}

-- ---- two places of one schedule

-- the second is the first, or later, or earlier
abbrev pub Compared : List ℕ → ℕ → List ℕ → List ℕ → ℕ → List ℕ → Type 0
Compared b q r b' q' r' =
    ((b' ≡ b) × (q' ≡ q)) ⊎ (((more : List ℕ) × (b' ≡ b ++ q ∷ more) × (r ≡ more ++ q' ∷ r')) ⊎ ((more : List ℕ) × (b ≡ b' ++ q' ∷ more) × (r' ≡ more ++ q ∷ r)))

pub compare : (b : List ℕ) (q : ℕ) (r : List ℕ) (b' : List ℕ) (q' : ℕ) (r' : List ℕ) → b ++ q ∷ r ≡ b' ++ q' ∷ r' → Compared b q r b' q' r'
compare [] q r [] q' r' e = inl (refl, sym (head_is e))
compare [] q r (x ∷ b') q' r' e = inr (inl (b', first, tail_is e))
  where
    first : x ∷ b' ≡ q ∷ b'
    first = ap (λ y. y ∷ b') (sym (head_is e))
compare (x ∷ b) q r [] q' r' e = inr (inr (b, ap (λ y. y ∷ b) (head_is e), sym (tail_is e)))
compare (x ∷ b) q r (y ∷ b') q' r' e = elim (compare b q r b' q' r' (tail_is e)) [
  | inl s ↦ inl (joined (sym (head_is e)) s.0, s.1)
  | inr (inl s) ↦ inr (inl (s.0, joined (sym (head_is e)) s.1, s.2))
  | inr (inr s) ↦ inr (inr (s.0, joined (head_is e) s.1, s.2))
]
  where
    joined : {v : ℕ} {z : ℕ} {vs : List ℕ} {zs : List ℕ} → v ≡ z → vs ≡ zs → v ∷ vs ≡ z ∷ zs
    joined {z = z} {vs = vs} a b = ap (λ k. k ∷ vs) a ∙ ap (λ l. z ∷ l) b

-- ---- the writer

writes_it : (c : ℕ) (n : Need) (v : ℤ) → n ≡ Write c v → writes_cell c n ≡ true
writes_it c n v e = ap (λ m. writes_cell c m) e ∙ eq-eqb c c refl

read_or_write : (c : ℕ) (n : Need) (v : ℤ) → n ≡ Read c → n ≡ Write c v → ⊥
read_or_write c n v e f = true≢false (sym (writes_it c n v f) ∙ ap (λ m. writes_cell c m) e)

abbrev none_yet : Option EventId
none_yet = None

no_tags : {A : Type 0} (xs : List A) (c : ℕ) → get_or (map (λ (x : A). none_yet) xs) c none_yet ≡ none_yet
no_tags [] c = refl
no_tags (x ∷ xs) zero = refl
no_tags (x ∷ xs) (suc c) = no_tags xs c

module _ (setting : Setting) (c : ℕ) where
  not_written : (t : Telling) (m : List ℕ) (q : ℕ) (r : List ℕ) (v : ℤ) → IsUnwritten setting.program setting.plan c t (m ++ q ∷ r) → need setting.program setting.plan (fold (tell setting.program setting.plan) t m).world q ≡ Write c v → ⊥
  not_written t [] q r v u e = true≢false (sym (writes_it c (need setting.program setting.plan t.world q) v e) ∙ u.0)
  not_written t (x ∷ m) q r v u e = not_written (tell setting.program setting.plan t x) m q r v u.1 e

  told_past : (b : List ℕ) (q : ℕ) (m : List ℕ) → told setting (b ++ q ∷ m) ≡ fold (tell setting.program setting.plan) (tell setting.program setting.plan (told setting b) q) m
  told_past b q m = fold-append (tell setting.program setting.plan) (begun (started_world setting)) b (q ∷ m)

  -- no write after the last one
  after_last : (b : List ℕ) (q : ℕ) (after : List ℕ) → IsUnwritten setting.program setting.plan c (tell setting.program setting.plan (told setting b) q) after
      → (m : List ℕ) (q' : ℕ) (r : List ℕ) → after ≡ m ++ q' ∷ r → IsAccess c true (need_after setting (b ++ q ∷ m) q') → ⊥
  after_last b q after u m q' r e w =
      not_written (tell setting.program setting.plan (told setting b) q) m q' r w.0
      (subst (λ (l : List ℕ). IsUnwritten setting.program setting.plan c (tell setting.program setting.plan (told setting b) q) l) e u)
      (ap (λ (t : Telling). need setting.program setting.plan t.world q') (sym (told_past b q m)) ∙ w.1)

module _ (setting : Setting) (c : ℕ) (small : c < length setting.program.starts) where
  -- whether the write is in the read's own edge
  own_or_not : (a b m n : ℕ) → ((a ≡ b) × (m ≡ n)) ⊎ (a ≡ b → m ≡ n → ⊥)
  own_or_not a b m n = elim (cases_eq a b) [
    | inr d ↦ inr (λ s t. d s)
    | inl s ↦ elim (cases_eq m n) [ inl t ↦ inl (s, t) | inr d ↦ inr (λ u t. d t) ]
  ]

  -- a write after `before`, the steps after it, and a read after them
  module _ (before : List ℕ) (q : ℕ) (after : List ℕ) (p : ℕ) (rest : List ℕ) (w : World)
      (runs : run setting ((before ++ q ∷ after) ++ p ∷ rest) ≡ Some w) (clear : IsCleanAt setting (before ++ q ∷ after) ((before ++ q ∷ after) ++ p ∷ rest) p)
      (write : IsAccess c true (need_after setting before q)) (unwritten : IsUnwritten setting.program setting.plan c (tell setting.program setting.plan (told setting before) q) after)
      (read : need_after setting (before ++ q ∷ after) p ≡ Read c) where
    abbrev g : List ℕ
    g = before ++ q ∷ after

    abbrev h : List ℕ
    h = g ++ p ∷ rest

    abbrev rec : List (List Sync)
    rec = sync_record setting h

    abbrev e : ℕ
    e = edge_in setting g p

    abbrev i : ℕ
    i = edge_in setting before q

    begun_g : (v : World) × (run setting g ≡ Some v)
    begun_g = run_begins setting.program setting.plan (started_world setting) g (p ∷ rest) w runs

    -- the edge of the same process is no later
    same_process : q ≡ p → i ≤ e
    same_process same =
        let le : edge_in setting before q ≤ edge_in setting g q = fewer setting before (q ∷ after) begun_g.0 begun_g.1 q in
        let s : edge_in setting g q ≡ e = ap (λ k. edge_in setting g k) same in
        omega (arith, le, s)

    write_before : (q ≡ p → i ≡ e → ⊥) → EdgeBefore setting.program rec (edge q i) (edge p e)
    write_before not_own = elim (cases_eq q p) [
      | inl same ↦ elim (cases_lt i e) [
        | inl lt ↦ earlier same lt
        | inr ge ↦ absurd (not_own same (let le = same_process same in omega (arith, le, ge)))
      ]
      | inr other ↦ unraced_forward setting before q after p rest w runs (inr clear.0) other c small true false refl write read
    ]

    -- no race has the edge of the last write
    unraced_write : IsUnracedIn setting h q i
    unraced_write = elim (own_or_not q p i e) [
      | inl s ↦ subst (λ k. IsUnracedIn setting h k i) (sym s.0) (subst (λ k. IsUnracedIn setting h p k) (sym s.1) clear.0)
      | inr d ↦ clear.1 q i (write_before d)
    ]

    -- a write of the cell that is earlier than the last one
    earlier_write : (b : List ℕ) (q' : ℕ) (m : List ℕ) → before ≡ b ++ q' ∷ m → IsAccess c true (need_after setting b q')
        → ((q' ≡ q) × (edge_in setting b q' ≡ i)) ⊎ EdgeBefore setting.program rec (edge q' (edge_in setting b q')) (edge q i)
    earlier_write b q' m same w' = elim (cases_eq q' q) [
      | inl s ↦ elim (cases_lt (edge_in setting b q') i) [
        | inl lt ↦ inr (earlier s lt)
        | inr ge ↦ inl (s, let le = no_later s in omega (arith, le, ge))
      ]
      | inr other ↦ inr (subst (λ (l : List ℕ). EdgeBefore setting.program (sync_record setting (l ++ p ∷ rest)) (edge q' (edge_in setting b q')) (edge q i)) (ap (λ (l : List ℕ). l ++ q ∷ after) (sym same)) (forward other))
    ]
      where
        no_later : q' ≡ q → edge_in setting b q' ≤ i
        no_later s =
            let first = run_begins setting.program setting.plan (started_world setting) before (q ∷ after) begun_g.0 begun_g.1 in
            let le : edge_in setting b q' ≤ edge_in setting (b ++ q' ∷ m) q' =
            fewer setting b (q' ∷ m) first.0 (subst (λ (l : List ℕ). run setting l ≡ Some first.0) same first.1) q' in
            let t : edge_in setting (b ++ q' ∷ m) q' ≡ i = ap (λ (l : List ℕ). edge_in setting l q') (sym same) ∙ ap (λ k. edge_in setting before k) s in
            omega (arith, le, t)

        whole : (((b ++ q' ∷ m) ++ q ∷ after) ++ p ∷ rest) ≡ ((b ++ q' ∷ m) ++ q ∷ (after ++ p ∷ rest))
        whole = append_assoc (b ++ q' ∷ m) (q ∷ after) (p ∷ rest)

        here : h ≡ (((b ++ q' ∷ m) ++ q ∷ after) ++ p ∷ rest)
        here = ap (λ (l : List ℕ). (l ++ q ∷ after) ++ p ∷ rest) same

        forward : (q' ≡ q → ⊥) → EdgeBefore setting.program (sync_record setting (((b ++ q' ∷ m) ++ q ∷ after) ++ p ∷ rest)) (edge q' (edge_in setting b q')) (edge q i)
        forward other =
            subst (λ (l : List ℕ). EdgeBefore setting.program (sync_record setting l) (edge q' (edge_in setting b q')) (edge q i)) (sym whole)
            (subst (λ (l : List ℕ). EdgeBefore setting.program (sync_record setting ((b ++ q' ∷ m) ++ q ∷ (after ++ p ∷ rest))) (edge q' (edge_in setting b q')) (edge q (edge_in setting l q))) (sym same)
            (unraced_forward setting b q' m q (after ++ p ∷ rest) w
            (subst (λ (l : List ℕ). run setting l ≡ Some w) (here ∙ whole) runs) (inr (subst (λ (l : List ℕ). IsUnracedIn setting l q (edge_in setting (b ++ q' ∷ m) q)) (here ∙ whole) (subst (λ (l : List ℕ). IsUnracedIn setting h q (edge_in setting l q)) same unraced_write)))
            other c small true true refl w' (subst (λ (l : List ℕ). IsAccess c true (need_after setting l q)) same write)))

    -- a write in an edge before the read's is no later than the last write
    greatest : (q' i' : ℕ) → WritesIn setting h c q' i' → EdgeBefore setting.program rec (edge q' i') (edge p e) → ((q' ≡ q) × (i' ≡ i)) ⊎ EdgeBefore setting.program rec (edge q' i') (edge q i)
    greatest q' i' x bf =
        let s = writes_step setting h q' x.number x.access x.there x.writes in
        let b : List ℕ = s.before in
        let w' : IsAccess c true (need_after setting b q') = subst (λ d. IsAccess d true (need_after setting b q')) x.cell s.writes in
        let edge_is : edge_in setting b q' ≡ i' = sym s.edge_is ∙ x.edge_is in
        elim (compare g p rest b q' s.after s.schedule_is) [
          | inl t ↦ absurd (read_or_write c (need_after setting g p) w'.0 read (ap (λ (l : List ℕ). need_after setting l p) (sym t.0) ∙ ap (λ k. need_after setting b k) (sym t.1) ∙ w'.1))
          | inr (inl t) ↦ absurd (late b q' i' edge_is t.0 t.1 s.after s.schedule_is bf)
          | inr (inr t) ↦ elim (compare before q after b q' t.0 t.1) [
            | inl u ↦ inl (u.1, sym edge_is ∙ ap (λ (l : List ℕ). edge_in setting l q') u.0 ∙ ap (λ k. edge_in setting before k) u.1)
            | inr (inl u) ↦ absurd (after_last setting c before q after unwritten u.0 q' t.0 u.2 (subst (λ (l : List ℕ). IsAccess c true (need_after setting l q')) u.1 w'))
            | inr (inr u) ↦ subst (λ k. ((q' ≡ q) × (k ≡ i)) ⊎ EdgeBefore setting.program rec (edge q' k) (edge q i)) edge_is (earlier_write b q' u.0 u.1 w')
          ]
        ]
      where
        late : (b : List ℕ) (q' i' : ℕ) → edge_in setting b q' ≡ i' → (more : List ℕ) → b ≡ g ++ p ∷ more → (r : List ℕ) → h ≡ b ++ q' ∷ r → EdgeBefore setting.program rec (edge q' i') (edge p e) → ⊥
        late b q' i' edge_is more at r all bf =
            let all' : h ≡ (g ++ p ∷ more) ++ q' ∷ r = all ∙ ap (λ (l : List ℕ). l ++ q' ∷ r) at in
            edges_forward setting g (p ∷ more) (q' ∷ r) w (subst (λ (l : List ℕ). run setting l ≡ Some w) all' runs) p q'
            (subst (λ (l : List ℕ). EdgeBefore setting.program (sync_record setting l) (edge q' (edge_in setting (g ++ p ∷ more) q')) (edge p e)) all'
            (subst (λ k. EdgeBefore setting.program rec (edge q' k) (edge p e)) (sym edge_is ∙ ap (λ (l : List ℕ). edge_in setting l q') at) bf))

    -- the read's own edge has no earlier write of its process
    none_own : (q ≡ p → i ≡ e → ⊥) → (b more : List ℕ) → g ≡ b ++ p ∷ more → IsAccess c true (need_after setting b p) → edge_in setting b p ≡ e → ⊥
    none_own not_own b more at w' same_edge = elim (compare before q after b p more at) [
      | inl s ↦ not_own (sym s.1) (ap (λ (l : List ℕ). edge_in setting l q) (sym s.0) ∙ ap (λ k. edge_in setting b k) (sym s.1) ∙ same_edge)
      | inr (inl s) ↦ after_last setting c before q after unwritten s.0 p more s.2 (subst (λ (l : List ℕ). IsAccess c true (need_after setting l p)) s.1 w')
      | inr (inr s) ↦ edges_forward setting b (p ∷ s.0) (q ∷ (after ++ p ∷ rest)) w
          (subst (λ (l : List ℕ). run setting l ≡ Some w) (whole s.0 s.1) runs) p q
          (subst (λ (l : List ℕ). EdgeBefore setting.program (sync_record setting l) (edge q (edge_in setting (b ++ p ∷ s.0) q)) (edge p (edge_in setting b p))) (whole s.0 s.1)
          (subst (λ (l : List ℕ). EdgeBefore setting.program rec (edge q (edge_in setting l q)) (edge p (edge_in setting b p))) s.1
          (subst (λ k. EdgeBefore setting.program rec (edge q i) (edge p k)) (sym same_edge) (write_before not_own))))
    ]
      where
        whole : (m : List ℕ) → before ≡ b ++ p ∷ m → h ≡ (b ++ p ∷ m) ++ q ∷ (after ++ p ∷ rest)
        whole m eq = append_assoc before (q ∷ after) (p ∷ rest) ∙ ap (λ (l : List ℕ). l ++ q ∷ (after ++ p ∷ rest)) eq

  -- the last write, by the law of tags
  written : (g : List ℕ) (x : IsTagged setting.program setting.plan c (begins setting) (told setting g) g) → IsWrittenBy setting g c
  written g x = record {
    before = x.last.before;
    process = x.last.process;
    after = x.last.after;
    schedule_is = x.last.schedule_is;
    writes = (get_or (told setting g).world.shared c (pos 0), x.last.writes);
    tag_is = x.tag_is ∙ ap (λ (k : EventId). Some k) x.last.event_is;
    unwritten = subst (λ (t : Telling). IsUnwritten setting.program setting.plan c t x.last.after) (sym (told-append setting x.last.before x.last.process)) x.last.unwritten;
  }

  module _ (p : ℕ) (rest : List ℕ) (w : World) where
    abbrev Answer : List ℕ → Type 0
    Answer g = IsFound setting g (g ++ p ∷ rest) p c

    found_written : (g : List ℕ) → run setting (g ++ p ∷ rest) ≡ Some w → IsCleanAt setting g (g ++ p ∷ rest) p → need_after setting g p ≡ Read c
        → (x : IsWrittenBy setting g c) → Answer g
    found_written g runs clear read x =
        elim (own_or_not x.process p (edge_in setting x.before x.process) (edge_in setting g p)) [
          | inl own ↦ inr (x, inl own)
          | inr not_own ↦ inr (
            x,
            inr (subst (λ (l : List ℕ). IsAcross setting l (l ++ p ∷ rest) p c x.process (edge_in setting x.before x.process)) (sym x.schedule_is) (record {
              before = write_before x.before x.process x.after p rest w (runs_at runs) (clear_at clear) x.writes last (read_at read) (apart_at not_own);
              greatest = greatest x.before x.process x.after p rest w (runs_at runs) (clear_at clear) x.writes last (read_at read);
              none_own = none_own x.before x.process x.after p rest w (runs_at runs) (clear_at clear) x.writes last (read_at read) (apart_at not_own);
            })),
          )
        ]
      where
        runs_at : run setting (g ++ p ∷ rest) ≡ Some w → run setting ((x.before ++ x.process ∷ x.after) ++ p ∷ rest) ≡ Some w
        runs_at r = subst (λ (l : List ℕ). run setting (l ++ p ∷ rest) ≡ Some w) x.schedule_is r

        clear_at : IsCleanAt setting g (g ++ p ∷ rest) p → IsCleanAt setting (x.before ++ x.process ∷ x.after) ((x.before ++ x.process ∷ x.after) ++ p ∷ rest) p
        clear_at r = subst (λ (l : List ℕ). IsCleanAt setting l (l ++ p ∷ rest) p) x.schedule_is r

        read_at : need_after setting g p ≡ Read c → need_after setting (x.before ++ x.process ∷ x.after) p ≡ Read c
        read_at r = subst (λ (l : List ℕ). need_after setting l p ≡ Read c) x.schedule_is r

        apart_at : (x.process ≡ p → edge_in setting x.before x.process ≡ edge_in setting g p → ⊥) → x.process ≡ p → edge_in setting x.before x.process ≡ edge_in setting (x.before ++ x.process ∷ x.after) p → ⊥
        apart_at d = subst (λ (l : List ℕ). x.process ≡ p → edge_in setting x.before x.process ≡ edge_in setting l p → ⊥) x.schedule_is d

        last : IsUnwritten setting.program setting.plan c (tell setting.program setting.plan (told setting x.before) x.process) x.after
        last = subst (λ (t : Telling). IsUnwritten setting.program setting.plan c t x.after) (told-append setting x.before x.process) x.unwritten

    from_start : (g : List ℕ) → run setting (g ++ p ∷ rest) ≡ Some w → need_after setting g p ≡ Read c
        → IsAtStart setting.program setting.plan c (begins setting) (told setting g) g → IsFromStart setting g (g ++ p ∷ rest) p c
    from_start g runs read s = record {
      tag_is = s.tag_is ∙ no_tags (started_world setting).shared c;
      unwritten = s.unwritten;
      none = none;
    }
      where
        none : (q i : ℕ) → WritesIn setting (g ++ p ∷ rest) c q i → EdgeBefore setting.program (sync_record setting (g ++ p ∷ rest)) (edge q i) (edge p (edge_in setting g p)) → ⊥
        none q i x bf =
            let t = writes_step setting (g ++ p ∷ rest) q x.number x.access x.there x.writes in
            let w' : IsAccess c true (need_after setting t.before q) = subst (λ d. IsAccess d true (need_after setting t.before q)) x.cell t.writes in
            let edge_is : edge_in setting t.before q ≡ i = sym t.edge_is ∙ x.edge_is in
            elim (compare g p rest t.before q t.after t.schedule_is) [
              | inl u ↦ read_or_write c (need_after setting g p) w'.0 read (ap (λ (l : List ℕ). need_after setting l p) (sym u.0) ∙ ap (λ k. need_after setting t.before k) (sym u.1) ∙ w'.1)
              | inr (inl u) ↦
                  let all : g ++ p ∷ rest ≡ (g ++ p ∷ u.0) ++ q ∷ t.after = t.schedule_is ∙ ap (λ (l : List ℕ). l ++ q ∷ t.after) u.1 in
                  edges_forward setting g (p ∷ u.0) (q ∷ t.after) w (subst (λ (l : List ℕ). run setting l ≡ Some w) all runs) p q
                  (subst (λ (l : List ℕ). EdgeBefore setting.program (sync_record setting l) (edge q (edge_in setting (g ++ p ∷ u.0) q)) (edge p (edge_in setting g p))) all
                  (subst (λ k. EdgeBefore setting.program (sync_record setting (g ++ p ∷ rest)) (edge q k) (edge p (edge_in setting g p))) (sym edge_is ∙ ap (λ (l : List ℕ). edge_in setting l q) u.1) bf))
              | inr (inr u) ↦ not_written setting c (begins setting) t.before q u.0 w'.0
                  (subst (λ (l : List ℕ). IsUnwritten setting.program setting.plan c (begins setting) l) u.1 s.unwritten) w'.1
            ]

pub clean_found : CleanReadsAreFound
clean_found setting g p rest w runs clear c small read = elim (tags setting g c small) [
  | inl s ↦ inl (from_start setting c small p rest w g runs read s)
  | inr x ↦ found_written setting c small p rest w g runs clear read (written setting c small g x)
]
