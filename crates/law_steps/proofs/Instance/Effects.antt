-- What a step does to cells and counts, in what is told and in the machine.
use Rattle.std.proofs.Common.{◌≡◌, ℕ, zero, suc, ◌+◌, ◌<◌, ◌≤◌, ◌⊎◌, ℤ, pos, List, [], ◌∷◌, ◌++◌, Option, Some, None, Bool, true, false, refl, ap, ap₂, sym, ◌∙◌, arith, length, length-append, get_or, set, lt-ltb, true≢false, inl, inr, get_or-set_same, get_or-set_other}
use Rattle.std.specs.Prelude.{nat_lt, slice_get}
use Rattle.std.proofs.lemmas.Bool.{cases_eq, cases_lt}
use Rattle.std.proofs.lemmas.List.{get_or_append_left, get_or_push}
use Rattle.ppd_ast.specs.declared.program.Program.{Program}
use Rattle.ppd_ast.specs.declared.status.SyncKind.{SyncKind}
use Rattle.ppd_ast.specs.declared.status.SyncKind.TheVariants.{P, V, Send, Recv, Done}
use Rattle.ppd_sem.specs.declared.proc.Need.{Need}
use Rattle.ppd_sem.specs.declared.proc.Need.TheVariants as n
use Rattle.ppd_model.specs.declared.state.Channel.{Channel}
use Rattle.ppd_model.specs.declared.state.Counts.{Counts}
use Rattle.ppd_model.specs.declared.trace.EventId.{EventId}
use Rattle.ppd_model.specs.Story.{Telling, next_event, writers_after}
use Rattle.ppd_model.specs.Numbers.{count_in, count_of}
use Rattle.ppd_model.specs.World.{can, change, effect, one_taken, one_given, with_value, one_received, one_completed}
use Rattle.ppd_model.proofs.WorldWords.{can_complete, can_receive, can_send, can_take}
use Rattle.ppd_model.specs.Prefixes.{Sizes}
use Rattle.ppd_model.proofs.Counting.{as_before, raised}
use Rattle.law_steps.proofs.Machine.Model.{Want, Write, Sync, Writes}
use Rattle.law_steps.proofs.Instance.Wants.{Line, Tagged, blank, cell_in, if_there, line, pay_in, sent_in, sorted}
use Rattle.law_steps.proofs.Instance.Sorted.{Puts, Syncs, completes, gives, offers, put_need, puts, receives, sends, synced_need, takes}
use Rattle.law_steps.proofs.Instance.Given.{can_there, next_is}

-- ---- one element of a list changed

-- at each object it is as before, or this one's, which is there
abbrev Raised : {A : Type 0} → (A → ℕ) → (A → A) → List A → ℕ → ℕ → Type 0
Raised count f xs o o' =
    (count_in count (slice_get (change f o xs) o') ≡ count_in count (slice_get xs o'))
    ⊎ ((o' ≡ o) × (o < length xs) × (count_in count (slice_get (change f o xs) o') ≡ suc (count_in count (slice_get xs o'))))

raised_or : {A : Type 0} (count : A → ℕ) (f : A → A) (xs : List A) (o o' : ℕ) → ((x : A) → count (f x) ≡ count x + 1) → Raised count f xs o o'
raised_or count f [] o o' up = inl refl
raised_or count f (x ∷ xs) zero zero up = let one : count (f x) ≡ count x + 1 = up x in inr (refl, omega arith, omega (arith, one))
raised_or count f (x ∷ xs) zero (suc o') up = inl refl
raised_or count f (x ∷ xs) (suc o) zero up = inl refl
raised_or count f (x ∷ xs) (suc o) (suc o') up = elim (raised_or count f xs o o' up) [
  | inl e ↦ inl e
  | inr r ↦ let below : o < length xs = r.1 in inr (ap suc r.0, omega arith, r.2)
]

-- ---- the five changes

more_sent : (v : ℤ) (x : Channel) → length (x.sent ++ v ∷ []) ≡ length x.sent + 1
more_sent v x = length-append x.sent (v ∷ [])

module _ (program : Program) (t : Telling) (sizes : Sizes program t) (e : EventId) where
  abbrev counts_after : Need → Line → ℕ
  counts_after need l = count_of (effect t.world need) l.0 l.1

  -- ---- counts

  -- a count stays, or the step is a synchronization on its line and makes it one larger
  abbrev pub Counted : Need → SyncKind → ℕ → Type 0
  Counted need kind o =
      (count_of (effect t.world need) kind o ≡ count_of t.world kind o)
      ⊎ ((v : Tagged) × (sorted program e need ≡ Sync (kind, o) v) × (count_of (effect t.world need) kind o ≡ suc (count_of t.world kind o)))

  there_is : (s : ℕ) (w : Want Line Tagged) → s < length t.world.sems → if_there (nat_lt s (length program.sems)) w ≡ w
  there_is s w h =
      let below : s < length program.sems = omega (arith, h, sizes.sems) in
      ap (λ (b : Bool). if_there b w) (lt-ltb s (length program.sems) below)

  pub counted : (need : Need) (kind : SyncKind) (o : ℕ) → Counted need kind o
  counted (n.P s u) P o = elim (raised_or (λ (x : Counts). x.taken) one_taken t.world.sems s o (λ x. refl)) [
    | inl same ↦ inl same
    | inr r ↦ inr (blank, ap (λ (k : ℕ). line P k blank) (sym r.0), r.2)
  ]
  counted (n.P s u) V o = inl (as_before (λ (x : Counts). x.given) one_taken t.world.sems s o (λ e x. refl))
  counted (n.P s u) Send o = inl refl
  counted (n.P s u) Recv o = inl refl
  counted (n.P s u) Done o = inl refl
  counted (n.V s u) P o = inl (as_before (λ (x : Counts). x.taken) one_given t.world.sems s o (λ e x. refl))
  counted (n.V s u) V o = elim (raised_or (λ (x : Counts). x.given) one_given t.world.sems s o (λ x. refl)) [
    | inl same ↦ inl same
    | inr r ↦ inr (blank, there_is s (line V s blank) r.1 ∙ ap (λ (k : ℕ). line V k blank) (sym r.0), r.2)
  ]
  counted (n.V s u) Send o = inl refl
  counted (n.V s u) Recv o = inl refl
  counted (n.V s u) Done o = inl refl
  counted (n.Send c v u) P o = inl refl
  counted (n.Send c v u) V o = inl refl
  counted (n.Send c v u) Send o = elim (raised_or (λ (x : Channel). length x.sent) (with_value v) t.world.chans c o (more_sent v)) [
    | inl same ↦ inl same
    | inr r ↦ inr ((v, None), ap (λ (k : ℕ). line Send k (v, None)) (sym r.0), r.2)
  ]
  counted (n.Send c v u) Recv o = inl (as_before (λ (x : Channel). x.received) (with_value v) t.world.chans c o (λ e x. refl))
  counted (n.Send c v u) Done o = inl (as_before (λ (x : Channel). x.completed) (with_value v) t.world.chans c o (λ e x. refl))
  counted (n.Offer c v) P o = inl refl
  counted (n.Offer c v) V o = inl refl
  counted (n.Offer c v) Send o = elim (raised_or (λ (x : Channel). length x.sent) (with_value v) t.world.chans c o (more_sent v)) [
    | inl same ↦ inl same
    | inr r ↦ inr ((v, None), ap (λ (k : ℕ). line Send k (v, None)) (sym r.0), r.2)
  ]
  counted (n.Offer c v) Recv o = inl (as_before (λ (x : Channel). x.received) (with_value v) t.world.chans c o (λ e x. refl))
  counted (n.Offer c v) Done o = inl (as_before (λ (x : Channel). x.completed) (with_value v) t.world.chans c o (λ e x. refl))
  counted (n.Recv c u) P o = inl refl
  counted (n.Recv c u) V o = inl refl
  counted (n.Recv c u) Send o = inl (as_before (λ (x : Channel). length x.sent) one_received t.world.chans c o (λ e x. refl))
  counted (n.Recv c u) Recv o = elim (raised_or (λ (x : Channel). x.received) one_received t.world.chans c o (λ x. refl)) [
    | inl same ↦ inl same
    | inr r ↦ inr (blank, ap (λ (k : ℕ). line Recv k blank) (sym r.0), r.2)
  ]
  counted (n.Recv c u) Done o = inl (as_before (λ (x : Channel). x.completed) one_received t.world.chans c o (λ e x. refl))
  counted (n.Done c u) P o = inl refl
  counted (n.Done c u) V o = inl refl
  counted (n.Done c u) Send o = inl (as_before (λ (x : Channel). length x.sent) one_completed t.world.chans c o (λ e x. refl))
  counted (n.Done c u) Recv o = inl (as_before (λ (x : Channel). x.received) one_completed t.world.chans c o (λ e x. refl))
  counted (n.Done c u) Done o = elim (raised_or (λ (x : Channel). x.completed) one_completed t.world.chans c o (λ x. refl)) [
    | inl same ↦ inl same
    | inr r ↦ inr (blank, ap (λ (k : ℕ). line Done k blank) (sym r.0), r.2)
  ]
  counted need P o = inl refl
  counted need V o = inl refl
  counted need Send o = inl refl
  counted need Recv o = inl refl
  counted need Done o = inl refl

  -- a count of an object that is there goes up
  up_one : {A : Type 0} (count : A → ℕ) (f : A → A) (xs : List A) (o : ℕ) → ((x : A) → count (f x) ≡ count x + 1) → o < length xs → count_in count (slice_get (change f o xs) o) ≡ suc (count_in count (slice_get xs o))
  up_one count f xs o up there = let one : count_in count (slice_get (change f o xs) o) ≡ count_in count (slice_get xs o) + 1 = raised count f up xs o (suc (count_in count (slice_get xs o))) (next_is count xs o there) in omega (arith, one)

  -- a count on the line of the synchronization is one larger
  count_by : (need : Need) (l : Line) (v : Tagged) → Syncs program need l v → can t.world need ≡ true → counts_after need l ≡ suc (count_of t.world l.0 l.1)
  count_by _ _ _ (takes s u) h = up_one (λ (x : Counts). x.taken) one_taken t.world.sems s (λ x. refl) (can_there can_take t.world.sems s refl h)
  count_by _ _ _ (gives s u there) h = up_one (λ (x : Counts). x.given) one_given t.world.sems s (λ x. refl) (omega (arith, there, sizes.sems))
  count_by _ _ _ (sends c v u) h = up_one (λ (x : Channel). length x.sent) (with_value v) t.world.chans c (more_sent v) (can_there can_send t.world.chans c refl h)
  count_by _ _ _ (offers c v) h = up_one (λ (x : Channel). length x.sent) (with_value v) t.world.chans c (more_sent v) (can_there can_send t.world.chans c refl h)
  count_by _ _ _ (completes c u) h = up_one (λ (x : Channel). x.completed) one_completed t.world.chans c (λ x. refl) (can_there can_complete t.world.chans c refl h)
  count_by _ _ _ (receives c u) h = up_one (λ (x : Channel). x.received) one_received t.world.chans c (λ x. refl) (can_there can_receive t.world.chans c refl h)

  pub count_new : (need : Need) → can t.world need ≡ true → (l : Line) (v : Tagged) → sorted program e need ≡ Sync l v → counts_after need l ≡ suc (count_of t.world l.0 l.1)
  count_new need h l v is = count_by need l v (synced_need program need e l v is) h

  -- ---- what lines were given

  new_sent : (v : ℤ) (xs : List Channel) (c : ℕ) → c < length xs
      → sent_in (slice_get (change (with_value v) c xs) c) (suc (count_in (λ (x : Channel). length x.sent) (slice_get xs c))) ≡ v
  new_sent v [] c h = absurd (omega (arith, h))
  new_sent v (x ∷ xs) zero h = get_or_push x.sent v (pos 0) (length x.sent) refl
  new_sent v (x ∷ xs) (suc c) h = new_sent v xs c (omega (arith, h))

  pay_by : (need : Need) (l : Line) (v : Tagged) → Syncs program need l v → can t.world need ≡ true → pay_in (effect t.world need) l.0 l.1 (suc (count_of t.world l.0 l.1)) ≡ v
  pay_by _ _ _ (takes s u) h = refl
  pay_by _ _ _ (gives s u there) h = refl
  pay_by _ _ _ (sends c v u) h = ap (λ (y : ℤ). (y, None)) (new_sent v t.world.chans c (can_there can_send t.world.chans c refl h))
  pay_by _ _ _ (offers c v) h = ap (λ (y : ℤ). (y, None)) (new_sent v t.world.chans c (can_there can_send t.world.chans c refl h))
  pay_by _ _ _ (completes c u) h = refl
  pay_by _ _ _ (receives c u) h = refl

  pub pay_new : (need : Need) → can t.world need ≡ true → (l : Line) (v : Tagged) → sorted program e need ≡ Sync l v → pay_in (effect t.world need) l.0 l.1 (suc (count_of t.world l.0 l.1)) ≡ v
  pay_new need h l v is = pay_by need l v (synced_need program need e l v is) h

  still_sent : (v : ℤ) (xs : List Channel) (c o k : ℕ) → k ≤ count_in (λ (x : Channel). length x.sent) (slice_get xs o)
      → sent_in (slice_get (change (with_value v) c xs) o) k ≡ sent_in (slice_get xs o) k
  still_sent v [] c o k low = refl
  still_sent v (x ∷ xs) zero zero zero low = refl
  still_sent v (x ∷ xs) zero zero (suc k) low = get_or_append_left x.sent (v ∷ []) (pos 0) k (omega (arith, low))
  still_sent v (x ∷ xs) zero (suc o) k low = refl
  still_sent v (x ∷ xs) (suc c) zero k low = refl
  still_sent v (x ∷ xs) (suc c) (suc o) k low = still_sent v xs c o k low

  -- a change that leaves what was sent
  sent_kept : (f : Channel → Channel) (xs : List Channel) (c o k : ℕ) → ((x : Channel) → (f x).sent ≡ x.sent) → sent_in (slice_get (change f c xs) o) k ≡ sent_in (slice_get xs o) k
  sent_kept f [] c o k same = refl
  sent_kept f (x ∷ xs) zero zero zero same = refl
  sent_kept f (x ∷ xs) zero zero (suc k) same = ap (λ (ys : List ℤ). get_or ys k (pos 0)) (same x)
  sent_kept f (x ∷ xs) zero (suc o) k same = refl
  sent_kept f (x ∷ xs) (suc c) zero k same = refl
  sent_kept f (x ∷ xs) (suc c) (suc o) k same = sent_kept f xs c o k same

  pub pay_kept : (need : Need) (kind : SyncKind) (o k : ℕ) → k ≤ count_of t.world kind o → pay_in (effect t.world need) kind o k ≡ pay_in t.world kind o k
  pay_kept need P o k low = refl
  pay_kept need V o k low = refl
  pay_kept need Recv o k low = refl
  pay_kept need Done o k low = refl
  pay_kept (n.Send c v u) Send o k low = ap (λ (x : ℤ). (x, None)) (still_sent v t.world.chans c o k low)
  pay_kept (n.Offer c v) Send o k low = ap (λ (x : ℤ). (x, None)) (still_sent v t.world.chans c o k low)
  pay_kept (n.Recv c u) Send o k low = ap (λ (x : ℤ). (x, None)) (sent_kept one_received t.world.chans c o k (λ x. refl))
  pay_kept (n.Done c u) Send o k low = ap (λ (x : ℤ). (x, None)) (sent_kept one_completed t.world.chans c o k (λ x. refl))
  pay_kept (n.P s u) Send o k low = refl
  pay_kept (n.V s u) Send o k low = refl
  pay_kept need Send o k low = refl

  -- ---- cells

  abbrev cells_after : ℕ → Need → ℕ → Tagged
  cells_after p need x = cell_in (effect t.world need).shared (writers_after t p need) x

  cell_by : (p : ℕ) → e ≡ next_event t p → (need : Need) (x : ℕ) (v : Tagged) → Puts program e need x v → cells_after p need x ≡ v
  cell_by p event _ _ _ (puts c v there) =
      let shared_is : get_or (set t.world.shared c v) c (pos 0) ≡ v = get_or-set_same t.world.shared c v (pos 0) (omega (arith, there, sizes.cells)) in
      let writer_is : get_or (set t.writers c (Some (next_event t p))) c None ≡ Some (next_event t p) = get_or-set_same t.writers c (Some (next_event t p)) None (omega (arith, there, sizes.writers)) in
      ap₂ (λ (a : ℤ) (w : Option EventId). (a, w)) shared_is (writer_is ∙ ap (λ (w : EventId). Some w) (sym event))

  pub cell_new : (p : ℕ) → e ≡ next_event t p → (need : Need) (x : ℕ) (v : Tagged) → sorted program e need ≡ Write x v → cells_after p need x ≡ v
  cell_new p event need x v is = cell_by p event need x v (put_need program need e x v is)

  pub cell_kept : (p : ℕ) (need : Need) (x : ℕ) → (Writes x (sorted program e need) → ⊥) → cells_after p need x ≡ cell_in t.world.shared t.writers x
  cell_kept p (n.Write c u) x free = elim (cases_eq x c) [
    | inl same ↦ by (nat_lt c (length program.starts)) refl (λ w. free w) same
    | inr d ↦ ap₂ (λ (a : ℤ) (w : Option EventId). (a, w)) (get_or-set_other t.world.shared c x u (pos 0) d) (get_or-set_other t.writers c x (Some (next_event t p)) None d)
  ]
    where
      past : {A : Type 0} (xs : List A) (i : ℕ) (y : A) → length xs ≤ i → set xs i y ≡ xs
      past [] i y h = refl
      past (z ∷ xs) zero y h = absurd (omega (arith, h))
      past {A} (z ∷ xs) (suc i) y h = ap (λ (ys : List A). z ∷ ys) (past xs i y (omega (arith, h)))

      by : (b : Bool) → nat_lt c (length program.starts) ≡ b → (Writes x (if_there b (Write c (u, Some e))) → ⊥) → x ≡ c → cells_after p (n.Write c u) x ≡ cell_in t.world.shared t.writers x
      by true b free same = absurd (free (sym same))
      by false b free same =
          let out : length program.starts ≤ c = elim (cases_lt c (length program.starts)) [ inl lt ↦ absurd (true≢false (sym (lt-ltb c (length program.starts) lt) ∙ b)) | inr ge ↦ ge ] in
          ap₂ (λ (ss : List ℤ) (ws : List (Option EventId)). cell_in ss ws x)
          (past t.world.shared c u (omega (arith, out, sizes.cells)))
          (past t.writers c (Some (next_event t p)) (omega (arith, out, sizes.writers)))
  cell_kept p (n.P s u) x free = refl
  cell_kept p (n.V s u) x free = refl
  cell_kept p (n.Send c v u) x free = refl
  cell_kept p (n.Offer c v) x free = refl
  cell_kept p (n.Done c u) x free = refl
  cell_kept p (n.Recv c u) x free = refl
  cell_kept p need x free = refl
