-- Who can take a step in what is told can take it in the machine, and the step is the same.
use Rattle.ppd_model.specs.Setting.{Setting}
use Rattle.std.proofs.Common.{◌≡◌, ℕ, zero, suc, ◌+◌, ◌<◌, ◌≤◌, ◌↔◌, ℤ, pos, List, [], ◌∷◌, Option, Some, None, Bool, true, false, refl, ap, ap₂, sym, subst, ◌∙◌, arith, length, ltb-true, lt-ltb, true≢false, inl, inr}
use Rattle.std.specs.Prelude.{nat_lt, option_map, slice_get}
use Rattle.std.proofs.lemmas.Bool.{cases_lt}
use Rattle.std.proofs.lemmas.List.{get_or_past}
use Rattle.ppd_ast.specs.declared.program.Chan.{Chan}
use Rattle.ppd_ast.specs.declared.status.SyncKind.TheVariants.{V, Send, Recv, Done}
use Rattle.ppd_sem.proofs.TableWords.{capacity_in}
use Rattle.ppd_sem.specs.declared.proc.Answer.TheVariants.{Value}
use Rattle.ppd_sem.specs.declared.proc.Need.{Need}
use Rattle.ppd_sem.specs.declared.proc.Need.TheVariants as n
use Rattle.ppd_model.specs.declared.state.Channel.{Channel}
use Rattle.ppd_model.specs.declared.state.Counts.{Counts}
use Rattle.ppd_model.specs.declared.trace.EventId.{EventId}
use Rattle.ppd_model.specs.Story.{Telling, number_of, writer_of}
use Rattle.ppd_model.proofs.WorldWords.{can_complete, can_receive, can_send, can_take, next_value, number_after, taken_of}
use Rattle.ppd_model.specs.Numbers.{count_in, count_of}
use Rattle.ppd_model.specs.Prefixes.{Sizes, channel_capacity}
use Rattle.ppd_model.specs.World.{answer, can, room_of}
use Rattle.law_steps.proofs.Machine.Model.{Want, Read, Write, Enabled, answer_for, number_for}
use Rattle.law_steps.proofs.Instance.Wants.{Line, Tagged, blank, cell_in, declared, given, has_room, if_some, if_there, line, machine, made, number_in, sent_in, sorted, view, written}

-- the capacity of a channel that is there
abbrev capacity_at : Option Channel → Option ℕ
capacity_at o = option_map (λ (x : Channel). x.capacity) o

-- a world's channels have the capacities of its program's
same_capacity : (xs : List Channel) (cs : List Chan) (c : ℕ) → length xs ≡ length cs → channel_capacity (slice_get xs c) ≡ capacity_in (slice_get cs c) → capacity_at (slice_get xs c) ≡ option_map (λ (y : Chan). y.capacity) (slice_get cs c)
same_capacity [] [] c n e = refl
same_capacity [] (y ∷ ys) c n e = absurd (omega (arith, n))
same_capacity (x ∷ xs) [] c n e = absurd (omega (arith, n))
same_capacity (x ∷ xs) (y ∷ ys) zero n e = ap (λ (k : ℕ). Some k) e
same_capacity (x ∷ xs) (y ∷ ys) (suc c) n e = same_capacity xs ys c (omega (arith, n)) e

-- ---- who can take a step

takes : (o : Option Counts) → (can_take o ≡ true) ↔ (count_in (λ (x : Counts). x.taken) o < count_in (λ (x : Counts). x.given) o)
takes None = ((λ e. absurd (true≢false (sym e))), (λ h. absurd (omega (arith, h))))
takes (Some s) = (ltb-true s.taken s.given, lt-ltb s.taken s.given)

sends : (o : Option Channel) → (can_send o ≡ true) ↔ has_room (capacity_at o) (count_in (λ (x : Channel). length x.sent) o) (count_in (λ (x : Channel). x.received) o) (count_in (λ (x : Channel). x.completed) o)
sends None = ((λ e. absurd (true≢false (sym e))), (λ h. absurd h))
sends (Some c) = by c.capacity
  where
    by : (n : ℕ) → (nat_lt (length c.sent) (room_of n c) ≡ true) ↔ has_room (Some n) (length c.sent) c.received c.completed
    by zero = (ltb-true (length c.sent) (c.completed + 1), lt-ltb (length c.sent) (c.completed + 1))
    by (suc n) = (ltb-true (length c.sent) (c.received + suc n), lt-ltb (length c.sent) (c.received + suc n))

completes : (o : Option Channel) → (can_complete o ≡ true) ↔ (count_in (λ (x : Channel). x.completed) o < count_in (λ (x : Channel). x.received) o)
completes None = ((λ e. absurd (true≢false (sym e))), (λ h. absurd (omega (arith, h))))
completes (Some c) = (ltb-true c.completed c.received, lt-ltb c.completed c.received)

receives : (o : Option Channel) → (can_receive o ≡ true) ↔ (count_in (λ (x : Channel). x.received) o < count_in (λ (x : Channel). length x.sent) o)
receives None = ((λ e. absurd (true≢false (sym e))), (λ h. absurd (omega (arith, h))))
receives (Some c) = (ltb-true c.received (length c.sent), lt-ltb c.received (length c.sent))

-- ---- objects that are there

-- the next number of an object that is there
pub next_is : {A : Type 0} (count : A → ℕ) (xs : List A) (o : ℕ) → o < length xs → number_after count (slice_get xs o) ≡ Some (suc (count_in count (slice_get xs o)))
next_is count [] o h = absurd (omega (arith, h))
next_is count (x ∷ xs) zero h = let e : count x + 1 ≡ suc (count x) = omega arith in ap (λ (k : ℕ). Some k) e
next_is count (x ∷ xs) (suc o) h = next_is count xs o (omega (arith, h))

no_next : {A : Type 0} (count : A → ℕ) (xs : List A) (o : ℕ) → length xs ≤ o → number_after count (slice_get xs o) ≡ None
no_next count [] o h = refl
no_next count (x ∷ xs) zero h = absurd (omega (arith, h))
no_next count (x ∷ xs) (suc o) h = no_next count xs o (omega (arith, h))

-- the object of a synchronization that can be taken is there
pub can_there : {A : Type 0} (test : Option A → Bool) (xs : List A) (o : ℕ) → test None ≡ false → test (slice_get xs o) ≡ true → o < length xs
can_there test [] o none h = absurd (true≢false (sym h ∙ none))
can_there test (x ∷ xs) zero none h = omega arith
can_there test (x ∷ xs) (suc o) none h = let below : o < length xs = can_there test xs o none h in omega arith

module _ (setting : Setting) (t : Telling) (sizes : Sizes setting.program t) (e : EventId) where
  abbrev Free : Need → Type 0
  Free need = Enabled (machine setting) (view t) (sorted setting.program e need)

  free_if : (b : Bool) (w : Want Line Tagged) → Enabled (machine setting) (view t) w → Enabled (machine setting) (view t) (if_there b w)
  free_if true w h = h
  free_if false w h = tt

  -- the same capacity
  abbrev RoomAt : Option ℕ → ℕ → Type 0
  RoomAt capacity c = has_room capacity (count_of t.world Send c) (count_of t.world Recv c) (count_of t.world Done c)

  capacity_is : (c : ℕ) → capacity_at (slice_get t.world.chans c) ≡ declared setting.program c
  capacity_is c = same_capacity t.world.chans setting.program.chans c sizes.chans (sizes.capacities c)

  has_room_there : (c : ℕ) → can_send (slice_get t.world.chans c) ≡ true → RoomAt (declared setting.program c) c
  has_room_there c h = subst (λ (r : Option ℕ). RoomAt r c) (capacity_is c) ((sends (slice_get t.world.chans c)).0 h)

  has_room_back : (c : ℕ) → RoomAt (declared setting.program c) c → can_send (slice_get t.world.chans c) ≡ true
  has_room_back c h = (sends (slice_get t.world.chans c)).1 (subst (λ (r : Option ℕ). RoomAt r c) (sym (capacity_is c)) h)

  pub enabled_there : (need : Need) → can t.world need ≡ true → Free need
  enabled_there (n.Read c) h = free_if (nat_lt c (length setting.program.starts)) (Read c) tt
  enabled_there (n.Write c v) h = free_if (nat_lt c (length setting.program.starts)) (Write c (v, Some e)) tt
  enabled_there (n.P s u) h = (takes (slice_get t.world.sems s)).0 h
  enabled_there (n.V s u) h = free_if (nat_lt s (length setting.program.sems)) (line V s blank) tt
  enabled_there (n.Send c v u) h = has_room_there c h
  enabled_there (n.Offer c v) h = has_room_there c h
  enabled_there (n.Done c u) h = (completes (slice_get t.world.chans c)).0 h
  enabled_there (n.Recv c u) h = (receives (slice_get t.world.chans c)).0 h
  enabled_there n.Stopped h = absurd (true≢false (sym h))
  enabled_there need h = tt

  pub enabled_back : (need : Need) → Free need → can t.world need ≡ true
  enabled_back (n.P s u) h = (takes (slice_get t.world.sems s)).1 h
  enabled_back (n.Send c v u) h = has_room_back c h
  enabled_back (n.Offer c v) h = has_room_back c h
  enabled_back (n.Done c u) h = (completes (slice_get t.world.chans c)).1 h
  enabled_back (n.Recv c u) h = (receives (slice_get t.world.chans c)).1 h
  enabled_back n.Stopped h = absurd h
  enabled_back need h = refl

  -- ---- the same step

  abbrev answered : Need → Tagged
  answered need = answer_for (machine setting) (view t) (sorted setting.program e need)

  -- what is read is what the cell holds, and 0 where it is not there
  read_is : (c : ℕ) (b : Bool) → nat_lt c (length setting.program.starts) ≡ b → answer_for (machine setting) (view t) (if_there b (Read c)) ≡ cell_in t.world.shared t.writers c
  read_is c true is = refl
  read_is c false is =
      let out : length setting.program.starts ≤ c = elim (cases_lt c (length setting.program.starts)) [ inl lt ↦ absurd (true≢false (sym (lt-ltb c (length setting.program.starts) lt) ∙ is)) | inr ge ↦ ge ] in
      let past : length t.world.shared ≤ c = omega (arith, sizes.cells, out) in
      let past2 : length t.writers ≤ c = omega (arith, sizes.writers, out) in
      ap₂ (λ (x : ℤ) (w : Option EventId). (x, w)) (sym (get_or_past t.world.shared c (pos 0) past)) (sym (get_or_past t.writers c None past2))

  value_received : (o : Option Channel) → sent_in o (suc (count_in (λ (x : Channel). x.received) o)) ≡ next_value o
  value_received None = refl
  value_received (Some c) = refl

  answer_is : (need : Need) → answer t.world need ≡ given need (answered need)
  answer_is (n.Read c) = ap (λ (a : Tagged). Value a.0) (sym (read_is c (nat_lt c (length setting.program.starts)) refl))
  answer_is (n.Recv c u) = ap (λ (x : ℤ). Value x) (sym (value_received (slice_get t.world.chans c)))
  answer_is need = refl

  writer_is : (need : Need) → writer_of t need ≡ written need (answered need)
  writer_is (n.Read c) = ap (λ (a : Tagged). a.1) (sym (read_is c (nat_lt c (length setting.program.starts)) refl))
  writer_is need = refl

  given_number : (s : ℕ) (b : Bool) → nat_lt s (length setting.program.sems) ≡ b → number_after (λ (x : Counts). x.given) (slice_get t.world.sems s) ≡ if_some b (number_for (view t) (if_there b (line V s blank)))
  given_number s true is =
      let below : s < length setting.program.sems = ltb-true s (length setting.program.sems) is in
      next_is (λ (x : Counts). x.given) t.world.sems s (omega (arith, below, sizes.sems))
  given_number s false is =
      let out : length setting.program.sems ≤ s = elim (cases_lt s (length setting.program.sems)) [ inl lt ↦ absurd (true≢false (sym (lt-ltb s (length setting.program.sems) lt) ∙ is)) | inr ge ↦ ge ] in
      no_next (λ (x : Counts). x.given) t.world.sems s (omega (arith, out, sizes.sems))

  number_is : (need : Need) → can t.world need ≡ true → number_of t.world need ≡ number_in setting.program need (number_for (view t) (sorted setting.program e need))
  number_is (n.P s u) h = next_is (λ (x : Counts). x.taken) t.world.sems s (can_there can_take t.world.sems s refl h)
  number_is (n.V s u) h = given_number s (nat_lt s (length setting.program.sems)) refl
  number_is (n.Send c v u) h = next_is (λ (x : Channel). length x.sent) t.world.chans c (can_there can_send t.world.chans c refl h)
  number_is (n.Offer c v) h = next_is (λ (x : Channel). length x.sent) t.world.chans c (can_there can_send t.world.chans c refl h)
  number_is (n.Done c u) h = next_is (λ (x : Channel). x.completed) t.world.chans c (can_there can_complete t.world.chans c refl h)
  number_is (n.Recv c u) h = next_is (λ (x : Channel). x.received) t.world.chans c (can_there can_receive t.world.chans c refl h)
  number_is need h = refl

  pub taken_is : (need : Need) → can t.world need ≡ true → taken_of t need ≡ made setting.program need (answered need) (number_for (view t) (sorted setting.program e need))
  taken_is need h = (λ i. record { need = need; answer = answer_is need i; writer = writer_is need i; number = number_is need h i })
