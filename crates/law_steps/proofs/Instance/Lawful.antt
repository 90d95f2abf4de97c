-- The machine of a program is lawful.
use Rattle.ppd_model.specs.Setting.{setting_of}
use Rattle.std.proofs.Common.{◌≡◌, ℕ, zero, suc, ◌+◌, ◌<◌, ◌≤◌, [], ◌∷◌, ◌++◌, Option, Some, None, Bool, true, false, nat_eq, refl, ap, sym, subst, ◌∙◌, arith, length, length-append, eqb-true, lt-ltb, true≢false}
use Rattle.std.specs.Prelude.{IsTrue, nat_lt, option_map, option_to_list, slice_get, filter_map}
use Rattle.std.proofs.lemmas.Bool.{and_parts}
use Rattle.ppd_ast.specs.declared.plan.Plan.{Plan}
use Rattle.ppd_ast.specs.declared.program.Chan.{Chan}
use Rattle.ppd_ast.specs.declared.program.Program.{Program}
use Rattle.ppd_ast.specs.declared.status.SyncKind.{SyncKind}
use Rattle.ppd_ast.specs.declared.status.SyncKind.TheVariants.{P, V, Send, Recv, Done}
use Rattle.ppd_sem.specs.Tables.{capacity_of}
use Rattle.ppd_sem.proofs.TableWords.{capacity_in}
use Rattle.ppd_sem.specs.declared.proc.Need.{Need}
use Rattle.ppd_sem.specs.declared.proc.Need.TheVariants as n
use Rattle.ppd_model.specs.declared.trace.EventId.{EventId}
use Rattle.ppd_model.specs.declared.tracing.Taken.{Taken}
use Rattle.ppd_model.specs.Synchronizations.{is_number, led_to, numbered, sync_of, leads_at}
use Rattle.ppd_model.specs.Numbers.{sync}
use Rattle.ppd_model.proofs.Changes.{some}
use Rattle.ppd_model.proofs.Numbers.{syncs-append}
use Rattle.law_steps.proofs.Machine.Model.{Read, Write, Sync, Lawful, tick}
use Rattle.law_steps.proofs.Instance.Sorted.{Syncs, completes, gives, offers, receives, sends, synced_need, takes}
use Rattle.law_steps.proofs.Instance.Wants.{History, Line, Tagged, blank, declared, event_after, grown, if_some, if_there, line, machine, made, need_after, ready, sorted, source_of, synced_in, want_after}

-- ---- the synchronization that a step is

module _ (program : Program) where
  pub one_more : (need : Need) (e : EventId) (a : Tagged) (k m : ℕ) → length (option_to_list (sync_of (made program need a k))) + m ≡ tick (sorted program e need) m
  one_more (n.Read c) e a k m = by (nat_lt c (length program.starts))
    where
      by : (b : Bool) → 0 + m ≡ tick (if_there b (Read c)) m
      by true = omega arith
      by false = omega arith
  one_more (n.Write c v) e a k m = by (nat_lt c (length program.starts))
    where
      by : (b : Bool) → 0 + m ≡ tick (if_there b (Write c (v, Some e))) m
      by true = omega arith
      by false = omega arith
  one_more (n.P s u) e a k m = omega arith
  one_more (n.V s u) e a k m = by (nat_lt s (length program.sems))
    where
      by : (b : Bool) → length (option_to_list (numbered (Some (V, s)) (if_some b k))) + m ≡ tick (if_there b (line V s blank)) m
      by true = omega arith
      by false = omega arith
  one_more (n.Send c v u) e a k m = omega arith
  one_more (n.Offer c v) e a k m = omega arith
  one_more (n.Done c u) e a k m = omega arith
  one_more (n.Recv c u) e a k m = omega arith
  one_more n.Stopped e a k m = omega arith
  one_more need e a k m = omega arith

  -- what it is
  sync_by : (need : Need) (l : Line) (v : Tagged) (a : Tagged) (k : ℕ) → Syncs program need l v → sync_of (made program need a k) ≡ Some (sync l.0 l.1 k)
  sync_by _ _ _ a k (takes s u) = refl
  sync_by _ _ _ a k (gives s u there) = ap (λ (b : Bool). numbered (Some (V, s)) (if_some b k)) (lt-ltb s (length program.sems) there)
  sync_by _ _ _ a k (sends c x u) = refl
  sync_by _ _ _ a k (offers c x) = refl
  sync_by _ _ _ a k (completes c u) = refl
  sync_by _ _ _ a k (receives c u) = refl

  pub sync_made : (need : Need) (e : EventId) (a : Tagged) (k : ℕ) (l : Line) (v : Tagged) → sorted program e need ≡ Sync l v → sync_of (made program need a k) ≡ Some (sync l.0 l.1 k)
  sync_made need e a k l v is = sync_by need l v a k (synced_need program need e l v is)

  -- ---- the laws

  -- a number is free where what leads to it was done: on capacity 0
  at_none : (a b : SyncKind) (o k k0 : ℕ) (c : Line → ℕ) → ready (Some zero) a o c → k ≡ suc (c (a, o)) → IsTrue (is_number (led_to zero b a k0) k) → k0 ≤ c (b, o)
  at_none P V o k k0 c r e h = let number : k0 ≡ k = eqb-true k0 k h in omega arith
  at_none Recv Send o k k0 c r e h = let number : k0 ≡ k = eqb-true k0 k h in omega arith
  at_none Done Recv o k k0 c r e h = let number : k0 ≡ k = eqb-true k0 k h in omega arith
  at_none Send Done o k k0 c r e h = let number : k0 + 1 ≡ k = eqb-true (k0 + 1) k h in omega arith
  at_none V V o k k0 c r e h = absurd (true≢false (sym h))
  at_none a b o k k0 c r e h = absurd (true≢false (sym h))

  -- and on every other
  at_some : (n : ℕ) (a b : SyncKind) (o k k0 : ℕ) (c : Line → ℕ) → ready (Some (suc n)) a o c → k ≡ suc (c (a, o)) → IsTrue (is_number (led_to (suc n) b a k0) k) → k0 ≤ c (b, o)
  at_some n P V o k k0 c r e h = let number : k0 ≡ k = eqb-true k0 k h in omega arith
  at_some n Recv Send o k k0 c r e h = let number : k0 ≡ k = eqb-true k0 k h in omega arith
  at_some n Send Recv o k k0 c r e h = let number : k0 + suc n ≡ k = eqb-true (k0 + suc n) k h in omega arith
  at_some n V V o k k0 c r e h = absurd (true≢false (sym h))
  at_some n Done Done o k k0 c r e h = absurd (true≢false (sym h))
  at_some n a b o k k0 c r e h = absurd (true≢false (sym h))

  -- a channel that is not there takes no send
  not_there : (a : SyncKind) (o : ℕ) (c : Line → ℕ) → ready None a o c → ready (Some zero) a o c
  not_there P o c r = r
  not_there V o c r = r
  not_there Send o c r = absurd r
  not_there Recv o c r = r
  not_there Done o c r = r

  pairs_by : (x : Option Chan) (a b : SyncKind) (o k k0 : ℕ) (c : Line → ℕ) → ready (option_map (λ (y : Chan). y.capacity) x) a o c → k ≡ suc (c (a, o)) → IsTrue (is_number (led_to (capacity_in x) b a k0) k) → k0 ≤ c (b, o)
  pairs_by None a b o k k0 c r e h = at_none a b o k k0 c (not_there a o c r) e h
  pairs_by (Some y) a b o k k0 c r e h = by y.capacity r h
    where
      by : (n : ℕ) → ready (Some n) a o c → IsTrue (is_number (led_to n b a k0) k) → k0 ≤ c (b, o)
      by zero r h = at_none a b o k k0 c r e h
      by (suc n) r h = at_some n a b o k k0 c r e h

  paired : (l : Line) (c : Line → ℕ) (l0 : Line) (k0 : ℕ) → ready (declared program l.1) l.0 l.1 c → IsTrue (leads_at program (Some (sync l0.0 l0.1 k0)) (Some (sync l.0 l.1 (suc (c l))))) → k0 ≤ c l0
  paired l c l0 k0 r h =
      let both = and_parts (nat_eq l0.1 l.1) (is_number (led_to (capacity_of program l0.1) l0.0 l.0 k0) (suc (c l))) h in
      let same : l0.1 ≡ l.1 = eqb-true l0.1 l.1 both.0 in
      let number : IsTrue (is_number (led_to (capacity_of program l.1) l0.0 l.0 k0) (suc (c l))) = subst (λ (o : ℕ). IsTrue (is_number (led_to (capacity_of program o) l0.0 l.0 k0) (suc (c l)))) same both.1 in
      subst (λ (o : ℕ). k0 ≤ c (l0.0, o)) (sym same) (pairs_by (slice_get program.chans l.1) l.0 l0.0 l.1 (suc (c l)) k0 c r refl number)

  from_line : (capacity : Option ℕ) (kind : SyncKind) (o : ℕ) (c : Line → ℕ) (g : Line) → ready capacity kind o c → source_of kind o ≡ Some g → c (kind, o) < c g
  from_line capacity P o c g r e = cc
  from_line capacity V o c g r e = cc
  from_line capacity Send o c g r e = cc
  from_line capacity Done o c g r e = cc
  from_line capacity Recv o c g r e = subst (λ (x : Line). c (Recv, o) < c x) (some e) r

  module _ (plan : Plan) (budget : ℕ) where
    counted : (p : ℕ) (h : History) (a : Tagged) (k : ℕ) → synced_in (grown (setting_of program plan budget) p h a k) ≡ tick (want_after (setting_of program plan budget) p h) (synced_in h)
    counted p None a k = refl
    counted p (Some xs) a k =
        let x : Taken = made program (need_after (setting_of program plan budget) p xs) a k in
        let longer : length (filter_map sync_of (xs ++ x ∷ [])) ≡ length (filter_map sync_of xs) + length (option_to_list (sync_of x)) = ap length (syncs-append xs x) ∙ length-append (filter_map sync_of xs) (option_to_list (sync_of x)) in
        let ticks : length (option_to_list (sync_of x)) + length (filter_map sync_of xs) ≡ tick (sorted program (event_after p xs) (need_after (setting_of program plan budget) p xs)) (length (filter_map sync_of xs)) =
        one_more (need_after (setting_of program plan budget) p xs) (event_after p xs) a k (length (filter_map sync_of xs)) in
        let swap : length (filter_map sync_of xs) + length (option_to_list (sync_of x)) ≡ length (option_to_list (sync_of x)) + length (filter_map sync_of xs) = omega arith in
        longer ∙ swap ∙ ticks

    pub lawful : Lawful (machine (setting_of program plan budget))
    lawful = record {
      paired = paired;
      counted = counted;
      given = λ l c g r e. from_line (declared program l.1) l.0 l.1 c g r e;
    }
