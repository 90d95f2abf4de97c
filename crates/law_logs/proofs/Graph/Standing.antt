-- The synchronizations in the logs of a schedule: each has its object, and no number stands twice.
use Rattle.ppd_model.specs.Setting.{Setting}
use Rattle.std.proofs.Common.{◌≡◌, ℕ, zero, suc, ◌<◌, ◌≤◌, List, [], ◌∷◌, Some, None, true, false, refl, ap, sym, subst, ◌∙◌, arith, length, map, lt-ltb, eq-eqb}
use Rattle.std.specs.Prelude.{IsTrue, nat_eq, nat_lt, slice_get}
use Rattle.std.proofs.lemmas.Bool.{and_from, lt-leb}
use Rattle.ppd_ast.specs.declared.program.Sem.{Sem}
use Rattle.ppd_ast.specs.declared.status.SyncKind.{SyncKind}
use Rattle.ppd_ast.specs.declared.status.SyncKind.TheVariants.{P, V, Send, Recv, Done}
use Rattle.ppd_sem.specs.Tables.{capacity_of}
use Rattle.ppd_model.specs.declared.entry.Logs.{Logs}
use Rattle.ppd_model.specs.declared.graph.NodeId.{NodeId}
use Rattle.ppd_model.specs.declared.state.Channel.{Channel}
use Rattle.ppd_model.specs.declared.state.Counts.{Counts}
use Rattle.ppd_model.specs.HappenedBefore.{node, sync_at}
use Rattle.ppd_model.specs.Logs.{closed_logs}
use Rattle.ppd_model.specs.Numbers.{Counting, IsCounted, count_in, count_of, sync}
use Rattle.ppd_model.specs.Record.{sync_record}
use Rattle.ppd_model.specs.RecordedSets.{record_in}
use Rattle.ppd_model.specs.Schedule.{started_world}
use Rattle.ppd_model.specs.Story.{told}
use Rattle.ppd_model.specs.Synchronizations.{Sync}
use Rattle.ppd_model.specs.World.{World}
use Rattle.ppd_model.proofs.Numbers.{are_counted}
use Rattle.ppd_model.proofs.Prefixes.{objects_stay}
use Rattle.ppd_model.proofs.RecordedSyncs.{record_syncs}
use Rattle.ppd_graph.specs.Refusals.{has_object, is_from_start, placed, start_of, sync_placed, twice_after, without_object}
use Rattle.ppd_graph.proofs.Vocabulary.{start_in}
use Rattle.law_logs.proofs.Graph.Flat.{all_rows, EachOnce, flat, found_rows, once_rows, stands, stands_rows}
use Rattle.law_logs.proofs.Graph.Offered.{completed_at_none}
use Rattle.law_logs.proofs.Graph.Once.{none_twice, none_without}

-- ---- first counts

count_there : {A : Type 0} (count : A → ℕ) (xs : List A) (o : ℕ) → 0 < count_in count (slice_get xs o) → o < length xs
count_there count [] o lt = absurd (omega (arith, lt))
count_there count (x ∷ xs) zero lt = omega arith
count_there count (x ∷ xs) (suc o) lt = let r : o < length xs = count_there count xs o lt in omega (arith, r)

given_first : (sems : List Sem) (o : ℕ) → count_in (λ (x : Counts). x.given) (slice_get (map (λ s. record { given = s.start; taken = 0 }) sems) o) ≡ start_in (slice_get sems o)
given_first [] o = refl
given_first (s ∷ ss) zero = refl
given_first (s ∷ ss) (suc o) = given_first ss o

module _ (setting : Setting) (h : List ℕ) where
  abbrev syncs : List (List Sync)
  syncs = sync_record setting h

  abbrev logs : Logs
  logs = closed_logs setting h

  abbrev last : World
  last = (told setting h).world

  abbrev first : Counting
  first = count_of (started_world setting)

  pub counted : IsCounted first (count_of last) syncs
  counted = are_counted setting h

  pub records : record_in logs ≡ syncs
  records = (record_syncs setting h).closed

  pub all_are : map sync_placed (placed logs) ≡ all_rows syncs
  all_are = flat logs ∙ ap all_rows records

  -- ---- which synchronizations there are

  stands_at : (s : Sync) → IsTrue (stands s (all_rows syncs)) → (a : NodeId) × (sync_at syncs a ≡ Some s)
  stands_at s t = let r = found_rows s syncs t in (node r.0 r.1, r.2)

  pub within : (s : Sync) → IsTrue (stands s (all_rows syncs)) → (first s.kind s.object < s.number) × (s.number ≤ count_of last s.kind s.object)
  within s t = let r = stands_at s t in counted.numbers r.0 s r.1

  pub there : (kind : SyncKind) (o n : ℕ) → first kind o < n → n ≤ count_of last kind o → IsTrue (stands (sync kind o n) (all_rows syncs))
  there kind o n lt le = let r = counted.found kind o n lt le in stands_rows (sync kind o n) syncs r.0.process r.0.sync r.1

  -- ---- each has its object

  some_counted : (kind : SyncKind) (o n : ℕ) → IsTrue (stands (sync kind o n) (all_rows syncs)) → 0 < count_of last kind o
  some_counted kind o n t = let r = within (sync kind o n) t in let a = r.0 in let b = r.1 in omega (arith, a, b)

  object : (kind : SyncKind) (o n : ℕ) → IsTrue (stands (sync kind o n) (all_rows syncs)) → has_object setting.program kind o ≡ true
  object P o n t = let e = (objects_stay setting h).sems in let lt = count_there (λ (x : Counts). x.taken) last.sems o (some_counted P o n t) in lt-ltb o (length setting.program.sems) (omega (arith, e, lt))
  object V o n t = let e = (objects_stay setting h).sems in let lt = count_there (λ (x : Counts). x.given) last.sems o (some_counted V o n t) in lt-ltb o (length setting.program.sems) (omega (arith, e, lt))
  object Send o n t = let e = (objects_stay setting h).chans in let lt = count_there (λ (x : Channel). length x.sent) last.chans o (some_counted Send o n t) in lt-ltb o (length setting.program.chans) (omega (arith, e, lt))
  object Recv o n t = let e = (objects_stay setting h).chans in let lt = count_there (λ (x : Channel). x.received) last.chans o (some_counted Recv o n t) in lt-ltb o (length setting.program.chans) (omega (arith, e, lt))
  object Done o n t =
      let e = (objects_stay setting h).chans in
      let lt = count_there (λ (x : Channel). x.completed) last.chans o (some_counted Done o n t) in
      let r = stands_at (sync Done o n) t in
      and_from (nat_lt o (length setting.program.chans)) (nat_eq (capacity_of setting.program o) 0) (lt-ltb o (length setting.program.chans) (omega (arith, e, lt)))
      (eq-eqb (capacity_of setting.program o) 0 (completed_at_none setting h r.0 o n r.1))

  pub no_object : without_object setting.program (placed logs) ≡ None
  no_object = none_without setting.program (placed logs) (λ s t. object s.kind s.object s.number (subst (λ xs. IsTrue (stands s xs)) all_are t))

  -- ---- each number once

  pub starts_first : (o : ℕ) → first V o ≡ start_of setting.program o
  starts_first o = given_first setting.program.sems o

  later : (kind : SyncKind) (o n : ℕ) → IsTrue (stands (sync kind o n) (all_rows syncs)) → is_from_start setting.program (sync kind o n) ≡ false
  later V o n t = let lt = (within (sync V o n) t).0 in let e = starts_first o in lt-leb n (start_of setting.program o) (omega (arith, lt, e))
  later P o n t = refl
  later Send o n t = refl
  later Recv o n t = refl
  later Done o n t = refl

  each_once : EachOnce (all_rows syncs)
  each_once = once_rows syncs (λ p i q j s e f. let same = counted.once (node p i) (node q j) s e f in (ap (λ (a : NodeId). a.process) same, ap (λ (a : NodeId). a.sync) same))

  pub no_twice : twice_after setting.program [] (placed logs) ≡ None
  no_twice =
      none_twice setting.program (placed logs) (subst EachOnce (sym all_are) each_once)
      (λ s t. later s.kind s.object s.number (subst (λ xs. IsTrue (stands s xs)) all_are t))
