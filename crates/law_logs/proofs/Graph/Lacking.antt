-- Of the synchronizations of a schedule none is missing.
use Rattle.ppd_model.specs.Setting.{Setting}
use Rattle.std.proofs.Common.{◌≡◌, ℕ, zero, suc, ◌<◌, ◌≤◌, max, List, [], ◌∷◌, Some, None, true, refl, sym, subst, arith, inl, inr, length, map}
use Rattle.std.specs.Prelude.{slice_get}
use Rattle.std.proofs.lemmas.Bool.{cases_eq}
use Rattle.ppd_ast.specs.declared.program.Chan.{Chan}
use Rattle.ppd_ast.specs.declared.program.Sem.{Sem}
use Rattle.ppd_ast.specs.declared.status.SyncKind.{SyncKind}
use Rattle.ppd_ast.specs.declared.status.SyncKind.TheVariants.{P, V, Send, Recv, Done}
use Rattle.ppd_sem.specs.Tables.{capacity_of}
use Rattle.ppd_model.specs.declared.state.Channel.{Channel}
use Rattle.ppd_model.specs.declared.state.Counts.{Counts}
use Rattle.ppd_model.specs.Bounds.{IsBalanced}
use Rattle.ppd_model.specs.Numbers.{Counting, count_in, count_of, sync}
use Rattle.ppd_model.specs.Record.{sync_record}
use Rattle.ppd_model.specs.Schedule.{run, started_world}
use Rattle.ppd_model.specs.Story.{told}
use Rattle.ppd_model.specs.Synchronizations.{Sync}
use Rattle.ppd_model.specs.World.{World}
use Rattle.ppd_model.proofs.Balanced.{balanced}
use Rattle.ppd_model.proofs.Forward.{completed_below, offered_below, received_below, sem_below, sent_below}
use Rattle.ppd_model.proofs.Stories.{stories_are_of_runs}
use Rattle.ppd_graph.specs.Refusals.{Numbered, missing, numbers_of, start_of}
use Rattle.ppd_graph.proofs.Vocabulary.{greatest, numbered_in}
use Rattle.law_logs.proofs.Graph.Complete.{AreAll, IsChanWhole, IsSemWhole, none_missing}
use Rattle.law_logs.proofs.Graph.Flat.{all_rows}
use Rattle.law_logs.proofs.Graph.Numbers.{greatest_has, greatest_within, number_stands}
use Rattle.law_logs.proofs.Graph.Standing.{counted, starts_first, there, within}

count_first : {A B : Type 0} (count : B → ℕ) (f : A → B) (xs : List A) (o : ℕ) → ((x : A) → count (f x) ≡ 0) → count_in count (slice_get (map f xs) o) ≡ 0
count_first count f [] o h = refl
count_first count f (x ∷ xs) zero h = h x
count_first count f (x ∷ xs) (suc o) h = count_first count f xs o h

module _ (setting : Setting) (h : List ℕ) (w : World) (runs : run setting h ≡ Some w) where
  abbrev syncs : List (List Sync)
  syncs = sync_record setting h

  abbrev last : World
  last = (told setting h).world

  abbrev first : Counting
  first = count_of (started_world setting)

  even : IsBalanced setting.program last
  even = subst (λ v. IsBalanced setting.program v) (sym (stories_are_of_runs setting h w runs)) (balanced setting h w runs)

  abbrev top : SyncKind → ℕ → ℕ
  top kind o = greatest 0 (numbers_of kind o (all_rows syncs))

  abbrev numbered : SyncKind → ℕ → Numbered
  numbered kind o = numbered_in (all_rows syncs) kind o

  top_within : (kind : SyncKind) (o : ℕ) → top kind o ≤ count_of last kind o
  top_within kind o = greatest_within kind o (count_of last kind o) 0 (all_rows syncs) (omega arith) (λ n t. (within setting h (sync kind o n) t).1)

  has_all : (kind : SyncKind) (o n : ℕ) → first kind o < n → n ≤ count_of last kind o → (numbered kind o).is_there n ≡ true
  has_all kind o n lt le = number_stands kind o n (all_rows syncs) (there setting h kind o n lt le)

  -- the greatest is the last count, where there are any after the first count
  max_is : (kind : SyncKind) (o : ℕ) → max (first kind o) (top kind o) ≡ count_of last kind o
  max_is kind o =
      let le = top_within kind o in
      let begun = (counted setting h).begun kind o in
      elim (cases_eq (first kind o) (count_of last kind o)) [
        | inl e ↦ omega (arith, le, e)
        | inr d ↦
            let more = greatest_has 0 (count_of last kind o) (numbers_of kind o (all_rows syncs)) (has_all kind o (count_of last kind o) (omega (arith, d, begun)) (omega arith)) in
            omega (arith, le, begun, more)
      ]

  top_is : (kind : SyncKind) (o : ℕ) → first kind o ≡ 0 → top kind o ≡ count_of last kind o
  top_is kind o e = let m = max_is kind o in omega (arith, e, m)

  all_from_none : (kind : SyncKind) (o : ℕ) → first kind o ≡ 0 → AreAll 0 (top kind o) (numbered kind o)
  all_from_none kind o e n lt le = let m = top_within kind o in has_all kind o n (omega (arith, e, lt)) (omega (arith, le, m))

  none_taken : (o : ℕ) → first P o ≡ 0
  none_taken o = count_first (λ (x : Counts). x.taken) (λ (s : Sem). record { given = s.start; taken = 0 }) setting.program.sems o (λ x. refl)

  none_sent : (o : ℕ) → first Send o ≡ 0
  none_sent o = count_first (λ (x : Channel). length x.sent) (λ (c : Chan). record { capacity = c.capacity; sent = []; received = 0; completed = 0 }) setting.program.chans o (λ x. refl)

  none_received : (o : ℕ) → first Recv o ≡ 0
  none_received o = count_first (λ (x : Channel). x.received) (λ (c : Chan). record { capacity = c.capacity; sent = []; received = 0; completed = 0 }) setting.program.chans o (λ x. refl)

  none_completed : (o : ℕ) → first Done o ≡ 0
  none_completed o = count_first (λ (x : Channel). x.completed) (λ (c : Chan). record { capacity = c.capacity; sent = []; received = 0; completed = 0 }) setting.program.chans o (λ x. refl)

  sem_whole : (o : ℕ) → IsSemWhole (start_of setting.program o) (numbered P o) (numbered V o)
  sem_whole o =
      let start = starts_first setting h o in
      let given = max_is V o in
      let taken = top_is P o (none_taken o) in
      let below = sem_below setting.program.sems last.sems even.sems o in
      record {
        all_taken = all_from_none P o (none_taken o);
        all_given = λ n lt le. has_all V o n (omega (arith, start, lt)) (omega (arith, start, given, le));
        within = omega (arith, start, given, taken, below);
      }

  chan_whole : (o : ℕ) → IsChanWhole (capacity_of setting.program o) (numbered Send o) (numbered Recv o) (numbered Done o)
  chan_whole o =
      let s = top_is Send o (none_sent o) in
      let r = top_is Recv o (none_received o) in
      let d = top_is Done o (none_completed o) in
      let received = received_below setting.program.chans last.chans even.chans o in
      let completed = completed_below setting.program.chans last.chans even.chans o in
      record {
        all_sent = all_from_none Send o (none_sent o);
        all_received = all_from_none Recv o (none_received o);
        all_completed = all_from_none Done o (none_completed o);
        within = omega (arith, s, r, received);
        handed = λ e. let offered = offered_below setting.program.chans last.chans even.chans o e in (omega (arith, d, r, completed), omega (arith, s, d, offered));
        placed = λ c e. let sent = sent_below setting.program.chans last.chans even.chans o c e in omega (arith, s, r, sent);
      }

  -- in one list of all of them none is missing
  pub none_lacks : missing setting.program (all_rows syncs) ≡ None
  none_lacks = none_missing setting.program numbered sem_whole chan_whole
