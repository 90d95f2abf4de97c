-- Where the numbers of each kind and object are those through its count, and the counts are balanced, none is missing.
use Rattle.std.proofs.Common.{◌≡◌, ℕ, zero, suc, ◌+◌, ◌<◌, ◌≤◌, max, Option, None, true, refl, ap, ◌∙◌, length, le-ltb, Some}
use Rattle.std.specs.Prelude.{nat_lt, if◌then◌else◌}
use Rattle.std.specs.List.{range_with_len}
use Rattle.ppd_ast.specs.declared.program.Program.{Program}
use Rattle.ppd_ast.specs.declared.status.SyncKind.{SyncKind}
use Rattle.ppd_ast.specs.declared.status.SyncKind.TheVariants.{P, V, Send, Recv, Done}
use Rattle.std.specs.Option.{option_or}
use Rattle.ppd_sem.specs.Tables.{capacity_of}
use Rattle.ppd_graph.specs.Refusals.{Missing, Numbered, absent, first_missing, missing_by, missing_of_places, of_kind, start_of}
use Rattle.ppd_graph.proofs.Vocabulary.{chan_misses, sem_misses}
use Rattle.law_logs.proofs.Graph.Numbers.{none_absent}

-- all numbers after the first through the greatest are there
abbrev pub AreAll : ℕ → ℕ → Numbered → Type 0
AreAll first last ns = (n : ℕ) → first < n → n ≤ last → ns.is_there n ≡ true

none_if : (kind : SyncKind) (o a b n : ℕ) → b ≤ a → of_kind kind o (if nat_lt a b then Some n else None) ≡ None
none_if kind o a b n le = ap (λ t. of_kind kind o (if t then Some n else None)) (le-ltb a b le)

none_of : (kind : SyncKind) (o first last : ℕ) (ns : Numbered) → AreAll first last ns → of_kind kind o (absent first last ns.is_there) ≡ None
none_of kind o first last ns all = ap (of_kind kind o) (none_absent first last ns.is_there all)

or_rest : (x y : Option Missing) → x ≡ None → y ≡ None → option_or x y ≡ None
or_rest x y e f = ap (λ z. option_or z y) e ∙ f

-- a semaphore is taken no more often than given
pub record IsSemWhole (start : ℕ) (taken given : Numbered) : Type 0 where
  pub all_taken : AreAll 0 taken.greatest taken
  pub all_given : AreAll start (max start given.greatest) given
  pub within : taken.greatest ≤ max start given.greatest

sem_none : (program : Program) (numbered : SyncKind → ℕ → Numbered) (o : ℕ) → IsSemWhole (start_of program o) (numbered P o) (numbered V o) → sem_misses program numbered o ≡ None
sem_none program numbered o w =
    let start : ℕ = start_of program o in
    let taken : Numbered = numbered P o in
    let given : Numbered = numbered V o in
    or_rest (of_kind P o (absent 0 taken.greatest taken.is_there)) _ (none_of P o 0 taken.greatest taken w.all_taken)
    (or_rest (of_kind V o (absent start (max start given.greatest) given.is_there)) _ (none_of V o start (max start given.greatest) given w.all_given)
    (none_if V o (max start given.greatest) taken.greatest (max start given.greatest + 1) w.within))

-- from a channel no more is received than sent, and to it no more sent than there is room for
pub record IsChanWhole (capacity : ℕ) (sent received completed : Numbered) : Type 0 where
  pub all_sent : AreAll 0 sent.greatest sent
  pub all_received : AreAll 0 received.greatest received
  pub all_completed : AreAll 0 completed.greatest completed
  pub within : received.greatest ≤ sent.greatest
  pub handed : capacity ≡ 0 → (completed.greatest ≤ received.greatest) × (sent.greatest ≤ completed.greatest + 1)
  pub placed : (c : ℕ) → capacity ≡ suc c → sent.greatest ≤ received.greatest + suc c

places_none : (c o : ℕ) (sent received completed : Numbered) → IsChanWhole c sent received completed → missing_of_places c o sent.greatest received.greatest completed ≡ None
places_none zero o sent received completed w =
    or_rest (of_kind Recv o (if nat_lt received.greatest completed.greatest then Some (received.greatest + 1) else None)) _
    (none_if Recv o received.greatest completed.greatest (received.greatest + 1) (w.handed refl).0)
    (or_rest (of_kind Done o (absent 0 completed.greatest completed.is_there)) _ (none_of Done o 0 completed.greatest completed w.all_completed)
    (none_if Done o (completed.greatest + 1) sent.greatest (completed.greatest + 1) (w.handed refl).1))
places_none (suc c) o sent received completed w = none_if Recv o (received.greatest + suc c) sent.greatest (received.greatest + 1) (w.placed c refl)

chan_none : (program : Program) (numbered : SyncKind → ℕ → Numbered) (o : ℕ) → IsChanWhole (capacity_of program o) (numbered Send o) (numbered Recv o) (numbered Done o) → chan_misses program numbered o ≡ None
chan_none program numbered o w =
    let sent : Numbered = numbered Send o in
    let received : Numbered = numbered Recv o in
    or_rest (of_kind Send o (absent 0 sent.greatest sent.is_there)) _ (none_of Send o 0 sent.greatest sent w.all_sent)
    (or_rest (of_kind Send o (if nat_lt sent.greatest received.greatest then Some (sent.greatest + 1) else None)) _ (none_if Send o sent.greatest received.greatest (sent.greatest + 1) w.within)
    (or_rest (of_kind Recv o (absent 0 received.greatest received.is_there)) _ (none_of Recv o 0 received.greatest received w.all_received)
    (places_none (capacity_of program o) o sent received (numbered Done o) w)))

none_first : (f : ℕ → Option Missing) (n a : ℕ) → ((o : ℕ) → f o ≡ None) → first_missing f (range_with_len a n) ≡ None
none_first f zero a h = refl
none_first f (suc n) a h = or_rest (f a) (first_missing f (range_with_len (a + 1) n)) (h a) (none_first f n (a + 1) h)

pub none_missing : (program : Program) (numbered : SyncKind → ℕ → Numbered) → ((o : ℕ) → IsSemWhole (start_of program o) (numbered P o) (numbered V o))
    → ((o : ℕ) → IsChanWhole (capacity_of program o) (numbered Send o) (numbered Recv o) (numbered Done o)) → missing_by program numbered ≡ None
none_missing program numbered sems chans =
    or_rest (first_missing (sem_misses program numbered) (range_with_len 0 (length program.sems))) _
    (none_first (sem_misses program numbered) (length program.sems) 0 (λ o. sem_none program numbered o (sems o)))
    (none_first (chan_misses program numbered) (length program.chans) 0 (λ o. chan_none program numbered o (chans o)))
