-- What the synchronizations of logs lack, by its rules.
use Rattle.std.proofs.Common.{◌≡◌, ℕ, zero, suc, ◌+◌, ◌-◌, ◌<◌, ◌≤◌, Bool, true, false, cond, Option, Some, None, unwrap_or, refl, ap, sym, ◌∙◌, subst, arith, inl, inr, length}
use Rattle.std.specs.Prelude.{find, max, nat_lt, not, if◌then◌else◌}
use Rattle.std.specs.List.{range_with_len}
use Rattle.std.proofs.lemmas.Bool.{cases_lt, lt-ltb, ltb-true}
use Rattle.ppd_ast.specs.declared.program.Program.{Program}
use Rattle.ppd_ast.specs.declared.status.SyncKind.{SyncKind}
use Rattle.ppd_ast.specs.declared.status.SyncKind.TheVariants.{P, V, Send, Recv, Done}
use Rattle.std.specs.Option.{option_or}
use Rattle.ppd_sem.specs.Tables.{capacity_of}
use Rattle.ppd_graph.specs.Refusals.{Missing, Numbered, absent, first_missing, missing_of_places, of_kind, start_of}
use Rattle.ppd_graph.proofs.Vocabulary.{chan_misses, sem_misses}
use Rattle.law_rules.specs.Missing.{AreThere, AreWhole, ChanLacks, Channel, IsGap, IsMissing, LacksNothing, MissingFollowsTheRules, SemLacks, Semaphore, completed_receive, completion, give, next_completion, next_give, next_receive, next_send, of_channel, of_semaphore, receive, send, take}

no_some : {A : Type 0} (x : A) → None ≡ Some x → ⊥
no_some x e = cc

some : {A : Type 0} (x y : A) → Some x ≡ Some y → x ≡ y
some x y e = ap (λ o. unwrap_or o x) e

at_least : (a b : ℕ) → nat_lt a b ≡ false → b ≤ a
at_least a b e =
    elim (cases_lt a b) [ inl lt ↦ let clash : true ≡ false = sym (lt-ltb a b lt) ∙ e in cc | inr le ↦ le ]

is_at_least : (a b : ℕ) → b ≤ a → nat_lt a b ≡ false
is_at_least a b le = by (nat_lt a b) refl
  where
    by : (x : Bool) → nat_lt a b ≡ x → x ≡ false
    by true e = let lt : a < b = ltb-true a b e in absurd (omega (arith, le, lt))
    by false e = refl

-- from one number on, it or those after it
from_next : {B : ℕ → Type 0} (a n : ℕ) → B a → ((m : ℕ) → a + 1 ≤ m → m < n → B m) → (m : ℕ) → a ≤ m → m < n → B m
from_next {B = B} a n here rest m le lt =
    elim (cases_lt a m) [ inl later ↦ rest m (omega (arith, later)) lt | inr back ↦ subst B (same a m le back) here ]
  where
    same : (a m : ℕ) → a ≤ m → m ≤ a → a ≡ m
    same a m x y = omega (arith, x, y)

-- ---- numbers

module _ (there : ℕ → Bool) where
  abbrev is_absent : ℕ → Bool
  is_absent n = not (there n)

  found : (k a n : ℕ) → find is_absent (range_with_len a k) ≡ Some n
      → (a ≤ n) × (n < a + k) × (there n ≡ false) × ((m : ℕ) → a ≤ m → m < n → there m ≡ true)
  found zero a n e = cc
  found (suc k) a n e = by (found k (a + 1) n) (there a) refl e
    where
      by : (find is_absent (range_with_len (a + 1) k) ≡ Some n → (a + 1 ≤ n) × (n < a + 1 + k) × (there n ≡ false) × ((m : ℕ) → a + 1 ≤ m → m < n → there m ≡ true))
          → (b : Bool) → there a ≡ b → cond (not b) (Some a) (find is_absent (range_with_len (a + 1) k)) ≡ Some n
          → (a ≤ n) × (n < a + suc k) × (there n ≡ false) × ((m : ℕ) → a ≤ m → m < n → there m ≡ true)
      by rest-of false t e =
          let same : a ≡ n = some a n e in
          (omega (arith, same), omega (arith, same), ap there (sym same) ∙ t, λ m le lt. absurd (omega (arith, same, le, lt)))
      by rest-of true t e =
          let rest = rest-of e in
          (omega (arith, rest.0), omega (arith, rest.1), rest.2, from_next {B = λ m. there m ≡ true} a n t rest.3)

  is_found : (k a n : ℕ) → a ≤ n → n < a + k → there n ≡ false → ((m : ℕ) → a ≤ m → m < n → there m ≡ true)
      → find is_absent (range_with_len a k) ≡ Some n
  is_found zero a n le lt none before = absurd (omega (arith, le, lt))
  is_found (suc k) a n le lt none before =
      elim (cases_lt a n) [
        | inl later ↦
            ap (λ b. cond (not b) (Some a) (find is_absent (range_with_len (a + 1) k))) (before a (omega arith) later)
            ∙ is_found k (a + 1) n (omega (arith, later)) (omega (arith, lt)) none (λ m x y. before m (omega (arith, x)) y)
        | inr back ↦
            let same : a ≡ n = omega (arith, le, back) in
            ap (λ b. cond (not b) (Some a) (find is_absent (range_with_len (a + 1) k))) (ap there same ∙ none) ∙ ap Some same
      ]

  nothing_found : (k a : ℕ) → ((m : ℕ) → a ≤ m → m < a + k → there m ≡ true) → find is_absent (range_with_len a k) ≡ None
  nothing_found zero a all = refl
  nothing_found (suc k) a all =
      ap (λ b. cond (not b) (Some a) (find is_absent (range_with_len (a + 1) k))) (all a (omega arith) (omega arith))
      ∙ nothing_found k (a + 1) (λ m le lt. all m (omega (arith, le)) (omega (arith, lt)))

  all_found : (k a : ℕ) → find is_absent (range_with_len a k) ≡ None → (m : ℕ) → a ≤ m → m < a + k → there m ≡ true
  all_found zero a e = λ m le lt. absurd (omega (arith, le, lt))
  all_found (suc k) a e = by (all_found k (a + 1)) (there a) refl e
    where
      by : (find is_absent (range_with_len (a + 1) k) ≡ None → (m : ℕ) → a + 1 ≤ m → m < a + 1 + k → there m ≡ true)
          → (b : Bool) → there a ≡ b → cond (not b) (Some a) (find is_absent (range_with_len (a + 1) k)) ≡ None
          → (m : ℕ) → a ≤ m → m < a + suc k → there m ≡ true
      by rest false t e m le lt = cc
      by rest true t e m le lt =
          from_next {B = λ m. there m ≡ true} a (a + suc k) t (λ o x y. rest e o x (omega (arith, y))) m le lt

  gap_of : (first last n : ℕ) → absent first last there ≡ Some n → IsGap there first last n
  gap_of first last n e =
      let f = found (last - first) (first + 1) n e in
      record {
        above = omega (arith, f.0);
        through = omega (arith, f.0, f.1);
        absent = f.2;
        least = λ m x y. f.3 m (omega (arith, x)) y;
      }

  is_gap : (first last n : ℕ) → IsGap there first last n → absent first last there ≡ Some n
  is_gap first last n g =
      let above : first < n = g.above in
      let through : n ≤ last = g.through in
      is_found (last - first) (first + 1) n (omega (arith, above)) (omega (arith, above, through)) g.absent
      (λ m x y. g.least m (omega (arith, x)) y)

  all_of : (first last : ℕ) → absent first last there ≡ None → AreThere there first last
  all_of first last e n x y = all_found (last - first) (first + 1) e n (omega (arith, x)) (omega (arith, x, y))

  is_all : (first last : ℕ) → AreThere there first last → absent first last there ≡ None
  is_all first last all = nothing_found (last - first) (first + 1) (λ m x y. all m (omega (arith, x)) (omega (arith, x, y)))

-- ---- what is missing of an object, by a function, and what it lacks, by rules

-- the function answers just what is lacking, of this object
pub record Agrees (o : ℕ) (f : Option Missing) (Lacks : SyncKind → ℕ → Type 0) : Type 0 where
  pub lacks : (x : Missing) → f ≡ Some x → (x.1 ≡ o) × Lacks x.0 x.2
  pub is : (kind : SyncKind) (n : ℕ) → Lacks kind n → f ≡ Some (kind, o, n)

nothing : {o : ℕ} {f : Option Missing} {Lacks : SyncKind → ℕ → Type 0} → Agrees o f Lacks → f ≡ None → LacksNothing Lacks
nothing agrees e kind n lacks = no_some (kind, _, n) (sym e ∙ agrees.is kind n lacks)

is_nothing : (o : ℕ) (f : Option Missing) (Lacks : SyncKind → ℕ → Type 0) → Agrees o f Lacks → LacksNothing Lacks → f ≡ None
is_nothing o None Lacks agrees none = refl
is_nothing o (Some x) Lacks agrees none = absurd (none x.0 x.2 (agrees.lacks x refl).1)

-- an answer is of this object, if what it says is lacking
module _ (o : ℕ) (Lacks : SyncKind → ℕ → Type 0) where
  abbrev Says : Missing → Type 0
  Says x = (x.1 ≡ o) × Lacks x.0 x.2

  says : (kind : SyncKind) (n : ℕ) (x : Missing) → Some (kind, o, n) ≡ Some x → Lacks kind n → Says x
  says kind n x e lacks = subst Says (some (kind, o, n) x e) (refl, lacks)

  -- where there is a next number of this kind, it is lacking
  says_next : (kind : SyncKind) (n a b : ℕ) (x : Missing) → of_kind kind o (if nat_lt a b then Some n else None) ≡ Some x → (a < b → Lacks kind n) → Says x
  says_next kind n a b x e lacks = by (nat_lt a b) refl e
    where
      by : (t : Bool) → nat_lt a b ≡ t → of_kind kind o (if t then Some n else None) ≡ Some x → Says x
      by true t e = says kind n x e (lacks (ltb-true a b t))
      by false t e = absurd (no_some x e)

is_next : (kind : SyncKind) (o n a b : ℕ) → a < b → of_kind kind o (if nat_lt a b then Some n else None) ≡ Some (kind, o, n)
is_next kind o n a b lt = ap (λ t. of_kind kind o (if t then Some n else None)) (lt-ltb a b lt)

no_next : (kind : SyncKind) (o n a b : ℕ) → b ≤ a → of_kind kind o (if nat_lt a b then Some n else None) ≡ None
no_next kind o n a b le = ap (λ t. of_kind kind o (if t then Some n else None)) (is_at_least a b le)

module _ (program : Program) (numbered : SyncKind → ℕ → Numbered) (o : ℕ) where
  abbrev start : ℕ
  start = start_of program o

  abbrev taken : Numbered
  taken = numbered P o

  abbrev given : Numbered
  given = numbered V o

  abbrev b : ℕ
  b = max start given.greatest

  abbrev Sem : SyncKind → ℕ → Type 0
  Sem = SemLacks start taken given

  abbrev takes : Option ℕ
  takes = absent 0 taken.greatest taken.is_there

  abbrev gives : Option ℕ
  gives = absent start b given.is_there

  abbrev last_give : Option Missing
  last_give = of_kind V o (if nat_lt b taken.greatest then Some (b + 1) else None)

  sem_lacks : (x : Missing) → sem_misses program numbered o ≡ Some x → Says o Sem x
  sem_lacks x e = by takes refl e
    where
      by_gives : (g : Option ℕ) → gives ≡ g → takes ≡ None → option_or (of_kind V o g) last_give ≡ Some x → Says o Sem x
      by_gives (Some n) is none e =
          says o Sem V n x e (give n (all_of taken.is_there 0 taken.greatest none) (gap_of given.is_there start b n is))
      by_gives None is none e =
          says_next o Sem V (b + 1) b taken.greatest x e
          (λ lt. next_give (all_of taken.is_there 0 taken.greatest none) (all_of given.is_there start b is) lt)

      by : (t : Option ℕ) → takes ≡ t → option_or (of_kind P o t) (option_or (of_kind V o gives) last_give) ≡ Some x → Says o Sem x
      by (Some n) is e = says o Sem P n x e (take n (gap_of taken.is_there 0 taken.greatest n is))
      by None is e = by_gives gives refl is e

  after_takes : AreThere taken.is_there 0 taken.greatest → sem_misses program numbered o ≡ option_or (of_kind V o gives) last_give
  after_takes all =
      ap (λ t. option_or (of_kind P o t) (option_or (of_kind V o gives) last_give)) (is_all taken.is_there 0 taken.greatest all)

  sem_is : (kind : SyncKind) (n : ℕ) → Sem kind n → sem_misses program numbered o ≡ Some (kind, o, n)
  sem_is kind n (take m gap) =
      ap (λ t. option_or (of_kind P o t) (option_or (of_kind V o gives) last_give)) (is_gap taken.is_there 0 taken.greatest m gap)
  sem_is kind n (give m all gap) =
      after_takes all ∙ ap (λ g. option_or (of_kind V o g) last_give) (is_gap given.is_there start b m gap)
  sem_is kind n (next_give all others lt) =
      after_takes all
      ∙ ap (λ g. option_or (of_kind V o g) last_give) (is_all given.is_there start b others)
      ∙ is_next V o (b + 1) b taken.greatest lt

  pub sem_agrees : Agrees o (sem_misses program numbered o) Sem
  sem_agrees = record { lacks = sem_lacks; is = sem_is }

module _ (program : Program) (numbered : SyncKind → ℕ → Numbered) (o : ℕ) where
  abbrev sent : Numbered
  sent = numbered Send o

  abbrev received : Numbered
  received = numbered Recv o

  abbrev completed : Numbered
  completed = numbered Done o

  abbrev s : ℕ
  s = sent.greatest

  abbrev r : ℕ
  r = received.greatest

  abbrev d : ℕ
  d = completed.greatest

  abbrev Chan : ℕ → SyncKind → ℕ → Type 0
  Chan capacity = ChanLacks capacity sent received completed

  abbrev sends : Option ℕ
  sends = absent 0 s sent.is_there

  abbrev receives : Option ℕ
  receives = absent 0 r received.is_there

  abbrev completions : Option ℕ
  completions = absent 0 d completed.is_there

  abbrev last_completion : Option Missing
  last_completion = of_kind Done o (if nat_lt (d + 1) s then Some (d + 1) else None)

  -- ---- without places, and with some

  handover_lacks : AreWhole sent received → (x : Missing) → missing_of_places 0 o s r completed ≡ Some x → Says o (Chan 0) x
  handover_lacks whole x e = by (nat_lt r d) refl e
    where
      by_completions : (c : Option ℕ) → completions ≡ c → d ≤ r → option_or (of_kind Done o c) last_completion ≡ Some x → Says o (Chan 0) x
      by_completions (Some n) is le e = says o (Chan 0) Done n x e (completion n whole refl le (gap_of completed.is_there 0 d n is))
      by_completions None is le e =
          says_next o (Chan 0) Done (d + 1) (d + 1) s x e
          (λ lt. next_completion whole refl le (all_of completed.is_there 0 d is) lt)

      by : (t : Bool) → nat_lt r d ≡ t → option_or (of_kind Recv o (if t then Some (r + 1) else None)) (option_or (of_kind Done o completions) last_completion) ≡ Some x
          → Says o (Chan 0) x
      by true t e = says o (Chan 0) Recv (r + 1) x e (completed_receive whole refl (ltb-true r d t))
      by false t e = by_completions completions refl (at_least r d t) e

  places_lack : (capacity : ℕ) → AreWhole sent received → (x : Missing) → missing_of_places capacity o s r completed ≡ Some x → Says o (Chan capacity) x
  places_lack zero whole x e = handover_lacks whole x e
  places_lack (suc c) whole x e =
      says_next o (Chan (suc c)) Recv (r + 1) (r + suc c) s x e (λ lt. next_receive c whole refl lt)

  after_completed : d ≤ r → missing_of_places 0 o s r completed ≡ option_or (of_kind Done o completions) last_completion
  after_completed le =
      ap (λ f. option_or f (option_or (of_kind Done o completions) last_completion)) (no_next Recv o (r + 1) r d le)

  -- ---- all of a channel

  module _ where
    abbrev capacity : ℕ
    capacity = capacity_of program o

    abbrev places : Option Missing
    places = missing_of_places capacity o s r completed

    abbrev next : Option Missing
    next = of_kind Send o (if nat_lt s r then Some (s + 1) else None)

    chan_lacks : (x : Missing) → chan_misses program numbered o ≡ Some x → Says o (Chan capacity) x
    chan_lacks x e = by sends refl e
      where
        by_receives : (t : Option ℕ) → receives ≡ t → sends ≡ None → r ≤ s → option_or (of_kind Recv o t) places ≡ Some x → Says o (Chan capacity) x
        by_receives (Some n) is none le e =
            says o (Chan capacity) Recv n x e (receive n (all_of sent.is_there 0 s none) le (gap_of received.is_there 0 r n is))
        by_receives None is none le e =
            places_lack capacity
            (record { sent_all = all_of sent.is_there 0 s none; sent_first = le; received_all = all_of received.is_there 0 r is }) x e

        by_next : (t : Bool) → nat_lt s r ≡ t → sends ≡ None
            → option_or (of_kind Send o (if t then Some (s + 1) else None)) (option_or (of_kind Recv o receives) places) ≡ Some x → Says o (Chan capacity) x
        by_next true t none e =
            says o (Chan capacity) Send (s + 1) x e (next_send (all_of sent.is_there 0 s none) (ltb-true s r t))
        by_next false t none e = by_receives receives refl none (at_least s r t) e

        by : (t : Option ℕ) → sends ≡ t → option_or (of_kind Send o t) (option_or next (option_or (of_kind Recv o receives) places)) ≡ Some x
            → Says o (Chan capacity) x
        by (Some n) is e = says o (Chan capacity) Send n x e (send n (gap_of sent.is_there 0 s n is))
        by None is e = by_next (nat_lt s r) refl is e

    after_sends : AreThere sent.is_there 0 s → chan_misses program numbered o ≡ option_or next (option_or (of_kind Recv o receives) places)
    after_sends all =
        ap (λ t. option_or (of_kind Send o t) (option_or next (option_or (of_kind Recv o receives) places))) (is_all sent.is_there 0 s all)

    after_next : AreThere sent.is_there 0 s → r ≤ s → chan_misses program numbered o ≡ option_or (of_kind Recv o receives) places
    after_next all le =
        after_sends all ∙ ap (λ f. option_or f (option_or (of_kind Recv o receives) places)) (no_next Send o (s + 1) s r le)

    after_receives : AreWhole sent received → chan_misses program numbered o ≡ places
    after_receives whole =
        after_next whole.sent_all whole.sent_first
        ∙ ap (λ t. option_or (of_kind Recv o t) places) (is_all received.is_there 0 r whole.received_all)

    at_handover : capacity ≡ 0 → places ≡ missing_of_places 0 o s r completed
    at_handover none = ap (λ c. missing_of_places c o s r completed) none

    chan_is : (kind : SyncKind) (n : ℕ) → Chan capacity kind n → chan_misses program numbered o ≡ Some (kind, o, n)
    chan_is kind n (send m gap) =
        ap (λ t. option_or (of_kind Send o t) (option_or next (option_or (of_kind Recv o receives) places))) (is_gap sent.is_there 0 s m gap)
    chan_is kind n (next_send all lt) =
        after_sends all ∙ ap (λ f. option_or f (option_or (of_kind Recv o receives) places)) (is_next Send o (s + 1) s r lt)
    chan_is kind n (receive m all le gap) =
        after_next all le ∙ ap (λ t. option_or (of_kind Recv o t) places) (is_gap received.is_there 0 r m gap)
    chan_is kind n (next_receive c whole is lt) =
        after_receives whole
        ∙ ap (λ c. missing_of_places c o s r completed) is
        ∙ is_next Recv o (r + 1) (r + suc c) s lt
    chan_is kind n (completed_receive whole none lt) =
        after_receives whole ∙ at_handover none
        ∙ ap (λ f. option_or f (option_or (of_kind Done o completions) last_completion)) (is_next Recv o (r + 1) r d lt)
    chan_is kind n (completion m whole none le gap) =
        after_receives whole ∙ at_handover none ∙ after_completed le
        ∙ ap (λ t. option_or (of_kind Done o t) last_completion) (is_gap completed.is_there 0 d m gap)
    chan_is kind n (next_completion whole none le all lt) =
        after_receives whole ∙ at_handover none ∙ after_completed le
        ∙ ap (λ t. option_or (of_kind Done o t) last_completion) (is_all completed.is_there 0 d all)
        ∙ is_next Done o (d + 1) (d + 1) s lt

    pub chan_agrees : Agrees o (chan_misses program numbered o) (Chan capacity)
    chan_agrees = record { lacks = chan_lacks; is = chan_is }

-- ---- the first object

-- the first of the objects from a on
record First (f : ℕ → Option Missing) (a k : ℕ) (x : Missing) : Type 0 where
  pub object : ℕ
  pub above : a ≤ object
  pub within : object < a + k
  pub is : f object ≡ Some x
  pub before : (m : ℕ) → a ≤ m → m < object → f m ≡ None

module _ (f : ℕ → Option Missing) where
  first_from : (k a : ℕ) (x : Missing) → first_missing f (range_with_len a k) ≡ Some x → First f a k x
  first_from zero a x e = absurd (no_some x e)
  first_from (suc k) a x e = by (first_from k (a + 1) x) (f a) refl e
    where
      by : (first_missing f (range_with_len (a + 1) k) ≡ Some x → First f (a + 1) k x)
          → (o : Option Missing) → f a ≡ o → option_or o (first_missing f (range_with_len (a + 1) k)) ≡ Some x → First f a (suc k) x
      by later (Some y) is e =
          record { object = a; above = omega arith; within = omega arith; is = is ∙ e; before = λ m le lt. absurd (omega (arith, le, lt)) }
      by later None is e =
          let rest = later e in
          let above : a + 1 ≤ rest.object = rest.above in
          let within : rest.object < a + 1 + k = rest.within in
          record {
            object = rest.object;
            above = omega (arith, above);
            within = omega (arith, within);
            is = rest.is;
            before = from_next {B = λ m. f m ≡ None} a rest.object is rest.before;
          }

  is_first : (k a o : ℕ) (x : Missing) → a ≤ o → o < a + k → f o ≡ Some x → ((m : ℕ) → a ≤ m → m < o → f m ≡ None)
      → first_missing f (range_with_len a k) ≡ Some x
  is_first zero a o x le lt is before = absurd (omega (arith, le, lt))
  is_first (suc k) a o x le lt is before =
      elim (cases_lt a o) [
        | inl later ↦
            ap (λ y. option_or y (first_missing f (range_with_len (a + 1) k))) (before a (omega arith) later)
            ∙ is_first k (a + 1) o x (omega (arith, later)) (omega (arith, lt)) is (λ m y z. before m (omega (arith, y)) z)
        | inr back ↦
            let same : a ≡ o = omega (arith, le, back) in
            ap (λ y. option_or y (first_missing f (range_with_len (a + 1) k))) (ap f same ∙ is)
      ]

  no_first : (k a : ℕ) → ((m : ℕ) → a ≤ m → m < a + k → f m ≡ None) → first_missing f (range_with_len a k) ≡ None
  no_first zero a none = refl
  no_first (suc k) a none =
      ap (λ y. option_or y (first_missing f (range_with_len (a + 1) k))) (none a (omega arith) (omega arith))
      ∙ no_first k (a + 1) (λ m le lt. none m (omega (arith, le)) (omega (arith, lt)))

  none_first : (k a : ℕ) → first_missing f (range_with_len a k) ≡ None → (m : ℕ) → a ≤ m → m < a + k → f m ≡ None
  none_first zero a e = λ m le lt. absurd (omega (arith, le, lt))
  none_first (suc k) a e = by (none_first k (a + 1)) (f a) refl e
    where
      by : (first_missing f (range_with_len (a + 1) k) ≡ None → (m : ℕ) → a + 1 ≤ m → m < a + 1 + k → f m ≡ None)
          → (o : Option Missing) → f a ≡ o → option_or o (first_missing f (range_with_len (a + 1) k)) ≡ None
          → (m : ℕ) → a ≤ m → m < a + suc k → f m ≡ None
      by rest (Some y) is e m le lt = absurd (no_some y (sym e))
      by rest None is e m le lt =
          from_next {B = λ m. f m ≡ None} a (a + suc k) is (λ o x y. rest e o x (omega (arith, y))) m le lt

-- ---- all objects

module _ (program : Program) (numbered : SyncKind → ℕ → Numbered) where
  abbrev of_sem : ℕ → Option Missing
  of_sem = sem_misses program numbered

  abbrev of_chan : ℕ → Option Missing
  of_chan = chan_misses program numbered

  abbrev sems : Option Missing
  sems = first_missing of_sem (range_with_len 0 (length program.sems))

  abbrev chans : Option Missing
  chans = first_missing of_chan (range_with_len 0 (length program.chans))

  sem_at : (o : ℕ) → Agrees o (of_sem o) (Semaphore program numbered o)
  sem_at o = sem_agrees program numbered o

  chan_at : (o : ℕ) → Agrees o (of_chan o) (Channel program numbered o)
  chan_at o = chan_agrees program numbered o

  abbrev Rule : Missing → Type 0
  Rule x = IsMissing program numbered x.0 x.1 x.2

  by_sem : (x : Missing) → sems ≡ Some x → Rule x
  by_sem x e =
      let f = first_from of_sem (length program.sems) 0 x e in
      let within : f.object < 0 + length program.sems = f.within in
      let said = (sem_at f.object).lacks x f.is in
      subst (λ o. IsMissing program numbered x.0 o x.2) (sym said.0)
      (of_semaphore x.0 f.object x.2 (omega (arith, within))
      (λ m lt. nothing (sem_at m) (f.before m (omega arith) lt)) said.1)

  by_chan : (x : Missing) → sems ≡ None → chans ≡ Some x → Rule x
  by_chan x none e =
      let f = first_from of_chan (length program.chans) 0 x e in
      let within : f.object < 0 + length program.chans = f.within in
      let said = (chan_at f.object).lacks x f.is in
      subst (λ o. IsMissing program numbered x.0 o x.2) (sym said.0)
      (of_channel x.0 f.object x.2 (λ m lt. nothing (sem_at m) (none_first of_sem (length program.sems) 0 none m (omega arith) (omega (arith, lt))))
      (omega (arith, within)) (λ m lt. nothing (chan_at m) (f.before m (omega arith) lt)) said.1)

  by_rule : (x : Missing) → option_or sems chans ≡ Some x → Rule x
  by_rule x e = by sems refl e
    where
      by : (o : Option Missing) → sems ≡ o → option_or o chans ≡ Some x → Rule x
      by (Some y) is e = by_sem x (is ∙ e)
      by None is e = by_chan x is e

  sem_none : (m : ℕ) → LacksNothing (Semaphore program numbered m) → of_sem m ≡ None
  sem_none m none = is_nothing m (of_sem m) (Semaphore program numbered m) (sem_at m) none

  chan_none : (m : ℕ) → LacksNothing (Channel program numbered m) → of_chan m ≡ None
  chan_none m none = is_nothing m (of_chan m) (Channel program numbered m) (chan_at m) none

  is_missing : (kind : SyncKind) (o n : ℕ) → IsMissing program numbered kind o n → option_or sems chans ≡ Some (kind, o, n)
  is_missing kind o n (of_semaphore k i m within before lacks) =
      ap (λ y. option_or y chans)
      (is_first of_sem (length program.sems) 0 o (kind, o, n) (omega arith) (omega (arith, within)) ((sem_at o).is kind n lacks)
      (λ j x lt. sem_none j (before j lt)))
  is_missing kind o n (of_channel k i m none within before lacks) =
      ap (λ y. option_or y chans) (no_first of_sem (length program.sems) 0 (λ j x lt. sem_none j (none j (omega (arith, lt)))))
      ∙ is_first of_chan (length program.chans) 0 o (kind, o, n) (omega arith) (omega (arith, within)) ((chan_at o).is kind n lacks)
      (λ j x lt. chan_none j (before j lt))

pub missing_follows : MissingFollowsTheRules
missing_follows program numbered kind o n =
    (is_missing program numbered kind o n, by_rule program numbered (kind, o, n))
