-- A table after one more item: what it says of the places before stays, and of the place after the item it says what
-- the definitions say.
use Rattle.std.proofs.Common.{◌≡◌, ℕ, ◌+◌, ◌<◌, ◌≤◌, Bool, true, false, cond, ◌&&◌, eqb, List, [], ◌∷◌, ◌++◌, map, reverse, Option, Some, None, refl, ap, sym, ◌∙◌, arith, le_refl, le_of_lt, zero-le, true≢false, eqb-true}
use Rattle.std.specs.Prelude.{ℤ, IfSome, option_map}
use Rattle.std.proofs.lemmas.List.{map-append, reverse-append}
use Rattle.ppd_ast.specs.declared.plan.BlockKind.{BlockKind}
use Rattle.ppd_ast.specs.declared.plan.BlockKind.TheVariants as block
use Rattle.ppd_ast.specs.declared.plan.Plan.{Plan}
use Rattle.ppd_ast.specs.declared.program.Program.{Program}
use Rattle.ppd_ast.specs.Lookups.{kind_of}
use Rattle.ppd_sem.specs.declared.event.Event.{Event}
use Rattle.ppd_sem.specs.Process.{into_of}
use Rattle.ppd_model.specs.NearIntervals.{is_in}
use Rattle.ppd_model.specs.Synchronizations.{is_number}
use Rattle.ppd_graph.specs.declared.last_test.LastTest.{LastTest}
use Rattle.ppd_graph.specs.declared.leaf_call.LeafCall.{LeafCall}
use Rattle.ppd_graph.specs.declared.writer.Writer.{Writer}
use Rattle.ppd_graph.specs.declared.writer.Writer.TheVariants.{At, Fresh, Of}
use Rattle.ppd_graph.specs.Locals.{Scan, frame_in, receives, scan_interval, written_by}
use Rattle.ppd_flow_local_tables.specs.Built.{left_of, value_of}
use Rattle.ppd_flow_local_tables.specs.Rows.{AllBefore, entries_between, last_of, noted}
use Rattle.ppd_flow_local_tables.specs.Tables.{Last, after_of, from_of, last_by, last_in, since, test_in, writer_of}
use Rattle.ppd_flow_local_tables.proofs.RowLemmas.{before_more, before_push, entries_keep, entries_later, entries_past, entries_push, last_before, last_push, noted_again, noted_first}

-- ---- one more value, or none

module _ {A : Type 0} where
  pub keep_if : (t : Bool) (b p n : ℕ) (v : A) (xs : List (ℕ × A)) → p ≤ n
      → entries_between b p (cond t (xs ++ (n, v) ∷ []) xs) ≡ entries_between b p xs
  keep_if true b p n v xs l = entries_keep b p n v xs l
  keep_if false b p n v xs l = refl

  keep_unless : (t : Bool) (b p n : ℕ) (v : A) (xs : List (ℕ × A)) → p ≤ n
      → entries_between b p (cond t xs (xs ++ (n, v) ∷ [])) ≡ entries_between b p xs
  keep_unless true b p n v xs l = refl
  keep_unless false b p n v xs l = entries_keep b p n v xs l

  pub keep_noted : (t : Bool) (b p n : ℕ) (v : A) (xs : List (ℕ × A)) → p ≤ n
      → entries_between b p (cond t (noted n v xs) xs) ≡ entries_between b p xs
  keep_noted true b p n v xs l = keep_unless _ b p n v xs l
  keep_noted false b p n v xs l = refl

  pub before_if : (t : Bool) (n m : ℕ) (v : A) (xs : List (ℕ × A)) → m < n → AllBefore n xs
      → AllBefore n (cond t (xs ++ (m, v) ∷ []) xs)
  before_if true n m v xs l h = before_push n m v xs l h
  before_if false n m v xs l h = h

  before_unless : (t : Bool) (n m : ℕ) (v : A) (xs : List (ℕ × A)) → m < n → AllBefore n xs
      → AllBefore n (cond t xs (xs ++ (m, v) ∷ []))
  before_unless true n m v xs l h = h
  before_unless false n m v xs l h = before_push n m v xs l h

  pub before_noted : (t : Bool) (n m : ℕ) (v : A) (xs : List (ℕ × A)) → m < n → AllBefore n xs
      → AllBefore n (cond t (noted m v xs) xs)
  before_noted true n m v xs l h = before_unless _ n m v xs l h
  before_noted false n m v xs l h = h

-- ---- writes and loops at a place

module _ (begun : Option ℕ) where
  -- only what is between places counts
  pub last_same : (p q : ℕ) (ws vs : List (ℕ × Writer)) (ls ks : List (ℕ × ℕ))
      → ((b : ℕ) → entries_between b q vs ≡ entries_between b p ws)
      → ((b : ℕ) → entries_between b q ks ≡ entries_between b p ls)
      → last_in begun q vs ks ≡ last_in begun p ws ls
  last_same p q ws vs ls ks w l =
      let by_write : List (ℕ × Writer) → Last = λ es.
      record {
        writer = writer_of (last_of es) begun;
        loops =
            reverse (map (λ x. x.1) (entries_between (since (last_of es) begun) q ks));
      } in
      let o = last_of (entries_between (from_of begun) p ws) in
      let by_loop : List (ℕ × ℕ)
      → Last = λ es. record { writer = writer_of o begun; loops = reverse (map (λ x. x.1) es) } in
      ap by_write (w (from_of begun)) ∙ ap by_loop (l (since o begun))

  -- nothing new at item n
  pub same_now : (n : ℕ) (ws : List (ℕ × Writer)) (ls : List (ℕ × ℕ)) → AllBefore n ws → AllBefore n ls
      → last_in begun (n + 1) ws ls ≡ last_in begun n ws ls
  same_now n ws ls hw hl =
      last_same n (n + 1) ws ws ls ls (λ b. entries_later b (n + 1) n ws (omega arith) hw)
      (λ b. entries_later b (n + 1) n ls (omega arith) hl)

  -- item n writes the cell
  pub written_now : (n : ℕ) (w : Writer) (ws : List (ℕ × Writer)) (ls : List (ℕ × ℕ)) → from_of begun ≤ n
      → AllBefore n ls
      → last_in begun (n + 1) (ws ++ (n, w) ∷ []) ls ≡ record { writer = w; loops = [] }
  written_now n w ws ls from hl =
      let f = from_of begun in
      let is : last_of (entries_between f (n + 1) (ws ++ (n, w) ∷ [])) ≡ Some (n, w) =
      ap last_of (entries_push f (n + 1) n w ws from (omega arith))
      ∙ last_push (entries_between f (n + 1) ws) (n, w) in
      let by_write : Option (ℕ × Writer) → Last = λ o.
      record {
        writer = writer_of o begun;
        loops =
            reverse (map (λ x. x.1) (entries_between (since o begun) (n + 1) ls));
      } in
      let by_loop : List (ℕ × ℕ) → Last = λ es. record { writer = w; loops = reverse (map (λ x. x.1) es) } in
      ap by_write is ∙ ap by_loop (entries_past n (n + 1) n ls (le_refl n) hl)

  since_by : (n : ℕ) (ws : List (ℕ × Writer)) (o : Option (ℕ × Writer))
      → last_of (entries_between (from_of begun) n ws) ≡ o
      → from_of begun ≤ n → since o begun ≤ n
  since_by n ws None e from = from
  since_by n ws (Some w) e from = le_of_lt (last_before (from_of begun) n ws w e)

  -- item n is a loop that may have written it
  pub loop_now : (n m : ℕ) (ws : List (ℕ × Writer)) (ls : List (ℕ × ℕ)) → from_of begun ≤ n → AllBefore n ws
      → AllBefore n ls
      → last_in begun (n + 1) ws (ls ++ (n, m) ∷ [])
      ≡ record { writer = (last_in begun n ws ls).writer; loops = m ∷ (last_in begun n ws ls).loops }
  loop_now n m ws ls from hw hl =
      let o = last_of (entries_between (from_of begun) n ws) in
      let s = since o begun in
      let by_write : List (ℕ × Writer) → Last = λ es.
      record {
        writer = writer_of (last_of es) begun;
        loops =
            reverse (map (λ x. x.1) (entries_between (since (last_of es) begun) (n + 1) (ls ++ (n, m) ∷ [])));
      } in
      let by_loop : List ℕ → Last = λ es. record { writer = writer_of o begun; loops = es } in
      let f : ℕ × ℕ → ℕ = λ x. x.1 in
      let more : entries_between s (n + 1) (ls ++ (n, m) ∷ []) ≡ entries_between s n ls ++ (n, m) ∷ [] =
      entries_push s (n + 1) n m ls (since_by n ws o refl from) (omega arith)
      ∙ ap (λ es. es ++ (n, m) ∷ []) (entries_later s (n + 1) n ls (omega arith) hl) in
      let turned : reverse (map f (entries_between s (n + 1) (ls ++ (n, m) ∷ [])))
      ≡ m ∷ reverse (map f (entries_between s n ls)) =
      ap (λ es. reverse (map f es)) more
      ∙ (ap reverse (map-append f (entries_between s n ls) ((n, m) ∷ []))
      ∙ reverse-append (map f (entries_between s n ls)) (m ∷ [])) in
      ap by_write (entries_later (from_of begun) (n + 1) n ws (omega arith) hw) ∙ ap by_loop turned

-- item n begins the activation
fresh_now : (n : ℕ) (ws : List (ℕ × Writer)) (ls : List (ℕ × ℕ)) → AllBefore n ws → AllBefore n ls
    → last_in (Some n) (n + 1) ws ls ≡ record { writer = Fresh; loops = [] }
fresh_now n ws ls hw hl =
    let by_write : List (ℕ × Writer) → Last = λ es.
    record {
      writer = writer_of (last_of es) (Some n);
      loops =
          reverse (map (λ x. x.1) (entries_between (since (last_of es) (Some n)) (n + 1) ls));
    } in
    let by_loop : List (ℕ × ℕ) → Last = λ es. record { writer = Fresh; loops = reverse (map (λ x. x.1) es) } in
    ap by_write (entries_past n (n + 1) n ws (le_refl n) hw) ∙ ap by_loop (entries_past n (n + 1) n ls (le_refl n) hl)

-- ---- after an event

-- an activation began before item n
abbrev pub BeganBefore : ℕ → Option ℕ → Type 0
BeganBefore n o = IfSome o (λ i. i < n)

from_before : (n : ℕ) (o : Option ℕ) → BeganBefore n o → from_of o ≤ n
from_before n None h = zero-le
from_before n (Some i) h = le_of_lt h

from_now : (f1 b : Bool) (n : ℕ) (old : Option ℕ) → BeganBefore n old
    → from_of (cond f1 (cond b (Some n) old) None) ≤ n
from_now true true n old h = le_refl n
from_now true false n old h = from_before n old h
from_now false b n old h = zero-le

pub from_then : (f1 : Bool) (n : ℕ) (old : Option ℕ) → BeganBefore n old → from_of (cond f1 old None) ≤ n
from_then true n old h = from_before n old h
from_then false n old h = zero-le

-- the cell's writer is item n
at_next : (n : ℕ) (s : Scan) → s.next ≡ n → last_by (written_by (At s.next) s) ≡ record { writer = At n; loops = [] }
at_next n s e = ap (λ i. record { writer = At i; loops = [] }) e

module _ (n : ℕ) (old : Option ℕ) (ws : List (ℕ × Writer)) (ls : List (ℕ × ℕ)) (s : Scan)
    (was : BeganBefore n old) (hw : AllBefore n ws) (hl : AllBefore n ls) (next : s.next ≡ n) where
  abbrev now_writes : Bool → Bool → List (ℕ × Writer)
  now_writes c1 c3 = cond c3 (noted n (At n) (cond c1 (ws ++ (n, At n) ∷ []) ws)) (cond c1 (ws ++ (n, At n) ∷ []) ws)

  abbrev now_scan : Bool → Bool → Bool → Bool → Scan
  now_scan c1 b f1 c3 =
      cond c1 (written_by (At s.next) s) (cond (b && f1) (written_by Fresh s) (cond c3 (written_by (At s.next) s) s))

  abbrev IsNow : Bool → Bool → Bool → Bool → Type 0
  IsNow c1 b f1 c3 = last_in (cond f1 (cond b (Some n) old) None) (n + 1) (now_writes c1 c3) ls
      ≡ last_by (now_scan c1 b f1 c3)

  at_it : (f1 b : Bool)
      → last_in (cond f1 (cond b (Some n) old) None) (n + 1) (ws ++ (n, At n) ∷ []) ls
      ≡ record { writer = At n; loops = [] }
  at_it f1 b = written_now (cond f1 (cond b (Some n) old) None) n (At n) ws ls (from_now f1 b n old was) hl

  noted_it : (f1 b : Bool) (vs : List (ℕ × Writer)) → vs ≡ ws ++ (n, At n) ∷ []
      → last_in (cond f1 (cond b (Some n) old) None) (n + 1) vs ls ≡ last_by (written_by (At s.next) s)
  noted_it f1 b vs e =
      ap (λ us. last_in (cond f1 (cond b (Some n) old) None) (n + 1) us ls) e ∙ (at_it f1 b ∙ sym (at_next n s next))

  pub event_now : (c1 b f1 c3 : Bool) → (c3 ≡ true → f1 ≡ false) → last_in (cond f1 old None) n ws ls ≡ last_by s
      → IsNow c1 b f1 c3
  event_now true b f1 true k so = noted_it f1 b _ (noted_again n (At n) (At n) ws)
  event_now true b f1 false k so = noted_it f1 b _ refl
  event_now false true true true k so = absurd (true≢false (k refl))
  event_now false true true false k so = fresh_now n ws ls hw hl
  event_now false true false true k so = noted_it false true _ (noted_first n (At n) ws hw)
  event_now false true false false k so = same_now None n ws ls hw hl ∙ so
  event_now false false f1 true k so = noted_it f1 false _ (noted_first n (At n) ws hw)
  event_now false false true false k so = same_now old n ws ls hw hl ∙ so
  event_now false false false false k so = same_now None n ws ls hw hl ∙ so

  -- ---- after an interval

  pub value_now : (t f1 : Bool) (w : Writer) → last_in (cond f1 old None) n ws ls ≡ last_by s
      → last_in (cond f1 old None) (n + 1) (cond t (ws ++ (n, w) ∷ []) ws) ls ≡ last_by (cond t (written_by w s) s)
  value_now true f1 w so = written_now (cond f1 old None) n w ws ls (from_then f1 n old was) hl
  value_now false f1 w so = same_now (cond f1 old None) n ws ls hw hl ∙ so

  pub left_now : (t f1 : Bool) (m : ℕ) → last_in (cond f1 old None) n ws ls ≡ last_by s
      → last_in (cond f1 old None) (n + 1) ws (cond t (ls ++ (n, m) ∷ []) ls)
      ≡ last_by (cond t (record s { loops = m ∷ s.loops }) s)
  left_now true f1 m so =
      loop_now (cond f1 old None) n m ws ls (from_then f1 n old was) hw hl
      ∙ ap (λ l. record { writer = l.writer; loops = m ∷ l.loops }) so
  left_now false f1 m so = same_now (cond f1 old None) n ws ls hw hl ∙ so

  -- an interval that was left
  pub interval_now : (program : Program) (frame c m call : ℕ) (leaf : Option LeafCall) (kind : BlockKind)
      (cells : List ℕ) (values : List ℤ)
      → s.leaf ≡ leaf → s.call ≡ call → last_in (cond (eqb frame 1) old None) n ws ls ≡ last_by s → (plan : Plan)
      → last_in (cond (eqb frame 1) old None) (n + 1) (value_of program n m call kind values frame c ws)
      (left_of n m (frame_in leaf) kind cells frame c ls)
      ≡ last_by (scan_interval program plan frame c m kind cells values s)
  interval_now program frame c m call leaf (block.Loop l) cells values el ec so plan =
      left_now _ (eqb frame 1) m so
      ∙ ap (λ o. last_by (cond (eqb frame (frame_in o) && is_in c cells) (record s { loops = m ∷ s.loops }) s))
      (sym el)
  interval_now program frame c m call leaf (block.Function g) cells [] el ec so plan =
      same_now (cond (eqb frame 1) old None) n ws ls hw hl ∙ so
  interval_now program frame c m call leaf (block.Process g) cells [] el ec so plan =
      same_now (cond (eqb frame 1) old None) n ws ls hw hl ∙ so
  interval_now program frame c m call leaf (block.Function g) cells (v ∷ vs) el ec so plan =
      value_now _ (eqb frame 1) (Of m) so
      ∙ ap (λ k. last_by (cond (eqb frame 0 && is_number (into_of (kind_of program k)) c) (written_by (Of m) s) s))
      (sym ec)
  interval_now program frame c m call leaf (block.Process g) cells (v ∷ vs) el ec so plan =
      value_now _ (eqb frame 1) (Of m) so
      ∙ ap (λ k. last_by (cond (eqb frame 0 && is_number (into_of (kind_of program k)) c) (written_by (Of m) s) s))
      (sym ec)

-- ---- tests

-- nothing new at item n
pub tests_same : (begun : Option ℕ) (p q : ℕ) (us vs : List (ℕ × Bool))
    → ((b : ℕ) → entries_between b q vs ≡ entries_between b p us) → test_in begun q vs ≡ test_in begun p us
tests_same begun p q us vs e =
    ap (λ es. option_map (λ x. record { item = x.0; passed = x.1 }) (last_of es)) (e (after_of begun))

abbrev found_at : ℕ → Bool → Option LastTest
found_at n v = Some (record { item = n; passed = v })

module _ (n : ℕ) (old : Option ℕ) (us : List (ℕ × Bool)) (v : Bool) (was : BeganBefore n old) (h : AllBefore n us)
  where
    tested_now : (begun : Option ℕ) → after_of begun ≤ n
        → test_in begun (n + 1) (us ++ (n, v) ∷ []) ≡ Some (record { item = n; passed = v })
    tested_now begun l =
        let a = after_of begun in
        ap (λ es. option_map (λ x. record { item = x.0; passed = x.1 }) (last_of es))
        (entries_push a (n + 1) n v us l (omega arith))
        ∙ ap (λ o. option_map (λ x. record { item = x.0; passed = x.1 }) o)
        (last_push (entries_between a (n + 1) us) (n, v))

    after_then : (f1 : Bool) → after_of (cond f1 old None) ≤ n
    after_then true = after_before old was
      where
        after_before : (o : Option ℕ) → BeganBefore n o → after_of o ≤ n
        after_before None k = zero-le
        after_before (Some i) k = omega (arith, k)
    after_then false = zero-le

    none_now : (xs : List (ℕ × Bool)) → AllBefore (n + 1) xs → test_in (Some n) (n + 1) xs ≡ None
    none_now xs k =
        ap (λ es. option_map (λ x. record { item = x.0; passed = x.1 }) (last_of es))
        (entries_past (n + 1) (n + 1) (n + 1) xs (le_refl (n + 1)) k)

    pub still_now : (begun : Option ℕ) → test_in begun (n + 1) us ≡ test_in begun n us
    still_now begun = tests_same begun n (n + 1) us us (λ b. entries_later b (n + 1) n us (omega arith) h)

    pub test_now : (b f1 t : Bool) (k : ℕ) (found : Option LastTest) → k ≡ n → test_in (cond f1 old None) n us ≡ found
        → test_in (cond f1 (cond b (Some n) old) None) (n + 1) (cond t (us ++ (n, v) ∷ []) us)
        ≡ cond (b && f1) None (cond t (Some (record { item = k; passed = v })) found)
    test_now true true t k found e so =
        none_now _ (before_if t (n + 1) n v us (omega arith) (before_more n (n + 1) us (omega arith) h))
    test_now true false true k found e so = tested_now None zero-le ∙ ap (λ i. found_at i v) (sym e)
    test_now true false false k found e so = still_now None ∙ so
    test_now false true true k found e so = tested_now old (after_then true) ∙ ap (λ i. found_at i v) (sym e)
    test_now false true false k found e so = still_now old ∙ so
    test_now false false true k found e so = tested_now None zero-le ∙ ap (λ i. found_at i v) (sym e)
    test_now false false false k found e so = still_now None ∙ so

-- ---- an event returns to frame 0 alone

first_true : (a b : Bool) → (a && b) ≡ true → a ≡ true
first_true true b e = refl
first_true false b e = e

pub received_at_0 : (program : Program) (frame c : ℕ) (e : Event) (leaf : Option LeafCall)
    → receives program frame c e leaf ≡ true → eqb frame 1 ≡ false
received_at_0 program frame c e None h = absurd (true≢false (sym h))
received_at_0 program frame c e (Some call) h =
    let zeroth : frame ≡ 0 = eqb-true frame 0 (first_true _ _ (first_true _ _ (first_true _ _ (first_true _ _ h)))) in
    ap (λ f. eqb f 1) zeroth
