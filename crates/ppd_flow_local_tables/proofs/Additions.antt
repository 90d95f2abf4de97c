-- A table of items goes on with one more item.
use Rattle.std.proofs.Common.{◌≡◌, ℕ, ◌+◌, ◌≤◌, Bool, true, false, cond, not, ◌&&◌, eqb, List, [], ◌∷◌, ◌++◌, Option, Some, None, refl, ap, ap₂, sym, ◌∙◌, arith}
use Rattle.std.specs.Prelude.{ℤ, is_some}
use Rattle.std.specs.List.{list_any}
use Rattle.ppd_ast.specs.declared.plan.BlockKind.{BlockKind}
use Rattle.ppd_ast.specs.declared.plan.BlockKind.TheVariants as block
use Rattle.ppd_ast.specs.declared.plan.Plan.{Plan}
use Rattle.ppd_ast.specs.declared.program.Program.{Program}
use Rattle.ppd_sem.specs.Blocks.{block_kind, postlog_cells}
use Rattle.ppd_model.specs.declared.flow.Item.{Item}
use Rattle.ppd_model.specs.declared.flow.Item.TheVariants as item
use Rattle.ppd_model.specs.FullTrace.{is_passed}
use Rattle.ppd_graph.specs.declared.writer.Writer.{Writer}
use Rattle.ppd_graph.specs.declared.writer.Writer.TheVariants.{At, Fresh, Of}
use Rattle.ppd_graph.specs.Control.{Tests, test_item}
use Rattle.ppd_graph.specs.Locals.{Scan, begins_leaf, is_local, leaf_after, receives, scan_interval, scan_item, written_by}
use Rattle.ppd_flow_local_tables.specs.declared.point.Point.{Point}
use Rattle.ppd_flow_local_tables.specs.Built.{call_of, left_of, loops_of, point_of, tests_of, value_of, writes_of}
use Rattle.ppd_flow_local_tables.specs.Rows.{AllBefore, entries_between}
use Rattle.ppd_flow_local_tables.specs.Tables.{begun_in, last_by, last_in, test_in}
use Rattle.ppd_flow_local_tables.proofs.RowLemmas.{before_more}
use Rattle.ppd_flow_local_tables.proofs.Steps.{BeganBefore, before_if, before_noted, event_now, interval_now, keep_if, keep_noted, received_at_0, same_now, still_now, test_now}

-- ---- a scan, beyond the cell

module _ (program : Program) (plan : Plan) (frame c : ℕ) where
  chosen_leaf : (b : Bool) (s t : Scan) → s.leaf ≡ t.leaf → (cond b s t).leaf ≡ t.leaf
  chosen_leaf true s t e = e
  chosen_leaf false s t e = refl

  chosen_call : (b : Bool) (s t : Scan) → s.call ≡ t.call → (cond b s t).call ≡ t.call
  chosen_call true s t e = e
  chosen_call false s t e = refl

  pub leaf_of_interval : (m : ℕ) (kind : BlockKind) (cells : List ℕ) (values : List ℤ) (s : Scan)
      → (scan_interval program plan frame c m kind cells values s).leaf ≡ s.leaf
  leaf_of_interval m (block.Loop l) cells values s = chosen_leaf _ _ s refl
  leaf_of_interval m (block.Function f) cells [] s = refl
  leaf_of_interval m (block.Function f) cells (v ∷ vs) s = chosen_leaf _ _ s refl
  leaf_of_interval m (block.Process f) cells [] s = refl
  leaf_of_interval m (block.Process f) cells (v ∷ vs) s = chosen_leaf _ _ s refl

  pub call_of_interval : (m : ℕ) (kind : BlockKind) (cells : List ℕ) (values : List ℤ) (s : Scan)
      → (scan_interval program plan frame c m kind cells values s).call ≡ s.call
  call_of_interval m (block.Loop l) cells values s = chosen_call _ _ s refl
  call_of_interval m (block.Function f) cells [] s = refl
  call_of_interval m (block.Function f) cells (v ∷ vs) s = chosen_call _ _ s refl
  call_of_interval m (block.Process f) cells [] s = refl
  call_of_interval m (block.Process f) cells (v ∷ vs) s = chosen_call _ _ s refl

-- what is built says of a scan of the items so far
pub record IsScanOf (n stmt : ℕ) (x : Point) (s : Scan) : Type 0 where
  pub next : s.next ≡ n
  pub leaf : s.leaf ≡ x.leaf
  pub call : s.call ≡ stmt

module _ (program : Program) (plan : Plan) where
  pub scan_more : (f c n call : ℕ) (x : Point) (s : Scan) (i : Item) → IsScanOf n call x s
      → IsScanOf (n + 1) (call_of i call) (point_of program plan n i x) (scan_item program plan f c s i)
  scan_more f c n call x s (item.Own e) h = record {
    next = ap (λ k. k + 1) h.next;
    leaf = ap₂ (λ k o. leaf_after program plan k e o) h.next h.leaf;
    call = refl;
  }
  scan_more f c n call x s (item.Nested m b values false) h =
      record { next = ap (λ k. k + 1) h.next; leaf = h.leaf; call = h.call }
  scan_more f c n call x s (item.Nested m b values true) h = record {
    next = ap (λ k. k + 1) h.next;
    leaf = leaf_of_interval program plan f c m (block_kind plan b) (postlog_cells plan b) values s ∙ h.leaf;
    call = call_of_interval program plan f c m (block_kind plan b) (postlog_cells plan b) values s ∙ h.call;
  }

  -- ---- an activation began before

  began_later : (n : ℕ) (o : Option ℕ) → BeganBefore n o → BeganBefore (n + 1) o
  began_later n None h = h
  began_later n (Some i) h = omega (arith, h)

  began_if : (b : Bool) (n : ℕ) (o : Option ℕ) → BeganBefore n o → BeganBefore (n + 1) (cond b (Some n) o)
  began_if true n o h = omega arith
  began_if false n o h = began_later n o h

  pub began_more : (n : ℕ) (i : Item) (x : Point) → BeganBefore n x.begun
      → BeganBefore (n + 1) (point_of program plan n i x).begun
  began_more n (item.Own e) x h = began_if (begins_leaf program plan e) n x.begun h
  began_more n (item.Nested m b values closed) x h = began_later n x.begun h

  -- ---- rows

  pub tests_before : (n : ℕ) (i : Item) (f k : ℕ) (xs : List (ℕ × Bool)) → AllBefore n xs
      → AllBefore (n + 1) (tests_of n i f k xs)
  tests_before n (item.Own e) f k xs h =
      before_if _ (n + 1) n (is_passed e.value) xs (omega arith) (before_more n (n + 1) xs (omega arith) h)
  tests_before n (item.Nested m b values closed) f k xs h = before_more n (n + 1) xs (omega arith) h

  pub tests_keep : (n : ℕ) (i : Item) (f k : ℕ) (xs : List (ℕ × Bool)) (b p : ℕ) → p ≤ n
      → entries_between b p (tests_of n i f k xs) ≡ entries_between b p xs
  tests_keep n (item.Own e) f k xs b p l = keep_if _ b p n (is_passed e.value) xs l
  tests_keep n (item.Nested m d values closed) f k xs b p l = refl

  value_before : (n m call : ℕ) (kind : BlockKind) (values : List ℤ) (f k : ℕ) (xs : List (ℕ × Writer))
      → AllBefore n xs
      → AllBefore (n + 1) (value_of program n m call kind values f k xs)
  value_before n m call (block.Loop l) values f k xs h = before_more n (n + 1) xs (omega arith) h
  value_before n m call (block.Function g) [] f k xs h = before_more n (n + 1) xs (omega arith) h
  value_before n m call (block.Process g) [] f k xs h = before_more n (n + 1) xs (omega arith) h
  value_before n m call (block.Function g) (v ∷ vs) f k xs h =
      before_if _ (n + 1) n (Of m) xs (omega arith) (before_more n (n + 1) xs (omega arith) h)
  value_before n m call (block.Process g) (v ∷ vs) f k xs h =
      before_if _ (n + 1) n (Of m) xs (omega arith) (before_more n (n + 1) xs (omega arith) h)

  value_keep : (n m call : ℕ) (kind : BlockKind) (values : List ℤ) (f k : ℕ) (xs : List (ℕ × Writer)) (b p : ℕ) → p ≤ n
      → entries_between b p (value_of program n m call kind values f k xs) ≡ entries_between b p xs
  value_keep n m call (block.Loop l) values f k xs b p le = refl
  value_keep n m call (block.Function g) [] f k xs b p le = refl
  value_keep n m call (block.Process g) [] f k xs b p le = refl
  value_keep n m call (block.Function g) (v ∷ vs) f k xs b p le = keep_if _ b p n (Of m) xs le
  value_keep n m call (block.Process g) (v ∷ vs) f k xs b p le = keep_if _ b p n (Of m) xs le

  pub writes_before : (n : ℕ) (x : Point) (call : ℕ) (i : Item) (f k : ℕ) (xs : List (ℕ × Writer)) → AllBefore n xs
      → AllBefore (n + 1) (writes_of program plan n x call i f k xs)
  writes_before n x call (item.Own e) f k xs h =
      let t = list_any (λ a. is_local f k a.spot) e.writes in
      before_noted (receives program f k e x.leaf) (n + 1) n (At n) (cond t (xs ++ (n, At n) ∷ []) xs) (omega arith)
      (before_if t (n + 1) n (At n) xs (omega arith) (before_more n (n + 1) xs (omega arith) h))
  writes_before n x call (item.Nested m b values false) f k xs h = before_more n (n + 1) xs (omega arith) h
  writes_before n x call (item.Nested m b values true) f k xs h =
      value_before n m call (block_kind plan b) values f k xs h

  pub writes_keep : (n : ℕ) (x : Point) (call : ℕ) (i : Item) (f k : ℕ) (xs : List (ℕ × Writer)) (b p : ℕ) → p ≤ n
      → entries_between b p (writes_of program plan n x call i f k xs) ≡ entries_between b p xs
  writes_keep n x call (item.Own e) f k xs b p l =
      let t = list_any (λ a. is_local f k a.spot) e.writes in
      keep_noted (receives program f k e x.leaf) b p n (At n) (cond t (xs ++ (n, At n) ∷ []) xs) l
      ∙ keep_if t b p n (At n) xs l
  writes_keep n x call (item.Nested m d values false) f k xs b p l = refl
  writes_keep n x call (item.Nested m d values true) f k xs b p l =
      value_keep n m call (block_kind plan d) values f k xs b p l

  left_before : (n m frame : ℕ) (kind : BlockKind) (cells : List ℕ) (f k : ℕ) (xs : List (ℕ × ℕ)) → AllBefore n xs
      → AllBefore (n + 1) (left_of n m frame kind cells f k xs)
  left_before n m frame (block.Loop l) cells f k xs h =
      before_if _ (n + 1) n m xs (omega arith) (before_more n (n + 1) xs (omega arith) h)
  left_before n m frame (block.Function g) cells f k xs h = before_more n (n + 1) xs (omega arith) h
  left_before n m frame (block.Process g) cells f k xs h = before_more n (n + 1) xs (omega arith) h

  left_keep : (n m frame : ℕ) (kind : BlockKind) (cells : List ℕ) (f k : ℕ) (xs : List (ℕ × ℕ)) (b p : ℕ) → p ≤ n
      → entries_between b p (left_of n m frame kind cells f k xs) ≡ entries_between b p xs
  left_keep n m frame (block.Loop l) cells f k xs b p le = keep_if _ b p n m xs le
  left_keep n m frame (block.Function g) cells f k xs b p le = refl
  left_keep n m frame (block.Process g) cells f k xs b p le = refl

  pub loops_before : (n : ℕ) (x : Point) (i : Item) (f k : ℕ) (xs : List (ℕ × ℕ)) → AllBefore n xs
      → AllBefore (n + 1) (loops_of plan n x i f k xs)
  loops_before n x (item.Own e) f k xs h = before_more n (n + 1) xs (omega arith) h
  loops_before n x (item.Nested m b values false) f k xs h = before_more n (n + 1) xs (omega arith) h
  loops_before n x (item.Nested m b values true) f k xs h =
      left_before n m _ (block_kind plan b) (postlog_cells plan b) f k xs h

  pub loops_keep : (n : ℕ) (x : Point) (i : Item) (f k : ℕ) (xs : List (ℕ × ℕ)) (b p : ℕ) → p ≤ n
      → entries_between b p (loops_of plan n x i f k xs) ≡ entries_between b p xs
  loops_keep n x (item.Own e) f k xs b p l = refl
  loops_keep n x (item.Nested m d values false) f k xs b p l = refl
  loops_keep n x (item.Nested m d values true) f k xs b p l =
      left_keep n m _ (block_kind plan d) (postlog_cells plan d) f k xs b p l

  -- ---- the place after the item

  pub writes_now : (f c n call : ℕ) (x : Point) (s : Scan) (i : Item) (ws : List (ℕ × Writer)) (ls : List (ℕ × ℕ))
      → IsScanOf n call x s → BeganBefore n x.begun → AllBefore n ws → AllBefore n ls
      → last_in (begun_in f x) n ws ls ≡ last_by s
      → last_in (begun_in f (point_of program plan n i x)) (n + 1) (writes_of program plan n x call i f c ws)
      (loops_of plan n x i f c ls)
      ≡ last_by (scan_item program plan f c s i)
  writes_now f c n call x s (item.Own e) ws ls h was hw hl so =
      let c1 = list_any (λ a. is_local f c a.spot) e.writes in
      let b = begins_leaf program plan e in
      let f1 = eqb f 1 in
      event_now n x.begun ws ls s was hw hl h.next c1 b f1 (receives program f c e x.leaf)
      (received_at_0 program f c e x.leaf) so
      ∙ ap (λ o. last_by (cond c1 (written_by (At s.next) s)
      (cond (b && f1) (written_by Fresh s) (cond (receives program f c e o) (written_by (At s.next) s) s))))
      (sym h.leaf)
  writes_now f c n call x s (item.Nested m b values false) ws ls h was hw hl so =
      same_now (begun_in f x) n ws ls hw hl ∙ so
  writes_now f c n call x s (item.Nested m b values true) ws ls h was hw hl so =
      interval_now n x.begun ws ls s was hw hl h.next program f c m call x.leaf (block_kind plan b)
      (postlog_cells plan b) values h.leaf h.call so plan

  pub tests_now : (f k n : ℕ) (x : Point) (t : Tests) (i : Item) (us : List (ℕ × Bool)) → t.next ≡ n
      → BeganBefore n x.begun → AllBefore n us
      → test_in (begun_in f x) n us ≡ t.found
      → test_in (begun_in f (point_of program plan n i x)) (n + 1) (tests_of n i 0 k us)
      ≡ (test_item program plan f k t i).found
  tests_now f k n x t (item.Own e) us next was h so =
      test_now n x.begun us (is_passed e.value) was h (begins_leaf program plan e) (eqb f 1)
      (eqb e.stmt k && not (is_some e.trap)) t.next t.found next so
  tests_now f k n x t (item.Nested m b values closed) us next was h so =
      still_now n x.begun us true was h (begun_in f x) ∙ so

  pub tests_next : (f k : ℕ) (t : Tests) (i : Item) → (test_item program plan f k t i).next ≡ t.next + 1
  tests_next f k t (item.Own e) = refl
  tests_next f k t (item.Nested m b values closed) = refl
