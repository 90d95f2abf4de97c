-- What holds of a table while it is built, at the start and after one more item.
use Rattle.std.proofs.Common.{◌≡◌, ℕ, zero, suc, ◌+◌, ◌<◌, ◌≤◌, ◌⊎◌, inl, inr, Bool, true, false, cond, eqb, List, [], ◌∷◌, ◌++◌, length, get_or, take, None, refl, ap, ap₂, sym, subst, ◌∙◌, arith, take_all, le_refl, ltb, ltb-true, ltb-false}
use Rattle.std.specs.Prelude.{fold}
use Rattle.std.proofs.lemmas.List.{get_or_append_left, get_or_push, length_push, take-append-le, take_more}
use Rattle.std.proofs.lemmas.List.Sums.{fold_push}
use Rattle.ppd_ast.specs.declared.plan.Plan.{Plan}
use Rattle.ppd_ast.specs.declared.program.Program.{Program}
use Rattle.ppd_model.specs.declared.flow.Item.{Item}
use Rattle.ppd_graph.specs.Control.{begun_tests, last_test, test_item}
use Rattle.ppd_graph.specs.Locals.{begun_scan, leaf_at, scan, scan_item}
use Rattle.ppd_flow_local_tables.specs.declared.build.Building.{Building}
use Rattle.ppd_flow_local_tables.specs.Built.{IsNew, IsReady, IsStep, call_of, loops_of, point_of, tests_of, writes_of}
use Rattle.ppd_flow_local_tables.specs.Kept.{row_of}
use Rattle.ppd_flow_local_tables.specs.Rows.{AllBefore}
use Rattle.ppd_flow_local_tables.specs.Tables.{IsTableOf, begun_in, last_by, last_in, point_at, start_point, test_in}
use Rattle.ppd_flow_local_tables.proofs.Additions.{IsScanOf, began_more, loops_before, loops_keep, scan_more, tests_before, tests_keep, tests_next, tests_now, writes_before, writes_keep, writes_now}
use Rattle.ppd_flow_local_tables.proofs.Steps.{BeganBefore, last_same, tests_same}

-- ---- before the first item

start_anywhere : (p : ℕ) → get_or (start_point ∷ []) p start_point ≡ start_point
start_anywhere zero = refl
start_anywhere (suc p) = refl

none_taken : (p : ℕ) → take {A = Item} p [] ≡ []
none_taken zero = refl
none_taken (suc p) = refl

nothing_last : (b : Bool) (p : ℕ) → last_in (cond b start_point.begun None) p [] [] ≡ last_by begun_scan
nothing_last true p = refl
nothing_last false p = refl

-- ---- a place is one of the earlier ones or the last

place_cases : (p n : ℕ) → p ≤ n + 1 → (p ≤ n) ⊎ (p ≡ n + 1)
place_cases p n h = cases (ltb n p) refl
  where
    cases : (t : Bool) → ltb n p ≡ t → (p ≤ n) ⊎ (p ≡ n + 1)
    cases true e = inr (omega (arith, h, ltb-true n p e))
    cases false e = inl (ltb-false n p e)

module _ (program : Program) (plan : Plan) where
  -- the table so far, and what is known beside it
  pub record IsBuilt (items : List Item) (x : Building) : Type 0 where
    pub table : IsTableOf program plan items x.table
    pub next : x.next ≡ length items
    pub known : point_at x.table (length items) ≡ x.point
    pub scans : (f c : ℕ) → IsScanOf x.next x.call x.point (scan program plan f c items)
    pub counted : (f s : ℕ) → (fold (test_item program plan f s) begun_tests items).next ≡ x.next
    pub began : BeganBefore x.next x.point.begun
    pub ready : IsReady x

  module _ (x : Building) (h : IsNew x) where
    start_at : (p : ℕ) → point_at x.table p ≡ start_point
    start_at p = ap (λ l. get_or l p start_point) h.points ∙ start_anywhere p

    table_new : IsTableOf program plan [] x.table
    table_new = record {
      count = ap length h.points;
      leaf = λ p l. ap (λ o. o.leaf) (start_at p) ∙ sym (ap (leaf_at program plan) (none_taken p));
      tests = λ f s p l. ap (λ us. test_in (begun_in f (point_at x.table p)) p us) (h.tests 0 s)
          ∙ sym (ap (last_test program plan f s) (none_taken p));
      writes = λ f c p l.
          ap₂ (λ ws ls. last_in (begun_in f (point_at x.table p)) p ws ls) (h.writes f c) (h.loops f c)
          ∙ (ap (λ o. last_in (begun_in f o) p [] []) (start_at p)
          ∙ (nothing_last (eqb f 1) p ∙ sym (ap (λ is. last_by (scan program plan f c is)) (none_taken p))));
    }

    before_none : {A : Type 0} (n : ℕ) (xs : List (ℕ × A)) → xs ≡ [] → AllBefore n xs
    before_none n xs e = subst (λ ys. AllBefore n ys) (sym e) tt

    pub built_new : IsBuilt [] x
    built_new = record {
      table = table_new;
      next = h.next;
      known = start_at 0 ∙ sym h.point;
      scans = λ f c. record { next = sym h.next; leaf = sym (ap (λ o. o.leaf) h.point); call = sym h.call };
      counted = λ f s. sym h.next;
      began = subst (λ o. BeganBefore x.next o) (sym (ap (λ o. o.begun) h.point)) tt;
      ready = record {
        tests = λ f k. before_none x.next _ (h.tests f k);
        writes = λ f k. before_none x.next _ (h.writes f k);
        loops = λ f k. before_none x.next _ (h.loops f k);
      };
    }

  -- ---- one more item

  module _ (items : List Item) (i : Item) (x y : Building) (h : IsBuilt items x) (step : IsStep program plan i x y)
    where
      abbrev more : List Item
      more = items ++ i ∷ []

      longer : length more ≡ length items + 1
      longer = length_push items i

      -- at an earlier place
      point_kept : (p : ℕ) → p ≤ length items → point_at y.table p ≡ point_at x.table p
      point_kept p l =
          ap (λ ps. get_or ps p start_point) step.points
          ∙ get_or_append_left x.table.points.items (y.point ∷ []) start_point p (omega (arith, l, h.table.count))

      taken_kept : (p : ℕ) → p ≤ length items → take p more ≡ take p items
      taken_kept p l = take-append-le p items (i ∷ []) l

      earlier : (p : ℕ) → p ≤ length items → p ≤ x.next
      earlier p l = omega (arith, l, h.next)

      leaf_kept : (p : ℕ) → p ≤ length items → (point_at y.table p).leaf ≡ leaf_at program plan (take p more)
      leaf_kept p l = ap (λ o. o.leaf) (point_kept p l)
          ∙ (h.table.leaf p l ∙ ap (leaf_at program plan) (sym (taken_kept p l)))

      tests_kept : (f s p : ℕ) → p ≤ length items
          → test_in (begun_in f (point_at y.table p)) p (row_of y.table.tests 0 s)
          ≡ last_test program plan f s (take p more)
      tests_kept f s p l =
          ap₂ (λ o us. test_in (begun_in f o) p us) (point_kept p l) (step.noted.tests 0 s)
          ∙ (tests_same (begun_in f (point_at x.table p)) p p (row_of x.table.tests 0 s) _
          (λ b. tests_keep program plan x.next i 0 s (row_of x.table.tests 0 s) b p (earlier p l))
          ∙ (h.table.tests f s p l ∙ ap (last_test program plan f s) (sym (taken_kept p l))))

      writes_kept : (f c p : ℕ) → p ≤ length items
          → last_in (begun_in f (point_at y.table p)) p (row_of y.table.writes f c) (row_of y.table.loops f c)
          ≡ last_by (scan program plan f c (take p more))
      writes_kept f c p l =
          ap (λ o. last_in (begun_in f o) p (row_of y.table.writes f c) (row_of y.table.loops f c)) (point_kept p l)
          ∙ (ap₂ (λ ws ls. last_in (begun_in f (point_at x.table p)) p ws ls) (step.noted.writes f c)
          (step.noted.loops f c)
          ∙ (last_same (begun_in f (point_at x.table p)) p p (row_of x.table.writes f c) _ (row_of x.table.loops f c) _
          (λ b. writes_keep program plan x.next x.point x.call i f c (row_of x.table.writes f c) b p (earlier p l))
          (λ b. loops_keep program plan x.next x.point i f c (row_of x.table.loops f c) b p (earlier p l))
          ∙ (h.table.writes f c p l ∙ ap (λ is. last_by (scan program plan f c is)) (sym (taken_kept p l)))))

      -- at the place after the item
      point_last : point_at y.table (length items + 1) ≡ y.point
      point_last =
          ap (λ ps. get_or ps (length items + 1) start_point) step.points
          ∙ get_or_push x.table.points.items y.point start_point (length items + 1) h.table.count

      taken_last : take (length items + 1) more ≡ more
      taken_last = take_all (length items + 1) more (omega (arith, longer))

      taken_all : take (length items) items ≡ items
      taken_all = take_all (length items) items (le_refl (length items))

      scan_last : (f c : ℕ) → scan program plan f c more ≡ scan_item program plan f c (scan program plan f c items) i
      scan_last f c = fold_push (scan_item program plan f c) begun_scan items i

      scans_last : (f c : ℕ) → IsScanOf y.next y.call y.point (scan program plan f c more)
      scans_last f c =
          let s : IsScanOf (x.next + 1) (call_of i x.call) (point_of program plan x.next i x.point)
          (scan program plan f c more) =
          subst (λ t. IsScanOf (x.next + 1) (call_of i x.call) (point_of program plan x.next i x.point) t)
          (sym (scan_last f c))
          (scan_more program plan f c x.next x.call x.point (scan program plan f c items) i (h.scans f c)) in
          record {
            next = s.next ∙ sym step.next;
            leaf = s.leaf ∙ sym (ap (λ o. o.leaf) step.noted.point);
            call = s.call ∙ sym step.noted.call;
          }

      tests_were : (f s : ℕ)
          → test_in (begun_in f x.point) x.next (row_of x.table.tests 0 s)
          ≡ (fold (test_item program plan f s) begun_tests items).found
      tests_were f s =
          ap₂ (λ o p. test_in (begun_in f o) p (row_of x.table.tests 0 s)) (sym h.known) h.next
          ∙ (h.table.tests f s (length items) (le_refl (length items)) ∙ ap (last_test program plan f s) taken_all)

      tests_last : (f s : ℕ)
          → test_in (begun_in f (point_at y.table (length items + 1))) (length items + 1) (row_of y.table.tests 0 s)
          ≡ last_test program plan f s (take (length items + 1) more)
      tests_last f s =
          ap₂ (λ o us. test_in (begun_in f o) (length items + 1) us) (point_last
          ∙ step.noted.point) (step.noted.tests 0 s)
          ∙ (ap (λ n. test_in (begun_in f (point_of program plan x.next i x.point)) (n + 1)
          (tests_of x.next i 0 s (row_of x.table.tests 0 s))) (sym h.next)
          ∙ (tests_now program plan f s x.next x.point (fold (test_item program plan f s) begun_tests items) i
          (row_of x.table.tests 0 s) (h.counted f s) h.began (h.ready.tests 0 s) (tests_were f s)
          ∙ (ap (λ t. t.found) (sym (fold_push (test_item program plan f s) begun_tests items i))
          ∙ ap (last_test program plan f s) (sym taken_last))))

      writes_were : (f c : ℕ)
          → last_in (begun_in f x.point) x.next (row_of x.table.writes f c) (row_of x.table.loops f c)
          ≡ last_by (scan program plan f c items)
      writes_were f c =
          ap₂ (λ o p. last_in (begun_in f o) p (row_of x.table.writes f c) (row_of x.table.loops f c)) (sym h.known)
          h.next
          ∙ (h.table.writes f c (length items) (le_refl (length items))
          ∙ ap (λ is. last_by (scan program plan f c is)) taken_all)

      writes_last : (f c : ℕ)
          → last_in (begun_in f (point_at y.table (length items + 1))) (length items + 1) (row_of y.table.writes f c)
          (row_of y.table.loops f c)
          ≡ last_by (scan program plan f c (take (length items + 1) more))
      writes_last f c =
          ap (λ o. last_in (begun_in f o) (length items + 1) (row_of y.table.writes f c) (row_of y.table.loops f c))
          (point_last ∙ step.noted.point)
          ∙ (ap₂ (λ ws ls. last_in (begun_in f (point_of program plan x.next i x.point)) (length items + 1) ws ls)
          (step.noted.writes f c) (step.noted.loops f c)
          ∙ (ap (λ n. last_in (begun_in f (point_of program plan x.next i x.point)) (n + 1)
          (writes_of program plan x.next x.point x.call i f c (row_of x.table.writes f c))
          (loops_of plan x.next x.point i f c (row_of x.table.loops f c))) (sym h.next)
          ∙ (writes_now program plan f c x.next x.call x.point (scan program plan f c items) i
          (row_of x.table.writes f c) (row_of x.table.loops f c)
          (h.scans f c) h.began (h.ready.writes f c) (h.ready.loops f c) (writes_were f c)
          ∙ (ap last_by (sym (scan_last f c)) ∙ ap (λ is. last_by (scan program plan f c is)) (sym taken_last)))))

      leaf_last : (point_at y.table (length items + 1)).leaf ≡ leaf_at program plan (take (length items + 1) more)
      leaf_last =
          ap (λ o. o.leaf) point_last ∙ (sym (scans_last 0 0).leaf ∙ ap (leaf_at program plan) (sym taken_last))

      -- at each
      at_place : (P : ℕ → Type 0) → ((p : ℕ) → p ≤ length items → P p) → P (length items + 1) → (p : ℕ)
          → p ≤ length more → P p
      at_place P before last p l = pick (place_cases p (length items) (omega (arith, l, longer)))
        where
          pick : (p ≤ length items) ⊎ (p ≡ length items + 1) → P p
          pick (inl k) = before p k
          pick (inr e) = subst P (sym e) last

      table_more : IsTableOf program plan more y.table
      table_more = record {
        count = ap length step.points
            ∙ (length_push x.table.points.items y.point
            ∙ (ap (λ n. n + 1) h.table.count ∙ ap (λ n. n + 1) (sym longer)));
        leaf = at_place (λ p. (point_at y.table p).leaf ≡ leaf_at program plan (take p more)) leaf_kept leaf_last;
        tests = λ f s. at_place
            (λ p. test_in (begun_in f (point_at y.table p)) p (row_of y.table.tests 0 s)
            ≡ last_test program plan f s (take p more))
            (tests_kept f s) (tests_last f s);
        writes = λ f c. at_place
            (λ p. last_in (begun_in f (point_at y.table p)) p (row_of y.table.writes f c) (row_of y.table.loops f c)
            ≡ last_by (scan program plan f c (take p more)))
            (writes_kept f c) (writes_last f c);
      }

      before_now : {A : Type 0} (xs ys : List (ℕ × A)) → ys ≡ xs → AllBefore (x.next + 1) xs → AllBefore y.next ys
      before_now xs ys e b =
          subst (λ n. AllBefore n ys) (sym step.next) (subst (λ zs. AllBefore (x.next + 1) zs) (sym e) b)

      pub built_more : IsBuilt more y
      built_more = record {
        table = table_more;
        next = step.next ∙ (ap (λ n. n + 1) h.next ∙ sym longer);
        known = ap (point_at y.table) longer ∙ point_last;
        scans = scans_last;
        counted = λ f s.
            ap (λ t. t.next) (fold_push (test_item program plan f s) begun_tests items i)
            ∙ (tests_next program plan f s (fold (test_item program plan f s) begun_tests items) i
            ∙ (ap (λ n. n + 1) (h.counted f s) ∙ sym step.next));
        began = subst (λ n. BeganBefore n y.point.begun) (sym step.next)
            (subst (λ o. BeganBefore (x.next + 1) o.begun) (sym step.noted.point)
            (began_more program plan x.next i x.point h.began));
        ready = record {
          tests = λ f k. before_now _ _ (step.noted.tests f k)
              (tests_before program plan x.next i f k (row_of x.table.tests f k) (h.ready.tests f k));
          writes = λ f k. before_now _ _ (step.noted.writes f k)
              (writes_before program plan x.next x.point x.call i f k (row_of x.table.writes f k) (h.ready.writes f k));
          loops = λ f k. before_now _ _ (step.noted.loops f k)
              (loops_before program plan x.next x.point i f k (row_of x.table.loops f k) (h.ready.loops f k));
        };
      }

  -- the next of all items
  pub built_next : (items : List Item) (k : ℕ) (i : Item) (x y : Building) → k < length items → i ≡ get_or items k i
      → IsBuilt (take k items) x → IsStep program plan i x y → IsBuilt (take (k + 1) items) y
  built_next items k i x y l is h step =
      subst (λ js. IsBuilt js y) (ap (λ j. take k items ++ j ∷ []) is
      ∙ sym (take_more items k i l)) (built_more (take k items) i x y h step)

  pub built_whole : (items : List Item) (k : ℕ) (x : Building) → length items ≤ k → IsBuilt (take k items) x
      → IsTableOf program plan items x.table
  built_whole items k x l h = subst (λ js. IsTableOf program plan js x.table) (take_all k items l) h.table
