-- The parts of a search by replays, put together.
use Rattle.ppd_flow_past.specs.PastSetting.{past_setting}
use Rattle.std.proofs.Common.{◌≡◌, ℕ, zero, suc, ◌<◌, ◌≤◌, true, false, List, [], ◌∷◌, Option, Some, None, Result, Ok, Err, refl, ap, sym, subst, ◌∙◌, get_or, length, map, true≢false, if◌then◌else◌}
use Rattle.std.proofs.lemmas.Option.{get_or_from_slice_get, slice_get_past}
use Rattle.std.specs.Prelude.{slice_get}
use Rattle.law_clean.specs.Answers.{CleanOr, no_item, unclean, unclean_or, is_reached}
use Rattle.ppd_ast.proofs.ValidLaws.{slice_get_there}
use Rattle.ppd_clean_past.specs.declared.asked.Asked.{Asked}
use Rattle.ppd_clean.specs.declared.clean_error.CleanError.{CleanError}
use Rattle.ppd_clean.specs.declared.clean_error.CleanError.TheVariants as error
use Rattle.ppd_clean.specs.declared.clean.Clean.{Clean}
use Rattle.ppd_clean.specs.Answers.{AreEdges, AreItems, Fails, FailsFrom, IsAnswer, IsCleanItem, IsFound, IsItem, answer_at, edges_in, item_at, of_flow, reached_from, unclean_error, unless_begun, with_edges}
use Rattle.ppd_clean.specs.ByOrder.{cut_for, is_unclean}
use Rattle.ppd_model.specs.declared.entry.At.{At}
use Rattle.ppd_model.specs.declared.entry.Entry.{Entry}
use Rattle.ppd_graph.specs.Seen.{Seen}
use Rattle.ppd_graph.specs.Shared.{seen_at}
use Rattle.ppd_flow_past.specs.ByReplays.{IsFoundBy, failure_or, first_failed_in}
use Rattle.ppd_model.specs.declared.flow_error.FlowError.{FlowError}
use Rattle.ppd_model.specs.declared.flow_error.FlowError.TheVariants as flow_error
use Rattle.ppd_flow_past.specs.declared.past.Past.{Past}
use Rattle.ppd_flow_past.specs.SeenBy.{failed_in, items_in, seen_by, seen_in}
use Rattle.ppd_flow.specs.SharedCells.{seens_in}
use Rattle.ppd_model.specs.declared.flow.FlowEdge.{FlowEdge}
use Rattle.ppd_model.specs.declared.flow.Item.{Item}
use Rattle.ppd_model.specs.HappenedBefore.{edge}
use Rattle.ppd_model.proofs.Changes.{some}

at_process : (f : List Entry → Seen) (d : Seen) (lists : List (List Entry)) (p : ℕ) → f [] ≡ d → get_or (map f lists) p d ≡ f (get_or lists p [])
at_process f d [] p e = sym e
at_process f d (es ∷ lists) zero e = refl
at_process f d (es ∷ lists) (suc p) e = at_process f d lists p e

-- what is seen of one process among what is seen of all
pub same_seen : (past : Past) (p : ℕ) → seen_at (seens_in past) p ≡ seen_in past p
same_seen past p =
    at_process (λ entries. seen_by (past_setting past) entries) (record { items = []; blocks = []; rounds = [] }) past.cut.now.lists p refl

module _ (past : Past) where
  -- where one of some replays fails, a replay fails
  pub one_fails : (ms : List (ℕ × ℕ)) (q n : ℕ) → first_failed_in past ms ≡ Some (record { process = q; entry = n }) → Fails past past.cut.now q n
  one_fails [] q n e = absurd (cc e)
  one_fails (m ∷ ms) q n e = by (failed_in past m.0 m.1) refl e (one_fails ms q n)
    where
      by : (o : Option ℕ) → failed_in past m.0 m.1 ≡ o → failure_or m.0 o (first_failed_in past ms) ≡ Some (record { process = q; entry = n })
          → (first_failed_in past ms ≡ Some (record { process = q; entry = n }) → Fails past past.cut.now q n) → Fails past past.cut.now q n
      by None is f rest = rest f
      by (Some k) is f rest =
          let at : At = record { process = m.0; entry = k } in
          let same : at ≡ record { process = q; entry = n } = some f in
          let p_is : m.0 ≡ q = ap (λ (a : At). a.process) same in
          let n_is : k ≡ n = ap (λ (a : At). a.entry) same in
          (m.1, subst (λ z. failed_in past z m.1 ≡ Some n) p_is (is ∙ ap (λ z. Some z) n_is))

  module _ (a : Asked) where
    -- ---- items

    pub items_found : (r : Result (List Item) FlowError) (n m : ℕ) → IsFoundBy past ((a.process, a.interval) ∷ []) (Ok (items_in past a.process a.interval)) n m r
        → (items : List Item) → r ≡ Ok items → AreItems past a (Ok items)
    items_found (Ok xs) n m f items e =
        let same : xs ≡ items = cc e in
        let is : items_in past a.process a.interval ≡ xs = cc f.1 in
        sym (is ∙ same)
    items_found (Err x) n m f items e = absurd (cc e)

    pub items_failed : (e : FlowError) (n m : ℕ) → IsFoundBy past ((a.process, a.interval) ∷ []) (Ok (items_in past a.process a.interval)) n m (Err e) → AreItems past a (Err (of_flow e))
    items_failed (flow_error.Diverged q k) n m f = one_fails ((a.process, a.interval) ∷ []) q k f
    items_failed flow_error.NoEvent n m f = absurd (cc f.1)
    items_failed (flow_error.Sets q k c) n m f = absurd (cc f.1)
    items_failed flow_error.Memory n m f = tt

    -- ---- the item

    pub at_place : (xs : List Item) (n : ℕ) (d : Item) → n < length xs → d ≡ get_or xs n d → slice_get xs n ≡ Some d
    at_place xs n d lt is =
        let t = slice_get_there xs n lt in
        t.1 ∙ ap (λ z. Some z) (sym (get_or_from_slice_get xs n t.0 d t.1)) ∙ ap (λ z. Some z) (sym is)

    pub place_past : (xs : List Item) (n : ℕ) (e : CleanError) → length xs ≤ n → IsAnswer (reached_from past a a.first) (Err e) → IsAnswer (answer_at past a (seens_in past) (slice_get xs n)) (Err e)
    place_past xs n e le h = subst (λ o. IsAnswer (answer_at past a (seens_in past) o) (Err e)) (sym (slice_get_past xs n le)) h

    raced_answer : (o : Option ℕ) → IsAnswer (unclean_or a.process o no_item) (Err (unclean_error a.process o))
    raced_answer None = refl
    raced_answer (Some u) = refl

    pub place_raced : (o : Option Item) (t : Item) (e : CleanError) → o ≡ Some t → is_unclean past a (seen_in past a.process) t ≡ true → e ≡ unclean_error a.process a.first
        → IsAnswer (answer_at past a (seens_in past) o) (Err e)
    place_raced o t e is raced error_is =
        subst (λ z. IsAnswer (answer_at past a (seens_in past) o) (Err z)) (sym error_is)
        (subst (λ (x : CleanOr). IsAnswer x (Err (unclean_error a.process a.first)))
        (sym (ap (answer_at past a (seens_in past)) is
        ∙ ap (λ b. if b then unclean_or a.process a.first no_item else with_edges t (edges_in past a)) (ap (λ x. is_unclean past a x t) (same_seen past a.process) ∙ raced)))
        (raced_answer a.first))

    pub place_clean : (o : Option Item) (t : Item) → o ≡ Some t → is_unclean past a (seen_in past a.process) t ≡ false → IsCleanItem past a o
    place_clean o t is clean_so = (t, is, ap (λ x. is_unclean past a x t) (same_seen past a.process) ∙ clean_so)

    -- moved out of its place
    pub moved_out : (xs ys : List Item) (n : ℕ) (d : Item) → IsCleanItem past a (slice_get xs n) → ys ≡ xs → d ≡ get_or ys n d → IsItem past a (slice_get xs n) (Ok d)
    moved_out xs ys n d h same is =
        let t_is : h.0 ≡ d = sym (get_or_from_slice_get xs n h.0 d h.1) ∙ ap (λ (zs : List Item). get_or zs n d) (sym same) ∙ sym is in
        (h.1 ∙ ap (λ z. Some z) t_is, subst (λ z. is_unclean past a (seen_at (seens_in past) a.process) z ≡ false) t_is h.2)

    -- ---- the answer

    abbrev answer : CleanOr
    answer = answer_at past a (seens_in past) (item_at a (seens_in past))

    abbrev IsSo : Result Clean CleanError → Type 0
    IsSo r = IsFound (Fails past past.cut.now) (answer_at past a (seens_in past) (item_at a (seens_in past))) r

    pub no_items : (e : CleanError) → AreItems past a (Err e) → IsSo (Err e)
    no_items (error.Diverged q n) h = h
    no_items error.Memory h = tt
    no_items error.NoEvent h = absurd h
    no_items (error.Sets q n c) h = absurd h
    no_items (error.Unclean e) h = absurd h

    -- the item of the items that replays give
    pub at_item : (items : List Item) → items ≡ items_in past a.process a.interval → slice_get items a.item ≡ item_at a (seens_in past)
    at_item items e = ap (λ (xs : List Item). slice_get xs a.item) e ∙ ap (λ (x : Seen). slice_get (get_or x.items a.interval []) a.item) (sym (same_seen past a.process))

    as_found : (x : CleanOr) (e : CleanError) → IsAnswer x (Err e) → IsFound (Fails past past.cut.now) x (Err e)
    as_found x (error.Unclean e) h = h
    as_found x error.NoEvent h = h
    as_found x (error.Diverged q n) h = absurd h
    as_found x (error.Sets q n c) h = absurd h
    as_found x error.Memory h = tt

    pub no_item_here : (items : List Item) (e : CleanError) → items ≡ items_in past a.process a.interval → IsItem past a (slice_get items a.item) (Err e) → IsSo (Err e)
    no_item_here items e is h = as_found answer e (subst (λ o. IsAnswer (answer_at past a (seens_in past) o) (Err e)) (at_item items is) h)

    module _ (items : List Item) (is : items ≡ items_in past a.process a.interval) (t : Item) (h : IsItem past a (slice_get items a.item) (Ok t)) where
      answer_is : answer_at past a (seens_in past) (item_at a (seens_in past)) ≡ with_edges t (edges_in past a)
      answer_is =
          ap (answer_at past a (seens_in past)) (sym (at_item items is) ∙ h.0)
          ∙ ap (λ b. if b then unclean_or a.process a.first no_item else with_edges t (edges_in past a)) h.1

      pub edges_here : (es : List FlowEdge) → AreEdges past a (Ok es) → answer_at past a (seens_in past) (item_at a (seens_in past)) ≡ with_edges t (Some (Ok es))
      edges_here es f = answer_is ∙ ap (with_edges t) f

      pub no_edges_here : (e : CleanError) → AreEdges past a (Err e) → IsSo (Err e)
      no_edges_here (error.Diverged q n) f = f
      no_edges_here (error.Sets q n c) f = answer_is ∙ ap (with_edges t) f
      no_edges_here error.NoEvent f = answer_is ∙ ap (with_edges t) f
      no_edges_here error.Memory f = tt
      no_edges_here (error.Unclean e) f = absurd f

-- ---- an interval that begins in an edge whose past has a race

module _ (begun : ℕ) (past : Past) (a : Asked) (rest : CleanOr) where
  pub begins_raced : (o : Option ℕ) → is_reached begun o ≡ true
      → IsFound (FailsFrom begun past a) (unless_begun begun a.process o rest) (Err (unclean_error a.process o))
  begins_raced None e = absurd (true≢false (sym e))
  begins_raced (Some u) e = ap (λ b. if b then unclean (edge a.process u) else rest) e

  passed_on : (o : Option ℕ) → is_reached begun o ≡ false → rest ≡ unless_begun begun a.process o rest
  passed_on None e = refl
  passed_on (Some u) e = sym (ap (λ b. if b then unclean (edge a.process u) else rest) e)

  -- and one that does not
  pub begins_clean : (r : Result Clean CleanError) → is_reached begun a.first ≡ false → IsFound (Fails past (cut_for past a)) rest r
      → IsFound (FailsFrom begun past a) (unless_begun begun a.process a.first rest) r
  begins_clean r e h = by r (subst (λ (x : CleanOr). IsFound (Fails past (cut_for past a)) x r) (passed_on a.first e) h)
    where
      by : (r : Result Clean CleanError) → IsFound (Fails past (cut_for past a)) (unless_begun begun a.process a.first rest) r
          → IsFound (FailsFrom begun past a) (unless_begun begun a.process a.first rest) r
      by (Ok c) f = f
      by (Err (error.Unclean x)) f = f
      by (Err error.NoEvent) f = f
      by (Err (error.Diverged q n)) f = (e, f)
      by (Err (error.Sets q n c)) f = f
      by (Err error.Memory) f = tt
