-- The slice of a past, by what is known of it.
use Rattle.ppd_flow_past.specs.PastSetting.{past_setting}
use Rattle.std.specs.Prelude.{slice_get, nat_lt, if◌then◌else◌}
use Rattle.std.specs.Result.{result_unwrap_or}
use Rattle.std.proofs.Common.{◌≡◌, ℕ, zero, suc, ◌+◌, ◌<◌, ◌≤◌, Bool, true, false, true≢false, List, [], ◌∷◌, Option, Some, None, Result, Ok, Err, length, refl, ap, sym, ◌∙◌, arith}
use Rattle.std.proofs.lemmas.Bool.{lt-ltb, le-ltb, ltb-true}
use Rattle.std.proofs.lemmas.Option.{slice_get_within}
use Rattle.ppd_model.specs.declared.entry.At.{At}
use Rattle.ppd_session.specs.Known.{Flow, Known, Told, answer_if, flow_by, unless_failed}
use Rattle.ppd_index.specs.Indexes.{IsIndexOf, rows_at}
use Rattle.ppd_model.specs.declared.flow.FlowEdge.{FlowEdge}
use Rattle.ppd_model.specs.declared.flow.Item.{Item}
use Rattle.ppd_model.specs.declared.flow_error.FlowError.{FlowError}
use Rattle.ppd_model.specs.declared.flow_error.FlowError.TheVariants as flow_error
use Rattle.ppd_flow_past.specs.declared.past.Past.{Past}
use Rattle.ppd_flow_past.specs.ByReplays.{cost, failure_or, first_failed_in}
use Rattle.ppd_flow_past.specs.SeenBy.{failed_in, items_in}
use Rattle.ppd_graph.specs.Found.{found_edges}
use Rattle.ppd_whole.specs.SharedCells.{seens_in}
use Rattle.ppd_slice_search.specs.declared.reached.ItemAt.{ItemAt}
use Rattle.ppd_slice_search.specs.declared.reached.Reached.{Reached}
use Rattle.ppd_slice_search.specs.Reach.{IsReach, item_of, places_of}
use Rattle.ppd_slice_search.proofs.Levels.{reach_as}
use Rattle.ppd_session.specs.Sessions.{known_by}
use Rattle.ppd_session.specs.Texts.{failure_in, flow_at, no_event, told_at}
use Rattle.ppd_session.specs.declared.reply.SessionError.TheVariants.{Diverged, Sets}
use Rattle.ppd_session.proofs.Flows.{flow_there, same as same_logs}
use Rattle.ppd_session.proofs.Replayed.{are_replayed, same_failure, tells, tells_items}
use Rattle.ppd_slice.specs.Slices.{IsAnswered, IsNoItem, IsSlice, flow_of, origins_in, unless_failed as unless_one_failed}
use Rattle.ppd_slice.proofs.Flows.{flow_misses, flow_none, flow_there as edges_there}
use Rattle.ppd_top.specs.Queries.{IsSliceFailure, event_refusal, origins_told}
use Rattle.ppd_top.proofs.QueryWords.{origins_of}

same_some : {X : Type 0} (x y : X) → ◌≡◌ {A = Option X} (Some x) (Some y) → x ≡ y
same_some x y e = cc

none_or_some : {X : Type 0} {o : Option X} {x : X} → o ≡ None → o ≡ Some x → ⊥
none_or_some a b = cc (a, b)

past_end : {X : Type 0} (xs : List X) (j : ℕ) → slice_get xs j ≡ None → length xs ≤ j
past_end [] j e = omega arith
past_end (x ∷ xs) zero e = absurd (cc)
past_end (x ∷ xs) (suc j) e = let le = past_end xs j e in omega (arith, le)

module _ (past : Past) (uncut : past.cut.now ≡ past.logs.now) where
  abbrev x : Known
  x = known_by past []

  -- both say the same of a replay that fails
  same_unless : (o : Option At) (r : Flow) → unless_one_failed o r ≡ unless_failed o r
  same_unless None r = refl
  same_unless (Some failure) r = refl

  same_flow : (a : ItemAt) → flow_of past a ≡ flow_by (past_setting past) past.logs.now a.process a.interval a.item
  same_flow a =
      same_unless (first_failed_in past (found_edges past.program.now past.plan.now past.logs.now (seens_in past) a.process a.interval a.item).replays)
      (answer_if (found_edges past.program.now past.plan.now past.logs.now (seens_in past) a.process a.interval a.item).found)
      ∙ same_logs past uncut a.process a.interval a.item

  -- an item that is there is told
  module _ (a : ItemAt) (none : failed_in past a.process a.interval ≡ None) (t : Item) (there : slice_get (items_in past a.process a.interval) a.item ≡ Some t) where
    is_told : told_at x a.process a.interval ≡ Some (Ok (items_in past a.process a.interval))
    is_told = tells_items past uncut a.process a.interval a.item t none there

    within_items : a.item < length (items_in past a.process a.interval)
    within_items = slice_get_within (items_in past a.process a.interval) a.item t there

    pub flow_as : flow_at x a.process a.interval a.item ≡ flow_of past a
    flow_as = flow_there past a.process a.interval a.item (items_in past a.process a.interval) is_told within_items ∙ sym (same_flow a)

    pub not_refused : event_refusal (told_at x a.process a.interval) a.item ≡ None
    not_refused =
        let lt : nat_lt a.item (length (items_in past a.process a.interval)) ≡ true = lt-ltb a.item (length (items_in past a.process a.interval)) within_items in
        ap (λ o. event_refusal o a.item) is_told ∙ ap (λ b. if b then None else Some no_event) lt

    origins_there : origins_of x a ≡ places_of (result_unwrap_or (flow_of past a) [])
    origins_there =
        let lt : nat_lt a.item (length (items_in past a.process a.interval)) ≡ true = lt-ltb a.item (length (items_in past a.process a.interval)) within_items in
        ap (λ o. origins_told o a.item (flow_at x a.process a.interval a.item)) is_told
        ∙ (ap (λ b. if b then places_of (result_unwrap_or (flow_at x a.process a.interval a.item) []) else []) lt ∙ ap (λ found. places_of (result_unwrap_or found [])) flow_as)

  -- one that is not is told to come from nothing
  origins_nowhere : (a : ItemAt) → IsNoItem past a → origins_of x a ≡ []
  origins_nowhere a h = by (told_at x a.process a.interval) refl
    where
      by : (o : Option Told) → told_at x a.process a.interval ≡ o → origins_told o a.item (flow_at x a.process a.interval a.item) ≡ []
      by None e = refl
      by (Some (Err n)) e = refl
      by (Some (Ok items)) e =
          let is = (are_replayed past uncut a.process a.interval items e).1 in
          let long : length items ≤ a.item = past_end items a.item (ap (λ (is : List Item). slice_get is a.item) is ∙ h.1) in
          ap (λ b. if b then places_of (result_unwrap_or (flow_at x a.process a.interval a.item) []) else []) (le-ltb a.item (length items) long)

  -- the items that were reached come from the same
  same_origins : (a : ItemAt) → IsAnswered (flow_of past a) → origins_in past a ≡ origins_of x a
  same_origins a h = by (flow_of past a) refl h
    where
      by : (r : Result (List FlowEdge) FlowError) → flow_of past a ≡ r → IsAnswered r → origins_in past a ≡ origins_of x a
      by (Ok es) e k = let there = edges_there past a es e in sym (origins_there a there.0 there.1.0 there.1.1)
      by (Err flow_error.NoEvent) e k = ap (λ found. places_of (result_unwrap_or found [])) e ∙ sym (origins_nowhere a (flow_none past a e))
      by (Err (flow_error.Diverged q n)) e k = absurd k
      by (Err (flow_error.Sets q n c)) e k = absurd k
      by (Err flow_error.Memory) e k = absurd k

  pub slice_known : (a : ItemAt) (rs : List Reached) → IsSlice past a rs → IsReach (origins_of x) a rs
  slice_known a rs s = reach_as (origins_in past) (origins_of x) a rs s.reach (λ r m. same_origins (item_of r) (s.answered r m))

  pub slice_there : (a : ItemAt) (rs : List Reached) → IsSlice past a rs → event_refusal (told_at x a.process a.interval) a.item ≡ None
  slice_there a rs s = let there = edges_there past a s.first.0 s.first.1 in not_refused a there.0 there.1.0 there.1.1

  -- ---- no such item, of an interval that is there

  pub no_item : (a : ItemAt) → IsIndexOf past.plan.now past.logs.now past.index.now.tables → a.interval < length (rows_at past.index.now.tables a.process) → IsNoItem past a → event_refusal (told_at x a.process a.interval) a.item ≡ Some no_event
  no_item a index lt h =
      let items : List Item = items_in past a.process a.interval in
      let first : first_failed_in past ((a.process, a.interval) ∷ []) ≡ None = ap (λ o. failure_or a.process o None) h.0 in
      let count : cost past ((a.process, a.interval) ∷ []) ≡ 0 + cost past ((a.process, a.interval) ∷ []) = omega arith in
      let is : told_at x a.process a.interval ≡ Some (Ok (items_in past a.process a.interval)) =
      tells past uncut a.process a.interval (items_in past a.process a.interval) 0 (cost past ((a.process, a.interval) ∷ [])) index lt (first, refl, count) in
      let long : length (items_in past a.process a.interval) ≤ a.item = past_end (items_in past a.process a.interval) a.item h.1 in
      ap (λ o. event_refusal o a.item) is ∙ ap (λ b. if b then None else Some no_event) (le-ltb a.item (length (items_in past a.process a.interval)) long)

  -- else the answer is not refused
  pub some_item : (a : ItemAt) → (IsNoItem past a → ⊥) → event_refusal (told_at x a.process a.interval) a.item ≡ None
  some_item a other = by (told_at x a.process a.interval) refl
    where
      inner : (items : List Item) → told_at x a.process a.interval ≡ Some (Ok items) → (b : Bool) → nat_lt a.item (length items) ≡ b → (if b then None else Some no_event) ≡ None
      inner items e true f = refl
      inner items e false f =
          let r = are_replayed past uncut a.process a.interval items e in
          absurd (other (r.0, ap (λ (is : List Item). slice_get is a.item) (sym r.1) ∙ gone items a.item f))
        where
          gone : (is : List Item) (j : ℕ) → nat_lt j (length is) ≡ false → slice_get is j ≡ None
          gone [] zero f = refl
          gone [] (suc j) f = refl
          gone (i ∷ is) zero f = absurd (true≢false (sym (lt-ltb 0 (length (i ∷ is)) (omega arith)) ∙ f))
          gone (i ∷ is) (suc j) f = gone is j (shorter is j f)
            where
              shorter : (is : List Item) (j : ℕ) → nat_lt (suc j) (suc (length is)) ≡ false → nat_lt j (length is) ≡ false
              shorter is j f = by (nat_lt j (length is)) refl
                where
                  by : (b : Bool) → nat_lt j (length is) ≡ b → b ≡ false
                  by false e = refl
                  by true e = let lt = ltb-true j (length is) e in absurd (true≢false (sym (lt-ltb (suc j) (suc (length is)) (omega (arith, lt))) ∙ f))

      by : (o : Option Told) → told_at x a.process a.interval ≡ o → event_refusal o a.item ≡ None
      by None e = refl
      by (Some (Err n)) e = refl
      by (Some (Ok items)) e = inner items e (nat_lt a.item (length items)) refl

  -- ---- failures

  pub diverges : (q m n : ℕ) → failed_in past q m ≡ Some n → IsSliceFailure x (Diverged (record { process = q; entry = n }))
  diverges q m n e = (m, by (told_at x q m) (sym (same_failure past uncut q m) ∙ ap (λ o. failure_or q o None) e))
    where
      by : (o : Option Told) → failure_in q o ≡ Some (record { process = q; entry = n }) → o ≡ Some (Err n)
      by None f = absurd (cc)
      by (Some (Ok items)) f = absurd (cc)
      by (Some (Err k)) f =
          let same : k ≡ n = ap (λ (a : At). a.entry) (same_some (record { process = q; entry = k }) (record { process = q; entry = n }) f) in
          ap (λ (i : ℕ). Some (Err i)) same

  pub misses : (a : ItemAt) (q n c : ℕ) → flow_of past a ≡ Err (flow_error.Sets q n c) → IsSliceFailure x (Sets (record { process = q; entry = n }))
  misses a q n c e = let there = flow_misses past a q n c e in (a, c, flow_as a there.0 there.1.0 there.1.1 ∙ e)
