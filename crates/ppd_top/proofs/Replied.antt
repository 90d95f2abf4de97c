-- From the answers of the code to what is written.
use Rattle.std.specs.Option.{unwrap_or}
use Rattle.ppd_top_requests.specs.Questions.Query.{Slice}
use Rattle.std.specs.Prelude.{IfErr, IfOk, Vec, codes, nat_lt, is_some, if◌then◌else◌, ◌==◌, get_or}
use Rattle.std.specs.List.{flat_map}
use Rattle.std.proofs.Common.{◌≡◌, ℕ, ◌<◌, Bool, true, false, true≢false, List, [], ◌∷◌, Option, Some, None, Result, Ok, Err, length, refl, ap, sym, ◌∙◌, subst, inl, inr}
use Rattle.ppd_index.specs.Indexes.{IsIndexOf, rows_at}
use Rattle.ppd_model.specs.declared.graph.Race.{Race}
use Rattle.ppd_model.specs.declared.flow_error.FlowError.{FlowError}
use Rattle.ppd_model.specs.declared.flow_error.FlowError.TheVariants as flow_error
use Rattle.ppd_flow_past.specs.declared.past.Past.{Past}
use Rattle.ppd_slice_search.specs.declared.reached.Reached.{Reached}
use Rattle.ppd_slice_search.specs.Reach.{at}
use Rattle.ppd_session.specs.Known.{Known}
use Rattle.ppd_session.specs.Questions.{process_named}
use Rattle.ppd_session.specs.Sessions.{error_of, known_by}
use Rattle.ppd_session.specs.Texts.{no_event, no_process, told_at, races_refusal}
use Rattle.ppd_session.specs.declared.reply.SessionError.{SessionError}
use Rattle.ppd_session.specs.declared.reply.SessionError.TheVariants.{Diverged, Sets, Memory}
use Rattle.ppd_slice.specs.Slices.{IsSlice, IsSliceOf}
use Rattle.ppd_top.specs.Queries.{block_refusal, event_refusal, reached_line, refusal}
use Rattle.ppd_top_requests.specs.Questions.{ItemAsked}
use Rattle.ppd_top.specs.Queries.IsWritten.{refuses, answers, fails}
use Rattle.ppd_top.specs.Replies.{IsError, IsItemFailed, IsItemReply, IsSliceReply, WritesSlice}
use Rattle.ppd_top.proofs.OfPast.{diverges, misses, no_item, slice_known, slice_there, some_item}
use Rattle.ppd_top.proofs.QueryWords.{process_refusal}

-- ---- of an interval that is there

module _ (past : Past) (uncut : past.cut.now ≡ past.logs.now) (q k j : ℕ) where
  -- want of memory is free
  item_memory : (e : SessionError) → e ≡ Memory → IsItemFailed (known_by past []) q k j e
  item_memory e is = subst (λ (s : SessionError). IsItemFailed (known_by past []) q k j s) (sym is) tt

  pub item_ok : {A : Type 0} (rs shown : List Reached) → IsSlice past (at q k j) rs → shown ≡ rs → (r : Result (Vec ℕ A) SessionError)
      → IfOk r (λ t. t.items ≡ flat_map (reached_line past.program.now) shown) → IfErr r (λ e. e ≡ Memory) → IsItemReply (known_by past []) q k j r
  item_ok rs shown s e (Ok t) h m =
      inr (slice_there past uncut (at q k j) rs s, record { slice = rs; is_slice = slice_known past uncut (at q k j) rs s; is = h ∙ ap (λ (xs : List Reached). flat_map (reached_line past.program.now) xs) e })
  item_ok rs shown s e (Err x) h m = item_memory x m

  pub item_none : {A : Type 0} → IsIndexOf past.plan.now past.logs.now past.index.now.tables → k < length (rows_at past.index.now.tables q) → (e : FlowError) → e ≡ flow_error.NoEvent → IsSliceOf past (at q k j) (Err e)
      → (r : Result (Vec ℕ A) SessionError) → IfOk r (λ t. t.items ≡ no_event) → IfErr r (λ e. e ≡ Memory) → IsItemReply (known_by past []) q k j r
  item_none index lt e is none (Ok t) h m =
      inl (no_item past uncut (at q k j) index lt (subst (λ (x : FlowError). IsSliceOf past (at q k j) (Err x)) is none) ∙ ap Some (sym h))
  item_none index lt e is none (Err x) h m = item_memory x m

  item_fails : (e : FlowError) → IsSliceOf past (at q k j) (Err e) → IsItemFailed (known_by past []) q k j (error_of e)
  item_fails (flow_error.Diverged p n) u = (some_item past uncut (at q k j) u.0, diverges past uncut p u.1.0 n u.1.1)
  item_fails flow_error.NoEvent u = tt
  item_fails (flow_error.Sets p n c) u = (some_item past uncut (at q k j) u.0, misses past uncut u.1.0 p n c u.1.1)
  item_fails flow_error.Memory u = tt

  pub item_err : (e : FlowError) → IsSliceOf past (at q k j) (Err e) → (s : SessionError) → s ≡ error_of e → IsItemFailed (known_by past []) q k j s
  item_err e u s is = subst (λ (z : SessionError). IsItemFailed (known_by past []) q k j z) (sym is) (item_fails e u)

-- ---- of a slice

-- one line in place of the answer
pub refused_reply : {A : Type 0} (x : Known) (a : ItemAsked) (line : List ℕ) → refusal x (Slice a) ≡ Some line → (r : Result (Vec ℕ A) SessionError) → IfOk r (λ t. t.items ≡ line) → IfErr r (λ e. e ≡ Memory) → IsSliceReply x a r
refused_reply x a line is (Ok t) h m = refuses t.items (is ∙ ap Some (sym h))
refused_reply x a line is (Err e) h m = subst (λ (s : SessionError). IsError (WritesSlice x a) x.program s) (sym m) tt

-- of a past without races
module _ (past : Past) (a : ItemAsked) where
  pub no_process_refuses : process_named past.program.now a.process ≡ None → refusal (known_by past []) (Slice a) ≡ Some no_process
  no_process_refuses e =
      ap (λ o. process_refusal o (λ q. block_refusal (known_by past []) q a.interval (event_refusal (told_at (known_by past []) q a.interval) a.item))) e

  module _ (q : ℕ) (named : process_named past.program.now a.process ≡ Some q) where
    at_process : refusal (known_by past []) (Slice a) ≡ block_refusal (known_by past []) q a.interval (event_refusal (told_at (known_by past []) q a.interval) a.item)
    at_process =
        ap (λ o. process_refusal o (λ q. block_refusal (known_by past []) q a.interval (event_refusal (told_at (known_by past []) q a.interval) a.item))) named

    pub no_block_refuses : nat_lt a.interval (length (get_or (known_by past []).intervals q [])) ≡ false → refusal (known_by past []) (Slice a) ≡ Some (codes "? block\n")
    no_block_refuses e =
        at_process ∙ ap (λ (b : Bool). if b then event_refusal (told_at (known_by past []) q a.interval) a.item else Some (codes "? block\n")) e

    module _ (there : nat_lt a.interval (length (get_or (known_by past []).intervals q [])) ≡ true) where
      at_block : refusal (known_by past []) (Slice a) ≡ event_refusal (told_at (known_by past []) q a.interval) a.item
      at_block = at_process ∙ ap (λ (b : Bool). if b then event_refusal (told_at (known_by past []) q a.interval) a.item else Some (codes "? block\n")) there

      pub told_reply : {A : Type 0} (r : Result (Vec ℕ A) SessionError) → IsItemReply (known_by past []) q a.interval a.item r → IsSliceReply (known_by past []) a r
      told_reply (Ok t) (inl e) = refuses t.items (at_block ∙ e)
      told_reply (Ok t) (inr h) = answers [] t.items (at_block ∙ h.0) (refl, (q, named, h.1))
      told_reply (Err (Diverged failure)) h = fails (Diverged failure) (at_block ∙ h.0) h.1
      told_reply (Err (Sets failure)) h = fails (Sets failure) (at_block ∙ h.0) h.1
      told_reply (Err Memory) h = tt

  -- the interval by its number as it was found
  pub told_at_number : {A : Type 0} (q k n : ℕ) (o : Option ℕ) (r : Result (Vec ℕ A) SessionError) → process_named past.program.now a.process ≡ Some q → n ≡ a.interval → o ≡ Some k → k ≡ n
      → is_some o ≡ nat_lt n (length (get_or (known_by past []).intervals q [])) → IsItemReply (known_by past []) q k a.item r → IsSliceReply (known_by past []) a r
  told_at_number q k n o r named from there same known h =
      let at_n : k ≡ a.interval = same ∙ from in
      let yes : nat_lt a.interval (length (get_or (known_by past []).intervals q [])) ≡ true =
      ap (λ i. nat_lt i (length (get_or (known_by past []).intervals q []))) (sym from) ∙ (sym known ∙ ap is_some there) in
      told_reply q named yes r (subst (λ i. IsItemReply (known_by past []) q i a.item r) at_n h)

  pub none_at_number : {A : Type 0} (q n : ℕ) (o : Option ℕ) (r : Result (Vec ℕ A) SessionError) → process_named past.program.now a.process ≡ Some q → n ≡ a.interval → o ≡ None
      → is_some o ≡ nat_lt n (length (get_or (known_by past []).intervals q [])) → IfOk r (λ t. t.items ≡ codes "? block\n") → IfErr r (λ e. e ≡ Memory) → IsSliceReply (known_by past []) a r
  none_at_number q n o r named from gone known h m =
      let no : nat_lt a.interval (length (get_or (known_by past []).intervals q [])) ≡ false =
      ap (λ i. nat_lt i (length (get_or (known_by past []).intervals q []))) (sym from) ∙ (sym known ∙ ap is_some gone) in
      refused_reply (known_by past []) a (codes "? block\n") (no_block_refuses q named no) r h m

-- of one with races
pub races_refuse : (rs : List Race) → (length rs == 0) ≡ false → races_refusal rs ≡ Some (unwrap_or (races_refusal rs) [])
races_refuse [] e = absurd (true≢false e)
races_refuse (r ∷ rs) e = refl

pub races_refuse_slices : (past : Past) (a : ItemAsked) (rs : List Race) → (length rs == 0) ≡ false → refusal (known_by past rs) (Slice a) ≡ Some (unwrap_or (races_refusal rs) [])
races_refuse_slices past a [] e = absurd (true≢false e)
races_refuse_slices past a (r ∷ rs) e = refl

pub no_races : {A : Type 0} (past : Past) (a : ItemAsked) (races : List Race) (r : Result (Vec ℕ A) SessionError) → races ≡ [] → IsSliceReply (known_by past []) a r → IsSliceReply (known_by past races) a r
no_races past a races r none h = subst (λ (rs : List Race). IsSliceReply (known_by past rs) a r) (sym none) h
