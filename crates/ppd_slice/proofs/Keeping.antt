-- Keeping of replays before the edges of items are asked, one step after another.
use Rattle.std.specs.Borrow.{Bor}
use Rattle.std.specs.Prelude.{IfErr, IfOk, OnOk, nat_lt}
use Rattle.std.proofs.Common.{◌≡◌, ℕ, zero, suc, ◌+◌, ◌<◌, ◌≤◌, Bool, true, List, [], ◌∷◌, Option, Some, None, Result, Ok, Err, inl, inr, refl, ap, sym, ◌∙◌, subst, arith, get_or, length, take}
use Rattle.std.proofs.lemmas.List.{take_more}
use Rattle.ppd_flow.specs.Answers.{IsEdges}
use Rattle.ppd_flow.specs.Far.{RoseWithin, far_in}
use Rattle.ppd_model.specs.declared.flow_error.FlowError.{FlowError}
use Rattle.ppd_model.specs.declared.flow_error.FlowError.TheVariants.{Diverged, NoEvent, Sets, Memory}
use Rattle.ppd_flow_past.specs.declared.past.Past.{Past}
use Rattle.ppd_flow_past.specs.ByReplays.{IsFoundBy, IsReplayFailure, IsReplayed}
use Rattle.ppd_flow_past.specs.Keeping.{AreKeptOf, AreOthersKept, IsAllKept, IsNoneKept, RoseByKept}
use Rattle.ppd_flow_past.specs.Pasts.{IsPast}
use Rattle.ppd_flow_past.specs.SeenBy.{failed_in, items_in}
use Rattle.ppd_flow_tables.specs.declared.tables.Tables.{Tables}
use Rattle.ppd_flow_tables.specs.Tabled.{AreTablesOf, IsTabled}
use Rattle.ppd_model.specs.declared.flow.FlowEdge.{FlowEdge}
use Rattle.ppd_model.specs.declared.flow.Item.{Item}
use Rattle.ppd_slice_search.specs.declared.reached.ItemAt.{ItemAt}
use Rattle.ppd_slice_search.specs.declared.reached.Reached.{Reached}
use Rattle.ppd_slice.specs.Asked.{AreAllKept, AreKeptAmong, AreKeptFor, AreStillKept, IsAsked, IsThere}
use Rattle.ppd_slice.specs.Slices.{CostsSlice, IsNoItem, IsSliceOf}
use Rattle.ppd_slice.proofs.Kept.{all_more, asked_err, asked_free, asked_ok, costs_none, costs_slice, far_free, got_in, is_there, kept_next, kept_only, known_past, rose_then, still_all, still_kept, why_none}

abbrev Kept : Type 0
Kept = List (List (List Item))

-- ---- answers

-- what is so of any answer
pub on_any : {A E P : Type 0} (r : Result A E) → P → OnOk r P
on_any (Ok x) p = p
on_any (Err e) p = tt

pub on_one : {A E P Q : Type 0} (r : Result A E) → OnOk r P → (P → Q) → OnOk r Q
on_one (Ok x) p f = f p
on_one (Err e) p f = tt

-- ---- what is kept

pub from_none : (ps : List ℕ) (none kept : Kept) → IsNoneKept none → AreKeptFor ps none kept → AreKeptFor ps [] kept
from_none ps none kept empty only q some = elim (only q some) [
  | inl was ↦ absurd (nowhere (subst (λ (rows : List (List Item)). 0 < length rows) (empty q) was))
  | inr m ↦ inr m
]
  where
    nowhere : 0 < 0 → ⊥
    nowhere lt = omega (arith, lt)

-- of one of these processes, whatever others there are
pub kept_first : (p : ℕ) (ps : List ℕ) (old new : Kept) → AreOthersKept p old new → AreKeptFor (p ∷ ps) old new
kept_first p ps old new others q some = elim (kept_only p old new others q some) [
  | inl was ↦ inl was
  | inr (inl e) ↦ inr (inl e)
  | inr (inr m) ↦ absurd m
]

take_whole : (ps : List ℕ) (i : ℕ) → length ps ≤ i → take i ps ≡ ps
take_whole [] zero e = refl
take_whole [] (suc i) e = refl
take_whole (p ∷ ps) zero e = absurd (omega (arith, e))
take_whole (p ∷ ps) (suc i) e = ap (λ (xs : List ℕ). p ∷ xs) (take_whole ps i (omega (arith, e)))

module _ (past : Past) where
  -- of one process after others
  pub still_more : (p : ℕ) (a b c : Kept) → AreStillKept past a b → AreOthersKept p b c → IsAllKept past c p → AreStillKept past a c
  still_more p a b c still others all q was = still_kept past p b c others all q (still q was)

  pub all_next : (ps : List ℕ) (i : ℕ) (b c : Kept) → i < length ps → AreAllKept past b (take i ps)
      → AreOthersKept (get_or ps i 0) b c → IsAllKept past c (get_or ps i 0) → AreAllKept past c (take (i + 1) ps)
  all_next ps i b c lt before others all =
      subst (AreAllKept past c) (sym (take_more ps i 0 lt))
      (all_more past (take i ps) (get_or ps i 0) c
      (still_all past (take i ps) b c (still_kept past (get_or ps i 0) b c others all) before) all)

  pub only_next : (ps : List ℕ) (i : ℕ) (a b c : Kept) → i < length ps → AreKeptFor ps a b
      → AreOthersKept (get_or ps i 0) b c → AreKeptFor ps a c
  only_next ps i a b c lt before others =
      kept_next ps (get_or ps i 0) a b c (got_in ps i 0 lt) before (kept_only (get_or ps i 0) b c others)

  pub all_whole : (ps : List ℕ) (i : ℕ) (kept : Kept) → length ps ≤ i → AreAllKept past kept (take i ps) → AreAllKept past kept ps
  all_whole ps i kept e all = subst (AreAllKept past kept) (take_whole ps i e) all

  -- ---- failures

  module _ (a : ItemAt) where
    pub failed_slice : (IsNoItem past a → ⊥) → (e : FlowError) → IsReplayFailure past e → IsSliceOf past a (Err e)
    failed_slice there (Diverged q n) f = (there, f)
    failed_slice there NoEvent f = absurd f
    failed_slice there (Sets q n c) f = absurd f
    failed_slice there Memory f = tt

    pub failed_slice_of : {A : Type 0} (r : Result A FlowError) → (IsNoItem past a → ⊥) → IfErr r (IsReplayFailure past)
        → IfErr r (λ e. IsSliceOf past a (Err e))
    failed_slice_of (Ok x) there f = tt
    failed_slice_of (Err e) there f = failed_slice there e f

    -- it fails in the interval of the item
    pub failed_first : (e : FlowError) → IsReplayed past a.process a.interval (Err e) → IsSliceOf past a (Err e)
    failed_first (Diverged q n) f = (
      λ none. some_none (sym f.1 ∙ none.0),
      (a.interval, subst (λ p. failed_in past p a.interval ≡ Some n) (sym f.0) f.1),
    )
      where
        some_none : {n : ℕ} → ◌≡◌ {A = Option ℕ} (Some n) None → ⊥
        some_none e = cc
    failed_first NoEvent f = absurd f
    failed_first (Sets q n c) f = absurd f
    failed_first Memory f = tt

    pub failed_asked : (e : FlowError) → IsReplayFailure past e → IsAsked past a (Err e)
    failed_asked (Diverged q n) f = f
    failed_asked NoEvent f = absurd f
    failed_asked (Sets q n c) f = absurd f
    failed_asked Memory f = tt

    pub unread_asked : (e : FlowError) → IsReplayed past a.process a.interval (Err e) → IsAsked past a (Err e)
    unread_asked (Diverged q n) f = (a.interval, subst (λ p. failed_in past p a.interval ≡ Some n) (sym f.0) f.1)
    unread_asked NoEvent f = absurd f
    unread_asked (Sets q n c) f = absurd f
    unread_asked Memory f = tt

  -- ---- what it costs

  -- after a step that costs nothing, or before one
  pub rose_still : (a b : Kept) (n m o : ℕ) → RoseByKept past a b n m → o ≡ m → RoseByKept past a b n o
  rose_still a b n m o f e = omega (arith, f, e)

  pub rose_later : (a b : Kept) (n m o : ℕ) → m ≡ n → RoseByKept past a b m o → RoseByKept past a b n o
  rose_later a b n m o e f = omega (arith, e, f)

  pub costs_all : (old first kept : Kept) (n m o : ℕ) (r : Result (List Reached) FlowError) → RoseByKept past old first n m
      → OnOk r (RoseByKept past first kept m o) → IfOk r (λ rs. AreKeptAmong rs kept) → CostsSlice past n o r
  costs_all old first kept n m o (Ok rs) f g among = costs_slice past kept rs old n o among (rose_then past old first kept n m o f g)
  costs_all old first kept n m o (Err e) f g among = tt

-- ---- of a past with what is kept

module _ (past known : Past) (r : Bor Kept) (kept : Kept) (e : r.now ≡ kept) (is : known ≡ record past { kept = r }) where
  pub past_known : IsPast past → AreKeptOf past kept → IsPast known
  past_known h k = subst IsPast (sym is) (known_past past r kept e h k)

  pub known_tabled : IsPast past → AreKeptOf past kept → (tables : Tables) → AreTablesOf past tables
      → IsTabled known tables
  known_tabled h k tables t = record {
    past_is = past_known h k;
    tables_are = subst (λ (x : Past). AreTablesOf x tables) (sym is) t;
  }

  module _ (a : ItemAt) (n m : ℕ) where
    abbrev IsTold : Past → Result Bool FlowError → Type 0
    IsTold x res =
        IsFoundBy x ((a.process, a.interval) ∷ []) (Ok (nat_lt a.item (length (items_in x a.process a.interval)))) n m res

    pub there_known : (there : Bool) → IsTold known (Ok there) → IsThere past a there
    there_known there f = is_there past r kept e a n m there (subst (λ x. IsTold x (Ok there)) is f)

    pub items_free : (there : Bool) → IsTold known (Ok there) → IsAllKept past kept a.process → m ≡ n
    items_free there f all = costs_none past r kept e a n m there (subst (λ x. IsTold x (Ok there)) is f) all

    pub items_fail : (error : FlowError) → IsTold known (Err error) → IsReplayed past a.process a.interval (Err error)
    items_fail error f = why_none past r kept e a n m error (subst (λ x. IsTold x (Err error)) is f)

    pub far_free_known : IsAllKept past kept a.process → RoseWithin known a.process n m → m ≡ n
    far_free_known all f = far_free past r kept e a.process n m all (subst (λ x. RoseWithin x a.process n m) is f)

    pub far_is : (res : Result (List ℕ) FlowError) → IfOk res (λ found. found ≡ far_in known a.process a.interval a.item)
        → IfOk res (λ found. found ≡ far_in past a.process a.interval a.item)
    far_is res f = subst (λ x. IfOk res (λ found. found ≡ far_in x a.process a.interval a.item)) is f

    pub far_fails : (res : Result (List ℕ) FlowError) → IfErr res (IsReplayFailure known) → IfErr res (IsReplayFailure past)
    far_fails (Ok found) f = tt
    far_fails (Err error) f = by error (subst (λ x. IsReplayFailure x error) is f)
      where
        by : (x : FlowError) → IsReplayFailure (record past { kept = r }) x → IsReplayFailure past x
        by (Diverged q j) g = g
        by NoEvent g = g
        by (Sets q j c) g = g
        by Memory g = g

    module _ (own : IsAllKept past kept a.process) (far : AreAllKept past kept (far_in past a.process a.interval a.item)) where
      pub edges_ok : (es : List FlowEdge) → IsEdges known a.process a.interval a.item n m (Ok es) → IsAsked past a (Ok (Some es))
      edges_ok es f = asked_ok past r kept e a n m own far es (subst (λ x. IsEdges x a.process a.interval a.item n m (Ok es)) is f)

      pub edges_free_known : (es : List FlowEdge) → IsEdges known a.process a.interval a.item n m (Ok es) → m ≡ n
      edges_free_known es f = asked_free past r kept e a n m own far es (subst (λ x. IsEdges x a.process a.interval a.item n m (Ok es)) is f)

      pub edges_err : (error : FlowError) → IsThere past a true → IsEdges known a.process a.interval a.item n m (Err error)
          → IsAsked past a (Err error)
      edges_err error there f =
          asked_err past r kept e a n m own far error there (subst (λ x. IsEdges x a.process a.interval a.item n m (Err error)) is f)
