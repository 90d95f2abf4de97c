-- The interval logs of a log without refusals fit the plan.
use Rattle.ppd_ast.specs.declared.limits.TheConstants.{MOST_CALLS}
use Rattle.ppd_ast.specs.declared.plan.Plan.{Plan}
use Rattle.ppd_model.proofs.EntryWords.{log_in, new_interval, with_piece, with_postlog, with_end}
use Rattle.ppd_model.specs.Changed.{change}
use Rattle.ppd_model.specs.Entries.{is_end}
use Rattle.ppd_model.specs.IntervalLogs.{Indexing, IntervalLog, LoggedInterval, add_piece, begun_indexing, blocks_of, functions_in, index_step, indexed, interval_at, interval_log, left_interval, left_open, log_by}
use Rattle.ppd_model.specs.Pieces.{Piece, finish, nested, postlog, sync, unfinished, unit}
use Rattle.ppd_model.specs.declared.entry.Entry.{Entry}
use Rattle.ppd_model.specs.declared.entry.Entry.TheVariants as entry
use Rattle.ppd_index.proofs.Passed.{HasPassed, passed, room}
use Rattle.ppd_index.proofs.Vocabulary.{fits_postlog, innermost_of, is_same}
use Rattle.ppd_index.specs.Fitting.{AreFittingPieces, IsFittingLog, fits_piece}
use Rattle.ppd_index.specs.Refusals.{first_from, refusal, standing}
use Rattle.ppd_sem.specs.Blocks.{block_kind, is_function}
use Rattle.std.proofs.Common.{Bool, List, None, Option, Some, [], arith, false, refl, subst, suc, sym, true, zero, ℕ, ◌++◌, ◌+◌, ◌<◌, ◌∷◌, ◌≡◌, ◌≤◌}
use Rattle.std.proofs.lemmas.Bool.{eqb-true}
use Rattle.std.specs.Option.{option_or as or_else}
use Rattle.std.specs.Prelude.{fold, if◌then◌else◌, nat_eq, slice_get, ℤ, ⊤, ◌||◌}

-- each of these intervals' logs fits
abbrev pub EachFits : Plan → List LoggedInterval → Type 0
EachFits plan [] = ⊤
EachFits plan (i ∷ is) = IsFittingLog plan (log_by plan i) × EachFits plan is

pieces_more : (plan : Plan) (b n : ℕ) (p : Piece) (xs : List (ℕ × Piece)) → AreFittingPieces plan b xs → fits_piece plan b p ≡ true → AreFittingPieces plan b (xs ++ (n, p) ∷ [])
pieces_more plan b n p [] h is = (is, tt)
pieces_more plan b n p (x ∷ xs) h is = (h.0, pieces_more plan b n p xs h.1 is)

each_more : (plan : Plan) (is : List LoggedInterval) (i : LoggedInterval) → EachFits plan is → IsFittingLog plan (log_by plan i) → EachFits plan (is ++ i ∷ [])
each_more plan [] i h f = (f, tt)
each_more plan (j ∷ is) i h f = (h.0, each_more plan is i h.1 f)

add_at : (plan : Plan) (n : ℕ) (p : Piece) (k : ℕ) (is : List LoggedInterval) → EachFits plan is → fits_piece plan (interval_at is k).extent.block p ≡ true → EachFits plan (change (with_piece n p) k is)
add_at plan n p k [] h f = tt
add_at plan n p zero (i ∷ is) h f = (record { values = h.0.values; depth = h.0.depth; pieces = pieces_more plan i.extent.block n p i.pieces h.0.pieces f }, h.1)
add_at plan n p (suc k) (i ∷ is) h f = (h.0, add_at plan n p k is h.1 f)

-- a piece that fits whatever the block of its interval
add : (plan : Plan) (n : ℕ) (p : Piece) (ks : List ℕ) (is : List LoggedInterval) → EachFits plan is → ((b : ℕ) → fits_piece plan b p ≡ true) → EachFits plan (add_piece n p ks is)
add plan n p [] is h f = h
add plan n p (k ∷ ks) is h f = add_at plan n p k is h (f (interval_at is k).extent.block)

depth_at : (plan : Plan) (k : ℕ) (is : List LoggedInterval) → EachFits plan is → functions_in plan (interval_at is k).blocks ≤ MOST_CALLS
depth_at plan k [] h = omega arith
depth_at plan zero (i ∷ is) h = h.0.depth
depth_at plan (suc k) (i ∷ is) h = depth_at plan k is h.1

depth_within : (plan : Plan) (ks : List ℕ) (is : List LoggedInterval) → EachFits plan is → functions_in plan (blocks_of ks is) ≤ MOST_CALLS
depth_within plan [] is h = omega arith
depth_within plan (k ∷ ks) is h = depth_at plan k is h

-- where an interval ends is no part of its log
end_at : (plan : Plan) (n k : ℕ) (is : List LoggedInterval) → EachFits plan is → EachFits plan (change (with_end n) k is)
end_at plan n k [] h = tt
end_at plan n zero (i ∷ is) h = (record { values = h.0.values; depth = h.0.depth; pieces = h.0.pieces }, h.1)
end_at plan n (suc k) (i ∷ is) h = (h.0, end_at plan n k is h.1)

left_at : (plan : Plan) (n : ℕ) (values : List ℤ) (k : ℕ) (is : List LoggedInterval) → EachFits plan is → fits_piece plan (interval_at is k).extent.block (postlog values) ≡ true → EachFits plan (change (with_postlog n values) k is)
left_at plan n values k [] h f = tt
left_at plan n values zero (i ∷ is) h f = (record { values = h.0.values; depth = h.0.depth; pieces = pieces_more plan i.extent.block n (postlog values) i.pieces h.0.pieces f }, h.1)
left_at plan n values (suc k) (i ∷ is) h f = (h.0, left_at plan n values k is h.1 f)

open_fits : (plan : Plan) (n : ℕ) (ks : List ℕ) (is : List LoggedInterval) → EachFits plan is → EachFits plan (left_open n ks is)
open_fits plan n [] is h = h
open_fits plan n (k ∷ ks) is h =
    let i = interval_at is k in
    open_fits plan n ks (add_piece i.extent.prelog (unfinished k i.extent.block) ks (change (with_end n) k is))
    (add plan i.extent.prelog (unfinished k i.extent.block) ks (change (with_end n) k is) (end_at plan n k is h) (λ b. refl))

depth_more : (f : Bool) (d : ℕ) → d ≤ MOST_CALLS → (f ≡ true → d < MOST_CALLS) → (if f then 1 else 0) + d ≤ MOST_CALLS
depth_more true d h r = let lt : d < MOST_CALLS = r refl in omega (arith, lt)
depth_more false d h r = omega (arith, h)

same_block : (b c : ℕ) → nat_eq c b ≡ true → b ≡ c
same_block b c h = sym (eqb-true c b h)

left_fits : (plan : Plan) (n b : ℕ) (ks : List ℕ) (is : List LoggedInterval) (values : List ℤ) → EachFits plan is → is_same b (innermost_of ks is) ≡ true → fits_postlog (slice_get plan.blocks b) values ≡ true → EachFits plan (left_interval n values ks is)
left_fits plan n b [] is values h s f = h
left_fits plan n b (k ∷ ks) is values h s f =
    let i = interval_at is k in
    let fits : fits_postlog (slice_get plan.blocks i.extent.block) values ≡ true = subst (λ c. fits_postlog (slice_get plan.blocks c) values ≡ true) (same_block b i.extent.block s) f in
    add plan i.extent.prelog (nested k i.extent.block values) ks (change (with_postlog n values) k is) (left_at plan n values k is h fits) (λ c. fits)

fits_step : (plan : Plan) (body : ℕ) (x : Indexing) (ended : Bool) (e : Entry) → EachFits plan x.intervals → HasPassed plan body (standing plan x ended) e → EachFits plan (index_step x e).intervals
fits_step plan body x ended (entry.Prelog b values) h w = each_more plan x.intervals (new_interval x b values) h (record {
  values = w.fitting;
  depth = depth_more (is_function (block_kind plan b)) (functions_in plan (blocks_of x.running x.intervals)) (depth_within plan x.running x.intervals h) (room plan body (standing plan x ended) b values w.paired);
  pieces = tt;
})
fits_step plan body x ended (entry.Unit u values) h w = add plan x.entry (unit u values) x.running x.intervals h (λ b. w.fitting)
fits_step plan body x ended (entry.Sync kind object number value reads writes) h w = add plan x.entry (sync kind object number value) x.running x.intervals h (λ b. refl)
fits_step plan body x ended (entry.Postlog b values) h w = left_fits plan x.entry b x.running x.intervals values h w.paired w.fitting
fits_step plan body x ended (entry.End how rest reads writes) h w = open_fits plan x.entry x.running (add_piece x.entry (finish how rest) x.running x.intervals) (add plan x.entry (finish how rest) x.running x.intervals h (λ b. refl))

pub or_none : {A : Type 0} (a b : Option A) → or_else a b ≡ None → (a ≡ None) × (b ≡ None)
or_none None b h = (refl, h)
or_none (Some a) b h = absurd (cc h)

fits_fold : (plan : Plan) (body p : ℕ) (es : List Entry) (x : Indexing) (ended : Bool) → EachFits plan x.intervals → first_from plan body p x ended es ≡ None → EachFits plan (fold index_step x es).intervals
fits_fold plan body p [] x ended h none = h
fits_fold plan body p (e ∷ es) x ended h none =
    let both = or_none (refusal plan body p (standing plan x ended) e) (first_from plan body p (index_step x e) (ended || is_end e) es) none in
    let w : HasPassed plan body (standing plan x ended) e = passed plan body p (standing plan x ended) e both.0 in
    fits_fold plan body p es (index_step x e) (ended || is_end e) (fits_step plan body x ended e h w) both.1

fits_at : (plan : Plan) (k : ℕ) (is : List LoggedInterval) (log : IntervalLog) → EachFits plan is → log_in plan (slice_get is k) ≡ Some log → IsFittingLog plan log
fits_at plan k [] log h e = absurd (cc e)
fits_at plan zero (i ∷ is) log h e = let same : log_by plan i ≡ log = cc e in subst (λ l. IsFittingLog plan l) same h.0
fits_at plan (suc k) (i ∷ is) log h e = fits_at plan k is log h.1 e

pub logs_fit : (plan : Plan) (body p : ℕ) (entries : List Entry) (k : ℕ) (log : IntervalLog) → first_from plan body p begun_indexing false entries ≡ None → interval_log plan entries k ≡ Some log → IsFittingLog plan log
logs_fit plan body p entries k log none e = fits_at plan k (indexed entries) log (fits_fold plan body p entries begun_indexing false tt none) e
