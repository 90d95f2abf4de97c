-- Where an edge's recorded write set has a cell, the entry that ends the edge records it.
use Rattle.std.proofs.Common.{◌≡◌, ℕ, zero, suc, ◌+◌, Bool, true, false, ◌||◌, List, [], ◌∷◌, Some, None, refl, ap, sym, get_or, map, true≢false}
use Rattle.std.specs.Prelude.{slice_get, ⊤}
use Rattle.ppd_ast.specs.declared.plan.Plan.{Plan}
use Rattle.ppd_ast.specs.declared.program.Program.{Program}
use Rattle.ppd_ast.specs.Members.{has}
use Rattle.ppd_model.specs.declared.entry.Entry.{Entry}
use Rattle.ppd_model.specs.declared.entry.Entry.TheVariants as entry
use Rattle.ppd_model.specs.IntervalLogs.{Indexing, begun_indexing, index_step}
use Rattle.ppd_model.specs.Entries.{is_end}
use Rattle.ppd_graph.specs.declared.sets.EdgeSets.{EdgeSets}
use Rattle.ppd_graph.specs.LogRecord.{no_sets, sets_from}
use Rattle.ppd_index.specs.Refusals.{first_bad, first_from, first_in_lists, refusal, standing}
use Rattle.ppd_index.proofs.Fitting.{or_none}
use Rattle.ppd_graph.specs.Ends.{ending, ends_edge, syncs_before}
use Rattle.law_flow.specs.Missing.{writes_of}

-- ---- an end is the last entry

abbrev EndsLast : List Entry → Type 0
EndsLast [] = ⊤
EndsLast (e ∷ es) = (is_end e ≡ true → es ≡ []) × EndsLast es

or_true : (a b : Bool) → b ≡ true → (a || b) ≡ true
or_true true b h = refl
or_true false b h = h

module _ (plan : Plan) (body p : ℕ) where
  nothing_after : (x : Indexing) (es : List Entry) (ended : Bool) → ended ≡ true
      → first_from plan body p x ended es ≡ None
      → es ≡ []
  nothing_after x [] ended h none = refl
  nothing_after x (e ∷ es) false h none = absurd (true≢false (sym h))
  nothing_after x (e ∷ es) true h none =
      absurd (cc (or_none (refusal plan body p (standing plan x true) e)
      (first_from plan body p (index_step x e) (true || is_end e) es) none).0)

  ends_last : (x : Indexing) (es : List Entry) (ended : Bool) → first_from plan body p x ended es ≡ None → EndsLast es
  ends_last x [] ended none = tt
  ends_last x (e ∷ es) ended none =
      let rest : first_from plan body p (index_step x e) (ended || is_end e) es ≡ None =
      (or_none (refusal plan body p (standing plan x ended) e)
      (first_from plan body p (index_step x e) (ended || is_end e) es) none).1 in (
        (λ end. nothing_after (index_step x e) es (ended || is_end e) (or_true ended (is_end e) end) rest),
        ends_last (index_step x e) es (ended || is_end e) rest,
      )

pub all_end_last : (program : Program) (plan : Plan) (q : ℕ) (lists : List (List Entry)) (p : ℕ)
    → first_in_lists program plan q lists ≡ None → EndsLast (get_or lists p [])
all_end_last program plan q [] p none = tt
all_end_last program plan q (es ∷ lists) zero none =
    ends_last plan (program.functions + q) q begun_indexing es false
    (or_none (first_bad program plan q es) (first_in_lists program plan (q + 1) lists) none).0
all_end_last program plan q (es ∷ lists) (suc p) none =
    all_end_last program plan (q + 1) lists p
    (or_none (first_bad program plan q es) (first_in_lists program plan (q + 1) lists) none).1

-- ---- the entry that ends an edge

-- entry n ends edge i, and its write set has the cell
pub record IsEntry (c : ℕ) (es : List Entry) (i n : ℕ) : Type 0 where
  pub entry : Entry
  pub there : slice_get es n ≡ Some entry
  pub ends : ends_edge entry ≡ true
  pub writes : has (writes_of entry) c ≡ true
  pub before : syncs_before es n ≡ i

-- after an entry that is no synchronization, and after one that is
one_more : (c : ℕ) (e : Entry) (es : List Entry) (i n j : ℕ) (h : IsEntry c es i n)
    → syncs_before (e ∷ es) (suc n) ≡ j → IsEntry c (e ∷ es) j (suc n)
one_more c e es i n j h b =
    record { entry = h.entry; there = h.there; ends = h.ends; writes = h.writes; before = b }

module _ (c : ℕ) where
  abbrev IsIn : List EdgeSets → ℕ → Type 0
  IsIn sets i = has (get_or sets i no_sets).writes c ≡ true

  pub entry_records : (es : List Entry) (i : ℕ) → EndsLast es → IsIn (sets_from None es) i
      → IsEntry c es i (ending i es)
  entry_records [] zero last h = absurd (true≢false (sym h))
  entry_records [] (suc i) last h = absurd (true≢false (sym h))
  entry_records (entry.Sync kind object number value reads writes ∷ es) zero last h = record {
    entry = entry.Sync kind object number value reads writes;
    there = refl;
    ends = refl;
    writes = h;
    before = refl;
  }
  entry_records (entry.Sync kind object number value reads writes ∷ es) (suc i) last h =
      let rest = entry_records es i last.1 h in
      one_more c (entry.Sync kind object number value reads writes) es i (ending i es) (suc i) rest (ap suc rest.before)
  entry_records (entry.End status rest reads writes ∷ []) zero last h = record {
    entry = entry.End status rest reads writes;
    there = refl;
    ends = refl;
    writes = h;
    before = refl;
  }
  entry_records (entry.End status rest reads writes ∷ []) (suc i) last h = absurd (true≢false (sym h))
  entry_records (entry.End status rest reads writes ∷ e ∷ es) i last h = absurd (cc (last.0 refl))
  entry_records (entry.Prelog b values ∷ es) zero last h =
      let rest = entry_records es 0 last.1 h in
      one_more c (entry.Prelog b values) es 0 (ending 0 es) 0 rest rest.before
  entry_records (entry.Prelog b values ∷ es) (suc i) last h =
      let rest = entry_records es (suc i) last.1 h in
      one_more c (entry.Prelog b values) es (suc i) (ending (suc i) es) (suc i) rest rest.before
  entry_records (entry.Unit u values ∷ es) zero last h =
      let rest = entry_records es 0 last.1 h in
      one_more c (entry.Unit u values) es 0 (ending 0 es) 0 rest rest.before
  entry_records (entry.Unit u values ∷ es) (suc i) last h =
      let rest = entry_records es (suc i) last.1 h in
      one_more c (entry.Unit u values) es (suc i) (ending (suc i) es) (suc i) rest rest.before
  entry_records (entry.Postlog b values ∷ es) zero last h =
      let rest = entry_records es 0 last.1 h in
      one_more c (entry.Postlog b values) es 0 (ending 0 es) 0 rest rest.before
  entry_records (entry.Postlog b values ∷ es) (suc i) last h =
      let rest = entry_records es (suc i) last.1 h in
      one_more c (entry.Postlog b values) es (suc i) (ending (suc i) es) (suc i) rest rest.before

pub sets_of_process : (lists : List (List Entry)) (p i : ℕ)
    → get_or (get_or (map (sets_from None) lists) p []) i no_sets
    ≡ get_or (sets_from None (get_or lists p [])) i no_sets
sets_of_process [] p zero = refl
sets_of_process [] p (suc i) = refl
sets_of_process (es ∷ lists) zero i = refl
sets_of_process (es ∷ lists) (suc p) i = sets_of_process lists p i
