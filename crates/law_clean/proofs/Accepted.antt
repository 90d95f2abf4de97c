-- Entries that the index accepts are accepted when they are cut off inside an interval.
use Rattle.law_clean.specs.Cuts.{stop}
use Rattle.ppd_ast.specs.declared.plan.Plan.{Plan}
use Rattle.ppd_model.specs.Entries.{is_end}
use Rattle.ppd_model.specs.IntervalLogs.{Indexing, index_step}
use Rattle.ppd_model.specs.declared.entry.Entry.{Entry}
use Rattle.ppd_model.specs.declared.entry.Entry.TheVariants as entry
use Rattle.ppd_graph.proofs.FlowWords.{is_sync}
use Rattle.ppd_index.proofs.Passed.{HasPassed, passed}
use Rattle.ppd_index.proofs.Vocabulary.{innermost_of}
use Rattle.ppd_index.specs.Refusals.{first_from, is_paired, refusal, standing}
use Rattle.std.proofs.Common.{Bool, List, None, Option, Some, [], ap, false, refl, sym, true, true≢false, ℕ, ℤ, ◌++◌, ◌||◌, ◌∙◌, ◌∷◌, ◌≡◌}
use Rattle.std.proofs.lemmas.Option.{none-some}
use Rattle.std.specs.Option.{option_or}
use Rattle.std.specs.Prelude.{is_some}

pub both_none : {A : Type 0} (a b : Option A) → option_or a b ≡ None → (a ≡ None) × (b ≡ None)
both_none None b e = (refl, e)
both_none (Some x) b e = absurd (none-some x (sym e))

module _ (plan : Plan) (body p : ℕ) where
  -- an interval runs here, and no end stood before
  pub record CanStop (x : Indexing) (ended : Bool) : Type 0 where
    pub goes_on : ended ≡ false
    pub first : ℕ
    pub rest : List ℕ
    pub running : x.running ≡ first ∷ rest

  -- the cut log's end is accepted
  pub stops : (x : Indexing) (ended : Bool) → CanStop x ended → first_from plan body p x ended (stop ∷ []) ≡ None
  stops x ended c =
      ap (λ b. option_or (refusal plan body p (standing plan x b) stop) (first_from plan body p (index_step x stop) (b || true) [])) c.goes_on
      ∙ ap (λ ks. option_or (refusal plan body p (record { entry = x.entry; ended = false; innermost = innermost_of ks x.intervals; functions = (standing plan x false).functions }) stop) None) c.running

  -- the state after some entries
  abbrev pub After : List Entry → (Indexing → Bool → Type 0) → Indexing → Bool → Type 0
  After [] P x ended = P x ended
  After (e ∷ es) P x ended = After es P (index_step x e) (ended || is_end e)

  pub accepted_cut : (front : List Entry) (x : Indexing) (ended : Bool) (rest : List Entry) → first_from plan body p x ended (front ++ rest) ≡ None → After front CanStop x ended
      → first_from plan body p x ended (front ++ stop ∷ []) ≡ None
  accepted_cut [] x ended rest ok c = stops x ended c
  accepted_cut (e ∷ es) x ended rest ok c =
      let both = both_none (refusal plan body p (standing plan x ended) e) (first_from plan body p (index_step x e) (ended || is_end e) (es ++ rest)) ok in
      ap (λ o. option_or o (first_from plan body p (index_step x e) (ended || is_end e) (es ++ stop ∷ []))) both.0
      ∙ accepted_cut es (index_step x e) (ended || is_end e) rest both.1 c

  -- ---- where an accepted log can be cut

  pub unrefused : (x : Indexing) (ended : Bool) (e : Entry) → refusal plan body p (standing plan x ended) e ≡ None → (ended ≡ false) × (is_paired plan body (standing plan x ended) e ≡ true)
  unrefused x ended e ok =
      let h : HasPassed plan body (standing plan x ended) e = passed plan body p (standing plan x ended) e ok in (h.goes_on, h.paired)

  -- what is needed of a state inside an interval
  abbrev IsInside : Indexing → Type 0
  IsInside x = (first : ℕ) × (rest : List ℕ) × (x.running ≡ first ∷ rest)

  inside : (x : Indexing) (ks : List ℕ) → x.running ≡ ks → is_some (innermost_of ks x.intervals) ≡ true → IsInside x
  inside x [] r ok = absurd (true≢false (sym ok))
  inside x (k ∷ ks) r ok = (k, ks, r)

  -- after a synchronization that is accepted, and after a unit that is
  pub sync_stops : (x : Indexing) (ended : Bool) (e : Entry) → is_sync e ≡ true → refusal plan body p (standing plan x ended) e ≡ None → CanStop (index_step x e) (ended || is_end e)
  sync_stops x ended (entry.Sync kind object number value reads writes) s ok =
      let u = unrefused x ended (entry.Sync kind object number value reads writes) ok in
      let i = inside x x.running refl u.1 in record { goes_on = ap (λ b. b || false) u.0; first = i.0; rest = i.1; running = i.2 }
  sync_stops x ended (entry.Prelog b values) s ok = absurd (true≢false (sym s))
  sync_stops x ended (entry.Unit u values) s ok = absurd (true≢false (sym s))
  sync_stops x ended (entry.Postlog b values) s ok = absurd (true≢false (sym s))
  sync_stops x ended (entry.End how rest reads writes) s ok = absurd (true≢false (sym s))

  pub unit_stops : (x : Indexing) (ended : Bool) (u : ℕ) (values : List ℤ) → CanStop x ended → CanStop (index_step x (entry.Unit u values)) (ended || false)
  unit_stops x ended u values c = record {
    goes_on = ap (λ b. b || false) c.goes_on;
    first = c.first;
    rest = c.rest;
    running = c.running;
  }
