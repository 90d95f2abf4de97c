-- Each interval's log has the pieces that are to come, where the steps of the process are nested.
use Rattle.ppd_model.specs.Setting.{Setting}
use Rattle.std.proofs.Common.{◌≡◌, ℕ, zero, suc, ◌+◌, ◌<◌, List, [], ◌∷◌, length, get_or, map, fold, Option, Some, None, refl, ap, sym, ◌∙◌, subst, arith}
use Rattle.std.proofs.lemmas.Option.{none-some, same_Some}
use Rattle.std.specs.Prelude.{slice_get}
use Rattle.ppd_model.specs.IntervalLogs.{Indexing, LoggedInterval, begun_indexing, functions_in, index_step, interval_log}
use Rattle.ppd_model.proofs.EntryWords.{log_in, no_interval}
use Rattle.ppd_sem.specs.Process.{started}
use Rattle.ppd_model.specs.Logs.{begun_log, closed_log, closed_logs, log_of}
use Rattle.ppd_model.proofs.LogWords.{logs_from}
use Rattle.ppd_model.specs.Story.{Moment, told}
use Rattle.law_steps.specs.OpenBlocks.Stack.{block_frames}
use Rattle.law_steps.specs.Coming.Pieces.{coming}
use Rattle.law_steps.proofs.Vocabulary.Nested.{IsNested}
use Rattle.law_steps.specs.Coming.Openings.{AreAlike, IsLogOf, Opening, opening, opening_of}
use Rattle.law_steps.proofs.Coming.Indexes.{Grows}
use Rattle.law_steps.proofs.Coming.Later.{Begins, Comes, finals, finals_are}
use Rattle.law_steps.proofs.Coming.LaterSteps.{comes}

module _ (setting : Setting) where
  log_there : (q : ℕ) (moments : List (List Moment)) (p : ℕ) → p < length moments
      → get_or (map closed_log (logs_from setting q moments)) p [] ≡ closed_log
      (log_of setting (q + p) (get_or moments p []))
  log_there q [] p h = let z : ⊥ = omega (arith, h) in absurd z
  log_there q (ms ∷ rest) zero h = let e : q ≡ q + 0 =
      omega arith in ap (λ z. closed_log (log_of setting z ms)) e
  log_there q (ms ∷ rest) (suc p) h =
      let e : q + 1 + p ≡ q + suc p = omega arith in
      log_there (q + 1) rest p (omega (arith, h))
      ∙ ap (λ z. closed_log (log_of setting z (get_or rest p []))) e

  abbrev pub begun_index : ℕ → Indexing
  begun_index p = fold index_step begun_indexing (begun_log setting p).entries

  abbrev pub ended_index : ℕ → List Moment → Indexing
  ended_index p ms = finals setting.program setting.plan (begun_log setting p) ms (begun_index p)

  -- the depth of the interval that an opening began
  abbrev pub AreDeepAt : Option Opening → Option LoggedInterval → Type 0
  AreDeepAt op o = (x : Opening) (i : LoggedInterval) → op ≡ Some x → o ≡ Some i
      → functions_in setting.plan i.blocks ≡ block_frames setting.plan x.proc.frames

  as_log : (k : ℕ) (op : Option Opening) (o : Option LoggedInterval) → Begins setting.program setting.plan k op o → AreDeepAt op o
      → AreAlike (IsLogOf setting.program setting.plan k) op (log_in setting.plan o)
  as_log k None None b deep = tt
  as_log k None (Some o) b deep = absurd (none-some o (sym b))
  as_log k (Some op) None b deep = absurd (none-some b.now b.there)
  as_log k (Some op) (Some o) b deep =
      let e : b.now ≡ o = same_Some b.now o (sym b.there) in
      record {
        block = ap (λ (z : LoggedInterval). z.extent.block) (sym e) ∙ b.block;
        values = ap (λ (z : LoggedInterval). z.values) (sym e) ∙ b.values;
        depth = deep op o refl refl;
        pieces = ap (λ (z : LoggedInterval). map (λ q. q.1) z.pieces) (sym e) ∙ b.pieces;
      }

  begins_at : (p : ℕ) (ms : List Moment) → IsNested setting.program setting.plan (started setting.program setting.plan p setting.budget) ms 1 → (k : ℕ)
      → Begins setting.program setting.plan k (opening_of setting p ms k) (slice_get (ended_index p ms).intervals k)
  begins_at p ms h zero =
      let c : Comes setting.program setting.plan (started setting.program setting.plan p setting.budget) ms
      (finals setting.program setting.plan (begun_log setting p) ms) 0 1 =
      comes setting.program setting.plan ms (begun_log setting p) 1 h in
      let i0 = get_or (begun_index p).intervals 0
      no_interval in
      let one : 0 < 1 = omega arith in
      let g : Grows i0 (coming setting.program setting.plan (started setting.program setting.plan p setting.budget) ms None 1 0).pieces
      (slice_get (ended_index p ms).intervals 0) =
      c.own (begun_index p) 0 i0 1 refl refl (record { falls = (one, tt); runs = refl; there = refl }) in
      record { now = g.now; there = g.there; block = g.block; values = g.values; pieces = g.pieces }
  begins_at p ms h (suc q) =
      let c : Comes setting.program setting.plan (started setting.program setting.plan p setting.budget) ms
      (finals setting.program setting.plan (begun_log setting p) ms) 0 1 =
      comes setting.program setting.plan ms (begun_log setting p) 1 h in
      let one : 0 < 1 = omega arith in
      let e : 1 + q ≡ suc q = omega arith in
      subst (λ z. Begins setting.program setting.plan z (opening setting.program setting.plan (started setting.program setting.plan p setting.budget) ms q)
      (slice_get (ended_index p ms).intervals z)) e
      (c.begins (begun_index p) q 1 refl refl (one, tt))

  -- the log of each interval is that of its opening, for a process whose steps are nested
  pub logs_nested : (h : List ℕ) (p k : ℕ) → p < length (told setting h).moments
      → (let ms : List Moment = get_or (told setting h).moments p [] in IsNested setting.program setting.plan
      (started setting.program setting.plan p setting.budget) ms 1
      → AreDeepAt (opening_of setting p ms k) (slice_get (ended_index p ms).intervals k)
      → AreAlike (IsLogOf setting.program setting.plan k) (opening_of setting p ms k)
      (interval_log setting.plan (get_or (closed_logs setting h).lists p []) k))
  logs_nested h p k there nested deep =
      let ms = get_or (told setting h).moments p [] in
      let e : get_or (closed_logs setting h).lists p [] ≡ closed_log
      (log_of setting (0 + p) ms) = log_there 0 (told setting h).moments p there in
      let e0 : 0 + p ≡ p = omega arith in
      let f : fold index_step begun_indexing
      (closed_log (log_of setting p ms)) ≡ ended_index p ms =
      finals_are setting.program setting.plan ms (begun_log setting p) begun_indexing in
      subst (λ es. AreAlike (IsLogOf setting.program setting.plan k) (opening_of setting p ms k)
      (interval_log setting.plan es k)) (sym (e ∙ ap (λ z. closed_log (log_of setting z ms)) e0))
      (subst (λ x. AreAlike (IsLogOf setting.program setting.plan k) (opening_of setting p ms k)
      (log_in setting.plan (slice_get x.intervals k))) (sym f)
      (as_log k (opening_of setting p ms k) (slice_get (ended_index p ms).intervals k)
      (begins_at p ms nested k) deep))
