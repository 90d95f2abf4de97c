-- What a line needs and is not found for want of a write: the write is missing.
use Rattle.ppd_model.specs.Setting.{Setting}
use Rattle.std.specs.Result.{result_err, result_unwrap_or}
use Rattle.std.specs.List.{filter_map}
use Rattle.std.specs.Prelude.{IfErr, None, Some, slice_get, option_and_then}
use Rattle.std.proofs.Common.{◌≡◌, ℕ, zero, suc, ◌+◌, ℤ, List, [], ◌∷◌, get_or, length, Option, Result, Ok, Err, refl, ap, subst, ◌∙◌}
use Rattle.ppd_model.specs.declared.entry.At.{At}
use Rattle.ppd_model.specs.declared.entry.Logs.{Logs}
use Rattle.ppd_flow.specs.Answers.{answer_if}
use Rattle.ppd_flow.proofs.Missing.{missed, missed_edges}
use Rattle.ppd_graph.specs.Found.{found_edges}
use Rattle.ppd_graph.specs.Shared.{Missing, found_last}
use Rattle.ppd_model.specs.declared.flow_error.FlowError.{FlowError}
use Rattle.ppd_model.specs.declared.flow_error.FlowError.TheVariants as flow_error
use Rattle.ppd_flow_past.specs.ByReplays.{first_failed}
use Rattle.ppd_flow.specs.SharedCells.{answer_of}
use Rattle.ppd_model.specs.declared.flow.FlowEdge.{FlowEdge}
use Rattle.ppd_model.specs.declared.flow.Item.{Item}
use Rattle.ppd_model.specs.declared.flow.Origin.{Origin}
use Rattle.ppd_model.specs.declared.graph.Race.{Race}
use Rattle.ppd_session.specs.Known.{Flow, Known, Last, Told, flow_by, known_with, last_by, of_processes, seens, unless_failed, unless_raced}
use Rattle.ppd_session.specs.Missing.{IsCauseOfSets, MissingWritesAreTold}
use Rattle.ppd_session.specs.Questions.{question}
use Rattle.ppd_session.specs.Sessions.{IsWhy}
use Rattle.ppd_session.specs.Texts.{failure, failure_of, flow_at, opening_failure, told_at, told_failure, unfound_flow}
use Rattle.ppd_session.specs.declared.question.Question.{Question}
use Rattle.ppd_session.specs.declared.question.Question.TheVariants.{Nothing, Unknown, Races, Final, Blocks, Open, Why, Deps, Quit}
use Rattle.ppd_session.specs.declared.reply.SessionError.{SessionError}
use Rattle.ppd_session.specs.declared.reply.SessionError.TheVariants.{Diverged, Sets, Memory}
use Rattle.law_flow.specs.Missing.{AreIndexed, IsMissingWrite, write_at}
use Rattle.law_flow.proofs.MissingWrites.{missing_writes_are_told}
use Rattle.ppd_session.proofs.KnownWords.{of_cells, of_intervals, item_failure}

-- ---- what holds of all that is found holds of what is looked up

module _ (P : Flow → Type 0) (d : Flow) (none : P d) where
  in_cells : (f : ℕ → Flow) → ((j : ℕ) → P (f j)) → (c n j : ℕ) → P (get_or (of_cells f c n) j d)
  in_cells f h c zero zero = none
  in_cells f h c zero (suc j) = none
  in_cells f h c (suc n) zero = h c
  in_cells f h c (suc n) (suc j) = in_cells f h (c + 1) n j

  nowhere : (j : ℕ) → P (get_or [] j d)
  nowhere zero = none
  nowhere (suc j) = none

  in_items : (f : ℕ → Flow) → ((j : ℕ) → P (f j)) → (t : Told) (j : ℕ) → P (get_or (of_cells f 0 (length (result_unwrap_or t []))) j d)
  in_items f h (Ok items) j = in_cells f h 0 (length items) j
  in_items f h (Err n) j = nowhere j

  no_row : (k j : ℕ) → P (get_or (get_or [] k []) j d)
  no_row zero j = nowhere j
  no_row (suc k) j = nowhere j

  in_rows : (f : ℕ → ℕ → Flow) → ((k j : ℕ) → P (f k j)) → (m : ℕ) (ts : List Told) (k j : ℕ)
      → P (get_or (get_or (of_intervals f m ts) k []) j d)
  in_rows f h m [] k j = no_row k j
  in_rows f h m (t ∷ ts) zero j = in_items (f m) (h m) t j
  in_rows f h m (t ∷ ts) (suc k) j = in_rows f h (m + 1) ts k j

  no_table : (q k j : ℕ) → P (get_or (get_or (get_or [] q []) k []) j d)
  no_table zero k j = no_row k j
  no_table (suc q) k j = no_row k j

  in_tables : (f : ℕ → ℕ → ℕ → Flow) → ((q k j : ℕ) → P (f q k j)) → (p : ℕ) (rows : List (List Told)) (q k j : ℕ)
      → P (get_or (get_or (get_or (of_processes f p rows) q []) k []) j d)
  in_tables f h p [] q k j = no_table q k j
  in_tables f h p (ts ∷ rows) zero k j = in_rows (f p) (h p) 0 ts k j
  in_tables f h p (ts ∷ rows) (suc q) k j = in_tables f h (p + 1) rows q k j

-- the first of these that is not found is one of them
first_of_cells : (e : FlowError) (X : Type 0) (f : ℕ → Last) → ((c : ℕ) → f c ≡ Err e → X) → (c n : ℕ)
    → slice_get (filter_map result_err (of_cells f c n)) 0 ≡ Some e → X
first_of_cells e X f h c zero is = absurd (cc is)
first_of_cells e X f h c (suc n) is = by (f c) refl is (first_of_cells e X f h (c + 1) n)
  where
    by : (r : Last) → f c ≡ r → slice_get (filter_map result_err (r ∷ of_cells f (c + 1) n)) 0 ≡ Some e
        → (slice_get (filter_map result_err (of_cells f (c + 1) n)) 0 ≡ Some e → X) → X
    by (Ok x) at g rest = rest g
    by (Err d) at g rest = let same : d ≡ e = cc g in h c (at ∙ ap (λ (u : FlowError). Err u) same)

of_lasts : (e : FlowError) (X : Type 0) (races : List Race) (lasts : List Last) → (slice_get (filter_map result_err lasts) 0 ≡ Some e → X)
    → slice_get (filter_map result_err (unless_raced races lasts)) 0 ≡ Some e → X
of_lasts e X [] lasts h is = h is
of_lasts e X (r ∷ rs) lasts h is = absurd (cc is)

-- ---- of logs

module _ (setting : Setting) (logs : Logs) (races : List Race) (indexed : AreIndexed setting.program setting.plan logs)
    (q n c : ℕ) where
  abbrev Wanted : Type 0
  Wanted = IsMissingWrite logs (seens setting logs) (write_at q n c)

  abbrev known : Known
  known = known_with setting logs races

  by_edges : (failed : Option At) (o : Option (Result (List FlowEdge) Missing))
      → unless_failed failed (answer_if o) ≡ Err (flow_error.Sets q n c) → o ≡ Some (Err (write_at q n c))
  by_edges None o e = missed_edges q n c o e
  by_edges (Some at) o e = absurd (cc e)

  by_last : (failed : Option At) (r : Result (ℤ × Origin) Missing)
      → unless_failed failed (answer_of r) ≡ Err (flow_error.Sets q n c) → r ≡ Err (write_at q n c)
  by_last None r e = missed q n c r e
  by_last (Some at) r e = absurd (cc e)

  of_flow : (p k j : ℕ) → flow_by setting logs p k j ≡ Err (flow_error.Sets q n c) → Wanted
  of_flow p k j e =
      (missing_writes_are_told setting.program setting.plan logs (seens setting logs) indexed).edges p k j (write_at q n c)
      (by_edges (first_failed setting logs (found_edges setting.program setting.plan logs (seens setting logs) p k j).replays)
      (found_edges setting.program setting.plan logs (seens setting logs) p k j).found e)

  of_last : (cell : ℕ) → last_by setting logs cell ≡ Err (flow_error.Sets q n c) → Wanted
  of_last cell e =
      (missing_writes_are_told setting.program setting.plan logs (seens setting logs) indexed).last cell (write_at q n c)
      (by_last (first_failed setting logs (found_last setting.program logs (seens setting logs) cell).replays)
      (found_last setting.program logs (seens setting logs) cell).found e)

  flow_missing : (p k j : ℕ) → flow_at known p k j ≡ Err (flow_error.Sets q n c) → Wanted
  flow_missing p k j =
      in_tables (λ r. r ≡ Err (flow_error.Sets q n c) → Wanted) (Err flow_error.NoEvent) (λ e. absurd (cc e))
      (flow_by setting logs) of_flow 0 known.items p k j

  -- ---- lines

  of_unfound : (f : Flow) → (f ≡ Err (flow_error.Sets q n c) → Wanted) → unfound_flow f ≡ Some (flow_error.Sets q n c) → Wanted
  of_unfound (Ok es) h e = absurd (cc e)
  of_unfound (Err flow_error.NoEvent) h e = absurd (cc e)
  of_unfound (Err (flow_error.Diverged i m)) h e = absurd (cc e)
  of_unfound (Err flow_error.Memory) h e = absurd (cc e)
  of_unfound (Err (flow_error.Sets i m d)) h e =
      let same : flow_error.Sets i m d ≡ flow_error.Sets q n c = cc e in h (ap (λ (u : FlowError). Err u) same)

  of_there : (p k j : ℕ) (t : Option Item) → option_and_then (λ (i : Item). unfound_flow (flow_at known p k j)) t ≡ Some (flow_error.Sets q n c) → Wanted
  of_there p k j None e = absurd (cc e)
  of_there p k j (Some t) e = of_unfound (flow_at known p k j) (flow_missing p k j) e

  of_item : (p k : ℕ) (j : Option ℕ) (items : List Item) → item_failure known p k j items ≡ Some (flow_error.Sets q n c) → Wanted
  of_item p k None items e = absurd (cc e)
  of_item p k (Some j) items e = of_there p k j (slice_get items j) e

  of_told : (p k : ℕ) (j : Option ℕ) (t : Option Told) → told_failure known p k j t ≡ Some (flow_error.Sets q n c) → Wanted
  of_told p k j (Some (Ok items)) e = of_item p k j items e
  of_told p k j (Some (Err m)) e = absurd (cc e)
  of_told p k j None e = absurd (cc e)

  of_opening : (p : Option ℕ) (k : ℕ) (j : Option ℕ) → opening_failure known p k j ≡ Some (flow_error.Sets q n c) → Wanted
  of_opening None k j e = absurd (cc e)
  of_opening (Some p) k j e = of_told p k j (told_at known p k) e

  of_question : (asked : Question) → failure known asked ≡ Some (flow_error.Sets q n c) → Wanted
  of_question Nothing e = absurd (cc e)
  of_question Unknown e = absurd (cc e)
  of_question Quit e = absurd (cc e)
  of_question Races e = absurd (cc e)
  of_question Final e =
      of_lasts (flow_error.Sets q n c) Wanted races (of_cells (last_by setting logs) 0 (length setting.program.starts))
      (first_of_cells (flow_error.Sets q n c) Wanted (last_by setting logs) of_last 0 (length setting.program.starts)) e
  of_question (Blocks p) e = absurd (cc e)
  of_question (Open p k) e = of_opening p k None e
  of_question (Why p k j) e = of_opening p k (Some j) e
  of_question (Deps s) e = absurd (cc e)

  line_missing : (line : List ℕ) → failure_of known line ≡ Some (flow_error.Sets q n c) → Wanted
  line_missing line e = of_question (question setting.program line) e

-- ---- the answer to a line

-- an error that is `Sets` is answered for such a failure
of_why : (o : Option FlowError) (at : At) → IsWhy o (Sets at)
    → (c : ℕ) × (o ≡ Some (flow_error.Sets at.process at.entry c))
of_why None at e = absurd (cc e)
of_why (Some (flow_error.Diverged i m)) at e = absurd (cc e)
of_why (Some flow_error.NoEvent) at e = absurd (cc e)
of_why (Some flow_error.Memory) at e = absurd (cc e)
of_why (Some (flow_error.Sets i m c)) at e =
    let same : record { process = i; entry = m } ≡ at = cc e in
    (c, ap (λ (a : At). Some (flow_error.Sets a.process a.entry c)) same)

pub missing_writes_told : MissingWritesAreTold
missing_writes_told setting logs races indexed = record {
  flow = λ p k j q n c e. flow_missing setting logs races indexed q n c p k j e;
  lines = λ line at e.
      let why = of_why (failure_of (known_with setting logs races) line) at e in
      (why.0, line_missing setting logs races indexed at.process at.entry why.0 line why.1);
}

pub cause_of_sets : {A : Type 0} (x : Known) (line : List ℕ) (r : Result A SessionError)
    → IfErr r (IsWhy (failure_of x line)) → IsCauseOfSets x r
cause_of_sets x line (Ok a) h = tt
cause_of_sets x line (Err Memory) h = tt
cause_of_sets x line (Err (Diverged at)) h = tt
cause_of_sets x line (Err (Sets at)) h = λ setting logs races is indexed.
    (missing_writes_told setting logs races indexed).lines line at
    (subst (λ (y : Known). IsWhy (failure_of y line) (Sets at)) is h)
