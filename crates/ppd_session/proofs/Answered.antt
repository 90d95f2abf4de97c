-- Of a run no line is left without an answer: each of its intervals has its items.
use Rattle.ppd_model.specs.Setting.{Setting}
use Rattle.ppd_model.specs.declared.flow_error.FlowError.TheVariants as flow_error
use Rattle.ppd_model.specs.declared.flow_error.FlowError.TheVariants.{NoEvent}
use Rattle.ppd_model.specs.FlowbackEdges.{edges}
use Rattle.ppd_model.specs.Intervals.{Span, Split, items_of, splits}
use Rattle.ppd_model.specs.Races.{races}
use Rattle.ppd_model.specs.Story.{story}
use Rattle.ppd_model.specs.declared.flow.FlowEdge.{FlowEdge}
use Rattle.ppd_model.specs.declared.flow.Item.{Item}
use Rattle.ppd_model.specs.declared.graph.Race.{Race}
use Rattle.ppd_session.proofs.KnownWords.{flow_told, item_failure, last_told, of_cells, of_intervals}
use Rattle.ppd_session.specs.Known.{Flow, Known, Last, Told, known_of_run, of_processes, told_of_split, unless_raced}
use Rattle.ppd_session.specs.Laws.{RunsAreAnswered}
use Rattle.ppd_session.specs.Questions.{question}
use Rattle.ppd_session.specs.Texts.{failure, failure_at, failure_in, flow_at, opening_failure, told_at, told_failure, unfound_flow}
use Rattle.ppd_session.specs.declared.question.Question.{Question}
use Rattle.ppd_session.specs.declared.question.Question.TheVariants.{Blocks, Deps, Final, Nothing, Open, Quit, Races, Unknown, Why}
use Rattle.std.proofs.Common.{Err, List, Ok, Option, [], get_or, length, map, refl, suc, zero, ℕ, ◌+◌, ◌∷◌, ◌≡◌}
use Rattle.std.specs.List.{filter_map}
use Rattle.std.specs.Prelude.{None, Some, ok_or, option_and_then, slice_get}
use Rattle.std.specs.Result.{result_err, result_unwrap_or}

of_interval : (q : ℕ) (x : Split) (is : List Span) (k : ℕ) → failure_in q (slice_get (map (λ (i : Span). Ok (items_of x i)) is) k) ≡ None
of_interval q x [] zero = refl
of_interval q x [] (suc k) = refl
of_interval q x (i ∷ is) zero = refl
of_interval q x (i ∷ is) (suc k) = of_interval q x is k

nowhere : (q k : ℕ) → failure_in q (slice_get [] k) ≡ None
nowhere q zero = refl
nowhere q (suc k) = refl

of_process : (p q : ℕ) (xs : List Split) (k : ℕ) → failure_in p (slice_get (get_or (map told_of_split xs) q []) k) ≡ None
of_process p q [] k = nowhere p k
of_process p zero (x ∷ xs) k = of_interval p x x.spans k
of_process p (suc q) (x ∷ xs) k = of_process p q xs k

of_races : (rs : List Race) (q : ℕ) (xs : List Split) (k : ℕ) → failure_in q (slice_get (get_or (unless_raced rs (map told_of_split xs)) q []) k) ≡ None
of_races [] q xs k = of_process q q xs k
of_races (r ∷ rs) q xs k = nowhere q k

module _ (setting : Setting) (h : List ℕ) where
  abbrev known : Known
  known = known_of_run setting h

  abbrev told : ℕ → Last
  told = last_told setting (story setting h)

  pub of_name : (q : Option ℕ) (k : ℕ) → failure_at known q k ≡ None
  of_name None k = refl
  of_name (Some q) k = of_races (races setting h) q (splits setting (story setting h)) k

  of_none : (o : Option (List FlowEdge)) → unfound_flow (ok_or o NoEvent) ≡ None
  of_none None = refl
  of_none (Some es) = refl

  abbrev flows : ℕ → ℕ → ℕ → Flow
  flows = flow_told setting (story setting h)

  of_cell : (p k c n j : ℕ) → unfound_flow (get_or (of_cells (flows p k) c n) j (Err flow_error.NoEvent)) ≡ None
  of_cell p k c zero j = refl
  of_cell p k c (suc n) zero = of_none (edges setting (story setting h) p k c)
  of_cell p k c (suc n) (suc j) = of_cell p k (c + 1) n j

  of_cells_told : (p k j : ℕ) (t : Told) → unfound_flow (get_or (of_cells (flows p k) 0 (length (result_unwrap_or t []))) j (Err flow_error.NoEvent)) ≡ None
  of_cells_told p k j (Ok items) = of_cell p k 0 (length items) j
  of_cells_told p k j (Err n) = refl

  of_row : (p k m j : ℕ) (ts : List Told) → unfound_flow (get_or (get_or (of_intervals (flows p) m ts) k []) j (Err flow_error.NoEvent)) ≡ None
  of_row p k m j [] = refl
  of_row p zero m j (t ∷ ts) = of_cells_told p m j t
  of_row p (suc k) m j (t ∷ ts) = of_row p k (m + 1) j ts

  pub of_table : (q p k j : ℕ) (rows : List (List Told)) → unfound_flow (get_or (get_or (get_or (of_processes flows p rows) q []) k []) j (Err flow_error.NoEvent)) ≡ None
  of_table q p k j [] = refl
  of_table zero p k j (ts ∷ rows) = of_row p k 0 j ts
  of_table (suc q) p k j (ts ∷ rows) = of_table q (p + 1) k j rows

  of_item : (q k j : ℕ) (o : Option Item) → option_and_then (λ (i : Item). unfound_flow (flow_at known q k j)) o ≡ None
  of_item q k j None = refl
  of_item q k j (Some i) = of_table q 0 k j known.items

  of_shown : (q k : ℕ) (j : Option ℕ) (items : List Item) → item_failure known q k j items ≡ None
  of_shown q k None items = refl
  of_shown q k (Some j) items = of_item q k j (slice_get items j)

  of_told : (q k : ℕ) (j : Option ℕ) (t : Option Told) → failure_in q t ≡ None → told_failure known q k j t ≡ None
  of_told q k j None h = refl
  of_told q k j (Some (Ok items)) h = of_shown q k j items
  of_told q k j (Some (Err n)) h = absurd (cc)

  of_asked : (q : Option ℕ) (k : ℕ) (j : Option ℕ) → opening_failure known q k j ≡ None
  of_asked None k j = refl
  of_asked (Some q) k j = of_told q k j (told_at known q k) (of_name (Some q) k)

  all_told : (c n : ℕ) → slice_get (filter_map result_err (of_cells told c n)) 0 ≡ None
  all_told c zero = refl
  all_told c (suc n) = all_told (c + 1) n

  of_lasts : (rs : List Race) → slice_get (filter_map result_err (unless_raced rs (of_cells told 0 (length setting.program.starts)))) 0 ≡ None
  of_lasts [] = all_told 0 (length setting.program.starts)
  of_lasts (r ∷ rs) = refl

  of_question : (asked : Question) → failure known asked ≡ None
  of_question Nothing = refl
  of_question Unknown = refl
  of_question Quit = refl
  of_question Races = refl
  of_question Final = of_lasts (races setting h)
  of_question (Blocks q) = refl
  of_question (Open q k) = of_asked q k None
  of_question (Why q k j) = of_asked q k (Some j)
  of_question (Deps s) = refl

pub run_answered : RunsAreAnswered
run_answered setting h line = of_question setting h (question setting.program line)
