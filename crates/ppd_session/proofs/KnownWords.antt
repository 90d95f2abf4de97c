-- The words of proofs for what is known of a run and for its texts.
use Rattle.ppd_model.specs.Setting.{Setting}
use Rattle.ppd_ast.specs.declared.plan.Plan.{Plan}
use Rattle.ppd_ast.specs.declared.program.Program.{Program}
use Rattle.ppd_model.specs.declared.flow_error.FlowError.{FlowError}
use Rattle.ppd_model.specs.declared.flow_error.FlowError.TheVariants.{NoEvent}
use Rattle.ppd_model.specs.FlowbackEdges.{edges, last}
use Rattle.ppd_model.specs.Intervals.{Span, Split}
use Rattle.ppd_model.specs.declared.flow.Item.{Item}
use Rattle.ppd_model.specs.declared.tracing.Story.{Story}
use Rattle.ppd_session.specs.Known.{Flow, Interval, Known, Last, Told}
use Rattle.ppd_session.specs.Texts.{flow_at, flow_text, interval_line, no_event, no_process, unfound_flow}
use Rattle.ppd_text.specs.Items.{item_line}
use Rattle.ppd_text.specs.Plans.{lines_of}
use Rattle.std.specs.List.{enumerate_from, flat_map, range_with_len}
use Rattle.std.specs.Option.{option_map_or}
use Rattle.std.specs.Prelude.{List, Ok, Option, [], codes, get_or, if◌then◌else◌, is_some, length, map, nat_lt, ok_or, option_and_then, slice_get, ℕ}
use Rattle.std.specs.Result.{result_unwrap_or}

-- ---- what is known

-- of n cells from number c on
abbrev pub of_cells : {A : Type 0} → (ℕ → A) → (c n : ℕ) → List A
of_cells f c n = map f (range_with_len c n)

-- of each interval of a process from number k on
abbrev pub of_intervals : (ℕ → ℕ → Flow) → (k : ℕ) → List Told → List (List Flow)
of_intervals f k ts = map (λ (t : ℕ × Told). of_cells (f t.0) 0 (length (result_unwrap_or t.1 []))) (enumerate_from k ts)

-- an interval of a run
abbrev pub of_span : Span → Interval
of_span i = record { block = i.block; parent = slice_get i.round 0; closed = is_some i.closed }

-- the intervals of a process
abbrev pub of_split : Split → List Interval
of_split x = map of_span x.spans

-- the last value of a cell, with the write of it
abbrev pub last_told : Setting → Story → ℕ → Last
last_told setting s c = Ok (last setting s c)

-- the edges of item j of interval k of process p
abbrev pub flow_told : Setting → Story → ℕ → ℕ → ℕ → Flow
flow_told setting s p k j = ok_or (edges setting s p k j) NoEvent

-- ---- texts

-- the intervals from number k on
abbrev pub interval_lines : Program → Plan → (k : ℕ) → List Interval → List ℕ
interval_lines p plan k is = flat_map (λ (i : ℕ × Interval). interval_line p plan i.0 i.1) (enumerate_from k is)

-- an answer about an interval of a process, if both are there
abbrev pub at_interval : Known → Option ℕ → ℕ → (ℕ → List ℕ) → List ℕ
at_interval x o k text =
    option_map_or (λ (q : ℕ). if nat_lt k (length (get_or x.intervals q [])) then text q else codes "? block\n") o no_process

-- all items of an interval, or one of them with its edges, if it is there
abbrev pub items_text : Known → (q k : ℕ) → Option ℕ → List Item → List ℕ
items_text x q k item items =
    option_map_or
    (λ (j : ℕ). option_map_or (λ (i : Item). flow_text x.program x.plan j i (flow_at x q k j)) (slice_get items j) no_event)
    item (lines_of (item_line x.program x.plan) items)

-- why one of them has no text
abbrev pub item_failure : Known → (q k : ℕ) → Option ℕ → List Item → Option FlowError
item_failure x q k item items =
    option_and_then (λ (j : ℕ). option_and_then (λ (i : Item). unfound_flow (flow_at x q k j)) (slice_get items j)) item
