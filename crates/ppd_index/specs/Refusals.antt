-- Which logs have no index, and the first entry that is why.
use Rattle.ppd_ast.specs.declared.limits.TheConstants.{MOST_CALLS}
use Rattle.ppd_ast.specs.declared.plan.BlockKind.{BlockKind}
use Rattle.ppd_ast.specs.declared.plan.BlockKind.TheVariants as block
use Rattle.ppd_ast.specs.declared.plan.Plan.{Plan}
use Rattle.ppd_ast.specs.declared.program.Program.{Program}
use Rattle.ppd_ast.specs.declared.status.Status.TheVariants as status
use Rattle.ppd_model.specs.Entries.{is_end}
use Rattle.ppd_model.specs.IntervalLogs.{Indexing, begun_indexing, blocks_of, functions_in, index_step, interval_at}
use Rattle.ppd_model.specs.declared.entry.At.{At}
use Rattle.ppd_model.specs.declared.entry.Entry.{Entry}
use Rattle.ppd_model.specs.declared.entry.Entry.TheVariants as entry
use Rattle.ppd_model.specs.declared.bad_log.BadLog.{BadLog}
use Rattle.ppd_model.specs.declared.bad_log.BadLog.TheVariants.{AfterEnd, Memory, NoEnd, Unpaired, WrongValues}
use Rattle.ppd_index.specs.declared.standing.Standing.{Standing}
use Rattle.std.specs.Option.{option_eq, option_map_or, option_or as or_else}
use Rattle.std.specs.Prelude.{Bool, List, None, Option, Some, [], false, if◌then◌else◌, is_some, length, nat_eq, nat_le, not, option_map, slice_get, true, ℕ, ⊤, ◌&&◌, ◌+◌, ◌||◌, ◌∷◌, ◌≡◌}

-- ---- the tests of an entry

-- the plan has the entry's block or unit, with so many values
abbrev pub is_fitting : Plan → Entry → Bool
is_fitting plan (entry.Prelog b values) =
    option_map_or (λ x. nat_eq (length values) (length x.prelog)) (slice_get plan.blocks b) false
is_fitting plan (entry.Unit u values) =
    option_map_or (λ x. nat_eq (length values) (length x.cells)) (slice_get plan.units u) false
is_fitting plan (entry.Sync kind object number value reads writes) = true
is_fitting plan (entry.Postlog b values) =
    option_map_or (λ x. nat_eq (length values) (length x.postlog + (if x.value then 1 else 0)))
    (slice_get plan.blocks b) false
is_fitting plan (entry.End status rest reads writes) = true

-- an interval of a block of this kind may begin there: a process's as entry 0 alone, and it is the process's own; any
-- other inside one that runs, a function's while fewer intervals of functions run than there are open calls at most
abbrev pub may_begin : ℕ → Standing → Option BlockKind → Bool
may_begin body s (Some (block.Process b)) = nat_eq s.entry 0 && nat_eq b body
may_begin body s (Some (block.Function f)) = is_some s.innermost && not (nat_le MOST_CALLS s.functions)
may_begin body s kind = is_some s.innermost

-- the entry fits what runs: a prelog begins what may begin there, a postlog is that of the innermost interval, an end
-- stands outside all where the process ended, and every other entry inside one; at entry 0 none runs yet
abbrev pub is_paired : Plan → ℕ → Standing → Entry → Bool
is_paired plan body s (entry.Prelog b values) = may_begin body s (option_map (λ x. x.kind) (slice_get plan.blocks b))
is_paired plan body s (entry.Postlog b values) = option_eq nat_eq s.innermost (Some b)
is_paired plan body s (entry.End status.Ended rest reads writes) = not (nat_eq s.entry 0) && not (is_some s.innermost)
is_paired plan body s e = is_some s.innermost

-- ---- the first refusal

-- where the next entry stands: its number, whether an end stood before, the block of the innermost
-- running interval, and how many intervals of functions run
abbrev pub standing : Plan → Indexing → Bool → Standing
standing plan x ended = record {
  entry = x.entry;
  ended = ended;
  innermost = option_map (λ k. (interval_at x.intervals k).extent.block) (slice_get x.running 0);
  functions = functions_in plan (blocks_of x.running x.intervals);
}

-- the refusal of one entry, by the first test that fails
abbrev pub refusal : Plan → ℕ → ℕ → Standing → Entry → Option BadLog
refusal plan body p s e =
    let here : At = record { process = p; entry = s.entry } in
    if s.ended then Some (AfterEnd here)
    else if not (is_paired plan body s e) then Some (Unpaired here)
    else if not (is_fitting plan e) then Some (WrongValues here)
    else None

-- the first refusal of these entries, after those that gave these intervals; a list that is over has an end
abbrev pub first_from : Plan → ℕ → ℕ → Indexing → Bool → List Entry → Option BadLog
first_from plan body p x ended [] = if ended then None else Some (NoEnd (record { process = p; entry = x.entry }))
first_from plan body p x ended (e ∷ es) =
    or_else (refusal plan body p (standing plan x ended) e)
    (first_from plan body p (index_step x e) (ended || is_end e) es)

-- the first refusal of a process's entries
abbrev pub first_bad : Program → Plan → ℕ → List Entry → Option BadLog
first_bad program plan p entries = first_from plan (program.functions + p) p begun_indexing false entries

-- the first refusal of these lists, the first of which is process p's
abbrev pub first_in_lists : Program → Plan → ℕ → List (List Entry) → Option BadLog
first_in_lists program plan p [] = None
first_in_lists program plan p (es ∷ lists) =
    or_else (first_bad program plan p es) (first_in_lists program plan (p + 1) lists)

-- this is the refusal that was found; want of memory is free
abbrev pub IsRefused : Option BadLog → BadLog → Type 0
IsRefused found Memory = ⊤
IsRefused found e = found ≡ Some e
