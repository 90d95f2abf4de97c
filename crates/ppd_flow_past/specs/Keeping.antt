-- Replays that are kept, and what it costs to keep those of a process.
use Rattle.std.specs.Prelude.{◌≡◌, ℕ, zero, suc, ◌+◌, nat_eq, List, [], get_or, length, slice_get, Some, if◌then◌else◌}
use Rattle.ppd_model.specs.declared.flow.Item.{Item}
use Rattle.ppd_flow_past.specs.declared.past.Past.{Past}
use Rattle.ppd_flow_past.specs.ByReplays.{AreReplayed}
use Rattle.ppd_flow_past.specs.Pasts.{AreKept}
use Rattle.ppd_flow_past.specs.PastSetting.{past_setting}
use Rattle.ppd_flow_past.specs.SeenBy.{seen_in, steps_in}

-- ---- what is kept

-- these are the items of the first intervals of process p
abbrev pub AreFirstItems : Past → ℕ → List (List Item) → Type 0
AreFirstItems past p rows =
    (k : ℕ) (items : List Item) → slice_get rows k ≡ Some items → AreReplayed past p k items

-- for each process of a past the items of its first intervals
pub record AreKeptOf (past : Past) (kept : List (List (List Item))) : Type 0 where
  pub items : AreKept (past_setting past) past.cut.now kept
  pub count : length kept ≡ length past.cut.now.lists

-- how many intervals process p has
abbrev pub count_in : Past → ℕ → ℕ
count_in past p = length (seen_in past p).items

-- those of all intervals of process p are kept
abbrev pub IsAllKept : Past → List (List (List Item)) → ℕ → Type 0
IsAllKept past kept p = length (get_or kept p []) ≡ count_in past p

-- of all processes but process p the same is kept
abbrev pub AreOthersKept : ℕ → (old new : List (List (List Item))) → Type 0
AreOthersKept p old new = (q : ℕ) → (q ≡ p → ⊥) → get_or new q [] ≡ get_or old q []

abbrev pub IsNoneKept : List (List (List Item)) → Type 0
IsNoneKept kept = (p : ℕ) → get_or kept p [] ≡ []

-- ---- what it costs

-- the sum of the first n numbers
abbrev pub sum_below : (ℕ → ℕ) → ℕ → ℕ
sum_below f zero = 0
sum_below f (suc n) = sum_below f n + f n

-- the own steps of all intervals of process p
abbrev pub process_steps : Past → ℕ → ℕ
process_steps past p = sum_below (steps_in past p) (count_in past p)

-- those, where all of them are kept
abbrev pub steps_kept_of : Past → List (List (List Item)) → ℕ → ℕ
steps_kept_of past kept p =
    if nat_eq (length (get_or kept p [])) (count_in past p) then process_steps past p else 0

-- the same of all processes
abbrev pub steps_kept : Past → List (List (List Item)) → ℕ
steps_kept past kept = sum_below (steps_kept_of past kept) (length past.cut.now.lists)

-- the counter rose by the own steps of the intervals of which the items are kept newly
abbrev pub RoseByKept : Past → (old new : List (List (List Item))) → (before after : ℕ) → Type 0
RoseByKept past old new before after = after + steps_kept past old ≡ before + steps_kept past new
