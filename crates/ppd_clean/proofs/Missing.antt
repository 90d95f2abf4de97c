-- The write that the search by cut logs misses is missing.
use Rattle.ppd_flow_past.specs.PastSetting.{past_setting}
use Rattle.ppd_model.specs.Setting.{Setting}
use Rattle.law_clean.specs.Answers.{is_reached, no_item, unclean, unclean_or, unwritten}
use Rattle.law_clean.specs.Pasts.{first_raced, left_edge}
use Rattle.law_clean.specs.Search as sought
use Rattle.law_flow.proofs.MissingWrites.{missing_writes_are_told}
use Rattle.law_flow.specs.Missing.{AreIndexed, IsMissingWrite, write_at}
use Rattle.ppd_clean.specs.Answers.{IsCleanBy}
use Rattle.ppd_clean.specs.Missing.{IsCauseOfSets}
use Rattle.ppd_clean.specs.declared.clean.Clean.{Clean}
use Rattle.ppd_clean.specs.declared.clean_error.CleanError.{CleanError}
use Rattle.ppd_clean.specs.declared.clean_error.CleanError.TheVariants as error
use Rattle.ppd_model.specs.declared.entry.Logs.{Logs}
use Rattle.ppd_graph.specs.Ends.{first_edge}
use Rattle.ppd_graph.specs.Found.{found_edges}
use Rattle.ppd_graph.specs.Seen.{Seen}
use Rattle.ppd_graph.specs.Shared.{Missing, seen_at}
use Rattle.ppd_flow_past.specs.declared.past.Past.{Past}
use Rattle.ppd_model.specs.HappenedBefore.{edge}
use Rattle.ppd_model.specs.RecordedSets.{record_in}
use Rattle.ppd_model.specs.declared.flow.FlowEdge.{FlowEdge}
use Rattle.ppd_model.specs.declared.flow.Item.{Item}
use Rattle.ppd_model.specs.declared.graph.Race.{Race}
use Rattle.std.proofs.Common.{Bool, Err, List, None, Ok, Option, Result, Some, ap, false, if◌then◌else◌, refl, true, ℕ, ◌∙◌, ◌≡◌}
use Rattle.std.specs.Prelude.{[], get_or, nat_le, slice_get}

module _ (setting : Setting) (logs : Logs) (races : List Race) (p k j : ℕ)
    (indexed : AreIndexed setting.program setting.plan logs) (m : Missing) where
  -- what replays give where this is the first raced edge
  abbrev seens : Option ℕ → List Seen
  seens o = sought.seens setting logs (record_in logs) races p k j o

  of_edges : (o : Option ℕ) (t : Item) (r : Option (Result (List FlowEdge) Missing))
      → (found_edges setting.program setting.plan logs (seens o) p k j).found ≡ r
      → sought.with_edges setting logs (record_in logs) races p k j t r ≡ unwritten m
      → IsMissingWrite logs (seens o) m
  of_edges o t None e f = absurd (cc f)
  of_edges o t (Some (Ok es)) e f = absurd (cc f)
  of_edges o t (Some (Err n)) e f =
      let is : n ≡ m = cc f in
      (missing_writes_are_told setting.program setting.plan logs (seens o) indexed).edges p k j m (e ∙ ap (λ (x : Missing). Some (Err x)) is)

  never_unclean : (o : Option ℕ) → unclean_or p o no_item ≡ unwritten m → ⊥
  never_unclean None f = cc f
  never_unclean (Some u) f = cc f

  never_reached : (b : Bool) (o : Option ℕ) → (if b then unclean_or p o no_item else no_item) ≡ unwritten m → ⊥
  never_reached true o f = never_unclean o f
  never_reached false o f = cc f

  of_item : (o : Option ℕ) (t : Option Item)
      → sought.by_item setting logs (record_in logs) races p k j o (seens o) t ≡ unwritten m
      → IsMissingWrite logs (seens o) m
  of_item o None f = absurd (never_reached (is_reached (left_edge (get_or logs.lists p []) k) o) o f)
  of_item o (Some t) f =
      by (sought.is_unclean setting logs (record_in logs) races p k j (seens o) o t) f
    where
      by : (b : Bool)
          → (if b then unclean_or p o no_item
          else sought.with_edges setting logs (record_in logs) races p k j t
          (found_edges setting.program setting.plan logs (seens o) p k j).found) ≡ unwritten m
          → IsMissingWrite logs (seens o) m
      by true g = absurd (never_unclean o g)
      by false g = of_edges o t (found_edges setting.program setting.plan logs (seens o) p k j).found refl g

  of_first : (z : Option ℕ) → sought.from_first setting logs (record_in logs) races p k j z ≡ unwritten m
      → IsMissingWrite logs (seens z) m
  of_first None f = of_item None (slice_get (get_or (seen_at (seens None) p).items k []) j) f
  of_first (Some u) f = by (nat_le u (first_edge (get_or logs.lists p []) k)) f
    where
      by : (b : Bool)
          → (if b then unclean (edge p u)
          else sought.by_first setting logs (record_in logs) races p k j (Some u)) ≡ unwritten m
          → IsMissingWrite logs (seens (Some u)) m
      by true g = absurd (cc g)
      by false g = of_item (Some u) (slice_get (get_or (seen_at (seens (Some u)) p).items k []) j) g

  pub clean_missed : sought.clean_by setting logs races p k j ≡ unwritten m
      → IsMissingWrite logs (seens (first_raced setting.program (record_in logs) races (get_or logs.lists p []) p k)) m
  clean_missed f = of_first (first_raced setting.program (record_in logs) races (get_or logs.lists p []) p k) f

pub sets_missed : (past : Past) (races : List Race) (p k j : ℕ) (r : Result Clean CleanError)
    → IsCleanBy past races p k j r → IsCauseOfSets past races p k j r
sets_missed past races p k j (Err (error.Sets q n c)) f = λ indexed.
    clean_missed (past_setting past) past.logs.now races p k j indexed (write_at q n c) f
sets_missed past races p k j (Err (error.Diverged q n)) f = tt
sets_missed past races p k j (Err (error.Unclean e)) f = tt
sets_missed past races p k j (Err error.NoEvent) f = tt
sets_missed past races p k j (Err error.Memory) f = tt
sets_missed past races p k j (Ok c) f = tt
