use Rattle.std.proofs.Common.{◌≡◌, ℕ, ◌<◌, Some}
use Rattle.std.specs.Prelude.{slice_get}
use Rattle.ppd_flow_past.specs.Keeping.{RoseByKept}
use Rattle.ppd_slice_search.specs.declared.reached.Reached.{Reached}
use Rattle.ppd_slice.specs.Asked.{AreKeptAmong, IsKept}
use Rattle.ppd_slice.specs.Slices.{IsAnsweredFor, origins_in}
use Rattle.ppd_slice.proofs.Searching.{IsSearch}
use Rattle.ppd_slice.proofs.slicing.slice_from.Given as goal

abbrev pub invariant-loop-number : goal.invariant-loop-number
invariant-loop-number g l = record {
  searched : IsSearch (origins_in l.past) l.fn.start l.number l.search;
  answered : (i : ℕ) (r : Reached) → i < l.number → slice_get l.search i ≡ Some r → IsAnsweredFor l.past r;
  kept : IsKept l.past l.kept;
  among : AreKeptAmong l.search l.kept.replays;
  cost : RoseByKept l.past l.initial.kept.replays l.kept.replays l.initial.steps l.steps;
}
