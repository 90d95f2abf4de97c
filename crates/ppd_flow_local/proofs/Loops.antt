-- One loop after another is looked into.
use Rattle.std.proofs.Common.{◌≡◌, ℕ, ◌+◌, List, [], drop, Result, Ok, Err, Option, Some, None, sym, subst}
use Rattle.std.specs.Prelude.{slice_get, get_or}
use Rattle.ppd_model.specs.declared.flow.Origin.{Origin}
use Rattle.ppd_model.proofs.Lists.{left_from}
use Rattle.ppd_flow_tables.specs.FlowError.{FlowError}
use Rattle.ppd_graph.specs.Locals.{in_loops, scan, writer_at}
use Rattle.ppd_graph.specs.Looked.{Looked, after_replay}
use Rattle.ppd_flow_local.specs.declared.search.Search.{Search}
use Rattle.ppd_flow_local.specs.Searches.{IsFound, plan_in, program_in, seen}
use Rattle.ppd_flow_local.proofs.Joined.{either_failed, else_either, some_either}

module _ (s : Search) (c : ℕ) where
  abbrev pub found_in : List ℕ → Looked ℕ (Option Origin)
  found_in ms = in_loops (program_in s) (plan_in s) (seen s) s.process c ms

  abbrev pub write_in : ℕ → Looked ℕ (Option Origin)
  write_in m =
      after_replay m (writer_at (seen s) s.process m (scan (program_in s) (plan_in s) 0 c (get_or (seen s).items m [])).writer)

  -- ---- in a list of loops, from number i on

  module _ (ms : List ℕ) (i m n k : ℕ) (at : slice_get ms i ≡ Some m) where
    pub next_loop : (o : ℕ) (r : Result (Option Origin) FlowError) → IsFound s (write_in m) n k (Ok None)
        → IsFound s (found_in (drop (i + 1) ms)) k o r → IsFound s (found_in (drop i ms)) n o r
    next_loop o r f g =
        subst (λ l. IsFound s (found_in l) n o r) (sym (left_from ms i m at))
        (else_either s (write_in m) (found_in (drop (i + 1) ms)) n k o r f g)

    pub ends_loop : (x : Origin) → IsFound s (write_in m) n k (Ok (Some x)) → IsFound s (found_in (drop i ms)) n k (Ok (Some x))
    ends_loop x f =
        subst (λ l. IsFound s (found_in l) n k (Ok (Some x))) (sym (left_from ms i m at))
        (some_either s (write_in m) (found_in (drop (i + 1) ms)) x n k f)

    pub fails_loop : (e : FlowError) → IsFound s (write_in m) n k (Err e) → IsFound s (found_in (drop i ms)) n k (Err e)
    fails_loop e f =
        subst (λ l. IsFound s (found_in l) n k (Err e)) (sym (left_from ms i m at))
        (either_failed s (write_in m) (found_in (drop (i + 1) ms)) n k e f)
