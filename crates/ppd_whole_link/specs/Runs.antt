-- What is kept of a process that is followed.
use Rattle.std.specs.Prelude.{ℕ, ◌+◌, List, [], ◌∷◌, map, Option, Some, None}
use Rattle.ppd_ast.specs.declared.program.Program.{Program}
use Rattle.ppd_ast.specs.declared.status.Trap.{Trap}
use Rattle.ppd_ast.specs.Lookups.{kind_of, body_numbered}
use Rattle.ppd_sem.specs.declared.event.Event.{Event}
use Rattle.ppd_model.specs.declared.trace.EventId.{EventId}
use Rattle.ppd_model.specs.FullTrace.{Tag}
use Rattle.law_flow.specs.Following.{Followed, calls_unless, edge_past, top_of}
use Rattle.ppd_activations.specs.declared.runs.Run.{Run}
use Rattle.ppd_activations.specs.Runs.{begun_run, run_of, with_test}
use Rattle.ppd_whole_link.specs.declared.follower.Follower.{Follower}
use Rattle.ppd_whole_writes.specs.Tags.{tagged_by_kind}

-- what is kept of a process
abbrev pub follower_of : Followed → Follower
follower_of f = record { runs = map run_of f.activations; calls = f.calls; number = f.number; edge = f.edge }

-- ---- the tags

-- an event that traps writes nothing
abbrev pub tagged_unless : Option Trap → Program → Option ℕ → Tag → Event → List Run → List Run
tagged_unless (Some t) program call me e xs = xs
tagged_unless None program call me e xs = tagged_by_kind program call me e (kind_of program e.stmt) xs

-- ---- one event

-- the next event of process p
abbrev pub me_in : ℕ → Follower → EventId
me_in p f = record { process = p; number = f.number }

-- one more event
abbrev pub follow : Program → ℕ → Follower → Event → Follower
follow program p f e = record {
  runs = tagged_unless e.trap program (top_of f.calls) (Some (me_in p f)) e (with_test program (me_in p f) e f.runs);
  calls = calls_unless e.trap e.stmt (kind_of program e.stmt) f.calls;
  number = f.number + 1;
  edge = edge_past f.edge e.number;
}

-- process p before its first event
abbrev pub begun : Program → ℕ → Follower
begun program p = record {
  runs = begun_run (body_numbered program (program.functions + p)).cells ∷ [];
  calls = None ∷ [];
  number = 0;
  edge = 0;
}
