-- What is kept of a process that is followed goes on as the process does.
use Rattle.std.proofs.Common.{◌≡◌, ℕ, ◌+◌, ℤ, List, [], ◌∷◌, map, Option, Some, None, refl, ap, ◌∙◌}
use Rattle.std.specs.Prelude.{fold}
use Rattle.ppd_ast.specs.declared.program.Kind.{Kind}
use Rattle.ppd_ast.specs.declared.program.Kind.TheVariants as kind
use Rattle.ppd_ast.specs.declared.program.Program.{Program}
use Rattle.ppd_ast.specs.declared.status.Trap.{Trap}
use Rattle.ppd_ast.specs.Lookups.{kind_of}
use Rattle.ppd_sem.specs.declared.event.Access.{Access}
use Rattle.ppd_sem.specs.declared.event.Event.{Event}
use Rattle.ppd_sem.specs.declared.event.Spot.{Spot}
use Rattle.ppd_sem.specs.declared.event.Spot.TheVariants.{Local, Shared}
use Rattle.ppd_model.specs.declared.trace.EventId.{EventId}
use Rattle.ppd_model.specs.declared.tracing.Activation.{Activation}
use Rattle.ppd_model.specs.FullTrace as trace
use Rattle.ppd_model.specs.FullTrace.{Tag}
use Rattle.law_flow.specs.Following as following
use Rattle.law_flow.specs.Following.{Followed, calls_unless, edge_past, top_of}
use Rattle.ppd_activations.specs.declared.runs.Run.{Run}
use Rattle.ppd_activations.specs.Runs.{parent_of, run_of}
use Rattle.ppd_activations.proofs.Keeping.{parent_in_as, returned_as, tagged_as, with_test_as}
use Rattle.ppd_whole_link.specs.declared.follower.Follower.{Follower}
use Rattle.ppd_whole_link.specs.Runs.{begun, follow, follower_of, tagged_unless}
use Rattle.ppd_whole_writes.specs.Tags.{tag_write, tagged_by_kind}
use Rattle.ppd_sem.specs.Process.{into_at}

-- ---- control

pub parent_as : (program : Program) (xs : List Activation) (s : ℕ) → parent_of program (map run_of xs) s ≡ following.parent_of program xs s
parent_as program [] s = refl
parent_as program (x ∷ xs) s = parent_in_as program s x

-- ---- tags

spot_as : (me : Tag) (xs : List Activation) (spot : Spot) (v : ℤ) → map run_of (following.tag_write me xs (record { spot = spot; value = v })) ≡ tag_write me (map run_of xs) (record { spot = spot; value = v })
spot_as me xs (Local frame c) v = tagged_as c me xs
spot_as me xs (Shared c) v = refl

writes_as : (me : Tag) (xs : List Activation) (ws : List Access) → map run_of (fold (following.tag_write me) xs ws) ≡ fold (tag_write me) (map run_of xs) ws
writes_as me xs [] = refl
writes_as me xs (a ∷ as') = writes_as me (following.tag_write me xs a) as' ∙ ap (λ (l : List Run). fold (tag_write me) l as') (spot_as me xs a.spot a.value)

kind_as : (program : Program) (calls : List (Option ℕ)) (me : Tag) (e : Event) (k : Kind) (xs : List Activation)
    → map run_of (following.tagged_by_kind program calls me e k xs) ≡ tagged_by_kind program (top_of calls) me e k (map run_of xs)
kind_as program calls me e (kind.Call f arguments into) xs = refl
kind_as program calls me e (kind.Return v) xs =
    returned_as (into_at program (top_of calls)) e.value me xs
kind_as program calls me e k xs = writes_as me xs e.writes

unless_as : (t : Option Trap) (program : Program) (calls : List (Option ℕ)) (me : Tag) (e : Event) (xs : List Activation)
    → map run_of (following.tagged_unless t program calls me e xs) ≡ tagged_unless t program (top_of calls) me e (map run_of xs)
unless_as (Some t) program calls me e xs = refl
unless_as None program calls me e xs = kind_as program calls me e (kind_of program e.stmt) xs

-- ---- one event

parts : List Run → List (Option ℕ) → ℕ → ℕ → Follower
parts runs calls number edge = record { runs = runs; calls = calls; number = number; edge = edge }

pub follow_as : (program : Program) (p : ℕ) (f : Followed) (e : Event) → follower_of (following.follow program p f e) ≡ follow program p (follower_of f) e
unfolding parts
follow_as program p f e =
    let me : EventId = following.me_in p f in
    let calls : List (Option ℕ) = calls_unless e.trap e.stmt (kind_of program e.stmt) f.calls in
    ap (λ (l : List Run). parts l calls (f.number + 1) (edge_past f.edge e.number)) (unless_as e.trap program f.calls (Some me) e (trace.with_test program me e f.activations))
    ∙ ap (λ (l : List Run). parts (tagged_unless e.trap program (top_of f.calls) (Some me) e l) calls (f.number + 1) (edge_past f.edge e.number)) (with_test_as program me e f.activations)

pub begun_as : (program : Program) (p : ℕ) → follower_of (following.begun program p) ≡ begun program p
begun_as program p = refl
