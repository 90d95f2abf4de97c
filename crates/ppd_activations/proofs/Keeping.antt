-- What is kept of activations goes on as they do.
use Rattle.std.proofs.Common.{◌≡◌, ℕ, ℤ, Bool, cond, List, [], ◌∷◌, map, drop, Option, Some, None, refl, ap, ◌∙◌}
use Rattle.std.specs.Prelude.{nat_eq, option_map, slice_get, option_and_then}
use Rattle.std.specs.Cmp.{nat_cmp_total}
use Rattle.std.specs.FinMap.{get, get-empty, get-insert}
use Rattle.std.specs.Ordering.{nat_cmp}
use Rattle.ppd_ast.specs.declared.program.Kind.{Kind}
use Rattle.ppd_ast.specs.declared.program.Kind.TheVariants.{If, While}
use Rattle.ppd_ast.specs.declared.program.Program.{Program}
use Rattle.ppd_ast.specs.Lookups.{kind_of}
use Rattle.ppd_sem.specs.declared.event.Event.{Event}
use Rattle.ppd_model.specs.declared.trace.EventId.{EventId}
use Rattle.ppd_model.specs.declared.tracing.Activation.{Activation}
use Rattle.ppd_model.specs.declared.tracing.Test.{Test}
use Rattle.ppd_model.specs.FullTrace as trace
use Rattle.ppd_model.proofs.TraceWords as words
use Rattle.ppd_model.specs.FullTrace.{Tag, latest, of_run}
use Rattle.std.specs.Option.{option_or}
use Rattle.ppd_activations.specs.Runs.{latest_of, of_outer, parent_in, run_of, tagged, tagged_into, tests_after, top_tags, with_test}
use Rattle.ppd_activations.proofs.Kept.{same_number}

-- ---- tests

-- the look-up finds the latest test
found_latest : (s : ℕ) (tests : List Test) → get (latest_of tests) s ≡ latest s tests
found_latest s [] = get-empty nat_cmp s
found_latest s (x ∷ xs) =
    get-insert nat_cmp_total (latest_of xs) x.stmt x s ∙ ap (λ (b : Bool). cond b (Some x) (get (latest_of xs) s)) (same_number s x.stmt)
    ∙ ap (λ (o : Option Test). cond (nat_eq x.stmt s) (Some x) o) (found_latest s xs)

tests_as : (k : Kind) (s : ℕ) (me : EventId) (value : Option ℤ) (tests : List Test) → latest_of (trace.tests_after k s me value tests) ≡ tests_after k s me value (latest_of tests)
tests_as (If e first second) s me value tests = refl
tests_as (While e body) s me value tests = refl
tests_as k s me value tests = refl

pub with_test_as : (program : Program) (me : EventId) (e : Event) (xs : List Activation) → map run_of (trace.with_test program me e xs) ≡ with_test program me e (map run_of xs)
with_test_as program me e [] = refl
with_test_as program me e (x ∷ xs) = ap (λ l. record { call = x.call; tags = x.tags; latest = l } ∷ map run_of xs) (tests_as (kind_of program e.stmt) e.stmt me e.value x.tests)

outer_as : (s : Option ℕ) (tests : List Test) → of_outer s (latest_of tests) ≡ words.of_outer s tests
outer_as None tests = refl
outer_as (Some s) tests = ap (λ (o : Option Test). option_map (λ x. x.event) o) (found_latest s tests)

pub parent_in_as : (program : Program) (s : ℕ) (x : Activation) → parent_in program s (run_of x) ≡ trace.parent_in program s x
parent_in_as program s x =
    let outer : Option EventId = of_outer (option_and_then (λ x. x.parent) (slice_get program.stmts s)) (latest_of x.tests) in
    ap (λ (o : Option Test). option_or (of_run (kind_of program s) o) (option_or outer x.call)) (found_latest s x.tests)
    ∙ ap (λ (o : Option EventId). option_or (of_run (kind_of program s) (latest s x.tests)) (option_or o x.call)) (outer_as (option_and_then (λ x. x.parent) (slice_get program.stmts s)) x.tests)

-- ---- tags

pub top_tags_as : (xs : List Activation) → top_tags (map run_of xs) ≡ trace.top_tags xs
top_tags_as [] = refl
top_tags_as (x ∷ xs) = refl

pub tagged_as : (c : ℕ) (me : Tag) (xs : List Activation) → map run_of (trace.tagged c me xs) ≡ tagged c me (map run_of xs)
tagged_as c me [] = refl
tagged_as c me (x ∷ xs) = refl

into_as : (into : Option ℕ) (value : Option ℤ) (me : Tag) (xs : List Activation) → map run_of (trace.tagged_into into value me xs) ≡ tagged_into into value me (map run_of xs)
into_as (Some c) (Some v) me xs = tagged_as c me xs
into_as (Some c) None me xs = refl
into_as None value me xs = refl

below_as : (xs : List Activation) → map run_of (drop 1 xs) ≡ drop 1 (map run_of xs)
below_as [] = refl
below_as (x ∷ xs) = refl

-- a return ends the running activation, and the one below receives the value
pub returned_as : (into : Option ℕ) (value : Option ℤ) (me : Tag) (xs : List Activation) → map run_of (trace.tagged_into into value me (drop 1 xs)) ≡ tagged_into into value me (drop 1 (map run_of xs))
returned_as into value me xs = into_as into value me (drop 1 xs) ∙ ap (λ l. tagged_into into value me l) (below_as xs)
