-- The parent of a statement of a level that is no loop's is found.
use Rattle.std.proofs.Common.{◌≡◌, ℕ, ◌-◌, List, [], ◌∷◌, ◌++◌, Option, Some, None, refl, ap, sym, subst, ◌∙◌, length, arith}
use Rattle.std.specs.Prelude.{slice_get, unwrap_or, option_and_then}
use Rattle.ppd_ast.specs.Valid.{IsValid}
use Rattle.ppd_ast.specs.declared.plan.Policy.{Policy}
use Rattle.ppd_ast.specs.declared.program.Program.{Program}
use Rattle.ppd_ast.specs.Lookups.{kind_of}
use Rattle.ppd_blocks.specs.Blocks.{plan_of}
use Rattle.ppd_model.specs.declared.flow.Origin.{Origin}
use Rattle.ppd_model.specs.declared.flow.Origin.TheVariants as origin
use Rattle.ppd_model.specs.declared.trace.EventId.{EventId}
use Rattle.ppd_model.specs.FullTrace.{latest, of_run}
use Rattle.std.specs.Option.{option_or}
use Rattle.ppd_model.proofs.TraceWords.{of_outer}
use Rattle.ppd_model.proofs.CountedOn.{kept_at, last_at}
use Rattle.law_flow.proofs.Control.Sights.{Sign, leaf_over}
use Rattle.law_flow.proofs.Control.Levels.{Level, OverNext, Run, Sort, frame_of, function, leaf, loop, process, runs_of}
use Rattle.law_flow.proofs.Control.Sides.{Answer, among_over, answered, begun_by, found_over, number_in, parent_of}
use Rattle.law_flow.proofs.Control.Queries.{first_run, Query, LeafAt, call_side, near_side, else_assoc, else_some, sure, number_of}

module _ (program : Program) (policy : Policy) (p : ℕ) (v : IsValid program) where
  -- ---- a level that is no loop's

  -- before these items, which are the first of its run, in these runs
  module _ (x : Level) (sight : List Sign) (s : ℕ)
      (longer : (j : ℕ) (q : Sign) → slice_get sight j ≡ Some q → slice_get x.run.sight j ≡ Some q) where
    abbrev pub A' : Option EventId
    A' = of_run (kind_of program s) (latest s x.view.1)

    abbrev pub B' : Option EventId
    B' = of_outer (option_and_then (λ x. x.parent) (slice_get program.stmts s)) x.view.1

    -- where no activation without an interval goes on
    pub own_answer : (rs : List Run) (i : ℕ) → slice_get rs i ≡ Some x.run
        → Query program policy p v process sight x.view s
        → leaf_over program (plan_of program policy) sight ≡ None
        → (o : Origin) → Answer program policy p rs o x.view.0
        → Answer program policy p rs (unwrap_or (found_over program policy p x.run.number s sight) o)
        (parent_of program s x.view)
    own_answer rs i at q none o other =
        subst (λ c. Answer program policy p rs (unwrap_or (found_over program policy p x.run.number s sight) o) c)
        (else_assoc program policy p v A' B' x.view.0)
        (subst (λ call. Answer program policy p rs
        (unwrap_or (among_over program policy p x.run.number s sight call) o)
        (option_or (option_or A' (option_or B' None)) x.view.0)) (sym none)
        (answered program policy p rs x.run i sight (among_over program policy p x.run.number s sight None)
        (option_or A' (option_or B' None)) x.view.0 o at longer
        (near_side program policy p v x.run.number 0 sight x.view s q.again q.outer None None tt) other))

    pub plain_answer : (sort : Sort) (ys : List Level) (rs : List Run) (i : ℕ) → slice_get rs i ≡ Some x.run
        → ((m : ℕ) → sort ≡ loop m → ⊥) → OverNext program policy p sort x ys
        → (frame_of sort ≡ 0 → (q : Run) (j : ℕ) → slice_get (runs_of ys) j ≡ Some q → (k : ℕ)
        × (slice_get rs k ≡ Some q))
        → Query program policy p v sort sight x.view s → LeafAt program policy p v sort sight x.view
        → (outer : List Run)
        → (frame_of sort ≡ 0 → outer ≡ runs_of ys)
        → (f : Origin) → (frame_of sort ≡ 0 → f ≡ begun_by program policy p x.run outer x.run.kind)
        → Answer program policy p rs (unwrap_or (found_over program policy p x.run.number s sight) f)
        (parent_of program s x.view)
    plain_answer process ys rs i at none o others q call outer is f f_is =
        own_answer rs i at q call f
        (subst (λ g. Answer program policy p rs g x.view.0) (sym (f_is refl))
        (subst (λ k. Answer program policy p rs (begun_by program policy p x.run outer k) x.view.0) (sym o.1)
        (subst (λ c. Answer program policy p rs origin.Entry c) (sym o.2) refl)))
    plain_answer function [] rs i at none o others q call outer is f f_is = absurd o
    plain_answer function (y ∷ ys) rs i at none o others q call outer is f f_is =
        let first = first_run y.sort y.run (runs_of ys) in
        let there = others refl y.run first.0 first.1 in
        let number : number_in program policy p outer ≡ y.run.number = ap (number_in program policy p) (is refl)
        ∙ number_of program policy p v y.sort y.run (runs_of ys) in
        let place : x.run.place - 1 ≡ length o.before = omega (arith, o.place_is) in
        let event : slice_get y.run.sight (length o.before) ≡ Some (Some (o.number, o.event)) =
        ap (λ ss. slice_get ss (length o.before)) o.sight_is
        ∙ kept_at (o.before ++ Some (o.number, o.event) ∷ []) (None ∷ []) (length o.before)
        (Some (o.number, o.event)) (last_at o.before (Some (o.number, o.event))) in
        own_answer rs i at (record { again = q.again; outer = q.outer }) call f
        (subst (λ g. Answer program policy p rs g x.view.0) (sym (f_is refl))
        (subst (λ k. Answer program policy p rs (begun_by program policy p x.run outer k) x.view.0) (sym o.kind_is)
        (subst (λ c. Answer program policy p rs (origin.Item p (number_in program policy p outer) (x.run.place - 1)) c)
        (sym o.called) (
          y.run,
          there.0,
          there.1,
          length o.before,
          o.event,
          ap (λ k. origin.Item p k (x.run.place - 1)) number
              ∙ ap (λ j. origin.Item p y.run.number j) place,
          refl,
          event,
        ))))
    plain_answer leaf ys rs i at none o others q call outer is f f_is =
        subst (λ c. Answer program policy p rs (unwrap_or (found_over program policy p x.run.number s sight) f)
        (option_or A' (option_or B' c))) (sym call.5)
        (subst (λ l. Answer program policy p rs (unwrap_or (among_over program policy p x.run.number s sight l) f)
        (option_or A' (option_or B' (Some (record { process = p; number = call.1 }))))) (sym call.3)
        (sure program policy p v rs x.run i sight (among_over program policy p x.run.number s sight (Some call.0))
        (option_or A' (option_or B' (Some (record { process = p; number = call.1 })))) f at longer
        (near_side program policy p v x.run.number 1 sight x.view s q.again q.outer
        (Some (origin.Item p x.run.number call.0.item))
        (Some (record { process = p; number = call.1 }))
        (call_side program policy p v x.run.number sight call.0 call.1 call.2 call.4))
        (else_some program policy p v A' B' (record { process = p; number = call.1 }))))
    plain_answer (loop m) ys rs i at none o others q call outer is f f_is = absurd (none m refl)
