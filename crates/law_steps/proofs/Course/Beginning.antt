-- A process of a valid program begins on course.
use Rattle.std.proofs.Common.{◌≡◌, ℕ, ◌+◌, ◌≤◌, false, List, [], ◌∷◌, Option, Some, None, refl, sym, subst, ap, ◌∙◌, arith}
use Rattle.std.specs.Prelude.{slice_get, unwrap_or}
use Rattle.std.specs.List.{All}
use Rattle.std.proofs.lemmas.List.{append-nil}
use Rattle.ppd_ast.specs.declared.plan.Plan.{Plan}
use Rattle.ppd_ast.specs.declared.program.Body.{Body}
use Rattle.ppd_ast.specs.declared.program.Program.{Program}
use Rattle.ppd_ast.specs.Valid.{IsValid}
use Rattle.ppd_ast.proofs.ValidLaws.{slice_get_below}
use Rattle.ppd_sem.specs.declared.proc.Todo.{Todo}
use Rattle.ppd_sem.specs.Process.{todos}
use Rattle.ppd_sem.specs.Runs.{IsInner, IsRunnableBody}
use Rattle.ppd_sem.proofs.Kept.{there_at}
use Rattle.ppd_sem.proofs.Validity.{valid-runnable}
use Rattle.law_steps.specs.Course.{BeginsList, IsWay}
use Rattle.law_steps.specs.Steps.{StartsOnCourse}
use Rattle.law_steps.proofs.Course.Chains.{top_chain}
use Rattle.law_steps.proofs.Course.Steps.{none_returns}
use Rattle.law_steps.proofs.Course.Ways.{list_way}
use Rattle.ppd_model.proofs.Changes.{some}
use Rattle.ppd_ast.specs.Lookups.{no_body}

begins : (xs : List ℕ) → BeginsList xs (todos xs)
begins [] = record { first = refl; unmarked = λ u us same. absurd cc }
begins (x ∷ xs) = record {
  first = refl;
  unmarked = λ u us same. let one : (record { stmt = x; entered = false; offered = false }) ≡ u = some (ap (λ l. slice_get l 0) same) in sym (ap (λ (z : Todo). z.entered) one);
}

way_of : (p : Program) (plan : Plan) (f : ℕ) (o : Option Body) → IsValid p → p.functions ≤ f → slice_get p.bodies f ≡ o → IsWay p plan (None ∷ []) (todos (unwrap_or o no_body).top)
way_of p plan f None v le at = tt
way_of p plan f (Some b) v le at =
    let found = there_at (IsRunnableBody p) p.bodies f (valid-runnable p v).bodies (slice_get_below p.bodies f b at) in
    let same : found.0 ≡ b = some (sym found.1 ∙ at) in
    let inside : All (IsInner p b.cells) b.top = subst (λ (x : Body). All (IsInner p x.cells) x.top) same (found.2.top le) in
    subst (λ l. IsWay p plan (None ∷ []) l) (append-nil (todos b.top))
    (list_way p plan (None ∷ []) b.top [] None (top_chain p f b v at) (none_returns p b.cells b.top inside) refl (λ x h. tt) tt)

first_of : (o : Option Body) → BeginsList (unwrap_or o no_body).top (todos (unwrap_or o no_body).top)
first_of None = begins []
first_of (Some b) = begins b.top

pub starts_on_course : StartsOnCourse
starts_on_course p plan process budget v = record {
  course = way_of p plan (p.functions + process) (slice_get p.bodies (p.functions + process)) v (omega arith) refl;
  first = first_of (slice_get p.bodies (p.functions + process));
}
