-- Which kinds of statements are loops, and which end a body.
use Rattle.std.proofs.Common.{◌≡◌, ℕ, false, refl}
use Rattle.ppd_ast.specs.declared.plan.Plan.{Plan}
use Rattle.ppd_ast.specs.declared.program.Kind.{Kind}
use Rattle.ppd_ast.specs.declared.program.Kind.TheVariants as kind
use Rattle.ppd_sem.specs.Described.{ends_body}
use Rattle.law_steps.specs.Beside.Relation.{IsCallOf}
use Rattle.law_steps.proofs.Vocabulary.Relation.{IsEnd, IsReturn}
use Rattle.law_steps.specs.Beside.Opens.{IsWhile, ends_block}

pub call_no_loop : (k : Kind) (f : ℕ) → IsCallOf k f → IsWhile k → ⊥
call_no_loop (kind.Call g arguments into) f h w = w
call_no_loop k f h w = h

pub return_no_loop : (k : Kind) → IsReturn k → IsWhile k → ⊥
return_no_loop (kind.Return e) h w = w
return_no_loop k h w = h

pub end_no_loop : (k : Kind) → IsEnd k → IsWhile k → ⊥
end_no_loop kind.End h w = w
end_no_loop k h w = h

pub while_goes : (k : Kind) → IsWhile k → ends_body k ≡ false
while_goes (kind.While e body) h = refl
while_goes k h = absurd h

-- a loop's statement ends no block
pub while_ends_none : (plan : Plan) (body : ℕ) (k : Kind) → IsWhile k → ends_block plan body k ≡ 0
while_ends_none plan body (kind.While e b) h = refl
while_ends_none plan body k h = absurd h
