-- The plan of a policy lists all parameters of its functions' blocks.
use Rattle.std.proofs.Common.{◌≡◌, suc, List, [], ◌∷◌, Option, Some, None, length, map, arith}
use Rattle.std.specs.Prelude.{IsSomeAnd, slice_get}
use Rattle.std.specs.List.{All}
use Rattle.std.proofs.lemmas.List.Elements.{All-cons}
use Rattle.std.proofs.lemmas.List.FromFn.{length-range_with_len}
use Rattle.ppd_ast.specs.declared.plan.Block.{Block}
use Rattle.ppd_ast.specs.declared.plan.BlockKind.{BlockKind}
use Rattle.ppd_ast.specs.declared.plan.BlockKind.TheVariants.{Function, Process, Loop}
use Rattle.ppd_ast.specs.declared.plan.Policy.{Policy}
use Rattle.ppd_ast.specs.declared.program.Body.{Body}
use Rattle.ppd_ast.specs.declared.program.Program.{Program}
use Rattle.ppd_ast.specs.Numbered.{blocks_by}
use Rattle.ppd_ast.specs.ValidPlan.{IsFunctionBlock, IsValidBlock, IsValidPlan}
use Rattle.ppd_blocks.specs.Blocks.{plan_of}
use Rattle.ppd_blocks.proofs.Vocabulary.{block_of}
use Rattle.ppd_blocks.proofs.Vocabulary.{params_of}
use Rattle.ppd_blocks.proofs.Validity.{plan_valid}
use Rattle.ppd_model.specs.Costs.{HasWholePrelogs, IsWholeBlock}
use Rattle.ppd_model.proofs.Costs.{logs_paid, steps_cost}
use Rattle.law_steps.specs.Policies.{PolicyLogsArePaid, PolicyStepsCostWhatTheyWrite, setting_by}

params_whole : (o : Option Body) (x : Block) → IsSomeAnd o (λ b. IsFunctionBlock b x) → IsSomeAnd o (λ b. length (params_of o) ≡ b.params)
params_whole None x h = absurd h
params_whole (Some b) x h = length-range_with_len 0 b.params

one_whole : (p : Program) (kind : BlockKind) → IsValidBlock p (block_of p kind) → IsWholeBlock p (block_of p kind) kind
one_whole p (Function f) h = params_whole (slice_get p.bodies f) (block_of p (Function f)) h
one_whole p (Process f) h = tt
one_whole p (Loop q) h = tt

all_whole : (p : Program) (kinds : List BlockKind) → All (IsValidBlock p) (map (block_of p) kinds) → All (λ x. IsWholeBlock p x x.kind) (map (block_of p) kinds)
all_whole p [] all = λ k d h. absurd (omega arith)
all_whole p (kind ∷ kinds) all =
    All-cons (λ x. IsWholeBlock p x x.kind) (block_of p kind) (map (block_of p) kinds) (one_whole p kind (all 0 (block_of p kind) (omega arith)))
    (all_whole p kinds (λ k d h. all (suc k) d (omega arith)))

pub whole : (p : Program) (policy : Policy) → IsValidPlan p (plan_of p policy) → HasWholePrelogs p (plan_of p policy)
whole p policy v = all_whole p (blocks_by p.stmts policy p.bodies) v.blocks

pub policy_steps : PolicyStepsCostWhatTheyWrite
policy_steps program policy budget h p l v valid e =
    let plan : IsValidPlan program (plan_of program policy) = plan_valid program policy v valid in
    steps_cost (setting_by program policy budget) h p l v plan (whole program policy plan) e

pub policy_logs : PolicyLogsArePaid
policy_logs program policy budget h p l v valid e =
    let plan : IsValidPlan program (plan_of program policy) = plan_valid program policy v valid in
    logs_paid (setting_by program policy budget) h p l v plan (whole program policy plan) e
