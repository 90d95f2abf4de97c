-- The plan of a policy: its blocks with what their prelogs and postlogs hold, and its units.
use Rattle.ppd_ast.specs.Bare.{gives_value}
use Rattle.ppd_ast.specs.Lookups.{body_numbered}
use Rattle.ppd_ast.specs.Numbered.{blocks_by}
use Rattle.ppd_ast.specs.declared.plan.Block.{Block}
use Rattle.ppd_ast.specs.declared.plan.BlockKind.{BlockKind}
use Rattle.ppd_ast.specs.declared.plan.BlockKind.TheVariants.{Function, Loop, Process}
use Rattle.ppd_ast.specs.declared.plan.Plan.{Plan}
use Rattle.ppd_ast.specs.declared.plan.Policy.{Policy}
use Rattle.ppd_ast.specs.declared.program.Program.{Program}
use Rattle.ppd_blocks.specs.Starts.{units_of}
use Rattle.ppd_sets.specs.Used.{local_in, reads_at, sorted, writes_at}
use Rattle.std.specs.List.{flat_map, range_with_len}
use Rattle.std.specs.Prelude.{List, [], false, map, ℕ, ◌++◌, ◌∷◌}

-- what a prelog holds: of a function its parameters, of a loop the local cells that it may read or write, rising
abbrev pub prelog_of : Program → BlockKind → List ℕ
prelog_of p (Function f) = range_with_len 0 (body_numbered p f).params
prelog_of p (Process f) = []
prelog_of p (Loop q) = sorted (local_in p (reads_at false p) q ++ local_in p (writes_at false p) q)

-- what a postlog holds beside a returned value: of a loop the local cells that it may write, rising
abbrev pub postlog_of : Program → BlockKind → List ℕ
postlog_of p (Function f) = []
postlog_of p (Process f) = []
postlog_of p (Loop q) = local_in p (writes_at false p) q

-- a block with its cells in place of those that it has
abbrev pub filled : Program → Block → Block
filled p block =
    record {
      kind = block.kind;
      prelog = prelog_of p block.kind;
      postlog = postlog_of p block.kind;
      value = block.value;
    }

abbrev pub loop_in : BlockKind → List ℕ
loop_in (Function f) = []
loop_in (Process f) = []
loop_in (Loop q) = q ∷ []

-- the blocks and the units of the policy, in the order of their numbers
abbrev pub plan_of : Program → Policy → Plan
plan_of p policy = record {
  policy = policy;
  blocks =
      map
      (λ kind.
      record {
        kind = kind;
        prelog = prelog_of p kind;
        postlog = postlog_of p kind;
        value = gives_value p.bodies kind;
      })
      (blocks_by p.stmts policy p.bodies);
  units = units_of p (flat_map loop_in (blocks_by p.stmts policy p.bodies));
}
