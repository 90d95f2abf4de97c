use Rattle.std.proofs.Common.{sym, subst, List}
use Rattle.ppd_ast.specs.declared.program.Expr.{Expr}
use Rattle.ppd_ast.specs.Table.{EachAt, AreChildrenBelow}
use Rattle.ppd_sets.specs.Named.{reads}
use Rattle.ppd_sets.specs.Gained.{Gains}
use Rattle.ppd_sets.proofs.touched.Touched.add.Goals as goal

pub add_reads-requires : goal.add_reads-requires
add_reads-requires c = subst (EachAt AreChildrenBelow) (sym c.as_slice-exprs.ensures) c.requires

pub returns : goal.returns
returns c = record {
  reads = subst (λ (es : List Expr). Gains c.args.self.now.reads c.add_reads.new.cells (reads c.args.wants_shared es c.args.kind.now)) c.as_slice-exprs.ensures c.add_reads.ensures;
  writes = c.add_writes.ensures;
}
