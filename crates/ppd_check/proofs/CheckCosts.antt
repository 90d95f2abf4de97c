-- What a source declares and says in all, against the nodes of its table.
use Rattle.std.proofs.Common.{◌≡◌, refl, ap, ◌∙◌, ℕ, ◌+◌, ◌*◌, ◌≤◌, arith, List, [], ◌++◌, length, map, Option, None, nat_lt, not}
use Rattle.ppd_ast.specs.declared.program.Stmt.{Stmt}
use Rattle.ppd_parse.specs.declared.node.Node.{Node}
use Rattle.ppd_parse.specs.Tree.{tree_of, IsTable}
use Rattle.ppd_check_names.specs.declared.globals.Globals.{Globals}
use Rattle.ppd_check_names.specs.Cost.{nodes_at, total, heads_nodes}
use Rattle.ppd_check_names.specs.declared.frame.Variable.{Variable}
use Rattle.ppd_check_names.proofs.Declared.Costs.{heads_apart}
use Rattle.ppd_check_names.specs.Reading.{source_of}
use Rattle.ppd_check.specs.Sources.{codes, all_stmts, past_statements}
use Rattle.ppd_check_names.specs.Globals.{globals, no_globals, items_faults, count_faults}
use Rattle.ppd_check.proofs.HeadCosts.{elements_some}
use Rattle.ppd_check.proofs.Linear.{core_few}
use Rattle.ppd_check.proofs.LinearNodes.{tree_within}
use Rattle.ppd_check.proofs.Tables.{length_vars}
use Rattle.ppd_ast.specs.declared.program.Body.{Body}
use Rattle.ppd_ast.specs.declared.program.Expr.{Expr}
use Rattle.ppd_check_names.specs.declared.fault.Cause.TheVariants.{NoProcess}
use Rattle.ppd_check_names.specs.declared.fault.Fault.{Fault}
use Rattle.ppd_check_names.specs.declared.writer.Writer.{Writer}
use Rattle.ppd_check.specs.Bodies.{WroteHeads}
use Rattle.ppd_check_names.specs.Faults.{first, first_of_both, if_so}
use Rattle.ppd_check_names.specs.Holding.{head_at, Holds}
use Rattle.ppd_check_names.specs.Names.{innermost}
use Rattle.ppd_check.specs.Placed.{place_of}
use Rattle.ppd_check_names.specs.Syntax.{Source}
use Rattle.ppd_check.proofs.Sourced.{parts_of, parts_stmts}

pub root_few : (ns : List Node) → IsTable ns → nodes_at ns 0 ≤ length ns
unfolding nodes_at
root_few ns table = omega (arith, tree_within ns table)

pub source_few : (ns : List Node) → IsTable ns → length (all_stmts 0 0 0 (codes (globals (source_of (tree_of ns))))) + length (globals (source_of (tree_of ns))).shared ≤ 9 * length ns
source_few ns table =
    let ts : List Stmt = all_stmts 0 0 0 (codes (globals (source_of (tree_of ns)))) in
    omega (arith, core_few (tree_of ns), tree_within ns table, elements_some ts, length_vars 0 (globals (source_of (tree_of ns))).shared)

-- the statements of all bodies, however many are too many
stmts_told : (ns : List Node) (s : Source) (g : Globals) (w : Writer) (bs : List Body) (o p : Option Fault) (fs qs : List ℕ) (es : List Expr) (ts : List Stmt)
    → Holds ns g (globals s) → o ≡ first_of_both None (first (items_faults s.items no_globals ++ count_faults (globals s)))
    → p ≡ first_of_both o (first (if_so (not (nat_lt 0 (length (globals s).processes))) s.end NoProcess))
    → fs ≡ g.functions → qs ≡ g.processes → es ≡ [] → ts ≡ []
    → WroteHeads (innermost g.scopes) (map (head_at ns) fs ++ map (head_at ns) qs) (record { exprs = es; stmts = ts; found = p }) w [] bs
    → w.stmts ≡ all_stmts 0 0 0 (codes (globals s))
stmts_told ns s g w bs o p fs qs es ts held declared some f q e t wrote =
    let last : Option Fault = first_of_both w.found (first (past_statements (map place_of w.stmts))) in
    parts_stmts ns s g w bs last
    (parts_of ns s g w bs last o p fs qs es ts w.stmts held declared some f q e t refl wrote
    (λ cs i. ap (λ l. first_of_both w.found (first (past_statements l))) (ap (map place_of) i)))

-- the statements and variables of a source, and the nodes of its functions and processes
pub record AllFew (ns : List Node) (vars : List Variable) (fs qs : List ℕ) (stmts : List Stmt) : Type 0 where
  pub said : length stmts + length vars ≤ 9 * length ns
  pub heads : total (nodes_at ns) fs + total (nodes_at ns) qs ≤ length ns

pub all_few : (ns : List Node) → IsTable ns → (g : Globals) (w : Writer) (bs : List Body) (o p : Option Fault) (fs qs : List ℕ) (es : List Expr) (ts : List Stmt)
    → Holds ns g (globals (source_of (tree_of ns)))
    → o ≡ first_of_both None (first (items_faults (source_of (tree_of ns)).items no_globals ++ count_faults (globals (source_of (tree_of ns)))))
    → p ≡ first_of_both o (first (if_so (not (nat_lt 0 (length (globals (source_of (tree_of ns))).processes))) (source_of (tree_of ns)).end NoProcess))
    → fs ≡ g.functions → qs ≡ g.processes → es ≡ [] → ts ≡ []
    → WroteHeads (innermost g.scopes) (map (head_at ns) fs ++ map (head_at ns) qs) (record { exprs = es; stmts = ts; found = p }) w [] bs
    → (vars : List Variable) (stmts : List Stmt) → vars ≡ g.shared → stmts ≡ w.stmts → heads_nodes ns g ≤ nodes_at ns 0
    → AllFew ns vars fs qs stmts
all_few ns table g w bs o p fs qs es ts held declared some f q e t wrote vars stmts v s few =
    let told = stmts_told ns (source_of (tree_of ns)) g w bs o p fs qs es ts held declared some f q e t wrote in
    record {
      said = omega (arith, source_few ns table, ap (λ (l : List Variable). length l) (v ∙ held.shared), ap (λ (l : List Stmt). length l) (s ∙ told));
      heads = omega (arith, heads_apart ns g fs qs f q, few, root_few ns table);
    }
