use Rattle.std.proofs.Common.{◌∙◌, ap, refl, subst, arith, List, [], ◌++◌, length, map, Option, None, nat_lt, not}
use Rattle.std.proofs.lemmas.Result.{on_ok_weaker}
use Rattle.ppd_ast.specs.declared.program.Program.{Program}
use Rattle.ppd_parse.specs.Tree.{tree_of}
use Rattle.ppd_check.specs.Bodies.{WroteHeads}
use Rattle.ppd_check_names.specs.declared.fault.Cause.TheVariants.{NoProcess}
use Rattle.ppd_check_names.specs.declared.fault.Fault.{Fault}
use Rattle.ppd_check_names.specs.declared.frame.Variable.{Variable}
use Rattle.ppd_check_names.specs.declared.globals.Globals.{Globals}
use Rattle.ppd_check_names.specs.declared.writer.Writer.{Writer}
use Rattle.ppd_check_names.specs.Faults.{first, first_of_both, if_so}
use Rattle.ppd_check_names.specs.Fitted.{fitted}
use Rattle.ppd_check_names.specs.Globals.{globals, no_globals, items_faults, count_faults}
use Rattle.ppd_check_names.specs.Holding.{head_at}
use Rattle.ppd_check_names.specs.Names.{innermost}
use Rattle.ppd_check_names.specs.Reading.{source_of}
use Rattle.ppd_check.proofs.Sourced.{parts_of, parts_found, parts_table}
use Rattle.ppd_check.proofs.CheckCosts.{root_few, source_few, all_few}
use Rattle.ppd_check_names.proofs.Declared.Costs.{heads_apart}
use Rattle.ppd_check.proofs.checking.write_table.Goals as goal

pub returns-clause-found : goal.returns-clause-found
returns-clause-found g c =
    let ns = c.args.source.nodes.now in
    let s = source_of (tree_of ns) in
    let gs = c.args.globals.now in
    let table = c.write_lists.new.lists.out.table in
    let bodies = c.write_lists.new.lists.bodies in
    let last = c.note_statements.new.found in
    let declared : Option Fault = first_of_both None (first (items_faults s.items no_globals ++ count_faults (globals s))) in
    let begun : Option Fault = first_of_both declared (first (if_so (not (nat_lt 0 (length (globals s).processes))) s.end NoProcess)) in
    let wrote = subst (λ (w : Writer). WroteHeads (innermost gs.scopes) (map (head_at ns) gs.functions ++ map (head_at ns) gs.processes) w table [] bodies) c.requires.begun c.in_ok-write_lists.ensures.wrote in
    on_ok_weaker c.note_statements.result
    (λ counted. parts_found ns s gs table bodies last
    (parts_of ns s gs table bodies last declared begun gs.functions gs.processes [] [] c.as_slice.result.now
    c.requires.holds refl refl refl refl refl refl c.as_slice.ensures wrote counted))
    c.note_statements.ensures.faults

pub returns-clause-program : goal.returns-clause-program
returns-clause-program g c =
    let ns = c.args.source.nodes.now in
    let s = source_of (tree_of ns) in
    let gs = c.args.globals.now in
    let table = c.write_lists.new.lists.out.table in
    let bodies = c.write_lists.new.lists.bodies in
    let shared = c.write_lists.new.lists.shared in
    let last = c.note_statements.new.found in
    let declared : Option Fault = first_of_both None (first (items_faults s.items no_globals ++ count_faults (globals s))) in
    let begun : Option Fault = first_of_both declared (first (if_so (not (nat_lt 0 (length (globals s).processes))) s.end NoProcess)) in
    let wrote = subst (λ (w : Writer). WroteHeads (innermost gs.scopes) (map (head_at ns) gs.functions ++ map (head_at ns) gs.processes) w table [] bodies) c.requires.begun c.in_ok-write_lists.ensures.wrote in
    let program : Globals → Program = λ x. record { exprs = table.exprs; stmts = table.stmts; bodies = bodies; functions = fitted 16 (length x.functions); shared = shared; starts = x.starts; sems = x.sems; chans = x.chans } in
    on_ok_weaker c.note_statements.result
    (λ counted accepted. ap program c.write_lists.ensures.rest
    ∙ parts_table ns s gs table bodies last (fitted 16 (length gs.functions)) shared
    (parts_of ns s gs table bodies last declared begun gs.functions gs.processes [] [] c.as_slice.result.now
    c.requires.holds refl refl refl refl refl refl c.as_slice.ensures wrote counted)
    refl c.in_ok-write_lists.ensures.shared accepted)
    c.note_statements.ensures.faults

pub returns-in_err-write_lists-clause-cost : goal.returns-in_err-write_lists-clause-cost
returns-in_err-write_lists-clause-cost g c =
    let ns = c.args.source.nodes.now in
    let table = c.args.source.table in
    let gs = c.args.globals.now in
    omega (arith, c.write_lists.ensures.cost, ap (λ (l : List Variable). length l) c.requires.holds.shared, source_few ns table, heads_apart ns gs gs.functions gs.processes refl refl, c.requires.heads, root_few ns table)

pub returns-clause-cost : goal.returns-clause-cost
returns-clause-cost g c =
    let ns = c.args.source.nodes.now in
    let s = source_of (tree_of ns) in
    let gs = c.args.globals.now in
    let table = c.write_lists.new.lists.out.table in
    let bodies = c.write_lists.new.lists.bodies in
    let declared : Option Fault = first_of_both None (first (items_faults s.items no_globals ++ count_faults (globals s))) in
    let begun : Option Fault = first_of_both declared (first (if_so (not (nat_lt 0 (length (globals s).processes))) s.end NoProcess)) in
    let wrote = subst (λ (w : Writer). WroteHeads (innermost gs.scopes) (map (head_at ns) gs.functions ++ map (head_at ns) gs.processes) w table [] bodies) c.requires.begun c.in_ok-write_lists.ensures.wrote in
    let few =
    all_few ns c.args.source.table gs table bodies declared begun gs.functions gs.processes [] []
    c.requires.holds refl refl refl refl refl refl wrote
    gs.shared c.as_slice.result.now refl c.as_slice.ensures c.requires.heads in
    omega (arith, c.write_lists.ensures.cost, c.note_statements.ensures.cost, few)
