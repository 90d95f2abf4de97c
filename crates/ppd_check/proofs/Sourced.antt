-- A whole source: what was found in its parts, and its table from them.
use Rattle.std.proofs.Common.{◌≡◌, refl, sym, ap, subst, ◌∙◌, ℕ, ℤ, ◌≤◌, arith, Bool, true, false, nat_lt, if◌then◌else◌, List, [], ◌∷◌, ◌++◌, map, length, Option, None, Some, not}
use Rattle.std.specs.Ordering.{is_lt}
use Rattle.std.specs.List.{flat_map}
use Rattle.std.proofs.lemmas.List.{append_assoc, length-map}
use Rattle.std.proofs.lemmas.Bool.{ltb-false}
use Rattle.ppd_ast.specs.declared.limits.TheConstants.{MOST_SHARED_CELLS, MOST_FUNCTIONS, MOST_PROCESSES, MOST_SEMAPHORES, MOST_CHANNELS}
use Rattle.ppd_ast.specs.declared.program.Body.{Body}
use Rattle.ppd_ast.specs.declared.program.Expr.{Expr}
use Rattle.ppd_ast.specs.declared.program.Program.{Program}
use Rattle.ppd_ast.specs.declared.program.Stmt.{Stmt}
use Rattle.ppd_ast.specs.declared.program.Var.{Var}
use Rattle.ppd_ast.specs.declared.program.Sem.{Sem}
use Rattle.ppd_ast.specs.declared.program.Chan.{Chan}
use Rattle.ppd_parse.specs.declared.node.Node.{Node}
use Rattle.ppd_parse.specs.Tree.{tree_of}
use Rattle.ppd_check.specs.Placed.{place_of}
use Rattle.ppd_check_names.specs.declared.fault.Cause.TheVariants.{NoProcess, TooMany}
use Rattle.ppd_check_names.specs.declared.fault.Fault.{Fault}
use Rattle.ppd_check_names.specs.declared.fault.Limit.{Limit}
use Rattle.ppd_check_names.specs.declared.fault.Limit.TheVariants as L
use Rattle.ppd_check_names.specs.declared.frame.Variable.{Variable}
use Rattle.ppd_check_names.specs.declared.globals.Globals.{Globals}
use Rattle.ppd_check_names.specs.declared.writer.Writer.{Writer}
use Rattle.ppd_check.specs.Bodies.{WroteHeads}
use Rattle.ppd_check_stmts.specs.Code.{Code}
use Rattle.ppd_check_names.specs.Faults.{at, if_so, first, first_of_both, order}
use Rattle.ppd_check_names.proofs.Words.{head_name, object_name}
use Rattle.ppd_check_names.specs.Fitted.{fitted}
use Rattle.ppd_check_names.specs.Holding.{head_at, Holds}
use Rattle.ppd_check_names.specs.Names.{innermost}
use Rattle.ppd_check_names.specs.Globals as S
use Rattle.ppd_check.specs.Sources.{past_statements, head_faults, heads, codes, faults_in, vars, bodies, all_stmts, core_of}
use Rattle.ppd_check_names.specs.Reading.{source_of}
use Rattle.ppd_check_names.specs.Globals.{no_globals, globals, with_item, items_faults, count_faults, past, past_cells, sem}
use Rattle.ppd_check_names.specs.Holding.{with_items}
use Rattle.ppd_check_names.specs.Frames.{after_cells}
use Rattle.ppd_check_names.specs.Syntax.{Item, Source}
use Rattle.ppd_check_stmts.specs.Table.{flats, terms}
use Rattle.ppd_check_names.proofs.Declared.Counted.{end_cells, Celled, celled_item}
use Rattle.ppd_check_names.proofs.Found.First.{found_in_both}

-- Nothing was found where no rule is broken.

clash_some : (f : Fault) → Some f ≡ None → ⊥
clash_some f h = cc

two_some : (f : Fault) (o : Option Fault) → first_of_both (Some f) o ≡ None → ⊥
two_some f None h = clash_some f h
two_some f (Some g) h = go (is_lt (order g f)) h
  where
    go : (b : Bool) → (if b then Some g else Some f) ≡ None → ⊥
    go true e = clash_some g e
    go false e = clash_some f e

pub none_broken : (fs : List Fault) → first fs ≡ None → fs ≡ []
none_broken [] h = refl
none_broken (f ∷ fs) h = absurd (two_some f (first fs) h)

clash_cons : (f : Fault) (fs : List Fault) → f ∷ fs ≡ [] → ⊥
clash_cons f fs h = cc

none_left : (xs ys : List Fault) → xs ++ ys ≡ [] → xs ≡ []
none_left [] ys h = refl
none_left (x ∷ xs) ys h = absurd (clash_cons x (xs ++ ys) h)

none_right : (xs ys : List Fault) → xs ++ ys ≡ [] → ys ≡ []
none_right [] ys h = h
none_right (x ∷ xs) ys h = absurd (clash_cons x (xs ++ ys) h)

-- Shared cells that are not too many.

few_cells : (most : ℕ) (limit : Limit) (n : ℕ) (vs : List Variable) → n ≤ most → past_cells most limit n vs ≡ [] → end_cells n vs ≤ most
few_cells most limit n [] l h = l
few_cells most limit n (v ∷ vs) l h =
    go (nat_lt most (after_cells n v.length)) refl (none_left (if_so (nat_lt most (after_cells n v.length)) v.place (TooMany limit)) (past_cells most limit (after_cells n v.length) vs) h)
    (λ k. few_cells most limit (after_cells n v.length) vs k (none_right (if_so (nat_lt most (after_cells n v.length)) v.place (TooMany limit)) (past_cells most limit (after_cells n v.length) vs) h))
  where
    go : (b : Bool) → nat_lt most (after_cells n v.length) ≡ b → if_so b v.place (TooMany limit) ≡ [] → (after_cells n v.length ≤ most → end_cells (after_cells n v.length) vs ≤ most)
        → end_cells (after_cells n v.length) vs ≤ most
    go true e i f = absurd (clash_cons (at v.place (TooMany limit)) [] i)
    go false e i f = f (ltb-false most (after_cells n v.length) e)

celled_items : (is : List Item) (s : S.Globals) → Celled s → Celled (with_items is s)
celled_items [] s h = h
celled_items (i ∷ is) s h = celled_items is (with_item i s) (celled_item i s h)

few_counted : (g : S.Globals) → count_faults g ≡ [] → past_cells MOST_SHARED_CELLS L.Shared 0 g.shared ≡ []
few_counted g h =
    let functions : List Fault = past MOST_FUNCTIONS L.Functions (map head_name g.functions) in
    let processes : List Fault = past MOST_PROCESSES L.Processes (map head_name g.processes) in
    let semaphores : List Fault = past MOST_SEMAPHORES L.Semaphores (map object_name g.semaphores) in
    let channels : List Fault = past MOST_CHANNELS L.Channels (map object_name g.channels) in
    let cells : List Fault = past_cells MOST_SHARED_CELLS L.Shared 0 g.shared in
    none_right channels cells
    (none_right semaphores (channels ++ cells)
    (none_right processes (semaphores ++ (channels ++ cells))
    (none_right functions (processes ++ (semaphores ++ (channels ++ cells))) h)))

few_shared : (s : Source) → faults_in s ≡ [] → (globals s).cells ≤ MOST_SHARED_CELLS
few_shared s h =
    let rest : List Fault = if_so (not (nat_lt 0 (length (globals s).processes))) s.end NoProcess ++ (flat_map (head_faults (globals s).scope) (heads (globals s)) ++ past_statements (map place_of (all_stmts 0 0 0 (codes (globals s))))) in
    let counted : count_faults (globals s) ≡ [] = none_left (count_faults (globals s)) rest (none_right (items_faults s.items no_globals) (count_faults (globals s) ++ rest) h) in
    let few : end_cells 0 (globals s).shared ≤ MOST_SHARED_CELLS = few_cells MOST_SHARED_CELLS L.Shared 0 (globals s).shared (omega arith) (few_counted (globals s) counted) in
    subst (λ n. n ≤ MOST_SHARED_CELLS) (sym (celled_items s.items no_globals refl)) few

-- What was found.

found_whole : (i c n h p : List Fault) → (((i ++ c) ++ n) ++ h) ++ p ≡ i ++ (c ++ (n ++ (h ++ p)))
found_whole i c n h p =
    append_assoc ((i ++ c) ++ n) h p
    ∙ append_assoc (i ++ c) n (h ++ p)
    ∙ append_assoc i c (n ++ (h ++ p))

-- the parts of a check, and what they found after one another
pub record Parts (ns : List Node) (s : Source) (g : Globals) (w : Writer) (bs : List Body) (last : Option Fault) : Type 0 where
  pub held : Holds ns g (globals s)
  pub first_found : Option Fault
  pub declared : first_found ≡ first_of_both None (first (items_faults s.items no_globals ++ count_faults (globals s)))
  pub next_found : Option Fault
  pub some : next_found ≡ first_of_both first_found (first (if_so (not (nat_lt 0 (length (globals s).processes))) s.end NoProcess))
  pub wrote : WroteHeads (innermost g.scopes) (map (head_at ns) g.functions ++ map (head_at ns) g.processes) (record { exprs = []; stmts = []; found = next_found }) w [] bs
  pub counted : (cs : List Code) → w.stmts ≡ all_stmts 0 0 0 cs → last ≡ first_of_both w.found (first (past_statements (map place_of (all_stmts 0 0 0 cs))))

heads_held : (ns : List Node) (s : Source) (g : Globals) → Holds ns g (globals s) → map (head_at ns) g.functions ++ map (head_at ns) g.processes ≡ heads (globals s)
heads_held ns s g h = ap (λ l. l ++ map (head_at ns) g.processes) h.functions ∙ ap (λ l. (globals s).functions ++ l) h.processes

scope_held : (ns : List Node) (s : Source) (g : Globals) → Holds ns g (globals s) → innermost g.scopes ≡ (globals s).scope
scope_held ns s g h = ap innermost h.scopes

all_wrote : (ns : List Node) (s : Source) (g : Globals) (w : Writer) (bs : List Body) (last : Option Fault) → (x : Parts ns s g w bs last)
    → WroteHeads (globals s).scope (heads (globals s)) (record { exprs = []; stmts = []; found = x.next_found }) w [] bs
all_wrote ns s g w bs last x =
    subst (λ sc. WroteHeads sc (heads (globals s)) (record { exprs = []; stmts = []; found = x.next_found }) w [] bs) (scope_held ns s g x.held)
    (subst (λ hs. WroteHeads (innermost g.scopes) hs (record { exprs = []; stmts = []; found = x.next_found }) w [] bs) (heads_held ns s g x.held) x.wrote)

pub parts_found : (ns : List Node) (s : Source) (g : Globals) (w : Writer) (bs : List Body) (last : Option Fault) → Parts ns s g w bs last → last ≡ first (faults_in s)
parts_found ns s g w bs last x =
    let y : WroteHeads (globals s).scope (heads (globals s)) (record { exprs = []; stmts = []; found = x.next_found }) w [] bs = all_wrote ns s g w bs last x in
    let i : List Fault = items_faults s.items no_globals in
    let c : List Fault = count_faults (globals s) in
    let n : List Fault = if_so (not (nat_lt 0 (length (globals s).processes))) s.end NoProcess in
    let h : List Fault = flat_map (head_faults (globals s).scope) (heads (globals s)) in
    let p : List Fault = past_statements (map place_of (all_stmts 0 0 0 (codes (globals s)))) in
    found_in_both None w.found last (((i ++ c) ++ n) ++ h) p
    (found_in_both None x.next_found w.found ((i ++ c) ++ n) h
    (found_in_both None x.first_found x.next_found (i ++ c) n x.declared x.some) y.found)
    (x.counted (codes (globals s)) y.stmts)
    ∙ ap first (found_whole i c n h p)

pub parts_stmts : (ns : List Node) (s : Source) (g : Globals) (w : Writer) (bs : List Body) (last : Option Fault) → Parts ns s g w bs last → w.stmts ≡ all_stmts 0 0 0 (codes (globals s))
parts_stmts ns s g w bs last x = (all_wrote ns s g w bs last x).stmts

abbrev table_of : List Expr → List Stmt → List Body → ℕ → List Var → List ℤ → List Sem → List Chan → Program
table_of e t b f v z m d = record { exprs = e; stmts = t; bodies = b; functions = f; shared = v; starts = z; sems = m; chans = d }

pub parts_table : (ns : List Node) (s : Source) (g : Globals) (w : Writer) (bs : List Body) (last : Option Fault) (functions : ℕ) (shared : List Var) → Parts ns s g w bs last
    → functions ≡ fitted 16 (length g.functions) → shared ≡ vars 0 g.shared → faults_in s ≡ [] → table_of w.exprs w.stmts bs functions shared g.starts g.sems g.chans ≡ core_of s
parts_table ns s g w bs last functions shared x f v h =
    let y : WroteHeads (globals s).scope (heads (globals s)) (record { exprs = []; stmts = []; found = x.next_found }) w [] bs = all_wrote ns s g w bs last x in
    let e : List Expr = flats 0 (flat_map terms (codes (globals s))) in
    let t : List Stmt = all_stmts 0 0 0 (codes (globals s)) in
    let b : List Body = bodies (globals s).scope 0 (heads (globals s)) in
    let n : ℕ = fitted 16 (length (globals s).functions) in
    let many : length g.functions ≡ length (globals s).functions = sym (length-map g.functions (head_at ns)) ∙ ap length x.held.functions in
    ap (λ i. table_of i w.stmts bs functions shared g.starts g.sems g.chans) y.exprs
    ∙ ap (λ i. table_of e i bs functions shared g.starts g.sems g.chans) y.stmts
    ∙ ap (λ i. table_of e t i functions shared g.starts g.sems g.chans) y.bodies
    ∙ ap (λ i. table_of e t b i shared g.starts g.sems g.chans) (f ∙ ap (fitted 16) many)
    ∙ ap (λ i. table_of e t b n i g.starts g.sems g.chans) (v ∙ ap (vars 0) x.held.shared)
    ∙ ap (λ i. table_of e t b n (vars 0 (globals s).shared) i g.sems g.chans) (x.held.starts (few_shared s h))
    ∙ ap (λ i. table_of e t b n (vars 0 (globals s).shared) (globals s).starts i g.chans) x.held.sems
    ∙ ap (λ i. table_of e t b n (vars 0 (globals s).shared) (globals s).starts (map sem (globals s).semaphores) i) x.held.chans

-- the parts as the code has them
pub parts_of : (ns : List Node) (s : Source) (g : Globals) (w : Writer) (bs : List Body) (last o p : Option Fault) (fs qs : List ℕ) (es : List Expr) (ts ss : List Stmt)
    → Holds ns g (globals s) → o ≡ first_of_both None (first (items_faults s.items no_globals ++ count_faults (globals s)))
    → p ≡ first_of_both o (first (if_so (not (nat_lt 0 (length (globals s).processes))) s.end NoProcess))
    → fs ≡ g.functions → qs ≡ g.processes → es ≡ [] → ts ≡ [] → ss ≡ w.stmts
    → WroteHeads (innermost g.scopes) (map (head_at ns) fs ++ map (head_at ns) qs) (record { exprs = es; stmts = ts; found = p }) w [] bs
    → ((cs : List Code) → ss ≡ all_stmts 0 0 0 cs → last ≡ first_of_both w.found (first (past_statements (map place_of (all_stmts 0 0 0 cs)))))
    → Parts ns s g w bs last
parts_of ns s g w bs last o p fs qs es ts ss held declared some f q e t l wrote counted =
    record {
      held = held;
      first_found = o;
      declared = declared;
      next_found = p;
      some = some;
      wrote =
          subst (λ (x : List Stmt). WroteHeads (innermost g.scopes) (map (head_at ns) g.functions ++ map (head_at ns) g.processes) (record { exprs = []; stmts = x; found = p }) w [] bs) t
          (subst (λ (x : List Expr). WroteHeads (innermost g.scopes) (map (head_at ns) g.functions ++ map (head_at ns) g.processes) (record { exprs = x; stmts = ts; found = p }) w [] bs) e
          (subst (λ (x : List ℕ). WroteHeads (innermost g.scopes) (map (head_at ns) g.functions ++ map (head_at ns) x) (record { exprs = es; stmts = ts; found = p }) w [] bs) q
          (subst (λ (x : List ℕ). WroteHeads (innermost g.scopes) (map (head_at ns) x ++ map (head_at ns) qs) (record { exprs = es; stmts = ts; found = p }) w [] bs) f wrote)));
      counted = λ cs i. counted cs (l ∙ i);
    }

-- where nothing was found, no rule is broken and the table is the tree's
pub accepted_told : (ns ms : List Node) (p : Program) (f : Option Fault) → ms ≡ ns → f ≡ first (faults_in (source_of (tree_of ms))) → ((faults_in (source_of (tree_of ms)) ≡ []) → p ≡ core_of (source_of (tree_of ms))) → f ≡ None
    → (faults_in (source_of (tree_of ns)) ≡ []) × (p ≡ core_of (source_of (tree_of ns)))
accepted_told ns ms p f e g h n =
    let a : (faults_in (source_of (tree_of ms)) ≡ []) = none_broken (faults_in (source_of (tree_of ms))) (sym g ∙ n) in
    subst (λ (l : List Node). (faults_in (source_of (tree_of l)) ≡ []) × (p ≡ core_of (source_of (tree_of l)))) e (a, h a)
