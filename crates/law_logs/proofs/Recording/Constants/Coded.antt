-- The constants and start values of an accepted source's program have 64 bits.
use Rattle.std.proofs.Common.{◌≡◌, ℕ, zero, suc, ◌+◌, ℤ, pos, negsuc, true, Bool, List, [], ◌∷◌, ◌++◌, None, refl, sym, ◌∙◌, subst, map, length, replicate, arith, w64, FitsSigned, if◌then◌else◌}
use Rattle.std.specs.Prelude as P
use Rattle.std.specs.List.{flat_map}
use Rattle.std.proofs.lemmas.Bool.Decides.{nat_tests}
use Rattle.ppd_ast.specs.declared.program.Expr.{Expr}
use Rattle.ppd_ast.specs.declared.program.Expr.TheVariants.{LocalAt, SharedAt, Neg, Not, Two, And, Or}
use Rattle.ppd_ast.specs.Term as T
use Rattle.ppd_ast.specs.Term.{Term}
use Rattle.ppd_parse.specs.declared.token.Token.{Token}
use Rattle.ppd_parse.specs.declared.token.TokenKind.{TokenKind}
use Rattle.ppd_parse.specs.declared.token.TokenKind.TheVariants as K
use Rattle.ppd_parse.specs.Formed.{IsFormed, IsKind}
use Rattle.ppd_parse.proofs.FormedTokens.{formed}
use Rattle.ppd_parse.specs.Grammar.{Shape}
use Rattle.ppd_parse.specs.Leaves.{leaves}
use Rattle.ppd_parse.specs.Limits.{IsTree}
use Rattle.ppd_parse.proofs.TreeLeaves.{program_leaves}
use Rattle.ppd_check_stmts.specs.Code as C
use Rattle.ppd_check_stmts.specs.Code.{done, act}
use Rattle.ppd_check_names.specs.Fitted.{fitted}
use Rattle.ppd_check_names.specs.Names.{Scope}
use Rattle.ppd_check_names.specs.Reading.{said, source_of, as_items, value_of}
use Rattle.ppd_check.specs.Sources.{codes, ends_with_return, entry, head_code, heads, close_code}
use Rattle.ppd_check_names.specs.Globals.{Globals, Head, globals, no_globals, with_item}
use Rattle.ppd_check_names.specs.Holding.{with_items}
use Rattle.ppd_check_stmts.specs.Statements.{row_code}
use Rattle.ppd_check_names.specs.Syntax.{Item, shared, shared_array, semaphore, channel, function, process}
use Rattle.ppd_check_stmts.specs.Table.{flat, flats, root, terms, weight}
use Rattle.ppd_sem.proofs.Arithmetic.{true-fits}
use Rattle.law_logs.specs.Recording.Constants.{ConstantsHave64Bits}
use Rattle.law_logs.specs.Recording.Values.{HasConstantsOf64Bits, IsConstantOf64Bits}
use Rattle.law_logs.proofs.Recording.Fit.{All, Fit, all_append, all_left}
use Rattle.law_logs.proofs.Recording.Constants.Said.{TokenFits, said_fits}
use Rattle.law_logs.proofs.Recording.Constants.Phrases.{ItemFits, RowFits, items_fit}
use Rattle.law_logs.proofs.Recording.Terms.{TermFits}
use Rattle.law_logs.proofs.Recording.Constants.Statements.{CodeFits, join_fits, row_fits}

-- ---- bodies

abbrev HeadFits : Head → Type 0
HeadFits h = RowFits h.block.row

close_fits : (h : Head) → CodeFits (close_code h)
close_fits h = by h.process (ends_with_return h.block.row)
  where
    by : (a b : Bool) → CodeFits (if a then act h.block.close C.finish done else if b then done else act h.block.close (C.give_back None) done)
    by true b = tt
    by _ true = tt
    by _ _ = tt

head_fits : (scope : Scope) (h : Head) → HeadFits h → CodeFits (head_code scope h)
head_fits scope h k = join_fits (row_code h.block.row (entry scope h)) (close_code h) (row_fits h.block.row (entry scope h) k) (close_fits h)

record GlobalsFit (g : Globals) : Type 0 where
  starts : All Fit g.starts
  functions : All HeadFits g.functions
  processes : All HeadFits g.processes

zeros_fit : (n : ℕ) → All Fit (replicate n (pos 0))
zeros_fit zero = tt
zeros_fit (suc n) = (refl, zeros_fit n)

with_fits : (i : Item) (g : Globals) → ItemFits i → GlobalsFit g → GlobalsFit (with_item i g)
with_fits (shared x v) g h k = record { starts = all_append Fit g.starts (v ∷ []) k.starts (h, tt); functions = k.functions; processes = k.processes }
with_fits (shared_array x n) g h k = record { starts = all_append Fit g.starts (replicate (fitted 16 n.value) (pos 0)) k.starts (zeros_fit (fitted 16 n.value)); functions = k.functions; processes = k.processes }
with_fits (semaphore x n) g h k = record { starts = k.starts; functions = k.functions; processes = k.processes }
with_fits (channel x n) g h k = record { starts = k.starts; functions = k.functions; processes = k.processes }
with_fits (function gives x ps b) g h k = record { starts = k.starts; functions = all_append HeadFits g.functions _ k.functions (h, tt); processes = k.processes }
with_fits (process x b) g h k = record { starts = k.starts; functions = k.functions; processes = all_append HeadFits g.processes _ k.processes (h, tt) }

all_with_fit : (is : List Item) (g : Globals) → All ItemFits is → GlobalsFit g → GlobalsFit (with_items is g)
all_with_fit [] g h k = k
all_with_fit (i ∷ is) g h k = all_with_fit is (with_item i g) h.1 (with_fits i g h.0 k)

all_terms : (scope : Scope) (hs : List Head) → All HeadFits hs → All TermFits (flat_map terms (map (head_code scope) hs))
all_terms scope [] h = tt
all_terms scope (x ∷ hs) h = all_append TermFits (terms (head_code scope x)) (flat_map terms (map (head_code scope) hs)) (head_fits scope x h.0) (all_terms scope hs h.1)

-- ---- the table

abbrev ExprFits : Expr → Type 0
ExprFits e = IsConstantOf64Bits e

flat_fits : (m : ℕ) (t : Term) → TermFits t → All ExprFits (flat m t)
flat_fits m (T.const v) h = (true-fits v h, tt)
flat_fits m (T.local c) h = (tt, tt)
flat_fits m (T.local_at base n i) h = all_append ExprFits (flat m i) (LocalAt base n (root m i) ∷ []) (flat_fits m i h) (tt, tt)
flat_fits m (T.shared c) h = (tt, tt)
flat_fits m (T.shared_at base n i) h = all_append ExprFits (flat m i) (SharedAt base n (root m i) ∷ []) (flat_fits m i h) (tt, tt)
flat_fits m (T.neg a) h = all_append ExprFits (flat m a) (Neg (root m a) ∷ []) (flat_fits m a h) (tt, tt)
flat_fits m (T.not a) h = all_append ExprFits (flat m a) (Not (root m a) ∷ []) (flat_fits m a h) (tt, tt)
flat_fits m (T.two op a b) h =
    all_append ExprFits (flat m a) (flat (m + weight a) b ++ Two op (root m a) (root (m + weight a) b) ∷ []) (flat_fits m a h.0)
    (all_append ExprFits (flat (m + weight a) b) (Two op (root m a) (root (m + weight a) b) ∷ []) (flat_fits (m + weight a) b h.1) (tt, tt))
flat_fits m (T.and a b) h =
    all_append ExprFits (flat m a) (flat (m + weight a) b ++ And (root m a) (root (m + weight a) b) ∷ []) (flat_fits m a h.0)
    (all_append ExprFits (flat (m + weight a) b) (And (root m a) (root (m + weight a) b) ∷ []) (flat_fits (m + weight a) b h.1) (tt, tt))
flat_fits m (T.or a b) h =
    all_append ExprFits (flat m a) (flat (m + weight a) b ++ Or (root m a) (root (m + weight a) b) ∷ []) (flat_fits m a h.0)
    (all_append ExprFits (flat (m + weight a) b) (Or (root m a) (root (m + weight a) b) ∷ []) (flat_fits (m + weight a) b h.1) (tt, tt))

flats_fit : (m : ℕ) (ts : List Term) → All TermFits ts → All ExprFits (flats m ts)
flats_fit m [] h = tt
flats_fit m (t ∷ ts) h = all_append ExprFits (flat m t) (flats (m + weight t) ts) (flat_fits m t h.0) (flats_fit (m + weight t) ts h.1)

signed_all : (vs : List ℤ) → All Fit vs → All (FitsSigned w64) vs
signed_all [] h = tt
signed_all (v ∷ vs) h = (true-fits v h.0, signed_all vs h.1)

-- ---- tokens

kind_fits : (k : TokenKind) → IsKind k → Fit (value_of k)
kind_fits (K.Name x) h = refl
kind_fits (K.Number (pos n)) h = grind (arith, nat_tests)
kind_fits (K.Number (negsuc n)) h = absurd h
kind_fits (K.Word n) h = refl
kind_fits (K.Mark n) h = refl
kind_fits K.End h = refl

tokens_fit : (n : ℕ) (ts : List Token) → P.All (IsFormed n) ts → All TokenFits ts
tokens_fit n [] h = tt
tokens_fit n (t ∷ ts) h = (kind_fits t.kind (h 0 t (omega arith)).kind, tokens_fit n ts (λ k d lt. h (suc k) d (omega (arith, lt))))

tree_fits : (tree : Shape) (tokens : List Token) → IsTree tokens (tree ∷ []) → All TokenFits tokens → All TokenFits (leaves tree)
tree_fits tree tokens t h =
    let are : leaves tree ++ [] ≡ tokens = program_leaves t.program ∙ t.tokens in
    all_left TokenFits (leaves tree) [] (subst (All TokenFits) (sym are) h)

pub constants_fit : ConstantsHave64Bits
constants_fit source program r =
    let tokens : List Token = r.parsed.tokens in
    let all : All TokenFits tokens = tokens_fit (length source) tokens (formed source tokens r.parsed.lexed).each in
    let items : All ItemFits (as_items (said r.tree)) = items_fit (said r.tree) (said_fits r.tree (tree_fits r.tree tokens r.parsed.parsed all)) in
    let g : Globals = globals (source_of r.tree) in
    let fine : GlobalsFit g = all_with_fit (as_items (said r.tree)) no_globals items (record { starts = tt; functions = tt; processes = tt }) in
    subst HasConstantsOf64Bits (sym r.table) (record {
      exprs = flats_fit 0 (flat_map terms (codes g)) (all_terms g.scope (heads g) (all_append HeadFits g.functions g.processes fine.functions fine.processes));
      starts = signed_all g.starts fine.starts;
    })
