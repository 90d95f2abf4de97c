-- The table of an accepted source is a valid program.
use Rattle.std.proofs.Common.{◌≡◌, sym, subst, ℕ, List, [], ◌∷◌, length}
use Rattle.std.specs.List.{All}
use Rattle.std.proofs.lemmas.List.Elements.{All-nil, All-cons, All-head, All-tail}
use Rattle.ppd_ast.specs.declared.program.Program.{Program}
use Rattle.ppd_ast.specs.Valid.{IsValid}
use Rattle.ppd_parse.specs.declared.token.Token.{Token}
use Rattle.ppd_parse.proofs.FormedTokens.{formed}
use Rattle.ppd_parse.specs.Grammar.{Shape}
use Rattle.ppd_parse.specs.Limits.{IsTree}
use Rattle.ppd_check_names.specs.Names.{Scope}
use Rattle.ppd_check.specs.Read.{IsTreeOf, IsRead}
use Rattle.ppd_check_names.specs.Reading.{source_of}
use Rattle.ppd_check.specs.Sources.{heads, head_frame, head_code, vars, core_of, faults_in}
use Rattle.ppd_check_names.specs.Globals.{Head, globals}
use Rattle.ppd_check.proofs.Valid.Core.{core_valid}
use Rattle.ppd_check.proofs.Named.Accepted.{IsNamedHead, accepted_heads, accepted_counted, accepted_cells}
use Rattle.ppd_check.proofs.Valid.Facts.{HeadNames, SourceNames}
use Rattle.ppd_check.proofs.Valid.Limits.{tree_fits}
use Rattle.ppd_check.proofs.Valid.Names.{code_names}

head_named : (p : Program) (scope : Scope) (h : Head) → IsNamedHead p scope h → HeadNames p scope h
head_named p scope h n = record {
  frame = n.frame.frame;
  cells = n.frame.cells;
  params = n.frame.params;
  code = code_names p (vars 0 (head_frame scope h).variables) (head_code scope h) n.code;
}

heads_named : (p : Program) (scope : Scope) (hs : List Head) → All (IsNamedHead p scope) hs → All (HeadNames p scope) hs
heads_named p scope [] n = All-nil (HeadNames p scope)
heads_named p scope (h ∷ hs) n =
    All-cons (HeadNames p scope) h hs (head_named p scope h (All-head (IsNamedHead p scope) h hs n)) (heads_named p scope hs (All-tail (IsNamedHead p scope) h hs n))

source_names : (ts : List Token) (t : Shape) → IsTree ts (t ∷ []) → (faults_in (source_of t) ≡ []) → SourceNames t
source_names ts t tree a = record {
  counted = accepted_counted t a;
  cells = accepted_cells t a;
  heads = heads_named (core_of (source_of t)) (globals (source_of t)).scope (heads (globals (source_of t))) (accepted_heads ts t tree a);
}

-- the law
pub accepted_valid : (bytes : List ℕ) (t : Shape) → IsTreeOf bytes t → (faults_in (source_of t) ≡ []) → IsValid (core_of (source_of t))
accepted_valid bytes t p a =
    core_valid t a (source_names p.tokens t p.parsed a) (tree_fits (length bytes) p.tokens t (formed bytes p.tokens p.lexed) p.parsed)

pub table_valid : (t : Shape) (p : Program) → (faults_in (source_of t) ≡ []) × (p ≡ core_of (source_of t)) → (bytes : List ℕ) → IsTreeOf bytes t → IsValid p
table_valid t p a = λ bytes parsed. subst IsValid (sym a.1) (accepted_valid bytes t parsed a.0)

pub read_valid : (bytes : List ℕ) (p : Program) → IsRead bytes p → IsValid p
read_valid bytes p r = table_valid r.tree p (r.accepted, r.table) bytes r.parsed
