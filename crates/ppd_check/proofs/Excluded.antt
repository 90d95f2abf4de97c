-- Bytes have one program at most, and those that have one are not refused.
use Rattle.std.proofs.Common.{◌≡◌, refl, sym, ap, subst, ◌∙◌, ℕ, List, [], ◌∷◌, Some, None}
use Rattle.ppd_ast.specs.declared.program.Program.{Program}
use Rattle.ppd_parse.specs.declared.token.Token.{Token}
use Rattle.ppd_parse.specs.declared.token.LexError.TheVariants as L
use Rattle.ppd_parse.specs.Tokens.{IsTokens}
use Rattle.ppd_parse.proofs.Unique.{tokens_unique, tokens_or_fault}
use Rattle.ppd_parse.specs.declared.error.SyntaxError.TheVariants as Y
use Rattle.ppd_parse.specs.declared.error.SyntaxError.{SyntaxError}
use Rattle.ppd_parse.specs.Grammar.{Shape}
use Rattle.ppd_parse.specs.Limits as Parsing
use Rattle.ppd_parse.proofs.Excluded.{tree_or_refused}
use Rattle.ppd_check.specs.declared.error.CheckError.TheVariants as C
use Rattle.ppd_check.specs.declared.error.SourceError.{SourceError}
use Rattle.ppd_check.specs.declared.error.SourceError.TheVariants as S
use Rattle.ppd_check_names.specs.declared.fault.Fault.{Fault}
use Rattle.ppd_check_names.specs.Faults.{first}
use Rattle.ppd_check.specs.Read.{IsTreeOf, IsRead, IsRefused}
use Rattle.ppd_check.specs.Sources.{core_of, faults_in}
use Rattle.ppd_check_names.specs.Reading.{source_of}

abbrev head_or : Shape → List Shape → Shape
head_or t [] = t
head_or t (u ∷ us) = u

-- bytes have one tree
tree_unique : (bytes : List ℕ) (t u : Shape) → IsTreeOf bytes t → IsTreeOf bytes u → u ≡ t
tree_unique bytes t u h k =
    let same : k.tokens ≡ h.tokens = tokens_unique bytes k.tokens h.tokens k.lexed h.lexed in
    let both : (u ∷ []) ≡ (t ∷ []) = (h.parsed.only k.parsed.marked (u ∷ []) k.parsed.program (k.parsed.tokens ∙ same)).1 in
    ap (head_or t) both

pub program_unique : (bytes : List ℕ) (p q : Program) → IsRead bytes p → IsRead bytes q → p ≡ q
program_unique bytes p q h k = h.table ∙ sym (ap (λ t. core_of (source_of t)) (tree_unique bytes h.tree k.tree h.parsed k.parsed)) ∙ sym k.table

-- an accepted tree has no first fault
none_first : (t u : Shape) (f : Fault) → u ≡ t → (faults_in (source_of t) ≡ []) → first (faults_in (source_of u)) ≡ Some f → ⊥
none_first t u f e a h =
    let n : None ≡ Some f = sym (ap first (ap (λ t. faults_in (source_of t)) e ∙ a)) ∙ h in
    cc

no_tree_refused : (bytes : List ℕ) (p : Program) (e : SyntaxError) → (e ≡ Y.Memory → ⊥) → IsRead bytes p → (tokens : List Token) → IsTokens bytes tokens → Parsing.IsRefused tokens e → ⊥
no_tree_refused bytes p e m h tokens lexed r =
    tree_or_refused h.parsed.tokens (h.tree ∷ []) h.parsed.parsed e m (subst (λ (ts : List Token). Parsing.IsRefused ts e) (tokens_unique bytes tokens h.parsed.tokens lexed h.parsed.lexed) r)

pub read_or_refused : (bytes : List ℕ) (p : Program) (e : SourceError) → IsRead bytes p → IsRefused bytes e → e ≡ S.Memory
read_or_refused bytes p (S.Lex (L.TooLong at)) h r = absurd (tokens_or_fault bytes h.parsed.tokens (L.TooLong at) h.parsed.lexed r (λ m. cc))
read_or_refused bytes p (S.Lex (L.BadByte at)) h r = absurd (tokens_or_fault bytes h.parsed.tokens (L.BadByte at) h.parsed.lexed r (λ m. cc))
read_or_refused bytes p (S.Lex (L.BadNumber at)) h r = absurd (tokens_or_fault bytes h.parsed.tokens (L.BadNumber at) h.parsed.lexed r (λ m. cc))
read_or_refused bytes p (S.Lex (L.OpenComment at)) h r = absurd (tokens_or_fault bytes h.parsed.tokens (L.OpenComment at) h.parsed.lexed r (λ m. cc))
read_or_refused bytes p (S.Lex (L.LongName at)) h r = absurd (tokens_or_fault bytes h.parsed.tokens (L.LongName at) h.parsed.lexed r (λ m. cc))
read_or_refused bytes p (S.Lex L.Memory) h r = absurd r
read_or_refused bytes p (S.Syntax (Y.Unexpected at)) h r = absurd (no_tree_refused bytes p (Y.Unexpected at) (λ m. cc) h r.0 r.1 r.2)
read_or_refused bytes p (S.Syntax (Y.Deep at)) h r = absurd (no_tree_refused bytes p (Y.Deep at) (λ m. cc) h r.0 r.1 r.2)
read_or_refused bytes p (S.Syntax (Y.Wide at)) h r = absurd (no_tree_refused bytes p (Y.Wide at) (λ m. cc) h r.0 r.1 r.2)
read_or_refused bytes p (S.Syntax Y.Memory) h r = absurd r
read_or_refused bytes p (S.Check (C.Twice at)) h r = absurd (none_first h.tree r.0 _ (tree_unique bytes h.tree r.0 h.parsed r.1) h.accepted r.2)
read_or_refused bytes p (S.Check (C.Unknown at)) h r = absurd (none_first h.tree r.0 _ (tree_unique bytes h.tree r.0 h.parsed r.1) h.accepted r.2)
read_or_refused bytes p (S.Check (C.WrongKind at)) h r = absurd (none_first h.tree r.0 _ (tree_unique bytes h.tree r.0 h.parsed r.1) h.accepted r.2)
read_or_refused bytes p (S.Check (C.Arity at)) h r = absurd (none_first h.tree r.0 _ (tree_unique bytes h.tree r.0 h.parsed r.1) h.accepted r.2)
read_or_refused bytes p (S.Check (C.ReturnPlace at)) h r = absurd (none_first h.tree r.0 _ (tree_unique bytes h.tree r.0 h.parsed r.1) h.accepted r.2)
read_or_refused bytes p (S.Check (C.VoidValue at)) h r = absurd (none_first h.tree r.0 _ (tree_unique bytes h.tree r.0 h.parsed r.1) h.accepted r.2)
read_or_refused bytes p (S.Check (C.NoProcess at)) h r = absurd (none_first h.tree r.0 _ (tree_unique bytes h.tree r.0 h.parsed r.1) h.accepted r.2)
read_or_refused bytes p (S.Check (C.TooMany at limit)) h r = absurd (none_first h.tree r.0 _ (tree_unique bytes h.tree r.0 h.parsed r.1) h.accepted r.2)
read_or_refused bytes p (S.Check (C.BadSize at)) h r = absurd (none_first h.tree r.0 _ (tree_unique bytes h.tree r.0 h.parsed r.1) h.accepted r.2)
read_or_refused bytes p (S.Check C.Memory) h r = absurd r
read_or_refused bytes p S.Memory h r = refl
