-- The program of a source's bytes, or why they have none.
use Rattle.std.specs.Prelude.{◌≡◌, ℕ, List, [], ◌∷◌}
use Rattle.ppd_ast.specs.declared.program.Program.{Program}
use Rattle.ppd_parse.specs.declared.token.Token.{Token}
use Rattle.ppd_parse.specs.declared.token.LexError.{LexError}
use Rattle.ppd_parse.specs.declared.token.LexError.TheVariants as L
use Rattle.ppd_parse.specs.Tokens.{IsTokens}
use Rattle.ppd_parse.specs.Tokens as Lexing
use Rattle.ppd_parse.specs.declared.error.SyntaxError.{SyntaxError}
use Rattle.ppd_parse.specs.declared.error.SyntaxError.TheVariants as Y
use Rattle.ppd_parse.specs.Grammar.{Shape}
use Rattle.ppd_parse.specs.Limits.{IsTree}
use Rattle.ppd_parse.specs.Limits as Parsing
use Rattle.ppd_check.specs.declared.error.CheckError.{CheckError}
use Rattle.ppd_check.specs.declared.error.CheckError.TheVariants as C
use Rattle.ppd_check.specs.declared.error.SourceError.{SourceError}
use Rattle.ppd_check.specs.declared.error.SourceError.TheVariants as S
use Rattle.ppd_check.specs.Sources.{core_of, faults_in}
use Rattle.ppd_check_names.specs.Reading.{source_of}
use Rattle.ppd_check.specs.Refused as Checking

-- the bytes have tokens, and these have this tree
pub record IsTreeOf (bytes : List ℕ) (tree : Shape) : Type 0 where
  pub tokens : List Token
  pub lexed : IsTokens bytes tokens
  pub parsed : IsTree tokens (tree ∷ [])

-- the bytes have a tree that breaks no rule, and this is its table
pub record IsRead (bytes : List ℕ) (p : Program) : Type 0 where
  pub tree : Shape
  pub parsed : IsTreeOf bytes tree
  pub accepted : faults_in (source_of tree) ≡ []
  pub table : p ≡ core_of (source_of tree)

-- Why the bytes have no program: the first lexical fault, or the first of their tokens that breaks the grammar or a
-- limit, or the first rule that their tree breaks. Want of memory may come at any, and is the outer one alone.
abbrev pub IsRefused : List ℕ → SourceError → Type 0
IsRefused bytes (S.Lex L.Memory) = ⊥
IsRefused bytes (S.Lex e) = Lexing.IsRefused bytes e
IsRefused bytes (S.Syntax Y.Memory) = ⊥
IsRefused bytes (S.Syntax e) = (tokens : List Token) × IsTokens bytes tokens × Parsing.IsRefused tokens e
IsRefused bytes (S.Check C.Memory) = ⊥
IsRefused bytes (S.Check e) = (tree : Shape) × IsTreeOf bytes tree × Checking.IsTreeRefused tree e
IsRefused bytes S.Memory = Unit {0}

-- what the error of one part is for the whole
abbrev pub by_lex : LexError → SourceError
by_lex L.Memory = S.Memory
by_lex e = S.Lex e

abbrev pub by_parse : SyntaxError → SourceError
by_parse Y.Memory = S.Memory
by_parse e = S.Syntax e

abbrev pub by_check : CheckError → SourceError
by_check C.Memory = S.Memory
by_check e = S.Check e

-- bytes have one program at most
abbrev pub HaveOneProgram : Type 0
HaveOneProgram = (bytes : List ℕ) (p q : Program) → IsRead bytes p → IsRead bytes q → p ≡ q

-- bytes that have a program are refused for want of memory alone
abbrev pub AreReadOrRefused : Type 0
AreReadOrRefused = (bytes : List ℕ) (p : Program) (e : SourceError) → IsRead bytes p → IsRefused bytes e → e ≡ S.Memory
