-- The limits of a program, and the first token that breaks the grammar or a limit.
use Rattle.std.specs.Prelude.{◌≡◌, ◌<◌, ◌≤◌, ◌+◌, ℕ, Bool, true, List, [], ◌∷◌, ◌++◌, length, take, fold, slice_index_or, if◌then◌else◌, Result, Ok, Err}
use Rattle.ppd_ast.specs.declared.limits.TheConstants.{MOST_OPEN, MOST_SOURCE_OPERATORS}
use Rattle.ppd_ast.specs.declared.program.Place.{Place}
use Rattle.ppd_parse.specs.declared.token.Token.{Token}
use Rattle.ppd_parse.specs.declared.token.TokenKind.TheVariants as T
use Rattle.ppd_parse.specs.declared.token.Kind.{Kind}
use Rattle.ppd_parse.specs.declared.token.Kind.TheVariants as K
use Rattle.ppd_parse.specs.declared.error.SyntaxError.{SyntaxError}
use Rattle.ppd_parse.specs.declared.error.SyntaxError.TheVariants as E
use Rattle.ppd_parse.specs.declared.symbol.At.{At}
use Rattle.ppd_parse.specs.Grammar.{Shape, Marked, kind_at, kind_of, tokens_of}
use Rattle.ppd_parse.specs.Language.{IsProgram}
use Rattle.ppd_parse.specs.Machine.{State, Completed, Shifts, IsDead}
use Rattle.ppd_parse.specs.Stack.{is_binary, IsGood, HasEndsAlone}

-- in an expression: a unary or binary operator
abbrev pub is_sign : Kind → Bool
is_sign K.NotMark = true
is_sign k = is_binary k

-- the operators of the expression so far, which is no part of another
abbrev pub count_with : ℕ → Marked → ℕ
count_with n x = if x.at.inside then (if is_sign (kind_at x) then n + 1 else n) else 0

-- after n operators of an expression, these tokens keep the limits of open constructs and of operators
abbrev pub KeepLimits : ℕ → List Marked → Type 0
KeepLimits n [] = Unit {0}
KeepLimits n (x ∷ xs) =
    (x.at.depth ≤ MOST_OPEN) × (count_with n x ≤ MOST_SOURCE_OPERATORS) × KeepLimits (count_with n x) xs

-- the token with this number from 0, and an end where there is none
abbrev pub token_at : List Token → ℕ → Token
token_at ts i = slice_index_or ts i (record { kind = T.End; from = 0; to = 0; place = record { line = 1; column = 1 } })

-- The tokens are a program within the limits, and this is its tree, as a list of one; they have no other tree and no
-- other marks.
pub record IsTree (ts : List Token) (trees : List Shape) : Type 0 where
  pub marked : List Marked
  pub tokens : tokens_of marked ≡ ts
  pub program : IsProgram marked trees
  pub limits : KeepLimits 0 marked
  pub only : (qs : List Marked) (f : List Shape) → IsProgram qs f → tokens_of qs ≡ ts → (qs ≡ marked) × (f ≡ trees)

-- Some program begins with the tokens before token i, which keep the limits, and none with the tokens through it.
pub record IsUnexpected (ts : List Token) (place : Place) : Type 0 where
  pub i : ℕ
  pub within : i < length ts
  pub is : place ≡ (token_at ts i).place
  pub marked : List Marked
  pub tokens : tokens_of marked ≡ take i ts
  pub rest : List Marked
  pub tree : List Shape
  pub program : IsProgram (marked ++ rest) tree
  pub limits : KeepLimits 0 marked
  pub none : (qs : List Marked) (f : List Shape) (more : List Token) → IsProgram qs f
      → tokens_of qs ≡ take i ts ++ token_at ts i ∷ more → ⊥

-- Some program begins with the tokens through token i; in each, the tokens before it keep the limits, and it breaks
-- one.
pub record IsPast (Breaks : ℕ → Marked → Type 0) (ts : List Token) (place : Place) : Type 0 where
  pub i : ℕ
  pub within : i < length ts
  pub is : place ≡ (token_at ts i).place
  pub marked : List Marked
  pub tokens : tokens_of marked ≡ take i ts
  pub last : Marked
  pub token : last.token ≡ token_at ts i
  pub rest : List Marked
  pub tree : List Shape
  pub program : IsProgram (marked ++ last ∷ rest) tree
  pub limits : KeepLimits 0 marked
  pub breaks : Breaks (fold count_with 0 marked) last
  pub only : (qs : List Marked) (f : List Shape) (more : List Token) → IsProgram qs f
      → tokens_of qs ≡ take i ts ++ token_at ts i ∷ more → (others : List Marked) × (qs ≡ marked ++ last ∷ others)

-- Why the tokens have no tree: one that the grammar has not, one that makes a construct open too many, or one that is
-- an operator too many of its expression and does not make too many constructs open. Want of memory may come at any.
abbrev pub IsRefused : List Token → SyntaxError → Type 0
IsRefused ts (E.Unexpected place) = IsUnexpected ts place
IsRefused ts (E.Deep place) = IsPast (λ n x. MOST_OPEN < x.at.depth) ts place
IsRefused ts (E.Wide place) =
    IsPast (λ n x. (x.at.depth ≤ MOST_OPEN) × (MOST_SOURCE_OPERATORS < count_with n x)) ts place
IsRefused ts E.Memory = Unit {0}

-- what one token comes to, after n operators of an expression
abbrev pub Stepped : ℕ → Token → Result ℕ SyntaxError → State → State → Type 0
Stepped n t (Ok m) a b =
    (at : At) × Shifts (record { token = t; at = at }) a b × IsGood b.wants
    × (kind_of t.kind ≡ K.End → HasEndsAlone b.wants) × (at.depth ≤ MOST_OPEN)
    × (m ≡ count_with n (record { token = t; at = at })) × (m ≤ MOST_SOURCE_OPERATORS)
Stepped n t (Err (E.Unexpected place)) a b = (place ≡ t.place) × IsDead (kind_of t.kind) a
Stepped n t (Err (E.Deep place)) a b =
    (place ≡ t.place)
    × ((at : At) × Shifts (record { token = t; at = at }) a b × IsGood b.wants × (MOST_OPEN < at.depth))
Stepped n t (Err (E.Wide place)) a b =
    (place ≡ t.place)
    × ((at : At) × Shifts (record { token = t; at = at }) a b × IsGood b.wants × (at.depth ≤ MOST_OPEN)
    × (MOST_SOURCE_OPERATORS < count_with n (record { token = t; at = at })))
Stepped n t (Err E.Memory) a b = Unit {0}

-- where the tokens end, these trees and no others come out
pub record EndsAs (a : State) (f : List Shape) : Type 0 where
  pub to : (g : List Shape) → Completed a [] g → g ≡ f
  pub from : Completed a [] f
