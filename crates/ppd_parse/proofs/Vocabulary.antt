-- What the proofs speak of: definitions that no contract cites.
use Rattle.std.specs.Prelude.{◌≡◌, ◌≢◌, ◌<◌, ◌≤◌, ℕ, List, [], ◌∷◌, ◌++◌, length, take, fold, slice_get, IfSome}
use Rattle.ppd_ast.specs.declared.limits.TheConstants.{MOST_OPEN, MOST_SOURCE_OPERATORS}
use Rattle.ppd_parse.specs.declared.token.Token.{Token}
use Rattle.ppd_parse.specs.declared.token.TokenKind.TheVariants as T
use Rattle.ppd_parse.specs.declared.token.Kind.{Kind}
use Rattle.ppd_parse.specs.declared.token.Kind.TheVariants as K
use Rattle.ppd_parse.specs.declared.symbol.Rule.{Rule}
use Rattle.ppd_parse.specs.declared.symbol.Rule.TheVariants as R
use Rattle.ppd_parse.specs.declared.symbol.Symbol.{Symbol}
use Rattle.ppd_parse.specs.declared.symbol.Symbol.TheVariants as S
use Rattle.ppd_parse.specs.declared.symbol.Want.TheVariants.{Get}
use Rattle.ppd_parse.specs.Grammar.{Shape, Marked, kind_at, outside, ReadsAll, tokens_of}
use Rattle.ppd_parse.specs.Limits.{count_with, KeepLimits}
use Rattle.ppd_parse.specs.Language.{Phrase, ◌·◌, ◌∣◌, word, the, maybe, unless, opened, made, change_side, stmt_side, expr_side, received, called}
use Rattle.ppd_parse.specs.Machine.{State, Completed}
use Rattle.ppd_parse.specs.Size.{weigh_all}
use Rattle.ppd_parse.specs.Stack.{IsGood, HasEndsAlone}

-- what is assigned and no expression, and what stands behind an if
abbrev pub answer : Phrase
answer = made R.Value (received ∣ called)

abbrev pub else_part : Phrase
else_part = word K.ElseWord · opened (the stmt_side) ∣ unless K.ElseWord

-- what the parentheses of a for hold
abbrev pub heading : Phrase
heading = maybe (word K.IntWord · word K.Name · word K.AssignMark · the expr_side ∣ the change_side)
    · word K.Semicolon · maybe (the expr_side) · word K.Semicolon · maybe (the change_side)

-- the next token, if there is one, is not of the kind
abbrev pub NextIsNot : Kind → List Marked → Type 0
NextIsNot k ts = IfSome (slice_get ts 0) (λ x. kind_at x ≢ k)

-- the operators of the expression after n of them and these tokens
abbrev pub count_after : ℕ → List Marked → ℕ
count_after n xs = fold count_with n xs

-- the token makes one construct open too many
abbrev pub BreaksDepth : ℕ → Marked → Type 0
BreaksDepth n x = MOST_OPEN < x.at.depth

-- the token is one operator too many of its expression, and does not make too many constructs open
abbrev pub BreaksWidth : ℕ → Marked → Type 0
BreaksWidth n x = (x.at.depth ≤ MOST_OPEN) × (MOST_SOURCE_OPERATORS < count_with n x)

-- the token where there is none
abbrev pub no_token : Token
no_token = record { kind = T.End; from = 0; to = 0; place = record { line = 1; column = 1 } }

-- the parser reads the marked tokens as this tree
abbrev pub IsParsed : List Marked → List Shape → Type 0
IsParsed ts f = ReadsAll (Get S.Source outside 0 ∷ []) [] ts f []

-- the tokens so marked lead to the state: what completes it completes a program, and the tokens have no other marks
pub record Follows (ts : List Token) (zs : List Marked) (a : State) : Type 0 where
  pub tokens : tokens_of zs ≡ ts
  pub to : (qs : List Marked) (f : List Shape) (more : List Token) → IsParsed qs f → tokens_of qs ≡ ts ++ more
      → (rest : List Marked) × (qs ≡ zs ++ rest) × Completed a rest f
  pub from : (rest : List Marked) (f : List Shape) → Completed a rest f → IsParsed (zs ++ rest) f

-- symbols that are one token
abbrev pub IsTerminal : Symbol → Type 0
IsTerminal (S.Exact k) = Unit {0}
IsTerminal (S.Operator l) = Unit {0}
IsTerminal _ = ⊥

-- i tokens are read: the state that they lead to, and their marks, which keep the limits
pub record IsReadTo (ts : List Token) (i n : ℕ) (a : State) : Type 0 where
  pub marked : List Marked
  pub follows : Follows (take i ts) marked a
  pub limits : KeepLimits 0 marked
  pub count : n ≡ count_after 0 marked
  pub few : n ≤ MOST_SOURCE_OPERATORS
  pub good : IsGood a.wants
  pub over : i ≡ length ts → HasEndsAlone a.wants

-- how many nodes the trees have
abbrev pub size_of : List Shape → ℕ
size_of f = weigh_all 1 (λ r. 1) f

-- 1 for the rule of a token
abbrev pub one_for_leaf : Rule → ℕ
one_for_leaf R.Leaf = 1
one_for_leaf _ = 0
