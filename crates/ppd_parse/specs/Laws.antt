-- What holds of the trees and the refusals of all tokens.
use Rattle.std.specs.Prelude.{◌≡◌, ◌≢◌, ◌⊎◌, List}
use Rattle.ppd_parse.specs.declared.token.Token.{Token}
use Rattle.ppd_parse.specs.Formed.{EndOnce}
use Rattle.ppd_parse.specs.declared.error.SyntaxError.{SyntaxError}
use Rattle.ppd_parse.specs.declared.error.SyntaxError.TheVariants.{Memory}
use Rattle.ppd_parse.specs.Grammar.{Shape}
use Rattle.ppd_parse.specs.Leaves.{leaves_of}
use Rattle.ppd_parse.specs.Limits.{IsTree, IsRefused}

-- tokens have one tree at most
abbrev pub HaveOneTree : Type 0
HaveOneTree = (ts : List Token) (f g : List Shape) → IsTree ts f → IsTree ts g → f ≡ g

-- tokens that have a tree are refused for want of memory alone
abbrev pub AreTreeOrRefused : Type 0
AreTreeOrRefused = (ts : List Token) (f : List Shape) (e : SyntaxError) → IsTree ts f → IsRefused ts e → e ≡ Memory

-- the leaves of a tree are the tokens, in order
abbrev pub HaveTokensAsLeaves : Type 0
HaveTokensAsLeaves = (ts : List Token) (f : List Shape) → IsTree ts f → leaves_of f ≡ ts

-- tokens that end as those of a source do have a tree, or a refusal that is no want of memory
abbrev pub HaveAnAnswer : Type 0
HaveAnAnswer =
    (ts : List Token) → EndOnce ts
    → ((f : List Shape) × IsTree ts f) ⊎ ((e : SyntaxError) × (e ≢ Memory) × IsRefused ts e)

-- they have one such refusal at most
abbrev pub HaveOneRefusal : Type 0
HaveOneRefusal =
    (ts : List Token) (d e : SyntaxError) → d ≢ Memory → e ≢ Memory → IsRefused ts d → IsRefused ts e → d ≡ e
