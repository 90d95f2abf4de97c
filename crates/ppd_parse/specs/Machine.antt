-- What the parser's stack still wants, and what one token does to it.
use Rattle.std.specs.Prelude.{◌≡◌, List, [], ◌∷◌, length, reverse, Option, Some, None, ◌<◌, ◌≤◌, ◌+◌}
use Rattle.ppd_parse.specs.declared.token.Token.{Token}
use Rattle.ppd_parse.specs.declared.token.Kind.{Kind}
use Rattle.ppd_parse.specs.declared.token.Kind.TheVariants as K
use Rattle.ppd_parse.specs.declared.symbol.At.{At}
use Rattle.ppd_parse.specs.declared.symbol.Want.{Want}
use Rattle.ppd_parse.specs.declared.growth.Grove.{Grove}
use Rattle.ppd_parse.specs.declared.growth.Step.{Step}
use Rattle.ppd_parse.specs.declared.growth.Step.TheVariants as M
use Rattle.ppd_parse.specs.Rank.{rank}
use Rattle.ppd_parse.specs.Stack.{IsGood, HasEndsAlone}
use Rattle.ppd_parse.specs.Table.{shapes_of}
use Rattle.ppd_parse.specs.Grammar.{Shape, Marked, kind_at, kind_of, ReadsAll}

-- what is still wanted, and the trees so far
pub record State : Type 0 where
  pub wants : List Want
  pub shapes : List Shape

-- the tokens are what the state wants, and the trees come out
abbrev pub Completed : State → List Marked → List Shape → Type 0
Completed a ts f = ReadsAll a.wants a.shapes ts f []

-- from a token of kind k on, the same programs complete both
pub record SameAt (k : Kind) (a b : State) : Type 0 where
  pub to : (x : Marked) (ts : List Marked) (f : List Shape) → kind_at x ≡ k → Completed a (x ∷ ts) f
      → Completed b (x ∷ ts) f
  pub from : (x : Marked) (ts : List Marked) (f : List Shape) → kind_at x ≡ k → Completed b (x ∷ ts) f
      → Completed a (x ∷ ts) f

-- from a token of kind k on, nothing completes it
abbrev pub IsDead : Kind → State → Type 0
IsDead k a = (x : Marked) (ts : List Marked) (f : List Shape) → kind_at x ≡ k → Completed a (x ∷ ts) f → ⊥

-- the token was read, so marked
pub record Shifts (z : Marked) (a b : State) : Type 0 where
  pub to : (x : Marked) (ts : List Marked) (f : List Shape) → x.token ≡ z.token → Completed a (x ∷ ts) f
      → (x ≡ z) × Completed b ts f
  pub from : (ts : List Marked) (f : List Shape) → Completed b ts f → Completed a (z ∷ ts) f

abbrev pub wanting : Want → State → State
wanting w a = record { wants = w ∷ a.wants; shapes = a.shapes }

-- the state of the parser: the wants with the next one last, and the trees of the nodes without a parent
abbrev pub state_of : List Want → Grove → State
state_of items grove = record { wants = reverse items; shapes = shapes_of grove.nodes.items grove.roots.items }

-- what came of a want on top, at this token; at most eight wants stand for it then
abbrev pub Advanced : Token → Step → State → State → Type 0
Advanced token M.Moved a b =
    SameAt (kind_of token.kind) a b × IsGood b.wants × (rank b.wants < rank a.wants)
    × (length b.wants ≤ length a.wants + 7)
Advanced token (M.Read at) a b =
    Shifts (record { token = token; at = at }) a b × IsGood b.wants
    × (kind_of token.kind ≡ K.End → HasEndsAlone b.wants)
    × (rank b.wants + 1 ≤ rank a.wants + 15) × (length b.wants ≤ length a.wants)
Advanced token M.Refused a b = IsDead (kind_of token.kind) a

-- the token was read with this mark, or nothing goes on with it
abbrev pub Taken : Token → Option At → State → State → Type 0
Taken token (Some at) a b =
    Shifts (record { token = token; at = at }) a b × IsGood b.wants
    × (kind_of token.kind ≡ K.End → HasEndsAlone b.wants)
Taken token None a b = IsDead (kind_of token.kind) a
