-- What the language's grammar reads, with what the parser's grammar makes of each left side in it.
use Rattle.std.proofs.Common.{◌≡◌, Bool, true, false, ◌||◌, List, [], ◌∷◌, ◌++◌}
use Rattle.ppd_parse.specs.declared.token.Kind.{Kind}
use Rattle.ppd_parse.specs.declared.token.Kind.TheVariants as K
use Rattle.ppd_parse.specs.declared.symbol.Level.{Level}
use Rattle.ppd_parse.specs.declared.symbol.Level.TheVariants as L
use Rattle.ppd_parse.specs.declared.symbol.Rule.{Rule}
use Rattle.ppd_parse.specs.declared.symbol.Symbol.TheVariants as S
use Rattle.ppd_parse.specs.declared.symbol.At.{At}
use Rattle.ppd_parse.specs.Grammar.{Shape, leaf, node, forest, Marked, kind_at, is_operator, deeper, inside}
use Rattle.ppd_parse.specs.Language.{Side, source_side, shared_side, shared_item_side, sems_side, chans_side, function_side, params_side, process_side, block_side, local_side, local_item_side, value_side, place_side, change_side, stmt_side, expr_side, tier, unary_side, Phrase, word, binary, the, ◌·◌, ◌∣◌, many, maybe, unless, opened, measured, made, below, phrase, Is, token, sign, side, both, left, right, done, more, absent, present, ended, within, counted, grouped}
use Rattle.ppd_parse.proofs.Vocabulary.{NextIsNot}
use Rattle.ppd_parse.proofs.Given.{Gives, Next, is_opening, binds, goes, Calm}
use Rattle.ppd_parse.proofs.Ways.{PlaceWays, ChangeWays, ExprWays, TierWays, UnaryWays, BelowGoal}
use Rattle.ppd_parse.specs.Stack.{is_comma}

-- what a declared name goes on with
abbrev pub begins_start : Kind → Bool
begins_start K.AssignMark = true
begins_start K.LeftBracket = true
begins_start _ = false

abbrev pub item_goes : Kind → Bool
item_goes k = begins_start k || goes k

-- what the parser's grammar reads there, under what may be next
abbrev pub Goal : Side → At → List Marked → List Shape → List Marked → Type 0
Goal source_side a ts t rest = Gives S.Source a ts t rest
Goal shared_side a ts t rest = Gives S.Shared a ts t rest
Goal shared_item_side a ts t rest = Next begins_start rest → Gives S.SharedItem a ts t rest
Goal sems_side a ts t rest = Gives S.Sems a ts t rest
Goal chans_side a ts t rest = Gives S.Chans a ts t rest
Goal function_side a ts t rest = Gives S.Function a ts t rest
Goal params_side a ts t rest = Next is_comma rest → Gives S.Params a ts t rest
Goal process_side a ts t rest = Gives S.Process a ts t rest
Goal block_side a ts t rest = Gives S.Block a ts t rest
Goal local_side a ts t rest = Gives S.Local a ts t rest
Goal local_item_side a ts t rest = Next item_goes rest → Gives S.LocalItem a ts t rest
Goal value_side a ts t rest = Calm rest → Gives S.Value a ts t rest
Goal place_side a ts t rest = NextIsNot K.LeftBracket rest → PlaceWays a ts t rest
Goal change_side a ts t rest = Calm rest → ChangeWays a ts t rest
Goal stmt_side a ts t rest = Gives S.Stmt a ts t rest
Goal expr_side a ts t rest = Calm rest → ExprWays a ts t rest
Goal (tier l) a ts t rest = Next (binds l) rest → TierWays l a ts t rest
Goal unary_side a ts t rest = Next is_opening rest → UnaryWays a ts t rest

pub below_goal : (l : Level) (a : At) (ts : List Marked) (t : List Shape) (rest : List Marked) → Goal (below l) a ts t rest → BelowGoal l a ts t rest
below_goal L.Product a ts t rest g = g
below_goal L.Sum a ts t rest g = g
below_goal L.Compare a ts t rest g = g
below_goal L.Equal a ts t rest g = g
below_goal L.And a ts t rest g = g
below_goal L.Or a ts t rest g = g

-- as Is, down to the left sides
pub data Seen : Phrase → At → List Marked → List Shape → List Marked → Type 0 where
  one_token : {k : Kind} {a : At} {x : Marked} {rest : List Marked} → kind_at x ≡ k → x.at ≡ a → Seen (word k) a (x ∷ rest) (leaf x.token ∷ []) rest
  one_sign : {l : Level} {a : At} {x : Marked} {rest : List Marked} → is_operator l (kind_at x) ≡ true → x.at ≡ a → Seen (binary l) a (x ∷ rest) (leaf x.token ∷ []) rest
  one_side : {y : Side} {a : At} {t : List Shape} {ts rest : List Marked} → Goal y a ts t rest → Seen (the y) a ts t rest
  pair : {f g : Phrase} {a : At} {t u : List Shape} {ts mid rest : List Marked} → Seen f a ts t mid → Seen g a mid u rest → Seen (f · g) a ts (t ++ u) rest
  first : {f g : Phrase} {a : At} {t : List Shape} {ts rest : List Marked} → Seen f a ts t rest → Seen (f ∣ g) a ts t rest
  second : {f g : Phrase} {a : At} {t : List Shape} {ts rest : List Marked} → Seen g a ts t rest → Seen (f ∣ g) a ts t rest
  no_more : {f : Phrase} {a : At} {ts : List Marked} → Seen (many f) a ts [] ts
  one_more : {f : Phrase} {a : At} {t u : List Shape} {ts mid rest : List Marked} → Seen f a ts t mid → Seen (many f) a mid u rest → Seen (many f) a ts (t ++ u) rest
  missing : {f : Phrase} {a : At} {ts : List Marked} → Seen (maybe f) a ts [] ts
  there : {f : Phrase} {a : At} {t : List Shape} {ts rest : List Marked} → Seen f a ts t rest → Seen (maybe f) a ts t rest
  not_next : {k : Kind} {a : At} {ts : List Marked} → NextIsNot k ts → Seen (unless k) a ts [] ts
  deep : {f : Phrase} {a : At} {t : List Shape} {ts rest : List Marked} → Seen f (deeper a) ts t rest → Seen (opened f) a ts t rest
  inner : {f : Phrase} {a : At} {t : List Shape} {ts rest : List Marked} → Seen f (inside a) ts t rest → Seen (measured f) a ts t rest
  tree : {r : Rule} {f : Phrase} {a : At} {t : List Shape} {ts rest : List Marked} → Seen f a ts t rest → Seen (made r f) a ts (node r (forest t) ∷ []) rest

pub seen : ((y : Side) (a : At) (ts : List Marked) (t : List Shape) (rest : List Marked) → Seen (phrase y) a ts t rest → Goal y a ts t rest) → {f : Phrase} {a : At} {t : List Shape} {ts rest : List Marked} → Is f a ts t rest → Seen f a ts t rest
seen step (token e m) = one_token e m
seen step (sign e m) = one_sign e m
seen step (side {y = y} {a = a} {t = t} {ts = ts} {rest = rest} d) = one_side (step y a ts t rest (seen step d))
seen step (both d e) = pair (seen step d) (seen step e)
seen step (left d) = first (seen step d)
seen step (right d) = second (seen step d)
seen step done = no_more
seen step (more d ds) = one_more (seen step d) (seen step ds)
seen step absent = missing
seen step (present d) = there (seen step d)
seen step (ended n) = not_next n
seen step (within d) = deep (seen step d)
seen step (counted d) = inner (seen step d)
seen step (grouped d) = tree (seen step d)
