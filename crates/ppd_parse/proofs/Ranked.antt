-- Each move leaves fewer to make, a token that is read pays for 15, and at most eight wants stand for one.
use Rattle.std.proofs.Common.{◌<◌, ◌≤◌, ◌+◌, ℕ, List, [], ◌∷◌, ◌++◌, length, arith}
use Rattle.ppd_parse.specs.declared.symbol.Level.{Level}
use Rattle.ppd_parse.specs.declared.symbol.Level.TheVariants as L
use Rattle.ppd_parse.specs.declared.symbol.Symbol.{Symbol}
use Rattle.ppd_parse.specs.declared.symbol.Symbol.TheVariants as S
use Rattle.ppd_parse.specs.declared.symbol.At.{At}
use Rattle.ppd_parse.specs.declared.token.Kind.{Kind}
use Rattle.ppd_parse.specs.declared.symbol.Want.{Want}
use Rattle.ppd_parse.specs.declared.symbol.Want.TheVariants.{Get, Close}
use Rattle.ppd_parse.specs.Grammar.{Production, parts, wants_in, operand_parts, operand}
use Rattle.ppd_parse.specs.Rank.{moves_to_token, lead_all, weight_all, rank}

lead_most : (y : Symbol) → moves_to_token y ≤ 15
lead_most (S.Chain l) = omega arith
lead_most _ = omega arith

pub lead_all_most : (ws : List Want) → lead_all ws ≤ 15
lead_all_most [] = omega arith
lead_all_most (Get y a b ∷ ws) = lead_most y
lead_all_most (Close r b ∷ ws) = lead_all_most ws

some_lead : (y : Symbol) → 1 ≤ moves_to_token y
some_lead (S.Chain l) = omega arith
some_lead _ = omega arith

-- what is wanted takes a move
pub ranked_some : (w : Want) (ws : List Want) → 1 ≤ rank (w ∷ ws)
ranked_some (Get y a b) ws = omega (arith, some_lead y)
ranked_some (Close r b) ws = omega arith

ranked_operand : (l : Level) (a : At) (b c : ℕ) (ws : List Want) → rank (wants_in a b (operand_parts l) ++ ws) < 12 + weight_all ws
ranked_operand L.Product a b c ws = omega arith
ranked_operand L.Sum a b c ws = omega arith
ranked_operand L.Compare a b c ws = omega arith
ranked_operand L.Equal a b c ws = omega arith
ranked_operand L.And a b c ws = omega arith
ranked_operand L.Or a b c ws = omega arith

pub ranked : {y : Symbol} (p : Production y) (a : At) (b c : ℕ) (ws : List Want) → rank (wants_in a b (parts p) ++ ws) < rank (Get y a c ∷ ws)
ranked (operand l) a b c ws = omega (arith, ranked_operand l a b c ws)
ranked _ a b c ws = omega (arith, lead_all_most ws)

few_operand : (l : Level) (a : At) (b : ℕ) (ws : List Want) → length (wants_in a b (operand_parts l) ++ ws) ≤ length ws + 8
few_operand L.Product a b ws = omega arith
few_operand L.Sum a b ws = omega arith
few_operand L.Compare a b ws = omega arith
few_operand L.Equal a b ws = omega arith
few_operand L.And a b ws = omega arith
few_operand L.Or a b ws = omega arith

pub few : {y : Symbol} (p : Production y) (a : At) (b : ℕ) (ws : List Want) → length (wants_in a b (parts p) ++ ws) ≤ length ws + 8
few (operand l) a b ws = few_operand l a b ws
few _ a b ws = omega arith

pub read_exact : (k : Kind) (a : At) (b : ℕ) (ws : List Want) → rank ws + 1 ≤ rank (Get (S.Exact k) a b ∷ ws) + 15
read_exact k a b ws = omega (arith, lead_all_most ws)

pub read_operator : (l : Level) (a : At) (b : ℕ) (ws : List Want) → rank ws + 1 ≤ rank (Get (S.Operator l) a b ∷ ws) + 15
read_operator l a b ws = omega (arith, lead_all_most ws)
