-- The sources of drills as texts of the grammar.
use Rattle.std.specs.Prelude.{codes, ◌-◌}
use Rattle.std.proofs.Common.{ℕ, zero, suc, pos, ◌+◌, List, [], ◌∷◌, ◌++◌, refl}
use Rattle.ppd_parse.specs.declared.token.TokenKind.TheVariants as T
use Rattle.ppd_parse.specs.declared.token.Kind.{Kind}
use Rattle.ppd_parse.specs.declared.token.Kind.TheVariants as K
use Rattle.ppd_parse.specs.declared.symbol.Level.TheVariants as L
use Rattle.ppd_parse.specs.Language.{word, the, ◌∣◌, many, tier, unary_side, expr_side, place_side, stmt_side, block_side, local_side, process_side, chans_side, sems_side, shared_side, function_side, source_side}
use Rattle.ppd_top_drill.proofs.Derivations.{Derivation, token, sign, side, pair, left, right, none, more, absent, present, within, counted, grouped}

-- ---- tokens

abbrev keyword : (k : Kind) → Derivation (word k)
keyword k = token (T.Word k) refl

abbrev mark : (k : Kind) → Derivation (word k)
mark k = token (T.Mark k) refl

abbrev name : List ℕ → Derivation (word K.Name)
name x = token (T.Name x) refl

abbrev number : ℕ → Derivation (word K.Number)
number n = token (T.Number (pos n)) refl

-- ---- expressions

abbrev place : List ℕ → Derivation (the place_side)
place x = side (grouped (pair (name x) absent))

abbrev value : ℕ → Derivation (the unary_side)
value n = side (grouped (right (right (left (number n)))))

abbrev variable : List ℕ → Derivation (the unary_side)
variable x = side (grouped (right (right (right (place x)))))

abbrev product : Derivation (the unary_side) → Derivation (the (tier L.Product))
product d = side (left d)

abbrev sum : Derivation (the (tier L.Product)) → Derivation (the (tier L.Sum))
sum d = side (left d)

abbrev times : Derivation (the (tier L.Product)) → Derivation (the unary_side) → Derivation (the (tier L.Product))
times d e = side (right (grouped (pair d (pair (sign (T.Mark K.StarMark) refl) e))))

abbrev plus : Derivation (the (tier L.Sum)) → Derivation (the (tier L.Product)) → Derivation (the (tier L.Sum))
plus d e = side (right (grouped (pair d (pair (sign (T.Mark K.PlusMark) refl) e))))

abbrev less : Derivation (the (tier L.Sum)) → Derivation (the (tier L.Sum)) → Derivation (the (tier L.Compare))
less d e = side (right (grouped (pair (side (left d)) (pair (sign (T.Mark K.LessMark) refl) e))))

abbrev tested : Derivation (the (tier L.Compare)) → Derivation (the expr_side)
tested d = side (counted (side (left (side (left (side (left d)))))))

abbrev summed : Derivation (the (tier L.Sum)) → Derivation (the expr_side)
summed d = tested (side (left d))

abbrev plain : Derivation (the unary_side) → Derivation (the expr_side)
plain d = summed (sum (product d))

-- ---- statements

abbrev Stmts : Type 0
Stmts = Derivation (many (the local_side ∣ the stmt_side))

abbrev block : Stmts → Derivation (the block_side)
block d = side (grouped (within (pair (mark K.LeftBrace) (pair d (mark K.RightBrace)))))

abbrev local : List ℕ → Derivation (the local_side)
local x = side (grouped (pair (keyword K.IntWord) (pair (side (grouped (left (pair (name x) absent)))) (pair none (mark K.Semicolon)))))

abbrev local_from : List ℕ → Derivation (the expr_side) → Derivation (the local_side)
local_from x e = side (grouped (pair (keyword K.IntWord) (pair (side (grouped (left (pair (name x) (present (pair (mark K.AssignMark) (side (grouped (right (right e)))))))))) (pair none (mark K.Semicolon)))))

abbrev assign : List ℕ → Derivation (the expr_side) → Derivation (the stmt_side)
assign x e = side (grouped (right (right (left (pair (side (grouped (left (pair (place x) (pair (left (mark K.AssignMark)) e))))) (mark K.Semicolon))))))

abbrev receive : List ℕ → List ℕ → Derivation (the stmt_side)
receive x c =
    side (grouped (right (right (right (left (pair (place x) (pair (mark K.AssignMark)
    (pair (grouped (left (pair (keyword K.RecvWord) (within (pair (mark K.LeftParen) (pair (name c) (mark K.RightParen)))))))
    (mark K.Semicolon)))))))))

abbrev repeat : Derivation (the expr_side) → Derivation (the block_side) → Derivation (the stmt_side)
repeat e b =
    side (grouped (right (right (right (right (right (right (left (pair (keyword K.WhileWord)
    (pair (within (pair (mark K.LeftParen) (pair e (mark K.RightParen)))) (within (side (grouped (left b))))))))))))))

abbrev send : List ℕ → Derivation (the expr_side) → Derivation (the stmt_side)
send c e =
    side (grouped (right (right (right (right (right (right (right (right (right (right (right (left (pair (keyword K.SendWord)
    (pair (within (pair (mark K.LeftParen) (pair (pair (name c) (pair (mark K.Comma) e)) (mark K.RightParen))))
    (mark K.Semicolon))))))))))))))))

abbrev print : Derivation (the expr_side) → Derivation (the stmt_side)
print e =
    side (grouped (right (right (right (right (right (right (right (right (right (right (right (right (left (pair (keyword K.PrintWord)
    (pair (within (pair (mark K.LeftParen) (pair e (mark K.RightParen)))) (mark K.Semicolon)))))))))))))))))

abbrev declaring : Derivation (the local_side) → Stmts → Stmts
declaring d rest = more (left d) rest

abbrev doing : Derivation (the stmt_side) → Stmts → Stmts
doing d rest = more (right d) rest

-- ---- items

abbrev pub Items : Type 0
Items = Derivation (many (the shared_side ∣ the sems_side ∣ the chans_side ∣ the function_side ∣ the process_side))

abbrev pub shared : List ℕ → Derivation (the shared_side)
shared x = side (grouped (pair (keyword K.SharedWord) (pair (keyword K.IntWord) (pair (side (grouped (left (pair (name x) absent)))) (pair none (mark K.Semicolon))))))

abbrev channel : List ℕ → ℕ → Derivation (the chans_side)
channel x n = side (grouped (pair (keyword K.ChanWord) (pair (name x) (pair (within (pair (mark K.LeftBracket) (pair (number n) (mark K.RightBracket)))) (pair none (mark K.Semicolon))))))

abbrev process : List ℕ → Stmts → Derivation (the process_side)
process x d = side (grouped (pair (keyword K.ProcessWord) (pair (name x) (block d))))

-- ---- the pipeline

-- the digit of a number below ten
abbrev pub digit : ℕ → List ℕ
digit k = (48 + k) ∷ []

abbrev named : List ℕ → ℕ → List ℕ
named x k = x ++ digit k

abbrev from_zero : List ℕ → Derivation (the local_side)
from_zero x = local_from x (plain (value 0))

-- one more
abbrev counted_on : Derivation (the stmt_side)
counted_on = assign (codes "i") (summed (plus (sum (product (variable (codes "i")))) (product (value 1))))

-- each of so many turns
abbrev turned : ℕ → Stmts → Derivation (the stmt_side)
turned m d = repeat (tested (less (sum (product (variable (codes "i")))) (sum (product (value m))))) (block d)

abbrev pub channel_of : ℕ → Derivation (the chans_side)
channel_of k = channel (named (codes "c") k) 4

abbrev pub first_of : (m n : ℕ) → Derivation (the process_side)
first_of m n =
    process (codes "p0")
    (declaring (from_zero (codes "i"))
    (doing (turned m
    (doing (send (codes "c0") (summed (plus (sum (times (product (variable (codes "i"))) (value 3))) (product (value n)))))
    (doing counted_on none))) none))

abbrev pub middle_of : (m k : ℕ) → Derivation (the process_side)
middle_of m k =
    process (named (codes "p") k)
    (declaring (from_zero (codes "i"))
    (declaring (local (codes "v"))
    (doing (turned m
    (doing (receive (codes "v") (named (codes "c") (k - 1)))
    (doing (send (named (codes "c") k) (summed (plus (sum (product (variable (codes "v")))) (product (value k)))))
    (doing counted_on none)))) none)))

abbrev pub last_of : (m k : ℕ) → Derivation (the process_side)
last_of m k =
    process (named (codes "p") k)
    (declaring (from_zero (codes "i"))
    (declaring (local (codes "v"))
    (declaring (from_zero (codes "sum"))
    (doing (turned m
    (doing (receive (codes "v") (named (codes "c") (k - 1)))
    (doing (assign (codes "sum") (summed (plus (sum (product (variable (codes "sum")))) (product (variable (codes "v"))))))
    (doing counted_on none))))
    (doing (assign (codes "total") (plain (variable (codes "sum"))))
    (doing (print (plain (variable (codes "sum")))) none))))))

abbrev pub with_process : Derivation (the process_side) → Items → Items
with_process d rest = more (right (right (right (right d)))) rest

abbrev pub with_total : Items → Items
with_total rest = more (left (shared (codes "total"))) rest

-- channels, and the processes in between, from number k on
abbrev pub with_channels : (k count : ℕ) → Items → Items
with_channels k zero rest = rest
with_channels k (suc count) rest = more (right (right (left (channel_of k)))) (with_channels (k + 1) count rest)

abbrev pub with_middles : (m k count : ℕ) → Items → Items
with_middles m k zero rest = rest
with_middles m k (suc count) rest = with_process (middle_of m k) (with_middles m (k + 1) count rest)

-- the items of a pipeline with k channels, and its source
abbrev pub items_of : (m n k : ℕ) → Items
items_of m n k = with_total (with_channels 0 k (with_process (first_of m n) (with_middles m 1 (k - 1) (with_process (last_of m k) none))))

abbrev pub source_of : (m n k : ℕ) → Derivation (the source_side)
source_of m n k = side (grouped (pair (items_of m n k) (token T.End refl)))
