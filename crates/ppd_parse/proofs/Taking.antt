-- What a token does, after moves of the wants on top.
use Rattle.std.proofs.Common.{◌≡◌, ◌≤◌, ◌<◌, ◌+◌, ◌*◌, ℕ, List, refl, ap, length, reverse, subst, arith}
use Rattle.std.proofs.lemmas.List.{length-reverse}
use Rattle.ppd_parse.specs.declared.token.Token.{Token}
use Rattle.ppd_parse.specs.declared.symbol.At.{At}
use Rattle.ppd_parse.specs.declared.symbol.Want.{Want}
use Rattle.ppd_parse.specs.Grammar.{Shape, kind_of}
use Rattle.ppd_parse.specs.Machine.{State, SameAt, IsDead, Shifts}

-- the state with these wants
abbrev pub at_wants : List Want → List Shape → State
at_wants ws s = record { wants = ws; shapes = s }

pub same_none : (token : Token) (a : State) → SameAt (kind_of token.kind) a a
same_none token a = record { to = λ x ts f k d. d; from = λ x ts f k d. d }

pub same_next : (token : Token) (a b : State) (olds news : List Want) (s : List Shape) → olds ≡ news
    → SameAt (kind_of token.kind) a (at_wants olds s) → SameAt (kind_of token.kind) (at_wants news s) b → SameAt (kind_of token.kind) a b
same_next token a b olds news s e p q =
    let p' : SameAt (kind_of token.kind) a (at_wants news s) = subst (λ (ws : List Want). SameAt (kind_of token.kind) a (at_wants ws s)) e p in
    record {
      to = λ x ts f k d. q.to x ts f k (p'.to x ts f k d);
      from = λ x ts f k d. p'.from x ts f k (q.from x ts f k d);
    }

pub shifts_next : (token : Token) (at : At) (a b : State) (olds news : List Want) (s : List Shape) → olds ≡ news
    → SameAt (kind_of token.kind) a (at_wants olds s) → Shifts (record { token = token; at = at }) (at_wants news s) b
    → Shifts (record { token = token; at = at }) a b
shifts_next token at a b olds news s e p q =
    let p' : SameAt (kind_of token.kind) a (at_wants news s) = subst (λ (ws : List Want). SameAt (kind_of token.kind) a (at_wants ws s)) e p in
    record {
      to = λ x ts f t d. q.to x ts f t (p'.to x ts f (ap (λ (z : Token). kind_of z.kind) t) d);
      from = λ ts f d. p'.from (record { token = token; at = at }) ts f refl (q.from ts f d);
    }

pub dead_next : (token : Token) (a : State) (olds news : List Want) (s : List Shape) → olds ≡ news
    → SameAt (kind_of token.kind) a (at_wants olds s) → IsDead (kind_of token.kind) (at_wants news s) → IsDead (kind_of token.kind) a
dead_next token a olds news s e p q =
    let p' : SameAt (kind_of token.kind) a (at_wants news s) = subst (λ (ws : List Want). SameAt (kind_of token.kind) a (at_wants ws s)) e p in
    λ x ts f k d. q x ts f k (p'.to x ts f k d)

-- steps and the moves that are left

pub less_left : (t t' r r' all : ℕ) → t' ≡ t + 1 → r' < r → t + r ≤ all → t' + r' ≤ all
less_left t t' r r' all tick less spent = omega (arith, tick, less, spent)

pub one_taken : (t t' r all : ℕ) → t' ≡ t + 1 → 1 ≤ r → t + r ≤ all → t' ≤ all
one_taken t t' r all tick some spent = omega (arith, tick, some, spent)

pub paid_left : (t t' r r' all : ℕ) → t' ≡ t + 1 → r' + 1 ≤ r + 15 → t + r ≤ all → t' + r' ≤ all + 15
paid_left t t' r r' all tick few spent = omega (arith, tick, few, spent)

pub room_next : (p p' q t t' u : ℕ) → t' ≡ t + 1 → p' ≤ p + 7 → p + 7 * u ≤ q + 7 * t → p' + 7 * u ≤ q + 7 * t'
room_next p p' q t t' u tick near room = omega (arith, tick, near, room)

pub room_same : (p q t t' u : ℕ) → t' ≡ t + 1 → p + 7 * u ≤ q + 7 * t → p + 7 * u ≤ q + 7 * t'
room_same p q t t' u tick room = omega (arith, tick, room)

-- the height of the stack

pub height_near : (news olds : List Want) (n peak height : ℕ) → n ≡ length news → length (reverse news) ≤ length (reverse olds) + height
    → length olds ≤ peak → n ≤ peak + height
height_near news olds n peak height len near held = omega (arith, len, near, held, length-reverse news, length-reverse olds)

pub height_same : (news olds : List Want) (peak : ℕ) → length (reverse news) ≤ length (reverse olds) → length olds ≤ peak → length news ≤ peak
height_same news olds peak near held = omega (arith, near, held, length-reverse news, length-reverse olds)
