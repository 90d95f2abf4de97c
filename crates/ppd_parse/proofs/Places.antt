-- Places in a source.
use Rattle.std.proofs.Common.{◌≡◌, ◌<◌, ◌≤◌, ℕ, ◌+◌, ◌-◌, List, [], ◌∷◌, ◌++◌, length, drop, take, get_or, Bool, true, false, cond, refl, sym, ◌∙◌, ap, arith, drop-cons, add-one, nat_eq, length-take}
use Rattle.std.proofs.Math.Seq.{take-add}
use Rattle.ppd_ast.specs.declared.program.Place.{Place}
use Rattle.ppd_parse.specs.Tokens.{after_byte, place_of}
use Rattle.ppd_parse.proofs.Words.{after_bytes}

pub after_more : (p : Place) (bs : List ℕ) (i : ℕ) → i < length bs → after_bytes p (drop i bs) ≡ after_bytes (after_byte p (get_or bs i 0)) (drop (i + 1) bs)
after_more p bs i h = let e : drop i bs ≡ get_or bs i 0 ∷ drop (i + 1) bs = rw (add-one, drop-cons bs i 0) in ap (after_bytes p) e

pub after_byte_bound : (p : Place) (b : ℕ) → 1 ≤ p.column → ((after_byte p b).line + (after_byte p b).column ≤ (p.line + p.column) + 1) × (1 ≤ (after_byte p b).column)
after_byte_bound p b h = go (nat_eq b 10)
  where
    go : (t : Bool) → let q : Place = cond t (record { line = p.line + 1; column = 1 }) (record { line = p.line; column = p.column + 1 }) in (q.line + q.column ≤ (p.line + p.column) + 1) × (1 ≤ q.column)
    go true = (omega arith, omega arith)
    go false = (omega arith, omega arith)

line_kept : (p : Place) (b : ℕ) → 1 ≤ p.line → 1 ≤ (after_byte p b).line
line_kept p b h = go (nat_eq b 10)
  where
    go : (t : Bool) → let q : Place = cond t (record { line = p.line + 1; column = 1 }) (record { line = p.line; column = p.column + 1 }) in 1 ≤ q.line
    go true = omega arith
    go false = h

after-append : (p : Place) (xs ys : List ℕ) → after_bytes p (xs ++ ys) ≡ after_bytes (after_bytes p xs) ys
after-append p [] ys = refl
after-append p (x ∷ xs) ys = after-append (after_byte p x) xs ys

pub place_next : (bs : List ℕ) (i n : ℕ) (p q : Place) → p ≡ place_of bs i → q ≡ after_bytes p (take ((i + n) - i) (drop i bs)) → q ≡ place_of bs (i + n)
place_next bs i n p q e f =
    let k : (i + n) - i ≡ n = omega arith in
    f ∙ (ap (λ m. after_bytes p (take m (drop i bs))) k ∙ (ap (λ r. after_bytes r (take n (drop i bs))) e ∙ (sym (after-append _ (take i bs) (take n (drop i bs))) ∙ ap (after_bytes _) (sym (take-add i n bs)))))

-- where bytes lead from a place
pub record LeadsWithin (p : Place) (n : ℕ) (q : Place) : Type 0 where
  pub line : 1 ≤ q.line
  pub column : 1 ≤ q.column
  pub sum : q.line + q.column ≤ (p.line + p.column) + n

pub after_bound : (p : Place) (bs : List ℕ) → 1 ≤ p.line → 1 ≤ p.column → LeadsWithin p (length bs) (after_bytes p bs)
after_bound p [] l c = record { line = l; column = c; sum = omega arith }
after_bound p (b ∷ bs) l c =
    let one = after_byte_bound p b c in
    let rest = after_bound (after_byte p b) bs (line_kept p b l) one.1 in
    record { line = rest.line; column = rest.column; sum = omega (arith, one.0, rest.sum) }

-- the place of a byte is from 1:1 on, and no further than the byte
pub place_bound : (bs : List ℕ) (i : ℕ) → LeadsWithin (place_of bs 0) i (place_of bs i)
place_bound bs i =
    let h = after_bound (place_of bs 0) (take i bs) (omega arith) (omega arith) in
    record { line = h.line; column = h.column; sum = omega (arith, h.sum, length-take i bs) }
