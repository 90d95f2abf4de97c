-- The first of broken rules that come in pieces.
use Rattle.std.proofs.Common.{◌≡◌, refl, sym, ap, subst, ◌∙◌, ℕ, ◌<◌, Bool, true, false, nat_eq, List, [], ◌∷◌, ◌++◌, Option, Some, None, if◌then◌else◌}
use Rattle.std.proofs.lemmas.Bool.{true≢false}
use Rattle.std.specs.Cmp.{IsTotalOrder, upto, ranks, then_total, on_total, nat_cmp_total}
use Rattle.std.specs.Ordering.{is_lt, is_gt, ordering_reverse, ordering_then, nat_cmp, MatchOrdering}
use Rattle.std.specs.declared.cmp.Ordering.{Ordering}
use Rattle.std.specs.declared.cmp.Ordering.TheVariants.{Less, Equal, Greater}
use Rattle.ppd_check_names.specs.declared.fault.Fault.{Fault}
use Rattle.ppd_check_names.specs.declared.fault.Cause.{Cause}
use Rattle.ppd_check_names.specs.declared.fault.Cause.TheVariants as R
use Rattle.ppd_check_names.specs.declared.fault.Limit.TheVariants as L
use Rattle.ppd_check_names.specs.Faults.{rank, order, first, first_of_both}

-- The order of faults.

total : IsTotalOrder order
total = then_total (on_total (λ f. f.place.line) nat_cmp_total) (then_total (on_total (λ f. f.place.column) nat_cmp_total) (on_total (λ f. rank f.cause) nat_cmp_total))

turned : (r : Ordering) → is_lt (ordering_reverse r) ≡ is_gt r
turned Less = refl
turned Equal = refl
turned Greater = refl

swapped : (f g : Fault) → is_lt (order f g) ≡ is_gt (order g f)
swapped f g = ap is_lt (total.antisymm f g) ∙ turned (order g f)

less : (r : Ordering) → is_lt r ≡ true → r ≡ Less
less Less e = refl
less Equal e = absurd (true≢false (sym e))
less Greater e = absurd (true≢false (sym e))

before_trans : (f g h : Fault) → is_lt (order g f) ≡ true → is_lt (order h g) ≡ true → is_lt (order h f) ≡ true
before_trans f g h p q = ap is_lt (total.trans h g f (less _ q) (less _ p))

after_trans : (f g h : Fault) → is_lt (order g f) ≡ false → is_lt (order h g) ≡ false → is_lt (order h f) ≡ false
after_trans f g h p q = swapped h f ∙ upto total f g h (sym (swapped g f) ∙ p) (sym (swapped h g) ∙ q)

clash : (f g : Fault) → is_lt (order g f) ≡ true → is_lt (order f g) ≡ true → ⊥
clash f g a b = true≢false (sym b ∙ swapped f g ∙ ap is_gt (less _ a))

-- the choices among three faults, by which stands before which: gf, hg and hf
three : (f g h : Fault) (gf hg hf : Bool) → (gf ≡ true → hg ≡ true → hf ≡ true) → (gf ≡ false → hg ≡ false → hf ≡ false)
    → (if hg then (if hf then Some h else Some f) else (if gf then Some g else Some f)) ≡ (if gf then (if hg then Some h else Some g) else (if hf then Some h else Some f))
three f g h true true true p q = refl
three f g h true true false p q = absurd (true≢false (sym (p refl refl)))
three f g h true false hf p q = refl
three f g h false true hf p q = refl
three f g h false false false p q = refl
three f g h false false true p q = absurd (true≢false (q refl refl))

lift : (x y z : Option Fault) (b : Bool) → first_of_both (if b then x else y) z ≡ (if b then first_of_both x z else first_of_both y z)
lift x y z true = refl
lift x y z false = refl

lift_two : (f g h : Fault) (b : Bool) → first_of_both (Some f) (if b then Some h else Some g) ≡ (if b then first_of_both (Some f) (Some h) else first_of_both (Some f) (Some g))
lift_two f g h true = refl
lift_two f g h false = refl

first_of_three : (f : Fault) (y z : Option Fault) → first_of_both (Some f) (first_of_both y z) ≡ first_of_both (first_of_both (Some f) y) z
first_of_three f None z = refl
first_of_three f (Some g) None = sym (right_none (first_of_both (Some f) (Some g)))
  where
    right_none : (x : Option Fault) → first_of_both x None ≡ x
    right_none None = refl
    right_none (Some x) = refl
first_of_three f (Some g) (Some h) =
    lift_two f g h (is_lt (order h g))
    ∙ three f g h (is_lt (order g f)) (is_lt (order h g)) (is_lt (order h f)) (before_trans f g h) (after_trans f g h)
    ∙ sym (lift (Some g) (Some f) (Some h) (is_lt (order g f)))

pub first-append : (a b : List Fault) → first (a ++ b) ≡ first_of_both (first a) (first b)
first-append [] b = refl
first-append (f ∷ a) b = ap (first_of_both (Some f)) (first-append a b) ∙ first_of_three f (first a) (first b)

pub first_of_both_assoc : (x y z : Option Fault) → first_of_both x (first_of_both y z) ≡ first_of_both (first_of_both x y) z
first_of_both_assoc None y z = refl
first_of_both_assoc (Some f) y z = first_of_three f y z

pub first_of_both_none : (x : Option Fault) → first_of_both x None ≡ x
first_of_both_none None = refl
first_of_both_none (Some f) = refl

-- what was found before, in a part and in another is what was found before and in both
pub found_in_both : (old mid new : Option Fault) (a b : List Fault) → mid ≡ first_of_both old (first a) → new ≡ first_of_both mid (first b) → new ≡ first_of_both old (first (a ++ b))
found_in_both old mid new a b h i =
    i ∙ ap (λ x. first_of_both x (first b)) h
    ∙ sym (first_of_both_assoc old (first a) (first b))
    ∙ ap (first_of_both old) (sym (first-append a b))

-- Two faults of which neither stands before the other are one.

neither : (r : Ordering) → is_lt r ≡ false → is_gt r ≡ false → r ≡ Equal
neither Less h i = absurd (true≢false h)
neither Equal h i = refl
neither Greater h i = absurd (true≢false i)

parts : (r s : Ordering) → ordering_then r s ≡ Equal → (r ≡ Equal) × (s ≡ Equal)
parts Less s e = absurd (cc)
parts Equal s e = (refl, e)
parts Greater s e = absurd (cc)

-- A rank belongs to one rule.
ruled : ℕ → Cause
ruled n =
    if nat_eq n 10 then R.Twice
    else if nat_eq n 20 then R.Unknown
    else if nat_eq n 30 then R.WrongKind
    else if nat_eq n 40 then R.Arity
    else if nat_eq n 50 then R.ReturnPlace
    else if nat_eq n 60 then R.VoidValue
    else if nat_eq n 70 then R.NoProcess
    else if nat_eq n 80 then R.TooMany L.Statements
    else if nat_eq n 81 then R.TooMany L.Functions
    else if nat_eq n 82 then R.TooMany L.Processes
    else if nat_eq n 83 then R.TooMany L.Semaphores
    else if nat_eq n 84 then R.TooMany L.Channels
    else if nat_eq n 85 then R.TooMany L.Shared
    else if nat_eq n 86 then R.TooMany L.Locals
    else R.BadSize

ruled_rank : (r : Cause) → ruled (rank r) ≡ r
unfolding ruled
ruled_rank R.Twice = refl
ruled_rank R.Unknown = refl
ruled_rank R.WrongKind = refl
ruled_rank R.Arity = refl
ruled_rank R.ReturnPlace = refl
ruled_rank R.VoidValue = refl
ruled_rank R.NoProcess = refl
ruled_rank (R.TooMany L.Statements) = refl
ruled_rank (R.TooMany L.Functions) = refl
ruled_rank (R.TooMany L.Processes) = refl
ruled_rank (R.TooMany L.Semaphores) = refl
ruled_rank (R.TooMany L.Channels) = refl
ruled_rank (R.TooMany L.Shared) = refl
ruled_rank (R.TooMany L.Locals) = refl
ruled_rank R.BadSize = refl

one_rule : (r s : Cause) → rank r ≡ rank s → r ≡ s
one_rule r s e = sym (ruled_rank r) ∙ ap ruled e ∙ ruled_rank s

one_number : (m n : ℕ) → nat_cmp m n ≡ Equal → m ≡ n
one_number m n e = subst (λ r. MatchOrdering r (m < n) (m ≡ n) (n < m)) e (ranks m n)

same_fault : (f g : Fault) → is_lt (order f g) ≡ false → is_lt (order g f) ≡ false → f ≡ g
same_fault f g h i =
    let line = parts (nat_cmp f.place.line g.place.line) _ (neither (order f g) h (sym (swapped g f) ∙ i)) in
    let rest = parts (nat_cmp f.place.column g.place.column) (nat_cmp (rank f.cause) (rank g.cause)) line.1 in
    ap (λ l. record { place = record { line = l; column = f.place.column }; cause = f.cause }) (one_number _ _ line.0)
    ∙ ap (λ l. record { place = record { line = g.place.line; column = l }; cause = f.cause }) (one_number _ _ rest.0)
    ∙ ap (λ r. record { place = g.place; cause = r }) (one_rule f.cause g.cause (one_number _ _ rest.1))

either_way : (f g : Fault) (gf fg : Bool) → (gf ≡ true → fg ≡ true → ⊥) → (gf ≡ false → fg ≡ false → f ≡ g) → (if gf then Some g else Some f) ≡ (if fg then Some f else Some g)
either_way f g true true p q = absurd (p refl refl)
either_way f g true false p q = refl
either_way f g false true p q = refl
either_way f g false false p q = ap Some (q refl refl)

-- it does not matter which part comes first
pub first_of_both_swap : (x y : Option Fault) → first_of_both x y ≡ first_of_both y x
first_of_both_swap None y = sym (first_of_both_none y)
first_of_both_swap (Some f) None = refl
first_of_both_swap (Some f) (Some g) =
    either_way f g (is_lt (order g f)) (is_lt (order f g)) (clash f g) (λ a b. same_fault f g b a)

pub first-swap : (a b : List Fault) → first (a ++ b) ≡ first (b ++ a)
first-swap a b = first-append a b ∙ first_of_both_swap (first a) (first b) ∙ sym (first-append b a)
