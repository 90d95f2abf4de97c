-- The laws of evaluation, of needs and of steps, proved.
use Rattle.std.proofs.Common.{◌≡◌, ◌≢◌, ◌≤ℤ◌, ◌<◌, ◌≤◌, ◌+◌, ◌/◌, ◌%◌, ◌^◌, ℕ, zero, suc, ℤ, pos, negsuc, ◌+ℤ◌, ◌-ℤ◌, ◌*ℤ◌, neg_ℤ, unsigned_abs, Bool, true, false, nat_eq, nat_lt, List, [], ◌++◌, length, Ok, Err, Option, None, refl, ap, sym, ◌∙◌, subst, arith, div-le_self, if◌then◌else◌}
use Rattle.std.specs.Prelude.{int_div, int_rem}
use Rattle.std.proofs.lemmas.Bool.Decides.{Decides-int_eq, nat_tests}
use Rattle.std.proofs.lemmas.Int.{ints, quot-rem, rem_below}
use Rattle.std.proofs.lemmas.List.{append-nil}
use Rattle.std.proofs.lemmas.Nat.{div_below}
use Rattle.std.specs.Ordering.{int_eq}
use Rattle.ppd_ast.specs.declared.plan.Plan.{Plan}
use Rattle.ppd_ast.specs.declared.program.Kind.TheVariants as kind
use Rattle.ppd_ast.specs.declared.program.Program.{Program}
use Rattle.ppd_ast.specs.declared.status.Trap.TheVariants.{Overflow, Index, Depth}
use Rattle.ppd_ast.specs.Term.{Term, and, or, term}
use Rattle.ppd_ast.specs.Lookups.{kind_of}
use Rattle.ppd_ast.specs.declared.limits.TheConstants.{MOST_CALLS}
use Rattle.ppd_sem.specs.declared.asking.Pause.TheVariants.{Traps}
use Rattle.ppd_sem.specs.declared.proc.Need.TheVariants as need
use Rattle.ppd_sem.specs.declared.proc.Proc.{Proc}
use Rattle.ppd_sem.specs.declared.proc.Todo.{Todo}
use Rattle.ppd_sem.specs.Ask.{ask, checked, element, is_in_64_bits}
use Rattle.ppd_sem.proofs.EventWords.{divided}
use Rattle.ppd_sem.specs.Asked.{Asked, and_then, gives, once}
use Rattle.ppd_sem.specs.Deed.{Deed, ask_all, ask_deed, ask_stored, invoke, set_local, set_shared}
use Rattle.ppd_sem.specs.Laws.{ArgumentsComeFirst, ArithmeticIsExact, DividesTowardZero, Has64Bits, IndexComesFirst, IsExactOrOverflow, NeedsAreThere, StepsEnd, StopsEarly, ValidCanRun, ValidIsNumbered, least}
use Rattle.ppd_sem.specs.Process.{act, chan_of, entry_of, head_deed, loop_of, need_of_asked, need_of_head, offer_of, top_frame, need_of_deed}
use Rattle.ppd_sem.proofs.NeedWords.{need_by_entry, need_by_offer}
use Rattle.ppd_sem.specs.Reads.{ask_place, reads_of, reads_of_stored}
use Rattle.ppd_sem.proofs.Progress.{act-falls, act-stopped, act-within}
use Rattle.ppd_sem.proofs.Needs.{needs-there}
use Rattle.ppd_sem.proofs.Validity.{valid-runnable, valid-numbered}

-- ---- arithmetic

fits_of : (z : ℤ) → Has64Bits z → is_in_64_bits z ≡ true
fits_of (pos n) h = grind (arith, nat_tests, h.below)
fits_of (negsuc n) h = grind (arith, nat_tests, h.above)

has_of : (z : ℤ) → is_in_64_bits z ≡ true → Has64Bits z
has_of (pos n) h = record { above = grind (arith, nat_tests); below = grind (arith, nat_tests) }
has_of (negsuc n) h = record { above = grind (arith, nat_tests); below = grind (arith, nat_tests) }

exact_by : (z : ℤ) (b : Bool) → is_in_64_bits z ≡ b → IsExactOrOverflow (if b then Ok z else Err Overflow) z
exact_by z true e = record { fits = λ _. refl; overflows = λ no. absurd (no (has_of z e)) }
exact_by z false e = record { fits = λ h. let t : true ≡ false = sym (fits_of z h) ∙ e in absurd (cc t); overflows = λ _. refl }

exact : (z : ℤ) → IsExactOrOverflow (checked z) z
exact z = exact_by z (is_in_64_bits z) refl

pub arithmetic : ArithmeticIsExact
arithmetic = record {
  sum = λ x y. exact (x +ℤ y);
  difference = λ x y. exact (x -ℤ y);
  product = λ x y. exact (x *ℤ y);
  opposite = λ x. exact (neg_ℤ x);
}

neg_fits : (n : ℕ) → n ≤ 2 ^ 63 → is_in_64_bits (neg_ℤ (pos n)) ≡ true
neg_fits zero h = refl
neg_fits (suc n) h = grind (arith, nat_tests)

above_least : (a : ℕ) (b : Bool) → nat_eq a 9223372036854775807 ≡ b → a < 2 ^ 63 → ((negsuc a ≡ least) × (negsuc 0 ≡ negsuc 0) → ⊥) → a < 9223372036854775807
above_least a true e h not =
    let is : a ≡ 9223372036854775807 = grind (arith, nat_tests) in
    absurd (not (ap negsuc is, refl))
above_least a false e h not = grind (arith, nat_tests)

-- the quotient has 64 bits, but for the least number by -1
quotient_fits : (x y : ℤ) → is_in_64_bits x ≡ true → y ≢ pos 0 → ((x ≡ least) × (y ≡ negsuc 0) → ⊥) → is_in_64_bits (int_div x y) ≡ true
quotient_fits (pos a) (pos b) h some not =
    let few : a / b ≤ a = div-le_self a b in
    let small : a < 2 ^ 63 = grind (arith, nat_tests) in
    let less : a / b < 2 ^ 63 = omega arith in
    grind (arith, nat_tests)
quotient_fits (pos a) (negsuc b) h some not =
    let few : a / suc b ≤ a = div-le_self a (suc b) in
    let small : a < 2 ^ 63 = grind (arith, nat_tests) in
    neg_fits (a / suc b) (omega arith)
quotient_fits (negsuc a) (pos b) h some not =
    let few : suc a / b ≤ suc a = div-le_self (suc a) b in
    let small : a < 2 ^ 63 = grind (arith, nat_tests) in
    neg_fits (suc a / b) (omega arith)
quotient_fits (negsuc a) (negsuc zero) h some not =
    let small : a < 2 ^ 63 = grind (arith, nat_tests) in
    let above : a < 9223372036854775807 = above_least a (nat_eq a 9223372036854775807) refl small not in
    let few : suc a / 1 < 2 ^ 63 = omega arith in
    grind (arith, nat_tests)
quotient_fits (negsuc a) (negsuc (suc b)) h some not =
    let small : a < 2 ^ 63 = grind (arith, nat_tests) in
    let few : suc a / suc (suc b) < 2 ^ 63 = div_below (suc a) (suc (suc b)) (2 ^ 63) (omega arith) (omega arith) in
    grind (arith, nat_tests)

not_zero_by : (y : ℤ) (b : Bool) → int_eq y (pos 0) ≡ b → y ≢ pos 0 → b ≡ false
not_zero_by y false e some = refl
not_zero_by y true e some = absurd (some ((Decides-int_eq y (pos 0)).0 e))

not_zero : (y : ℤ) → y ≢ pos 0 → int_eq y (pos 0) ≡ false
not_zero y some = not_zero_by y (int_eq y (pos 0)) refl some

size_of_some : (y : ℤ) → y ≢ pos 0 → 0 < unsigned_abs y
size_of_some (pos zero) some = absurd (some refl)
size_of_some (pos (suc n)) some = omega arith
size_of_some (negsuc n) some = omega arith

not_above : (n : ℕ) → neg_ℤ (pos n) ≤ℤ pos 0
not_above zero = omega (arith, ints)
not_above (suc n) = omega (arith, ints)

positive_rest : (x y : ℤ) → pos 0 ≤ℤ x → pos 0 ≤ℤ int_rem x y
positive_rest (pos a) y h = omega (arith, ints)
positive_rest (negsuc a) y h = absurd h.le

negative_rest : (x y : ℤ) → x ≤ℤ pos 0 → int_rem x y ≤ℤ pos 0
negative_rest (pos zero) y h = omega (arith, ints)
negative_rest (pos (suc a)) y h = absurd (omega (arith, ints, h))
negative_rest (negsuc a) y h = not_above (suc a % unsigned_abs y)

divided_is : (x y z : ℤ) → y ≢ pos 0 → is_in_64_bits (int_div x y) ≡ true → divided x y z ≡ Ok z
divided_is x y z some h = rw (not_zero y some, h) refl

pub division : DividesTowardZero
division = record {
  zero = λ x. (refl, refl);
  overflow = (refl, refl);
  others = λ x y h some not.
      let fit : is_in_64_bits (int_div x y) ≡ true = quotient_fits x y (fits_of x h) some not in
      record {
        quotient = int_div x y;
        remainder = int_rem x y;
        div = divided_is x y (int_div x y) some fit;
        rem = divided_is x y (int_rem x y) some fit;
        whole = quot-rem x y;
        nearer = rem_below x y (size_of_some y some);
        positive = positive_rest x y;
        negative = negative_rest x y;
      };
}

-- ---- order of evaluation

placed : (i : Term) (base len : ℕ) (cells answers left : List ℤ) (at : ℤ) → ask i cells answers ≡ Ok (at, left) → element base len at ≡ Err Index → ask_place i base len cells answers ≡ Err (Traps Index)
placed i base len cells answers left at h e = rw (h, e) refl

stored_reads : (frame : ℕ) (i e : Term) (base len : ℕ) (cells answers left : List ℤ) (at : ℤ) → ask i cells answers ≡ Ok (at, left) → element base len at ≡ Err Index → reads_of_stored frame i e base len cells answers ≡ reads_of frame i cells answers
stored_reads frame i e base len cells answers left at h g =
    ap (λ r. reads_of frame i cells answers ++ once r (λ c left. reads_of frame e cells left)) (placed i base len cells answers left at h g) ∙ append-nil (reads_of frame i cells answers)

stored_traps : (i e : Term) (base len : ℕ) (store : ℕ → ℤ → Deed) (cells answers left : List ℤ) (at : ℤ) → ask i cells answers ≡ Ok (at, left) → element base len at ≡ Err Index → ask_stored i e base len store cells answers ≡ Err (Traps Index)
stored_traps i e base len store cells answers left at h g = rw (h, g) refl

pub index_first : IndexComesFirst
index_first = record {
  local = λ es base len i e cells answers left at. stored_traps (term es i) (term es e) base len set_local cells answers left at;
  shared = λ es base len i e cells answers left at. stored_traps (term es i) (term es e) base len set_shared cells answers left at;
  local_reads = λ frame es base len i e cells answers left at. stored_reads frame (term es i) (term es e) base len cells answers left at;
  shared_reads = λ frame es base len i e cells answers left at. stored_reads frame (term es i) (term es e) base len cells answers left at;
}

and_stops : (a b : Term) (cells answers left : List ℤ) → ask a cells answers ≡ Ok (pos 0, left) → ask (and a b) cells answers ≡ Ok (pos 0, left)
and_stops a b cells answers left h = rw h refl

and_unread : (frame : ℕ) (a b : Term) (cells answers left : List ℤ) → ask a cells answers ≡ Ok (pos 0, left) → reads_of frame (and a b) cells answers ≡ reads_of frame a cells answers
and_unread frame a b cells answers left h =
    ap (λ r. reads_of frame a cells answers ++ once r (λ x left. if int_eq x (pos 0) then [] else reads_of frame b cells left)) h ∙ append-nil (reads_of frame a cells answers)

or_stops : (a b : Term) (cells answers left : List ℤ) (x : ℤ) → x ≢ pos 0 → ask a cells answers ≡ Ok (x, left) → ask (or a b) cells answers ≡ Ok (pos 1, left)
or_stops a b cells answers left x some h = rw (h, not_zero x some) refl

or_unread : (frame : ℕ) (a b : Term) (cells answers left : List ℤ) (x : ℤ) → x ≢ pos 0 → ask a cells answers ≡ Ok (x, left) → reads_of frame (or a b) cells answers ≡ reads_of frame a cells answers
or_unread frame a b cells answers left x some h =
    ap (λ r. reads_of frame a cells answers ++ once r (λ x left. if int_eq x (pos 0) then reads_of frame b cells left else [])) h ∙
    ap (λ z. reads_of frame a cells answers ++ (if z then reads_of frame b cells left else [])) (not_zero x some) ∙
    append-nil (reads_of frame a cells answers)

pub stops : StopsEarly
stops = record { and_value = and_stops; and_reads = and_unread; or_value = or_stops; or_reads = or_unread }

-- ---- calls

no_entry : (program : Program) (plan : Plan) (t : Todo) (f : ℕ) (arguments : List ℕ) (into : Option ℕ) → kind_of program t.stmt ≡ kind.Call f arguments into → entry_of program plan t ≡ None
no_entry program plan t f arguments into k = ap (λ k. if t.entered then None else loop_of plan t.stmt k) k ∙ same t.entered
  where
    none : Option ℕ
    none = None

    same : (b : Bool) → (if b then none else none) ≡ none
    same true = refl
    same false = refl

no_offer : (program : Program) (t : Todo) (f : ℕ) (arguments : List ℕ) (into : Option ℕ) → kind_of program t.stmt ≡ kind.Call f arguments into → offer_of program t ≡ None
no_offer program t f arguments into k = ap (λ k. if t.offered then chan_of k else None) k ∙ same t.offered
  where
    none : Option ℕ
    none = None

    same : (b : Bool) → (if b then none else none) ≡ none
    same true = refl
    same false = refl

call_deed : (program : Program) (t : Todo) (s : Proc) (f : ℕ) (arguments : List ℕ) (into : Option ℕ) (r : Asked (List ℤ)) → kind_of program t.stmt ≡ kind.Call f arguments into → ask_all program.exprs arguments (top_frame s.frames).cells s.answers ≡ r → head_deed program t s ≡ and_then r (λ vs left. gives left (invoke f vs into))
call_deed program t s f arguments into r k h =
    ap (λ k. ask_deed program.exprs k (top_frame s.frames).cells s.answers) k ∙ ap (λ r. and_then r (λ vs left. gives left (invoke f vs into))) h

call_need : (program : Program) (plan : Plan) (t : Todo) (s : Proc) (f : ℕ) (arguments : List ℕ) (into : Option ℕ) (r : Asked (List ℤ)) → kind_of program t.stmt ≡ kind.Call f arguments into → ask_all program.exprs arguments (top_frame s.frames).cells s.answers ≡ r → need_of_head program plan t s ≡ need_of_asked program plan t.stmt s (and_then r (λ vs left. gives left (invoke f vs into)))
call_need program plan t s f arguments into r k h =
    ap (λ o. need_by_offer plan t.stmt o (need_by_entry program plan t.stmt s (entry_of program plan t) (head_deed program t s))) (no_offer program t f arguments into k) ∙
    ap (λ o. need_by_entry program plan t.stmt s o (head_deed program t s)) (no_entry program plan t f arguments into k) ∙
    ap (λ d. need_of_asked program plan t.stmt s d) (call_deed program t s f arguments into r k h)

deep_call : (program : Program) (plan : Plan) (t f : ℕ) (values : List ℤ) (into : Option ℕ) (s : Proc) → MOST_CALLS < s.below + length s.frames → need_of_deed program plan t s (invoke f values into) ≡ need.Trap Depth
deep_call program plan t f values into s h = let test : nat_lt MOST_CALLS (s.below + length s.frames) ≡ true = grind (arith, nat_tests) in rw test refl

pub arguments_first : ArgumentsComeFirst
arguments_first = record {
  lacking = λ program plan t s f arguments into p k h. call_need program plan t s f arguments into (Err p) k h;
  too_deep = λ program plan t s f arguments into values left k h deep. call_need program plan t s f arguments into (Ok (values, left)) k h ∙ deep_call program plan t.stmt f values into s deep;
}

-- ---- steps

pub ends : StepsEnd
ends = record {
  falls = act-falls;
  stays = act-stopped;
  budget = λ program plan s a h. (act-within program plan s a h).budget;
  within = λ program plan s a h.
      let kept = act-within program plan s a h in
      subst (λ (n : ℕ). (act program plan s a).spent ≤ n) kept.budget kept.spent;
}

pub can_run : ValidCanRun
can_run = valid-runnable

pub is_numbered : ValidIsNumbered
is_numbered = valid-numbered

pub named : NeedsAreThere
named program plan s v = needs-there program plan s v
