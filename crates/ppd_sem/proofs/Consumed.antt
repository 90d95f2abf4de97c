-- The shared reads of an evaluation are exactly the answers that it takes.
use Rattle.std.proofs.Common.{◌≡◌, ℕ, ℤ, pos, neg_ℤ, Bool, true, false, List, [], ◌∷◌, ◌++◌, Some, None, Result, Ok, Err, refl, ap, sym, ◌∙◌, subst, if◌then◌else◌}
use Rattle.std.specs.Prelude.{not as negated, get_or}
use Rattle.std.proofs.lemmas.List.{append_assoc, append-nil, map-append}
use Rattle.std.specs.Ordering.{int_eq}
use Rattle.ppd_ast.specs.declared.program.Expr.{Expr}
use Rattle.ppd_ast.specs.declared.program.Kind.{Kind}
use Rattle.ppd_ast.specs.declared.program.Kind.TheVariants as kind
use Rattle.ppd_ast.specs.declared.program.Target.TheVariants as target
use Rattle.ppd_ast.specs.declared.status.Trap.{Trap}
use Rattle.ppd_ast.specs.declared.status.Trap.TheVariants as trap
use Rattle.ppd_ast.specs.Term.{Term, const, local, local_at, shared, shared_at, neg, not, two, and, or, term}
use Rattle.ppd_sem.specs.declared.asking.Pause.TheVariants.{Wants, Traps}
use Rattle.ppd_sem.specs.declared.event.Access.{Access}
use Rattle.ppd_sem.specs.declared.event.Spot.{Spot}
use Rattle.ppd_sem.specs.declared.event.Spot.TheVariants as spot
use Rattle.ppd_sem.specs.Ask.{ask, calc, checked, element, truth}
use Rattle.ppd_sem.specs.Asked.{Asked, and_then, gives, lift, once, read_shared}
use Rattle.ppd_sem.specs.Consumed.{ComesOf, Takes, WantsInTurn, shared_of, shared_with, values_read}
use Rattle.ppd_sem.specs.Deed.{Deed, set_local, set_shared, clear, branch, turn, leave, invoke, back, take, give, send, receive, print, pass, finish, ask_all, ask_deed, ask_stored}
use Rattle.ppd_sem.specs.Laws.{ReadsAreAnswers}
use Rattle.ppd_sem.specs.Reads.{ask_place, reads_of, reads_of_all, reads_of_kind, reads_of_stored, shared_read, local_accesses}

-- ---- lists of shared reads

with_append : (s : Spot) (v : ℤ) (rs qs : List (ℕ × ℤ)) → shared_with s v (rs ++ qs) ≡ shared_with s v rs ++ qs
with_append (spot.Local frame c) v rs qs = refl
with_append (spot.Shared c) v rs qs = refl

shared_append : (xs ys : List Access) → shared_of (xs ++ ys) ≡ shared_of xs ++ shared_of ys
shared_append [] ys = refl
shared_append (x ∷ xs) ys = ap (shared_with x.spot x.value) (shared_append xs ys) ∙ with_append x.spot x.value (shared_of xs) (shared_of ys)

shared_once : {A : Type 0} (xs : List Access) (r : Asked A) (bring : A → List ℤ → List Access) → shared_of (xs ++ once r bring) ≡ shared_of xs ++ once r (λ x left. shared_of (bring x left))
shared_once xs (Ok p) bring = shared_append xs (bring p.0 p.1)
shared_once xs (Err pause) bring = shared_append xs []

values_append : (rs qs : List (ℕ × ℤ)) → values_read (rs ++ qs) ≡ values_read rs ++ values_read qs
values_append rs qs = map-append (λ r. r.1) rs qs

once_none : {A : Type 0} (rs : List (ℕ × ℤ)) (r : Asked A) → rs ++ once r (λ x left. []) ≡ rs
once_none rs (Ok p) = append-nil rs
once_none rs (Err pause) = append-nil rs

-- ---- what is wanted in turn

wants_append : {A : Type 0} (f : List ℤ → Asked A) (before : List ℤ) (rs qs : List (ℕ × ℤ)) → WantsInTurn f before rs → WantsInTurn f (before ++ values_read rs) qs → WantsInTurn f before (rs ++ qs)
wants_append f before [] qs h g = subst (λ (b : List ℤ). WantsInTurn f b qs) (append-nil before) g
wants_append f before (r ∷ rs) qs h g =
    (h.0, wants_append f (before ++ r.1 ∷ []) rs qs h.1 (subst (λ (b : List ℤ). WantsInTurn f b qs) (sym (append_assoc before (r.1 ∷ []) (values_read rs))) g))

wants_then : {A B : Type 0} (f : List ℤ → Asked A) (next : A → List ℤ → Asked B) (before : List ℤ) (rs : List (ℕ × ℤ)) → WantsInTurn f before rs → WantsInTurn (λ a. and_then (f a) next) before rs
wants_then f next before [] h = tt
wants_then f next before (r ∷ rs) h = (ap (λ x. and_then x next) h.0, wants_then f next (before ++ r.1 ∷ []) rs h.1)

wants_after : {A : Type 0} (f g : List ℤ → Asked A) (taken before : List ℤ) (rs : List (ℕ × ℤ)) → ((others : List ℤ) → f (taken ++ others) ≡ g others) → WantsInTurn g before rs → WantsInTurn f (taken ++ before) rs
wants_after f g taken before [] e h = tt
wants_after f g taken before (r ∷ rs) e h =
    (e before ∙ h.0, subst (λ (b : List ℤ). WantsInTurn f b rs) (sym (append_assoc taken before (r.1 ∷ []))) (wants_after f g taken (before ++ r.1 ∷ []) rs e h.1))

-- ---- what comes of it

comes_after : {A : Type 0} (f g : List ℤ → Asked A) (taken more left : List ℤ) (r : Asked A) → ((others : List ℤ) → f (taken ++ others) ≡ g others) → ComesOf g more left r → ComesOf f (taken ++ more) left r
comes_after f g taken more left (Ok p) e h = (h.0, λ others. ap f (append_assoc taken more others) ∙ e (more ++ others) ∙ h.1 others)
comes_after f g taken more left (Err (Wants c)) e h = h
comes_after f g taken more left (Err (Traps t)) e h = λ others. ap f (append_assoc taken more others) ∙ e (more ++ others) ∙ h others

-- ---- one after the other

module _ {A B : Type 0} (f : List ℤ → Asked A) (next : A → List ℤ → Asked B) (answers : List ℤ) (rs : List (ℕ × ℤ)) where
  goes_on : (p : A × List ℤ) (qs : List (ℕ × ℤ)) → f answers ≡ Ok p → Takes f answers rs → Takes (next p.0) p.1 qs → Takes (λ a. and_then (f a) next) answers (rs ++ qs)
  goes_on p qs e h n =
      let c : ComesOf f (values_read rs) h.left (Ok p) = subst (ComesOf f (values_read rs) h.left) e h.comes in
      let after : (others : List ℤ) → and_then (f (values_read rs ++ others)) next ≡ next p.0 others = λ others. ap (λ r. and_then r next) (c.1 others) in
      let split : values_read rs ++ (values_read qs ++ n.left) ≡ answers = ap (λ l. values_read rs ++ l) (n.all ∙ c.0) ∙ h.all in
      let later : WantsInTurn (λ a. and_then (f a) next) (values_read rs) qs =
      subst (λ (b : List ℤ). WantsInTurn (λ a. and_then (f a) next) b qs) (append-nil (values_read rs))
      (wants_after (λ a. and_then (f a) next) (next p.0) (values_read rs) [] qs after n.in_turn) in
      let come : ComesOf (λ a. and_then (f a) next) (values_read rs ++ values_read qs) n.left (next p.0 p.1) =
      comes_after (λ a. and_then (f a) next) (next p.0) (values_read rs) (values_read qs) n.left (next p.0 p.1) after n.comes in
      record {
        left = n.left;
        all = ap (λ l. l ++ n.left) (values_append rs qs) ∙ append_assoc (values_read rs) (values_read qs) n.left ∙ split;
        in_turn = wants_append (λ a. and_then (f a) next) [] rs qs (wants_then f next [] rs h.in_turn) later;
        comes =
            subst (λ (r : Asked B). ComesOf (λ a. and_then (f a) next) (values_read (rs ++ qs)) n.left r) (sym (ap (λ r. and_then r next) e))
            (subst (λ (l : List ℤ). ComesOf (λ a. and_then (f a) next) l n.left (next p.0 p.1)) (sym (values_append rs qs)) come);
      }

  then_takes : (bring : A → List ℤ → List (ℕ × ℤ)) (r : Asked A) → f answers ≡ r → Takes f answers rs → ((x : A) (left : List ℤ) → Takes (next x) left (bring x left)) → Takes (λ a. and_then (f a) next) answers (rs ++ once r bring)
  then_takes bring (Ok p) e h n = goes_on p (bring p.0 p.1) e h (n p.0 p.1)
  then_takes bring (Err (Wants c)) e h n =
      let none : ComesOf f (values_read rs) h.left (Err (Wants c)) = subst (ComesOf f (values_read rs) h.left) e h.comes in
      subst (Takes (λ a. and_then (f a) next) answers) (sym (append-nil rs))
      record {
        left = h.left;
        all = h.all;
        in_turn = wants_then f next [] rs h.in_turn;
        comes = subst (ComesOf (λ a. and_then (f a) next) (values_read rs) h.left) (sym (ap (λ r. and_then r next) e)) none;
      }
  then_takes bring (Err (Traps t)) e h n =
      let traps : ComesOf f (values_read rs) h.left (Err (Traps t)) = subst (ComesOf f (values_read rs) h.left) e h.comes in
      subst (Takes (λ a. and_then (f a) next) answers) (sym (append-nil rs))
      record {
        left = h.left;
        all = h.all;
        in_turn = wants_then f next [] rs h.in_turn;
        comes = subst (ComesOf (λ a. and_then (f a) next) (values_read rs) h.left) (sym (ap (λ r. and_then r next) e)) (λ others. ap (λ r. and_then r next) (traps others));
      }

-- a part that reads nothing
then_plain : {A B : Type 0} (f : List ℤ → Asked A) (next : A → List ℤ → Asked B) (answers : List ℤ) (rs : List (ℕ × ℤ)) → Takes f answers rs → ((x : A) (left : List ℤ) → Takes (next x) left []) → Takes (λ a. and_then (f a) next) answers rs
then_plain f next answers rs h n = subst (Takes (λ a. and_then (f a) next) answers) (once_none rs (f answers)) (then_takes f next answers rs (λ x left. []) (f answers) refl h n)

-- a part with these reads
then_reads : {A B : Type 0} (f : List ℤ → Asked A) (next : A → List ℤ → Asked B) (answers : List ℤ) (xs : List Access) (bring : A → List ℤ → List Access) → Takes f answers (shared_of xs)
    → ((x : A) (left : List ℤ) → Takes (next x) left (shared_of (bring x left))) → Takes (λ a. and_then (f a) next) answers (shared_of (xs ++ once (f answers) bring))
then_reads f next answers xs bring h n =
    subst (Takes (λ a. and_then (f a) next) answers) (sym (shared_once xs (f answers) bring)) (then_takes f next answers (shared_of xs) (λ x left. shared_of (bring x left)) (f answers) refl h n)

-- ---- the smallest parts

gives_takes : {A : Type 0} (x : A) (answers : List ℤ) → Takes (λ a. gives a x) answers []
gives_takes x answers = record { left = answers; all = refl; in_turn = tt; comes = (refl, λ others. refl) }

lift_takes : {A : Type 0} (r : Result A Trap) (answers : List ℤ) → Takes (λ a. lift a r) answers []
lift_takes (Ok x) answers = record { left = answers; all = refl; in_turn = tt; comes = (refl, λ others. refl) }
lift_takes (Err t) answers = record { left = answers; all = refl; in_turn = tt; comes = λ others. refl }

read_takes : (c : ℕ) (answers : List ℤ) → Takes (λ a. read_shared a c) answers (shared_of (shared_read c answers))
read_takes c [] = record { left = []; all = refl; in_turn = tt; comes = refl }
read_takes c (v ∷ left) = record { left = left; all = refl; in_turn = (refl, tt); comes = (refl, λ others. refl) }

if_takes : {A : Type 0} (b : Bool) (f g : List ℤ → Asked A) (answers : List ℤ) (xs ys : List Access) → Takes f answers (shared_of xs) → Takes g answers (shared_of ys) → Takes (λ a. if b then f a else g a) answers (shared_of (if b then xs else ys))
if_takes true f g answers xs ys h k = h
if_takes false f g answers xs ys h k = k

-- ---- the same evaluation in another form

wants_as : {A : Type 0} (f g : List ℤ → Asked A) (before : List ℤ) (rs : List (ℕ × ℤ)) → ((a : List ℤ) → g a ≡ f a) → WantsInTurn f before rs → WantsInTurn g before rs
wants_as f g before [] e h = tt
wants_as f g before (r ∷ rs) e h = (e before ∙ h.0, wants_as f g (before ++ r.1 ∷ []) rs e h.1)

comes_as : {A : Type 0} (f g : List ℤ → Asked A) (taken left : List ℤ) (r : Asked A) → ((a : List ℤ) → g a ≡ f a) → ComesOf f taken left r → ComesOf g taken left r
comes_as f g taken left (Ok p) e h = (h.0, λ others. e (taken ++ others) ∙ h.1 others)
comes_as f g taken left (Err (Wants c)) e h = h
comes_as f g taken left (Err (Traps t)) e h = λ others. e (taken ++ others) ∙ h others

takes_as : {A : Type 0} (f g : List ℤ → Asked A) (answers : List ℤ) (rs : List (ℕ × ℤ)) → ((a : List ℤ) → g a ≡ f a) → Takes f answers rs → Takes g answers rs
takes_as f g answers rs e h = record {
  left = h.left;
  all = h.all;
  in_turn = wants_as f g [] rs e h.in_turn;
  comes = comes_as f g (values_read rs) h.left (g answers) e (subst (ComesOf f (values_read rs) h.left) (sym (e answers)) h.comes);
}

then_then : {A B C : Type 0} (r : Asked A) (k : A → List ℤ → Asked B) (h : B → List ℤ → Asked C) → and_then r (λ x left. and_then (k x left) h) ≡ and_then (and_then r k) h
then_then (Ok p) k h = refl
then_then (Err pause) k h = refl

-- ---- expressions

place_takes : (i : Term) (base len : ℕ) (cells answers : List ℤ) (rs : List (ℕ × ℤ)) → Takes (ask i cells) answers rs → Takes (ask_place i base len cells) answers rs
place_takes i base len cells answers rs h = then_plain (ask i cells) (λ at left. lift left (element base len at)) answers rs h (λ at left. lift_takes (element base len at) left)

-- an index that is tested, and what is done at its cell
at_place : {A : Type 0} (frame : ℕ) (i : Term) (base len : ℕ) (cells answers : List ℤ) (next : ℕ → List ℤ → Asked A) (bring : ℕ → List ℤ → List Access) → Takes (ask i cells) answers (shared_of (reads_of frame i cells answers))
    → ((c : ℕ) (left : List ℤ) → Takes (next c) left (shared_of (bring c left)))
    → Takes (λ a. and_then (ask i cells a) (λ at left. and_then (lift left (element base len at)) next)) answers (shared_of (reads_of frame i cells answers ++ once (ask_place i base len cells answers) bring))
at_place frame i base len cells answers next bring h n =
    takes_as (λ a. and_then (ask_place i base len cells a) next) (λ a. and_then (ask i cells a) (λ at left. and_then (lift left (element base len at)) next)) answers
    (shared_of (reads_of frame i cells answers ++ once (ask_place i base len cells answers) bring))
    (λ a. then_then (ask i cells a) (λ at left. lift left (element base len at)) next)
    (then_reads (ask_place i base len cells) next answers (reads_of frame i cells answers) bring (place_takes i base len cells answers (shared_of (reads_of frame i cells answers)) h) n)

takes : (frame : ℕ) (t : Term) (cells answers : List ℤ) → Takes (ask t cells) answers (shared_of (reads_of frame t cells answers))
takes frame (const v) cells answers = gives_takes v answers
takes frame (local c) cells answers = gives_takes (get_or cells c (pos 0)) answers
takes frame (local_at base len i) cells answers =
    at_place frame i base len cells answers (λ c left. gives left (get_or cells c (pos 0))) (λ c left. local_accesses frame c (get_or cells c (pos 0) ∷ [])) (takes frame i cells answers) (λ c left. gives_takes (get_or cells c (pos 0)) left)
takes frame (shared c) cells answers = read_takes c answers
takes frame (shared_at base len i) cells answers =
    at_place frame i base len cells answers (λ c left. read_shared left c) (λ c left. shared_read c left) (takes frame i cells answers) (λ c left. read_takes c left)
takes frame (neg a) cells answers =
    then_plain (ask a cells) (λ x left. lift left (checked (neg_ℤ x))) answers (shared_of (reads_of frame a cells answers)) (takes frame a cells answers) (λ x left. lift_takes (checked (neg_ℤ x)) left)
takes frame (not a) cells answers =
    then_plain (ask a cells) (λ x left. gives left (truth (int_eq x (pos 0)))) answers (shared_of (reads_of frame a cells answers)) (takes frame a cells answers) (λ x left. gives_takes (truth (int_eq x (pos 0))) left)
takes frame (two op a b) cells answers =
    then_reads (ask a cells) (λ x left. and_then (ask b cells left) (λ y left. lift left (calc op x y))) answers (reads_of frame a cells answers) (λ x left. reads_of frame b cells left) (takes frame a cells answers)
    (λ x left. then_plain (ask b cells) (λ y left. lift left (calc op x y)) left (shared_of (reads_of frame b cells left)) (takes frame b cells left) (λ y left. lift_takes (calc op x y) left))
takes frame (and a b) cells answers =
    then_reads (ask a cells) (λ x left. if int_eq x (pos 0) then gives left (pos 0) else and_then (ask b cells left) (λ y left. gives left (truth (negated (int_eq y (pos 0)))))) answers (reads_of frame a cells answers)
    (λ x left. if int_eq x (pos 0) then [] else reads_of frame b cells left) (takes frame a cells answers)
    (λ x left. if_takes (int_eq x (pos 0)) (λ l. gives l (pos 0)) (λ l. and_then (ask b cells l) (λ y left. gives left (truth (negated (int_eq y (pos 0)))))) left [] (reads_of frame b cells left) (gives_takes (pos 0) left)
    (then_plain (ask b cells) (λ y left. gives left (truth (negated (int_eq y (pos 0))))) left (shared_of (reads_of frame b cells left)) (takes frame b cells left) (λ y left. gives_takes (truth (negated (int_eq y (pos 0)))) left)))
takes frame (or a b) cells answers =
    then_reads (ask a cells) (λ x left. if int_eq x (pos 0) then and_then (ask b cells left) (λ y left. gives left (truth (negated (int_eq y (pos 0))))) else gives left (pos 1)) answers (reads_of frame a cells answers)
    (λ x left. if int_eq x (pos 0) then reads_of frame b cells left else []) (takes frame a cells answers)
    (λ x left. if_takes (int_eq x (pos 0)) (λ l. and_then (ask b cells l) (λ y left. gives left (truth (negated (int_eq y (pos 0)))))) (λ l. gives l (pos 1)) left (reads_of frame b cells left) []
    (then_plain (ask b cells) (λ y left. gives left (truth (negated (int_eq y (pos 0))))) left (shared_of (reads_of frame b cells left)) (takes frame b cells left) (λ y left. gives_takes (truth (negated (int_eq y (pos 0)))) left))
    (gives_takes (pos 1) left))

takes_all : (frame : ℕ) (es : List Expr) (as' : List ℕ) (cells answers : List ℤ) → Takes (ask_all es as' cells) answers (shared_of (reads_of_all frame es as' cells answers))
takes_all frame es [] cells answers = gives_takes [] answers
takes_all frame es (a ∷ as') cells answers =
    then_reads (ask (term es a) cells) (λ v left. and_then (ask_all es as' cells left) (λ vs left. gives left (v ∷ vs))) answers (reads_of frame (term es a) cells answers) (λ v left. reads_of_all frame es as' cells left) (takes frame (term es a) cells answers)
    (λ v left. then_plain (ask_all es as' cells) (λ vs left. gives left (v ∷ vs)) left (shared_of (reads_of_all frame es as' cells left)) (takes_all frame es as' cells left) (λ vs left. gives_takes (v ∷ vs) left))

-- ---- statements

takes_stored : (frame : ℕ) (i e : Term) (base len : ℕ) (store : ℕ → ℤ → Deed) (cells answers : List ℤ) → Takes (ask_stored i e base len store cells) answers (shared_of (reads_of_stored frame i e base len cells answers))
takes_stored frame i e base len store cells answers =
    at_place frame i base len cells answers (λ c left. and_then (ask e cells left) (λ v left. gives left (store c v))) (λ c left. reads_of frame e cells left) (takes frame i cells answers)
    (λ c left. then_plain (ask e cells) (λ v left. gives left (store c v)) left (shared_of (reads_of frame e cells left)) (takes frame e cells left) (λ v left. gives_takes (store c v) left))

asserted : (b : Bool) (left : List ℤ) → Takes (λ l. if b then Err (Traps trap.Assert) else gives l pass) left []
asserted true left = record { left = left; all = refl; in_turn = tt; comes = λ others. refl }
asserted false left = gives_takes pass left

module _ (frame : ℕ) (es : List Expr) (cells answers : List ℤ) where
  -- one value, and then the deed
  valued : (e : ℕ) (deed : ℤ → Deed) → Takes (λ a. and_then (ask (term es e) cells a) (λ v left. gives left (deed v))) answers (shared_of (reads_of frame (term es e) cells answers))
  valued e deed = then_plain (ask (term es e) cells) (λ v left. gives left (deed v)) answers (shared_of (reads_of frame (term es e) cells answers)) (takes frame (term es e) cells answers) (λ v left. gives_takes (deed v) left)

  statement_takes : (k : Kind) → Takes (ask_deed es k cells) answers (shared_of (reads_of_kind frame es k cells answers))
  statement_takes (kind.Set (target.Local c) e) = valued e (λ v. set_local c v)
  statement_takes (kind.Set (target.LocalAt base len i) e) = takes_stored frame (term es i) (term es e) base len set_local cells answers
  statement_takes (kind.Set (target.Shared c) e) = valued e (λ v. set_shared c v)
  statement_takes (kind.Set (target.SharedAt base len i) e) = takes_stored frame (term es i) (term es e) base len set_shared cells answers
  statement_takes (kind.Zero base len) = gives_takes (clear base len) answers
  statement_takes (kind.If e first second) = valued e (λ v. branch (if int_eq v (pos 0) then second else first))
  statement_takes (kind.While e body) = valued e (λ v. if int_eq v (pos 0) then leave else turn body)
  statement_takes (kind.Call f arguments into) =
      then_plain (ask_all es arguments cells) (λ vs left. gives left (invoke f vs into)) answers (shared_of (reads_of_all frame es arguments cells answers)) (takes_all frame es arguments cells answers) (λ vs left. gives_takes (invoke f vs into) left)
  statement_takes (kind.Return None) = gives_takes (back None) answers
  statement_takes (kind.Return (Some e)) = valued e (λ v. back (Some v))
  statement_takes (kind.P s) = gives_takes (take s) answers
  statement_takes (kind.V s) = gives_takes (give s) answers
  statement_takes (kind.Send c e) = valued e (λ v. send c v)
  statement_takes (kind.Recv c into) = gives_takes (receive c into) answers
  statement_takes (kind.Print e) = valued e (λ v. print v)
  statement_takes (kind.Assert e) =
      then_plain (ask (term es e) cells) (λ v left. if int_eq v (pos 0) then Err (Traps trap.Assert) else gives left pass) answers (shared_of (reads_of frame (term es e) cells answers)) (takes frame (term es e) cells answers)
      (λ v left. asserted (int_eq v (pos 0)) left)
  statement_takes kind.End = gives_takes finish answers

pub reads_taken : ReadsAreAnswers
reads_taken = record {
  expression = takes;
  statement = λ frame es k cells answers. statement_takes frame es cells answers k;
}
