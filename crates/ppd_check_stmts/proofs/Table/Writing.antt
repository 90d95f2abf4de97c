-- What is written one after another is what both say, and one statement with its expressions.
use Rattle.std.proofs.Common.{◌≡◌, refl, sym, ap, ◌∙◌, ℕ, suc, ◌+◌, arith, List, [], ◌∷◌, ◌++◌, length, Option, Some}
use Rattle.std.proofs.lemmas.List.{append_assoc, append-nil, length-append}
use Rattle.ppd_ast.specs.declared.program.Expr.{Expr}
use Rattle.ppd_ast.specs.declared.program.Stmt.{Stmt}
use Rattle.ppd_ast.specs.declared.program.Kind.{Kind}
use Rattle.ppd_ast.specs.declared.program.Place.{Place}
use Rattle.ppd_ast.specs.Term.{Term}
use Rattle.ppd_check_names.specs.declared.fault.Fault.{Fault}
use Rattle.ppd_check_names.specs.declared.writer.Writer.{Writer}
use Rattle.ppd_check_names.specs.Faults.{first, first_of_both}
use Rattle.ppd_check_stmts.specs.Code.{Act, Code, done, act, choice, loop, join, count}
use Rattle.ppd_check_stmts.specs.Table.{weight, weights, flat, flats, root, roots, terms, act_terms, kind, numbers, stmts}
use Rattle.ppd_check_stmts.specs.Forms.{Added}
use Rattle.ppd_check_stmts.specs.Writing.{Wrote, AddedAll}
use Rattle.ppd_check_names.proofs.Found.First.{found_in_both, first_of_both_none}
use Rattle.ppd_check_stmts.proofs.Table.Flat.{length_flat}
use Rattle.ppd_check_stmts.proofs.Table.Joined.{flats_append, terms_join, numbers_join, stmts_join}

pub length_flats : (m : ℕ) (ts : List Term) → length (flats m ts) ≡ weights ts
length_flats m [] = refl
length_flats m (t ∷ ts) =
    let p : length (flat m t ++ flats (m + weight t) ts) ≡ length (flat m t) + length (flats (m + weight t) ts) = length-append (flat m t) (flats (m + weight t) ts) in
    omega (arith, p, length_flat m t, length_flats (m + weight t) ts)

pub length_stmts : (b : ℕ) (q : Option ℕ) (n m : ℕ) (c : Code) → length (stmts b q n m c) ≡ count c
length_stmts b q n m done = refl
length_stmts b q n m (act p a c) = ap suc (length_stmts b q (n + 1) (m + weights (act_terms a)) c)
length_stmts b q n m (choice p e x y c) =
    let n1 : ℕ = n + 1 in
    let n2 : ℕ = n1 + count x in
    let m1 : ℕ = m + weight e in
    let m2 : ℕ = m1 + weights (terms x) in
    let xs : List Stmt = stmts b (Some n) n1 m1 x in
    let ys : List Stmt = stmts b (Some n) n2 m2 y in
    let zs : List Stmt = stmts b q (n2 + count y) (m2 + weights (terms y)) c in
    let p : length (xs ++ (ys ++ zs)) ≡ length xs + length (ys ++ zs) = length-append xs (ys ++ zs) in
    let o : length (ys ++ zs) ≡ length ys + length zs = length-append ys zs in
    omega (arith, p, o, length_stmts b (Some n) n1 m1 x, length_stmts b (Some n) n2 m2 y, length_stmts b q (n2 + count y) (m2 + weights (terms y)) c)
length_stmts b q n m (loop p e x c) =
    let n1 : ℕ = n + 1 in
    let m1 : ℕ = m + weight e in
    let xs : List Stmt = stmts b (Some n) n1 m1 x in
    let zs : List Stmt = stmts b q (n1 + count x) (m1 + weights (terms x)) c in
    let o : length (xs ++ zs) ≡ length xs + length zs = length-append xs zs in
    omega (arith, o, length_stmts b (Some n) n1 m1 x, length_stmts b q (n1 + count x) (m1 + weights (terms x)) c)

-- nothing
pub wrote_nothing : (b : ℕ) (q : Option ℕ) (w : Writer) (r : List ℕ) → Wrote b q done [] w w r r
wrote_nothing b q w r = record {
  exprs = sym (append-nil w.exprs);
  stmts = sym (append-nil w.stmts);
  row = sym (append-nil r);
  found = sym (first_of_both_none w.found);
}

-- one piece, then another
pub wrote_join : (b : ℕ) (q : Option ℕ) (c d : Code) (fs gs : List Fault) (u v w : Writer) (r s t : List ℕ)
    → Wrote b q c fs u v r s → Wrote b q d gs v w s t → Wrote b q (join c d) (fs ++ gs) u w r t
wrote_join b q c d fs gs u v w r s t x y =
    let m : ℕ = length u.exprs in
    let n : ℕ = length u.stmts in
    let long : length v.exprs ≡ m + weights (terms c) = ap length x.exprs ∙ length-append u.exprs (flats m (terms c)) ∙ ap (λ k. m + k) (length_flats m (terms c)) in
    let many : length v.stmts ≡ n + count c = ap length x.stmts ∙ length-append u.stmts (stmts b q n m c) ∙ ap (λ k. n + k) (length_stmts b q n m c) in
    record {
      exprs =
          y.exprs
          ∙ ap (λ l. l ++ flats (length v.exprs) (terms d)) x.exprs
          ∙ append_assoc u.exprs (flats m (terms c)) (flats (length v.exprs) (terms d))
          ∙ ap (λ k. u.exprs ++ (flats m (terms c) ++ flats k (terms d))) long
          ∙ ap (λ l. u.exprs ++ l) (sym (flats_append m (terms c) (terms d)))
          ∙ ap (λ ts. u.exprs ++ flats m ts) (sym (terms_join c d));
      stmts =
          y.stmts
          ∙ ap (λ l. l ++ stmts b q (length v.stmts) (length v.exprs) d) x.stmts
          ∙ append_assoc u.stmts (stmts b q n m c) (stmts b q (length v.stmts) (length v.exprs) d)
          ∙ ap (λ k. u.stmts ++ (stmts b q n m c ++ stmts b q k (length v.exprs) d)) many
          ∙ ap (λ k. u.stmts ++ (stmts b q n m c ++ stmts b q (n + count c) k d)) long
          ∙ ap (λ l. u.stmts ++ l) (sym (stmts_join b q n m c d));
      row =
          y.row
          ∙ ap (λ l. l ++ numbers (length v.stmts) d) x.row
          ∙ append_assoc r (numbers n c) (numbers (length v.stmts) d)
          ∙ ap (λ k. r ++ (numbers n c ++ numbers k d)) many
          ∙ ap (λ l. r ++ l) (sym (numbers_join n c d));
      found = found_in_both u.found v.found w.found fs gs x.found y.found;
    }

-- one statement, whose expressions are there
pub wrote_act : (b : ℕ) (q : Option ℕ) (p : Place) (a : Act) (k : Kind) (fs : List Fault) (u v : Writer) (r s : List ℕ)
    → v.exprs ≡ u.exprs ++ flats (length u.exprs) (act_terms a)
    → k ≡ kind (length u.exprs) a
    → v.stmts ≡ u.stmts ++ record { place = p; body = b; parent = q; kind = k } ∷ []
    → s ≡ r ++ length u.stmts ∷ []
    → v.found ≡ first_of_both u.found (first fs)
    → Wrote b q (act p a done) fs u v r s
wrote_act b q p a k fs u v r s e i t o f = record {
  exprs = e ∙ ap (λ ts. u.exprs ++ flats (length u.exprs) ts) (sym (append-nil (act_terms a)));
  stmts = t ∙ ap (λ j. u.stmts ++ record { place = p; body = b; parent = q; kind = j } ∷ []) i;
  row = o;
  found = f;
}

-- one statement, after expressions that left the statements as they were
pub wrote_put : (b : ℕ) (q : Option ℕ) (p : Place) (a : Act) (k : Kind) (fs : List Fault) (u v : Writer) (r s : List ℕ) (ss : List Stmt)
    → ss ≡ u.stmts
    → v.exprs ≡ u.exprs ++ flats (length u.exprs) (act_terms a)
    → k ≡ kind (length u.exprs) a
    → v.stmts ≡ ss ++ record { place = p; body = b; parent = q; kind = k } ∷ []
    → s ≡ r ++ length ss ∷ []
    → v.found ≡ first_of_both u.found (first fs)
    → Wrote b q (act p a done) fs u v r s
wrote_put b q p a k fs u v r s ss w e i t o f =
    wrote_act b q p a k fs u v r s e i
    (t ∙ ap (λ (l : List Stmt). l ++ record { place = p; body = b; parent = q; kind = k } ∷ []) w)
    (o ∙ ap (λ (l : List Stmt). r ++ length l ∷ []) w) f

-- one term
pub added_one : (old : List Expr) (t : Term) (new : List Expr) (n : ℕ) → Added old t new n → new ≡ old ++ flats (length old) (t ∷ [])
added_one old t new n a = a.table ∙ ap (λ l. old ++ l) (sym (append-nil (flat (length old) t)))

pub roots_append : (m : ℕ) (ts us : List Term) → roots m (ts ++ us) ≡ roots m ts ++ roots (m + weights ts) us
roots_append m [] us = ap (λ k. roots k us) (omega arith)
roots_append m (t ∷ ts) us = ap (λ l. root m t ∷ l) (roots_append (m + weight t) ts us ∙ ap (λ k. roots (m + weight t) ts ++ roots k us) (omega arith))

pub added_join : (old mid new : List Expr) (ts us : List Term) (ids ids' ids'' : List ℕ)
    → AddedAll old ts mid ids ids' → AddedAll mid us new ids' ids'' → AddedAll old (ts ++ us) new ids ids''
added_join old mid new ts us ids ids' ids'' a b =
    let m : ℕ = length old in
    let long : length mid ≡ m + weights ts = ap length a.table ∙ length-append old (flats m ts) ∙ ap (λ k. m + k) (length_flats m ts) in
    record {
      table =
          b.table
          ∙ ap (λ l. l ++ flats (length mid) us) a.table
          ∙ append_assoc old (flats m ts) (flats (length mid) us)
          ∙ ap (λ k. old ++ (flats m ts ++ flats k us)) long
          ∙ ap (λ l. old ++ l) (sym (flats_append m ts us));
      numbers =
          b.numbers
          ∙ ap (λ l. l ++ roots (length mid) us) a.numbers
          ∙ append_assoc ids (roots m ts) (roots (length mid) us)
          ∙ ap (λ k. ids ++ (roots m ts ++ roots k us)) long
          ∙ ap (λ l. ids ++ l) (sym (roots_append m ts us));
    }

-- one term after others, its number, and what was added
pub record AddedAfter (old : List Expr) (ts : List Term) (t : Term) (new : List Expr) (n : ℕ) : Type 0 where
  pub table : new ≡ old ++ flats (length old) (ts ++ t ∷ [])
  pub number : n ≡ root (length old + weights ts) t

pub added_after : (old mid new : List Expr) (ts : List Term) (t : Term) (n : ℕ) → mid ≡ old ++ flats (length old) ts → Added mid t new n → AddedAfter old ts t new n
added_after old mid new ts t n e a =
    let m : ℕ = length old in
    let long : length mid ≡ m + weights ts = ap length e ∙ length-append old (flats m ts) ∙ ap (λ k. m + k) (length_flats m ts) in
    record {
      table =
          added_one mid t new n a
          ∙ ap (λ l. l ++ flats (length mid) (t ∷ [])) e
          ∙ append_assoc old (flats m ts) (flats (length mid) (t ∷ []))
          ∙ ap (λ k. old ++ (flats m ts ++ flats k (t ∷ []))) long
          ∙ ap (λ l. old ++ l) (sym (flats_append m ts (t ∷ [])));
      number = a.number ∙ ap (λ k. root k t) long;
    }
