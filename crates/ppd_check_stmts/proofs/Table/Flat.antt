-- How many expressions a term has.
use Rattle.std.proofs.Common.{◌≡◌, refl, sym, ap, ◌∙◌, ℕ, suc, ◌+◌, arith, List, [], ◌∷◌, ◌++◌, length, subst, Option, Some, None, Result, Ok, Err, IfOk, OnOk}
use Rattle.std.proofs.lemmas.List.{length-append, append_assoc}
use Rattle.ppd_ast.specs.declared.program.Expr.{Expr}
use Rattle.ppd_ast.specs.Term.{Term, const, local, local_at, shared, shared_at, neg, not, two, and, or}
use Rattle.ppd_ast.specs.declared.program.Expr.TheVariants.{Neg, Not}
use Rattle.ppd_check_stmts.specs.declared.forms.Operator.{Operator}
use Rattle.ppd_check_stmts.specs.declared.forms.Operator.TheVariants.{Either, Both, Two as Op2}
use Rattle.ppd_check_names.specs.declared.meaning.Meaning.{Meaning}
use Rattle.ppd_check_names.specs.Names.{Scope}
use Rattle.ppd_check_names.specs.declared.meaning.Meaning.TheVariants as M
use Rattle.ppd_check_names.specs.Syntax.{Formula, negated, inverted}
use Rattle.ppd_check_stmts.specs.Expressions.{term_of, read, formula_faults}
use Rattle.ppd_check_stmts.specs.Table.{below, weight, root, flat}
use Rattle.ppd_check_stmts.specs.Forms.{joined_by, joined_expr, Added}

abbrev joined_term : Operator → Term → Term → Term
joined_term Either a b = or a b
joined_term Both a b = and a b
joined_term (Op2 op) a b = two op a b

one_more : (xs : List Expr) (e : Expr) (n : ℕ) → length xs ≡ n → length (xs ++ e ∷ []) ≡ suc n
one_more xs e n h = length-append xs (e ∷ []) ∙ omega (arith, h)

two_parts : (xs ys : List Expr) (e : Expr) (m n : ℕ) → length xs ≡ m → length ys ≡ n → length (xs ++ (ys ++ e ∷ [])) ≡ suc (m + n)
two_parts xs ys e m n h i =
    let p : length (xs ++ (ys ++ e ∷ [])) ≡ length xs + length (ys ++ e ∷ []) = length-append xs (ys ++ e ∷ []) in
    let q : length (ys ++ e ∷ []) ≡ suc n = one_more ys e n i in
    omega (arith, p, q, h)

pub length_flat : (m : ℕ) (t : Term) → length (flat m t) ≡ weight t
length_flat m (const v) = refl
length_flat m (local c) = refl
length_flat m (local_at base n i) = one_more _ _ _ (length_flat m i)
length_flat m (shared c) = refl
length_flat m (shared_at base n i) = one_more _ _ _ (length_flat m i)
length_flat m (neg a) = one_more _ _ _ (length_flat m a)
length_flat m (not a) = one_more _ _ _ (length_flat m a)
length_flat m (two op a b) = two_parts _ _ _ _ _ (length_flat m a) (length_flat (m + weight a) b)
length_flat m (and a b) = two_parts _ _ _ _ _ (length_flat m a) (length_flat (m + weight a) b)
length_flat m (or a b) = two_parts _ _ _ _ _ (length_flat m a) (length_flat (m + weight a) b)

pub added_length : (old : List Expr) (t : Term) (new : List Expr) (n : ℕ) → Added old t new n → length new ≡ length old + weight t
added_length old t new n a =
    ap length a.table ∙ length-append old (flat (length old) t) ∙ ap (λ k. length old + k) (length_flat (length old) t)

-- the expression of a node over one part, and over two
abbrev pub IsNodeOver : (Term → Term) → (ℕ → Expr) → Type 0
IsNodeOver over e = (m : ℕ) (t : Term) → (flat m (over t) ≡ flat m t ++ e (root m t) ∷ []) × (below (over t) ≡ weight t)

abbrev pub IsOverTwo : (Term → Term → Term) → (ℕ → ℕ → Expr) → Type 0
IsOverTwo over e = (m : ℕ) (a b : Term)
    → (flat m (over a b) ≡ flat m a ++ (flat (m + weight a) b ++ e (root m a) (root (m + weight a) b) ∷ [])) × (below (over a b) ≡ weight a + weight b)

pub added_over : (over : Term → Term) (e : ℕ → Expr) → IsNodeOver over e → (old mid new : List Expr) (t : Term) (k n : ℕ)
    → Added old t mid k → new ≡ mid ++ e k ∷ [] → n ≡ length mid → Added old (over t) new n
added_over over e o old mid new t k n a added number =
    let m = length old in
    let count : length mid ≡ m + weight t = added_length old t mid k a in
    let b : below (over t) ≡ weight t = (o m t).1 in
    record {
      table =
          added
          ∙ ap (λ j. mid ++ e j ∷ []) a.number
          ∙ ap (λ l. l ++ e (root m t) ∷ []) a.table
          ∙ append_assoc old (flat m t) (e (root m t) ∷ [])
          ∙ ap (λ l. old ++ l) (sym (o m t).0);
      number = omega (arith, number, count, b);
    }

pub added_over_two : (over : Term → Term → Term) (e : ℕ → ℕ → Expr) → IsOverTwo over e → (old mid last new : List Expr) (s t : Term) (j k n : ℕ)
    → Added old s mid j → Added mid t last k → new ≡ last ++ e j k ∷ [] → n ≡ length last → Added old (over s t) new n
added_over_two over e o old mid last new s t j k n a b added number =
    let m = length old in
    let count : length mid ≡ m + weight s = added_length old s mid j a in
    let count' : length last ≡ length mid + weight t = added_length mid t last k b in
    let w : below (over s t) ≡ weight s + weight t = (o m s t).1 in
    record {
      table =
          added
          ∙ ap (λ i. last ++ e i k ∷ []) a.number
          ∙ ap (λ i. last ++ e (root m s) i ∷ []) (b.number ∙ ap (λ i. root i t) count)
          ∙ ap (λ l. l ++ e (root m s) (root (m + weight s) t) ∷ []) (b.table ∙ ap (λ i. mid ++ flat i t) count ∙ ap (λ l. l ++ flat (m + weight s) t) a.table)
          ∙ ap (λ l. l ++ e (root m s) (root (m + weight s) t) ∷ []) (append_assoc old (flat m s) (flat (m + weight s) t))
          ∙ append_assoc old (flat m s ++ flat (m + weight s) t) (e (root m s) (root (m + weight s) t) ∷ [])
          ∙ ap (λ l. old ++ l) (append_assoc (flat m s) (flat (m + weight s) t) (e (root m s) (root (m + weight s) t) ∷ []) ∙ sym (o m s t).0);
      number = omega (arith, number, count, count', w);
    }

joined_over : (op : Operator) → IsOverTwo (joined_term op) (joined_expr op)
joined_over Either m a b = (refl, omega arith)
joined_over Both m a b = (refl, omega arith)
joined_over (Op2 op) m a b = (refl, omega arith)

pub term_joined : (s : List Scope) (op : Operator) (a b : Formula) → term_of s (joined_by op a b) ≡ joined_term op (term_of s a) (term_of s b)
term_joined s Either a b = refl
term_joined s Both a b = refl
term_joined s (Op2 op) a b = refl

pub faults_joined : (s : List Scope) (op : Operator) (a b : Formula) → formula_faults s (joined_by op a b) ≡ formula_faults s a ++ formula_faults s b
faults_joined s Either a b = refl
faults_joined s Both a b = refl
faults_joined s (Op2 op) a b = refl

pub added_joined : (s : List Scope) (op : Operator) (f g : Formula) (old mid last new : List Expr) (j k n : ℕ)
    → Added old (term_of s f) mid j → Added mid (term_of s g) last k → new ≡ last ++ joined_expr op j k ∷ [] → n ≡ length last → Added old (term_of s (joined_by op f g)) new n
added_joined s op f g old mid last new j k n a b e h =
    subst (λ t. Added old t new n) (sym (term_joined s op f g))
    (added_over_two (joined_term op) (joined_expr op) (joined_over op) old mid last new (term_of s f) (term_of s g) j k n a b e h)

pub added_element : (m : Option Meaning) (e : Expr) (i : Term) (old mid new : List Expr) (k n : ℕ)
    → ((r : ℕ) (t : Term) → k ≡ root r t → flat r (read m (Some t)) ≡ flat r t ++ e ∷ [])
    → Added old i mid k → new ≡ mid ++ e ∷ [] → n ≡ length mid → Added old (read m (Some i)) new n
added_element m e i old mid new k n is a added number =
    let count : length mid ≡ length old + weight i = added_length old i mid k a in
    let b : below (read m (Some i)) ≡ weight i = below_element m i in
    record {
      table =
          added
          ∙ ap (λ l. l ++ e ∷ []) a.table
          ∙ append_assoc old (flat (length old) i) (e ∷ [])
          ∙ ap (λ l. old ++ l) (sym (is (length old) i a.number));
      number = omega (arith, number, count, b);
    }
  where
    below_element : (m : Option Meaning) (i : Term) → below (read m (Some i)) ≡ weight i
    below_element None i = refl
    below_element (Some (M.Local b (Some n))) i = refl
    below_element (Some (M.Shared b (Some n))) i = refl
    below_element (Some m) i = refl

pub added_negated : (s : List Scope) (f : Formula) (old mid new : List Expr) (j n : ℕ)
    → Added old (term_of s f) mid j → new ≡ mid ++ Neg j ∷ [] → n ≡ length mid → Added old (term_of s (negated f)) new n
added_negated s f old mid new j n a e h = added_over neg Neg (λ m t. (refl, refl)) old mid new (term_of s f) j n a e h

pub added_inverted : (s : List Scope) (f : Formula) (old mid new : List Expr) (j n : ℕ)
    → Added old (term_of s f) mid j → new ≡ mid ++ Not j ∷ [] → n ≡ length mid → Added old (term_of s (inverted f)) new n
added_inverted s f old mid new j n a e h = added_over not Not (λ m t. (refl, refl)) old mid new (term_of s f) j n a e h

pub with_ok : {E : Type 0} (r : Result ℕ E) (P : Type 0) (Q R : ℕ → Type 0) → ((n : ℕ) → P → Q n → R n) → OnOk r P → IfOk r Q → IfOk r R
with_ok (Ok n) P Q R f p q = f n p q
with_ok (Err e) P Q R f p q = tt
