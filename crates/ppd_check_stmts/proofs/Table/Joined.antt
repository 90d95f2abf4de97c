-- Rows one after the other, in the table.
use Rattle.std.proofs.Common.{◌≡◌, refl, sym, ap, ◌∙◌, ℕ, suc, ◌+◌, arith, List, [], ◌∷◌, ◌++◌, Option, Some}
use Rattle.std.proofs.lemmas.List.{append_assoc}
use Rattle.ppd_ast.specs.declared.program.Stmt.{Stmt}
use Rattle.ppd_ast.specs.declared.program.Kind.TheVariants.{If, While}
use Rattle.ppd_ast.specs.Term.{Term}
use Rattle.ppd_check_stmts.specs.Code.{Code, done, act, choice, loop, join, count}
use Rattle.ppd_check_stmts.specs.Table.{weight, weights, below, flat, flats, terms, act_terms, kind, numbers, stmts}

pub terms_join : (c d : Code) → terms (join c d) ≡ terms c ++ terms d
terms_join done d = refl
terms_join (act p a c) d = ap (λ t. act_terms a ++ t) (terms_join c d) ∙ sym (append_assoc (act_terms a) (terms c) (terms d))
terms_join (choice p e x y c) d =
    ap (λ t. e ∷ (terms x ++ (terms y ++ t))) (terms_join c d)
    ∙ ap (λ t. e ∷ (terms x ++ t)) (sym (append_assoc (terms y) (terms c) (terms d)))
    ∙ ap (λ t. e ∷ t) (sym (append_assoc (terms x) (terms y ++ terms c) (terms d)))
terms_join (loop p e x c) d =
    ap (λ t. e ∷ (terms x ++ t)) (terms_join c d)
    ∙ ap (λ t. e ∷ t) (sym (append_assoc (terms x) (terms c) (terms d)))

pub numbers_join : (n : ℕ) (c d : Code) → numbers n (join c d) ≡ numbers n c ++ numbers (n + count c) d
numbers_join n done d = ap (λ k. numbers k d) (omega arith)
numbers_join n (act p a c) d = ap (λ t. n ∷ t) (numbers_join (n + 1) c d ∙ ap (λ k. numbers (n + 1) c ++ numbers k d) (omega arith))
numbers_join n (choice p e x y c) d =
    let m = n + 1 + count x + count y in
    ap (λ t. n ∷ t) (numbers_join m c d ∙ ap (λ k. numbers m c ++ numbers k d) (omega arith))
numbers_join n (loop p e x c) d =
    let m = n + 1 + count x in
    ap (λ t. n ∷ t) (numbers_join m c d ∙ ap (λ k. numbers m c ++ numbers k d) (omega arith))

pub weights_append : (ts us : List Term) → weights (ts ++ us) ≡ weights ts + weights us
weights_append [] us = omega arith
weights_append (t ∷ ts) us = let h : weights (ts ++ us) ≡ weights ts + weights us = weights_append ts us in omega (arith, h)

pub flats_append : (m : ℕ) (ts us : List Term) → flats m (ts ++ us) ≡ flats m ts ++ flats (m + weights ts) us
flats_append m [] us = ap (λ k. flats k us) (omega arith)
flats_append m (t ∷ ts) us =
    ap (λ l. flat m t ++ l) (flats_append (m + weight t) ts us ∙ ap (λ k. flats (m + weight t) ts ++ flats k us) (omega arith))
    ∙ sym (append_assoc (flat m t) (flats (m + weight t) ts) (flats (m + weights (t ∷ ts)) us))

pub stmts_join : (b : ℕ) (q : Option ℕ) (n m : ℕ) (c d : Code) → stmts b q n m (join c d) ≡ stmts b q n m c ++ stmts b q (n + count c) (m + weights (terms c)) d
stmts_join b q n m done d = ap (λ k. stmts b q k m d) (omega arith) ∙ ap (λ k. stmts b q (n + 0) k d) (omega arith)
stmts_join b q n m (act p a c) d =
    let w : weights (act_terms a ++ terms c) ≡ weights (act_terms a) + weights (terms c) = weights_append (act_terms a) (terms c) in
    ap (λ t. record { place = p; body = b; parent = q; kind = kind m a } ∷ t)
    (stmts_join b q (n + 1) (m + weights (act_terms a)) c d
    ∙ ap (λ k. stmts b q (n + 1) (m + weights (act_terms a)) c ++ stmts b q k (m + weights (act_terms a) + weights (terms c)) d) (omega arith)
    ∙ ap (λ k. stmts b q (n + 1) (m + weights (act_terms a)) c ++ stmts b q (n + suc (count c)) k d) (omega (arith, w)))
stmts_join b q n m (choice p e x y c) d =
    let w : weights (terms x ++ (terms y ++ terms c)) ≡ weights (terms x) + weights (terms y ++ terms c) = weights_append (terms x) (terms y ++ terms c) in
    let v : weights (terms y ++ terms c) ≡ weights (terms y) + weights (terms c) = weights_append (terms y) (terms c) in
    let n1 = n + 1 in
    let n2 = n1 + count x in
    let n3 = n2 + count y in
    let m1 = m + weight e in
    let m2 = m1 + weights (terms x) in
    let m3 = m2 + weights (terms y) in
    let head : Stmt = record { place = p; body = b; parent = q; kind = If (m + below e) (numbers n1 x) (numbers n2 y) } in
    let last : stmts b q n3 m3 (join c d) ≡ stmts b q n3 m3 c ++ stmts b q (n + suc (count x + (count y + count c))) (m + (weight e + weights (terms x ++ (terms y ++ terms c)))) d =
    stmts_join b q n3 m3 c d
    ∙ ap (λ k. stmts b q n3 m3 c ++ stmts b q k (m3 + weights (terms c)) d) (omega arith)
    ∙ ap (λ k. stmts b q n3 m3 c ++ stmts b q (n + suc (count x + (count y + count c))) k d) (omega (arith, w, v)) in
    ap (λ t. head ∷ (stmts b (Some n) n1 m1 x ++ (stmts b (Some n) n2 m2 y ++ t))) last
    ∙ ap (λ t. head ∷ (stmts b (Some n) n1 m1 x ++ t)) (sym (append_assoc (stmts b (Some n) n2 m2 y) (stmts b q n3 m3 c) _))
    ∙ ap (λ t. head ∷ t) (sym (append_assoc (stmts b (Some n) n1 m1 x) (stmts b (Some n) n2 m2 y ++ stmts b q n3 m3 c) _))
stmts_join b q n m (loop p e x c) d =
    let w : weights (terms x ++ terms c) ≡ weights (terms x) + weights (terms c) = weights_append (terms x) (terms c) in
    let n1 = n + 1 in
    let n2 = n1 + count x in
    let m1 = m + weight e in
    let m2 = m1 + weights (terms x) in
    let head : Stmt = record { place = p; body = b; parent = q; kind = While (m + below e) (numbers n1 x) } in
    ap (λ t. head ∷ (stmts b (Some n) n1 m1 x ++ t))
    (stmts_join b q n2 m2 c d
    ∙ ap (λ k. stmts b q n2 m2 c ++ stmts b q k (m2 + weights (terms c)) d) (omega arith)
    ∙ ap (λ k. stmts b q n2 m2 c ++ stmts b q (n + suc (count x + count c)) k d) (omega (arith, w)))
    ∙ ap (λ t. head ∷ t) (sym (append_assoc (stmts b (Some n) n1 m1 x) (stmts b q n2 m2 c) _))
