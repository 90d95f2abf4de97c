-- Rows one after another, and statements with rows inside them.
use Rattle.std.proofs.Common.{◌≡◌, refl, sym, ap, subst, ◌∙◌, ℕ, ◌+◌, List, [], ◌∷◌, ◌++◌, length, Option, Some, slice_set}
use Rattle.std.proofs.lemmas.List.{append_assoc, append-nil, length-append}
use Rattle.std.proofs.Math.Seq.{set-append_seam}
use Rattle.ppd_ast.specs.declared.program.Kind.{Kind}
use Rattle.ppd_ast.specs.declared.program.Kind.TheVariants as K
use Rattle.ppd_ast.specs.declared.program.Stmt.{Stmt}
use Rattle.ppd_ast.specs.declared.program.Place.{Place}
use Rattle.ppd_ast.specs.Term.{Term}
use Rattle.ppd_check_names.specs.declared.fault.Fault.{Fault}
use Rattle.ppd_check_names.specs.declared.frame.Frame.{Frame}
use Rattle.ppd_check_names.specs.declared.writer.Writer.{Writer}
use Rattle.ppd_check_names.specs.declared.writer.Site.{Site}
use Rattle.ppd_check_names.specs.Faults.{first, first_of_both}
use Rattle.ppd_check_stmts.specs.Expressions.{term_of, formula_faults}
use Rattle.ppd_check_stmts.specs.Code.{Code, done, act, choice, loop, join, count}
use Rattle.ppd_check_stmts.specs.Table.{weight, weights, flat, flats, root, terms, numbers, stmts}
use Rattle.ppd_check_names.specs.Reading.{followed}
use Rattle.ppd_check_stmts.specs.Statements.{code_of, faults_of, after, after_row, row_code, row_faults, opened, with_scopes_of, code_of_any, faults_of_any}
use Rattle.ppd_check_stmts.proofs.Vocabulary.{after_any}
use Rattle.ppd_check_names.specs.Syntax.{Row, stop, simple, block, repeat}
use Rattle.ppd_check_names.specs.Syntax as S
use Rattle.ppd_check_stmts.specs.Writing.{Wrote, WroteRow}
use Rattle.ppd_check_names.proofs.Found.First.{found_in_both}
use Rattle.ppd_check_stmts.proofs.Table.Flat.{length_flat}
use Rattle.ppd_check_stmts.proofs.Table.Joined.{terms_join, stmts_join}
use Rattle.ppd_check_stmts.proofs.Table.Writing.{wrote_join, wrote_nothing}

pub join_assoc : (a b c : Code) → join (join a b) c ≡ join a (join b c)
join_assoc done b c = refl
join_assoc (act p x a) b c = ap (act p x) (join_assoc a b c)
join_assoc (choice p e x y a) b c = ap (choice p e x y) (join_assoc a b c)
join_assoc (loop p e x a) b c = ap (loop p e x) (join_assoc a b c)

-- a row of one statement
pub row_wrote : (site : Site) (r : Row) (f : Frame) (u v : Writer) (a b : List ℕ) → WroteRow site r f u v a b → Wrote site.body site.parent (row_code r f) (row_faults r f) u v a b
row_wrote site (simple s stop) f u v a b w = wrote_join site.body site.parent (code_of s f) done (faults_of s f) [] u v v a b b w (wrote_nothing site.body site.parent v b)
row_wrote site (simple s (simple t r)) f u v a b w = w
row_wrote site (simple s (block x r)) f u v a b w = w
row_wrote site (simple s (S.choice p e x y r)) f u v a b w = w
row_wrote site (simple s (repeat p e x r)) f u v a b w = w
row_wrote site (simple s (S.count p i e t x r)) f u v a b w = w
row_wrote site stop f u v a b w = w
row_wrote site (block x r) f u v a b w = w
row_wrote site (S.choice p e x y r) f u v a b w = w
row_wrote site (repeat p e x r) f u v a b w = w
row_wrote site (S.count p i e t x r) f u v a b w = w

-- one row after another
pub after_followed : (r q : Row) (f : Frame) → after_row (followed r q) f ≡ after_row q (after_row r f)
after_followed stop q f = refl
after_followed (simple s r) q f = after_followed r q (after s f)
after_followed (block b r) q f = after_followed r q (with_scopes_of f (after_row b (opened f)))
after_followed (S.choice p e a b r) q f = after_followed r q (after_row b (after_row a f))
after_followed (repeat p e b r) q f = after_followed r q (after_row b f)
after_followed (S.count p i e t b r) q f = after_followed r q (with_scopes_of f (after_row b (after_any i (opened f))))

pub code_followed : (r q : Row) (f : Frame) → row_code (followed r q) f ≡ join (row_code r f) (row_code q (after_row r f))
code_followed stop q f = refl
code_followed (simple s r) q f =
    ap (join (code_of s f)) (code_followed r q (after s f)) ∙ sym (join_assoc (code_of s f) (row_code r (after s f)) (row_code q (after_row r (after s f))))
code_followed (block b r) q f =
    let g : Frame = with_scopes_of f (after_row b (opened f)) in
    ap (join (row_code b (opened f))) (code_followed r q g) ∙ sym (join_assoc (row_code b (opened f)) (row_code r g) (row_code q (after_row r g)))
code_followed (S.choice p e a b r) q f = ap (choice p (term_of f.scopes e) (row_code a f) (row_code b (after_row a f))) (code_followed r q (after_row b (after_row a f)))
code_followed (repeat p e b r) q f = ap (loop p (term_of f.scopes e) (row_code b f)) (code_followed r q (after_row b f))
code_followed (S.count p i e t b r) q f =
    let g : Frame = after_any i (opened f) in
    let h : Frame = with_scopes_of f (after_row b g) in
    ap (λ c. join (code_of_any i (opened f)) (loop p (term_of g.scopes e) (join (row_code b g) (code_of_any t (after_row b g))) c)) (code_followed r q h)
    ∙ sym (join_assoc (code_of_any i (opened f)) (loop p (term_of g.scopes e) (join (row_code b g) (code_of_any t (after_row b g))) (row_code r h)) (row_code q (after_row r h)))

assoc_three : (a b c d : List Fault) → a ++ (b ++ (c ++ d)) ≡ (a ++ (b ++ c)) ++ d
assoc_three a b c d = ap (λ l. a ++ l) (sym (append_assoc b c d)) ∙ sym (append_assoc a (b ++ c) d)

assoc_four : (a b c d e : List Fault) → a ++ (b ++ (c ++ (d ++ e))) ≡ (a ++ (b ++ (c ++ d))) ++ e
assoc_four a b c d e = ap (λ l. a ++ l) (assoc_three b c d e) ∙ sym (append_assoc a (b ++ (c ++ d)) e)

assoc_five : (a b c d e f : List Fault) → a ++ (b ++ (c ++ (d ++ (e ++ f)))) ≡ (a ++ (b ++ (c ++ (d ++ e)))) ++ f
assoc_five a b c d e f = ap (λ l. a ++ l) (assoc_four b c d e f) ∙ sym (append_assoc a (b ++ (c ++ (d ++ e))) f)

pub faults_followed : (r q : Row) (f : Frame) → row_faults (followed r q) f ≡ row_faults r f ++ row_faults q (after_row r f)
faults_followed stop q f = refl
faults_followed (simple s r) q f =
    let g : Frame = after s f in
    ap (λ l. faults_of s f ++ l) (faults_followed r q g) ∙ sym (append_assoc (faults_of s f) (row_faults r g) (row_faults q (after_row r g)))
faults_followed (block b r) q f =
    let g : Frame = with_scopes_of f (after_row b (opened f)) in
    ap (λ l. row_faults b (opened f) ++ l) (faults_followed r q g) ∙ sym (append_assoc (row_faults b (opened f)) (row_faults r g) (row_faults q (after_row r g)))
faults_followed (S.choice p e a b r) q f =
    let g : Frame = after_row a f in
    let h : Frame = after_row b g in
    ap (λ l. formula_faults f.scopes e ++ (row_faults a f ++ (row_faults b g ++ l))) (faults_followed r q h)
    ∙ assoc_four (formula_faults f.scopes e) (row_faults a f) (row_faults b g) (row_faults r h) (row_faults q (after_row r h))
faults_followed (repeat p e b r) q f =
    let g : Frame = after_row b f in
    ap (λ l. formula_faults f.scopes e ++ (row_faults b f ++ l)) (faults_followed r q g)
    ∙ assoc_three (formula_faults f.scopes e) (row_faults b f) (row_faults r g) (row_faults q (after_row r g))
faults_followed (S.count p i e t b r) q f =
    let g : Frame = after_any i (opened f) in
    let k : Frame = after_row b g in
    let h : Frame = with_scopes_of f k in
    ap (λ l. faults_of_any i (opened f) ++ (formula_faults g.scopes e ++ (row_faults b g ++ (faults_of_any t k ++ l)))) (faults_followed r q h)
    ∙ assoc_five (faults_of_any i (opened f)) (formula_faults g.scopes e) (row_faults b g) (faults_of_any t k) (row_faults r h) (row_faults q (after_row r h))

pub wrote_followed : (site : Site) (r q : Row) (f : Frame) (u v w : Writer) (a b c : List ℕ)
    → Wrote site.body site.parent (row_code r f) (row_faults r f) u v a b
    → Wrote site.body site.parent (row_code q (after_row r f)) (row_faults q (after_row r f)) v w b c
    → Wrote site.body site.parent (row_code (followed r q) f) (row_faults (followed r q) f) u w a c
wrote_followed site r q f u v w a b c x y =
    subst (λ d. Wrote site.body site.parent d (row_faults (followed r q) f) u w a c) (sym (code_followed r q f))
    (subst (λ fs. Wrote site.body site.parent (join (row_code r f) (row_code q (after_row r f))) fs u w a c) (sym (faults_followed r q f))
    (wrote_join site.body site.parent (row_code r f) (row_code q (after_row r f)) (row_faults r f) (row_faults q (after_row r f)) u v w a b c x y))

-- two rows inside an `If`, of which each has its own numbers
pub wrote_two : (b : ℕ) (q : Option ℕ) (x y : Code) (fs gs : List Fault) (u v w : Writer) (r s : List ℕ)
    → Wrote b q x fs u v [] r → Wrote b q y gs v w [] s → Wrote b q (join x y) (fs ++ gs) u w [] (r ++ s)
wrote_two b q x y fs gs u v w r s a c =
    wrote_join b q x y fs gs u v w [] r (r ++ s) a
    (record { exprs = c.exprs; stmts = c.stmts; row = ap (λ l. r ++ l) c.row; found = c.found })

-- What a statement with statements inside it adds: its expression, then its place, which is held until the inside is known.
pub record Held (b : ℕ) (q : Option ℕ) (p : Place) (k : Kind) (e : Term) (c : Code) (fs : List Fault) (u y : Writer) : Type 0 where
  pub exprs : y.exprs ≡ u.exprs ++ (flat (length u.exprs) e ++ flats (length u.exprs + weight e) (terms c))
  pub stmts : y.stmts ≡ u.stmts ++ record { place = p; body = b; parent = q; kind = k } ∷ stmts b (Some (length u.stmts)) (length u.stmts + 1) (length u.exprs + weight e) c
  pub found : y.found ≡ first_of_both u.found (first fs)

pub held : (b : ℕ) (q : Option ℕ) (p : Place) (k : Kind) (e : Term) (c : Code) (fe fc : List Fault) (u v w x y : Writer) (h : Stmt) (n : ℕ) (ids : List ℕ)
    → v.exprs ≡ u.exprs ++ flat (length u.exprs) e → v.found ≡ first_of_both u.found (first fe) → v.stmts ≡ u.stmts
    → w.exprs ≡ v.exprs → w.found ≡ v.found → w.stmts ≡ v.stmts ++ h ∷ [] → n ≡ length v.stmts
    → Wrote b (Some n) c fc w x [] ids
    → y.exprs ≡ x.exprs → y.found ≡ x.found → y.stmts ≡ slice_set x.stmts n (record { place = p; body = b; parent = q; kind = k })
    → Held b q p k e c (fe ++ fc) u y
held b q p k e c fe fc u v w x y h n ids ve vf vs we wf ws num inside ye yf ys =
    let m : ℕ = length u.exprs in
    let s : Stmt = record { place = p; body = b; parent = q; kind = k } in
    let long : length w.exprs ≡ m + weight e = ap length (we ∙ ve) ∙ length-append u.exprs (flat m e) ∙ ap (λ j. m + j) (length_flat m e) in
    let which : n ≡ length u.stmts = num ∙ ap length vs in
    let table : w.stmts ≡ u.stmts ++ h ∷ [] = ws ∙ ap (λ l. l ++ h ∷ []) vs in
    let many : length w.stmts ≡ length u.stmts + 1 = ap length table ∙ length-append u.stmts (h ∷ []) in
    let rest : List Stmt = stmts b (Some (length u.stmts)) (length u.stmts + 1) (m + weight e) c in
    let full : x.stmts ≡ u.stmts ++ h ∷ rest =
    inside.stmts
    ∙ ap (λ j. w.stmts ++ stmts b (Some j) (length w.stmts) (length w.exprs) c) which
    ∙ ap (λ j. w.stmts ++ stmts b (Some (length u.stmts)) j (length w.exprs) c) many
    ∙ ap (λ j. w.stmts ++ stmts b (Some (length u.stmts)) (length u.stmts + 1) j c) long
    ∙ ap (λ l. l ++ rest) table
    ∙ append_assoc u.stmts (h ∷ []) rest in
    record {
      exprs =
          ye ∙ inside.exprs
          ∙ ap (λ j. w.exprs ++ flats j (terms c)) long
          ∙ ap (λ l. l ++ flats (m + weight e) (terms c)) (we ∙ ve)
          ∙ append_assoc u.exprs (flat m e) (flats (m + weight e) (terms c));
      stmts =
          ys
          ∙ ap (λ l. slice_set l n s) full
          ∙ ap (λ j. slice_set (u.stmts ++ h ∷ rest) j s) which
          ∙ set-append_seam u.stmts h rest s;
      found = yf ∙ found_in_both u.found w.found x.found fe fc (wf ∙ vf) inside.found;
    }

-- the numbers of the rows inside
pub inner_numbers : (b : ℕ) (q : Option ℕ) (u v w : Writer) (h : Stmt) (c : Code) (fs : List Fault) (x : Writer) (ids : List ℕ)
    → v.stmts ≡ u.stmts → w.stmts ≡ v.stmts ++ h ∷ [] → Wrote b q c fs w x [] ids → ids ≡ numbers (length u.stmts + 1) c
inner_numbers b q u v w h c fs x ids vs ws inside =
    inside.row ∙ ap (λ j. numbers j c) (ap length (ws ∙ ap (λ l. l ++ h ∷ []) vs) ∙ length-append u.stmts (h ∷ []))

pub held_loop : (b : ℕ) (q : Option ℕ) (p : Place) (e : Term) (c : Code) (fs : List Fault) (u y : Writer) (row row' : List ℕ)
    → Held b q p (K.While (root (length u.exprs) e) (numbers (length u.stmts + 1) c)) e c fs u y → row' ≡ row ++ length u.stmts ∷ []
    → Wrote b q (loop p e c done) fs u y row row'
held_loop b q p e c fs u y row row' x r = record {
  exprs = x.exprs ∙ ap (λ l. u.exprs ++ (flat (length u.exprs) e ++ flats (length u.exprs + weight e) l)) (sym (append-nil (terms c)));
  stmts = x.stmts ∙ ap (λ l. u.stmts ++ record { place = p; body = b; parent = q; kind = K.While (root (length u.exprs) e) (numbers (length u.stmts + 1) c) } ∷ l) (sym (append-nil (stmts b (Some (length u.stmts)) (length u.stmts + 1) (length u.exprs + weight e) c)));
  row = r;
  found = x.found;
}

pub held_choice : (b : ℕ) (q : Option ℕ) (p : Place) (e : Term) (c d : Code) (fs : List Fault) (u y : Writer) (row row' : List ℕ)
    → Held b q p (K.If (root (length u.exprs) e) (numbers (length u.stmts + 1) c) (numbers (length u.stmts + 1 + count c) d)) e (join c d) fs u y → row' ≡ row ++ length u.stmts ∷ []
    → Wrote b q (choice p e c d done) fs u y row row'
held_choice b q p e c d fs u y row row' x r =
    let n : ℕ = length u.stmts in
    let m : ℕ = length u.exprs + weight e in
    let k : Stmt = record { place = p; body = b; parent = q; kind = K.If (root (length u.exprs) e) (numbers (n + 1) c) (numbers (n + 1 + count c) d) } in
    record {
      exprs =
          x.exprs
          ∙ ap (λ l. u.exprs ++ (flat (length u.exprs) e ++ flats m l)) (terms_join c d)
          ∙ ap (λ l. u.exprs ++ (flat (length u.exprs) e ++ flats m (terms c ++ l))) (sym (append-nil (terms d)));
      stmts =
          x.stmts
          ∙ ap (λ l. u.stmts ++ k ∷ l) (stmts_join b (Some n) (n + 1) m c d)
          ∙ ap (λ l. u.stmts ++ k ∷ (stmts b (Some n) (n + 1) m c ++ l)) (sym (append-nil (stmts b (Some n) (n + 1 + count c) (m + weights (terms c)) d)));
      row = r;
      found = x.found;
    }
