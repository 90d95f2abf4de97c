-- An `if` and a `while` with the rows inside them, as they are written: the test, the held place, the rows, the statement.
use Rattle.std.proofs.Common.{◌≡◌, sym, ap, subst, ◌∙◌, ℕ, ◌+◌, List, [], ◌∷◌, ◌++◌, length, Some, slice_set}
use Rattle.std.proofs.lemmas.List.{append-nil, length-append}
use Rattle.ppd_ast.specs.declared.program.Kind.{Kind}
use Rattle.ppd_ast.specs.declared.program.Kind.TheVariants as K
use Rattle.ppd_ast.specs.declared.program.Stmt.{Stmt}
use Rattle.ppd_ast.specs.declared.program.Place.{Place}
use Rattle.ppd_ast.specs.Term.{Term}
use Rattle.ppd_check_names.specs.declared.fault.Fault.{Fault}
use Rattle.ppd_check_names.specs.declared.frame.Frame.{Frame}
use Rattle.ppd_check_names.specs.declared.writer.Writer.{Writer}
use Rattle.ppd_check_names.specs.declared.writer.Site.{Site}
use Rattle.ppd_check_stmts.specs.Code as C
use Rattle.ppd_check_stmts.specs.Code.{Code, done, join, count}
use Rattle.ppd_check_stmts.specs.Expressions.{term_of, formula_faults}
use Rattle.ppd_check_names.specs.Faults.{first, first_of_both}
use Rattle.ppd_check_stmts.specs.Forms.{Added}
use Rattle.ppd_check_stmts.specs.Statements.{after_row, row_code, row_faults}
use Rattle.ppd_check_names.specs.Syntax.{Formula, Row, stop, choice, repeat}
use Rattle.ppd_check_stmts.specs.Table.{root, numbers, stmts}
use Rattle.ppd_check_stmts.specs.Writing.{Wrote, Walked, inside}
use Rattle.ppd_check_stmts.proofs.Rows.Walking.{Held, held, held_loop, held_choice, inner_numbers, wrote_two}
use Rattle.ppd_check_stmts.proofs.Table.Writing.{length_stmts}

-- the test of a statement was added, and then the statement's place was held
pub record Begun (site : Site) (t : Term) (fs : List Fault) (u v w : Writer) (h : Stmt) (n number : ℕ) (row row' : List ℕ) : Type 0 where
  pub test : Added u.exprs t v.exprs number
  pub found : v.found ≡ first_of_both u.found (first fs)
  pub stmts : v.stmts ≡ u.stmts
  pub held_exprs : w.exprs ≡ v.exprs
  pub held_found : w.found ≡ v.found
  pub held_stmts : w.stmts ≡ v.stmts ++ h ∷ []
  pub which : n ≡ length v.stmts
  pub ids : row' ≡ row ++ length v.stmts ∷ []

-- the statement was written to its place
pub record Ended (site : Site) (p : Place) (k : Kind) (n : ℕ) (y z : Writer) : Type 0 where
  pub exprs : z.exprs ≡ y.exprs
  pub found : z.found ≡ y.found
  pub stmts : z.stmts ≡ slice_set y.stmts n (record { place = p; body = site.body; parent = site.parent; kind = k })

pub walked_repeat : (site : Site) (p : Place) (e : Formula) (r : Row) (f g : Frame) (u v w y z : Writer) (h : Stmt) (n number : ℕ) (ids row row' : List ℕ)
    → Begun site (term_of f.scopes e) (formula_faults f.scopes e) u v w h n number row row'
    → Walked (inside site n) r f g w y [] ids
    → Ended site p (K.While number ids) n y z
    → Walked site (repeat p e r stop) f g u z row row'
walked_repeat site p e r f g u v w y z h n number ids row row' s x d =
    let t : Term = term_of f.scopes e in
    let c : Code = row_code r f in
    let fe : List Fault = formula_faults f.scopes e in
    let fr : List Fault = row_faults r f in
    let k : K.While number ids ≡ K.While (root (length u.exprs) t) (numbers (length u.stmts + 1) c) =
    ap (λ (i : ℕ). K.While i ids) s.test.number
    ∙ ap (λ (l : List ℕ). K.While (root (length u.exprs) t) l) (inner_numbers site.body (Some n) u v w h c fr y ids s.stmts s.held_stmts x.wrote) in
    let whole : Held site.body site.parent p (K.While number ids) t c (fe ++ fr) u z =
    held site.body site.parent p (K.While number ids) t c fe fr u v w y z h n ids s.test.table s.found s.stmts s.held_exprs s.held_found s.held_stmts s.which x.wrote d.exprs d.found d.stmts in
    let one : row' ≡ row ++ length u.stmts ∷ [] = s.ids ∙ ap (λ (l : List Stmt). row ++ length l ∷ []) s.stmts in
    record {
      wrote =
          subst (λ (fs : List Fault). Wrote site.body site.parent (C.loop p t c done) (fe ++ fs) u z row row') (sym (append-nil fr))
          (held_loop site.body site.parent p t c (fe ++ fr) u z row row' (subst (λ (j : Kind). Held site.body site.parent p j t c (fe ++ fr) u z) k whole) one);
      frame = x.frame;
    }

pub walked_choice : (site : Site) (p : Place) (e : Formula) (q r : Row) (f g i : Frame) (u v w x y z : Writer) (h : Stmt) (n number : ℕ) (ids ids' row row' : List ℕ)
    → Begun site (term_of f.scopes e) (formula_faults f.scopes e) u v w h n number row row'
    → Walked (inside site n) q f g w x [] ids
    → Walked (inside site n) r g i x y [] ids'
    → Ended site p (K.If number ids ids') n y z
    → Walked site (choice p e q r stop) f i u z row row'
walked_choice site p e q r f g i u v w x y z h n number ids ids' row row' s a b d =
    let t : Term = term_of f.scopes e in
    let m : Frame = after_row q f in
    let c : Code = row_code q f in
    let o : Code = row_code r m in
    let fe : List Fault = formula_faults f.scopes e in
    let fq : List Fault = row_faults q f in
    let fr : List Fault = row_faults r m in
    let second : Wrote site.body (Some n) o fr x y [] ids' = subst (λ (k : Frame). Wrote site.body (Some n) (row_code r k) (row_faults r k) x y [] ids') a.frame b.wrote in
    let both : Wrote site.body (Some n) (join c o) (fq ++ fr) w y [] (ids ++ ids') = wrote_two site.body (Some n) c o fq fr w x y ids ids' a.wrote second in
    let first_long : length w.stmts ≡ length u.stmts + 1 = ap length (s.held_stmts ∙ ap (λ (l : List Stmt). l ++ h ∷ []) s.stmts) ∙ length-append u.stmts (h ∷ []) in
    let long : length x.stmts ≡ length u.stmts + 1 + count c =
    ap length a.wrote.stmts
    ∙ length-append w.stmts (stmts site.body (Some n) (length w.stmts) (length w.exprs) c)
    ∙ ap (λ (j : ℕ). length w.stmts + j) (length_stmts site.body (Some n) (length w.stmts) (length w.exprs) c)
    ∙ ap (λ (j : ℕ). j + count c) first_long in
    let k : K.If number ids ids' ≡ K.If (root (length u.exprs) t) (numbers (length u.stmts + 1) c) (numbers (length u.stmts + 1 + count c) o) =
    ap (λ (j : ℕ). K.If j ids ids') s.test.number
    ∙ ap (λ (l : List ℕ). K.If (root (length u.exprs) t) l ids') (inner_numbers site.body (Some n) u v w h c fq x ids s.stmts s.held_stmts a.wrote)
    ∙ ap (λ (l : List ℕ). K.If (root (length u.exprs) t) (numbers (length u.stmts + 1) c) l) (second.row ∙ ap (λ (j : ℕ). numbers j o) long) in
    let whole : Held site.body site.parent p (K.If number ids ids') t (join c o) (fe ++ (fq ++ fr)) u z =
    held site.body site.parent p (K.If number ids ids') t (join c o) fe (fq ++ fr) u v w y z h n (ids ++ ids') s.test.table s.found s.stmts s.held_exprs s.held_found s.held_stmts s.which both d.exprs d.found d.stmts in
    let one : row' ≡ row ++ length u.stmts ∷ [] = s.ids ∙ ap (λ (l : List Stmt). row ++ length l ∷ []) s.stmts in
    record {
      wrote =
          subst (λ (fs : List Fault). Wrote site.body site.parent (C.choice p t c o done) (fe ++ (fq ++ fs)) u z row row') (sym (append-nil fr))
          (held_choice site.body site.parent p t c o (fe ++ (fq ++ fr)) u z row row' (subst (λ (j : Kind). Held site.body site.parent p j t (join c o) (fe ++ (fq ++ fr)) u z) k whole) one);
      frame = b.frame ∙ ap (after_row r) a.frame;
    }
