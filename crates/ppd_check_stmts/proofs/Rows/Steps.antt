-- The rows of statements by their nodes, and a `for` from its parts.
use Rattle.std.proofs.Common.{◌≡◌, refl, sym, ap, subst, ◌∙◌, ℕ, List, [], ◌++◌, drop, Option, Some, None}
use Rattle.std.proofs.lemmas.List.{append-nil}
use Rattle.ppd_ast.specs.declared.program.Kind.TheVariants as K
use Rattle.ppd_ast.specs.declared.program.Stmt.{Stmt}
use Rattle.ppd_ast.specs.declared.program.Place.{Place}
use Rattle.ppd_check_names.specs.declared.fault.Fault.{Fault}
use Rattle.ppd_check_names.specs.declared.frame.Frame.{Frame}
use Rattle.ppd_check_names.specs.declared.writer.Writer.{Writer}
use Rattle.ppd_check_names.specs.declared.writer.Site.{Site}
use Rattle.ppd_check_stmts.specs.Code.{Code, done, join, loop}
use Rattle.ppd_check_stmts.specs.Expressions.{term_of, formula_faults}
use Rattle.ppd_check_stmts.specs.Plain.{row_any}
use Rattle.ppd_check_names.specs.Reading.{followed}
use Rattle.ppd_check_stmts.specs.Statements.{after, after_row, code_of, faults_of, row_code, row_faults, opened, with_scopes_of, code_of_any, faults_of_any}
use Rattle.ppd_check_stmts.proofs.Vocabulary.{after_any}
use Rattle.ppd_check_names.specs.Syntax.{Simple, Formula, Row, stop, repeat, count}
use Rattle.ppd_check_stmts.specs.Writing.{Wrote, WroteRow, Walked, inside}
use Rattle.ppd_check_stmts.proofs.Rows.Inside.{Begun, Ended, walked_repeat}
use Rattle.ppd_check_stmts.proofs.Rows.Nested.{join_done, block_closed}
use Rattle.ppd_check_stmts.proofs.Rows.Walking.{row_wrote, code_followed, faults_followed, after_followed, wrote_followed}

-- a row of one statement, with the frame after it
pub row_walked : (site : Site) (r : Row) (f g : Frame) (u v : Writer) (a b : List ℕ) → WroteRow site r f u v a b → g ≡ after_row r f → Walked site r f g u v a b
row_walked site r f g u v a b w e = record { wrote = row_wrote site r f u v a b w; frame = e }

code_any : (o : Option Simple) (f : Frame) → row_code (row_any o) f ≡ code_of_any o f
code_any None f = refl
code_any (Some s) f = join_done (code_of s f)

faults_any : (o : Option Simple) (f : Frame) → row_faults (row_any o) f ≡ faults_of_any o f
faults_any None f = refl
faults_any (Some s) f = append-nil (faults_of s f)

turn_code : (t : Option Simple) (b : Row) (g : Frame) → row_code (followed b (row_any t)) g ≡ join (row_code b g) (code_of_any t (after_row b g))
turn_code t b g = code_followed b (row_any t) g ∙ ap (join (row_code b g)) (code_any t (after_row b g))

turn_faults : (t : Option Simple) (b : Row) (g : Frame) → row_faults (followed b (row_any t)) g ≡ row_faults b g ++ faults_of_any t (after_row b g)
turn_faults t b g = faults_followed b (row_any t) g ∙ ap (λ l. row_faults b g ++ l) (faults_any t (after_row b g))

count_code : (p : Place) (i t : Option Simple) (e : Formula) (b : Row) (f : Frame)
    → row_code (followed (row_any i) (repeat p e (followed b (row_any t)) stop)) (opened f) ≡ row_code (count p i e t b stop) f
count_code p None t e b f = ap (λ c. loop p (term_of (opened f).scopes e) c done) (turn_code t b (opened f))
count_code p (Some s) t e b f =
    ap (λ c. join (code_of s (opened f)) (loop p (term_of (after s (opened f)).scopes e) c done)) (turn_code t b (after s (opened f)))

loop_faults : (t : Option Simple) (e : Formula) (b : Row) (g : Frame)
    → formula_faults g.scopes e ++ (row_faults (followed b (row_any t)) g ++ []) ≡ formula_faults g.scopes e ++ (row_faults b g ++ (faults_of_any t (after_row b g) ++ []))
loop_faults t e b g =
    ap (λ l. formula_faults g.scopes e ++ l)
    (append-nil (row_faults (followed b (row_any t)) g) ∙ turn_faults t b g ∙ ap (λ l. row_faults b g ++ l) (sym (append-nil (faults_of_any t (after_row b g)))))

count_faults : (p : Place) (i t : Option Simple) (e : Formula) (b : Row) (f : Frame)
    → row_faults (followed (row_any i) (repeat p e (followed b (row_any t)) stop)) (opened f) ≡ row_faults (count p i e t b stop) f
count_faults p None t e b f = loop_faults t e b (opened f)
count_faults p (Some s) t e b f = ap (λ l. faults_of s (opened f) ++ l) (loop_faults t e b (after s (opened f)))

after_start : (i : Option Simple) (b : Row) (f : Frame) → after_row (followed (row_any i) b) f ≡ after_row b (after_any i f)
after_start None b f = refl
after_start (Some s) b f = refl

-- a `for`, as it is written: a scope, what comes first, the test, the held place, the turn, what comes after it, the statement
pub walked_count : (site : Site) (p : Place) (i t : Option Simple) (e : Formula) (b : Row) (f o g k m h : Frame) (u v w x y z a : Writer) (hs : Stmt) (n number : ℕ) (ids ids' row row' row'' : List ℕ)
    → o ≡ opened f
    → Walked site (row_any i) o g u v row row'
    → Begun site (term_of g.scopes e) (formula_faults g.scopes e) v w x hs n number row' row''
    → Walked (inside site n) b g k x y [] ids
    → Wrote site.body (Some n) (code_of_any t k) (faults_of_any t k) y z ids ids'
    → record m { scopes = drop 1 m.scopes } ≡ record k { scopes = drop 1 k.scopes }
    → Ended site p (K.While number ids') n z a
    → h ≡ record m { scopes = drop 1 m.scopes }
    → Walked site (count p i e t b stop) f h u a row row''
walked_count site p i t e b f o g k m h u v w x y z a hs n number ids ids' row row' row'' op start begun turn step same ended close =
    let q : Row = followed b (row_any t) in
    let r : Row = repeat p e q stop in
    let d : Wrote site.body (Some n) (row_code (row_any t) k) (row_faults (row_any t) k) y z ids ids' =
    subst (λ (c : Code). Wrote site.body (Some n) c (row_faults (row_any t) k) y z ids ids') (sym (code_any t k))
    (subst (λ (fs : List Fault). Wrote site.body (Some n) (code_of_any t k) fs y z ids ids') (sym (faults_any t k)) step) in
    let j : Wrote site.body (Some n) (row_code (row_any t) (after_row b g)) (row_faults (row_any t) (after_row b g)) y z ids ids' =
    subst (λ (l : Frame). Wrote site.body (Some n) (row_code (row_any t) l) (row_faults (row_any t) l) y z ids ids') turn.frame d in
    let whole : Walked (inside site n) q g (after_row q g) x z [] ids' = record { wrote = wrote_followed (inside site n) b (row_any t) g x y z [] ids ids' turn.wrote j; frame = refl } in
    let looped : Walked site r g (after_row q g) v a row' row'' = walked_repeat site p e q g (after_row q g) v w x z a hs n number ids' row' row'' begun whole ended in
    let both : Wrote site.body site.parent (row_code (followed (row_any i) r) o) (row_faults (followed (row_any i) r) o) u a row row'' =
    wrote_followed site (row_any i) r o u v a row row' row'' start.wrote
    (subst (λ (l : Frame). Wrote site.body site.parent (row_code r l) (row_faults r l) v a row' row'') start.frame looped.wrote) in
    let inner : Wrote site.body site.parent (row_code (followed (row_any i) r) (opened f)) (row_faults (followed (row_any i) r) (opened f)) u a row row'' =
    subst (λ (l : Frame). Wrote site.body site.parent (row_code (followed (row_any i) r) l) (row_faults (followed (row_any i) r) l) u a row row'') op both in
    let reached : k ≡ after_row (followed (row_any i) b) (opened f) =
    turn.frame ∙ ap (after_row b) start.frame ∙ sym (after_followed (row_any i) b o) ∙ ap (after_row (followed (row_any i) b)) op in
    record {
      wrote =
          subst (λ (c : Code). Wrote site.body site.parent c (row_faults (count p i e t b stop) f) u a row row'') (count_code p i t e b f)
          (subst (λ (fs : List Fault). Wrote site.body site.parent (row_code (followed (row_any i) r) (opened f)) fs u a row row'') (count_faults p i t e b f) inner);
      frame = block_closed (followed (row_any i) b) f k h reached (close ∙ same) ∙ ap (with_scopes_of f) (after_start i b (opened f));
    }
