-- The rows of blocks, and the scopes round them.
use Rattle.std.proofs.Common.{◌≡◌, refl, sym, ap, subst, ◌∙◌, ℕ, ◌+◌, ◌<◌, Bool, true, false, List, [], ◌∷◌, ◌++◌, take, drop, length, get_or, None, Some}
use Rattle.std.proofs.lemmas.List.{append-nil}
use Rattle.ppd_ast.specs.declared.program.Place.{Place}
use Rattle.ppd_parse.specs.declared.node.Node.{Node}
use Rattle.ppd_check_names.specs.declared.frame.Frame.{Frame}
use Rattle.ppd_check_names.specs.declared.writer.Writer.{Writer}
use Rattle.ppd_check_names.specs.declared.writer.Site.{Site}
use Rattle.ppd_check_stmts.specs.Code.{Code, done, act, choice as choose, loop, join}
use Rattle.ppd_check_names.specs.Names.{Scope, in_innermost}
use Rattle.ppd_check_names.specs.Nodes.{phrase_of, phrases_of}
use Rattle.ppd_check_names.specs.Reading.{Phrase, as_row, rows, followed}
use Rattle.ppd_check_stmts.specs.Statements.{after, after_row, opened, with_scopes_of, row_code, row_faults}
use Rattle.ppd_check_stmts.proofs.Vocabulary.{after_any, hidden_if}
use Rattle.ppd_check_names.specs.Syntax.{plain, Simple, fresh, array, store, change, call, give_back, take as take_sem, give, send, print, assert, Row, stop, simple, block, choice, repeat, count}
use Rattle.ppd_check_stmts.specs.Writing.{Wrote, Walked}
use Rattle.ppd_check_stmts.proofs.Rows.Declaring.{walked_followed, phrases_more}

pub followed_stop : (r : Row) → followed r stop ≡ r
followed_stop stop = refl
followed_stop (simple s r) = ap (simple s) (followed_stop r)
followed_stop (block b r) = ap (block b) (followed_stop r)
followed_stop (choice p e a b r) = ap (choice p e a b) (followed_stop r)
followed_stop (repeat p e b r) = ap (repeat p e b) (followed_stop r)
followed_stop (count p i e t b r) = ap (count p i e t b) (followed_stop r)

followed_assoc : (q r s : Row) → followed (followed q r) s ≡ followed q (followed r s)
followed_assoc stop r s = refl
followed_assoc (simple x q) r s = ap (simple x) (followed_assoc q r s)
followed_assoc (block b q) r s = ap (block b) (followed_assoc q r s)
followed_assoc (choice p e a b q) r s = ap (choice p e a b) (followed_assoc q r s)
followed_assoc (repeat p e b q) r s = ap (repeat p e b) (followed_assoc q r s)
followed_assoc (count p i e t b q) r s = ap (count p i e t b) (followed_assoc q r s)

pub rows_append : (ps qs : List Phrase) → rows (ps ++ qs) ≡ followed (rows ps) (rows qs)
rows_append [] qs = refl
rows_append (p ∷ ps) qs = ap (followed (as_row p)) (rows_append ps qs) ∙ sym (followed_assoc (as_row p) (rows ps) (rows qs))

pub join_done : (c : Code) → join c done ≡ c
join_done done = refl
join_done (act p x c) = ap (act p x) (join_done c)
join_done (choose p e x y c) = ap (choose p e x y) (join_done c)
join_done (loop p e x c) = ap (loop p e x) (join_done c)

-- one child more of a block
pub rows_more : (site : Site) (ns : List Node) (cs : List ℕ) (i c : ℕ) (f g h : Frame) (u v w : Writer) (a b d : List ℕ) → i < length cs → c ≡ get_or cs i c
    → Walked site (rows (phrases_of ns (take i cs))) f g u v a b
    → Walked site (as_row (phrase_of ns c)) g h v w b d
    → Walked site (rows (phrases_of ns (take (i + 1) cs))) f h u w a d
rows_more site ns cs i c f g h u v w a b d l is x y =
    let ps : List Phrase = phrases_of ns (take i cs) in
    let q : Row = as_row (phrase_of ns c) in
    subst (λ r. Walked site r f h u w a d)
    (ap (followed (rows ps)) (sym (followed_stop q)) ∙ sym (rows_append ps (phrase_of ns c ∷ [])) ∙ ap rows (phrases_more ns cs i c l is))
    (walked_followed site (rows ps) q f g h u v w a b d x y)

-- A row changes the innermost scope alone.

pub outer_declared : (d : Scope → Scope) (s : List Scope) → drop 1 (in_innermost d s) ≡ drop 1 s
outer_declared d [] = refl
outer_declared d (x ∷ s) = refl

outer_hidden : (b : Bool) (p : Place) (f : Frame) → drop 1 (hidden_if b p f).scopes ≡ drop 1 f.scopes
outer_hidden true p f = refl
outer_hidden false p f = refl

outer_after : (s : Simple) (f : Frame) → drop 1 (after s f).scopes ≡ drop 1 f.scopes
outer_after (fresh x v) f = outer_declared _ f.scopes
outer_after (array x n) f = outer_declared _ f.scopes
outer_after (store g v) f = outer_hidden _ _ f
outer_after (give_back p None) f = refl
outer_after (give_back p (Some (plain e))) f = refl
outer_after (give_back p (Some v)) f = refl
outer_after (change g o e) f = refl
outer_after (call g args) f = refl
outer_after (take_sem p x) f = refl
outer_after (give p x) f = refl
outer_after (send p x e) f = refl
outer_after (print p e) f = refl
outer_after (assert p e) f = refl

pub outer_row : (r : Row) (f : Frame) → drop 1 (after_row r f).scopes ≡ drop 1 f.scopes
outer_row stop f = refl
outer_row (simple s r) f = outer_row r (after s f) ∙ outer_after s f
outer_row (block b r) f = outer_row r (with_scopes_of f (after_row b (opened f)))
outer_row (choice p e a b r) f = outer_row r (after_row b (after_row a f)) ∙ outer_row b (after_row a f) ∙ outer_row a f
outer_row (repeat p e b r) f = outer_row r (after_row b f) ∙ outer_row b f
outer_row (count p i e t b r) f = outer_row r (with_scopes_of f (after_row b (after_any i (opened f))))

-- a block leaves the scopes as they were
pub block_closed : (r : Row) (f g h : Frame) → g ≡ after_row r (opened f) → h ≡ record g { scopes = drop 1 g.scopes } → h ≡ after_row (block r stop) f
block_closed r f g h e d =
    let n : Frame = after_row r (opened f) in
    let inner : record g { scopes = drop 1 g.scopes } ≡ record n { scopes = drop 1 n.scopes } = ap (λ (k : Frame). record k { scopes = drop 1 k.scopes }) e in
    let outer : record n { scopes = drop 1 n.scopes } ≡ with_scopes_of f n = ap (λ (s : List Scope). record n { scopes = s }) (outer_row r (opened f)) in
    d ∙ inner ∙ outer

pub walked_block : (site : Site) (r : Row) (f o g h : Frame) (u v : Writer) (a b : List ℕ) → o ≡ opened f → Walked site r o g u v a b → h ≡ record g { scopes = drop 1 g.scopes }
    → Walked site (block r stop) f h u v a b
walked_block site r f o g h u v a b e x d =
    let y : Walked site r (opened f) g u v a b = subst (λ k. Walked site r k g u v a b) e x in
    record {
      wrote =
          subst (λ c. Wrote site.body site.parent c (row_faults (block r stop) f) u v a b) (sym (join_done (row_code r (opened f))))
          (subst (λ fs. Wrote site.body site.parent (row_code r (opened f)) fs u v a b) (sym (append-nil (row_faults r (opened f)))) y.wrote);
      frame = block_closed r f g h y.frame d;
    }
