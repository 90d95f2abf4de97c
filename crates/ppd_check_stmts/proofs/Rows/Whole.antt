-- The walk of statements, function by function.
use Rattle.std.proofs.Common.{◌≡◌, refl, sym, ap, subst, ◌∙◌, ℕ, ◌≤◌, List, [], take, drop, length, Option, Some, slice_index_or, pos}
use Rattle.std.proofs.lemmas.List.{take_all}
use Rattle.ppd_ast.specs.declared.program.Kind.TheVariants as K
use Rattle.ppd_ast.specs.declared.program.Place.{Place}
use Rattle.ppd_ast.specs.declared.program.Stmt.{Stmt}
use Rattle.ppd_ast.specs.Term.{Term}
use Rattle.ppd_parse.specs.declared.node.Node.{Node}
use Rattle.ppd_parse.specs.declared.token.Kind.TheVariants as M
use Rattle.ppd_parse.specs.declared.symbol.Rule.{Rule}
use Rattle.ppd_parse.specs.declared.symbol.Rule.TheVariants as R
use Rattle.ppd_check_names.specs.declared.fault.Fault.{Fault}
use Rattle.ppd_check_names.specs.declared.frame.Frame.{Frame}
use Rattle.ppd_check_names.specs.declared.writer.Writer.{Writer}
use Rattle.ppd_check_names.specs.declared.writer.Site.{Site}
use Rattle.ppd_check_stmts.specs.Expressions.{term_of, formula_faults}
use Rattle.ppd_check_names.specs.Nodes.{phrase_of, phrases_of, phrases_below, children_of, SaysBy}
use Rattle.ppd_check_names.specs.Reading.{Phrase, as_row, before, beyond, for_row, for_start, formula_at, formulas, kind, last, locals, phrase, place_at, rows, some_change, statement, worded}
use Rattle.ppd_check_stmts.specs.Code.{Code}
use Rattle.ppd_check_stmts.specs.Plain.{row_any, plain_statement}
use Rattle.ppd_check_stmts.specs.Statements.{opened, code_of_any, faults_of_any}
use Rattle.ppd_check_names.specs.Syntax.{Simple, Formula, Row, stop, choice, repeat, count, number as constant}
use Rattle.ppd_check_stmts.specs.Writing.{Began, Walked, Wrote, inside}
use Rattle.ppd_check_stmts.proofs.Rows.Declaring.{walked_none}
use Rattle.ppd_check_stmts.proofs.Rows.Inside.{Begun, Ended, walked_choice, walked_repeat}
use Rattle.ppd_check_stmts.proofs.Rows.Steps.{walked_count}
use Rattle.ppd_check_stmts.proofs.Rows.Worded.{named_statement}

-- all children of a node
pub walked_below : (site : Site) (ns : List Node) (i k : ℕ) (cs : List ℕ) (f g : Frame) (u v : Writer) (a b : List ℕ) → cs ≡ children_of ns i → length cs ≤ k
    → Walked site (rows (phrases_of ns (take k cs))) f g u v a b → Walked site (rows (phrases_below ns i)) f g u v a b
unfolding phrases_below
walked_below site ns i k cs f g u v a b e h x = subst (λ (l : List ℕ). Walked site (rows (phrases_of ns l)) f g u v a b) (take_all k cs h ∙ e) x

-- a row that is another one
pub walked_as : (site : Site) (r q : Row) (f g : Frame) (u v : Writer) (a b : List ℕ) → r ≡ q → Walked site r f g u v a b → Walked site q f g u v a b
walked_as site r q f g u v a b e x = subst (λ (s : Row). Walked site s f g u v a b) e x

-- nothing, where a row is none
pub walked_stop : (site : Site) (r : Row) (f : Frame) (u : Writer) (a : List ℕ) → r ≡ stop → Walked site r f f u u a a
walked_stop site r f u a e = walked_as site stop r f f u u a a (sym e) (walked_none site f u a)

-- a row of its own
pub walked_alone : (site : Site) (r : Row) (f g : Frame) (u v : Writer) (a b : List ℕ) → a ≡ [] → Walked site r f g u v a b → Walked site r f g u v [] b
walked_alone site r f g u v a b e x = subst (λ (l : List ℕ). Walked site r f g u v l b) e x

-- a row's numbers under another name
pub with_row : (site : Site) (r : Row) (f g : Frame) (u v : Writer) (ids a b : List ℕ) → b ≡ a → Walked site r f g u v ids a → Walked site r f g u v ids b
with_row site r f g u v ids a b e x = subst (λ (l : List ℕ). Walked site r f g u v ids l) (sym e) x

pub wrote_row : (body : ℕ) (parent : Option ℕ) (code : Code) (faults : List Fault) (u v : Writer) (ids a b : List ℕ) → b ≡ a → Wrote body parent code faults u v ids a → Wrote body parent code faults u v ids b
wrote_row body parent code faults u v ids a b e x = subst (λ (l : List ℕ). Wrote body parent code faults u v ids l) (sym e) x

-- the place that is held
abbrev held_at : Site → Place → Stmt
held_at site p = record { place = p; body = site.body; parent = site.parent; kind = K.End }

-- the writer after the test and before the held place
abbrev tested : Writer → Writer → Writer
tested u w = record w { stmts = u.stmts }

begun_of : (site : Site) (p : Place) (t : Term) (fs : List Fault) (u w : Writer) (n number : ℕ) (row row' : List ℕ) → Began site p t fs u w n number row row'
    → Begun site t fs u (tested u w) w (held_at site p) n number row row'
begun_of site p t fs u w n number row row' b = record {
  test = b.test;
  found = b.found;
  stmts = refl;
  held_exprs = refl;
  held_found = refl;
  held_stmts = b.stmts;
  which = b.which;
  ids = b.row;
}

pub if_walked : (site : Site) (p p' : Place) (e e' : Formula) (q r : Row) (f g i : Frame) (u w x y z : Writer) (n number : ℕ) (ids ids' row row' : List ℕ)
    → p' ≡ p → e' ≡ e
    → Began site p' (term_of f.scopes e') (formula_faults f.scopes e') u w n number row row'
    → Walked (inside site n) q f g w x [] ids
    → Walked (inside site n) r g i x y [] ids'
    → Ended site p' (K.If number ids ids') n y z
    → Walked site (choice p e q r stop) f i u z row row'
if_walked site p p' e e' q r f g i u w x y z n number ids ids' row row' hp he b first second ended =
    walked_as site (choice p' e' q r stop) (choice p e q r stop) f i u z row row' (ap (λ (o : Place). choice o e' q r stop) hp ∙ ap (λ (d : Formula). choice p d q r stop) he)
    (walked_choice site p' e' q r f g i u (tested u w) w x y z (held_at site p') n number ids ids' row row' (begun_of site p' (term_of f.scopes e') (formula_faults f.scopes e') u w n number row row' b) first second ended)

pub while_walked : (site : Site) (p p' : Place) (e e' : Formula) (r : Row) (f g : Frame) (u w y z : Writer) (n number : ℕ) (ids row row' : List ℕ)
    → p' ≡ p → e' ≡ e
    → Began site p' (term_of f.scopes e') (formula_faults f.scopes e') u w n number row row'
    → Walked (inside site n) r f g w y [] ids
    → Ended site p' (K.While number ids) n y z
    → Walked site (repeat p e r stop) f g u z row row'
while_walked site p p' e e' r f g u w y z n number ids row row' hp he b turn ended =
    walked_as site (repeat p' e' r stop) (repeat p e r stop) f g u z row row' (ap (λ (o : Place). repeat o e' r stop) hp ∙ ap (λ (d : Formula). repeat p d r stop) he)
    (walked_repeat site p' e' r f g u (tested u w) w y z (held_at site p') n number ids row row' (begun_of site p' (term_of f.scopes e') (formula_faults f.scopes e') u w n number row row' b) turn ended)

pub for_walked : (site : Site) (ps : List Phrase) (p : Place) (e : Formula) (q : Phrase) (f o g k m h : Frame) (u v x y z a : Writer) (n number : ℕ) (ids ids' row row' row'' : List ℕ)
    → p ≡ place_at ps 0 → e ≡ slice_index_or (formulas (before (beyond (drop 2 ps)))) 0 (constant (pos 1)) → q ≡ last ps
    → o ≡ opened f
    → Walked site (row_any (for_start (before (drop 2 ps)))) o g u v row row'
    → Began site p (term_of g.scopes e) (formula_faults g.scopes e) v x n number row' row''
    → Walked (inside site n) (as_row q) g k x y [] ids
    → Wrote site.body (Some n) (code_of_any (some_change (phrase (beyond (beyond (drop 2 ps))) 0)) k) (faults_of_any (some_change (phrase (beyond (beyond (drop 2 ps))) 0)) k) y z ids ids'
    → record m { scopes = drop 1 m.scopes } ≡ record k { scopes = drop 1 k.scopes }
    → Ended site p (K.While number ids') n z a
    → h ≡ record m { scopes = drop 1 m.scopes }
    → Walked site (for_row ps) f h u a row row''
for_walked site ps p e q f o g k m h u v x y z a n number ids ids' row row' row'' hp he hq op start b turn step same ended close =
    let i : Option Simple = for_start (before (drop 2 ps)) in
    let t : Option Simple = some_change (phrase (beyond (beyond (drop 2 ps))) 0) in
    let d : Formula = slice_index_or (formulas (before (beyond (drop 2 ps)))) 0 (constant (pos 1)) in
    walked_as site (count p i e t (as_row q) stop) (for_row ps) f h u a row row''
    (ap (λ (j : Place). count j i e t (as_row q) stop) hp ∙ ap (λ (c : Formula). count (place_at ps 0) i c t (as_row q) stop) he ∙ ap (λ (r : Phrase). count (place_at ps 0) i d t (as_row r) stop) hq)
    (walked_count site p i t e (as_row q) f o g k m h u v (tested v x) x y z a (held_at site p) n number ids ids' row row' row'' op start
    (begun_of site p (term_of g.scopes e) (formula_faults g.scopes e) v x n number row' row'' b) turn step same ended close)

-- The statement of a node by its first child, and by its word.

pub worded_if : (ps : List Phrase) → kind (phrase ps 0) ≡ M.IfWord → choice (place_at ps 0) (formula_at ps 2) (as_row (phrase ps 4)) (as_row (phrase ps 6)) stop ≡ worded ps
worded_if ps h = sym (rw (h))

pub worded_while : (ps : List Phrase) → kind (phrase ps 0) ≡ M.WhileWord → repeat (place_at ps 0) (formula_at ps 2) (as_row (phrase ps 4)) stop ≡ worded ps
worded_while ps h = sym (rw (h))

pub worded_for : (ps : List Phrase) → kind (phrase ps 0) ≡ M.ForWord → for_row ps ≡ worded ps
worded_for ps h = sym (rw (h))

pub statement_named : (r : Rule) (qs : List Phrase) (p q : Phrase) (ps : List Phrase) → p ≡ q → (r ≡ R.Leaf → ⊥) → (r ≡ R.Block → ⊥) → SaysBy r qs q → plain_statement p ps ≡ statement p ps
statement_named r qs p q ps h a b e =
    ap (λ (x : Phrase). plain_statement x ps) h ∙ sym (named_statement r qs q ps a b e) ∙ sym (ap (λ (x : Phrase). statement x ps) h)

pub row_locals : (ns : List Node) (i : ℕ) → SaysBy R.Local (phrases_below ns i) (phrase_of ns i) → locals (phrases_of ns (children_of ns i)) ≡ as_row (phrase_of ns i)
unfolding phrases_below
row_locals ns i e = sym (ap as_row e)
