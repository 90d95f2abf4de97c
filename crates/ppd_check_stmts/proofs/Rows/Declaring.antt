-- The variables of a declaration, one after another.
use Rattle.std.proofs.Common.{◌≡◌, refl, sym, ap, subst, ◌∙◌, ℕ, ◌+◌, ◌<◌, List, [], ◌∷◌, ◌++◌, take, length, get_or}
use Rattle.std.proofs.lemmas.List.{take_more, map-append}
use Rattle.ppd_parse.specs.declared.node.Node.{Node}
use Rattle.ppd_parse.specs.declared.symbol.Rule.{Rule}
use Rattle.ppd_parse.specs.declared.symbol.Rule.TheVariants as R
use Rattle.ppd_check_names.specs.declared.frame.Frame.{Frame}
use Rattle.ppd_check_names.specs.declared.writer.Writer.{Writer}
use Rattle.ppd_check_names.specs.declared.writer.Site.{Site}
use Rattle.ppd_check_names.specs.Nodes.{phrase_of, phrases_of, SaysBy}
use Rattle.ppd_check_stmts.specs.Plain.{row_any}
use Rattle.ppd_check_names.specs.Reading.{Phrase, token, formula, goal, value, calling, changing, row, body, names, items, nowhere, locals, some_change, followed}
use Rattle.ppd_check_stmts.specs.Statements.{after_row, row_code, row_faults}
use Rattle.ppd_check_names.specs.Syntax.{Row, stop, simple}
use Rattle.ppd_check_stmts.specs.Writing.{Wrote, WroteRow, Walked}
use Rattle.ppd_check_stmts.proofs.Rows.Walking.{row_wrote, wrote_followed, after_followed}
use Rattle.ppd_check_stmts.proofs.Table.Writing.{wrote_nothing}

-- what declares nothing
pub locals_other : (r : Rule) (ps : List Phrase) (p : Phrase) → (r ≡ R.Litem → ⊥) → (r ≡ R.Change → ⊥) → SaysBy r ps p → locals (p ∷ []) ≡ stop
locals_other R.Litem ps p h i e = absurd (h refl)
locals_other R.Change ps p h i e = absurd (i refl)
locals_other R.Leaf ps p h i e = ap (λ q. locals (q ∷ [])) e.1
locals_other r ps p h i e = ap (λ q. locals (q ∷ [])) e

pub locals_append : (ps qs : List Phrase) → locals (ps ++ qs) ≡ followed (locals ps) (locals qs)
locals_append [] qs = refl
locals_append (token t ∷ ps) qs = locals_append ps qs
locals_append (formula f ∷ ps) qs = locals_append ps qs
locals_append (goal g ∷ ps) qs = locals_append ps qs
locals_append (value v ∷ ps) qs = locals_append ps qs
locals_append (calling f args ∷ ps) qs = locals_append ps qs
locals_append (changing s ∷ ps) qs = ap (simple s) (locals_append ps qs)
locals_append (row r ∷ ps) qs = locals_append ps qs
locals_append (body b ∷ ps) qs = locals_append ps qs
locals_append (names xs ∷ ps) qs = locals_append ps qs
locals_append (items is ∷ ps) qs = locals_append ps qs

pub walked_followed : (site : Site) (r q : Row) (f g h : Frame) (u v w : Writer) (a b c : List ℕ)
    → Walked site r f g u v a b → Walked site q g h v w b c → Walked site (followed r q) f h u w a c
walked_followed site r q f g h u v w a b c x y = record {
  wrote = wrote_followed site r q f u v w a b c x.wrote (subst (λ k. Wrote site.body site.parent (row_code q k) (row_faults q k) v w b c) x.frame y.wrote);
  frame = y.frame ∙ ap (after_row q) x.frame ∙ sym (after_followed r q f);
}

pub walked_none : (site : Site) (f : Frame) (u : Writer) (a : List ℕ) → Walked site stop f f u u a a
walked_none site f u a = record { wrote = wrote_nothing site.body site.parent u a; frame = refl }

pub phrases_more : (ns : List Node) (cs : List ℕ) (i c : ℕ) → i < length cs → c ≡ get_or cs i c → phrases_of ns (take i cs) ++ phrase_of ns c ∷ [] ≡ phrases_of ns (take (i + 1) cs)
phrases_more ns cs i c h is =
    sym (map-append (phrase_of ns) (take i cs) (c ∷ []))
    ∙ ap (phrases_of ns) (ap (λ d. take i cs ++ d ∷ []) is ∙ sym (take_more cs i c h))

-- one child more of a declaration
pub locals_more : (site : Site) (ns : List Node) (cs : List ℕ) (i c : ℕ) (f g h : Frame) (u v w : Writer) (a b d : List ℕ) → i < length cs → c ≡ get_or cs i c
    → Walked site (locals (phrases_of ns (take i cs))) f g u v a b
    → WroteRow site (locals (phrase_of ns c ∷ [])) g v w b d → h ≡ after_row (locals (phrase_of ns c ∷ [])) g
    → Walked site (locals (phrases_of ns (take (i + 1) cs))) f h u w a d
locals_more site ns cs i c f g h u v w a b d l is x y z =
    let ps : List Phrase = phrases_of ns (take i cs) in
    let q : Row = locals (phrase_of ns c ∷ []) in
    subst (λ r. Walked site r f h u w a d) (sym (locals_append ps (phrase_of ns c ∷ [])) ∙ ap locals (phrases_more ns cs i c l is))
    (walked_followed site (locals ps) q f g h u v w a b d x (record { wrote = row_wrote site q g v w b d y; frame = z }))

-- what a phrase changes or declares
pub changing_row : (p : Phrase) → locals (p ∷ []) ≡ row_any (some_change p)
changing_row (token t) = refl
changing_row (formula f) = refl
changing_row (goal g) = refl
changing_row (value v) = refl
changing_row (calling f args) = refl
changing_row (changing s) = refl
changing_row (row r) = refl
changing_row (body b) = refl
changing_row (names xs) = refl
changing_row (items is) = refl

pub walked_changing : (site : Site) (p q : Phrase) (f g : Frame) (u v : Writer) (a b : List ℕ) → p ≡ q
    → WroteRow site (locals (q ∷ [])) f u v a b → g ≡ after_row (locals (q ∷ [])) f → Walked site (row_any (some_change p)) f g u v a b
walked_changing site p q f g u v a b h w e =
    subst (λ (r : Row). Walked site r f g u v a b) (changing_row q ∙ ap (λ (x : Phrase). row_any (some_change x)) (sym h)) (record { wrote = row_wrote site (locals (q ∷ [])) f u v a b w; frame = e })

pub walked_unchanged : (site : Site) (p : Phrase) (f : Frame) (u : Writer) (a : List ℕ) → p ≡ token nowhere → Walked site (row_any (some_change p)) f f u u a a
walked_unchanged site p f u a h =
    subst (λ (x : Phrase). Walked site (row_any (some_change x)) f f u u a a) (sym h) (walked_none site f u a)
