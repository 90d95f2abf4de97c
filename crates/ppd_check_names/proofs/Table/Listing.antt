-- The items of a node, child after child.
use Rattle.std.proofs.Common.{◌≡◌, refl, sym, ap, subst, ◌∙◌, ℕ, zero, suc, ◌+◌, ◌<◌, ◌||◌, arith, ℤ, pos, neg_ℤ, Bool, true, false, if◌then◌else◌, List, [], ◌∷◌, ◌++◌, length, Option}
use Rattle.ppd_ast.specs.declared.program.Place.{Place}
use Rattle.ppd_parse.specs.declared.node.Node.{Node}
use Rattle.ppd_parse.specs.declared.token.Kind.{Kind}
use Rattle.ppd_parse.specs.declared.token.Kind.TheVariants as K
use Rattle.ppd_check_names.specs.declared.fault.Fault.{Fault}
use Rattle.ppd_check_names.specs.declared.globals.Globals.{Globals}
use Rattle.ppd_check_names.specs.declared.nodes.Number.{Number}
use Rattle.ppd_check_names.specs.Syntax.{Name, Item, shared, shared_array}
use Rattle.ppd_check_names.specs.Reading.{Phrase, phrase, kind, same_kind, as_token, name_of, name_at, number_at, value_of, number_behind, numbered, shared_item}
use Rattle.std.proofs.lemmas.List.{length-map}
use Rattle.std.proofs.lemmas.Bool.{true≢false}
use Rattle.ppd_check_names.specs.Nodes.{phrase_of, phrases_below, children_of}
use Rattle.ppd_check_names.specs.Items.{number_after, numbered_at}
use Rattle.ppd_check_names.specs.Holding.{Declares, start_said}
use Rattle.ppd_check_names.proofs.Declared.Declarations.{declares_both}

-- A shared variable that is no array.

bracket_other : (k : Kind) → (k ≡ K.LeftBracket → ⊥) → same_kind K.LeftBracket k ≡ false
bracket_other K.LeftBracket h = absurd (h refl)
bracket_other k h = refl

pub shared_scalar : (ps : List Phrase) (k : Kind) (x : Name) (v : ℤ) → (k ≡ K.LeftBracket → ⊥) → k ≡ kind (phrase ps 1) → x ≡ name_at ps 0 → v ≡ start_said ps
    → shared x v ≡ shared_item ps
shared_scalar ps k x v other is a b =
    ap (λ y. shared y v) a
    ∙ ap (λ n. shared (name_at ps 0) n) b
    ∙ go (same_kind K.LeftBracket (kind (phrase ps 1))) (same_kind K.MinusMark (kind (phrase ps 2))) (ap (same_kind K.LeftBracket) (sym is) ∙ bracket_other k other)
  where
    go : (b c : Bool) → b ≡ false
        → shared (name_at ps 0) (if c then neg_ℤ (pos (number_at ps 3).value) else value_of (as_token (phrase ps 2)).kind)
        ≡ (if b then shared_array (name_at ps 0) (number_at ps 2) else if c then shared (name_at ps 0) (neg_ℤ (pos (number_at ps 3).value)) else shared (name_at ps 0) (value_of (as_token (phrase ps 2)).kind))
    go false true e = refl
    go false false e = refl
    go true c e = absurd (true≢false e)

-- Names with numbers behind them.

-- the items of the first n children
abbrev pub first_numbered : (Name → Number → Item) → ℕ → List Phrase → List Item
first_numbered make zero ps = []
first_numbered make (suc n) [] = []
first_numbered make (suc n) (p ∷ ps) =
    if same_kind K.Name (kind p) then make (name_of (as_token p)) (number_behind (name_of (as_token p)) ps) ∷ first_numbered make n ps
    else first_numbered make n ps

cons_more : (i : Item) (l m r : List Item) → m ≡ l ++ r → (b : Bool) → (if b then i ∷ m else m) ≡ (if b then i ∷ l else l) ++ r
cons_more i l m r e true = ap (λ t. i ∷ t) e
cons_more i l m r e false = e

first_one : (i : Item) (b : Bool) → (if b then i ∷ [] else []) ≡ [] ++ (if b then i ∷ [] else [])
first_one i b = refl

-- the number at child b behind the one at child a
abbrev behind : Place → List Phrase → ℕ → ℕ → Number
behind q ps a b =
    if same_kind K.AssignMark (kind (phrase ps a)) || same_kind K.LeftBracket (kind (phrase ps a)) then number_at ps b
    else record { value = 0; place = q }

number_shift : (q : Place) (p : Phrase) (ps : List Phrase) (n : ℕ) → number_after q ps n ≡ number_after q (p ∷ ps) (suc n)
number_shift q p ps n =
    let a : suc (n + 1) ≡ suc n + 1 = omega arith in
    let b : suc (n + 2) ≡ suc n + 2 = omega arith in
    ap (λ k. behind q (p ∷ ps) k (suc (n + 2))) a ∙ ap (λ k. behind q (p ∷ ps) (suc n + 1) k) b

numbered_shift : (make : Name → Number → Item) (p : Phrase) (ps : List Phrase) (n : ℕ) → numbered_at make ps n ≡ numbered_at make (p ∷ ps) (suc n)
numbered_shift make p ps n =
    ap (λ m. if same_kind K.Name (kind (phrase ps n)) then make (name_at ps n) m ∷ [] else []) (number_shift (name_at ps n).place p ps n)

numbered_more : (make : Name → Number → Item) (n : ℕ) (ps : List Phrase) → n < length ps → first_numbered make (n + 1) ps ≡ first_numbered make n ps ++ numbered_at make ps n
numbered_more make n [] h = absurd (omega (arith, h))
numbered_more make zero (p ∷ ps) h = first_one (make (name_of (as_token p)) (number_behind (name_of (as_token p)) ps)) (same_kind K.Name (kind p))
numbered_more make (suc n) (p ∷ ps) h =
    let next : suc n + 1 ≡ suc (n + 1) = omega arith in
    ap (λ k. first_numbered make k (p ∷ ps)) next
    ∙ cons_more (make (name_of (as_token p)) (number_behind (name_of (as_token p)) ps)) (first_numbered make n ps) (first_numbered make (n + 1) ps) (numbered_at make ps n)
    (numbered_more make n ps (omega (arith, h))) (same_kind K.Name (kind p))
    ∙ ap (λ l. first_numbered make (suc n) (p ∷ ps) ++ l) (numbered_shift make p ps n)

pub numbered_all : (make : Name → Number → Item) (ps : List Phrase) → first_numbered make (length ps) ps ≡ numbered make ps
numbered_all make [] = refl
numbered_all make (p ∷ ps) =
    ap (λ l. if same_kind K.Name (kind p) then make (name_of (as_token p)) (number_behind (name_of (as_token p)) ps) ∷ l else l) (numbered_all make ps)

-- one child more
pub declares_more : (ns : List Node) (make : Name → Number → Item) (ps : List Phrase) (n : ℕ) (old mid new : Globals) (f f' f'' : Option Fault) → n < length ps
    → Declares ns (first_numbered make n ps) old mid f f' → Declares ns (numbered_at make ps n) mid new f' f'' → Declares ns (first_numbered make (n + 1) ps) old new f f''
declares_more ns make ps n old mid new f f' f'' h a b =
    subst (λ l. Declares ns l old new f f'') (sym (numbered_more make n ps h))
    (declares_both ns (first_numbered make n ps) (numbered_at make ps n) old mid new f f' f'' a b)

pub declares_all : (ns : List Node) (make : Name → Number → Item) (ps : List Phrase) (n : ℕ) (old new : Globals) (f f' : Option Fault) → n ≡ length ps
    → Declares ns (first_numbered make n ps) old new f f' → Declares ns (numbered make ps) old new f f'
declares_all ns make ps n old new f f' e a =
    subst (λ l. Declares ns l old new f f') (ap (λ k. first_numbered make k ps) e ∙ numbered_all make ps) a

-- as many phrases as children
pub count_below : (ns : List Node) (i : ℕ) (cs : List ℕ) (n : ℕ) → n ≡ length cs → cs ≡ children_of ns i → n ≡ length (phrases_below ns i)
unfolding phrases_below
count_below ns i cs n e is = e ∙ ap length is ∙ sym (length-map (children_of ns i) (phrase_of ns))
