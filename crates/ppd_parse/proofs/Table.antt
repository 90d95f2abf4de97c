-- The trees of a table of nodes, as it grows.
use Rattle.std.proofs.Common.{◌≡◌, ◌<◌, ℕ, ◌+◌, ◌-◌, List, [], ◌∷◌, ◌++◌, length, take, drop, get_or, min, refl, sym, ◌∙◌, ap, arith, Some, None}
use Rattle.std.proofs.lemmas.List.{map-append, take_min, drop_min, length-append, length-drop, take-map, drop-map, get_or_append_left}
use Rattle.std.proofs.lemmas.List.Elements.{All-head, All-tail, All-take}
use Rattle.std.proofs.Math.Seq.{get_or-append_seam, take-length}
use Rattle.ppd_parse.specs.declared.token.Token.{Token}
use Rattle.ppd_parse.specs.declared.node.Growth.{Growth}
use Rattle.ppd_parse.specs.Below.{AreBelow}
use Rattle.ppd_parse.specs.Grammar.{Shape, leaf, node, forest, close}
use Rattle.ppd_parse.specs.Table.{no_shape, shape_or, at_ids, shape_of, table, shapes_of}

pub table_snoc : (ts : List Shape) (ns : List Growth) (n : Growth) → table ts (ns ++ n ∷ []) ≡ table ts ns ++ shape_of (table ts ns) n ∷ []
table_snoc ts [] n = refl
table_snoc ts (m ∷ ns) n = table_snoc (ts ++ shape_of ts m ∷ []) ns n

pub length-table : (ts : List Shape) (ns : List Growth) → length (table ts ns) ≡ length ts + length ns
length-table ts [] = omega arith
length-table ts (m ∷ ns) = omega (arith, length-table (ts ++ shape_of ts m ∷ []) ns, length-append ts (shape_of ts m ∷ []))

at_ids_more : (ts : List Shape) (t : Shape) (ids : List ℕ) → AreBelow (length ts) ids → at_ids (ts ++ t ∷ []) ids ≡ at_ids ts ids
at_ids_more ts t [] h = refl
at_ids_more ts t (i ∷ ids) h =
    let below : i < length ts = All-head (λ j. j < length ts) i ids h in
    let e = get_or_append_left ts (t ∷ []) no_shape i below in
    let r = at_ids_more ts t ids (All-tail (λ j. j < length ts) i ids h) in
    cc

-- a new node, which is a root
pub shapes_more : (ns : List Growth) (n : Growth) (ids : List ℕ) → AreBelow (length ns) ids → shapes_of (ns ++ n ∷ []) (ids ++ length ns ∷ []) ≡ shapes_of ns ids ++ shape_of (table [] ns) n ∷ []
shapes_more ns n ids h =
    let old = table [] ns in
    let len : length old ≡ length ns = omega (arith, length-table [] ns) in
    let e = table_snoc [] ns n in
    rw (e, map-append, at_ids_more old (shape_of old n) ids (rw len h))
    (ap (λ t. at_ids old ids ++ t ∷ []) (ap (λ i. get_or (old ++ shape_of old n ∷ []) i no_shape) (sym len) ∙ get_or-append_seam old (shape_of old n) [] no_shape))

pub shapes_leaf : (ns : List Growth) (n : Growth) (x : Token) (ids : List ℕ) → AreBelow (length ns) ids → n.token ≡ Some x → shapes_of (ns ++ n ∷ []) (ids ++ length ns ∷ []) ≡ shapes_of ns ids ++ leaf x ∷ []
shapes_leaf ns n x ids h e = shapes_more ns n ids h ∙ ap (λ t. shapes_of ns ids ++ shape_or t n.rule (at_ids (table [] ns) n.children.items) ∷ []) e

pub shapes_close : (ns : List Growth) (n : Growth) (ids : List ℕ) (b c : ℕ) → AreBelow (length ns) ids → n.token ≡ None → n.children.items ≡ drop c ids → c ≡ min b (length ids) → shapes_of (ns ++ n ∷ []) (take c ids ++ length ns ∷ []) ≡ close n.rule b (shapes_of ns ids)
shapes_close ns n ids b c h e k m =
    let low = All-take (λ i. i < length ns) c ids h in
    let old = table [] ns in
    let front : at_ids old (take c ids) ≡ take b (at_ids old ids) = ap (λ i. at_ids old (take i ids)) m ∙ (ap (at_ids old) (take_min b ids) ∙ sym (take-map (λ i. get_or old i no_shape) b ids)) in
    let back : at_ids old n.children.items ≡ drop b (at_ids old ids) = ap (at_ids old) (k ∙ (ap (λ i. drop i ids) m ∙ drop_min b ids)) ∙ sym (drop-map (λ i. get_or old i no_shape) b ids) in
    shapes_more ns n (take c ids) low
    ∙ (ap (λ t. shapes_of ns (take c ids) ++ t ∷ []) (ap (λ o. shape_or o n.rule (at_ids old n.children.items)) e)
    ∙ (ap (λ f. f ++ node n.rule (forest (at_ids old n.children.items)) ∷ []) front ∙ ap (λ f. take b (at_ids old ids) ++ node n.rule (forest f) ∷ []) back))

pub leaf_added : (ns : List Growth) (n : Growth) (ids : List ℕ) {ms : List Growth} {js : List ℕ} {k : ℕ} (x : Token) → ms ≡ ns ++ n ∷ [] → js ≡ ids ++ k ∷ [] → k ≡ length ns → AreBelow (length ns) ids → n.token ≡ Some x → shapes_of ms js ≡ shapes_of ns ids ++ leaf x ∷ []
leaf_added ns n ids {ms} {js} {k} x em ej ek h e =
    ap (λ zs. shapes_of zs js) em ∙ (ap (shapes_of (ns ++ n ∷ [])) (ej ∙ ap (λ i. ids ++ i ∷ []) ek) ∙ shapes_leaf ns n x ids h e)

pub node_added : (ns : List Growth) (n : Growth) (ids : List ℕ) (b : ℕ) {ms : List Growth} {cut js : List ℕ} {c k : ℕ} → ms ≡ ns ++ n ∷ [] → js ≡ cut ++ k ∷ [] → cut ≡ take c ids → k ≡ length ns → AreBelow (length ns) ids → n.token ≡ None → n.children.items ≡ take (length ids - c) (drop c ids) → c ≡ min b (length ids) → shapes_of ms js ≡ close n.rule b (shapes_of ns ids)
node_added ns n ids b {ms} {cut} {js} {c} {k} em ej ec ek h e kids m =
    ap (λ zs. shapes_of zs js) em ∙ (ap (shapes_of (ns ++ n ∷ [])) (ej ∙ (ap (λ zs. zs ++ k ∷ []) ec ∙ ap (λ i. take c ids ++ i ∷ []) ek))
    ∙ shapes_close ns n ids b c h e (kids ∙ (ap (λ i. take i (drop c ids)) (sym (length-drop c ids)) ∙ take-length (drop c ids))) m)

pub length-shapes : (ns : List Growth) (ids : List ℕ) → length (shapes_of ns ids) ≡ length ids
length-shapes ns ids = go ids
  where
    go : (js : List ℕ) → length (at_ids (table [] ns) js) ≡ length js
    go [] = refl
    go (j ∷ js) = omega (arith, go js)
