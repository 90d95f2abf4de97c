-- What holds of the nodes that the parser made still holds with a node more.
use Rattle.std.proofs.Common.{◌≡◌, ◌≢◌, ◌<◌, ◌≤◌, ℕ, zero, suc, ◌+◌, ◌⊎◌, inl, inr, nat_eq, List, [], ◌∷◌, ◌++◌, length, take, drop, get_or, Option, Some, None, refl, sym, ◌∙◌, ap, subst, arith}
use Rattle.std.specs.List.{count_by, sum_by}
use Rattle.std.proofs.lemmas.Bool.Decides.{nat_tests}
use Rattle.std.proofs.lemmas.List.{append-nil, length-append, take-append-drop, map-append, get_or_append_left, get_or_push}
use Rattle.std.proofs.lemmas.List.Concat.{flat_map-append}
use Rattle.std.proofs.lemmas.List.Elements.{All-nil, All-head, All-tail, All-append, All-push, All-take, All-drop, All-weaker}
use Rattle.std.proofs.lemmas.List.Sums.{sum_by-cons, sum_by-append, sum_by_push, get_or-le-sum_by}
use Rattle.ppd_ast.specs.Tally.{IsOnce}
use Rattle.ppd_ast.specs.Counting.{one_if}
use Rattle.ppd_parse.specs.declared.token.Token.{Token}
use Rattle.ppd_parse.specs.declared.symbol.Rule.{Rule}
use Rattle.ppd_parse.specs.declared.symbol.Rule.TheVariants as R
use Rattle.ppd_parse.specs.declared.node.Growth.{Growth}
use Rattle.ppd_parse.specs.Below.{AreBelow}
use Rattle.ppd_parse.specs.Grown.{children_in, AreRising, AreOnce, IsLeafy, AreLeafy, AreCounted, IsGrown}
use Rattle.ppd_parse.specs.Size.{weigh, weigh_all, weigh_node}
use Rattle.ppd_parse.proofs.Vocabulary.{size_of, one_for_leaf}
use Rattle.ppd_parse.specs.Table.{shape_or, at_ids, shape_of, table, shapes_of}
use Rattle.ppd_parse.proofs.Sizes.{weigh_append, weigh_made}
use Rattle.ppd_parse.proofs.Table.{shapes_more}

-- ---- how often a number stands in a list

pub times_append : (c : ℕ) (xs ys : List ℕ) → count_by (nat_eq c) (xs ++ ys) ≡ count_by (nat_eq c) xs + count_by (nat_eq c) ys
times_append c xs ys = sum_by-append (λ x. one_if (nat_eq c x)) xs ys

pub times_cons : (c x : ℕ) (xs : List ℕ) → count_by (nat_eq c) (x ∷ xs) ≡ one_if (nat_eq c x) + count_by (nat_eq c) xs
times_cons c x xs = sum_by-cons (λ y. one_if (nat_eq c y)) x xs

pub times_none : (n c : ℕ) (xs : List ℕ) → n ≤ c → AreBelow n xs → count_by (nat_eq c) xs ≡ 0
times_none n c [] le h = refl
times_none n c (x ∷ xs) le h =
    let below : x < n = All-head (λ i. i < n) x xs h in
    let other : one_if (nat_eq c x) ≡ 0 = grind (arith, nat_tests) in
    omega (arith, times_cons c x xs, other, times_none n c xs le (All-tail (λ i. i < n) x xs h))

-- ---- the children of all nodes

pub children_below : (m : ℕ) (ns : List Growth) → ((k : ℕ) (d : Growth) → k < length ns → AreBelow m (get_or ns k d).children.items) → AreBelow m (children_in ns)
children_below m [] h = All-nil (λ i. i < m)
children_below m (n ∷ ns) h = All-append (λ i. i < m) n.children.items (children_in ns) (h 0 n (omega arith)) (children_below m ns (λ k d lt. h (suc k) d (omega arith)))

pub below_more : (m n : ℕ) (ids : List ℕ) → m ≤ n → AreBelow m ids → AreBelow n ids
below_more m n ids le h = All-weaker (λ i. i < m) (λ i. i < n) (λ i lt. omega arith) ids h

pub all_children_below : (ns : List Growth) → AreRising ns → AreBelow (length ns) (children_in ns)
all_children_below ns h = children_below (length ns) ns (λ k d lt. below_more k (length ns) (get_or ns k d).children.items (omega arith) (h k d lt))

-- ---- one more node

last_or_before : (k n : ℕ) → k < n + 1 → (k < n) ⊎ (k ≡ n)
last_or_before zero zero h = inr refl
last_or_before zero (suc n) h = inl (omega arith)
last_or_before (suc k) zero h = absurd (omega arith)
last_or_before (suc k) (suc n) h = go (last_or_before k n (omega arith))
  where
    go : (k < n) ⊎ (k ≡ n) → (suc k < suc n) ⊎ (suc k ≡ suc n)
    go (inl lt) = inl (omega arith)
    go (inr e) = inr (ap suc e)

module _ (ns : List Growth) (n : Growth) where
  -- what holds of each node and of the new one
  each_more : (P : ℕ → Growth → Type 0) → ((k : ℕ) (d : Growth) → k < length ns → P k (get_or ns k d)) → P (length ns) n → (k : ℕ) (d : Growth) → k < length (ns ++ n ∷ []) → P k (get_or (ns ++ n ∷ []) k d)
  each_more P h p k d lt = go (last_or_before k (length ns) (omega (arith, length-append ns (n ∷ []))))
    where
      go : (k < length ns) ⊎ (k ≡ length ns) → P k (get_or (ns ++ n ∷ []) k d)
      go (inl less) = subst (P k) (sym (get_or_append_left ns (n ∷ []) d k less)) (h k d less)
      go (inr same) = subst (P k) (sym (get_or_push ns n d k (sym same))) (subst (λ j. P j n) (sym same) p)

  module _ (roots : List ℕ) (b : ℕ) (le : b ≤ length roots) (grown : IsGrown ns roots) (leafy : IsLeafy n) (kids : n.children.items ≡ drop b roots) where
    low : AreBelow (length ns) (take b roots)
    low = All-take (λ i. i < length ns) b roots grown.0

    longer : length (ns ++ n ∷ []) ≡ length ns + 1
    longer = length-append ns (n ∷ [])

    below_after : AreBelow (length (ns ++ n ∷ [])) (take b roots ++ length ns ∷ [])
    below_after =
        let up : length ns < length (ns ++ n ∷ []) = omega (arith, longer) in
        All-push (λ i. i < length (ns ++ n ∷ [])) (take b roots) (length ns) (below_more (length ns) (length (ns ++ n ∷ [])) (take b roots) (omega (arith, longer)) low) up

    rising_after : AreRising (ns ++ n ∷ [])
    rising_after = each_more (λ k g. AreBelow k g.children.items) grown.1 (subst (AreBelow (length ns)) (sym kids) (All-drop (λ i. i < length ns) b roots grown.0))

    leafy_after : AreLeafy (ns ++ n ∷ [])
    leafy_after = each_more (λ k g. IsLeafy g) grown.3 leafy

    -- a number stands among the new children and roots as before, and the new number once
    times_after : (c : ℕ) → count_by (nat_eq c) (children_in (ns ++ n ∷ []) ++ (take b roots ++ length ns ∷ [])) ≡ count_by (nat_eq c) (children_in ns ++ roots) + one_if (nat_eq c (length ns))
    times_after c =
        let parts = flat_map-append (λ (g : Growth). g.children.items) ns (n ∷ []) in
        let inner : children_in (ns ++ n ∷ []) ≡ children_in ns ++ drop b roots = parts ∙ ap (λ u. children_in ns ++ u) (append-nil n.children.items ∙ kids) in
        let first : count_by (nat_eq c) (children_in (ns ++ n ∷ [])) ≡ count_by (nat_eq c) (children_in ns) + count_by (nat_eq c) (drop b roots) = ap (count_by (nat_eq c)) inner ∙ times_append c (children_in ns) (drop b roots) in
        let cut : count_by (nat_eq c) (take b roots ++ drop b roots) ≡ count_by (nat_eq c) roots = ap (count_by (nat_eq c)) (take-append-drop b roots) in
        omega (arith, first, cut, times_append c (take b roots) (drop b roots), times_append c (children_in (ns ++ n ∷ [])) (take b roots ++ length ns ∷ []), times_append c (take b roots) (length ns ∷ []), times_cons c (length ns) [], times_append c (children_in ns) roots)

    once_after : AreOnce (ns ++ n ∷ []) (take b roots ++ length ns ∷ [])
    once_after c lt = go (last_or_before c (length ns) (omega (arith, longer)))
      where
        go : (c < length ns) ⊎ (c ≡ length ns) → IsOnce (children_in (ns ++ n ∷ []) ++ (take b roots ++ length ns ∷ [])) c
        go (inl less) =
            let other : one_if (nat_eq c (length ns)) ≡ 0 = grind (arith, nat_tests) in
            omega (arith, times_after c, grown.2 c less, other)
        go (inr same) =
            let this : one_if (nat_eq c (length ns)) ≡ 1 = grind (arith, nat_tests) in
            let kept : count_by (nat_eq c) (children_in ns) ≡ 0 = times_none (length ns) c (children_in ns) (omega arith) (all_children_below ns grown.1) in
            let held : count_by (nat_eq c) roots ≡ 0 = times_none (length ns) c roots (omega arith) grown.0 in
            omega (arith, times_after c, this, kept, held, times_append c (children_in ns) roots)

    weigh_shape : (m : ℕ) (w : Rule → ℕ) (o : Option Token) → n.token ≡ o → weigh m w (shape_or o n.rule (at_ids (table [] ns) n.children.items)) ≡ weigh_node m w o n.rule + weigh_all m w (at_ids (table [] ns) n.children.items)
    weigh_shape m w (Some x) e =
        let none : weigh_all m w (at_ids (table [] ns) n.children.items) ≡ 0 = ap (λ ids. weigh_all m w (at_ids (table [] ns) ids)) (leafy x e).1 in
        omega (arith, none)
    weigh_shape m w None e = weigh_made m w n.rule (at_ids (table [] ns) n.children.items)

    counted_after : AreCounted (ns ++ n ∷ []) (take b roots ++ length ns ∷ [])
    counted_after m w =
        let whole : at_ids (table [] ns) (take b roots) ++ at_ids (table [] ns) (drop b roots) ≡ shapes_of ns roots = sym (map-append (λ i. get_or (table [] ns) i _) (take b roots) (drop b roots)) ∙ ap (at_ids (table [] ns)) (take-append-drop b roots) in
        let cut : weigh_all m w (at_ids (table [] ns) (take b roots) ++ at_ids (table [] ns) (drop b roots)) ≡ weigh_all m w (shapes_of ns roots) = ap (weigh_all m w) whole in
        let new : weigh_all m w (shapes_of (ns ++ n ∷ []) (take b roots ++ length ns ∷ [])) ≡ weigh_all m w (shapes_of ns (take b roots) ++ shape_of (table [] ns) n ∷ []) = ap (weigh_all m w) (shapes_more ns n (take b roots) low) in
        let kid : weigh_all m w (at_ids (table [] ns) n.children.items) ≡ weigh_all m w (at_ids (table [] ns) (drop b roots)) = ap (λ ids. weigh_all m w (at_ids (table [] ns) ids)) kids in
        let sum = sum_by_push (λ (g : Growth). weigh_node m w g.token g.rule) ns n in
        omega (arith, sum, grown.4 m w, cut, new, kid, weigh_shape m w n.token refl, weigh_append m w (shapes_of ns (take b roots)) (shape_of (table [] ns) n ∷ []), weigh_append m w (at_ids (table [] ns) (take b roots)) (at_ids (table [] ns) (drop b roots)))

    pub grown_after : IsGrown (ns ++ n ∷ []) (take b roots ++ length ns ∷ [])
    grown_after = (below_after, rising_after, once_after, leafy_after, counted_after)

-- the same, as the vectors say it
pub grown_add : (ns : List Growth) (n : Growth) (roots : List ℕ) (b : ℕ) {ms : List Growth} {cut js : List ℕ} {k : ℕ} → IsGrown ns roots → b ≤ length roots → IsLeafy n → n.children.items ≡ drop b roots → ms ≡ ns ++ n ∷ [] → cut ≡ take b roots → js ≡ cut ++ k ∷ [] → k ≡ length ns → IsGrown ms js
grown_add ns n roots b {ms} {cut} {js} {k} grown le leafy kids em ec ej ek =
    let tail : js ≡ take b roots ++ length ns ∷ [] = ej ∙ (ap (λ u. u ++ k ∷ []) ec ∙ ap (λ i. take b roots ++ i ∷ []) ek) in
    subst (λ (u : List Growth). IsGrown u js) (sym em) (subst (IsGrown (ns ++ n ∷ [])) (sym tail) (grown_after ns n roots b le grown leafy kids))

-- the nodes are as many as those of the trees
pub counted_size : (ns : List Growth) (roots : List ℕ) → AreCounted ns roots → length ns ≡ size_of (shapes_of ns roots)
counted_size ns roots h = sym (ones ns) ∙ h 1 (λ r. 1)
  where
    one : (o : Option Token) (r : Rule) → weigh_node 1 (λ r. 1) o r ≡ 1
    one (Some x) r = refl
    one None r = refl

    ones : (gs : List Growth) → sum_by (λ g. weigh_node 1 (λ r. 1) g.token g.rule) gs ≡ length gs
    ones [] = refl
    ones (g ∷ gs) = omega (arith, sum_by-cons (λ (k : Growth). weigh_node 1 (λ r. 1) k.token k.rule) g gs, one g.token g.rule, ones gs)

-- where no tree has the rule of a token elsewhere, no node has
pub counted_inner : (ns : List Growth) (roots : List ℕ) → AreCounted ns roots → weigh_all 0 one_for_leaf (shapes_of ns roots) ≡ 0 → (k : ℕ) (d : Growth) → k < length ns → (get_or ns k d).token ≡ None → (get_or ns k d).rule ≢ R.Leaf
counted_inner ns roots h z k d lt none is =
    let f : Growth → ℕ = λ g. weigh_node 0 one_for_leaf g.token g.rule in
    let most : f (get_or ns k d) ≤ sum_by f ns = get_or-le-sum_by f ns k d lt in
    let one : f (get_or ns k d) ≡ 1 = ap (λ o. weigh_node 0 one_for_leaf o (get_or ns k d).rule) none ∙ ap one_for_leaf is in
    omega (arith, most, one, h 0 one_for_leaf, z)
