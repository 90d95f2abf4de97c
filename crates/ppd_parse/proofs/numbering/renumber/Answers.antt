use Rattle.std.proofs.Common.{◌≡◌, ◌≤◌, ℕ, List, [], ◌∷◌, ◌++◌, map, reverse, sym, ◌∙◌, ap, append_assoc, append-nil, arith, rules, length, take}
use Rattle.std.proofs.lemmas.Grind.{common_steps}
use Rattle.std.proofs.lemmas.List.{reverse-append, length-append, take_all, take-append-le, take-take}
use Rattle.ppd_parse.specs.declared.node.Growth.{Growth}
use Rattle.ppd_parse.specs.declared.node.Node.{Node}
use Rattle.ppd_parse.specs.Renumbered.{turned, node_of}
use Rattle.ppd_parse.proofs.numbering.renumber.Goals as goal

-- one more node, of the last of those that are left
one_more : (f : Growth → Node) (ns : List Node) (n : Node) (gs : List Growth) (g : Growth) {all : List Growth} {news whole : List Node} → all ≡ gs ++ g ∷ [] → news ≡ ns ++ n ∷ [] → n ≡ f g → ns ++ map f (reverse all) ≡ whole → news ++ map f (reverse gs) ≡ whole
one_more f ns n gs g e p i h =
    ap (λ ms. ms ++ map f (reverse gs)) p ∙ (append_assoc ns (n ∷ []) (map f (reverse gs)) ∙ (ap (λ m. ns ++ (m ∷ map f (reverse gs))) i
    ∙ (sym (ap (λ rs. ns ++ map f (reverse rs)) e ∙ ap (λ rs. ns ++ map f rs) (reverse-append gs (g ∷ []))) ∙ h)))

none_left : (f : Growth → Node) (ns : List Node) {gs : List Growth} {whole : List Node} → gs ≡ [] → ns ++ map f (reverse gs) ≡ whole → ns ≡ whole
none_left f ns e h = sym (append-nil ns) ∙ (sym (ap (λ rs. ns ++ map f (reverse rs)) e) ∙ h)

node_is : (n : ℕ) (g : Growth) (ids : List ℕ) → ids ≡ turned n g.children.items → record { rule = g.rule; token = g.token; children = ids } ≡ node_of n g
node_is n g ids e = ap (λ i. record { rule = g.rule; token = g.token; children = i }) e

-- what is left is the first nodes
left_first : (gs all : List Growth) (g : Growth) {now : List Growth} → now ≡ gs ++ g ∷ [] → now ≡ take (length now) all → gs ≡ take (length gs) all
left_first gs all g {now} e h =
    let more : length gs ≤ length now = omega (arith, ap length e, length-append gs (g ∷ [])) in
    sym (take_all (length gs) gs (omega arith)) ∙ (sym (take-append-le (length gs) gs (g ∷ []) (omega arith)) ∙ (ap (take (length gs)) (sym e ∙ h) ∙ take-take (length gs) (length now) all more))

pub loop-growth-preserved : goal.loop-growth-preserved
loop-growth-preserved c =
    let g = c.in-Some.growth in
    let n = c.len-count.result in
    record {
      done = one_more (node_of n) c.loop-growth.nodes.items _ c.pop.new.self.items g c.in-Some.ensures.items c.in_ok-push.ensures.items (node_is n g c.in_ok-children.children (c.in_ok-children.ensures ∙ ap (turned n) c.deref.ensures.value)) c.loop-growth.invariant.done;
      left = left_first c.pop.new.self.items c.args.grove.nodes.items g c.in-Some.ensures.items c.loop-growth.invariant.left;
    }

pub returns : goal.returns
returns c =
    let none : c.loop-growth.growths.items ≡ [] = first_of (search rules, grind (arith, common_steps)) in
    c.from_vec.ensures ∙ (none_left (node_of c.len-count.result) c.loop-growth.nodes.items none c.loop-growth.invariant.done ∙ ap (λ n. map (node_of n) (reverse c.args.grove.nodes.items)) (c.len-count.ensures ∙ c.args.grove.nodes.ok.0))
