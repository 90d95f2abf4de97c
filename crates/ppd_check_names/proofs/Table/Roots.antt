-- The source of a table, by what its root says.
use Rattle.std.proofs.Common.{◌≡◌, refl, sym, ap, ◌∙◌, ◌-◌, List, map, length, get_or, Option, Some, None}
use Rattle.std.proofs.lemmas.List.{get_or_default, length-map}
use Rattle.ppd_ast.specs.declared.program.Place.{Place}
use Rattle.ppd_parse.specs.declared.token.Token.{Token}
use Rattle.ppd_parse.specs.declared.node.Node.{Node}
use Rattle.ppd_parse.specs.declared.symbol.Rule.{Rule}
use Rattle.ppd_parse.specs.Table.{shape_or}
use Rattle.ppd_parse.specs.Tree.{tree_of, IsTable}
use Rattle.ppd_check_names.specs.Reading.{place_at, as_token, as_items, last, source_of}
use Rattle.ppd_check_names.specs.Nodes.{tree_at, phrase_of, phrases_of, phrases_below, children_of, no_node}
use Rattle.ppd_check_names.proofs.Table.Trees.{tree_step, all_said_forest}

pub items_root : (ns : List Node) → as_items (phrase_of ns 0) ≡ (source_of (tree_of ns)).items
unfolding phrase_of
items_root ns = refl

-- the place of a root with this token
abbrev pub end_by : List Node → Option Token → Place
end_by ns (Some t) = t.place
end_by ns None = place_at (phrases_below ns 0) (length (children_of ns 0) - 1)

end_shape : (ns : List Node) (t : Option Token) (r : Rule) → (source_of (shape_or t r (map (tree_at ns) (children_of ns 0)))).end ≡ end_by ns t
unfolding phrases_below
end_shape ns (Some x) r = refl
end_shape ns None r =
    ap (λ ps. (as_token (last ps)).place) (all_said_forest ns (children_of ns 0))
    ∙ ap (place_at (phrases_of ns (children_of ns 0))) (ap (λ n. n - 1) (length-map (children_of ns 0) (phrase_of ns)))

pub end_told : (ns : List Node) (t : Option Token) → IsTable ns → t ≡ (get_or ns 0 no_node).token → end_by ns t ≡ (source_of (tree_of ns)).end
end_told ns t table is =
    let root : Node = get_or ns 0 no_node in
    ap (end_by ns) is
    ∙ sym (end_shape ns root.token root.rule)
    ∙ ap (λ t. (source_of t).end) (sym (tree_step ns 0 root table table.some (get_or_default ns 0 no_node root table.some)))
