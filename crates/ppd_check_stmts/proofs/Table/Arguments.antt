-- The arguments of a call, child after child.
use Rattle.std.proofs.Common.{◌≡◌, refl, sym, ap, subst, ◌∙◌, ℕ, ◌+◌, ◌<◌, Bool, true, false, if◌then◌else◌, List, [], ◌∷◌, ◌++◌, map, take, length, get_or, Option}
use Rattle.std.specs.List.{flat_map}
use Rattle.std.proofs.lemmas.List.{take_more, map-append, length-map}
use Rattle.std.proofs.lemmas.List.Concat.{flat_map-append}
use Rattle.ppd_ast.specs.declared.program.Expr.{Expr}
use Rattle.ppd_parse.specs.declared.node.Node.{Node}
use Rattle.ppd_check_names.specs.declared.fault.Fault.{Fault}
use Rattle.ppd_check_names.specs.Faults.{first, first_of_both}
use Rattle.ppd_check_names.specs.Names.{Scope}
use Rattle.ppd_check_names.specs.Syntax.{Formula}
use Rattle.ppd_check_names.specs.Reading.{Phrase, as_formula, is_formula, formulas}
use Rattle.ppd_check_stmts.specs.Expressions.{term_of, formula_faults}
use Rattle.ppd_check_names.specs.Nodes.{phrase_of, phrases_of, phrases_below, children_of}
use Rattle.ppd_check_stmts.specs.Writing.{AddedAll, Argued}
use Rattle.ppd_check_names.proofs.Found.First.{found_in_both, first-swap}
use Rattle.ppd_check_stmts.proofs.Table.Writing.{added_join}
use Rattle.ppd_check_stmts.proofs.Costs.Tables.{length_roots}

formulas_cons : (q : Phrase) (ps qs : List Phrase) → formulas (ps ++ qs) ≡ formulas ps ++ formulas qs → (b : Bool)
    → (if b then as_formula q ∷ formulas (ps ++ qs) else formulas (ps ++ qs)) ≡ (if b then as_formula q ∷ formulas ps else formulas ps) ++ formulas qs
formulas_cons q ps qs e true = ap (λ l. as_formula q ∷ l) e
formulas_cons q ps qs e false = e

formulas_append : (ps qs : List Phrase) → formulas (ps ++ qs) ≡ formulas ps ++ formulas qs
formulas_append [] qs = refl
formulas_append (p ∷ ps) qs = formulas_cons p ps qs (formulas_append ps qs) (is_formula p)

joined_formulas : (ns : List Node) (cs ds : List ℕ) → formulas (phrases_of ns (cs ++ ds)) ≡ formulas (phrases_of ns cs) ++ formulas (phrases_of ns ds)
joined_formulas ns cs ds = ap formulas (map-append (phrase_of ns) cs ds) ∙ formulas_append (phrases_of ns cs) (phrases_of ns ds)

argued_join : (ns : List Node) (s : List Scope) (cs ds : List ℕ) (old mid new : List Expr) (ids ids' ids'' : List ℕ) (found found' found'' : Option Fault)
    → Argued ns s cs old mid ids ids' found found' → Argued ns s ds mid new ids' ids'' found' found'' → Argued ns s (cs ++ ds) old new ids ids'' found found''
argued_join ns s cs ds old mid new ids ids' ids'' found found' found'' a b =
    let fs : List Formula = formulas (phrases_of ns cs) in
    let gs : List Formula = formulas (phrases_of ns ds) in
    let e : fs ++ gs ≡ formulas (phrases_of ns (cs ++ ds)) = sym (joined_formulas ns cs ds) in
    record {
      added =
          subst (λ hs. AddedAll old (map (term_of s) hs) new ids ids'') e
          (subst (λ ts. AddedAll old ts new ids ids'') (sym (map-append (term_of s) fs gs)) (added_join old mid new (map (term_of s) fs) (map (term_of s) gs) ids ids' ids'' a.added b.added));
      noted =
          found_in_both found found' found'' (flat_map (formula_faults s) fs) (flat_map (formula_faults s) gs) a.noted b.noted
          ∙ ap (λ l. first_of_both found (first l)) (sym (flat_map-append (formula_faults s) fs gs))
          ∙ ap (λ hs. first_of_both found (first (flat_map (formula_faults s) hs))) e;
    }

-- one child more of a list
pub argued_more : (ns : List Node) (s : List Scope) (cs : List ℕ) (i c : ℕ) (old mid new : List Expr) (ids ids' ids'' : List ℕ) (found found' found'' : Option Fault)
    → i < length cs → c ≡ get_or cs i c
    → Argued ns s (take i cs) old mid ids ids' found found' → Argued ns s (c ∷ []) mid new ids' ids'' found' found'' → Argued ns s (take (i + 1) cs) old new ids ids'' found found''
argued_more ns s cs i c old mid new ids ids' ids'' found found' found'' h is a b =
    subst (λ l. Argued ns s l old new ids ids'' found found'') (ap (λ d. take i cs ++ d ∷ []) is ∙ sym (take_more cs i c h))
    (argued_join ns s (take i cs) (c ∷ []) old mid new ids ids' ids'' found found' found'' a b)

-- the arguments of a call with what is wrong with the call, which is noted after them
pub argued_call : (ns : List Node) (s : List Scope) (i : ℕ) (old new : List Expr) (ids : List ℕ) (found found' found'' : Option Fault) (fs : List Fault)
    → Argued ns s (children_of ns i) old new [] ids found found' → found'' ≡ first_of_both found' (first fs)
    → AddedAll old (map (term_of s) (formulas (phrases_below ns i))) new [] ids
    × (found'' ≡ first_of_both found (first (fs ++ flat_map (formula_faults s) (formulas (phrases_below ns i)))))
unfolding phrases_below
argued_call ns s i old new ids found found' found'' fs a f = (
  a.added,
  found_in_both found found' found'' (flat_map (formula_faults s) (formulas (phrases_below ns i))) fs a.noted f
      ∙ ap (first_of_both found) (first-swap (flat_map (formula_faults s) (formulas (phrases_below ns i))) fs),
)

-- as many numbers as arguments
pub argued_count : (ns : List Node) (s : List Scope) (i : ℕ) (old new : List Expr) (ids : List ℕ) (found found' : Option Fault)
    → Argued ns s (children_of ns i) old new [] ids found found' → length ids ≡ length (formulas (phrases_below ns i))
unfolding phrases_below
argued_count ns s i old new ids found found' a =
    ap length a.added.numbers ∙ length_roots (length old) (map (term_of s) (formulas (phrases_below ns i))) ∙ length-map (formulas (phrases_below ns i)) (term_of s)
