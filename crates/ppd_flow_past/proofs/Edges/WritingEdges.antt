-- The greatest edge that writes a cell, found in one pass over the sets of all edges.
use Rattle.std.proofs.Common.{◌≡◌, ℕ, ◌+◌, Bool, true, false, cond, ◌&&◌, List, [], ◌∷◌, ◌++◌, Option, Some, None, refl, ap, sym, ◌∙◌}
use Rattle.std.specs.Prelude.{filter, fold, if◌then◌else◌}
use Rattle.std.proofs.lemmas.List.Elements.{filter-append}
use Rattle.std.proofs.lemmas.List.Sums.{fold-append}
use Rattle.ppd_ast.specs.Members.{has}
use Rattle.ppd_graph.specs.declared.sets.EdgeSets.{EdgeSets}
use Rattle.ppd_model.specs.declared.graph.EdgeId.{EdgeId}
use Rattle.ppd_model.specs.HappenedBefore.{edge}
use Rattle.ppd_flow_past.specs.Edges.Found.{greater_if, greatest_from, greatest_in, is_within}
use Rattle.ppd_graph.specs.Shared.{greater, greatest, writing_from, writing_in}

module _ (before : EdgeId → EdgeId → Bool) (c : ℕ) (limit : Option EdgeId) where
  abbrev among : Option EdgeId → List EdgeId → Option EdgeId
  among best es = fold (greater before) best (filter (is_within before limit) es)

  kept : (best : Option EdgeId) (a : EdgeId) (rest : List EdgeId) (w : Bool) → is_within before limit a ≡ w
      → among (if w then greater before best a else best) rest ≡ among best (a ∷ rest)
  kept best a rest true e =
      ap (fold (greater before) best) (sym (ap (λ b. cond b (a ∷ filter (is_within before limit) rest) (filter
      (is_within before limit) rest)) e))
  kept best a rest false e =
      ap (fold (greater before) best) (sym (ap (λ b. cond b (a ∷ filter (is_within before limit) rest) (filter
      (is_within before limit) rest)) e))

  one_edge : (best : Option EdgeId) (a : EdgeId) (writes : List ℕ) (rest : List EdgeId)
      → among (greater_if before c limit best a writes) rest ≡ among best (if has writes c then a ∷ rest else rest)
  one_edge best a writes rest = by (has writes c)
    where
      by : (b : Bool) → among (if b && is_within before limit a then greater before best a else best) rest
          ≡ among best (if b then a ∷ rest else rest)
      by true = kept best a rest (is_within before limit a) refl
      by false = refl

  of_process : (p i : ℕ) (best : Option EdgeId) (ss : List EdgeSets)
      → greatest_in before c limit p i best ss ≡ among best (writing_in c p i ss)
  of_process p i best [] = refl
  of_process p i best (s ∷ ss) =
      of_process p (i + 1) (greater_if before c limit best (edge p i) s.writes) ss
      ∙ one_edge best (edge p i) s.writes (writing_in c p (i + 1) ss)

  among_both : (best : Option EdgeId) (xs ys : List EdgeId) → among best (xs ++ ys) ≡ among (among best xs) ys
  among_both best xs ys =
      ap (fold (greater before) best) (filter-append (is_within before limit) xs ys)
      ∙ fold-append (greater before) best (filter (is_within before limit) xs) (filter (is_within before limit) ys)

  pub of_all : (p : ℕ) (best : Option EdgeId) (sets : List (List EdgeSets))
      → greatest_from before c limit p best sets ≡ among best (writing_from c p sets)
  of_all p best [] = refl
  of_all p best (ss ∷ rest) =
      of_all (p + 1) (greatest_in before c limit p 0 best ss) rest
      ∙ ap (λ b. among b (writing_from c (p + 1) rest)) (of_process p 0 best ss)
      ∙ sym (among_both best (writing_in c p 0 ss) (writing_from c (p + 1) rest))

all_within : (xs : List EdgeId) → filter (λ a. true) xs ≡ xs
all_within [] = refl
all_within (x ∷ xs) = ap (λ ys. x ∷ ys) (all_within xs)

-- without a limit
pub of_every : (before : EdgeId → EdgeId → Bool) (c : ℕ) (sets : List (List EdgeSets))
    → greatest_from before c None 0 None sets ≡ greatest before (writing_from c 0 sets)
of_every before c sets = of_all before c None 0 None sets
    ∙ ap (fold (greater before) None) (all_within (writing_from c 0 sets))

-- before a limit
pub of_those : (before : EdgeId → EdgeId → Bool) (c : ℕ) (e : EdgeId) (sets : List (List EdgeSets))
    → greatest_from before c (Some e) 0 None sets ≡ greatest before (filter (λ a. before a e) (writing_from c 0 sets))
of_those before c e sets = of_all before c (Some e) 0 None sets
