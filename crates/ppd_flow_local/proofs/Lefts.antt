-- One edge after another for what a loop left.
use Rattle.std.proofs.Common.{◌≡◌, ℕ, ◌+◌, ◌<◌, List, [], ◌∷◌, ◌++◌, length, drop, Result, Ok, Err, refl, ap, sym, ◌∙◌, subst, append_assoc, drop-cons, get_or, add-one, suc, arith, inl, inr, ◌≤◌}
use Rattle.std.proofs.lemmas.List.{append-nil, drop_all}
use Rattle.std.proofs.lemmas.Bool.{cases_lt}
use Rattle.std.specs.Prelude.{ℤ, min, pos}
use Rattle.ppd_model.specs.declared.flow.FlowEdge.{FlowEdge}
use Rattle.ppd_model.specs.declared.flow.Origin.{Origin}
use Rattle.ppd_flow_tables.specs.FlowError.{FlowError}
use Rattle.ppd_graph.specs.Own.{left_edges}
use Rattle.ppd_graph.specs.Locals.{local_origin}
use Rattle.ppd_graph.specs.Looked.{Looked, look_map}
use Rattle.ppd_flow_local.specs.declared.search.Search.{Search}
use Rattle.ppd_flow_local.specs.Searches.{IsFound, left_from, plan_in, program_in, seen}
use Rattle.ppd_flow_local.proofs.Joined.{after_look, and_so, failed, failed_alone, is_given, joined, nothing}

-- these edges, and then those of the answer
abbrev pub prefixed : List FlowEdge → Result (List FlowEdge) FlowError → Result (List FlowEdge) FlowError
prefixed es (Ok xs) = Ok (es ++ xs)
prefixed es (Err e) = Err e

pub prefixed_both : (es fs : List FlowEdge) (r : Result (List FlowEdge) FlowError) → prefixed (es ++ fs) r ≡ prefixed es (prefixed fs r)
prefixed_both es fs (Ok xs) = ap (λ (ys : List FlowEdge). prefixed [] (Ok ys)) (append_assoc es fs xs)
prefixed_both es fs (Err e) = refl

dropped : {A : Type 0} (xs : List A) (i : ℕ) (d x : A) → i < length xs → x ≡ get_or xs i d → drop i xs ≡ x ∷ drop (i + 1) xs
dropped xs i d x h e = drop-cons xs i d h ∙ (ap (λ y. y ∷ drop (suc i) xs) (sym e) ∙ ap (λ n. x ∷ drop n xs) (sym (add-one i)))

module _ (s : Search) (k j frame : ℕ) where
  abbrev pub all_edges : List ℕ → List ℤ → Looked ℕ (List FlowEdge)
  all_edges cs vs = left_edges (program_in s) (plan_in s) (seen s) s.process k j frame cs vs

  abbrev pub cell_origin : ℕ → Looked ℕ Origin
  cell_origin c = local_origin (program_in s) (plan_in s) (seen s) s.process k (j + 1) frame c

  abbrev pub cell_edge : ℕ → ℤ → Origin → FlowEdge
  cell_edge c v o = left_from (record { frame = frame; cell = c }) v o

  with_first : (a : Looked ℕ (List FlowEdge)) (e e' : FlowEdge) (n o : ℕ) (r : Result (List FlowEdge) FlowError) → e ≡ e'
      → IsFound s a n o r → IsFound s (look_map (λ more. e ∷ more) a) n o (prefixed (e' ∷ []) r)
  with_first a e e' n o (Ok xs) same f =
      and_so s a xs (e ∷ a.found) (e' ∷ xs) n o f
      (ap (λ (y : FlowEdge). y ∷ a.found) same ∙ ap (λ (ys : List FlowEdge). e' ∷ ys) (is_given s a xs n o f))
  with_first a e e' n o (Err x) same f = failed_alone s a (e ∷ a.found) n o x f

  -- one more edge, and then the rest
  goes_on : (c : ℕ) (v : ℤ) (cs : List ℕ) (vs : List ℤ) (e' : FlowEdge) (from : Origin) (n m o : ℕ) (r : Result (List FlowEdge) FlowError)
      → e' ≡ cell_edge c v from → IsFound s (cell_origin c) n m (Ok from) → IsFound s (all_edges cs vs) m o r
      → IsFound s (all_edges (c ∷ cs) (v ∷ vs)) n o (prefixed (e' ∷ []) r)
  goes_on c v cs vs e' from n m o r same f g =
      with_first (after_look (cell_origin c) (all_edges cs vs)) (cell_edge c v (cell_origin c).found) e' n o r
      (ap (λ z. cell_edge c v z) (is_given s (cell_origin c) from n m f) ∙ sym same)
      (joined s (cell_origin c) (all_edges cs vs) from n m o r f g)

  fails : (c : ℕ) (v : ℤ) (cs : List ℕ) (vs : List ℤ) (n m : ℕ) (x : FlowError)
      → IsFound s (cell_origin c) n m (Err x) → IsFound s (all_edges (c ∷ cs) (v ∷ vs)) n m (Err x)
  fails c v cs vs n m x f =
      failed s (cell_origin c) (look_map (λ more. cell_edge c v (cell_origin c).found ∷ more) (all_edges cs vs)) n m x f

  -- ---- in the lists, from number i on

  no_replays : (cs : List ℕ) → (all_edges cs []).replays ≡ []
  no_replays [] = refl
  no_replays (c ∷ cs) = refl

  no_edges : (cs : List ℕ) → (all_edges cs []).found ≡ []
  no_edges [] = refl
  no_edges (c ∷ cs) = refl

  module _ (cs : List ℕ) (vs : List ℤ) (i n l : ℕ) (es : List FlowEdge)
      (so : (o : ℕ) (r : Result (List FlowEdge) FlowError) → IsFound s (all_edges (drop i cs) (drop i vs)) l o r
      → IsFound s (all_edges cs vs) n o (prefixed es r)) where
    rest_by : (ds : List ℕ) (ws : List ℤ) (o : ℕ) (r : Result (List FlowEdge) FlowError) → drop i cs ≡ ds → drop i vs ≡ ws
        → IsFound s (all_edges ds ws) l o r → IsFound s (all_edges (drop i cs) (drop i vs)) l o r
    rest_by ds ws o r a b f =
        subst (λ (z : List ℕ). IsFound s (all_edges z (drop i vs)) l o r) (sym a)
        (subst (λ (z : List ℤ). IsFound s (all_edges ds z) l o r) (sym b) f)

    pub next_left : (c : ℕ) (v : ℤ) (e : FlowEdge) (from : Origin) (now : List FlowEdge) (m : ℕ) → i < length cs → i < length vs → c ≡ get_or cs i 0 → v ≡ get_or vs i (pos 0)
        → now ≡ es ++ e ∷ [] → e ≡ cell_edge c v from → IsFound s (cell_origin c) l m (Ok from)
        → (o : ℕ) (r : Result (List FlowEdge) FlowError) → IsFound s (all_edges (drop (i + 1) cs) (drop (i + 1) vs)) m o r
        → IsFound s (all_edges cs vs) n o (prefixed now r)
    next_left c v e from now m hc hv ec ev push same f o r g =
        subst (λ (z : List FlowEdge). IsFound s (all_edges cs vs) n o (prefixed z r)) (sym push)
        (subst (λ z. IsFound s (all_edges cs vs) n o z) (sym (prefixed_both es (e ∷ []) r))
        (so o (prefixed (e ∷ []) r) (rest_by _ _ o (prefixed (e ∷ []) r) (dropped cs i 0 c hc ec) (dropped vs i (pos 0) v hv ev)
        (goes_on c v (drop (i + 1) cs) (drop (i + 1) vs) e from l m o r same f g))))

    pub fails_left : (c : ℕ) (v : ℤ) (x : FlowError) (m : ℕ) → i < length cs → i < length vs → c ≡ get_or cs i 0 → v ≡ get_or vs i (pos 0)
        → IsFound s (cell_origin c) l m (Err x) → IsFound s (all_edges cs vs) n m (Err x)
    fails_left c v x m hc hv ec ev f =
        so m (Err x) (rest_by _ _ m (Err x) (dropped cs i 0 c hc ec) (dropped vs i (pos 0) v hv ev) (fails c v (drop (i + 1) cs) (drop (i + 1) vs) l m x f))

    over : (a : Looked ℕ (List FlowEdge)) → a.replays ≡ [] → a.found ≡ [] → IsFound s a l l (Ok [])
    over a none is =
        subst (λ (z : List ℕ). IsFound s (record a { replays = z }) l l (Ok [])) (sym none) (nothing s a.found [] l is)

    whole : IsFound s (all_edges (drop i cs) (drop i vs)) l l (Ok []) → IsFound s (all_edges cs vs) n l (Ok es)
    whole f = subst (λ (z : List FlowEdge). IsFound s (all_edges cs vs) n l (Ok z)) (append-nil es) (so l (Ok []) f)

    pub all_left : min (length cs) (length vs) ≤ i → IsFound s (all_edges cs vs) n l (Ok es)
    all_left h = elim (cases_lt i (length cs)) [
      | inl short ↦
          let none : drop i vs ≡ [] = drop_all i vs (omega (arith, h, short)) in
          whole (over (all_edges (drop i cs) (drop i vs)) (ap (λ (z : List ℤ). (all_edges (drop i cs) z).replays) none ∙ no_replays (drop i cs))
          (ap (λ (z : List ℤ). (all_edges (drop i cs) z).found) none ∙ no_edges (drop i cs)))
      | inr long ↦
          let none : drop i cs ≡ [] = drop_all i cs long in
          whole (over (all_edges (drop i cs) (drop i vs)) (ap (λ (z : List ℕ). (all_edges z (drop i vs)).replays) none)
          (ap (λ (z : List ℕ). (all_edges z (drop i vs)).found) none))
    ]
