-- Functions and processes at nodes, with their counts of parameters.
use Rattle.std.proofs.Common.{◌≡◌, refl, sym, ap, subst, ◌∙◌, ℕ, ◌+◌, ◌<◌, ◌≤◌, arith, Bool, true, false, if◌then◌else◌, List, [], ◌∷◌, ◌++◌, take, length, get_or, Option}
use Rattle.ppd_parse.specs.declared.token.Kind.TheVariants as K
use Rattle.std.specs.List.{flat_map}
use Rattle.std.proofs.lemmas.List.{take_more, map-append, length-append, length-map, take_all}
use Rattle.std.proofs.lemmas.List.Concat.{flat_map-append}
use Rattle.ppd_ast.specs.declared.limits.TheConstants.{MOST_FUNCTIONS, MOST_PROCESSES}
use Rattle.ppd_parse.specs.declared.node.Node.{Node}
use Rattle.ppd_parse.specs.declared.symbol.Rule.TheVariants as R
use Rattle.ppd_check_names.specs.declared.fault.Fault.{Fault}
use Rattle.ppd_check_names.specs.declared.fault.Limit.TheVariants as L
use Rattle.ppd_check_names.specs.declared.globals.Globals.{Globals}
use Rattle.ppd_check_names.specs.Faults.{first, first_of_both}
use Rattle.ppd_check_names.specs.Syntax.{Name}
use Rattle.ppd_check_names.specs.Reading.{Phrase, token, nowhere, phrase, last, kind, same_kind, as_token, as_names, as_block, as_items, name_of, name_at, params}
use Rattle.ppd_check_names.specs.Nodes.{phrase_of, phrases_of, phrases_below, children_of, SaysBy}
use Rattle.ppd_check_names.specs.Declaring.{with_function, with_process, twice, counted}
use Rattle.ppd_check_names.specs.Holding.{head_of, Declares}
use Rattle.ppd_check_names.proofs.Declared.Declarations.{declares_function, declares_process}

-- Names among phrases.

params_cons : (q : Phrase) (ps qs : List Phrase) → params (ps ++ qs) ≡ params ps ++ params qs → (b : Bool)
    → (if b then name_of (as_token q) ∷ params (ps ++ qs) else params (ps ++ qs)) ≡ (if b then name_of (as_token q) ∷ params ps else params ps) ++ params qs
params_cons q ps qs e true = ap (λ l. name_of (as_token q) ∷ l) e
params_cons q ps qs e false = e

pub params_append : (ps qs : List Phrase) → params (ps ++ qs) ≡ params ps ++ params qs
params_append [] qs = refl
params_append (p ∷ ps) qs = params_cons p ps qs (params_append ps qs) (same_kind K.Name (kind p))

one_param : (x : Name) (b : Bool) → length (if b then x ∷ [] else []) ≡ (if b then 1 else 0)
one_param x true = refl
one_param x false = refl

pub names_more : (ps : List Phrase) (k m n s : ℕ) → k < length ps → m ≡ length (params (take k ps)) → n ≡ (if same_kind K.Name (kind (phrase ps k)) then 1 else 0) → s ≡ m + n
    → s ≡ length (params (take (k + 1) ps))
names_more ps k m n s h a b e =
    let q : Phrase = phrase ps k in
    e
    ∙ ap (λ i. i + n) a
    ∙ ap (λ i. length (params (take k ps)) + i) (b ∙ sym (one_param (name_of (as_token q)) (same_kind K.Name (kind q))))
    ∙ sym (length-append (params (take k ps)) (params (q ∷ [])))
    ∙ ap length (sym (params_append (take k ps) (q ∷ [])))
    ∙ ap (λ l. length (params l)) (sym (take_more ps k (token nowhere) h))

pub below_count : (ns : List Node) (i k : ℕ) (cs : List ℕ) → cs ≡ children_of ns i → k < length cs → k < length (phrases_below ns i)
unfolding phrases_below
below_count ns i k cs is h = subst (λ n. k < n) (ap length is ∙ sym (length-map (children_of ns i) (phrase_of ns))) h

pub names_all : (ns : List Node) (i k m : ℕ) (cs : List ℕ) → cs ≡ children_of ns i → k ≡ length cs → m ≡ length (params (take k (phrases_below ns i))) → m ≡ length (params (phrases_below ns i))
unfolding phrases_below
names_all ns i k m cs is e a =
    let long : length (phrases_of ns (children_of ns i)) ≡ length (children_of ns i) = length-map (children_of ns i) (phrase_of ns) in
    let same : length cs ≡ length (children_of ns i) = ap length is in
    a ∙ ap (λ l. length (params l)) (take_all k (phrases_of ns (children_of ns i)) (omega (arith, e, long, same)))

-- Parameters of children.

pub joined_names : (ns : List Node) (cs ds : List ℕ) → flat_map as_names (phrases_of ns (cs ++ ds)) ≡ flat_map as_names (phrases_of ns cs) ++ flat_map as_names (phrases_of ns ds)
joined_names ns cs ds =
    ap (flat_map as_names) (map-append (phrase_of ns) cs ds) ∙ flat_map-append as_names (phrases_of ns cs) (phrases_of ns ds)

pub params_more : (ns : List Node) (cs : List ℕ) (i c m n s : ℕ) → i < length cs → c ≡ get_or cs i c → m ≡ length (flat_map as_names (phrases_of ns (take i cs)))
    → n ≡ length (as_names (phrase_of ns c)) → s ≡ m + n → s ≡ length (flat_map as_names (phrases_of ns (take (i + 1) cs)))
params_more ns cs i c m n s h is a b e =
    e
    ∙ ap (λ j. j + n) a
    ∙ ap (λ j. length (flat_map as_names (phrases_of ns (take i cs))) + j) (b ∙ ap length (sym (single (as_names (phrase_of ns c)))))
    ∙ sym (length-append (flat_map as_names (phrases_of ns (take i cs))) (flat_map as_names (phrases_of ns (c ∷ []))))
    ∙ ap length (sym (joined_names ns (take i cs) (c ∷ [])))
    ∙ ap (λ l. length (flat_map as_names (phrases_of ns l))) (ap (λ d. take i cs ++ d ∷ []) is ∙ sym (take_more cs i c h))
  where
    single : (l : List Name) → l ++ [] ≡ l
    single [] = refl
    single (x ∷ l) = ap (λ t. x ∷ t) (single l)

pub params_all : (ns : List Node) (i k m : ℕ) (cs : List ℕ) → cs ≡ children_of ns i → length cs ≤ k → m ≡ length (flat_map as_names (phrases_of ns (take k cs)))
    → m ≡ length (flat_map as_names (phrases_below ns i))
unfolding phrases_below
params_all ns i k m cs is h a = a ∙ ap (λ l. length (flat_map as_names (phrases_of ns l))) (take_all k cs h ∙ is)

-- A function and a process at a node.

pub declares_function_at : (ns : List Node) (i : ℕ) (g : Bool) (x : Name) (n : ℕ) (old new : Globals) (f f' : Option Fault)
    → i < length ns → SaysBy R.Function (phrases_below ns i) (phrase_of ns i)
    → g ≡ same_kind K.IntWord (kind (phrase (phrases_below ns i) 0)) → x ≡ name_at (phrases_below ns i) 1 → n ≡ length (flat_map as_names (phrases_below ns i))
    → new ≡ with_function i x n g old → f' ≡ first_of_both f (first (twice x old ++ counted MOST_FUNCTIONS (length old.functions) L.Functions x.place))
    → Declares ns (as_items (phrase_of ns i)) old new f f'
declares_function_at ns i g x n old new f f' l says a b c e w =
    let ps : List Phrase = phrases_below ns i in
    subst (λ is. Declares ns is old new f f') (sym (ap as_items says))
    (declares_function ns i (same_kind K.IntWord (kind (phrase ps 0))) (name_at ps 1) (flat_map as_names ps) (as_block (last ps)) old new f f'
    (record { within = l; said = ap (λ p. head_of (as_items p)) says })
    (ap as_items says)
    (e ∙ ap (λ y. with_function i y n g old) b ∙ ap (λ m. with_function i (name_at ps 1) m g old) c ∙ ap (λ t. with_function i (name_at ps 1) (length (flat_map as_names ps)) t old) a)
    (w ∙ ap (λ y. first_of_both f (first (twice y old ++ counted MOST_FUNCTIONS (length old.functions) L.Functions y.place))) b))

pub declares_process_at : (ns : List Node) (i : ℕ) (x : Name) (old new : Globals) (f f' : Option Fault)
    → i < length ns → SaysBy R.Process (phrases_below ns i) (phrase_of ns i) → x ≡ name_at (phrases_below ns i) 1
    → new ≡ with_process i x old → f' ≡ first_of_both f (first (twice x old ++ counted MOST_PROCESSES (length old.processes) L.Processes x.place))
    → Declares ns (as_items (phrase_of ns i)) old new f f'
declares_process_at ns i x old new f f' l says b e w =
    let ps : List Phrase = phrases_below ns i in
    subst (λ is. Declares ns is old new f f') (sym (ap as_items says))
    (declares_process ns i (name_at ps 1) (as_block (last ps)) old new f f'
    (record { within = l; said = ap (λ p. head_of (as_items p)) says })
    (ap as_items says)
    (e ∙ ap (λ y. with_process i y old) b)
    (w ∙ ap (λ y. first_of_both f (first (twice y old ++ counted MOST_PROCESSES (length old.processes) L.Processes y.place))) b))
