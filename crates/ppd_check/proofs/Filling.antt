-- A function or a process from its parts: its parameters, statements, returns, cells and entry.
use Rattle.std.proofs.Common.{◌≡◌, refl, sym, ap, subst, ◌∙◌, ℕ, ◌+◌, ◌<◌, ◌≤◌, arith, ◌-◌, nat_lt, Bool, true, false, if◌then◌else◌, List, [], ◌∷◌, ◌++◌, take, drop, length, get_or, Option, None, Some, MatchOption, fold}
use Rattle.ppd_parse.specs.declared.token.Kind.TheVariants as K
use Rattle.std.specs.List.{flat_map}
use Rattle.std.proofs.lemmas.List.{append_assoc, append-nil, length-append, take_more, take_all, drop_at, length-map}
use Rattle.std.proofs.lemmas.List.Concat.{flat_map-cons}
use Rattle.ppd_ast.specs.declared.limits.TheConstants.{MOST_LOCAL_CELLS}
use Rattle.ppd_ast.specs.declared.program.Body.{Body}
use Rattle.ppd_ast.specs.declared.program.Place.{Place}
use Rattle.ppd_ast.specs.declared.program.Stmt.{Stmt}
use Rattle.ppd_ast.specs.declared.program.Var.{Var}
use Rattle.ppd_parse.specs.declared.node.Node.{Node}
use Rattle.ppd_check.specs.declared.endings.Ending.{Ending}
use Rattle.ppd_check_names.specs.declared.fault.Cause.TheVariants.{TooMany}
use Rattle.ppd_check_names.specs.declared.fault.Fault.{Fault}
use Rattle.ppd_check_names.specs.declared.fault.Limit.TheVariants as L
use Rattle.ppd_check_names.specs.declared.frame.Frame.{Frame}
use Rattle.ppd_check_names.specs.declared.frame.Variable.{Variable}
use Rattle.ppd_check_names.specs.declared.writer.Site.{Site}
use Rattle.ppd_check_names.specs.declared.writer.Writer.{Writer}
use Rattle.ppd_check.specs.Bodies.{Parametered, Filled, WroteHeads}
use Rattle.ppd_check_stmts.specs.Code.{Code, join, count}
use Rattle.ppd_check.specs.Endings.{ending, body_returns, close_by}
use Rattle.ppd_check_names.specs.Faults.{first, first_of_both, if_so}
use Rattle.ppd_check_names.specs.Fitted.{fitted}
use Rattle.ppd_check_names.specs.Holding.{head_said}
use Rattle.ppd_check_names.specs.Names.{Scope, innermost}
use Rattle.ppd_check_names.specs.Nodes.{phrase_of, phrases_of, phrases_below, children_of}
use Rattle.ppd_check_names.specs.Reading.{Phrase, token, nowhere, phrase, last, kind, same_kind, as_token, as_names, as_block, name_of, params}
use Rattle.ppd_check.specs.Sources.{params_faults, head_code, head_frame, head_faults, entry, entered, vars, return_faults, close_code}
use Rattle.ppd_check_names.specs.Globals.{Head, past_cells}
use Rattle.ppd_check_stmts.specs.Statements.{row_code, row_faults, after_row}
use Rattle.ppd_check_names.specs.Frames.{after_cells, declared, twice_faults}
use Rattle.ppd_check_names.specs.Syntax.{Name, Block}
use Rattle.ppd_check_stmts.specs.Table.{flats, terms, stmts, numbers}
use Rattle.ppd_check_stmts.specs.Writing.{block_at, Wrote, Walked}
use Rattle.ppd_check_names.proofs.Declared.Counted.{end_cells, end_cells_more, past_cells_more}
use Rattle.ppd_check.proofs.Ended.{closed_by}
use Rattle.ppd_check_names.proofs.Found.First.{found_in_both}
use Rattle.ppd_check_stmts.proofs.Rows.Nested.{outer_declared, outer_row}
use Rattle.ppd_check_names.proofs.Declared.Parameters.{params_append, joined_names}
use Rattle.ppd_check.proofs.Returned.{PlainRow, plain_block, returns_told}
use Rattle.ppd_check_stmts.proofs.Table.Writing.{wrote_join, length_stmts}

-- one variable more
front_more : (vs : List Variable) (k : ℕ) (v : Variable) → k < length vs → v ≡ get_or vs k v → take k vs ++ v ∷ [] ≡ take (k + 1) vs
front_more vs k v l is = ap (λ w. take k vs ++ w ∷ []) is ∙ sym (take_more vs k v l)

-- Parameters one after another.

with_both : (xs ys : List Name) (f : Frame) → fold (declared None) f (xs ++ ys) ≡ fold (declared None) (fold (declared None) f xs) ys
with_both [] ys f = refl
with_both (x ∷ xs) ys f = with_both xs ys (declared None f x)

faults_both : (xs ys : List Name) (f : Frame) → params_faults (xs ++ ys) f ≡ params_faults xs f ++ params_faults ys (fold (declared None) f xs)
faults_both [] ys f = refl
faults_both (x ∷ xs) ys f =
    ap (λ l. twice_faults (innermost f.scopes) x ++ l) (faults_both xs ys (declared None f x))
    ∙ sym (append_assoc (twice_faults (innermost f.scopes) x) (params_faults xs (declared None f x)) (params_faults ys (fold (declared None) (declared None f x) xs)))

pub parametered_both : (xs ys : List Name) (f g h : Frame) (o p q : Option Fault) → Parametered xs f g o p → Parametered ys g h p q → Parametered (xs ++ ys) f h o q
parametered_both xs ys f g h o p q x y =
    record {
      frame = y.frame ∙ ap (λ k. fold (declared None) k ys) x.frame ∙ sym (with_both xs ys f);
      notes =
          found_in_both o p q (params_faults xs f) (params_faults ys g) x.notes y.notes
          ∙ ap (λ k. first_of_both o (first (params_faults xs f ++ params_faults ys k))) x.frame
          ∙ ap (λ l. first_of_both o (first l)) (sym (faults_both xs ys f));
    }

one_param : (p : Phrase) (b : Bool) → (if b then name_of (as_token p) ∷ [] else []) ≡ (if b then name_of (as_token p) ∷ params [] else params [])
one_param p true = refl
one_param p false = refl

pub parametered_more : (ps : List Phrase) (k : ℕ) (f g h : Frame) (o p q : Option Fault) → k < length ps → Parametered (params (take k ps)) f g o p
    → Parametered (if same_kind K.Name (kind (phrase ps k)) then name_of (as_token (phrase ps k)) ∷ [] else []) g h p q → Parametered (params (take (k + 1) ps)) f h o q
parametered_more ps k f g h o p q l x y =
    let c : Phrase = phrase ps k in
    subst (λ xs. Parametered xs f h o q) (sym (params_append (take k ps) (c ∷ [])) ∙ ap params (sym (take_more ps k (token nowhere) l)))
    (parametered_both (params (take k ps)) (params (c ∷ [])) f g h o p q x (subst (λ xs. Parametered xs g h p q) (one_param c (same_kind K.Name (kind c))) y))

pub parametered_all : (ps : List Phrase) (k : ℕ) (f g : Frame) (o p : Option Fault) → length ps ≤ k → Parametered (params (take k ps)) f g o p → Parametered (params ps) f g o p
parametered_all ps k f g o p h x = subst (λ l. Parametered (params l) f g o p) (take_all k ps h) x

pub parametered_whole : (ns : List Node) (i k : ℕ) (cs : List ℕ) (f g : Frame) (o p : Option Fault) → cs ≡ children_of ns i → k ≡ length cs → Parametered (params (take k (phrases_below ns i))) f g o p
    → Parametered (params (phrases_below ns i)) f g o p
unfolding phrases_below
parametered_whole ns i k cs f g o p is e x =
    let long : length (phrases_of ns (children_of ns i)) ≡ length cs = length-map (children_of ns i) (phrase_of ns) ∙ ap length (sym is) in
    parametered_all (phrases_of ns (children_of ns i)) k f g o p (omega (arith, e, long)) x

pub parametered_child : (ns : List Node) (cs : List ℕ) (i c : ℕ) (f g h : Frame) (o p q : Option Fault) → i < length cs → c ≡ get_or cs i c
    → Parametered (flat_map as_names (phrases_of ns (take i cs))) f g o p → Parametered (as_names (phrase_of ns c)) g h p q
    → Parametered (flat_map as_names (phrases_of ns (take (i + 1) cs))) f h o q
parametered_child ns cs i c f g h o p q l is x y =
    subst (λ xs. Parametered xs f h o q) joined (parametered_both (flat_map as_names (phrases_of ns (take i cs))) (as_names (phrase_of ns c)) f g h o p q x y)
  where
    joined : flat_map as_names (phrases_of ns (take i cs)) ++ as_names (phrase_of ns c) ≡ flat_map as_names (phrases_of ns (take (i + 1) cs))
    joined =
        ap (λ l. flat_map as_names (phrases_of ns (take i cs)) ++ l) (sym (append-nil (as_names (phrase_of ns c))))
        ∙ sym (joined_names ns (take i cs) (c ∷ []))
        ∙ ap (λ l. flat_map as_names (phrases_of ns l)) (ap (λ d. take i cs ++ d ∷ []) is ∙ sym (take_more cs i c l))

pub parametered_below : (ns : List Node) (i k : ℕ) (cs : List ℕ) (f g : Frame) (o p : Option Fault) → cs ≡ children_of ns i → length cs ≤ k
    → Parametered (flat_map as_names (phrases_of ns (take k cs))) f g o p → Parametered (flat_map as_names (phrases_below ns i)) f g o p
unfolding phrases_below
parametered_below ns i k cs f g o p is h x = subst (λ l. Parametered (flat_map as_names (phrases_of ns l)) f g o p) (take_all k cs h ∙ is) x

-- Each parameter is a variable, and the scopes outside stay.

pub params_count : (xs : List Name) (f : Frame) → length (fold (declared None) f xs).variables ≡ length f.variables + length xs
params_count [] f = omega arith
params_count (x ∷ xs) f =
    let one : length (declared None f x).variables ≡ length f.variables + 1 = length-append f.variables _ in
    let rest : length (fold (declared None) (declared None f x) xs).variables ≡ length (declared None f x).variables + length xs = params_count xs (declared None f x) in
    omega (arith, one, rest)

outer_params : (xs : List Name) (f : Frame) → drop 1 (fold (declared None) f xs).scopes ≡ drop 1 f.scopes
outer_params [] f = refl
outer_params (x ∷ xs) f = outer_params xs (declared None f x) ∙ outer_declared _ f.scopes

-- the scopes after a body are those before it
pub scopes_after : (h : Head) (scopes : List Scope) (f g k : Frame) (s : List Scope) → f ≡ entered scopes → g ≡ fold (declared None) f h.params → k ≡ after_row h.block.row g → s ≡ drop 1 k.scopes → s ≡ scopes
scopes_after h scopes f g k s e p r d =
    d
    ∙ ap (λ (x : Frame). drop 1 x.scopes) r
    ∙ outer_row h.block.row g
    ∙ ap (λ (x : Frame). drop 1 x.scopes) p
    ∙ outer_params h.params f
    ∙ ap (λ (x : Frame). drop 1 x.scopes) e

-- The block of a function or a process.

pub block_said : (ns : List Node) (i k : ℕ) (o : Option ℕ) → last (phrases_below ns i) ≡ phrase (phrases_below ns i) k
    → MatchOption o (phrase (phrases_below ns i) k ≡ token nowhere) (λ c. phrase (phrases_below ns i) k ≡ phrase_of ns c) → as_block (last (phrases_below ns i)) ≡ block_at ns o
block_said ns i k None e h = ap as_block (e ∙ h)
block_said ns i k (Some c) e h = ap as_block (e ∙ h)

-- the last child
pub last_child : (ns : List Node) (i k : ℕ) (cs : List ℕ) → cs ≡ children_of ns i → k ≡ length cs - 1 → last (phrases_below ns i) ≡ phrase (phrases_below ns i) k
unfolding phrases_below
last_child ns i k cs is e =
    let same : length (phrases_of ns (children_of ns i)) ≡ length cs = length-map (children_of ns i) (phrase_of ns) ∙ ap length (sym is) in
    ap (phrase (phrases_of ns (children_of ns i))) (ap (λ n. n - 1) same ∙ sym e)

-- A body's statements, returns and closing brace.

pub filled : (site : Site) (h : Head) (ns : List Node) (o : Option ℕ) (f g : Frame) (u v : Writer) (y : Option Fault) (w : Writer) (a b d : List ℕ) (inside : List Stmt) (n : ℕ)
    → h.block ≡ block_at ns o → n ≡ length u.stmts
    → Walked site (block_at ns o).row f g u v a b
    → inside ≡ drop n v.stmts
    → y ≡ first_of_both v.found (first (body_returns h.process h.gives (block_at ns o).close (ending (block_at ns o).row) inside))
    → Wrote site.body site.parent (close_by h.process (ending (block_at ns o).row) (block_at ns o).close) [] (record v { found = y }) w b d
    → Filled site h f g u w a d
filled site h ns o f g u v y w a b d inside n e is walked at noted closed =
    go (subst (λ (k : Block). Walked site k.row f g u v a b) (sym e) walked)
    (subst (λ (k : Block). y ≡ first_of_both v.found (first (body_returns h.process h.gives k.close (ending k.row) inside))) (sym e) noted)
    (subst (λ (k : Block). Wrote site.body site.parent (close_by h.process (ending k.row) k.close) [] (record v { found = y }) w b d) (sym e) closed)
  where
    told : Walked site h.block.row f g u v a b → body_returns h.process h.gives h.block.close (ending h.block.row) inside ≡ return_faults h
    told x =
        let ss : List Stmt = stmts site.body site.parent (length u.stmts) (length u.exprs) (row_code h.block.row f) in
        ap (body_returns h.process h.gives h.block.close (ending h.block.row)) (at ∙ ap (drop n) x.wrote.stmts ∙ drop_at u.stmts ss n (sym is))
        ∙ returns_told h f site.body site.parent (length u.stmts) (length u.exprs) (subst (λ (k : Block). PlainRow k.row) (sym e) (plain_block ns o))

    before : Walked site h.block.row f g u v a b → y ≡ first_of_both v.found (first (body_returns h.process h.gives h.block.close (ending h.block.row) inside))
        → Wrote site.body site.parent (row_code h.block.row f) (row_faults h.block.row f ++ return_faults h) u (record v { found = y }) a b
    before x z =
        record {
          exprs = x.wrote.exprs;
          stmts = x.wrote.stmts;
          row = x.wrote.row;
          found = found_in_both u.found v.found y (row_faults h.block.row f) (return_faults h) x.wrote.found (z ∙ ap (λ l. first_of_both v.found (first l)) (told x));
        }

    go : Walked site h.block.row f g u v a b → y ≡ first_of_both v.found (first (body_returns h.process h.gives h.block.close (ending h.block.row) inside))
        → Wrote site.body site.parent (close_by h.process (ending h.block.row) h.block.close) [] (record v { found = y }) w b d → Filled site h f g u w a d
    go x z k =
        record {
          wrote =
              subst (λ fs. Wrote site.body site.parent (join (row_code h.block.row f) (close_code h)) fs u w a d) (append-nil (row_faults h.block.row f ++ return_faults h))
              (wrote_join site.body site.parent (row_code h.block.row f) (close_code h) (row_faults h.block.row f ++ return_faults h) [] u (record v { found = y }) w a b d (before x z)
              (subst (λ c. Wrote site.body site.parent c [] (record v { found = y }) w b d) (sym (closed_by h)) k));
          frame = x.frame;
        }

pub filled_from : (site : Site) (process : Bool) (ps : List Phrase) (ns : List Node) (o : Option ℕ) (f g : Frame) (u v : Writer) (y : Option Fault) (w : Writer) (a b d : List ℕ) (inside : List Stmt) (n : ℕ)
    (gives : Bool) (close : Place) (end : Ending)
    → as_block (last ps) ≡ block_at ns o → n ≡ length u.stmts → Walked site (block_at ns o).row f g u v a b → inside ≡ drop n v.stmts
    → gives ≡ (head_said process ps).gives → close ≡ (block_at ns o).close → end ≡ ending (block_at ns o).row
    → y ≡ first_of_both v.found (first (body_returns process gives close end inside))
    → Wrote site.body site.parent (close_by process end close) [] (record v { found = y }) w b d
    → Filled site (head_said process ps) f g u w a d
filled_from site process ps ns o f g u v y w a b d inside n gives close end e is walked at gs cl en noted closed =
    filled site (head_said process ps) ns o f g u v y w a b d inside n e is walked at
    (noted
    ∙ ap (λ (x : Bool). first_of_both v.found (first (body_returns process x close end inside))) gs
    ∙ ap (λ (x : Place). first_of_both v.found (first (body_returns process (head_said process ps).gives x end inside))) cl
    ∙ ap (λ (x : Ending). first_of_both v.found (first (body_returns process (head_said process ps).gives (block_at ns o).close x inside))) en)
    (subst (λ (x : Place). Wrote site.body site.parent (close_by process (ending (block_at ns o).row) x) [] (record v { found = y }) w b d) cl
    (subst (λ (x : Ending). Wrote site.body site.parent (close_by process x close) [] (record v { found = y }) w b d) en closed))

-- The cells of a body's variables.

pub cells_more : (vs : List Variable) (k cells next : ℕ) (v : Variable) (o p q : Option Fault) → k < length vs → v ≡ get_or vs k v → cells ≡ end_cells 0 (take k vs) → next ≡ after_cells cells v.length
    → p ≡ first_of_both o (first (past_cells MOST_LOCAL_CELLS L.Locals 0 (take k vs))) → q ≡ first_of_both p (first (if_so (nat_lt MOST_LOCAL_CELLS next) v.place (TooMany L.Locals)))
    → q ≡ first_of_both o (first (past_cells MOST_LOCAL_CELLS L.Locals 0 (take (k + 1) vs)))
cells_more vs k cells next v o p q l is c e h i =
    let front : List Variable = take k vs in
    found_in_both o p q (past_cells MOST_LOCAL_CELLS L.Locals 0 front) (if_so (nat_lt MOST_LOCAL_CELLS next) v.place (TooMany L.Locals)) h i
    ∙ ap (λ n. first_of_both o (first (past_cells MOST_LOCAL_CELLS L.Locals 0 front ++ if_so (nat_lt MOST_LOCAL_CELLS n) v.place (TooMany L.Locals)))) (e ∙ ap (λ n. after_cells n v.length) c)
    ∙ ap (λ x. first_of_both o (first x)) (sym (past_cells_more MOST_LOCAL_CELLS L.Locals 0 front v) ∙ ap (past_cells MOST_LOCAL_CELLS L.Locals 0) (front_more vs k v l is))

pub cells_on : (vs : List Variable) (k cells next : ℕ) (v : Variable) → k < length vs → v ≡ get_or vs k v → cells ≡ end_cells 0 (take k vs) → next ≡ after_cells cells v.length → next ≡ end_cells 0 (take (k + 1) vs)
cells_on vs k cells next v l is c e = e ∙ ap (λ n. after_cells n v.length) c ∙ sym (end_cells_more 0 (take k vs) v) ∙ ap (end_cells 0) (front_more vs k v l is)

vars_push : (n : ℕ) (vs : List Variable) (v : Variable) → vars n (vs ++ v ∷ []) ≡ vars n vs ++ record { name = v.name; base = end_cells n vs; len = v.length } ∷ []
vars_push n [] v = refl
vars_push n (w ∷ vs) v = ap (λ l. record { name = w.name; base = n; len = w.length } ∷ l) (vars_push (after_cells n w.length) vs v)

pub vars_more : (vs : List Variable) (k base : ℕ) (v : Variable) (name : List ℕ) (old new : List Var) → k < length vs → v ≡ get_or vs k v → base ≡ end_cells 0 (take k vs) → name ≡ v.name
    → old ≡ vars 0 (take k vs) → new ≡ old ++ record { name = name; base = base; len = v.length } ∷ [] → new ≡ vars 0 (take (k + 1) vs)
vars_more vs k base v name old new l is c m h e =
    e
    ∙ ap (λ x. x ++ record { name = name; base = base; len = v.length } ∷ []) h
    ∙ ap (λ n. vars 0 (take k vs) ++ record { name = name; base = n; len = v.length } ∷ []) c
    ∙ ap (λ t. vars 0 (take k vs) ++ record { name = t; base = end_cells 0 (take k vs); len = v.length } ∷ []) m
    ∙ sym (vars_push 0 (take k vs) v)
    ∙ ap (vars 0) (front_more vs k v l is)

-- A body from its parts.

flat_one : {X A : Type 0} (f : X → List A) (x : X) → flat_map f (x ∷ []) ≡ f x
flat_one f x = flat_map-cons f x [] ∙ append-nil (f x)

-- an entry of the table, by what differs from head to head
abbrev entry_of : Head → (params cells first end : ℕ) → List Var → List ℕ → Body
entry_of h params cells first end locals top =
    record { name = h.name.text; process = h.process; params = params; value = h.gives; cells = cells; locals = locals; top = top; first = first; end = end }

entry_same : (h : Head) (p p' c c' n n' e e' : ℕ) (ls ls' : List Var) (top top' : List ℕ) → p ≡ p' → c ≡ c' → n ≡ n' → e ≡ e' → ls ≡ ls' → top ≡ top' → entry_of h p c n e ls top ≡ entry_of h p' c' n' e' ls' top'
entry_same h p p' c c' n n' e e' ls ls' top top' i j k l m o =
    ap (λ x. entry_of h x c n e ls top) i
    ∙ ap (λ x. entry_of h p' x n e ls top) j
    ∙ ap (λ x. entry_of h p' c' x e ls top) k
    ∙ ap (λ x. entry_of h p' c' n' x ls top) l
    ∙ ap (λ x. entry_of h p' c' n' e' x top) m
    ∙ ap (λ x. entry_of h p' c' n' e' ls' x) o

-- a body's faults, in their parts
parts_joined : (p r t c : List Fault) → (p ++ (r ++ t)) ++ c ≡ p ++ (r ++ (t ++ c))
parts_joined p r t c = append_assoc p (r ++ t) c ∙ ap (λ l. p ++ l) (append_assoc r t c)

pub body_wrote : (scopes : List Scope) (h : Head) (site : Site) (f g k : Frame) (u v : Writer) (x z : Option Fault) (top : List ℕ) (bs cs : List Body) (b : Body) (p n e : ℕ)
    → scopes ≡ innermost scopes ∷ [] → f ≡ entered scopes → Parametered h.params f g u.found x → Filled site h g k (record u { found = x }) v [] top
    → z ≡ first_of_both v.found (first (past_cells MOST_LOCAL_CELLS L.Locals 0 k.variables))
    → site ≡ record { body = fitted 16 (length bs); parent = None } → p ≡ fitted 16 (length g.variables) → n ≡ length u.stmts → e ≡ length v.stmts
    → b ≡ entry_of h p k.cells n e (vars 0 k.variables) top → cs ≡ bs ++ b ∷ []
    → WroteHeads (innermost scopes) (h ∷ []) u (record v { found = z }) bs cs
body_wrote scopes h site f g k u v x z top bs cs b p n e one begun pm fl cells at pe ne ee be ce = go (subst (λ (i : Frame). Filled site h i k (record u { found = x }) v [] top) entered_as fl)
  where
    entered_as : g ≡ entry (innermost scopes) h
    entered_as = pm.frame ∙ ap (λ k. fold (declared None) k h.params) (begun ∙ ap entered one)

    known : length g.variables ≡ length h.params
    known =
        let many : length (fold (declared None) (entered ((innermost scopes) ∷ [])) h.params).variables ≡ 0 + length h.params = params_count h.params (entered ((innermost scopes) ∷ [])) in
        ap (λ (i : Frame). length i.variables) entered_as ∙ many ∙ omega arith

    started : x ≡ first_of_both u.found (first (params_faults h.params (entered ((innermost scopes) ∷ []))))
    started = pm.notes ∙ ap (λ i. first_of_both u.found (first (params_faults h.params i))) (begun ∙ ap entered one)

    go : Filled site h (entry (innermost scopes) h) k (record u { found = x }) v [] top → WroteHeads (innermost scopes) (h ∷ []) u (record v { found = z }) bs cs
    go y =
        let scope : Scope = innermost scopes in
        let code : Code = head_code scope h in
        let w : Wrote site.body site.parent code (row_faults h.block.row (entry scope h) ++ return_faults h) (record u { found = x }) v [] top = y.wrote in
        let long : length v.stmts ≡ length u.stmts + count code =
        ap length w.stmts ∙ length-append u.stmts (stmts site.body site.parent (length u.stmts) (length u.exprs) code)
        ∙ ap (λ i. length u.stmts + i) (length_stmts site.body site.parent (length u.stmts) (length u.exprs) code) in
        record {
          exprs = w.exprs ∙ ap (λ ts. u.exprs ++ flats (length u.exprs) ts) (sym (flat_one terms code));
          stmts =
              w.stmts
              ∙ ap (λ (i : Site). u.stmts ++ stmts i.body i.parent (length u.stmts) (length u.exprs) code) at
              ∙ ap (λ l. u.stmts ++ l) (sym (append-nil (stmts (fitted 16 (length bs)) None (length u.stmts) (length u.exprs) code)));
          bodies =
              ce
              ∙ ap (λ i. bs ++ i ∷ [])
              (be
              ∙ entry_same h p (fitted 16 (length h.params)) k.cells (head_frame scope h).cells n (length u.stmts) e (length u.stmts + count code)
              (vars 0 k.variables) (vars 0 (head_frame scope h).variables) top (numbers (length u.stmts) code)
              (pe ∙ ap (fitted 16) known) (ap (λ (i : Frame). i.cells) y.frame) ne (ee ∙ long) (ap (λ (i : Frame). vars 0 i.variables) y.frame) w.row);
          found =
              found_in_both u.found v.found z
              (params_faults h.params (entered (scope ∷ [])) ++ (row_faults h.block.row (entry scope h) ++ return_faults h)) (past_cells MOST_LOCAL_CELLS L.Locals 0 k.variables)
              (found_in_both u.found x v.found (params_faults h.params (entered (scope ∷ []))) (row_faults h.block.row (entry scope h) ++ return_faults h) started w.found)
              cells
              ∙ ap (λ l. first_of_both u.found (first l))
              (parts_joined (params_faults h.params (entered (scope ∷ []))) (row_faults h.block.row (entry scope h)) (return_faults h) (past_cells MOST_LOCAL_CELLS L.Locals 0 k.variables)
              ∙ ap (λ (i : Frame). params_faults h.params (entered (scope ∷ [])) ++ (row_faults h.block.row (entry scope h) ++ (return_faults h ++ past_cells MOST_LOCAL_CELLS L.Locals 0 i.variables))) y.frame
              ∙ sym (flat_one (head_faults scope) h));
        }

-- a body's numbers under another name
pub filled_row : (site : Site) (h : Head) (f g : Frame) (u v : Writer) (ids a b : List ℕ) → b ≡ a → Filled site h f g u v ids a → Filled site h f g u v ids b
filled_row site h f g u v ids a b e x = subst (λ (l : List ℕ). Filled site h f g u v ids l) (sym e) x

pub body_from : (scopes : List Scope) (h : Head) (site : Site) (f g k : Frame) (u v : Writer) (x z : Option Fault) (start top : List ℕ) (bs cs : List Body) (p n e : ℕ) (name : List ℕ) (value : Bool) (locals : List Var)
    → scopes ≡ innermost scopes ∷ [] → f ≡ entered scopes → Parametered h.params f g u.found x → start ≡ [] → Filled site h g k (record u { found = x }) v start top
    → z ≡ first_of_both v.found (first (past_cells MOST_LOCAL_CELLS L.Locals 0 k.variables))
    → site ≡ record { body = fitted 16 (length bs); parent = None } → p ≡ fitted 16 (length g.variables) → n ≡ length u.stmts → e ≡ length v.stmts
    → name ≡ h.name.text → value ≡ h.gives → locals ≡ vars 0 k.variables
    → cs ≡ bs ++ record { name = name; process = h.process; params = p; value = value; cells = k.cells; locals = locals; top = top; first = n; end = e } ∷ []
    → WroteHeads (innermost scopes) (h ∷ []) u (record v { found = z }) bs cs
body_from scopes h site f g k u v x z start top bs cs p n e name value locals one begun pm empty fl cells at pe ne ee me ve le ce =
    body_wrote scopes h site f g k u v x z top bs cs (record { name = name; process = h.process; params = p; value = value; cells = k.cells; locals = locals; top = top; first = n; end = e }) p n e
    one begun pm (subst (λ (l : List ℕ). Filled site h g k (record u { found = x }) v l top) empty fl) cells at pe ne ee
    (ap (λ (t : List ℕ). record { name = t; process = h.process; params = p; value = value; cells = k.cells; locals = locals; top = top; first = n; end = e }) me
    ∙ ap (λ (t : Bool). record { name = h.name.text; process = h.process; params = p; value = t; cells = k.cells; locals = locals; top = top; first = n; end = e }) ve
    ∙ ap (λ (t : List Var). record { name = h.name.text; process = h.process; params = p; value = h.gives; cells = k.cells; locals = t; top = top; first = n; end = e }) le)
    ce
