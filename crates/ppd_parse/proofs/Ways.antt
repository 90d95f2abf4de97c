-- What is read of the language's phrases that the parser's grammar splits in other ways.
use Rattle.std.proofs.Common.{◌≡◌, ℕ, true, List, [], ◌∷◌, ◌++◌, length, refl, sym, ◌∙◌, ap, subst, append_assoc}
use Rattle.ppd_parse.specs.declared.token.Kind.TheVariants as K
use Rattle.ppd_parse.specs.declared.symbol.Level.{Level}
use Rattle.ppd_parse.specs.declared.symbol.Level.TheVariants as L
use Rattle.ppd_parse.specs.declared.symbol.Rule.TheVariants as R
use Rattle.ppd_parse.specs.declared.symbol.Symbol.{Symbol}
use Rattle.ppd_parse.specs.declared.symbol.Symbol.TheVariants as S
use Rattle.ppd_parse.specs.declared.symbol.At.{At}
use Rattle.ppd_parse.specs.declared.symbol.Part.{Part}
use Rattle.ppd_parse.specs.declared.symbol.Part.TheVariants as P
use Rattle.ppd_parse.specs.declared.symbol.Want.TheVariants.{Get}
use Rattle.ppd_parse.specs.Grammar.{Shape, leaf, node, forest, close, Marked, kind_at, is_operator, deeper, inside, parts, operand_parts, MayStand, wants_in, Reads, ReadsAll, exact, operator, wrap, by, nothing, next, operand, chain_end, chain_more, expr, expr_rest, other_expr, call_or_name, named_call, named_expr, place, no_index, index, unary_place, unary_other, change, assign, add, subtract, increase, decrease, stmt_name, rest_call, rest_element, rest_scalar, rest_assign, rest_add, rest_subtract, rest_increase, rest_decrease, assigned_recv, assigned_name, assigned_other, assigned_call, assigned_expr}
use Rattle.ppd_parse.proofs.Vocabulary.{NextIsNot}
use Rattle.ppd_parse.proofs.Usual.{close_front}
use Rattle.ppd_parse.proofs.Walk.{closed_answer, closed_change}
use Rattle.ppd_parse.proofs.Unfolded.{join}
use Rattle.ppd_parse.proofs.Given.{Gives, Rows, here, below, token_here, token_below, one, cons, free, plain_by, nothing_by, node_by, close_rows, close_own, Next, next_left, next_right, is_not, other_kind, is_opening, binds, binds_sum, binds_compare, binds_equal, binds_and}

-- ---- places

-- an index, or none
pub data IndexWays (a : At) : List Marked → List Shape → List Marked → Type 0 where
  scalar : {ts : List Marked} → NextIsNot K.LeftBracket ts → IndexWays a ts [] ts
  element : {x y : Marked} {ts rest : List Marked} {e : List Shape} → kind_at x ≡ K.LeftBracket → x.at ≡ deeper a → Gives S.Expr (deeper a) ts e (y ∷ rest) → kind_at y ≡ K.RightBracket → y.at ≡ deeper a → IndexWays a (x ∷ ts) (leaf x.token ∷ (e ++ leaf y.token ∷ [])) rest

pub data PlaceWays (a : At) : List Marked → List Shape → List Marked → Type 0 where
  place_ways : {x : Marked} {ts rest : List Marked} {t : List Shape} → kind_at x ≡ K.Name → x.at ≡ a → IndexWays a ts t rest → PlaceWays a (x ∷ ts) (node R.Place (forest (leaf x.token ∷ t)) ∷ []) rest

no_index_next : (ts : List Marked) → NextIsNot K.LeftBracket ts → MayStand no_index ts
no_index_next [] n = tt
no_index_next (x ∷ ts) n = n

pub index_gives : {a : At} {ts rest : List Marked} {t : List Shape} → IndexWays a ts t rest → Gives S.PlaceEnd a ts t rest
index_gives (scalar {ts = ts} n) = nothing_by no_index refl (no_index_next ts n)
index_gives (element e m g f n) = plain_by index tt (cons (token_below e m) (cons (below g) (one (token_below f n))))

pub place_gives : {a : At} {ts rest : List Marked} {t : List Shape} → PlaceWays a ts t rest → Gives S.Place a ts t rest
place_gives (place_ways e m w) = node_by place R.Place (P.Here (S.Exact K.Name) ∷ P.Here S.PlaceEnd ∷ []) refl (λ b n. refl) tt (cons (token_here e m) (one (here (index_gives w))))

-- ---- expressions

pub data UnaryWays (a : At) : List Marked → List Shape → List Marked → Type 0 where
  place_way : {ts rest : List Marked} {t : List Shape} → PlaceWays a ts t rest → Next is_opening rest → UnaryWays a ts (node R.Unary (forest t) ∷ []) rest
  other_way : {ts rest : List Marked} {t : List Shape} → Gives S.OtherUnary a ts t rest → UnaryWays a ts t rest

pub unary_gives : {a : At} {ts rest : List Marked} {t : List Shape} → UnaryWays a ts t rest → Gives S.Unary a ts t rest
unary_gives {ts = ts} (place_way w n) = node_by unary_place R.Unary (P.Here S.Place ∷ []) refl (λ b n. refl) (free unary_place (λ k. tt) ts) (one (here (place_gives w)))
unary_gives {ts = ts} (other_way g) = plain_by unary_other (free unary_other (λ k. tt) ts) (one (here g))

abbrev pub chains_below : Level → List Part
chains_below L.Product = []
chains_below L.Sum = P.Here (S.Chain L.Product) ∷ []
chains_below L.Compare = P.Here (S.Chain L.Product) ∷ P.Here (S.Chain L.Sum) ∷ []
chains_below L.Equal = P.Here (S.Chain L.Product) ∷ P.Here (S.Chain L.Sum) ∷ P.Here (S.Chain L.Compare) ∷ []
chains_below L.And = P.Here (S.Chain L.Product) ∷ P.Here (S.Chain L.Sum) ∷ P.Here (S.Chain L.Compare) ∷ P.Here (S.Chain L.Equal) ∷ []
chains_below L.Or = P.Here (S.Chain L.Product) ∷ P.Here (S.Chain L.Sum) ∷ P.Here (S.Chain L.Compare) ∷ P.Here (S.Chain L.Equal) ∷ P.Here (S.Chain L.And) ∷ []

abbrev pub chains : Level → List Part
chains L.Product = chains_below L.Sum
chains L.Sum = chains_below L.Compare
chains L.Compare = chains_below L.Equal
chains L.Equal = chains_below L.And
chains L.And = chains_below L.Or
chains L.Or = parts expr_rest

-- a first operand, and then chains of operators
pub data Ways (ps : List Part) (a : At) : List Marked → List Shape → List Marked → Type 0 where
  ways : {ts mid rest : List Marked} {t u : List Shape} → UnaryWays a ts u mid → ((s : List Shape) → ReadsAll (wants_in a (length s) ps) (s ++ u) mid (s ++ t) rest) → Ways ps a ts t rest

-- the same, where the chain of a level goes on
pub data TierWays (l : Level) (a : At) : List Marked → List Shape → List Marked → Type 0 where
  tier_ways : {ts mid rest : List Marked} {t u : List Shape} → UnaryWays a ts u mid → ((s v : List Shape) (end : List Marked) → Reads (Get (S.Chain l) a (length s)) (s ++ t) rest v end → ReadsAll (wants_in a (length s) (chains l)) (s ++ u) mid v end) → TierWays l a ts t rest

chain_stands : (l : Level) (ts : List Marked) → Next (is_operator l) ts → MayStand (chain_end l) ts
chain_stands l [] n = tt
chain_stands l (x ∷ ts) n = n

chain_ends : (l : Level) (a : At) (b : ℕ) (s : List Shape) (ts : List Marked) → Next (is_operator l) ts → Reads (Get (S.Chain l) a b) s ts s ts
chain_ends l a b s ts n = by (chain_end l) (chain_stands l ts n) nothing

pub ended : (l : Level) {a : At} {ts rest : List Marked} {t : List Shape} → TierWays l a ts t rest → Next (is_operator l) rest → Ways (chains l) a ts t rest
ended l {a} {rest = rest} {t = t} (tier_ways w k) n = ways w (λ s. k s (s ++ t) rest (chain_ends l a (length s) (s ++ t) rest n))

-- what binds more strongly than a level
abbrev pub BelowGoal : Level → At → List Marked → List Shape → List Marked → Type 0
BelowGoal L.Product a ts t rest = Next is_opening rest → UnaryWays a ts t rest
BelowGoal L.Sum a ts t rest = Next is_opening rest → TierWays L.Product a ts t rest
BelowGoal L.Compare a ts t rest = Next binds_sum rest → TierWays L.Sum a ts t rest
BelowGoal L.Equal a ts t rest = Next binds_compare rest → TierWays L.Compare a ts t rest
BelowGoal L.And a ts t rest = Next binds_equal rest → TierWays L.Equal a ts t rest
BelowGoal L.Or a ts t rest = Next binds_and rest → TierWays L.And a ts t rest

pub below_ways : (l : Level) {a : At} {ts rest : List Marked} {t : List Shape} → BelowGoal l a ts t rest → Next (binds l) rest → Ways (chains_below l) a ts t rest
below_ways L.Product g n = ways (g n) (λ s. nothing)
below_ways L.Sum {rest = rest} g n = ended L.Product (g (next_right (is_operator L.Product) is_opening rest n)) (next_left (is_operator L.Product) is_opening rest n)
below_ways L.Compare {rest = rest} g n = ended L.Sum (g (next_right (is_operator L.Sum) binds_sum rest n)) (next_left (is_operator L.Sum) binds_sum rest n)
below_ways L.Equal {rest = rest} g n = ended L.Compare (g (next_right (is_operator L.Compare) binds_compare rest n)) (next_left (is_operator L.Compare) binds_compare rest n)
below_ways L.And {rest = rest} g n = ended L.Equal (g (next_right (is_operator L.Equal) binds_equal rest n)) (next_left (is_operator L.Equal) binds_equal rest n)
below_ways L.Or {rest = rest} g n = ended L.And (g (next_right (is_operator L.And) binds_and rest n)) (next_left (is_operator L.And) binds_and rest n)

join_chain : (l : Level) {a : At} {b : ℕ} {ts mid rest : List Marked} {s t u : List Shape} → ReadsAll (wants_in a b (chains_below l)) s ts t mid → Reads (Get (S.Chain l) a b) t mid u rest → ReadsAll (wants_in a b (chains l)) s ts u rest
join_chain L.Product r c = join r (next c nothing)
join_chain L.Sum r c = join r (next c nothing)
join_chain L.Compare r c = join r (next c nothing)
join_chain L.Equal r c = join r (next c nothing)
join_chain L.And r c = join r (next c nothing)
join_chain L.Or r c = join r (next c nothing)

operand_all : (l : Level) {a : At} {b : ℕ} {ts mid rest : List Marked} {s t u : List Shape} → Reads (Get S.Unary a b) s ts t mid → ReadsAll (wants_in a b (chains_below l)) t mid u rest → ReadsAll (wants_in a b (operand_parts l)) s ts u rest
operand_all L.Product g r = next g r
operand_all L.Sum g r = next g r
operand_all L.Compare g r = next g r
operand_all L.Equal g r = next g r
operand_all L.And g r = next g r
operand_all L.Or g r = next g r

operand_gives : (l : Level) {a : At} {ts rest : List Marked} {t : List Shape} → Ways (chains_below l) a ts t rest → Gives (S.Operand l) a ts t rest
operand_gives l {ts = ts} (ways w r) s b = by (operand l) (free (operand l) (λ k. tt) ts) (operand_all l (unary_gives w s (length s)) (r s))

pub first_operand : (l : Level) {a : At} {ts rest : List Marked} {t : List Shape} → Ways (chains_below l) a ts t rest → TierWays l a ts t rest
first_operand l (ways w r) = tier_ways w (λ s v end c. join_chain l (r s) c)

pub next_operand : (l : Level) {a : At} {x : Marked} {ts mid rest : List Marked} {t u : List Shape} → TierWays l a ts t (x ∷ mid) → is_operator l (kind_at x) ≡ true → x.at ≡ a → Ways (chains_below l) a mid u rest → TierWays l a ts (node R.Binary (forest (t ++ (leaf x.token ∷ u))) ∷ []) rest
next_operand l {a} {x} {mid = mid} {rest = rest} {t = t} {u = u} (tier_ways w k) e m b =
    tier_ways w (λ s v end c.
    let whole : close R.Binary (length s) (((s ++ t) ++ leaf x.token ∷ []) ++ u) ≡ s ++ node R.Binary (forest (t ++ (leaf x.token ∷ u))) ∷ [] = ap (close R.Binary (length s)) (append_assoc (s ++ t) (leaf x.token ∷ []) u ∙ append_assoc s t (leaf x.token ∷ u)) ∙ close_front R.Binary s (t ++ (leaf x.token ∷ u)) in
    k s v end (by (chain_more l) tt (next (operator e m) (next (operand_gives l b ((s ++ t) ++ leaf x.token ∷ []) (length s)) (next wrap (next (subst (λ z. Reads (Get (S.Chain l) a (length s)) z rest v end) (sym whole) c) nothing))))))

pub data ExprWays (a : At) : List Marked → List Shape → List Marked → Type 0 where
  expr_ways : {ts rest : List Marked} {t : List Shape} → Ways (parts expr_rest) (inside a) ts t rest → ExprWays a ts t rest

pub expr_gives : {a : At} {ts rest : List Marked} {t : List Shape} → ExprWays a ts t rest → Gives S.Expr a ts t rest
expr_gives {ts = ts} (expr_ways (ways {mid = mid} w r)) s b = by expr (free expr (λ k. tt) ts) (next (unary_gives w s (length s)) (next (by expr_rest (free expr_rest (λ k. tt) mid) (r s)) nothing))

-- an expression that begins with a name, from the next token on
named_reads : (a : At) (x : Marked) {ts mid rest : List Marked} {t u : List Shape} → IndexWays (inside a) ts u mid → ((s : List Shape) → ReadsAll (wants_in (inside a) (length s) (parts expr_rest)) (s ++ node R.Unary (forest (node R.Place (forest (leaf x.token ∷ u)) ∷ [])) ∷ []) mid (s ++ t) rest) → (s : List Shape) → ReadsAll (wants_in a (length s) (parts named_expr)) (s ++ leaf x.token ∷ []) ts (s ++ t) rest
named_reads a x {mid = mid} {rest = rest} {t = t} {u = u} w r s =
    let place : close R.Place (length s) ((s ++ leaf x.token ∷ []) ++ u) ≡ s ++ node R.Place (forest (leaf x.token ∷ u)) ∷ [] = ap (close R.Place (length s)) (append_assoc s (leaf x.token ∷ []) u) ∙ close_front R.Place s (leaf x.token ∷ u) in
    let whole : close R.Unary (length s) (close R.Place (length s) ((s ++ leaf x.token ∷ []) ++ u)) ≡ s ++ node R.Unary (forest (node R.Place (forest (leaf x.token ∷ u)) ∷ [])) ∷ [] = ap (close R.Unary (length s)) place ∙ close_front R.Unary s (node R.Place (forest (leaf x.token ∷ u)) ∷ []) in
    next (index_gives w (s ++ leaf x.token ∷ []) (length s)) (next wrap (next wrap (next (by expr_rest (free expr_rest (λ k. tt) mid) (subst (λ z. ReadsAll (wants_in (inside a) (length s) (parts expr_rest)) z mid (s ++ t) rest) (sym whole) (r s))) nothing)))

named_stands : {a : At} {ts u_rest : List Marked} {u : List Shape} → IndexWays a ts u u_rest → Next is_opening u_rest → MayStand named_expr ts
named_stands (scalar {ts = ts} n) o = go ts o
  where
    go : (ts : List Marked) → Next is_opening ts → MayStand named_expr ts
    go [] o = tt
    go (x ∷ ts) o = is_not is_opening (kind_at x) K.LeftParen refl o
named_stands (element e m g f n) o = other_kind e (λ d. cc)

assigned_stands : (ts : List Marked) → MayStand named_expr ts → MayStand assigned_expr ts
assigned_stands [] m = tt
assigned_stands (x ∷ ts) m = m

pub value_gives : {a : At} {ts rest : List Marked} {t : List Shape} → ExprWays a ts t rest → Gives S.CallOrExpr a ts t rest
value_gives {ts = ts} (expr_ways (ways {mid = mid} (other_way g) r)) s b = by other_expr (free other_expr (λ k. tt) ts) (next (g s (length s)) (next (by expr_rest (free expr_rest (λ k. tt) mid) (r s)) nothing))
value_gives {a} (expr_ways (ways (place_way (place_ways {x = x} e m w) o) r)) s b = by call_or_name tt (next (exact e m) (next (by named_expr (named_stands w o) (named_reads a x w r s)) nothing))

-- ---- calls

-- a call, whose name stands at n
pub data CallWays (n a : At) : List Marked → List Shape → List Marked → Type 0 where
  call_ways : {x : Marked} {ts rest : List Marked} {t : List Shape} → kind_at x ≡ K.Name → x.at ≡ n → Rows a (P.Deeper (S.Exact K.LeftParen) ∷ P.Deeper S.Args ∷ []) ts t rest → CallWays n a (x ∷ ts) (node R.Call (forest (leaf x.token ∷ t)) ∷ []) rest

pub call_gives : {a : At} {ts rest : List Marked} {t : List Shape} → CallWays (inside a) a ts t rest → Gives S.CallOrExpr a ts t rest
call_gives (call_ways {x = x} {ts = ts} e m h) s b = by call_or_name tt (next (exact e m) (next (by named_call (free named_call (λ k. tt) ts) (close_rows R.Call h s (leaf x.token ∷ []))) nothing))

pub call_statement : {a : At} {y : Marked} {ts rest : List Marked} {t : List Shape} → CallWays a a ts t (y ∷ rest) → kind_at y ≡ K.Semicolon → y.at ≡ a → Gives S.Stmt a ts (node R.Stmt (forest (t ++ leaf y.token ∷ [])) ∷ []) rest
call_statement (call_ways {x = x} {ts = ts} {t = t} e m h) f n s b =
    by stmt_name tt (next (exact e m) (next (by rest_call (free rest_call (λ k. tt) ts) (join (close_rows R.Call h s (leaf x.token ∷ [])) (close_rows R.Stmt (one (token_here f n)) s (node R.Call (forest (leaf x.token ∷ t)) ∷ [])))) nothing))

-- ---- changes and assignments

pub data ChangeEnds (a : At) : List Marked → List Shape → List Marked → Type 0 where
  set_to : {x : Marked} {ts rest : List Marked} {t : List Shape} → kind_at x ≡ K.AssignMark → x.at ≡ a → ExprWays a ts t rest → ChangeEnds a (x ∷ ts) (leaf x.token ∷ t) rest
  add_to : {x : Marked} {ts rest : List Marked} {t : List Shape} → kind_at x ≡ K.AddMark → x.at ≡ a → ExprWays a ts t rest → ChangeEnds a (x ∷ ts) (leaf x.token ∷ t) rest
  subtract_from : {x : Marked} {ts rest : List Marked} {t : List Shape} → kind_at x ≡ K.SubtractMark → x.at ≡ a → ExprWays a ts t rest → ChangeEnds a (x ∷ ts) (leaf x.token ∷ t) rest
  up : {x : Marked} {rest : List Marked} → kind_at x ≡ K.IncreaseMark → x.at ≡ a → ChangeEnds a (x ∷ rest) (leaf x.token ∷ []) rest
  down : {x : Marked} {rest : List Marked} → kind_at x ≡ K.DecreaseMark → x.at ≡ a → ChangeEnds a (x ∷ rest) (leaf x.token ∷ []) rest

pub data ChangeWays (a : At) : List Marked → List Shape → List Marked → Type 0 where
  change_ways : {ts mid rest : List Marked} {t u : List Shape} → PlaceWays a ts t mid → ChangeEnds a mid u rest → ChangeWays a ts (node R.Change (forest (t ++ u)) ∷ []) rest

-- a value that is received or a call's
pub data AnswerWays (a : At) : List Marked → List Shape → List Marked → Type 0 where
  received : {x : Marked} {ts rest : List Marked} {t : List Shape} → kind_at x ≡ K.RecvWord → x.at ≡ a → Rows a (P.Deeper (S.Exact K.LeftParen) ∷ P.Deeper (S.Exact K.Name) ∷ P.Deeper (S.Exact K.RightParen) ∷ []) ts t rest → AnswerWays a (x ∷ ts) (node R.Value (forest (leaf x.token ∷ t)) ∷ []) rest
  called : {ts rest : List Marked} {t : List Shape} → CallWays (inside a) a ts t rest → AnswerWays a ts (node R.Value (forest t) ∷ []) rest

change_end_gives : {a : At} {ts rest : List Marked} {t : List Shape} → ChangeEnds a ts t rest → Gives S.ChangeEnd a ts t rest
change_end_gives (set_to e m w) = plain_by assign tt (cons (token_here e m) (one (here (expr_gives w))))
change_end_gives (add_to e m w) = plain_by add tt (cons (token_here e m) (one (here (expr_gives w))))
change_end_gives (subtract_from e m w) = plain_by subtract tt (cons (token_here e m) (one (here (expr_gives w))))
change_end_gives (up e m) = plain_by increase tt (one (token_here e m))
change_end_gives (down e m) = plain_by decrease tt (one (token_here e m))

pub change_gives : {a : At} {ts rest : List Marked} {t : List Shape} → ChangeWays a ts t rest → Gives S.Change a ts t rest
change_gives {ts = ts} (change_ways w c) = node_by change R.Change (P.Here S.Place ∷ P.Here S.ChangeEnd ∷ []) refl (λ b n. refl) (free change (λ k. tt) ts) (cons (here (place_gives w)) (one (here (change_end_gives c))))

-- from trees of the construct on, to these
abbrev RestGives : Symbol → At → List Shape → List Marked → List Shape → List Marked → Type 0
RestGives y a got ts new rest = (s : List Shape) → Reads (Get y a (length s)) (s ++ got) ts (s ++ new) rest

-- a statement, from after the name of its place on
name_gives : {a : At} {n : Shape} {ts mid rest : List Marked} {t new : List Shape} → IndexWays a ts t mid → RestGives S.PlaceRest a (node R.Place (forest (n ∷ t)) ∷ []) mid new rest → RestGives S.StmtRest a (n ∷ []) ts new rest
name_gives {a} {n} {ts = ts} {rest = rest} {new = new} (scalar o) r s = by rest_scalar (free rest_scalar (λ k. tt) ts) (next wrap (next (subst (λ z. Reads (Get S.PlaceRest a (length s)) z ts (s ++ new) rest) (sym (close_front R.Place s (n ∷ []))) (r s)) nothing))
name_gives {a} {n = n} (element e m g f o) r s = by rest_element tt (join (close_rows R.Place {a = a} (cons (token_below e m) (cons (below g) (one (token_below f o)))) s (n ∷ [])) (next (r s) nothing))

place_statement : {a : At} {ts mid rest : List Marked} {p new : List Shape} → PlaceWays a ts p mid → RestGives S.PlaceRest a p mid new rest → Gives S.Stmt a ts new rest
place_statement (place_ways e m w) r s b = by stmt_name tt (next (exact e m) (next (name_gives w r s) nothing))

-- the end of a change that is a statement, after the trees of its place and mark
change_ending : {a : At} {y : Marked} {rest : List Marked} → kind_at y ≡ K.Semicolon → y.at ≡ a → (s held t : List Shape) → length held ≡ 2 → ReadsAll (wants_in a (length (s ++ held)) (P.WrapBack R.Change ∷ P.Here (S.Exact K.Semicolon) ∷ P.WrapBack R.Stmt ∷ [])) ((s ++ held) ++ t) (y ∷ rest) (s ++ node R.Stmt (forest (node R.Change (forest (held ++ t)) ∷ leaf y.token ∷ [])) ∷ []) rest
change_ending {a} {y} {rest} f n s held t two = subst (λ z. ReadsAll (wants_in a (length (s ++ held)) (P.WrapBack R.Change ∷ P.Here (S.Exact K.Semicolon) ∷ P.WrapBack R.Stmt ∷ [])) ((s ++ held) ++ t) (y ∷ rest) z rest) (closed_change s held t (leaf y.token ∷ []) (length (s ++ held)) refl two) (next wrap (next (exact f n) (next wrap nothing)))

answer_ending : {a : At} {y : Marked} {rest : List Marked} → kind_at y ≡ K.Semicolon → y.at ≡ a → (s held t : List Shape) → length held ≡ 2 → ReadsAll (wants_in a (length (s ++ held)) (P.Here (S.Exact K.Semicolon) ∷ P.WrapBack R.Stmt ∷ [])) ((s ++ held) ++ t) (y ∷ rest) (s ++ node R.Stmt (forest (held ++ (t ++ leaf y.token ∷ []))) ∷ []) rest
answer_ending {a} {y} {rest} f n s held t two = subst (λ z. ReadsAll (wants_in a (length (s ++ held)) (P.Here (S.Exact K.Semicolon) ∷ P.WrapBack R.Stmt ∷ [])) ((s ++ held) ++ t) (y ∷ rest) z rest) (closed_answer s held t (leaf y.token ∷ []) (length (s ++ held)) refl two) (next (exact f n) (next wrap nothing))

-- an assigned expression
assigned_change : {a : At} {y : Marked} {ts rest : List Marked} {t : List Shape} → ExprWays a ts t (y ∷ rest) → kind_at y ≡ K.Semicolon → y.at ≡ a → (held s : List Shape) (b : ℕ) → length held ≡ 2 → Reads (Get S.Assigned a b) (s ++ held) ts (s ++ node R.Stmt (forest (node R.Change (forest (held ++ t)) ∷ leaf y.token ∷ [])) ∷ []) rest
assigned_change {a} {ts = ts} {t = t} (expr_ways (ways {mid = mid} (other_way g) r)) f n held s b two =
    by assigned_other (free assigned_other (λ k. tt) ts) (next (g (s ++ held) (length (s ++ held))) (next (by expr_rest (free expr_rest (λ k. tt) mid) (r (s ++ held))) (change_ending f n s held t two)))
assigned_change {a} {t = t} (expr_ways (ways (place_way (place_ways {x = x} {ts = ts} e m w) o) r)) f n held s b two =
    by assigned_name tt (next (exact e m) (next (by assigned_expr (assigned_stands ts (named_stands w o)) (join (named_reads a x w r (s ++ held)) (change_ending f n s held t two))) nothing))

-- an assigned answer
assigned_answer : {a : At} {y : Marked} {ts rest : List Marked} {t : List Shape} → AnswerWays a ts t (y ∷ rest) → kind_at y ≡ K.Semicolon → y.at ≡ a → (held s : List Shape) (b : ℕ) → length held ≡ 2 → Reads (Get S.Assigned a b) (s ++ held) ts (s ++ node R.Stmt (forest (held ++ (t ++ leaf y.token ∷ []))) ∷ []) rest
assigned_answer {a} (received {x = x} {t = t} e m h) f n held s b two =
    by assigned_recv tt (join (close_own R.Value {a = a} (cons (token_here e m) h) (s ++ held)) (answer_ending f n s held (node R.Value (forest (leaf x.token ∷ t)) ∷ []) two))
assigned_answer {a} {y} {rest = rest} (called (call_ways {x = x} {ts = ts} {t = t} e m h)) f n held s b two =
    let c1 : Shape = node R.Call (forest (leaf x.token ∷ t)) in
    let out = s ++ node R.Stmt (forest (held ++ (node R.Value (forest (c1 ∷ [])) ∷ leaf y.token ∷ []))) ∷ [] in
    by assigned_name tt (next (exact e m) (next (by assigned_call (free assigned_call (λ k. tt) ts) (join (close_rows R.Call {a = a} h (s ++ held) (leaf x.token ∷ [])) (next wrap (subst (λ z. ReadsAll (wants_in a (length (s ++ held)) (P.Here (S.Exact K.Semicolon) ∷ P.WrapBack R.Stmt ∷ [])) z (y ∷ rest) out rest) (sym (close_front R.Value (s ++ held) (c1 ∷ []))) (answer_ending f n s held (node R.Value (forest (c1 ∷ [])) ∷ []) two))))) nothing))

held_two : (y : Symbol) (a : At) (b : ℕ) (s : List Shape) (p q : Shape) {ts rest : List Marked} {out : List Shape} → Reads (Get y a b) (s ++ (p ∷ q ∷ [])) ts out rest → Reads (Get y a b) ((s ++ p ∷ []) ++ q ∷ []) ts out rest
held_two y a b s p q {ts} {rest} {out} r = subst (λ z. Reads (Get y a b) z ts out rest) (sym (append_assoc s (p ∷ []) (q ∷ []))) r

-- what stands after the place of a change that is a statement
place_change : {a : At} {y : Marked} {ts rest : List Marked} {t : List Shape} → ChangeEnds a ts t (y ∷ rest) → kind_at y ≡ K.Semicolon → y.at ≡ a → (p : Shape) → RestGives S.PlaceRest a (p ∷ []) ts (node R.Stmt (forest (node R.Change (forest (p ∷ t)) ∷ leaf y.token ∷ [])) ∷ []) rest
place_change {a} (set_to {x = x} e m w) f n p s = by rest_assign tt (next (exact e m) (next (held_two S.Assigned a (length s) s p (leaf x.token) (assigned_change w f n (p ∷ leaf x.token ∷ []) s (length s) refl)) nothing))
place_change {a} (add_to {x = x} {t = t} e m w) f n p s = by rest_add tt (join (close_rows R.Change {a = a} (cons (token_here e m) (one (here (expr_gives w)))) s (p ∷ [])) (close_rows R.Stmt {a = a} (one (token_here f n)) s (node R.Change (forest (p ∷ leaf x.token ∷ t)) ∷ [])))
place_change {a} (subtract_from {x = x} {t = t} e m w) f n p s = by rest_subtract tt (join (close_rows R.Change {a = a} (cons (token_here e m) (one (here (expr_gives w)))) s (p ∷ [])) (close_rows R.Stmt {a = a} (one (token_here f n)) s (node R.Change (forest (p ∷ leaf x.token ∷ t)) ∷ [])))
place_change {a} (up {x = x} e m) f n p s = by rest_increase tt (join (close_rows R.Change {a = a} (one (token_here e m)) s (p ∷ [])) (close_rows R.Stmt {a = a} (one (token_here f n)) s (node R.Change (forest (p ∷ leaf x.token ∷ [])) ∷ [])))
place_change {a} (down {x = x} e m) f n p s = by rest_decrease tt (join (close_rows R.Change {a = a} (one (token_here e m)) s (p ∷ [])) (close_rows R.Stmt {a = a} (one (token_here f n)) s (node R.Change (forest (p ∷ leaf x.token ∷ [])) ∷ [])))

pub change_statement : {a : At} {y : Marked} {ts rest : List Marked} {t : List Shape} → ChangeWays a ts t (y ∷ rest) → kind_at y ≡ K.Semicolon → y.at ≡ a → Gives S.Stmt a ts (node R.Stmt (forest (t ++ leaf y.token ∷ [])) ∷ []) rest
change_statement (change_ways (place_ways {x = x} {t = t} e m w) c) f n = place_statement (place_ways e m w) (place_change c f n (node R.Place (forest (leaf x.token ∷ t))))

pub answer_statement : {a : At} {x y : Marked} {ts mid rest : List Marked} {p t : List Shape} → PlaceWays a ts p (x ∷ mid) → kind_at x ≡ K.AssignMark → x.at ≡ a → AnswerWays a mid t (y ∷ rest) → kind_at y ≡ K.Semicolon → y.at ≡ a → Gives S.Stmt a ts (node R.Stmt (forest (p ++ (leaf x.token ∷ (t ++ leaf y.token ∷ [])))) ∷ []) rest
answer_statement {a} {x} (place_ways {x = z} {t = t} e m w) g o h f n =
    let p : Shape = node R.Place (forest (leaf z.token ∷ t)) in
    place_statement (place_ways e m w) (λ s. by rest_assign tt (next (exact g o) (next (held_two S.Assigned a (length s) s p (leaf x.token) (assigned_answer h f n (p ∷ leaf x.token ∷ []) s (length s) refl)) nothing)))
