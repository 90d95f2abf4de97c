-- What the stack wants can always be given.
use Rattle.std.proofs.Common.{◌≡◌, ◌<◌, ◌≤◌, ◌+◌, ℕ, zero, suc, pos, Bool, true, false, List, [], ◌∷◌, ◌++◌, length, refl, sym, ◌∙◌, ap, subst, arith}
use Rattle.ppd_parse.specs.declared.token.TokenKind.{TokenKind}
use Rattle.ppd_parse.specs.declared.token.TokenKind.TheVariants as T
use Rattle.ppd_parse.specs.declared.token.Kind.{Kind}
use Rattle.ppd_parse.specs.declared.token.Kind.TheVariants as K
use Rattle.ppd_parse.specs.declared.symbol.Level.{Level}
use Rattle.ppd_parse.specs.declared.symbol.Level.TheVariants as L
use Rattle.ppd_parse.specs.declared.symbol.Symbol.{Symbol}
use Rattle.ppd_parse.specs.declared.symbol.Symbol.TheVariants as S
use Rattle.ppd_parse.specs.declared.symbol.At.{At}
use Rattle.ppd_parse.specs.declared.symbol.Part.{Part}
use Rattle.ppd_parse.specs.declared.symbol.Part.TheVariants as P
use Rattle.ppd_parse.specs.declared.symbol.Want.{Want}
use Rattle.ppd_parse.specs.declared.symbol.Want.TheVariants.{Get, Close}
use Rattle.ppd_parse.specs.Grammar.{Shape, leaf, close, Marked, kind_at, kind_of, is_operator, Production, parts, Stands, MayStand, wants_in, base_in, operand_parts, ReadsAll, exact, operator, wrap, by, nothing, next, operand, chain_end, chain_more, params_void, params_end, no_local_start, local_length, value_recv, named_call, increase, decrease, expr_rest}
use Rattle.ppd_parse.specs.Choice.{Choice, choose, chosen, refused}
use Rattle.ppd_parse.specs.Stack.{lead, lead_of, kind_or, is_binary, is_comma, Unless, HasEndsAlone, IsGood}
use Rattle.ppd_parse.proofs.Unfolded.{split}
use Rattle.ppd_parse.proofs.Given.{free}

unless : {A : Type 0} (b : Bool) → Unless b A → A
unless true h = absurd h
unless false h = h

abbrev Nested : ℕ → Bool → Type 0 → Type 0
Nested zero b A = A
Nested (suc n) b A = Unless b (Nested n b A)

nested : (n : ℕ) (A : Type 0) (b : Bool) → Unless b A → Nested n b A
nested n A true h = absurd h
nested zero A false h = h
nested (suc n) A false h = nested n A false h

pub over_good : (ws : List Want) → HasEndsAlone ws → IsGood ws
over_good [] h = tt
over_good (Close r b ∷ ws) h = over_good ws h
over_good (Get y a b ∷ ws) h = absurd h

good_operand : (l : Level) (a : At) (b : ℕ) (ws : List Want) → Unless (is_binary (lead ws)) (IsGood ws) → IsGood (wants_in a b (operand_parts l) ++ ws)
good_operand L.Product a b ws h = unless (is_binary (lead ws)) h
good_operand L.Sum a b ws h = h
good_operand L.Compare a b ws h = nested 2 (IsGood ws) (is_binary (lead ws)) h
good_operand L.Equal a b ws h = nested 3 (IsGood ws) (is_binary (lead ws)) h
good_operand L.And a b ws h = nested 4 (IsGood ws) (is_binary (lead ws)) h
good_operand L.Or a b ws h = nested 5 (IsGood ws) (is_binary (lead ws)) h

-- What stands for a symbol keeps the stack good.
pub good_unfolded : {y : Symbol} (p : Production y) (a : At) (b c : ℕ) (ws : List Want) → IsGood (Get y a c ∷ ws) → IsGood (wants_in a b (parts p) ++ ws)
good_unfolded params_void a b c ws h = unless (is_comma (lead ws)) h
good_unfolded params_end a b c ws h = unless (is_comma (lead ws)) h
good_unfolded no_local_start a b c ws h = unless (is_binary (lead ws)) h
good_unfolded local_length a b c ws h = unless (is_binary (lead ws)) h
good_unfolded value_recv a b c ws h = unless (is_binary (lead ws)) h
good_unfolded named_call a b c ws h = unless (is_binary (lead ws)) h
good_unfolded increase a b c ws h = unless (is_binary (lead ws)) h
good_unfolded decrease a b c ws h = unless (is_binary (lead ws)) h
good_unfolded expr_rest a b c ws h = nested 6 (IsGood ws) (is_binary (lead ws)) h
good_unfolded (operand l) a b c ws h = good_operand l a b ws h
good_unfolded (chain_end l) a b c ws h = unless (is_binary (lead ws)) h
good_unfolded (chain_more l) a b c ws h = nested 2 (IsGood ws) (is_binary (lead ws)) h
good_unfolded _ a b c ws h = h

-- the shortest form of a symbol
abbrev form_of : (y : Symbol) → Choice y
form_of (S.Chain l) = chosen (chain_end l)
form_of y = choose y (kind_or (lead_of y) K.End)

abbrev parts_of : {y : Symbol} → Choice y → List Part
parts_of (chosen p) = parts p
parts_of refused = []

abbrev cost_of : (Symbol → ℕ) → List Part → ℕ
cost_of f [] = 0
cost_of f (P.Here y ∷ ps) = f y + cost_of f ps
cost_of f (P.Deeper y ∷ ps) = f y + cost_of f ps
cost_of f (P.Inside y ∷ ps) = f y + cost_of f ps
cost_of f (_ ∷ ps) = 1 + cost_of f ps

-- how many steps the shortest form takes, where those of its parts are within n of a token
abbrev cost : ℕ → Symbol → ℕ
cost zero y = 1
cost (suc n) y = 1 + cost_of (λ z. cost n z) (parts_of (form_of y))

abbrev weight : Symbol → ℕ
weight y = cost 8 y

abbrev weigh : List Want → ℕ
weigh [] = 0
weigh (Get y a b ∷ ws) = weight y + weigh ws
weigh (Close r b ∷ ws) = 1 + weigh ws

abbrev kind_for : Kind → TokenKind
kind_for K.Name = T.Name (97 ∷ [])
kind_for K.Number = T.Number (pos 0)
kind_for K.End = T.End
kind_for k = T.Word k

kind_made : (k : Kind) → kind_of (kind_for k) ≡ k
kind_made K.Name = refl
kind_made _ = refl

abbrev sample : Kind → At → Marked
sample k a = record { token = record { kind = kind_for k; from = 0; to = 0; place = record { line = 1; column = 1 } }; at = a }

-- the tokens begin with one of kind k; the end stands for none
abbrev Leads : Kind → List Marked → Type 0
Leads k [] = k ≡ K.End
Leads k (x ∷ ts) = kind_at x ≡ k

binary_false : (A : Type 0) (k : Kind) (l : Level) → Unless (is_binary k) A → is_operator l k ≡ false
binary_false A K.StarMark l h = absurd h
binary_false A K.SlashMark l h = absurd h
binary_false A K.PercentMark l h = absurd h
binary_false A K.PlusMark l h = absurd h
binary_false A K.MinusMark l h = absurd h
binary_false A K.LessMark l h = absurd h
binary_false A K.AtMostMark l h = absurd h
binary_false A K.MoreMark l h = absurd h
binary_false A K.AtLeastMark l h = absurd h
binary_false A K.EqualMark l h = absurd h
binary_false A K.UnequalMark l h = absurd h
binary_false A K.AndMark l h = absurd h
binary_false A K.OrMark l h = absurd h
binary_false A _ L.Product h = refl
binary_false A _ L.Sum h = refl
binary_false A _ L.Compare h = refl
binary_false A _ L.Equal h = refl
binary_false A _ L.And h = refl
binary_false A _ L.Or h = refl

comma_false : (A : Type 0) → Unless (is_comma K.Comma) A → ⊥
comma_false A h = h

stands_chain : (l : Level) (a : At) (b : ℕ) (ws : List Want) (ts : List Marked) → IsGood (Get (S.Chain l) a b ∷ ws) → Leads (lead ws) ts → MayStand (chain_end l) ts
stands_chain l a b ws [] g h = tt
stands_chain l a b ws (x ∷ ts) g h = ap (is_operator l) h ∙ binary_false (IsGood ws) (lead ws) l g

stands_params : (a : At) (b : ℕ) (ws : List Want) (ts : List Marked) → IsGood (Get S.ParamItems a b ∷ ws) → Leads (lead ws) ts → MayStand params_end ts
stands_params a b ws [] g h = tt
stands_params a b ws (x ∷ ts) g h = λ e. comma_false (IsGood ws) (subst (λ k. Unless (is_comma k) (IsGood ws)) (sym h ∙ e) g)

-- What is completed for the parts of the shortest form completes the symbol.
abbrev FormStands : (y : Symbol) → Choice y → List Want → At → ℕ → Type 0
FormStands y refused ws a c = Unit {0}
FormStands y (chosen p) ws a c = (ts : List Marked) → IsGood (Get y a c ∷ ws) → Leads (lead (Get y a c ∷ ws)) ts → MayStand p ts

abbrev IsPlain : {y : Symbol} → Choice y → Type 0
IsPlain refused = Kind → Unit {0}
IsPlain (chosen p) = (k : Kind) → Stands p k

plain_form : (y : Symbol) (m : Choice y) (ws : List Want) (a : At) (c : ℕ) → IsPlain m → FormStands y m ws a c
plain_form y refused ws a c h = tt
plain_form y (chosen p) ws a c h = λ ts g l. free p h ts

form_stands : (y : Symbol) (ws : List Want) (a : At) (c : ℕ) → FormStands y (form_of y) ws a c
form_stands (S.Chain l) ws a c = λ ts g h. stands_chain l a c ws ts g h
form_stands S.ParamItems ws a c = λ ts g h. stands_params a c ws ts g h
form_stands y ws a c = plain_form y (form_of y) ws a c (λ k. tt)

abbrev FormLeads : (y : Symbol) → Choice y → List Want → At → ℕ → ℕ → Type 0
FormLeads y refused ws a b c = Unit {0}
FormLeads y (chosen p) ws a b c = lead (wants_in a b (parts p) ++ ws) ≡ lead (Get y a c ∷ ws)

lead_operand : (l : Level) (ws : List Want) (a : At) (b : ℕ) → lead (wants_in a b (operand_parts l) ++ ws) ≡ K.Number
lead_operand L.Product ws a b = refl
lead_operand L.Sum ws a b = refl
lead_operand L.Compare ws a b = refl
lead_operand L.Equal ws a b = refl
lead_operand L.And ws a b = refl
lead_operand L.Or ws a b = refl

form_leads : (y : Symbol) (ws : List Want) (a : At) (b c : ℕ) → FormLeads y (form_of y) ws a b c
form_leads (S.Exact k) ws a b c = tt
form_leads (S.Operator l) ws a b c = tt
form_leads (S.Operand l) ws a b c = lead_operand l ws a b
form_leads _ ws a b c = refl

abbrev FormWeighs : (y : Symbol) → Choice y → List Want → At → ℕ → ℕ → Type 0
FormWeighs y refused ws a b c = Unit {0}
FormWeighs y (chosen p) ws a b c = weigh (wants_in a b (parts p) ++ ws) < weigh (Get y a c ∷ ws)

weigh_operand : (l : Level) (ws : List Want) (a : At) (b : ℕ) → weigh (wants_in a b (operand_parts l) ++ ws) < weight (S.Operand l) + weigh ws
weigh_operand L.Product ws a b = omega arith
weigh_operand L.Sum ws a b = omega arith
weigh_operand L.Compare ws a b = omega arith
weigh_operand L.Equal ws a b = omega arith
weigh_operand L.And ws a b = omega arith
weigh_operand L.Or ws a b = omega arith

form_weighs : (y : Symbol) (ws : List Want) (a : At) (b c : ℕ) → FormWeighs y (form_of y) ws a b c
form_weighs (S.Exact k) ws a b c = tt
form_weighs (S.Operator l) ws a b c = tt
form_weighs (S.Operand l) ws a b c = weigh_operand l ws a b
form_weighs _ ws a b c = omega arith

abbrev Completion : List Want → List Shape → Type 0
Completion ws s = (ts : List Marked) × (f : List Shape) × ReadsAll ws s ts f [] × Leads (lead ws) ts

weight_least : (y : Symbol) → 1 ≤ weight y
weight_least y = omega arith

pub good_exact : (k : Kind) (a : At) (b : ℕ) (ws : List Want) → IsGood (Get (S.Exact k) a b ∷ ws) → IsGood ws
good_exact K.End a b ws h = over_good ws h
good_exact _ a b ws h = h

operator_for : (l : Level) → (k : Kind) × (is_operator l k ≡ true) × ((ws : List Want) (a : At) (b : ℕ) → k ≡ lead (Get (S.Operator l) a b ∷ ws))
operator_for L.Product = (K.StarMark, refl, λ ws a b. refl)
operator_for L.Sum = (K.PlusMark, refl, λ ws a b. refl)
operator_for L.Compare = (K.LessMark, refl, λ ws a b. refl)
operator_for L.Equal = (K.EqualMark, refl, λ ws a b. refl)
operator_for L.And = (K.AndMark, refl, λ ws a b. refl)
operator_for L.Or = (K.OrMark, refl, λ ws a b. refl)

abbrev Given : (y : Symbol) → Choice y → List Want → At → ℕ → List Shape → Type 0
Given y refused ws a b s = Unit {0}
Given y (chosen p) ws a b s = Completion (Get y a b ∷ ws) s

by_form : (n : ℕ) (y : Symbol) (a : At) (b c : ℕ) (ws : List Want) (s : List Shape) → base_in y b (length s) ≡ c → ((vs : List Want) (t : List Shape) → weigh vs ≤ n → IsGood vs → Completion vs t) → (m : Choice y) → FormStands y m ws a b → FormLeads y m ws a c b → FormWeighs y m ws a c b → weigh (Get y a b ∷ ws) ≤ n + 1 → IsGood (Get y a b ∷ ws) → Given y m ws a b s
by_form n y a b c ws s e go refused stand led less h g = tt
by_form n y a b c ws s e go (chosen p) stand led less h g =
    let r = go (wants_in a c (parts p) ++ ws) s (omega (arith, less, h)) (good_unfolded p a c b ws g) in
    let d = split (wants_in a c (parts p)) ws r.2 in
    let l = subst (λ k. Leads k r.0) led r.3 in
    (r.0, r.1, next (by p (stand r.0 g l) (subst (λ i. ReadsAll (wants_in a i (parts p)) s r.0 d.0 d.1) (sym e) d.2)) d.3, l)

completable : (n : ℕ) (ws : List Want) (s : List Shape) → weigh ws ≤ n → IsGood ws → Completion ws s
completable zero [] s h g = ([], s, nothing, refl)
completable zero (Close r b ∷ ws) s h g = absurd (omega arith)
completable zero (Get y a b ∷ ws) s h g = absurd (omega (arith, weight_least y))
completable (suc n) [] s h g = ([], s, nothing, refl)
completable (suc n) (Close r b ∷ ws) s h g =
    let c = completable n ws (close r b s) (omega arith) g in
    (c.0, c.1, next wrap c.2, c.3)
completable (suc n) (Get (S.Exact k) a b ∷ ws) s h g =
    let x = sample k a in
    let c = completable n ws (s ++ leaf x.token ∷ []) (omega arith) (good_exact k a b ws g) in
    (x ∷ c.0, c.1, next (exact (kind_made k) refl) c.2, kind_made k)
completable (suc n) (Get (S.Operator l) a b ∷ ws) s h g =
    let o = operator_for l in
    let x = sample o.0 a in
    let c = completable n ws (s ++ leaf x.token ∷ []) (omega arith) g in
    (x ∷ c.0, c.1, next (operator (ap (is_operator l) (kind_made o.0) ∙ o.1) refl) c.2, kind_made o.0 ∙ o.2 ws a b)
completable (suc n) (Get y a b ∷ ws) s h g = by_form n y a b (base_in y b (length s)) ws s refl (λ vs t. completable n vs t) (form_of y) (form_stands y ws a b) (form_leads y ws a (base_in y b (length s)) b) (form_weighs y ws a (base_in y b (length s)) b) (omega arith) g

pub completion : (ws : List Want) (s : List Shape) → IsGood ws → (ts : List Marked) × (f : List Shape) × ReadsAll ws s ts f []
completion ws s g =
    let c = completable (weigh ws) ws s (omega arith) g in
    (c.0, c.1, c.2)
