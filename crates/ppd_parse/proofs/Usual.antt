-- What each symbol of the parser's grammar is in the language's grammar.
use Rattle.std.proofs.Common.{◌≡◌, ℕ, Bool, true, false, cond, List, [], ◌∷◌, ◌++◌, length, take, drop, refl, sym, ◌∙◌, ap, subst, append_assoc, append-nil}
use Rattle.std.proofs.lemmas.List.{map-append}
use Rattle.ppd_parse.specs.declared.token.Kind.TheVariants as K
use Rattle.ppd_parse.specs.declared.symbol.Level.TheVariants as L
use Rattle.ppd_parse.specs.declared.symbol.Rule.{Rule}
use Rattle.ppd_parse.specs.declared.symbol.Symbol.{Symbol}
use Rattle.ppd_parse.specs.declared.symbol.Symbol.TheVariants as S
use Rattle.ppd_parse.specs.declared.symbol.At.{At}
use Rattle.ppd_parse.specs.declared.symbol.Part.{Part}
use Rattle.ppd_parse.specs.declared.symbol.Part.TheVariants as P
use Rattle.ppd_parse.specs.declared.symbol.Want.{Want}
use Rattle.ppd_parse.specs.declared.symbol.Want.TheVariants.{Get, Close}
use Rattle.ppd_parse.specs.Grammar.{Shape, node, forest, close, Marked, deeper, inside, want_in, wants_in}
use Rattle.ppd_parse.specs.Language.{source_side, shared_side, shared_item_side, sems_side, chans_side, function_side, params_side, process_side, block_side, local_side, local_item_side, value_side, place_side, change_side, stmt_side, expr_side, tier, unary_side, Phrase, word, binary, the, ◌·◌, ◌∣◌, many, maybe, opened, measured, made, brackets, below, called, Is, both, within, counted, grouped}
use Rattle.ppd_parse.proofs.Vocabulary.{else_part}

-- a phrase, or what goes on with the trees that were read before it
pub data Manner : Type 0 where
  plain : Phrase → Manner
  later : Manner

abbrev pub declarations : Phrase
declarations = many (the shared_side ∣ the sems_side ∣ the chans_side ∣ the function_side ∣ the process_side)

abbrev pub expressions : Phrase
expressions = maybe (the expr_side · many (word K.Comma · the expr_side))

abbrev pub manner : Symbol → Manner
manner (S.Exact k) = plain (word k)
manner (S.Operator l) = plain (binary l)
manner (S.Operand l) = plain (the (below l))
manner (S.Chain l) = later
manner S.Source = plain (the source_side)
manner S.Items = plain (declarations · word K.End)
manner S.Shared = plain (the shared_side)
manner S.SharedItems = plain (many (word K.Comma · the shared_item_side) · word K.Semicolon)
manner S.SharedItem = plain (the shared_item_side)
manner S.SharedStart = plain (maybe (word K.AssignMark · maybe (word K.MinusMark) · word K.Number) ∣ brackets (word K.Number))
manner S.StartValue = plain (maybe (word K.MinusMark) · word K.Number)
manner S.Sems = plain (the sems_side)
manner S.SemStart = plain (maybe (word K.AssignMark · word K.Number))
manner S.SemItems = plain (many (word K.Comma · word K.Name · maybe (word K.AssignMark · word K.Number)) · word K.Semicolon)
manner S.Chans = plain (the chans_side)
manner S.ChanItems = plain (many (word K.Comma · word K.Name · brackets (word K.Number)) · word K.Semicolon)
manner S.Function = plain (the function_side)
manner S.ParamsEnd = plain (maybe (the params_side) · word K.RightParen)
manner S.Params = plain (the params_side)
manner S.ParamItems = plain (many (word K.Comma · word K.IntWord · word K.Name))
manner S.Process = plain (the process_side)
manner S.Block = plain (the block_side)
manner S.Stmts = plain (many (the local_side ∣ the stmt_side) · word K.RightBrace)
manner S.Local = plain (the local_side)
manner S.LocalItems = plain (many (word K.Comma · the local_item_side) · word K.Semicolon)
manner S.LocalItem = plain (the local_item_side)
manner S.LocalStart = plain (maybe (word K.AssignMark · the value_side) ∣ brackets (word K.Number))
manner S.Value = plain (the value_side)
manner S.CallOrExpr = plain (called ∣ the expr_side)
manner S.NamedRest = later
manner S.Args = plain (expressions · word K.RightParen)
manner S.ArgsMore = plain (many (word K.Comma · the expr_side) · word K.RightParen)
manner S.Place = plain (the place_side)
manner S.PlaceEnd = plain (maybe (brackets (the expr_side)))
manner S.Change = plain (the change_side)
manner S.ChangeEnd = plain ((word K.AssignMark ∣ word K.AddMark ∣ word K.SubtractMark) · the expr_side ∣ (word K.IncreaseMark ∣ word K.DecreaseMark))
manner S.Expr = plain (the expr_side)
manner S.ExprRest = later
manner S.Unary = plain (the unary_side)
manner S.OtherUnary = plain (the unary_side)
manner S.Stmt = plain (the stmt_side)
manner S.StmtRest = later
manner S.PlaceRest = later
manner S.Assigned = later
manner S.AssignedRest = later
manner S.ElsePart = plain else_part
manner S.ForStart = plain (maybe (word K.IntWord · word K.Name · word K.AssignMark · the expr_side ∣ the change_side) · word K.Semicolon)
manner S.ForTest = plain (maybe (the expr_side) · word K.Semicolon)
manner S.ForStep = plain (maybe (the change_side) · word K.RightParen)
manner S.ReturnEnd = plain (maybe (called ∣ the expr_side) · word K.Semicolon)

-- What a symbol that goes on makes of the trees got of its construct: it goes on to out, where they were read up to ts.
abbrev pub Rest : Symbol → At → List Shape → List Marked → List Shape → List Marked → Type 0
Rest (S.Chain l) a got ts out rest = (from : List Marked) → Is (the (tier l)) a from got ts → Is (the (tier l)) a from out rest
Rest S.ExprRest a got ts out rest = (from : List Marked) → Is (the unary_side) a from got ts → Is (the (tier L.Or)) a from out rest
Rest S.NamedRest a got ts out rest = (from : List Marked) → Is (word K.Name) (inside a) from got ts → Is (called ∣ the expr_side) a from out rest
Rest S.StmtRest a got ts out rest = (from : List Marked) → Is (word K.Name) a from got ts → Is (the stmt_side) a from out rest
Rest S.PlaceRest a got ts out rest = (from : List Marked) → Is (the place_side) a from got ts → Is (the stmt_side) a from out rest
Rest _ a got ts out rest = ⊥

-- after a place and its mark
abbrev pub AfterPlace : At → List Shape → List Marked → List Shape → List Marked → Type 0
AfterPlace a held ts out rest = (from : List Marked) → Is (the place_side · word K.AssignMark) a from held ts → Is (the stmt_side) a from out rest

abbrev pub AfterName : At → List Shape → List Shape → List Marked → List Shape → List Marked → Type 0
AfterName a held got ts out rest = (from mid : List Marked) → Is (the place_side · word K.AssignMark) a from held mid → Is (word K.Name) (inside a) mid got ts → Is (the stmt_side) a from out rest

-- the trees s with some more
pub data Out (s : List Shape) (Of : List Shape → Type 0) : List Shape → Type 0 where
  out : {new : List Shape} → Of new → Out s Of (s ++ new)

pub data Closed (r : Rule) (b : ℕ) (s : List Shape) (ts : List Marked) : List Shape → List Marked → Type 0 where
  closed : Closed r b s ts (close r b s) ts

abbrev pub Goes : Symbol → At → ℕ → List Shape → List Marked → List Shape → List Marked → Type 0
Goes S.Assigned a b s ts t rest = (front held : List Shape) → s ≡ front ++ held → length held ≡ 2 → Out front (λ new. AfterPlace a held ts new rest) t
Goes S.AssignedRest a b s ts t rest = (front held got : List Shape) → s ≡ (front ++ held) ++ got → b ≡ length (front ++ held) → length held ≡ 2 → Out front (λ new. AfterName a held got ts new rest) t
Goes S.PlaceRest a b s ts t rest = (front : List Shape) (place : Shape) → s ≡ front ++ place ∷ [] → b ≡ length front → Out front (λ new. Rest S.PlaceRest a (place ∷ []) ts new rest) t
Goes y a b s ts t rest = (front got : List Shape) → s ≡ front ++ got → b ≡ length front → Out front (λ new. Rest y a got ts new rest) t

abbrev pub MeansBy : Manner → Symbol → At → ℕ → List Shape → List Marked → List Shape → List Marked → Type 0
MeansBy (plain f) y a b s ts t rest = Out s (λ new. Is f a ts new rest) t
MeansBy later y a b s ts t rest = Goes y a b s ts t rest

abbrev pub Means : Want → List Shape → List Marked → List Shape → List Marked → Type 0
Means (Get y a b) s ts t rest = MeansBy (manner y) y a b s ts t rest
Means (Close r b) s ts t rest = Closed r b s ts t rest

pub data MeansAll : List Want → List Shape → List Marked → List Shape → List Marked → Type 0 where
  last : {s : List Shape} {ts : List Marked} → MeansAll [] s ts s ts
  then : {w : Want} {ws : List Want} {s t u : List Shape} {ts mid rest : List Marked} → Means w s ts t mid → MeansAll ws t mid u rest → MeansAll (w ∷ ws) s ts u rest

-- ---- lists of parts as phrases

abbrev pub phrase_by : Manner → Phrase
phrase_by (plain f) = f
phrase_by later = word K.End

abbrev pub part_phrase : Part → Phrase
part_phrase (P.Here y) = phrase_by (manner y)
part_phrase (P.Deeper y) = opened (phrase_by (manner y))
part_phrase (P.Inside y) = measured (phrase_by (manner y))
part_phrase (P.Wrap r) = word K.End
part_phrase (P.WrapBack r) = word K.End

abbrev pub is_plain_by : Manner → Bool
is_plain_by (plain f) = true
is_plain_by later = false

abbrev pub is_plain : Part → Bool
is_plain (P.Here y) = is_plain_by (manner y)
is_plain (P.Deeper y) = is_plain_by (manner y)
is_plain (P.Inside y) = is_plain_by (manner y)
is_plain (P.Wrap r) = false
is_plain (P.WrapBack r) = false

abbrev pub seq : Part → List Part → Phrase
seq p [] = part_phrase p
seq p (q ∷ ps) = part_phrase p · seq q ps

abbrev pub are_plain : Part → List Part → Bool
are_plain p [] = is_plain p
are_plain p (q ∷ ps) = cond (is_plain p) (are_plain q ps) false

pub first_plain : (b c : Bool) → cond b c false ≡ true → b ≡ true
first_plain true c e = refl
first_plain false c e = cc

pub others_plain : (b c : Bool) → cond b c false ≡ true → c ≡ true
others_plain true c e = e
others_plain false c e = cc

pub moved : {f g : Phrase} {a : At} {s t : List Shape} {ts rest : List Marked} → ((new : List Shape) → Is f a ts new rest → Is g a ts new rest) → Out s (λ new. Is f a ts new rest) t → Out s (λ new. Is g a ts new rest) t
moved h (out d) = out (h _ d)

pub nothing_new : {f : Phrase} {a : At} {s : List Shape} {ts : List Marked} → Is f a ts [] ts → Out s (λ new. Is f a ts new ts) s
nothing_new {f} {a} {s} {ts} d = subst (Out s (λ new. Is f a ts new ts)) (append-nil s) (out d)

glued : {f g : Phrase} {a : At} {s t u : List Shape} {ts mid rest : List Marked} → Out s (λ new. Is f a ts new mid) t → Out t (λ new. Is g a mid new rest) u → Out s (λ new. Is (f · g) a ts new rest) u
glued {f = f} {g = g} {a = a} {s = s} {ts = ts} {rest = rest} (out {new = n} d) (out {new = m} e) = subst (Out s (λ new. Is (f · g) a ts new rest)) (sym (append_assoc s n m)) (out (both d e))

by_manner : (m : Manner) (y : Symbol) (a : At) (b : ℕ) {s t : List Shape} {ts rest : List Marked} → is_plain_by m ≡ true → MeansBy m y a b s ts t rest → Out s (λ new. Is (phrase_by m) a ts new rest) t
by_manner (plain f) y a b e h = h
by_manner later y a b e h = cc

part_means : (p : Part) (a : At) (b : ℕ) {s t : List Shape} {ts rest : List Marked} → is_plain p ≡ true → Means (want_in a b p) s ts t rest → Out s (λ new. Is (part_phrase p) a ts new rest) t
part_means (P.Here y) a b e h = by_manner (manner y) y a b e h
part_means (P.Deeper y) a b e h = opened_out (by_manner (manner y) y (deeper a) b e h)
  where
    opened_out : {f : Phrase} {s t : List Shape} {ts rest : List Marked} → Out s (λ new. Is f (deeper a) ts new rest) t → Out s (λ new. Is (opened f) a ts new rest) t
    opened_out (out d) = out (within d)
part_means (P.Inside y) a b e h = measured_out (by_manner (manner y) y (inside a) b e h)
  where
    measured_out : {f : Phrase} {s t : List Shape} {ts rest : List Marked} → Out s (λ new. Is f (inside a) ts new rest) t → Out s (λ new. Is (measured f) a ts new rest) t
    measured_out (out d) = out (counted d)
part_means (P.Wrap r) a b e h = cc
part_means (P.WrapBack r) a b e h = cc

one_means : {w : Want} {s t : List Shape} {ts rest : List Marked} → MeansAll (w ∷ []) s ts t rest → Means w s ts t rest
one_means (then h last) = h

-- plain parts are a phrase
pub plain_parts : (a : At) (b : ℕ) (p : Part) (ps : List Part) {s t : List Shape} {ts rest : List Marked} → are_plain p ps ≡ true → MeansAll (wants_in a b (p ∷ ps)) s ts t rest → Out s (λ new. Is (seq p ps) a ts new rest) t
plain_parts a b p [] e h = part_means p a b e (one_means h)
plain_parts a b p (q ∷ ps) e (then h hs) = glued (part_means p a b (first_plain (is_plain p) (are_plain q ps) e) h) (plain_parts a b q ps (others_plain (is_plain p) (are_plain q ps) e) hs)

-- ---- closing

pub take_front : (s new : List Shape) → take (length s) (s ++ new) ≡ s
take_front [] new = refl
take_front (t ∷ s) new = ap (λ u. t ∷ u) (take_front s new)

pub drop_front : (s new : List Shape) → drop (length s) (s ++ new) ≡ new
drop_front [] new = refl
drop_front (t ∷ s) new = drop_front s new

pub close_front : (r : Rule) (s new : List Shape) → close r (length s) (s ++ new) ≡ s ++ node r (forest new) ∷ []
close_front r s new = ap (λ u. u ++ node r (forest (drop (length s) (s ++ new))) ∷ []) (take_front s new) ∙ ap (λ u. s ++ node r (forest u) ∷ []) (drop_front s new)

pub split_means : (vs ws : List Want) {s u : List Shape} {ts rest : List Marked} → MeansAll (vs ++ ws) s ts u rest → (t : List Shape) × (mid : List Marked) × MeansAll vs s ts t mid × MeansAll ws t mid u rest
split_means [] ws {s} {u} {ts} {rest} h = (s, ts, last, h)
split_means (v ∷ vs) ws (then h hs) =
    let e = split_means vs ws hs in
    (e.0, e.1, then h e.2, e.3)

closed_out : (r : Rule) {f : Phrase} {a : At} {s t u : List Shape} {ts mid rest : List Marked} → Out s (λ new. Is f a ts new mid) t → MeansAll (Close r (length s) ∷ []) t mid u rest → Out s (λ new. Is (made r f) a ts new rest) u
closed_out r {f} {a} {s} {ts = ts} {mid = mid} (out {new = new} d) (then closed last) = subst (Out s (λ z. Is (made r f) a ts z mid)) (sym (close_front r s new)) (out (grouped d))

-- plain parts that become a node
pub node_parts : (r : Rule) (a : At) (p : Part) (ps : List Part) {s t : List Shape} {ts rest : List Marked} → are_plain p ps ≡ true → MeansAll (wants_in a (length s) (p ∷ ps ++ P.Wrap r ∷ [])) s ts t rest → Out s (λ new. Is (made r (seq p ps)) a ts new rest) t
node_parts r a p ps {s} {t} {ts} {rest} e h =
    let d = split_means (wants_in a (length s) (p ∷ ps)) (Close r (length s) ∷ []) (subst (λ ws. MeansAll ws s ts t rest) (map-append (want_in a (length s)) (p ∷ ps) (P.Wrap r ∷ [])) h) in
    closed_out r (plain_parts a (length s) p ps e d.2) d.3
