-- Every list of tokens that ends as a source does has a tree or is refused, for want of no memory.
use denote.Enum.Bare.{sameb, same_false, same_true}
use Rattle.std.proofs.Common.{◌≡◌, ◌≢◌, ◌<◌, ◌+◌, ◌⊎◌, ℕ, zero, suc, Bool, true, false, List, [], ◌∷◌, ◌++◌, Option, Some, None, Ok, Err, length, reverse, refl, sym, ap, subst, arith, inl, inr}
use Rattle.std.proofs.lemmas.Bool.{cases_lt}
use Rattle.std.proofs.lemmas.List.{reverse-reverse}
use Rattle.ppd_ast.specs.declared.limits.TheConstants.{MOST_OPEN, MOST_SOURCE_OPERATORS}
use Rattle.ppd_parse.specs.declared.token.Token.{Token}
use Rattle.ppd_parse.specs.Formed.{EndOnce}
use Rattle.ppd_parse.specs.contracts.token.Kind.{the_type}
use Rattle.ppd_parse.specs.declared.error.SyntaxError.{SyntaxError}
use Rattle.ppd_parse.specs.declared.error.SyntaxError.TheVariants as E
use Rattle.ppd_parse.specs.declared.growth.Step.{Step}
use Rattle.ppd_parse.specs.declared.growth.Step.TheVariants as M
use Rattle.ppd_parse.specs.declared.symbol.At.{At}
use Rattle.ppd_parse.specs.declared.token.Kind.{Kind}
use Rattle.ppd_parse.specs.declared.symbol.Level.{Level}
use Rattle.ppd_parse.specs.declared.symbol.Symbol.{Symbol}
use Rattle.ppd_parse.specs.declared.symbol.Symbol.TheVariants as S
use Rattle.ppd_parse.specs.declared.symbol.Part.{Part}
use Rattle.ppd_parse.specs.declared.symbol.Want.{Want}
use Rattle.ppd_parse.specs.declared.symbol.Want.TheVariants.{Get, Close}
use Rattle.ppd_parse.specs.Choice.{expansion, pushed}
use Rattle.ppd_parse.specs.Grammar.{Shape, leaf, close, Marked, ReadsAll, base_in, is_operator, kind_of, outside}
use Rattle.ppd_parse.specs.Laws.{HaveAnAnswer}
use Rattle.ppd_parse.specs.Limits.{count_with, EndsAs, IsRefused, IsTree, Stepped, token_at}
use Rattle.ppd_parse.specs.Machine.{State, Advanced, SameAt, Taken}
use Rattle.ppd_parse.proofs.Vocabulary.{IsReadTo, IsTerminal}
use Rattle.ppd_parse.specs.Rank.{rank}
use Rattle.ppd_parse.specs.Stack.{IsGood, HasEndsAlone}
use Rattle.ppd_parse.proofs.Ends.{Ends, ends_as, ends_close, ends_same}
use Rattle.ppd_parse.proofs.Moves.{close_moves, exact_moves, exact_refused, operator_moves, operator_refused, unfold_moves, unfold_refused, at_state}
use Rattle.ppd_parse.proofs.Whole.{read_next, read_refused, start_read, whole}

-- ---- one want

-- the want on top comes to something
abbrev Moves : Token → State → Type 0
Moves token a = (step : Step) × (b : State) × Advanced token step a b

meet_exact : (token : Token) (k : Kind) (at : At) (b : ℕ) (ws : List Want) (s : List Shape) → IsGood (Get (S.Exact k) at b ∷ ws) → Moves token (at_state (Get (S.Exact k) at b ∷ ws) s)
meet_exact token k at b ws s good = by (sameb the_type k (kind_of token.kind)) refl
  where
    by : (same : Bool) → sameb the_type k (kind_of token.kind) ≡ same → Moves token (at_state (Get (S.Exact k) at b ∷ ws) s)
    by true e = (M.Read at, at_state ws (s ++ leaf token ∷ []), exact_moves token k at b ws s (s ++ leaf token ∷ []) (same_true the_type tt k (kind_of token.kind) e) refl good)
    by false e = (M.Refused, at_state ws s, exact_refused token k at b ws s (same_false the_type k (kind_of token.kind) e))

meet_operator : (token : Token) (l : Level) (at : At) (b : ℕ) (ws : List Want) (s : List Shape) → IsGood ws → Moves token (at_state (Get (S.Operator l) at b ∷ ws) s)
meet_operator token l at b ws s good = by (is_operator l (kind_of token.kind)) refl
  where
    by : (is : Bool) → is_operator l (kind_of token.kind) ≡ is → Moves token (at_state (Get (S.Operator l) at b ∷ ws) s)
    by true e = (M.Read at, at_state ws (s ++ leaf token ∷ []), operator_moves token l at b ws s (s ++ leaf token ∷ []) e refl good)
    by false e = (M.Refused, at_state ws s, operator_refused token l at b ws s e)

meet_inner : (token : Token) (y : Symbol) (at : At) (b : ℕ) (olds : List Want) (s : List Shape) → (IsTerminal y → ⊥) → IsGood (Get y at b ∷ reverse olds) → Moves token (at_state (Get y at b ∷ reverse olds) s)
meet_inner token y at b olds s inner good = by (base_in y b (length s)) refl (expansion y (kind_of token.kind)) refl
  where
    by : (c : ℕ) → c ≡ base_in y b (length s) → (o : Option (List Part)) → expansion y (kind_of token.kind) ≡ o → Moves token (at_state (Get y at b ∷ reverse olds) s)
    by c base (Some ps) e = (M.Moved, at_state (reverse (pushed olds at c ps)) s, unfold_moves token y at b c olds s inner base ps (pushed olds at c ps) e refl good)
    by c base None e = (M.Refused, at_state (reverse olds) s, unfold_refused token y at b c olds s inner base e)

meet_symbol : (token : Token) (y : Symbol) (at : At) (b : ℕ) (ws : List Want) (s : List Shape) → (IsTerminal y → ⊥) → IsGood (Get y at b ∷ ws) → Moves token (at_state (Get y at b ∷ ws) s)
meet_symbol token y at b ws s inner good =
    subst (λ vs. Moves token (at_state (Get y at b ∷ vs) s)) (reverse-reverse ws)
    (meet_inner token y at b (reverse ws) s inner (subst (λ vs. IsGood (Get y at b ∷ vs)) (sym (reverse-reverse ws)) good))

meet : (token : Token) (y : Symbol) (at : At) (b : ℕ) (ws : List Want) (s : List Shape) → IsGood (Get y at b ∷ ws) → Moves token (at_state (Get y at b ∷ ws) s)
meet token (S.Exact k) at b ws s good = meet_exact token k at b ws s good
meet token (S.Operator l) at b ws s good = meet_operator token l at b ws s good
meet token y at b ws s good = meet_symbol token y at b ws s (λ h. h) good

move : (token : Token) (w : Want) (ws : List Want) (s : List Shape) → IsGood (w ∷ ws) → Moves token (at_state (w ∷ ws) s)
move token (Close r b) ws s good = (M.Moved, at_state ws (close r b s), close_moves token r b ws s (close r b s) refl good)
move token (Get y at b) ws s good = meet token y at b ws s good

-- ---- one token

abbrev Takes : Token → State → Type 0
Takes token a = (o : Option At) × (b : State) × Taken token o a b

-- what comes of it after moves that change no program
moved : (token : Token) (a b : State) → SameAt (kind_of token.kind) a b → Takes token b → Takes token a
moved token a b same (None, c, dead) = (None, c, λ x ts f k h. dead x ts f k (same.to x ts f k h))
moved token a b same (Some at, c, (shifts, good, over)) = (
  Some at,
  c,
  (
    record {
      to = λ x ts f e h. shifts.to x ts f e (same.to x ts f (ap (λ (t : Token). kind_of t.kind) e) h);
      from = λ ts f h. same.from (record { token = token; at = at }) ts f refl (shifts.from ts f h);
    },
    good,
    over,
  ),
)

by_step : (token : Token) (a : State) (step : Step) (b : State) → Advanced token step a b → (IsGood b.wants → rank b.wants < rank a.wants → Takes token b) → Takes token a
by_step token a M.Moved b h next = moved token a b h.0 (next h.1 h.2)
by_step token a (M.Read at) b h next = (Some at, b, (h.0, h.1, h.2))
by_step token a M.Refused b h next = (None, b, h)

-- nothing is wanted, and a token is there
nothing_wanted : (x : Marked) (ts : List Marked) (s f : List Shape) → ReadsAll [] s (x ∷ ts) f [] → ⊥
nothing_wanted x ts s f h = elim h [ ]

takes : (n : ℕ) (token : Token) (ws : List Want) (s : List Shape) → rank ws < n → IsGood ws → Takes token (at_state ws s)
takes zero token ws s lt good = absurd (omega (arith, lt))
takes (suc n) token [] s lt good = (None, at_state [] s, λ x ts f k h. nothing_wanted x ts s f h)
takes (suc n) token (w ∷ ws) s lt good =
    let m = move token w ws s good in
    by_step token (at_state (w ∷ ws) s) m.0 m.1 m.2 (λ g less. takes n token m.1.wants m.1.shapes (omega (arith, lt, less)) g)

-- ---- one token within the limits

abbrev Steps : ℕ → Token → State → Type 0
Steps n t a = ((m : ℕ) × (b : State) × Stepped n t (Ok m) a b) ⊎ ((e : SyntaxError) × (e ≢ E.Memory) × (b : State) × Stepped n t (Err e) a b)

within : (n : ℕ) (t : Token) (a b : State) (at : At) → Taken t (Some at) a b → Steps n t a
within n t a b at (shifts, good, over) =
    let z : Marked = record { token = t; at = at } in
    elim (cases_lt MOST_OPEN at.depth) [
      | inl deep ↦ inr (E.Deep t.place, λ e. cc, b, (refl, (at, shifts, good, omega (arith, deep))))
      | inr fits ↦ elim (cases_lt MOST_SOURCE_OPERATORS (count_with n z)) [
        | inl wide ↦ inr (E.Wide t.place, λ e. cc, b, (refl, (at, shifts, good, fits, omega (arith, wide))))
        | inr few ↦ inl (count_with n z, b, (at, shifts, good, over, fits, refl, few))
      ]
    ]

steps : (n : ℕ) (t : Token) (a : State) → Takes t a → Steps n t a
steps n t a (None, b, dead) = inr (E.Unexpected t.place, λ e. cc, b, (refl, dead))
steps n t a (Some at, b, h) = within n t a b at h

-- ---- all tokens

finished : (a : State) (ws : List Want) (s : List Shape) → HasEndsAlone ws → Ends a (at_state ws s) → (f : List Shape) × EndsAs a f
finished a [] s over h = (s, ends_as a (at_state [] s) refl h)
finished a (Close r b ∷ ws) s over h = finished a ws (close r b s) over (ends_close a r b ws s (close r b s) refl h)
finished a (Get y at b ∷ ws) s over h = absurd over

abbrev Answers : List Token → Type 0
Answers ts = ((f : List Shape) × IsTree ts f) ⊎ ((e : SyntaxError) × (e ≢ E.Memory) × IsRefused ts e)

reads : (ts : List Token) → EndOnce ts → (k i n : ℕ) (a : State) → i + k ≡ length ts → IsReadTo ts i n a → Answers ts
reads ts ends zero i n a e r =
    let all : i ≡ length ts = omega (arith, e) in
    let f = finished a a.wants a.shapes (r.over all) (ends_same a) in
    inl (f.0, whole ts i n a f.0 all r f.1)
reads ts ends (suc k) i n a e r =
    let lt : i < length ts = omega (arith, e) in
    elim (steps n (token_at ts i) a (takes (suc (rank a.wants)) (token_at ts i) a.wants a.shapes (omega arith) r.good)) [
      | inl next ↦ reads ts ends k (i + 1) next.0 next.1 (omega (arith, e)) (read_next ts i n a next.1 lt r next.0 ends next.2)
      | inr bad ↦ inr (bad.0, bad.1, read_refused ts i n a bad.2 lt r bad.0 bad.3)
    ]

pub an_answer : HaveAnAnswer
an_answer ts ends =
    reads ts ends (length ts) 0 0 (at_state (Get S.Source outside 0 ∷ []) []) (omega arith) (start_read ts ends (at_state (Get S.Source outside 0 ∷ []) []) refl refl)
