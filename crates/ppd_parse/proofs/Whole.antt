-- What the tokens before show, from the first token on.
use Rattle.std.proofs.Common.{◌≡◌, ◌<◌, ◌+◌, ◌≤◌, ℕ, zero, suc, List, [], ◌∷◌, ◌++◌, length, take, get_or, refl, sym, ◌∙◌, ap, subst, append_assoc, arith, Ok, Err}
use Rattle.std.proofs.lemmas.List.{append-nil, map-append, take_more}
use Rattle.std.proofs.Math.Seq.{take-length}
use Rattle.ppd_ast.specs.declared.limits.TheConstants.{MOST_OPEN, MOST_SOURCE_OPERATORS}
use Rattle.ppd_ast.specs.declared.program.Place.{Place}
use Rattle.ppd_parse.specs.declared.token.Token.{Token}
use Rattle.ppd_parse.specs.declared.token.TokenKind.TheVariants as T
use Rattle.ppd_parse.specs.Formed.{EndOnce}
use Rattle.ppd_parse.specs.declared.symbol.Symbol.TheVariants as S
use Rattle.ppd_parse.specs.declared.symbol.At.{At}
use Rattle.ppd_parse.specs.declared.symbol.Want.{Want}
use Rattle.ppd_parse.specs.declared.symbol.Want.TheVariants.{Get}
use Rattle.ppd_parse.specs.declared.error.SyntaxError.{SyntaxError}
use Rattle.ppd_parse.specs.declared.error.SyntaxError.TheVariants as E
use Rattle.ppd_parse.specs.Grammar.{Shape, Marked, kind_of, tokens_of, outside}
use Rattle.ppd_parse.specs.Machine.{State, Completed, Shifts}
use Rattle.ppd_parse.specs.Stack.{IsGood, HasEndsAlone}
use Rattle.ppd_parse.specs.Limits.{count_with, KeepLimits, token_at, IsTree, IsPast, IsRefused, Stepped, EndsAs}
use Rattle.ppd_parse.proofs.Vocabulary.{count_after, no_token, BreaksDepth, BreaksWidth}
use Rattle.ppd_parse.proofs.Vocabulary.{IsParsed, Follows, IsReadTo}
use Rattle.ppd_parse.proofs.Sample.{completion}
use Rattle.ppd_parse.proofs.ToLanguage.{parsed_program}
use Rattle.ppd_parse.proofs.FromLanguage.{program_parsed}

cancel : (us : List Token) {bs cs : List Token} → us ++ bs ≡ us ++ cs → bs ≡ cs
cancel [] e = e
cancel (u ∷ us) e = cancel us (tail_same e)
  where
    tail_same : {x y : Token} {xs ys : List Token} → x ∷ xs ≡ y ∷ ys → xs ≡ ys
    tail_same d = cc

-- the tokens that are left, where those before are told
left : (zs rest : List Marked) (ts more : List Token) → tokens_of zs ≡ ts → tokens_of (zs ++ rest) ≡ ts ++ more → tokens_of rest ≡ more
left zs rest ts more e h = cancel ts (ap (λ u. u ++ tokens_of rest) (sym e) ∙ (sym (map-append (λ x. x.token) zs rest) ∙ h))

limits_more : (n : ℕ) (zs : List Marked) (x : Marked) → KeepLimits n zs → x.at.depth ≤ MOST_OPEN → count_with (count_after n zs) x ≤ MOST_SOURCE_OPERATORS → KeepLimits n (zs ++ x ∷ [])
limits_more n [] x k d c = (d, c, tt)
limits_more n (z ∷ zs) x k d c = (k.0, k.1, limits_more (count_with n z) zs x k.2 d c)

count_more : (n : ℕ) (zs : List Marked) (x : Marked) → count_after n (zs ++ x ∷ []) ≡ count_with (count_after n zs) x
count_more n [] x = refl
count_more n (z ∷ zs) x = count_more (count_with n z) zs x

module _ (ts : List Token) (zs : List Marked) (a : State) (follows : Follows ts zs a) (t : Token) where
  -- a program that goes on with the token goes on so from the state
  goes_on : (qs : List Marked) (f : List Shape) (more : List Token) → IsParsed qs f → tokens_of qs ≡ ts ++ t ∷ more → (x : Marked) × (rest : List Marked) × (x.token ≡ t) × (qs ≡ zs ++ x ∷ rest) × Completed a (x ∷ rest) f
  goes_on qs f more p e =
      let w = follows.to qs f (t ∷ more) p e in
      go w.0 w.1 w.2 (left zs w.0 ts (t ∷ more) follows.tokens (ap tokens_of (sym w.1) ∙ e))
    where
      go : (rest : List Marked) → qs ≡ zs ++ rest → Completed a rest f → tokens_of rest ≡ t ∷ more → (x : Marked) × (rest : List Marked) × (x.token ≡ t) × (qs ≡ zs ++ x ∷ rest) × Completed a (x ∷ rest) f
      go [] q h d = cc
      go (x ∷ rest) q h d = (x, rest, head_same d, q, h)
        where
          head_same : {v w : Token} {vs ws : List Token} → v ∷ vs ≡ w ∷ ws → v ≡ w
          head_same k = cc

  module _ (at : At) (b : State) (shifts : Shifts (record { token = t; at = at }) a b) where
    z : Marked
    z = record { token = t; at = at }

    only_so : (qs : List Marked) (f : List Shape) (more : List Token) → IsParsed qs f → tokens_of qs ≡ ts ++ t ∷ more → (others : List Marked) × (qs ≡ zs ++ (let m : Marked = record { token = t; at = at } in m) ∷ others) × Completed b others f
    only_so qs f more p e =
        let g = goes_on qs f more p e in
        let s = shifts.to g.0 g.1 f g.2 g.4 in
        (g.1, g.3 ∙ ap (λ x. zs ++ x ∷ g.1) s.0, s.1)

    follows_next : Follows (ts ++ t ∷ []) (zs ++ (let m : Marked = record { token = t; at = at } in m) ∷ []) b
    follows_next = record {
      tokens = map-append (λ x. x.token) zs _ ∙ ap (λ u. u ++ t ∷ []) follows.tokens;
      to = λ qs f more p e.
          let o = only_so qs f more p (e ∙ append_assoc ts (t ∷ []) more) in
          (o.0, o.1 ∙ sym (append_assoc zs _ o.0), o.2);
      from = λ rest f h. subst (λ u. IsParsed u f) (sym (append_assoc zs _ rest)) (follows.from _ f (shifts.from rest f h));
    }

pub start_read : (ts : List Token) → EndOnce ts → (a : State) → a.wants ≡ Get S.Source outside 0 ∷ [] → a.shapes ≡ [] → IsReadTo ts 0 0 a
start_read ts ends a w s =
    let b : State = record { wants = Get S.Source outside 0 ∷ []; shapes = [] } in
    let same : a ≡ b = ap (λ (ws : List Want). let r : State = record { wants = ws; shapes = a.shapes } in r) w ∙ ap (λ (f : List Shape). let r : State = record { wants = Get S.Source outside 0 ∷ []; shapes = f } in r) s in
    subst (IsReadTo ts 0 0) (sym same) (record {
      marked = [];
      follows = record { tokens = refl; to = λ qs f more p e. (qs, refl, p); from = λ rest f h. h };
      limits = tt;
      count = refl;
      few = omega arith;
      good = tt;
      over = λ e. not_empty ts ends e;
    })
  where
    not_empty : (us : List Token) → EndOnce us → 0 ≡ length us → HasEndsAlone (Get S.Source outside 0 ∷ [])
    not_empty [] h e = absurd h
    not_empty (u ∷ us) h e = absurd (omega arith)

last_end : (ts : List Token) (i : ℕ) → EndOnce ts → i + 1 ≡ length ts → (token_at ts i).kind ≡ T.End
last_end [] i h e = absurd h
last_end (t ∷ []) zero h e = h
last_end (t ∷ []) (suc i) h e = absurd (omega arith)
last_end (t ∷ (u ∷ us)) zero h e = absurd (omega arith)
last_end (t ∷ (u ∷ us)) (suc i) h e = last_end (u ∷ us) i h.1 (omega arith)

module _ (ts : List Token) (i n : ℕ) (a b : State) (lt : i < length ts) (r : IsReadTo ts i n a) where
  pub read_next : (m : ℕ) → EndOnce ts → Stepped n (token_at ts i) (Ok m) a b → IsReadTo ts (i + 1) m b
  read_next m ends s =
      let t = token_at ts i in
      let z : Marked = record { token = t; at = s.0 } in
      let more = take_more ts i no_token lt in
      record {
        marked = r.marked ++ z ∷ [];
        follows = subst (λ u. Follows u (r.marked ++ z ∷ []) b) (sym more) (follows_next (take i ts) r.marked a r.follows t s.0 b s.1);
        limits = limits_more 0 r.marked z r.limits s.4 (subst (λ k. k ≤ MOST_SOURCE_OPERATORS) (s.5 ∙ ap (λ k. count_with k z) r.count) s.6);
        count = s.5 ∙ (ap (λ k. count_with k z) r.count ∙ sym (count_more 0 r.marked z));
        few = s.6;
        good = s.2;
        over = λ e. s.3 (ap kind_of (last_end ts i ends e));
      }

  read_past : (Breaks : ℕ → Marked → Type 0) (place : Place) → place ≡ (token_at ts i).place → (at : At) → Shifts (record { token = token_at ts i; at = at }) a b → IsGood b.wants → Breaks (count_after 0 r.marked) (record { token = token_at ts i; at = at }) → IsPast Breaks ts place
  read_past Breaks place is at shifts good breaks =
      let z : Marked = record { token = token_at ts i; at = at } in
      let c = completion b.wants b.shapes good in
      record {
        i = i;
        within = lt;
        is = is;
        marked = r.marked;
        tokens = r.follows.tokens;
        last = z;
        token = refl;
        rest = c.0;
        tree = c.1;
        program = parsed_program (r.follows.from (z ∷ c.0) c.1 (shifts.from c.0 c.1 c.2));
        limits = r.limits;
        breaks = breaks;
        only = λ qs f more p e.
            let o = only_so (take i ts) r.marked a r.follows (token_at ts i) at b shifts qs f more (program_parsed p) e in
            (o.0, o.1);
      }

  pub read_refused : (e : SyntaxError) → Stepped n (token_at ts i) (Err e) a b → IsRefused ts e
  read_refused (E.Unexpected place) s =
      let c = completion a.wants a.shapes r.good in
      record {
        i = i;
        within = lt;
        is = s.0;
        marked = r.marked;
        tokens = r.follows.tokens;
        rest = c.0;
        tree = c.1;
        program = parsed_program (r.follows.from c.0 c.1 c.2);
        limits = r.limits;
        none = λ qs f more p e.
            let g = goes_on (take i ts) r.marked a r.follows (token_at ts i) qs f more (program_parsed p) e in
            s.1 g.0 g.1 f (ap (λ (u : Token). kind_of u.kind) g.2) g.4;
      }
  read_refused (E.Deep place) s = read_past BreaksDepth place s.0 s.1.0 s.1.1 s.1.2 s.1.3
  read_refused (E.Wide place) s =
      let z : Marked = record { token = token_at ts i; at = s.1.0 } in
      read_past BreaksWidth place s.0 s.1.0 s.1.1 s.1.2 (s.1.3, subst (λ k. MOST_SOURCE_OPERATORS < count_with k z) r.count s.1.4)
  read_refused E.Memory s = tt

pub whole : (ts : List Token) (i n : ℕ) (a : State) (f : List Shape) → i ≡ length ts → IsReadTo ts i n a → EndsAs a f → IsTree ts f
whole ts i n a f e r ends =
    let all : take i ts ≡ ts = ap (λ k. take k ts) e ∙ take-length ts in
    record {
      marked = r.marked;
      tokens = r.follows.tokens ∙ all;
      program = parsed_program (subst (λ u. IsParsed u f) (append-nil r.marked) (r.follows.from [] f ends.from));
      limits = r.limits;
      only = λ qs g p q.
          let w = r.follows.to qs g [] (program_parsed p) (q ∙ (sym all ∙ sym (append-nil (take i ts)))) in
          go qs g w.0 w.1 w.2 (left r.marked w.0 (take i ts) [] r.follows.tokens (ap tokens_of (sym w.1) ∙ (q ∙ (sym all ∙ sym (append-nil (take i ts))))));
    }
  where
    go : (qs : List Marked) (g : List Shape) (rest : List Marked) → qs ≡ r.marked ++ rest → Completed a rest g → tokens_of rest ≡ [] → (qs ≡ r.marked) × (g ≡ f)
    go qs g [] q h d = (q ∙ append-nil r.marked, ends.to g h)
    go qs g (x ∷ rest) q h d = cc

-- an element is the same under any default
at_any : (ts : List Token) (i : ℕ) (d e : Token) → i < length ts → get_or ts i d ≡ get_or ts i e
at_any [] i d e lt = absurd (omega arith)
at_any (t ∷ ts) zero d e lt = refl
at_any (t ∷ ts) (suc i) d e lt = at_any ts i d e (omega arith)

pub told : (ts : List Token) (i : ℕ) (t : Token) → i < length ts → t ≡ get_or ts i t → t ≡ token_at ts i
told ts i t lt e = e ∙ at_any ts i t no_token lt
