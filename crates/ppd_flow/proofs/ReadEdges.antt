-- One read after another.
use Rattle.std.proofs.Common.{◌≡◌, ℕ, suc, ◌+◌, ◌<◌, ◌≤◌, List, [], ◌∷◌, ◌++◌, Result, Ok, Err, ap, sym, ◌∙◌, subst, drop, drop-cons, get_or, length, add-one}
use Rattle.std.proofs.lemmas.List.{append-nil, drop_all}
use Rattle.ppd_sem.specs.declared.event.Access.{Access}
use Rattle.ppd_model.specs.declared.flow.FlowEdge.{FlowEdge}
use Rattle.ppd_model.specs.declared.flow.Origin.{Origin}
use Rattle.ppd_model.specs.declared.flow.Origin.TheVariants as origin
use Rattle.ppd_model.specs.declared.flow_error.FlowError.{FlowError}
use Rattle.ppd_model.specs.declared.flow_error.FlowError.TheVariants.{Diverged, NoEvent, Sets, Memory}
use Rattle.ppd_flow_past.specs.declared.past.Past.{Past}
use Rattle.ppd_flow_past.specs.ByReplays.{IsFoundBy}
use Rattle.ppd_flow_past.proofs.Found.{found_none, found_then}
use Rattle.ppd_graph.specs.Found.{before_others, read_if, with_edge}
use Rattle.ppd_graph.specs.Looked.{Looked}
use Rattle.ppd_graph.specs.Own.{read_from}
use Rattle.ppd_graph.specs.Shared.{Missing}
use Rattle.ppd_flow_shared.specs.SharedCells.{IsAnswerTo, answer_of}
use Rattle.ppd_flow_local.specs.declared.search.Place.{Place}
use Rattle.ppd_flow_local.specs.declared.search.Search.{Search}
use Rattle.ppd_flow_local.proofs.Lefts.{prefixed_both, prefixed}
use Rattle.ppd_flow.specs.Answers.{reads_at, spot_origin}
use Rattle.ppd_flow.proofs.Answered.{found_is, not_found}

not_ok : {A : Type 0} (q : Result A Missing) → answer_of q ≡ Err NoEvent → ⊥
not_ok (Ok x) e = cc e
not_ok (Err m) e = cc e

module _ (past : Past) where
  with_first : (ms : List (ℕ × ℕ)) (e e' : FlowEdge) (others : Result (List FlowEdge) Missing) (n o : ℕ) (r : Result (List FlowEdge) FlowError) → e ≡ e'
      → IsFoundBy past ms (answer_of others) n o r → IsFoundBy past ms (answer_of (with_edge e others)) n o (prefixed (e' ∷ []) r)
  with_first ms e e' (Ok es) n o (Ok xs) same f =
      (f.0, ap (λ (y : FlowEdge). prefixed (y ∷ []) (Ok es)) same ∙ ap (λ (z : Result (List FlowEdge) FlowError). prefixed (e' ∷ []) z) f.1, f.2)
  with_first ms e e' (Err m) n o (Ok xs) same f = absurd (cc f.1)
  with_first ms e e' others n o (Err NoEvent) same f = absurd (not_ok others f.1)
  with_first ms e e' (Ok es) n o (Err (Sets p k c)) same f = absurd (cc f.1)
  with_first ms e e' (Err m) n o (Err (Sets p k c)) same f = f
  with_first ms e e' others n o (Err (Diverged p k)) same f = f
  with_first ms e e' others n o (Err Memory) same f = tt

module _ (s : Search) (place : Place) where
  abbrev past : Past
  past = s.past.now

  abbrev others : List Access → Looked (ℕ × ℕ) (Result (List FlowEdge) Missing)
  others rest = reads_at s place rest

  -- what is answered for a read and those after it, where this is found of its origin
  abbrev First : Access → List Access → Result Origin Missing → (n o : ℕ) → Result (List FlowEdge) FlowError → Type 0
  First a rest q n o r =
      IsFoundBy past ((spot_origin s place a.spot).replays ++ (before_others (read_if a q) (others rest)).replays)
      (answer_of (before_others (read_if a q) (others rest)).found) n o r

  pub goes_on : (a : Access) (rest : List Access) (e' : FlowEdge) (from : Origin) (n m o : ℕ) (r : Result (List FlowEdge) FlowError) → e' ≡ read_from a from
      → IsAnswerTo past (spot_origin s place a.spot) n m (Ok from)
      → IsAnswerTo past (reads_at s place rest) m o r
      → IsAnswerTo past (reads_at s place (a ∷ rest)) n o (prefixed (e' ∷ []) r)
  goes_on a rest e' from n m o r same f g =
      let q : Looked (ℕ × ℕ) (Result Origin Missing) = spot_origin s place a.spot in
      subst (λ (z : Result Origin Missing). First a rest z n o (prefixed (e' ∷ []) r)) (sym (found_is q.found from f.1))
      (with_first past (q.replays ++ (others rest).replays) (read_from a from) e' (others rest).found n o r (sym same)
      (found_then past q.replays (others rest).replays (answer_of q.found) (answer_of (others rest).found) from n m o r f g))

  pub fails : (a : Access) (rest : List Access) (n m : ℕ) (x : FlowError)
      → IsAnswerTo past (spot_origin s place a.spot) n m (Err x)
      → IsAnswerTo past (reads_at s place (a ∷ rest)) n m (Err x)
  fails a rest n m x f =
      let q : Looked (ℕ × ℕ) (Result Origin Missing) = spot_origin s place a.spot in
      not_found past q.replays (before_others (read_if a q.found) (others rest)).replays origin_0 q.found
      (answer_of (before_others (read_if a q.found) (others rest)).found) n m x
      (λ k e. (
        ap (λ (z : Result Origin Missing). (before_others (read_if a z) (others rest)).replays) e,
        ap (λ (z : Result Origin Missing). answer_of (before_others (read_if a z) (others rest)).found) e,
      )) f
    where
      origin_0 : Origin
      origin_0 = origin.Initial

  -- ---- in the list, from number i on

  dropped : (xs : List Access) (i : ℕ) (d x : Access) → i < length xs → x ≡ get_or xs i d → drop i xs ≡ x ∷ drop (i + 1) xs
  dropped xs i d x h e = drop-cons xs i d h ∙ (ap (λ y. y ∷ drop (suc i) xs) (sym e) ∙ ap (λ n. x ∷ drop n xs) (sym (add-one i)))

  module _ (reads : List Access) (i n l : ℕ) (es : List FlowEdge)
      (so : (o : ℕ) (r : Result (List FlowEdge) FlowError) → IsAnswerTo past (reads_at s place (drop i reads)) l o r
      → IsAnswerTo past (reads_at s place reads) n o (prefixed es r)) where
    rest_by : (as' : List Access) (o : ℕ) (r : Result (List FlowEdge) FlowError) → drop i reads ≡ as'
        → IsAnswerTo past (reads_at s place as') l o r
        → IsAnswerTo past (reads_at s place (drop i reads)) l o r
    rest_by as' o r e f = subst (λ (z : List Access). IsAnswerTo past (reads_at s place z) l o r) (sym e) f

    pub next_read : (a d : Access) (e : FlowEdge) (from : Origin) (now : List FlowEdge) (m : ℕ) → i < length reads → a ≡ get_or reads i d
        → now ≡ es ++ e ∷ [] → e ≡ read_from a from → IsAnswerTo past (spot_origin s place a.spot) l m (Ok from)
        → (o : ℕ) (r : Result (List FlowEdge) FlowError) → IsAnswerTo past (reads_at s place (drop (i + 1) reads)) m o r
        → IsAnswerTo past (reads_at s place reads) n o (prefixed now r)
    next_read a d e from now m h at push same f o r g =
        subst (λ (z : List FlowEdge). IsAnswerTo past (reads_at s place reads) n o (prefixed z r)) (sym push)
        (subst (λ z. IsAnswerTo past (reads_at s place reads) n o z) (sym (prefixed_both es (e ∷ []) r))
        (so o (prefixed (e ∷ []) r) (rest_by (a ∷ drop (i + 1) reads) o (prefixed (e ∷ []) r) (dropped reads i d a h at)
        (goes_on a (drop (i + 1) reads) e from l m o r same f g))))

    pub fails_read : (a d : Access) (x : FlowError) (m : ℕ) → i < length reads → a ≡ get_or reads i d
        → IsAnswerTo past (spot_origin s place a.spot) l m (Err x)
        → IsAnswerTo past (reads_at s place reads) n m (Err x)
    fails_read a d x m h at f = so m (Err x) (rest_by (a ∷ drop (i + 1) reads) m (Err x) (dropped reads i d a h at) (fails a (drop (i + 1) reads) l m x f))

    pub all_read : length reads ≤ i → IsAnswerTo past (reads_at s place reads) n l (Ok es)
    all_read h =
        let none : drop i reads ≡ [] = drop_all i reads h in
        subst (λ (z : List FlowEdge). IsAnswerTo past (reads_at s place reads) n l (Ok z)) (append-nil es)
        (so l (Ok []) (rest_by [] l (Ok []) none (found_none past [] l)))
