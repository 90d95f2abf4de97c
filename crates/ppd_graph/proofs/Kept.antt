-- The synchronizations kept by their numbers go on as the logs do.
use Rattle.std.proofs.Common.{◌≡◌, ℕ, ◌+◌, ◌<◌, ◌≤◌, List, [], ◌∷◌, length, drop, get_or, Option, Some, None, Result, Ok, Err, OnOk, Bool, true, false, refl, ap, sym, subst, ◌∙◌, true≢false, ◌||◌}
use Rattle.std.specs.Prelude.{IsTrue, is_some, if◌then◌else◌}
use Rattle.std.specs.List.{list_any}
use Rattle.std.proofs.lemmas.Bool.{cond-false, cond-true, or_parts}
use Rattle.std.proofs.lemmas.List.{drop_all, drop_more}
use Rattle.ppd_ast.specs.declared.program.Program.{Program}
use Rattle.ppd_ast.specs.declared.status.SyncKind.{SyncKind}
use Rattle.ppd_ast.specs.declared.status.SyncKind.TheVariants.{P, V, Send, Recv, Done}
use Rattle.ppd_model.specs.declared.entry.At.{At}
use Rattle.ppd_model.specs.declared.graph.NodeId.{NodeId}
use Rattle.std.specs.Option.{option_or as or_else}
use Rattle.ppd_model.specs.Numbers.{sync}
use Rattle.ppd_model.specs.Synchronizations.{Sync}
use Rattle.ppd_graph.specs.declared.by_number.ByNumber.{ByNumber}
use Rattle.ppd_graph.specs.declared.placed.Placed.{Placed}
use Rattle.ppd_graph.specs.ByNumber.{KeepsAll, KeepsMore, KeepsNone, is_kept, is_twice, node_among, node_kept}
use Rattle.ppd_graph.proofs.Vocabulary.{twice_by}
use Rattle.ppd_graph.specs.Refusals.{has_object, is_from_start, sync_placed, twice_after, without_object}
use Rattle.ppd_model.specs.SameSyncs.{same_sync}
use Rattle.ppd_model.proofs.SameSyncs.{same_is, same_self}

-- ---- one more of each kind

pub on_ok : {A E : Type 0} (r : Result A E) (X Y : Type 0) → (X → Y) → OnOk r X → OnOk r Y
on_ok (Ok x) X Y f h = f h
on_ok (Err e) X Y f h = tt

-- what is kept of a kind has one more, where it is the kind k of x
abbrev pub HasMore : SyncKind → ByNumber → ByNumber → Placed → SyncKind → Type 0
HasMore k old new x kind =
    (o n : ℕ) → node_kept new kind o n ≡ (if same_sync (sync k x.object x.number) (sync kind o n) then Some x.node else node_kept old kind o n)

pub more_of : (k : SyncKind) (old new : ByNumber) (x : Placed) → x.kind ≡ k
    → HasMore k old new x P → HasMore k old new x V → HasMore k old new x Send → HasMore k old new x Recv → HasMore k old new x Done
    → KeepsMore old new x
more_of k old new x e takes gives sends receives completions =
    subst (λ j. (kind : SyncKind) → HasMore j old new x kind) (sym e) by
  where
    by : (kind : SyncKind) → HasMore k old new x kind
    by P = takes
    by V = gives
    by Send = sends
    by Recv = receives
    by Done = completions

-- ---- what is kept, and what is still to come

or_on : (b : Bool) (old new later all : Option NodeId) (node : NodeId) → new ≡ (if b then Some node else old) → (b ≡ true → old ≡ None) → or_else old (if b then Some node else later) ≡ all → or_else new later ≡ all
or_on true old new later all node e none inv = ap (λ z. or_else z later) e ∙ ap (λ z. or_else z (Some node)) (sym (none refl)) ∙ inv
or_on false old new later all node e none inv = ap (λ z. or_else z later) e ∙ inv

none_there : (x : Option NodeId) → is_some x ≡ false → x ≡ None
none_there None e = refl
none_there (Some v) e = absurd (true≢false e)

none_of : (x : Option NodeId) → x ≡ None → is_some x ≡ false
none_of x e = ap is_some e

pub or_none : (x : Option NodeId) → or_else x None ≡ x
or_none None = refl
or_none (Some v) = refl

some_if : (b : Bool) (node : NodeId) (old : Option NodeId) → is_some (if b then Some node else old) ≡ (b || is_some old)
some_if true node old = refl
some_if false node old = refl

same_swap : (a b : Sync) → same_sync a b ≡ same_sync b a
same_swap a b = by (same_sync a b) (same_sync b a) refl refl
  where
    by : (x y : Bool) → same_sync a b ≡ x → same_sync b a ≡ y → x ≡ y
    by true true e f = refl
    by false false e f = refl
    by true false e f = absurd (true≢false (sym (subst (λ c. IsTrue (same_sync c a)) (same_is a b e) (same_self a)) ∙ f))
    by false true e f = absurd (true≢false (sym (subst (λ c. IsTrue (same_sync c b)) (same_is b a f) (same_self b)) ∙ e))

module _ (program : Program) where
  -- what is kept and what is still to come are all of them
  pub KeepsFor : ByNumber → List Placed → List Placed → Type 0
  KeepsFor t rest xs = (kind : SyncKind) (o n : ℕ) → or_else (node_kept t kind o n) (node_among (sync kind o n) rest) ≡ node_among (sync kind o n) xs

  not_kept : (t : ByNumber) (x : Placed) → is_twice program t x ≡ false → node_kept t x.kind x.object x.number ≡ None
  not_kept t x e = none_there (node_kept t x.kind x.object x.number) (or_parts (is_kept t (sync_placed x)) (is_from_start program (sync_placed x)) e).0

  kept_on : (t t' : ByNumber) (x : Placed) (rest xs : List Placed) → is_twice program t x ≡ false → KeepsMore t t' x → KeepsFor t (x ∷ rest) xs → KeepsFor t' rest xs
  unfolding KeepsFor
  kept_on t t' x rest xs new more inv kind o n =
      or_on (same_sync (sync_placed x) (sync kind o n)) (node_kept t kind o n) (node_kept t' kind o n) (node_among (sync kind o n) rest) (node_among (sync kind o n) xs) x.node (more kind o n)
      (λ e. subst (λ s. node_kept t s.kind s.object s.number ≡ None) (same_is (sync_placed x) (sync kind o n) e) (not_kept t x new)) (inv kind o n)

  stood_same : (f g : Sync → Bool) (xs : List Placed) → ((s : Sync) → f s ≡ g s) → twice_by program f xs ≡ twice_by program g xs
  stood_same f g xs h = ap (λ k. twice_by program k xs) (λ i s. h s i)

  if_false : {A : Type 0} (b : Bool) (x y all : A) → b ≡ false → (if b then x else y) ≡ all → y ≡ all
  if_false true x y all e h = absurd (true≢false e)
  if_false false x y all e h = h

  twice_on : (t t' : ByNumber) (x : Placed) (rest : List Placed) (all : Option At) → is_twice program t x ≡ false → KeepsMore t t' x → twice_by program (is_kept t) (x ∷ rest) ≡ all → twice_by program (is_kept t') rest ≡ all
  twice_on t t' x rest all new more inv =
      stood_same (is_kept t') (λ s. same_sync (sync_placed x) s || is_kept t s) rest (λ s. ap is_some (more s.kind s.object s.number) ∙ some_if (same_sync (sync_placed x) s) x.node (node_kept t s.kind s.object s.number))
      ∙ if_false (is_twice program t x) (Some x.at) (twice_by program (λ s. same_sync (sync_placed x) s || is_kept t s) rest) all new inv

  -- by a test or by a list of what stood before
  by_list : (seen : List Sync) (xs : List Placed) → twice_by program (λ s. list_any (same_sync s) seen) xs ≡ twice_after program seen xs
  by_list seen [] = refl
  by_list seen (x ∷ xs) =
      ap (λ r. if list_any (same_sync (sync_placed x)) seen || is_from_start program (sync_placed x) then Some x.at else r)
      (stood_same (λ s. same_sync (sync_placed x) s || list_any (same_sync s) seen) (λ s. list_any (same_sync s) (sync_placed x ∷ seen)) xs (λ s. ap (λ b. b || list_any (same_sync s) seen) (same_swap (sync_placed x) s))
      ∙ by_list (sync_placed x ∷ seen) xs)

  pub twice_first : (t : ByNumber) (xs : List Placed) → KeepsNone t → twice_by program (is_kept t) xs ≡ twice_after program [] xs
  twice_first t xs none = stood_same (is_kept t) (λ s. false) xs (λ s. none_of (node_kept t s.kind s.object s.number) (none s.kind s.object s.number)) ∙ by_list [] xs

  pub kept_first : (t : ByNumber) (xs : List Placed) → KeepsNone t → KeepsFor t xs xs
  unfolding KeepsFor
  kept_first t xs none kind o n = ap (λ z. or_else z (node_among (sync kind o n) xs)) (none kind o n)

  -- ---- as the code goes through the list

  pub kept_more : (t t' : ByNumber) (i : ℕ) (xs : List Placed) (d : Placed) (all : Option At) (stood : Bool) → i < length xs → stood ≡ is_twice program t (get_or xs i d) → stood ≡ false → KeepsMore t t' (get_or xs i d)
      → KeepsFor t (drop i xs) xs → twice_by program (is_kept t) (drop i xs) ≡ all → KeepsFor t' (drop (i + 1) xs) xs × (twice_by program (is_kept t') (drop (i + 1) xs) ≡ all)
  kept_more t t' i xs d all stood lt is new more kept twice =
      let cut : drop i xs ≡ get_or xs i d ∷ drop (i + 1) xs = drop_more xs i d lt in (
        kept_on t t' (get_or xs i d) (drop (i + 1) xs) xs (sym is ∙ new) more (subst (λ ys. KeepsFor t ys xs) cut kept),
        twice_on t t' (get_or xs i d) (drop (i + 1) xs) all (sym is ∙ new) more (sym (ap (twice_by program (is_kept t)) cut) ∙ twice),
      )

  pub kept_whole : (t : ByNumber) (i : ℕ) (xs : List Placed) → length xs ≤ i → KeepsFor t (drop i xs) xs → KeepsAll t xs
  unfolding KeepsFor
  kept_whole t i xs past kept kind o n =
      sym (or_none (node_kept t kind o n)) ∙ ap (λ ys. or_else (node_kept t kind o n) (node_among (sync kind o n) ys)) (sym (drop_all i xs past)) ∙ kept kind o n

  -- one whose number stood before is the first of those
  pub twice_here : (t : ByNumber) (i : ℕ) (xs : List Placed) (d : Placed) (all : Option At) (stood : Bool) → i < length xs → stood ≡ is_twice program t (get_or xs i d) → stood ≡ true → twice_by program (is_kept t) (drop i xs) ≡ all
      → all ≡ Some (get_or xs i d).at
  twice_here t i xs d all stood lt is twice inv =
      let x = get_or xs i d in
      sym inv ∙ ap (twice_by program (is_kept t)) (drop_more xs i d lt)
      ∙ cond-true (is_twice program t x) (Some x.at) (twice_by program (λ s. same_sync (sync_placed x) s || is_kept t s) (drop (i + 1) xs)) (sym is ∙ twice)

  pub twice_none : (t : ByNumber) (i : ℕ) (xs : List Placed) (all : Option At) → length xs ≤ i → twice_by program (is_kept t) (drop i xs) ≡ all → all ≡ None
  twice_none t i xs all past inv = sym inv ∙ ap (twice_by program (is_kept t)) (drop_all i xs past)

  -- ---- the first without its object

  pub objects_more : (i : ℕ) (xs : List Placed) (d : Placed) (there : Bool) (all : Option At) → i < length xs → there ≡ has_object program (get_or xs i d).kind (get_or xs i d).object → there ≡ true → without_object program (drop i xs) ≡ all
      → without_object program (drop (i + 1) xs) ≡ all
  objects_more i xs d there all lt is found inv =
      let x = get_or xs i d in
      sym (cond-true (has_object program x.kind x.object) (without_object program (drop (i + 1) xs)) (Some x.at) (sym is ∙ found)) ∙ sym (ap (without_object program) (drop_more xs i d lt)) ∙ inv

  pub objects_here : (i : ℕ) (xs : List Placed) (d : Placed) (there : Bool) (all : Option At) → i < length xs → there ≡ has_object program (get_or xs i d).kind (get_or xs i d).object → there ≡ false → without_object program (drop i xs) ≡ all
      → Some (get_or xs i d).at ≡ all
  objects_here i xs d there all lt is none inv =
      let x = get_or xs i d in
      sym (cond-false (has_object program x.kind x.object) (without_object program (drop (i + 1) xs)) (Some x.at) (sym is ∙ none)) ∙ sym (ap (without_object program) (drop_more xs i d lt)) ∙ inv

  pub objects_all : (i : ℕ) (xs : List Placed) (all : Option At) → length xs ≤ i → without_object program (drop i xs) ≡ all → None ≡ all
  objects_all i xs all past inv = sym (ap (without_object program) (drop_all i xs past)) ∙ inv
