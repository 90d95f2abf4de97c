-- Lists of edges, and answers of the search.
use Rattle.std.proofs.Common.{◌≡◌, List, [], ◌∷◌, ◌++◌, Result, Ok, Err, ap, subst, inl, inr}
use Rattle.ppd_model.specs.declared.flow.FlowEdge.{FlowEdge}
use Rattle.ppd_model.proofs.Tested.{In, here as first_in, there as later_in}
use Rattle.ppd_graph.specs.Shared.{Missing}
use Rattle.law_flow.proofs.Edges.Sources.Members.{in_cases, no_member}

-- ---- lists and answers

pub in_left : (e : FlowEdge) (as' bs : List FlowEdge) → In e as' → In e (as' ++ bs)
in_left e [] bs i = absurd (no_member i)
in_left e (a ∷ as') bs i = elim (in_cases e a as' i) [ inl same ↦ subst (λ z. In e (z ∷ (as' ++ bs))) same first_in | inr later ↦ later_in (in_left e as' bs later) ]

pub in_right : (e : FlowEdge) (as' bs : List FlowEdge) → In e bs → In e (as' ++ bs)
in_right e [] bs i = i
in_right e (a ∷ as') bs i = later_in (in_right e as' bs i)

abbrev pub fine : {A : Type 0} → A → Result A Missing
fine a = Ok a

abbrev value_or : {A : Type 0} → A → Result A Missing → A
value_or a (Ok b) = b
value_or a (Err m) = a

pub ok_is : {A : Type 0} {a b : A} → fine a ≡ fine b → a ≡ b
ok_is {a = a} e = ap (value_or a) e

pub not_ok : {A : Type 0} {m : Missing} {a : A} → Err m ≡ Ok a → ⊥
not_ok e = cc
