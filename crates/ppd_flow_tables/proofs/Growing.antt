-- Lists of numbers by cell, of which one gets one more number, and the rows of processes.
use Rattle.std.proofs.Common.{◌≡◌, ℕ, zero, suc, ◌+◌, ◌<◌, ◌≤◌, Bool, true, false, List, [], ◌∷◌, ◌++◌, refl, ap, sym, subst, ◌∙◌, arith, inl, inr, drop, get_or, length, eq-eqb, ne_eqb}
use Rattle.std.specs.Prelude.{nat_eq, if◌then◌else◌}
use Rattle.std.proofs.lemmas.Bool.{cond-true, cond-false, cases_eq, cases_lt}
use Rattle.std.proofs.lemmas.List.{drop_all, drop_more, append_assoc, append-nil}
use Rattle.ppd_graph.proofs.Timed.{at_changed, at_end, at_front, at_other}
use Rattle.ppd_graph.specs.declared.sets.EdgeSets.{EdgeSets}
use Rattle.ppd_model.specs.World.{change}
use Rattle.ppd_race_found.specs.Lists.{one_at}
use Rattle.ppd_flow_tables.specs.Writing.{listed_in, times_in}

-- ---- the lists of a process

-- one more list of nothing changes none
pub room_more : (lists : List (List ℕ)) (c : ℕ) → get_or (lists ++ [] ∷ []) c [] ≡ get_or lists c []
room_more [] zero = refl
room_more [] (suc c) = refl
room_more (list ∷ lists) zero = refl
room_more (list ∷ lists) (suc c) = room_more lists c

-- one number more in one of them
pub with_one : (lists : List (List ℕ)) (place edge c : ℕ) → place < length lists → get_or (change (λ list. list ++ edge ∷ []) place lists) c [] ≡ get_or lists c [] ++ one_at place edge c
with_one lists place edge c there = elim (cases_eq place c) [
  | inl same ↦
      ap (λ k. get_or (change (λ list. list ++ edge ∷ []) place lists) k []) (sym same) ∙ at_changed (λ list. list ++ edge ∷ []) place lists there ∙ ap (λ k. get_or lists k [] ++ edge ∷ []) same
      ∙ ap (λ r. get_or lists c [] ++ r) (sym (cond-true (nat_eq place c) (edge ∷ []) [] (eq-eqb place c same)))
  | inr other ↦
      at_other (λ list. list ++ edge ∷ []) place c lists (λ e. other (sym e)) ∙ sym (append-nil (get_or lists c []))
      ∙ ap (λ r. get_or lists c [] ++ r) (sym (cond-false (nat_eq place c) (edge ∷ []) [] (ne_eqb place c other)))
]

-- ---- the writes of an edge

one_time : (c i w : ℕ) (ws : List ℕ) → one_at w i c ++ times_in c i ws ≡ times_in c i (w ∷ ws)
one_time c i w ws = by (nat_eq w c)
  where
    by : (b : Bool) → (if b then i ∷ [] else []) ++ times_in c i ws ≡ (if b then i ∷ times_in c i ws else times_in c i ws)
    by true = refl
    by false = refl

-- the lists with the first k of these writes listed
abbrev pub AreListed : ℕ → List ℕ → ℕ → List (List ℕ) → List (List ℕ) → Type 0
AreListed i ws k old now = (c : ℕ) → get_or now c [] ++ times_in c i (drop k ws) ≡ get_or old c [] ++ times_in c i ws

pub write_listed : (i : ℕ) (ws : List ℕ) (k w d : ℕ) (old now new : List (List ℕ)) → k < length ws → w ≡ get_or ws k d → AreListed i ws k old now
    → ((c : ℕ) → get_or new c [] ≡ get_or now c [] ++ one_at w i c) → AreListed i ws (k + 1) old new
write_listed i ws k w d old now new lt is h more = λ c.
    ap (λ r. r ++ times_in c i (drop (k + 1) ws)) (more c)
    ∙ append_assoc (get_or now c []) (one_at w i c) (times_in c i (drop (k + 1) ws))
    ∙ ap (λ r. get_or now c [] ++ r) (one_time c i w (drop (k + 1) ws) ∙ ap (λ v. times_in c i (v ∷ drop (k + 1) ws)) is ∙ ap (times_in c i) (sym (drop_more ws k d lt)))
    ∙ h c

pub writes_listed : (i : ℕ) (ws : List ℕ) (k : ℕ) (old now : List (List ℕ)) → length ws ≤ k → AreListed i ws k old now → (c : ℕ) → get_or now c [] ≡ get_or old c [] ++ times_in c i ws
writes_listed i ws k old now le h c =
    sym (append-nil (get_or now c [])) ∙ ap (λ ys. get_or now c [] ++ times_in c i ys) (sym (drop_all k ws le)) ∙ h c

-- ---- the edges of a process

-- the lists with those of the first i edges
abbrev pub AreOfEdges : List EdgeSets → ℕ → List (List ℕ) → Type 0
AreOfEdges ss i lists = (c : ℕ) → get_or lists c [] ++ listed_in c i (drop i ss) ≡ listed_in c 0 ss

pub edge_listed : (ss : List EdgeSets) (i : ℕ) (s d : EdgeSets) (now new : List (List ℕ)) → i < length ss → s ≡ get_or ss i d → AreOfEdges ss i now
    → ((c : ℕ) → get_or new c [] ≡ get_or now c [] ++ times_in c i s.writes) → AreOfEdges ss (i + 1) new
edge_listed ss i s d now new lt is h more = λ c.
    ap (λ r. r ++ listed_in c (i + 1) (drop (i + 1) ss)) (more c)
    ∙ append_assoc (get_or now c []) (times_in c i s.writes) (listed_in c (i + 1) (drop (i + 1) ss))
    ∙ ap (λ r. get_or now c [] ++ r) (ap (λ (v : EdgeSets). listed_in c i (v ∷ drop (i + 1) ss)) is ∙ ap (listed_in c i) (sym (drop_more ss i d lt)))
    ∙ h c

pub edges_listed : (ss : List EdgeSets) (i : ℕ) (lists : List (List ℕ)) → length ss ≤ i → AreOfEdges ss i lists → (c : ℕ) → get_or lists c [] ≡ listed_in c 0 ss
edges_listed ss i lists le h c =
    sym (append-nil (get_or lists c [])) ∙ ap (λ ys. get_or lists c [] ++ listed_in c i ys) (sym (drop_all i ss le)) ∙ h c

-- ---- the rows of processes

past_end : {A : Type 0} (xs : List A) (q : ℕ) (d : A) → length xs ≤ q → get_or xs q d ≡ d
past_end [] q d le = refl
past_end (x ∷ xs) zero d le = absurd (omega (arith, le))
past_end (x ∷ xs) (suc q) d le = past_end xs q d (omega (arith, le))

-- those of the first k processes
pub record AreRows (sets : List (List EdgeSets)) (k : ℕ) (rows : List (List (List ℕ))) : Type 0 where
  pub long : length rows ≡ k
  pub lists : (q c : ℕ) → q < k → get_or (get_or rows q []) c [] ≡ listed_in c 0 (get_or sets q [])

pub no_rows : (sets : List (List EdgeSets)) → AreRows sets 0 []
no_rows sets = record { long = refl; lists = λ q c lt. absurd (omega (arith, lt)) }

pub row_more : (sets : List (List EdgeSets)) (k : ℕ) (rows : List (List (List ℕ))) (row : List (List ℕ)) → AreRows sets k rows
    → ((c : ℕ) → get_or row c [] ≡ listed_in c 0 (get_or sets k [])) → AreRows sets (k + 1) (rows ++ row ∷ [])
row_more sets k rows row h more = record {
  long = longer rows row ∙ ap (λ n. n + 1) h.long;
  lists = λ q c lt. elim (cases_lt q k) [
    | inl less ↦ ap (λ l. get_or l c []) (at_front rows row [] q (subst (λ n. q < n) (sym h.long) less)) ∙ h.lists q c less
    | inr le ↦
        let here : q ≡ k = omega (arith, lt, le) in
        let last : get_or (rows ++ row ∷ []) q [] ≡ row = ap (λ n. get_or (rows ++ row ∷ []) n []) (here ∙ sym h.long) ∙ at_end rows row [] in
        ap (λ l. get_or l c []) last ∙ more c ∙ ap (λ n. listed_in c 0 (get_or sets n [])) (sym here)
  ];
}
  where
    longer : {A : Type 0} (xs : List A) (x : A) → length (xs ++ x ∷ []) ≡ length xs + 1
    longer [] x = refl
    longer (y ∷ xs) x = let e = longer xs x in omega (arith, e)

pub all_rows : (sets : List (List EdgeSets)) (k : ℕ) (rows : List (List (List ℕ))) → length sets ≤ k → AreRows sets k rows
    → (q c : ℕ) → get_or (get_or rows q []) c [] ≡ listed_in c 0 (get_or sets q [])
all_rows sets k rows le h q c = elim (cases_lt q k) [
  | inl less ↦ h.lists q c less
  | inr after ↦
      let long = h.long in
      ap (λ (l : List (List ℕ)). get_or l c []) (past_end rows q [] (omega (arith, long, after)))
      ∙ ap (listed_in c 0) (sym (past_end sets q [] (omega (arith, le, after))))
]
