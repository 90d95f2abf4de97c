-- Finite maps of writes are the marks that a process leaves.
use Rattle.std.proofs.Common.{◌≡◌, ℕ, zero, suc, ◌+◌, ◌*◌, ◌<◌, ◌≤◌, ◌^◌, ℤ, Bool, true, false, cond, List, [], ◌∷◌, ◌++◌, length, Option, Some, None, refl, ap, ap₂, sym, subst, ◌∙◌, arith, true≢false}
use Rattle.std.specs.Prelude.{◌&&◌, fold, find, get_or, nat_eq, is_none, is_some, option_map, if◌then◌else◌}
use Rattle.std.specs.Cmp.{nat_cmp_total, nat_eq_equiv}
use Rattle.std.specs.FinMap.{get, get-empty, get-insert, insert}
use Rattle.std.specs.Ordering.{nat_cmp}
use Rattle.std.proofs.lemmas.List.{append_assoc, append-nil}
use Rattle.ppd_sem.specs.declared.event.Access.{Access}
use Rattle.ppd_sem.specs.declared.event.Event.{Event}
use Rattle.ppd_sem.specs.declared.event.Spot.{Spot}
use Rattle.ppd_sem.specs.declared.event.Spot.TheVariants.{Local, Shared}
use Rattle.ppd_graph.specs.Walk.{is_shared, value_to}
use Rattle.law_flow.specs.Following.{edge_past}
use Rattle.law_flow.specs.Linked.{syncs_from}
use Rattle.law_flow.specs.Writers as writers
use Rattle.law_flow.specs.Writers.{Mark, Marking, mark_in, marked, marks_of, own_write, unmarked, writes}
use Rattle.ppd_activations.proofs.Kept.{alike, same_number}
use Rattle.ppd_whole_link.specs.declared.linker.Mark as kept
use Rattle.ppd_whole_link.specs.declared.marks.Marks.{Marks}
use Rattle.ppd_whole_link.specs.Laws.{AreMarksIf, AreMarksOf, MarksAreWriters}
use Rattle.ppd_whole_link.specs.Linkers.{Own, own_access, own_in, own_past}
use Rattle.ppd_whole_link.specs.Marks.{mark_event, marks_after, no_marks, syncs_if, syncs_past, written_if}
use Rattle.ppd_whole_writes.specs.Writes.{Written, key, mark_access, written_past}

-- ---- keys

same_key : (c d i j : ℕ) → i < 2 ^ 32 → j < 2 ^ 32 → nat_eq (key d i) (key c j) ≡ (nat_eq c d && nat_eq i j)
same_key c d i j less below =
    alike (nat_eq (key d i) (key c j)) (nat_eq c d && nat_eq i j) (λ h.
    let same : d * 4294967296 + i ≡ c * 4294967296 + j = search (arith) in
    let cells : c ≡ d = omega (arith, same, less, below) in
    let edges : i ≡ j = omega (arith, same, cells) in
    ap₂ (λ x y. nat_eq c x && nat_eq i y) (sym cells) (sym edges) ∙ ap₂ (λ x y. x && y) (nat_eq_equiv.refl c) (nat_eq_equiv.refl i)) (λ h.
    by (nat_eq c d) (nat_eq i j) refl refl h)
  where
    by : (x y : Bool) → nat_eq c d ≡ x → nat_eq i j ≡ y → (x && y) ≡ true → nat_eq (key d i) (key c j) ≡ true
    by false y e f h = absurd (true≢false (sym h))
    by true false e f h = absurd (true≢false (sym h))
    by true true e f h =
        let cells : c ≡ d = search (arith) in
        let edges : i ≡ j = search (arith) in
        ap₂ (λ x y. nat_eq (key x y) (key c j)) (sym cells) edges ∙ nat_eq_equiv.refl (key c j)

-- ---- writes of an event

by_cases : (w : Option ℤ) (v : ℤ) (same here : Bool) (n : ℕ) (g : Option ℕ)
    → (if is_some w && here then Some n else (if same && here then Some n else g)) ≡ (if is_some (if same then Some v else w) && here then Some n else g)
by_cases None v true true n g = refl
by_cases None v true false n g = refl
by_cases None v false here n g = refl
by_cases (Some x) v true true n g = refl
by_cases (Some x) v true false n g = refl
by_cases (Some x) v false true n g = refl
by_cases (Some x) v false false n g = refl

all_marked : (i n c j : ℕ) (ws : List Access) (m : Written) → i < 2 ^ 32 → j < 2 ^ 32
    → get (fold (mark_access i n) m ws) (key c j) ≡ (if is_some (value_to c ws) && nat_eq i j then Some n else get m (key c j))
all_marked i n c j [] m less below = refl
all_marked i n c j (a ∷ as') m less below = by a.spot (λ m'. all_marked i n c j as' m' less below)
  where
    by : (spot : Spot) → ((m' : Written) → get (fold (mark_access i n) m' as') (key c j) ≡ (if is_some (value_to c as') && nat_eq i j then Some n else get m' (key c j)))
        → get (fold (mark_access i n) (mark_access i n m (record { spot = spot; value = a.value })) as') (key c j)
        ≡ (if is_some (if is_shared c spot then Some a.value else value_to c as') && nat_eq i j then Some n else get m (key c j))
    by (Local f d) rest = rest m
    by (Shared d) rest =
        let put : get (insert m (key d i) n) (key c j) ≡ (if nat_eq c d && nat_eq i j then Some n else get m (key c j)) =
        get-insert nat_cmp_total m (key d i) n (key c j) ∙ ap (λ (b : Bool). cond b (Some n) (get m (key c j))) (same_number (key c j) (key d i) ∙ same_key c d i j less below) in
        rest (insert m (key d i) n)
        ∙ ap (λ (o : Option ℕ). if is_some (value_to c as') && nat_eq i j then Some n else o) put
        ∙ by_cases (value_to c as') a.value (nat_eq c d) (nat_eq i j) n (get m (key c j))

own_cases : (w : Option ℤ) (v : ℤ) (same : Bool) (n : kept.Mark) (g : Option kept.Mark)
    → (if is_some w then Some n else (if same then Some n else g)) ≡ (if is_some (if same then Some v else w) then Some n else g)
own_cases None v true n g = refl
own_cases None v false n g = refl
own_cases (Some x) v true n g = refl
own_cases (Some x) v false n g = refl

all_owned : (new : kept.Mark) (c : ℕ) (ws : List Access) (m : Own)
    → get (fold (own_access new) m ws) c ≡ (if is_some (value_to c ws) then Some new else get m c)
all_owned new c [] m = refl
all_owned new c (a ∷ as') m = by a.spot (λ m'. all_owned new c as' m')
  where
    by : (spot : Spot) → ((m' : Own) → get (fold (own_access new) m' as') c ≡ (if is_some (value_to c as') then Some new else get m' c))
        → get (fold (own_access new) (own_access new m (record { spot = spot; value = a.value })) as') c
        ≡ (if is_some (if is_shared c spot then Some a.value else value_to c as') then Some new else get m c)
    by (Local f d) rest = rest m
    by (Shared d) rest =
        let put : get (insert m d new) c ≡ (if nat_eq c d then Some new else get m c) =
        get-insert nat_cmp_total m d new c ∙ ap (λ (b : Bool). cond b (Some new) (get m c)) (same_number c d ∙ nat_eq_equiv.symm d c) in
        rest (insert m d new)
        ∙ ap (λ (o : Option kept.Mark). if is_some (value_to c as') then Some new else o) put
        ∙ own_cases (value_to c as') a.value (nat_eq c d) new (get m c)

-- ---- marks

marked_in : (i : ℕ) (new : Mark) (ms : List Mark) → mark_in i (marked new ms) ≡ (if nat_eq new.edge i then Some new.number else mark_in i ms)
marked_in i new [] = by (nat_eq new.edge i)
  where
    by : (b : Bool) → option_map (λ (m : Mark). m.number) (cond b (Some new) None) ≡ (if b then Some new.number else None)
    by true = refl
    by false = refl
marked_in i new (m ∷ ms) = over (nat_eq m.edge new.edge) refl
  where
    rest : List Mark → (b : Bool) → option_map (λ (x : Mark). x.number) (cond b (Some new) (find (λ (x : Mark). nat_eq x.edge i) ms)) ≡ (if b then Some new.number else mark_in i ms)
    rest l true = refl
    rest l false = refl

    whole : (b : Bool) → option_map (λ (x : Mark). x.number) (cond b (Some new) (find (λ (x : Mark). nat_eq x.edge i) (m ∷ ms))) ≡ (if b then Some new.number else mark_in i (m ∷ ms))
    whole true = refl
    whole false = refl

    skip : (b : Bool) → nat_eq m.edge new.edge ≡ true → nat_eq new.edge i ≡ b → (if b then Some new.number else mark_in i ms) ≡ (if b then Some new.number else mark_in i (m ∷ ms))
    skip true e f = refl
    skip false e f =
        let same : m.edge ≡ new.edge = search (arith) in
        sym (ap (λ (b : Bool). option_map (λ (x : Mark). x.number) (cond b (Some m) (find (λ (x : Mark). nat_eq x.edge i) ms))) (ap (λ (k : ℕ). nat_eq k i) same ∙ f))

    over : (b : Bool) → nat_eq m.edge new.edge ≡ b → mark_in i (if b then new ∷ ms else new ∷ m ∷ ms) ≡ (if nat_eq new.edge i then Some new.number else mark_in i (m ∷ ms))
    over true e = rest ms (nat_eq new.edge i) ∙ skip (nat_eq new.edge i) e refl
    over false e = whole (nat_eq new.edge i)

marked_own : (i : ℕ) (new : Mark) (ms : List Mark) → own_write i (marked new ms) ≡ (if nat_eq new.edge i then Some new.number else None)
marked_own i new [] = refl
marked_own i new (m ∷ ms) = by (nat_eq m.edge new.edge)
  where
    by : (b : Bool) → own_write i (if b then new ∷ ms else new ∷ m ∷ ms) ≡ (if nat_eq new.edge i then Some new.number else None)
    by true = refl
    by false = refl

-- ---- one event

-- the own write after an event, from that before it
pub own_on : (c i : ℕ) (o : Option ℕ) (edge number : ℕ) (ws : List Access) (m : Own) (ms : List Mark) → own_in i (get m c) ≡ own_write i ms
    → own_in i (get (own_past o (record { edge = edge; number = number }) ws m) c)
    ≡ own_write i (if is_none o && is_some (value_to c ws) then marked (record { edge = edge; number = number }) ms else ms)
own_on c i (Some s) edge number ws m ms h = h
own_on c i None edge number ws m ms h =
    ap (own_in i) (all_owned (record { edge = edge; number = number }) c ws m) ∙ by (is_some (value_to c ws))
  where
    by : (b : Bool) → own_in i (if b then Some (record { edge = edge; number = number }) else get m c) ≡ own_write i (if b then marked (record { edge = edge; number = number }) ms else ms)
    by true = sym (marked_own i (record { edge = edge; number = number }) ms)
    by false = h

mark_on : (c j : ℕ) (o : Option ℕ) (edge number : ℕ) (ws : List Access) (m : Written) (ms : List Mark) → edge < 2 ^ 32 → j < 2 ^ 32 → get m (key c j) ≡ mark_in j ms
    → get (written_past o edge number ws m) (key c j)
    ≡ mark_in j (if is_none o && is_some (value_to c ws) then marked (record { edge = edge; number = number }) ms else ms)
mark_on c j (Some s) edge number ws m ms less below h = h
mark_on c j None edge number ws m ms less below h =
    all_marked edge number c j ws m less below ∙ by (is_some (value_to c ws))
  where
    put : (b : Bool) → (if b then Some number else get m (key c j)) ≡ (if b then Some number else mark_in j ms)
    put true = refl
    put false = h

    by : (b : Bool) → (if b && nat_eq edge j then Some number else get m (key c j)) ≡ mark_in j (if b then marked (record { edge = edge; number = number }) ms else ms)
    by true = put (nat_eq edge j) ∙ sym (marked_in j (record { edge = edge; number = number }) ms)
    by false = h

-- ---- all events

record Agree (x : Marks) (ys : ℕ → Marking) : Type 0 where
  number : (c : ℕ) → (ys c).number ≡ x.number
  edge : (c : ℕ) → (ys c).edge ≡ x.edge
  few : x.edge ≤ x.number
  written : (c j : ℕ) → j < 2 ^ 32 → get x.written (key c j) ≡ mark_in j (ys c).marks

edge_grows : (o : Option ℕ) (edge number : ℕ) → edge ≤ number → edge_past edge o ≤ number + 1
edge_grows None edge number le = omega (arith, le)
edge_grows (Some s) edge number le = omega (arith, le)

one_agrees : (x : Marks) (ys : ℕ → Marking) (e : Event) → x.number < 2 ^ 32 → Agree x ys → Agree (mark_event x e) (λ c. writers.mark_event c (ys c) e)
one_agrees x ys e few h = record {
  number = λ c. ap (λ (n : ℕ). n + 1) (h.number c);
  edge = λ c. ap (λ (i : ℕ). edge_past i e.number) (h.edge c);
  few = edge_grows e.number x.edge x.number h.few;
  written = λ c j below.
      let le = h.few in
      let less : x.edge < 2 ^ 32 = omega (arith, le, few) in
      mark_on c j e.number x.edge x.number e.writes x.written (ys c).marks less below (h.written c j below)
      ∙ ap₂ (λ (i n : ℕ). mark_in j (if writes c e then marked (record { edge = i; number = n }) (ys c).marks else (ys c).marks)) (sym (h.edge c)) (sym (h.number c));
}

all_agree : (x : Marks) (ys : ℕ → Marking) (es : List Event) → x.number + length es < 2 ^ 32 → Agree x ys → Agree (fold mark_event x es) (λ c. fold (writers.mark_event c) (ys c) es)
all_agree x ys [] few h = h
all_agree x ys (e ∷ es) few h =
    all_agree (mark_event x e) (λ c. writers.mark_event c (ys c) e) es (omega (arith, few)) (one_agrees x ys e (omega (arith, few)) h)

syncs_on : (x : Marks) (es : List Event) → (fold mark_event x es).syncs ≡ x.syncs ++ syncs_from x.number es
syncs_on x [] = sym (append-nil x.syncs)
syncs_on x (e ∷ es) = syncs_on (mark_event x e) es ∙ by e.number
  where
    by : (o : Option ℕ) → syncs_past o x.number x.syncs ++ syncs_from (x.number + 1) es ≡ x.syncs ++ (if is_some o then x.number ∷ syncs_from (x.number + 1) es else syncs_from (x.number + 1) es)
    by None = refl
    by (Some s) = append_assoc x.syncs (x.number ∷ []) (syncs_from (x.number + 1) es)

pub marks_are : MarksAreWriters
marks_are es few =
    let start : Agree no_marks (λ c. unmarked) = record { number = λ c. refl; edge = λ c. refl; few = omega arith; written = λ c j below. get-empty nat_cmp (key c j) } in
    let all = all_agree no_marks (λ c. unmarked) es (omega (arith, few)) start in
    record { written = all.written; syncs = syncs_on no_marks es }

-- ---- of all processes

pub written_is : (es : List Event) (o : Option Marks) (c i : ℕ) → AreMarksIf es o → i < 2 ^ 32 → get (written_if o) (key c i) ≡ mark_in i (marks_of c es)
written_is es None c i h less = get-empty nat_cmp (key c i) ∙ sym (ap (λ (l : List Event). mark_in i (marks_of c l)) h)
written_is es (Some x) c i h less = h.written c i less

pub syncs_are : (es : List Event) (o : Option Marks) (i : ℕ) → AreMarksIf es o → get_or (syncs_if o) i 0 ≡ get_or (syncs_from 0 es) i 0
syncs_are es None i h = sym (ap (λ (l : List Event). get_or (syncs_from 0 l) i 0) h)
syncs_are es (Some x) i h = ap (λ (l : List ℕ). get_or l i 0) h.syncs
