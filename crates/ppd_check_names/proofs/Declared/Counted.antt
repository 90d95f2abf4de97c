-- The rules that declarations break, noted item after item, are those of the definition, which takes them in another order.
use Rattle.std.proofs.Common.{◌≡◌, refl, sym, ap, ◌∙◌, ℕ, zero, suc, ◌+◌, ◌≤◌, ◌<◌, arith, Bool, true, false, nat_le, nat_lt, List, [], ◌∷◌, ◌++◌, map, drop, length, Option, Some, None}
use Rattle.std.proofs.lemmas.List.{map-append, append-nil, append_assoc, length-map, drop-append-le, length-append}
use Rattle.ppd_ast.specs.declared.limits.TheConstants.{MOST_SHARED_CELLS, MOST_SEMAPHORES, MOST_CHANNELS, MOST_FUNCTIONS, MOST_PROCESSES}
use Rattle.ppd_check_names.specs.declared.fault.Cause.TheVariants.{TooMany}
use Rattle.ppd_check_names.specs.declared.fault.Fault.{Fault}
use Rattle.ppd_check_names.specs.declared.fault.Limit.{Limit}
use Rattle.ppd_check_names.specs.declared.fault.Limit.TheVariants as L
use Rattle.ppd_check_names.specs.declared.frame.Variable.{Variable}
use Rattle.ppd_check_names.specs.Faults.{at, if_so, first, first_of_both}
use Rattle.ppd_check_names.specs.Fitted.{fitted}
use Rattle.ppd_check_names.specs.Frames.{after_cells, variable_of, twice_faults}
use Rattle.ppd_check_names.specs.Syntax.{Name, Item, shared, shared_array, semaphore, channel, function, process}
use Rattle.ppd_check_names.specs.Declaring.{counted}
use Rattle.ppd_check_names.specs.Holding.{item_counted, noted}
use Rattle.ppd_check_names.specs.Globals.{Globals, Head, Object, no_globals, item_name, with_item, item_size_faults, items_faults, past, past_cells, count_faults}
use Rattle.ppd_check_names.specs.Holding.{with_items}
use Rattle.ppd_check_names.proofs.Words.{head_name, object_name}
use Rattle.ppd_check_names.proofs.Found.First.{first-append, first_of_both_assoc, first_of_both_swap}

-- The first of two broken rules, in any order.

last : (x y z : Option Fault) → first_of_both (first_of_both x y) z ≡ first_of_both x (first_of_both y z)
last x y z = sym (first_of_both_assoc x y z)

front : (x y z : Option Fault) → first_of_both (first_of_both x y) z ≡ first_of_both (first_of_both x z) y
front x y z = last x y z ∙ ap (first_of_both x) (first_of_both_swap y z) ∙ first_of_both_assoc x z y

-- two pairs, by their parts
pairs : (z c i k : Option Fault) → first_of_both (first_of_both z c) (first_of_both i k) ≡ first_of_both (first_of_both z i) (first_of_both c k)
pairs z c i k =
    first_of_both_assoc (first_of_both z c) i k
    ∙ ap (λ x. first_of_both x k) (front z c i)
    ∙ last (first_of_both z i) c k

shuffle : (t c z i k : Option Fault)
    → first_of_both (first_of_both (first_of_both t c) z) (first_of_both i k) ≡ first_of_both (first_of_both t (first_of_both z i)) (first_of_both c k)
shuffle t c z i k =
    ap (λ x. first_of_both x (first_of_both i k)) (front t c z ∙ last t z c)
    ∙ last t (first_of_both z c) (first_of_both i k)
    ∙ ap (first_of_both t) (pairs z c i k)
    ∙ first_of_both_assoc t (first_of_both z i) (first_of_both c k)

both_parts : (a a' b b' : List Fault) → first a ≡ first a' → first b ≡ first b' → first (a ++ b) ≡ first (a' ++ b')
both_parts a a' b b' e f =
    first-append a b ∙ ap (λ x. first_of_both x (first b)) e ∙ ap (first_of_both (first a')) f ∙ sym (first-append a' b')

-- the items that are too many, each after those before it
abbrev counts : List Item → Globals → List Fault
counts [] s = []
counts (i ∷ is) s = item_counted i s ++ counts is (with_item i s)

split_one : (t c z n i k : List Fault) → first n ≡ first (i ++ k) → first (((t ++ c) ++ z) ++ n) ≡ first ((t ++ (z ++ i)) ++ (c ++ k))
split_one t c z n i k e =
    first-append ((t ++ c) ++ z) n
    ∙ ap (λ x. first_of_both x (first n)) (first-append (t ++ c) z ∙ ap (λ x. first_of_both x (first z)) (first-append t c))
    ∙ ap (first_of_both (first_of_both (first_of_both (first t) (first c)) (first z))) (e ∙ first-append i k)
    ∙ shuffle (first t) (first c) (first z) (first i) (first k)
    ∙ ap (λ x. first_of_both (first_of_both (first t) x) (first_of_both (first c) (first k))) (sym (first-append z i))
    ∙ ap (λ x. first_of_both x (first_of_both (first c) (first k))) (sym (first-append t (z ++ i)))
    ∙ ap (first_of_both (first (t ++ (z ++ i)))) (sym (first-append c k))
    ∙ sym (first-append (t ++ (z ++ i)) (c ++ k))

noted_split : (is : List Item) (s : Globals) → first (noted is s) ≡ first (items_faults is s ++ counts is s)
noted_split [] s = refl
noted_split (i ∷ is) s =
    split_one (twice_faults s.scope (item_name i)) (item_counted i s) (item_size_faults i) (noted is (with_item i s)) (items_faults is (with_item i s)) (counts is (with_item i s))
    (noted_split is (with_item i s))

-- One name more, after so many others.

drop_all : (n : ℕ) (l : List Name) → length l ≤ n → drop n l ≡ []
drop_all zero [] h = refl
drop_all (suc n) [] h = refl
drop_all zero (x ∷ l) h = absurd (omega (arith, h))
drop_all (suc n) (x ∷ l) h = drop_all n l (omega (arith, h))

pub le_true : (m n : ℕ) → nat_le m n ≡ true → m ≤ n
le_true m n h = grind (arith, h)

le_false : (m n : ℕ) → nat_le m n ≡ false → n < m
le_false m n h = grind (arith, h)

past_more : (n : ℕ) (limit : Limit) (names : List Name) (x : Name) → past n limit (names ++ x ∷ []) ≡ past n limit names ++ counted n (length names) limit x.place
past_more n limit names x = go (nat_le n (length names)) refl
  where
    fault : Name → Fault
    fault y = at y.place (TooMany limit)

    long : length (names ++ x ∷ []) ≡ length names + 1
    long = length-append names (x ∷ [])

    go : (b : Bool) → nat_le n (length names) ≡ b → map fault (drop n (names ++ x ∷ [])) ≡ map fault (drop n names) ++ if_so b x.place (TooMany limit)
    go true e = ap (map fault) (drop-append-le n names (x ∷ []) (le_true n (length names) e)) ∙ map-append fault (drop n names) (x ∷ [])
    go false e =
        let few : length names < n = le_false n (length names) e in
        ap (map fault) (drop_all n (names ++ x ∷ []) (omega (arith, few, long)))
        ∙ ap (λ l. map fault l ++ []) (sym (drop_all n names (omega (arith, few))))

-- one more of a list of named things
past_heads : (n : ℕ) (limit : Limit) (hs : List Head) (h : Head) → past n limit (map head_name (hs ++ h ∷ [])) ≡ past n limit (map head_name hs) ++ counted n (length hs) limit h.name.place
past_heads n limit hs h =
    ap (past n limit) (map-append head_name hs (h ∷ []))
    ∙ past_more n limit (map head_name hs) h.name
    ∙ ap (λ k. past n limit (map head_name hs) ++ counted n k limit h.name.place) (length-map hs head_name)

past_objects : (n : ℕ) (limit : Limit) (os : List Object) (o : Object) → past n limit (map object_name (os ++ o ∷ [])) ≡ past n limit (map object_name os) ++ counted n (length os) limit o.name.place
past_objects n limit os o =
    ap (past n limit) (map-append object_name os (o ∷ []))
    ∙ past_more n limit (map object_name os) o.name
    ∙ ap (λ k. past n limit (map object_name os) ++ counted n k limit o.name.place) (length-map os object_name)

-- One variable more.

-- the first cell after variables of which the first begins at a cell
abbrev pub end_cells : ℕ → List Variable → ℕ
end_cells n [] = n
end_cells n (v ∷ vs) = end_cells (after_cells n v.length) vs

pub end_cells_more : (n : ℕ) (vs : List Variable) (v : Variable) → end_cells n (vs ++ v ∷ []) ≡ after_cells (end_cells n vs) v.length
end_cells_more n [] v = refl
end_cells_more n (w ∷ vs) v = end_cells_more (after_cells n w.length) vs v

pub past_cells_more : (most : ℕ) (limit : Limit) (n : ℕ) (vs : List Variable) (v : Variable)
    → past_cells most limit n (vs ++ v ∷ []) ≡ past_cells most limit n vs ++ if_so (nat_lt most (after_cells (end_cells n vs) v.length)) v.place (TooMany limit)
past_cells_more most limit n [] v = append-nil (if_so (nat_lt most (after_cells n v.length)) v.place (TooMany limit))
past_cells_more most limit n (w ∷ vs) v =
    let one : List Fault = if_so (nat_lt most (after_cells n w.length)) w.place (TooMany limit) in
    ap (λ l. one ++ l) (past_cells_more most limit (after_cells n w.length) vs v)
    ∙ sym (append_assoc one (past_cells most limit (after_cells n w.length) vs) (if_so (nat_lt most (after_cells (end_cells (after_cells n w.length) vs) v.length)) v.place (TooMany limit)))

-- the cells are those of the variables
abbrev pub Celled : Globals → Type 0
Celled s = s.cells ≡ end_cells 0 s.shared

pub celled_item : (i : Item) (s : Globals) → Celled s → Celled (with_item i s)
celled_item (shared x v) s h = ap (λ n. after_cells n None) h ∙ sym (end_cells_more 0 s.shared (variable_of x None))
celled_item (shared_array x n) s h = ap (λ k. after_cells k (Some (fitted 16 n.value))) h ∙ sym (end_cells_more 0 s.shared (variable_of x (Some (fitted 16 n.value))))
celled_item (semaphore x n) s h = h
celled_item (channel x n) s h = h
celled_item (function gives x params b) s h = h
celled_item (process x b) s h = h

cells_item : (s : Globals) (v : Variable) → Celled s
    → past_cells MOST_SHARED_CELLS L.Shared 0 (s.shared ++ v ∷ []) ≡ past_cells MOST_SHARED_CELLS L.Shared 0 s.shared ++ if_so (nat_lt MOST_SHARED_CELLS (after_cells s.cells v.length)) v.place (TooMany L.Shared)
cells_item s v h =
    past_cells_more MOST_SHARED_CELLS L.Shared 0 s.shared v
    ∙ ap (λ n. past_cells MOST_SHARED_CELLS L.Shared 0 s.shared ++ if_so (nat_lt MOST_SHARED_CELLS (after_cells n v.length)) v.place (TooMany L.Shared)) (sym h)

-- Of five parts one has more.

abbrev five : (f p m h v : List Fault) → List Fault
five f p m h v = f ++ (p ++ (m ++ (h ++ v)))

more_last : (a b c d : List Fault) → first (b ++ c) ≡ first d → first ((a ++ b) ++ c) ≡ first (a ++ d)
more_last a b c d e = ap first (append_assoc a b c) ∙ both_parts a a (b ++ c) d refl e

more_front : (a b c d : List Fault) → d ≡ a ++ c → first ((a ++ b) ++ c) ≡ first (d ++ b)
more_front a b c d e =
    first-append (a ++ b) c
    ∙ ap (λ x. first_of_both x (first c)) (first-append a b)
    ∙ front (first a) (first b) (first c)
    ∙ ap (λ x. first_of_both x (first b)) (sym (first-append a c))
    ∙ sym (first-append (a ++ c) b)
    ∙ ap (λ l. first (l ++ b)) (sym e)

more_1 : (f p m h v c d : List Fault) → d ≡ f ++ c → first (five f p m h v ++ c) ≡ first (five d p m h v)
more_1 f p m h v c d e = more_front f (p ++ (m ++ (h ++ v))) c d e

more_2 : (f p m h v c d : List Fault) → d ≡ p ++ c → first (five f p m h v ++ c) ≡ first (five f d m h v)
more_2 f p m h v c d e = more_last f (p ++ (m ++ (h ++ v))) c (d ++ (m ++ (h ++ v))) (more_front p (m ++ (h ++ v)) c d e)

more_3 : (f p m h v c d : List Fault) → d ≡ m ++ c → first (five f p m h v ++ c) ≡ first (five f p d h v)
more_3 f p m h v c d e =
    more_last f (p ++ (m ++ (h ++ v))) c (p ++ (d ++ (h ++ v))) (more_last p (m ++ (h ++ v)) c (d ++ (h ++ v)) (more_front m (h ++ v) c d e))

more_4 : (f p m h v c d : List Fault) → d ≡ h ++ c → first (five f p m h v ++ c) ≡ first (five f p m d v)
more_4 f p m h v c d e =
    more_last f (p ++ (m ++ (h ++ v))) c (p ++ (m ++ (d ++ v)))
    (more_last p (m ++ (h ++ v)) c (m ++ (d ++ v)) (more_last m (h ++ v) c (d ++ v) (more_front h v c d e)))

more_5 : (f p m h v c d : List Fault) → d ≡ v ++ c → first (five f p m h v ++ c) ≡ first (five f p m h d)
more_5 f p m h v c d e =
    more_last f (p ++ (m ++ (h ++ v))) c (p ++ (m ++ (h ++ d)))
    (more_last p (m ++ (h ++ v)) c (m ++ (h ++ d)) (more_last m (h ++ v) c (h ++ d) (more_last h v c d (ap first (sym e)))))

abbrev functions_part : Globals → List Fault
functions_part s = past MOST_FUNCTIONS L.Functions (map head_name s.functions)

abbrev processes_part : Globals → List Fault
processes_part s = past MOST_PROCESSES L.Processes (map head_name s.processes)

abbrev semaphores_part : Globals → List Fault
semaphores_part s = past MOST_SEMAPHORES L.Semaphores (map object_name s.semaphores)

abbrev channels_part : Globals → List Fault
channels_part s = past MOST_CHANNELS L.Channels (map object_name s.channels)

abbrev cells_part : Globals → List Fault
cells_part s = past_cells MOST_SHARED_CELLS L.Shared 0 s.shared

one_count : (i : Item) (s : Globals) → Celled s → first (count_faults s ++ item_counted i s) ≡ first (count_faults (with_item i s))
one_count (shared x v) s h =
    more_5 (functions_part s) (processes_part s) (semaphores_part s) (channels_part s) (cells_part s) (item_counted (shared x v) s) (cells_part (with_item (shared x v) s))
    (cells_item s (variable_of x None) h)
one_count (shared_array x n) s h =
    more_5 (functions_part s) (processes_part s) (semaphores_part s) (channels_part s) (cells_part s) (item_counted (shared_array x n) s) (cells_part (with_item (shared_array x n) s))
    (cells_item s (variable_of x (Some (fitted 16 n.value))) h)
one_count (semaphore x n) s h =
    more_3 (functions_part s) (processes_part s) (semaphores_part s) (channels_part s) (cells_part s) (item_counted (semaphore x n) s) (semaphores_part (with_item (semaphore x n) s))
    (past_objects MOST_SEMAPHORES L.Semaphores s.semaphores (record { name = x; number = n.value }))
one_count (channel x n) s h =
    more_4 (functions_part s) (processes_part s) (semaphores_part s) (channels_part s) (cells_part s) (item_counted (channel x n) s) (channels_part (with_item (channel x n) s))
    (past_objects MOST_CHANNELS L.Channels s.channels (record { name = x; number = n.value }))
one_count (function gives x params b) s h =
    more_1 (functions_part s) (processes_part s) (semaphores_part s) (channels_part s) (cells_part s) (item_counted (function gives x params b) s) (functions_part (with_item (function gives x params b) s))
    (past_heads MOST_FUNCTIONS L.Functions s.functions (record { process = false; gives = gives; name = x; params = params; block = b }))
one_count (process x b) s h =
    more_2 (functions_part s) (processes_part s) (semaphores_part s) (channels_part s) (cells_part s) (item_counted (process x b) s) (processes_part (with_item (process x b) s))
    (past_heads MOST_PROCESSES L.Processes s.processes (record { process = true; gives = false; name = x; params = []; block = b }))

all_counts : (is : List Item) (s : Globals) → Celled s → first (count_faults s ++ counts is s) ≡ first (count_faults (with_items is s))
all_counts [] s h = ap first (append-nil (count_faults s))
all_counts (i ∷ is) s h =
    ap first (sym (append_assoc (count_faults s) (item_counted i s) (counts is (with_item i s))))
    ∙ both_parts (count_faults s ++ item_counted i s) (count_faults (with_item i s)) (counts is (with_item i s)) (counts is (with_item i s)) (one_count i s h) refl
    ∙ all_counts is (with_item i s) (celled_item i s h)

-- what is noted of all items of a source
pub noted_all : (is : List Item) → first (noted is no_globals) ≡ first (items_faults is no_globals ++ count_faults (with_items is no_globals))
noted_all is =
    noted_split is no_globals
    ∙ both_parts (items_faults is no_globals) (items_faults is no_globals) (counts is no_globals) (count_faults (with_items is no_globals)) refl (all_counts is no_globals refl)
