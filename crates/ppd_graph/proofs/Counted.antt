-- The steps of a graph, added up.
use Rattle.std.proofs.Common.{◌≡◌, ℕ, zero, suc, ◌+◌, ◌*◌, ◌<◌, ◌≤◌, List, [], ◌∷◌, ◌++◌, refl, ap, sym, ◌∙◌, arith, inl, inr, length, drop, filter_map, get_or, map, Option, Some, None, Bool, true, false}
use Rattle.std.specs.Prelude.{if◌then◌else◌}
use Rattle.std.proofs.lemmas.Bool.{cases_eq}
use Rattle.std.specs.List.{cons_option, range_with_len, sum_by}
use Rattle.std.proofs.Math.Nat.{add-mul, mul-add}
use Rattle.std.proofs.lemmas.List.Sums.{sum_by-cons, sum_by_push}
use Rattle.std.proofs.lemmas.Nat.{mul-le}
use Rattle.std.proofs.lemmas.List.{drop_more, length-append, length-map, append_assoc}
use Rattle.ppd_ast.specs.declared.program.Program.{Program}
use Rattle.ppd_model.specs.declared.entry.Entry.{Entry}
use Rattle.ppd_model.specs.declared.entry.Entry.TheVariants as entry
use Rattle.ppd_model.specs.declared.entry.Logs.{Logs}
use Rattle.ppd_model.specs.RecordedSets.{record_in, sync_in}
use Rattle.ppd_model.specs.Synchronizations.{Sync}
use Rattle.ppd_ast.specs.declared.limits.TheConstants.{MOST_NAMED}
use Rattle.ppd_graph.specs.declared.paired.Paired.{Paired}
use Rattle.ppd_graph.specs.declared.placed.Placed.{Placed}
use Rattle.ppd_graph.specs.Partners.{listed, pairs_of, partner_of}
use Rattle.ppd_graph.specs.Refusals.{placed_from}
use Rattle.ppd_graph.proofs.Vocabulary.{placed_lists, untimed}
use Rattle.ppd_graph.specs.Spending.{entries_in, graph_cost, list_cost, pairing_cost, pass_cost, times_cost}

pub range_more : (a n : ℕ) → range_with_len a (suc n) ≡ range_with_len a n ++ (a + n) ∷ []
range_more a zero = let e : a ≡ a + zero = omega arith in ap (λ x. x ∷ []) e
range_more a (suc n) =
    let e : (a + 1) + n ≡ a + suc n = omega arith in
    ap (λ xs. a ∷ xs) (range_more (a + 1) n ∙ ap (λ x. range_with_len (a + 1) n ++ x ∷ []) e)

-- ---- over the objects

pub sum_more : (f : ℕ → ℕ) (n : ℕ) → sum_by f (range_with_len 0 (n + 1)) ≡ sum_by f (range_with_len 0 n) + f n
sum_more f n =
    let more : n + 1 ≡ suc n = omega arith in
    let last : 0 + n ≡ n = omega arith in
    ap (λ k. sum_by f (range_with_len 0 k)) more ∙ ap (sum_by f) (range_more 0 n ∙ ap (λ x. range_with_len 0 n ++ x ∷ []) last) ∙ sum_by_push f (range_with_len 0 n) n

pub sum_within : (f : ℕ → ℕ) (n m : ℕ) → n ≤ m → sum_by f (range_with_len 0 n) ≤ sum_by f (range_with_len 0 m)
sum_within f n zero le = let same = ap (λ j. sum_by f (range_with_len 0 j)) (let z : n ≡ zero = omega (arith, le) in z) in omega (arith, same)
sum_within f n (suc m) le = elim (cases_eq n (suc m)) [
  | inl e ↦ let same = ap (λ j. sum_by f (range_with_len 0 j)) e in omega (arith, same)
  | inr d ↦
      let before = sum_within f n m (omega (arith, le, d)) in
      let more = sum_more f m in
      let same = ap (λ j. sum_by f (range_with_len 0 j)) (let z : suc m ≡ m + 1 = omega arith in z) in
      omega (arith, before, more, same)
]

-- ---- the vector times

pub times_on : (n before after steps now most : ℕ) → after < before → now ≤ steps + (2 * n + 1) → steps + before * (2 * n + 1) ≤ most → now + after * (2 * n + 1) ≤ most
times_on n before after steps now most less step within =
    let one : (after + 1) * (2 * n + 1) ≡ after * (2 * n + 1) + 1 * (2 * n + 1) = add-mul after 1 (2 * n + 1) in
    let more : (after + 1) * (2 * n + 1) ≤ before * (2 * n + 1) = mul-le (after + 1) (2 * n + 1) before (2 * n + 1) (omega (arith, less)) (omega arith) in
    omega (arith, one, more, step, within)

left_first : {A B : Type 0} (pairs : List (List A)) (times : List (List B)) → untimed pairs times ≤ sum_by length pairs
left_first [] times = omega arith
left_first {A = A} {B = B} (p ∷ pairs) [] = let rest = left_first {A = A} {B = B} pairs [] in let all = sum_by-cons length p pairs in omega (arith, rest, all)
left_first {A = A} {B = B} (p ∷ pairs) (t ∷ times) = let rest = left_first {A = A} {B = B} pairs times in let all = sum_by-cons length p pairs in omega (arith, rest, all)

pub times_at_first : {A B : Type 0} (pairs : List (List A)) (times : List (List B)) (old now : ℕ) → now ≤ old + length pairs → now + untimed pairs times * (2 * length pairs + 1) ≤ old + length pairs + sum_by length pairs * (2 * length pairs + 1)
times_at_first pairs times old now h =
    let less = left_first pairs times in
    let more : untimed pairs times * (2 * length pairs + 1) ≤ sum_by length pairs * (2 * length pairs + 1) = mul-le (untimed pairs times) (2 * length pairs + 1) (sum_by length pairs) (2 * length pairs + 1) less (omega arith) in
    omega (arith, more, h)

pub times_within : (n m k old steps now : ℕ) → steps + k * (2 * n + 1) ≤ old + n + m * (2 * n + 1) → now ≤ steps + n → now ≤ old + (n + (m + 1) * (2 * n + 1))
times_within n m k old steps now within last =
    let more : (m + 1) * (2 * n + 1) ≡ m * (2 * n + 1) + 1 * (2 * n + 1) = add-mul m 1 (2 * n + 1) in
    omega (arith, more, within, last)

-- ---- lists that grow

pub placed_more : (lists : List (List Entry)) (p : ℕ) (d : List Entry) (now new all : List Placed) → p < length lists → now ++ placed_lists p (drop p lists) ≡ all → new ≡ now ++ placed_from p 0 0 (get_or lists p d)
    → new ++ placed_lists (p + 1) (drop (p + 1) lists) ≡ all
placed_more lists p d now new all lt h e =
    ap (λ r. r ++ placed_lists (p + 1) (drop (p + 1) lists)) e ∙ append_assoc now (placed_from p 0 0 (get_or lists p d)) (placed_lists (p + 1) (drop (p + 1) lists))
    ∙ ap (λ ys. now ++ placed_lists p ys) (sym (drop_more lists p d lt)) ∙ h

pub mapped_more : {A B : Type 0} (f : A → B) (xs : List A) (i : ℕ) (d : A) (now new all : List B) → i < length xs → now ++ map f (drop i xs) ≡ all → new ≡ now ++ f (get_or xs i d) ∷ [] → new ++ map f (drop (i + 1) xs) ≡ all
mapped_more f xs i d now new all lt h e =
    ap (λ r. r ++ map f (drop (i + 1) xs)) e ∙ append_assoc now (f (get_or xs i d) ∷ []) (map f (drop (i + 1) xs)) ∙ ap (λ ys. now ++ map f ys) (sym (drop_more xs i d lt)) ∙ h

-- one more, or none
pub one_or_none : (b : Bool) (s n : ℕ) → n ≡ (if b then s + 1 else s) → n ≤ s + 1
one_or_none true s n e = omega (arith, e)
one_or_none false s n e = omega (arith, e)

-- the partners of one more entry
pub paired_more : {B : Type 0} (g : Sync → B) (es : List Entry) (i : ℕ) (e : Entry) (now new all : List B) → i < length es → e ≡ get_or es i e → now ++ map g (filter_map sync_in (drop i es)) ≡ all → new ≡ now ++ map g (listed (sync_in e))
    → new ++ map g (filter_map sync_in (drop (i + 1) es)) ≡ all
paired_more g es i e now new all lt at h more =
    let rest : List Entry = drop (i + 1) es in
    ap (λ r. r ++ map g (filter_map sync_in rest)) more ∙ append_assoc now (map g (listed (sync_in e))) (map g (filter_map sync_in rest))
    ∙ ap (λ r. now ++ r) (joined (sync_in e) (filter_map sync_in rest))
    ∙ ap (λ ys. now ++ map g (filter_map sync_in ys)) (ap (λ x. x ∷ rest) at ∙ sym (drop_more es i e lt)) ∙ h
  where
    joined : (o : Option Sync) (ss : List Sync) → map g (listed o) ++ map g ss ≡ map g (cons_option o ss)
    joined None ss = refl
    joined (Some s) ss = refl

pub mapped_twice : {A B C : Type 0} (g : B → C) (f : A → B) (xs : List A) (i : ℕ) (d : A) (now new all : List C) → i < length xs → now ++ map g (map f (drop i xs)) ≡ all → new ≡ now ++ g (f (get_or xs i d)) ∷ []
    → new ++ map g (map f (drop (i + 1) xs)) ≡ all
mapped_twice g f xs i d now new all lt h e =
    ap (λ r. r ++ map g (map f (drop (i + 1) xs))) e ∙ append_assoc now (g (f (get_or xs i d)) ∷ []) (map g (map f (drop (i + 1) xs)))
    ∙ ap (λ ys. now ++ map g (map f ys)) (sym (drop_more xs i d lt)) ∙ h

-- ---- entries

placed_few : (p e i : ℕ) (xs : List Entry) → length (placed_from p e i xs) ≤ length xs
placed_few p e i [] = omega arith
placed_few p e i (entry.Sync kind object number value reads writes ∷ xs) = let rest = placed_few p (e + 1) (i + 1) xs in omega (arith, rest)
placed_few p e i (entry.Prelog block values ∷ xs) = let rest = placed_few p (e + 1) i xs in omega (arith, rest)
placed_few p e i (entry.Unit unit values ∷ xs) = let rest = placed_few p (e + 1) i xs in omega (arith, rest)
placed_few p e i (entry.Postlog block values ∷ xs) = let rest = placed_few p (e + 1) i xs in omega (arith, rest)
placed_few p e i (entry.End status rest reads writes ∷ xs) = let few = placed_few p (e + 1) i xs in omega (arith, few)

placed_all : (p : ℕ) (lists : List (List Entry)) → length (placed_lists p lists) ≤ sum_by length lists
placed_all p [] = omega arith
placed_all p (xs ∷ lists) =
    let rest = placed_all (p + 1) lists in
    let here = placed_few p 0 0 xs in
    let both = length-append (placed_from p 0 0 xs) (placed_lists (p + 1) lists) in
    let sum = sum_by-cons length xs lists in
    omega (arith, rest, here, both, sum)

pub placed_within : (placed : List Placed) (lists : List (List Entry)) → placed ≡ placed_lists 0 lists → length placed ≤ sum_by length lists
placed_within placed lists e = let same = ap length e in let all = placed_all 0 lists in omega (arith, same, all)

pub passes : (lists : List (List Entry)) → sum_by list_cost lists ≡ length lists + sum_by length lists
passes [] = refl
passes (xs ∷ lists) =
    let rest = passes lists in
    let one = sum_by-cons list_cost xs lists in
    let two = sum_by-cons length xs lists in
    omega (arith, rest, one, two)

pub kept_few : {A B : Type 0} (f : A → Option B) (xs : List A) → length (filter_map f xs) ≤ length xs
kept_few f [] = omega arith
kept_few f (x ∷ xs) = by (f x) (kept_few f xs)
  where
    by : (o : Option _) → length (filter_map f xs) ≤ length xs → length (cons_option o (filter_map f xs)) ≤ suc (length xs)
    by None h = omega (arith, h)
    by (Some y) h = omega (arith, h)

rows_within : {B : Type 0} (g : Sync → B) (lists : List (List Entry)) → sum_by length (map (map g) (map (filter_map sync_in) lists)) ≤ sum_by length lists
rows_within g [] = omega arith
rows_within {B = B} g (xs ∷ lists) =
    let rest = rows_within {B = B} g lists in
    let here = kept_few sync_in xs in
    let same = length-map (filter_map sync_in xs) g in
    let one = sum_by-cons length (map g (filter_map sync_in xs)) (map (map g) (map (filter_map sync_in) lists)) in
    let two = sum_by-cons length xs lists in
    omega (arith, rest, here, same, one, two)

pub pairs_within : (program : Program) (logs : Logs) (pairs : List (List Paired)) → pairs ≡ pairs_of program (record_in logs) → (length pairs ≡ length logs.lists) × (sum_by length pairs ≤ sum_by length logs.lists)
pairs_within program logs pairs e = (
  ap length e ∙ length-map (record_in logs) (map (partner_of program (record_in logs))) ∙ length-map logs.lists (filter_map sync_in),
  (let same = ap (sum_by length) e in let all = rows_within (partner_of program (record_in logs)) logs.lists in omega (arith, same, all)),
)

-- ---- in all

pub complete_spent : (old a b n m cost sems chans : ℕ) → a ≤ old + 5 * (MOST_NAMED + n) → b ≤ a + cost → cost ≤ sems + chans + 5 * m → m ≡ n → b ≤ old + 10 * n + 5 * MOST_NAMED + sems + chans
complete_spent old a b n m cost sems chans h1 h2 h3 e = omega (arith, h1, h2, h3, e)

pub pair_spent : (old a b c n entries pass sems chans : ℕ) → a ≤ old + pass → b ≤ a + 12 * n + 5 * MOST_NAMED + sems + chans → n ≤ entries → c ≤ b + pass → c ≤ old + (2 * pass + 12 * entries + 5 * MOST_NAMED + sems + chans)
pair_spent old a b c n entries pass sems chans h1 h2 h3 h4 = omega (arith, h1, h2, h3, h4)

pub graph_spent : (program : Program) (logs : Logs) (pairs : List (List Paired)) (old a b c d e : ℕ) → pairs ≡ pairs_of program (record_in logs) → a ≤ old + length logs.lists → b ≤ a + pairing_cost program logs → c ≤ b + times_cost pairs → d ≤ c + length pairs
    → e ≤ d + pass_cost logs → e ≤ old + graph_cost program logs
graph_spent program logs pairs old a b c d e is h1 h2 h3 h4 h5 =
    let p = length logs.lists in
    let n = entries_in logs in
    let both = pairs_within program logs pairs is in
    let many = both.0 in
    let few = both.1 in
    let pass = passes logs.lists in
    let same : (sum_by length pairs + 1) * (2 * length pairs + 1) ≡ (sum_by length pairs + 1) * (2 * p + 1) = ap (λ k. (sum_by length pairs + 1) * (2 * k + 1)) many in
    let within : (sum_by length pairs + 1) * (2 * p + 1) ≤ (n + 1) * (2 * p + 1) = mul-le (sum_by length pairs + 1) (2 * p + 1) (n + 1) (2 * p + 1) (omega (arith, few)) (omega arith) in
    let more : (n + 1) * ((2 * p + 1) + 16) ≡ (n + 1) * (2 * p + 1) + (n + 1) * 16 = mul-add (n + 1) (2 * p + 1) 16 in
    let sum : (2 * p + 1) + 16 ≡ 2 * p + 17 = omega arith in
    let whole : (n + 1) * ((2 * p + 1) + 16) ≡ (n + 1) * (2 * p + 17) = ap (λ k. (n + 1) * k) sum in
    omega (arith, many, pass, same, within, more, whole, h1, h2, h3, h4, h5)
