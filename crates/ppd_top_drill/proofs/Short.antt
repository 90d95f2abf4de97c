-- The source of a drill is not too long.
use Rattle.std.specs.Prelude.{codes, decimal, ◌-◌, ◌*◌, nat_le}
use Rattle.std.proofs.Common.{◌≡◌, ◌<◌, ◌≤◌, ℕ, zero, suc, ◌+◌, ◌^◌, true, List, ◌++◌, length, refl, arith, length-append}
use Rattle.std.specs.List.{flat_map, range_with_len}
use Rattle.std.proofs.lemmas.Bool.{leb-true}
use Rattle.std.proofs.lemmas.Fmt.{length-decimal-le}
use Rattle.ppd_top_drill.specs.Drills.{turns, channel_line, head_of_loop, first_process, middle_process, last_process, pipeline}

-- a text of at most so many bytes
record IsShort (most : ℕ) (text : List ℕ) : Type 0 where
  bytes : length text ≤ most

-- by computation
short : (text : List ℕ) → nat_le (length text) 100 ≡ true → IsShort 100 text
short text h = record { bytes = leb-true (length text) 100 h }

joined : {m n : ℕ} {a b : List ℕ} → IsShort m a → IsShort n b → IsShort (m + n) (a ++ b)
joined {m} {n} {a} {b} h k = record { bytes = omega (arith, length-append a b, h.bytes, k.bytes) }

-- a name with a number
numbered_short : (name : List ℕ) (k : ℕ) → nat_le (length name) 100 ≡ true → k < 10 ^ 7 → IsShort (100 + 7) (name ++ decimal k)
numbered_short name k h lt = joined (short name h) (record { bytes = length-decimal-le 7 k (omega arith) lt (omega (arith, lt)) })

head_short : (n : ℕ) → IsShort (100 + 7 + 100) (head_of_loop n)
head_short n = joined (numbered_short (codes "while (i < ") (turns n) refl (omega arith)) (short (codes ") { ") refl)

channel_short : (k : ℕ) → k < 10 ^ 7 → length (channel_line k) ≤ 1000
channel_short k lt =
    let h : IsShort (100 + 7 + 100) (channel_line k) = joined (numbered_short (codes "chan c") k refl lt) (short (codes "[4];\n") refl) in
    omega (arith, h.bytes)

first_short : (n : ℕ) → n < 10 ^ 7 → length (first_process n) ≤ 1000
first_short n lt =
    let h : IsShort (100 + (100 + 7 + 100) + (100 + 7) + 100) (first_process n) =
    joined (joined (joined (short (codes "process p0 { int i = 0; ") refl) (head_short n)) (numbered_short (codes "send(c0, i * 3 + ") n refl lt)) (short (codes "); i = i + 1; } }\n") refl) in
    omega (arith, h.bytes)

middle_short : (n k : ℕ) → k < 10 ^ 7 → length (middle_process n k) ≤ 1000
middle_short n k lt =
    let h : IsShort (100 + 7 + 100 + (100 + 7 + 100) + (100 + 7) + (100 + 7) + (100 + 7) + 100) (middle_process n k) =
    joined
    (joined (joined (joined (joined (joined (numbered_short (codes "process p") k refl lt) (short (codes " { int i = 0; int v; ") refl)) (head_short n)) (numbered_short (codes "v = recv(c") (k - 1) refl (omega (arith, lt))))
    (numbered_short (codes "); send(c") k refl lt)) (numbered_short (codes ", v + ") k refl lt))
    (short (codes "); i = i + 1; } }\n") refl) in
    omega (arith, h.bytes)

last_short : (n k : ℕ) → k < 10 ^ 7 → length (last_process n k) ≤ 1000
last_short n k lt =
    let h : IsShort (100 + 7 + 100 + (100 + 7 + 100) + (100 + 7) + 100) (last_process n k) =
    joined
    (joined (joined (joined (numbered_short (codes "process p") k refl lt) (short (codes " { int i = 0; int v; int sum = 0; ") refl)) (head_short n)) (numbered_short (codes "v = recv(c") (k - 1) refl (omega (arith, lt))))
    (short (codes "); sum = sum + v; i = i + 1; } total = sum; print(sum); }\n") refl) in
    omega (arith, h.bytes)

lines_short : (line : ℕ → List ℕ) (k count : ℕ) → ((j : ℕ) → j < k + count → length (line j) ≤ 1000) → length (flat_map line (range_with_len k count)) ≤ 1000 * count
lines_short line k zero h = omega arith
lines_short line k (suc count) h =
    let rest = lines_short line (k + 1) count (λ j lt. h j (omega (arith, lt))) in
    omega (arith, length-append (line k) (flat_map line (range_with_len (k + 1) count)), h k (omega arith), rest)

-- a pipeline of at most 7 channels
pub pipeline_short : (n k : ℕ) → n < 10 ^ 7 → k ≤ 7 → length (pipeline n k) ≤ 2 ^ 18
pipeline_short n k small most =
    let a : IsShort 100 (codes "shared int total;\n") = short (codes "shared int total;\n") refl in
    let b : IsShort (1000 * k) (flat_map channel_line (range_with_len 0 k)) = record { bytes = lines_short channel_line 0 k (λ j lt. channel_short j (omega (arith, lt, most))) } in
    let c : IsShort 1000 (first_process n) = record { bytes = first_short n small } in
    let d : IsShort (1000 * (k - 1)) (flat_map (middle_process n) (range_with_len 1 (k - 1))) =
    record { bytes = lines_short (middle_process n) 1 (k - 1) (λ j lt. middle_short n j (omega (arith, lt, most))) } in
    let e : IsShort 1000 (last_process n k) = record { bytes = last_short n k (omega (arith, most)) } in
    let whole : IsShort (100 + 1000 * k + 1000 + 1000 * (k - 1) + 1000) (pipeline n k) = joined (joined (joined (joined a b) c) d) e in
    omega (arith, whole.bytes, most)
