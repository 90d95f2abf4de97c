-- The lines of a drill's source, by the kinds of their tokens.
use Rattle.std.specs.Prelude.{codes, decimal, take, drop, ◌-◌, ◌*◌}
use Rattle.std.proofs.Common.{◌≡◌, ◌<◌, ◌≤◌, ℕ, zero, suc, pos, ◌+◌, ◌^◌, false, List, [], ◌∷◌, ◌++◌, refl, sym, subst, arith, append_assoc, append-nil}
use Rattle.std.specs.List.{flat_map, range_with_len}
use Rattle.std.proofs.lemmas.Fmt.{decimal_digit}
use Rattle.ppd_parse.specs.declared.token.TokenKind.{TokenKind}
use Rattle.ppd_parse.specs.declared.token.TokenKind.TheVariants.{Number}
use Rattle.ppd_parse.specs.Front.{is_name_byte}
use Rattle.ppd_top_drill.specs.Drills.{turns, channel_line, first_process, middle_process, last_process, pipeline}
use Rattle.ppd_top_drill.proofs.Derivations.{kinds, none}
use Rattle.ppd_top_drill.proofs.Spelled.{Spells, nothing, Over, over, both_over, number_over}
use Rattle.ppd_top_drill.proofs.Pipelines.{digit, shared, channel_of, first_of, middle_of, last_of, Items, with_channels, with_middles, with_process, items_of}

-- ---- texts with one number, or with two

-- what stands before the number of turns, the number, and what stands behind it
first_apart : (x w d e s n c : List ℕ) → ((x ++ ((w ++ d) ++ e)) ++ (s ++ n)) ++ c ≡ (x ++ w) ++ (d ++ ((e ++ s) ++ (n ++ c)))
first_apart x w d e s n c = simp append_assoc refl

middle_apart : (x q w d e a b c f : List ℕ) → (((((x ++ q) ++ ((w ++ d) ++ e)) ++ a) ++ b) ++ c) ++ f ≡ (x ++ (q ++ w)) ++ (d ++ (e ++ (a ++ (b ++ (c ++ f)))))
middle_apart x q w d e a b c f = simp append_assoc refl

last_apart : (x q w d e a f : List ℕ) → (((x ++ q) ++ ((w ++ d) ++ e)) ++ a) ++ f ≡ (x ++ (q ++ w)) ++ (d ++ (e ++ (a ++ f)))
last_apart x q w d e a f = simp append_assoc refl

lines_apart : (a b c d e : List ℕ) → (((a ++ b) ++ c) ++ d) ++ e ≡ a ++ (b ++ (c ++ (d ++ e)))
lines_apart a b c d e = simp append_assoc refl

-- a text, a number, and a text that does not go on with it
around : (a : List ℕ) (n b : ℕ) (bs : List ℕ) (ks ls : List TokenKind) → n < 2 ^ 63 → is_name_byte b ≡ false → Over a ks → Over (b ∷ bs) ls → Over (a ++ (decimal n ++ b ∷ bs)) (ks ++ Number (pos n) ∷ ls)
around a n b bs ks ls lt stop f g = both_over a (decimal n ++ b ∷ bs) ks (Number (pos n) ∷ ls) f (number_over n b bs ls lt stop g)

as_digit : (k : ℕ) → k < 10 → decimal k ≡ digit k
as_digit k lt = decimal_digit k lt

-- ---- channels

abbrev channel_text : List ℕ → List ℕ
channel_text d = (codes "chan c" ++ d) ++ codes "[4];\n"

abbrev IsChannel : ℕ → Type 0
IsChannel k = Over (channel_text (digit k)) (kinds (channel_of k))

-- each by computation
each_channel : (k : ℕ) → k < 7 → IsChannel k
each_channel zero lt = over 8 (channel_text (digit 0)) (kinds (channel_of 0)) (λ rest. refl)
each_channel (suc zero) lt = over 8 (channel_text (digit 1)) (kinds (channel_of 1)) (λ rest. refl)
each_channel (suc (suc zero)) lt = over 8 (channel_text (digit 2)) (kinds (channel_of 2)) (λ rest. refl)
each_channel (suc (suc (suc zero))) lt = over 8 (channel_text (digit 3)) (kinds (channel_of 3)) (λ rest. refl)
each_channel (suc (suc (suc (suc zero)))) lt = over 8 (channel_text (digit 4)) (kinds (channel_of 4)) (λ rest. refl)
each_channel (suc (suc (suc (suc (suc zero))))) lt = over 8 (channel_text (digit 5)) (kinds (channel_of 5)) (λ rest. refl)
each_channel (suc (suc (suc (suc (suc (suc zero)))))) lt = over 8 (channel_text (digit 6)) (kinds (channel_of 6)) (λ rest. refl)
each_channel (suc (suc (suc (suc (suc (suc (suc k))))))) lt = absurd (omega (arith, lt))

channel_over : (k : ℕ) → k < 7 → Over (channel_line k) (kinds (channel_of k))
channel_over k lt = subst (λ d. Over (channel_text d) (kinds (channel_of k))) (sym (as_digit k (omega (arith, lt)))) (each_channel k lt)

-- ---- the first process

abbrev before_first : List ℕ
before_first = codes "process p0 { int i = 0; " ++ codes "while (i < "

abbrev amid_first : List ℕ
amid_first = codes ") { " ++ codes "send(c0, i * 3 + "

abbrev behind_first : List ℕ
behind_first = codes "); i = i + 1; } }\n"

first_over : (n : ℕ) → turns n < 2 ^ 63 → n < 2 ^ 63 → Over (first_process n) (kinds (first_of (turns n) n))
first_over n few small =
    let m : ℕ = turns n in
    let ks : List TokenKind = kinds (first_of m n) in
    subst (λ text. Over text ks)
    (sym (first_apart (codes "process p0 { int i = 0; ") (codes "while (i < ") (decimal m) (codes ") { ") (codes "send(c0, i * 3 + ") (decimal n) behind_first))
    (around before_first m _ _ (take 12 ks) (drop 13 ks) few refl (over 22 before_first (take 12 ks) (λ rest. refl))
    (around amid_first n _ _ (take 10 (drop 13 ks)) (drop 24 ks) small refl (over 17 amid_first (take 10 (drop 13 ks)) (λ rest. refl)) (over 18 behind_first (drop 24 ks) (λ rest. refl))))

-- ---- a process in between

abbrev before_middle : List ℕ → List ℕ
before_middle d = (codes "process p" ++ d) ++ (codes " { int i = 0; int v; " ++ codes "while (i < ")

abbrev behind_middle : List ℕ → List ℕ → List ℕ
behind_middle d e =
    codes ") { " ++ ((codes "v = recv(c" ++ e) ++ ((codes "); send(c" ++ d) ++ ((codes ", v + " ++ d) ++ codes "); i = i + 1; } }\n")))

abbrev AreMiddle : ℕ → ℕ → Type 0
AreMiddle m k =
    Over (before_middle (digit k)) (take 15 (kinds (middle_of m k)))
    × Over (behind_middle (digit k) (digit (k - 1))) (drop 16 (kinds (middle_of m k)))

each_middle : (m k : ℕ) → 1 ≤ k → k < 7 → AreMiddle m k
each_middle m zero some lt = absurd (omega (arith, some))
each_middle m (suc zero) some lt = (
  over 27 (before_middle (digit 1)) (take 15 (kinds (middle_of m 1))) (λ rest. refl),
  over 42 (behind_middle (digit 1) (digit 0)) (drop 16 (kinds (middle_of m 1))) (λ rest. refl),
)
each_middle m (suc (suc zero)) some lt = (
  over 27 (before_middle (digit 2)) (take 15 (kinds (middle_of m 2))) (λ rest. refl),
  over 42 (behind_middle (digit 2) (digit 1)) (drop 16 (kinds (middle_of m 2))) (λ rest. refl),
)
each_middle m (suc (suc (suc zero))) some lt = (
  over 27 (before_middle (digit 3)) (take 15 (kinds (middle_of m 3))) (λ rest. refl),
  over 42 (behind_middle (digit 3) (digit 2)) (drop 16 (kinds (middle_of m 3))) (λ rest. refl),
)
each_middle m (suc (suc (suc (suc zero)))) some lt = (
  over 27 (before_middle (digit 4)) (take 15 (kinds (middle_of m 4))) (λ rest. refl),
  over 42 (behind_middle (digit 4) (digit 3)) (drop 16 (kinds (middle_of m 4))) (λ rest. refl),
)
each_middle m (suc (suc (suc (suc (suc zero))))) some lt = (
  over 27 (before_middle (digit 5)) (take 15 (kinds (middle_of m 5))) (λ rest. refl),
  over 42 (behind_middle (digit 5) (digit 4)) (drop 16 (kinds (middle_of m 5))) (λ rest. refl),
)
each_middle m (suc (suc (suc (suc (suc (suc zero)))))) some lt = (
  over 27 (before_middle (digit 6)) (take 15 (kinds (middle_of m 6))) (λ rest. refl),
  over 42 (behind_middle (digit 6) (digit 5)) (drop 16 (kinds (middle_of m 6))) (λ rest. refl),
)
each_middle m (suc (suc (suc (suc (suc (suc (suc k))))))) some lt = absurd (omega (arith, lt))

middle_over : (n k : ℕ) → turns n < 2 ^ 63 → 1 ≤ k → k < 7 → Over (middle_process n k) (kinds (middle_of (turns n) k))
middle_over n k few some lt =
    let m : ℕ = turns n in
    let ks : List TokenKind = kinds (middle_of m k) in
    let each = each_middle m k some lt in
    let a = subst (λ d. Over (before_middle d) (take 15 ks)) (sym (as_digit k (omega (arith, lt)))) each.0 in
    let b = subst (λ e. Over (behind_middle (digit k) e) (drop 16 ks)) (sym (as_digit (k - 1) (omega (arith, lt)))) each.1 in
    let c = subst (λ d. Over (behind_middle d (decimal (k - 1))) (drop 16 ks)) (sym (as_digit k (omega (arith, lt)))) b in
    subst (λ text. Over text ks)
    (sym (middle_apart (codes "process p" ++ decimal k) (codes " { int i = 0; int v; ") (codes "while (i < ") (decimal m) (codes ") { ")
    (codes "v = recv(c" ++ decimal (k - 1)) (codes "); send(c" ++ decimal k) (codes ", v + " ++ decimal k) (codes "); i = i + 1; } }\n")))
    (around (before_middle (decimal k)) m _ _ (take 15 ks) (drop 16 ks) few refl a c)

-- ---- the last process

abbrev before_last : List ℕ → List ℕ
before_last d = (codes "process p" ++ d) ++ (codes " { int i = 0; int v; int sum = 0; " ++ codes "while (i < ")

abbrev behind_last : List ℕ → List ℕ
behind_last e = codes ") { " ++ ((codes "v = recv(c" ++ e) ++ codes "); sum = sum + v; i = i + 1; } total = sum; print(sum); }\n")

abbrev AreLast : ℕ → ℕ → Type 0
AreLast m k = Over (before_last (digit k)) (take 20 (kinds (last_of m k))) × Over (behind_last (digit (k - 1))) (drop 21 (kinds (last_of m k)))

each_last : (m k : ℕ) → 2 ≤ k → k < 8 → AreLast m k
each_last m zero some lt = absurd (omega (arith, some))
each_last m (suc zero) some lt = absurd (omega (arith, some))
each_last m (suc (suc zero)) some lt = (
  over 36 (before_last (digit 2)) (take 20 (kinds (last_of m 2))) (λ rest. refl),
  over 53 (behind_last (digit 1)) (drop 21 (kinds (last_of m 2))) (λ rest. refl),
)
each_last m (suc (suc (suc zero))) some lt = (
  over 36 (before_last (digit 3)) (take 20 (kinds (last_of m 3))) (λ rest. refl),
  over 53 (behind_last (digit 2)) (drop 21 (kinds (last_of m 3))) (λ rest. refl),
)
each_last m (suc (suc (suc (suc zero)))) some lt = (
  over 36 (before_last (digit 4)) (take 20 (kinds (last_of m 4))) (λ rest. refl),
  over 53 (behind_last (digit 3)) (drop 21 (kinds (last_of m 4))) (λ rest. refl),
)
each_last m (suc (suc (suc (suc (suc zero))))) some lt = (
  over 36 (before_last (digit 5)) (take 20 (kinds (last_of m 5))) (λ rest. refl),
  over 53 (behind_last (digit 4)) (drop 21 (kinds (last_of m 5))) (λ rest. refl),
)
each_last m (suc (suc (suc (suc (suc (suc zero)))))) some lt = (
  over 36 (before_last (digit 6)) (take 20 (kinds (last_of m 6))) (λ rest. refl),
  over 53 (behind_last (digit 5)) (drop 21 (kinds (last_of m 6))) (λ rest. refl),
)
each_last m (suc (suc (suc (suc (suc (suc (suc zero))))))) some lt = (
  over 36 (before_last (digit 7)) (take 20 (kinds (last_of m 7))) (λ rest. refl),
  over 53 (behind_last (digit 6)) (drop 21 (kinds (last_of m 7))) (λ rest. refl),
)
each_last m (suc (suc (suc (suc (suc (suc (suc (suc k)))))))) some lt = absurd (omega (arith, lt))

last_over : (n k : ℕ) → turns n < 2 ^ 63 → 2 ≤ k → k < 8 → Over (last_process n k) (kinds (last_of (turns n) k))
last_over n k few some lt =
    let m : ℕ = turns n in
    let ks : List TokenKind = kinds (last_of m k) in
    let each = each_last m k some lt in
    let a = subst (λ d. Over (before_last d) (take 20 ks)) (sym (as_digit k (omega (arith, lt)))) each.0 in
    let b = subst (λ e. Over (behind_last e) (drop 21 ks)) (sym (as_digit (k - 1) (omega (arith, lt)))) each.1 in
    subst (λ text. Over text ks)
    (sym (last_apart (codes "process p" ++ decimal k) (codes " { int i = 0; int v; int sum = 0; ") (codes "while (i < ") (decimal m) (codes ") { ")
    (codes "v = recv(c" ++ decimal (k - 1)) (codes "); sum = sum + v; i = i + 1; } total = sum; print(sum); }\n")))
    (around (before_last (decimal k)) m _ _ (take 20 ks) (drop 21 ks) few refl a b)

-- ---- the whole source

channels_spelled : (k count : ℕ) → k + count ≤ 7 → (rest : List ℕ) (t : Items) → Spells rest (kinds t) → Spells (flat_map channel_line (range_with_len k count) ++ rest) (kinds (with_channels k count t))
channels_spelled k zero most rest t s = s
channels_spelled k (suc count) most rest t s =
    subst (λ text. Spells text (kinds (with_channels k (suc count) t))) (sym (append_assoc (channel_line k) (flat_map channel_line (range_with_len (k + 1) count)) rest))
    (channel_over k (omega (arith, most)) _ _ (channels_spelled (k + 1) count (omega (arith, most)) rest t s))

middles_spelled : (n k count : ℕ) → turns n < 2 ^ 63 → 1 ≤ k → k + count ≤ 7 → (rest : List ℕ) (t : Items) → Spells rest (kinds t)
    → Spells (flat_map (middle_process n) (range_with_len k count) ++ rest) (kinds (with_middles (turns n) k count t))
middles_spelled n k zero few some most rest t s = s
middles_spelled n k (suc count) few some most rest t s =
    subst (λ text. Spells text (kinds (with_middles (turns n) k (suc count) t))) (sym (append_assoc (middle_process n k) (flat_map (middle_process n) (range_with_len (k + 1) count)) rest))
    (middle_over n k few some (omega (arith, most)) _ _ (middles_spelled n (k + 1) count few (omega arith) (omega (arith, most)) rest t s))

total_over : Over (codes "shared int total;\n") (kinds (shared (codes "total")))
total_over = over 7 (codes "shared int total;\n") (kinds (shared (codes "total"))) (λ rest. refl)

-- a pipeline of 2 to 7 channels is the tokens of its items
pub pipeline_spelled : (n k : ℕ) → n < 2 ^ 63 → 2 ≤ k → k ≤ 7 → Spells (pipeline n k) (kinds (items_of (turns n) n k))
pipeline_spelled n k small some most =
    let few : turns n < 2 ^ 63 = omega arith in
    let m : ℕ = turns n in
    let end : Items = with_process (last_of m k) none in
    let amid : Items = with_middles m 1 (k - 1) end in
    let begin : Items = with_process (first_of m n) amid in
    let last : Spells (last_process n k) (kinds end) =
    subst (λ text. Spells text (kinds end)) (append-nil (last_process n k)) (last_over n k few some (omega (arith, most)) [] [] nothing) in
    let middles : Spells (flat_map (middle_process n) (range_with_len 1 (k - 1)) ++ last_process n k) (kinds amid) =
    middles_spelled n 1 (k - 1) few (omega arith) (omega (arith, some, most)) (last_process n k) end last in
    subst (λ text. Spells text (kinds (items_of m n k)))
    (sym (lines_apart (codes "shared int total;\n") (flat_map channel_line (range_with_len 0 k)) (first_process n) (flat_map (middle_process n) (range_with_len 1 (k - 1))) (last_process n k)))
    (total_over _ _ (channels_spelled 0 k (omega (arith, most)) _ begin (first_over n few small _ _ middles)))
