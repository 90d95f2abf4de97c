-- The arguments of a call: the first one, and the others.
use Rattle.std.proofs.Common.{◌≡◌, ℕ, suc, ◌-◌, ◌<◌, ◌≤◌, ℤ, List, [], ◌∷◌, ◌++◌, Result, Ok, Err, length, take, drop, slice_index_or, refl, ap, sym, ◌∙◌, arith}
use Rattle.std.proofs.lemmas.List.{append_assoc, append-nil}
use Rattle.ppd_ast.specs.declared.program.Expr.{Expr}
use Rattle.ppd_ast.specs.Term.{term}
use Rattle.ppd_sem.specs.declared.asking.Pause.{Pause}
use Rattle.ppd_sem.specs.declared.event.Access.{Access}
use Rattle.ppd_sem.specs.Ask.{ask}
use Rattle.ppd_sem.specs.Asked.{Asked, and_then, gives, once, outcome}
use Rattle.ppd_sem.specs.Deed.{ask_all}
use Rattle.ppd_sem.specs.Effects.{given, given_if}
use Rattle.ppd_sem.specs.Reads.{reads_of, reads_of_all}

-- the arguments after the first
abbrev pub others : List ℕ → List ℕ
others xs = take (length xs - 1) (drop 1 xs)

take_all : (xs : List ℕ) (n : ℕ) → n ≡ length xs → take n xs ≡ xs
take_all xs n e = rw e (by xs)
  where
    by : (xs : List ℕ) → take (length xs) xs ≡ xs
    by [] = refl
    by (x ∷ xs) = ap (λ l. x ∷ l) (by xs)

pub split : (xs : List ℕ) → 1 ≤ length xs → xs ≡ slice_index_or xs 0 0 ∷ others xs
split [] h = absurd (omega arith)
split (x ∷ xs) h = let n : suc (length xs) - 1 ≡ length xs = omega arith in ap (λ l. x ∷ l) (sym (take_all xs (suc (length xs) - 1) n))

pub none : (xs : List ℕ) → length xs < 1 → xs ≡ []
none [] h = refl
none (x ∷ xs) h = absurd (omega arith)

module _ (es : List Expr) (xs : List ℕ) (cells answers : List ℤ) (some : 1 ≤ length xs) where
  abbrev first : Asked ℤ
  first = ask (term es (slice_index_or xs 0 0)) cells answers

  -- what the arguments come to, where the first comes to nothing
  pub stops : (p : Pause) → first ≡ Err p → outcome (ask_all es xs cells answers) ≡ Err p
  stops p e = ap (λ l. outcome (ask_all es l cells answers)) (split xs some) ∙ ap (λ r. outcome (and_then r (λ v left. and_then (ask_all es (others xs) cells left) (λ vs left. gives left (v ∷ vs))))) e

  pub given_on : (v : ℤ) (left : List ℤ) → first ≡ Ok (v, left) → given es xs cells answers ≡ v ∷ given es (others xs) cells left
  given_on v left e = ap (λ l. given es l cells answers) (split xs some) ∙ ap (λ r. once r (λ v left. v ∷ given es (others xs) cells left)) e

  pub given_stops : (p : Pause) → first ≡ Err p → given es xs cells answers ≡ []
  given_stops p e = ap (λ l. given es l cells answers) (split xs some) ∙ ap (λ r. once r (λ v left. v ∷ given es (others xs) cells left)) e

  -- the values, from those of the others
  pub goes_on : (v : ℤ) (left : List ℤ) (r : Result (Unit {0}) Pause) → first ≡ Ok (v, left)
      → outcome (ask_all es (others xs) cells left) ≡ given_if (given es (others xs) cells left) r
      → outcome (ask_all es xs cells answers) ≡ given_if (given es xs cells answers) r
  goes_on v left r e h =
      ap (λ l. outcome (ask_all es l cells answers)) (split xs some)
      ∙ ap (λ a. outcome (and_then a (λ v left. and_then (ask_all es (others xs) cells left) (λ vs left. gives left (v ∷ vs))))) e
      ∙ by (ask_all es (others xs) cells left) r h
      ∙ ap (λ l. given_if l r) (sym (given_on v left e))
    where
      by : (a : Asked (List ℤ)) (r : Result (Unit {0}) Pause) → outcome a ≡ given_if (given es (others xs) cells left) r
          → outcome (and_then a (λ vs left. gives left (v ∷ vs))) ≡ given_if (v ∷ given es (others xs) cells left) r
      by (Ok q) (Ok u) h = ap (λ l. Ok (v ∷ l)) (cc h)
      by (Ok q) (Err p) h = absurd (cc h)
      by (Err q) (Ok u) h = absurd (cc h)
      by (Err q) (Err p) h = ap Err (cc h)

  -- the values after those that are there
  pub given_more : (values : List ℤ) (v : ℤ) (left : List ℤ) → first ≡ Ok (v, left) → (values ++ v ∷ []) ++ given es (others xs) cells left ≡ values ++ given es xs cells answers
  given_more values v left e = append_assoc values (v ∷ []) (given es (others xs) cells left) ∙ ap (λ l. values ++ l) (sym (given_on v left e))

  pub given_none : (values : List ℤ) (p : Pause) → first ≡ Err p → values ≡ values ++ given es xs cells answers
  given_none values p e = sym (append-nil values) ∙ ap (λ l. values ++ l) (sym (given_stops p e))

  reads_split : (frame : ℕ) → reads_of_all frame es xs cells answers ≡ reads_of frame (term es (slice_index_or xs 0 0)) cells answers ++ once first (λ v left. reads_of_all frame es (others xs) cells left)
  reads_split frame = ap (λ l. reads_of_all frame es l cells answers) (split xs some)

  -- the reads after those that are there
  pub reads_more : (frame : ℕ) (reads : List Access) (v : ℤ) (left : List ℤ) → first ≡ Ok (v, left)
      → (reads ++ reads_of frame (term es (slice_index_or xs 0 0)) cells answers) ++ reads_of_all frame es (others xs) cells left ≡ reads ++ reads_of_all frame es xs cells answers
  reads_more frame reads v left e =
      append_assoc reads (reads_of frame (term es (slice_index_or xs 0 0)) cells answers) (reads_of_all frame es (others xs) cells left)
      ∙ ap (λ l. reads ++ l) (sym (reads_split frame ∙ ap (λ r. reads_of frame (term es (slice_index_or xs 0 0)) cells answers ++ once r (λ v left. reads_of_all frame es (others xs) cells left)) e))

  pub reads_none : (frame : ℕ) (reads : List Access) (p : Pause) → first ≡ Err p
      → reads ++ reads_of frame (term es (slice_index_or xs 0 0)) cells answers ≡ reads ++ reads_of_all frame es xs cells answers
  reads_none frame reads p e =
      ap (λ l. reads ++ l) (sym (reads_split frame ∙ ap (λ r. reads_of frame (term es (slice_index_or xs 0 0)) cells answers ++ once r (λ v left. reads_of_all frame es (others xs) cells left)) e
      ∙ append-nil (reads_of frame (term es (slice_index_or xs 0 0)) cells answers)))
