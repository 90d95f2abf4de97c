-- What the bodies that chains of calls reach read and write.
use Rattle.std.proofs.Common.{◌≡◌, ℕ, ◌+◌, ◌<◌, List, [], ◌∷◌, ◌++◌, true, Option, Some, length, get_or, sym, ap, ◌∙◌, subst, arith, inl, inr, length-append}
use Rattle.std.specs.Prelude.{IsTrue, slice_get}
use Rattle.std.specs.List.{flat_map, range_with_len}
use Rattle.std.proofs.lemmas.Bool.{cases_lt}
use Rattle.std.proofs.Math.ListN.{get_or-append}
use Rattle.std.proofs.Math.Seq.{get_or-append_seam}
use Rattle.ppd_ast.specs.declared.limits.TheConstants.{MOST_SHARED_CELLS}
use Rattle.ppd_ast.specs.Table.{EachAt}
use Rattle.ppd_ast.specs.declared.program.Body.{Body}
use Rattle.ppd_ast.specs.declared.program.Program.{Program}
use Rattle.ppd_ast.specs.Numbered.{numbers_of}
use Rattle.ppd_ast.proofs.ValidLaws.{slice_get_there, each_at}
use Rattle.ppd_ast.specs.Members.{has, those}
use Rattle.ppd_ast.proofs.Members.{has_filter, below_range}
use Rattle.ppd_sets.specs.Reach.{closure, leads}
use Rattle.ppd_sets.specs.declared.touched.Touched.{Touched}
use Rattle.ppd_sets.specs.Gained.{HasBoth, reads_in, writes_in, reads_of, writes_of}
use Rattle.ppd_sets.specs.Used.{call_rows, called_from, reads_at, writes_at}
use Rattle.ppd_sets.proofs.Vocabulary.{body_reads, body_writes}
use Rattle.ppd_sets.proofs.Gaining.{flat_same}
use Rattle.ppd_sets.proofs.Calling.{call_rows_long, at_body}

pub each_push : {X : Type 0} (P : ℕ → X → Type 0) (xs : List X) (x : X) → EachAt P xs → P (length xs) x → EachAt P (xs ++ x ∷ [])
each_push P xs x before here k d h = elim (cases_lt k (length xs)) [
  | inl low ↦ subst (P k) (sym (get_or-append xs (x ∷ []) d k low)) (before k d low)
  | inr up ↦
      let e : length xs ≡ k = omega (arith, length-append xs (x ∷ [])) in
      subst (λ n. P n (get_or (xs ++ x ∷ []) n d)) e (subst (P (length xs)) (sym (get_or-append_seam xs x [] d)) here)
]

pub called_below : (p : Program) (b k : ℕ) → IsTrue (has (called_from p b) k) → k < length p.bodies
called_below p b k h = let inside = below_range 0 (length p.bodies) k (has_filter (leads (closure (call_rows p)) (b ∷ [])) (range_with_len 0 (length p.bodies)) k h).0 in omega (arith, inside.1)

-- the numbers that the work list gives
pub called_is : (p : Program) (b : ℕ) (rows : List (List ℕ)) (numbers : List ℕ) → rows ≡ call_rows p → numbers ≡ those (length rows) (leads (closure rows) (b ∷ [])) → numbers ≡ called_from p b
called_is p b rows numbers e is =
    is ∙ ap (λ (rs : List (List ℕ)). those (length rs) (leads (closure rs) (b ∷ []))) e ∙ ap (λ n. those n (leads (closure (call_rows p)) (b ∷ []))) (call_rows_long p)

module _ (p : Program) (list : List Touched) (long : length list ≡ length p.bodies) (each : EachAt (λ k t. HasBoth t (body_reads p k) (body_writes p k)) list) where
  reads_same : (k c : ℕ) → k < length p.bodies → c < MOST_SHARED_CELLS → has (reads_of list k) c ≡ has (body_reads p k) c
  reads_same k c h l =
      let t = slice_get_there list k (omega (arith, long)) in
      let cells : HasBoth t.0 (body_reads p k) (body_writes p k) = each_at (λ k t. HasBoth t (body_reads p k) (body_writes p k)) list k t.0 each t.1 in
      ap (λ (o : Option Touched). has (reads_in o) c) t.1 ∙ cells.reads.each c l

  writes_same : (k c : ℕ) → k < length p.bodies → c < MOST_SHARED_CELLS → has (writes_of list k) c ≡ has (body_writes p k) c
  writes_same k c h l =
      let t = slice_get_there list k (omega (arith, long)) in
      let cells : HasBoth t.0 (body_reads p k) (body_writes p k) = each_at (λ k t. HasBoth t (body_reads p k) (body_writes p k)) list k t.0 each t.1 in
      ap (λ (o : Option Touched). has (writes_in o) c) t.1 ∙ cells.writes.each c l

  pub of_called : (b : ℕ) (numbers : List ℕ) (t : Touched) → numbers ≡ called_from p b → HasBoth t (flat_map (reads_of list) numbers) (flat_map (writes_of list) numbers) →
      HasBoth t (flat_map (body_reads p) (called_from p b)) (flat_map (body_writes p) (called_from p b))
  of_called b numbers t is cells = record {
    reads = record { each = λ c l. cells.reads.each c l ∙ ap (λ ns. has (flat_map (reads_of list) ns) c) is ∙ flat_same (reads_of list) (body_reads p) (called_from p b) c (λ k h. reads_same k c (called_below p b k h) l) };
    writes = record { each = λ c l. cells.writes.each c l ∙ ap (λ ns. has (flat_map (writes_of list) ns) c) is ∙ flat_same (writes_of list) (body_writes p) (called_from p b) c (λ k h. writes_same k c (called_below p b k h) l) };
  }

-- one more body
pub touched_more : (p : Program) (list new : List Touched) (t : Touched) (k : ℕ) (body : Body) → length list ≡ k → EachAt (λ k t. HasBoth t (body_reads p k) (body_writes p k)) list → slice_get p.bodies k ≡ Some body →
    HasBoth t (flat_map (reads_at true p) (numbers_of p.stmts body)) (flat_map (writes_at true p) (numbers_of p.stmts body)) → new ≡ list ++ t ∷ [] → (length new ≡ k + 1) × EachAt (λ k t. HasBoth t (body_reads p k) (body_writes p k)) new
touched_more p list new t k body long each at cells now =
    let P : ℕ → Touched → Type 0 = λ k t. HasBoth t (body_reads p k) (body_writes p k) in
    let here : P k t = record {
      reads = record { each = λ c l. cells.reads.each c l ∙ ap (λ xs. has xs c) (sym (at_body p (reads_at true p) k body at)) };
      writes = record { each = λ c l. cells.writes.each c l ∙ ap (λ xs. has xs c) (sym (at_body p (writes_at true p) k body at)) };
    } in
    let pushed : EachAt P (list ++ t ∷ []) = each_push P list t each (subst (λ n. P n t) (sym long) here) in
    ((let l : length new ≡ length (list ++ t ∷ []) = ap length now in omega (arith, l, length-append list (t ∷ []), long)), subst (EachAt P) (sym now) pushed)
