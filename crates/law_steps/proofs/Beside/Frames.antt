-- Writes to the top frame keep two stacks of frames beside each other.
use Rattle.std.proofs.Common.{◌⊎◌, ◌≡◌, ℕ, zero, suc, ◌+◌, ◌<◌, ◌≤◌, ℤ, pos, List, [], ◌∷◌, true, false, refl, sym, subst, ◌∙◌, inl, inr, arith, length, length-set, get_or-set_same, get_or-set_other}
use Rattle.std.specs.Prelude.{slice_set, get_or, replicate}
use Rattle.std.proofs.lemmas.Bool.{cases_eq, cases_lt}
use Rattle.std.proofs.lemmas.List.{get_or_past}
use Rattle.std.specs.List.{range_with_len}
use Rattle.ppd_ast.specs.declared.program.Program.{Program}
use Rattle.ppd_ast.specs.Lookups.{kind_of}
use Rattle.ppd_sem.specs.declared.proc.Frame.{Frame}
use Rattle.ppd_sem.specs.declared.proc.Todo.{Todo}
use Rattle.ppd_sem.specs.Process.{on_top, with_values}
use Rattle.law_steps.proofs.Vocabulary.Over.{SameIn}
use Rattle.law_steps.proofs.Vocabulary.Relation.{HasEnd, IsOwnTodo, Rests, Stacked, at_base, called, past_body}
use Rattle.ppd_sem.specs.Described.{ends_body}
use Rattle.law_steps.proofs.Beside.Todos.{end_past, last_headed, last_past}

written_same : (cells others : List ℤ) (c d : ℕ) (v : ℤ) → length cells ≡ length others
    → get_or cells d (pos 0) ≡ get_or others d (pos 0) → (d ≡ c) ⊎ (d ≡ c → ⊥) → (c < length cells) ⊎ (length cells ≤ c)
    → get_or (slice_set cells c v) d (pos 0) ≡ get_or (slice_set others c v) d (pos 0)
written_same cells others c d v n e (inl here) (inl within) =
    rw here (get_or-set_same cells c v (pos 0) within
    ∙ sym (get_or-set_same others c v (pos 0) (omega (arith, within, n))))
written_same cells others c d v n e (inl here) (inr past) =
    let first : length (slice_set cells c v) ≤ d = omega (arith, past, here, length-set cells c v) in
    let second : length (slice_set others c v) ≤ d = omega (arith, past, here, n, length-set others c v) in
    get_or_past (slice_set cells c v) d (pos 0) first ∙ sym (get_or_past (slice_set others c v) d (pos 0) second)
written_same cells others c d v n e (inr there) w =
    get_or-set_other cells c d v (pos 0) there ∙ e ∙ sym (get_or-set_other others c d v (pos 0) there)

-- one write, at any cell
pub set_same : (used : ℕ → Type 0) (cells others : List ℤ) (c : ℕ) (v : ℤ) → SameIn used cells others
    → SameIn used (slice_set cells c v) (slice_set others c v)
set_same used cells others c v s = record {
  lengths = length-set cells c v ∙ s.lengths ∙ sym (length-set others c v);
  values = λ d u. written_same cells others c d v s.lengths (s.values d u) (cases_eq d c) (cases_lt c (length cells));
}

pub clear_same : (used : ℕ → Type 0) (cells others : List ℤ) (base n : ℕ) → SameIn used cells others
    → SameIn used (with_values (range_with_len base n) (replicate n (pos 0)) cells) (with_values (range_with_len base n) (replicate n (pos 0)) others)
clear_same used cells others base zero s = s
clear_same used cells others base (suc n) s =
    clear_same used (slice_set cells base (pos 0)) (slice_set others base (pos 0)) (base + 1) n
    (set_same used cells others base (pos 0) s)

pub write_length : (c : ℕ) (v : ℤ) (fs : List Frame) → length (on_top (λ cells. slice_set cells c v) fs) ≡ length fs
write_length c v [] = refl
write_length c v (f ∷ fs) = refl

pub clear_length : (base len : ℕ) (fs : List Frame) → length (on_top (with_values (range_with_len base len) (replicate len (pos 0))) fs) ≡ length fs
clear_length base len [] = refl
clear_length base len (f ∷ fs) = refl

module _ (program : Program) (used inside : ℕ → Type 0) (calls : Type 0) (closer : Todo) (home : ℕ) where
  pub write_stacked : (c : ℕ) (v : ℤ) (fs gs : List Frame) (todo : List Todo)
      → Stacked program used inside calls closer home fs gs todo
      → Stacked program used inside calls closer home (on_top (λ cells. slice_set cells c v) fs) (on_top (λ cells. slice_set cells c v) gs) todo
  write_stacked c v fs gs todo (at_base f g fs' gs' todo' same body first within) =
      at_base (record f { cells = slice_set f.cells c v })
      (record g { cells = slice_set g.cells c v }) fs' gs' todo'
      (record { body = same.body; cells = set_same used f.cells g.cells c v same.cells }) body first within
  write_stacked c v fs gs todo (called f fs' gs' todo' k end below) =
      called (record f { cells = slice_set f.cells c v }) fs' gs' todo' k end below

  pub clear_stacked : (base len : ℕ) (fs gs : List Frame) (todo : List Todo)
      → Stacked program used inside calls closer home fs gs todo
      → Stacked program used inside calls closer home (on_top (with_values (range_with_len base len) (replicate len (pos 0))) fs) (on_top (with_values (range_with_len base len) (replicate len (pos 0))) gs) todo
  clear_stacked base len fs gs todo (at_base f g fs' gs' todo' same body first within) =
      at_base (record f { cells = with_values (range_with_len base len) (replicate len (pos 0)) f.cells })
      (record g { cells = with_values (range_with_len base len) (replicate len (pos 0)) g.cells }) fs' gs' todo'
      (record { body = same.body; cells = clear_same used f.cells g.cells base len same.cells }) body first within
  clear_stacked base len fs gs todo (called f fs' gs' todo' k end below) =
      called (record f { cells = with_values (range_with_len base len) (replicate len (pos 0)) f.cells }) fs' gs' todo' k end below

  -- what is to do changes within the body of the top frame
  pub moved_stacked : (fs gs : List Frame) (before after : List Todo)
      → (IsOwnTodo inside closer before → IsOwnTodo inside closer after)
      → (HasEnd program before → HasEnd program after) → past_body program after ≡ past_body program before
      → Stacked program used inside calls closer home fs gs before
      → Stacked program used inside calls closer home fs gs after
  moved_stacked fs gs before after all end past (at_base f g fs' gs' todo' same body first within) =
      at_base f g fs' gs' after same body first (all within)
  moved_stacked fs gs before after all end past (called f fs' gs' todo' k has below) =
      called f fs' gs' after k (end has)
      (subst (λ ts. Stacked program used inside calls closer home fs' gs' ts) (sym past) below)

  -- past a head that does not end its body
  pub past_stacked : (t : Todo) (fs gs : List Frame) (ts : List Todo) → ends_body (kind_of program t.stmt) ≡ false
      → past_body program ts ≡ past_body program (t ∷ ts)
      → (x : Stacked program used inside calls closer home fs gs (t ∷ ts)) → Rests x
      → Stacked program used inside calls closer home fs gs ts
  past_stacked t fs gs ts e past (at_base f g fs' gs' todo' same body first within) long =
      at_base f g fs' gs' ts same body first (within.0.1, last_past closer t ts long within.1)
  past_stacked t fs gs ts e past (called f fs' gs' todo' k has below) long =
      called f fs' gs' ts k (end_past program t ts e has)
      (subst (λ ys. Stacked program used inside calls closer home fs' gs' ys) (sym past) below)

  -- the head is marked as offered, where it is not the last
  pub marked_stacked : (t : Todo) (fs gs : List Frame) (ts : List Todo)
      → (x : Stacked program used inside calls closer home fs gs (t ∷ ts)) → Rests x
      → Stacked program used inside calls closer home fs gs (record t { offered = true } ∷ ts)
  marked_stacked t fs gs ts (at_base f g fs' gs' todo' same body first within) long =
      at_base f g fs' gs' (record t { offered = true } ∷ ts) same body first
      ((within.0.0, within.0.1), last_headed closer t (record t { offered = true }) ts long within.1)
  marked_stacked t fs gs ts (called f fs' gs' todo' k has below) long =
      called f fs' gs' (record t { offered = true } ∷ ts) k has below
