-- The tag of a shared cell, and of each answer to a read of it, is the event of a step that writes the cell.
use Rattle.std.proofs.Common.{◌≡◌, ℕ, zero, suc, ◌+◌, ℤ, cond, List, [], ◌∷◌, ◌++◌, Some, None, get_or, refl, ap, ◌∙◌, arith, inl, inr, ◌⊎◌, append_assoc}
use Rattle.ppd_model.specs.declared.tracing.Taken.{Taken}
use Rattle.std.specs.Prelude.{⊤}
use Rattle.std.proofs.lemmas.List.Sums.{sum_by-append}
use Rattle.ppd_model.specs.declared.trace.EventId.{EventId}
use Rattle.ppd_model.specs.FullTrace.{Tag}
use Rattle.ppd_model.specs.Story.{Moment, steps_of}
use Rattle.ppd_model.proofs.WorldWords.{count_events}
use Rattle.ppd_model.specs.World.{change}
use Rattle.ppd_sem.specs.declared.proc.Need.{Need}
use Rattle.ppd_sem.specs.declared.proc.Need.TheVariants.{Read, Write}
use Rattle.ppd_sem.specs.Described.{is_event}
use Rattle.ppd_ast.specs.Counting.{one_if}

-- ---- how many events there are in these steps

abbrev pub events_in : List Taken → ℕ
events_in [] = 0
events_in (x ∷ xs) = one_if (is_event x.need) + events_in xs

count_more : (m : Moment) (ms : List Moment) → count_events (m ∷ ms) ≡ one_if (is_event m.taken.need) + count_events ms
count_more m ms =
    let e : count_events (m ∷ ms) ≡ (0 + one_if (is_event m.taken.need)) + count_events ms = sum_by-append (λ z. cond (is_event z.taken.need) 1 0) (m ∷ []) ms in
    omega arith

pub count_is : (ms : List Moment) → count_events ms ≡ events_in (steps_of ms)
count_is [] = refl
count_is (m ∷ ms) = count_more m ms ∙ ap (λ n. one_if (is_event m.taken.need) + n) (count_is ms)

-- ---- writes

-- the event of this name is that of a step that writes the cell
pub record IsWrite (steps : List (List Taken)) (c : ℕ) (id : EventId) : Type 0 where
  pub before : List Taken
  pub taken : Taken
  pub after : List Taken
  pub steps_are : get_or steps id.process [] ≡ before ++ taken ∷ after
  pub value : ℤ
  pub writes : taken.need ≡ Write c value
  pub number_is : id.number ≡ events_in before

abbrev pub IsWriter : List (List Taken) → ℕ → Tag → Type 0
IsWriter steps c None = ⊤
IsWriter steps c (Some id) = IsWrite steps c id

-- the writer of a read is such an event
abbrev pub ReadIs : List (List Taken) → Need → Tag → Type 0
ReadIs steps (Read c) w = IsWriter steps c w
ReadIs steps n w = ⊤

abbrev pub EachReadIs : List (List Taken) → List Taken → Type 0
EachReadIs steps [] = ⊤
EachReadIs steps (x ∷ xs) = ReadIs steps x.need x.writer × EachReadIs steps xs

-- ---- one more step

-- the steps of a process stay, or have the new one behind them
pub grown : (steps : List (List Taken)) (q : ℕ) (x : Taken) (p : ℕ) → (get_or (change (λ xs. xs ++ x ∷ []) q steps) p [] ≡ get_or steps p []) ⊎ (get_or (change (λ xs. xs ++ x ∷ []) q steps) p [] ≡ get_or steps p [] ++ x ∷ [])
grown [] q x p = inl refl
grown (xs ∷ rest) zero x zero = inr refl
grown (xs ∷ rest) zero x (suc p) = inl refl
grown (xs ∷ rest) (suc q) x zero = inl refl
grown (xs ∷ rest) (suc q) x (suc p) = grown rest q x p

module _ (steps : List (List Taken)) (q : ℕ) (x : Taken) where
  abbrev more : List (List Taken)
  more = change (λ xs. xs ++ x ∷ []) q steps

  more_write : (c : ℕ) (id : EventId) → IsWrite steps c id → IsWrite more c id
  more_write c id w = elim (grown steps q x id.process) [
    | inl same ↦ record { before = w.before; taken = w.taken; after = w.after; steps_are = same ∙ w.steps_are; value = w.value; writes = w.writes; number_is = w.number_is }
    | inr new ↦ record {
      before = w.before;
      taken = w.taken;
      after = w.after ++ x ∷ [];
      steps_are = new ∙ ap (λ ys. ys ++ x ∷ []) w.steps_are ∙ append_assoc w.before (w.taken ∷ w.after) (x ∷ []);
      value = w.value;
      writes = w.writes;
      number_is = w.number_is;
    }
  ]

  pub more_writer : (c : ℕ) (w : Tag) → IsWriter steps c w → IsWriter more c w
  more_writer c None h = tt
  more_writer c (Some id) h = more_write c id h

  more_read : (n : Need) (w : Tag) → ReadIs steps n w → ReadIs more n w
  more_read (Read c) w h = more_writer c w h
  more_read n w h = tt

  pub more_reads : (xs : List Taken) → EachReadIs steps xs → EachReadIs more xs
  more_reads [] h = tt
  more_reads (y ∷ ys) h = (more_read y.need y.writer h.0, more_reads ys h.1)

pub reads_append : (steps : List (List Taken)) (xs : List Taken) (x : Taken) → EachReadIs steps xs → ReadIs steps x.need x.writer → EachReadIs steps (xs ++ x ∷ [])
reads_append steps [] x h r = (r, tt)
reads_append steps (y ∷ ys) x h r = (h.0, reads_append steps ys x h.1 r)

pub reads_first : (steps : List (List Taken)) (xs ys : List Taken) → EachReadIs steps (xs ++ ys) → EachReadIs steps xs
reads_first steps [] ys h = tt
reads_first steps (x ∷ xs) ys h = (h.0, reads_first steps xs ys h.1)
