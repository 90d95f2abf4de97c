-- A block inside is closed by its own last statement, over the frame in which it began.
use Rattle.std.proofs.Common.{◌≡◌, ℕ, ◌+◌, ◌≤◌, List, [], ◌∷◌, Bool, true, false, refl, ap, arith}
use Rattle.std.specs.Prelude.{if◌then◌else◌}
use Rattle.ppd_ast.specs.declared.plan.Plan.{Plan}
use Rattle.ppd_ast.specs.declared.program.Program.{Program}
use Rattle.ppd_ast.specs.Lookups.{kind_of}
use Rattle.ppd_sem.specs.declared.proc.Frame.{Frame}
use Rattle.ppd_sem.specs.declared.proc.Todo.{Todo}
use Rattle.ppd_sem.specs.Described.{ends_body}
use Rattle.law_steps.proofs.Vocabulary.Relation.{IsLast, past_body}
use Rattle.law_steps.proofs.Vocabulary.Held.{Held, IsKeptBut, own, called}
use Rattle.law_steps.specs.Beside.Opens.{open_at, opens}

module _ (program : Program) (plan : Plan) (written inside : ℕ → Type 0) (closer : Todo) (base : Frame)
    (below : List Frame) (counts : 1 ≤ open_at program plan closer) where
  last_opens : (todo : List Todo) → IsLast closer todo → 1 ≤ opens program plan todo
  last_opens [] h = absurd h
  last_opens (t ∷ []) h = let same : open_at program plan t ≡ open_at program plan closer =
      ap (open_at program plan) h in omega (arith, same, counts)
  last_opens (t ∷ u ∷ us) h = let rest : 1 ≤ opens program plan (u ∷ us) = last_opens (u ∷ us) h in omega (arith, rest)

  past_opens : (todo : List Todo) → opens program plan (past_body program todo) ≤ opens program plan todo
  past_opens [] = omega arith
  past_opens (t ∷ ts) = by (ends_body (kind_of program t.stmt)) (past_opens ts)
    where
      by : (b : Bool) → opens program plan (past_body program ts) ≤ opens program plan ts
          → opens program plan
          (if b then ts else past_body program ts) ≤ open_at program plan t + opens program plan ts
      by true h = omega arith
      by false h = omega (arith, h)

  pub held_opens : (b : Bool) (fs : List Frame) (todo : List Todo)
      → Held program written inside closer base below b fs todo → 1 ≤ opens program plan todo
  held_opens b fs todo (own f todo' kept within) = last_opens todo' within.1
  held_opens b fs todo (called b' f fs' todo' to has h) =
      let rest : 1 ≤ opens program plan (past_body program todo') =
      held_opens b' fs' (past_body program todo') h in omega (arith, rest, past_opens todo')

  -- what stands where the block's own last statement comes next
  pub record IsAlone (fs : List Frame) (t : Todo) (ts : List Todo) : Type 0 where
    pub frame : Frame
    pub frames : fs ≡ frame ∷ below
    pub kept : IsKeptBut written base frame
    pub head : t ≡ closer
    pub rest : ts ≡ []

  last_alone : (t : Todo) (ts : List Todo) → IsLast closer (t ∷ ts) → opens program plan ts ≡ 0 → (t ≡ closer)
      × (ts ≡ [])
  last_alone t [] h e = (h, refl)
  last_alone t (u ∷ us) h e =
      absurd (let more : 1 ≤ opens program plan (u ∷ us) = last_opens (u ∷ us) h in omega (arith, more, e))

  -- no other block is open: the block has called nothing, and its own last statement comes next
  pub alone : (b : Bool) (fs : List Frame) (t : Todo) (ts : List Todo)
      → Held program written inside closer base below b fs (t ∷ ts) → opens program plan ts ≡ 0 → IsAlone fs t ts
  alone b fs t ts (own f todo kept within) e =
      let l = last_alone t ts within.1 e in
      record { frame = f; frames = refl; kept = kept; head = l.0; rest = l.1 }
  alone b fs t ts (called b' f fs' todo to has h) e = absurd (by (ends_body (kind_of program t.stmt)) h)
    where
      by : (x : Bool) → Held program written inside closer base below b' fs'
          (if x then ts else past_body program ts) → ⊥
      by true h' = let more : 1 ≤ opens program plan ts = held_opens b' fs' ts h' in omega (arith, more, e)
      by false h' = let more : 1 ≤ opens program plan (past_body program ts) =
          held_opens b' fs' (past_body program ts) h' in omega (arith, more, past_opens ts, e)
