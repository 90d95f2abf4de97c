-- One more turn, and the last one.
use Rattle.std.specs.Prelude.{IfOk}
use Rattle.std.proofs.Common.{◌≡◌, ℕ, List, [], ◌∷◌, ◌++◌, Result, Ok, Err, ap, sym, ◌∙◌, subst}
use Rattle.std.proofs.lemmas.List.{append_assoc, append-nil}
use Rattle.ppd_model.specs.Schedule.{IsOver}
use Rattle.ppd_world.specs.Running.{Running, IsLowest, stepped}
use Rattle.ppd_book.specs.declared.turn.Ran.{Ran}
use Rattle.ppd_book.specs.Held.{Held}
use Rattle.ppd_book.specs.Turns.{GoesLowest}

pub goes_more : (r last : Running) (h : List ℕ) (p : ℕ) → GoesLowest r h last → IsLowest last p → GoesLowest r (h ++ p ∷ []) (stepped last p)
goes_more r last [] p g l = (subst (λ (x : Running). IsLowest x p) (sym g) l, ap (λ (x : Running). stepped x p) g)
goes_more r last (q ∷ h) p g l = (g.0, goes_more (stepped r q) last h p g.1 l)

-- what has been done by now in a close: the turns since it began
pub record HasTaken (first : Running) (before : List ℕ) (now : Running) (after : List ℕ) : Type 0 where
  pub rest : List ℕ
  pub grew : after ≡ before ++ rest
  pub goes : GoesLowest first rest now

pub one_taken : (first now next : Running) (before after then : List ℕ) (p : ℕ) → HasTaken first before now after → IsLowest now p → next ≡ stepped now p → then ≡ after ++ p ∷ [] → HasTaken first before next then
one_taken first now next before after then p t l e f = record {
  rest = t.rest ++ p ∷ [];
  grew = f ∙ ap (λ (xs : List ℕ). xs ++ p ∷ []) t.grew ∙ append_assoc before t.rest (p ∷ []);
  goes = subst (λ (x : Running). GoesLowest first (t.rest ++ p ∷ []) x) (sym e) (goes_more first now t.rest p t.goes l);
}

-- where nobody could take a step, none was taken
pub none_left : (first now : Running) (before after : List ℕ) → HasTaken first before now after → IsOver first.setting.program first.setting.plan first.world → after ≡ before
none_left first now before after t over = nothing t.rest t.grew t.goes where
  nothing : (rest : List ℕ) → after ≡ before ++ rest → GoesLowest first rest now → after ≡ before
  nothing [] e g = e ∙ append-nil before
  nothing (p ∷ rest) e g = absurd (let can = g.0.can in let none = over.nobody p in cc)

-- so the schedule that is handed out is the first one
pub handed_out : {E : Type 0} (held last : Held) (rest : List ℕ) (r : Result Ran E) → last.schedule ≡ held.schedule ++ rest → GoesLowest held.world rest last.world → IfOk r (λ ran. ran.schedule ≡ last.schedule)
    → IfOk r (λ ran. IsOver held.world.setting.program held.world.setting.plan held.world.world → ran.schedule ≡ held.schedule)
handed_out held last rest (Ok ran) e g same = λ over. same ∙ none_left held.world last.world held.schedule last.schedule (record { rest = rest; grew = e; goes = g }) over
handed_out held last rest (Err error) e g same = tt
