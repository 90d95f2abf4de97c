-- Values that come into places and returns through hidden local scalars.
use Rattle.std.proofs.Common.{◌≡◌, refl, sym, ap, subst, ◌∙◌, ℕ, List, [], ◌∷◌, ◌++◌, Option, Some}
use Rattle.std.proofs.lemmas.List.{append-nil}
use Rattle.ppd_ast.specs.declared.program.Place.{Place}
use Rattle.ppd_ast.specs.Term as T
use Rattle.ppd_check_names.specs.declared.fault.Fault.{Fault}
use Rattle.ppd_check_names.specs.declared.frame.Frame.{Frame}
use Rattle.ppd_check_names.specs.declared.writer.Writer.{Writer}
use Rattle.ppd_check_names.specs.declared.writer.Site.{Site}
use Rattle.ppd_check_stmts.specs.Code as C
use Rattle.ppd_check_stmts.specs.Code.{Code, Spot, act, acts, done}
use Rattle.ppd_check_names.specs.Faults.{first_of_both}
use Rattle.ppd_check_stmts.specs.Expressions.{formula_faults}
use Rattle.ppd_check_names.specs.Reading.{goal_formula}
use Rattle.ppd_check_stmts.specs.Statements.{spot_of, put, store_acts, value_faults}
use Rattle.ppd_check_stmts.specs.Values.{local_cell, through_acts}
use Rattle.ppd_check_names.specs.Frames.{with_hidden}
use Rattle.ppd_check_names.specs.Syntax.{Formula, Goal, Name, Value, received, result}
use Rattle.ppd_check_stmts.specs.Writing.{Wrote, WroteAct}
use Rattle.ppd_check_names.proofs.Found.First.{first-swap}
use Rattle.ppd_check_stmts.proofs.Table.Writing.{wrote_join}

-- the order in which the broken rules are named does not matter
pub wrote_swap : (b : ℕ) (q : Option ℕ) (c : Code) (fs gs : List Fault) (u v : Writer) (r s : List ℕ) → Wrote b q c (fs ++ gs) u v r s → Wrote b q c (gs ++ fs) u v r s
wrote_swap b q c fs gs u v r s x = record {
  exprs = x.exprs;
  stmts = x.stmts;
  row = x.row;
  found = x.found ∙ ap (first_of_both u.found) (first-swap fs gs);
}

put_old : (site : Site) (p : Place) (old new : Frame) (cell : ℕ) (v : Value) (u w : Writer) (r s : List ℕ) → new ≡ with_hidden p old → cell ≡ old.cells
    → WroteAct site p (put new.scopes cell v) (value_faults new.scopes v) u w r s → WroteAct site p (put old.scopes old.cells v) (value_faults old.scopes v) u w r s
put_old site p old new cell v u w r s e d a =
    subst (λ k. WroteAct site p (put old.scopes k v) (value_faults old.scopes v) u w r s) d
    (subst (λ l. WroteAct site p (put l cell v) (value_faults l v) u w r s) (ap (λ f. f.scopes) e) a)

-- a value into a hidden local scalar, and from there into a place
pub hidden_store : (site : Site) (p : Place) (old new : Frame) (cell : ℕ) (g : Goal) (v : Value) (u w x : Writer) (r s t : List ℕ) → new ≡ with_hidden p old → cell ≡ old.cells
    → WroteAct site p (put new.scopes cell v) (value_faults new.scopes v) u w r s
    → WroteAct site p (C.set (spot_of new.scopes g) (T.local cell)) (formula_faults new.scopes (goal_formula g)) w x s t
    → Wrote site.body site.parent (acts p (put old.scopes old.cells v ∷ C.set (spot_of old.scopes g) (T.local old.cells) ∷ [])) (formula_faults old.scopes (goal_formula g) ++ value_faults old.scopes v) u x r t
hidden_store site p old new cell g v u w x r s t e d a b =
    wrote_swap site.body site.parent (acts p (put old.scopes old.cells v ∷ C.set (spot_of old.scopes g) (T.local old.cells) ∷ [])) (value_faults old.scopes v) (formula_faults old.scopes (goal_formula g)) u x r t
    (wrote_join site.body site.parent (act p (put old.scopes old.cells v) done) (act p (C.set (spot_of old.scopes g) (T.local old.cells)) done) (value_faults old.scopes v) (formula_faults old.scopes (goal_formula g)) u w x r s t
    (put_old site p old new cell v u w r s e d a)
    (subst (λ k. WroteAct site p (C.set (spot_of old.scopes g) (T.local k)) (formula_faults old.scopes (goal_formula g)) w x s t) d
    (subst (λ l. WroteAct site p (C.set (spot_of l g) (T.local cell)) (formula_faults l (goal_formula g)) w x s t) (ap (λ f. f.scopes) e) b)))

-- a value into a hidden local scalar, which is returned
pub hidden_return : (site : Site) (p : Place) (old new : Frame) (cell : ℕ) (v : Value) (u w x : Writer) (r s t : List ℕ) → new ≡ with_hidden p old → cell ≡ old.cells
    → WroteAct site p (put new.scopes cell v) (value_faults new.scopes v) u w r s
    → WroteAct site p (C.give_back (Some (T.local cell))) [] w x s t
    → Wrote site.body site.parent (acts p (put old.scopes old.cells v ∷ C.give_back (Some (T.local old.cells)) ∷ [])) (value_faults old.scopes v) u x r t
hidden_return site p old new cell v u w x r s t e d a b =
    subst (λ fs. Wrote site.body site.parent (acts p (put old.scopes old.cells v ∷ C.give_back (Some (T.local old.cells)) ∷ [])) fs u x r t) (append-nil (value_faults old.scopes v))
    (wrote_join site.body site.parent (act p (put old.scopes old.cells v) done) (act p (C.give_back (Some (T.local old.cells))) done) (value_faults old.scopes v) [] u w x r s t
    (put_old site p old new cell v u w r s e d a)
    (subst (λ k. WroteAct site p (C.give_back (Some (T.local k))) [] w x s t) d b))

-- A call's value and what a channel gives come straight into a local scalar, or through a hidden one.

pub through_result : (m : Spot) (v : Value) (x : Name) (args : List Formula) (f : Frame) → v ≡ result x args → through_acts (local_cell m) m v f ≡ store_acts m v f
through_result m v x args f e = ap (λ (w : Value). through_acts (local_cell m) m w f) e ∙ go m ∙ sym (ap (λ (w : Value). store_acts m w f) e)
  where
    go : (n : Spot) → through_acts (local_cell n) n (result x args) f ≡ store_acts n (result x args) f
    go (C.local c) = refl
    go (C.local_at b l i) = refl
    go (C.shared c) = refl
    go (C.shared_at b l i) = refl

pub through_received : (m : Spot) (v : Value) (x : Name) (f : Frame) → v ≡ received x → through_acts (local_cell m) m v f ≡ store_acts m v f
through_received m v x f e = ap (λ (w : Value). through_acts (local_cell m) m w f) e ∙ go m ∙ sym (ap (λ (w : Value). store_acts m w f) e)
  where
    go : (n : Spot) → through_acts (local_cell n) n (received x) f ≡ store_acts n (received x) f
    go (C.local c) = refl
    go (C.local_at b l i) = refl
    go (C.shared c) = refl
    go (C.shared_at b l i) = refl
