-- Rows that break no rule name what is there.
use Rattle.std.proofs.Common.{◌≡◌, ℕ, true, List, [], ◌∷◌, ◌++◌, Option, Some, None}
use Rattle.std.specs.Prelude.{⊤}
use Rattle.ppd_ast.specs.declared.program.Place.{Place}
use Rattle.ppd_ast.specs.declared.program.Var.{Var}
use Rattle.ppd_ast.specs.declared.program.Program.{Program}
use Rattle.ppd_ast.specs.Term as T
use Rattle.ppd_ast.specs.Cells.{IsScalarOf}
use Rattle.ppd_check_names.specs.declared.meaning.Use.TheVariants as U
use Rattle.ppd_check_names.specs.declared.fault.Fault.{Fault}
use Rattle.ppd_check_names.specs.declared.frame.Variable.{Variable}
use Rattle.ppd_check_names.specs.declared.frame.Frame.{Frame}
use Rattle.ppd_check_names.specs.Fitted.{fitted}
use Rattle.ppd_check_names.specs.Names.{innermost}
use Rattle.ppd_check_stmts.specs.Code as C
use Rattle.ppd_check_stmts.specs.Code.{Spot, Act, Code, done, act, choice, loop, join, acts}
use Rattle.ppd_check_names.specs.Syntax.{Value, plain, result, received, Simple, fresh, array, store, change, call, give_back, take, give, send, print, assert, Row, stop, simple, block, repeat, count}
use Rattle.ppd_check_names.specs.Syntax as S
use Rattle.ppd_check_names.specs.Reading.{goal_formula}
use Rattle.ppd_check_stmts.specs.Expressions.{term_of, name_faults, formula_faults}
use Rattle.ppd_check_stmts.specs.Statements.{opened, with_scopes_of, goal_name, spot_of, via_hidden, after, after_row, put, store_acts, place_of, acts_of, code_of, row_code, value_faults, faults_of, row_faults, code_of_any, faults_of_any}
use Rattle.ppd_check_stmts.proofs.Vocabulary.{hidden_if, after_any}
use Rattle.ppd_check_names.specs.Frames.{declared, twice_faults}
use Rattle.ppd_check.specs.Sources.{vars}
use Rattle.ppd_check.proofs.Named.Rightly.{IsNamedRightly, AreNamedRightly}
use Rattle.ppd_check.proofs.Named.Terms.{nil_left, nil_right, formula_whole}
use Rattle.ppd_check.proofs.Named.Acts.{IsWholeSpot, spot_whole, set_rightly, clear_rightly, back_rightly, bare_back_rightly, print_rightly, assert_rightly, take_rightly, give_rightly, send_rightly, call_rightly, put_rightly}
use Rattle.ppd_check.proofs.Named.Frames.{LeadsTo, leads_further, row_leads, IsOnTheWay, local_there, declared_on, hidden_there, opened_on, closed_on, after_on, after_any_on, row_on}

-- Statements at one place, and rows one after another.

abbrev EachNamedRightly : Program → List Var → List Act → Type 0
EachNamedRightly p locals [] = ⊤
EachNamedRightly p locals (a ∷ rest) = IsNamedRightly p locals a × EachNamedRightly p locals rest

acts_rightly : (p : Program) (locals : List Var) (q : Place) (list : List Act) → EachNamedRightly p locals list → AreNamedRightly p locals (acts q list)
acts_rightly p locals q [] h = tt
acts_rightly p locals q (a ∷ rest) h = (h.0, acts_rightly p locals q rest h.1)

pub join_rightly : (p : Program) (locals : List Var) (c d : Code) → AreNamedRightly p locals c → AreNamedRightly p locals d → AreNamedRightly p locals (join c d)
join_rightly p locals done d a b = b
join_rightly p locals (act q x c) d a b = (a.0, join_rightly p locals c d a.1 b)
join_rightly p locals (choice q e x y c) d a b = (a.0, a.1, a.2, join_rightly p locals c d a.3 b)
join_rightly p locals (loop q e inside c) d a b = (a.0, a.1, join_rightly p locals c d a.2 b)

-- What comes after each turn of a `for`, as the grammar has it.

-- a change of a variable, or nothing
abbrev pub IsStep : Option Simple → Type 0
IsStep None = ⊤
IsStep (Some (store g (plain e))) = ⊤
IsStep (Some (change g op e)) = ⊤
IsStep (Some s) = ⊥

-- so at each `for` of a row
abbrev pub HasSteps : Row → Type 0
HasSteps stop = ⊤
HasSteps (simple s r) = HasSteps r
HasSteps (block b r) = HasSteps b × HasSteps r
HasSteps (S.choice q e a b r) = HasSteps a × HasSteps b × HasSteps r
HasSteps (repeat q e b r) = HasSteps b × HasSteps r
HasSteps (count q start e step b r) = IsStep step × HasSteps b × HasSteps r

-- it declares nothing
step_leads : (s : Option Simple) (f : Frame) (vs : List Variable) → IsStep s → LeadsTo f.variables vs → LeadsTo (after_any s f).variables vs
step_leads None f vs h l = l
step_leads (Some (store g (plain e))) f vs h l = l
step_leads (Some (store g (result x args))) f vs h l = absurd h
step_leads (Some (store g (received x))) f vs h l = absurd h
step_leads (Some (change g op e)) f vs h l = l
step_leads (Some (fresh x v)) f vs h l = absurd h
step_leads (Some (array x n)) f vs h l = absurd h
step_leads (Some (call g args)) f vs h l = absurd h
step_leads (Some (give_back q v)) f vs h l = absurd h
step_leads (Some (take q x)) f vs h l = absurd h
step_leads (Some (give q x)) f vs h l = absurd h
step_leads (Some (send q x e)) f vs h l = absurd h
step_leads (Some (print q e)) f vs h l = absurd h
step_leads (Some (assert q e)) f vs h l = absurd h

module _ (p : Program) (vs : List Variable) where
  -- Statements without statements inside them.

  -- through a hidden variable
  through_hidden : (m : Spot) (v : Value) (q : Place) (f : Frame) → IsOnTheWay p vs f → LeadsTo (hidden_if true q f).variables vs → IsWholeSpot p (vars 0 vs) m → value_faults f.scopes v ≡ []
      → EachNamedRightly p (vars 0 vs) (put f.scopes f.cells v ∷ C.set m (T.local f.cells) ∷ [])
  through_hidden m v q f way l w h =
      let c : IsScalarOf (vars 0 vs) f.cells = hidden_there p vs q f way l in
      (put_rightly p (vars 0 vs) f.scopes f.cells v way.names h c, (set_rightly p (vars 0 vs) m (T.local f.cells) w c, tt))

  straight : (c : ℕ) (v : Value) (f : Frame) → IsOnTheWay p vs f → IsScalarOf (vars 0 vs) c → value_faults f.scopes v ≡ [] → EachNamedRightly p (vars 0 vs) (put f.scopes c v ∷ [])
  straight c v f way w h = (put_rightly p (vars 0 vs) f.scopes c v way.names h w, tt)

  store_rightly : (m : Spot) (v : Value) (q : Place) (f : Frame) → IsOnTheWay p vs f → LeadsTo (hidden_if (via_hidden m v) q f).variables vs → IsWholeSpot p (vars 0 vs) m
      → value_faults f.scopes v ≡ [] → EachNamedRightly p (vars 0 vs) (store_acts m v f)
  store_rightly m (plain e) q f way l w h = (set_rightly p (vars 0 vs) m (term_of f.scopes e) w (formula_whole p (vars 0 vs) f.scopes e way.names h), tt)
  store_rightly (C.local c) (result g args) q f way l w h = straight c (result g args) f way w h
  store_rightly (C.local c) (received x) q f way l w h = straight c (received x) f way w h
  store_rightly (C.local_at base n i) (result g args) q f way l w h = through_hidden (C.local_at base n i) (result g args) q f way l w h
  store_rightly (C.local_at base n i) (received x) q f way l w h = through_hidden (C.local_at base n i) (received x) q f way l w h
  store_rightly (C.shared c) (result g args) q f way l w h = through_hidden (C.shared c) (result g args) q f way l w h
  store_rightly (C.shared c) (received x) q f way l w h = through_hidden (C.shared c) (received x) q f way l w h
  store_rightly (C.shared_at base n i) (result g args) q f way l w h = through_hidden (C.shared_at base n i) (result g args) q f way l w h
  store_rightly (C.shared_at base n i) (received x) q f way l w h = through_hidden (C.shared_at base n i) (received x) q f way l w h

  back_through_hidden : (v : Value) (q : Place) (f : Frame) → IsOnTheWay p vs f → LeadsTo (hidden_if true q f).variables vs → value_faults f.scopes v ≡ []
      → EachNamedRightly p (vars 0 vs) (put f.scopes f.cells v ∷ C.give_back (Some (T.local f.cells)) ∷ [])
  back_through_hidden v q f way l h =
      let c : IsScalarOf (vars 0 vs) f.cells = hidden_there p vs q f way l in
      (put_rightly p (vars 0 vs) f.scopes f.cells v way.names h c, (back_rightly p (vars 0 vs) (T.local f.cells) c, tt))

  simple_rightly : (s : Simple) (f : Frame) → IsOnTheWay p vs f → LeadsTo (after s f).variables vs → faults_of s f ≡ [] → EachNamedRightly p (vars 0 vs) (acts_of s f)
  simple_rightly (fresh x v) f way l h =
      let new : IsOnTheWay p vs (declared None f x) = declared_on p vs x None f way l in (
        put_rightly p (vars 0 vs) (declared None f x).scopes f.cells v new.names
            (nil_right (twice_faults (innermost f.scopes) x) (value_faults (declared None f x).scopes v) h)
            (local_there p vs None x f way l),
        tt,
      )
  simple_rightly (array x n) f way l h = (clear_rightly p (vars 0 vs) f.cells (fitted 16 n.value) (local_there p vs (Some (fitted 16 n.value)) x f way l), tt)
  simple_rightly (store g v) f way l h =
      store_rightly (spot_of f.scopes g) v (goal_name g).place f way l
      (spot_whole p (vars 0 vs) f.scopes g way.names (nil_left (formula_faults f.scopes (goal_formula g)) (value_faults f.scopes v) h))
      (nil_right (formula_faults f.scopes (goal_formula g)) (value_faults f.scopes v) h)
  simple_rightly (change g op e) f way l h =
      let a : formula_faults f.scopes (goal_formula g) ≡ [] = nil_left (formula_faults f.scopes (goal_formula g)) (formula_faults f.scopes e) h in
      let b : formula_faults f.scopes e ≡ [] = nil_right (formula_faults f.scopes (goal_formula g)) (formula_faults f.scopes e) h in (
        set_rightly p (vars 0 vs) (spot_of f.scopes g) (T.two op (term_of f.scopes (goal_formula g)) (term_of f.scopes e))
            (spot_whole p (vars 0 vs) f.scopes g way.names a)
            (formula_whole p (vars 0 vs) f.scopes (goal_formula g) way.names a, formula_whole p (vars 0 vs) f.scopes e way.names b),
        tt,
      )
  simple_rightly (call g args) f way l h = (call_rightly p (vars 0 vs) f.scopes g args None way.names h tt, tt)
  simple_rightly (give_back q None) f way l h = (bare_back_rightly p (vars 0 vs), tt)
  simple_rightly (give_back q (Some (plain e))) f way l h = (back_rightly p (vars 0 vs) (term_of f.scopes e) (formula_whole p (vars 0 vs) f.scopes e way.names h), tt)
  simple_rightly (give_back q (Some (result g args))) f way l h = back_through_hidden (result g args) q f way l h
  simple_rightly (give_back q (Some (received x))) f way l h = back_through_hidden (received x) q f way l h
  simple_rightly (take q x) f way l h = (take_rightly p (vars 0 vs) f.scopes x way.names h, tt)
  simple_rightly (give q x) f way l h = (give_rightly p (vars 0 vs) f.scopes x way.names h, tt)
  simple_rightly (send q x e) f way l h = (
    send_rightly p (vars 0 vs) f.scopes x (term_of f.scopes e) way.names (nil_left (name_faults U.Channel f.scopes x) (formula_faults f.scopes e) h)
        (formula_whole p (vars 0 vs) f.scopes e way.names (nil_right (name_faults U.Channel f.scopes x) (formula_faults f.scopes e) h)),
    tt,
  )
  simple_rightly (print q e) f way l h = (print_rightly p (vars 0 vs) (term_of f.scopes e) (formula_whole p (vars 0 vs) f.scopes e way.names h), tt)
  simple_rightly (assert q e) f way l h = (assert_rightly p (vars 0 vs) (term_of f.scopes e) (formula_whole p (vars 0 vs) f.scopes e way.names h), tt)

  code_rightly : (s : Simple) (f : Frame) → IsOnTheWay p vs f → LeadsTo (after s f).variables vs → faults_of s f ≡ [] → AreNamedRightly p (vars 0 vs) (code_of s f)
  code_rightly s f way l h = acts_rightly p (vars 0 vs) (place_of s) (acts_of s f) (simple_rightly s f way l h)

  any_rightly : (s : Option Simple) (f : Frame) → IsOnTheWay p vs f → LeadsTo (after_any s f).variables vs → faults_of_any s f ≡ [] → AreNamedRightly p (vars 0 vs) (code_of_any s f)
  any_rightly None f way l h = tt
  any_rightly (Some s) f way l h = code_rightly s f way l h

  -- Rows.

  pub row_rightly : (r : Row) (f : Frame) → IsOnTheWay p vs f → LeadsTo (after_row r f).variables vs → HasSteps r → row_faults r f ≡ []
      → AreNamedRightly p (vars 0 vs) (row_code r f)
  row_rightly stop f way l s h = tt
  row_rightly (simple t r) f way l s h =
      let g : Frame = after t f in
      let m : LeadsTo g.variables vs = leads_further _ _ _ (row_leads r g) l in
      join_rightly p (vars 0 vs) (code_of t f) (row_code r g)
      (code_rightly t f way m (nil_left (faults_of t f) (row_faults r g) h))
      (row_rightly r g (after_on p vs t f way m) l s (nil_right (faults_of t f) (row_faults r g) h))
  row_rightly (block b r) f way l s h =
      let g : Frame = after_row b (opened f) in
      let m : LeadsTo g.variables vs = leads_further _ _ _ (row_leads r (with_scopes_of f g)) l in
      let inner : IsOnTheWay p vs (opened f) = opened_on p vs f way in
      join_rightly p (vars 0 vs) (row_code b (opened f)) (row_code r (with_scopes_of f g))
      (row_rightly b (opened f) inner m s.0 (nil_left (row_faults b (opened f)) (row_faults r (with_scopes_of f g)) h))
      (row_rightly r (with_scopes_of f g) (closed_on p vs f g way (row_on p vs b (opened f) inner m)) l s.1 (nil_right (row_faults b (opened f)) (row_faults r (with_scopes_of f g)) h))
  row_rightly (S.choice q e a b r) f way l s h =
      let g : Frame = after_row a f in
      let k : Frame = after_row b g in
      let m : LeadsTo k.variables vs = leads_further _ _ _ (row_leads r k) l in
      let n : LeadsTo g.variables vs = leads_further _ _ _ (row_leads b g) m in
      let between : IsOnTheWay p vs g = row_on p vs a f way n in
      let f2 : List Fault = row_faults b g ++ row_faults r k in
      let f1 : List Fault = row_faults a f ++ f2 in
      let h1 : f1 ≡ [] = nil_right (formula_faults f.scopes e) f1 h in
      let h2 : f2 ≡ [] = nil_right (row_faults a f) f2 h1 in (
        formula_whole p (vars 0 vs) f.scopes e way.names (nil_left (formula_faults f.scopes e) f1 h),
        row_rightly a f way n s.0 (nil_left (row_faults a f) f2 h1),
        row_rightly b g between m s.1 (nil_left (row_faults b g) (row_faults r k) h2),
        row_rightly r k (row_on p vs b g between m) l s.2 (nil_right (row_faults b g) (row_faults r k) h2),
      )
  row_rightly (repeat q e b r) f way l s h =
      let g : Frame = after_row b f in
      let m : LeadsTo g.variables vs = leads_further _ _ _ (row_leads r g) l in
      let f1 : List Fault = row_faults b f ++ row_faults r g in
      let h1 : f1 ≡ [] = nil_right (formula_faults f.scopes e) f1 h in (
        formula_whole p (vars 0 vs) f.scopes e way.names (nil_left (formula_faults f.scopes e) f1 h),
        row_rightly b f way m s.0 (nil_left (row_faults b f) (row_faults r g) h1),
        row_rightly r g (row_on p vs b f way m) l s.1 (nil_right (row_faults b f) (row_faults r g) h1),
      )
  row_rightly (count q start e step b r) f way l s h =
      let g : Frame = after_any start (opened f) in
      let k : Frame = after_row b g in
      let m : LeadsTo k.variables vs = leads_further _ _ _ (row_leads r (with_scopes_of f k)) l in
      let n : LeadsTo g.variables vs = leads_further _ _ _ (row_leads b g) m in
      let inner : IsOnTheWay p vs (opened f) = opened_on p vs f way in
      let begun : IsOnTheWay p vs g = after_any_on p vs start (opened f) inner n in
      let turned : IsOnTheWay p vs k = row_on p vs b g begun m in
      let f4 : List Fault = row_faults r (with_scopes_of f k) in
      let f3 : List Fault = faults_of_any step k ++ f4 in
      let f2 : List Fault = row_faults b g ++ f3 in
      let f1 : List Fault = formula_faults g.scopes e ++ f2 in
      let h1 : f1 ≡ [] = nil_right (faults_of_any start (opened f)) f1 h in
      let h2 : f2 ≡ [] = nil_right (formula_faults g.scopes e) f2 h1 in
      let h3 : f3 ≡ [] = nil_right (row_faults b g) f3 h2 in
      let turn : Code = join (row_code b g) (code_of_any step k) in
      join_rightly p (vars 0 vs) (code_of_any start (opened f)) (loop q (term_of g.scopes e) turn (row_code r (with_scopes_of f k)))
      (any_rightly start (opened f) inner n (nil_left (faults_of_any start (opened f)) f1 h)) (
        formula_whole p (vars 0 vs) g.scopes e begun.names (nil_left (formula_faults g.scopes e) f2 h1),
        join_rightly p (vars 0 vs) (row_code b g) (code_of_any step k)
            (row_rightly b g begun m s.1 (nil_left (row_faults b g) f3 h2))
            (any_rightly step k turned (step_leads step k vs s.0 m) (nil_left (faults_of_any step k) f4 h3)),
        row_rightly r (with_scopes_of f k) (closed_on p vs f k way turned) l s.2 (nil_right (faults_of_any step k) f4 h3),
      )
