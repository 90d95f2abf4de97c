-- Frames on the way through a body: their variables are the first of the body's, and their names mean what is there.
use Rattle.std.proofs.Common.{◌≡◌, refl, sym, ap, subst, ◌∙◌, ℕ, zero, suc, ◌<◌, arith, Bool, true, false, List, [], ◌∷◌, ◌++◌, length, Option, Some, None}
use Rattle.std.specs.List.{Any}
use Rattle.std.proofs.lemmas.List.{append_assoc, append-nil}
use Rattle.ppd_ast.specs.declared.program.Place.{Place}
use Rattle.ppd_ast.specs.declared.program.Var.{Var}
use Rattle.ppd_ast.specs.declared.program.Program.{Program}
use Rattle.ppd_ast.specs.Cells.{IsScalarOf}
use Rattle.ppd_check_names.specs.declared.frame.Variable.{Variable}
use Rattle.ppd_check_names.specs.declared.frame.Frame.{Frame}
use Rattle.ppd_check_names.specs.declared.meaning.Meaning.TheVariants as M
use Rattle.ppd_check_names.specs.Fitted.{fitted}
use Rattle.ppd_check_names.specs.Syntax.{Name, plain, Simple, fresh, array, store, change, call, give_back, take, give, send, print, assert, Row, stop, simple, block, choice, repeat, count}
use Rattle.ppd_check_stmts.specs.Statements.{opened, with_scopes_of, goal_name, spot_of, via_hidden, after, after_row}
use Rattle.ppd_check_stmts.proofs.Vocabulary.{hidden_if, after_any}
use Rattle.ppd_check_names.specs.Frames.{after_cells, variable_of, declared, with_hidden}
use Rattle.ppd_check_names.proofs.Declared.Counted.{end_cells, end_cells_more}
use Rattle.ppd_check.specs.Sources.{vars}
use Rattle.ppd_check.proofs.Named.Rightly.{IsThere, AreAllThere}
use Rattle.ppd_check.proofs.Named.Terms.{innermost_there}

-- the second list is the first one and more
abbrev pub LeadsTo : {X : Type 0} → (xs ys : List X) → Type 0
LeadsTo {X} xs ys = (more : List X) × (ys ≡ xs ++ more)

pub leads_itself : {X : Type 0} (xs : List X) → LeadsTo xs xs
leads_itself xs = ([], sym (append-nil xs))

pub leads_further : {X : Type 0} (xs ys zs : List X) → LeadsTo xs ys → LeadsTo ys zs → LeadsTo xs zs
leads_further xs ys zs a b = (a.0 ++ b.0, b.1 ∙ ap (λ l. l ++ b.0) a.1 ∙ append_assoc xs a.0 b.0)

pub leads_on : {X : Type 0} (xs ys : List X) → LeadsTo xs (xs ++ ys)
leads_on xs ys = (ys, refl)

-- The cells of variables.

any_first : {X : Type 0} (P : X → Type 0) (x : X) (xs : List X) → P x → Any P (x ∷ xs)
any_first P x xs h = (zero, x, omega arith, refl, h)

any_later : {X : Type 0} (P : X → Type 0) (x : X) (xs : List X) → Any P xs → Any P (x ∷ xs)
any_later P x xs h = let l : h.0 < length xs = h.2 in (suc h.0, h.1, omega (arith, l), h.3, h.4)

abbrev HasCells : ℕ → Option ℕ → Var → Type 0
HasCells c n w = (w.base ≡ c) × (w.len ≡ n)

var_there : (n : ℕ) (xs : List Variable) (v : Variable) (more : List Variable) → Any (HasCells (end_cells n xs) v.length) (vars n (xs ++ v ∷ more))
var_there n [] v more = any_first (HasCells n v.length) _ _ (refl, refl)
var_there n (x ∷ xs) v more = any_later (HasCells (end_cells n (x ∷ xs)) v.length) _ _ (var_there (after_cells n x.length) xs v more)

-- a variable with those before it
pub last_there : (vs xs : List Variable) (v : Variable) (c : ℕ) → LeadsTo (xs ++ v ∷ []) vs → c ≡ end_cells 0 xs → Any (HasCells c v.length) (vars 0 vs)
last_there vs xs v c leads at =
    subst (λ n. Any (HasCells n v.length) (vars 0 vs)) (sym at)
    (subst (λ l. Any (HasCells (end_cells 0 xs) v.length) (vars 0 l)) (sym (leads.1 ∙ append_assoc xs (v ∷ []) leads.0))
    (var_there 0 xs v leads.0))

-- How frames grow.

hidden_leads : (b : Bool) (q : Place) (f : Frame) → LeadsTo f.variables (hidden_if b q f).variables
hidden_leads true q f = leads_on f.variables _
hidden_leads false q f = leads_itself f.variables

pub after_leads : (s : Simple) (f : Frame) → LeadsTo f.variables (after s f).variables
after_leads (fresh x v) f = leads_on f.variables _
after_leads (array x n) f = leads_on f.variables _
after_leads (store g v) f = hidden_leads (via_hidden (spot_of f.scopes g) v) (goal_name g).place f
after_leads (change g op e) f = leads_itself f.variables
after_leads (call g args) f = leads_itself f.variables
after_leads (give_back q None) f = leads_itself f.variables
after_leads (give_back q (Some (plain e))) f = leads_itself f.variables
after_leads (give_back q (Some v)) f = hidden_leads true q f
after_leads (take q x) f = leads_itself f.variables
after_leads (give q x) f = leads_itself f.variables
after_leads (send q x e) f = leads_itself f.variables
after_leads (print q e) f = leads_itself f.variables
after_leads (assert q e) f = leads_itself f.variables

pub after_any_leads : (s : Option Simple) (f : Frame) → LeadsTo f.variables (after_any s f).variables
after_any_leads None f = leads_itself f.variables
after_any_leads (Some s) f = after_leads s f

pub row_leads : (r : Row) (f : Frame) → LeadsTo f.variables (after_row r f).variables
row_leads stop f = leads_itself f.variables
row_leads (simple s r) f = leads_further _ _ _ (after_leads s f) (row_leads r (after s f))
row_leads (block b r) f = leads_further _ _ _ (row_leads b (opened f)) (row_leads r (with_scopes_of f (after_row b (opened f))))
row_leads (choice q e a b r) f =
    leads_further _ _ _ (row_leads a f) (leads_further _ _ _ (row_leads b (after_row a f)) (row_leads r (after_row b (after_row a f))))
row_leads (repeat q e b r) f = leads_further _ _ _ (row_leads b f) (row_leads r (after_row b f))
row_leads (count q start e step b r) f =
    leads_further _ _ _ (after_any_leads start (opened f))
    (leads_further _ _ _ (row_leads b (after_any start (opened f))) (row_leads r (with_scopes_of f (after_row b (after_any start (opened f))))))

-- Frames.

-- a frame in a body with the variables vs: its next cell comes after its variables, which are the first of the body's, and its names
-- mean what is there
pub record IsOnTheWay (p : Program) (vs : List Variable) (f : Frame) : Type 0 where
  pub cells : f.cells ≡ end_cells 0 f.variables
  pub leads : LeadsTo f.variables vs
  pub names : AreAllThere p (vars 0 vs) f.scopes

module _ (p : Program) (vs : List Variable) where
  pub local_there : (n : Option ℕ) (x : Name) (f : Frame) → IsOnTheWay p vs f → LeadsTo (declared n f x).variables vs → IsThere p (vars 0 vs) (M.Local f.cells n)
  local_there None x f way l = last_there vs f.variables (variable_of x None) f.cells l way.cells
  local_there (Some n) x f way l = last_there vs f.variables (variable_of x (Some n)) f.cells l way.cells

  pub declared_on : (x : Name) (n : Option ℕ) (f : Frame) → IsOnTheWay p vs f → LeadsTo (declared n f x).variables vs → IsOnTheWay p vs (declared n f x)
  declared_on x n f way l =
      record {
        cells = ap (λ c. after_cells c n) way.cells ∙ sym (end_cells_more 0 f.variables (variable_of x n));
        leads = l;
        names = innermost_there p (vars 0 vs) f.scopes x.text (M.Local f.cells n) (local_there n x f way l) way.names;
      }

  pub hidden_there : (q : Place) (f : Frame) → IsOnTheWay p vs f → LeadsTo (with_hidden q f).variables vs → IsScalarOf (vars 0 vs) f.cells
  hidden_there q f way l = last_there vs f.variables _ f.cells l way.cells

  hidden_on : (b : Bool) (q : Place) (f : Frame) → IsOnTheWay p vs f → LeadsTo (hidden_if b q f).variables vs → IsOnTheWay p vs (hidden_if b q f)
  hidden_on true q f way l = record { cells = ap (λ c. after_cells c None) way.cells ∙ sym (end_cells_more 0 f.variables _); leads = l; names = way.names }
  hidden_on false q f way l = way

  pub opened_on : (f : Frame) → IsOnTheWay p vs f → IsOnTheWay p vs (opened f)
  opened_on f way = record { cells = way.cells; leads = way.leads; names = (tt, way.names) }

  pub closed_on : (f g : Frame) → IsOnTheWay p vs f → IsOnTheWay p vs g → IsOnTheWay p vs (with_scopes_of f g)
  closed_on f g way inner = record { cells = inner.cells; leads = inner.leads; names = way.names }

  pub after_on : (s : Simple) (f : Frame) → IsOnTheWay p vs f → LeadsTo (after s f).variables vs → IsOnTheWay p vs (after s f)
  after_on (fresh x v) f way l = declared_on x None f way l
  after_on (array x n) f way l = declared_on x (Some (fitted 16 n.value)) f way l
  after_on (store g v) f way l = hidden_on (via_hidden (spot_of f.scopes g) v) (goal_name g).place f way l
  after_on (change g op e) f way l = way
  after_on (call g args) f way l = way
  after_on (give_back q None) f way l = way
  after_on (give_back q (Some (plain e))) f way l = way
  after_on (give_back q (Some v)) f way l = hidden_on true q f way l
  after_on (take q x) f way l = way
  after_on (give q x) f way l = way
  after_on (send q x e) f way l = way
  after_on (print q e) f way l = way
  after_on (assert q e) f way l = way

  pub after_any_on : (s : Option Simple) (f : Frame) → IsOnTheWay p vs f → LeadsTo (after_any s f).variables vs → IsOnTheWay p vs (after_any s f)
  after_any_on None f way l = way
  after_any_on (Some s) f way l = after_on s f way l

  pub row_on : (r : Row) (f : Frame) → IsOnTheWay p vs f → LeadsTo (after_row r f).variables vs → IsOnTheWay p vs (after_row r f)
  row_on stop f way l = way
  row_on (simple s r) f way l = row_on r (after s f) (after_on s f way (leads_further _ _ _ (row_leads r (after s f)) l)) l
  row_on (block b r) f way l =
      let g : Frame = after_row b (opened f) in
      let m : LeadsTo g.variables vs = leads_further _ _ _ (row_leads r (with_scopes_of f g)) l in
      row_on r (with_scopes_of f g) (closed_on f g way (row_on b (opened f) (opened_on f way) m)) l
  row_on (choice q e a b r) f way l =
      let g : Frame = after_row a f in
      let h : Frame = after_row b g in
      let m : LeadsTo h.variables vs = leads_further _ _ _ (row_leads r h) l in
      row_on r h (row_on b g (row_on a f way (leads_further _ _ _ (row_leads b g) m)) m) l
  row_on (repeat q e b r) f way l = row_on r (after_row b f) (row_on b f way (leads_further _ _ _ (row_leads r (after_row b f)) l)) l
  row_on (count q start e step b r) f way l =
      let g : Frame = after_any start (opened f) in
      let h : Frame = after_row b g in
      let m : LeadsTo h.variables vs = leads_further _ _ _ (row_leads r (with_scopes_of f h)) l in
      row_on r (with_scopes_of f h) (closed_on f h way (row_on b g (after_any_on start (opened f) (opened_on f way) (leads_further _ _ _ (row_leads b g) m)) m)) l
