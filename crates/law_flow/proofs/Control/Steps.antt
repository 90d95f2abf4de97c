-- The steps of a process that goes on, by what they need and leave.
use Rattle.std.proofs.Common.{◌≡◌, ℕ, ℤ, Bool, true, false, List, [], ◌∷◌, ◌++◌, Option, Some, None, Ok, Err, refl, sym, subst, inl, inr, if◌then◌else◌, true≢false}
use Rattle.std.specs.Prelude.{drop}
use Rattle.std.proofs.lemmas.Option.{none-some}
use Rattle.ppd_ast.specs.Numbered.{is_while}
use Rattle.ppd_ast.specs.declared.plan.BlockKind.TheVariants as block
use Rattle.ppd_ast.specs.declared.plan.Plan.{Plan}
use Rattle.ppd_ast.specs.Term.{term}
use Rattle.ppd_ast.specs.declared.program.Expr.{Expr}
use Rattle.ppd_ast.specs.declared.program.Kind.{Kind}
use Rattle.ppd_ast.specs.declared.program.Kind.TheVariants as kind
use Rattle.ppd_ast.specs.declared.program.Program.{Program}
use Rattle.ppd_ast.specs.Lookups.{kind_of, body_of, body_numbered}
use Rattle.law_steps.specs.Beside.Relation.{IsCallOf, IsListOf}
use Rattle.ppd_sem.specs.declared.proc.Need.{Need}
use Rattle.ppd_sem.specs.declared.proc.Need.TheVariants as need
use Rattle.ppd_sem.specs.declared.proc.Proc.{Proc}
use Rattle.ppd_sem.specs.declared.proc.Todo.{Todo}
use Rattle.ppd_sem.specs.Ask.{ask}
use Rattle.ppd_sem.specs.Asked.{Asked, and_then, gives}
use Rattle.ppd_sem.specs.Deed.{send, ask_deed}
use Rattle.ppd_sem.specs.Described.{evaluates, trap_of, value_at, valued, is_event}
use Rattle.ppd_sem.specs.Process.{chan_of, loop_of, todos, top_frame}
use Rattle.ppd_sem.specs.Runs.{returns}
use Rattle.ppd_sem.specs.Tables.{block_of}
use Rattle.ppd_model.specs.declared.tracing.Activation.{Activation}
use Rattle.ppd_model.specs.FullTrace.{Tag, is_passed, tagged_by}
use Rattle.ppd_model.specs.Marks.{closed, opened}
use Rattle.ppd_model.specs.Parents.{is_choice}
use Rattle.ppd_model.proofs.Homes.{AllBeside, AreTop as AreTopOf}
use Rattle.ppd_model.proofs.Moves.{AllInner, AreTop, Leads}
use Rattle.ppd_model.proofs.TestSteps.{View, views}
use Rattle.law_flow.proofs.Control.KindDeeds.{IsSimple}

-- no event, and no interval begins or ends
abbrev pub IsQuiet : Program → Plan → Proc → Need → Type 0
IsQuiet program plan s n = (is_event n ≡ false) × (opened program plan s n ≡ None) × (closed program plan s n ≡ None)

-- an event, and no interval begins or ends
abbrev pub IsOwn : Program → Plan → Proc → Need → Type 0
IsOwn program plan s n = (is_event n ≡ true) × (opened program plan s n ≡ None) × (closed program plan s n ≡ None)
    × (trap_of n ≡ None)

-- the value of the event
abbrev pub value_in : Program → Proc → Todo → Need → Option ℤ
value_in program s t n = if evaluates n then value_at program.exprs (top_frame s.frames).cells s.answers
    (valued (kind_of program t.stmt)) else None

-- statements that stand directly in statement t, in its body
abbrev pub AreInside : Program → ℕ → List ℕ → Type 0
AreInside program t stmts = AllInner program t stmts × AllBeside program (body_of program t) stmts

-- a loop that goes on is entered, if it is a block
abbrev pub IsEntered : Plan → Todo → Type 0
IsEntered plan t = t.entered ≡ false → block_of plan (block.Loop t.stmt) ≡ None

-- the step of a process whose head is t, with this need; `old` are the views of its activations, and `tested` those
-- after the test of its event
pub data Step (program : Program) (plan : Plan) (s : Proc) (t : Todo) (ts : List Todo) (me : Tag)
    (old tested : List View) (n : Need) (todo : List Todo) (now : List View) : Type 0 where
  reads : IsQuiet program plan s n → todo ≡ t ∷ ts → now ≡ old → Step program plan s t ts me old tested n todo now
  enters : (b u : ℕ) → n ≡ need.Enter b u → t.entered ≡ false → block_of plan (block.Loop t.stmt) ≡ Some b
      → is_while (kind_of program t.stmt) ≡ true
      → todo ≡ record t { entered = true } ∷ ts → now ≡ old → Step program plan s t ts me old tested n todo now
  offers : IsOwn program plan s n → IsSimple (kind_of program t.stmt) → todo ≡ record t { offered = true } ∷ ts
      → now ≡ tested → Step program plan s t ts me old tested n todo now
  passes : IsOwn program plan s n → IsSimple (kind_of program t.stmt) → todo ≡ ts → now ≡ tested
      → Step program plan s t ts me old tested n todo now
  stops : IsOwn program plan s n → is_while (kind_of program t.stmt) ≡ true → block_of plan (block.Loop t.stmt) ≡ None
      → is_passed (value_in program s t n) ≡ false
      → todo ≡ ts → now ≡ tested → Step program plan s t ts me old tested n todo now
  leaves : (b u : ℕ) → n ≡ need.Leave b u → t.entered ≡ true → is_while (kind_of program t.stmt) ≡ true
      → block_of plan (block.Loop t.stmt) ≡ Some b → is_passed (value_in program s t n) ≡ false
      → todo ≡ ts → now ≡ tested → Step program plan s t ts me old tested n todo now
  chooses : (stmts : List ℕ) → IsOwn program plan s n → is_choice (kind_of program t.stmt) ≡ true
      → is_while (kind_of program t.stmt) ≡ false → AreInside program t.stmt stmts
      → todo ≡ todos stmts ++ ts → now ≡ tested → Step program plan s t ts me old tested n todo now
  turns : (stmts : List ℕ) → IsOwn program plan s n → is_while (kind_of program t.stmt) ≡ true → IsEntered plan t
      → AreInside program t.stmt stmts
      → todo ≡ todos stmts ++ t ∷ ts → now ≡ tested → Step program plan s t ts me old tested n todo now
  calls : (f u : ℕ) → n ≡ need.Invoke (block_of plan (block.Function f)) u → IsCallOf (kind_of program t.stmt) f
      → AreTop program (body_numbered program f).top → AreTopOf program f (body_numbered program f).top
      → todo ≡ todos (body_numbered program f).top ++ ts → now ≡ (me, []) ∷ tested
      → Step program plan s t ts me old tested n todo now
  backs : (u : Option ℕ) → n ≡ need.Back (block_of plan (block.Function (top_frame s.frames).body)) u
      → returns (kind_of program t.stmt) ≡ true
      → todo ≡ ts → now ≡ drop 1 tested → Step program plan s t ts me old tested n todo now

pub listed_inside : (program : Program) (t : ℕ) (k : Kind) (stmts : List ℕ) → Leads program t k → IsListOf k stmts
    → AllInner program t stmts
listed_inside program t (kind.If e first second) stmts h is = elim is [
  | inl e ↦ subst (AllInner program t) (sym e) h.0
  | inr e ↦ subst (AllInner program t) (sym e) h.1
]
listed_inside program t (kind.While e body) stmts h is = subst (AllInner program t) (sym is) h
listed_inside program t k stmts h is = absurd is

pub called_top : (program : Program) (t : ℕ) (k : Kind) (f : ℕ) → Leads program t k → IsCallOf k f
    → AreTop program (body_numbered program f).top
called_top program t (kind.Call g arguments into) f h is = subst
    (λ i. AreTop program (body_numbered program i).top) (sym is) h
called_top program t k f h is = absurd is

pub loop_while : (plan : Plan) (t : ℕ) (k : Kind) (b : ℕ) → loop_of plan t k ≡ Some b → (is_while k ≡ true)
    × (block_of plan (block.Loop t) ≡ Some b)
loop_while plan t (kind.While e body) b h = (refl, h)
loop_while plan t k b h = absurd (none-some b h)

pub chan_simple : (k : Kind) (c : ℕ) → chan_of k ≡ Some c → IsSimple k
chan_simple (kind.Send d e) c h = (refl, refl, refl)
chan_simple k c h = absurd (none-some c h)

pub either_false : (b : Bool) (v : Option ℤ) → is_passed v ≡ false → is_passed (if b then v else None) ≡ false
either_false true v h = h
either_false false v h = refl

-- what is sent changes no activation
pub sent_views : (program : Program) (s : Proc) (me : Tag) (acts : List Activation) (d : ℕ) (r : Asked ℤ)
    → views (tagged_by program s me (and_then r (λ v left. gives left (send d v))) acts) ≡ views acts
sent_views program s me acts d (Ok q) = refl
sent_views program s me acts d (Err pause) = refl

pub send_views : (program : Program) (s : Proc) (me : Tag) (acts : List Activation) (es : List Expr) (k : Kind)
    (cells answers : List ℤ) (c : ℕ) → chan_of k ≡ Some c
    → views (tagged_by program s me (ask_deed es k cells answers) acts) ≡ views acts
send_views program s me acts es (kind.Send d e) cells answers c h = sent_views program s me acts d
    (ask (term es e) cells answers)
send_views program s me acts es k cells answers c h = absurd (none-some c h)
