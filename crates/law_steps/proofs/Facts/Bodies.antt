-- The static facts of a block that is a whole body: of a function, or of a process.
use Rattle.std.proofs.Common.{◌≡◌, ℕ, ◌≤◌, true, false, List, [], ◌∷◌, Some, None, refl, ap, sym, subst, ◌∙◌, arith, true≢false}
use Rattle.std.specs.Prelude.{⊤, is_some, slice_get}
use Rattle.std.proofs.lemmas.Bool.{or_left, or_right, le-leb}
use Rattle.std.specs.List.{AllByRecursion as Each}
use Rattle.std.specs.Option.{option_map_or}
use Rattle.ppd_ast.specs.declared.plan.BlockKind.TheVariants as block
use Rattle.ppd_ast.specs.declared.plan.Plan.{Plan}
use Rattle.ppd_ast.specs.declared.program.Body.{Body}
use Rattle.ppd_ast.specs.declared.program.Kind.{Kind}
use Rattle.ppd_ast.specs.declared.program.Kind.TheVariants as kind
use Rattle.ppd_ast.specs.declared.program.Program.{Program}
use Rattle.ppd_ast.specs.declared.program.Stmt.{Stmt}
use Rattle.ppd_ast.specs.Valid.{EndsBody, IsValid}
use Rattle.ppd_ast.proofs.ValidLaws.{stmt_in_body, valid_body}
use Rattle.ppd_ast.specs.Lookups.{kind_of, body_of}
use Rattle.ppd_ast.proofs.Vocabulary.{kind_of_stmt}
use Rattle.ppd_sem.specs.Blocks.{postlog_cells}
use Rattle.ppd_sem.specs.declared.proc.Todo.{Todo}
use Rattle.ppd_sem.specs.Described.{ends_body}
use Rattle.ppd_sem.specs.Process.{todos}
use Rattle.ppd_sem.specs.Tables.{block_of}
use Rattle.law_steps.specs.Beside.Relation.{IsCallOf, IsListOf}
use Rattle.law_steps.proofs.Vocabulary.Relation.{IsBlock, IsLast, IsOwnTodo, IsReturn}
use Rattle.law_steps.proofs.Vocabulary.Held.{IsWritingBlock}
use Rattle.law_steps.proofs.Beside.Closes.{AreUsed}
use Rattle.law_steps.proofs.Beside.Kept.{IsOwned}
use Rattle.law_steps.proofs.Beside.Staying.{IsClosed}
use Rattle.law_steps.proofs.Facts.Named.{kind_over, kind_writing}
use Rattle.law_steps.proofs.Facts.Placed.{IsAt, EndsOnce, body_ends_once, all_at, listed}

-- statement i is there, in body f
pub record IsOf (program : Program) (f i : ℕ) : Type 0 where
  pub stmt : Stmt
  pub there : slice_get program.stmts i ≡ Some stmt
  pub body : stmt.body ≡ f

-- one of these statements is a call
pub record HasCall (program : Program) (inside : ℕ → Type 0) : Type 0 where
  pub stmt : ℕ
  pub stands : inside stmt
  pub function : ℕ
  pub calls : IsCallOf (kind_of program stmt) function

-- each cell of the frame
abbrev pub EachCell : ℕ → Type 0
EachCell c = ⊤

pub each_of : (P Q : ℕ → Type 0) (xs : List ℕ) → ((x : ℕ) → P x → Q x) → Each P xs → Each Q xs
each_of P Q [] f h = tt
each_of P Q (x ∷ xs) f h = (f x h.0, each_of P Q xs f h.1)

all_used : (cs : List ℕ) → AreUsed EachCell cs
all_used [] = tt
all_used (c ∷ cs) = (tt, all_used cs)

module _ (program : Program) (v : IsValid program) (f : ℕ) where
  body_within : (s : ℕ) → IsOf program f s → (stmts : List ℕ) → IsListOf (kind_of program s) stmts
      → Each (IsOf program f) stmts
  body_within s h stmts is =
      each_of (IsAt program (Some s) (body_of program s)) (IsOf program f) stmts
      (λ i at. record { stmt = at.stmt; there = at.there; body = at.body ∙ ap (λ o. option_map_or (λ (x : Stmt). x.body) o 0) h.there ∙ h.body })
      (listed program s stmts v is)

  pub body_block : IsBlock program EachCell (IsOf program f) (HasCall program (IsOf program f))
  body_block = record {
    reads = λ s h. kind_over EachCell program.exprs (kind_of program s) (λ c e. tt);
    within = body_within;
    calling = λ s g h is. record { stmt = s; stands = h; function = g; calls = is };
  }

  pub body_writing : IsWritingBlock program EachCell (IsOf program f)
  body_writing = record { writes = λ s h. kind_writing EachCell (kind_of program s) (λ c e. tt); within = body_within }

  pub body_postlogs : (plan : Plan) (s b : ℕ) → IsOf program f s → block_of plan (block.Loop s) ≡ Some b
      → AreUsed EachCell (postlog_cells plan b)
  body_postlogs plan s b h e = all_used (postlog_cells plan b)

  -- a return is a function's
  no_return : (b : Body) (k : ℕ) (x : Kind) → b.process ≡ true → EndsBody b k x → IsReturn x → ⊥
  no_return b k (kind.Return e) is h r = true≢false (sym is ∙ h.0)
  no_return b k x is h r = r

  pub returning : (s : ℕ) → IsOf program f s → program.functions ≤ f → IsReturn (kind_of program s) → ⊥
  returning s h le r =
      let own = stmt_in_body program s h.stmt v h.there in
      let below : program.functions ≤ h.stmt.body = omega (arith, h.body, le) in
      no_return own.0 s h.stmt.kind
      ((valid_body program h.stmt.body own.0 v own.1).process
      ∙ le-leb program.functions h.stmt.body below) own.2.ending (subst IsReturn (ap kind_of_stmt h.there) r)

  -- the last of what is to do at the beginning of body f, which ends it
  pub record IsCloser (closer : Todo) : Type 0 where
    pub unentered : closer.entered ≡ false
    pub ends : ends_body (kind_of program closer.stmt) ≡ true

  module _ (plan : Plan) (closer : Todo) (is : IsCloser closer) where
    pub function_owned : is_some (block_of plan (block.Function f)) ≡ true → (depth : ℕ) (outside : List Todo)
        → IsOwned program plan EachCell (IsOf program f) (HasCall program (IsOf program f)) closer f depth outside
    function_owned h depth outside = record {
      goes_on = λ e s i. absurd (true≢false (sym e ∙ is.unentered));
      block = λ e. or_left (is_some (block_of plan (block.Function f))) (is_some (block_of plan (block.Process f))) h;
    }

    pub process_owned : is_some (block_of plan (block.Process f)) ≡ true → (depth : ℕ) (outside : List Todo)
        → IsOwned program plan EachCell (IsOf program f) (HasCall program (IsOf program f)) closer f depth outside
    process_owned h depth outside = record {
      goes_on = λ e s i. absurd (true≢false (sym e ∙ is.unentered));
      block = λ e. or_right (is_some (block_of plan (block.Function f))) (is_some (block_of plan (block.Process f))) h;
    }

    pub function_closed : is_some (block_of plan (block.Function f)) ≡ true
        → IsClosed program plan EachCell (IsOf program f) (HasCall program (IsOf program f)) closer f
    function_closed h = record {
      loop = λ e. absurd (true≢false (sym e ∙ is.unentered));
      body = λ e. is.ends;
      returns = λ s i r. h;
    }

    pub process_closed : program.functions ≤ f
        → IsClosed program plan EachCell (IsOf program f) (HasCall program (IsOf program f)) closer f
    process_closed le = record {
      loop = λ e. absurd (true≢false (sym e ∙ is.unentered));
      body = λ e. is.ends;
      returns = λ s i r. absurd (returning s i le r);
    }

-- ---- what is to do at the beginning

-- the last of a list
abbrev pub last_stmt : ℕ → List ℕ → ℕ
last_stmt d [] = d
last_stmt d (x ∷ []) = x
last_stmt d (x ∷ y ∷ xs) = last_stmt d (y ∷ xs)

-- the statement that ends the body, not entered
abbrev pub ender : List ℕ → Todo
ender stmts = record { stmt = last_stmt 0 stmts; entered = false; offered = false }

last_is : (stmts : List ℕ) (program : Program) → EndsOnce program stmts → IsLast (ender stmts) (todos stmts)
last_is [] program h = absurd h
last_is (x ∷ []) program h = refl
last_is (x ∷ y ∷ xs) program h = last_is (y ∷ xs) program h.1

last_ends : (stmts : List ℕ) (program : Program) → EndsOnce program stmts
    → ends_body (kind_of program (last_stmt 0 stmts)) ≡ true
last_ends [] program h = absurd h
last_ends (x ∷ []) program h = h
last_ends (x ∷ y ∷ xs) program h = last_ends (y ∷ xs) program h.1

each_todo : (P : ℕ → Type 0) (stmts : List ℕ) → Each P stmts → Each (λ t. P t.stmt) (todos stmts)
each_todo P [] h = tt
each_todo P (x ∷ xs) h = (h.0, each_todo P xs h.1)

module _ (program : Program) (v : IsValid program) (f : ℕ) (b : Body) (at : slice_get program.bodies f ≡ Some b) where
  pub body_closer : IsCloser program v f (ender b.top)
  body_closer = record { unentered = refl; ends = last_ends b.top program (body_ends_once program f b v at) }

  -- what is to do at its beginning are its statements, the last of which ends it
  pub body_begins : IsOwnTodo (IsOf program f) (ender b.top) (todos b.top)
  body_begins = (
    each_todo (IsOf program f) b.top
        (each_of (IsAt program None f) (IsOf program f) b.top
        (λ i h. record { stmt = h.stmt; there = h.there; body = h.body })
        (all_at program None f b.top (valid_body program f b v at).top)),
    last_is b.top program (body_ends_once program f b v at),
  )
