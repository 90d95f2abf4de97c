-- The events of the process and of its replay are one.
use Rattle.std.proofs.Common.{◌≡◌, ℕ, ℤ, List, [], ◌∷◌, Option, Some, None, Bool, refl, ap, ap₂, ◌∙◌}
use Rattle.std.specs.Prelude.{if◌then◌else◌}
use Rattle.ppd_ast.specs.declared.plan.Plan.{Plan}
use Rattle.ppd_ast.specs.declared.program.Expr.{Expr}
use Rattle.ppd_ast.specs.declared.program.Kind.{Kind}
use Rattle.ppd_ast.specs.declared.program.Kind.TheVariants as kind
use Rattle.ppd_ast.specs.declared.program.Program.{Program}
use Rattle.ppd_ast.specs.Term.{term}
use Rattle.ppd_ast.specs.declared.status.Trap.{Trap as TrapOf}
use Rattle.ppd_ast.specs.Lookups.{kind_of}
use Rattle.ppd_sem.specs.declared.event.Access.{Access}
use Rattle.ppd_sem.specs.declared.event.Event.{Event}
use Rattle.ppd_sem.specs.declared.proc.Answer.{Answer}
use Rattle.ppd_sem.specs.declared.proc.Frame.{Frame}
use Rattle.ppd_sem.specs.declared.proc.Proc.{Proc}
use Rattle.ppd_sem.specs.declared.proc.Todo.{Todo}
use Rattle.ppd_sem.specs.Described.{described, frame_of, trap_of, evaluates, value_at, valued, writes_by}
use Rattle.ppd_sem.proofs.EventWords.{value_if}
use Rattle.ppd_sem.specs.Process.{head_deed, need_of, top_frame}
use Rattle.ppd_sem.specs.Reads.{reads_of_kind}
use Rattle.law_steps.proofs.Vocabulary.Over.{IsKindOver, SameIn}
use Rattle.law_steps.proofs.Vocabulary.Relation.{HasEnds, IsBeside, IsBlock, Stacked, at_base, called}
use Rattle.law_steps.proofs.Beside.Asked.{ask_same}
use Rattle.law_steps.proofs.Beside.Events.{kind_reads_same}
use Rattle.law_steps.proofs.Beside.Framed.{framed}
use Rattle.law_steps.proofs.Beside.HeadNeeds.{deed_is}

value_same : (used : ℕ → Type 0) (cells others : List ℤ) → SameIn used cells others → (es : List Expr) (k : Kind)
    → IsKindOver used es k → (answers : List ℤ)
    → value_at es cells answers (valued k) ≡ value_at es others answers (valued k)
value_same used cells others same es (kind.If e first second) o answers =
    ap value_if (ask_same used cells others same (term es e) o answers)
value_same used cells others same es (kind.While e body) o answers =
    ap value_if (ask_same used cells others same (term es e) o answers)
value_same used cells others same es (kind.Return (Some e)) o answers =
    ap value_if (ask_same used cells others same (term es e) o answers)
value_same used cells others same es (kind.Send c e) o answers =
    ap value_if (ask_same used cells others same (term es e) o answers)
value_same used cells others same es (kind.Print e) o answers =
    ap value_if (ask_same used cells others same (term es e) o answers)
value_same used cells others same es (kind.Assert e) o answers =
    ap value_if (ask_same used cells others same (term es e) o answers)
value_same used cells others same es (kind.Return None) o answers = refl
value_same used cells others same es k o answers = refl

abbrev parts : ℕ → List Access → List Access → Option ℤ → Option TrapOf → Event
parts stmt reads writes value trap =
    record { stmt = stmt; reads = reads; writes = writes; value = value; number = None; trap = trap }

parts_same : (stmt : ℕ) {reads reads' writes writes' : List Access} {value value' : Option ℤ}
    {trap trap' : Option TrapOf} → reads ≡ reads' → writes ≡ writes' → value ≡ value' → trap ≡ trap'
    → parts stmt reads writes value trap ≡ parts stmt reads' writes' value' trap'
parts_same stmt same_reads same_writes same_value same_end = rw (same_reads, same_writes, same_value, same_end) refl

module _ (program : Program) (plan : Plan) (used inside : ℕ → Type 0) (calls : Type 0) (closer : Todo) (home : ℕ)
    (depth : ℕ) (ends : HasEnds program) (block : IsBlock program used inside calls) (outside : List Todo) where
  abbrev Beside : Proc → Proc → Type 0
  Beside s r = IsBeside program used inside calls closer home depth outside s r

  reads_are : (fs gs : List Frame) (t : Todo) (ts : List Todo) (frame : ℕ) (answers : List ℤ)
      → Stacked program used inside calls closer home fs gs (t ∷ ts)
      → reads_of_kind frame program.exprs (kind_of program t.stmt)
      (top_frame fs).cells answers ≡ reads_of_kind frame program.exprs (kind_of program t.stmt) (top_frame gs).cells answers
  reads_are fs gs t ts frame answers (at_base f g fs' gs' todo same body first within) =
      kind_reads_same used f.cells g.cells same.cells frame program.exprs (kind_of program t.stmt)
      (block.reads t.stmt within.0.0) answers
  reads_are fs gs t ts frame answers (called f fs' gs' todo k has below) = refl

  value_is : (fs gs : List Frame) (t : Todo) (ts : List Todo) (answers : List ℤ)
      → Stacked program used inside calls closer home fs gs (t ∷ ts)
      → value_at program.exprs (top_frame fs).cells answers (valued (kind_of program t.stmt)) ≡ value_at program.exprs
      (top_frame gs).cells answers (valued (kind_of program t.stmt))
  value_is fs gs t ts answers (at_base f g fs' gs' todo same body first within) =
      value_same used f.cells g.cells same.cells program.exprs (kind_of program t.stmt)
      (block.reads t.stmt within.0.0) answers
  value_is fs gs t ts answers (called f fs' gs' todo k has below) = refl

  -- the events of the two are one, where both or none evaluate and trap
  pub described_same : (s r : Proc) (t : Todo) (ts : List Todo) (a : Answer) → Beside s r → r.todo ≡ t ∷ ts
      → frame_of program plan s ≡ frame_of program plan r
      → trap_of (need_of program plan s) ≡ trap_of (need_of program plan r)
      → evaluates (need_of program plan s) ≡ evaluates (need_of program plan r)
      → described program plan s t a ≡ described program plan r t a
  described_same s r t ts a b todo frame trap asks =
      let h = framed program used inside calls closer home depth ends block outside s r t ts todo b in
      let reads : reads_of_kind (frame_of program plan s) program.exprs (kind_of program t.stmt)
      (top_frame s.frames).cells s.answers ≡ reads_of_kind (frame_of program plan r) program.exprs
      (kind_of program t.stmt) (top_frame r.frames).cells r.answers =
      reads_are s.frames r.frames t ts (frame_of program plan s) s.answers h.stacked
      ∙ ap₂ (λ f as'. reads_of_kind f program.exprs (kind_of program t.stmt)
      (top_frame r.frames).cells as') frame b.answers in
      let value : value_at program.exprs (top_frame s.frames).cells s.answers
      (valued (kind_of program t.stmt)) ≡ value_at program.exprs (top_frame r.frames).cells r.answers
      (valued (kind_of program t.stmt)) =
      value_is s.frames r.frames t ts s.answers h.stacked
      ∙ ap (λ as'. value_at program.exprs (top_frame r.frames).cells as' (valued (kind_of program t.stmt))) b.answers in
      let deed : head_deed program t s ≡ head_deed program t r =
      deed_is program used inside calls closer home depth ends block outside s r t ts b h in
      let writes : writes_by (trap_of (need_of program plan s)) (frame_of program plan s) a
      (head_deed program t s) ≡ writes_by (trap_of (need_of program plan r)) (frame_of program plan r) a
      (head_deed program t r) =
      ap (λ x. writes_by x (frame_of program plan s) a (head_deed program t s)) trap
      ∙ ap₂ (λ f q. writes_by (trap_of (need_of program plan r)) f a q) frame deed in
      parts_same t.stmt
      (ap₂ (λ (x : Bool) (xs : List Access). if x then xs else []) asks reads)
      writes
      (ap₂ (λ (x : Bool) (v : Option ℤ). if x then v else None) asks value)
      trap
