-- The reads of a statement are the same where the local cells that it names are the same.
use Rattle.std.proofs.Common.{inl, inr, suc, arith, ◌≡◌, ℕ, ◌+◌, ◌<◌, ℤ, pos, negsuc, List, [], ◌∷◌, ◌++◌, Bool, true, false, cond, Ok, Err, Some, None, refl, ap, sym, ◌∙◌}
use Rattle.std.specs.List.{list_any}
use Rattle.std.specs.Prelude.{take_while, take, not as negated, ◌||◌, nat_lt, if◌then◌else◌, get_or}
use Rattle.std.proofs.lemmas.Bool.{ltb-true}
use Rattle.std.specs.Ordering.{int_eq}
use Rattle.ppd_ast.specs.declared.program.Expr.{Expr}
use Rattle.ppd_ast.specs.declared.program.Kind.{Kind}
use Rattle.ppd_ast.specs.declared.program.Kind.TheVariants.{Set, Zero, If, While, Call, Return, P, V, Send, Recv, Print, Assert, End}
use Rattle.ppd_ast.specs.declared.program.Target.TheVariants as target
use Rattle.ppd_ast.specs.Term.{Term, const, local, local_at, shared, shared_at, neg, not, two, and, or, term}
use Rattle.ppd_ast.specs.declared.program.Program.{Program}
use Rattle.ppd_ast.specs.declared.plan.Plan.{Plan}
use Rattle.ppd_sem.specs.declared.proc.Todo.{Todo}
use Rattle.ppd_sem.specs.declared.proc.Proc.{Proc}
use Rattle.ppd_sem.specs.Described.{ends_body, frame_of, is_block}
use Rattle.ppd_ast.specs.declared.status.Trap.TheVariants.{Index}
use Rattle.ppd_ast.specs.Lookups.{kind_of}
use Rattle.ppd_sem.specs.Asked.{Asked, lift}
use Rattle.ppd_sem.specs.Ask.{ask, element}
use Rattle.ppd_sem.specs.declared.event.Access.{Access}
use Rattle.ppd_sem.specs.declared.event.Spot.TheVariants as spot
use Rattle.ppd_sem.specs.Asked.{once, and_then}
use Rattle.ppd_sem.specs.Reads.{ask_place, reads_of, reads_of_all, reads_of_stored, reads_of_kind, local_accesses}
use Rattle.law_steps.proofs.Vocabulary.Relation.{HasEnd}
use Rattle.law_steps.proofs.Vocabulary.Over.{IsOverCells, AreOverCells, IsKindOver, SameIn}
use Rattle.law_steps.proofs.Beside.Asked.{ask_same}
use Rattle.ppd_sem.specs.Process.{top_frame}

once_same : {A : Type 0} (q : Asked A) (next next' : A → List ℤ → List Access)
    → ((x : A) (left : List ℤ) → next x left ≡ next' x left) → once q next ≡ once q next'
once_same (Ok p) next next' h = h p.0 p.1
once_same (Err pause) next next' h = refl

both_same : {A : Type 0} (xs ys : List Access) (q q' : Asked A) (next next' : A → List ℤ → List Access) → xs ≡ ys
    → q ≡ q' → ((x : A) (left : List ℤ) → next x left ≡ next' x left) → xs ++ once q next ≡ ys ++ once q' next'
both_same xs ys q q' next next' e f h =
    ap (λ zs. zs ++ once q next) e ∙ ap (λ z. ys ++ once z next) f ∙ ap (λ zs. ys ++ zs) (once_same q' next next' h)

once_then : {A B : Type 0} (q : Asked A) (f : A → List ℤ → Asked B) (g : B → List ℤ → List Access)
    → once (and_then q f) g ≡ once q (λ x left. once (f x left) g)
once_then (Ok p) f g = refl
once_then (Err pause) f g = refl

module _ (used : ℕ → Type 0) (cells others : List ℤ) (same : SameIn used cells others) (frame : ℕ) where
  read_same : (c : ℕ) → get_or cells c (pos 0) ≡ get_or others c (pos 0) → local_accesses frame c (get_or cells c (pos 0) ∷ []) ≡ local_accesses frame c (get_or others c (pos 0) ∷ [])
  read_same c e = ap (λ v. record { spot = spot.Local frame c; value = v } ∷ []) e

  picked_read : (b : Bool) (c : ℕ) (left : List ℤ) → (b ≡ true → get_or cells c (pos 0) ≡ get_or others c (pos 0))
      → once (lift left (if b then Ok c else Err Index)) (λ c left. local_accesses frame c (get_or cells c (pos 0) ∷ [])) ≡ once
      (lift left (if b then Ok c else Err Index)) (λ c left. local_accesses frame c (get_or others c (pos 0) ∷ []))
  picked_read true c left h = read_same c (h refl)
  picked_read false c left h = refl

  element_read : (base len : ℕ) → ((k : ℕ) → k < len → used (base + k)) → (at : ℤ) (left : List ℤ)
      → once (lift left (element base len at)) (λ c left. local_accesses frame c (get_or cells c (pos 0) ∷ [])) ≡ once
      (lift left (element base len at)) (λ c left. local_accesses frame c (get_or others c (pos 0) ∷ []))
  element_read base len h (pos i) left =
      picked_read (nat_lt i len) (base + i) left (λ e. same.values (base + i) (h i (ltb-true i len e)))
  element_read base len h (negsuc i) left = refl

  -- what is read of an array's element
  place_same : (xs ys : List Access) (i : Term) (base len : ℕ) (answers : List ℤ)
      (next next' : ℕ → List ℤ → List Access) → xs ≡ ys → ask i cells answers ≡ ask i others answers
      → ((at : ℤ) (left : List ℤ)
      → once (lift left (element base len at)) next ≡ once (lift left (element base len at)) next')
      → xs ++ once (ask_place i base len cells answers) next ≡ ys ++ once
      (ask_place i base len others answers) next'
  place_same xs ys i base len answers next next' e f h =
      ap (λ zs. xs ++ zs) (once_then (ask i cells answers) (λ at left. lift left (element base len at)) next)
      ∙ both_same xs ys (ask i cells answers) (ask i others answers)
      (λ at left. once (lift left (element base len at)) next)
      (λ at left. once (lift left (element base len at)) next') e f h
      ∙ ap (λ zs. ys ++ zs) (sym (once_then (ask i others answers) (λ at left. lift left (element base len at)) next'))

  pub reads_same : (t : Term) → IsOverCells used t → (answers : List ℤ)
      → reads_of frame t cells answers ≡ reads_of frame t others answers
  reads_same (const v) o answers = refl
  reads_same (local c) o answers = read_same c (same.values c o)
  reads_same (local_at base len i) o answers =
      place_same _ _ i base len answers _ _ (reads_same i o.1 answers)
      (ask_same used cells others same i o.1 answers) (λ at left. element_read base len o.0 at left)
  reads_same (shared c) o answers = refl
  reads_same (shared_at base len i) o answers =
      place_same _ _ i base len answers _ _ (reads_same i o answers) (ask_same used cells others same i o answers)
      (λ at left. refl)
  reads_same (neg a) o answers = reads_same a o answers
  reads_same (not a) o answers = reads_same a o answers
  reads_same (two op a b) o answers =
      both_same _ _ _ _ _ _ (reads_same a o.0 answers) (ask_same used cells others same a o.0 answers)
      (λ x left. reads_same b o.1 left)
  reads_same (and a b) o answers =
      both_same _ _ _ _ _ _ (reads_same a o.0 answers) (ask_same used cells others same a o.0 answers)
      (λ x left. ap (λ zs. cond (int_eq x (pos 0)) [] zs) (reads_same b o.1 left))
  reads_same (or a b) o answers =
      both_same _ _ _ _ _ _ (reads_same a o.0 answers) (ask_same used cells others same a o.0 answers)
      (λ x left. ap (λ zs. cond (int_eq x (pos 0)) zs []) (reads_same b o.1 left))

  all_reads_same : (es : List Expr) (as' : List ℕ) → AreOverCells used es as' → (answers : List ℤ)
      → reads_of_all frame es as' cells answers ≡ reads_of_all frame es as' others answers
  all_reads_same es [] o answers = refl
  all_reads_same es (a ∷ as') o answers =
      both_same _ _ _ _ _ _ (reads_same (term es a) o.0 answers)
      (ask_same used cells others same (term es a) o.0 answers) (λ v left. all_reads_same es as' o.1 left)

  stored_reads_same : (i e : Term) (base len : ℕ) (answers : List ℤ) → IsOverCells used i → IsOverCells used e
      → reads_of_stored frame i e base len cells answers ≡ reads_of_stored frame i e base len others answers
  stored_reads_same i e base len answers oi oe =
      place_same _ _ i base len answers _ _ (reads_same i oi answers)
      (ask_same used cells others same i oi answers)
      (λ at left. once_same (lift left (element base len at)) _ _ (λ c left. reads_same e oe left))

  pub kind_reads_same : (es : List Expr) (k : Kind) → IsKindOver used es k → (answers : List ℤ)
      → reads_of_kind frame es k cells answers ≡ reads_of_kind frame es k others answers
  kind_reads_same es (Set (target.Local c) e) o answers = reads_same (term es e) o answers
  kind_reads_same es (Set (target.LocalAt base len i) e) o answers =
      stored_reads_same (term es i) (term es e) base len answers o.0 o.1
  kind_reads_same es (Set (target.Shared c) e) o answers = reads_same (term es e) o answers
  kind_reads_same es (Set (target.SharedAt base len i) e) o answers =
      stored_reads_same (term es i) (term es e) base len answers o.0 o.1
  kind_reads_same es (If e first second) o answers = reads_same (term es e) o answers
  kind_reads_same es (While e body) o answers = reads_same (term es e) o answers
  kind_reads_same es (Call f arguments into) o answers = all_reads_same es arguments o answers
  kind_reads_same es (Return (Some e)) o answers = reads_same (term es e) o answers
  kind_reads_same es (Send c e) o answers = reads_same (term es e) o answers
  kind_reads_same es (Print e) o answers = reads_same (term es e) o answers
  kind_reads_same es (Assert e) o answers = reads_same (term es e) o answers
  kind_reads_same es (Zero base len) o answers = refl
  kind_reads_same es (Return None) o answers = refl
  kind_reads_same es (P s) o answers = refl
  kind_reads_same es (V s) o answers = refl
  kind_reads_same es (Recv c into) o answers = refl
  kind_reads_same es End o answers = refl

-- ---- the frame of an event

-- what is to do in the top frame, where a body ends within
abbrev pub top_of_list : Program → List Todo → List Todo
top_of_list program ts = take_while (λ t. negated (ends_body (kind_of program t.stmt))) ts

-- std's take_while is a `take` of a count: one step of it
pub taken : (b : Bool) (n : ℕ) (t : Todo) (ts : List Todo)
    → take (cond b (1 + n) 0) (t ∷ ts) ≡ cond b (t ∷ take n ts) []
taken true n t ts = let one : 1 + n ≡ suc n = omega arith in ap (λ m. take m (t ∷ ts)) one
taken false n t ts = refl

pub top_same : (program : Program) (ts outside : List Todo) → HasEnd program ts
    → top_of_list program (ts ++ outside) ≡ top_of_list program ts
top_same program [] outside h = absurd h
top_same program (t ∷ ts) outside (inl e) = rw e refl
top_same program (t ∷ ts) outside (inr h) =
    taken (negated (ends_body (kind_of program t.stmt))) _ t (ts ++ outside)
    ∙ ap (λ ys. cond (negated (ends_body (kind_of program t.stmt))) (t ∷ ys) []) (top_same program ts outside h)
    ∙ sym (taken (negated (ends_body (kind_of program t.stmt))) _ t ts)

abbrev pub numbered : Bool → ℕ
numbered b = if b then 0 else 1

-- in a frame that the interval called
pub called_frame : (program : Program) (plan : Plan) (s r : Proc) (outside : List Todo)
    → s.todo ≡ r.todo ++ outside → (top_frame s.frames).body ≡ (top_frame r.frames).body → HasEnd program r.todo
    → frame_of program plan s ≡ frame_of program plan r
called_frame program plan s r outside e body h =
    let tops : top_of_list program s.todo ≡ top_of_list program r.todo =
    ap (λ ys. top_of_list program ys) e ∙ top_same program r.todo outside h in
    ap (λ ys. numbered (list_any (λ t. t.entered) ys || is_block plan (top_frame s.frames).body)) tops
    ∙ ap (λ b. numbered (list_any (λ t. t.entered) (top_of_list program r.todo) || is_block plan b)) body
