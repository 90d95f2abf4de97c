-- At each moment the search over the running intervals finds the parent that the trace has for the head.
use Rattle.std.proofs.Common.{◌≡◌, ℕ, suc, Bool, true, false, List, [], ◌∷◌, ◌++◌, Option, None, refl, ap, sym, subst, ◌∙◌, arith, true≢false}
use Rattle.std.specs.Prelude.{drop}
use Rattle.ppd_ast.specs.Valid.{IsValid}
use Rattle.ppd_ast.specs.declared.plan.Policy.{Policy}
use Rattle.ppd_ast.specs.declared.program.Program.{Program}
use Rattle.ppd_blocks.specs.Blocks.{plan_of}
use Rattle.ppd_sem.specs.declared.proc.Todo.{Todo}
use Rattle.ppd_model.specs.declared.trace.EventId.{EventId}
use Rattle.ppd_model.proofs.TestSteps.{View}
use Rattle.law_flow.proofs.Control.Sights.{leaf_over}
use Rattle.law_flow.proofs.Control.Levels.{AllHold, Fact, Holds, Knows, Level, OverNext, Sort, TopLeaf, frame_of, function, leaf, loop, process, runs_of, runs_with, todo_of, views_of}
use Rattle.law_flow.proofs.Control.Sides.{Answer, above_over, begun_by, control_over, parent_of}
use Rattle.law_flow.proofs.Control.Queries.{plain_query, leaf_at}
use Rattle.law_flow.proofs.Control.PlainAnswers.{plain_answer}
use Rattle.law_flow.proofs.Control.LoopAnswers.{inside_answer, end_answer}

module _ (program : Program) (policy : Policy) (p : ℕ) (v : IsValid program) where
  -- ---- any level

  abbrev pub top_parent : ℕ → List View → Option EventId
  top_parent s [] = None
  top_parent s (w ∷ ws) = parent_of program s w

  abbrev pub Answered : List Level → ℕ → Type 0
  Answered levels s = Answer program policy p (runs_of levels) (control_over program policy p (runs_of levels) s)
      (top_parent s (views_of levels))

  -- a statement of a level that is no loop's, or a return
  plain_top : (x : Level) (ys : List Level) → Holds program policy p x ys
      → (frame_of x.sort ≡ 0 → leaf_over program (plan_of program policy) x.run.sight ≡ None) → (s : ℕ) → (sort : Sort)
      → sort ≡ x.sort → ((m : ℕ) → sort ≡ loop m → ⊥)
      → Knows program policy p sort x.body x.run.sight x.view x.todo
      → Fact program policy p sort x.body x.run.sight x.view s → OverNext program policy p sort x ys
      → (frame_of sort ≡ 0 → leaf_over program (plan_of program policy) x.run.sight ≡ None)
      → Answer program policy p (runs_with sort x.run (runs_of ys))
      (control_over program policy p (runs_with sort x.run (runs_of ys)) s) (parent_of program s x.view)
  plain_top x ys h top s process e none k f o t =
      plain_answer program policy p v x x.run.sight s (λ j q at. at) process ys (x.run ∷ runs_of ys) 0 refl none o
      (λ z q j at. (suc j, at)) (plain_query program policy p v process x s e none k f)
      (leaf_at program policy p v x process ys o t) (runs_of ys)
      (λ z. refl)
      (above_over program policy p x.run (runs_of ys) x.run.kind)
      (λ z. subst (λ kind. above_over program policy p x.run (runs_of ys) kind ≡ begun_by program policy p x.run
      (runs_of ys) kind) (sym o.1) refl)
  plain_top x [] h top s function e none k f o t = absurd o
  plain_top x (y ∷ ys) h top s function e none k f o t =
      plain_answer program policy p v x x.run.sight s (λ j q at. at) function (y ∷ ys)
      (x.run ∷ runs_of (y ∷ ys)) 0 refl none o
      (λ z q j at. (suc j, at)) (plain_query program policy p v function x s e none k f)
      (leaf_at program policy p v x function (y ∷ ys) o t)
      (runs_of (y ∷ ys)) (λ z. refl)
      (above_over program policy p x.run (runs_of (y ∷ ys)) x.run.kind)
      (λ z. subst (λ kind. above_over program policy p x.run
      (runs_of (y ∷ ys)) kind ≡ begun_by program policy p x.run (runs_of (y ∷ ys)) kind) (sym o.kind_is) refl)
  plain_top x ys h top s leaf e none k f o t =
      plain_answer program policy p v x x.run.sight s (λ j q at. at) leaf ys
      (x.run ∷ drop 1 (runs_of ys)) 0 refl none o
      (λ z q j at. absurd (omega (arith, z))) (plain_query program policy p v leaf x s e none k f)
      (leaf_at program policy p v x leaf ys o t)
      (drop 1 (runs_of ys)) (λ z. absurd (omega (arith, z)))
      (above_over program policy p x.run (drop 1 (runs_of ys)) x.run.kind) (λ z. absurd (omega (arith, z)))
  plain_top x ys h top s (loop l) e none k f o t = absurd (none l refl)

  abbrev loop_if : Sort → Bool
  loop_if (loop l) = true
  loop_if s = false

  -- the views of a level that is no loop's
  abbrev At : Level → List Level → Sort → List Todo → List Todo → Level
  At x ys sort todo last = record x { sort = sort; todo = todo; last = last }

  abbrev AnsweredAt : Level → List Level → Sort → List Todo → List Todo → ℕ → Type 0
  AnsweredAt x ys sort todo last s = Holds program policy p (At x ys sort todo last) ys → AllHold program policy p ys
      → (frame_of sort ≡ 0 → leaf_over program (plan_of program policy) x.run.sight ≡ None)
      → Answered (At x ys sort todo last ∷ ys) s

  fact_answer : (x : Level) (ys : List Level) (sort : Sort) (todo last : List Todo) (s : ℕ)
      → Fact program policy p sort x.body x.run.sight x.view s → AnsweredAt x ys sort todo last s
  fact_answer x ys process todo last s f h hs top = plain_top (At x ys process todo last) ys h top s process refl
      (λ m e. true≢false (sym (ap loop_if e))) h.knows f h.over top
  fact_answer x ys function todo last s f h hs top = plain_top (At x ys function todo last) ys h top s function refl
      (λ m e. true≢false (sym (ap loop_if e))) h.knows f h.over top
  fact_answer x ys leaf todo last s f h hs top = plain_top (At x ys leaf todo last) ys h top s leaf refl
      (λ m e. true≢false (sym (ap loop_if e))) h.knows f h.over top
  fact_answer x [] (loop l) todo last s f h hs top = absurd h.over
  fact_answer x (y ∷ ys) (loop l) todo last s f h hs top = inside_answer program policy p v
      (At x (y ∷ ys) (loop l) todo last) l y ys h.knows h.over hs.0 (top refl) s f

  abbrev heads : List Todo → ℕ
  heads [] = 0
  heads (t ∷ ts) = t.stmt

  ending_answer : (x : Level) (ys : List Level) (sort : Sort) (todo last : List Todo) (t : Todo) (ts : List Todo)
      → last ++ todo_of ys ≡ t ∷ ts → AnsweredAt x ys sort todo last t.stmt
  ending_answer x ys process todo last t ts e h hs top =
      absurd (empty_not t ts (ap (λ l. l ++ todo_of ys) (sym h.ends) ∙ e) (ap todo_of h.over.0))
    where
      empty_not : (t : Todo) (ts : List Todo) → todo_of ys ≡ t ∷ ts → todo_of ys ≡ [] → ⊥
      empty_not t ts a b = not_cons t ts (sym a ∙ b)
        where
          filled : List Todo → Bool
          filled [] = false
          filled (u ∷ us) = true

          not_cons : (t : Todo) (ts : List Todo) → t ∷ ts ≡ [] → ⊥
          not_cons t ts e = true≢false (ap filled e)
  ending_answer x ys function todo last t ts e h hs top =
      let same : h.ends.0.stmt ≡ t.stmt = ap heads (sym (ap (λ l. l ++ todo_of ys) h.ends.1) ∙ e) in
      fact_answer x ys function todo last t.stmt
      (subst (λ i. Fact program policy p function x.body x.run.sight x.view i) same h.ends.4) h hs top
  ending_answer x ys leaf todo last t ts e h hs top =
      let same : h.ends.0.stmt ≡ t.stmt = ap heads (sym (ap (λ l. l ++ todo_of ys) h.ends.1) ∙ e) in
      fact_answer x ys leaf todo last t.stmt
      (subst (λ i. Fact program policy p leaf x.body x.run.sight x.view i) same h.ends.4) h hs top
  ending_answer x [] (loop l) todo last t ts e h hs top = absurd h.over
  ending_answer x (y ∷ ys) (loop l) todo last t ts e h hs top =
      let same : h.ends.0.stmt ≡ t.stmt = ap heads (sym (ap (λ ls. ls ++ todo_of (y ∷ ys)) h.ends.1) ∙ e) in
      end_answer program policy p v (At x (y ∷ ys) (loop l) todo last) l y ys h.knows h.over hs.0 (top refl) t.stmt
      (sym same ∙ h.ends.2)

  by_todo : (x : Level) (ys : List Level) (sort : Sort) (todo last : List Todo) (t : Todo) (ts : List Todo)
      → todo ++ (last ++ todo_of ys) ≡ t ∷ ts → AnsweredAt x ys sort todo last t.stmt
  by_todo x ys sort [] last t ts e h hs top = ending_answer x ys sort [] last t ts e h hs top
  by_todo x ys sort (u ∷ us) last t ts e h hs top = fact_answer x ys sort (u ∷ us) last t.stmt
      (subst (λ i. Fact program policy p sort x.body x.run.sight x.view i) (ap heads e) h.facts.0.0) h hs top

  -- at each moment the parent of the head is found
  pub answers : (levels : List Level) → AllHold program policy p levels → TopLeaf program policy p levels
      → (t : Todo) (ts : List Todo) → todo_of levels ≡ t ∷ ts → Answered levels t.stmt
  answers [] hs top t ts e = refl
  answers (x ∷ xs) hs top t ts e = by_todo x xs x.sort x.todo x.last t ts e hs.0 hs.1 top
