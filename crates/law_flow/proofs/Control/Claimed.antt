-- What is claimed of each part of an interval, and where a step adds a part.
use Rattle.law_steps.specs.Policies.{setting_by}
use Rattle.ppd_model.specs.Setting.{setting_of}
use Rattle.std.proofs.Common.{◌≡◌, ℕ, ◌-◌, Bool, true, false, List, [], ◌∷◌, Option, Some, None, refl, ap, sym, ◌∙◌, append-nil, true≢false}
use Rattle.std.specs.Option.{option_map_or}
use Rattle.std.specs.Prelude.{slice_get}
use Rattle.ppd_ast.specs.Valid.{IsValid}
use Rattle.ppd_ast.specs.declared.plan.BlockKind.{BlockKind}
use Rattle.ppd_ast.specs.declared.plan.BlockKind.TheVariants as block
use Rattle.ppd_ast.specs.declared.plan.Plan.{Plan}
use Rattle.ppd_ast.specs.declared.plan.Policy.{Policy}
use Rattle.ppd_ast.specs.declared.program.Program.{Program}
use Rattle.ppd_ast.specs.declared.status.Status.{Status}
use Rattle.ppd_blocks.specs.Blocks.{plan_of}
use Rattle.ppd_sem.specs.Blocks.{block_kind}
use Rattle.ppd_sem.specs.Process.{need_of}
use Rattle.ppd_sem.specs.declared.proc.Need.TheVariants as need
use Rattle.ppd_sem.specs.declared.proc.Todo.{Todo}
use Rattle.ppd_sem.proofs.Progress.{need_at_status, need_at_todo}
use Rattle.ppd_model.specs.declared.flow.Origin.TheVariants as origin
use Rattle.ppd_model.specs.declared.trace.EventId.{EventId}
use Rattle.ppd_model.specs.declared.trace.TracedEvent.{TracedEvent}
use Rattle.ppd_model.specs.declared.tracing.Story.{Story}
use Rattle.ppd_model.specs.FlowbackEdges.{part_at}
use Rattle.ppd_model.specs.Intervals.{Part, own, nested, Span, Split, splits, ref}
use Rattle.ppd_model.specs.NearIntervals.{is_loop}
use Rattle.ppd_model.specs.Story.{story}
use Rattle.ppd_model.proofs.Changes.{some}
use Rattle.ppd_graph.specs.Control.{control_origin}
use Rattle.ppd_graph.specs.Seen.{seen_of}
use Rattle.law_flow.specs.Places.Levels.{StandsIn, Level as Place}
use Rattle.law_flow.proofs.Control.IntervalParts.{parts_in}

module _ (program : Program) (policy : Policy) (budget : ℕ) (h : List ℕ) (p : ℕ) (y : Split) (v : IsValid program)
    (at : slice_get (splits (setting_by program policy budget) (story (setting_by program policy budget) h))
    p ≡ Some y) where
  abbrev plan : Plan
  plan = plan_of program policy

  abbrev s : Story
  s = story (setting_of program plan budget) h

  abbrev xs : List Split
  xs = splits (setting_of program plan budget) s

  abbrev pub Found : ℕ → ℕ → ℕ → Option EventId → Type 0
  Found k j st parent = (control_origin program plan (seen_of y) p k j st).found ≡ option_map_or (ref xs) parent origin.Entry

  -- ---- what is claimed of a part

  abbrev pub Claim : ℕ → ℕ → Part → Type 0
  Claim k j (own n) = (e : TracedEvent) → slice_get y.trace.events n ≡ Some e → Found k j e.event.stmt e.parent
  Claim k j (nested m) =
      (i : Span) → slice_get y.spans m ≡ Some i
      → ((l : ℕ) → block_kind plan i.block ≡ block.Loop l → Found k j l i.control)
      × (is_loop (block_kind plan i.block) ≡ false → origin.Item p k (j - 1) ≡ option_map_or (ref xs) i.control origin.Entry)

  abbrev pub Claims : Split → Type 0
  Claims x = (k j : ℕ) (q : Part) → part_at x k j ≡ Some q → Claim k j q

  -- ---- a step that needs something

  pub record HasHead (x : Split) : Type 0 where
    pub running : x.trace.proc.status ≡ None
    pub todo : Todo
    pub rest : List Todo
    pub todo_is : x.trace.proc.todo ≡ todo ∷ rest

  pub has_head : (x : Split) → (need_of program plan x.trace.proc ≡ need.Stopped → ⊥) → HasHead x
  has_head x goes = by x.trace.proc.status refl x.trace.proc.todo refl
    where
      by : (o : Option Status) → x.trace.proc.status ≡ o → (todo : List Todo) → x.trace.proc.todo ≡ todo → HasHead x
      by (Some st) e todo is = absurd (goes (need_at_status program plan x.trace.proc (Some st) e))
      by None e [] is = absurd (goes (need_at_todo program plan x.trace.proc [] e is))
      by None e (t ∷ ts) is = record { running = e; todo = t; rest = ts; todo_is = is }

  -- the first running interval
  pub record IsFirst (x : Split) (ls : List Place) (k : ℕ) (parts : List Part) : Type 0 where
    pub level : Place
    pub outside : List Place
    pub levels_are : ls ≡ level ∷ outside
    pub number_is : k ≡ level.interval
    pub parts_same : parts ≡ level.parts

  pub first_of : (x : Split) (ls : List Place) (k : ℕ) (rest : List ℕ) (parts : List Part) → StandsIn x ls
      → x.running ≡ k ∷ rest → parts_in x.spans k ≡ Some parts → IsFirst x ls k parts
  first_of x [] k rest parts st run at' = absurd (cons_nil k rest (sym run ∙ st.running))
    where
      filled : List ℕ → Bool
      filled [] = false
      filled (a ∷ as') = true

      cons_nil : (k : ℕ) (ks : List ℕ) → k ∷ ks ≡ [] → ⊥
      cons_nil k ks e = true≢false (ap filled e)
  first_of x (l ∷ ls) k rest parts st run at' =
      let number : k ≡ l.interval = ap heads (sym run ∙ st.running) in
      record {
        level = l;
        outside = ls;
        levels_are = refl;
        number_is = number;
        parts_same = some (sym at' ∙ ap (parts_in x.spans) number ∙ ap (parts_of) st.levels.0.there)
            ∙ st.levels.0.parts_are ∙ append-nil l.parts;
      }
    where
      heads : List ℕ → ℕ
      heads [] = 0
      heads (a ∷ as') = a

      parts_of : Option Span → Option (List Part)
      parts_of None = None
      parts_of (Some i) = Some i.parts

  abbrev pub loop_number : BlockKind → ℕ
  loop_number (block.Loop l) = l
  loop_number k = 0
