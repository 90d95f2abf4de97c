-- Intervals are a tree: each stands at one place of the interval that is the innermost round it.
use Rattle.ppd_model.specs.Setting.{setting_of}
use Rattle.std.proofs.Common.{◌≡◌, ℕ, zero, suc, ◌+◌, ◌<◌, Bool, true, false, List, [], ◌∷◌, ◌++◌, Option, Some, None, refl, ap, ap₂, sym, subst, ◌∙◌, arith, length, true≢false, inl, inr, ◌⊎◌, if◌then◌else◌}
use Rattle.std.specs.Prelude.{⊤, drop, fold, option_map, slice_get}
use Rattle.std.proofs.lemmas.Bool.{cases_eq}
use Rattle.std.proofs.lemmas.Option.{none-some}
use Rattle.ppd_ast.specs.declared.plan.Plan.{Plan}
use Rattle.ppd_ast.specs.declared.program.Program.{Program}
use Rattle.ppd_ast.proofs.ValidLaws.{slice_get_below}
use Rattle.ppd_sem.specs.Described.{frame_of, is_event}
use Rattle.ppd_sem.specs.Process.{started}
use Rattle.ppd_sem.specs.declared.proc.Need.{Need}
use Rattle.ppd_sem.specs.declared.proc.Need.TheVariants as n
use Rattle.ppd_model.specs.declared.trace.EventId.{EventId}
use Rattle.ppd_model.specs.declared.tracing.Story.{Story}
use Rattle.ppd_model.specs.declared.tracing.Taken.{Taken}
use Rattle.ppd_model.specs.FullTrace.{Tag, me_in, top_tags}
use Rattle.ppd_model.specs.Intervals.{Part, own, nested, Span, Split, begun_split, change_first, control_by, innermost, left_by, split_of, split_step, with_own, with_part, with_step}
use Rattle.ppd_model.proofs.IntervalWords.{begin_if, end_if}
use Rattle.ppd_model.specs.Marks.{Mark, closed, opened}
use Rattle.ppd_model.specs.World.{change}
use Rattle.ppd_model.proofs.Changes.{change-at, change-else, length-change, some}
use Rattle.ppd_model.proofs.CountedOn.{kept_at, last_at, cases_at}

-- each of these is there, and those after it are round it
abbrev pub AreRound : List Span → List ℕ → Type 0
AreRound spans [] = ⊤
AreRound spans (m ∷ ms) = (i : Span) × (slice_get spans m ≡ Some i) × (i.round ≡ ms) × AreRound spans ms

-- interval k, with what is round it, is what stands round interval m
pub record IsParent (spans : List Span) (k m : ℕ) (round : List ℕ) : Type 0 where
  pub span : Span
  pub is_there : slice_get spans m ≡ Some span
  pub round_is : span.round ≡ k ∷ round
  pub below : k < m

pub record IsTree (spans : List Span) (running : List ℕ) : Type 0 where
  pub chain : AreRound spans running
  pub parent : (k j m : ℕ) (i : Span) → slice_get spans k ≡ Some i → slice_get i.parts j ≡ Some (nested m) → IsParent spans k m i.round
  pub once : (k j j' m : ℕ) (i : Span) → slice_get spans k ≡ Some i → slice_get i.parts j ≡ Some (nested m) → slice_get i.parts j' ≡ Some (nested m) → j ≡ j'

-- ---- changes

-- the same intervals have the same round them
abbrev KeepsRound : List Span → List Span → Type 0
KeepsRound spans after = (k : ℕ) (i : Span) → slice_get spans k ≡ Some i → (j : Span) × (slice_get after k ≡ Some j) × (j.round ≡ i.round)

chain_on : (spans after : List Span) → KeepsRound spans after → (ms : List ℕ) → AreRound spans ms → AreRound after ms
chain_on spans after keeps [] c = tt
chain_on spans after keeps (m ∷ ms) c = let g = keeps m c.0 c.1 in (g.0, g.1, g.2 ∙ c.2, chain_on spans after keeps ms c.3)

parent_on : (spans after : List Span) → KeepsRound spans after → (k m : ℕ) (round : List ℕ) → IsParent spans k m round → IsParent after k m round
parent_on spans after keeps k m round p = let g = keeps m p.span p.is_there in record { span = g.0; is_there = g.1; round_is = g.2 ∙ p.round_is; below = p.below }

changed : (f : Span → Span) (m : ℕ) (spans : List Span) (k : ℕ) (j : Span) → slice_get (change f m spans) k ≡ Some j → (i : Span) × (slice_get spans k ≡ Some i) × (((k ≡ m) × (j ≡ f i)) ⊎ (j ≡ i))
changed f m spans k j e = elim (cases_eq k m) [
  | inl same ↦ by (slice_get spans k) refl same
  | inr other ↦ (j, sym (change-else f m k spans other) ∙ e, inr refl)
]
  where
    by : (o : Option Span) → slice_get spans k ≡ o → k ≡ m → (i : Span) × (slice_get spans k ≡ Some i) × (((k ≡ m) × (j ≡ f i)) ⊎ (j ≡ i))
    by None g same = absurd (none-some j (sym (ap (λ z. slice_get (change f m spans) z) same ∙ change-at f m spans ∙ ap (option_map f) (ap (λ z. slice_get spans z) (sym same) ∙ g)) ∙ e))
    by (Some i) g same = (i, g, inl (same, some (sym e ∙ ap (λ z. slice_get (change f m spans) z) same ∙ change-at f m spans ∙ ap (option_map f) (ap (λ z. slice_get spans z) (sym same) ∙ g))))

module _ (f : Span → Span) (rounds : (i : Span) → (f i).round ≡ i.round) where
  keeps_change : (m : ℕ) (spans : List Span) → KeepsRound spans (change f m spans)
  keeps_change m spans k i e = elim (cases_eq k m) [
    | inl same ↦ (f i, ap (λ z. slice_get (change f m spans) z) same ∙ change-at f m spans ∙ ap (option_map f) (ap (λ z. slice_get spans z) (sym same) ∙ e), rounds i)
    | inr other ↦ (i, change-else f m k spans other ∙ e, refl)
  ]

  -- a change by which no interval comes to stand in it
  module _ (parts : (i : Span) (j m : ℕ) → slice_get (f i).parts j ≡ Some (nested m) → slice_get i.parts j ≡ Some (nested m)) where
    tree_change : (k : ℕ) (spans : List Span) (running : List ℕ) → IsTree spans running → IsTree (change f k spans) running
    tree_change k spans running h = record {
      chain = chain_on spans (change f k spans) (keeps_change k spans) running h.chain;
      parent = λ l j m i e g.
          let c = changed f k spans l i e in
          elim c.2 [
            | inl new ↦ subst (λ r. IsParent (change f k spans) l m r) (sym (ap (λ (z : Span). z.round) new.1 ∙ rounds c.0))
                (parent_on spans (change f k spans) (keeps_change k spans) l m c.0.round (h.parent l j m c.0 c.1 (parts c.0 j m (ap (λ (z : Span). slice_get z.parts j) (sym new.1) ∙ g))))
            | inr old ↦ subst (λ (z : Span). IsParent (change f k spans) l m z.round) (sym old)
                (parent_on spans (change f k spans) (keeps_change k spans) l m c.0.round (h.parent l j m c.0 c.1 (ap (λ (z : Span). slice_get z.parts j) (sym old) ∙ g)))
          ];
      once = λ l j j' m i e g g'.
          let c = changed f k spans l i e in
          elim c.2 [
            | inl new ↦ h.once l j j' m c.0 c.1 (parts c.0 j m (ap (λ (z : Span). slice_get z.parts j) (sym new.1) ∙ g)) (parts c.0 j' m (ap (λ (z : Span). slice_get z.parts j') (sym new.1) ∙ g'))
            | inr old ↦ h.once l j j' m c.0 c.1 (ap (λ (z : Span). slice_get z.parts j) (sym old) ∙ g) (ap (λ (z : Span). slice_get z.parts j') (sym old) ∙ g')
          ];
    }

    tree_first : (ks : List ℕ) (spans : List Span) (running : List ℕ) → IsTree spans running → IsTree (change_first f ks spans) running
    tree_first [] spans running h = h
    tree_first (k ∷ ks) spans running h = tree_change k spans running h

-- ---- an interval that begins

abbrev number_of : Part → ℕ
number_of (own m) = 0
number_of (nested m) = m

abbrev is_nested : Part → Bool
is_nested (own m) = false
is_nested (nested m) = true

module _ (spans : List Span) (m : ℕ) (rest : List ℕ) (new : Span) (round : new.round ≡ m ∷ rest) (parts : new.parts ≡ []) (h : IsTree spans (m ∷ rest)) where
  abbrev f : Span → Span
  f = with_part (nested (length spans))

  abbrev after : List Span
  after = change (with_part (nested (length spans))) m spans ++ new ∷ []

  keeps : KeepsRound spans (change (with_part (nested (length spans))) m spans ++ new ∷ [])
  keeps k i e = let g = keeps_change f (λ j. refl) m spans k i e in (g.0, kept_at (change f m spans) (new ∷ []) k g.0 g.1, g.2)

  at_new : slice_get (change (with_part (nested (length spans))) m spans ++ new ∷ []) (length spans) ≡ Some new
  at_new = subst (λ k. slice_get (change f m spans ++ new ∷ []) k ≡ Some new) (length-change f m spans) (last_at (change f m spans) new)

  no_part : (j l : ℕ) → slice_get new.parts j ≡ Some (nested l) → ⊥
  no_part j l e = none-some (nested l) (sym (ap (λ ps. slice_get ps j) parts) ∙ e)

  head_round : (i : Span) → slice_get spans m ≡ Some i → i.round ≡ rest
  head_round i e = ap (λ (z : Span). z.round) (some (sym e ∙ h.chain.1)) ∙ h.chain.2

  not_new : (k j l : ℕ) (i : Span) → slice_get spans k ≡ Some i → slice_get i.parts j ≡ Some (nested l) → l ≡ length spans → ⊥
  not_new k j l i e g same = let p = h.parent k j l i e g in let lt : l < length spans = slice_get_below spans l p.span p.is_there in omega (arith, lt, same)

  parent_new : (k j l : ℕ) (i : Span) → slice_get (change (with_part (nested (length spans))) m spans ++ new ∷ []) k ≡ Some i → slice_get i.parts j ≡ Some (nested l) → IsParent (change (with_part (nested (length spans))) m spans ++ new ∷ []) k l i.round
  parent_new k j l i e g = elim (cases_at (change f m spans) new k i e) [
    | inr is ↦ absurd (no_part j l (ap (λ (z : Span). slice_get z.parts j) is.1 ∙ g))
    | inl e' ↦
        let c = changed f m spans k i e' in
        elim c.2 [
          | inr old ↦ subst (λ (z : Span). IsParent after k l z.round) (sym old) (parent_on spans after keeps k l c.0.round (h.parent k j l c.0 c.1 (ap (λ (z : Span). slice_get z.parts j) (sym old) ∙ g)))
          | inl is ↦ subst (λ (z : Span). IsParent after k l z.round) (sym is.1)
              (elim (cases_at c.0.parts (nested (length spans)) j (nested l) (ap (λ (z : Span). slice_get z.parts j) (sym is.1) ∙ g)) [
                | inl old ↦ parent_on spans after keeps k l c.0.round (h.parent k j l c.0 c.1 old)
                | inr last ↦
                    let number : length spans ≡ l = ap number_of last.1 in
                    let lt : k < length spans = slice_get_below spans k c.0 c.1 in
                    record {
                      span = new;
                      is_there = subst (λ z. slice_get after z ≡ Some new) number at_new;
                      round_is = round ∙ ap₂ (λ a b. a ∷ b) (sym is.0) (sym (head_round c.0 (ap (λ z. slice_get spans z) (sym is.0) ∙ c.1)));
                      below = omega (arith, lt, number);
                    }
              ])
        ]
  ]

  once_new : (k j j' l : ℕ) (i : Span) → slice_get (change (with_part (nested (length spans))) m spans ++ new ∷ []) k ≡ Some i → slice_get i.parts j ≡ Some (nested l) → slice_get i.parts j' ≡ Some (nested l) → j ≡ j'
  once_new k j j' l i e g g' = elim (cases_at (change f m spans) new k i e) [
    | inr is ↦ absurd (no_part j l (ap (λ (z : Span). slice_get z.parts j) is.1 ∙ g))
    | inl e' ↦
        let c = changed f m spans k i e' in
        elim c.2 [
          | inr old ↦ h.once k j j' l c.0 c.1 (ap (λ (z : Span). slice_get z.parts j) (sym old) ∙ g) (ap (λ (z : Span). slice_get z.parts j') (sym old) ∙ g')
          | inl is ↦ elim (cases_at c.0.parts (nested (length spans)) j (nested l) (ap (λ (z : Span). slice_get z.parts j) (sym is.1) ∙ g)) [
            | inl a ↦ elim (cases_at c.0.parts (nested (length spans)) j' (nested l) (ap (λ (z : Span). slice_get z.parts j') (sym is.1) ∙ g')) [
              | inl b ↦ h.once k j j' l c.0 c.1 a b
              | inr b ↦ absurd (not_new k j l c.0 c.1 a (sym (ap number_of b.1)))
            ]
            | inr a ↦ elim (cases_at c.0.parts (nested (length spans)) j' (nested l) (ap (λ (z : Span). slice_get z.parts j') (sym is.1) ∙ g')) [
              | inl b ↦ absurd (not_new k j' l c.0 c.1 b (sym (ap number_of a.1)))
              | inr b ↦ a.0 ∙ sym b.0
            ]
          ]
        ]
  ]

  begin_tree : IsTree (change (with_part (nested (length spans))) m spans ++ new ∷ []) (length spans ∷ m ∷ rest)
  begin_tree = record { chain = (new, at_new, round, chain_on spans after keeps (m ∷ rest) h.chain); parent = parent_new; once = once_new }

-- an interval that begins where none runs
module _ (spans : List Span) (new : Span) (round : new.round ≡ []) (parts : new.parts ≡ []) (h : IsTree spans []) where
  keeps_more : KeepsRound spans (spans ++ new ∷ [])
  keeps_more k i e = (i, kept_at spans (new ∷ []) k i e, refl)

  first_tree : IsTree (spans ++ new ∷ []) (length spans ∷ [])
  first_tree = record {
    chain = (new, last_at spans new, round, tt);
    parent = λ k j l i e g. elim (cases_at spans new k i e) [
      | inr is ↦ absurd (none-some (nested l) (sym (ap (λ ps. slice_get ps j) parts) ∙ ap (λ (z : Span). slice_get z.parts j) is.1 ∙ g))
      | inl old ↦ parent_on spans (spans ++ new ∷ []) keeps_more k l i.round (h.parent k j l i old g)
    ];
    once = λ k j j' l i e g g'. elim (cases_at spans new k i e) [
      | inr is ↦ absurd (none-some (nested l) (sym (ap (λ ps. slice_get ps j) parts) ∙ ap (λ (z : Span). slice_get z.parts j) is.1 ∙ g))
      | inl old ↦ h.once k j j' l i old g g'
    ];
  }

-- ---- one step

abbrev pub HasTree : Split → Type 0
HasTree x = IsTree x.spans x.running

begin_if_tree : (o : Option Mark) (frame : ℕ) (control : Option EventId) (x : Split) → HasTree x → HasTree (begin_if o frame control x)
begin_if_tree None frame control x h = h
begin_if_tree (Some k) frame control x h = by x.running refl
  where
    new : Span
    new = record { block = k.block; round = x.running; frame = frame; control = control; parts = []; steps = 0; opened = length x.edges; closed = None; values = []; left = [] }

    by : (ks : List ℕ) → x.running ≡ ks → HasTree (begin_if (Some k) frame control x)
    by [] e =
        subst (λ ks. IsTree (change_first (with_part (nested (length x.spans))) ks x.spans ++ new ∷ []) (length x.spans ∷ ks)) (sym e)
        (first_tree x.spans new e refl (subst (λ ks. IsTree x.spans ks) e h))
    by (m ∷ rest) e =
        subst (λ ks. IsTree (change_first (with_part (nested (length x.spans))) ks x.spans ++ new ∷ []) (length x.spans ∷ ks)) (sym e)
        (begin_tree x.spans m rest new e refl (subst (λ ks. IsTree x.spans ks) e h))

rest_chain : (spans : List Span) (ks : List ℕ) → AreRound spans ks → AreRound spans (drop 1 ks)
rest_chain spans [] c = c
rest_chain spans (k ∷ ks) c = c.3

end_if_tree : (o : Option Mark) (tags : List Tag) (x : Split) → HasTree x → HasTree (end_if o tags x)
end_if_tree None tags x h = h
end_if_tree (Some k) tags x h =
    let t = tree_first (λ i. record i { closed = Some (length x.edges); values = k.values; left = tags }) (λ i. refl) (λ i j m e. e) x.running x.spans x.running h in
    record { chain = rest_chain _ x.running t.chain; parent = t.parent; once = t.once }

step_tree : (need : Need) (x : Split) → HasTree x → HasTree (with_step need x)
step_tree n.Budget x h = h
step_tree n.Stopped x h = h
step_tree need x h = tree_first (λ i. record i { steps = i.steps + 1 }) (λ i. refl) (λ i j m e. e) x.running x.spans x.running h

own_tree : (need : Need) (x : Split) → HasTree x → HasTree (with_own need x)
own_tree need x h = by (is_event need)
  where
    no_interval : (i : Span) (j m : ℕ) → slice_get (i.parts ++ own (length x.trace.events) ∷ []) j ≡ Some (nested m) → slice_get i.parts j ≡ Some (nested m)
    no_interval i j m e = elim (cases_at i.parts (own (length x.trace.events)) j (nested m) e) [
      | inl old ↦ old
      | inr last ↦ absurd (true≢false (sym (ap is_nested last.1)))
    ]

    by : (b : Bool) → HasTree (if b then innermost (with_part (own (length x.trace.events))) x else x)
    by true = tree_first (with_part (own (length x.trace.events))) (λ i. refl) no_interval x.running x.spans x.running h
    by false = h

module _ (program : Program) (plan : Plan) (story' : Story) (p : ℕ) where
  one_step : (x : Split) (t : Taken) → HasTree x → HasTree (split_step program plan story' p x t)
  one_step x t h =
      let y : Split = with_own t.need (with_step t.need x) in
      begin_if_tree (opened program plan y.trace.proc t.need) (frame_of program plan y.trace.proc) (control_by program p y.trace t.need)
      (end_if (closed program plan y.trace.proc t.need) (left_by plan (me_in p y.trace) (top_tags y.trace.activations) t.need) y)
      (end_if_tree (closed program plan y.trace.proc t.need) (left_by plan (me_in p y.trace) (top_tags y.trace.activations) t.need) y
      (own_tree t.need (with_step t.need x) (step_tree t.need x h)))

  all_steps : (x : Split) (ts : List Taken) → HasTree x → HasTree (fold (split_step program plan story' p) x ts)
  all_steps x [] h = h
  all_steps x (t ∷ ts) h = all_steps (split_step program plan story' p x t) ts (one_step x t h)

  pub has_tree : (budget : ℕ) (ts : List Taken) → HasTree (split_of (setting_of program plan budget) story' p ts)
  has_tree budget ts = all_steps (begun_split program plan p (started program plan p budget)) ts (record {
    chain = (_, refl, refl, tt);
    parent = λ k j m i e g. absurd (none k j m i e g);
    once = λ k j j' m i e g g'. absurd (none k j m i e g);
  })
    where
      none : (k j m : ℕ) (i : Span) → slice_get (begun_split program plan p (started program plan p budget)).spans k ≡ Some i → slice_get i.parts j ≡ Some (nested m) → ⊥
      none zero j m i e g = none-some (nested m) (ap (λ (z : Span). slice_get z.parts j) (some e) ∙ g)
      none (suc k) j m i e g = none-some i e
