-- What is open at levels, and which calls began their activations, where the first level has one part more.
use Rattle.std.proofs.Common.{◌≡◌, ℕ, ◌+◌, List, [], ◌∷◌, ◌++◌, Option, Some, None, refl, ap, sym, subst, ◌∙◌, arith, length, length-append, get_or}
use Rattle.std.proofs.lemmas.Option.{none-some}
use Rattle.std.specs.Prelude.{drop, slice_get, is_some}
use Rattle.ppd_ast.specs.declared.plan.BlockKind.{BlockKind}
use Rattle.ppd_ast.specs.declared.plan.Plan.{Plan}
use Rattle.ppd_ast.specs.declared.program.Program.{Program}
use Rattle.ppd_sem.specs.Blocks.{block_kind}
use Rattle.ppd_model.specs.declared.flow.Item.TheVariants as item
use Rattle.ppd_model.specs.declared.trace.TracedEvent.{TracedEvent}
use Rattle.ppd_model.specs.Intervals.{Part, own, nested, Span, Split}
use Rattle.ppd_model.proofs.Changes.{some}
use Rattle.ppd_model.proofs.CountedOn.{kept_at}
use Rattle.ppd_graph.specs.declared.leaf_call.LeafCall.{LeafCall}
use Rattle.ppd_graph.specs.Locals.{leaf_after, leaf_at}
use Rattle.law_flow.specs.Places.Levels.{Level}
use Rattle.law_flow.proofs.Vocabulary.Levels.{put}
use Rattle.law_flow.specs.Places.Leaves.{AreBegun, AreBegunBy, AreBegunIn, Begun, First, IsBegunAt, IsBegunOutside, items_so_far, leaf_of, of_leaf, open_at}
use Rattle.law_flow.proofs.Places.Scans.{items_more, leaf_nested, leaf_own, nested_item, own_item}

-- ---- lists

pub first_is : {A : Type 0} (x y : A) (xs ys : List A) → x ∷ xs ≡ y ∷ ys → x ≡ y
first_is x y xs ys e = ap (λ zs. get_or zs 0 x) e

pub rest_is : {A : Type 0} (x y : A) (xs ys : List A) → x ∷ xs ≡ y ∷ ys → xs ≡ ys
rest_is x y xs ys e = ap (λ zs. drop 1 zs) e

pub not_nil : {A : Type 0} (xs : List A) (y : A) → [] ≡ xs ++ y ∷ [] → ⊥
not_nil xs y e =
    let short : 0 ≡ length (xs ++ y ∷ []) = ap length e in
    let long : length (xs ++ y ∷ []) ≡ length xs + 1 = length-append xs (y ∷ []) in
    omega (arith, short, long)

no_block : (b : ℕ) → None ≡ Some b → ⊥
no_block b e = none-some b e

-- a block is the first that is open
pub first_block : (o : Option LeafCall) (c b : ℕ) (xs ys : List (Option ℕ))
    → of_leaf o ++ (Some c ∷ xs) ≡ Some b ∷ ys → (o ≡ None) × (c ≡ b) × (xs ≡ ys)
first_block None c b xs ys e = (refl, some (first_is (Some c) (Some b) xs ys e), rest_is (Some c) (Some b) xs ys e)
first_block (Some call) c b xs ys e = absurd (no_block b (first_is None (Some b) (Some c ∷ xs) ys e))

-- an activation without an interval is the first
pub first_leaf : (o : Option LeafCall) (c : ℕ) (xs ys : List (Option ℕ)) → of_leaf o ++ (Some c ∷ xs) ≡ None ∷ ys
    → (call : LeafCall) × (o ≡ Some call) × (Some c ∷ xs ≡ ys)
first_leaf None c xs ys e = absurd (no_block c (sym (first_is (Some c) None xs ys e)))
first_leaf (Some call) c xs ys e = (call, refl, rest_is None None (Some c ∷ xs) ys e)

-- ---- one part more

module _ (program : Program) (plan : Plan) (p : ℕ) (y : Split) where
  -- an event
  pub leaf_event : (n : ℕ) (l : Level) (e : TracedEvent) → slice_get y.trace.events n ≡ Some e
      → leaf_of program plan y (put (own n) l) ≡ leaf_after program plan (length (items_so_far y l)) e.event
      (leaf_of program plan y l)
  leaf_event n l e at =
      ap (leaf_at program plan) (items_more y l.parts (own n) (item.Own e.event) (own_item y n e at))
      ∙ leaf_own program plan (items_so_far y l) e.event

  -- an interval
  pub leaf_interval : (m : ℕ) (l : Level) (i : Span) → slice_get y.spans m ≡ Some i
      → leaf_of program plan y (put (nested m) l) ≡ leaf_of program plan y l
  leaf_interval m l i at =
      ap (leaf_at program plan) (items_more y l.parts (nested m) (item.Nested m i.block i.values (is_some i.closed))
      (nested_item y m i at)) ∙ leaf_nested program plan (items_so_far y l) m i.block i.values (is_some i.closed)

  pub open_put : (q : Part) (l : Level) (ls : List Level) (o : Option LeafCall) → leaf_of program plan y (put q l) ≡ o
      → open_at program plan y (put q l ∷ ls) ≡ of_leaf o ++ (Some l.block ∷ open_at program plan y ls)
  open_put q l ls o e = ap (λ lf. of_leaf lf ++ (Some l.block ∷ open_at program plan y ls)) e

  -- the activation's own calls, by the kind of the level's block
  abbrev pub Own : BlockKind → List Level → List Begun → Type 0
  Own k ls cs = AreBegunIn (IsBegunOutside program plan p y ls) (AreBegun program plan p y ls) (ls ≡ []) k cs

  begun_more : (ps : List Part) (q : Part) (o : Option LeafCall) (P : List Begun → Type 0) (cs : List Begun)
      → AreBegunBy p ps o P cs → AreBegunBy p (ps ++ q ∷ []) o P cs
  begun_more ps q None P cs h = h
  begun_more ps q (Some call) P [] h = absurd h
  begun_more ps q (Some call) P (c ∷ cs) h = (
    record {
      event = h.0.event;
      stmt_is = h.0.stmt_is;
      event_is = h.0.event_is;
      at =
          kept_at ps (q ∷ []) call.item (own h.0.event) h.0.at;
    },
    h.1,
  )

  -- where the same activation goes on
  pub begun_put : (q : Part) (l : Level) (ls : List Level) (cs : List Begun)
      → leaf_of program plan y (put q l) ≡ leaf_of program plan y l
      → AreBegun program plan p y (l ∷ ls) cs → AreBegun program plan p y (put q l ∷ ls) cs
  begun_put q l ls cs e h =
      subst (λ o. AreBegunBy p (l.parts ++ q ∷ []) o (Own (block_kind plan l.block) ls) cs) (sym e)
      (begun_more l.parts q (leaf_of program plan y l) (Own (block_kind plan l.block) ls) cs h)

  -- what a level without such an activation has
  pub begun_own : (l : Level) (ls : List Level) (cs : List Begun) (k : BlockKind) → leaf_of program plan y l ≡ None
      → block_kind plan l.block ≡ k
      → AreBegun program plan p y (l ∷ ls) cs → Own k ls cs
  begun_own l ls cs k none kind h =
      subst (λ x. Own x ls cs) kind (subst (λ o. AreBegunBy p l.parts o (Own (block_kind plan l.block) ls) cs) none h)

  -- and one with it
  pub begun_leaf : (l : Level) (ls : List Level) (cs : List Begun) (call : LeafCall)
      → leaf_of program plan y l ≡ Some call
      → AreBegun program plan p y (l ∷ ls) cs
      → First (IsBegunAt p l.parts call.item call.stmt) (Own (block_kind plan l.block) ls) cs
  begun_leaf l ls cs call some_call h =
      subst (λ o. AreBegunBy p l.parts o (Own (block_kind plan l.block) ls) cs) some_call h

  pub from_own : (l : Level) (ls : List Level) (cs : List Begun) (k : BlockKind) → leaf_of program plan y l ≡ None
      → block_kind plan l.block ≡ k
      → Own k ls cs → AreBegun program plan p y (l ∷ ls) cs
  from_own l ls cs k none kind h = subst (λ o. AreBegunBy p l.parts o (Own (block_kind plan l.block) ls) cs)
      (sym none) (subst (λ x. Own x ls cs) (sym kind) h)

  pub from_leaf : (l : Level) (ls : List Level) (cs : List Begun) (call : LeafCall)
      → leaf_of program plan y l ≡ Some call
      → First (IsBegunAt p l.parts call.item call.stmt) (Own (block_kind plan l.block) ls) cs
      → AreBegun program plan p y (l ∷ ls) cs
  from_leaf l ls cs call some_call h = subst (λ o. AreBegunBy p l.parts o (Own (block_kind plan l.block) ls) cs)
      (sym some_call) h
