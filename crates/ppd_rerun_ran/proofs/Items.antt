-- Items compared one by one with the parts of an interval that is held.
use Rattle.ppd_model.specs.Setting.{Setting}
use Rattle.std.proofs.Common.{◌≡◌, ℕ, zero, suc, ◌+◌, ◌<◌, ◌≤◌, Bool, true, false, ◌&&◌, List, [], ◌∷◌, ◌++◌, Option, Some, None, refl, ap, ap₂, sym, subst, ◌∙◌, arith, length, map, drop, get_or, length-append}
use mathlib.Core.Bool.{beq}
use Rattle.std.specs.Bool.{Decides}
use Rattle.std.specs.List.{flat_map}
use Rattle.std.specs.Prelude.{ℤ, option_map, slice_get}
use Rattle.std.proofs.lemmas.Bool.{and_from, and_parts, false≢true}
use Rattle.std.proofs.lemmas.List.{drop_more, length-map}
use Rattle.std.proofs.lemmas.Option.{none-some, slice_get-get_or, slice_get-map}
use Rattle.ppd_ast.specs.Valid.{IsValid}
use Rattle.ppd_sem.specs.declared.event.Event.{Event}
use Rattle.ppd_model.specs.declared.flow.Item.{Item}
use Rattle.ppd_model.specs.declared.flow.Item.TheVariants as item
use Rattle.ppd_model.specs.declared.tracing.Story.{Story}
use Rattle.ppd_model.specs.declared.tracing.Taken.{Taken}
use Rattle.ppd_model.specs.Intervals.{Span, Split, items as items_in_story, split_of, splits}
use Rattle.ppd_model.proofs.IntervalWords.{items_in, splits_from}
use Rattle.ppd_model.specs.Story.{story}
use Rattle.ppd_model.proofs.Changes.{some}
use Rattle.ppd_model.proofs.Items.{items_whole}
use Rattle.ppd_rerun_ran.specs.declared.held.Kept.{Kept}
use Rattle.ppd_rerun_ran.specs.declared.held.Part.{Part}
use Rattle.ppd_rerun_ran.specs.declared.held.Part.TheVariants.{Own, Nested}
use Rattle.ppd_rerun_ran.specs.Holding.{AreOnes, AreWhole, items_at, items_if, Course, Holding, course, courses, courses_from, held_item, item_of_event, item_of_kept}
use Rattle.ppd_rerun_ran.specs.Runs.{helds}
use Rattle.ppd_rerun_ran.proofs.HeldItems.{bare, held_is, held_items_are, held_of, items_are, part_of}

-- ---- parts

event_one : (o : Option Event) → length (item_of_event o) ≤ 1
event_one None = omega arith
event_one (Some e) = omega arith

kept_one : (m : ℕ) (o : Option Kept) → length (item_of_kept m o) ≤ 1
kept_one m None = omega arith
kept_one m (Some i) = omega arith

at_most_one : (h : Holding) (part : Part) → length (held_item h part) ≤ 1
at_most_one h (Own n) = event_one (slice_get h.events n)
at_most_one h (Nested m) = kept_one m (slice_get h.spans m)

abbrev pub items_by : Holding → List Part → List Item
items_by h parts = flat_map (held_item h) parts

at_most : (h : Holding) (parts : List Part) → length (items_by h parts) ≤ length parts
at_most h [] = omega arith
at_most h (part ∷ parts) = omega (arith, length-append (held_item h part) (items_by h parts), at_most_one h part, at_most h parts)

-- as many items as parts: each is one
ones_from : (h : Holding) (parts : List Part) → length (items_by h parts) ≡ length parts → AreOnes h parts
ones_from h [] e i part f = absurd (none-some part f)
ones_from h (x ∷ parts) e zero part f =
    let one : length (held_item h x) ≡ 1 = omega (arith, length-append (held_item h x) (items_by h parts), at_most_one h x, at_most h parts, e) in
    subst (λ (y : Part). length (held_item h y) ≡ 1) (some f) one
ones_from h (x ∷ parts) e (suc i) part f =
    let rest : length (items_by h parts) ≡ length parts = omega (arith, length-append (held_item h x) (items_by h parts), at_most_one h x, at_most h parts, e) in
    ones_from h parts rest i part f

pub ones_count : (h : Holding) (parts : List Part) → AreOnes h parts → length (items_by h parts) ≡ length parts
ones_count h [] o = refl
ones_count h (x ∷ parts) o =
    let one : length (held_item h x) ≡ 1 = o 0 x refl in
    let rest : length (items_by h parts) ≡ length parts = ones_count h parts (λ i part f. o (suc i) part f) in
    omega (arith, length-append (held_item h x) (items_by h parts))

-- ---- items one by one

-- the items from place i on are those of the parts from there on just where all are
pub record IsAlikeFrom (h : Holding) (items : List Item) (parts : List Part) (i : ℕ) : Type 0 where
  pub on : items ≡ items_by h parts → drop i items ≡ items_by h (drop i parts)
  pub back : drop i items ≡ items_by h (drop i parts) → items ≡ items_by h parts

tail_of : List Item → List Item
tail_of xs = drop 1 xs

head_of : Item → List Item → Item
head_of d [] = d
head_of d (x ∷ xs) = x

module _ (h : Holding) (items : List Item) (parts : List Part) where
  pub alike_at_start : IsAlikeFrom h items parts 0
  alike_at_start = record { on = λ e. e; back = λ e. e }

  pub alike_next : (i : ℕ) (d : Item) (e : Part) → i < length items → i < length parts → held_item h (get_or parts i e) ≡ get_or items i d ∷ []
      → IsAlikeFrom h items parts i → IsAlikeFrom h items parts (i + 1)
  unfolding tail_of
  alike_next i d e lt lt' one a = record {
    on = λ all. ap tail_of (sym here ∙ a.on all ∙ there);
    back = λ rest. a.back (here ∙ ap (λ (xs : List Item). get_or items i d ∷ xs) rest ∙ sym there);
  }
    where
      here : drop i items ≡ get_or items i d ∷ drop (i + 1) items
      here = drop_more items i d lt

      there : items_by h (drop i parts) ≡ get_or items i d ∷ items_by h (drop (i + 1) parts)
      there = ap (λ (ps : List Part). items_by h ps) (drop_more parts i e lt') ∙ ap (λ (xs : List Item). xs ++ items_by h (drop (i + 1) parts)) one

  one_item : (xs : List Item) (d : Item) → length xs ≡ 1 → xs ≡ head_of d xs ∷ []
  unfolding head_of
  one_item [] d e = absurd (omega arith)
  one_item (x ∷ []) d e = refl
  one_item (x ∷ (y ∷ ys)) d e = absurd (omega arith)

  pub not_alike : (i : ℕ) (d : Item) (e : Part) → i < length items → i < length parts → (held_item h (get_or parts i e) ≡ get_or items i d ∷ [] → ⊥)
      → AreOnes h parts → IsAlikeFrom h items parts i → items ≡ items_by h parts → ⊥
  unfolding head_of
  not_alike i d e lt lt' other ones a all =
      other (mine ∙ ap (λ (y : Item). y ∷ []) same)
    where
      p : Part
      p = get_or parts i e

      mine : held_item h (get_or parts i e) ≡ head_of d (held_item h (get_or parts i e)) ∷ []
      mine = one_item (held_item h (get_or parts i e)) d (ones i (get_or parts i e) (slice_get-get_or parts i e lt'))

      same : head_of d (held_item h (get_or parts i e)) ≡ get_or items i d
      same =
          ap (head_of d)
          (sym (ap (λ (xs : List Item). xs ++ items_by h (drop (i + 1) parts)) mine)
          ∙ sym (ap (λ (ps : List Part). items_by h ps) (drop_more parts i e lt'))
          ∙ sym (a.on all)
          ∙ drop_more items i d lt)

  pub alike_end : (i : ℕ) → drop i items ≡ [] → drop i parts ≡ [] → IsAlikeFrom h items parts i → items ≡ items_by h parts
  alike_end i e f a = a.back (e ∙ sym (ap (λ (ps : List Part). items_by h ps) f))

-- ---- nested items

pub nested_is : (a b c d : ℕ) (v w : List ℤ) (x y : Bool) (r : Bool) → Decides r ((a ≡ c) × (b ≡ d) × (v ≡ w) × (x ≡ y))
    → Decides r (item.Nested a b v x ≡ item.Nested c d w y)
nested_is a b c d v w x y r h = (λ t. let p = h.0 t in let p0 : a ≡ c = p.0 in let p1 : b ≡ d = p.1 in let p2 : v ≡ w = p.2 in let p3 : x ≡ y = p.3 in cc, λ e. h.1 (cc, cc, cc, cc))

-- ---- what is held of a schedule

course_at : (setting : Setting) (q : ℕ) (lists : List (List Taken)) (p : ℕ)
    → slice_get (courses_from setting q lists) p ≡ option_map (course setting (q + p)) (slice_get lists p)
course_at setting q [] p = refl
course_at setting q (xs ∷ rest) zero = let here : q ≡ q + zero = omega arith in ap (λ (r : ℕ). Some (course setting r xs)) here
course_at setting q (xs ∷ rest) (suc p) =
    let here : (q + 1) + p ≡ q + suc p = omega arith in
    course_at setting (q + 1) rest p ∙ ap (λ (r : ℕ). option_map (course setting r) (slice_get rest p)) here

no_split : (setting : Setting) (s : Story) (q : ℕ) (lists : List (List Taken)) (p : ℕ) → slice_get lists p ≡ None
    → slice_get (splits_from setting s q lists) p ≡ None
no_split setting s q [] p e = refl
no_split setting s q (xs ∷ rest) zero e = absurd (none-some xs (sym e))
no_split setting s q (xs ∷ rest) (suc p) e = no_split setting s (q + 1) rest p e

split_there : (setting : Setting) (s : Story) (q : ℕ) (lists : List (List Taken)) (p : ℕ) (steps : List Taken) → slice_get lists p ≡ Some steps
    → slice_get (splits_from setting s q lists) p ≡ Some (split_of setting s (q + p) steps)
split_there setting s q [] p steps e = absurd (none-some steps e)
split_there setting s q (xs ∷ rest) zero steps e =
    let here : q ≡ q + zero = omega arith in
    ap₂ (λ (r : ℕ) (ys : List Taken). Some (split_of setting s r ys)) here (some e)
split_there setting s q (xs ∷ rest) (suc p) steps e =
    let here : (q + 1) + p ≡ q + suc p = omega arith in
    split_there setting s (q + 1) rest p steps e ∙ ap (λ (r : ℕ). Some (split_of setting s r steps)) here

module _ (setting : Setting) (h : List ℕ) where
  abbrev told_story : Story
  told_story = story setting h

  held_at : (p : ℕ) → slice_get (helds setting h) p ≡ option_map (λ (steps : List Taken). (course setting p steps).held) (slice_get told_story.steps p)
  held_at p =
      let zero_more : 0 + p ≡ p = omega arith in
      slice_get-map (λ g. g.held) (courses setting told_story) p
      ∙ ap (option_map (λ g. g.held)) (course_at setting 0 told_story.steps p)
      ∙ twice (slice_get told_story.steps p)
      ∙ ap (λ (r : ℕ). option_map (λ (steps : List Taken). (course setting r steps).held) (slice_get told_story.steps p)) zero_more
    where
      twice : (o : Option (List Taken)) → option_map (λ g. g.held) (option_map (course setting (0 + p)) o) ≡ option_map (λ (steps : List Taken). (course setting (0 + p) steps).held) o
      twice None = refl
      twice (Some x) = refl

  -- what is held gives the items of the story
  pub items_same : (p k : ℕ) → items_at (helds setting h) p k ≡ items_in_story setting told_story p k
  items_same p k = ap (items_if k) (held_at p) ∙ by (slice_get told_story.steps p) refl
    where
      by : (o : Option (List Taken)) → slice_get told_story.steps p ≡ o
          → items_if k (option_map (λ (steps : List Taken). (course setting p steps).held) o) ≡ items_in_story setting told_story p k
      by None e = sym (ap (items_in k) (no_split setting told_story 0 told_story.steps p e))
      by (Some steps) e = held_items_are setting told_story p k steps e

  -- each part of what is held is one item
  pub held_whole : IsValid setting.program → (p : ℕ) (x : Holding) → slice_get (helds setting h) p ≡ Some x → AreWhole x
  held_whole valid p x e = by (slice_get told_story.steps p) refl (sym (held_at p) ∙ e)
    where
      of_split : (y : Split) → slice_get (splits setting told_story) p ≡ Some y → AreWhole (held_of y)
      of_split y at k i f = of_span (slice_get y.spans k) refl (sym (slice_get-map bare y.spans k) ∙ f)
        where
          of_span : (o : Option Span) → slice_get y.spans k ≡ o → option_map bare o ≡ Some i → AreOnes (held_of y) i.parts
          of_span None g m = absurd (none-some i m)
          of_span (Some span) g m =
              subst (λ (j : Kept). AreOnes (held_of y) j.parts) (some m)
              (ones_from (held_of y) (map part_of span.parts)
              (ap (λ (xs : List Item). length xs) (items_are y span.parts)
              ∙ (items_whole setting h p y valid at).whole k span g
              ∙ sym (length-map span.parts part_of)))

      by : (o : Option (List Taken)) → slice_get told_story.steps p ≡ o → option_map (λ (steps : List Taken). (course setting p steps).held) o ≡ Some x → AreWhole x
      by None is f = absurd (none-some x f)
      by (Some steps) is f =
          let zero_more : 0 + p ≡ p = omega arith in
          subst (λ (y : Holding). AreWhole y) (ap (λ (g : Course). g.held) (held_is setting.program setting.plan told_story p setting.budget steps) ∙ some f)
          (of_split (split_of setting told_story p steps)
          (split_there setting told_story 0 told_story.steps p steps is ∙ ap (λ (r : ℕ). Some (split_of setting told_story r steps)) zero_more))

-- ---- tests

pub bool_same : (x y : Bool) → Decides (beq x y) (x ≡ y)
bool_same true true = (λ e. refl, λ e. refl)
bool_same true false = (λ e. absurd (false≢true e), λ e. sym e)
bool_same false true = (λ e. absurd (false≢true e), λ e. e)
bool_same false false = (λ e. refl, λ e. refl)

pub four_and : (w x y z : Bool) {P Q R S : Type 0} → Decides w P → Decides x Q → Decides y R → Decides z S → Decides (((w && x) && y) && z) (P × Q × R × S)
four_and w x y z p q r s = (
  λ e.
      let a : ((w && x) && y) ≡ true = (and_parts ((w && x) && y) z e).0 in
      let b : (w && x) ≡ true = (and_parts (w && x) y a).0 in
      (p.0 (and_parts w x b).0, q.0 (and_parts w x b).1, r.0 (and_parts (w && x) y a).1, s.0 (and_parts ((w && x) && y) z e).1),
  λ t. and_from ((w && x) && y) z (and_from (w && x) y (and_from w x (p.1 t.0) (q.1 t.1)) (r.1 t.2)) (s.1 t.3),
)

-- what stands for a part that is not there
abbrev pub first_part : Part
first_part = Own 0
