-- What is found of a cell among a level's items after an interval more.
use Rattle.std.proofs.Common.{◌≡◌, ℕ, ◌+◌, ℤ, Bool, true, false, ◌&&◌, List, [], ◌∷◌, Option, Some, None, refl, ap, ap₂, sym, subst, ◌∙◌, if◌then◌else◌}
use Rattle.std.specs.Prelude.{nat_eq, slice_get, is_some, get_or}
use Rattle.ppd_ast.specs.declared.plan.BlockKind.TheVariants as block
use Rattle.ppd_ast.specs.declared.plan.Plan.{Plan}
use Rattle.ppd_ast.specs.declared.program.Program.{Program}
use Rattle.ppd_ast.specs.Lookups.{kind_of}
use Rattle.ppd_sem.specs.Blocks.{block_kind, postlog_cells}
use Rattle.ppd_model.specs.FullTrace.{Tag}
use Rattle.std.specs.Option.{option_or}
use Rattle.ppd_model.specs.Intervals.{nested, Span, Split}
use Rattle.ppd_model.specs.NearIntervals.{is_in}
use Rattle.ppd_model.specs.declared.flow.Item.TheVariants as item
use Rattle.ppd_model.specs.declared.flow.Origin.{Origin}
use Rattle.ppd_graph.specs.declared.writer.Writer.TheVariants.{Of}
use Rattle.ppd_graph.specs.Locals.{Scan, frame_in, in_loops, scan, scan_interval, scan_item, writer_at, written_by}
use Rattle.ppd_graph.specs.Seen.{last_item, seen_of}
use Rattle.law_flow.specs.Places.Levels.{Level}
use Rattle.law_flow.proofs.Vocabulary.Levels.{put}
use Rattle.law_flow.specs.Places.Leaves.{items_so_far, leaf_of}
use Rattle.law_flow.proofs.Places.Scans.{items_more, nested_item, same_place, scan_more}
use Rattle.law_flow.proofs.Vocabulary.Says.{Says, SaysOr}
use Rattle.law_flow.proofs.Vocabulary.LoopTells.{here, of_scan}
use Rattle.ppd_sem.specs.Process.{into_of}
use Rattle.ppd_model.specs.Synchronizations.{is_number}

else_assoc : (a b c : Option Origin) → option_or (option_or a b) c ≡ option_or a (option_or b c)
else_assoc None b c = refl
else_assoc (Some x) b c = refl

pub says_both : (y : Split) (p : ℕ) (a b : Option Origin) (w : Tag) (P : Type 0) → SaysOr y p a w (SaysOr y p b w P)
    → SaysOr y p (option_or a b) w P
says_both y p None b w P h = h
says_both y p (Some x) b w P h = h

pub says_then : (y : Split) (p : ℕ) (o : Option Origin) (w : Tag) (P Q : Type 0) → (P → Q) → SaysOr y p o w P
    → SaysOr y p o w Q
says_then y p None w P Q f h = f h
says_then y p (Some r) w P Q f h = h

-- a value is there, and the call's cell is this one
abbrev pub returned_to : Program → ℕ → ℕ → ℕ → List ℤ → Bool
returned_to program f c call [] = false
returned_to program f c call (v ∷ vs) = nat_eq f 0 && is_number (into_of (kind_of program call)) c

module _ (program : Program) (plan : Plan) (p : ℕ) (y : Split) where
  interval_is : (f c m : ℕ) (g : ℕ) (cells : List ℕ) (values : List ℤ) (s : Scan)
      → scan_interval program plan f c m (block.Function g) cells values s
      ≡ (if returned_to program f c s.call values then written_by (Of m) s else s)
  interval_is f c m g cells [] s = refl
  interval_is f c m g cells (v ∷ vs) s = refl

  module _ (m : ℕ) (l : Level) (i : Span) (there : slice_get y.spans m ≡ Some i) (is_left : is_some i.closed
      ≡ true) (f c : ℕ) where
    abbrev scanned : Scan
    scanned = scan program plan f c (items_so_far y l)

    scan_past : scan program plan f c (items_so_far y (put (nested m) l))
        ≡ record (scan_interval program plan f c m (block_kind plan i.block) (postlog_cells plan i.block) i.values
        scanned) { next = scanned.next + 1 }
    scan_past =
        ap (scan program plan f c) (items_more y l.parts (nested m) (item.Nested m i.block i.values (is_some i.closed))
        (nested_item y m i there))
        ∙ scan_more program plan f c (items_so_far y l) (item.Nested m i.block i.values (is_some i.closed))
        ∙ ap (λ b. scan_item program plan f c scanned (item.Nested m i.block i.values b)) is_left

    module _ (g : ℕ) (kind : block_kind plan i.block ≡ block.Function g) where
      returned_is : (b : Bool) → returned_to program f c scanned.call i.values ≡ b
          → here program plan p y (put (nested m) l) f c
          ≡ of_scan program plan p y l.interval c (if b then written_by (Of m) scanned else scanned)
      returned_is b h =
          ap (λ (s : Scan). of_scan program plan p y l.interval c s) scan_past
          ∙ ap (λ k. of_scan program plan p y l.interval c (scan_interval program plan f c m k
          (postlog_cells plan i.block) i.values scanned)) kind
          ∙ ap (λ (s : Scan). of_scan program plan p y l.interval c s)
          (interval_is f c m g (postlog_cells plan i.block) i.values scanned)
          ∙ ap (λ x. of_scan program plan p y l.interval c (if x then written_by (Of m) scanned else scanned)) h

      pub here_unreturned : (call : ℕ) → scanned.call ≡ call
          → returned_to program f c call i.values ≡ false
          → here program plan p y (put (nested m) l) f c ≡ here program plan p y l f c
      here_unreturned call call_is h =
          returned_is false (ap (λ k. returned_to program f c k i.values) call_is ∙ h)

      pub here_returned : (call : ℕ) (tag : Tag) (otherwise : Type 0) → scanned.call ≡ call
          → (returned_to program f c call i.values ≡ true → Says y p (last_item (seen_of y) p m).found tag)
          → (returned_to program f c call i.values ≡ false
          → SaysOr y p (here program plan p y l f c) tag otherwise)
          → SaysOr y p (here program plan p y (put (nested m) l) f c) tag otherwise
      here_returned call tag otherwise call_is h1 h2 = by (returned_to program f c call i.values) refl
        where
          by : (b : Bool) → returned_to program f c call i.values ≡ b
              → SaysOr y p (here program plan p y (put (nested m) l) f c) tag otherwise
          by true h = subst (λ o. SaysOr y p o tag otherwise)
              (sym (returned_is true (ap (λ k. returned_to program f c k i.values) call_is ∙ h))) (h1 h)
          by false h = subst (λ o. SaysOr y p o tag otherwise)
              (sym (returned_is false (ap (λ k. returned_to program f c k i.values) call_is ∙ h))) (h2 h)

      pub loops_returned : scanned.loops ≡ [] → (scan program plan f c (items_so_far y (put (nested m) l))).loops ≡ []
      loops_returned none =
          ap (λ (s : Scan). s.loops) scan_past
          ∙ ap (λ k. (scan_interval program plan f c m k (postlog_cells plan i.block) i.values scanned).loops) kind
          ∙ ap (λ (s : Scan). s.loops) (interval_is f c m g (postlog_cells plan i.block) i.values scanned)
          ∙ by (returned_to program f c scanned.call i.values)
        where
          by : (b : Bool) → (if b then written_by (Of m) scanned else scanned).loops ≡ []
          by true = refl
          by false = none

    -- ---- a loop's interval more

    module _ (q : ℕ) (kind : block_kind plan i.block ≡ block.Loop q) where
      abbrev is_of : Bool
      is_of = nat_eq f (frame_in (leaf_of program plan y l)) && is_in c (postlog_cells plan i.block)

      scan_loop : (b : Bool) → is_of ≡ b → scan program plan f c (items_so_far y (put (nested m) l))
          ≡ record (if b then record scanned { loops = m ∷ scanned.loops } else scanned) { next = scanned.next + 1 }
      scan_loop b h =
          scan_past
          ∙ ap (λ k. record (scan_interval program plan f c m k (postlog_cells plan i.block) i.values scanned) {
            next = scanned.next + 1;
          }) kind
          ∙ ap (λ o. record (if nat_eq f (frame_in o) && is_in c (postlog_cells plan i.block) then record scanned {
            loops = m ∷ scanned.loops;
          } else scanned) { next = scanned.next + 1 }) (same_place program plan f c 0 0 (items_so_far y l)).leaf
          ∙ ap (λ b. record (if b then record scanned { loops = m ∷ scanned.loops } else scanned) {
            next = scanned.next + 1;
          }) h

      -- of another activation, or the cell is not in the postlog
      pub here_past : is_of ≡ false → here program plan p y (put (nested m) l) f c ≡ here program plan p y l f c
      here_past h = ap (λ (s : Scan). of_scan program plan p y l.interval c s) (scan_loop false h)

      pub loops_past : is_of ≡ false → (scan program plan f c (items_so_far y (put (nested m) l))).loops
          ≡ (scan program plan f c (items_so_far y l)).loops
      loops_past h = ap (λ (s : Scan). s.loops) (scan_loop false h)

      -- what is found in the loop, or before it
      pub here_loop : (inner : Level) → inner.interval ≡ m → get_or (seen_of y).items m [] ≡ items_so_far y inner
          → (scan program plan 0 c (items_so_far y inner)).loops ≡ [] → is_of ≡ true
          → here program plan p y (put (nested m) l) f c
          ≡ option_or (here program plan p y inner 0 c) (here program plan p y l f c)
      here_loop inner number items none h =
          let found : (writer_at (seen_of y) p m (scan program plan 0 c (get_or (seen_of y).items m [])).writer).found
          ≡ here program plan p y inner 0 c =
          ap₂ (λ k xs. (writer_at (seen_of y) p k (scan program plan 0 c xs).writer).found) (sym number) items
          ∙ ap (λ ms. option_or (in_loops program plan (seen_of y) p c ms).found
          (writer_at (seen_of y) p inner.interval (scan program plan 0 c (items_so_far y inner)).writer).found) (sym none) in
          ap (λ (s : Scan). of_scan program plan p y l.interval c s) (scan_loop true h)
          ∙ ap (λ o. option_or (option_or o (in_loops program plan (seen_of y) p c scanned.loops).found)
          (writer_at (seen_of y) p l.interval scanned.writer).found) found
          ∙ else_assoc (here program plan p y inner 0 c) (in_loops program plan (seen_of y) p c scanned.loops).found
          (writer_at (seen_of y) p l.interval scanned.writer).found
