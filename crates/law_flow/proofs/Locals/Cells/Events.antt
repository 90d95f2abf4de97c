-- What is found of a cell among a level's items after an event more.
use Rattle.std.proofs.Common.{◌≡◌, ℕ, Bool, true, false, ◌&&◌, [], Some, None, refl, ap, sym, subst, ◌∙◌, length, if◌then◌else◌}
use Rattle.std.specs.Prelude.{nat_eq, slice_get}
use Rattle.ppd_ast.specs.declared.plan.Plan.{Plan}
use Rattle.ppd_ast.specs.declared.program.Program.{Program}
use Rattle.ppd_sem.specs.declared.event.Event.{Event}
use Rattle.ppd_model.specs.FlowbackEdges.{part_at}
use Rattle.ppd_model.specs.FullTrace.{Tag}
use Rattle.ppd_model.specs.Intervals.{own, Split}
use Rattle.ppd_model.specs.declared.flow.Item.TheVariants as item
use Rattle.ppd_model.specs.declared.flow.Origin.{Origin}
use Rattle.ppd_model.specs.declared.flow.Origin.TheVariants as origin
use Rattle.ppd_model.specs.declared.trace.TracedEvent.{TracedEvent}
use Rattle.ppd_graph.specs.declared.writer.Writer.TheVariants.{Fresh, At}
use Rattle.ppd_graph.specs.Locals.{Scan, begins_leaf, receives, scan, scan_event, scan_item, written_by, is_local}
use Rattle.law_flow.specs.Places.Levels.{Level}
use Rattle.law_flow.proofs.Vocabulary.Levels.{put}
use Rattle.law_flow.specs.Places.Leaves.{items_so_far, leaf_of}
use Rattle.law_flow.proofs.Places.Scans.{items_more, next_is, own_item, same_place, scan_more}
use Rattle.law_flow.proofs.Vocabulary.Says.{Says, SaysOr}
use Rattle.law_flow.proofs.Vocabulary.LoopTells.{here, of_scan}
use Rattle.std.specs.List.{list_any}
use Rattle.ppd_sem.specs.declared.event.Access.{Access}

-- an event writes this cell of this activation
abbrev pub writes : ℕ → ℕ → Event → Bool
writes f c e = list_any (λ (a : Access). is_local f c a.spot) e.writes

-- the item of an event is the origin that its tag says
pub says_item : (y : Split) (p k j n : ℕ) (e : TracedEvent) → slice_get y.trace.events n ≡ Some e
    → part_at y k j ≡ Some (own n) → (o : Origin) → o ≡ origin.Item p k j
    → Says y p o (Some (record { process = p; number = n }))
says_item y p k j n e there at o is = record {
  interval = k;
  item = j;
  event = n;
  traced = e;
  event_is = refl;
  traced_is = there;
  at = at;
  origin_is = is;
}

module _ (program : Program) (plan : Plan) (p : ℕ) (y : Split) where
  event_writer : (f c : ℕ) (e : Event) (s : Scan) (w b r : Bool) → writes f c e ≡ w
      → (begins_leaf program plan e && nat_eq f 1) ≡ b → receives program f c e s.leaf ≡ r
      → scan_event program plan f c e s
      ≡ (if w then written_by (At s.next) s else if b then written_by Fresh s else if r then written_by
      (At s.next) s else s)
  event_writer f c e s w b r hw hb hr =
      ap (λ x. if x then written_by (At s.next) s else if begins_leaf program plan e && nat_eq f 1 then written_by
      Fresh s else if receives program f c e s.leaf then written_by (At s.next) s else s) hw
      ∙ ap (λ x. if w then written_by (At s.next) s else if x then written_by Fresh s else if receives program f c e
      s.leaf then written_by (At s.next) s else s) hb
      ∙ ap (λ x. if w then written_by (At s.next) s else if b then written_by Fresh s else if x then written_by
      (At s.next) s else s) hr

  module _ (n : ℕ) (l : Level) (e : TracedEvent) (there : slice_get y.trace.events n
      ≡ Some e) (whole : length (items_so_far y l) ≡ length l.parts) (placed : part_at y l.interval (length l.parts)
      ≡ Some (own n)) (f c : ℕ) where
    abbrev before : Scan
    before = scan program plan f c (items_so_far y l)

    scan_after : scan program plan f c (items_so_far y (put (own n) l))
        ≡ scan_item program plan f c before (item.Own e.event)
    scan_after = ap (scan program plan f c) (items_more y l.parts (own n) (item.Own e.event) (own_item y n e there))
        ∙ scan_more program plan f c (items_so_far y l) (item.Own e.event)

    next_here : before.next ≡ length l.parts
    next_here = next_is program plan f c (items_so_far y l) ∙ whole

    leaf_here : before.leaf ≡ leaf_of program plan y l
    leaf_here = (same_place program plan f c 0 0 (items_so_far y l)).leaf

    says_event : Says y p (origin.Item p l.interval before.next) (Some (record { process = p; number = n }))
    says_event = says_item y p l.interval (length l.parts) n e there placed (origin.Item p l.interval before.next)
        (ap (λ k. origin.Item p l.interval k) next_here)

    here_is : (w b r : Bool) → writes f c e.event ≡ w
        → (begins_leaf program plan e.event && nat_eq f 1) ≡ b
        → receives program f c e.event (leaf_of program plan y l) ≡ r
        → here program plan p y (put (own n) l) f c
        ≡ of_scan program plan p y l.interval c
        (if w then written_by (At before.next) before else if b then written_by Fresh before else if r then
        written_by (At before.next) before else before)
    here_is w b r hw hb hr =
        ap (λ (s : Scan). of_scan program plan p y l.interval c s) scan_after
        ∙ ap (λ (s : Scan). of_scan program plan p y l.interval c s)
        (event_writer f c e.event before w b r hw hb (ap (receives program f c e.event) leaf_here ∙ hr))

    -- where the event does not write the cell
    pub here_same : writes f c e.event ≡ false
        → (begins_leaf program plan e.event && nat_eq f 1) ≡ false
        → receives program f c e.event (leaf_of program plan y l) ≡ false
        → here program plan p y (put (own n) l) f c ≡ here program plan p y l f c
    here_same hw hb hr = here_is false false false hw hb hr

    -- a cell after the event: written by it, new with its activation, or as before
    pub here_event : (tag : Tag) (otherwise : Type 0)
        → (writes f c e.event ≡ true → tag ≡ Some (record { process = p; number = n }))
        → (writes f c e.event ≡ false → (begins_leaf program plan e.event && nat_eq f 1) ≡ true
        → tag ≡ None)
        → (writes f c e.event ≡ false → (begins_leaf program plan e.event && nat_eq f 1) ≡ false
        → receives program f c e.event (leaf_of program plan y l) ≡ true
        → tag ≡ Some (record { process = p; number = n }))
        → (writes f c e.event ≡ false → (begins_leaf program plan e.event && nat_eq f 1) ≡ false
        → receives program f c e.event (leaf_of program plan y l) ≡ false
        → SaysOr y p (here program plan p y l f c) tag otherwise)
        → SaysOr y p (here program plan p y (put (own n) l) f c) tag otherwise
    here_event tag otherwise h1 h2 h3 h4 = by (writes f c e.event)
        (begins_leaf program plan e.event && nat_eq f 1)
        (receives program f c e.event (leaf_of program plan y l)) refl refl refl
      where
        by : (w b r : Bool) → writes f c e.event ≡ w
            → (begins_leaf program plan e.event && nat_eq f 1) ≡ b
            → receives program f c e.event (leaf_of program plan y l) ≡ r
            → SaysOr y p (here program plan p y (put (own n) l) f c) tag otherwise
        by true b r hw hb hr = subst (λ o. SaysOr y p o tag otherwise) (sym (here_is true b r hw hb hr))
            (subst (Says y p (origin.Item p l.interval before.next)) (sym (h1 hw)) says_event)
        by false true r hw hb hr = subst (λ o. SaysOr y p o tag otherwise) (sym (here_is false true r hw hb hr))
            (subst (Says y p origin.Initial) (sym (h2 hw hb)) refl)
        by false false true hw hb hr =
            subst (λ o. SaysOr y p o tag otherwise) (sym (here_is false false true hw hb hr))
            (subst (Says y p (origin.Item p l.interval before.next)) (sym (h3 hw hb hr)) says_event)
        by false false false hw hb hr =
            subst (λ o. SaysOr y p o tag otherwise) (sym (here_is false false false hw hb hr)) (h4 hw hb hr)

    -- and no loop is new
    pub loops_event : before.loops ≡ [] → (scan program plan f c (items_so_far y (put (own n) l))).loops ≡ []
    loops_event none = ap (λ (s : Scan). s.loops) scan_after
        ∙ by (writes f c e.event) (begins_leaf program plan e.event && nat_eq f 1)
        (receives program f c e.event before.leaf) refl refl refl
      where
        by : (w b r : Bool) → writes f c e.event ≡ w → (begins_leaf program plan e.event && nat_eq f 1) ≡ b
            → receives program f c e.event before.leaf ≡ r → (scan_event program plan f c e.event before).loops ≡ []
        by true b r hw hb hr = ap (λ (s : Scan). s.loops) (event_writer f c e.event before true b r hw hb hr)
        by false true r hw hb hr = ap (λ (s : Scan). s.loops) (event_writer f c e.event before false true r hw hb hr)
        by false false true hw hb hr =
            ap (λ (s : Scan). s.loops) (event_writer f c e.event before false false true hw hb hr)
        by false false false hw hb hr =
            ap (λ (s : Scan). s.loops) (event_writer f c e.event before false false false hw hb hr) ∙ none
