-- Every step of a process of a valid program: the last writes of the local cells come to where the process then is.
use Rattle.std.proofs.Common.{◌≡◌, ℕ, ◌<◌, ℤ, true, List, [], ◌∷◌, ◌++◌, Option, Some, None, Ok, Err, length, refl, sym, ap, ◌∙◌, subst}
use Rattle.std.specs.Prelude.{option_to_list}
use Rattle.ppd_model.specs.declared.tracing.Activation.{Activation}
use Rattle.ppd_ast.specs.Valid.{IsValid}
use Rattle.ppd_ast.specs.declared.plan.Plan.{Plan}
use Rattle.ppd_ast.specs.declared.program.Kind.{Kind}
use Rattle.ppd_ast.specs.declared.program.Kind.TheVariants as K
use Rattle.ppd_ast.specs.declared.program.Program.{Program}
use Rattle.ppd_ast.specs.Lookups.{kind_of, body_of}
use Rattle.ppd_sets.specs.Flow.{successors}
use Rattle.law_steps.proofs.Course.Deeds.{DeedFits, Fits}
use Rattle.ppd_deps.specs.Edges.{scalar_written}
use Rattle.ppd_model.specs.declared.trace.EventId.{EventId}
use Rattle.ppd_model.specs.FullTrace.{tagged_after, tagged_by}
use Rattle.ppd_model.proofs.TraceWords.{tagged_at}
use Rattle.ppd_model.specs.LocalTags.{locals}
use Rattle.ppd_model.proofs.Homes.{AskedOf, DeedOf, IsHome, head_of as head_tells}
use Rattle.ppd_model.proofs.LocalSteps.{Fits as FitsNeed, IsSend}
use Rattle.ppd_model.proofs.Parents.{none_some}
use Rattle.ppd_sem.specs.declared.asking.Pause.TheVariants.{Wants, Traps}
use Rattle.ppd_sem.specs.declared.proc.Answer.{Answer}
use Rattle.ppd_sem.specs.declared.proc.Frame.{Frame}
use Rattle.ppd_sem.specs.declared.proc.Need.{Need}
use Rattle.ppd_sem.specs.declared.proc.Need.TheVariants.{Read, Enter, Offer, Done, Trap, Budget, Stopped}
use Rattle.ppd_sem.specs.declared.proc.Proc.{Proc}
use Rattle.ppd_sem.specs.declared.proc.Todo.{Todo}
use Rattle.ppd_sem.specs.Asked.{Asked}
use Rattle.ppd_sem.specs.Deed.{Deed, set_local, set_shared, clear, branch, turn, leave, invoke, back, take, give, send, receive, print, pass, finish}
use Rattle.ppd_sem.specs.Process.{act_by_asked, act_by_need, chan_of, head_deed, todos, top_frame}
use Rattle.ppd_sem.proofs.Offers.{CompletesSend}
use Rattle.ppd_sem.specs.Described.{is_event}
use Rattle.law_steps.proofs.StaticEdges.OwnCells.Calling.{backs_on, calls_on}
use Rattle.law_steps.proofs.StaticEdges.OwnCells.Does.{AskedDoes, Does, deed_does, is_own}
use Rattle.law_steps.proofs.StaticEdges.Frames.{head_fits}
use Rattle.law_steps.proofs.StaticEdges.OwnCells.Steps.{Before, Come, HomeAfter, Leaves, clears, receives, sets_local, to_branch, to_end, to_leave, to_next, to_turn, unmoved}

module _ (program : Program) (plan : Plan) (v : IsValid program) (E : EventId → ℕ → Type 0) (a : Answer) (t : Todo) (ts : List Todo) (me : EventId) (there : t.stmt < length program.stmts) (is_me : E me t.stmt) (s : Proc) (acts : List Activation)
    (b : Before program plan v E a t ts me there is_me s (locals acts)) where
  abbrev k : Kind
  k = kind_of program t.stmt

  abbrev After : List Todo → List Frame → List Activation → Type 0
  After todo frames xs = Come program plan v E a t ts me there is_me todo frames (locals xs)

  abbrev Left : Deed → List ℤ → Type 0
  Left d left = Leaves program plan v E a t ts me there is_me s acts b d left

  -- a statement that writes no local cell and goes on with what follows it
  plain : IsHome program (record s { todo = ts; answers = [] }) → is_own k ≡ true → ((after : Option ℕ) → successors t.stmt k after ≡ option_to_list after) → scalar_written k ≡ None → After ts s.frames acts
  plain home own goes no_scalar =
      unmoved program plan v E a t ts me there is_me s acts b ts home own (to_next program plan v E a t ts me there is_me s acts b own goes) no_scalar

  -- such a statement of this kind
  of_kind : (kind : Kind) → k ≡ kind → is_own kind ≡ true → ((after : Option ℕ) → successors t.stmt kind after ≡ option_to_list after) → scalar_written kind ≡ None → IsHome program (record s { todo = ts; answers = [] }) → After ts s.frames acts
  of_kind kind is own goes no_scalar home =
      plain home (ap is_own is ∙ own) (λ after. ap (λ (q : Kind). successors t.stmt q after) is ∙ goes after) (ap scalar_written is ∙ no_scalar)

  by_deed : (d : Deed) (left : List ℤ) → DeedFits k d → Does k d → DeedOf program (body_of program t.stmt) (kind_of program t.stmt) d → HomeAfter program plan v E a t ts me there is_me s acts b d → Left d left
  by_deed (set_local c x) left l w h home = sets_local program plan v E a t ts me there is_me s acts b c x left l w home
  by_deed (set_shared c x) left l w h home = plain home w.0.own (λ after. l.goes t.stmt after) w.0.none
  by_deed (clear base len) left l w h home = clears program plan v E a t ts me there is_me s acts b base len left w home
  by_deed (branch stmts) left c w h home =
      unmoved program plan v E a t ts me there is_me s acts b (todos stmts ++ ts) home w.own (to_branch program plan v E a t ts me there is_me s acts b stmts c) w.none
  by_deed (turn stmts) left c w h home =
      unmoved program plan v E a t ts me there is_me s acts b (todos stmts ++ t ∷ ts) home w.own (to_turn program plan v E a t ts me there is_me s acts b c.test stmts c.kind_is) w.none
  by_deed leave left c w h home = unmoved program plan v E a t ts me there is_me s acts b ts home w.own (to_leave program plan v E a t ts me there is_me s acts b c.test c.body c.kind_is) w.none
  by_deed (invoke f values into) left i w h home = calls_on program plan v E a t ts me there is_me s acts b f values into left i h.1.0 h.1.1 home
  by_deed (back value) left r w h home = backs_on program plan v E a t ts me there is_me w s acts b value left h.1 home
  by_deed (take sem) left r w h home = of_kind (K.P sem) w refl (λ after. refl) refl home
  by_deed (give sem) left r w h home = of_kind (K.V sem) w refl (λ after. refl) refl home
  by_deed (send chan x) left r w h home = of_kind (K.Send chan w.value) w.kind_is refl (λ after. refl) refl home
  by_deed (receive chan into) left r w h home = receives program plan v E a t ts me there is_me s acts b chan into left w home
  by_deed (print x) left l w h home = plain home w.own (λ after. l.goes t.stmt after) w.none
  by_deed pass left l w h home = plain home w.own (λ after. l.goes t.stmt after) w.none
  by_deed finish left r w h home = unmoved program plan v E a t ts me there is_me s acts b ts home (ap is_own w) (to_end program plan v E a t ts me there is_me s acts b w) (ap scalar_written w)

  module _ (is : s.todo ≡ t ∷ ts) where
    -- the process is still at its head
    still : (todo : List Todo) → todo ≡ t ∷ ts → After todo s.frames acts
    still todo e = subst (λ (xs : List Todo). After xs s.frames acts) (sym e) b.come

    by_asked : (asked : Asked Deed) → Fits k asked → AskedDoes k asked → AskedOf program (body_of program t.stmt) (kind_of program t.stmt) asked → IsHome program (act_by_asked program a t ts asked s)
        → After (act_by_asked program a t ts asked s).todo (act_by_asked program a t ts asked s).frames (tagged_by program s (Some me) asked acts)
    by_asked (Ok q) fits does tells home = by_deed q.0 q.1 fits does tells home
    by_asked (Err (Wants c)) fits does tells home = still s.todo is
    by_asked (Err (Traps x)) fits does tells home = still s.todo is

    head_does : AskedDoes k (head_deed program t s)
    head_does = deed_does program.exprs (kind_of program t.stmt) (top_frame s.frames).cells s.answers

    by_head : IsHome program (act_by_asked program a t ts (head_deed program t s) s) → After (act_by_asked program a t ts (head_deed program t s) s).todo (act_by_asked program a t ts (head_deed program t s) s).frames (tagged_at program s (Some me) s.todo acts)
    by_head home =
        subst (λ todo. After (act_by_asked program a t ts (head_deed program t s) s).todo (act_by_asked program a t ts (head_deed program t s) s).frames (tagged_at program s (Some me) todo acts)) (sym is)
        (by_asked (head_deed program t s) (head_fits program a t ts s) head_does (head_tells program t s v) home)

    -- a send tags nothing
    send_tags : (asked : Asked Deed) → IsSend asked → tagged_by program s (Some me) asked acts ≡ acts
    send_tags (Ok (send c x, left)) h = refl
    send_tags (Ok q) h = absurd h
    send_tags (Err p) h = refl

    sends : IsSend (head_deed program t s) → tagged_at program s (Some me) s.todo acts ≡ acts
    sends h = ap (λ todo. tagged_at program s (Some me) todo acts) is ∙ send_tags (head_deed program t s) h

    sent : (kind : Kind) (c : ℕ) → k ≡ kind → chan_of kind ≡ Some c → IsHome program (record s { todo = ts; answers = [] }) → After ts s.frames acts
    sent (K.Send chan e) c kind_is h home = of_kind (K.Send chan e) kind_is refl (λ after. refl) refl home
    sent kind c kind_is h home = absurd (none_some h)

    pub by_need : (n : Need) → is_event n ≡ true → CompletesSend program t.stmt n → FitsNeed n (head_deed program t s) → IsHome program (act_by_need program plan a t ts n s)
        → After (act_by_need program plan a t ts n s).todo (act_by_need program plan a t ts n s).frames (tagged_after program s (Some me) n acts)
    by_need (Read c) e o f home = absurd (cc)
    by_need (Enter u w) e o f home = absurd (cc)
    by_need Budget e o f home = absurd (cc)
    by_need Stopped e o f home = absurd (cc)
    by_need (Trap x) e o f home = still s.todo is
    by_need (Offer c x) e o f home = subst (λ xs. After (record t { offered = true } ∷ ts) s.frames xs) (sym (sends f)) b.come
    by_need (Done c u) e o f home = subst (λ xs. After ts s.frames xs) (sym (sends f)) (sent k c refl o home)
    by_need n e o f home = by_head home
