-- A step of a process keeps its values within 64 bits.
use Rattle.std.proofs.Common.{◌≡◌, ℕ, zero, suc, ◌+◌, ◌-◌, ℤ, pos, true, false, Bool, List, [], ◌∷◌, Option, Some, None, Ok, Err, refl, sym, subst, map, length, replicate, if◌then◌else◌}
use Rattle.std.specs.Prelude.{slice_get, slice_set, nat_lt, option_to_list, ⊤, get_or}
use Rattle.std.specs.List.{range_with_len}
use Rattle.ppd_ast.specs.declared.plan.Plan.{Plan}
use Rattle.ppd_ast.specs.declared.program.Body.{Body}
use Rattle.ppd_ast.specs.declared.program.Program.{Program}
use Rattle.ppd_ast.specs.declared.status.Status.{Status}
use Rattle.ppd_ast.specs.Lookups.{kind_of}
use Rattle.ppd_ast.specs.declared.limits.TheConstants.{MOST_CALLS}
use Rattle.ppd_sem.specs.declared.asking.Pause.TheVariants.{Wants, Traps}
use Rattle.ppd_sem.specs.declared.proc.Answer.{Answer}
use Rattle.ppd_sem.specs.declared.proc.Frame.{Frame}
use Rattle.ppd_sem.specs.declared.proc.Need.{Need}
use Rattle.ppd_sem.specs.declared.proc.Need.TheVariants as n
use Rattle.ppd_sem.specs.declared.proc.Proc.{Proc}
use Rattle.ppd_sem.specs.declared.proc.Todo.{Todo}
use Rattle.ppd_sem.specs.Asked.{Asked}
use Rattle.ppd_sem.specs.Deed.{Deed, set_local, set_shared, clear, branch, turn, leave, invoke, back, take, give, send, receive, print, pass, finish}
use Rattle.ppd_sem.specs.Passed.{arguments_at, arguments_by, result_at, result_by}
use Rattle.ppd_sem.proofs.EventWords.{arguments_of_head, result_of_head}
use Rattle.ppd_sem.specs.Process.{act, act_by_asked, act_by_deed, act_by_need, charged, entry_of, head_deed, into_of, need_of, need_of_asked, need_of_deed, need_of_leaving, need_of_send, offer_of, receive_at, returned, started, value_of, on_top, top_frame, into_at, with_values}
use Rattle.ppd_sem.proofs.NeedWords.{act_at, cells_for, need_by_entry, need_by_offer, need_of_running}
use Rattle.ppd_sem.specs.Tables.{block_of, capacity_of}
use Rattle.ppd_sem.proofs.Progress.{need_at_status}
use Rattle.law_logs.specs.Recording.Values.{IsConstantOf64Bits}
use Rattle.law_logs.proofs.Recording.Values.Asked.{CallIs, DeedFits, deed_fits}
use Rattle.law_logs.proofs.Recording.Values.Asking.{AskedFits, get_fits}
use Rattle.law_logs.proofs.Recording.Fit.{All, Fit, SomeFits, all_append}

abbrev pub FrameFits : Frame → Type 0
FrameFits f = All Fit f.cells

pub record LocalsFit (s : Proc) : Type 0 where
  pub frames : All FrameFits s.frames
  pub answers : All Fit s.answers

-- ---- cells

pub set_fits : (vs : List ℤ) (i : ℕ) (v : ℤ) → Fit v → All Fit vs → All Fit (slice_set vs i v)
set_fits [] i v f h = tt
set_fits (x ∷ vs) zero v f h = (f, h.1)
set_fits (x ∷ vs) (suc i) v f h = (h.0, set_fits vs i v f h.1)

pub zeros_fit : (k : ℕ) → All Fit (replicate k (pos 0))
zeros_fit zero = tt
zeros_fit (suc k) = (refl, zeros_fit k)

top_fits : (fs : List Frame) → All FrameFits fs → All Fit (top_frame fs).cells
top_fits [] h = tt
top_fits (f ∷ fs) h = h.0

write_fits : (c : ℕ) (v : ℤ) (fs : List Frame) → Fit v → All FrameFits fs → All FrameFits (on_top (λ cells. slice_set cells c v) fs)
write_fits c v [] k h = tt
write_fits c v (f ∷ fs) k h = (set_fits f.cells c v k h.0, h.1)

cleared_fits : (base k : ℕ) (cells : List ℤ) → All Fit cells → All Fit (with_values (range_with_len base k) (replicate k (pos 0)) cells)
cleared_fits base zero cells h = h
cleared_fits base (suc k) cells h = cleared_fits (base + 1) k (slice_set cells base (pos 0)) (set_fits cells base (pos 0) refl h)

clear_fits : (base k : ℕ) (fs : List Frame) → All FrameFits fs → All FrameFits (on_top (with_values (range_with_len base k) (replicate k (pos 0))) fs)
clear_fits base k [] h = tt
clear_fits base k (f ∷ fs) h = (cleared_fits base k f.cells h.0, h.1)

for_fits : (o : Option Body) (vs : List ℤ) → All Fit vs → All Fit (cells_for o vs)
for_fits None vs h = h
for_fits (Some b) vs h = all_append Fit vs (replicate (b.cells - length vs) (pos 0)) h (zeros_fit (b.cells - length vs))

receive_fits : (o : Option ℕ) (v : Option ℤ) (fs : List Frame) → SomeFits Fit v → All FrameFits fs → All FrameFits (receive_at o v fs)
receive_fits (Some c) (Some v) fs k h = write_fits c v fs k h
receive_fits None v fs k h = h
receive_fits (Some c) None fs k h = h

module _ (S : ℕ → Type 0) (program : Program) where
  returned_by : (c : Option ℕ) (v : Option ℤ) (fs : List Frame) → SomeFits Fit v → All FrameFits fs → All FrameFits (receive_at (into_at program c) v fs)
  returned_by None v fs k h = h
  returned_by (Some c) v fs k h = receive_fits (into_of (kind_of program c)) v fs k h

  returned_fits : (v : Option ℤ) (fs : List Frame) → SomeFits Fit v → All FrameFits fs → All FrameFits (returned program v fs)
  returned_fits v [] k h = tt
  returned_fits v (f ∷ fs) k h = returned_by f.call v fs k h.1

  -- ---- one step

  deed_kept : (a : Answer) (t : Todo) (ts : List Todo) (d : Deed) (s : Proc) → Fit (value_of a) → DeedFits S d → LocalsFit s → LocalsFit (act_by_deed program a t ts d s)
  deed_kept a t ts (set_local c v) s k f h = record { frames = write_fits c v s.frames f h.frames; answers = h.answers }
  deed_kept a t ts (set_shared c v) s k f h = record { frames = h.frames; answers = h.answers }
  deed_kept a t ts (clear base len) s k f h = record { frames = clear_fits base len s.frames h.frames; answers = h.answers }
  deed_kept a t ts (branch ss) s k f h = record { frames = h.frames; answers = h.answers }
  deed_kept a t ts (turn ss) s k f h = record { frames = h.frames; answers = h.answers }
  deed_kept a t ts leave s k f h = record { frames = h.frames; answers = h.answers }
  deed_kept a t ts (invoke g vs into) s k f h = record { frames = (for_fits (slice_get program.bodies g) vs f.0, h.frames); answers = h.answers }
  deed_kept a t ts (back v) s k f h = record { frames = returned_fits v s.frames f h.frames; answers = h.answers }
  deed_kept a t ts (take o) s k f h = record { frames = h.frames; answers = h.answers }
  deed_kept a t ts (give o) s k f h = record { frames = h.frames; answers = h.answers }
  deed_kept a t ts (send c v) s k f h = record { frames = h.frames; answers = h.answers }
  deed_kept a t ts (receive c into) s k f h = record { frames = write_fits into (value_of a) s.frames k h.frames; answers = h.answers }
  deed_kept a t ts (print v) s k f h = record { frames = h.frames; answers = h.answers }
  deed_kept a t ts pass s k f h = record { frames = h.frames; answers = h.answers }
  deed_kept a t ts finish s k f h = record { frames = h.frames; answers = h.answers }

  asked_kept : (a : Answer) (t : Todo) (ts : List Todo) (r : Asked Deed) (s : Proc) → Fit (value_of a) → AskedFits (DeedFits S) r → LocalsFit s → LocalsFit (act_by_asked program a t ts r s)
  asked_kept a t ts (Ok p) s k f h = deed_kept a t ts p.0 (record s { answers = [] }) k f.0 (record { frames = h.frames; answers = tt })
  asked_kept a t ts (Err (Wants c)) s k f h = record { frames = h.frames; answers = all_append Fit s.answers (value_of a ∷ []) h.answers (k, tt) }
  asked_kept a t ts (Err (Traps x)) s k f h = record { frames = h.frames; answers = h.answers }

  module _ (plan : Plan) (table : All IsConstantOf64Bits program.exprs) (calls : (t : ℕ) → CallIs S (kind_of program t)) (none : S 0) where
    pub head_fits : (t : Todo) (s : Proc) → LocalsFit s → AskedFits (DeedFits S) (head_deed program t s)
    head_fits t s h = deed_fits S program.exprs table (top_frame s.frames).cells (top_fits s.frames h.frames) (kind_of program t.stmt) s.answers (calls t.stmt) h.answers

    charged_kept : (need : Need) (s : Proc) → LocalsFit s → LocalsFit (charged plan need s)
    charged_kept need s h = record { frames = h.frames; answers = h.answers }

    by_need : (a : Answer) (t : Todo) (ts : List Todo) (need : Need) (s : Proc) → Fit (value_of a) → LocalsFit s → LocalsFit (act_by_need program plan a t ts need s)
    by_need a t ts n.Stopped s k h = h
    by_need a t ts n.Budget s k h = record { frames = h.frames; answers = h.answers }
    by_need a t ts (n.Enter b u) s k h = record { frames = h.frames; answers = h.answers }
    by_need a t ts (n.Offer c v) s k h = record { frames = h.frames; answers = tt }
    by_need a t ts (n.Done c u) s k h = record { frames = h.frames; answers = tt }
    by_need a t ts (n.Trap x) s k h = record { frames = h.frames; answers = h.answers }
    by_need a t ts need s k h = charged_kept need (act_by_asked program a t ts (head_deed program t s) s) (asked_kept a t ts (head_deed program t s) s k (head_fits t s h) h)

    at_kept : (a : Answer) (ts : List Todo) (s : Proc) → Fit (value_of a) → LocalsFit s → LocalsFit (act_at program plan a ts s)
    at_kept a [] s k h = h
    at_kept a (t ∷ ts) s k h = by_need a t ts (need_of program plan s) s k h

    pub act_kept : (s : Proc) (a : Answer) → Fit (value_of a) → LocalsFit s → LocalsFit (act program plan s a)
    act_kept s a k h = at_kept a s.todo s k h

    -- ---- what a step needs

    abbrev pub NeedFits : Need → Type 0
    NeedFits (n.Write c v) = Fit v
    NeedFits (n.Send c v u) = Fit v
    NeedFits (n.Offer c v) = Fit v
    NeedFits need = ⊤

    call_need : (b : Bool) (x y : Need) → NeedFits x → NeedFits y → NeedFits (if b then x else y)
    call_need true x y h k = h
    call_need false x y h k = k

    leaving_need : (t : ℕ) (o : Option ℕ) → NeedFits (need_of_leaving plan t o)
    leaving_need t None = tt
    leaving_need t (Some b) = tt

    send_need : (t capacity c : ℕ) (v : ℤ) → Fit v → NeedFits (need_of_send plan t capacity c v)
    send_need t zero c v h = h
    send_need t (suc k) c v h = h

    deed_need : (t : ℕ) (s : Proc) (d : Deed) → DeedFits S d → NeedFits (need_of_deed program plan t s d)
    deed_need t s (set_local c v) h = tt
    deed_need t s (set_shared c v) h = h
    deed_need t s (clear base len) h = tt
    deed_need t s (branch ss) h = tt
    deed_need t s (turn ss) h = tt
    deed_need t s leave h = leaving_need t (block_of plan _)
    deed_need t s (invoke g vs into) h = call_need (nat_lt MOST_CALLS (s.below + length s.frames)) _ _ tt tt
    deed_need t s (back v) h = tt
    deed_need t s (take o) h = tt
    deed_need t s (give o) h = tt
    deed_need t s (send c v) h = send_need t (capacity_of program c) c v h
    deed_need t s (receive c into) h = tt
    deed_need t s (print v) h = tt
    deed_need t s pass h = tt
    deed_need t s finish h = tt

    asked_need : (t : ℕ) (s : Proc) (r : Asked Deed) → AskedFits (DeedFits S) r → NeedFits (need_of_asked program plan t s r)
    asked_need t s (Ok p) h = deed_need t s p.0 h.0
    asked_need t s (Err (Wants c)) h = tt
    asked_need t s (Err (Traps x)) h = tt

    entry_need : (t : ℕ) (s : Proc) (o : Option ℕ) (r : Asked Deed) → AskedFits (DeedFits S) r → NeedFits (need_by_entry program plan t s o r)
    entry_need t s (Some b) r h = tt
    entry_need t s None r h = asked_need t s r h

    offer_need : (t : ℕ) (o : Option ℕ) (need : Need) → NeedFits need → NeedFits (need_by_offer plan t o need)
    offer_need t (Some c) need h = tt
    offer_need t None need h = h

    running_need : (ts : List Todo) (s : Proc) → LocalsFit s → NeedFits (need_of_running program plan ts s)
    running_need [] s h = tt
    running_need (t ∷ ts) s h =
        call_need (nat_lt s.budget _) n.Budget _ tt (offer_need t.stmt (offer_of program t) _ (entry_need t.stmt s (entry_of program plan t) (head_deed program t s) (head_fits t s h)))

    pub need_fits : (s : Proc) → LocalsFit s → NeedFits (need_of program plan s)
    need_fits s h = by s.status refl
      where
        by : (o : Option Status) → s.status ≡ o → NeedFits (need_of program plan s)
        by (Some x) e = subst NeedFits (sym (need_at_status program plan s (Some x) e)) tt
        by None e = subst NeedFits (sym (need_at_status program plan s None e)) (running_need s.todo s h)

    -- ---- what is passed

    abbrev Passed : List ℤ → Type 0
    Passed vs = All Fit vs × S (length vs)

    args_fit : (r : Asked Deed) → AskedFits (DeedFits S) r → Passed (arguments_by r)
    args_fit (Ok p) h = by p.0 h.0
      where
        by : (d : Deed) → DeedFits S d → Passed (arguments_by (Ok (d, p.1)))
        by (invoke g vs into) k = k
        by d k = (tt, none)
    args_fit (Err e) h = (tt, none)

    head_args : (s : Proc) (o : Option Todo) → LocalsFit s → Passed (arguments_of_head program s o)
    head_args s None h = (tt, none)
    head_args s (Some t) h = args_fit (head_deed program t s) (head_fits t s h)

    pub arguments_fit : (s : Proc) → LocalsFit s → All Fit (arguments_at program s) × S (length (arguments_at program s))
    arguments_fit s h = head_args s (slice_get s.todo 0) h

    result_fit : (r : Asked Deed) → AskedFits (DeedFits S) r → All Fit (option_to_list (result_by r))
    result_fit (Ok p) h = by p.0 h.0
      where
        by : (d : Deed) → DeedFits S d → All Fit (option_to_list (result_by (Ok (d, p.1))))
        by (back None) k = tt
        by (back (Some v)) k = (k, tt)
        by d k = tt
    result_fit (Err e) h = tt

    head_result : (s : Proc) (o : Option Todo) → LocalsFit s → All Fit (option_to_list (result_of_head program s o))
    head_result s None h = tt
    head_result s (Some t) h = result_fit (head_deed program t s) (head_fits t s h)

    pub result_fits : (s : Proc) → LocalsFit s → All Fit (result_at program s)
    result_fits s h = head_result s (slice_get s.todo 0) h

    pub cells_fit : (s : Proc) (cs : List ℕ) → LocalsFit s → All Fit (map (λ c. get_or (top_frame s.frames).cells c (pos 0)) cs)
    cells_fit s [] h = tt
    cells_fit s (c ∷ cs) h = (get_fits (top_frame s.frames).cells c (top_fits s.frames h.frames), cells_fit s cs h)

    -- ---- the start

    pub started_fits : (p budget : ℕ) → LocalsFit (started program plan p budget)
    started_fits p budget = record { frames = (for_fits (slice_get program.bodies (program.functions + p)) [] tt, tt); answers = tt }
