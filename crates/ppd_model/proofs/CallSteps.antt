-- An activation is begun by the event of a call alone.
use Rattle.std.proofs.Common.{◌≡◌, ℕ, ◌≤◌, ℤ, true, false, List, [], ◌∷◌, Option, Some, Ok, refl, ap, sym, subst, length, arith, ◌∙◌, true≢false}
use Rattle.std.specs.Prelude.{⊤, drop}
use Rattle.ppd_ast.specs.declared.plan.Plan.{Plan}
use Rattle.ppd_ast.specs.declared.program.Expr.{Expr}
use Rattle.ppd_ast.specs.declared.program.Kind.{Kind}
use Rattle.ppd_ast.specs.declared.program.Program.{Program}
use Rattle.ppd_ast.specs.Lookups.{kind_of}
use Rattle.ppd_ast.specs.Numbered.{is_call}
use Rattle.ppd_sem.specs.declared.event.Event.{Event}
use Rattle.ppd_sem.specs.declared.proc.Need.{Need}
use Rattle.ppd_sem.specs.declared.proc.Need.TheVariants.{Trap}
use Rattle.ppd_sem.specs.declared.proc.Proc.{Proc}
use Rattle.ppd_sem.specs.declared.proc.Todo.{Todo}
use Rattle.ppd_sem.specs.Asked.{Asked}
use Rattle.ppd_sem.specs.Deed.{Deed, set_local, clear, invoke, back, receive, ask_deed}
use Rattle.ppd_sem.specs.Process.{head_deed, top_frame}
use Rattle.ppd_sem.specs.Described.{is_event}
use Rattle.ppd_sem.proofs.OfKind.{IsDeedOf, OfAsked, asked_holds, invokes}
use Rattle.ppd_model.specs.declared.trace.EventId.{EventId}
use Rattle.ppd_model.specs.FullTrace.{Activation, Tag, Tracing, all_tagged, event_of, me_in, tagged, tagged_after, tagged_by, tagged_into, trace_step, with_test}
use Rattle.ppd_model.proofs.TraceWords.{tagged_at}
use Rattle.ppd_model.specs.Story.{Story, Taken}
use Rattle.ppd_model.proofs.TestSteps.{all_tagged_views, event_acts, into_views, tagged_views, views}

-- what is asked is no call
abbrev NoCall : Asked Deed → Type 0
NoCall (Ok (invoke f values into, left)) = ⊥
NoCall asked = ⊤

abbrev CallFits : Kind → Deed → Type 0
CallFits k (invoke f values into) = is_call k ≡ true
CallFits k d = ⊤

call_fits : (k : Kind) (d : Deed) → IsDeedOf k d → CallFits k d
call_fits k d (invokes values count) = refl
call_fits k d is = tt

of_no_call : (k : Kind) (asked : Asked Deed) → is_call k ≡ false → OfAsked (CallFits k) asked → NoCall asked
of_no_call k (Ok (invoke f values into, left)) isnt is = absurd (true≢false (sym is ∙ isnt))
of_no_call k asked isnt is = tt

no_call : (es : List Expr) (k : Kind) (cells answers : List ℤ) → is_call k ≡ false → NoCall (ask_deed es k cells answers)
no_call es k cells answers isnt =
    of_no_call k (ask_deed es k cells answers) isnt (asked_holds es cells answers (CallFits k) k (call_fits k))

-- ---- no more activations

abbrev Within : List Activation → List Activation → Type 0
Within xs ys = length (views xs) ≤ length (views ys)

same_within : (xs ys : List Activation) → views xs ≡ views ys → Within xs ys
same_within xs ys e = let n : length (views xs) ≡ length (views ys) = ap length e in omega arith

drop_within : (into : Option ℕ) (value : Option ℤ) (me : Tag) (xs : List Activation) → Within (tagged_into into value me (drop 1 xs)) xs
drop_within into value me [] = same_within (tagged_into into value me []) [] (into_views into value me [])
drop_within into value me (x ∷ xs) = let n : length (views (tagged_into into value me xs)) ≡ length (views xs) = ap length (into_views into value me xs) in omega arith

by_deed : (program : Program) (s : Proc) (me : Tag) (asked : Asked Deed) (xs : List Activation) → NoCall asked → Within (tagged_by program s me asked xs) xs
by_deed program s me (Ok (set_local c v, left)) xs h = same_within (tagged c me xs) xs (tagged_views c me xs)
by_deed program s me (Ok (clear base len, left)) xs h = same_within (all_tagged base len me xs) xs (all_tagged_views base len me xs)
by_deed program s me (Ok (invoke f values into, left)) xs h = absurd h
by_deed program s me (Ok (back value, left)) xs h = drop_within _ value me xs
by_deed program s me (Ok (receive chan into, left)) xs h = same_within (tagged into me xs) xs (tagged_views into me xs)
by_deed program s me asked xs h = same_within xs xs refl

by_todo : (program : Program) (plan : Plan) (s : Proc) (x : Taken) (me : Tag) (todo : List Todo) (xs : List Activation) → is_call (kind_of program (event_of program plan s x todo).stmt) ≡ false → Within (tagged_at program s me todo xs) xs
by_todo program plan s x me [] xs h = same_within xs xs refl
by_todo program plan s x me (t ∷ ts) xs h = by_deed program s me (head_deed program t s) xs (no_call program.exprs (kind_of program t.stmt) (top_frame s.frames).cells s.answers h)

by_need : (program : Program) (plan : Plan) (s : Proc) (x : Taken) (me : Tag) (n : Need) (xs : List Activation) → is_call (kind_of program (event_of program plan s x s.todo).stmt) ≡ false → Within (tagged_after program s me n xs) xs
by_need program plan s x me (Trap t) xs h = same_within xs xs refl
by_need program plan s x me n xs h = by_todo program plan s x me s.todo xs h

pub tested_length : (program : Program) (me : EventId) (e : Event) (acts : List Activation) → length (views (with_test program me e acts)) ≡ length (views acts)
tested_length program me e [] = refl
tested_length program me e (a ∷ as') = refl

-- an event of another statement begins no activation
pub begins_none : (program : Program) (plan : Plan) (story : Story) (p : ℕ) (u : Tracing) (x : Taken) → is_event x.need ≡ true → is_call (kind_of program (event_of program plan u.proc x u.proc.todo).stmt) ≡ false
    → length (views (trace_step program plan story p u x).activations) ≤ length (views u.activations)
begins_none program plan story p u x is isnt =
    let e : Event = event_of program plan u.proc x u.proc.todo in
    let tested : List Activation = with_test program (me_in p u) e u.activations in
    let n : length (views tested) ≡ length (views u.activations) = tested_length program (me_in p u) e u.activations in
    let le : length (views (tagged_after program u.proc (Some (me_in p u)) x.need tested)) ≤ length (views tested) = by_need program plan u.proc x (Some (me_in p u)) x.need tested isnt in
    subst (λ acts. length (views acts) ≤ length (views u.activations)) (sym (event_acts program plan story p x x.need u is)) (omega arith)
