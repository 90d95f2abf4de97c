-- Which calls began the activations, after a step.
use Rattle.std.proofs.Common.{◌≡◌, ℕ, zero, suc, ◌+◌, ℤ, true, List, [], ◌∷◌, map, Option, Some, None, Ok, Err, refl, ap, sym, ◌∙◌, true≢false}
use Rattle.std.specs.Prelude.{drop}
use Rattle.ppd_ast.specs.Numbered.{is_call}
use Rattle.ppd_ast.specs.declared.plan.Plan.{Plan}
use Rattle.ppd_ast.specs.declared.program.Kind.{Kind}
use Rattle.ppd_ast.specs.declared.program.Program.{Program}
use Rattle.ppd_ast.specs.Lookups.{kind_of}
use Rattle.law_steps.specs.Course.{calls_left, calls_of}
use Rattle.law_steps.proofs.Course.Deeds.{DeedFits, Fits, deed_fits}
use Rattle.law_steps.proofs.Course.Frames.{calls_clear, calls_returned, calls_write}
use Rattle.ppd_sem.specs.declared.asking.Pause.TheVariants.{Wants, Traps}
use Rattle.ppd_sem.specs.declared.event.Event.{Event}
use Rattle.ppd_sem.specs.declared.proc.Answer.{Answer}
use Rattle.ppd_sem.specs.declared.proc.Proc.{Proc}
use Rattle.ppd_sem.specs.declared.proc.Todo.{Todo}
use Rattle.ppd_sem.specs.Asked.{Asked}
use Rattle.ppd_sem.specs.Deed.{Deed, set_local, set_shared, clear, branch, turn, leave, invoke, back, take, give, send, receive, print, pass, finish}
use Rattle.ppd_sem.specs.Process.{act_by_asked, act_by_deed, head_deed, value_of, top_frame, into_at}
use Rattle.ppd_model.specs.declared.trace.EventId.{EventId}
use Rattle.ppd_model.specs.declared.tracing.Activation.{Activation}
use Rattle.ppd_model.specs.FullTrace.{Tag, all_tagged, tagged, tagged_by, tagged_into, with_test}
use Rattle.law_flow.proofs.Places.Moves.{IsOther}

abbrev pub events_in : List Activation → List (Option EventId)
events_in xs = map (λ x. x.call) xs

-- ---- frames

-- a deed of a statement that neither calls nor returns
other_deed : (k : Kind) (d : Deed) → IsOther k → DeedFits k d → (P : Deed → Type 0)
    → ((c : ℕ) (x : ℤ) → P (set_local c x)) → ((c : ℕ) (x : ℤ) → P (set_shared c x)) → ((b n : ℕ) → P (clear b n))
    → ((ss : List ℕ) → P (branch ss)) → ((ss : List ℕ) → P (turn ss)) → P leave
    → ((x : ℕ) → P (take x)) → ((x : ℕ) → P (give x)) → ((c : ℕ) (x : ℤ) → P (send c x))
    → ((c i : ℕ) → P (receive c i)) → ((x : ℤ) → P (print x)) → P pass → P finish → P d
other_deed k (set_local c x) o f P p1 p2 p3 p4 p5 p6 p7 p8 p9 p10 p11 p12 p13 = p1 c x
other_deed k (set_shared c x) o f P p1 p2 p3 p4 p5 p6 p7 p8 p9 p10 p11 p12 p13 = p2 c x
other_deed k (clear b n) o f P p1 p2 p3 p4 p5 p6 p7 p8 p9 p10 p11 p12 p13 = p3 b n
other_deed k (branch ss) o f P p1 p2 p3 p4 p5 p6 p7 p8 p9 p10 p11 p12 p13 = p4 ss
other_deed k (turn ss) o f P p1 p2 p3 p4 p5 p6 p7 p8 p9 p10 p11 p12 p13 = p5 ss
other_deed k leave o f P p1 p2 p3 p4 p5 p6 p7 p8 p9 p10 p11 p12 p13 = p6
other_deed k (invoke g values into) o f P p1 p2 p3 p4 p5 p6 p7 p8 p9 p10 p11 p12 p13 =
    absurd (true≢false (sym (ap is_call f.kind_is) ∙ o.no_call))
other_deed k (back value) o f P p1 p2 p3 p4 p5 p6 p7 p8 p9 p10 p11 p12 p13 = absurd (true≢false (sym f ∙ o.stays))
other_deed k (take x) o f P p1 p2 p3 p4 p5 p6 p7 p8 p9 p10 p11 p12 p13 = p7 x
other_deed k (give x) o f P p1 p2 p3 p4 p5 p6 p7 p8 p9 p10 p11 p12 p13 = p8 x
other_deed k (send c x) o f P p1 p2 p3 p4 p5 p6 p7 p8 p9 p10 p11 p12 p13 = p9 c x
other_deed k (receive c i) o f P p1 p2 p3 p4 p5 p6 p7 p8 p9 p10 p11 p12 p13 = p10 c i
other_deed k (print x) o f P p1 p2 p3 p4 p5 p6 p7 p8 p9 p10 p11 p12 p13 = p11 x
other_deed k pass o f P p1 p2 p3 p4 p5 p6 p7 p8 p9 p10 p11 p12 p13 = p12
other_deed k finish o f P p1 p2 p3 p4 p5 p6 p7 p8 p9 p10 p11 p12 p13 = p13

module _ (program : Program) (plan : Plan) (a : Answer) (t : Todo) (ts : List Todo) (s : Proc) where
  fits : Fits (kind_of program t.stmt) (head_deed program t s)
  fits = deed_fits program.exprs (top_frame s.frames).cells s.answers (kind_of program t.stmt)

  frames_by : (x : Asked Deed) → IsOther (kind_of program t.stmt) → Fits (kind_of program t.stmt) x
      → calls_of (act_by_asked program a t ts x s).frames ≡ calls_of s.frames
  frames_by (Ok q) o f =
      other_deed (kind_of program t.stmt) q.0 o f
      (λ d. calls_of (act_by_deed program a t ts d (record s { answers = [] })).frames ≡ calls_of s.frames)
      (λ c x. calls_write c x s.frames) (λ c x. refl) (λ b n. calls_clear b n s.frames) (λ ss. refl)
      (λ ss. refl) refl (λ x. refl) (λ x. refl) (λ c x. refl) (λ c i. calls_write i (value_of a) s.frames)
      (λ x. refl) refl refl
  frames_by (Err (Wants c)) o f = refl
  frames_by (Err (Traps x)) o f = refl

  pub frames_other : IsOther (kind_of program t.stmt)
      → calls_of (act_by_asked program a t ts (head_deed program t s) s).frames ≡ calls_of s.frames
  frames_other o = frames_by (head_deed program t s) o fits

  pub frames_called : (f : ℕ) (values : List ℤ) (into : Option ℕ) (left : List ℤ)
      → head_deed program t s ≡ Ok (invoke f values into, left)
      → calls_of (act_by_asked program a t ts (head_deed program t s) s).frames ≡ Some t.stmt ∷ calls_of s.frames
  frames_called f values into left at = ap (λ x. calls_of (act_by_asked program a t ts x s).frames) at

  left_is : (cs : List (Option ℕ)) → calls_left true cs ≡ drop 1 cs
  left_is [] = refl
  left_is (c ∷ cs) = refl

  pub frames_back : (value : Option ℤ) (left : List ℤ) → head_deed program t s ≡ Ok (back value, left)
      → calls_of (act_by_asked program a t ts (head_deed program t s) s).frames ≡ drop 1 (calls_of s.frames)
  frames_back value left at = ap (λ x. calls_of (act_by_asked program a t ts x s).frames) at
      ∙ calls_returned program value s.frames ∙ left_is (calls_of s.frames)

  -- ---- activations

  tagged_same : (c : ℕ) (me : Tag) (xs : List Activation) → events_in (tagged c me xs) ≡ events_in xs
  tagged_same c me [] = refl
  tagged_same c me (x ∷ xs) = refl

  all_tagged_same : (base n : ℕ) (me : Tag) (xs : List Activation) → events_in (all_tagged base n me xs) ≡ events_in xs
  all_tagged_same base zero me xs = refl
  all_tagged_same base (suc n) me xs = tagged_same (base + n) me (all_tagged base n me xs)
      ∙ all_tagged_same base n me xs

  into_same : (into : Option ℕ) (value : Option ℤ) (me : Tag) (xs : List Activation)
      → events_in (tagged_into into value me xs) ≡ events_in xs
  into_same (Some c) (Some v) me xs = tagged_same c me xs
  into_same (Some c) None me xs = refl
  into_same None value me xs = refl

  pub test_same : (me : EventId) (e : Event) (xs : List Activation)
      → events_in (with_test program me e xs) ≡ events_in xs
  test_same me e [] = refl
  test_same me e (x ∷ xs) = refl

  tags_by : (x : Asked Deed) (me : Tag) (xs : List Activation) → IsOther (kind_of program t.stmt)
      → Fits (kind_of program t.stmt) x → events_in (tagged_by program s me x xs) ≡ events_in xs
  tags_by (Ok q) me xs o f =
      other_deed (kind_of program t.stmt) q.0 o f (λ d. events_in (tagged_by program s me (Ok (d, q.1)) xs)
      ≡ events_in xs)
      (λ c x. tagged_same c me xs) (λ c x. refl) (λ b n. all_tagged_same b n me xs) (λ ss. refl) (λ ss. refl) refl
      (λ x. refl) (λ x. refl) (λ c x. refl) (λ c i. tagged_same i me xs) (λ x. refl) refl refl
  tags_by (Err pause) me xs o f = refl

  pub tags_other : (me : Tag) (xs : List Activation) → IsOther (kind_of program t.stmt)
      → events_in (tagged_by program s me (head_deed program t s) xs) ≡ events_in xs
  tags_other me xs o = tags_by (head_deed program t s) me xs o fits

  pub tags_called : (me : Tag) (xs : List Activation) (f : ℕ) (values : List ℤ) (into : Option ℕ) (left : List ℤ)
      → head_deed program t s ≡ Ok (invoke f values into, left)
      → events_in (tagged_by program s me (head_deed program t s) xs) ≡ me ∷ events_in xs
  tags_called me xs f values into left at = ap (λ x. events_in (tagged_by program s me x xs)) at

  drop_in : (xs : List Activation) → events_in (drop 1 xs) ≡ drop 1 (events_in xs)
  drop_in [] = refl
  drop_in (x ∷ xs) = refl

  pub tags_back : (me : Tag) (xs : List Activation) (value : Option ℤ) (left : List ℤ)
      → head_deed program t s ≡ Ok (back value, left) → events_in (tagged_by program s me (head_deed program t s) xs)
      ≡ drop 1 (events_in xs)
  tags_back me xs value left at = ap (λ x. events_in (tagged_by program s me x xs)) at
      ∙ into_same (into_at program (top_frame s.frames).call) value me (drop 1 xs) ∙ drop_in xs
