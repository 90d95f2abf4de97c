-- Where the process closes its interval, so does the replay, with the same values.
use Rattle.std.proofs.Common.{◌≡◌, ℕ, ◌+◌, ◌≤◌, ℤ, List, [], ◌∷◌, ◌++◌, Bool, true, false, Option, Some, None, Ok, Err, refl, ap, ap₂, sym, subst, ◌∙◌, arith, true≢false, map, length, zero, suc}
use Rattle.std.proofs.lemmas.Bool.{cond-false, le-ltb}
use Rattle.std.specs.Prelude.{⊤, is_some, nat_lt, option_to_list, slice_get, if◌then◌else◌, get_or, pos}
use Rattle.ppd_ast.specs.declared.plan.BlockKind.TheVariants as block
use Rattle.ppd_ast.specs.declared.plan.Plan.{Plan}
use Rattle.ppd_ast.specs.declared.plan.Start.TheVariants as start
use Rattle.ppd_ast.specs.declared.program.Program.{Program}
use Rattle.ppd_ast.specs.declared.status.Trap.TheVariants as trap
use Rattle.ppd_ast.specs.declared.limits.TheConstants.{MOST_CALLS}
use Rattle.ppd_sem.specs.Blocks.{postlog_cells}
use Rattle.ppd_sem.specs.declared.asking.Pause.TheVariants.{Wants, Traps}
use Rattle.ppd_sem.specs.declared.proc.Frame.{Frame}
use Rattle.ppd_sem.specs.declared.proc.Need.{Need}
use Rattle.ppd_sem.specs.declared.proc.Need.TheVariants.{Leave, Invoke, Back, End, Trap, Budget, Stopped}
use Rattle.ppd_sem.specs.declared.proc.Proc.{Proc}
use Rattle.ppd_sem.specs.declared.proc.Todo.{Todo}
use Rattle.ppd_sem.specs.Asked.{Asked}
use Rattle.ppd_sem.specs.Deed.{Deed, set_local, set_shared, clear, branch, turn, leave, invoke, back, take, give, send, receive, print, pass, finish}
use Rattle.ppd_sem.specs.Passed.{result_at, result_by}
use Rattle.ppd_sem.proofs.EventWords.{result_of_head}
use Rattle.ppd_sem.specs.Process.{call_unit, cost, entry_of, head_deed, need_of, need_of_asked, need_of_deed, need_of_head, need_of_leaving, need_of_send, offer_of, within_budget, top_frame}
use Rattle.ppd_sem.proofs.NeedWords.{need_by_entry, need_by_offer}
use Rattle.ppd_sem.specs.Tables.{block_of, capacity_of, unit_of}
use Rattle.ppd_sem.proofs.TableWords.{or_zero}
use Rattle.ppd_sem.proofs.Paid.{need-paid}
use Rattle.ppd_sem.proofs.Progress.{need_at_todo}
use Rattle.ppd_model.specs.Marks.{Mark, closed}
use Rattle.ppd_model.proofs.ReplayWords.{postlog_wanted}
use Rattle.ppd_model.specs.Replay.{is_budget}
use Rattle.law_steps.proofs.Vocabulary.Alone.{IsClosing}
use Rattle.law_steps.proofs.Vocabulary.Relation.{HasEnds, IsBeside, IsBlock, Stacked, at_base, called}
use Rattle.law_steps.proofs.Beside.Kept.{head}
use Rattle.law_steps.proofs.Beside.Framed.{framed}
use Rattle.law_steps.proofs.Beside.HeadNeeds.{deed_is}
use Rattle.law_steps.proofs.Beside.Turned.{head_is}

abbrev pub AreUsed : (ℕ → Type 0) → List ℕ → Type 0
AreUsed used [] = ⊤
AreUsed used (c ∷ cs) = used c × AreUsed used cs

module _ (program : Program) (plan : Plan) (used inside : ℕ → Type 0) (calls : Type 0) (closer : Todo) (home : ℕ)
    (depth : ℕ) (ends : HasEnds program) (block_is : IsBlock program used inside calls) (outside : List Todo)
    -- the postlog of a loop among the interval's statements has cells that the interval uses
    (postlogs : (s b : ℕ) → inside s → block_of plan (block.Loop s) ≡ Some b
    → AreUsed used (postlog_cells plan b)) where
  same_values : (cs : List ℕ) (xs ys : List ℤ) → ((c : ℕ) → used c → get_or xs c (pos 0) ≡ get_or ys c (pos 0)) → AreUsed used cs
      → map (λ c. get_or xs c (pos 0)) cs ≡ map (λ c. get_or ys c (pos 0)) cs
  same_values [] xs ys h u = refl
  same_values (c ∷ cs) xs ys h u = ap₂ (λ v (vs : List ℤ). v ∷ vs) (h c u.0) (same_values cs xs ys h u.1)

  values_are : (fs gs : List Frame) (t : Todo) (ts : List Todo) (b : ℕ)
      → block_of plan (block.Loop t.stmt) ≡ Some b → Stacked program used inside calls closer home fs gs (t ∷ ts)
      → map (λ c. get_or (top_frame fs).cells c (pos 0)) (postlog_cells plan b) ≡ map (λ c. get_or (top_frame gs).cells c (pos 0)) (postlog_cells plan b)
  values_are fs gs t ts b e (at_base f g fs' gs' todo same body first within) =
      same_values (postlog_cells plan b) f.cells g.cells same.cells.values (postlogs t.stmt b within.0.0 e)
  values_are fs gs t ts b e (called f fs' gs' todo k has below) = refl

  bodies_are : (fs gs : List Frame) (todo : List Todo) → Stacked program used inside calls closer home fs gs todo
      → (top_frame fs).body ≡ (top_frame gs).body
  bodies_are fs gs todo (at_base f g fs' gs' todo' same body first within) = same.body
  bodies_are fs gs todo (called f fs' gs' todo' k has below) = refl

  -- the return that closes costs the replay no more
  cheaper : (fs gs : List Frame) (todo : List Todo) (o : Option ℕ)
      → Stacked program used inside calls closer home fs gs todo
      → cost plan (Back o (call_unit plan (top_frame gs).call)) ≤ cost plan (Back o (call_unit plan (top_frame fs).call))
  cheaper fs gs todo o (called f fs' gs' todo' k has below) = omega arith
  cheaper fs gs todo o (at_base f g fs' gs' todo' same body first within) =
      subst (λ c. cost plan (Back o (call_unit plan c)) ≤ cost plan (Back o (call_unit plan f.call))) (sym first)
      (by f.call)
    where
      by : (c : Option ℕ) → cost plan (Back o None) ≤ cost plan (Back o (call_unit plan c))
      by None = omega arith
      by (Some x) = omega arith

  is_closing_need : Need → Bool
  is_closing_need (Leave b u) = true
  is_closing_need (Back o u) = true
  is_closing_need (End b) = true
  is_closing_need n = false

  unspent : (s : Proc) (n : Need) (mark : Mark) → closed program plan s n ≡ Some mark → is_budget n ≡ false
  unspent s Budget mark e = absurd (true≢false (ap is_some (sym e)))
  unspent s n mark e = refl

  goes : (s : Proc) (n : Need) (mark : Mark) → closed program plan s n ≡ Some mark → n ≡ Stopped → ⊥
  goes s n mark e is = true≢false (ap is_some (sym e ∙ ap (closed program plan s) is))

  spent_not : (s : Proc) (n : Need) (mark : Mark) → closed program plan s n ≡ Some mark → n ≡ Budget → ⊥
  spent_not s n mark e is = true≢false (ap is_some (sym e ∙ ap (closed program plan s) is))

  module _ (s r : Proc) (mark : Mark) (b : IsBeside program used inside calls closer home depth outside s r)
      (running : s.status ≡ None) (closes : closed program plan s (need_of program plan s) ≡ Some mark) (t : Todo)
      (ts : List Todo) (todo : r.todo ≡ t ∷ ts) where
    abbrev n : Need
    n = need_of program plan s

    stacked : Stacked program used inside calls closer home s.frames r.frames (t ∷ ts)
    stacked = (framed program used inside calls closer home depth ends block_is outside s r t ts todo b).stacked

    own : s.todo ≡ t ∷ (ts ++ outside)
    own = b.todo ∙ ap (λ ys. ys ++ outside) todo

    paid : s.spent + cost plan n ≤ s.budget
    paid = need-paid program plan s n refl (goes s n mark closes) (spent_not s n mark closes)

    same_head : need_of_head program plan t s ≡ n
    same_head = head_is program plan s t (ts ++ outside) n running own refl (unspent s n mark closes)

    deed_same : head_deed program t s ≡ head_deed program t r
    deed_same = deed_is program used inside calls closer home depth ends block_is outside s r t ts b
        (framed program used inside calls closer home depth ends block_is outside s r t ts todo b)

    -- the replay needs this, where it can be paid for
    replays : (m : Need) → need_of_head program plan t r ≡ m → cost plan m ≤ cost plan n → need_of program plan r ≡ m
    replays m e cheap =
        need_at_todo program plan r (t ∷ ts) (sym b.status ∙ running) todo ∙ ap (λ x. within_budget plan r x) e
        ∙ cond-false (nat_lt r.budget (r.spent + cost plan m)) Budget m
        (le-ltb r.budget (r.spent + cost plan m) (omega (arith, b.spent, b.budget, paid, cheap)))

    results : (v : Option ℤ) (left : List ℤ) → head_deed program t s ≡ Ok (back v, left)
        → result_at program s ≡ result_at program r
    results v left e =
        ap (λ ys. option_to_list (result_of_head program s (slice_get ys 0))) own
        ∙ ap (λ q. option_to_list (result_by q)) deed_same
        ∙ sym (ap (λ ys. option_to_list (result_of_head program r (slice_get ys 0))) todo)

    closing : (m : Need) → need_of_head program plan t r ≡ m → cost plan m ≤ cost plan n → is_closing_need m ≡ true
        → closed program plan r m ≡ Some mark → IsClosing program plan mark r
    unfolding is_closing_need
    closing (Leave x u) e cheap k c =
        record {
          need = Leave x u;
          need_is = replays (Leave x u) e cheap;
          payable = refl;
          wants = ap (λ o. postlog_wanted o) c;
          no_trap = refl;
        }
    closing (Back o u) e cheap k c =
        record {
          need = Back o u;
          need_is = replays (Back o u) e cheap;
          payable = refl;
          wants = ap (λ z. postlog_wanted z) c;
          no_trap = refl;
        }
    closing (End x) e cheap k c =
        record {
          need = End x;
          need_is = replays (End x) e cheap;
          payable = refl;
          wants = ap (λ o. postlog_wanted o) c;
          no_trap = refl;
        }
    closing m e cheap k c = absurd (true≢false (sym k))

    none_closes : {m : Need} → need_of_head program plan t s ≡ m → closed program plan s m ≡ None
        → IsClosing program plan mark r
    none_closes e c = absurd (true≢false (ap is_some (sym closes ∙ ap (closed program plan s) (sym same_head ∙ e) ∙ c)))

    by_leaving : (o : Option ℕ) → block_of plan (block.Loop t.stmt) ≡ o
        → need_of_head program plan t s ≡ need_of_leaving plan t.stmt o
        → need_of_head program plan t r ≡ need_of_leaving plan t.stmt o → IsClosing program plan mark r
    unfolding is_closing_need
    by_leaving None eo es er = none_closes es refl
    by_leaving (Some x) eo es er =
        let m : Need = Leave x (unit_of plan (start.Exit t.stmt)) in
        let is : closed program plan s m ≡ Some mark = ap (closed program plan s) (sym es ∙ same_head) ∙ closes in
        closing m er (let z : cost plan m ≡ cost plan n = ap (cost plan) (sym es ∙ same_head) in omega (arith, z)) refl
        (ap (λ vs. Some (record { block = x; values = vs })) (sym (values_are s.frames r.frames t ts x eo stacked))
        ∙ is)

    by_back : (v : Option ℤ) (left : List ℤ) (o : Option ℕ)
        → o ≡ block_of plan (block.Function (top_frame s.frames).body) → head_deed program t s ≡ Ok (back v, left)
        → need_of_head program plan t s ≡ Back o (call_unit plan (top_frame s.frames).call)
        → need_of_head program plan t r ≡ Back o (call_unit plan (top_frame r.frames).call)
        → IsClosing program plan mark r
    unfolding is_closing_need
    by_back v left None eo e es er = none_closes es refl
    by_back v left (Some x) eo e es er =
        let m : Need = Back (Some x) (call_unit plan (top_frame r.frames).call) in
        let is : closed program plan s (Back (Some x) (call_unit plan (top_frame s.frames).call)) ≡ Some mark =
        ap (closed program plan s) (sym es ∙ same_head) ∙ closes in
        let z : cost plan (Back (Some x) (call_unit plan (top_frame s.frames).call)) ≡ cost plan n =
        ap (cost plan) (sym es ∙ same_head) in
        closing m er (omega (arith, z, cheaper s.frames r.frames (t ∷ ts) (Some x) stacked)) refl
        (ap (λ vs. Some (record { block = x; values = vs })) (sym (results v left e)) ∙ is)

    by_finish : (x y : ℕ) → x ≡ y → need_of_head program plan t s ≡ End x → need_of_head program plan t r ≡ End y
        → IsClosing program plan mark r
    unfolding is_closing_need
    by_finish x y same es er =
        let is : closed program plan s (End x) ≡ Some mark = ap (closed program plan s) (sym es ∙ same_head) ∙ closes in
        let z : cost plan (End x) ≡ cost plan n = ap (cost plan) (sym es ∙ same_head) in
        closing (End y) er (omega (arith, z)) refl (ap (λ k. Some (record { block = k; values = [] })) (sym same) ∙ is)

    calls_none : (deep : Bool) (o : Option ℕ) (u : ℕ)
        → closed program plan s (if deep then Trap trap.Depth else Invoke o u) ≡ None
    calls_none true o u = refl
    calls_none false None u = refl
    calls_none false (Some x) u = refl

    sends_none : (n a : ℕ) (v : ℤ) → closed program plan s (need_of_send plan t.stmt n a v) ≡ None
    sends_none zero a v = refl
    sends_none (suc n) a v = refl

    by_deed : (d : Deed) (left : List ℤ) → head_deed program t s ≡ Ok (d, left)
        → need_of_head program plan t s ≡ need_of_deed program plan t.stmt s d
        → need_of_head program plan t r ≡ need_of_deed program plan t.stmt r d → IsClosing program plan mark r
    by_deed leave left e es er = by_leaving (block_of plan (block.Loop t.stmt)) refl es er
    by_deed (back v) left e es er =
        by_back v left (block_of plan (block.Function (top_frame s.frames).body)) refl e es
        (er ∙ ap (λ x. Back (block_of plan (block.Function x)) (call_unit plan (top_frame r.frames).call))
        (sym (bodies_are s.frames r.frames (t ∷ ts) stacked)))
    by_deed finish left e es er =
        by_finish (or_zero (block_of plan (block.Process (top_frame s.frames).body)))
        (or_zero (block_of plan (block.Process (top_frame r.frames).body)))
        (ap (λ x. or_zero (block_of plan (block.Process x))) (bodies_are s.frames r.frames (t ∷ ts) stacked)) es er
    by_deed (invoke f vs into) left e es er =
        none_closes es (calls_none (nat_lt MOST_CALLS (s.below + length s.frames)) (block_of plan (block.Function f))
        (unit_of plan (start.Entry f)))
    by_deed (set_local a v) left e es er = none_closes es refl
    by_deed (set_shared a v) left e es er = none_closes es refl
    by_deed (clear a k) left e es er = none_closes es refl
    by_deed (branch ss) left e es er = none_closes es refl
    by_deed (turn ss) left e es er = none_closes es refl
    by_deed (take a) left e es er = none_closes es refl
    by_deed (give a) left e es er = none_closes es refl
    by_deed (send a v) left e es er = none_closes es (sends_none (capacity_of program a) a v)
    by_deed (receive a i) left e es er = none_closes es refl
    by_deed (print v) left e es er = none_closes es refl
    by_deed pass left e es er = none_closes es refl

    by_asked : (q : Asked Deed) → head_deed program t s ≡ q
        → need_of_head program plan t s ≡ need_of_asked program plan t.stmt s q
        → need_of_head program plan t r ≡ need_of_asked program plan t.stmt r q → IsClosing program plan mark r
    by_asked (Ok p) e es er = by_deed p.0 p.1 e es er
    by_asked (Err (Wants a)) e es er = none_closes es refl
    by_asked (Err (Traps a)) e es er = none_closes es refl

    abbrev asks : Proc → Need
    asks x = need_by_entry program plan t.stmt x (entry_of program plan t) (head_deed program t x)

    by_entry : (o : Option ℕ) → entry_of program plan t ≡ o → need_of_head program plan t s ≡ asks s
        → need_of_head program plan t r ≡ asks r → IsClosing program plan mark r
    by_entry (Some x) e es er =
        none_closes (es ∙ ap (λ o. need_by_entry program plan t.stmt s o (head_deed program t s)) e) refl
    by_entry None e es er =
        by_asked (head_deed program t s) refl
        (es ∙ ap (λ o. need_by_entry program plan t.stmt s o (head_deed program t s)) e)
        (er ∙ ap₂ (λ o q. need_by_entry program plan t.stmt r o q) e (sym deed_same))

    by_offer : (o : Option ℕ) → offer_of program t ≡ o → IsClosing program plan mark r
    by_offer (Some x) e = none_closes (ap (λ o. need_by_offer plan t.stmt o (asks s)) e) refl
    by_offer None e = by_entry (entry_of program plan t) refl (ap (λ o. need_by_offer plan t.stmt o (asks s)) e)
        (ap (λ o. need_by_offer plan t.stmt o (asks r)) e)

    closes_so : IsClosing program plan mark r
    closes_so = by_offer (offer_of program t) refl

  -- the replay closes the interval where the process does
  pub closes_alike : (s r : Proc) (mark : Mark) → IsBeside program used inside calls closer home depth outside s r
      → s.status ≡ None → closed program plan s (need_of program plan s) ≡ Some mark → IsClosing program plan mark r
  closes_alike s r mark b running closes =
      let h = head program plan used inside calls closer home depth outside s r b in
      closes_so s r mark b running closes h.0 h.1 h.2
