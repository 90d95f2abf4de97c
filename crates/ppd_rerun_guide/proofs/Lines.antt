-- A program's lines: more on other lines leaves a line free, and a record of a schedule has each entry once.
use Rattle.ppd_model.specs.Setting.{Setting}
use Rattle.std.proofs.Common.{◌≡◌, ℕ, zero, suc, ◌+◌, ◌<◌, ◌≤◌, List, [], ◌∷◌, Option, Some, None, Bool, true, refl, ap, ap₂, sym, subst, ◌∙◌, arith, length, eqb-true, eq-eqb, true≢false, nat_eq, ◌&&◌}
use Rattle.std.specs.Prelude.{IsTrue, slice_get, get_or}
use Rattle.std.proofs.lemmas.Bool.{and_from, and_parts}
use Rattle.std.proofs.lemmas.Option.{none-some}
use Rattle.ppd_ast.specs.declared.status.SyncKind.{SyncKind}
use Rattle.ppd_ast.specs.declared.status.SyncKind.TheVariants.{P, V, Send, Recv, Done}
use Rattle.ppd_model.specs.Entries.{same_kind}
use Rattle.ppd_model.specs.declared.graph.NodeId.{NodeId}
use Rattle.ppd_model.specs.HappenedBefore.{node}
use Rattle.ppd_model.specs.Numbers.{IsCounted, count_of, sync}
use Rattle.ppd_model.specs.Record.{sync_record}
use Rattle.ppd_model.specs.Schedule.{started_world}
use Rattle.ppd_model.specs.Story.{told}
use Rattle.ppd_model.specs.Synchronizations as s
use Rattle.ppd_model.proofs.Changes.{some}
use Rattle.ppd_model.proofs.Numbers.{are_counted}
use Rattle.ppd_model.proofs.SameSyncs.{same_is, same_self}
use Rattle.law_steps.proofs.Instance.Wants.{Line, has_room, machine, ready, declared}
use Rattle.law_steps.proofs.Schedules.Records.{line_in, number_at, sheet}
use Rattle.ppd_rerun_guide.specs.Guided.{is_let}
use Rattle.ppd_rerun_guide.proofs.Following.{IsMonotone, IsOnce}

-- ---- one synchronization

-- what a record lets is its next entry
pub let_is : (x : s.Sync) (o : Option s.Sync) → is_let (Some x) o ≡ true → o ≡ Some x
let_is x None h = absurd (true≢false (sym h))
let_is x (Some y) h = ap (λ (z : s.Sync). Some z) (sym (same_is x y h))

pub let_self : (x : s.Sync) → is_let (Some x) (Some x) ≡ true
let_self x = same_self x

-- ---- a line stays free

room_stays : (capacity : Option ℕ) (sent received completed received2 completed2 : ℕ) → received ≤ received2 → completed ≤ completed2 → has_room capacity sent received completed → has_room capacity sent received2 completed2
room_stays None sent received completed received2 completed2 a b h = absurd h
room_stays (Some zero) sent received completed received2 completed2 a b h = omega arith
room_stays (Some (suc n)) sent received completed received2 completed2 a b h = omega arith

stays : (capacity : Option ℕ) (kind : SyncKind) (o : ℕ) (c d : Line → ℕ) → ready capacity kind o c → c (kind, o) ≡ d (kind, o) → ((k : Line) → c k ≤ d k) → ready capacity kind o d
stays capacity P o c d h e le = let more : c (V, o) ≤ d (V, o) = le (V, o) in omega arith
stays capacity V o c d h e le = tt
stays capacity Send o c d h e le =
    subst (λ (n : ℕ). has_room capacity n (d (Recv, o)) (d (Done, o))) e
    (room_stays capacity (c (Send, o)) (c (Recv, o)) (c (Done, o)) (d (Recv, o)) (d (Done, o)) (le (Recv, o)) (le (Done, o)) h)
stays capacity Recv o c d h e le = let more : c (Send, o) ≤ d (Send, o) = le (Send, o) in omega arith
stays capacity Done o c d h e le = let more : c (Recv, o) ≤ d (Recv, o) = le (Recv, o) in omega arith

pub monotone : (setting : Setting) → IsMonotone (machine setting)
monotone setting l c d h e le = stays (declared setting.program l.1) l.0 l.1 c d h e le

-- ---- each entry once

-- an entry that is there
pub there_is : {A : Type 0} (xs : List A) (i : ℕ) → i < length xs → (x : A) × (slice_get xs i ≡ Some x)
there_is [] i h = absurd (omega (arith, h))
there_is (x ∷ xs) zero h = (x, refl)
there_is (x ∷ xs) (suc i) h = there_is xs i (omega (arith, h))

pub entry_is : (x : s.Sync) (l : Line) (n : ℕ) → line_in (Some x) ≡ l → x.number ≡ n → x ≡ sync l.0 l.1 n
entry_is x l n a b = ap₂ (λ (y : Line) (m : ℕ). sync y.0 y.1 m) a b

pub once : (setting : Setting) (h : List ℕ) → IsOnce (sheet (λ q. get_or (sync_record setting h) q []))
once setting h p q i j hi hj line number =
    let syncs : List (List s.Sync) = sync_record setting h in
    let x = there_is (get_or syncs p []) i hi in
    let y = there_is (get_or syncs q []) j hj in
    let line2 : line_in (Some x.0) ≡ line_in (Some y.0) = sym (ap line_in x.1) ∙ line ∙ ap line_in y.1 in
    let number2 : x.0.number ≡ y.0.number = sym (ap number_at x.1) ∙ number ∙ ap number_at y.1 in
    let same : x.0 ≡ y.0 = entry_is x.0 (line_in (Some y.0)) y.0.number line2 number2 in
    let counted : IsCounted (count_of (started_world setting)) (count_of (told setting h).world) syncs = are_counted setting h in
    let one : node p i ≡ node q j = counted.once (node p i) (node q j) x.0 x.1 (y.1 ∙ ap (λ (z : s.Sync). Some z) (sym same)) in
    (ap (λ (a : NodeId). a.process) one, ap (λ (a : NodeId). a.sync) one)
