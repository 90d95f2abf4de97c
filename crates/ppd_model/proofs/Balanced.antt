-- After each schedule the counts of semaphores and channels are balanced.
use Rattle.ppd_model.specs.Setting.{Setting}
use Rattle.std.proofs.Common.{◌≡◌, ℕ, zero, suc, ◌+◌, ◌<◌, ◌≤◌, ℤ, true, List, [], ◌∷◌, ◌++◌, length, map, Some, refl, ap, sym, subst, ◌∙◌, arith, length-append}
use Rattle.std.specs.Prelude.{slice_get}
use Rattle.std.proofs.lemmas.Bool.Decides.{nat_tests}
use Rattle.ppd_ast.specs.declared.plan.Plan.{Plan}
use Rattle.ppd_ast.specs.declared.program.Chan.{Chan}
use Rattle.ppd_ast.specs.declared.program.Program.{Program}
use Rattle.ppd_ast.specs.declared.program.Sem.{Sem}
use Rattle.ppd_sem.specs.declared.proc.Need.{Need}
use Rattle.ppd_sem.specs.declared.proc.Need.TheVariants.{Write, P, V, Send, Offer, Done, Recv}
use Rattle.ppd_model.specs.Bounds.{AreEach, CountsAreBalanced, IsBalanced, IsBalancedChan, IsBalancedSem}
use Rattle.ppd_model.specs.Schedule.{run_from, started_world}
use Rattle.ppd_model.specs.World.{World, Channel, Counts, can, change, effect, need, room_of, step}
use Rattle.ppd_model.proofs.WorldWords.{can_complete, can_receive, can_send, can_take}
use Rattle.ppd_model.proofs.Bounded.{Goes, goes}
use Rattle.ppd_model.proofs.Changes.{some}

pub each_change : {A B : Type 0} (R : A → B → Type 0) (f : B → B) (i : ℕ) (xs : List A) (ys : List B) → ((x : A) (y : B) → slice_get ys i ≡ Some y → R x y → R x (f y)) → AreEach R xs ys → AreEach R xs (change f i ys)
each_change R f i [] [] keeps h = h
each_change R f i [] (y ∷ ys) keeps h = absurd h
each_change R f i (x ∷ xs) [] keeps h = absurd h
each_change R f zero (x ∷ xs) (y ∷ ys) keeps h = (keeps x y refl h.0, h.1)
each_change R f (suc i) (x ∷ xs) (y ∷ ys) keeps h = (h.0, each_change R f i xs ys keeps h.1)

taken : (s : Sem) (x : Counts) → can_take (Some x) ≡ true → IsBalancedSem s x → IsBalancedSem s (record x { taken = x.taken + 1 })
taken s x e b =
    let less : x.taken < x.given = grind (arith, nat_tests) in
    record { first = b.first; taken = omega arith }

given : (s : Sem) (x : Counts) → IsBalancedSem s x → IsBalancedSem s (record x { given = x.given + 1 })
given s x b =
    let first : s.start ≤ x.given = b.first in
    let within : x.taken ≤ x.given = b.taken in
    record { first = omega arith; taken = omega arith }

sent : (c : Chan) (x : Channel) (v : ℤ) → can_send (Some x) ≡ true → IsBalancedChan c x → IsBalancedChan c (record x { sent = x.sent ++ v ∷ [] })
sent c x v e b =
    let less : length x.sent < room_of x.capacity x = grind (arith, nat_tests) in
    let within : x.received ≤ length x.sent = b.received in
    let more : length (x.sent ++ v ∷ []) ≡ length x.sent + 1 = length-append x.sent (v ∷ []) in
    let same : room_of (record x { sent = x.sent ++ v ∷ [] }).capacity (record x { sent = x.sent ++ v ∷ [] }) ≡ room_of x.capacity x = same_room x.capacity in
    record { capacity = b.capacity; completed = b.completed; received = omega arith; sent = omega arith }
  where
    same_room : (n : ℕ) → room_of n (record x { sent = x.sent ++ v ∷ [] }) ≡ room_of n x
    same_room zero = refl
    same_room (suc n) = refl

received : (c : Chan) (x : Channel) → can_receive (Some x) ≡ true → IsBalancedChan c x → IsBalancedChan c (record x { received = x.received + 1 })
received c x e b =
    let less : x.received < length x.sent = grind (arith, nat_tests) in
    let within : length x.sent ≤ room_of x.capacity x = b.sent in
    let below : x.completed ≤ x.received = b.completed in
    let more : room_of x.capacity x ≤ room_of (record x { received = x.received + 1 }).capacity (record x { received = x.received + 1 }) = more_room x.capacity in
    record { capacity = b.capacity; completed = omega arith; received = omega arith; sent = omega arith }
  where
    more_room : (n : ℕ) → room_of n x ≤ room_of n (record x { received = x.received + 1 })
    more_room zero = omega arith
    more_room (suc n) = omega arith

completed : (c : Chan) (x : Channel) → can_complete (Some x) ≡ true → IsBalancedChan c x → IsBalancedChan c (record x { completed = x.completed + 1 })
completed c x e b =
    let less : x.completed < x.received = grind (arith, nat_tests) in
    let within : length x.sent ≤ room_of x.capacity x = b.sent in
    let more : room_of x.capacity x ≤ room_of (record x { completed = x.completed + 1 }).capacity (record x { completed = x.completed + 1 }) = more_room x.capacity in
    record { capacity = b.capacity; completed = omega arith; received = b.received; sent = omega arith }
  where
    more_room : (n : ℕ) → room_of n x ≤ room_of n (record x { completed = x.completed + 1 })
    more_room zero = omega arith
    more_room (suc n) = omega arith

pub effect_balanced : (program : Program) (w : World) (n : Need) → can w n ≡ true → IsBalanced program w → IsBalanced program (effect w n)
effect_balanced program w (P s u) e b = record {
  sems = each_change IsBalancedSem (λ x. record x { taken = x.taken + 1 }) s program.sems w.sems (λ x y is h. taken x y (sym (ap can_take is) ∙ e) h) b.sems;
  chans = b.chans;
}
effect_balanced program w (V s u) e b = record {
  sems = each_change IsBalancedSem (λ x. record x { given = x.given + 1 }) s program.sems w.sems (λ x y is h. given x y h) b.sems;
  chans = b.chans;
}
effect_balanced program w (Send c v u) e b = record {
  sems = b.sems;
  chans = each_change IsBalancedChan (λ x. record x { sent = x.sent ++ v ∷ [] }) c program.chans w.chans (λ x y is h. sent x y v (sym (ap can_send is) ∙ e) h) b.chans;
}
effect_balanced program w (Offer c v) e b = record {
  sems = b.sems;
  chans = each_change IsBalancedChan (λ x. record x { sent = x.sent ++ v ∷ [] }) c program.chans w.chans (λ x y is h. sent x y v (sym (ap can_send is) ∙ e) h) b.chans;
}
effect_balanced program w (Done c u) e b = record {
  sems = b.sems;
  chans = each_change IsBalancedChan (λ x. record x { completed = x.completed + 1 }) c program.chans w.chans (λ x y is h. completed x y (sym (ap can_complete is) ∙ e) h) b.chans;
}
effect_balanced program w (Recv c u) e b = record {
  sems = b.sems;
  chans = each_change IsBalancedChan (λ x. record x { received = x.received + 1 }) c program.chans w.chans (λ x y is h. received x y (sym (ap can_receive is) ∙ e) h) b.chans;
}
effect_balanced program w (Write c v) e b = record { sems = b.sems; chans = b.chans }
effect_balanced program w n e b = b

pub step_balanced : (program : Program) (plan : Plan) (w : World) (p : ℕ) → can w (need program plan w p) ≡ true → IsBalanced program w → IsBalanced program (step program plan w p)
step_balanced program plan w p e b =
    let after : IsBalanced program (effect w (need program plan w p)) = effect_balanced program w (need program plan w p) e b in
    record { sems = after.sems; chans = after.chans }

started_sems : (sems : List Sem) → AreEach IsBalancedSem sems (map (λ s. record { given = s.start; taken = 0 }) sems)
started_sems [] = tt
started_sems (s ∷ ss) = (record { first = omega arith; taken = omega arith }, started_sems ss)

started_chans : (chans : List Chan) → AreEach IsBalancedChan chans (map (λ c. record { capacity = c.capacity; sent = []; received = 0; completed = 0 }) chans)
started_chans [] = tt
started_chans (c ∷ cs) = (record { capacity = refl; completed = omega arith; received = omega arith; sent = empty c.capacity }, started_chans cs)
  where
    empty : (n : ℕ) → 0 ≤ room_of n (record { capacity = c.capacity; sent = []; received = 0; completed = 0 })
    empty zero = omega arith
    empty (suc n) = omega arith

pub started_balanced : (setting : Setting) → IsBalanced setting.program (started_world setting)
started_balanced setting = record { sems = started_sems setting.program.sems; chans = started_chans setting.program.chans }

run_balanced : (program : Program) (plan : Plan) (w last : World) (h : List ℕ) → IsBalanced program w → run_from program plan w h ≡ Some last → IsBalanced program last
run_balanced program plan w last [] b e = subst (λ (x : World). IsBalanced program x) (some e) b
run_balanced program plan w last (p ∷ h) b e =
    let g : Goes program plan w last p h = goes program plan w last p h e in
    run_balanced program plan (step program plan w p) last h (step_balanced program plan w p g.enables b) g.rest

pub balanced : CountsAreBalanced
balanced setting h w e = run_balanced setting.program setting.plan (started_world setting) w h (started_balanced setting) e
