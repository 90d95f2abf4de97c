-- In a story the synchronizations of one kind and object have the numbers that go up by one, each once.
use Rattle.std.proofs.Common.{◌≡◌, ℕ, zero, suc, ◌+◌, ◌<◌, List, [], ◌∷◌, ◌++◌, Option, Some, None, refl, ap, sym, subst, ◌∙◌, arith, length, map, get_or, inl, inr}
use Rattle.std.proofs.lemmas.Bool.{cases_eq}
use Rattle.std.proofs.lemmas.List.{append-nil, length-map}
use Rattle.std.proofs.lemmas.Option.{none-some}
use Rattle.std.specs.List.{cons_option}
use Rattle.std.specs.Prelude.{fold, option_map, option_to_list, slice_get, filter_map}
use Rattle.ppd_ast.specs.declared.plan.Plan.{Plan}
use Rattle.ppd_ast.specs.declared.program.Program.{Program}
use Rattle.ppd_ast.specs.declared.status.SyncKind.{SyncKind}
use Rattle.ppd_ast.specs.declared.status.SyncKind.TheVariants.{P, V, Send, Recv, Done}
use Rattle.ppd_sem.specs.declared.proc.Need.{Need}
use Rattle.ppd_sem.specs.declared.proc.Need.TheVariants as n
use Rattle.ppd_sem.specs.declared.proc.Proc.{Proc}
use Rattle.ppd_model.specs.World.{World, Counts, Channel, change, effect, need}
use Rattle.ppd_model.proofs.WorldWords.{need_at, number_after}
use Rattle.ppd_model.specs.Schedule.{started_world}
use Rattle.ppd_model.specs.Story.{Moment, Taken, Telling, begun, moment_of, number_of, steps_of, tell}
use Rattle.ppd_model.specs.Synchronizations.{Sync, kind_of_sync, numbered, sync_of}
use Rattle.ppd_model.specs.Numbers.{Counting, IsCounted, count_in, count_of}
use Rattle.ppd_model.specs.Laws.{SynchronizationsAreCounted}
use Rattle.ppd_model.proofs.Changes.{change-at, change-else, change-none, length-change, own-at, own-else}
use Rattle.ppd_model.proofs.Counting.{counting}
use Rattle.ppd_model.proofs.CountedOn.{counted_after}
use Rattle.ppd_model.proofs.Stories.{steps-change}

-- ---- the record with one more step

pub syncs-append : (xs : List Taken) (x : Taken) → filter_map sync_of (xs ++ x ∷ []) ≡ filter_map sync_of xs ++ option_to_list (sync_of x)
syncs-append [] x = one (sync_of x)
  where
    one : (o : Option Sync) → cons_option o [] ≡ option_to_list o
    one None = refl
    one (Some s) = refl
syncs-append (y ∷ ys) x = ap (λ zs. cons_option (sync_of y) zs) (syncs-append ys x) ∙ grouped (sync_of y) (filter_map sync_of ys) (option_to_list (sync_of x))
  where
    grouped : (o : Option Sync) (ss ts : List Sync) → cons_option o (ss ++ ts) ≡ cons_option o ss ++ ts
    grouped None ss ts = refl
    grouped (Some s) ss ts = refl

pub record-change : (x : Taken) (p : ℕ) (steps : List (List Taken)) → map (filter_map sync_of) (change (λ xs. xs ++ x ∷ []) p steps) ≡ change (λ ss. ss ++ option_to_list (sync_of x)) p (map (filter_map sync_of) steps)
record-change x p [] = refl
record-change x zero (xs ∷ rest) = ap (λ ss. ss ∷ map (filter_map sync_of) rest) (syncs-append xs x)
record-change x (suc p) (xs ∷ rest) = ap (λ ss. filter_map sync_of xs ∷ ss) (record-change x p rest)

-- ---- a step that is no synchronization changes no count

no_number : {A : Type 0} (count : A → ℕ) (x : Option A) → number_after count x ≡ None → x ≡ None
no_number count None e = refl
no_number count (Some y) e = absurd (none-some (count y + 1) (sym e))

unnumbered : (k : SyncKind × ℕ) (number : Option ℕ) → numbered (Some k) number ≡ None → number ≡ None
unnumbered k None e = refl
unnumbered k (Some m) e = absurd (none-some (record { kind = k.0; object = k.1; number = m }) (sym e))

-- past the end, or another object
not_there : {A : Type 0} (count : A → ℕ) (f : A → A) (xs : List A) (o o' : ℕ) → slice_get xs o ≡ None → count_in count (slice_get (change f o xs) o') ≡ count_in count (slice_get xs o')
not_there count f xs o o' none = elim (cases_eq o' o) [
  | inl e ↦ subst (λ z. count_in count (slice_get (change f o xs) z) ≡ count_in count (slice_get xs z)) (sym e)
      (ap (λ x. count_in count x) (change-at f o xs ∙ ap (λ x. option_map f x) none ∙ sym none))
  | inr d ↦ ap (λ x. count_in count x) (change-else f o o' xs d)
]

no_sem : (count : Counts → ℕ) (w : World) (o : ℕ) (k : SyncKind × ℕ) → numbered (Some k) (number_after count (slice_get w.sems o)) ≡ None → slice_get w.sems o ≡ None
no_sem count w o k e = no_number count (slice_get w.sems o) (unnumbered k (number_after count (slice_get w.sems o)) e)

no_chan : (count : Channel → ℕ) (w : World) (o : ℕ) (k : SyncKind × ℕ) → numbered (Some k) (number_after count (slice_get w.chans o)) ≡ None → slice_get w.chans o ≡ None
no_chan count w o k e = no_number count (slice_get w.chans o) (unnumbered k (number_after count (slice_get w.chans o)) e)

uncounted : (w : World) (step : Need) → numbered (kind_of_sync step) (number_of w step) ≡ None → (kind : SyncKind) (object : ℕ) → count_of (effect w step) kind object ≡ count_of w kind object
uncounted w (n.P o u) e P o' = not_there (λ (x : Counts). x.taken) (λ x. record x { taken = x.taken + 1 }) w.sems o o' (no_sem (λ x. x.taken) w o (P, o) e)
uncounted w (n.P o u) e V o' = not_there (λ (x : Counts). x.given) (λ x. record x { taken = x.taken + 1 }) w.sems o o' (no_sem (λ x. x.taken) w o (P, o) e)
uncounted w (n.P o u) e Send o' = refl
uncounted w (n.P o u) e Recv o' = refl
uncounted w (n.P o u) e Done o' = refl
uncounted w (n.V o u) e P o' = not_there (λ (x : Counts). x.taken) (λ x. record x { given = x.given + 1 }) w.sems o o' (no_sem (λ x. x.given) w o (V, o) e)
uncounted w (n.V o u) e V o' = not_there (λ (x : Counts). x.given) (λ x. record x { given = x.given + 1 }) w.sems o o' (no_sem (λ x. x.given) w o (V, o) e)
uncounted w (n.V o u) e Send o' = refl
uncounted w (n.V o u) e Recv o' = refl
uncounted w (n.V o u) e Done o' = refl
uncounted w (n.Send o v u) e P o' = refl
uncounted w (n.Send o v u) e V o' = refl
uncounted w (n.Send o v u) e Send o' = not_there (λ (x : Channel). length x.sent) (λ x. record x { sent = x.sent ++ v ∷ [] }) w.chans o o' (no_chan (λ x. length x.sent) w o (Send, o) e)
uncounted w (n.Send o v u) e Recv o' = not_there (λ (x : Channel). x.received) (λ x. record x { sent = x.sent ++ v ∷ [] }) w.chans o o' (no_chan (λ x. length x.sent) w o (Send, o) e)
uncounted w (n.Send o v u) e Done o' = not_there (λ (x : Channel). x.completed) (λ x. record x { sent = x.sent ++ v ∷ [] }) w.chans o o' (no_chan (λ x. length x.sent) w o (Send, o) e)
uncounted w (n.Offer o v) e P o' = refl
uncounted w (n.Offer o v) e V o' = refl
uncounted w (n.Offer o v) e Send o' = not_there (λ (x : Channel). length x.sent) (λ x. record x { sent = x.sent ++ v ∷ [] }) w.chans o o' (no_chan (λ x. length x.sent) w o (Send, o) e)
uncounted w (n.Offer o v) e Recv o' = not_there (λ (x : Channel). x.received) (λ x. record x { sent = x.sent ++ v ∷ [] }) w.chans o o' (no_chan (λ x. length x.sent) w o (Send, o) e)
uncounted w (n.Offer o v) e Done o' = not_there (λ (x : Channel). x.completed) (λ x. record x { sent = x.sent ++ v ∷ [] }) w.chans o o' (no_chan (λ x. length x.sent) w o (Send, o) e)
uncounted w (n.Done o u) e P o' = refl
uncounted w (n.Done o u) e V o' = refl
uncounted w (n.Done o u) e Send o' = not_there (λ (x : Channel). length x.sent) (λ x. record x { completed = x.completed + 1 }) w.chans o o' (no_chan (λ x. x.completed) w o (Done, o) e)
uncounted w (n.Done o u) e Recv o' = not_there (λ (x : Channel). x.received) (λ x. record x { completed = x.completed + 1 }) w.chans o o' (no_chan (λ x. x.completed) w o (Done, o) e)
uncounted w (n.Done o u) e Done o' = not_there (λ (x : Channel). x.completed) (λ x. record x { completed = x.completed + 1 }) w.chans o o' (no_chan (λ x. x.completed) w o (Done, o) e)
uncounted w (n.Recv o u) e P o' = refl
uncounted w (n.Recv o u) e V o' = refl
uncounted w (n.Recv o u) e Send o' = not_there (λ (x : Channel). length x.sent) (λ x. record x { received = x.received + 1 }) w.chans o o' (no_chan (λ x. x.received) w o (Recv, o) e)
uncounted w (n.Recv o u) e Recv o' = not_there (λ (x : Channel). x.received) (λ x. record x { received = x.received + 1 }) w.chans o o' (no_chan (λ x. x.received) w o (Recv, o) e)
uncounted w (n.Recv o u) e Done o' = not_there (λ (x : Channel). x.completed) (λ x. record x { received = x.received + 1 }) w.chans o o' (no_chan (λ x. x.received) w o (Recv, o) e)
uncounted w step e P o' = refl
uncounted w step e V o' = refl
uncounted w step e Send o' = refl
uncounted w step e Recv o' = refl
uncounted w step e Done o' = refl

-- the same counts and the same record
module _ (first count count' : Counting) (syncs syncs' : List (List Sync)) (same : (kind : SyncKind) (object : ℕ) → count' kind object ≡ count kind object) (record_is : syncs' ≡ syncs) (c : IsCounted first count syncs) where
  moved : IsCounted first count' syncs
  moved = record {
    begun = λ kind object. omega (arith, c.begun kind object, same kind object);
    numbers = λ a s e. ((c.numbers a s e).0, omega (arith, (c.numbers a s e).1, same s.kind s.object));
    found = λ kind object number h k. c.found kind object number h (omega (arith, k, same kind object));
    once = c.once;
  }

  pub still_counted : IsCounted first count' syncs'
  still_counted = subst (λ ss. IsCounted first count' ss) (sym record_is) moved

-- ---- one step of a telling

record_of_told : Telling → List (List Sync)
record_of_told t = map (filter_map sync_of) (map steps_of t.moments)

in_range : (program : Program) (plan : Plan) (procs : List Proc) (p : ℕ) (k : SyncKind × ℕ) → kind_of_sync (need_at program plan (slice_get procs p)) ≡ Some k → p < length procs
in_range program plan [] p k e = absurd (none-some k e)
in_range program plan (s ∷ rest) zero k e = omega arith
in_range program plan (s ∷ rest) (suc p) k e = let below : p < length rest = in_range program plan rest p k e in omega (arith, below)

module _ (program : Program) (plan : Plan) (first : Counting) where
  record Invariant (t : Telling) : Type 0 where
    counted : IsCounted first (count_of t.world) (record_of_told t)
    lengths : length t.moments ≡ length t.world.procs

  -- by the kind and number of the step
  after_by : (t : Telling) (p : ℕ) → Invariant t → (kind : Option (SyncKind × ℕ)) (number : Option ℕ)
      → kind_of_sync (need program plan t.world p) ≡ kind → number_of t.world (need program plan t.world p) ≡ number
      → (now : List (List Sync)) → now ≡ change (λ ss. ss ++ option_to_list (numbered kind number)) p (record_of_told t)
      → IsCounted first (count_of (effect t.world (need program plan t.world p))) now
  unfolding record_of_told
  after_by t p i (Some k) (Some m) ke ne now e =
      let s : Sync = record { kind = k.0; object = k.1; number = m } in
      let c = counting t.world (need program plan t.world p) m s ne (ap (λ o. numbered o (Some m)) ke) in
      let there : p < length (map (filter_map sync_of) (map steps_of t.moments)) = omega (arith, in_range program plan t.world.procs p k ke, i.lengths, length-map t.moments steps_of, length-map (map steps_of t.moments) (filter_map sync_of)) in
      counted_after first (count_of t.world) (count_of (effect t.world (need program plan t.world p))) (record_of_told t) now p s i.counted (record {
        grows = ap (λ ss. get_or ss p []) e ∙ own-at (λ ss. ss ++ s ∷ []) p [] (map (filter_map sync_of) (map steps_of t.moments)) there;
        others = λ q d. ap (λ ss. get_or ss q []) e ∙ own-else (λ ss. ss ++ s ∷ []) p q [] (map (filter_map sync_of) (map steps_of t.moments)) d;
        number = c.number;
        counted = c.counted;
        unchanged = c.unchanged;
      })
  after_by t p i (Some k) None ke ne now e =
      still_counted first (count_of t.world) (count_of (effect t.world (need program plan t.world p))) (record_of_told t) now
      (uncounted t.world (need program plan t.world p) (ap (λ o. numbered o (number_of t.world (need program plan t.world p))) ke ∙ ap (λ o. numbered (Some k) o) ne))
      (e ∙ change-none (λ ss. ss ++ []) p (record_of_told t) (λ ss. append-nil ss)) i.counted
  after_by t p i None number ke ne now e =
      still_counted first (count_of t.world) (count_of (effect t.world (need program plan t.world p))) (record_of_told t) now
      (uncounted t.world (need program plan t.world p) (ap (λ o. numbered o (number_of t.world (need program plan t.world p))) ke))
      (e ∙ change-none (λ ss. ss ++ []) p (record_of_told t) (λ ss. append-nil ss)) i.counted

  tell_keeps : (t : Telling) (p : ℕ) → Invariant t → Invariant (tell program plan t p)
  unfolding record_of_told
  tell_keeps t p i =
      let m : Moment = moment_of program plan t p in
      record {
        counted = after_by t p i (kind_of_sync (need program plan t.world p)) (number_of t.world (need program plan t.world p)) refl refl (record_of_told (tell program plan t p))
            (ap (λ xs. map (filter_map sync_of) xs) (steps-change m p t.moments) ∙ record-change m.taken p (map steps_of t.moments));
        lengths = length-change _ p t.moments ∙ i.lengths ∙ sym (length-change _ p t.world.procs);
      }

  fold_keeps : (t : Telling) (h : List ℕ) → Invariant t → Invariant (fold (tell program plan) t h)
  fold_keeps t [] i = i
  fold_keeps t (p ∷ h) i = fold_keeps (tell program plan t p) h (tell_keeps t p i)

-- ---- the start

nothing_at : {A : Type 0} (xs : List A) (p i : ℕ) (s : Sync) → slice_get (get_or (map (filter_map sync_of) (map steps_of (map (λ _. []) xs))) p []) i ≡ Some s → ⊥
nothing_at [] p i s e = none-some s e
nothing_at (x ∷ xs) zero i s e = none-some s e
nothing_at (x ∷ xs) (suc p) i s e = nothing_at xs p i s e

begun_counted : (w : World) → IsCounted (count_of w) (count_of w) (record_of_told (begun w))
unfolding record_of_told
begun_counted w = record {
  begun = λ kind object. omega arith;
  numbers = λ a s e. absurd (nothing_at w.procs a.process a.sync s e);
  found = λ kind object number h k. absurd (omega (arith, h, k));
  once = λ a b s e f. absurd (nothing_at w.procs a.process a.sync s e);
}

pub are_counted : SynchronizationsAreCounted
unfolding record_of_told
are_counted setting h =
    let w : World = started_world setting in
    let i = fold_keeps setting.program setting.plan (count_of w) (begun w) h (record { counted = begun_counted w; lengths = length-map w.procs (λ _. []) }) in
    i.counted
