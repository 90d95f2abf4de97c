-- The counts of a world after a step.
use Rattle.std.proofs.Common.{◌≡◌, ℕ, ◌+◌, ℤ, List, [], ◌∷◌, ◌++◌, Option, Some, None, refl, ap, sym, subst, ◌∙◌, length, inl, inr, length-append}
use Rattle.std.specs.Prelude.{slice_get, option_map}
use Rattle.std.proofs.lemmas.Bool.{cases_eq}
use Rattle.std.proofs.lemmas.Option.{none-some}
use Rattle.ppd_sem.specs.declared.proc.Need.{Need}
use Rattle.ppd_sem.specs.declared.proc.Need.TheVariants as n
use Rattle.ppd_model.specs.World.{World, Counts, Channel, change, effect}
use Rattle.ppd_ast.specs.declared.status.SyncKind.{SyncKind}
use Rattle.ppd_ast.specs.declared.status.SyncKind.TheVariants.{P, V, Send, Recv, Done}
use Rattle.ppd_model.specs.Story.{number_of}
use Rattle.ppd_model.proofs.WorldWords.{number_after}
use Rattle.ppd_model.specs.Synchronizations.{Sync, kind_of_sync, numbered}
use Rattle.ppd_model.specs.Numbers.{count_of, count_in}
use Rattle.ppd_model.proofs.Changes.{change-at, change-else, some}

-- what a step with this need makes of the counts
pub record IsCounting (w : World) (need : Need) (s : Sync) : Type 0 where
  pub number : s.number ≡ count_of w s.kind s.object + 1
  pub counted : count_of (effect w need) s.kind s.object ≡ count_of w s.kind s.object + 1
  pub unchanged : (kind : SyncKind) (object : ℕ) → (kind ≡ s.kind → object ≡ s.object → ⊥) → count_of (effect w need) kind object ≡ count_of w kind object

-- one count of one object goes up
pub raised : {A : Type 0} (count : A → ℕ) (f : A → A) → ((x : A) → count (f x) ≡ count x + 1) → (xs : List A) (o k : ℕ) → number_after count (slice_get xs o) ≡ Some k → count_in count (slice_get (change f o xs) o) ≡ count_in count (slice_get xs o) + 1
raised {A} count f up xs o k e = ap (λ x. count_in count x) (change-at f o xs) ∙ of_one (slice_get xs o) e
  where
    of_one : (x : Option A) → number_after count x ≡ Some k → count_in count (option_map f x) ≡ count_in count x + 1
    of_one None e = absurd (none-some k e)
    of_one (Some y) e = up y

next_number : {A : Type 0} (count : A → ℕ) (x : Option A) (k : ℕ) → number_after count x ≡ Some k → k ≡ count_in count x + 1
next_number count None k e = absurd (none-some k e)
next_number count (Some y) k e = sym (some e)

-- of another object, or another count of the same
pub as_before : {A : Type 0} (count : A → ℕ) (f : A → A) (xs : List A) (o o' : ℕ) → (o' ≡ o → (x : A) → count (f x) ≡ count x) → count_in count (slice_get (change f o xs) o') ≡ count_in count (slice_get xs o')
as_before {A} count f xs o o' same = elim (cases_eq o' o) [
  | inl e ↦ subst (λ z. count_in count (slice_get (change f o xs) z) ≡ count_in count (slice_get xs z)) (sym e) (ap (λ x. count_in count x) (change-at f o xs) ∙ of_one (same e) (slice_get xs o))
  | inr d ↦ ap (λ x. count_in count x) (change-else f o o' xs d)
]
  where
    of_one : ((x : A) → count (f x) ≡ count x) → (x : Option A) → count_in count (option_map f x) ≡ count_in count x
    of_one same None = refl
    of_one same (Some y) = same y

counting_P : (w : World) (o u k : ℕ) → number_of w (n.P o u) ≡ Some k → IsCounting w (n.P o u) (record { kind = P; object = o; number = k })
counting_P w o u k e = record {
  number = next_number (λ (x : Counts). x.taken) (slice_get w.sems o) k e;
  counted = raised (λ (x : Counts). x.taken) (λ x. record x { taken = x.taken + 1 }) (λ x. refl) w.sems o k e;
  unchanged = others;
}
  where
    others : (kind : SyncKind) (object : ℕ) → (kind ≡ P → object ≡ o → ⊥) → count_of (effect w (n.P o u)) kind object ≡ count_of w kind object
    others P o' d = as_before (λ (x : Counts). x.taken) (λ x. record x { taken = x.taken + 1 }) w.sems o o' (λ e. absurd (d refl e))
    others V o' d = as_before (λ (x : Counts). x.given) (λ x. record x { taken = x.taken + 1 }) w.sems o o' (λ e x. refl)
    others Send o' d = refl
    others Recv o' d = refl
    others Done o' d = refl

counting_V : (w : World) (o u k : ℕ) → number_of w (n.V o u) ≡ Some k → IsCounting w (n.V o u) (record { kind = V; object = o; number = k })
counting_V w o u k e = record {
  number = next_number (λ (x : Counts). x.given) (slice_get w.sems o) k e;
  counted = raised (λ (x : Counts). x.given) (λ x. record x { given = x.given + 1 }) (λ x. refl) w.sems o k e;
  unchanged = others;
}
  where
    others : (kind : SyncKind) (object : ℕ) → (kind ≡ V → object ≡ o → ⊥) → count_of (effect w (n.V o u)) kind object ≡ count_of w kind object
    others P o' d = as_before (λ (x : Counts). x.taken) (λ x. record x { given = x.given + 1 }) w.sems o o' (λ e x. refl)
    others V o' d = as_before (λ (x : Counts). x.given) (λ x. record x { given = x.given + 1 }) w.sems o o' (λ e. absurd (d refl e))
    others Send o' d = refl
    others Recv o' d = refl
    others Done o' d = refl

-- a channel's count of a kind of synchronization
abbrev of_channel : SyncKind → Channel → ℕ
of_channel Send x = length x.sent
of_channel Recv x = x.received
of_channel Done x = x.completed
of_channel kind x = 0

-- one count goes up, and no other count changes
record Raises (kind : SyncKind) (f : Channel → Channel) : Type 0 where
  up : (x : Channel) → of_channel kind (f x) ≡ of_channel kind x + 1
  keeps : (other : SyncKind) → (other ≡ kind → ⊥) → (x : Channel) → of_channel other (f x) ≡ of_channel other x

sending : (v : ℤ) → Raises Send (λ x. record x { sent = x.sent ++ v ∷ [] })
sending v = record { up = λ x. length-append x.sent (v ∷ []); keeps = keeps }
  where
    keeps : (other : SyncKind) → (other ≡ Send → ⊥) → (x : Channel) → of_channel other (record x { sent = x.sent ++ v ∷ [] }) ≡ of_channel other x
    keeps Send isnt x = absurd (isnt refl)
    keeps other isnt x = refl

receiving : Raises Recv (λ x. record x { received = x.received + 1 })
receiving = record { up = λ x. refl; keeps = keeps }
  where
    keeps : (other : SyncKind) → (other ≡ Recv → ⊥) → (x : Channel) → of_channel other (record x { received = x.received + 1 }) ≡ of_channel other x
    keeps Recv isnt x = absurd (isnt refl)
    keeps other isnt x = refl

completing : Raises Done (λ x. record x { completed = x.completed + 1 })
completing = record { up = λ x. refl; keeps = keeps }
  where
    keeps : (other : SyncKind) → (other ≡ Done → ⊥) → (x : Channel) → of_channel other (record x { completed = x.completed + 1 }) ≡ of_channel other x
    keeps Done isnt x = absurd (isnt refl)
    keeps other isnt x = refl

-- a step that changes one channel so
module _ (w : World) (need : Need) (kind : SyncKind) (f : Channel → Channel) (o : ℕ) (raises : Raises kind f)
    (effect_is : effect w need ≡ record w { chans = change f o w.chans })
    (count_is : (v : World) → count_of v kind o ≡ count_in (of_channel kind) (slice_get v.chans o)) where
  others : (other : SyncKind) (object : ℕ) → (other ≡ kind → object ≡ o → ⊥)
      → count_of (record w { chans = change f o w.chans }) other object ≡ count_of w other object
  others P o' d = refl
  others V o' d = refl
  others Send o' d = as_before (of_channel Send) f w.chans o o' (λ same. raises.keeps Send (λ e. d e same))
  others Recv o' d = as_before (of_channel Recv) f w.chans o o' (λ same. raises.keeps Recv (λ e. d e same))
  others Done o' d = as_before (of_channel Done) f w.chans o o' (λ same. raises.keeps Done (λ e. d e same))

  channel_counting : (k : ℕ) → number_after (of_channel kind) (slice_get w.chans o) ≡ Some k → IsCounting w need (record { kind = kind; object = o; number = k })
  channel_counting k e = record {
    number = next_number (of_channel kind) (slice_get w.chans o) k e ∙ ap (λ n. n + 1) (sym (count_is w));
    counted = count_is (effect w need) ∙ ap (λ (v : World). count_in (of_channel kind) (slice_get v.chans o)) effect_is
        ∙ raised (of_channel kind) f raises.up w.chans o k e ∙ ap (λ n. n + 1) (sym (count_is w));
    unchanged = λ other object d. ap (λ (v : World). count_of v other object) effect_is ∙ others other object d;
  }

-- a synchronization takes the next number of its kind and object, and no other count changes
pub counting : (w : World) (need : Need) (k : ℕ) (s : Sync) → number_of w need ≡ Some k → numbered (kind_of_sync need) (Some k) ≡ Some s → IsCounting w need s
counting w (n.P o u) k s e f = subst (λ z. IsCounting w (n.P o u) z) (some f) (counting_P w o u k e)
counting w (n.V o u) k s e f = subst (λ z. IsCounting w (n.V o u) z) (some f) (counting_V w o u k e)
counting w (n.Send o v u) k s e f =
    subst (λ z. IsCounting w (n.Send o v u) z) (some f)
    (channel_counting w (n.Send o v u) Send _ o (sending v) refl (λ v. refl) k e)
counting w (n.Offer o v) k s e f =
    subst (λ z. IsCounting w (n.Offer o v) z) (some f)
    (channel_counting w (n.Offer o v) Send _ o (sending v) refl (λ v. refl) k e)
counting w (n.Done o u) k s e f =
    subst (λ z. IsCounting w (n.Done o u) z) (some f)
    (channel_counting w (n.Done o u) Done _ o completing refl (λ v. refl) k e)
counting w (n.Recv o u) k s e f =
    subst (λ z. IsCounting w (n.Recv o u) z) (some f)
    (channel_counting w (n.Recv o u) Recv _ o receiving refl (λ v. refl) k e)
counting w need k s e f = absurd (none-some s f)
