-- The tag of a shared cell is the event that last wrote it.
use Rattle.ppd_model.specs.Setting.{Setting}
use Rattle.std.proofs.Common.{◌≡◌, ℕ, ◌<◌, ℤ, pos, List, [], ◌∷◌, Some, None, false, refl, ap, sym, subst, ◌∙◌, length, set, get_or, inl, inr, ◌⊎◌}
use Rattle.std.proofs.lemmas.Bool.{cases_eq, ne_eqb}
use Rattle.std.proofs.lemmas.List.{get_or-set_other, get_or-set_same, length-map, length-set}
use Rattle.ppd_ast.specs.declared.plan.Plan.{Plan}
use Rattle.ppd_ast.specs.declared.program.Program.{Program}
use Rattle.ppd_sem.specs.declared.proc.Need.{Need}
use Rattle.ppd_sem.specs.declared.proc.Need.TheVariants.{Write}
use Rattle.ppd_model.specs.declared.trace.EventId.{EventId}
use Rattle.ppd_model.specs.World.{effect, need, writes_cell}
use Rattle.ppd_model.specs.Story.{Telling, next_event, tell, writers_after}
use Rattle.ppd_model.specs.Laws.{IsAtStart, IsLastWrite, IsTagged, TagsAreLastWrites, begins, told_on}

-- what a step of this need does to the cell's tag and value
record Writes (t : Telling) (p c : ℕ) (n : Need) : Type 0 where
  value : ℤ
  need_is : n ≡ Write c value
  tag_is : get_or (writers_after t p n) c None ≡ Some (next_event t p)
  value_is : get_or (effect t.world n).shared c (pos 0) ≡ value

record Keeps (t : Telling) (p c : ℕ) (n : Need) : Type 0 where
  no_write : writes_cell c n ≡ false
  tag_is : get_or (writers_after t p n) c None ≡ get_or t.writers c None
  value_is : get_or (effect t.world n).shared c (pos 0) ≡ get_or t.world.shared c (pos 0)

-- the cell has a tag and a value
record IsThere (c : ℕ) (t : Telling) : Type 0 where
  tag : c < length t.writers
  value : c < length t.world.shared

step_does : (t : Telling) (p c : ℕ) (n : Need) → IsThere c t → Writes t p c n ⊎ Keeps t p c n
step_does t p c (Write d v) there = elim (cases_eq c d) [
  | inl e ↦ inl (record {
    value = v;
    need_is = ap (λ k. Write k v) (sym e);
    tag_is = ap (λ k. get_or (set t.writers k (Some (next_event t p))) c None) (sym e) ∙ get_or-set_same t.writers c (Some (next_event t p)) None there.tag;
    value_is = ap (λ k. get_or (set t.world.shared k v) c (pos 0)) (sym e) ∙ get_or-set_same t.world.shared c v (pos 0) there.value;
  })
  | inr n ↦ inr (record {
    no_write = ne_eqb d c (λ e. n (sym e));
    tag_is = get_or-set_other t.writers d c (Some (next_event t p)) None n;
    value_is = get_or-set_other t.world.shared d c v (pos 0) n;
  })
]
step_does t p c n there = inr (record { no_write = refl; tag_is = refl; value_is = refl })

stays : (t : Telling) (p c : ℕ) (n : Need) → IsThere c t → (c < length (writers_after t p n)) × (c < length (effect t.world n).shared)
stays t p c (Write d v) there =
    (subst (λ k. c < k) (sym (length-set t.writers d (Some (next_event t p)))) there.tag, subst (λ k. c < k) (sym (length-set t.world.shared d v)) there.value)
stays t p c n there = (there.tag, there.value)

module _ (program : Program) (plan : Plan) (c : ℕ) where
  after_there : (t : Telling) (p : ℕ) → IsThere c t → IsThere c (tell program plan t p)
  after_there t p there =
      let both = stays t p c (need program plan t.world p) there in
      record { tag = both.0; value = both.1 }

  -- a last write of the rest is one of the whole
  later : (t : Telling) (p : ℕ) (h : List ℕ) (v : ℤ) (e : EventId) → IsLastWrite program plan c (tell program plan t p) h v e → IsLastWrite program plan c t (p ∷ h) v e
  later t p h v e w = record {
    before = p ∷ w.before;
    process = w.process;
    after = w.after;
    schedule_is = ap (λ xs. p ∷ xs) w.schedule_is;
    writes = w.writes;
    event_is = w.event_is;
    unwritten = w.unwritten;
  }

  first_write : (t : Telling) (p : ℕ) (h : List ℕ) → Writes t p c (need program plan t.world p) → IsAtStart program plan c (tell program plan t p) (told_on program plan t (p ∷ h)) h → IsTagged program plan c t (told_on program plan t (p ∷ h)) (p ∷ h)
  first_write t p h w s = record {
    event = next_event t p;
    tag_is = s.tag_is ∙ w.tag_is;
    last = record {
      before = [];
      process = p;
      after = h;
      schedule_is = refl;
      writes = w.need_is ∙ ap (λ v. Write c v) (sym (s.value_is ∙ w.value_is));
      event_is = refl;
      unwritten = s.unwritten;
    };
  }

  tagged : (t : Telling) (h : List ℕ) → IsThere c t → IsAtStart program plan c t (told_on program plan t h) h ⊎ IsTagged program plan c t (told_on program plan t h) h
  tagged t [] there = inl (record { unwritten = tt; tag_is = refl; value_is = refl })
  tagged t (p ∷ h) there = elim (tagged (tell program plan t p) h (after_there t p there)) [
    | inr w ↦ inr (record { event = w.event; tag_is = w.tag_is; last = later t p h (get_or (told_on program plan t (p ∷ h)).world.shared c (pos 0)) w.event w.last })
    | inl s ↦ elim (step_does t p c (need program plan t.world p) there) [
      | inl w ↦ inr (first_write t p h w s)
      | inr k ↦ inl (record { unwritten = (k.no_write, s.unwritten); tag_is = s.tag_is ∙ k.tag_is; value_is = s.value_is ∙ k.value_is })
    ]
  ]

starts_there : (setting : Setting) (c : ℕ) → c < length setting.program.starts → IsThere c (begins setting)
starts_there setting c lt = record { tag = subst (λ k. c < k) (sym (length-map setting.program.starts (λ _. None))) lt; value = lt }

pub tags : TagsAreLastWrites
tags setting h c lt = tagged setting.program setting.plan c (begins setting) h (starts_there setting c lt)
