-- The words of `flow` read by hand are what the words give, with the numbers tested at the end.
use Rattle.std.proofs.Common.{◌≡◌, ◌∙◌, ◌+◌, ◌&&◌, ◌||◌, ℕ, Bool, true, false, true≢false, refl, sym, ap, subst, List, [], ◌∷◌, ◌++◌, length, Option, Some, None, codes, option_map}
use Rattle.std.specs.Prelude.{⊤, if◌then◌else◌, is_none, is_some, nat_le, not, option_and_then, slice_get}
use Rattle.std.specs.Borrow.{Bor}
use Rattle.std.specs.Str.{bytes_eq}
use Rattle.std.proofs.Math.Bool.{or-true, or-false}
use Rattle.clap.specs.Lexer.{long_of, short_of}
use Rattle.ppd_ast.specs.Digits.{number_in}
use Rattle.ppd_top_requests.proofs.Clap.Kinds.{clap_gives, clap_spelled}
use Rattle.ppd_top_requests.proofs.Clap.Lookups.{same-equal}
use Rattle.ppd_top_requests.proofs.Late.{tested_is}
use Rattle.ppd_top_requests.proofs.Numbers.Choices.{among_back, asks_after, ended_after, given_after, given_asks, given_ended, given_source, id_of, ids_same, is_same, no_number, none_is, not_source, sets_known, source_after, source_id, source_not, waits_known}
use Rattle.ppd_top_requests.proofs.Uses.{has_push, value_new, value_other}
use Rattle.ppd_top_requests.proofs.Numbers.Words.{flow_longs, spelled_is, word_of}
use Rattle.ppd_top_requests.specs.Numbers.{Asked, Choice, NumbersGiven, Word, after_one, after_wait, all_given, allows, and_more, asked_for, asked_of, budget, choice_of, given_in, good, leaf, loops, named_of, no_numbers, numbers_from, with_number, with_option, with_source, with_spelled}
use Rattle.ppd_top_requests.specs.GivenWords.{Given, Kind, Text, Uses, after_word, ends, name, nothing_given, other, sets, texts, value_of, waits, was_used, with_name, with_use, with_word}
use Rattle.ppd_top_requests.specs.Tested.{are_good, if_good, only_good, tested_from}

abbrev asked_with : Option ℕ → Option ℕ → Option ℕ → Text → Asked
asked_with b f o s = record { budget_is = b; leaf_is = f; loops_is = o; source = s }

module _ (allowed : Choice → ℕ → Bool) where
  good_number : (c : Choice) (v : Text) → (good allowed) (id_of c) v ≡ allows allowed c (number_in v)
  good_number budget v = refl
  good_number leaf v = refl
  good_number loops v = refl

  good_push : (u : Uses) (x : Text × Text) → are_good (good allowed) u ≡ true → are_good (good allowed) (u ++ x ∷ []) ≡ (good allowed) x.0 x.1
  good_push [] x e = and_true ((good allowed) x.0 x.1)
    where
      and_true : (b : Bool) → (b && true) ≡ b
      and_true true = refl
      and_true false = refl
  good_push (y ∷ u) x e = go ((good allowed) y.0 y.1) e (good_push u x)
    where
      go : (b : Bool) → (b && are_good (good allowed) u) ≡ true → (are_good (good allowed) u ≡ true → are_good (good allowed) (u ++ x ∷ []) ≡ (good allowed) x.0 x.1) → (b && are_good (good allowed) (u ++ x ∷ [])) ≡ (good allowed) x.0 x.1
      go true e next = next e
      go false e next = absurd (true≢false (sym e))

  record Along (l : NumbersGiven) (g : Given) : Type 0 where
    ended : g.ended ≡ l.ended
    numbers : (c : Choice) → option_and_then number_in (value_of (id_of c) g.uses) ≡ given_in c l
    used : (c : Choice) → was_used (id_of c) g.uses ≡ is_some (given_in c l)
    source : value_of source_id g.uses ≡ option_map (λ s. s.now) l.source
    named : was_used source_id g.uses ≡ is_some l.source
    count : g.count ≡ (if is_some l.source then 1 else 0)
    fine : are_good (good allowed) g.uses ≡ true

  record Full (l : NumbersGiven) (g : Given) : Type 0 where
    waiting : g.waiting ≡ option_map id_of l.asks
    along : Along l g

  abbrev Both : Option NumbersGiven → Option Given → Type 0
  Both None None = ⊤
  Both (Some l) (Some g) = Full l g
  Both None (Some g) = ⊥
  Both (Some l) None = ⊥

  with_number_along : (c : Choice) (v : Text) (n : ℕ) (l : NumbersGiven) (g : Given) → Along l g → g.waiting ≡ None → number_in v ≡ Some n → was_used (id_of c) g.uses ≡ false → allowed c n ≡ true
      → Full (with_option c n l) (record g { uses = g.uses ++ (id_of c, v) ∷ [] })
  with_number_along c v n l g a waits_is e none may = record {
    waiting = waits_is ∙ sym (ap (option_map id_of) (asks_after c n l));
    along = record {
      ended = a.ended ∙ sym (ended_after c n l);
      numbers = λ b. number_at b (is_same c b) refl ∙ sym (given_after c b n l);
      used = λ b. has_push (id_of b) g.uses (id_of c, v) ∙ ap (λ (t : Bool). was_used (id_of b) g.uses || t) (ids_same c b) ∙ used_at b (is_same c b) ∙ sym (ap is_some (given_after c b n l));
      source = value_other source_id g.uses (id_of c, v) (not_source c) ∙ a.source ∙ sym (ap (option_map (λ s. s.now)) (source_after c n l));
      named = has_push source_id g.uses (id_of c, v) ∙ ap (λ (t : Bool). was_used source_id g.uses || t) (not_source c) ∙ or-false (was_used source_id g.uses) ∙ a.named ∙ sym (ap is_some (source_after c n l));
      count = a.count ∙ sym (ap (λ (o : Option (Bor Text)). if is_some o then 1 else 0) (source_after c n l));
      fine = good_push g.uses (id_of c, v) a.fine ∙ good_number c v ∙ ap (allows allowed c) e ∙ may;
    };
  }
    where
      number_at : (b : Choice) (t : Bool) → is_same c b ≡ t → option_and_then number_in (value_of (id_of b) (g.uses ++ (id_of c, v) ∷ [])) ≡ (if t then Some n else given_in b l)
      number_at b true s =
          let same : id_of c ≡ id_of b = same-equal (id_of c) (id_of b) (ids_same c b ∙ s) in
          ap (option_and_then number_in) (value_new (id_of b) g.uses (id_of c, v) (ap (λ (i : Text). was_used i g.uses) (sym same) ∙ none) (ids_same c b ∙ s)) ∙ e
      number_at b false s = ap (option_and_then number_in) (value_other (id_of b) g.uses (id_of c, v) (ids_same c b ∙ s)) ∙ a.numbers b

      used_at : (b : Choice) (t : Bool) → (was_used (id_of b) g.uses || t) ≡ is_some (if t then Some n else given_in b l)
      used_at b true = or-true (was_used (id_of b) g.uses)
      used_at b false = or-false (was_used (id_of b) g.uses) ∙ a.used b

  on_number : (c : Choice) (v : Text) (l : NumbersGiven) (g : Given) → Along l g → g.waiting ≡ None → Both (with_number allowed c (number_in v) l) (if_good (good allowed) (with_use (id_of c) v g))
  on_number c v l g a waits_is = go (number_in v) refl (was_used (id_of c) g.uses) refl
    where
      go : (o : Option ℕ) → number_in v ≡ o → (h : Bool) → was_used (id_of c) g.uses ≡ h → Both (with_number allowed c o l) (if_good (good allowed) (if h then None else Some (record g { uses = g.uses ++ (id_of c, v) ∷ [] })))
      go None e true h = tt
      go None e false h =
          subst (λ (b : Bool). Both None (if b then Some (record g { uses = g.uses ++ (id_of c, v) ∷ [] }) else None)) (sym (good_push g.uses (id_of c, v) a.fine ∙ good_number c v ∙ ap (allows allowed c) e)) tt
      go (Some n) e true h =
          subst (λ (b : Bool). Both (if b && allowed c n then Some (with_option c n l) else None) None) (sym (none_is (given_in c l) ∙ ap not (sym (a.used c) ∙ h))) tt
      go (Some n) e false h =
          subst (λ (b : Bool). Both (if b && allowed c n then Some (with_option c n l) else None) (if are_good (good allowed) (g.uses ++ (id_of c, v) ∷ []) then Some (record g { uses = g.uses ++ (id_of c, v) ∷ [] }) else None)) (sym (none_is (given_in c l) ∙ ap not (sym (a.used c) ∙ h)))
          (subst (λ (b : Bool). Both (if allowed c n then Some (with_option c n l) else None) (if b then Some (record g { uses = g.uses ++ (id_of c, v) ∷ [] }) else None)) (sym (good_push g.uses (id_of c, v) a.fine ∙ good_number c v ∙ ap (allows allowed c) e))
          (inner (allowed c n) refl))
        where
          inner : (b : Bool) → allowed c n ≡ b → Both (if b then Some (with_option c n l) else None) (if b then Some (record g { uses = g.uses ++ (id_of c, v) ∷ [] }) else None)
          inner true may = with_number_along c v n l g a waits_is e h may
          inner false may = tt

  on_name : (w : Bor Text) (l : NumbersGiven) (g : Given) → Along l g → g.waiting ≡ option_map id_of l.asks → Both (with_source w l) (if_good (good allowed) (with_name (source_id ∷ []) w.now g))
  on_name w l g a waits_is = go l.source refl
    where
      new : l.source ≡ None → nat_le 1 (length w.now) ≡ true → Full (record l { source = Some w }) (record g { count = g.count + 1; uses = g.uses ++ (source_id, w.now) ∷ [] })
      new is long =
          let none : was_used source_id g.uses ≡ false = a.named ∙ ap is_some is in
          record {
            waiting = waits_is;
            along = record {
              ended = a.ended;
              numbers = λ c. ap (option_and_then number_in) (value_other (id_of c) g.uses (source_id, w.now) (source_not c)) ∙ a.numbers c ∙ sym (given_source c w l);
              used = λ c. has_push (id_of c) g.uses (source_id, w.now) ∙ ap (λ (t : Bool). was_used (id_of c) g.uses || t) (source_not c) ∙ or-false (was_used (id_of c) g.uses) ∙ a.used c ∙ sym (ap is_some (given_source c w l));
              source = value_new source_id g.uses (source_id, w.now) none refl;
              named = has_push source_id g.uses (source_id, w.now) ∙ or-true (was_used source_id g.uses);
              count = ap (λ (k : ℕ). k + 1) (a.count ∙ ap (λ (o : Option (Bor Text)). if is_some o then 1 else 0) is);
              fine = good_push g.uses (source_id, w.now) a.fine ∙ long;
            };
          }

      inner : l.source ≡ None → (b : Bool) → nat_le 1 (length w.now) ≡ b → Both (if b then Some (record l { source = Some w }) else None) (if b then Some (record g { count = g.count + 1; uses = g.uses ++ (source_id, w.now) ∷ [] }) else None)
      inner is true long = new is long
      inner is false long = tt

      go : (o : Option (Bor Text)) → l.source ≡ o → Both (with_source w l) (if_good (good allowed) (with_name (source_id ∷ []) w.now g))
      go (Some b) is =
          subst (λ (o : Option (Bor Text)). Both (if is_none o && nat_le 1 (length w.now) then Some (record l { source = Some w }) else None) (if_good (good allowed) (with_name (source_id ∷ []) w.now g))) (sym is)
          (subst (λ (k : ℕ). Both None (if_good (good allowed) (option_and_then (λ id. with_use id w.now (record g { count = g.count + 1 })) (slice_get (source_id ∷ []) k)))) (sym (a.count ∙ ap (λ (o : Option (Bor Text)). if is_some o then 1 else 0) is)) tt)
      go None is =
          subst (λ (o : Option (Bor Text)). Both (if is_none o && nat_le 1 (length w.now) then Some (record l { source = Some w }) else None) (if_good (good allowed) (with_name (source_id ∷ []) w.now g))) (sym is)
          (subst (λ (k : ℕ). Both (if nat_le 1 (length w.now) then Some (record l { source = Some w }) else None) (if_good (good allowed) (option_and_then (λ id. with_use id w.now (record g { count = g.count + 1 })) (slice_get (source_id ∷ []) k)))) (sym (a.count ∙ ap (λ (o : Option (Bor Text)). if is_some o then 1 else 0) is))
          (subst (λ (h : Bool). Both (if nat_le 1 (length w.now) then Some (record l { source = Some w }) else None) (if_good (good allowed) (if h then None else Some (record g { count = g.count + 1; uses = g.uses ++ (source_id, w.now) ∷ [] })))) (sym (a.named ∙ ap is_some is))
          (subst (λ (b : Bool). Both (if nat_le 1 (length w.now) then Some (record l { source = Some w }) else None) (if b then Some (record g { count = g.count + 1; uses = g.uses ++ (source_id, w.now) ∷ [] }) else None)) (sym (good_push g.uses (source_id, w.now) a.fine))
          (inner is (nat_le 1 (length w.now)) refl))))

  on_kind : (k : Kind) → ((id : Text) → k ≡ waits id → id_of (choice_of id) ≡ id) → ((id v : Text) → k ≡ sets id v → id_of (choice_of id) ≡ id) → (w : Bor Text) (l : NumbersGiven) (g : Given) → Along l g → g.waiting ≡ None → l.asks ≡ None
      → Both (with_spelled allowed (word_of k) w l) (if_good (good allowed) (with_word (source_id ∷ []) None k w.now g))
  on_kind ends known sets_at w l g a waits_is asks_is =
      subst (λ (b : Bool). Both (Some (record l { ended = true })) (if b then Some (record g { ended = true }) else None)) (sym a.fine)
      (record { waiting = waits_is ∙ sym (ap (option_map id_of) asks_is); along = record { ended = refl; numbers = λ c. a.numbers c ∙ sym (given_ended c l); used = λ c. a.used c ∙ sym (ap is_some (given_ended c l)); source = a.source; named = a.named; count = a.count; fine = a.fine } })
  on_kind (waits id) known sets_at w l g a waits_is asks_is =
      subst (λ (b : Bool). Both (Some (record l { asks = Some (choice_of id) })) (if b then Some (record g { waiting = Some id }) else None)) (sym a.fine)
      (record { waiting = ap Some (sym (known id refl)); along = record { ended = a.ended; numbers = λ c. a.numbers c ∙ sym (given_asks c (Some (choice_of id)) l); used = λ c. a.used c ∙ sym (ap is_some (given_asks c (Some (choice_of id)) l)); source = a.source; named = a.named; count = a.count; fine = a.fine } })
  on_kind (sets id v) known sets_at w l g a waits_is asks_is =
      subst (λ (i : Text). Both (with_number allowed (choice_of id) (number_in v) l) (if_good (good allowed) (with_use i v g))) (sets_at id v refl) (on_number (choice_of id) v l g a waits_is)
  on_kind other known sets_at w l g a waits_is asks_is = tt
  on_kind name known sets_at w l g a waits_is asks_is = on_name w l g a (waits_is ∙ sym (ap (option_map id_of) asks_is))

  -- the word that an option waits for
  on_value : (c : Choice) (k : Kind) (w : Text) (l : NumbersGiven) (g : Given) → ((k ≡ name → ⊥) → number_in w ≡ None) → Along l g
      → Both (with_number allowed c (number_in w) l) (if_good (good allowed) (with_word (source_id ∷ []) (Some (id_of c)) k w g))
  on_value c name w l g no_number a = on_number c w l (record g { waiting = None }) (record { ended = a.ended; numbers = a.numbers; used = a.used; source = a.source; named = a.named; count = a.count; fine = a.fine }) refl
  on_value c ends w l g no_number a = subst (λ (o : Option ℕ). Both (with_number allowed c o l) None) (sym (no_number (λ e. cc))) tt
  on_value c (waits x) w l g no_number a = subst (λ (o : Option ℕ). Both (with_number allowed c o l) None) (sym (no_number (λ e. cc))) tt
  on_value c (sets x v) w l g no_number a = subst (λ (o : Option ℕ). Both (with_number allowed c o l) None) (sym (no_number (λ e. cc))) tt
  on_value c other w l g no_number a = subst (λ (o : Option ℕ). Both (with_number allowed c o l) None) (sym (no_number (λ e. cc))) tt

  on_after : (w : Bor Text) (l : NumbersGiven) (g : Given) → Full l g → Both (after_one allowed l w) (if_good (good allowed) (after_word (clap_spelled flow_longs) (source_id ∷ []) g w.now))
  on_after w l g full =
      subst (λ (b : Bool). Both (after_one allowed l w) (if_good (good allowed) (if b then with_name (source_id ∷ []) w.now g else with_word (source_id ∷ []) g.waiting (clap_spelled flow_longs w.now) w.now g))) (sym full.along.ended)
      (by_end l.ended)
    where
      by_wait : (o : Option Choice) → l.asks ≡ o → Both (after_wait allowed o w l) (if_good (good allowed) (with_word (source_id ∷ []) (option_map id_of o) (clap_spelled flow_longs w.now) w.now g))
      by_wait None is =
          subst (λ (x : Word). Both (with_spelled allowed x w l) (if_good (good allowed) (with_word (source_id ∷ []) None (clap_spelled flow_longs w.now) w.now g))) (sym (spelled_is w.now))
          (on_kind (clap_spelled flow_longs w.now)
          (λ id e. among_back id (waits_known (bytes_eq w.now (45 ∷ 45 ∷ [])) (long_of w.now) (short_of w.now) id e))
          (λ id v e. among_back id (sets_known (bytes_eq w.now (45 ∷ 45 ∷ [])) (long_of w.now) (short_of w.now) id v e))
          w l g full.along (full.waiting ∙ ap (option_map id_of) is) is)
      by_wait (Some c) is = on_value c (clap_spelled flow_longs w.now) w.now l g (no_number w.now) full.along

      by_end : (b : Bool) → Both (if b then with_source w l else after_wait allowed l.asks w l) (if_good (good allowed) (if b then with_name (source_id ∷ []) w.now g else with_word (source_id ∷ []) g.waiting (clap_spelled flow_longs w.now) w.now g))
      by_end true = on_name w l g full.along full.waiting
      by_end false =
          subst (λ (o : Option Text). Both (after_wait allowed l.asks w l) (if_good (good allowed) (with_word (source_id ∷ []) o (clap_spelled flow_longs w.now) w.now g))) (sym full.waiting)
          (by_wait l.asks refl)

  at_end : (l : NumbersGiven) (g : Given) → Full l g → all_given l ≡ asked_of (if is_none g.waiting && (was_used source_id g.uses && true) then Some g.uses else None)
  at_end l g full =
      by_wait l.asks refl
      ∙ sym (ap (λ (o : Option Text). asked_of (if is_none o && (was_used source_id g.uses && true) then Some g.uses else None)) full.waiting)
    where
      by_source : (o : Option (Bor Text)) → l.source ≡ o → asked_for l o ≡ asked_of (if was_used source_id g.uses && true then Some g.uses else None)
      by_source None is = sym (ap (λ (b : Bool). asked_of (if b && true then Some g.uses else None)) (full.along.named ∙ ap is_some is))
      by_source (Some w) is =
          sym (ap (λ (b : Bool). asked_of (if b && true then Some g.uses else None)) (full.along.named ∙ ap is_some is)
          ∙ ap (named_of g.uses) (full.along.source ∙ ap (option_map (λ s. s.now)) is)
          ∙ three (full.along.numbers budget) (full.along.numbers leaf) (full.along.numbers loops))
        where
          three : {p q r x y z : Option ℕ} → p ≡ x → q ≡ y → r ≡ z → Some (asked_with p q r w.now) ≡ Some (asked_with x y z w.now)
          three i j k = cc

      by_wait : (o : Option Choice) → l.asks ≡ o → all_given l ≡ asked_of (if is_none (option_map id_of l.asks) && (was_used source_id g.uses && true) then Some g.uses else None)
      by_wait None is =
          ap (λ (o : Option Choice). if is_some o then None else asked_for l l.source) is ∙ by_source l.source refl
          ∙ sym (ap (λ (o : Option Choice). asked_of (if is_none (option_map id_of o) && (was_used source_id g.uses && true) then Some g.uses else None)) is)
      by_wait (Some c) is =
          ap (λ (o : Option Choice). if is_some o then None else asked_for l l.source) is
          ∙ sym (ap (λ (o : Option Choice). asked_of (if is_none (option_map id_of o) && (was_used source_id g.uses && true) then Some g.uses else None)) is)

  along_all : (ws : List (Bor Text)) (l : NumbersGiven) (g : Given) → Full l g → numbers_from allowed l ws ≡ asked_of (tested_from (good allowed) (clap_spelled flow_longs) (source_id ∷ []) g (texts ws))
  along_all [] l g full = at_end l g full
  along_all (w ∷ ws) l g full = go (after_one allowed l w) (if_good (good allowed) (after_word (clap_spelled flow_longs) (source_id ∷ []) g w.now)) (on_after w l g full) (along_all ws)
    where
      go : (o : Option NumbersGiven) (p : Option Given) → Both o p → ((l : NumbersGiven) (g : Given) → Full l g → numbers_from allowed l ws ≡ asked_of (tested_from (good allowed) (clap_spelled flow_longs) (source_id ∷ []) g (texts ws)))
          → and_more o (λ h. numbers_from allowed h ws) ≡ asked_of (option_and_then (λ h. tested_from (good allowed) (clap_spelled flow_longs) (source_id ∷ []) h (texts ws)) p)
      go None None both next = refl
      go None (Some x) both next = absurd both
      go (Some x) None both next = absurd both
      go (Some x) (Some y) both next = next x y both

  nothing : Full no_numbers nothing_given
  nothing = record { waiting = refl; along = record { ended = refl; numbers = none; used = none_used; source = refl; named = refl; count = refl; fine = refl } }
    where
      none : (c : Choice) → None ≡ given_in c no_numbers
      none budget = refl
      none leaf = refl
      none loops = refl

      none_used : (c : Choice) → false ≡ is_some (given_in c no_numbers)
      none_used budget = refl
      none_used leaf = refl
      none_used loops = refl

  -- what is read by hand is what the words give, with the numbers tested at the end
  pub flow_is_given : (ws : List (Bor Text)) → numbers_from allowed no_numbers ws ≡ asked_of (only_good (good allowed) (clap_gives flow_longs (codes "source" ∷ []) (texts ws)))
  flow_is_given ws = along_all ws no_numbers nothing_given nothing ∙ ap asked_of (tested_is (good allowed) (clap_spelled flow_longs) (codes "source" ∷ []) (texts ws) nothing_given refl)
