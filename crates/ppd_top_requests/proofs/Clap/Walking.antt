-- The walk of clap over the words of a command, and what the words give.
use Rattle.std.proofs.Common.{◌≡◌, ◌∙◌, ◌<◌, ◌+◌, ◌&&◌, ◌||◌, ℕ, Bool, cond, true, false, refl, sym, ap, subst, arith, List, [], ◌∷◌, ◌++◌, length, Option, Some, None, min, option_map, option_and_then}
use Rattle.std.specs.Prelude.{⊤, drop, encode_utf8, slice_get, not, fold, nat_lt, if◌then◌else◌}
use Rattle.std.specs.List.{list_any, list_all}
use Rattle.std.specs.Option.{option_map_or}
use Rattle.std.specs.Str.{bytes_eq, chars}
use Rattle.std.proofs.Math.Nat.{min-eq_left}
use Rattle.std.proofs.lemmas.Str.{chars-nil}
use Rattle.std.proofs.Math.Bool.{and-false}
use Rattle.clap.specs.Lexer.{long_of, short_of, usize_max}
use Rattle.clap.specs.Faults.{bundle_fault, bundle_step_fault, check_fault, defaults_fault, flag_word_fault, flags_fault, long_fault, positional_fault, settle_fault, short_fault, step_fault, stray_fault, turn_fault, use_fault}
use Rattle.clap.specs.Kinds.{Kinds, or_else}
use Rattle.clap.specs.Simple.{Shape, new_shape}
use Rattle.clap.specs.Takes.{is_given}
use Rattle.clap.specs.declared.error.kind.ErrorKind.TheVariants as kind
use Rattle.clap.specs.Walk.{Held, Row, Rule, Step, Text, Waiting, Walk, after_flag, after_step, arg_by_index, arg_by_long, arg_by_short, finished, idle, is_pending, long_met, long_or_other, long_word, option, option_word, pushed, settled, settled_rows, short_or_plain, to_positional, trailing, used, used_by_id, value, walked, with_default}
use Rattle.ppd_top_requests.proofs.Clap.Kinds.{clap_spelled, is_among, kind_by, option_kind}
use Rattle.ppd_top_requests.proofs.Clap.Lookups.{IsPlain, got_below, got_is_among, name_at, name_found, option_at, plain_rule, same-refl}
use Rattle.ppd_top_requests.proofs.Clap.Rows.{fresh, has_row-for}
use Rattle.ppd_top_requests.proofs.Clap.Taken.{rows_for, unless}
use Rattle.ppd_top_requests.specs.GivenWords.{Given, Uses, given_from, was_used, other, with_name, with_use, with_word}

-- ---- faults

abbrev pub Fails : Kinds → Type 0
Fails [] = ⊥
Fails (k ∷ ks) = ⊤

pub unless_fails : (k l : Kinds) (z : Option (List Row)) → Fails k → unless (or_else k l) z ≡ None
unless_fails [] l z f = absurd f
unless_fails (x ∷ k) l z f = refl

pub first_fails : (k l : Kinds) → Fails k → Fails (or_else k l)
first_fails [] l f = absurd f
first_fails (x ∷ k) l f = tt

pub both_unless : (k l : Kinds) (z : Option (List Row)) → unless (or_else k l) z ≡ unless k (unless l z)
both_unless [] l z = refl
both_unless (x ∷ k) l z = refl

-- the word's flags begin with a character
abbrev pub HasFirst : Text → Type 0
HasFirst flags = (x : ℕ) × (slice_get (chars flags) 0 ≡ Some x)

abbrev pub CanRead : Text → Type 0
CanRead w = (flags : Text) → short_of w ≡ Some flags → HasFirst flags

abbrev pub AllRead : List Text → Type 0
AllRead [] = ⊤
AllRead (w ∷ ws) = CanRead w × AllRead ws

abbrev pub shape_with : Text → List Rule → Shape
shape_with title c = record (new_shape title) { rules = c; no_binary_name = true; disable_help_flag = true; disable_help_subcommand = true; disable_version_flag = true; is_built = true }

-- what the proof asks of the rules
pub record Serves (c : List Rule) (longs ids : List Text) : Type 0 where
  pub few : length ids < usize_max
  pub long : (name : Text) → arg_by_long c name ≡ cond (is_among longs name) (Some (option_at name)) None
  pub short : (x : ℕ) → arg_by_short c x ≡ None
  pub option_id : (id : Text) → is_among longs id ≡ true → IsPlain c id
  pub name_id : (id : Text) → list_any (λ x. bytes_eq x id) ids ≡ true → IsPlain c id
  pub place : (k : ℕ) → arg_by_index c (k + 1) ≡ name_found (k + 1) (slice_get ids k)
  pub unfaulted : (rows : List Row) → defaults_fault rows c ≡ []
  pub kept : (rows : List Row) → fold with_default rows c ≡ rows
  pub wanted : (u : Uses) → list_any (λ a. a.required && not (is_given a.id (rows_for u))) c ≡ not (list_all (λ id. was_used id u) ids)

module _ (title : Text) (c : List Rule) where
  abbrev pub end_of : Held → Option (List Row)
  end_of h = unless (or_else (settle_fault c false h) (or_else (defaults_fault (settled c h).rows c) (check_fault (shape_with title c) (finished c h) false))) (Some (finished c h))

  -- the rest of a walk
  abbrev pub total : Walk → List Text → Option (List Row)
  total w [] = end_of w.held
  total w (x ∷ xs) = unless (turn_fault (shape_with title c) [] w x) (total (walked c [] w x) xs)

  abbrev pub held_at : List Row → Option (Text × List Text) → Held
  held_at rows p = record { rows = rows; pending = p; skip = 0 }

  abbrev pub walk_at : List Row → Option (Text × List Text) → Waiting → ℕ → Bool → Walk
  walk_at rows p waiting k t = record { held = held_at rows p; waiting = waiting; position = k + 1; is_trailing = t; stopped = None }

  -- ---- a turn, by what the word is

  abbrev met_other : Waiting → Text → Held → Option (Text × Option Text) → Option Text → Held × Step
  met_other waiting word h (Some p) f = long_word c waiting word p.0 p.1 h
  met_other waiting word h None f = short_or_plain c waiting word f h

  abbrev met_by : Waiting → ℕ → Text → Held → Bool → Option (Text × Option Text) → Option Text → Held × Step
  met_by waiting position word h b o f = if b then (h, trailing position) else met_other waiting word h o f

  abbrev fault_other : Held → Option (Text × Option Text) → Option Text → Kinds
  fault_other h (Some p) f = long_fault c false (arg_by_long c p.0) p.1 h
  fault_other h None f = option_map_or (λ flags. bundle_fault c false flags h) f []

  abbrev fault_by : Held → Bool → Option (Text × Option Text) → Option Text → Kinds
  fault_by h b o f = if b then [] else fault_other h o f

  abbrev outcome : Walk → Text → Kinds → Held × Step → List Text → Option (List Row)
  outcome w word fault met ws = unless (or_else fault (step_fault (shape_with title c) w.position met.0 met.1)) (total (after_step c word w met.0 met.1) ws)

  abbrev outcome_by : Walk → Text → Bool → Option (Text × Option Text) → Option Text → List Text → Option (List Row)
  outcome_by w word b o f ws = outcome w word (fault_by w.held b o f) (met_by w.waiting w.position word w.held b o f) ws

  abbrev outcome_raw : Walk → Text → Bool → Option (Text × Option Text) → List Text → Option (List Row)
  outcome_raw w word b o ws = outcome w word (if b then [] else flag_word_fault c false o word w.held) (if b then (w.held, trailing w.position) else long_or_other c w.waiting word o w.held) ws

  raw_is : (w : Walk) (word : Text) (b : Bool) (o : Option (Text × Option Text)) (ws : List Text) → outcome_raw w word b o ws ≡ outcome_by w word b o (short_of word) ws
  raw_is w word b None ws = refl
  raw_is w word b (Some p) ws = refl

  turn_idle : (rows : List Row) (p : Option (Text × List Text)) (k : ℕ) (x : Text) (xs : List Text)
      → total (walk_at rows p idle k false) (x ∷ xs) ≡ outcome_by (walk_at rows p idle k false) x (bytes_eq x (45 ∷ 45 ∷ [])) (long_of x) (short_of x) xs
  unfolding walked
  turn_idle rows p k x xs = raw_is (walk_at rows p idle k false) x (bytes_eq x (45 ∷ 45 ∷ [])) (long_of x) xs

  turn_waits : (rows : List Row) (p : Option (Text × List Text)) (id : Text) (k : ℕ) (x : Text) (xs : List Text)
      → total (walk_at rows p (option id) k false) (x ∷ xs) ≡ outcome_by (walk_at rows p (option id) k false) x (bytes_eq x (45 ∷ 45 ∷ [])) (long_of x) (short_of x) xs
  unfolding walked
  turn_waits rows p id k x xs = raw_is (walk_at rows p (option id) k false) x (bytes_eq x (45 ∷ 45 ∷ [])) (long_of x) xs

  -- a word after the end of the options
  abbrev named : Walk → Text → List Text → Option (List Row)
  named w word ws = outcome w word [] (w.held, value) ws

  turn_trailing : (rows : List Row) (p : Option (Text × List Text)) (waiting : Waiting) (k : ℕ) (x : Text) (xs : List Text)
      → total (walk_at rows p waiting k true) (x ∷ xs) ≡ named (walk_at rows p waiting k true) x xs
  unfolding walked
  turn_trailing rows p waiting k x xs = refl

  module _ (longs ids : List Text) (serves : Serves c longs ids) where
    -- ---- what is pending fails

    place_fails : (rows : List Row) (p : Option (Text × List Text)) (k : ℕ) (o : Option Text) (z : Option (List Row)) → Fails (settle_fault c false (held_at rows p))
        → unless (option_map_or (λ a. positional_fault c false a (held_at rows p)) (name_found (k + 1) o) (stray_fault (shape_with title c))) z ≡ None
    place_fails rows p k None z f = refl
    place_fails rows p k (Some id) z f =
        ap (λ (b : Bool). unless (if b then [] else settle_fault c false (held_at rows p)) z) (and-false (is_pending (name_at (k + 1) id) p))
        ∙ go (settle_fault c false (held_at rows p)) f
      where
        go : (s : Kinds) → Fails s → unless s z ≡ None
        go [] f = absurd f
        go (x ∷ xs) f = refl

    named_fails : (rows : List Row) (p : Option (Text × List Text)) (waiting : Waiting) (k : ℕ) (t : Bool) (word : Text) (ws : List Text) → Fails (settle_fault c false (held_at rows p))
        → named (walk_at rows p waiting k t) word ws ≡ None
    named_fails rows p waiting k t word ws f =
        let z : Option (List Row) = total (to_positional c (arg_by_index c (k + 1)) word (walk_at rows p waiting k t) (held_at rows p)) ws in
        ap (λ (o : Option Rule). unless (option_map_or (λ a. positional_fault c false a (held_at rows p)) o (stray_fault (shape_with title c))) z) (serves.place k)
        ∙ place_fails rows p k (slice_get ids k) z f

    doomed_trailing : (rows : List Row) (p : Option (Text × List Text)) (waiting : Waiting) (k : ℕ) (ws : List Text) → Fails (settle_fault c false (held_at rows p))
        → total (walk_at rows p waiting k true) ws ≡ None
    doomed_trailing rows p waiting k [] f = unless_fails (settle_fault c false (held_at rows p)) _ _ f
    doomed_trailing rows p waiting k (x ∷ xs) f = turn_trailing rows p waiting k x xs ∙ named_fails rows p waiting k true x xs f

    long_fails : (h : Held) (name : Text) (v : Option Text) → Fails (settle_fault c false h) → Fails (long_fault c false (arg_by_long c name) v h)
    long_fails h name v f = subst (λ (o : Option Rule). Fails (long_fault c false o v h)) (sym (serves.long name)) (go (is_among longs name) v)
      where
        go : (b : Bool) (v : Option Text) → Fails (long_fault c false (cond b (Some (option_at name)) None) v h)
        go false v = tt
        go true None = f
        go true (Some word) = first_fails (settle_fault c false h) _ f

    bundle_fails : (rows : List Row) (p : Option (Text × List Text)) (flags : Text) → HasFirst flags → Fails (bundle_fault c false flags (held_at rows p))
    unfolding flags_fault
    bundle_fails rows p [] first = absurd (none (ap (λ (cs : List ℕ). slice_get cs 0) (sym chars-nil) ∙ first.1))
      where
        none : None ≡ Some first.0 → ⊥
        none e = cc
    bundle_fails rows p (b ∷ bs) first =
        let rest : Text = drop (length (encode_utf8 first.0)) (b ∷ bs) in
        subst Fails (sym (ap (λ (o : Option ℕ). bundle_step_fault c false o (b ∷ bs) 0 (held_at rows p) (flags_fault c false (length bs))) first.1
        ∙ ap (λ (o : Option Rule). short_fault c false o rest (held_at rows p) (flags_fault c false (length bs) rest 0)) (serves.short first.0))) tt

    doomed_by : (rows : List Row) (p : Option (Text × List Text)) (k : ℕ) (x : Text) (b : Bool) (o : Option (Text × Option Text)) (f : Option Text) (xs : List Text)
        → ((flags : Text) → f ≡ Some flags → HasFirst flags) → Fails (settle_fault c false (held_at rows p))
        → outcome_by (walk_at rows p idle k false) x b o f xs ≡ None
    doomed_by rows p k x true o f xs r fails = doomed_trailing rows p idle k xs fails
    doomed_by rows p k x false (Some q) f xs r fails = unless_fails (long_fault c false (arg_by_long c q.0) q.1 (held_at rows p)) _ _ (long_fails (held_at rows p) q.0 q.1 fails)
    doomed_by rows p k x false None (Some flags) xs r fails = unless_fails (bundle_fault c false flags (held_at rows p)) _ _ (bundle_fails rows p flags (r flags refl))
    doomed_by rows p k x false None None xs r fails = named_fails rows p idle k false x xs fails

    doomed : (rows : List Row) (p : Option (Text × List Text)) (k : ℕ) (t : Bool) (ws : List Text) → AllRead ws → Fails (settle_fault c false (held_at rows p))
        → total (walk_at rows p idle k t) ws ≡ None
    doomed rows p k true ws r fails = doomed_trailing rows p idle k ws fails
    doomed rows p k false [] r fails = unless_fails (settle_fault c false (held_at rows p)) _ _ fails
    doomed rows p k false (x ∷ xs) r fails =
        turn_idle rows p k x xs ∙ doomed_by rows p k x (bytes_eq x (45 ∷ 45 ∷ [])) (long_of x) (short_of x) xs r.0 fails

    -- ---- what the words give

    abbrev so_far : Option Text → Bool → ℕ → Uses → Given
    so_far w t k u = record { waiting = w; ended = t; count = k; uses = u }

    abbrev wanted_of : Given → List Text → Option (List Row)
    wanted_of g ws = option_map rows_for (given_from (clap_spelled longs) ids g ws)

    abbrev wanted_after : Option Given → List Text → Option (List Row)
    wanted_after g ws = option_map rows_for (option_and_then (λ h. given_from (clap_spelled longs) ids h ws) g)

    pub record Gives (ws : List Text) : Type 0 where
      pub on_idle : (u : Uses) (k : ℕ) (t : Bool) (rows : List Row) (p : Option (Text × List Text)) → settle_fault c false (held_at rows p) ≡ [] → settled_rows c p rows ≡ rows_for u
          → total (walk_at rows p idle k t) ws ≡ wanted_of (so_far None t k u) ws
      pub on_wait : (u : Uses) (k : ℕ) (id : Text) → is_among longs id ≡ true
          → total (walk_at (rows_for u) (Some (id, [])) (option id) k false) ws ≡ wanted_of (so_far (Some id) false k u) ws

    abbrev repeats : Bool → Kinds
    repeats b = if b then kind.ArgumentConflict ∷ [] else []

    -- one use of a rule
    use_is : (long : Option Text) (index : Option ℕ) (is_required : Bool) (id word : Text) (u : Uses) → use_fault false (plain_rule long index is_required id) (word ∷ []) (rows_for u) ≡ repeats (was_used id u)
    use_is long index is_required id word u = ap (λ (b : Bool). or_else (if b && not false then kind.ArgumentConflict ∷ [] else []) []) (has_row-for id u) ∙ go (was_used id u)
      where
        go : (b : Bool) → or_else (if b && not false then kind.ArgumentConflict ∷ [] else []) [] ≡ repeats b
        go true = refl
        go false = refl

    -- the value that is pending
    one_settles : (id word : Text) (u : Uses) → IsPlain c id → settle_fault c false (held_at (rows_for u) (Some (id, word ∷ []))) ≡ repeats (was_used id u)
    one_settles id word u is = ap (λ (o : Option Rule). option_map_or (λ a. use_fault false a (word ∷ []) (rows_for u)) o []) is.found ∙ use_is is.long is.index is.is_required id word u

    one_settled : (id word : Text) (u : Uses) → IsPlain c id → was_used id u ≡ false → settled_rows c (Some (id, word ∷ [])) (rows_for u) ≡ rows_for (u ++ (id, word) ∷ [])
    one_settled id word u is e = ap (λ (o : Option Rule). used_by_id o (word ∷ []) (rows_for u)) is.found ∙ fresh id word u e

    held_gives : (ws : List Text) → AllRead ws → Gives ws → (id word : Text) (u : Uses) (k : ℕ) (t : Bool) → IsPlain c id
        → total (walk_at (rows_for u) (Some (id, word ∷ [])) idle k t) ws ≡ wanted_after (with_use id word (so_far None t k u)) ws
    held_gives ws r next id word u k t is = go (was_used id u) refl
      where
        go : (b : Bool) → was_used id u ≡ b → total (walk_at (rows_for u) (Some (id, word ∷ [])) idle k t) ws
            ≡ wanted_after (if b then None else Some (so_far None t k (u ++ (id, word) ∷ []))) ws
        go true e = doomed (rows_for u) (Some (id, word ∷ [])) k t ws r (subst Fails (sym (one_settles id word u is ∙ ap repeats e)) tt)
        go false e = next.on_idle (u ++ (id, word) ∷ []) k t (rows_for u) (Some (id, word ∷ [])) (one_settles id word u is ∙ ap repeats e) (one_settled id word u is e)

    or_false : (b : Bool) → (b || false) ≡ b
    or_false true = refl
    or_false false = refl

    abbrev walk_with : Held → ℕ → Bool → Walk
    walk_with h k t = record { held = h; waiting = idle; position = min (k + 1 + 1) usize_max; is_trailing = t || false; stopped = None }

    walk_is : (id word : Text) (u : Uses) (k : ℕ) (t : Bool) (rows : List Row) (p : Option (Text × List Text)) → settled_rows c p rows ≡ rows_for u → min (k + 1 + 1) usize_max ≡ k + 1 + 1
        → to_positional c (Some (name_at (k + 1) id)) word (walk_at rows p idle k t) (held_at rows p) ≡ walk_at (rows_for u) (Some (id, word ∷ [])) idle (k + 1) t
    walk_is id word u k t rows p rows_is position_is =
        let h : Held = held_at rows p in
        let trailing_is : (t || false) ≡ t = or_false t in
        let first : to_positional c (Some (name_at (k + 1) id)) word (walk_at rows p idle k t) h ≡ record { held = held_at (settled_rows c p rows) (Some (id, word ∷ [])); waiting = idle; position = min (k + 1 + 1) usize_max; is_trailing = t || false; stopped = None } =
        ap (λ (b : Bool). walk_with (pushed id word (if b then h else settled c h)) k t) (and-false (is_pending (name_at (k + 1) id) p)) in
        let second : ◌≡◌ {A = Walk} (record { held = held_at (settled_rows c p rows) (Some (id, word ∷ [])); waiting = idle; position = min (k + 1 + 1) usize_max; is_trailing = t || false; stopped = None }) (walk_at (rows_for u) (Some (id, word ∷ [])) idle (k + 1) t) =
        λ i. record { held = held_at (rows_is i) (Some (id, word ∷ [])); waiting = idle; position = position_is i; is_trailing = trailing_is i; stopped = None } in
        first ∙ second

    named_gives : (ws : List Text) → AllRead ws → Gives ws → (word : Text) (u : Uses) (k : ℕ) (t : Bool) (rows : List Row) (p : Option (Text × List Text)) → settle_fault c false (held_at rows p) ≡ [] → settled_rows c p rows ≡ rows_for u
        → named (walk_at rows p idle k t) word ws ≡ wanted_after (with_name ids word (so_far None t k u)) ws
    named_gives ws r next word u k t rows p ok rows_is =
        ap (λ (o : Option Rule). unless (option_map_or (λ a. positional_fault c false a (held_at rows p)) o (stray_fault (shape_with title c))) (total (to_positional c o word (walk_at rows p idle k t) (held_at rows p)) ws)) (serves.place k)
        ∙ go (slice_get ids k) refl
      where
        go : (o : Option Text) → slice_get ids k ≡ o
            → unless (option_map_or (λ a. positional_fault c false a (held_at rows p)) (name_found (k + 1) o) (stray_fault (shape_with title c))) (total (to_positional c (name_found (k + 1) o) word (walk_at rows p idle k t) (held_at rows p)) ws)
            ≡ wanted_after (option_and_then (λ id. with_use id word (so_far None t (k + 1) u)) o) ws
        go None e = refl
        go (Some id) e =
            let below : k < length ids = got_below ids k id e in
            let position_is : min (k + 1 + 1) usize_max ≡ k + 1 + 1 = min-eq_left (omega (arith, serves.few)) in
            let w : Walk = to_positional c (Some (name_at (k + 1) id)) word (walk_at rows p idle k t) (held_at rows p) in
            ap (λ (b : Bool). unless (if b then [] else settle_fault c false (held_at rows p)) (total w ws)) (and-false (is_pending (name_at (k + 1) id) p))
            ∙ ap (λ (f : Kinds). unless f (total w ws)) ok
            ∙ ap (λ (v : Walk). total v ws) (walk_is id word u k t rows p rows_is position_is)
            ∙ held_gives ws r next id word u (k + 1) t (serves.name_id id (got_is_among ids k id e))

    idle_by : (xs : List Text) → AllRead xs → Gives xs → (x : Text) (u : Uses) (k : ℕ) (rows : List Row) (p : Option (Text × List Text)) → settle_fault c false (held_at rows p) ≡ [] → settled_rows c p rows ≡ rows_for u
        → (b : Bool) (o : Option (Text × Option Text)) (f : Option Text) → ((flags : Text) → f ≡ Some flags → HasFirst flags)
        → outcome_by (walk_at rows p idle k false) x b o f xs ≡ wanted_after (with_word ids None (kind_by longs b o f) x (so_far None false k u)) xs
    idle_by xs r next x u k rows p ok rows_is true o f first = next.on_idle u k true rows p ok rows_is
    idle_by xs r next x u k rows p ok rows_is false (Some q) f first =
        ap (λ (found : Option Rule). outcome (walk_at rows p idle k false) x (long_fault c false found q.1 (held_at rows p)) (after_flag c idle x (long_met c found q.1 (held_at rows p)).0 (long_met c found q.1 (held_at rows p)).1) xs) (serves.long q.0)
        ∙ go (is_among longs q.0) refl q.1
      where
        used_go : (v : Text) (b : Bool) → was_used q.0 u ≡ b → unless (or_else (repeats b) []) (total (walk_at (used (option_at q.0) (v ∷ []) (rows_for u)) None idle k false) xs)
            ≡ wanted_after (if b then None else Some (so_far None false k (u ++ (q.0, v) ∷ []))) xs
        used_go v true e = refl
        used_go v false e = next.on_idle (u ++ (q.0, v) ∷ []) k false (used (option_at q.0) (v ∷ []) (rows_for u)) None refl (fresh q.0 v u e)

        go : (b : Bool) → is_among longs q.0 ≡ b → (v : Option Text)
            → outcome (walk_at rows p idle k false) x (long_fault c false (cond b (Some (option_at q.0)) None) v (held_at rows p)) (after_flag c idle x (long_met c (cond b (Some (option_at q.0)) None) v (held_at rows p)).0 (long_met c (cond b (Some (option_at q.0)) None) v (held_at rows p)).1) xs
            ≡ wanted_after (with_word ids None (if b then option_kind q.0 v else other) x (so_far None false k u)) xs
        go false e v = refl
        go true e None =
            ap (λ (f : Kinds). unless (or_else f []) (total (walk_at (settled_rows c p rows) (Some (q.0, [])) (option q.0) k false) xs)) ok
            ∙ ap (λ (rs : List Row). total (walk_at rs (Some (q.0, [])) (option q.0) k false) xs) rows_is ∙ next.on_wait u k q.0 e
        go true e (Some v) =
            ap (λ (f : Kinds). unless (or_else (or_else f (use_fault false (option_at q.0) (v ∷ []) (settled_rows c p rows))) []) (total (walk_at (used (option_at q.0) (v ∷ []) (settled_rows c p rows)) None idle k false) xs)) ok
            ∙ ap (λ (rs : List Row). unless (or_else (use_fault false (option_at q.0) (v ∷ []) rs) []) (total (walk_at (used (option_at q.0) (v ∷ []) rs) None idle k false) xs)) rows_is
            ∙ ap (λ (f : Kinds). unless (or_else f []) (total (walk_at (used (option_at q.0) (v ∷ []) (rows_for u)) None idle k false) xs)) (use_is (Some q.0) None false q.0 v u)
            ∙ used_go v (was_used q.0 u) refl
    idle_by xs r next x u k rows p ok rows_is false None (Some flags) first = unless_fails (bundle_fault c false flags (held_at rows p)) _ _ (bundle_fails rows p flags (first flags refl))
    idle_by xs r next x u k rows p ok rows_is false None None first = named_gives xs r next x u k false rows p ok rows_is

    wait_fails : (id : Text) (u : Uses) → IsPlain c id → Fails (settle_fault c false (held_at (rows_for u) (Some (id, []))))
    wait_fails id u is = subst (λ (o : Option Rule). Fails (option_map_or (λ a. use_fault false a [] (rows_for u)) o [])) (sym is.found) tt

    wait_by : (xs : List Text) → AllRead xs → Gives xs → (x : Text) (u : Uses) (k : ℕ) (id : Text) → IsPlain c id → (b : Bool) (o : Option (Text × Option Text)) (f : Option Text) → ((flags : Text) → f ≡ Some flags → HasFirst flags)
        → outcome_by (walk_at (rows_for u) (Some (id, [])) (option id) k false) x b o f xs ≡ wanted_after (with_word ids (Some id) (kind_by longs b o f) x (so_far (Some id) false k u)) xs
    wait_by xs r next x u k id is true o f first = doomed_trailing (rows_for u) (Some (id, [])) (option id) k xs (wait_fails id u is)
    wait_by xs r next x u k id is false (Some q) f first =
        unless_fails (long_fault c false (arg_by_long c q.0) q.1 (held_at (rows_for u) (Some (id, [])))) _ _ (long_fails (held_at (rows_for u) (Some (id, []))) q.0 q.1 (wait_fails id u is))
        ∙ sym (none (is_among longs q.0) q.1)
      where
        none : (b : Bool) (v : Option Text) → wanted_after (with_word ids (Some id) (if b then option_kind q.0 v else other) x (so_far (Some id) false k u)) xs ≡ None
        none false v = refl
        none true None = refl
        none true (Some v) = refl
    wait_by xs r next x u k id is false None (Some flags) first = unless_fails (bundle_fault c false flags (held_at (rows_for u) (Some (id, [])))) _ _ (bundle_fails (rows_for u) (Some (id, [])) flags (first flags refl))
    wait_by xs r next x u k id is false None None first =
        ap (λ (o : Option Rule). total (record (walk_at (rows_for u) (Some (id, [])) (option id) k false) { held = (option_word o id x (held_at (rows_for u) (Some (id, [])))).0; waiting = (option_word o id x (held_at (rows_for u) (Some (id, [])))).1 }) xs) is.found
        ∙ ap (λ (b : Bool). total (walk_at (rows_for u) (Some (id, x ∷ [])) (if nat_lt (if b then 1 else 0) 1 then option id else idle) k false) xs) (same-refl id)
        ∙ held_gives xs r next id x u k false is

    ends_well : (u : Uses) (k : ℕ) (t : Bool) (rows : List Row) (p : Option (Text × List Text)) → settle_fault c false (held_at rows p) ≡ [] → settled_rows c p rows ≡ rows_for u
        → end_of (held_at rows p) ≡ wanted_of (so_far None t k u) []
    ends_well u k t rows p ok rows_is =
        let h : Held = held_at rows p in
        let rest : Kinds = or_else (defaults_fault (settled_rows c p rows) c) (check_fault (shape_with title c) (finished c h) false) in
        ap (λ (f : Kinds). unless (or_else f rest) (Some (finished c h))) ok
        ∙ ap (λ (f : Kinds). unless (or_else f (check_fault (shape_with title c) (finished c h) false)) (Some (finished c h))) (serves.unfaulted (settled_rows c p rows))
        ∙ ap (λ (rs : List Row). unless (check_fault (shape_with title c) rs false) (Some rs)) (serves.kept (settled_rows c p rows) ∙ rows_is)
        ∙ ap (λ (b : Bool). unless (if b then kind.MissingRequiredArgument ∷ [] else []) (Some (rows_for u))) (serves.wanted u)
        ∙ go (list_all (λ id. was_used id u) ids)
      where
        go : (b : Bool) → unless (if not b then kind.MissingRequiredArgument ∷ [] else []) (Some (rows_for u)) ≡ option_map rows_for (if b then Some u else None)
        go true = refl
        go false = refl

    idle_turn : (xs : List Text) → AllRead xs → Gives xs → (x : Text) → CanRead x → (u : Uses) (k : ℕ) (t : Bool) (rows : List Row) (p : Option (Text × List Text)) → settle_fault c false (held_at rows p) ≡ [] → settled_rows c p rows ≡ rows_for u
        → total (walk_at rows p idle k t) (x ∷ xs) ≡ wanted_of (so_far None t k u) (x ∷ xs)
    idle_turn xs r next x first u k true rows p ok rows_is = turn_trailing rows p idle k x xs ∙ named_gives xs r next x u k true rows p ok rows_is
    idle_turn xs r next x first u k false rows p ok rows_is = turn_idle rows p k x xs ∙ idle_by xs r next x u k rows p ok rows_is (bytes_eq x (45 ∷ 45 ∷ [])) (long_of x) (short_of x) first

    pub gives : (ws : List Text) → AllRead ws → Gives ws
    gives [] r = record {
      on_idle = λ u k t rows p ok rows_is. ends_well u k t rows p ok rows_is;
      on_wait = λ u k id among. unless_fails (settle_fault c false (held_at (rows_for u) (Some (id, [])))) _ _ (wait_fails id u (serves.option_id id among));
    }
    gives (x ∷ xs) r =
        let next : Gives xs = gives xs r.1 in
        record {
          on_idle = λ u k t rows p ok rows_is. idle_turn xs r.1 next x r.0 u k t rows p ok rows_is;
          on_wait = λ u k id among. turn_waits (rows_for u) (Some (id, [])) id k x xs ∙ wait_by xs r.1 next x u k id (serves.option_id id among) (bytes_eq x (45 ∷ 45 ∷ [])) (long_of x) (short_of x) r.0;
        }
