-- Statements that break no rule name what is there.
use Rattle.std.proofs.Common.{◌≡◌, refl, sym, subst, ◌∙◌, ℕ, ◌<◌, arith, Bool, true, false, ◌&&◌, not, nat_eq, List, [], ◌∷◌, map, length, Option, Some, None, is_some, IsSomeAnd, IfSome, slice_get, IsSome, IsTrue}
use Rattle.std.specs.List.{All, flat_map}
use Rattle.std.proofs.lemmas.List.{length-map}
use Rattle.std.proofs.lemmas.List.Elements.{All-nil, All-cons, All-append}
use Rattle.ppd_ast.specs.declared.program.Place.{Place}
use Rattle.ppd_ast.specs.declared.program.Var.{Var}
use Rattle.ppd_ast.specs.declared.program.Body.{Body}
use Rattle.ppd_ast.specs.declared.program.Program.{Program}
use Rattle.ppd_ast.specs.Term.{Term}
use Rattle.ppd_ast.specs.Cells.{IsScalarOf, IsArrayOf, NamesWhole, IsWholeTarget, IsScalarIfAny}
use Rattle.ppd_ast.specs.Valid.{CallsRightly}
use Rattle.ppd_check_names.specs.declared.meaning.Use.TheVariants as U
use Rattle.ppd_check_names.specs.declared.fault.Cause.TheVariants.{Arity, VoidValue}
use Rattle.ppd_check_names.specs.Names.{Scope, meaning, number_as}
use Rattle.ppd_check_names.specs.declared.meaning.Meaning.{Meaning}
use Rattle.ppd_check_names.specs.declared.meaning.Meaning.TheVariants as M
use Rattle.ppd_check_names.specs.Faults.{if_so}
use Rattle.ppd_check_stmts.specs.Code as C
use Rattle.ppd_check_stmts.specs.Code.{Spot}
use Rattle.ppd_check_stmts.specs.Table.{roots, target, spot_terms, kind}
use Rattle.ppd_check_names.specs.Syntax.{Name, Formula, Goal, scalar, item, Value, plain, result, received}
use Rattle.ppd_check_names.specs.Reading.{goal_formula}
use Rattle.ppd_check_stmts.specs.Expressions.{read, term_of, name_faults, formula_faults, wrong_call, call_faults}
use Rattle.ppd_check_stmts.proofs.Vocabulary.{wrong_use}
use Rattle.ppd_check_stmts.specs.Statements.{spot, spot_of, put, value_faults}
use Rattle.ppd_check_stmts.proofs.Costs.Tables.{length_roots}
use Rattle.ppd_check.proofs.Named.Rightly.{IsThere, AreAllThere, IsNamedRightly}
use Rattle.ppd_check.proofs.Named.Terms.{nil_left, nil_right, not_nil, unless_true, if_so_false, scalar_used, array_used, meaning_there, formula_whole, formulas_whole}

pub nat_eq_same : (a b : ℕ) → nat_eq a b ≡ true → a ≡ b
nat_eq_same a b h = grind (arith, h)

-- a value is received only where one is given
received_given : (into : Option ℕ) (gives : Bool) → is_some into && not gives ≡ false → IsSome into → IsTrue gives
received_given None gives h i = cc
received_given (Some c) true h i = refl
received_given (Some c) false h i = cc

module _ (p : Program) (locals : List Var) where
  -- what is written are the cells of a whole variable, and an index names whole variables
  abbrev pub IsWholeSpot : Spot → Type 0
  IsWholeSpot (C.local c) = IsScalarOf locals c
  IsWholeSpot (C.local_at base n i) = IsArrayOf locals base n × NamesWhole p.shared locals i
  IsWholeSpot (C.shared c) = IsScalarOf p.shared c
  IsWholeSpot (C.shared_at base n i) = IsArrayOf p.shared base n × NamesWhole p.shared locals i

  one_whole : (e : Term) → NamesWhole p.shared locals e → All (NamesWhole p.shared locals) (e ∷ [])
  one_whole e w = All-cons (NamesWhole p.shared locals) e [] w (All-nil (NamesWhole p.shared locals))

  spot_terms_whole : (m : Spot) → IsWholeSpot m → All (NamesWhole p.shared locals) (spot_terms m)
  spot_terms_whole (C.local c) h = All-nil (NamesWhole p.shared locals)
  spot_terms_whole (C.local_at base n i) h = one_whole i h.1
  spot_terms_whole (C.shared c) h = All-nil (NamesWhole p.shared locals)
  spot_terms_whole (C.shared_at base n i) h = one_whole i h.1

  target_whole : (m : Spot) (k : ℕ) → IsWholeSpot m → IsWholeTarget p.shared locals (target k m)
  target_whole (C.local c) k h = h
  target_whole (C.local_at base n i) k h = h.0
  target_whole (C.shared c) k h = h
  target_whole (C.shared_at base n i) k h = h.0

  scalar_spot : (o : Option Meaning) (q : Place) → IfSome o (IsThere p locals) → wrong_use U.Scalar o q ≡ [] → IsWholeSpot (spot (read o None))
  scalar_spot o q a h =
      scalar_used (λ m. IfSome m (IsThere p locals) → IsWholeSpot (spot (read m None))) (λ base b. b) (λ base b. b) o q h a

  element_spot : (o : Option Meaning) (q : Place) (i : Term) → IfSome o (IsThere p locals) → wrong_use U.Element o q ≡ [] → NamesWhole p.shared locals i
      → IsWholeSpot (spot (read o (Some i)))
  element_spot o q i a h w =
      array_used (λ m. IfSome m (IsThere p locals) → IsWholeSpot (spot (read m (Some i)))) (λ base n b. (b, w)) (λ base n b. (b, w)) o q h a

  pub spot_whole : (s : List Scope) (g : Goal) → AreAllThere p locals s → formula_faults s (goal_formula g) ≡ [] → IsWholeSpot (spot_of s g)
  spot_whole s (scalar x) there h = scalar_spot (meaning s x.text) x.place (meaning_there p locals s x.text there) h
  spot_whole s (item x i) there h =
      element_spot (meaning s x.text) x.place (term_of s i) (meaning_there p locals s x.text there) (nil_left (name_faults U.Element s x) (formula_faults s i) h)
      (formula_whole p locals s i there (nil_right (name_faults U.Element s x) (formula_faults s i) h))

  -- One statement.

  pub set_rightly : (m : Spot) (e : Term) → IsWholeSpot m → NamesWhole p.shared locals e → IsNamedRightly p locals (C.set m e)
  set_rightly m e h w =
      record {
        terms = All-append (NamesWhole p.shared locals) (spot_terms m) (e ∷ []) (spot_terms_whole m h) (one_whole e w);
        writes = λ k. target_whole m k h;
        object = λ k. tt;
        call = λ k. tt;
      }

  pub clear_rightly : (base n : ℕ) → IsArrayOf locals base n → IsNamedRightly p locals (C.clear base n)
  clear_rightly base n h = record { terms = All-nil (NamesWhole p.shared locals); writes = λ k. h; object = λ k. tt; call = λ k. tt }

  pub back_rightly : (e : Term) → NamesWhole p.shared locals e → IsNamedRightly p locals (C.give_back (Some e))
  back_rightly e w = record { terms = one_whole e w; writes = λ k. tt; object = λ k. tt; call = λ k. tt }

  pub bare_back_rightly : IsNamedRightly p locals (C.give_back None)
  bare_back_rightly = record { terms = All-nil (NamesWhole p.shared locals); writes = λ k. tt; object = λ k. tt; call = λ k. tt }

  pub finish_rightly : IsNamedRightly p locals C.finish
  finish_rightly = record { terms = All-nil (NamesWhole p.shared locals); writes = λ k. tt; object = λ k. tt; call = λ k. tt }

  pub print_rightly : (e : Term) → NamesWhole p.shared locals e → IsNamedRightly p locals (C.print e)
  print_rightly e w = record { terms = one_whole e w; writes = λ k. tt; object = λ k. tt; call = λ k. tt }

  pub assert_rightly : (e : Term) → NamesWhole p.shared locals e → IsNamedRightly p locals (C.assert e)
  assert_rightly e w = record { terms = one_whole e w; writes = λ k. tt; object = λ k. tt; call = λ k. tt }

  semaphore_there : (o : Option Meaning) (q : Place) → IfSome o (IsThere p locals) → wrong_use U.Semaphore o q ≡ [] → number_as U.Semaphore o < length p.sems
  semaphore_there None q a h = absurd (not_nil _ _ h)
  semaphore_there (Some (M.Shared base n)) q a h = absurd (not_nil _ _ h)
  semaphore_there (Some (M.Local base n)) q a h = absurd (not_nil _ _ h)
  semaphore_there (Some (M.Semaphore k)) q a h = a
  semaphore_there (Some (M.Channel k)) q a h = absurd (not_nil _ _ h)
  semaphore_there (Some (M.Function k n g)) q a h = absurd (not_nil _ _ h)
  semaphore_there (Some M.Process) q a h = absurd (not_nil _ _ h)

  channel_there : (o : Option Meaning) (q : Place) → IfSome o (IsThere p locals) → wrong_use U.Channel o q ≡ [] → number_as U.Channel o < length p.chans
  channel_there None q a h = absurd (not_nil _ _ h)
  channel_there (Some (M.Shared base n)) q a h = absurd (not_nil _ _ h)
  channel_there (Some (M.Local base n)) q a h = absurd (not_nil _ _ h)
  channel_there (Some (M.Semaphore k)) q a h = absurd (not_nil _ _ h)
  channel_there (Some (M.Channel k)) q a h = a
  channel_there (Some (M.Function k n g)) q a h = absurd (not_nil _ _ h)
  channel_there (Some M.Process) q a h = absurd (not_nil _ _ h)

  pub take_rightly : (s : List Scope) (x : Name) → AreAllThere p locals s → name_faults U.Semaphore s x ≡ [] → IsNamedRightly p locals (C.take (number_as U.Semaphore (meaning s x.text)))
  take_rightly s x there h =
      record { terms = All-nil (NamesWhole p.shared locals); writes = λ k. tt; object = λ k. semaphore_there (meaning s x.text) x.place (meaning_there p locals s x.text there) h; call = λ k. tt }

  pub give_rightly : (s : List Scope) (x : Name) → AreAllThere p locals s → name_faults U.Semaphore s x ≡ [] → IsNamedRightly p locals (C.give (number_as U.Semaphore (meaning s x.text)))
  give_rightly s x there h =
      record { terms = All-nil (NamesWhole p.shared locals); writes = λ k. tt; object = λ k. semaphore_there (meaning s x.text) x.place (meaning_there p locals s x.text there) h; call = λ k. tt }

  pub send_rightly : (s : List Scope) (x : Name) (e : Term) → AreAllThere p locals s → name_faults U.Channel s x ≡ [] → NamesWhole p.shared locals e
      → IsNamedRightly p locals (C.send (number_as U.Channel (meaning s x.text)) e)
  send_rightly s x e there h w =
      record { terms = one_whole e w; writes = λ k. tt; object = λ k. channel_there (meaning s x.text) x.place (meaning_there p locals s x.text there) h; call = λ k. tt }

  receive_rightly : (s : List Scope) (x : Name) (c : ℕ) → AreAllThere p locals s → name_faults U.Channel s x ≡ [] → IsScalarOf locals c
      → IsNamedRightly p locals (C.receive (number_as U.Channel (meaning s x.text)) c)
  receive_rightly s x c there h w =
      record { terms = All-nil (NamesWhole p.shared locals); writes = λ k. w; object = λ k. channel_there (meaning s x.text) x.place (meaning_there p locals s x.text there) h; call = λ k. tt }

  call_there : (o : Option Meaning) (q : Place) (args : List Term) (into : Option ℕ) → IfSome o (IsThere p locals) → wrong_call o q (length args) (is_some into) ≡ []
      → (m : ℕ) → CallsRightly p (kind m (C.call (number_as U.Function o) args into))
  call_there None q args into a h m = absurd (not_nil _ _ h)
  call_there (Some (M.Shared base n)) q args into a h m = absurd (not_nil _ _ h)
  call_there (Some (M.Local base n)) q args into a h m = absurd (not_nil _ _ h)
  call_there (Some (M.Semaphore k)) q args into a h m = absurd (not_nil _ _ h)
  call_there (Some (M.Channel k)) q args into a h m = absurd (not_nil _ _ h)
  call_there (Some (M.Function k params gives)) q args into a h m = (a.0, go (slice_get p.bodies k) a.1)
    where
      as_many : length args ≡ params
      as_many =
          nat_eq_same (length args) params
          (unless_true (nat_eq (length args) params) q Arity
          (nil_left (if_so (not (nat_eq (length args) params)) q Arity) (if_so (is_some into && not gives) q VoidValue) h))

      gives_one : IsSome into → IsTrue gives
      gives_one =
          received_given into gives
          (if_so_false (is_some into && not gives) q VoidValue
          (nil_right (if_so (not (nat_eq (length args) params)) q Arity) (if_so (is_some into && not gives) q VoidValue) h))

      go : (o : Option Body) → IsSomeAnd o (λ g. (params ≡ g.params) × (gives ≡ g.value)) → IsSomeAnd o (λ g. (length (roots m args) ≡ g.params) × (IsSome into → IsTrue g.value))
      go None b = b
      go (Some g) b = (length_roots m args ∙ as_many ∙ b.0, λ i. sym b.1 ∙ gives_one i)
  call_there (Some M.Process) q args into a h m = absurd (not_nil _ _ h)

  pub call_rightly : (s : List Scope) (f : Name) (args : List Formula) (into : Option ℕ) → AreAllThere p locals s → call_faults s (is_some into) f args ≡ [] → IsScalarIfAny locals into
      → IsNamedRightly p locals (C.call (number_as U.Function (meaning s f.text)) (map (term_of s) args) into)
  call_rightly s f args into there h w =
      record {
        terms = formulas_whole p locals s args there (nil_right (wrong_call (meaning s f.text) f.place (length args) (is_some into)) (flat_map (formula_faults s) args) h);
        writes = λ k. w;
        object = λ k. tt;
        call =
            call_there (meaning s f.text) f.place (map (term_of s) args) into (meaning_there p locals s f.text there)
            (subst (λ n. wrong_call (meaning s f.text) f.place n (is_some into) ≡ []) (sym (length-map args (term_of s)))
            (nil_left (wrong_call (meaning s f.text) f.place (length args) (is_some into)) (flat_map (formula_faults s) args) h));
      }

  -- a value into a local scalar
  pub put_rightly : (s : List Scope) (c : ℕ) (v : Value) → AreAllThere p locals s → value_faults s v ≡ [] → IsScalarOf locals c → IsNamedRightly p locals (put s c v)
  put_rightly s c (plain e) there h w = set_rightly (C.local c) (term_of s e) w (formula_whole p locals s e there h)
  put_rightly s c (result f args) there h w = call_rightly s f args (Some c) there h w
  put_rightly s c (received x) there h w = receive_rightly s x c there h w
