-- The first step with which a test holds.
use Rattle.std.proofs.Common.{◌≡◌, Bool, true, false, List, [], ◌∷◌, ◌++◌, refl, ap, sym, ◌∙◌, true≢false}
use Rattle.std.specs.Prelude.{fold}
use Rattle.ppd_model.specs.declared.tracing.Taken.{Taken}

-- steps before which a test fails, and after which it holds
pub record Turns {X : Type 0} (go : X → Taken → X) (f : X → Bool) (x : X) (steps : List Taken) : Type 0 where
  pub before : List Taken
  pub taken : Taken
  pub after : List Taken
  pub steps_are : steps ≡ before ++ taken ∷ after
  pub fails : f (fold go x before) ≡ false
  pub holds : f (go (fold go x before) taken) ≡ true

pub turns : {X : Type 0} (go : X → Taken → X) (f : X → Bool) (x : X) (steps : List Taken) → f x ≡ false
    → f (fold go x steps) ≡ true → Turns go f x steps
turns go f x [] unso is_so = absurd (true≢false (sym is_so ∙ unso))
turns go f x (t ∷ ts) unso is_so = by (f (go x t)) refl (λ e. turns go f (go x t) ts e is_so)
  where
    by : (b : Bool) → f (go x t) ≡ b → (f (go x t) ≡ false → Turns go f (go x t) ts) → Turns go f x (t ∷ ts)
    by true e rest = record { before = []; taken = t; after = ts; steps_are = refl; fails = unso; holds = e }
    by false e rest =
        let r : Turns go f (go x t) ts = rest e in
        record {
          before = t ∷ r.before;
          taken = r.taken;
          after = r.after;
          steps_are =
              ap (λ xs. t ∷ xs) r.steps_are;
          fails = r.fails;
          holds = r.holds;
        }
