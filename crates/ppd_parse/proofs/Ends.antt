-- Where the tokens end, the ends of nodes that are left are done.
use Rattle.std.proofs.Common.{◌≡◌, ℕ, List, [], ◌∷◌, ◌++◌, reverse, refl, sym, ◌∙◌, ap, subst}
use Rattle.std.proofs.lemmas.List.{reverse-append}
use Rattle.ppd_parse.specs.declared.symbol.Rule.{Rule}
use Rattle.ppd_parse.specs.declared.symbol.Want.{Want}
use Rattle.ppd_parse.specs.declared.symbol.Want.TheVariants.{Close}
use Rattle.ppd_parse.specs.Grammar.{Shape, close, ReadsAll, nothing, wrap, next}
use Rattle.ppd_parse.specs.Limits.{EndsAs}
use Rattle.ppd_parse.specs.Machine.{State, Completed}
use Rattle.ppd_parse.proofs.Unfolded.{wrap_to}

-- at the end, the same trees come out
pub record Ends (a b : State) : Type 0 where
  pub to : (f : List Shape) → Completed a [] f → Completed b [] f
  pub from : (f : List Shape) → Completed b [] f → Completed a [] f

pub ends_same : (a : State) → Ends a a
ends_same a = record { to = λ f h. h; from = λ f h. h }

pub popped : {items : List Want} (rest : List Want) (w : Want) → items ≡ rest ++ w ∷ [] → reverse items ≡ w ∷ reverse rest
popped {items} rest w e = ap reverse e ∙ reverse-append rest (w ∷ [])

pub ends_close : (a : State) (r : Rule) (b : ℕ) (ws : List Want) (s t : List Shape) → t ≡ close r b s → Ends a (record { wants = Close r b ∷ ws; shapes = s }) → Ends a (record { wants = ws; shapes = t })
ends_close a r b ws s t e h = record {
  to = λ f c. subst (λ u. ReadsAll ws u [] f []) (sym e) (wrap_to (h.to f c));
  from = λ f c. h.from f (next wrap (subst (λ u. ReadsAll ws u [] f []) e c));
}

pub ends_as : (a b : State) → b.wants ≡ [] → Ends a b → EndsAs a b.shapes
ends_as a b e h = record {
  to = λ g c. go g (subst (λ ws. ReadsAll ws b.shapes [] g []) e (h.to g c));
  from = h.from b.shapes (subst (λ ws. ReadsAll ws b.shapes [] b.shapes []) (sym e) nothing);
}
  where
    go : (g : List Shape) → ReadsAll [] b.shapes [] g [] → g ≡ b.shapes
    go g nothing = refl
