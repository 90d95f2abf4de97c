use Rattle.std.proofs.Common.{◌≡◌, ◌∙◌, ℕ, List, subst}
use Rattle.ppd_top_commands.specs.Commands.{Keeping, Keeps}
use Rattle.ppd_top_commands.proofs.storing.store.Goals as goal

same_text : (P : List ℕ → Type 0) (name : List ℕ) (x y : Keeping) (status : ℕ) (a b : List ℕ) → a ≡ b → Keeps P name a x y status → Keeps P name b x y status
same_text P name x y status a b e k = subst (λ s. Keeps P name s x y status) e k

pub returns : goal.returns
returns g c = same_text _ _ _ _ _ _ _ (c.deref.ensures.value ∙ c.in-Ok.ensures) c.store_with.ensures
