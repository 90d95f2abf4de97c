use Rattle.std.proofs.Common.{◌∙◌, inl, inr, refl, Some, ap}
use Rattle.ppd_top.proofs.Talked.{talks_end}
use Rattle.ppd_top_following.proofs.following.tell_all.Goals as goal

pub returns-in-7-clause-error : goal.returns-in-7-clause-error
returns-in-7-clause-error g c = talks_end _ _ _ _ c.tell.result 7 c.args.commands.now _ c.tell.ensures c.in-7.is (inr (inl refl)) (ap (λ s. Some s.left) c.new-input.ensures ∙ ap Some c.in-Ok.ensures.items) refl

pub returns-in-8-clause-error : goal.returns-in-8-clause-error
returns-in-8-clause-error g c = talks_end _ _ _ _ c.tell.result 8 c.args.commands.now _ c.tell.ensures c.in-8.is (inr (inr refl)) (ap (λ s. Some s.left) c.new-input.ensures ∙ ap Some c.in-Ok.ensures.items) refl
