-- The tables of the block in which last values are looked for.
use Rattle.std.proofs.Common.{◌≡◌, ℕ, Bool, true, false, IfSome, Option, Some, None, refl, subst, sym}
use Rattle.std.specs.Prelude.{◌&&◌, nat_eq, if◌then◌else◌}
use Rattle.std.proofs.lemmas.Bool.{eqb-true}
use Rattle.std.proofs.lemmas.Option.{same_Some}
use Rattle.ppd_flow_past.specs.declared.past.Past.{Past}
use Rattle.ppd_flow.specs.Answers.{BlockTables}
use Rattle.ppd_flow.specs.Tabled.{IsOfInterval}
use Rattle.ppd_session.specs.declared.last_tables.LastTables.{LastTables}
use Rattle.ppd_session.specs.declared.place.Place.{Place}
use Rattle.ppd_session.specs.LastTables.{AreOfLast, same_tables}

module _ (past : Past) where
  made_is : (place : Place) (o : Option BlockTables) → IfSome o (IsOfInterval past place.process place.interval)
      → (b : BlockTables) → o ≡ Some b → IsOfInterval past place.process place.interval b
  made_is place None h b e = absurd (cc)
  made_is place (Some t) h b e =
      subst (λ (u : BlockTables). IsOfInterval past place.process place.interval u) (same_Some t b e) h

  pub asked : (place : Place) (o : Option BlockTables) → IfSome o (IsOfInterval past place.process place.interval)
      → AreOfLast past (record { place = Some place; tables = o })
  asked place o h last b e f =
      subst (λ (q : Place). IsOfInterval past q.process q.interval b) (same_Some place last e) (made_is place o h b f)

  by_both : (last place : Place) (c d : Bool) → nat_eq place.process last.process ≡ c
      → nat_eq place.interval last.interval ≡ d → (o : Option BlockTables)
      → ((b : BlockTables) → o ≡ Some b → IsOfInterval past last.process last.interval b)
      → IfSome (if c && d then o else None) (IsOfInterval past place.process place.interval)
  by_both last place false d p i o all = tt
  by_both last place true false p i o all = tt
  by_both last place true true p i None all = tt
  by_both last place true true p i (Some b) all =
      subst (λ n. IsOfInterval past n place.interval b) (sym (eqb-true place.process last.process p))
      (subst (λ k. IsOfInterval past last.process k b) (sym (eqb-true place.interval last.interval i)) (all b refl))

  pub found : (t : LastTables) (last place : Place) (o : Option BlockTables) → AreOfLast past t
      → t.place ≡ Some last → o ≡ same_tables last place t.tables
      → IfSome o (IsOfInterval past place.process place.interval)
  found t last place o all e is =
      subst (λ (z : Option BlockTables). IfSome z (IsOfInterval past place.process place.interval)) (sym is)
      (by_both last place (nat_eq place.process last.process) (nat_eq place.interval last.interval) refl refl t.tables
      (λ b f. all last b e f))
