-- A statement that is marked as offered is a send.
use Rattle.std.proofs.Common.{◌≡◌, ℕ, true, false, Option, Some, None, refl, sym, ◌∙◌, true≢false}
use Rattle.std.proofs.lemmas.Option.{none-some}
use Rattle.ppd_ast.specs.declared.program.Kind.{Kind}
use Rattle.ppd_ast.specs.declared.program.Kind.TheVariants as kind
use Rattle.ppd_ast.specs.declared.program.Program.{Program}
use Rattle.ppd_ast.specs.Lookups.{kind_of}
use Rattle.ppd_sem.specs.declared.proc.Todo.{Todo}
use Rattle.ppd_sem.specs.Described.{ends_body}
use Rattle.ppd_sem.specs.Process.{chan_of, offer_of}
use Rattle.ppd_sem.proofs.Offers.{offer_there}
use Rattle.law_steps.specs.Beside.Opens.{IsWhile}

pub send_goes_on : (k : Kind) (c : ℕ) → chan_of k ≡ Some c → ends_body k ≡ false
send_goes_on (kind.Return e) c h = absurd (none-some c h)
send_goes_on kind.End c h = absurd (none-some c h)
send_goes_on k c h = refl

pub send_no_loop : (k : Kind) (c : ℕ) → chan_of k ≡ Some c → IsWhile k → ⊥
send_no_loop (kind.While e body) c h w = none-some c h
send_no_loop k c h w = w

module _ (program : Program) (t : Todo) (c : ℕ) (offered : offer_of program t ≡ Some c) where
  sends : chan_of (kind_of program t.stmt) ≡ Some c
  sends = offer_there t.offered (chan_of (kind_of program t.stmt)) c offered

  pub offered_goes_on : ends_body (kind_of program t.stmt) ≡ false
  offered_goes_on = send_goes_on (kind_of program t.stmt) c sends

  pub offered_no_loop : IsWhile (kind_of program t.stmt) → ⊥
  offered_no_loop w = send_no_loop (kind_of program t.stmt) c sends w

-- a statement that ends a body is none
pub unoffered_end : (program : Program) (t : Todo) → ends_body (kind_of program t.stmt) ≡ true
    → offer_of program t ≡ None
unoffered_end program t e = by (offer_of program t) refl
  where
    by : (o : Option ℕ) → offer_of program t ≡ o → o ≡ None
    by None is = refl
    by (Some c) is = absurd (true≢false (sym e ∙ offered_goes_on program t c is))
