-- What the words ask for, by the request that was read of them.
use Rattle.std.specs.Prelude.{Option, Some, option_map}
use Rattle.std.proofs.Common.{◌≡◌, ℕ, List, sym, ◌∙◌, ap}
use Rattle.ppd_top_requests.specs.GivenWords.{Text}
use Rattle.ppd_top_requests.specs.declared.words.Request.{Request as GivenRequest}
use Rattle.ppd_top_requests.specs.declared.words.Request.TheVariants.{Source, Recording, Drill, Query as query}
use Rattle.ppd_top_requests.specs.declared.query.Query.{Query as GivenQuery}
use Rattle.ppd_top_requests.specs.Questions.{query_of}
use Rattle.ppd_top_requests.specs.declared.words.SourceRequest.{SourceRequest}
use Rattle.std.specs.Borrow.{Bor}
use Rattle.ppd_top_requests.specs.Words.{Command, asked, command_of, request_of}
use Rattle.ppd_top_requests.specs.Words.Request.{on_source, on_recording, on_number, on_query}

module _ (words : List (Bor Text)) (o : Option GivenRequest) (is : option_map request_of o ≡ asked words) where
  asks_some : (q : GivenRequest) → o ≡ Some q → asked words ≡ Some (request_of q)
  asks_some q e = sym is ∙ ap (λ (p : Option GivenRequest). option_map request_of p) e

  pub asks_source : (q : GivenRequest) (r : SourceRequest) (c : Command) → o ≡ Some q → q ≡ Source r → command_of r.command ≡ c → asked words ≡ Some (on_source c r.name.now r.options)
  asks_source q r c e f g =
      asks_some q e ∙ (ap (λ (p : GivenRequest). Some (request_of p)) f ∙ ap (λ (d : Command). Some (on_source d r.name.now r.options)) g)

  pub asks_recording : (q : GivenRequest) (n : Bor Text) → o ≡ Some q → q ≡ Recording n → asked words ≡ Some (on_recording n.now)
  asks_recording q n e f = asks_some q e ∙ ap (λ (p : GivenRequest). Some (request_of p)) f

  pub asks_query : (q : GivenRequest) (n : Bor Text) (a : GivenQuery) → o ≡ Some q → q ≡ query n a → asked words ≡ Some (on_query n.now (query_of a))
  asks_query q n a e f = asks_some q e ∙ ap (λ (p : GivenRequest). Some (request_of p)) f

  pub asks_drill : (q : GivenRequest) (n : ℕ) → o ≡ Some q → q ≡ Drill n → asked words ≡ Some (on_number n)
  asks_drill q n e f = asks_some q e ∙ ap (λ (p : GivenRequest). Some (request_of p)) f
