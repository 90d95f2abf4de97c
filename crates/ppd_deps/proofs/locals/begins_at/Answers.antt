use Rattle.std.specs.Prelude.{false}
use Rattle.ppd_sets.specs.Used.{writes_at}
use Rattle.ppd_deps.specs.Named.{own_vars}
use Rattle.std.proofs.Common.{◌∙◌, ◌++◌, sym, ap}
use Rattle.std.proofs.Common.{take}
use Rattle.std.specs.List.{filter, flat_map}
use Rattle.ppd_ast.specs.Members.{has}
use Rattle.ppd_sets.specs.Flow.{next_of}
use Rattle.ppd_deps.proofs.Tabled.{place_no, place_there, place_yes}
use Rattle.ppd_deps.proofs.locals.begins_at.Goals as goal
use Rattle.ppd_deps.proofs.locals.begins_at.Goals.{then-writes_local+in_ok-next+in_ok-append, else-writes_local}

pub writes_local-requires-clause-there : goal.writes_local-requires-clause-there
writes_local-requires-clause-there c = place_there c.args.program.now c.args.places.now c.loop-place.place-index c.requires.there c.loop-place-test.true

pub next_at-requires-clause-there : goal.next_at-requires-clause-there
next_at-requires-clause-there c = place_there c.args.program.now c.args.places.now c.loop-place.place-index c.requires.there c.loop-place-test.true

pub loop-place-preserved : goal.loop-place-preserved
loop-place-preserved c =
    let p = c.args.program.now in
    let i = c.loop-place.place-index in
    let places = c.args.places.now in
    let v = c.args.local.var in
    elim c.if-writes_local.branch [
      | then-writes_local+in_ok-next+in_ok-append w ↦
          w.starts-is ∙ w.in_ok-append.ensures.ok ∙ ap (λ xs. xs ++ w.into_vec.result.items) c.loop-place.invariant ∙ ap (λ xs. flat_map (next_of p) (filter (λ d. has (own_vars p (writes_at false p) d) v) (take i places)) ++ xs) (w.into_vec.ensures ∙ w.in_ok-next.ensures ∙ w.next_at.ensures)
          ∙ sym (place_yes p v places i c.loop-place-test.true (sym c.writes_local.ensures ∙ w.if-writes_local.true))
      | else-writes_local w ↦ w.starts-is ∙ c.loop-place.invariant ∙ sym (place_no p v places i c.loop-place-test.true (sym c.writes_local.ensures ∙ w.if-writes_local.false))
    ]
