use Rattle.std.proofs.Common.{◌≡◌, ◌+◌, ◌<◌, ◌∷◌, drop, sym, ◌∙◌, arith}
use Rattle.ppd_sem.specs.Described.{is_in_loop}
use Rattle.ppd_sem.proofs.Describes.{ends_here, next_top, runs_below, runs_here}
use Rattle.ppd_sem.proofs.describing.is_in_loop.Goals as goal

pub returns-then-ends_body : goal.returns-then-ends_body
returns-then-ends_body c =
    let program = c.args.program.now in
    let i = c.loop-index.index in
    let t = c.index-entry.result.now in
    let inside : i < c.len-count.result = omega arith in
    let next : is_in_loop program (drop i c.args.todo.now) ≡ is_in_loop program (t ∷ drop (i + 1) c.args.todo.now) =
    next_top program c.todo.inside.items.items c.args.todo.now i c.len-count.result t c.todo.view_is (omega arith) inside c.index-entry.ensures in
    sym (sym c.loop-index.invariant ∙ next ∙ ends_here program t (drop (i + 1) c.args.todo.now) (sym c.ends_body.ensures ∙ c.if-ends_body.true))

pub returns-then-entry : goal.returns-then-entry
returns-then-entry c =
    let program = c.args.program.now in
    let i = c.loop-index.index in
    let t = c.index-entry.result.now in
    let inside : i < c.len-count.result = omega arith in
    let next : is_in_loop program (drop i c.args.todo.now) ≡ is_in_loop program (t ∷ drop (i + 1) c.args.todo.now) =
    next_top program c.todo.inside.items.items c.args.todo.now i c.len-count.result t c.todo.view_is (omega arith) inside c.index-entry.ensures in
    sym (sym c.loop-index.invariant ∙ next ∙ runs_here program t (drop (i + 1) c.args.todo.now) (sym c.ends_body.ensures ∙ c.if-ends_body.false) c.if-entry.true)

pub loop-index-preserved : goal.loop-index-preserved
loop-index-preserved c =
    let program = c.args.program.now in
    let i = c.loop-index.index in
    let t = c.index-entry.result.now in
    let inside : i < c.len-count.result = omega arith in
    let next : is_in_loop program (drop i c.args.todo.now) ≡ is_in_loop program (t ∷ drop (i + 1) c.args.todo.now) =
    next_top program c.todo.inside.items.items c.args.todo.now i c.len-count.result t c.todo.view_is (omega arith) inside c.index-entry.ensures in
    sym (next ∙ runs_below program t (drop (i + 1) c.args.todo.now) (sym c.ends_body.ensures ∙ c.if-ends_body.false) c.if-entry.false) ∙ c.loop-index.invariant
