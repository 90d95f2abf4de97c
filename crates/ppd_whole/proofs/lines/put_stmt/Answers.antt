use Rattle.std.proofs.Common.{◌≡◌, ◌∙◌, ◌++◌, ℕ, List, Option, ap, codes, sym}
use Rattle.std.specs.List.{flat_map}
use Rattle.std.proofs.lemmas.List.{append_assoc}
use Rattle.std.proofs.lemmas.Result.{on_ok_weaker}
use Rattle.ppd_text.specs.Texts.{place_text}
use Rattle.ppd_model.specs.declared.trace.EventId.{EventId}
use Rattle.ppd_text.specs.Items.{access_text, event_kind, outcome_text, written_locals}
use Rattle.ppd_whole_origins.specs.Origins.{pair_by}
use Rattle.ppd_whole.specs.Told.{told_read, told_stmt}
use Rattle.ppd_whole.specs.WholeText.{paired_text}
use Rattle.ppd_whole.proofs.lines.put_stmt.Goals as goal
use Rattle.ppd_ast.specs.Lookups.{body_numbered}

-- one text more before the end
further : (now before first last end : List ℕ) → now ≡ before ++ end → before ≡ first ++ last → now ≡ first ++ (last ++ end)
further now before first last end e f = e ∙ ap (λ (l : List ℕ). l ++ end) f ∙ append_assoc first last end

-- six texts, the fourth of two
six : (t0 t1 t2 t3 t4 t5 t6 a b k r w o p : List ℕ) → t1 ≡ t0 ++ a → t2 ≡ t1 ++ b → t3 ≡ t2 ++ k → t4 ≡ t3 ++ (r ++ w) → t5 ≡ t4 ++ o → t6 ≡ t5 ++ p
    → t6 ≡ t0 ++ ((((((a ++ b) ++ k) ++ r) ++ w) ++ o) ++ p)
six t0 t1 t2 t3 t4 t5 t6 a b k r w o p e1 e2 e3 e4 e5 e6 =
    let to2 = further t2 t1 t0 a b e2 e1 in
    let to3 = further t3 t2 t0 (a ++ b) k e3 to2 in
    let to4 = further t4 t3 t0 ((a ++ b) ++ k) (r ++ w) e4 to3 ∙ ap (λ (l : List ℕ). t0 ++ l) (sym (append_assoc ((a ++ b) ++ k) r w)) in
    let to5 = further t5 t4 t0 ((((a ++ b) ++ k) ++ r) ++ w) o e5 to4 in
    further t6 t5 t0 (((((a ++ b) ++ k) ++ r) ++ w) ++ o) p e6 to5

pub returns-clause-text : goal.returns-clause-text
returns-clause-text g c =
    let past = c.args.point.now.linked.now.past.now in
    let program = past.program.now in
    let process = c.args.point.now.process in
    let linker = c.args.point.now.linker.now in
    let event = c.args.event.now in
    let stmt = c.args.stmt.now in
    let t4 : List ℕ = c.put_accesses.new.text.items in
    let t5 : List ℕ = c.put_outcome.new.text.items in
    let reads : List ℕ = flat_map (told_read past process linker (body_numbered program stmt.body).locals) event.reads in
    let writes : List ℕ = flat_map (access_text (codes " write ") program (written_locals program stmt.body stmt.kind)) event.writes in
    let t6 : List ℕ = c.put_paired.new.text.items in
    let found : Option EventId = c.pair_of-pair.result in
    let pair : found ≡ pair_by past process linker event.number = c.pair_of-pair.ensures in
    let told : t6 ≡ t5 ++ paired_text program stmt.kind found → t6 ≡ c.args.text.now.items ++ told_stmt past process linker event stmt = λ last.
    six c.args.text.now.items c.put_place.new.text.items c.put.new.text.items c.put_event_kind.new.text.items t4 t5 t6
    (place_text stmt.place) (codes " ") (event_kind program event stmt.kind) reads writes (outcome_text event)
    (paired_text program stmt.kind (pair_by past process linker event.number))
    c.in_ok-put_place.ensures c.in_ok-put.ensures c.in_ok-put_event_kind.ensures c.in_ok-put_accesses.ensures.text c.in_ok-put_outcome.ensures
    (last ∙ ap (λ (o : Option EventId). t5 ++ paired_text program stmt.kind o) pair) in
    on_ok_weaker c.put_paired.result told c.put_paired.ensures
