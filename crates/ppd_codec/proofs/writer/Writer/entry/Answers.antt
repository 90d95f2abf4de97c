use Rattle.std.proofs.lemmas.Grind.{common_steps}
use Rattle.std.specs.Int.{w32}
use Rattle.std.proofs.Common.{◌≡◌, ℕ, ◌++◌, ◌∷◌, List, ◌∙◌, ap, sym, subst, rules, FitsSigned, w64, arith}
use Rattle.std.proofs.lemmas.Int.{to_z-of_z}
use Rattle.std.proofs.lemmas.List.{append_assoc}
use Rattle.ppd_model.specs.declared.entry.Entry.TheVariants as entry
use Rattle.ppd_model.specs.declared.entry.Entry.{Entry}
use Rattle.ppd_codec.specs.Form.{value, number}
use Rattle.ppd_codec.specs.Format.{an_entry, cells}
use Rattle.ppd_codec_fields.specs.Fields.{kind_code, status_code}
use Rattle.ppd_codec.proofs.Writing.{followed, link, on_ok}
use Rattle.ppd_codec.proofs.writer.Writer.entry.Goals as goal

pub returns-in_ok-event-in-Sync-clause-ok : goal.returns-in_ok-event-in-Sync-clause-ok
returns-in_ok-event-in-Sync-clause-ok g c =
    let k = c.in-Sync.kind in
    let o = c.in-Sync.object in
    let n = c.in-Sync.number in
    let v = c.in-Sync.value in
    let r = c.in-Sync.reads in
    let w = c.in-Sync.writes in
    let fits : FitsSigned w64 v = search rules in
    let is : c.args.entry.now ≡ entry.Sync k o n v r w = c.in-Sync.is in
    let n0 = c.args.self.now.out.items in
    let n1 = c.event.new.self.out.items in
    let n2 = c.accesses.new.self.out.items in
    let e1 : n1 ≡ n0 ++ 3 ∷ kind_code k ∷ o ∷ ((number w32).bytes n ++ value.bytes v) = simp to_z-of_z at c.in_ok-event-in-Sync.ensures.ok in
    on_ok c.accesses.result
    (λ h f.
    let e2 = followed (cells f.shared).bytes n1 n2 _ r _ w (h f.shared) c.as_slice-in-Sync.ensures c.as_slice-in-Sync-2.ensures in
    let more = (cells f.shared).bytes r ++ (cells f.shared).bytes w in
    let all : n2 ≡ n0 ++ (an_entry f).bytes (entry.Sync k o n v r w) =
    link n0 (3 ∷ kind_code k ∷ o ∷ ((number w32).bytes n ++ value.bytes v)) n1 more n2 e1 e2
    ∙ ap (λ (bs : List ℕ). n0 ++ 3 ∷ kind_code k ∷ o ∷ bs) (append_assoc ((number w32).bytes n) (value.bytes v) more) in
    subst (λ (e : Entry). n2 ≡ n0 ++ (an_entry f).bytes e) (sym is) all)
    c.accesses.ensures.ok

pub returns-in_ok-ending-in-End-clause-ok : goal.returns-in_ok-ending-in-End-clause-ok
returns-in_ok-ending-in-End-clause-ok g c =
    let s = c.in-End.status in
    let n = c.in-End.rest in
    let r = c.in-End.reads in
    let w = c.in-End.writes in
    let is : c.args.entry.now ≡ entry.End s n r w = c.in-End.is in
    let n0 = c.args.self.now.out.items in
    let n1 = c.ending.new.self.out.items in
    let n2 = c.accesses-in-End.new.self.out.items in
    on_ok c.accesses-in-End.result
    (λ h f.
    let e2 = followed (cells f.shared).bytes n1 n2 _ r _ w (h f.shared) c.as_slice-in-End.ensures c.as_slice-in-End-2.ensures in
    let all : n2 ≡ n0 ++ (an_entry f).bytes (entry.End s n r w) =
    link n0 (5 ∷ status_code s ∷ (number w32).bytes n) n1 ((cells f.shared).bytes r ++ (cells f.shared).bytes w) n2 c.in_ok-ending-in-End.ensures.ok e2 in
    subst (λ (e : Entry). n2 ≡ n0 ++ (an_entry f).bytes e) (sym is) all)
    c.accesses-in-End.ensures.ok

pub accesses-requires : goal.accesses-requires
accesses-requires c = grind (arith, common_steps) steps 250000

pub accesses-requires-in-End : goal.accesses-requires-in-End
accesses-requires-in-End c = grind (arith, common_steps) steps 250000

pub as_slice-requires : goal.as_slice-requires
as_slice-requires c = search rules depth 1 fits 30

pub as_slice-requires-in-End : goal.as_slice-requires-in-End
as_slice-requires-in-End c = search rules depth 1 fits 30

pub as_slice-requires-in-End-2 : goal.as_slice-requires-in-End-2
as_slice-requires-in-End-2 c = search rules depth 1 fits 30

pub as_slice-requires-in-Postlog : goal.as_slice-requires-in-Postlog
as_slice-requires-in-Postlog c = search rules depth 1 fits 30

pub as_slice-requires-in-Sync : goal.as_slice-requires-in-Sync
as_slice-requires-in-Sync c = search rules depth 1 fits 30

pub as_slice-requires-in-Sync-2 : goal.as_slice-requires-in-Sync-2
as_slice-requires-in-Sync-2 c = search rules depth 1 fits 30

pub as_slice-requires-in-Unit : goal.as_slice-requires-in-Unit
as_slice-requires-in-Unit c = search rules depth 1 fits 30

pub ending-requires : goal.ending-requires
ending-requires c = search rules depth 1 fits 30

pub event-requires : goal.event-requires
event-requires c = search rules depth 1 fits 30

pub numbered-requires : goal.numbered-requires
numbered-requires c = grind (arith, common_steps) steps 250000

pub numbered-requires-in-Postlog : goal.numbered-requires-in-Postlog
numbered-requires-in-Postlog c = grind (arith, common_steps) steps 250000

pub numbered-requires-in-Unit : goal.numbered-requires-in-Unit
numbered-requires-in-Unit c = grind (arith, common_steps) steps 250000

pub returns-in-Postlog : goal.returns-in-Postlog
returns-in-Postlog c = grind (arith, common_steps) steps 250000

pub returns-in-Prelog : goal.returns-in-Prelog
returns-in-Prelog c = grind (arith, common_steps) steps 250000

pub returns-in-Unit : goal.returns-in-Unit
returns-in-Unit c = grind (arith, common_steps) steps 250000

pub returns-in_ok-ending-in-End-clause-cost : goal.returns-in_ok-ending-in-End-clause-cost
returns-in_ok-ending-in-End-clause-cost c = search rules depth 1 fits 30

pub returns-in_ok-event-in-Sync-clause-cost : goal.returns-in_ok-event-in-Sync-clause-cost
returns-in_ok-event-in-Sync-clause-cost c = search rules depth 1 fits 30
