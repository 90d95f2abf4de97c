-- What the tests of an entry say where none fails.
use Rattle.std.proofs.Common.{◌≡◌, ℕ, ◌<◌, Bool, true, false, Option, Some, None, refl, sym, not, ◌&&◌, true≢false}
use Rattle.std.specs.Prelude.{ℤ, List, nat_le, is_some, slice_get, if◌then◌else◌}
use Rattle.std.proofs.lemmas.Bool.{leb-false}
use Rattle.ppd_ast.specs.declared.plan.Block.{Block}
use Rattle.ppd_ast.specs.declared.plan.BlockKind.{BlockKind}
use Rattle.ppd_ast.specs.declared.plan.BlockKind.TheVariants as block
use Rattle.ppd_ast.specs.declared.plan.Plan.{Plan}
use Rattle.ppd_ast.specs.declared.limits.TheConstants.{MOST_CALLS}
use Rattle.ppd_model.specs.declared.entry.Entry.{Entry}
use Rattle.ppd_model.specs.declared.entry.Entry.TheVariants as entry
use Rattle.ppd_sem.specs.Blocks.{block_kind, is_function}
use Rattle.ppd_sem.proofs.TableWords.{kind_in}
use Rattle.ppd_model.specs.declared.bad_log.BadLog.{BadLog}
use Rattle.ppd_index.specs.declared.standing.Standing.{Standing}
use Rattle.ppd_index.specs.Refusals.{is_fitting, is_paired, may_begin, refusal}
use Rattle.ppd_index.proofs.Vocabulary.{kind_there}

pub record HasPassed (plan : Plan) (body : ℕ) (s : Standing) (e : Entry) : Type 0 where
  pub goes_on : s.ended ≡ false
  pub paired : is_paired plan body s e ≡ true
  pub fitting : is_fitting plan e ≡ true

none_of : (f g h : BadLog) (a b c : Bool) → (if a then Some f else if not b then Some g else if not c then Some h else None) ≡ None → (a ≡ false) × (b ≡ true) × (c ≡ true)
none_of f g h true b c e = absurd (cc e)
none_of f g h false false c e = absurd (cc e)
none_of f g h false true false e = absurd (cc e)
none_of f g h false true true e = (refl, refl, refl)

pub passed : (plan : Plan) (body p : ℕ) (s : Standing) (e : Entry) → refusal plan body p s e ≡ None → HasPassed plan body s e
passed plan body p s e h =
    let all = none_of _ _ _ s.ended (is_paired plan body s e) (is_fitting plan e) h in
    record { goes_on = all.0; paired = all.1; fitting = all.2 }

-- ---- functions

below : (a : Bool) (n : ℕ) → a && not (nat_le MOST_CALLS n) ≡ true → n < MOST_CALLS
below a n h = leb-false MOST_CALLS n (by a (nat_le MOST_CALLS n) h)
  where
    by : (a b : Bool) → a && not b ≡ true → b ≡ false
    by a false h = refl
    by true true h = absurd (true≢false (sym h))
    by false true h = absurd (true≢false (sym h))

room_by : (body : ℕ) (s : Standing) (o : Option Block) → may_begin body s (kind_there o) ≡ true → is_function (kind_in o) ≡ true → s.functions < MOST_CALLS
room_by body s None h f = absurd (true≢false (sym f))
room_by body s (Some b) h f = by b.kind h f
  where
    by : (k : BlockKind) → may_begin body s (Some k) ≡ true → is_function k ≡ true → s.functions < MOST_CALLS
    by (block.Function g) h f = below (is_some s.innermost) s.functions h
    by (block.Process p) h f = absurd (true≢false (sym f))
    by (block.Loop t) h f = absurd (true≢false (sym f))

-- where a function's block begins, fewer than 64 intervals of functions run
pub room : (plan : Plan) (body : ℕ) (s : Standing) (b : ℕ) (values : List ℤ) → is_paired plan body s (entry.Prelog b values) ≡ true → is_function (block_kind plan b) ≡ true → s.functions < MOST_CALLS
room plan body s b values h f = room_by body s (slice_get plan.blocks b) h f
