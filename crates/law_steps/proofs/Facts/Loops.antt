-- The static facts of a block that is a loop.
use Rattle.law_steps.proofs.Beside.Closes.{AreUsed}
use Rattle.law_steps.proofs.Beside.Deeds.{return_ends}
use Rattle.law_steps.proofs.Beside.Kept.{IsOwned}
use Rattle.law_steps.proofs.Beside.LoopKinds.{while_goes}
use Rattle.law_steps.proofs.Beside.Staying.{IsClosed}
use Rattle.law_steps.proofs.Facts.Bodies.{HasCall, each_of}
use Rattle.law_steps.proofs.Facts.Named.{kind_over, kind_writing}
use Rattle.law_steps.proofs.Facts.Placed.{IsAt, inside_goes_on, listed}
use Rattle.law_steps.proofs.Facts.Within.{child_within, listed_within, stands_through, within_cases, within_listed}
use Rattle.law_steps.proofs.Vocabulary.Held.{Among, IsWritingBlock}
use Rattle.law_steps.proofs.Vocabulary.Relation.{IsBlock}
use Rattle.law_steps.specs.Beside.Opens.{IsWhile}
use Rattle.law_steps.specs.Beside.Relation.{IsListOf}
use Rattle.law_steps.proofs.OpenBlocks.Planned.{block_there}
use Rattle.law_steps.proofs.Units.Numbers.{block_loop, loop_is_while}
use Rattle.ppd_ast.proofs.Members.{below_range, has_cons, has_filter, has_first, has_later, has_left, has_right}
use Rattle.ppd_ast.specs.Lookups.{body_of, kind_of}
use Rattle.ppd_ast.specs.Members.{has}
use Rattle.ppd_ast.specs.Numbered.{is_while}
use Rattle.ppd_ast.specs.Order.{preorder}
use Rattle.ppd_ast.specs.Valid.{IsValid}
use Rattle.ppd_ast.specs.declared.limits.TheConstants.{MOST_NESTING, MOST_SHARED_CELLS}
use Rattle.ppd_ast.specs.declared.plan.BlockKind.TheVariants as block
use Rattle.ppd_ast.specs.declared.plan.Policy.{Policy}
use Rattle.ppd_ast.specs.declared.program.Kind.{Kind}
use Rattle.ppd_ast.specs.declared.program.Kind.TheVariants as kind
use Rattle.ppd_ast.specs.declared.program.Program.{Program}
use Rattle.ppd_blocks.proofs.Paths.{sorted_from}
use Rattle.ppd_blocks.specs.Blocks.{plan_of, prelog_of}
use Rattle.ppd_blocks.specs.Walk.{stands_in}
use Rattle.ppd_sem.proofs.TableWords.{postlog_in}
use Rattle.ppd_sem.specs.Blocks.{postlog_cells}
use Rattle.ppd_sem.specs.Described.{ends_body}
use Rattle.ppd_sem.specs.Tables.{block_of}
use Rattle.ppd_sem.specs.declared.proc.Todo.{Todo}
use Rattle.ppd_sets.proofs.Looping.{loop_defined_by_statements, loop_used_by_statements}
use Rattle.ppd_sets.specs.Named.{reads, writes}
use Rattle.ppd_sets.specs.Used.{IsLoopDefined, local_in, reads_at, sorted, writes_at}
use Rattle.std.proofs.Common.{List, Some, [], ap, arith, false, inl, inr, refl, subst, sym, true, true≢false, ℕ, ◌++◌, ◌<◌, ◌∙◌, ◌∷◌, ◌≡◌}
use Rattle.std.proofs.lemmas.Bool.{cond-true}
use Rattle.std.specs.List.{AllByRecursion as Each, flat_map, range_with_len}
use Rattle.std.specs.Prelude.{IsTrue, is_some}

-- statement s is the loop q or stands in it
abbrev pub IsWithin : Program → ℕ → ℕ → Type 0
IsWithin program q s = stands_in program s q ≡ true

-- a cell of the loop's prelog
abbrev pub IsPrelogged : Program → ℕ → ℕ → Type 0
IsPrelogged program q c = IsTrue (has (prelog_of program (block.Loop q)) c)

pub among : (cs : List ℕ) (c : ℕ) → IsTrue (has cs c) → Among cs c
among [] c h = absurd (true≢false (sym h))
among (d ∷ ds) c h = elim (has_cons d c ds h) [ inl e ↦ inl (sym e) | inr t ↦ inr (among ds c t) ]

used_each : (used : ℕ → Type 0) (cs : List ℕ) → ((c : ℕ) → IsTrue (has cs c) → used c) → AreUsed used cs
used_each used [] h = tt
used_each used (c ∷ cs) h = (h c (has_first c cs), used_each used cs (λ d i. h d (has_later c d cs i)))

sorted_small : (cells : List ℕ) (c : ℕ) → IsTrue (has (sorted cells) c) → c < MOST_SHARED_CELLS
unfolding sorted
sorted_small cells c h = let r =
    below_range 0 MOST_SHARED_CELLS c (has_filter (has cells) (range_with_len 0 MOST_SHARED_CELLS) c h).0 in omega (arith, r.1)

module _ (program : Program) (q : ℕ) (is : is_while (kind_of program q) ≡ true) where
  used_small : (c : ℕ) → IsTrue (has (local_in program (reads_at false program) q) c) → c < MOST_SHARED_CELLS
  used_small c h = sorted_small _ c
      (subst (λ l. IsTrue (has l c))
      (cond-true (is_while (kind_of program q))
      (sorted (flat_map (reads_at false program) (preorder MOST_NESTING program.stmts q))) [] is) h)

  defined_small : (c : ℕ) → IsTrue (has (local_in program (writes_at false program) q) c) → c < MOST_SHARED_CELLS
  defined_small c h = sorted_small _ c
      (subst (λ l. IsTrue (has l c))
      (cond-true (is_while (kind_of program q))
      (sorted (flat_map (writes_at false program) (preorder MOST_NESTING program.stmts q))) [] is) h)

  -- what the loop may read or write is in its prelog
  used_prelogged : (c : ℕ) → IsTrue (has (local_in program (reads_at false program) q) c) → IsPrelogged program q c
  used_prelogged c h = sorted_from (local_in program (reads_at false program) q ++ local_in program (writes_at false program) q) c (used_small c h)
      (has_left (local_in program (reads_at false program) q) (local_in program (writes_at false program) q) c h)

  defined_prelogged : (c : ℕ) → IsTrue (has (local_in program (writes_at false program) q) c) → IsPrelogged program q c
  defined_prelogged c h = sorted_from (local_in program (reads_at false program) q ++ local_in program (writes_at false program) q) c (defined_small c h)
      (has_right (local_in program (reads_at false program) q) (local_in program (writes_at false program) q) c h)

while_is : (k : Kind) → is_while k ≡ true → IsWhile k
while_is (kind.While e body) h = tt
while_is k h = absurd (true≢false (sym h))

-- the loop, entered: the last of what is to do in its block
abbrev pub closer_of : ℕ → Todo
closer_of q = record { stmt = q; entered = true; offered = false }

module _ (program : Program) (policy : Policy) (v : IsValid program) (q b : ℕ)
    (e : block_of (plan_of program policy) (block.Loop q) ≡ Some b) where
  looping : is_while (kind_of program q) ≡ true
  looping = loop_is_while program policy q (block_loop program policy q b e)

  pub loop_kind : IsWhile (kind_of program q)
  loop_kind = while_is (kind_of program q) looping

  -- the loop's postlog and prelog
  pub postlog_is : postlog_cells (plan_of program policy) b ≡ local_in program (writes_at false program) q
  postlog_is = ap postlog_in (block_there program policy (block.Loop q) b e)

  loop_within : (s : ℕ) → IsWithin program q s → (stmts : List ℕ) → IsListOf (kind_of program s) stmts
      → Each (IsWithin program q) stmts
  loop_within s h stmts is =
      each_of (IsAt program (Some s) (body_of program s)) (IsWithin program q) stmts
      (λ i at. child_within program q s i at.stmt v at.there at.parent h)
      (listed program s stmts v is)

  read_prelogged : (s : ℕ) → IsWithin program q s → (c : ℕ)
      → IsTrue (has (reads false program.exprs (kind_of program s)) c) → IsPrelogged program q c
  read_prelogged s h c r =
      used_prelogged program q looping c ((loop_used_by_statements program q c v looping).1
      (record {
        stmt = s;
        inside = within_listed program q s v h;
        read = r;
      }))

  written_defined : (s : ℕ) → IsWithin program q s → (c : ℕ) → IsTrue (has (writes false (kind_of program s)) c)
      → IsTrue (has (local_in program (writes_at false program) q) c)
  written_defined s h c w =
      (loop_defined_by_statements program q c v looping).1
      (record {
        stmt = s;
        inside = within_listed program q s v h;
        written = w;
      })

  pub loop_block_is : IsBlock program (IsPrelogged program q) (IsWithin program q)
      (HasCall program (IsWithin program q))
  loop_block_is = record {
    reads = λ s h. kind_over (IsPrelogged program q) program.exprs (kind_of program s) (read_prelogged s h);
    within = loop_within;
    calling = λ s g h is. record { stmt = s; stands = h; function = g; calls = is };
  }

  pub loop_writing : IsWritingBlock program (Among (postlog_cells (plan_of program policy) b)) (IsWithin program q)
  loop_writing = record {
    writes = λ s h. kind_writing (Among (postlog_cells (plan_of program policy) b)) (kind_of program s)
        (λ c w. among (postlog_cells (plan_of program policy) b) c
        (subst (λ cs. IsTrue (has cs c)) (sym postlog_is) (written_defined s h c w)));
    within = loop_within;
  }

  pub loop_goes_on : (s : ℕ) → IsWithin program q s → ends_body (kind_of program s) ≡ false
  loop_goes_on s h = elim (within_cases program q s h) [
    | inl same ↦ ap (λ i. ends_body (kind_of program i)) same ∙ while_goes (kind_of program q) loop_kind
    | inr out ↦ inside_goes_on program out.outer out.stmt.body s v
        (record { stmt = out.stmt; there = out.there; parent = out.parent; body = refl })
  ]

  pub loop_owned : (home depth : ℕ) (outside : List Todo)
      → IsOwned program (plan_of program policy) (IsPrelogged program q) (IsWithin program q)
      (HasCall program (IsWithin program q)) (closer_of q) home depth outside
  loop_owned home depth outside = record { goes_on = λ z s h. loop_goes_on s h; block = λ z. absurd (true≢false z) }

  pub loop_closed : (home : ℕ)
      → IsClosed program (plan_of program policy) (IsPrelogged program q) (IsWithin program q)
      (HasCall program (IsWithin program q)) (closer_of q) home
  loop_closed home = record {
    loop = λ z. (loop_kind, ap is_some e);
    body = λ z. absurd (true≢false z);
    returns = λ s h r. absurd (true≢false (sym (return_ends (kind_of program s) r) ∙ loop_goes_on s h));
  }

-- the postlog of a loop that is a block and stands in the loop
pub loop_postlogs : (program : Program) (policy : Policy) → IsValid program → (q b : ℕ)
    → block_of (plan_of program policy) (block.Loop q) ≡ Some b
    → (s d : ℕ) → IsWithin program q s → block_of (plan_of program policy) (block.Loop s) ≡ Some d
    → AreUsed (IsPrelogged program q) (postlog_cells (plan_of program policy) d)
loop_postlogs program policy v q b e s d h f =
    used_each (IsPrelogged program q) (postlog_cells (plan_of program policy) d) each
  where
    each : (c : ℕ) → IsTrue (has (postlog_cells (plan_of program policy) d) c) → IsPrelogged program q c
    each c i =
        let by : IsLoopDefined program s c =
        (loop_defined_by_statements program s c v (looping program policy v s d f)).0
        (subst (λ cs. IsTrue (has cs c)) (postlog_is program policy v s d f) i) in
        let in_s : IsWithin program s by.stmt = listed_within program s by.stmt v by.inside in
        defined_prelogged program q (looping program policy v q b e) c
        ((loop_defined_by_statements program q c v (looping program policy v q b e)).1
        (record {
          stmt = by.stmt;
          inside = within_listed program q by.stmt v
              (stands_through program q s by.stmt v in_s h);
          written = by.written;
        }))
