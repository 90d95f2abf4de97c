-- Logs that the index accepts are accepted when they are cut.
use Rattle.law_clean.proofs.Accepted.{CanStop, both_none, stops, sync_stops, unit_stops, unrefused}
use Rattle.law_clean.proofs.PastWords.{cut_from}
use Rattle.law_clean.specs.Cuts.{cut, cut_at, is_unit, stop}
use Rattle.ppd_ast.specs.declared.plan.Plan.{Plan}
use Rattle.ppd_ast.specs.declared.program.Program.{Program}
use Rattle.ppd_ast.specs.declared.status.Status.TheVariants as status
use Rattle.ppd_model.specs.Entries.{is_end}
use Rattle.ppd_model.specs.IntervalLogs.{Indexing, begun_indexing, index_step}
use Rattle.ppd_model.specs.declared.entry.Entry.{Entry}
use Rattle.ppd_model.specs.declared.entry.Entry.TheVariants as entry
use Rattle.ppd_graph.proofs.FlowWords.{is_sync}
use Rattle.ppd_graph.specs.Ends.{ending}
use Rattle.ppd_index.specs.Refusals.{first_bad, first_from, first_in_lists, is_paired, refusal, standing}
use Rattle.std.proofs.Common.{Bool, List, None, Option, Some, [], ap, append_assoc, arith, false, refl, subst, suc, sym, true, true≢false, zero, ℕ, ◌++◌, ◌+◌, ◌||◌, ◌∙◌, ◌∷◌, ◌≡◌}
use Rattle.std.proofs.lemmas.Option.{none-some}
use Rattle.std.specs.Option.{option_map_or, option_or}
use Rattle.std.specs.Prelude.{if◌then◌else◌, slice_get, take}

-- ---- an element of a list

record IsAt {A : Type 0} (xs : List A) (n : ℕ) (x : A) : Type 0 where
  pub front : List A
  pub rest : List A
  pub are : xs ≡ front ++ x ∷ rest
  pub cut : take (suc n) xs ≡ front ++ x ∷ []
  pub next : slice_get xs (suc n) ≡ slice_get rest 0
  pub more : (y : A) (ys : List A) → rest ≡ y ∷ ys → take (suc (suc n)) xs ≡ front ++ x ∷ y ∷ []

is_at : {A : Type 0} (xs : List A) (n : ℕ) (x : A) → slice_get xs n ≡ Some x → IsAt xs n x
is_at [] n x e = absurd (none-some x e)
is_at (y ∷ ys) zero x e =
    let same : y ≡ x = ap (λ o. elim o [ None ↦ y | Some z ↦ z ]) e in
    record { front = []; rest = ys; are = ap (λ z. z ∷ ys) same; cut = ap (λ z. z ∷ []) same; next = refl; more = λ z zs f. ap (λ us. take 2 (y ∷ us)) f ∙ ap (λ u. u ∷ z ∷ []) same }
is_at (y ∷ ys) (suc n) x e =
    let r = is_at ys n x e in
    record { front = y ∷ r.front; rest = r.rest; are = ap (λ zs. y ∷ zs) r.are; cut = ap (λ zs. y ∷ zs) r.cut; next = r.next; more = λ z zs f. ap (λ us. y ∷ us) (r.more z zs f) }

-- ---- what is cut off

-- what comes after the last entry that is kept: a unit that follows, and the end
abbrev pub cut_tail : List Entry → List Entry
cut_tail [] = stop ∷ []
cut_tail (entry.Unit u values ∷ es) = entry.Unit u values ∷ stop ∷ []
cut_tail (e ∷ es) = stop ∷ []

cut_at_is : (entries : List Entry) (n : ℕ) (e : Entry) (a : IsAt entries n e) → cut_at entries (n + 1) ≡ a.front ++ e ∷ cut_tail a.rest
cut_at_is entries n e a =
    ap (λ k. cut_at entries k) one
    ∙ by a.rest refl
  where
    one : n + 1 ≡ suc n
    one = omega arith

    two : suc n + 1 ≡ suc (suc n)
    two = omega arith

    no : (r : List Entry) → a.rest ≡ r → is_unit (slice_get r 0) ≡ false → cut_at entries (suc n) ≡ a.front ++ e ∷ stop ∷ []
    no r f g =
        ap (λ b. take (if b then suc n + 1 else suc n) entries ++ stop ∷ []) (ap is_unit (a.next ∙ ap (λ z. slice_get z 0) f) ∙ g)
        ∙ ap (λ z. z ++ stop ∷ []) a.cut ∙ append_assoc a.front (e ∷ []) (stop ∷ [])

    by : (r : List Entry) → a.rest ≡ r → cut_at entries (suc n) ≡ a.front ++ e ∷ cut_tail r
    by [] f = no [] f refl
    by (entry.Unit u values ∷ es) f =
        ap (λ b. take (if b then suc n + 1 else suc n) entries ++ stop ∷ []) (ap is_unit (a.next ∙ ap (λ z. slice_get z 0) f))
        ∙ ap (λ k. take k entries ++ stop ∷ []) two ∙ ap (λ z. z ++ stop ∷ []) (a.more (entry.Unit u values) es f)
        ∙ append_assoc a.front (e ∷ entry.Unit u values ∷ []) (stop ∷ [])
    by (entry.Prelog b values ∷ es) f = no (entry.Prelog b values ∷ es) f refl
    by (entry.Sync k o m z rs ws ∷ es) f = no (entry.Sync k o m z rs ws ∷ es) f refl
    by (entry.Postlog b values ∷ es) f = no (entry.Postlog b values ∷ es) f refl
    by (entry.End s m rs ws ∷ es) f = no (entry.End s m rs ws ∷ es) f refl

module _ (plan : Plan) (body p : ℕ) where
  abbrev OK : Indexing → Bool → List Entry → Type 0
  OK x ended es = first_from plan body p x ended es ≡ None

  taken : (x : Indexing) (ended : Bool) (e : Entry) (rest : List Entry) → OK x ended (e ∷ rest) → refusal plan body p (standing plan x ended) e ≡ None
  taken x ended e rest ok = (both_none (refusal plan body p (standing plan x ended) e) (first_from plan body p (index_step x e) (ended || is_end e) rest) ok).0

  rest_ok : (x : Indexing) (ended : Bool) (e : Entry) (rest : List Entry) → OK x ended (e ∷ rest) → OK (index_step x e) (ended || is_end e) rest
  rest_ok x ended e rest ok = (both_none (refusal plan body p (standing plan x ended) e) (first_from plan body p (index_step x e) (ended || is_end e) rest) ok).1

  -- one entry
  over : (x : Indexing) (ended : Bool) (e : Entry) (rest more : List Entry) → OK x ended (e ∷ rest) → OK (index_step x e) (ended || is_end e) more → OK x ended (e ∷ more)
  over x ended e rest more ok g = ap (λ o. option_or o (first_from plan body p (index_step x e) (ended || is_end e) more)) (taken x ended e rest ok) ∙ g

  -- after a first part
  after : (front rest more : List Entry) (x : Indexing) (ended : Bool) → OK x ended (front ++ rest) → ((y : Indexing) (b : Bool) → OK y b rest → OK y b more) → OK x ended (front ++ more)
  after [] rest more x ended ok f = f x ended ok
  after (e ∷ es) rest more x ended ok f = over x ended e (es ++ rest) (es ++ more) ok (after es rest more (index_step x e) (ended || is_end e) (rest_ok x ended e (es ++ rest) ok) f)

  -- where the index can stop, it can with a unit that follows
  tail_ok : (x : Indexing) (ended : Bool) (rest : List Entry) → CanStop plan body p x ended → OK x ended rest → OK x ended (cut_tail rest)
  tail_ok x ended [] c ok = stops plan body p x ended c
  tail_ok x ended (entry.Unit u values ∷ es) c ok =
      over x ended (entry.Unit u values) es (stop ∷ []) ok (stops plan body p (index_step x (entry.Unit u values)) (ended || false) (unit_stops plan body p x ended u values c))
  tail_ok x ended (entry.Prelog b values ∷ es) c ok = stops plan body p x ended c
  tail_ok x ended (entry.Sync k o m z rs ws ∷ es) c ok = stops plan body p x ended c
  tail_ok x ended (entry.Postlog b values ∷ es) c ok = stops plan body p x ended c
  tail_ok x ended (entry.End s m rs ws ∷ es) c ok = stops plan body p x ended c

  -- a cut after a synchronization
  sync_ok : (entries : List Entry) (n : ℕ) (o : Option Entry) → slice_get entries n ≡ o → option_map_or is_sync o false ≡ true → OK begun_indexing false entries → OK begun_indexing false (cut_at entries (n + 1))
  sync_ok entries n None is sync ok = absurd (true≢false (sym sync))
  sync_ok entries n (Some e) is sync ok =
      let a : IsAt entries n e = is_at entries n e is in
      subst (OK begun_indexing false) (sym (cut_at_is entries n e a))
      (after a.front (e ∷ a.rest) (e ∷ cut_tail a.rest) begun_indexing false (subst (OK begun_indexing false) a.are ok)
      (λ y b g. over y b e a.rest (cut_tail a.rest) g
      (tail_ok (index_step y e) (b || is_end e) a.rest (sync_stops plan body p y b e sync (taken y b e a.rest g)) (rest_ok y b e a.rest g))))

  -- a cut after the first entry, which is the prelog of the process's own block
  start_ok : (entries : List Entry) → OK begun_indexing false entries → OK begun_indexing false (cut_at entries 1)
  unfolding is_at
  start_ok [] ok = absurd (none-some _ (sym ok))
  start_ok (e ∷ es) ok =
      let a : IsAt (e ∷ es) 0 e = is_at (e ∷ es) 0 e refl in
      subst (OK begun_indexing false) (sym (cut_at_is (e ∷ es) 0 e a))
      (over begun_indexing false e es (cut_tail es) ok
      (tail_ok (index_step begun_indexing e) (false || is_end e) es (prelog e (unrefused plan body p begun_indexing false e (taken begun_indexing false e es ok)).1) (rest_ok begun_indexing false e es ok)))
    where
      prelog : (e : Entry) → is_paired plan body (standing plan begun_indexing false) e ≡ true → CanStop plan body p (index_step begun_indexing e) (false || is_end e)
      prelog (entry.Prelog b values) f = record { goes_on = refl; first = 0; rest = []; running = refl }
      prelog (entry.Unit u values) f = absurd (true≢false (sym f))
      prelog (entry.Sync k o m z rs ws) f = absurd (true≢false (sym f))
      prelog (entry.Postlog b values) f = absurd (true≢false (sym f))
      prelog (entry.End status.Ended m rs ws) f = absurd (true≢false (sym f))
      prelog (entry.End status.Blocked m rs ws) f = absurd (true≢false (sym f))
      prelog (entry.End status.Budget m rs ws) f = absurd (true≢false (sym f))
      prelog (entry.End (status.Trap t) m rs ws) f = absurd (true≢false (sym f))

  pub cut_ok : (o : Option ℕ) (entries : List Entry) → OK begun_indexing false entries → OK begun_indexing false (cut o entries)
  cut_ok None entries ok = start_ok entries ok
  cut_ok (Some i) entries ok = by (option_map_or is_sync (slice_get entries (ending i entries)) false) refl
    where
      by : (b : Bool) → option_map_or is_sync (slice_get entries (ending i entries)) false ≡ b → OK begun_indexing false (if b then cut_at entries (ending i entries + 1) else entries)
      by true sync = sync_ok entries (ending i entries) (slice_get entries (ending i entries)) refl sync ok
      by false sync = ok

-- the index never refuses a cut of logs that it accepted
pub cuts_accepted : (program : Program) (plan : Plan) (last : ℕ → Option ℕ) (p : ℕ) (lists : List (List Entry)) → first_in_lists program plan p lists ≡ None → first_in_lists program plan p (cut_from last p lists) ≡ None
cuts_accepted program plan last p [] ok = refl
cuts_accepted program plan last p (es ∷ lists) ok =
    let both = both_none (first_bad program plan p es) (first_in_lists program plan (p + 1) lists) ok in
    ap (λ o. option_or o (first_in_lists program plan (p + 1) (cut_from last (p + 1) lists))) (cut_ok plan (program.functions + p) p (last p) es both.0)
    ∙ cuts_accepted program plan last (p + 1) lists both.1
