-- The first refusal by the table is that of the definition.
use Rattle.std.proofs.Common.{◌≡◌, ℕ, ◌+◌, ◌<◌, ◌≤◌, Bool, false, ◌||◌, List, [], ◌∷◌, ◌++◌, Option, None, refl, ap, ap₂, sym, subst, ◌∙◌, length, get_or, drop, map, suc, arith}
use Rattle.std.specs.Prelude.{fold}
use Rattle.std.proofs.Math.Seq.{drop-cons}
use Rattle.std.proofs.lemmas.List.{append_assoc, drop_all}
use Rattle.ppd_ast.specs.declared.plan.Plan.{Plan}
use Rattle.ppd_ast.specs.declared.program.Program.{Program}
use Rattle.ppd_model.specs.declared.entry.Entry.{Entry}
use Rattle.ppd_model.specs.Entries.{is_end}
use Rattle.ppd_model.specs.IntervalLogs.{Indexing, begun_indexing, blocks_of, functions_in, index_step}
use Rattle.std.specs.Option.{option_or as or_else}
use Rattle.ppd_model.proofs.Extents.{one_longer}
use Rattle.ppd_model.specs.declared.bad_log.BadLog.{BadLog}
use Rattle.ppd_model.specs.declared.bad_log.BadLog.TheVariants.{Unpaired, NoEnd, AfterEnd, WrongValues, Memory}
use Rattle.ppd_index.specs.declared.row.Row.{Row}
use Rattle.ppd_index.specs.declared.standing.Standing.{Standing}
use Rattle.ppd_index.specs.Refusals.{IsRefused, first_bad, first_from, first_in_lists, refusal, standing}
use Rattle.ppd_index.proofs.Vocabulary.{innermost_of, unended}
use Rattle.ppd_index.specs.Tables.{Tabled, begun_table, rows_of, standing_in, table_step}
use Rattle.ppd_index.proofs.Rows.{depth_same, innermost_same}
use Rattle.ppd_index.proofs.Tabled.{IsTabled, begun_tabled, here, indexed_step, shifted}

-- the first refusal of these entries after the table's
abbrev pub first_by : Plan → ℕ → ℕ → Tabled → Bool → List Entry → Option BadLog
first_by plan body p t ended [] = unended p t.entry ended
first_by plan body p t ended (e ∷ es) =
    or_else (refusal plan body p (standing_in ended t) e) (first_by plan body p (table_step plan t e) (ended || is_end e) es)

standing_same : (plan : Plan) (entries : List Entry) (t : Tabled) (x : Indexing) (ended : Bool) → IsTabled plan entries t x → standing_in ended t ≡ standing plan x ended
standing_same plan entries t x ended h =
    let at : ℕ → Option ℕ → ℕ → Standing = λ n o d. record { entry = n; ended = ended; innermost = o; functions = d } in
    ap₂ (λ o d. at t.entry o d) (innermost_same plan entries t.running t.rows x.intervals h.rows) (depth_same plan entries t.running t.rows x.intervals h.rows)
    ∙ ap₂ (λ n ks. at n (innermost_of ks x.intervals) (functions_in plan (blocks_of ks x.intervals))) h.entry h.running

found_fold : (plan : Plan) (body p : ℕ) (entries done rest : List Entry) (t : Tabled) (x : Indexing) (ended : Bool) → entries ≡ done ++ rest → t.entry ≡ length done → IsTabled plan entries t x
    → first_by plan body p t ended rest ≡ first_from plan body p x ended rest
found_fold plan body p entries done [] t x ended is at h = ap (λ n. unended p n ended) h.entry
found_fold plan body p entries done (e ∷ es) t x ended is at h =
    ap₂ (λ (s : Standing) (later : Option BadLog). or_else (refusal plan body p s e) later) (standing_same plan entries t x ended h)
    (found_fold plan body p entries (done ++ e ∷ []) es (table_step plan t e) (index_step x e) (ended || is_end e) (shifted entries done es e is) (one_longer done e t.entry at)
    (indexed_step plan entries t x e (here entries done es e t.entry is at) h))

pub found_first : (program : Program) (plan : Plan) (p : ℕ) (entries : List Entry) → first_by plan (program.functions + p) p begun_table false entries ≡ first_bad program plan p entries
found_first program plan p entries = found_fold plan (program.functions + p) p entries [] entries begun_table begun_indexing false refl refl (begun_tabled plan entries)

-- a refusal comes before all later ones
pub refused_first : (r later : Option BadLog) (e : BadLog) → IsRefused r e → IsRefused (or_else r later) e
refused_first r later Memory h = tt
refused_first r later (Unpaired at) h = ap (λ o. or_else o later) h
refused_first r later (NoEnd at) h = ap (λ o. or_else o later) h
refused_first r later (AfterEnd at) h = ap (λ o. or_else o later) h
refused_first r later (WrongValues at) h = ap (λ o. or_else o later) h

-- ---- one entry more

at_next : (entries : List Entry) (i : ℕ) (e : Entry) → i < length entries → e ≡ get_or entries i e → drop i entries ≡ e ∷ drop (i + 1) entries
at_next entries i e h is =
    let on : suc i ≡ i + 1 = omega arith in
    drop-cons entries i e h ∙ (ap (λ d. d ∷ drop (suc i) entries) (sym is) ∙ ap (λ n. e ∷ drop n entries) on)

pub rows_next : (plan : Plan) (entries : List Entry) (i : ℕ) (e : Entry) (t now : Tabled) → i < length entries → e ≡ get_or entries i e → now ≡ table_step plan t e → fold (table_step plan) t (drop i entries) ≡ fold (table_step plan) begun_table entries
    → fold (table_step plan) now (drop (i + 1) entries) ≡ fold (table_step plan) begun_table entries
rows_next plan entries i e t now h is step so = ap (λ x. fold (table_step plan) x (drop (i + 1) entries)) step ∙ (ap (λ es. fold (table_step plan) t es) (sym (at_next entries i e h is)) ∙ so)

pub found_next : (plan : Plan) (body p : ℕ) (entries : List Entry) (i : ℕ) (e : Entry) (t now : Tabled) (ended over : Bool) → i < length entries → e ≡ get_or entries i e → now ≡ table_step plan t e → over ≡ ended || is_end e
    → refusal plan body p (standing_in ended t) e ≡ None → first_by plan body p t ended (drop i entries) ≡ first_by plan body p begun_table false entries
    → first_by plan body p now over (drop (i + 1) entries) ≡ first_by plan body p begun_table false entries
found_next plan body p entries i e t now ended over h is step ends none so =
    ap₂ (λ x o. first_by plan body p x o (drop (i + 1) entries)) step ends
    ∙ (ap (λ r. or_else r (first_by plan body p (table_step plan t e) (ended || is_end e) (drop (i + 1) entries))) (sym none)
    ∙ (ap (λ es. first_by plan body p t ended es) (sym (at_next entries i e h is)) ∙ so))

pub refused_at : (program : Program) (plan : Plan) (p : ℕ) (entries : List Entry) (i : ℕ) (e : Entry) (t : Tabled) (ended : Bool) (b : BadLog) → i < length entries → e ≡ get_or entries i e
    → first_by plan (program.functions + p) p t ended (drop i entries) ≡ first_by plan (program.functions + p) p begun_table false entries
    → IsRefused (refusal plan (program.functions + p) p (standing_in ended t) e) b → IsRefused (first_bad program plan p entries) b
refused_at program plan p entries i e t ended b h is so refused =
    let body = program.functions + p in
    let later = first_by plan body p (table_step plan t e) (ended || is_end e) (drop (i + 1) entries) in
    let whole : or_else (refusal plan body p (standing_in ended t) e) later ≡ first_bad program plan p entries =
    ap (λ es. first_by plan body p t ended es) (sym (at_next entries i e h is)) ∙ (so ∙ found_first program plan p entries) in
    subst (λ o. IsRefused o b) whole (refused_first (refusal plan body p (standing_in ended t) e) later b refused)

-- after the last entry the first refusal is whether the list has an end
pub found_over : (program : Program) (plan : Plan) (p : ℕ) (entries : List Entry) (t : Tabled) (ended : Bool) (rest : List Entry) → rest ≡ []
    → first_by plan (program.functions + p) p t ended rest ≡ first_by plan (program.functions + p) p begun_table false entries
    → unended p t.entry ended ≡ first_bad program plan p entries
found_over program plan p entries t ended rest none so = ap (λ es. first_by plan (program.functions + p) p t ended es) (sym none) ∙ (so ∙ found_first program plan p entries)

pub found_end : (program : Program) (plan : Plan) (p : ℕ) (entries : List Entry) (i : ℕ) (t : Tabled) (ended : Bool) → t.entry ≡ i → length entries ≤ i → i ≤ length entries
    → first_by plan (program.functions + p) p t ended (drop i entries) ≡ first_by plan (program.functions + p) p begun_table false entries
    → unended p (length entries) ended ≡ first_bad program plan p entries
found_end program plan p entries i t ended at past within so =
    let same : length entries ≡ t.entry = omega (arith, at, past, within) in
    ap (λ n. unended p n ended) same ∙ found_over program plan p entries t ended (drop i entries) (drop_all i entries past) so

-- ---- one list more

pub lists_at : (lists : List (List Entry)) (p : ℕ) (es : List Entry) → p < length lists → es ≡ get_or lists p es → drop p lists ≡ es ∷ drop (p + 1) lists
lists_at lists p es h is =
    let on : suc p ≡ p + 1 = omega arith in
    drop-cons lists p es h ∙ (ap (λ d. d ∷ drop (suc p) lists) (sym is) ∙ ap (λ n. es ∷ drop n lists) on)

pub list_passed : (program : Program) (plan : Plan) (lists : List (List Entry)) (p : ℕ) (es : List Entry) → p < length lists → es ≡ get_or lists p es → first_bad program plan p es ≡ None
    → first_in_lists program plan p (drop p lists) ≡ first_in_lists program plan 0 lists → first_in_lists program plan (p + 1) (drop (p + 1) lists) ≡ first_in_lists program plan 0 lists
list_passed program plan lists p es h is none so =
    ap (λ r. or_else r (first_in_lists program plan (p + 1) (drop (p + 1) lists))) (sym none)
    ∙ (ap (λ ls. first_in_lists program plan p ls) (sym (lists_at lists p es h is)) ∙ so)

pub tables_next : (plan : Plan) (lists : List (List Entry)) (p : ℕ) (es : List Entry) (tables now : List (List Row)) (rows : List Row) → p < length lists → es ≡ get_or lists p es → now ≡ tables ++ rows ∷ [] → rows ≡ rows_of plan es
    → tables ++ map (rows_of plan) (drop p lists) ≡ map (rows_of plan) lists → now ++ map (rows_of plan) (drop (p + 1) lists) ≡ map (rows_of plan) lists
tables_next plan lists p es tables now rows h is e rows_are so =
    let rest : List (List Row) = map (rows_of plan) (drop (p + 1) lists) in
    ap (λ r. r ++ rest) (e ∙ ap (λ x. tables ++ x ∷ []) rows_are) ∙ append_assoc tables (rows_of plan es ∷ []) rest
    ∙ ap (λ ls. tables ++ map (rows_of plan) ls) (sym (lists_at lists p es h is)) ∙ so
