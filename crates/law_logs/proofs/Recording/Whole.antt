-- The logs of a whole run are lawful.
use Rattle.ppd_model.specs.Setting.{setting_of}
use Rattle.std.proofs.Common.{◌≡◌, ℕ, suc, ◌+◌, ◌-◌, ◌*◌, ◌<◌, ◌≤◌, ◌^◌, true, false, Bool, List, [], ◌∷◌, ◌++◌, refl, ap, sym, ◌∙◌, subst, length, map, arith, length-append, inl, inr, true≢false, if◌then◌else◌}
use Rattle.std.specs.Prelude.{is_none, nat_eq, nat_le}
use Rattle.std.specs.Int.{is_in_range}
use Rattle.std.specs.List.{flat_map, list_any}
use Rattle.std.proofs.lemmas.Bool.Decides.{nat_tests}
use Rattle.std.proofs.lemmas.List.{append-nil, length-map}
use Rattle.ppd_ast.specs.Valid.{IsValid}
use Rattle.ppd_ast.specs.ValidPlan.{IsValidPlan}
use Rattle.ppd_ast.specs.declared.limits.TheConstants.{MOST_BUDGET, MOST_POLICY, MOST_RECORDING_BYTES, MOST_SOURCE_BYTES, MOST_PROCESSES}
use Rattle.ppd_ast.specs.declared.plan.Plan.{Plan}
use Rattle.ppd_ast.specs.declared.program.Program.{Program}
use Rattle.ppd_ast.specs.declared.status.Status.TheVariants as status
use Rattle.ppd_model.specs.declared.entry.Entry.{Entry}
use Rattle.ppd_model.specs.declared.entry.Entry.TheVariants as entry
use Rattle.ppd_blocks.specs.Blocks.{plan_of}
use Rattle.ppd_blocks.proofs.Validity.{plan_valid}
use Rattle.ppd_check.proofs.AcceptedValid.{read_valid}
use Rattle.law_steps.proofs.Policies.{whole}
use Rattle.ppd_model.specs.declared.state.Logging.{Logging}
use Rattle.ppd_model.specs.Logs.{closed_log, loggings}
use Rattle.ppd_model.proofs.Prefixes.{objects_stay}
use Rattle.ppd_model.proofs.States.{one_state}
use Rattle.ppd_codec.specs.Format.{an_entry, front, log, logs}
use Rattle.ppd_codec.specs.Recordings.{facts_of, front_of}
use Rattle.law_logs.specs.Recording.Lawful.{RunLogsAreLawful}
use Rattle.law_logs.specs.Recording.Values.{HasConstantsOf64Bits}
use Rattle.law_logs.proofs.Recording.Constants.Coded.{constants_fit}
use Rattle.law_logs.proofs.Recording.Logs.Entries.{end_lawful}
use Rattle.law_logs.proofs.Recording.Fit.{All, all_append, all_map}
use Rattle.law_logs.proofs.Recording.Logs.Steps.{IsFine, Lawful, START, is_rendezvous}
use Rattle.law_logs.proofs.Recording.Logs.Run.{run_fine}
use Rattle.law_logs.proofs.Recording.Logs.Sizes.{entries_size, noted, sizes, sizes_append, some_bytes}

-- the bytes of a log, at most
abbrev MOST : ℕ
MOST = 13008216

within_of : (low high k : ℕ) → low ≤ k → k ≤ high → is_in_range low high k ≡ true
within_of low high k h g =
    let a : nat_le low k ≡ true = grind (arith, nat_tests) in
    let b : nat_le k high ≡ true = grind (arith, nat_tests) in
    rw (a, b) refl

equal : (a b : ℕ) → a ≡ b → nat_eq a b ≡ true
equal a b e = grind (arith, nat_tests)

version_within : (p : Program) → ((facts_of p).version < 2 ^ 8) × (is_in_range 1 2 (facts_of p).version ≡ true)
version_within p = by (list_any is_rendezvous p.chans)
  where
    by : (b : Bool) → ((if b then 2 else 1) < 2 ^ 8) × (is_in_range 1 2 (if b then 2 else 1) ≡ true)
    by true = (omega arith, refl)
    by false = (omega arith, refl)

all_short : {A : Type 0} (f : A → List ℕ) (k : ℕ) (xs : List A) → All (λ x. length (f x) ≤ k) xs → length (flat_map f xs) ≤ k * length xs
all_short f k [] h = omega arith
all_short f k (x ∷ xs) h =
    let all : length (f x ++ flat_map f xs) ≡ length (f x) + length (flat_map f xs) = length-append (f x) (flat_map f xs) in
    let here : length (f x) ≤ k = h.0 in
    let rest : length (flat_map f xs) ≤ k * length xs = all_short f k xs h.1 in
    let more : k * suc (length xs) ≡ k + k * length xs = omega arith in
    omega (arith, all, here, rest, more)

module _ (program : Program) (plan : Plan) (v : IsValid program) (w : IsValidPlan program plan) (k : HasConstantsOf64Bits program) (budget : ℕ) (most : budget ≤ MOST_BUDGET) where
  abbrev Fine : Logging → Type 0
  Fine l = IsFine program plan v w k.exprs budget l

  record IsRight (es : List Entry) : Type 0 where
    lawful : (log (facts_of program)).Lawful es
    short : length ((log (facts_of program)).bytes es) ≤ MOST

  right : (es : List Entry) → All (Lawful program plan v w k.exprs budget) es → sizes es ≤ START + 26 * budget + 10 → IsRight es
  right es all few =
      let some : length es ≤ sizes es = some_bytes es in
      let bytes : length (flat_map (an_entry (facts_of program)).bytes es) ≡ sizes es = entries_size program es in
      let c : length ((log (facts_of program)).bytes es) ≡ suc (suc (suc (suc (length (flat_map (an_entry (facts_of program)).bytes es))))) = refl in
      record { lawful = (omega (arith, some, few, most), all); short = omega (arith, c, bytes, few, most) }

  closed_right : (l : Logging) → Fine l → IsRight (closed_log l)
  closed_right l fine = by (is_none l.proc.status) refl
    where
      by : (b : Bool) → is_none l.proc.status ≡ b → IsRight (l.entries ++ (if b then entry.End status.Blocked l.rest l.reads l.writes ∷ [] else []))
      by true e =
          let last : List Entry = entry.End status.Blocked l.rest l.reads l.writes ∷ [] in
          let all : sizes (l.entries ++ last) ≡ sizes l.entries + sizes last = sizes_append l.entries last in
          let before : sizes l.entries + noted l ≤ START + 26 * l.proc.spent =
          elim fine.bytes [ inl b ↦ b.1 | inr b ↦ absurd (true≢false (sym e ∙ ap is_none b.1)) ] in
          right (l.entries ++ last)
          (all_append (Lawful program plan v w k.exprs budget) l.entries last fine.entries
          (end_lawful program plan v w k.exprs status.Blocked l (omega (arith, fine.rest, fine.steps, fine.spent, most)) fine.rows, tt))
          (omega (arith, all, before, fine.spent))
      by false e =
          let few : sizes l.entries ≤ START + 26 * l.proc.spent + 10 =
          elim fine.bytes [ inl b ↦ (let b' : sizes l.entries + noted l ≤ START + 26 * l.proc.spent = b.1 in omega (arith, b')) | inr b ↦ b.2 ] in
          subst IsRight (sym (append-nil l.entries)) (right l.entries fine.entries (omega (arith, few, fine.spent)))

  all_right : (ls : List Logging) → All Fine ls → All IsRight (map closed_log ls)
  all_right ls h = all_map Fine IsRight closed_log ls closed_right h

  all_lawful : (xs : List (List Entry)) → All IsRight xs → All (log (facts_of program)).Lawful xs
  all_lawful [] h = tt
  all_lawful (x ∷ xs) h = (h.0.lawful, all_lawful xs h.1)

  all_few : (xs : List (List Entry)) → All IsRight xs → All (λ es. length ((log (facts_of program)).bytes es) ≤ MOST) xs
  all_few [] h = tt
  all_few (x ∷ xs) h = (h.0.short, all_few xs h.1)

  count_of : (h : List ℕ) → length (map closed_log (loggings (setting_of program plan budget) h)) ≡ length program.bodies - program.functions
  count_of h =
      let s = one_state (setting_of program plan budget) h in
      length-map (loggings (setting_of program plan budget) h) closed_log ∙ sym (length-map (loggings (setting_of program plan budget) h) (λ (l : Logging). l.proc)) ∙ ap length (s.logged ∙ sym s.worlds)
      ∙ (objects_stay (setting_of program plan budget) h).processes

pub logs_lawful : RunLogsAreLawful
logs_lawful source program header h r range run =
    let v : IsValid program = read_valid source program r in
    let plan : Plan = plan_of program header.policy in
    let w : IsValidPlan program plan = plan_valid program header.policy v range.policy in
    let k : HasConstantsOf64Bits program = constants_fit source program r in
    let all : All (IsRight program plan v w k header.budget range.most) (map closed_log (loggings (setting_of program plan header.budget) h)) =
    all_right program plan v w k header.budget range.most (loggings (setting_of program plan header.budget) h)
    (run_fine program plan v w (whole program header.policy w) k header.budget range.most h run.last run.runs) in
    let lists : List (List Entry) = map closed_log (loggings (setting_of program plan header.budget) h) in
    let count : length lists ≡ length program.bodies - program.functions = count_of program plan v w k header.budget range.most h in
    let few : length program.bodies ≤ program.functions + MOST_PROCESSES = v.limits.processes in
    let long : length source ≤ 2 ^ 18 = r.parsed.lexed.short in
    let many : length (flat_map (log (facts_of program)).bytes lists) ≤ MOST * length lists = all_short (log (facts_of program)).bytes MOST lists (all_few program plan v w k header.budget range.most lists all) in
    let begins : length (front.bytes (front_of (facts_of program).version header source)) ≡ suc (suc (suc (suc (suc (suc (suc (suc (suc (suc (suc (suc (suc (suc (suc (suc (suc (length source))))))))))))))))) = refl in
    let goes : length ((logs (facts_of program)).bytes lists) ≡ suc (length (flat_map (log (facts_of program)).bytes lists)) = refl in
    let total = length-append (front.bytes (front_of (facts_of program).version header source)) ((logs (facts_of program)).bytes lists) in
    let fits : length (front.bytes (front_of (facts_of program).version header source) ++ (logs (facts_of program)).bytes lists) ≤ MOST_RECORDING_BYTES = omega (arith, total, begins, goes, many, count, few, long) in (
      program,
      record {
        accepted = r;
        fields = (
          (
            (
              (omega arith, refl),
              (
                version_within program,
                (
                  (omega (arith, range.most), within_of 1 MOST_BUDGET header.budget range.least range.most),
                  (
                    (omega (arith, range.policy.leaf), within_of 0 MOST_POLICY header.policy.leaf (omega arith) range.policy.leaf),
                    (
                      (omega (arith, range.policy.loops), within_of 0 MOST_POLICY header.policy.loops (omega arith) range.policy.loops),
                      (omega (arith, long), within_of 0 MOST_SOURCE_BYTES (length source) (omega arith) (omega (arith, long))),
                    ),
                  ),
                ),
              ),
            ),
            equal (facts_of program).version (facts_of program).version refl,
          ),
          ((omega (arith, count, few), equal (length lists) (length program.bodies - program.functions) count), all_lawful program plan v w k header.budget range.most lists all),
        );
        short = fits;
      },
    )
