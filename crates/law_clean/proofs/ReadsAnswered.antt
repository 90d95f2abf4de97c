-- In a run with races: each read in an edge that no race has is answered by the value in force.
use Rattle.ppd_model.specs.Setting.{setting_of}
use Rattle.std.proofs.Common.{◌≡◌, ℕ, ◌<◌, pos, List, [], ◌∷◌, ◌++◌, Option, Some, None, refl, ap, sym, subst, ◌∙◌, get_or, length, inl, inr, append_assoc, append-nil}
use Rattle.std.proofs.lemmas.Bool.{cases_eq, cases_lt}
use Rattle.std.specs.Prelude.{fold, slice_get}
use Rattle.ppd_ast.specs.declared.plan.Plan.{Plan}
use Rattle.ppd_ast.specs.declared.plan.Policy.{Policy}
use Rattle.ppd_ast.specs.declared.program.Program.{Program}
use Rattle.ppd_ast.specs.Valid.{IsValid}
use Rattle.ppd_ast.proofs.ValidLaws.{slice_get_there}
use Rattle.ppd_blocks.specs.Blocks.{plan_of}
use Rattle.ppd_sem.specs.declared.proc.Answer.TheVariants.{Value}
use Rattle.ppd_sem.specs.declared.proc.Need.{Need}
use Rattle.ppd_sem.specs.declared.proc.Need.TheVariants.{Read}
use Rattle.ppd_sem.specs.declared.proc.Proc.{Proc}
use Rattle.ppd_sem.specs.Laws.{NamesThere}
use Rattle.ppd_sem.proofs.Lawful.{named}
use Rattle.ppd_model.specs.Forward.{edge_in}
use Rattle.ppd_model.specs.Schedule.{run, started_world}
use Rattle.ppd_model.specs.Story.{Moment, Telling, moment_of, steps_of, story, told}
use Rattle.ppd_model.specs.World.{World, answer, need}
use Rattle.ppd_model.proofs.WorldWords.{need_at}
use Rattle.ppd_model.proofs.Stories.{steps_append}
use Rattle.law_steps.specs.Units.{IsCellOf, unit_in_force}
use Rattle.law_steps.proofs.Units.Reading.{reads_lie}
use Rattle.ppd_model.specs.Replay.{value_in_force}
use Rattle.law_steps.specs.InForce.Values.{AreRead, IsRead, begun_in_force, in_force, in_force_after}
use Rattle.law_steps.proofs.OpenBlocks.Told.{none_own, own_more, own_past, own_same, own_steps_are}
use Rattle.law_steps.proofs.InForce.Fresh.{AreFresh}
use Rattle.law_steps.proofs.InForce.Stands.{Stands, begun_stands, reads_fresh, step_stands}
use Rattle.law_clean.specs.Ordered.{IsUnracedIn, UnracedReadsAreInForce}
use Rattle.law_clean.proofs.Forward.{raced_at}

read_more : (plan : Plan) (zs : List _) (ms : List Moment) (m : Moment) → AreRead plan zs ms → IsRead (fold (in_force_after plan) zs ms) m m.taken.need → AreRead plan zs (ms ++ m ∷ [])
read_more plan zs [] m a i = (i, tt)
read_more plan zs (x ∷ ms) m a i = (a.0, read_more plan (in_force_after plan zs x) ms m a.1 i)

module _ (program : Program) (policy : Policy) (budget : ℕ) (v : IsValid program) where
  abbrev used : Plan
  used = plan_of program policy

  names_there : (o : Option Proc) → NamesThere program (need_at program used o)
  names_there None = tt
  names_there (Some s) = named program used s v

  -- a schedule that goes on with a step of process p
  module _ (h rest : List ℕ) (p : ℕ) (last : World) (runs : run (setting_of program used budget) (h ++ p ∷ rest) ≡ Some last) where
    abbrev at : Telling
    at = told (setting_of program used budget) h

    read_right : (c : ℕ) → IsUnracedIn (setting_of program used budget) (h ++ p ∷ rest) p (edge_in (setting_of program used budget) h p) → need program used at.world p ≡ Read c → p < length at.world.procs → AreFresh (setting_of program used budget) h p
        → get_or at.world.shared c (pos 0) ≡ value_in_force (in_force program used p (get_or at.moments p [])) c
    read_right c clear e lt f =
        let x : Moment = moment_of program used at p in
        let inside : c < length program.starts = subst (NamesThere program) e (names_there (slice_get at.world.procs p)) in
        let steps : get_or (story (setting_of program used budget) (h ++ p ∷ [])).steps p [] ≡ steps_of (get_or at.moments p []) ++ x.taken ∷ [] =
        own_steps_are (setting_of program used budget) (h ++ p ∷ []) p ∙ ap steps_of (own_more (setting_of program used budget) h p lt) ∙ steps_append (get_or at.moments p []) (x ∷ []) in
        let k : IsCellOf used (unit_in_force program used p (steps_of (get_or at.moments p []))) c =
        reads_lie program policy budget (h ++ p ∷ []) p (steps_of (get_or at.moments p [])) x.taken [] c v steps e in
        elim (f c inside k) [
          | inl is ↦ sym is
          | inr w ↦ absurd (raced_at (setting_of program used budget) w.before w.between rest w.writer p c last
              (subst (λ y. run (setting_of program used budget) (y ++ p ∷ rest) ≡ Some last) w.schedule_is runs)
              (subst (λ y. IsUnracedIn (setting_of program used budget) (y ++ p ∷ rest) p (edge_in (setting_of program used budget) y p)) w.schedule_is clear)
              inside w.other w.value w.writes
              (subst (λ y. need program used (told (setting_of program used budget) y).world p ≡ Read c) w.schedule_is e)
              (subst (λ y. edge_in (setting_of program used budget) w.before p ≡ edge_in (setting_of program used budget) y p) w.schedule_is w.same_edge))
        ]

    pub is_read : (x : Need) → need program used at.world p ≡ x → ((c : ℕ) → need program used at.world p ≡ Read c → IsUnracedIn (setting_of program used budget) (h ++ p ∷ rest) p (edge_in (setting_of program used budget) h p))
        → p < length at.world.procs → Stands (setting_of program used budget) h p → IsRead (in_force program used p (get_or at.moments p [])) (moment_of program used at p) x
    is_read (Read c) e clear lt stands =
        let s = slice_get_there at.world.procs p lt in
        ap (answer at.world) e ∙ ap Value (read_right c (clear c e) e lt (reads_fresh (setting_of program used budget) h p p c s.0 s.1 e (stands s.0 s.1)))
    is_read x e clear lt stands = tt

  abbrev Reads : List ℕ → ℕ → Type 0
  Reads h p = AreRead used (begun_in_force program used p) (get_or (told (setting_of program used budget) h).moments p [])

  -- ---- all steps of a beginning g; the whole schedule goes on after it

  module _ (whole : List ℕ) (last : World) (runs : run (setting_of program used budget) whole ≡ Some last) where
    -- the read that comes next is in an edge that no race has
    abbrev Clear : List ℕ → ℕ → Type 0
    Clear h p = (c : ℕ) → need program used (told (setting_of program used budget) h).world p ≡ Read c → IsUnracedIn (setting_of program used budget) whole p (edge_in (setting_of program used budget) h p)

    module _ (h rest : List ℕ) (r : ℕ) (are : whole ≡ h ++ r ∷ rest) where
      runs_here : run (setting_of program used budget) (h ++ r ∷ rest) ≡ Some last
      runs_here = subst (λ y. run (setting_of program used budget) y ≡ Some last) are runs

      own_reads : Clear h r → Stands (setting_of program used budget) h r → Reads h r → Reads (h ++ r ∷ []) r
      own_reads clear stands a = elim (cases_lt r (length (told (setting_of program used budget) h).world.procs)) [
        | inl lt ↦ subst (AreRead used (begun_in_force program used r)) (sym (own_more (setting_of program used budget) h r lt))
            (read_more used (begun_in_force program used r) (get_or (told (setting_of program used budget) h).moments r []) (moment_of program used (told (setting_of program used budget) h) r) a
            (is_read h rest r last runs_here (need program used (told (setting_of program used budget) h).world r) refl
            (λ c e. subst (λ y. IsUnracedIn (setting_of program used budget) y r (edge_in (setting_of program used budget) h r)) are (clear c e)) lt stands))
        | inr past ↦ subst (AreRead used (begun_in_force program used r)) (sym (own_past (setting_of program used budget) h r past)) a
      ]

      reads_next : (p : ℕ) → (r ≡ p → Clear h p) → Stands (setting_of program used budget) h p → Reads h p → Reads (h ++ r ∷ []) p
      reads_next p clear stands a = elim (cases_eq r p) [
        | inl is ↦ (let here : r ≡ p = is in subst (λ q. (r ≡ q → Clear h q) → Stands (setting_of program used budget) h q → Reads h q → Reads (h ++ r ∷ []) q) here (λ c. own_reads (c refl)) clear stands a)
        | inr isnt ↦ subst (AreRead used (begun_in_force program used p)) (sym (own_same (setting_of program used budget) h r p isnt)) a
      ]

    all_reads : (h g rest : List ℕ) (p : ℕ) → whole ≡ (h ++ g) ++ rest → ((b more : List ℕ) → h ++ g ≡ b ++ p ∷ more → Clear b p) → Stands (setting_of program used budget) h p → Reads h p → Reads (h ++ g) p
    all_reads h [] rest p are clear stands a = subst (λ y. Reads y p) (sym (append-nil h)) a
    all_reads h (r ∷ g) rest p are clear stands a =
        let one : (h ++ r ∷ []) ++ g ≡ h ++ r ∷ g = append_assoc h (r ∷ []) g in
        subst (λ y. Reads y p) one
        (all_reads (h ++ r ∷ []) g rest p (are ∙ ap (λ y. y ++ rest) (sym one)) (λ b more e. clear b more (sym one ∙ e))
        (step_stands (setting_of program used budget) h r p stands)
        (reads_next h (g ++ rest) r (are ∙ append_assoc h (r ∷ g) rest) p (λ e. clear h g (ap (λ k. h ++ k ∷ g) e)) stands a))

pub unraced_reads : UnracedReadsAreInForce
unraced_reads program policy budget g rest w p v runs clear =
    let plan : Plan = plan_of program policy in
    let nil : get_or (told (setting_of program plan budget) []).moments p [] ≡ [] = none_own (started_world (setting_of program plan budget)).procs p in
    all_reads program policy budget v (g ++ rest) w runs [] g rest p refl (λ b more e c is. clear b more c e is)
    (begun_stands (setting_of program plan budget) p) (subst (AreRead plan (begun_in_force program plan p)) (sym nil) tt)
