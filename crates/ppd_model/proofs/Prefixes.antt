-- What is told of the first steps of a schedule, and what holds after each of them.
use Rattle.ppd_model.specs.Setting.{Setting}
use Rattle.std.proofs.Common.{◌≡◌, ℕ, zero, suc, ◌+◌, ◌<◌, List, [], ◌∷◌, ◌++◌, Some, None, true, refl, sym, ◌∙◌, arith, length, map, get_or, take, length-set}
use Rattle.std.specs.Prelude.{◌-◌, fold, slice_get}
use Rattle.std.proofs.lemmas.List.{length-map}
use Rattle.ppd_ast.specs.declared.program.Chan.{Chan}
use Rattle.ppd_sem.specs.declared.proc.Need.{Need}
use Rattle.ppd_sem.specs.declared.proc.Need.TheVariants as n
use Rattle.ppd_sem.specs.Process.{act}
use Rattle.ppd_sem.proofs.TableWords.{capacity_in}
use Rattle.ppd_model.specs.declared.state.Channel.{Channel}
use Rattle.ppd_model.specs.Laws.{begins}
use Rattle.ppd_model.specs.Prefixes.{Good, ObjectsStay, SchedulesGoByPrefixes, Sizes, channel_capacity, told_to}
use Rattle.ppd_model.specs.Schedule.{run_from}
use Rattle.ppd_model.specs.Story.{Telling, next_event, tell, writers_after}
use Rattle.ppd_model.specs.World.{World, answer, change, effect, enabled, need}
use Rattle.ppd_model.proofs.Bounded.{goes, started_count}
use Rattle.ppd_model.proofs.Changes.{length-change}
use Rattle.ppd_model.proofs.States.{states-begun, states-tell}

-- ---- one step more

capacity_stays : (f : Channel → Channel) (o c : ℕ) (xs : List Channel) → ((x : Channel) → (f x).capacity ≡ x.capacity) → channel_capacity (slice_get (change f o xs) c) ≡ channel_capacity (slice_get xs c)
capacity_stays f o c [] same = refl
capacity_stays f zero zero (x ∷ xs) same = same x
capacity_stays f zero (suc c) (x ∷ xs) same = refl
capacity_stays f (suc o) zero (x ∷ xs) same = refl
capacity_stays f (suc o) (suc c) (x ∷ xs) same = capacity_stays f o c xs same

pub cells_length : (w : World) (need : Need) → length (effect w need).shared ≡ length w.shared
cells_length w (n.Write c v) = length-set w.shared c v
cells_length w need = refl

writers_length : (t : Telling) (p : ℕ) (need : Need) → length (writers_after t p need) ≡ length t.writers
writers_length t p (n.Write c v) = length-set t.writers c (Some (next_event t p))
writers_length t p need = refl

sems_length : (w : World) (need : Need) → length (effect w need).sems ≡ length w.sems
sems_length w (n.P s u) = length-change _ s w.sems
sems_length w (n.V s u) = length-change _ s w.sems
sems_length w need = refl

chans_length : (w : World) (need : Need) → length (effect w need).chans ≡ length w.chans
chans_length w (n.Send c v u) = length-change _ c w.chans
chans_length w (n.Offer c v) = length-change _ c w.chans
chans_length w (n.Done c u) = length-change _ c w.chans
chans_length w (n.Recv c u) = length-change _ c w.chans
chans_length w need = refl

capacities_stay : (w : World) (need : Need) (c : ℕ) → channel_capacity (slice_get (effect w need).chans c) ≡ channel_capacity (slice_get w.chans c)
capacities_stay w (n.Send o v u) c = capacity_stays (λ (x : Channel). record x { sent = x.sent ++ v ∷ [] }) o c w.chans (λ x. refl)
capacities_stay w (n.Offer o v) c = capacity_stays (λ (x : Channel). record x { sent = x.sent ++ v ∷ [] }) o c w.chans (λ x. refl)
capacities_stay w (n.Done o u) c = capacity_stays (λ (x : Channel). record x { completed = x.completed + 1 }) o c w.chans (λ x. refl)
capacities_stay w (n.Recv o u) c = capacity_stays (λ (x : Channel). record x { received = x.received + 1 }) o c w.chans (λ x. refl)
capacities_stay w need c = refl

-- ---- the start

starts_sizes : (setting : Setting) → Sizes setting.program (begins setting)
starts_sizes setting = record {
  cells = refl;
  writers = length-map setting.program.starts (λ _. None);
  sems = length-map setting.program.sems _;
  chans = length-map setting.program.chans _;
  capacities = from_start setting.program.chans;
  processes = started_count setting 0 (length setting.program.bodies - setting.program.functions);
}
  where
    from_start : (cs : List Chan) (c : ℕ) → channel_capacity (slice_get (map (λ (x : Chan). record { capacity = x.capacity; sent = []; received = 0; completed = 0 }) cs) c) ≡ capacity_in (slice_get cs c)
    from_start [] c = refl
    from_start (x ∷ xs) zero = refl
    from_start (x ∷ xs) (suc c) = from_start xs c

module _ (setting : Setting) where
  pub good_start : Good setting (begins setting)
  good_start = record {
    sizes = starts_sizes setting;
    procs = sym (states-begun setting 0 (length setting.program.bodies - setting.program.functions));
  }

  pub good_next : (t : Telling) (p : ℕ) → Good setting t → Good setting (tell setting.program setting.plan t p)
  good_next t p g =
      let need' : Need = need setting.program setting.plan t.world p in
      record {
        sizes = record {
          cells = cells_length t.world need' ∙ g.sizes.cells;
          writers = writers_length t p need' ∙ g.sizes.writers;
          sems = sems_length t.world need' ∙ g.sizes.sems;
          chans = chans_length t.world need' ∙ g.sizes.chans;
          capacities = λ c. capacities_stay t.world need' c ∙ g.sizes.capacities c;
          processes = length-change (λ s. act setting.program setting.plan s (answer t.world need')) p t.world.procs ∙ g.sizes.processes;
        };
        procs = states-tell setting t p g.procs;
      }

  good_all : (t : Telling) (h : List ℕ) → Good setting t → Good setting (fold (tell setting.program setting.plan) t h)
  good_all t [] g = g
  good_all t (p ∷ h) g = good_all (tell setting.program setting.plan t p) h (good_next t p g)

  pub good_after : (t : Telling) (h : List ℕ) (i : ℕ) → Good setting t → Good setting (fold (tell setting.program setting.plan) t (take i h))
  good_after t h i g = good_all t (take i h) g

  pub good_to : (h : List ℕ) (i : ℕ) → Good setting (told_to setting h i)
  good_to h i = good_after (begins setting) h i good_start

  pub good_told : (h : List ℕ) → Good setting (fold (tell setting.program setting.plan) (begins setting) h)
  good_told h = good_all (begins setting) h good_start

  -- ---- a schedule

  pub goes_at : (t : Telling) (h : List ℕ) (i : ℕ) → i < length h → fold (tell setting.program setting.plan) t (take (suc i) h) ≡ tell setting.program setting.plan (fold (tell setting.program setting.plan) t (take i h)) (get_or h i 0)
  goes_at t [] i lt = absurd (omega (arith, lt))
  goes_at t (p ∷ h) zero lt = refl
  goes_at t (p ∷ h) (suc i) lt = goes_at (tell setting.program setting.plan t p) h i (omega (arith, lt))

  pub enabled_at : (t : Telling) (h : List ℕ) (i : ℕ) (last : World) → run_from setting.program setting.plan t.world h ≡ Some last → i < length h → enabled setting.program setting.plan (fold (tell setting.program setting.plan) t (take i h)).world (get_or h i 0) ≡ true
  enabled_at t [] i last e lt = absurd (omega (arith, lt))
  enabled_at t (p ∷ h) zero last e lt = (goes setting.program setting.plan t.world last p h e).enables
  enabled_at t (p ∷ h) (suc i) last e lt = enabled_at (tell setting.program setting.plan t p) h i last (goes setting.program setting.plan t.world last p h e).rest (omega (arith, lt))

pub objects_stay : ObjectsStay
objects_stay setting h = (good_told setting h).sizes

pub go_by_prefixes : SchedulesGoByPrefixes
go_by_prefixes setting h w runs i lt = record {
  enables = enabled_at setting (begins setting) h i w runs lt;
  tells = goes_at setting (begins setting) h i lt;
}
