-- All values of a run have 64 bits.
use Rattle.ppd_model.specs.Setting.{Setting}
use Rattle.std.proofs.Common.{◌≡◌, ℕ, ◌-◌, List, [], ◌∷◌, Option, Some, None, refl, map, length, w64, FitsSigned}
use Rattle.std.specs.Prelude.{fold, slice_get, ⊤}
use Rattle.std.specs.List.{range_with_len}
use Rattle.ppd_ast.specs.declared.plan.Plan.{Plan}
use Rattle.ppd_ast.specs.declared.program.Chan.{Chan}
use Rattle.ppd_ast.specs.declared.program.Program.{Program}
use Rattle.ppd_sem.specs.declared.proc.Need.{Need}
use Rattle.ppd_sem.specs.declared.proc.Need.TheVariants as n
use Rattle.ppd_sem.specs.declared.proc.Proc.{Proc}
use Rattle.ppd_sem.specs.Process.{act, started, value_of}
use Rattle.ppd_ast.specs.declared.program.Kind.{Kind}
use Rattle.ppd_ast.specs.declared.program.Kind.TheVariants as kind
use Rattle.ppd_ast.specs.Lookups.{kind_of}
use Rattle.ppd_sem.proofs.Arithmetic.{fits-true}
use Rattle.ppd_model.specs.Schedule.{started_world}
use Rattle.ppd_model.specs.Story.{Telling, begun, tell, told}
use Rattle.ppd_model.specs.declared.state.Channel.{Channel}
use Rattle.ppd_model.specs.World.{World, answer, effect, need, step}
use Rattle.ppd_model.proofs.WorldWords.{need_at, next_value}
use Rattle.law_logs.specs.Recording.Values.{HasConstantsOf64Bits, HasLocalsOf64Bits, IsConstantOf64Bits, ValuesHave64Bits}
use Rattle.law_logs.proofs.Recording.Values.Asked.{CallIs}
use Rattle.law_logs.proofs.Recording.Values.Asking.{get_fits}
use Rattle.law_logs.proofs.Recording.Values.Kept.{FrameFits, LocalsFit, NeedFits, act_kept, need_fits, set_fits, started_fits}
use Rattle.law_logs.proofs.Recording.Fit.{All, Fit, all_append, all_at, all_change, all_more}
use Rattle.law_logs.proofs.Recording.Logs.Entries.{signed}

pub record WorldFits (w : World) : Type 0 where
  pub shared : All Fit w.shared
  pub sent : All (λ (c : Channel). All Fit c.sent) w.chans
  pub procs : All LocalsFit w.procs

abbrev pub Every : ℕ → Type 0
Every k = ⊤

any_call : (k : Kind) → CallIs Every k
any_call (kind.Call f arguments into) = tt
any_call k = tt

module _ (program : Program) (plan : Plan) (table : All IsConstantOf64Bits program.exprs) where
  pub calls : (t : ℕ) → CallIs Every (kind_of program t)
  calls t = any_call (kind_of program t)

  pub need_at_fits : (o : Option Proc) → ((s : Proc) → o ≡ Some s → LocalsFit s) → NeedFits Every program plan table calls tt (need_at program plan o)
  need_at_fits None h = tt
  need_at_fits (Some s) h = need_fits Every program plan table calls tt s (h s refl)

  next_fits : (o : Option Channel) → ((c : Channel) → o ≡ Some c → All Fit c.sent) → Fit (next_value o)
  next_fits None h = refl
  next_fits (Some c) h = get_fits c.sent c.received (h c refl)

  pub answer_fits : (w : World) (need : Need) → WorldFits w → Fit (value_of (answer w need))
  answer_fits w (n.Read c) h = get_fits w.shared c h.shared
  answer_fits w (n.Recv c u) h = next_fits (slice_get w.chans c) (λ x e. all_at (λ (y : Channel). All Fit y.sent) w.chans c x h.sent e)
  answer_fits w need h = refl

  effect_fits : (w : World) (need : Need) → NeedFits Every program plan table calls tt need → WorldFits w → WorldFits (effect w need)
  effect_fits w (n.Write c v) k h = record { shared = set_fits w.shared c v k h.shared; sent = h.sent; procs = h.procs }
  effect_fits w (n.P o u) k h = record { shared = h.shared; sent = h.sent; procs = h.procs }
  effect_fits w (n.V o u) k h = record { shared = h.shared; sent = h.sent; procs = h.procs }
  effect_fits w (n.Send c v u) k h =
      record { shared = h.shared; sent = all_change (λ (y : Channel). All Fit y.sent) _ c w.chans (λ x e f. all_append Fit x.sent (v ∷ []) f (k, tt)) h.sent; procs = h.procs }
  effect_fits w (n.Offer c v) k h =
      record { shared = h.shared; sent = all_change (λ (y : Channel). All Fit y.sent) _ c w.chans (λ x e f. all_append Fit x.sent (v ∷ []) f (k, tt)) h.sent; procs = h.procs }
  effect_fits w (n.Done c u) k h = record { shared = h.shared; sent = all_change (λ (y : Channel). All Fit y.sent) _ c w.chans (λ x e f. f) h.sent; procs = h.procs }
  effect_fits w (n.Recv c u) k h = record { shared = h.shared; sent = all_change (λ (y : Channel). All Fit y.sent) _ c w.chans (λ x e f. f) h.sent; procs = h.procs }
  effect_fits w need k h = h

  step_fits : (w : World) (p : ℕ) → WorldFits w → WorldFits (step program plan w p)
  step_fits w p h =
      let m : Need = need program plan w p in
      let fit : NeedFits Every program plan table calls tt m = need_at_fits (slice_get w.procs p) (λ s e. all_at LocalsFit w.procs p s h.procs e) in
      let after : WorldFits (effect w m) = effect_fits w m fit h in
      record {
        shared = after.shared;
        sent = after.sent;
        procs = all_change LocalsFit (λ s. act program plan s (answer w m)) p w.procs (λ s e f. act_kept Every program plan table calls tt s (answer w m) (answer_fits w m h) f) h.procs;
      }

  fold_fits : (t : Telling) (h : List ℕ) → WorldFits t.world → WorldFits (fold (tell program plan) t h).world
  fold_fits t [] f = f
  fold_fits t (p ∷ h) f = fold_fits (tell program plan t p) h (step_fits t.world p f)

  procs_fit : (budget : ℕ) (ps : List ℕ) → All LocalsFit (map (λ p. started program plan p budget) ps)
  procs_fit budget [] = tt
  procs_fit budget (p ∷ ps) = (started_fits Every program plan table calls tt p budget, procs_fit budget ps)

  chans_fit : (cs : List Chan) → All (λ (c : Channel). All Fit c.sent) (map (λ c. record { capacity = c.capacity; sent = []; received = 0; completed = 0 }) cs)
  chans_fit [] = tt
  chans_fit (c ∷ cs) = (tt, chans_fit cs)

pub world_fits : (setting : Setting) (h : List ℕ) → HasConstantsOf64Bits setting.program → WorldFits (told setting h).world
world_fits setting h k =
    fold_fits setting.program setting.plan k.exprs (begun (started_world setting)) h (record {
      shared = all_more (FitsSigned w64) Fit setting.program.starts fits-true k.starts;
      sent = chans_fit setting.program setting.plan k.exprs setting.program.chans;
      procs = procs_fit setting.program setting.plan k.exprs setting.budget (range_with_len 0 (length setting.program.bodies - setting.program.functions));
    })

pub values_have : ValuesHave64Bits
values_have setting h k =
    let f : WorldFits (told setting h).world = world_fits setting h k in
    let w : World = (told setting h).world in
    record {
      shared = signed w.shared f.shared;
      sent = all_more (λ (c : Channel). All Fit c.sent) _ w.chans (λ c. signed c.sent) f.sent;
      procs = all_more LocalsFit HasLocalsOf64Bits w.procs
          (λ s l. record { frames = all_more FrameFits _ s.frames (λ x. signed x.cells) l.frames; answers = signed s.answers l.answers }) f.procs;
    }
