use Rattle.std.proofs.Common.{◌≡◌, ◌-◌, length, sym, ◌∙◌, ap, subst}
use Rattle.ppd_ast.specs.Valid.{IsValid}
use Rattle.ppd_world.specs.Running.{Running}
use Rattle.ppd_world.proofs.Processes.{reached_count}
use Rattle.ppd_world.proofs.world.World.process_count.Goals as goal

pub process_count-requires : goal.process_count-requires
process_count-requires c = subst (λ (r : Running). IsValid r.setting.program) (sym c.self.view_is) c.requires.program

pub returns : goal.returns
returns c =
    let count : c.process_count.result ≡ length c.args.self.now.setting.program.bodies - c.args.self.now.setting.program.functions =
    c.process_count.ensures.is ∙ ap (λ (r : Running). length r.setting.program.bodies - r.setting.program.functions) c.self.view_is in
    record { procs = count ∙ sym (reached_count c.args.self.now c.requires); program = count }
