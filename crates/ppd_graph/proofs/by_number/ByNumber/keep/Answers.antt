use Rattle.std.proofs.Common.{refl}
use Rattle.ppd_ast.specs.declared.status.SyncKind.TheVariants.{P, V, Send, Recv, Done}
use Rattle.ppd_graph.proofs.Kept.{more_of, on_ok}
use Rattle.ppd_graph.proofs.by_number.ByNumber.keep.Goals as goal

pub returns-in-P : goal.returns-in-P
returns-in-P c =
    on_ok c.put.result _ _ (λ h. more_of P c.args.self.now (record c.args.self.now { takes = c.put.new.nodes }) c.args.one.now c.in-P.is h (λ o n. refl) (λ o n. refl) (λ o n. refl) (λ o n. refl)) c.put.ensures

pub returns-in-V : goal.returns-in-V
returns-in-V c =
    on_ok c.put-in-V.result _ _ (λ h. more_of V c.args.self.now (record c.args.self.now { gives = c.put-in-V.new.nodes }) c.args.one.now c.in-V.is (λ o n. refl) h (λ o n. refl) (λ o n. refl) (λ o n. refl)) c.put-in-V.ensures

pub returns-in-Send : goal.returns-in-Send
returns-in-Send c =
    on_ok c.put-in-Send.result _ _ (λ h. more_of Send c.args.self.now (record c.args.self.now { sends = c.put-in-Send.new.nodes }) c.args.one.now c.in-Send.is (λ o n. refl) (λ o n. refl) h (λ o n. refl) (λ o n. refl)) c.put-in-Send.ensures

pub returns-in-Recv : goal.returns-in-Recv
returns-in-Recv c =
    on_ok c.put-in-Recv.result _ _ (λ h. more_of Recv c.args.self.now (record c.args.self.now { receives = c.put-in-Recv.new.nodes }) c.args.one.now c.in-Recv.is (λ o n. refl) (λ o n. refl) (λ o n. refl) h (λ o n. refl)) c.put-in-Recv.ensures

pub returns-in-Done : goal.returns-in-Done
returns-in-Done c =
    on_ok c.put-in-Done.result _ _ (λ h. more_of Done c.args.self.now (record c.args.self.now { completions = c.put-in-Done.new.nodes }) c.args.one.now c.in-Done.is (λ o n. refl) (λ o n. refl) (λ o n. refl) (λ o n. refl) h) c.put-in-Done.ensures
