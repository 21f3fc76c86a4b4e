use Rattle.std.proofs.Common.{◌≡◌, ◌∙◌, ap, sym, refl, map, List, Some}
use Rattle.sk_base.specs.declared.flow.FlowSort.{FlowSort}
use Rattle.sk_def.specs.declared.sorts.VarSort.{VarSort}
use Rattle.sk_def.specs.Sorts.{Sorts, define, after_hook}
use Rattle.sk_concrete.specs.Fitting.{worlds_fit}
use Rattle.sk_concrete.proofs.Bounds.{few_arguments}
use Rattle.sk_concrete.proofs.WorldsFit.{calls_there, answers_taken_fit, outputs_are}
use Rattle.sk_concrete.proofs.concrete.ConcreteInterp.hook.Goals as goal

pub answered-requires : goal.answered-requires
answered-requires c = record {
  few = rw c.as_slice.ensures (few_arguments c.def.ensures.sorted (c.requires.passes refl));
  there = rw (c.as_slice.ensures, c.as_slice-3.ensures)
      (calls_there c.args.self.now.checked.now c.args.self.now.own c.args.self.now.point c.args.hook c.args.target c.args.args.now c.args.outs.now c.args.world.sorts c.args.world.list
      (c.requires.passes refl) c.args.world.fit);
}

pub invariant_of-self : goal.invariant_of-self
invariant_of-self c = record {
  fit =
      (answers_taken_fit c.args.self.now.checked.now c.args.world.sorts c.args.self.now.point c.args.hook c.args.target c.args.args.now c.args.outs.now c.args.world.list c.in-Ok.answer.0
      c.args.self.now.handed.now c.in-Ok.answer.1.now c.args.world.fit c.args.self.now.fit (rw (c.as_slice.ensures, c.as_slice-2.ensures, c.as_slice-3.ensures) at c.in-Ok.ensures.ok)).1;
}

pub invariant_of-result : goal.invariant_of-result
invariant_of-result c =
    let outputs = outputs_are c.args.self.now.checked.now c.args.hook c.get-called.result.now (rw (c.def.ensures.is, c.from.ensures) at c.get-called.ensures) in
    let sorts : c.define_flows.new.world ≡ after_hook c.args.self.now.checked.now c.args.world.sorts c.args.hook c.args.outs.now =
    (rw (c.as_slice-4.ensures, c.as_slice-5.ensures) at c.define_flows.ensures)
    ∙ ap (λ (flows : List FlowSort). define c.args.world.sorts c.args.outs.now (map (λ (s : FlowSort). Some (VarSort.Flow s)) flows)) (sym outputs) in
    record {
      fit = ap (λ (g : Sorts). worlds_fit g c.in-Ok.answer.0) sorts
          ∙ (answers_taken_fit c.args.self.now.checked.now c.args.world.sorts c.args.self.now.point c.args.hook c.args.target c.args.args.now c.args.outs.now c.args.world.list c.in-Ok.answer.0
          c.args.self.now.handed.now c.in-Ok.answer.1.now c.args.world.fit c.args.self.now.fit (rw (c.as_slice.ensures, c.as_slice-2.ensures, c.as_slice-3.ensures) at c.in-Ok.ensures.ok)).0;
    }
