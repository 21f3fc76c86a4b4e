use Rattle.std.proofs.Common.{◌+◌, drop, sym, ap, ◌∙◌, subst, arith}
use Rattle.sk_value.proofs.Texts.{Underway, on_err, begun, further, refused, stopped}
use Rattle.sk_deriv.specs.Forest.{tree_at}
use Rattle.sk_deriv.specs.Lines.{derivation_lines}
use Rattle.sk_deriv.proofs.Printing.{lines_of, root_lines, pick_next, sub_next}
use Rattle.sk_deriv.proofs.forest.Forest.+put_below.Goals as goal
use Rattle.sk_deriv.proofs.forest.Forest.+put_below.Goals.{in-Pick+in_ok-pick_line-in-Pick+in_ok-put_bytes-in-Pick, in-Sub+in_ok-put_below-in-Sub}

pub returns-in_err-put_bytes-clause-err : goal.returns-in_err-put_bytes-clause-err
returns-in_err-put_bytes-clause-err t c = on_err c.from_residual-in_err-put_bytes.result
    (refused c.args.out.now.items c.args.out.now.items c.put_bytes.new.out.items _ _ (begun c.args.out.now.items (derivation_lines c.args.def.now c.args.names.now c.args.depth (tree_at c.args.self.now c.args.node)))
    c.in_err-put_bytes.ensures.err)

pub loop-step-init : goal.loop-step-init
loop-step-init t c =
    further c.args.out.now.items c.args.out.now.items c.put_bytes.new.out.items _ _ c.as_slice.result.now _
    (begun c.args.out.now.items (derivation_lines c.args.def.now c.args.names.now c.args.depth (tree_at c.args.self.now c.args.node)))
    (root_lines c.args.def.now c.args.names.now c.args.depth c.args.self.now c.args.node c.get-root.result.now c.as_slice-step-items.result.now c.as_slice.result.now
    c.get-root.ensures.forest c.get-root.ensures.node c.as_slice-step-items.ensures (c.as_slice.ensures.value ∙ c.in_ok-call_line.ensures))
    c.in_ok-put_bytes.ensures.ok

pub returns-in_err-put_below-in-Sub-clause-err : goal.returns-in_err-put_below-in-Sub-clause-err
returns-in_err-put_below-in-Sub-clause-err t c = on_err c.from_residual-in_err-put_below-in-Sub.result
    (stopped c.args.out.now.items c.loop-step.out.items c.put_below.new.out.items _ _ _ _ c.loop-step.invariant
    (sub_next c.args.def.now c.args.names.now (c.args.depth + 1) c.args.self.now c.as_slice-step-items.result.now c.loop-step.step-index _ (omega arith) c.in-Sub.child c.in-Sub.is)
    c.in_err-put_below-in-Sub.ensures.err)

pub loop-step-preserved : goal.loop-step-preserved
loop-step-preserved t c =
    let nodes = c.args.self.now in
    let steps = c.as_slice-step-items.result.now in
    let at = c.loop-step.step-index in
    let whole = derivation_lines c.args.def.now c.args.names.now c.args.depth (tree_at nodes c.args.node) in
    let others = lines_of c.args.def.now c.args.names.now (c.args.depth + 1) nodes (drop (at + 1) steps) in
    elim c.match-step.branch [
      | in-Pick+in_ok-pick_line-in-Pick+in_ok-put_bytes-in-Pick w ↦
          subst (λ o. Underway c.args.out.now.items o others whole) (ap (λ v. v.items) (sym w.out-is))
          (further c.args.out.now.items c.loop-step.out.items w.put_bytes-in-Pick.new.out.items _ whole w.as_slice-in-Pick.result.now others c.loop-step.invariant
          (pick_next c.args.def.now c.args.names.now (c.args.depth + 1) nodes steps at _ (omega arith) w.in-Pick.k w.as_slice-in-Pick.result.now w.in-Pick.is
          (w.as_slice-in-Pick.ensures.value ∙ w.in_ok-pick_line-in-Pick.ensures))
          w.in_ok-put_bytes-in-Pick.ensures.ok)
      | in-Sub+in_ok-put_below-in-Sub w ↦
          subst (λ o. Underway c.args.out.now.items o others whole) (ap (λ v. v.items) (sym w.out-is))
          (further c.args.out.now.items c.loop-step.out.items w.put_below.new.out.items _ whole _ others c.loop-step.invariant
          (sub_next c.args.def.now c.args.names.now (c.args.depth + 1) nodes steps at _ (omega arith) w.in-Sub.child w.in-Sub.is)
          w.in_ok-put_below-in-Sub.ensures.ok)
    ]
