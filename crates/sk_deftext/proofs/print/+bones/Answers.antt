use Rattle.std.proofs.Common.{◌∙◌, ◌≡◌, ◌≤◌, ◌+◌, ◌++◌, ℕ, suc, List, ◌∷◌, drop, length, ap, sym, arith, false, if◌then◌else◌, [], take}
use Rattle.std.specs.Prelude.{codes}
use Rattle.std.specs.Prelude.{sum}
use Rattle.std.proofs.Math.ListN.{drop_of_length-le}
use Rattle.std.proofs.lemmas.List.{take_min, drop_min, length-drop, append-nil}
use Rattle.sk_def.specs.declared.bone.Bone.{Bone}
use Rattle.std.specs.List.{join_by}
use Rattle.sk_def.specs.Layout.{after_branches}
use Rattle.sk_deftext.specs.Canonical.{hook_word, filter_line, call_line, or_line, branches, bones_text}
use Rattle.sk_deftext.proofs.Lines.{filter_turn, call_turn, either_turn, more_branches, no_more, branch_turn, left_turn}
use Rattle.sk_deftext.proofs.print.+bones.Goals as goal

pub put_bones-returns-in_ok-put_filter-in-Apply : goal.put_bones-returns-in_ok-put_filter-in-Apply
put_bones-returns-in_ok-put_filter-in-Apply t c =
    let e = c.in-Some.ensures.cases.0 ∙ ap (λ (b : Bone). b ∷ c.in-Some.rest.now) c.in-Apply.is in
    filter_turn c.args.hooks.now c.args.vars.now c.put_bones.result c.args.level c.args.out.now.items c.put_filter.new.out.items c.put_bones.new.out.items c.args.bones.now c.in-Some.rest.now
    c.in-Apply.filter c.in-Apply.args c.in-Apply.outs e
    (c.in_ok-put_filter-in-Apply.ensures ∙ ap (λ xs. xs ++ filter_line c.args.vars.now c.in-Apply.filter c.in-Apply.args c.in-Apply.outs) c.in_ok-put_indent.ensures)
    c.put_bones.ensures

pub put_bones-returns-in_ok-put_call-in-Call : goal.put_bones-returns-in_ok-put_call-in-Call
put_bones-returns-in_ok-put_call-in-Call t c =
    let e = c.in-Some.ensures.cases.0 ∙ ap (λ (b : Bone). b ∷ c.in-Some.rest.now) c.in-Call.is in
    call_turn c.args.hooks.now c.args.vars.now c.put_bones-in-Call.result c.args.level c.args.out.now.items c.put_call.new.out.items c.put_bones-in-Call.new.out.items c.args.bones.now c.in-Some.rest.now
    c.in-Call.hook c.in-Call.args c.in-Call.target c.in-Call.outs e
    (c.in_ok-put_call-in-Call.ensures
    ∙ ap (λ (hook : List ℕ). c.put_indent.new.out.items ++ call_line c.args.vars.now hook c.in-Call.args c.in-Call.target c.in-Call.outs) c.hook_word.ensures
    ∙ ap (λ xs. xs ++ call_line c.args.vars.now (hook_word c.args.hooks.now c.in-Call.hook) c.in-Call.args c.in-Call.target c.in-Call.outs) c.in_ok-put_indent.ensures)
    c.put_bones-in-Call.ensures

pub put_bones-returns-in_ok-put_exports-in-Either : goal.put_bones-returns-in_ok-put_exports-in-Either
put_bones-returns-in_ok-put_exports-in-Either t c =
    let e = c.in-Some.ensures.cases.0 ∙ ap (λ (b : Bone). b ∷ c.in-Some.rest.now) c.in-Either.is in
    either_turn c.args.hooks.now c.args.vars.now c.put_bones-in-Either.result c.args.level c.args.out.now.items c.put_exports.new.out.items c.put_bones-in-Either.new.out.items c.args.bones.now c.in-Some.rest.now
    c.in-Either.counts c.in-Either.exports c.in_ok-later-in-Either.later.now c.put_branches.new.out.items e
    (c.in_ok-later-in-Either.ensures.later ∙ ap (λ (counts : List ℕ). after_branches counts c.in-Some.rest.now) c.as_slice.ensures)
    (λ size few. c.in_ok-later-in-Either.ensures.text size few
    ∙ ap (λ (counts : List ℕ). c.extend_from_slice.new.self.items ++ join_by (bones_text c.args.hooks.now c.args.vars.now size (suc c.args.level)) (or_line c.args.level) (branches counts c.in-Some.rest.now)) c.as_slice.ensures
    ∙ ap (λ xs. xs ++ join_by (bones_text c.args.hooks.now c.args.vars.now size (suc c.args.level)) (or_line c.args.level) (branches c.in-Either.counts c.in-Some.rest.now))
    (c.in_ok-extend_from_slice-in-Either.ensures.items ∙ ap (λ xs. xs ++ codes "either {\n") c.in_ok-put_indent.ensures))
    c.in_ok-put_exports-in-Either.ensures c.put_bones-in-Either.ensures

pub put_branches-loop-count-preserved : goal.put_branches-loop-count-preserved
put_branches-loop-count-preserved t c =
    let inv = c.loop-count.invariant in
    let front : c.split_at.result.0.now ≡ take c.from.result c.loop-count.left.now =
    c.split_at.ensures.front ∙ ap (λ (n : ℕ). take n c.loop-count.left.now) c.min.ensures ∙ take_min c.from.result c.loop-count.left.now in
    let back : c.split_at.result.1.now ≡ drop c.from.result c.loop-count.left.now =
    c.split_at.ensures.back ∙ ap (λ (n : ℕ). drop n c.loop-count.left.now) c.min.ensures ∙ drop_min c.from.result c.loop-count.left.now in
    let up : c.args.level + 1 ≡ suc c.args.level = omega arith in
    let few : length c.split_at.result.0.now ≤ length c.args.bones.now = omega (arith, c.split_at.ensures.front_len, c.min.ensures, inv.few) in record {
      text = λ (size : ℕ) (most : length c.args.bones.now ≤ size).
          let text = bones_text c.args.hooks.now c.args.vars.now size (suc c.args.level) in
          let turn : c.put_bones.new.out.items ≡ (c.loop-count.out.items ++ (if c.loop-count.is_first then [] else or_line c.args.level)) ++ text (take c.from.result c.loop-count.left.now) =
          c.in_ok-put_bones.ensures size (omega (arith, few, most))
          ∙ ap (λ (n : ℕ). c.put_between.new.out.items ++ bones_text c.args.hooks.now c.args.vars.now size n c.split_at.result.0.now) up
          ∙ ap (λ (xs : List ℕ). xs ++ text c.split_at.result.0.now) c.in_ok-put_between.ensures
          ∙ ap (λ (bones : List Bone). (c.loop-count.out.items ++ (if c.loop-count.is_first then [] else or_line c.args.level)) ++ text bones) front in
          let on = branch_turn text (or_line c.args.level) c.loop-count.is_first c.loop-count.count-index c.from.result c.args.counts.now c.loop-count.left.now
          c.loop-count.out.items c.put_bones.new.out.items _ c.loop-count-test.true c.from.ensures turn (inv.text size most) in
          ap (λ (bones : List Bone). c.put_bones.new.out.items ++ more_branches text (or_line c.args.level) false (drop (c.loop-count.count-index + 1) c.args.counts.now) bones) back ∙ on;
      later = ap (λ (bones : List Bone). drop (sum (drop (c.loop-count.count-index + 1) c.args.counts.now)) bones) back
          ∙ left_turn c.loop-count.count-index c.from.result c.args.counts.now c.loop-count.left.now _ c.loop-count-test.true c.from.ensures inv.later;
      few = omega (arith, ap length back, length-drop c.from.result c.loop-count.left.now, inv.few);
    }

pub put_branches-returns-clause-text : goal.put_branches-returns-clause-text
put_branches-returns-clause-text t c =
    let none = drop_of_length-le c.args.counts.now c.loop-count-test.false in
    λ (size : ℕ) (most : length c.args.bones.now ≤ size).
    sym (append-nil c.loop-count.out.items)
    ∙ ap (λ (xs : List ℕ). c.loop-count.out.items ++ xs) (sym (no_more (bones_text c.args.hooks.now c.args.vars.now size (suc c.args.level)) (or_line c.args.level) c.loop-count.is_first c.loop-count.left.now))
    ∙ ap (λ (counts : List ℕ). c.loop-count.out.items ++ more_branches (bones_text c.args.hooks.now c.args.vars.now size (suc c.args.level)) (or_line c.args.level) c.loop-count.is_first counts c.loop-count.left.now) (sym none)
    ∙ c.loop-count.invariant.text size most
