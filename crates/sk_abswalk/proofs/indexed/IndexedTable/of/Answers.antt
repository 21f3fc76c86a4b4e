use Rattle.std.proofs.Common.{rules, ◌≤◌, map, length, subst, ◌∙◌, arith}
use Rattle.std.proofs.lemmas.List.{take_all}
use Rattle.sk_abswalk.specs.Index.{IsIndex}
use Rattle.sk_abswalk.proofs.KeyIndex.{empty_index}
use Rattle.sk_abswalk.proofs.indexed.IndexedTable.of.Goals as goal

pub loop-triple-init : goal.loop-triple-init
loop-triple-init g c = empty_index _ _ _ c.in_ok-slots.ensures

pub invariant_of-result : goal.invariant_of-result
invariant_of-result g c =
    let items = c.as_slice-triple-items.result.now in
    let all : length items ≤ c.loop-triple.triple-index = search (rules, arith) in
    record {
      few_hooks = c.requires.hooks;
      indexed = subst (IsIndex c.args.hooks (map (λ slot. map (λ triple. triple.now) slot.items) c.loop-triple.slots.items)) (take_all c.loop-triple.triple-index items all ∙ c.as_slice-triple-items.ensures) c.loop-triple.invariant;
    }
