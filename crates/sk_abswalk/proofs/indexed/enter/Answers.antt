use Rattle.std.proofs.Common.{rules, ◌<◌, map, length, ap, ◌∙◌, arith}
use Rattle.std.proofs.lemmas.List.{map-append}
use Rattle.sk_abswalk.proofs.KeyIndex.{pushed}
use Rattle.sk_abswalk.proofs.indexed.enter.Goals as goal

pub returns-in_ok-push : goal.returns-in_ok-push
returns-in_ok-push g c = λ table old.
    let hook : c.args.triple.now.hook.0 < c.args.hooks = search (rules, arith) in
    let within : c.slot_of-slot.result < length c.args.slots.now.items = search (rules, arith) in
    pushed (λ slot. map (λ triple. triple.now) slot.items) c.args.hooks c.args.slots.now.items table old c.slot_of-slot.result c.index_mut.result.now within c.index_mut.ensures.value
    c.args.triple.now c.push.new.self hook c.slot_of-slot.ensures (ap (map (λ triple. triple.now)) c.in_ok-push.ensures.items ∙ map-append _ _ _)
