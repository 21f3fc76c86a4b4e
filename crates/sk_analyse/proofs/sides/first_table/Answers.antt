use Rattle.std.proofs.Common.{◌≡◌, ◌*◌, length, map, replicate, None, ◌∙◌, ap, ap₂}
use Rattle.std.proofs.lemmas.List.{length-replicate}
use Rattle.sk_def.specs.declared.def.Def.{Def}
use Rattle.sk_deriv.specs.Moves.{setting_of}
use Rattle.sk_rounds.specs.Rounds.{side_join, join_calls, first_table}
use Rattle.sk_abswalk.specs.Reading.{keyed, walks_of}
use Rattle.sk_analyse.specs.Tabled.{tabled, HasAllSlots}
use Rattle.sk_analyse.specs.Sides.{side_of}
use Rattle.sk_analyse.proofs.Starting.{can_start, first_is}
use Rattle.sk_analyse.proofs.sides.first_table.Goals as goal

pub hear_all-requires : goal.hear_all-requires
hear_all-requires g c =
    let def = c.args.checked.now in
    let program = c.args.arena.now in
    let covers = c.args.covers.now in
    let sorted = c.def.ensures.sorted.well_sorted in
    let hooks : c.len-hooks.result ≡ length def.hooks = c.len-hooks.ensures ∙ ap (λ (d : Def). length d.hooks) c.def.ensures.is in
    let laws = c.readings_are_walks.ensures def program covers c.args.marks.now sorted c.requires.program c.increase.ensures c.requires.covers in
    can_start _ g.D.NumDom.domain (setting_of def program) g.D.NumDom.FINITE c.args.marks.now covers laws c.requires.covers sorted.fits.few_hooks
    c.in_ok-ins.ins.hooks c.in_ok-ins.ins.slots (c.in_ok-ins.ensures.0 ∙ hooks)
    (c.in_ok-ins.ensures.1 ∙ ap₂ (λ h p. replicate (h * p) None) hooks c.count-points.ensures.count)

table_is : (g : _) (c : goal.In_ok-outs g) → tabled (record { ins = c.hear_all.new.self; outs = c.in_ok-outs.outs }) ≡ first_table (walks_of g.D.NumDom.domain g.D.NumDom.FINITE c.args.marks.now (setting_of c.args.checked.now c.args.arena.now) c.args.covers.now)
table_is g c =
    let s = setting_of c.args.checked.now c.args.arena.now in
    let covers = c.args.covers.now in
    let walks = walks_of g.D.NumDom.domain g.D.NumDom.FINITE c.args.marks.now s covers in
    first_is _ g.D.NumDom.domain s g.D.NumDom.FINITE c.args.marks.now covers (record { ins = c.hear_all.new.self; outs = c.in_ok-outs.outs }) c.in_ok-ins.ins.hooks (c.len-hooks.result * c.count-points.result)
    (λ k. c.in_ok-hear_all.ensures.heard g.D.NumDom.FINITE c.args.marks.now s covers k ∙ ap (λ l. side_join walks (side_of c.in_ok-ins.ins.hooks l k) (join_calls walks k (map keyed covers))) c.in_ok-ins.ensures.1)
    (c.len-hooks.result * c.count-points.result) c.in_ok-outs.ensures.1

slots_are : (g : _) (c : goal.In_ok-outs g) → HasAllSlots (setting_of c.args.checked.now c.args.arena.now) (record { ins = c.hear_all.new.self; outs = c.in_ok-outs.outs })
slots_are g c =
    let hooks : c.len-hooks.result ≡ length c.args.checked.now.hooks = c.len-hooks.ensures ∙ ap (λ (d : Def). length d.hooks) c.def.ensures.is in
    let sizes : c.len-hooks.result * c.count-points.result ≡ length c.args.checked.now.hooks * length c.args.arena.now.nodes = ap₂ (λ h p. h * p) hooks c.count-points.ensures.count in
    record {
      ins_hooks = c.in_ok-hear_all.ensures.hooks ∙ c.in_ok-ins.ensures.0 ∙ hooks;
      outs_hooks = c.in_ok-outs.ensures.0 ∙ hooks;
      ins_size = c.in_ok-hear_all.ensures.size ∙ ap length c.in_ok-ins.ensures.1 ∙ length-replicate (c.len-hooks.result * c.count-points.result) None ∙ sizes;
      outs_size = ap length c.in_ok-outs.ensures.1 ∙ length-replicate (c.len-hooks.result * c.count-points.result) None ∙ sizes;
    }

pub returns : goal.returns
returns g c = record { slots = slots_are g c; table = table_is g c }
