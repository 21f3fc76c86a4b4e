use Rattle.std.proofs.Common.{◌≡◌, ◌++◌, drop}
use Rattle.std.specs.Prelude.{flat_map}
use Rattle.sk_deftext.specs.Canonical.{hook_line}
use Rattle.sk_deftext.proofs.print.put_hooks.Given as goal

abbrev pub invariant-loop-hook : goal.invariant-loop-hook
invariant-loop-hook l = l.out.items ++ flat_map (hook_line l.sorts) (drop l.hook-index l.hooks) ≡ l.fn.out.items ++ flat_map (hook_line l.sorts) l.hooks
