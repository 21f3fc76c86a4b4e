use Rattle.std.proofs.Common.{◌≡◌, ◌++◌, drop}
use Rattle.std.specs.List.{flat_map}
use Rattle.sk_constr.specs.Texts.{key_text}
use Rattle.sk_constr.proofs.print.put_keys.Given as goal

abbrev pub invariant-loop-key : goal.invariant-loop-key
invariant-loop-key l = l.out.items ++ flat_map (key_text l.def l.names) (drop l.key-index l.keys) ≡ l.fn.out.items ++ flat_map (key_text l.def l.names) l.keys
