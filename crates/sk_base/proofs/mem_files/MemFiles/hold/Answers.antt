use Rattle.std.proofs.Common.{rules, arith}
use Rattle.std.proofs.lemmas.Grind.{common_steps}
use Rattle.sk_base.proofs.mem_files.MemFiles.hold.Goals as goal

pub returns-clause-ok : goal.returns-clause-ok
returns-clause-ok c = record {
  file = record { name = c.in_ok-from_str.field-0; bytes = c.in_ok-from_slice.field-0 };
  name_is = search rules;
  bytes_is = search rules;
  last = grind (arith, common_steps, c.push.ensures.items);
}
