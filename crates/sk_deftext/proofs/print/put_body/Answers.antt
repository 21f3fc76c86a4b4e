use Rattle.std.proofs.Common.{rules}
use Rattle.sk_deftext.proofs.print.put_body.Goals as goal

pub returns : goal.returns
returns c = search rules
