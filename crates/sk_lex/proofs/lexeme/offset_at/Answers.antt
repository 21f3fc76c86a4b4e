use Rattle.std.proofs.Common.{arith}
use Rattle.sk_lex.proofs.Spans.{tokens_within, at_place}
use Rattle.sk_lex.specs.Symbols.{IsWithin}
use Rattle.sk_lex.proofs.lexeme.offset_at.Goals as goal

pub returns-in-Some-clause-within : goal.returns-in-Some-clause-within
returns-in-Some-clause-within c =
    let within : IsWithin _ c.in-Some.token.now = at_place (IsWithin _) _ c.args.at _ (tokens_within _ _ c.requires) c.in-Some.ensures.lookup.3.0 c.in-Some.ensures.lookup.1 in
    omega (arith, within.some, within.ends)
