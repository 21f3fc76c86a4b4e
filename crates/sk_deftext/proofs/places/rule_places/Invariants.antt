use Rattle.std.proofs.Common.{◌≡◌, map, take}
use Rattle.sk_lex.specs.Symbols.{place_in}
use Rattle.sk_deftext.specs.Places.{Stands}
use Rattle.sk_deftext.proofs.places.rule_places.Given as goal

abbrev pub invariant-loop-numbers : goal.invariant-loop-numbers
invariant-loop-numbers l = record {
  stands : Stands l.text l.cursor.at l.cursor.place;
  so_far : l.places ≡ map (map (place_in l.text l.tokens)) (take l.numbers-index l.rules);
}
