use Rattle.std.proofs.Common.{◌≡◌, map, take}
use Rattle.sk_lex.specs.Symbols.{place_in}
use Rattle.sk_deftext.specs.Places.{Stands}
use Rattle.sk_deftext.proofs.places.places_of.Given as goal

abbrev pub invariant-loop-number : goal.invariant-loop-number
invariant-loop-number l = record {
  stands : Stands l.text l.cursor.at l.cursor.place;
  so_far : l.places ≡ map (place_in l.text l.tokens) (take l.number-index l.numbers);
}
