-- How the interpretation that answers from a table reads rules.
use Rattle.std.specs.Prelude.{refl}
use Rattle.sk_walk.specs.Walks.{Meaning}
use Rattle.sk_lattice.specs.Domain.{Domain}
use Rattle.sk_abswalk.specs.declared.from_table.FromTable.{FromTable}
use Rattle.sk_abswalk.specs.declared.world.World.{World}
use Rattle.sk_abswalk.specs.declared.stop.Stop.{Stop}
use Rattle.sk_abswalk.specs.Tables.{table_answer}
use Rattle.sk_abswalk.specs.Meaning.{Reader, abstract_meaning}
use Rattle.sk_abswalk.specs.FromTable.{stop_of}
use Rattle.sk_abswalk.specs.Branches.{env_of}

-- it reads the table, and keeps nothing of the calls
abbrev pub table_reader : {D : Type 0} → Domain D → Reader (FromTable D) D
table_reader d = record {
  reads = λ s. record { answers = table_answer d s.table.now; names = s.names; point = s.point };
  add = λ s asked. s;
  add_nothing = λ s. refl;
  add_more = λ s asked later. refl;
  stays = λ s asked. refl;
}

abbrev pub table_meaning : {D : Type 0} → Domain D → Meaning (FromTable D) (World D) (Stop D)
table_meaning d = abstract_meaning (table_reader d) env_of stop_of d
