-- A command follows its plan up to the text that it is to write, or stops for a cause.
use Rattle.std.specs.Prelude.{◌≡◌, ℕ, Result, Ok, Err}
use Rattle.sk_base.specs.Causes.{Rose}
use Rattle.sk_base.specs.Files.{Folder, Selection, progress_of}
use Rattle.sk_bench.specs.declared.status.Output.{Output}
use Rattle.sk_bench.specs.declared.status.Stop.{Stop}
use Rattle.sk_bench.specs.declared.status.Stop.TheVariants as stop
use Rattle.sk_bench.specs.Asked.{IsAnswer, Means}
use Rattle.sk_bench.specs.Plan.{Plan, Write, Read, WriteAnswer, Ended, Stops, IsShaky, GaveTooMuch, IsGivenUp}

-- why a command may stop
abbrev pub HasStopped : Folder → Selection → Selection → ℕ → ℕ → Plan → Stop → Type 0
HasStopped folder was now before after plan stop.ReadFault = Rose before after × Stops folder (IsShaky folder) now.turns was.turns plan
HasStopped folder was now before after plan stop.TooLong = Stops folder (GaveTooMuch folder now.given) now.turns was.turns plan
HasStopped folder was now before after plan stop.NoMemory = IsGivenUp folder now.turns was.turns plan

-- the text is that of the plan, over what the files gave, or the command stopped
abbrev pub Follows : Folder → Selection → Selection → ℕ → ℕ → Plan → Result Output Stop → Type 0
Follows folder was now before after plan (Ok output) = Ended folder (progress_of now) (progress_of was) plan output.ending output.text.items
Follows folder was now before after plan (Err stop) = HasStopped folder was now before after plan stop

-- without any more files, the text is that of the plan, or memory was refused
abbrev pub Prepares : Plan → Result Output Stop → Type 0
Prepares (Write ending text) (Ok output) = (output.ending ≡ ending) × (output.text.items ≡ text)
Prepares (Read name limit next) (Ok output) = ⊥
Prepares (WriteAnswer asked) (Ok output) = IsAnswer asked output.ending output.text.items × Means asked output.ending
Prepares plan (Err reason) = reason ≡ stop.NoMemory
