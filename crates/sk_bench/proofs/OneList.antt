-- A program has one list of constraints.
use Rattle.std.proofs.Common.{◌≡◌, sym, ◌∙◌}
use Rattle.sk_constr.specs.declared.constraint_list.ConstraintList.{ConstraintList}
use Rattle.sk_constr.specs.Keys.{lines_of_key}
use Rattle.sk_bench.specs.Surveys.{Survey, AreConstraintsIn}
use Rattle.sk_bench.proofs.JobPrograms.{filter_map_some}

pub one_list : {D : Type 0} (survey : Survey D) (list other : ConstraintList D) → AreConstraintsIn survey list → AreConstraintsIn survey other → list ≡ other
one_list {D} survey list other is are =
    let names = is.names_are ∙ sym are.names_are in
    let covers = is.covers_are ∙ sym are.covers_are in
    let keys = filter_map_some (lines_of_key survey.def survey.job.nodes) _ list.keys is.keys_are ∙ sym (filter_map_some (lines_of_key survey.def survey.job.nodes) _ other.keys are.keys_are) in
    λ i. record { names = names i; covers = covers i; keys = keys i }
