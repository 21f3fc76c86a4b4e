-- What a rule's parts say together.
use Rattle.std.proofs.Common.{◌≡◌, ℕ, ◌+◌, ◌≤◌, List, [], ◌∷◌, ◌++◌, length, Option, Some, None, Result, Ok, Err, refl, sym, ap, subst, ◌∙◌, arith, slice_get}
use Rattle.std.specs.Option.{option_or, option_map}
use Rattle.std.proofs.lemmas.List.{length-map}
use Rattle.sk_def.specs.declared.ids.Var.{Var}
use Rattle.sk_def.specs.declared.sorts.VarSort.{VarSort}
use Rattle.sk_def.specs.declared.def.Def.{Def}
use Rattle.sk_def.specs.declared.def.Rule.{Rule}
use Rattle.sk_def.specs.declared.def.Hook.{Hook}
use Rattle.sk_def.specs.declared.def.Con.{Con}
use Rattle.sk_def.specs.declared.ids.SortId.{SortId}
use Rattle.sk_def.specs.Sorts.{Sorts, define}
use Rattle.sk_walk.specs.Walks.{Walks}
use Rattle.sk_walk.proofs.Checks.{length-define}
use Rattle.sk_sort.specs.declared.error.SortError.{SortError}
use Rattle.sk_sort.specs.declared.interp.SortStop.{SortStop}
use Rattle.sk_sort.specs.declared.interp.SortInterp.{SortInterp}
use Rattle.sk_sort.specs.Interp.{sort_meaning, answers_bone}
use Rattle.sk_sort.specs.DefinedBefore.{sorts_after}
use Rattle.sk_sort.specs.Parts.{Part, PartFault, fault_at, first_failing, bone_parts, AnswersParts}
use Rattle.sk_sort.specs.Rules.{nothing, header_sorts, header_checks, closing_checks, rule_parts, fault_of_rule, rule_fault}
use Rattle.sk_sort.proofs.Walked.{walked, first_failing_append, bone_stops, bone_goes, parts_go, parts_stop}

pub arguments_long : (rule : Rule) (g : Sorts) (vs : List Var) (ss : List (Option VarSort)) → g ≡ nothing rule → length (define g vs ss) ≡ length rule.vars
arguments_long rule g vs ss e = length-define g vs ss ∙ ap (λ (h : Sorts). length h) e ∙ length-map rule.vars (λ v. None)

pub header_long : (rule : Rule) (hook : Hook) (con : Con) → length (header_sorts rule hook con) ≡ length rule.vars
header_long rule hook con =
    length-define _ rule.inputs _ ∙ arguments_long rule (nothing rule) rule.terms _ refl

pub part_passes : (number : ℕ) (o : Option SortError) → option_or (option_map (fault_at number) o) None ≡ None → o ≡ None
part_passes number None h = refl
part_passes number (Some e) h = cc

module _ (d : Def) (earlier : List Rule) (rule : Rule) (hook : Hook) (con : Con)
    (hook-is : slice_get d.hooks rule.hook.0 ≡ Some hook) (con-is : slice_get d.cons rule.con.0 ≡ Some con) where
  -- the parts with the rule's hook and constructor give the rule's fault
  found : (answer : Result (Unit {0}) SortStop) →
      AnswersParts (first_failing (rule_parts d earlier rule hook con)) tt answer → AnswersParts (rule_fault d earlier rule) tt answer
  found answer p =
      let P : Option Hook → Type 0 = λ o. AnswersParts (fault_of_rule d earlier rule o (Some con)) tt answer in
      let Q : Option Con → Type 0 = λ o. AnswersParts (fault_of_rule d earlier rule (slice_get d.hooks rule.hook.0) o) tt answer in
      subst Q (sym con-is) (subst P (sym hook-is) p)

  pub header_stops : (stop : SortStop) → answers_bone 0 (header_checks earlier rule hook con) (header_sorts rule hook con) (Err stop) →
      AnswersParts {A = Unit {0}} (rule_fault d earlier rule) tt (Err stop)
  header_stops stop p = found (Err stop) (bone_stops {A = Unit {0}} 0 (header_checks earlier rule hook con) (header_sorts rule hook con) _ tt stop p)

  module _ (start : Sorts) (header : answers_bone 0 (header_checks earlier rule hook con) (header_sorts rule hook con) (Ok start))
      (s t : SortInterp) (reads : s.def.now ≡ d) (own : s.own ≡ con.sort) where
    -- the bones' verdict, from the header's sorts
    bones : (answer : Result Sorts SortStop) → Walks sort_meaning 1 rule.bones s start t answer →
        AnswersParts (first_failing (bone_parts d con.sort (length rule.bones) 1 (header_sorts rule hook con) rule.bones))
        (sorts_after d (length rule.bones) (header_sorts rule hook con) rule.bones) answer
    bones answer p =
        let n = length rule.bones in
        let all : n ≤ n = omega arith in
        let P : Def → Type 0 = λ x. AnswersParts (first_failing (bone_parts x s.own n 1 start rule.bones)) (sorts_after x n start rule.bones) answer in
        let Q : SortId → Type 0 = λ x. AnswersParts (first_failing (bone_parts d x n 1 start rule.bones)) (sorts_after d n start rule.bones) answer in
        let R : Sorts → Type 0 = λ g. AnswersParts (first_failing (bone_parts d con.sort n 1 g rule.bones)) (sorts_after d n g rule.bones) answer in
        subst R header.1 (subst Q own (subst P reads (walked n all p).1))

    together : (rest : List Part) (answer : Result (Unit {0}) SortStop) →
        AnswersParts (option_or (first_failing (bone_parts d con.sort (length rule.bones) 1 (header_sorts rule hook con) rule.bones)) (first_failing rest)) tt answer →
        AnswersParts (first_failing (record { number = 0; checks = header_checks earlier rule hook con } ∷
        (bone_parts d con.sort (length rule.bones) 1 (header_sorts rule hook con) rule.bones ++ rest))) tt answer
    together rest answer p =
        let P : Option PartFault → Type 0 = λ o. AnswersParts o tt answer in
        bone_goes 0 (header_checks earlier rule hook con) _ tt answer header.0
        (subst P (sym (first_failing_append (bone_parts d con.sort (length rule.bones) 1 (header_sorts rule hook con) rule.bones) rest)) p)

    pub bones_stop : (stop : SortStop) → Walks sort_meaning 1 rule.bones s start t (Err stop) → AnswersParts {A = Unit {0}} (rule_fault d earlier rule) tt (Err stop)
    bones_stop stop p =
        let g = sorts_after d (length rule.bones) (header_sorts rule hook con) rule.bones in
        found (Err stop) (together (record { number = length rule.bones + 1; checks = closing_checks g rule hook } ∷ []) (Err stop)
        (parts_stop {B = Unit {0}} _ _ g tt stop (bones (Err stop) p)))

    pub closing_answers : (end : Sorts) → Walks sort_meaning 1 rule.bones s start t (Ok end) → (answer : Result (Unit {0}) SortStop) →
        AnswersParts (first_failing (record { number = length rule.bones + 1; checks = closing_checks end rule hook } ∷ [])) tt answer →
        AnswersParts (rule_fault d earlier rule) tt answer
    closing_answers end p answer q =
        let b = bones (Ok end) p in
        let g = sorts_after d (length rule.bones) (header_sorts rule hook con) rule.bones in
        let P : Sorts → Type 0 = λ h. AnswersParts (first_failing (record { number = length rule.bones + 1; checks = closing_checks h rule hook } ∷ [])) tt answer in
        found answer (together (record { number = length rule.bones + 1; checks = closing_checks g rule hook } ∷ []) answer
        (parts_go _ _ tt answer b.0 (subst P b.1 q)))
