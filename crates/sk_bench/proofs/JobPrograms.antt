-- The program of a job is the one that its nodes and names make.
use Rattle.std.proofs.Common.{◌≡◌, List, [], ◌∷◌, length, map, Option, Some, refl, ap, sym, ◌∙◌}
use Rattle.std.specs.List.{filter_map}
use Rattle.sk_def.specs.declared.def.Def.{Def}
use Rattle.sk_term.specs.Terms.{sort_of_node}
use Rattle.sk_term.specs.Program.{Program, IsProgramOf}
use Rattle.sk_bench.specs.Jobs.{ReadJob}
use Rattle.sk_bench.specs.Accepted.{program_of}

cons_head : {A : Type 0} (x y : A) (xs ys : List A) → x ∷ xs ≡ y ∷ ys → x ≡ y
cons_head x y xs ys e = cc

cons_tail : {A : Type 0} (x y : A) (xs ys : List A) → x ∷ xs ≡ y ∷ ys → xs ≡ ys
cons_tail x y xs ys e = cc

-- what a function gives everywhere is what it gives where it gives something
pub filter_map_some : {A B : Type 0} (f : A → Option B) (xs : List A) (ys : List B) → map Some ys ≡ map f xs → ys ≡ filter_map f xs
filter_map_some f [] [] e = refl
filter_map_some f [] (y ∷ ys) e = absurd (cc)
filter_map_some f (x ∷ xs) [] e = absurd (cc)
filter_map_some f (x ∷ xs) (y ∷ ys) e =
    rw (sym (cons_head (Some y) (f x) (map Some ys) (map f xs) e)) (ap (λ rest. y ∷ rest) (filter_map_some f xs ys (cons_tail (Some y) (f x) (map Some ys) (map f xs) e)))

pub program_is : (d : Def) (program : Program) (job : ReadJob) → IsProgramOf d program → program.nodes ≡ job.nodes → program.names ≡ length job.names → program ≡ program_of d job
program_is d program job is nodes names =
    let sorts : program.sorts ≡ filter_map (sort_of_node d) program.nodes = filter_map_some (sort_of_node d) program.nodes program.sorts is.sorts_are in
    λ i. record { nodes = nodes i; sorts = (sorts ∙ ap (filter_map (sort_of_node d)) nodes) i; names = names i }
