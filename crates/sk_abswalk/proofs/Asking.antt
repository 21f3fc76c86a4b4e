-- A walk under answers to calls is that under the answers of keys, where these agree.
use Rattle.std.proofs.Common.{◌≡◌, Bool, ℤ, true, List, [], ◌∷◌, map, Option, Some, None, Ok, IsSome, refl, sym, ◌∙◌, ap, subst}
use Rattle.std.specs.List.{AllByRecursion}
use Rattle.sk_def.specs.declared.def.Def.{Def}
use Rattle.sk_sort.specs.Definition.{IsWellSorted}
use Rattle.sk_term.specs.Program.{Program, IsProgramOf}
use Rattle.sk_deriv.specs.Moves.{setting_of}
use Rattle.sk_lattice.specs.Domain.{Domain}
use Rattle.sk_lattice.specs.Laws.{TupleLaws}
use Rattle.sk_absfilter.specs.Abstract.{Outcome}
use Rattle.sk_table.specs.declared.triple.Cover.{Cover}
use Rattle.sk_rounds.specs.Walks.{Inputs, Call, Walks, FitAnswers}
use Rattle.sk_rounds.specs.Accepted.{AskLaws}
use Rattle.sk_rounds.specs.Accepted as rounds
use Rattle.sk_rounds.proofs.Lists.{all_more}
use Rattle.sk_abswalk.specs.Walk.{Flows, Ends, uncovered, ill, with, Walk, Answers, abstract_walk}
use Rattle.sk_abswalk.specs.Order.{WalksAgree, WalksAreProper}
use Rattle.sk_abswalk.specs.Fits.{WalksFit}
use Rattle.sk_abswalk.specs.Reading.{Key, call_with, key_of, keyed, by_key, outcome_of, walk_of_key, walks_of, asked_end, asks_of}
use Rattle.sk_abswalk.proofs.Settled.{Settles, walk_settled}
use Rattle.sk_abswalk.proofs.WalkLaws.{GetsTo, gets_to}

pub all_mapped : {A B : Type 0} (P : B → Type 0) (f : A → B) (xs : List A) → AllByRecursion (λ x. P (f x)) xs → AllByRecursion P (map f xs)
all_mapped P f [] h = tt
all_mapped P f (x ∷ xs) h = (h.0, all_mapped P f xs h.1)

mapped_all : {A B : Type 0} (P : B → Type 0) (f : A → B) (xs : List A) → AllByRecursion P (map f xs) → AllByRecursion (λ x. P (f x)) xs
mapped_all P f [] h = tt
mapped_all P f (x ∷ xs) h = (h.0, mapped_all P f xs h.1)

module _ (D : Type 0) (d : Domain D) (tuples : TupleLaws d) (fit : WalksFit d) (proper : WalksAreProper d) (agree : WalksAgree d) (def : Def) (program : Program) (sorted : IsWellSorted def) (is_program : IsProgramOf def program) (finite : Bool) (marks : List ℤ) (covers : List (Cover D)) where
  abbrev w : Walks Key (Flows D)
  w = walks_of d finite marks (setting_of def program) covers

  -- answers to calls, seen by call
  abbrev at_call : rounds.Answers Key (Flows D) → Answers D
  at_call answers c = answers (key_of c) c.ins

  module _ (answers : rounds.Answers Key (Flows D)) (own : Key → Outcome D) (k : Key) (a : Flows D) (own_fit : FitAnswers w own) (f : w.fits k Inputs a ≡ true) where
    abbrev this : Walk D (Flows D)
    this = walk_of_key d (setting_of def program) own k a

    abbrev other : Walk D (Flows D)
    other = abstract_walk d (at_call answers) (setting_of def program) (call_with k a)

    ended : (ends : Ends D (Flows D)) → GetsTo ends → asked_end (record { key = k; args = a }) ends ≡ Ok (outcome_of ends)
    ended (uncovered c) t = cc
    ended ill t = cc
    ended (with o) t = refl

    goes : AllByRecursion (λ (c : Call Key (Flows D)). answers c.key c.args ≡ Some (own c.key)) (map keyed this.asked) → asks_of d (setting_of def program) answers k a ≡ Ok (outcome_of this.ends)
    goes h =
        let same : other ≡ this = agree (setting_of def program) (by_key own) (at_call answers) (call_with k a) (mapped_all _ keyed this.asked h) in
        ap (λ (v : Walk D (Flows D)). asked_end (record { key = k; args = a }) v.ends) same ∙ ended this.ends (gets_to D d tuples fit proper def program sorted is_program finite marks covers own own_fit k a f)

    answered : (gives : Outcome D) (ends : Ends D (Flows D)) → Settles (at_call answers) other.asked ends → asked_end (record { key = k; args = a }) ends ≡ Ok gives → AllByRecursion (λ c. IsSome (at_call answers c)) other.asked
    answered gives (uncovered c) h e = cc
    answered gives ill h e = cc
    answered gives (with o) h e = h

    some_same : ((j : Key) (b : Flows D) (side : Outcome D) → answers j b ≡ Some side → side ≡ own j) → (c : Cover D) → IsSome (at_call answers c) → by_key own c ≡ at_call answers c
    some_same from_own c h = at (at_call answers c) refl h
      where
        at : (o : Option (Outcome D)) → at_call answers c ≡ o → IsSome o → by_key own c ≡ at_call answers c
        at None e h = cc
        at (Some side) e h = ap Some (sym (from_own (key_of c) c.ins side e)) ∙ sym e

    went : (gives : Outcome D) → ((j : Key) (b : Flows D) (side : Outcome D) → answers j b ≡ Some side → side ≡ own j) → asks_of d (setting_of def program) answers k a ≡ Ok gives → AllByRecursion (λ (c : Call Key (Flows D)). IsSome (answers c.key c.args)) (map keyed this.asked)
    went gives from_own e =
        let all = answered gives other.ends (walk_settled D (at_call answers) d (setting_of def program) (call_with k a)) e in
        let same : this ≡ other = agree (setting_of def program) (at_call answers) (by_key own) (call_with k a) (all_more _ _ (some_same from_own) other.asked all) in
        all_mapped (λ (c : Call Key (Flows D)). IsSome (answers c.key c.args)) keyed this.asked (subst (λ (v : Walk D (Flows D)). AllByRecursion (λ c. IsSome (at_call answers c)) v.asked) (sym same) all)

  pub ask_laws : AskLaws w (asks_of d (setting_of def program))
  ask_laws =
      record {
        goes = λ answers own k a own_fit f h. goes answers own k a own_fit f h;
        went = λ answers own k a gives own_fit f from_own e. went answers own k a own_fit f gives from_own e;
      }
