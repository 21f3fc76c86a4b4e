-- What tests tell of the words for truth values and for no outputs.
use Rattle.std.proofs.Common.{◌≡◌, ℕ, Bool, true, false, cond, List, refl, ap, ◌∙◌, Option, Some, None}
use Rattle.std.specs.Prelude.{codes}
use Rattle.std.specs.Str.{bytes_eq}
use Rattle.std.proofs.lemmas.Option.{same_Some}
use Rattle.std.proofs.lemmas.Slice.Eq.{bytes_eq-Decides}
use Rattle.sk_lex.specs.Symbols.{Symbol, Named, Plain}
use Rattle.sk_lattice.specs.Texts.{truths_text, bool_text}
use Rattle.sk_lattice.specs.declared.truth.AbsBool.{AbsBool}
use Rattle.sk_table.specs.Tuples.{truths_named, truths_of, is_none_word}

pub none_is : (symbol : Symbol) → is_none_word symbol ≡ true → symbol ≡ Named (codes "none")
none_is (Named bytes) h = ap Named ((bytes_eq-Decides bytes (codes "none")).0 h)
none_is (Plain kind) h = absurd (cc)

abbrev truth_set : Bool → Bool → AbsBool
truth_set some other = record { has_true = some; has_false = other }

text_is : (word : List ℕ) (some other : Bool) (set : AbsBool) → bytes_eq word (truths_text some other) ≡ true → Some (truth_set some other) ≡ Some set → word ≡ bool_text set
text_is word some other set e h = (bytes_eq-Decides word (truths_text some other)).0 e ∙ ap bool_text (same_Some (truth_set some other) set h)

truths_word : (word : List ℕ) (set : AbsBool) → truths_named word ≡ Some set → word ≡ bool_text set
truths_word word set h =
    by (bytes_eq word (truths_text false false)) (bytes_eq word (truths_text true false)) (bytes_eq word (truths_text false true)) (bytes_eq word (truths_text true true)) refl refl refl refl h where
      by : (a b c e : Bool) → bytes_eq word (truths_text false false) ≡ a → bytes_eq word (truths_text true false) ≡ b → bytes_eq word (truths_text false true) ≡ c →
          bytes_eq word (truths_text true true) ≡ e →
          cond {A = Option AbsBool} a (Some (truth_set false false)) (cond b (Some (truth_set true false)) (cond c (Some (truth_set false true)) (cond e (Some (truth_set true true)) None))) ≡ Some set → word ≡ bool_text set
      by true b c e f g i j k = text_is word false false set f k
      by false true c e f g i j k = text_is word true false set g k
      by false false true e f g i j k = text_is word false true set i k
      by false false false true f g i j k = text_is word true true set j k
      by false false false false f g i j k = absurd (cc)

pub truths_is : (symbol : Symbol) (set : AbsBool) → truths_of symbol ≡ Some set → symbol ≡ Named (bool_text set)
truths_is (Named bytes) set h = ap Named (truths_word bytes set h)
truths_is (Plain kind) set h = absurd (cc)
