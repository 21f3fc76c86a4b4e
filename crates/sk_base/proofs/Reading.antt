-- Reading a file piece by piece gives its bytes.
use Rattle.std.proofs.Common.{◌≡◌, ℕ, ◌+◌, ◌-◌, ◌^◌, ◌<◌, ◌≤◌, Bool, List, [], ◌++◌, take, length, Option, None, Some, Ok, IfSome, sym, ap, ◌∙◌, arith, append_assoc, append-nil, length-append, length-take}
use Rattle.std.specs.Io.KnownBytes.{Consumes, IsAtEnd}
use Rattle.sk_base.specs.Causes.{NeverFalls}
use Rattle.sk_base.specs.Files.{Folder, Selection, Selects, Pulls, turn_after, progress_of, read_once}
use Rattle.sk_base.specs.declared.errors.Failed.{Failed}
use Rattle.sk_base.proofs.Writing.{never_falls-trans}

-- one more file was selected and gave so many bytes
pub is_read_once : (was now : Selection) (given : ℕ) → now.turns ≡ turn_after was.turns → now.given ≡ given → progress_of now ≡ read_once (progress_of was) given
is_read_once was now given turns gave = λ i. record { turns = turns i; given = gave i }

-- so far the file gave these bytes
pub record ReadsOn (told : Option (List ℕ)) (steady : Bool) (now : Selection) (limit before after : ℕ) (bytes : List ℕ) : Type 0 where
  pub consumed : Consumes told now.left bytes
  pub steady_is : now.steady ≡ steady
  pub given : now.given ≡ length bytes
  pub within : length bytes ≤ limit
  pub count : NeverFalls before after

consumes_none : (told left : Option (List ℕ)) → left ≡ told → Consumes told left []
consumes_none None left is = tt
consumes_none (Some bytes) None is = absurd (cc)
consumes_none (Some bytes) (Some rest) is = cc

pub Consumes-trans : (a b c : Option (List ℕ)) (bs cs : List ℕ) → Consumes a b bs → Consumes b c cs → Consumes a c (bs ++ cs)
Consumes-trans None b c bs cs p q = tt
Consumes-trans (Some x) None c bs cs p q = absurd p
Consumes-trans (Some x) (Some y) None bs cs p q = absurd q
Consumes-trans (Some x) (Some y) (Some z) bs cs p q = p ∙ ap (λ l. bs ++ l) q ∙ sym (append_assoc bs cs z)

consumes_longer : (told left : Option (List ℕ)) (bytes : List ℕ) (limit : ℕ) → Consumes told left bytes → limit < length bytes → IfSome told (λ all. limit < length all)
consumes_longer None left bytes limit p h = tt
consumes_longer (Some all) None bytes limit p h = absurd p
consumes_longer (Some all) (Some rest) bytes limit p h = omega (arith, ap length p, length-append bytes rest)

consumes_whole : (told left : Option (List ℕ)) (bytes : List ℕ) → Consumes told left bytes → IsAtEnd left → IfSome told (λ all. bytes ≡ all)
consumes_whole None left bytes p end = tt
consumes_whole (Some all) None bytes p end = absurd p
consumes_whole (Some all) (Some rest) bytes p end = sym (p ∙ ap (λ l. bytes ++ l) end ∙ append-nil bytes)

module _ (told : Option (List ℕ)) (steady : Bool) (limit before : ℕ) (fits : limit < 2 ^ 32 - 1) where
  pub reads_first : (folder : Folder) (name : List ℕ) (old now : Selection) (after : ℕ) → Selects {T = Unit {0}} {E = Failed} folder name old now (Ok tt) → told ≡ folder.told name → steady ≡ folder.steady name
      → NeverFalls before after → ReadsOn told steady now limit before after []
  reads_first folder name old now after begun told_is steady_is count = record {
    consumed = consumes_none told now.left (begun.begun.0 ∙ sym told_is);
    steady_is = begun.begun.1 ∙ sym steady_is;
    given = begun.given;
    within = omega arith;
    count = count;
  }

  module _ (old now : Selection) (after last : ℕ) (bytes room : List ℕ) (count : ℕ) (so_far : ReadsOn told steady old limit before after bytes)
      (pulled : Pulls {E = Failed} old now room (Ok count)) (few : length room ≤ limit + 1 - length bytes) where
    given_more : now.given ≡ length bytes + count
    given_more = let given = pulled.given in let is = so_far.given in let within = so_far.within in let bound = pulled.within in omega arith

    taken_length : length (take count room) ≡ count
    taken_length = let bound = pulled.within in simp length-take (omega arith)

    consumed_more : Consumes told now.left (bytes ++ take count room)
    consumed_more = Consumes-trans told old.left now.left bytes (take count room) so_far.consumed pulled.bytes.0

    -- more bytes came
    pub reads_more : length bytes + count ≤ limit → NeverFalls after last → ReadsOn told steady now limit before last (bytes ++ take count room)
    reads_more le cause = record {
      consumed = consumed_more;
      steady_is = pulled.steady ∙ so_far.steady_is;
      given = given_more ∙ sym (length-append bytes (take count room) ∙ ap (λ n. length bytes + n) taken_length);
      within = simp length-append (omega (arith, taken_length));
      count = never_falls-trans before after last so_far.count cause;
    }

    -- one byte more than the limit came
    pub gave_too_much : limit < length bytes + count → now.given ≡ limit + 1
    gave_too_much more = let bound = pulled.within in omega (arith, given_more)

    pub is_longer : limit < length bytes + count → IfSome told (λ all. limit < length all)
    is_longer more = consumes_longer told now.left (bytes ++ take count room) limit consumed_more (simp length-append (omega (arith, taken_length)))
