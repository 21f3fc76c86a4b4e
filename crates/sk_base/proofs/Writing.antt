-- Putting bytes piece by piece does what putting them at once would do.
use Rattle.std.proofs.Common.{◌≡◌, ℕ, ◌+◌, ◌-◌, ◌≤◌, List, [], ◌++◌, length, Option, None, Some, Result, Ok, Err, IsErr, IfSome, refl, sym, ap, ◌∙◌, subst, arith, take, drop, take-append-drop, append_assoc, append-nil, length-append}
use Rattle.std.specs.Io.KnownBytes.{Appends, Keeps}
use Rattle.sk_base.specs.Causes.{NeverFalls, HasCause}
use Rattle.sk_base.specs.declared.errors.Failed.{Failed}
use Rattle.sk_base.specs.Sink.{PutAppends, PutFits, AppendsPrefix}

pub never_falls-trans : (a b c : ℕ) → NeverFalls a b → NeverFalls b c → NeverFalls a c
never_falls-trans a b c p q = record { later = omega arith; stays = λ h. q.stays (p.stays h) }

-- so far the sink took the front of the bytes, and the rest is to come
pub record WritesOn (old now : Option (List ℕ)) (old_room room : Option ℕ) (before after : ℕ) (bytes rest : List ℕ) : Type 0 where
  pub front : List ℕ
  pub parts : bytes ≡ front ++ rest
  pub appended : Appends old now front
  pub fits : IfSome old_room (λ told. length bytes ≤ told → room ≡ Some (told - length front))
  pub count : NeverFalls before after

pub Appends-nil : (told : Option (List ℕ)) → Appends told told []
Appends-nil None = tt
Appends-nil (Some bs) = sym (append-nil bs)

pub Appends-trans : (a b c : Option (List ℕ)) (bs cs : List ℕ) → Appends a b bs → Appends b c cs → Appends a c (bs ++ cs)
Appends-trans None b c bs cs p q = tt
Appends-trans (Some x) None c bs cs p q = absurd p
Appends-trans (Some x) (Some y) None bs cs p q = absurd q
Appends-trans (Some x) (Some y) (Some z) bs cs p q = q ∙ ap (λ l. l ++ cs) p ∙ append_assoc x bs cs

fits_first : (room : Option ℕ) (bytes : List ℕ) → IfSome room (λ told. length bytes ≤ told → room ≡ Some (told - length {A = ℕ} []))
fits_first None bytes = tt
fits_first (Some told) bytes = λ h. ap Some (omega arith)

pub writes_first : (told : Option (List ℕ)) (room : Option ℕ) (count : ℕ) (bytes : List ℕ) → WritesOn told told room room count count bytes bytes
writes_first told room count bytes = record {
  front = [];
  parts = refl;
  appended = Appends-nil told;
  fits = fits_first room bytes;
  count = record { later = omega arith; stays = λ h. h };
}

fits_more : (first room next : Option ℕ) (total done count : ℕ) (piece : ℕ) → IfSome first (λ told. total ≤ told → room ≡ Some (told - done)) → done + piece ≤ total
    → PutFits {T = Unit {0}} {E = Failed} room next (Ok tt) piece → count ≡ done + piece → IfSome first (λ told. total ≤ told → next ≡ Some (told - count))
fits_more None room next total done count piece h le fits is = tt
fits_more (Some told) room next total done count piece h le fits is =
    λ room_is. let fit = subst (λ r. PutFits {T = Unit {0}} {E = Failed} r next (Ok tt) piece) (h room_is) fits in
    (fit (omega arith)).1 ∙ ap Some (omega arith)

module _ (old now next : Option (List ℕ)) (old_room room next_room : Option ℕ) (before after last : ℕ) (bytes rest piece others : List ℕ) where
  -- one more piece was put
  pub writes_more : WritesOn old now old_room room before after bytes rest → rest ≡ piece ++ others → Appends now next piece
      → PutFits {T = Unit {0}} {E = Failed} room next_room (Ok tt) (length piece) → HasCause {T = Unit {0}} {E = Failed} after last (Ok tt) → WritesOn old next old_room next_room before last bytes others
  writes_more so_far is put fits cause =
      let parts : bytes ≡ (so_far.front ++ piece) ++ others = so_far.parts ∙ ap (λ l. so_far.front ++ l) is ∙ sym (append_assoc so_far.front piece others) in
      let total : length bytes ≡ (length so_far.front + length piece) + length others = ap length parts ∙ simp length-append in
      record {
        front = so_far.front ++ piece;
        parts = parts;
        appended = Appends-trans old now next so_far.front piece so_far.appended put;
        fits = fits_more old_room room next_room (length bytes) (length so_far.front) (length (so_far.front ++ piece)) (length piece) so_far.fits (omega arith) fits (length-append so_far.front piece);
        count = never_falls-trans before after last so_far.count cause.count;
      }

-- the piece failed
pub writes_prefix : (old now next : Option (List ℕ)) (old_room room : Option ℕ) (before after : ℕ) (bytes rest piece others : List ℕ)
    → WritesOn old now old_room room before after bytes rest → rest ≡ piece ++ others → AppendsPrefix now next piece → AppendsPrefix old next bytes
writes_prefix old now next old_room room before after bytes rest piece others so_far is put = record {
  kept = so_far.front ++ put.kept;
  rest = put.rest ++ others;
  parts = so_far.parts ∙ ap (λ l. so_far.front ++ l) (is ∙ ap (λ l. l ++ others) put.parts ∙ append_assoc put.kept put.rest others)
      ∙ sym (append_assoc so_far.front put.kept (put.rest ++ others));
  appended = Appends-trans old now next so_far.front put.kept so_far.appended put.appended;
}

pub put_failed : {T E : Type 0} (old now : Option (List ℕ)) (result : Result T E) (bytes : List ℕ) → IsErr result → AppendsPrefix old now bytes → PutAppends old now result bytes
put_failed old now (Ok x) bytes is prefix = absurd (cc)
put_failed old now (Err e) bytes is prefix = prefix

pub prefix_taken : (old now : List ℕ) (count : ℕ) (bytes : List ℕ) → now ≡ old ++ take count bytes → AppendsPrefix (Some old) (Some now) bytes
prefix_taken old now count bytes is = record {
  kept = take count bytes;
  rest = drop count bytes;
  parts = sym (take-append-drop count bytes);
  appended = is;
}

-- so far a writer took the front of the bytes, and the rest is to come
pub record WritesFront (old now : Option (List ℕ)) (bytes rest : List ℕ) : Type 0 where
  pub front : List ℕ
  pub parts : bytes ≡ front ++ rest
  pub appended : Appends old now front

keeps_nothing : (old now : Option (List ℕ)) → Keeps old now → Appends old now []
keeps_nothing None now h = tt
keeps_nothing (Some xs) None h = absurd h
keeps_nothing (Some xs) (Some ys) h = h ∙ sym (append-nil xs)

pub front_first : (told : Option (List ℕ)) (bytes : List ℕ) → WritesFront told told bytes bytes
front_first told bytes = record { front = []; parts = refl; appended = Appends-nil told }

-- it took some more
pub front_more : (old now next : Option (List ℕ)) (bytes rest piece others : List ℕ) → WritesFront old now bytes rest → rest ≡ piece ++ others
    → Appends now next piece → WritesFront old next bytes others
front_more old now next bytes rest piece others so_far is took = record {
  front = so_far.front ++ piece;
  parts = so_far.parts ∙ ap (λ l. so_far.front ++ l) is ∙ sym (append_assoc so_far.front piece others);
  appended = Appends-trans old now next so_far.front piece so_far.appended took;
}

-- it took nothing more
pub front_failed : (old now next : Option (List ℕ)) (bytes rest : List ℕ) → WritesFront old now bytes rest → Appends now next [] → AppendsPrefix old next bytes
front_failed old now next bytes rest so_far nothing = record {
  kept = so_far.front ++ [];
  rest = rest;
  parts = so_far.parts ∙ ap (λ l. l ++ rest) (sym (append-nil so_far.front));
  appended = Appends-trans old now next so_far.front [] so_far.appended nothing;
}

pub front_flush_failed : (old now next : Option (List ℕ)) (bytes rest : List ℕ) → WritesFront old now bytes rest → Keeps now next → AppendsPrefix old next bytes
front_flush_failed old now next bytes rest so_far keeps = front_failed old now next bytes rest so_far (keeps_nothing now next keeps)

-- it took all
pub front_whole : (old now next : Option (List ℕ)) (bytes rest : List ℕ) → WritesFront old now bytes rest → rest ≡ [] → Keeps now next → Appends old next bytes
front_whole old now next bytes rest so_far none keeps =
    let P : List ℕ → Type 0 = λ l. Appends old next l in
    subst P (sym (so_far.parts ∙ ap (λ l. so_far.front ++ l) none)) (Appends-trans old now next so_far.front [] so_far.appended (keeps_nothing now next keeps))
